-- The first Read, and a queue that is made again, worked.
use Rattle.std.proofs.Common.{◌∷◌, [], replicate, refl, arith}
use Rattle.controller_walk.specs.{Units.moving, declared.walk.WalkState.TheVariants.{More, End}}
use Rattle.entry_codec.specs.{Submission.submission_of, Worked.first_read}
use Rattle.page_memory.specs.Memory.{bytes_at}
use Rattle.sgl_descriptor.specs.Spelling.{descriptor_of}
use Rattle.controller_core.specs.{Completing.CompletesTo, Fetching.FetchesTo, Walking.WalksTo}
use Rattle.controller_core.specs.Worked.{rung, memory_with_entry, read_begun, read_halfway, read_walked, with_read_begun, with_read_halfway, with_read_walked, with_read_completed, memory_with_data, memory_with_completion, create_cq, create_sq, memory_with_creations, without_queue, with_completion_made, with_queue_made}

-- The first Read, worked.

pub first_fetch : FetchesTo rung 8 memory_with_entry [] 1 0 with_read_begun memory_with_entry (2 ∷ [])
unfolding bytes_at submission_of
first_fetch = record {
  entry = first_read;
  looked = 2 ∷ [];
  looks = record { controller = _; here = refl; rung = λ e. absurd (omega arith); at = refl; touches = refl };
  named = refl;
  room = refl;
  takes = (
    record {
      job = read_begun;
      is = record { entry = refl; blocks = refl; verdict = refl; bytes = refl; walk = λ m. refl; left = omega arith };
      leaves = refl;
    },
    refl,
    refl,
  );
}

pub first_unit : WalksTo with_read_begun 1 0 memory_with_entry (2 ∷ []) More with_read_halfway memory_with_entry (2 ∷ [])
unfolding bytes_at descriptor_of moving
first_unit = record {
  among = record {
    place = 0;
    command = _;
    job = read_begun;
    job' = read_halfway;
    found = refl;
    at = refl;
    work = refl;
    going = refl;
    unit = record { does = ((refl, refl), refl); leaves = (refl, refl); verdict = refl; entry = refl; blocks = refl; fewer = omega arith };
    leaves = refl;
  };
  queues = refl;
  image = refl;
}

pub second_unit : WalksTo with_read_halfway 1 0 memory_with_entry (2 ∷ []) End with_read_walked memory_with_data (2 ∷ 4 ∷ [])
unfolding bytes_at moving
second_unit = record {
  among = record {
    place = 0;
    command = _;
    job = read_halfway;
    job' = read_walked;
    found = refl;
    at = refl;
    work = refl;
    going = refl;
    unit = record { does = (((replicate 512 0, refl, refl), refl), refl); leaves = (refl, tt); verdict = refl; entry = refl; blocks = refl; fewer = omega arith };
    leaves = refl;
  };
  queues = refl;
  image = refl;
}

pub first_completion : CompletesTo with_read_walked 1 0 memory_with_data (2 ∷ 4 ∷ []) with_read_completed memory_with_completion (2 ∷ 4 ∷ 3 ∷ [])
first_completion = record { command = _; queue = _; found = refl; here = refl; leaves = refl; as_long = refl; typed = record { dw0 = omega arith; sqhd = omega arith; sqid = omega arith; cid = omega arith; sc = omega arith }; memory = refl; touches = refl }

-- A queue that is made again, worked.

pub completion_fetched : FetchesTo without_queue 8 memory_with_creations [] 0 0 with_completion_made memory_with_creations (0 ∷ [])
unfolding bytes_at submission_of
completion_fetched = record {
  entry = create_cq;
  looked = 0 ∷ [];
  looks = record { controller = _; here = refl; rung = λ e. absurd (omega arith); at = refl; touches = refl };
  named = refl;
  room = refl;
  takes = (refl, refl, refl);
}

pub submission_fetched : FetchesTo with_completion_made 8 memory_with_creations (0 ∷ []) 0 1 with_queue_made memory_with_creations (0 ∷ 0 ∷ [])
unfolding bytes_at submission_of
submission_fetched = record {
  entry = create_sq;
  looked = 0 ∷ 0 ∷ [];
  looks = record { controller = _; here = refl; rung = λ e. absurd (omega arith); at = refl; touches = refl };
  named = refl;
  room = refl;
  takes = (refl, refl, refl);
}
