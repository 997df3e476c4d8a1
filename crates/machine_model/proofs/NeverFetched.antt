-- A Read that was never fetched, computed: it is longer than what a search goes through.
use Rattle.std.specs.Prelude.{◌≡◌, [], ◌∷◌, refl}
use Rattle.page_memory.specs.{Memory.bytes_at, Pages.zero_page}
use Rattle.sgl_descriptor.specs.Spelling.{descriptor_of}
use Rattle.entry_codec.specs.{Completion.{completion_bytes, completion_of}, Submission.{submission_bytes, submission_of}}
use Rattle.controller_walk.specs.Units.{moving, from_place}
use Rattle.machine_model.specs.WorkedLaws.{blocks_drafted}

pub before_the_fetch : blocks_drafted 4 ≡ (1 ∷ [])
unfolding zero_page bytes_at descriptor_of submission_bytes submission_of completion_bytes completion_of moving from_place
before_the_fetch = refl

pub before_the_collect : blocks_drafted 20 ≡ (2 ∷ [])
unfolding zero_page bytes_at descriptor_of submission_bytes submission_of completion_bytes completion_of moving from_place
before_the_collect = refl
