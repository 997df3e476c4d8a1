-- A bench that fills a draft twice, step by step.
use Rattle.std.proofs.Common.{◌≡◌, ℕ, ◌==◌, ◌<◌, ◌%◌, ◌^◌, Bool, true, false, ◌&&◌, ◌||◌, None, List, [], ◌∷◌, replicate, if◌then◌else◌, refl, ap, arith, eqb-true}
use Rattle.std.{proofs.lemmas.List.{length-replicate, Elements.{All-nil, All-cons}}, specs.List.list_any}
use Rattle.block_image.specs.Blocks.{IsImage}
use Rattle.page_memory.specs.Pages.{zero_page}
use Rattle.io_commands.specs.{Drafts.{DraftContents, built}, Requests.{FitsRequest, FitsPiece}, declared.draft.FillFault.TheVariants.WrongLength}
use Rattle.io_commands.specs.declared.request.Piece.TheVariants.{Data}
use Rattle.machine_model.specs.{Proper.IsProperDraft, Script.{Table, table, filled_draft}, State.State, Step.{IsReserved, zeroed}}
use Rattle.step_core.{proofs.Order.{bench_opens, bench_keeps, filled_stays_proper, built_stays_proper}, specs.{Bench.Does, Opening.opening_of}}
use Rattle.step_core.specs.Values.{Reply, Step}
use Rattle.host_core.specs.declared.config.Config.{Config}
use Rattle.run_laws.specs.{Values.Done, WorkedDrafts.{at_start, behind, too_many, write_at, a_bench_fills_twice}}
use Rattle.machine_model.specs.After as a
use Rattle.machine_model.specs.Events as events
use Rattle.machine_model.specs.Step as machine
use Rattle.step_core.specs.declared.step.Reply.TheVariants as reply
use Rattle.step_core.specs.declared.step.Step.TheVariants as step

abbrev config : Config
config = record { pages = 16; queues = 1; entries = 4; segment = 256 }

abbrev image : List ℕ
image = replicate 32768 0

abbrev draft : DraftContents
draft = record { q = 1; cid = 0; request = write_at 0 at_start; data_pages = (4, zero_page) ∷ []; chain_pages = []; segment = 256; entry = None }

abbrev other : DraftContents
other = record { q = 1; cid = 1; request = write_at 1 behind; data_pages = (5, zero_page) ∷ []; chain_pages = []; segment = 256; entry = None }

-- the worlds after the reservations and the submission, and the drafts after each fill and the build
abbrev one_reserved : State
one_reserved = a.after (opening_of config image) (events.Reserve 1 (write_at 0 at_start)) (events.Reserved draft)

abbrev two_reserved : State
two_reserved = a.after one_reserved (events.Reserve 1 (write_at 1 behind)) (events.Reserved other)

abbrev filled_once : DraftContents
filled_once = filled_draft (7 ∷ 7 ∷ 7 ∷ []) draft

abbrev filled_other : DraftContents
filled_other = filled_draft (9 ∷ []) other

abbrev filled_again : DraftContents
filled_again = filled_draft (5 ∷ 6 ∷ []) (built filled_once)

abbrev one_kept : Table
one_kept = record { world = one_reserved; drafts = draft ∷ []; tickets = []; finished = [] }

abbrev both_kept : DraftContents → DraftContents → Table
both_kept d e = record { world = two_reserved; drafts = d ∷ e ∷ []; tickets = []; finished = [] }

abbrev one_submitted : Table
one_submitted = record { world = a.after two_reserved (events.Submit filled_again) events.Accepted; drafts = filled_other ∷ []; tickets = (1, 0) ∷ []; finished = [] }

-- The machine's steps

is_image : IsImage (replicate 32768 0)
is_image = record { whole = ap (λ (n : ℕ). n % 512) (length-replicate {A = ℕ} 32768 0); some = omega (arith, length-replicate {A = ℕ} 32768 0); few = omega (arith, length-replicate {A = ℕ} 32768 0) }

fits : (offset slba : ℕ) → offset < 2 ^ 32 → slba < 2 ^ 64 → FitsRequest (write_at slba (Data offset 512 ∷ []))
fits offset slba low few = record { nsid = omega arith; slba = few; blocks = omega arith; pieces = All-cons FitsPiece (Data offset 512) [] (low, omega arith) (All-nil FitsPiece) }

one_free : (k p : ℕ) (is_free : ℕ → Bool) → is_free k ≡ true → machine.times p (k ∷ []) ≡ (if ((k == p) || false) && is_free p then 1 else 0)
one_free k p is_free free = grind (arith, eqb-true)

zero_at : (k : ℕ) → zeroed ((k, zero_page) ∷ [])
zero_at k = All-cons (λ (page : ℕ × List ℕ). page.1 ≡ zero_page) (k, zero_page) [] refl (All-nil (λ (page : ℕ × List ℕ). page.1 ≡ zero_page))

first_reserved : IsReserved (opening_of config image) 1 (write_at 0 at_start) draft
first_reserved = record {
  queue = refl;
  request = refl;
  segment = refl;
  identifier = record { in_range = omega arith; unused = refl };
  data_pages = refl;
  chain_pages = refl;
  free = λ p. one_free 4 p (λ n. list_any (λ (q : ℕ). q == n) (opening_of config image).host.free) refl;
  zero = zero_at 4;
  not_built = refl;
}

second_reserved : IsReserved one_reserved 1 (write_at 1 behind) other
second_reserved = record {
  queue = refl;
  request = refl;
  segment = refl;
  identifier = record { in_range = omega arith; unused = refl };
  data_pages = refl;
  chain_pages = refl;
  free = λ p. one_free 5 p (λ n. list_any (λ (q : ℕ). q == n) one_reserved.host.free) refl;
  zero = zero_at 5;
  not_built = refl;
}

-- The bench's steps

reserves_first : Does (table (opening_of config image)) (step.Reserve 1 (write_at 0 at_start)) (reply.Reserved 1 0 1 0) one_kept
reserves_first = record { reply = events.Reserved draft; tells = refl; step = (fits 0 0 (omega arith) (omega arith), (refl, first_reserved), refl); keeps = refl }

reserves_second : Does one_kept (step.Reserve 1 (write_at 1 behind)) (reply.Reserved 1 1 1 0) (both_kept draft other)
reserves_second = record { reply = events.Reserved other; tells = refl; step = (fits 100 1 (omega arith) (omega arith), (refl, second_reserved), refl); keeps = refl }

proper : IsProperDraft draft
proper = (bench_keeps (table (opening_of config image)) (step.Reserve 1 (write_at 0 at_start)) (reply.Reserved 1 0 1 0) one_kept (bench_opens config image refl is_image) reserves_first).drafts.0

submits_first : Does (both_kept filled_again filled_other) (step.Submit 1 0) reply.Accepted one_submitted
submits_first = record {
  reply = events.Accepted;
  tells = refl;
  step = (filled_stays_proper (5 ∷ 6 ∷ []) (built filled_once) (built_stays_proper filled_once (filled_stays_proper (7 ∷ 7 ∷ 7 ∷ []) draft proper)), (refl, tt), refl);
  keeps = refl;
}

abbrev done : (before : Table) (what : Step) (answer : Reply) (after : Table) → Does before what answer after → Done
done before what answer after does = record { before = before; what = what; answer = answer; after = after; does = does }

pub fills_twice : a_bench_fills_twice
fills_twice = (
  record {
    config = config;
    image = image;
    opens = refl;
    is_image = is_image;
    earlier = [];
    reservation = done (table (opening_of config image)) (step.Reserve 1 (write_at 0 at_start)) (reply.Reserved 1 0 1 0) one_kept reserves_first;
    between = done one_kept (step.Reserve 1 (write_at 1 behind)) (reply.Reserved 1 1 1 0) (both_kept draft other) reserves_second
        ∷ done (both_kept draft other) (step.Fill 1 0 (7 ∷ 7 ∷ 7 ∷ [])) reply.Accepted (both_kept filled_once other) (refl, refl)
        ∷ done (both_kept filled_once other) (step.Fill 1 1 (9 ∷ [])) reply.Accepted (both_kept filled_once filled_other) (refl, refl)
        ∷ done (both_kept filled_once filled_other) (step.Build 1 0) reply.Accepted (both_kept (built filled_once) filled_other) refl
        ∷ done (both_kept (built filled_once) filled_other) (step.Fill 1 0 (5 ∷ 6 ∷ [])) reply.Accepted (both_kept filled_again filled_other) (refl, refl)
        ∷ done (both_kept filled_again filled_other) (step.Fill 1 0 too_many) (reply.NotFilled WrongLength) (both_kept filled_again filled_other) (refl, refl) ∷ [];
    submission = done (both_kept filled_again filled_other) (step.Submit 1 0) reply.Accepted one_submitted submits_first;
    later = [];
    end = one_submitted;
    goes = (refl, (refl, (refl, (refl, (refl, (refl, (refl, (refl, refl))))))));
    q = 1;
    cid = 0;
    request = write_at 0 at_start;
    data_pages = 1;
    chain_pages = 0;
    reserves = refl;
    reserved = refl;
    submits = refl;
    stays = refl;
  },
  record { request = refl; steps = refl; answers = refl; submitted = refl; fills = refl; bytes = refl },
)
