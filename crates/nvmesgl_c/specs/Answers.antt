-- What C is told besides a code.
use Rattle.std.specs.Prelude.{ℕ, false, List, [], ◌∷◌, length, min, replicate, slice_get, unwrap_or}
use Rattle.controller_walk.specs.declared.walk.WalkState.{WalkState}
use Rattle.entry_codec.specs.declared.{hints.Hints.Hints, status.Status.Status}
use Rattle.machine_model.specs.declared.words.{OpenRefusal.OpenRefusal, Reaped.Reaped, Refusal.Refusal, RejectedFor.RejectedFor}
use Rattle.nvmesgl_c.specs.declared.words.answer.Answer.{Answer}
use Rattle.controller_walk.specs.declared.walk.WalkState.TheVariants as walk_state
use Rattle.machine_model.specs.declared.words.OpenRefusal.TheVariants as open_refusal
use Rattle.machine_model.specs.declared.words.Reaped.TheVariants as reaps
use Rattle.machine_model.specs.declared.words.Refusal.TheVariants as refusal
use Rattle.machine_model.specs.declared.words.RejectedFor.TheVariants as rejected_for

abbrev pub nothing : Answer
nothing =
    record {
      state = 0;
      dw0 = 0;
      need = 0;
      free = 0;
      data_pages = 0;
      chain_pages = 0;
      bytes = 0;
      touched = 0 ∷ 0 ∷ 0 ∷ 0 ∷ [];
      touched_count = 0;
      cid = 0;
      sct = 0;
      sc = 0;
      count = 0;
      retry_delay = 0;
      more = false;
      do_not_retry = false;
      reserved = replicate 9 0;
      tag = 0;
    }

-- the first four pages, with 0 after them
abbrev pub first_pages : List ℕ → List ℕ
first_pages pages =
    unwrap_or (slice_get pages 0) 0 ∷ unwrap_or (slice_get pages 1) 0 ∷ unwrap_or (slice_get pages 2) 0 ∷ unwrap_or (slice_get pages 3) 0 ∷ []

abbrev pub touching : List ℕ → Answer
touching pages = record nothing { touched = first_pages pages; touched_count = min (length pages) 4 }

abbrev pub ended : Status → Answer
ended status = record nothing { sct = status.sct; sc = status.sc }

abbrev pub collected : Status → Hints → Answer
collected status hints = record (ended status) { retry_delay = hints.retry_delay; more = hints.more; do_not_retry = hints.do_not_retry }

abbrev pub walked : WalkState → List ℕ → Answer
walked walk_state.More pages = record (touching pages) { state = 1 }
walked walk_state.End pages = record (touching pages) { state = 2 }
walked (walk_state.Fault status) pages = record (touching pages) { state = 3; sct = status.sct; sc = status.sc }

abbrev pub rejected : RejectedFor → Answer
rejected rejected_for.WrongQueue = record nothing { state = 7 }
rejected rejected_for.BadHead = record nothing { state = 8 }
rejected rejected_for.UnknownId = record nothing { state = 9 }

abbrev pub reaped : Reaped → Answer
reaped reaps.Empty = record nothing { state = 4 }
reaped (reaps.Done cid status) = record (ended status) { state = 5; cid = cid }
reaped (reaps.AdminDone cid status dw0) = record (ended status) { state = 6; cid = cid; dw0 = dw0 }
reaped (reaps.Rejected why) = rejected why

abbrev pub refused : Refusal → List ℕ → Answer
refused (refusal.NoPages need free) pages = record (touching pages) { need = need; free = free }
refused (refusal.NoRun need) pages = record (touching pages) { need = need }
refused why pages = touching pages

abbrev pub not_opened : OpenRefusal → Answer
not_opened (open_refusal.NoPages need free) = record nothing { need = need; free = free }
not_opened open_refusal.BadConfig = nothing
not_opened open_refusal.Memory = nothing
