-- A poll takes one more completion.
use Rattle.std.proofs.Common.{◌≡◌, ℕ, ◌+◌, ◌<◌, ◌≤◌, false, List, [], ◌∷◌, ◌++◌, Option, Some, None, length, take, drop, slice_set, refl, ap, sym, ◌∙◌, subst, arith, length-set}
use Rattle.std.proofs.lemmas.List.{append-nil, drop-set-lt, drop_all, length-take-le, take-append-drop, take_all, take_more_set}
use Rattle.std.proofs.lemmas.Grind.{drop_more_same}
use Rattle.host_bench.specs.{Calls.Does, Values.Reply}
use Rattle.host_core.specs.declared.doorbell.Doorbell.{Doorbell}
use Rattle.machine_model.specs.Script.{Table}
use Rattle.slot_table.specs.Rows.{Row}
use Rattle.nvmesgl_c.specs.HostPolling.{Polls, Takes, TakesAll, is_taken}
use Rattle.nvmesgl_c.specs.declared.host.polling.CEnded.{CEnded}
use Rattle.host_bench.specs.declared.call.Call.TheVariants as call

takes_more : (t mid new : Table) (tags : List (Row ℕ)) (q : ℕ) (before : Option Doorbell) (entries : List CEnded) (bell : Option Doorbell) (entry : CEnded) (rung : Option Doorbell)
    → TakesAll t tags q before entries bell mid → Takes mid tags q entry rung new → TakesAll t tags q before (entries ++ entry ∷ []) rung new
takes_more t mid new tags q before [] bell entry rung so more = (rung, new, subst (λ (m : Table). Takes m tags q entry rung new) so.1 more, (refl, refl))
takes_more t mid new tags q before (first ∷ entries) bell entry rung so more = (so.0, so.1, so.2, takes_more so.1 mid new tags q so.0 entries bell entry rung so.3 more)

-- this many completions were taken, and are at the start
pub record Polling (t : Table) (tags : List (Row ℕ)) (q : ℕ) (old now : List CEnded) (count : ℕ) (bell : Option Doorbell) (mid : Table) : Type 0 where
  pub takes : TakesAll t tags q None (take count now) bell mid
  pub rest : drop count now ≡ drop count old
  pub long : length now ≡ length old

pub none_polled : (t : Table) (tags : List (Row ℕ)) (q : ℕ) (old : List CEnded) → Polling t tags q old old 0 None t
none_polled t tags q old = record { takes = (refl, refl); rest = refl; long = refl }

pub polled_more : (t mid new : Table) (tags : List (Row ℕ)) (q : ℕ) (old now : List CEnded) (count : ℕ) (bell : Option Doorbell) (entry : CEnded) (rung : Option Doorbell) → Polling t tags q old now count bell mid
    → Takes mid tags q entry rung new → count < length now → Polling t tags q old (slice_set now count entry) (count + 1) rung new
polled_more t mid new tags q old now count bell entry rung so more l =
    record {
      takes = rw (take_more_set now count entry l) (takes_more t mid new tags q None (take count now) bell entry rung so.takes more);
      rest = drop-set-lt (count + 1) now count entry (omega arith) ∙ drop_more_same now old count so.rest;
      long = length-set now count entry ∙ so.long;
    }

-- a reap took none
pub polled_end : (t mid new : Table) (tags : List (Row ℕ)) (q : ℕ) (old now : List CEnded) (count : ℕ) (bell : Option Doorbell) (why : Reply) → Polling t tags q old now count bell mid → Does mid (call.Reap q) why new
    → is_taken why ≡ false → count ≤ length now → Polls t tags q old now count bell (Some why) new
polled_end t mid new tags q old now count bell why so does none l =
    let few : length (take count now) ≡ count = length-take-le count now l in
    record {
      entries = take count now;
      mid = mid;
      takes = so.takes;
      stops = (does, none);
      laid = sym (take-append-drop count now) ∙ ap (λ (back : List CEnded). take count now ++ back) so.rest ∙ ap (λ (n : ℕ). take count now ++ drop n old) (sym few);
      count_is = sym few;
    }

-- as many were taken as there is room for
pub polled_full : (t mid : Table) (tags : List (Row ℕ)) (q : ℕ) (old now : List CEnded) (count : ℕ) (bell : Option Doorbell) → Polling t tags q old now count bell mid → length now ≤ count → Polls t tags q old now (length now) bell None mid
polled_full t mid tags q old now count bell so l =
    record {
      entries = now;
      mid = mid;
      takes = subst (λ (entries : List CEnded). TakesAll t tags q None entries bell mid) (take_all count now l) so.takes;
      stops = (so.long, refl);
      laid = sym (append-nil now) ∙ ap (λ (back : List CEnded). now ++ back) (sym (drop_all (length now) old (omega (arith, so.long))));
      count_is = refl;
    }
