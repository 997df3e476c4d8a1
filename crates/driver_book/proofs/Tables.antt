-- The tables with which receipts are checked in two passes.
use Rattle.std.proofs.Common.{◌≡◌, ◌≤◌, ◌<◌, ◌+◌, ◌-◌, ◌*◌, ℕ, zero, suc, Bool, true, false, true≢false, List, [], ◌∷◌, Option, Some, None, ◌==◌, ◌&&◌, cond, add-zero, if◌then◌else◌, length, take, drop, get_or, map, slice_set, max, below_more, refl, sym, ap, subst, ◌∙◌, arith, eqb-true, get_or-set_same, get_or-set_other}
use Rattle.std.proofs.lemmas.{Bool.{eqb-false, lt-ltb, le-ltb, ltb-true, ltb-false}, List.{length-set, length-take, get_or_past}, List.Sums.{count_by_more_yes, count_by_more_no, count_by-le-length}, Nat.mul-add-lt}
use Rattle.std.proofs.lemmas.Option.{slice_get-get_or, slice_get-map, get_or_from_slice_get, slice_get_within, same_Some}
use Rattle.std.proofs.Math.Nat.{mul-le-mul_left}
use Rattle.std.specs.{List.list_any, Option.option_map, Prelude.{slice_get, count_by, MatchOption, nat_lt, unwrap_or}}
use Rattle.entry_codec.specs.declared.status.{Status.Status, TheConstants.Status.ABORTED_SQ_DELETION}
use Rattle.io_commands.specs.declared.request.Piece.{Piece}
use Rattle.machine_model.specs.declared.words.Reaped.TheVariants.{Done}
use Rattle.driver_book.specs.Close.{same_seat, has, stands, accepted_of, held, first_of, status_by, queue_in, identifier_in, AllStand, IsMissing}
use Rattle.driver_book.specs.{Entries.{Entry, LoggedDraft, asked_in}, History.{accepted, is_accepted, is_submission}, Keeping.{Kept, KeptDraft, KeptStep, draft_at, shown, shown_draft, shown_step}, Passes.is_known, State.{SeatContents, is_seated, AreSeated}}
use Rattle.driver_book.specs.Submissions.{submitted_by, submission_of, ended_by, end_of, given_by}
use Rattle.driver_book.specs.Table.{count_of, with_count, AreCounted, AreWithin, AreBelow, StandFrom, IsMissingFrom, earlier, EndTable, status_in, with_single, IsFrom, Tells}
use Rattle.driver_book.specs.declared.{entry.{EndAt.{EndAt, TheVariants.{Nothing, One, Queue, All}}, Submission.Submission}, ends.End.End, report.Asked.Asked}
use Rattle.page_memory.proofs.Lists.{all-at}
use Rattle.driver_book.proofs.StandsInReceipts.{held_at, both_true, seat_named, stands_nowhere}
use Rattle.step_core.specs.Values.{Reply, Step}
use Rattle.step_core.specs.declared.step.Step.TheVariants as step
use Rattle.step_core.specs.declared.step.Reply.TheVariants as reply

-- What an entry ended

-- what a kept step ended is what the step that it stands for ended
shown_end : (pieces : List Piece) (drafts : List KeptDraft) (s : KeptStep) (a : Reply) → ended_by (shown_step pieces drafts s) a ≡ ended_by s a
shown_end pieces drafts (step.Reap q) (reply.Reaps (Done cid status)) = refl
shown_end pieces drafts (step.Reap q) a = refl
shown_end pieces drafts (step.Retire q) reply.Accepted = refl
shown_end pieces drafts (step.Retire q) a = refl
shown_end pieces drafts step.Reset reply.Accepted = refl
shown_end pieces drafts step.Reset a = refl
shown_end pieces drafts s a = refl

-- what is shown of a kept entry at an index
kept_at : {X : Type 0} (f : Kept → X) (kept : List Kept) (i : ℕ) (x : Kept) → i < length kept → x ≡ get_or kept i x → slice_get (map f kept) i ≡ Some (f x)
kept_at f kept i x less here =
    let at : slice_get kept i ≡ Some x = slice_get-get_or kept i x less ∙ ap (λ (k : Kept). Some k) (sym here) in
    slice_get-map f kept i ∙ ap (option_map f) at

pub kept_end : (pieces : List Piece) (pages : List ℕ) (drafts : List KeptDraft) (kept : List Kept) (i : ℕ) (x : Kept) → i < length kept → x ≡ get_or kept i x
    → option_map end_of (slice_get (map (shown pieces pages drafts) kept) i) ≡ Some (ended_by x.step x.answer)
kept_end pieces pages drafts kept i x less here =
    ap (option_map end_of) (kept_at (shown pieces pages drafts) kept i x less here) ∙ ap (λ (e : EndAt). Some e) (shown_end pieces drafts x.step x.answer)

-- so with the submission that it tells of

shown_asked : (pieces : List Piece) (pages : List ℕ) (o : Option KeptDraft) → asked_in (option_map (shown_draft pieces pages) o) ≡ asked_in o
shown_asked pieces pages None = refl
shown_asked pieces pages (Some d) = refl

shown_submission : (pieces : List Piece) (pages : List ℕ) (drafts : List KeptDraft) (seat : Option ℕ) (s : KeptStep) (a : Reply) (o : Option KeptDraft)
    → submitted_by seat (shown_step pieces drafts s) a (option_map (shown_draft pieces pages) o) ≡ submitted_by seat s a o
shown_submission pieces pages drafts seat (step.Submit q cid) reply.Accepted o = rw (shown_asked pieces pages o) refl
shown_submission pieces pages drafts seat (step.Submit q cid) a o = refl
shown_submission pieces pages drafts seat s a o = refl

pub kept_submission : (pieces : List Piece) (pages : List ℕ) (drafts : List KeptDraft) (kept : List Kept) (i : ℕ) (x : Kept) → i < length kept → x ≡ get_or kept i x
    → option_map submission_of (slice_get (map (shown pieces pages drafts) kept) i) ≡ Some (submitted_by x.seat x.step x.answer (draft_at drafts x.draft))
kept_submission pieces pages drafts kept i x less here =
    ap (option_map submission_of) (kept_at (shown pieces pages drafts) kept i x less here)
    ∙ ap (λ (o : Option Submission). Some o) (shown_submission pieces pages drafts x.seat x.step x.answer (draft_at drafts x.draft))

given : (q cid : ℕ) (what : Step) (answer : Reply) → status_by q cid what answer ≡ given_by q cid (ended_by what answer)
given q cid (step.Reap of) (reply.Reaps (Done ended status)) = refl
given q cid (step.Reap of) answer = refl
given q cid (step.Retire of) reply.Accepted = refl
given q cid (step.Retire of) answer = refl
given q cid step.Reset reply.Accepted = refl
given q cid step.Reset answer = refl
given q cid what answer = refl

held_back : (log : List Entry) (p : ℕ) (end : EndAt) (q cid : ℕ) → option_map end_of (slice_get log p) ≡ Some end
    → held q cid (drop p log) ≡ first_of (given_by q cid end) (held q cid (drop (p + 1) log))
held_back log p end q cid is = by_entry (slice_get log p) refl is
  where
    by_entry : (o : Option Entry) → slice_get log p ≡ o → option_map end_of o ≡ Some end → held q cid (drop p log) ≡ first_of (given_by q cid end) (held q cid (drop (p + 1) log))
    by_entry None at ends = absurd cc
    by_entry (Some e) at ends =
        let same : end_of e ≡ end = same_Some (end_of e) end ends in
        held_at q cid log p e at ∙ ap (λ (o : Option Status). first_of o (held q cid (drop (p + 1) log))) (given q cid e.step e.answer ∙ ap (given_by q cid) same)

-- The table of ends

from_less : (p : ℕ) (o : Option End) → IsFrom (p + 1) o → IsFrom p o
from_less p None from = tt
from_less p (Some e) from = omega arith

from_set : (p : ℕ) (xs : List (Option End)) (i : ℕ) (e : Option End) → IsFrom p e → ((j : ℕ) → IsFrom p (get_or xs j None)) → (j : ℕ) → IsFrom p (get_or (slice_set xs i e) j None)
from_set p [] i e here each j = each j
from_set p (x ∷ xs) zero e here each zero = here
from_set p (x ∷ xs) zero e here each (suc j) = each (suc j)
from_set p (x ∷ xs) (suc i) e here each zero = each zero
from_set p (x ∷ xs) (suc i) e here each (suc j) = from_set p xs i e here (λ k. each (suc k)) j

-- an end before another comes first, on either side
first_left : (p : ℕ) (e : End) (o : Option End) → e.place ≡ p → IsFrom (p + 1) o → earlier (Some e) o ≡ Some e
first_left p e None at from = refl
first_left p e (Some f) at from = let less : nat_lt e.place f.place ≡ true = lt-ltb e.place f.place (omega (arith, at, from)) in rw less refl

first_right : (p : ℕ) (e : End) (o : Option End) → e.place ≡ p → IsFrom (p + 1) o → earlier o (Some e) ≡ Some e
first_right p e None at from = refl
first_right p e (Some f) at from = let far : nat_lt f.place e.place ≡ false = le-ltb f.place e.place (omega (arith, at, from)) in rw far refl

from_earlier : (p : ℕ) (a b : Option End) → IsFrom p a → IsFrom p b → IsFrom p (earlier a b)
from_earlier p None b of_a of_b = of_b
from_earlier p (Some a) None of_a of_b = of_a
from_earlier p (Some a) (Some b) of_a of_b = by_order (nat_lt a.place b.place)
  where
    by_order : (t : Bool) → IsFrom p (if t then Some a else Some b)
    by_order true = of_a
    by_order false = of_b

abbrev status_with : Option End → Option End → Option End → Option Status
status_with a b c = option_map (λ (e : End). e.status) (earlier a (earlier b c))

-- The index of a command

apart : (a b w c d : ℕ) → a < b → c < w → a * w + c < b * w + d
apart a b w c d less in_row = let far : w * (a + 1) ≤ w * b = mul-le-mul_left w (omega arith) in omega (arith, far)

places_differ : (a b w c d : ℕ) → c < w → d < w → ((a == b) && (c == d)) ≡ false → b * w + d ≡ a * w + c → ⊥
places_differ a b w c d in_row in_row2 other same = by_sameness (a == b) refl (c == d) refl other
  where
    by_sameness : (s : Bool) → (a == b) ≡ s → (t : Bool) → (c == d) ≡ t → (s && t) ≡ false → ⊥
    by_sameness true e true f both = true≢false both
    by_sameness true e false f both =
        let rows : a ≡ b = eqb-true a b e in
        let products : a * w ≡ b * w = ap (λ (n : ℕ). n * w) rows in
        eqb-false c d f (omega (arith, same, products))
    by_sameness false e t f both =
        let rows : a ≡ b → ⊥ = eqb-false a b e in
        let one : a < b → ⊥ = λ less. let l = apart a b w c d less in_row in omega (arith, l, same) in
        let two : b < a → ⊥ = λ less. let l = apart b a w d c less in_row2 in omega (arith, l, same) in
        omega (arith, rows, one, two)

single_at : (t : EndTable) (of ended : ℕ) (e : End) (q cid : ℕ) → length t.single ≡ length t.retired * t.identifiers → q < length t.retired → cid < t.identifiers
    → get_or (with_single t of ended e) (q * t.identifiers + cid) None ≡ (if (of == q) && (ended == cid) then Some e else get_or t.single (q * t.identifiers + cid) None)
single_at t of ended e q cid size in_rows in_row =
    by_cell (nat_lt of (length t.retired) && nat_lt ended t.identifiers) refl ((of == q) && (ended == cid)) refl
  where
    by_cell : (b : Bool) → (nat_lt of (length t.retired) && nat_lt ended t.identifiers) ≡ b → (s : Bool) → ((of == q) && (ended == cid)) ≡ s
        → get_or (if b then slice_set t.single (of * t.identifiers + ended) (Some e) else t.single) (q * t.identifiers + cid) None
        ≡ (if s then Some e else get_or t.single (q * t.identifiers + cid) None)
    by_cell true inside true same =
        let both = both_true (of == q) (ended == cid) same in
        let rows : of * t.identifiers ≡ q * t.identifiers = ap (λ (n : ℕ). n * t.identifiers) (eqb-true of q both.0) in
        let place : of * t.identifiers + ended ≡ q * t.identifiers + cid = omega (arith, rows, eqb-true ended cid both.1) in
        let within : q * t.identifiers + cid < t.identifiers * length t.retired = mul-add-lt q t.identifiers cid (length t.retired) in_rows in_row in
        ap (λ (n : ℕ). get_or (slice_set t.single n (Some e)) (q * t.identifiers + cid) None) place
        ∙ get_or-set_same t.single (q * t.identifiers + cid) (Some e) None (omega (arith, within, size))
    by_cell true inside false other =
        let both = both_true (nat_lt of (length t.retired)) (nat_lt ended t.identifiers) inside in
        get_or-set_other t.single (of * t.identifiers + ended) (q * t.identifiers + cid) (Some e) None
        (places_differ of q t.identifiers ended cid (ltb-true ended t.identifiers both.1) in_row other)
    by_cell false outside true same =
        let both = both_true (of == q) (ended == cid) same in
        let row : nat_lt of (length t.retired) ≡ true = lt-ltb of (length t.retired) (omega (arith, in_rows, eqb-true of q both.0)) in
        let cell : nat_lt ended t.identifiers ≡ true = lt-ltb ended t.identifiers (omega (arith, in_row, eqb-true ended cid both.1)) in
        let all : (nat_lt of (length t.retired) && nat_lt ended t.identifiers) ≡ true = rw (row, cell) refl in
        absurd (true≢false (sym all ∙ outside))
    by_cell false outside false other = refl

retired_at : (xs : List (Option End)) (of : ℕ) (e : End) (q : ℕ) → q < length xs → get_or (slice_set xs of (Some e)) q None ≡ (if of == q then Some e else get_or xs q None)
retired_at xs of e q within = by_queue (of == q) refl
  where
    by_queue : (s : Bool) → (of == q) ≡ s → get_or (slice_set xs of (Some e)) q None ≡ (if s then Some e else get_or xs q None)
    by_queue true same = let at : of ≡ q = eqb-true of q same in ap (λ (n : ℕ). get_or (slice_set xs n (Some e)) q None) at ∙ get_or-set_same xs q (Some e) None within
    by_queue false other = get_or-set_other xs of q (Some e) None (λ same. eqb-false of q other (sym same))

-- One entry back

tells_back : (t new : EndTable) (log : List Entry) (p : ℕ) (end : EndAt) → option_map end_of (slice_get log p) ≡ Some end → Tells t log (p + 1)
    → length new.retired ≡ length t.retired → new.identifiers ≡ t.identifiers
    → ((i : ℕ) → IsFrom p (get_or new.single i None)) → ((q : ℕ) → IsFrom p (get_or new.retired q None)) → IsFrom p new.reset
    → ((q cid : ℕ) → q < length t.retired → cid < t.identifiers → status_in new q cid ≡ first_of (given_by q cid end) (status_in t q cid))
    → Tells new log p
tells_back t new log p end is told queues identifiers single retired reset each = record {
  single_from = single;
  retired_from = retired;
  reset_from = reset;
  told = λ q cid in_rows in_row.
      let row : q < length t.retired = omega (arith, in_rows, queues) in
      let cell : cid < t.identifiers = omega (arith, in_row, identifiers) in
      each q cid row cell ∙ ap (first_of (given_by q cid end)) (told.told q cid row cell) ∙ sym (held_back log p end q cid is);
}

pub tells_same : (t : EndTable) (log : List Entry) (p : ℕ) → option_map end_of (slice_get log p) ≡ Some Nothing → Tells t log (p + 1) → Tells t log p
tells_same t log p is told =
    tells_back t t log p Nothing is told refl refl (λ i. from_less p (get_or t.single i None) (told.single_from i)) (λ q. from_less p (get_or t.retired q None) (told.retired_from q))
    (from_less p t.reset told.reset_from) (λ q cid row cell. refl)

pub tells_one : (t new : EndTable) (log : List Entry) (p of ended : ℕ) (status : Status) → option_map end_of (slice_get log p) ≡ Some (One of ended status) → Tells t log (p + 1)
    → length t.single ≡ length t.retired * t.identifiers → new.single ≡ with_single t of ended (let e : End = record { place = p; status = status } in e)
    → new.retired ≡ t.retired → new.reset ≡ t.reset → new.identifiers ≡ t.identifiers → Tells new log p
tells_one t new log p of ended status is told size single retired reset identifiers =
    let e : End = record { place = p; status = status } in
    let here : IsFrom p (Some e) = omega arith in
    tells_back t new log p (One of ended status) is told (ap length retired) identifiers
    (λ i. rw single (from_single e here i)) (λ q. rw retired (from_less p (get_or t.retired q None) (told.retired_from q))) (rw reset (from_less p t.reset told.reset_from))
    (λ q cid row cell. rw (single, retired, reset, identifiers, single_at t of ended e q cid size row cell) (by_command q cid e refl ((of == q) && (ended == cid))))
  where
    from_single : (e : End) → IsFrom p (Some e) → (i : ℕ) → IsFrom p (get_or (with_single t of ended e) i None)
    from_single e here i = choose (nat_lt of (length t.retired) && nat_lt ended t.identifiers)
      where
        each : (j : ℕ) → IsFrom p (get_or t.single j None)
        each j = from_less p (get_or t.single j None) (told.single_from j)

        choose : (b : Bool) → IsFrom p (get_or (if b then slice_set t.single (of * t.identifiers + ended) (Some e) else t.single) i None)
        choose true = from_set p t.single (of * t.identifiers + ended) (Some e) here each i
        choose false = each i

    by_command : (q cid : ℕ) (e : End) → e ≡ (let f : End = record { place = p; status = status } in f) → (s : Bool)
        → status_with (if s then Some e else get_or t.single (q * t.identifiers + cid) None) (get_or t.retired q None) t.reset
        ≡ first_of (if s then Some status else None) (status_in t q cid)
    by_command q cid e same true =
        rw (first_left p e (earlier (get_or t.retired q None) t.reset) (ap (λ (f : End). f.place) same) (from_earlier (p + 1) (get_or t.retired q None) t.reset (told.retired_from q) told.reset_from))
        (ap (λ (f : End). Some f.status) same)
    by_command q cid e same false = refl

pub tells_queue : (t new : EndTable) (log : List Entry) (p of : ℕ) (e : End) → option_map end_of (slice_get log p) ≡ Some (Queue of) → Tells t log (p + 1)
    → e ≡ (let f : End = record { place = p; status = ABORTED_SQ_DELETION } in f) → new.single ≡ t.single
    → new.retired ≡ slice_set t.retired of (Some e) → new.reset ≡ t.reset → new.identifiers ≡ t.identifiers → Tells new log p
tells_queue t new log p of e is told same single retired reset identifiers =
    let place : e.place ≡ p = ap (λ (f : End). f.place) same in
    let here : IsFrom p (Some e) = omega (arith, place) in
    let each : (q : ℕ) → IsFrom p (get_or t.retired q None) = λ q. from_less p (get_or t.retired q None) (told.retired_from q) in
    tells_back t new log p (Queue of) is told (ap length retired ∙ length-set t.retired of (Some e)) identifiers
    (λ i. rw single (from_less p (get_or t.single i None) (told.single_from i))) (λ q. rw retired (from_set p t.retired of (Some e) here each q)) (rw reset (from_less p t.reset told.reset_from))
    (λ q cid row cell. rw (single, retired, reset, identifiers, retired_at t.retired of e q row) (by_queue q cid place (of == q)))
  where
    by_queue : (q cid : ℕ) → e.place ≡ p → (s : Bool)
        → status_with (get_or t.single (q * t.identifiers + cid) None) (if s then Some e else get_or t.retired q None) t.reset
        ≡ first_of (if s then Some ABORTED_SQ_DELETION else None) (status_in t q cid)
    by_queue q cid place true =
        rw (first_left p e t.reset place told.reset_from, first_right p e (get_or t.single (q * t.identifiers + cid) None) place (told.single_from (q * t.identifiers + cid)))
        (ap (λ (f : End). Some f.status) same)
    by_queue q cid place false = refl

pub tells_all : (t new : EndTable) (log : List Entry) (p : ℕ) (e : End) → option_map end_of (slice_get log p) ≡ Some All → Tells t log (p + 1)
    → e ≡ (let f : End = record { place = p; status = ABORTED_SQ_DELETION } in f) → new.single ≡ t.single
    → new.retired ≡ t.retired → new.reset ≡ Some e → new.identifiers ≡ t.identifiers → Tells new log p
tells_all t new log p e is told same single retired reset identifiers =
    let place : e.place ≡ p = ap (λ (f : End). f.place) same in
    let here : IsFrom p (Some e) = omega (arith, place) in
    tells_back t new log p All is told (ap length retired) identifiers
    (λ i. rw single (from_less p (get_or t.single i None) (told.single_from i))) (λ q. rw retired (from_less p (get_or t.retired q None) (told.retired_from q))) (rw reset here)
    (λ q cid row cell.
    rw (single, retired, reset, identifiers, first_right p e (get_or t.retired q None) place (told.retired_from q), first_right p e (get_or t.single (q * t.identifiers + cid) None) place (told.single_from (q * t.identifiers + cid)))
    (ap (λ (f : End). Some f.status) same))

-- Submissions

-- the submission at an index
pub record IsMade (log : List Entry) (p : ℕ) (s : Submission) : Type 0 where
  pub entry : Entry
  pub there : slice_get log p ≡ Some entry
  pub accepts : is_accepted entry ≡ true
  pub seat : entry.seat ≡ s.seat
  pub queue : queue_in entry.step ≡ s.q
  pub identifier : identifier_in entry.step ≡ s.cid
  pub asked : asked_in entry.draft ≡ s.asked

made : (log : List Entry) (p : ℕ) (e : Entry) (seat : Option ℕ) (what : Step) (answer : Reply) (draft : Option LoggedDraft) (s : Submission) → slice_get log p ≡ Some e
    → e.seat ≡ seat → e.step ≡ what → e.answer ≡ answer → e.draft ≡ draft → submitted_by seat what answer draft ≡ Some s → IsMade log p s
made log p e seat (step.Submit q cid) reply.Accepted draft s at of asks tells drafts is =
    let same : (let t : Submission = record { seat = seat; q = q; cid = cid; asked = asked_in draft } in t) ≡ s = same_Some _ s is in
    record {
      entry = e;
      there = at;
      accepts = rw (asks, tells) refl;
      seat = of ∙ ap (λ (t : Submission). t.seat) same;
      queue = ap queue_in asks ∙ ap (λ (t : Submission). t.q) same;
      identifier = ap identifier_in asks ∙ ap (λ (t : Submission). t.cid) same;
      asked = ap (λ (d : Option LoggedDraft). asked_in d) drafts ∙ ap (λ (t : Submission). t.asked) same;
    }
made log p e seat what answer draft s at of asks tells drafts is = absurd cc

pub is_made : (log : List Entry) (p : ℕ) (s : Submission) → option_map submission_of (slice_get log p) ≡ Some (Some s) → IsMade log p s
is_made log p s is = by_entry (slice_get log p) refl is
  where
    by_entry : (o : Option Entry) → slice_get log p ≡ o → option_map submission_of o ≡ Some (Some s) → IsMade log p s
    by_entry None at none = absurd cc
    by_entry (Some e) at some = made log p e e.seat e.step e.answer e.draft s at refl refl refl refl (same_Some (submission_of e) (Some s) some)

unmade : (seat : Option ℕ) (what : Step) (answer : Reply) (draft : Option LoggedDraft) → submitted_by seat what answer draft ≡ None → is_submission what answer ≡ false
unmade seat (step.Submit q cid) reply.Accepted draft none = absurd cc
unmade seat what answer draft none = refl

-- no submission is at an index
pub record IsNone (log : List Entry) (p : ℕ) : Type 0 where
  pub entry : Entry
  pub there : slice_get log p ≡ Some entry
  pub accepts : is_accepted entry ≡ false

pub is_none_made : (log : List Entry) (p : ℕ) → option_map submission_of (slice_get log p) ≡ Some None → IsNone log p
is_none_made log p is = by_entry (slice_get log p) refl is
  where
    by_entry : (o : Option Entry) → slice_get log p ≡ o → option_map submission_of o ≡ Some None → IsNone log p
    by_entry None at none = absurd cc
    by_entry (Some e) at some = record { entry = e; there = at; accepts = unmade e.seat e.step e.answer e.draft (same_Some (submission_of e) None some) }

-- Counts

count_next : {X : Type 0} (f : X → Bool) (xs : List X) (p : ℕ) (x : X) → slice_get xs p ≡ Some x → count_by f (take (p + 1) xs) ≡ count_by f (take p xs) + cond (f x) 1 0
count_next {X = X} f xs p x at = by_test (f x) refl
  where
    less : p < length xs
    less = slice_get_within xs p x at

    same : get_or xs p x ≡ x
    same = get_or_from_slice_get xs p x x at

    by_test : (b : Bool) → f x ≡ b → count_by f (take (p + 1) xs) ≡ count_by f (take p xs) + cond b 1 0
    by_test true is = count_by_more_yes f xs p x less (ap f same ∙ is)
    by_test false is = count_by_more_no f xs p x less (ap f same ∙ is) ∙ sym (add-zero (count_by f (take p xs)))

-- what was counted is no more than the entries
pub count_few : {X : Type 0} (f : X → Bool) (xs : List X) (p : ℕ) → count_by f (take p xs) ≤ p
count_few f xs p = omega (arith, count_by-le-length f (take p xs), length-take p xs)

count_kept : (counts : List ℕ) (seat : Option ℕ) (n k : ℕ) → k < length counts → get_or (with_count counts seat n) k 0 ≡ (if same_seat seat (Some k) then n else get_or counts k 0)
count_kept counts None n k within = refl
count_kept counts (Some j) n k within = by_seat (j == k) refl
  where
    by_seat : (s : Bool) → (j == k) ≡ s → get_or (slice_set counts j n) k 0 ≡ (if s then n else get_or counts k 0)
    by_seat true same = let at : j ≡ k = eqb-true j k same in ap (λ (i : ℕ). get_or (slice_set counts i n) k 0) at ∙ get_or-set_same counts k n 0 within
    by_seat false other = get_or-set_other counts j k n 0 (λ same. eqb-false j k other (sym same))

count_own : (counts : List ℕ) (seat : Option ℕ) (k : ℕ) → same_seat seat (Some k) ≡ true → count_of counts seat ≡ get_or counts k 0
count_own counts None k same = absurd (true≢false (sym same))
count_own counts (Some j) k same = ap (λ (i : ℕ). get_or counts i 0) (eqb-true j k same)

pub length_counts : (counts : List ℕ) (seat : Option ℕ) (n : ℕ) → length (with_count counts seat n) ≡ length counts
length_counts counts None n = refl
length_counts counts (Some k) n = length-set counts k n

-- the counts of a seat's submissions, at the next index
of_next : (log : List Entry) (p k : ℕ) (s : Submission) → IsMade log p s → accepted_of (Some k) (take (p + 1) log) ≡ accepted_of (Some k) (take p log) + cond (same_seat s.seat (Some k)) 1 0
of_next log p k s m =
    let own : (is_accepted m.entry && same_seat m.entry.seat (Some k)) ≡ same_seat s.seat (Some k) = rw (m.accepts, m.seat) refl in
    count_next (λ e. is_accepted e && same_seat e.seat (Some k)) log p m.entry m.there ∙ ap (λ (b : Bool). accepted_of (Some k) (take p log) + cond b 1 0) own

pub all_next : (log : List Entry) (p : ℕ) (s : Submission) → IsMade log p s → accepted (take (p + 1) log) ≡ accepted (take p log) + 1
all_next log p s m = count_next is_accepted log p m.entry m.there ∙ ap (λ (b : Bool). accepted (take p log) + cond b 1 0) m.accepts

pub counted_on : (log : List Entry) (p number count : ℕ) (counts : List ℕ) (s : Submission) → IsMade log p s → AreCounted number counts log p → count ≡ count_of counts s.seat + 1
    → AreCounted (number + 1) (with_count counts s.seat count) log (p + 1)
counted_on log p number count counts s m so_far is = record {
  all = omega (arith, so_far.all, all_next log p s m);
  each = λ k less.
      let within : k < length counts = omega (arith, less, length_counts counts s.seat count) in
      count_kept counts s.seat count k within ∙ by_seat k (same_seat s.seat (Some k)) refl (so_far.each k within) ∙ sym (of_next log p k s m);
}
  where
    by_seat : (k : ℕ) (b : Bool) → same_seat s.seat (Some k) ≡ b → get_or counts k 0 ≡ accepted_of (Some k) (take p log)
        → (if b then count else get_or counts k 0) ≡ accepted_of (Some k) (take p log) + cond b 1 0
    by_seat k true own here = omega (arith, is, count_own counts s.seat k own, here)
    by_seat k false other here = here ∙ sym (add-zero (accepted_of (Some k) (take p log)))

pub counted_back : (log : List Entry) (p number before count : ℕ) (counts : List ℕ) (s : Submission) → IsMade log p s → AreCounted number counts log (p + 1) → number ≡ before + 1 → count ≡ count_of counts s.seat - 1
    → AreCounted before (with_count counts s.seat count) log p
counted_back log p number before count counts s m so_far less_one is = record {
  all = omega (arith, so_far.all, less_one, all_next log p s m);
  each = λ k less.
      let within : k < length counts = omega (arith, less, length_counts counts s.seat count) in
      count_kept counts s.seat count k within ∙ by_seat k (same_seat s.seat (Some k)) refl (so_far.each k within ∙ of_next log p k s m);
}
  where
    by_seat : (k : ℕ) (b : Bool) → same_seat s.seat (Some k) ≡ b → get_or counts k 0 ≡ accepted_of (Some k) (take p log) + cond b 1 0
        → (if b then count else get_or counts k 0) ≡ accepted_of (Some k) (take p log)
    by_seat k true own here = omega (arith, is, count_own counts s.seat k own, here)
    by_seat k false other here = here ∙ add-zero (accepted_of (Some k) (take p log))

-- where there is no submission, nothing is counted
same_next : (log : List Entry) (p : ℕ) (seat : Option ℕ) → IsNone log p → accepted_of seat (take (p + 1) log) ≡ accepted_of seat (take p log)
same_next log p seat m =
    let none : (is_accepted m.entry && same_seat m.entry.seat seat) ≡ false = rw m.accepts refl in
    count_next (λ e. is_accepted e && same_seat e.seat seat) log p m.entry m.there ∙ ap (λ (b : Bool). accepted_of seat (take p log) + cond b 1 0) none ∙ add-zero (accepted_of seat (take p log))

none_next : (log : List Entry) (p : ℕ) → IsNone log p → accepted (take (p + 1) log) ≡ accepted (take p log)
none_next log p m =
    count_next is_accepted log p m.entry m.there ∙ ap (λ (b : Bool). accepted (take p log) + cond b 1 0) m.accepts ∙ add-zero (accepted (take p log))

pub uncounted_on : (log : List Entry) (p number : ℕ) (counts : List ℕ) → IsNone log p → AreCounted number counts log p → AreCounted number counts log (p + 1)
uncounted_on log p number counts m so_far = record { all = so_far.all ∙ sym (none_next log p m); each = λ k within. so_far.each k within ∙ sym (same_next log p (Some k) m) }

pub uncounted_back : (log : List Entry) (p number : ℕ) (counts : List ℕ) → IsNone log p → AreCounted number counts log (p + 1) → AreCounted number counts log p
uncounted_back log p number counts m so_far = record { all = so_far.all ∙ none_next log p m; each = λ k within. so_far.each k within ∙ same_next log p (Some k) m }

pub counted_few : (log : List Entry) (p number : ℕ) (counts : List ℕ) (seat : Option ℕ) → AreCounted number counts log p → count_of counts seat ≤ p
counted_few log p number counts None so_far = omega arith
counted_few log p number counts (Some k) so_far = by_presence (nat_lt k (length counts)) refl
  where
    by_presence : (b : Bool) → nat_lt k (length counts) ≡ b → get_or counts k 0 ≤ p
    by_presence true within = omega (arith, so_far.each k (ltb-true k (length counts) within), count_few (λ e. is_accepted e && same_seat e.seat (Some k)) log p)
    by_presence false past = let none : get_or counts k 0 ≡ 0 = get_or_past counts k 0 (ltb-false k (length counts) past) in omega (arith, none)

pub counted_first : (counts : List ℕ) (log : List Entry) → ((k : ℕ) → get_or counts k 0 ≡ 0) → AreCounted 0 counts log 0
counted_first counts log none = record { all = refl; each = λ k within. none k }

-- The bounds of submissions

pub within_on : (queues identifiers more_queues more_identifiers : ℕ) (log : List Entry) (p : ℕ) (s : Submission) → IsMade log p s → more_queues ≡ max queues (s.q + 1) → more_identifiers ≡ max identifiers (s.cid + 1)
    → AreWithin queues identifiers log p → AreWithin more_queues more_identifiers log (p + 1)
within_on queues identifiers more_queues more_identifiers log p s m rows cells so_far =
    below_more (λ k. (e : Entry) → slice_get log k ≡ Some e → is_accepted e ≡ true → (queue_in e.step < more_queues) × (identifier_in e.step < more_identifiers)) p
    (λ k before e get is. let both = so_far k before e get is in (omega (arith, both.0, rows), omega (arith, both.1, cells)))
    (λ e get is.
    let same : m.entry ≡ e = same_Some m.entry e (sym m.there ∙ get) in
    let row : queue_in e.step ≡ s.q = ap (λ (x : Entry). queue_in x.step) (sym same) ∙ m.queue in
    let cell : identifier_in e.step ≡ s.cid = ap (λ (x : Entry). identifier_in x.step) (sym same) ∙ m.identifier in
    (omega (arith, row, rows), omega (arith, cell, cells)))

pub within_none : (queues identifiers : ℕ) (log : List Entry) (p : ℕ) → IsNone log p → AreWithin queues identifiers log p → AreWithin queues identifiers log (p + 1)
within_none queues identifiers log p m so_far =
    below_more (λ k. (e : Entry) → slice_get log k ≡ Some e → is_accepted e ≡ true → (queue_in e.step < queues) × (identifier_in e.step < identifiers)) p so_far
    (λ e get is. absurd (true≢false (sym is ∙ ap is_accepted (same_Some e m.entry (sym get ∙ m.there)) ∙ m.accepts)))

pub made_within : (queues identifiers : ℕ) (log : List Entry) (p : ℕ) (s : Submission) → IsMade log p s → AreWithin queues identifiers log (length log) → (s.q < queues) × (s.cid < identifiers)
made_within queues identifiers log p s m within =
    let both = within p (slice_get_within log p m.entry m.there) m.entry m.there m.accepts in
    (omega (arith, both.0, m.queue), omega (arith, both.1, m.identifier))

pub within_at : (t new : EndTable) (log : List Entry) → length new.retired ≡ length t.retired → new.identifiers ≡ t.identifiers → AreWithin (length t.retired) t.identifiers log (length log)
    → AreWithin (length new.retired) new.identifiers log (length log)
within_at t new log queues identifiers within k before e get is =
    let both = within k before e get is in
    (omega (arith, both.0, queues), omega (arith, both.1, identifiers))

-- Whether the submission at an index stands in the receipts

not_known : (seats : List SeatContents) (n k : ℕ) → AreBelow seats n → n ≤ k → is_known seats (Some k) ≡ false
not_known [] n k below far = refl
not_known (s ∷ seats) n k below far =
    let here : s.number < n = below 0 s refl in
    by_number (s.number == k) refl here (not_known seats n k (λ j t at. below (suc j) t at) far)
  where
    by_number : (b : Bool) → (s.number == k) ≡ b → s.number < n → is_known seats (Some k) ≡ false → is_known (s ∷ seats) (Some k) ≡ false
    by_number true same here rest = let at : s.number ≡ k = eqb-true s.number k same in absurd (omega arith)
    by_number false other here rest = rw other rest

no_seat : (seats : List SeatContents) → is_known seats None ≡ false
no_seat [] = refl
no_seat (s ∷ seats) = no_seat seats

-- the count of a seat tells the same as its position, if there is such a seat
same_place : (log : List Entry) (p number : ℕ) (counts : List ℕ) (seats : List SeatContents) (seat : Option ℕ) (n q cid : ℕ) (asked : Option Asked) (told : Option Status) → AreCounted number counts log p
    → AreBelow seats (length counts)
    → list_any (has seat (accepted_of seat (take p log)) n q cid asked told) seats ≡ list_any (has seat (count_of counts seat) n q cid asked told) seats
same_place log p number counts seats None n q cid asked told counted below =
    stands_nowhere None (accepted_of None (take p log)) n q cid asked told seats (no_seat seats) ∙ sym (stands_nowhere None (count_of counts None) n q cid asked told seats (no_seat seats))
same_place log p number counts seats (Some k) n q cid asked told counted below = by_presence (nat_lt k (length counts)) refl
  where
    by_presence : (b : Bool) → nat_lt k (length counts) ≡ b
        → list_any (has (Some k) (accepted_of (Some k) (take p log)) n q cid asked told) seats ≡ list_any (has (Some k) (count_of counts (Some k)) n q cid asked told) seats
    by_presence true within = ap (λ (place : ℕ). list_any (has (Some k) place n q cid asked told) seats) (sym (counted.each k (ltb-true k (length counts) within)))
    by_presence false past =
        let unknown : is_known seats (Some k) ≡ false = not_known seats (length counts) k below (ltb-false k (length counts) past) in
        stands_nowhere (Some k) (accepted_of (Some k) (take p log)) n q cid asked told seats unknown ∙ sym (stands_nowhere (Some k) (count_of counts (Some k)) n q cid asked told seats unknown)

pub stands_by : (log : List Entry) (p number : ℕ) (counts : List ℕ) (t : EndTable) (seats : List SeatContents) (s : Submission) (m : IsMade log p s) → AreCounted number counts log p → AreBelow seats (length counts)
    → AreWithin (length t.retired) t.identifiers log (length log) → Tells t log (p + 1)
    → stands log seats p m.entry ≡ list_any (has s.seat (count_of counts s.seat) number s.q s.cid s.asked (status_in t s.q s.cid)) seats
stands_by log p number counts t seats s m counted below within tells =
    let both = made_within (length t.retired) t.identifiers log p s m within in
    let told : status_in t s.q s.cid ≡ held s.q s.cid (drop (p + 1) log) = tells.told s.q s.cid both.0 both.1 in
    let named : stands log seats p m.entry ≡ list_any (has s.seat (accepted_of s.seat (take p log)) (accepted (take p log)) s.q s.cid s.asked (held s.q s.cid (drop (p + 1) log))) seats = rw (m.seat, m.queue, m.identifier, m.asked) refl in
    named ∙ same_place log p number counts seats s.seat (accepted (take p log)) s.q s.cid s.asked (held s.q s.cid (drop (p + 1) log)) counted below
    ∙ ap (λ (n : ℕ). list_any (has s.seat (count_of counts s.seat) n s.q s.cid s.asked (held s.q s.cid (drop (p + 1) log))) seats) (sym counted.all)
    ∙ ap (λ (o : Option Status). list_any (has s.seat (count_of counts s.seat) number s.q s.cid s.asked o) seats) (sym told)

-- What was found so far

stand_more : (log : List Entry) (seats : List SeatContents) (p n : ℕ) → ((e : Entry) → slice_get log p ≡ Some e → is_accepted e ≡ true → stands log seats p e ≡ true) → StandFrom log seats (p + 1) n → StandFrom log seats p n
stand_more log seats p n here stand k from before e get is = by_place (p == k) refl
  where
    by_place : (b : Bool) → (p == k) ≡ b → stands log seats k e ≡ true
    by_place true same =
        let at : p ≡ k = eqb-true p k same in
        subst (λ (i : ℕ). slice_get log i ≡ Some e → stands log seats i e ≡ true) at (λ there. here e there is) get
    by_place false other = let far : p ≡ k → ⊥ = eqb-false p k other in stand k (omega (arith, far)) before e get is

pub found_more : (log : List Entry) (seats : List SeatContents) (p : ℕ) (found : Option (ℕ × ℕ)) → ((e : Entry) → slice_get log p ≡ Some e → is_accepted e ≡ true → stands log seats p e ≡ true)
    → MatchOption found (StandFrom log seats (p + 1) (length log)) (λ m. IsMissingFrom log seats (p + 1) m.0 m.1)
    → MatchOption found (StandFrom log seats p (length log)) (λ m. IsMissingFrom log seats p m.0 m.1)
found_more log seats p None here so_far = stand_more log seats p (length log) here so_far
found_more log seats p (Some m) here (k, e, there, accepts, seat, number, fails, from, stand) =
    (k, e, there, accepts, seat, number, fails, omega (arith, from), stand_more log seats p k here stand)

-- the submission there stands
pub one_stands : (log : List Entry) (seats : List SeatContents) (p : ℕ) (s : Submission) (m : IsMade log p s) → stands log seats p m.entry ≡ true
    → (e : Entry) → slice_get log p ≡ Some e → is_accepted e ≡ true → stands log seats p e ≡ true
one_stands log seats p s m it e get is = subst (λ (x : Entry). stands log seats p x ≡ true) (same_Some m.entry e (sym m.there ∙ get)) it

-- there is none
pub none_stands : (log : List Entry) (seats : List SeatContents) (p : ℕ) → IsNone log p → (e : Entry) → slice_get log p ≡ Some e → is_accepted e ≡ true → stands log seats p e ≡ true
none_stands log seats p m e get is = absurd (true≢false (sym is ∙ ap is_accepted (same_Some e m.entry (sym get ∙ m.there)) ∙ m.accepts))

-- it stands in no receipt
pub found_here : (log : List Entry) (seats : List SeatContents) (p number : ℕ) (s : Submission) (m : IsMade log p s) → AreSeated log → stands log seats p m.entry ≡ false → number ≡ accepted (take p log)
    → IsMissingFrom log seats p (unwrap_or s.seat 0) number
found_here log seats p number s m seated fails counted =
    let named : m.entry.seat ≡ Some (unwrap_or m.entry.seat 0)
    = seat_named m.entry.seat (is_accepted m.entry) m.accepts (all-at (λ (e : Entry). is_seated e ≡ true) log p m.entry m.there seated) in
    (p, m.entry, m.there, m.accepts, named ∙ ap (λ (o : Option ℕ). Some (unwrap_or o 0)) m.seat, counted, fails, omega arith, λ k from before e get is. absurd (omega arith))

pub found_none : (log : List Entry) (seats : List SeatContents) (p : ℕ) → length log ≤ p → StandFrom log seats p (length log)
found_none log seats p past k from before e get is = absurd (omega arith)

-- the whole log was gone through
pub found_all : (log : List Entry) (seats : List SeatContents) (p : ℕ) (found : Option (ℕ × ℕ)) → p ≡ 0
    → MatchOption found (StandFrom log seats p (length log)) (λ m. IsMissingFrom log seats p m.0 m.1)
    → MatchOption found (AllStand log seats) (λ m. IsMissing log seats m.0 m.1)
found_all log seats p None first so_far = λ k before e get is. so_far k (omega arith) before e get is
found_all log seats p (Some m) first (k, e, there, accepts, seat, number, fails, from, stand) =
    (k, e, there, accepts, seat, number, fails, λ j before x get is. stand j (omega arith) before x get is)

-- a submission ends no command
pub tells_made : (t : EndTable) (log : List Entry) (p : ℕ) (s : Submission) → IsMade log p s → Tells t log (p + 1) → Tells t log p
tells_made t log p s m told =
    tells_same t log p (ap (option_map end_of) m.there ∙ ap (λ (e : EndAt). Some e) (none_ended m.entry.step m.entry.answer m.accepts)) told
  where
    none_ended : (what : Step) (answer : Reply) → is_submission what answer ≡ true → ended_by what answer ≡ Nothing
    none_ended (step.Submit q cid) answer is = refl
    none_ended what answer is = absurd (true≢false (sym is))
