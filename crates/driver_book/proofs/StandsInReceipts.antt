-- Submissions that stand in receipts, and a book that is closed.
use Rattle.step_core.specs.declared.step.Step.TheVariants as step
use Rattle.std.proofs.Common.{◌≡◌, ◌≤◌, ◌+◌, ◌-◌, ℕ, zero, suc, Bool, true, false, true≢false, List, [], ◌∷◌, ◌++◌, Option, Some, None, is_none, is_some, ◌||◌, Result, Ok, Err, is_ok, length, take, drop, position, if◌then◌else◌, slice_set, refl, subst, ap, sym, ◌∙◌, arith, ◌<◌, ◌&&◌, not, get_or, eqb-true, eq-eqb, below_more, ◌==◌, map, filter, length-append}
use Rattle.std.proofs.lemmas.{Bool.eqb-false, Iterator.Adapters.position_from-zero, List.{append-nil, drop_all, take_all, length-drop, length-set, length-map}}
use Rattle.std.proofs.lemmas.List.Sums.{count_by_more_yes, count_by_more_no, sum_by-cons}
use Rattle.std.{proofs.lemmas.Option.{get_or_from_slice_get, slice_get-get_or, none-some, same_Some}, specs.{List.{list_any, position_from}, Option.option_map}}
use Rattle.std.specs.Prelude.{slice_get, unwrap_or, count_by, IsOk}
use Rattle.entry_codec.specs.declared.status.Status.{Status}
use Rattle.io_commands.specs.{Drafts.DraftContents, Values.{FinishedContents, TicketContents}}
use Rattle.machine_model.{proofs.Counting.{one, times-cons, times-append, times-filter}, specs.{State.State, Step.times}}
use Rattle.host_core.specs.declared.refused.Refused.{Refused}
use Rattle.driver_book.specs.Calls.{receipt, is_open_for, settled, settled_at, status_at, Receives, Settles}
use Rattle.driver_book.specs.Close.{same_seat, has, stands, StandBefore, accepted_of, IsMissing, held, first_of, status_by, is_receipt_of, fits_status, fits_asked, queue_in, identifier_in, receipts_of, AllStand}
use Rattle.driver_book.specs.{Entries.{Entry, asked_of, asked_in}, History.{accepted, is_accepted}, Keeping.may_end, Passes.{is_known, AreKnown, StandOf, IsMissingAt}}
use Rattle.driver_book.specs.{Seats.{AreSettled, is_without_status}, State.{SeatContents, is_seated, AreSeated, BookContents, IsBook}}
use Rattle.driver_book.specs.declared.report.{Asked.Asked, Receipt.Receipt}
use Rattle.step_core.specs.Values.{Reply, Step}
use Rattle.host_core.proofs.Granting.{all-used}
use Rattle.page_memory.proofs.Lists.{all-at}

-- A seat, as a submission is accepted and as its command is released.

-- a seat with one more receipt
pub receives_in : {at old : SeatContents} {here log : List Entry} → at ≡ old → here ≡ log → (d : DraftContents) (result : Result TicketContents (Refused DraftContents))
    → is_ok result ≡ true → (receipts : List Receipt) (spare : ℕ) (known : List DraftContents) → receipts ≡ at.receipts ++ receipt (accepted here) d.q d.cid (asked_of d.request) None ∷ []
    → Receives log old d result (let new : SeatContents = record at { receipts = receipts; spare = spare; known = known } in new)
receives_in same logs d (Ok ticket) ok receipts spare known is = rw (← same, ← logs, is) refl
receives_in same logs d (Err r) ok receipts spare known is = absurd (true≢false (sym ok))

-- and where it is refused, the seat has no more
pub receives_none : {at old : SeatContents} (log : List Entry) → at ≡ old → (d : DraftContents) (result : Result TicketContents (Refused DraftContents))
    → is_ok result ≡ false → (receipts : List Receipt) (spare : ℕ) → receipts ≡ at.receipts
    → Receives log old d result (let new : SeatContents = record at { receipts = receipts; spare = spare } in new)
receives_none log same d (Ok ticket) isnt receipts spare is = absurd (true≢false isnt)
receives_none log same d (Err r) isnt receipts spare is = rw (← same, is) refl

-- a receipt's status is written at its index
length_settled_at : (i : Option ℕ) (status : Option Status) (receipts : List Receipt) → length (settled_at i status receipts) ≡ length receipts
length_settled_at None status receipts = refl
length_settled_at (Some i) status receipts = length-set receipts i _

pub length_settled : (q cid : ℕ) (status : Option Status) (receipts : List Receipt) → length (settled q cid status receipts) ≡ length receipts
length_settled q cid status receipts = length_settled_at (position (is_open_for q cid) receipts) status receipts

pub written_back : (n : ℕ) (old new : List Receipt) → n ≡ length old → length new ≡ length old → take n (new ++ drop (length new) old) ≡ new
written_back n old new is same =
    let none : drop (length new) old ≡ [] = drop_all (length new) old (omega (arith, same)) in
    rw (none, append-nil new) (take_all n new (omega (arith, is, same)))

-- where a command is released, its seat's receipt is settled ..
pub settles_in : {A : Type 0} {at old : SeatContents} {here world : State} → at ≡ old → here ≡ world → (f : FinishedContents) (result : Result A (Refused FinishedContents))
    → is_ok result ≡ true → (receipts : List Receipt) → receipts ≡ settled f.q f.cid (status_at here.host f.q f.cid) at.receipts
    → Settles world old f result (let new : SeatContents = record at { receipts = receipts } in new)
settles_in same worlds f (Ok done) ok receipts is = rw (← same, ← worlds, is) refl
settles_in same worlds f (Err r) ok receipts is = absurd (true≢false (sym ok))

-- .. and where it is not, the seat is as it was
pub settles_none : {A : Type 0} {old new : SeatContents} (world : State) (f : FinishedContents) (result : Result A (Refused FinishedContents)) → is_ok result ≡ false
    → new ≡ old → Settles world old f result new
settles_none world f (Ok done) isnt is = absurd (true≢false isnt)
settles_none world f (Err r) isnt is = is

-- Receipts at the head of a list that have a status: searches begin after them.

pub settled_length : (n : ℕ) (receipts : List Receipt) → AreSettled n receipts → n ≤ length receipts
settled_length zero receipts settled = omega arith
settled_length (suc n) [] settled = absurd settled
settled_length (suc n) (r ∷ receipts) settled = let below = settled_length n receipts settled.1 in omega (arith, below)

add_suc : (n m : ℕ) → suc n + m ≡ suc (n + m)
add_suc n m = omega arith

-- a receipt without a status is found after those that have one
found_from : (receipts : List Receipt) (i j : ℕ) → position_from is_without_status i receipts ≡ Some (i + j) → AreSettled j receipts
found_from receipts i zero found = tt
found_from [] i (suc j) found = absurd (grind arith)
found_from (r ∷ receipts) i (suc j) found = by_status (is_none r.status) refl found (found_from receipts (i + 1) j)
  where
    by_status : (b : Bool) → is_none r.status ≡ b → (if b then Some i else position_from is_without_status (i + 1) receipts) ≡ Some (i + suc j)
        → (position_from is_without_status (i + 1) receipts ≡ Some (i + 1 + j) → AreSettled j receipts) → AreSettled (suc j) (r ∷ receipts)
    by_status true first found rest = absurd (grind arith)
    by_status false other found rest = let same : i + suc j ≡ i + 1 + j = omega arith in (other, rest (found ∙ ap Some same))

pub settled_until : (receipts : List Receipt) (i : ℕ) → position is_without_status receipts ≡ Some i → AreSettled i receipts
settled_until receipts i found = let same : i ≡ 0 + i = omega arith in found_from receipts 0 i (sym (position_from-zero is_without_status receipts) ∙ found ∙ ap Some same)

none_from : (receipts : List Receipt) (i : ℕ) → position_from is_without_status i receipts ≡ None → AreSettled (length receipts) receipts
none_from [] i none = tt
none_from (r ∷ receipts) i none = by_status (is_none r.status) refl none (none_from receipts (i + 1))
  where
    by_status : (b : Bool) → is_none r.status ≡ b → (if b then Some i else position_from is_without_status (i + 1) receipts) ≡ None
        → (position_from is_without_status (i + 1) receipts ≡ None → AreSettled (length receipts) receipts) → AreSettled (suc (length receipts)) (r ∷ receipts)
    by_status true first none rest = absurd (grind arith)
    by_status false other none rest = (other, rest none)

pub all_settled : (receipts : List Receipt) → position is_without_status receipts ≡ None → AreSettled (length receipts) receipts
all_settled receipts none = none_from receipts 0 (sym (position_from-zero is_without_status receipts) ∙ none)

-- this many more after those that are settled
pub settled_more : (n m : ℕ) (receipts : List Receipt) → AreSettled n receipts → AreSettled m (drop n receipts) → AreSettled (n + m) receipts
settled_more zero m receipts are more = rw (add_zero m) more
  where
    add_zero : (m : ℕ) → 0 + m ≡ m
    add_zero m = omega arith
settled_more (suc n) m [] are more = absurd are
settled_more (suc n) m (r ∷ receipts) are more = rw (add_suc n m) (are.0, settled_more n m receipts are.1 more)

pub settled_appended : (n : ℕ) (receipts more : List Receipt) → AreSettled n receipts → AreSettled n (receipts ++ more)
settled_appended zero receipts more are = tt
settled_appended (suc n) [] more are = absurd are
settled_appended (suc n) (r ∷ receipts) more are = (are.0, settled_appended n receipts more are.1)

-- what is written after them leaves them unchanged
pub settled_set : (n i : ℕ) (receipts : List Receipt) (r : Receipt) → AreSettled n receipts → AreSettled n (slice_set receipts (n + i) r)
settled_set zero i receipts r are = tt
settled_set (suc n) i [] r are = absurd are
settled_set (suc n) i (s ∷ receipts) r are = rw (add_suc n i) (are.0, settled_set n i receipts r are.1)

-- none of them is for a command that awaits its status
pub closed_is_another : (q cid : ℕ) (r : Receipt) → is_none r.status ≡ false → is_open_for q cid r ≡ false
closed_is_another q cid r has = rw has (grind arith)

behind_from : (q cid i n : ℕ) (receipts : List Receipt) → AreSettled n receipts → position_from (is_open_for q cid) i receipts ≡ position_from (is_open_for q cid) (i + n) (drop n receipts)
behind_from q cid i zero receipts are = let same : i ≡ i + 0 = omega arith in ap (λ (k : ℕ). position_from (is_open_for q cid) k receipts) same
behind_from q cid i (suc n) [] are = absurd are
behind_from q cid i (suc n) (r ∷ receipts) are =
    let same : i + 1 + n ≡ i + suc n = omega arith in
    rw (closed_is_another q cid r are.0) (behind_from q cid (i + 1) n receipts are.1 ∙ ap (λ (k : ℕ). position_from (is_open_for q cid) k (drop n receipts)) same)

shifted : {A : Type 0} (p : A → Bool) (k i : ℕ) (xs : List A) → position_from p (k + i) xs ≡ option_map (λ (j : ℕ). k + j) (position_from p i xs)
shifted p k i [] = refl
shifted p k i (x ∷ xs) = by_test (p x) (shifted p k (i + 1) xs)
  where
    by_test : (b : Bool) → position_from p (k + (i + 1)) xs ≡ option_map (λ (j : ℕ). k + j) (position_from p (i + 1) xs)
        → (if b then Some (k + i) else position_from p (k + i + 1) xs) ≡ option_map (λ (j : ℕ). k + j) (if b then Some i else position_from p (i + 1) xs)
    by_test true rest = refl
    by_test false rest = let same : k + i + 1 ≡ k + (i + 1) = omega arith in ap (λ (n : ℕ). position_from p n xs) same ∙ rest

pub found_behind : (q cid n : ℕ) (receipts : List Receipt) → AreSettled n receipts → position (is_open_for q cid) receipts ≡ option_map (λ (i : ℕ). n + i) (position (is_open_for q cid) (drop n receipts))
found_behind q cid n receipts are =
    let same : 0 + n ≡ n + 0 = omega arith in
    position_from-zero (is_open_for q cid) receipts ∙ behind_from q cid 0 n receipts are ∙ ap (λ (k : ℕ). position_from (is_open_for q cid) k (drop n receipts)) same
    ∙ shifted (is_open_for q cid) n 0 (drop n receipts) ∙ ap (option_map (λ (i : ℕ). n + i)) (sym (position_from-zero (is_open_for q cid) (drop n receipts)))

-- what is after them, as a slice
pub tail_is : (n : ℕ) (receipts : List Receipt) → take (length receipts - n) (drop n receipts) ≡ drop n receipts
tail_is n receipts = let left = length-drop n receipts in take_all (length receipts - n) (drop n receipts) (omega (arith, left))

pub found_in_tail : (q cid n : ℕ) (receipts : List Receipt) (o : Option ℕ) → AreSettled n receipts → o ≡ position (is_open_for q cid) (take (length receipts - n) (drop n receipts))
    → position (is_open_for q cid) receipts ≡ option_map (λ (i : ℕ). n + i) o
found_in_tail q cid n receipts o are found =
    found_behind q cid n receipts are ∙ ap (option_map (λ (i : ℕ). n + i)) (ap (position (is_open_for q cid)) (sym (tail_is n receipts)) ∙ sym found)

pub more_in_tail : (n m : ℕ) (receipts : List Receipt) → AreSettled n receipts → AreSettled m (take (length receipts - n) (drop n receipts)) → AreSettled (n + m) receipts
more_in_tail n m receipts are more = settled_more n m receipts are (subst (AreSettled m) (tail_is n receipts) more)

any_behind : (q cid n : ℕ) (receipts : List Receipt) → AreSettled n receipts → list_any (is_open_for q cid) receipts ≡ list_any (is_open_for q cid) (drop n receipts)
any_behind q cid zero receipts are = refl
any_behind q cid (suc n) [] are = absurd are
any_behind q cid (suc n) (r ∷ receipts) are = rw (closed_is_another q cid r are.0) (any_behind q cid n receipts are.1)

found_any : {A : Type 0} (p : A → Bool) (i : ℕ) (xs : List A) → is_some (position_from p i xs) ≡ list_any p xs
found_any p i [] = refl
found_any p i (x ∷ xs) = by_test (p x) (found_any p (i + 1) xs)
  where
    by_test : (b : Bool) → is_some (position_from p (i + 1) xs) ≡ list_any p xs → is_some (if b then Some i else position_from p (i + 1) xs) ≡ (b || list_any p xs)
    by_test true rest = refl
    by_test false rest = rest

pub any_in_tail : (q cid n : ℕ) (receipts : List Receipt) → AreSettled n receipts → is_some (position (is_open_for q cid) (take (length receipts - n) (drop n receipts))) ≡ list_any (is_open_for q cid) receipts
any_in_tail q cid n receipts are =
    ap (λ (xs : List Receipt). is_some (position (is_open_for q cid) xs)) (tail_is n receipts) ∙ ap is_some (position_from-zero (is_open_for q cid) (drop n receipts)) ∙ found_any (is_open_for q cid) 0 (drop n receipts)
    ∙ sym (any_behind q cid n receipts are)

-- Submissions that stand in receipts: at the next index of the log, for one seat and for all.

-- Seats

same_seat_is : (a b : Option ℕ) → same_seat a b ≡ true → a ≡ b
same_seat_is None None same = refl
same_seat_is None (Some b) same = absurd (true≢false (sym same))
same_seat_is (Some a) None same = absurd (true≢false (sym same))
same_seat_is (Some a) (Some b) same = ap (λ (n : ℕ). Some n) (eqb-true a b same)

same_itself : (seat : Option ℕ) → same_seat seat seat ≡ true
same_itself None = refl
same_itself (Some n) = eq-eqb n n refl

-- what is at an index
pub here_at : (log : List Entry) (p : ℕ) (x : Entry) → slice_get log p ≡ Some x → x ≡ get_or log p x
here_at log p x get = sym (get_or_from_slice_get log p x x get)

-- the first status at or after an index is that of its entry, or else the first after it
pub held_at : (q cid : ℕ) (log : List Entry) (i : ℕ) (x : Entry) → slice_get log i ≡ Some x → held q cid (drop i log) ≡ first_of (status_by q cid x.step x.answer) (held q cid (drop (i + 1) log))
held_at q cid [] i x get = absurd (none-some x get)
held_at q cid (y ∷ log) zero x get = rw (same_Some y x get) refl
held_at q cid (y ∷ log) (suc i) x get =
    let far : suc i + 1 ≡ suc (i + 1) = omega arith in
    let next : drop (suc i + 1) (y ∷ log) ≡ drop (i + 1) log = ap (λ (n : ℕ). drop n (y ∷ log)) far in
    held_at q cid log i x get ∙ ap (λ (es : List Entry). first_of (status_by q cid x.step x.answer) (held q cid es)) (sym next)

no_end : (q cid : ℕ) (what : Step) (answer : Reply) → may_end what ≡ false → status_by q cid what answer ≡ None
no_end q cid (step.Reap of) answer other = absurd (true≢false other)
no_end q cid (step.Retire of) answer other = absurd (true≢false other)
no_end q cid step.Reset answer other = absurd (true≢false other)
no_end q cid what answer other = refl

-- an entry whose step ends no command gives no status
pub passed_over : (q cid : ℕ) (log : List Entry) (i : ℕ) → option_map (λ (e : Entry). may_end e.step) (slice_get log i) ≡ Some false → held q cid (drop i log) ≡ held q cid (drop (i + 1) log)
passed_over q cid log i other = by_entry (slice_get log i) refl other
  where
    by_entry : (o : Option Entry) → slice_get log i ≡ o → option_map (λ (e : Entry). may_end e.step) o ≡ Some false → held q cid (drop i log) ≡ held q cid (drop (i + 1) log)
    by_entry None at ends = absurd cc
    by_entry (Some e) at ends = held_at q cid log i e at ∙ ap (λ (o : Option Status). first_of o (held q cid (drop (i + 1) log))) (no_end q cid e.step e.answer cc)

-- One seat's position in the log: how many submissions came before, and how many of its own; those stand.
pub record Passed (log : List Entry) (seats : List SeatContents) (seat : Option ℕ) (p number place : ℕ) : Type 0 where
  pub numbered : number ≡ accepted (take p log)
  pub placed : place ≡ accepted_of seat (take p log)
  pub stand : StandOf seat log seats p

abbrev is_own : Option ℕ → Entry → Bool
is_own seat e = is_accepted e && same_seat e.seat seat

pub pass_own : (log : List Entry) (seats : List SeatContents) (seat : Option ℕ) (p number place : ℕ) (x : Entry) → p < length log → x ≡ get_or log p x
    → is_accepted x ≡ true → same_seat x.seat seat ≡ true → stands log seats p x ≡ true → Passed log seats seat p number place
    → Passed log seats seat (p + 1) (number + 1) (place + 1)
pass_own log seats seat p number place x less here accepts own it so_far =
    let mine : is_own seat x ≡ true = rw accepts own in
    let at : (e : Entry) → slice_get log p ≡ Some e → is_accepted e ≡ true → same_seat e.seat seat ≡ true → stands log seats p e ≡ true
    = λ e get is same. subst (λ (y : Entry). stands log seats p y ≡ true) (here ∙ get_or_from_slice_get log p e x get) it in
    record {
      numbered = ap (λ (n : ℕ). n + 1) so_far.numbered ∙ sym (count_by_more_yes is_accepted log p x less (ap is_accepted (sym here) ∙ accepts));
      placed = ap (λ (n : ℕ). n + 1) so_far.placed ∙ sym (count_by_more_yes (is_own seat) log p x less (ap (is_own seat) (sym here) ∙ mine));
      stand = below_more (λ q. (e : Entry) → slice_get log q ≡ Some e → is_accepted e ≡ true → same_seat e.seat seat ≡ true → stands log seats q e ≡ true) p so_far.stand at;
    }

pub pass_other : (log : List Entry) (seats : List SeatContents) (seat : Option ℕ) (p number place : ℕ) (x : Entry) → p < length log → x ≡ get_or log p x
    → is_accepted x ≡ true → same_seat x.seat seat ≡ false → Passed log seats seat p number place
    → Passed log seats seat (p + 1) (number + 1) place
pass_other log seats seat p number place x less here accepts other so_far =
    let not_mine : is_own seat x ≡ false = rw accepts other in
    let at : (e : Entry) → slice_get log p ≡ Some e → is_accepted e ≡ true → same_seat e.seat seat ≡ true → stands log seats p e ≡ true
    = λ e get is same.
    absurd (true≢false (sym same ∙ ap (λ (y : Entry). same_seat y.seat seat) (sym (here ∙ get_or_from_slice_get log p e x get)) ∙ other)) in
    record {
      numbered = ap (λ (n : ℕ). n + 1) so_far.numbered ∙ sym (count_by_more_yes is_accepted log p x less (ap is_accepted (sym here) ∙ accepts));
      placed = so_far.placed ∙ sym (count_by_more_no (is_own seat) log p x less (ap (is_own seat) (sym here) ∙ not_mine));
      stand = below_more (λ q. (e : Entry) → slice_get log q ≡ Some e → is_accepted e ≡ true → same_seat e.seat seat ≡ true → stands log seats q e ≡ true) p so_far.stand at;
    }

pub pass_none : (log : List Entry) (seats : List SeatContents) (seat : Option ℕ) (p number place : ℕ) (x : Entry) → p < length log → x ≡ get_or log p x
    → is_accepted x ≡ false → Passed log seats seat p number place → Passed log seats seat (p + 1) number place
pass_none log seats seat p number place x less here isnt so_far =
    let not_mine : is_own seat x ≡ false = rw isnt refl in
    let at : (e : Entry) → slice_get log p ≡ Some e → is_accepted e ≡ true → same_seat e.seat seat ≡ true → stands log seats p e ≡ true
    = λ e get is same. absurd (true≢false (sym is ∙ sym (ap is_accepted (here ∙ get_or_from_slice_get log p e x get)) ∙ isnt)) in
    record {
      numbered = so_far.numbered ∙ sym (count_by_more_no is_accepted log p x less (ap is_accepted (sym here) ∙ isnt));
      placed = so_far.placed ∙ sym (count_by_more_no (is_own seat) log p x less (ap (is_own seat) (sym here) ∙ not_mine));
      stand = below_more (λ q. (e : Entry) → slice_get log q ≡ Some e → is_accepted e ≡ true → same_seat e.seat seat ≡ true → stands log seats q e ≡ true) p so_far.stand at;
    }

-- a submission of the seat is at the seat's position
pub place_of_own : (log : List Entry) (seats : List SeatContents) (seat : Option ℕ) (p number place : ℕ) (of : Option ℕ) → same_seat of seat ≡ true → Passed log seats seat p number place
    → place ≡ accepted_of of (take p log)
place_of_own log seats seat p number place of same so_far =
    so_far.placed ∙ ap (λ (s : Option ℕ). accepted_of s (take p log)) (sym (same_seat_is of seat same))

pub missing_here : (log : List Entry) (seats : List SeatContents) (p : ℕ) (x : Entry) → p < length log → x ≡ get_or log p x → is_accepted x ≡ true → stands log seats p x ≡ false
    → IsMissingAt log seats p
missing_here log seats p x less here accepts fails =
    record { entry = x; there = slice_get-get_or log p x less ∙ ap (λ (e : Entry). Some e) (sym here); accepted = accepts; fails = fails }

-- Which submissions are of seats that were handed in

pub known_here : (log : List Entry) (seats : List SeatContents) (p : ℕ) (x : Entry) → x ≡ get_or log p x → (is_accepted x ≡ true → is_known seats x.seat ≡ true)
    → AreKnown log seats p → AreKnown log seats (p + 1)
known_here log seats p x here known so_far =
    below_more (λ q. (e : Entry) → slice_get log q ≡ Some e → is_accepted e ≡ true → is_known seats e.seat ≡ true) p so_far
    (λ e get is.
    let same : x ≡ e = here ∙ get_or_from_slice_get log p e x get in
    subst (λ (y : Entry). is_known seats y.seat ≡ true) same (known (ap is_accepted same ∙ is)))

-- the submission of a seat that was not handed in stands in no receipt
pub stands_nowhere : (seat : Option ℕ) (place number q cid : ℕ) (asked : Option Asked) (told : Option Status) (seats : List SeatContents) → is_known seats seat ≡ false
    → list_any (has seat place number q cid asked told) seats ≡ false
stands_nowhere seat place number q cid asked told [] none = refl
stands_nowhere seat place number q cid asked told (s ∷ seats) none = by_seat (same_seat (Some s.number) seat) refl (stands_nowhere seat place number q cid asked told seats)
  where
    by_seat : (b : Bool) → same_seat (Some s.number) seat ≡ b → (is_known seats seat ≡ false → list_any (has seat place number q cid asked told) seats ≡ false)
        → list_any (has seat place number q cid asked told) (s ∷ seats) ≡ false
    by_seat true e later = let known : is_known (s ∷ seats) seat ≡ true = rw e refl in absurd (true≢false (sym known ∙ none))
    by_seat false e later = rw e (later (rw e at none))

pub unknown_here : (log : List Entry) (seats : List SeatContents) (p : ℕ) (x : Entry) → p < length log → x ≡ get_or log p x → is_accepted x ≡ true → is_known seats x.seat ≡ false
    → IsMissingAt log seats p
unknown_here log seats p x less here accepts none = missing_here log seats p x less here accepts (stands_nowhere x.seat _ _ _ _ _ _ seats none)

-- The seats that were gone through: their submissions stand before an index, at which one is missing, unless that is the end of the log.
pub record Searched (log : List Entry) (seats : List SeatContents) (i end : ℕ) : Type 0 where
  pub within : end ≤ length log
  pub known : AreKnown log seats end
  pub stand : (k : ℕ) → k < i → (s : SeatContents) → slice_get seats k ≡ Some s → StandOf (Some s.number) log seats end
  pub missing : end < length log → IsMissingAt log seats end

pub search_all : (log : List Entry) (seats : List SeatContents) (i end : ℕ) (s : SeatContents) → s ≡ get_or seats i s → StandOf (Some s.number) log seats end
    → Searched log seats i end → Searched log seats (i + 1) end
search_all log seats i end s here stand so_far =
    record {
      within = so_far.within;
      known = so_far.known;
      stand = below_more (λ k. (t : SeatContents) → slice_get seats k ≡ Some t → StandOf (Some t.number) log seats end) i so_far.stand
          (λ t get. subst (λ (y : SeatContents). StandOf (Some y.number) log seats end) (here ∙ get_or_from_slice_get seats i t s get) stand);
      missing = so_far.missing;
    }

-- a submission that is missing earlier
pub search_less : (log : List Entry) (seats : List SeatContents) (i end p : ℕ) (s : SeatContents) → s ≡ get_or seats i s → p < end → StandOf (Some s.number) log seats p
    → IsMissingAt log seats p → Searched log seats i end → Searched log seats (i + 1) p
search_less log seats i end p s here less stand missing so_far =
    search_all log seats i p s here stand (record {
      within = omega (arith, so_far.within);
      known = λ q below. so_far.known q (omega arith);
      stand = λ k before t get q below. so_far.stand k before t get q (omega arith);
      missing = λ _. missing;
    })

some_seat : (seats : List SeatContents) (seat : Option ℕ) → is_known seats seat ≡ true
    → (k : ℕ) × (s : SeatContents) × (k < length seats) × (slice_get seats k ≡ Some s) × (same_seat (Some s.number) seat ≡ true)
some_seat [] seat known = absurd (true≢false (sym known))
some_seat (s ∷ seats) seat known = by_seat (same_seat (Some s.number) seat) refl (some_seat seats seat)
  where
    by_seat : (b : Bool) → same_seat (Some s.number) seat ≡ b
        → (is_known seats seat ≡ true → (k : ℕ) × (t : SeatContents) × (k < length seats) × (slice_get seats k ≡ Some t) × (same_seat (Some t.number) seat ≡ true))
        → (k : ℕ) × (t : SeatContents) × (k < length (s ∷ seats)) × (slice_get (s ∷ seats) k ≡ Some t) × (same_seat (Some t.number) seat ≡ true)
    by_seat true e later = (zero, s, omega arith, refl, e)
    by_seat false e later =
        let (k, t, less, get, same) = later (rw e at known) in
        (suc k, t, omega (arith, less), get, same)

-- where all seats were gone through, every submission before the index stands
pub all_before : (log : List Entry) (seats : List SeatContents) (i end : ℕ) → length seats ≤ i → Searched log seats i end → StandBefore log seats end
all_before log seats i end all so_far p below e get is =
    let (k, s, less, there, same) = some_seat seats e.seat (so_far.known p below e get is) in
    let seat : Some s.number ≡ e.seat = same_seat_is (Some s.number) e.seat same in
    so_far.stand k (omega arith) s there p below e get is (rw seat (same_itself e.seat))

pub seat_named : (seat : Option ℕ) (accepts : Bool) → accepts ≡ true → (is_some seat || not accepts) ≡ true → seat ≡ Some (unwrap_or seat 0)
seat_named (Some n) accepts it is = refl
seat_named None accepts it is = absurd (true≢false (sym is ∙ ap not it))

-- and the submission there is the first that is missing
pub first_missing : (log : List Entry) (seats : List SeatContents) (i end number : ℕ) (x : Entry) → length seats ≤ i → end < length log → x ≡ get_or log end x → AreSeated log
    → number ≡ accepted (take end log) → Searched log seats i end → IsMissing log seats (unwrap_or x.seat 0) number
first_missing log seats i end number x all less here seated counted so_far =
    let m = so_far.missing less in
    let same : x ≡ m.entry = here ∙ get_or_from_slice_get log end m.entry x m.there in
    let named : m.entry.seat ≡ Some (unwrap_or m.entry.seat 0)
    = seat_named m.entry.seat (is_accepted m.entry) m.accepted (all-at (λ (e : Entry). is_seated e ≡ true) log end m.entry m.there seated) in
    (end, m.entry, m.there, m.accepted, named ∙ ap (λ (e : Entry). Some (unwrap_or e.seat 0)) (sym same), counted, m.fails, all_before log seats i end all so_far)

-- Where each accepted submission stands in a receipt, there are at least as many receipts.

-- both parts of a conjunction

pub both_true : (a b : Bool) → (a && b) ≡ true → (a ≡ true) × (b ≡ true)
both_true true b e = (refl, e)
both_true false b e = cc

-- Numbers that hold each number below a bound

length_without : (n : ℕ) (xs : List ℕ) → length (filter (λ x. not (x == n)) xs) + times n xs ≡ length xs
length_without n [] = refl
length_without n (x ∷ xs) = by_number (x == n) (length_without n xs)
  where
    by_number : (b : Bool) → length (filter (λ x. not (x == n)) xs) + times n xs ≡ length xs
        → length (if not b then x ∷ filter (λ x. not (x == n)) xs else filter (λ x. not (x == n)) xs) + (if b then 1 + times n xs else times n xs) ≡ suc (length xs)
    by_number true e = omega arith
    by_number false e = omega arith

-- leaving one number out leaves the others
times_without : (n k : ℕ) (xs : List ℕ) → k < n → times k (filter (λ x. not (x == n)) xs) ≡ times k xs
times_without n k xs less = by_number (k == n) refl
  where
    by_number : (b : Bool) → (k == n) ≡ b → times k (filter (λ x. not (x == n)) xs) ≡ times k xs
    by_number true e = let same : k ≡ n = eqb-true k n e in absurd (omega arith)
    by_number false e = let w : times k (filter (λ x. not (x == n)) xs) ≡ times k xs = rw e at (times-filter k (λ x. not (x == n)) xs) in w

-- Each number below a count is the count before some index that counts

abbrev pub PlaceOf : {X : Type 0} → (X → Bool) → List X → ℕ → Type 0
PlaceOf {X = X} test xs k = (p : ℕ) × (x : X) × (p < length xs) × (slice_get xs p ≡ Some x) × (test x ≡ true) × (count_by test (take p xs) ≡ k)

place_before : {X : Type 0} (test : X → Bool) (xs : List X) (d : X) (n k : ℕ) → n ≤ length xs → k < count_by test (take n xs) → PlaceOf test xs k
place_before test xs d zero k within less = absurd (omega arith)
place_before test xs d (suc n) k within less = by_test (test (get_or xs n d)) refl (λ few. place_before test xs d n k (omega arith) few)
  where
    next : count_by test (take (suc n) xs) ≡ count_by test (take (n + 1) xs)
    next = let one_more : suc n ≡ n + 1 = omega arith in ap (λ m. count_by test (take m xs)) one_more

    by_test : (b : Bool) → test (get_or xs n d) ≡ b → (k < count_by test (take n xs) → PlaceOf test xs k) → PlaceOf test xs k
    by_test false e earlier =
        let same : count_by test (take (suc n) xs) ≡ count_by test (take n xs) = next ∙ count_by_more_no test xs n d (omega arith) e in
        earlier (omega (arith, same))
    by_test true e earlier = last (k == count_by test (take n xs)) refl
      where
        more : count_by test (take (suc n) xs) ≡ count_by test (take n xs) + 1
        more = next ∙ count_by_more_yes test xs n d (omega arith) e

        last : (b : Bool) → (k == count_by test (take n xs)) ≡ b → PlaceOf test xs k
        last true it = (n, get_or xs n d, omega arith, slice_get-get_or xs n d (omega arith), e, sym (eqb-true k (count_by test (take n xs)) it))
        last false it =
            let far : k ≡ count_by test (take n xs) → ⊥ = eqb-false k (count_by test (take n xs)) it in
            earlier (omega (arith, more, far))

pub place_of : {X : Type 0} (test : X → Bool) (xs : List X) (k : ℕ) → k < count_by test xs → PlaceOf test xs k
place_of test [] k less = absurd (omega arith)
place_of test (x ∷ xs) k less =
    place_before test (x ∷ xs) x (length (x ∷ xs)) k (omega arith) (rw (take_all (length (x ∷ xs)) (x ∷ xs) (omega arith)) less)

-- The numbers of receipts

abbrev pub numbers_of : List Receipt → List ℕ
numbers_of receipts = map (λ r. r.number) receipts

abbrev pub all_numbers : List SeatContents → List ℕ
all_numbers [] = []
all_numbers (s ∷ seats) = numbers_of s.receipts ++ all_numbers seats

pub length_all_numbers : (seats : List SeatContents) → length (all_numbers seats) ≡ receipts_of seats
length_all_numbers [] = refl
length_all_numbers (s ∷ seats) =
    omega (arith, length-append (numbers_of s.receipts) (all_numbers seats), length-map s.receipts (λ (r : Receipt). r.number), length_all_numbers seats, sum_by-cons (λ (s : SeatContents). length s.receipts) s seats)

first_true : (a b c d e : Bool) → (a && b && c && d && e) ≡ true → a ≡ true
first_true true b c d e is = refl
first_true false b c d e is = is

-- the number of a receipt is among the numbers
times_at : (number q cid : ℕ) (asked : Option Asked) (told : Option Status) (receipts : List Receipt) (place : ℕ)
    → is_receipt_of number q cid asked told (slice_get receipts place) ≡ true → 0 < times number (numbers_of receipts)
times_at number q cid asked told [] place it = absurd (true≢false (sym it))
times_at number q cid asked told (r ∷ receipts) zero it =
    let here : (r.number == number) ≡ true = first_true (r.number == number) (r.q == q) (r.cid == cid) (fits_asked r.asked asked) (fits_status r.status told) it in
    omega (arith, times-cons number r.number (numbers_of receipts), ap one here)
times_at number q cid asked told (r ∷ receipts) (suc place) it =
    omega (arith, times-cons number r.number (numbers_of receipts), times_at number q cid asked told receipts place it)

times_in : (seat : Option ℕ) (place number q cid : ℕ) (asked : Option Asked) (told : Option Status) (seats : List SeatContents)
    → list_any (has seat place number q cid asked told) seats ≡ true → 0 < times number (all_numbers seats)
times_in seat place number q cid asked told [] it = absurd (true≢false (sym it))
times_in seat place number q cid asked told (s ∷ seats) it = by_receipt (has seat place number q cid asked told s) refl (times_in seat place number q cid asked told seats)
  where
    by_receipt : (b : Bool) → has seat place number q cid asked told s ≡ b → (list_any (has seat place number q cid asked told) seats ≡ true → 0 < times number (all_numbers seats))
        → 0 < times number (all_numbers (s ∷ seats))
    by_receipt true e later =
        let both = both_true (same_seat (Some s.number) seat) (is_receipt_of number q cid asked told (slice_get s.receipts place)) e in
        omega (arith, times-append number (numbers_of s.receipts) (all_numbers seats), times_at number q cid asked told s.receipts place both.1)
    by_receipt false e later =
        omega (arith, times-append number (numbers_of s.receipts) (all_numbers seats), later (rw e at it))

-- where all submissions of a log stand, each number below their count is that of a receipt
pub each_number : (log : List Entry) (seats : List SeatContents) → AllStand log seats → (k : ℕ) → k < accepted log → 0 < times k (all_numbers seats)
each_number log seats stand k less =
    let found = place_of is_accepted log k less in
    at found.0 found.1 found.2 found.3 found.4 found.5
  where
    at : (p : ℕ) (e : Entry) → p < length log → slice_get log p ≡ Some e → is_accepted e ≡ true → accepted (take p log) ≡ k → 0 < times k (all_numbers seats)
    at p e within get is number =
        rw number at (times_in e.seat (accepted_of e.seat (take p log)) (accepted (take p log)) (queue_in e.step) (identifier_in e.step) (asked_in e.draft) (held (queue_in e.step) (identifier_in e.step) (drop (p + 1) log)) seats (stand p within e get is))

-- so there are at least as many receipts
pub enough_receipts : (log : List Entry) (seats : List SeatContents) → AllStand log seats → accepted log ≤ receipts_of seats
enough_receipts log seats stand = omega (arith, all-used (accepted log) (all_numbers seats) (each_number log seats stand), length_all_numbers seats)

-- A book that is closed.

-- the same of the lists that were looked at
pub stand_in : {now log : List Entry} {these seats : List SeatContents} → now ≡ log → these ≡ seats → AllStand now these → AllStand log seats
stand_in {now} {log} {these} {seats} logs same stand =
    subst (λ (l : List Entry). AllStand l seats) logs (subst (λ (s : List SeatContents). AllStand now s) same stand)

pub missing_in : {now log : List Entry} {these seats : List SeatContents} (seat number : ℕ) → now ≡ log → these ≡ seats → IsMissing now these seat number → IsMissing log seats seat number
missing_in {now} {log} {these} {seats} seat number logs same missing =
    subst (λ (l : List Entry). IsMissing l seats seat number) logs (subst (λ (s : List SeatContents). IsMissing now s seat number) same missing)

pub not_none : (n : ℕ) → (n == 0) ≡ false → 0 < n
not_none n isnt =
    let some : n ≡ 0 → ⊥ = eqb-false n 0 isnt in
    omega (arith, some)

-- a list that could not be made was to have some room
pub wanted : {A E : Type 0} (n : ℕ) (made : Result A E) {e : E} → (n ≡ 0 → IsOk made) → made ≡ Err e → 0 < n
wanted zero made none is = absurd (true≢false (sym (subst IsOk is (none refl))))
wanted (suc n) made none is = omega arith

-- once as many seats as are out were handed in, all parts of the ledger are back
pub all_parts_back : {b : Bool} {o w : State} {log : List Entry} {drafts : List DraftContents} {tally parts out made ledger : ℕ} → IsBook b o w log drafts tally parts out made ledger
    → (n joined : ℕ) → out ≤ n → joined ≡ parts + n → (0 < n → joined ≤ ledger) → joined ≡ ledger
all_parts_back b zero joined all is bound = omega (arith, b.shares, b.all_parts, all, is)
all_parts_back b (suc n) joined all is bound = omega (arith, b.shares, b.all_parts, all, is, bound (omega arith))

pub closes_book : {b : Bool} {o w : State} {log : List Entry} {drafts : List DraftContents} {tally total parts joined out made ledger : ℕ} → IsBook b o w log drafts tally parts out made ledger
    → total ≡ tally → joined ≡ ledger → IsBook b o w log drafts total joined 0 made ledger
closes_book b same back = record {
  legal = b.legal;
  submitted = b.submitted;
  sound = b.sound;
  counted = omega (arith, b.counted, same);
  numbered = b.numbered;
  seated = b.seated;
  jobs = b.jobs;
  shares = omega (arith, back, b.all_parts);
  all_parts = b.all_parts;
  given = omega arith;
  most = b.most;
}

pub closed_book : {at now : BookContents} → at ≡ now → (amount : ℕ) → amount ≡ accepted at.log
    → (let closed : BookContents = record at { out = 0; taken = amount } in closed) ≡ (let closed : BookContents = record now { out = 0; taken = accepted now.log } in closed)
closed_book same amount is = rw (← same, is) refl
