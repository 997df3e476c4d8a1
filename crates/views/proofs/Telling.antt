-- A walk tells the descriptors of its list, and ends as that does.
use Rattle.std.proofs.Common.{arith, ◌≡◌, ◌≤◌, ◌<◌, ◌+◌, ◌∙◌, ℕ, suc, Bool, true, false, not, List, Option, Some, None, refl, sym, ap, subst, length, nat_lt, append_assoc, append-nil, ◌-◌, ◌++◌, zero, [], ◌∷◌, add-zero, if◌then◌else◌, nat_le, option_and_then}
use Rattle.std.{proofs.lemmas.Bool.Decides.nat_tests, specs.{Option.option_map}}
use Rattle.controller_walk.proofs.{Courses.{from_none, from_missing, from_read}, Stands.{stands_at_first, step_does_unit}}
use Rattle.controller_walk.specs.Faults.{fault_met, fault_of, fault_status, answered_status, next_in, next_of}
use Rattle.controller_walk.specs.Laws.{Agree, IsApart, ReadsWithin, StandsAfter, DoesUnitAt, answer_at, after_units}
use Rattle.controller_walk.specs.Units.{Stays, Reads, Moves, Course, Closes, Does, units, verdict, course_of_list, Act}
use Rattle.controller_walk.specs.Walks.{course, is_over, is_more, need_of, direction_of, DoesFirst, LeavesRest, IfMore, answer, course_in}
use Rattle.controller_walk.specs.declared.{cause.{DescriptorAt.DescriptorAt, WalkFault.WalkFault}, cursor.Cursor.Cursor, progress.State.State}
use Rattle.controller_walk.specs.declared.{progress.State.TheVariants.{First, Next, Data, Over}, walk.{Walk.Walk, WalkState.WalkState}}
use Rattle.controller_walk.specs.declared.walk.WalkState.TheVariants.{More, End, Fault}
use Rattle.views.specs.Ending.{Goes, Ends, WalkedTo}
use Rattle.views.specs.Taking.{bytes_of, taken_at, taken_next, with_next, own, then_place, places_of, reads_of, HaveBytes, BeginWithOwn, AreOf, Begun, TellsTaken, ToldTo}
use Rattle.views.specs.declared.explain.list.Taken.{Taken}
use Rattle.page_memory.specs.Memory.{Memory, bytes_at}
use Rattle.sgl_descriptor.specs.declared.Direction.{Direction}

-- A walk goes on in its list, and ends as that does.

-- where there is no answer More, the unit was the last, and the answer is the verdict
last_answer : (c : Course) (t : ℕ) (result : WalkState) → result ≡ answer_at c t → is_more result ≡ false → (length (units c) ≤ suc t) × (result ≡ verdict c)
last_answer c t result same ends = by (nat_lt (suc t) (length (units c))) refl
  where
    no_more : result ≡ More → ⊥
    no_more e = clash (sym (ap is_more e) ∙ ends)
      where
        clash : true ≡ false → ⊥
        clash e = cc

    by : (b : Bool) → nat_lt (suc t) (length (units c)) ≡ b → (length (units c) ≤ suc t) × (result ≡ verdict c)
    by true is = absurd (no_more (same ∙ (rw is refl)))
    by false is = (grind (arith, nat_tests), same ∙ (rw is refl))

is_ended : (result : WalkState) (over : Bool) → over ≡ not (is_more result) → over ≡ true → is_more result ≡ false
is_ended More over e o = cc
is_ended End over e o = refl
is_ended (Fault s) over e o = refl

is_going : (result : WalkState) (over : Bool) (P : Type 0) → over ≡ not (is_more result) → over ≡ false → IfMore result P → P
is_going More over P e o h = h
is_going End over P e o h = cc
is_going (Fault s) over P e o h = cc

-- what a step makes of a walk that goes on
pub steps_on : (at : ℕ → Bool) (m : Memory) (c : Course) (w w' : Walk) (result : WalkState) (now now' : Memory) (bytes bytes' r r' : List ℕ) →
    IsApart at (direction_of w) c → Goes at m c w now → DoesFirst (course now w) (direction_of w) now now' bytes bytes' r r' → LeavesRest (course now w) result (course now w') →
    is_over w' ≡ not (is_more result) → fault_of w' ≡ fault_met now w → fault_status (fault_of w') ≡ answered_status result → WalkedTo (is_over w') at m c w' now'
steps_on at m c w w' result now now' bytes bytes' r r' apart goes does leaves over met status = to (is_over w') refl
  where
    done : DoesUnitAt at m c goes.unit w' result (direction_of w) now now' bytes bytes' r r'
    done = step_does_unit at m c goes.unit w w' result now now' bytes bytes' r r' apart goes.stands goes.agrees does leaves

    to : (b : Bool) → is_over w' ≡ b → WalkedTo b at m c w' now'
    to true is =
        let last : (length (units c) ≤ suc goes.unit) × (result ≡ verdict c) = last_answer c goes.unit result done.answers (is_ended result (is_over w') over is) in
        record {
          status = status ∙ ap answered_status last.1;
          last = w;
          now = now;
          going = goes;
          last_unit = last.0;
          met = met;
        }
    to false is = record {
      unit = suc goes.unit;
      agrees = done.agrees;
      stands = is_going result (is_over w') _ over is done.stands;
    }

-- a walk that begins
pub begins : (at : ℕ → Bool) (m : Memory) (sgl1 : List ℕ) (dir : Direction) (need : ℕ) (w : Walk) → IsApart at dir (course_of_list m sgl1 dir need) →
    ((now : Memory) → course now w ≡ course_of_list now sgl1 dir need) → Goes at m (course_of_list m sgl1 dir need) w m
begins at m sgl1 dir need w apart same = record {
  unit = 0;
  agrees = record { there = λ q. refl; same = λ q h. refl };
  stands = stands_at_first at m sgl1 dir need w apart.reads same;
}

-- a walk in the middle of its list, or at its end, and what it was as it began
pub record Standing (begun w : Walk) (before now : Memory) (bytes : List ℕ) : Type 0 where
  pub walked : (at : ℕ → Bool) (m : Memory) (c : Course) → IsApart at (direction_of begun) c → Goes at m c begun before → WalkedTo (is_over w) at m c w now
  pub direction : direction_of w ≡ direction_of begun
  pub need : need_of w ≡ need_of begun
  pub whole : length bytes ≡ need_of begun

pub stands_first : (w : Walk) (m : Memory) (bytes : List ℕ) → is_over w ≡ false → length bytes ≡ need_of w → Standing w w m m bytes
stands_first w m bytes is whole = record {
  walked = λ at list c apart goes. subst (λ (b : Bool). WalkedTo b at list c w m) (sym is) goes;
  direction = refl;
  need = refl;
  whole = whole;
}

pub stands_on : (begun w w' : Walk) (before now now' : Memory) (bytes bytes' : List ℕ) → Standing begun w before now bytes → is_over w ≡ false →
    ((at : ℕ → Bool) (m : Memory) (c : Course) → IsApart at (direction_of w) c → Goes at m c w now → WalkedTo (is_over w') at m c w' now') →
    direction_of w' ≡ direction_of w → need_of w' ≡ need_of w → length bytes' ≡ length bytes → Standing begun w' before now' bytes'
stands_on begun w w' before now now' bytes bytes' stands is steps direction need whole = record {
  walked = λ at m c apart goes. steps at m c (subst (λ (d : Direction). IsApart at d c) (sym stands.direction) apart)
      (subst (λ (b : Bool). WalkedTo b at m c w now) is (stands.walked at m c apart goes));
  direction = direction ∙ stands.direction;
  need = need ∙ stands.need;
  whole = whole ∙ stands.whole;
}

pub ends_so : (begun w : Walk) (before now : Memory) (bytes : List ℕ) (fault : Option WalkFault) → Standing begun w before now bytes → is_over w ≡ true → fault ≡ fault_of w →
    (at : ℕ → Bool) (m : Memory) (c : Course) → IsApart at (direction_of begun) c → Goes at m c begun before → Ends at m c fault
ends_so begun w before now bytes fault stands is same at m c apart goes =
    subst (λ (f : Option WalkFault). Ends at m c f) (sym same) (subst (λ (b : Bool). WalkedTo b at m c w now) is (stands.walked at m c apart goes))

-- all addresses are addresses of a list's descriptors
pub all_within : (c : Course) → ReadsWithin (λ q. true) c
all_within (Closes v) = tt
all_within (Does Stays rest) = all_within rest
all_within (Does (Reads place) rest) = (λ k lt. refl, all_within rest)
all_within (Does (Moves place n offset) rest) = all_within rest

-- A walk tells the descriptors of its list.

bytes_same : (m m' : Memory) (place n : ℕ) → ((k : ℕ) → k < n → m (place + k) ≡ m' (place + k)) → bytes_at m place n ≡ bytes_at m' place n
unfolding bytes_at
bytes_same m m' place zero h = refl
bytes_same m m' place (suc n) h =
    let first : m place ≡ m' place = subst (λ (q : ℕ). m q ≡ m' q) (add-zero place) (h 0 (omega arith)) in
    let rest : bytes_at m (place + 1) n ≡ bytes_at m' (place + 1) n = bytes_same m m' (place + 1) n (λ k lt. subst (λ (q : ℕ). m q ≡ m' q) (one_more place k) (h (suc k) (omega arith))) in
    rw (first, rest) refl
  where
    one_more : (place k : ℕ) → place + suc k ≡ place + 1 + k
    one_more place k = omega arith

-- One step

-- What a step takes where its unit reads an address, and where it does not: a descriptor at that address, or none from memory.
abbrev TakesBy : Act → Option Taken → Type 0
TakesBy (Reads place) None = ⊥
TakesBy (Reads place) (Some taken) = taken.at.place ≡ Some place
TakesBy Stays None = Unit {0}
TakesBy Stays (Some taken) = taken.at.place ≡ None
TakesBy (Moves place n offset) None = Unit {0}
TakesBy (Moves place n offset) (Some taken) = taken.at.place ≡ None

abbrev ReadsNext : Walk → Type 0
ReadsNext w = (m : Memory) (place : ℕ) (rest : Course) → course m w ≡ Does (Reads place) rest → option_and_then (λ (at : DescriptorAt). at.place) (next_of w) ≡ Some place

abbrev act_of : Course → Act
act_of (Closes v) = Stays
act_of (Does a rest) = a

does_some : (v : WalkState) (a : Act) (rest : Course) → Closes v ≡ Does a rest → ⊥
does_some v a rest e = clash (ap (λ (c : Course). is_done c) e)
  where
    is_done : Course → Bool
    is_done (Closes v) = true
    is_done (Does a rest) = false

    clash : true ≡ false → ⊥
    clash e = cc

if_allowed : (b : Bool) (taken : Taken) → taken.at.place ≡ None → TakesBy Stays (if b then Some taken else None)
if_allowed true taken e = e
if_allowed false taken e = tt

none_allowed : (b : Bool) (f : List ℕ → Taken) (bytes : Option (List ℕ)) → bytes ≡ None → TakesBy Stays (if b then option_map f bytes else None)
none_allowed true f bytes e = rw e tt
none_allowed false f bytes e = tt

by_act : (a b : Act) (taken : Option Taken) → a ≡ b → TakesBy a taken → TakesBy b taken
by_act a b taken e h = subst (λ (x : Act). TakesBy x taken) e h

takes_at : (now : Memory) (sgl1 : List ℕ) (n : ℕ) (w : Walk) (c : Cursor) (k : ℕ) (found : Option (List ℕ)) (a : Act) (rest : Course) → w.allowed ≡ k → bytes_at now c.place 16 ≡ found
    → course_in now w (Next c) ≡ Does a rest → TakesBy a (option_and_then (taken_at now sgl1 n) (next_in w (Next c)))
takes_at now sgl1 n w c zero found a rest none is e =
    by_act Stays a (option_and_then (taken_at now sgl1 n) (next_in w (Next c))) (ap act_of (sym (from_none w.allowed now w.direction w.need c w.wanted none) ∙ e)) too_many
  where
    too_many : TakesBy Stays (option_and_then (taken_at now sgl1 n) (next_in w (Next c)))
    too_many = rw none tt
takes_at now sgl1 n w c (suc k) None a rest some is e =
    by_act Stays a (option_and_then (taken_at now sgl1 n) (next_in w (Next c))) (ap act_of (sym (from_missing w.allowed now w.direction w.need c w.wanted (rw some (omega arith)) is) ∙ e))
    (none_allowed (nat_le (4097 - w.allowed) 4096) _ (bytes_at now c.place 16) is)
takes_at now sgl1 n w c (suc k) (Some bytes) a rest some is e =
    by_act (Reads c.place) a (option_and_then (taken_at now sgl1 n) (next_in w (Next c))) (ap act_of (sym (from_read w.allowed now w.direction w.need c w.wanted bytes (rw some (omega arith)) is) ∙ e)) here
  where
    few : nat_le (4097 - w.allowed) 4096 ≡ true
    few = rw some (grind (arith, nat_tests))

    here : TakesBy (Reads c.place) (option_and_then (taken_at now sgl1 n) (next_in w (Next c)))
    here = rw (few, is) refl

takes_in : (now : Memory) (sgl1 : List ℕ) (n : ℕ) (w : Walk) (s : State) (a : Act) (rest : Course)
    → ((place : ℕ) (rest : Course) → course_in now w s ≡ Does (Reads place) rest → option_and_then (λ (at : DescriptorAt). at.place) (next_in w s) ≡ Some place)
    → course_in now w s ≡ Does a rest → TakesBy a (option_and_then (taken_at now sgl1 n) (next_in w s))
takes_in now sgl1 n w (First bytes) a rest reads e =
    by_act Stays a (option_and_then (taken_at now sgl1 n) (next_in w (First bytes))) (ap act_of e) (if_allowed (nat_le (4096 - w.allowed) 4096) (record { at = record { number = 4096 - w.allowed; place = None }; bytes = sgl1; counted = n }) refl)
takes_in now sgl1 n w (Next c) a rest reads e = takes_at now sgl1 n w c w.allowed (bytes_at now c.place 16) a rest refl refl e
takes_in now sgl1 n w (Data block after) Stays rest reads e = tt
takes_in now sgl1 n w (Data block after) (Moves place len offset) rest reads e = tt
takes_in now sgl1 n w (Data block after) (Reads place) rest reads e = clash (reads place rest e)
  where
    clash : ◌≡◌ {A = Option ℕ} None (Some place) → ⊥
    clash e = cc
takes_in now sgl1 n w (Over fault) a rest reads e = absurd (does_some End a rest e)

takes : (now : Memory) (sgl1 : List ℕ) (w : Walk) (a : Act) (rest : Course) → ReadsNext w → course now w ≡ Does a rest → TakesBy a (taken_next now sgl1 w)
takes now sgl1 w a rest reads e = takes_in now sgl1 _ w w.state a rest (reads now) e

-- it has the bytes at its address
has_bytes : (now : Memory) (sgl1 : List ℕ) (n : ℕ) (next : Option DescriptorAt) (taken : Taken) → option_and_then (taken_at now sgl1 n) next ≡ Some taken → bytes_of now sgl1 taken.at.place ≡ Some taken.bytes
has_bytes now sgl1 n None taken e = cc
has_bytes now sgl1 n (Some it) taken e = by (nat_le it.number 4096) (bytes_of now sgl1 it.place) refl e
  where
    by : (b : Bool) (found : Option (List ℕ)) → bytes_of now sgl1 it.place ≡ found → (if b then option_map (λ (bytes : List ℕ). record { at = it; bytes = bytes; counted = n }) found else None) ≡ Some taken
        → bytes_of now sgl1 taken.at.place ≡ Some taken.bytes
    by false found is e = cc
    by true None is e = cc
    by true (Some bytes) is e = it_is (some_of e)
      where
        some_of : Some (record { at = it; bytes = bytes; counted = n }) ≡ Some taken → record { at = it; bytes = bytes; counted = n } ≡ taken
        some_of e = cc

        it_is : record { at = it; bytes = bytes; counted = n } ≡ taken → bytes_of now sgl1 taken.at.place ≡ Some taken.bytes
        it_is e = subst (λ (t : Taken). bytes_of now sgl1 t.at.place ≡ Some t.bytes) e is

-- All of a list

reads_rest : (at : ℕ → Bool) (a : Act) (rest : Course) → ReadsWithin at (Does a rest) → ReadsWithin at rest
reads_rest at Stays rest h = h
reads_rest at (Reads place) rest h = h.1
reads_rest at (Moves place n offset) rest h = h

reads_after : (at : ℕ → Bool) (t : ℕ) (c : Course) → ReadsWithin at c → ReadsWithin at (after_units t c)
reads_after at zero c h = h
reads_after at (suc t) (Closes v) h = h
reads_after at (suc t) (Does a rest) h = reads_after at t rest (reads_rest at a rest h)

after_next : (t : ℕ) (c : Course) (a : Act) (rest : Course) → after_units t c ≡ Does a rest → after_units (suc t) c ≡ rest
after_next zero (Closes v) a rest e = absurd (does_some v a rest e)
after_next zero (Does b left) a rest e = ap behind e
  where
    behind : Course → Course
    behind (Closes v) = Closes v
    behind (Does a rest) = rest
after_next (suc t) (Closes v) a rest e = absurd (does_some v a rest e)
after_next (suc t) (Does b left) a rest e = after_next t left a rest e

place_behind : (place : Option ℕ) (places all : List ℕ) (taken : Taken) → all ≡ places ++ then_place taken.at.place [] → then_place place all ≡ then_place place places ++ then_place taken.at.place []
place_behind None places all taken e = e
place_behind (Some p) places all taken e = ap (λ (ps : List ℕ). p ∷ ps) e

places_behind : (told : List Taken) (taken : Taken) → places_of (told ++ taken ∷ []) ≡ places_of told ++ then_place taken.at.place []
places_behind [] taken = refl
places_behind (first ∷ told) taken = place_behind first.at.place (places_of told) (places_of (told ++ taken ∷ [])) taken (places_behind told taken)

joins : (a : Act) (next : Option Taken) (told : List Taken) (rest : Course) → TakesBy a next → places_of (with_next told next) ++ reads_of rest ≡ places_of told ++ reads_of (Does a rest)
joins (Reads place) None told rest by = absurd by
joins (Reads place) (Some taken) told rest by =
    (rw (places_behind told taken, by) refl) ∙ append_assoc (places_of told) (place ∷ []) (reads_of rest)
joins Stays None told rest by = refl
joins Stays (Some taken) told rest by = (rw (places_behind told taken, by) refl) ∙ (ap (λ (ps : List ℕ). ps ++ reads_of rest) (append-nil (places_of told)))
joins (Moves place n offset) None told rest by = refl
joins (Moves place n offset) (Some taken) told rest by = (rw (places_behind told taken, by) refl) ∙ (ap (λ (ps : List ℕ). ps ++ reads_of rest) (append-nil (places_of told)))

have_behind : (m : Memory) (sgl1 : List ℕ) (told : List Taken) (taken : Taken) → HaveBytes m sgl1 told → bytes_of m sgl1 taken.at.place ≡ Some taken.bytes → HaveBytes m sgl1 (told ++ taken ∷ [])
have_behind m sgl1 [] taken have one = (one, tt)
have_behind m sgl1 (first ∷ told) taken have one = (have.0, have_behind m sgl1 told taken have.1 one)

-- the memory of the list has the same bytes there
same_bytes : (at : ℕ → Bool) (m now : Memory) (sgl1 : List ℕ) (a : Act) (rest : Course) (taken : Taken) → Agree at m now → ReadsWithin at (Does a rest) → TakesBy a (Some taken)
    → bytes_of now sgl1 taken.at.place ≡ Some taken.bytes → bytes_of m sgl1 taken.at.place ≡ Some taken.bytes
same_bytes at m now sgl1 Stays rest taken agree within by is = same_own by is
  where
    same_own : taken.at.place ≡ None → bytes_of now sgl1 taken.at.place ≡ Some taken.bytes → bytes_of m sgl1 taken.at.place ≡ Some taken.bytes
    same_own by is = subst (λ (p : Option ℕ). bytes_of m sgl1 p ≡ Some taken.bytes) (sym by) (subst (λ (p : Option ℕ). bytes_of now sgl1 p ≡ Some taken.bytes) by is)
same_bytes at m now sgl1 (Moves place n offset) rest taken agree within by is =
    subst (λ (p : Option ℕ). bytes_of m sgl1 p ≡ Some taken.bytes) (sym by) (subst (λ (p : Option ℕ). bytes_of now sgl1 p ≡ Some taken.bytes) by is)
same_bytes at m now sgl1 (Reads place) rest taken agree within by is =
    subst (λ (p : Option ℕ). bytes_of m sgl1 p ≡ Some taken.bytes) (sym by)
    (bytes_same m now place 16 (λ k lt. agree.same (place + k) (within.0 k lt)) ∙ subst (λ (p : Option ℕ). bytes_of now sgl1 p ≡ Some taken.bytes) by is)

have_next : (at : ℕ → Bool) (m now : Memory) (sgl1 : List ℕ) (w : Walk) (a : Act) (rest : Course) (told : List Taken) (next : Option Taken) → taken_next now sgl1 w ≡ next → Agree at m now
    → ReadsWithin at (Does a rest) → TakesBy a next → HaveBytes m sgl1 told → HaveBytes m sgl1 (with_next told next)
have_next at m now sgl1 w a rest told None is agree within by have = have
have_next at m now sgl1 w a rest told (Some taken) is agree within by have =
    have_behind m sgl1 told taken have (same_bytes at m now sgl1 a rest taken agree within by (has_bytes now sgl1 _ (next_of w) taken is))

begun_next : (unit : ℕ) (now : Memory) (sgl1 : List ℕ) (told : List Taken) (w w' : Walk) → Begun unit told w → Begun (suc unit) (with_next told (taken_next now sgl1 w)) w'
begun_next zero now sgl1 told w w' begun = rw (begun.0, begun.1) refl
begun_next (suc unit) now sgl1 [] w w' begun = elim begun [ ]
begun_next (suc unit) now sgl1 (first ∷ told) w w' begun = by (taken_next now sgl1 w)
  where
    by : (next : Option Taken) → BeginWithOwn (with_next (first ∷ told) next)
    by None = begun
    by (Some taken) = begun

pub tells_on : (at : ℕ → Bool) (m : Memory) (sgl1 : List ℕ) (c : Course) (told : List Taken) (w w' : Walk) (result : WalkState) (now now' : Memory) (bytes bytes' r r' : List ℕ) →
    ReadsNext w → IsApart at (direction_of w) c → TellsTaken at m sgl1 c told w now → DoesFirst (course now w) (direction_of w) now now' bytes bytes' r r' → LeavesRest (course now w) result (course now w') →
    is_over w' ≡ not (is_more result) → ToldTo (is_over w') at m sgl1 c (with_next told (taken_next now sgl1 w)) w' now'
tells_on at m sgl1 c told w w' result now now' bytes bytes' r r' reads apart tells does leaves over = by (after_units tells.unit c) refl
  where
    is_now : course now w ≡ after_units tells.unit c
    is_now = tells.stands now tells.agrees

    done : DoesUnitAt at m c tells.unit w' result (direction_of w) now now' bytes bytes' r r'
    done = step_does_unit at m c tells.unit w w' result now now' bytes bytes' r r' apart tells.stands tells.agrees does leaves

    more_false : (result : WalkState) (P : Type 0) → not (is_more result) ≡ false → IfMore result P → P
    more_false More P o h = h
    more_false End P o h = cc
    more_false (Fault s) P o h = cc

    none_read : (result : WalkState) (rest : Course) → result ≡ answer rest → not (is_more result) ≡ true → reads_of rest ≡ []
    none_read result (Closes v) e o = refl
    none_read result (Does a rest) e o = clash (ap (λ (x : WalkState). not (is_more x)) (sym e) ∙ o)
      where
        clash : false ≡ true → reads_of (Does a rest) ≡ []
        clash e = cc

    by : (x : Course) → after_units tells.unit c ≡ x → ToldTo (is_over w') at m sgl1 c (with_next told (taken_next now sgl1 w)) w' now'
    by (Closes v) is = absurd (subst (λ (x : Course). DoesFirst x (direction_of w) now now' bytes bytes' r r') (is_now ∙ is) does)
    by (Does a rest) is = to (is_over w') refl
      where
        taking : TakesBy a (taken_next now sgl1 w)
        taking = takes now sgl1 w a rest reads (is_now ∙ is)

        within : ReadsWithin at (Does a rest)
        within = subst (λ (x : Course). ReadsWithin at x) is (reads_after at tells.unit c apart.reads)

        have : HaveBytes m sgl1 (with_next told (taken_next now sgl1 w))
        have = have_next at m now sgl1 w a rest told (taken_next now sgl1 w) refl tells.agrees within taking tells.bytes

        places : places_of (with_next told (taken_next now sgl1 w)) ++ reads_of rest ≡ reads_of c
        places = joins a (taken_next now sgl1 w) told rest taking ∙ (ap (λ (x : Course). places_of told ++ reads_of x) (sym is) ∙ tells.places)

        left : LeavesRest (Does a rest) result (course now w')
        left = subst (λ (x : Course). LeavesRest x result (course now w')) (is_now ∙ is) leaves

        to : (b : Bool) → is_over w' ≡ b → ToldTo b at m sgl1 c (with_next told (taken_next now sgl1 w)) w' now'
        to true o = record {
          first = begun_next tells.unit now sgl1 told w w' tells.begun;
          bytes = have;
          places = sym (append-nil _) ∙ (ap (λ (ps : List ℕ). places_of (with_next told (taken_next now sgl1 w)) ++ ps) (sym (none_read result rest left.0 (sym over ∙ o))) ∙ places);
        }
        to false o = record {
          unit = suc tells.unit;
          agrees = done.agrees;
          stands = more_false result _ (sym over ∙ o) done.stands;
          begun = begun_next tells.unit now sgl1 told w w' tells.begun;
          bytes = have;
          places = ap (λ (x : Course). places_of (with_next told (taken_next now sgl1 w)) ++ reads_of x) (after_next tells.unit c a rest is) ∙ places;
        }

-- a walk that begins
pub tells_none : (at : ℕ → Bool) (m : Memory) (sgl1 : List ℕ) (c : Course) (w : Walk) → StandsAfter at m 0 c w → next_of w ≡ Some own → TellsTaken at m sgl1 c [] w m
tells_none at m sgl1 c w stands next = record {
  unit = 0;
  agrees = record { there = λ q. refl; same = λ q h. refl };
  stands = stands;
  begun = (refl, next);
  bytes = tt;
  places = refl;
}

-- a walk in the middle of its list, or at its end, and what it told
pub record Telling (begun w : Walk) (before now : Memory) (sgl1 : List ℕ) (told : List Taken) : Type 0 where
  pub tells : (at : ℕ → Bool) (m : Memory) (c : Course) → IsApart at (direction_of begun) c → TellsTaken at m sgl1 c [] begun before → ToldTo (is_over w) at m sgl1 c told w now
  pub direction : direction_of w ≡ direction_of begun

pub telling_first : (w : Walk) (m : Memory) (sgl1 : List ℕ) → is_over w ≡ false → Telling w w m m sgl1 []
telling_first w m sgl1 is = record {
  tells = λ at list c apart tells. subst (λ (b : Bool). ToldTo b at list sgl1 c [] w m) (sym is) tells;
  direction = refl;
}

pub telling_on : (begun w w' : Walk) (before now now' : Memory) (sgl1 : List ℕ) (told told' : List Taken) → Telling begun w before now sgl1 told → is_over w ≡ false →
    ((at : ℕ → Bool) (m : Memory) (c : Course) → IsApart at (direction_of w) c → TellsTaken at m sgl1 c told w now → ToldTo (is_over w') at m sgl1 c told' w' now') →
    direction_of w' ≡ direction_of w → Telling begun w' before now' sgl1 told'
telling_on begun w w' before now now' sgl1 told told' telling is steps direction = record {
  tells = λ at m c apart tells. steps at m c (subst (λ (d : Direction). IsApart at d c) (sym telling.direction) apart)
      (subst (λ (b : Bool). ToldTo b at m sgl1 c told w now) is (telling.tells at m c apart tells));
  direction = direction ∙ telling.direction;
}

pub told_more : (told items : List Taken) (next : Option Taken) (taken : Taken) → next ≡ Some taken → items ≡ told ++ taken ∷ [] → with_next told next ≡ items
told_more told items next taken is e = (rw is refl) ∙ sym e

pub told_same : (told : List Taken) (next : Option Taken) → next ≡ None → with_next told next ≡ told
told_same told next is = rw is refl

pub told_all : (begun w : Walk) (before now : Memory) (sgl1 : List ℕ) (told : List Taken) → Telling begun w before now sgl1 told → is_over w ≡ true →
    (at : ℕ → Bool) (m : Memory) (c : Course) → IsApart at (direction_of begun) c → TellsTaken at m sgl1 c [] begun before → AreOf m sgl1 c told
told_all begun w before now sgl1 told telling is at m c apart tells = subst (λ (b : Bool). ToldTo b at m sgl1 c told w now) is (telling.tells at m c apart tells)
