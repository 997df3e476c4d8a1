-- Where a walk stands in its list, and what a step does there.
use Rattle.std.proofs.Common.{arith, ◌≡◌, ◌<◌, ◌≤◌, ◌+◌, ◌-◌, ℕ, zero, suc, Bool, true, false, List, Option, Some, None, refl, sym, ap, subst, ◌∙◌, cond, is_some, nat_lt, length, slice_range, inl, inr, add-zero}
use Rattle.std.{proofs.lemmas.{Bool.{cases_lt, Decides.nat_tests}, Grind.common_steps}, specs.List.{slice_get, slice_index}}
use Rattle.page_memory.{proofs.Bytes.{written_in as byte_written, written_before, written_after}, specs.Memory.{Memory, bytes_at, written, joined}}
use Rattle.sgl_descriptor.specs.declared.Direction.{Direction, TheVariants.{Destination, Source}}
use Rattle.controller_walk.proofs.Same.{list_same, walk_same}
use Rattle.controller_walk.specs.Laws.{Agree, ReadsWithin, OverwritesNothing, after_units, StandsAfter, StandsAtFirst, answer_at, DoesUnit, StepDoesUnit}
use Rattle.controller_walk.specs.Units.{Act, Stays, Reads, Moves, Course, Closes, Does, units, verdict}
use Rattle.controller_walk.specs.{Walks.{course, answer, Effect, DoesFirst, LeavesRest, IfMore, direction_of}, declared.progress.Progress.Progress}
use Rattle.controller_walk.specs.declared.walk.WalkState.{WalkState, TheVariants.{More}}

agree_sym : (at : ℕ → Bool) (m m' : Memory) → Agree at m m' → Agree at m' m
agree_sym at m m' agree = record { there = λ q. sym (agree.there q); same = λ q h. sym (agree.same q h) }

agree_both : (at : ℕ → Bool) (m m' m'' : Memory) → Agree at m m' → Agree at m' m'' → Agree at m m''
agree_both at m m' m'' a b = record { there = λ q. a.there q ∙ b.there q; same = λ q h. a.same q h ∙ b.same q h }

agree_equal : (at : ℕ → Bool) (m m' : Memory) → m' ≡ m → Agree at m m'
agree_equal at m m' same = record { there = λ q. ap (λ (x : Memory). is_some (x q)) (sym same); same = λ q h. ap (λ (x : Memory). x q) (sym same) }

-- each of the bytes starting at an address is there
byte_there : (m : Memory) (place n : ℕ) (found : List ℕ) → bytes_at m place n ≡ Some found → (k : ℕ) → k < n → is_some (m (place + k)) ≡ true
unfolding bytes_at
byte_there m place zero found e k lt = absurd (omega arith)
byte_there m place (suc n) found e zero lt = rw (add-zero place) (head (m place) (bytes_at m (place + 1) n) e)
  where
    head : (a : Option ℕ) (b : Option (List ℕ)) → joined a b ≡ Some found → is_some a ≡ true
    head (Some x) b h = refl
    head None b h = cc
byte_there m place (suc n) found e (suc k) lt =
    let rest : (bytes : List ℕ) × (bytes_at m (place + 1) n ≡ Some bytes) = tail (m place) (bytes_at m (place + 1) n) e in
    subst (λ (q : ℕ). is_some (m q) ≡ true) (one_more place k) (byte_there m (place + 1) n rest.0 rest.1 k (omega arith))
  where
    tail : (a : Option ℕ) (b : Option (List ℕ)) → joined a b ≡ Some found → (bytes : List ℕ) × (b ≡ Some bytes)
    tail (Some x) (Some xs) h = (xs, refl)
    tail (Some x) None h = cc
    tail None (Some xs) h = cc
    tail None None h = cc

    one_more : (place k : ℕ) → place + 1 + k ≡ place + suc k
    one_more place k = omega arith

written_in : (m : Memory) (place q : ℕ) (bytes : List ℕ) → place ≤ q → q < place + length bytes → is_some (written m place bytes q) ≡ true
written_in m place q bytes low high = ap is_some (byte_written m place q bytes low high)

-- a write to addresses that are there, outside of those that are kept
agree_written : (at : ℕ → Bool) (m : Memory) (place n : ℕ) (found bytes : List ℕ) → bytes_at m place n ≡ Some found → length bytes ≤ n →
    ((k : ℕ) → k < n → at (place + k) ≡ false) → Agree at m (written m place bytes)
agree_written at m place n found bytes there few out = record { there = λ q. stays q; same = λ q h. keeps q h }
  where
    inside : (q : ℕ) → place ≤ q → place + (q - place) ≡ q
    inside q low = omega arith

    stays : (q : ℕ) → is_some (m q) ≡ is_some (written m place bytes q)
    stays q = elim (cases_lt q place) [
      | inl before ↦ ap is_some (sym (written_before m place q bytes before))
      | inr from ↦ elim (cases_lt q (place + length bytes)) [
        | inl within ↦ subst (λ (x : ℕ). is_some (m x) ≡ true) (inside q (omega arith)) (byte_there m place n found there (q - place) (omega arith)) ∙ sym (written_in m place q bytes (omega arith) within)
        | inr behind ↦ ap is_some (sym (written_after m place q bytes (omega arith)))
      ]
    ]

    keeps : (q : ℕ) → at q ≡ true → m q ≡ written m place bytes q
    keeps q kept = elim (cases_lt q place) [
      | inl before ↦ sym (written_before m place q bytes before)
      | inr from ↦ elim (cases_lt q (place + length bytes)) [
        | inl within ↦ absurd (both (at q) kept (subst (λ (x : ℕ). at x ≡ false) (inside q (omega arith)) (out (q - place) (omega arith))))
        | inr behind ↦ sym (written_after m place q bytes (omega arith))
      ]
    ]
      where
        both : (b : Bool) → b ≡ true → b ≡ false → ⊥
        both b yes' no' = cc

few_moved : (offset n : ℕ) (bytes : List ℕ) → length (slice_range bytes offset (offset + n)) ≤ n
few_moved offset n bytes = grind (arith, common_steps)

-- a move of a list that overwrites none of its descriptors
move_agrees : (at : ℕ → Bool) (dir : Direction) (place n offset : ℕ) (rest : Course) (m m' : Memory) (bytes bytes' : List ℕ) →
    OverwritesNothing at dir (Does (Moves place n offset) rest) → Effect dir (Moves place n offset) m m' bytes bytes' → Agree at m m'
move_agrees at Source place n offset rest m m' bytes bytes' apart h = agree_equal at m m' h.1
move_agrees at Destination place n offset rest m m' bytes bytes' apart h =
    rw h.0.2 (agree_written at m place n h.0.0 (slice_range bytes offset (offset + n)) h.0.1 (few_moved offset n bytes) apart.0)

act_agrees : (at : ℕ → Bool) (dir : Direction) (a : Act) (rest : Course) (m m' : Memory) (bytes bytes' : List ℕ) →
    OverwritesNothing at dir (Does a rest) → Effect dir a m m' bytes bytes' → Agree at m m'
act_agrees at dir (Moves place n offset) rest m m' bytes bytes' apart h = move_agrees at dir place n offset rest m m' bytes bytes' apart h
act_agrees at dir v rest m m' bytes bytes' apart h = agree_equal at m m' h.0

overwrites_rest : (at : ℕ → Bool) (dir : Direction) (a : Act) (rest : Course) → OverwritesNothing at dir (Does a rest) → OverwritesNothing at dir rest
overwrites_rest at Source a rest h = tt
overwrites_rest at Destination Stays rest h = h
overwrites_rest at Destination (Reads place) rest h = h
overwrites_rest at Destination (Moves place n offset) rest h = h.1

reads_rest : (at : ℕ → Bool) (a : Act) (rest : Course) → ReadsWithin at (Does a rest) → ReadsWithin at rest
reads_rest at (Reads place) rest h = h.1
reads_rest at v rest h = h

reads_after : (at : ℕ → Bool) (t : ℕ) (c : Course) → ReadsWithin at c → ReadsWithin at (after_units t c)
reads_after at zero c h = h
reads_after at (suc t) (Closes v) h = h
reads_after at (suc t) (Does a rest) h = reads_after at t rest (reads_rest at a rest h)

-- the first of what is left after t units is unit t
unit_at : (t : ℕ) (c : Course) (dir : Direction) (m m' : Memory) (bytes bytes' r r' : List ℕ) → DoesFirst (after_units t c) dir m m' bytes bytes' r r' →
    DoesUnit (slice_get (units c) t) dir m m' bytes bytes' r r'
unit_at zero (Closes v) dir m m' bytes bytes' r r' h = absurd h
unit_at zero (Does a rest) dir m m' bytes bytes' r r' h = h
unit_at (suc t) (Closes v) dir m m' bytes bytes' r r' h = absurd h
unit_at (suc t) (Does a rest) dir m m' bytes bytes' r r' h = unit_at t rest dir m m' bytes bytes' r r' h

agrees_at : (at : ℕ → Bool) (t : ℕ) (c : Course) (dir : Direction) (m m' : Memory) (bytes bytes' r r' : List ℕ) → OverwritesNothing at dir c →
    DoesFirst (after_units t c) dir m m' bytes bytes' r r' → Agree at m m'
agrees_at at zero (Closes v) dir m m' bytes bytes' r r' apart h = absurd h
agrees_at at zero (Does a rest) dir m m' bytes bytes' r r' apart h = act_agrees at dir a rest m m' bytes bytes' apart h.0
agrees_at at (suc t) (Closes v) dir m m' bytes bytes' r r' apart h = absurd h
agrees_at at (suc t) (Does a rest) dir m m' bytes bytes' r r' apart h = agrees_at at t rest dir m m' bytes bytes' r r' (overwrites_rest at dir a rest apart) h

last_answer : (a : Act) (rest : Course) → answer rest ≡ answer_at (Does a rest) 0
last_answer a (Closes v) = refl
last_answer a (Does b rest) = rw (more (length (units rest))) refl
  where
    more : (n : ℕ) → nat_lt 1 (suc (suc n)) ≡ true
    more n = grind (arith, nat_tests)

answer_behind : (a : Act) (rest : Course) (t : ℕ) → answer_at rest t ≡ answer_at (Does a rest) (suc t)
answer_behind a rest t = ap (λ (b : Bool). cond b More (verdict rest)) (less (suc t) (length (units rest)))
  where
    less : (x y : ℕ) → nat_lt x y ≡ nat_lt (suc x) (suc y)
    less x y = grind (arith, nat_tests)

answers_at : (t : ℕ) (c left : Course) (result : WalkState) → LeavesRest (after_units t c) result left → result ≡ answer_at c t
answers_at zero (Closes v) left result h = absurd h
answers_at zero (Does a rest) left result h = h.0 ∙ last_answer a rest
answers_at (suc t) (Closes v) left result h = absurd h
answers_at (suc t) (Does a rest) left result h = answers_at t rest left result h ∙ answer_behind a rest t

left_at : (t : ℕ) (c left : Course) (result : WalkState) → LeavesRest (after_units t c) result left → IfMore result (left ≡ after_units (suc t) c)
left_at zero (Closes v) left result h = absurd h
left_at zero (Does a rest) left result h = h.1
left_at (suc t) (Closes v) left result h = absurd h
left_at (suc t) (Does a rest) left result h = left_at t rest left result h

if_more : (r : WalkState) (P Q : Type 0) → (P → Q) → IfMore r P → IfMore r Q
if_more More P Q f h = f h
if_more v P Q f h = tt

-- a walk that stands in its list in one memory stands so in each that agrees with it
stands_in : (at : ℕ → Bool) (m now : Memory) (t : ℕ) (c : Course) (w : Progress) → Agree at m now → ReadsWithin at c → course now w ≡ after_units t c → StandsAfter at m t c w
stands_in at m now t c w agree reads same later agree' =
    let looks : ReadsWithin at (course now w) = subst (ReadsWithin at) (sym same) (reads_after at t c reads) in
    sym (walk_same at now later (agree_both at now m later (agree_sym at m now agree) agree') w looks) ∙ same

pub stands_at_first : (at : ℕ → Bool) (m : Memory) (sgl1 : List ℕ) (dir : Direction) (need : ℕ) (w : Progress) → StandsAtFirst at m sgl1 dir need w
stands_at_first at m sgl1 dir need w reads begins now agree = begins now ∙ sym (list_same m now at sgl1 dir need agree reads)

pub step_does_unit : (at : ℕ → Bool) (m : Memory) (c : Course) (t : ℕ) (w w' : Progress) (result : WalkState) → StepDoesUnit at m c t w w' result
step_does_unit at m c t w w' result now now' bytes bytes' r r' apart stands agree does leaves =
    let does' : DoesFirst (after_units t c) (direction_of w) now now' bytes bytes' r r' =
    subst (λ (x : Course). DoesFirst x (direction_of w) now now' bytes bytes' r r') (stands now agree) does in
    let leaves' : LeavesRest (after_units t c) result (course now w') = subst (λ (x : Course). LeavesRest x result (course now w')) (stands now agree) leaves in
    record {
      unit = unit_at t c (direction_of w) now now' bytes bytes' r r' does';
      answers = answers_at t c (course now w') result leaves';
      agrees = agree_both at m now now' agree (agrees_at at t c (direction_of w) now now' bytes bytes' r r' apart.moves does');
      stands = if_more result _ _ (λ same. stands_in at m now (suc t) c w' agree apart.reads same) (left_at t c (course now w') result leaves');
    }
