-- Positions in a ring, its slots and phases, and the rings as lists.
use Rattle.std.proofs.Common.{◌≡◌, ◌≢◌, ◌⊎◌, inl, inr, ℕ, zero, suc, ◌+◌, ◌-◌, ◌<◌, ◌≤◌, List, Option, Some, length, get_or, refl, sym, ap, ◌∙◌, subst, add-zero, arith, ◌↔◌, ◌%◌, ◌++◌, ◌∷◌, [], true, false, map, Bool, not, cond, leb, None}
use Rattle.std.proofs.Math.Nat.{mod_self, mod-eq_of_lt, add-mod_left, add-mod_right, mod-add-mod}
use Rattle.std.{proofs.lemmas.Bool.{cases_lt, cases_eq, eqb-false, eqb-true, eq-eqb, ne_eqb, Decides.nat_tests}, specs.Bool.beq}
use Rattle.std.specs.Option.{option_map, option_and_then}
use Rattle.page_memory.{proofs.Bytes.{bytes_held, written_in, written_before, written_after}, specs.Memory.{Memory, bytes_at, written}}
use Rattle.entry_codec.specs.{Completion.completion_of, Submission.submission_of, declared.{completion.ComEntry.ComEntry, submission.SubEntry.SubEntry}}
use Rattle.queue_pair.specs.Lists.{entries_between, completions_from, front, phase_of_slot, PhasesStand, HasPhases, expected_phase}
use Rattle.queue_pair.specs.Memory.{submission_place, completion_place, entry_at, completion_at, with_phase, new_completion_at}
use Rattle.queue_pair.specs.{Rings.{HostSide, ControllerSide, next_phase}, Slots.{next_slot, distance, is_full, is_in_range, slots_from, slots_between, moved}}

-- The bytes of slots, before and after a write.

one_more : (place k : ℕ) → place + 1 + k ≡ place + suc k
one_more place k = omega arith

-- memories that agree on a range show the same bytes there
pub bytes_agree : (m m' : Memory) (place n : ℕ) → ((k : ℕ) → k < n → m (place + k) ≡ m' (place + k)) → bytes_at m place n ≡ bytes_at m' place n
unfolding bytes_at
bytes_agree m m' place zero same = refl
bytes_agree m m' place (suc n) same =
    let first : m place ≡ m' place = subst (λ (q : ℕ). m q ≡ m' q) (add-zero place) (same 0 (omega arith)) in
    let rest : bytes_at m (place + 1) n ≡ bytes_at m' (place + 1) n =
    bytes_agree m m' (place + 1) n (λ k lt. subst (λ (q : ℕ). m q ≡ m' q) (sym (one_more place k)) (same (suc k) (omega arith))) in
    rw (first, rest) refl

-- a range that lies before the bytes that are written, or after them
pub bytes_apart : (m : Memory) (place q n : ℕ) (bytes : List ℕ) → (q + n ≤ place) ⊎ (place + length bytes ≤ q) → bytes_at (written m place bytes) q n ≡ bytes_at m q n
bytes_apart m place q n bytes apart =
    bytes_agree (written m place bytes) m q n (λ k lt. elim apart [
      | inl before ↦ written_before m place (q + k) bytes (omega arith)
      | inr after ↦ written_after m place (q + k) bytes (omega arith)
    ])

-- the bytes that are written
pub bytes_back : (m : Memory) (place n : ℕ) (bytes : List ℕ) → length bytes ≡ n → bytes_at (written m place bytes) place n ≡ Some bytes
bytes_back m place n bytes count =
    rw (← count) (bytes_held (written m place bytes) place bytes (λ k lt. written_in m place (place + k) bytes (omega arith) (omega arith) ∙ ap (λ (i : ℕ). Some (get_or bytes i 0)) (behind place k)))
  where
    behind : (place k : ℕ) → place + k - place ≡ k
    behind place k = omega arith

-- slots after a write to one of them
pub entry_back : (m : Memory) (sq slot : ℕ) (bytes : List ℕ) → length bytes ≡ 64 → entry_at (written m (submission_place sq slot) bytes) sq slot ≡ Some (submission_of bytes)
entry_back m sq slot bytes count = ap (λ (b : Option (List ℕ)). option_map submission_of b) (bytes_back m (submission_place sq slot) 64 bytes count)

pub completion_back : (m : Memory) (cq slot : ℕ) (bytes : List ℕ) → length bytes ≡ 16 → completion_at (written m (completion_place cq slot) bytes) cq slot ≡ Some (completion_of bytes)
completion_back m cq slot bytes count = ap (λ (b : Option (List ℕ)). option_map completion_of b) (bytes_back m (completion_place cq slot) 16 bytes count)

pub entry_other : (m : Memory) (sq at slot : ℕ) (bytes : List ℕ) → length bytes ≡ 64 → slot ≢ at → entry_at (written m (submission_place sq at) bytes) sq slot ≡ entry_at m sq slot
entry_other m sq at slot bytes count other =
    ap (λ (b : Option (List ℕ)). option_map submission_of b) (bytes_apart m (submission_place sq at) (submission_place sq slot) 64 bytes (elim (cases_lt slot at) [
      | inl before ↦ inl (omega arith)
      | inr after ↦ inr (omega arith)
    ]))

pub completion_other : (m : Memory) (cq at slot : ℕ) (bytes : List ℕ) → length bytes ≡ 16 → slot ≢ at → completion_at (written m (completion_place cq at) bytes) cq slot ≡ completion_at m cq slot
completion_other m cq at slot bytes count other =
    ap (λ (b : Option (List ℕ)). option_map completion_of b) (bytes_apart m (completion_place cq at) (completion_place cq slot) 16 bytes (elim (cases_lt slot at) [
      | inl before ↦ inl (omega arith)
      | inr after ↦ inr (omega arith)
    ]))

-- Positions in a ring.

pub next_wraps : (n slot : ℕ) → slot + 1 ≡ n → next_slot n slot ≡ 0
next_wraps n slot e = grind (arith, nat_tests)

pub next_steps : (n slot : ℕ) → slot + 1 ≢ n → next_slot n slot ≡ slot + 1
next_steps n slot e = grind (arith, nat_tests)

pub distance_ahead : (n from to : ℕ) → from ≤ to → distance n from to ≡ to - from
distance_ahead n from to h = grind (arith, nat_tests)

pub distance_behind : (n from to : ℕ) → to < from → distance n from to ≡ to + n - from
distance_behind n from to h = grind (arith, nat_tests)

pub next_is : (n slot : ℕ) → ((slot + 1 ≡ n) × (next_slot n slot ≡ 0)) ⊎ ((slot + 1 ≢ n) × (next_slot n slot ≡ slot + 1))
next_is n slot = elim (cases_eq (slot + 1) n) [ inl e ↦ inl (e, next_wraps n slot e) | inr e ↦ inr (e, next_steps n slot e) ]

pub distance_is : (n from to : ℕ) → ((from ≤ to) × (distance n from to ≡ to - from)) ⊎ ((to < from) × (distance n from to ≡ to + n - from))
distance_is n from to = elim (cases_lt to from) [ inl h ↦ inr (h, distance_behind n from to h) | inr h ↦ inl (h, distance_ahead n from to h) ]

pub next_below : (n slot : ℕ) → slot < n → next_slot n slot < n
next_below n slot h = elim (next_is n slot) [ inl e ↦ omega (arith, e.0, e.1) | inr e ↦ omega (arith, e.0, e.1) ]

pub distance_below : (n from to : ℕ) → from < n → to < n → distance n from to < n
distance_below n from to f t = elim (distance_is n from to) [ inl e ↦ omega (arith, e.0, e.1) | inr e ↦ omega (arith, e.0, e.1) ]

pub distance_none : (n from to : ℕ) → from < n → to < n → distance n from to ≡ 0 → from ≡ to
distance_none n from to f t h = elim (distance_is n from to) [ inl e ↦ omega (arith, e.0, e.1) | inr e ↦ omega (arith, e.0, e.1) ]

pub distance_same : (n slot : ℕ) → distance n slot slot ≡ 0
distance_same n slot = elim (distance_is n slot slot) [ inl e ↦ omega (arith, e.0, e.1) | inr e ↦ omega (arith, e.0, e.1) ]

-- n - 1 slots from the head to the tail: the slot after the tail is the head
pub full_next : (n head tail : ℕ) → head < n → tail < n → distance n head tail ≡ n - 1 → next_slot n tail ≡ head
full_next n head tail h t full = grind (arith, nat_tests)

pub next_full : (n head tail : ℕ) → head < n → tail < n → next_slot n tail ≡ head → distance n head tail ≡ n - 1
next_full n head tail h t next = grind (arith, nat_tests)

-- one more at the tail
pub distance_grows : (n head tail : ℕ) → head < n → tail < n → distance n head tail ≢ n - 1 → distance n head (next_slot n tail) ≡ suc (distance n head tail)
distance_grows n head tail h t room = grind (arith, nat_tests)

-- one fewer at the head
pub distance_shrinks : (n head tail : ℕ) → head < n → tail < n → head ≢ tail → distance n head tail ≡ suc (distance n (next_slot n head) tail)
distance_shrinks n head tail h t some = grind (arith, nat_tests)

-- a distance in two parts
pub distance_parts : (n from mid to : ℕ) → from < n → mid < n → to < n → distance n from mid ≤ distance n from to → distance n from to ≡ distance n from mid + distance n mid to
distance_parts n from mid to f m t h = grind (arith, nat_tests)

-- the slots of a stretch are as many as it is long, and lie in the ring
pub length_slots : (n many slot : ℕ) → length (slots_from n slot many) ≡ many
length_slots n zero slot = refl
length_slots n (suc many) slot = ap suc (length_slots n many (next_slot n slot))

-- the last slot of a stretch that is one slot longer
slots_push : (n many head tail : ℕ) → head < n → tail < n → distance n head tail ≡ many → slots_from n head (suc many) ≡ slots_from n head many ++ tail ∷ []
slots_push n zero head tail h t none = ap (λ (s : ℕ). s ∷ []) (distance_none n head tail h t none)
slots_push n (suc many) head tail h t some =
    let apart : head ≢ tail = λ e. let z : distance n head tail ≡ 0 = ap (distance n head) (sym e) ∙ distance_same n head in omega arith in
    let shorter : distance n (next_slot n head) tail ≡ many = omega (arith, distance_shrinks n head tail h t apart) in
    ap (λ (s : List ℕ). head ∷ s) (slots_push n many (next_slot n head) tail (next_below n head h) t shorter)

pub between_push : (n head tail : ℕ) → head < n → tail < n → distance n head tail ≢ n - 1 → slots_between n head (next_slot n tail) ≡ slots_between n head tail ++ tail ∷ []
between_push n head tail h t room = ap (slots_from n head) (distance_grows n head tail h t room) ∙ slots_push n (distance n head tail) head tail h t refl

pub between_pop : (n head tail : ℕ) → head < n → tail < n → head ≢ tail → slots_between n head tail ≡ head ∷ slots_between n (next_slot n head) tail
between_pop n head tail h t some = ap (slots_from n head) (distance_shrinks n head tail h t some)

pub between_none : (n slot : ℕ) → slots_between n slot slot ≡ []
between_none n slot = ap (slots_from n slot) (distance_same n slot)

-- a stretch in two parts
slots_parts : (n a b from mid : ℕ) → from < n → mid < n → distance n from mid ≡ a → slots_from n from (a + b) ≡ slots_from n from a ++ slots_from n mid b
slots_parts n zero b from mid f m none =
    let more : 0 + b ≡ b = omega arith in
    ap (λ (k : ℕ). slots_from n from k) more ∙ ap (λ (s : ℕ). slots_from n s b) (distance_none n from mid f m none)
slots_parts n (suc a) b from mid f m some =
    let apart : from ≢ mid = λ e. let z : distance n from mid ≡ 0 = ap (distance n from) (sym e) ∙ distance_same n from in omega arith in
    let shorter : distance n (next_slot n from) mid ≡ a = omega (arith, distance_shrinks n from mid f m apart) in
    let more : suc a + b ≡ suc (a + b) = omega arith in
    ap (λ (k : ℕ). slots_from n from k) more ∙ ap (λ (s : List ℕ). from ∷ s) (slots_parts n a b (next_slot n from) mid (next_below n from f) m shorter)

pub between_parts : (n from mid to : ℕ) → from < n → mid < n → to < n → distance n from mid ≤ distance n from to → slots_between n from to ≡ slots_between n from mid ++ slots_between n mid to
between_parts n from mid to f m t h =
    ap (slots_from n from) (distance_parts n from mid to f m t h) ∙ slots_parts n (distance n from mid) (distance n mid to) from mid f m refl

-- what two readers of slots see of the slots before the tail, where they differ at the tail at most
see_before : {X : Type 0} (f g : ℕ → X) (n tail many head : ℕ) → head < n → tail < n → many ≤ distance n head tail → ((slot : ℕ) → slot < n → slot ≢ tail → f slot ≡ g slot)
    → map f (slots_from n head many) ≡ map g (slots_from n head many)
see_before f g n tail zero head h t fits same = refl
see_before {X} f g n tail (suc many) head h t fits same =
    let apart : head ≢ tail = λ e. let z : distance n head tail ≡ 0 = ap (distance n head) (sym e) ∙ distance_same n head in omega arith in
    let rest : map f (slots_from n (next_slot n head) many) ≡ map g (slots_from n (next_slot n head) many) =
    see_before f g n tail many (next_slot n head) (next_below n head h) t (omega (arith, distance_shrinks n head tail h t apart)) same in
    ap (λ (x : X). x ∷ map f (slots_from n (next_slot n head) many)) (same head h apart) ∙ ap (λ (xs : List X). g head ∷ xs) rest

pub see_between : {X : Type 0} (f g : ℕ → X) (n head tail : ℕ) → head < n → tail < n → ((slot : ℕ) → slot < n → slot ≢ tail → f slot ≡ g slot)
    → map f (slots_between n head tail) ≡ map g (slots_between n head tail)
see_between f g n head tail h t same = see_before f g n tail (distance n head tail) head h t (omega arith) same

-- what two readers see that agree on every slot
see_all : {X : Type 0} (f g : ℕ → X) (n many head : ℕ) → head < n → ((slot : ℕ) → slot < n → f slot ≡ g slot) → map f (slots_from n head many) ≡ map g (slots_from n head many)
see_all f g n zero head h same = refl
see_all {X} f g n (suc many) head h same =
    ap (λ (x : X). x ∷ map f (slots_from n (next_slot n head) many)) (same head h) ∙ ap (λ (xs : List X). g head ∷ xs) (see_all f g n many (next_slot n head) (next_below n head h) same)

pub see_alike : {X : Type 0} (f g : ℕ → X) (n head tail : ℕ) → head < n → ((slot : ℕ) → slot < n → f slot ≡ g slot) → map f (slots_between n head tail) ≡ map g (slots_between n head tail)
see_alike f g n head tail h same = see_all f g n (distance n head tail) head h same

-- a list with one more at its end
pub map_push : {X : Type 0} (f : ℕ → X) (slots : List ℕ) (slot : ℕ) → map f (slots ++ slot ∷ []) ≡ map f slots ++ f slot ∷ []
map_push f [] slot = refl
map_push {X} f (s ∷ slots) slot = ap (λ (xs : List X). f s ∷ xs) (map_push f slots slot)

-- the ring's order by remainders
pub next_is_remainder : (n slot : ℕ) → slot < n → next_slot n slot ≡ (slot + 1) % n
next_is_remainder n slot s =
    elim (next_is n slot) [
      | inl (last, wraps) ↦ wraps ∙ sym (mod_self n) ∙ ap (λ (k : ℕ). k % n) (sym last)
      | inr (more, steps) ↦ (let within : slot + 1 < n = omega arith in steps ∙ sym (mod-eq_of_lt within))
    ]

pub distance_is_remainder : (n from to : ℕ) → from < n → to < n → distance n from to ≡ (to + n - from) % n
distance_is_remainder n from to f t =
    elim (distance_is n from to) [
      | inl (ahead, is) ↦
          let whole : to + n - from ≡ n + (to - from) = omega arith in
          let below : to - from < n = omega arith in
          is ∙ sym (mod-eq_of_lt below) ∙ sym (add-mod_left n (to - from)) ∙ ap (λ (k : ℕ). k % n) (sym whole)
      | inr (behind, is) ↦
          let below : to + n - from < n = omega arith in
          is ∙ sym (mod-eq_of_lt below)
    ]

pub moved_is_remainder : (n many slot : ℕ) → slot < n → moved n slot many ≡ (slot + many) % n
moved_is_remainder n zero slot s = sym (mod-eq_of_lt s) ∙ ap (λ (k : ℕ). k % n) (sym (add-zero slot))
moved_is_remainder n (suc many) slot s =
    moved_is_remainder n many (next_slot n slot) (next_below n slot s)
    ∙ ap (λ (k : ℕ). (k + many) % n) (next_is_remainder n slot s)
    ∙ mod-add-mod (slot + 1) n many
    ∙ ap (λ (k : ℕ). k % n) (one_more slot many)

-- what a position in range says
pub in_range_below : (n from to slot : ℕ) → is_in_range n from to slot ≡ true → slot < n
in_range_below n from to slot h = grind (arith, nat_tests)

pub in_range_near : (n from to slot : ℕ) → is_in_range n from to slot ≡ true → distance n from slot ≤ distance n from to
in_range_near n from to slot h = grind (arith, nat_tests)

-- a head that another side does not know yet has at least as much room
pub room_ahead : (n known head tail : ℕ) → known < n → tail < n → is_in_range n known tail head ≡ true → is_full n known tail ≡ false → is_full n head tail ≡ false
room_ahead n known head tail k t h free =
    let below : head < n = in_range_below n known tail head h in
    let parts : distance n known tail ≡ distance n known head + distance n head tail = distance_parts n known head tail k below t (in_range_near n known tail head h) in
    let least : distance n known tail < n = distance_below n known tail k t in
    let some : distance n known tail ≢ n - 1 = eqb-false (distance n known tail) (n - 1) free in
    ne_eqb (distance n head tail) (n - 1) (omega arith)

pub full_exactly : (n head tail : ℕ) → head < n → tail < n → (is_full n head tail ≡ true) ↔ (next_slot n tail ≡ head)
full_exactly n head tail h t = (λ full. full_next n head tail h t (eqb-true (distance n head tail) (n - 1) full), λ next. eq-eqb (distance n head tail) (n - 1) (next_full n head tail h t next))

-- each position by the other and the distance between them
pub tail_is_remainder : (n head tail : ℕ) → head < n → tail < n → tail ≡ (head + distance n head tail) % n
tail_is_remainder n head tail h t =
    elim (distance_is n head tail) [
      | inl (ahead, is) ↦
          let sum : head + distance n head tail ≡ tail = omega arith in
          sym (mod-eq_of_lt t) ∙ ap (λ (k : ℕ). k % n) (sym sum)
      | inr (behind, is) ↦
          let sum : head + distance n head tail ≡ tail + n = omega arith in
          sym (mod-eq_of_lt t) ∙ sym (add-mod_right tail n) ∙ ap (λ (k : ℕ). k % n) (sym sum)
    ]

pub head_is_remainder : (n head tail : ℕ) → head < n → tail < n → head ≡ (tail + n - distance n head tail) % n
head_is_remainder n head tail h t =
    elim (distance_is n head tail) [
      | inl (ahead, is) ↦
          let sum : tail + n - distance n head tail ≡ head + n = omega arith in
          sym (mod-eq_of_lt h) ∙ sym (add-mod_right head n) ∙ ap (λ (k : ℕ). k % n) (sym sum)
      | inr (behind, is) ↦
          let sum : tail + n - distance n head tail ≡ head = omega arith in
          sym (mod-eq_of_lt h) ∙ ap (λ (k : ℕ). k % n) (sym sum)
    ]

-- The rings as lists, before and after a post.

pub room : (n head tail : ℕ) → is_full n head tail ≡ false → distance n head tail ≢ n - 1
room n head tail free = eqb-false (distance n head tail) (n - 1) free

-- what is before the tail stays, and the tail's slot comes last
pub entries_append : (m : Memory) (sq n head tail : ℕ) (bytes : List ℕ) (entry : SubEntry) → length bytes ≡ 64 → submission_of bytes ≡ entry → head < n → tail < n → is_full n head tail ≡ false →
    entries_between (written m (submission_place sq tail) bytes) sq n head (next_slot n tail) ≡ entries_between m sq n head tail ++ Some entry ∷ []
entries_append m sq n head tail bytes entry count spelled h t free =
    let m' : Memory = written m (submission_place sq tail) bytes in
    ap (map (entry_at m' sq)) (between_push n head tail h t (room n head tail free))
    ∙ map_push (entry_at m' sq) (slots_between n head tail) tail
    ∙ ap (λ (xs : List (Option SubEntry)). xs ++ entry_at m' sq tail ∷ []) (see_between (entry_at m' sq) (entry_at m sq) n head tail h t (λ slot _ other. entry_other m sq tail slot bytes count other))
    ∙ ap (λ (x : Option SubEntry). entries_between m sq n head tail ++ x ∷ []) (entry_back m sq tail bytes count ∙ ap (λ (e : SubEntry). Some e) spelled)

pub completions_append : (m : Memory) (cq n head tail : ℕ) (bytes : List ℕ) (entry : ComEntry) → length bytes ≡ 16 → completion_of bytes ≡ entry → head < n → tail < n → is_full n head tail ≡ false →
    completions_from (written m (completion_place cq tail) bytes) cq n head (next_slot n tail) ≡ completions_from m cq n head tail ++ Some entry ∷ []
completions_append m cq n head tail bytes entry count spelled h t free =
    let m' : Memory = written m (completion_place cq tail) bytes in
    ap (map (completion_at m' cq)) (between_push n head tail h t (room n head tail free))
    ∙ map_push (completion_at m' cq) (slots_between n head tail) tail
    ∙ ap (λ (xs : List (Option ComEntry)). xs ++ completion_at m' cq tail ∷ []) (see_between (completion_at m' cq) (completion_at m cq) n head tail h t (λ slot _ other. completion_other m cq tail slot bytes count other))
    ∙ ap (λ (x : Option ComEntry). completions_from m cq n head tail ++ x ∷ []) (completion_back m cq tail bytes count ∙ ap (λ (e : ComEntry). Some e) spelled)

-- the first one goes
pub entries_pop : (m : Memory) (sq n head tail : ℕ) → head < n → tail < n → head ≢ tail → entries_between m sq n head tail ≡ entry_at m sq head ∷ entries_between m sq n (next_slot n head) tail
entries_pop m sq n head tail h t some = ap (map (entry_at m sq)) (between_pop n head tail h t some)

pub completions_pop : (m : Memory) (cq n head tail : ℕ) → head < n → tail < n → head ≢ tail → completions_from m cq n head tail ≡ completion_at m cq head ∷ completions_from m cq n (next_slot n head) tail
completions_pop m cq n head tail h t some = ap (map (completion_at m cq)) (between_pop n head tail h t some)

-- what the host's post makes of the list, by what each call in it ensures
pub entries_posted : (m m' : Memory) (sq n tail tail' place : ℕ) (bytes : List ℕ) (entry : SubEntry) (controller : ControllerSide) → m' ≡ written m place bytes → place ≡ submission_place sq tail → tail' ≡ next_slot n tail →
    length bytes ≡ 64 → submission_of bytes ≡ entry → sq ≡ controller.sq → n ≡ controller.entries → tail < n → controller.ring.head < controller.entries → is_full controller.entries controller.ring.head tail ≡ false →
    entries_between m' controller.sq controller.entries controller.ring.head tail' ≡ entries_between m controller.sq controller.entries controller.ring.head tail ++ Some entry ∷ []
entries_posted m m' sq n tail tail' place bytes entry controller wrote at next count spelled same_sq same_n t h free =
    let memory : m' ≡ written m (submission_place controller.sq tail) bytes =
    wrote ∙ ap (λ (p : ℕ). written m p bytes) at ∙ ap (λ (s : ℕ). written m (submission_place s tail) bytes) same_sq in
    let position : tail' ≡ next_slot controller.entries tail = next ∙ ap (λ (k : ℕ). next_slot k tail) same_n in
    let below : tail < controller.entries = omega arith in
    ap (λ (x : Memory). entries_between x controller.sq controller.entries controller.ring.head tail') memory
    ∙ ap (λ (x : ℕ). entries_between (written m (submission_place controller.sq tail) bytes) controller.sq controller.entries controller.ring.head x) position
    ∙ entries_append m controller.sq controller.entries controller.ring.head tail bytes entry count spelled h below free

-- and the controller's
pub completions_posted : (m m' : Memory) (cq n tail tail' place : ℕ) (bytes : List ℕ) (entry : ComEntry) (host : HostSide) → m' ≡ written m place bytes → place ≡ completion_place cq tail → tail' ≡ next_slot n tail →
    length bytes ≡ 16 → completion_of bytes ≡ entry → host.entries ≡ n → tail < n → host.ring.head < host.entries → is_full host.entries host.ring.head tail ≡ false →
    completions_from m' cq n host.ring.head tail' ≡ completions_from m cq n host.ring.head tail ++ Some entry ∷ []
completions_posted m m' cq n tail tail' place bytes entry host wrote at next count spelled same_n t h free =
    let memory : m' ≡ written m (completion_place cq tail) bytes = wrote ∙ ap (λ (p : ℕ). written m p bytes) at in
    let below : host.ring.head < n = omega arith in
    let room : is_full n host.ring.head tail ≡ false = ap (λ (k : ℕ). is_full k host.ring.head tail) (sym same_n) ∙ free in
    ap (λ (x : Memory). completions_from x cq n host.ring.head tail') memory
    ∙ ap (λ (x : ℕ). completions_from (written m (completion_place cq tail) bytes) cq n host.ring.head x) next
    ∙ completions_append m cq n host.ring.head tail bytes entry count spelled below t room

-- what is read from a slot is the entry that is there
pub read_is_entry : (m : Memory) (sq slot place : ℕ) (bytes : List ℕ) (entry : SubEntry) → bytes_at m place 64 ≡ Some bytes → place ≡ submission_place sq slot → entry ≡ submission_of bytes → entry_at m sq slot ≡ Some entry
read_is_entry m sq slot place bytes entry read at is =
    ap (λ (x : Option (List ℕ)). option_map submission_of x) (ap (λ (p : ℕ). bytes_at m p 64) (sym at) ∙ read) ∙ ap (λ (e : SubEntry). Some e) (sym is)

-- the entry that is read at the head is the first of the announced list
pub read_is_front : (m : Memory) (sq n head bell place : ℕ) (bytes : List ℕ) (entry : SubEntry) → bytes_at m place 64 ≡ Some bytes → place ≡ submission_place sq head → entry ≡ submission_of bytes → head < n → bell < n → head ≢ bell →
    Some entry ≡ front (entries_between m sq n head bell)
read_is_front m sq n head bell place bytes entry read at is h b some =
    sym (read_is_entry m sq head place bytes entry read at is) ∙ ap front (sym (entries_pop m sq n head bell h b some))

-- how many there are, and where a list is cut
pub length_seen : {X : Type 0} (f : ℕ → X) (slots : List ℕ) → length (map f slots) ≡ length slots
length_seen f [] = refl
length_seen f (s ∷ slots) = ap suc (length_seen f slots)

pub entries_count : (m : Memory) (sq n from to : ℕ) → length (entries_between m sq n from to) ≡ distance n from to
entries_count m sq n from to = length_seen (entry_at m sq) (slots_between n from to) ∙ length_slots n (distance n from to) from

pub completions_count : (m : Memory) (cq n from to : ℕ) → length (completions_from m cq n from to) ≡ distance n from to
completions_count m cq n from to = length_seen (completion_at m cq) (slots_between n from to) ∙ length_slots n (distance n from to) from

seen_parts : {X : Type 0} (f : ℕ → X) (a b : List ℕ) → map f (a ++ b) ≡ map f a ++ map f b
seen_parts f [] b = refl
seen_parts {X} f (s ∷ a) b = ap (λ (xs : List X). f s ∷ xs) (seen_parts f a b)

pub entries_parts : (m : Memory) (sq n from mid to : ℕ) → from < n → to < n → is_in_range n from to mid ≡ true → entries_between m sq n from to ≡ entries_between m sq n from mid ++ entries_between m sq n mid to
entries_parts m sq n from mid to f t h =
    ap (map (entry_at m sq)) (between_parts n from mid to f (in_range_below n from to mid h) t (in_range_near n from to mid h)) ∙ seen_parts (entry_at m sq) (slots_between n from mid) (slots_between n mid to)

pub completions_parts : (m : Memory) (cq n from mid to : ℕ) → from < n → to < n → is_in_range n from to mid ≡ true → completions_from m cq n from to ≡ completions_from m cq n from mid ++ completions_from m cq n mid to
completions_parts m cq n from mid to f t h =
    ap (map (completion_at m cq)) (between_parts n from mid to f (in_range_below n from to mid h) t (in_range_near n from to mid h)) ∙ seen_parts (completion_at m cq) (slots_between n from mid) (slots_between n mid to)

pub entries_none : (m : Memory) (sq n slot : ℕ) → entries_between m sq n slot slot ≡ []
entries_none m sq n slot = ap (map (entry_at m sq)) (between_none n slot)

pub completions_none : (m : Memory) (cq n slot : ℕ) → completions_from m cq n slot slot ≡ []
completions_none m cq n slot = ap (map (completion_at m cq)) (between_none n slot)

-- The phases of the completion ring.

pub not_not : (b : Bool) → not (not b) ≡ b
not_not true = refl
not_not false = refl

pub phase_from : (tail slot : ℕ) (phase : Bool) → tail ≤ slot → phase_of_slot tail phase slot ≡ not phase
phase_from tail slot phase h = grind (arith, nat_tests)

pub expected_ahead : (head tail : ℕ) (phase : Bool) → head ≤ tail → expected_phase head tail phase ≡ phase
expected_ahead head tail phase h = grind (arith, nat_tests)

-- the phase of a slot after the controller's move: the slot that it wrote has its phase, and no other turned
after_move_same : (n tail : ℕ) (phase : Bool) → tail < n → phase_of_slot (next_slot n tail) (next_phase n tail phase) tail ≡ phase
after_move_same n tail phase t = grind (arith, nat_tests)

after_move_other : (n tail slot : ℕ) (phase : Bool) → tail < n → slot < n → slot ≢ tail → phase_of_slot (next_slot n tail) (next_phase n tail phase) slot ≡ phase_of_slot tail phase slot
after_move_other n tail slot phase t s other = grind (arith, nat_tests)

pub phases_kept : (m : Memory) (cq n tail : ℕ) (phase : Bool) (bytes : List ℕ) → length bytes ≡ 16 → (completion_of bytes).phase ≡ phase → tail < n → PhasesStand m cq n tail phase →
    PhasesStand (written m (completion_place cq tail) bytes) cq n (next_slot n tail) (next_phase n tail phase)
phases_kept m cq n tail phase bytes count marked t h =
    record {
      stands = λ slot s. elim (cases_eq slot tail) [
        | inl e ↦ rw e (
            ap (λ (x : Option ComEntry). option_map (λ entry. entry.phase) x) (completion_back m cq tail bytes count)
            ∙ ap (λ (b : Bool). Some b) (marked ∙ sym (after_move_same n tail phase t)))
        | inr other ↦
            ap (λ (x : Option ComEntry). option_map (λ entry. entry.phase) x) (completion_other m cq tail slot bytes count other)
            ∙ h.stands slot s
            ∙ ap (λ (b : Bool). Some b) (sym (after_move_other n tail slot phase t s other))
      ];
    }

-- the host still expects the right phase after the controller's move
pub tie_kept_by_post : (n head tail : ℕ) (phase : Bool) → head < n → tail < n → is_full n head tail ≡ false → expected_phase head (next_slot n tail) (next_phase n tail phase) ≡ expected_phase head tail phase
tie_kept_by_post n head tail phase h t free = grind (arith, nat_tests)

-- and after its own
pub tie_kept_by_advance : (n head tail : ℕ) (phase : Bool) → head < n → tail < n → head ≢ tail → next_phase n head (expected_phase head tail phase) ≡ expected_phase (next_slot n head) tail phase
tie_kept_by_advance n head tail phase h t some = grind (arith, nat_tests)

-- what is at the host's head
expected_there : (x : Option ComEntry) (phase : Bool) → option_map (λ entry. entry.phase) x ≡ Some phase → option_and_then (with_phase phase) x ≡ x
expected_there None phase h = cc
expected_there (Some entry) phase h = let e : entry.phase ≡ phase = cc in ap (λ (b : Bool). cond b (Some entry) None) (ap (λ (b : Bool). beq b phase) e ∙ same phase)
  where
    same : (b : Bool) → beq b b ≡ true
    same true = refl
    same false = refl

unexpected_there : (x : Option ComEntry) (phase : Bool) → option_map (λ entry. entry.phase) x ≡ Some (not phase) → option_and_then (with_phase phase) x ≡ None
unexpected_there None phase h = cc
unexpected_there (Some entry) phase h = let e : entry.phase ≡ not phase = cc in ap (λ (b : Bool). cond b (Some entry) None) (ap (λ (b : Bool). beq b phase) e ∙ other phase)
  where
    other : (b : Bool) → beq (not b) b ≡ false
    other true = refl
    other false = refl

-- a completion is new exactly where an answer is left, and then it is the first of them
pub new_is_front : (m : Memory) (cq n head tail : ℕ) (phase : Bool) → head < n → tail < n → PhasesStand m cq n tail phase →
    new_completion_at m cq head (expected_phase head tail phase) ≡ front (completions_from m cq n head tail)
new_is_front m cq n head tail phase h t stand =
    elim (cases_eq head tail) [
      | inl e ↦ rw (e, expected_ahead tail tail phase (omega arith)) (
          unexpected_there (completion_at m cq tail) phase (stand.stands tail t ∙ ap (λ (b : Bool). Some b) (phase_from tail tail phase (omega arith)))
          ∙ ap (λ (slots : List ℕ). front (map (completion_at m cq) slots)) (sym (between_none n tail)))
      | inr some ↦
          expected_there (completion_at m cq head) (expected_phase head tail phase) (stand.stands head h ∙ ap (λ (b : Bool). Some b) (here some))
          ∙ ap front (sym (completions_pop m cq n head tail h t some))
    ]
  where
    here : head ≢ tail → phase_of_slot tail phase head ≡ expected_phase head tail phase
    here some = grind (arith, nat_tests)

-- what the controller's post makes of the phases, by what each call in it ensures
pub phases_posted : (m m' : Memory) (cq n tail tail' : ℕ) (phase phase' : Bool) (place : ℕ) (bytes : List ℕ) → m' ≡ written m place bytes → place ≡ completion_place cq tail → tail' ≡ next_slot n tail →
    phase' ≡ next_phase n tail phase → length bytes ≡ 16 → (completion_of bytes).phase ≡ phase → tail < n → PhasesStand m cq n tail phase → PhasesStand m' cq n tail' phase'
phases_posted m m' cq n tail tail' phase phase' place bytes wrote at next turned count marked t stand =
    let memory : m' ≡ written m (completion_place cq tail) bytes = wrote ∙ ap (λ (p : ℕ). written m p bytes) at in
    let moved : PhasesStand (written m (completion_place cq tail) bytes) cq n (next_slot n tail) (next_phase n tail phase) = phases_kept m cq n tail phase bytes count marked t stand in
    subst (λ (x : Memory). PhasesStand x cq n tail' phase') (sym memory)
    (subst (λ (x : ℕ). PhasesStand (written m (completion_place cq tail) bytes) cq n x phase') (sym next)
    (subst (λ (x : Bool). PhasesStand (written m (completion_place cq tail) bytes) cq n (next_slot n tail) x) (sym turned) moved))

-- what the host reads at its head, by what each call in it ensures
pub peeked : (m : Memory) (cq n head place : ℕ) (expected : Bool) (bytes : List ℕ) (entry : ComEntry) (controller : ControllerSide) → bytes_at m place 16 ≡ Some bytes → place ≡ completion_place cq head → entry ≡ completion_of bytes →
    beq entry.phase expected ≡ true → cq ≡ controller.cq → n ≡ controller.entries → head < n → controller.ring.tail < controller.entries → HasPhases m controller → expected ≡ expected_phase head controller.ring.tail controller.ring.phase →
    Some entry ≡ front (completions_from m controller.cq controller.entries head controller.ring.tail)
peeked m cq n head place expected bytes entry controller read at is new same_cq same_n h t stand tied =
    let slot : completion_at m controller.cq head ≡ Some entry =
    ap (λ (c : ℕ). completion_at m c head) (sym same_cq)
    ∙ ap (λ (x : Option (List ℕ)). option_map completion_of x) (ap (λ (p : ℕ). bytes_at m p 16) (sym at) ∙ read)
    ∙ ap (λ (e : ComEntry). Some e) (sym is) in
    let seen : new_completion_at m controller.cq head expected ≡ Some entry =
    ap (λ (x : Option ComEntry). option_and_then (with_phase expected) x) slot ∙ ap (λ (b : Bool). cond b (Some entry) None) new in
    sym seen
    ∙ ap (λ (b : Bool). new_completion_at m controller.cq head b) tied
    ∙ new_is_front m controller.cq controller.entries head controller.ring.tail controller.ring.phase (omega arith) t stand

-- the controller's phase, by the host's and the answers that are left
turned_past : (n reach : ℕ) (phase : Bool) → n ≤ reach → cond (leb n reach) (not phase) phase ≡ not phase
turned_past n reach phase h = grind (arith, nat_tests)

kept_before : (n reach : ℕ) (phase : Bool) → reach < n → cond (leb n reach) (not phase) phase ≡ phase
kept_before n reach phase h = grind (arith, nat_tests)

pub phase_told : (n head tail : ℕ) (phase : Bool) → head < n → tail < n → phase ≡ cond (leb n (head + distance n head tail)) (not (expected_phase head tail phase)) (expected_phase head tail phase)
phase_told n head tail phase h t = grind (arith, nat_tests)

-- Moves that come round a ring.

pub moved_below : (n slot many : ℕ) → slot < n → moved n slot many < n
moved_below n slot zero h = h
moved_below n slot (suc many) h = moved_below n (next_slot n slot) many (next_below n slot h)

-- a slot, moved once round
pub comes_round : (n slot many : ℕ) → slot < n → many ≤ n → moved n (moved n slot (n - many)) many ≡ slot
comes_round n slot many h le =
    let whole : slot + (n - many) + many ≡ slot + n = omega (arith, le) in
    moved_is_remainder n many (moved n slot (n - many)) (moved_below n slot (n - many) h)
    ∙ ap (λ (k : ℕ). (k + many) % n) (moved_is_remainder n (n - many) slot h)
    ∙ mod-add-mod (slot + (n - many)) n many
    ∙ ap (λ (k : ℕ). k % n) whole
    ∙ add-mod_right slot n
    ∙ mod-eq_of_lt h

-- each end of a stretch by the other
pub tail_moved : (n head tail : ℕ) → head < n → tail < n → tail ≡ moved n head (distance n head tail)
tail_moved n head tail h t = tail_is_remainder n head tail h t ∙ sym (moved_is_remainder n (distance n head tail) head h)

-- how far away a slot is that lies this many moves ahead
far : (n slot many : ℕ) → slot < n → many < n → distance n slot ((slot + many) % n) ≡ many
far n slot many h m = elim (cases_lt (slot + many) n) [
  | inl inside ↦ rw (mod-eq_of_lt inside, distance_ahead n slot (slot + many) (omega arith)) (omega arith)
  | inr past ↦
      let rest : slot + many - n < n = omega (arith, h, m, past) in
      let whole : slot + many ≡ slot + many - n + n = omega (arith, past) in
      let is : (slot + many) % n ≡ slot + many - n = ap (λ (k : ℕ). k % n) whole ∙ add-mod_right (slot + many - n) n ∙ mod-eq_of_lt rest in
      rw (is, distance_behind n slot (slot + many - n) (omega (arith, m, past))) (omega (arith, past))
]

pub comes_apart : (n slot many : ℕ) → slot < n → many < n → distance n (moved n slot (n - many)) slot ≡ many
comes_apart n slot many h m =
    let below : moved n slot (n - many) < n = moved_below n slot (n - many) h in
    let there : (moved n slot (n - many) + many) % n ≡ slot = sym (moved_is_remainder n many (moved n slot (n - many)) below) ∙ comes_round n slot many h (omega (arith, m)) in
    ap (distance n (moved n slot (n - many))) (sym there) ∙ far n (moved n slot (n - many)) many below m

pub head_moved : (n head tail : ℕ) → head < n → tail < n → head ≡ moved n tail (n - distance n head tail)
head_moved n head tail h t =
    let near : distance n head tail < n = distance_below n head tail h t in
    let back : n - (n - distance n head tail) ≡ distance n head tail = omega (arith, near) in
    sym (comes_round n head (n - distance n head tail) h (omega arith))
    ∙ ap (λ (k : ℕ). moved n (moved n head k) (n - distance n head tail)) back
    ∙ ap (λ (slot : ℕ). moved n slot (n - distance n head tail)) (sym (tail_moved n head tail h t))

pub told_alike : (head tail : ℕ) (phase : Bool) → phase ≡ expected_phase head tail (expected_phase head tail phase)
told_alike head tail phase = grind (arith, nat_tests)
