-- Rows of a table, the values of a kind in them, and what ties them to the host.
use Rattle.machine_model.specs.Events as events
use Rattle.host_bench.specs.declared.values.CommandValue.TheVariants as value
use Rattle.std.proofs.Common.{◌≡◌, inl, inr, ℕ, ◌<◌, ◌==◌, Bool, true, false, Option, Some, None, List, [], ◌∷◌, ◌++◌, find, refl, ap, sym, ◌∙◌, subst, eqb-true, ◌+◌, ◌-◌, ◌&&◌, ◌||◌, ◌⊎◌, not, if◌then◌else◌, length, IfNone, IfSome, ap₂, arith}
use Rattle.std.proofs.lemmas.{Bool.{true≢false, and_parts, cond_both, cases_Bool, Decides.nat_tests}, Option.slice_get_within}
use Rattle.std.specs.{List.{AllByRecursion, cons_option}, Option.option_and_then}
use Rattle.slot_table.proofs.{Rows.{value_at-none, without-none}, Walks.none_stands}
use Rattle.slot_table.specs.{Rows.{Row, is_at, value_at, with_value, without, NoneAt, IsDistinct}, Table.{AreInside, TableOf, IsPlace, with_row}}
use Rattle.host_core.proofs.{Outstanding.{ends_by, limits_stay, none_there, record_reserved, reserved_ok, stays_outstanding}, RowRecords.here-none}
use Rattle.host_bench.specs.CommandValues.{picked, as_draft, as_ticket, as_finished, queue_of, identifier_of, IsHeld, IsBench, IsOut}
use Rattle.host_core.specs.Outstanding.{IsOutstanding}
use Rattle.host_core.specs.Firsts.{without_first, with_first}
use Rattle.host_core.specs.declared.config.Config.{Config}
use Rattle.host_bench.specs.declared.values.CommandValue.{CommandValue}
use Rattle.io_commands.specs.{Asked.Request, Drafts.DraftContents, Requests.is_admin, Values.FinishedContents}
use Rattle.machine_model.{proofs.{Moves.{drafted_record, live_queue}, Steps.unrefused}, specs.{Events.Event, Image.is_draft}}
use Rattle.machine_model.specs.{Refusals.{in_service, in_state, takes_admin}, Script.{is_finished, is_ticket}, State.{State, Record}, Step.{Step, IsReserved}}
use Rattle.slot_table.proofs.Rows.{option_is}
use Rattle.page_memory.proofs.Lists.{some_is, all-append, all-all, found_any}

-- Rows of a table, and the values of a kind in them.

pub names : {V : Type 0} (row : Row V) (q cid : ℕ) → is_at row q cid ≡ true → (row.q ≡ q) × (row.cid ≡ cid)
names row q cid e = let both = and_parts (row.q == q) (row.cid == cid) e in (eqb-true row.q q both.0, eqb-true row.cid cid both.1)

-- With another value in a row

module _ {V : Type 0} where
  pub with_twice : (rows : List (Row V)) (q cid : ℕ) (v w : V) → with_value (with_value rows q cid v) q cid w ≡ with_value rows q cid w
  with_twice [] q cid v w = refl
  with_twice (row ∷ rows) q cid v w = grind (arith, with_twice rows q cid v w)

  pub with_same : (rows : List (Row V)) (q cid : ℕ) (v : V) → value_at rows q cid ≡ Some v → with_value rows q cid v ≡ rows
  with_same [] q cid v at = refl
  with_same (row ∷ rows) q cid v at = grind (arith, with_same rows q cid v)

  pub value_with : (rows : List (Row V)) (q cid : ℕ) (v w : V) → value_at rows q cid ≡ Some v → value_at (with_value rows q cid w) q cid ≡ Some w
  value_with [] q cid v w at = absurd cc
  value_with (row ∷ rows) q cid v w at = grind (arith, value_with rows q cid v w)

  pub without_with : (rows : List (Row V)) (q cid : ℕ) (v : V) → without (with_value rows q cid v) q cid ≡ without rows q cid
  without_with [] q cid v = refl
  without_with (row ∷ rows) q cid v = grind (arith, without_with rows q cid v)

  -- Which rows there are

  none_with : (rows : List (Row V)) (q cid k n : ℕ) (v : V) → NoneAt rows k n → NoneAt (with_value rows q cid v) k n
  none_with [] q cid k n v none = tt
  none_with (row ∷ rows) q cid k n v none = cond_both (is_at row q cid) _ _ (λ rs. NoneAt rs k n) (λ _. none) (λ _. (none.0, none_with rows q cid k n v none.1))

  pub distinct_with : (rows : List (Row V)) (q cid : ℕ) (v : V) → IsDistinct rows → IsDistinct (with_value rows q cid v)
  distinct_with [] q cid v d = tt
  distinct_with (row ∷ rows) q cid v d = cond_both (is_at row q cid) _ _ IsDistinct (λ _. d) (λ _. (none_with rows q cid row.q row.cid v d.0, distinct_with rows q cid v d.1))

  pub inside_with : (queues places : ℕ) (rows : List (Row V)) (q cid : ℕ) (v : V) → AreInside queues places rows → AreInside queues places (with_value rows q cid v)
  inside_with queues places [] q cid v inside = tt
  inside_with queues places (row ∷ rows) q cid v inside =
      cond_both (is_at row q cid) _ _ (AreInside queues places) (λ _. inside) (λ _. (inside.0, inside.1, inside_with queues places rows q cid v inside.2))

  pub all_with_value : (P : Row V → Type 0) (rows : List (Row V)) (q cid : ℕ) (v w : V) → value_at rows q cid ≡ Some v → ((row : Row V) → row.value ≡ v → P row → P (record row { value = w })) → AllByRecursion P rows → AllByRecursion P (with_value rows q cid w)
  all_with_value P [] q cid v w at new all = tt
  all_with_value P (row ∷ rows) q cid v w at new all =
      cond_both (is_at row q cid) _ _ (AllByRecursion P) (λ here. (new row (grind (arith, here)) all.0, all.1))
      (λ far. (all.0, all_with_value P rows q cid v w (grind (arith, far)) new all.1))

  none_without : (rows : List (Row V)) (q cid k n : ℕ) → NoneAt rows k n → NoneAt (without rows q cid) k n
  none_without [] q cid k n none = tt
  none_without (row ∷ rows) q cid k n none = cond_both (is_at row q cid) _ _ (λ rs. NoneAt rs k n) (λ _. none.1) (λ _. (none.0, none_without rows q cid k n none.1))

  pub distinct_without : (rows : List (Row V)) (q cid : ℕ) → IsDistinct rows → IsDistinct (without rows q cid)
  distinct_without [] q cid d = tt
  distinct_without (row ∷ rows) q cid d = cond_both (is_at row q cid) _ _ IsDistinct (λ _. d.1) (λ _. (none_without rows q cid row.q row.cid d.0, distinct_without rows q cid d.1))

  pub inside_without : (queues places : ℕ) (rows : List (Row V)) (q cid : ℕ) → AreInside queues places rows → AreInside queues places (without rows q cid)
  inside_without queues places [] q cid inside = tt
  inside_without queues places (row ∷ rows) q cid inside =
      cond_both (is_at row q cid) _ _ (AreInside queues places) (λ _. inside.2) (λ _. (inside.0, inside.1, inside_without queues places rows q cid inside.2))

  -- what holds of all rows, and of those with other names too
  all_apart : (P Q : Row V → Type 0) (q cid : ℕ) → ((row : Row V) → is_at row q cid ≡ false → P row → Q row) → (rows : List (Row V)) → NoneAt rows q cid → AllByRecursion P rows → AllByRecursion Q rows
  all_apart P Q q cid on [] none all = tt
  all_apart P Q q cid on (row ∷ rows) none all = (on row none.0 all.0, all_apart P Q q cid on rows none.1 all.1)

  pub all_without_row : (P Q : Row V → Type 0) (rows : List (Row V)) (q cid : ℕ) → IsDistinct rows → ((row : Row V) → is_at row q cid ≡ false → P row → Q row) → AllByRecursion P rows → AllByRecursion Q (without rows q cid)
  all_without_row P Q [] q cid d on all = tt
  all_without_row P Q (row ∷ rows) q cid d on all =
      cond_both (is_at row q cid) _ _ (AllByRecursion Q) (λ here. all_apart P Q q cid on rows (here-none row rows q cid here d.0) all.1)
      (λ far. (on row far all.0, all_without_row P Q rows q cid d.1 on all.1))

  none_more : (rows : List (Row V)) (row : Row V) (k n : ℕ) → NoneAt rows k n → is_at row k n ≡ false → NoneAt (rows ++ row ∷ []) k n
  none_more [] row k n none far = (far, tt)
  none_more (x ∷ xs) row k n none far = (none.0, none_more xs row k n none.1 far)

  pub distinct_more : (rows : List (Row V)) (row : Row V) → IsDistinct rows → NoneAt rows row.q row.cid → IsDistinct (rows ++ row ∷ [])
  distinct_more [] row d none = (tt, tt)
  distinct_more (x ∷ xs) row d none = (none_more xs row x.q x.cid d.0 (grind (arith, nat_tests, none.0)), distinct_more xs row d.1 none.1)

  pub inside_more : (queues places : ℕ) (rows : List (Row V)) (row : Row V) → AreInside queues places rows → row.q < queues → row.cid < places → AreInside queues places (rows ++ row ∷ [])
  inside_more queues places [] row inside queue place = (queue, place, tt)
  inside_more queues places (x ∷ xs) row inside queue place = (inside.0, inside.1, inside_more queues places xs row inside.2 queue place)

  pub holds_there : (P : Row V → Type 0) (rows : List (Row V)) (q cid : ℕ) (v : V) → value_at rows q cid ≡ Some v → AllByRecursion P rows → (row : Row V) × (row.q ≡ q) × (row.cid ≡ cid) × (row.value ≡ v) × P row
  holds_there P [] q cid v at all = absurd cc
  holds_there P (row ∷ rows) q cid v at all = elim (cases_Bool (is_at row q cid)) [
    | inl here ↦ let is = names row q cid here in (row, is.0, is.1, grind (arith, here), all.0)
    | inr far ↦ holds_there P rows q cid v (grind (arith, far)) all.1
  ]

  inside_all : (queues places : ℕ) (rows : List (Row V)) → AreInside queues places rows → AllByRecursion (λ row. (row.q < queues) × (row.cid < places)) rows
  inside_all queues places [] inside = tt
  inside_all queues places (row ∷ rows) inside = ((inside.0, inside.1), inside_all queues places rows inside.2)

  -- a row's slot is one of the table, and it is found among all
  pub place_of_row : (queues places : ℕ) (rows : List (Row V)) (q cid : ℕ) (v : V) → AreInside queues places rows → value_at rows q cid ≡ Some v → (q < queues) × (cid < places)
  place_of_row queues places rows q cid v inside at =
      let there = holds_there (λ row. (row.q < queues) × (row.cid < places)) rows q cid v at (inside_all queues places rows inside) in
      (omega (arith, there.1, there.4.0), omega (arith, there.2, there.4.1))

  pub gone : (rows : List (Row V)) (q cid : ℕ) → IsDistinct rows → value_at (without rows q cid) q cid ≡ None
  gone [] q cid d = refl
  gone (row ∷ rows) q cid d =
      cond_both (is_at row q cid) _ _ (λ rs. value_at rs q cid ≡ None) (λ here. value_at-none rows q cid (here-none row rows q cid here d.0)) (λ far. rw far (gone rows q cid d.1))

  pub gone_none : (rows : List (Row V)) (q cid : ℕ) → value_at rows q cid ≡ None → value_at (without rows q cid) q cid ≡ None
  gone_none rows q cid none = ap (λ (rs : List (Row V)). value_at rs q cid) (without-none rows q cid (none_stands rows q cid none)) ∙ none

-- Values of a kind

pub without_absent : {X : Type 0} (p : X → Bool) (xs : List X) → find p xs ≡ None → without_first p xs ≡ xs
without_absent p [] none = refl
without_absent p (x ∷ xs) none = grind (arith, without_absent p xs)

module _ {V X : Type 0} (pick : V → Option X) (test : ℕ → ℕ → X → Bool) where
  -- a row's value of the kind has the row's name
  abbrev pub IsNamed : Row V → Type 0
  IsNamed row = (x : X) → pick row.value ≡ Some x → (q cid : ℕ) → test q cid x ≡ is_at row q cid

  pub found_none : (rows : List (Row V)) (q cid : ℕ) → NoneAt rows q cid → AllByRecursion IsNamed rows → find (test q cid) (picked pick rows) ≡ None
  found_none [] q cid none named = refl
  found_none (row ∷ rows) q cid none named = elim (option_is (pick row.value)) [
    | inl e ↦ rw e (found_none rows q cid none.1 named.1)
    | inr (x, e) ↦ rw (e, named.0 x e q cid ∙ none.0) (found_none rows q cid none.1 named.1)
  ]

  pub found_at : (rows : List (Row V)) (q cid : ℕ) → IsDistinct rows → AllByRecursion IsNamed rows → find (test q cid) (picked pick rows) ≡ option_and_then pick (value_at rows q cid)
  found_at [] q cid d named = refl
  found_at (row ∷ rows) q cid d named = elim (cases_Bool (is_at row q cid)) [
    | inl here ↦ elim (option_is (pick row.value)) [
      | inl e ↦ rw (here, e) (found_none rows q cid (here-none row rows q cid here d.0) named.1)
      | inr (x, e) ↦ rw (here, e, named.0 x e q cid ∙ here) refl
    ]
    | inr far ↦ elim (option_is (pick row.value)) [
      | inl e ↦ rw (far, e) (found_at rows q cid d.1 named.1)
      | inr (x, e) ↦ rw (far, e, named.0 x e q cid ∙ far) (found_at rows q cid d.1 named.1)
    ]
  ]

  -- a value of the kind is changed
  pub changed_at : (f : X → X) (rows : List (Row V)) (q cid : ℕ) (v w : V) (x : X) → value_at rows q cid ≡ Some v → pick v ≡ Some x → pick w ≡ Some (f x) → AllByRecursion IsNamed rows
      → picked pick (with_value rows q cid w) ≡ with_first (test q cid) f (picked pick rows)
  changed_at f [] q cid v w x at was is named = absurd cc
  changed_at f (row ∷ rows) q cid v w x at was is named = elim (cases_Bool (is_at row q cid)) [
    | inl here ↦
        let same : row.value ≡ v = grind (arith, here, at) in
        let its : pick row.value ≡ Some x = ap pick same ∙ was in
        rw (here, is, its, named.0 x its q cid ∙ here) refl
    | inr far ↦
        let rest = changed_at f rows q cid v w x (grind (arith, far, at)) was is named.1 in elim (option_is (pick row.value)) [
          | inl e ↦ rw (far, e) rest
          | inr (y, e) ↦ rw (far, e, named.0 y e q cid ∙ far) (ap (λ (xs : List X). y ∷ xs) rest)
        ]
  ]

  -- a row is taken
  pub taken_at : (rows : List (Row V)) (q cid : ℕ) → IsDistinct rows → AllByRecursion IsNamed rows → picked pick (without rows q cid) ≡ without_first (test q cid) (picked pick rows)
  taken_at [] q cid d named = refl
  taken_at (row ∷ rows) q cid d named = elim (cases_Bool (is_at row q cid)) [
    | inl here ↦ elim (option_is (pick row.value)) [
      | inl e ↦ rw (here, e) (sym (without_absent (test q cid) (picked pick rows) (found_none rows q cid (here-none row rows q cid here d.0) named.1)))
      | inr (y, e) ↦ rw (here, e, named.0 y e q cid ∙ here) refl
    ]
    | inr far ↦ elim (option_is (pick row.value)) [
      | inl e ↦ rw (far, e) (taken_at rows q cid d.1 named.1)
      | inr (y, e) ↦ rw (far, e, named.0 y e q cid ∙ far) (ap (λ (xs : List X). y ∷ xs) (taken_at rows q cid d.1 named.1))
    ]
  ]

module _ {V X : Type 0} (pick : V → Option X) where
  -- a value of another kind is changed, or taken
  pub changed_other : (rows : List (Row V)) (q cid : ℕ) (v w : V) → value_at rows q cid ≡ Some v → pick v ≡ None → pick w ≡ None → picked pick (with_value rows q cid w) ≡ picked pick rows
  changed_other [] q cid v w at was is = refl
  changed_other (row ∷ rows) q cid v w at was is = elim (cases_Bool (is_at row q cid)) [
    | inl here ↦ let same : row.value ≡ v = grind (arith, here, at) in rw (here, is, same, was) refl
    | inr far ↦ rw far (ap (cons_option (pick row.value)) (changed_other rows q cid v w (grind (arith, far, at)) was is))
  ]

  pub taken_other : (rows : List (Row V)) (q cid : ℕ) (v : V) → value_at rows q cid ≡ Some v → pick v ≡ None → picked pick (without rows q cid) ≡ picked pick rows
  taken_other [] q cid v at was = refl
  taken_other (row ∷ rows) q cid v at was = elim (cases_Bool (is_at row q cid)) [
    | inl here ↦ let same : row.value ≡ v = grind (arith, here, at) in rw (here, same, was) refl
    | inr far ↦ rw far (ap (cons_option (pick row.value)) (taken_other rows q cid v (grind (arith, far, at)) was))
  ]

-- What ties a bench's values to its world, kept: values are taken out of their rows and put back, and the world goes on.

-- The queue of a reservation is there

-- an admin command is on queue 0, and another on a queue in service
queue_of_kind : (admin takes first out : Bool) → (if admin then not (takes && first) else first || out) ≡ false → (first ≡ true) ⊎ ((first || out) ≡ false)
queue_of_kind true true true out h = inl refl
queue_of_kind true true false out h = absurd (true≢false h)
queue_of_kind true false first out h = absurd (true≢false h)
queue_of_kind false takes first out h = inr h

queue_there : (s new : State) (q : ℕ) (request : Request) (d : DraftContents) → 0 < length s.host.queues → Step s (events.Reserve q request) (events.Reserved d) new → q < length s.host.queues
queue_there s new q request d some step =
    let fails = unrefused s (events.Reserve q request) (reserved_ok s new q request d step).0 in
    elim (queue_of_kind (is_admin request.kind) (takes_admin s.host.peer) (q == 0) (not (in_state in_service s q)) fails.0) [
      | inl zero ↦ omega (arith, eqb-true q 0 zero, some)
      | inr serves ↦ let x = live_queue s q serves fails.1.0 in slice_get_within s.host.queues q x.0 x.1.there
    ]

-- Names

module _ {A : Type 0} where
  named_by : {X : Type 0} (pick : Option (CommandValue A) → Option X) (test : ℕ → ℕ → X → Bool)
      → ((v : CommandValue A) (x : X) → pick (Some v) ≡ Some x → (q cid : ℕ) → test q cid x ≡ ((queue_of v == q) && (identifier_of v == cid)))
      → (s : State) (values : TableOf (Option (CommandValue A))) → IsBench s values → AllByRecursion (IsNamed pick test) values.rows
  named_by pick test tells s values b =
      all-all (IsHeld s.host.records) (IsNamed pick test)
      (λ row h x e q cid. tells h.value x (ap pick (sym h.held) ∙ e) q cid ∙ ap₂ (λ (k n : ℕ). (k == q) && (n == cid)) h.queue h.identifier) values.rows b.held

  pub drafts_named : (s : State) (values : TableOf (Option (CommandValue A))) → IsBench s values → AllByRecursion (IsNamed as_draft is_draft) values.rows
  drafts_named = named_by as_draft is_draft tells
    where
      tells : (v : CommandValue A) (d : DraftContents) → as_draft (Some v) ≡ Some d → (q cid : ℕ) → is_draft q cid d ≡ ((queue_of v == q) && (identifier_of v == cid))
      tells (value.Draft x) d e q cid = let same : d ≡ x = cc in ap (is_draft q cid) same
      tells v d e q cid = absurd cc

  pub tickets_named : (s : State) (values : TableOf (Option (CommandValue A))) → IsBench s values → AllByRecursion (IsNamed as_ticket is_ticket) values.rows
  tickets_named = named_by as_ticket is_ticket tells
    where
      tells : (v : CommandValue A) (t : ℕ × ℕ) → as_ticket (Some v) ≡ Some t → (q cid : ℕ) → is_ticket q cid t ≡ ((queue_of v == q) && (identifier_of v == cid))
      tells (value.Ticket x) t e q cid = let same : t ≡ (x.q, x.cid) = cc in ap (is_ticket q cid) same
      tells v t e q cid = absurd cc

  pub finished_named : (s : State) (values : TableOf (Option (CommandValue A))) → IsBench s values → AllByRecursion (IsNamed as_finished is_finished) values.rows
  finished_named = named_by as_finished is_finished tells
    where
      tells : (v : CommandValue A) (f : FinishedContents) → as_finished (Some v) ≡ Some f → (q cid : ℕ) → is_finished q cid f ≡ ((queue_of v == q) && (identifier_of v == cid))
      tells (value.Finished x) f e q cid = let same : f ≡ x = cc in ap (is_finished q cid) same
      tells v f e q cid = absurd cc

  -- a value's name is that of its row
  pub named_there : (s : State) (values : TableOf (Option (CommandValue A))) (q cid : ℕ) (v : CommandValue A) → IsBench s values → value_at values.rows q cid ≡ Some (Some v) → (queue_of v ≡ q) × (identifier_of v ≡ cid)
  named_there s values q cid v b there =
      let at = holds_there (IsHeld s.host.records) values.rows q cid (Some v) there b.held in
      let h = at.4 in
      let same : h.value ≡ v = some_is (sym h.held ∙ at.3) in
      (ap queue_of (sym same) ∙ h.queue ∙ at.1, ap identifier_of (sym same) ∙ h.identifier ∙ at.2)

  -- Nothing is taken out of an empty row, and a row that was dropped is gone

  pub none_taken : (values : TableOf (Option (CommandValue A))) (q cid : ℕ) (held left result : Option (CommandValue A)) → value_at values.rows q cid ≡ Some held → result ≡ held → left ≡ None
      → IfNone result (record values { rows = with_value values.rows q cid left } ≡ values)
  none_taken values q cid held left (Some v) there is out = tt
  none_taken values q cid held left None there is out =
      ap (λ (rows : List (Row (Option (CommandValue A)))). record values { rows = rows }) (with_same values.rows q cid left (there ∙ ap Some (sym is ∙ sym out)))

  pub row_gone : (rows : List (Row (Option (CommandValue A)))) (q cid : ℕ) (result : Option (Option (CommandValue A))) → result ≡ value_at rows q cid → IfSome result (λ _. IsDistinct rows) → value_at (without rows q cid) q cid ≡ None
  row_gone rows q cid None is d = gone_none rows q cid (sym is)
  row_gone rows q cid (Some held) is d = gone rows q cid d

  -- Rows, once a value was taken out

  module _ (old mid : TableOf (Option (CommandValue A))) (q cid : ℕ) (v : CommandValue A) (out : IsOut old q cid v mid) where
    pub is_empty : value_at mid.rows q cid ≡ Some None
    is_empty = ap (λ (t : TableOf (Option (CommandValue A))). value_at t.rows q cid) out.left ∙ value_with old.rows q cid (Some v) None out.there

    pub put_back : (w : CommandValue A) (new : TableOf (Option (CommandValue A))) → new ≡ record mid { rows = with_value mid.rows q cid (Some w) } → new ≡ record old { rows = with_value old.rows q cid (Some w) }
    put_back w new is = rw (is, out.left, with_twice old.rows q cid None (Some w)) refl

    pub put_same : (w : CommandValue A) (new : TableOf (Option (CommandValue A))) → w ≡ v → new ≡ record mid { rows = with_value mid.rows q cid (Some w) } → new ≡ old
    put_same w new same is = rw (put_back w new is, same, with_same old.rows q cid (Some v) out.there) refl

    pub row_dropped : (new : TableOf (Option (CommandValue A))) → new ≡ record mid { rows = without mid.rows q cid } → new ≡ record old { rows = without old.rows q cid }
    row_dropped new is = rw (is, out.left, without_with old.rows q cid None) refl

    pub put_next : (w : CommandValue A) (new : TableOf (Option (CommandValue A))) → new ≡ with_row (record mid { rows = without mid.rows q cid }) q cid (Some w) → new ≡ with_row (record old { rows = without old.rows q cid }) q cid (Some w)
    put_next w new is = rw (is, out.left, without_with old.rows q cid None) refl

    pub place_there : (s : State) → IsBench s old → IsPlace mid q cid
    place_there s b =
        let at = place_of_row old.queues old.places old.rows q cid (Some v) b.inside out.there in rw out.left (record { queue = at.0; identifier = at.1 })

  -- What a call leaves

  held_on : {rs new : List Record} (row : Row (Option (CommandValue A))) → IsHeld rs row → IsOutstanding row.q row.cid new → IsHeld new row
  held_on row h outstanding = record { value = h.value; held = h.held; queue = h.queue; identifier = h.identifier; outstanding = outstanding }

  -- the world goes on, and the values stay
  pub goes_on : (s : State) (e : Event) (reply : events.Reply) (new : State) (values : TableOf (Option (CommandValue A))) → Step s e reply new → ((q cid : ℕ) → ends_by q cid e reply ≡ false) → IsBench s values → IsBench new values
  goes_on s e reply new values step far b =
      let limits = limits_stay s e reply new step in
      record {
        queues = b.queues ∙ sym limits.queues;
        first = b.first;
        places = b.places ∙ ap (λ (n : ℕ). n - 1) (sym limits.entries);
        inside = b.inside;
        distinct = b.distinct;
        held = all-all (IsHeld s.host.records) (IsHeld new.host.records) (λ row h. held_on row h (stays_outstanding row.q row.cid s e reply new step (far row.q row.cid) h.outstanding)) values.rows b.held;
      }

  -- a value is another of its name
  pub renewed : (s : State) (old : TableOf (Option (CommandValue A))) (q cid : ℕ) (v w : CommandValue A) → IsBench s old → value_at old.rows q cid ≡ Some (Some v) → queue_of w ≡ queue_of v → identifier_of w ≡ identifier_of v
      → IsBench s (record old { rows = with_value old.rows q cid (Some w) })
  renewed s old q cid v w b there queue identifier =
      record {
        queues = b.queues;
        first = b.first;
        places = b.places;
        inside = inside_with old.queues old.places old.rows q cid (Some w) b.inside;
        distinct = distinct_with old.rows q cid (Some w) b.distinct;
        held = all_with_value (IsHeld s.host.records) old.rows q cid (Some v) (Some w) there on b.held;
      }
    where
      on : (row : Row (Option (CommandValue A))) → row.value ≡ Some v → IsHeld s.host.records row → IsHeld s.host.records (record row { value = Some w })
      on row is h =
          let same : h.value ≡ v = some_is (sym h.held ∙ is) in
          record { value = w; held = refl; queue = queue ∙ ap queue_of (sym same) ∙ h.queue; identifier = identifier ∙ ap identifier_of (sym same) ∙ h.identifier; outstanding = h.outstanding }

  -- a value gives way to the next one of its name
  pub followed : (s : State) (old : TableOf (Option (CommandValue A))) (q cid : ℕ) (v w : CommandValue A) → IsBench s old → value_at old.rows q cid ≡ Some (Some v) → queue_of w ≡ q → identifier_of w ≡ cid
      → IsBench s (with_row (record old { rows = without old.rows q cid }) q cid (Some w))
  followed s old q cid v w b there queue identifier =
      let at = place_of_row old.queues old.places old.rows q cid (Some v) b.inside there in
      let held = holds_there (IsHeld s.host.records) old.rows q cid (Some v) there b.held in
      let row : Row (Option (CommandValue A)) = record { q = q; cid = cid; value = Some w } in
      record {
        queues = b.queues;
        first = b.first;
        places = b.places;
        inside = inside_more old.queues old.places (without old.rows q cid) row (inside_without old.queues old.places old.rows q cid b.inside) at.0 at.1;
        distinct = distinct_more (without old.rows q cid) row (distinct_without old.rows q cid b.distinct) (none_stands (without old.rows q cid) q cid (gone old.rows q cid b.distinct));
        held = all-append (IsHeld s.host.records) (without old.rows q cid) row (all_without_row (IsHeld s.host.records) (IsHeld s.host.records) old.rows q cid b.distinct (λ row far h. h) b.held)
            (record {
              value = w;
              held = refl;
              queue = queue;
              identifier = identifier;
              outstanding = subst (λ (n : ℕ). IsOutstanding q n s.host.records) held.2 (subst (λ (k : ℕ). IsOutstanding k held.0.cid s.host.records) held.1 held.4.outstanding);
            });
      }

  -- a command ends, and its row is dropped
  pub ended : (s : State) (e : Event) (reply : events.Reply) (new : State) (old : TableOf (Option (CommandValue A))) (q cid : ℕ) → Step s e reply new → ((k n : ℕ) → ends_by k n e reply ≡ ((q == k) && (cid == n))) → IsBench s old
      → IsBench new (record old { rows = without old.rows q cid })
  ended s e reply new old q cid step its b =
      let limits = limits_stay s e reply new step in
      record {
        queues = b.queues ∙ sym limits.queues;
        first = b.first;
        places = b.places ∙ ap (λ (n : ℕ). n - 1) (sym limits.entries);
        inside = inside_without old.queues old.places old.rows q cid b.inside;
        distinct = distinct_without old.rows q cid b.distinct;
        held = all_without_row (IsHeld s.host.records) (IsHeld new.host.records) old.rows q cid b.distinct on b.held;
      }
    where
      on : (row : Row (Option (CommandValue A))) → is_at row q cid ≡ false → IsHeld s.host.records row → IsHeld new.host.records row
      on row far h = held_on row h (stays_outstanding row.q row.cid s e reply new step (its row.q row.cid ∙ grind (arith, nat_tests, far)) h.outstanding)

  -- A reservation

  -- its slot is one of the table, and is free
  pub place_free : (s new : State) (q : ℕ) (request : Request) (d : DraftContents) (values : TableOf (Option (CommandValue A))) → Step s (events.Reserve q request) (events.Reserved d) new → IsBench s values
      → IsPlace values q d.cid × (value_at values.rows q d.cid ≡ None)
  place_free s new q request d values step b = (
    record {
      queue = subst (λ (n : ℕ). q < n) (sym b.queues) (queue_there s new q request d (subst (λ (n : ℕ). 0 < n) b.queues b.first) step);
      identifier = subst (λ (n : ℕ). d.cid < n) (sym b.places) (reserved_ok s new q request d step).1.identifier.in_range;
    },
    free (value_at values.rows q d.cid) refl,
  )
    where
      r : IsReserved s q request d
      r = (reserved_ok s new q request d step).1

      free : (o : Option (Option (CommandValue A))) → value_at values.rows q d.cid ≡ o → o ≡ None
      free None e = refl
      free (Some v) e =
          let at = holds_there (IsHeld s.host.records) values.rows q d.cid v e b.held in
          let o : IsOutstanding d.q d.cid s.host.records = subst (λ (k : ℕ). IsOutstanding k d.cid s.host.records) (sym r.queue) (subst (λ (n : ℕ). IsOutstanding q n s.host.records) at.2 (subst (λ (k : ℕ). IsOutstanding k at.0.cid s.host.records) at.1 at.4.outstanding)) in
          absurd (true≢false (sym (found_any _ s.host.records o.0 o.1) ∙ none_there s new q request d step))

  pub reserved : (s new : State) (q : ℕ) (request : Request) (d : DraftContents) (values : TableOf (Option (CommandValue A))) → Step s (events.Reserve q request) (events.Reserved d) new → IsBench s values
      → IsBench new (with_row values q d.cid (Some (value.Draft d)))
  reserved s new q request d values step b =
      let free = place_free s new q request d values step b in
      let on = goes_on s (events.Reserve q request) (events.Reserved d) new values step (λ q cid. refl) b in
      let row : Row (Option (CommandValue A)) = record { q = q; cid = d.cid; value = Some (value.Draft d) } in
      let queue : d.q ≡ q = (reserved_ok s new q request d step).1.queue in
      record {
        queues = on.queues;
        first = on.first;
        places = on.places;
        inside = inside_more values.queues values.places values.rows row b.inside free.0.queue free.0.identifier;
        distinct = distinct_more values.rows row b.distinct (none_stands values.rows q d.cid free.1);
        held = all-append (IsHeld new.host.records) values.rows row on.held
            (record {
              value = value.Draft d;
              held = refl;
              queue = queue;
              identifier = refl;
              outstanding = subst (λ (k : ℕ). IsOutstanding k d.cid new.host.records) queue (drafted_record d, record_reserved s new q request d step, d.request, refl);
            });
      }

  -- A bench as it opens

  pub opens_tied : (s : State) (c : Config) (values : TableOf (Option (CommandValue A))) → length s.host.queues ≡ c.queues + 1 → s.entries ≡ c.entries → values ≡ record { queues = c.queues + 1; places = c.entries - 1; rows = [] } → IsBench s values
  opens_tied s c values many long is =
      subst (IsBench s) (sym is) (record { queues = sym many; first = omega arith; places = ap (λ (n : ℕ). n - 1) (sym long); inside = tt; distinct = tt; held = tt })
