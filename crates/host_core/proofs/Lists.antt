-- Lists of the host's tables.
use Rattle.std.proofs.Common.{◌≡◌, ◌≢◌, ℕ, zero, suc, ◌<◌, ◌≤◌, List, [], ◌∷◌, Some, length, slice_get, slice_set, get_or, refl, ap, sym, ◌∙◌, arith, Bool, true, false, Option, ◌||◌, None, map, filter, All, ap₂, subst, ◌+◌, ◌==◌, drop, if◌then◌else◌}
use Rattle.std.{proofs.lemmas.{Bool.{and_right, cond_both}, Option.none-some}, specs.{List.{AllByRecursion, list_any}, Option.option_map_or}}
use Rattle.machine_model.specs.{After.change, Refusals.{same_piece, same_pieces}, State.Record}
use Rattle.io_commands.specs.declared.request.Piece.{Piece}
use Rattle.slot_table.specs.Rows.{Row, first_place}
use Rattle.host_core.specs.{Parts.{records_of}, Rows.{RecordRow, rows_on}}
use Rattle.page_memory.{proofs.{Bytes.told, Lists.some_is}, specs.{Memory.Memory, Pages.{Pages, AreWhole, byte_at}}}
use Rattle.machine_model.proofs.Cases.{none_some}

-- A member of a list that is changed, by its index.

pub change-other : {A : Type 0} (j k : ℕ) (f : A → A) (xs : List A) → j ≢ k → slice_get (change j f xs) k ≡ slice_get xs k
change-other j k f [] far = refl
change-other zero zero f (x ∷ xs) far = absurd (far refl)
change-other zero (suc k) f (x ∷ xs) far = refl
change-other (suc j) zero f (x ∷ xs) far = refl
change-other (suc j) (suc k) f (x ∷ xs) far = change-other j k f xs (λ e. far (ap suc e))

-- a member written where it is
pub change-at-lists : {A : Type 0} (q : ℕ) (f : A → A) (xs : List A) (x y : A) → q < length xs → x ≡ get_or xs q x → y ≡ f x → slice_set xs q y ≡ change q f xs
change-at-lists q f [] x y l e h = absurd (omega arith)
change-at-lists {A = A} zero f (z ∷ xs) x y l e h = ap (λ (w : A). w ∷ xs) (h ∙ ap f e)
change-at-lists {A = A} (suc q) f (z ∷ xs) x y l e h = ap (λ (w : List A). z ∷ w) (change-at-lists q f xs x y (omega arith) e h)

-- a write at an index that was reached by an equal number
pub change-at : {A : Type 0} (q i : ℕ) (f : A → A) (xs : List A) (x y : A) → i ≡ q → i < length xs → x ≡ get_or xs i x → y ≡ f x → slice_set xs i y ≡ change q f xs
change-at q i f xs x y same l e h = change-at-lists i f xs x y l e h ∙ ap (λ (k : ℕ). change k f xs) same

past_end : {A : Type 0} (q : ℕ) (f : A → A) (xs : List A) → length xs ≤ q → xs ≡ change q f xs
past_end q f [] l = refl
past_end zero f (z ∷ xs) l = absurd (omega arith)
past_end {A = A} (suc q) f (z ∷ xs) l = ap (λ (w : List A). z ∷ w) (past_end q f xs (omega arith))

pub change-past : {A : Type 0} (q i : ℕ) (f : A → A) (xs : List A) → i ≡ q → length xs ≤ i → xs ≡ change q f xs
change-past q i f xs same l = past_end i f xs l ∙ ap (λ (k : ℕ). change k f xs) same

pub get-at : {A : Type 0} (q : ℕ) (xs : List A) (x : A) → q < length xs → x ≡ get_or xs q x → slice_get xs q ≡ Some x
get-at q [] x l e = absurd (omega arith)
get-at {A = A} zero (z ∷ xs) x l e = ap (λ (w : A). Some w) (sym e)
get-at (suc q) (z ∷ xs) x l e = get-at q xs x (omega arith) e

-- Lists that are compared.

pub pieces-differ : (a b : List Piece) → length a ≢ length b → same_pieces a b ≡ false
pieces-differ [] [] h = absurd (h refl)
pieces-differ [] (y ∷ b) h = refl
pieces-differ (x ∷ a) [] h = refl
pieces-differ (x ∷ a) (y ∷ b) h = and_right (same_piece x y) _ (pieces-differ a b (λ e. h (ap suc e)))

-- Lists of which one member is changed, and lists that agree member by member.

pub length-change : {A : Type 0} (k : ℕ) (f : A → A) (xs : List A) → length (change k f xs) ≡ length xs
length-change k f [] = refl
length-change zero f (x ∷ xs) = refl
length-change (suc k) f (x ∷ xs) = ap suc (length-change k f xs)

pub map-change : {A B : Type 0} (g : A → B) (f : A → A) → ((x : A) → g (f x) ≡ g x) → (k : ℕ) (xs : List A) → map g (change k f xs) ≡ map g xs
map-change g f same k [] = refl
map-change g f same zero (x ∷ xs) = ap (λ y. y ∷ map g xs) (same x)
map-change g f same (suc k) (x ∷ xs) = ap (λ ys. g x ∷ ys) (map-change g f same k xs)

-- what holds of each member but one, and of that one once it is changed
pub each-change : {A : Type 0} (P : ℕ → A → Type 0) (q : ℕ) (f : A → A) (xs : List A)
    → ((k : ℕ) (x : A) → k ≢ q → slice_get xs k ≡ Some x → P k x) → ((x : A) → slice_get xs q ≡ Some x → P q (f x))
    → (k : ℕ) (y : A) → slice_get (change q f xs) k ≡ Some y → P k y
each-change P q f [] all one k y e = absurd (none_some e)
each-change P zero f (x ∷ xs) all one zero y e = subst (P 0) (some_is e) (one x refl)
each-change P zero f (x ∷ xs) all one (suc k) y e = all (suc k) y (λ h. cc) e
each-change P (suc q) f (x ∷ xs) all one zero y e = all 0 y (λ h. cc) e
each-change P (suc q) f (x ∷ xs) all one (suc k) y e = each-change (λ n. P (suc n)) q f xs (λ n z other. all (suc n) z (λ h. other (omega (arith, h)))) one k y e

pub map-agree : {A B : Type 0} (f g : A → B) (xs : List A) → ((i : ℕ) (x : A) → slice_get xs i ≡ Some x → f x ≡ g x) → map f xs ≡ map g xs
map-agree f g [] same = refl
map-agree f g (x ∷ xs) same = ap₂ (λ y ys. y ∷ ys) (same 0 x refl) (map-agree f g xs (λ i y e. same (suc i) y e))

pub all-filter_by : {A : Type 0} (P Q : A → Type 0) (f : A → Bool) → ((x : A) → f x ≡ true → P x → Q x) → (xs : List A) → AllByRecursion P xs → AllByRecursion Q (filter f xs)
all-filter_by P Q f more [] all = tt
all-filter_by P Q f more (x ∷ xs) all = cond_both (f x) _ _ (AllByRecursion Q) (λ e. (more x e all.0, all-filter_by P Q f more xs all.1)) (λ _. all-filter_by P Q f more xs all.1)

-- by its members, and by recursion
pub all-from : {A : Type 0} (P : A → Type 0) (xs : List A) → All P xs → AllByRecursion P xs
all-from P [] all = tt
all-from P (x ∷ xs) all = (all 0 x (omega arith), all-from P xs (λ k d l. all (suc k) d (omega arith)))

pub any-map : {A : Type 0} (test : A → Bool) (f : A → A) → ((x : A) → test (f x) ≡ test x) → (xs : List A) → list_any test (map f xs) ≡ list_any test xs
any-map test f same [] = refl
any-map test f same (x ∷ xs) = ap₂ (λ a b. a || b) (same x) (any-map test f same xs)

pub change-same : {A : Type 0} (f : A → A) → ((x : A) → f x ≡ x) → (k : ℕ) (xs : List A) → change k f xs ≡ xs
change-same f same k [] = refl
change-same f same zero (x ∷ xs) = ap (λ y. y ∷ xs) (same x)
change-same f same (suc k) (x ∷ xs) = ap (λ ys. x ∷ ys) (change-same f same k xs)

-- The records of a queue, counted from row to row.

-- the rows of a queue are its outstanding commands
pub rows_on-outstanding : (q : ℕ) (rows : List (Row RecordRow)) → rows_on q rows ≡ length (map (λ (r : Record). r.cid) (filter (λ (r : Record). r.q == q) (records_of rows)))
rows_on-outstanding q [] = refl
rows_on-outstanding q (row ∷ rows) = grind (arith, rows_on-outstanding q rows)

-- the row at which a walk stands, and those after it
one_more : (q n p cid : ℕ) (rows : List (Row RecordRow)) → first_place (drop n rows) ≡ Some (p, cid)
    → rows_on q (drop n rows) ≡ (if p == q then rows_on q (drop (suc n) rows) + 1 else rows_on q (drop (suc n) rows))
one_more q zero p cid [] at = absurd (none-some _ at)
one_more q (suc n) p cid [] at = absurd (none-some _ at)
one_more q zero p cid (row ∷ rows) at =
    let own : row.q ≡ p = ap (λ (o : Option (ℕ × ℕ)). option_map_or (λ (place : ℕ × ℕ). place.0) o p) at in ap (λ (k : ℕ). if k == q then rows_on q rows + 1 else rows_on q rows) own
one_more q (suc n) p cid (row ∷ rows) at = one_more q n p cid rows at

pub row_counted : (q n p cid : ℕ) (rows : List (Row RecordRow)) → first_place (drop n rows) ≡ Some (p, cid)
    → rows_on q (drop n rows) ≡ (if p == q then rows_on q (drop (n + 1) rows) + 1 else rows_on q (drop (n + 1) rows))
row_counted q n p cid rows at =
    let more : suc n ≡ n + 1 = omega arith in
    one_more q n p cid rows at ∙ ap (λ (k : ℕ). if p == q then rows_on q (drop k rows) + 1 else rows_on q (drop k rows)) more

-- no row is left
pub none_counted : (q : ℕ) (rows : List (Row RecordRow)) → first_place rows ≡ None → rows_on q rows ≡ 0
none_counted q [] none = refl
none_counted q (row ∷ rows) none = absurd (none-some _ (sym none))

pub all_counted : (q n : ℕ) (rows : List (Row RecordRow)) → length rows ≤ n → rows_on q (drop n rows) ≡ 0
all_counted q zero [] past = refl
all_counted q (suc n) [] past = refl
all_counted q zero (row ∷ rows) past = absurd (omega arith)
all_counted q (suc n) (row ∷ rows) past = all_counted q n rows (omega arith)

-- pages that show the same bytes are the same
pub same_pages : (old new : Pages) → AreWhole old → AreWhole new → length new ≡ length old → byte_at new ≡ byte_at old → new ≡ old
same_pages old new whole whole' count same = told new old whole' whole count (λ place. ap (λ (m : Memory). m place) same)
