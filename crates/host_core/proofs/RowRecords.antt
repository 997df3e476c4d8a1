-- Records, and what a change of one leaves.
use Rattle.slot_table.specs.Rows as table
use Rattle.page_ledger.specs.declared.owner.Owner.TheVariants as owner
use Rattle.std.proofs.Common.{is_some, ◌≡◌, ℕ, ◌==◌, Bool, true, Option, Some, None, IfSome, List, [], ◌∷◌, find, refl, ap, ap₂, sym, ◌∙◌, subst, eqb-true, option_map, ◌+◌, ◌-◌, arith, inl, inr, length, slice_get}
use Rattle.std.{proofs.lemmas.Bool.{and_parts, cases_Bool, cond_both, Decides.nat_tests}, specs.List.AllByRecursion}
use Rattle.machine_model.{proofs.Sound.changed, specs.After.change}
use Rattle.machine_model.specs.State.{Record, is_at, with_record, without_record}
use Rattle.slot_table.{specs.{Rows.{Row, value_at, without, with_value, NoneAt, IsDistinct}, Table.TableOf}, proofs.{Rows.without-none, Walks.none_stands}}
use Rattle.host_core.{proofs.Lists.{any-map, each-change}, specs.Commands.claims_changed}
use Rattle.host_core.specs.{Parts.{record_of, records_of, tables_of, Becomes}, Rows.{RecordRow, Queue}, Tables.Tables}
use Rattle.host_core.specs.{Whole.{ClaimIdentifiers, ClaimsIdentifiers, IsRecord, TellsCommand, is_outstanding, IsQueue, TellsQueue}, declared.tables.HostTables.HostTables}
use Rattle.page_ledger.specs.{Owners.owner_at, declared.owner.Owner.Owner}
use Rattle.page_memory.specs.{Pages.{Pages, page_at}, declared.page.Half.Half}
use Rattle.slot_table.proofs.Rows.{option_is}
use Rattle.page_memory.proofs.Lists.{some_is, all-map}
use Rattle.machine_model.proofs.Cases.{none_some}

-- The rows of the table of records, as records.

pub find-rows : (rows : List (Row RecordRow)) (q cid : ℕ) → find (is_at q cid) (records_of rows) ≡ option_map (record_of q cid) (value_at rows q cid)
find-rows [] q cid = refl
find-rows (row ∷ rows) q cid = grind (arith, nat_tests, find-rows rows q cid)

pub found-row : (rows : List (Row RecordRow)) (q cid : ℕ) (value : RecordRow) → value_at rows q cid ≡ Some value → find (is_at q cid) (records_of rows) ≡ Some (record_of q cid value)
found-row rows q cid value h = find-rows rows q cid ∙ ap (option_map (record_of q cid)) h

-- a row is the record that is in its slot
pub row-is : (rows : List (Row RecordRow)) (q cid : ℕ) {value : RecordRow} {r : Record} → value_at rows q cid ≡ Some value → find (is_at q cid) (records_of rows) ≡ Some r → record_of q cid value ≡ r
row-is rows q cid {value} h was = some_is (sym (found-row rows q cid value h) ∙ was)

pub row-there : (rows : List (Row RecordRow)) (q cid : ℕ) {value : RecordRow} → value_at rows q cid ≡ Some value → true ≡ is_some (find (is_at q cid) (records_of rows))
row-there rows q cid {value} h = sym (ap is_some (found-row rows q cid value h))

pub no-row : (rows : List (Row RecordRow)) (q cid : ℕ) → value_at rows q cid ≡ None → find (is_at q cid) (records_of rows) ≡ None
no-row rows q cid h = find-rows rows q cid ∙ ap (option_map (record_of q cid)) h

pub empty-row : (rows : List (Row RecordRow)) (q cid : ℕ) → find (is_at q cid) (records_of rows) ≡ None → value_at rows q cid ≡ None
empty-row rows q cid h = let e = sym (find-rows rows q cid) ∙ h in elim (option_is (value_at rows q cid)) [ inl none ↦ none | inr (x, at) ↦ absurd (none_some (sym (rw at at e))) ]

-- no row is in a slot

none-with : (rows : List (Row RecordRow)) (q cid : ℕ) (f : Record → Record) → NoneAt rows q cid → with_record q cid f (records_of rows) ≡ records_of rows
none-with [] q cid f h = refl
none-with (row ∷ rows) q cid f h = rw (h.0, none-with rows q cid f h.1) refl

none-without : (rows : List (Row RecordRow)) (q cid : ℕ) → NoneAt rows q cid → without_record q cid (records_of rows) ≡ records_of rows
none-without [] q cid h = refl
none-without (row ∷ rows) q cid h = rw (h.0, none-without rows q cid h.1) refl

pub with-no_row : (rows : List (Row RecordRow)) (q cid : ℕ) (f : Record → Record) → value_at rows q cid ≡ None → records_of rows ≡ with_record q cid f (records_of rows)
with-no_row rows q cid f h = sym (none-with rows q cid f (none_stands rows q cid h))

pub here-none : {V : Type 0} (row : Row V) (rows : List (Row V)) (q cid : ℕ) → table.is_at row q cid ≡ true → NoneAt rows row.q row.cid → NoneAt rows q cid
here-none row rows q cid h none =
    let both = and_parts (row.q == q) (row.cid == cid) h in
    subst (λ (x : ℕ). NoneAt rows x cid) (eqb-true row.q q both.0) (subst (λ (x : ℕ). NoneAt rows row.q x) (eqb-true row.cid cid both.1) none)

-- the table's changes are the records'

pub with-row : (rows : List (Row RecordRow)) (q cid : ℕ) (f : Record → Record) (old new : RecordRow) → IsDistinct rows → value_at rows q cid ≡ Some old → record_of q cid new ≡ f (record_of q cid old)
    → records_of (with_value rows q cid new) ≡ with_record q cid f (records_of rows)
with-row [] q cid f old new distinct at is = absurd (none_some at)
with-row (row ∷ rows) q cid f old new distinct at is = elim (cases_Bool (table.is_at row q cid)) [
  | inl here ↦
      let both = and_parts (row.q == q) (row.cid == cid) here in
      let queue = eqb-true row.q q both.0 in
      let identifier = eqb-true row.cid cid both.1 in
      let was : row.value ≡ old = some_is (rw here at at) in
      rw here (ap₂ (λ (r : Record) (rs : List Record). r ∷ rs) (rw (queue, identifier, was) is) (sym (none-with rows q cid f (here-none row rows q cid here distinct.0))))
  | inr far ↦ rw far (ap (λ (rs : List Record). record_of row.q row.cid row.value ∷ rs) (with-row rows q cid f old new distinct.1 (rw far at at) is))
]

without-row : (rows : List (Row RecordRow)) (q cid : ℕ) → IsDistinct rows → records_of (without rows q cid) ≡ without_record q cid (records_of rows)
without-row [] q cid distinct = refl
without-row (row ∷ rows) q cid distinct = elim (cases_Bool (table.is_at row q cid)) [
  | inl here ↦ rw here (sym (none-without rows q cid (here-none row rows q cid here distinct.0)))
  | inr far ↦ rw far (ap (λ (rs : List Record). record_of row.q row.cid row.value ∷ rs) (without-row rows q cid distinct.1))
]

-- a row taken out, if one is there
taken-row : (rows : List (Row RecordRow)) (q cid : ℕ) (o : Option RecordRow) → o ≡ value_at rows q cid → IfSome o (λ _. IsDistinct rows) → records_of (without rows q cid) ≡ without_record q cid (records_of rows)
taken-row rows q cid None at distinct =
    let none = none_stands rows q cid (sym at) in
    ap records_of (without-none rows q cid none) ∙ sym (none-without rows q cid none)
taken-row rows q cid (Some value) at distinct = without-row rows q cid distinct

-- so are those of the host's parts

pub changed-rows : {A : Type 0} (parts : HostTables A) (rows : List (Row RecordRow)) (f : List Record → List Record) → records_of rows ≡ f (records_of parts.records.rows)
    → Becomes parts (λ t. record t { records = f t.records }) (record parts { records = record parts.records { rows = rows } })
changed-rows parts rows f same = λ pages. ap (λ (rs : List Record). record (tables_of parts pages) { records = rs }) same

-- a row taken out of them
pub taken-becomes : {A : Type 0} (parts : HostTables A) (q cid : ℕ) (o : Option RecordRow) (left : TableOf RecordRow) → o ≡ value_at parts.records.rows q cid → IfSome o (λ _. IsDistinct parts.records.rows)
    → left ≡ record parts.records { rows = without parts.records.rows q cid } → Becomes parts (λ t. record t { records = without_record q cid t.records }) (record parts { records = left })
taken-becomes parts q cid o left at distinct is = λ pages.
    ap (λ (table : TableOf RecordRow). tables_of (record parts { records = table }) pages) is
    ∙ changed-rows parts (without parts.records.rows q cid) (without_record q cid) (taken-row parts.records.rows q cid o at distinct) pages

-- A record that is marked: what holds of the records holds as before.

-- a mark changes a phase or a status alone
pub record Marks (f : Record → Record) : Type 0 where
  pub at : (q cid : ℕ) (r : Record) → is_at q cid (f r) ≡ is_at q cid r
  pub tells : (owners : List Owner) (r : Record) → TellsCommand owners r → TellsCommand owners (f r)

marked-at : (f : Record → Record) → Marks f → (q cid p i : ℕ) (r : Record) → is_at p i (changed q cid f r) ≡ is_at p i r
marked-at f marks q cid p i r = cond_both (is_at q cid r) _ _ (λ x. is_at p i x ≡ is_at p i r) (λ _. marks.at p i r) (λ _. refl)

pub marked-outstanding : (f : Record → Record) → Marks f → (records : List Record) (q cid p i : ℕ) → is_outstanding (with_record q cid f records) p i ≡ is_outstanding records p i
marked-outstanding f marks records q cid p i = any-map (is_at p i) (changed q cid f) (marked-at f marks q cid p i) records

pub marked-tells : (f : Record → Record) → Marks f → (owners : List Owner) (records : List Record) (q cid : ℕ) → AllByRecursion (TellsCommand owners) records → AllByRecursion (TellsCommand owners) (with_record q cid f records)
marked-tells f marks owners records q cid all =
    all-map (TellsCommand owners) (changed q cid f) (λ r h. cond_both (is_at q cid r) _ _ (TellsCommand owners) (λ _. marks.tells owners r h) (λ _. h)) records all

-- where what is changed still is one that fits
pub marked-records : (f : Record → Record) (n : ℕ) (records : List Record) (q cid : ℕ) → ((r : Record) → is_at q cid r ≡ true → IsRecord n r → IsRecord n (f r)) → AllByRecursion (IsRecord n) records
    → AllByRecursion (IsRecord n) (with_record q cid f records)
marked-records f n records q cid fits all =
    all-map (IsRecord n) (changed q cid f) (λ r h. cond_both (is_at q cid r) _ _ (IsRecord n) (λ at. fits r at h) (λ _. h)) records all

-- the same commands claim the same identifiers
pub claims-same : (records rs : List Record) (q : ℕ) (claimed : List Bool) → ((cid : ℕ) → is_outstanding rs q cid ≡ is_outstanding records q cid) → ClaimsIdentifiers records q claimed → ClaimsIdentifiers rs q claimed
claims-same records rs q claimed same old = record { told = λ cid l. old.told cid l ∙ ap Some (sym (same cid)); inside = λ cid out. old.inside cid (sym (same cid) ∙ out) }

pub marked-claims : (f : Record → Record) → Marks f → (records : List Record) (queues : List Queue) (q cid : ℕ) → ClaimIdentifiers records queues → ClaimIdentifiers (with_record q cid f records) queues
marked-claims f marks records queues q cid claims =
    record { each = λ p queue e. claims-same records (with_record q cid f records) p queue.host.claimed (marked-outstanding f marks records q cid p) (claims.each p queue e) }

-- Calls that leave the queues' halves alone, and calls that change the claims of a queue alone.

-- The pages of the queues' halves are the same in another pool.
pub record Spares (t : Tables) (pages : Pages) : Type 0 where
  pub same : (q : ℕ) (half : Half) (p : ℕ) → owner_at t.owners p ≡ Some (owner.Queue q half) → page_at pages p ≡ page_at t.pages p

-- Other claimed identifiers change nothing else of a queue.

pub claims_keep_queue : (f : List Bool → List Bool) → ((bits : List Bool) → length (f bits) ≡ length bits) → (n q : ℕ) (queue : Queue) → IsQueue n q queue → IsQueue n q (claims_changed f queue)
claims_keep_queue f size n q queue is =
    record {
      number = is.number;
      entries = is.entries;
      host_side = record {
        least = is.host_side.least;
        most = is.host_side.most;
        head = is.host_side.head;
        known_head = is.host_side.known_head;
        tail = is.host_side.tail;
        identifiers = ap (λ (k : ℕ). k + 1) (size queue.host.claimed) ∙ is.host_side.identifiers;
      };
    }

pub claims_keep_tells : (f : List Bool → List Bool) (owners : List Owner) (q : ℕ) (queue : Queue) → TellsQueue owners q queue → TellsQueue owners q (claims_changed f queue)
claims_keep_tells f owners q queue tells = record { submission = tells.submission; completion = tells.completion }

-- what holds of each queue holds of each after one got other claims
pub each_claimed : (P : ℕ → Queue → Type 0) (f : List Bool → List Bool) → ((q : ℕ) (queue : Queue) → P q queue → P q (claims_changed f queue)) → (k : ℕ) (queues : List Queue)
    → ((q : ℕ) (queue : Queue) → slice_get queues q ≡ Some queue → P q queue) → (q : ℕ) (queue : Queue) → slice_get (change k (claims_changed f) queues) q ≡ Some queue → P q queue
each_claimed P f keeps k queues each = each-change P k (claims_changed f) queues (λ q x _ at. each q x at) (λ x at. keeps k x (each k x at))
