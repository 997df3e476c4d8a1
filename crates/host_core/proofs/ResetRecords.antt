-- The records at a reset: the commands that the host sent itself are forgotten, and the caller's lost queue by queue.
use Rattle.std.proofs.Common.{◌≡◌, ℕ, zero, suc, ◌+◌, ◌-◌, ◌<◌, ◌≤◌, ◌==◌, nat_lt, Bool, true, false, not, cond, if◌then◌else◌, ◌&&◌, ◌||◌, Option, Some, List, [], ◌∷◌, filter, find, is_some, map, length, slice_set, refl, ap, ap₂, sym, ◌∙◌, subst, arith, lt-ltb, eq-eqb, length-set, inl, inr}
use Rattle.std.{proofs.lemmas.Bool.{true≢false, cases_Bool, cond_both, Decides.nat_tests}, specs.{List.AllByRecursion, Option.option_map_or}}
use Rattle.machine_model.proofs.{Counting.{here, times-outstanding, total}, Owned.lost_by}
use Rattle.machine_model.specs.{After.{change, is_of_io, lost, lost_anywhere, reset_records}, Claims.IdentifiersDiffer, State.{Record, is_at, without_record}, Work.Work, declared.words.Work.TheVariants.{Io, Management}}
use Rattle.host_core.proofs.{Identifiers.{claim-less, only-found, places-of}, Lists.{any-map, change-same, length-change}, RowRecords.claims-same}
use Rattle.host_core.specs.{Commands.{Claims, claims_changed, without_claim}, Reaping.kind_of, Rows.Queue, Tables.{Tables, view_of}}
use Rattle.host_core.specs.Resetting.{has_own, own_freed, with_all_own_over, with_own_over, HasClaims, HasPlaces, IsPlaced}
use Rattle.host_core.specs.Whole.{ClaimIdentifiers, ClaimsIdentifiers, IsHost, is_outstanding}
use Rattle.page_memory.proofs.Lists.{all-filter, all-map, all-slots, found_any}
use Rattle.slot_table.proofs.Rows.{option_is}

abbrev is_io : Record → Bool
is_io r = is_of_io r.work

-- The host's own, one identifier after the other

-- whether a record is left once those of the host's own below this identifier are over
abbrev pub is_left : ℕ → Record → Bool
is_left n r = is_of_io r.work || not ((r.q == 0) && nat_lt r.cid n)

abbrev pub own_over_below : ℕ → Tables → Tables
own_over_below n t = record t { records = filter (is_left n) t.records; queues = change 0 (claims_changed (own_freed t.records n)) t.queues }

abbrev with_both : Tables → List Record → List Queue → Tables
with_both t records queues = record t { records = records; queues = queues }

none-left : (rs : List Record) → rs ≡ filter (is_left 0) rs
none-left [] = refl
none-left (r ∷ rs) = let left : is_left 0 r ≡ true = grind (arith, nat_tests) in rw left (ap (λ (xs : List Record). r ∷ xs) (none-left rs))

pub none-over : (t : Tables) → t ≡ own_over_below 0 t
none-over t = ap₂ (with_both t) (none-left t.records) (sym (change-same (claims_changed (λ claimed. claimed)) (λ x. refl) 0 t.queues))

-- those that are over stand under other identifiers than the next
find-left : (n : ℕ) (rs : List Record) → find (is_at 0 n) (filter (is_left n) rs) ≡ find (is_at 0 n) rs
find-left n [] = refl
find-left n (r ∷ rs) = grind (arith, nat_tests, find-left n rs)

own-same : (n : ℕ) (rs : List Record) → has_own (filter (is_left n) rs) n ≡ has_own rs n
own-same n rs = ap (λ (o : Option Record). option_map_or (λ r. not (is_of_io r.work)) o false) (find-left n rs)

-- the one command under an identifier is the one that is found there
abbrev OwnAt : ℕ → Bool → Record → Type 0
OwnAt n own r = is_at 0 n r ≡ true → not (is_of_io r.work) ≡ own

own-agrees : (n : ℕ) (rs : List Record) → total (here 0 n) rs < 2 → AllByRecursion (OwnAt n (has_own rs n)) rs
own-agrees n rs once = all-slots (OwnAt n (has_own rs n)) rs (λ i r place at.
    ap (λ (o : Option Record). option_map_or (λ x. not (is_of_io x.work)) o false) (sym (only-found 0 n rs i r place at once)))

next-own : (n : ℕ) (r : Record) → OwnAt n true r → (is_left n r && not (is_at 0 n r)) ≡ is_left (suc n) r
next-own n r own = grind (arith, nat_tests, own)

next-other : (n : ℕ) (r : Record) → OwnAt n false r → is_left n r ≡ is_left (suc n) r
next-other n r other = grind (arith, nat_tests, other)

own-records : (n : ℕ) (own : Bool) (rs : List Record) → AllByRecursion (OwnAt n own) rs
    → (if own then without_record 0 n (filter (is_left n) rs) else filter (is_left n) rs) ≡ filter (is_left (suc n)) rs
own-records n true [] all = refl
own-records n false [] all = refl
own-records n true (r ∷ rs) all = grind (arith, next-own n r all.0, own-records n true rs all.1)
own-records n false (r ∷ rs) all = ap₂ (λ (c : Bool) (xs : List Record). cond c (r ∷ xs) xs) (next-other n r all.0) (own-records n false rs all.1)

own-queues : (n : ℕ) (own : Bool) (f : List Bool → List Bool) (queues : List Queue)
    → (if own then change 0 (without_claim n) (change 0 (claims_changed f) queues) else change 0 (claims_changed f) queues)
    ≡ change 0 (claims_changed (λ claimed. if own then slice_set (f claimed) n false else f claimed)) queues
own-queues n true f [] = refl
own-queues n false f [] = refl
own-queues n true f (x ∷ queues) = refl
own-queues n false f (x ∷ queues) = refl

either-both : (t : Tables) (own : Bool) (rs rs' : List Record) (queues queues' : List Queue)
    → (if own then with_both t rs queues else with_both t rs' queues') ≡ with_both t (if own then rs else rs') (if own then queues else queues')
either-both t true rs rs' queues queues' = refl
either-both t false rs rs' queues queues' = refl

pub one-over : (t : Tables) → IdentifiersDiffer (view_of t).host → (n : ℕ) → with_own_over n (own_over_below n t) ≡ own_over_below (suc n) t
one-over t differ n =
    let u : Tables = own_over_below n t in
    let once : total (here 0 n) t.records < 2 = subst (λ (k : ℕ). k < 2) (times-outstanding n 0 t.records) (differ 0 n) in
    ap (λ (own : Bool). if own then with_both t (without_record 0 n u.records) (change 0 (without_claim n) u.queues) else u) (own-same n t.records)
    ∙ (either-both t (has_own t.records n) (without_record 0 n u.records) u.records (change 0 (without_claim n) u.queues) u.queues
    ∙ ap₂ (with_both t) (own-records n (has_own t.records n) t.records (own-agrees n t.records once)) (own-queues n (has_own t.records n) (own_freed t.records n) t.queues))

-- whether a command is one, and one that goes
pub own-is : (w : Work) → is_some (kind_of w) ≡ not (is_of_io w)
own-is (Io request) = refl
own-is (Management kind) = refl

pub own-gone : (t u : Tables) (cid : ℕ) (queues : List Queue) → has_own t.records cid ≡ true → u ≡ record t { records = without_record 0 cid t.records }
    → queues ≡ change 0 (without_claim cid) u.queues → record u { queues = queues } ≡ with_own_over cid t
own-gone t u cid queues own eu eq = rw (eq, eu, own) refl

-- the claimed identifiers stay those outstanding

own-there : (n : ℕ) (rs : List Record) → has_own rs n ≡ true → is_outstanding rs 0 n ≡ true
own-there n rs own = elim (option_is (find (is_at 0 n) rs)) [
  | inl e ↦ absurd (true≢false (sym (rw e at own)))
  | inr (r, e) ↦ found_any (is_at 0 n) rs r e
]

claimed-over : (t : Tables) (n : ℕ) → ClaimIdentifiers t.records t.queues → ClaimIdentifiers (with_own_over n t).records (with_own_over n t).queues
claimed-over t n claims =
    cond_both (has_own t.records n) _ _ (λ (u : Tables). ClaimIdentifiers u.records u.queues) (λ own. claim-less t.records t.queues 0 n claims (own-there n t.records own)) (λ _. claims)

claims-below : (t : Tables) → HasClaims t → (n : ℕ) → ClaimIdentifiers (own_over_below n t).records (own_over_below n t).queues
claims-below t h zero = subst (λ (u : Tables). ClaimIdentifiers u.records u.queues) (none-over t) h.claims
claims-below t h (suc n) = subst (λ (u : Tables). ClaimIdentifiers u.records u.queues) (one-over t h.differ n) (claimed-over (own_over_below n t) n (claims-below t h n))

pub own-claimed : (t : Tables) → HasClaims t → (n : ℕ) → has_own (own_over_below n t).records n ≡ true → Claims (own_over_below n t).queues 0 n
own-claimed t h n own y at =
    let there : is_outstanding (own_over_below n t).records 0 n ≡ true = own-there n (own_over_below n t).records own in
    let claims = (claims-below t h n).each 0 y at in
    claims.told n (claims.inside n there) ∙ ap Some there

-- each identifier lies below the last
all-left : (entries queues n : ℕ) (rs : List Record) → AllByRecursion (IsPlaced entries queues) rs → entries - 1 ≤ n → filter (is_left n) rs ≡ filter is_io rs
all-left entries queues n [] all size = refl
all-left entries queues n (r ∷ rs) all size =
    let below : nat_lt r.cid n ≡ true = lt-ltb r.cid n (omega (arith, all.0.identifier, size)) in
    let left : is_left n r ≡ is_io r = elim (cases_Bool (is_io r)) [ inl io ↦ rw io refl | inr own ↦ rw (own, eq-eqb r.q 0 (all.0.own own), below) refl ] in
    ap₂ (λ (c : Bool) (xs : List Record). cond c (r ∷ xs) xs) left (all-left entries queues n rs all.1 size)

pub all-over : (t : Tables) → AllByRecursion (IsPlaced t.entries (length t.queues)) t.records → (n : ℕ) → n ≡ t.entries - 1 → own_over_below n t ≡ with_all_own_over t
all-over t placed n last =
    ap (λ (k : ℕ). own_over_below k t) last
    ∙ ap (λ (rs : List Record). with_both t rs (with_all_own_over t).queues) (all-left t.entries (length t.queues) (t.entries - 1) t.records placed (omega arith))

-- The caller's, one queue after the other

-- a record, lost if its queue is below this one
abbrev pub lost_in : ℕ → Record → Record
lost_in q r = if nat_lt r.q q then lost_anywhere r else r

abbrev pub with_lost_below : ℕ → Tables → Tables
with_lost_below q t = record (with_all_own_over t) { records = map (lost_in q) (filter (λ r. is_of_io r.work) t.records) }

pub none-lost : (rs : List Record) → rs ≡ map (lost_in 0) rs
none-lost [] = refl
none-lost (r ∷ rs) = let above : nat_lt r.q 0 ≡ false = grind (arith, nat_tests) in rw above (ap (λ (xs : List Record). r ∷ xs) (none-lost rs))

next-lost : (q : ℕ) (r : Record) → lost q (lost_in q r) ≡ lost_in (q + 1) r
next-lost q r = grind (arith, nat_tests)

pub one-queue_lost : (q : ℕ) (rs : List Record) → map (lost q) (map (lost_in q) rs) ≡ map (lost_in (q + 1)) rs
one-queue_lost q [] = refl
one-queue_lost q (r ∷ rs) = ap₂ (λ (x : Record) (xs : List Record). x ∷ xs) (next-lost q r) (one-queue_lost q rs)

-- each queue lies below the last
lost-all : (entries queues q : ℕ) (rs : List Record) → AllByRecursion (IsPlaced entries queues) rs → queues ≤ q → map (lost_in q) rs ≡ map lost_anywhere rs
lost-all entries queues q [] all size = refl
lost-all entries queues q (r ∷ rs) all size =
    let below : nat_lt r.q q ≡ true = lt-ltb r.q q (omega (arith, all.0.queue, size)) in rw below
    (ap (λ (xs : List Record). lost_anywhere r ∷ xs) (lost-all entries queues q rs all.1 size))

pub all-queues_lost : (t : Tables) → AllByRecursion (IsPlaced t.entries (length t.queues)) t.records → (q : ℕ) → length t.queues ≤ q
    → map (lost_in q) (filter (λ r. is_of_io r.work) t.records) ≡ reset_records t.records
all-queues_lost t placed q size = lost-all t.entries (length t.queues) q (filter is_io t.records) (all-filter (IsPlaced t.entries (length t.queues)) is_io t.records placed) size

-- each command stays in its slot
place-kept : (entries queues q : ℕ) (r : Record) → IsPlaced entries queues r → IsPlaced entries queues (lost_in q r)
place-kept entries queues q r h =
    cond_both (nat_lt r.q q) _ _ (IsPlaced entries queues) (λ _. lost_by (IsPlaced entries queues) r (λ e. h) (λ e. record { queue = h.queue; identifier = h.identifier; own = h.own }))
    (λ _. h)

pub same-many : (t : Tables) → length (with_all_own_over t).queues ≡ length t.queues
same-many t = length-change 0 (claims_changed (own_freed t.records (t.entries - 1))) t.queues

pub places-lost : (t : Tables) → HasPlaces t → (q : ℕ) → HasPlaces (with_lost_below q t)
places-lost t h q =
    let placed : AllByRecursion (IsPlaced t.entries (length t.queues)) (with_lost_below q t).records =
    all-map (IsPlaced t.entries (length t.queues)) (lost_in q) (λ r p. place-kept t.entries (length t.queues) q r p) (filter is_io t.records)
    (all-filter (IsPlaced t.entries (length t.queues)) is_io t.records h.commands) in
    record {
      some_entries = h.some_entries;
      few_queues = subst (λ (n : ℕ). n ≤ 65) (sym (same-many t)) h.few_queues;
      commands = subst (λ (n : ℕ). AllByRecursion (IsPlaced t.entries n) (with_lost_below q t).records) (sym (same-many t)) placed;
    }

-- What is left: the claimed identifiers are those outstanding

pub length-freed : (rs : List Record) (n : ℕ) (claimed : List Bool) → length (own_freed rs n claimed) ≡ length claimed
length-freed rs zero claimed = refl
length-freed rs (suc n) claimed =
    cond_both (has_own rs n) _ _ (λ (bits : List Bool). length bits ≡ length claimed) (λ _. length-set (own_freed rs n claimed) n false ∙ length-freed rs n claimed) (λ _. length-freed rs n claimed)

lost-at : (q cid : ℕ) (r : Record) → is_at q cid (lost_anywhere r) ≡ is_at q cid r
lost-at q cid r = lost_by (λ (x : Record). is_at q cid x ≡ is_at q cid r) r (λ e. refl) (λ e. refl)

pub claims-of : (t : Tables) → IsHost t → HasClaims t
claims-of t h = record { some_queues = omega (arith, h.limits.some_queues); differ = h.sound.identifiers; claims = h.table.identifiers }

pub claims-reset : (t : Tables) → IsHost t → ClaimIdentifiers (reset_records t.records) (with_all_own_over t).queues
claims-reset t h =
    let left : filter (is_left (t.entries - 1)) t.records ≡ filter is_io t.records =
    all-left t.entries (length t.queues) (t.entries - 1) t.records (places-of t h).commands (omega arith) in
    let claims = claims-below t (claims-of t h) (t.entries - 1) in
    record {
      each = λ q x at. claims-same (filter is_io t.records) (reset_records t.records) q x.host.claimed (λ cid. any-map (is_at q cid) lost_anywhere (lost-at q cid) (filter is_io t.records))
          (subst (λ (rs : List Record). ClaimsIdentifiers rs q x.host.claimed) left (claims.each q x at));
    }
