-- Identifiers, and the slots of records.
use Rattle.std.proofs.Common.{◌≡◌, ℕ, suc, ◌+◌, ◌<◌, Some, List, [], ◌∷◌, length, map, slice_get, refl, sym, ◌∙◌, arith, subst, ◌≢◌, ◌==◌, inl, inr, Bool, true, false, ◌&&◌, ◌||◌, ◌++◌, slice_set, ap, length-set, eqb-true, eq-eqb, zero, ◌-◌, None, find, ap₂, is_some, ◌≤◌, nat_lt, if◌then◌else◌, lt-ltb}
use Rattle.std.proofs.lemmas.Bool.{true≢false, or_parts, or_right, cases_eq, cases_Bool, cond_both, false_from_ne_true, true_from_ne_false, ne_eqb, not-true, Decides.nat_tests}
use Rattle.std.{specs.{List.{AllByRecursion, list_any}, Option.option_map_or}, proofs.lemmas.List.Folds.list_any-append}
use Rattle.machine_model.proofs.Counting.{total as sum_of, here, times-outstanding, one, held_once, not_held, total as total_counting}
use Rattle.machine_model.{proofs.Headline.counts_are_all, specs.After.{change, is_of_io, lost}}
use Rattle.machine_model.specs.{Claims.{IsSound, HasNoOtherPages, HasOneOwner, counts_of, OwnsFit}, Positions.IsInRing, Refusals.{deletes_cq_of, is_submitted}}
use Rattle.machine_model.specs.{State.{State, Host, Record, is_at, outstanding_on, without_record, pages_of, with_record}, Step.{IsNewIdentifier}}
use Rattle.machine_model.specs.{Work.Work, declared.words.{Peer.Peer, Work.TheVariants.{Io, Management}}}
use Rattle.host_core.proofs.{Lists.{each-change, map-agree}, RowRecords.{claims-same, empty-row}}
use Rattle.host_core.specs.{Alone.{alone, IsSoundHost}, Commands.{with_claim, without_claim}, Parts.tables_of, Resetting.{HasPlaces, IsPlaced}}
use Rattle.host_core.specs.{Rows.Queue, Tables.{Tables, view_of, host_queue_of, state_of}}
use Rattle.host_core.specs.{Whole.{HasLimits, IsTable, IsSoundTable, AreQueues, IsHost, IsQueue, IsWhole, ClaimsIdentifiers, ClaimIdentifiers, is_outstanding, IsRecord}, declared.tables.HostTables.HostTables}
use Rattle.page_ledger.{proofs.Tables.{slice_get-set_same, slice_get-set_other}, specs.{Counting.total, Owners.is_among}}
use Rattle.page_memory.specs.Pages.{Pages, IsPool}
use Rattle.slot_table.specs.{Rows.value_at, Table.IsPlace}
use Rattle.slot_table.proofs.Rows.{option_is}
use Rattle.std.proofs.lemmas.Map.Keys.{any_passes_from_place}
use Rattle.page_memory.proofs.Lists.{some_is, all-at, all-slots, found_at}
use Rattle.machine_model.proofs.Cases.{none_some}

-- What the host keeps by itself, and what it keeps with the pages that it is lent.

-- what is sound says nothing of a controller
pub alone_sound : (s : State) → IsSound s → IsSound (alone (record { entries = s.entries; segment = s.segment; host = s.host }) s.memory)
alone_sound s h =
    record { owners = h.owners; counted = h.counted; identifiers = h.identifiers; out = h.out; works_fit = h.works_fit; deletions = h.deletions; creations = h.creations; bare = h.bare; halves = h.halves; admin = h.admin }

-- a queue has no page of a half that it does not have
no-others : (queues : List Queue) → AllByRecursion HasNoOtherPages (map host_queue_of queues)
no-others [] = tt
no-others (x ∷ queues) = (record { submission = λ e. rw e refl; completion = λ e. rw e refl }, no-others queues)

abbrev pub over_pages : Tables → Pages → Tables
over_pages t pages = record t { pages = pages }

pub host_of : (t : Tables) (pages : Pages) → IsWhole (over_pages t pages) → IsHost t
host_of t pages w = record { limits = w.host.limits; table = w.host.table; sound = w.host.sound; rings = w.host.rings }

pub count_of : (t : Tables) → IsHost t → total (counts_of (view_of t).host) ≡ length t.owners
count_of t h = counts_are_all (length t.owners) (view_of t).host h.sound.owners

pub lent-of : (t : Tables) → IsWhole t → length t.owners ≡ length t.pages
lent-of t w = sym (w.over.size ∙ count_of t w.host)

pub sound-of : (t : Tables) → IsWhole t → IsSound (state_of t)
sound-of t w =
    let h = w.host.sound in
    record {
      owners = subst (λ (n : ℕ). HasOneOwner n (view_of t).host) (lent-of t w) h.owners;
      counted = sym w.over.size;
      identifiers = h.identifiers;
      out = w.over.out;
      works_fit = h.works_fit;
      deletions = h.deletions;
      creations = h.creations;
      bare = h.bare;
      halves = no-others t.queues;
      admin = h.admin;
    }

-- What holds of the tables over their pages, leaving aside what the machine's laws say of their state.
pub record Settled (t : Tables) : Type 0 where
  pub pool : IsPool t.pages
  pub lent : length t.owners ≡ length t.pages
  pub limits : HasLimits t.entries t.segment (length t.queues) t.record_queues t.record_places
  pub table : IsTable (length t.queues) t.owners t.queues t.records
  pub rings : AreQueues t.entries t.queues

pub settled-of : (t : Tables) → IsWhole t → Settled t
settled-of t w = record { pool = w.over.pool; lent = lent-of t w; limits = w.host.limits; table = w.host.table; rings = w.host.rings }

pub whole-of : (t : Tables) → Settled t → IsSound (state_of t) → IsWhole t
whole-of t s h =
    let sound : IsSoundTable (length t.pages) (view_of t).host =
    record { owners = h.owners; identifiers = h.identifiers; works_fit = h.works_fit; deletions = h.deletions; creations = h.creations; bare = h.bare; admin = h.admin } in
    record {
      host = record { limits = s.limits; table = s.table; sound = subst (λ (n : ℕ). IsSoundTable n (view_of t).host) (sym s.lent) sound; rings = s.rings };
      over = record { pool = s.pool; size = sym h.counted; out = h.out };
    }

-- What of this a caller may know.

inside-rings : (n k : ℕ) (queues : List Queue) → ((q : ℕ) (queue : Queue) → slice_get queues q ≡ Some queue → IsQueue n (k + q) queue)
    → AllByRecursion (λ queue. IsInRing n queue.ring) (map host_queue_of queues)
inside-rings n k [] each = tt
inside-rings n k (x ∷ queues) each =
    let is = each 0 x refl in (
      record {
        head = subst (λ (m : ℕ). x.host.ring.head < m) is.entries is.host_side.head;
        known_head = subst (λ (m : ℕ). x.host.ring.known_head < m) is.entries is.host_side.known_head;
        tail = subst (λ (m : ℕ). x.host.ring.tail < m) is.entries is.host_side.tail;
      },
      inside-rings n (k + 1) queues
          (λ q queue e. let same : k + suc q ≡ k + 1 + q = omega arith in subst (λ (j : ℕ). IsQueue n j queue) same (each (suc q) queue e)),
    )

pub sound_host : (t : Tables) → IsHost t → IsSoundHost (view_of t)
sound_host t h =
    record {
      owners = subst (λ (n : ℕ). HasOneOwner n (view_of t).host) (sym (count_of t h)) h.sound.owners;
      identifiers = h.sound.identifiers;
      positions = inside-rings t.entries 0 t.queues (λ q queue e. let same : q ≡ 0 + q = omega arith in subst (λ (j : ℕ). IsQueue t.entries j queue) same (h.rings.each q queue e));
    }

-- each identifier of a queue is outstanding once at most
pub once_of : (t : Tables) → IsHost t → (q cid : ℕ) → sum_of (here q cid) t.records < 2
once_of t h q cid = subst (λ (n : ℕ). n < 2) (times-outstanding cid q t.records) (h.sound.identifiers q cid)

-- The claimed identifiers of a queue, as commands begin and end.

pub outstanding-some : (q cid : ℕ) (records : List Record) → is_outstanding records q cid ≡ true → 0 < total_counting (here q cid) records
outstanding-some q cid [] h = absurd (true≢false (sym h))
outstanding-some q cid (r ∷ records) h = grind (arith, h, outstanding-some q cid records)

pub outstanding-among : (h : Host) (q cid : ℕ) → is_outstanding h.records q cid ≡ is_among (outstanding_on h q) cid
outstanding-among h q cid = elim (cases_Bool (is_among (outstanding_on h q) cid)) [
  | inl f ↦ rw f (true_from_ne_false _ (λ e. omega (arith, held_once cid (outstanding_on h q) f, times-outstanding cid q h.records, none-outstanding h.records e)))
  | inr f ↦ rw f (false_from_ne_true _ (λ e. omega (arith, outstanding-some q cid h.records e, times-outstanding cid q h.records, not_held cid (outstanding_on h q) f)))
]
  where
    none-outstanding : (rs : List Record) → is_outstanding rs q cid ≡ false → total_counting (here q cid) rs ≡ 0
    none-outstanding [] e = refl
    none-outstanding (r ∷ rs) e = let both = or_parts (is_at q cid r) (is_outstanding rs q cid) e in omega (arith, ap one both.0, none-outstanding rs both.1)

-- One command more

outstanding-more : (q cid : ℕ) (records : List Record) (r : Record) → is_outstanding (records ++ r ∷ []) q cid ≡ (is_outstanding records q cid || is_at q cid r)
outstanding-more q cid records r = list_any-append (is_at q cid) records (r ∷ []) ∙ grind arith

at-own : (r : Record) → is_at r.q r.cid r ≡ true
at-own r = ap₂ (λ (a b : Bool). a && b) (eq-eqb r.q r.q refl) (eq-eqb r.cid r.cid refl)

-- one identifier is claimed or freed, and the others stay
claims-set : (records rs : List Record) (q cid : ℕ) (claimed : List Bool) (b : Bool) → ClaimsIdentifiers records q claimed → cid < length claimed → is_outstanding rs q cid ≡ b
    → ((i : ℕ) → i ≢ cid → is_outstanding rs q i ≡ is_outstanding records q i) → ClaimsIdentifiers rs q (slice_set claimed cid b)
claims-set records rs q cid claimed b claims within here others = record {
  told = λ i l. elim (cases_eq i cid) [
    | inl same ↦ rw (same, here) (slice_get-set_same claimed cid b within)
    | inr other ↦ slice_get-set_other claimed cid i b other ∙ (claims.told i (omega (arith, l, length-set claimed cid b)) ∙ ap Some (sym (others i other)))
  ];
  inside = λ i h. elim (cases_eq i cid) [
    | inl same ↦ omega (arith, length-set claimed cid b)
    | inr other ↦ omega (arith, length-set claimed cid b, claims.inside i (sym (others i other) ∙ h))
  ];
}

more-claims : (records : List Record) (r : Record) (claimed : List Bool) → ClaimsIdentifiers records r.q claimed → r.cid < length claimed → ClaimsIdentifiers (records ++ r ∷ []) r.q (slice_set claimed r.cid true)
more-claims records r claimed claims within =
    claims-set records (records ++ r ∷ []) r.q r.cid claimed true claims within (outstanding-more r.q r.cid records r ∙ or_right (is_outstanding records r.q r.cid) _ (at-own r))
    (λ cid far. let no : (r.cid == cid) ≡ false = ne_eqb r.cid cid (λ e. far (sym e)) in outstanding-more r.q cid records r ∙ grind (arith, no))

same-claims : (records : List Record) (r : Record) (q : ℕ) (claimed : List Bool) → q ≢ r.q → ClaimsIdentifiers records q claimed → ClaimsIdentifiers (records ++ r ∷ []) q claimed
same-claims records r q claimed other claims =
    let no : (r.q == q) ≡ false = ne_eqb r.q q (λ e. other (sym e)) in
    claims-same records (records ++ r ∷ []) q claimed (λ cid. outstanding-more q cid records r ∙ grind (arith, no)) claims

pub claim-more : (records : List Record) (queues : List Queue) (r : Record) → ClaimIdentifiers records queues
    → ((queue : Queue) → slice_get queues r.q ≡ Some queue → r.cid < length queue.host.claimed)
    → ClaimIdentifiers (records ++ r ∷ []) (change r.q (with_claim r.cid) queues)
claim-more records queues r claims within = record {
  each = each-change (λ q (queue : Queue). ClaimsIdentifiers (records ++ r ∷ []) q queue.host.claimed) r.q (with_claim r.cid) queues
      (λ q queue other at. same-claims records r q queue.host.claimed other (claims.each q queue at))
      (λ queue at. more-claims records r queue.host.claimed (claims.each r.q queue at) (within queue at));
}

-- One command less

less-other : (q cid p i : ℕ) (records : List Record) → ((q ≡ p) × (cid ≡ i) → ⊥) → is_outstanding (without_record q cid records) p i ≡ is_outstanding records p i
less-other q cid p i [] other = refl
less-other q cid p i (r ∷ records) other = grind (arith, nat_tests, less-other q cid p i records other, λ (e : q ≡ p) (f : cid ≡ i). other (e, f))

less-here : (q cid : ℕ) (records : List Record) → is_outstanding (without_record q cid records) q cid ≡ false
less-here q cid [] = refl
less-here q cid (r ∷ records) = grind (arith, less-here q cid records)

less-claims : (records : List Record) (q cid : ℕ) (claimed : List Bool) → ClaimsIdentifiers records q claimed → cid < length claimed → ClaimsIdentifiers (without_record q cid records) q (slice_set claimed cid false)
less-claims records q cid claimed claims within =
    claims-set records (without_record q cid records) q cid claimed false claims within (less-here q cid records) (λ i other. less-other q cid q i records (λ h. other (sym h.1)))

pub claim-less : (records : List Record) (queues : List Queue) (q cid : ℕ) → ClaimIdentifiers records queues → is_outstanding records q cid ≡ true
    → ClaimIdentifiers (without_record q cid records) (change q (without_claim cid) queues)
claim-less records queues q cid claims there = record {
  each = each-change (λ p (queue : Queue). ClaimsIdentifiers (without_record q cid records) p queue.host.claimed) q (without_claim cid) queues
      (λ p queue other at. claims-same records (without_record q cid records) p queue.host.claimed (λ i. less-other q cid p i records (λ e. other (sym e.0))) (claims.each p queue at))
      (λ queue at. let old = claims.each q queue at in less-claims records q cid queue.host.claimed old (old.inside cid there));
}

-- The slots of the records: a new identifier's is empty, and no command is outside.

-- what none passes is not found
none-found : {A : Type 0} (test : A → Bool) (xs : List A) → list_any test xs ≡ false → find test xs ≡ None
none-found test [] h = refl
none-found test (x ∷ xs) h = grind (arith, h, none-found test xs)

pub new-empty : {A : Type 0} (parts : HostTables A) (pages : Pages) (q cid : ℕ) → IsNewIdentifier (state_of (tables_of parts pages)) q cid → value_at parts.records.rows q cid ≡ None
new-empty parts pages q cid new =
    let t = tables_of parts pages in
    empty-row parts.records.rows q cid (none-found (is_at q cid) t.records (outstanding-among (view_of t).host q cid ∙ not-true _ new.unused))

pub place-of : {A : Type 0} (parts : HostTables A) (pages : Pages) (q cid : ℕ) → parts.records.queues ≡ length parts.queues.items → parts.records.places + 1 ≡ parts.entries → q < length parts.queues.items
    → IsNewIdentifier (state_of (tables_of parts pages)) q cid → IsPlace parts.records q cid
place-of parts pages q cid many places there new = record { queue = omega (arith, many, there); identifier = omega (arith, places, new.in_range) }

pub new-place : {A : Type 0} (parts : HostTables A) (pages : Pages) (q cid : ℕ) → IsWhole (tables_of parts pages) → q < length parts.queues.items → IsNewIdentifier (state_of (tables_of parts pages)) q cid → IsPlace parts.records q cid
new-place parts pages q cid w there new = place-of parts pages q cid w.host.limits.record_queues w.host.limits.record_places there new

-- An outstanding command is in one of the record slots of its queue

any-found : {A : Type 0} (test : A → Bool) (xs : List A) → list_any test xs ≡ true → (i : ℕ) × (x : A) × (slice_get xs i ≡ Some x) × (test x ≡ true)
any-found test [] h = absurd (true≢false (sym h))
any-found test (y ∷ xs) h = elim (cases_Bool (test y)) [
  | inl e ↦ (0, y, refl, e)
  | inr e ↦ let r = any-found test xs (rw e at h) in (suc r.0, r.1, r.2, r.3)
]

pub queue-here : {A : Type 0} (xs : List A) (k : ℕ) → k < length xs → (x : A) × (slice_get xs k ≡ Some x)
queue-here [] k l = absurd (omega (arith, l))
queue-here (x ∷ xs) zero l = (x, refl)
queue-here (x ∷ xs) (suc k) l = queue-here xs k (omega (arith, l))

pub record-inside : (t : Tables) → IsHost t → (i : ℕ) (r : Record) → slice_get t.records i ≡ Some r → r.cid < t.entries - 1
record-inside t h i r at =
    let queue = queue-here t.queues r.q (all-at (IsRecord (length t.queues)) t.records i r at h.table.records).queue in
    let claims = h.table.identifiers.each r.q queue.0 queue.1 in
    let below = claims.inside r.cid (any_passes_from_place (is_at r.q r.cid) t.records i r at (at-own r)) in
    let is = h.rings.each r.q queue.0 queue.1 in
    omega (arith, below, is.host_side.identifiers, is.entries)

-- the only one there is the one that is found
pub only-found : (q cid : ℕ) (rs : List Record) (i : ℕ) (r : Record) → slice_get rs i ≡ Some r → is_at q cid r ≡ true → total_counting (here q cid) rs < 2 → find (is_at q cid) rs ≡ Some r
only-found q cid [] i r at e few = absurd (none_some at)
only-found q cid (x ∷ rs) zero r at e few = rw (ap (is_at q cid) (some_is at) ∙ e) at
only-found q cid (x ∷ rs) (suc i) r at e few = elim (cases_Bool (is_at q cid x)) [
  | inl f ↦ absurd (omega (arith, few, ap one f, outstanding-some q cid rs (any_passes_from_place (is_at q cid) rs i r at e)))
  | inr f ↦ rw f (only-found q cid rs i r at e (omega (arith, few, ap one f)))
]

-- A deletion of a completion side is a command of queue 0

abbrev deletes : ℕ → Record → Bool
deletes q r = deletes_cq_of q r.work

pub deletion-found : (rs : List Record) (q cid : ℕ) → option_map_or (deletes q) (find (is_at 0 cid) rs) false ≡ true → list_any (deletes q) rs ≡ true
deletion-found rs q cid h = elim (option_is (find (is_at 0 cid) rs)) [
  | inl e ↦ absurd (true≢false (sym (rw e at h)))
  | inr (r, e) ↦ let i = found_at (is_at 0 cid) rs r e in any_passes_from_place (deletes q) rs i.0 r i.1 (rw e at h)
]

of-zero : (peer : Peer) (q k : ℕ) (w : Work) (pages : List ℕ) → OwnsFit peer k w pages → deletes_cq_of q w ≡ true → k ≡ 0
of-zero peer q k (Io r) pages fit h = absurd (true≢false (sym h))
of-zero peer q k (Management a) pages fit h = fit.0

pub deletion-none : (t : Tables) → IsHost t → (q n : ℕ) → n + 1 ≡ t.entries → ((i : ℕ) → i < n → option_map_or (deletes q) (find (is_at 0 i) t.records) false ≡ false) → list_any (deletes q) t.records ≡ false
deletion-none t h q n size none = false_from_ne_true (list_any (deletes q) t.records) (λ e.
    let f = any-found (deletes q) t.records e in
    let r : Record = f.1 in
    let zeroth = of-zero t.peer q r.q r.work (pages_of r) (all-at (λ (x : Record). OwnsFit t.peer x.q x.work (pages_of x)) t.records f.0 r f.2 h.sound.works_fit) f.3 in
    let found = only-found 0 r.cid t.records f.0 r f.2 (subst (λ (k : ℕ). is_at k r.cid r ≡ true) zeroth (at-own r)) (once_of t h 0 r.cid) in
    true≢false (sym f.3 ∙ (ap (λ o. option_map_or (deletes q) o false) (sym found) ∙ none r.cid (omega (arith, record-inside t h f.0 r f.2, size)))))

-- A command of a queue is outstanding under one of its identifiers.

pub commands-found : (rs : List Record) (q cid : ℕ) → is_some (find (is_at q cid) rs) ≡ true → list_any (λ (r : Record). r.q == q) rs ≡ true
commands-found [] q cid h = absurd (true≢false (sym h))
commands-found (x ∷ rs) q cid h = grind (arith, h, commands-found rs q cid)

pub commands-none : (t : Tables) → IsHost t → (q n : ℕ) → n + 1 ≡ t.entries → ((i : ℕ) → i < n → is_some (find (is_at q i) t.records) ≡ false) → list_any (λ (r : Record). r.q == q) t.records ≡ false
commands-none t h q n size none = false_from_ne_true (list_any (λ (r : Record). r.q == q) t.records) (λ e.
    let f = any-found (λ (r : Record). r.q == q) t.records e in
    let r : Record = f.1 in
    let found = only-found q r.cid t.records f.0 r f.2 (subst (λ (k : ℕ). is_at k r.cid r ≡ true) (eqb-true r.q q f.3) (at-own r)) (once_of t h q r.cid) in
    true≢false (sym (ap is_some found) ∙ none r.cid (omega (arith, record-inside t h f.0 r f.2, size))))

-- The commands of a queue that were never answered are lost, one identifier after the other.

-- a record, lost if its identifier is below this one
abbrev pub lost_below : ℕ → ℕ → Record → Record
lost_below n q r = if nat_lt r.cid n then lost q r else r

pub none-below : (q : ℕ) (rs : List Record) → rs ≡ map (lost_below 0 q) rs
none-below q [] = refl
none-below q (r ∷ rs) = let below : nat_lt r.cid 0 ≡ false = grind (arith, nat_tests) in rw below (ap (λ (xs : List Record). r ∷ xs) (none-below q rs))

-- what is lost keeps its queue and its identifier
lost-at : (q k cid : ℕ) (r : Record) → is_at k cid (lost q r) ≡ is_at k cid r
lost-at q k cid r = cond_both ((r.q == q) && is_submitted r.phase) _ _ (λ x. is_at k cid x ≡ is_at k cid r) (λ _. refl) (λ _. refl)

-- one record, as the next identifier comes
next-lost : (q n : ℕ) (r : Record) → (if is_at q n (lost_below n q r) then lost q (lost_below n q r) else lost_below n q r) ≡ lost_below (n + 1) q r
next-lost q n r = grind (arith, nat_tests)

pub one-lost : (q n : ℕ) (rs : List Record) → with_record q n (lost q) (map (lost_below n q) rs) ≡ map (lost_below (n + 1) q) rs
one-lost q n [] = refl
one-lost q n (r ∷ rs) = ap₂ (λ (x : Record) (xs : List Record). x ∷ xs) (next-lost q n r) (one-lost q n rs)

-- each identifier lies below the last
pub all-lost : (t : Tables) → HasPlaces t → (q n : ℕ) → t.entries - 1 ≤ n → map (lost_below n q) t.records ≡ map (lost q) t.records
all-lost t h q n size =
    map-agree (lost_below n q) (lost q) t.records (λ i r at.
    let place = all-at (IsPlaced t.entries (length t.queues)) t.records i r at h.commands in
    let yes : nat_lt r.cid n ≡ true = lt-ltb r.cid n (omega (arith, place.identifier, size)) in
    ap (λ b. if b then lost q r else r) yes)

-- Each command of a host is in its slot.

of-own : (peer : Peer) (q : ℕ) (w : Work) (pages : List ℕ) → OwnsFit peer q w pages → is_of_io w ≡ false → q ≡ 0
of-own peer q (Io request) pages fit own = absurd (true≢false own)
of-own peer q (Management kind) pages fit own = fit.0

pub places-of : (t : Tables) → IsHost t → HasPlaces t
places-of t h =
    record {
      some_entries = omega (arith, h.limits.least_entries);
      few_queues = h.limits.few_queues;
      commands = all-slots (IsPlaced t.entries (length t.queues)) t.records (λ i r at.
          record {
            queue = (all-at (IsRecord (length t.queues)) t.records i r at h.table.records).queue;
            identifier = record-inside t h i r at;
            own = of-own t.peer r.q r.work (pages_of r) (all-at (λ (x : Record). OwnsFit t.peer x.q x.work (pages_of x)) t.records i r at h.sound.works_fit);
          });
    }
