-- The right of a page is that of the owner in whose claim it stands.
use Rattle.std.proofs.Common.{◌≡◌, ℕ, zero, suc, ◌+◌, ◌*◌, ◌/◌, ◌<◌, ◌≤◌, ◌-◌, ◌^◌, ◌==◌, ◌⊎◌, inl, inr, nat_lt, Bool, true, false, Option, Some, None, List, [], ◌∷◌, ◌++◌, length, map, take, drop, flat_map, find, slice_get, refl, ap, ap₂, sym, ◌∙◌, arith, subst, eqb-true, eq-eqb, le-ltb, if◌then◌else◌, option_map, ◌||◌}
use Rattle.std.proofs.lemmas.Bool.{cases_Bool, cases_lt, and_parts, leb-true, ltb-false, or_parts, true≢false}
use Rattle.std.specs.Prelude.{nat_le}
use Rattle.std.specs.{List.{AllByRecursion, list_any}, Option.option_map_or}
use Rattle.io_commands.specs.{Requests.{crosses_page, parts_of, joined_parts}, declared.request.Piece.{Piece, TheVariants.{Data, Bucket}}}
use Rattle.machine_model.proofs.{Counting.{one, times-cons}, Headline.firsts}
use Rattle.machine_model.specs.{Claims.{IsSound, claimed, claims_of, claims_of_queues, claims_of_record}, Step.times}
use Rattle.machine_model.specs.{State.{State, Host, HostQueue, Record, is_at}}
use Rattle.page_ledger.specs.{Owners.is_among, declared.owner.Owner.{Owner, TheVariants.{Free, Queue, Command}}}
use Rattle.page_ledger.specs.declared.owner.Role.TheVariants as role
use Rattle.page_memory.specs.declared.page.Half.TheVariants.{Submission, Completion}
use Rattle.host_core.specs.Rights.{right_at, right_of_data, right_of_owner, right_of_role}
use Rattle.host_core.specs.declared.rights.Right.{Right}
use Rattle.host_core.specs.declared.rights.Right.TheVariants as right
use Rattle.sgl_chain.specs.{Chains.{first_of, link, link_to, segments_on}, Joining.{both, first_joined, joined_within, joins, left_behind}}
use Rattle.sgl_descriptor.specs.{Targets.descriptor_of_part, declared.{Descriptor.Descriptor, Part.Part}}
use Rattle.sgl_descriptor.specs.declared.Part.TheVariants as part
use Rattle.two_sides.proofs.{Provided.all_append, Served.good_is}
use Rattle.run_laws.specs.Reach as reach
use Rattle.run_laws.specs.Reach.{HaveRight, Reaches}

-- Claims in a list

abbrev Has : List (ℕ × Owner) → ℕ → Owner → Type 0
Has [] p o = ⊥
Has (c ∷ claims) p o = ((c.0 ≡ p) × (c.1 ≡ o)) ⊎ Has claims p o

has-times : (claims : List (ℕ × Owner)) (p : ℕ) (o : Owner) → Has claims p o → 0 < times p (firsts claims)
has-times [] p o h = absurd h
has-times (c ∷ claims) p o (inl e) = omega (arith, times-cons p c.0 (firsts claims), ap one (eq-eqb c.0 p e.0))
has-times (c ∷ claims) p o (inr h) = omega (arith, times-cons p c.0 (firsts claims), has-times claims p o h)

-- a claim is found where its page stands in no other
found-once : (claims : List (ℕ × Owner)) (p : ℕ) (o : Owner) → Has claims p o → times p (firsts claims) < 2 → find (λ claim. claim.0 == p) claims ≡ Some (p, o)
found-once [] p o h few = absurd h
found-once (c ∷ claims) p o (inl e) few = rw (eq-eqb c.0 p e.0) (ap₂ (λ (x : ℕ) (y : Owner). Some (x, y)) e.0 e.1)
found-once (c ∷ claims) p o (inr h) few = elim (cases_Bool (c.0 == p)) [
  | inl e ↦ absurd (omega (arith, few, times-cons p c.0 (firsts claims), ap one e, has-times claims p o h))
  | inr e ↦ rw e (found-once claims p o h (omega (arith, few, times-cons p c.0 (firsts claims))))
]

none-found : (claims : List (ℕ × Owner)) (p : ℕ) → times p (firsts claims) ≡ 0 → find (λ claim. claim.0 == p) claims ≡ None
none-found [] p none = refl
none-found (c ∷ claims) p none = elim (cases_Bool (c.0 == p)) [
  | inl e ↦ absurd (omega (arith, none, times-cons p c.0 (firsts claims), ap one e))
  | inr e ↦ rw e (none-found claims p (omega (arith, none, times-cons p c.0 (firsts claims))))
]

has-left : (a b : List (ℕ × Owner)) (p : ℕ) (o : Owner) → Has a p o → Has (a ++ b) p o
has-left [] b p o h = absurd h
has-left (c ∷ a) b p o (inl e) = inl e
has-left (c ∷ a) b p o (inr h) = inr (has-left a b p o h)

has-right : (a b : List (ℕ × Owner)) (p : ℕ) (o : Owner) → Has b p o → Has (a ++ b) p o
has-right [] b p o h = h
has-right (c ∷ a) b p o h = inr (has-right a b p o h)

has-claimed : (o : Owner) (pages : List ℕ) (p : ℕ) → is_among pages p ≡ true → Has (claimed o pages) p o
has-claimed o [] p h = absurd (true≢false (sym h))
has-claimed o (x ∷ pages) p h = elim (cases_Bool (x == p)) [
  | inl e ↦ inl (eqb-true x p e, refl)
  | inr e ↦ inr (has-claimed o pages p (subst (λ (b : Bool). (b || is_among pages p) ≡ true) e h))
]

-- Claims of a host

has-record : (records : List Record) (test : Record → Bool) (r : Record) (p : ℕ) (o : Owner) → find test records ≡ Some r → Has (claims_of_record r) p o → Has (flat_map claims_of_record records) p o
has-record [] test r p o at h = absurd (cc)
has-record (x ∷ records) test r p o at h = elim (cases_Bool (test x)) [
  | inl e ↦
      let same : x ≡ r = let found : Some x ≡ Some r = subst (λ (b : Bool). (if b then Some x else find test records) ≡ Some r) e at in cc in
      has-left (claims_of_record x) (flat_map claims_of_record records) p o (subst (λ (y : Record). Has (claims_of_record y) p o) (sym same) h)
  | inr e ↦
      has-right (claims_of_record x) (flat_map claims_of_record records) p o
      (has-record records test r p o (subst (λ (b : Bool). (if b then Some x else find test records) ≡ Some r) e at) h)
]

has-queue : (queues : List HostQueue) (k q : ℕ) (queue : HostQueue) (p : ℕ) (o : Owner) → slice_get queues q ≡ Some queue
    → Has (claimed (Queue (k + q) Submission) queue.sq_pages ++ claimed (Queue (k + q) Completion) queue.cq_pages) p o → Has (claims_of_queues k queues) p o
has-queue [] k q queue p o at h = absurd (cc)
has-queue (x ∷ queues) k zero queue p o at h =
    let same : x ≡ queue = cc in
    let number : k + 0 ≡ k = omega arith in
    has-left-of x (subst (λ (n : ℕ). Has (claimed (Queue n Submission) x.sq_pages ++ claimed (Queue n Completion) x.cq_pages) p o) number
    (subst (λ (y : HostQueue). Has (claimed (Queue (k + 0) Submission) y.sq_pages ++ claimed (Queue (k + 0) Completion) y.cq_pages) p o) (sym same) h))
  where
    has-left-of : (y : HostQueue) → Has (claimed (Queue k Submission) y.sq_pages ++ claimed (Queue k Completion) y.cq_pages) p o
        → Has (claimed (Queue k Submission) y.sq_pages ++ claimed (Queue k Completion) y.cq_pages ++ claims_of_queues (k + 1) queues) p o
    has-left-of y g = has-left (claimed (Queue k Submission) y.sq_pages ++ claimed (Queue k Completion) y.cq_pages) (claims_of_queues (k + 1) queues) p o g
has-queue (x ∷ queues) k (suc q) queue p o at h =
    let number : k + suc q ≡ k + 1 + q = omega arith in
    has-right (claimed (Queue k Submission) x.sq_pages ++ claimed (Queue k Completion) x.cq_pages) (claims_of_queues (k + 1) queues) p o
    (has-queue queues (k + 1) q queue p o at (subst (λ (n : ℕ). Has (claimed (Queue n Submission) queue.sq_pages ++ claimed (Queue n Completion) queue.cq_pages) p o) number h))

-- Rights of pages that stand in a claim

module _ (s : State) (w : IsSound s) where
  right-of-claim : (p : ℕ) (o : Owner) → Has (claims_of s.host) p o → right_at s.host p ≡ right_of_owner s.host.records o
  right-of-claim p o h =
      ap (λ (found : Option (ℕ × Owner)). option_map_or (right_of_owner s.host.records) (option_map (λ claim. claim.1) found) right.Nothing)
      (found-once (claims_of s.host) p o h (few (nat_lt p (length s.memory)) refl))
    where
      few : (b : Bool) → nat_lt p (length s.memory) ≡ b → times p (firsts (claims_of s.host)) < 2
      few true e = omega (arith, w.owners p, ap one e)
      few false e = omega (arith, w.owners p, ap one e)

  in-records : (p : ℕ) (o : Owner) → Has (flat_map claims_of_record s.host.records) p o → Has (claims_of s.host) p o
  in-records p o h = has-right (claimed Free s.host.free ++ claims_of_queues 0 s.host.queues) (flat_map claims_of_record s.host.records) p o h

  in-queues : (p : ℕ) (o : Owner) → Has (claims_of_queues 0 s.host.queues) p o → Has (claims_of s.host) p o
  in-queues p o h =
      has-left (claimed Free s.host.free ++ claims_of_queues 0 s.host.queues) (flat_map claims_of_record s.host.records) p o
      (has-right (claimed Free s.host.free) (claims_of_queues 0 s.host.queues) p o h)

  in-free : (p : ℕ) (o : Owner) → Has (claimed Free s.host.free) p o → Has (claims_of s.host) p o
  in-free p o h =
      has-left (claimed Free s.host.free ++ claims_of_queues 0 s.host.queues) (flat_map claims_of_record s.host.records) p o
      (has-left (claimed Free s.host.free) (claims_of_queues 0 s.host.queues) p o h)

-- a command that is found is named so
named : (records : List Record) (q cid : ℕ) (r : Record) → find (is_at q cid) records ≡ Some r → is_at q cid r ≡ true
named [] q cid r at = absurd (cc)
named (x ∷ records) q cid r at = elim (cases_Bool (is_at q cid x)) [
  | inl e ↦
      let same : x ≡ r = let found : Some x ≡ Some r = subst (λ (b : Bool). (if b then Some x else find (is_at q cid) records) ≡ Some r) e at in cc in
      subst (λ (y : Record). is_at q cid y ≡ true) same e
  | inr e ↦ named records q cid r (subst (λ (b : Bool). (if b then Some x else find (is_at q cid) records) ≡ Some r) e at)
]

of-its-name : (records : List Record) (q cid : ℕ) (r : Record) → find (is_at q cid) records ≡ Some r → find (is_at r.q r.cid) records ≡ Some r
of-its-name records q cid r at =
    let both = and_parts (r.q == q) (r.cid == cid) (named records q cid r at) in
    let queue : r.q ≡ q = eqb-true r.q q both.0 in
    let identifier : r.cid ≡ cid = eqb-true r.cid cid both.1 in
    subst (λ (n : ℕ). find (is_at n r.cid) records ≡ Some r) (sym queue) (subst (λ (n : ℕ). find (is_at q n) records ≡ Some r) (sym identifier) at)

pub data_of_commands : reach.data_pages_have_their_right
data_of_commands s q cid r w at p h =
    right-of-claim s w p (Command r.q r.cid role.Data)
    (in-records s w p (Command r.q r.cid role.Data)
    (has-record s.host.records (is_at q cid) r p (Command r.q r.cid role.Data) at
    (has-left (claimed (Command r.q r.cid role.Data) r.data_pages) (claimed (Command r.q r.cid role.Chain) r.chain_pages) p (Command r.q r.cid role.Data)
    (has-claimed (Command r.q r.cid role.Data) r.data_pages p h))))
    ∙ ap (λ (o : Option Record). option_map_or (λ r. right_of_role r role.Data) o right.Nothing) (of-its-name s.host.records q cid r at)

pub chains_of_commands : reach.chain_pages_have_their_right
chains_of_commands s q cid r w at p h =
    right-of-claim s w p (Command r.q r.cid role.Chain)
    (in-records s w p (Command r.q r.cid role.Chain)
    (has-record s.host.records (is_at q cid) r p (Command r.q r.cid role.Chain) at
    (has-right (claimed (Command r.q r.cid role.Data) r.data_pages) (claimed (Command r.q r.cid role.Chain) r.chain_pages) p (Command r.q r.cid role.Chain)
    (has-claimed (Command r.q r.cid role.Chain) r.chain_pages p h))))
    ∙ ap (λ (o : Option Record). option_map_or (λ r. right_of_role r role.Chain) o right.Nothing) (of-its-name s.host.records q cid r at)

pub submission_rings : reach.submission_rings_are_read
submission_rings s q queue w at p h =
    right-of-claim s w p (Queue (0 + q) Submission)
    (in-queues s w p (Queue (0 + q) Submission)
    (has-queue s.host.queues 0 q queue p (Queue (0 + q) Submission) at
    (has-left (claimed (Queue (0 + q) Submission) queue.sq_pages) (claimed (Queue (0 + q) Completion) queue.cq_pages) p (Queue (0 + q) Submission)
    (has-claimed (Queue (0 + q) Submission) queue.sq_pages p h))))

pub completion_rings : reach.completion_rings_are_written
completion_rings s q queue w at p h =
    right-of-claim s w p (Queue (0 + q) Completion)
    (in-queues s w p (Queue (0 + q) Completion)
    (has-queue s.host.queues 0 q queue p (Queue (0 + q) Completion) at
    (has-right (claimed (Queue (0 + q) Submission) queue.sq_pages) (claimed (Queue (0 + q) Completion) queue.cq_pages) p (Queue (0 + q) Completion)
    (has-claimed (Queue (0 + q) Completion) queue.cq_pages p h))))

pub free_pages : reach.free_pages_have_none
free_pages s w p h = right-of-claim s w p Free (in-free s w p Free (has-claimed Free s.host.free p h))

pub outside_the_pool : reach.none_outside_the_pool
outside_the_pool s p w l =
    ap (λ (found : Option (ℕ × Owner)). option_map_or (right_of_owner s.host.records) (option_map (λ claim. claim.1) found) right.Nothing)
    (none-found (claims_of s.host) p (omega (arith, w.owners p, ap one (le-ltb p (length s.memory) l))))

-- Lists

-- each piece of data lies in one page
abbrev IsInOnePage : Piece → Type 0
IsInOnePage (Data offset len) = offset + len ≤ 4096
IsInOnePage (Bucket len) = Unit {0}

-- each byte at the addresses of a part is on a page with this right
abbrev LiesIn : Host → Right → Part → Type 0
LiesIn h may (part.Data addr len) = (k : ℕ) → k < len → right_at h ((addr + k) / 4096) ≡ may
LiesIn h may (part.Bucket len) = Unit {0}

in-one-page : (pieces : List Piece) → list_any crosses_page pieces ≡ false → AllByRecursion IsInOnePage pieces
in-one-page [] e = tt
in-one-page (Bucket len ∷ pieces) e = (tt, in-one-page pieces (or_parts false (list_any crosses_page pieces) e).1)
in-one-page (Data offset len ∷ pieces) e =
    let both = or_parts (nat_lt 4096 (offset + len)) (list_any crosses_page pieces) e in
    (ltb-false 4096 (offset + len) both.0, in-one-page pieces both.1)

first-among : (p : ℕ) (rest : List ℕ) → is_among (p ∷ rest) p ≡ true
first-among p rest = rw (eq-eqb p p refl) refl

rest-among : (x : ℕ) (rest : List ℕ) (p : ℕ) → is_among rest p ≡ true → is_among (x ∷ rest) p ≡ true
rest-among x rest p e = elim (cases_Bool (x == p)) [ inl f ↦ rw f refl | inr f ↦ rw (f, e) refl ]

parts-lie : (h : Host) (may : Right) (pieces : List Piece) (pages : List ℕ) → HaveRight h may pages → AllByRecursion IsInOnePage pieces → AllByRecursion (LiesIn h may) (parts_of pieces pages)
parts-lie h may [] pages have fit = tt
parts-lie h may (Bucket len ∷ pieces) pages have fit = (tt, parts-lie h may pieces pages have fit.1)
parts-lie h may (Data offset len ∷ pieces) [] have fit = tt
parts-lie h may (Data offset len ∷ pieces) (page ∷ pages) have fit = (
  λ k l. let there : (4096 * page + offset + k) / 4096 ≡ page = omega (arith, fit.0, l) in subst (λ (n : ℕ). right_at h n ≡ may) (sym there) (have page (first-among page pages)),
  parts-lie h may pieces pages (λ p e. have p (rest-among page pages p e)) fit.1,
)

-- neighbours that join lie as both did
both-lie : (h : Host) (may : Right) (x y : Part) → joins x y ≡ true → LiesIn h may x → LiesIn h may y → LiesIn h may (both x y)
both-lie h may (part.Data addr len) (part.Data next more) e a b =
    let ends : addr + len ≡ next = eqb-true (addr + len) next (and_parts (addr + len == next) (nat_lt (len + more) (2 ^ 32)) e).0 in
    λ k l. elim (cases_lt k len) [
      | inl below ↦ a k below
      | inr above ↦
          let place : next + (k - len) ≡ addr + k = omega (arith, ends, above) in
          subst (λ (place : ℕ). right_at h (place / 4096) ≡ may) place (b (k - len) (omega (arith, l, above)))
    ]
both-lie h may (part.Data addr len) (part.Bucket more) e a b = a
both-lie h may (part.Bucket len) y e a b = tt

first-lies : (h : Host) (may : Right) (x : Part) (parts : List Part) → LiesIn h may x → AllByRecursion (LiesIn h may) parts → LiesIn h may (first_joined x parts)
first-lies h may x [] a all = a
first-lies h may x (y ∷ parts) a all = elim (cases_Bool (joins x y)) [
  | inl e ↦ rw e (first-lies h may (both x y) parts (both-lie h may x y e a all.0) all.1)
  | inr e ↦ rw e a
]

left-lie : (h : Host) (may : Right) (x : Part) (parts : List Part) → AllByRecursion (LiesIn h may) parts → AllByRecursion (LiesIn h may) (left_behind x parts)
left-lie h may x [] all = tt
left-lie h may x (y ∷ parts) all = elim (cases_Bool (joins x y)) [ inl e ↦ rw e (left-lie h may (both x y) parts all.1) | inr e ↦ rw e all ]

joined-lie : (h : Host) (may : Right) (bound : ℕ) (parts : List Part) → AllByRecursion (LiesIn h may) parts → AllByRecursion (LiesIn h may) (joined_within bound parts)
joined-lie h may zero parts all = tt
joined-lie h may (suc bound) [] all = tt
joined-lie h may (suc bound) (x ∷ parts) all =
    (first-lies h may x parts all.0 all.1, joined-lie h may bound (left_behind x parts) (left-lie h may x parts all.1))

taken-lie : (h : Host) (may : Right) (n : ℕ) (parts : List Part) → AllByRecursion (LiesIn h may) parts → AllByRecursion (LiesIn h may) (take n parts)
taken-lie h may zero parts all = tt
taken-lie h may (suc n) [] all = tt
taken-lie h may (suc n) (x ∷ parts) all = (all.0, taken-lie h may n parts all.1)

dropped-lie : (h : Host) (may : Right) (n : ℕ) (parts : List Part) → AllByRecursion (LiesIn h may) parts → AllByRecursion (LiesIn h may) (drop n parts)
dropped-lie h may zero parts all = all
dropped-lie h may (suc n) [] all = tt
dropped-lie h may (suc n) (x ∷ parts) all = dropped-lie h may n parts all.1

-- Descriptors

part-reaches : (h : Host) (may : Right) (x : Part) → LiesIn h may x → Reaches h may (descriptor_of_part x)
part-reaches h may (part.Data addr len) lies = lies
part-reaches h may (part.Bucket len) lies = tt

parts-reach : (h : Host) (may : Right) (parts : List Part) → AllByRecursion (LiesIn h may) parts → AllByRecursion (Reaches h may) (map descriptor_of_part parts)
parts-reach h may [] all = tt
parts-reach h may (x ∷ parts) all = (part-reaches h may x all.0, parts-reach h may parts all.1)

in-page : (h : Host) (page k : ℕ) → k < 4096 → right_at h page ≡ right.Read → right_at h ((4096 * page + k) / 4096) ≡ right.Read
in-page h page k l have = let there : (4096 * page + k) / 4096 ≡ page = omega (arith, l) in subst (λ (n : ℕ). right_at h n ≡ right.Read) (sym there) have

link-reaches : (h : Host) (may : Right) (n page count : ℕ) → n ≤ 256 → right_at h page ≡ right.Read → Reaches h may (link n page count)
link-reaches h may n page count few have = elim (cases_Bool (nat_le count n)) [
  | inl e ↦ rw e (λ k l. in-page h page k (omega (arith, l, few, leb-true count n e)) have)
  | inr e ↦ rw e (λ k l. in-page h page k (omega (arith, l, few)) have)
]

next-reaches : (h : Host) (may : Right) (n : ℕ) (pages : List ℕ) (count : ℕ) → n ≤ 256 → HaveRight h right.Read pages → AllByRecursion (Reaches h may) (link_to n pages count)
next-reaches h may n [] count few have = tt
next-reaches h may n (page ∷ pages) count few have = (link-reaches h may n page count few (have page (first-among page pages)), tt)

segments-reach : (h : Host) (may : Right) (n : ℕ) (pages : List ℕ) (parts : List Part) → n ≤ 256 → HaveRight h right.Read pages → AllByRecursion (LiesIn h may) parts
    → AllByRecursion (Reaches h may) (flat_map (λ segment. segment) (segments_on n pages parts))
segments-reach h may n [] parts few have all = tt
segments-reach h may n (page ∷ pages) parts few have all = elim (cases_Bool (nat_le (length parts) n)) [
  | inl e ↦ rw e (all_append (Reaches h may) (map descriptor_of_part parts) [] (parts-reach h may parts all) tt)
  | inr e ↦
      rw e
      (all_append (Reaches h may) (map descriptor_of_part (take (n - 1) parts) ++ link_to n pages (length parts - (n - 1)))
      (flat_map (λ (segment : List Descriptor). segment) (segments_on n pages (drop (n - 1) parts)))
      (all_append (Reaches h may) (map descriptor_of_part (take (n - 1) parts)) (link_to n pages (length parts - (n - 1)))
      (parts-reach h may (take (n - 1) parts) (taken-lie h may (n - 1) parts all)) (next-reaches h may n pages (length parts - (n - 1)) few rest))
      (segments-reach h may n pages (drop (n - 1) parts) few rest (dropped-lie h may (n - 1) parts all)))
]
  where
    rest : HaveRight h right.Read pages
    rest p e = have p (rest-among page pages p e)

first-reaches : (h : Host) (may : Right) (n : ℕ) (pages : List ℕ) (parts : List Part) → n ≤ 256 → HaveRight h right.Read pages → AllByRecursion (LiesIn h may) parts
    → Reaches h may (first_of n pages parts)
first-reaches h may n (page ∷ pages) parts few have all = link-reaches h may n page (length parts) few (have page (first-among page pages))
first-reaches h may n [] (x ∷ parts) few have all = part-reaches h may x all.0
first-reaches h may n [] [] few have all = tt

pub lists : reach.lists_name_what_may_be_reached
lists s q cid n r request w at work phase few good =
    let may = right_of_data request.kind in
    let data_pages : HaveRight s.host may r.data_pages = λ p h. data_of_commands s q cid r w at p h ∙ rw (phase, work) refl in
    let chain_pages : HaveRight s.host right.Read r.chain_pages = λ p h. chains_of_commands s q cid r w at p h ∙ rw (phase, work) refl in
    let lie = joined-lie s.host may (length (parts_of request.pieces r.data_pages)) (parts_of request.pieces r.data_pages) (parts-lie s.host may request.pieces r.data_pages data_pages (in-one-page request.pieces (good_is request good).crosses)) in (
      first-reaches s.host may n r.chain_pages (joined_parts request.pieces r.data_pages) few chain_pages lie,
      segments-reach s.host may n r.chain_pages (joined_parts request.pieces r.data_pages) few chain_pages lie,
    )
