-- One owner for each page.
use Rattle.machine_model.specs.After as a
use Rattle.std.proofs.Common.{◌≡◌, ℕ, ◌+◌, ◌<◌, ◌==◌, nat_lt, Bool, true, false, not, Some, List, [], ◌∷◌, ◌++◌, length, map, filter, flat_map, if◌then◌else◌, refl, ap, sym, ◌∙◌, arith, eqb-true, subst, inl, inr, zero, suc, ◌≤◌, ◌&&◌, Option, None, slice_get, slice_set, is_some, length-set, find}
use Rattle.std.{proofs.lemmas.{Bool.{cases_Bool, true≢false, eqb-false, or_parts}, List.map-append}, specs.List.{AllByRecursion, list_any}}
use Rattle.std.specs.Option.{option_map_or}
use Rattle.page_ledger.specs.{Owners.is_among, declared.owner.{Owner.{Owner}}}
use Rattle.page_memory.specs.{Pages.Pages}
use Rattle.machine_model.proofs.Counting.{one, times-append, times-cons, held_once, not_held, total, total-append, total-map, total_without, total-filter, here, times-outstanding}
use Rattle.machine_model.{proofs.Steps.{length-in_store, in_store}, specs.{After.change, Agreeing.{waiting, admin_completions, AdminCommandsStand}}}
use Rattle.machine_model.specs.Claims.{claims_of, claimed, claims_of_queues, claims_of_record, IsSound, HasOneOwner, IdentifiersDiffer, OwnsFit, DeletionsFit, CreationsFit, NewQueuesAreBare, HasNoOtherPages, AdminLives, is_away, IsOutWithItsCommand}
use Rattle.machine_model.specs.{Commands.{Work}, Memory.{is_in, with_pages, without_pages}, Refusals.is_submitted}
use Rattle.machine_model.specs.State.{State, Host, HostQueue, Record, is_at, record_at, pages_of, without_record, Phase, Submitted, Held, HostState, with_record, Live, Gone, ServedQueue}
use Rattle.machine_model.specs.Step.{times, HostPart, host_part}
use Rattle.io_commands.specs.Values.{numbers_of}
use Rattle.machine_model.specs.declared.words.Peer.{Peer}
use Rattle.entry_codec.specs.declared.status.TheConstants.Status.{ABORTED_SQ_DELETION}
use Rattle.std.proofs.lemmas.Grind.{common_steps}

-- Every page has one owner, and no identifier is outstanding twice: what each host event does to that.

abbrev pub in_queue : ℕ → HostQueue → ℕ
in_queue p queue = times p queue.sq_pages + times p queue.cq_pages

abbrev pub in_record : ℕ → Record → ℕ
in_record p r = times p (pages_of r)

abbrev pub owned : ℕ → Host → ℕ
owned p h = times p h.free + (total (in_queue p) h.queues + total (in_record p) h.records)

-- what is claimed, as that sum

first_of_claims : (p : ℕ) (owner : Owner) (pages : List ℕ) → times p (map (λ claim. claim.0) (claimed owner pages)) ≡ times p pages
first_of_claims p owner [] = refl
first_of_claims p owner (x ∷ pages) = grind (arith, first_of_claims p owner pages, times-cons)

abbrev firsts : ℕ → List (ℕ × Owner) → ℕ
firsts p claims = times p (map (λ claim. claim.0) claims)

firsts-append : (p : ℕ) (a b : List (ℕ × Owner)) → firsts p (a ++ b) ≡ firsts p a + firsts p b
firsts-append p a b = ap (times p) (map-append (λ claim. claim.0) a b) ∙ times-append p (map (λ claim. claim.0) a) (map (λ claim. claim.0) b)

firsts_of_queues : (p q : ℕ) (queues : List HostQueue) → firsts p (claims_of_queues q queues) ≡ total (in_queue p) queues
firsts_of_queues p q [] = refl
firsts_of_queues p q (queue ∷ queues) = grind (arith, firsts_of_queues p (q + 1) queues, firsts-append, first_of_claims)

firsts_of_records : (p : ℕ) (records : List Record) → firsts p (flat_map claims_of_record records) ≡ total (in_record p) records
firsts_of_records p [] = refl
firsts_of_records p (r ∷ records) = grind (arith, firsts_of_records p records, firsts-append, flat_map, first_of_claims, times-append)

pub owned_is : (p : ℕ) (h : Host) → times p (map (λ claim. claim.0) (claims_of h)) ≡ owned p h
owned_is p h = grind (arith, flat_map, firsts-append, first_of_claims, firsts_of_queues, firsts_of_records)

-- the invariant by sums

pub record Owns (count : ℕ) (h : Host) : Type 0 where
  pub owner : (p : ℕ) → owned p h ≡ one (nat_lt p count)
  pub once : (q cid : ℕ) → total (here q cid) h.records < 2
  pub admins : AllByRecursion (λ r. OwnsFit h.peer r.q r.work (pages_of r)) h.records

-- with what holds of queues that are deleted and made
pub record Holds (count : ℕ) (h : Host) : Type 0 where
  pub owner : (p : ℕ) → owned p h ≡ one (nat_lt p count)
  pub once : (q cid : ℕ) → total (here q cid) h.records < 2
  pub admins : AllByRecursion (λ r. OwnsFit h.peer r.q r.work (pages_of r)) h.records
  pub deletions : DeletionsFit h
  pub creations : CreationsFit h
  pub bare : NewQueuesAreBare h
  pub halves : AllByRecursion HasNoOtherPages h.queues
  pub admin : AdminLives h.queues

pub owns_of : (count : ℕ) (h : Host) → Holds count h → Owns count h
owns_of count h holds = record { owner = holds.owner; once = holds.once; admins = holds.admins }

abbrev pub OwnsPart : HostPart → Type 0
OwnsPart part = Owns (length part.in_store) part.host

abbrev pub HoldsPart : HostPart → Type 0
HoldsPart part = Holds (length part.in_store) part.host

pub holds_from_sound : (s : State) → IsSound s → HoldsPart (host_part s)
holds_from_sound s sound = record {
  owner = λ p. sym (owned_is p s.host) ∙ sound.owners p ∙ ap (λ (k : ℕ). one (nat_lt p k)) (sym (length-in_store s.memory));
  once = λ q cid. subst (λ (n : ℕ). n < 2) (times-outstanding cid q s.host.records) (sound.identifiers q cid);
  admins = sound.works_fit;
  deletions = sound.deletions;
  creations = sound.creations;
  bare = sound.bare;
  halves = sound.halves;
  admin = sound.admin;
}

pub owners_from_holds : (count : ℕ) (h : Host) → Holds count h → HasOneOwner count h
owners_from_holds count h holds p = owned_is p h ∙ holds.owner p

pub identifiers_from_holds : (count : ℕ) (h : Host) → Holds count h → IdentifiersDiffer h
identifiers_from_holds count h holds q cid = subst (λ (n : ℕ). n < 2) (sym (times-outstanding cid q h.records)) (holds.once q cid)

-- a change of queues that moves no page
pub owns_queues : (count : ℕ) (h : Host) (queues : List HostQueue) → ((p : ℕ) → total (in_queue p) queues ≡ total (in_queue p) h.queues)
    → Owns count h → Owns count (record h { queues = queues })
owns_queues count h queues same owns = record {
  owner = λ p. omega (arith, same p, owns.owner p);
  once = owns.once;
  admins = owns.admins;
}

-- a change of records that keeps their pages and identifiers
admins-map : (peer : Peer) (f : Record → Record) → ((r : Record) → (f r).q ≡ r.q) → ((r : Record) → (f r).work ≡ r.work) → ((r : Record) → pages_of (f r) ≡ pages_of r)
    → (records : List Record) → AllByRecursion (λ r. OwnsFit peer r.q r.work (pages_of r)) records → AllByRecursion (λ r. OwnsFit peer r.q r.work (pages_of r)) (map f records)
admins-map peer f q work pages [] all = tt
admins-map peer f q work pages (r ∷ records) all = (rw (q r, work r, pages r) all.0, admins-map peer f q work pages records all.1)

pub record KeepsRecord (f : Record → Record) : Type 0 where
  pub q : (r : Record) → (f r).q ≡ r.q
  pub cid : (r : Record) → (f r).cid ≡ r.cid
  pub work : (r : Record) → (f r).work ≡ r.work
  pub pages : (r : Record) → pages_of (f r) ≡ pages_of r

pub owns_map : (count : ℕ) (h : Host) (f : Record → Record) → KeepsRecord f → Owns count h → Owns count (record h { records = map f h.records })
owns_map count h f keeps owns = record {
  owner = λ p. omega (arith, owns.owner p, total-map (in_record p) f (λ r. ap (times p) (keeps.pages r)) h.records);
  once = λ q cid. omega (arith, owns.once q cid, total-map (here q cid) f (λ r. rw (keeps.q r, keeps.cid r) refl) h.records);
  admins = admins-map h.peer f keeps.q keeps.work keeps.pages h.records owns.admins;
}

-- one record more
once_more : (records : List Record) (new : Record) → total (here new.q new.cid) records ≡ 0 → ((q cid : ℕ) → total (here q cid) records < 2)
    → (q cid : ℕ) → total (here q cid) (records ++ new ∷ []) < 2
once_more records new unused once q cid = grind (arith, eqb-true, total, here, total-append)

admins_more : (peer : Peer) (records : List Record) (new : Record) → OwnsFit peer new.q new.work (pages_of new)
    → AllByRecursion (λ r. OwnsFit peer r.q r.work (pages_of r)) records → AllByRecursion (λ r. OwnsFit peer r.q r.work (pages_of r)) (records ++ new ∷ [])
admins_more peer [] new fit all = (fit, tt)
admins_more peer (r ∷ records) new fit all = (all.0, admins_more peer records new fit all.1)

pub owns_more : (count : ℕ) (h : Host) (new : Record) (free : List ℕ) → total (here new.q new.cid) h.records ≡ 0 → OwnsFit h.peer new.q new.work (pages_of new)
    → ((p : ℕ) → times p free + times p (pages_of new) ≡ times p h.free)
    → Owns count h → Owns count (record h { free = free; records = h.records ++ new ∷ [] })
owns_more count h new free unused fit moved owns = record {
  owner = λ p. omega (arith, owns.owner p, moved p, total-append (in_record p) h.records (new ∷ []));
  once = once_more h.records new unused owns.once;
  admins = admins_more h.peer h.records new fit owns.admins;
}

-- one record less
admins-filter : (peer : Peer) (f : Record → Bool) (records : List Record) → AllByRecursion (λ r. OwnsFit peer r.q r.work (pages_of r)) records → AllByRecursion (λ r. OwnsFit peer r.q r.work (pages_of r)) (filter f records)
admins-filter peer f [] all = tt
admins-filter peer f (r ∷ records) all = grind (arith, admins-filter peer f records all.1)

pub owns_less : (count : ℕ) (h : Host) (q cid : ℕ) (r : Record) (free : List ℕ) → record_at h q cid ≡ Some r
    → ((p : ℕ) → times p free ≡ times p h.free + in_record p r)
    → Owns count h → Owns count (record h { free = free; records = without_record q cid h.records })
owns_less count h q cid r free found moved owns = record {
  owner = λ p. omega (arith, owns.owner p, moved p, total_without (in_record p) q cid h.records r found (owns.once q cid));
  once = λ q' cid'. omega (arith, owns.once q' cid', total-filter (here q' cid') (λ r'. not (is_at q cid r')) h.records);
  admins = admins-filter h.peer (λ r'. not (is_at q cid r')) h.records owns.admins;
}

-- A page is out where a drafted or collected command has it: what each host event does to that.

-- Pages set

set_same : (m : Pages) (k p : ℕ) (x : Option (List ℕ)) → k ≡ p → p < length m → slice_get (in_store (slice_set m k x)) p ≡ Some (is_some x)
set_same (y ∷ m) zero zero x e l = refl
set_same (y ∷ m) (suc k) (suc p) x e l = set_same m k p x (omega arith) (omega arith)
set_same m k p x e l = absurd (omega arith)

set_other : (m : Pages) (k p : ℕ) (x : Option (List ℕ)) → (k ≡ p → ⊥) → slice_get (in_store (slice_set m k x)) p ≡ slice_get (in_store m) p
set_other (y ∷ m) zero zero x e = absurd (e refl)
set_other (y ∷ m) (suc k) (suc p) x e = set_other m k p x (λ h. e (ap suc h))
set_other m k p x e = refl

pub out_other : (ps : List ℕ) (m : Pages) (p : ℕ) → is_among ps p ≡ false → slice_get (in_store (without_pages ps m)) p ≡ slice_get (in_store m) p
out_other [] m p h = refl
out_other (k ∷ ps) m p h =
    let both = or_parts (k == p) (is_among ps p) h in
    out_other ps (slice_set m k None) p both.1 ∙ set_other m k p None (eqb-false k p both.0)

pub out_same : (ps : List ℕ) (m : Pages) (p : ℕ) → is_among ps p ≡ true → p < length m → slice_get (in_store (without_pages ps m)) p ≡ Some false
out_same [] m p h l = absurd (true≢false (sym h))
out_same (k ∷ ps) m p h l = grind (arith, out_same ps (slice_set m k None) p, slice_set, length-set, out_other, set_same, eqb-true)

pub in_other : (pages : List (ℕ × List ℕ)) (m : Pages) (p : ℕ) → is_among (numbers_of pages) p ≡ false → slice_get (in_store (with_pages pages m)) p ≡ slice_get (in_store m) p
in_other [] m p h = refl
in_other (page ∷ pages) m p h =
    let both = or_parts (page.0 == p) (is_among (numbers_of pages) p) h in
    in_other pages (slice_set m page.0 (Some page.1)) p both.1 ∙ set_other m page.0 p (Some page.1) (eqb-false page.0 p both.0)

pub in_same : (pages : List (ℕ × List ℕ)) (m : Pages) (p : ℕ) → is_among (numbers_of pages) p ≡ true → p < length m → slice_get (in_store (with_pages pages m)) p ≡ Some true
in_same [] m p h l = absurd (true≢false (sym h))
in_same (page ∷ pages) m p h l = grind (arith, in_same pages (slice_set m page.0 (Some page.1)) p, slice_set, length-set, in_other, set_same, eqb-true)

-- How many taken commands have a page

abbrev pub is_out : Phase → Bool
is_out Submitted = false
is_out Held = false
is_out phase = true

abbrev pub taken : ℕ → Record → ℕ
taken p r = if is_out r.phase then in_record p r else 0

abbrev pub none : ℕ → Bool
none zero = true
none (suc n) = false

pub none_here : (n : ℕ) → n ≡ 0 → none n ≡ true
none_here n e = grind arith

pub some_here : (n : ℕ) → 0 < n → none n ≡ false
some_here n e = grind arith

pub taken_le : (p : ℕ) (records : List Record) → total (taken p) records ≤ total (in_record p) records
taken_le p [] = omega arith
taken_le p (r ∷ records) = grind (arith, taken_le p records)

-- the invariant
abbrev pub Taken : List Bool → List Record → Type 0
Taken bits records = (p : ℕ) → p < length bits → slice_get bits p ≡ Some (none (total (taken p) records))

-- as the public statement says it

pub in_is : (m : Pages) (p : ℕ) → p < length m → slice_get (in_store m) p ≡ Some (is_in m p)
in_is [] p l = absurd (omega arith)
in_is (page ∷ m) (suc p) l = in_is m p (omega arith)
in_is m zero l = refl

abbrev has_away : ℕ → Record → Bool
has_away p r = is_away r && is_among (pages_of r) p

away_is : (r : Record) → is_away r ≡ is_out r.phase
away_is r = grind arith

any_is : (p : ℕ) (records : List Record) → not (list_any (has_away p) records) ≡ none (total (taken p) records)
any_is p [] = refl
any_is p (r ∷ records) = grind (arith, any_is p records, away_is, total, false, true, some_here, held_once, not_held)

pub out_from_taken : (s : State) → Taken (in_store s.memory) s.host.records → IsOutWithItsCommand s
out_from_taken s h p l =
    (cc (sym (in_is s.memory p l) ∙ h p (omega (arith, length-in_store s.memory)))) ∙ sym (any_is p s.host.records)

pub taken_from_out : (s : State) → IsOutWithItsCommand s → Taken (in_store s.memory) s.host.records
taken_from_out s h p l =
    let l' : p < length s.memory = omega (arith, length-in_store s.memory) in
    in_is s.memory p l' ∙ ap Some (h p l' ∙ any_is p s.host.records)

-- A command that the host waits for is outstanding once where its queue's state waits for it, and nowhere else: what changes of records and queues do to that.

-- whether a queue's state passes the test
abbrev pub awaited_at : (HostState → Bool) → List HostQueue → ℕ → Bool
awaited_at test hs q = option_map_or (λ h. test h.state) (slice_get hs q) false

-- 1 for a command of that queue which it waits for
abbrev pub awaits : (ℕ → Work → Bool) → ℕ → Record → ℕ
awaits of q r = one (of q r.work)

abbrev pub Awaited : (ℕ → Work → Bool) → (HostState → Bool) → List Record → List HostQueue → Type 0
Awaited of test rs hs = (q : ℕ) → total (awaits of q) rs ≡ one (awaited_at test hs q)

-- as the public statement counts them
pub length_awaits : (of : ℕ → Work → Bool) (q : ℕ) (rs : List Record) → length (filter (λ r. of q r.work) rs) ≡ total (awaits of q) rs
length_awaits of q [] = refl
length_awaits of q (r ∷ rs) = grind (arith, length_awaits of q rs)

-- Queues that change

pub at_other : (test : HostState → Bool) (f : HostQueue → HostQueue) (k : ℕ) (hs : List HostQueue) (q : ℕ) → (k ≡ q → ⊥) → awaited_at test (change k f hs) q ≡ awaited_at test hs q
at_other test f zero (h ∷ hs) zero far = absurd (far refl)
at_other test f (suc k) (h ∷ hs) (suc q) far = at_other test f k hs q (λ e. far (ap suc e))
at_other test f k hs q far = refl

pub at_found : (test : HostState → Bool) (hs : List HostQueue) (k : ℕ) (x : HostQueue) → slice_get hs k ≡ Some x → awaited_at test hs k ≡ test x.state
at_found test hs k x e = ap (λ (o : Option HostQueue). option_map_or (λ h. test h.state) o false) e

pub at_changed : (test : HostState → Bool) (f : HostQueue → HostQueue) (k : ℕ) (hs : List HostQueue) (x : HostQueue) → slice_get hs k ≡ Some x → awaited_at test (change k f hs) k ≡ test (f x).state
at_changed test f k [] x e = absurd cc
at_changed test f zero (h ∷ hs) x e = let same : h ≡ x = cc in ap (λ (y : HostQueue). test (f y).state) same
at_changed test f (suc k) (h ∷ hs) x e = at_changed test f k hs x e

pub at_nobody : (test : HostState → Bool) (f : HostQueue → HostQueue) (k : ℕ) (hs : List HostQueue) → slice_get hs k ≡ None → awaited_at test (change k f hs) k ≡ false
at_nobody test f k [] e = refl
at_nobody test f zero (h ∷ hs) e = absurd cc
at_nobody test f (suc k) (h ∷ hs) e = at_nobody test f k hs e

-- where the test says the same of what a queue becomes
pub at_same : (test : HostState → Bool) (f : HostQueue → HostQueue) (k : ℕ) (hs : List HostQueue) → ((h : HostQueue) → slice_get hs k ≡ Some h → test (f h).state ≡ test h.state) → (q : ℕ) → awaited_at test (change k f hs) q ≡ awaited_at test hs q
at_same test f zero (h ∷ hs) same zero = same h refl
at_same test f (suc k) (h ∷ hs) same (suc q) = at_same test f k hs same q
at_same test f k hs same q = refl

pub awaited_same : (of : ℕ → Work → Bool) (test : HostState → Bool) (rs : List Record) (f : HostQueue → HostQueue) (k : ℕ) (hs : List HostQueue)
    → ((h : HostQueue) → slice_get hs k ≡ Some h → test (f h).state ≡ test h.state) → Awaited of test rs hs → Awaited of test rs (change k f hs)
awaited_same of test rs f k hs same h q = h q ∙ ap one (sym (at_same test f k hs same q))

-- Records that change

pub with_awaits : (of : ℕ → Work → Bool) (k c : ℕ) (f : Record → Record) → ((r : Record) → (f r).work ≡ r.work) → (rs : List Record) (q : ℕ) → total (awaits of q) (with_record k c f rs) ≡ total (awaits of q) rs
with_awaits of k c f same rs q = total-map (awaits of q) (λ r. if is_at k c r then f r else r) (λ r. grind arith) rs

pub lost_awaits : (of : ℕ → Work → Bool) (k : ℕ) (rs : List Record) (q : ℕ) → total (awaits of q) (map (a.lost k) rs) ≡ total (awaits of q) rs
lost_awaits of k rs q = total-map (awaits of q) (a.lost k) (λ r. grind arith) rs

-- a command that no queue waits for comes or goes
pub awaited_more : (of : ℕ → Work → Bool) (test : HostState → Bool) (rs : List Record) (hs : List HostQueue) (new : Record) → ((q : ℕ) → of q new.work ≡ false) → Awaited of test rs hs → Awaited of test (rs ++ new ∷ []) hs
awaited_more of test rs hs new quiet h q = omega (arith, h q, total-append (awaits of q) rs (new ∷ []), ap one (quiet q))

pub awaited_less : (of : ℕ → Work → Bool) (test : HostState → Bool) (rs : List Record) (hs : List HostQueue) (at c : ℕ) (r : Record) → find (is_at at c) rs ≡ Some r → total (here at c) rs < 2 → ((q : ℕ) → of q r.work ≡ false)
    → Awaited of test rs hs → Awaited of test (without_record at c rs) hs
awaited_less of test rs hs at c r is once quiet h q = omega (arith, h q, total_without (awaits of q) at c rs r is once, ap one (quiet q))

-- Commands that queues wait for

-- where such a command is outstanding, its queue waits for it
pub was_awaited : (of : ℕ → Work → Bool) (test : HostState → Bool) (rs : List Record) (hs : List HostQueue) (k at c : ℕ) (r : Record) → find (is_at at c) rs ≡ Some r → of k r.work ≡ true → total (here at c) rs < 2
    → Awaited of test rs hs → awaited_at test hs k ≡ true
was_awaited of test rs hs k at c r is its once h = elim (cases_Bool (awaited_at test hs k)) [
  | inl e ↦ e
  | inr e ↦ absurd (omega (arith, total_without (awaits of k) at c rs r is once, ap one its, h k, ap one e))
]

pub awaited_is : (test : HostState → Bool) (hs : List HostQueue) (k : ℕ) (x : HostQueue) → awaited_at test hs k ≡ true → slice_get hs k ≡ Some x → test x.state ≡ true
awaited_is test hs k x h e = sym (at_found test hs k x e) ∙ h

-- one is sent, and its queue waits for it
pub awaited_starts : (of : ℕ → Work → Bool) (test : HostState → Bool) (rs : List Record) (hs : List HostQueue) (f : HostQueue → HostQueue) (k : ℕ) (new : Record) (x : HostQueue) → slice_get hs k ≡ Some x
    → ((q : ℕ) → (k == q) ≡ false → of q new.work ≡ false) → one (test (f x).state) ≡ one (test x.state) + one (of k new.work) → Awaited of test rs hs → Awaited of test (rs ++ new ∷ []) (change k f hs)
awaited_starts of test rs hs f k new x there others moves h q = grind (arith, total, eqb-true, total-append, at_other, eqb-false, at_found, at_changed)

-- one is completed, and its queue waits no longer
pub awaited_ends : (of : ℕ → Work → Bool) (test : HostState → Bool) (rs : List Record) (hs : List HostQueue) (f : HostQueue → HostQueue) (k at c : ℕ) (r : Record) → find (is_at at c) rs ≡ Some r → total (here at c) rs < 2
    → ((q : ℕ) → (k == q) ≡ false → of q r.work ≡ false) → ((x : HostQueue) → slice_get hs k ≡ Some x → one (test (f x).state) + one (of k r.work) ≡ one (test x.state))
    → Awaited of test rs hs → Awaited of test (without_record at c rs) (change k f hs)
awaited_ends of test rs hs f k at c r is once others moves h q = grind (arith, total, eqb-true, total_without, at_other, eqb-false, at_nobody, at_found, at_changed)

-- What a reset makes of records and queues: how their sums and what holds of all of them change.

-- One record

pub lost_keeps : KeepsRecord a.lost_anywhere
lost_keeps = record {
  q = λ r. (elim (is_submitted r.phase) as (λ b. (if b then a.aborted r else r).q ≡ r.q) [ true ↦ refl | false ↦ refl ]);
  cid = λ r. (elim (is_submitted r.phase) as (λ b. (if b then a.aborted r else r).cid ≡ r.cid) [ true ↦ refl | false ↦ refl ]);
  work = λ r. (elim (is_submitted r.phase) as (λ b. (if b then a.aborted r else r).work ≡ r.work) [ true ↦ refl | false ↦ refl ]);
  pages = λ r. (elim (is_submitted r.phase) as (λ b. pages_of (if b then a.aborted r else r) ≡ pages_of r) [ true ↦ refl | false ↦ refl ]);
}

-- a record either stays or is held with one status, with the same pages for the same work
pub lost_by : (P : Record → Type 0) (r : Record) → (is_submitted r.phase ≡ false → P r) → (is_submitted r.phase ≡ true → P (a.aborted r)) → P (a.lost_anywhere r)
lost_by P r stays lost = elim (cases_Bool (is_submitted r.phase)) [ inl e ↦ rw e (lost e) | inr e ↦ rw e (stays e) ]

pub lost_quiet : (r : Record) → is_submitted (a.lost_anywhere r).phase ≡ false
lost_quiet r = lost_by (λ x. is_submitted x.phase ≡ false) r (λ e. e) (λ e. refl)

pub submitted_in : (ph : Phase) → is_submitted ph ≡ true → is_out ph ≡ false
submitted_in ph e = grind arith

pub lost_taken : (p : ℕ) (r : Record) → taken p (a.lost_anywhere r) ≡ taken p r
lost_taken p r = lost_by (λ x. taken p x ≡ taken p r) r (λ e. refl) (λ e. sym (ap (λ b. if b then in_record p r else 0) (submitted_in r.phase e)))

-- All records

abbrev pub io_records : List Record → List Record
io_records rs = filter (λ r. a.is_of_io r.work) rs

pub reset_total : (w : Record → ℕ) → ((r : Record) → w (a.lost_anywhere r) ≡ w r) → (rs : List Record) → total w (a.reset_records rs) ≡ total w (io_records rs)
reset_total w same rs = total-map w a.lost_anywhere same (io_records rs)

pub reset_fewer : (w : Record → ℕ) → ((r : Record) → w (a.lost_anywhere r) ≡ w r) → (rs : List Record) → total w (a.reset_records rs) ≤ total w rs
reset_fewer w same rs = omega (arith, reset_total w same rs, total-filter w (λ r. a.is_of_io r.work) rs)

-- what weighs nothing of an admin command weighs as much as before
pub io_total : (P : Record → Type 0) (w : Record → ℕ) → ((r : Record) → P r → a.is_of_io r.work ≡ false → w r ≡ 0) → (rs : List Record) → AllByRecursion P rs → total w (io_records rs) ≡ total w rs
io_total P w none [] all = refl
io_total P w none (r ∷ rs) all = grind (arith, io_total P w none rs all.1)

-- and what weighs nothing of an I/O command weighs nothing
pub admin_total : (w : Record → ℕ) → ((r : Record) → w (a.lost_anywhere r) ≡ w r) → ((r : Record) → a.is_of_io r.work ≡ true → w r ≡ 0) → (rs : List Record) → total w (a.reset_records rs) ≡ 0
admin_total w same none rs = reset_total w same rs ∙ nothing rs
  where
    nothing : (rs : List Record) → total w (io_records rs) ≡ 0
    nothing [] = refl
    nothing (r ∷ rs) = grind (arith, nothing rs)

pub all_reset : (P Q : Record → Type 0) → ((r : Record) → a.is_of_io r.work ≡ true → P r → Q (a.lost_anywhere r)) → (rs : List Record) → AllByRecursion P rs → AllByRecursion Q (a.reset_records rs)
all_reset P Q each [] all = tt
all_reset P Q each (r ∷ rs) all = elim (cases_Bool (a.is_of_io r.work)) [
  | inl e ↦ let rest = all_reset P Q each rs all.1 in rw e (each r e all.0, rest)
  | inr e ↦ let rest = all_reset P Q each rs all.1 in rw e rest
]

-- its pages: an admin command has none
pub reset_pages : (peer : Peer) (p : ℕ) (rs : List Record) → AllByRecursion (λ r. OwnsFit peer r.q r.work (pages_of r)) rs → total (in_record p) (a.reset_records rs) ≡ total (in_record p) rs
reset_pages peer p rs fit = grind (arith, reset_total, lost_keeps, io_total)

pub reset_taken : (peer : Peer) (p : ℕ) (rs : List Record) → AllByRecursion (λ r. OwnsFit peer r.q r.work (pages_of r)) rs → total (taken p) (a.reset_records rs) ≡ total (taken p) rs
reset_taken peer p rs fit = grind (arith, reset_total, lost_taken, io_total)

-- Queues

-- a test that a live queue and one that is gone both fail, no queue passes
pub reset_state : (test : HostState → Bool) → test Live ≡ false → test Gone ≡ false → (hs : List HostQueue) (q : ℕ) → awaited_at test (a.reset_queues hs) q ≡ false
reset_state test live gone [] q = refl
reset_state test live gone (x ∷ hs) zero = live
reset_state test live gone (x ∷ hs) (suc q) = rest hs q
  where
    rest : (hs : List HostQueue) (q : ℕ) → awaited_at test (map (λ other. a.no_queue) hs) q ≡ false
    rest [] q = refl
    rest (x ∷ hs) zero = gone
    rest (x ∷ hs) (suc q) = rest hs q

-- queue 0 and the others
pub all_reset_queues : (P Q : HostQueue → Type 0) (hs : List HostQueue) → ((x : HostQueue) → slice_get hs 0 ≡ Some x → P x → Q (a.reset_admin x)) → Q a.no_queue → AllByRecursion P hs → AllByRecursion Q (a.reset_queues hs)
all_reset_queues P Q [] admin gone all = tt
all_reset_queues P Q (x ∷ hs) admin gone all = (admin x refl all.0, rest hs)
  where
    rest : (hs : List HostQueue) → AllByRecursion Q (map (λ other. a.no_queue) hs)
    rest [] = tt
    rest (x ∷ hs) = (gone, rest hs)

pub reset_length : (hs : List HostQueue) → length (a.reset_queues hs) ≡ length hs
reset_length [] = refl
reset_length (x ∷ hs) = grind (arith, common_steps)

pub reset_controller_length : (ds : List ServedQueue) → length (a.reset_served_queues ds) ≡ length ds
reset_controller_length [] = refl
reset_controller_length (x ∷ ds) = grind (arith, common_steps)

-- the pages of the I/O queues leave them
pub reset_halves : (p : ℕ) (hs : List HostQueue) → total (in_queue p) (a.reset_queues hs) + times p (a.io_pages hs) ≡ total (in_queue p) hs
reset_halves p [] = refl
reset_halves p (x ∷ hs) = omega (arith, rest hs)
  where
    rest : (hs : List HostQueue) → total (in_queue p) (map (λ other. a.no_queue) hs) + times p (flat_map a.halves_of hs) ≡ total (in_queue p) hs
    rest [] = refl
    rest (x ∷ hs) = omega (arith, rest hs, times-append p (a.halves_of x) (flat_map a.halves_of hs), times-append p x.sq_pages x.cq_pages)

-- the pages of queue 0 are its own
pub admin_has : (p : ℕ) (hs : List HostQueue) → times p (a.admin_pages hs) ≤ total (in_queue p) hs
admin_has p [] = omega arith
admin_has p (x ∷ hs) = omega (arith, times-append p x.sq_pages x.cq_pages)

-- Nothing waits at the controller, so no admin command stands there

pub no_waiting : (ds : List ServedQueue) → waiting (a.reset_served_queues ds) ≡ []
no_waiting ds = grind arith

pub no_admin_completions : (ds : List ServedQueue) → admin_completions (a.reset_served_queues ds) ≡ []
no_admin_completions ds = grind arith

pub reset_admin_commands : (rs : List Record) → AdminCommandsStand rs [] [] []
reset_admin_commands rs = record { places = λ c. omega arith; entries = tt; jobs = tt; completions = tt }
