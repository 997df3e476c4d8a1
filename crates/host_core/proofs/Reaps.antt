-- Reaps and retirements are steps of the machine.
use Rattle.machine_model.specs.Events as events
use Rattle.machine_model.specs.declared.words.Reaped.TheVariants as found
use Rattle.machine_model.specs.declared.words.Refusal.TheVariants as refusal
use Rattle.machine_model.specs.declared.words.RejectedFor.TheVariants as rejected
use Rattle.machine_model.specs.After as a
use Rattle.page_ledger.specs.declared.owner.Owner.TheVariants as owner
use Rattle.std.proofs.Common.{is_some, is_none, ◌&&◌, ◌≡◌, ℕ, ◌<◌, ◌==◌, Bool, true, false, length, Option, Some, None, List, [], find, slice_get, refl, ap, sym, ◌∙◌, subst, eq-eqb, ◌∷◌, map, eqb-true, inl, inr}
use Rattle.std.{proofs.lemmas.{Bool.{not-false, true≢false, and_parts, and_right, cond_both, false_from_ne_true}, List.length-map}, specs.List.{AllByRecursion}}
use Rattle.std.specs.Option.{option_map_or}
use Rattle.admin_commands.specs.declared.AdminKind.{AdminKind, TheVariants.{Abort, DeleteSq, DeleteCq, CreateCq, CreateSq}}
use Rattle.entry_codec.specs.{Status.is_success, declared.{completion.ComEntry.ComEntry, status.Status.Status}}
use Rattle.io_commands.specs.Asked.{Request}
use Rattle.machine_model.{proofs.Kept.{sq_with_cq, deleted_has_sq}, specs.{After.{change, held, after_retire, lost}, Claims.OwnsFit}}
use Rattle.machine_model.specs.Refusals.{refusal_of, has_cq_alone, is_submitted, is_reaped, host_queue, is_deleted, is_live, has_cq}
use Rattle.machine_model.specs.State.{HostQueue, Record, is_at, with_record, without_record, State, pages_of}
use Rattle.machine_model.specs.{Step.{fits_ring, reaped_as, reaped_entry, submitted_at, Step}, Work.Work, declared.words.{HostState.HostState, Peer.Peer}}
use Rattle.machine_model.specs.declared.words.{HostState.TheVariants.{Live, Gone, HalfMade, Retired}, Phase.Phase, Work.TheVariants.{Io, Management}}
use Rattle.machine_model.specs.declared.words.{Phase.TheVariants.Submitted, Refusal.Refusal, RejectedFor.RejectedFor}
use Rattle.queue_pair.{proofs.Rings.in_range_below, specs.Slots.is_in_range}
use Rattle.host_core.proofs.{Granting.in_state-is, Lists.{each-change, length-change, any-map}, RowRecords.claims-same}
use Rattle.host_core.proofs.PageOwners.{commands-told, half-owned, half-there, others-told, owner-stays, given-free}
use Rattle.host_core.proofs.{Identifiers.{sound-of, lent-of, Settled, settled-of}, QueueLists.{map-change, host-at, host_step, settled-turned, Steps, steps}}
use Rattle.host_core.proofs.Reaping.{EndsAdmin, admin-exact, admin-settled, ended_admin, done-settled, EndsIo, Sees, done-exact, held-lost, reap-none, reaped-empty, reject-exact, settled-consumed, work-cases}
use Rattle.host_core.specs.{Commands.{Claims, passes, state_at, without_claim}, Exact.Exactly, Halves.HasHalf, Looks.completion_waits}
use Rattle.host_core.specs.Reaping.{lacks_completion, Answered, ReapsTo, consumed, ended_with, gives_back, heard, kind_of, meant, over, seen_at, state_deleted, with_completion_heard, with_state, without_completion, without_submission}
use Rattle.host_core.specs.{Retiring.{retired, with_lost}, Rows.Queue, Tables.{Tables, state_of, host_queue_of, sq_pages_of, cq_pages_of}}
use Rattle.host_core.specs.Whole.{ClaimIdentifiers, HaveOwner, IsWhole, is_outstanding, IsHost, IsRecord, ClaimsIdentifiers, TellsCommand, TellsQueue}
use Rattle.page_ledger.specs.{Owners.{free_pages, given_back, is_half}, declared.owner.Owner.Owner}
use Rattle.page_memory.specs.declared.page.Half.TheVariants.{Submission, Completion}
use Rattle.slot_table.proofs.Rows.{option_is}
use Rattle.page_memory.proofs.Lists.{some_is, all-map, found_any}

-- A reap as it is made: what it decides, and what is written.

-- The refusal

-- What is decided

pub fits-at : (t : Tables) → IsWhole t → (q : ℕ) (x : Queue) (e : ComEntry) → slice_get t.queues q ≡ Some x
    → fits_ring (state_of t) q e ≡ is_in_range x.host.entries x.host.ring.known_head x.host.ring.tail e.sqhd
fits-at t w q x e at =
    ap (λ (o : Option HostQueue). option_map_or (λ queue. is_in_range t.entries queue.ring.known_head queue.ring.tail e.sqhd) o false) (host-at t q x at)
    ∙ ap (λ (n : ℕ). is_in_range n x.host.ring.known_head x.host.ring.tail e.sqhd) (sym (w.host.rings.each q x at).entries)

after-tests : (t : Tables) → IsWhole t → (q : ℕ) (x : Queue) (e : ComEntry) → slice_get t.queues q ≡ Some x → (e.sqid == q) ≡ true
    → is_in_range x.host.entries x.host.ring.known_head x.host.ring.tail e.sqhd ≡ true
    → reaped_entry (state_of t) q e ≡ option_map_or (λ r. reaped_as q e) (submitted_at (state_of t) q e.cid) (found.Rejected rejected.UnknownId)
after-tests t w q x e at mine inside = rw (mine, fits-at t w q x e at, inside) refl

pub reject-none : (t : Tables) → IsWhole t → (q : ℕ) (x : Queue) (e : ComEntry) → slice_get t.queues q ≡ Some x → (e.sqid == q) ≡ true
    → is_in_range x.host.entries x.host.ring.known_head x.host.ring.tail e.sqhd ≡ true → find (is_at q e.cid) t.records ≡ None → reaped_entry (state_of t) q e ≡ found.Rejected rejected.UnknownId
reject-none t w q x e at mine inside none = after-tests t w q x e at mine inside ∙ rw none refl

pub reject-phase : (t : Tables) → IsWhole t → (q : ℕ) (x : Queue) (e : ComEntry) (r : Record) → slice_get t.queues q ≡ Some x → (e.sqid == q) ≡ true
    → is_in_range x.host.entries x.host.ring.known_head x.host.ring.tail e.sqhd ≡ true → find (is_at q e.cid) t.records ≡ Some r → is_submitted r.phase ≡ false
    → reaped_entry (state_of t) q e ≡ found.Rejected rejected.UnknownId
reject-phase t w q x e r at mine inside was phase = after-tests t w q x e at mine inside ∙ rw (was, phase) refl

pub answered-says : (t : Tables) → IsWhole t → (q : ℕ) (x : Queue) (e : ComEntry) (kind : Option AdminKind) → slice_get t.queues q ≡ Some x → (is : Answered t q e kind)
    → reaped_entry (state_of t) q e ≡ reaped_as q e
answered-says t w q x e kind at is =
    after-tests t w q x e at (eq-eqb e.sqid q is.sqid) (is.head x at) ∙ rw (is.was, ap is_submitted is.submitted) refl

head-below : (t : Tables) (q : ℕ) (x : Queue) (e : ComEntry) (kind : Option AdminKind) → slice_get t.queues q ≡ Some x → Answered t q e kind → e.sqhd < x.host.entries
head-below t q x e kind at is = in_range_below x.host.entries x.host.ring.known_head x.host.ring.tail e.sqhd (is.head x at)

-- The outcomes

-- a queue that has a completion half, and what is seen there
pub record Looks (t : Tables) (q : ℕ) (o : Option ComEntry) : Type 0 where
  pub queue : Queue
  pub at : slice_get t.queues q ≡ Some queue
  pub live : is_reaped queue.state ≡ true
  pub seen : seen_at t q ≡ o

pub looks : (t : Tables) (q : ℕ) (o : Option ComEntry) → lacks_completion (slice_get t.queues q) ≡ false → seen_at t q ≡ o → Looks t q o
looks t q o there seen = elim (option_is (slice_get t.queues q)) [
  | inl at ↦ absurd (true≢false (rw at at there))
  | inr (x, at) ↦ record { queue = x; at = at; live = not-false _ (rw at at there); seen = seen }
]

sees : (t : Tables) (q : ℕ) (e : ComEntry) → (l : Looks t q (Some e)) → Sees t q l.queue e
sees t q e l = record { at = l.at; live = l.live; seen = l.seen }

pub reaps-none : (t : Tables) → IsWhole t → (q : ℕ) → Looks t q None → ReapsTo t q found.Empty t
reaps-none t w q l =
    record {
      step = host_step t t (events.Reap q) (events.Reaps found.Empty) refl tt (reap-none t q l.queue l.at l.live, sym (reaped-empty (state_of t) q l.seen), refl);
      whole = w;
    }

pub reaps-rejected : (t new : Tables) → IsWhole t → (q : ℕ) (e : ComEntry) (why : RejectedFor) → Looks t q (Some e) → reaped_entry (state_of t) q e ≡ found.Rejected why → new ≡ consumed q t
    → ReapsTo t q (found.Rejected why) new
reaps-rejected t new w q e why l says is =
    let made = steps t (consumed q t) (events.Reap q) (events.Reaps (found.Rejected why)) w refl tt (reject-exact t w q l.queue e why (sees t q e l) says) (settled-consumed t w q) in
    rw is (record { step = made.step; whole = made.whole })

io-work : (v : Work) → kind_of v ≡ None → (request : Request) × (v ≡ Io request)
io-work (Io request) h = (request, refl)
io-work (Management kind) h = cc

pub admin-work : (v : Work) (kind : AdminKind) → kind_of v ≡ Some kind → v ≡ Management kind
admin-work (Io request) kind h = cc
admin-work (Management other) kind h = cc

pub reaps-done : (t new : Tables) → IsWhole t → (q : ℕ) (e : ComEntry) → Looks t q (Some e) → (is : Answered t q e None)
    → new ≡ ended_with q e.sqhd e.cid e.status e.hints t → ReapsTo t q (reaped_as q e) new
reaps-done t new w q e l is left =
    let io = io-work is.entry.work is.means in
    let ends : EndsIo t q e = record { entry = is.entry; request = io.0; was = is.was; work = io.1; says = answered-says t w q l.queue e None l.at is } in
    let made = steps t (ended_with q e.sqhd e.cid e.status e.hints t) (events.Reap q) (events.Reaps (reaped_as q e)) w refl tt
    (done-exact t w q l.queue e (sees t q e l) ends)
    (done-settled t w q l.queue e (sees t q e l) ends (head-below t q l.queue e None l.at is)) in
    rw left (record { step = made.step; whole = made.whole })

pub reaps-admin : (t new : Tables) → IsWhole t → (q : ℕ) (e : ComEntry) (kind : AdminKind) → Looks t q (Some e) → (is : Answered t q e (Some kind))
    → new ≡ meant kind e.status (over q e.sqhd e.cid t) → ReapsTo t q (reaped_as q e) new
reaps-admin t new w q e kind l is left =
    let work = admin-work is.entry.work kind is.means in
    let ends : EndsAdmin t q kind e = record { entry = is.entry; was = is.was; work = work; says = answered-says t w q l.queue e (Some kind) l.at is } in
    let made = steps t (ended_admin q kind e t) (events.Reap q) (events.Reaps (reaped_as q e)) w refl tt (admin-exact t w q l.queue e kind (sees t q e l) ends)
    (admin-settled t w q l.queue e kind (sees t q e l) ends (head-below t q l.queue e (Some kind) l.at is)) in
    rw left (record { step = made.step; whole = made.whole })

-- What is written

pub held-tables : (t u new : Tables) (q : ℕ) (e : ComEntry) → u ≡ heard q e.sqhd t → new ≡ record u { records = with_record q e.cid (held e.status e.hints) u.records } → new ≡ ended_with q e.sqhd e.cid e.status e.hints t
held-tables t u new q e eu en = en ∙ ap (λ (y : Tables). record y { records = with_record q e.cid (held e.status e.hints) y.records }) eu

pub over-tables : (t u v : Tables) (q : ℕ) (e : ComEntry) (queues : List Queue) → u ≡ heard q e.sqhd t → v ≡ record u { records = without_record q e.cid u.records } → queues ≡ change q (without_claim e.cid) v.queues
    → record v { queues = queues } ≡ over q e.sqhd e.cid t
over-tables t u v q e queues eu ev eq = rw (eq, ev, eu) refl

-- the claimed identifiers, once the completion was reaped
pub over-claims : (q : ℕ) (e : ComEntry) (queues new : List Queue) → Claims queues q e.cid → new ≡ change q (with_completion_heard e.sqhd) queues → Claims new q e.cid
over-claims q e queues new claims is = rw is (λ y at.
    each-change (λ (j : ℕ) (z : Queue). j ≡ q → slice_get z.host.claimed e.cid ≡ Some true) q (with_completion_heard e.sqhd) queues (λ k z far at' same. absurd (far same))
    (λ z at' same. claims z at') q y at refl)

-- the identifier of an outstanding command is claimed
pub answered-claims : (t : Tables) → ClaimIdentifiers t.records t.queues → (q : ℕ) (e : ComEntry) (kind : Option AdminKind) → Answered t q e kind → Claims t.queues q e.cid
answered-claims t ids q e kind is y at =
    let there : is_outstanding t.records q e.cid ≡ true = found_any (is_at q e.cid) t.records is.entry is.was in
    let claims = ids.each q y at in
    claims.told e.cid (claims.inside e.cid there) ∙ ap Some there

pub submitted-is : (p : Phase) → is_submitted p ≡ true → p ≡ Submitted
submitted-is Submitted h = refl
submitted-is p h = cc

-- what the end of one of the host's own gives back
pub gives-meant : (t new : Tables) (kind : AdminKind) (k : ℕ) (status : Status) → kind ≡ DeleteCq k → is_success status ≡ true → passes has_cq_alone (state_at t.queues k) ≡ true
    → new ≡ without_completion k t → new ≡ meant kind status t
gives-meant t new kind k status e s r is = rw (is, e, s, r) refl

-- and where it does not make what it was to make
pub unmade-cq : (t new : Tables) (kind : AdminKind) (k n base : ℕ) (vector : Option ℕ) (status : Status) → kind ≡ CreateCq k n base vector → is_success status ≡ false → new ≡ without_completion k t → new ≡ meant kind status t
unmade-cq t new kind k n base vector status e s is = rw (is, e, s) refl

pub unmade-sq : (t new : Tables) (kind : AdminKind) (k n base : ℕ) (status : Status) → kind ≡ CreateSq k n base → is_success status ≡ false → new ≡ without_submission HalfMade k t → new ≡ meant kind status t
unmade-sq t new kind k n base status e s is = rw (is, e, s) refl

-- as many queues as before
pub meant-many : (t : Tables) (kind : AdminKind) (status : Status) → length (meant kind status t).queues ≡ length t.queues
meant-many t (Abort k cid) status = refl
meant-many t (DeleteSq k) status = length-change k (with_state (state_deleted status)) t.queues
meant-many t (DeleteCq k) status = cond_both (gives_back k status t) _ _ (λ (u : Tables). length u.queues ≡ length t.queues) (λ _. length-change k (with_state Gone) t.queues) (λ _. refl)
meant-many t (CreateCq k n base vector) status =
    cond_both (is_success status) _ _ (λ (u : Tables). length u.queues ≡ length t.queues) (λ _. length-change k (with_state HalfMade) t.queues)
    (λ _. length-change k (with_state Gone) t.queues)
meant-many t (CreateSq k n base) status =
    cond_both (is_success status) _ _ (λ (u : Tables). length u.queues ≡ length t.queues) (λ _. length-change k (with_state Live) t.queues)
    (λ _. length-change k (with_state HalfMade) t.queues)

pub heard-many : (t : Tables) (q k : ℕ) → length (heard q k t).queues ≡ length t.queues
heard-many t q k = length-change q (with_completion_heard k) t.queues

pub over-many : (t : Tables) (q k cid : ℕ) → length (over q k cid t).queues ≡ length t.queues
over-many t q k cid = length-change q (without_claim cid) (heard q k t).queues ∙ heard-many t q k

-- whether a completion waits
pub waits-told : (t : Tables) (q : ℕ) (o : Option ComEntry) → Looks t q o → completion_waits (state_of t) q ≡ is_some o
waits-told t q o l =
    ap (λ (r : Option Refusal). is_none r && is_some (seen_at t q)) (reap-none t q l.queue l.at l.live) ∙ ap is_some l.seen

-- A queue was retired: its submission half is given back, and its commands that were never answered are lost.

-- A queue whose deletion has ended, and at whose head there is no completion
pub record Retires (t : Tables) (q : ℕ) (x : Queue) : Type 0 where
  pub at : slice_get t.queues q ≡ Some x
  pub deleted : is_deleted x.state ≡ true
  pub drained : seen_at t q ≡ None

there : (t : Tables) (q : ℕ) (x : Queue) → Retires t q x → has_cq x.state ≡ true
there t q x r = sq_with_cq x.state (deleted_has_sq x.state r.deleted)

same-at : (t : Tables) (q : ℕ) (x y : Queue) → Retires t q x → slice_get t.queues q ≡ Some y → x ≡ y
same-at t q x y r at = some_is (sym r.at ∙ at)

-- The machine's state

retired-state : (t : Tables) → IsWhole t → (q : ℕ) (x : Queue) → Retires t q x → state_of (retired q t) ≡ after_retire q (state_of t)
retired-state t w q x r =
    ap (λ (hs : List HostQueue). with_free (free_pages (given_back (is_half q Submission) t.owners)) hs)
    (map-change host_queue_of (with_state Retired) a.retired q t.queues (λ y at. let has : has_cq y.state ≡ true = subst (λ (z : Queue). has_cq z.state ≡ true)
    (same-at t q x y r at) (there t q x r) in rw has refl))
    ∙ (ap (λ (free : List ℕ). with_free free (change q a.retired (map host_queue_of t.queues)))
    (given-free t.owners (is_half q Submission) (length t.pages) (sq_pages_of x) (sym (lent-of t w)) (half-owned t (length t.pages) (sound-of t w).owners w.host.table.owners q Submission x r.at))
    ∙ ap (λ (o : Option HostQueue). option_map_or (λ (queue : HostQueue). a.on_host_queue q a.retired (a.given_back queue.sq_pages (state_of (with_lost q t)))) o (state_of (with_lost q t)))
    (sym (host-at t q x r.at)))
  where
    with_free : List ℕ → List HostQueue → State
    with_free free hs = record (state_of t) { host = record { peer = t.peer; free = free; queues = hs; records = map (lost q) t.records } }

retire-none : (t : Tables) (q : ℕ) (x : Queue) → Retires t q x → refusal_of (state_of t) (events.Retire q) ≡ None
retire-none t q x r = rw (r.drained, host-at t q x r.at, r.deleted) refl

retire-exact : (t : Tables) → IsWhole t → (q : ℕ) (x : Queue) → Retires t q x → Exactly (state_of t) (events.Retire q) events.Accepted (state_of (retired q t))
retire-exact t w q x r = (retire-none t q x r, tt, retired-state t w q x r)

-- The records

abbrev is_lost : ℕ → Record → Bool
is_lost q r = (r.q == q) && is_submitted r.phase

lost-at : (q p i : ℕ) (r : Record) → is_at p i (lost q r) ≡ is_at p i r
lost-at q p i r = cond_both (is_lost q r) _ _ (λ x. is_at p i x ≡ is_at p i r) (λ _. refl) (λ _. refl)

lost-told : (owners : List Owner) (q : ℕ) (r : Record) → TellsCommand owners r → TellsCommand owners (lost q r)
lost-told owners q r h = cond_both (is_lost q r) _ _ (TellsCommand owners) (λ _. record { data_pages = h.data_pages; chain_pages = h.chain_pages }) (λ _. h)

lost-claims : (q : ℕ) (records : List Record) (p : ℕ) (claimed : List Bool) → ClaimsIdentifiers records p claimed → ClaimsIdentifiers (map (lost q) records) p claimed
lost-claims q records p claimed = claims-same records (map (lost q) records) p claimed (λ i. any-map (is_at p i) (lost q) (lost-at q p i) records)

-- what is lost is a command of the caller's
lost-fits : (peer : Peer) (n q : ℕ) (r : Record) → (q == 0) ≡ false → OwnsFit peer r.q r.work (pages_of r) → IsRecord n r → IsRecord n (lost q r)
lost-fits peer n q r io owns fits = cond_both (is_lost q r) _ _ (IsRecord n) held (λ _. fits)
  where
    held : is_lost q r ≡ true → IsRecord n (a.aborted r)
    held e = elim (work-cases r.work) [
      | inl is ↦ held-lost n r is fits
      | inr (kind, is) ↦
          let none : OwnsFit peer r.q (Management kind) (pages_of r) = subst (λ (v : Work). OwnsFit peer r.q v (pages_of r)) is owns in
          absurd (true≢false (sym (eq-eqb q 0 (sym (eqb-true r.q q (and_parts (r.q == q) (is_submitted r.phase) e).0) ∙ none.0)) ∙ io))
    ]

lost-records : (peer : Peer) (n q : ℕ) (records : List Record) → (q == 0) ≡ false → AllByRecursion (λ r. OwnsFit peer r.q r.work (pages_of r)) records → AllByRecursion (IsRecord n) records
    → AllByRecursion (IsRecord n) (map (lost q) records)
lost-records peer n q [] io owns all = tt
lost-records peer n q (r ∷ records) io owns all = (lost-fits peer n q r io owns.0 all.0, lost-records peer n q records io owns.1 all.1)

-- queue 0 is live
not-admin : (t : Tables) → IsWhole t → (q : ℕ) (x : Queue) → Retires t q x → (q == 0) ≡ false
not-admin t w q x r = false_from_ne_true (q == 0) (λ e.
    let first : host_queue (state_of t) 0 ≡ Some (host_queue_of x) = subst (λ (k : ℕ). host_queue (state_of t) k ≡ Some (host_queue_of x)) (eqb-true q 0 e) (host-at t q x r.at) in
    let live : is_live x.state ≡ true = ap (λ (o : Option HostQueue). option_map_or (λ (queue : HostQueue). is_live queue.state) o true) (sym first) ∙ w.host.sound.admin in
    dead x.state r.deleted live)
  where
    dead : (state : HostState) → is_deleted state ≡ true → is_live state ≡ true → ⊥
    dead Live h l = cc
    dead state h l = cc

-- The owners

retired-told : (owners : List Owner) (q : ℕ) (x : Queue) → has_cq x.state ≡ true → TellsQueue owners q x → TellsQueue (given_back (is_half q Submission) owners) q (with_state Retired x)
retired-told owners q x live told =
    let kept : cq_pages_of (with_state Retired x) ≡ cq_pages_of x = rw live refl in
    record {
      submission = λ p h. cc;
      completion = subst (λ (ps : List ℕ). HaveOwner (given_back (is_half q Submission) owners) (owner.Queue q Completion) ps) (sym kept)
          (λ p h. owner-stays owners (is_half q Submission) p (owner.Queue q Completion) (and_right (q == q) false refl) (told.completion p h));
    }

-- The tables

settled-retired : (t : Tables) → IsWhole t → (q : ℕ) (x : Queue) → Retires t q x → Settled (retired q t)
settled-retired t w q x r =
    let s : Settled t = settled-of t w in
    let live : (y : Queue) → slice_get t.queues q ≡ Some y → has_cq y.state ≡ true = λ y at. subst (λ (z : Queue). has_cq z.state ≡ true) (same-at t q x y r at) (there t q x r) in
    let owners : List Owner = given_back (is_half q Submission) t.owners in
    settled-turned t q (with_state Retired) t.pages owners (map (lost q) t.records) s
    (record {
      pool = s.pool;
      lent = length-map t.owners _ ∙ s.lent;
      queue = λ y at. let is = s.rings.each q y at in record { number = is.number; entries = is.entries; host_side = is.host_side };
      identifiers = λ j y at. lost-claims q t.records j y.host.claimed (s.table.identifiers.each j y at);
      claims = λ y at. lost-claims q t.records q y.host.claimed (s.table.identifiers.each q y at);
      others = λ j y far at. others-told t.owners q j Submission y far (s.table.owners.queues_told j y at);
      own = λ y at. retired-told t.owners q y (live y at) (s.table.owners.queues_told q y at);
      commands = all-map (TellsCommand owners) (lost q) (λ y h. lost-told owners q y h) t.records (commands-told t.owners q Submission t.records s.table.owners.commands_told);
      records = lost-records t.peer (length t.queues) q t.records (not-admin t w q x r) w.host.sound.works_fit s.table.records;
    })

-- As the code tells it

retires : (t : Tables) (q : ℕ) → passes is_deleted (state_at t.queues q) ≡ true → seen_at t q ≡ None → (x : Queue) × Retires t q x
retires t q deleted drained = elim (option_is (slice_get t.queues q)) [
  | inl at ↦ absurd (true≢false (sym (rw at at deleted)))
  | inr (x, at) ↦ (x, record { at = at; deleted = rw at at deleted; drained = drained })
]

pub retire-half : (t : Tables) → IsHost t → (q : ℕ) → passes is_deleted (state_at t.queues q) ≡ true → HasHalf t q Submission
retire-half t h q deleted = elim (option_is (slice_get t.queues q)) [
  | inl at ↦ absurd (true≢false (sym (rw at at deleted)))
  | inr (x, at) ↦ half-there t h q Submission x at (deleted_has_sq x.state (rw at at deleted))
]

pub retire-made : (t new : Tables) → IsWhole t → (q : ℕ) → passes is_deleted (state_at t.queues q) ≡ true → seen_at t q ≡ None → new ≡ retired q t → Steps t
    (events.Retire q) events.Accepted new
retire-made t new w q deleted drained is =
    let r = retires t q deleted drained in rw is (steps t (retired q t) (events.Retire q) events.Accepted w refl tt (retire-exact t w q r.0 r.1) (settled-retired t w q r.0 r.1))

-- a completion is at its head
pub retire-drained : (t : Tables) (q : ℕ) (e : ComEntry) → passes is_deleted (state_at t.queues q) ≡ true → seen_at t q ≡ Some e → Step (state_of t) (events.Retire q) (events.Refused refusal.NotDrained []) (state_of t)
retire-drained t q e deleted seen =
    host_step t t (events.Retire q) (events.Refused refusal.NotDrained []) refl tt ((rw (in_state-is is_deleted t q ∙ deleted, seen) refl, refl), refl)
