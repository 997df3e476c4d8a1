-- Completions that are reaped.
use Rattle.machine_model.specs.After as a
use Rattle.machine_model.specs.Events as events
use Rattle.machine_model.specs.declared.words.Reaped.TheVariants as found
use Rattle.page_ledger.specs.declared.owner.Owner.TheVariants as owner
use Rattle.host_core.proofs.Lists as lists
use Rattle.std.proofs.Common.{◌≡◌, ℕ, zero, suc, ◌<◌, ◌∷◌, [], Option, Some, None, List, length, map, slice_get, refl, ap, sym, ◌∙◌, subst, true, ◌==◌, Bool, false, if◌then◌else◌, eq-eqb, filter, find, not, slice_set, length-set, arith, ◌⊎◌, inl, inr}
use Rattle.std.proofs.lemmas.{Bool.{true≢false, and_parts, and_right, cases_Bool, cond_both, true_from_ne_false}, List.length-map, Option.slice_get-map}
use Rattle.std.specs.{Option.{option_map_or, option_map}, List.AllByRecursion}
use Rattle.entry_codec.specs.{Status.is_success, declared.{completion.ComEntry.ComEntry, hints.{Hints.Hints, TheConstants.Hints.NONE}, status.{Status.Status, TheConstants.Status.ABORTED_SQ_DELETION}}}
use Rattle.io_commands.specs.Asked.{Request}
use Rattle.machine_model.proofs.Kept.{alone_has_cq, alone_has_no_sq, asked_has_sq}
use Rattle.machine_model.specs.{After.{after_reap, change, held, after_admin, half_freed, half_made, gone, unmade_sq}}
use Rattle.machine_model.specs.Refusals.{refusal_of, seen_entry, is_reaped, creates_cq_of, creates_sq_of, deletes_sq_of, host_queue, is_asked, is_making_cq, is_making_sq, has_cq_alone, has_cq, has_sq}
use Rattle.machine_model.specs.{State.{State, HostQueue, Record, record_at, with_record, is_at, without_record}, Step.{reaped, reaped_as, reaped_entry}}
use Rattle.machine_model.specs.{Work.Work, declared.words.HostState.{HostState, TheVariants.{Live, Gone, MakingCq, HalfMade, MakingSq}}}
use Rattle.machine_model.specs.declared.words.{RejectedFor.RejectedFor, Work.TheVariants.{Io, Management}}
use Rattle.queue_pair.{proofs.Rings.next_below, specs.{Memory.half_pages, Rings.{knowing, next_head}}}
use Rattle.host_core.proofs.{Identifiers.{claim-less, once_of, only-found, sound-of, lent-of, Settled, settled-of}, Granting.in_state-is, Lists.{each-change, length-change}}
use Rattle.host_core.proofs.PageOwners.{OwnsHalf, commands-told, half-listed, half-owned, others-told, owner-stays, given-free}
use Rattle.host_core.proofs.QueueLists.{map-change, settled-turned, settled-with, cq-kept, none-told, settled-as, settled-half_made, settled-state, sq-kept}
use Rattle.host_core.proofs.RowRecords.{Marks, marked-claims, marked-tells, claims_keep_queue, claims_keep_tells, each_claimed}
use Rattle.host_core.specs.{Commands.{passes, state_at, without_claim}, Exact.Exactly, Halves.HasMeant}
use Rattle.host_core.specs.Reaping.{consumed, ended_with, seen_at, with_completion_heard, with_completion_taken, heard, gives_back, meant, over, state_deleted, with_state, without_completion, without_submission}
use Rattle.host_core.specs.{Rows.Queue, Tables.{Tables, state_of, host_queue_of, sq_pages_of, cq_pages_of}}
use Rattle.host_core.specs.Whole.{IsWhole, IsQueue, IsRecord, ClaimsIdentifiers, TellsQueue, FitsWork, IsHost, TellsCommand}
use Rattle.admin_commands.specs.declared.AdminKind.{AdminKind, TheVariants.{Abort, DeleteSq, DeleteCq, CreateCq, CreateSq}}
use Rattle.page_ledger.specs.{Lists.ListsAll, Owners.{free_pages, given_back, is_among, is_half, is_owned_at, pages_from}}
use Rattle.page_memory.specs.declared.page.Half.{Half, TheVariants.{Submission, Completion}}
use Rattle.slot_table.proofs.Rows.{option_is}
use Rattle.page_memory.proofs.Lists.{some_is, all-filter, all-slots, found_any}
use Rattle.machine_model.proofs.Cases.{none_some}
use Rattle.machine_model.proofs.Moves.{making_cq_is, making_sq_is}

-- What a reap finds, and what it leaves, on the tables.

-- The completion that was seen
pub record Sees (t : Tables) (q : ℕ) (x : Queue) (e : ComEntry) : Type 0 where
  pub at : slice_get t.queues q ≡ Some x
  pub live : is_reaped x.state ≡ true
  pub seen : seen_at t q ≡ Some e

-- What the reap answers

pub reaped-empty : (s : State) (q : ℕ) → seen_entry s q ≡ None → reaped s q ≡ found.Empty
reaped-empty s q h = ap (λ (o : Option ComEntry). option_map_or (reaped_entry s q) o found.Empty) h

pub reaped-told : (s : State) (q : ℕ) (e : ComEntry) → seen_entry s q ≡ Some e → reaped s q ≡ reaped_entry s q e
reaped-told s q e h = ap (λ (o : Option ComEntry). option_map_or (reaped_entry s q) o found.Empty) h

pub reap-none : (t : Tables) (q : ℕ) (x : Queue) → slice_get t.queues q ≡ Some x → is_reaped x.state ≡ true → refusal_of (state_of t) (events.Reap q) ≡ None
reap-none t q x at live = rw (slice_get-map host_queue_of t.queues q, at, live) refl

-- What holds of the queue

pub taken-queue : (n q k : ℕ) (x : Queue) → k < x.host.entries → IsQueue n q x → IsQueue n q (with_completion_heard k x)
taken-queue n q k x l is =
    let side = is.host_side in
    record {
      number = is.number;
      entries = is.entries;
      host_side = record { least = side.least; most = side.most; head = next_below x.host.entries x.host.ring.head side.head; known_head = l; tail = side.tail; identifiers = side.identifiers };
    }

-- A rejected completion is consumed

abbrev pub on_head : ℕ → HostQueue → HostQueue
on_head n queue = record queue { ring = next_head n queue.ring }

abbrev pub with_lists : State → List HostQueue → State
with_lists s hs = record s { host = record s.host { queues = hs } }

consumed-host : (t : Tables) → IsWhole t → (q : ℕ) → map host_queue_of (change q with_completion_taken t.queues) ≡ change q (on_head t.entries) (map host_queue_of t.queues)
consumed-host t w q =
    map-change host_queue_of with_completion_taken (on_head t.entries) q t.queues (λ y at. ap (λ (n : ℕ). on_head n (host_queue_of y)) (w.host.rings.each q y at).entries)

pub reject-exact : (t : Tables) → IsWhole t → (q : ℕ) (x : Queue) (e : ComEntry) (why : RejectedFor) → Sees t q x e → reaped_entry (state_of t) q e ≡ found.Rejected why
    → Exactly (state_of t) (events.Reap q) (events.Reaps (found.Rejected why)) (state_of (consumed q t))
reject-exact t w q x e why sees says = (
  reap-none t q x sees.at sees.live,
  sym (reaped-told (state_of t) q e sees.seen ∙ says),
  ap (λ (hs : List HostQueue). with_lists (state_of t) hs) (consumed-host t w q),
)

-- a completion was taken: what holds of the tables by themselves
settled-taken : (t : Tables) → Settled t → (q : ℕ) (f : Queue → Queue) → ((y : Queue) → TellsQueue t.owners q y → TellsQueue t.owners q (f y)) →
    ((y : Queue) → (f y).host.claimed ≡ y.host.claimed)
    → ((y : Queue) → slice_get t.queues q ≡ Some y → IsQueue t.entries q (f y)) → Settled (record t { queues = change q f t.queues })
settled-taken t s q f tells claims is =
    settled-turned t q f t.pages t.owners t.records s
    (record {
      pool = s.pool;
      lent = s.lent;
      queue = is;
      identifiers = s.table.identifiers.each;
      claims = λ y at. subst (ClaimsIdentifiers t.records q) (sym (claims y)) (s.table.identifiers.each q y at);
      others = λ k y _ at. s.table.owners.queues_told k y at;
      own = λ y at. tells y (s.table.owners.queues_told q y at);
      commands = s.table.owners.commands_told;
      records = s.table.records;
    })

pub settled-consumed : (t : Tables) → IsWhole t → (q : ℕ) → Settled (consumed q t)
settled-consumed t w q =
    settled-taken t (settled-of t w) q with_completion_taken (λ y told. record { submission = told.submission; completion = told.completion }) (λ y. refl)
    (λ y at. let is = w.host.rings.each q y at in taken-queue t.entries q y.host.ring.known_head y is.host_side.known_head is)

-- How a command of the caller's ended is held

abbrev pub knowing_head : ℕ → HostQueue → HostQueue
knowing_head k queue = record queue { ring = knowing k queue.ring }

change-twice : {A : Type 0} (f g : A → A) (q : ℕ) (xs : List A) → change q f (change q g xs) ≡ change q (λ x. f (g x)) xs
change-twice f g q [] = refl
change-twice f g zero (x ∷ xs) = refl
change-twice {A = A} f g (suc q) (x ∷ xs) = ap (λ (l : List A). x ∷ l) (change-twice f g q xs)

pub heard-host : (t : Tables) → IsWhole t → (q k : ℕ) → map host_queue_of (change q (with_completion_heard k) t.queues) ≡ change q (knowing_head k) (change q (on_head t.entries) (map host_queue_of t.queues))
heard-host t w q k =
    map-change host_queue_of (with_completion_heard k) (λ (h : HostQueue). knowing_head k (on_head t.entries h)) q t.queues
    (λ y at. ap (λ (n : ℕ). knowing_head k (on_head n (host_queue_of y))) (w.host.rings.each q y at).entries)
    ∙ sym (change-twice (knowing_head k) (on_head t.entries) q (map host_queue_of t.queues))

abbrev pub with_all : State → List HostQueue → List Record → State
with_all s hs rs = record s { host = record s.host { queues = hs; records = rs } }

-- what a completion that ends a command leaves, whatever its end is told as
ends-alike : (s : State) (q : ℕ) (e : ComEntry) → after_reap q (reaped_as q e) s
    ≡ option_map_or (λ r. option_map_or (λ y. a.after_work r.work q e.cid e.status y.hints (a.heard q y s)) (seen_entry s q) s) (record_at s.host q e.cid) s
ends-alike s q e = elim (q == 0) as (λ b. after_reap q (if b then found.AdminDone e.cid e.status e.dw0 else found.Done e.cid e.status) s
    ≡ option_map_or (λ r. option_map_or (λ y. a.after_work r.work q e.cid e.status y.hints (a.heard q y s)) (seen_entry s q) s) (record_at s.host q e.cid) s) [ true ↦ refl | false ↦ refl ]

-- the completion is that of a command of the caller's
pub record EndsIo (t : Tables) (q : ℕ) (e : ComEntry) : Type 0 where
  pub entry : Record
  pub request : Request
  pub was : record_at (state_of t).host q e.cid ≡ Some entry
  pub work : entry.work ≡ Io request
  pub says : reaped_entry (state_of t) q e ≡ reaped_as q e

done-after : (t : Tables) (q : ℕ) (x : Queue) (e : ComEntry) → Sees t q x e → EndsIo t q e
    → after_reap q (reaped_as q e) (state_of t)
    ≡ a.on_records (with_record q e.cid (held e.status e.hints)) (a.on_ring q (knowing e.sqhd) (a.consumed q (state_of t)))
done-after t q x e sees io =
    let s : State = state_of t in
    ends-alike s q e
    ∙ (ap (λ (o : Option Record). option_map_or (λ r. option_map_or (λ y. a.after_work r.work q e.cid e.status y.hints (a.heard q y s)) (seen_entry s q) s) o s) io.was
    ∙ (ap (λ (w : Work). option_map_or (λ y. a.after_work w q e.cid e.status y.hints (a.heard q y s)) (seen_entry s q) s) io.work
    ∙ ap (λ (o : Option ComEntry). option_map_or (λ y. a.on_records (with_record q e.cid (held e.status y.hints)) (a.heard q y s)) o s) sees.seen))

pub done-exact : (t : Tables) → IsWhole t → (q : ℕ) (x : Queue) (e : ComEntry) → Sees t q x e → EndsIo t q e
    → Exactly (state_of t) (events.Reap q) (events.Reaps (reaped_as q e)) (state_of (ended_with q e.sqhd e.cid e.status e.hints t))
done-exact t w q x e sees io = (
  reap-none t q x sees.at sees.live,
  sym (reaped-told (state_of t) q e sees.seen ∙ io.says),
  ap (λ (hs : List HostQueue). with_all (state_of t) hs (with_record q e.cid (held e.status e.hints) t.records)) (heard-host t w q e.sqhd) ∙ sym (done-after t q x e sees io),
)

-- A completion was taken, and how a command of the caller's ended is held: the tables stay whole.

pub settled-heard : (t : Tables) → IsWhole t → (q : ℕ) (x : Queue) (e : ComEntry) → Sees t q x e → e.sqhd < x.host.entries → Settled (heard q e.sqhd t)
settled-heard t w q x e sees below =
    settled-taken t (settled-of t w) q (with_completion_heard e.sqhd) (λ y told. record { submission = told.submission; completion = told.completion }) (λ y. refl)
    (λ y at. let same : x ≡ y = some_is (sym sees.at ∙ at) in taken-queue t.entries q e.sqhd y (subst (λ (z : Queue). e.sqhd < z.host.entries) same below) (w.host.rings.each q y at))

-- The record is held

marks-held : (status : Status) (hints : Hints) → Marks (held status hints)
marks-held status hints = record { at = λ q cid r. refl; tells = λ owners r h. record { data_pages = h.data_pages; chain_pages = h.chain_pages } }

pub work-cases : (w : Work) → ((request : Request) × (w ≡ Io request)) ⊎ ((kind : AdminKind) × (w ≡ Management kind))
work-cases (Io request) = inl (request, refl)
work-cases (Management kind) = inr (kind, refl)

-- a command of the caller's that is held, with its status and hints
held-as : (n : ℕ) (status : Status) (hints : Hints) (r : Record) → (request : Request) × (r.work ≡ Io request) → IsRecord n r → IsRecord n (held status hints r)
held-as n status hints r (request, e) fits =
    let old : FitsWork (Io request) r = subst (λ (v : Work). FitsWork v r) e fits.work in
    record { queue = fits.queue; work = subst (λ (v : Work). FitsWork v (held status hints r)) (sym e) old; phase = rw e tt }

pub held-lost : (n : ℕ) (r : Record) → (request : Request) × (r.work ≡ Io request) → IsRecord n r → IsRecord n (a.aborted r)
held-lost n r io fits = held-as n ABORTED_SQ_DELETION NONE r io fits

-- The one command of a queue under an identifier is the caller's.
abbrev IsIoAt : ℕ → ℕ → Record → Type 0
IsIoAt q cid r = is_at q cid r ≡ true → (request : Request) × (r.work ≡ Io request)

held-records : (n q cid : ℕ) (status : Status) (hints : Hints) (rs : List Record) → AllByRecursion (IsIoAt q cid) rs → AllByRecursion (IsRecord n) rs
    → AllByRecursion (IsRecord n) (with_record q cid (held status hints) rs)
held-records n q cid status hints [] io all = tt
held-records n q cid status hints (r ∷ rs) io all = (
  cond_both (is_at q cid r) _ _ (IsRecord n) (λ at. held-as n status hints r (io.0 at) all.0) (λ _. all.0),
  held-records n q cid status hints rs io.1 all.1,
)

io-there : (t : Tables) → IsWhole t → (q : ℕ) (e : ComEntry) → EndsIo t q e → AllByRecursion (IsIoAt q e.cid) t.records
io-there t w q e io = all-slots (IsIoAt q e.cid) t.records (λ i r here at.
    let same : r ≡ io.entry = some_is (sym (only-found q e.cid t.records i r here at (once_of t w.host q e.cid)) ∙ io.was) in
    (io.request, ap (λ (x : Record). x.work) same ∙ io.work))

pub done-settled : (t : Tables) → IsWhole t → (q : ℕ) (x : Queue) (e : ComEntry) → Sees t q x e → EndsIo t q e → e.sqhd < x.host.entries → Settled
    (ended_with q e.sqhd e.cid e.status e.hints t)
done-settled t w q x e sees io below =
    let u : Tables = heard q e.sqhd t in
    let s : Settled u = settled-heard t w q x e sees below in
    settled-with u u.pages u.owners u.queues (with_record q e.cid (held e.status e.hints) u.records) s
    (record {
      pool = s.pool;
      lent = s.lent;
      many = refl;
      queues = s.rings;
      identifiers = marked-claims (held e.status e.hints) (marks-held e.status e.hints) u.records u.queues q e.cid s.table.identifiers;
      owners = record {
        queues_told = s.table.owners.queues_told;
        commands_told = marked-tells (held e.status e.hints) (marks-held e.status e.hints) u.owners u.records q e.cid s.table.owners.commands_told;
      };
      records = held-records (length u.queues) q e.cid e.status e.hints u.records (io-there t w q e io) s.table.records;
    })

-- One of the host's own was reaped: what its end means, on the tables.

-- a queue whose half is being made, and that owns that half's pages
pub record Makes (u : Tables) (k : ℕ) (half : Half) (state : HostState) : Type 0 where
  pub queue : Queue
  pub at : slice_get u.queues k ≡ Some queue
  pub making : queue.state ≡ state
  pub owns : OwnsHalf u.owners (length u.pages) k half queue

-- What the end of one of the host's own relies on: a queue whose deletion it ends has both halves, and one whose half it gives back owns that half's pages
abbrev pub Means : AdminKind → Tables → Type 0
Means (Abort k cid) u = Unit {0}
Means (DeleteSq k) u = (x : Queue) → slice_get u.queues k ≡ Some x → has_sq x.state ≡ true
Means (DeleteCq k) u = (x : Queue) → slice_get u.queues k ≡ Some x → OwnsHalf u.owners (length u.pages) k Completion x
Means (CreateCq k n base vector) u = Makes u k Completion MakingCq
Means (CreateSq k n base) u = Makes u k Submission MakingSq

-- The machine's state

has-deleted : (status : Status) → has_sq (state_deleted status) ≡ true
has-deleted status = cond_both (is_success status) _ _ (λ state. has_sq state ≡ true) (λ _. refl) (λ _. refl)

abbrev pub with_state_of : HostState → HostQueue → HostQueue
with_state_of state queue = record queue { state = state }

-- a queue that has both its halves, in another state in which it has them
pub state-set : (u : Tables) (k : ℕ) (st : HostState) → has_sq st ≡ true → ((x : Queue) → slice_get u.queues k ≡ Some x → has_sq x.state ≡ true)
    → state_of (record u { queues = change k (with_state st) u.queues }) ≡ a.on_host_queue k (with_state_of st) (state_of u)
state-set u k st new old =
    ap (λ (hs : List HostQueue). with_lists (state_of u) hs)
    (map-change host_queue_of (with_state st) (with_state_of st) k u.queues (λ x at. host-kept x (old x at)))
  where
    with_pages : Queue → List ℕ → List ℕ → HostQueue
    with_pages x sq cq = record { state = st; ring = x.host.ring; sq_pages = sq; cq_pages = cq }

    host-kept : (x : Queue) → has_sq x.state ≡ true → host_queue_of (with_state st x) ≡ with_state_of st (host_queue_of x)
    host-kept x old =
        ap (λ (ps : List ℕ). with_pages x ps (cq_pages_of (with_state st x))) (sq-kept st x new old)
        ∙ ap (λ (ps : List ℕ). with_pages x (sq_pages_of x) ps) (cq-kept st x new old)

-- the completion half

alone-at : (u : Tables) (k : ℕ) → option_map_or (λ (queue : HostQueue). has_cq_alone queue.state) (host_queue (state_of u) k) false ≡ passes has_cq_alone (state_at u.queues k)
alone-at u k = in_state-is has_cq_alone u k

-- a queue that is there, with its completion half alone
pub record IsAlone (u : Tables) (k : ℕ) : Type 0 where
  pub queue : Queue
  pub at : slice_get u.queues k ≡ Some queue
  pub alone : has_cq_alone queue.state ≡ true

passes-at : (u : Tables) (k : ℕ) → passes has_cq_alone (state_at u.queues k) ≡ true → IsAlone u k
passes-at u k h = elim (option_is (slice_get u.queues k)) [
  | inl at ↦ absurd (true≢false (sym (rw at at h)))
  | inr (x, at) ↦ record { queue = x; at = at; alone = rw at at h }
]

pub gives-alone : (u : Tables) (k : ℕ) (status : Status) → gives_back k status u ≡ true → IsAlone u k
gives-alone u k status h = passes-at u k (and_parts (is_success status) (passes has_cq_alone (state_at u.queues k)) h).1

abbrev with_free : Tables → List ℕ → List HostQueue → State
with_free u free hs = record (state_of u) { host = record (state_of u).host { free = free; queues = hs } }

-- a queue gives a half back, and its state changes
freed-state : (u : Tables) (k : ℕ) (half : Half) (state : HostState) (pages : HostQueue → List ℕ) (f : HostQueue → HostQueue) (x : Queue) → length u.owners ≡ length u.pages
    → ((p : ℕ) → p < length u.pages → is_owned_at (is_half k half) u.owners p ≡ is_among (pages (host_queue_of x)) p) → slice_get u.queues k ≡ Some x
    → host_queue_of (with_state state x) ≡ f (host_queue_of x)
    → state_of (record u { owners = given_back (is_half k half) u.owners; queues = change k (with_state state) u.queues }) ≡ half_freed pages f k (state_of u)
freed-state u k half state pages f x size owns at shown =
    ap (λ (hs : List HostQueue). with_free u (free_pages (given_back (is_half k half) u.owners)) hs)
    (map-change host_queue_of (with_state state) f k u.queues (λ y at'. subst (λ (z : Queue). host_queue_of (with_state state z) ≡ f (host_queue_of z)) (some_is (sym at ∙ at')) shown))
    ∙ (ap (λ (free : List ℕ). with_free u free (change k f (map host_queue_of u.queues))) (given-free u.owners (is_half k half) (length u.pages) (pages (host_queue_of x)) (sym size) owns)
    ∙ ap (λ (o : Option HostQueue). option_map_or (λ (queue : HostQueue). a.on_host_queue k f (a.given_back (pages queue) (state_of u))) o (state_of u))
    (sym (slice_get-map host_queue_of u.queues k ∙ ap (option_map host_queue_of) at)))

gone-state : (u : Tables) (k : ℕ) (x : Queue) → length u.owners ≡ length u.pages → OwnsHalf u.owners (length u.pages) k Completion x → slice_get u.queues k ≡ Some x → has_sq x.state ≡ false
    → state_of (without_completion k u) ≡ half_freed (λ (queue : HostQueue). queue.cq_pages) gone k (state_of u)
gone-state u k x size owns at without = freed-state u k Completion Gone (λ queue. queue.cq_pages) gone x size owns at (rw without refl)

-- the submission half of a queue whose creation failed

unmade-state : (u : Tables) (k : ℕ) (x : Queue) → length u.owners ≡ length u.pages → OwnsHalf u.owners (length u.pages) k Submission x → slice_get u.queues k ≡ Some x → x.state ≡ MakingSq
    → state_of (without_submission HalfMade k u) ≡ half_freed (λ (queue : HostQueue). queue.sq_pages) unmade_sq k (state_of u)
unmade-state u k x size owns at making = freed-state u k Submission HalfMade (λ queue. queue.sq_pages) unmade_sq x size owns at (rw making refl)

-- a completion queue that is made
made-state : (u : Tables) (k : ℕ) (x : Queue) → slice_get u.queues k ≡ Some x → x.state ≡ MakingCq
    → state_of (record u { queues = change k (with_state HalfMade) u.queues }) ≡ a.on_host_queue k half_made (state_of u)
made-state u k x at making =
    ap (λ (hs : List HostQueue). with_lists (state_of u) hs)
    (map-change host_queue_of (with_state HalfMade) half_made k u.queues (λ y at'. let is : y.state ≡ MakingCq = subst (λ (z : Queue). z.state ≡ MakingCq)
    (some_is (sym at ∙ at')) making in rw is refl))

making-has : (u : Tables) (k : ℕ) (half : Half) → (m : Makes u k half MakingSq) → (x : Queue) → slice_get u.queues k ≡ Some x → has_sq x.state ≡ true
making-has u k half m x at = subst (λ (z : Queue). has_sq z.state ≡ true) (some_is (sym m.at ∙ at)) (ap has_sq m.making)

pub meant-state : (u : Tables) (kind : AdminKind) (status : Status) → length u.owners ≡ length u.pages → Means kind u → state_of (meant kind status u) ≡ after_admin kind status (state_of u)
meant-state u (Abort k cid) status size m = refl
meant-state u (DeleteSq k) status size m = state-set u k (state_deleted status) (has-deleted status) m
meant-state u (DeleteCq k) status size m = rw (alone-at u k) (elim (cases_Bool (gives_back k status u)) [
  | inl h ↦ let is = gives-alone u k status h in rw h (gone-state u k is.queue size (m is.queue is.at) is.at (alone_has_no_sq is.queue.state is.alone))
  | inr h ↦ rw h refl
])
meant-state u (CreateCq k n base vector) status size m = elim (cases_Bool (is_success status)) [
  | inl h ↦ rw h (made-state u k m.queue m.at m.making)
  | inr h ↦ rw h (gone-state u k m.queue size m.owns m.at (ap has_sq m.making))
]
meant-state u (CreateSq k n base) status size m = elim (cases_Bool (is_success status)) [
  | inl h ↦ rw h (state-set u k Live refl (making-has u k Submission m))
  | inr h ↦ rw h (unmade-state u k m.queue size m.owns m.at m.making)
]

-- The tables

settled-freed : (u : Tables) (k : ℕ) → Settled u → Settled (without_completion k u)
settled-freed u k s =
    settled-as u k Gone (given_back (is_half k Completion) u.owners) s (length-map u.owners _) (λ y at. record { submission = none-told _ _; completion = none-told _ _ })
    (λ j x far at. others-told u.owners k j Completion x far (s.table.owners.queues_told j x at))
    (commands-told u.owners k Completion u.records s.table.owners.commands_told)

making-cq : (u : Tables) (k : ℕ) (half : Half) (st : HostState) → has_cq st ≡ true → Makes u k half st → (x : Queue) → slice_get u.queues k ≡ Some x → has_cq x.state ≡ true
making-cq u k half st has m x at = subst (λ (z : Queue). has_cq z.state ≡ true) (some_is (sym m.at ∙ at)) (ap has_cq m.making ∙ has)

completion-kept : (q : ℕ) → is_half q Submission (owner.Queue q Completion) ≡ false
completion-kept q = and_right (q == q) false refl

settled-unmade : (u : Tables) (k : ℕ) → Settled u → Makes u k Submission MakingSq → Settled (without_submission HalfMade k u)
settled-unmade u k s m =
    settled-half_made u k (given_back (is_half k Submission) u.owners) s (length-map u.owners _) (making-cq u k Submission MakingSq refl m)
    (λ x at p h. owner-stays u.owners (is_half k Submission) p (owner.Queue k Completion) (completion-kept k) ((s.table.owners.queues_told k x at).completion p h))
    (λ j x far at. others-told u.owners k j Submission x far (s.table.owners.queues_told j x at))
    (commands-told u.owners k Submission u.records s.table.owners.commands_told)

pub meant-settled : (u : Tables) (kind : AdminKind) (status : Status) → Settled u → Means kind u → Settled (meant kind status u)
meant-settled u (Abort k cid) status s m = s
meant-settled u (DeleteSq k) status s m = settled-state u k (state_deleted status) s (has-deleted status) m
meant-settled u (DeleteCq k) status s m = cond_both (gives_back k status u) _ _ Settled (λ _. settled-freed u k s) (λ _. s)
meant-settled u (CreateCq k n base vector) status s m =
    cond_both (is_success status) _ _ Settled
    (λ _. settled-half_made u k u.owners s refl (making-cq u k Completion MakingCq refl m) (λ x at. (s.table.owners.queues_told k x at).completion)
    (λ j x far at. s.table.owners.queues_told j x at) s.table.owners.commands_told)
    (λ _. settled-freed u k s)
meant-settled u (CreateSq k n base) status s m =
    cond_both (is_success status) _ _ Settled (λ _. settled-state u k Live s refl (making-has u k Submission m)) (λ _. settled-unmade u k s m)

-- One of the host's own is over

-- the completion is that of one of the host's own
pub record EndsAdmin (t : Tables) (q : ℕ) (kind : AdminKind) (e : ComEntry) : Type 0 where
  pub entry : Record
  pub was : record_at (state_of t).host q e.cid ≡ Some entry
  pub work : entry.work ≡ Management kind
  pub says : reaped_entry (state_of t) q e ≡ reaped_as q e

pub settled-over : (t : Tables) → IsWhole t → (q : ℕ) (x : Queue) (e : ComEntry) (kind : AdminKind) → Sees t q x e → EndsAdmin t q kind e → e.sqhd < x.host.entries → Settled (over q e.sqhd e.cid t)
settled-over t w q x e kind sees ends below =
    let u : Tables = heard q e.sqhd t in
    let s : Settled u = settled-heard t w q x e sees below in
    let less : List Bool → List Bool = λ claimed. slice_set claimed e.cid false in
    settled-with u u.pages u.owners (change q (without_claim e.cid) u.queues) (without_record q e.cid u.records) s
    (record {
      pool = s.pool;
      lent = s.lent;
      many = length-change q (without_claim e.cid) u.queues;
      queues = record { each = each_claimed (IsQueue u.entries) less (claims_keep_queue less (λ bits. length-set bits e.cid false) u.entries) q u.queues s.rings.each };
      identifiers = claim-less u.records u.queues q e.cid s.table.identifiers (found_any (is_at q e.cid) t.records ends.entry ends.was);
      owners = record {
        queues_told = each_claimed (TellsQueue u.owners) less (claims_keep_tells less u.owners) q u.queues s.table.owners.queues_told;
        commands_told = all-filter (TellsCommand u.owners) (λ (r : Record). not (is_at q e.cid r)) u.records s.table.owners.commands_told;
      };
      records = all-filter (IsRecord (length u.queues)) (λ (r : Record). not (is_at q e.cid r)) u.records s.table.records;
    })

-- what the end of one of the host's own relies on is there

-- what each queue has that depends on its state and on its places alone
each-over : (P : ℕ → Queue → Type 0) (q k cid : ℕ) (queues : List Queue) → ((j : ℕ) (y : Queue) → P j y → P j (with_completion_heard k y)) → ((j : ℕ) (y : Queue) → P j y → P j (without_claim cid y))
    → ((j : ℕ) (y : Queue) → slice_get queues j ≡ Some y → P j y) → (j : ℕ) (y : Queue) → slice_get (change q (without_claim cid) (change q (with_completion_heard k) queues)) j ≡ Some y → P j y
each-over P q k cid queues hears frees all =
    let heard-all = each-change P q (with_completion_heard k) queues (λ j y _ at. all j y at) (λ y at. hears q y (all q y at)) in
    each-change P q (without_claim cid) (change q (with_completion_heard k) queues) (λ j y _ at. heard-all j y at) (λ y at. frees q y (heard-all q y at))

found-counts : {A : Type 0} (test p : A → Bool) (xs : List A) (x : A) → find test xs ≡ Some x → p x ≡ true → 0 < length (filter p xs)
found-counts test p [] x h is = absurd (none_some h)
found-counts test p (y ∷ xs) x h is = grind (arith, is, found-counts test p xs x)

asked-at : (t : Tables) → IsWhole t → (q cid k : ℕ) (r : Record) → find (is_at q cid) t.records ≡ Some r → r.work ≡ Management (DeleteSq k) → (x : Queue) → slice_get t.queues k ≡ Some x → is_asked x.state ≡ true
asked-at t w q cid k r was work x at = true_from_ne_false (is_asked x.state) (λ e.
    let deletes : deletes_sq_of k r.work ≡ true = ap (deletes_sq_of k) work ∙ eq-eqb k k refl in
    let count = w.host.sound.deletions k ∙ ap (λ (o : Option HostQueue). if option_map_or (λ (queue : HostQueue). is_asked queue.state) o false then 1 else 0)
    (slice_get-map host_queue_of t.queues k ∙ ap (option_map host_queue_of) at) in
    omega (arith, found-counts (is_at q cid) (λ (s : Record). deletes_sq_of k s.work) t.records r was deletes, count, ap {B = ℕ} (λ (b : Bool). if b then 1 else 0) e))

-- one that is being made, where its creation is outstanding
made-at : (t : Tables) → (p : ℕ → Work → Bool) (test : HostState → Bool) (q cid k : ℕ) (r : Record)
    → length (filter (λ (s : Record). p k s.work) t.records) ≡ (if option_map_or (λ (queue : HostQueue). test queue.state) (slice_get (map host_queue_of t.queues) k) false then 1 else 0)
    → find (is_at q cid) t.records ≡ Some r → p k r.work ≡ true → (x : Queue) × (slice_get t.queues k ≡ Some x) × (test x.state ≡ true)
made-at t p test q cid k r count was is = elim (option_is (slice_get t.queues k)) [
  | inl none ↦ absurd (omega (arith, some, told None none))
  | inr (x, at) ↦ (x, at, true_from_ne_false (test x.state) (λ e. omega (arith, some, told (Some x) at, ap {B = ℕ} (λ (b : Bool). if b then 1 else 0) e)))
]
  where
    some : 0 < length (filter (λ (s : Record). p k s.work) t.records)
    some = found-counts (is_at q cid) (λ (s : Record). p k s.work) t.records r was is

    told : (o : Option Queue) → slice_get t.queues k ≡ o → length (filter (λ (s : Record). p k s.work) t.records) ≡ (if option_map_or (λ (queue : HostQueue). test queue.state) (option_map host_queue_of o) false then 1 else 0)
    told o at = count ∙ ap (λ (h : Option HostQueue). if option_map_or (λ (queue : HostQueue). test queue.state) h false then 1 else 0) (slice_get-map host_queue_of t.queues k ∙ ap (option_map host_queue_of) at)

-- a queue is still there, in its state, once a completion was reaped and a claim given up
kept-change : (f : Queue → Queue) → ((y : Queue) → (f y).state ≡ y.state) → (q k : ℕ) (queues : List Queue) (x : Queue) → slice_get queues k ≡ Some x
    → (y : Queue) × (slice_get (change q f queues) k ≡ Some y) × (y.state ≡ x.state)
kept-change f same q k [] x at = cc
kept-change f same zero zero (z ∷ queues) x at = (f z, refl, same z ∙ ap (λ (y : Queue). y.state) (some_is at))
kept-change f same zero (suc k) (z ∷ queues) x at = (x, at, refl)
kept-change f same (suc q) zero (z ∷ queues) x at = (z, refl, ap (λ (y : Queue). y.state) (some_is at))
kept-change f same (suc q) (suc k) (z ∷ queues) x at = kept-change f same q k queues x at

over-there : (t : Tables) (q : ℕ) (e : ComEntry) (k : ℕ) (x : Queue) → slice_get t.queues k ≡ Some x → (y : Queue) × (slice_get (over q e.sqhd e.cid t).queues k ≡ Some y) × (y.state ≡ x.state)
over-there t q e k x at =
    let a = kept-change (with_completion_heard e.sqhd) (λ y. refl) q k t.queues x at in
    let b = kept-change (without_claim e.cid) (λ y. refl) q k (change q (with_completion_heard e.sqhd) t.queues) a.0 a.1 in
    (b.0, b.1, b.2 ∙ a.2)

-- and the pages of its halves
over-owns : (t : Tables) → IsWhole t → (q : ℕ) (e : ComEntry) (k : ℕ) (half : Half) (y : Queue) → slice_get (over q e.sqhd e.cid t).queues k ≡ Some y → OwnsHalf t.owners
    (length t.pages) k half y
over-owns t w q e k Submission y at =
    each-over (λ (j : ℕ) (y : Queue). OwnsHalf t.owners (length t.pages) j Submission y) q e.sqhd e.cid t.queues (λ j y h. h) (λ j y h. h)
    (λ j z at. half-owned t (length t.pages) (sound-of t w).owners w.host.table.owners j Submission z at) k y at
over-owns t w q e k Completion y at =
    each-over (λ (j : ℕ) (y : Queue). OwnsHalf t.owners (length t.pages) j Completion y) q e.sqhd e.cid t.queues (λ j y h. h) (λ j y h. h)
    (λ j z at. half-owned t (length t.pages) (sound-of t w).owners w.host.table.owners j Completion z at) k y at

over-makes : (t : Tables) → IsWhole t → (q : ℕ) (e : ComEntry) (k : ℕ) (half : Half) (st : HostState) (x : Queue) → slice_get t.queues k ≡ Some x → x.state ≡ st → Makes (over q e.sqhd e.cid t) k half st
over-makes t w q e k half st x at is =
    let there = over-there t q e k x at in record { queue = there.0; at = there.1; making = there.2 ∙ is; owns = over-owns t w q e k half there.0 there.1 }

pub over-means : (t : Tables) → IsWhole t → (q : ℕ) (e : ComEntry) (kind : AdminKind) → EndsAdmin t q kind e → Means kind (over q e.sqhd e.cid t)
over-means t w q e (Abort k cid) ends = tt
over-means t w q e (DeleteSq k) ends =
    λ x at. each-over (λ (j : ℕ) (y : Queue). k ≡ j → has_sq y.state ≡ true) q e.sqhd e.cid t.queues (λ j y h. h) (λ j y h. h)
    (λ j y at' same. asked_has_sq y.state (asked-at t w q e.cid k ends.entry ends.was ends.work y (subst (λ (i : ℕ). slice_get t.queues i ≡ Some y) (sym same) at'))) k x at refl
over-means t w q e (DeleteCq k) ends = λ x at. over-owns t w q e k Completion x at
over-means t w q e (CreateCq k n base vector) ends =
    let is = made-at t creates_cq_of is_making_cq q e.cid k ends.entry (w.host.sound.creations k).0 ends.was (ap (creates_cq_of k) ends.work ∙ eq-eqb k k refl) in
    over-makes t w q e k Completion MakingCq is.0 is.1 (making_cq_is is.0.state is.2)
over-means t w q e (CreateSq k n base) ends =
    let is = made-at t creates_sq_of is_making_sq q e.cid k ends.entry (w.host.sound.creations k).1 ends.was (ap (creates_sq_of k) ends.work ∙ eq-eqb k k refl) in
    over-makes t w q e k Submission MakingSq is.0 is.1 (making_sq_is is.0.state is.2)

pub over-has : (t : Tables) → IsHost t → (q : ℕ) (e : ComEntry) (kind : AdminKind) → (entry : Record) → find (is_at q e.cid) t.records ≡ Some entry → entry.work ≡ Management kind → HasMeant kind (over q e.sqhd e.cid t)
over-has t h q e (Abort k cid) entry was work = tt
over-has t h q e (DeleteSq k) entry was work = tt
over-has t h q e (DeleteCq k) entry was work = λ alone.
    let is = passes-at (over q e.sqhd e.cid t) k alone in
    let lists = each-over (λ (j : ℕ) (y : Queue). has_cq_alone y.state ≡ true → ListsAll (is_half j Completion) t.owners (pages_from y.host.cq (half_pages t.entries Completion))) q e.sqhd e.cid t.queues
    (λ j y f. f) (λ j y f. f) (λ j y at r. half-listed t h j Completion y at (alone_has_cq y.state r)) in
    record { queue = is.queue; at = is.at; lists = lists k is.queue is.at is.alone }
over-has t h q e (CreateCq k n base vector) entry was work =
    let is = made-at t creates_cq_of is_making_cq q e.cid k entry (h.sound.creations k).0 was (ap (creates_cq_of k) work ∙ eq-eqb k k refl) in
    let there = over-there t q e k is.0 is.1 in
    let lists = each-over (λ (j : ℕ) (y : Queue). y.state ≡ MakingCq → ListsAll (is_half j Completion) t.owners (pages_from y.host.cq (half_pages t.entries Completion))) q e.sqhd e.cid t.queues
    (λ j y f. f) (λ j y f. f) (λ j y at r. half-listed t h j Completion y at (ap has_cq r)) in
    record { queue = there.0; at = there.1; lists = lists k there.0 there.1 (there.2 ∙ making_cq_is is.0.state is.2) }
over-has t h q e (CreateSq k n base) entry was work =
    let is = made-at t creates_sq_of is_making_sq q e.cid k entry (h.sound.creations k).1 was (ap (creates_sq_of k) work ∙ eq-eqb k k refl) in
    let there = over-there t q e k is.0 is.1 in
    let lists = each-over (λ (j : ℕ) (y : Queue). y.state ≡ MakingSq → ListsAll (is_half j Submission) t.owners (pages_from y.host.sq (half_pages t.entries Submission))) q e.sqhd e.cid t.queues
    (λ j y f. f) (λ j y f. f) (λ j y at r. half-listed t h j Submission y at (ap has_sq r)) in
    record { queue = there.0; at = there.1; lists = lists k there.0 there.1 (there.2 ∙ making_sq_is is.0.state is.2) }

-- The machine's state once it is over

abbrev ended_state : ℕ → ComEntry → State → State
ended_state q e s = a.on_records (without_record q e.cid) (a.on_ring q (knowing e.sqhd) (a.consumed q s))

over-host : (t : Tables) → IsWhole t → (q k cid : ℕ) → map host_queue_of (change q (without_claim cid) (change q (with_completion_heard k) t.queues)) ≡ change q (knowing_head k) (change q (on_head t.entries) (map host_queue_of t.queues))
over-host t w q k cid = lists.map-change host_queue_of (without_claim cid) (λ y. refl) q (change q (with_completion_heard k) t.queues) ∙ heard-host t w q k

over-exact : (t : Tables) → IsWhole t → (q : ℕ) (e : ComEntry) → state_of (over q e.sqhd e.cid t) ≡ ended_state q e (state_of t)
over-exact t w q e = ap (λ (hs : List HostQueue). with_all (state_of t) hs (without_record q e.cid t.records)) (over-host t w q e.sqhd e.cid)

admin-after : (t : Tables) (q : ℕ) (x : Queue) (e : ComEntry) (kind : AdminKind) → Sees t q x e → EndsAdmin t q kind e
    → after_reap q (reaped_as q e) (state_of t) ≡ after_admin kind e.status (ended_state q e (state_of t))
admin-after t q x e kind sees ends =
    let s : State = state_of t in
    ends-alike s q e
    ∙ (ap (λ (o : Option Record). option_map_or (λ r. option_map_or (λ y. a.after_work r.work q e.cid e.status y.hints (a.heard q y s)) (seen_entry s q) s) o s) ends.was
    ∙ (ap (λ (v : Work). option_map_or (λ y. a.after_work v q e.cid e.status y.hints (a.heard q y s)) (seen_entry s q) s) ends.work
    ∙ ap (λ (o : Option ComEntry). option_map_or (λ y. after_admin kind e.status (a.on_records (without_record q e.cid) (a.heard q y s))) o s) sees.seen))

-- What is reaped

abbrev pub ended_admin : ℕ → AdminKind → ComEntry → Tables → Tables
ended_admin q kind e t = meant kind e.status (over q e.sqhd e.cid t)

pub admin-exact : (t : Tables) → IsWhole t → (q : ℕ) (x : Queue) (e : ComEntry) (kind : AdminKind) → Sees t q x e → EndsAdmin t q kind e
    → Exactly (state_of t) (events.Reap q) (events.Reaps (reaped_as q e)) (state_of (ended_admin q kind e t))
admin-exact t w q x e kind sees ends = (
  reap-none t q x sees.at sees.live,
  sym (reaped-told (state_of t) q e sees.seen ∙ ends.says),
  meant-state (over q e.sqhd e.cid t) kind e.status (lent-of t w) (over-means t w q e kind ends)
      ∙ (ap (after_admin kind e.status) (over-exact t w q e) ∙ sym (admin-after t q x e kind sees ends)),
)

pub admin-settled : (t : Tables) → IsWhole t → (q : ℕ) (x : Queue) (e : ComEntry) (kind : AdminKind) → Sees t q x e → EndsAdmin t q kind e → e.sqhd < x.host.entries → Settled
    (ended_admin q kind e t)
admin-settled t w q x e kind sees ends below =
    meant-settled (over q e.sqhd e.cid t) kind e.status (settled-over t w q x e kind sees ends below) (over-means t w q e kind ends)
