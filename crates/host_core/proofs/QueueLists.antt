-- Queues, their slots and the entries in them.
use Rattle.machine_model.specs.Events as events
use Rattle.page_ledger.specs.declared.owner.Owner.TheVariants as owner
use Rattle.machine_model.specs.After as a
use Rattle.std.proofs.Common.{◌≡◌, ℕ, zero, suc, Bool, true, false, not, ◌&&◌, ◌||◌, List, [], ◌∷◌, length, MatchBool, refl, ap, ◌≢◌, ◌+◌, ◌<◌, ◌≤◌, Some, IsSome, ◌++◌, map, slice_get, slice_set, get_or, sym, ◌∙◌, subst, arith, ◌==◌, ◌*◌, ◌/◌, ◌%◌, Option, None, take, drop, length-set, length-append, ◌-◌, if◌then◌else◌, inl, inr}
use Rattle.std.proofs.lemmas.Bool.{and_right, false_from_ne_true, not-false, not-true, or_from}
use Rattle.std.proofs.lemmas.{List.{length-take-le, length-drop, Folds.list_any-append}, Option.{slice_get_within, slice_get-map}}
use Rattle.std.specs.{List.{AllByRecursion, list_any}, Option.{option_and_then, option_map, option_map_or}, Prelude.{slice_index, slice_range}}
use Rattle.machine_model.{proofs.{Headline.steps_keep, Kept.{reaped_has_cq, sq_with_cq}}, specs.{After.{after, change}, Claims.{is_away}}}
use Rattle.machine_model.specs.{Events.{Event, Reply}, Memory.is_in, Proper.IsProper}
use Rattle.machine_model.specs.Refusals.{has_cq, has_sq, slot_page, slot_offset, host_queue, in_state, seen_entry, slot_bytes, slot_entry, is_reaped}
use Rattle.machine_model.specs.State.{State, Record, pages_of, Controller, HostQueue, ServedQueue}
use Rattle.machine_model.specs.Step.{Step, IsController, KeepsController, forges, resets, LeavesByController, LeavesByHost, host_part}
use Rattle.machine_model.specs.declared.words.HostState.{HostState, TheVariants.{HalfMade}}
use Rattle.host_core.proofs.{Lists.{change-at-lists as change-at, each-change, get-at, length-change}, Identifiers.{sound-of, lent-of, Settled, whole-of}, PageOwners.among-from}
use Rattle.host_core.specs.{Alone.alone, Exact.Exactly, Looks.completion_base, Posting.{with_tail_moved, tail_place, posted, CanPost}}
use Rattle.host_core.specs.{Reaping.{IsCompletionSlot, lacks_completion, with_state}, Rows.Queue}
use Rattle.host_core.specs.Tables.{Tables, state_of, host_queue_of, sq_pages_of, view_of, cq_pages_of}
use Rattle.host_core.specs.Whole.{IsWhole, HasLimits, IsTable, TellsCommand, HaveOwner, IsQueue, AreQueues, IsRecord, ClaimIdentifiers, ClaimsIdentifiers, OwnersTell, TellsQueue}
use Rattle.page_ledger.specs.{Owners.{is_among, owner_at, pages_from}, declared.owner.Owner.Owner}
use Rattle.page_memory.{proofs.Bytes.{bytes_within, told, told as same_pool, byte_at-with_page_bytes}, specs.Memory.{written, bytes_at, Memory}}
use Rattle.page_memory.specs.{Pages.{byte_at, page_at, Pages, with_bytes, with_page_bytes, AreWhole, IsPool}, declared.page.Half.Half}
use Rattle.page_memory.specs.declared.page.Half.TheVariants.{Submission, Completion}
use Rattle.queue_pair.{proofs.{Halves.{pages_in, submission_there, completion_there}, Rings.next_below}, specs.Halves.IsIn}
use Rattle.queue_pair.specs.Memory.{half_pages, completion_place, submission_place, submission_slot, completion_slot, new_completion_at, with_phase}
use Rattle.queue_pair.specs.{Rings.{HostSide, next_tail}, Slots.is_full}
use Rattle.entry_codec.specs.{Completion.completion_of, Submission.{command_words, submission_bytes}, declared.completion.ComEntry.ComEntry}
use Rattle.entry_codec.specs.declared.submission.SubEntry.{SubEntry}
use Rattle.slot_table.proofs.Rows.{option_is}
use Rattle.page_memory.proofs.Lists.{then-map}

-- What a call of the host answers and leaves exactly is a step of the host.

surely : (A B : Type 0) (c : Bool) → c ≡ false → A → MatchBool (not c) A B
surely A B c e h = rw e h

leaves : (r f c : Bool) (s next new : State) → c ≡ false → new ≡ next → KeepsController s new
    → MatchBool (r || (not f && false)) (new ≡ next) (MatchBool c (LeavesByController s next new) (LeavesByHost s next new))
leaves true f c s next new e h k = h
leaves false true c s next new e h k = rw e (record { part = ap host_part h; memory = ap (λ (y : State). y.memory) h; controller = k })
leaves false false c s next new e h k = rw e (record { part = ap host_part h; memory = ap (λ (y : State). y.memory) h; controller = k })

keeps : (t new : Tables) → KeepsController (state_of t) (state_of new)
keeps t new = record { image = refl; queues = refl }

pub host_step : (t new : Tables) (e : Event) (reply : Reply) → IsController e ≡ false → IsProper e → Exactly (state_of t) e reply (state_of new) → Step (state_of t) e reply (state_of new)
host_step t new e (events.Refused why touched) c p h = (p, surely _ _ (IsController e) c h.0, h.1)
host_step t new e reply c p h =
    (p, surely _ _ (IsController e) c (h.0, h.1), leaves (resets e) (forges e) (IsController e) (state_of t) (after (state_of t) e reply) (state_of new) c h.2 (keeps t new))

-- Queues in a list, and what the rings of one show.

pub map-change : {A B : Type 0} (seen : A → B) (f : A → A) (g : B → B) (q : ℕ) (xs : List A)
    → ((x : A) → slice_get xs q ≡ Some x → seen (f x) ≡ g (seen x)) → map seen (change q f xs) ≡ change q g (map seen xs)
map-change seen f g q [] one = refl
map-change seen f g zero (x ∷ xs) one = ap (λ y. y ∷ map seen xs) (one x refl)
map-change seen f g (suc q) (x ∷ xs) one = ap (λ l. seen x ∷ l) (map-change seen f g q xs one)

-- Pages of queues are in

-- no command's page is this one
not-among : (owners : List Owner) (q : ℕ) (half : Half) (p : ℕ) → owner_at owners p ≡ Some (owner.Queue q half) → (o : Owner) → (o ≡ owner.Queue q half → ⊥) → (pages : List ℕ) → HaveOwner owners o pages
    → is_among pages p ≡ false
not-among owners q half p mine o differs pages h = false_from_ne_true (is_among pages p) (λ e. let same : Some o ≡ Some (owner.Queue q half) = sym (h p e) ∙ mine in differs (cc))

none-away : (owners : List Owner) (q : ℕ) (half : Half) (p : ℕ) → owner_at owners p ≡ Some (owner.Queue q half) → (rs : List Record) → AllByRecursion (TellsCommand owners) rs
    → list_any (λ r. is_away r && is_among (pages_of r) p) rs ≡ false
none-away owners q half p mine [] h = refl
none-away owners q half p mine (r ∷ rs) h =
    let no_data = not-among owners q half p mine _ (λ e. cc) r.data_pages h.0.data_pages in
    let no_chain = not-among owners q half p mine _ (λ e. cc) r.chain_pages h.0.chain_pages in
    rw (list_any-append (λ k. k == p) r.data_pages r.chain_pages, no_data, no_chain) (or_from (is_away r && false) _ (and_right (is_away r) false refl) (none-away owners q half p mine rs h.1))

pub queue_page-in : (t : Tables) → IsWhole t → (q : ℕ) (half : Half) (p : ℕ) → owner_at t.owners p ≡ Some (owner.Queue q half) → is_in t.pages p ≡ true
queue_page-in t w q half p mine =
    let inside : p < length t.pages = subst (λ (n : ℕ). p < n) (lent-of t w) (slice_get_within t.owners p _ mine) in
    w.over.out p inside ∙ ap not (none-away t.owners q half p mine t.records w.host.table.owners.commands_told)

pub queue-at : (t : Tables) (q i : ℕ) (x : Queue) → q < length t.queues → i ≡ q → x ≡ get_or t.queues i x → slice_get t.queues q ≡ Some x
queue-at t q i x l e at = get-at q t.queues x l (subst (λ (k : ℕ). x ≡ get_or t.queues k x) e at)

-- a page of a queue's completion half is in
pub completion_page-in : (t : Tables) → IsWhole t → (q : ℕ) (queue : Queue) → slice_get t.queues q ≡ Some queue → has_cq queue.state ≡ true
    → (k : ℕ) → k < half_pages queue.host.entries Completion → IsSome (page_at t.pages (queue.host.cq + k))
completion_page-in t w q queue at live k l =
    queue_page-in t w q Completion (queue.host.cq + k)
    ((w.host.table.owners.queues_told q queue at).completion (queue.host.cq + k) (rw live (among-from queue.host.cq (half_pages queue.host.entries Completion) k l)))

pub completion-in : (t : Tables) → IsWhole t → (q : ℕ) (queue : Queue) → slice_get t.queues q ≡ Some queue → has_cq queue.state ≡ true
    → IsIn (byte_at t.pages) queue.host.cq (half_pages queue.host.entries Completion)
completion-in t w q queue at live = pages_in t.pages queue.host.cq (half_pages queue.host.entries Completion) w.over.pool.whole (completion_page-in t w q queue at live)

pub submission-owner : (t : Tables) → IsWhole t → (q : ℕ) (queue : Queue) → slice_get t.queues q ≡ Some queue → has_sq queue.state ≡ true
    → (k : ℕ) → k < half_pages queue.host.entries Submission → owner_at t.owners (queue.host.sq + k) ≡ Some (owner.Queue q Submission)
submission-owner t w q queue at live k l = (w.host.table.owners.queues_told q queue at).submission (queue.host.sq + k)
    (rw live (among-from queue.host.sq (half_pages queue.host.entries Submission) k l))

pub submission_page-in : (t : Tables) → IsWhole t → (q : ℕ) (queue : Queue) → slice_get t.queues q ≡ Some queue → has_sq queue.state ≡ true
    → (k : ℕ) → k < half_pages queue.host.entries Submission → IsSome (page_at t.pages (queue.host.sq + k))
submission_page-in t w q queue at live k l = queue_page-in t w q Submission (queue.host.sq + k) (submission-owner t w q queue at live k l)

-- a queue that was written where another was
pub queue-written : (t : Tables) (f : Queue → Queue) (q i : ℕ) (x y : Queue) → q < length t.queues → i ≡ q → x ≡ get_or t.queues i x → y ≡ f x
    → record t { queues = slice_set t.queues i y } ≡ record t { queues = change q f t.queues }
queue-written t f q i x y l e at is =
    ap (λ (qs : List Queue). record t { queues = qs })
    (change-at i f t.queues x y (subst (λ (k : ℕ). k < length t.queues) (sym e) l) at is ∙ ap (λ (k : ℕ). change k f t.queues) e)

-- Bytes of a slot, in memory.

-- Bytes of one page

pub length-with_bytes : (page : List ℕ) (at : ℕ) (new : List ℕ) → at + length new ≤ length page → length (with_bytes page at new) ≡ length page
length-with_bytes page at new fits =
    length-append (take at page ++ new) (drop (at + length new) page)
    ∙ omega (arith, length-take-le at page (omega (arith, fits)), length-append (take at page) new, length-drop (at + length new) page, fits)

whole-set : (pages : Pages) (p : ℕ) (page : List ℕ) → length page ≡ 4096 → AreWhole pages → AreWhole (slice_set pages p (Some page))
whole-set [] p page l w r = w r
whole-set (x ∷ xs) zero page l w zero = l
whole-set (x ∷ xs) zero page l w (suc r) = w (suc r)
whole-set (x ∷ xs) (suc p) page l w zero = w zero
whole-set (x ∷ xs) (suc p) page l w (suc r) = whole-set xs p page l (λ k. w (suc k)) r

pub pool-with_bytes : (pages : Pages) (p at : ℕ) (new : List ℕ) → IsSome (page_at pages p) → at + length new ≤ 4096 → IsPool pages → IsPool (with_page_bytes pages p at new)
pool-with_bytes pages p at new there fits pool = elim (option_is (page_at pages p)) [
  | inl e ↦ absurd (let no : false ≡ true = rw e at there in cc)
  | inr (page, e) ↦
      let size : length page ≡ 4096 = rw e at (pool.whole p) in
      rw e (record {
        few = subst (λ (n : ℕ). n ≤ 65536) (sym (length-set pages p _)) pool.few;
        whole = whole-set pages p (with_bytes page at new) (length-with_bytes page at new (omega (arith, size, fits)) ∙ size) pool.whole;
      })
]

-- a pool that shows the bytes written is the pool with them in that page
pub page-written : (old new : Pages) (p at : ℕ) (bytes : List ℕ) → IsSome (page_at old p) → at + length bytes ≤ 4096 → IsPool old → AreWhole new → length new ≡ length old
    → byte_at new ≡ written (byte_at old) (4096 * p + at) bytes → new ≡ with_page_bytes old p at bytes
page-written old new p at bytes there fits pool whole size e = elim (option_is (page_at old p)) [
  | inl f ↦ absurd (let no : false ≡ true = rw f at there in cc)
  | inr (page, f) ↦
      told new (with_page_bytes old p at bytes) whole (pool-with_bytes old p at bytes there fits pool).whole (size ∙ sym (length-set old p _))
      (λ place. ap (λ (m : ℕ → Option ℕ). m place) (e ∙ sym (byte_at-with_page_bytes old p at bytes page f (rw f at (pool.whole p)) fits)))
]

-- Where a completion slot lies

pub index-from : (n b k : ℕ) → k < n → slice_index (pages_from b n) k ≡ b + k
index-from zero b k l = absurd (omega arith)
index-from (suc n) b zero l = omega arith
index-from (suc n) b (suc k) l = index-from n (b + 1) k (omega arith) ∙ omega arith

pub completion-page : (n cq slot : ℕ) → slot < n → slot_page (pages_from cq (half_pages n Completion)) 16 slot ≡ completion_place cq slot / 4096
completion-page n cq slot l = index-from (half_pages n Completion) cq (slot * 16 / 4096) (omega (arith, l)) ∙ omega arith

pub completion-fits : (cq slot : ℕ) → completion_place cq slot % 4096 + 16 ≤ 4096
completion-fits cq slot = omega arith

pub slot-in : (t : Tables) → IsWhole t → (q slot place : ℕ) → IsCompletionSlot t q slot place → IsSome (page_at t.pages (place / 4096))
slot-in t w q slot place s =
    let n : s.queue.host.entries ≡ t.entries = (w.host.rings.each q s.queue s.at).entries in
    let l : slot / 256 < half_pages s.queue.host.entries Completion = omega (arith, n, s.below) in
    subst (λ (p : ℕ). IsSome (page_at t.pages p)) (omega (arith, s.there))
    (completion_page-in t w q s.queue s.at (reaped_has_cq s.queue.state s.live) (slot / 256) l)

-- What a write to memory tells

pub place-parts : (place : ℕ) → 4096 * (place / 4096) + place % 4096 ≡ place
place-parts place = omega arith

-- what a pool shows once bytes are written in a page that is in
pub place-written : (pages : Pages) (place : ℕ) (bytes : List ℕ) → IsSome (page_at pages (place / 4096)) → place % 4096 + length bytes ≤ 4096 → IsPool pages
    → byte_at (with_page_bytes pages (place / 4096) (place % 4096) bytes) ≡ written (byte_at pages) place bytes
place-written pages place bytes there fits pool = elim (option_is (page_at pages (place / 4096))) [
  | inl f ↦ absurd (let no : false ≡ true = rw f at there in cc)
  | inr (page, f) ↦
      byte_at-with_page_bytes pages (place / 4096) (place % 4096) bytes page f (rw f at (pool.whole (place / 4096))) fits ∙ ap (λ (p : ℕ). written (byte_at pages) p bytes)
      (place-parts place)
]

-- The host posts an entry: it is the machine's.

-- Where the slot lies

submission-page : (n sq slot : ℕ) → slot < n → slot_page (pages_from sq (half_pages n Submission)) 64 slot ≡ submission_place sq slot / 4096
submission-page n sq slot l = index-from (half_pages n Submission) sq (slot * 64 / 4096) (omega (arith, l)) ∙ omega arith

tail-inside : (t : Tables) (q : ℕ) (x : Queue) (entry : SubEntry) → CanPost t q x entry → x.host.ring.tail < x.host.entries
tail-inside t q x entry c = (c.queues.each q x c.at).host_side.tail

pub tail-in : (t : Tables) (q : ℕ) (x : Queue) (entry : SubEntry) → CanPost t q x entry → IsSome (page_at t.pages (tail_place x / 4096))
tail-in t q x entry c =
    let l : x.host.ring.tail / 64 < half_pages x.host.entries Submission = omega (arith, tail-inside t q x entry c) in
    subst (λ (p : ℕ). IsSome (page_at t.pages p)) (omega arith) (c.inside (x.host.ring.tail / 64) l)

pub tail-fits : (x : Queue) → tail_place x % 4096 + 64 ≤ 4096
tail-fits x = omega arith

-- What is written

pub submission_length : (entry : SubEntry) → length entry.sgl1 ≡ 16 → length (submission_bytes entry) ≡ 64
unfolding submission_bytes
submission_length entry count = omega (arith, length-append entry.sgl1 (command_words entry), count)

-- The host's part

abbrev on_pages : State → Pages → State
on_pages s pages = record s { memory = pages }

abbrev shown : State → Pages → List HostQueue → Controller → State
shown s pages queues controller = record s { memory = pages; host = record s.host { queues = queues }; controller = controller }

-- the machine writes the same bytes
pub host-at : (t : Tables) (q : ℕ) (x : Queue) → slice_get t.queues q ≡ Some x → host_queue (state_of t) q ≡ Some (host_queue_of x)
host-at t q x at = slice_get-map host_queue_of t.queues q ∙ ap (option_map host_queue_of) at

bytes-posted : (t : Tables) (q : ℕ) (x : Queue) (entry : SubEntry) → CanPost t q x entry
    → option_map_or (λ queue. a.on_memory (λ m. with_page_bytes m (slot_page queue.sq_pages 64 queue.ring.tail) (slot_offset 64 queue.ring.tail) (submission_bytes entry)) (state_of t)) (host_queue (state_of t) q) (state_of t)
    ≡ on_pages (state_of t) (posted q x entry t).pages
bytes-posted t q x entry c =
    let seen = host-at t q x c.at in
    let pages : sq_pages_of x ≡ pages_from x.host.sq (half_pages x.host.entries Submission) = rw c.kept refl in
    let page : slot_page (sq_pages_of x) 64 x.host.ring.tail ≡ tail_place x / 4096 = ap (λ (ps : List ℕ). slot_page ps 64 x.host.ring.tail) pages
    ∙ submission-page x.host.entries x.host.sq x.host.ring.tail (tail-inside t q x entry c) in
    let offset : slot_offset 64 x.host.ring.tail ≡ tail_place x % 4096 = omega arith in
    ap (λ (o : Option HostQueue). option_map_or (λ queue. on_pages (state_of t) (with_page_bytes t.pages (slot_page queue.sq_pages 64 queue.ring.tail) (slot_offset 64 queue.ring.tail) (submission_bytes entry))) o (state_of t)) seen
    ∙ (ap (λ (p : ℕ). on_pages (state_of t) (with_page_bytes t.pages p (slot_offset 64 x.host.ring.tail) (submission_bytes entry))) page
    ∙ ap (λ (k : ℕ). on_pages (state_of t) (with_page_bytes t.pages (tail_place x / 4096) k (submission_bytes entry))) offset)

abbrev moved_on : ℕ → HostQueue → HostQueue
moved_on n queue = record queue { ring = next_tail n queue.ring }

abbrev with_entry : SubEntry → ServedQueue → ServedQueue
with_entry entry at = record at { unfetched = at.unfetched ++ entry ∷ [] }

queues-posted : (t : Tables) (q : ℕ) (x : Queue) (entry : SubEntry) → CanPost t q x entry
    → map host_queue_of (change q with_tail_moved t.queues) ≡ change q (moved_on t.entries) (map host_queue_of t.queues)
queues-posted t q x entry c =
    map-change host_queue_of with_tail_moved (moved_on t.entries) q t.queues
    (λ y at. ap (λ (k : ℕ). moved_on k (host_queue_of y)) (c.queues.each q y at).entries)

pub posted-exact : (t : Tables) (q : ℕ) (x : Queue) (entry : SubEntry) → CanPost t q x entry → state_of (posted q x entry t) ≡ a.posted q entry (state_of t)
posted-exact t q x entry c =
    ap (λ (hs : List HostQueue). shown (state_of t) (posted q x entry t).pages hs (state_of (posted q x entry t)).controller) (queues-posted t q x entry c)
    ∙ ap (λ (z : State). a.on_ring q (next_tail t.entries) (a.on_served_queue q (with_entry entry) z)) (sym (bytes-posted t q x entry c))

pub posted-queue : (n q : ℕ) (x : Queue) → IsQueue n q x → IsQueue n q (with_tail_moved x)
posted-queue n q x is =
    record {
      number = is.number;
      entries = is.entries;
      host_side = record {
        least = is.host_side.least;
        most = is.host_side.most;
        head = is.host_side.head;
        known_head = is.host_side.known_head;
        tail = next_below x.host.entries x.host.ring.tail is.host_side.tail;
        identifiers = is.host_side.identifiers;
      };
    }

-- as the code tells it

pub post-there : (t : Tables) (seen : Pages) (q : ℕ) (x : Queue) (entry : SubEntry) → CanPost t q x entry → byte_at seen ≡ byte_at t.pages → IsSome (submission_slot (byte_at seen) x.host.sq x.host.ring.tail)
post-there t seen q x entry c same =
    subst (λ (m : Memory). IsSome (submission_slot m x.host.sq x.host.ring.tail)) (sym same)
    (submission_there (byte_at t.pages) x.host.sq x.host.entries x.host.ring.tail
    (pages_in t.pages x.host.sq (half_pages x.host.entries Submission) c.pool.whole c.inside) (tail-inside t q x entry c))

pub post-room : (t : Tables) (q : ℕ) (x : Queue) (entry : SubEntry) → CanPost t q x entry → is_full x.host.entries x.host.ring.known_head x.host.ring.tail ≡ true → ⊥
post-room t q x entry c full = let e : true ≡ false = sym full ∙ c.room in cc

with_both : Tables → Pages → List Queue → Tables
with_both t pages queues = record t { pages = pages; queues = queues }

pub post-told : (t : Tables) (new seen : Pages) (q i : ℕ) (x : Queue) (h : HostSide) (entry : SubEntry) → q < length t.queues → i ≡ q → x ≡ get_or t.queues i x → CanPost t q x entry
    → h ≡ record x.host { ring = next_tail x.host.entries x.host.ring }
    → byte_at seen ≡ byte_at t.pages → length seen ≡ length t.pages → byte_at new ≡ written (byte_at seen) (tail_place x) (submission_bytes entry) → length new ≡ length seen → AreWhole new
    → record t { pages = new; queues = slice_set t.queues i (record x { host = h }) } ≡ posted q x entry t
unfolding with_both
post-told t new seen q i x h entry l e at c is same size wrote sized whole =
    let count : length (submission_bytes entry) ≡ 64 = submission_length entry c.sgl1 in
    let fit : tail_place x % 4096 + length (submission_bytes entry) ≤ 4096 = subst (λ (k : ℕ). tail_place x % 4096 + k ≤ 4096) (sym count) (tail-fits x) in
    let pages : new ≡ (posted q x entry t).pages = page-written t.pages new (tail_place x / 4096) (tail_place x % 4096) (submission_bytes entry) (tail-in t q x entry c) fit c.pool whole (sized ∙ size)
    (wrote ∙ (ap (λ (m : Memory). written m (tail_place x) (submission_bytes entry)) same ∙ ap (λ (p : ℕ). written (byte_at t.pages) p (submission_bytes entry)) (sym (place-parts (tail_place x))))) in
    let queues : slice_set t.queues i (record x { host = h }) ≡ change q with_tail_moved t.queues =
    change-at i with_tail_moved t.queues x (record x { host = h }) (subst (λ (k : ℕ). k < length t.queues) (sym e) l) at (ap (λ (g : HostSide). record x { host = g }) is)
    ∙ ap (λ (k : ℕ). change k with_tail_moved t.queues) e in
    ap (λ (ps : Pages). with_both t ps (slice_set t.queues i (record x { host = h }))) pages ∙ ap (λ (qs : List Queue). with_both t (posted q x entry t).pages qs) queues

-- What the host sees at the head of a completion ring.

slot-read : (pages : Pages) (p at : ℕ) → IsSome (page_at pages p) → at + 16 ≤ 4096 → IsPool pages
    → option_map (λ bytes. slice_range bytes at (at + 16)) (page_at pages p) ≡ bytes_at (byte_at pages) (4096 * p + at) 16
slot-read pages p at there fits pool = elim (option_is (page_at pages p)) [
  | inl f ↦ absurd (let no : false ≡ true = rw f at there in cc)
  | inr (page, f) ↦
      let n : at + 16 - at ≡ 16 = omega arith in
      rw f (ap (λ (n : ℕ). Some (take n (drop at page))) n) ∙ sym (bytes_within pages p 16 at page f (rw f at (pool.whole p)) fits)
]

slot-seen : (t : Tables) → IsWhole t → (q : ℕ) (x : Queue) → slice_get t.queues q ≡ Some x → is_reaped x.state ≡ true
    → slot_bytes t.pages (cq_pages_of x) 16 x.host.ring.head ≡ completion_slot (byte_at t.pages) x.host.cq x.host.ring.head
slot-seen t w q x at live =
    let is = w.host.rings.each q x at in
    let place : ℕ = completion_place x.host.cq x.host.ring.head in
    let pages : cq_pages_of x ≡ pages_from x.host.cq (half_pages x.host.entries Completion) = rw (reaped_has_cq x.state live) refl in
    let page : slot_page (cq_pages_of x) 16 x.host.ring.head ≡ place / 4096 = ap (λ (ps : List ℕ). slot_page ps 16 x.host.ring.head) pages ∙ completion-page x.host.entries x.host.cq x.host.ring.head is.host_side.head in
    let offset : slot_offset 16 x.host.ring.head ≡ place % 4096 = omega arith in
    let inside : IsSome (page_at t.pages (place / 4096)) = slot-in t w q x.host.ring.head place
    (record { queue = x; at = at; live = live; below = subst (λ (n : ℕ). x.host.ring.head < n) is.entries is.host_side.head; there = refl }) in
    ap (λ (p : ℕ). option_map (λ bytes. slice_range bytes (slot_offset 16 x.host.ring.head) (slot_offset 16 x.host.ring.head + 16)) (page_at t.pages p)) page
    ∙ (ap (λ (k : ℕ). option_map (λ bytes. slice_range bytes k (k + 16)) (page_at t.pages (place / 4096))) offset
    ∙ (slot-read t.pages (place / 4096) (place % 4096) inside (completion-fits x.host.cq x.host.ring.head) w.over.pool
    ∙ ap (λ (p : ℕ). bytes_at (byte_at t.pages) p 16) (place-parts place)))

pub untrusted-seen : (t : Tables) → IsWhole t → (q : ℕ) (x : Queue) → slice_get t.queues q ≡ Some x → is_reaped x.state ≡ true
    → new_completion_at (byte_at t.pages) x.host.cq x.host.ring.head x.host.ring.phase ≡ seen_entry (state_of t) q
untrusted-seen t w q x at live =
    sym (then-map (with_phase x.host.ring.phase) completion_of (completion_slot (byte_at t.pages) x.host.cq x.host.ring.head))
    ∙ (ap (λ (o : Option (List ℕ)). option_and_then (λ bytes. with_phase x.host.ring.phase (completion_of bytes)) o) (sym (slot-seen t w q x at live))
    ∙ ap (λ (o : Option HostQueue). option_and_then (slot_entry t.pages) o) (sym (host-at t q x at)))

-- as the code tells it

pub completion-inside : (queues : List Queue) (q : ℕ) → lacks_completion (slice_get queues q) ≡ false → q < length queues
completion-inside [] q h = cc
completion-inside (x ∷ xs) zero h = omega arith
completion-inside (x ∷ xs) (suc q) h = omega (arith, completion-inside xs q h)

pub completion-at : (t : Tables) (q i : ℕ) (x : Queue) → lacks_completion (slice_get t.queues q) ≡ false → i ≡ q → x ≡ get_or t.queues i x → slice_get t.queues q ≡ Some x
completion-at t q i x there e at = queue-at t q i x (completion-inside t.queues q there) e at

completion-live : (t : Tables) (q : ℕ) (x : Queue) → lacks_completion (slice_get t.queues q) ≡ false → slice_get t.queues q ≡ Some x → is_reaped x.state ≡ true
completion-live t q x there at = not-false _ (subst (λ (o : Option Queue). lacks_completion o ≡ false) at there)

pub see-there : (t : Tables) → IsWhole t → (seen : Pages) (q i : ℕ) (x : Queue) → lacks_completion (slice_get t.queues q) ≡ false → i ≡ q → x ≡ get_or t.queues i x → byte_at seen ≡ byte_at t.pages
    → IsSome (completion_slot (byte_at seen) x.host.cq x.host.ring.head)
see-there t w seen q i x there e at same =
    let here = completion-at t q i x there e at in
    subst (λ (m : Memory). IsSome (completion_slot m x.host.cq x.host.ring.head)) (sym same)
    (completion_there (byte_at t.pages) x.host.cq x.host.entries x.host.ring.head (completion-in t w q x here (reaped_has_cq x.state (completion-live t q x there here))) (w.host.rings.each q x here).host_side.head)

pub see-seen : (t : Tables) → IsWhole t → (seen : Pages) (q i : ℕ) (x : Queue) (r : Option ComEntry) → lacks_completion (slice_get t.queues q) ≡ false → i ≡ q → x ≡ get_or t.queues i x → byte_at seen ≡ byte_at t.pages
    → r ≡ new_completion_at (byte_at seen) x.host.cq x.host.ring.head x.host.ring.phase → r ≡ seen_entry (state_of t) q
see-seen t w seen q i x r there e at same exact =
    let here = completion-at t q i x there e at in
    subst (λ (m : Memory). r ≡ new_completion_at m x.host.cq x.host.ring.head x.host.ring.phase) same exact
    ∙ untrusted-seen t w q x here (completion-live t q x there here)

pub see-same : (old new seen : Pages) → IsPool old → AreWhole new → length new ≡ length seen → length seen ≡ length old → byte_at new ≡ byte_at seen → byte_at seen ≡ byte_at old → new ≡ old
see-same old new seen pool whole sized size same same' = same_pool new old whole pool.whole (sized ∙ size) (λ place. ap (λ (m : Memory). m place) (same ∙ same'))

-- where a completion ring begins

first-page : (p k : ℕ) → 0 < k → slice_get (pages_from p k) 0 ≡ Some p
first-page p zero l = absurd (omega arith)
first-page p (suc k) l = refl

pub base-is : (t : Tables) (q i : ℕ) (x : Queue) → AreQueues t.entries t.queues → lacks_completion (slice_get t.queues q) ≡ false → i ≡ q → x ≡ get_or t.queues i x
    → Some (completion_place x.host.cq 0) ≡ completion_base (view_of t) q
base-is t q i x rings there e at =
    let here = completion-at t q i x there e at in
    let live = completion-live t q x there here in
    let side = (rings.each q x here).host_side in
    let many : 0 < half_pages x.host.entries Completion = omega (arith, side.least) in
    let pages : cq_pages_of x ≡ pages_from x.host.cq (half_pages x.host.entries Completion) = rw (reaped_has_cq x.state live) refl in
    ap (λ (n : ℕ). Some n) (omega arith)
    ∙ sym (ap (λ (o : Option HostQueue). option_and_then (λ queue. if is_reaped queue.state then option_map (λ page. 4096 * page) (slice_get queue.cq_pages 0) else None) o) (host-at t q x here)
    ∙ (ap (λ (b : Bool). if b then option_map (λ page. 4096 * page) (slice_get (cq_pages_of x) 0) else None) live
    ∙ (ap (λ (pages : List ℕ). option_map (λ page. 4096 * page) (slice_get pages 0)) pages ∙ ap (λ (o : Option ℕ). option_map (λ page. 4096 * page) o) (first-page x.host.cq _ many))))

pub base-there : (t : Tables) (q i : ℕ) (x : Queue) → lacks_completion (slice_get t.queues q) ≡ false → i ≡ q → x ≡ get_or t.queues i x → true ≡ in_state is_reaped (alone (view_of t) []) q
base-there t q i x there e at =
    let here = completion-at t q i x there e at in
    sym (ap (λ (o : Option HostQueue). option_map_or (λ queue. is_reaped queue.state) o false) (host-at t q x here) ∙ completion-live t q x there here)

-- a queue whose completions are not reaped has no base
pub base-gone : (t : Tables) (q : ℕ) → lacks_completion (slice_get t.queues q) ≡ true → (None ≡ completion_base (view_of t) q) × (false ≡ in_state is_reaped (alone (view_of t) []) q)
base-gone t q gone = rw (slice_get-map host_queue_of t.queues q) (elim (option_is (slice_get t.queues q)) [
  | inl none ↦ rw none (refl, refl)
  | inr (x, at) ↦ let no : is_reaped x.state ≡ false = not-true _ (rw at at gone) in rw (at, no) (refl, refl)
])

-- What a call makes of whole tables: a step of the machine, and whole tables.
pub record Steps (t : Tables) (e : Event) (reply : Reply) (new : Tables) : Type 0 where
  pub step : Step (state_of t) e reply (state_of new)
  pub whole : IsWhole new

pub steps : (t new : Tables) (e : Event) (reply : Reply) → IsWhole t → IsController e ≡ false → IsProper e → Exactly (state_of t) e reply (state_of new) → Settled new → Steps t e reply new
steps t new e reply w c p exact s =
    let step = host_step t new e reply c p exact in record { step = step; whole = whole-of new s (steps_keep (state_of t) e reply (state_of new) step (sound-of t w)) }

abbrev pub with_tables : Tables → Pages → List Owner → List Queue → List Record → Tables
with_tables t pages owners queues records = record t { pages = pages; owners = owners; queues = queues; records = records }

-- other pages, owners, queues and records, of which the same holds
pub record Settles (t : Tables) (pages : Pages) (os : List Owner) (qs : List Queue) (rs : List Record) : Type 0 where
  pub pool : IsPool pages
  pub lent : length os ≡ length pages
  pub many : length qs ≡ length t.queues
  pub queues : AreQueues t.entries qs
  pub identifiers : ClaimIdentifiers rs qs
  pub owners : OwnersTell os qs rs
  pub records : AllByRecursion (IsRecord (length t.queues)) rs

pub settled-with : (t : Tables) (pages : Pages) (owners : List Owner) (queues : List Queue) (records : List Record) → Settled t → Settles t pages owners queues records
    → Settled (with_tables t pages owners queues records)
settled-with t pages owners queues records s h =
    record {
      pool = h.pool;
      lent = h.lent;
      limits = subst (λ (n : ℕ). HasLimits t.entries t.segment n t.record_queues t.record_places) (sym h.many) s.limits;
      table = subst (λ (n : ℕ). IsTable n owners queues records) (sym h.many) (record { owners = h.owners; identifiers = h.identifiers; records = h.records });
      rings = h.queues;
    }

-- One queue is changed, over other pages, owners and records, of which the same holds.
pub record Turns (t : Tables) (q : ℕ) (f : Queue → Queue) (pages : Pages) (os : List Owner) (rs : List Record) : Type 0 where
  pub pool : IsPool pages
  pub lent : length os ≡ length pages
  pub queue : (x : Queue) → slice_get t.queues q ≡ Some x → IsQueue t.entries q (f x)
  pub identifiers : (k : ℕ) (x : Queue) → slice_get t.queues k ≡ Some x → ClaimsIdentifiers rs k x.host.claimed
  pub claims : (x : Queue) → slice_get t.queues q ≡ Some x → ClaimsIdentifiers rs q (f x).host.claimed
  pub others : (k : ℕ) (x : Queue) → k ≢ q → slice_get t.queues k ≡ Some x → TellsQueue os k x
  pub own : (x : Queue) → slice_get t.queues q ≡ Some x → TellsQueue os q (f x)
  pub commands : AllByRecursion (TellsCommand os) rs
  pub records : AllByRecursion (IsRecord (length t.queues)) rs

pub settled-turned : (t : Tables) (q : ℕ) (f : Queue → Queue) (pages : Pages) (os : List Owner) (rs : List Record) → Settled t → Turns t q f pages os rs
    → Settled (with_tables t pages os (change q f t.queues) rs)
settled-turned t q f pages os rs s h =
    settled-with t pages os (change q f t.queues) rs s
    (record {
      pool = h.pool;
      lent = h.lent;
      many = length-change q f t.queues;
      queues = record { each = each-change (IsQueue t.entries) q f t.queues (λ k x _ at. s.rings.each k x at) h.queue };
      identifiers = record { each = each-change (λ (k : ℕ) (x : Queue). ClaimsIdentifiers rs k x.host.claimed) q f t.queues (λ k x _ at. h.identifiers k x at) h.claims };
      owners = record { queues_told = each-change (TellsQueue os) q f t.queues h.others h.own; commands_told = h.commands };
      records = h.records;
    })

-- A queue whose halves stay as they are given

pub sq-kept : (state : HostState) (x : Queue) → has_sq state ≡ true → has_sq x.state ≡ true → sq_pages_of (with_state state x) ≡ sq_pages_of x
sq-kept state x new old = rw (new, old) refl

pub cq-kept : (state : HostState) (x : Queue) → has_sq state ≡ true → has_sq x.state ≡ true → cq_pages_of (with_state state x) ≡ cq_pages_of x
cq-kept state x new old = rw (sq_with_cq state new, sq_with_cq x.state old) refl

told-kept : (owners : List Owner) (k : ℕ) (state : HostState) (x : Queue) → has_sq state ≡ true → has_sq x.state ≡ true → TellsQueue owners k x → TellsQueue owners k (with_state state x)
told-kept owners k state x new old told =
    record {
      submission = subst (λ (ps : List ℕ). HaveOwner owners (owner.Queue k Submission) ps) (sym (sq-kept state x new old)) told.submission;
      completion = subst (λ (ps : List ℕ). HaveOwner owners (owner.Queue k Completion) ps) (sym (cq-kept state x new old)) told.completion;
    }

-- a queue in another state, over other owners, of which the same holds
pub settled-as : (t : Tables) (k : ℕ) (state : HostState) (owners : List Owner) → Settled t → length owners ≡ length t.owners
    → ((x : Queue) → slice_get t.queues k ≡ Some x → TellsQueue owners k (with_state state x))
    → ((j : ℕ) (x : Queue) → j ≢ k → slice_get t.queues j ≡ Some x → TellsQueue owners j x) → AllByRecursion (TellsCommand owners) t.records
    → Settled (record t { owners = owners; queues = change k (with_state state) t.queues })
settled-as t k state owners s size own others commands =
    settled-turned t k (with_state state) t.pages owners t.records s
    (record {
      pool = s.pool;
      lent = size ∙ s.lent;
      queue = λ x at. let is = s.rings.each k x at in record { number = is.number; entries = is.entries; host_side = is.host_side };
      identifiers = s.table.identifiers.each;
      claims = s.table.identifiers.each k;
      others = others;
      own = own;
      commands = commands;
      records = s.table.records;
    })

pub settled-state : (t : Tables) (k : ℕ) (state : HostState) → Settled t → has_sq state ≡ true → ((x : Queue) → slice_get t.queues k ≡ Some x → has_sq x.state ≡ true)
    → Settled (record t { queues = change k (with_state state) t.queues })
settled-state t k state s new old =
    settled-as t k state t.owners s refl (λ y at. told-kept t.owners k state y new (old y at) (s.table.owners.queues_told k y at)) (λ j y _ at. s.table.owners.queues_told j y at) s.table.owners.commands_told

-- A queue of which a half is given back

pub none-told : (owners : List Owner) (o : Owner) → HaveOwner owners o []
none-told owners o p h = cc

-- a queue that has its completion half alone
half-told : (owners : List Owner) (k : ℕ) (x : Queue) → has_cq x.state ≡ true → HaveOwner owners (owner.Queue k Completion) (cq_pages_of x) → TellsQueue owners k (with_state HalfMade x)
half-told owners k x there have =
    let kept : cq_pages_of (with_state HalfMade x) ≡ cq_pages_of x = rw there refl in
    record { submission = none-told owners (owner.Queue k Submission); completion = subst (λ (ps : List ℕ). HaveOwner owners (owner.Queue k Completion) ps) (sym kept) have }

pub settled-half_made : (t : Tables) (k : ℕ) (owners : List Owner) → Settled t → length owners ≡ length t.owners
    → ((x : Queue) → slice_get t.queues k ≡ Some x → has_cq x.state ≡ true)
    → ((x : Queue) → slice_get t.queues k ≡ Some x → HaveOwner owners (owner.Queue k Completion) (cq_pages_of x))
    → ((j : ℕ) (x : Queue) → j ≢ k → slice_get t.queues j ≡ Some x → TellsQueue owners j x) → AllByRecursion (TellsCommand owners) t.records
    → Settled (record t { owners = owners; queues = change k (with_state HalfMade) t.queues })
settled-half_made t k owners s size there told others commands =
    settled-as t k HalfMade owners s size (λ y at. half-told owners k y (there y at) (told y at)) others commands
