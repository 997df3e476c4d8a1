-- What stands at a place, and who sees it.
use Rattle.machine_model.specs.After as a
use Rattle.std.proofs.Common.{◌≡◌, ℕ, zero, suc, ◌*◌, ◌-◌, ◌/◌, ◌<◌, ◌==◌, Bool, true, false, Option, Some, None, IsSome, List, [], ◌∷◌, ◌++◌, length, map, slice_get, if◌then◌else◌, refl, ap, sym, ◌∙◌, arith, ◌≢◌, inl, inr, is_some, subst, ◌||◌, cond, filter, find, slice_set, ap₂, eqb-true, lt-ltb, ◌%◌, ◌≤◌, ◌&&◌, not, eq-eqb}
use Rattle.std.{proofs.lemmas.Bool.{cases_eq, cases_Bool, and_parts, true≢false, Decides.nat_tests}, specs.List.{AllByRecursion, list_any, count_by}}
use Rattle.std.specs.{Option.{option_map, option_and_then, option_map_or}, Prelude.slice_index}
use Rattle.admin_commands.specs.{Verdicts.is_absent, declared.AdminKind.{AdminKind, TheVariants.{DeleteCq, CreateCq, CreateSq}}}
use Rattle.controller_core.{proofs.Lists.{count-cons, here_counted, one}, specs.Contents.{FetchedCommand, FitsCommand, FetchedWork, entry_of_work, is_command}}
use Rattle.controller_core.specs.declared.{command.FetchedWork.TheVariants.Io, queue.ControllerQueue.ControllerQueue}
use Rattle.host_core.{proofs.{Lists.change-same, QueueLists.index-from}, specs.Alone.alone}
use Rattle.machine_model.proofs.{Counting.one as one_counting, Kept.service_is_reaped as served_reaped}
use Rattle.machine_model.proofs.{Moves.{seen_trusted, IsHeard, completion_heard}, Tokens.{is_job, kind_known}}
use Rattle.machine_model.specs.Agreeing.{SidesAgree, completed_well, admin_completions, has_completions_at, is_absent_at, is_kind, is_known_deleted, unmade, waiting}
use Rattle.machine_model.specs.Positions.{IsInRing}
use Rattle.machine_model.specs.Refusals.{completions_full, served_queue, fetch_page, fetch_slot, host_queue, post_page, post_slot, slot_page, entry_of, front_completion, in_service, is_reaped, seen_entry, slot_bytes, slot_entry, job_at, is_gone, is_live, is_making_cq}
use Rattle.machine_model.specs.{State.{State, HostQueue, ServedQueue, Job, PostedCompletion, Record}, declared.words.HostState.HostState}
use Rattle.machine_model.specs.declared.words.{HostState.TheVariants.{Live, Retired, HalfMade}, Work.TheVariants.Management}
use Rattle.page_ledger.specs.Owners.{pages_from}
use Rattle.page_memory.specs.{Memory.Memory, Pages.byte_at, declared.page.Half.TheVariants.{Submission, Completion}}
use Rattle.queue_pair.proofs.{Halves.{submission_there, completion_there}, Rings.{next_below, tail_moved, head_moved, completions_none, completions_pop, new_is_front}}
use Rattle.queue_pair.specs.{Lists.{completions_from, expected_phase, front}, Members.change}
use Rattle.queue_pair.specs.Memory.{half_pages, entry_at, completion_at, submission_page, completion_page, completion_slot, new_completion_at, phased, with_phase}
use Rattle.queue_pair.specs.Slots.{distance, is_full, moved, slots_from, next_slot, is_in_range}
use Rattle.two_sides.proofs.Agreed.{agreed_there, stood_of}
use Rattle.two_sides.proofs.Frames.{IsKnown, served_at, there_ring, IsPlaced, controller_at, known, reaped_ring, host_at, share_of, stands_of, tied_of, one_queue, one_stands, state_stands}
use Rattle.two_sides.proofs.{PoolBytes.completions_stand, Standing.{admin_zero, admin_completions_rest}, Tied.{deleted_is_gone, freed_is_gone}}
use Rattle.two_sides.specs.Laws.{tails_are_heard, heads_are_heard}
use Rattle.two_sides.specs.Sides.{Sides, state_of, posted_completion, completions_between, served_queue_of, present, unfetched_between, job_of, served_queues_of}
use Rattle.two_sides.specs.{Stepping.completions_are_seen, Ties.{has_ring, IsOwned, IsWorld, RingsStand, AllQueuesStand, QueueStands}}
use Rattle.entry_codec.specs.{Completion.completion_of, Status.is_success, declared.{completion.ComEntry.ComEntry, status.Status.Status}}
use Rattle.entry_codec.specs.declared.hints.Hints.{Hints}
use Rattle.block_image.specs.Blocks.{block_count}
use Rattle.io_commands.specs.Jobs.{JobContents}
use Rattle.slot_table.proofs.Rows.{option_is}
use Rattle.page_memory.proofs.Lists.{found_is, then-map, found_at, all-found}
use Rattle.host_core.proofs.Identifiers.{queue-here}
use Rattle.page_memory.proofs.Lists.{all-at}

-- Where the controller stands in its rings: the machine tells it from its lists, where nothing was forged.

-- Lists of slots that are there

one_more : {X : Type 0} (o : Option X) → IsSome o → (rest : List (Option X)) (many : ℕ) → length (present rest) ≡ many → length (present (o ∷ rest)) ≡ suc many
one_more o e rest many count = grind arith

all_present : {X : Type 0} (f : ℕ → Option X) (n many slot : ℕ) → slot < n → ((k : ℕ) → k < n → IsSome (f k)) → length (present (map f (slots_from n slot many))) ≡ many
all_present f n zero slot h queue-here = refl
all_present f n (suc many) slot h queue-here =
    one_more (f slot) (queue-here slot h) (map f (slots_from n (next_slot n slot) many)) many (all_present f n many (next_slot n slot) (next_below n slot h) queue-here)

some_mapped : {A B : Type 0} (f : A → B) (o : Option A) → IsSome o → IsSome (option_map f o)
some_mapped f None e = cc
some_mapped f (Some x) e = refl

length-map : {A B : Type 0} (f : A → B) (xs : List A) → length (map f xs) ≡ length xs
length-map f [] = refl
length-map f (x ∷ xs) = ap suc (length-map f xs)

pub map-append : {A B : Type 0} (f : A → B) (xs : List A) (x : A) → map f (xs ++ x ∷ []) ≡ map f xs ++ f x ∷ []
map-append f [] x = refl
map-append f (y ∷ xs) x = ap (λ ys. f y ∷ ys) (map-append f xs x)

-- the host's positions are slots of the controller's ring
pub record InRing (h : HostQueue) (c : ControllerQueue) : Type 0 where
  pub head : h.ring.head < c.controller.entries
  pub known_head : h.ring.known_head < c.controller.entries
  pub tail : h.ring.tail < c.controller.entries

pub in_ring : (s : Sides) (q : ℕ) (h : HostQueue) (c : ControllerQueue) → IsKnown s q h c → InRing h c
in_ring s q h c known =
    let n = known.placed.share.entries in
    let is = known.placed.ring in
    record { head = omega (arith, n, is.head); known_head = omega (arith, n, is.known_head); tail = omega (arith, n, is.tail) }

pub length-unfetched : (s : Sides) (q : ℕ) (h : HostQueue) (c : ControllerQueue) → IsKnown s q h c → is_absent c.state ≡ false
    → length (unfetched_between (byte_at s.pages) h.ring c.controller) ≡ distance c.controller.entries c.controller.ring.head h.ring.tail
length-unfetched s q h c known queue-here =
    all_present (entry_at (byte_at s.pages) c.controller.sq) c.controller.entries (distance c.controller.entries c.controller.ring.head h.ring.tail) c.controller.ring.head known.placed.share.side.head
    (λ k lt. some_mapped _ _ (submission_there (byte_at s.pages) c.controller.sq s.host.entries k (known.submission_in queue-here) (omega (arith, lt, known.placed.share.entries))))

pub length-completions : (s : Sides) (q : ℕ) (h : HostQueue) (c : ControllerQueue) → IsKnown s q h c → has_ring h c ≡ true
    → length (map posted_completion (completions_between (byte_at s.pages) h.ring c.controller)) ≡ distance c.controller.entries h.ring.head c.controller.ring.tail
length-completions s q h c known has =
    length-map posted_completion (completions_between (byte_at s.pages) h.ring c.controller)
    ∙ all_present (completion_at (byte_at s.pages) c.controller.cq) c.controller.entries (distance c.controller.entries h.ring.head c.controller.ring.tail) h.ring.head (in_ring s q h c known).head
    (λ k lt. some_mapped _ _ (completion_there (byte_at s.pages) c.controller.cq s.host.entries k (known.completion_in has) (omega (arith, lt, known.placed.share.entries))))

-- how many completions the machine has of a completion queue that is there
pub length-posted : (s : Sides) (q : ℕ) (h : HostQueue) (c : ControllerQueue) → IsKnown s q h c → c.cq_there ≡ true
    → length (served_queue_of (byte_at s.pages) h.ring c).completions ≡ distance c.controller.entries h.ring.head c.controller.ring.tail
length-posted s q h c known queue-here =
    ap (λ (b : Bool). length (if b then map posted_completion (completions_between (byte_at s.pages) h.ring c.controller) else [])) queue-here
    ∙ length-completions s q h c known (there_ring h c queue-here)

-- A state of the machine that shows a queue as both sides have it: that of both sides, and those that an event makes of it elsewhere.
pub record Shows (u : State) (s : Sides) (q : ℕ) (h : HostQueue) (c : ControllerQueue) : Type 0 where
  pub entries : u.entries ≡ s.host.entries
  pub host : host_queue u q ≡ Some h
  pub controller : served_queue u q ≡ Some (served_queue_of (byte_at s.pages) h.ring c)

pub shows : (s : Sides) (q : ℕ) (h : HostQueue) (c : ControllerQueue) → slice_get s.host.host.queues q ≡ Some h → slice_get s.controller.queues q ≡ Some c → Shows (state_of s) s q h c
shows s q h c e f = record { entries = refl; host = e; controller = served_at s q h c e f }

-- The positions

pub fetch_slot_is : (u : State) (s : Sides) (q : ℕ) (h : HostQueue) (c : ControllerQueue) → Shows u s q h c → IsKnown s q h c → is_absent c.state ≡ false → fetch_slot u q ≡ c.controller.ring.head
fetch_slot_is u s q h c shown known queue-here =
    rw (shown.host, shown.controller, (shown.entries ∙ sym known.placed.share.entries)) refl
    ∙ ap (λ (b : Bool). moved c.controller.entries h.ring.tail (c.controller.entries - length (if b then [] else unfetched_between (byte_at s.pages) h.ring c.controller))) queue-here
    ∙ ap (λ (k : ℕ). moved c.controller.entries h.ring.tail (c.controller.entries - k)) (length-unfetched s q h c known queue-here)
    ∙ sym (head_moved c.controller.entries c.controller.ring.head h.ring.tail known.placed.share.side.head (in_ring s q h c known).tail)

pub post_slot_is : (u : State) (s : Sides) (q : ℕ) (h : HostQueue) (c : ControllerQueue) → Shows u s q h c → IsKnown s q h c → c.cq_there ≡ true → post_slot u q ≡ c.controller.ring.tail
post_slot_is u s q h c shown known queue-here =
    rw (shown.host, shown.controller, (shown.entries ∙ sym known.placed.share.entries)) refl
    ∙ ap (λ (k : ℕ). moved c.controller.entries h.ring.head k) (length-posted s q h c known queue-here)
    ∙ sym (tail_moved c.controller.entries h.ring.head c.controller.ring.tail (in_ring s q h c known).head known.placed.share.side.tail)

pub completions_full_is : (u : State) (s : Sides) (q : ℕ) (h : HostQueue) (c : ControllerQueue) → Shows u s q h c → IsKnown s q h c → c.cq_there ≡ true
    → completions_full u q ≡ is_full c.controller.entries c.controller.ring.known_head c.controller.ring.tail
completions_full_is u s q h c shown known queue-here =
    -- whether the completion ring has room
    rw (shown.controller, (shown.entries ∙ sym known.placed.share.entries)) refl
    ∙ ap (λ (k : ℕ). k == c.controller.entries - 1) (length-posted s q h c known queue-here)
    ∙ ap (λ (k : ℕ). is_full c.controller.entries k c.controller.ring.tail) (sym (known.rings (there_ring h c queue-here)).heard)

-- The pages of the slots

pub completion_slot_page : (first n slot : ℕ) → slot < n → slot_page (pages_from first (half_pages n Completion)) 16 slot ≡ completion_page first slot
completion_slot_page first n slot l =
    let k : slot * 16 / 4096 ≡ slot / 256 = omega arith in
    ap (slice_index (pages_from first (half_pages n Completion))) k ∙ index-from (half_pages n Completion) first (slot / 256) (omega arith)

pub submission_slot_page : (first n slot : ℕ) → slot < n → slot_page (pages_from first (half_pages n Submission)) 64 slot ≡ submission_page first slot
submission_slot_page first n slot l =
    let k : slot * 64 / 4096 ≡ slot / 64 = omega arith in
    ap (slice_index (pages_from first (half_pages n Submission))) k ∙ index-from (half_pages n Submission) first (slot / 64) (omega arith)

post_page-by : (u : State) (q : ℕ) (h : HostQueue) (tail : ℕ) → host_queue u q ≡ Some h → post_slot u q ≡ tail → post_page u q ≡ slot_page h.cq_pages 16 tail
post_page-by u q h tail eh et = rw (et, eh) refl

pub own_page : (s : Sides) (q : ℕ) (h : HostQueue) (c : ControllerQueue) → IsKnown s q h c → has_ring h c ≡ true → slot_page h.cq_pages 16 c.controller.ring.tail ≡ completion_page c.controller.cq c.controller.ring.tail
own_page s q h c known has =
    ap (λ (ps : List ℕ). slot_page ps 16 c.controller.ring.tail) (known.completion has)
    ∙ completion_slot_page c.controller.cq s.host.entries c.controller.ring.tail (omega (arith, known.placed.share.entries, known.placed.share.side.tail))

pub fetch_page_is : (u : State) (s : Sides) (q : ℕ) (h : HostQueue) (c : ControllerQueue) → Shows u s q h c → IsKnown s q h c → is_absent c.state ≡ false → fetch_page u q ≡ submission_page c.controller.sq c.controller.ring.head
fetch_page_is u s q h c shown known queue-here =
    rw ((fetch_slot_is u s q h c shown known queue-here), shown.host) refl
    ∙ ap (λ (ps : List ℕ). slot_page ps 64 c.controller.ring.head) (known.submission queue-here)
    ∙ submission_slot_page c.controller.sq s.host.entries c.controller.ring.head (omega (arith, known.placed.share.entries, known.placed.share.side.head))

pub post_page_is : (u : State) (s : Sides) (q : ℕ) (h : HostQueue) (c : ControllerQueue) → Shows u s q h c → IsKnown s q h c → c.cq_there ≡ true → post_page u q ≡ completion_page c.controller.cq c.controller.ring.tail
post_page_is u s q h c shown known queue-here =
    post_page-by u q h c.controller.ring.tail shown.host (post_slot_is u s q h c shown known queue-here) ∙ own_page s q h c known (there_ring h c queue-here)

-- What the host sees at the head of a completion ring is the machine's first completion.

-- A completion as it says of its command: its phase left aside.
abbrev pub told : Option ComEntry → Option ComEntry
told o = option_map (phased true) o

-- What the slot at the head holds

seen_alone : (s : Sides) → IsWorld s → (q : ℕ) (h : HostQueue) (c : ControllerQueue) → slice_get s.host.host.queues q ≡ Some h → IsKnown s q h c → has_ring h c ≡ true
    → seen_entry (alone s.host s.pages) q ≡ new_completion_at (byte_at s.pages) c.controller.cq h.ring.head h.ring.phase
seen_alone s world q h c e k has =
    let at_head : Option (List ℕ) → Option ComEntry = λ o. option_and_then (λ bytes. with_phase h.ring.phase (completion_of bytes)) o in
    ap (option_and_then (slot_entry s.pages)) e
    ∙ ap (λ (pages : List ℕ). at_head (slot_bytes s.pages pages 16 h.ring.head)) (k.completion has)
    ∙ ap at_head (completions_stand s.pages c.controller.cq (half_pages s.host.entries Completion) h.ring.head world.sides.over.pool.whole (omega arith))
    ∙ then-map (with_phase h.ring.phase) completion_of (completion_slot (byte_at s.pages) c.controller.cq h.ring.head)

-- Where nothing was forged, the completions in the ring

no_completion : (m : Memory) (h : HostQueue) (c : ControllerQueue) → h.ring.head ≡ c.controller.ring.tail → completions_between m h.ring c.controller ≡ []
no_completion m h c same = grind arith

-- the completion at the head, and those after it
pub record HasCompletion (m : Memory) (h : HostQueue) (c : ControllerQueue) : Type 0 where
  pub entry : ComEntry
  pub front : front (completions_from m c.controller.cq c.controller.entries h.ring.head c.controller.ring.tail) ≡ Some entry
  pub list : completions_between m h.ring c.controller ≡ entry ∷ present (completions_from m c.controller.cq c.controller.entries (next_slot c.controller.entries h.ring.head) c.controller.ring.tail)

pub head_below : (s : Sides) (q : ℕ) (h : HostQueue) (c : ControllerQueue) → IsPlaced s q h c → h.ring.head < c.controller.entries
head_below s q h c p = subst (λ (n : ℕ). h.ring.head < n) (sym p.share.entries) p.ring.head

pub has_completion : (s : Sides) (q : ℕ) (h : HostQueue) (c : ControllerQueue) → IsKnown s q h c → has_ring h c ≡ true → h.ring.head ≢ c.controller.ring.tail → HasCompletion (byte_at s.pages) h c
has_completion s q h c k has apart =
    let m : Memory = byte_at s.pages in
    let below : h.ring.head < c.controller.entries = head_below s q h c k.placed in
    let behind : List (Option ComEntry) = completions_from m c.controller.cq c.controller.entries (next_slot c.controller.entries h.ring.head) c.controller.ring.tail in
    let popped : completions_from m c.controller.cq c.controller.entries h.ring.head c.controller.ring.tail ≡ completion_at m c.controller.cq h.ring.head ∷ behind =
    completions_pop m c.controller.cq c.controller.entries h.ring.head c.controller.ring.tail below k.placed.share.side.tail apart in
    elim (option_is (completion_at m c.controller.cq h.ring.head)) [
      | inl is ↦ let phase = rw is at ((k.rings has).phases.stands h.ring.head below) in absurd cc
      | inr (entry, is) ↦
          let all = popped ∙ ap (λ (o : Option ComEntry). o ∷ behind) is in
          record { entry = entry; front = ap front all; list = ap present all }
    ]

-- a queue whose completion ring is in use and has a completion has its completion queue at the controller
pub first_completion_there : (s : Sides) (q : ℕ) (h : HostQueue) (c : ControllerQueue) → IsKnown s q h c → has_ring h c ≡ true → h.ring.head ≢ c.controller.ring.tail → c.cq_there ≡ true
first_completion_there s q h c k has apart = elim (cases_Bool (in_service h.state)) [ inl e ↦ k.served e | inr e ↦ absurd (apart ((k.rings has).drained e)) ]

-- the machine sees the first of its completions
seen_of : (s : Sides) (q : ℕ) (h : HostQueue) (c : ControllerQueue) (b : Bool) → s.trusted ≡ true → slice_get s.host.host.queues q ≡ Some h → slice_get s.controller.queues q ≡ Some c → c.cq_there ≡ b
    → seen_entry (state_of s) q ≡ option_map (entry_of q) (front_completion (if b then map posted_completion (completions_between (byte_at s.pages) h.ring c.controller) else []))
seen_of s q h c b t e f queue-here =
    seen_trusted (state_of s) q t
    ∙ ap (λ (o : Option ServedQueue). option_map (entry_of q) (option_and_then (λ queue. front_completion queue.completions) o)) (served_at s q h c e f)
    ∙ ap (λ (b : Bool). option_map (entry_of q) (front_completion (if b then map posted_completion (completions_between (byte_at s.pages) h.ring c.controller) else []))) queue-here

pub seen_none : (s : Sides) (q : ℕ) (h : HostQueue) (c : ControllerQueue) → s.trusted ≡ true → slice_get s.host.host.queues q ≡ Some h → slice_get s.controller.queues q ≡ Some c
    → h.ring.head ≡ c.controller.ring.tail → seen_entry (state_of s) q ≡ None
seen_none s q h c t e f same = elim (cases_Bool c.cq_there) [
  | inl queue-here ↦ seen_of s q h c true t e f queue-here ∙ ap (λ (xs : List ComEntry). option_map (entry_of q) (front_completion (map posted_completion xs))) (no_completion (byte_at s.pages) h c same)
  | inr queue-here ↦ seen_of s q h c false t e f queue-here
]

pub seen_first : (s : Sides) (q : ℕ) (h : HostQueue) (c : ControllerQueue) → s.trusted ≡ true → slice_get s.host.host.queues q ≡ Some h → slice_get s.controller.queues q ≡ Some c
    → c.cq_there ≡ true → (a : HasCompletion (byte_at s.pages) h c) → seen_entry (state_of s) q ≡ Some (entry_of q (posted_completion a.entry))
seen_first s q h c t e f queue-here a =
    seen_of s q h c true t e f queue-here ∙ ap (λ (xs : List ComEntry). option_map (entry_of q) (front_completion (map posted_completion xs))) a.list

owned_first : (q : ℕ) (e : ComEntry) → IsOwned q e → told (Some e) ≡ told (Some (entry_of q (posted_completion e)))
owned_first q e own = ap₂ (λ (i : ℕ) (hints : Hints). Some (record { dw0 = e.dw0; sqhd = e.sqhd; sqid = i; cid = e.cid; phase = true; status = e.status; hints = hints })) own.0 own.1

-- Both see the same

trusted_alike : (s : Sides) → IsWorld s → s.trusted ≡ true → (q : ℕ) (h : HostQueue) (c : ControllerQueue) → slice_get s.host.host.queues q ≡ Some h → slice_get s.controller.queues q ≡ Some c → is_reaped h.state ≡ true
    → told (seen_entry (alone s.host s.pages) q) ≡ told (seen_entry (state_of s) q)
trusted_alike s world t q h c e f reaped =
    let newest : new_completion_at m c.controller.cq h.ring.head (expected_phase h.ring.head c.controller.ring.tail c.controller.ring.phase) ≡ front (completions_from m c.controller.cq c.controller.entries h.ring.head c.controller.ring.tail) =
    new_is_front m c.controller.cq c.controller.entries h.ring.head c.controller.ring.tail c.controller.ring.phase (head_below s q h c k.placed) k.placed.share.side.tail rings.phases in
    ap told (seen_alone s world q h c e k has ∙ ap (new_completion_at m c.controller.cq h.ring.head) rings.expected ∙ newest)
    ∙ elim (cases_eq h.ring.head c.controller.ring.tail) [
      | inl same ↦ ap (λ (head : ℕ). told (front (completions_from m c.controller.cq c.controller.entries head c.controller.ring.tail))) same
          ∙ ap (λ (xs : List (Option ComEntry)). told (front xs)) (completions_none m c.controller.cq c.controller.entries c.controller.ring.tail)
          ∙ sym (ap told (seen_none s q h c t e f same))
      | inr apart ↦ queue-here (first_completion_there s q h c k has apart) (has_completion s q h c k has apart)
    ]
  where
    m : Memory
    m = byte_at s.pages

    k : IsKnown s q h c
    k = known s world t q h c e f

    has : has_ring h c ≡ true
    has = reaped_ring h c reaped

    rings : RingsStand m q h c
    rings = k.rings has

    queue-here : c.cq_there ≡ true → HasCompletion m h c → told (front (completions_from m c.controller.cq c.controller.entries h.ring.head c.controller.ring.tail)) ≡ told (seen_entry (state_of s) q)
    queue-here cq a =
        ap told a.front ∙ owned_first q a.entry (subst (λ (xs : List ComEntry). AllByRecursion (IsOwned q) xs) a.list rings.owned).0 ∙ sym (ap told (seen_first s q h c t e f cq a))

pub seen_alike : (s : Sides) → IsWorld s → (q : ℕ) (h : HostQueue) → slice_get s.host.host.queues q ≡ Some h → is_reaped h.state ≡ true
    → told (seen_entry (alone s.host s.pages) q) ≡ told (seen_entry (state_of s) q)
seen_alike s world q h e reaped = elim (cases_Bool s.trusted) [
  | inl t ↦ let c = controller_at s world q h e in trusted_alike s world t q h c.0 e c.1 reaped
  | inr t ↦ rw t refl
]

some_told : (o : Option ComEntry) → is_some (told o) ≡ is_some o
some_told o = grind arith

pub completions_seen : completions_are_seen
completions_seen s q h world e live =
    sym (some_told (seen_entry (alone s.host s.pages) q)) ∙ ap is_some (seen_alike s world q h e live) ∙ some_told (seen_entry (state_of s) q)

-- The controller's commands as the machine's jobs.

-- Lists that are seen member by member

pub find-map : {A B : Type 0} (f : A → B) (p : B → Bool) (xs : List A) → find p (map f xs) ≡ option_map f (find (λ x. p (f x)) xs)
find-map f p [] = refl
find-map f p (x ∷ xs) = grind (arith, find-map f p xs)

pub filter-map : {A B : Type 0} (f : A → B) (p : B → Bool) (xs : List A) → filter p (map f xs) ≡ map f (filter (λ x. p (f x)) xs)
filter-map f p [] = refl
filter-map f p (x ∷ xs) = grind (arith, filter-map f p xs)

pub any-map : {A B : Type 0} (f : A → B) (p : B → Bool) (xs : List A) → list_any p (map f xs) ≡ list_any (λ x. p (f x)) xs
any-map f p [] = refl
any-map f p (x ∷ xs) = ap (λ b. p (f x) || b) (any-map f p xs)

none_named : {A B : Type 0} (named : A → Bool) (h : B → B) (g : A → B) (xs : List A) → count_by named xs ≡ 0 → ((a : A) → named a ≡ false → h (g a) ≡ g a) → map h (map g xs) ≡ map g xs
none_named named h g [] none others = refl
none_named {A = A} {B = B} named h g (x ∷ xs) none others = by_name (named x) refl (λ rest. none_named named h g xs rest others)
  where
    by_name : (b : Bool) → named x ≡ b → (count_by named xs ≡ 0 → map h (map g xs) ≡ map g xs) → map h (map g (x ∷ xs)) ≡ map g (x ∷ xs)
    by_name true e later = absurd (omega (arith, none, count-cons named x xs, ap one e))
    by_name false e later = ap₂ (λ (y : B) (ys : List B). y ∷ ys) (others x e) (later (omega (arith, none, count-cons named x xs)))

-- a change of all that are named so is a change of the only one
pub map_one : {A B : Type 0} (named : A → Bool) (h : B → B) (g : A → B) (xs : List A) (i : ℕ) (x y : A) → slice_get xs i ≡ Some x → named x ≡ true → count_by named xs < 2
    → h (g x) ≡ g y → ((a : A) → named a ≡ false → h (g a) ≡ g a) → map h (map g xs) ≡ map g (slice_set xs i y)
map_one named h g [] i x y at is few e others = refl
map_one {A = A} {B = B} named h g (z ∷ xs) zero x y at is few e others =
    let same : z ≡ x = cc in
    let t : named z ≡ true = subst (λ (a : A). named a ≡ true) (sym same) is in
    ap₂ (λ (y : B) (ys : List B). y ∷ ys) (ap (λ (a : A). h (g a)) same ∙ e) (none_named named h g xs (omega (arith, few, count-cons named z xs, ap one t)) others)
map_one {A = A} {B = B} named h g (z ∷ xs) (suc i) x y at is few e others = by_name (named z) refl (λ rest. map_one named h g xs i x y at is rest e others)
  where
    by_name : (b : Bool) → named z ≡ b → (count_by named xs < 2 → map h (map g xs) ≡ map g (slice_set xs i y)) → map h (map g (z ∷ xs)) ≡ map g (slice_set (z ∷ xs) (suc i) y)
    by_name true t later = absurd (omega (arith, few, count-cons named z xs, ap one t, here_counted named xs i x at is))
    by_name false t later = ap₂ (λ (y : B) (ys : List B). y ∷ ys) (others z t) (later (omega (arith, few, count-cons named z xs)))

-- The jobs of the machine

pub job-at : (s : Sides) (q cid : ℕ) → job_at (state_of s) q cid ≡ option_map job_of (find (is_command q cid) s.controller.commands)
job-at s q cid = find-map job_of (is_job q cid) s.controller.commands

pub job-found : (s : Sides) (q cid : ℕ) (k : FetchedCommand) → find (is_command q cid) s.controller.commands ≡ Some k → job_at (state_of s) q cid ≡ Some (job_of k)
job-found s q cid k e = job-at s q cid ∙ ap (option_map job_of) e

-- a command as the machine's job, where its work is known
abbrev pub with_work : FetchedCommand → FetchedWork → FetchedCommand
with_work k work = record k { work = work }

abbrev pub seen : FetchedCommand → JobContents → Job
seen k job = job_of (with_work k (Io job))

pub seen_is : (k : FetchedCommand) (job : JobContents) → k.work ≡ Io job → job_of k ≡ seen k job
seen_is k job e = ap (λ (work : FetchedWork). job_of (with_work k work)) e

-- what is known of a command that is found: it fits, and its queue is there
pub record IsFound (s : Sides) (q cid : ℕ) (k : FetchedCommand) : Type 0 where
  pub named : is_command q cid k ≡ true
  pub its_queue : k.q ≡ q
  pub fits : FitsCommand (block_count s.controller.image) (length s.controller.queues) k
  pub queue : ControllerQueue
  pub queue_here : slice_get s.controller.queues q ≡ Some queue
  pub host : HostQueue
  pub host_here : slice_get s.host.host.queues q ≡ Some host

pub is_found : (s : Sides) → IsWorld s → (q cid : ℕ) (k : FetchedCommand) → find (is_command q cid) s.controller.commands ≡ Some k → IsFound s q cid k
is_found s world q cid k e =
    let named = found_is (is_command q cid) s.controller.commands k e in
    let same : k.q ≡ q = eqb-true k.q q (and_parts (k.q == q) ((entry_of_work k.work).cid == cid) named).0 in
    let fits = all-found (FitsCommand (block_count s.controller.image) (length s.controller.queues)) (is_command q cid) s.controller.commands k e world.sides.controller.commands.each in
    let (c, here) = queue-here s.controller.queues q (subst (λ (n : ℕ). n < length s.controller.queues) same fits.0) in
    let (h, at) = host_at s world q c here in
    record { named = named; its_queue = same; fits = fits; queue = c; queue_here = here; host = h; host_here = at }

-- The controller takes the doorbells that the host rings.

pub tails_heard : tails_are_heard
tails_heard s q h c sides e f =
    let share = share_of s.host.entries 0 q s.host.host.queues s.controller.queues h c sides.queues e f in
    let inside = all-at (λ (queue : HostQueue). IsInRing s.host.entries queue.ring) s.host.host.queues q h e sides.sound.positions in
    rw (lt-ltb h.ring.tail c.controller.entries (subst (λ (n : ℕ). h.ring.tail < n) (sym share.entries) inside.tail)) refl

next_in_range : (n head tail : ℕ) → head < n → tail < n → head ≢ tail → is_in_range n head tail (next_slot n head) ≡ true
next_in_range n head tail h t apart = grind (arith, nat_tests)

pub heads_heard : heads_are_heard
heads_heard s q h c sides tied e f has apart =
    let share = share_of s.host.entries 0 q s.host.host.queues s.controller.queues h c sides.queues e f in
    let stands = stands_of s.host.entries (byte_at s.pages) 0 q s.host.host.queues s.controller.queues h c tied.queues e f in
    let inside = all-at (λ (queue : HostQueue). IsInRing s.host.entries queue.ring) s.host.host.queues q h e sides.sound.positions in
    let fits = next_in_range s.host.entries h.ring.head c.controller.ring.tail inside.head (subst (λ (n : ℕ). c.controller.ring.tail < n) share.entries share.side.tail) apart in
    let here : is_in_range c.controller.entries c.controller.ring.known_head c.controller.ring.tail (next_slot s.host.entries h.ring.head) ≡ true = rw (share.entries, (stands.rings has).heard) fits in
    rw here refl

-- What the host's state of a queue, and a completion that it reaps, tell of the controller's queue, where nothing was forged.

-- of the machine's queue at a number
pub absent_is : (s : Sides) (q : ℕ) (h : HostQueue) (c : ControllerQueue) (b : Bool) → slice_get s.host.host.queues q ≡ Some h → slice_get s.controller.queues q ≡ Some c
    → is_absent_at (state_of s).controller.queues q ≡ b → is_absent c.state ≡ b
absent_is s q h c b at queue-here is = sym (ap (λ (o : Option ServedQueue). option_map_or (λ x. is_absent x.state) o true) (served_at s q h c at queue-here)) ∙ is

pub completions_is : (s : Sides) (q : ℕ) (h : HostQueue) (c : ControllerQueue) (b : Bool) → slice_get s.host.host.queues q ≡ Some h → slice_get s.controller.queues q ≡ Some c
    → has_completions_at (state_of s).controller.queues q ≡ b → c.cq_there ≡ b
completions_is s q h c b at queue-here is = sym (ap (λ (o : Option ServedQueue). option_map_or (λ x. x.cq_there) o false) (served_at s q h c at queue-here)) ∙ is

pub known_absent : (s : Sides) → IsWorld s → s.trusted ≡ true → (q : ℕ) (h : HostQueue) (c : ControllerQueue) → slice_get s.host.host.queues q ≡ Some h → slice_get s.controller.queues q ≡ Some c
    → is_known_deleted h.state ≡ true → is_absent c.state ≡ true
known_absent s world t q h c at queue-here is = absent_is s q h c true at queue-here (deleted_is_gone (state_of s) (stood_of (state_of s) (tied_of s world t).agree).grounds.fit q h at is)

pub known_gone : (s : Sides) → IsWorld s → s.trusted ≡ true → (q : ℕ) (h : HostQueue) (c : ControllerQueue) → slice_get s.host.host.queues q ≡ Some h → slice_get s.controller.queues q ≡ Some c
    → is_gone h.state ≡ true → c.cq_there ≡ false
known_gone s world t q h c at queue-here is = completions_is s q h c false at queue-here (freed_is_gone (state_of s) (stood_of (state_of s) (tied_of s world t).agree).grounds.fit q h at is)

pub known_live : (s : Sides) → IsWorld s → s.trusted ≡ true → (q : ℕ) (h : HostQueue) (c : ControllerQueue) → slice_get s.host.host.queues q ≡ Some h → slice_get s.controller.queues q ≡ Some c
    → is_live h.state ≡ true → is_absent c.state ≡ false
known_live s world t q h c at queue-here is = absent_is s q h c false at queue-here (agreed_there (state_of s) q h (tied_of s world t).agree at is)

-- What a reaped completion tells: it counts among the completions

pub record Carries (s : State) (adm : AdminKind) (ok : Bool) : Type 0 where
  pub completed : (test : AdminKind → Bool) → one_counting (test adm && ok) ≤ completed_well test s.host.records (admin_completions s.controller.queues)
  pub unmade : (test : AdminKind → Bool) → one_counting (test adm && not ok) ≤ unmade test s.host.records (waiting s.controller.queues) s.controller.jobs (admin_completions s.controller.queues)

pub carried : (s : State) (q cid : ℕ) (st : Status) (e : ComEntry) (r : Record) (adm : AdminKind) → s.trusted ≡ true → SidesAgree s → IsHeard s q cid st e r → r.work ≡ Management adm → Carries s adm (is_success st)
carried s q cid st e r adm t agree heard w =
    let rs : List Record = s.host.records in
    let at_zero : IsHeard s 0 cid st e r → Carries s adm (is_success st) = λ heard.
    let an = completion_heard s 0 cid st e r t heard in
    let first = admin_completions_rest s.controller.queues an.completion an.first in
    let kind : (test : AdminKind → Bool) → is_kind test rs an.completion.cid ≡ test adm = λ test. ap (is_kind test rs) an.its_id ∙ kind_known test rs cid adm (r, heard.found, w) in
    record {
      completed = λ test. subst (λ (xs : List PostedCompletion). one_counting (test adm && is_success st) ≤ completed_well test rs xs) (sym first)
          (omega (arith, ap (λ (b : Bool). one_counting (b && is_success an.completion.status)) (kind test), ap (λ (x : Status). one_counting (test adm && is_success x)) an.its_status));
      unmade = λ test. subst (λ (xs : List PostedCompletion). one_counting (test adm && not (is_success st)) ≤ unmade test rs (waiting s.controller.queues) s.controller.jobs xs) (sym first)
          (omega (arith, ap (λ (b : Bool). one_counting (b && not (is_success an.completion.status))) (kind test), ap (λ (x : Status). one_counting (test adm && not (is_success x))) an.its_status));
    } in
    at_zero (subst (λ (z : ℕ). IsHeard s z cid st e r) (admin_zero s q cid r adm (stood_of s agree).grounds.stands.0 heard.found w) heard)

-- a number of a queue is what its command names
named_so : (k : ℕ) (b : Bool) → k < 65536 → b ≡ true → ((k % 65536 == k) && b) ≡ true
named_so k b l is = ap (λ (x : Bool). x && b) (eq-eqb (k % 65536) k (omega (arith, l))) ∙ is

-- a completion queue that was deleted, or not made, is not there
pub freed_not_there : (s : State) (k : ℕ) (ok : Bool) → SidesAgree s → k < 65536 → ok ≡ true → Carries s (DeleteCq k) ok → has_completions_at s.controller.queues k ≡ false
freed_not_there s k ok agree l good says = grind arith

pub unmade_not_there : (s : State) (k n base : ℕ) (vector : Option ℕ) (ok : Bool) → SidesAgree s → k < 65536 → ok ≡ false → Carries s (CreateCq k n base vector) ok → has_completions_at s.controller.queues k ≡ false
unmade_not_there s k n base vector ok agree l bad says = grind arith

-- a submission queue that was not made is absent, and one that was made is not
pub unmade_absent : (s : State) (k n base : ℕ) (ok : Bool) → SidesAgree s → k < 65536 → ok ≡ false → Carries s (CreateSq k n base) ok → is_absent_at s.controller.queues k ≡ true
unmade_absent s k n base ok agree l bad says = grind arith

pub made_there : (s : State) (k n base : ℕ) (ok : Bool) → SidesAgree s → k < length s.host.queues → ok ≡ true → Carries s (CreateSq k n base) ok → is_absent_at s.controller.queues k ≡ false
made_there s k n base ok agree l good says = grind arith

-- What a call of the controller makes of the machine's queues, and of the rings and halves, where it changes one of its queues.

pub controllers_changed : (m m' : Memory) (q : ℕ) (g : ControllerQueue → ControllerQueue) (k : ServedQueue → ServedQueue) (hs : List HostQueue) (cs : List ControllerQueue)
    → ((h : HostQueue) (c : ControllerQueue) → slice_get hs q ≡ Some h → slice_get cs q ≡ Some c → served_queue_of m' h.ring (g c) ≡ k (served_queue_of m h.ring c))
    → ((i : ℕ) (h : HostQueue) (c : ControllerQueue) → i ≢ q → slice_get hs i ≡ Some h → slice_get cs i ≡ Some c → served_queue_of m' h.ring c ≡ served_queue_of m h.ring c)
    → served_queues_of m' hs (change q g cs) ≡ change q k (served_queues_of m hs cs)
controllers_changed m m' q g k hs cs here queue-here =
    subst (λ (xs : List HostQueue). served_queues_of m' xs (change q g cs) ≡ change q k (served_queues_of m hs cs)) (change-same (λ h. h) (λ h. refl) q hs)
    (one_queue m m' q (λ h. h) g k hs cs here queue-here)

pub stands_changed : (n : ℕ) (m m' : Memory) (q : ℕ) (g : ControllerQueue → ControllerQueue) (hs : List HostQueue) (cs : List ControllerQueue)
    → ((h : HostQueue) (c : ControllerQueue) → slice_get hs q ≡ Some h → slice_get cs q ≡ Some c → QueueStands n m q h c → QueueStands n m' q h (g c))
    → ((i : ℕ) (h : HostQueue) (c : ControllerQueue) → i ≢ q → slice_get hs i ≡ Some h → slice_get cs i ≡ Some c → QueueStands n m i h c → QueueStands n m' i h c)
    → AllQueuesStand n m zero hs cs → AllQueuesStand n m' zero hs (change q g cs)
stands_changed n m m' q g hs cs here queue-here all =
    subst (λ (xs : List HostQueue). AllQueuesStand n m' zero xs (change q g cs)) (change-same (λ h. h) (λ h. refl) q hs) (one_stands n m m' q (λ h. h) g hs cs here queue-here all)

-- A queue of the host gets another state: it stands, by what the controller has of it.

-- in service before and after
pub still_serves : (n : ℕ) (m : Memory) (q : ℕ) (h : HostQueue) (c : ControllerQueue) (st : HostState) → in_service h.state ≡ true → in_service st ≡ true → is_making_cq st ≡ false
    → QueueStands n m q h c → QueueStands n m q (record h { state = st }) c
still_serves n m q h c st served serves made stands =
    let has = reaped_ring h c (served_reaped h.state served) in
    record {
      halves = record { submission = stands.halves.submission; completion = λ x. stands.halves.completion has };
      rings = λ x. state_stands m q h c st h.sq_pages h.cq_pages (stands.rings has) (λ e. absurd (true≢false (sym serves ∙ e)));
      granted = λ making absent. absurd (true≢false (sym making ∙ made));
    }

-- its submission half is given back: it is absent, and nothing waits
pub retires_half : (n : ℕ) (m : Memory) (q : ℕ) (h : HostQueue) (c : ControllerQueue) → in_service h.state ≡ true → is_absent c.state ≡ true → h.ring.head ≡ c.controller.ring.tail
    → QueueStands n m q h c → QueueStands n m q (a.retired h) c
retires_half n m q h c served absent drained stands =
    let has = reaped_ring h c (served_reaped h.state served) in
    record {
      halves = record { submission = λ e. absurd (true≢false (sym absent ∙ e)); completion = λ x. stands.halves.completion has };
      rings = λ x. state_stands m q h c Retired [] h.cq_pages (stands.rings has) (λ e. drained);
      granted = λ making absent. absurd (true≢false (sym making));
    }

-- its completion half is given back: there is no completion queue
pub frees_half : (n : ℕ) (m : Memory) (q : ℕ) (h : HostQueue) (c : ControllerQueue) → c.cq_there ≡ false → QueueStands n m q h c → QueueStands n m q (a.gone h) c
frees_half n m q h c none stands =
    record {
      halves = record { submission = stands.halves.submission; completion = λ e. absurd (true≢false (sym e ∙ none)) };
      rings = λ e. absurd (true≢false (sym e ∙ none));
      granted = λ making absent. absurd (true≢false (sym making));
    }

-- a completion queue that was being made is half a queue
pub makes_half : (n : ℕ) (m : Memory) (q : ℕ) (h : HostQueue) (c : ControllerQueue) → in_service h.state ≡ false → QueueStands n m q h c → QueueStands n m q (a.half_made h) c
makes_half n m q h c out stands =
    record {
      halves = record { submission = stands.halves.submission; completion = λ e. stands.halves.completion (there_ring h c e) };
      rings = λ e. let rings = stands.rings (there_ring h c e) in state_stands m q h c HalfMade h.sq_pages h.cq_pages rings (λ x. rings.drained out);
      granted = λ making absent. absurd (true≢false (sym making));
    }

-- and is so again, once its submission queue is not made
pub unmakes_half : (n : ℕ) (m : Memory) (q : ℕ) (h : HostQueue) (c : ControllerQueue) → in_service h.state ≡ false → is_absent c.state ≡ true → QueueStands n m q h c → QueueStands n m q (a.unmade_sq h) c
unmakes_half n m q h c out absent stands =
    record {
      halves = record { submission = λ e. absurd (true≢false (sym absent ∙ e)); completion = λ e. stands.halves.completion (there_ring h c e) };
      rings = λ e. let rings = stands.rings (there_ring h c e) in state_stands m q h c HalfMade [] h.cq_pages rings (λ x. rings.drained out);
      granted = λ making absent. absurd (true≢false (sym making));
    }

-- a queue with both halves comes into service
pub comes_live : (n : ℕ) (m : Memory) (q : ℕ) (h : HostQueue) (c : ControllerQueue) → c.cq_there ≡ true → QueueStands n m q h c → QueueStands n m q (a.live h) c
comes_live n m q h c queue-here stands =
    let has = there_ring h c queue-here in
    record {
      halves = record { submission = stands.halves.submission; completion = λ x. stands.halves.completion has };
      rings = λ x. state_stands m q h c Live h.sq_pages h.cq_pages (stands.rings has) (λ e. absurd (true≢false e));
      granted = λ making absent. absurd (true≢false (sym making));
    }
