-- The same along walks and runs.
use Rattle.machine_model.specs.After as a
use Rattle.machine_model.specs.Events as events
use Rattle.std.proofs.Common.{◌≡◌, ℕ, zero, suc, ◌+◌, ◌/◌, ◌%◌, ◌<◌, ◌≤◌, ◌==◌, Bool, true, false, ◌&&◌, Some, None, List, [], ◌∷◌, length, take, drop, slice_get, if◌then◌else◌, refl, ap, sym, ◌∙◌, arith, subst, eqb-true, eq-eqb, inl, inr, nat_eq, ◌||◌, Option, ◌++◌}
use Rattle.std.{proofs.lemmas.{Bool.{true≢false, and_parts, and_from, eqb-false, cases_Bool}, Grind.common_steps}, specs.Cmp.Lexicographic.pointwise}
use Rattle.std.specs.{List.AllByRecursion, Option.{option_and_then, option_map_or}}
use Rattle.machine_model.proofs.{Counting.times-append, HostLeaves.ids_of, Moves.{named, status_in}, Owned.in_record, Sound.reaped_submitted}
use Rattle.machine_model.{proofs.Steps.{Accepts, pages_match, same_lists}, specs.After.course_of}
use Rattle.machine_model.specs.{Agreeing.{is_out_of_service_at as past_at, unfetched_count, job_weight, completions_at}, Events.{Event, Reply}}
use Rattle.machine_model.specs.{Image.{Made, submitted_by}, Memory.{memory_of, with_pages}, Proper.IsProper}
use Rattle.machine_model.specs.Refusals.{is_submitted, refusal_of, job_at, is_job, is_drafted, is_held, is_of, asks_for, front_completion}
use Rattle.machine_model.specs.{Standing.unfetched_at, State.{State, ServedQueue, Record, Job, is_at, PostedCompletion, record_at, with_record}}
use Rattle.machine_model.specs.{Step.{reaped}, Trusted.{TrustedRun, drafts_of}, Weights.{one, total, here, sent}, Work.Work}
use Rattle.machine_model.specs.declared.words.{Phase.{TheVariants.Held}, Refusal.Refusal, Work.TheVariants.{Io, Management}}
use Rattle.page_ledger.specs.Owners.{is_among}
use Rattle.page_memory.specs.Pages.{Pages, page_at, with_bytes, with_page_bytes}
use Rattle.sgl_descriptor.specs.{Spelling.{spelling, descriptor_of}, Targets.{Target, Place, targets}, declared.Direction.{Direction, TheVariants.Destination}}
use Rattle.controller_walk.{proofs.Along.{list_moves_along, list_moves_all}, specs.Along.{MovesByte, taken}}
use Rattle.controller_walk.specs.{Units.{Act, Stays, Reads, Moves, Course, Does, units}, declared.walk.WalkState.WalkState}
use Rattle.entry_codec.specs.{Status.is_success, declared.{hints.{Hints.Hints, TheConstants.Hints.NONE}, status.{Status.Status, TheConstants.Status.ABORTED_SQ_DELETION}}}
use Rattle.entry_codec.specs.declared.submission.SubEntry.{SubEntry}
use Rattle.io_commands.specs.{Asked.Request, Drafts.DraftContents, Jobs.{need_of_entry, direction_of_entry}, Requests.{parts_of, direction_of, moves_data}}
use Rattle.io_commands.specs.{Values.numbers_of, declared.request.Kind.TheVariants.Read}
use Rattle.two_sides.proofs.{Along.{Carried, Before, keeps, made_of, run_before}, Commands.{nobody, Walking, walking, no_job}}
use Rattle.two_sides.proofs.{ControllerMoves.{unit_memory, walk_is}, NeverFull.stood_at_opening, PlacesKept.{drafted_not, reaped_completion}, PoolBytes.host_jobs}
use Rattle.two_sides.proofs.Provided.{In, in_found, all_in, all_of, all_in_both}
use Rattle.two_sides.proofs.{Served.{entry_direction, good_is, Stood, course_in, course_whole, requests_same}, Standing.list_at, TiedAll.Grounds}
use Rattle.two_sides.proofs.Untouched.{owned_once, bytes_elsewhere}
use Rattle.run_laws.proofs.Carrying.{MoveTo, MovesTo, moves_to, length_with, reach, reach_more, came, list_ordered, next_above, below_reached, targets_differ, Received, received_more, set_there as set, Stands}
use Rattle.run_laws.proofs.{Causes.{goes_well, Traced, traced_carried, event_keeps}, Images.{walk_image, drafts_more}}
use Rattle.run_laws.proofs.Known.{course_stays, over_units, page_found, unsent, submitted_stand}
use Rattle.run_laws.proofs.Moves.{JobsMove, jobs_event, walked, walked_bytes, queues_walk, QueueMove, queues_event, RecordsMove, records_event, takes, told_entry}
use Rattle.run_laws.proofs.ReadsKept.{Images, read_targets, read_blocks, Reading, ReadingIf, UnreadEntry, FullCompletion, ReadSoFar, Member, sized_of, queue_of, fetched_in, Full, InImage, ReadIfIo, ReadRecord, members, job_request, quiet_on}
use Rattle.slot_table.proofs.Rows.{option_is}
use Rattle.page_memory.proofs.Lists.{found_is, all-found, some_is}

-- The walk of a Read brings it further.

-- What a walk writes

abbrev written_by_act : State → Job → Act → Pages
written_by_act s j act = unit_memory s j Destination act

walk_memory : (s : State) (q cid : ℕ) (j : Job) (act : Act) → job_at s q cid ≡ Some j → a.next_unit s j ≡ Some act → direction_of_entry j.entry ≡ Destination → (a.after_walk q cid s).memory ≡ written_by_act s j act
walk_memory s q cid j act found u dir = ap (λ (t : State). t.memory) (sym (walk_is s q cid j act found u)) ∙ ap (λ (d : Direction). unit_memory s j d act) dir

move_at : (m : Pages) (ts : List Target) (c : Course) (t place n offset : ℕ) → MovesTo m ts c → slice_get (units c) t ≡ Some (Moves place n offset) → MoveTo m ts place n offset
move_at m ts (Does (Moves p n' o) rest) zero place n offset h e = grind arith
move_at m ts (Does Stays rest) (suc t) place n offset h e = move_at m ts rest t place n offset h e
move_at m ts (Does (Reads p) rest) (suc t) place n offset h e = move_at m ts rest t place n offset h e
move_at m ts (Does (Moves p n' o) rest) (suc t) place n offset h e = move_at m ts rest t place n offset h.1 e
move_at m ts c t place n offset h e = absurd cc

set_there : (m : Pages) (p : ℕ) (page : List ℕ) (at : ℕ) (new : List ℕ) → page_at m p ≡ Some page → page_at (with_page_bytes m p at new) p ≡ Some (with_bytes page at new)
set_there m p page at new e = set m p page (option_and_then (λ page. Some (with_bytes page at new)) (page_at m p)) e ∙ ap (option_and_then (λ page. Some (with_bytes page at new))) e

-- a page stays whole
whole_written : (m : Pages) (p q at : ℕ) (page new : List ℕ) → page_at m q ≡ Some page → length page ≡ 4096 → ((x : List ℕ) → page_at m p ≡ Some x → at + length new ≤ length x)
    → (x : List ℕ) × (page_at (with_page_bytes m p at new) q ≡ Some x) × (length x ≡ 4096)
whole_written m p q at page new e whole fits = elim (cases_Bool (p == q)) [
  | inl is ↦
      let same : p ≡ q = eqb-true p q is in
      let here : page_at m p ≡ Some page = ap (page_at m) same ∙ e in
      (with_bytes page at new, ap (page_at (with_page_bytes m p at new)) (sym same) ∙ set_there m p page at new here, length_with page new at (fits page here) ∙ whole)
  | inr is ↦ (page, bytes_elsewhere m p q at new (eqb-false p q is) ∙ e, whole)
]

-- While a job is there, its identifier is nowhere among the entries

pub sent_few : (q cid : ℕ) (rs : List Record) → total (sent q (λ c. one (c == cid))) rs ≤ total (here q cid) rs
sent_few q cid [] = omega arith
sent_few q cid (x ∷ rs) = grind (arith, sent_few q cid rs)

job_not_past : (s : State) → Grounds s → (q cid : ℕ) (j : Job) → job_at s q cid ≡ Some j → past_at s.host.queues q ≡ false
job_not_past s g q cid j found = grind (arith, found_is, in_found)

no_entry : (s : State) → Stood s → (q cid : ℕ) (j : Job) → job_at s q cid ≡ Some j → (P : SubEntry → Type 0) → AllByRecursion (λ (e : SubEntry). e.cid ≡ cid → P e) (unfetched_at s.controller.queues q)
no_entry s stood q cid j found P =
    let w : ℕ → ℕ = λ c. one (c == cid) in
    let un : unfetched_count q w s.host.queues s.controller.queues ≡ total (λ (x : SubEntry). w x.cid) (unfetched_at s.controller.queues q) =
    ap (λ (b : Bool). if b then 0 else total (λ (x : SubEntry). w x.cid) (unfetched_at s.controller.queues q)) (job_not_past s stood.grounds q cid j found) in
    let ids = and_parts (j.q == q) (j.entry.cid == cid) (found_is (is_job q cid) s.controller.jobs j found) in
    let mine : job_weight q w j ≡ 1 = rw ids.0 (ap one ids.1) in
    nobody (λ (e : SubEntry). e.cid) cid P (unfetched_at s.controller.queues q)
    (omega (arith, un, mine, in_found (is_job q cid) s.controller.jobs j found (job_weight q w), stood.places q w, sent_few q cid s.host.records, stood.grounds.stands.0.once q cid))

-- The walk

-- the job of a Read that walks
record Walks (s : State) (q cid : ℕ) (r : Record) (request : Request) (j : Job) (act : Act) : Type 0 where
  none : refusal_of s (events.Walk q cid) ≡ None
  stood : Stood s
  within : In r s.host.records
  member : Member s r
  work : r.work ≡ Io request
  kind : request.kind ≡ Read
  is : is_at q cid r ≡ true
  found : job_at s q cid ≡ Some j
  unit : a.next_unit s j ≡ Some act
  walking : Walking s q cid j

further : (s : State) (q cid : ℕ) (r : Record) (request : Request) (j : Job) (act : Act) (x : Walks s q cid r request j act) (o : WalkState) (touched : List ℕ) → Accepts s (events.Walk q cid) (events.Walked o touched)
    → (drafts : List DraftContents) (at : Images) (h : ReadSoFar drafts at s r request)
    → (y : ReadSoFar drafts at (a.after_walk q cid s) r request) × (h.k ≤ y.k)
further s q cid r request j act x o touched ok drafts at h = (
  record {
    draft = h.draft;
    latest = h.latest;
    asked = h.asked;
    pages = h.pages;
    own = h.own;
    stand = h.stand;
    k = came act h.k;
    whole = λ p own. subst (λ (m : Pages). (page : List ℕ) × (page_at m p ≡ Some page) × (length page ≡ 4096)) (sym memory) (whole act refl p own);
    received = subst (λ (m : Pages). Received m h.own (read_targets r request) (read_blocks at r request) (came act h.k)) (sym memory) (received act refl);
    long = λ some. ap length (sym reading.bytes) ∙ reading.long;
    unfetched = λ sub. subst (λ (qs : List ServedQueue). AllByRecursion (UnreadEntry r (came act h.k)) (list_at (λ at. at.unfetched) qs r.q)) (sym (queues_walk s q cid))
        (subst (λ (c : ℕ). AllByRecursion (λ (e : SubEntry). e.cid ≡ c → came act h.k ≡ 0) (unfetched_at s.controller.queues r.q)) (sym ids.1)
        (subst (λ (n : ℕ). AllByRecursion (λ (e : SubEntry). e.cid ≡ cid → came act h.k ≡ 0) (unfetched_at s.controller.queues n)) (sym ids.0) (no_entry s x.stood q cid j x.found (λ e. came act h.k ≡ 0))));
    jobs = λ sub. jobs_event (ReadingIf at s r request h.k) (ReadingIf at (a.after_walk q cid s) r request (came act h.k)) s (events.Walk q cid) (events.Walked o touched) job_moves ok x.stood (h.jobs sub);
    completions = λ sub. subst (λ (qs : List ServedQueue). AllByRecursion (FullCompletion (a.after_walk q cid s) r request (came act h.k)) (list_at (λ at. at.completions) qs r.q)) (sym (queues_walk s q cid))
        (all_in (FullCompletion s r request h.k) (FullCompletion (a.after_walk q cid s) r request (came act h.k)) (list_at (λ at. at.completions) s.controller.queues r.q)
        (λ an within full same ok. let f = full same ok in (λ i p target. omega (arith, f.0 i p target, more), omega (arith, f.1, image))) (h.completions sub));
    full = λ held. absurd (true≢false (sym held ∙ (grind arith)));
  },
  more,
)
  where
    image : length (a.after_walk q cid s).controller.image ≡ length s.controller.image
    image = ap length (walk_image s q cid)

    ids : (r.q ≡ q) × (r.cid ≡ cid)
    ids = let both = and_parts (r.q == q) (r.cid == cid) x.is in (eqb-true r.q q both.0, eqb-true r.cid cid both.1)

    sq : j.q ≡ r.q
    sq = x.walking.its_queue ∙ sym ids.0

    sc : j.entry.cid ≡ r.cid
    sc = x.walking.its_id ∙ sym ids.1

    same : (r ≡ x.walking.list.command) × (x.walking.list.request ≡ request)
    same = job_request s r request x.member x.work j x.walking.list sq sc

    submitted : is_submitted r.phase ≡ true
    submitted = ap (λ (y : Record). is_submitted y.phase) same.0 ∙ x.walking.list.phase

    dir : direction_of_entry j.entry ≡ Destination
    dir =
        ap direction_of_entry x.walking.list.entry
        ∙ entry_direction x.walking.list.command.cid x.walking.list.request (spelling x.walking.list.list.first) x.walking.list.sized.blocks
        ∙ ap (λ (y : Request). direction_of y.kind) same.1 ∙ ap direction_of x.kind

    moves : moves_data x.walking.list.request.kind ≡ true
    moves = ap (λ (y : Request). moves_data y.kind) same.1 ∙ ap moves_data x.kind

    reading : Reading at s r request h.k j
    reading = all-found (ReadingIf at s r request h.k) (is_job q cid) s.controller.jobs j x.found (h.jobs submitted) sq sc (ap goes_well x.walking.verdict)

    memory : (a.after_walk q cid s).memory ≡ written_by_act s j act
    memory = walk_memory s q cid j act x.found x.unit dir

    parts : parts_of x.walking.list.request.pieces x.walking.list.command.data_pages ≡ parts_of request.pieces r.data_pages
    parts = ap (λ (y : Request). parts_of y.pieces x.walking.list.command.data_pages) same.1 ∙ ap (λ (y : Record). parts_of request.pieces y.data_pages) (sym same.0)

    to_all : MovesTo s.memory (read_targets r request) (course_of s j)
    to_all =
        let whole = course_whole s x.stood j x.walking.list moves in
        subst (λ (d : Direction). MovesTo s.memory (targets d (parts_of request.pieces r.data_pages)) (course_of s j)) dir
        (moves_to s.memory (memory_of s.memory) (direction_of_entry j.entry) (need_of_entry j.entry) x.walking.list.command.chain_pages x.walking.list.command.data_pages (targets (direction_of_entry j.entry) (parts_of request.pieces r.data_pages))
        (λ p own. h.whole p (ap (λ (y : Record). is_among y.data_pages p) same.0 ∙ own)) (course_of s j) (taken (direction_of_entry j.entry) (need_of_entry j.entry) [] (descriptor_of j.entry.sgl1))
        (list_moves_along (memory_of s.memory) j.entry.sgl1 (direction_of_entry j.entry) (need_of_entry j.entry)) (whole.takes ∙ ap (targets (direction_of_entry j.entry)) parts) (course_in s j x.walking.list))

    to : (place n offset : ℕ) → act ≡ Moves place n offset → MoveTo s.memory (read_targets r request) place n offset
    to place n offset is = move_at s.memory (read_targets r request) (course_of s j) j.units_done place n offset to_all (x.unit ∙ ap (λ (y : Act). Some y) is)

    above : (place n offset : ℕ) → act ≡ Moves place n offset → h.k ≤ offset
    above place n offset is =
        subst (λ (m : ℕ). m ≤ offset) (sym reading.came)
        (next_above 0 (course_of s j) j.units_done place n offset (list_ordered (memory_of s.memory) j.entry.sgl1 (direction_of_entry j.entry) (need_of_entry j.entry)) (x.unit ∙ ap (λ (y : Act). Some y) is))

    gap : (place n offset : ℕ) → act ≡ Moves place n offset → (i p : ℕ) → slice_get (read_targets r request) i ≡ Some (Place p) → i < offset → i < h.k
    gap place n offset is i p target lt =
        let whole = course_whole s x.stood j x.walking.list moves in
        let moved : MovesByte i (course_of s j) =
        list_moves_all (memory_of s.memory) j.entry.sgl1 (direction_of_entry j.entry) (need_of_entry j.entry) whole.ends i p
        (ap (λ (ts : List Target). slice_get ts i) (whole.takes ∙ ap (targets (direction_of_entry j.entry)) parts) ∙ ap (λ (d : Direction). slice_get (targets d (parts_of request.pieces r.data_pages)) i) dir ∙ target) in
        subst (λ (m : ℕ). i < m) (sym reading.came)
        (below_reached 0 i (course_of s j) j.units_done place n offset (list_ordered (memory_of s.memory) j.entry.sgl1 (direction_of_entry j.entry) (need_of_entry j.entry)) moved (x.unit ∙ ap (λ (y : Act). Some y) is) lt)

    differ : (i k p : ℕ) → slice_get (read_targets r request) i ≡ Some (Place p) → slice_get (read_targets r request) k ≡ Some (Place p) → i ≡ k
    differ i k p e f =
        targets_differ request.pieces r.data_pages (good_is request (sized_of s r request x.member x.work).good).crosses
        (λ q. omega (arith, owned_once _ q s.host x.stood.grounds.stands.0, x.within (in_record q), times-append q r.data_pages r.chain_pages)) i k p e f

    received : (y : Act) → act ≡ y → Received (written_by_act s j y) h.own (read_targets r request) (read_blocks at r request) (came y h.k)
    received Stays is = h.received
    received (Reads place) is = h.received
    received (Moves place n offset) is =
        subst (λ (bs : List ℕ). Received (with_page_bytes s.memory (place / 4096) (place % 4096) (take n (drop offset bs))) h.own (read_targets r request) (read_blocks at r request) (offset + n)) (sym reading.bytes)
        (received_more s.memory h.own (read_targets r request) (read_blocks at r request) h.k place n offset (to place n offset is) (ap length (sym reading.bytes) ∙ reading.long) differ (above place n offset is) (gap place n offset is) h.received)

    few : (xs : List ℕ) (n : ℕ) → length (take n xs) ≤ n
    few xs n = grind (arith, common_steps)

    whole : (y : Act) → act ≡ y → (p : ℕ) → is_among r.data_pages p ≡ true → (page : List ℕ) × (page_at (written_by_act s j y) p ≡ Some page) × (length page ≡ 4096)
    whole Stays is p own = h.whole p own
    whole (Reads place) is p own = h.whole p own
    whole (Moves place n offset) is p own =
        let page = h.whole p own in
        let m = to place n offset is in
        whole_written s.memory (place / 4096) p (place % 4096) page.0 (take n (drop offset j.bytes)) page.1 page.2
        (λ z e. let same : z ≡ m.page = some_is (sym e ∙ m.there) in omega (arith, few (drop offset j.bytes) n, m.one_page, m.whole, ap length same))

    more : h.k ≤ came act h.k
    more = by act refl
      where
        by : (y : Act) → act ≡ y → h.k ≤ came y h.k
        by Stays is = omega arith
        by (Reads place) is = omega arith
        by (Moves place n offset) is = omega (arith, above place n offset is)

    one_job : (q' cid' : ℕ) (j' : Job) → events.Walk q cid ≡ events.Walk q' cid' → job_at s q' cid' ≡ Some j' → j' ≡ j
    one_job q' cid' j' is found' =
        let sq' : q ≡ q' = first is in
        let sc' : cid ≡ cid' = second is in
        some_is (sym found' ∙ sym (ap (λ (n : ℕ). job_at s n cid') sq') ∙ sym (ap (job_at s q) sc') ∙ x.found)
      where
        first : {a b c d : ℕ} → events.Walk a b ≡ events.Walk c d → a ≡ c
        first e = cc

        second : {a b c d : ℕ} → events.Walk a b ≡ events.Walk c d → b ≡ d
        second e = cc

    stays_bytes : (y : Act) → walked_bytes s j Destination y ≡ j.bytes
    stays_bytes Stays = refl
    stays_bytes (Reads place) = refl
    stays_bytes (Moves place n offset) = refl

    next : Reading at (a.after_walk q cid s) r request (came act h.k) (walked s j act)
    next =
        let course = course_stays s (events.Walk q cid) (events.Walked o touched) ok x.stood j x.walking.list in
        let bytes : walked_bytes s j (direction_of_entry j.entry) act ≡ j.bytes = ap (λ (d : Direction). walked_bytes s j d act) dir ∙ stays_bytes act in
        record {
          bytes = bytes ∙ reading.bytes;
          long = ap length bytes ∙ reading.long;
          inside = omega (arith, reading.inside, image);
          came = ap (came act) reading.came ∙ sym (reach_more (units (course_of s j)) j.units_done 0 act x.unit) ∙ ap (λ (c : Course). reach 0 (take (j.units_done + 1) (units c))) (sym course);
          over = λ st v. subst (λ (c : Course). length (units c) ≤ j.units_done + 1) (sym course) (over_units (j.units_done + 1) (course_of s j) st v);
        }

    job_moves : JobsMove (ReadingIf at s r request h.k) (ReadingIf at (a.after_walk q cid s) r request (came act h.k)) s (events.Walk q cid)
    job_moves = record {
      stays = λ n y found far known yq yc well. absurd (true≢false (sym (and_from (y.q == q) (y.entry.cid == cid) (eq-eqb y.q q (yq ∙ ids.0)) (eq-eqb y.entry.cid cid (yc ∙ ids.1))) ∙ far));
      fails = λ n y st waiting found far lost none known yq yc well. absurd (true≢false (sym well ∙ lost));
      manages = λ entry st dw0 is next free yq. absurd (true≢false (sym (eq-eqb r.q 0 (sym yq)) ∙ queue_of s r request x.member x.work));
      begins = λ n entry is. absurd (no_fetch is);
      walks = λ n c y act' is w u known yq yc well.
          let one : y ≡ j = one_job n c y is w.found in
          let same_act : act' ≡ act = some_is (sym u ∙ ap (λ (z : Job). a.next_unit s z) one ∙ x.unit) in
          subst (λ (z : Job). Reading at (a.after_walk q cid s) r request (came act h.k) (walked s z act')) (sym one)
          (subst (λ (z : Act). Reading at (a.after_walk q cid s) r request (came act h.k) (walked s j z)) (sym same_act) next);
    }
      where
        no_fetch : {n : ℕ} → events.Walk q cid ≡ events.Fetch n → ⊥
        no_fetch e = cc

pub walk_on : (s : State) (q cid : ℕ) (reply : Reply) → Accepts s (events.Walk q cid) reply → Stood s → (r : Record) (request : Request) → In r s.host.records → Member s r → r.work ≡ Io request → request.kind ≡ Read → is_at q cid r ≡ true
    → (drafts : List DraftContents) (at : Images) (h : ReadSoFar drafts at s r request) → (y : ReadSoFar drafts at (a.after s (events.Walk q cid) reply) r request) × (h.k ≤ y.k)
walk_on s q cid (events.Walked o touched) ok stood r request within member work kind is drafts at h = elim (option_is (a.next_unit s ok.1.0)) [
  | inl u ↦ let answered = rw u at ok.1.2 in absurd answered
  | inr (act, u) ↦
      further s q cid r request ok.1.0 act
      (record { none = ok.0; stood = stood; within = within; member = member; work = work; kind = kind; is = is; found = ok.1.1; unit = u; walking = walking s q cid ok.1.0 ok.0 stood ok.1.1 })
      o touched ok drafts at h
]
walk_on s q cid reply ok stood r request within member work kind is drafts at h = absurd ok.1

-- What is known of Reads, after each step of a run.

-- What an event is taken for
record Taken (s : State) (e : Event) (reply : Reply) : Type 0 where
  proper : IsProper e
  ok : Accepts s e reply
  trusted : s.trusted ≡ true
  stood : Stood s
  image : length (a.after s e reply).controller.image ≡ length s.controller.image

-- a record that stays
kept : (s : State) (e : Event) (reply : Reply) (x : Taken s e reply) (r : Record) (request : Request) → In r s.host.records → Member s r → (is_submitted r.phase || is_held r.phase) ≡ true → takes e r ≡ false → r.work ≡ Io request → request.kind ≡ Read
    → (drafts : List DraftContents) (at : Images) (h : ReadSoFar drafts at s r request) → (y : ReadSoFar (submitted_by e reply ++ drafts) (fetched_in s e reply at) (a.after s e reply) r request) × (h.k ≤ y.k)
kept s (events.Walk q cid) reply x r request within member stays far work kind drafts at h = elim (cases_Bool (is_at q cid r)) [
  | inl is ↦ walk_on s q cid reply x.ok x.stood r request within member work kind is drafts at h
  | inr is ↦
      quiet_on s (events.Walk q cid) reply r request
      (record { ok = x.ok; proper = x.proper; stood = x.stood; within = within; member = member; stays = stays; still = is; work = work; kind = kind; image = x.image }) far drafts at h
]
kept s e reply x r request within member stays far work kind drafts at h =
    quiet_on s e reply r request
    (record { ok = x.ok; proper = x.proper; stood = x.stood; within = within; member = member; stays = stays; still = refl; work = work; kind = kind; image = x.image }) far drafts at h

pub first_all : (P : PostedCompletion → Type 0) (o : Option ServedQueue) (an : PostedCompletion) → option_and_then (λ queue. front_completion queue.completions) o ≡ Some an → AllByRecursion P (option_map_or (λ at. at.completions) o []) → P an
first_all P None an e all = absurd cc
first_all P (Some queue) an e all = grind arith

completed_full : (s : State) (q cid : ℕ) (st : Status) (r : Record) (request : Request) (k : ℕ) → s.trusted ≡ true → named (reaped s q) ≡ Some cid → status_in (reaped s q) ≡ Some st → (r.q ≡ q) × (r.cid ≡ cid) → is_success st ≡ true
    → AllByRecursion (FullCompletion s r request k) (list_at (λ at. at.completions) s.controller.queues r.q) → Full (read_targets r request) k × InImage s request
completed_full s q cid st r request k trusted n x ids ok all = grind (arith, reaped_completion, told_entry, status_in, first_all, list_at)

-- a command that is submitted has read nothing
submitted_reads : (s : State) (d : DraftContents) (reply : Reply) → Taken s (events.Submit d) reply → (drafts : List DraftContents) (at : Images) (entry : SubEntry) (r : Record) (request : Request) → d.entry ≡ Some entry → record_at s.host d.q d.cid ≡ Some r
    → is_of is_drafted d.request (numbers_of d.data_pages) (numbers_of d.chain_pages) r ≡ true → r.work ≡ Io request → ReadSoFar (submitted_by (events.Submit d) reply ++ drafts) at (a.after s (events.Submit d) reply) (a.submitted r) request
submitted_reads s d events.Accepted x drafts at entry r request built found fits w =
    let both : ((is_drafted r.phase && asks_for d.request r.work) ≡ true) × (pointwise nat_eq (numbers_of d.data_pages) r.data_pages ≡ true) = grind arith in
    let ids = ids_of s d.q d.cid r found in
    let numbers = same_lists (numbers_of d.data_pages) r.data_pages both.1 in
    let none = unsent s d x.stood.grounds r found (drafted_not r.phase (pages_match is_drafted d.request d.data_pages d.chain_pages r fits).1) in
    record {
      draft = d;
      latest = rw (ids.0, ids.1) (rw (eq-eqb d.q d.q refl, eq-eqb d.cid d.cid refl) refl);
      asked = requests_same d.request request (ap (asks_for d.request) (sym w) ∙ (and_parts (is_drafted r.phase) (asks_for d.request r.work) both.0).1);
      pages = numbers;
      own = (a.after_submit d s).memory;
      stand = stand;
      k = 0;
      whole = λ p own. page_found (a.after_submit d s).memory d.data_pages stand p (ap (λ (ns : List ℕ). is_among ns p) numbers ∙ own);
      received = record { first = λ i p target lt. absurd (omega (arith, lt)); rest = λ i p target le. refl };
      long = λ some. absurd (omega (arith, some));
      unfetched = λ sub. all_of (UnreadEntry (a.submitted r) 0) (list_at (λ at. at.unfetched) (a.after_submit d s).controller.queues r.q) (λ y within same. refl);
      jobs = λ sub. subst (AllByRecursion (ReadingIf at (a.after_submit d s) (a.submitted r) request 0)) (sym (host_jobs s (events.Submit d) events.Accepted x.ok refl refl))
          (subst (λ (q : ℕ). AllByRecursion (λ (j : Job). j.q ≡ q → j.entry.cid ≡ r.cid → goes j) s.controller.jobs) (sym ids.0) (subst (λ (c : ℕ). AllByRecursion (λ (j : Job). j.q ≡ d.q → j.entry.cid ≡ c → goes j) s.controller.jobs) (sym ids.1)
          (no_job d.q d.cid goes s.controller.jobs (omega (arith, x.stood.places d.q (λ n. one (n == d.cid)), none)))));
      completions = λ sub. queues_event (λ at. at.completions) (FullCompletion (a.after_submit d s) (a.submitted r) request 0) r.q s (events.Submit d) events.Accepted completions_move x.ok x.stood
          (subst (λ (q : ℕ). AllByRecursion (λ (an : PostedCompletion). an.cid ≡ r.cid → full an) (completions_at s.controller.queues q)) (sym ids.0) (subst (λ (c : ℕ). AllByRecursion (λ (an : PostedCompletion). an.cid ≡ c → full an) (completions_at s.controller.queues d.q)) (sym ids.1)
          (nobody (λ (an : PostedCompletion). an.cid) d.cid full (completions_at s.controller.queues d.q) (omega (arith, x.stood.places d.q (λ n. one (n == d.cid)), none)))));
      full = λ held. absurd (true≢false (sym held));
    }
  where
    goes : Job → Type 0
    goes j = goes_well j.verdict ≡ true → Reading at (a.after_submit d s) (a.submitted r) request 0 j

    full : PostedCompletion → Type 0
    full an = is_success an.status ≡ true → Full (read_targets (a.submitted r) request) 0 × InImage (a.after_submit d s) request

    stand : AllByRecursion (Stands (a.after_submit d s).memory) d.data_pages
    stand = subst (λ (o : Option SubEntry). AllByRecursion (Stands (option_map_or (λ entry. a.posted d.q entry (a.on_records (with_record d.q d.cid a.submitted) (a.on_memory (with_pages (d.data_pages ++ d.chain_pages)) s))) o s).memory) d.data_pages) (sym built)
        (submitted_stand s d entry x.ok.0 x.proper.data_pages x.stood.grounds)

    completions_move : QueueMove (λ at. at.completions) (FullCompletion (a.after_submit d s) (a.submitted r) request 0) r.q s (events.Submit d)
    completions_move = record {
      posts = λ d entry at is built z all. all;
      sends = λ entry at z all. all;
      rings = λ rung at all. all;
      reaps = λ at all. dropped at.completions all;
      fetches = λ rung at all. all;
      stops = λ at all. all;
      drops = λ at all. tt;
      makes_completion = λ at all. tt;
      makes_submission = λ at all. tt;
      clears = λ at all. all;
      empties = (tt, tt);
      completes = λ cid j head at is found all. absurd (cc (is));
    }
      where
        dropped : (xs : List PostedCompletion) → AllByRecursion (FullCompletion (a.after_submit d s) (a.submitted r) request 0) xs → AllByRecursion (FullCompletion (a.after_submit d s) (a.submitted r) request 0) (drop 1 xs)
        dropped [] h = tt
        dropped (y ∷ xs) h = h.1
submitted_reads s d reply x drafts at entry r request built found fits w = absurd x.ok.1

-- Records

reads_move : (drafts : List DraftContents) (at : Images) (s : State) (e : Event) (reply : Reply) → Taken s e reply
    → RecordsMove (λ r. Member s r × ReadRecord drafts at s r) (ReadRecord (submitted_by e reply ++ drafts) (fetched_in s e reply at) (a.after s e reply)) s e
reads_move drafts at s e reply x = record {
  stays = λ r within far p stays. stay r within p.0 far stays r.work refl (p.1 stays);
  reserves = λ d stays. absurd (true≢false (sym stays));
  sends = λ adm id stays. tt;
  submits = λ d entry r is built found fits p stays.
      subst (λ (y : Event). Taken s y reply → ReadIfIo (submitted_by y reply ++ drafts) (fetched_in s y reply at) (a.after s y reply) (a.submitted r) r.work) (sym is)
      (λ z. new d z entry r built found fits r.work refl) x;
  reaps = λ q cid st entry request r is seen n status found w p stays.
      subst (ReadIfIo (submitted_by e reply ++ drafts) (fetched_in s e reply at) (a.after s e reply) (a.held st entry.hints r)) (sym w)
      (λ kind. reap q cid st entry.hints request r is n status found w p.0 kind (subst (ReadIfIo drafts at s r) w (p.1 (rw (reaped_sub q cid r n found) refl)) kind));
  loses = λ r within sub far p stays. lose r within sub far p.0 r.work refl (p.1 (rw sub refl));
  collects = λ r p stays. absurd (true≢false (sym stays));
}
  where
    stay : (r : Record) → In r s.host.records → Member s r → takes e r ≡ false → (is_submitted r.phase || is_held r.phase) ≡ true → (w : Work) → r.work ≡ w
        → ReadIfIo drafts at s r w → ReadIfIo (submitted_by e reply ++ drafts) (fetched_in s e reply at) (a.after s e reply) r w
    stay r within m far stays (Management adm) w h = tt
    stay r within m far stays (Io request) w h = λ kind. (kept s e reply x r request within m stays far w kind drafts at (h kind)).0

    new : (d : DraftContents) → Taken s (events.Submit d) reply → (entry : SubEntry) (r : Record) → d.entry ≡ Some entry → record_at s.host d.q d.cid ≡ Some r → is_of is_drafted d.request (numbers_of d.data_pages) (numbers_of d.chain_pages) r ≡ true
        → (w : Work) → r.work ≡ w → ReadIfIo (submitted_by (events.Submit d) reply ++ drafts) (fetched_in s (events.Submit d) reply at) (a.after s (events.Submit d) reply) (a.submitted r) w
    new d z entry r built found fits (Management adm) w = tt
    new d z entry r built found fits (Io request) w = λ kind. submitted_reads s d reply z drafts (fetched_in s (events.Submit d) reply at) entry r request built found fits w

    reaped_sub : (q cid : ℕ) (r : Record) → named (reaped s q) ≡ Some cid → record_at s.host q cid ≡ Some r → is_submitted r.phase ≡ true
    reaped_sub q cid r n found =
        let y = reaped_submitted s q cid n in
        let same : y.0 ≡ r = cc (y.1, found) in
        ap (λ (z : Record). is_submitted z.phase) (sym same) ∙ y.2

    -- the same record, held
    hold : (st : Status) (hints : Hints) (r : Record) (request : Request) → (y : ReadSoFar (submitted_by e reply ++ drafts) (fetched_in s e reply at) (a.after s e reply) r request)
        → (is_success st ≡ true → Full (read_targets r request) y.k × InImage (a.after s e reply) request)
        → ReadSoFar (submitted_by e reply ++ drafts) (fetched_in s e reply at) (a.after s e reply) (a.held st hints r) request
    hold st hints r request y done = record {
      draft = y.draft;
      latest = y.latest;
      asked = y.asked;
      pages = y.pages;
      own = y.own;
      stand = y.stand;
      k = y.k;
      whole = y.whole;
      received = y.received;
      long = y.long;
      unfetched = λ sub. absurd (true≢false (sym sub));
      jobs = λ sub. absurd (true≢false (sym sub));
      completions = λ sub. absurd (true≢false (sym sub));
      full = λ held st' is ok. done (ap is_success (some_is is) ∙ ok);
    }

    reap : (q cid : ℕ) (st : Status) (hints : Hints) (request : Request) (r : Record) → e ≡ events.Reap q → named (reaped s q) ≡ Some cid → status_in (reaped s q) ≡ Some st → record_at s.host q cid ≡ Some r → r.work ≡ Io request → Member s r
        → request.kind ≡ Read → ReadSoFar drafts at s r request → ReadSoFar (submitted_by e reply ++ drafts) (fetched_in s e reply at) (a.after s e reply) (a.held st hints r) request
    reap q cid st hints request r is n status found w m kind h =
        let sub = reaped_sub q cid r n found in
        let y = kept s e reply x r request (in_found (is_at q cid) s.host.records r found) m (rw sub refl) (subst (λ (z : Event). takes z r ≡ false) (sym is) refl) w kind drafts at h in
        hold st hints r request y.0
        (λ ok. let f = completed_full s q cid st r request h.k x.trusted n status (ids_of s q cid r found) ok (h.completions sub) in (λ i p target. omega (arith, f.0 i p target, y.1), omega (arith, f.1, x.image)))

    lose : (r : Record) → In r s.host.records → is_submitted r.phase ≡ true → takes e r ≡ false → Member s r → (w : Work) → r.work ≡ w → ReadIfIo drafts at s r w
        → ReadIfIo (submitted_by e reply ++ drafts) (fetched_in s e reply at) (a.after s e reply) (a.aborted r) w
    lose r within sub far m (Management adm) w h = tt
    lose r within sub far m (Io request) w h = λ kind.
        hold ABORTED_SQ_DELETION NONE r request (kept s e reply x r request within m (rw sub refl) far w kind drafts at (h kind)).0 (λ ok. absurd (true≢false (sym ok)))

-- Steps

pub record ReadsKnown (drafts : List DraftContents) (at : Images) (s : State) : Type 0 where
  pub records : AllByRecursion (ReadRecord drafts at s) s.host.records
  pub images : (q cid : ℕ) → length (at q cid) ≡ length s.controller.image

reads_on : (drafts : List DraftContents) (at : Images) (s : State) (e : Event) (reply : Reply) → Taken s e reply → ReadsKnown drafts at s → ReadsKnown (submitted_by e reply ++ drafts) (fetched_in s e reply at) (a.after s e reply)
reads_on drafts at s e reply x h = record {
  records = records_event (λ r. Member s r × ReadRecord drafts at s r) (ReadRecord (submitted_by e reply ++ drafts) (fetched_in s e reply at) (a.after s e reply)) s e reply (reads_move drafts at s e reply x) x.ok x.stood.grounds
      (all_in_both (Member s) (ReadRecord drafts at s) (λ r. Member s r × ReadRecord drafts at s r) s.host.records (λ r within p m. (m, p)) h.records (members s x.stood));
  images = λ q cid. (grind arith);
}

refused_same : (s : State) (drafts : List DraftContents) (at : Images) (e : Event) (why : Refusal) (touched : List ℕ) → ReadsKnown drafts at s → ReadsKnown (submitted_by e (events.Refused why touched) ++ drafts) (fetched_in s e (events.Refused why touched) at) s
refused_same s drafts at (events.Submit d) why touched h = h
refused_same s drafts at (events.Fetch q) why touched h = h
refused_same s drafts at e why touched h = h

-- the images at the latest fetches
abbrev pub images_of : Images → List Made → Images
images_of at [] = at
images_of at (m ∷ made) = images_of (fetched_in m.before m.event m.reply at) made

pub images_append : (at : Images) (xs ys : List Made) → images_of at (xs ++ ys) ≡ images_of (images_of at xs) ys
images_append at [] ys = refl
images_append at (x ∷ xs) ys = images_append (fetched_in x.before x.event x.reply at) xs ys

pub record ReadsSo (image : List ℕ) (done : List Made) (s : State) : Type 0 where
  pub traced : Traced done s
  pub reads : ReadsKnown (drafts_of done) (images_of (λ q cid. image) done) s

reads_more : (image : List ℕ) (done : List Made) (m : Made) (t : State) → Traced (done ++ m ∷ []) t
    → ReadsKnown (submitted_by m.event m.reply ++ drafts_of done) (fetched_in m.before m.event m.reply (images_of (λ q cid. image) done)) t → ReadsSo image (done ++ m ∷ []) t
reads_more image done m t traced h = record {
  traced = traced;
  reads = subst (λ (ds : List DraftContents). ReadsKnown ds (images_of (λ q cid. image) (done ++ m ∷ [])) t) (sym (drafts_more done m))
      (subst (λ (at : Images). ReadsKnown (submitted_by m.event m.reply ++ drafts_of done) at t) (sym (images_append (λ q cid. image) done (m ∷ []))) h);
}

pub reads_carried : (image : List ℕ) → Carried (ReadsSo image)
reads_carried image = record {
  refused = λ done s e why touched h. reads_more image done (made_of s e (events.Refused why touched)) s (traced_carried.refused done s e why touched h.traced)
      (refused_same s (drafts_of done) (images_of (λ q cid. image) done) e why touched h.reads);
  taken = λ done s e reply proper ok t h. reads_more image done (made_of s e reply) (a.after s e reply) (traced_carried.taken done s e reply proper ok t h.traced)
      (reads_on (drafts_of done) (images_of (λ q cid. image) done) s e reply
      (record { proper = proper; ok = ok; trusted = t; stood = h.traced.stood; image = (event_keeps done s e reply ok h.traced.stood h.traced.caused).image }) h.reads);
}

pub reads_before : (image : List ℕ) (earlier later : List Made) (m : Made) (end : State) → TrustedRun image (earlier ++ m ∷ later) end → Before (ReadsSo image) earlier m
reads_before image =
    run_before (ReadsSo image) (keeps (ReadsSo image) (reads_carried image)) image
    (λ pages queues n s opens. record { traced = record { stood = stood_at_opening pages queues n s image opens; caused = tt }; reads = record { records = tt; images = λ q cid. refl } })
