-- Commands of one queue are apart.
use Rattle.machine_model.specs.After as a
use Rattle.machine_model.specs.Events as events
use Rattle.std.proofs.Common.{◌≡◌, ℕ, ◌-◌, ◌%◌, ◌==◌, Bool, true, false, not, ◌&&◌, Option, Some, None, List, [], ◌∷◌, ◌++◌, length, map, filter, drop, slice_get, if◌then◌else◌, refl, ap, sym, ◌∙◌, subst, arith, zero, suc, ◌+◌, ◌<◌, ◌≤◌, is_some, eq-eqb, ◌/◌, ◌||◌, take, eqb-true, add-zero, inl, inr}
use Rattle.std.{proofs.lemmas.{Bool.{true≢false, and_from, or_left, or_right, and_parts, or_parts, cases_Bool}, List.length-map}, specs.List.AllByRecursion}
use Rattle.std.specs.Option.{option_map_or}
use Rattle.sgl_descriptor.specs.{Spelling.spelling, declared.Direction.{Direction, TheVariants.{Destination, Source}}}
use Rattle.sgl_chain.{proofs.Back.spells_there, specs.{Laws.HasBytesOf, Spells.Spells}}
use Rattle.page_ledger.specs.Owners.{is_among}
use Rattle.page_memory.specs.{Memory.page_of, Pages.{Pages, page_at, byte_at, with_page_bytes}}
use Rattle.admin_commands.specs.{Entries.{named_queue, named_command, admin_entry}, declared.AdminKind.{AdminKind, TheVariants.{Abort, DeleteSq, DeleteCq}}}
use Rattle.admin_commands.specs.declared.SqState.TheVariants.{Stopping}
use Rattle.entry_codec.specs.declared.{status.{Status.Status, TheConstants.Status.{ABORT_REQUESTED, ABORTED_SQ_DELETION}}, submission.SubEntry.SubEntry}
use Rattle.entry_codec.specs.declared.hints.TheConstants.Hints.{NONE}
use Rattle.io_commands.{proofs.Building.{carries_entry, draft_of_blocks}, specs.{Asked.Request, Drafts.{io_entry, DraftContents, draft_first, draft_parts, draft_entry}}}
use Rattle.io_commands.specs.{Jobs.{io_fault, bytes_after_check, direction_of_entry}, Requests.{has_list, joined_parts, fault_of, is_admin, data_count, FitsRequest}}
use Rattle.io_commands.specs.Values.{numbers_of}
use Rattle.machine_model.proofs.{Counting.{held_once, times-append}, HostLeaves.ids_of, Kept.live_has_sq}
use Rattle.machine_model.proofs.Moves.{IsOf, posts, host_moves, sends, sent_record, creates_cq, creates_sq, grants_cq, grants_sq}
use Rattle.machine_model.proofs.{Owned.{in_record, in_queue, all_reset}, Steps.{managed_by, Accepts, unrefused, part_controller}}
use Rattle.machine_model.proofs.{Sound.of_blocks, TokensKept.{reset_command, sized_of}}
use Rattle.machine_model.specs.{Agreeing.{CommandsStand as Commands, is_out_of_service_at as past_at, unfetched_count, job_weight}, Claims.OwnsFit}
use Rattle.machine_model.specs.{Events.{Event, Reply}, Memory.{with_pages, without_pages, zeroed_pages}, Proper.IsProper}
use Rattle.machine_model.specs.Reached.{only, on_pages, ActIn, CourseIn}
use Rattle.machine_model.specs.Refusals.{is_submitted, is_job, is_drafted, is_live, asks_for, in_state, refusal_of, job_at, job_is, slot_page, slot_offset}
use Rattle.machine_model.specs.Standing.{HasEntry, ListStands, StandsAs, CommandStands, unfetched_at}
use Rattle.machine_model.specs.State.{PostedCompletion, State, ServedQueue, Record, Job, pages_of, is_at, with_record, record_at, without_record}
use Rattle.machine_model.specs.{Step.{times, HostPart, IsController}, Weights.{one, total, sent}, Work.Work, declared.words.Phase.TheVariants.{Drafted, Held}}
use Rattle.machine_model.specs.declared.words.{Peer.TheVariants.{Modelled}, Work.TheVariants.{Io, Management}}
use Rattle.queue_pair.specs.Members.{change}
use Rattle.two_sides.proofs.ControllerMoves.{unit_done, finished, cleared, fetch_by, walk_by, complete_by, unit_memory}
use Rattle.two_sides.proofs.PlacesKept.{InHand, in_hand, entry_cid, first_is, on_job_q, on_job_entry, stopped_entry, PlacesIn}
use Rattle.two_sides.proofs.Provided.{In, all_in_both, all_map, all_append, all_drop_one, in_found, in_at, all_in, all_with, is_found, sent_found}
use Rattle.two_sides.proofs.Served.{counts_sent, chain_of, data_of, page_below, Stood, JobList, job_list, course_in, requests_same, reserved_size, first_read, brought, draft_spells}
use Rattle.two_sides.proofs.{Standing.all_list, Tied.stopped_q, TiedAll.{Grounds, admins_of, pair_at, ring_in}}
use Rattle.two_sides.proofs.Untouched.{sent_page, owned_once, bytes_elsewhere, posts_elsewhere, untouched, PostsElsewhere, live_queue, is_walk}
use Rattle.controller_walk.specs.Units.{Act, Stays, Reads, Moves, Course, Closes, Does, units}
use Rattle.page_memory.proofs.Lists.{found_is, all-back, all-found, all-filter}

-- What of the controller's part and of memory each command's list depends on, and how records change.

-- Where the controller has an entry

abbrev pub Keeps : List ServedQueue → List Job → List ServedQueue → List Job → Type 0
Keeps qs js qs' js' = (q cid : ℕ) (entry : SubEntry) → HasEntry qs js q cid entry → HasEntry qs' js' q cid entry

pub keeps_queue : (qs : List ServedQueue) (js : List Job) (k : ℕ) (f : ServedQueue → ServedQueue)
    → ((P : SubEntry → Type 0) (at : ServedQueue) → AllByRecursion P at.unfetched → AllByRecursion P (f at).unfetched) → Keeps qs js (change k f qs) js
keeps_queue qs js k f step q cid entry h = record {
  unfetched = all_list (λ e. e.cid ≡ cid → e ≡ entry) (λ at. at.unfetched) k f qs q (λ at e all. step (λ e. e.cid ≡ cid → e ≡ entry) at all) h.unfetched;
  fetched = h.fetched;
}

keeps_state : (qs : List ServedQueue) (js : List Job) (k : ℕ) (f : ServedQueue → ServedQueue) → ((at : ServedQueue) → (f at).unfetched ≡ at.unfetched) → Keeps qs js (change k f qs) js
keeps_state qs js k f same = keeps_queue qs js k f (λ P at all. subst (AllByRecursion P) (sym (same at)) all)

pub keeps_jobs : (qs : List ServedQueue) (js : List Job) (f : Job → Job) → ((j : Job) → (f j).q ≡ j.q) → ((j : Job) → (f j).entry ≡ j.entry) → Keeps qs js qs (map f js)
keeps_jobs qs js f sq se q cid entry h = record {
  unfetched = h.unfetched;
  fetched = all_map (λ j. j.q ≡ q → j.entry.cid ≡ cid → j.entry ≡ entry) (λ j. j.q ≡ q → j.entry.cid ≡ cid → j.entry ≡ entry) f js
      (λ j p eq ec. se j ∙ p (sym (sq j) ∙ eq) (ap (λ (e : SubEntry). e.cid) (sym (se j)) ∙ ec)) h.fetched;
}

keeps_filter : (qs : List ServedQueue) (js : List Job) (keep : Job → Bool) → Keeps qs js qs (filter keep js)
keeps_filter qs js keep q cid entry h = record { unfetched = h.unfetched; fetched = all-filter (λ j. j.q ≡ q → j.entry.cid ≡ cid → j.entry ≡ entry) keep js h.fetched }

pub keeps_both : (qs qs' qs'' : List ServedQueue) (js js' js'' : List Job) → Keeps qs js qs' js' → Keeps qs' js' qs'' js'' → Keeps qs js qs'' js''
keeps_both qs qs' qs'' js js' js'' f g q cid entry h = g q cid entry (f q cid entry h)

-- a job comes from the entry in hand
pub in_hand_is : (s : State) (q : ℕ) (e : SubEntry) → InHand s q e → (cid : ℕ) (entry : SubEntry) → HasEntry s.controller.queues s.controller.jobs q cid entry → e.cid ≡ cid → e ≡ entry
in_hand_is s q e hand cid entry h same =
    let first : AllByRecursion (λ e. e.cid ≡ cid → e ≡ entry) hand.queue.unfetched =
    subst (λ (o : Option ServedQueue). AllByRecursion (λ e. e.cid ≡ cid → e ≡ entry) (option_map_or (λ at. at.unfetched) o [])) hand.at h.unfetched in
    (subst (λ (xs : List SubEntry). AllByRecursion (λ e. e.cid ≡ cid → e ≡ entry) xs) (first_is hand.queue.unfetched e hand.first) first).0 same

keeps_job : (s : State) (q : ℕ) (e : SubEntry) → InHand s q e → (qs' : List ServedQueue) (js' : List Job) (j : Job) → j.q ≡ q → j.entry ≡ e → Keeps s.controller.queues s.controller.jobs qs' js' → Keeps s.controller.queues s.controller.jobs qs' (js' ++ j ∷ [])
keeps_job s q e hand qs' js' j jq je keeps k cid entry h =
    let h' = keeps k cid entry h in
    record {
      unfetched = h'.unfetched;
      fetched = all_append (λ j. j.q ≡ k → j.entry.cid ≡ cid → j.entry ≡ entry) js' (j ∷ []) h'.fetched
          ((λ eq ec. je ∙ in_hand_is s q e hand cid entry (subst (λ (n : ℕ). HasEntry s.controller.queues s.controller.jobs n cid entry) (sym eq ∙ jq) h) (ap (λ (x : SubEntry). x.cid) (sym je) ∙ ec)), tt);
    }

keeps_off : (s : State) (q : ℕ) → Keeps s.controller.queues s.controller.jobs (a.taken_off q s).controller.queues s.controller.jobs
keeps_off s q = keeps_queue s.controller.queues s.controller.jobs q (λ at. record at { unfetched = drop 1 at.unfetched; rung = at.rung - 1 }) (λ P at all. all_drop_one P at.unfetched all)

keeps_completed : (s t : State) (q : ℕ) (an : PostedCompletion) → Keeps s.controller.queues s.controller.jobs t.controller.queues t.controller.jobs
    → Keeps s.controller.queues s.controller.jobs (change q (λ at. record at { completions = at.completions ++ an ∷ [] }) t.controller.queues) t.controller.jobs
keeps_completed s t q an keeps =
    let f : ServedQueue → ServedQueue = λ at. record at { completions = at.completions ++ an ∷ [] } in
    keeps_both s.controller.queues t.controller.queues (change q f t.controller.queues) s.controller.jobs t.controller.jobs t.controller.jobs keeps (keeps_state t.controller.queues t.controller.jobs q f (λ at. refl))

keeps_managed : (s : State) (e : SubEntry) → InHand s 0 e → Keeps s.controller.queues s.controller.jobs (a.managed e (a.taken_off 0 s)).controller.queues (a.managed e (a.taken_off 0 s)).controller.jobs
keeps_managed s e hand =
    let stop : Job → Job = λ j. record j { verdict = Some ABORT_REQUESTED; waiting_abort = Some e.cid } in
    let qs : List ServedQueue = (a.taken_off 0 s).controller.queues in
    let off : Keeps s.controller.queues s.controller.jobs (a.taken_off 0 s).controller.queues s.controller.jobs = keeps_off s 0 in
    let queue : (f : ServedQueue → ServedQueue) → ((P : SubEntry → Type 0) (at : ServedQueue) → AllByRecursion P at.unfetched → AllByRecursion P (f at).unfetched) → Keeps s.controller.queues s.controller.jobs (change (named_queue e) f qs) s.controller.jobs = λ f step.
    keeps_both s.controller.queues qs (change (named_queue e) f qs) s.controller.jobs s.controller.jobs s.controller.jobs off (keeps_queue qs s.controller.jobs (named_queue e) f step) in
    let decided : (t : State) → Keeps s.controller.queues s.controller.jobs t.controller.queues t.controller.jobs → (st : Status) (dw0 : ℕ) → Keeps s.controller.queues s.controller.jobs (a.decided e st dw0 t).controller.queues (a.decided e st dw0 t).controller.jobs = λ t keeps st dw0.
    keeps_job s 0 e hand t.controller.queues t.controller.jobs (a.new_job 0 e (Some st) dw0 []) refl refl keeps in
    let s0 : State = a.taken_off 0 s in
    managed_by (λ (t : State). Keeps s.controller.queues s.controller.jobs t.controller.queues t.controller.jobs) e s0
    (record {
      refuses = λ st bad. decided s0 off st 0;
      aborts = λ is8 walks. decided (a.on_job (named_queue e) (named_command e) stop s0)
          (keeps_both s.controller.queues qs qs s.controller.jobs s.controller.jobs _ off
          (keeps_jobs qs s.controller.jobs (λ j. if (j.q == named_queue e) && (j.entry.cid == named_command e) then stop j else j)
          (on_job_q (named_queue e) (named_command e) stop (λ j. refl)) (on_job_entry (named_queue e) (named_command e) stop (λ j. refl)))) _ 0;
      is_late = λ is8. decided s0 off _ 1;
      stops = λ is0 q0 runs. decided (a.on_controller (λ d. record d { jobs = map (a.stopped (named_queue e)) d.jobs }) (a.on_served_queue (named_queue e) (λ at. record at { state = Stopping }) s0))
          (keeps_both s.controller.queues (change (named_queue e) (λ at. record at { state = Stopping }) qs) (change (named_queue e) (λ at. record at { state = Stopping }) qs) s.controller.jobs s.controller.jobs (map (a.stopped (named_queue e)) s.controller.jobs)
          (queue (λ at. record at { state = Stopping }) (λ P at all. all))
          (keeps_jobs (change (named_queue e) (λ at. record at { state = Stopping }) qs) s.controller.jobs (a.stopped (named_queue e)) (stopped_q (named_queue e)) (stopped_entry (named_queue e)))) _ 0;
      drops = λ is4 q0 there gone. decided (a.on_served_queue (named_queue e) a.dropped s0) (queue a.dropped (λ P at all. all)) _ 0;
      makes_completion = λ is5 q0 none. decided (a.on_served_queue (named_queue e) a.completion_made s0) (queue a.completion_made (λ P at all. all)) _ 0;
      makes_submission = λ is1 q0 gone there. decided (a.on_served_queue (named_queue e) a.submission_made s0) (queue a.submission_made (λ P at all. tt)) _ 0;
    })

pub keeps_fetch : (s : State) (q : ℕ) → Keeps s.controller.queues s.controller.jobs (a.after_fetch q s).controller.queues (a.after_fetch q s).controller.jobs
keeps_fetch s q =
    fetch_by (λ (t : State). Keeps s.controller.queues s.controller.jobs t.controller.queues t.controller.jobs) s q (λ k cid entry h. h)
    (λ e n c. keeps_completed s (a.taken_off q s) q _ (keeps_off s q))
    (λ e n c z. keeps_managed s e (subst (λ (n : ℕ). InHand s n e) z (in_hand s q e n)))
    (λ e n c other. let t = a.taken_off q s in
    keeps_job s q e (in_hand s q e n) t.controller.queues s.controller.jobs (a.new_job q e (io_fault (a.image_blocks t) e) 0 (bytes_after_check t.controller.image e (io_fault (a.image_blocks t) e))) refl refl (keeps_off s q))

pub keeps_walk : (s : State) (q cid : ℕ) → Keeps s.controller.queues s.controller.jobs (a.after_walk q cid s).controller.queues (a.after_walk q cid s).controller.jobs
keeps_walk s q cid =
    walk_by (λ (t : State). Keeps s.controller.queues s.controller.jobs t.controller.queues t.controller.jobs) s q cid (λ k c entry h. h)
    (λ j act at u. keeps_jobs s.controller.queues s.controller.jobs (λ k. if (k.q == q) && (k.entry.cid == cid) then unit_done s j act k else k) (on_job_q q cid (unit_done s j act) (λ k. refl)) (on_job_entry q cid (unit_done s j act) (λ k. refl)))

pub keeps_complete : (s : State) (q cid : ℕ) → Keeps s.controller.queues s.controller.jobs (a.after_complete q cid s).controller.queues (a.after_complete q cid s).controller.jobs
keeps_complete s q cid =
    let less : Keeps s.controller.queues s.controller.jobs s.controller.queues (filter (λ x. not (is_job q cid x)) s.controller.jobs) = keeps_filter s.controller.queues s.controller.jobs (λ x. not (is_job q cid x)) in
    complete_by (λ (t : State). Keeps s.controller.queues s.controller.jobs t.controller.queues t.controller.jobs) s q cid (λ k c entry h. h)
    (λ j at c. keeps_completed s (a.on_served_queue (named_queue j.entry) cleared (finished q cid j s)) q _
    (keeps_both s.controller.queues s.controller.queues (change (named_queue j.entry) cleared s.controller.queues) s.controller.jobs (finished q cid j s).controller.jobs (finished q cid j s).controller.jobs less
    (keeps_queue s.controller.queues (finished q cid j s).controller.jobs (named_queue j.entry) cleared (λ P at all. tt))))
    (λ j at c. keeps_completed s (finished q cid j s) q _ less)

-- Lists that stay while their chain pages stay

pub only_same : (m m' : Pages) (chain : List ℕ) → ((p : ℕ) → is_among chain p ≡ true → page_at m' p ≡ page_at m p) → HasBytesOf (only (on_pages chain) (byte_at m')) (only (on_pages chain) (byte_at m))
only_same m m' chain same place byte e = grind arith

pub list_still : (m m' : Pages) (qs qs' : List ServedQueue) (js js' : List Job) (r : Record) (request : Request) → ((p : ℕ) → is_among r.chain_pages p ≡ true → page_at m' p ≡ page_at m p)
    → ((entry : SubEntry) → HasEntry qs js r.q r.cid entry → HasEntry qs' js' r.q r.cid entry) → ListStands m qs js r request → ListStands m' qs' js' r request
list_still m m' qs qs' js js' r request same keeps l = record {
  first = l.first;
  read = l.read;
  spells = λ has. spells_there (only (on_pages r.chain_pages) (byte_at m)) (only (on_pages r.chain_pages) (byte_at m')) (only_same m m' r.chain_pages same) l.first (joined_parts request.pieces r.data_pages) (l.spells has);
  entry = keeps (io_entry r.cid request (spelling l.first)) l.entry;
}

pub commands_still : (X : Record → Type 0) (m m' : Pages) (qs qs' : List ServedQueue) (js js' : List Job) (rs : List Record)
    → ((r : Record) → In r rs → is_submitted r.phase ≡ true → (p : ℕ) → is_among r.chain_pages p ≡ true → page_at m' p ≡ page_at m p)
    → ((r : Record) → X r → (r.q == 0) ≡ false → is_submitted r.phase ≡ true → (entry : SubEntry) → HasEntry qs js r.q r.cid entry → HasEntry qs' js' r.q r.cid entry)
    → AllByRecursion (λ r. OwnsFit Modelled r.q r.work (pages_of r) × X r) rs → Commands m qs js rs → Commands m' qs' js' rs
commands_still X m m' qs qs' js js' rs same keeps fit h =
    all_in_both (CommandStands m qs js) (λ r. OwnsFit Modelled r.q r.work (pages_of r) × X r) (CommandStands m' qs' js') rs (λ r within f c. of r within f.1 r.work f.0 c) fit h
  where
    of : (r : Record) → In r rs → X r → (w : Work) → OwnsFit Modelled r.q w (pages_of r) → StandsAs m qs js r w → StandsAs m' qs' js' r w
    of r within x (Io request) f c = (c.0, λ sub. list_still m m' qs qs' js js' r request (same r within sub) (keeps r x f sub) (c.1 sub))
    of r within x (Management adm) f c = tt

-- a command that is no longer submitted
pub quiet_stands : (m : Pages) (qs : List ServedQueue) (js : List Job) (f : Record → Record) → ((r : Record) → (f r).work ≡ r.work) → ((r : Record) → (f r).data_pages ≡ r.data_pages)
    → (r : Record) → is_submitted (f r).phase ≡ false → CommandStands m qs js r → CommandStands m qs js (f r)
quiet_stands m qs js f work pages r far c = subst (StandsAs m qs js (f r)) (sym (work r)) (of r.work c)
  where
    of : (w : Work) → StandsAs m qs js r w → StandsAs m qs js (f r) w
    of (Io request) c = (record { fits = c.0.fits; good = c.0.good; blocks = c.0.blocks; size = c.0.size; pages = ap length (pages r) ∙ c.0.pages }, λ sub. absurd (true≢false (sym sub ∙ far)))
    of (Management adm) c = tt

-- Every event keeps the lists of submitted commands.

abbrev pub CommandsIn : State → Type 0
CommandsIn s = Commands s.memory s.controller.queues s.controller.jobs s.host.records

abbrev Fine : Record → Type 0
Fine r = OwnsFit Modelled r.q r.work (pages_of r) × Unit {0}

-- pages of submitted commands stay
abbrev pub SamePages : State → Pages → Type 0
SamePages s m = (p : ℕ) → 0 < total (sent_page p) s.host.records → page_at m p ≡ page_at s.memory p

-- the same records, over another memory and another controller's part
pub still : (s : State) (m : Pages) (qs : List ServedQueue) (js : List Job) → Grounds s → SamePages s m → Keeps s.controller.queues s.controller.jobs qs js → CommandsIn s → Commands m qs js s.host.records
still s m qs js g same keeps h =
    commands_still (λ r. Unit {0}) s.memory m s.controller.queues qs s.controller.jobs js s.host.records
    (λ r within sub p c. same p (counts_sent s r within sub p (chain_of r p c)))
    (λ r x other sub entry e. keeps r.q r.cid entry e) (all_in (λ r. OwnsFit Modelled r.q r.work (pages_of r)) Fine s.host.records (λ r within f. (f, tt)) (admins_of s g)) h

pub keeps_nothing : (qs : List ServedQueue) (js : List Job) → Keeps qs js qs js
keeps_nothing qs js q cid entry h = h

-- Reserving

pub commands_reserve : (s : State) (q : ℕ) (r : Request) (d : DraftContents) → IsProper (events.Reserve q r) → Accepts s (events.Reserve q r) (events.Reserved d) → Grounds s → CommandsIn s → CommandsIn (a.after_reserve d s)
commands_reserve s q r d proper ok g h =
    let good : fault_of r.kind r.block_size r.blocks r.pieces ≡ None = let e = (unrefused s (events.Reserve q r) ok.0).1.1.0 in grind arith in
    let new : Record = record { q = d.q; cid = d.cid; phase = Drafted; work = Io d.request; data_pages = numbers_of d.data_pages; chain_pages = numbers_of d.chain_pages; status = None; hints = NONE } in
    let m = without_pages (numbers_of d.data_pages ++ numbers_of d.chain_pages) s.memory in
    all_append (CommandStands m s.controller.queues s.controller.jobs) s.host.records (new ∷ [])
    (still s m s.controller.queues s.controller.jobs g (λ p some. untouched s (events.Reserve q r) (events.Reserved d) ok refl g p some) (keeps_nothing s.controller.queues s.controller.jobs) h) (
      (
        record {
          fits = subst FitsRequest (sym ok.1.request) proper;
          good = subst (λ (x : Request). fault_of x.kind x.block_size x.blocks x.pieces ≡ None) (sym ok.1.request) good;
          blocks = ap (λ (x : Request). is_admin x.kind) ok.1.request ∙ of_blocks s q r g.modelled ok.0;
          size = ap (λ (x : Request). x.block_size) ok.1.request ∙ reserved_size s q r g.modelled ok.0;
          pages = length-map d.data_pages (λ page. page.0) ∙ ok.1.data_pages ∙ ap (λ (x : Request). data_count x.pieces) (sym ok.1.request);
        },
        λ sub. absurd (true≢false (sym sub)),
      ),
      tt,
    )

-- Submitting

-- nothing counts, so nobody has the identifier
pub nobody : {B : Type 0} (id : B → ℕ) (c : ℕ) (P : B → Type 0) (xs : List B) → total (λ x. one (id x == c)) xs ≡ 0 → AllByRecursion (λ x. id x ≡ c → P x) xs
nobody id c P [] none = tt
nobody id c P (x ∷ xs) none = ((λ e. absurd (omega (arith, none, ap one (eq-eqb (id x) c e)))), nobody id c P xs (omega (arith, none)))

pub no_job : (q c : ℕ) (P : Job → Type 0) (js : List Job) → total (job_weight q (λ n. one (n == c))) js ≡ 0 → AllByRecursion (λ j. j.q ≡ q → j.entry.cid ≡ c → P j) js
no_job q c P [] none = tt
no_job q c P (j ∷ js) none =
    let some : j.q ≡ q → j.entry.cid ≡ c → job_weight q (λ n. one (n == c)) j + total (job_weight q (λ n. one (n == c))) js ≡ 0 → ⊥ = λ eq ec n.
    let mine : job_weight q (λ n. one (n == c)) j ≡ 1 = subst (λ (b : Bool). (if b then one (j.entry.cid == c) else 0) ≡ 1) (sym (eq-eqb j.q q eq)) (ap one (eq-eqb j.entry.cid c ec)) in
    omega (arith, n, mine) in
    ((λ eq ec. absurd (some eq ec none)), no_job q c P js (omega (arith, none)))

-- the pages of a draft that is submitted are in the store
pub submitted_pages : (s : State) (d : DraftContents) (entry : SubEntry) (r : Record) → IsOf s is_drafted d.request d.q d.cid d.data_pages d.chain_pages r → in_state is_live s d.q ≡ true → Grounds s
    → AllByRecursion (λ (page : ℕ × List ℕ). page_at (posts d.q entry (a.on_records (with_record d.q d.cid a.submitted) (a.on_memory (with_pages (d.data_pages ++ d.chain_pages)) s))).memory page.0 ≡ Some page.1) (d.data_pages ++ d.chain_pages)
submitted_pages s d entry r its live g =
    all_named (d.data_pages ++ d.chain_pages) (λ p x. ap (λ (xs : List ℕ). is_among xs p) (sym its.pages) ∙ x)
    (brought (d.data_pages ++ d.chain_pages) s.memory (λ p. omega (arith, ap (times p) its.pages, within (in_record p), owned_once _ p s.host g.stands.0))
    (λ p x. page_below s g r within p (ap (λ (xs : List ℕ). is_among xs p) (sym its.pages) ∙ x)))
  where
    s1 : State
    s1 = a.on_records (with_record d.q d.cid a.submitted) (a.on_memory (with_pages (d.data_pages ++ d.chain_pages)) s)

    within : In r s.host.records
    within = in_found (is_at d.q d.cid) s.host.records r its.found

    elsewhere : (p : ℕ) → is_among (pages_of r) p ≡ true → PostsElsewhere (a.on_records (with_record d.q d.cid a.submitted) (a.on_memory (with_pages (d.data_pages ++ d.chain_pages)) s)) d.q p
    elsewhere p x queue e =
        let pair = pair_at s g d.q queue e in
        (omega (arith, owned_once _ p s.host g.stands.0, within (in_record p), held_once p (pages_of r) x, in_at s.host.queues d.q queue e (in_queue p)), pair.2.sub (live_has_sq queue.state (live_queue s d.q live queue e)), (ring_in s g d.q queue e).tail)

    all_named : (pages : List (ℕ × List ℕ)) → ((p : ℕ) → is_among (numbers_of pages) p ≡ true → is_among (pages_of r) p ≡ true)
        → AllByRecursion (λ (page : ℕ × List ℕ). page_at (with_pages (d.data_pages ++ d.chain_pages) s.memory) page.0 ≡ Some page.1) pages
        → AllByRecursion (λ (page : ℕ × List ℕ). page_at (posts d.q entry (a.on_records (with_record d.q d.cid a.submitted) (a.on_memory (with_pages (d.data_pages ++ d.chain_pages)) s))).memory page.0 ≡ Some page.1) pages
    all_named [] own h = tt
    all_named (page ∷ pages) own h = (
      posts_elsewhere d.q entry s1 page.0 (elsewhere page.0 (own page.0 (or_left (page.0 == page.0) (is_among (numbers_of pages) page.0) (eq-eqb page.0 page.0 refl)))) ∙ h.0,
      all_named pages (λ p x. own p (or_right (page.0 == p) (is_among (numbers_of pages) p) x)) h.1,
    )

pub commands_submit : (d : DraftContents) (entry : SubEntry) (r : Record) (s : State) → IsProper (events.Submit d) → d.entry ≡ Some entry → IsOf s is_drafted d.request d.q d.cid d.data_pages d.chain_pages r → in_state is_live s d.q ≡ true
    → Grounds s → length s.memory ≤ 65536 → PlacesIn s → SamePages s (posts d.q entry (a.on_records (with_record d.q d.cid a.submitted) (a.on_memory (with_pages (d.data_pages ++ d.chain_pages)) s))).memory → CommandsIn s
    → CommandsIn (posts d.q entry (a.on_records (with_record d.q d.cid a.submitted) (a.on_memory (with_pages (d.data_pages ++ d.chain_pages)) s)))
commands_submit d entry r s proper e its live g few places same h =
    let cid : entry.cid ≡ d.cid = ap (λ (x : SubEntry). x.cid) (carries_entry d entry proper.draft e) ∙ entry_cid d in
    let qs = change d.q (λ at. record at { unfetched = at.unfetched ++ entry ∷ [] }) s.controller.queues in
    let m = (after_entry entry).memory in
    let kept : Commands m qs s.controller.jobs s.host.records =
    commands_still (λ x. is_at d.q d.cid x ≡ true → x ≡ r) s.memory m s.controller.queues qs s.controller.jobs s.controller.jobs s.host.records
    (λ x w sub p c. same p (counts_sent s x w sub p (chain_of x p c)))
    (λ x only_one other sub wanted has. others entry cid x only_one sub wanted has)
    (all_in_both (λ x. is_at d.q d.cid x ≡ true → x ≡ r) (λ r. OwnsFit Modelled r.q r.work (pages_of r)) (λ x. OwnsFit Modelled x.q x.work (pages_of x) × (is_at d.q d.cid x ≡ true → x ≡ r)) s.host.records
    (λ x w f o. (f, o)) (admins_of s g)
    (is_found d.q d.cid s.host.records r its.found (g.stands.0.once d.q d.cid))) h in
    all_with (CommandStands m qs s.controller.jobs) (CommandStands m qs s.controller.jobs) d.q d.cid a.submitted s.host.records r its.found (g.stands.0.once d.q d.cid) (λ x far c. c)
    (λ c. own entry e r.work refl its.asks c) kept
  where
    after_entry : SubEntry → State
    after_entry entry = posts d.q entry (a.on_records (with_record d.q d.cid a.submitted) (a.on_memory (with_pages (d.data_pages ++ d.chain_pages)) s))

    within : In r s.host.records
    within = in_found (is_at d.q d.cid) s.host.records r its.found

    low : (p : ℕ) → is_among (pages_of r) p ≡ true → p < 65536
    low p x = omega (arith, page_below s g r within p x, few)

    -- no entry of this identifier is anywhere
    unsent : total (sent d.q (λ n. one (n == d.cid))) s.host.records ≡ 0
    unsent = count (total (sent d.q (λ n. one (n == d.cid))) s.host.records) refl
      where
        count : (n : ℕ) → total (sent d.q (λ n. one (n == d.cid))) s.host.records ≡ n → n ≡ 0
        count zero e = refl
        count (suc n) e =
            let x = sent_found d.q d.cid s.host.records (omega (arith, e)) (g.stands.0.once d.q d.cid) in
            let same : x.0 ≡ r = cc (x.1, its.found) in
            absurd (true≢false (sym x.2 ∙ ap (λ (y : Record). is_submitted y.phase) same ∙ its.quiet))

    not_past : past_at s.host.queues d.q ≡ false
    not_past = grind arith

    no_entries : AllByRecursion (λ (e : SubEntry). e.cid ≡ d.cid → e ≡ draft_entry d) (unfetched_at s.controller.queues d.q)
    no_entries =
        let counted : unfetched_count d.q (λ n. one (n == d.cid)) s.host.queues s.controller.queues ≡ total (λ (e : SubEntry). one (e.cid == d.cid)) (unfetched_at s.controller.queues d.q) =
        ap (λ (b : Bool). if b then 0 else total (λ (e : SubEntry). one (e.cid == d.cid)) (unfetched_at s.controller.queues d.q)) not_past in
        nobody (λ (e : SubEntry). e.cid) d.cid (λ e. e ≡ draft_entry d) (unfetched_at s.controller.queues d.q) (omega (arith, counted, places d.q (λ n. one (n == d.cid)), unsent))

    new_entry : (entry : SubEntry) → entry ≡ draft_entry d → HasEntry (change d.q (λ at. record at { unfetched = at.unfetched ++ entry ∷ [] }) s.controller.queues) s.controller.jobs d.q d.cid (draft_entry d)
    new_entry entry is = record {
      unfetched = all_list (λ e. e.cid ≡ d.cid → e ≡ draft_entry d) (λ at. at.unfetched) d.q (λ at. record at { unfetched = at.unfetched ++ entry ∷ [] }) s.controller.queues d.q
          (λ at z all. all_append (λ e. e.cid ≡ d.cid → e ≡ draft_entry d) at.unfetched (entry ∷ []) all ((λ c. is), tt)) no_entries;
      fetched = (no_job d.q d.cid (λ j. j.entry ≡ draft_entry d) s.controller.jobs (omega (arith, places d.q (λ n. one (n == d.cid)), unsent)));
    }

    -- the chain pages are in the store
    stand_there : (entry : SubEntry) → AllByRecursion (λ (page : ℕ × List ℕ). page_at (after_entry entry).memory page.0 ≡ Some page.1) d.chain_pages
    stand_there entry = all-back (λ (page : ℕ × List ℕ). page_at (after_entry entry).memory page.0 ≡ Some page.1) d.data_pages d.chain_pages (submitted_pages s d entry r its live g)

    new_list : (entry : SubEntry) → d.entry ≡ Some entry → (request : Request) → request ≡ d.request → is_admin request.kind ≡ false
        → ListStands (after_entry entry).memory (change d.q (λ at. record at { unfetched = at.unfetched ++ entry ∷ [] }) s.controller.queues) s.controller.jobs (a.submitted r) request
    new_list entry e request same blocks =
        let is : entry ≡ draft_entry d = carries_entry d entry proper.draft e in
        let ids = ids_of s d.q d.cid r its.found in
        let low_data : (p : ℕ) → is_among (numbers_of d.data_pages) p ≡ true → p < 65536 = λ p x. low p (data_of r p (ap (λ (xs : List ℕ). is_among xs p) (sym its.data_list) ∙ x)) in
        let low_chain : (p : ℕ) → is_among (numbers_of d.chain_pages) p ≡ true → p < 65536 = λ p x. low p (chain_of r p (ap (λ (xs : List ℕ). is_among xs p) (sym its.chain_list) ∙ x)) in
        let spelled : has_list request.kind ≡ true → Spells (only (on_pages (numbers_of d.chain_pages)) (byte_at (after_entry entry).memory)) (draft_first d) (draft_parts d) = λ has.
        draft_spells d entry (after_entry entry).memory proper e low_data low_chain (stand_there entry) (subst (λ (x : Request). has_list x.kind ≡ true) same has) in
        record {
          first = draft_first d;
          read = first_read d proper low_data low_chain;
          spells = λ has. subst (λ (chain : List ℕ). Spells (only (on_pages chain) (byte_at (after_entry entry).memory)) (draft_first d) (joined_parts request.pieces r.data_pages)) its.chain_list
              (subst (λ (pages : List ℕ). Spells (only (on_pages (numbers_of d.chain_pages)) (byte_at (after_entry entry).memory)) (draft_first d) (joined_parts request.pieces pages)) its.data_list
              (subst (λ (x : Request). Spells (only (on_pages (numbers_of d.chain_pages)) (byte_at (after_entry entry).memory)) (draft_first d) (joined_parts x.pieces (numbers_of d.data_pages))) (sym same) (spelled has)));
          entry = subst (λ (x : Request). HasEntry (change d.q (λ at. record at { unfetched = at.unfetched ++ entry ∷ [] }) s.controller.queues) s.controller.jobs r.q r.cid (io_entry r.cid x (spelling (draft_first d)))) (sym same)
              (subst (λ (c : ℕ). HasEntry (change d.q (λ at. record at { unfetched = at.unfetched ++ entry ∷ [] }) s.controller.queues) s.controller.jobs r.q c (io_entry c d.request (spelling (draft_first d)))) (sym ids.1)
              (subst (λ (q : ℕ). HasEntry (change d.q (λ at. record at { unfetched = at.unfetched ++ entry ∷ [] }) s.controller.queues) s.controller.jobs q d.cid (io_entry d.cid d.request (spelling (draft_first d))))
              (sym ids.0)
              (subst (HasEntry (change d.q (λ at. record at { unfetched = at.unfetched ++ entry ∷ [] }) s.controller.queues) s.controller.jobs d.q d.cid)
              (draft_of_blocks d (ap (λ (x : Request). is_admin x.kind) (sym same) ∙ blocks)) (new_entry entry is))));
        }

    own : (entry : SubEntry) → d.entry ≡ Some entry → (w : Work) → r.work ≡ w → asks_for d.request w ≡ true
        → StandsAs (after_entry entry).memory (change d.q (λ at. record at { unfetched = at.unfetched ++ entry ∷ [] }) s.controller.queues) s.controller.jobs r w
        → StandsAs (after_entry entry).memory (change d.q (λ at. record at { unfetched = at.unfetched ++ entry ∷ [] }) s.controller.queues) s.controller.jobs (a.submitted r) w
    own entry e (Io request) is asks c =
        (record { fits = c.0.fits; good = c.0.good; blocks = c.0.blocks; size = c.0.size; pages = c.0.pages }, λ sub. new_list entry e request (sym (requests_same d.request request asks)) c.0.blocks)
    own entry e (Management adm) is asks c = tt

    -- another command's entries are where they were
    others : (entry : SubEntry) → entry.cid ≡ d.cid → (x : Record) → (is_at d.q d.cid x ≡ true → x ≡ r) → is_submitted x.phase ≡ true → (wanted : SubEntry)
        → HasEntry s.controller.queues s.controller.jobs x.q x.cid wanted → HasEntry (change d.q (λ at. record at { unfetched = at.unfetched ++ entry ∷ [] }) s.controller.queues) s.controller.jobs x.q x.cid wanted
    others entry cid x only_one sub wanted has = record {
      unfetched = all_list (λ e. e.cid ≡ x.cid → e ≡ wanted) (λ at. at.unfetched) d.q (λ at. record at { unfetched = at.unfetched ++ entry ∷ [] }) s.controller.queues x.q
          (λ at z all. all_append (λ e. e.cid ≡ x.cid → e ≡ wanted) at.unfetched (entry ∷ []) all ((λ c. absurd (clash z c)), tt)) has.unfetched;
      fetched = has.fetched;
    }
      where
        clash : d.q ≡ x.q → entry.cid ≡ x.cid → ⊥
        clash z c =
            let same : x ≡ r = only_one (and_from (x.q == d.q) (x.cid == d.cid) (eq-eqb x.q d.q (sym z)) (eq-eqb x.cid d.cid (sym c ∙ cid))) in
            true≢false (sym sub ∙ ap (λ (y : Record). is_submitted y.phase) same ∙ its.quiet)

-- Every event keeps the lists of submitted commands: the other events, a walk last.

same_pages : (s : State) (e : Event) (reply : Reply) → Accepts s e reply → is_walk e ≡ false → Grounds s → SamePages s (a.after s e reply).memory
same_pages s e reply ok w g p some = untouched s e reply ok w g p some

with_still : (m : Pages) (qs : List ServedQueue) (js : List Job) (q cid : ℕ) (f : Record → Record) (s : State) (r : Record) → record_at s.host q cid ≡ Some r → Grounds s
    → ((r : Record) → (f r).work ≡ r.work) → ((r : Record) → (f r).data_pages ≡ r.data_pages) → is_submitted (f r).phase ≡ false
    → Commands m qs js s.host.records → Commands m qs js (with_record q cid f s.host.records)
with_still m qs js q cid f s r e g work pages far h =
    all_with (CommandStands m qs js) (CommandStands m qs js) q cid f s.host.records r e (g.stands.0.once q cid) (λ x other c. c) (λ c. quiet_stands m qs js f work pages r far c) h

-- Ending, collecting, ringing

commands_ended : (q cid : ℕ) (pages : List (ℕ × List ℕ)) (s : State) → Grounds s → SamePages s (with_pages pages s.memory) → CommandsIn s → CommandsIn (a.after_end q cid pages s)
commands_ended q cid pages s g same h =
    all-filter (CommandStands (with_pages pages s.memory) s.controller.queues s.controller.jobs) (λ r. not (is_at q cid r)) s.host.records
    (still s (with_pages pages s.memory) s.controller.queues s.controller.jobs g same (keeps_nothing s.controller.queues s.controller.jobs) h)

-- Sending

-- queue 0 has no I/O command
commands_sent : (adm : AdminKind) (id : ℕ) (s : State) (m : Pages) → Grounds s → SamePages s m → CommandsIn s
    → Commands m (change 0 (λ at. record at { unfetched = at.unfetched ++ admin_entry adm id ∷ [] }) s.controller.queues) s.controller.jobs (s.host.records ++ sent_record adm id ∷ [])
commands_sent adm id s m g same h =
    let qs = change 0 (λ at. record at { unfetched = at.unfetched ++ admin_entry adm id ∷ [] }) s.controller.queues in
    let kept : Commands m qs s.controller.jobs s.host.records =
    commands_still (λ r. Unit {0}) s.memory m s.controller.queues qs s.controller.jobs s.controller.jobs s.host.records
    (λ r within sub p c. same p (counts_sent s r within sub p (chain_of r p c)))
    (λ r x other sub entry has. record {
      unfetched = all_list (λ e. e.cid ≡ r.cid → e ≡ entry) (λ at. at.unfetched) 0 (λ at. record at { unfetched = at.unfetched ++ admin_entry adm id ∷ [] }) s.controller.queues r.q
          (λ at z all. absurd (true≢false (sym (eq-eqb r.q 0 (sym z)) ∙ other))) has.unfetched;
      fetched = has.fetched;
    }) (all_in (λ r. OwnsFit Modelled r.q r.work (pages_of r)) Fine s.host.records (λ r within f. (f, tt)) (admins_of s g)) h in
    all_append (CommandStands m qs s.controller.jobs) s.host.records (sent_record adm id ∷ []) kept (tt, tt)

-- Reaping

keeps_consumed : (s : State) (q : ℕ) → Keeps s.controller.queues s.controller.jobs (change q (λ at. record at { completions = drop 1 at.completions }) s.controller.queues) s.controller.jobs
keeps_consumed s q = keeps_queue s.controller.queues s.controller.jobs q (λ at. record at { completions = drop 1 at.completions }) (λ P at all. all)

commands_consumed : (q : ℕ) (s : State) → Grounds s → CommandsIn s → CommandsIn (a.consumed q s)
commands_consumed q s g h = still s s.memory (change q (λ at. record at { completions = drop 1 at.completions }) s.controller.queues) s.controller.jobs g (λ p some. refl) (keeps_consumed s q) h

-- Every event of the host

commands_host : (s : State) (e : Event) (reply : Reply) → IsProper e → Accepts s e reply → IsController e ≡ false → is_walk e ≡ false → Stood s → CommandsIn (a.after s e reply)
commands_host s e reply pr ok c w h =
    let without : (q cid : ℕ) → Commands s.memory (a.consumed q s).controller.queues s.controller.jobs (without_record q cid s.host.records) = λ q cid.
    all-filter (CommandStands s.memory (a.consumed q s).controller.queues s.controller.jobs) (λ r. not (is_at q cid r)) s.host.records (commands_consumed q s h.grounds h.commands) in
    host_moves (λ (e : Event) (reply : Reply) (t : State). IsProper e → SamePages s t.memory → CommandsIn t) s e reply ok c
    (record {
      reserves = λ q request d none is pr same. commands_reserve s q request d pr (none, is) h.grounds h.commands;
      submits = λ d entry r none built its live pr same. commands_submit d entry r s pr built its live h.grounds h.few h.places same h.commands;
      cancels = λ d r its pr same. commands_ended d.q d.cid (d.data_pages ++ d.chain_pages) s h.grounds same h.commands;
      rings = λ q none pr same.
          still s s.memory (change q (λ at. record at { rung = length at.unfetched }) s.controller.queues) s.controller.jobs h.grounds (λ p some. refl)
          (keeps_queue s.controller.queues s.controller.jobs q (λ at. record at { rung = length at.unfetched }) (λ P at all. all)) h.commands;
      rests = λ q is pr same. h.commands;
      rejects = λ q why is pr same. commands_consumed q s h.grounds h.commands;
      tells = λ q cid st what e r request t heard w pr same.
          with_still s.memory (a.consumed q s).controller.queues s.controller.jobs q cid (a.held st e.hints) s r heard.found h.grounds (λ x. refl) (λ x. refl) refl (commands_consumed q s h.grounds h.commands);
      hears = λ q cid st what e r adm t heard w quiet unmade pr same. without q cid;
      notes = λ q cid st what e r k t heard w pr same. without q cid;
      frees = λ q cid st what e r k queue t heard w at alone good pr same. without q cid;
      makes_cq = λ q cid st what e r k n base vector t heard w good pr same. without q cid;
      unmakes_cq = λ q cid st what e r k n base vector queue t heard w at bad pr same. without q cid;
      makes_sq = λ q cid st what e r k n base t heard w good pr same. without q cid;
      unmakes_sq = λ q cid st what e r k n base queue t heard w at bad pr same. without q cid;
      collects = λ q cid r f at held is pr same.
          with_still (without_pages (pages_of r) s.memory) s.controller.queues s.controller.jobs q cid a.collected s r at h.grounds (λ x. refl) (λ x. refl) refl
          (still s (without_pages (pages_of r) s.memory) s.controller.queues s.controller.jobs h.grounds same (keeps_nothing s.controller.queues s.controller.jobs) h.commands);
      releases = λ f r its pr same. commands_ended f.q f.cid (f.data_pages ++ f.chain_pages) s h.grounds same h.commands;
      aborts = λ q cid id none new pr same. commands_sent (Abort q cid) id s (sends (Abort q cid) id s).memory h.grounds same h.commands;
      asks = λ q id queue none new live pr same. commands_sent (DeleteSq q) id s (sends (DeleteSq q) id s).memory h.grounds same h.commands;
      drops = λ q id none new pr same. commands_sent (DeleteCq q) id s (sends (DeleteCq q) id s).memory h.grounds same h.commands;
      creates_cqs = λ q vector id first queue none new granted pr same. commands_sent (creates_cq q vector first s) id s (sends (creates_cq q vector first s) id (grants_cq q first s)).memory h.grounds same h.commands;
      creates_sqs = λ q id first queue none new granted pr same. commands_sent (creates_sq q first s) id s (sends (creates_sq q first s) id (grants_sq q first s)).memory h.grounds same h.commands;
      retires = λ q queue none at deleted pr same.
          all_map (CommandStands s.memory s.controller.queues s.controller.jobs) (CommandStands s.memory s.controller.queues s.controller.jobs) (a.lost q) s.host.records (λ r c. lose r ((r.q == q) && is_submitted r.phase) c) h.commands;
      forges = λ q slot bytes queue none at pr same.
          still s (with_page_bytes s.memory (slot_page queue.cq_pages 16 slot) (slot_offset 16 slot) bytes) s.controller.queues s.controller.jobs h.grounds same (keeps_nothing s.controller.queues s.controller.jobs) h.commands;
      resets = λ pr same.
          let m = with_pages (zeroed_pages (a.admin_pages s.host.queues)) s.memory in
          all_reset (CommandStands s.memory s.controller.queues s.controller.jobs) (CommandStands m (a.reset_served_queues s.controller.queues) [])
          (λ r io p. reset_command m (a.reset_served_queues s.controller.queues) [] r (sized_of s.memory s.controller.queues s.controller.jobs r p)) s.host.records h.commands;
    }) pr (same_pages s e reply ok w h.grounds)
  where
    lose : (r : Record) (b : Bool) → CommandStands s.memory s.controller.queues s.controller.jobs r
        → CommandStands s.memory s.controller.queues s.controller.jobs (if b then a.aborted r else r)
    lose r true c = quiet_stands s.memory s.controller.queues s.controller.jobs (λ x. a.aborted x) (λ x. refl) (λ x. refl) r refl c
    lose r false c = c

-- The controller

commands_controller : (s : State) (e : Event) (reply : Reply) → IsController e ≡ true
    → ((r : Record) → In r s.host.records → is_submitted r.phase ≡ true → (p : ℕ) → is_among r.chain_pages p ≡ true → page_at (a.after s e reply).memory p ≡ page_at s.memory p)
    → Keeps s.controller.queues s.controller.jobs (a.after s e reply).controller.queues (a.after s e reply).controller.jobs → Grounds s → CommandsIn s → CommandsIn (a.after s e reply)
commands_controller s e reply c same keeps g h =
    let t = a.after s e reply in
    subst (λ (part : HostPart). Commands t.memory t.controller.queues t.controller.jobs part.host.records) (sym (part_controller s e reply c))
    (commands_still (λ r. Unit {0}) s.memory t.memory s.controller.queues t.controller.queues s.controller.jobs t.controller.jobs s.host.records same (λ r x other sub entry has. keeps r.q r.cid entry has)
    (all_in (λ r. OwnsFit Modelled r.q r.work (pages_of r)) Fine s.host.records (λ r within f. (f, tt)) (admins_of s g)) h)

-- Walking

pub unit_in : (chain own : ℕ → Bool) (c : Course) (k : ℕ) (act : Act) → CourseIn chain own c → slice_get (units c) k ≡ Some act → ActIn chain own act
unit_in chain own (Closes v) k act h e = absurd cc
unit_in chain own (Does x rest) zero act h e = let same : x ≡ act = cc in subst (ActIn chain own) same h.0
unit_in chain own (Does x rest) (suc k) act h e = unit_in chain own rest k act h.1 e

-- the job that a walk is of
pub record Walking (s : State) (q cid : ℕ) (j : Job) : Type 0 where
  pub found : job_at s q cid ≡ Some j
  pub its_queue : j.q ≡ q
  pub its_id : j.entry.cid ≡ cid
  pub other : (j.q == 0) ≡ false
  pub verdict : j.verdict ≡ None
  pub list : JobList s j

pub walking : (s : State) (q cid : ℕ) (j : Job) → refusal_of s (events.Walk q cid) ≡ None → Stood s → job_at s q cid ≡ Some j → Walking s q cid j
walking s q cid j none stood e =
    let idle : job_is (λ j. is_some j.verdict || (j.q == 0)) s q cid ≡ false = (unrefused s (events.Walk q cid) none).1.0 in
    let ids = and_parts (j.q == q) (j.entry.cid == cid) (found_is (is_job q cid) s.controller.jobs j e) in
    let parts = or_parts (is_some j.verdict) (j.q == 0) (sym (ap (λ (o : Option Job). option_map_or (λ j. is_some j.verdict || (j.q == 0)) o false) e) ∙ idle) in
    record {
      found = e;
      its_queue = eqb-true j.q q ids.0;
      its_id = eqb-true j.entry.cid cid ids.1;
      other = parts.1;
      verdict = (let e = parts.0 in grind arith);
      list = job_list s stood j (in_found (is_job q cid) s.controller.jobs j e) parts.1 (λ P all. all-found P (is_job q cid) s.controller.jobs j e all);
    }

-- what a unit writes lies on its data pages
pub unit_elsewhere : (s : State) (j : Job) (p : ℕ) (data_pages : List ℕ) (chain : ℕ → Bool) (dir : Direction) (act : Act) → (dir ≡ Destination → is_among data_pages p ≡ false) → ActIn chain (on_pages data_pages) act
    → page_at (unit_memory s j dir act) p ≡ page_at s.memory p
unit_elsewhere s j p data_pages chain dir Stays far h = refl
unit_elsewhere s j p data_pages chain dir (Reads place) far h = refl
unit_elsewhere s j p data_pages chain Source (Moves place n offset) far h = refl
unit_elsewhere s j p data_pages chain Destination (Moves place n offset) far h = bytes_elsewhere s.memory (place / 4096) p (place % 4096) (take n (drop offset j.bytes)) elsewhere
  where
    elsewhere : place / 4096 ≡ p → ⊥
    elsewhere same = true≢false (sym (ap (is_among data_pages) (sym same) ∙ subst (λ (x : ℕ). is_among data_pages (page_of x) ≡ true) (add-zero place) (h.2 0 h.0)) ∙ far refl)

-- what a walk writes lies on a data page of its own command
pub walk_writes_to : (s : State) (q cid : ℕ) → refusal_of s (events.Walk q cid) ≡ None → Stood s → (p : ℕ)
    → ((j : Job) → (w : Walking s q cid j) → direction_of_entry j.entry ≡ Destination → is_among w.list.command.data_pages p ≡ false) → page_at (a.after_walk q cid s).memory p ≡ page_at s.memory p
walk_writes_to s q cid none stood p far =
    walk_by (λ (t : State). page_at t.memory p ≡ page_at s.memory p) s q cid refl
    (λ j act at u. let w = walking s q cid j none stood at in
    unit_elsewhere s j p w.list.command.data_pages (on_pages w.list.command.chain_pages) (direction_of_entry j.entry) act (far j w)
    (unit_in (on_pages w.list.command.chain_pages) (on_pages w.list.command.data_pages) (a.course_of s j) j.units_done act (course_in s j w.list) u))

pub walk_writes : (s : State) (q cid : ℕ) → refusal_of s (events.Walk q cid) ≡ None → Stood s → (p : ℕ)
    → ((j : Job) → (w : Walking s q cid j) → is_among w.list.command.data_pages p ≡ false) → page_at (a.after_walk q cid s).memory p ≡ page_at s.memory p
walk_writes s q cid none stood p far = walk_writes_to s q cid none stood p (λ j w d. far j w)

-- so no chain page of a submitted command is written
times_of : (s : State) → Grounds s → (r r' : Record) → In r s.host.records → In r' s.host.records → (p : ℕ) → is_among r.chain_pages p ≡ true → is_among r'.data_pages p ≡ false
times_of s g r r' within within' p chain = elim (cases_Bool (is_among r'.data_pages p)) [
  | inl e ↦ absurd (omega (arith, owned_once _ p s.host g.stands.0, both s.host.records, within (λ (x : Record). times p x.chain_pages), within' (λ (x : Record). times p x.data_pages), held_once p r.chain_pages chain, held_once p r'.data_pages e))
  | inr e ↦ e
]
  where
    both : (rs : List Record) → total (λ (x : Record). times p x.data_pages) rs + total (λ (x : Record). times p x.chain_pages) rs ≡ total (in_record p) rs
    both [] = refl
    both (x ∷ rs) = omega (arith, both rs, times-append p x.data_pages x.chain_pages)

pub chains_walk : (s : State) (q cid : ℕ) → refusal_of s (events.Walk q cid) ≡ None → Stood s → (r : Record) → In r s.host.records → (p : ℕ) → is_among r.chain_pages p ≡ true
    → page_at (a.after_walk q cid s).memory p ≡ page_at s.memory p
chains_walk s q cid none stood r within p chain = walk_writes s q cid none stood p (λ j w. times_of s stood.grounds r w.list.command within w.list.within p chain)

-- every event
pub commands_event : (s : State) (e : Event) (reply : Reply) → IsProper e → Accepts s e reply → s.trusted ≡ true → Stood s → CommandsIn (a.after s e reply)
commands_event s (events.Fetch q) (events.Fetched c touched) pr ok t h =
    commands_controller s (events.Fetch q) (events.Fetched c touched) refl
    (λ r within sub p chain. same_pages s (events.Fetch q) (events.Fetched c touched) ok refl h.grounds p (counts_sent s r within sub p (chain_of r p chain))) (keeps_fetch s q) h.grounds h.commands
commands_event s (events.Walk q cid) (events.Walked o touched) pr ok t h =
    commands_controller s (events.Walk q cid) (events.Walked o touched) refl (λ r within sub p chain. chains_walk s q cid ok.0 h r within p chain) (keeps_walk s q cid) h.grounds h.commands
commands_event s (events.Complete q cid) (events.Completed touched) pr ok t h =
    commands_controller s (events.Complete q cid) (events.Completed touched) refl
    (λ r within sub p chain. same_pages s (events.Complete q cid) (events.Completed touched) ok refl h.grounds p (counts_sent s r within sub p (chain_of r p chain))) (keeps_complete s q cid) h.grounds h.commands
commands_event s (events.Fetch q) reply pr ok t h = absurd ok.1
commands_event s (events.Walk q cid) reply pr ok t h = absurd ok.1
commands_event s (events.Complete q cid) reply pr ok t h = absurd ok.1
commands_event s e reply pr ok t h = commands_host s e reply pr ok refl refl h
