-- How a step changes jobs, queues and records.
use Rattle.machine_model.specs.After as a
use Rattle.machine_model.specs.Events as events
use Rattle.std.proofs.Common.{◌≡◌, is_some, ap, ℕ, ◌+◌, ◌==◌, Bool, true, false, not, ◌&&◌, Option, Some, None, List, [], ◌∷◌, ◌++◌, map, slice_get, is_none, if◌then◌else◌, refl, sym, ◌∙◌, subst, inl, inr, arith, zero, suc, ◌-◌, length, drop}
use Rattle.std.{proofs.lemmas.Bool.{true≢false, and_parts, cases_Bool}, specs.{List.AllByRecursion, Option.option_map_or}}
use Rattle.machine_model.proofs.Moves.{host_moves, creates_cq, creates_sq, named, status_in, drafted_record, sent_record}
use Rattle.machine_model.{proofs.{Owned.{all_reset, lost_by}, Steps.{Accepts, managed_by, part_controller}}, specs.Events.{Event, Reply}}
use Rattle.machine_model.specs.Refusals.{next_rung, job_at, is_job, fetch_slot, is_submitted, is_drafted, is_of, seen_entry}
use Rattle.machine_model.specs.State.{State, Job, ServedQueue, Record, is_at, record_at, without_record}
use Rattle.machine_model.specs.{Step.{IsController, HostPart, reaped, reaped_entry}}
use Rattle.machine_model.specs.declared.words.{Phase.TheVariants.{Drafted, Held}, Work.TheVariants.Io}
use Rattle.admin_commands.specs.{Entries.{named_queue, named_command, admin_entry}, declared.AdminKind.{AdminKind, TheVariants.{Abort, DeleteSq, DeleteCq}}}
use Rattle.admin_commands.specs.declared.SqState.TheVariants.{Absent, Stopping}
use Rattle.controller_walk.specs.Units.{Act}
use Rattle.sgl_descriptor.specs.declared.Direction.{Direction}
use Rattle.entry_codec.specs.{Status.is_success, declared.{completion.ComEntry.ComEntry, status.Status.Status}}
use Rattle.entry_codec.specs.declared.{status.TheConstants.Status.{SUCCESS, ABORT_REQUESTED, ABORTED_SQ_DELETION}, submission.SubEntry.SubEntry}
use Rattle.entry_codec.specs.declared.hints.TheConstants.Hints.{NONE}
use Rattle.io_commands.specs.{Asked.Request, Drafts.DraftContents, Jobs.{verdict_of, io_fault, bytes_after_check, direction_of_entry}}
use Rattle.io_commands.specs.Values.{numbers_of}
use Rattle.two_sides.proofs.Commands.{Walking, walking}
use Rattle.two_sides.proofs.ControllerMoves.{unit_bytes, unit_done, walk_is, fetch_by, complete_by, posts_completion, posted_completion, finished, cleared, walk_by}
use Rattle.two_sides.proofs.{Heads.{no_conflict, no_conflict as not_conflicting}, NeverFull.one_job, PlacesKept.in_hand, PoolBytes.host_jobs}
use Rattle.two_sides.proofs.{Provided.{all_indexed, all_map, all_append, only_found, In, all_in, all_with}, Served.Stood}
use Rattle.two_sides.proofs.{Standing.{list_at, all_list}, TiedAll.Grounds}
use Rattle.queue_pair.specs.Members.{change}
use Rattle.slot_table.proofs.Rows.{option_is}
use Rattle.page_memory.proofs.Lists.{all-at, all-filter}

-- What each event does to the controller's jobs, one by one: an Abort and a deletion mark only jobs that have no verdict, and the job of an admin command is of the entry that was next.

-- the bytes that a walk step leaves a job
abbrev pub walked_bytes : State → Job → Direction → Act → List ℕ
walked_bytes s j dir act = unit_bytes s dir act j.bytes

abbrev pub walked : State → Job → Act → Job
walked s j act = record j { bytes = walked_bytes s j (direction_of_entry j.entry) act; units_done = j.units_done + 1; verdict = verdict_of (a.next_answer s j) }

-- the job that a walk is of
abbrev pub is_walked : Event → Job → Bool
is_walked (events.Walk q cid) j = is_job q cid j
is_walked e j = false

abbrev pub begun_job : State → ℕ → SubEntry → Job
begun_job s q e = a.new_job q e (io_fault (a.image_blocks s) e) 0 (bytes_after_check s.controller.image e (io_fault (a.image_blocks s) e))

-- what P says of a job before an event gives Q of it after, however the event changes it
pub record JobsMove (P Q : Job → Type 0) (s : State) (e : Event) : Type 0 where
  pub stays : (k : ℕ) (j : Job) → slice_get s.controller.jobs k ≡ Some j → is_walked e j ≡ false → P j → Q j
  pub fails : (k : ℕ) (j : Job) (st : Status) (waiting : Option ℕ) → slice_get s.controller.jobs k ≡ Some j → is_walked e j ≡ false → is_success st ≡ false → j.verdict ≡ None → P j → Q (record j { verdict = Some st; waiting_abort = waiting })
  pub manages : (entry : SubEntry) (st : Status) (dw0 : ℕ) → e ≡ events.Fetch 0 → next_rung s 0 ≡ Some entry → is_some (job_at s 0 entry.cid) ≡ false → Q (a.new_job 0 entry (Some st) dw0 [])
  pub begins : (q : ℕ) (entry : SubEntry) → e ≡ events.Fetch q → next_rung s q ≡ Some entry → (q == 0) ≡ false → is_some (job_at s q entry.cid) ≡ false → Q (begun_job s q entry)
  pub walks : (q cid : ℕ) (j : Job) (act : Act) → e ≡ events.Walk q cid → Walking s q cid j → a.next_unit s j ≡ Some act → P j → Q (walked s j act)

nothing : (o : Option Status) → is_none o ≡ true → o ≡ None
nothing o h = grind arith

-- Fetching

jobs_fetch : (P Q : Job → Type 0) (s : State) (q : ℕ) → JobsMove P Q s (events.Fetch q) → Stood s → AllByRecursion P s.controller.jobs → AllByRecursion Q (a.after_fetch q s).controller.jobs
jobs_fetch P Q s q move stood h =
    fetch_by (λ (t : State). AllByRecursion Q t.controller.jobs) s q still (λ e n c. still) (λ e n c z. managed e z n)
    (λ e n c other. all_append Q s.controller.jobs (begun_job s q e ∷ []) still (move.begins q e refl n other (no_conflict s stood q e (in_hand s q e n)), tt))
  where
    still : AllByRecursion Q s.controller.jobs
    still = all_indexed P Q s.controller.jobs (λ k j f p. move.stays k j f refl p) h

    managed : (e : SubEntry) → q ≡ 0 → next_rung s q ≡ Some e → AllByRecursion Q (a.managed e (a.taken_off 0 s)).controller.jobs
    managed e z rung =
        let one_more : (js : List Job) (st : Status) (dw0 : ℕ) → AllByRecursion Q js → AllByRecursion Q (js ++ a.new_job 0 e (Some st) dw0 [] ∷ []) =
        λ js st dw0 all. grind (arith, all_append, no_conflict, in_hand) in
        let mapped : (f : Job → Job) → ((k : ℕ) (j : Job) → slice_get s.controller.jobs k ≡ Some j → P j → Q (f j)) → AllByRecursion Q (map f s.controller.jobs) =
        λ f each. all_map (λ j. Q (f j)) Q f s.controller.jobs (λ j p. p) (all_indexed P (λ j. Q (f j)) s.controller.jobs each h) in
        managed_by (λ (t : State). AllByRecursion Q t.controller.jobs) e (a.taken_off 0 s)
        (record {
          refuses = λ st bad. one_more s.controller.jobs st 0 still;
          aborts = λ is8 w. one_more (map (λ (j : Job). if (j.q == named_queue e) && (j.entry.cid == named_command e) then record j { verdict = Some ABORT_REQUESTED; waiting_abort = Some e.cid } else j) s.controller.jobs) SUCCESS 0
              (mapped (λ (j : Job). if (j.q == named_queue e) && (j.entry.cid == named_command e) then record j { verdict = Some ABORT_REQUESTED; waiting_abort = Some e.cid } else j)
              (λ k j f p. aborted w k j f p ((j.q == named_queue e) && (j.entry.cid == named_command e)) refl));
          is_late = λ is8. one_more s.controller.jobs SUCCESS 1 still;
          stops = λ is0 q0 runs. one_more (map (a.stopped (named_queue e)) s.controller.jobs) SUCCESS 0 (mapped (a.stopped (named_queue e)) (λ k j f p. halted k j f p ((j.q == named_queue e) && is_none j.verdict) refl));
          drops = λ is4 q0 there gone. one_more s.controller.jobs SUCCESS 0 still;
          makes_completion = λ is5 q0 none. one_more s.controller.jobs SUCCESS 0 still;
          makes_submission = λ is1 q0 gone there. one_more s.controller.jobs SUCCESS 0 still;
        })
      where
        walking_job : (o : Option Job) → job_at s (named_queue e) (named_command e) ≡ o → option_map_or (λ j. is_none j.verdict) o false ≡ true → (k : ℕ) (j : Job) → slice_get s.controller.jobs k ≡ Some j → is_job (named_queue e) (named_command e) j ≡ true → j.verdict ≡ None
        walking_job None at w k j f is = absurd (true≢false (sym w))
        walking_job (Some j0) at w k j f is =
            let same : j ≡ j0 = all-at (λ x. is_job (named_queue e) (named_command e) x ≡ true → x ≡ j0) s.controller.jobs k j f (only_found (is_job (named_queue e) (named_command e)) s.controller.jobs j0 at (one_job s stood (named_queue e) (named_command e))) is in
            ap (λ (x : Job). x.verdict) same ∙ nothing j0.verdict w

        aborted : a.walks s (named_queue e) (named_command e) ≡ true → (k : ℕ) (j : Job) → slice_get s.controller.jobs k ≡ Some j → P j → (b : Bool) → is_job (named_queue e) (named_command e) j ≡ b
            → Q (if b then record j { verdict = Some ABORT_REQUESTED; waiting_abort = Some e.cid } else j)
        aborted w k j f p true is = move.fails k j ABORT_REQUESTED (Some e.cid) f refl refl (walking_job (job_at s (named_queue e) (named_command e)) refl w k j f is) p
        aborted w k j f p false is = move.stays k j f refl p

        halted : (k : ℕ) (j : Job) → slice_get s.controller.jobs k ≡ Some j → P j → (b : Bool) → ((j.q == named_queue e) && is_none j.verdict) ≡ b → Q (if b then record j { verdict = Some ABORTED_SQ_DELETION } else j)
        halted k j f p true is = move.fails k j ABORTED_SQ_DELETION j.waiting_abort f refl refl (nothing j.verdict (and_parts (j.q == named_queue e) (is_none j.verdict) is).1) p
        halted k j f p false is = move.stays k j f refl p

-- Walking

jobs_walk : (P Q : Job → Type 0) (s : State) (q cid : ℕ) (reply : Reply) → JobsMove P Q s (events.Walk q cid) → Accepts s (events.Walk q cid) reply → Stood s → AllByRecursion P s.controller.jobs
    → (j : Job) → job_at s q cid ≡ Some j → (act : Act) → a.next_unit s j ≡ Some act → AllByRecursion Q (a.after_walk q cid s).controller.jobs
jobs_walk P Q s q cid reply move ok stood h j at act u =
    subst (λ (t : State). AllByRecursion Q t.controller.jobs) (walk_is s q cid j act at u)
    (all_map Mid Q (λ k. if (k.q == q) && (k.entry.cid == cid) then unit_done s j act k else k) s.controller.jobs (λ k p. (elim (cases_Bool (is_job q cid k)) [ inl t ↦ rw t (p.0 t) | inr t ↦ rw t (p.1 t) ])) before)
  where
    Mid : Job → Type 0
    Mid k = (is_job q cid k ≡ true → Q (unit_done s j act k)) × (is_job q cid k ≡ false → Q k)

    same : (k : ℕ) (x : Job) → slice_get s.controller.jobs k ≡ Some x → is_job q cid x ≡ true → x ≡ j
    same k x e = all-at (λ k. is_job q cid k ≡ true → k ≡ j) s.controller.jobs k x e (only_found (is_job q cid) s.controller.jobs j at (one_job s stood q cid))

    before : AllByRecursion Mid s.controller.jobs
    before =
        all_indexed P Mid s.controller.jobs
        (λ k x e p. (λ t. subst (λ (y : Job). Q (unit_done s j act y)) (sym (same k x e t)) (move.walks q cid j act refl (walking s q cid j ok.0 stood at) u (subst P (same k x e t) p)), λ t. move.stays k x e t p)) h

-- Completing

jobs_complete : (P Q : Job → Type 0) (s : State) (q cid : ℕ) → JobsMove P Q s (events.Complete q cid) → AllByRecursion P s.controller.jobs → AllByRecursion Q (a.after_complete q cid s).controller.jobs
jobs_complete P Q s q cid move h = grind (arith, all_indexed, all-filter, complete_by)

-- Every event

pub jobs_event : (P Q : Job → Type 0) (s : State) (e : Event) (reply : Reply) → JobsMove P Q s e → Accepts s e reply → Stood s → AllByRecursion P s.controller.jobs → AllByRecursion Q (a.after s e reply).controller.jobs
jobs_event P Q s (events.Fetch q) (events.Fetched c touched) move ok stood h = jobs_fetch P Q s q move stood h
jobs_event P Q s (events.Walk q cid) (events.Walked o touched) move ok stood h = elim (option_is (a.next_unit s ok.1.0)) [
  | inl u ↦ let answered = rw u at ok.1.2 in absurd answered
  | inr (act, u) ↦ jobs_walk P Q s q cid (events.Walked o touched) move ok stood h ok.1.0 ok.1.1 act u
]
jobs_event P Q s (events.Complete q cid) (events.Completed touched) move ok stood h = jobs_complete P Q s q cid move h
jobs_event P Q s (events.Fetch q) reply move ok stood h = absurd ok.1
jobs_event P Q s (events.Walk q cid) reply move ok stood h = absurd ok.1
jobs_event P Q s (events.Complete q cid) reply move ok stood h = absurd ok.1
jobs_event P Q s events.Reset events.Accepted move ok stood h = tt
jobs_event P Q s events.Reset reply move ok stood h = absurd ok.1
jobs_event P Q s e reply move ok stood h =
    subst (AllByRecursion Q) (sym (host_jobs s e reply ok refl refl)) (all_indexed P Q s.controller.jobs (λ k j f p. move.stays k j f refl p) h)

-- What each event does to the lists of a queue at the controller: its entries and its completions.

-- what holds of each in a list of queue n, and of what comes to it
pub record QueueMove {B : Type 0} (get : ServedQueue → List B) (Q : B → Type 0) (n : ℕ) (s : State) (e : Event) : Type 0 where
  pub posts : (d : DraftContents) (entry : SubEntry) (at : ServedQueue) → e ≡ events.Submit d → d.entry ≡ Some entry → d.q ≡ n → AllByRecursion Q (get at) → AllByRecursion Q (get (record at { unfetched = at.unfetched ++ entry ∷ [] }))
  pub sends : (entry : SubEntry) (at : ServedQueue) → 0 ≡ n → AllByRecursion Q (get at) → AllByRecursion Q (get (record at { unfetched = at.unfetched ++ entry ∷ [] }))
  pub rings : (rung : ℕ) (at : ServedQueue) → AllByRecursion Q (get at) → AllByRecursion Q (get (record at { rung = rung }))
  pub reaps : (at : ServedQueue) → AllByRecursion Q (get at) → AllByRecursion Q (get (record at { completions = drop 1 at.completions }))
  pub fetches : (rung : ℕ) (at : ServedQueue) → AllByRecursion Q (get at) → AllByRecursion Q (get (record at { unfetched = drop 1 at.unfetched; rung = rung }))
  pub stops : (at : ServedQueue) → AllByRecursion Q (get at) → AllByRecursion Q (get (record at { state = Stopping }))
  pub drops : (at : ServedQueue) → AllByRecursion Q (get at) → AllByRecursion Q (get (a.dropped at))
  pub makes_completion : (at : ServedQueue) → AllByRecursion Q (get at) → AllByRecursion Q (get (a.completion_made at))
  pub makes_submission : (at : ServedQueue) → AllByRecursion Q (get at) → AllByRecursion Q (get (a.submission_made at))
  pub clears : (at : ServedQueue) → AllByRecursion Q (get at) → AllByRecursion Q (get (record at { state = Absent; unfetched = []; rung = 0 }))
  pub empties : AllByRecursion Q (get a.reset_controller_admin) × AllByRecursion Q (get a.no_served_queue)
  pub completes : (cid : ℕ) (j : Job) (head : ℕ) (at : ServedQueue) → e ≡ events.Complete n cid → job_at s n cid ≡ Some j → AllByRecursion Q (get at)
      → AllByRecursion Q (get (record at { completions = at.completions ++ record { cid = cid; status = a.final_status s j; dw0 = j.dw0; sq_head = head } ∷ [] }))

queues_fetch : {B : Type 0} (get : ServedQueue → List B) (Q : B → Type 0) (n : ℕ) (s : State) (e : Event) → QueueMove get Q n s e → Stood s → (q : ℕ)
    → AllByRecursion Q (list_at get s.controller.queues n) → AllByRecursion Q (list_at get (a.after_fetch q s).controller.queues n)
queues_fetch get Q n s e move stood q h =
    fetch_by (λ (t : State). AllByRecursion Q (list_at get t.controller.queues n)) s q h
    (λ x r con. absurd (true≢false (sym con ∙ ap (λ (o : Option SubEntry). option_map_or (λ e. is_some (job_at s q e.cid)) o false) r ∙ not_conflicting s stood q x (in_hand s q x r))))
    (λ x r con z. managed_by (λ (t : State). AllByRecursion Q (list_at get t.controller.queues n)) x (a.taken_off 0 s)
    (record {
      refuses = λ st bad. off 0;
      aborts = λ is8 walks. off 0;
      is_late = λ is8. off 0;
      stops = λ is0 q0 runs. acts x (λ at. record at { state = Stopping }) move.stops;
      drops = λ is4 q0 there gone. acts x a.dropped move.drops;
      makes_completion = λ is5 q0 gone. acts x a.completion_made move.makes_completion;
      makes_submission = λ is1 q0 gone there. acts x a.submission_made move.makes_submission;
    }))
    (λ x r con other. off q)
  where
    off : (k : ℕ) → AllByRecursion Q (list_at get (change k (λ at. record at { unfetched = drop 1 at.unfetched; rung = at.rung - 1 }) s.controller.queues) n)
    off k = all_list Q get k (λ at. record at { unfetched = drop 1 at.unfetched; rung = at.rung - 1 }) s.controller.queues n (λ at z all. move.fetches (at.rung - 1) at all) h

    -- what the entry's verdict does to the queue that it names
    acts : (x : SubEntry) (f : ServedQueue → ServedQueue) → ((at : ServedQueue) → AllByRecursion Q (get at) → AllByRecursion Q (get (f at)))
        → AllByRecursion Q (list_at get (change (named_queue x) f (change 0 (λ at. record at { unfetched = drop 1 at.unfetched; rung = at.rung - 1 }) s.controller.queues)) n)
    acts x f each = all_list Q get (named_queue x) f (change 0 (λ at. record at { unfetched = drop 1 at.unfetched; rung = at.rung - 1 }) s.controller.queues) n (λ at z all. each at all) (off 0)

pub queues_walk : (s : State) (q cid : ℕ) → (a.after_walk q cid s).controller.queues ≡ s.controller.queues
queues_walk s q cid = walk_by (λ (t : State). t.controller.queues ≡ s.controller.queues) s q cid refl (λ j act at u. refl)

queues_complete : {B : Type 0} (get : ServedQueue → List B) (Q : B → Type 0) (n : ℕ) (s : State) (q cid : ℕ) → QueueMove get Q n s (events.Complete q cid)
    → AllByRecursion Q (list_at get s.controller.queues n) → AllByRecursion Q (list_at get (a.after_complete q cid s).controller.queues n)
queues_complete get Q n s q cid move h =
    complete_by (λ (t : State). AllByRecursion Q (list_at get t.controller.queues n)) s q cid h
    (λ j at c. completed (a.on_served_queue (named_queue j.entry) cleared (finished q cid j s)) j at (all_list Q get (named_queue j.entry) cleared s.controller.queues n (λ at z all. move.clears at all) h))
    (λ j at c. completed (finished q cid j s) j at h)
  where
    completed : (t : State) (j : Job) → job_at s q cid ≡ Some j → AllByRecursion Q (list_at get t.controller.queues n) → AllByRecursion Q (list_at get (posts_completion q cid (a.final_status s j) j.dw0 t).controller.queues n)
    completed t j e h =
        all_list Q get q (λ at. record at { completions = at.completions ++ posted_completion q cid (a.final_status s j) j.dw0 t ∷ [] }) t.controller.queues n
        (λ at z all. move.completes cid j (fetch_slot t q) at (ap (λ (k : ℕ). events.Complete k cid) z) (subst (λ (k : ℕ). job_at s k cid ≡ Some j) z e) all) h

pub queues_event : {B : Type 0} (get : ServedQueue → List B) (Q : B → Type 0) (n : ℕ) (s : State) (e : Event) (reply : Reply) → QueueMove get Q n s e → Accepts s e reply → Stood s
    → AllByRecursion Q (list_at get s.controller.queues n) → AllByRecursion Q (list_at get (a.after s e reply).controller.queues n)
queues_event get Q n s (events.Fetch q) (events.Fetched c touched) move ok stood h = queues_fetch get Q n s (events.Fetch q) move stood q h
queues_event get Q n s (events.Walk q cid) (events.Walked o touched) move ok stood h = subst (λ (qs : List ServedQueue). AllByRecursion Q (list_at get qs n)) (sym (queues_walk s q cid)) h
queues_event get Q n s (events.Complete q cid) (events.Completed touched) move ok stood h = queues_complete get Q n s q cid move h
queues_event get Q n s (events.Fetch q) reply move ok stood h = absurd ok.1
queues_event get Q n s (events.Walk q cid) reply move ok stood h = absurd ok.1
queues_event get Q n s (events.Complete q cid) reply move ok stood h = absurd ok.1
queues_event get Q n s e reply move ok stood h =
    host_moves (λ (e : Event) (reply : Reply) (t : State). QueueMove get Q n s e → AllByRecursion Q (list_at get t.controller.queues n)) s e reply ok refl
    (record {
      reserves = λ q request d none is move. h;
      submits = λ d entry r none built its live move. all_list Q get d.q (λ at. record at { unfetched = at.unfetched ++ entry ∷ [] }) s.controller.queues n (λ at z all. move.posts d entry at refl built z all) h;
      cancels = λ d r its move. h;
      rings = λ q none move. all_list Q get q (λ at. record at { rung = length at.unfetched }) s.controller.queues n (λ at z all. move.rings (length at.unfetched) at all) h;
      rests = λ q is move. h;
      rejects = λ q why is move. reaped q move;
      tells = λ q cid st what e r request t heard w move. reaped q move;
      hears = λ q cid st what e r adm t heard w quiet unmade move. reaped q move;
      notes = λ q cid st what e r k t heard w move. reaped q move;
      frees = λ q cid st what e r k queue t heard w at retired good move. reaped q move;
      makes_cq = λ q cid st what e r k size base vector t heard w good move. reaped q move;
      unmakes_cq = λ q cid st what e r k size base vector queue t heard w at bad move. reaped q move;
      makes_sq = λ q cid st what e r k size base t heard w good move. reaped q move;
      unmakes_sq = λ q cid st what e r k size base queue t heard w at bad move. reaped q move;
      collects = λ q cid r f at held is move. h;
      releases = λ f r its move. h;
      aborts = λ q cid id none new move. sent (Abort q cid) id move;
      asks = λ q id queue none new live move. sent (DeleteSq q) id move;
      drops = λ q id none new move. sent (DeleteCq q) id move;
      creates_cqs = λ q vector id first queue none new granted move. sent (creates_cq q vector first s) id move;
      creates_sqs = λ q id first queue none new granted move. sent (creates_sq q first s) id move;
      retires = λ q queue none at deleted move. h;
      forges = λ q slot bytes queue none at move. h;
      resets = λ move. emptied s.controller.queues n move.empties.0 move.empties.1;
    }) move
  where
    emptied : (ds : List ServedQueue) (n : ℕ) → AllByRecursion Q (get a.reset_controller_admin) → AllByRecursion Q (get a.no_served_queue) → AllByRecursion Q (list_at get (a.reset_served_queues ds) n)
    emptied [] n admin gone = tt
    emptied (d ∷ ds) zero admin gone = admin
    emptied (d ∷ ds) (suc n) admin gone = rest ds n
      where
        rest : (ds : List ServedQueue) (n : ℕ) → AllByRecursion Q (list_at get (map (λ other. a.no_served_queue) ds) n)
        rest [] n = tt
        rest (d ∷ ds) zero = gone
        rest (d ∷ ds) (suc n) = rest ds n

    reaped : {e : Event} (q : ℕ) → QueueMove get Q n s e → AllByRecursion Q (list_at get (change q (λ at. record at { completions = drop 1 at.completions }) s.controller.queues) n)
    reaped q move = all_list Q get q (λ at. record at { completions = drop 1 at.completions }) s.controller.queues n (λ at z all. move.reaps at all) h

    sent : {e : Event} (adm : AdminKind) (id : ℕ) → QueueMove get Q n s e → AllByRecursion Q (list_at get (change 0 (λ at. record at { unfetched = at.unfetched ++ admin_entry adm id ∷ [] }) s.controller.queues) n)
    sent adm id move = all_list Q get 0 (λ at. record at { unfetched = at.unfetched ++ admin_entry adm id ∷ [] }) s.controller.queues n (λ at z all. move.sends (admin_entry adm id) at z all) h

-- What each event does to the host's records, one by one; a record is lost only as its own queue is retired.

-- the record that a collect takes
abbrev pub takes : Event → Record → Bool
takes (events.Collect q cid) r = is_at q cid r
takes e r = false

-- what P says of a record before an event gives Q of it after, however the event changes it
pub record RecordsMove (P Q : Record → Type 0) (s : State) (e : Event) : Type 0 where
  pub stays : (r : Record) → In r s.host.records → takes e r ≡ false → P r → Q r
  pub reserves : (d : DraftContents) → Q (record { q = d.q; cid = d.cid; phase = Drafted; work = Io d.request; data_pages = numbers_of d.data_pages; chain_pages = numbers_of d.chain_pages; status = None; hints = NONE })
  pub sends : (adm : AdminKind) (id : ℕ) → Q (sent_record adm id)
  pub submits : (d : DraftContents) (entry : SubEntry) (r : Record) → e ≡ events.Submit d → d.entry ≡ Some entry → record_at s.host d.q d.cid ≡ Some r
      → is_of is_drafted d.request (numbers_of d.data_pages) (numbers_of d.chain_pages) r ≡ true → P r → Q (a.submitted r)
  pub reaps : (q cid : ℕ) (st : Status) (entry : ComEntry) (request : Request) (r : Record) → e ≡ events.Reap q → seen_entry s q ≡ Some entry → named (reaped s q) ≡ Some cid → status_in (reaped s q) ≡ Some st → record_at s.host q cid ≡ Some r → r.work ≡ Io request
      → P r → Q (a.held st entry.hints r)
  pub loses : (r : Record) → In r s.host.records → is_submitted r.phase ≡ true → takes e r ≡ false → P r → Q (a.aborted r)
  pub collects : (r : Record) → P r → Q (a.collected r)

abbrev Inside : State → (Record → Type 0) → Record → Type 0
Inside s P r = In r s.host.records × P r

abbrev Both : (Record → Type 0) → (Record → Type 0) → Record → Type 0
Both P Q r = P r × Q r

pub records_event : (P Q : Record → Type 0) (s : State) (e : Event) (reply : Reply) → RecordsMove P Q s e → Accepts s e reply → Grounds s → AllByRecursion P s.host.records → AllByRecursion Q (a.after s e reply).host.records
records_event P Q s e reply move ok g h =
    let both : (e : Event) → RecordsMove P Q s e → ((r : Record) → takes e r ≡ false) → AllByRecursion (Both P Q) s.host.records =
    λ e move none. all_in P (Both P Q) s.host.records (λ r within p. (p, move.stays r within (none r) p)) h in
    let still : (e : Event) → RecordsMove P Q s e → ((r : Record) → takes e r ≡ false) → AllByRecursion Q s.host.records =
    λ e move none. all_in P Q s.host.records (λ r within p. move.stays r within (none r) p) h in
    let inside = all_in P (Inside s P) s.host.records (λ r within p. (within, p)) h in
    let without : (e : Event) (q cid : ℕ) → RecordsMove P Q s e → ((r : Record) → takes e r ≡ false) → AllByRecursion Q (without_record q cid s.host.records) =
    λ e q cid move none. all-filter Q (λ r. not (is_at q cid r)) s.host.records (still e move none) in
    let began : (e : Event) (new : Record) → RecordsMove P Q s e → ((r : Record) → takes e r ≡ false) → Q new → AllByRecursion Q (s.host.records ++ new ∷ []) =
    λ e new move none own. all_append Q s.host.records (new ∷ []) (still e move none) (own, tt) in
    let takes_none : (e : Event) → IsController e ≡ true → (r : Record) → takes e r ≡ false = λ e c r. grind arith in
    elim (cases_Bool (IsController e)) [
      | inl c ↦ subst (λ (part : HostPart). AllByRecursion Q part.host.records) (sym (part_controller s e reply c)) (still e move (takes_none e c))
      | inr c ↦
          host_moves (λ (e : Event) (reply : Reply) (t : State). RecordsMove P Q s e → AllByRecursion Q t.host.records) s e reply ok c
          (record {
            reserves = λ q request d none is move. began (events.Reserve q request) (drafted_record d) move (λ r. refl) (move.reserves d);
            submits = λ d entry r none built its live move.
                all_with (Both P Q) Q d.q d.cid a.submitted s.host.records r its.found (g.stands.0.once d.q d.cid) (λ x far p. p.1) (λ p. move.submits d entry r refl built its.found its.is p.0) (both (events.Submit d) move (λ r. refl));
            cancels = λ d r its move. without (events.Cancel d) d.q d.cid move (λ r. refl);
            rings = λ q none move. still (events.Ring q) move (λ r. refl);
            rests = λ q is move. still (events.Reap q) move (λ r. refl);
            rejects = λ q why is move. still (events.Reap q) move (λ r. refl);
            tells = λ q cid st what e r request t heard w move.
                all_with (Both P Q) Q q cid (a.held st e.hints) s.host.records r heard.found (g.stands.0.once q cid) (λ x far p. p.1)
                (λ p. move.reaps q cid st e request r refl heard.seen (ap named (sym t.is) ∙ t.names) (ap status_in (sym t.is) ∙ t.status) heard.found w p.0) (both (events.Reap q) move (λ r. refl));
            hears = λ q cid st what e r adm t heard w quiet unmade move. without (events.Reap q) q cid move (λ r. refl);
            notes = λ q cid st what e r k t heard w move. without (events.Reap q) q cid move (λ r. refl);
            frees = λ q cid st what e r k queue t heard w at retired good move. without (events.Reap q) q cid move (λ r. refl);
            makes_cq = λ q cid st what e r k size base vector t heard w good move. without (events.Reap q) q cid move (λ r. refl);
            unmakes_cq = λ q cid st what e r k size base vector queue t heard w at bad move. without (events.Reap q) q cid move (λ r. refl);
            makes_sq = λ q cid st what e r k size base t heard w good move. without (events.Reap q) q cid move (λ r. refl);
            unmakes_sq = λ q cid st what e r k size base queue t heard w at bad move. without (events.Reap q) q cid move (λ r. refl);
            collects = λ q cid r f at held is move. all_with (Inside s P) Q q cid a.collected s.host.records r at (g.stands.0.once q cid) (λ x far p. move.stays x p.0 far p.1) (λ p. move.collects r p.1) inside;
            releases = λ f r its move. without (events.Release f) f.q f.cid move (λ r. refl);
            aborts = λ q cid id none new move. began (events.Abort q cid) (sent_record (Abort q cid) id) move (λ r. refl) (move.sends (Abort q cid) id);
            asks = λ q id queue none new live move. began (events.DeleteSq q) (sent_record (DeleteSq q) id) move (λ r. refl) (move.sends (DeleteSq q) id);
            drops = λ q id none new move. began (events.DeleteCq q) (sent_record (DeleteCq q) id) move (λ r. refl) (move.sends (DeleteCq q) id);
            creates_cqs = λ q vector id first queue none new granted move. began (events.CreateCq q vector) (sent_record (creates_cq q vector first s) id) move (λ r. refl) (move.sends (creates_cq q vector first s) id);
            creates_sqs = λ q id first queue none new granted move. began (events.CreateSq q) (sent_record (creates_sq q first s) id) move (λ r. refl) (move.sends (creates_sq q first s) id);
            retires = λ q queue none at deleted move. all_map (Inside s P) Q (a.lost q) s.host.records (λ r p. one_lost q move r ((r.q == q) && is_submitted r.phase) refl p) inside;
            forges = λ q slot bytes queue none at move. still (events.Forge q slot bytes) move (λ r. refl);
            resets = λ move.
                all_reset (Inside s P) Q
                (λ r io p. lost_by Q r (λ quiet. move.stays r p.0 refl p.1) (λ sub. move.loses r p.0 sub refl p.1)) s.host.records inside;
          }) move
    ]
  where
    one_lost : (q : ℕ) → RecordsMove P Q s (events.Retire q) → (r : Record) (b : Bool) → ((r.q == q) && is_submitted r.phase) ≡ b → Inside s P r → Q (if b then a.aborted r else r)
    one_lost q move r true is p = let parts = and_parts (r.q == q) (is_submitted r.phase) is in move.loses r p.0 parts.1 refl p.1
    one_lost q move r false is p = move.stays r p.0 refl p.1

-- The status that a reap tells is its entry's.

pub told_entry : (s : State) (q : ℕ) (e : ComEntry) (st : Status) → status_in (reaped_entry s q e) ≡ Some st → e.status ≡ st
told_entry s q e st h = grind (arith, status_in)
