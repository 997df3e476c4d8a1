-- The first verdict on a command stays.
use Rattle.machine_model.specs.Events as events
use Rattle.machine_model.specs.After as a
use Rattle.std.proofs.Common.{◌≡◌, ◌⊎◌, inl, inr, ℕ, ◌==◌, Bool, true, false, not, ◌&&◌, Option, Some, None, List, [], ◌∷◌, ◌++◌, if◌then◌else◌, refl, ap, ap₂, sym, ◌∙◌, subst, eqb-true, eq-eqb, unwrap_or, ◌+◌, map, filter, find, is_some, is_none, arith}
use Rattle.std.{proofs.lemmas.{Bool.{true≢false, and_parts, not-true, cases_Bool}, List.append_assoc}, specs.List.{AllByRecursion, list_any}}
use Rattle.std.specs.{Option.{option_map, option_map_or}}
use Rattle.entry_codec.specs.{Completion.{completion_bytes, completion_of}, Status.is_success, Submission.{submission_bytes, submission_of}}
use Rattle.entry_codec.specs.declared.{admin_opcode.TheConstants.DELETE_IO_SQ, status.Status.Status}
use Rattle.entry_codec.specs.declared.status.TheConstants.Status.{SUCCESS, COMMAND_ID_CONFLICT, ABORT_REQUESTED, ABORTED_SQ_DELETION}
use Rattle.entry_codec.specs.declared.submission.SubEntry.{SubEntry}
use Rattle.io_commands.specs.Jobs.{verdict_of, direction_of_entry}
use Rattle.machine_model.{proofs.{Steps.{Accepts, managed_by, permitted}, Tokens.is_job}, specs.{After.final_status, Events.{Event, Reply}}}
use Rattle.machine_model.specs.{Image.Made, Opening.opening, Refusals.{job_at, next_rung, conflicts, refusal_of}, Script.{played, left_by}}
use Rattle.machine_model.specs.{State.{State, Job, Controller}, Step.{resets, Step, Refuses}, Trusted.{TrustedRun, Steps, forges_by}, WorkedReads.ordinary}
use Rattle.machine_model.specs.declared.words.Refusal.{Refusal, TheVariants.{Nothing}}
use Rattle.run_laws.{proofs.{Moves.{JobsMove, jobs_event}, OneEnd.none_parts}, specs.Statuses.{status_by, fetches, fetches_by}}
use Rattle.run_laws.specs.Verdicts.{FoundDifference, first_verdicts_count, jobs_stay, KeepsVerdict, IsRefusedWalk, verdicts_stay, verdicts_end_walks}
use Rattle.run_laws.specs.WorkedVerdicts.{one_aborted, deleted_under, deleted_under_said}
use Rattle.two_sides.proofs.Along.{Unforged, unforged_front, unforged_back, unforged_run, Carried, keeps, made_of, cut, along_proper, before_step, stays_trusted, trusted_end, trusted_step_by}
use Rattle.two_sides.proofs.{JobLaws.stood_after, NeverFull.{one_job, stood_on, stood_at_opening, some_none, host_jobs}}
use Rattle.two_sides.proofs.{Provided.{all_in, only_found}, Served.Stood, Standing.controller-completed}
use Rattle.admin_commands.specs.{Entries.{named_queue, named_command}, declared.SqState.TheVariants.Absent}
use Rattle.controller_walk.specs.Units.{Act, Moves, moving, from_place}
use Rattle.sgl_descriptor.specs.{Spelling.descriptor_of, declared.Direction.{Direction, TheVariants.{Destination, Source}}}
use Rattle.page_memory.specs.{Memory.bytes_at, Pages.{with_bytes, zero_page}}
use Rattle.slot_table.proofs.Rows.{option_is}
use Rattle.page_memory.proofs.Lists.{found_is, all-found}

-- A command completes with its first verdict.

-- each job of the command has this verdict
abbrev Has : ℕ → ℕ → Status → Job → Type 0
Has q cid st j = is_job q cid j ≡ true → j.verdict ≡ Some st

-- so it is as long as no command of its identifier is fetched
record Marked (q cid : ℕ) (st : Status) (done : List Made) (s : State) : Type 0 where
  pub stood : Stood s
  pub jobs : list_any (fetches q cid) done ≡ false → AllByRecursion (Has q cid st) s.controller.jobs

fetched_by : (s : State) (k : ℕ) (reply : Reply) (entry : SubEntry) → Accepts s (events.Fetch k) reply → next_rung s k ≡ Some entry → fetches_by k entry.cid (events.Fetch k) reply ≡ true
fetched_by s k reply entry ok next = grind arith

fetched_at : (s : State) (e : Event) (k : ℕ) (reply : Reply) (entry : SubEntry) → Accepts s e reply → e ≡ events.Fetch k → next_rung s k ≡ Some entry → fetches_by k entry.cid e reply ≡ true
fetched_at s e k reply entry ok is next = subst (λ (x : Event). fetches_by k entry.cid x reply ≡ true) (sym is) (fetched_by s k reply entry (subst (λ (x : Event). Accepts s x reply) is ok) next)

marked_turn : (q cid : ℕ) (st : Status) (s : State) (e : Event) (reply : Reply) → Accepts s e reply → fetches_by q cid e reply ≡ false → JobsMove (Has q cid st) (Has q cid st) s e
marked_turn q cid st s e reply ok far = record {
  stays = λ k j f walked p is. p is;
  fails = λ k j st' waiting f far lost none p is. absurd (some_none (sym (p is) ∙ none));
  manages = λ entry st' dw0 e' next free is. absurd (grind (arith, fetched_at, eqb-true, e', next, and_parts (0 == q) (entry.cid == cid) is));
  begins = λ k entry e' next other free is. absurd (grind (arith, fetched_at, eqb-true, e', next, and_parts (k == q) (entry.cid == cid) is));
  walks = λ k c j act e' w u p is. absurd (some_none (sym (p is) ∙ w.verdict));
}

marked_carried : (q cid : ℕ) (st : Status) → Carried (Marked q cid st)
marked_carried q cid st = record {
  refused = λ done s e why touched h. record { stood = h.stood; jobs = λ none. h.jobs (none_parts (fetches q cid) done (made_of s e (events.Refused why touched)) none).0 };
  taken = λ done s e reply proper ok t h. record {
    stood = stood_on s e reply proper ok t h.stood;
    jobs = λ none.
        let parts = none_parts (fetches q cid) done (made_of s e reply) none in
        jobs_event (Has q cid st) (Has q cid st) s e reply (marked_turn q cid st s e reply ok parts.1) ok h.stood (h.jobs parts.0);
  };
}

-- What a completion gives a job that has a verdict

success_is : (st : Status) → is_success st ≡ true → st ≡ SUCCESS
success_is st h =
    let parts = and_parts (st.sct == 0) (st.sc == 0) h in
    ap₂ (λ (x y : ℕ). record { sct = x; sc = y }) (eqb-true st.sct 0 parts.0) (eqb-true st.sc 0 parts.1)

abbrev Gives : Made → ℕ → ℕ → Status → Status → Type 0
Gives m q cid verdict st = (st ≡ verdict) ⊎ FoundDifference m q cid verdict st

job_gives : (m : Made) (q cid : ℕ) (j : Job) (verdict : Status) → job_at m.before q cid ≡ Some j → j.verdict ≡ Some verdict → Gives m q cid verdict (final_status m.before j)
job_gives m q cid j verdict at v = grind (arith, unwrap_or, success_is)

pub given_job : (s : State) (e : Event) (reply : Reply) (q cid : ℕ) (st : Status) → status_by s e reply q cid ≡ Some st → (j : Job) × (job_at s q cid ≡ Some j) × (final_status s j ≡ st)
given_job s (events.Complete k c) (events.Completed touched) q cid st given = grind arith
given_job s e reply q cid st given = absurd cc

pub runs_count_first_verdicts : first_verdicts_count
runs_count_first_verdicts image earlier m between completion later end q cid job verdict st run at v far given =
    let steps = subst (λ (ms : List Made). Steps (opening run.pages run.queues run.entries run.segment image) ms end) (append_assoc earlier (m ∷ between) (completion ∷ later)) run.steps in
    let two = cut earlier (m ∷ between ++ completion ∷ later) (opening run.pages run.queues run.entries run.segment image) end steps in
    let all = subst (λ (ms : List Made). Unforged (opening run.pages run.queues run.entries run.segment image) ms) (append_assoc earlier (m ∷ between) (completion ∷ later))
    (unforged_run image (earlier ++ m ∷ between ++ completion ∷ later) end run) in
    let rest = unforged_back earlier (m ∷ between ++ completion ∷ later) (opening run.pages run.queues run.entries run.segment image) two.0 two.1 all in
    let first = unforged_front earlier (m ∷ between ++ completion ∷ later) (opening run.pages run.queues run.entries run.segment image) all in
    let before : TrustedRun image earlier two.0 = record { pages = run.pages; queues = run.queues; entries = run.entries; segment = run.segment; opens = run.opens; is_image = run.is_image; steps = two.1; unforged = ap not first.none } in
    let stood = along_proper Stood stood_on stood_at_opening image earlier two.0 before in
    let here : job_at two.0 q cid ≡ Some job = subst (λ (s : State). job_at s q cid ≡ Some job) two.2.0 at in
    let marked : Marked q cid verdict [] two.0 = record {
      stood = stood;
      jobs = λ none. all_in (λ j. is_job q cid j ≡ true → j ≡ job) (Has q cid verdict) two.0.controller.jobs (λ j within only is. ap (λ (x : Job). x.verdict) (only is) ∙ v) (only_found (is_job q cid) two.0.controller.jobs job here (one_job two.0 stood q cid));
    } in
    let b = before_step (Marked q cid verdict) (keeps (Marked q cid verdict) (marked_carried q cid verdict)) [] (m ∷ between) later completion two.0 end two.2 rest marked in
    let j = given_job completion.before completion.event completion.reply q cid st given in
    let its : j.0.verdict ≡ Some verdict =
    all-found (Has q cid verdict) (is_job q cid) completion.before.controller.jobs j.0 j.1 (b.holds.jobs (not-true (list_any (fetches q cid) (m ∷ between)) far)) (found_is (is_job q cid) completion.before.controller.jobs j.0 j.1) in
    subst (Gives completion q cid verdict) j.2 (job_gives completion q cid j.0 verdict j.1 its)

-- A job stays until it completes, or the controller is reset.

abbrev There : ℕ → ℕ → List Job → Type 0
There q cid js = is_some (find (is_job q cid) js) ≡ true

there_map : (q cid : ℕ) (f : Job → Job) → ((j : Job) → is_job q cid (f j) ≡ is_job q cid j) → (js : List Job) → There q cid js → There q cid (map f js)
there_map q cid f same [] h = h
there_map q cid f same (j ∷ js) h = rw (same j) (elim (cases_Bool (is_job q cid j)) [ inl e ↦ rw e refl | inr e ↦ rw e ((there_map q cid f same js) (rw e at h)) ])

there_append : (q cid : ℕ) (js : List Job) (new : Job) → There q cid js → There q cid (js ++ new ∷ [])
there_append q cid [] new h = absurd (true≢false (sym h))
there_append q cid (j ∷ js) new h = grind (arith, there_append q cid js new, is_job)

there_filter : (q cid : ℕ) (keep : Job → Bool) → ((j : Job) → is_job q cid j ≡ true → keep j ≡ true) → (js : List Job) → There q cid js → There q cid (filter keep js)
there_filter q cid keep kept [] h = h
there_filter q cid keep kept (j ∷ js) h = grind (arith, there_filter q cid keep kept js)

-- a change of some jobs that leaves their queues and entries
there_some : (q cid : ℕ) (test : Job → Bool) (f : Job → Job) → ((j : Job) → is_job q cid (f j) ≡ is_job q cid j) → (js : List Job) → There q cid js → There q cid (map (λ j. if test j then f j else j) js)
there_some q cid test f same js h = there_map q cid (λ j. if test j then f j else j) (λ j. (elim (cases_Bool (test j)) [ inl e ↦ rw e (same j) | inr e ↦ rw e refl ])) js h

-- Fetching

there_fetch : (q cid k : ℕ) (s : State) → There q cid s.controller.jobs → There q cid (a.after_fetch k s).controller.jobs
there_fetch q cid k s h = by_entry (next_rung s k)
  where
    one_more : (js : List Job) (new : Job) → There q cid js → There q cid (js ++ new ∷ [])
    one_more js new all = there_append q cid js new all

    managed : (e : SubEntry) → There q cid (a.managed e (a.taken_off 0 s)).controller.jobs
    managed e =
        managed_by (λ (t : State). There q cid t.controller.jobs) e (a.taken_off 0 s)
        (record {
          refuses = λ st bad. one_more s.controller.jobs _ h;
          aborts = λ is8 w. one_more (map (λ (j : Job). if (j.q == named_queue e) && (j.entry.cid == named_command e) then record j { verdict = Some ABORT_REQUESTED; waiting_abort = Some e.cid } else j) s.controller.jobs) _
              (there_some q cid (λ j. (j.q == named_queue e) && (j.entry.cid == named_command e)) (λ j. record j { verdict = Some ABORT_REQUESTED; waiting_abort = Some e.cid }) (λ j. refl) s.controller.jobs h);
          is_late = λ is8. one_more s.controller.jobs _ h;
          stops = λ is0 q0 runs. one_more (map (a.stopped (named_queue e)) s.controller.jobs) _
              (there_some q cid (λ j. (j.q == named_queue e) && is_none j.verdict) (λ j. record j { verdict = Some ABORTED_SQ_DELETION }) (λ j. refl) s.controller.jobs h);
          drops = λ is4 q0 there gone. one_more s.controller.jobs _ h;
          makes_completion = λ is5 q0 none. one_more s.controller.jobs _ h;
          makes_submission = λ is1 q0 gone there. one_more s.controller.jobs _ h;
        })

    inner : (e : SubEntry) (b z : Bool) → There q cid (if b then a.with_posted_completion k e.cid COMMAND_ID_CONFLICT 0 (a.taken_off k s) else if z then a.managed e (a.taken_off 0 s) else a.begun k e (a.taken_off k s)).controller.jobs
    inner e true z = subst (λ (d : Controller). There q cid d.jobs) (sym (controller-completed k e.cid COMMAND_ID_CONFLICT 0 (a.taken_off k s))) h
    inner e false true = managed e
    inner e false false = one_more s.controller.jobs _ h

    by_entry : (o : Option SubEntry) → There q cid (option_map_or (λ e. if conflicts s k then a.with_posted_completion k e.cid COMMAND_ID_CONFLICT 0 (a.taken_off k s) else if k == 0 then a.managed e (a.taken_off 0 s) else a.begun k e (a.taken_off k s)) o s).controller.jobs
    by_entry None = h
    by_entry (Some e) = inner e (conflicts s k) (k == 0)

-- Walking

there_walk : (q cid k c : ℕ) (s : State) → There q cid s.controller.jobs → There q cid (a.after_walk k c s).controller.jobs
there_walk q cid k c s h = elim (option_is (job_at s k c)) [
  | inl e ↦ rw e (h)
  | inr (j, e) ↦ rw e (inner j (a.next_unit s j))
]
  where
    moved : (dir : Direction) (act : Act) → There q cid (a.moved dir act k c s).controller.jobs
    moved Destination (Moves place n offset) = grind arith
    moved Source (Moves place n offset) =
        there_some q cid (λ j. is_job k c j) (λ j. record j { bytes = with_bytes j.bytes offset (a.page_bytes s.memory place n) }) (λ j. refl) s.controller.jobs h
    moved dir act = h

    inner : (j : Job) (o : Option Act) → There q cid (option_map_or (λ act. a.on_job k c (λ x. record x { units_done = x.units_done + 1; verdict = verdict_of (a.next_answer s j) }) (a.moved (direction_of_entry j.entry) act k c s)) o s).controller.jobs
    inner j None = h
    inner j (Some act) =
        there_some q cid (λ x. is_job k c x) (λ x. record x { units_done = x.units_done + 1; verdict = verdict_of (a.next_answer s j) }) (λ x. refl) (a.moved (direction_of_entry j.entry) act k c s).controller.jobs (moved (direction_of_entry j.entry) act)

-- Completing another

both_is : (q cid k c : ℕ) (j : Job) → ((k == q) && (c == cid)) ≡ false → is_job q cid j ≡ true → not (is_job k c j) ≡ true
both_is q cid k c j far is = grind (arith, is_job, eq-eqb, eqb-true)

there_complete : (q cid k c : ℕ) (s : State) → ((k == q) && (c == cid)) ≡ false → There q cid s.controller.jobs → There q cid (a.after_complete k c s).controller.jobs
there_complete q cid k c s far h = by_job (job_at s k c)
  where
    fewer : There q cid (filter (λ j. not (is_job k c j)) s.controller.jobs)
    fewer = there_filter q cid (λ j. not (is_job k c j)) (λ j is. both_is q cid k c j far is) s.controller.jobs h

    deleted : (j : Job) (b : Bool) (t : State) → There q cid t.controller.jobs → There q cid (if b then a.on_served_queue (named_queue j.entry) (λ at. record at { state = Absent; unfetched = []; rung = 0 }) t else t).controller.jobs
    deleted j true t h = h
    deleted j false t h = h

    by_job : (o : Option Job) → There q cid (option_map_or (λ j. let st = a.final_status s j in a.with_posted_completion k c st j.dw0 (a.deletion_done j st (a.on_controller (λ d. record d { image = a.image_completed j d.image }) (a.without_job k c s)))) o s).controller.jobs
    by_job None = h
    by_job (Some j) =
        let st = a.final_status s j in
        let t = a.on_controller (λ d. record d { image = a.image_completed j d.image }) (a.without_job k c s) in
        subst (λ (d : Controller). There q cid d.jobs) (sym (controller-completed k c st j.dw0 (a.deletion_done j st t))) (deleted j ((j.q == 0) && (j.entry.opcode == DELETE_IO_SQ) && is_success st) t fewer)

-- Every event

there_event : (q cid : ℕ) (s : State) (e : Event) (reply : Reply) → resets e ≡ false → Accepts s e reply → (job : Job) → job_at s q cid ≡ Some job → status_by s e reply q cid ≡ None → There q cid (a.after s e reply).controller.jobs
there_event q cid s (events.Fetch k) (events.Fetched c touched) other ok job at none = there_fetch q cid k s (ap is_some at)
there_event q cid s (events.Walk k c) (events.Walked o touched) other ok job at none = there_walk q cid k c s (ap is_some at)
there_event q cid s (events.Complete k c) (events.Completed touched) other ok job at none = there_complete q cid k c s (elim (cases_Bool ((k == q) && (c == cid))) [ inl is ↦ let none = rw is at none in absurd (some_none (sym (ap (option_map (a.final_status s)) at) ∙ none)) | inr is ↦ is ]) (ap is_some at)
there_event q cid s (events.Fetch k) reply other ok job at none = absurd ok.1
there_event q cid s (events.Walk k c) reply other ok job at none = absurd ok.1
there_event q cid s (events.Complete k c) reply other ok job at none = absurd ok.1
there_event q cid s e reply other ok job at none = subst (There q cid) (sym (host_jobs s e reply ok refl other)) (ap is_some at)

pub runs_keep_jobs : jobs_stay
runs_keep_jobs image made old new e reply q cid job run step unforged other at none =
    let trusted : old.trusted ≡ true = trusted_end image made old run in
    trusted_step_by (λ (e : Event) (reply : Reply) (t : State). resets e ≡ false → job_at old q cid ≡ Some job → status_by old e reply q cid ≡ None → There q cid t.controller.jobs) old
    (λ e why touched other at none. ap is_some at) (λ e reply proper ok other at none. there_event q cid old e reply other ok job at none) e reply new step trusted
    (stays_trusted old e reply new step (not-true (forges_by e reply) unforged) trusted) (not-true (resets e) other) at none

-- A verdict stays.

-- what is so of each job before, and after
abbrev Is : ℕ → ℕ → Job → Job → Type 0
Is q cid before j = is_job q cid j ≡ true → j ≡ before

abbrev Keeps : ℕ → ℕ → Job → Job → Type 0
Keeps q cid before j = is_job q cid j ≡ true → KeepsVerdict before j

verdicts_kept : (s : State) (e : Event) (q cid : ℕ) (before : Job) (st : Status) → job_at s q cid ≡ Some before → before.verdict ≡ Some st → JobsMove (Is q cid before) (Keeps q cid before) s e
verdicts_kept s e q cid before st at v = record {
  stays = λ k j f far p is. subst (KeepsVerdict before) (sym (p is)) (record { verdict = refl; units_done = refl; bytes = refl });
  fails = λ k j st' waiting f far lost none p is. absurd (some_none (sym v ∙ ap (λ (x : Job). x.verdict) (sym (p is)) ∙ none));
  manages = λ entry st' dw0 e' next free is.
      let ids = and_parts (0 == q) (entry.cid == cid) is in
      absurd (grind (arith, eqb-true 0 q ids.0, eqb-true entry.cid cid ids.1, free));
  begins = λ k entry e' next other free is.
      let ids = and_parts (k == q) (entry.cid == cid) is in
      absurd (grind (arith, eqb-true k q ids.0, eqb-true entry.cid cid ids.1, free));
  walks = λ k c j act e' w u p is. absurd (some_none (sym v ∙ ap (λ (x : Job). x.verdict) (sym (p is)) ∙ w.verdict));
}

pub runs_keep_verdicts : verdicts_stay
runs_keep_verdicts image made old new e reply q cid before after st run step unforged at v here =
    let only : (s : State) → Stood s → job_at s q cid ≡ Some before → AllByRecursion (Is q cid before) s.controller.jobs =
    λ s stood at. only_found (is_job q cid) s.controller.jobs before at (one_job s stood q cid) in
    all-found (Keeps q cid before) (is_job q cid) new.controller.jobs after here
    (trusted_step_by (λ (e : Event) (reply : Reply) (t : State). Stood old → job_at old q cid ≡ Some before → AllByRecursion (Keeps q cid before) t.controller.jobs) old
    (λ e why touched stood at. all_in (Is q cid before) (Keeps q cid before) old.controller.jobs (λ j within p is. subst (KeepsVerdict before) (sym (p is)) (record { verdict = refl; units_done = refl; bytes = refl })) (only old stood at))
    (λ e reply proper ok stood at. jobs_event (Is q cid before) (Keeps q cid before) old e reply (verdicts_kept old e q cid before st at v) ok stood (only old stood at))
    e reply new step (trusted_end image made old run)
    (stays_trusted old e reply new step (not-true (forges_by e reply) unforged) (trusted_end image made old run)) (stood_after image made old run) at)
    (found_is (is_job q cid) new.controller.jobs after here)

-- A walk of a job that has a verdict

walk_refusal : (s : State) (q cid : ℕ) (job : Job) (st : Status) → job_at s q cid ≡ Some job → job.verdict ≡ Some st → refusal_of s (events.Walk q cid) ≡ Some Nothing
walk_refusal s q cid job st at v = grind arith

refused_so : (s : State) (q cid : ℕ) (why : Refusal) (touched : List ℕ) → refusal_of s (events.Walk q cid) ≡ Some Nothing → Refuses s (events.Walk q cid) why touched → events.Refused why touched ≡ events.Refused Nothing []
refused_so s q cid why touched is h = grind arith

pub verdict_ends_walks : verdicts_end_walks
verdict_ends_walks image made s new reply q cid job st run step at v = by_reply reply step
  where
    is : refusal_of s (events.Walk q cid) ≡ Some Nothing
    is = walk_refusal s q cid job st at v

    by_reply : (reply : Reply) → Step s (events.Walk q cid) reply new → IsRefusedWalk s reply new
    by_reply (events.Refused why touched) step = record { refused = refused_so s q cid why touched is (permitted _ s.trusted false (trusted_end image made s run) step.1); same = step.2 }
    by_reply reply step = absurd (cc (sym is ∙ (permitted _ s.trusted false (trusted_end image made s run) step.1).0))

-- A queue deleted under two commands with verdicts, computed: it is longer than what a search goes through.

pub deletion_is_said : played (left_by ordinary one_aborted) deleted_under ≡ deleted_under_said
unfolding zero_page bytes_at descriptor_of submission_bytes submission_of completion_bytes completion_of moving from_place
deletion_is_said = refl
