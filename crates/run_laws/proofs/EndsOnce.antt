-- Between two completions of a command it was submitted anew: after its completion no entry and no job of it is at the controller.
use Rattle.machine_model.{proofs.{Cases.none_some, Counting.{one, total}, Steps.Accepts}, specs.{Agreeing.on_queue, Events.{Event, Reply}}}
use Rattle.machine_model.specs.{Refusals.{is_job, job_at, next_rung}, Standing.unfetched_at, State.{State, Controller, Job}, declared.words.Refusal.Refusal}
use Rattle.std.proofs.Common.{◌≡◌, ℕ, ◌<◌, ◌≤◌, ◌==◌, Bool, true, false, not, ◌&&◌, Option, Some, None, List, [], ◌∷◌, ◌++◌, filter, if◌then◌else◌, ap, sym, ◌∙◌, arith, subst, eqb-true, eq-eqb, inl, inr}
use Rattle.std.{proofs.lemmas.Bool.{true≢false, and_parts, cases_Bool}, specs.{List.{AllByRecursion, list_any}, Option.{option_map_or}}}
use Rattle.entry_codec.specs.declared.{status.Status.Status, submission.SubEntry.SubEntry}
use Rattle.io_commands.specs.Drafts.{DraftContents}
use Rattle.run_laws.proofs.{DataKept.{Going, left_step, along_steps}, DataOnce.{NoEntry, no_entry_step, none_next}, Moves.{JobsMove, jobs_event}}
use Rattle.run_laws.proofs.{OneEnd.{submit_at, At, at_step}, ReadsWalked.sent_few as sent_less, Verdicts.given_job}
use Rattle.run_laws.specs.{Ends.{submits_by, submits, commands_complete_once}, Statuses.status_by}
use Rattle.two_sides.proofs.{Along.{cut, unforged_front}, Commands.nobody, ControllerMoves.finished, JobLaws.not_zero as positive}
use Rattle.two_sides.proofs.{Provided.in_found, Served.{Stood, job_weight, unfetched_count}, Standing.controller-completed}
use Rattle.machine_model.specs.After as a
use Rattle.machine_model.specs.Events as events
use Rattle.page_memory.proofs.Lists.{found_is, all-found}

-- no job of a command is left
abbrev IsOther : ℕ → ℕ → Job → Type 0
IsOther q cid j = j.q ≡ q → j.entry.cid ≡ cid → ⊥

record IsOver (q cid : ℕ) (s : State) : Type 0 where
  entries : NoEntry q cid s
  jobs : AllByRecursion (IsOther q cid) s.controller.jobs

-- Steps that do not submit it

far_submit : (q cid : ℕ) (s : State) (e : Event) (reply : Reply) → Accepts s e reply → submits_by q cid e reply ≡ false → (d : DraftContents) → e ≡ events.Submit d → ((d.q == q) && (d.cid == cid)) ≡ false
far_submit q cid s e reply ok far d is = grind (arith, submit_at, eqb-true)

jobs_turn : (q cid : ℕ) → (q == 0) ≡ false → (s : State) (e : Event) → NoEntry q cid s → JobsMove (IsOther q cid) (IsOther q cid) s e
jobs_turn q cid other s e none = record {
  stays = λ k j f walked p. p;
  fails = λ k j st waiting f walked failed free p. p;
  manages = λ entry st dw0 is next free same its. true≢false (sym (eq-eqb q 0 (sym same)) ∙ other);
  begins = λ k entry is next io free same its. none_next q cid s entry none (subst (λ (n : ℕ). next_rung s n ≡ Some entry) same next) its;
  walks = λ k c j act is w unit p. p;
}

over_step : (q cid : ℕ) → (q == 0) ≡ false → (s : State) (e : Event) (reply : Reply) → Going s e reply → submits_by q cid e reply ≡ false → IsOver q cid s → IsOver q cid (a.after s e reply)
over_step q cid other s e reply g far h = record {
  entries = no_entry_step q cid other s e reply g (far_submit q cid s e reply g.ok far) h.entries;
  jobs = jobs_event (IsOther q cid) (IsOther q cid) s e reply (jobs_turn q cid other s e h.entries) g.ok g.stood h.jobs;
}

-- A completion

none_left : (q cid : ℕ) (js : List Job) → AllByRecursion (IsOther q cid) (filter (λ j. not (is_job q cid j)) js)
none_left q cid [] = tt
none_left q cid (j ∷ js) = grind (arith, none_left q cid js, none_left q cid js, eq-eqb)

-- a job's command has no entry besides
job_alone : (s : State) (q cid : ℕ) (j : Job) → Stood s → job_at s q cid ≡ Some j → NoEntry q cid s
job_alone s q cid j stood at =
    let ids : ((j.q == q) ≡ true) × ((j.entry.cid == cid) ≡ true) = and_parts (j.q == q) (j.entry.cid == cid) (found_is (is_job q cid) s.controller.jobs j at) in
    let counts : 1 ≤ total (job_weight q (λ c. one (c == cid))) s.controller.jobs =
    let mine : job_weight q (λ c. one (c == cid)) j ≡ 1 = rw ids.0 (ap one ids.1) in
    omega (arith, mine, in_found (is_job q cid) s.controller.jobs j at (job_weight q (λ c. one (c == cid)))) in
    let there : 0 < total (on_queue q) s.controller.jobs = omega (arith, ap one ids.0, in_found (is_job q cid) s.controller.jobs j at (on_queue q)) in
    let un : unfetched_count q (λ c. one (c == cid)) s.host.queues s.controller.queues ≡ total (λ (x : SubEntry). one (x.cid == cid)) (unfetched_at s.controller.queues q) =
    ap (λ (b : Bool). if b then 0 else total (λ (x : SubEntry). one (x.cid == cid)) (unfetched_at s.controller.queues q)) (stood.grounds.fit.service q there) in
    let few : total (λ (x : SubEntry). one (x.cid == cid)) (unfetched_at s.controller.queues q) ≡ 0 =
    omega (arith, counts, un, stood.places q (λ c. one (c == cid)), sent_less q cid s.host.records, stood.grounds.stands.0.once q cid) in
    nobody (λ (x : SubEntry). x.cid) cid (λ x. ⊥) (unfetched_at s.controller.queues q) few

-- a completion takes the job away
jobs_completed : (s : State) (q cid : ℕ) (j : Job) → job_at s q cid ≡ Some j → (a.after_complete q cid s).controller.jobs ≡ filter (λ k. not (is_job q cid k)) s.controller.jobs
jobs_completed s q cid j at =
    let st = a.final_status s j in
    ap (λ (o : Option Job). (option_map_or (λ j. let st = a.final_status s j in a.with_posted_completion q cid st j.dw0 (a.deletion_done j st (a.on_controller (λ d. record d { image = a.image_completed j d.image }) (a.without_job q cid s)))) o s).controller.jobs) at
    ∙ ap (λ (d : Controller). d.jobs) (controller-completed q cid st j.dw0 (a.deletion_done j st (finished q cid j s)))
    ∙ grind arith

-- after it nothing of the command is left
over_completion : (s : State) (e : Event) (reply : Reply) (q cid : ℕ) (st : Status) → (q == 0) ≡ false → Going s e reply → status_by s e reply q cid ≡ Some st → IsOver q cid (a.after s e reply)
over_completion s (events.Complete k c) (events.Completed touched) q cid st other g given =
    let job = given_job s (events.Complete k c) (events.Completed touched) q cid st given in
    let left = subst (AllByRecursion (IsOther q cid)) (sym (jobs_completed s q cid job.0 job.1)) (none_left q cid s.controller.jobs) in
    record {
      entries = no_entry_step q cid other s (events.Complete k c) (events.Completed touched) g (λ d is. absurd (cc (is))) (job_alone s q cid job.0 g.stood job.1);
      jobs = (elim (cases_Bool ((k == q) && (c == cid))) [ inl is ↦ grind (arith, eqb-true) | inr is ↦ absurd cc ]);
    }
over_completion s e reply q cid st other g given = absurd cc

refused_gives : (s : State) (e : Event) (why : Refusal) (touched : List ℕ) (q cid : ℕ) → status_by s e (events.Refused why touched) q cid ≡ None
refused_gives s e why touched q cid = grind arith

pub runs_complete_once : commands_complete_once
runs_complete_once image earlier first between second later end q cid st st' run io given given' =
    let at : At first (between ++ second ∷ later) end = at_step image earlier first between later second end run in
    let other : (q == 0) ≡ false = positive q io in
    let over : IsOver q cid at.mid =
    left_step (IsOver q cid) first.before first.event first.reply at.mid at.step at.trusted at.unforged.trusted at.fronted.stood
    (λ why touched is. absurd (none_some (sym (refused_gives first.before first.event why touched q cid) ∙ subst (λ (r : Reply). status_by first.before first.event r q cid ≡ Some st) is given)))
    (λ g. over_completion first.before first.event first.reply q cid st other g given) in
    elim (cases_Bool (list_any (submits q cid) between)) [
      | inl e ↦ e
      | inr e ↦
          let two = cut between (second ∷ later) at.mid end at.steps in
          let front = unforged_front between (second ∷ later) at.mid at.unforged in
          let still = along_steps (IsOver q cid) (submits q cid) (λ s e reply g far. over_step q cid other s e reply g far) between at.mid two.0 two.1 front at.fronted_mid.stood e over in
          let j = given_job second.before second.event second.reply q cid st' given' in
          let ids = and_parts (j.0.q == q) (j.0.entry.cid == cid) (found_is (is_job q cid) second.before.controller.jobs j.0 j.1) in
          let over' = subst (IsOver q cid) (sym two.2.0) still.1 in
          absurd (all-found (IsOther q cid) (is_job q cid) second.before.controller.jobs j.0 j.1 over'.jobs (eqb-true j.0.q q ids.0) (eqb-true j.0.entry.cid cid ids.1))
    ]
