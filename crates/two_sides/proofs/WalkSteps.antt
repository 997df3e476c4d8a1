-- The step of a walk is a step of the machine, and leaves both sides tied.
use Rattle.std.proofs.Common.{◌≡◌, ℕ, ◌+◌, ◌<◌, ◌==◌, ◌||◌, Bool, true, false, Option, Some, None, Ok, Err, IfSome, is_some, List, [], length, find, map, slice_get, if◌then◌else◌, refl, ap, ap₂, sym, ◌∙◌, subst, inl, inr, arith}
use Rattle.std.{proofs.lemmas.{Bool.true≢false, Option.slice_get-map}, specs.Option.{option_map, option_map_or}}
use Rattle.machine_model.{proofs.{Steps.in_store, Tokens.is_job}, specs.After.{after_walk, course_of, next_answer, next_unit}}
use Rattle.machine_model.specs.{Memory.memory_of, Refusals.{job_at, refusal_of}, State.{State, ServedQueue, Job, Record, is_at, pages_of}}
use Rattle.machine_model.specs.Step.{Permits, unit_answered}
use Rattle.block_image.specs.Blocks.{block_count}
use Rattle.controller_core.proofs.Lists.{all_set}
use Rattle.controller_core.specs.Contents.{Contents, FetchedCommand, FitsWork, IsController, FetchedWork, is_command, verdict_of_work}
use Rattle.controller_core.specs.{Walking.{WalksTo, ended_refusal, stepped, walk_refusal}, declared.command.FetchedWork.TheVariants.{Io, Admin}}
use Rattle.controller_walk.specs.{Laws.after_units, Units.Act, Walks.{IfMore, answer}, declared.walk.WalkState.{WalkState, TheVariants.{More, End, Fault}}}
use Rattle.entry_codec.specs.declared.{status.Status.Status, submission.SubEntry.SubEntry}
use Rattle.io_commands.specs.Jobs.{job_course, direction_of_entry, verdict_of}
use Rattle.two_sides.proofs.{Assembling.{serve_refused, served_stepped}, Commands.{Walking, walk_writes}}
use Rattle.two_sides.proofs.ControllerMoves.{unit_bytes, unit_done, unit_memory, walk_is}
use Rattle.two_sides.proofs.Frames.{Spares, all_stand_still, apart_from_queues, queues_stay, tied_of, job_served, stands_again, still_stands, stood}
use Rattle.two_sides.proofs.{NeverFull.{ListsStay, stay_walk}, Places.{is_found, job-at, job-found, map_one, seen, seen_is}}
use Rattle.two_sides.proofs.{PoolBytes.reads_the_pool, Served.data_of, Serving.{either_by, same_pages, with_served}}
use Rattle.two_sides.{proofs.Units.{FirstUnit, HeadInPage, effect_told, few_touched, first_unit, head_in_page, next_done, unit_stays}, specs.Serving.why_of}
use Rattle.two_sides.specs.{Sides.{Sides, state_of, served_queues_of, job_of}, Stepping.{LeavesPages, StepsTo, served, walks_step, walks_refuse_alike}}
use Rattle.two_sides.specs.Ties.{IsWorld, ShareQueues, SharesAdmin, AllQueuesStand, WalkStands, WalksStand}
use Rattle.page_ledger.specs.Owners.{is_among}
use Rattle.page_memory.specs.{Memory.Memory, Pages.{Pages, byte_at, page_at, AreWhole}}
use Rattle.sgl_descriptor.specs.declared.Direction.{Direction}
use Rattle.controller_core.specs.declared.refusal.ControllerRefusal.{ControllerRefusal}
use Rattle.controller_core.specs.declared.refusal.ControllerRefusal.TheVariants as because
use Rattle.controller_walk.specs.Serving as serving
use Rattle.machine_model.specs.Events as events
use Rattle.machine_model.specs.declared.words.Refusal.TheVariants as refusal
use Rattle.slot_table.proofs.Rows.{option_is}
use Rattle.page_memory.proofs.Lists.{found_at}
use Rattle.page_memory.proofs.Lists.{all-at}

-- The refusals

refused_by : (s : State) (q cid : ℕ) (j : Job) → job_at s q cid ≡ Some j → refusal_of s (events.Walk q cid) ≡ (if is_some j.verdict || (j.q == 0) then Some refusal.Nothing else None)
refused_by s q cid j e = rw e refl

-- whatever was forged, the controller refuses what the machine does
refusal_is : (s : Sides) (q cid : ℕ) → IsWorld s → refusal_of (state_of s) (events.Walk q cid) ≡ option_map why_of (walk_refusal s.controller q cid)
refusal_is s q cid world = elim (option_is (find (is_command q cid) s.controller.commands)) [
  | inl e ↦ rw e (rw (job-at s q cid ∙ ap (option_map job_of) e) refl)
  | inr (k, e) ↦ rw e (refused_by (state_of s) q cid (job_of k) (job-found s q cid k e) ∙ by k.work (block_count s.controller.image) k.q k.units_done (is_found s world q cid k e).fits.1)
]
  where
    same : (verdict admin : Bool) → admin ≡ false → (if verdict || admin then Some refusal.Nothing else None) ≡ option_map why_of (if verdict then Some because.Nothing else None)
    same verdict admin e = grind arith

    by : (work : FetchedWork) (blocks q done : ℕ) → FitsWork blocks q done work
        → (if is_some (verdict_of_work work) || (q == 0) then Some refusal.Nothing else None) ≡ option_map why_of (if is_some (verdict_of_work work) then Some because.Nothing else None)
    by (Io job) blocks q done fits = same (is_some job.verdict) (q == 0) fits.0
    by (Admin entry status dw0) blocks q done fits = refl

pub walk_refused_alike : walks_refuse_alike
walk_refused_alike s q cid world t = refusal_is s q cid world

may_refuse : (s : Sides) (q cid : ℕ) (why : ControllerRefusal) → IsWorld s → walk_refusal s.controller q cid ≡ Some why → Permits (state_of s) (events.Walk q cid) (events.Refused (why_of why) [])
may_refuse s q cid why world e = subst (λ (o : Option ControllerRefusal). IfSome o Allowed) e (causes (find (is_command q cid) s.controller.commands)) (refusal_is s q cid world ∙ ap (option_map why_of) e)
  where
    Allowed : ControllerRefusal → Type 0
    Allowed why = refusal_of (state_of s) (events.Walk q cid) ≡ Some (why_of why) → Permits (state_of s) (events.Walk q cid) (events.Refused (why_of why) [])

    ended : (b : Bool) → IfSome (if b then Some because.Nothing else None) Allowed
    ended true = λ h. either_by s.trusted _ _ (λ t. (h, refl)) (λ f. refl)
    ended false = tt

    causes : (o : Option FetchedCommand) → IfSome (option_map_or ended_refusal o (Some because.NoJob)) Allowed
    causes None = λ h. either_by s.trusted _ _ (λ t. (h, refl)) (λ f. refl)
    causes (Some k) = ended (is_some (verdict_of_work k.work))

-- An accepted walk

-- the memory that a walk reads in the machine is the pool's
same_memory : (pages : Pages) → AreWhole pages → memory_of pages ≡ byte_at pages
same_memory pages whole = λ i place. reads_the_pool pages place whole i

more_verdict : (outcome : WalkState) → verdict_of outcome ≡ None → (P : Type 0) → IfMore outcome P → P
more_verdict More e P h = h
more_verdict End e P h = cc
more_verdict (Fault status) e P h = cc

module _ (s : Sides) (q cid : ℕ) (outcome : WalkState) (c : Contents) (pages : Pages) (touched : List ℕ) (world : IsWorld s) (leaves : LeavesPages s.pages pages) (free : walk_refusal s.controller q cid ≡ None) (w : WalksTo s.controller q cid (byte_at s.pages) [] outcome c (byte_at pages) touched) where
  abbrev k : FetchedCommand
  k = w.among.command

  abbrev j : Job
  j = seen k w.among.job

  abbrev dir : Direction
  dir = direction_of_entry w.among.job.entry

  not_refused : refusal_of (state_of s) (events.Walk q cid) ≡ None
  not_refused = refusal_is s q cid world ∙ ap (option_map why_of) free

  job_here : job_at (state_of s) q cid ≡ Some j
  job_here = job-found s q cid k w.among.found ∙ ap Some (seen_is k w.among.job w.among.work)

  unit : FirstUnit (job_course (byte_at s.pages) w.among.job) dir (byte_at s.pages) (byte_at pages) w.among.job.bytes w.among.job'.bytes outcome (job_course (byte_at s.pages) w.among.job') touched
  unit = first_unit _ _ _ _ _ _ _ _ _ w.among.unit.does w.among.unit.leaves

  -- what it makes of the pages and of the job's bytes
  told : (pages ≡ unit_memory (state_of s) j dir unit.act) × (w.among.job'.bytes ≡ unit_bytes (state_of s) dir unit.act w.among.job.bytes)
  told =
      effect_told (state_of s) j pages dir unit.act w.among.job'.bytes world.sides.over.pool leaves.whole leaves.count
      (subst HeadInPage unit.is (head_in_page (byte_at s.pages) w.among.job.walk)) unit.effect

  module _ (t : s.trusted ≡ true) where
    -- where nothing was forged, that is the next unit of the machine's list
    stands : WalkStands (memory_of s.pages) k.units_done (Io w.among.job)
    stands =
        subst (λ (work : FetchedWork). WalkStands (memory_of s.pages) k.units_done work) w.among.work
        (all-at (λ (k : FetchedCommand). WalkStands (memory_of s.pages) k.units_done k.work) s.controller.commands w.among.place k w.among.at (tied_of s world t).walks)

    next : (next_unit (state_of s) j ≡ Some unit.act) × (after_units (k.units_done + 1) (course_of (state_of s) j) ≡ unit.rest)
    next =
        next_done k.units_done (course_of (state_of s) j) unit.act unit.rest
        (sym (stands w.among.going) ∙ ap (λ (m : Memory). job_course m w.among.job) (same_memory s.pages world.sides.over.pool.whole) ∙ unit.is)

    due : next_answer (state_of s) j ≡ outcome
    due = ap answer next.1 ∙ sym unit.answers

    -- the machine's memory and its jobs
    memory_walked : (after_walk q cid (state_of s)).memory ≡ pages
    memory_walked = ap (λ (x : State). x.memory) (sym (walk_is (state_of s) q cid j unit.act job_here next.0)) ∙ sym told.0

    abbrev changed : Job → Job
    changed x = if is_job q cid x then unit_done (state_of s) j unit.act x else x

    by_test : (x : Job) (b : Bool) → is_job q cid x ≡ b → changed x ≡ (if b then unit_done (state_of s) j unit.act x else x)
    by_test x b e = ap (λ (b : Bool). if b then unit_done (state_of s) j unit.act x else x) e

    made : SubEntry → List ℕ → Option Status → Job
    made entry bytes verdict = record (job_of k) { entry = entry; bytes = bytes; units_done = k.units_done + 1; verdict = verdict; dw0 = 0 }

    job_changed : changed (job_of k) ≡ job_of (stepped w.among.job' k)
    unfolding made
    job_changed =
        ap changed (seen_is k w.among.job w.among.work)
        ∙ by_test j true (ap (is_job q cid) (sym (seen_is k w.among.job w.among.work)) ∙ (is_found s world q cid k w.among.found).named)
        ∙ ap (made w.among.job.entry (unit_bytes (state_of s) dir unit.act w.among.job.bytes)) (ap verdict_of due ∙ sym w.among.unit.verdict)
        ∙ ap₂ (λ (entry : SubEntry) (bytes : List ℕ). made entry bytes w.among.job'.verdict) (sym w.among.unit.entry) (sym told.1)

    jobs_walked : map changed (map job_of s.controller.commands) ≡ map job_of c.commands
    jobs_walked =
        map_one (is_command q cid) changed job_of s.controller.commands w.among.place k (stepped w.among.job' k) w.among.at (is_found s world q cid k w.among.found).named (world.sides.controller.commands.differ q cid)
        job_changed (λ a no. by_test (job_of a) false no) ∙ ap (map job_of) (sym w.among.leaves)

    -- no page of a queue is written
    written_nowhere : (p : ℕ) → ((n : ℕ) (r : Record) → slice_get s.host.host.records n ≡ Some r → is_among (pages_of r) p ≡ true → ⊥) → page_at pages p ≡ page_at s.pages p
    written_nowhere p none =
        ap (λ (pages : Pages). page_at pages p) (sym memory_walked)
        ∙ walk_writes (state_of s) q cid not_refused (stood s world t) p (λ j x. far j x (is_among x.list.command.data_pages p) refl)
      where
        far : (j : Job) (x : Walking (state_of s) q cid j) (b : Bool) → is_among x.list.command.data_pages p ≡ b → b ≡ false
        far j x false e = refl
        far j x true e = let (n, at) = found_at (is_at j.q j.entry.cid) s.host.host.records x.list.command x.list.found in absurd (none n x.list.command at (data_of x.list.command p e))

    spared : Spares s pages
    spared i h at = record {
      submission = λ p own. written_nowhere p (λ n r e among. true≢false (sym own ∙ (apart_from_queues s world i n h r p at e among).0));
      completion = λ p own. written_nowhere p (λ n r e among. true≢false (sym own ∙ (apart_from_queues s world i n h r p at e among).1));
    }

    state_walked : state_of (served s c pages) ≡ after_walk q cid (state_of s)
    state_walked =
        let old = served_queues_of (byte_at s.pages) s.host.host.queues s.controller.queues in
        ap (λ (queues : List ServedQueue). with_served (state_of s) pages queues (map job_of c.commands) c.image) (ap (served_queues_of (byte_at pages) s.host.host.queues) w.queues ∙ queues_stay s pages world t spared)
        ∙ ap₂ (with_served (state_of s) pages old) (sym jobs_walked) w.image
        ∙ ap (λ (pages : Pages). with_served (state_of s) pages old (map changed (map job_of s.controller.commands)) s.controller.image) told.0
        ∙ walk_is (state_of s) q cid j unit.act job_here next.0

    lists_stay : ListsStay (state_of s) pages
    lists_stay = subst (ListsStay (state_of s)) memory_walked (stay_walk (state_of s) q cid not_refused (stood s world t))

    queues_walked : AllQueuesStand s.host.entries (byte_at pages) 0 s.host.host.queues c.queues
    queues_walked = subst (AllQueuesStand s.host.entries (byte_at pages) 0 s.host.host.queues) (sym w.queues) (all_stand_still s pages world t spared)

    other : (k.q == 0) ≡ false
    other = (subst (λ (work : FetchedWork). FitsWork (block_count s.controller.image) k.q k.units_done work) w.among.work (is_found s world q cid k w.among.found).fits.1).0

    job_at_place : slice_get (map job_of s.controller.commands) w.among.place ≡ Some j
    job_at_place = slice_get-map job_of s.controller.commands w.among.place ∙ ap (option_map job_of) w.among.at ∙ ap Some (seen_is k w.among.job w.among.work)

    walks_walked : WalksStand (memory_of pages) c.commands
    walks_walked =
        subst (WalksStand (memory_of pages)) (sym w.among.leaves)
        (all_set (λ (x : FetchedCommand). WalkStands (memory_of pages) x.units_done x.work) s.controller.commands w.among.place (stepped w.among.job' k) (still_stands s pages world t lists_stay)
        (λ none. stands_again (memory_of s.pages) (memory_of pages) (k.units_done + 1) w.among.job'
        (subst (λ (e : SubEntry). serving.Serves (memory_of s.pages) (memory_of pages) (course_of (state_of s) (record j { entry = e }))) (sym w.among.unit.entry)
        (job_served (state_of s) pages w.among.place j (stood s world t) lists_stay job_at_place other))
        -- its walk stands one unit further
        (ap (λ (m : Memory). job_course m w.among.job') (same_memory s.pages world.sides.over.pool.whole)
        ∙ more_verdict outcome (sym w.among.unit.verdict ∙ none) _ unit.goes_on
        ∙ sym next.1
        ∙ ap (λ (e : SubEntry). after_units (k.units_done + 1) (course_of (state_of s) (record j { entry = e }))) (sym w.among.unit.entry))))

  permits : Permits (state_of s) (events.Walk q cid) (events.Walked outcome touched)
  permits =
      either_by s.trusted _ _
      (λ t. (not_refused, (j, job_here, subst (λ (o : Option Act). unit_answered o (next_answer (state_of s) j) outcome touched) (sym (next t).0) (due t, sym unit.touches))))
      (λ f. (ap is_some (is_found s world q cid k w.among.found).host_here, subst (λ (pages : List ℕ). length pages < 3) (sym unit.touches) (few_touched unit.act)))

  walk_done : IsController c → StepsTo s (events.Walk q cid) (events.Walked outcome touched) (served s c pages)
  walk_done is =
      -- whatever was forged
      served_stepped s (events.Walk q cid) (events.Walked outcome touched) c pages world refl (record {
        leaves = leaves;
        in_store = ap in_store told.0 ∙ unit_stays (state_of s) j dir unit.act;
        controller = is;
        queues = subst (ShareQueues s.host.entries 0 s.host.host.queues) (sym w.queues) world.sides.queues;
        admin = subst (SharesAdmin s.host.entries s.host.host.queues) (sym w.queues) world.sides.admin;
        image = ap length w.image;
      }) (λ new. refl) permits (λ t. (state_walked t, queues_walked t, walks_walked t))

pub walk_steps : walks_step
walk_steps s q cid (Ok outcome) c pages touched world is leaves w = walk_done s q cid outcome c pages touched world leaves w.0 w.1 is
walk_steps s q cid (Err why) c pages touched world is leaves (e, same_controller, same_memory, untouched) =
    subst (λ (touched : List ℕ). StepsTo s (events.Walk q cid) (events.Refused (why_of why) touched) (served s c pages)) (sym untouched)
    (serve_refused s (events.Walk q cid) (why_of why) [] c pages world refl same_controller (same_pages s pages world leaves same_memory) (may_refuse s q cid why world e))
