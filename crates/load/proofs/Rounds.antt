-- Rounds, one after the other.
use Rattle.std.proofs.Common.{◌≡◌, ◌∙◌, ◌⊎◌, ℕ, ◌+◌, ◌-◌, ◌<◌, ◌==◌, suc, Bool, true, false, if◌then◌else◌, Option, List, [], ◌∷◌, ◌++◌, arith, ap, append_assoc, sym, inl, inr, refl, subst, drop, length, map, replicate, take, ◌*◌}
use Rattle.std.proofs.lemmas.{Bool.ne_eqb, List.{append-nil, drop_all, ext_get_or, get_or-map, length-map, take_all}}
use Rattle.std.specs.Prelude.{slice_index}
use Rattle.io_commands.specs.declared.request.Kind.TheVariants as kind
use Rattle.load.specs.{Course.{AreJobs, commands_left, queue_of}, Loaded.{setting_of, standing_of, start}, Planning.{TaskJob, job_for, planned_at}}
use Rattle.load.specs.Rounds.{GoOn, GoesOn, IsReadOf, IsRoundOf, ReadOn, ReadsOn, Round, Setting, Standing, after, all_noted, commands_of, noted, reads_from, reads_of}
use Rattle.load.specs.Tallies.{TaskEnd, both, counted, no_tally, sum_of, tallies_from}
use Rattle.load.specs.declared.{content.Content.Content, course.Course.Course, layout.Layout.Layout, plan.Planned.Planned, tally.Tally.Tally}
use Rattle.machine_model.specs.State.{State}
use Rattle.script_cli.specs.declared.workload.Load.{Load}

-- What stays

abbrev make : Layout → ℕ → ℕ → ℕ → Option Content → Setting
make layout seed queues round content = record { layout = layout; seed = seed; queues = queues; round = round; content = content }

pub same_setting : (c d : Course) → c.layout ≡ d.layout → c.seed ≡ d.seed → c.queues ≡ d.queues → c.round ≡ d.round → c.content ≡ d.content → setting_of c ≡ setting_of d
same_setting c d layout seed queues round content =
    ap (λ (x : Layout). make x c.seed c.queues c.round c.content) layout ∙ ap (λ (x : ℕ). make d.layout x c.queues c.round c.content) seed
    ∙ ap (λ (x : ℕ). make d.layout d.seed x c.round c.content) queues ∙ ap (λ (x : ℕ). make d.layout d.seed d.queues x c.content) round
    ∙ ap (λ (x : Option Content). make d.layout d.seed d.queues d.round x) content

-- Rounds of commands

-- one more round
pub gone_on_more : (what : Load) (s : Setting) (begun : ℕ) (before : Standing) (rounds : List Round) (many : ℕ) (standing : Standing) (nanos : Option ℕ) (round : Round)
    → GoOn what s begun before rounds many standing → 0 < commands_left what many nanos → IsRoundOf s (commands_left what many nanos) standing round
    → GoOn what s begun before (rounds ++ round ∷ []) (sum_of many (commands_of round.plans)) (after s true standing round)
gone_on_more what s begun before [] many standing nanos round (same, at) some is =
    let here : GoOn what s begun standing (round ∷ []) (sum_of begun (commands_of round.plans)) (after s true standing round) =
    ((nanos, subst (λ (n : ℕ). 0 < commands_left what n nanos) same some, subst (λ (n : ℕ). IsRoundOf s (commands_left what n nanos) standing round) same is), (refl, refl)) in
    subst (λ (n : ℕ). GoOn what s begun before (round ∷ []) (sum_of n (commands_of round.plans)) (after s true standing round)) (sym same)
    (subst (λ (p : Standing). GoOn what s begun p (round ∷ []) (sum_of begun (commands_of round.plans)) (after s true standing round)) at here)
gone_on_more what s begun before (first ∷ rounds) many standing nanos round (one, rest) some is =
    (one, gone_on_more what s (sum_of begun (commands_of first.plans)) (after s true before first) rounds many standing nanos round rest some is)

-- and so where a call made the round
pub gone_on_by : (what : Load) (s other : Setting) (begun : ℕ) (before : Standing) (rounds : List Round) (many : ℕ) (standing : Standing) (nanos : Option ℕ) (more count next : ℕ) (reached : Standing)
    → GoOn what s begun before rounds many standing → other ≡ s → more ≡ commands_left what many nanos → 0 < more → GoesOn other more standing count reached → next ≡ sum_of many count
    → (all : List Round) × GoOn what s begun before all next reached
gone_on_by what s other begun before rounds many standing nanos more count next reached gone same left some goes sum =
    let round : Round = goes.round in
    let is : IsRoundOf s (commands_left what many nanos) standing round =
    subst (λ (n : ℕ). IsRoundOf s n standing round) left (subst (λ (x : Setting). IsRoundOf x more standing round) same goes.is_round) in
    let on : GoOn what s begun before (rounds ++ round ∷ []) (sum_of many (commands_of round.plans)) (after s true standing round) =
    gone_on_more what s begun before rounds many standing nanos round gone (subst (λ (n : ℕ). 0 < n) left some) is in
    let stands : reached ≡ after s true standing round = goes.stands ∙ ap (λ (x : Setting). after x true standing round) same in (
      rounds ++ round ∷ [],
      subst (λ (n : ℕ). GoOn what s begun before (rounds ++ round ∷ []) n reached) (sym (sum ∙ ap (sum_of many) goes.count))
          (subst (λ (x : Standing). GoOn what s begun before (rounds ++ round ∷ []) (sum_of many (commands_of round.plans)) x) (sym stands) on),
    )

-- one more round of reads
pub read_on_more : (s : Setting) (from : ℕ) (before : Standing) (rounds : List Round) (at : ℕ) (standing : Standing) (round : Round)
    → ReadOn s from before rounds at standing → at < s.layout.slots → IsReadOf s at standing round → ReadOn s from before (rounds ++ round ∷ []) (at + reads_of s) (after s false standing round)
read_on_more s from before [] at standing round (same, here) some is =
    let one : ReadOn s at standing (round ∷ []) (at + reads_of s) (after s false standing round) = ((some, is), (refl, refl)) in
    subst (λ (n : ℕ). ReadOn s n before (round ∷ []) (at + reads_of s) (after s false standing round)) same
    (subst (λ (p : Standing). ReadOn s at p (round ∷ []) (at + reads_of s) (after s false standing round)) here one)
read_on_more s from before (first ∷ rounds) at standing round (one, rest) some is = (one, read_on_more s (from + reads_of s) (after s false before first) rounds at standing round rest some is)

-- and so where a call made the round
pub read_on_by : (s other : Setting) (from : ℕ) (before : Standing) (rounds : List Round) (at : ℕ) (standing : Standing) (next : ℕ) (reached : Standing) → ReadOn s from before rounds at standing → other ≡ s
    → at < s.layout.slots → ReadsOn other at standing reached → next ≡ at + reads_of s → (all : List Round) × ReadOn s from before all next reached
read_on_by s other from before rounds at standing next reached read same some reads sum =
    let round : Round = reads.round in
    let is : IsReadOf s at standing round = subst (λ (x : Setting). IsReadOf x at standing round) same reads.is_read in
    let on : ReadOn s from before (rounds ++ round ∷ []) (at + reads_of s) (after s false standing round) = read_on_more s from before rounds at standing round read some is in
    let stands : reached ≡ after s false standing round = reads.stands ∙ ap (λ (x : Setting). after x false standing round) same in (
      rounds ++ round ∷ [],
      subst (λ (n : ℕ). ReadOn s from before (rounds ++ round ∷ []) n reached) (sym sum)
          (subst (λ (x : Standing). ReadOn s from before (rounds ++ round ∷ []) (at + reads_of s) x) (sym stands) on),
    )

-- How often slots were written

-- where no command is left, or none has an end, nothing is noted
pub none_noted : (generations : List ℕ) (ps : List Planned) (es : List TaskEnd) → (ps ≡ []) ⊎ (es ≡ []) → noted generations ps es ≡ generations
none_noted generations ps es (inl none) = rw none refl
none_noted generations [] es (inr none) = refl
none_noted generations (p ∷ ps) es (inr none) = rw none refl

-- the next submitter of those that are left
pub one_list_noted : {V W : Type 0} (plan_of : V → List Planned) (ends_of : W → List TaskEnd) (old new : List ℕ) (ps qs : List V) (es fs : List W) (p : V) (e : W) → ps ≡ p ∷ qs → es ≡ e ∷ fs
    → new ≡ noted old (plan_of p) (ends_of e) → all_noted new (map plan_of qs) (map ends_of fs) ≡ all_noted old (map plan_of ps) (map ends_of es)
one_list_noted plan_of ends_of old new ps qs es fs p e first second is = rw (first, second, is) refl

-- where no submitter is left, or none has ends, nothing is noted
pub no_lists_noted : {V W : Type 0} (plan_of : V → List Planned) (ends_of : W → List TaskEnd) (generations : List ℕ) (ps : List V) (es : List W) → (ps ≡ []) ⊎ (es ≡ [])
    → all_noted generations (map plan_of ps) (map ends_of es) ≡ generations
no_lists_noted plan_of ends_of generations ps es (inl none) = rw none refl
no_lists_noted plan_of ends_of generations [] es (inr none) = refl
no_lists_noted plan_of ends_of generations (p ∷ ps) es (inr none) = rw none refl

-- a list that was written in its place
pub written_back : (n : ℕ) (old new : List ℕ) → n ≡ length old → length new ≡ length old → take n (new ++ drop (length new) old) ≡ new
written_back n old new is same =
    let none : drop (length new) old ≡ [] = drop_all (length new) old (omega (arith, same)) in
    rw (none, append-nil new) (take_all n new (omega (arith, is, same)))

-- Reads of what was written

next_read : (generations : List ℕ) (at end : ℕ) → at < end
    → reads_from generations at (end - at)
    ≡ (if slice_index generations at == 0 then reads_from generations (at + 1) (end - (at + 1)) else planned_at generations at kind.Read ∷ reads_from generations (at + 1) (end - (at + 1)))
next_read generations at end more =
    let left : end - at ≡ suc (end - (at + 1)) = omega arith in
    ap (reads_from generations at) left

-- a slot that was written
pub read_put : (generations : List ℕ) (at end : ℕ) (old new whole : List Planned) → at < end → 0 < slice_index generations at → new ≡ old ++ planned_at generations at kind.Read ∷ []
    → old ++ reads_from generations at (end - at) ≡ whole → new ++ reads_from generations (at + 1) (end - (at + 1)) ≡ whole
read_put generations at end old new whole more some put is =
    let is_some : (slice_index generations at == 0) ≡ false = ne_eqb (slice_index generations at) 0 (λ none. absurd (omega (arith, none))) in
    let next =
    next_read generations at end more
    ∙ ap (λ (b : Bool). if b then reads_from generations (at + 1) (end - (at + 1)) else planned_at generations at kind.Read ∷ reads_from generations (at + 1) (end - (at + 1))) is_some in
    ap (λ (ps : List Planned). ps ++ reads_from generations (at + 1) (end - (at + 1))) put
    ∙ append_assoc old (planned_at generations at kind.Read ∷ []) (reads_from generations (at + 1) (end - (at + 1))) ∙ ap (λ (ps : List Planned). old ++ ps) (sym next) ∙ is

-- one that was not
pub read_left : (generations : List ℕ) (at end : ℕ) (old whole : List Planned) → at < end → slice_index generations at ≡ 0 → old ++ reads_from generations at (end - at) ≡ whole
    → old ++ reads_from generations (at + 1) (end - (at + 1)) ≡ whole
read_left generations at end old whole more none is =
    let next =
    next_read generations at end more
    ∙ ap (λ (n : ℕ). if n == 0 then reads_from generations (at + 1) (end - (at + 1)) else planned_at generations at kind.Read ∷ reads_from generations (at + 1) (end - (at + 1))) none in
    ap (λ (ps : List Planned). old ++ ps) (sym next) ∙ is

-- The jobs of plans

-- as many jobs as commands
pub jobs_long : (layout : Layout) (seed : ℕ) (content : Option Content) (queues : ℕ) (plans : List (List Planned)) (lists : List (List TaskJob)) → AreJobs layout seed content queues plans lists → map length lists ≡ map length plans
jobs_long layout seed content queues plans lists jobs =
    ext_get_or 0 (map length lists) (map length plans) (length-map lists length ∙ jobs.all ∙ sym (length-map plans length))
    (λ i below.
    let less : i < length lists = omega (arith, below, length-map lists length) in
    let under : i < length plans = omega (arith, less, jobs.all) in
    get_or-map length lists i [] 0 less ∙ ap length (jobs.each i [] [] less) ∙ length-map _ (job_for layout seed content (queue_of queues i)) ∙ sym (get_or-map length plans i [] 0 under))

-- One more round

abbrev place : List ℕ → State → Tally → Standing
place generations machine tally = record { generations = generations; machine = machine; tally = tally }

-- over the same machine, with the same slots and the same tally
pub same_standing : (c d : Course) (m n : State) → c.generations.items ≡ d.generations.items → m ≡ n → c.tally ≡ d.tally → standing_of c m ≡ standing_of d n
same_standing c d m n noted machine told =
    ap (λ (x : List ℕ). place x m c.tally) noted ∙ ap (λ (x : State). place d.generations.items x c.tally) machine ∙ ap (place d.generations.items n) told

-- where plans were done, and their ends noted and counted, a round comes after where the load stood
pub stands_after : (s : Setting) (of_load : Bool) (before : Standing) (round : Round) (c : Course) → c.generations.items ≡ all_noted before.generations round.plans round.ends
    → c.tally ≡ both before.tally (counted of_load (tallies_from no_tally round.plans round.ends)) → standing_of c round.world.state ≡ after s of_load before round
stands_after s of_load before round c noted told =
    ap (λ (x : List ℕ). place x round.world.state c.tally) noted ∙ ap (place (all_noted before.generations round.plans round.ends) round.world.state) told

-- where no slot was written and nothing was counted, a load stands at its start
pub at_start : (c : Course) (m n : State) → c.generations.items ≡ replicate (c.layout.submitters * c.layout.slots) 0 → m ≡ n → c.tally ≡ no_tally → standing_of c m ≡ start (setting_of c) n
at_start c m n noted machine told =
    let none = replicate (c.layout.submitters * c.layout.slots) 0 in
    ap (λ (x : List ℕ). place x m c.tally) noted ∙ ap (λ (x : State). place none x c.tally) machine ∙ ap (place none n) told
