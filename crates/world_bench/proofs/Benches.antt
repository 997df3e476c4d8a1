-- What the small calls on kept values do is what a step of a bench does; and runs of a bench.
use Rattle.machine_model.specs.Events as events
use Rattle.machine_model.specs.Step as machine
use Rattle.machine_model.specs.declared.words.Refusal.TheVariants as refusal
use Rattle.host_bench.specs.declared.values.CommandValue.TheVariants as value
use Rattle.step_core.specs.declared.step.Reply.TheVariants as reply
use Rattle.step_core.specs.declared.step.Step.TheVariants as step
use Rattle.std.proofs.Common.{◌≡◌, ℕ, Option, Some, List, [], ◌∷◌, ◌++◌, length, ◌==◌, ◌&&◌, refl, ap, ap₂, sym, ◌∙◌, subst, ◌+◌}
use Rattle.std.{proofs.lemmas.List.{Elements.filter_map-append}, specs.{Option.option_and_then}}
use Rattle.entry_codec.specs.declared.{hints.Hints.Hints, status.Status.Status}
use Rattle.io_commands.specs.{Asked.Request, Drafts.{DraftContents, built}, Values.{FinishedContents, TicketContents, gathered_from}}
use Rattle.machine_model.specs.{Image.{draft_of, is_draft}, Script.{Table, finished_at, is_ticket, filled_draft, is_finished}, State.State}
use Rattle.machine_model.specs.declared.words.Refusal.{Refusal}
use Rattle.slot_table.specs.{Rows.{Row, value_at, with_value, without}, Table.{with_row}}
use Rattle.step_core.specs.Bench.{Does, Fills, Builds, Gathers, DoesAll}
use Rattle.step_core.specs.Touching.{StepTouches, last_pages}
use Rattle.world_bench.specs.BenchTables.{FillsDraft, BuildsDraft, BenchContents}
use Rattle.step_core.specs.Values.{Reply, Step}
use Rattle.world_bench.specs.TouchingAll.{TouchAll}
use Rattle.host_bench.proofs.Benches.{Values, tables_same, more_none, found_draft, left_same, left_changed, kept_name, found_ticket, by_name, is_finished_there, found_finished}
use Rattle.host_bench.proofs.KeptRows.{drafts_named, tickets_named, finished_named, named_there, put_same, put_next, reserved, row_dropped, followed, ended, goes_on, taken_at, taken_other}
use Rattle.host_core.proofs.Outstanding.{collected_named}
use Rattle.host_bench.specs.CommandValues.{as_draft, as_ticket, as_finished, picked, table_with, IsBench, IsOut}
use Rattle.host_core.specs.Firsts.{without_first}
use Rattle.host_bench.specs.declared.values.CommandValue.{CommandValue}

-- What the small calls on kept values do is what a step of a bench does, and the bench stays tied to its world.

module _ {A : Type 0} where
  -- A command is reserved

  pub reserves : (s : State) (old : Values A) (q cid : ℕ) (request : Request) (d : DraftContents) (b : IsBench s old) (world : State) (answer : Reply) (new : Values A) → machine.Step s (events.Reserve q request) (events.Reserved d) world → cid ≡ d.cid
      → answer ≡ reply.Reserved d.q d.cid (length d.data_pages) (length d.chain_pages) → new ≡ with_row old q cid (Some (value.Draft d)) → Does (table_with s old) (step.Reserve q request) answer (table_with world new) × IsBench world new
  reserves s old q cid request d b world answer new made same says left = (
    rw says (record {
      reply = events.Reserved d;
      tells = refl;
      step = made;
      keeps = ap (table_with world) is
          ∙ tables_same world _ _ _ _ _ _
          (filter_map-append (λ (r : Row (Option (CommandValue A))). as_draft r.value) old.rows (row ∷ []))
          (more_none as_ticket old.rows row refl)
          (more_none as_finished old.rows row refl);
    }),
    subst (IsBench world) (sym is) (reserved s world q request d old made b),
  )
    where
      row : Row (Option (CommandValue A))
      row = record { q = q; cid = d.cid; value = Some (value.Draft d) }

      is : new ≡ with_row old q d.cid (Some (value.Draft d))
      is = left ∙ ap (λ (n : ℕ). with_row old q n (Some (value.Draft d))) same

  -- A draft is filled or built

  module _ (s : State) (old mid : Values A) (q cid : ℕ) (d : DraftContents) (b : IsBench s old) (out : IsOut old q cid (value.Draft d) mid) where
    pub fills : (bytes : List ℕ) (answer : Reply) (d' : DraftContents) (new : Values A) → FillsDraft d bytes answer d' → new ≡ record mid { rows = with_value mid.rows q cid (Some (value.Draft d')) }
        → Fills (table_with s old) q cid bytes (draft_of q cid (table_with s old).drafts) answer (table_with s new)
    fills bytes answer d' new is left = rw (found_draft s old mid q cid d b out) (by_answer answer is)
      where
        by_answer : (answer : Reply) → FillsDraft d bytes answer d' → Fills (table_with s old) q cid bytes (Some d) answer (table_with s new)
        by_answer reply.Accepted is = (is.0, left_changed s old mid q cid d b out (filled_draft bytes) d' new is.1 left)
        by_answer (reply.NotFilled why) is = (is.0, left_same s old mid q cid d b out d' new is.1 left)
        by_answer answer is = absurd is

    pub builds : (answer : Reply) (d' : DraftContents) (new : Values A) → BuildsDraft d answer d' → new ≡ record mid { rows = with_value mid.rows q cid (Some (value.Draft d')) }
        → Builds (table_with s old) q cid (draft_of q cid (table_with s old).drafts) answer (table_with s new)
    builds answer d' new is left = rw (found_draft s old mid q cid d b out) (by_answer answer is)
      where
        by_answer : (answer : Reply) → BuildsDraft d answer d' → Builds (table_with s old) q cid (Some d) answer (table_with s new)
        by_answer reply.Accepted is = left_changed s old mid q cid d b out built d' new is left
        by_answer (reply.Refused refusal.Memory []) is = left_same s old mid q cid d b out d' new is left
        by_answer answer is = absurd is

    pub fills_kept : (bytes : List ℕ) (answer : Reply) (d' : DraftContents) (new : Values A) → FillsDraft d bytes answer d' → new ≡ record mid { rows = with_value mid.rows q cid (Some (value.Draft d')) } → IsBench s new
    fills_kept bytes reply.Accepted d' new is left = kept_name s old mid q cid d b out d' new (ap (λ (x : DraftContents). x.q) is.1) (ap (λ (x : DraftContents). x.cid) is.1) left
    fills_kept bytes (reply.NotFilled why) d' new is left = kept_name s old mid q cid d b out d' new (ap (λ (x : DraftContents). x.q) is.1) (ap (λ (x : DraftContents). x.cid) is.1) left
    fills_kept bytes answer d' new is left = absurd is

    pub builds_kept : (answer : Reply) (d' : DraftContents) (new : Values A) → BuildsDraft d answer d' → new ≡ record mid { rows = with_value mid.rows q cid (Some (value.Draft d')) } → IsBench s new
    builds_kept reply.Accepted d' new is left = kept_name s old mid q cid d b out d' new (ap (λ (x : DraftContents). x.q) is) (ap (λ (x : DraftContents). x.cid) is) left
    builds_kept (reply.Refused refusal.Memory []) d' new is left = kept_name s old mid q cid d b out d' new (ap (λ (x : DraftContents). x.q) is) (ap (λ (x : DraftContents). x.cid) is) left
    builds_kept answer d' new is left = absurd is

    -- It is submitted, or cancelled

    pub submits : (world : State) (ticket : TicketContents) (new : Values A) → machine.Step s (events.Submit d) events.Accepted world → ticket ≡ record { q = d.q; cid = d.cid }
        → new ≡ with_row (record mid { rows = without mid.rows q cid }) q cid (Some (value.Ticket ticket))
        → Does (table_with s old) (step.Submit q cid) reply.Accepted (table_with world new) × IsBench world new
    submits world ticket new step is left = (
      rw (found_draft s old mid q cid d b out) (record {
        reply = events.Accepted;
        tells = refl;
        step = step;
        keeps = ap (table_with world) (put_next old mid q cid (value.Draft d) out (value.Ticket ticket) new left) ∙ tables_same world _ _ _ _ _ _ drafts tickets finished;
      }),
      subst (IsBench world) (sym (put_next old mid q cid (value.Draft d) out (value.Ticket ticket) new left))
          (followed world old q cid (value.Draft d) (value.Ticket ticket) (goes_on s (events.Submit d) events.Accepted world old step (λ k n. refl) b) out.there pair.0 pair.1),
    )
      where
        name : (d.q ≡ q) × (d.cid ≡ cid)
        name = named_there s old q cid (value.Draft d) b out.there

        pair : (ticket.q ≡ q) × (ticket.cid ≡ cid)
        pair = (ap (λ (t : TicketContents). t.q) is ∙ name.0, ap (λ (t : TicketContents). t.cid) is ∙ name.1)

        row : Row (Option (CommandValue A))
        row = record { q = q; cid = cid; value = Some (value.Ticket ticket) }

        drafts : picked as_draft (without old.rows q cid ++ row ∷ []) ≡ without_first (is_draft q cid) (picked as_draft old.rows)
        drafts =
            more_none as_draft (without old.rows q cid) row refl
            ∙ taken_at as_draft is_draft old.rows q cid b.distinct (drafts_named s old b)

        tickets : picked as_ticket (without old.rows q cid ++ row ∷ []) ≡ picked as_ticket old.rows ++ (q, cid) ∷ []
        tickets =
            filter_map-append (λ (r : Row (Option (CommandValue A))). as_ticket r.value) (without old.rows q cid) (row ∷ [])
            ∙ ap₂ (λ (xs : List (ℕ × ℕ)) (x : ℕ × ℕ). xs ++ x ∷ []) (taken_other as_ticket old.rows q cid (Some (value.Draft d)) out.there refl) (ap₂ (λ (k n : ℕ). (k, n)) pair.0 pair.1)

        finished : picked as_finished (without old.rows q cid ++ row ∷ []) ≡ picked as_finished old.rows
        finished =
            more_none as_finished (without old.rows q cid) row refl
            ∙ taken_other as_finished old.rows q cid (Some (value.Draft d)) out.there refl

    pub submit_refused : (world : State) (x : DraftContents) (why : Refusal) (answer : Reply) (new : Values A) → machine.Step s (events.Submit d) (events.Refused why []) world → x ≡ d → answer ≡ reply.Refused why []
        → new ≡ record mid { rows = with_value mid.rows q cid (Some (value.Draft x)) }
        → Does (table_with s old) (step.Submit q cid) answer (table_with world new) × IsBench world new
    submit_refused world x why answer new step back says left =
        let stays = put_same old mid q cid (value.Draft d) out (value.Draft x) new (ap value.Draft back) left in (
          rw (found_draft s old mid q cid d b out, says) (record { reply = events.Refused why []; tells = refl; step = step; keeps = ap (table_with world) stays }),
          subst (IsBench world) (sym stays) (goes_on s (events.Submit d) (events.Refused why []) world old step (λ k n. refl) b),
        )

    pub cancels : (world : State) (new : Values A) → machine.Step s (events.Cancel d) events.Accepted world → new ≡ record mid { rows = without mid.rows q cid }
        → Does (table_with s old) (step.Cancel q cid) reply.Accepted (table_with world new) × IsBench world new
    cancels world new step left =
        let name = named_there s old q cid (value.Draft d) b out.there in
        let is = row_dropped old mid q cid (value.Draft d) out new left in (
          rw (found_draft s old mid q cid d b out) (record { reply = events.Accepted; tells = refl; step = step; keeps = ap (table_with world) is ∙ tables_same world _ _ _ _ _ _ (taken_at as_draft is_draft old.rows q cid b.distinct (drafts_named s old b)) (taken_other as_ticket old.rows q cid (Some (value.Draft d)) out.there refl) (taken_other as_finished old.rows q cid (Some (value.Draft d)) out.there refl) }),
          subst (IsBench world) (sym is) (ended s (events.Cancel d) events.Accepted world old q cid step (λ k n. ap₂ (λ (x y : ℕ). (x == k) && (y == n)) name.0 name.1) b),
        )

    pub cancel_refused : (world : State) (x : DraftContents) (why : Refusal) (answer : Reply) (new : Values A) → machine.Step s (events.Cancel d) (events.Refused why []) world → x ≡ d → answer ≡ reply.Refused why []
        → new ≡ record mid { rows = with_value mid.rows q cid (Some (value.Draft x)) }
        → Does (table_with s old) (step.Cancel q cid) answer (table_with world new) × IsBench world new
    cancel_refused world x why answer new step back says left =
        let stays = put_same old mid q cid (value.Draft d) out (value.Draft x) new (ap value.Draft back) left in (
          rw (found_draft s old mid q cid d b out, says) (record { reply = events.Refused why []; tells = refl; step = step; keeps = ap (table_with world) stays }),
          subst (IsBench world) (sym stays) (goes_on s (events.Cancel d) (events.Refused why []) world old step (λ k n. refl) b),
        )

  -- A ticket is collected

  module _ (s : State) (old mid : Values A) (q cid : ℕ) (ticket : TicketContents) (b : IsBench s old) (out : IsOut old q cid (value.Ticket ticket) mid) where
    last_finished : (f : FinishedContents) → picked as_finished (without old.rows q cid ++ record { q = q; cid = cid; value = Some (value.Finished f) } ∷ []) ≡ picked as_finished old.rows ++ f ∷ []
    last_finished f =
        filter_map-append (λ (r : Row (Option (CommandValue A))). as_finished r.value) (without old.rows q cid) (record { q = q; cid = cid; value = Some (value.Finished f) } ∷ [])
        ∙ ap (λ (xs : List FinishedContents). xs ++ f ∷ []) (taken_other as_finished old.rows q cid (Some (value.Ticket ticket)) out.there refl)

    -- the finished command comes after the others
    pub collected_last : (world : State) (f : FinishedContents) (new : Values A) → new ≡ with_row (record mid { rows = without mid.rows q cid }) q cid (Some (value.Finished f))
        → (table_with world new).finished ≡ (table_with s old).finished ++ f ∷ []
    collected_last world f new left = ap (λ (v : Values A). (table_with world v).finished) (put_next old mid q cid (value.Ticket ticket) out (value.Finished f) new left) ∙ last_finished f

    pub collects : (world : State) (f : FinishedContents) (status : Status) (hints : Hints) (new : Values A) → machine.Step s (events.Collect ticket.q ticket.cid) (events.Collects f) world → status ≡ f.status → hints ≡ f.hints
        → new ≡ with_row (record mid { rows = without mid.rows q cid }) q cid (Some (value.Finished f))
        → Does (table_with s old) (step.Collect q cid) (reply.Collected status hints) (table_with world new) × IsBench world new
    collects world f status hints new step ends hinted left = (
      rw (found_ticket s old mid q cid ticket b out) (record {
        reply = events.Collects f;
        tells = ap₂ reply.Collected ends hinted;
        step = by_name s old mid q cid ticket b out (events.Collects f) world step;
        keeps = ap (table_with world) (put_next old mid q cid (value.Ticket ticket) out (value.Finished f) new left) ∙ tables_same world _ _ _ _ _ _ drafts tickets (last_finished f);
      }),
      subst (IsBench world) (sym (put_next old mid q cid (value.Ticket ticket) out (value.Finished f) new left))
          (followed world old q cid (value.Ticket ticket) (value.Finished f) (goes_on s (events.Collect ticket.q ticket.cid) (events.Collects f) world old step (λ k n. refl) b) out.there name.0 name.1),
    )
      where
        name : (f.q ≡ q) × (f.cid ≡ cid)
        name = collected_named s world q cid f (by_name s old mid q cid ticket b out (events.Collects f) world step)

        row : Row (Option (CommandValue A))
        row = record { q = q; cid = cid; value = Some (value.Finished f) }

        drafts : picked as_draft (without old.rows q cid ++ row ∷ []) ≡ picked as_draft old.rows
        drafts =
            more_none as_draft (without old.rows q cid) row refl
            ∙ taken_other as_draft old.rows q cid (Some (value.Ticket ticket)) out.there refl

        tickets : picked as_ticket (without old.rows q cid ++ row ∷ []) ≡ without_first (is_ticket q cid) (picked as_ticket old.rows)
        tickets =
            more_none as_ticket (without old.rows q cid) row refl
            ∙ taken_at as_ticket is_ticket old.rows q cid b.distinct (tickets_named s old b)

    pub collect_refused : (world : State) (x : TicketContents) (why : Refusal) (answer : Reply) (new : Values A) → machine.Step s (events.Collect ticket.q ticket.cid) (events.Refused why []) world → x ≡ ticket → answer ≡ reply.Refused why []
        → new ≡ record mid { rows = with_value mid.rows q cid (Some (value.Ticket x)) }
        → Does (table_with s old) (step.Collect q cid) answer (table_with world new) × IsBench world new
    collect_refused world x why answer new step back says left =
        let stays = put_same old mid q cid (value.Ticket ticket) out (value.Ticket x) new (ap value.Ticket back) left in (
          rw (found_ticket s old mid q cid ticket b out, says) (record { reply = events.Refused why []; tells = refl; step = by_name s old mid q cid ticket b out (events.Refused why []) world step; keeps = ap (table_with world) stays }),
          subst (IsBench world) (sym stays) (goes_on s (events.Collect ticket.q ticket.cid) (events.Refused why []) world old step (λ k n. refl) b),
        )

  -- A finished command is gathered

  module _ (s : State) (values : Values A) (q cid : ℕ) (f : FinishedContents) (b : IsBench s values) (there : Some f ≡ option_and_then as_finished (value_at values.rows q cid)) where
    pub gathers : (bytes : List ℕ) → bytes ≡ gathered_from f → Gathers (table_with s values) (finished_at q cid (table_with s values).finished) (reply.Gathered bytes) (table_with s values)
    gathers bytes is = rw (is_finished_there s values q cid f b there) (is, refl)

    pub gathers_nothing : (answer : Reply) → answer ≡ reply.Refused refusal.Memory [] → Gathers (table_with s values) (finished_at q cid (table_with s values).finished) answer (table_with s values)
    gathers_nothing answer is = rw (is_finished_there s values q cid f b there, is) refl

  -- It is released

  module _ (s : State) (old mid : Values A) (q cid : ℕ) (f : FinishedContents) (b : IsBench s old) (out : IsOut old q cid (value.Finished f) mid) where
    pub releases : (world : State) (new : Values A) → machine.Step s (events.Release f) events.Accepted world → new ≡ record mid { rows = without mid.rows q cid }
        → Does (table_with s old) (step.Release q cid) reply.Accepted (table_with world new) × IsBench world new
    releases world new step left =
        let name = named_there s old q cid (value.Finished f) b out.there in
        let is = row_dropped old mid q cid (value.Finished f) out new left in (
          rw (found_finished s old mid q cid f b out) (record { reply = events.Accepted; tells = refl; step = step; keeps = ap (table_with world) is ∙ tables_same world _ _ _ _ _ _ (taken_other as_draft old.rows q cid (Some (value.Finished f)) out.there refl) (taken_other as_ticket old.rows q cid (Some (value.Finished f)) out.there refl) (taken_at as_finished is_finished old.rows q cid b.distinct (finished_named s old b)) }),
          subst (IsBench world) (sym is) (ended s (events.Release f) events.Accepted world old q cid step (λ k n. ap₂ (λ (x y : ℕ). (x == k) && (y == n)) name.0 name.1) b),
        )

    pub release_refused : (world : State) (x : FinishedContents) (why : Refusal) (answer : Reply) (new : Values A) → machine.Step s (events.Release f) (events.Refused why []) world → x ≡ f → answer ≡ reply.Refused why []
        → new ≡ record mid { rows = with_value mid.rows q cid (Some (value.Finished x)) }
        → Does (table_with s old) (step.Release q cid) answer (table_with world new) × IsBench world new
    release_refused world x why answer new step back says left =
        let stays = put_same old mid q cid (value.Finished f) out (value.Finished x) new (ap value.Finished back) left in (
          rw (found_finished s old mid q cid f b out, says) (record { reply = events.Refused why []; tells = refl; step = step; keeps = ap (table_with world) stays }),
          subst (IsBench world) (sym stays) (goes_on s (events.Release f) (events.Refused why []) world old step (λ k n. refl) b),
        )

-- Runs of a bench.

-- one step more
pub does_more : (t mid new : Table) (steps : List Step) (answers : List Reply) (step : Step) (answer : Reply) → DoesAll t steps answers mid → Does mid step answer new
    → DoesAll t (steps ++ step ∷ []) (answers ++ answer ∷ []) new
does_more t mid new [] [] step answer so does = (new, subst (λ (x : Table). Does x step answer new) so does, refl)
does_more t mid new [] (first ∷ answers) step answer so does = absurd so
does_more t mid new (what ∷ steps) [] step answer so does = absurd so
does_more t mid new (what ∷ steps) (first ∷ answers) step answer so does = (so.0, so.1, does_more so.0 mid new steps answers step answer so.2 does)

-- one step more, with what it touches
pub touch_more : (b mid new : BenchContents) (steps : List Step) (answers : List Reply) (step : Step) (answer : Reply) → TouchAll b steps answers mid → Does mid.table step answer new.table
    → StepTouches mid.table.world.entries mid.touches step answer new.table new.touches → TouchAll b (steps ++ step ∷ []) (answers ++ answer ∷ []) new
touch_more b mid new [] [] step answer so does touches =
    (new, subst (λ (x : BenchContents). Does x.table step answer new.table) so does, subst (λ (x : BenchContents). StepTouches x.table.world.entries x.touches step answer new.table new.touches) so touches, refl)
touch_more b mid new [] (first ∷ answers) step answer so does touches = absurd so
touch_more b mid new (what ∷ steps) [] step answer so does touches = absurd so
touch_more b mid new (what ∷ steps) (first ∷ answers) step answer so does touches = (so.0, so.1, so.2, touch_more so.0 mid new steps answers step answer so.3 does touches)

-- the pages of the command after others
pub pages_of_last : (others : List FinishedContents) (f : FinishedContents) → last_pages (others ++ f ∷ []) ≡ length f.data_pages + length f.chain_pages
pages_of_last [] f = refl
pages_of_last (g ∷ []) f = refl
pages_of_last (g ∷ h ∷ others) f = pages_of_last (h ∷ others) f
