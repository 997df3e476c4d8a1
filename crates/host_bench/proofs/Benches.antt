-- What the small calls on kept values do is what a call of a bench does; what a reset leaves of a host alone; and bytes that a device writes.
use Rattle.machine_model.specs.Events as events
use Rattle.machine_model.specs.Step as machine
use Rattle.machine_model.specs.declared.words.Refusal.TheVariants as refusal
use Rattle.host_bench.specs.declared.values.CommandValue.TheVariants as value
use Rattle.host_bench.specs.declared.call.Reply.TheVariants as reply
use Rattle.host_bench.specs.declared.call.Call.TheVariants as call
use Rattle.std.proofs.Common.{◌≡◌, ◌+◌, ◌-◌, Option, [], refl, ap, ap₂, sym, subst, ℕ, true, false, Some, None, List, ◌∷◌, ◌++◌, length, ◌==◌, ◌&&◌, ◌∙◌, ◌≢◌, ◌*◌, ◌<◌, ◌≤◌, inl, inr, is_some, arith, Result, Ok, Err, OnOk, OnErr, slice_get, option_map}
use Rattle.std.proofs.lemmas.{Bool.{cases_lt, true_from_ne_false}, List.{append-nil, Elements.filter_map-append}, Option.slice_get-get_or}
use Rattle.std.specs.{Option.option_and_then, List.list_any}
use Rattle.host_bench.proofs.KeptRows.{goes_on, opens_tied, drafts_named, tickets_named, finished_named, named_there, place_free, put_back, put_same, put_next, reserved, row_dropped, renewed, followed, ended, found_at, changed_at, changed_other, taken_at, taken_other, with_same, with_twice}
use Rattle.host_core.proofs.Openings.{length-queues_from}
use Rattle.host_core.{proofs.{Lists.same_pages, Outstanding.collected_named}, specs.Alone.{HostView, alone, HasPlacedPages, IsLowest}}
use Rattle.host_bench.specs.Calls.{reset_alone, Does, Fills, Builds, Submits, Cancels, Collects, Gathers, Releases}
use Rattle.host_bench.specs.CommandValues.{IsBench, table_with, as_draft, as_ticket, as_finished, picked, IsOut}
use Rattle.host_core.specs.Firsts.{with_first}
use Rattle.host_core.specs.Opening.{opened_pages, opened_view}
use Rattle.host_core.specs.Resetting.{host_reset, pages_reset}
use Rattle.host_bench.specs.BenchTables.{FillsDraft, BuildsDraft, BuildsRow, opened_alone}
use Rattle.host_bench.specs.Pool.{Keeps}
use Rattle.host_bench.specs.Reach.{WritesData, WritesDraft, draft_data_at, with_data}
use Rattle.host_bench.specs.Values.{Reply}
use Rattle.host_core.specs.declared.config.Config.{Config}
use Rattle.host_bench.specs.declared.values.CommandValue.{CommandValue}
use Rattle.machine_model.specs.{After.after_reset, Image.{draft_of, is_draft}, Memory.is_in, Script.{Table, finished_at, is_ticket, filled_draft, is_finished}}
use Rattle.machine_model.specs.{State.State, Step.Step, declared.words.Refusal.Refusal}
use Rattle.page_memory.proofs.Bytes.{byte_in, missing_at, none_of, page_of_place, written_in, written_before, written_after}
use Rattle.page_memory.specs.{Memory.{Memory, bytes_at, written}, Pages.{Pages, AreWhole, byte_at, page_at}}
use Rattle.slot_table.specs.{Rows.{Row, value_at, with_value, without}, Table.{TableOf, IsPlace, with_row}}
use Rattle.entry_codec.specs.declared.{hints.Hints.Hints, status.Status.Status}
use Rattle.io_commands.specs.{Asked.Request, Drafts.{DraftContents, built}, Values.{FinishedContents, TicketContents, gathered_from}}
use Rattle.slot_table.proofs.Rows.{option_is}
use Rattle.page_memory.proofs.Lists.{any_found}
use Rattle.machine_model.specs.declared.words.Peer.TheVariants.{Device}

-- What a reset leaves of a host alone, and what is of the host and not of its pages.

-- a reset is a step of the machine with no controller
reset_step : (v : HostView) (pages : Pages) → Step (alone v pages) events.Reset events.Accepted (after_reset (alone v pages))
reset_step v pages = (tt, (refl, tt), refl)

module _ {A : Type 0} where
  pub bench_kept : (v : HostView) (pages pages' : Pages) (values : TableOf (Option (CommandValue A))) → IsBench (alone v pages) values → IsBench (alone v pages') values
  bench_kept v pages pages' values b = record { queues = b.queues; first = b.first; places = b.places; inside = b.inside; distinct = b.distinct; held = b.held }

  behind_reset : (s : State) (values : TableOf (Option (CommandValue A))) → IsBench (after_reset s) values → IsBench (reset_alone s) values
  behind_reset s values b = record { queues = b.queues; first = b.first; places = b.places; inside = b.inside; distinct = b.distinct; held = b.held }

  pub resets : (v v' : HostView) (pages pages' : Pages) (values : TableOf (Option (CommandValue A))) → IsBench (alone v pages) values → v' ≡ host_reset v pages → pages' ≡ pages_reset v pages
      → (table_with (alone v' pages') values ≡ record (table_with (alone v pages) values) { world = reset_alone (alone v pages) }) × IsBench (alone v' pages') values
  resets v v' pages pages' values b host memory =
      let is = ap₂ alone host memory in (
        ap (λ (s : State). table_with s values) is,
        subst (λ (s : State). IsBench s values) (sym is)
            (behind_reset (alone v pages) values (goes_on (alone v pages) events.Reset events.Accepted (after_reset (alone v pages)) values (reset_step v pages) (λ q cid. refl) b)),
      )

  pub opens_kept : (c : Config) (v : HostView) (pages : Pages) (values : TableOf (Option (CommandValue A))) → v ≡ opened_view c Device → pages ≡ opened_pages c → values ≡ record { queues = c.queues + 1; places = c.entries - 1; rows = [] }
      → IsBench (alone v pages) values
  opens_kept c v pages values host memory is = subst (λ (s : State). IsBench s values) (sym (ap₂ alone host memory)) (opens_tied (opened_alone c) c values (length-queues_from 0 c.entries (c.queues + 1)) refl is)

-- What the small calls on kept values do is what a step of a bench does, and the bench stays tied to its world.

abbrev pub table_of_parts : State → List DraftContents → List (ℕ × ℕ) → List FinishedContents → Table
table_of_parts world drafts tickets finished = record { world = world; drafts = drafts; tickets = tickets; finished = finished }

pub tables_same : (world : State) (drafts ds : List DraftContents) (tickets ts : List (ℕ × ℕ)) (finished fs : List FinishedContents) → drafts ≡ ds → tickets ≡ ts → finished ≡ fs
    → table_of_parts world drafts tickets finished ≡ table_of_parts world ds ts fs
tables_same world drafts ds tickets ts finished fs d t f = rw (d, t, f) refl

abbrev pub Values : Type 0 → Type 0
Values A = TableOf (Option (CommandValue A))

module _ {A : Type 0} where
  -- What is found under a name

  pub draft_at : (s : State) (values : Values A) (q cid : ℕ) → IsBench s values → draft_of q cid (table_with s values).drafts ≡ option_and_then as_draft (value_at values.rows q cid)
  draft_at s values q cid b = found_at as_draft is_draft values.rows q cid b.distinct (drafts_named s values b)

  pub ticket_at : (s : State) (values : Values A) (q cid : ℕ) (o : Option (ℕ × ℕ)) → IsBench s values → option_and_then as_ticket
      (value_at values.rows q cid) ≡ o → list_any (is_ticket q cid) (table_with s values).tickets ≡ elim o [ None ↦ false | Some x ↦ true ]
  ticket_at s values q cid o b e = any_found (is_ticket q cid) (table_with s values).tickets o (found_at as_ticket is_ticket values.rows q cid b.distinct (tickets_named s values b) ∙ e)

  pub finished_there : (s : State) (values : Values A) (q cid : ℕ) → IsBench s values → finished_at q cid (table_with s values).finished ≡ option_and_then as_finished
      (value_at values.rows q cid)
  finished_there s values q cid b = found_at as_finished is_finished values.rows q cid b.distinct (finished_named s values b)

  -- A command is reserved

  -- a row more, with no value of the kind
  pub more_none : {X : Type 0} (pick : Option (CommandValue A) → Option X) (rows : List (Row (Option (CommandValue A))))
      (row : Row (Option (CommandValue A))) → pick row.value ≡ None → picked pick (rows ++ row ∷ []) ≡ picked pick rows
  more_none pick rows row none = filter_map-append (λ (r : Row (Option (CommandValue A))). pick r.value) rows (row ∷ []) ∙ rw none (append-nil (picked pick rows))

  pub reserves : (s : State) (old : Values A) (q cid : ℕ) (request : Request) (d : DraftContents) (b : IsBench s old) (world : State) (answer : Reply) (new : Values A) → machine.Step s (events.Reserve q request) (events.Reserved d) world → IsLowest s.host q d.cid → HasPlacedPages s.host d → cid ≡ d.cid
      → answer ≡ reply.Reserved d.q d.cid (length d.data_pages) (length d.chain_pages) → new ≡ with_row old q cid (Some (value.Draft d)) → Does (table_with s old) (call.Reserve q request) answer (table_with world new) × IsBench world new
  reserves s old q cid request d b world answer new made lowest placed same says left = (
    rw says (record {
      draft = d;
      identifier = lowest;
      placed = placed;
      says = refl;
      step = made;
      keeps = ap (table_with world) is
          ∙ tables_same world _ _ _ _ _ _
          (filter_map-append (λ (r : Row (Option (CommandValue A))). as_draft r.value) old.rows (row ∷ []))
          (more_none as_ticket old.rows row refl)
          (more_none as_finished old.rows row refl);
    }),
    subst (IsBench world) (sym is) (reserved s world q request d old made b),
  )
    where
      row : Row (Option (CommandValue A))
      row = record { q = q; cid = d.cid; value = Some (value.Draft d) }

      is : new ≡ with_row old q d.cid (Some (value.Draft d))
      is = left ∙ ap (λ (n : ℕ). with_row old q n (Some (value.Draft d))) same

  pub place_of : (s : State) (old : Values A) (q cid : ℕ) (request : Request) (d : DraftContents) (b : IsBench s old) (world : State) → machine.Step s (events.Reserve q request) (events.Reserved d) world → cid ≡ d.cid
      → IsPlace old q cid × (value_at old.rows q cid ≡ None)
  place_of s old q cid request d b world made same = subst (λ (n : ℕ). IsPlace old q n × (value_at old.rows q n ≡ None)) (sym same) (place_free s world q request d old made b)

  -- A draft is filled or built

  module _ (s : State) (old mid : Values A) (q cid : ℕ) (d : DraftContents) (b : IsBench s old) (out : IsOut old q cid (value.Draft d) mid) where
    pub found_draft : draft_of q cid (table_with s old).drafts ≡ Some d
    found_draft = draft_at s old q cid b ∙ ap (option_and_then as_draft) out.there

    pub left_same : (d' : DraftContents) (new : Values A) → d' ≡ d → new ≡ record mid { rows = with_value mid.rows q cid (Some (value.Draft d')) } → table_with s new ≡ table_with s old
    left_same d' new same is = ap (table_with s) (put_same old mid q cid (value.Draft d) out (value.Draft d') new (ap value.Draft same) is)

    pub left_changed : (f : DraftContents → DraftContents) (d' : DraftContents) (new : Values A) → d' ≡ f d → new ≡ record mid { rows = with_value mid.rows q cid (Some (value.Draft d')) }
        → table_with s new ≡ record (table_with s old) { drafts = with_first (is_draft q cid) f (table_with s old).drafts }
    left_changed f d' new same is =
        ap (table_with s) (put_back old mid q cid (value.Draft d) out (value.Draft d') new is)
        ∙ tables_same s _ _ _ _ _ _
        (changed_at as_draft is_draft f old.rows q cid (Some (value.Draft d)) (Some (value.Draft d')) d out.there refl (ap Some same) (drafts_named s old b))
        (changed_other as_ticket old.rows q cid (Some (value.Draft d)) (Some (value.Draft d')) out.there refl refl)
        (changed_other as_finished old.rows q cid (Some (value.Draft d)) (Some (value.Draft d')) out.there refl refl)

    pub fills : (bytes : List ℕ) (answer : Reply) (d' : DraftContents) (new : Values A) → FillsDraft d bytes answer d' → new ≡ record mid { rows = with_value mid.rows q cid (Some (value.Draft d')) }
        → Fills (table_with s old) q cid bytes (draft_of q cid (table_with s old).drafts) answer (table_with s new)
    fills bytes answer d' new is left = rw found_draft (by_answer answer is)
      where
        by_answer : (answer : Reply) → FillsDraft d bytes answer d' → Fills (table_with s old) q cid bytes (Some d) answer (table_with s new)
        by_answer reply.Accepted is = (is.0, left_changed (filled_draft bytes) d' new is.1 left)
        by_answer (reply.NotFilled why) is = (is.0, left_same d' new is.1 left)
        by_answer answer is = absurd is

    pub builds : (answer : Reply) (d' : DraftContents) (new : Values A) → BuildsDraft d answer d' → new ≡ record mid { rows = with_value mid.rows q cid (Some (value.Draft d')) }
        → Builds (table_with s old) q cid (draft_of q cid (table_with s old).drafts) answer (table_with s new)
    builds answer d' new is left = rw found_draft (by_answer answer is)
      where
        by_answer : (answer : Reply) → BuildsDraft d answer d' → Builds (table_with s old) q cid (Some d) answer (table_with s new)
        by_answer reply.Accepted is = left_changed built d' new is left
        by_answer (reply.Refused refusal.Memory) is = left_same d' new is left
        by_answer answer is = absurd is

    pub kept_name : (d' : DraftContents) (new : Values A) → d'.q ≡ d.q → d'.cid ≡ d.cid → new ≡ record mid { rows = with_value mid.rows q cid (Some (value.Draft d')) } → IsBench s new
    kept_name d' new queue identifier left =
        subst (IsBench s) (sym (put_back old mid q cid (value.Draft d) out (value.Draft d') new left)) (renewed s old q cid (value.Draft d) (value.Draft d') b out.there queue identifier)

    pub fills_kept : (bytes : List ℕ) (answer : Reply) (d' : DraftContents) (new : Values A) → FillsDraft d bytes answer d' → new ≡ record mid { rows = with_value mid.rows q cid (Some (value.Draft d')) } → IsBench s new
    fills_kept bytes reply.Accepted d' new is left = kept_name d' new (ap (λ (x : DraftContents). x.q) is.1) (ap (λ (x : DraftContents). x.cid) is.1) left
    fills_kept bytes (reply.NotFilled why) d' new is left = kept_name d' new (ap (λ (x : DraftContents). x.q) is.1) (ap (λ (x : DraftContents). x.cid) is.1) left
    fills_kept bytes answer d' new is left = absurd is

    pub writes : {T : Type 0} (leaves : List ℕ → T → List ℕ → Type 0) (i : ℕ) (answer : Option T) (d' : DraftContents) (new : Values A) → WritesDraft leaves d i (option_map (λ (page : ℕ × List ℕ). page.1) (slice_get d.data_pages i)) answer d'
        → new ≡ record mid { rows = with_value mid.rows q cid (Some (value.Draft d')) }
        → WritesData leaves (table_with s old) q cid i (draft_data_at (table_with s old) q cid i) answer (table_with s new)
    writes {T} leaves i answer d' new is left = rw found_draft (by_bytes (option_map (λ (page : ℕ × List ℕ). page.1) (slice_get d.data_pages i)) answer is)
      where
        by_bytes : (bytes : Option (List ℕ)) (answer : Option T) → WritesDraft leaves d i bytes answer d' → WritesData leaves (table_with s old) q cid i bytes answer (table_with s new)
        by_bytes None None is = left_same d' new is left
        by_bytes (Some bytes) (Some r) is = (is.0, is.1, left_changed (with_data i is.0) d' new is.2 left)
        by_bytes None (Some r) is = absurd is
        by_bytes (Some bytes) None is = absurd is

    pub writes_kept : {T : Type 0} (leaves : List ℕ → T → List ℕ → Type 0) (i : ℕ) (bytes : Option (List ℕ)) (answer : Option T) (d' : DraftContents) (new : Values A) → WritesDraft leaves d i bytes answer d'
        → new ≡ record mid { rows = with_value mid.rows q cid (Some (value.Draft d')) } → IsBench s new
    writes_kept leaves i None None d' new is left = kept_name d' new (ap (λ (x : DraftContents). x.q) is) (ap (λ (x : DraftContents). x.cid) is) left
    writes_kept leaves i (Some bytes) (Some r) d' new is left = kept_name d' new (ap (λ (x : DraftContents). x.q) is.2) (ap (λ (x : DraftContents). x.cid) is.2) left
    writes_kept leaves i None (Some r) d' new is left = absurd is
    writes_kept leaves i (Some bytes) None d' new is left = absurd is

    pub builds_kept : (answer : Reply) (d' : DraftContents) (new : Values A) → BuildsDraft d answer d' → new ≡ record mid { rows = with_value mid.rows q cid (Some (value.Draft d')) } → IsBench s new
    builds_kept reply.Accepted d' new is left = kept_name d' new (ap (λ (x : DraftContents). x.q) is) (ap (λ (x : DraftContents). x.cid) is) left
    builds_kept (reply.Refused refusal.Memory) d' new is left = kept_name d' new (ap (λ (x : DraftContents). x.q) is) (ap (λ (x : DraftContents). x.cid) is) left
    builds_kept answer d' new is left = absurd is

    -- It is submitted, or cancelled

    pub submits : (world : State) (ticket : TicketContents) (new : Values A) → machine.Step s (events.Submit d) events.Accepted world → ticket ≡ record { q = d.q; cid = d.cid }
        → new ≡ with_row (record mid { rows = without mid.rows q cid }) q cid (Some (value.Ticket ticket))
        → Submits (table_with s old) q cid (draft_of q cid (table_with s old).drafts) reply.Accepted (table_with world new) × IsBench world new
    submits world ticket new step is left =
        let name = named_there s old q cid (value.Draft d) b out.there in
        let queue = ap (λ (t : TicketContents). t.q) is ∙ name.0 in
        let identifier = ap (λ (t : TicketContents). t.cid) is ∙ name.1 in
        let next = put_next old mid q cid (value.Draft d) out (value.Ticket ticket) new left in
        let row : Row (Option (CommandValue A)) = record { q = q; cid = cid; value = Some (value.Ticket ticket) } in
        let rows = without old.rows q cid in (
          rw found_draft (
            step,
            ap (table_with world) next ∙ tables_same world _ _ _ _ _ _
                (more_none as_draft rows row refl ∙ taken_at as_draft is_draft old.rows q cid b.distinct (drafts_named s old b))
                (filter_map-append (λ (r : Row (Option (CommandValue A))). as_ticket r.value) rows (row ∷ [])
                ∙ ap₂ (λ (xs : List (ℕ × ℕ)) (x : ℕ × ℕ). xs ++ x ∷ []) (taken_other as_ticket old.rows q cid (Some (value.Draft d)) out.there refl)
                (ap₂ (λ (k n : ℕ). (k, n)) queue identifier))
                (more_none as_finished rows row refl ∙ taken_other as_finished old.rows q cid (Some (value.Draft d)) out.there refl),
          ),
          subst (IsBench world) (sym next)
              (followed world old q cid (value.Draft d) (value.Ticket ticket) (goes_on s (events.Submit d) events.Accepted world old step (λ k n. refl) b) out.there queue identifier),
        )

    pub submit_refused : (world : State) (x : DraftContents) (why : Refusal) (answer : Reply) (new : Values A) → machine.Step s (events.Submit d) (events.Refused why []) world → x ≡ d → answer ≡ reply.Refused why
        → new ≡ record mid { rows = with_value mid.rows q cid (Some (value.Draft x)) }
        → Submits (table_with s old) q cid (draft_of q cid (table_with s old).drafts) answer (table_with world new) × IsBench world new
    submit_refused world x why answer new step back says left =
        let stays = put_same old mid q cid (value.Draft d) out (value.Draft x) new (ap value.Draft back) left in (
          rw (found_draft, says) (step, ap (table_with world) stays),
          subst (IsBench world) (sym stays) (goes_on s (events.Submit d) (events.Refused why []) world old step (λ k n. refl) b),
        )

    pub cancels : (world : State) (new : Values A) → machine.Step s (events.Cancel d) events.Accepted world → new ≡ record mid { rows = without mid.rows q cid }
        → Cancels (table_with s old) q cid (draft_of q cid (table_with s old).drafts) reply.Accepted (table_with world new) × IsBench world new
    cancels world new step left =
        let name = named_there s old q cid (value.Draft d) b out.there in
        let is = row_dropped old mid q cid (value.Draft d) out new left in (
          rw found_draft (step, ap (table_with world) is ∙ tables_same world _ _ _ _ _ _ (taken_at as_draft is_draft old.rows q cid b.distinct (drafts_named s old b)) (taken_other as_ticket old.rows q cid (Some (value.Draft d)) out.there refl) (taken_other as_finished old.rows q cid (Some (value.Draft d)) out.there refl)),
          subst (IsBench world) (sym is) (ended s (events.Cancel d) events.Accepted world old q cid step (λ k n. ap₂ (λ (x y : ℕ). (x == k) && (y == n)) name.0 name.1) b),
        )

    pub cancel_refused : (world : State) (x : DraftContents) (why : Refusal) (answer : Reply) (new : Values A) → machine.Step s (events.Cancel d) (events.Refused why []) world → x ≡ d → answer ≡ reply.Refused why
        → new ≡ record mid { rows = with_value mid.rows q cid (Some (value.Draft x)) }
        → Cancels (table_with s old) q cid (draft_of q cid (table_with s old).drafts) answer (table_with world new) × IsBench world new
    cancel_refused world x why answer new step back says left =
        let stays = put_same old mid q cid (value.Draft d) out (value.Draft x) new (ap value.Draft back) left in (
          rw (found_draft, says) (step, ap (table_with world) stays),
          subst (IsBench world) (sym stays) (goes_on s (events.Cancel d) (events.Refused why []) world old step (λ k n. refl) b),
        )

  -- A draft is built where it stands, or there is none

  abbrev pub with_new : Values A → ℕ → ℕ → Option (CommandValue A) → Values A
  with_new values q cid new = record values { rows = with_value values.rows q cid new }

  builds_none : (s : State) (values : Values A) (q cid : ℕ) (row new : Option (CommandValue A)) (answer : Reply) → IsBench s values → value_at values.rows q cid ≡ Some row → as_draft row ≡ None → answer ≡ reply.NoValue → new ≡ row
      → Builds (table_with s values) q cid (draft_of q cid (table_with s values).drafts) answer (table_with s (with_new values q cid new)) × IsBench s (with_new values q cid new)
  builds_none s values q cid row new answer b at none says is =
      let stays : with_new values q cid new ≡ values = rw (is, with_same values.rows q cid row at) refl in (
        subst (λ (v : Values A). Builds (table_with s values) q cid (draft_of q cid (table_with s values).drafts) answer (table_with s v)) (sym stays)
            (rw (says, draft_at s values q cid b ∙ ap (option_and_then as_draft) at ∙ none) (refl, refl)),
        subst (IsBench s) (sym stays) b,
      )

  pub builds_there : (s : State) (values : Values A) (q cid : ℕ) (row new : Option (CommandValue A)) (answer : Reply) → IsBench s values → value_at values.rows q cid ≡ Some row → BuildsRow row (as_draft row) answer new
      → Builds (table_with s values) q cid (draft_of q cid (table_with s values).drafts) answer (table_with s (with_new values q cid new)) × IsBench s (with_new values q cid new)
  builds_there s values q cid None new answer b at is = builds_none s values q cid None new answer b at refl is.0 is.1
  builds_there s values q cid (Some (value.Ticket ticket)) new answer b at is = builds_none s values q cid (Some (value.Ticket ticket)) new answer b at refl is.0 is.1
  builds_there s values q cid (Some (value.Finished f)) new answer b at is = builds_none s values q cid (Some (value.Finished f)) new answer b at refl is.0 is.1
  builds_there s values q cid (Some (value.Draft d)) new answer b at is =
      let mid : Values A = with_new values q cid None in
      let out : IsOut values q cid (value.Draft d) mid = record { there = at; left = refl } in
      let left : with_new values q cid new ≡ record mid { rows = with_value mid.rows q cid (Some (value.Draft is.0)) } =
      rw (is.2, with_twice values.rows q cid None (Some (value.Draft is.0))) refl in
      (builds s values mid q cid d b out answer is.0 (with_new values q cid new) is.1 left, builds_kept s values mid q cid d b out answer is.0 (with_new values q cid new) is.1 left)

  -- A ticket is collected

  module _ (s : State) (old mid : Values A) (q cid : ℕ) (ticket : TicketContents) (b : IsBench s old) (out : IsOut old q cid (value.Ticket ticket) mid) where
    pub found_ticket : list_any (is_ticket q cid) (table_with s old).tickets ≡ true
    found_ticket = ticket_at s old q cid (Some (ticket.q, ticket.cid)) b (ap (option_and_then as_ticket) out.there)

    pub ticket_name : (ticket.q ≡ q) × (ticket.cid ≡ cid)
    ticket_name = named_there s old q cid (value.Ticket ticket) b out.there

    pub by_name : (reply : events.Reply) (world : State) → machine.Step s (events.Collect ticket.q ticket.cid) reply world → machine.Step s (events.Collect q cid) reply world
    by_name reply world step =
        subst (λ (k : ℕ). machine.Step s (events.Collect k cid) reply world) ticket_name.0 (subst (λ (n : ℕ). machine.Step s (events.Collect ticket.q n) reply world) ticket_name.1 step)

    pub collects : (world : State) (f : FinishedContents) (status : Status) (hints : Hints) (new : Values A) → machine.Step s (events.Collect ticket.q ticket.cid) (events.Collects f) world → status ≡ f.status → hints ≡ f.hints
        → new ≡ with_row (record mid { rows = without mid.rows q cid }) q cid (Some (value.Finished f))
        → Collects (table_with s old) q cid (list_any (is_ticket q cid) (table_with s old).tickets) (reply.Collected status hints) (table_with world new) × IsBench world new
    collects world f status hints new step ends hinted left =
        let name = collected_named s world q cid f (by_name (events.Collects f) world step) in
        let next = put_next old mid q cid (value.Ticket ticket) out (value.Finished f) new left in
        let row : Row (Option (CommandValue A)) = record { q = q; cid = cid; value = Some (value.Finished f) } in
        let rows = without old.rows q cid in (
          rw found_ticket (record {
            finished = f;
            says = ap₂ reply.Collected ends hinted;
            step = by_name (events.Collects f) world step;
            keeps = ap (table_with world) next ∙ tables_same world _ _ _ _ _ _
                (more_none as_draft rows row refl ∙ taken_other as_draft old.rows q cid (Some (value.Ticket ticket)) out.there refl)
                (more_none as_ticket rows row refl ∙ taken_at as_ticket is_ticket old.rows q cid b.distinct (tickets_named s old b))
                (filter_map-append (λ (r : Row (Option (CommandValue A))). as_finished r.value) rows (row ∷ [])
                ∙ ap (λ (xs : List FinishedContents). xs ++ f ∷ []) (taken_other as_finished old.rows q cid (Some (value.Ticket ticket)) out.there refl));
          }),
          subst (IsBench world) (sym next)
              (followed world old q cid (value.Ticket ticket) (value.Finished f) (goes_on s (events.Collect ticket.q ticket.cid) (events.Collects f) world old step (λ k n. refl) b) out.there name.0 name.1),
        )

    pub collect_refused : (world : State) (x : TicketContents) (why : Refusal) (answer : Reply) (new : Values A) → machine.Step s (events.Collect ticket.q ticket.cid) (events.Refused why []) world → x ≡ ticket → answer ≡ reply.Refused why
        → new ≡ record mid { rows = with_value mid.rows q cid (Some (value.Ticket x)) }
        → Collects (table_with s old) q cid (list_any (is_ticket q cid) (table_with s old).tickets) answer (table_with world new) × IsBench world new
    collect_refused world x why answer new step back says left =
        let stays = put_same old mid q cid (value.Ticket ticket) out (value.Ticket x) new (ap value.Ticket back) left in (
          rw (found_ticket, says) (by_name (events.Refused why []) world step, ap (table_with world) stays),
          subst (IsBench world) (sym stays) (goes_on s (events.Collect ticket.q ticket.cid) (events.Refused why []) world old step (λ k n. refl) b),
        )

  -- A finished command is gathered

  module _ (s : State) (values : Values A) (q cid : ℕ) (f : FinishedContents) (b : IsBench s values) (there : Some f ≡ option_and_then as_finished (value_at values.rows q cid)) where
    pub is_finished_there : finished_at q cid (table_with s values).finished ≡ Some f
    is_finished_there = finished_there s values q cid b ∙ sym there

    pub gathers : (bytes : List ℕ) → bytes ≡ gathered_from f → Gathers (table_with s values) (finished_at q cid (table_with s values).finished) (reply.Gathered bytes) (table_with s values)
    gathers bytes is = rw is_finished_there (is, refl)

    pub gathers_nothing : (answer : Reply) → answer ≡ reply.Refused refusal.Memory → Gathers (table_with s values) (finished_at q cid (table_with s values).finished) answer (table_with s values)
    gathers_nothing answer is = rw (is_finished_there, is) refl

  -- It is released

  module _ (s : State) (old mid : Values A) (q cid : ℕ) (f : FinishedContents) (b : IsBench s old) (out : IsOut old q cid (value.Finished f) mid) where
    pub found_finished : finished_at q cid (table_with s old).finished ≡ Some f
    found_finished = finished_there s old q cid b ∙ ap (option_and_then as_finished) out.there

    pub releases : (world : State) (new : Values A) → machine.Step s (events.Release f) events.Accepted world → new ≡ record mid { rows = without mid.rows q cid }
        → Releases (table_with s old) q cid (finished_at q cid (table_with s old).finished) reply.Accepted (table_with world new) × IsBench world new
    releases world new step left =
        let name = named_there s old q cid (value.Finished f) b out.there in
        let is = row_dropped old mid q cid (value.Finished f) out new left in (
          rw found_finished (step, ap (table_with world) is ∙ tables_same world _ _ _ _ _ _ (taken_other as_draft old.rows q cid (Some (value.Finished f)) out.there refl) (taken_other as_ticket old.rows q cid (Some (value.Finished f)) out.there refl) (taken_at as_finished is_finished old.rows q cid b.distinct (finished_named s old b))),
          subst (IsBench world) (sym is) (ended s (events.Release f) events.Accepted world old q cid step (λ k n. ap₂ (λ (x y : ℕ). (x == k) && (y == n)) name.0 name.1) b),
        )

    pub release_refused : (world : State) (x : FinishedContents) (why : Refusal) (answer : Reply) (new : Values A) → machine.Step s (events.Release f) (events.Refused why []) world → x ≡ f → answer ≡ reply.Refused why
        → new ≡ record mid { rows = with_value mid.rows q cid (Some (value.Finished x)) }
        → Releases (table_with s old) q cid (finished_at q cid (table_with s old).finished) answer (table_with world new) × IsBench world new
    release_refused world x why answer new step back says left =
        let stays = put_same old mid q cid (value.Finished f) out (value.Finished x) new (ap value.Finished back) left in (
          rw (found_finished, says) (step, ap (table_with world) stays),
          subst (IsBench world) (sym stays) (goes_on s (events.Release f) (events.Refused why []) world old step (λ k n. refl) b),
        )

-- Bytes that are written where bytes are leave each page in, or out.

-- a page is in where its first byte is there
first_byte : (pages : Pages) → AreWhole pages → (p : ℕ) → is_in pages p ≡ is_some (byte_at pages (4096 * p + 0))
first_byte pages whole p = elim (option_is (page_at pages p)) [
  | inl out ↦ rw (page_of_place p 0 (omega arith), out) refl
  | inr (page, here) ↦
      let full : length page ≡ 4096 = rw here at (whole p) in
      rw here (ap is_some (sym (byte_in pages p 0 page here (omega arith) ∙ slice_get-get_or page 0 0 (omega (arith, full)))))
]

-- a byte is at an address of a range that is there
stands : (m : Memory) (addr n place : ℕ) → bytes_at m addr n ≢ None → addr ≤ place → place < addr + n → is_some (m place) ≡ true
stands m addr n place there low high =
    let at : addr + (place - addr) ≡ place = omega (arith, low) in
    true_from_ne_false (is_some (m place)) (λ e. there (missing_at m addr n (place - addr) (omega (arith, low, high)) (ap m at ∙ none_of (m place) e)))

-- so the same addresses have bytes
same_places : (m : Memory) (addr : ℕ) (bytes : List ℕ) → bytes_at m addr (length bytes) ≢ None → (place : ℕ) → is_some (written m addr bytes place) ≡ is_some (m place)
same_places m addr bytes there place = elim (cases_lt place addr) [
  | inl before ↦ ap is_some (written_before m addr place bytes before)
  | inr low ↦ elim (cases_lt place (addr + length bytes)) [
    | inl high ↦ ap is_some (written_in m addr place bytes low high) ∙ sym (stands m addr (length bytes) place there low high)
    | inr past ↦ ap is_some (written_after m addr place bytes past)
  ]
]

keeps_by : (old new : Pages) → AreWhole old → AreWhole new → length new ≤ 65536 → length new ≡ length old → ((place : ℕ) → is_some (byte_at new place) ≡ is_some (byte_at old place)) → Keeps old new
keeps_by old new whole whole' few count same =
    record {
      pool = record { few = few; whole = whole' };
      count = count;
      stays = λ p. first_byte new whole' p ∙ same (4096 * p + 0) ∙ sym (first_byte old whole p);
    }

-- what a write leaves
pub write_keeps : {E : Type 0} (R : Type 0) (old new : Pages) (m : Memory) (addr : ℕ) (bytes : List ℕ) (result : Result (Unit {0}) E) → AreWhole old → AreWhole new → length new ≤ 65536 → length new ≡ length old → m ≡ byte_at old
    → OnOk result (bytes_at m addr (length bytes) ≢ None) → OnOk result (byte_at new ≡ written m addr bytes) → OnErr result ((byte_at new ≡ m) × R) → Keeps old new
write_keeps R old new m addr bytes (Ok done) whole whole' few count is there wrote stays =
    keeps_by old new whole whole' few count
    (λ place. ap (λ (m : Memory). is_some (m place)) wrote ∙ same_places m addr bytes there place ∙ ap (λ (m : Memory). is_some (m place)) is)
write_keeps R old new m addr bytes (Err why) whole whole' few count is there wrote stays =
    keeps_by old new whole whole' few count (λ place. ap (λ (m : Memory). is_some (m place)) (stays.0 ∙ is))

-- a write that is refused leaves the pages
pub write_stays : {E : Type 0} (R : Type 0) (old new : Pages) (m : Memory) (result : Result (Unit {0}) E) → AreWhole old → AreWhole new → length new ≡ length old → m ≡ byte_at old → OnErr result ((byte_at new ≡ m) × R) → OnErr result (new ≡ old)
write_stays R old new m (Ok done) whole whole' count is stays = tt
write_stays R old new m (Err why) whole whole' count is stays = same_pages old new whole whole' count (stays.0 ∙ is)
