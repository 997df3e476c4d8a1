-- A bench collects a command where none of its name is collected: it keeps one value at most of each command.
use Rattle.std.proofs.Common.{◌≡◌, ◌∙◌, ℕ, Bool, true, false, Option, Some, None, refl, sym, subst, if◌then◌else◌}
use Rattle.std.proofs.lemmas.Bool.{true≢false}
use Rattle.std.specs.{List.list_any, Option.option_and_then}
use Rattle.entry_codec.specs.declared.{hints.Hints.Hints, status.Status.Status}
use Rattle.host_bench.proofs.Benches.{Values, ticket_at, finished_there}
use Rattle.host_bench.specs.CommandValues.{as_ticket, as_finished, table_with, IsBench}
use Rattle.host_bench.specs.declared.values.CommandValue.{CommandValue}
use Rattle.host_bench.specs.declared.values.CommandValue.TheVariants as value
use Rattle.machine_model.specs.{Script.{Table, finished_at, is_ticket}, State.State}
use Rattle.machine_model.specs.Events as events
use Rattle.slot_table.specs.Rows.{value_at}
use Rattle.step_core.specs.Bench.{Does, DoesBy}
use Rattle.step_core.specs.Values.{Reply, Step}
use Rattle.step_core.specs.declared.step.Reply.TheVariants as reply
use Rattle.step_core.specs.declared.step.Step.TheVariants as step
use Rattle.world_bench.specs.Collecting.{CollectsOnce}

-- what is collected has a ticket
ticketed : (t new : Table) (q cid : ℕ) (status : Status) (hints : Hints) → Does t (step.Collect q cid) (reply.Collected status hints) new → list_any (is_ticket q cid) t.tickets ≡ true
ticketed t new q cid status hints does = by_presence (list_any (is_ticket q cid) t.tickets) does where
  by_presence : (b : Bool) → DoesBy (if b then Some (events.Collect q cid) else None) t (step.Collect q cid) (reply.Collected status hints) new → b ≡ true
  by_presence true d = refl
  by_presence false d = absurd cc

module _ {A : Type 0} where
  -- a value that is a ticket is no finished command
  one_kind : (v : Option (CommandValue A)) (x : ℕ × ℕ) → as_ticket v ≡ Some x → as_finished v ≡ None
  one_kind None x is = refl
  one_kind (Some (value.Draft d)) x is = refl
  one_kind (Some (value.Ticket t)) x is = refl
  one_kind (Some (value.Finished f)) x is = absurd cc

  no_ticket : (s : State) (values : Values A) (q cid : ℕ) → IsBench s values → list_any (is_ticket q cid) (table_with s values).tickets ≡ true → finished_at q cid (table_with s values).finished ≡ None
  no_ticket s values q cid b is = finished_there s values q cid b ∙ by_value (value_at values.rows q cid) refl where
    by_value : (o : Option (Option (CommandValue A))) → value_at values.rows q cid ≡ o → option_and_then as_finished o ≡ None
    by_value None at = refl
    by_value (Some v) at = by_ticket (as_ticket v) refl where
      by_ticket : (x : Option (ℕ × ℕ)) → as_ticket v ≡ x → as_finished v ≡ None
      by_ticket (Some x) tells = one_kind v x tells
      by_ticket None tells =
          absurd (true≢false (sym is ∙ ticket_at s values q cid None b (subst (λ (o : Option (Option (CommandValue A))). option_and_then as_ticket o ≡ None) (sym at) tells)))

  pub collected_once : (s : State) (values : Values A) (what : Step) (answer : Reply) (new : Table) → IsBench s values → Does (table_with s values) what answer new → CollectsOnce (table_with s values) what answer
  collected_once s values (step.Collect q cid) (reply.Collected status hints) new b does = no_ticket s values q cid b (ticketed (table_with s values) new q cid status hints does)
  collected_once s values what answer new b does = tt
