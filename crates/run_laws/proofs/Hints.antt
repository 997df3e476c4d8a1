-- Where nothing was forged, no command has hints.
use Rattle.std.proofs.Common.{◌≡◌, ℕ, true, Option, Some, None, List, [], ◌∷◌, ◌++◌, refl, ap, sym, ◌∙◌, subst}
use Rattle.std.specs.{List.AllByRecursion, Option.{option_and_then, option_map}}
use Rattle.entry_codec.specs.declared.{completion.ComEntry.ComEntry, hints.TheConstants.Hints.NONE}
use Rattle.io_commands.specs.Values.{FinishedContents}
use Rattle.machine_model.proofs.Moves.{seen_trusted}
use Rattle.machine_model.specs.{Events.{Event, Reply}, Image.Made, Opening.opening, Refusals.{entry_of, front_completion, seen_entry, served_queue}}
use Rattle.machine_model.specs.{State.{PostedCompletion, Record, State, is_at}, Step.Step, Trusted.{Steps, TrustedRun}}
use Rattle.page_memory.proofs.Lists.{all-found, some_is}
use Rattle.two_sides.proofs.{Along.{Unforged, cut, unforged_end, unforged_front, unforged_next, unforged_run}, NeverFull.stood_at_opening, Served.Stood}
use Rattle.run_laws.proofs.{DataKept.{Collects, Going, collects_held, one_step, stood_along, stood_step}, Moves.{RecordsMove, records_event}}
use Rattle.run_laws.specs.{Blocks.collected_of, Ends.collects_tell_no_hints}
use Rattle.machine_model.specs.Events as events

abbrev HasNone : Record → Type 0
HasNone r = r.hints ≡ NONE

abbrev AllNone : State → Type 0
AllNone s = AllByRecursion HasNone s.host.records

-- the completion that is seen hints at nothing
seen_none : (s : State) (q : ℕ) (entry : ComEntry) → s.trusted ≡ true → seen_entry s q ≡ Some entry → entry.hints ≡ NONE
seen_none s q entry t seen = by_completion (option_and_then (λ queue. front_completion queue.completions) (served_queue s q)) (sym (seen_trusted s q t) ∙ seen)
  where
    by_completion : (o : Option PostedCompletion) → option_map (entry_of q) o ≡ Some entry → entry.hints ≡ NONE
    by_completion None e = absurd cc
    by_completion (Some completion) e = ap (λ (x : ComEntry). x.hints) (sym (some_is e))

hints_move : (s : State) (e : Event) (reply : Reply) → Going s e reply → RecordsMove HasNone HasNone s e
hints_move s e reply g = record {
  stays = λ r within free none. none;
  reserves = λ d. refl;
  sends = λ adm id. refl;
  submits = λ d entry r is built found fits none. none;
  reaps = λ q cid st entry request r is seen n status found w none. seen_none s q entry g.trusted seen;
  loses = λ r within sub free none. refl;
  collects = λ r none. none;
}

none_step : (s : State) (e : Event) (reply : Reply) (new : State) → Step s e reply new → s.trusted ≡ true → new.trusted ≡ true → Stood s → AllNone s → AllNone new
none_step s e reply new step t u stood h = one_step AllNone s e reply new step t u stood (λ g h. records_event HasNone HasNone s e reply (hints_move s e reply g) g.ok g.stood.grounds h) h

none_along : (made : List Made) (s end : State) → Steps s made end → Unforged s made → Stood s → AllNone s → AllNone end
none_along [] s end steps u stood h = subst AllNone (sym steps) h
none_along (m ∷ made) s end (is, mid, step, rest) u stood h =
    let next = unforged_next m made s mid step u in
    none_along made mid end rest next (stood_step s m.event m.reply mid step u.trusted next.trusted stood) (none_step s m.event m.reply mid step u.trusted next.trusted stood h)

pub runs_tell_no_hints : collects_tell_no_hints
runs_tell_no_hints image earlier later m end q cid f run is_event is_reply = found.hints ∙ all-found HasNone (is_at f.q f.cid) parts.0.host.records found.command found.found (none_along earlier s0 parts.0 parts.1 unforged stood0 tt)
  where
    s0 : State
    s0 = opening run.pages run.queues run.entries run.segment image

    parts : (mid : State) × Steps (opening run.pages run.queues run.entries run.segment image) earlier mid × Steps mid (m ∷ later) end
    parts = cut earlier (m ∷ later) (opening run.pages run.queues run.entries run.segment image) end run.steps

    unforged : Unforged (opening run.pages run.queues run.entries run.segment image) earlier
    unforged = unforged_front earlier (m ∷ later) s0 (unforged_run image (earlier ++ m ∷ later) end run)

    stood0 : Stood (opening run.pages run.queues run.entries run.segment image)
    stood0 = stood_at_opening run.pages run.queues run.entries run.segment image run.opens

    found : Collects parts.0 f
    found = collects_held parts.0 m.event m.reply parts.2.1 f parts.2.2 (unforged_end earlier s0 parts.0 parts.1 unforged) (subst (λ (e : Event). collected_of e m.reply ≡ Some f) (sym is_event) (subst (λ (r : Reply). collected_of (events.Collect q cid) r ≡ Some f) (sym is_reply) refl))
