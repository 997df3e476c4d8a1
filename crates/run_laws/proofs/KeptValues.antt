-- The machine's steps that a bench's steps are, with the values that it keeps; and what it gathers.
use Rattle.machine_model.specs.Events as events
use Rattle.machine_model.specs.Step as machine
use Rattle.step_core.specs.declared.step.Step.TheVariants as step
use Rattle.two_sides.specs.Histories as histories
use Rattle.machine_model.specs.Trusted as laws
use Rattle.step_core.specs.declared.step.Reply.TheVariants as reply
use Rattle.std.proofs.Common.{◌≡◌, Option, Some, None, List, [], ◌∷◌, ◌++◌, refl, ap, ◌∙◌, ℕ, ◌==◌, Bool, true, false, ◌&&◌, ◌||◌, sym, subst, eqb-true, append_assoc, eq-eqb, if◌then◌else◌, ap₂, not, append-nil, inl, inr, arith}
use Rattle.std.{proofs.lemmas.Bool.{true≢false, and_parts, or_right, or_parts}, specs.{List.{AllByRecursion, list_any}, Option.option_map}}
use Rattle.machine_model.specs.{After.final_status, Events.Event, Image.{Made, is_draft, submitted_by, image_after, draft_of}, Opening.opening, Refusals.job_at}
use Rattle.machine_model.specs.{Script.{Table, is_ticket, is_finished, table, finished_at}, State.State}
use Rattle.machine_model.specs.{Step.{finished_from, asked_by, pages_with_bytes, resets}, Trusted.{Steps, TrustedRun}}
use Rattle.step_core.proofs.Order.{asked_at, inside, OwnLeft, Same, Changed, own_left, same_forgery, none_forged, steps_from}
use Rattle.step_core.specs.{Bench.{DoesBy, IsOwn, Makes, event_at, asked, kept, told, Gathers}, Going.forges_by, Laws.made_from, Opening.opening_of}
use Rattle.step_core.specs.Values.{Reply, Step}
use Rattle.host_core.proofs.Outstanding.{collected_named}
use Rattle.host_core.specs.Firsts.{without_first}
use Rattle.run_laws.proofs.{DataLaws.{bytes_kept, successes_fetched, prefix_given, blocks_given}, Images.{images_are_runs, compares_told}}
use Rattle.run_laws.proofs.Standing.{Stands, releases_by, step_stands, not_again, collected_stands, Few, none_last, few_more, few_without, gone, any_without, all_without, any_on, any_last, any_of_more, HasLast, split_last}
use Rattle.run_laws.specs.{Blocks.{collected_of, compared, is_read}, DraftBlocks.{benches_write_their_blocks, benches_compare_their_blocks}}
use Rattle.run_laws.specs.Gathering.{collects, collects_by, IsOfSteps, KeepsCommand, GathersCommand, gathered_bytes_are_of_collected_commands, GathersRead, gathered_reads_have_their_blocks}
use Rattle.run_laws.specs.{Statuses.{status_by, fetches}, Submitted.{submits, CollectedCommand, FetchedCommand, was_fetched, bytes_collected}}
use Rattle.run_laws.specs.Values.{Done, made_by, is_forgery, is_reset, resets_by, since_reset, Goes, benches_have_tables, TrustedBench, benches_make_runs_of_their_values, benches_of_trusted_worlds_are_unforged}
use Rattle.io_commands.specs.{DataBytes.gathered, Drafts.DraftContents, Values.{FinishedContents, gathered_from}}
use Rattle.two_sides.proofs.{Along.{unforged_front, unforged_run, cut}, PoolBytes.ends_unforged}
use Rattle.std.proofs.lemmas.Bool.{cases_Bool}
use Rattle.page_memory.proofs.Lists.{all-append, found_is, all-found}

-- The machine's steps that a bench's steps are, with the values that it keeps.

-- A step of a bench is a step of the machine, or one of a kept value alone; and the machine's steps of several, one after the other.

abbrev pub made_at : State → Event → events.Reply → Made
made_at s e r = record { before = s; event = e; reply = r }

-- the machine's steps starting at one step of a bench
abbrev pub first_made : Done → List Made → List Made
first_made d made = made_from (event_at d.before d.what) d.before d.what d.answer d.after d.does made

pub data StepKind (d : Done) : Type 0 where
  OfMachine : (e : Event) → event_at d.before d.what ≡ Some e → (m : Makes d.before d.what e d.answer d.after) → ((made : List Made) → first_made d made ≡ made_at d.before.world e m.reply ∷ made) → StepKind d
  OfBench : event_at d.before d.what ≡ None → IsOwn d.before d.what d.answer d.after → ((made : List Made) → first_made d made ≡ made) → StepKind d

pub kind : (d : Done) → StepKind d
kind d = by_event (event_at d.before d.what) refl d.does (λ made. refl)
  where
    by_event : (o : Option Event) → event_at d.before d.what ≡ o → (does : DoesBy o d.before d.what d.answer d.after) → ((made : List Made) → first_made d made ≡ made_from o d.before d.what d.answer d.after does made) → StepKind d
    by_event (Some e) at m same = OfMachine e at m same
    by_event None at own same = OfBench at own same

from_behind : (o : Option Event) (t : Table) (what : Step) (answer : Reply) (new : Table) (does : DoesBy o t what answer new) (made more : List Made)
    → made_from o t what answer new does (made ++ more) ≡ made_from o t what answer new does made ++ more
from_behind (Some e) t what answer new does made more = refl
from_behind None t what answer new does made more = refl

pub made_by-append : (xs ys : List Done) → made_by (xs ++ ys) ≡ made_by xs ++ made_by ys
made_by-append [] ys = refl
made_by-append (d ∷ xs) ys = ap (first_made d) (made_by-append xs ys) ∙ from_behind (event_at d.before d.what) d.before d.what d.answer d.after d.does (made_by xs) (made_by ys)

-- What backs the tickets and the finished commands that a bench keeps, in the steps that the machine made.

-- a command was submitted and collected in these steps
pub record WasCollected (made : List Made) (f : FinishedContents) : Type 0 where
  pub before : List Made
  pub submitted : Made
  pub between : List Made
  pub collected : Made
  pub later : List Made
  pub draft : DraftContents
  pub parts : made ≡ before ++ submitted ∷ between ++ collected ∷ later
  pub is_submission : submitted_by submitted.event submitted.reply ≡ draft ∷ []
  pub is_collection : collected_of collected.event collected.reply ≡ Some f
  pub event : collected.event ≡ events.Collect f.q f.cid
  pub queue : draft.q ≡ f.q
  pub identifier : draft.cid ≡ f.cid
  pub alone : list_any (submits f.q f.cid) between ≡ false
  pub once : list_any (collects f.q f.cid) later ≡ false

-- so was each command that is kept, and each ticket's was submitted; of each name at most one is kept, whose record is collected
pub record AreFrom (made : List Made) (t : Table) : Type 0 where
  pub tickets : (q cid : ℕ) → list_any (is_ticket q cid) t.tickets ≡ true → list_any (submits q cid) made ≡ true
  pub finished : AllByRecursion (WasCollected made) t.finished
  pub stands : (q cid : ℕ) → list_any (is_finished q cid) t.finished ≡ true → Stands q cid t.world.host.records
  pub few : (q cid : ℕ) → Few (is_finished q cid) t.finished

-- One step more

collected_on : (made : List Made) (m : Made) (f : FinishedContents) → collects f.q f.cid m ≡ false → WasCollected made f → WasCollected (made ++ m ∷ []) f
collected_on made m f far h =
    record {
      before = h.before;
      submitted = h.submitted;
      between = h.between;
      collected = h.collected;
      later = h.later ++ m ∷ [];
      draft = h.draft;
      parts =
          ap (λ (l : List Made). l ++ m ∷ []) h.parts ∙ append_assoc (h.before ++ h.submitted ∷ h.between) (h.collected ∷ h.later) (m ∷ []);
      is_submission = h.is_submission;
      is_collection = h.is_collection;
      event = h.event;
      queue = h.queue;
      identifier = h.identifier;
      alone = h.alone;
      once = none_last (collects f.q f.cid) h.later m h.once far;
    }

-- a step that collects none of these names
abbrev CollectsNone : Made → List FinishedContents → Type 0
CollectsNone m fs = (q cid : ℕ) → list_any (is_finished q cid) fs ≡ true → collects q cid m ≡ false

all_on : (made : List Made) (m : Made) (fs : List FinishedContents) → CollectsNone m fs → AllByRecursion (WasCollected made) fs → AllByRecursion (WasCollected (made ++ m ∷ [])) fs
all_on made m [] far all = tt
all_on made m (f ∷ fs) far all = grind (arith, all_on made m fs, collected_on, eq-eqb, or_right)

-- a step of the machine that keeps the finished commands
pub made_on : (made : List Made) (m : Made) (t new : Table) → ((q cid : ℕ) → list_any (is_ticket q cid) new.tickets ≡ true → list_any (submits q cid) (made ++ m ∷ []) ≡ true) → new.finished ≡ t.finished
    → machine.Step t.world m.event m.reply new.world → ((q cid : ℕ) → releases_by q cid m.event m.reply ≡ false) → ((q cid : ℕ) → collects q cid m ≡ false) → AreFrom made t → AreFrom (made ++ m ∷ []) new
made_on made m t new tickets finished step unreleased uncollected h =
    record {
      tickets = tickets;
      finished = subst (AllByRecursion (WasCollected (made ++ m ∷ []))) (sym finished) (all_on made m t.finished (λ q cid there. uncollected q cid) h.finished);
      stands = λ q cid there. step_stands q cid t.world m.event m.reply new.world step (unreleased q cid) (h.stands q cid (ap (list_any (is_finished q cid)) (sym finished) ∙ there));
      few = λ q cid. subst (Few (is_finished q cid)) (sym finished) (h.few q cid);
    }

pub same_tickets : (made : List Made) (m : Made) (t new : Table) → new.tickets ≡ t.tickets → AreFrom made t → (q cid : ℕ) → list_any (is_ticket q cid) new.tickets ≡ true → list_any (submits q cid) (made ++ m ∷ []) ≡ true
same_tickets made m t new same h q cid there = any_on (submits q cid) made m (h.tickets q cid (ap (list_any (is_ticket q cid)) (sym same) ∙ there))

-- what a step of the machine leaves
abbrev pub left_at : Table → Event → events.Reply → State → Table
left_at t e r world = record (kept t (asked e) r) { world = world }

-- A release

pub released_more : (made : List Made) (t : Table) (f : FinishedContents) (world : State) → machine.Step t.world (events.Release f) events.Accepted world → AreFrom made t
    → AreFrom (made ++ made_at t.world (events.Release f) events.Accepted ∷ []) (left_at t (events.Release f) events.Accepted world)
released_more made t f world step h =
    let m = made_at t.world (events.Release f) events.Accepted in
    record {
      tickets = same_tickets made m t t refl h;
      finished = all_without (WasCollected (made ++ m ∷ [])) (is_finished f.q f.cid) t.finished (all_on made m t.finished (λ k n there. refl) h.finished);
      stands = λ k n there. left k n there ((f.q == k) && (f.cid == n)) refl;
      few = λ k n. few_without (is_finished k n) (is_finished f.q f.cid) t.finished (h.few k n);
    }
  where
    left : (k n : ℕ) → list_any (is_finished k n) (without_first (is_finished f.q f.cid) t.finished) ≡ true → (b : Bool) → ((f.q == k) && (f.cid == n)) ≡ b → Stands k n world.host.records
    left k n there false e = step_stands k n t.world (events.Release f) events.Accepted world step e (h.stands k n (any_without (is_finished k n) (is_finished f.q f.cid) t.finished there))
    left k n there true e =
        let both = and_parts (f.q == k) (f.cid == n) e in
        absurd (true≢false (sym there ∙ ap (λ (x : ℕ). list_any (is_finished x n) (without_first (is_finished f.q f.cid) t.finished)) (sym (eqb-true f.q k both.0))
        ∙ ap (λ (x : ℕ). list_any (is_finished f.q x) (without_first (is_finished f.q f.cid) t.finished)) (sym (eqb-true f.cid n both.1)) ∙ gone (is_finished f.q f.cid) t.finished (h.few f.q f.cid)))

-- A submission

pub submitted_tickets : (made : List Made) (t : Table) (d : DraftContents) → AreFrom made t → (k n : ℕ) → list_any (is_ticket k n) (t.tickets ++ (d.q, d.cid) ∷ []) ≡ true
    → list_any (submits k n) (made ++ made_at t.world (events.Submit d) events.Accepted ∷ []) ≡ true
submitted_tickets made t d h k n there =
    any_of_more (is_ticket k n) t.tickets (d.q, d.cid) (list_any (submits k n) (made ++ made_at t.world (events.Submit d) events.Accepted ∷ []) ≡ true) there
    (λ early. any_on (submits k n) made (made_at t.world (events.Submit d) events.Accepted) (h.tickets k n early))
    (λ late. any_last (submits k n) made (made_at t.world (events.Submit d) events.Accepted) (ap (λ (b : Bool). b || false) late))

-- A collection

-- an accepted submission of a name is of a draft of that name
record SubmitsDraft (q cid : ℕ) (e : Event) (reply : events.Reply) : Type 0 where
  draft : DraftContents
  is : submitted_by e reply ≡ draft ∷ []
  queue : draft.q ≡ q
  identifier : draft.cid ≡ cid

submits_draft : (q cid : ℕ) (e : Event) (reply : events.Reply) → list_any (is_draft q cid) (submitted_by e reply) ≡ true → SubmitsDraft q cid e reply
submits_draft q cid (events.Submit d) events.Accepted h =
    let both = and_parts (d.q == q) (d.cid == cid) (elim (cases_Bool (is_draft q cid d)) [ inl e ↦ rw e refl | inr e ↦ rw e ((rw e at h)) ]) in
    record { draft = d; is = refl; queue = eqb-true d.q q both.0; identifier = eqb-true d.cid cid both.1 }
submits_draft q cid e reply h = absurd (true≢false (sym h))

was_collected : (made : List Made) (m : Made) (f : FinishedContents) → list_any (submits f.q f.cid) made ≡ true → collected_of m.event m.reply ≡ Some f → m.event ≡ events.Collect f.q f.cid → WasCollected (made ++ m ∷ []) f
was_collected made m f there is event =
    let l : HasLast (submits f.q f.cid) made = split_last (submits f.q f.cid) made there in
    let d = submits_draft f.q f.cid l.last.event l.last.reply l.passes in
    record {
      before = l.before;
      submitted = l.last;
      between = l.later;
      collected = m;
      later = [];
      draft = d.draft;
      parts = ap (λ (x : List Made). x ++ m ∷ []) l.parts;
      is_submission = d.is;
      is_collection = is;
      event = event;
      queue = d.queue;
      identifier = d.identifier;
      alone = l.none_later;
      once = refl;
    }

pub collected_more : (made : List Made) (t : Table) (q cid : ℕ) (f : FinishedContents) (world : State) → list_any (is_ticket q cid) t.tickets ≡ true
    → machine.Step t.world (events.Collect q cid) (events.Collects f) world → AreFrom made t
    → AreFrom (made ++ made_at t.world (events.Collect q cid) (events.Collects f) ∷ []) (left_at t (events.Collect q cid) (events.Collects f) world)
collected_more made t q cid f world there step h =
    record {
      tickets = λ k n there. any_on (submits k n) made m (h.tickets k n (any_without (is_ticket k n) (is_ticket q cid) t.tickets there));
      finished = all-append (WasCollected (made ++ m ∷ [])) t.finished f (all_on made m t.finished far h.finished) (was_collected made m f own refl named);
      stands = λ k n there.
          any_of_more (is_finished k n) t.finished f (Stands k n world.host.records) there
          (λ early. step_stands k n t.world (events.Collect q cid) (events.Collects f) world step refl (h.stands k n early))
          (λ late. own_stands k n late);
      few = λ k n. few_more (is_finished k n) t.finished f (h.few k n) (λ late. new_name k n late (list_any (is_finished k n) t.finished) refl);
    }
  where
    m : Made
    m = made_at t.world (events.Collect q cid) (events.Collects f)

    name : (f.q ≡ q) × (f.cid ≡ cid)
    name = collected_named t.world world q cid f step

    named : events.Collect q cid ≡ events.Collect f.q f.cid
    named = ap (λ (k : ℕ). events.Collect k cid) (sym name.0) ∙ ap (events.Collect f.q) (sym name.1)

    own : list_any (submits f.q f.cid) made ≡ true
    own = ap (λ (k : ℕ). list_any (submits k f.cid) made) name.0 ∙ ap (λ (n : ℕ). list_any (submits q n) made) name.1 ∙ h.tickets q cid there

    far : CollectsNone m t.finished
    far k n early = not_again k n q cid t.world world f step (h.stands k n early)

    is_name : (k n : ℕ) → is_finished k n f ≡ true → (q ≡ k) × (cid ≡ n)
    is_name k n late =
        let both = and_parts (f.q == k) (f.cid == n) late in
        (sym name.0 ∙ eqb-true f.q k both.0, sym name.1 ∙ eqb-true f.cid n both.1)

    own_stands : (k n : ℕ) → is_finished k n f ≡ true → Stands k n world.host.records
    own_stands k n late =
        let is = is_name k n late in
        subst (λ (x : ℕ). Stands x n world.host.records) is.0 (subst (λ (x : ℕ). Stands q x world.host.records) is.1 (collected_stands q cid t.world world f step))

    new_name : (k n : ℕ) → is_finished k n f ≡ true → (b : Bool) → list_any (is_finished k n) t.finished ≡ b → b ≡ false
    new_name k n late false e = refl
    new_name k n late true e =
        let is = is_name k n late in
        absurd (true≢false (sym (rw ((eq-eqb q k is.0), (eq-eqb cid n is.1)) refl) ∙ far k n e))

-- What backs the values that a bench keeps, after each of its steps.

-- a step of a kept value alone keeps the tickets and the finished commands
pub own_from : (past : List Made) (t : Table) (what : Step) (answer : Reply) (new : Table) → IsOwn t what answer new → AreFrom past t → AreFrom past new
own_from past t what answer new is h = by_change (own_left t what answer new is)
  where
    by_change : OwnLeft t new → AreFrom past new
    by_change (Same same) = subst (AreFrom past) (sym same) h
    by_change (Changed test f proper same) = subst (AreFrom past) (sym same) (record { tickets = h.tickets; finished = h.finished; stands = h.stands; few = h.few })

ticket_there : (t : Table) (q cid : ℕ) → event_at t (step.Collect q cid) ≡ Some (events.Collect q cid) → list_any (is_ticket q cid) t.tickets ≡ true
ticket_there t q cid at = grind arith

-- an event that keeps the tickets and the finished commands
others_from : (past : List Made) (t : Table) (e : Event) (r : events.Reply) (world : State) → (left_at t e r world).tickets ≡ t.tickets → (left_at t e r world).finished ≡ t.finished
    → ((k n : ℕ) → releases_by k n e r ≡ false) → ((k n : ℕ) → collects_by k n e r ≡ false) → machine.Step t.world e r world → AreFrom past t
    → AreFrom (past ++ made_at t.world e r ∷ []) (left_at t e r world)
others_from past t e r world tickets finished unreleased uncollected step h =
    made_on past (made_at t.world e r) t (left_at t e r world) (same_tickets past (made_at t.world e r) t (left_at t e r world) tickets h) finished step unreleased uncollected h

event_from : (past : List Made) (t : Table) (e : Event) (r : events.Reply) (world : State) → event_at t (asked e) ≡ Some e → machine.Step t.world e r world → AreFrom past t
    → AreFrom (past ++ made_at t.world e r ∷ []) (left_at t e r world)
event_from past t (events.Submit d) events.Accepted world at step h =
    made_on past (made_at t.world (events.Submit d) events.Accepted) t (left_at t (events.Submit d) events.Accepted world) (submitted_tickets past t d h) refl step (λ k n. refl) (λ k n. refl) h
event_from past t (events.Release f) events.Accepted world at step h = released_more past t f world step h
event_from past t (events.Collect q cid) (events.Collects f) world at step h = collected_more past t q cid f world (ticket_there t q cid at) step h
event_from past t (events.Reserve q request) (events.Reserved d) world at step h = others_from past t (events.Reserve q request) (events.Reserved d) world refl refl (λ k n. refl) (λ k n. refl) step h
event_from past t (events.Cancel d) events.Accepted world at step h = others_from past t (events.Cancel d) events.Accepted world refl refl (λ k n. refl) (λ k n. refl) step h
event_from past t e r world at step h = others_from past t e r world refl refl (λ k n. refl) (λ k n. refl) step h

pub makes_from : (past : List Made) (t : Table) (what : Step) (e : Event) (answer : Reply) (new : Table) → event_at t what ≡ Some e → (m : Makes t what e answer new) → AreFrom past t
    → AreFrom (past ++ made_at t.world e m.reply ∷ []) new
makes_from past t what e answer new at m h =
    let asks = asked_at t what e at in
    subst (AreFrom (past ++ made_at t.world e m.reply ∷ [])) (sym (subst (λ (w : Step). new ≡ record (kept t w m.reply) { world = new.world }) asks m.keeps))
    (event_from past t e m.reply new.world (subst (λ (w : Step). event_at t w ≡ Some e) asks at) m.step h)

-- A bench's steps forge an entry, and reset the controller, where the machine's steps that they are do.

-- One step

same_reset : (e : Event) → resets_by (asked e) ≡ resets e
same_reset e = grind arith

none_reset : (t : Table) (what : Step) → event_at t what ≡ None → resets_by what ≡ false
none_reset t what at = grind arith

-- a test of a bench's steps that goes by the machine's steps
record GoesBy (test : Done → Bool) (its : Made → Bool) : Type 0 where
  outside : (d : Done) → event_at d.before d.what ≡ None → test d ≡ false
  same : (d : Done) (e : Event) (r : events.Reply) → d.what ≡ asked e → d.answer ≡ told r → test d ≡ its (made_at d.before.world e r)

forgery : GoesBy is_forgery laws.is_forgery
forgery = record { outside = λ d at. none_forged d.before d.what d.answer at; same = λ d e r asks tells. ap₂ forges_by asks tells ∙ same_forgery e r }

reset : GoesBy is_reset laws.is_reset
reset = record { outside = λ d at. none_reset d.before d.what at; same = λ d e r asks tells. ap resets_by asks ∙ same_reset e }

-- Steps

same_any : (test : Done → Bool) (its : Made → Bool) → GoesBy test its → (done : List Done) → list_any test done ≡ list_any its (made_by done)
same_any test its by [] = refl
same_any test its by (d ∷ done) = by_kind (kind d) (same_any test its by done)
  where
    by_kind : StepKind d → list_any test done ≡ list_any its (made_by done) → (test d || list_any test done) ≡ list_any its (first_made d (made_by done))
    by_kind (OfMachine e at m same) rest = ap₂ (λ (x y : Bool). x || y) (by.same d e m.reply (asked_at d.before d.what e at) m.tells) rest ∙ sym (ap (list_any its) (same (made_by done)))
    by_kind (OfBench at own same) rest = ap (λ (x : Bool). x || list_any test done) (by.outside d at) ∙ rest ∙ sym (ap (list_any its) (same (made_by done)))

pub same_forgeries : (done : List Done) → list_any is_forgery done ≡ list_any laws.is_forgery (made_by done)
same_forgeries = same_any is_forgery laws.is_forgery forgery

same_resets : (done : List Done) → list_any is_reset done ≡ list_any laws.is_reset (made_by done)
same_resets = same_any is_reset laws.is_reset reset

-- Steps after the last reset

all_since : (made : List Made) → list_any laws.is_reset made ≡ false → histories.since_reset made ≡ made
all_since [] none = refl
all_since (m ∷ made) none = let both = or_parts (laws.is_reset m) (list_any laws.is_reset made) none in rw (both.1, both.0) refl

-- are those of the machine's steps after its last reset
pub same_since : (done : List Done) → made_by (since_reset done) ≡ histories.since_reset (made_by done)
same_since [] = refl
same_since (d ∷ done) = parts (list_any is_reset done) (is_reset d) ∙ by_kind (kind d) (same_since done)
  where
    parts : (b c : Bool) → made_by (if b then since_reset done else if c then done else (d ∷ done)) ≡ (if b then made_by (since_reset done) else if c then made_by done else first_made d (made_by done))
    parts b c = grind arith

    stays : (b c : Bool) → b ≡ list_any laws.is_reset (made_by done) → (if b then histories.since_reset (made_by done) else if c then made_by done else made_by done) ≡ histories.since_reset (made_by done)
    stays true c any = refl
    stays false true any = sym (all_since (made_by done) (sym any))
    stays false false any = sym (all_since (made_by done) (sym any))

    by_kind : StepKind d → made_by (since_reset done) ≡ histories.since_reset (made_by done)
        → (if list_any is_reset done then made_by (since_reset done) else if is_reset d then made_by done else first_made d (made_by done)) ≡ histories.since_reset (first_made d (made_by done))
    by_kind (OfMachine e at m same) rest =
        rw (same (made_by done), rest, same_resets done, reset.same d e m.reply (asked_at d.before d.what e at) m.tells) refl
    by_kind (OfBench at own same) rest = rw (same (made_by done), rest) (stays (list_any is_reset done) (is_reset d) (same_resets done))

-- The steps of a bench make a trusted run with the values that it keeps.

-- Tables between steps

pub have_tables : benches_have_tables
have_tables t end [] [] is = record { done = []; steps_are = refl; answers_are = refl; goes = is }
have_tables t end (what ∷ steps) (answer ∷ answers) is =
    let rest = have_tables is.0 end steps answers is.2 in
    record {
      done = record { before = t; what = what; answer = answer; after = is.0; does = is.1 } ∷ rest.done;
      steps_are = ap (λ (l : List Step). what ∷ l) rest.steps_are;
      answers_are = ap (λ (l : List Reply). answer ∷ l) rest.answers_are;
      goes = (refl, rest.goes);
    }
have_tables t end x y is = absurd is

-- Steps

steps_made : (t : Table) (done : List Done) (end : Table) → Goes t done end → Steps t.world (made_by done) end.world
steps_made t [] end is = ap (λ (x : Table). x.world) is
steps_made t (d ∷ done) end (at, rest) = grind (arith, steps_made d.after done end, steps_from)

-- what backs the kept values then
pub are_from : (past : List Made) (t : Table) (done : List Done) (end : Table) → AreFrom past t → Goes t done end → AreFrom (past ++ made_by done) end
are_from past t [] end from is = subst (λ (l : List Made). AreFrom l end) (sym (append-nil past)) (subst (AreFrom past) (sym is) from)
are_from past t (d ∷ done) end from (at, rest) = by_kind (kind d) (subst (AreFrom past) (sym at) from) (λ past from. are_from past d.after done end from rest)
  where
    by_kind : StepKind d → AreFrom past d.before → ((past : List Made) → AreFrom past d.after → AreFrom (past ++ made_by done) end) → AreFrom (past ++ first_made d (made_by done)) end
    by_kind (OfMachine e is m same) from rest =
        let made = made_at d.before.world e m.reply in
        subst (λ (l : List Made). AreFrom l end) (append_assoc past (made ∷ []) (made_by done) ∙ ap (λ (l : List Made). past ++ l) (sym (same (made_by done))))
        (rest (past ++ made ∷ []) (makes_from past d.before d.what e d.answer d.after is m from))
    by_kind (OfBench is own same) from rest =
        subst (λ (l : List Made). AreFrom (past ++ l) end) (sym (same (made_by done))) (rest past (own_from past d.before d.what d.answer d.after own from))

-- Runs since the opening

nothing_kept : {s : State} → AreFrom [] (table s)
nothing_kept = record { tickets = λ q cid there. there; finished = tt; stands = λ q cid there. absurd cc; few = λ q cid. tt }

pub makes_run : benches_make_runs_of_their_values
makes_run image done end b =
    record {
      pages = b.config.pages;
      queues = b.config.queues;
      entries = b.config.entries;
      segment = b.config.segment;
      opens = b.opens;
      is_image = b.is_image;
      steps = steps_made (table (opening_of b.config image)) done end b.goes;
      unforged = ap not (sym (same_forgeries done)) ∙ b.unforged;
    }

pub kept_from : (image : List ℕ) (done : List Done) (end : Table) → TrustedBench image done end → AreFrom (made_by done) end
kept_from image done end b = are_from [] (table (opening_of b.config image)) done end nothing_kept b.goes

-- Where the flag is set

pub unforged_where_trusted : benches_of_trusted_worlds_are_unforged
unforged_where_trusted config image done end goes trusted =
    ap not (same_forgeries (since_reset done) ∙ ap (list_any laws.is_forgery) (same_since done))
    ∙ ends_unforged (made_by done) (opening_of config image) end.world (steps_made (table (opening_of config image)) done end goes) trusted

-- What a bench's Writes change and its Compares tell.

pub writes_told : benches_write_their_blocks
writes_told image done end b = images_are_runs image (made_by done) end.world (makes_run image done end b)

completed_told : (r : events.Reply) (touched : List ℕ) → told r ≡ reply.Completed touched → r ≡ events.Completed touched
completed_told r touched e = grind arith

own_status : (s : State) (q cid : ℕ) (touched : List ℕ) → status_by s (events.Complete q cid) (events.Completed touched) q cid ≡ option_map (final_status s) (job_at s q cid)
own_status s q cid touched = rw (eq-eqb q q refl, eq-eqb cid cid refl) refl

-- the machine's step that a completion is
record IsCompletion (q cid : ℕ) (d : Done) : Type 0 where
  touched : List ℕ
  first : (made : List Made) → first_made d made ≡ made_at d.before.world (events.Complete q cid) (events.Completed touched) ∷ made

completion : (q cid : ℕ) (d : Done) (touched : List ℕ) → d.what ≡ step.Complete q cid → d.answer ≡ reply.Completed touched → IsCompletion q cid d
completion q cid d touched what answer = by_kind (kind d)
  where
    by_kind : StepKind d → IsCompletion q cid d
    by_kind (OfMachine e at m same) =
        let asks : e ≡ events.Complete q cid = inside (sym at ∙ (ap (event_at d.before) what)) in
        let tells : m.reply ≡ events.Completed touched = completed_told m.reply touched (sym m.tells ∙ answer) in
        record { touched = touched; first = λ made. same made ∙ ap₂ (λ (x : Event) (r : events.Reply). made_at d.before.world x r ∷ made) asks tells }
    by_kind (OfBench at own same) = absurd (let bad : None ≡ Some (events.Complete q cid) = sym at ∙ (ap (event_at d.before) what) in cc)

-- the image before a step of a run
image_then : (image : List ℕ) (before : List Made) (m : Made) (later : List Made) (end : State) → TrustedRun image (before ++ m ∷ later) end → m.before.controller.image ≡ image_after image before
image_then image before m later end run =
    let parts = cut before (m ∷ later) (opening run.pages run.queues run.entries run.segment image) end run.steps in
    ap (λ (s : State). s.controller.image) parts.2.0
    ∙ images_are_runs image before parts.0
    (record {
      pages = run.pages;
      queues = run.queues;
      entries = run.entries;
      segment = run.segment;
      opens = run.opens;
      is_image = run.is_image;
      steps = parts.1;
      unforged = ap not (unforged_front before (m ∷ later) (opening run.pages run.queues run.entries run.segment image) (unforged_run image (before ++ m ∷ later) end run)).none;
    })

pub compares_told_by_steps : benches_compare_their_blocks
compares_told_by_steps image earlier later d end status draft b c fine =
    let its = completion c.q c.cid d c.touched c.what c.answer in
    let m = made_at d.before.world (events.Complete c.q c.cid) (events.Completed its.touched) in
    let run = subst (λ (l : List Made). TrustedRun image l end.world) (made_by-append earlier (d ∷ later) ∙ ap (λ (l : List Made). made_by earlier ++ l) (its.first (made_by later))) (makes_run image (earlier ++ d ∷ later) end b) in
    subst (λ (bytes : List ℕ). status ≡ compared draft bytes)
    (image_then image (made_by earlier) m (made_by later) end.world run)
    (compares_told image (made_by earlier) (made_by later) m end.world c.q c.cid status draft run (own_status d.before.world c.q c.cid its.touched ∙ c.status_is) c.draft_is c.is_compare fine)

-- The bench's steps of a submission and of a collection; and a bench's steps, split where the machine's are.

-- A submission, and a collection

pub submitted_draft : (t : Table) (d : DraftContents) → event_at t (step.Submit d.q d.cid) ≡ Some (events.Submit d) → draft_of d.q d.cid t.drafts ≡ Some d
submitted_draft t d at = grind arith

pub submission_is : (e : Event) (r : events.Reply) (draft : DraftContents) → submitted_by e r ≡ draft ∷ [] → e ≡ events.Submit draft
submission_is e r draft is = grind arith

pub collection_is : (e : Event) (r : events.Reply) (f : FinishedContents) → collected_of e r ≡ Some f → r ≡ events.Collects f
collection_is e r f is = grind arith

-- Split

-- a step of the machine that is a step of a bench
pub record IsOf (d : Done) (m : Made) : Type 0 where
  pub event : event_at d.before d.what ≡ Some m.event
  pub tells : d.answer ≡ told m.reply

pub record SplitAt (done : List Done) (xs : List Made) (m : Made) (ys : List Made) : Type 0 where
  pub earlier : List Done
  pub at : Done
  pub later : List Done
  pub parts : done ≡ earlier ++ at ∷ later
  pub before : made_by earlier ≡ xs
  pub is_of : IsOf at m
  pub behind : made_by later ≡ ys

-- the first of two lists' equal members
heads : {x y : Made} {xs ys : List Made} → x ∷ xs ≡ y ∷ ys → (x ≡ y) × (xs ≡ ys)
heads e = (cc, cc)

pub split_made : (done : List Done) (xs : List Made) (m : Made) (ys : List Made) → made_by done ≡ xs ++ m ∷ ys → SplitAt done xs m ys
split_made [] [] m ys h = absurd cc
split_made [] (x ∷ xs) m ys h = absurd cc
split_made (d ∷ done) xs m ys h = by_kind (kind d) xs h (λ zs k. split_made done zs m ys k)
  where
    by_kind : StepKind d → (xs : List Made) → first_made d (made_by done) ≡ xs ++ m ∷ ys → ((xs : List Made) → made_by done ≡ xs ++ m ∷ ys → SplitAt done xs m ys) → SplitAt (d ∷ done) xs m ys
    by_kind (OfBench at own same) xs h rest =
        let r = rest xs (sym (same (made_by done)) ∙ h) in
        record {
          earlier = d ∷ r.earlier;
          at = r.at;
          later = r.later;
          parts = ap (λ (l : List Done). d ∷ l) r.parts;
          before = same (made_by r.earlier) ∙ r.before;
          is_of = r.is_of;
          behind = r.behind;
        }
    by_kind (OfMachine e at makes same) [] h rest =
        let both = heads (sym (same (made_by done)) ∙ h) in
        record { earlier = []; at = d; later = done; parts = refl; before = refl; is_of = subst (IsOf d) both.0 (record { event = at; tells = makes.tells }); behind = both.1 }
    by_kind (OfMachine e at makes same) (x ∷ xs) h rest =
        let both = heads (sym (same (made_by done)) ∙ h) in
        let r = rest xs both.1 in
        record {
          earlier = d ∷ r.earlier;
          at = r.at;
          later = r.later;
          parts = ap (λ (l : List Done). d ∷ l) r.parts;
          before = same (made_by r.earlier) ∙ ap₂ (λ (y : Made) (l : List Made). y ∷ l) both.0 r.before;
          is_of = r.is_of;
          behind = r.behind;
        }

-- What a bench gathers is of a command that it submitted and collected; so the laws of collected commands tell of the bytes.

-- The command that a bench keeps

abbrev command_of : (image : List ℕ) (end : Table) (f : FinishedContents) (made : List Made) (w : WasCollected made f) → TrustedRun image made end.world → CollectedCommand
command_of image end f made w run =
    record {
      image = image;
      before = w.before;
      submitted = w.submitted;
      between = w.between;
      collected = w.collected;
      later = w.later;
      end = end.world;
      draft = w.draft;
      finished = f;
      run = subst (λ (made : List Made). TrustedRun image made end.world) w.parts run;
      is_submission = w.is_submission;
      is_collection = w.is_collection;
      queue = w.queue;
      identifier = w.identifier;
      alone = ap not w.alone;
    }

-- its two steps
steps_of : (image : List ℕ) (done : List Done) (end : Table) (q cid : ℕ) (f : FinishedContents) (made : List Made) (w : WasCollected made f) (run : TrustedRun image made end.world)
    → made_by done ≡ made → f.q ≡ q → f.cid ≡ cid → IsOfSteps done q cid (command_of image end f made w run)
steps_of image done end q cid f made w run values queue identifier =
    let last = split_made done (w.before ++ w.submitted ∷ w.between) w.collected w.later (values ∙ w.parts) in
    let first = split_made last.earlier w.before w.submitted w.between last.before in
    let submits = first.is_of.event ∙ ap Some (submission_is w.submitted.event w.submitted.reply w.draft w.is_submission) in
    record {
      earlier = first.earlier;
      submission = first.at;
      between = first.later;
      collection = last.at;
      later = last.later;
      parts = last.parts ∙ ap (λ (l : List Done). l ++ last.at ∷ last.later) first.parts;
      submits = asked_at first.at.before first.at.what (events.Submit w.draft) submits ∙ ap (λ (k : ℕ). step.Submit k w.draft.cid) (w.queue ∙ queue) ∙ ap (step.Submit q) (w.identifier ∙ identifier);
      draft =
          ap (λ (k : ℕ). draft_of k cid first.at.before.drafts) (sym (w.queue ∙ queue)) ∙ ap (λ (k : ℕ). draft_of w.draft.q k first.at.before.drafts) (sym (w.identifier ∙ identifier))
          ∙ submitted_draft first.at.before w.draft (subst (λ (what : Step). event_at first.at.before what ≡ Some (events.Submit w.draft)) (asked_at first.at.before first.at.what (events.Submit w.draft) submits) submits);
      collects = asked_at last.at.before last.at.what (events.Collect f.q f.cid) (last.is_of.event ∙ ap Some w.event) ∙ ap (λ (k : ℕ). step.Collect k f.cid) queue ∙ ap (step.Collect q) identifier;
      answers = last.is_of.tells ∙ ap told (collection_is w.collected.event w.collected.reply f w.is_collection);
      made_before = first.before;
      made_between = first.behind;
      made_later = last.behind;
    }

keeps_command : (image : List ℕ) (done : List Done) (end : Table) (q cid : ℕ) (f : FinishedContents) → TrustedBench image done end → finished_at q cid end.finished ≡ Some f
    → (k : KeepsCommand image done end q cid) × (k.command.finished ≡ f)
keeps_command image done end q cid f b kept =
    let w = all-found (WasCollected (made_by done)) (is_finished q cid) end.finished f kept (kept_from image done end b).finished in
    let named = and_parts (f.q == q) (f.cid == cid) (found_is (is_finished q cid) end.finished f kept) in
    let steps = steps_of image done end q cid f (made_by done) w (makes_run image done end b) refl (eqb-true f.q q named.0) (eqb-true f.cid cid named.1) in (
      record {
        command = command_of image end f (made_by done) w (makes_run image done end b);
        image_is = refl;
        end_is = refl;
        queue = eqb-true f.q q named.0;
        identifier = eqb-true f.cid cid named.1;
        kept = kept;
        last = ap not (ap (λ (k : ℕ). list_any (collects k cid) w.later) (sym (eqb-true f.q q named.0)) ∙ ap (λ (n : ℕ). list_any (collects f.q n) w.later) (sym (eqb-true f.cid cid named.1)) ∙ w.once);
        steps = steps;
      },
      refl,
    )

pub gathers_command : gathered_bytes_are_of_collected_commands
gathers_command image done end new q cid bytes b does = by_finished (finished_at q cid end.finished) refl does
  where
    by_finished : (o : Option FinishedContents) → finished_at q cid end.finished ≡ o → Gathers end o (reply.Gathered bytes) new → GathersCommand image done end q cid bytes
    by_finished None e is = absurd (cc (is.0))
    by_finished (Some f) e is =
        let k = keeps_command image done end q cid f b e in
        record { keeps = k.0; gathers = is.0 ∙ ap gathered_from (sym k.1) }

-- What a Read gathers

gathered_read : (f : FinishedContents) → is_read f ≡ true → gathered_from f ≡ gathered f.request.pieces f.data_pages
gathered_read f reads = grind (arith, kind)

-- a command's fetch
abbrev fetch_of : (c : CollectedCommand) → was_fetched c ≡ true → FetchedCommand
fetch_of c h =
    let l : HasLast (fetches c.finished.q c.finished.cid) c.between = split_last (fetches c.finished.q c.finished.cid) c.between h in
    record { command = c; before_fetch = l.before; fetched = l.last; after_fetch = l.later; split = l.parts; is_fetch = l.passes }

reads_of : (c : CollectedCommand) (bytes : List ℕ) → is_read c.finished ≡ true → bytes ≡ bytes_collected c → GathersRead c bytes
reads_of c bytes reads is =
    record {
      successful = λ well. (let f = fetch_of c (successes_fetched c well) in record { fetch = f; is_of = refl; reads = is ∙ blocks_given f reads well });
      fetched = λ h. (let f = fetch_of c h in let p = prefix_given f reads in record { fetch = f; is_of = refl; count = p.0; reads = is ∙ p.1 });
      unfetched = λ none. is ∙ bytes_kept c none;
    }

pub reads_have_blocks : gathered_reads_have_their_blocks
reads_have_blocks image done end q cid bytes g reads = reads_of g.keeps.command bytes reads (g.gathers ∙ gathered_read g.keeps.command.finished reads)
