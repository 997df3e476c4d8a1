-- What is collected by the number of a submission is of that very submission.
use Rattle.std.proofs.Common.{◌≡◌, ◌∙◌, ℕ, ◌+◌, suc, Bool, true, false, not, IsTrue, List, [], ◌∷◌, ◌++◌, Option, Some, None, refl, ap, sym, subst, append_assoc, add-one, true≢false, ◌||◌}
use Rattle.std.proofs.lemmas.{List.append-nil, Option.none-some}
use Rattle.std.specs.{List.list_any, Prelude.slice_get}
use Rattle.io_commands.specs.{Drafts.DraftContents, Values.FinishedContents}
use Rattle.machine_model.specs.{Events.{Event, Reply}, Image.{Made, draft_of, is_draft, submitted_by}, State.State, Trusted.{Steps, drafts_of}}
use Rattle.machine_model.specs.Events as events
use Rattle.machine_model.specs.Trusted as laws
use Rattle.host_core.{proofs.Outstanding.collected_named}
use Rattle.step_core.specs.Opening.{opening_of}
use Rattle.driver_book.{proofs.Runs.{forged_by, leads_of, made_by, steps_by}, specs.{Entries.Entry, History.{after_first, LeadsBy, last_place}, Laws.is_forgery}}
use Rattle.run_laws.{proofs.DataLaws.{drafts_append, latest, were_submitted}, specs.{JobTies.{collected_commands_are_of_their_submissions}}}

-- The drafts of a log, the latest first

abbrev newest_first : List DraftContents → List DraftContents
newest_first [] = []
newest_first (d ∷ drafts) = newest_first drafts ++ d ∷ []

newest_behind : (e : Event) (r : Reply) (later : List DraftContents) → newest_first (submitted_by e r ++ later) ≡ newest_first later ++ submitted_by e r
newest_behind (events.Submit d) events.Accepted later = refl
newest_behind e r later = sym (append-nil (newest_first later))

drafts_of_log : (old new : State) (log : List Entry) (drafts : List DraftContents) (by : LeadsBy old log drafts new) → drafts_of (made_by old new log (leads_of old new log drafts by)) ≡ newest_first drafts
drafts_of_log old new [] drafts by = ap newest_first (sym by.1)
drafts_of_log old new (e ∷ log) drafts (next, made, later, are, rest) =
    ap (λ (ds : List DraftContents). ds ++ submitted_by made.event made.answer) (drafts_of_log next new log later rest) ∙ sym (newest_behind made.event made.answer later) ∙ ap newest_first (sym are)

-- The last one of a queue and identifier

nothing_after : (o : Option ℕ) (b : Bool) → after_first o b ≡ None → (o ≡ None) × (b ≡ false)
nothing_after (Some n) b none = absurd (none-some (n + 1) (sym none))
nothing_after None true none = absurd (none-some 0 (sym none))
nothing_after None false none = (refl, refl)

none_placed : (q cid : ℕ) (drafts rest : List DraftContents) → last_place q cid drafts ≡ None → draft_of q cid (newest_first drafts ++ rest) ≡ draft_of q cid rest
none_placed q cid [] rest none = refl
none_placed q cid (d ∷ drafts) rest none =
    let both = nothing_after (last_place q cid drafts) (is_draft q cid d) none in
    ap (λ (ds : List DraftContents). draft_of q cid ds) (append_assoc (newest_first drafts) (d ∷ []) rest) ∙ none_placed q cid drafts (d ∷ rest) both.0 ∙ rw both.1 refl

pub placed : (q cid n : ℕ) (drafts rest : List DraftContents) (d : DraftContents) → last_place q cid drafts ≡ Some n → slice_get drafts n ≡ Some d → draft_of q cid (newest_first drafts ++ rest) ≡ Some d
placed q cid n [] rest d last found = absurd (none-some n last)
placed q cid n (x ∷ drafts) rest d last found =
    ap (λ (ds : List DraftContents). draft_of q cid ds) (append_assoc (newest_first drafts) (x ∷ []) rest)
    ∙ by_place (last_place q cid drafts) refl (λ m is at. placed q cid m drafts (x ∷ rest) d is at) (is_draft q cid x) refl last
  where
    by_place : (o : Option ℕ) → last_place q cid drafts ≡ o → ((m : ℕ) → last_place q cid drafts ≡ Some m → slice_get drafts m ≡ Some d → draft_of q cid (newest_first drafts ++ x ∷ rest) ≡ Some d)
        → (b : Bool) → is_draft q cid x ≡ b → after_first o b ≡ Some n → draft_of q cid (newest_first drafts ++ x ∷ rest) ≡ Some d
    by_place (Some m) is further b here at =
        let next : n ≡ suc m = cc (at, add-one m) in
        further m is (subst (λ (k : ℕ). slice_get (x ∷ drafts) k ≡ Some d) next found)
    by_place None is further true here at =
        let first : n ≡ 0 = cc at in
        none_placed q cid drafts (x ∷ rest) is ∙ rw here (subst (λ (k : ℕ). slice_get (x ∷ drafts) k ≡ Some d) first found)
    by_place None is further false here at = absurd (none-some n at)

-- Runs, one after the other

steps_on : (a b c : State) (xs ys : List Made) → Steps a xs b → Steps b ys c → Steps a (xs ++ ys) c
steps_on a b c [] ys same steps = subst (λ (s : State). Steps s ys c) same steps
steps_on a b c (m ∷ xs) ys (at, mid, step, rest) steps = (at, mid, step, steps_on mid b c xs ys rest steps)

none_of_both : (xs ys : List Made) → list_any laws.is_forgery xs ≡ false → list_any laws.is_forgery ys ≡ false → list_any laws.is_forgery (xs ++ ys) ≡ false
none_of_both [] ys one two = two
none_of_both (x ∷ xs) ys one two = by_forgery (laws.is_forgery x) (λ o. none_of_both xs ys o two) one
  where
    by_forgery : (b : Bool) → (list_any laws.is_forgery xs ≡ false → list_any laws.is_forgery (xs ++ ys) ≡ false) → (b || list_any laws.is_forgery xs) ≡ false → (b || list_any laws.is_forgery (xs ++ ys)) ≡ false
    by_forgery true rest o = absurd (true≢false o)
    by_forgery false rest o = rest o

unforged : (b : Bool) → IsTrue (not b) → b ≡ false
unforged true h = absurd (true≢false (sym h))
unforged false h = refl

pub of_their_submissions : collected_commands_are_of_their_submissions
of_their_submissions config image earlier log drafts mid world new q cid number draft f opens is_image comes by none_earlier none_here numbered last step =
    let first = made_by (opening_of config image) mid earlier comes in
    let then = made_by mid world log (leads_of mid world log drafts by) in
    let m : Made = record { before = world; event = events.Collect q cid; reply = events.Collects f } in
    let steps : Steps (opening_of config image) (first ++ then) world = steps_on (opening_of config image) mid world first then (steps_by (opening_of config image) mid earlier comes) (steps_by mid world log (leads_of mid world log drafts by)) in
    let all : Steps (opening_of config image) ((first ++ then) ++ m ∷ []) new = steps_on (opening_of config image) world new (first ++ then) (m ∷ []) steps (refl, new, step, refl) in
    let clean : list_any laws.is_forgery ((first ++ then) ++ m ∷ []) ≡ false =
    none_of_both (first ++ then) (m ∷ [])
    (none_of_both first then
    (sym (forged_by (opening_of config image) mid earlier comes) ∙ unforged (list_any is_forgery earlier) none_earlier)
    (sym (forged_by mid world log (leads_of mid world log drafts by)) ∙ unforged (list_any is_forgery log) none_here))
    refl in
    let c = were_submitted image (first ++ then) [] m new f (record {
      pages = config.pages;
      queues = config.queues;
      entries = config.entries;
      segment = config.segment;
      opens = opens;
      is_image = is_image;
      steps = all;
      unforged = rw clean refl;
    }) refl in
    let names = collected_named world new q cid f step in
    let newest : drafts_of (first ++ then) ≡ newest_first drafts ++ drafts_of first =
    drafts_append first then ∙ ap (λ (ds : List DraftContents). ds ++ drafts_of first) (drafts_of_log mid world log drafts by) in
    let found : draft_of q cid (drafts_of (first ++ then)) ≡ Some draft = ap (λ (ds : List DraftContents). draft_of q cid ds) newest ∙ placed q cid number drafts (drafts_of first) draft last numbered in
    let told : draft_of c.command.finished.q c.command.finished.cid (drafts_of (first ++ then)) ≡ Some c.command.draft =
    subst (λ (made : List Made). draft_of c.command.finished.q c.command.finished.cid (drafts_of made) ≡ Some c.command.draft) c.steps_before (latest c.command) in
    let at : draft_of q cid (drafts_of (first ++ then)) ≡ Some c.command.draft = rw (ap (λ (x : FinishedContents). x.q) c.its_contents ∙ names.0, ap (λ (x : FinishedContents). x.cid) c.its_contents ∙ names.1) at told in
    record {
      command = c.command;
      its_image = c.its_image;
      its_draft = cc (at, found);
      its_contents = c.its_contents;
    }
