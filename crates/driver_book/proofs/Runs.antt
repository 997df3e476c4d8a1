-- A log that grows by a step, and the run that it tells of.
use Rattle.machine_model.specs.Events as events
use Rattle.machine_model.specs.Trusted as laws
use Rattle.two_sides.specs.Histories as histories
use Rattle.step_core.specs.declared.step.Step.TheVariants as step
use Rattle.machine_model.specs.Step as machine
use Rattle.machine_model.specs.declared.words.Refusal.TheVariants as refusal
use Rattle.std.proofs.Common.{◌≡◌, ℕ, Bool, true, false, true≢false, not, IsTrue, None, List, [], ◌∷◌, ◌++◌, map, if◌then◌else◌, refl, sym, ap, ◌∙◌, subst, ◌+◌, ◌≤◌, length, drop, Option, Some, slice_get, zero, suc, ◌<◌, arith, length-append, append_assoc, ◌⊎◌, inr, ◌||◌, cond, Result, Ok, Err, is_ok, OnOk, IfOk, IfErr}
use Rattle.std.proofs.lemmas.{List.{take-append-le, map-append, take_all, drop_at, append-nil, Sums.sum_by_push}}
use Rattle.std.{proofs.lemmas.Slice.between_is, specs.{Bool.OnTrue, List.list_any, Option.option_map, Prelude.{is_some, MatchBool}}}
use Rattle.machine_model.{proofs.Headline.steps_keep, specs.{Claims.IsSound, Events.Event, Image.{Made, submitted_by}, Refusals.refusal_of, State.State}}
use Rattle.machine_model.specs.{Trusted.{Steps, TrustedRun}, declared.words.Refusal.Refusal}
use Rattle.two_sides.proofs.{Agreed.{opens_in_order, order_kept, agreed_stays}, Along.trusted_end, PoolBytes.ends_unforged as trusted_unforged}
use Rattle.two_sides.specs.InOrder.{IsInOrder}
use Rattle.step_core.{proofs.Order.same_forgery, specs.{Going.forges_by, Opening.opening_of, Replies.{accept_reply, reserve_reply}, Touching.StaysAllowed}}
use Rattle.step_core.specs.Values.{Step, Reply as Answer, Reply}
use Rattle.driver_book.specs.Calls.{noted, entries, Does, WantsMemoryFor, MayWorldWant, most_of, most_pages}
use Rattle.driver_book.specs.Entries.{Entry, LoggedDraft, answered, Room, LogContents, Takes, Lacks}
use Rattle.driver_book.specs.History.{asked, told, draft_of, with_draft, TellsOf, LeadsBy, LeadsTo, entry_of, is_submission, is_accepted, accepted}
use Rattle.driver_book.specs.Keeping.{KeptRequest, KeptStep, KeptDraft, Kept, part_of, request_of, shown_request, shown_step, shown_draft, shown, draft_at, bare_step, HasNoRequest, FitsIn, StepFits, DraftFits, PlaceFits, EntryFits, AllFit, AllDraftsFit, Stands, most_places}
use Rattle.driver_book.specs.Laws.{IsEntryOf, is_forgery, entries_name_allowed_pages, logs_are_trusted_runs, logs_of_jobs_are_trusted_runs, pieces_are_one_history, resets, is_reset, since_reset, trusted_ends_are_unforged}
use Rattle.driver_book.specs.{State.{is_of_jobs, AreOfJobs, BookContents, IsBook, is_seated, AreSeated}, declared.entry.Span.Span}
use Rattle.host_core.specs.{Opening.refusal_of_config, declared.{config.Config.Config, refused.Refused.Refused}}
use Rattle.block_image.specs.Blocks.{IsImage}
use Rattle.io_commands.{proofs.Building.joined_parts_few, specs.{Asked.Request, Drafts.DraftContents, Requests.{data_count, joined_parts}}}
use Rattle.io_commands.specs.{Values.{TicketContents, numbers_of}, declared.request.Piece.Piece}
use Rattle.sgl_chain.proofs.Spelled.{needed_few}
use Rattle.page_memory.proofs.Lists.{all-at}

-- Logs, and the runs that they tell of.

-- the draft of a single step
first_taken : (e : Event) (r : events.Reply) → with_draft [] e r ≡ submitted_by e r ++ []
first_taken (events.Submit d) events.Accepted = refl
first_taken e r = refl

-- what comes after others, and what is before them
taken_first : (first later : List DraftContents) (e : Event) (r : events.Reply) → with_draft (first ++ later) e r ≡ first ++ with_draft later e r
taken_first first later (events.Submit d) events.Accepted = append_assoc first later (d ∷ [])
taken_first first later e r = refl

-- a step that is not an accepted submission has no draft
no_draft : (drafts : List DraftContents) (e : Event) (r : events.Reply) → is_submission (asked e) (told r) ≡ false → with_draft drafts e r ≡ drafts
no_draft drafts (events.Submit d) events.Accepted other = absurd (true≢false other)
no_draft drafts e r other = refl

-- one more step
pub leads_further : (old mid new : State) (log : List Entry) (e : Entry) → LeadsTo old log mid → TellsOf mid e new → LeadsTo old (log ++ e ∷ []) new
leads_further old mid new [] e same tells = (new, subst (λ (s : State). TellsOf s e new) same tells, refl)
leads_further old mid new (first ∷ log) e (next, made, rest) tells = (next, made, leads_further next mid new log e rest tells)

-- so with its drafts
leads_by_further : (old mid new : State) (log : List Entry) (drafts : List DraftContents) (e : Entry) → LeadsBy old log drafts mid → (tells : TellsOf mid e new)
    → LeadsBy old (log ++ e ∷ []) (with_draft drafts tells.event tells.answer) new
leads_by_further old mid new [] drafts e (same, none) tells = rw none (one_entry_leads same tells)
  where
    one_entry_leads : mid ≡ old → (t : TellsOf mid e new) → LeadsBy old (e ∷ []) (with_draft [] t.event t.answer) new
    one_entry_leads is t = subst (λ (s : State). LeadsBy s (e ∷ []) (with_draft [] t.event t.answer) new) is (new, t, [], first_taken t.event t.answer, (refl, refl))
leads_by_further old mid new (first ∷ log) drafts e (next, made, later, are, rest) tells =
    (next, made, with_draft later tells.event tells.answer, ap (λ (ds : List DraftContents). with_draft ds tells.event tells.answer) are ∙ taken_first (submitted_by made.event made.answer) later tells.event tells.answer, leads_by_further next mid new log later e rest tells)

-- and without them
abbrev pub leads_of : (old new : State) (log : List Entry) (drafts : List DraftContents) → LeadsBy old log drafts new → LeadsTo old log new
leads_of old new [] drafts by = by.0
leads_of old new (e ∷ log) drafts (next, made, later, are, rest) = (next, made, leads_of next new log later rest)

-- one log after the other
pub leads_on : pieces_are_one_history
leads_on old [] mid after new same leads = subst (λ (s : State). LeadsTo s after new) same leads
leads_on old (e ∷ before) mid after new (next, made, rest) leads = (next, made, leads_on next before mid after new rest leads)

-- where a log is cut, there is a state
leads_apart : (old new : State) (before after : List Entry) → LeadsTo old (before ++ after) new → (mid : State) × LeadsTo old before mid × LeadsTo mid after new
leads_apart old new [] after leads = (old, refl, leads)
leads_apart old new (e ∷ before) after (next, made, rest) =
    let (mid, comes, goes) = leads_apart next new before after rest in (mid, (next, made, comes), goes)

order_along : (old new : State) (log : List Entry) → LeadsTo old log new → IsInOrder old → IsInOrder new
order_along old new [] same order = subst IsInOrder (sym same) order
order_along old new (e ∷ log) (next, made, rest) order = order_along next new log rest (order_kept old made.event made.answer next order made.step)

pub entries_stay : entries_name_allowed_pages
entries_stay config image before e after world opens is_image leads = is_entry (leads_apart (opening_of config image) world before (e ∷ after) leads)
  where
    is_entry : (mid : State) × LeadsTo (opening_of config image) before mid × LeadsTo mid (e ∷ after) world → IsEntryOf (opening_of config image) before e after world
    is_entry (old, comes, (new, tells, goes)) =
        let order : IsInOrder old = order_along (opening_of config image) old before comes (opens_in_order config.pages config.queues config.entries config.segment image opens is_image) in
        record {
          old = old;
          new = new;
          comes = comes;
          tells = tells;
          goes = goes;
          stays = λ trusted. agreed_stays old new tells.event tells.answer (order.agree trusted) trusted tells.step;
        }

-- the steps of a log as they were made
abbrev pub made_by : (old new : State) (log : List Entry) → LeadsTo old log new → List Made
made_by old new [] same = []
made_by old new (e ∷ log) (next, tells, rest) = record { before = old; event = tells.event; reply = tells.answer } ∷ made_by next new log rest

pub steps_by : (old new : State) (log : List Entry) (leads : LeadsTo old log new) → Steps old (made_by old new log leads) new
steps_by old new [] same = same
steps_by old new (e ∷ log) (next, tells, rest) = (refl, next, tells.step, steps_by next new log rest)

asked_by : (old new : State) (log : List Entry) (leads : LeadsTo old log new) → map (λ e. e.step) log ≡ map (λ m. asked m.event) (made_by old new log leads)
asked_by old new [] same = refl
asked_by old new (e ∷ log) (next, tells, rest) = rw (tells.asks, asked_by next new log rest) refl

told_by : (old new : State) (log : List Entry) (leads : LeadsTo old log new) → map (λ e. e.answer) log ≡ map (λ m. told m.reply) (made_by old new log leads)
told_by old new [] same = refl
told_by old new (e ∷ log) (next, tells, rest) = rw (tells.tells, told_by next new log rest) refl

drafts_by : (old new : State) (log : List Entry) (leads : LeadsTo old log new) → map (λ e. e.draft) log ≡ map (λ m. draft_of m.event m.reply) (made_by old new log leads)
drafts_by old new [] same = refl
drafts_by old new (e ∷ log) (next, tells, rest) = rw (tells.drafts, drafts_by next new log rest) refl

-- an entry is an accepted forgery where the step that it tells of is one
pub forged_by : (old new : State) (log : List Entry) (leads : LeadsTo old log new) → list_any is_forgery log ≡ list_any laws.is_forgery (made_by old new log leads)
forged_by old new [] same = refl
forged_by old new (e ∷ log) (next, tells, rest) = rw (tells.asks, tells.tells, same_forgery tells.event tells.answer, forged_by next new log rest) refl

trusted_run : (config : Config) (image : List ℕ) (log : List Entry) (world : State) → refusal_of_config config ≡ None → IsImage image
    → (leads : LeadsTo (opening_of config image) log world) → IsTrue (not (list_any is_forgery log)) → TrustedRun image (made_by (opening_of config image) world log leads) world
trusted_run config image log world opens is_image leads unforged =
    record {
      pages = config.pages;
      queues = config.queues;
      entries = config.entries;
      segment = config.segment;
      opens = opens;
      is_image = is_image;
      steps = steps_by (opening_of config image) world log leads;
      unforged = subst (λ (b : Bool). IsTrue (not b)) (forged_by (opening_of config image) world log leads) unforged;
    }

pub logs_are_runs : logs_are_trusted_runs
logs_are_runs config image log world opens is_image leads unforged =
    let run = trusted_run config image log world opens is_image leads unforged in
    record {
      made = made_by (opening_of config image) world log leads;
      happened = asked_by (opening_of config image) world log leads;
      answered = told_by (opening_of config image) world log leads;
      drafts = drafts_by (opening_of config image) world log leads;
      run = run;
      trusted = trusted_end image (made_by (opening_of config image) world log leads) world run;
    }

-- no step of a job is a forgery
job_forges_nothing : (what : Step) (answer : Answer) → is_of_jobs what ≡ true → forges_by what answer ≡ false
job_forges_nothing (step.Forge q slot bytes) answer is = absurd (true≢false (sym is))
job_forges_nothing what answer is = refl

jobs_forge_nothing : (log : List Entry) → AreOfJobs log → list_any is_forgery log ≡ false
jobs_forge_nothing [] are = refl
jobs_forge_nothing (e ∷ log) are = rw (job_forges_nothing e.step e.answer are.0, jobs_forge_nothing log are.1) refl

pub logs_of_jobs_are_runs : logs_of_jobs_are_trusted_runs
logs_of_jobs_are_runs config image log world opens is_image leads are =
    logs_are_runs config image log world opens is_image leads (rw (jobs_forge_nothing log are) refl)

-- what a log since its last reset has is what its run has

same_reset : (e : Event) → resets (asked e) ≡ machine.resets e
same_reset events.Reset = refl
same_reset e = refl

reset_by : (old new : State) (log : List Entry) (leads : LeadsTo old log new) → list_any is_reset log ≡ list_any laws.is_reset (made_by old new log leads)
reset_by old new [] same = refl
reset_by old new (e ∷ log) (next, tells, rest) = rw (tells.asks, same_reset tells.event, reset_by next new log rest) refl

forged_since : (old new : State) (log : List Entry) (leads : LeadsTo old log new)
    → list_any is_forgery (since_reset log) ≡ list_any laws.is_forgery (histories.since_reset (made_by old new log leads))
forged_since old new [] same = refl
forged_since old new (e ∷ log) (next, tells, rest) =
    let made = made_by next new log rest in
    let later : list_any is_reset log ≡ list_any laws.is_reset made = reset_by next new log rest in
    let reset : resets e.step ≡ machine.resets tells.event = ap resets tells.asks ∙ same_reset tells.event in
    let forged : forges_by e.step e.answer ≡ laws.forges_by tells.event tells.answer = rw (tells.asks, tells.tells) (same_forgery tells.event tells.answer) in
    rw (later, reset) (by_resets (list_any laws.is_reset made) (machine.resets tells.event) forged (forged_by next new log rest) (forged_since next new log rest))
  where
    by_resets : (b c : Bool) → forges_by e.step e.answer ≡ laws.forges_by tells.event tells.answer → list_any is_forgery log ≡ list_any laws.is_forgery (made_by next new log rest)
        → list_any is_forgery (since_reset log) ≡ list_any laws.is_forgery (histories.since_reset (made_by next new log rest))
        → list_any is_forgery (if b then since_reset log else if c then log else e ∷ log)
        ≡ list_any laws.is_forgery (if b then histories.since_reset (made_by next new log rest) else if c then made_by next new log rest else record { before = old; event = tells.event; reply = tells.answer } ∷ made_by next new log rest)
    by_resets true c here all since = since
    by_resets false true here all since = all
    by_resets false false here all since = rw (here, all) refl

pub trusted_logs : trusted_ends_are_unforged
trusted_logs old log world leads trusted =
    rw (forged_since old world log leads) (trusted_unforged (made_by old world log leads) old world (steps_by old world log leads) trusted)

-- What is kept stands for the same where the lists get longer, and so a log grows by an entry.

-- Parts of a list

pub part_longer : {X : Type 0} (xs ys : List X) (s : Span) → FitsIn (length xs) s → part_of (xs ++ ys) s ≡ part_of xs s
part_longer {X} xs ys s fits =
    between_is (xs ++ ys) s.start s.end ∙ ap (λ (zs : List X). drop s.start zs) (take-append-le s.end xs ys fits.1) ∙ sym (between_is xs s.start s.end)

pub part_behind : {X : Type 0} (xs ys : List X) (s : Span) → s.start ≡ length xs → s.end ≡ length xs + length ys → part_of (xs ++ ys) s ≡ ys
part_behind {X} xs ys s start end =
    between_is (xs ++ ys) s.start s.end ∙ ap (λ (zs : List X). drop s.start zs) (take_all s.end (xs ++ ys) (omega (arith, end, length-append xs ys))) ∙ drop_at xs ys s.start (sym start)

fits_more : (n m : ℕ) (s : Span) → FitsIn n s → n ≤ m → FitsIn m s
fits_more n m s fits more = (fits.0, omega (arith, fits.1, more))

-- Steps, drafts and entries

request_longer : (xs ys : List Piece) (r : KeptRequest) → FitsIn (length xs) r.pieces → shown_request (xs ++ ys) r ≡ shown_request xs r
request_longer xs ys r fits = rw (part_longer xs ys r.pieces fits) refl

draft_longer : (xs ys : List Piece) (ps qs : List ℕ) (d : KeptDraft) → DraftFits (length xs) (length ps) d → shown_draft (xs ++ ys) (ps ++ qs) d ≡ shown_draft xs ps d
draft_longer xs ys ps qs d fits =
    rw (request_longer xs ys d.request fits.0, part_longer ps qs d.data_pages fits.1, part_longer ps qs d.chain_pages fits.2) refl

-- what is at an index of a list is there in a longer one
place_longer : (ds es : List KeptDraft) (place : ℕ) → place < length ds → slice_get (ds ++ es) place ≡ slice_get ds place
place_longer [] es place less = absurd (omega arith)
place_longer (d ∷ ds) es zero less = refl
place_longer (d ∷ ds) es (suc place) less = place_longer ds es place (omega (arith, less))

-- and the one after it
pub place_behind : (ds : List KeptDraft) (d : KeptDraft) (place : ℕ) → place ≡ length ds → slice_get (ds ++ d ∷ []) place ≡ Some d
place_behind ds d place is = ap (λ (i : ℕ). slice_get (ds ++ d ∷ []) i) is ∙ stands_at_end ds
  where
    stands_at_end : (xs : List KeptDraft) → slice_get (xs ++ d ∷ []) (length xs) ≡ Some d
    stands_at_end [] = refl
    stands_at_end (x ∷ xs) = stands_at_end xs

-- the draft at an index fits
pub fits_at : (n p : ℕ) (ds : List KeptDraft) (place : ℕ) (d : KeptDraft) → AllDraftsFit n p ds → slice_get ds place ≡ Some d → DraftFits n p d
fits_at n p ds place d fit at = all-at (DraftFits n p) ds place d at fit

request_at_longer : (xs ys : List Piece) (ps : List ℕ) (ds es : List KeptDraft) (place : ℕ) → AllDraftsFit (length xs) (length ps) ds → place < length ds
    → request_of (xs ++ ys) (slice_get (ds ++ es) place) ≡ request_of xs (slice_get ds place)
request_at_longer xs ys ps ds es place fit less = ap (request_of (xs ++ ys)) (place_longer ds es place less) ∙ by_draft (slice_get ds place) refl
  where
    by_draft : (o : Option KeptDraft) → slice_get ds place ≡ o → request_of (xs ++ ys) o ≡ request_of xs o
    by_draft None at = refl
    by_draft (Some d) at = request_longer xs ys d.request (fits_at (length xs) (length ps) ds place d fit at).0

draft_at_longer : (xs ys : List Piece) (ps qs : List ℕ) (ds es : List KeptDraft) (at : Option ℕ) → AllDraftsFit (length xs) (length ps) ds → PlaceFits (length ds) at
    → option_map (shown_draft (xs ++ ys) (ps ++ qs)) (draft_at (ds ++ es) at) ≡ option_map (shown_draft xs ps) (draft_at ds at)
draft_at_longer xs ys ps qs ds es None fit less = refl
draft_at_longer xs ys ps qs ds es (Some place) fit less = ap (option_map (shown_draft (xs ++ ys) (ps ++ qs))) (place_longer ds es place less) ∙ by_draft (slice_get ds place) refl
  where
    by_draft : (o : Option KeptDraft) → slice_get ds place ≡ o → option_map (shown_draft (xs ++ ys) (ps ++ qs)) o ≡ option_map (shown_draft xs ps) o
    by_draft None at = refl
    by_draft (Some d) at = ap (λ (x : LoggedDraft). Some x) (draft_longer xs ys ps qs d (fits_at (length xs) (length ps) ds place d fit at))

step_longer : (xs ys : List Piece) (ps : List ℕ) (ds es : List KeptDraft) (s : KeptStep) → AllDraftsFit (length xs) (length ps) ds → StepFits (length ds) s
    → shown_step (xs ++ ys) (ds ++ es) s ≡ shown_step xs ds s
step_longer xs ys ps ds es (step.Reserve q place) fit less = rw (request_at_longer xs ys ps ds es place fit less) refl
step_longer xs ys ps ds es s fit less = refl

entry_longer : (xs ys : List Piece) (ps qs : List ℕ) (ds es : List KeptDraft) (k : Kept) → AllDraftsFit (length xs) (length ps) ds → EntryFits (length ds) k
    → shown (xs ++ ys) (ps ++ qs) (ds ++ es) k ≡ shown xs ps ds k
entry_longer xs ys ps qs ds es k fit fits = rw (step_longer xs ys ps ds es k.step fit fits.0, draft_at_longer xs ys ps qs ds es k.draft fit fits.1) refl

all_longer : (xs ys : List Piece) (ps qs : List ℕ) (ds es : List KeptDraft) (kept : List Kept) → AllDraftsFit (length xs) (length ps) ds → AllFit (length ds) kept
    → map (shown (xs ++ ys) (ps ++ qs) (ds ++ es)) kept ≡ map (shown xs ps ds) kept
all_longer xs ys ps qs ds es [] fit fits = refl
all_longer xs ys ps qs ds es (k ∷ kept) fit fits = rw (entry_longer xs ys ps qs ds es k fit fits.0, all_longer xs ys ps qs ds es kept fit fits.1) refl

step_fits_more : (n m : ℕ) (s : KeptStep) → StepFits n s → n ≤ m → StepFits m s
step_fits_more n m (step.Reserve q place) fits more = omega (arith, fits, more)
step_fits_more n m s fits more = tt

place_fits_more : (n m : ℕ) (place : Option ℕ) → PlaceFits n place → n ≤ m → PlaceFits m place
place_fits_more n m None fits more = tt
place_fits_more n m (Some place) fits more = omega (arith, fits, more)

draft_fits_more : (n m p q : ℕ) (d : KeptDraft) → DraftFits n p d → n ≤ m → p ≤ q → DraftFits m q d
draft_fits_more n m p q d fits more further = (fits_more n m d.request.pieces fits.0 more, fits_more p q d.data_pages fits.1 further, fits_more p q d.chain_pages fits.2 further)

-- a request without pages, wherever pages are
pub without_draft_fits : (n p : ℕ) (d : KeptDraft) → DraftFits n 0 d → DraftFits n p d
without_draft_fits n p d fits = draft_fits_more n n 0 p d fits (omega arith) (omega arith)

-- in longer lists, with one more
all_fit_more : (n m : ℕ) (kept : List Kept) (k : Kept) → AllFit n kept → n ≤ m → EntryFits m k → AllFit m (kept ++ k ∷ [])
all_fit_more n m [] k fit more fits = (fits, tt)
all_fit_more n m (x ∷ kept) k fit more fits =
    ((step_fits_more n m x.step fit.0.0 more, place_fits_more n m x.draft fit.0.1 more), all_fit_more n m kept k fit.1 more fits)

drafts_fit_more : (n m p q : ℕ) (ds others : List KeptDraft) → AllDraftsFit n p ds → n ≤ m → p ≤ q → AllDraftsFit m q others → AllDraftsFit m q (ds ++ others)
drafts_fit_more n m p q [] others fit more further fits = fits
drafts_fit_more n m p q (x ∷ ds) others fit more further fits = (draft_fits_more n m p q x fit.0 more further, drafts_fit_more n m p q ds others fit.1 more further fits)

-- what is kept of a log with one more entry
pub kept_more : (xs xs2 more : List Piece) (ps ps2 further : List ℕ) (ds ds2 others : List KeptDraft) (kept : List Kept) (k : Kept) → Stands xs ps ds kept
    → xs2 ≡ xs ++ more → ps2 ≡ ps ++ further → ds2 ≡ ds ++ others
    → map (shown xs2 ps2 ds2) (kept ++ k ∷ []) ≡ map (shown xs ps ds) kept ++ shown xs2 ps2 ds2 k ∷ []
kept_more xs xs2 more ps ps2 further ds ds2 others kept k stands pieces pages drafts =
    let same : map (shown xs2 ps2 ds2) kept ≡ map (shown xs ps ds) kept = rw (pieces, pages, drafts) (all_longer xs more ps further ds others kept stands.drafts_fit stands.entries_fit) in
    map-append (shown xs2 ps2 ds2) kept (k ∷ []) ∙ ap (λ (es : List Entry). es ++ shown xs2 ps2 ds2 k ∷ []) same

-- and that it is in its lists
pub stands_more : (xs xs2 more : List Piece) (ps ps2 further : List ℕ) (ds ds2 others : List KeptDraft) (kept : List Kept) (k : Kept) → Stands xs ps ds kept
    → xs2 ≡ xs ++ more → ps2 ≡ ps ++ further → ds2 ≡ ds ++ others
    → length xs2 ≤ most_places → length ps2 ≤ most_places → length ds2 ≤ most_places
    → AllDraftsFit (length xs2) (length ps2) others → EntryFits (length ds2) k → Stands xs2 ps2 ds2 (kept ++ k ∷ [])
stands_more xs xs2 more ps ps2 further ds ds2 others kept k stands pieces pages drafts few1 few2 few3 fits here =
    let longer : length xs ≤ length xs2 = omega (arith, ap length pieces, length-append xs more) in
    let long : length ps ≤ length ps2 = omega (arith, ap length pages, length-append ps further) in
    let further_on : length ds ≤ length ds2 = omega (arith, ap length drafts, length-append ds others) in
    record {
      entries_fit = all_fit_more (length ds) (length ds2) kept k stands.entries_fit further_on here;
      drafts_fit = subst (λ (x : List KeptDraft). AllDraftsFit (length xs2) (length ps2) x) (sym drafts) (drafts_fit_more (length xs) (length xs2) (length ps) (length ps2) ds others stands.drafts_fit longer long fits);
      few_pieces = few1;
      few_pages = few2;
      few_drafts = few3;
    }

-- an entry without a request, in any lists
pub bare_shown : (xs : List Piece) (ds : List KeptDraft) (s : KeptStep) → HasNoRequest s → shown_step xs ds s ≡ bare_step s
bare_shown xs ds (step.Reserve q place) none = absurd none
bare_shown xs ds s none = refl

pub bare_fits : (n : ℕ) (s : KeptStep) → HasNoRequest s → StepFits n s
bare_fits n (step.Reserve q place) none = absurd none
bare_fits n s none = tt

-- a draft whose parts were put at the end of the lists
pub kept_draft : (ps : List Piece) (q0 q1 q2 : List ℕ) (d : KeptDraft) (request : Request) (first second : List ℕ) → shown_request ps d.request ≡ request → q1 ≡ q0 ++ first → q2 ≡ q1 ++ second
    → d.data_pages.start ≡ length q0 → d.data_pages.end ≡ length q1 → d.chain_pages.start ≡ length q1 → d.chain_pages.end ≡ length q2
    → shown_draft ps q2 d ≡ (let shows : LoggedDraft = record { request = request; data_pages = first; chain_pages = second } in shows)
kept_draft ps q0 q1 q2 d request first second shows one two from to from2 to2 =
    let long1 : length q1 ≡ length q0 + length first = ap length one ∙ length-append q0 first in
    let long2 : length q2 ≡ length q1 + length second = ap length two ∙ length-append q1 second in
    let p1 : part_of (q1 ++ second) d.data_pages ≡ part_of q1 d.data_pages = part_longer q1 second d.data_pages (omega (arith, from, to, long1), omega (arith, to)) in
    let p2 : part_of q1 d.data_pages ≡ first = ap (λ (qs : List ℕ). part_of qs d.data_pages) one ∙ part_behind q0 first d.data_pages from (to ∙ long1) in
    let p3 : part_of q2 d.chain_pages ≡ second = ap (λ (qs : List ℕ). part_of qs d.chain_pages) two ∙ part_behind q1 second d.chain_pages from2 (to2 ∙ long2) in
    let p4 : part_of q2 d.data_pages ≡ first = ap (λ (qs : List ℕ). part_of qs d.data_pages) two ∙ p1 ∙ p2 in
    rw (shows, p3, p4) refl

-- The last entry

pub answered_last : (answer : Reply) (es : List Entry) (e : Entry) → answered answer (es ++ e ∷ []) ≡ es ++ (let a : Entry = record e { answer = answer } in a) ∷ []
answered_last answer [] e = refl
answered_last answer (x ∷ []) e = refl
answered_last answer (x ∷ (y ∷ es)) e = rw (answered_last answer (y ∷ es) e) refl

-- a kept list without its last, and with the last as another
pub kept_last : (xs : List Piece) (ps : List ℕ) (ds : List KeptDraft) (all kept : List Kept) (k other : Kept) (answer : Reply) → all ≡ kept ++ k ∷ []
    → shown xs ps ds other ≡ (let e : Entry = record (shown xs ps ds k) { answer = answer } in e)
    → map (shown xs ps ds) (kept ++ other ∷ []) ≡ answered answer (map (shown xs ps ds) all)
kept_last xs ps ds all kept k other answer is shows =
    map-append (shown xs ps ds) kept (other ∷ []) ∙ ap (λ (e : Entry). map (shown xs ps ds) kept ++ e ∷ []) shows ∙ sym (answered_last answer (map (shown xs ps ds) kept) (shown xs ps ds k))
    ∙ ap (λ (es : List Entry). answered answer es) (sym (map-append (shown xs ps ds) kept (k ∷ [])) ∙ ap (λ (ks : List Kept). map (shown xs ps ds) ks) (sym is))

pub stands_last : (xs : List Piece) (ps : List ℕ) (ds : List KeptDraft) (all kept : List Kept) (k other : Kept) → all ≡ kept ++ k ∷ [] → Stands xs ps ds all
    → (EntryFits (length ds) k → EntryFits (length ds) other) → Stands xs ps ds (kept ++ other ∷ [])
stands_last xs ps ds all kept k other is stands same =
    record {
      entries_fit = all_still_fit kept (subst (λ (ks : List Kept). AllFit (length ds) ks) is stands.entries_fit);
      drafts_fit = stands.drafts_fit;
      few_pieces = stands.few_pieces;
      few_pages = stands.few_pages;
      few_drafts = stands.few_drafts;
    }
  where
    all_still_fit : (ks : List Kept) → AllFit (length ds) (ks ++ k ∷ []) → AllFit (length ds) (ks ++ other ∷ [])
    all_still_fit [] f = (same f.0, tt)
    all_still_fit (x ∷ ks) f = (f.0, all_still_fit ks f.1)

-- An entry at an index

-- A log that grows by a step.

-- Counts

accepted_push : (log : List Entry) (e : Entry) → accepted (log ++ e ∷ []) ≡ accepted log + cond (is_accepted e) 1 0
accepted_push log e = sum_by_push (λ (x : Entry). cond (is_accepted x) 1 0) log e

pub accepted_other : (log : List Entry) (e : Entry) → is_accepted e ≡ false → accepted (log ++ e ∷ []) ≡ accepted log
accepted_other log e other = accepted_push log e ∙ ap (λ (x : Bool). accepted log + cond x 1 0) other ∙ omega arith

pub accepted_more : (log : List Entry) (e : Entry) → is_accepted e ≡ true → accepted (log ++ e ∷ []) ≡ accepted log + 1
accepted_more log e is = accepted_push log e ∙ ap (λ (x : Bool). accepted log + cond x 1 0) is

seated_push : (log : List Entry) (e : Entry) → AreSeated log → is_seated e ≡ true → AreSeated (log ++ e ∷ [])
seated_push [] e are is = (is, tt)
seated_push (x ∷ xs) e are is = (are.0, seated_push xs e are.1 is)

jobs_push : (log : List Entry) (e : Entry) → AreOfJobs log → is_of_jobs e.step ≡ true → AreOfJobs (log ++ e ∷ [])
jobs_push [] e are is = (is, tt)
jobs_push (x ∷ xs) e are is = (are.0, jobs_push xs e are.1 is)

-- a book takes an entry where it takes every step, or where the entry is one of jobs
abbrev pub Admits : Bool → Event → Type 0
Admits jobs_alone e = OnTrue jobs_alone (is_of_jobs (asked e) ≡ true)

taken_push : (b : Bool) (seat : Option ℕ) (e : Event) (r : events.Reply) (log : List Entry) → OnTrue b (AreOfJobs log) → Admits b e → OnTrue b (AreOfJobs (log ++ entry_of seat e r ∷ []))
taken_push true seat e r log are takes = jobs_push log (entry_of seat e r) are takes
taken_push false seat e r log are takes = tt

-- any book takes the steps of jobs
pub takes_jobs : (b : Bool) (e : Event) → is_of_jobs (asked e) ≡ true → Admits b e
takes_jobs true e is = is
takes_jobs false e is = tt

-- a book that takes every step takes each
pub takes_any : (b : Bool) (e : Event) → b ≡ false → Admits b e
takes_any true e is = absurd (true≢false is)
takes_any false e is = tt

not_accepted : (seat : Option ℕ) (b : Bool) → b ≡ false → (is_some seat || not b) ≡ true
not_accepted (Some n) b isnt = refl
not_accepted None b isnt = ap not isnt

-- Books

-- an entry that is not an accepted submission
book_step : {b : Bool} {o w v : State} {log : List Entry} {drafts : List DraftContents} {tally parts out made ledger : ℕ} (seat : Option ℕ) (e : Event) (r : events.Reply)
    → IsBook b o w log drafts tally parts out made ledger → machine.Step w e r v → Admits b e → is_submission (asked e) (told r) ≡ false
    → IsBook b o v (log ++ entry_of seat e r ∷ []) drafts tally parts out made ledger
book_step {b = alone} {o = o} {w = w} {v = v} {log = log} {drafts = drafts} seat e r b step takes other =
    let written : Entry = entry_of seat e r in
    let same : accepted (log ++ written ∷ []) ≡ accepted log = accepted_other log written other in
    record {
      legal = leads_further o w v log written b.legal (record { event = e; answer = r; asks = refl; tells = refl; drafts = refl; step = step });
      submitted = subst (λ (ds : List DraftContents). LeadsBy o (log ++ written ∷ []) ds v) (no_draft drafts e r other)
          (leads_by_further o w v log drafts written b.submitted (record { event = e; answer = r; asks = refl; tells = refl; drafts = refl; step = step }));
      sound = steps_keep w e r v step b.sound;
      counted = same ∙ b.counted;
      numbered = b.numbered ∙ sym same;
      seated = seated_push log written b.seated (not_accepted seat (is_submission (asked e) (told r)) other);
      jobs = taken_push alone seat e r log b.jobs takes;
      shares = b.shares;
      all_parts = b.all_parts;
      given = b.given;
      most = b.most;
    }

-- an accepted submission of a seat that is counted
book_accept : {b : Bool} {o w v : State} {log : List Entry} {drafts : List DraftContents} {tally more parts out made ledger : ℕ} (seat : ℕ) (d : DraftContents)
    → IsBook b o w log drafts tally parts out made ledger → machine.Step w (events.Submit d) events.Accepted v → more ≡ tally + 1
    → IsBook b o v (log ++ entry_of (Some seat) (events.Submit d) events.Accepted ∷ []) (drafts ++ d ∷ []) more parts out made ledger
book_accept {b = alone} {o = o} {w = w} {v = v} {log = log} {drafts = drafts} seat d b step counted =
    let written : Entry = entry_of (Some seat) (events.Submit d) events.Accepted in
    let one : accepted (log ++ written ∷ []) ≡ accepted log + 1 = accepted_more log written refl in
    record {
      legal = leads_further o w v log written b.legal (record { event = events.Submit d; answer = events.Accepted; asks = refl; tells = refl; drafts = refl; step = step });
      submitted = leads_by_further o w v log drafts written b.submitted (record { event = events.Submit d; answer = events.Accepted; asks = refl; tells = refl; drafts = refl; step = step });
      sound = steps_keep w (events.Submit d) events.Accepted v step b.sound;
      counted = one ∙ ap (λ (n : ℕ). n + 1) b.counted ∙ sym counted;
      numbered = length-append drafts (d ∷ []) ∙ ap (λ (n : ℕ). n + 1) b.numbered ∙ sym one;
      seated = seated_push log written b.seated refl;
      jobs = taken_push alone (Some seat) (events.Submit d) events.Accepted log b.jobs (takes_jobs alone (events.Submit d) refl);
      shares = b.shares;
      all_parts = b.all_parts;
      given = b.given;
      most = b.most;
    }

-- What a step leaves is a book of the log with what was written of it: nothing, where memory was refused.
pub keeps_book : {b : Bool} {o w v : State} {log now : List Entry} {drafts : List DraftContents} {tally parts out made ledger : ℕ} (seat : Option ℕ) (e : Event) (r : events.Reply)
    → IsBook b o w log drafts tally parts out made ledger → machine.Step w e r v → Admits b e → is_submission (asked e) (told r) ≡ false
    → now ≡ log ++ entries seat (asked e) (draft_of e r) (noted r) → IsBook b o v now drafts tally parts out made ledger
keeps_book {log = log} seat e (events.Refused refusal.Memory pages) b step takes other is = rw (is ∙ append-nil log, step.2) b
keeps_book seat e (events.Refused why pages) b step takes other is = rw is (book_step seat e (events.Refused why pages) b step takes other)
keeps_book seat e r b step takes other is = rw is (book_step seat e r b step takes other)

-- the same drafts
pub of_drafts : {b : Bool} {o w : State} {log : List Entry} {drafts after : List DraftContents} {tally parts out made ledger : ℕ}
    → IsBook b o w log drafts tally parts out made ledger → after ≡ drafts → IsBook b o w log after tally parts out made ledger
of_drafts b same = rw same b

-- so does a step of jobs, which every driver takes
pub keeps_jobs : {b : Bool} {o w v : State} {log now : List Entry} {drafts : List DraftContents} {tally parts out made ledger : ℕ} (seat : Option ℕ) (e : Event) (r : events.Reply)
    → IsBook b o w log drafts tally parts out made ledger → machine.Step w e r v → is_of_jobs (asked e) ≡ true → is_submission (asked e) (told r) ≡ false
    → now ≡ log ++ entries seat (asked e) (draft_of e r) (noted r) → IsBook b o v now drafts tally parts out made ledger
keeps_jobs {b = alone} seat e r b step jobs other is = keeps_book seat e r b step (takes_jobs alone e jobs) other is

reserved_by : (s : State) (q : ℕ) (request : Request) (d : DraftContents) → machine.Permits s (events.Reserve q request) (events.Reserved d) → machine.IsReserved s q request d
reserved_by s q request d permits = by_trust (s.trusted || true) permits
  where
    by_trust : (b : Bool) → MatchBool b ((refusal_of s (events.Reserve q request) ≡ None) × machine.IsReserved s q request d) ⊥ → machine.IsReserved s q request d
    by_trust true p = p.1
    by_trust false p = absurd p

not_refused : (s : State) (q : ℕ) (request : Request) (d : DraftContents) → machine.Permits s (events.Reserve q request) (events.Reserved d) → refusal_of s (events.Reserve q request) ≡ None
not_refused s q request d permits = by_trust (s.trusted || true) permits
  where
    by_trust : (b : Bool) → MatchBool b ((refusal_of s (events.Reserve q request) ≡ None) × machine.IsReserved s q request d) ⊥ → refusal_of s (events.Reserve q request) ≡ None
    by_trust true p = p.0
    by_trust false p = absurd p

-- so does an accepted submission, where it is counted, ..
pub accepts_book : {b : Bool} {o w v : State} {log now : List Entry} {drafts : List DraftContents} {tally more parts out made ledger : ℕ} (seat : ℕ) (d : DraftContents) (answer : Result TicketContents (Refused DraftContents))
    → is_ok answer ≡ true → IsBook b o w log drafts tally parts out made ledger → machine.Step w (events.Submit d) (accept_reply answer) v
    → now ≡ log ++ entry_of (Some seat) (events.Submit d) (accept_reply answer) ∷ [] → more ≡ tally + 1
    → IsBook b o v now (drafts ++ d ∷ []) more parts out made ledger
accepts_book seat d (Ok ticket) ok b step is counted = rw is (book_accept seat d b step counted)
accepts_book seat d (Err r) ok b step is counted = absurd (true≢false (sym ok))

-- .. and a refused one
pub refused_submission : (d : DraftContents) (answer : Result TicketContents (Refused DraftContents)) → is_ok answer ≡ false → is_submission (asked (events.Submit d)) (told (accept_reply answer)) ≡ false
refused_submission d (Ok ticket) isnt = absurd (true≢false isnt)
refused_submission d (Err r) isnt = refl

none_of_jobs : (b : Bool) → OnTrue b (AreOfJobs [])
none_of_jobs true = tt
none_of_jobs false = tt

-- a book as it opens
pub empty_book : (alone : Bool) {o w : State} {log : List Entry} {drafts : List DraftContents} {tally parts ledger : ℕ}
    → IsSound w → w ≡ o → log ≡ [] → drafts ≡ [] → tally ≡ 0 → parts ≡ ledger → ledger ≡ 65536 → IsBook alone o w log drafts tally parts 0 0 ledger
empty_book alone sound opens none no_drafts no_tally all number = rw (none, no_drafts, no_tally) (record {
  legal = opens;
  submitted = (opens, refl);
  sound = sound;
  counted = refl;
  numbered = refl;
  seated = tt;
  jobs = none_of_jobs alone;
  shares = omega (arith, all, number);
  all_parts = number;
  given = omega arith;
  most = omega arith;
})

-- What the calls do

memory_submits_nothing : (e : Event) (pages : List ℕ) → is_submission (asked e) (told (events.Refused refusal.Memory pages)) ≡ false
memory_submits_nothing (events.Submit d) pages = refl
memory_submits_nothing e pages = refl

-- where something was written
made : (old new : BookContents) (v : State) (now : List Entry) (room : Room) (touches : ℕ) (drafts : List DraftContents) (tabled : Bool) (seat : Option ℕ) (e : Event) (r : events.Reply) → machine.Step old.world e r v
    → drafts ≡ with_draft old.drafts e r → now ≡ old.log ++ entry_of seat e r ∷ [] → new ≡ record old { world = v; log = now; room = room; touches = touches; drafts = drafts; tabled = tabled }
    → machine.Step old.world e r new.world × (new ≡ record old { world = new.world; log = old.log ++ entry_of seat e r ∷ []; room = new.room; touches = new.touches; drafts = with_draft old.drafts e r; tabled = new.tabled })
made old new v now room touches drafts tabled seat e r step are is left = rw (left, is, are) (step, refl)

does : (old new : BookContents) (v : State) (now : List Entry) (room : Room) (touches : ℕ) (drafts : List DraftContents) (tabled : Bool) (seat : Option ℕ) (e : Event) (r : events.Reply) → machine.Step old.world e r v
    → drafts ≡ with_draft old.drafts e r → now ≡ old.log ++ entries seat (asked e) (draft_of e r) (noted r) → new ≡ record old { world = v; log = now; room = room; touches = touches; drafts = drafts; tabled = tabled }
    → Does old seat e r new
does old new v now room touches drafts tabled seat e (events.Refused refusal.Memory pages) step are is left =
    let same : new ≡ record old { room = room; touches = touches; tabled = tabled }
    = left
    ∙ ap (λ (w : State). let x : BookContents = record old { world = w; log = now; room = room; touches = touches; drafts = drafts; tabled = tabled } in x) step.2
    ∙ ap (λ (l : List Entry). let x : BookContents = record old { log = l; room = room; touches = touches; drafts = drafts; tabled = tabled } in x) (is ∙ append-nil old.log)
    ∙ ap (λ (ds : List DraftContents). let x : BookContents = record old { room = room; touches = touches; drafts = ds; tabled = tabled } in x) (are ∙ no_draft old.drafts e (events.Refused refusal.Memory pages) (memory_submits_nothing e pages)) in
    rw same refl
does old new v now room touches drafts tabled seat e (events.Refused why pages) step are is left = made old new v now room touches drafts tabled seat e (events.Refused why pages) step are is left
does old new v now room touches drafts tabled seat e r step are is left = made old new v now room touches drafts tabled seat e r step are is left

-- so with the contents of a book that was opened, of a step that is not an accepted submission
pub does_in : {at old : BookContents} → at ≡ old → (v : State) (now : List Entry) (room : Room) (touches : ℕ) (seat : Option ℕ) (e : Event) (r : events.Reply) → machine.Step at.world e r v
    → is_submission (asked e) (told r) ≡ false
    → now ≡ at.log ++ entries seat (asked e) (draft_of e r) (noted r) → Does old seat e r (let new : BookContents = record at { world = v; log = now; room = room; touches = touches } in new)
does_in {at = at} same v now room touches seat e r step other is =
    let new : BookContents = record at { world = v; log = now; room = room; touches = touches } in
    rw (← same) (does at new v now room touches at.drafts at.tabled seat e r step (sym (no_draft at.drafts e r other)) is refl)

-- and of a submission, accepted or not
pub submits_in : {at old : BookContents} → at ≡ old → (v : State) (now : List Entry) (room : Room) (touches : ℕ) (drafts : List DraftContents) (tabled : Bool) (seat : Option ℕ) (d : DraftContents) (answer : Result TicketContents (Refused DraftContents))
    → machine.Step at.world (events.Submit d) (accept_reply answer) v → drafts ≡ with_draft at.drafts (events.Submit d) (accept_reply answer)
    → now ≡ at.log ++ entries seat (asked (events.Submit d)) (draft_of (events.Submit d) (accept_reply answer)) (noted (accept_reply answer))
    → Does old seat (events.Submit d) (accept_reply answer) (let new : BookContents = record at { world = v; log = now; room = room; touches = touches; drafts = drafts; tabled = tabled } in new)
submits_in {at = at} same v now room touches drafts tabled seat d answer step are is =
    let new : BookContents = record at { world = v; log = now; room = room; touches = touches; drafts = drafts; tabled = tabled } in
    rw (← same) (does at new v now room touches drafts tabled seat (events.Submit d) (accept_reply answer) step are is refl)

-- the drafts of an accepted submission, and of a refused one
pub draft_taken : (drafts : List DraftContents) (d : DraftContents) (answer : Result TicketContents (Refused DraftContents)) → is_ok answer ≡ true
    → drafts ++ d ∷ [] ≡ with_draft drafts (events.Submit d) (accept_reply answer)
draft_taken drafts d (Ok ticket) ok = refl
draft_taken drafts d (Err r) ok = absurd (true≢false (sym ok))

pub draft_refused : (drafts : List DraftContents) (d : DraftContents) (answer : Result TicketContents (Refused DraftContents)) → is_ok answer ≡ false
    → drafts ≡ with_draft drafts (events.Submit d) (accept_reply answer)
draft_refused drafts d (Ok ticket) isnt = absurd (true≢false isnt)
draft_refused drafts d (Err r) isnt = refl

-- a fact of the world inside a book
pub touches_in : {at old : BookContents} → at ≡ old → (e : Event) (r : events.Reply) → StaysAllowed at.world e r → StaysAllowed old.world e r
touches_in same e r stays = rw (← same) stays

-- Want of memory

-- an event that takes no memory is never refused for want of it
never_wanted : (e : Event) (touched : List ℕ) → machine.allocates e ≡ false → machine.MayRefuse e refusal.Memory touched → ⊥
never_wanted (events.Fetch q) touched none may = true≢false none
never_wanted e touched none may = may

never_permitted : (s : State) (e : Event) (touched : List ℕ) → machine.allocates e ≡ false → machine.Permits s e (events.Refused refusal.Memory touched) → ⊥
never_permitted s e touched none = by_trust (s.trusted || not (machine.IsController e))
  where
    by_trust : (b : Bool) → MatchBool b (machine.Refuses s e refusal.Memory touched) (machine.MayRefuse e refusal.Memory touched) → ⊥
    by_trust true r = true≢false (sym r.0 ∙ none)
    by_trust false may = never_wanted e touched none may

pub takes_no_memory : (Cause : Type 0) (s new : State) (e : Event) (r : events.Reply) → machine.allocates e ≡ false → machine.Step s e r new → WantsMemoryFor Cause r
takes_no_memory Cause s new e (events.Refused refusal.Memory touched) none step = absurd (never_permitted s e touched none step.1)
takes_no_memory Cause s new e (events.Refused why touched) none step = tt
takes_no_memory Cause s new e r none step = tt

-- any other wants memory where the world permits it
pub takes_memory : (Cause : Type 0) {at old : BookContents} → at ≡ old → (new : State) (e : Event) (r : events.Reply) → machine.Step at.world e r new
    → WantsMemoryFor (Cause ⊎ MayWorldWant old e) r
takes_memory Cause same new e (events.Refused refusal.Memory touched) step = inr (rw (← same) (touched, step.1))
takes_memory Cause same new e (events.Refused why touched) step = tt
takes_memory Cause same new e r step = tt

-- Room, for numbers that the code found

pub takes_as : (room : Room) (p n k m : ℕ) → p ≡ k → n ≡ m → Takes room p n → Takes room k m
takes_as room p n k m pieces pages takes = subst (λ (x : ℕ). Takes room k x) pages (subst (λ (x : ℕ). Takes room x n) pieces takes)

pub lacks_as : (room : Room) (p n k m : ℕ) → p ≡ k → n ≡ m → Lacks room p n → Lacks room k m
lacks_as room p n k m pieces pages lacks = subst (λ (x : ℕ). Lacks room k x) pages (subst (λ (x : ℕ). Lacks room x n) pieces lacks)

pub wants_room : {Cause : Type 0} (why : Refusal) (touched : List ℕ) → why ≡ refusal.Memory → Cause → WantsMemoryFor Cause (events.Refused why touched)
wants_room why touched is cause = rw is cause

-- Submissions and reservations

-- what is written of a submission, which wants no memory
pub submission_noted : (seat : Option ℕ) (s new : State) (d : DraftContents) (r : events.Reply) → machine.Step s (events.Submit d) r new
    → entries seat (asked (events.Submit d)) (draft_of (events.Submit d) r) (noted r) ≡ entry_of seat (events.Submit d) r ∷ []
submission_noted seat s new d (events.Refused refusal.Memory touched) step = absurd (never_permitted s (events.Submit d) touched refl step.1)
submission_noted seat s new d (events.Refused why touched) step = refl
submission_noted seat s new d r step = refl

-- as it is written before it is made, and says then what was answered
pub submission_written : (seat : Option ℕ) (d : DraftContents) (answer : Result TicketContents (Refused DraftContents)) (log : List Entry) (first now : LogContents)
    → first.entries ≡ log ++ entry_of seat (events.Submit d) events.Accepted ∷ [] → OnOk answer (now ≡ first)
    → IfErr answer (λ r. now.entries ≡ answered (told (events.Refused r.why [])) first.entries)
    → now.entries ≡ log ++ entry_of seat (events.Submit d) (accept_reply answer) ∷ []
submission_written seat d (Ok ticket) log first now written same refused = rw same written
submission_written seat d (Err r) log first now written same refused =
    refused ∙ ap (λ (es : List Entry). answered (told (events.Refused r.why [])) es) written ∙ answered_last (told (events.Refused r.why [])) log (entry_of seat (events.Submit d) events.Accepted)

pub submission_entries : (seat : Option ℕ) (s new : State) (d : DraftContents) (answer : Result TicketContents (Refused DraftContents)) (log : List Entry) (first now : LogContents)
    → machine.Step s (events.Submit d) (accept_reply answer) new → first.entries ≡ log ++ entry_of seat (events.Submit d) events.Accepted ∷ [] → OnOk answer (now ≡ first)
    → IfErr answer (λ r. now.entries ≡ answered (told (events.Refused r.why [])) first.entries)
    → now.entries ≡ log ++ entries seat (asked (events.Submit d)) (draft_of (events.Submit d) (accept_reply answer)) (noted (accept_reply answer))
submission_entries seat s new d answer log first now step written same refused =
    submission_written seat d answer log first now written same refused ∙ ap (λ (es : List Entry). log ++ es) (sym (submission_noted seat s new d (accept_reply answer) step))

-- what is written of a reservation
pub reservation_written : (s new : State) (q : ℕ) (request : Request) (answer : Result DraftContents (Refused Request)) (log mid now : List Entry)
    → machine.Step s (events.Reserve q request) (reserve_reply answer) new → IfErr answer (λ r. r.value ≡ request)
    → mid ≡ log → IfOk answer (λ d. now ≡ mid ++ entry_of None (events.Reserve d.q d.request) (events.Reserved d) ∷ [])
    → IfErr answer (λ r. now ≡ mid ++ entries None (step.Reserve q r.value) None (noted (events.Refused r.why [])))
    → now ≡ log ++ entries None (asked (events.Reserve q request)) (draft_of (events.Reserve q request) (reserve_reply answer)) (noted (reserve_reply answer))
reservation_written s new q request (Ok d) log mid now step back same written refused =
    let is = reserved_by s q request d step.1 in
    written ∙ rw (same, is.queue, is.request) refl
reservation_written s new q request (Err r) log mid now step back same written refused = refused ∙ rw (same, back) refl

-- and the room that its draft takes
pub draft_takes : (s new : State) (q : ℕ) (request : Request) (answer : Result DraftContents (Refused Request)) (room : Room)
    → machine.Step s (events.Reserve q request) (reserve_reply answer) new → Takes room (length request.pieces) (most_pages s q request)
    → IfOk answer (λ d. Takes room (length d.request.pieces) (length d.data_pages + length d.chain_pages))
draft_takes s new q request (Ok d) room step takes =
    let is = reserved_by s q request d step.1 in
    let none : refusal_of s (events.Reserve q request) ≡ None = not_refused s q request d step.1 in
    let few = joined_parts_few request.pieces (numbers_of d.data_pages) in
    let chain = needed_few (length (joined_parts request.pieces (numbers_of d.data_pages))) s.segment in
    let most : most_pages s q request ≡ data_count request.pieces + length request.pieces = ap (λ (why : Option Refusal). most_of why request) none in
    record {
      entry = takes.entry;
      pieces = rw is.request takes.pieces;
      pages = omega (arith, takes.pages, most, is.data_pages, is.chain_pages, few, chain);
    }
draft_takes s new q request (Err r) room step takes = tt
