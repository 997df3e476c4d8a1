-- What is told of jobs while others are still being done.
use Rattle.std.proofs.Common.{◌≡◌, ◌<◌, ◌⊎◌, ◌&&◌, ℕ, true, Option, Some, None, is_some, option_and_then, List, [], ◌∷◌, ◌++◌, append_assoc, length, map, slice_get, refl, sym, ap, ◌∙◌, subst, inl, inr, zero, suc, true≢false}
use Rattle.std.{proofs.lemmas.List.append-nil, specs.Io.KnownBytes.{Appends, Keeps}}
use Rattle.std.specs.Prelude.{All, IfErr, IsErrAnd, Result, Ok, Err}
use Rattle.block_image.specs.Blocks.{IsImage}
use Rattle.driver_threads.{proofs.UnderWay.behind_none, specs.{Behind.behind, Values.{Job, JobEnd}}}
use Rattle.host_core.specs.{Opening.refusal_of_config, declared.config.Config.Config}
use Rattle.job_cli.proofs.JobRuns.{cut_inside, ended_behind, left_from}
use Rattle.job_cli.specs.{GoneOn.{HasBegun, HasGoneOn}, Headings.{end_at, headed_so_far, headed_text, heading, headings_from, IsCutShort, IsNoRun, IsWrittenOf, without_end}, JobLines.unwell_in}
use Rattle.job_cli.specs.JobRuns.{all_ended, AreListsOf, end_of, EndsJobsWith, HasJobs, IsClosing, IsCountedText, IsCutJobsText, IsJobsText, IsJobsTextSoFar, IsWanting, job_lines, lines_so_far}
use Rattle.job_cli.specs.declared.{job_runs.Heading.Heading, jobs.JobLine.JobLine}
use Rattle.machine_model.specs.{Claims.counts_of, State.State}
use Rattle.script_cli.{proofs.Texts.{appends_more, appends_none, keeps_then}, specs.Inputs.{Gains, IsFront}}
use Rattle.script_cli.specs.declared.fault.RunFault.{RunFault}
use Rattle.step_core.specs.Opening.{opening_of}
use Rattle.script_cli.specs.declared.fault.RunFault.TheVariants as run

-- Jobs that have ended are told, one by one

one_told : (ends : List (List JobEnd)) (h : Heading) (rest : List Heading) (what : JobEnd) → end_at ends h ≡ Some what
    → headed_so_far ends (h ∷ rest) ≡ headed_text h (Some what) ++ headed_so_far ends rest
one_told ends h rest what is = rw is refl

pub one_passed : (ends : List (List JobEnd)) (h : Heading) (rest : List Heading) (what : JobEnd) → end_at ends h ≡ Some what → without_end ends (h ∷ rest) ≡ without_end ends rest
one_passed ends h rest what is = rw is refl

-- this much is told of what is told in all
abbrev pub IsTold : List (List JobEnd) → List Heading → List Heading → Option (List ℕ) → Option (List ℕ) → Type 0
IsTold ends all left a b = (said : List ℕ) × Appends a b said × (headed_so_far ends all ≡ said ++ headed_so_far ends left)

pub told_more : (ends : List (List JobEnd)) (all left rest : List Heading) (h : Heading) (what : JobEnd) (piece : List ℕ) (a b c : Option (List ℕ)) → left ≡ h ∷ rest → end_at ends h ≡ Some what
    → piece ≡ headed_text h (Some what) → IsTold ends all left a b → Appends b c piece → IsTold ends all rest a c
told_more ends all left rest h what piece a b c is ended text (said, written, joined) more =
    let split : headed_so_far ends left ≡ piece ++ headed_so_far ends rest = rw (is, text) (one_told ends h rest what ended) in
    (said ++ piece, appends_more a b c said piece written more, joined ∙ (ap (λ (t : List ℕ). said ++ t) split ∙ sym (append_assoc said piece (headed_so_far ends rest))))

pub told_inside : (ends : List (List JobEnd)) (all left rest : List Heading) (h : Heading) (what : JobEnd) (piece : List ℕ) (a b c : Option (List ℕ)) → left ≡ h ∷ rest → end_at ends h ≡ Some what
    → piece ≡ headed_text h (Some what) → IsTold ends all left a b → Gains b c (λ front. IsFront front piece) → Gains a c (λ front. IsFront front (headed_so_far ends all))
told_inside ends all left rest h what piece a b c is ended text (said, written, joined) more =
    let split : headed_so_far ends left ≡ piece ++ headed_so_far ends rest = rw (is, text) (one_told ends h rest what ended) in
    cut_inside (headed_so_far ends all) said piece (headed_so_far ends rest) a b c (joined ∙ ap (λ (t : List ℕ). said ++ t) split) written more

-- What was told stays, as more jobs end

got_stays : (xs ys : List JobEnd) (k : ℕ) (what : JobEnd) → slice_get xs k ≡ Some what → slice_get (xs ++ ys) k ≡ Some what
got_stays [] ys k what is = absurd cc
got_stays (x ∷ xs) ys zero what is = is
got_stays (x ∷ xs) ys (suc k) what is = got_stays xs ys k what is

end_stays : (ends later : List (List JobEnd)) (s k : ℕ) (what : JobEnd) → option_and_then (λ list. slice_get list k) (slice_get ends s) ≡ Some what
    → option_and_then (λ list. slice_get list k) (slice_get (behind ends later) s) ≡ Some what
end_stays [] later s k what is = absurd cc
end_stays (x ∷ ends) [] s k what is = is
end_stays (x ∷ ends) (y ∷ later) zero k what is = got_stays x y k what is
end_stays (x ∷ ends) (y ∷ later) (suc s) k what is = end_stays ends later s k what is

so_far_grows : (ends later : List (List JobEnd)) (all : List Heading) → headed_so_far (behind ends later) all ≡ headed_so_far ends all ++ headed_so_far (behind ends later) (without_end ends all)
so_far_grows ends later [] = refl
so_far_grows ends later (h ∷ rest) = by_end (end_at ends h) refl (so_far_grows ends later rest)
  where
    by_end : (e : Option JobEnd) → end_at ends h ≡ e → headed_so_far (behind ends later) rest ≡ headed_so_far ends rest ++ headed_so_far (behind ends later) (without_end ends rest)
        → headed_so_far (behind ends later) (h ∷ rest) ≡ headed_so_far ends (h ∷ rest) ++ headed_so_far (behind ends later) (without_end ends (h ∷ rest))
    by_end None is onward = rw is refl
    by_end (Some what) is onward =
        rw (is, one_told (behind ends later) h rest what (end_stays ends later h.submitter h.place what is))
        (ap (λ (t : List ℕ). headed_text h (Some what) ++ t) onward
        ∙ sym (append_assoc (headed_text h (Some what)) (headed_so_far ends rest) (headed_so_far (behind ends later) (without_end ends rest))))

left_shrinks : (ends later : List (List JobEnd)) (all : List Heading) → without_end (behind ends later) (without_end ends all) ≡ without_end (behind ends later) all
left_shrinks ends later [] = refl
left_shrinks ends later (h ∷ rest) = by_end (end_at ends h) refl (left_shrinks ends later rest)
  where
    by_end : (e : Option JobEnd) → end_at ends h ≡ e → without_end (behind ends later) (without_end ends rest) ≡ without_end (behind ends later) rest
        → without_end (behind ends later) (without_end ends (h ∷ rest)) ≡ without_end (behind ends later) (h ∷ rest)
    by_end None is onward = rw is refl
    by_end (Some what) is onward = rw is (onward ∙ sym (one_passed (behind ends later) h rest what (end_stays ends later h.submitter h.place what is)))

-- before any has ended
nothing_told : (all : List Heading) → headed_so_far [] all ≡ []
nothing_told [] = refl
nothing_told (h ∷ rest) = refl

all_left : (all : List Heading) → without_end [] all ≡ all
all_left [] = refl
all_left (h ∷ rest) = refl

pub begun_on : (s : State) (ends : List (List JobEnd)) → ends ≡ [] → HasGoneOn s [] ends s
begun_on s ends none = rw none (record { rounds = []; go_on = refl; lists_are = refl; ends_are = refl; agree = refl; jobs = tt })

pub begun_left : (ends : List (List JobEnd)) (all left : List Heading) → ends ≡ [] → left ≡ all → left ≡ without_end ends all
begun_left ends all left none is = rw none (is ∙ sym (all_left all))

pub begun_told : (ends : List (List JobEnd)) (all : List Heading) (a : Option (List ℕ)) → ends ≡ [] → Appends a a (headed_so_far ends all)
begun_told ends all a none = rw (none, nothing_told all) (appends_none a)

-- after one more round
pub round_left : (ends later after : List (List JobEnd)) (all left next : List Heading) → after ≡ behind ends later → left ≡ without_end ends all → next ≡ without_end after left → next ≡ without_end after all
round_left ends later after all left next grown was is =
    let shrinks : without_end after (without_end ends all) ≡ without_end after all = rw grown (left_shrinks ends later all) in
    is ∙ (ap (without_end after) was ∙ shrinks)

-- one more round is told
pub round_told : (ends later after : List (List JobEnd)) (all left : List Heading) (a b c : Option (List ℕ)) → after ≡ behind ends later → left ≡ without_end ends all
    → Appends a b (headed_so_far ends all) → Appends b c (headed_so_far after left) → Appends a c (headed_so_far after all)
round_told ends later after all left a b c grown is written more =
    let grows : headed_so_far after all ≡ headed_so_far ends all ++ headed_so_far after left = rw (grown, is) (so_far_grows ends later all) in
    subst (Appends a c) (sym grows) (appends_more a b c (headed_so_far ends all) (headed_so_far after left) written more)

-- and a prefix of it, where the writing was cut off
pub round_cut : (ends later after : List (List JobEnd)) (all left : List Heading) (a b c : Option (List ℕ)) → after ≡ behind ends later → left ≡ without_end ends all
    → Appends a b (headed_so_far ends all) → Gains b c (λ front. IsFront front (headed_so_far after left)) → Gains a c (λ front. IsFront front (headed_so_far after all))
round_cut ends later after all left a b c grown is written (front, (rest, split), more) =
    let grows : headed_so_far after all ≡ headed_so_far ends all ++ headed_so_far after left = rw (grown, is) (so_far_grows ends later all) in
    let joined : headed_so_far after all ≡ headed_so_far ends all ++ (front ++ rest) = grows ∙ ap (λ (t : List ℕ). headed_so_far ends all ++ t) split in
    (headed_so_far ends all ++ front, (rest, joined ∙ sym (append_assoc (headed_so_far ends all) front rest)), appends_more a b c (headed_so_far ends all) front written more)

-- How jobs are cut short

-- all of what was told is there
cut_after : (before after : State) (all : List (List Job)) (ends : List (List JobEnd)) (headings : List Heading) (a b : Option (List ℕ)) (why : RunFault) → HasBegun before all ends after → IsWanting why
    → Appends a b (headed_so_far ends headings) → IsCutShort before all headings a b why
cut_after before after all ends headings a b run.NoThread gone wants written = record { ends = ends; world = after; begun = gone; written = (headed_so_far ends headings, refl, written) }
cut_after before after all ends headings a b (run.Close why) gone wants written = record { ends = ends; world = after; begun = gone; written = (headed_so_far ends headings, refl, written) }
cut_after before after all ends headings a b run.Memory gone wants written =
    record { ends = ends; world = after; begun = gone; written = (headed_so_far ends headings, ([], sym (append-nil (headed_so_far ends headings))), written) }
cut_after before after all ends headings a b (run.Line number why) gone wants written = absurd wants
cut_after before after all ends headings a b run.TooLong gone wants written = absurd wants
cut_after before after all ends headings a b run.Unreadable gone wants written = absurd wants
cut_after before after all ends headings a b run.BadConfig gone wants written = absurd wants
cut_after before after all ends headings a b (run.NoPages need free) gone wants written = absurd wants
cut_after before after all ends headings a b run.OutputFailed gone wants written = absurd wants

pub wanting_failed : {T : Type 0} (r : Result T RunFault) (why : RunFault) (before after : State) (all : List (List Job)) (ends : List (List JobEnd)) (headings : List Heading) (a b : Option (List ℕ)) → IsErrAnd r (λ x. x ≡ why)
    → HasBegun before all ends after → IsWanting why → Appends a b (headed_so_far ends headings) → IfErr r (IsCutShort before all headings a b)
wanting_failed (Ok done) why before after all ends headings a b same gone wants written = tt
wanting_failed (Err x) why before after all ends headings a b same gone wants written = rw same (cut_after before after all ends headings a b why gone wants written)

-- a prefix of it
cut_within : (before after : State) (all : List (List Job)) (ends : List (List JobEnd)) (headings : List Heading) (a b : Option (List ℕ)) (why : RunFault) → HasBegun before all ends after
    → (why ≡ run.Memory) ⊎ (why ≡ run.OutputFailed) → Gains a b (λ front. IsFront front (headed_so_far ends headings)) → IsCutShort before all headings a b why
cut_within before after all ends headings a b why gone (inl is) written = rw is (record { ends = ends; world = after; begun = gone; written = written })
cut_within before after all ends headings a b why gone (inr is) written = rw is (record { ends = ends; world = after; begun = gone; written = written })

pub within_failed : {T : Type 0} (r : Result T RunFault) (why : RunFault) (before after : State) (all : List (List Job)) (ends : List (List JobEnd)) (headings : List Heading) (a b : Option (List ℕ)) → IsErrAnd r (λ x. x ≡ why)
    → HasBegun before all ends after → (why ≡ run.Memory) ⊎ (why ≡ run.OutputFailed) → Gains a b (λ front. IsFront front (headed_so_far ends headings)) → IfErr r (IsCutShort before all headings a b)
within_failed (Ok done) why before after all ends headings a b same gone says written = tt
within_failed (Err x) why before after all ends headings a b same gone says written = rw same (cut_within before after all ends headings a b why gone says written)

-- What is told is the text of the lines

headed_so_far_is : (ends : List (List JobEnd)) (before lines : List JobLine) → headed_so_far ends (headings_from before lines) ≡ lines_so_far ends before lines
headed_so_far_is ends before [] = refl
headed_so_far_is ends before (line ∷ rest) = by_end (end_of ends before line) refl (headed_so_far_is ends (before ++ line ∷ []) rest)
  where
    by_end : (e : Option JobEnd) → end_of ends before line ≡ e → headed_so_far ends (headings_from (before ++ line ∷ []) rest) ≡ lines_so_far ends (before ++ line ∷ []) rest
        → headed_so_far ends (headings_from before (line ∷ rest)) ≡ lines_so_far ends before (line ∷ rest)
    by_end None is onward = rw is refl
    by_end (Some what) is onward = rw is (ap (λ (t : List ℕ). headed_text (heading before line) (Some what) ++ t) onward)

-- all of it, where all have ended
all_told : (ends : List (List JobEnd)) (before lines : List JobLine) → all_ended ends before lines ≡ true → lines_so_far ends before lines ≡ job_lines ends before lines
all_told ends before [] ended = refl
all_told ends before (line ∷ rest) ended = by_end (end_of ends before line) refl ended (all_told ends (before ++ line ∷ []) rest)
  where
    by_end : (e : Option JobEnd) → end_of ends before line ≡ e → (is_some (end_of ends before line) && all_ended ends (before ++ line ∷ []) rest) ≡ true
        → (all_ended ends (before ++ line ∷ []) rest ≡ true → lines_so_far ends (before ++ line ∷ []) rest ≡ job_lines ends (before ++ line ∷ []) rest)
        → lines_so_far ends before (line ∷ rest) ≡ job_lines ends before (line ∷ rest)
    by_end None is ended onward = absurd (true≢false (sym (rw is at ended)))
    by_end (Some what) is ended onward = rw is (ap (λ (t : List ℕ). headed_text (heading before line) (Some what) ++ t) (onward (rw is at ended)))

-- What a run writes

lists_of_lines : (n : ℕ) (lines : List JobLine) (lists : List (List Job)) → AreListsOf n lines lists → AreListsOf (length lists) lines lists
lists_of_lines n lines lists are = subst (λ (k : ℕ). AreListsOf k lines lists) (sym are.count) are

-- where all jobs are done, none is left
pub all_begun : (before after : State) (all : List (List Job)) (ends : List (List JobEnd)) → HasGoneOn before all ends after → HasBegun before all ends after
all_begun before after all ends gone = record { done = all; left = []; all_are = behind_none all; gone_on = gone }

-- jobs that all ended, and what follows their lines
jobs_text_is : {X : Type 0} (items : X → List Job) (n : ℕ) (config : Config) (image : List ℕ) (lines given : List JobLine) (headings : List Heading) (lists : List X) (ends : List (List JobEnd))
    (world : State) (closing : List ℕ) → given ≡ lines → headings ≡ headings_from [] given → AreListsOf n given (map items lists)
    → map length ends ≡ map (λ list. length (items list)) lists → All (λ line. line.submitter < n) lines → refusal_of_config config ≡ None → IsImage image → HasGoneOn (opening_of config image) (map items lists) ends world
    → IsClosing world closing → (said : IsJobsText config image lines (headed_so_far ends headings ++ closing)) × (said.ends ≡ ends)
jobs_text_is items n config image lines given headings lists ends world closing e is are ended below fits is_image gone (owners, owned, told) =
    let all : all_ended ends [] lines ≡ true = ended_behind items n lines lists ends (subst (λ (ls : List JobLine). AreListsOf n ls (map items lists)) e are) ended below [] lines refl in
    let lines_are : headed_so_far ends headings ≡ job_lines ends [] lines = ap (headed_so_far ends) (is ∙ ap (headings_from []) e) ∙ (headed_so_far_is ends [] lines ∙ all_told ends [] lines all) in (
      record {
        lists = map items lists;
        ends = ends;
        owners = owners;
        counts = counts_of world.host;
        given = lists_of_lines n lines (map items lists) (subst (λ (ls : List JobLine). AreListsOf n ls (map items lists)) e are);
        left = left_from config image (map items lists) ends owners (counts_of world.host) world fits is_image gone owned refl;
        ended = all;
        said = ap (λ (t : List ℕ). t ++ closing) lines_are ∙ ap (λ (t : List ℕ). job_lines ends [] lines ++ t) told;
      },
      refl,
    )

pub jobs_are_written : {X : Type 0} (items : X → List Job) (n : ℕ) (config : Config) (image : List ℕ) (lines given : List JobLine) (headings : List Heading) (lists : List X) (ends : List (List JobEnd))
    (world : State) (a b c : Option (List ℕ)) (unwell : ℕ) → given ≡ lines → headings ≡ headings_from [] given → AreListsOf n given (map items lists)
    → map length ends ≡ map (λ list. length (items list)) lists → All (λ line. line.submitter < n) lines → refusal_of_config config ≡ None → IsImage image → HasGoneOn (opening_of config image) (map items lists) ends world
    → Appends a b (headed_so_far ends headings) → Gains b c (IsClosing world) → unwell ≡ unwell_in ends → Gains a c (IsCountedText unwell config image lines)
jobs_are_written items n config image lines given headings lists ends world a b c unwell e is are ended below fits is_image gone written (closing, closes, closed) counted =
    let (said, same) = jobs_text_is items n config image lines given headings lists ends world closing e is are ended below fits is_image gone closes in
    (headed_so_far ends headings ++ closing, (said, counted ∙ ap unwell_in (sym same)), appends_more a b c (headed_so_far ends headings) closing written closed)

-- the text so far of some lines
so_far_of : (config : Config) (image : List ℕ) (n : ℕ) (lines given : List JobLine) (headings : List Heading) (all : List (List Job)) (ends : List (List JobEnd)) (world : State) (text : List ℕ)
    → given ≡ lines → headings ≡ headings_from [] given → AreListsOf n given all → HasBegun (opening_of config image) all ends world → text ≡ headed_so_far ends headings → IsJobsTextSoFar config image lines text
so_far_of config image n lines given headings all ends world text e is are begun said = record {
  all = all;
  ends = ends;
  world = world;
  given = lists_of_lines n lines all (subst (λ (ls : List JobLine). AreListsOf n ls all) e are);
  begun = begun;
  said = said ∙ (ap (headed_so_far ends) (is ∙ ap (headings_from []) e) ∙ headed_so_far_is ends [] lines);
}

-- no world was opened, or the jobs were cut short
pub no_run_ends : (told : Option (List ℕ)) (n : ℕ) (config : Config) (image : List ℕ) (a b : Option (List ℕ)) (lines given : List JobLine) (headings : List Heading) (all : List (List Job)) (why : RunFault)
    → HasJobs told n lines → given ≡ lines → headings ≡ headings_from [] given → AreListsOf n given all → IsNoRun config image all headings a b why → EndsJobsWith told n config image a b why
no_run_ends told n config image a b lines given headings all run.BadConfig has e is are (inl (why_not, keeps)) = (lines, has, why_not, keeps)
no_run_ends told n config image a b lines given headings all (run.NoPages need free) has e is are (inl (why_not, keeps)) = (lines, has, why_not, keeps)
no_run_ends told n config image a b lines given headings all run.Memory has e is are (inl (why_not, keeps)) = inl keeps
no_run_ends told n config image a b lines given headings all run.NoThread has e is are (inl (why_not, keeps)) = absurd why_not
no_run_ends told n config image a b lines given headings all (run.Close why) has e is are (inl (why_not, keeps)) = absurd why_not
no_run_ends told n config image a b lines given headings all (run.Line number why) has e is are (inl (why_not, keeps)) = absurd why_not
no_run_ends told n config image a b lines given headings all run.TooLong has e is are (inl (why_not, keeps)) = absurd why_not
no_run_ends told n config image a b lines given headings all run.Unreadable has e is are (inl (why_not, keeps)) = absurd why_not
no_run_ends told n config image a b lines given headings all run.OutputFailed has e is are (inl (why_not, keeps)) = absurd why_not
no_run_ends told n config image a b lines given headings all why has e is are (inr (fits, cut)) = by_fault why cut.written
  where
    by_fault : (w : RunFault) → Gains a b (λ text. IsWrittenOf w text (headed_so_far cut.ends headings)) → EndsJobsWith told n config image a b w
    by_fault run.NoThread (text, whole, written) = (lines, has, fits, (text, so_far_of config image n lines given headings all cut.ends cut.world text e is are cut.begun whole, written))
    by_fault (run.Close w) (text, whole, written) = (lines, has, fits, (text, so_far_of config image n lines given headings all cut.ends cut.world text e is are cut.begun whole, written))
    by_fault run.Memory (text, front, written) =
        inr (lines, has, (text, (headed_so_far cut.ends headings, inr (so_far_of config image n lines given headings all cut.ends cut.world (headed_so_far cut.ends headings) e is are cut.begun refl), front), written))
    by_fault run.OutputFailed (text, front, written) =
        (lines, has, (text, (headed_so_far cut.ends headings, inr (so_far_of config image n lines given headings all cut.ends cut.world (headed_so_far cut.ends headings) e is are cut.begun refl), front), written))
    by_fault run.BadConfig (text, none, written) = absurd none
    by_fault (run.NoPages need free) (text, none, written) = absurd none
    by_fault (run.Line number w) (text, none, written) = absurd none
    by_fault run.TooLong (text, none, written) = absurd none
    by_fault run.Unreadable (text, none, written) = absurd none

pub no_run_failed : {T : Type 0} (r : Result T RunFault) (told : Option (List ℕ)) (n : ℕ) (config : Config) (image : List ℕ) (a b : Option (List ℕ)) (lines given : List JobLine) (headings : List Heading) (all : List (List Job)) (why : RunFault)
    → IsErrAnd r (λ x. x ≡ why) → HasJobs told n lines → given ≡ lines → headings ≡ headings_from [] given → AreListsOf n given all → IsNoRun config image all headings a b why → IfErr r (EndsJobsWith told n config image a b)
no_run_failed (Ok done) told n config image a b lines given headings all why same has e is are none = tt
no_run_failed (Err x) told n config image a b lines given headings all why same has e is are none = rw same (no_run_ends told n config image a b lines given headings all why has e is are none)

-- all jobs were told, and not all that follows them
pub closing_is_cut : {X : Type 0} (items : X → List Job) (told : Option (List ℕ)) (n : ℕ) (config : Config) (image : List ℕ) (lines given : List JobLine) (headings : List Heading)
    (lists : List X) (ends : List (List JobEnd)) (world : State) (a b c : Option (List ℕ)) (why : RunFault) → HasJobs told n lines → given ≡ lines → headings ≡ headings_from [] given
    → AreListsOf n given (map items lists) → map length ends ≡ map (λ list. length (items list)) lists → All (λ line. line.submitter < n) lines → refusal_of_config config ≡ None → IsImage image
    → HasGoneOn (opening_of config image) (map items lists) ends world → Appends a b (headed_so_far ends headings)
    → Keeps b c ⊎ Gains b c (λ front. (text : List ℕ) × IsClosing world text × IsFront front text) → (why ≡ run.Memory) ⊎ (why ≡ run.OutputFailed) → EndsJobsWith told n config image a c why
closing_is_cut items told n config image lines given headings lists ends world a b c why has e is are ended below fits is_image gone written rest says = ends_so says (cut rest)
  where
    cut : Keeps b c ⊎ Gains b c (λ front. (text : List ℕ) × IsClosing world text × IsFront front text) → Gains a c (IsCutJobsText config image lines)
    cut (inl kept) = (
      headed_so_far ends headings,
      (
        headed_so_far ends headings,
        inr (so_far_of config image n lines given headings (map items lists) ends world (headed_so_far ends headings) e is are (all_begun (opening_of config image) world (map items lists) ends gone) refl),
        ([], sym (append-nil (headed_so_far ends headings))),
      ),
      keeps_then a b c (headed_so_far ends headings) written kept,
    )
    cut (inr (front, (text, closing, (more, split)), gained)) =
        let (said, same_ends) = jobs_text_is items n config image lines given headings lists ends world text e is are ended below fits is_image gone closing in (
          headed_so_far ends headings ++ front,
          (
            headed_so_far ends headings ++ text,
            inl said,
            (more, ap (λ (t : List ℕ). headed_so_far ends headings ++ t) split ∙ sym (append_assoc (headed_so_far ends headings) front more)),
          ),
          appends_more a b c (headed_so_far ends headings) front written gained,
        )

    ends_so : (why ≡ run.Memory) ⊎ (why ≡ run.OutputFailed) → Gains a c (IsCutJobsText config image lines) → EndsJobsWith told n config image a c why
    ends_so (inl memory) gains = rw memory (inr (lines, has, gains))
    ends_so (inr failed) gains = rw failed (lines, has, gains)
