-- Runs of scripts of jobs: who does which job, what is printed, and how a run ends.
use Rattle.script_cli.specs.declared.fault.ScriptFault.TheVariants as fault
use Rattle.std.proofs.Common.{arith, ℕ, ◌≡◌, ◌≤◌, ◌+◌, List, ◌∷◌, Bool, true, false, nat_lt, Option, Result, Ok, Err, length, refl, ◌<◌, ◌^◌, Some, None, [], codes, if◌then◌else◌, ◌==◌, ◌++◌, append_assoc, is_some, length-set, length-append, get_or, map, replicate, slice_get, slice_set, sym, ap, ◌∙◌, subst, eqb-true, zero, suc, option_and_then, true≢false, not}
use Rattle.std.proofs.lemmas.{Bool.{ltb-true, eqb-false, eq-eqb, or_parts}, Grind.common_steps}
use Rattle.std.proofs.lemmas.List.{append-nil, length-replicate, get_or-map, get_or-replicate, get_or_at, map-set, length-map, map-append}
use Rattle.std.{proofs.lemmas.{List.Elements.{All-nil, All-push}, Option.{slice_get-get_or, get_or_from_slice_get}}, specs.Io.KnownBytes.{Appends}}
use Rattle.std.specs.{List.list_any, Prelude.{All, IfOk, IfSome}, Str.bytes_eq}
use Rattle.job_cli.specs.{GoneOn.{Round, GoOn, HasGoneOn, ends_in, lists_of, logs_of, receipts_of}}
use Rattle.job_cli.specs.Headings.{heading_at, heading, headings_from}
use Rattle.job_cli.specs.JobRuns.{is_of, jobs_for, AreListsOf, end_of, all_ended, IsLeftFrom, HasJobs, HasJobFault, IsNoJobs}
use Rattle.job_cli.specs.Jobs.{numbered_job, with_job, jobs_from, jobs_in, jobs_of, IsReadAs, head_words, data_words, job_words, some_job, job_of_words, job_of_line, at_line, then_jobs}
use Rattle.job_cli.specs.declared.{job_runs.Heading.Heading, jobs.JobLine.JobLine}
use Rattle.script_cli.{proofs.{Runs.{number_fits, then_fits, whatever_fits}, Texts.{appends_more, same_if_short}}, specs.Faults.fault_of_script}
use Rattle.script_cli.specs.{Grammar.{Words, number_word, kind_word, request_words, begins_comment, words_of}, Inputs.{AreFirstOf, Gains, IsFront}, Lines.lines}
use Rattle.script_cli.specs.{Runs.AreOwners, declared.fault.{LineFault.{LineFault, TheVariants.{UnknownVerb, TooManyLines}}}}
use Rattle.script_cli.specs.declared.fault.ScriptFault.{ScriptFault}
use Rattle.driver_threads.{proofs.UnderWay.{behind_none, behind_long}, specs.{Behind.behind, Ends.{AllAgree, ends_of, statuses_of}, Jobs.AllWent}}
use Rattle.driver_threads.specs.{Runs.{EndsRound}, Values.{Job, JobEnd}, declared.jobs.JobEnd.TheVariants.{Done, Refused}}
use Rattle.page_ledger.{proofs.Tables.{slice_get-set_same, slice_get-set_other}, specs.declared.owner.{Counts.Counts, Owner.Owner}}
use Rattle.step_core.specs.{Opening.opening_of, World.WorldContents}
use Rattle.host_core.specs.{Opening.refusal_of_config, declared.config.Config.Config}
use Rattle.block_image.specs.Blocks.{IsImage}
use Rattle.driver_book.{proofs.Runs.{leads_on, logs_of_jobs_are_runs}, specs.{Entries.{Entry, LogContents}, History.LeadsTo, State.AreOfJobs}}
use Rattle.driver_book.specs.declared.report.Receipt.{Receipt}
use Rattle.machine_model.specs.{Claims.counts_of, State.State}

-- A script of jobs is read line by line.

-- a line without a fault
pub job_is_next : (submitters : ℕ) (so_far : List JobLine) (number : ℕ) (bytes : List ℕ) (rest : List (List ℕ)) (what : Option JobLine) → numbered_job submitters number bytes ≡ Ok what →
    jobs_from submitters so_far number (bytes ∷ rest) ≡ jobs_from submitters (with_job so_far what) (number + 1) rest
job_is_next submitters so_far number bytes rest what good = rw good refl

-- the first line with a fault
pub fault_ends : (submitters : ℕ) (so_far : List JobLine) (number : ℕ) (bytes : List ℕ) (rest : List (List ℕ)) (text : List ℕ) (why : ScriptFault) → IsReadAs (numbered_job submitters number bytes) (Err why) →
    jobs_from submitters so_far number (bytes ∷ rest) ≡ jobs_in submitters text → IsReadAs (jobs_in submitters text) (Err why)
fault_ends submitters so_far number bytes rest text fault.TooLong bad same = rw (← same) (rw bad refl)
fault_ends submitters so_far number bytes rest text (fault.Line at why) bad same = rw (← same) (rw bad refl)
fault_ends submitters so_far number bytes rest text fault.Memory bad same = tt

pub jobs_are_read : (submitters : ℕ) (text : List ℕ) (read : Result (List JobLine) ScriptFault) → length text ≤ 1048576 → IsReadAs (jobs_in submitters text) read → IsReadAs (jobs_of submitters text) read
jobs_are_read submitters text read small lined = by_length (nat_lt 1048576 (length text)) refl read lined
  where
    by_length : (v : Bool) → nat_lt 1048576 (length text) ≡ v → (read : Result (List JobLine) ScriptFault) → IsReadAs (jobs_in submitters text) read → IsReadAs (jobs_of submitters text) read
    by_length true e read lined = absurd (omega (arith, ltb-true 1048576 (length text) e))
    by_length false e (Ok script) lined = rw e lined
    by_length false e (Err fault.TooLong) lined = rw e lined
    by_length false e (Err (fault.Line number why)) lined = rw e lined
    by_length false e (Err fault.Memory) lined = tt

-- Each job of a script is of one of its submitters.

-- a line of a submitter below a number
abbrev IsBelow : ℕ → JobLine → Type 0
IsBelow n line = line.submitter < n

abbrev IsJobBelow : ℕ → Option JobLine → Type 0
IsJobBelow n found = IfSome found (IsBelow n)

head_below : (n : ℕ) (ws : Words) → IfOk (head_words n ws) (λ r. r.0.submitter < n)
unfolding head_words
head_below n ws =
    then_fits (λ k. k.0 < n) (λ r. r.0.submitter < n) (number_word n ws) _ (number_fits n ws) λ submitter low.
    whatever_fits (λ r. r.0.submitter < n) (number_word (2 ^ 16) submitter.1) _ λ q.
    whatever_fits (λ r. r.0.submitter < n) (kind_word q.1) _ λ kind.
    whatever_fits (λ r. r.0.submitter < n) (number_word (2 ^ 64) kind.1) _ λ slba.
    whatever_fits (λ r. r.0.submitter < n) (number_word (2 ^ 32) slba.1) _ λ blocks.
    low

job_below : (n number : ℕ) (ws : Words) → IfOk (job_words n number ws) (IsBelow n)
unfolding job_words
job_below n number ws =
    then_fits (λ r. r.0.submitter < n) (IsBelow n) (head_words n ws) _ (head_below n ws) λ head low.
    whatever_fits (IsBelow n) (data_words head.0.kind head.1) _ λ bytes.
    whatever_fits (IsBelow n) (request_words head.0.kind head.0.slba head.0.blocks bytes.1) _ λ request.
    low

some_below : (n : ℕ) (r : Result JobLine LineFault) → IfOk r (IsBelow n) → IfOk (some_job r) (IsJobBelow n)
some_below n (Ok line) below = below
some_below n (Err why) below = tt

words_below : (n number : ℕ) (ws : Words) → IfOk (job_of_words n number ws) (IsJobBelow n)
words_below n number [] = tt
words_below n number (first ∷ rest) = by_first_word (begins_comment first) (bytes_eq first (codes "job"))
  where
    by_first_word : (a b : Bool) → IfOk (if a then Ok None else if b then some_job (job_words n number rest) else Err UnknownVerb) (IsJobBelow n)
    by_first_word true b = tt
    by_first_word false true = some_below n (job_words n number rest) (job_below n number rest)
    by_first_word false false = tt

line_below : (n number : ℕ) (bytes : List ℕ) → IfOk (job_of_line n number bytes) (IsJobBelow n)
line_below n number bytes = whatever_fits (IsJobBelow n) (words_of bytes) (job_of_words n number) (words_below n number)

at_line_below : (n number : ℕ) (r : Result (Option JobLine) LineFault) → IfOk r (IsJobBelow n) → IfOk (at_line number r) (IsJobBelow n)
at_line_below n number (Ok found) below = below
at_line_below n number (Err why) below = tt

numbered_below : (n number : ℕ) (bytes : List ℕ) → IfOk (numbered_job n number bytes) (IsJobBelow n)
numbered_below n number bytes = by_line_number (nat_lt 65536 number)
  where
    by_line_number : (b : Bool) → IfOk (if b then Err (fault.Line number TooManyLines) else at_line number (job_of_line n number bytes)) (IsJobBelow n)
    by_line_number true = tt
    by_line_number false = at_line_below n number (job_of_line n number bytes) (line_below n number bytes)

with_job_below : (n : ℕ) (so_far : List JobLine) (found : Option JobLine) → All (IsBelow n) so_far → IsJobBelow n found → All (IsBelow n) (with_job so_far found)
with_job_below n so_far None all below = all
with_job_below n so_far (Some line) all below = All-push (IsBelow n) so_far line all below

lines_below : (n : ℕ) (so_far : List JobLine) (number : ℕ) (bytes : List (List ℕ)) → All (IsBelow n) so_far → IfOk (jobs_from n so_far number bytes) (All (IsBelow n))
lines_below n so_far number [] all = all
lines_below n so_far number (bytes ∷ rest) all = by_line (numbered_job n number bytes) (numbered_below n number bytes) (λ more below. lines_below n more (number + 1) rest below)
  where
    by_line : (r : Result (Option JobLine) ScriptFault) → IfOk r (IsJobBelow n) → ((more : List JobLine) → All (IsBelow n) more → IfOk (jobs_from n more (number + 1) rest) (All (IsBelow n)))
        → IfOk (then_jobs so_far (λ more. jobs_from n more (number + 1) rest) r) (All (IsBelow n))
    by_line (Ok found) below onward = onward (with_job so_far found) (with_job_below n so_far found all below)
    by_line (Err why) below onward = tt

pub jobs_are_below : (n : ℕ) (text : List ℕ) (read : Result (List JobLine) ScriptFault) → IsReadAs (jobs_in n text) read → IfOk read (All (λ line. line.submitter < n))
jobs_are_below n text (Ok found) e = rw e at (lines_below n [] 1 (lines text) (All-nil (IsBelow n)))
jobs_are_below n text (Err why) e = tt

-- Runs of scripts of jobs: who does which job, what is printed, and how a run ends.

-- One more job

jobs_more : (s : ℕ) (xs : List JobLine) (x : JobLine) → jobs_for s (xs ++ x ∷ []) ≡ (if is_of s x then jobs_for s xs ++ x.job ∷ [] else jobs_for s xs)
jobs_more s [] x = refl
jobs_more s (y ∷ xs) x = by_submitters (is_of s y) (is_of s x) (jobs_more s xs x)
  where
    by_submitters : (a b : Bool) → jobs_for s (xs ++ x ∷ []) ≡ (if b then jobs_for s xs ++ x.job ∷ [] else jobs_for s xs)
        → (if a then y.job ∷ jobs_for s (xs ++ x ∷ []) else jobs_for s (xs ++ x ∷ []))
        ≡ (if b then (if a then y.job ∷ jobs_for s xs else jobs_for s xs) ++ x.job ∷ [] else (if a then y.job ∷ jobs_for s xs else jobs_for s xs))
    by_submitters true true ih = ap (λ (js : List Job). y.job ∷ js) ih
    by_submitters true false ih = ap (λ (js : List Job). y.job ∷ js) ih
    by_submitters false true ih = ih
    by_submitters false false ih = ih

-- a submitter's list gets its next job, and the others stay
lists_more : (n : ℕ) (xs : List JobLine) (lists : List (List Job)) (x : JobLine) (next : List Job) → AreListsOf n xs lists → x.submitter < n → next ≡ jobs_for x.submitter xs ++ x.job ∷ []
    → AreListsOf n (xs ++ x ∷ []) (slice_set lists x.submitter next)
lists_more n xs lists x next are below is = record { count = length-set lists x.submitter next ∙ are.count; each = λ s low. by_submitter s low (x.submitter == s) refl }
  where
    by_submitter : (s : ℕ) → s < n → (b : Bool) → (x.submitter == s) ≡ b → slice_get (slice_set lists x.submitter next) s ≡ Some (jobs_for s (xs ++ x ∷ []))
    by_submitter s low true same =
        let at : x.submitter ≡ s = eqb-true x.submitter s same in
        let more : jobs_for s (xs ++ x ∷ []) ≡ jobs_for s xs ++ x.job ∷ [] = rw same at (jobs_more s xs x) in
        let here : slice_get (slice_set lists x.submitter next) x.submitter ≡ Some next = slice_get-set_same lists x.submitter next (omega (arith, are.count)) in
        let there : slice_get (slice_set lists x.submitter next) s ≡ Some next = subst (λ (k : ℕ). slice_get (slice_set lists x.submitter next) k ≡ Some next) at here in
        there ∙ ap Some (is ∙ (subst (λ (k : ℕ). jobs_for x.submitter xs ++ x.job ∷ [] ≡ jobs_for k xs ++ x.job ∷ []) at refl ∙ sym more))
    by_submitter s low false other =
        let more : jobs_for s (xs ++ x ∷ []) ≡ jobs_for s xs = rw other at (jobs_more s xs x) in
        slice_get-set_other lists x.submitter s next (λ e. eqb-false x.submitter s other (sym e)) ∙ (are.each s low ∙ ap Some (sym more))

empty_list : (n s : ℕ) → s < n → slice_get {X = List Job} (replicate n []) s ≡ Some []
empty_list n s low = slice_get-get_or {X = List Job} (replicate n []) s [] (omega (arith, length-replicate {A = List Job} n [])) ∙ ap Some (get_or-replicate {A = List Job} n s [] [] low)

pub lists_of_none : (n : ℕ) (lists : List (List Job)) → lists ≡ replicate n [] → AreListsOf n [] lists
lists_of_none n lists is = rw is (record { count = length-replicate n []; each = empty_list n })

-- a job was given to its submitter
pub given_more : (n : ℕ) (xs : List JobLine) (old new : List (List Job)) (x : JobLine) → AreListsOf n xs old → x.submitter < n
    → new ≡ slice_set old x.submitter (get_or old x.submitter [] ++ x.job ∷ []) → AreListsOf n (xs ++ x ∷ []) new
given_more n xs old new x are below is =
    let had : get_or old x.submitter [] ≡ jobs_for x.submitter xs = get_or_from_slice_get old x.submitter (jobs_for x.submitter xs) [] (are.each x.submitter below) in
    subst (AreListsOf n (xs ++ x ∷ [])) (sym is) (lists_more n xs old x (get_or old x.submitter [] ++ x.job ∷ []) are below (ap (λ (js : List Job). js ++ x.job ∷ []) had))

-- a list among others grew
pub is_given : {X : Type 0} (items : X → List Job) (lists : List X) (i s : ℕ) (list new : X) (job : Job) → i ≡ s → i < length lists → list ≡ get_or lists i list → items new ≡ items list ++ job ∷ []
    → map items (slice_set lists i new) ≡ slice_set (map items lists) s (get_or (map items lists) s [] ++ job ∷ [])
is_given items lists i s list new job same within is more =
    map-set items lists i new ∙ (ap (slice_set (map items lists) i) (more ∙ ap (λ (js : List Job). js ++ job ∷ []) (ap items is ∙ sym (get_or-map items lists i list [] within)))
    ∙ ap (λ (k : ℕ). slice_set (map items lists) k (get_or (map items lists) k [] ++ job ∷ [])) same)

place_is : (n : ℕ) (xs : List JobLine) (old : List (List Job)) (x : JobLine) → AreListsOf n xs old → x.submitter < n → length (get_or old x.submitter []) ≡ length (jobs_for x.submitter xs)
place_is n xs old x are below = ap length (get_or_from_slice_get old x.submitter (jobs_for x.submitter xs) [] (are.each x.submitter below))

-- what holds of all lines holds of the next
pub next_is : {A : Type 0} (P : A → Type 0) (xs ys : List A) (y : A) → All P (xs ++ y ∷ ys) → P y
next_is P xs ys y all = subst P (get_or_at xs y ys y (length xs) refl) (all (length xs) y (simp length-append (omega arith)))

headings_more : (before xs : List JobLine) (x : JobLine) → headings_from before (xs ++ x ∷ []) ≡ headings_from before xs ++ heading (before ++ xs) x ∷ []
headings_more before [] x = ap (λ (b : List JobLine). heading b x ∷ []) (sym (append-nil before))
headings_more before (y ∷ xs) x =
    ap (λ (hs : List Heading). heading before y ∷ hs)
    (headings_more (before ++ y ∷ []) xs x ∙ ap (λ (b : List JobLine). headings_from (before ++ y ∷ []) xs ++ heading b x ∷ []) (append_assoc before (y ∷ []) xs))

pub headings_grow : (n : ℕ) (xs : List JobLine) (x : JobLine) (lists : List (List Job)) (old new : List Heading) (place : ℕ) → AreListsOf n xs lists → x.submitter < n
    → old ≡ headings_from [] xs → new ≡ old ++ heading_at place x ∷ [] → place ≡ length (get_or lists x.submitter []) → new ≡ headings_from [] (xs ++ x ∷ [])
headings_grow n xs x lists old new place are below was grown at =
    let is : place ≡ length (jobs_for x.submitter xs) = at ∙ place_is n xs lists x are below in
    grown ∙ (ap (λ (hs : List Heading). hs ++ heading_at place x ∷ []) was ∙ (ap (λ (p : ℕ). headings_from [] xs ++ heading_at p x ∷ []) is ∙ sym (headings_more [] xs x)))

-- Each job has its end

there_is : {A : Type 0} (xs : List A) (k : ℕ) → k < length xs → is_some (slice_get xs k) ≡ true
there_is [] k less = absurd (omega arith)
there_is (x ∷ xs) zero less = refl
there_is (x ∷ xs) (suc k) less = there_is xs k (omega arith)

jobs_append : (s : ℕ) (xs ys : List JobLine) → jobs_for s (xs ++ ys) ≡ jobs_for s xs ++ jobs_for s ys
jobs_append s [] ys = refl
jobs_append s (x ∷ xs) ys = by_submitter (is_of s x) (jobs_append s xs ys)
  where
    by_submitter : (b : Bool) → jobs_for s (xs ++ ys) ≡ jobs_for s xs ++ jobs_for s ys
        → (if b then x.job ∷ jobs_for s (xs ++ ys) else jobs_for s (xs ++ ys)) ≡ (if b then x.job ∷ jobs_for s xs else jobs_for s xs) ++ jobs_for s ys
    by_submitter true ih = ap (λ (js : List Job). x.job ∷ js) ih
    by_submitter false ih = ih

-- a submitter has more jobs than come before one of them
before_is_less : (xs ys : List JobLine) (x : JobLine) → length (jobs_for x.submitter xs) < length (jobs_for x.submitter (xs ++ x ∷ ys))
before_is_less xs ys x =
    let mine : is_of x.submitter x ≡ true = eq-eqb x.submitter x.submitter refl in
    let one : jobs_for x.submitter (x ∷ ys) ≡ x.job ∷ jobs_for x.submitter ys = rw mine refl in
    let len : length (jobs_for x.submitter (xs ++ x ∷ ys)) ≡ length (jobs_for x.submitter xs) + length (jobs_for x.submitter (x ∷ ys)) =
    ap length (jobs_append x.submitter xs (x ∷ ys)) ∙ length-append (jobs_for x.submitter xs) (jobs_for x.submitter (x ∷ ys)) in
    let some : length (jobs_for x.submitter (x ∷ ys)) ≡ suc (length (jobs_for x.submitter ys)) = ap length one in
    omega (arith, len, some)

end_found : {X : Type 0} (items : X → List Job) (ends : List (List JobEnd)) (lists : List X) (s k : ℕ) (jobs : List Job) → map length ends ≡ map (λ list. length (items list)) lists
    → slice_get (map items lists) s ≡ Some jobs → k < length jobs → is_some (option_and_then (λ list. slice_get list k) (slice_get ends s)) ≡ true
end_found items ends [] s k jobs same is less = absurd cc
end_found items [] (l ∷ lists) s k jobs same is less = absurd cc
end_found items (e ∷ ends) (l ∷ lists) zero k jobs same is less =
    let long : length e ≡ length (items l) = cc in
    let list : items l ≡ jobs = cc in
    there_is e k (omega (arith, long, ap length list))
end_found items (e ∷ ends) (l ∷ lists) (suc s) k jobs same is less = let rest : map length ends ≡ map (λ list. length (items list)) lists = cc in end_found items ends lists s k jobs rest is less

pub ended_behind : {X : Type 0} (items : X → List Job) (n : ℕ) (all : List JobLine) (lists : List X) (ends : List (List JobEnd)) → AreListsOf n all (map items lists)
    → map length ends ≡ map (λ list. length (items list)) lists → All (λ line. line.submitter < n) all → (before lines : List JobLine) → before ++ lines ≡ all → all_ended ends before lines ≡ true
ended_behind items n all lists ends are same below before [] split = refl
ended_behind items n all lists ends are same below before (line ∷ rest) split =
    let low : line.submitter < n = next_is (λ l. l.submitter < n) before rest line (subst (All (λ l. l.submitter < n)) (sym split) below) in
    let less : length (jobs_for line.submitter before) < length (jobs_for line.submitter all) = subst (λ (ls : List JobLine). length (jobs_for line.submitter before) < length (jobs_for line.submitter ls)) split (before_is_less before rest line) in
    let first : is_some (end_of ends before line) ≡ true = end_found items ends lists line.submitter (length (jobs_for line.submitter before)) (jobs_for line.submitter all) same (are.each line.submitter low) less in
    let others : all_ended ends (before ++ line ∷ []) rest ≡ true = ended_behind items n all lists ends are same below (before ++ line ∷ []) rest (append_assoc before (line ∷ []) rest ∙ split) in
    rw first others

-- Where the writing was cut off

pub cut_between : (whole said rest : List ℕ) (a b : Option (List ℕ)) → whole ≡ said ++ rest → Appends a b said → Gains a b (λ front. IsFront front whole)
cut_between whole said rest a b joined first = (said, (rest, joined), first)

pub cut_inside : (whole said piece rest : List ℕ) (a b c : Option (List ℕ)) → whole ≡ said ++ (piece ++ rest) → Appends a b said → Gains b c (λ front. IsFront front piece)
    → Gains a c (λ front. IsFront front whole)
cut_inside whole said piece rest a b c joined first (front, (left, split), behind) = (said ++ front, (left ++ rest, grind (arith, common_steps)), appends_more a b c said front first behind)

-- What was read

pub jobs_are_told : (told : Option (List ℕ)) (n : ℕ) (text : List ℕ) (lines : List JobLine) → AreFirstOf 1048576 told text → jobs_of n text ≡ Ok lines → HasJobs told n lines
jobs_are_told told n text lines (all, same, first) good = (all, same, sym (same_if_short (Err fault.TooLong) (jobs_in n) text all first) ∙ good)

fault_is_told : (told : Option (List ℕ)) (n : ℕ) (text : List ℕ) (why : ScriptFault) → AreFirstOf 1048576 told text → jobs_of n text ≡ Err why → HasJobFault told n why
fault_is_told told n text why (all, same, first) bad = (all, same, sym (same_if_short (Err fault.TooLong) (jobs_in n) text all first) ∙ bad)

pub no_jobs_are_told : (told : Option (List ℕ)) (n : ℕ) (text : List ℕ) (why : ScriptFault) → AreFirstOf 1048576 told text → IsReadAs (jobs_of n text) (Err why) → IsNoJobs told n (fault_of_script why)
no_jobs_are_told told n text fault.TooLong first bad = fault_is_told told n text fault.TooLong first bad
no_jobs_are_told told n text (fault.Line number why) first bad = fault_is_told told n text (fault.Line number why) first bad
no_jobs_are_told told n text fault.Memory first bad = tt

-- Rounds of jobs, one after the other.

-- Lists of submitters

pub behind_assoc : {A : Type 0} (a b c : List (List A)) → behind (behind a b) c ≡ behind a (behind b c)
behind_assoc [] b c = refl
behind_assoc (x ∷ a) [] c = refl
behind_assoc (x ∷ a) (y ∷ b) [] = refl
behind_assoc (x ∷ a) (y ∷ b) (z ∷ c) = rw (append_assoc x y z, behind_assoc a b c) refl

map_behind : {A B : Type 0} (f : List A → List B) → ((xs ys : List A) → f (xs ++ ys) ≡ f xs ++ f ys) → (a b : List (List A)) → map f (behind a b) ≡ behind (map f a) (map f b)
map_behind f joins [] b = refl
map_behind f joins (x ∷ a) [] = refl
map_behind f joins (x ∷ a) (y ∷ b) = rw (joins x y, map_behind f joins a b) refl

-- lists that are as long as others stay so
pub lengths_behind : {A B : Type 0} (a c : List (List A)) (b d : List (List B)) → map length a ≡ map length b → map length c ≡ map length d → map length (behind a c) ≡ map length (behind b d)
lengths_behind [] c [] d first second = second
lengths_behind [] c (y ∷ b) d first second = absurd cc
lengths_behind (x ∷ a) c [] d first second = absurd cc
lengths_behind (x ∷ a) [] (y ∷ b) [] first second = first
lengths_behind (x ∷ a) [] (y ∷ b) (w ∷ d) first second = absurd cc
lengths_behind (x ∷ a) (z ∷ c) (y ∷ b) [] first second = absurd cc
lengths_behind (x ∷ a) (z ∷ c) (y ∷ b) (w ∷ d) first second =
    let one : length x ≡ length y = cc in
    let two : length z ≡ length w = cc in
    let rest : map length a ≡ map length b = cc in
    let others : map length c ≡ map length d = cc in
    let head : length (x ++ z) ≡ length (y ++ w) = omega (arith, length-append x z, length-append y w, one, two) in
    rw (head, lengths_behind a c b d rest others) refl

empty_behind : (xs ys : List Job) → not (length ys == 0) ≡ false → xs ++ ys ≡ xs
empty_behind xs [] none = append-nil xs
empty_behind xs (y ∷ ys) none = absurd (by_emptiness (length (y ∷ ys) == 0) refl none)
  where
    by_emptiness : (b : Bool) → (length (y ∷ ys) == 0) ≡ b → not b ≡ false → ⊥
    by_emptiness true is isnt = let zero_long : length (y ∷ ys) ≡ 0 = eqb-true (length (y ∷ ys)) 0 is in absurd (omega (arith, zero_long))
    by_emptiness false is isnt = absurd (true≢false isnt)

-- where no jobs are left, those that were done are all
pub none_left : {X : Type 0} (items : X → List Job) (done : List (List Job)) (left : List X) → length left ≤ length done → list_any (λ queue. not (length (items queue) == 0)) left ≡ false
    → behind done (map items left) ≡ done
none_left items done [] few none = behind_none done
none_left items [] (q ∷ left) few none = absurd (omega arith)
none_left items (x ∷ done) (q ∷ left) few none =
    let both = or_parts (not (length (items q) == 0)) (list_any (λ queue. not (length (items queue) == 0)) left) none in
    rw (empty_behind x (items q) both.0, none_left items done left (omega arith) both.1) refl

-- the jobs of one more round are done
pub more_done : {X Y : Type 0} (items_of : Y → List Job) (items : X → List Job) (jobs left rest : List X) (round : List Y) (done : List (List Job)) → behind done (map items left) ≡ map items jobs
    → behind (map items_of round) (map items rest) ≡ map items left → behind (behind done (map items_of round)) (map items rest) ≡ map items jobs
more_done items_of items jobs left rest round done all taken = behind_assoc done (map items_of round) (map items rest) ∙ (ap (behind done) taken ∙ all)

-- and those are all where none are left
pub all_done : {X Y : Type 0} (items_of : Y → List Job) (items : X → List Job) (jobs left rest : List X) (round : List Y) (done : List (List Job)) → behind done (map items left) ≡ map items jobs
    → behind (map items_of round) (map items rest) ≡ map items left → length rest ≤ length round → list_any (λ queue. not (length (items queue) == 0)) rest ≡ false
    → behind done (map items_of round) ≡ map items jobs
all_done items_of items jobs left rest round done all taken few none =
    let long = behind_long done (map items_of round) in
    sym (none_left items (behind done (map items_of round)) rest (omega (arith, long, few, length-map round items_of)) none) ∙ more_done items_of items jobs left rest round done all taken

-- one more submitter's jobs were taken
pub one_taken : {X : Type 0} (items : X → List Job) (round : List (List Job)) (left : List X) (place : ℕ) (queue rest : X) (jobs : List Job) → length round ≡ place → place < length left → queue ≡ get_or left place queue
    → jobs ++ items rest ≡ items queue → behind (round ++ jobs ∷ []) (map items (slice_set left place rest)) ≡ behind round (map items left)
one_taken items [] [] place queue rest jobs at within is all = absurd (omega (arith, at, within))
one_taken items [] (x ∷ left) zero queue rest jobs at within is all = ap (λ (js : List Job). js ∷ map items left) (all ∙ ap items is)
one_taken items [] (x ∷ left) (suc place) queue rest jobs at within is all = absurd (omega (arith, at))
one_taken items (r ∷ round) [] place queue rest jobs at within is all = absurd (omega (arith, within))
one_taken items (r ∷ round) (x ∷ left) zero queue rest jobs at within is all = absurd (omega (arith, at))
one_taken items (r ∷ round) (x ∷ left) (suc place) queue rest jobs at within is all =
    ap (λ (lists : List (List Job)). (r ++ items x) ∷ lists) (one_taken items round left place queue rest jobs (omega (arith, at)) (omega (arith, within)) is all)

-- What rounds leave

logs_more : (rounds : List Round) (round : Round) → logs_of (rounds ++ round ∷ []) ≡ logs_of rounds ++ round.log.entries
logs_more [] round = append-nil round.log.entries
logs_more (first ∷ rounds) round =
    ap (λ (es : List Entry). first.log.entries ++ es) (logs_more rounds round) ∙ sym (append_assoc first.log.entries (logs_of rounds) round.log.entries)

receipts_more : (rounds : List Round) (round : Round) → receipts_of (rounds ++ round ∷ []) ≡ behind (receipts_of rounds) round.report.receipts
receipts_more [] round = behind_none round.report.receipts
receipts_more (first ∷ rounds) round =
    ap (behind first.report.receipts) (receipts_more rounds round) ∙ sym (behind_assoc first.report.receipts (receipts_of rounds) round.report.receipts)

lists_more_of : (rounds : List Round) (round : Round) → lists_of (rounds ++ round ∷ []) ≡ behind (lists_of rounds) round.lists
lists_more_of [] round = behind_none round.lists
lists_more_of (first ∷ rounds) round = ap (behind first.lists) (lists_more_of rounds round) ∙ sym (behind_assoc first.lists (lists_of rounds) round.lists)

ends_more_in : (rounds : List Round) (round : Round) → ends_in (rounds ++ round ∷ []) ≡ behind (ends_in rounds) round.ends
ends_more_in [] round = behind_none round.ends
ends_more_in (first ∷ rounds) round = ap (behind first.ends) (ends_more_in rounds round) ∙ sym (behind_assoc first.ends (ends_in rounds) round.ends)

go_on_more : (before mid : State) (rounds : List Round) (round : Round) → GoOn before rounds mid → EndsRound mid round.log round.report round.world → AllWent mid round.lists round.report.receipts round.ends
    → GoOn before (rounds ++ round ∷ []) round.world.state
go_on_more before mid [] round same ends went =
    (subst (λ (s : State). EndsRound s round.log round.report round.world) same ends, subst (λ (s : State). AllWent s round.lists round.report.receipts round.ends) same went, refl)
go_on_more before mid (first ∷ rounds) round (one, all, rest) ends went = (one, all, go_on_more first.world.state mid rounds round rest ends went)

jobs_on : (log more : List Entry) → AreOfJobs log → AreOfJobs more → AreOfJobs (log ++ more)
jobs_on [] more before after = after
jobs_on (e ∷ log) more before after = (before.0, jobs_on log more before.1 after)

ends_append : (xs ys : List JobEnd) → ends_of (xs ++ ys) ≡ ends_of xs ++ ends_of ys
ends_append [] ys = refl
ends_append (Done status bytes ∷ xs) ys = rw (ends_append xs ys) refl
ends_append (Refused why ∷ xs) ys = ends_append xs ys

agree_behind : (receipts more : List (List Receipt)) (ends later : List (List JobEnd)) → AllAgree receipts ends → AllAgree more later → AllAgree (behind receipts more) (behind ends later)
agree_behind receipts more ends later first second =
    map_behind statuses_of (map-append (λ (r : Receipt). r.status)) receipts more ∙ rw (first, second) refl ∙ sym (map_behind ends_of ends_append ends later)

-- one more round
pub one_gone_on : (before mid : State) (done : List (List Job)) (ends : List (List JobEnd)) (round : Round) → HasGoneOn before done ends mid → EndsRound mid round.log round.report round.world
    → AllWent mid round.lists round.report.receipts round.ends → AllAgree round.report.receipts round.ends → AreOfJobs round.log.entries → HasGoneOn before (behind done round.lists) (behind ends round.ends) round.world.state
one_gone_on before mid done ends round gone ended went agree jobs = record {
  rounds = gone.rounds ++ round ∷ [];
  go_on = go_on_more before mid gone.rounds round gone.go_on ended went;
  lists_are = ap (λ (ls : List (List Job)). behind ls round.lists) gone.lists_are ∙ sym (lists_more_of gone.rounds round);
  ends_are = ap (λ (es : List (List JobEnd)). behind es round.ends) gone.ends_are ∙ sym (ends_more_in gone.rounds round);
  agree = rw (receipts_more gone.rounds round) (agree_behind (receipts_of gone.rounds) round.report.receipts ends round.ends gone.agree agree);
  jobs = rw (logs_more gone.rounds round) (jobs_on (logs_of gone.rounds) round.log.entries gone.jobs jobs);
}

round_leads : (before : State) (round : Round) → EndsRound before round.log round.report round.world → LeadsTo before round.log.entries round.world.state
round_leads before round ended =
    subst (λ (log : LogContents). LeadsTo before log.entries round.world.state) (sym ended.same_log)
    (subst (λ (world : WorldContents). LeadsTo before ended.book.log world.state) (sym ended.same_world) ended.closed.of.legal)

all_lead : (before after : State) (rounds : List Round) → GoOn before rounds after → LeadsTo before (logs_of rounds) after
all_lead before after [] same = same
all_lead before after (round ∷ rounds) (ended, went, rest) =
    leads_on before round.log.entries round.world.state (logs_of rounds) after (round_leads before round ended) (all_lead round.world.state after rounds rest)

-- what rounds over an opening left
pub left_from : (config : Config) (image : List ℕ) (lists : List (List Job)) (ends : List (List JobEnd)) (owners : List Owner) (counts : Counts) (after : State) → refusal_of_config config ≡ None → IsImage image
    → HasGoneOn (opening_of config image) lists ends after → AreOwners after owners → counts ≡ counts_of after.host → IsLeftFrom (opening_of config image) image lists ends owners counts
left_from config image lists ends owners counts after fits is_image gone owned counted = record {
  world = after;
  gone_on = gone;
  trusted = logs_of_jobs_are_runs config image (logs_of gone.rounds) after fits is_image (all_lead (opening_of config image) after gone.rounds gone.go_on) gone.jobs;
  owned = owned;
  counted = counted;
}
