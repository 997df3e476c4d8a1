-- Places of commands, and tokens.
use Rattle.std.proofs.Common.{◌≡◌, ℕ, ◌+◌, ◌<◌, ◌≤◌, ◌==◌, Bool, true, false, not, Some, List, [], ◌∷◌, ◌++◌, map, filter, find, refl, ap, sym, ◌∙◌, arith, eqb-true, eq-eqb, inl, inr, ◌&&◌}
use Rattle.std.{proofs.lemmas.Bool.{true≢false, and_parts, cases_Bool}, specs.{List.AllByRecursion}}
use Rattle.admin_commands.specs.{Entries.{admin_entry, named_queue}, declared.AdminKind.AdminKind}
use Rattle.entry_codec.specs.{Status.is_success, declared.{admin_opcode.TheConstants.{DELETE_IO_SQ, DELETE_IO_CQ, CREATE_IO_CQ, CREATE_IO_SQ}, status.Status.Status}}
use Rattle.entry_codec.specs.declared.submission.SubEntry.{SubEntry}
use Rattle.machine_model.proofs.{Counting.{one, total, total-append, total_without, total-filter, here}}
use Rattle.machine_model.specs.{Commands.{Management}, State.{Record, Job, PostedCompletion, is_at, without_record}}
use Rattle.page_memory.proofs.Lists.{all-all, all-append, found_is, all-found, all-filter}
pub use Rattle.machine_model.specs.Refusals.{is_job}
pub use Rattle.machine_model.specs.Agreeing.{is_absent_at as gone_at, has_completions_at as there_at, Knows, DeletesIo, EntryKnown, JobKnown, CompletionKnown, entry_is, job_is, completion_is, AdminCommandsStand as Placed, kind_of, kind_at, is_kind, succeeds, unmade, completed_well, done_well, deletes_sq, deletes_cq, creates_cq, creates_sq}

-- Where nothing was forged: each admin command's entry is in one place, and says what its record says.

pub placed_records : (rs rs' : List Record) (un : List SubEntry) (js : List Job) (ans : List PostedCompletion)
    → ((c : ℕ) → total (here 0 c) rs ≤ total (here 0 c) rs') → ((c : ℕ) (adm : AdminKind) → Knows rs c adm → Knows rs' c adm)
    → Placed rs un js ans → Placed rs' un js ans
placed_records rs rs' un js ans more tells h = record {
  places = λ c. omega (arith, h.places c, more c);
  entries = all-all (EntryKnown rs) (EntryKnown rs') (λ e k. (k.0, tells e.cid k.0 k.1, k.2)) un h.entries;
  jobs = all-all (JobKnown rs) (JobKnown rs') (λ j k z. let w = k z in (w.0, tells j.entry.cid w.0 w.1, w.2, w.3)) js h.jobs;
  completions = all-all (CompletionKnown rs) (CompletionKnown rs') (λ an k. (k.0, tells an.cid k.0 k.1)) ans h.completions;
}

-- jobs change without coming nearer to a success
pub record MildJob (f : Job → Job) : Type 0 where
  pub q : (j : Job) → (f j).q ≡ j.q
  pub entry : (j : Job) → (f j).entry ≡ j.entry
  pub verdict : (j : Job) (st : Status) → j.q ≡ 0 → (f j).verdict ≡ Some st → is_success st ≡ true → j.verdict ≡ Some st

jobs-map : (rs : List Record) (f : Job → Job) → MildJob f → (js : List Job) → AllByRecursion (JobKnown rs) js → AllByRecursion (JobKnown rs) (map f js)
jobs-map rs f mild [] all = tt
jobs-map rs f mild (j ∷ js) all = (
  λ z. let z' : j.q ≡ 0 = sym (mild.q j) ∙ z in let w = all.0 z' in
      (w.0, rw (mild.entry j) w.1, rw (mild.entry j) w.2, λ st v ok. w.3 st (mild.verdict j st z' v ok) ok),
  jobs-map rs f mild js all.1,
)

total_jobs-map : (c : ℕ) (f : Job → Job) → MildJob f → (js : List Job) → total (job_is c) (map f js) ≡ total (job_is c) js
total_jobs-map c f mild [] = refl
total_jobs-map c f mild (j ∷ js) =
    let first : job_is c (f j) ≡ job_is c j = rw (mild.q j, mild.entry j) refl in
    omega (arith, first, total_jobs-map c f mild js)

pub placed_jobs : (rs : List Record) (un : List SubEntry) (js : List Job) (ans : List PostedCompletion) (f : Job → Job)
    → MildJob f → Placed rs un js ans → Placed rs un (map f js) ans
placed_jobs rs un js ans f mild h = record {
  places = λ c. omega (arith, h.places c, total_jobs-map c f mild js);
  entries = h.entries;
  jobs = jobs-map rs f mild js h.jobs;
  completions = h.completions;
}

-- What is known as records change

pub find_more : (test : Record → Bool) (rs : List Record) (new r : Record) → find test rs ≡ Some r → find test (rs ++ new ∷ []) ≡ Some r
find_more test [] new r e = absurd cc
find_more test (x ∷ rs) new r e = grind (arith, find_more test rs new r)

pub find_new : (test : Record → Bool) (rs : List Record) (new : Record) → total (λ r. one (test r)) rs ≡ 0 → test new ≡ true → find test (rs ++ new ∷ []) ≡ Some new
find_new test [] new none e = rw e refl
find_new test (x ∷ rs) new none e = grind (arith, find_new test rs new)

pub find_map : (test : Record → Bool) (f : Record → Record) → ((r : Record) → test (f r) ≡ test r) → (rs : List Record) (r : Record) → find test rs ≡ Some r → find test (map f rs) ≡ Some (f r)
find_map test f same [] r e = absurd cc
find_map test f same (x ∷ rs) r e = rw (same x) (grind (arith, e, (find_map test f same rs r)))

-- a filter that keeps each record that passes
pub find_filter : (test keep : Record → Bool) → ((r : Record) → test r ≡ true → keep r ≡ true) → (rs : List Record) (r : Record) → find test rs ≡ Some r → find test (filter keep rs) ≡ Some r
find_filter test keep all [] r e = absurd cc
find_filter test keep all (x ∷ rs) r e = grind (arith, find_filter test keep all rs r)

-- Sending an admin command

pub placed_sent : (rs : List Record) (un : List SubEntry) (js : List Job) (ans : List PostedCompletion) (adm : AdminKind) (id : ℕ) (new : Record)
    → total (here 0 id) rs ≡ 0 → is_at 0 id new ≡ true → new.work ≡ Management adm
    → Placed rs un js ans → Placed (rs ++ new ∷ []) (un ++ admin_entry adm id ∷ []) js ans
placed_sent rs un js ans adm id new none at work h =
    let both : (new.q ≡ 0) × (new.cid ≡ id) = let p = and_parts (new.q == 0) (new.cid == id) at in (eqb-true new.q 0 p.0, eqb-true new.cid id p.1) in
    let wide : Placed (rs ++ new ∷ []) un js ans = placed_records rs (rs ++ new ∷ []) un js ans (λ c. omega (arith, total-append (here 0 c) rs (new ∷ [])))
    (λ c a k. (k.0, find_more (is_at 0 c) rs new k.0 k.1, k.2)) h in
    record {
      places = λ c. more c (id == c) refl (total-append (here 0 c) rs (new ∷ [])) (total-append (entry_is c) un (admin_entry adm id ∷ []));
      entries = all-append (EntryKnown (rs ++ new ∷ [])) un (admin_entry adm id) wide.entries (adm, (new, find_new (is_at 0 id) rs new none at, work), refl);
      jobs = wide.jobs;
      completions = wide.completions;
    }
  where
    more : (c : ℕ) (b : Bool) → (id == c) ≡ b
        → total (here 0 c) (rs ++ new ∷ []) ≡ total (here 0 c) rs + (here 0 c new + 0)
        → total (entry_is c) (un ++ admin_entry adm id ∷ []) ≡ total (entry_is c) un + (one (id == c) + 0)
        → total (entry_is c) (un ++ admin_entry adm id ∷ []) + (total (job_is c) js + total (completion_is c) ans) ≤ total (here 0 c) (rs ++ new ∷ [])
    more c b e r u = grind arith

-- Fetching one

pub placed_decided : (rs : List Record) (e : SubEntry) (un : List SubEntry) (js : List Job) (ans : List PostedCompletion) (j : Job) (st : Status)
    → j.q ≡ 0 → j.entry ≡ e → j.verdict ≡ Some st
    → ((adm : AdminKind) → e ≡ admin_entry adm e.cid → is_success st ≡ true → DeletesIo adm)
    → Placed rs (e ∷ un) js ans → Placed rs un (js ++ j ∷ []) ans
placed_decided rs e un js ans j st jq je jv promise h =
    let k = h.entries.0 in
    record {
      places = λ c.
          let one_job : job_is c j ≡ entry_is c e = rw (jq, je) refl in
          omega (arith, h.places c, total-append (job_is c) js (j ∷ []), one_job);
      entries = h.entries.1;
      jobs = all-append (JobKnown rs) js j h.jobs
          (λ z. (k.0, rw je k.1, rw je k.2, λ st' v ok. let same : st ≡ st' = cc (jv, v) in promise k.0 k.2 (rw same ok)));
      completions = h.completions;
    }

-- an entry that is completed at once, without success
pub placed_conflict : (rs : List Record) (e : SubEntry) (un : List SubEntry) (js : List Job) (ans : List PostedCompletion) (an : PostedCompletion)
    → an.cid ≡ e.cid → Placed rs (e ∷ un) js ans → Placed rs un js (ans ++ an ∷ [])
placed_conflict rs e un js ans an same h = record {
  places = λ c.
      let one' : completion_is c an ≡ entry_is c e = rw same refl in
      omega (arith, h.places c, total-append (completion_is c) ans (an ∷ []), one');
  entries = h.entries.1;
  jobs = h.jobs;
  completions = all-append (CompletionKnown rs) ans an h.completions (h.entries.0.0, rw same h.entries.0.1);
}

-- Reaping one

others : {A : Type 0} (w : A → ℕ) (id : A → ℕ) (c : ℕ) → ((x : A) → w x ≡ one (id x == c)) → (xs : List A) → total w xs ≡ 0 → AllByRecursion (λ x. id x ≡ c → ⊥) xs
others w id c same [] none = tt
others w id c same (x ∷ xs) none =
    (λ e. let w1 : w x ≡ 1 = same x ∙ ap one (eq-eqb (id x) c e) in absurd (omega arith), others w id c same xs (omega arith))

all-both : {A : Type 0} (P Q R : A → Type 0) → ((x : A) → P x → Q x → R x) → (xs : List A) → AllByRecursion P xs → AllByRecursion Q xs → AllByRecursion R xs
all-both P Q R f [] p q = tt
all-both P Q R f (x ∷ xs) p q = (f x p.0 q.0, all-both P Q R f xs p.1 q.1)

jobs_others : (c : ℕ) (js : List Job) → total (job_is c) js ≡ 0 → AllByRecursion (λ j. j.q ≡ 0 → j.entry.cid ≡ c → ⊥) js
jobs_others c [] none = tt
jobs_others c (j ∷ js) none =
    (λ z e. let w : job_is c j ≡ 1 = rw (eq-eqb j.q 0 z, eq-eqb j.entry.cid c e) refl in absurd (omega arith), jobs_others c js (omega arith))

pub placed_reaped : (rs : List Record) (un : List SubEntry) (js : List Job) (an : PostedCompletion) (ans : List PostedCompletion)
    → total (here 0 an.cid) rs < 2 → Placed rs un js (an ∷ ans) → Placed (without_record 0 an.cid rs) un js ans
placed_reaped rs un js an ans once h =
    let still : (c : ℕ) (adm : AdminKind) → (c ≡ an.cid → ⊥) → Knows rs c adm → Knows (without_record 0 an.cid rs) c adm =
    λ c adm far k. (k.0, find_filter (is_at 0 c) (λ r. not (is_at 0 an.cid r)) (λ r t. (grind arith)) rs k.0 k.1, k.2) in
    let knows = h.completions.0.1 in
    let r = knows.0 in
    let at = and_parts (r.q == 0) (r.cid == an.cid) (found_is (is_at 0 an.cid) rs r knows.1) in
    let rq : r.q ≡ 0 = eqb-true r.q 0 at.0 in
    let rc : r.cid ≡ an.cid = eqb-true r.cid an.cid at.1 in
    let mine : (c : ℕ) → here 0 c r ≡ completion_is c an = λ c. rw (rq, rc) refl in
    let own : completion_is an.cid an ≡ 1 = ap one (eq-eqb an.cid an.cid refl) in
    let few = h.places an.cid in
    let no_entry = others (entry_is an.cid) (λ (e : SubEntry). e.cid) an.cid (λ e. refl) un (omega arith) in
    let no_job = jobs_others an.cid js (omega arith) in
    let no_answer = others (completion_is an.cid) (λ (a : PostedCompletion). a.cid) an.cid (λ a. refl) ans (omega arith) in
    record {
      places = λ c. omega (arith, h.places c, total_without (here 0 c) 0 an.cid rs r knows.1 once, mine c);
      entries = all-both (EntryKnown rs) (λ e. e.cid ≡ an.cid → ⊥) (EntryKnown (without_record 0 an.cid rs)) (λ e k far. (k.0, still e.cid k.0 far k.1, k.2)) un h.entries no_entry;
      jobs = all-both (JobKnown rs) (λ j. j.q ≡ 0 → j.entry.cid ≡ an.cid → ⊥) (JobKnown (without_record 0 an.cid rs))
          (λ j k far z. let w = k z in (w.0, still j.entry.cid w.0 (far z) w.1, w.2, w.3)) js h.jobs no_job;
      completions = all-both (CompletionKnown rs) (λ a. a.cid ≡ an.cid → ⊥) (CompletionKnown (without_record 0 an.cid rs)) (λ a k far. (k.0, still a.cid k.0 far k.1)) ans h.completions.1 no_answer;
    }

-- Completing one

pub total_gone : {A : Type 0} (w : A → ℕ) (test : A → Bool) (xs : List A) (x : A) → find test xs ≡ Some x → total w (filter (λ y. not (test y)) xs) + w x ≤ total w xs
total_gone w test [] x e = absurd cc
total_gone w test (y ∷ xs) x e = grind (arith, total_gone w test xs x, find, total, filter, true, total-filter, false)

pub placed_completed : (rs : List Record) (un : List SubEntry) (js : List Job) (ans : List PostedCompletion) (cid : ℕ) (j : Job) (an : PostedCompletion)
    → find (is_job 0 cid) js ≡ Some j → an.cid ≡ cid → Placed rs un js ans → Placed rs un (filter (λ k. not (is_job 0 cid k)) js) (ans ++ an ∷ [])
placed_completed rs un js ans cid j an found same h =
    let at = and_parts (j.q == 0) (j.entry.cid == cid) (found_is (is_job 0 cid) js j found) in
    let jq : j.q ≡ 0 = eqb-true j.q 0 at.0 in
    let jc : j.entry.cid ≡ cid = eqb-true j.entry.cid cid at.1 in
    let k = all-found (JobKnown rs) (is_job 0 cid) js j found h.jobs jq in
    let ac : an.cid ≡ j.entry.cid = same ∙ sym jc in
    record {
      places = λ c.
          let mine : job_is c j ≡ completion_is c an = rw (jq, jc, same) refl in
          omega (arith, h.places c, total_gone (job_is c) (is_job 0 cid) js j found, mine, total-append (completion_is c) ans (an ∷ []));
      entries = h.entries;
      jobs = all-filter (JobKnown rs) (λ k'. not (is_job 0 cid k')) js h.jobs;
      completions = all-append (CompletionKnown rs) ans an h.completions (k.0, rw ac k.1);
    }

-- Jobs of other queues

pub placed_job_more : (rs : List Record) (un : List SubEntry) (js : List Job) (ans : List PostedCompletion) (j : Job) → (j.q == 0) ≡ false
    → Placed rs un js ans → Placed rs un (js ++ j ∷ []) ans
placed_job_more rs un js ans j other h = record {
  places = λ c. let none : job_is c j ≡ 0 = rw other refl in omega (arith, h.places c, total-append (job_is c) js (j ∷ []), none);
  entries = h.entries;
  jobs = all-append (JobKnown rs) js j h.jobs (λ z. absurd (true≢false (sym (eq-eqb j.q 0 z) ∙ other)));
  completions = h.completions;
}

pub placed_job_less : (rs : List Record) (un : List SubEntry) (js : List Job) (ans : List PostedCompletion) (keep : Job → Bool)
    → Placed rs un js ans → Placed rs un (filter keep js) ans
placed_job_less rs un js ans keep h = record {
  places = λ c. omega (arith, h.places c, total-filter (job_is c) keep js);
  entries = h.entries;
  jobs = all-filter (JobKnown rs) keep js h.jobs;
  completions = h.completions;
}

-- How many admin commands of a kind stand at the controller, and how their completions go: what each change does to those counts.

-- Sums

pub total_all : {A : Type 0} (v w : A → ℕ) (xs : List A) → AllByRecursion (λ x. v x ≡ w x) xs → total v xs ≡ total w xs
total_all v w [] all = refl
total_all v w (x ∷ xs) all = omega (arith, all.0, total_all v w xs all.1)

pub total_below : {A : Type 0} (v w : A → ℕ) → ((x : A) → v x ≤ w x) → (xs : List A) → total v xs ≤ total w xs
total_below v w less [] = omega arith
total_below v w less (x ∷ xs) = omega (arith, less x, total_below v w less xs)

pub total_none : {A : Type 0} (w : A → ℕ) → ((x : A) → w x ≡ 0) → (xs : List A) → total w xs ≡ 0
total_none w none [] = refl
total_none w none (x ∷ xs) = omega (arith, none x, total_none w none xs)

pub total_map_all : {A : Type 0} (w : A → ℕ) (f : A → A) (xs : List A) → AllByRecursion (λ x. w (f x) ≡ w x) xs → total w (map f xs) ≡ total w xs
total_map_all w f [] all = refl
total_map_all w f (x ∷ xs) all = omega (arith, all.0, total_map_all w f xs all.1)

-- Kinds

pub kind_known : (test : AdminKind → Bool) (rs : List Record) (c : ℕ) (adm : AdminKind) → Knows rs c adm → is_kind test rs c ≡ test adm
kind_known test rs c adm k = grind arith

-- what an identifier's command is for, if it passes
pub kind_found : (test : AdminKind → Bool) (rs : List Record) (c : ℕ) → is_kind test rs c ≡ true → (adm : AdminKind) × Knows rs c adm × (test adm ≡ true)
kind_found test rs c h = grind arith

-- what an entry's opcode and queue say of it
pub names_sq_deletion : (q c : ℕ) (adm : AdminKind) → deletes_sq q adm ≡ (((admin_entry adm c).opcode == DELETE_IO_SQ) && (named_queue (admin_entry adm c) == q))
names_sq_deletion q c adm = grind arith

-- the kinds of a known entry
pub record Named (rs : List Record) (e : SubEntry) : Type 0 where
  pub deletes_sq : (q : ℕ) → is_kind (deletes_sq q) rs e.cid ≡ ((e.opcode == DELETE_IO_SQ) && (named_queue e == q))
  pub deletes_cq : (q : ℕ) → is_kind (deletes_cq q) rs e.cid ≡ ((e.opcode == DELETE_IO_CQ) && (named_queue e == q))
  pub creates_cq : (q : ℕ) → is_kind (creates_cq q) rs e.cid ≡ ((e.opcode == CREATE_IO_CQ) && (named_queue e == q))
  pub creates_sq : (q : ℕ) → is_kind (creates_sq q) rs e.cid ≡ ((e.opcode == CREATE_IO_SQ) && (named_queue e == q))

pub named : (rs : List Record) (e : SubEntry) (adm : AdminKind) → Knows rs e.cid adm → e ≡ admin_entry adm e.cid → Named rs e
named rs e adm k is = record {
  deletes_sq = λ q. kind_known (deletes_sq q) rs e.cid adm k ∙ names_sq_deletion q e.cid adm ∙ ap (λ (x : SubEntry). (x.opcode == DELETE_IO_SQ) && (named_queue x == q)) (sym is);
  deletes_cq = λ q. kind_known (deletes_cq q) rs e.cid adm k ∙ (grind arith) ∙ ap (λ (x : SubEntry). (x.opcode == DELETE_IO_CQ) && (named_queue x == q)) (sym is);
  creates_cq = λ q. kind_known (creates_cq q) rs e.cid adm k ∙ (grind arith) ∙ ap (λ (x : SubEntry). (x.opcode == CREATE_IO_CQ) && (named_queue x == q)) (sym is);
  creates_sq = λ q. kind_known (creates_sq q) rs e.cid adm k ∙ (grind arith) ∙ ap (λ (x : SubEntry). (x.opcode == CREATE_IO_SQ) && (named_queue x == q)) (sym is);
}

-- What one count after a change has of it before: no more, of each kind

abbrev pub failing : (AdminKind → Bool) → List Record → Job → ℕ
failing test rs j = one ((j.q == 0) && is_kind test rs j.entry.cid && not (succeeds j))

abbrev pub succeeding : (AdminKind → Bool) → List Record → Job → ℕ
succeeding test rs j = one ((j.q == 0) && is_kind test rs j.entry.cid && succeeds j)

abbrev pub failed : (AdminKind → Bool) → List Record → PostedCompletion → ℕ
failed test rs an = one (is_kind test rs an.cid && not (is_success an.status))

abbrev pub succeeded : (AdminKind → Bool) → List Record → PostedCompletion → ℕ
succeeded test rs an = one (is_kind test rs an.cid && is_success an.status)

pub record Fewer (rs : List Record) (un : List SubEntry) (js : List Job) (ans : List PostedCompletion) (rs' : List Record) (un' : List SubEntry) (js' : List Job) (ans' : List PostedCompletion) : Type 0 where
  pub unmade : (test : AdminKind → Bool) → unmade test rs' un' js' ans' ≤ unmade test rs un js ans
  pub completed : (test : AdminKind → Bool) → completed_well test rs' ans' ≤ completed_well test rs ans
  pub done : (test : AdminKind → Bool) → done_well test rs' js' ans' ≤ done_well test rs js ans

-- Records change, and each command that stands is known as before

pub fewer_kept : (rs rs' : List Record) (un : List SubEntry) (js : List Job) (ans : List PostedCompletion) → Placed rs un js ans
    → ((c : ℕ) (adm : AdminKind) → Knows rs c adm → Knows rs' c adm) → Fewer rs un js ans rs' un js ans × Fewer rs' un js ans rs un js ans
fewer_kept rs rs' un js ans placed still =
    let fails : (test : AdminKind → Bool) → total (failing test rs') js ≡ total (failing test rs) js =
    λ test. total_all _ _ js (all-all (JobKnown rs) _ (λ j k. job_same test (λ j. not (succeeds j)) j k) js placed.jobs) in
    let wins : (test : AdminKind → Bool) → total (succeeding test rs') js ≡ total (succeeding test rs) js =
    λ test. total_all _ _ js (all-all (JobKnown rs) _ (λ j k. job_same test succeeds j k) js placed.jobs) in
    let completions_fail : (test : AdminKind → Bool) → total (failed test rs') ans ≡ total (failed test rs) ans =
    λ test. total_all _ _ ans (all-all (CompletionKnown rs) _ (λ an k. ap (λ (b : Bool). one (b && not (is_success an.status))) (same test an.cid k.0 k.1)) ans placed.completions) in
    let completions_well : (test : AdminKind → Bool) → total (succeeded test rs') ans ≡ total (succeeded test rs) ans =
    λ test. total_all _ _ ans (all-all (CompletionKnown rs) _ (λ an k. ap (λ (b : Bool). one (b && is_success an.status)) (same test an.cid k.0 k.1)) ans placed.completions) in (
      record { unmade = λ test. omega (arith, entries test, fails test, completions_fail test); completed = λ test. omega (arith, completions_well test); done = λ test. omega (arith, wins test, completions_well test) },
      record { unmade = λ test. omega (arith, entries test, fails test, completions_fail test); completed = λ test. omega (arith, completions_well test); done = λ test. omega (arith, wins test, completions_well test) },
    )
  where
    same : (test : AdminKind → Bool) (c : ℕ) (adm : AdminKind) → Knows rs c adm → is_kind test rs' c ≡ is_kind test rs c
    same test c adm k = kind_known test rs' c adm (still c adm k) ∙ sym (kind_known test rs c adm k)

    entries : (test : AdminKind → Bool) → total (λ (e : SubEntry). one (is_kind test rs' e.cid)) un ≡ total (λ (e : SubEntry). one (is_kind test rs e.cid)) un
    entries test = total_all _ _ un (all-all (EntryKnown rs) _ (λ e k. ap one (same test e.cid k.0 k.1)) un placed.entries)

    job_same : (test : AdminKind → Bool) (g : Job → Bool) (j : Job) → JobKnown rs j → one ((j.q == 0) && is_kind test rs' j.entry.cid && g j) ≡ one ((j.q == 0) && is_kind test rs j.entry.cid && g j)
    job_same test g j k = elim (cases_Bool (j.q == 0)) [
      | inl e ↦ rw e (let w = k (eqb-true j.q 0 e) in ap (λ (b : Bool). one (b && g j)) (same test j.entry.cid w.0 w.1))
      | inr e ↦ rw e refl
    ]

-- what is found without a record is another, and is found with it
without_other : (q cid c : ℕ) (rs : List Record) (r : Record) → find (is_at 0 c) (without_record q cid rs) ≡ Some r → is_at q cid r ≡ false
without_other q cid c [] r e = absurd cc
without_other q cid c (x ∷ rs) r e = grind (arith, without_other q cid c rs r)

found_back : (q cid c : ℕ) (rs : List Record) (r : Record) → ((x : Record) → is_at q cid x ≡ true → is_at 0 c x ≡ true → ⊥) → find (is_at 0 c) (without_record q cid rs) ≡ Some r → find (is_at 0 c) rs ≡ Some r
found_back q cid c [] r far e = absurd cc
found_back q cid c (x ∷ rs) r far e = grind (arith, found_back q cid c rs r far)

pub knows_back : (q cid : ℕ) (rs : List Record) (c : ℕ) (adm : AdminKind) → Knows (without_record q cid rs) c adm → Knows rs c adm
knows_back q cid rs c adm k = grind (arith, found_back, found_is, eqb-true, eq-eqb, without_other)
