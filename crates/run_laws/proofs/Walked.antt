-- How many units a walk takes.
use Rattle.machine_model.specs.Events as events
use Rattle.machine_model.specs.After as a
use Rattle.std.proofs.Common.{◌≡◌, ℕ, ◌+◌, ◌==◌, Bool, true, false, ◌&&◌, Some, List, [], ◌∷◌, ◌++◌, length, filter, slice_get, if◌then◌else◌, refl, ap, sym, ◌∙◌, arith, eqb-true, eq-eqb, ◌/◌, ◌%◌, not, Option, None, map, find, take, drop, is_some, is_none, subst, inl, inr}
use Rattle.std.{proofs.lemmas.Bool.{true≢false, and_parts, or_parts, cases_Bool, not-true}, specs.List.{AllByRecursion, list_any}}
use Rattle.std.specs.Option.{option_map_or}
use Rattle.entry_codec.specs.{Status.is_success, declared.{admin_opcode.TheConstants.DELETE_IO_SQ, status.Status.Status}}
use Rattle.entry_codec.specs.declared.{status.TheConstants.Status.{COMMAND_ID_CONFLICT, ABORT_REQUESTED, ABORTED_SQ_DELETION}, submission.SubEntry.SubEntry}
use Rattle.machine_model.{proofs.{Steps.{managed_by, permitted, exact}, Tokens.is_job}, specs.{Events.{Event, Reply}, Image.Made}}
use Rattle.machine_model.specs.{Opening.opening, Refusals.{next_rung, job_at, conflicts}, State.{State, Job, Controller}, Step.{Step, resets, unit_answered}}
use Rattle.machine_model.specs.{Trusted.Steps, declared.words.Refusal.Refusal}
use Rattle.run_laws.proofs.Causes.{since_more, any_longer, any_last, not_conflicting, none_found, refused_no_fetch}
use Rattle.run_laws.proofs.{DataKept.{Going, stood_step, stood_along, along_steps}, DataOnce.fetched_entry, Moves.{JobsMove, jobs_event, is_walked}}
use Rattle.run_laws.specs.Statuses.{fetches, fetches_by, since_fetch}
use Rattle.run_laws.specs.Walked.{walks_by, walks_of, times_walked, units_done_count_the_walks, HasJobSo, walks_go_on_without_a_verdict, completes_by, ends_job, ends_walk_by, only_the_last_walk_ends}
use Rattle.two_sides.proofs.Along.{Carried, keeps, made_of, run_along, Unforged, unforged_next, unforged_front, unforged_back, unforged_run, unforged_end, trusted_end, cut}
use Rattle.two_sides.proofs.{Commands.walking, JobLaws.{not_zero as positive, stood_after}, NeverFull.{stood_on, stood_at_opening, host_jobs}}
use Rattle.two_sides.proofs.{PlacesKept.in_hand, Provided.all_in, Served.Stood, Standing.controller-completed}
use Rattle.admin_commands.specs.{Entries.{named_queue, named_command}, declared.SqState.TheVariants.Absent}
use Rattle.controller_walk.specs.{Units.{Act, Stays, Reads, Moves}, Walks.is_more, declared.walk.WalkState.WalkState}
use Rattle.sgl_descriptor.specs.declared.Direction.{Direction, TheVariants.{Destination, Source}}
use Rattle.io_commands.specs.Jobs.{verdict_of, direction_of_entry}
use Rattle.page_memory.specs.Pages.{with_page_bytes, with_bytes}
use Rattle.slot_table.proofs.Rows.{option_is}
use Rattle.page_memory.proofs.Lists.{found_is, all-found}
use Rattle.page_memory.proofs.Lists.{all-at}

-- A job has done as many units as there were walk steps of it since its fetch.

-- What is counted

pub record Counted (earlier : List Made) (j : Job) : Type 0 where
  pub fetched : list_any (fetches j.q j.entry.cid) earlier ≡ true
  pub count : j.units_done ≡ times_walked j.q j.entry.cid earlier

abbrev pub CountedIfIo : List Made → Job → Type 0
CountedIfIo earlier j = (j.q == 0) ≡ false → Counted earlier j

abbrev pub AllCounted : List Made → State → Type 0
AllCounted earlier s = AllByRecursion (CountedIfIo earlier) s.controller.jobs

-- one step more

filtered_more : (test : Made → Bool) (xs : List Made) (m : Made) → length (filter test (xs ++ m ∷ [])) ≡ length (filter test xs) + (if test m then 1 else 0)
filtered_more test [] m = grind arith
filtered_more test (x ∷ xs) m = grind (arith, filtered_more test xs m)

since_new : (q cid : ℕ) (xs : List Made) (m : Made) → fetches q cid m ≡ true → since_fetch q cid (xs ++ m ∷ []) ≡ []
since_new q cid [] m h = ap (λ (b : Bool). if b then [] else []) h
since_new q cid (x ∷ xs) m h = grind (arith, since_new q cid xs m, any_last)

walked_more : (q cid : ℕ) (earlier : List Made) (m : Made) → list_any (fetches q cid) earlier ≡ true → fetches q cid m ≡ false → times_walked q cid (earlier ++ m ∷ []) ≡ times_walked q cid earlier + (if walks_of q cid m then 1 else 0)
walked_more q cid earlier m any far = ap (λ (xs : List Made). length (filter (walks_of q cid) xs)) (since_more q cid earlier m any far) ∙ filtered_more (walks_of q cid) (since_fetch q cid earlier) m

counted_same : (earlier : List Made) (j k : Job) (m : Made) → k.q ≡ j.q → k.entry.cid ≡ j.entry.cid → k.units_done ≡ j.units_done → fetches j.q j.entry.cid m ≡ false → walks_of j.q j.entry.cid m ≡ false → Counted earlier j → Counted (earlier ++ m ∷ []) k
counted_same earlier j k m kq kc ku far still h = record {
  fetched = rw (kq, kc) (any_longer (fetches j.q j.entry.cid) earlier m h.fetched);
  count = rw (kq, kc) (ku ∙ h.count ∙ sym (walked_more j.q j.entry.cid earlier m h.fetched far ∙ (grind arith)));
}

-- A step is no fetch of a job, and no walk of a job that it doesn't walk

pub not_refetched : (s : State) (e : Event) (reply : Reply) → Going s e reply → (k : ℕ) (j : Job) → slice_get s.controller.jobs k ≡ Some j → fetches_by j.q j.entry.cid e reply ≡ false
not_refetched s (events.Fetch q) (events.Fetched c touched) g k j at = elim (cases_Bool ((q == j.q) && (c == j.entry.cid))) [
  | inl e ↦
      rw e (let ids = and_parts (q == j.q) (c == j.entry.cid) e in
      let f = fetched_entry s q j.entry.cid c g.ok.1.0 (eqb-true c j.entry.cid ids.1) in
      let none = not_conflicting s g.stood q f.0 (in_hand s q f.0 f.1) in
      let no = all-at (λ j. is_job q f.0.cid j ≡ false) s.controller.jobs k j at (none_found q f.0.cid s.controller.jobs none) in
      absurd (true≢false (sym (rw (eq-eqb j.q q (sym (eqb-true q j.q ids.0)), eq-eqb j.entry.cid f.0.cid (sym f.2)) refl) ∙ no)))
  | inr e ↦ rw e refl
]
not_refetched s (events.Fetch q) reply g k j at = absurd g.ok.1
not_refetched s e reply g k j at = refl

not_rewalked : (e : Event) (reply : Reply) (j : Job) → is_walked e j ≡ false → walks_by j.q j.entry.cid e reply ≡ false
not_rewalked e reply j far = grind arith

begun_fetched : (s : State) (e : Event) (reply : Reply) → Going s e reply → (q : ℕ) (entry : SubEntry) → e ≡ events.Fetch q → next_rung s q ≡ Some entry → fetches_by q entry.cid e reply ≡ true
begun_fetched s e reply g q entry is rung = grind arith

walk_counts : (s : State) (e : Event) (reply : Reply) → Going s e reply → (q cid : ℕ) → e ≡ events.Walk q cid → (walks_by q cid e reply ≡ true) × (fetches_by q cid e reply ≡ false)
walk_counts s (events.Walk k c) (events.Walked outcome touched) g q cid is = (rw (eq-eqb k q (cc (is)), eq-eqb c cid (cc (is))) refl, refl)
walk_counts s (events.Walk k c) reply g q cid is = absurd g.ok.1
walk_counts s e reply g q cid is = absurd (cc)

counts_move : (earlier : List Made) (s : State) (e : Event) (reply : Reply) → Going s e reply → JobsMove (CountedIfIo earlier) (CountedIfIo (earlier ++ record { before = s; event = e; reply = reply } ∷ [])) s e
counts_move earlier s e reply g =
    let m : Made = record { before = s; event = e; reply = reply } in
    record {
      stays = λ k j at far p other. counted_same earlier j j m refl refl refl (not_refetched s e reply g k j at) (not_rewalked e reply j far) (p other);
      fails = λ k j st waiting at far failed none p other. counted_same earlier j (record j { verdict = Some st; waiting_abort = waiting }) m refl refl refl (not_refetched s e reply g k j at) (not_rewalked e reply j far) (p other);
      manages = λ entry st dw0 is rung free other. absurd (true≢false other);
      begins = λ q entry is rung io free other.
          let f = begun_fetched s e reply g q entry is rung in record {
            fetched = any_last (fetches q entry.cid) earlier m f;
            count = ap (λ (xs : List Made). length (filter (walks_of q entry.cid) xs)) (sym (since_new q entry.cid earlier m f));
          };
      walks = λ q cid j act is w unit p other.
          let c = walk_counts s e reply g q cid is in
          let h = p w.other in
          let far : fetches j.q j.entry.cid m ≡ false = ap (λ (n : ℕ). fetches n j.entry.cid m) w.its_queue ∙ ap (λ (n : ℕ). fetches q n m) w.its_id ∙ c.1 in
          let one : walks_of j.q j.entry.cid m ≡ true = ap (λ (n : ℕ). walks_of n j.entry.cid m) w.its_queue ∙ ap (λ (n : ℕ). walks_of q n m) w.its_id ∙ c.0 in
          record {
            fetched = any_longer (fetches j.q j.entry.cid) earlier m h.fetched;
            count = ap (λ (n : ℕ). n + 1) h.count ∙ sym (walked_more j.q j.entry.cid earlier m h.fetched far ∙ (grind arith));
          };
    }

refused_no_walk : (e : Event) (why : Refusal) (touched : List ℕ) (q cid : ℕ) → walks_by q cid e (events.Refused why touched) ≡ false
refused_no_walk e why touched q cid = grind arith

record CountedSo (done : List Made) (s : State) : Type 0 where
  pub stood : Stood s
  pub counted : AllCounted done s

counts_carried : Carried CountedSo
counts_carried = record {
  refused = λ done s e why touched h. record {
    stood = h.stood;
    counted = all_in (CountedIfIo done) (CountedIfIo (done ++ made_of s e (events.Refused why touched) ∷ [])) s.controller.jobs
        (λ j within p other. counted_same done j j (made_of s e (events.Refused why touched)) refl refl refl (refused_no_fetch e why touched j.q j.entry.cid) (refused_no_walk e why touched j.q j.entry.cid) (p other)) h.counted;
  };
  taken = λ done s e reply proper ok t h. record {
    stood = stood_on s e reply proper ok t h.stood;
    counted = jobs_event (CountedIfIo done) (CountedIfIo (done ++ made_of s e reply ∷ [])) s e reply (counts_move done s e reply (record { proper = proper; ok = ok; trusted = t; stood = h.stood })) ok h.stood h.counted;
  };
}

pub units_counted : units_done_count_the_walks
units_counted image made end q cid j run io found =
    let all = (run_along CountedSo (keeps CountedSo counts_carried) image (λ pages queues n s opens. record { stood = stood_at_opening pages queues n s image opens; counted = tt }) made end run).counted in
    let ids = and_parts (j.q == q) (j.entry.cid == cid) (found_is (is_job q cid) end.controller.jobs j found) in
    let jq = eqb-true j.q q ids.0 in
    let c = all-found (CountedIfIo made) (is_job q cid) end.controller.jobs j found all (ap (λ (n : ℕ). n == 0) jq ∙ positive q io) in
    c.count ∙ ap (λ (n : ℕ). times_walked n j.entry.cid made) jq ∙ ap (λ (n : ℕ). times_walked q n made) (eqb-true j.entry.cid cid ids.1)

-- A walk that ended no longer goes on: its job has a verdict until it is completed.

-- Finding a job in changed lists

found_more : (q cid : ℕ) (js more : List Job) (j : Job) → find (is_job q cid) js ≡ Some j → find (is_job q cid) (js ++ more) ≡ Some j
found_more q cid [] more j e = absurd cc
found_more q cid (x ∷ js) more j e = grind (arith, found_more q cid js more j, is_job)

found_mapped : (q cid : ℕ) (f : Job → Job) → ((j : Job) → is_job q cid (f j) ≡ is_job q cid j) → (js : List Job) (j : Job) → find (is_job q cid) js ≡ Some j → find (is_job q cid) (map f js) ≡ Some (f j)
found_mapped q cid f same [] j e = absurd cc
found_mapped q cid f same (x ∷ js) j e = grind (arith, same x, found_mapped q cid f same js j)

found_kept : (q cid : ℕ) (keep : Job → Bool) → ((j : Job) → is_job q cid j ≡ true → keep j ≡ true) → (js : List Job) (j : Job) → find (is_job q cid) js ≡ Some j → find (is_job q cid) (filter keep js) ≡ Some j
found_kept q cid keep stays [] j e = absurd cc
found_kept q cid keep stays (x ∷ js) j e = elim (cases_Bool (is_job q cid x)) [
  | inl t ↦ let e = rw t at e in let is : x ≡ j = cc in rw (stays x t) (rw t (ap (λ (y : Job). Some y) is))
  | inr t ↦ let e = rw t at e in let ih = found_kept q cid keep stays js j in (grind (arith, t, (ih e)))
]

-- A job that has its verdict

pub record Decided (q cid : ℕ) (s : State) : Type 0 where
  pub job : Job
  pub found : job_at s q cid ≡ Some job
  pub over : is_some job.verdict ≡ true

abbrev pub DecidedIn : ℕ → ℕ → List Job → Type 0
DecidedIn q cid js = (j : Job) × (find (is_job q cid) js ≡ Some j) × (is_some j.verdict ≡ true)

decided_in : (q cid : ℕ) (s : State) → Decided q cid s → DecidedIn q cid s.controller.jobs
decided_in q cid s h = (h.job, h.found, h.over)

of_list : (q cid : ℕ) (s : State) → DecidedIn q cid s.controller.jobs → Decided q cid s
of_list q cid s h = record { job = h.0; found = h.1; over = h.2 }

-- jobs that keep their identifiers, and their verdicts where they have one
mapped : (q cid : ℕ) (f : Job → Job) (js : List Job) → ((j : Job) → (f j).q ≡ j.q) → ((j : Job) → (f j).entry ≡ j.entry) → ((j : Job) → is_some j.verdict ≡ true → is_some (f j).verdict ≡ true)
    → DecidedIn q cid js → DecidedIn q cid (map f js)
mapped q cid f js same_q same_entry over h = (f h.0, found_mapped q cid f (λ j. rw (same_q j, same_entry j) refl) js h.0 h.1, over h.0 h.2)

fetch_decided : (s : State) (n : ℕ) → Stood s → (q cid : ℕ) → DecidedIn q cid s.controller.jobs → DecidedIn q cid (a.after_fetch n s).controller.jobs
fetch_decided s n stood q cid h = by_entry (next_rung s n) refl
  where
    one_more : (js : List Job) (new : Job) → DecidedIn q cid js → DecidedIn q cid (js ++ new ∷ [])
    one_more js new x = (x.0, found_more q cid js (new ∷ []) x.0 x.1, x.2)

    managed : (e : SubEntry) → DecidedIn q cid (a.managed e (a.taken_off 0 s)).controller.jobs
    managed e =
        let abort_over : (j : Job) (b : Bool) → is_some j.verdict ≡ true → is_some (if b then record j { verdict = Some ABORT_REQUESTED; waiting_abort = Some e.cid } else j).verdict ≡ true =
        λ j b o. grind arith in
        let stop_q : (j : Job) (b : Bool) → (if b then record j { verdict = Some ABORTED_SQ_DELETION } else j).q ≡ j.q = λ j b. grind arith in
        let stop_entry : (j : Job) (b : Bool) → (if b then record j { verdict = Some ABORTED_SQ_DELETION } else j).entry ≡ j.entry = λ j b. grind arith in
        let stop_over : (j : Job) (b : Bool) → is_some j.verdict ≡ true → is_some (if b then record j { verdict = Some ABORTED_SQ_DELETION } else j).verdict ≡ true = λ j b o. grind arith in
        managed_by (λ (t : State). DecidedIn q cid t.controller.jobs) e (a.taken_off 0 s)
        (record {
          refuses = λ st bad. one_more s.controller.jobs _ h;
          aborts = λ is8 w. one_more (map (λ (j : Job). if (j.q == named_queue e) && (j.entry.cid == named_command e) then record j { verdict = Some ABORT_REQUESTED; waiting_abort = Some e.cid } else j) s.controller.jobs) _
              (mapped q cid (λ (j : Job). if (j.q == named_queue e) && (j.entry.cid == named_command e) then record j { verdict = Some ABORT_REQUESTED; waiting_abort = Some e.cid } else j) s.controller.jobs
              (λ j. (grind arith)) (λ j. (grind arith)) (λ j. abort_over j ((j.q == named_queue e) && (j.entry.cid == named_command e))) h);
          is_late = λ is8. one_more s.controller.jobs _ h;
          stops = λ is0 q0 runs. one_more (map (a.stopped (named_queue e)) s.controller.jobs) _
              (mapped q cid (a.stopped (named_queue e)) s.controller.jobs (λ j. stop_q j ((j.q == named_queue e) && is_none j.verdict)) (λ j. stop_entry j ((j.q == named_queue e) && is_none j.verdict)) (λ j. stop_over j ((j.q == named_queue e) && is_none j.verdict)) h);
          drops = λ is4 q0 there gone. one_more s.controller.jobs _ h;
          makes_completion = λ is5 q0 none. one_more s.controller.jobs _ h;
          makes_submission = λ is1 q0 gone there. one_more s.controller.jobs _ h;
        })

    inner : (e : SubEntry) → next_rung s n ≡ Some e → (b z : Bool) → conflicts s n ≡ b
        → DecidedIn q cid (if b then a.with_posted_completion n e.cid COMMAND_ID_CONFLICT 0 (a.taken_off n s) else if z then a.managed e (a.taken_off 0 s) else a.begun n e (a.taken_off n s)).controller.jobs
    inner e r true z con =
        absurd (true≢false (sym con ∙ ap (λ (o : Option SubEntry). option_map_or (λ e. is_some (job_at s n e.cid)) o false) r ∙ not_conflicting s stood n e (in_hand s n e r)))
    inner e r false true con = managed e
    inner e r false false con = one_more s.controller.jobs _ h

    by_entry : (o : Option SubEntry) → next_rung s n ≡ o
        → DecidedIn q cid (option_map_or (λ e. if conflicts s n then a.with_posted_completion n e.cid COMMAND_ID_CONFLICT 0 (a.taken_off n s) else if n == 0 then a.managed e (a.taken_off 0 s) else a.begun n e (a.taken_off n s)) o s).controller.jobs
    by_entry None r = h
    by_entry (Some e) r = inner e r (conflicts s n) (n == 0) refl

-- what a walk does to a job, another job than the one that it walks
other_job : (q cid k c : ℕ) (f : Job → Job) (js : List Job) → ((k == q) && (c == cid)) ≡ false → ((j : Job) → (f j).q ≡ j.q) → ((j : Job) → (f j).entry ≡ j.entry)
    → DecidedIn q cid js → DecidedIn q cid (map (λ (j : Job). if (j.q == k) && (j.entry.cid == c) then f j else j) js)
other_job q cid k c f js far same_q same_entry h = grind (arith, is_job, found_mapped, found_is, eq-eqb, eqb-true)

walk_decided : (s : State) (k c : ℕ) (q cid : ℕ) → ((k == q) && (c == cid)) ≡ false → DecidedIn q cid s.controller.jobs → DecidedIn q cid (a.after_walk k c s).controller.jobs
walk_decided s k c q cid far h = by_job (job_at s k c)
  where
    last : (j : Job) (js : List Job) → DecidedIn q cid js → DecidedIn q cid (map (λ (x : Job). if (x.q == k) && (x.entry.cid == c) then record x { units_done = x.units_done + 1; verdict = verdict_of (a.next_answer s j) } else x) js)
    last j js x = other_job q cid k c (λ x. record x { units_done = x.units_done + 1; verdict = verdict_of (a.next_answer s j) }) js far (λ x. refl) (λ x. refl) x

    moved : (j : Job) (dir : Direction) (act : Act) → DecidedIn q cid (a.on_job k c (λ x. record x { units_done = x.units_done + 1; verdict = verdict_of (a.next_answer s j) }) (a.moved dir act k c s)).controller.jobs
    moved j dir Stays = last j s.controller.jobs h
    moved j dir (Reads place) = last j s.controller.jobs h
    moved j Source (Moves place n offset) =
        last j (map (λ (x : Job). if (x.q == k) && (x.entry.cid == c) then record x { bytes = with_bytes x.bytes offset (a.page_bytes s.memory place n) } else x) s.controller.jobs)
        (other_job q cid k c (λ x. record x { bytes = with_bytes x.bytes offset (a.page_bytes s.memory place n) }) s.controller.jobs far (λ x. refl) (λ x. refl) h)
    moved j Destination (Moves place n offset) = elim (option_is (job_at s k c)) [
      | inl e ↦ rw e (last j s.controller.jobs h)
      | inr (x, e) ↦ rw e (last j s.controller.jobs h)
    ]

    inner : (j : Job) (o : Option Act) → DecidedIn q cid (option_map_or (λ act. a.on_job k c (λ x. record x { units_done = x.units_done + 1; verdict = verdict_of (a.next_answer s j) }) (a.moved (direction_of_entry j.entry) act k c s)) o s).controller.jobs
    inner j None = h
    inner j (Some act) = moved j (direction_of_entry j.entry) act

    by_job : (o : Option Job) → DecidedIn q cid (option_map_or (λ j. option_map_or (λ act. a.on_job k c (λ x. record x { units_done = x.units_done + 1; verdict = verdict_of (a.next_answer s j) }) (a.moved (direction_of_entry j.entry) act k c s)) (a.next_unit s j) s) o s).controller.jobs
    by_job None = h
    by_job (Some j) = inner j (a.next_unit s j)

complete_decided : (s : State) (k c : ℕ) (q cid : ℕ) → ((k == q) && (c == cid)) ≡ false → DecidedIn q cid s.controller.jobs → DecidedIn q cid (a.after_complete k c s).controller.jobs
complete_decided s k c q cid far h =
    let kept : (j : Job) → is_job q cid j ≡ true → not (is_job k c j) ≡ true = λ j is. grind (arith, is_job, eq-eqb, eqb-true) in
    elim (option_is (job_at s k c)) [
      | inl e ↦ rw e (h)
      | inr (j, e) ↦
          rw e (let s1 = a.on_controller (λ d. record d { image = a.image_completed j d.image }) (a.without_job k c s) in
          subst (λ (d : Controller). DecidedIn q cid d.jobs) (sym (controller-completed k c (a.final_status s j) j.dw0 (a.deletion_done j (a.final_status s j) s1)))
          (deleted s1 j ((j.q == 0) && (j.entry.opcode == DELETE_IO_SQ) && is_success (a.final_status s j)) (h.0, found_kept q cid (λ x. not (is_job k c x)) kept s.controller.jobs h.0 h.1, h.2)))
    ]
  where
    deleted : (s1 : State) (j : Job) (b : Bool) → DecidedIn q cid s1.controller.jobs → DecidedIn q cid (if b then a.on_served_queue (named_queue j.entry) (λ at. record at { state = Absent; unfetched = []; rung = 0 }) s1 else s1).controller.jobs
    deleted s1 j true x = x
    deleted s1 j false x = x

-- a walk step of a job that has its verdict is refused
no_walk : (s : State) (q cid : ℕ) (outcome : WalkState) (touched : List ℕ) → Going s (events.Walk q cid) (events.Walked outcome touched) → Decided q cid s → ⊥
no_walk s q cid outcome touched g h = grind (arith, walking)

decided_step : (q cid : ℕ) (s : State) (e : Event) (reply : Reply) → Going s e reply → completes_by q cid e reply ≡ false → resets e ≡ false → Decided q cid s → Decided q cid (a.after s e reply)
decided_step q cid s e (events.Refused why touched) g far other h = h
decided_step q cid s (events.Fetch n) reply g far other h = of_list q cid (a.after_fetch n s) (fetch_decided s n g.stood q cid (decided_in q cid s h))
decided_step q cid s (events.Walk k c) (events.Walked outcome touched) g far other h = grind (arith, no_walk, eqb-true, of_list, walk_decided, decided_in)
decided_step q cid s (events.Walk k c) reply g far other h = absurd g.ok.1
decided_step q cid s (events.Complete k c) (events.Completed touched) g far other h = of_list q cid (a.after_complete k c s) (complete_decided s k c q cid far (decided_in q cid s h))
decided_step q cid s (events.Complete k c) reply g far other h = absurd g.ok.1
decided_step q cid s e reply g far other h = of_list q cid (a.after s e reply) (subst (DecidedIn q cid) (sym (host_jobs s e reply g.ok refl other)) (decided_in q cid s h))

-- What a walk step leaves its job

walked_one : (q cid : ℕ) (f : Job → Job) → ((j : Job) → (f j).q ≡ j.q) → ((j : Job) → (f j).entry ≡ j.entry) → (js : List Job) (j : Job) → find (is_job q cid) js ≡ Some j
    → find (is_job q cid) (map (λ (x : Job). if (x.q == q) && (x.entry.cid == cid) then f x else x) js) ≡ Some (f j)
walked_one q cid f same_q same_entry js j e = grind (arith, found_mapped, found_is, is_job)

-- its verdict is what the walk step answers
pub record WalkedTo (q cid : ℕ) (s : State) (verdict : Option Status) : Type 0 where
  pub job : Job
  pub found : job_at s q cid ≡ Some job
  pub is : job.verdict ≡ verdict

walk_leaves : (s : State) (q cid : ℕ) (j : Job) (act : Act) → job_at s q cid ≡ Some j → a.next_unit s j ≡ Some act → WalkedTo q cid (a.after_walk q cid s) (verdict_of (a.next_answer s j))
walk_leaves s q cid j act at unit =
    subst (λ (o : Option Job). WalkedTo q cid (option_map_or (λ j. option_map_or (λ act. a.on_job q cid (λ k. record k { units_done = k.units_done + 1; verdict = verdict_of (a.next_answer s j) }) (a.moved (direction_of_entry j.entry) act q cid s)) (a.next_unit s j) s) o s) (verdict_of (a.next_answer s j)))
    (sym at)
    (subst (λ (o : Option Act). WalkedTo q cid (option_map_or (λ act. a.on_job q cid (λ k. record k { units_done = k.units_done + 1; verdict = verdict_of (a.next_answer s j) }) (a.moved (direction_of_entry j.entry) act q cid s)) o s) (verdict_of (a.next_answer s j)))
    (sym unit) (moved (direction_of_entry j.entry) act))
  where
    last : (js : List Job) (x : Job) → find (is_job q cid) js ≡ Some x
        → (y : Job) × (find (is_job q cid) (map (λ (k : Job). if (k.q == q) && (k.entry.cid == cid) then record k { units_done = k.units_done + 1; verdict = verdict_of (a.next_answer s j) } else k) js) ≡ Some y) × (y.verdict ≡ verdict_of (a.next_answer s j))
    last js x e = (record x { units_done = x.units_done + 1; verdict = verdict_of (a.next_answer s j) }, walked_one q cid (λ k. record k { units_done = k.units_done + 1; verdict = verdict_of (a.next_answer s j) }) (λ k. refl) (λ k. refl) js x e, refl)

    as_record : (t : State) → (y : Job) × (job_at t q cid ≡ Some y) × (y.verdict ≡ verdict_of (a.next_answer s j)) → WalkedTo q cid t (verdict_of (a.next_answer s j))
    as_record t h = record { job = h.0; found = h.1; is = h.2 }

    moved : (dir : Direction) (x : Act) → WalkedTo q cid (a.on_job q cid (λ k. record k { units_done = k.units_done + 1; verdict = verdict_of (a.next_answer s j) }) (a.moved dir x q cid s)) (verdict_of (a.next_answer s j))
    moved dir Stays = as_record (a.on_job q cid (λ k. record k { units_done = k.units_done + 1; verdict = verdict_of (a.next_answer s j) }) s) (last s.controller.jobs j at)
    moved dir (Reads place) = as_record (a.on_job q cid (λ k. record k { units_done = k.units_done + 1; verdict = verdict_of (a.next_answer s j) }) s) (last s.controller.jobs j at)
    moved Source (Moves place n offset) =
        as_record (a.on_job q cid (λ k. record k { units_done = k.units_done + 1; verdict = verdict_of (a.next_answer s j) }) (a.moved Source (Moves place n offset) q cid s))
        (last (map (λ (k : Job). if (k.q == q) && (k.entry.cid == cid) then record k { bytes = with_bytes k.bytes offset (a.page_bytes s.memory place n) } else k) s.controller.jobs)
        (record j { bytes = with_bytes j.bytes offset (a.page_bytes s.memory place n) })
        (walked_one q cid (λ k. record k { bytes = with_bytes k.bytes offset (a.page_bytes s.memory place n) }) (λ k. refl) (λ k. refl) s.controller.jobs j at))
    moved Destination (Moves place n offset) = elim (option_is (job_at s q cid)) [
      | inl e ↦ rw e (as_record (a.on_job q cid (λ k. record k { units_done = k.units_done + 1; verdict = verdict_of (a.next_answer s j) }) s) (last s.controller.jobs j at))
      | inr (x, e) ↦
          rw e (as_record (a.on_job q cid (λ k. record k { units_done = k.units_done + 1; verdict = verdict_of (a.next_answer s j) }) (a.on_memory (λ mem. with_page_bytes mem (place / 4096) (place % 4096) (take n (drop offset x.bytes))) s)) (last s.controller.jobs j at))
    ]

walk_left : (s : State) (q cid : ℕ) (outcome : WalkState) (touched : List ℕ) → Going s (events.Walk q cid) (events.Walked outcome touched) → WalkedTo q cid (a.after_walk q cid s) (verdict_of outcome)
walk_left s q cid outcome touched g = by_act (a.next_unit s g.ok.1.0) refl g.ok.1.2
  where
    by_act : (o : Option Act) → a.next_unit s g.ok.1.0 ≡ o → unit_answered o (a.next_answer s g.ok.1.0) outcome touched → WalkedTo q cid (a.after_walk q cid s) (verdict_of outcome)
    by_act None u h = absurd h
    by_act (Some act) u h = subst (λ (x : WalkState). WalkedTo q cid (a.after_walk q cid s) (verdict_of x)) h.0 (walk_leaves s q cid g.ok.1.0 act g.ok.1.1 u)

undecided_is : (outcome : WalkState) → is_none (verdict_of outcome) ≡ is_more outcome
undecided_is outcome = grind arith

pub walks_tell : walks_go_on_without_a_verdict
walks_tell image made s new q cid outcome touched run step =
    let trusted = trusted_end image made s run in
    let ok = permitted _ s.trusted false trusted step.1 in
    let x = walk_left s q cid outcome touched (record { proper = tt; ok = ok; trusted = trusted; stood = stood_after image made s run }) in
    subst (λ (t : State). HasJobSo t q cid outcome) (sym (exact _ s.trusted trusted step.2))
    (record { job = x.job; found = x.found; undecided = ap is_none x.is ∙ undecided_is outcome })

-- Along the steps

walk_event : (q cid : ℕ) (e : Event) (reply : Reply) → walks_by q cid e reply ≡ true → (outcome : WalkState) × (touched : List ℕ) × (e ≡ events.Walk q cid) × (reply ≡ events.Walked outcome touched)
walk_event q cid (events.Walk k c) (events.Walked outcome touched) h =
    let ids = and_parts (k == q) (c == cid) h in
    (outcome, touched, ap (λ (n : ℕ). events.Walk n c) (eqb-true k q ids.0) ∙ ap (events.Walk q) (eqb-true c cid ids.1), refl)
walk_event q cid e reply h = absurd (true≢false (sym h))

end_event : (q cid : ℕ) (e : Event) (reply : Reply) → ends_walk_by q cid e reply ≡ true
    → (outcome : WalkState) × (touched : List ℕ) × (e ≡ events.Walk q cid) × (reply ≡ events.Walked outcome touched) × (is_more outcome ≡ false)
end_event q cid (events.Walk k c) (events.Walked outcome touched) h =
    let parts = and_parts ((k == q) && (c == cid)) (not (is_more outcome)) h in
    let ids = and_parts (k == q) (c == cid) parts.0 in
    (outcome, touched, ap (λ (n : ℕ). events.Walk n c) (eqb-true k q ids.0) ∙ ap (events.Walk q) (eqb-true c cid ids.1), refl, not-true (is_more outcome) parts.1)
end_event q cid e reply h = absurd (true≢false (sym h))

has_verdict : (o : Option Status) → is_none o ≡ false → is_some o ≡ true
has_verdict o h = grind arith

ended : (s new : State) (e : Event) (reply : Reply) (q cid : ℕ) → Step s e reply new → s.trusted ≡ true → Stood s → ends_walk_by q cid e reply ≡ true → Decided q cid new
ended s new e reply q cid step t stood is =
    let x = end_event q cid e reply is in
    let made : Step s (events.Walk q cid) (events.Walked x.0 x.1) new = subst (λ (y : Event). Step s y (events.Walked x.0 x.1) new) x.2 (subst (λ (y : Reply). Step s e y new) x.3 step) in
    let ok = permitted _ s.trusted false t made.1 in
    let w = walk_left s q cid x.0 x.1 (record { proper = tt; ok = ok; trusted = t; stood = stood }) in
    subst (Decided q cid) (sym (exact _ s.trusted t made.2)) (record { job = w.job; found = w.found; over = ap is_some w.is ∙ has_verdict (verdict_of x.0) (undecided_is x.0 ∙ x.4) })

not_again : (s new : State) (e : Event) (reply : Reply) (q cid : ℕ) → Step s e reply new → s.trusted ≡ true → Stood s → walks_by q cid e reply ≡ true → Decided q cid s → ⊥
not_again s new e reply q cid step t stood is h =
    let x = walk_event q cid e reply is in
    let made : Step s (events.Walk q cid) (events.Walked x.0 x.1) new = subst (λ (y : Event). Step s y (events.Walked x.0 x.1) new) x.2 (subst (λ (y : Reply). Step s e y new) x.3 step) in
    no_walk s q cid x.0 x.1 (record { proper = tt; ok = permitted _ s.trusted false t made.1; trusted = t; stood = stood }) h

pub last_ends : only_the_last_walk_ends
last_ends image before walked between again later end q cid run ends walks = by_ending (list_any (ends_job q cid) between) refl
  where
    s0 : State
    s0 = opening run.pages run.queues run.entries run.segment image

    at_again : (mid : State) × Steps (opening run.pages run.queues run.entries run.segment image) (before ++ walked ∷ between) mid × Steps mid (again ∷ later) end
    at_again = cut (before ++ walked ∷ between) (again ∷ later) (opening run.pages run.queues run.entries run.segment image) end run.steps

    at_walked : (mid : State) × Steps (opening run.pages run.queues run.entries run.segment image) before mid × Steps mid (walked ∷ between) at_again.0
    at_walked = cut before (walked ∷ between) (opening run.pages run.queues run.entries run.segment image) at_again.0 at_again.1

    unforged : Unforged (opening run.pages run.queues run.entries run.segment image) (before ++ walked ∷ between)
    unforged =
        unforged_front (before ++ walked ∷ between) (again ∷ later) s0 (unforged_run image (before ++ walked ∷ between ++ again ∷ later) end run)

    unforged_walked : Unforged at_walked.0 (walked ∷ between)
    unforged_walked = unforged_back before (walked ∷ between) s0 at_walked.0 at_walked.1 unforged

    unforged_behind : Unforged at_walked.2.1 between
    unforged_behind = unforged_next walked between at_walked.0 at_walked.2.1 at_walked.2.2 unforged_walked

    stood_walked : Stood at_walked.0
    stood_walked = stood_along before s0 at_walked.0 at_walked.1 (unforged_front before (walked ∷ between) s0 unforged) (stood_at_opening run.pages run.queues run.entries run.segment image run.opens)

    stood_behind : Stood at_walked.2.1
    stood_behind = stood_step at_walked.0 walked.event walked.reply at_walked.2.1 at_walked.2.2 unforged_walked.trusted unforged_behind.trusted stood_walked

    by_ending : (b : Bool) → list_any (ends_job q cid) between ≡ b → b ≡ true
    by_ending true e = refl
    by_ending false e =
        let kept = along_steps (Decided q cid) (ends_job q cid) (λ s e reply g far h. let both = or_parts (completes_by q cid e reply) (resets e) far in decided_step q cid s e reply g both.0 both.1 h) between at_walked.2.1 at_again.0 at_walked.2.3 unforged_behind stood_behind e
        (ended at_walked.0 at_walked.2.1 walked.event walked.reply q cid at_walked.2.2 unforged_walked.trusted stood_walked ends) in
        absurd (not_again at_again.0 at_again.2.1 again.event again.reply q cid at_again.2.2 (unforged_end (before ++ walked ∷ between) s0 at_again.0 at_again.1 unforged) kept.0 walks kept.1)
