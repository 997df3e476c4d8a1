-- Jobs, and the pages that they move.
use Rattle.machine_model.specs.After as a
use Rattle.machine_model.specs.Events as events
use Rattle.machine_model.specs.declared.words.Refusal.TheVariants as refusal
use Rattle.std.proofs.Common.{◌≡◌, ℕ, zero, suc, ◌+◌, ◌*◌, ◌/◌, ◌%◌, ◌≤◌, Option, Some, None, List, [], ◌++◌, length, take, drop, slice_get, ◌∙◌, arith, ◌⊎◌, inl, inr, ◌==◌, nat_lt, Bool, true, false, not, ◌&&◌, ◌||◌, ◌∷◌, filter, find, flat_map, is_some, if◌then◌else◌, refl, ap, sym, subst, eqb-true, slice_set, option_and_then, IfSome, MatchBool, length-append}
use Rattle.std.proofs.lemmas.{Bool.{true≢false, and_parts, and_from, cases_Bool, Decides.nat_tests}, Grind.common_steps}
use Rattle.std.{proofs.lemmas.List.Elements.{All-head, All-tail, All-append}, specs.{List.{AllByRecursion, list_all}, Option.option_map_or}}
use Rattle.page_memory.{proofs.Bytes.length-zero_page, specs.{Memory.Memory, Pages.{page_at, with_bytes, Pages, byte_at, with_page_bytes, zero_page, AreWhole}}}
use Rattle.page_memory.specs.declared.page.Half.TheVariants.{Submission, Completion}
use Rattle.sgl_descriptor.specs.{Spelling.{descriptor_of, spelling}, declared.{Direction.{Direction, TheVariants.{Destination, Source}}, Part.Part}}
use Rattle.controller_walk.{proofs.Along.list_moves_along, specs.Along.{MovesAlong, taken, descriptor_at}}
use Rattle.controller_walk.specs.{Units.{Stays, Reads, Moves, Course, Closes, Does, units, Act, touched}, declared.walk.WalkState.WalkState}
use Rattle.io_commands.{proofs.{Building.carries_entry, Pointers.length-pointer_of}, specs.{Asked.Request, Drafts.{io_entry, pointer_of, DraftContents, draft_first, entry_of}, Jobs.{direction_of_entry, need_of_entry}}}
use Rattle.io_commands.specs.{Requests.joined_parts, Values.numbers_of, declared.request.Kind.{Kind, TheVariants.{Read, Write, Compare, WriteZeroes, Verify, Flush, Deallocate, Admin}}}
use Rattle.block_image.specs.Blocks.{with_blocks}
use Rattle.machine_model.proofs.Moves.{host_moves, posted_bytes, sends, sent_record, half_from, creates_cq, creates_sq, grants_cq, grants_sq}
use Rattle.machine_model.{proofs.Steps.{Accepts, part_left, permitted, exact, managed_by, surely}, specs.After.course_of}
use Rattle.machine_model.specs.{Events.{Event, Reply}, Image.Made, Linked.IsLinked, Memory.{memory_of, with_pages, without_pages, zeroed_pages}}
use Rattle.machine_model.specs.{Proper.{IsProper, IsPage, ArePages, IsProperDraft}, Reached.{only, on_pages, ActIn}}
use Rattle.machine_model.specs.Refusals.{is_submitted, job_at, is_job, host_queue, slot_page, slot_offset, post_slot, fetch_slot}
use Rattle.machine_model.specs.Standing.{HasEntry, StandsAs, CommandStands, HasUnitLeft, JobStands}
use Rattle.machine_model.specs.State.{State, Job, ServedQueue, Record, record_at, pages_of, is_at, HostQueue, with_record}
use Rattle.machine_model.specs.Step.{Step, IsController, unit_answered, HostPart, LeavesByController, LeavesByHost, forges}
use Rattle.machine_model.specs.{Touch.{allowed, pages_of_command, pages_at_queues, stays_allowed, stays_own}, Trusted.TrustedRun, Work.Work}
use Rattle.machine_model.specs.declared.words.Work.TheVariants.{Io, Management}
use Rattle.page_ledger.specs.Owners.{is_among}
use Rattle.sgl_chain.proofs.{Back.spells_there, Spelled.length-spelling}
use Rattle.entry_codec.specs.{Completion.completion_bytes, Submission.{submission_bytes, command_words}, declared.completion.ComEntry.ComEntry}
use Rattle.entry_codec.specs.declared.{status.{Status.Status, TheConstants.Status.COMMAND_ID_CONFLICT}, submission.SubEntry.SubEntry}
use Rattle.entry_codec.specs.declared.hints.TheConstants.Hints.{NONE}
use Rattle.two_sides.proofs.{Along.along_proper, Commands.{keeps_fetch, keeps_walk, keeps_complete, Walking, walking, unit_in}}
use Rattle.two_sides.proofs.ControllerMoves.{linked_from_tied, completed_bytes, unit_memory, finished, cleared, fetch_by, walk_by, complete_by}
use Rattle.two_sides.proofs.{Ending.{keeps_in, act_touches}, NeverFull.{stood_on, stood_at_opening, ListsStay, stay_untouched, stay_walk}}
use Rattle.two_sides.proofs.{PoolBytes.host_jobs, Provided.{in_found, all_append}}
use Rattle.two_sides.proofs.Served.{Stood, JobList, job_list, course_in, course_ends, same_list, apart_in, chain_of, data_of, more_than_only}
use Rattle.two_sides.proofs.{Standing.forged_untrusted, Tied.tied_from_fit, Untouched.{holds_left as among_left, holds_right as among_right, stays}}
use Rattle.two_sides.specs.MachineLaws.{HasChainIfIo, entries_of}
use Rattle.admin_commands.specs.{Entries.{admin_entry, named_queue}, declared.AdminKind.{AdminKind, TheVariants.{Abort, DeleteSq, DeleteCq}}}
use Rattle.page_memory.proofs.Lists.{found_is, all-to, all-found}

-- How long a Write's bytes and the image stay: what a walk moves lies within the bytes that its entry asks for.

-- What is put within a list leaves its length the same

pub length_put : (xs new : List ℕ) (at : ℕ) → at + length new ≤ length xs → length (take at xs ++ new ++ drop (at + length new) xs) ≡ length xs
length_put xs new at fits = grind (arith, common_steps, fits)

-- What a list moves lies within the bytes that are needed

moves_within : (m : Memory) (dir : Direction) (need : ℕ) (parts : List Part) (c : Course) (k place n offset : ℕ) → MovesAlong m dir need parts c
    → slice_get (units c) k ≡ Some (Moves place n offset) → offset + n ≤ need
moves_within m dir need parts (Closes v) k place n offset h u = absurd cc
moves_within m dir need parts (Does Stays rest) zero place n offset h u = absurd cc
moves_within m dir need parts (Does (Reads p) rest) zero place n offset h u = absurd cc
moves_within m dir need parts (Does (Moves p n' o) rest) zero place n offset h u =
    omega (arith, h.0, moved_many u, moved_offset u)
  where
    moved_many : {p n o p' n' o' : ℕ} → Some (Moves p n o) ≡ Some (Moves p' n' o') → n ≡ n'
    moved_many u = cc

    moved_offset : {p n o p' n' o' : ℕ} → Some (Moves p n o) ≡ Some (Moves p' n' o') → o ≡ o'
    moved_offset u = cc
moves_within m dir need parts (Does Stays rest) (suc k) place n offset h u = moves_within m dir need parts rest k place n offset h u
moves_within m dir need parts (Does (Reads p) rest) (suc k) place n offset h u = moves_within m dir need (taken dir need parts (descriptor_at m p)) rest k place n offset h.1 u
moves_within m dir need parts (Does (Moves p n' o) rest) (suc k) place n offset h u = moves_within m dir need parts rest k place n offset h.2 u

-- so does a unit of a job
pub unit_within : (s : State) (j : Job) (place n offset : ℕ) → a.next_unit s j ≡ Some (Moves place n offset) → offset + n ≤ need_of_entry j.entry
unit_within s j place n offset u =
    moves_within (memory_of s.memory) (direction_of_entry j.entry) (need_of_entry j.entry) (taken (direction_of_entry j.entry) (need_of_entry j.entry) [] (descriptor_of j.entry.sgl1)) (course_of s j) j.units_done place n offset
    (list_moves_along (memory_of s.memory) j.entry.sgl1 (direction_of_entry j.entry) (need_of_entry j.entry)) u

pub page_few : (s : State) (place n : ℕ) → length (a.page_bytes s.memory place n) ≤ n
page_few s place n = by_page (page_at s.memory (place / 4096))
  where
    by_page : (o : Option (List ℕ)) → length (option_map_or (λ bytes. take n (drop (place % 4096) bytes)) o []) ≤ n
    by_page None = omega arith
    by_page (Some bytes) = few (drop (place % 4096) bytes)
      where
        few : (xs : List ℕ) → length (take n xs) ≤ n
        few xs = grind (arith, common_steps)

pub moved_length : (s : State) (j : Job) (place n offset : ℕ) → a.next_unit s j ≡ Some (Moves place n offset) → length j.bytes ≡ need_of_entry j.entry
    → length (with_bytes j.bytes offset (a.page_bytes s.memory place n)) ≡ need_of_entry j.entry
moved_length s j place n offset u len = length_put j.bytes (a.page_bytes s.memory place n) offset (omega (arith, page_few s place n, unit_within s j place n offset u, len)) ∙ len

-- the image stays as long as a Write's blocks lie in it
pub blocks_put : (image bytes : List ℕ) (slba blocks : ℕ) → length bytes ≡ 512 * blocks → slba + blocks ≤ length image / 512 → length (with_blocks image slba bytes) ≡ length image
blocks_put image bytes slba blocks len inside = length_put image bytes (512 * slba) (omega (arith, len, inside))

-- The laws of lists in trusted runs.

-- what stands so is linked
pub stood_linked : (s : State) → Stood s → IsLinked s
stood_linked s stood = linked_from_tied s stood.grounds.rings (tied_from_fit s stood.grounds.fit)

pub stood_after : (image : List ℕ) (made : List Made) (end : State) → TrustedRun image made end → Stood end
stood_after image made end run = along_proper Stood stood_on stood_at_opening image made end run

-- what a step from a trusted state is: nothing happens, or an accepted event leaves exactly one state
pub step_is : (old : State) (e : Event) (reply : Reply) (new : State) → Step old e reply new → old.trusted ≡ true
    → (new ≡ old) ⊎ (IsProper e × Accepts old e reply × (new.memory ≡ (a.after old e reply).memory) × (new.trusted ≡ true → new ≡ a.after old e reply))
step_is old e (events.Refused why touched) new step t = inl step.2
step_is old (events.Forge q slot bytes) reply new step t =
    let ok = permitted _ old.trusted true t step.1 in
    inr (
      step.0,
      ok,
      step.2.memory,
      λ u. absurd (true≢false (sym u ∙ (ap (λ (part : HostPart). part.trusted) (part_left old (events.Forge q slot bytes) reply new step.2) ∙ forged_untrusted old q slot bytes ok.0))),
    )
step_is old events.Reset reply new step t = inr (step.0, permitted _ old.trusted true t step.1, ap (λ (s : State). s.memory) step.2, λ u. step.2)
step_is old e (events.Reserved d) new step t =
    let is = exact _ old.trusted t step.2 in
    inr (step.0, permitted _ old.trusted (not (IsController e)) t step.1, ap (λ (s : State). s.memory) is, λ u. is)
step_is old e reply new step t =
    let is = exact _ old.trusted t step.2 in
    inr (step.0, permitted _ old.trusted (not (IsController e)) t step.1, ap (λ (s : State). s.memory) is, λ u. is)

-- Chains

of_entry : (cid : ℕ) (entry : SubEntry) (xs : List SubEntry) → AllByRecursion (λ e. e.cid ≡ cid → e ≡ entry) xs → AllByRecursion (λ e. e.sgl1 ≡ entry.sgl1) (filter (λ e. e.cid == cid) xs)
of_entry cid entry [] h = tt
of_entry cid entry (x ∷ xs) h = elim (cases_Bool (x.cid == cid)) [
  | inl e ↦ let ih = of_entry cid entry xs h.1 in rw e (ap (λ (y : SubEntry). y.sgl1) (h.0 (eqb-true x.cid cid e)), ih)
  | inr e ↦ let ih = of_entry cid entry xs h.1 in rw e ih
]

pub entries_named : (s : State) (q cid : ℕ) (entry : SubEntry) → HasEntry s.controller.queues s.controller.jobs q cid entry → AllByRecursion (λ e. e.sgl1 ≡ entry.sgl1) (entries_of s q cid)
entries_named s q cid entry has =
    all_append (λ e. e.sgl1 ≡ entry.sgl1) (option_map_or (λ at. filter (λ e. e.cid == cid) at.unfetched) (slice_get s.controller.queues q) []) (option_map_or (λ j. j.entry ∷ []) (job_at s q cid) [])
    (waiting (slice_get s.controller.queues q) has.unfetched) (running (job_at s q cid) refl)
  where
    waiting : (o : Option ServedQueue) → AllByRecursion (λ e. e.cid ≡ cid → e ≡ entry) (option_map_or (λ at. at.unfetched) o []) → AllByRecursion (λ e. e.sgl1 ≡ entry.sgl1) (option_map_or (λ at. filter (λ e. e.cid == cid) at.unfetched) o [])
    waiting None h = tt
    waiting (Some queue) h = of_entry cid entry queue.unfetched h

    running : (o : Option Job) → job_at s q cid ≡ o → AllByRecursion (λ e. e.sgl1 ≡ entry.sgl1) (option_map_or (λ j. j.entry ∷ []) o [])
    running None e = tt
    running (Some j) e =
        let ids = and_parts (j.q == q) (j.entry.cid == cid) (found_is (is_job q cid) s.controller.jobs j e) in
        (ap (λ (y : SubEntry). y.sgl1) (all-found (λ j. j.q ≡ q → j.entry.cid ≡ cid → j.entry ≡ entry) (is_job q cid) s.controller.jobs j e has.fetched (eqb-true j.q q ids.0) (eqb-true j.entry.cid cid ids.1)), tt)

pub stood_has_chains : (end : State) → Stood end → (q cid : ℕ) (r : Record) → record_at end.host q cid ≡ Some r → is_submitted r.phase ≡ true → HasChainIfIo end r r.work
stood_has_chains end stood q cid r found sub =
    of r.work (all-found (CommandStands end.memory end.controller.queues end.controller.jobs) (is_at q cid) end.host.records r found stood.commands)
  where
    of : (w : Work) → StandsAs end.memory end.controller.queues end.controller.jobs r w → HasChainIfIo end r w
    of (Io request) c =
        let l = c.1 sub in
        record {
          first = l.first;
          spells = λ has. spells_there (only (on_pages r.chain_pages) (byte_at end.memory)) (byte_at end.memory) (more_than_only (on_pages r.chain_pages) (byte_at end.memory)) l.first (joined_parts request.pieces r.data_pages) (l.spells has);
          named = all-to (λ e. e.sgl1 ≡ pointer_of request.kind (spelling l.first)) (entries_of end r.q r.cid) (entries_named end r.q r.cid (io_entry r.cid request (spelling l.first)) l.entry);
        }
    of (Management adm) c = tt

pub stay_after : (s : State) (e : Event) (reply : Reply) → Accepts s e reply → Stood s → ListsStay s (a.after s e reply).memory
stay_after s (events.Walk q cid) (events.Refused why touched) ok h = absurd ok.1
stay_after s (events.Walk q cid) reply ok h = stay_walk s q cid ok.0 h
stay_after s e reply ok h = stay_untouched s e reply ok refl h

pub stood_keeps_chains : (old : State) (event : Event) (reply : Reply) (new : State) (q cid : ℕ) (r : Record) (p : ℕ) → Stood old → old.trusted ≡ true → Step old event reply new
    → record_at old.host q cid ≡ Some r → is_submitted r.phase ≡ true → is_among r.chain_pages p ≡ true → page_at new.memory p ≡ page_at old.memory p
stood_keeps_chains old event reply new q cid r p stood trusted step found sub chain = by_step (step_is old event reply new step trusted)
  where
    by_step : (new ≡ old) ⊎ (IsProper event × Accepts old event reply × (new.memory ≡ (a.after old event reply).memory) × (new.trusted ≡ true → new ≡ a.after old event reply)) → page_at new.memory p ≡ page_at old.memory p
    by_step (inl e) = ap (λ (s : State). page_at s.memory p) e
    by_step (inr (proper, ok, e, all)) =
        ap (λ (pages : Pages). page_at pages p) e
        ∙ (stay_after old event reply ok stood).chains r (in_found (is_at q cid) old.host.records r found) sub p chain

-- Jobs

pub not_zero : (q : ℕ) → nat_lt 0 q ≡ true → (q == 0) ≡ false
not_zero q h = grind (arith, nat_tests)

pub list_at : (s : State) → Stood s → (q cid : ℕ) (j : Job) → nat_lt 0 q ≡ true → job_at s q cid ≡ Some j → JobList s j
list_at s stood q cid j some e =
    let ids = and_parts (j.q == q) (j.entry.cid == cid) (found_is (is_job q cid) s.controller.jobs j e) in
    job_list s stood j (in_found (is_job q cid) s.controller.jobs j e) (ap (λ (k : ℕ). k == 0) (eqb-true j.q q ids.0) ∙ not_zero q some) (λ P all. all-found P (is_job q cid) s.controller.jobs j e all)

pub stood_has_jobs : (end : State) → Stood end → (q cid : ℕ) (j : Job) → nat_lt 0 q ≡ true → job_at end q cid ≡ Some j → JobStands end j
stood_has_jobs end stood q cid j some e =
    let l = list_at end stood q cid j some e in
    let ids = and_parts (j.q == q) (j.entry.cid == cid) (found_is (is_job q cid) end.controller.jobs j e) in
    record {
      command = l.command;
      request = l.request;
      found = l.found;
      work = l.work;
      phase = l.phase;
      sized = l.sized;
      list = l.list;
      entry = l.entry;
      keeps = keeps_in l.command.chain_pages l.command.data_pages (course_of end j) (apart_in end stood.grounds l.command l.within) (course_in end j l);
      ends = λ moves. course_ends end stood j l moves;
      unit_left = all-found (HasUnitLeft end) (is_job q cid) end.controller.jobs j e stood.walks (ap (λ (k : ℕ). k == 0) (eqb-true j.q q ids.0) ∙ not_zero q some);
    }

-- a job of an identifier has one entry before and after a step
same_entry : (s : State) (e : Event) (reply : Reply) → Accepts s e reply → (q cid : ℕ) (entry : SubEntry) → AllByRecursion (λ j. j.q ≡ q → j.entry.cid ≡ cid → j.entry ≡ entry) s.controller.jobs
    → HasEntry s.controller.queues s.controller.jobs q cid entry → AllByRecursion (λ j. j.q ≡ q → j.entry.cid ≡ cid → j.entry ≡ entry) (a.after s e reply).controller.jobs
same_entry s e (events.Refused why touched) ok q cid entry jobs has = jobs
same_entry s (events.Fetch k) reply ok q cid entry jobs has = (keeps_fetch s k q cid entry has).fetched
same_entry s (events.Walk k c) reply ok q cid entry jobs has = (keeps_walk s k c q cid entry has).fetched
same_entry s (events.Complete k c) reply ok q cid entry jobs has = (keeps_complete s k c q cid entry has).fetched
same_entry s events.Reset reply ok q cid entry jobs has = tt
same_entry s e reply ok q cid entry jobs has = subst (AllByRecursion (λ j. j.q ≡ q → j.entry.cid ≡ cid → j.entry ≡ entry)) (sym (host_jobs s e reply ok refl refl)) jobs

pub stood_keeps_lists : (old new : State) (e : Event) (reply : Reply) (q cid : ℕ) (before after : Job) → Stood old → old.trusted ≡ true → Step old e reply new → new.trusted ≡ true
    → nat_lt 0 q ≡ true → job_at old q cid ≡ Some before → job_at new q cid ≡ Some after → (after.entry ≡ before.entry) × (course_of new after ≡ course_of old before)
stood_keeps_lists old new e reply q cid before after stood was step trusted some found found' = by_step (step_is old e reply new step was)
  where
    by_step : (new ≡ old) ⊎ (IsProper e × Accepts old e reply × (new.memory ≡ (a.after old e reply).memory) × (new.trusted ≡ true → new ≡ a.after old e reply)) → (after.entry ≡ before.entry) × (course_of new after ≡ course_of old before)
    by_step (inl same) =
        let same' : before ≡ after = cc (found, sym (ap (λ (s : State). job_at s q cid) same) ∙ found') in
        (ap (λ (j : Job). j.entry) (sym same'), ap (λ (s : State). course_of s after) same ∙ ap (λ (j : Job). course_of old j) (sym same'))
    by_step (inr (proper, ok, m, all)) =
        let is : new ≡ a.after old e reply = all trusted in
        let l = list_at old stood q cid before some found in
        let ids = and_parts (before.q == q) (before.entry.cid == cid) (found_is (is_job q cid) old.controller.jobs before found) in
        let rec_ids = and_parts (l.command.q == before.q) (l.command.cid == before.entry.cid) (found_is (is_at before.q before.entry.cid) old.host.records l.command l.found) in
        let has : HasEntry old.controller.queues old.controller.jobs q cid before.entry =
        subst (λ (entry : SubEntry). HasEntry old.controller.queues old.controller.jobs q cid entry) (sym l.entry)
        (subst (λ (k : ℕ). HasEntry old.controller.queues old.controller.jobs k cid (io_entry l.command.cid l.request (spelling l.list.first))) (eqb-true l.command.q before.q rec_ids.0 ∙ eqb-true before.q q ids.0)
        (subst (λ (c : ℕ). HasEntry old.controller.queues old.controller.jobs l.command.q c (io_entry l.command.cid l.request (spelling l.list.first))) (eqb-true l.command.cid before.entry.cid rec_ids.1 ∙ eqb-true before.entry.cid cid ids.1) l.list.entry)) in
        let found'' : job_at (a.after old e reply) q cid ≡ Some after = sym (ap (λ (s : State). job_at s q cid) is) ∙ found' in
        let ids' = and_parts (after.q == q) (after.entry.cid == cid) (found_is (is_job q cid) (a.after old e reply).controller.jobs after found'') in
        let entry : after.entry ≡ before.entry =
        all-found (λ j. j.q ≡ q → j.entry.cid ≡ cid → j.entry ≡ before.entry) (is_job q cid) (a.after old e reply).controller.jobs after found''
        (same_entry old e reply ok q cid before.entry has.fetched has) (eqb-true after.q q ids'.0) (eqb-true after.entry.cid cid ids'.1) in
        let stay = stay_after old e reply ok stood in (
          entry,
          ap (λ (s : State). course_of s after) is
              ∙ ap (λ (x : SubEntry). course_of (a.after old e reply) (record after { entry = x })) entry
              ∙ same_list old (a.after old e reply) stood before l (stay.chains l.command l.within l.phase) (stay.own l.command l.within l.phase),
        )

-- Touches

either_among : (chain own all : List ℕ) (xs : List ℕ) → ((p : ℕ) → (is_among chain p || is_among own p) ≡ true → is_among all p ≡ true)
    → list_all (λ p. is_among chain p || is_among own p) xs ≡ true → list_all (is_among all) xs ≡ true
either_among chain own all [] sub h = refl
either_among chain own all (x ∷ xs) sub h =
    let both = and_parts (is_among chain x || is_among own x) (list_all (λ p. is_among chain p || is_among own p) xs) h in
    and_from (is_among all x) (list_all (is_among all) xs) (sub x both.0) (either_among chain own all xs sub both.1)

-- a command's pages hold both
of_command : (r : Record) (p : ℕ) → (is_among r.chain_pages p || is_among r.data_pages p) ≡ true → is_among (pages_of r) p ≡ true
of_command r p h = elim (cases_Bool (is_among r.chain_pages p)) [ inl e ↦ chain_of r p e | inr e ↦ let h = rw e at h in data_of r p h ]

-- the pages of a command that is a job are allowed
job_pages : (s : State) (rs : List Record) (r : Record) (q cid : ℕ) → find (is_at q cid) rs ≡ Some r → is_some (job_at s q cid) ≡ true → (p : ℕ) → is_among (pages_of r) p ≡ true
    → is_among (flat_map (λ r. if is_some (job_at s r.q r.cid) then pages_of r else []) rs) p ≡ true
job_pages s [] r q cid e job p h = absurd cc
job_pages s (x ∷ rs) r q cid e job p h = by_match (is_at q cid x) refl e (λ e'. job_pages s rs r q cid e' job p h)
  where
    by_match : (b : Bool) → is_at q cid x ≡ b → (if b then Some x else find (is_at q cid) rs) ≡ Some r
        → (find (is_at q cid) rs ≡ Some r → is_among (flat_map (λ r. if is_some (job_at s r.q r.cid) then pages_of r else []) rs) p ≡ true)
        → is_among (flat_map (λ r. if is_some (job_at s r.q r.cid) then pages_of r else []) (x ∷ rs)) p ≡ true
    by_match true t e ih =
        let same : x ≡ r = cc in
        let ids = and_parts (x.q == q) (x.cid == cid) t in
        let job' : is_some (job_at s x.q x.cid) ≡ true = rw (eqb-true x.q q ids.0, eqb-true x.cid cid ids.1) job in
        among_left p (if is_some (job_at s x.q x.cid) then pages_of x else []) (flat_map (λ r. if is_some (job_at s r.q r.cid) then pages_of r else []) rs)
        (subst (λ (b : Bool). is_among (if b then pages_of x else []) p ≡ true) (sym job') (subst (λ (y : Record). is_among (pages_of y) p ≡ true) (sym same) h))
    by_match false t e ih = among_right p (if is_some (job_at s x.q x.cid) then pages_of x else []) (flat_map (λ r. if is_some (job_at s r.q r.cid) then pages_of r else []) rs) (ih e)

walk_stays : (s : State) (q cid : ℕ) (outcome : WalkState) (pages : List ℕ) → Accepts s (events.Walk q cid) (events.Walked outcome pages) → Stood s
    → (list_all (is_among (allowed s)) pages && list_all (is_among (pages_of_command s q cid)) pages) ≡ true
walk_stays s q cid outcome pages ok stood =
    let j = ok.1.0 in
    let w = walking s q cid j ok.0 stood ok.1.1 in
    let r = w.list.command in
    let at : record_at s.host q cid ≡ Some r = subst (λ (k : ℕ). record_at s.host k cid ≡ Some r) w.its_queue (subst (λ (c : ℕ). record_at s.host j.q c ≡ Some r) w.its_id w.list.found) in
    let kept = touched_by_unit j w (a.next_unit s j) refl ok.1.2 in
    and_from (list_all (is_among (allowed s)) pages) (list_all (is_among (pages_of_command s q cid)) pages)
    (either_among r.chain_pages r.data_pages (allowed s) pages
    (λ p h. among_right p (pages_at_queues s.host.queues s.controller.queues) (flat_map (λ r. if is_some (job_at s r.q r.cid) then pages_of r else []) s.host.records)
    (job_pages s s.host.records r q cid at (ap is_some ok.1.1) p (of_command r p h))) kept)
    (either_among r.chain_pages r.data_pages (pages_of_command s q cid) pages
    (λ p h. ap (λ (o : Option Record). is_among (option_map_or pages_of o []) p) at ∙ of_command r p h) kept)
  where
    touched_by_unit : (j : Job) → (w : Walking s q cid j) → (o : Option Act) → a.next_unit s j ≡ o → unit_answered o (a.next_answer s j) outcome pages
        → list_all (λ p. is_among w.list.command.chain_pages p || is_among w.list.command.data_pages p) pages ≡ true
    touched_by_unit j w None e h = absurd h
    touched_by_unit j w (Some act) e h =
        ap (list_all (λ p. is_among w.list.command.chain_pages p || is_among w.list.command.data_pages p)) (sym h.1)
        ∙ act_touches w.list.command.chain_pages w.list.command.data_pages act
        (unit_in (on_pages w.list.command.chain_pages) (on_pages w.list.command.data_pages) (course_of s j) j.units_done act (course_in s j w.list) e)

-- each step from a state that stands so stays within what is allowed
pub stood_stays : (old new : State) (e : Event) (reply : Reply) → Stood old → old.trusted ≡ true → Step old e reply new → (stays_allowed old reply && stays_own old e reply) ≡ true
stood_stays old new (events.Walk q cid) (events.Refused why touched) stood trusted step = grind arith
stood_stays old new (events.Walk q cid) (events.Walked outcome pages) stood trusted step = walk_stays old q cid outcome pages (permitted _ old.trusted false trusted step.1) stood
stood_stays old new (events.Walk q cid) (events.Fetched c touched) stood trusted step = absurd (permitted _ old.trusted false trusted step.1).1
stood_stays old new (events.Walk q cid) (events.Completed touched) stood trusted step = absurd (permitted _ old.trusted false trusted step.1).1
stood_stays old new (events.Walk q cid) reply stood trusted step = refl
stood_stays old new e reply stood trusted step = stays old e reply new step trusted (stood_linked old stood) refl

-- A page that is in has all its 4,096 bytes, whatever happens.

-- Pages

whole_set : (m : Pages) (k : ℕ) (x : Option (List ℕ)) → IfSome x (λ page. length page ≡ 4096) → AreWhole m → AreWhole (slice_set m k x)
whole_set [] k x fits whole p = whole p
whole_set (y ∷ m) zero x fits whole zero = fits
whole_set (y ∷ m) zero x fits whole (suc p) = whole (suc p)
whole_set (y ∷ m) (suc k) x fits whole zero = whole 0
whole_set (y ∷ m) (suc k) x fits whole (suc p) = whole_set m k x fits (λ i. whole (suc i)) p

whole_without : (pages : List ℕ) (m : Pages) → AreWhole m → AreWhole (without_pages pages m)
whole_without [] m whole = whole
whole_without (p ∷ pages) m whole = whole_without pages (slice_set m p None) (whole_set m p None tt whole)

whole_brought : (pages : List (ℕ × List ℕ)) (m : Pages) → ArePages pages → AreWhole m → AreWhole (with_pages pages m)
whole_brought [] m are whole = whole
whole_brought (page ∷ more) m are whole =
    whole_brought more (slice_set m page.0 (Some page.1)) (All-tail (λ page. IsPage page.1) page more are)
    (whole_set m page.0 (Some page.1) (All-head (λ page. IsPage page.1) page more are) whole)

whole_zeroed : (pages : List ℕ) (m : Pages) → AreWhole m → AreWhole (with_pages (zeroed_pages pages) m)
whole_zeroed [] m whole = whole
whole_zeroed (p ∷ pages) m whole = whole_zeroed pages (slice_set m p (Some zero_page)) (whole_set m p (Some zero_page) length-zero_page whole)

whole_written : (m : Pages) (p at : ℕ) (new : List ℕ) → at + length new ≤ 4096 → AreWhole m → AreWhole (with_page_bytes m p at new)
whole_written m p at new fits whole = whole_set m p (option_and_then (λ page. Some (with_bytes page at new)) (page_at m p)) (by_page (page_at m p) (whole p)) whole
  where
    by_page : (o : Option (List ℕ)) → IfSome o (λ page. length page ≡ 4096) → IfSome (option_and_then (λ page. Some (with_bytes page at new)) o) (λ page. length page ≡ 4096)
    by_page None h = tt
    by_page (Some page) h = length_put page new at (omega (arith, fits, h)) ∙ h

-- Slots lie in one page

length-submission_bytes : (entry : SubEntry) → length entry.sgl1 ≡ 16 → length (submission_bytes entry) ≡ 64
unfolding submission_bytes
length-submission_bytes entry count = omega (arith, length-append entry.sgl1 (command_words entry), count)

pub length-completion_bytes : (entry : ComEntry) → length (completion_bytes entry) ≡ 16
unfolding completion_bytes
length-completion_bytes entry = refl

-- the data pointer of a draft's entry is sixteen bytes
length-entry_of : (kind : Kind) (cid : ℕ) (r : Request) (sgl1 : List ℕ) (pages : List ℕ) → length sgl1 ≡ 16 → length (entry_of kind cid r sgl1 pages).sgl1 ≡ 16
length-entry_of Read cid r sgl1 pages count = length-pointer_of r.kind sgl1 count
length-entry_of Write cid r sgl1 pages count = length-pointer_of r.kind sgl1 count
length-entry_of Compare cid r sgl1 pages count = length-pointer_of r.kind sgl1 count
length-entry_of WriteZeroes cid r sgl1 pages count = length-pointer_of r.kind sgl1 count
length-entry_of Verify cid r sgl1 pages count = length-pointer_of r.kind sgl1 count
length-entry_of Flush cid r sgl1 pages count = length-pointer_of r.kind sgl1 count
length-entry_of Deallocate cid r sgl1 pages count = length-pointer_of r.kind sgl1 count
length-entry_of (Admin command) cid r sgl1 [] count = refl
length-entry_of (Admin command) cid r sgl1 (page ∷ pages) count = refl

-- the entry of a proper draft, and that of an admin command
draft_length : (d : DraftContents) (entry : SubEntry) → IsProperDraft d → d.entry ≡ Some entry → length (submission_bytes entry) ≡ 64
draft_length d entry proper e =
    length-submission_bytes entry (ap (λ (x : SubEntry). length x.sgl1) (carries_entry d entry proper.draft e)
    ∙ length-entry_of d.request.kind d.cid d.request (spelling (draft_first d)) (numbers_of d.data_pages) (length-spelling (draft_first d)))

-- What the host does

whole-posted : (q : ℕ) (entry : SubEntry) (s : State) → length (submission_bytes entry) ≡ 64 → AreWhole s.memory → AreWhole (posted_bytes q entry s)
whole-posted q entry s count whole = by_queue (host_queue s q)
  where
    by_queue : (o : Option HostQueue) → AreWhole (option_map_or (λ queue. with_page_bytes s.memory (slot_page queue.sq_pages 64 queue.ring.tail) (slot_offset 64 queue.ring.tail) (submission_bytes entry)) o s.memory)
    by_queue None = whole
    by_queue (Some queue) = whole_written s.memory (slot_page queue.sq_pages 64 queue.ring.tail) (slot_offset 64 queue.ring.tail) (submission_bytes entry) (omega (arith, count)) whole

brought_pages : (xs ys : List (ℕ × List ℕ)) (m : Pages) → ArePages xs → ArePages ys → AreWhole m → AreWhole (with_pages (xs ++ ys) m)
brought_pages xs ys m x y whole = whole_brought (xs ++ ys) m (All-append (λ page. IsPage page.1) xs ys x y) whole

-- What the controller does

whole-completed : (q cid : ℕ) (st : Status) (dw0 : ℕ) (s : State) → AreWhole s.memory → AreWhole (completed_bytes q cid st dw0 s)
whole-completed q cid st dw0 s whole = by_queue (host_queue s q)
  where
    by_queue : (o : Option HostQueue)
        → AreWhole (option_map_or (λ queue. with_page_bytes s.memory (slot_page queue.cq_pages 16 (post_slot s q)) (slot_offset 16 (post_slot s q))
        (completion_bytes (record { dw0 = dw0; sqhd = fetch_slot s q; sqid = q; cid = cid; phase = a.post_phase s q queue; status = st; hints = NONE }))) o s.memory)
    by_queue None = whole
    by_queue (Some queue) =
        let entry : ComEntry = record { dw0 = dw0; sqhd = fetch_slot s q; sqid = q; cid = cid; phase = a.post_phase s q queue; status = st; hints = NONE } in
        whole_written s.memory (slot_page queue.cq_pages 16 (post_slot s q)) (slot_offset 16 (post_slot s q)) (completion_bytes entry) (omega (arith, (length-completion_bytes entry))) whole

whole-managed : (e : SubEntry) (s : State) → AreWhole s.memory → AreWhole (a.managed e s).memory
whole-managed e s whole =
    managed_by (λ t. AreWhole t.memory) e s
    (record {
      refuses = λ st bad. whole;
      aborts = λ is8 walks. whole;
      is_late = λ is8. whole;
      stops = λ is0 q0 runs. whole;
      drops = λ is4 q0 there gone. whole;
      makes_completion = λ is5 q0 gone. whole;
      makes_submission = λ is1 q0 gone there. whole;
    })

whole-fetch : (q : ℕ) (s : State) → AreWhole s.memory → AreWhole (a.after_fetch q s).memory
whole-fetch q s whole =
    fetch_by (λ (t : State). AreWhole t.memory) s q whole (λ e n c. whole-completed q e.cid COMMAND_ID_CONFLICT 0 (a.taken_off q s) whole) (λ e n c z. whole-managed e (a.taken_off 0 s) whole) (λ e n c other. whole)

taken_few : (n offset : ℕ) (bytes : List ℕ) → length (take n (drop offset bytes)) ≤ n
taken_few n offset bytes = few n (drop offset bytes)
  where
    few : (n : ℕ) (xs : List ℕ) → length (take n xs) ≤ n
    few (suc n) (x ∷ xs) = omega (arith, few n xs)
    few x xs = omega arith

-- a unit of a walk moves bytes of one page
whole-moved : (chain own : ℕ → Bool) (s : State) (j : Job) (dir : Direction) (act : Act) → ActIn chain own act → AreWhole s.memory → AreWhole (unit_memory s j dir act)
whole-moved chain own s j dir Stays inside whole = whole
whole-moved chain own s j dir (Reads place) inside whole = whole
whole-moved chain own s j Source (Moves place n offset) inside whole = whole
whole-moved chain own s j Destination (Moves place n offset) inside whole =
    whole_written s.memory (place / 4096) (place % 4096) (take n (drop offset j.bytes)) (omega (arith, taken_few n offset j.bytes, inside.1)) whole

-- Every accepted event

whole_after : (s : State) (e : Event) (reply : Reply) → IsProper e → Accepts s e reply → (IsController e ≡ true → Stood s) → AreWhole s.memory → AreWhole (a.after s e reply).memory
whole_after s (events.Fetch q) (events.Fetched cid touched) pr ok stood whole = whole-fetch q s whole
whole_after s (events.Walk q cid) (events.Walked outcome touched) pr ok stood whole =
    walk_by (λ (t : State). AreWhole t.memory) s q cid whole
    (λ j act at next. let w = walking s q cid j ok.0 (stood refl) at in
    whole-moved (on_pages w.list.command.chain_pages) (on_pages w.list.command.data_pages) s j (direction_of_entry j.entry) act
    (unit_in (on_pages w.list.command.chain_pages) (on_pages w.list.command.data_pages) (a.course_of s j) j.units_done act (course_in s j w.list) next) whole)
whole_after s (events.Complete q cid) (events.Completed touched) pr ok stood whole =
    complete_by (λ (t : State). AreWhole t.memory) s q cid whole
    (λ j at c. whole-completed q cid (a.final_status s j) j.dw0 (a.on_served_queue (named_queue j.entry) cleared (finished q cid j s)) whole)
    (λ j at c. whole-completed q cid (a.final_status s j) j.dw0 (finished q cid j s) whole)
whole_after s (events.Fetch q) reply pr ok stood whole = absurd ok.1
whole_after s (events.Walk q cid) reply pr ok stood whole = absurd ok.1
whole_after s (events.Complete q cid) reply pr ok stood whole = absurd ok.1
whole_after s e reply pr ok stood whole =
    let sent : (adm : AdminKind) (id : ℕ) (s : State) → AreWhole s.memory → AreWhole (sends adm id s).memory = λ adm id s whole.
    whole-posted 0 (admin_entry adm id) (a.on_records (λ records. records ++ sent_record adm id ∷ []) s) (length-submission_bytes (admin_entry adm id) refl) whole in
    host_moves (λ (e : Event) (reply : Reply) (t : State). IsProper e → AreWhole t.memory) s e reply ok refl
    (record {
      reserves = λ q request d none is pr. whole_without (numbers_of d.data_pages ++ numbers_of d.chain_pages) s.memory whole;
      submits = λ d entry r none built its live pr.
          whole-posted d.q entry (a.on_records (with_record d.q d.cid a.submitted) (a.on_memory (with_pages (d.data_pages ++ d.chain_pages)) s)) (draft_length d entry pr built)
          (brought_pages d.data_pages d.chain_pages s.memory pr.data_pages pr.chain_pages whole);
      cancels = λ d r its pr. brought_pages d.data_pages d.chain_pages s.memory pr.data_pages pr.chain_pages whole;
      rings = λ q none pr. whole;
      rests = λ q is pr. whole;
      rejects = λ q why is pr. whole;
      tells = λ q cid st what e r request t heard w pr. whole;
      hears = λ q cid st what e r adm t heard w quiet unmade pr. whole;
      notes = λ q cid st what e r k t heard w pr. whole;
      frees = λ q cid st what e r k queue t heard w at retired good pr. whole;
      makes_cq = λ q cid st what e r k size base vector t heard w good pr. whole;
      unmakes_cq = λ q cid st what e r k size base vector queue t heard w at bad pr. whole;
      makes_sq = λ q cid st what e r k size base t heard w good pr. whole;
      unmakes_sq = λ q cid st what e r k size base queue t heard w at bad pr. whole;
      collects = λ q cid r f at held is pr. whole_without (pages_of r) s.memory whole;
      releases = λ f r its pr. brought_pages f.data_pages f.chain_pages s.memory pr.0 pr.1 whole;
      aborts = λ q cid id none new pr. sent (Abort q cid) id s whole;
      asks = λ q id queue none new live pr. sent (DeleteSq q) id s whole;
      drops = λ q id none new pr. sent (DeleteCq q) id s whole;
      creates_cqs = λ q vector id first queue none new granted pr. sent (creates_cq q vector first s) id (grants_cq q first s) (whole_zeroed (half_from Completion first s) s.memory whole);
      creates_sqs = λ q id first queue none new granted pr. sent (creates_sq q first s) id (grants_sq q first s) (whole_zeroed (half_from Submission first s) s.memory whole);
      retires = λ q queue none at deleted pr. whole;
      forges = λ q slot bytes queue none at pr. whole_written s.memory (slot_page queue.cq_pages 16 slot) (slot_offset 16 slot) bytes (omega (arith, pr)) whole;
      resets = λ pr. whole_zeroed (a.admin_pages s.host.queues) s.memory whole;
    }) pr

-- Steps

-- what an event leaves in a state in which something was forged
whole_forged : (t f c : Bool) (old next new : State) → t ≡ false → (c ≡ false → AreWhole next.memory)
    → MatchBool (not f && t) (new ≡ next) (MatchBool c (LeavesByController old next new) (LeavesByHost old next new)) → AreWhole new.memory
whole_forged true f c old next new untrusted due h = absurd (true≢false untrusted)
whole_forged false true false old next new untrusted due h = subst AreWhole (sym h.memory) (due refl)
whole_forged false false false old next new untrusted due h = subst AreWhole (sym h.memory) (due refl)
whole_forged x f c old next new untrusted due h = h.pages

untrusted_step : (old : State) (e : Event) (reply : Reply) (new : State) → old.trusted ≡ false → Step old e reply new → AreWhole old.memory → AreWhole new.memory
untrusted_step old e (events.Refused why touched) new untrusted step whole = subst (λ (s : State). AreWhole s.memory) (sym step.2) whole
untrusted_step old events.Reset reply new untrusted step whole =
    subst (λ (s : State). AreWhole s.memory) (sym step.2) (whole_after old events.Reset reply step.0 (surely _ old.trusted false refl step.1) (λ is. absurd (true≢false (sym is))) whole)
untrusted_step old e (events.Reserved d) new untrusted step whole =
    whole_forged old.trusted (forges e) (IsController e) old (a.after old e (events.Reserved d)) new untrusted
    (λ c. whole_after old e (events.Reserved d) step.0 (surely _ old.trusted (IsController e) c step.1) (λ is. absurd (true≢false (sym is ∙ c))) whole) step.2
untrusted_step old e reply new untrusted step whole =
    whole_forged old.trusted (forges e) (IsController e) old (a.after old e reply) new untrusted
    (λ c. whole_after old e reply step.0 (surely _ old.trusted (IsController e) c step.1) (λ is. absurd (true≢false (sym is ∙ c))) whole) step.2

trusted_step : (old : State) (e : Event) (reply : Reply) (new : State) → old.trusted ≡ true → Stood old → Step old e reply new → AreWhole old.memory → AreWhole new.memory
trusted_step old e reply new trusted stood step whole = by_step (step_is old e reply new step trusted)
  where
    by_step : (new ≡ old) ⊎ (IsProper e × Accepts old e reply × (new.memory ≡ (a.after old e reply).memory) × (new.trusted ≡ true → new ≡ a.after old e reply)) → AreWhole new.memory
    by_step (inl is) = subst (λ (s : State). AreWhole s.memory) (sym is) whole
    by_step (inr (proper, ok, is, all)) = subst AreWhole (sym is) (whole_after old e reply proper ok (λ c. stood) whole)

-- each step keeps pages whole; for a walk that writes, this needs its job to stand
pub stood_keeps_pages_whole : (old : State) (e : Event) (reply : Reply) (new : State) → (old.trusted ≡ true → Stood old) → Step old e reply new → AreWhole old.memory → AreWhole new.memory
stood_keeps_pages_whole old e reply new stood step whole = elim (cases_Bool old.trusted) [
  | inl trusted ↦ trusted_step old e reply new trusted (stood trusted) step whole
  | inr untrusted ↦ untrusted_step old e reply new untrusted step whole
]
