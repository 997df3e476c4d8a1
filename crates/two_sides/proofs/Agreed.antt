-- Agreement, after a reset too.
use Rattle.machine_model.specs.After as a
use Rattle.machine_model.specs.Events as events
use Rattle.machine_model.specs.declared.words.Refusal.TheVariants as refusal
use Rattle.std.proofs.Common.{◌≡◌, ℕ, ◌-◌, ◌<◌, ◌≤◌, Bool, true, false, ◌||◌, Option, Some, None, List, [], ◌∷◌, length, slice_get, if◌then◌else◌, MatchBool, arith, refl, ap, sym, ◌∙◌, subst, not, suc, zero, ◌==◌, filter, eqb-true, inl, inr, ◌⊎◌, is_some, is_none, get_or, ◌&&◌, ◌++◌}
use Rattle.std.proofs.lemmas.{Bool.{true≢false, or_parts, cases_Bool, and_parts, Decides.nat_tests}, Option.slice_get-get_or}
use Rattle.std.specs.{List.{AllByRecursion, list_all}, Option.option_map_or}
use Rattle.machine_model.proofs.{Headline.{sound_from_both, steps_keep, runs_are_sound, in_limits, limits_of}, HostLeaves.{host_leaves, peer_stays}}
use Rattle.machine_model.proofs.Moves.{host_moves, drafted_record, sent_record, creates_cq, creates_sq}
use Rattle.machine_model.proofs.Owned.{holds_from_sound, taken_from_out, all_reset, all_reset_queues, lost_keeps, reset_length, no_waiting, no_admin_completions, reset_admin_commands, reset_controller_length}
use Rattle.machine_model.proofs.Sound.{asked_from_fit, of_blocks}
use Rattle.machine_model.proofs.Steps.{length-with_pages, first_fails, rest_fails, unrefused, length-in_store, Accepts, IsKept, each_step, kept_anyway, part_left}
use Rattle.machine_model.proofs.TokensKept.{AreAdminHalves, IsSizedIfIo, sized_of, reset_pairs, reset_tokens, reset_command, reset_places, reset_heads, same_length, halves_fit, live_is, tokens_to}
use Rattle.machine_model.specs.{After.{after, course_of, next_answer, next_unit}, Agreeing.SidesAgree, Always.{LieTogether, HasHalves, HasPagesFor, IsProvided}}
use Rattle.machine_model.specs.{Claims.IsSound, Events.{Event, Reply}, Memory.{with_pages, zeroed_pages}, Opening.{Opens, opening, is_config}}
use Rattle.machine_model.specs.{Positions.IsInRing, Proper.IsProper}
use Rattle.machine_model.specs.{Refusals.{refusal_of, is_live, has_sq, has_cq, job_at, causes, reserve_causes, no_identifier, is_job, job_is, post_page, is_submitted}, Run.Run}
use Rattle.machine_model.specs.{Standing.{CommandStands, IsSized}, State.{State, HostQueue, Record, Job, outstanding_on, is_at, with_record, without_record}}
use Rattle.machine_model.specs.Step.{Step, Refuses, MayRefuse, Answers, IsController, LeavesByController, LeavesByHost, IsNewIdentifier, allocates, reaped, touched_by_refusal, is_exact, HostPart, KeepsController}
use Rattle.machine_model.specs.{Work.Work, declared.words.{Peer.TheVariants.{Modelled}, HostState.TheVariants.Live, Phase.TheVariants.Held, Refusal.Refusal, Work.TheVariants.Io}}
use Rattle.two_sides.proofs.{Along.{along_proper, each_proper_step, stays_trusted}, Heads.heads_at_opening}
use Rattle.two_sides.proofs.JobLaws.{stood_has_chains, stood_has_jobs, stood_keeps_chains, stood_keeps_lists, stood_linked, stood_stays, stood_keeps_pages_whole}
use Rattle.two_sides.proofs.{NeverFull.{Roomy, roomy_on, reply_not_full, stood_at_opening}, PoolBytes.{trusted_before, trusted_or_reset, reset_leaves}}
use Rattle.two_sides.proofs.{Provided.{all_in, all_in_both, all_append, all_map, steps_provide, runs_provide}, Served.{Stood, reserved_size}, Standing.stands_once}
use Rattle.two_sides.proofs.TiedAll.{live_is_there, limits_stay}
use Rattle.two_sides.specs.AgreeingLaws.{openings_agree, steps_keep_agreement, trusted_runs_agree, agreeing_sides_are_linked, agreed_live_queues_are_there, agreeing_sides_have_room, agreed_admin_commands_stand_once, agreed_jobs_stand, agreed_jobs_keep_their_lists, agreed_chains_stand, agreed_chains_stay, agreeing_steps_stay_allowed}
use Rattle.two_sides.specs.InOrder.{IsInOrder, IsAnswered, every_event_is_answered, openings_are_in_order, steps_keep_order}
use Rattle.two_sides.specs.Recovering.{IsChecked, resets_recover, CanRecover, openings_can_recover, every_run_recovers}
use Rattle.page_memory.{proofs.Bytes.zeros_pool, specs.declared.page.Half.{Half, TheVariants.{Submission, Completion}}}
use Rattle.queue_pair.specs.{Memory.half_pages, Rings.fresh_host_ring}
use Rattle.io_commands.specs.{Asked.Request, Requests.{FitsRequest, data_count, fault_of, is_admin}, Values.IsGood, declared.{block_size.BlockSize.TheVariants.{Bytes512}, request.RequestFault.RequestFault}}
use Rattle.page_ledger.specs.Owners.{is_among}
use Rattle.controller_walk.specs.Units.{Act, first_passing, touched, units}
use Rattle.admin_commands.specs.declared.AdminKind.TheVariants.{Abort, DeleteSq, DeleteCq}
use Rattle.entry_codec.specs.declared.status.TheConstants.Status.{ABORTED_SQ_DELETION}
use Rattle.slot_table.proofs.Rows.{option_is}
use Rattle.page_memory.proofs.Lists.{found_is, all-at, all-filter}
use Rattle.page_ledger.proofs.Pages.{length-pages_from}

-- Both sides agree in an opening, and each step keeps that as long as nothing is forged.

-- The same, as the lemmas on each event have it

pub stood_of : (s : State) → SidesAgree s → Stood s
stood_of s agree = record {
  grounds = record {
    taken = taken_from_out s agree.sound.out;
    rings = agree.rings;
    stands = (holds_from_sound s agree.sound, record { placed = agree.admin_commands });
    fit = record {
      some_entries = agree.some_entries;
      few = agree.few_queues;
      asked = asked_from_fit s.host agree.sound.deletions;
      pairs = agree.pairs;
      jobs = agree.job_queues;
      service = agree.job_service;
      tokens = agree.tokens;
    };
    zero_live = agree.sound.admin;
    modelled = agree.modelled;
  };
  few = agree.few_pages;
  commands = agree.commands;
  places = agree.places;
  walks = agree.units_left;
}

pub roomy_of : (s : State) → SidesAgree s → Roomy s
roomy_of s agree = record { stood = stood_of s agree; heads = agree.heads }

pub agree_from : (s : State) → Roomy s → SidesAgree s
agree_from s roomy = record {
  sound = sound_from_both s (roomy.stood.grounds.stands.0, roomy.stood.grounds.taken);
  rings = roomy.stood.grounds.rings;
  modelled = roomy.stood.grounds.modelled;
  some_entries = roomy.stood.grounds.fit.some_entries;
  few_queues = roomy.stood.grounds.fit.few;
  few_pages = roomy.stood.few;
  pairs = roomy.stood.grounds.fit.pairs;
  job_queues = roomy.stood.grounds.fit.jobs;
  job_service = roomy.stood.grounds.fit.service;
  admin_commands = roomy.stood.grounds.stands.1.placed;
  tokens = roomy.stood.grounds.fit.tokens;
  commands = roomy.stood.commands;
  places = roomy.stood.places;
  units_left = roomy.stood.walks;
  heads = roomy.heads;
}

-- After a reset

reset_is_step : (s : State) → Step s events.Reset events.Accepted (a.after_reset s)
reset_is_step s = let permits : (b : Bool) → MatchBool (b || true) (refusal_of s events.Reset ≡ None × Unit {0}) ⊥ = λ b. grind arith in (tt, permits s.trusted, refl)

-- from what it looks at: the halves of queue 0, the requests and identifiers of records, and the limits
recovered : (s : State) → IsSound s → s.host.peer ≡ Modelled → 0 < s.entries → length s.host.queues ≤ 65536 → length s.memory ≤ 65536 → length s.controller.queues ≡ length s.host.queues → AreAdminHalves s.entries s.host.queues
    → AllByRecursion IsSizedIfIo s.host.records → AllByRecursion (λ r. r.cid < s.entries - 1) s.host.records → SidesAgree (a.after_reset s)
recovered s sound only some few small same whole sized low =
    let fresh : IsInRing s.entries fresh_host_ring = record { head = some; known_head = some; tail = some } in
    record {
      sound = steps_keep s events.Reset events.Accepted (a.after_reset s) (reset_is_step s) sound;
      rings = all_reset_queues (λ (x : HostQueue). Unit {0}) (λ (x : HostQueue). IsInRing s.entries x.ring) s.host.queues (λ x e p. fresh) fresh (nothing s.host.queues);
      modelled = only;
      some_entries = some;
      few_queues = subst (λ (n : ℕ). n ≤ 65536) (sym (reset_length s.host.queues)) few;
      few_pages = subst (λ (n : ℕ). n ≤ 65536) (sym (length-with_pages (zeroed_pages (a.admin_pages s.host.queues)) s.memory)) small;
      pairs = reset_pairs s.entries s.host.queues s.controller.queues same whole;
      job_queues = λ q has. absurd (omega (arith, has));
      job_service = λ q has. absurd (omega (arith, has));
      admin_commands = rw (no_waiting s.controller.queues, no_admin_completions s.controller.queues) (reset_admin_commands (a.reset_records s.host.records));
      tokens = tokens_to (a.reset_records s.host.records) (a.reset_queues s.host.queues) (a.reset_served_queues s.controller.queues) []
          (rw (no_waiting s.controller.queues, no_admin_completions s.controller.queues) (reset_tokens (a.reset_records s.host.records) s.host.queues s.controller.queues same));
      commands = all_reset IsSizedIfIo (CommandStands (with_pages (zeroed_pages (a.admin_pages s.host.queues)) s.memory) (a.reset_served_queues s.controller.queues) [])
          (λ r io is. reset_command (with_pages (zeroed_pages (a.admin_pages s.host.queues)) s.memory) (a.reset_served_queues s.controller.queues) [] r is) s.host.records sized;
      places = reset_places (a.reset_queues s.host.queues) (a.reset_records s.host.records) s.controller.queues;
      units_left = tt;
      heads = reset_heads s.entries s.host.queues (a.reset_records s.host.records) s.controller.queues
          (all_reset (λ r. r.cid < s.entries - 1) (λ r. r.cid < s.entries - 1) (λ r io is. subst (λ (c : ℕ). c < s.entries - 1) (sym (lost_keeps.cid r)) is) s.host.records low);
    }
  where
    nothing : (hs : List HostQueue) → AllByRecursion (λ (x : HostQueue). Unit {0}) hs
    nothing [] = tt
    nothing (x ∷ hs) = (tt, nothing hs)

agrees_after_reset : (s : State) → SidesAgree s → SidesAgree (a.after_reset s)
agrees_after_reset s agree =
    recovered s agree.sound agree.modelled agree.some_entries agree.few_queues agree.few_pages (same_length s.entries s.host.queues s.controller.queues agree.pairs)
    (halves_fit s.entries s.host.queues s.controller.queues agree.pairs agree.sound.admin)
    (all_in (CommandStands s.memory s.controller.queues s.controller.jobs) IsSizedIfIo s.host.records (λ r within p. sized_of s.memory s.controller.queues s.controller.jobs r p) agree.commands) agree.heads.ids

-- whatever was forged
pub reset_recovers : resets_recover
reset_recovers s can =
    let lives : (x : HostQueue) → slice_get s.host.queues 0 ≡ Some x → x.state ≡ Live = λ x e.
    live_is x.state (sym (ap (λ (o : Option HostQueue). option_map_or (λ queue. is_live queue.state) o true) e) ∙ can.sound.admin) in
    let at : (x : HostQueue) → slice_get s.host.queues 0 ≡ Some x → HasHalves s.entries x = λ x e. all-at (HasHalves s.entries) s.host.queues 0 x e can.provided.queues in
    let sized : (r : Record) (request : Request) → FitsRequest request × IsGood request × (is_admin request.kind ≡ false) × (request.block_size ≡ Bytes512)
    → length r.data_pages ≡ data_count request.pieces → IsSized r request = λ r request checked pages.
    record { fits = checked.0; good = checked.1; blocks = checked.2; size = checked.3; pages = pages } in
    recovered s can.sound can.modelled can.some_entries can.few_queues can.few_pages can.paired
    (record { sub = λ x e. half Submission (has_sq x.state) x.sq_pages (ap has_sq (lives x e)) (at x e).submission; comp = λ x e. half Completion (has_cq x.state) x.cq_pages (ap has_cq (lives x e)) (at x e).completion })
    (all_in_both (λ r. IsProvided s.entries s.segment r) (λ r. IsChecked r.work) IsSizedIfIo s.host.records (λ r within checked p request w. sized r request (subst IsChecked w checked) (has_pages r request w p.pages)) can.checked can.provided.commands)
    (all_in (λ r. IsProvided s.entries s.segment r) (λ r. r.cid < s.entries - 1) s.host.records (λ r within p. p.identifier) can.provided.commands)
  where
    half : (of : Half) (has : Bool) (pages : List ℕ) → has ≡ true → LieTogether (if has then half_pages s.entries of else 0) pages → length pages ≡ half_pages s.entries of
    half of has pages is lies =
        ap length lies.1 ∙ length-pages_from lies.0 (if has then half_pages s.entries of else 0) ∙ ap (λ (b : Bool). if b then half_pages s.entries of else 0) is

    has_pages : (r : Record) (request : Request) → r.work ≡ Io request → HasPagesFor s.segment r.work r.data_pages r.chain_pages → length r.data_pages ≡ data_count request.pieces
    has_pages r request w pages = (subst (λ (x : Work). HasPagesFor s.segment x r.data_pages r.chain_pages) w pages).0

-- Where it holds

roomy_at_opening : (pages queues n s : ℕ) (image : List ℕ) → Opens pages queues n s → Roomy (opening pages queues n s image)
roomy_at_opening pages queues n s image opens = record { stood = stood_at_opening pages queues n s image opens; heads = heads_at_opening pages queues n s image opens }

pub opening_agrees : openings_agree
opening_agrees pages queues n s image opens = agree_from (opening pages queues n s image) (roomy_at_opening pages queues n s image opens)

pub step_keeps_agreement : steps_keep_agreement
step_keeps_agreement old events.Reset reply new step trusted = (
  trusted_or_reset old events.Reset reply new step trusted,
  λ agree. subst SidesAgree (sym (reset_leaves old reply new step)) (agrees_after_reset old agree),
)
step_keeps_agreement old e reply new step trusted = (
  trusted_or_reset old e reply new step trusted,
  λ agree. agree_from new (each_proper_step Roomy roomy_on old e reply new step (trusted_before old e reply new step refl trusted) trusted (roomy_of old agree)),
)

pub run_agrees : trusted_runs_agree
run_agrees image made end run = agree_from end (along_proper Roomy roomy_on roomy_at_opening image made end run)

-- What follows where both sides agree.

pub agreed_linked : agreeing_sides_are_linked
agreed_linked s agree = stood_linked s (stood_of s agree)

pub agreed_there : agreed_live_queues_are_there
agreed_there s q queue agree found live = live_is_there s (stood_of s agree).grounds.fit q queue found live

pub agreed_room : agreeing_sides_have_room
agreed_room old e reply new agree trusted step = ap not (reply_not_full old (roomy_of old agree) trusted e reply step.1)

pub agreed_once : agreed_admin_commands_stand_once
agreed_once s cid agree = stands_once s cid (stood_of s agree).grounds.stands

pub agreed_jobs : agreed_jobs_stand
agreed_jobs s q cid j agree some found = stood_has_jobs s (stood_of s agree) q cid j some found

pub agreed_lists : agreed_jobs_keep_their_lists
agreed_lists old new events.Reset reply q cid before after agree step trusted some found still =
    let none : ◌≡◌ {A = Option Job} None (Some after) = sym (ap (λ (s : State). job_at s q cid) (reset_leaves old reply new step)) ∙ still in absurd cc
agreed_lists old new e reply q cid before after agree step trusted some found still =
    stood_keeps_lists old new e reply q cid before after (stood_of old agree) (trusted_before old e reply new step refl trusted) step trusted some found still

pub agreed_chains : agreed_chains_stand
agreed_chains s q cid r agree found sub = stood_has_chains s (stood_of s agree) q cid r found sub

pub agreed_chain_pages : agreed_chains_stay
agreed_chain_pages old e reply new q cid r p agree trusted step found sub chain =
    stood_keeps_chains old e reply new q cid r p (stood_of old agree) trusted step found sub chain

pub agreed_stays : agreeing_steps_stay_allowed
agreed_stays old new e reply agree trusted step = stood_stays old new e reply (stood_of old agree) trusted step

-- A number that is not in a list which is too short to hold all.

abbrev pub others : ℕ → List ℕ → List ℕ
others n xs = filter (λ x. not (x == n)) xs

as_few : (n : ℕ) (xs : List ℕ) → length (others n xs) ≤ length xs
as_few n [] = omega arith
as_few n (x ∷ xs) = grind (arith, as_few n xs)

fewer : (n : ℕ) (xs : List ℕ) → is_among xs n ≡ true → length (others n xs) < length xs
fewer n [] h = absurd (true≢false (sym h))
fewer n (x ∷ xs) h = grind (arith, as_few n xs, fewer n xs)

still : (n k : ℕ) (xs : List ℕ) → k < n → is_among (others n xs) k ≡ false → is_among xs k ≡ false
still n k [] l h = refl
still n k (x ∷ xs) l h =
    let differs : (x == n) ≡ true → (x == k) ≡ false = λ e. let same : x ≡ n = eqb-true x n e in grind (arith, nat_tests) in
    elim (cases_Bool (x == n)) [
      | inl e ↦ let g = rw e at h in let ih = still n k xs l in rw (differs e) (ih g)
      | inr e ↦ let g = rw e at h in let ih = still n k xs l in let both = or_parts (x == k) (is_among (others n xs) k) g in rw both.0 (ih both.1)
    ]

-- a list of fewer than n numbers lacks one below n
pub not_among : (n : ℕ) (xs : List ℕ) → length xs < n → (k : ℕ) × (k < n) × (is_among xs k ≡ false)
not_among zero xs few = absurd (omega arith)
not_among (suc n) xs few = by_presence (is_among xs n) refl (not_among n (others n xs))
  where
    by_presence : (b : Bool) → is_among xs n ≡ b → (length (others n xs) < n → (k : ℕ) × (k < n) × (is_among (others n xs) k ≡ false)) → (k : ℕ) × (k < suc n) × (is_among xs k ≡ false)
    by_presence false e ih = (n, omega arith, e)
    by_presence true e ih =
        let rest = ih (omega (arith, few, fewer n xs e)) in
        (rest.0, omega (arith, rest.1), still n rest.0 xs rest.1 rest.2)

-- Each event is answered, whatever was forged.

-- Lack of memory is no cause

abbrev is_memory : Refusal → Bool
is_memory refusal.Memory = true
is_memory why = false

rows_tell : (rows : List (Bool × Refusal)) (why : Refusal) → list_all (λ row. not (is_memory row.1)) rows ≡ true → first_passing rows ≡ Some why → is_memory why ≡ false
rows_tell [] why all h = absurd cc
rows_tell (row ∷ rows) why all h = let both = and_parts (not (is_memory row.1)) _ all in elim (cases_Bool row.0) [
  | inl t ↦ let same : Some row.1 ≡ Some why = rw t at h in let e : row.1 ≡ why = cc in subst (λ (x : Refusal). is_memory x ≡ false) e (grind (arith, both.0))
  | inr f ↦ rows_tell rows why both.1 (rw f at h)
]

refuses_cause : (s : State) (e : Event) (why : Refusal) → is_memory why ≡ false → refusal_of s e ≡ Some why → Refuses s e why (touched_by_refusal s e why)
refuses_cause s e refusal.Memory n h = absurd (true≢false n)
refuses_cause s e why n h = (h, refl)

-- What may be answered where the causes decide: of the host's events always, of the controller's where nothing was forged

abbrev pub IsJudged : State → Event → Type 0
IsJudged s e = (s.trusted || not (IsController e)) ≡ true

pub host_judged : (s : State) (e : Event) → IsController e ≡ false → IsJudged s e
host_judged s e c = grind (arith, c)

pub judged : {A : Type 0} (B : Type 0) (b : Bool) → b ≡ true → A → MatchBool b A B
judged B b e x = rw e x

pub unjudged : {B : Type 0} (A : Type 0) (b : Bool) → b ≡ false → B → MatchBool b A B
unjudged A b e x = rw e x

-- that an event is refused, and nothing happens; that it gets a reply
abbrev pub IsRefused : State → Event → Type 0
IsRefused s e = (why : Refusal) × (touched : List ℕ) × Step s e (events.Refused why touched) s

abbrev pub IsDone : State → Event → Reply → Type 0
IsDone s e reply = (left : State) × Step s e reply left

-- lack of memory is in no row
no_memory : (s : State) (e : Event) → list_all (λ row. not (is_memory row.1)) (causes s e) ≡ true
no_memory s (events.Reserve q r) = told (fault_of r.kind r.block_size r.blocks r.pieces)
  where
    told : (bad : Option RequestFault) → list_all (λ row. not (is_memory row.1)) (reserve_causes s q r bad) ≡ true
    told None = refl
    told (Some fault) = refl
no_memory s e = grind arith

pub refused_or_none : (s : State) (e : Event) → IsProper e → IsJudged s e → IsRefused s e ⊎ (refusal_of s e ≡ None)
refused_or_none s e proper j = elim (option_is (refusal_of s e)) [
  | inl none ↦ inr none
  | inr (why, h) ↦ inl (why, touched_by_refusal s e why, (proper, judged (MayRefuse e why _) _ j (refuses_cause s e why (rows_tell (causes s e) why (no_memory s e) h) h), refl))
]

-- a call that allocates can be refused: for a cause, or for lack of memory
pub refusable : (s : State) (e : Event) → IsProper e → IsJudged s e → allocates e ≡ true → IsRefused s e
refusable s e proper j a = elim (refused_or_none s e proper j) [
  | inl h ↦ h
  | inr none ↦ (refusal.Memory, touched_by_refusal s e refusal.Memory, (proper, judged (MayRefuse e refusal.Memory _) _ j (a, none, refl), refl))
]

-- what is left: the state that is due, and where that isn't exact, one with the controller's part as it was
left_by : (s next : State) (e : Event) → IsController e ≡ false ⊎ (is_exact e s.trusted ≡ true)
    → (left : State) × MatchBool (is_exact e s.trusted) (left ≡ next) (MatchBool (IsController e) (LeavesByController s next left) (LeavesByHost s next left))
left_by s next e (inr exact) = (next, judged _ _ exact refl)
left_by s next e (inl host) = elim (cases_Bool (is_exact e s.trusted)) [
  | inl exact ↦ (next, judged _ _ exact refl)
  | inr loose ↦ (record next { controller = s.controller }, unjudged _ _ loose (unjudged _ _ host (record { part = refl; memory = refl; controller = record { image = refl; queues = refl } })))
]

-- a reply that no cause refuses
pub done : (s : State) (e : Event) (reply : Reply) → IsProper e → IsJudged s e → IsController e ≡ false ⊎ (is_exact e s.trusted ≡ true) → refusal_of s e ≡ None → Answers s e reply → IsDone s e reply
-- a refusal is no answer of an accepted event
done s e (events.Refused why touched) proper j x none answer = absurd (grind arith)
done s e (events.Reserved d) proper j x none answer = let left = left_by s (after s e (events.Reserved d)) e x in (left.0, (proper, judged _ _ j (none, answer), left.1))
done s e reply proper j x none answer = let left = left_by s (after s e reply) e x in (left.0, (proper, judged _ _ j (none, answer), left.1))

-- Walks

-- where no cause refuses a walk there is a job of an I/O queue without a verdict
pub walk_allowed : (s : State) (q cid : ℕ) → refusal_of s (events.Walk q cid) ≡ None → (j : Job) × (job_at s q cid ≡ Some j) × (j.verdict ≡ None) × ((j.q == 0) ≡ false)
walk_allowed s q cid none =
    let rows = (job_is (λ j. is_some j.verdict || (j.q == 0)) s q cid, refusal.Nothing) ∷ [] in
    let there = first_fails (is_none (job_at s q cid)) refusal.NoJob rows none in
    let undecided = first_fails (job_is (λ j. is_some j.verdict || (j.q == 0)) s q cid) refusal.Nothing [] (rest_fails (is_none (job_at s q cid)) refusal.NoJob rows none) in
    elim (option_is (job_at s q cid)) [
      | inl none ↦ absurd (true≢false (rw none at there))
      | inr (j, e) ↦
          let both = or_parts (is_some j.verdict) (j.q == 0) (rw e at undecided) in
          (j, e, elim (option_is j.verdict) [ inl v ↦ v | inr (st, v) ↦ absurd (true≢false (rw v at both.0)) ], both.1)
    ]

pub has_unit : (s : State) (q cid : ℕ) (j : Job) → s.trusted ≡ true → IsInOrder s → job_at s q cid ≡ Some j → j.verdict ≡ None → (j.q == 0) ≡ false → (act : Act) × (next_unit s j ≡ Some act)
has_unit s q cid j t order found unfinished io =
    let some : (q == 0) ≡ false = ap (λ (k : ℕ). k == 0) (sym (eqb-true j.q q (and_parts (j.q == q) (j.entry.cid == cid) (found_is (is_job q cid) s.controller.jobs j found)).0)) ∙ io in
    there (units (course_of s j)) j.units_done ((stood_has_jobs s (stood_of s (order.agree t)) q cid j (grind (arith, nat_tests, some)) found).unit_left unfinished)
  where
    there : (acts : List Act) (k : ℕ) → k < length acts → (act : Act) × (slice_get acts k ≡ Some act)
    there [] k l = absurd (omega arith)
    there (act ∷ acts) k l = (get_or (act ∷ acts) k act, slice_get-get_or (act ∷ acts) k act l)

-- Every event

as_refused : (s : State) (e : Event) → IsRefused s e → IsAnswered s e
as_refused s e h = record { reply = events.Refused h.0 h.1; left = s; step = h.2 }

-- one of the host's
host_answered : (s : State) (e : Event) → IsProper e → IsController e ≡ false → (refusal_of s e ≡ None → (reply : Reply) × Answers s e reply) → IsAnswered s e
host_answered s e proper host answer = elim (refused_or_none s e proper (host_judged s e host)) [
  | inl h ↦ as_refused s e h
  | inr none ↦ let (reply, a) = answer none in let left = done s e reply proper (host_judged s e host) (inl host) none a in record { reply = reply; left = left.0; step = left.1 }
]

-- one of the controller's: where something was forged it may be refused for this
controller_answered : (s : State) (e : Event) (why : Refusal) → IsProper e → IsController e ≡ true → is_exact e true ≡ true → MayRefuse e why []
    → (s.trusted ≡ true → refusal_of s e ≡ None → (reply : Reply) × Answers s e reply) → IsAnswered s e
controller_answered s e why proper c exact may answer = elim (cases_Bool s.trusted) [
  | inl t ↦ let j : IsJudged s e = rw t refl in elim (refused_or_none s e proper j) [
    | inl h ↦ as_refused s e h
    | inr none ↦ let (reply, a) = answer t none in let left = done s e reply proper j (inr (rw t exact)) none a in record { reply = reply; left = left.0; step = left.1 }
  ]
  | inr f ↦ let wild : (s.trusted || not (IsController e)) ≡ false = rw (f, c) refl in as_refused s e (why, [], (proper, unjudged _ _ wild may, refl))
]

pub new_identifier : (s : State) (q : ℕ) → no_identifier s q ≡ false → (id : ℕ) × IsNewIdentifier s q id
new_identifier s q some =
    let fresh = not_among (s.entries - 1) (outstanding_on s.host q) (grind (arith, nat_tests)) in
    (fresh.0, record { in_range = fresh.1; unused = ap not fresh.2 })

sent : (s : State) (e : Event) → IsProper e → IsController e ≡ false → (refusal_of s e ≡ None → no_identifier s 0 ≡ false) → ((id : ℕ) → IsNewIdentifier s 0 id → Answers s e (events.Sent id)) → IsAnswered s e
sent s e proper host some answer = host_answered s e proper host (λ none. let id = new_identifier s 0 (some none) in (events.Sent id.0, answer id.0 id.1))

plain : (s : State) (e : Event) → IsProper e → IsController e ≡ false → Answers s e events.Accepted → IsAnswered s e
plain s e proper host answer = host_answered s e proper host (λ none. (events.Accepted, answer))

pub answers_every_event : every_event_is_answered
answers_every_event s (events.Fetch q) order proper = elim (cases_Bool s.trusted) [
  | inl t ↦ as_refused s (events.Fetch q) (refusable s (events.Fetch q) tt (rw t refl) refl)
  | inr f ↦ let wild : (s.trusted || false) ≡ false = rw f refl in as_refused s (events.Fetch q) (refusal.Idle, [], (tt, unjudged _ _ wild refl, refl))
]
answers_every_event s (events.Walk q cid) order proper = controller_answered s (events.Walk q cid) refusal.NoJob tt refl refl refl (λ t none.
    let (j, found, unfinished, io) = walk_allowed s q cid none in
    let (act, unit) = has_unit s q cid j t order found unfinished io in
    (events.Walked (next_answer s j) (touched act), (j, found, rw unit (refl, refl))))
answers_every_event s (events.Complete q cid) order proper =
    controller_answered s (events.Complete q cid) refusal.NoJob tt refl refl refl (λ t none. (events.Completed (post_page s q ∷ []), refl))
answers_every_event s (events.Reap q) order proper = host_answered s (events.Reap q) tt refl (λ none. (events.Reaps (reaped s q), refl))
answers_every_event s (events.Reserve q r) order proper = as_refused s (events.Reserve q r) (refusable s (events.Reserve q r) proper (host_judged s (events.Reserve q r) refl) refl)
answers_every_event s (events.Collect q cid) order proper = as_refused s (events.Collect q cid) (refusable s (events.Collect q cid) proper (host_judged s (events.Collect q cid) refl) refl)
answers_every_event s (events.Abort q cid) order proper = sent s (events.Abort q cid) tt refl (λ none. (unrefused s (events.Abort q cid) none).1.1.1.0) (λ id is. is)
answers_every_event s (events.DeleteSq q) order proper = sent s (events.DeleteSq q) tt refl (λ none. (unrefused s (events.DeleteSq q) none).1.1.0) (λ id is. is)
answers_every_event s (events.DeleteCq q) order proper = sent s (events.DeleteCq q) tt refl (λ none. (unrefused s (events.DeleteCq q) none).1.1.0) (λ id is. is)
answers_every_event s (events.CreateCq q vector) order proper = sent s (events.CreateCq q vector) proper refl (λ none. (unrefused s (events.CreateCq q vector) none).1.1.1.0) (λ id is. is)
answers_every_event s (events.CreateSq q) order proper = sent s (events.CreateSq q) tt refl (λ none. (unrefused s (events.CreateSq q) none).1.1.0) (λ id is. is)
answers_every_event s (events.Submit d) order proper = plain s (events.Submit d) proper refl tt
answers_every_event s (events.Cancel d) order proper = plain s (events.Cancel d) proper refl tt
answers_every_event s (events.Ring q) order proper = plain s (events.Ring q) proper refl tt
answers_every_event s (events.Release f) order proper = plain s (events.Release f) proper refl tt
answers_every_event s (events.Retire q) order proper = plain s (events.Retire q) proper refl tt
answers_every_event s (events.Forge q slot bytes) order proper = plain s (events.Forge q slot bytes) proper refl tt
answers_every_event s events.Reset order proper = plain s events.Reset proper refl tt

-- A reset can make any world's sides agree: what that needs holds in an opening, and each step keeps it, whatever was forged.

-- Requests stay checked

abbrev AllChecked : List Record → Type 0
AllChecked rs = AllByRecursion (λ r. IsChecked r.work) rs

abbrev CheckedPart : HostPart → Type 0
CheckedPart part = AllChecked part.host.records

checked_event : (s : State) (e : Event) (reply : Reply) → IsProper e → s.host.peer ≡ Modelled → Accepts s e reply → IsController e ≡ false → IsKept CheckedPart s e reply
checked_event s e reply proper only ok c h =
    let more : (new : Record) → IsChecked new.work → AllChecked (s.host.records ++ new ∷ []) = λ new own. all_append (λ r. IsChecked r.work) s.host.records (new ∷ []) h (own, tt) in
    let without : (q cid : ℕ) → AllChecked (without_record q cid s.host.records) = λ q cid. all-filter (λ r. IsChecked r.work) (λ r. not (is_at q cid r)) s.host.records h in
    host_moves (λ (e : Event) (reply : Reply) (t : State). IsProper e → AllChecked t.host.records) s e reply ok c
    (record {
      reserves = λ q request d none is pr. more (drafted_record d) (subst (λ (x : Request). IsChecked (Io x)) (sym is.request) (pr, good q request none, of_blocks s q request only none, reserved_size s q request only none));
      submits = λ d entry r none built its live pr. with d.q d.cid a.submitted (λ r. refl);
      cancels = λ d r its pr. without d.q d.cid;
      rings = λ q none pr. h;
      rests = λ q is pr. h;
      rejects = λ q why is pr. h;
      tells = λ q cid st what e r request t heard w pr. with q cid (a.held st e.hints) (λ r. refl);
      hears = λ q cid st what e r adm t heard w quiet unmade pr. without q cid;
      notes = λ q cid st what e r k t heard w pr. without q cid;
      frees = λ q cid st what e r k queue t heard w at alone good pr. without q cid;
      makes_cq = λ q cid st what e r k n base vector t heard w good pr. without q cid;
      unmakes_cq = λ q cid st what e r k n base vector queue t heard w at bad pr. without q cid;
      makes_sq = λ q cid st what e r k n base t heard w good pr. without q cid;
      unmakes_sq = λ q cid st what e r k n base queue t heard w at bad pr. without q cid;
      collects = λ q cid r f at held is pr. with q cid a.collected (λ r. refl);
      releases = λ f r its pr. without f.q f.cid;
      aborts = λ q cid id none new pr. more (sent_record (Abort q cid) id) tt;
      asks = λ q id queue none new live pr. more (sent_record (DeleteSq q) id) tt;
      drops = λ q id none new pr. more (sent_record (DeleteCq q) id) tt;
      creates_cqs = λ q vector id first queue none new granted pr. more (sent_record (creates_cq q vector first s) id) tt;
      creates_sqs = λ q id first queue none new granted pr. more (sent_record (creates_sq q first s) id) tt;
      retires = λ q queue none at deleted pr. all_map (λ r. IsChecked r.work) (λ r. IsChecked r.work) (a.lost q) s.host.records (λ r p. lose r ((r.q == q) && is_submitted r.phase) p) h;
      forges = λ q slot bytes queue none at pr. h;
      resets = λ pr. all_reset (λ r. IsChecked r.work) (λ r. IsChecked r.work) (λ r io p. subst IsChecked (sym (lost_keeps.work r)) p) s.host.records h;
    })
    proper
  where
    no_fault : (o : Option RequestFault) → is_some o ≡ false → o ≡ None
    no_fault o e = grind arith

    good : (q : ℕ) (request : Request) → refusal_of s (events.Reserve q request) ≡ None → IsGood request
    good q request none = no_fault (fault_of request.kind request.block_size request.blocks request.pieces) (unrefused s (events.Reserve q request) none).1.1.0

    with : (q cid : ℕ) (f : Record → Record) → ((r : Record) → (f r).work ≡ r.work) → AllChecked (with_record q cid f s.host.records)
    with q cid f same = all_map (λ r. IsChecked r.work) (λ r. IsChecked r.work) (λ r. if is_at q cid r then f r else r) s.host.records (λ r p. by_match r (is_at q cid r) p) h
      where
        by_match : (r : Record) (b : Bool) → IsChecked r.work → IsChecked (if b then f r else r).work
        by_match r true p = subst IsChecked (sym (same r)) p
        by_match r false p = p

    lose : (r : Record) (b : Bool) → IsChecked r.work → IsChecked (if b then a.aborted r else r).work
    lose r true p = p
    lose r false p = p

checked_step : (old : State) (e : Event) (reply : Reply) (new : State) → Step old e reply new → old.host.peer ≡ Modelled → AllChecked old.host.records → AllChecked new.host.records
checked_step old e reply new step only h =
    subst CheckedPart (sym (part_left old e reply new step.2)) (kept_anyway CheckedPart old e reply (IsController e) refl step.1 (λ ok c. checked_event old e reply step.0 only ok c) h)

-- So do the limits

abbrev Within : ℕ → ℕ → HostPart → Type 0
Within queues pages part = (0 < part.entries) × (length part.host.queues ≡ queues) × (length part.in_store ≡ pages)

within_event : (queues pages : ℕ) (s : State) (e : Event) (reply : Reply) → Accepts s e reply → IsController e ≡ false → IsKept (Within queues pages) s e reply
within_event queues pages s e reply ok c h =
    let limits = limits_stay queues s e reply ok c (h.0, h.1) in
    (limits.0, limits.1, length-in_store (a.after s e reply).memory ∙ (host_leaves s e reply ok c).size ∙ sym (length-in_store s.memory) ∙ h.2)

-- And there are as many queues on either side

controller_kept : (t c : Bool) (old next new : State) (A : Type 0) → t ≡ false → MatchBool t A (MatchBool c (LeavesByController old next new) (LeavesByHost old next new)) → KeepsController old new
controller_kept true c old next new A e h = absurd (true≢false e)
controller_kept false true old next new A e h = h.controller
controller_kept false false old next new A e h = h.controller

paired_step : (old : State) (e : Event) (reply : Reply) (new : State) → Step old e reply new → (old.trusted ≡ true → SidesAgree old) → length new.host.queues ≡ length old.host.queues → length old.controller.queues ≡ length old.host.queues
    → length new.controller.queues ≡ length new.host.queues
paired_step old e (events.Refused why touched) new step agree hosts h = subst (λ (s : State). length s.controller.queues ≡ length s.host.queues) (sym step.2) h
paired_step old (events.Forge q slot bytes) reply new step agree hosts h = step.2.controller.queues ∙ h ∙ sym hosts
paired_step old events.Reset reply new step agree hosts h =
    subst (λ (s : State). length s.controller.queues ≡ length s.host.queues) (sym (reset_leaves old reply new step)) (reset_controller_length old.controller.queues ∙ h ∙ sym (reset_length old.host.queues))
paired_step old e (events.Reserved d) new step agree hosts h = elim (cases_Bool old.trusted) [
  | inl t ↦
      let after = (step_keeps_agreement old e (events.Reserved d) new step (stays_trusted old e (events.Reserved d) new step refl t)).1 (agree t) in
      same_length new.entries new.host.queues new.controller.queues after.pairs
  | inr t ↦ (controller_kept old.trusted (IsController e) old (a.after old e (events.Reserved d)) new _ t step.2).queues ∙ h ∙ sym hosts
]
paired_step old e reply new step agree hosts h = elim (cases_Bool old.trusted) [
  | inl t ↦
      let after = (step_keeps_agreement old e reply new step (stays_trusted old e reply new step refl t)).1 (agree t) in
      same_length new.entries new.host.queues new.controller.queues after.pairs
  | inr t ↦ (controller_kept old.trusted (IsController e) old (a.after old e reply) new _ t step.2).queues ∙ h ∙ sym hosts
]

-- The statements

pub openings_recover : openings_can_recover
openings_recover pages queues n s image opens =
    let agree = opening_agrees pages queues n s image opens in
    record {
      sound = agree.sound;
      provided = runs_provide pages queues n s image [] [] (opening pages queues n s image) opens refl;
      checked = tt;
      modelled = agree.modelled;
      some_entries = agree.some_entries;
      few_queues = agree.few_queues;
      few_pages = agree.few_pages;
      paired = same_length n (opening pages queues n s image).host.queues (opening pages queues n s image).controller.queues agree.pairs;
    }

pub recovery_kept : (old : State) (e : Event) (reply : Reply) (new : State) → Step old e reply new → (old.trusted ≡ true → SidesAgree old) → CanRecover old → CanRecover new
recovery_kept old e reply new step agree can =
    let within = each_step (Within (length old.host.queues) (length old.memory)) (within_event (length old.host.queues) (length old.memory)) old e reply new step (can.some_entries, refl, length-in_store old.memory) in
    record {
      sound = steps_keep old e reply new step can.sound;
      provided = steps_provide old e reply new step can.sound can.provided;
      checked = checked_step old e reply new step can.modelled can.checked;
      modelled = peer_stays old e reply new step ∙ can.modelled;
      some_entries = within.0;
      few_queues = subst (λ (k : ℕ). k ≤ 65536) (sym within.1) can.few_queues;
      few_pages = subst (λ (k : ℕ). k ≤ 65536) (sym (sym (length-in_store new.memory) ∙ within.2)) can.few_pages;
      paired = paired_step old e reply new step agree within.1 can.paired;
    }

-- The opening is in order, and each step from a state in order leads to one.

abbrev InLimits : ℕ → Type 0
InLimits segment = (2 ≤ segment) × (segment ≤ 256)

limits_event : (s : State) (e : Event) (reply : Reply) → Accepts s e reply → IsController e ≡ false → IsKept (λ part. InLimits part.segment) s e reply
limits_event s e reply ok c h = subst InLimits (sym (host_leaves s e reply ok c).segment) h

-- The opening's limits

segment_says : (pages queues n s : ℕ) → is_config pages queues n s ≡ true → (pages ≤ 65536) × InLimits s
segment_says pages queues n s h = let l = limits_of pages queues n s h in (l.pages_most, (l.segment_least, l.segment_most))

-- The statements

pub opens_in_order : openings_are_in_order
opens_in_order pages queues n s image opens bytes =
    let limits = segment_says pages queues n s (in_limits pages queues n s opens) in
    record {
      sound = runs_are_sound pages queues n s image [] [] (opening pages queues n s image) opens refl;
      whole = (zeros_pool pages (opening pages queues n s image).memory refl limits.0).whole;
      least_segment = limits.1.0;
      most_segment = limits.1.1;
      agree = λ trusted. opening_agrees pages queues n s image opens;
      recovers = openings_recover pages queues n s image opens;
    }

-- after a reset both sides agree whatever was forged
agree_kept : (old : State) (e : Event) (reply : Reply) (new : State) → IsInOrder old → Step old e reply new → new.trusted ≡ true → SidesAgree new
agree_kept old events.Reset reply new order step trusted = subst SidesAgree (sym (reset_leaves old reply new step)) (reset_recovers old order.recovers)
agree_kept old e reply new order step trusted = (step_keeps_agreement old e reply new step trusted).1 (order.agree (trusted_before old e reply new step refl trusted))

pub order_kept : steps_keep_order
order_kept old e reply new order step =
    let limits = each_step (λ part. InLimits part.segment) limits_event old e reply new step (order.least_segment, order.most_segment) in
    record {
      sound = steps_keep old e reply new step order.sound;
      whole = stood_keeps_pages_whole old e reply new (λ trusted. stood_of old (order.agree trusted)) step order.whole;
      least_segment = limits.0;
      most_segment = limits.1;
      agree = λ trusted. agree_kept old e reply new order step trusted;
      recovers = recovery_kept old e reply new step order.agree order.recovers;
    }

run_in_order : (s : State) (es : List Event) (replies : List Reply) (end : State) → Run s es replies end → IsInOrder s → IsInOrder end
run_in_order s [] [] end run order = subst IsInOrder (sym run) order
run_in_order s [] (reply ∷ replies) end run order = absurd run
run_in_order s (e ∷ es) [] end run order = absurd run
run_in_order s (e ∷ es) (reply ∷ replies) end run order = run_in_order run.0 es replies end run.2 (order_kept s e reply run.0 order run.1)

pub runs_recover : every_run_recovers
runs_recover pages queues n s image es replies end opens bytes run =
    reset_recovers end (run_in_order (opening pages queues n s image) es replies end run (opens_in_order pages queues n s image opens bytes)).recovers
