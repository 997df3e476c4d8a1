-- Which events are accepted.
use Rattle.machine_model.specs.Events as events
use Rattle.machine_model.specs.After as a
use Rattle.std.proofs.Common.{◌≡◌, ℕ, ◌≤◌, Bool, true, false, ◌&&◌, List, [], ◌∷◌, ◌++◌, length, if◌then◌else◌, refl, ap, arith, ◌⊎◌, inl, inr, ◌+◌, nat_lt, not, ◌||◌, Option, Some, None, is_some, is_none, MatchBool, ap₂, sym, ◌∙◌, subst, ◌==◌, map, eq-eqb, eqb-true}
use Rattle.std.proofs.lemmas.{Bool.{true≢false, not-true, and_parts, Decides.nat_tests}, List.Elements.{All-nil, All-cons, All-append}}
use Rattle.std.specs.{List.AllByRecursion, Option.{option_map, option_and_then}}
use Rattle.page_ledger.specs.Owners.{is_among}
use Rattle.page_memory.specs.Pages.{zero_page}
use Rattle.machine_model.proofs.Counting.{held_once, not_held, zeroed_numbers as numbers_zeroed}
use Rattle.machine_model.proofs.Headline.{length_placed, length_chain, placement_times, room_for}
use Rattle.machine_model.proofs.{Moves.{host_moves, drafted_record, sent_record, creates_cq, creates_sq}, Owned.{holds_from_sound, all_reset, lost_by}}
use Rattle.machine_model.proofs.Steps.{part_controller, surely, first_fails, rest_fails, unrefused, Accepts, part_left}
use Rattle.machine_model.specs.{After.next_answer, Claims.{IsSound, OwnsFit, AdminLives}, Events.{Event, Reply}, Memory.{zeroed_pages}}
use Rattle.machine_model.specs.{Placement.{data_placed, chain_placed, chain_wanted}, Proper.IsProper}
use Rattle.machine_model.specs.Refusals.{refusal_of, host_queue, next_rung, post_page, is_submitted, is_held, no_identifier, pages_wanted}
use Rattle.machine_model.specs.State.{State, Record, is_at, record_at, HostQueue, pages_of, with_record, without_record}
use Rattle.machine_model.specs.Step.{times, zeroed, Permits, Answers, AnswersAnything, IsController, IsReserved, IsNewIdentifier, is_exact, reaped, touched_by_fetch, finished_from, asked_by, pages_with_bytes, Step, HostPart}
use Rattle.machine_model.specs.{Work.Work, declared.words.{HostState.TheVariants.Deleting, Peer.Peer, Phase.TheVariants.Held, Work.TheVariants.{Io, Management}}}
use Rattle.sgl_chain.specs.Chains.{pages_needed}
use Rattle.controller_walk.specs.{Units.touched, declared.walk.WalkState.TheVariants.More}
use Rattle.entry_codec.specs.declared.{hints.Hints.Hints, status.{Status.Status, TheConstants.Status.ABORTED_SQ_DELETION}, submission.SubEntry.SubEntry}
use Rattle.io_commands.specs.{Asked.Request, Drafts.DraftContents, Requests.{data_count, joined_parts}, Values.FinishedContents}
use Rattle.two_sides.proofs.Agreed.{IsJudged, host_judged, judged, unjudged, done, new_identifier, walk_allowed, has_unit, opens_in_order, order_kept}
use Rattle.two_sides.{proofs.{Provided.{all_map, all_append, all_in_both, is_found}, Untouched.owned_once}, specs.InOrder.IsInOrder}
use Rattle.run_laws.specs.Accepted.{HasEnded, EndedIfHeld, IsReady, IsAccepted, is_refusal, every_event_is_accepted_or_has_a_cause, every_reset_is_accepted, resets_have_one_answer, forged_worlds_accept_the_controller, forged_worlds_know_their_queues, openings_are_ready, steps_keep_ready}
use Rattle.admin_commands.specs.declared.AdminKind.{AdminKind, TheVariants.{Abort, DeleteSq, DeleteCq}}
use Rattle.slot_table.proofs.Rows.{option_is}
use Rattle.page_memory.proofs.Lists.{all-found, all-filter}
use Rattle.host_core.proofs.Granted.{length-zeroed}

-- Where pages do not run out, there are free ones.

-- pages, none of which occurs twice, among free ones
pub counted_free : (p : ℕ) (xs free : List ℕ) → times p xs ≤ times p free → times p free ≤ 1 → times p xs ≡ (if is_among xs p && is_among free p then 1 else 0)
counted_free p xs free less once = grind (arith, held_once, not_held)

all_zeroed : (xs : List ℕ) → zeroed (zeroed_pages xs)
all_zeroed [] = All-nil (λ (page : ℕ × List ℕ). page.1 ≡ zero_page)
all_zeroed (x ∷ xs) = All-cons (λ (page : ℕ × List ℕ). page.1 ≡ zero_page) (x, zero_page) (zeroed_pages xs) refl (all_zeroed xs)

pub both_zeroed : (xs ys : List ℕ) → zeroed (zeroed_pages xs ++ zeroed_pages ys)
both_zeroed xs ys = All-append (λ (page : ℕ × List ℕ). page.1 ≡ zero_page) (zeroed_pages xs) (zeroed_pages ys) (all_zeroed xs) (all_zeroed ys)

-- An event that no cause refuses is accepted.

-- what is accepted with a reply that answers
accepted_by : (s : State) (e : Event) (reply : Reply) → IsProper e → IsJudged s e → IsController e ≡ false ⊎ (is_exact e s.trusted ≡ true) → refusal_of s e ≡ None → Answers s e reply → IsAccepted s e
accepted_by s e reply proper judged exact none answer =
    let left = done s e reply proper judged exact none answer in
    record { reply = reply; left = left.0; accepted = (grind arith); step = left.1 }

by_host : (s : State) (e : Event) (reply : Reply) → IsProper e → IsController e ≡ false → refusal_of s e ≡ None → Answers s e reply → IsAccepted s e
by_host s e reply proper host = accepted_by s e reply proper (host_judged s e host) (inl host)

by_sending : (s : State) (e : Event) → IsProper e → IsController e ≡ false → refusal_of s e ≡ None → no_identifier s 0 ≡ false → ((id : ℕ) → IsNewIdentifier s 0 id → Answers s e (events.Sent id)) → IsAccepted s e
by_sending s e proper host none free answer = let id = new_identifier s 0 free in by_host s e (events.Sent id.0) proper host none (answer id.0 id.1)

by_controller : (s : State) (e : Event) (reply : Reply) → s.trusted ≡ true → IsProper e → is_exact e true ≡ true → refusal_of s e ≡ None → Answers s e reply → IsAccepted s e
by_controller s e reply t proper exact = accepted_by s e reply proper (rw t refl) (inr (rw t exact))

-- Reserving

free_once : (s : State) → IsSound s → (p : ℕ) → times p s.host.free ≤ 1
free_once s sound p = omega (arith, owned_once _ p s.host (holds_from_sound s sound))

-- a draft whose pages are placed
abbrev drafted : State → ℕ → Request → ℕ → DraftContents
drafted s q r cid =
    record {
      q = q;
      cid = cid;
      request = r;
      data_pages = zeroed_pages (data_placed s.host.free r.pieces);
      chain_pages = zeroed_pages (chain_placed s.host.free s.segment r.pieces);
      segment = s.segment;
      entry = None;
    }

by_reserve : (s : State) (q : ℕ) (r : Request) → IsSound s → IsProper (events.Reserve q r) → refusal_of s (events.Reserve q r) ≡ None → IsAccepted s (events.Reserve q r)
by_reserve s q r sound proper none =
    let third : (no_identifier s q ≡ false) × (nat_lt (length s.host.free) (pages_wanted s r) ≡ false) = let fails = unrefused s (events.Reserve q r) none in (fails.1.1.1.1.0, fails.1.1.1.1.1.0) in
    let id : (cid : ℕ) × IsNewIdentifier s q cid = new_identifier s q third.0 in
    let d : DraftContents = drafted s q r id.0 in
    let enough : data_count r.pieces + chain_wanted s.host.free s.segment r.pieces ≤ length s.host.free = room_for s.host.free s.segment r.pieces (let h = third.1 in grind (arith, nat_tests, h)) in
    let front : List ℕ = data_placed s.host.free r.pieces in
    let back : List ℕ = chain_placed s.host.free s.segment r.pieces in
    let reserved : IsReserved s q r (drafted s q r id.0) = record {
      queue = refl;
      request = refl;
      segment = refl;
      identifier = id.1;
      data_pages = length-zeroed front ∙ length_placed s.host.free (data_count r.pieces) (omega (arith, enough));
      chain_pages =
          length-zeroed back
          ∙ length_chain s.host.free s.segment r.pieces (free_once s sound) enough
          ∙ ap (λ (ns : List ℕ). pages_needed (length (joined_parts r.pieces ns)) s.segment) (sym (numbers_zeroed front));
      free = λ p. subst (λ (ns : List ℕ). times p ns ≡ (if is_among ns p && is_among s.host.free p then 1 else 0))
          (sym (ap₂ (λ (xs ys : List ℕ). xs ++ ys) (numbers_zeroed front) (numbers_zeroed back)))
          (counted_free p (front ++ back) s.host.free (placement_times p s.host.free s.segment r.pieces) (free_once s sound p));
      zero = both_zeroed front back;
      not_built = refl;
    } in
    by_host s (events.Reserve q r) (events.Reserved d) proper refl none reserved

-- Collecting

-- the record that a collection finds is held
held_found : (s : State) (q cid : ℕ) → refusal_of s (events.Collect q cid) ≡ None → (r : Record) × (record_at s.host q cid ≡ Some r) × (is_held r.phase ≡ true)
held_found s q cid none = grind (arith, first_fails, rest_fails)

-- and so there is what is handed out
finished_of : (s : State) (r : Record) → HasEnded r → (f : FinishedContents) × (finished_from s r ≡ Some f)
finished_of s r h = is_handed_out (asked_by r.work) h.is_io r.status h.has_status
  where
    is_handed_out : (asked : Option Request) → is_some asked ≡ true → (st : Option Status) → is_some st ≡ true
        → (f : FinishedContents) × (option_and_then
        (λ asked. option_map
        (λ st. record { q = r.q; cid = r.cid; request = asked; status = st; hints = r.hints; data_pages = pages_with_bytes s.memory r.data_pages; chain_pages = pages_with_bytes s.memory r.chain_pages })
        st)
        asked ≡ Some f)
    is_handed_out None a st b = absurd (true≢false (sym a))
    is_handed_out (Some asked) a None b = absurd (true≢false (sym b))
    is_handed_out (Some asked) a (Some st) b =
        (record { q = r.q; cid = r.cid; request = asked; status = st; hints = r.hints; data_pages = pages_with_bytes s.memory r.data_pages; chain_pages = pages_with_bytes s.memory r.chain_pages }, refl)

by_collect : (s : State) (q cid : ℕ) → IsReady s → refusal_of s (events.Collect q cid) ≡ None → IsAccepted s (events.Collect q cid)
by_collect s q cid ready none =
    let x = held_found s q cid none in
    let f = finished_of s x.0 (all-found EndedIfHeld (is_at q cid) s.host.records x.0 x.1 ready.held x.2) in
    by_host s (events.Collect q cid) (events.Collects f.0) tt refl none (ap (option_and_then (finished_from s)) x.1 ∙ f.1)

-- The controller's events, where nothing was forged

by_fetch : (s : State) (q : ℕ) → s.trusted ≡ true → refusal_of s (events.Fetch q) ≡ None → IsAccepted s (events.Fetch q)
by_fetch s q t none =
    let some : is_none (next_rung s q) ≡ false = grind (arith, first_fails) in
    elim (option_is (next_rung s q)) [
      | inl e ↦ absurd (true≢false (rw e at some))
      | inr (entry, e) ↦ by_controller s (events.Fetch q) (events.Fetched entry.cid (touched_by_fetch s q)) t tt refl none (ap (option_map (λ (x : SubEntry). x.cid)) e, refl)
    ]

by_walk : (s : State) (q cid : ℕ) → s.trusted ≡ true → IsInOrder s → refusal_of s (events.Walk q cid) ≡ None → IsAccepted s (events.Walk q cid)
by_walk s q cid t order none =
    let w = walk_allowed s q cid none in
    let unit = has_unit s q cid w.0 t order w.1 w.2 w.3 in
    by_controller s (events.Walk q cid) (events.Walked (next_answer s w.0) (touched unit.0)) t tt refl none (w.0, w.1, rw unit.1 (refl, refl))

-- Every event

-- where the causes decide for the controller, nothing was forged
trusted_only : (s : State) → (s.trusted || false) ≡ true → s.trusted ≡ true
trusted_only s h = grind (arith, h)

pub all_accepted : every_event_is_accepted_or_has_a_cause
all_accepted s (events.Reserve q r) ready proper judged none = by_reserve s q r ready.order.sound proper none
all_accepted s (events.Submit d) ready proper judged none = by_host s (events.Submit d) events.Accepted proper refl none tt
all_accepted s (events.Cancel d) ready proper judged none = by_host s (events.Cancel d) events.Accepted proper refl none tt
all_accepted s (events.Ring q) ready proper judged none = by_host s (events.Ring q) events.Accepted proper refl none tt
all_accepted s (events.Reap q) ready proper judged none = by_host s (events.Reap q) (events.Reaps (reaped s q)) tt refl none refl
all_accepted s (events.Collect q cid) ready proper judged none = by_collect s q cid ready none
all_accepted s (events.Release f) ready proper judged none = by_host s (events.Release f) events.Accepted proper refl none tt
all_accepted s (events.Abort q cid) ready proper judged none = by_sending s (events.Abort q cid) tt refl none (unrefused s (events.Abort q cid) none).1.1.1.0 (λ id new. new)
all_accepted s (events.DeleteSq q) ready proper judged none = by_sending s (events.DeleteSq q) tt refl none (unrefused s (events.DeleteSq q) none).1.1.0 (λ id new. new)
all_accepted s (events.DeleteCq q) ready proper judged none = by_sending s (events.DeleteCq q) tt refl none (unrefused s (events.DeleteCq q) none).1.1.0 (λ id new. new)
all_accepted s (events.CreateCq q vector) ready proper judged none = by_sending s (events.CreateCq q vector) proper refl none (unrefused s (events.CreateCq q vector) none).1.1.1.0 (λ id new. new)
all_accepted s (events.CreateSq q) ready proper judged none = by_sending s (events.CreateSq q) tt refl none (unrefused s (events.CreateSq q) none).1.1.0 (λ id new. new)
all_accepted s (events.Retire q) ready proper judged none = by_host s (events.Retire q) events.Accepted proper refl none tt
all_accepted s (events.Forge q slot bytes) ready proper judged none = by_host s (events.Forge q slot bytes) events.Accepted proper refl none tt
all_accepted s events.Reset ready proper judged none = by_host s events.Reset events.Accepted proper refl none tt
all_accepted s (events.Fetch q) ready proper judged none = by_fetch s q (trusted_only s judged) none
all_accepted s (events.Walk q cid) ready proper judged none = by_walk s q cid (trusted_only s judged) ready.order none
all_accepted s (events.Complete q cid) ready proper judged none = by_controller s (events.Complete q cid) (events.Completed (post_page s q ∷ [])) (trusted_only s judged) tt refl none refl

-- A reset

pub reset_accepted : every_reset_is_accepted
reset_accepted s = (tt, judged _ _ (host_judged s events.Reset refl) (refl, tt), refl)

pub reset_answered : resets_have_one_answer
reset_answered s new reply step = grind arith

-- Once something was forged

by_forged : (s : State) (e : Event) (reply : Reply) → IsInOrder s → s.trusted ≡ false → IsController e ≡ true → is_exact e false ≡ false → IsProper e → not (is_refusal reply) ≡ true
    → AnswersAnything s e reply → IsAccepted s e
by_forged s e (events.Refused why touched) order f c exact proper accepted answer = absurd (true≢false (sym accepted))
by_forged s e reply order f c exact proper accepted answer = record {
  reply = reply;
  left = s;
  accepted = accepted;
  step = (
    proper,
    unjudged _ _ (let wild : (s.trusted || not (IsController e)) ≡ false = rw (f, c) refl in wild) answer,
    unjudged _ _ (let loose : is_exact e s.trusted ≡ false = rw f exact in loose)
        (judged _ _ c (record { part = sym (part_controller s e reply c); pages = order.whole; controller = record { image = refl; queues = refl } })),
  );
}

pub controller_accepted : forged_worlds_accept_the_controller
controller_accepted s (events.Fetch q) order forged c there = by_forged s (events.Fetch q) (events.Fetched 0 []) order (not-true s.trusted forged) refl refl tt refl (there, omega arith)
controller_accepted s (events.Walk q cid) order forged c there = by_forged s (events.Walk q cid) (events.Walked More []) order (not-true s.trusted forged) refl refl tt refl (there, omega arith)
controller_accepted s (events.Complete q cid) order forged c there = by_forged s (events.Complete q cid) (events.Completed (0 ∷ [])) order (not-true s.trusted forged) refl refl tt refl (there, refl)
controller_accepted s e order forged c there = absurd (true≢false (sym c))

answered_anything : {B : Type 0} (A : Type 0) (t : Bool) → t ≡ false → MatchBool (t || false) A B → B
answered_anything A t e h = rw e at h

pub queues_known : forged_worlds_know_their_queues
queues_known s new e reply forged c step accepted = grind (arith, not-true s.trusted forged)

-- A held command is an I/O command and has its status, after each step, whatever was forged.

abbrev pub AllEnded : List Record → Type 0
AllEnded records = AllByRecursion EndedIfHeld records

abbrev Fine : Peer → Record → Type 0
Fine peer r = OwnsFit peer r.q r.work (pages_of r) × EndedIfHeld r

fine : (s : State) → IsSound s → AllEnded s.host.records → AllByRecursion (Fine s.host.peer) s.host.records
fine s sound h = all_in_both EndedIfHeld (λ r. OwnsFit s.host.peer r.q r.work (pages_of r)) (Fine s.host.peer) s.host.records (λ r within f e. (f, e)) sound.works_fit h

-- a record of an I/O queue is of an I/O command
io_of : (peer : Peer) (r : Record) → (r.q == 0) ≡ false → (w : Work) → OwnsFit peer r.q w (pages_of r) → is_some (asked_by w) ≡ true
io_of peer r other (Io request) fit = refl
io_of peer r other (Management adm) fit = absurd (true≢false (sym (eq-eqb r.q 0 fit.0) ∙ other))

-- the record of an identifier, where it is the only one
abbrev Lone : ℕ → ℕ → Record → Record → Type 0
Lone q cid r x = (is_at q cid x ≡ true → x ≡ r) × EndedIfHeld x

not_held_now : (q cid : ℕ) (f : Record → Record) → ((r : Record) → is_held (f r).phase ≡ false) → (rs : List Record) → AllEnded rs → AllEnded (with_record q cid f rs)
not_held_now q cid f free rs h = all_map EndedIfHeld EndedIfHeld (λ r. if is_at q cid r then f r else r) rs (λ r e. each r (is_at q cid r) e) h
  where
    each : (r : Record) (b : Bool) → EndedIfHeld r → EndedIfHeld (if b then f r else r)
    each r true e = λ held. absurd (true≢false (sym held ∙ free r))
    each r false e = e

-- Retiring: queue 0 is never deleted

deleted_other : (s : State) (q : ℕ) (queue : HostQueue) → AdminLives s.host.queues → host_queue s q ≡ Some queue → queue.state ≡ Deleting true → (q == 0) ≡ false
deleted_other s q queue lives there deleted = grind (arith, eqb-true)

ended_lost : (peer : Peer) (q : ℕ) → (q == 0) ≡ false → (rs : List Record) → AllByRecursion (Fine peer) rs → AllEnded (map (a.lost q) rs)
ended_lost peer q other rs h = all_map (Fine peer) EndedIfHeld (a.lost q) rs (λ r p. each r ((r.q == q) && is_submitted r.phase) refl p) h
  where
    each : (r : Record) (b : Bool) → ((r.q == q) && is_submitted r.phase) ≡ b → Fine peer r → EndedIfHeld (if b then a.aborted r else r)
    each r true at p = λ held. record {
      is_io = io_of peer r (ap (λ (n : ℕ). n == 0) (eqb-true r.q q (and_parts (r.q == q) (is_submitted r.phase) at).0) ∙ other) r.work p.0;
      has_status = refl;
    }
    each r false at p = p.1

-- Every event of the host

host_ended : (s : State) (e : Event) (reply : Reply) → IsSound s → Accepts s e reply → IsController e ≡ false → AllEnded s.host.records → AllEnded (a.after s e reply).host.records
host_ended s e reply sound ok c h =
    let began : (new : Record) → EndedIfHeld new → AllEnded (s.host.records ++ new ∷ []) = λ new ended. all_append EndedIfHeld s.host.records (new ∷ []) h (ended, tt) in
    let less : (q cid : ℕ) → AllEnded (without_record q cid s.host.records) = λ q cid. all-filter EndedIfHeld (λ r. not (is_at q cid r)) s.host.records h in
    let sent : (adm : AdminKind) (id : ℕ) → AllEnded (s.host.records ++ sent_record adm id ∷ []) = λ adm id. began (sent_record adm id) (λ held. absurd (true≢false (sym held))) in
    -- a completion that is told ends the one command of its identifier
    let lone : (q cid : ℕ) (r : Record) → record_at s.host q cid ≡ Some r → AllByRecursion (Lone q cid r) s.host.records = λ q cid r found.
    all_in_both EndedIfHeld (λ x. is_at q cid x ≡ true → x ≡ r) (Lone q cid r) s.host.records (λ x within f e. (f, e))
    (is_found q cid s.host.records r found ((holds_from_sound s sound).once q cid)) h in
    host_moves (λ (e : Event) (reply : Reply) (t : State). AllEnded t.host.records) s e reply ok c
    (record {
      reserves = λ q request d none is. began (drafted_record d) (λ held. absurd (true≢false (sym held)));
      submits = λ d entry r none built its live. not_held_now d.q d.cid a.submitted (λ r'. refl) s.host.records h;
      cancels = λ d r its. less d.q d.cid;
      rings = λ q none. h;
      rests = λ q is. h;
      rejects = λ q why is. h;
      tells = λ q cid st what e r request t heard w.
          all_map (Lone q cid r) EndedIfHeld (λ x. if is_at q cid x then a.held st e.hints x else x) s.host.records (λ x p. told q cid st e.hints x r request w (is_at q cid x) refl p) (lone q cid r heard.found);
      hears = λ q cid st what e r adm t heard w quiet unmade. less q cid;
      notes = λ q cid st what e r k t heard w. less q cid;
      frees = λ q cid st what e r k queue t heard w at alone good. less q cid;
      makes_cq = λ q cid st what e r k n base vector t heard w good. less q cid;
      unmakes_cq = λ q cid st what e r k n base vector queue t heard w at bad. less q cid;
      makes_sq = λ q cid st what e r k n base t heard w good. less q cid;
      unmakes_sq = λ q cid st what e r k n base queue t heard w at bad. less q cid;
      collects = λ q cid r f at held is. not_held_now q cid a.collected (λ r'. refl) s.host.records h;
      releases = λ f r its. less f.q f.cid;
      aborts = λ q cid id none new. sent (Abort q cid) id;
      asks = λ q id queue none new live. sent (DeleteSq q) id;
      drops = λ q id none new. sent (DeleteCq q) id;
      creates_cqs = λ q vector id first queue none new granted. sent (creates_cq q vector first s) id;
      creates_sqs = λ q id first queue none new granted. sent (creates_sq q first s) id;
      retires = λ q queue none at deleted. ended_lost s.host.peer q (deleted_other s q queue sound.admin at deleted) s.host.records (fine s sound h);
      forges = λ q slot bytes queue none at. h;
      resets = all_reset EndedIfHeld EndedIfHeld (λ r io ended. lost_by EndedIfHeld r (λ quiet. ended) (λ sub held. record { is_io = grind arith; has_status = refl })) s.host.records h;
    })
  where
    told : (q cid : ℕ) (st : Status) (hints : Hints) (x r : Record) (request : Request) → r.work ≡ Io request → (b : Bool) → is_at q cid x ≡ b → Lone q cid r x
        → EndedIfHeld (if b then a.held st hints x else x)
    told q cid st hints x r request w true at p = λ held. record { is_io = ap (λ (y : Record). is_some (asked_by y.work)) (p.0 at) ∙ ap (λ (v : Work). is_some (asked_by v)) w; has_status = refl }
    told q cid st hints x r request w false at p = p.1

-- Steps

permitted_ended : (s : State) (e : Event) (reply : Reply) → IsSound s → Permits s e reply → (b : Bool) → IsController e ≡ b → AllEnded s.host.records → AllEnded (a.after s e reply).host.records
permitted_ended s e reply sound permits true c h = subst (λ (part : HostPart). AllEnded part.host.records) (sym (part_controller s e reply c)) h
permitted_ended s e (events.Refused why touched) sound permits false c h = h
permitted_ended s e (events.Reserved d) sound permits false c h = host_ended s e (events.Reserved d) sound (surely _ s.trusted (IsController e) c permits) c h
permitted_ended s e reply sound permits false c h = host_ended s e reply sound (surely _ s.trusted (IsController e) c permits) c h

step_ended : (old : State) (e : Event) (reply : Reply) (new : State) → IsSound old → Step old e reply new → AllEnded old.host.records → AllEnded new.host.records
step_ended old e reply new sound step h =
    subst (λ (part : HostPart). AllEnded part.host.records) (sym (part_left old e reply new step.2)) (permitted_ended old e reply sound step.1 (IsController e) refl h)

pub opens_ready : openings_are_ready
opens_ready pages queues n s image opens bytes = record { order = opens_in_order pages queues n s image opens bytes; held = tt }

pub ready_kept : steps_keep_ready
ready_kept old e reply new ready step = record { order = order_kept old e reply new ready.order step; held = step_ended old e reply new ready.order.sound step ready.held }
