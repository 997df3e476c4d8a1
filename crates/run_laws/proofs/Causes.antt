-- Why a command ended with its status.
use Rattle.machine_model.specs.After as a
use Rattle.machine_model.specs.Events as events
use Rattle.io_commands.specs.Jobs as jobs
use Rattle.machine_model.proofs.{Cases.none_some, Steps.{Accepts, managed_by, permitted, first_fails, rest_fails}}
use Rattle.machine_model.specs.{After.{course_of, walks, final_status}, Agreeing.unfetched_count, Claims.OwnsFit, Events.{Event, Reply}, Image.Made}
use Rattle.machine_model.specs.{Proper.IsProper}
use Rattle.machine_model.specs.Refusals.{is_submitted, next_rung, job_at, is_job, refusal_of}
use Rattle.machine_model.specs.{Standing.{unfetched_at, HasEntry, StandsAs, CommandStands}, State.{State, ServedQueue, Record, Job, is_at, pages_of}}
use Rattle.machine_model.specs.{Status.same_status, Step.{IsController, resets, Step}, Trusted.TrustedRun, Weights.{one, total}, Work.Work}
use Rattle.machine_model.specs.declared.words.{Peer.TheVariants.{Modelled}, Refusal.Refusal, Work.TheVariants.{Io, Management}}
use Rattle.std.proofs.Common.{◌≡◌, ℕ, zero, suc, ◌+◌, ◌≤◌, ◌==◌, nat_lt, Bool, true, false, ◌&&◌, ◌||◌, Option, Some, None, List, [], ◌∷◌, ◌++◌, length, if◌then◌else◌, refl, ap, ap₂, sym, ◌∙◌, arith, subst, eqb-true, eq-eqb, inl, inr, not, map, filter, find, is_some, is_none, ◌/◌}
use Rattle.std.{proofs.lemmas.{Bool.{true≢false, and_parts, cases_Bool, not-false, Decides.nat_tests}, List.length-replicate}, specs.List.{AllByRecursion, list_any}}
use Rattle.std.specs.{Option.{option_map_or, option_map}, Prelude.unwrap_or, Str.bytes_eq}
use Rattle.controller_walk.specs.{Laws.after_units, Units.{Course, Closes, Does, verdict, Act, Stays, Reads, Moves}, Walks.answer}
use Rattle.controller_walk.specs.declared.walk.WalkState.{WalkState, TheVariants.End}
use Rattle.sgl_descriptor.specs.{Spelling.spelling, declared.Direction.{Direction, TheVariants.{Destination, Source}}}
use Rattle.entry_codec.specs.{Status.is_success, declared.{admin_opcode.TheConstants.{ABORT, DELETE_IO_SQ}, io_opcode.TheConstants.COMPARE, status.Status.Status}}
use Rattle.entry_codec.specs.declared.status.TheConstants.Status.{SUCCESS, ABORT_REQUESTED, ABORTED_SQ_DELETION, INVALID_OPCODE, INVALID_NAMESPACE, LBA_OUT_OF_RANGE, COMPARE_FAILURE}
use Rattle.entry_codec.specs.declared.submission.SubEntry.{SubEntry}
use Rattle.io_commands.{proofs.Building.{entry_blocks, few_blocks, few_of_a_size}, specs.{Asked.Request, Drafts.io_entry}}
use Rattle.io_commands.specs.Jobs.{verdict_of, io_fault, bytes_after_check, first_block, block_number, need_of_entry, kind_of_opcode, direction_of_entry}
use Rattle.io_commands.specs.{Values.IsGood, Requests.{is_admin, moves_data}, declared.request.Kind.{Kind, TheVariants.{Write, Compare}}}
use Rattle.run_laws.specs.Statuses.{fetches, aborts, deletes, since_fetch, fetches_by, managed_entry, status_by, has_cause, is_unknown, misses_namespace, passes_image, is_compare, every_status_has_its_cause}
use Rattle.two_sides.proofs.{Along.{Carried, Before, keeps, made_of, run_before}, Commands.{in_hand_is, Walking, walking}}
use Rattle.two_sides.proofs.{ControllerMoves.{unit_bytes, unit_done, finished, fetch_of, walk_by, complete_by}, JobLaws.{moved_length, blocks_put, not_zero}}
use Rattle.two_sides.proofs.{NeverFull.{one_job, stood_on, stood_at_opening}, PlacesKept.{InHand, first_is, running_not_past, in_hand}, TiedAll.admins_of}
use Rattle.two_sides.proofs.PoolBytes.{host_jobs, host_image}
use Rattle.two_sides.proofs.Provided.{sent_found, all_map, all_append, all_of, all_in_both, only_found}
use Rattle.two_sides.proofs.Served.{Stood, course_ends}
use Rattle.admin_commands.specs.{Entries.{named_queue, named_command}, declared.SqState.TheVariants.Stopping}
use Rattle.page_memory.specs.Pages.{with_bytes}
use Rattle.block_image.specs.Blocks.{blocks_at}
use Rattle.page_memory.proofs.Lists.{found_is, all-found, all-filter, some_is}
use Rattle.run_laws.proofs.KnownKinds.{moving_kind, still_kind, list_moves}
pub use Rattle.two_sides.proofs.Heads.{no_conflict as not_conflicting}

-- Each verdict of an I/O job has its cause in the run: what steps do to that.

-- Lists of steps, one longer

any_more : (f : Made → Bool) (xs : List Made) (m : Made) → list_any f (xs ++ m ∷ []) ≡ (list_any f xs || f m)
any_more f [] m = grind arith
any_more f (x ∷ xs) m = grind (arith, any_more f xs m)

pub any_longer : (f : Made → Bool) (xs : List Made) (m : Made) → list_any f xs ≡ true → list_any f (xs ++ m ∷ []) ≡ true
any_longer f xs m h = any_more f xs m ∙ ap (λ (b : Bool). b || f m) h

pub any_last : (f : Made → Bool) (xs : List Made) (m : Made) → f m ≡ true → list_any f (xs ++ m ∷ []) ≡ true
any_last f xs m h = any_more f xs m ∙ grind arith

-- what came since a fetch is one step longer with a step that is no fetch of the command
pub since_more : (q cid : ℕ) (xs : List Made) (m : Made) → list_any (fetches q cid) xs ≡ true → fetches q cid m ≡ false → since_fetch q cid (xs ++ m ∷ []) ≡ since_fetch q cid xs ++ m ∷ []
since_more q cid [] m h far = absurd (true≢false (sym h))
since_more q cid (x ∷ xs) m h far = grind (arith, since_more q cid xs m, any_more)

-- What is known of an I/O job

abbrev pub cause : List Made → ℕ → Job → Status → Bool
cause earlier blocks j st =
    is_success st
    || (same_status st ABORT_REQUESTED && list_any (aborts j.q j.entry.cid) (since_fetch j.q j.entry.cid earlier))
    || (same_status st ABORTED_SQ_DELETION && list_any (deletes j.q) (since_fetch j.q j.entry.cid earlier))
    || (same_status st INVALID_OPCODE && is_none (kind_of_opcode j.entry.opcode))
    || (same_status st INVALID_NAMESPACE && not (j.entry.nsid == 1))
    || (same_status st LBA_OUT_OF_RANGE && nat_lt blocks (first_block j.entry + block_number j.entry))

pub same_is : (a b : Status) → same_status a b ≡ true → a ≡ b
same_is a b h =
    let parts = and_parts (a.sct == b.sct) (a.sc == b.sc) h in
    ap₂ (λ (x y : ℕ). record { sct = x; sc = y }) (eqb-true a.sct b.sct parts.0) (eqb-true a.sc b.sc parts.1)

-- no verdict yet, or that of a walk that ended well
abbrev pub goes_well : Option Status → Bool
goes_well None = true
goes_well (Some st) = is_success st

pub record Caused (earlier : List Made) (blocks : ℕ) (j : Job) : Type 0 where
  pub fetched : list_any (fetches j.q j.entry.cid) earlier ≡ true
  pub cause : (st : Status) → j.verdict ≡ Some st → cause earlier blocks j st ≡ true
  -- what goes well is of an opcode that the controller has, and of namespace 1
  pub known : goes_well j.verdict ≡ true → is_none (kind_of_opcode j.entry.opcode) ≡ false
  pub namespace : goes_well j.verdict ≡ true → j.entry.nsid ≡ 1
  -- a Write that goes well has all its bytes, and its blocks lie in the image
  pub whole : kind_of_opcode j.entry.opcode ≡ Some Write → goes_well j.verdict ≡ true → length j.bytes ≡ need_of_entry j.entry
  pub inside : kind_of_opcode j.entry.opcode ≡ Some Write → goes_well j.verdict ≡ true → first_block j.entry + block_number j.entry ≤ blocks

abbrev pub CausedIfIo : List Made → ℕ → Job → Type 0
CausedIfIo earlier blocks j = (j.q == 0) ≡ false → Caused earlier blocks j

abbrev pub AllCaused : List Made → ℕ → List Job → Type 0
AllCaused earlier blocks js = AllByRecursion (CausedIfIo earlier blocks) js

both_on : (a b b' : Bool) → (b ≡ true → b' ≡ true) → (a && b) ≡ true → (a && b') ≡ true
both_on a b b' f h = grind arith

six_on : (a b b' c c' d e k : Bool) → (b ≡ true → b' ≡ true) → (c ≡ true → c' ≡ true) → (a || b || c || d || e || k) ≡ true → (a || b' || c' || d || e || k) ≡ true
six_on a b b' c c' d e k f g h = grind arith

-- a step that is no fetch of the command
pub caused_on : (earlier : List Made) (blocks : ℕ) (j : Job) (m : Made) → fetches j.q j.entry.cid m ≡ false → Caused earlier blocks j → Caused (earlier ++ m ∷ []) blocks j
caused_on earlier blocks j m far h = record {
  fetched = any_longer (fetches j.q j.entry.cid) earlier m h.fetched;
  cause = λ st e.
      let since = since_more j.q j.entry.cid earlier m h.fetched far in
      let l = since_fetch j.q j.entry.cid earlier in
      six_on (is_success st) (same_status st ABORT_REQUESTED && list_any (aborts j.q j.entry.cid) l) (same_status st ABORT_REQUESTED && list_any (aborts j.q j.entry.cid) (since_fetch j.q j.entry.cid (earlier ++ m ∷ [])))
      (same_status st ABORTED_SQ_DELETION && list_any (deletes j.q) l) (same_status st ABORTED_SQ_DELETION && list_any (deletes j.q) (since_fetch j.q j.entry.cid (earlier ++ m ∷ [])))
      (same_status st INVALID_OPCODE && is_none (kind_of_opcode j.entry.opcode)) (same_status st INVALID_NAMESPACE && not (j.entry.nsid == 1))
      (same_status st LBA_OUT_OF_RANGE && nat_lt blocks (first_block j.entry + block_number j.entry))
      (both_on (same_status st ABORT_REQUESTED) (list_any (aborts j.q j.entry.cid) l) (list_any (aborts j.q j.entry.cid) (since_fetch j.q j.entry.cid (earlier ++ m ∷ [])))
      (λ z. ap (list_any (aborts j.q j.entry.cid)) since ∙ any_longer (aborts j.q j.entry.cid) l m z))
      (both_on (same_status st ABORTED_SQ_DELETION) (list_any (deletes j.q) l) (list_any (deletes j.q) (since_fetch j.q j.entry.cid (earlier ++ m ∷ [])))
      (λ z. ap (list_any (deletes j.q)) since ∙ any_longer (deletes j.q) l m z)) (h.cause st e);
  known = h.known;
  namespace = h.namespace;
  whole = h.whole;
  inside = h.inside;
}

pub all_on : (earlier : List Made) (blocks : ℕ) (js : List Job) (m : Made) → AllByRecursion (λ j. (j.q == 0) ≡ false → fetches j.q j.entry.cid m ≡ false) js → AllCaused earlier blocks js → AllCaused (earlier ++ m ∷ []) blocks js
all_on earlier blocks [] m far h = tt
all_on earlier blocks (j ∷ js) m far h = ((λ other. caused_on earlier blocks j m (far.0 other) (h.0 other)), all_on earlier blocks js m far.1 h.1)

-- an Abort's mark, and a deletion's
pub caused_abort : (earlier : List Made) (blocks : ℕ) (j : Job) (m : Made) (id : ℕ) → fetches j.q j.entry.cid m ≡ false → aborts j.q j.entry.cid m ≡ true → Caused earlier blocks j
    → Caused (earlier ++ m ∷ []) blocks (record j { verdict = Some ABORT_REQUESTED; waiting_abort = Some id })
caused_abort earlier blocks j m id far is h = record {
  fetched = any_longer (fetches j.q j.entry.cid) earlier m h.fetched;
  cause = λ st e.
      let any : list_any (aborts j.q j.entry.cid) (since_fetch j.q j.entry.cid (earlier ++ m ∷ [])) ≡ true =
      ap (list_any (aborts j.q j.entry.cid)) (since_more j.q j.entry.cid earlier m h.fetched far) ∙ any_last (aborts j.q j.entry.cid) (since_fetch j.q j.entry.cid earlier) m is in
      subst (λ (x : Status). cause (earlier ++ m ∷ []) blocks (record j { verdict = Some ABORT_REQUESTED; waiting_abort = Some id }) x ≡ true) (some_is e) (rw any refl);
  known = λ w. absurd (true≢false (sym w));
  namespace = λ w. absurd (true≢false (sym w));
  whole = λ k w. absurd (true≢false (sym w));
  inside = λ k w. absurd (true≢false (sym w));
}

pub caused_stop : (earlier : List Made) (blocks : ℕ) (j : Job) (m : Made) → fetches j.q j.entry.cid m ≡ false → deletes j.q m ≡ true → Caused earlier blocks j
    → Caused (earlier ++ m ∷ []) blocks (record j { verdict = Some ABORTED_SQ_DELETION })
caused_stop earlier blocks j m far is h = record {
  fetched = any_longer (fetches j.q j.entry.cid) earlier m h.fetched;
  cause = λ st e.
      let any : list_any (deletes j.q) (since_fetch j.q j.entry.cid (earlier ++ m ∷ [])) ≡ true =
      ap (list_any (deletes j.q)) (since_more j.q j.entry.cid earlier m h.fetched far) ∙ any_last (deletes j.q) (since_fetch j.q j.entry.cid earlier) m is in
      subst (λ (x : Status). cause (earlier ++ m ∷ []) blocks (record j { verdict = Some ABORTED_SQ_DELETION }) x ≡ true) (some_is e) (rw any refl);
  known = λ w. absurd (true≢false (sym w));
  namespace = λ w. absurd (true≢false (sym w));
  whole = λ k w. absurd (true≢false (sym w));
  inside = λ k w. absurd (true≢false (sym w));
}

-- The field checks of a good request's entry find nothing but an opcode that the controller does not have, another namespace, and blocks beyond the image

abbrev range_fault : ℕ → SubEntry → Option Status
range_fault blocks e = if nat_lt blocks (first_block e + block_number e) then Some LBA_OUT_OF_RANGE else None

abbrev named_fault : ℕ → SubEntry → Option Status
named_fault blocks e = if not (e.nsid == 1) then Some INVALID_NAMESPACE else range_fault blocks e

abbrev entry_fault : ℕ → SubEntry → Option Status
entry_fault blocks e = if is_none (kind_of_opcode e.opcode) then Some INVALID_OPCODE else named_fault blocks e

at_most_2048 : (n : ℕ) → n ≤ 2048 → nat_lt 2048 n ≡ false
at_most_2048 n few = grind (arith, nat_tests, few)

-- in blocks of any size there are at most 2,048
few_in : (r : Request) → IsGood r → r.blocks ≤ 2048
few_in r good =
    let most = few_blocks r.kind r.block_size r.blocks r.pieces good in
    let few = few_of_a_size r.block_size in
    omega (arith, most, few)

good_fault : (blocks cid : ℕ) (r : Request) (sgl1 : List ℕ) → IsGood r → is_admin r.kind ≡ false → io_fault blocks (io_entry cid r sgl1) ≡ entry_fault blocks (io_entry cid r sgl1)
good_fault blocks cid r sgl1 good far = elim (cases_Bool (moves_data r.kind)) [
  | inl moves ↦
      let few = at_most_2048 (block_number (io_entry cid r sgl1)) (subst (λ (n : ℕ). n ≤ 2048) (sym (entry_blocks cid r sgl1 good moves)) (few_in r good)) in
      rw (ap is_none (moving_kind r.kind moves), moves, few) refl
  | inr still ↦ rw (ap is_none (still_kind r.kind far still)) refl
]

-- the entry in hand is that of a good request
pub record HandGood (e : SubEntry) : Type 0 where
  pub request : Request
  pub sgl1 : List ℕ
  pub good : IsGood request
  pub blocks : is_admin request.kind ≡ false
  pub is : e ≡ io_entry e.cid request sgl1

pub hand_good : (s : State) → Stood s → (q : ℕ) (e : SubEntry) → (q == 0) ≡ false → InHand s q e → HandGood e
hand_good s stood q e other hand =
    let w : ℕ → ℕ = λ c. one (c == e.cid) in
    let un : unfetched_count q w s.host.queues s.controller.queues ≡ total (λ (x : SubEntry). w x.cid) (unfetched_at s.controller.queues q) =
    ap (λ (b : Bool). if b then 0 else total (λ (x : SubEntry). w x.cid) (unfetched_at s.controller.queues q)) (running_not_past s stood.grounds q e hand) in
    let mine : 1 ≤ total (λ (x : SubEntry). w x.cid) (unfetched_at s.controller.queues q) =
    subst (λ (xs : List SubEntry). 1 ≤ total (λ (x : SubEntry). w x.cid) xs) (sym (ap (λ (o : Option ServedQueue). option_map_or (λ at. at.unfetched) o []) hand.at ∙ first_is hand.queue.unfetched e hand.first))
    (omega (arith, ap one (eq-eqb e.cid e.cid refl))) in
    let r = sent_found q e.cid s.host.records (omega (arith, un, mine, stood.places q w)) (stood.grounds.stands.0.once q e.cid) in
    let ids = and_parts (r.0.q == q) (r.0.cid == e.cid) (found_is (is_at q e.cid) s.host.records r.0 r.1) in
    of r.0 r.2 (eqb-true r.0.q q ids.0) (eqb-true r.0.cid e.cid ids.1) r.0.work refl
    (all-found (λ r. OwnsFit Modelled r.q r.work (pages_of r)) (is_at q e.cid) s.host.records r.0 r.1 (admins_of s stood.grounds))
    (all-found (CommandStands s.memory s.controller.queues s.controller.jobs) (is_at q e.cid) s.host.records r.0 r.1 stood.commands)
  where
    of : (r : Record) → is_submitted r.phase ≡ true → r.q ≡ q → r.cid ≡ e.cid → (work : Work) → r.work ≡ work
        → OwnsFit Modelled r.q r.work (pages_of r) → CommandStands s.memory s.controller.queues s.controller.jobs r → HandGood e
    of r sub rq rc (Io request) is fit stands =
        let stands' : StandsAs s.memory s.controller.queues s.controller.jobs r (Io request) = subst (StandsAs s.memory s.controller.queues s.controller.jobs r) is stands in
        let list = stands'.1 sub in
        let same : e ≡ io_entry r.cid request (spelling list.first) =
        in_hand_is s q e hand r.cid (io_entry r.cid request (spelling list.first)) (subst (λ (n : ℕ). HasEntry s.controller.queues s.controller.jobs n r.cid (io_entry r.cid request (spelling list.first))) rq list.entry) (sym rc) in
        record { request = request; sgl1 = spelling list.first; good = stands'.0.good; blocks = stands'.0.blocks; is = same ∙ ap (λ (c : ℕ). io_entry c request (spelling list.first)) rc }
    of r sub rq rc (Management adm) is fit stands = grind (arith, eq-eqb)

-- a job that begins
pub caused_begun : (earlier : List Made) (blocks : ℕ) (image : List ℕ) (q : ℕ) (e : SubEntry) (m : Made) → HandGood e → fetches q e.cid m ≡ true
    → Caused (earlier ++ m ∷ []) blocks (a.new_job q e (io_fault blocks e) 0 (bytes_after_check image e (io_fault blocks e)))
caused_begun earlier blocks image q e m hand is =
    elim (cases_Bool (is_none (kind_of_opcode e.opcode))) [
      | inl none ↦ unknown none
      | inr known ↦ elim (cases_Bool (not (e.nsid == 1))) [ inl other ↦ elsewhere known other | inr one ↦ there known one ]
    ]
  where
    fault : io_fault blocks e ≡ entry_fault blocks e
    fault = subst (λ (x : SubEntry). io_fault blocks x ≡ entry_fault blocks x) (sym hand.is) (good_fault blocks e.cid hand.request hand.sgl1 hand.good hand.blocks)

    unknown : is_none (kind_of_opcode e.opcode) ≡ true → Caused (earlier ++ m ∷ []) blocks (a.new_job q e (io_fault blocks e) 0 (bytes_after_check image e (io_fault blocks e)))
    unknown none =
        let is_fault : io_fault blocks e ≡ Some INVALID_OPCODE = fault ∙ ap (λ (b : Bool). if b then Some INVALID_OPCODE else named_fault blocks e) none in
        rw is_fault (record {
          fetched = any_last (fetches q e.cid) earlier m is;
          cause = λ st v. subst (λ (x : Status). cause (earlier ++ m ∷ []) blocks (a.new_job q e (Some INVALID_OPCODE) 0 []) x ≡ true) (some_is v) (rw none refl);
          known = λ w. absurd (true≢false (sym w));
          namespace = λ w. absurd (true≢false (sym w));
          whole = λ k w. absurd (true≢false (sym w));
          inside = λ k w. absurd (true≢false (sym w));
        })

    named : is_none (kind_of_opcode e.opcode) ≡ false → io_fault blocks e ≡ named_fault blocks e
    named known = fault ∙ ap (λ (b : Bool). if b then Some INVALID_OPCODE else named_fault blocks e) known

    elsewhere : is_none (kind_of_opcode e.opcode) ≡ false → not (e.nsid == 1) ≡ true → Caused (earlier ++ m ∷ []) blocks (a.new_job q e (io_fault blocks e) 0 (bytes_after_check image e (io_fault blocks e)))
    elsewhere known other =
        let is_fault : io_fault blocks e ≡ Some INVALID_NAMESPACE = named known ∙ ap (λ (b : Bool). if b then Some INVALID_NAMESPACE else range_fault blocks e) other in
        rw is_fault (record {
          fetched = any_last (fetches q e.cid) earlier m is;
          cause = λ st v. subst (λ (x : Status). cause (earlier ++ m ∷ []) blocks (a.new_job q e (Some INVALID_NAMESPACE) 0 []) x ≡ true) (some_is v) (rw other refl);
          known = λ w. absurd (true≢false (sym w));
          namespace = λ w. absurd (true≢false (sym w));
          whole = λ k w. absurd (true≢false (sym w));
          inside = λ k w. absurd (true≢false (sym w));
        })

    there : is_none (kind_of_opcode e.opcode) ≡ false → not (e.nsid == 1) ≡ false → Caused (earlier ++ m ∷ []) blocks (a.new_job q e (io_fault blocks e) 0 (bytes_after_check image e (io_fault blocks e)))
    there known one =
        let range : io_fault blocks e ≡ range_fault blocks e = named known ∙ ap (λ (b : Bool). if b then Some INVALID_NAMESPACE else range_fault blocks e) one in
        elim (cases_Bool (nat_lt blocks (first_block e + block_number e))) [
          | inl n ↦
              let is_fault : io_fault blocks e ≡ Some LBA_OUT_OF_RANGE = range ∙ ap (λ (b : Bool). if b then Some LBA_OUT_OF_RANGE else None) n in
              rw is_fault (record {
                fetched = any_last (fetches q e.cid) earlier m is;
                cause = λ st v. subst (λ (x : Status). cause (earlier ++ m ∷ []) blocks (a.new_job q e (Some LBA_OUT_OF_RANGE) 0 []) x ≡ true) (some_is v) (rw n refl);
                known = λ w. absurd (true≢false (sym w));
                namespace = λ w. absurd (true≢false (sym w));
                whole = λ k w. absurd (true≢false (sym w));
                inside = λ k w. absurd (true≢false (sym w));
              })
          | inr n ↦
              let no_fault : io_fault blocks e ≡ None = range ∙ ap (λ (b : Bool). if b then Some LBA_OUT_OF_RANGE else None) n in
              rw no_fault (record {
                fetched = any_last (fetches q e.cid) earlier m is;
                cause = λ st v. absurd (none_some v);
                known = λ w. known;
                namespace = λ w. eqb-true e.nsid 1 (not-false (e.nsid == 1) one);
                whole = λ k w. (rw k (length-replicate (need_of_entry e) 0));
                inside = λ k w. (grind (arith, nat_tests, n));
              })
        ]

-- A walk whose list ends well answers no fault

closes_well : (v : WalkState) → v ≡ End → (st : Status) → verdict_of v ≡ Some st → st ≡ SUCCESS
closes_well v e st h = grind (arith, some_is)

pub answers_well : (t : ℕ) (c : Course) → verdict c ≡ End → (st : Status) → verdict_of (answer (after_units t c)) ≡ Some st → st ≡ SUCCESS
answers_well zero (Closes v) e st h = closes_well v e st h
answers_well zero (Does x rest) e st h = absurd cc
answers_well (suc t) (Closes v) e st h = closes_well v e st h
answers_well (suc t) (Does x rest) e st h = answers_well t rest e st h

-- Each step keeps the causes of verdicts.

-- What a step leaves: an image as long, and each verdict with its cause
pub record Keeps (earlier : List Made) (s t : State) : Type 0 where
  pub image : length t.controller.image ≡ length s.controller.image
  pub jobs : AllCaused earlier (a.image_blocks s) t.controller.jobs

-- Steps that are no fetch

host_no_fetch : (e : Event) (reply : Reply) (q cid : ℕ) → IsController e ≡ false → fetches_by q cid e reply ≡ false
host_no_fetch e reply q cid c = grind arith

pub refused_no_fetch : (e : Event) (why : Refusal) (touched : List ℕ) (q cid : ℕ) → fetches_by q cid e (events.Refused why touched) ≡ false
refused_no_fetch e why touched q cid = grind arith

pub not_fetched : (earlier : List Made) (m : Made) (s : State) → ((q cid : ℕ) → fetches q cid m ≡ false) → AllCaused earlier (a.image_blocks s) s.controller.jobs → AllCaused (earlier ++ m ∷ []) (a.image_blocks s) s.controller.jobs
not_fetched earlier m s far h = all_on earlier (a.image_blocks s) s.controller.jobs m (all_of (λ j. (j.q == 0) ≡ false → fetches j.q j.entry.cid m ≡ false) s.controller.jobs (λ j within other. far j.q j.entry.cid)) h

-- Fetching

far_zero : (q : ℕ) → (q == 0) ≡ false → (0 == q) ≡ false
far_zero q h = grind (arith, nat_tests, h)

-- an admin entry
managed_keeps : (earlier : List Made) (s : State) (q : ℕ) (e : SubEntry) (c : ℕ) (touched : List ℕ) → q ≡ 0 → next_rung s q ≡ Some e → AllCaused earlier (a.image_blocks s) s.controller.jobs
    → Keeps (earlier ++ record { before = s; event = events.Fetch q; reply = events.Fetched c touched } ∷ []) s (a.managed e (a.taken_off 0 s))
managed_keeps earlier s q e c touched z rung h =
    let old = all_on earlier (a.image_blocks s) s.controller.jobs m (all_of (λ j. (j.q == 0) ≡ false → fetches j.q j.entry.cid m ≡ false) s.controller.jobs (λ j within other. far j other)) h in
    managed_by (Keeps (earlier ++ m ∷ []) s) e (a.taken_off 0 s)
    (record {
      refuses = λ st bad. decided st 0 (a.taken_off 0 s) refl old;
      aborts = λ is8 w. decided SUCCESS 0 (a.on_job (named_queue e) (named_command e) (λ j. record j { verdict = Some ABORT_REQUESTED; waiting_abort = Some e.cid }) (a.taken_off 0 s)) refl
          (all_map (CausedIfIo earlier (a.image_blocks s)) (CausedIfIo (earlier ++ m ∷ []) (a.image_blocks s)) (λ j. if (j.q == named_queue e) && (j.entry.cid == named_command e) then record j { verdict = Some ABORT_REQUESTED; waiting_abort = Some e.cid } else j)
          s.controller.jobs (λ j k. marked is8 w j ((j.q == named_queue e) && (j.entry.cid == named_command e)) refl k) h);
      is_late = λ is8. decided SUCCESS 1 (a.taken_off 0 s) refl old;
      stops = λ is0 q0 runs. decided SUCCESS 0 (a.on_controller (λ d. record d { jobs = map (a.stopped (named_queue e)) d.jobs }) (a.on_served_queue (named_queue e) (λ at. record at { state = Stopping }) (a.taken_off 0 s))) refl
          (all_map (CausedIfIo earlier (a.image_blocks s)) (CausedIfIo (earlier ++ m ∷ []) (a.image_blocks s)) (a.stopped (named_queue e)) s.controller.jobs (λ j k. halted is0 j ((j.q == named_queue e) && is_none j.verdict) refl k) h);
      drops = λ is4 q0 there gone. decided SUCCESS 0 (a.on_served_queue (named_queue e) a.dropped (a.taken_off 0 s)) refl old;
      makes_completion = λ is5 q0 none. decided SUCCESS 0 (a.on_served_queue (named_queue e) a.completion_made (a.taken_off 0 s)) refl old;
      makes_submission = λ is1 q0 gone there. decided SUCCESS 0 (a.on_served_queue (named_queue e) a.submission_made (a.taken_off 0 s)) refl old;
    })
  where
    m : Made
    m = record { before = s; event = events.Fetch q; reply = events.Fetched c touched }

    entry_is : managed_entry s (events.Fetch q) (events.Fetched c touched) ≡ Some e
    entry_is = rw z (subst (λ (k : ℕ). next_rung s k ≡ Some e) z rung)

    far : (j : Job) → (j.q == 0) ≡ false → fetches j.q j.entry.cid (record { before = s; event = events.Fetch q; reply = events.Fetched c touched }) ≡ false
    far j other = rw z (ap (λ (b : Bool). b && (c == j.entry.cid)) (far_zero j.q other))

    decided : (st : Status) (dw0 : ℕ) (t : State) → t.controller.image ≡ s.controller.image → AllCaused (earlier ++ record { before = s; event = events.Fetch q; reply = events.Fetched c touched } ∷ []) (a.image_blocks s) t.controller.jobs
        → Keeps (earlier ++ record { before = s; event = events.Fetch q; reply = events.Fetched c touched } ∷ []) s (a.decided e st dw0 t)
    decided st dw0 t same all = record {
      image = ap length same;
      jobs = all_append (CausedIfIo (earlier ++ m ∷ []) (a.image_blocks s)) t.controller.jobs (a.new_job 0 e (Some st) dw0 [] ∷ []) all ((λ other. absurd (true≢false other)), tt);
    }

    marked : (e.opcode == ABORT) ≡ true → walks s (named_queue e) (named_command e) ≡ true → (j : Job) (b : Bool) → ((j.q == named_queue e) && (j.entry.cid == named_command e)) ≡ b
        → CausedIfIo earlier (a.image_blocks s) j → CausedIfIo (earlier ++ m ∷ []) (a.image_blocks s) (if b then record j { verdict = Some ABORT_REQUESTED; waiting_abort = Some e.cid } else j)
    marked is8 w j true is k other =
        let ids = and_parts (j.q == named_queue e) (j.entry.cid == named_command e) is in
        let jq : j.q ≡ named_queue e = eqb-true j.q (named_queue e) ids.0 in
        let jc : j.entry.cid ≡ named_command e = eqb-true j.entry.cid (named_command e) ids.1 in
        let its : aborts (named_queue e) (named_command e) m ≡ true =
        ap (λ (o : Option SubEntry). option_map_or (λ x. (x.opcode == ABORT) && (named_queue x == named_queue e) && (named_command x == named_command e) && walks s (named_queue e) (named_command e)) o false) entry_is
        ∙ rw (is8, eq-eqb (named_queue e) (named_queue e) refl, eq-eqb (named_command e) (named_command e) refl, w) refl in
        caused_abort earlier (a.image_blocks s) j m e.cid (far j other) (rw (jq, jc) its) (k other)
    marked is8 w j false is k other = caused_on earlier (a.image_blocks s) j m (far j other) (k other)

    halted : (e.opcode == DELETE_IO_SQ) ≡ true → (j : Job) (b : Bool) → ((j.q == named_queue e) && is_none j.verdict) ≡ b
        → CausedIfIo earlier (a.image_blocks s) j → CausedIfIo (earlier ++ m ∷ []) (a.image_blocks s) (if b then record j { verdict = Some ABORTED_SQ_DELETION } else j)
    halted is0 j true is k other =
        let jq : j.q ≡ named_queue e = eqb-true j.q (named_queue e) (and_parts (j.q == named_queue e) (is_none j.verdict) is).0 in
        let its : deletes (named_queue e) m ≡ true =
        ap (λ (o : Option SubEntry). option_map_or (λ x. (x.opcode == DELETE_IO_SQ) && (named_queue x == named_queue e)) o false) entry_is ∙ rw (is0, eq-eqb (named_queue e) (named_queue e) refl) refl in
        caused_stop earlier (a.image_blocks s) j m (far j other) (rw jq its) (k other)
    halted is0 j false is k other = caused_on earlier (a.image_blocks s) j m (far j other) (k other)

pub none_found : (q cid : ℕ) (js : List Job) → is_some (find (is_job q cid) js) ≡ false → AllByRecursion (λ j. is_job q cid j ≡ false) js
none_found q cid [] h = tt
none_found q cid (j ∷ js) h = grind (arith, none_found q cid js)

fetch_keeps : (earlier : List Made) (s : State) (q c : ℕ) (touched : List ℕ) → option_map (λ (e : SubEntry). e.cid) (next_rung s q) ≡ Some c → Stood s → AllCaused earlier (a.image_blocks s) s.controller.jobs
    → Keeps (earlier ++ record { before = s; event = events.Fetch q; reply = events.Fetched c touched } ∷ []) s (a.after_fetch q s)
fetch_keeps earlier s q c touched cid stood h =
    let x = entry (next_rung s q) refl cid in
    fetch_of (λ (t : State). Keeps (earlier ++ m ∷ []) s t) s q x.0 x.1 (λ con. absurd (true≢false (sym con ∙ ap (λ (o : Option SubEntry). option_map_or (λ e. is_some (job_at s q e.cid)) o false) x.1 ∙ not_conflicting s stood q x.0 (in_hand s q x.0 x.1))))
    (λ con z. managed_keeps earlier s q x.0 c touched z x.1 h) (λ con other. begun x.0 (in_hand s q x.0 x.1) (let h = x.2 in cc) other)
  where
    m : Made
    m = record { before = s; event = events.Fetch q; reply = events.Fetched c touched }

    entry : (o : Option SubEntry) → next_rung s q ≡ o → option_map (λ (e : SubEntry). e.cid) o ≡ Some c → (e : SubEntry) × (next_rung s q ≡ Some e) × (Some e.cid ≡ Some c)
    entry None n is = absurd cc
    entry (Some e) n is = (e, n, is)

    begun : (e : SubEntry) → InHand s q e → c ≡ e.cid → (q == 0) ≡ false → Keeps (earlier ++ record { before = s; event = events.Fetch q; reply = events.Fetched c touched } ∷ []) s (a.begun q e (a.taken_off q s))
    begun e hand is other = record {
      image = refl;
      jobs = all_append (CausedIfIo (earlier ++ m ∷ []) (a.image_blocks s)) s.controller.jobs (a.new_job q e (io_fault (a.image_blocks s) e) 0 (bytes_after_check s.controller.image e (io_fault (a.image_blocks s) e)) ∷ [])
          (all_on earlier (a.image_blocks s) s.controller.jobs m (elsewhere s.controller.jobs (none_found q e.cid s.controller.jobs (not_conflicting s stood q e hand))) h)
          ((λ o. caused_begun earlier (a.image_blocks s) s.controller.image q e m (hand_good s stood q e other hand) (rw (eq-eqb q q refl) (eq-eqb c e.cid is))), tt);
    }
      where
        elsewhere : (js : List Job) → AllByRecursion (λ j. is_job q e.cid j ≡ false) js → AllByRecursion (λ j. (j.q == 0) ≡ false → fetches j.q j.entry.cid (record { before = s; event = events.Fetch q; reply = events.Fetched c touched }) ≡ false) js
        elsewhere [] f = tt
        elsewhere (j ∷ js) f = ((λ o. (grind (arith, nat_tests, is, f.0))), elsewhere js f.1)

-- Walking

walk_keeps : (earlier : List Made) (s : State) (q cid : ℕ) (m : Made) → ((q cid : ℕ) → fetches q cid m ≡ false) → refusal_of s (events.Walk q cid) ≡ None → Stood s → AllCaused earlier (a.image_blocks s) s.controller.jobs
    → Keeps (earlier ++ m ∷ []) s (a.after_walk q cid s)
walk_keeps earlier s q cid m far none stood h =
    walk_by (λ (t : State). Keeps (earlier ++ m ∷ []) s t) s q cid (record { image = refl; jobs = not_fetched earlier m s far h })
    (λ j act at u. let w = walking s q cid j none stood at in
    record { image = refl; jobs = each j w (unit_done s j act) (stepped j w (direction_of_entry j.entry) act u) (λ k. refl) })
  where
    -- a job that goes on, with its bytes as they are
    goes : (j : Job) → Walking s q cid j → (bytes : List ℕ) → ((kind_of_opcode j.entry.opcode ≡ Some Write) → length j.bytes ≡ need_of_entry j.entry → length bytes ≡ need_of_entry j.entry)
        → Caused (earlier ++ m ∷ []) (a.image_blocks s) j → Caused (earlier ++ m ∷ []) (a.image_blocks s) (record j { bytes = bytes; units_done = j.units_done + 1; verdict = verdict_of (a.next_answer s j) })
    goes j w bytes len k =
        let well : goes_well j.verdict ≡ true = ap goes_well w.verdict in
        record {
          fetched = k.fetched;
          cause = λ st v. subst (λ (x : Status). cause (earlier ++ m ∷ []) (a.image_blocks s) j x ≡ true)
              (sym (answers_well (j.units_done + 1) (course_of s j) (course_ends s stood j w.list (list_moves s j w.list (k.known well))) st v)) refl;
          known = λ x. k.known well;
          namespace = λ x. k.namespace well;
          whole = λ kind x. len kind (k.whole kind well);
          inside = λ kind x. k.inside kind well;
        }

    each : (j : Job) → Walking s q cid j → (f : Job → Job) → (Caused (earlier ++ m ∷ []) (a.image_blocks s) j → Caused (earlier ++ m ∷ []) (a.image_blocks s) (f j)) → ((k : Job) → (f k).q ≡ k.q)
        → AllCaused (earlier ++ m ∷ []) (a.image_blocks s) (map (λ k. if (k.q == q) && (k.entry.cid == cid) then f k else k) s.controller.jobs)
    each j w f step same =
        all_map (λ k. (is_job q cid k ≡ true → k ≡ j) × CausedIfIo (earlier ++ m ∷ []) (a.image_blocks s) k) (CausedIfIo (earlier ++ m ∷ []) (a.image_blocks s)) (λ k. if (k.q == q) && (k.entry.cid == cid) then f k else k) s.controller.jobs
        (λ k p. one_of k (is_job q cid k) refl p.0 p.1)
        (all_in_both (λ k. CausedIfIo (earlier ++ m ∷ []) (a.image_blocks s) k) (λ k. is_job q cid k ≡ true → k ≡ j) (λ k. (is_job q cid k ≡ true → k ≡ j) × CausedIfIo (earlier ++ m ∷ []) (a.image_blocks s) k) s.controller.jobs
        (λ k within x p. (x, p)) (only_found (is_job q cid) s.controller.jobs j w.found (one_job s stood q cid)) (not_fetched earlier m s far h))
      where
        one_of : (k : Job) (b : Bool) → is_job q cid k ≡ b → (is_job q cid k ≡ true → k ≡ j) → CausedIfIo (earlier ++ m ∷ []) (a.image_blocks s) k → CausedIfIo (earlier ++ m ∷ []) (a.image_blocks s) (if b then f k else k)
        one_of k true t only p = subst (λ (x : Job). CausedIfIo (earlier ++ m ∷ []) (a.image_blocks s) (f x)) (sym (only t)) (λ other. step (subst (CausedIfIo (earlier ++ m ∷ []) (a.image_blocks s)) (only t) p w.other))
        one_of k false t only p = p

    stepped : (j : Job) → Walking s q cid j → (dir : Direction) (act : Act) → a.next_unit s j ≡ Some act → Caused (earlier ++ m ∷ []) (a.image_blocks s) j
        → Caused (earlier ++ m ∷ []) (a.image_blocks s) (record j { bytes = unit_bytes s dir act j.bytes; units_done = j.units_done + 1; verdict = verdict_of (a.next_answer s j) })
    stepped j w dir Stays u k = goes j w j.bytes (λ kind len. len) k
    stepped j w dir (Reads place) u k = goes j w j.bytes (λ kind len. len) k
    stepped j w Destination (Moves place n offset) u k = goes j w j.bytes (λ kind len. len) k
    stepped j w Source (Moves place n offset) u k = goes j w (with_bytes j.bytes offset (a.page_bytes s.memory place n)) (λ kind len. moved_length s j place n offset u len) k

-- Completing

complete_keeps : (earlier : List Made) (s : State) (q cid : ℕ) (m : Made) → ((q cid : ℕ) → fetches q cid m ≡ false) → Stood s → AllCaused earlier (a.image_blocks s) s.controller.jobs
    → Keeps (earlier ++ m ∷ []) s (a.after_complete q cid s)
complete_keeps earlier s q cid m far stood h =
    complete_by (λ (t : State). Keeps (earlier ++ m ∷ []) s t) s q cid (record { image = refl; jobs = not_fetched earlier m s far h })
    (λ j at c. record { image = left j at; jobs = fewer }) (λ j at c. record { image = left j at; jobs = fewer })
  where
    fewer : AllCaused (earlier ++ m ∷ []) (a.image_blocks s) (filter (λ j. not ((j.q == q) && (j.entry.cid == cid))) s.controller.jobs)
    fewer = all-filter (CausedIfIo (earlier ++ m ∷ []) (a.image_blocks s)) (λ j. not ((j.q == q) && (j.entry.cid == cid))) s.controller.jobs (not_fetched earlier m s far h)

    -- the image is as long after a Write
    by_kind : (j : Job) (v : Status) → Caused earlier (a.image_blocks s) j → j.verdict ≡ Some v → is_success v ≡ true → (k : Option Kind) → kind_of_opcode j.entry.opcode ≡ k
        → length (jobs.image_by s.controller.image j.entry j.bytes k) ≡ length s.controller.image
    by_kind j v c jv ok (Some Write) e =
        let well : goes_well j.verdict ≡ true = ap goes_well jv ∙ ok in
        blocks_put s.controller.image j.bytes (first_block j.entry) (block_number j.entry) (c.whole e well) (c.inside e well)
    by_kind j v c jv ok k e = refl

    by_verdict : (j : Job) → Caused earlier (a.image_blocks s) j → (o : Option Status) → j.verdict ≡ o → length (jobs.image_after s.controller.image j.entry j.bytes o) ≡ length s.controller.image
    by_verdict j c None jv = refl
    by_verdict j c (Some v) jv = elim (cases_Bool (is_success v)) [ inl ok ↦ rw ok (by_kind j v c jv ok (kind_of_opcode j.entry.opcode) refl) | inr ok ↦ rw ok refl ]

    image : (j : Job) → CausedIfIo earlier (a.image_blocks s) j → (b : Bool) → (j.q == 0) ≡ b → length (if b then s.controller.image else jobs.image_after s.controller.image j.entry j.bytes j.verdict) ≡ length s.controller.image
    image j c true e = refl
    image j c false e = by_verdict j (c e) j.verdict refl

    left : (j : Job) → job_at s q cid ≡ Some j → length (finished q cid j s).controller.image ≡ length s.controller.image
    left j at = image j (all-found (CausedIfIo earlier (a.image_blocks s)) (is_job q cid) s.controller.jobs j at h) (j.q == 0) refl

-- Every step

host_keeps : (earlier : List Made) (s : State) (e : Event) (reply : Reply) → IsController e ≡ false → resets e ≡ false → Accepts s e reply → AllCaused earlier (a.image_blocks s) s.controller.jobs
    → Keeps (earlier ++ record { before = s; event = e; reply = reply } ∷ []) s (a.after s e reply)
host_keeps earlier s e reply c other ok h = record {
  image = ap length (host_image s e reply ok c);
  jobs = subst (AllCaused (earlier ++ record { before = s; event = e; reply = reply } ∷ []) (a.image_blocks s)) (sym (host_jobs s e reply ok c other))
      (not_fetched earlier (record { before = s; event = e; reply = reply }) s (λ k n. host_no_fetch e reply k n c) h);
}

pub event_keeps : (earlier : List Made) (s : State) (e : Event) (reply : Reply) → Accepts s e reply → Stood s → AllCaused earlier (a.image_blocks s) s.controller.jobs
    → Keeps (earlier ++ record { before = s; event = e; reply = reply } ∷ []) s (a.after s e reply)
event_keeps earlier s (events.Fetch q) (events.Fetched c touched) ok stood h = fetch_keeps earlier s q c touched ok.1.0 stood h
event_keeps earlier s (events.Walk q cid) (events.Walked o touched) ok stood h = walk_keeps earlier s q cid (record { before = s; event = events.Walk q cid; reply = events.Walked o touched }) (λ k c. refl) ok.0 stood h
event_keeps earlier s (events.Complete q cid) (events.Completed touched) ok stood h = complete_keeps earlier s q cid (record { before = s; event = events.Complete q cid; reply = events.Completed touched }) (λ k c. refl) stood h
event_keeps earlier s (events.Fetch q) reply ok stood h = absurd ok.1
event_keeps earlier s (events.Walk q cid) reply ok stood h = absurd ok.1
event_keeps earlier s (events.Complete q cid) reply ok stood h = absurd ok.1
event_keeps earlier s events.Reset events.Accepted ok stood h = record { image = refl; jobs = tt }
event_keeps earlier s events.Reset reply ok stood h = absurd ok.1
event_keeps earlier s e reply ok stood h = host_keeps earlier s e reply refl refl ok h

-- Every status of an I/O command has its cause.

pub record Traced (earlier : List Made) (s : State) : Type 0 where
  pub stood : Stood s
  pub caused : AllCaused earlier (a.image_blocks s) s.controller.jobs

same_blocks : (s t : State) → length t.controller.image ≡ length s.controller.image → a.image_blocks t ≡ a.image_blocks s
same_blocks s t e = ap (λ (n : ℕ). n / 512) e

traced_on : (earlier : List Made) (s : State) (e : Event) (reply : Reply) → IsProper e → Accepts s e reply → s.trusted ≡ true → Traced earlier s
    → Traced (earlier ++ record { before = s; event = e; reply = reply } ∷ []) (a.after s e reply)
traced_on earlier s e reply proper ok t h =
    let k = event_keeps earlier s e reply ok h.stood h.caused in
    record {
      stood = stood_on s e reply proper ok t h.stood;
      caused = subst (λ (n : ℕ). AllCaused (earlier ++ record { before = s; event = e; reply = reply } ∷ []) n (a.after s e reply).controller.jobs) (sym (same_blocks s (a.after s e reply) k.image)) k.jobs;
    }

pub traced_carried : Carried Traced
traced_carried = record {
  refused = λ done s e why touched h. record { stood = h.stood; caused = not_fetched done (made_of s e (events.Refused why touched)) s (λ q cid. refused_no_fetch e why touched q cid) h.caused };
  taken = λ done s e reply proper ok t h. traced_on done s e reply proper ok t h;
}

pub traced_before : (image : List ℕ) (earlier later : List Made) (m : Made) (end : State) → TrustedRun image (earlier ++ m ∷ later) end → Before Traced earlier m
traced_before image = run_before Traced (keeps Traced traced_carried) image (λ pages queues n s opens. record { stood = stood_at_opening pages queues n s image opens; caused = tt })

-- What a completion gives

seven : (a b c d e f g : Bool) → (a || b || c || d || e || f) ≡ true → (a || b || c || d || e || f || g) ≡ true
seven a b c d e f g h = ap (λ (x : Bool). x || g) h

pub compare_opcode : (opcode : ℕ) → kind_of_opcode opcode ≡ Some Compare → (opcode == COMPARE) ≡ true
compare_opcode opcode h = grind arith

job_status : (earlier : List Made) (m : Made) (q cid : ℕ) (j : Job) → (q == 0) ≡ false → job_at m.before q cid ≡ Some j → j.q ≡ q → j.entry.cid ≡ cid → is_some j.verdict ≡ true
    → Caused earlier (a.image_blocks m.before) j → has_cause earlier m q cid (final_status m.before j) ≡ true
job_status earlier m q cid j other e jq jc some c =
    let blocks : ℕ = a.image_blocks m.before in
    let io : final_status m.before j ≡ jobs.status_after m.before.controller.image j.entry j.bytes j.verdict =
    ap (λ (b : Bool). if b then unwrap_or j.verdict SUCCESS else jobs.status_after m.before.controller.image j.entry j.bytes j.verdict) (ap (λ (k : ℕ). k == 0) jq ∙ other) in
    subst (λ (st : Status). has_cause earlier m q cid st ≡ true) (sym io) (by j.verdict refl)
  where
    range : passes_image m q cid ≡ nat_lt (a.image_blocks m.before) (first_block j.entry + block_number j.entry)
    range = ap (λ (o : Option Job). option_map_or (λ j. nat_lt (a.image_blocks m.before) (first_block j.entry + block_number j.entry)) o false) e

    unknown : is_unknown m q cid ≡ is_none (kind_of_opcode j.entry.opcode)
    unknown = ap (λ (o : Option Job). option_map_or (λ j. is_none (kind_of_opcode j.entry.opcode)) o false) e

    namespace : misses_namespace m q cid ≡ not (j.entry.nsid == 1)
    namespace = ap (λ (o : Option Job). option_map_or (λ j. not (j.entry.nsid == 1)) o false) e

    compares : is_compare m q cid ≡ (j.entry.opcode == COMPARE)
    compares = ap (λ (o : Option Job). option_map_or (λ j. j.entry.opcode == COMPARE) o false) e

    -- a verdict that is no success
    failed : (v : Status) → cause earlier (a.image_blocks m.before) j v ≡ true → has_cause earlier m q cid v ≡ true
    failed v h =
        seven (is_success v) (same_status v ABORT_REQUESTED && list_any (aborts q cid) (since_fetch q cid earlier)) (same_status v ABORTED_SQ_DELETION && list_any (deletes q) (since_fetch q cid earlier))
        (same_status v INVALID_OPCODE && is_unknown m q cid) (same_status v INVALID_NAMESPACE && misses_namespace m q cid) (same_status v LBA_OUT_OF_RANGE && passes_image m q cid)
        (same_status v COMPARE_FAILURE && is_compare m q cid)
        (rw (range, namespace, unknown) (subst (λ (k : ℕ). (is_success v || (same_status v ABORT_REQUESTED && list_any (aborts k cid) (since_fetch k cid earlier)) || (same_status v ABORTED_SQ_DELETION && list_any (deletes k) (since_fetch k cid earlier))
        || (same_status v INVALID_OPCODE && is_none (kind_of_opcode j.entry.opcode)) || (same_status v INVALID_NAMESPACE && not (j.entry.nsid == 1))
        || (same_status v LBA_OUT_OF_RANGE && nat_lt (a.image_blocks m.before) (first_block j.entry + block_number j.entry))) ≡ true) jq
        (subst (λ (n : ℕ). (is_success v || (same_status v ABORT_REQUESTED && list_any (aborts j.q n) (since_fetch j.q n earlier)) || (same_status v ABORTED_SQ_DELETION && list_any (deletes j.q) (since_fetch j.q n earlier))
        || (same_status v INVALID_OPCODE && is_none (kind_of_opcode j.entry.opcode)) || (same_status v INVALID_NAMESPACE && not (j.entry.nsid == 1))
        || (same_status v LBA_OUT_OF_RANGE && nat_lt (a.image_blocks m.before) (first_block j.entry + block_number j.entry))) ≡ true) jc h)))

    differs : kind_of_opcode j.entry.opcode ≡ Some Compare → has_cause earlier m q cid COMPARE_FAILURE ≡ true
    differs k = rw (compares ∙ compare_opcode j.entry.opcode k) refl

    by_kind : (k : Option Kind) → kind_of_opcode j.entry.opcode ≡ k → has_cause earlier m q cid (jobs.status_by m.before.controller.image j.entry j.bytes k) ≡ true
    by_kind (Some Compare) e = elim (cases_Bool (bytes_eq (blocks_at m.before.controller.image (first_block j.entry) (block_number j.entry)) j.bytes)) [
      | inl e ↦ rw e refl
      | inr e' ↦ rw e' (differs e)
    ]
    by_kind k e = refl

    by : (o : Option Status) → j.verdict ≡ o → has_cause earlier m q cid (jobs.status_after m.before.controller.image j.entry j.bytes o) ≡ true
    by None v = absurd (true≢false (sym some ∙ ap is_some v))
    by (Some v) e = elim (cases_Bool (is_success v)) [ inl ok ↦ rw ok (by_kind (kind_of_opcode j.entry.opcode) refl) | inr ok ↦ rw ok (failed v (c.cause v e)) ]

-- a completion that is accepted had a verdict
pub has_verdict : (s : State) (q cid : ℕ) (j : Job) → refusal_of s (events.Complete q cid) ≡ None → job_at s q cid ≡ Some j → is_some j.verdict ≡ true
has_verdict s q cid j none e = grind (arith, first_fails, rest_fails)

given_status : (earlier : List Made) (s : State) (e : Event) (reply : Reply) (new : State) (q cid : ℕ) (st : Status) → Step s e reply new → s.trusted ≡ true → Traced earlier s → (q == 0) ≡ false
    → status_by s e reply q cid ≡ Some st → has_cause earlier (record { before = s; event = e; reply = reply }) q cid st ≡ true
given_status earlier s (events.Complete q' cid') (events.Completed touched) new q cid st step t h other given = by_name ((q' == q) && (cid' == cid)) refl given
  where
    m : Made
    m = record { before = s; event = events.Complete q' cid'; reply = events.Completed touched }

    at : (o : Option Job) → job_at s q cid ≡ o → refusal_of s (events.Complete q cid) ≡ None → option_map (final_status s) o ≡ Some st → has_cause earlier m q cid st ≡ true
    at None e none g = absurd cc
    at (Some j) e none g =
        let same : final_status s j ≡ st = cc in
        let ids = and_parts (j.q == q) (j.entry.cid == cid) (found_is (is_job q cid) s.controller.jobs j e) in
        let jq = eqb-true j.q q ids.0 in
        let c = all-found (CausedIfIo earlier (a.image_blocks s)) (is_job q cid) s.controller.jobs j e h.caused (ap (λ (k : ℕ). k == 0) jq ∙ other) in
        subst (λ (x : Status). has_cause earlier m q cid x ≡ true) same (job_status earlier m q cid j other e jq (eqb-true j.entry.cid cid ids.1) (has_verdict s q cid j none e) c)

    by_name : (b : Bool) → ((q' == q) && (cid' == cid)) ≡ b → (if b then option_map (final_status s) (job_at s q cid) else None) ≡ Some st → has_cause earlier m q cid st ≡ true
    by_name true is g =
        let ids = and_parts (q' == q) (cid' == cid) is in
        let ok = permitted _ s.trusted false t step.1 in
        let none : refusal_of s (events.Complete q cid) ≡ None = rw (sym (eqb-true q' q ids.0), sym (eqb-true cid' cid ids.1)) ok.0 in
        at (job_at s q cid) refl none g
    by_name false is g = absurd cc
given_status earlier s e reply new q cid st step t h other given = absurd cc

pub statuses_have_causes : every_status_has_its_cause
statuses_have_causes image earlier later m end q cid st run io given =
    let b = traced_before image earlier later m end run in
    given_status earlier m.before m.event m.reply b.next q cid st b.step b.trusted b.holds (not_zero q io) given
