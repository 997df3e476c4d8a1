-- Reads bring the blocks as they were at the fetch.
use Rattle.machine_model.specs.After as a
use Rattle.machine_model.specs.Events as events
use Rattle.io_commands.specs.Jobs as jobs
use Rattle.std.proofs.Common.{◌≡◌, ℕ, ◌+◌, ◌%◌, ◌<◌, ◌≤◌, ◌==◌, Bool, true, false, not, ◌||◌, Some, List, [], ◌∷◌, length, take, slice_get, if◌then◌else◌, refl, ap, sym, ◌∙◌, arith, subst, inl, inr, ◌*◌, ◌/◌, nat_lt, ◌&&◌, Option, None, ◌++◌, is_some, eqb-true, eq-eqb}
use Rattle.std.{proofs.lemmas.{Bool.{true≢false, cases_Bool, and_parts, and_from, Decides.nat_tests}, Grind.common_steps}, specs.List.AllByRecursion}
use Rattle.std.specs.{Option.{option_and_then, option_map_or}, Prelude.unwrap_or}
use Rattle.page_ledger.specs.Owners.{is_among}
use Rattle.block_image.specs.Blocks.{blocks_at}
use Rattle.page_memory.specs.{Memory.page_of, Pages.{Pages, page_at, byte_at}}
use Rattle.sgl_descriptor.{proofs.Counts.length-targets, specs.{Spelling.spelling, Targets.{Target, Place, targets, counted_in}, declared.Direction.Direction}}
use Rattle.sgl_descriptor.specs.declared.Direction.TheVariants.{Destination}
use Rattle.controller_walk.{proofs.Along.list_moves_all, specs.{Along.MovesByte, Units.{units, Course}}}
use Rattle.entry_codec.specs.{Status.is_success, declared.status.{Status.Status, TheConstants.Status.SUCCESS}}
use Rattle.entry_codec.specs.declared.submission.SubEntry.{SubEntry}
use Rattle.io_commands.{proofs.Building.{carries_entry, entry_block, entry_blocks}, specs.{Asked.Request, Drafts.{DraftContents, io_entry}}}
use Rattle.io_commands.specs.Jobs.{verdict_of, io_fault, bytes_after_check, need_of_entry, direction_of_entry, direction_by, kind_of_opcode, first_block, block_number}
use Rattle.io_commands.specs.{BlockSizes.block_bytes, declared.block_size.BlockSize.BlockSize, Requests.{parts_of, direction_of, moves_data, need_of}, Values.numbers_of, declared.request.Kind.{Kind, TheVariants.Read}}
use Rattle.machine_model.proofs.{Cases.none_some, Counting.held_once, Owned.{in_record, in_queue}, Steps.{Accepts, pages_match}}
use Rattle.machine_model.specs.{After.{course_of, final_status}, Agreeing.unfetched_count, Claims.OwnsFit, Events.{Event, Reply}}
use Rattle.machine_model.specs.{Image.{draft_of, submitted_by}, Memory.memory_of, Proper.IsProper}
use Rattle.machine_model.specs.Refusals.{is_drafted, is_submitted, is_held, next_rung, refusal_of, job_at, is_job}
use Rattle.machine_model.specs.Standing.{IsSized, StandsAs, CommandStands, unfetched_at, HasEntry}
use Rattle.machine_model.specs.{State.{State, Record, Job, PostedCompletion, is_at, record_at, pages_of, ServedQueue}, Weights.{total, one}, Work.Work}
use Rattle.machine_model.specs.declared.words.{Peer.TheVariants.{Modelled}, Phase.Phase, Work.TheVariants.{Io, Management}}
use Rattle.run_laws.proofs.Carrying.{Stands, reach, target_in, list_ordered, all_reached, Received, received_still}
use Rattle.run_laws.proofs.{Causes.{goes_well, none_found, has_verdict}, Images.entry_kind}
use Rattle.run_laws.proofs.Known.{same_draft, submit_record, course_stays, fault_fails}
use Rattle.run_laws.{proofs.Moves.{takes, JobsMove, jobs_event, begun_job, QueueMove, queues_event}, specs.Statuses.fetches_by}
use Rattle.two_sides.proofs.{Commands.{Walking, walk_writes, in_hand_is}, Heads.no_conflict as not_conflicting}
use Rattle.two_sides.proofs.PlacesKept.{entry_cid, running_not_past, InHand, in_hand, first_is}
use Rattle.two_sides.proofs.Provided.{In, in_at, in_found, is_found, all_in, all_drop_one, all_append, sent_found}
use Rattle.two_sides.proofs.{Served.{good_is, Stood, data_of, entry_direction, parts_count, JobList, job_list, course_whole}, Standing.list_at, TiedAll.{Grounds, admins_of}}
use Rattle.two_sides.proofs.Untouched.{owned_once, among_counts, IsSubmittedPage, untouched_kept}
use Rattle.page_memory.proofs.Lists.{all-at, found_is, all-found, some_is, all-slots}

-- What is known of Reads: a prefix of their blocks' bytes is in their data pages, and the draft's own after it.

-- the image at the latest fetch of a command
abbrev pub Images : Type 0
Images = ℕ → ℕ → List ℕ

abbrev pub fetched_in : State → Event → Reply → Images → Images
fetched_in s e reply at q cid = if fetches_by q cid e reply then s.controller.image else at q cid

abbrev pub read_targets : Record → Request → List Target
read_targets r request = targets Destination (parts_of request.pieces r.data_pages)

abbrev pub read_blocks : Images → Record → Request → List ℕ
read_blocks at r request = blocks_at (at r.q r.cid) request.slba request.blocks

-- all places are among the first k targets
abbrev pub Full : List Target → ℕ → Type 0
Full ts k = (i p : ℕ) → slice_get ts i ≡ Some (Place p) → i < k

-- its blocks lie in the image
abbrev pub InImage : State → Request → Type 0
InImage s request = request.slba + request.blocks ≤ a.image_blocks s

-- a Read's job that goes well
pub record Reading (at : Images) (s : State) (r : Record) (request : Request) (k : ℕ) (j : Job) : Type 0 where
  pub bytes : j.bytes ≡ read_blocks at r request
  pub long : length j.bytes ≡ length (read_targets r request)
  pub inside : InImage s request
  pub came : k ≡ reach 0 (take j.units_done (units (course_of s j)))
  pub over : (st : Status) → j.verdict ≡ Some st → length (units (course_of s j)) ≤ j.units_done

abbrev pub ReadingIf : Images → State → Record → Request → ℕ → Job → Type 0
ReadingIf at s r request k j = j.q ≡ r.q → j.entry.cid ≡ r.cid → goes_well j.verdict ≡ true → Reading at s r request k j

abbrev pub UnreadEntry : Record → ℕ → SubEntry → Type 0
UnreadEntry r k e = e.cid ≡ r.cid → k ≡ 0

abbrev pub FullCompletion : State → Record → Request → ℕ → PostedCompletion → Type 0
FullCompletion s r request k an = an.cid ≡ r.cid → is_success an.status ≡ true → Full (read_targets r request) k × InImage s request

pub record ReadSoFar (drafts : List DraftContents) (at : Images) (s : State) (r : Record) (request : Request) : Type 0 where
  pub draft : DraftContents
  pub latest : draft_of r.q r.cid drafts ≡ Some draft
  pub asked : draft.request ≡ request
  pub pages : numbers_of draft.data_pages ≡ r.data_pages
  pub own : Pages
  pub stand : AllByRecursion (Stands own) draft.data_pages
  pub k : ℕ
  pub whole : (p : ℕ) → is_among r.data_pages p ≡ true → (page : List ℕ) × (page_at s.memory p ≡ Some page) × (length page ≡ 4096)
  pub received : Received s.memory own (read_targets r request) (read_blocks at r request) k
  pub long : 0 < k → length (read_blocks at r request) ≡ length (read_targets r request)
  pub unfetched : is_submitted r.phase ≡ true → AllByRecursion (UnreadEntry r k) (list_at (λ at. at.unfetched) s.controller.queues r.q)
  pub jobs : is_submitted r.phase ≡ true → AllByRecursion (ReadingIf at s r request k) s.controller.jobs
  pub completions : is_submitted r.phase ≡ true → AllByRecursion (FullCompletion s r request k) (list_at (λ at. at.completions) s.controller.queues r.q)
  pub full : is_held r.phase ≡ true → (st : Status) → r.status ≡ Some st → is_success st ≡ true → Full (read_targets r request) k × InImage s request

abbrev pub ReadIfIo : List DraftContents → Images → State → Record → Work → Type 0
ReadIfIo drafts at s r (Io request) = request.kind ≡ Read → ReadSoFar drafts at s r request
ReadIfIo drafts at s r (Management adm) = Unit {0}

abbrev pub ReadRecord : List DraftContents → Images → State → Record → Type 0
ReadRecord drafts at s r = (is_submitted r.phase || is_held r.phase) ≡ true → ReadIfIo drafts at s r r.work

-- What is known of each record

pub record Member (s : State) (r : Record) : Type 0 where
  pub only : (q cid : ℕ) (r0 : Record) → record_at s.host q cid ≡ Some r0 → is_at q cid r ≡ true → r ≡ r0
  pub stands : CommandStands s.memory s.controller.queues s.controller.jobs r
  pub fits : OwnsFit Modelled r.q r.work (pages_of r)

pub members : (s : State) → Stood s → AllByRecursion (Member s) s.host.records
members s stood =
    all-slots (Member s) s.host.records
    (λ k x e. record {
      only = λ q cid r0 found is. all-at (λ r. is_at q cid r ≡ true → r ≡ r0) s.host.records k x e (is_found q cid s.host.records r0 found (stood.grounds.stands.0.once q cid)) is;
      stands = all-at (CommandStands s.memory s.controller.queues s.controller.jobs) s.host.records k x e stood.commands;
      fits = all-at (λ r. OwnsFit Modelled r.q r.work (pages_of r)) s.host.records k x e (admins_of s stood.grounds);
    })

pub sized_of : (s : State) (r : Record) (request : Request) → Member s r → r.work ≡ Io request → IsSized r request
sized_of s r request m w = (subst (StandsAs s.memory s.controller.queues s.controller.jobs r) w m.stands).0

pub queue_of : (s : State) (r : Record) (request : Request) → Member s r → r.work ≡ Io request → (r.q == 0) ≡ false
queue_of s r request m w = subst (λ (x : Work). OwnsFit Modelled r.q x (pages_of r)) w m.fits

-- Its pages stay

-- the sum over the records that pass a test, and over those that don't
split : (p : ℕ) (test : Record → Bool) (rs : List Record) → total (λ x. if test x then in_record p x else 0) rs + total (λ x. if test x then 0 else in_record p x) rs ≡ total (in_record p) rs
split p test [] = refl
split p test (x ∷ rs) = grind (arith, split p test rs, in_record)

-- a page of a record that passes a test is of none that doesn't
apart_by : (s : State) → Grounds s → (test : Record → Bool) (r r' : Record) → In r s.host.records → In r' s.host.records → test r ≡ true → test r' ≡ false → (p : ℕ) → is_among (pages_of r) p ≡ true → in_record p r' ≡ 0
apart_by s g test r r' within within' passes fails p own =
    let a : in_record p r ≤ total (λ x. if test x then in_record p x else 0) s.host.records =
    subst (λ (b : Bool). (if b then in_record p r else 0) ≤ total (λ x. if test x then in_record p x else 0) s.host.records) passes (within (λ x. if test x then in_record p x else 0)) in
    let b : in_record p r' ≤ total (λ x. if test x then 0 else in_record p x) s.host.records =
    subst (λ (b : Bool). (if b then 0 else in_record p r') ≤ total (λ x. if test x then 0 else in_record p x) s.host.records) fails (within' (λ x. if test x then 0 else in_record p x)) in
    omega (arith, a, b, split p test s.host.records, owned_once _ p s.host g.stands.0, held_once p (pages_of r) own)

kept_record : (s : State) → Grounds s → (r : Record) → In r s.host.records → (is_submitted r.phase || is_held r.phase) ≡ true → (p : ℕ) → is_among (pages_of r) p ≡ true → IsSubmittedPage s p
kept_record s g r within stays p own = record {
  free = omega (arith, owned_once _ p s.host g.stands.0, within (in_record p), held_once p (pages_of r) own);
  queues = λ q queue e. omega (arith, owned_once _ p s.host g.stands.0, within (in_record p), held_once p (pages_of r) own, in_at s.host.queues q queue e (in_queue p));
  others = λ r' within' away. apart_by s g (λ x. is_submitted x.phase || is_held x.phase) r r' within within' stays (grind arith) p own;
}

-- a record of another identifier has none of its pages
other_record : (s : State) → Grounds s → (q cid : ℕ) (r r0 : Record) → In r s.host.records → In r0 s.host.records → is_at q cid r ≡ false → is_at q cid r0 ≡ true → (p : ℕ) → is_among (pages_of r) p ≡ true → is_among (pages_of r0) p ≡ false
other_record s g q cid r r0 within within0 far is p own =
    among_counts p (pages_of r0) (apart_by s g (λ x. not (is_at q cid x)) r r0 within within0 (rw far refl) (rw is refl) p own)

no_data : (r : Record) (p : ℕ) → is_among (pages_of r) p ≡ false → is_among r.data_pages p ≡ false
no_data r p h = elim (cases_Bool (is_among r.data_pages p)) [ inl e ↦ absurd (true≢false (sym (data_of r p e) ∙ h)) | inr e ↦ e ]

found_at : (s : State) (q cid : ℕ) (r : Record) → record_at s.host q cid ≡ Some r → is_at q cid r ≡ true
found_at s q cid r e = found_is (is_at q cid) s.host.records r e

-- the command of a walk is at its identifier
pub walking_at : (s : State) (q cid : ℕ) (j : Job) (w : Walking s q cid j) → record_at s.host q cid ≡ Some w.list.command
walking_at s q cid j w = subst (λ (k : ℕ). record_at s.host k cid ≡ Some w.list.command) w.its_queue (subst (λ (c : ℕ). record_at s.host j.q c ≡ Some w.list.command) w.its_id w.list.found)

-- whether an event is a walk of this record
abbrev pub walks_it : Event → Record → Bool
walks_it (events.Walk q cid) r = is_at q cid r
walks_it e r = false

pub pages_stay : (s : State) (e : Event) (reply : Reply) → Accepts s e reply → Stood s → (r : Record) → In r s.host.records → (is_submitted r.phase || is_held r.phase) ≡ true → takes e r ≡ false → walks_it e r ≡ false
    → (p : ℕ) → is_among r.data_pages p ≡ true → page_at (a.after s e reply).memory p ≡ page_at s.memory p
pages_stay s e (events.Refused why touched) ok stood r within stays far still p own = refl
pages_stay s (events.Walk q cid) reply ok stood r within stays far still p own = grind (arith, walk_writes, no_data, other_record, found_at, walking_at, data_of)
pages_stay s e reply ok stood r within stays far still p own =
    untouched_kept s e reply ok refl stood.grounds p (kept_record s stood.grounds r within stays p (data_of r p own))
    (λ q cid r0 is at. other_record s stood.grounds q cid r r0 within (in_found (is_at q cid) s.host.records r0 at) (subst (λ (x : Event). takes x r ≡ false) is far) (found_at s q cid r0 at) p (data_of r p own))

-- so the bytes at its targets do
pub places_stay : (m m' : Pages) (r : Record) (request : Request) → IsSized r request → ((p : ℕ) → is_among r.data_pages p ≡ true → page_at m' p ≡ page_at m p)
    → (i p : ℕ) → slice_get (read_targets r request) i ≡ Some (Place p) → byte_at m' p ≡ byte_at m p
places_stay m m' r request sized same i p target =
    ap (option_and_then (λ bytes. slice_get bytes (p % 4096))) (same (page_of p) (target_in request.pieces r.data_pages i p (good_is request sized.good).crosses target))

-- Each event keeps what is known of a Read.

-- The identifier of a record that stays

-- a drafted command is neither submitted nor held
drafted_rests : (ph : Phase) → is_drafted ph ≡ true → (is_submitted ph || is_held ph) ≡ false
drafted_rests ph h = grind arith

-- no draft of it is submitted
pub no_draft : (s : State) (e : Event) (reply : Reply) → Accepts s e reply → (r : Record) → Member s r → (is_submitted r.phase || is_held r.phase) ≡ true → (d : DraftContents) → e ≡ events.Submit d → ((d.q == r.q) && (d.cid == r.cid)) ≡ false
no_draft s e reply ok r m stays d is = elim (cases_Bool ((d.q == r.q) && (d.cid == r.cid))) [
  | inl same ↦
      let ids = and_parts (d.q == r.q) (d.cid == r.cid) same in
      let x = submit_record s d (subst (λ (y : Event). refusal_of s y ≡ None) is ok.0) in
      let one : r ≡ x.0 = m.only d.q d.cid x.0 x.1 (and_from (r.q == d.q) (r.cid == d.cid) (eq-eqb r.q d.q (sym (eqb-true d.q r.q ids.0))) (eq-eqb r.cid d.cid (sym (eqb-true d.cid r.cid ids.1)))) in
      absurd (true≢false (sym stays ∙ ap (λ (y : Record). is_submitted y.phase || is_held y.phase) one ∙ drafted_rests x.0.phase (pages_match is_drafted d.request d.data_pages d.chain_pages x.0 x.2).1))
  | inr other ↦ other
]

-- where an entry of it is in hand, it is submitted
pub in_hand_sent : (s : State) → Stood s → (r : Record) → Member s r → (q : ℕ) (e : SubEntry) → InHand s q e → q ≡ r.q → e.cid ≡ r.cid → is_submitted r.phase ≡ true
in_hand_sent s stood r m q e hand sq sc =
    let w : ℕ → ℕ = λ c. one (c == e.cid) in
    let un : unfetched_count q w s.host.queues s.controller.queues ≡ total (λ (x : SubEntry). w x.cid) (unfetched_at s.controller.queues q) =
    ap (λ (b : Bool). if b then 0 else total (λ (x : SubEntry). w x.cid) (unfetched_at s.controller.queues q)) (running_not_past s stood.grounds q e hand) in
    let mine : 1 ≤ total (λ (x : SubEntry). w x.cid) (unfetched_at s.controller.queues q) =
    subst (λ (xs : List SubEntry). 1 ≤ total (λ (x : SubEntry). w x.cid) xs) (sym (ap (λ (o : Option ServedQueue). option_map_or (λ at. at.unfetched) o []) hand.at ∙ first_is hand.queue.unfetched e hand.first))
    (omega (arith, ap one (eq-eqb e.cid e.cid refl))) in
    let x = sent_found q e.cid s.host.records (omega (arith, un, mine, stood.places q w)) (stood.grounds.stands.0.once q e.cid) in
    let same : r ≡ x.0 = m.only q e.cid x.0 x.1 (and_from (r.q == q) (r.cid == e.cid) (eq-eqb r.q q (sym sq)) (eq-eqb r.cid e.cid (sym sc))) in
    ap (λ (y : Record). is_submitted y.phase) same ∙ x.2

-- and nothing of it was read yet
in_hand_unread : (s : State) (r : Record) (k q : ℕ) (e : SubEntry) → InHand s q e → q ≡ r.q → e.cid ≡ r.cid → AllByRecursion (UnreadEntry r k) (list_at (λ at. at.unfetched) s.controller.queues r.q) → k ≡ 0
in_hand_unread s r k q e hand sq sc all = grind (arith, list_at, first_is)

-- a fetch of its identifier is of its entry
pub fetch_hand : (s : State) (e : Event) (reply : Reply) → Accepts s e reply → (q cid : ℕ) → fetches_by q cid e reply ≡ true → (entry : SubEntry) × InHand s q entry × (entry.cid ≡ cid) × (e ≡ events.Fetch q)
fetch_hand s (events.Fetch q') (events.Fetched c touched) ok q cid is = grind (arith, some_is, eqb-true, in_hand)
fetch_hand s e reply ok q cid is = absurd (true≢false (sym is))

-- The image at its fetch

same_image : (s : State) (e : Event) (reply : Reply) (at : Images) (q cid : ℕ) → fetches_by q cid e reply ≡ false → fetched_in s e reply at q cid ≡ at q cid
same_image s e reply at q cid far = ap (λ (b : Bool). if b then s.controller.image else at q cid) far

own_image : (s : State) (e : Event) (reply : Reply) (at : Images) (q cid : ℕ) → fetches_by q cid e reply ≡ true → fetched_in s e reply at q cid ≡ s.controller.image
own_image s e reply at q cid is = ap (λ (b : Bool). if b then s.controller.image else at q cid) is

-- Jobs of a Read

-- the job of a record's identifier is the record's
pub job_request : (s : State) (r : Record) (request : Request) → Member s r → r.work ≡ Io request → (j : Job) (l : JobList s j) → j.q ≡ r.q → j.entry.cid ≡ r.cid → (r ≡ l.command) × (l.request ≡ request)
job_request s r request m w j l sq sc =
    let same : r ≡ l.command = m.only j.q j.entry.cid l.command l.found (and_from (r.q == j.q) (r.cid == j.entry.cid) (eq-eqb r.q j.q (sym sq)) (eq-eqb r.cid j.entry.cid (sym sc))) in
    (same, (cc (sym l.work ∙ ap (λ (x : Record). x.work) (sym same) ∙ w)))

-- the entry of a Read
entry_reads : (cid : ℕ) (request : Request) (sgl1 : List ℕ) → request.kind ≡ Read → kind_of_opcode (io_entry cid request sgl1).opcode ≡ Some Read
entry_reads cid request sgl1 kind = entry_kind cid request sgl1 (ap moves_data kind) ∙ ap (λ (k : Kind). Some k) kind

pub blocks_length : (image : List ℕ) (slba n : ℕ) → slba + n ≤ length image / 512 → length (blocks_at image slba n) ≡ 512 * n
blocks_length image slba n h = grind (arith, common_steps)

-- how many targets a Read has
pub targets_length : (s : State) (r : Record) (request : Request) → Member s r → r.work ≡ Io request → request.kind ≡ Read → length (read_targets r request) ≡ 512 * request.blocks
targets_length s r request m w kind =
    let sized = sized_of s r request m w in
    length-targets Destination (parts_of request.pieces r.data_pages)
    ∙ ap (λ (d : Direction). counted_in d (parts_of request.pieces r.data_pages)) (sym (ap direction_of kind))
    ∙ parts_count request r.data_pages sized.good sized.blocks sized.pages ∙ ap (λ (k : Kind). need_of k request.block_size request.blocks) kind
    ∙ ap (λ (size : BlockSize). block_bytes size * request.blocks) sized.size

-- a job that begins
begun_reading : (s : State) (t : State) (at : Images) (r : Record) (request : Request) → Member s r → r.work ≡ Io request → request.kind ≡ Read → (q : ℕ) (e : SubEntry) (sgl1 : List ℕ) → e ≡ io_entry r.cid request sgl1
    → at r.q r.cid ≡ s.controller.image → (k : ℕ) → k ≡ 0 → length t.controller.image ≡ length s.controller.image → goes_well (io_fault (a.image_blocks s) e) ≡ true → Reading at t r request k (begun_job s q e)
begun_reading s t at r request m w kind q e sgl1 is image k none same well = by_fault (io_fault (a.image_blocks s) e) refl well
  where
    reads : kind_of_opcode e.opcode ≡ Some Read
    reads = ap (λ (x : SubEntry). kind_of_opcode x.opcode) is ∙ entry_reads r.cid request sgl1 kind

    first : first_block e ≡ request.slba
    first = ap first_block is ∙ entry_block r.cid request sgl1 (ap moves_data kind)

    count : block_number e ≡ request.blocks
    count = ap block_number is ∙ entry_blocks r.cid request sgl1 (sized_of s r request m w).good (ap moves_data kind)

    at_most : (b n : ℕ) → nat_lt b n ≡ false → n ≤ b
    at_most b n h = grind (arith, nat_tests, h)

    bytes : jobs.first_bytes s.controller.image e (kind_of_opcode e.opcode) ≡ read_blocks at r request
    bytes =
        ap (jobs.first_bytes s.controller.image e) reads
        ∙ ap (λ (n : ℕ). blocks_at s.controller.image n (block_number e)) first ∙ ap (λ (n : ℕ). blocks_at s.controller.image request.slba n) count
        ∙ ap (λ (x : List ℕ). blocks_at x request.slba request.blocks) (sym image)

    by_fault : (o : Option Status) → io_fault (a.image_blocks s) e ≡ o → goes_well o ≡ true → Reading at t r request k (a.new_job q e o 0 (bytes_after_check s.controller.image e o))
    by_fault (Some st) f well = absurd (true≢false (sym well ∙ fault_fails (a.image_blocks s) e st f))
    by_fault None f well = record {
      bytes = bytes;
      long = ap length (ap (jobs.first_bytes s.controller.image e) reads)
          ∙ blocks_length s.controller.image (first_block e) (block_number e) (at_most (a.image_blocks s) (first_block e + block_number e) (grind (arith, f)))
          ∙ ap (λ (n : ℕ). 512 * n) count ∙ sym (targets_length s r request m w kind);
      inside = omega (arith, at_most (a.image_blocks s) (first_block e + block_number e) (grind (arith, f)), first, count, same);
      came = none;
      over = λ st v. absurd (none_some v);
    }

-- a job that has done all its units has filled all places
pub all_came : (s : State) → Stood s → (at : Images) (r : Record) (request : Request) → Member s r → r.work ≡ Io request → request.kind ≡ Read → (k : ℕ) (j : Job) (l : JobList s j) → j.q ≡ r.q → j.entry.cid ≡ r.cid
    → (st : Status) → j.verdict ≡ Some st → Reading at s r request k j → Full (read_targets r request) k
all_came s stood at r request m w kind k j l sq sc st v reading i p target =
    let ids = job_request s r request m w j l sq sc in
    let whole = course_whole s stood j l (ap (λ (x : Request). moves_data x.kind) ids.1 ∙ ap moves_data kind) in
    let dir : direction_of_entry j.entry ≡ Destination =
    ap direction_of_entry l.entry ∙ entry_direction l.command.cid l.request (spelling l.list.first) l.sized.blocks ∙ ap (λ (x : Request). direction_of x.kind) ids.1 ∙ ap direction_of kind in
    let parts : parts_of request.pieces r.data_pages ≡ parts_of l.request.pieces l.command.data_pages =
    ap (λ (x : Request). parts_of x.pieces r.data_pages) (sym ids.1) ∙ ap (λ (x : Record). parts_of l.request.pieces x.data_pages) ids.0 in
    let moved : MovesByte i (course_of s j) =
    list_moves_all (memory_of s.memory) j.entry.sgl1 (direction_of_entry j.entry) (need_of_entry j.entry) whole.ends i p
    (ap (λ (ts : List Target). slice_get ts i) (whole.takes ∙ ap (targets (direction_of_entry j.entry)) (sym parts)) ∙ ap (λ (d : Direction). slice_get (targets d (parts_of request.pieces r.data_pages)) i) dir ∙ target) in
    subst (λ (n : ℕ). i < n) (sym reading.came)
    (all_reached 0 i (course_of s j) j.units_done (list_ordered (memory_of s.memory) j.entry.sgl1 (direction_of_entry j.entry) (need_of_entry j.entry)) moved (reading.over st v))

-- an event that leaves a Read as far as it is
pub record Quiet (s : State) (e : Event) (reply : Reply) (r : Record) (request : Request) : Type 0 where
  pub ok : Accepts s e reply
  pub proper : IsProper e
  pub stood : Stood s
  pub within : In r s.host.records
  pub member : Member s r
  pub stays : (is_submitted r.phase || is_held r.phase) ≡ true
  pub still : walks_it e r ≡ false
  pub work : r.work ≡ Io request
  pub kind : request.kind ≡ Read
  pub image : length (a.after s e reply).controller.image ≡ length s.controller.image

-- where the record's identifier is fetched, k is 0, and its entry is in hand
own_fetch : (s : State) (e : Event) (reply : Reply) (r : Record) (request : Request) (x : Quiet s e reply r request) (drafts : List DraftContents) (at : Images) (h : ReadSoFar drafts at s r request) → fetches_by r.q r.cid e reply ≡ true → h.k ≡ 0
own_fetch s e reply r request x drafts at h is =
    let f = fetch_hand s e reply x.ok r.q r.cid is in
    in_hand_unread s r h.k r.q f.0 f.1 refl f.2 (h.unfetched (in_hand_sent s x.stood r x.member r.q f.0 f.1 refl f.2))

-- where a job of the identifier is there, it isn't fetched
no_fetch : (s : State) (e : Event) (reply : Reply) (r : Record) (request : Request) (x : Quiet s e reply r request) (k : ℕ) (j : Job) → slice_get s.controller.jobs k ≡ Some j → j.q ≡ r.q → j.entry.cid ≡ r.cid → fetches_by r.q r.cid e reply ≡ false
no_fetch s e reply r request x k j at sq sc = elim (cases_Bool (fetches_by r.q r.cid e reply)) [
  | inl is ↦
      let f = fetch_hand s e reply x.ok r.q r.cid is in
      let far : is_job r.q f.0.cid j ≡ false = all-at (λ y. is_job r.q f.0.cid y ≡ false) s.controller.jobs k j at (none_found r.q f.0.cid s.controller.jobs (not_conflicting s x.stood r.q f.0 f.1)) in
      absurd (true≢false (sym (and_from (j.q == r.q) (j.entry.cid == f.0.cid) (eq-eqb j.q r.q sq) (eq-eqb j.entry.cid f.0.cid (sc ∙ sym f.2))) ∙ far))
  | inr is ↦ is
]

-- the entry in hand of a record's identifier is the record's
own_entry : (s : State) (r : Record) (request : Request) → Member s r → r.work ≡ Io request → is_submitted r.phase ≡ true → (q : ℕ) (e : SubEntry) → InHand s q e → q ≡ r.q → e.cid ≡ r.cid → (sgl1 : List ℕ) × (e ≡ io_entry r.cid request sgl1)
own_entry s r request m w sub q e hand sq sc =
    let list = (subst (StandsAs s.memory s.controller.queues s.controller.jobs r) w m.stands).1 sub in
    (spelling list.first, in_hand_is s q e hand r.cid (io_entry r.cid request (spelling list.first)) (subst (λ (n : ℕ). HasEntry s.controller.queues s.controller.jobs n r.cid (io_entry r.cid request (spelling list.first))) (sym sq) list.entry) sc)

quiet_jobs : (s : State) (e : Event) (reply : Reply) (r : Record) (request : Request) (x : Quiet s e reply r request) (drafts : List DraftContents) (at : Images) (h : ReadSoFar drafts at s r request) → is_submitted r.phase ≡ true
    → JobsMove (ReadingIf at s r request h.k) (ReadingIf (fetched_in s e reply at) (a.after s e reply) r request h.k) s e
quiet_jobs s e reply r request x drafts at h sub = record {
  stays = λ n j found far known sq sc well.
      let c = known sq sc well in
      let l = job_list s x.stood j (in_at s.controller.jobs n j found) (ap (λ (k : ℕ). k == 0) sq ∙ queue_of s r request x.member x.work) (λ P all. all-at P s.controller.jobs n j found all) in
      let course = course_stays s e reply x.ok x.stood j l in
      let image = same_image s e reply at r.q r.cid (no_fetch s e reply r request x n j found sq sc) in
      record {
        bytes = c.bytes ∙ ap (λ (xs : List ℕ). blocks_at xs request.slba request.blocks) (sym image);
        long = c.long;
        inside = omega (arith, c.inside, x.image);
        came = c.came ∙ ap (λ (y : Course). reach 0 (take j.units_done (units y))) (sym course);
        over = λ st v. subst (λ (y : Course). length (units y) ≤ j.units_done) (sym course) (c.over st v);
      };
  fails = λ n j st waiting found far lost none known sq sc well. absurd (true≢false (sym well ∙ lost));
  manages = λ entry st dw0 is next free sq. absurd (true≢false (sym (eq-eqb r.q 0 (sym sq)) ∙ queue_of s r request x.member x.work));
  begins = λ q entry is next not0 free sq sc well.
      let hand = in_hand s q entry next in
      let its = own_entry s r request x.member x.work sub q entry hand sq sc in
      begun_reading s (a.after s e reply) (fetched_in s e reply at) r request x.member x.work x.kind q entry its.0 its.1
      (own_image s e reply at r.q r.cid (fetches s e reply x.ok q entry is next sq sc)) h.k (in_hand_unread s r h.k q entry hand sq sc (h.unfetched sub)) x.image well;
  walks = λ q cid j act is w u known sq sc well.
      absurd (true≢false (sym (and_from (r.q == q) (r.cid == cid) (eq-eqb r.q q (sym sq ∙ w.its_queue)) (eq-eqb r.cid cid (sym sc ∙ w.its_id))) ∙ subst (λ (y : Event). walks_it y r ≡ false) is x.still));
}
  where
    fetches : (s : State) (e : Event) (reply : Reply) → Accepts s e reply → (q : ℕ) (entry : SubEntry) → e ≡ events.Fetch q → next_rung s q ≡ Some entry → q ≡ r.q → entry.cid ≡ r.cid → fetches_by r.q r.cid e reply ≡ true
    fetches s (events.Fetch q') (events.Fetched c touched) ok q entry is next sq sc = grind (arith, and_from, eq-eqb, some_is)
    fetches s (events.Fetch q') reply ok q entry is next sq sc = absurd ok.1
    fetches s e reply ok q entry is next sq sc = grind arith

quiet_entries : (s : State) (e : Event) (reply : Reply) (r : Record) (request : Request) (x : Quiet s e reply r request) (k : ℕ)
    → QueueMove (λ at. at.unfetched) (UnreadEntry r k) r.q s e
quiet_entries s e reply r request x k = record {
  posts = λ d entry at is built z all. all_append (UnreadEntry r k) at.unfetched (entry ∷ []) all ((λ same. absurd (clash d entry is built z same)), tt);
  sends = λ entry at z all. absurd (true≢false (sym (eq-eqb r.q 0 (sym z)) ∙ queue_of s r request x.member x.work));
  rings = λ rung at all. all;
  reaps = λ at all. all;
  fetches = λ rung at all. all_drop_one (UnreadEntry r k) at.unfetched all;
  stops = λ at all. all;
  drops = λ at all. all;
  makes_completion = λ at all. all;
  makes_submission = λ at all. tt;
  clears = λ at all. tt;
  empties = (tt, tt);
  completes = λ cid j head at is found all. all;
}
  where
    clash : (d : DraftContents) (entry : SubEntry) → e ≡ events.Submit d → d.entry ≡ Some entry → d.q ≡ r.q → entry.cid ≡ r.cid → ⊥
    clash d entry is built z same =
        let proper : IsProper (events.Submit d) = subst IsProper is x.proper in
        let cid : entry.cid ≡ d.cid = ap (λ (y : SubEntry). y.cid) (carries_entry d entry proper.draft built) ∙ entry_cid d in
        true≢false (sym (and_from (d.q == r.q) (d.cid == r.cid) (eq-eqb d.q r.q z) (eq-eqb d.cid r.cid (sym cid ∙ same))) ∙ no_draft s e reply x.ok r x.member x.stays d is)

quiet_answers : (s : State) (e : Event) (reply : Reply) (r : Record) (request : Request) (x : Quiet s e reply r request) (drafts : List DraftContents) (at : Images) (h : ReadSoFar drafts at s r request) → is_submitted r.phase ≡ true
    → QueueMove (λ at. at.completions) (FullCompletion (a.after s e reply) r request h.k) r.q s e
quiet_answers s e reply r request x drafts at h sub = record {
  posts = λ d entry at is built z all. all;
  sends = λ entry at z all. all;
  rings = λ rung at all. all;
  reaps = λ at all. all_drop_one (FullCompletion (a.after s e reply) r request h.k) at.completions all;
  fetches = λ rung at all. all;
  stops = λ at all. all;
  drops = λ at all. tt;
  makes_completion = λ at all. tt;
  makes_submission = λ at all. tt;
  clears = λ at all. all;
  empties = (tt, tt);
  completes = λ cid j head at' is found all.
      all_append (FullCompletion (a.after s e reply) r request h.k) at'.completions (record { cid = cid; status = a.final_status s j; dw0 = j.dw0; sq_head = head } ∷ []) all
      ((λ same ok. completed cid j is found same ok j.verdict refl), tt);
}
  where
    completed : (cid : ℕ) (j : Job) → e ≡ events.Complete r.q cid → job_at s r.q cid ≡ Some j → cid ≡ r.cid → is_success (a.final_status s j) ≡ true → (o : Option Status) → j.verdict ≡ o → Full (read_targets r request) h.k × InImage (a.after s e reply) request
    completed cid j is found same ok None v =
        absurd (true≢false (sym (has_verdict s r.q cid j (subst (λ (y : Event). refusal_of s y ≡ None) is x.ok.0) found) ∙ ap is_some v))
    completed cid j is found same ok (Some v) verdict = elim (cases_Bool (is_success v)) [
      | inl well ↦
          let reading = all-found (ReadingIf at s r request h.k) (is_job r.q cid) s.controller.jobs j found (h.jobs sub) sq sc (ap goes_well verdict ∙ well) in (
            all_came s x.stood at r request x.member x.work x.kind h.k j
                (job_list s x.stood j (in_found (is_job r.q cid) s.controller.jobs j found) other (λ P all. all-found P (is_job r.q cid) s.controller.jobs j found all)) sq sc v verdict reading,
            omega (arith, reading.inside, x.image),
          )
      | inr failed ↦
          absurd (true≢false (sym ok ∙ ap is_success (final ∙ ap (λ (b : Bool). if b then jobs.status_by s.controller.image j.entry j.bytes (kind_of_opcode j.entry.opcode) else v) failed) ∙ failed))
    ]
      where
        ids : ((j.q == r.q) ≡ true) × ((j.entry.cid == cid) ≡ true)
        ids = and_parts (j.q == r.q) (j.entry.cid == cid) (found_is (is_job r.q cid) s.controller.jobs j found)

        sq : j.q ≡ r.q
        sq = eqb-true j.q r.q ids.0

        sc : j.entry.cid ≡ r.cid
        sc = eqb-true j.entry.cid cid ids.1 ∙ same

        other : (j.q == 0) ≡ false
        other = ap (λ (k : ℕ). k == 0) sq ∙ queue_of s r request x.member x.work

        final : final_status s j ≡ (if is_success v then jobs.status_by s.controller.image j.entry j.bytes (kind_of_opcode j.entry.opcode) else v)
        final = ap (λ (b : Bool). if b then unwrap_or j.verdict SUCCESS else jobs.status_after s.controller.image j.entry j.bytes j.verdict) other ∙ ap (jobs.status_after s.controller.image j.entry j.bytes) verdict

-- so it is known after the event, as far
pub quiet_on : (s : State) (e : Event) (reply : Reply) (r : Record) (request : Request) (x : Quiet s e reply r request) → takes e r ≡ false → (drafts : List DraftContents) (at : Images) (h : ReadSoFar drafts at s r request)
    → (y : ReadSoFar (submitted_by e reply ++ drafts) (fetched_in s e reply at) (a.after s e reply) r request) × (h.k ≤ y.k)
quiet_on s e reply r request x far drafts at h = (
  record {
    draft = h.draft;
    latest = same_draft s e reply drafts r.q r.cid (no_draft s e reply x.ok r x.member x.stays) ∙ h.latest;
    asked = h.asked;
    pages = h.pages;
    own = h.own;
    stand = h.stand;
    k = h.k;
    whole = λ p own. let page = h.whole p own in (page.0, pages_stay s e reply x.ok x.stood r x.within x.stays far x.still p own ∙ page.1, page.2);
    received = received (fetches_by r.q r.cid e reply) refl;
    long = λ some. long some (fetches_by r.q r.cid e reply) refl;
    unfetched = λ sub. queues_event (λ at. at.unfetched) (UnreadEntry r h.k) r.q s e reply (quiet_entries s e reply r request x h.k) x.ok x.stood (h.unfetched sub);
    jobs = λ sub. jobs_event (ReadingIf at s r request h.k) (ReadingIf (fetched_in s e reply at) (a.after s e reply) r request h.k) s e reply (quiet_jobs s e reply r request x drafts at h sub) x.ok x.stood (h.jobs sub);
    completions = λ sub. queues_event (λ at. at.completions) (FullCompletion (a.after s e reply) r request h.k) r.q s e reply (quiet_answers s e reply r request x drafts at h sub) x.ok x.stood
        (all_in (FullCompletion s r request h.k) (FullCompletion (a.after s e reply) r request h.k) (list_at (λ at. at.completions) s.controller.queues r.q) (λ an within full same ok. let f = full same ok in (f.0, omega (arith, f.1, x.image))) (h.completions sub));
    full = λ held st status ok. let f = h.full held st status ok in (f.0, omega (arith, f.1, x.image));
  },
  omega arith,
)
  where
    kept : Received (a.after s e reply).memory h.own (read_targets r request) (read_blocks at r request) h.k
    kept = received_still s.memory (a.after s e reply).memory h.own (read_targets r request) (read_blocks at r request) h.k
        (places_stay s.memory (a.after s e reply).memory r request (sized_of s r request x.member x.work) (pages_stay s e reply x.ok x.stood r x.within x.stays far x.still)) h.received

    received : (b : Bool) → fetches_by r.q r.cid e reply ≡ b → Received (a.after s e reply).memory h.own (read_targets r request) (read_blocks (fetched_in s e reply at) r request) h.k
    received false is = subst (λ (image : List ℕ). Received (a.after s e reply).memory h.own (read_targets r request) (blocks_at image request.slba request.blocks) h.k) (sym (same_image s e reply at r.q r.cid is)) kept
    received true is = record {
      first = λ i p target lt. absurd (omega (arith, lt, own_fetch s e reply r request x drafts at h is));
      rest = kept.rest;
    }

    long : 0 < h.k → (b : Bool) → fetches_by r.q r.cid e reply ≡ b → length (read_blocks (fetched_in s e reply at) r request) ≡ length (read_targets r request)
    long some false is = subst (λ (image : List ℕ). length (blocks_at image request.slba request.blocks) ≡ length (read_targets r request)) (sym (same_image s e reply at r.q r.cid is)) (h.long some)
    long some true is = absurd (omega (arith, some, own_fetch s e reply r request x drafts at h is))
