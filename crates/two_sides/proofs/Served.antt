-- What is served was submitted.
use Rattle.machine_model.specs.Events as events
use Rattle.machine_model.specs.declared.words.Refusal.TheVariants as refusal
use Rattle.std.proofs.Common.{◌≡◌, ℕ, ◌+◌, ◌*◌, ◌%◌, ◌<◌, ◌≤◌, ◌==◌, nat_lt, true, false, not, ◌||◌, Option, Some, None, List, [], ◌∷◌, length, is_some, slice_index, All, refl, ap₂, sym, ◌∙◌, arith, subst, eq-eqb, ◌-◌, ◌^◌, ◌⊎◌, inl, inr, Bool, if◌then◌else◌, zero, suc, ◌++◌, slice_get, find, ap, eqb-true, ltb-true, nat_le, ◌&&◌, slice_set, length-set, IfSome, MatchBool, ◌≢◌, replicate, min, nat_eq}
use Rattle.std.proofs.lemmas.{Bool.{or_left, or_right, or_parts, cases_lt, true≢false, and_parts, cases_Bool, not-false, Decides.nat_tests}, Grind.common_steps}
use Rattle.std.proofs.lemmas.{List.{Elements.{All-head, All-tail, All-nil, All-cons}, Sums.sum_by-cons}, Option.{slice_get-get_or, slice_get_within}}
use Rattle.std.specs.{Bool.beq, List.{AllByRecursion, list_any}, Option.option_map_or, Prelude.{option_map, option_and_then}}
use Rattle.page_ledger.specs.Owners.{is_among}
use Rattle.page_memory.{proofs.Bytes.{byte_in, length-zero_page}, specs.{Memory.{page_of, Memory}, Pages.{Pages, page_at, byte_at, zero_page, AreWhole}}}
use Rattle.sgl_descriptor.{proofs.Spells.reads_itself, specs.{Spelling.{Fits, spelling, descriptor_of}, Targets.{counted_in, descriptor_of_part, targets}}}
use Rattle.sgl_descriptor.specs.declared.{Descriptor.{Descriptor, TheVariants.{DataBlock, Segment, LastSegment}}, Direction.Direction, Part.{Part, TheVariants.Data as PartData}}
use Rattle.io_commands.{proofs.{Building.{counted, entry_blocks, joined_parts_few, built_drafts_spell, few_pieces, no_pieces}, Pointers.{moves_list, pointer_lists, pointer_still}}, specs.Asked.Request}
use Rattle.io_commands.specs.Drafts.{io_entry, DraftContents, HoldsPages, draft_first, draft_parts, IsDraft, IsBuiltIfAny}
use Rattle.io_commands.specs.Jobs.{direction_by, direction_of_entry, kind_of_opcode, need_of_entry}
use Rattle.io_commands.specs.Requests.{parts_of, data_count, has_its_bytes, has_list, is_admin, is_empty_piece, is_hosts_own, crosses_page, counted_length, counted_lengths, is_count, moves_data, need_of_ranges, same_flags, same_kind}
use Rattle.io_commands.specs.Requests.{need_of, direction_of, opcode_of, FitsPiece, joined_parts, FitsRequest, fault_of}
use Rattle.io_commands.specs.{Values.{IsGood, numbers_of, FinishedContents}, Admin.{same_command, same_use}, declared.admin.{AdminCommand.AdminCommand, PageUse.PageUse}}
use Rattle.io_commands.specs.declared.request.{Flags.Flags, Kind.{Kind, TheVariants.{Read, Write, Compare, WriteZeroes, Verify, Flush, Deallocate, Admin}}, Piece.Piece}
use Rattle.io_commands.specs.declared.request.{Piece.TheVariants.{Data, Bucket}, RequestFault.RequestFault}
use Rattle.io_commands.specs.declared.request.RequestFault.TheVariants.{TooManyPieces, EmptyPiece, CrossesPage, BadCount, LengthMismatch, HostsOwn}
use Rattle.io_commands.specs.{BlockSizes.{block_bytes}, declared.block_size.BlockSize.{BlockSize, TheVariants.{Bytes512, Bytes1024, Bytes2048, Bytes4096}}}
use Rattle.machine_model.proofs.Counting.{times-append, held_once, times-cons}
use Rattle.machine_model.proofs.Owned.{in_record, is_out, taken, none_here, in_is, holds_from_sound, taken_le, taken_from_out}
use Rattle.machine_model.{proofs.Steps.{first_fails, rest_fails, in_store, length-in_store, found, unrefused}, specs.After.course_of}
use Rattle.machine_model.specs.{Claims.{OwnsFit, IsSound}, Memory.{memory_of, with_pages, is_in}, Proper.{IsPage, ArePages, IsProperDraft}}
use Rattle.machine_model.specs.Reached.{on_pages, LiesIn, IsThere, only, CourseIn, AreApart, IsListIn}
use Rattle.machine_model.specs.Refusals.{is_submitted, same_piece, same_pieces, same_request, refusal_of, record_is, is_held, takes}
use Rattle.machine_model.specs.{Standing.{IsSized, ListStands, StandsAs, CommandStands, HasUnitLeft}, State.{State, Record, Job, is_at, record_at, pages_of}}
use Rattle.machine_model.specs.{Step.{times, IsReserved, AnswersAnything, asked_by, finished_from, pages_with_bytes, zeroed}, Weights.{one, total}, Work.Work}
use Rattle.machine_model.specs.declared.words.{Peer.TheVariants.{Modelled}, Phase.TheVariants.{Drafted, Submitted, Held, Collected}, Work.TheVariants.{Io, Management}}
use Rattle.sgl_chain.proofs.{Back.spells_there, Joins.{joined_from, from_list, same_targets, same_count}, Spelled.spells}
use Rattle.sgl_chain.specs.{Chains.{first_of, pages_needed}, Joining.{joins, both, joined}, Laws.HasBytesOf, Spells.{Spells, Holds}}
use Rattle.controller_walk.{proofs.Same.list_served, specs.{Along.parts_of_list, Serving.Serves, Units.{Stays, Reads, Moves, Course, Closes, Does, verdict, after_read, course_of_list, entry_cursor, moving, pages_spanned, rest_of}}}
use Rattle.controller_walk.specs.declared.walk.WalkState.{WalkState, TheVariants.{More, End, Fault}}
use Rattle.entry_codec.specs.declared.{status.{Status.Status, TheConstants.Status.{DATA_TRANSFER_ERROR, DATA_SGL_LENGTH_INVALID}}, submission.SubEntry.SubEntry}
use Rattle.two_sides.proofs.{Ending.{list_in, lists_end, long_lists_end, shorter_lists_end, bytes_there}, Provided.{In, in_found, sent_found}, TiedAll.{Grounds, admins_of}}
use Rattle.two_sides.proofs.Untouched.{sent_page, owned_once, among_counts, holds_right, holds_left, holds_right as among_right}
use Rattle.two_sides.specs.InOrder.{IsInOrder, reserved_drafts_are_proper, collected_commands_are_proper}
use Rattle.queue_pair.proofs.Rings.{bytes_agree}
use Rattle.page_memory.proofs.Lists.{found_is, all-found, some_is}
use Rattle.host_core.proofs.PageOwners.{with-other}
pub use Rattle.machine_model.specs.Agreeing.{is_out_of_service_at as past_at, completions_at, unfetched_count, job_weight, CommandsStandOnce as Places, CommandsStand as Commands}

-- What the entry and the parts of a good request are.

-- what a request that passes its check is
pub record Good (r : Request) : Type 0 where
  pub crosses : list_any crosses_page r.pieces ≡ false
  pub counted : is_admin r.kind ≡ false → counted_lengths r.kind r.pieces ≡ need_of r.kind r.block_size r.blocks

pub good_is : (r : Request) → IsGood r → Good r
good_is r h =
    let fourth = (not (is_count r.kind r.block_size r.blocks), BadCount) ∷ (not (has_its_bytes r.kind r.block_size r.blocks r.pieces), LengthMismatch) ∷ (is_hosts_own r.kind, HostsOwn) ∷ [] in
    let third = (list_any crosses_page r.pieces, CrossesPage) ∷ fourth in
    let second = (list_any is_empty_piece r.pieces, EmptyPiece) ∷ third in
    record {
      crosses = first_fails (list_any crosses_page r.pieces) CrossesPage fourth
          (rest_fails (list_any is_empty_piece r.pieces) EmptyPiece third (rest_fails (nat_lt 1024 (length r.pieces)) TooManyPieces second h));
      counted = counted r.kind r.block_size r.blocks r.pieces h;
    }

-- The entry moves the request's bytes in its direction

opcode_direction : (kind : Kind) → is_admin kind ≡ false → direction_by (kind_of_opcode (opcode_of kind)) ≡ direction_of kind
opcode_direction Read far = refl
opcode_direction Write far = refl
opcode_direction Compare far = refl
opcode_direction WriteZeroes far = refl
opcode_direction Verify far = refl
opcode_direction Flush far = refl
opcode_direction Deallocate far = refl
opcode_direction (Admin command) far = absurd (true≢false far)

pub entry_direction : (cid : ℕ) (r : Request) (sgl1 : List ℕ) → is_admin r.kind ≡ false → direction_of_entry (io_entry cid r sgl1) ≡ direction_of r.kind
entry_direction cid r sgl1 far = opcode_direction r.kind far

pub entry_need : (cid : ℕ) (r : Request) (sgl1 : List ℕ) → IsGood r → r.block_size ≡ Bytes512 → moves_data r.kind ≡ true → need_of_entry (io_entry cid r sgl1) ≡ need_of r.kind r.block_size r.blocks
entry_need cid r sgl1 good size moves =
    ap (λ (n : ℕ). 512 * n) (entry_blocks cid r sgl1 good moves) ∙ sym (ap₂ (λ (b : Bool) (z : BlockSize). if b then block_bytes z * r.blocks else need_of_ranges r.kind r.blocks) moves size)

-- The parts of its pieces

counted_parts : (kind : Kind) → has_list kind ≡ true → (pieces : List Piece) (pages : List ℕ) → data_count pieces ≤ length pages
    → counted_in (direction_of kind) (parts_of pieces pages) ≡ counted_lengths kind pieces
counted_parts kind list [] pages few = refl
counted_parts kind list (Bucket len ∷ pieces) pages few = by_kind kind list (counted_parts kind list pieces pages (grind (arith, common_steps)))
  where
    by_kind : (k : Kind) → has_list k ≡ true → counted_in (direction_of k) (parts_of pieces pages) ≡ counted_lengths k pieces
        → counted_in (direction_of k) (parts_of (Bucket len ∷ pieces) pages) ≡ counted_lengths k (Bucket len ∷ pieces)
    by_kind Read list ih = omega (arith, ih, sum_by-cons (counted_length Read) (Bucket len) pieces)
    by_kind Write list ih = omega (arith, ih, sum_by-cons (counted_length Write) (Bucket len) pieces)
    by_kind Compare list ih = omega (arith, ih, sum_by-cons (counted_length Compare) (Bucket len) pieces)
    by_kind Deallocate list ih = omega (arith, ih, sum_by-cons (counted_length Deallocate) (Bucket len) pieces)
    by_kind WriteZeroes list ih = absurd (true≢false (sym list))
    by_kind Verify list ih = absurd (true≢false (sym list))
    by_kind Flush list ih = absurd (true≢false (sym list))
    by_kind (Admin command) list ih = absurd (true≢false (sym list))
counted_parts kind list (Data offset len ∷ pieces) [] few = absurd (grind (arith, common_steps))
counted_parts kind list (Data offset len ∷ pieces) (page ∷ pages) few =
    omega (arith, counted_parts kind list pieces pages (grind (arith, common_steps)), sum_by-cons (counted_length kind) (Data offset len) pieces)

pub parts_count : (r : Request) (pages : List ℕ) → IsGood r → is_admin r.kind ≡ false → length pages ≡ data_count r.pieces → counted_in (direction_of r.kind) (parts_of r.pieces pages) ≡ need_of r.kind r.block_size r.blocks
parts_count r pages good far has = elim (cases_Bool (has_list r.kind)) [
  | inl list ↦ counted_parts r.kind list r.pieces pages (omega (arith, has)) ∙ (good_is r good).counted far
  | inr still ↦ let none : r.pieces ≡ [] = no_pieces r.kind r.block_size r.blocks r.pieces good still far in
      ap (λ (pieces : List Piece). counted_in (direction_of r.kind) (parts_of pieces pages)) none ∙ ap (counted_lengths r.kind) (sym none) ∙ (good_is r good).counted far
]

-- each part that has an address lies in one of the pages
pub in_page : (page offset len k : ℕ) → offset + len ≤ 4096 → k < len → page_of (4096 * page + offset + k) ≡ page
in_page page offset len k fits lt = omega (arith, fits, lt)

pub not_crossing : (a b : ℕ) → nat_lt 4096 (a + b) ≡ false → a + b ≤ 4096
not_crossing a b h = grind (arith, nat_tests)

pub parts_lie : (all : List ℕ) (pieces : List Piece) (pages : List ℕ) → list_any crosses_page pieces ≡ false → ((p : ℕ) → is_among pages p ≡ true → is_among all p ≡ true)
    → AllByRecursion (LiesIn (on_pages all)) (parts_of pieces pages)
parts_lie all (Bucket len ∷ pieces) pages crosses within = (tt, parts_lie all pieces pages crosses within)
parts_lie all (Data offset len ∷ pieces) (page ∷ pages) crosses within =
    let c = or_parts (nat_lt 4096 (offset + len)) (list_any crosses_page pieces) crosses in (
      (λ k lt. subst (λ (q : ℕ). is_among all q ≡ true) (sym (in_page page offset len k (not_crossing offset len c.0) lt)) (within page (or_left (page == page) (is_among pages page) (eq-eqb page page refl)))),
      parts_lie all pieces pages c.1 (λ p h. within p (or_right (page == p) (is_among pages p) h)),
    )
parts_lie all x pages crosses within = tt

-- and is there, where the pages are in
pub there_in : (m : Pages) (place : ℕ) → is_some (page_at m (page_of place)) ≡ true → is_some (memory_of m place) ≡ true
there_in m place h = grind arith

pub parts_there : (m : Pages) (pieces : List Piece) (pages : List ℕ) → list_any crosses_page pieces ≡ false → All FitsPiece pieces → ((p : ℕ) → is_among pages p ≡ true → (p < 65536) × (is_some (page_at m p) ≡ true))
    → AllByRecursion (IsThere (memory_of m)) (parts_of pieces pages)
parts_there m (Bucket len ∷ pieces) pages crosses fit are =
    (omega (arith, All-head FitsPiece (Bucket len) pieces fit), parts_there m pieces pages crosses (All-tail FitsPiece (Bucket len) pieces fit) are)
parts_there m (Data offset len ∷ pieces) (page ∷ pages) crosses fit are =
    let c = or_parts (nat_lt 4096 (offset + len)) (list_any crosses_page pieces) crosses in
    let inside = not_crossing offset len c.0 in
    let here = are page (or_left (page == page) (is_among pages page) (eq-eqb page page refl)) in (
      (omega (arith, inside, here.0), λ k lt. there_in m (4096 * page + offset + k) (subst (λ (q : ℕ). is_some (page_at m q) ≡ true) (sym (in_page page offset len k inside lt)) here.1)),
      parts_there m pieces pages c.1 (All-tail FitsPiece (Data offset len) pieces fit) (λ p h. are p (or_right (page == p) (is_among pages p) h)),
    )
parts_there m x pages crosses fit are = tt

-- Joined parts: what holds of each part, and of two that join, holds of the joined parts.

-- the joined parts of a part and those after it
all_from : (P : Part → Type 0) → ((part next : Part) → joins part next ≡ true → P part → P next → P (both part next)) → (part : Part) (parts : List Part) → P part
    → AllByRecursion P parts → AllByRecursion P (joined_from part parts)
all_from P one part [] p ps = (p, tt)
all_from P one part (next ∷ parts) p ps =
    by_joining (joins part next) refl (λ is. all_from P one (both part next) parts (one part next is p ps.0) ps.1) (all_from P one next parts ps.0 ps.1)
  where
    by_joining : (b : Bool) → joins part next ≡ b → (joins part next ≡ true → AllByRecursion P (joined_from (both part next) parts)) → AllByRecursion P (joined_from next parts)
        → AllByRecursion P (if b then joined_from (both part next) parts else part ∷ joined_from next parts)
    by_joining true is together apart = together is
    by_joining false is together apart = (p, apart)

pub all_joined : (P : Part → Type 0) → ((part next : Part) → joins part next ≡ true → P part → P next → P (both part next)) → (parts : List Part) → AllByRecursion P parts
    → AllByRecursion P (joined parts)
all_joined P one [] ps = tt
all_joined P one (part ∷ parts) ps = subst (AllByRecursion P) (sym (from_list part parts)) (all_from P one part parts ps.0 ps.1)

ends_there : (addr len next more : ℕ) → joins (PartData addr len) (PartData next more) ≡ true → addr + len ≡ next
ends_there addr len next more is = grind (arith, nat_tests)

-- an address of two parts is one of the first or one of the second
place_of_two : (X : ℕ → Type 0) (addr len next more : ℕ) → addr + len ≡ next → ((k : ℕ) → k < len → X (addr + k)) → ((k : ℕ) → k < more → X (next + k)) → (k : ℕ) → k < len + more → X (addr + k)
place_of_two X addr len next more is front behind k lt = by_part (cases_lt k len)
  where
    by_part : (k < len) ⊎ (len ≤ k) → X (addr + k)
    by_part (inl l) = front k l
    by_part (inr l) = subst X (omega (arith, is, l)) (behind (k - len) (omega (arith, lt, l)))

lies_both : (at : ℕ → Bool) (part next : Part) → joins part next ≡ true → LiesIn at part → LiesIn at next → LiesIn at (both part next)
lies_both at (PartData addr len) (PartData next more) is front behind = place_of_two (λ (place : ℕ). at place ≡ true) addr len next more (ends_there addr len next more is) front behind
lies_both at x next is front behind = absurd cc

there_both : (m : Memory) (part next : Part) → joins part next ≡ true → IsThere m part → IsThere m next → IsThere m (both part next)
there_both m (PartData addr len) (PartData next more) is front behind = (
  omega (arith, ends_there addr len next more is, behind.0),
  place_of_two (λ (place : ℕ). is_some (m place) ≡ true) addr len next more (ends_there addr len next more is) front.1 behind.1,
)
there_both m x next is front behind = absurd cc

fits_both : (part next : Part) → joins part next ≡ true → Fits (descriptor_of_part part) → Fits (descriptor_of_part next) → Fits (descriptor_of_part (both part next))
fits_both (PartData addr len) (PartData next more) is front behind = (front.0, grind (arith, nat_tests))
fits_both x next is front behind = absurd cc

pub joined_lie : (at : ℕ → Bool) (parts : List Part) → AllByRecursion (LiesIn at) parts → AllByRecursion (LiesIn at) (joined parts)
joined_lie at parts lie = all_joined (LiesIn at) (lies_both at) parts lie

pub joined_there : (m : Memory) (parts : List Part) → AllByRecursion (IsThere m) parts → AllByRecursion (IsThere m) (joined parts)
joined_there m parts there = all_joined (IsThere m) (there_both m) parts there

pub joined_fit : (parts : List Part) → AllByRecursion (λ part. Fits (descriptor_of_part part)) parts → AllByRecursion (λ part. Fits (descriptor_of_part part)) (joined parts)
joined_fit parts fit = all_joined (λ part. Fits (descriptor_of_part part)) fits_both parts fit

-- A job's list: the record that it belongs to, what its walk reaches, and that it stays the same list.

-- The invariant

pub record Stood (s : State) : Type 0 where
  pub grounds : Grounds s
  pub few : length s.memory ≤ 65536
  pub commands : Commands s.memory s.controller.queues s.controller.jobs s.host.records
  pub places : Places s.host.queues s.host.records s.controller.queues s.controller.jobs
  pub walks : AllByRecursion (HasUnitLeft s) s.controller.jobs

-- The record of a job

pub record JobList (s : State) (j : Job) : Type 0 where
  pub command : Record
  pub request : Request
  pub found : record_at s.host j.q j.entry.cid ≡ Some command
  pub within : In command s.host.records
  pub work : command.work ≡ Io request
  pub phase : is_submitted command.phase ≡ true
  pub sized : IsSized command request
  pub list : ListStands s.memory s.controller.queues s.controller.jobs command request
  pub entry : j.entry ≡ io_entry command.cid request (spelling list.first)

one_self : (n : ℕ) → one (n == n) ≡ 1
one_self n = ap one (eq-eqb n n refl)

pub job_list : (s : State) → Stood s → (j : Job) → In j s.controller.jobs → (j.q == 0) ≡ false
    → ((P : Job → Type 0) → AllByRecursion P s.controller.jobs → P j) → JobList s j
job_list s stood j within other at =
    let w : ℕ → ℕ = λ c. one (c == j.entry.cid) in
    let counts : 1 ≤ total (job_weight j.q w) s.controller.jobs =
    let mine : job_weight j.q w j ≡ 1 = subst (λ (b : Bool). (if b then one (j.entry.cid == j.entry.cid) else 0) ≡ 1) (sym (eq-eqb j.q j.q refl)) (one_self j.entry.cid) in
    omega (arith, mine, within (job_weight j.q w)) in
    let r = sent_found j.q j.entry.cid s.host.records (omega (arith, counts, stood.places j.q w)) (stood.grounds.stands.0.once j.q j.entry.cid) in
    let ids = and_parts (r.0.q == j.q) (r.0.cid == j.entry.cid) (found_is (is_at j.q j.entry.cid) s.host.records r.0 r.1) in
    of_work r.0 r.1 r.2 (eqb-true r.0.q j.q ids.0) (eqb-true r.0.cid j.entry.cid ids.1) r.0.work refl
    (all-found (λ r. OwnsFit Modelled r.q r.work (pages_of r)) (is_at j.q j.entry.cid) s.host.records r.0 r.1 (admins_of s stood.grounds))
    (all-found (CommandStands s.memory s.controller.queues s.controller.jobs) (is_at j.q j.entry.cid) s.host.records r.0 r.1 stood.commands)
  where
    of_work : (r : Record) → record_at s.host j.q j.entry.cid ≡ Some r → is_submitted r.phase ≡ true → r.q ≡ j.q → r.cid ≡ j.entry.cid → (work : Work) → r.work ≡ work
        → OwnsFit Modelled r.q r.work (pages_of r) → CommandStands s.memory s.controller.queues s.controller.jobs r → JobList s j
    of_work r e sub rq rc (Io request) is fit stands =
        let stands' : StandsAs s.memory s.controller.queues s.controller.jobs r (Io request) = subst (StandsAs s.memory s.controller.queues s.controller.jobs r) is stands in
        let list = stands'.1 sub in
        record {
          command = r;
          request = request;
          found = e;
          within = in_found (is_at j.q j.entry.cid) s.host.records r e;
          work = is;
          phase = sub;
          sized = stands'.0;
          list = list;
          entry = at (λ k. k.q ≡ r.q → k.entry.cid ≡ r.cid → k.entry ≡ io_entry r.cid request (spelling list.first)) list.entry.fetched (sym rq) (sym rc);
        }
    of_work r e sub rq rc (Management adm) is fit stands =
        absurd (true≢false (sym (eq-eqb j.q 0 (sym rq ∙ (subst (λ (x : Work). OwnsFit Modelled r.q x (pages_of r)) is fit).0)) ∙ other))

-- Its pages

once_of : (s : State) → Grounds s → (p : ℕ) → total (in_record p) s.host.records ≤ 1
once_of s g p = omega (arith, owned_once _ p s.host g.stands.0)

pub page_below : (s : State) → Grounds s → (r : Record) → In r s.host.records → (p : ℕ) → is_among (pages_of r) p ≡ true → p < length s.memory
page_below s g r within p h = elim (cases_Bool (nat_lt p (length (in_store s.memory)))) [
  | inl e ↦ omega (arith, ltb-true p (length (in_store s.memory)) e, length-in_store s.memory)
  | inr e ↦ absurd (omega (arith, ap one e, g.stands.0.owner p, within (in_record p), held_once p (pages_of r) h))
]

-- a page of a submitted command is in
pub page_there : (s : State) → Grounds s → (r : Record) → In r s.host.records → is_submitted r.phase ≡ true → (p : ℕ) → is_among (pages_of r) p ≡ true → is_some (page_at s.memory p) ≡ true
page_there s g r within sub p h =
    let nobody : total (taken p) s.host.records ≡ 0 =
    let mine : sent_page p r ≡ in_record p r = subst (λ (b : Bool). (if b then in_record p r else 0) ≡ in_record p r) (sym sub) refl in
    omega (arith, apart s.host.records, once_of s g p, within (sent_page p), mine, held_once p (pages_of r) h) in
    let below = page_below s g r within p h in
    some_is (sym (in_is s.memory p below) ∙ g.taken p (omega (arith, below, length-in_store s.memory)) ∙ ap Some (none_here (total (taken p) s.host.records) nobody))
  where
    apart : (rs : List Record) → total (taken p) rs + total (sent_page p) rs ≤ total (in_record p) rs
    apart [] = omega arith
    apart (x ∷ rs) = omega (arith, apart rs, each x)
      where
        each : (x : Record) → taken p x + sent_page p x ≤ in_record p x
        each x = (elim x.phase as (λ ph. (if is_out ph then in_record p x else 0) + (if is_submitted ph then in_record p x else 0) ≤ in_record p x) [
          | Drafted ↦ omega arith
          | Submitted ↦ omega arith
          | Held ↦ omega arith
          | Collected ↦ omega arith
        ])

pub counts_sent : (s : State) (r : Record) → In r s.host.records → is_submitted r.phase ≡ true → (p : ℕ) → is_among (pages_of r) p ≡ true → 0 < total (sent_page p) s.host.records
counts_sent s r within sub p h =
    omega (arith, within (sent_page p), subst (λ (b : Bool). (if b then in_record p r else 0) ≡ in_record p r) (sym sub) refl, held_once p (pages_of r) h)

pub data_of : (r : Record) (p : ℕ) → is_among r.data_pages p ≡ true → is_among (pages_of r) p ≡ true
data_of r p h = holds_left p r.data_pages r.chain_pages h

pub chain_of : (r : Record) (p : ℕ) → is_among r.chain_pages p ≡ true → is_among (pages_of r) p ≡ true
chain_of r p h = holds_right p r.data_pages r.chain_pages h

pub apart_in : (s : State) → Grounds s → (r : Record) → In r s.host.records → AreApart r.chain_pages r.data_pages
apart_in s g r within p h = elim (cases_Bool (is_among r.chain_pages p)) [
  | inl e ↦ absurd (omega (arith, held_once p r.chain_pages e, held_once p r.data_pages h, times-append p r.data_pages r.chain_pages, within (in_record p), once_of s g p))
  | inr e ↦ e
]

-- The memory of a walk has what the pool has

pub pool_bytes : (m : Pages) (at : ℕ → Bool) → HasBytesOf (only at (memory_of m)) (only at (byte_at m))
pool_bytes m at place byte e = by_page (at place) (page_at m (page_of place)) e
  where
    inner : (bytes : List ℕ) → slice_get bytes (place % 4096) ≡ Some byte → Some (slice_index bytes (place % 4096)) ≡ Some byte
    inner bytes e = sym (slice_get-get_or bytes (place % 4096) 0 (slice_get_within bytes (place % 4096) byte e)) ∙ e

    by_page : (b : Bool) (o : Option (List ℕ)) → (if b then option_and_then (λ bytes. slice_get bytes (place % 4096)) o else None) ≡ Some byte
        → (if b then option_map (λ page. slice_index page (place % 4096)) o else None) ≡ Some byte
    by_page true (Some bytes) e = inner bytes e
    by_page x o e = absurd cc

-- What the walk of a job reaches

-- a command with a list has its own
pub list_of_job : (s : State) (j : Job) (l : JobList s j) → has_list l.request.kind ≡ true
    → IsListIn l.command.chain_pages l.command.data_pages (memory_of s.memory) j.entry.sgl1 (joined_parts l.request.pieces l.command.data_pages)
list_of_job s j l has = record {
  first = l.list.first;
  spelled = ap (λ (e : SubEntry). descriptor_of e.sgl1) l.entry ∙ ap descriptor_of (pointer_lists l.request.kind (spelling l.list.first) has) ∙ l.list.read;
  spells = spells_there (only (on_pages l.command.chain_pages) (byte_at s.memory)) (only (on_pages l.command.chain_pages) (memory_of s.memory)) (pool_bytes s.memory (on_pages l.command.chain_pages)) l.list.first
      (joined_parts l.request.pieces l.command.data_pages) (l.list.spells has);
  parts_lie = joined_lie (on_pages l.command.data_pages) (parts_of l.request.pieces l.command.data_pages)
      (parts_lie l.command.data_pages l.request.pieces l.command.data_pages (good_is l.request l.sized.good).crosses (λ p h. h));
}

-- one without a list has zeros there, which read as a block of no bytes: its walk would reach no page, and find too little data
zeros_read : descriptor_of (replicate 16 0) ≡ Some (DataBlock 0 0)
zeros_read = reads_itself (DataBlock 0 0) (omega arith, omega arith)

no_block : (m : Memory) (n offset : ℕ) (rest : Course) → moving m (pages_spanned 0 (min 0 n)) 0 (min 0 n) offset rest ≡ rest
unfolding moving
no_block m n offset rest =
    let none : min 0 n ≡ 0 = omega arith in
    ap (λ (k : ℕ). moving m (pages_spanned 0 k) 0 k offset rest) none

wants_more : (need : ℕ) → 0 < need → (if nat_eq (need - 0) 0 then End else Fault DATA_SGL_LENGTH_INVALID) ≡ Fault DATA_SGL_LENGTH_INVALID
wants_more need some =
    let wanted : nat_eq (need - 0) 0 ≡ false = grind (arith, nat_tests) in
    ap (λ (b : Bool). if b then End else Fault DATA_SGL_LENGTH_INVALID) wanted

zeros_course : (m : Memory) (dir : Direction) (need : ℕ) → 0 < need → course_of_list m (replicate 16 0) dir need ≡ Does Stays (Closes (Fault DATA_SGL_LENGTH_INVALID))
zeros_course m dir need some =
    ap (λ (o : Option Descriptor). Does Stays (after_read m dir need entry_cursor need (rest_of 4095 m dir need) o)) zeros_read
    ∙ ap (Does Stays) (no_block m need (need - need) (Closes (if nat_eq (need - 0) 0 then End else Fault DATA_SGL_LENGTH_INVALID)) ∙ ap Closes (wants_more need some))

pub still_course : (s : State) (j : Job) (l : JobList s j) → has_list l.request.kind ≡ false → course_of s j ≡ Does Stays (Closes (Fault DATA_SGL_LENGTH_INVALID))
still_course s j l still =
    ap (λ (sgl1 : List ℕ). course_of_list (memory_of s.memory) sgl1 (direction_of_entry j.entry) (need_of_entry j.entry))
    (ap (λ (e : SubEntry). e.sgl1) l.entry ∙ pointer_still l.request.kind (spelling l.list.first) still)
    ∙ zeros_course (memory_of s.memory) (direction_of_entry j.entry) (need_of_entry j.entry) (omega arith)

pub course_in : (s : State) (j : Job) (l : JobList s j) → CourseIn (on_pages l.command.chain_pages) (on_pages l.command.data_pages) (course_of s j)
course_in s j l = elim (cases_Bool (has_list l.request.kind)) [
  | inl has ↦ let list = list_of_job s j l has in
      list_in (on_pages l.command.chain_pages) (on_pages l.command.data_pages) (memory_of s.memory) j.entry.sgl1 list.first (joined_parts l.request.pieces l.command.data_pages) (direction_of_entry j.entry) (need_of_entry j.entry)
      list.spelled list.spells list.parts_lie
  | inr still ↦ subst (CourseIn (on_pages l.command.chain_pages) (on_pages l.command.data_pages)) (sym (still_course s j l still)) (tt, tt)
]

pub more_than_only : (at : ℕ → Bool) (m : Memory) → HasBytesOf m (only at m)
more_than_only at m place byte e = grind arith

low_places : (m : Pages) → length m ≤ 65536 → (place : ℕ) → is_some (memory_of m place) ≡ true → place < 2 ^ 64
low_places m few place h =
    let page : is_some (page_at m (page_of place)) ≡ true = (grind arith) in
    omega (arith, inside m (page_of place) page, few)
  where
    inside : (m : Pages) (p : ℕ) → is_some (page_at m p) ≡ true → p < length m
    inside [] p h = absurd (true≢false (sym h))
    inside (x ∷ m) zero h = omega arith
    inside (x ∷ m) (suc p) h = omega (arith, inside m p h)

-- its list spells its parts in the memory of the walk, and they are there
spells_all : (s : State) (j : Job) (l : JobList s j) (list : IsListIn l.command.chain_pages l.command.data_pages (memory_of s.memory) j.entry.sgl1 (joined_parts l.request.pieces l.command.data_pages))
    → Spells (memory_of s.memory) list.first (joined_parts l.request.pieces l.command.data_pages)
spells_all s j l list =
    spells_there (only (on_pages l.command.chain_pages) (memory_of s.memory)) (memory_of s.memory) (more_than_only (on_pages l.command.chain_pages) (memory_of s.memory)) list.first
    (joined_parts l.request.pieces l.command.data_pages) list.spells

all_there : (s : State) → Stood s → (j : Job) (l : JobList s j) → AllByRecursion (IsThere (memory_of s.memory)) (joined_parts l.request.pieces l.command.data_pages)
all_there s stood j l =
    joined_there (memory_of s.memory) (parts_of l.request.pieces l.command.data_pages)
    (parts_there s.memory l.request.pieces l.command.data_pages (good_is l.request l.sized.good).crosses l.sized.fits.pieces
    (λ p h. (
      omega (arith, page_below s stood.grounds l.command l.within p (data_of l.command p h), stood.few),
      page_there s stood.grounds l.command l.within l.phase p (data_of l.command p h),
    )))

-- it ends well, the parts that are taken have the targets of its parts, and those count what is moved
pub record CourseWhole (s : State) (j : Job) (parts : List Part) : Type 0 where
  pub ends : verdict (course_of s j) ≡ End
  pub takes : targets (direction_of_entry j.entry) (parts_of_list (memory_of s.memory) j.entry.sgl1 (direction_of_entry j.entry) (need_of_entry j.entry)) ≡ targets (direction_of_entry j.entry) parts
  pub counts : counted_in (direction_of_entry j.entry) parts ≡ need_of_entry j.entry

pub course_whole : (s : State) → Stood s → (j : Job) (l : JobList s j) → moves_data l.request.kind ≡ true → CourseWhole s j (parts_of l.request.pieces l.command.data_pages)
course_whole s stood j l moves =
    let list = list_of_job s j l (moves_list l.request.kind moves) in
    let r = l.command in
    let same_direction : direction_of_entry j.entry ≡ direction_of l.request.kind = ap direction_of_entry l.entry ∙ entry_direction r.cid l.request (spelling l.list.first) l.sized.blocks in
    let same_need : need_of_entry j.entry ≡ need_of l.request.kind l.request.block_size l.request.blocks =
    ap need_of_entry l.entry ∙ entry_need r.cid l.request (spelling l.list.first) l.sized.good l.sized.size moves in
    let count : counted_in (direction_of_entry j.entry) (parts_of l.request.pieces r.data_pages) ≡ need_of_entry j.entry =
    ap (λ d. counted_in d (parts_of l.request.pieces r.data_pages)) same_direction ∙ parts_count l.request r.data_pages l.sized.good l.sized.blocks l.sized.pages ∙ sym same_need in
    let both = lists_end (memory_of s.memory) j.entry.sgl1 list.first (joined_parts l.request.pieces r.data_pages) (direction_of_entry j.entry) (need_of_entry j.entry)
    (low_places s.memory stood.few) list.spelled (spells_all s j l list) (all_there s stood j l) (same_count (direction_of_entry j.entry) (parts_of l.request.pieces r.data_pages) ∙ count) in
    record { ends = both.0; takes = both.1 ∙ same_targets (direction_of_entry j.entry) (parts_of l.request.pieces r.data_pages); counts = count }

pub course_ends : (s : State) → Stood s → (j : Job) (l : JobList s j) → moves_data l.request.kind ≡ true → verdict (course_of s j) ≡ End
course_ends s stood j l moves = (course_whole s stood j l moves).ends

-- whatever its entry wants of its list, if it has one, it ends, and if not well then for lack of a byte
abbrev code_of : WalkState → ℕ
code_of More = 0
code_of End = 0
code_of (Fault status) = status.sc

too_short_is_no_loss : Fault DATA_SGL_LENGTH_INVALID ≢ Fault DATA_TRANSFER_ERROR
too_short_is_no_loss same = let e : DATA_SGL_LENGTH_INVALID.sc ≡ DATA_TRANSFER_ERROR.sc = ap code_of same in absurd (omega (arith, e))

listed_over : (s : State) → Stood s → (j : Job) (l : JobList s j) → has_list l.request.kind ≡ true → (verdict (course_of s j) ≡ End) ⊎ (verdict (course_of s j) ≡ Fault DATA_SGL_LENGTH_INVALID)
listed_over s stood j l has =
    let list = list_of_job s j l has in
    let m = memory_of s.memory in
    let parts = joined_parts l.request.pieces l.command.data_pages in
    let dir = direction_of_entry j.entry in
    let need = need_of_entry j.entry in
    elim (cases_lt (counted_in dir parts) need) [
      | inl short ↦ inr (shorter_lists_end m j.entry.sgl1 list.first parts dir need (low_places s.memory stood.few) list.spelled (spells_all s j l list) (all_there s stood j l) short)
      | inr enough ↦ inl (long_lists_end m j.entry.sgl1 list.first parts dir need (low_places s.memory stood.few) list.spelled (spells_all s j l list) (all_there s stood j l) enough).0
    ]

pub course_over : (s : State) → Stood s → (j : Job) (l : JobList s j) → (verdict (course_of s j) ≢ More) × (verdict (course_of s j) ≢ Fault DATA_TRANSFER_ERROR)
course_over s stood j l = elim (cases_Bool (has_list l.request.kind)) [
  | inl has ↦ by_verdict (listed_over s stood j l has)
  | inr still ↦ by_verdict (inr (ap verdict (still_course s j l still)))
]
  where
    by_verdict : (verdict (course_of s j) ≡ End) ⊎ (verdict (course_of s j) ≡ Fault DATA_SGL_LENGTH_INVALID) → (verdict (course_of s j) ≢ More) × (verdict (course_of s j) ≢ Fault DATA_TRANSFER_ERROR)
    by_verdict (inl e) = (λ f. cc, λ f. cc)
    by_verdict (inr e) = (λ f. cc, λ f. too_short_is_no_loss (sym e ∙ f))

-- Its list stays where its chain pages stay, and its data pages are in

pub serves_in : (m m' : Pages) (chain own : List ℕ) → ((p : ℕ) → is_among chain p ≡ true → page_at m' p ≡ page_at m p) → ((p : ℕ) → is_among own p ≡ true → is_some (page_at m' p) ≡ true)
    → (c : Course) → CourseIn (on_pages chain) (on_pages own) c → verdict c ≢ Fault DATA_TRANSFER_ERROR → Serves (memory_of m) (memory_of m') c
serves_in m m' chain own same there (Closes v) h e = e
serves_in m m' chain own same there (Does Stays rest) h e = serves_in m m' chain own same there rest h.1 e
serves_in m m' chain own same there (Does (Reads place) rest) h e = (
  bytes_agree (memory_of m') (memory_of m) place 16 (λ k lt. ap (λ (o : Option (List ℕ)). option_map (λ page. slice_index page ((place + k) % 4096)) o) (same (page_of (place + k)) (h.0 k lt))),
  serves_in m m' chain own same there rest h.1 e,
)
serves_in m m' chain own same there (Does (Moves place n offset) rest) h e = (
  bytes_there (memory_of m') n place (λ k lt. there_in m' (place + k) (there (page_of (place + k)) (h.0.2 k lt))),
  serves_in m m' chain own same there rest h.1 e,
)

pub same_list : (s t : State) → Stood s → (j : Job) (l : JobList s j)
    → ((p : ℕ) → is_among l.command.chain_pages p ≡ true → page_at t.memory p ≡ page_at s.memory p) → ((p : ℕ) → is_among l.command.data_pages p ≡ true → is_some (page_at t.memory p) ≡ true)
    → course_of t j ≡ course_of s j
same_list s t stood j l same there =
    list_served (memory_of s.memory) (memory_of t.memory) j.entry.sgl1 (direction_of_entry j.entry) (need_of_entry j.entry)
    (serves_in s.memory t.memory l.command.chain_pages l.command.data_pages same there (course_of s j) (course_in s j l) (course_over s stood j l).1)

-- A built draft, put into the store, spells its parts from its entry's descriptor.

-- Requests that pass as the same are

pieces_same : (x y : Piece) → same_piece x y ≡ true → x ≡ y
pieces_same x y h = grind arith

lists_same : (xs ys : List Piece) → same_pieces xs ys ≡ true → xs ≡ ys
lists_same [] [] h = refl
lists_same (x ∷ xs) (y ∷ ys) h = let both = and_parts (same_piece x y) (same_pieces xs ys) h in rw (pieces_same x y both.0, lists_same xs ys both.1) refl
lists_same x y h = absurd (true≢false (sym h))

uses_same : (a b : PageUse) → same_use a b ≡ true → a ≡ b
uses_same a b h = grind arith

commands_same : (a b : AdminCommand) → same_command a b ≡ true → a ≡ b
commands_same a b h =
    let to_15 = and_parts _ (a.cdw15 == b.cdw15) h in
    let to_14 = and_parts _ (a.cdw14 == b.cdw14) to_15.0 in
    let to_13 = and_parts _ (a.cdw13 == b.cdw13) to_14.0 in
    let to_12 = and_parts _ (a.cdw12 == b.cdw12) to_13.0 in
    let to_11 = and_parts _ (a.cdw11 == b.cdw11) to_12.0 in
    let to_10 = and_parts _ (a.cdw10 == b.cdw10) to_11.0 in
    let first = and_parts (a.opcode == b.opcode) (same_use a.page b.page) to_10.0 in
    made a.opcode b.opcode a.page b.page a.cdw10 b.cdw10 a.cdw11 b.cdw11 a.cdw12 b.cdw12 a.cdw13 b.cdw13 a.cdw14 b.cdw14 a.cdw15 b.cdw15
    (eqb-true a.opcode b.opcode first.0) (uses_same a.page b.page first.1) (eqb-true a.cdw10 b.cdw10 to_10.1) (eqb-true a.cdw11 b.cdw11 to_11.1) (eqb-true a.cdw12 b.cdw12 to_12.1)
    (eqb-true a.cdw13 b.cdw13 to_13.1) (eqb-true a.cdw14 b.cdw14 to_14.1) (eqb-true a.cdw15 b.cdw15 to_15.1)
  where
    made : (o o' : ℕ) (p p' : PageUse) (x x' y y' z z' u u' v v' w w' : ℕ) → o ≡ o' → p ≡ p' → x ≡ x' → y ≡ y' → z ≡ z' → u ≡ u' → v ≡ v' → w ≡ w'
        → ◌≡◌ {A = AdminCommand} (record { opcode = o; page = p; cdw10 = x; cdw11 = y; cdw12 = z; cdw13 = u; cdw14 = v; cdw15 = w })
        (record { opcode = o'; page = p'; cdw10 = x'; cdw11 = y'; cdw12 = z'; cdw13 = u'; cdw14 = v'; cdw15 = w' })
    made o o' p p' x x' y y' z z' u u' v v' w w' eo ep ex ey ez eu ev ew = rw (eo, ep, ex, ey, ez, eu, ev, ew) refl

kinds_same : (a b : Kind) → same_kind a b ≡ true → a ≡ b
kinds_same (Admin a) (Admin b) h = ap Admin (commands_same a b h)
kinds_same a b h = grind arith

bools_same : (x y : Bool) → beq x y ≡ true → x ≡ y
bools_same x y h = grind arith

flags_same : (a b : Flags) → same_flags a b ≡ true → a ≡ b
flags_same a b h =
    let parts = and_parts (beq a.force_unit_access b.force_unit_access) (beq a.limited_retry b.limited_retry) h in
    ap₂ (λ (x y : Bool). let flags : Flags = record { force_unit_access = x; limited_retry = y } in flags)
    (bools_same a.force_unit_access b.force_unit_access parts.0) (bools_same a.limited_retry b.limited_retry parts.1)

sizes_same : (a b : BlockSize) → block_bytes a ≡ block_bytes b → a ≡ b
sizes_same Bytes512 Bytes512 same = refl
sizes_same Bytes512 Bytes1024 same = absurd (omega (arith, same))
sizes_same Bytes512 Bytes2048 same = absurd (omega (arith, same))
sizes_same Bytes512 Bytes4096 same = absurd (omega (arith, same))
sizes_same Bytes1024 Bytes512 same = absurd (omega (arith, same))
sizes_same Bytes1024 Bytes1024 same = refl
sizes_same Bytes1024 Bytes2048 same = absurd (omega (arith, same))
sizes_same Bytes1024 Bytes4096 same = absurd (omega (arith, same))
sizes_same Bytes2048 Bytes512 same = absurd (omega (arith, same))
sizes_same Bytes2048 Bytes1024 same = absurd (omega (arith, same))
sizes_same Bytes2048 Bytes2048 same = refl
sizes_same Bytes2048 Bytes4096 same = absurd (omega (arith, same))
sizes_same Bytes4096 Bytes512 same = absurd (omega (arith, same))
sizes_same Bytes4096 Bytes1024 same = absurd (omega (arith, same))
sizes_same Bytes4096 Bytes2048 same = absurd (omega (arith, same))
sizes_same Bytes4096 Bytes4096 same = refl

pub requests_same : (a b : Request) → same_request a b ≡ true → a ≡ b
requests_same a b h =
    let of : Kind → ℕ → Flags → ℕ → BlockSize → ℕ → List Piece → Request = λ k i f s z n ps. record { kind = k; nsid = i; flags = f; slba = s; block_size = z; blocks = n; pieces = ps } in
    let made : (k k' : Kind) (i i' : ℕ) (f f' : Flags) (s s' : ℕ) (z z' : BlockSize) (n n' : ℕ) (ps ps' : List Piece) → k ≡ k' → i ≡ i' → f ≡ f' → s ≡ s' → z ≡ z' → n ≡ n' → ps ≡ ps' → of k i f s z n ps ≡ of k' i' f' s' z' n' ps' =
    λ k k' i i' f f' s s' z z' n n' ps ps' ek ei ef es ez en ep. rw (ek, ei, ef, es, ez, en, ep) refl in
    let kind = same_kind a.kind b.kind in
    let nsid = a.nsid == b.nsid in
    let flags = same_flags a.flags b.flags in
    let slba = a.slba == b.slba in
    let size = block_bytes a.block_size == block_bytes b.block_size in
    let blocks = a.blocks == b.blocks in
    let to_blocks = and_parts (kind && nsid && flags && slba && size && blocks) (same_pieces a.pieces b.pieces) h in
    let to_size = and_parts (kind && nsid && flags && slba && size) blocks to_blocks.0 in
    let to_slba = and_parts (kind && nsid && flags && slba) size to_size.0 in
    let to_flags = and_parts (kind && nsid && flags) slba to_slba.0 in
    let to_nsid = and_parts (kind && nsid) flags to_flags.0 in
    let first = and_parts kind nsid to_nsid.0 in
    made a.kind b.kind a.nsid b.nsid a.flags b.flags a.slba b.slba a.block_size b.block_size a.blocks b.blocks a.pieces b.pieces (kinds_same a.kind b.kind first.0) (eqb-true a.nsid b.nsid first.1) (flags_same a.flags b.flags to_nsid.1)
    (eqb-true a.slba b.slba to_flags.1) (sizes_same a.block_size b.block_size (eqb-true (block_bytes a.block_size) (block_bytes b.block_size) to_slba.1)) (eqb-true a.blocks b.blocks to_size.1) (lists_same a.pieces b.pieces to_blocks.1)

-- A descriptor whose fields fit is read back

parts_fit : (pieces : List Piece) (numbers : List ℕ) → All FitsPiece pieces → ((n : ℕ) → is_among numbers n ≡ true → n < 65536)
    → AllByRecursion (λ part. Fits (descriptor_of_part part)) (parts_of pieces numbers)
parts_fit (Bucket len ∷ pieces) numbers fit low = (All-head FitsPiece (Bucket len) pieces fit, parts_fit pieces numbers (All-tail FitsPiece (Bucket len) pieces fit) low)
parts_fit (Data offset len ∷ pieces) (n ∷ numbers) fit low =
    let here = All-head FitsPiece (Data offset len) pieces fit in
    let page = low n (or_left (n == n) (is_among numbers n) (eq-eqb n n refl)) in (
      (omega (arith, here.0, page), here.1),
      parts_fit pieces numbers (All-tail FitsPiece (Data offset len) pieces fit) (λ k h. low k (or_right (n == k) (is_among numbers k) h)),
    )
parts_fit x numbers fit low = tt

first_fits : (s : ℕ) (pages : List ℕ) (parts : List Part) → s ≤ 256 → length parts ≤ 1024 → AllByRecursion (λ part. Fits (descriptor_of_part part)) parts
    → ((n : ℕ) → is_among pages n ≡ true → n < 65536) → Fits (first_of s pages parts)
first_fits s (page ∷ pages) parts high few fit low = by_length (nat_le (length parts) s)
  where
    here : page < 65536
    here = low page (or_left (page == page) (is_among pages page) (eq-eqb page page refl))

    by_length : (b : Bool) → Fits (if b then LastSegment (4096 * page) (16 * length parts) else Segment (4096 * page) (16 * s))
    by_length true = (omega (arith, here), omega (arith, few))
    by_length false = (omega (arith, here), omega (arith, high))
first_fits s [] [] high few fit low = omega arith
first_fits s [] (part ∷ parts) high few fit low = fit.0

pub first_read : (d : DraftContents) → IsProperDraft d → ((n : ℕ) → is_among (numbers_of d.data_pages) n ≡ true → n < 65536) → ((n : ℕ) → is_among (numbers_of d.chain_pages) n ≡ true → n < 65536)
    → descriptor_of (spelling (draft_first d)) ≡ Some (draft_first d)
first_read d proper low low' =
    reads_itself (draft_first d)
    (first_fits d.segment (numbers_of d.chain_pages) (draft_parts d) proper.draft.high
    (omega (arith, few_pieces d.request.kind d.request.block_size d.request.blocks d.request.pieces proper.draft.good, joined_parts_few d.request.pieces (numbers_of d.data_pages)))
    (joined_fit (parts_of d.request.pieces (numbers_of d.data_pages)) (parts_fit d.request.pieces (numbers_of d.data_pages) proper.request.pieces low)) low')

-- Its pages in the store

set_same : (m : Pages) (p : ℕ) (x : Option (List ℕ)) → p < length m → page_at (slice_set m p x) p ≡ x
set_same [] p x l = absurd (omega (arith, l))
set_same (y ∷ m) zero x l = refl
set_same (y ∷ m) (suc p) x l = set_same m p x (omega (arith, l))

-- each page that is brought in once is there with its bytes
pub brought : (pages : List (ℕ × List ℕ)) (m : Pages) → ((p : ℕ) → times p (numbers_of pages) ≤ 1) → ((p : ℕ) → is_among (numbers_of pages) p ≡ true → p < length m)
    → AllByRecursion (λ page. page_at (with_pages pages m) page.0 ≡ Some page.1) pages
brought [] m once low = tt
brought (page ∷ pages) m once low = (
  with-other pages (slice_set m page.0 (Some page.1)) page.0
      (among_counts page.0 (numbers_of pages) (omega (arith, once page.0, times-cons page.0 page.0 (numbers_of pages), ap one (eq-eqb page.0 page.0 refl))))
      ∙ set_same m page.0 (Some page.1) (low page.0 (or_left (page.0 == page.0) (is_among (numbers_of pages) page.0) (eq-eqb page.0 page.0 refl))),
  brought pages (slice_set m page.0 (Some page.1))
      (λ p. omega (arith, once p, times-cons p page.0 (numbers_of pages)))
      (λ p h. omega (arith, low p (or_right (page.0 == p) (is_among (numbers_of pages) p) h), length-set m page.0 (Some page.1))),
)

-- bytes of a page that is in the store
in_page_submitting : (p k : ℕ) → k < 4096 → page_of (4096 * p + k) ≡ p
in_page_submitting p k l = omega (arith, l)

holds_page : (m : Pages) (chain : List ℕ) (p : ℕ) (bytes : List ℕ) → is_among chain p ≡ true → length bytes ≡ 4096 → page_at m p ≡ Some bytes → Holds (only (on_pages chain) (byte_at m)) (4096 * p) bytes
holds_page m chain p bytes within whole there k l =
    let inside : on_pages chain (4096 * p + k) ≡ true = subst (λ (q : ℕ). is_among chain q ≡ true) (sym (in_page_submitting p k (omega (arith, l, whole)))) within in
    subst (λ (b : Bool). (if b then byte_at m (4096 * p + k) else None) ≡ Some (slice_index bytes k)) (sym inside)
    (byte_in m p k bytes there (omega (arith, l, whole)) ∙ slice_get-get_or bytes k 0 l)

pub holds_pages : (m : Pages) (chain : List ℕ) (pages : List (ℕ × List ℕ)) → ((p : ℕ) → is_among (numbers_of pages) p ≡ true → is_among chain p ≡ true) → ArePages pages
    → AllByRecursion (λ page. page_at m page.0 ≡ Some page.1) pages → HoldsPages (only (on_pages chain) (byte_at m)) pages
holds_pages m chain [] within whole there = tt
holds_pages m chain (page ∷ pages) within whole there = (
  holds_page m chain page.0 page.1 (within page.0 (or_left (page.0 == page.0) (is_among (numbers_of pages) page.0) (eq-eqb page.0 page.0 refl))) (All-head (λ (page : ℕ × List ℕ). IsPage page.1) page pages whole) there.0,
  holds_pages m chain pages (λ p h. within p (or_right (page.0 == p) (is_among (numbers_of pages) p) h)) (All-tail (λ (page : ℕ × List ℕ). IsPage page.1) page pages whole) there.1,
)

all_low : (xs : List ℕ) → ((n : ℕ) → is_among xs n ≡ true → n < 65536) → All (λ page. page < 2 ^ 32) xs
all_low [] low = All-nil (λ page. page < 2 ^ 32)
all_low (x ∷ xs) low =
    All-cons (λ page. page < 2 ^ 32) x xs (omega (arith, low x (or_left (x == x) (is_among xs x) (eq-eqb x x refl)))) (all_low xs (λ n h. low n (or_right (x == n) (is_among xs n) h)))

-- what the draft spells there
pub draft_spells : (d : DraftContents) (entry : SubEntry) (m : Pages) → IsProperDraft d → d.entry ≡ Some entry
    → ((n : ℕ) → is_among (numbers_of d.data_pages) n ≡ true → n < 65536) → ((n : ℕ) → is_among (numbers_of d.chain_pages) n ≡ true → n < 65536)
    → AllByRecursion (λ page. page_at m page.0 ≡ Some page.1) d.chain_pages → has_list d.request.kind ≡ true
    → Spells (only (on_pages (numbers_of d.chain_pages)) (byte_at m)) (draft_first d) (draft_parts d)
draft_spells d entry m proper e low low' there list =
    built_drafts_spell (λ s pages parts has typed most m laid. spells m s pages parts has typed most laid) d entry proper.draft
    (record { request = proper.request; data_pages = all_low (numbers_of d.data_pages) low; chain_pages = all_low (numbers_of d.chain_pages) low' }) e list
    (only (on_pages (numbers_of d.chain_pages)) (byte_at m)) (holds_pages m (numbers_of d.chain_pages) d.chain_pages (λ p h. h) proper.chain_pages there)

-- What the machine hands out is proper: the draft of a command that was reserved, and a command that was collected.

-- what the host's event is answered, whatever was forged
pub hosts_own : {A : Type 0} (B : Type 0) (t : Bool) → MatchBool (t || true) A B → A
hosts_own B true h = h
hosts_own B false h = h

-- Reserved drafts

right_zeroed : (ys : List (ℕ × List ℕ)) → zeroed ys → ArePages ys
right_zeroed [] h = All-nil (λ (page : ℕ × List ℕ). IsPage page.1)
right_zeroed (y ∷ ys) h =
    All-cons (λ (page : ℕ × List ℕ). IsPage page.1) y ys
    (ap length (All-head (λ (page : ℕ × List ℕ). page.1 ≡ zero_page) y ys h) ∙ length-zero_page)
    (right_zeroed ys (All-tail (λ (page : ℕ × List ℕ). page.1 ≡ zero_page) y ys h))

both_zeroed : (xs ys : List (ℕ × List ℕ)) → zeroed (xs ++ ys) → ArePages xs × ArePages ys
both_zeroed [] ys h = (All-nil (λ (page : ℕ × List ℕ). IsPage page.1), right_zeroed ys h)
both_zeroed (x ∷ xs) ys h =
    let rest = both_zeroed xs ys (All-tail (λ (page : ℕ × List ℕ). page.1 ≡ zero_page) x (xs ++ ys) h) in (
      All-cons (λ (page : ℕ × List ℕ). IsPage page.1) x xs (ap length (All-head (λ (page : ℕ × List ℕ). page.1 ≡ zero_page) x (xs ++ ys) h) ∙ length-zero_page) rest.0,
      rest.1,
    )

-- a request that is not refused passes its check
reserved_is_good : (s : State) (q : ℕ) (r : Request) → refusal_of s (events.Reserve q r) ≡ None → IsGood r
reserved_is_good s q r h =
    let no_fault : (o : Option RequestFault) → is_some o ≡ false → o ≡ None = λ o e. grind arith in
    no_fault (fault_of r.kind r.block_size r.blocks r.pieces) (unrefused s (events.Reserve q r) h).1.1.0

-- and where the host takes blocks of 512 bytes alone, it has such blocks
only_takes : (size : BlockSize) → takes Modelled size ≡ true → size ≡ Bytes512
only_takes Bytes512 h = refl
only_takes size h = absurd (true≢false (sym h))

pub reserved_size : (s : State) (q : ℕ) (r : Request) → s.host.peer ≡ Modelled → refusal_of s (events.Reserve q r) ≡ None → r.block_size ≡ Bytes512
reserved_size s q r only none =
    only_takes r.block_size (ap (λ sizes. takes sizes r.block_size) (sym only) ∙ not-false (takes s.host.peer r.block_size) (unrefused s (events.Reserve q r) none).1.1.1.0)

reserved_draft : (s : State) (q : ℕ) (r : Request) (d : DraftContents) → IsInOrder s → IsGood r → IsReserved s q r d → IsDraft d
reserved_draft s q r d order good reserved = record {
  good = subst IsGood (sym reserved.request) good;
  low = subst (λ (n : ℕ). 2 ≤ n) (sym reserved.segment) order.least_segment;
  high = subst (λ (n : ℕ). n ≤ 256) (sym reserved.segment) order.most_segment;
  pieces_have_pages = reserved.data_pages ∙ ap (λ (x : Request). data_count x.pieces) (sym reserved.request);
  chain_has_pages =
      reserved.chain_pages
      ∙ ap (λ (x : Request). pages_needed (length (joined_parts x.pieces (numbers_of d.data_pages))) s.segment) (sym reserved.request)
      ∙ ap (pages_needed (length (draft_parts d))) (sym reserved.segment);
  built = subst (IsBuiltIfAny d) (sym reserved.not_built) tt;
}

pub reserved_is_proper : reserved_drafts_are_proper
reserved_is_proper s new q r d order step =
    let ok = hosts_own (AnswersAnything s (events.Reserve q r) (events.Reserved d)) s.trusted step.1 in
    let pages = both_zeroed d.data_pages d.chain_pages ok.1.zero in
    record {
      request = subst FitsRequest (sym ok.1.request) step.0;
      data_pages = pages.0;
      chain_pages = pages.1;
      draft = reserved_draft s q r d order (reserved_is_good s q r ok.0) ok.1;
    }

-- Collected commands

-- beside a record whose pages are not out, the ones that are
out_beside : (p q cid : ℕ) (rs : List Record) (r : Record) → find (is_at q cid) rs ≡ Some r → is_out r.phase ≡ false
    → total (taken p) rs + in_record p r ≤ total (in_record p) rs
out_beside p q cid [] r e stays = absurd cc
out_beside p q cid (x ∷ rs) r e stays = by_match (is_at q cid x) e (λ e. out_beside p q cid rs r e stays)
  where
    one_record : (b : Bool) → (if b then in_record p x else 0) ≤ in_record p x
    one_record b = grind arith

    by_match : (b : Bool) → (if b then Some x else find (is_at q cid) rs) ≡ Some r → (find (is_at q cid) rs ≡ Some r → total (taken p) rs + in_record p r ≤ total (in_record p) rs)
        → total (taken p) (x ∷ rs) + in_record p r ≤ total (in_record p) (x ∷ rs)
    by_match true e ih =
        let same : x ≡ r = cc in
        omega (arith, ap (taken p) same ∙ ap (λ (b : Bool). if b then in_record p r else 0) stays, ap (in_record p) same, taken_le p rs)
    by_match false e ih = omega (arith, ih e, one_record (is_out x.phase))

-- a page of a command whose pages are not out is in
page_in : (s : State) → IsSound s → (q cid : ℕ) (r : Record) → record_at s.host q cid ≡ Some r → is_out r.phase ≡ false
    → (p : ℕ) → is_among (pages_of r) p ≡ true → is_in s.memory p ≡ true
page_in s sound q cid r e stays p h =
    let nobody : total (taken p) s.host.records ≡ 0 = omega (arith, owned_once (length (in_store s.memory)) p s.host (holds_from_sound s sound), beside, has) in
    some_is (sym (in_is s.memory p inside) ∙ taken_from_out s sound.out p (omega (arith, inside, length-in_store s.memory)) ∙ ap Some (none_here (total (taken p) s.host.records) nobody))
  where
    has : 0 < in_record p r
    has = held_once p (pages_of r) h

    beside : total (taken p) s.host.records + in_record p r ≤ total (in_record p) s.host.records
    beside = out_beside p q cid s.host.records r e stays

    inside : p < length s.memory
    inside = at (nat_lt p (length (in_store s.memory))) refl
      where
        at : (b : Bool) → nat_lt p (length (in_store s.memory)) ≡ b → p < length s.memory
        at true l = omega (arith, ltb-true p (length (in_store s.memory)) l, length-in_store s.memory)
        at false l = absurd (omega (arith, ap one l, (holds_from_sound s sound).owner p, beside, has))

whole_bytes : (o : Option (List ℕ)) → is_some o ≡ true → IfSome o (λ page. length page ≡ 4096) → IsPage (option_map_or (λ bytes. bytes) o [])
whole_bytes None there whole = absurd (true≢false (sym there))
whole_bytes (Some bytes) there whole = whole

-- pages that are in, with their bytes
whole_pages : (m : Pages) (pages : List ℕ) → AreWhole m → ((p : ℕ) → is_among pages p ≡ true → is_in m p ≡ true) → ArePages (pages_with_bytes m pages)
whole_pages m [] whole there = All-nil (λ (page : ℕ × List ℕ). IsPage page.1)
whole_pages m (k ∷ pages) whole there =
    All-cons (λ (page : ℕ × List ℕ). IsPage page.1) (k, option_map_or (λ bytes. bytes) (page_at m k) []) (pages_with_bytes m pages)
    (whole_bytes (page_at m k) (there k (ap (λ (b : Bool). b || is_among pages k) (eq-eqb k k refl))) (whole k))
    (whole_pages m pages whole (λ p h. there p (among_right p (k ∷ []) pages h)))

-- a collected command has the pages of its record, with their bytes
collected_pages : (s : State) (r : Record) (f : FinishedContents) → finished_from s r ≡ Some f
    → ArePages (pages_with_bytes s.memory r.data_pages) × ArePages (pages_with_bytes s.memory r.chain_pages) → ArePages f.data_pages × ArePages f.chain_pages
collected_pages s r f e pages = asks (asked_by r.work) e
  where
    contents : Request → Status → FinishedContents
    contents asked st = record {
      q = r.q;
      cid = r.cid;
      request = asked;
      status = st;
      hints = r.hints;
      data_pages = pages_with_bytes s.memory r.data_pages;
      chain_pages = pages_with_bytes s.memory r.chain_pages;
    }

    ended : (asked : Request) (o : Option Status) → option_map (contents asked) o ≡ Some f → ArePages f.data_pages × ArePages f.chain_pages
    ended asked None e = absurd cc
    ended asked (Some st) e =
        let same : contents asked st ≡ f = cc in
        subst (λ (x : FinishedContents). ArePages x.data_pages × ArePages x.chain_pages) same pages

    asks : (o : Option Request) → option_and_then (λ asked. option_map (contents asked) r.status) o ≡ Some f → ArePages f.data_pages × ArePages f.chain_pages
    asks None e = absurd cc
    asks (Some asked) e = ended asked r.status e

pub collected_is_proper : collected_commands_are_proper
collected_is_proper s new q cid f order step =
    let ok = hosts_own (AnswersAnything s (events.Collect q cid) (events.Collects f)) s.trusted step.1 in
    let waits = record_is (λ r. is_submitted r.phase || is_held r.phase) s q cid in
    let there = found (λ r. is_submitted r.phase || is_held r.phase) s q cid
    (not-false waits (first_fails (not waits) refusal.Stranger ((record_is (λ r. is_submitted r.phase) s q cid, refusal.NotYet) ∷ []) ok.0)) in
    let r = there.0 in
    let stays = page_in s order.sound q cid r there.1 (grind arith) in
    collected_pages s r f (ap (option_and_then (finished_from s)) (sym there.1) ∙ ok.1)
    (whole_pages s.memory r.data_pages order.whole (λ p h. stays p (data_of r p h)), whole_pages s.memory r.chain_pages order.whole (λ p h. stays p (chain_of r p h)))
