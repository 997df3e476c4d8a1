-- Records and jobs are those of commands that were reserved and fetched.
use Rattle.machine_model.specs.After as a
use Rattle.machine_model.specs.Events as events
use Rattle.std.proofs.Common.{◌≡◌, ℕ, zero, suc, ◌+◌, ◌≤◌, ◌==◌, Bool, true, false, ◌&&◌, Option, Some, None, is_none, List, [], ◌∷◌, ◌++◌, length, take, replicate, nat_eq, if◌then◌else◌, refl, ap, sym, ◌∙◌, arith, subst, eqb-true, eq-eqb, inl, inr, slice_get}
use Rattle.std.proofs.lemmas.{Bool.{true≢false, and_parts, or_left, or_right, cases_Bool}, List.{length-replicate, Elements.{All-head, All-tail}}}
use Rattle.std.specs.{Cmp.Lexicographic.pointwise, List.AllByRecursion, Option.option_map_or}
use Rattle.page_ledger.specs.Owners.{is_among}
use Rattle.page_memory.specs.Pages.{Pages, page_at}
use Rattle.sgl_descriptor.{proofs.Counts.length-targets, specs.{Spelling.{spelling, descriptor_of}, Targets.{Target, Place, targets}}}
use Rattle.sgl_descriptor.specs.declared.{Direction.{Direction, TheVariants.{Destination, Source}}, Part.Part}
use Rattle.controller_walk.{proofs.Along.{list_moves_along, list_moves_all}, specs.{Along.{taken, MovesByte}, Laws.after_units}}
use Rattle.controller_walk.specs.{Units.{units, Act, Course, Closes, Does}, Walks.answer}
use Rattle.entry_codec.specs.{Status.is_success, declared.status.Status.Status}
use Rattle.entry_codec.specs.declared.submission.SubEntry.{SubEntry}
use Rattle.io_commands.specs.{Asked.Request, DataBytes.{PagesOut, gathered}, Drafts.DraftContents}
use Rattle.io_commands.specs.Jobs.{need_of_entry, direction_of_entry, verdict_of, io_fault, bytes_after_check, kind_of_opcode}
use Rattle.io_commands.specs.{Requests.{direction_of, parts_of}, Values.numbers_of}
use Rattle.machine_model.proofs.{Cases.none_some, Counting.held_once, HostLeaves.ids_of, Moves.{draft_found, draft_lives, posts, posted_is}}
use Rattle.machine_model.{proofs.{Owned.in_record, Steps.{Accepts, pages_match, same_lists}}, specs.{After.course_of, Events.{Event, Reply}}}
use Rattle.machine_model.specs.{Image.{draft_of, submitted_by}, Memory.{with_pages, memory_of}, Proper.{IsProper, IsPage, ArePages}}
use Rattle.machine_model.specs.Refusals.{is_submitted, is_drafted, refusal_of, is_of, asks_for}
use Rattle.machine_model.specs.{State.{State, Record, Job, record_at, pages_of, with_record}, Weights.{one, total, sent}, Work.Work}
use Rattle.machine_model.specs.declared.words.Work.TheVariants.{Io, Management}
use Rattle.two_sides.proofs.{Commands.{walk_writes_to, submitted_pages}, JobLaws.stay_after as lists_stay, PlacesKept.drafted_not}
use Rattle.two_sides.proofs.Provided.{In, sent_found, in_at}
use Rattle.two_sides.proofs.Served.{requests_same, entry_direction, Stood, counts_sent, data_of, good_is, JobList, job_list, same_list, course_in, CourseWhole, course_whole}
use Rattle.two_sides.proofs.{TiedAll.Grounds, Untouched.{owned_once, untouched}}
use Rattle.two_sides.proofs.Standing.{io_other}
use Rattle.run_laws.proofs.Carrying.{carried, did, carried_more, carried_same, MovesTo, moves_to, carried_length, carried_byte, Stands, Gathers, IsPlace, gathers_pieces, all_stand, none_discarded, source_places}
use Rattle.run_laws.proofs.KnownKinds.{list_moves, opcode_had}
use Rattle.run_laws.proofs.{Causes.goes_well, Moves.{RecordsMove, records_event, JobsMove, jobs_event, walked_bytes}}
use Rattle.page_memory.proofs.Lists.{all-at, all-found, some_is, all-front}

-- What is known of source commands: their data pages hold what their drafts gathered, and their jobs carry it.

-- What is known

-- a submitted command's latest draft has its request and its pages, and a source's data pages hold the draft's bytes
pub record OfDraft (drafts : List DraftContents) (m : Pages) (r : Record) (request : Request) : Type 0 where
  pub draft : DraftContents
  pub latest : draft_of r.q r.cid drafts ≡ Some draft
  pub asked : draft.request ≡ request
  pub pages : numbers_of draft.data_pages ≡ r.data_pages
  pub stand : direction_of request.kind ≡ Source → AllByRecursion (Stands m) draft.data_pages

abbrev pub OfDraftIfIo : List DraftContents → Pages → Record → Work → Type 0
OfDraftIfIo drafts m r (Io request) = OfDraft drafts m r request
OfDraftIfIo drafts m r (Management adm) = Unit {0}

abbrev pub RecordKnown : List DraftContents → Pages → Record → Type 0
RecordKnown drafts m r = is_submitted r.phase ≡ true → OfDraftIfIo drafts m r r.work

-- a source's job that goes well is of an opcode that the controller has, and has carried what its units so far move, and with a verdict all of it
pub record Carries (s : State) (j : Job) : Type 0 where
  pub known : is_none (kind_of_opcode j.entry.opcode) ≡ false
  pub bytes : j.bytes ≡ carried s.memory (take j.units_done (units (course_of s j))) (replicate (need_of_entry j.entry) 0)
  pub over : (st : Status) → j.verdict ≡ Some st → length (units (course_of s j)) ≤ j.units_done

abbrev pub JobKnown : State → Job → Type 0
JobKnown s j = (j.q == 0) ≡ false → direction_of_entry j.entry ≡ Source → goes_well j.verdict ≡ true → Carries s j

pub record Known (drafts : List DraftContents) (s : State) : Type 0 where
  pub records : AllByRecursion (RecordKnown drafts s.memory) s.host.records
  pub jobs : AllByRecursion (JobKnown s) s.controller.jobs
  pub no_admin : (cid : ℕ) → draft_of 0 cid drafts ≡ None

-- Data pages of a submitted source command stay

abbrev pub is_source : Direction → Bool
is_source Source = true
is_source Destination = false

abbrev pub asks_source : Work → Bool
asks_source (Io request) = is_source (direction_of request.kind)
asks_source (Management adm) = false

pub source_asks : (r : Record) (request : Request) → r.work ≡ Io request → direction_of request.kind ≡ Source → asks_source r.work ≡ true
source_asks r request w d = ap asks_source w ∙ ap is_source d

-- a walk to a destination writes on no source's pages
other_pages : (s : State) → Grounds s → (r r' : Record) → In r s.host.records → In r' s.host.records → asks_source r.work ≡ true → asks_source r'.work ≡ false → (p : ℕ) → is_among r.data_pages p ≡ true → is_among r'.data_pages p ≡ false
other_pages s g r r' within within' src far p own = elim (cases_Bool (is_among r'.data_pages p)) [
  | inl e ↦
      let a : in_record p r ≤ total (λ x. if asks_source x.work then in_record p x else 0) s.host.records =
      subst (λ (b : Bool). (if b then in_record p r else 0) ≤ total (λ x. if asks_source x.work then in_record p x else 0) s.host.records) src (within (λ x. if asks_source x.work then in_record p x else 0)) in
      let b : in_record p r' ≤ total (λ x. if asks_source x.work then 0 else in_record p x) s.host.records =
      subst (λ (b : Bool). (if b then 0 else in_record p r') ≤ total (λ x. if asks_source x.work then 0 else in_record p x) s.host.records) far (within' (λ x. if asks_source x.work then 0 else in_record p x)) in
      absurd (omega (arith, a, b, both s.host.records, owned_once _ p s.host g.stands.0, held_once p (pages_of r) (data_of r p own), held_once p (pages_of r') (data_of r' p e)))
  | inr e ↦ e
]
  where
    both : (rs : List Record) → total (λ x. if asks_source x.work then in_record p x else 0) rs + total (λ x. if asks_source x.work then 0 else in_record p x) rs ≡ total (in_record p) rs
    both [] = refl
    both (x ∷ rs) = grind (arith, both rs, in_record)

source_walk : (s : State) (q cid : ℕ) → refusal_of s (events.Walk q cid) ≡ None → Stood s → (r : Record) → In r s.host.records → asks_source r.work ≡ true → (p : ℕ) → is_among r.data_pages p ≡ true
    → page_at (a.after_walk q cid s).memory p ≡ page_at s.memory p
source_walk s q cid none stood r within src p own = grind (arith, walk_writes_to, other_pages, entry_direction)

pub source_stays : (s : State) (e : Event) (reply : Reply) → Accepts s e reply → Stood s → (r : Record) → In r s.host.records → is_submitted r.phase ≡ true → asks_source r.work ≡ true → (p : ℕ) → is_among r.data_pages p ≡ true
    → page_at (a.after s e reply).memory p ≡ page_at s.memory p
source_stays s e (events.Refused why touched) ok stood r within sub src p own = refl
source_stays s (events.Walk q cid) reply ok stood r within sub src p own = source_walk s q cid ok.0 stood r within src p own
source_stays s e reply ok stood r within sub src p own = untouched s e reply ok refl stood.grounds p (counts_sent s r within sub p (data_of r p own))

-- Records

pub stand_still : (m m' : Pages) (own : List ℕ) → ((p : ℕ) → is_among own p ≡ true → page_at m' p ≡ page_at m p) → (pages : PagesOut) → ((p : ℕ) → is_among (numbers_of pages) p ≡ true → is_among own p ≡ true)
    → AllByRecursion (Stands m) pages → AllByRecursion (Stands m') pages
stand_still m m' own same [] sub h = tt
stand_still m m' own same (page ∷ pages) sub h = (
  (same page.0 (sub page.0 (or_left (page.0 == page.0) (is_among (numbers_of pages) page.0) (eq-eqb page.0 page.0 refl))) ∙ h.0.0, h.0.1),
  stand_still m m' own same pages (λ p x. sub p (or_right (page.0 == p) (is_among (numbers_of pages) p) x)) h.1,
)

-- where the identifier is not one that was just submitted, its latest draft stays
pub same_draft : (s : State) (e : Event) (reply : Reply) (drafts : List DraftContents) (q cid : ℕ) → ((d : DraftContents) → e ≡ events.Submit d → ((d.q == q) && (d.cid == cid)) ≡ false)
    → draft_of q cid (submitted_by e reply ++ drafts) ≡ draft_of q cid drafts
same_draft s e reply drafts q cid far = grind arith

-- the record of a draft that is submitted, and that no submitted command has its identifier
pub unsent : (s : State) (d : DraftContents) → Grounds s → (r : Record) → record_at s.host d.q d.cid ≡ Some r → is_submitted r.phase ≡ false → total (sent d.q (λ n. one (n == d.cid))) s.host.records ≡ 0
unsent s d g r at quiet = count (total (sent d.q (λ n. one (n == d.cid))) s.host.records) refl
  where
    count : (n : ℕ) → total (sent d.q (λ n. one (n == d.cid))) s.host.records ≡ n → n ≡ 0
    count zero e = refl
    count (suc n) e =
        let x = sent_found d.q d.cid s.host.records (omega (arith, e)) (g.stands.0.once d.q d.cid) in
        let same : x.0 ≡ r = cc (x.1, at) in
        absurd (true≢false (sym x.2 ∙ ap (λ (y : Record). is_submitted y.phase) same ∙ quiet))

pub submit_record : (s : State) (d : DraftContents) → refusal_of s (events.Submit d) ≡ None
    → (r : Record) × (record_at s.host d.q d.cid ≡ Some r) × (is_of is_drafted d.request (numbers_of d.data_pages) (numbers_of d.chain_pages) r ≡ true)
submit_record s d none = let x = draft_found s d none in (x.0, x.1.found, x.1.is)

-- so another submitted command's identifier is not the draft's
other_draft : (s : State) (e : Event) (reply : Reply) → Accepts s e reply → Grounds s → (r : Record) → In r s.host.records → is_submitted r.phase ≡ true → (d : DraftContents) → e ≡ events.Submit d → ((d.q == r.q) && (d.cid == r.cid)) ≡ false
other_draft s (events.Submit d') reply ok g r within sub d is = elim (cases_Bool ((d.q == r.q) && (d.cid == r.cid))) [
  | inl e ↦
      let ids = and_parts (d.q == r.q) (d.cid == r.cid) e in
      let x = submit_record s d (subst (λ (x : DraftContents). refusal_of s (events.Submit x) ≡ None) same ok.0) in
      let quiet = drafted_not x.0.phase (pages_match is_drafted d.request d.data_pages d.chain_pages x.0 x.2).1 in
      let counts : sent d.q (λ n. one (n == d.cid)) r ≡ 1 = rw (eq-eqb r.q d.q (sym (eqb-true d.q r.q ids.0)), sub, eq-eqb r.cid d.cid (sym (eqb-true d.cid r.cid ids.1))) refl in
      absurd (omega (arith, within (sent d.q (λ n. one (n == d.cid))), counts, unsent s d g x.0 x.1 quiet))
  | inr e ↦ e
]
  where
    same : d' ≡ d
    same = grind arith
other_draft s e reply ok g r within sub d is = absurd (cc)

all_pages : (m : Pages) (pages : PagesOut) → ArePages pages → AllByRecursion (λ (page : ℕ × List ℕ). page_at m page.0 ≡ Some page.1) pages → AllByRecursion (Stands m) pages
all_pages m [] whole h = tt
all_pages m (page ∷ pages) whole h = ((h.0, All-head (λ (page : ℕ × List ℕ). IsPage page.1) page pages whole), all_pages m pages (All-tail (λ (page : ℕ × List ℕ). IsPage page.1) page pages whole) h.1)

-- the data pages of a draft that is submitted are in the store
pub submitted_stand : (s : State) (d : DraftContents) (entry : SubEntry) → refusal_of s (events.Submit d) ≡ None → ArePages d.data_pages → Grounds s
    → AllByRecursion (Stands (a.posted d.q entry (a.on_records (with_record d.q d.cid a.submitted) (a.on_memory (with_pages (d.data_pages ++ d.chain_pages)) s))).memory) d.data_pages
submitted_stand s d entry none whole g =
    let x = draft_found s d none in
    all_pages (a.posted d.q entry (a.on_records (with_record d.q d.cid a.submitted) (a.on_memory (with_pages (d.data_pages ++ d.chain_pages)) s))).memory d.data_pages whole
    (subst (λ (t : State). AllByRecursion (λ (page : ℕ × List ℕ). page_at t.memory page.0 ≡ Some page.1) d.data_pages) (posted_is d.q entry (a.on_records (with_record d.q d.cid a.submitted) (a.on_memory (with_pages (d.data_pages ++ d.chain_pages)) s)))
    (all-front (λ (page : ℕ × List ℕ). page_at (posts d.q entry (a.on_records (with_record d.q d.cid a.submitted) (a.on_memory (with_pages (d.data_pages ++ d.chain_pages)) s))).memory page.0 ≡ Some page.1) d.data_pages d.chain_pages
    (submitted_pages s d entry x.0 x.1 (draft_lives s d none) g)))

pub records_known : (drafts : List DraftContents) (s : State) (e : Event) (reply : Reply) → IsProper e → Accepts s e reply → Stood s
    → RecordsMove (RecordKnown drafts s.memory) (RecordKnown (submitted_by e reply ++ drafts) (a.after s e reply).memory) s e
records_known drafts s e reply proper ok stood = record {
  stays = λ r within far known sub. kept r within sub r.work refl (known sub);
  reserves = λ d sub. absurd (true≢false (sym sub));
  sends = λ adm id sub. tt;
  submits = λ d entry r is built at fits known sub.
      subst (λ (x : Event). IsProper x → Accepts s x reply → OfDraftIfIo (submitted_by x reply ++ drafts) (a.after s x reply).memory (a.submitted r) r.work) (sym is)
      (λ pr ac. new d reply pr ac entry r built at fits r.work refl) proper ok;
  reaps = λ q cid st entry request r is seen n x at w known sub. absurd (true≢false (sym sub));
  loses = λ r within held far known sub. absurd (true≢false (sym sub));
  collects = λ r known sub. absurd (true≢false (sym sub));
}
  where
    kept : (r : Record) → In r s.host.records → is_submitted r.phase ≡ true → (w : Work) → r.work ≡ w → OfDraftIfIo drafts s.memory r w → OfDraftIfIo (submitted_by e reply ++ drafts) (a.after s e reply).memory r w
    kept r within sub (Management adm) w h = tt
    kept r within sub (Io request) w h = record {
      draft = h.draft;
      latest = same_draft s e reply drafts r.q r.cid (other_draft s e reply ok stood.grounds r within sub) ∙ h.latest;
      asked = h.asked;
      pages = h.pages;
      stand = λ d. stand_still s.memory (a.after s e reply).memory r.data_pages (source_stays s e reply ok stood r within sub (source_asks r request w d)) h.draft.data_pages
          (λ p x. ap (λ (xs : List ℕ). is_among xs p) (sym h.pages) ∙ x) (h.stand d);
    }

    new : (d : DraftContents) (reply : Reply) → IsProper (events.Submit d) → Accepts s (events.Submit d) reply → (entry : SubEntry) (r : Record) → d.entry ≡ Some entry → record_at s.host d.q d.cid ≡ Some r
        → is_of is_drafted d.request (numbers_of d.data_pages) (numbers_of d.chain_pages) r ≡ true → (w : Work) → r.work ≡ w → OfDraftIfIo (submitted_by (events.Submit d) reply ++ drafts) (a.after s (events.Submit d) reply).memory (a.submitted r) w
    new d events.Accepted proper ok entry r built at fits (Management adm) w = tt
    new d events.Accepted proper ok entry r built at fits (Io request) w =
        let both : ((is_drafted r.phase && asks_for d.request r.work) ≡ true) × (pointwise nat_eq (numbers_of d.data_pages) r.data_pages ≡ true) = grind arith in
        let ids = ids_of s d.q d.cid r at in
        record {
          draft = d;
          latest = rw (ids.0, ids.1) (rw (eq-eqb d.q d.q refl, eq-eqb d.cid d.cid refl) refl);
          asked = requests_same d.request request (ap (asks_for d.request) (sym w) ∙ (and_parts (is_drafted r.phase) (asks_for d.request r.work) both.0).1);
          pages = (same_lists (numbers_of d.data_pages) r.data_pages both.1);
          stand = λ dir. subst (λ (o : Option SubEntry). AllByRecursion (Stands (option_map_or (λ entry. a.posted d.q entry (a.on_records (with_record d.q d.cid a.submitted) (a.on_memory (with_pages (d.data_pages ++ d.chain_pages)) s))) o s).memory) d.data_pages) (sym built)
              (submitted_stand s d entry ok.0 proper.data_pages stood.grounds);
        }
    new d reply proper ok entry r built at fits w w' = absurd ok.1

-- Each event keeps what is known of source commands, and a source's job that went well has its draft's bytes.

-- The jobs of sources

pub source_request : (s : State) (j : Job) (l : JobList s j) → direction_of_entry j.entry ≡ Source → direction_of l.request.kind ≡ Source
source_request s j l dir = sym (entry_direction l.command.cid l.request (spelling l.list.first) l.sized.blocks) ∙ ap direction_of_entry (sym l.entry) ∙ dir

pub course_stays : (s : State) (e : Event) (reply : Reply) → Accepts s e reply → Stood s → (j : Job) (l : JobList s j) → course_of (a.after s e reply) j ≡ course_of s j
course_stays s e reply ok stood j l =
    let stay = lists_stay s e reply ok stood in
    same_list s (a.after s e reply) stood j l (stay.chains l.command l.within l.phase) (stay.own l.command l.within l.phase)

-- what this many units carry is the same after the event
still_carried : (s : State) (e : Event) (reply : Reply) → Accepts s e reply → Stood s → (j : Job) (l : JobList s j) → direction_of_entry j.entry ≡ Source → (t : ℕ) (bytes : List ℕ)
    → carried (a.after s e reply).memory (take t (units (course_of (a.after s e reply) j))) bytes ≡ carried s.memory (take t (units (course_of s j))) bytes
still_carried s e reply ok stood j l dir t bytes =
    ap (λ (c : Course). carried (a.after s e reply).memory (take t (units c)) bytes) (course_stays s e reply ok stood j l)
    ∙ carried_same l.command.chain_pages l.command.data_pages s.memory (a.after s e reply).memory
    (source_stays s e reply ok stood l.command l.within l.phase (source_asks l.command l.request l.work (source_request s j l dir))) (course_of s j) t bytes (course_in s j l)

pub fault_fails : (blocks : ℕ) (e : SubEntry) (st : Status) → io_fault blocks e ≡ Some st → is_success st ≡ false
fault_fails blocks e st h = grind (arith, some_is)

-- a job that has its verdict from a walk has done all its units
pub over_units : (k : ℕ) (c : Course) (st : Status) → verdict_of (answer (after_units k c)) ≡ Some st → length (units c) ≤ k
over_units zero (Does x rest) st h = absurd cc
over_units (suc k) (Does x rest) st h = omega (arith, over_units k rest st h)
over_units k (Closes v) st h = omega arith

begun_carries : (t : State) (image : List ℕ) (blocks q : ℕ) (e : SubEntry) → direction_of_entry e ≡ Source → (o : Option Status) → io_fault blocks e ≡ o → goes_well o ≡ true
    → Carries t (a.new_job q e o 0 (bytes_after_check image e o))
begun_carries t image blocks q e dir (Some st) f well = absurd (true≢false (sym well ∙ fault_fails blocks e st f))
begun_carries t image blocks q e dir None f well = record { known = opcode_had blocks e f; bytes = (grind arith); over = λ st v. absurd (none_some v) }

is_did : (s : State) (j : Job) (act : Act) → walked_bytes s j Source act ≡ did s.memory act j.bytes
is_did s j act = grind arith

pub jobs_known : (s : State) (e : Event) (reply : Reply) → Accepts s e reply → Stood s → JobsMove (JobKnown s) (JobKnown (a.after s e reply)) s e
jobs_known s e reply ok stood = record {
  stays = λ k j at far known other dir well.
      let c = known other dir well in
      let l = job_list s stood j (in_at s.controller.jobs k j at) other (λ P all. all-at P s.controller.jobs k j at all) in
      record {
        known = c.known;
        bytes = c.bytes ∙ sym (still_carried s e reply ok stood j l dir j.units_done (replicate (need_of_entry j.entry) 0));
        over = λ st v. subst (λ (x : Course). length (units x) ≤ j.units_done) (sym (course_stays s e reply ok stood j l)) (c.over st v);
      };
  fails = λ k j st waiting at far lost none known other dir well. absurd (true≢false (sym well ∙ lost));
  manages = λ entry st dw0 is next free other. absurd (true≢false other);
  begins = λ q entry is next not0 free other dir well. begun_carries (a.after s e reply) s.controller.image (a.image_blocks s) q entry dir (io_fault (a.image_blocks s) entry) refl well;
  walks = λ q cid j act is w u known other dir well.
      let c = known other dir (ap goes_well w.verdict) in
      record {
        known = c.known;
        bytes = ap (λ (d : Direction). walked_bytes s j d act) dir ∙ is_did s j act ∙ ap (did s.memory act) c.bytes
            ∙ sym (carried_more s.memory (units (course_of s j)) j.units_done act (replicate (need_of_entry j.entry) 0) u)
            ∙ sym (still_carried s e reply ok stood j w.list dir (j.units_done + 1) (replicate (need_of_entry j.entry) 0));
        over = λ st v. subst (λ (x : Course). length (units x) ≤ j.units_done + 1) (sym (course_stays s e reply ok stood j w.list)) (over_units (j.units_done + 1) (course_of s j) st v);
      };
}

-- Every event

-- the work of a record that a draft fits is its request
asked_work : (request : Request) (w : Work) → asks_for request w ≡ true → (r : Request) × (w ≡ Io r)
asked_work request (Io r) asks = (r, refl)
asked_work request (Management a) asks = absurd (true≢false (sym asks))

fits_work : (d : DraftContents) (r : Record) → is_of is_drafted d.request (numbers_of d.data_pages) (numbers_of d.chain_pages) r ≡ true → asks_for d.request r.work ≡ true
fits_work d r is =
    let abc_d = and_parts (is_drafted r.phase && asks_for d.request r.work && pointwise nat_eq (numbers_of d.data_pages) r.data_pages) (pointwise nat_eq (numbers_of d.chain_pages) r.chain_pages) is in
    let ab_c = and_parts (is_drafted r.phase && asks_for d.request r.work) (pointwise nat_eq (numbers_of d.data_pages) r.data_pages) abc_d.0 in
    (and_parts (is_drafted r.phase) (asks_for d.request r.work) ab_c.0).1

-- no draft is of queue 0
drafts_elsewhere : (s : State) (e : Event) (reply : Reply) → Accepts s e reply → Stood s → (d : DraftContents) → e ≡ events.Submit d → (d.q == 0) ≡ false
drafts_elsewhere s e reply ok stood d is =
    let x = submit_record s d (subst (λ (x : Event). refusal_of s x ≡ None) is ok.0) in
    let io = asked_work d.request x.0.work (fits_work d x.0 x.2) in
    io_other s d.q d.cid x.0 io.0 stood.grounds.modelled stood.grounds.stands.0 x.1 io.1

pub known_on : (drafts : List DraftContents) (s : State) (e : Event) (reply : Reply) → IsProper e → Accepts s e reply → Stood s → Known drafts s → Known (submitted_by e reply ++ drafts) (a.after s e reply)
known_on drafts s e reply proper ok stood h = record {
  records = records_event (RecordKnown drafts s.memory) (RecordKnown (submitted_by e reply ++ drafts) (a.after s e reply).memory) s e reply (records_known drafts s e reply proper ok stood) ok stood.grounds h.records;
  jobs = jobs_event (JobKnown s) (JobKnown (a.after s e reply)) s e reply (jobs_known s e reply ok stood) ok stood h.jobs;
  no_admin = λ cid. same_draft s e reply drafts 0 cid (λ d is. ap (λ (b : Bool). b && (d.cid == cid)) (drafts_elsewhere s e reply ok stood d is)) ∙ h.no_admin cid;
}

-- What a job has carried in the end

pub page_found : (m : Pages) (pages : PagesOut) → AllByRecursion (Stands m) pages → (p : ℕ) → is_among (numbers_of pages) p ≡ true → (page : List ℕ) × (page_at m p ≡ Some page) × (length page ≡ 4096)
page_found m [] h p e = absurd (true≢false (sym e))
page_found m (page ∷ pages) h p e = grind (arith, page_found m pages, eqb-true)

take_all : {A : Type 0} (xs : List A) (k : ℕ) → length xs ≤ k → take k xs ≡ xs
take_all [] zero h = refl
take_all [] (suc k) h = refl
take_all (x ∷ xs) zero h = absurd (omega (arith, h))
take_all (x ∷ xs) (suc k) h = ap (λ ys. x ∷ ys) (take_all xs k (omega (arith, h)))

pub all_carried : (s : State) → Stood s → (j : Job) (l : JobList s j) → direction_of_entry j.entry ≡ Source → (pages : PagesOut) → numbers_of pages ≡ l.command.data_pages → AllByRecursion (Stands s.memory) pages
    → (st : Status) → j.verdict ≡ Some st → Carries s j → j.bytes ≡ gathered l.request.pieces pages
all_carried s stood j l dir pages numbers stand st v c =
    let parts : List Part = parts_of l.request.pieces l.command.data_pages in
    let start : length {A = ℕ} (replicate (need_of_entry j.entry) 0) ≡ length (targets (direction_of_entry j.entry) (parts_of l.request.pieces l.command.data_pages)) =
    length-replicate (need_of_entry j.entry) 0 ∙ sym whole.counts ∙ sym (length-targets (direction_of_entry j.entry) (parts_of l.request.pieces l.command.data_pages)) in
    let long : length (carried s.memory (units (course_of s j)) (replicate (need_of_entry j.entry) 0)) ≡ length (targets (direction_of_entry j.entry) (parts_of l.request.pieces l.command.data_pages)) =
    carried_length s.memory (targets (direction_of_entry j.entry) (parts_of l.request.pieces l.command.data_pages)) (course_of s j) (replicate (need_of_entry j.entry) 0) to start in
    c.bytes ∙ ap (λ (us : List Act). carried s.memory us (replicate (need_of_entry j.entry) 0)) (take_all (units (course_of s j)) j.units_done (c.over st v))
    ∙ sym (none_discarded (targets (direction_of_entry j.entry) parts) (carried s.memory (units (course_of s j)) (replicate (need_of_entry j.entry) 0))
    (subst (λ (d : Direction). AllByRecursion IsPlace (targets d parts)) (sym dir) (source_places parts)) long)
    ∙ all_stand s.memory (targets (direction_of_entry j.entry) parts) (gathered l.request.pieces pages) (carried s.memory (units (course_of s j)) (replicate (need_of_entry j.entry) 0))
    (subst (λ (ns : List ℕ). Gathers' ns) numbers (gathers_pieces s.memory (direction_of_entry j.entry) l.request.pieces pages (good_is l.request l.sized.good).crosses stand))
    long (λ i p x target is. carried_byte s.memory (targets (direction_of_entry j.entry) parts) i p x target is (course_of s j) (replicate (need_of_entry j.entry) 0) to start (inl (all i p target)))
  where
    Gathers' : List ℕ → Type 0
    Gathers' ns = Gathers s.memory (targets (direction_of_entry j.entry) (parts_of l.request.pieces ns)) (gathered l.request.pieces pages)

    whole : CourseWhole s j (parts_of l.request.pieces l.command.data_pages)
    whole = course_whole s stood j l (list_moves s j l c.known)

    to : MovesTo s.memory (targets (direction_of_entry j.entry) (parts_of l.request.pieces l.command.data_pages)) (course_of s j)
    to = moves_to s.memory (memory_of s.memory) (direction_of_entry j.entry) (need_of_entry j.entry) l.command.chain_pages l.command.data_pages (targets (direction_of_entry j.entry) (parts_of l.request.pieces l.command.data_pages))
        (λ p own. page_found s.memory pages stand p (ap (λ (ns : List ℕ). is_among ns p) numbers ∙ own)) (course_of s j) (taken (direction_of_entry j.entry) (need_of_entry j.entry) [] (descriptor_of j.entry.sgl1))
        (list_moves_along (memory_of s.memory) j.entry.sgl1 (direction_of_entry j.entry) (need_of_entry j.entry)) whole.takes (course_in s j l)

    all : (i p : ℕ) → slice_get (targets (direction_of_entry j.entry) (parts_of l.request.pieces l.command.data_pages)) i ≡ Some (Place p) → MovesByte i (course_of s j)
    all i p target =
        list_moves_all (memory_of s.memory) j.entry.sgl1 (direction_of_entry j.entry) (need_of_entry j.entry) whole.ends i p
        (ap (λ (ts : List Target). slice_get ts i) whole.takes ∙ target)
