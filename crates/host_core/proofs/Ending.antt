-- Commands that are collected, released and cancelled.
use Rattle.machine_model.specs.Events as events
use Rattle.host_core.specs.Rows as declared
use Rattle.machine_model.specs.declared.words.Refusal.TheVariants as refusal
use Rattle.std.proofs.Common.{◌≡◌, ℕ, ◌≤◌, Bool, List, Some, length, slice_get, refl, ap, sym, ◌∙◌, subst, true, false, None, find, option_and_then, if◌then◌else◌, zero, suc, ◌==◌, Option, [], ◌∷◌, ◌++◌, slice_set, is_some, ap₂, arith, length-append, eqb-true, ◌<◌, not, ◌||◌, take, drop, get_or, length-set, inl, inr}
use Rattle.std.proofs.lemmas.{Bool.{true≢false, and_parts, not-true, not-false}, List.{length-map, map-append, take_at, drop_at}}
use Rattle.std.{specs.{List.AllByRecursion, Option.{option_map_or}}}
use Rattle.machine_model.proofs.{Counting.{total, here}, Owned.{is_out, holds_from_sound}}
use Rattle.machine_model.proofs.Steps.{length-without_pages, found_all, length-with_pages, first_fails, found, pages_match}
use Rattle.machine_model.specs.{After.{change, after_collect, collected, after_end}, Claims.is_away, Events.{Event, Reply}}
use Rattle.machine_model.specs.{Memory.{is_in, without_pages, with_pages}, Proper.{IsProper, IsProperDraft, ArePages}}
use Rattle.machine_model.specs.Refusals.{refusal_of, is_submitted, is_held, is_drafted, is_collected, is_of, record_is}
use Rattle.machine_model.specs.State.{State, HostQueue, Record, is_at, pages_of, with_record, without_record}
use Rattle.machine_model.specs.{Step.{Step, IsController, finished_from, Refuses, pages_with_bytes}, Work.Work, declared.words.Phase.Phase}
use Rattle.machine_model.specs.declared.words.{Phase.TheVariants.{Held, Drafted, Collected, Submitted}, Work.TheVariants.{Io, Management}}
use Rattle.page_ledger.specs.{Lists.ListsAll, Owners.{free_pages, is_among, is_command, is_owned_at, given_back}, declared.owner.Owner.Owner}
use Rattle.page_ledger.specs.declared.owner.{Owner.TheVariants.{Free, Command}, Role.TheVariants.{Data, Chain}}
use Rattle.page_memory.specs.Pages.{Pages, IsPool, page_at}
use Rattle.host_core.proofs.Lists.{length-change, map-change, change-same, all-filter_by, all-from}
use Rattle.host_core.proofs.PageOwners.{can-take, pool-without, record-in, set-other, without-append, can-put, pool-with, record-out, record-inside, owner-stays, times-at, command-pages, given-free}
use Rattle.host_core.proofs.{Outstanding.ids, QueueLists.{host_step, settled-with, Steps, steps}, RowRecords.{Marks, marked-claims, marked-records, marked-tells, claims_keep_queue, claims_keep_tells, each_claimed}}
use Rattle.host_core.{specs.{Collecting.{taken_pages, StandsAt}, Exact.Exactly}, proofs.Identifiers.{claim-less, sound-of, lent-of, settled-of}}
use Rattle.host_core.specs.Commands.{claims_changed, taken_out, CanTake, ended, without_claim, CanPut, Brings, Belongs, Claims, has_record, phase_of_end}
use Rattle.host_core.specs.{Rows.Queue, Tables.{Tables, state_of, host_queue_of}}
use Rattle.host_core.specs.Whole.{IsWhole, IsQueue, ClaimIdentifiers, TellsQueue, TellsCommand, IsRecord, FitsWork, FitsPhase}
use Rattle.io_commands.specs.{Asked.Request, DataBytes.PagesOut, Drafts.{DraftContents, IsDraft}, Requests.{data_count, FitsRequest}}
use Rattle.io_commands.specs.Values.{FinishedContents, IsGood, data_part, chain_part, numbers_of}
use Rattle.entry_codec.specs.declared.{hints.Hints.Hints, status.Status.Status}
use Rattle.slot_table.proofs.Rows.{option_is}
use Rattle.page_memory.proofs.Lists.{all-filter, found_is, found_at, found_any, all-to, all-front, all-back}

-- A call about one command: it moves pages, changes their owners and the records, and claims or frees an identifier.

abbrev pub moved : Tables → ℕ → (List Bool → List Bool) → Pages → List Owner → List Record → Tables
moved t q f pages owners records = record t { pages = pages; owners = owners; records = records; queues = change q (claims_changed f) t.queues }

-- the state that is due
abbrev pub due : State → Pages → List Owner → List Record → State
due s pages owners records = record s { memory = pages; host = record s.host { free = free_pages owners; records = records } }

-- the state that the tables stand for then
pub moved_is : (t : Tables) (q : ℕ) (f : List Bool → List Bool) (pages : Pages) (owners : List Owner) (records : List Record)
    → state_of (moved t q f pages owners records) ≡ due (state_of t) pages owners records
moved_is t q f pages owners records =
    ap (λ (hs : List HostQueue). record (due (state_of t) pages owners records) { host = record (due (state_of t) pages owners records).host { queues = hs } })
    (map-change host_queue_of (claims_changed f) (λ x. refl) q t.queues)

-- What such a call has to see to, so that the tables stay whole.
pub record Fits (t : Tables) (q : ℕ) (f : List Bool → List Bool) (pages : Pages) (owners : List Owner) (records : List Record) : Type 0 where
  pub pool : IsPool pages
  pub many : length pages ≡ length t.pages
  pub lent : length owners ≡ length t.owners
  pub size : (bits : List Bool) → length (f bits) ≡ length bits
  pub queues_told : (k : ℕ) (queue : Queue) → slice_get t.queues k ≡ Some queue → TellsQueue owners k queue
  pub commands_told : AllByRecursion (TellsCommand owners) records
  pub identifiers : ClaimIdentifiers records (change q (claims_changed f) t.queues)
  pub fit : AllByRecursion (IsRecord (length t.queues)) records

pub moved_whole : (t : Tables) (q : ℕ) (f : List Bool → List Bool) (pages : Pages) (owners : List Owner) (records : List Record) (e : Event) (reply : Reply)
    → IsWhole t → Fits t q f pages owners records → IsController e ≡ false → IsProper e → Exactly (state_of t) e reply
    (state_of (moved t q f pages owners records)) → Steps t e reply (moved t q f pages owners records)
moved_whole t q f pages owners records e reply whole fits c p exact =
    steps t (moved t q f pages owners records) e reply whole c p exact
    (settled-with t pages owners (change q (claims_changed f) t.queues) records (settled-of t whole)
    (record {
      pool = fits.pool;
      lent = fits.lent ∙ ((lent-of t whole) ∙ sym fits.many);
      many = length-change q (claims_changed f) t.queues;
      queues = record { each = each_claimed (IsQueue t.entries) f (claims_keep_queue f fits.size t.entries) q t.queues whole.host.rings.each };
      identifiers = fits.identifiers;
      owners = record { queues_told = each_claimed (TellsQueue owners) f (claims_keep_tells f owners) q t.queues fits.queues_told; commands_told = fits.commands_told };
      records = fits.fit;
    }))

-- A collection on the tables is the machine's, and leaves them whole.

fits-collected : (w : Work) (r : Record) → FitsWork w r → FitsWork w (collected r)
fits-collected (Io request) r is = is
fits-collected (Management kind) r is = tt

-- the pages of a command that is held
pub collect_can_take : (t : Tables) (q cid : ℕ) (r : Record) → IsWhole t → find (is_at q cid) t.records ≡ Some r → is_out r.phase ≡ false → CanTake (pages_of r) t.pages
collect_can_take t q cid r whole was stays =
    let at = found_at (is_at q cid) t.records r was in
    can-take (pages_of r) t.pages (record-in (state_of t) (sound-of t whole) at.0 r at.1 stays)

taken-due : (t : Tables) (q cid : ℕ) (r : Record) → find (is_at q cid) t.records ≡ Some r
    → after_collect q cid (state_of t) ≡ due (state_of t) (taken_out q cid (pages_of r) t).pages t.owners (taken_out q cid (pages_of r) t).records
taken-due t q cid r was = rw was refl

-- the queues are as they were
taken-moved : (t : Tables) (q cid : ℕ) (r : Record) → moved t q (λ claimed. claimed) (taken_out q cid (pages_of r) t).pages t.owners (taken_out q cid (pages_of r) t).records ≡ taken_out q cid (pages_of r) t
taken-moved t q cid r =
    ap (λ (queues : List declared.Queue). record (taken_out q cid (pages_of r) t) { queues = queues })
    (change-same (claims_changed (λ claimed. claimed)) (λ x. refl) q t.queues)

marks-collected : Marks collected
marks-collected = record { at = λ q cid r. refl; tells = λ owners r h. record { data_pages = h.data_pages; chain_pages = h.chain_pages } }

pub collected_step : (t : Tables) (q cid : ℕ) (r : Record) (f : FinishedContents) → IsWhole t → refusal_of (state_of t) (events.Collect q cid) ≡ None
    → find (is_at q cid) t.records ≡ Some r → finished_from (state_of t) r ≡ Some f → Steps t (events.Collect q cid) (events.Collects f) (taken_out q cid (pages_of r) t)
collected_step t q cid r f whole none was is =
    subst (λ (n : Tables). Steps t (events.Collect q cid) (events.Collects f) n) (taken-moved t q cid r)
    (moved_whole t q (λ claimed. claimed) (taken_out q cid (pages_of r) t).pages t.owners (taken_out q cid (pages_of r) t).records (events.Collect q cid) (events.Collects f) whole fits refl tt (
      none,
      ap (option_and_then (finished_from (state_of t))) was ∙ is,
      moved_is t q (λ claimed. claimed) (taken_out q cid (pages_of r) t).pages t.owners (taken_out q cid (pages_of r) t).records ∙ sym (taken-due t q cid r was),
    ))
  where
    fits : Fits t q (λ claimed. claimed) (taken_out q cid (pages_of r) t).pages t.owners (taken_out q cid (pages_of r) t).records
    fits = record {
      pool = pool-without (pages_of r) t.pages whole.over.pool;
      many = length-without_pages (pages_of r) t.pages;
      lent = refl;
      size = λ bits. refl;
      queues_told = whole.host.table.owners.queues_told;
      commands_told = marked-tells collected marks-collected t.owners t.records q cid whole.host.table.owners.commands_told;
      identifiers = rw (change-same (claims_changed (λ claimed. claimed)) (λ x. refl) q t.queues) (marked-claims collected marks-collected t.records t.queues q cid whole.host.table.identifiers);
      fit = marked-records collected (length t.queues) t.records q cid (λ x at is. record { queue = is.queue; work = fits-collected x.work x is.work; phase = tt }) whole.host.table.records;
    }

-- Pages taken out one after the other are those of the memory, and the calls of collect.

-- The bytes

taken-append : (a b : List ℕ) (m : Pages) → taken_pages (a ++ b) m ≡ taken_pages a m ++ taken_pages b (without_pages a m)
taken-append [] b m = refl
taken-append (p ∷ a) b m = ap (λ (l : PagesOut). (p, option_map_or (λ bytes. bytes) (page_at m p) []) ∷ l) (taken-append a b (slice_set m p None))

set-gone : (m : Pages) (p : ℕ) → is_in (slice_set m p None) p ≡ false
set-gone [] p = refl
set-gone (x ∷ m) zero = refl
set-gone (x ∷ m) (suc p) = set-gone m p

set-stays : (m : Pages) (p q : ℕ) → is_in (slice_set m p None) q ≡ true → page_at (slice_set m p None) q ≡ page_at m q
set-stays m p q h = set-other m p q None (λ e. true≢false (sym h ∙ subst (λ (k : ℕ). is_in (slice_set m p None) k ≡ false) e (set-gone m p)))

can-in : (ps : List ℕ) (m : Pages) → CanTake ps m → AllByRecursion (λ q. is_in m q ≡ true) ps
can-in [] m can = tt
can-in (p ∷ ps) m can = (can.0, back ps (can-in ps (slice_set m p None) can.1))
  where
    back : (qs : List ℕ) → AllByRecursion (λ q. is_in (slice_set m p None) q ≡ true) qs → AllByRecursion (λ q. is_in m q ≡ true) qs
    back [] all = tt
    back (q ∷ qs) all = (sym (ap is_some (set-stays m p q all.0)) ∙ all.0, back qs all.1)

bytes-stay : (ps : List ℕ) (m m' : Pages) → ((q : ℕ) → is_in m' q ≡ true → page_at m' q ≡ page_at m q) → AllByRecursion (λ q. is_in m' q ≡ true) ps → pages_with_bytes m' ps ≡ pages_with_bytes m ps
bytes-stay [] m m' same all = refl
bytes-stay (q ∷ ps) m m' same all =
    ap₂ (λ (o : Option (List ℕ)) (l : PagesOut). (q, option_map_or (λ bytes. bytes) o []) ∷ l) (same q all.0) (bytes-stay ps m m' same all.1)

pub taken_same : (ps : List ℕ) (m : Pages) → CanTake ps m → taken_pages ps m ≡ pages_with_bytes m ps
taken_same [] m can = refl
taken_same (p ∷ ps) m can =
    ap (λ (l : PagesOut). (p, option_map_or (λ bytes. bytes) (page_at m p) []) ∷ l)
    (taken_same ps (slice_set m p None) can.1 ∙ bytes-stay ps m (slice_set m p None) (set-stays m p) (can-in ps (slice_set m p None) can.1))

take-parts : (a b : List ℕ) (m : Pages) → CanTake (a ++ b) m → CanTake a m × CanTake b (without_pages a m)
take-parts [] b m h = (tt, h)
take-parts (x ∷ a) b m h = let r = take-parts a b (slice_set m x None) h.1 in ((h.0, r.0), r.1)

-- The record that is held

in_store : (r : Record) → r.phase ≡ Held → is_out r.phase ≡ false
in_store r e = ap is_out e

pub held_can_take : (t : Tables) (q cid : ℕ) → IsWhole t → (is : StandsAt t q cid) → CanTake is.entry.data_pages t.pages × CanTake is.entry.chain_pages (without_pages is.entry.data_pages t.pages)
held_can_take t q cid whole is =
    take-parts is.entry.data_pages is.entry.chain_pages t.pages (collect_can_take t q cid is.entry whole is.was (in_store is.entry is.held))

pub not-held : (t : Tables) (q cid : ℕ) (r : Record) → IsWhole t → find (is_at q cid) t.records ≡ Some r → (FitsPhase Held r.work r.status → ⊥) → r.phase ≡ Held → ⊥
not-held t q cid r whole was not held =
    let fits = found_all (IsRecord (length t.queues)) (is_at q cid) t.records r was whole.host.table.records in
    not (subst (λ (p : Phase). FitsPhase p r.work r.status) held fits.phase)

pub held_work : (t : Tables) (q cid : ℕ) (r : Request) → IsWhole t → (is : StandsAt t q cid) → is.entry.work ≡ Io r → IsGood r × (length is.entry.data_pages ≡ data_count r.pieces)
held_work t q cid r whole is e =
    let fits = found_all (IsRecord (length t.queues)) (is_at q cid) t.records is.entry is.was whole.host.table.records in
    subst (λ (w : Work). FitsWork w is.entry) e fits.work

-- by equal numbers
pub found-at : (t : Tables) (q cid q' cid' : ℕ) (r : Record) → q' ≡ q → cid' ≡ cid → find (is_at q' cid') t.records ≡ Some r → find (is_at q cid) t.records ≡ Some r
found-at t q cid q' cid' r eq ec h = rw (← eq, ← ec) h

-- The refusals

pub collect-none : (t : Tables) (q cid : ℕ) → find (is_at q cid) t.records ≡ None → Refuses (state_of t) (events.Collect q cid) refusal.Stranger []
collect-none t q cid e = (rw e refl, refl)

pub collect-stranger : (t : Tables) (q cid : ℕ) (r : Record) → find (is_at q cid) t.records ≡ Some r → (r.phase ≡ Submitted → ⊥) → (r.phase ≡ Held → ⊥) → Refuses (state_of t) (events.Collect q cid) refusal.Stranger []
collect-stranger t q cid r e submitted held = (rw e (by_phase r.phase submitted held), refl)
  where
    by_phase : (phase : Phase) → (phase ≡ Submitted → ⊥) → (phase ≡ Held → ⊥) → (if not (is_submitted phase || is_held phase) then Some refusal.Stranger else (if is_submitted phase then Some refusal.NotYet else None)) ≡ Some refusal.Stranger
    by_phase Drafted submitted held = refl
    by_phase Submitted submitted held = absurd (submitted refl)
    by_phase Held submitted held = absurd (held refl)
    by_phase Collected submitted held = refl

pub collect-not_yet : (t : Tables) (q cid : ℕ) (r : Record) → find (is_at q cid) t.records ≡ Some r → (is_submitted r.phase ≡ true) → Refuses (state_of t) (events.Collect q cid) refusal.NotYet []
collect-not_yet t q cid r e a = (rw (e, a) refl, refl)

pub collect-nothing : (t : Tables) (q cid : ℕ) → StandsAt t q cid → refusal_of (state_of t) (events.Collect q cid) ≡ None
collect-nothing t q cid is = rw (is.was, is.held) refl

-- The whole of a collection

pub collect_made : (t new : Tables) (q cid : ℕ) (r : Request) (st : Status) (hints : Hints) (pages : PagesOut) (f : FinishedContents) → IsWhole t → (is : StandsAt t q cid)
    → is.entry.work ≡ Io r → is.entry.status ≡ Some st → is.entry.hints ≡ hints
    → pages ≡ taken_pages is.entry.data_pages t.pages ++ taken_pages is.entry.chain_pages (without_pages is.entry.data_pages t.pages)
    → f ≡ record { q = q; cid = cid; request = r; status = st; hints = hints; data_pages = data_part r pages; chain_pages = chain_part r pages }
    → new ≡ taken_out q cid (pages_of is.entry) t → Steps t (events.Collect q cid) (events.Collects f) new
collect_made t new q cid r st hints pages f whole is ew es eh ep ef en =
    let a = pages_with_bytes t.pages is.entry.data_pages in
    let b = pages_with_bytes t.pages is.entry.chain_pages in
    let can = collect_can_take t q cid is.entry whole is.was (in_store is.entry is.held) in
    let all : pages ≡ a ++ b =
    ep ∙ (sym (taken-append is.entry.data_pages is.entry.chain_pages t.pages) ∙ (taken_same (pages_of is.entry) t.pages can ∙ map-append (λ p. (p, option_map_or (λ bytes. bytes) (page_at t.pages p) [])) is.entry.data_pages is.entry.chain_pages)) in
    let size : length a ≡ data_count r.pieces = length-map is.entry.data_pages (λ p. (p, option_map_or (λ bytes. bytes) (page_at t.pages p) [])) ∙ (held_work t q cid r whole is ew).1 in
    let at = found_is (is_at q cid) t.records is.entry is.was in
    let made : f ≡ record { q = is.entry.q; cid = is.entry.cid; request = r; status = st; hints = hints; data_pages = a; chain_pages = b } =
    ef
    ∙ (ap₂ (λ (x y : PagesOut). record { q = q; cid = cid; request = r; status = st; hints = hints; data_pages = x; chain_pages = y })
    (ap (data_part r) all ∙ take_at a b (data_count r.pieces) size) (ap (chain_part r) all ∙ drop_at a b (data_count r.pieces) size)
    ∙ ap₂ (λ (x y : ℕ). record { q = x; cid = y; request = r; status = st; hints = hints; data_pages = a; chain_pages = b }) (sym (ids q cid is.entry at).0) (sym (ids q cid is.entry at).1)) in
    let finishes : finished_from (state_of t) is.entry ≡ Some f = rw (ew, es, eh) (ap Some (sym made)) in
    rw en (collected_step t q cid is.entry f whole (collect-nothing t q cid is) is.was finishes)

pub collected_tables : (t : Tables) (q cid : ℕ) (pages : Pages) → (is : StandsAt t q cid) → pages ≡ without_pages is.entry.chain_pages (without_pages is.entry.data_pages t.pages)
    → record t { pages = pages; records = with_record q cid collected t.records } ≡ taken_out q cid (pages_of is.entry) t
collected_tables t q cid pages is ep = rw (ep, without-append is.entry.data_pages is.entry.chain_pages t.pages) refl

pub length-taken : (ps : List ℕ) (m : Pages) → length (taken_pages ps m) ≡ length ps
length-taken [] m = refl
length-taken (p ∷ ps) m = ap suc (length-taken ps (slice_set m p None))

pub collect_enough : (t : Tables) (q cid : ℕ) (r : Request) (pages : PagesOut) → IsWhole t → (is : StandsAt t q cid) → is.entry.work ≡ Io r
    → pages ≡ taken_pages is.entry.data_pages t.pages ++ taken_pages is.entry.chain_pages (without_pages is.entry.data_pages t.pages) → data_count r.pieces ≤ length pages
collect_enough t q cid r pages whole is ew ep =
    omega (
      arith,
      ap length ep,
      length-append (taken_pages is.entry.data_pages t.pages) (taken_pages is.entry.chain_pages (without_pages is.entry.data_pages t.pages)),
      length-taken is.entry.data_pages t.pages,
      (held_work t q cid r whole is ew).1,
    )

-- The end of a command on the tables is the machine's, and leaves them whole.

pub at_most_once : (t : Tables) → IsWhole t → (q cid : ℕ) → total (here q cid) t.records < 2
at_most_once t whole q cid = let h = holds_from_sound (state_of t) (sound-of t whole) in h.once q cid

away_is : (r : Record) → is_away r ≡ is_out r.phase
away_is r = by_phase r.phase
  where
    by_phase : (ph : Phase) → (is_drafted ph || is_collected ph) ≡ is_out ph
    by_phase Drafted = refl
    by_phase ph = refl

-- the pages can be put
pub ended_can_put : (t : Tables) (q cid : ℕ) (pages : PagesOut) → IsWhole t → Brings t q cid pages → CanPut pages t.pages
ended_can_put t q cid pages whole brings =
    let at = found_at (is_at q cid) t.records brings.entry brings.was in
    can-put pages t.pages
    (λ p. rw brings.numbers (record-out (state_of t) (sound-of t whole) at.0 brings.entry at.1 (sym (away_is brings.entry) ∙ brings.out) p))
    (λ p some. record-inside (state_of t) (sound-of t whole) at.0 brings.entry at.1 p (rw brings.numbers at some))

-- a command's pages are those that its record lists
pub command-listed : (t : Tables) (q cid : ℕ) (r : Record) → IsWhole t → find (is_at q cid) t.records ≡ Some r → ListsAll (is_command q cid) t.owners (pages_of r)
command-listed t q cid r whole was =
    let at = found_at (is_at q cid) t.records r was in
    let both = and_parts (r.q == q) (r.cid == cid) (found_is (is_at q cid) t.records r was) in
    record {
      within = λ i d l. rw (lent-of t whole) (record-inside (state_of t) (sound-of t whole) at.0 r at.1 (get_or (pages_of r) i d) (times-at (pages_of r) i d l));
      lists = λ p l.
          sym (command-pages t (sound-of t whole) whole.host.table.owners q cid r was (eqb-true r.q q both.0) (eqb-true r.cid cid both.1) (at_most_once t whole q cid) p (rw (← (lent-of t whole)) l));
    }

named : (t : Tables) (q cid : ℕ) (pages : PagesOut) → IsWhole t → Brings t q cid pages → (p : ℕ) → p < length t.pages
    → is_owned_at (is_command q cid) t.owners p ≡ is_among (numbers_of pages) p
named t q cid pages whole brings p l =
    sym ((command-listed t q cid brings.entry whole brings.was).lists p (rw (lent-of t whole) l)) ∙ ap (λ (ps : List ℕ). is_among ps p) (sym brings.numbers)

ended-due : (t : Tables) (q cid : ℕ) (pages : PagesOut) → IsWhole t → Brings t q cid pages
    → after_end q cid pages (state_of t) ≡ due (state_of t) (ended q cid pages t).pages (ended q cid pages t).owners (ended q cid pages t).records
ended-due t q cid pages whole brings =
    let s = state_of t in
    let size : length (with_pages pages t.pages) ≡ length t.pages = length-with_pages pages t.pages in
    ap (λ (free : List ℕ). record s { memory = (ended q cid pages t).pages; host = record s.host { free = free; records = (ended q cid pages t).records } })
    (sym (given-free t.owners (is_command q cid) (length (with_pages pages t.pages)) (numbers_of pages) (size ∙ sym (lent-of t whole))
    (λ p l. named t q cid pages whole brings p (subst (λ (n : ℕ). p < n) size l))))

pub ended_exact : (t : Tables) (q cid : ℕ) (pages : PagesOut) → IsWhole t → Brings t q cid pages → state_of (ended q cid pages t) ≡ after_end q cid pages (state_of t)
ended_exact t q cid pages whole brings =
    moved_is t q (λ claimed. slice_set claimed cid false) (ended q cid pages t).pages (ended q cid pages t).owners (ended q cid pages t).records ∙ sym (ended-due t q cid pages whole brings)

ended-fits : (t : Tables) (q cid : ℕ) (pages : PagesOut) → IsWhole t → ArePages pages → Brings t q cid pages
    → Fits t q (λ claimed. slice_set claimed cid false) (ended q cid pages t).pages (ended q cid pages t).owners (ended q cid pages t).records
ended-fits t q cid pages whole are brings = record {
  pool = pool-with pages t.pages (all-from (λ (page : ℕ × List ℕ). length page.1 ≡ 4096) pages are) whole.over.pool;
  many = length-with_pages pages t.pages;
  lent = length-map t.owners (λ (o : Owner). if is_command q cid o then Free else o);
  size = λ bits. length-set bits cid false;
  queues_told = λ k queue e. let tells = whole.host.table.owners.queues_told k queue e in record {
    submission = λ p h. owner-stays t.owners (is_command q cid) p _ refl (tells.submission p h);
    completion = λ p h. owner-stays t.owners (is_command q cid) p _ refl (tells.completion p h);
  };
  commands_told =
      all-filter_by (TellsCommand t.owners) (TellsCommand (ended q cid pages t).owners) (λ (r : Record). not (is_at q cid r))
      (λ x e tells. record {
        data_pages = λ p h. owner-stays t.owners (is_command q cid) p (Command x.q x.cid Data) (not-true (is_at q cid x) e) (tells.data_pages p h);
        chain_pages = λ p h. owner-stays t.owners (is_command q cid) p (Command x.q x.cid Chain) (not-true (is_at q cid x) e) (tells.chain_pages p h);
      }) t.records whole.host.table.owners.commands_told;
  identifiers = claim-less t.records t.queues q cid whole.host.table.identifiers (found_any (is_at q cid) t.records brings.entry brings.was);
  fit = all-filter (IsRecord (length t.queues)) (λ (r : Record). not (is_at q cid r)) t.records whole.host.table.records;
}

-- The record that a moved value belongs to.

drafted-out : (p : Phase) → is_drafted p ≡ true → is_out p ≡ true
drafted-out Drafted h = refl
drafted-out Collected h = refl
drafted-out p h = absurd (true≢false (sym h))

collected-out : (p : Phase) → is_collected p ≡ true → is_out p ≡ true
collected-out Drafted h = refl
collected-out Collected h = refl
collected-out p h = absurd (true≢false (sym h))

brought : (t : Tables) (q cid : ℕ) (phase : Phase → Bool) → ((p : Phase) → phase p ≡ true → is_out p ≡ true) → (r : Request) (a b : PagesOut)
    → record_is (is_of phase r (numbers_of a) (numbers_of b)) (state_of t) q cid ≡ true → Brings t q cid (a ++ b)
brought t q cid phase outs r a b h =
    let f = found (is_of phase r (numbers_of a) (numbers_of b)) (state_of t) q cid h in
    let m = pages_match phase r a b f.0 f.2 in
    record { entry = f.0; was = f.1; out = away_is f.0 ∙ outs f.0.phase m.1; numbers = m.0 }

pub cancel_brings : (t : Tables) (d : DraftContents) → refusal_of (state_of t) (events.Cancel d) ≡ None → Brings t d.q d.cid (d.data_pages ++ d.chain_pages)
cancel_brings t d none = brought t d.q d.cid is_drafted drafted-out d.request d.data_pages d.chain_pages (not-false _ (first_fails _ refusal.Stranger [] none))

pub release_brings : (t : Tables) (f : FinishedContents) → refusal_of (state_of t) (events.Release f) ≡ None → Brings t f.q f.cid (f.data_pages ++ f.chain_pages)
release_brings t f none = brought t f.q f.cid is_collected collected-out f.request f.data_pages f.chain_pages (not-false _ (first_fails _ refusal.Stranger [] none))

-- The two calls.

ends : (t : Tables) (q cid : ℕ) (pages : PagesOut) (e : Event) → IsWhole t → ArePages pages → Brings t q cid pages → IsController e ≡ false → IsProper e → Exactly
    (state_of t) e events.Accepted (state_of (ended q cid pages t))
    → Steps t e events.Accepted (ended q cid pages t)
ends t q cid pages e whole are brings c p exact =
    moved_whole t q (λ claimed. slice_set claimed cid false) (ended q cid pages t).pages (ended q cid pages t).owners (ended q cid pages t).records e events.Accepted whole
    (ended-fits t q cid pages whole are brings) c p exact

-- What the end of a command needs

pub ended_there : (t : Tables) (q cid : ℕ) (pages : PagesOut) → IsWhole t → Brings t q cid pages → q < length t.queues
ended_there t q cid pages whole brings =
    let both = and_parts (brings.entry.q == q) (brings.entry.cid == cid) (found_is (is_at q cid) t.records brings.entry brings.was) in
    let fits = found_all (IsRecord (length t.queues)) (is_at q cid) t.records brings.entry brings.was whole.host.table.records in
    subst (λ (k : ℕ). k < length t.queues) (eqb-true brings.entry.q q both.0) fits.queue

pub ended_claimed : (t : Tables) (q cid : ℕ) (pages : PagesOut) → IsWhole t → Brings t q cid pages → Claims t.queues q cid
ended_claimed t q cid pages whole brings queue at =
    let there = found_any (is_at q cid) t.records brings.entry brings.was in
    let claims = whole.host.table.identifiers.each q queue at in
    claims.told cid (claims.inside cid there) ∙ ap Some there

pub ended_tables : (t u : Tables) (q cid : ℕ) (brought' : PagesOut) (pages : Pages) (owners : List Owner) (queues : List declared.Queue) → u ≡ record t { records = without_record q cid t.records }
    → pages ≡ with_pages brought' t.pages → owners ≡ given_back (is_command q cid) u.owners → queues ≡ change q (without_claim cid) u.queues
    → record u { pages = pages; owners = owners; queues = queues } ≡ ended q cid brought' t
ended_tables t u q cid brought' pages owners queues eu ep eo eq = rw (ep, eo, eq, eu) refl

-- The whole of both calls

pub belongs_brings : (t : Tables) (ended' : Bool) (q cid : ℕ) (r : Request) (a b : PagesOut) → Belongs t.records ended' q cid r (numbers_of a) (numbers_of b) → Brings t q cid (a ++ b)
belongs_brings t ended' q cid r a b belongs =
    let m = pages_match (phase_of_end ended') r a b belongs.entry belongs.is in
    record { entry = belongs.entry; was = belongs.was; out = away_is belongs.entry ∙ outs ended' belongs.entry.phase m.1; numbers = m.0 }
  where
    outs : (ended' : Bool) (p : Phase) → phase_of_end ended' p ≡ true → is_out p ≡ true
    outs true p h = collected-out p h
    outs false p h = drafted-out p h

pub belongs-passes : (t : Tables) (ended' : Bool) (q cid : ℕ) (r : Request) (a b : List ℕ) → Belongs t.records ended' q cid r a b → record_is (is_of (phase_of_end ended') r a b) (state_of t) q cid ≡ true
belongs-passes t ended' q cid r a b belongs = ap (λ o. option_map_or (is_of (phase_of_end ended') r a b) o false) belongs.was ∙ belongs.is

pub belongs-from : (records : List Record) (ended' : Bool) (q cid : ℕ) (r : Request) (a b : List ℕ) → has_record records ended' q cid r a b ≡ true → Belongs records ended' q cid r a b
belongs-from records ended' q cid r a b h = elim (option_is (find (is_at q cid) records)) [
  | inl e ↦ absurd (true≢false (sym (rw e at h)))
  | inr (entry, e) ↦ record { entry = entry; was = e; is = rw e at h }
]

-- a moved value, as its parts are read
pub record Reads (q cid : ℕ) (r : Request) (a b : PagesOut) (q' cid' : ℕ) (r' : Request) (a' b' : PagesOut) : Type 0 where
  pub queue : q' ≡ q
  pub identifier : cid' ≡ cid
  pub request : r' ≡ r
  pub data_pages : a' ≡ a
  pub chain_pages : b' ≡ b

pub read_has : (records : List Record) (ended' : Bool) (q cid : ℕ) (r : Request) (a b : PagesOut) (q' cid' : ℕ) (r' : Request) (a' b' : PagesOut) → Reads q cid r a b q' cid' r' a' b'
    → has_record records ended' q' cid' r' (numbers_of a') (numbers_of b') ≡ has_record records ended' q cid r (numbers_of a) (numbers_of b)
read_has records ended' q cid r a b q' cid' r' a' b' reads = rw (reads.queue, reads.identifier, reads.request, reads.data_pages, reads.chain_pages) refl

both-pages : (a b : PagesOut) → ArePages (a ++ b) → ArePages a × ArePages b
both-pages a b are =
    let all = all-from (λ (page : ℕ × List ℕ). length page.1 ≡ 4096) (a ++ b) are in (
      all-to (λ (page : ℕ × List ℕ). length page.1 ≡ 4096) a (all-front (λ (page : ℕ × List ℕ). length page.1 ≡ 4096) a b all),
      all-to (λ (page : ℕ × List ℕ). length page.1 ≡ 4096) b (all-back (λ (page : ℕ × List ℕ). length page.1 ≡ 4096) a b all),
    )

pub joined-pages : (a b : PagesOut) → ArePages a → ArePages b → ArePages (a ++ b)
joined-pages a b h g = all-to (λ (page : ℕ × List ℕ). length page.1 ≡ 4096) (a ++ b) (along_pages a (all-from (λ (page : ℕ × List ℕ). length page.1 ≡ 4096) a h))
  where
    along_pages : (xs : PagesOut) → AllByRecursion (λ (page : ℕ × List ℕ). length page.1 ≡ 4096) xs → AllByRecursion (λ (page : ℕ × List ℕ). length page.1 ≡ 4096) (xs ++ b)
    along_pages [] all = all-from (λ (page : ℕ × List ℕ). length page.1 ≡ 4096) b g
    along_pages (x ∷ xs) all = (all.0, along_pages xs all.1)

pub proper_draft : (d : DraftContents) → FitsRequest d.request → ArePages (d.data_pages ++ d.chain_pages) → IsDraft d → IsProperDraft d
proper_draft d fits are is = let both = both-pages d.data_pages d.chain_pages are in record { request = fits; data_pages = both.0; chain_pages = both.1; draft = is }

pub cancel_refused : (t : Tables) (d : DraftContents) → IsProperDraft d → has_record t.records false d.q d.cid d.request (numbers_of d.data_pages) (numbers_of d.chain_pages) ≡ false
    → Step (state_of t) (events.Cancel d) (events.Refused refusal.Stranger []) (state_of t)
cancel_refused t d proper none =
    host_step t t (events.Cancel d) (events.Refused refusal.Stranger []) refl proper ((ap (λ b. if not b then Some refusal.Stranger else None) none, refl), refl)

pub release_refused : (t : Tables) (f : FinishedContents) → ArePages (f.data_pages ++ f.chain_pages) → has_record t.records true f.q f.cid f.request (numbers_of f.data_pages) (numbers_of f.chain_pages) ≡ false
    → Step (state_of t) (events.Release f) (events.Refused refusal.Stranger []) (state_of t)
release_refused t f are none =
    host_step t t (events.Release f) (events.Refused refusal.Stranger []) refl (both-pages f.data_pages f.chain_pages are) ((ap (λ b. if not b then Some refusal.Stranger else None) none, refl), refl)

pub cancel_made : (t new : Tables) (d : DraftContents) → IsWhole t → IsProperDraft d
    → Belongs t.records false d.q d.cid d.request (numbers_of d.data_pages) (numbers_of d.chain_pages)
    → new ≡ ended d.q d.cid (d.data_pages ++ d.chain_pages) t → Steps t (events.Cancel d) events.Accepted new
cancel_made t new d whole proper belongs is =
    let none : refusal_of (state_of t) (events.Cancel d) ≡ None =
    ap (λ b. if not b then Some refusal.Stranger else None) (belongs-passes t false d.q d.cid d.request (numbers_of d.data_pages) (numbers_of d.chain_pages) belongs) in
    let pages = d.data_pages ++ d.chain_pages in
    let brings = cancel_brings t d none in
    rw is (ends t d.q d.cid pages (events.Cancel d) whole (joined-pages d.data_pages d.chain_pages proper.data_pages proper.chain_pages) brings refl proper
    (none, tt, ended_exact t d.q d.cid pages whole brings))

pub release_made : (t new : Tables) (f : FinishedContents) → IsWhole t → ArePages (f.data_pages ++ f.chain_pages)
    → Belongs t.records true f.q f.cid f.request (numbers_of f.data_pages) (numbers_of f.chain_pages)
    → new ≡ ended f.q f.cid (f.data_pages ++ f.chain_pages) t → Steps t (events.Release f) events.Accepted new
release_made t new f whole are belongs is =
    let none : refusal_of (state_of t) (events.Release f) ≡ None =
    ap (λ b. if not b then Some refusal.Stranger else None) (belongs-passes t true f.q f.cid f.request (numbers_of f.data_pages) (numbers_of f.chain_pages) belongs) in
    let pages = f.data_pages ++ f.chain_pages in
    let brings = release_brings t f none in
    rw is (ends t f.q f.cid pages (events.Release f) whole are brings refl (both-pages f.data_pages f.chain_pages are) (none, tt, ended_exact t f.q f.cid pages whole brings))

pub reads_from : (q cid : ℕ) (r : Request) (a b : PagesOut) (q' cid' : ℕ) (r' : Request) (ps : PagesOut) (k : ℕ) (data_pages chain_pages : PagesOut) → q' ≡ q → cid' ≡ cid → r' ≡ r → ps ≡ a ++ b → k ≡ length a
    → data_pages ≡ take k ps → chain_pages ≡ drop k ps → Reads q cid r a b q' cid' r' data_pages chain_pages
reads_from q cid r a b q' cid' r' ps k data_pages chain_pages eq ec er ep ek ef eb = record {
  queue = eq;
  identifier = ec;
  request = er;
  data_pages = ef ∙ (ap (take k) ep ∙ take_at a b k (sym ek));
  chain_pages = eb ∙ (ap (drop k) ep ∙ drop_at a b k (sym ek));
}

-- a command's end, by the values that a moved value was taken apart into
pub ended_apart : (t new : Tables) (q cid : ℕ) (pages : PagesOut) (q' cid' : ℕ) (pages' : PagesOut) → q' ≡ q → cid' ≡ cid → pages' ≡ pages → new ≡ ended q' cid' pages' t → new ≡ ended q cid pages t
ended_apart t new q cid pages q' cid' pages' eq ec ep is = rw (is, eq, ec, ep) refl

pub brings_apart : (t : Tables) (q cid : ℕ) (pages : PagesOut) (q' cid' : ℕ) (pages' : PagesOut) → q' ≡ q → cid' ≡ cid → pages' ≡ pages → Brings t q cid pages → Brings t q' cid' pages'
brings_apart t q cid pages q' cid' pages' eq ec ep brings = rw (eq, ec, ep) brings
