-- Commands that are submitted.
use Rattle.machine_model.specs.After as a
use Rattle.machine_model.specs.Events as events
use Rattle.machine_model.specs.declared.words.Refusal.TheVariants as refusal
use Rattle.std.proofs.Common.{◌≡◌, ℕ, ◌+◌, ◌/◌, ◌%◌, ◌<◌, ◌++◌, ◌∷◌, [], Bool, true, false, not, Option, Some, None, IsSome, is_none, List, length, refl, ap, sym, ◌∙◌, subst, length-set, slice_get, arith, inl, inr}
use Rattle.std.proofs.lemmas.{Bool.{true≢false, false_from_ne_true}, Option.{slice_get-map, slice_get_within}}
use Rattle.std.specs.{List.AllByRecursion, Option.{option_map_or, option_map}}
use Rattle.entry_codec.specs.{Submission.{submission_bytes, FitsSubmission}, declared.submission.SubEntry.SubEntry}
use Rattle.sgl_descriptor.specs.Spelling.{spelling}
use Rattle.io_commands.{proofs.{Building.carries_entry, Pointers.{length-pointer_of, psdt_fits}}, specs.{Asked.Request, DataBytes.PagesOut, Drafts.{DraftContents, admin_pointer, draft_first, entry_of}, Requests.has_list, Values.numbers_of, declared.request.Kind.{Kind, TheVariants.Admin}}}
use Rattle.sgl_chain.proofs.Spelled.{length-spelling}
use Rattle.machine_model.proofs.{Counting.held_once, Kept.live_has_sq, Steps.{length-with_pages, first_fails, found_all}}
use Rattle.machine_model.specs.{Memory.with_pages, Proper.IsProperDraft, After.after_submit, declared.words.Work.TheVariants.{Io, Management}}
use Rattle.machine_model.specs.Refusals.{refusal_of, is_drafted, is_of, is_live, in_state, queue_full, record_is, host_queue}
use Rattle.machine_model.specs.{State.{State, Record, is_at, pages_of, with_record, HostQueue}, Step.{Refuses}, Work.Work}
use Rattle.page_ledger.specs.{Owners.{is_among, owner_at}, declared.owner.Owner.TheVariants.{Queue as OfQueue, Command}}
use Rattle.page_memory.specs.{Pages.Pages, declared.page.Half.{TheVariants.Submission}}
use Rattle.queue_pair.specs.{Memory.half_pages, Slots.is_full}
use Rattle.host_core.proofs.{Ending.{cancel_brings, joined-pages, belongs-passes, belongs_brings, ended_can_put}, Granting.in_state-is}
use Rattle.host_core.proofs.{Lists.all-from, PageOwners.{command-owner, pool-with, with-other}}
use Rattle.host_core.proofs.{Identifiers.{lent-of, Settled, settled-of}, QueueLists.{posted-exact, posted-queue, tail-in, tail-fits, submission_length, pool-with_bytes, submission-owner, submission_page-in, settled-turned, Steps, steps}}
use Rattle.host_core.proofs.RowRecords.{Marks, marked-claims, marked-records, marked-tells, Spares}
use Rattle.host_core.specs.{Commands.{Brings, BelongsToDraft, CanPut, passes, state_at}, Exact.Exactly}
use Rattle.host_core.specs.{Posting.{with_tail_moved, tail_place, CanPost, CanPostTo, Posts}, Rows.Queue}
use Rattle.host_core.specs.{Submitting.{brought_in, submitted, CanSubmit, IsReady, Submits}, Tables.{Tables, state_of, host_queue_of}}
use Rattle.host_core.specs.Whole.{IsWhole, IsRecord, TellsCommand, FitsWork, AreQueues}
use Rattle.slot_table.proofs.Rows.{option_is}
use Rattle.page_memory.proofs.Lists.{some_is}

-- A submitted draft on the tables is the machine's, and leaves them whole.

brings : (t : Tables) (d : DraftContents) (x : Queue) (entry : SubEntry) → CanSubmit t d x entry → Brings t d.q d.cid (d.data_pages ++ d.chain_pages)
brings t d x entry c =
    let mine = first_fails _ refusal.Stranger ((is_none d.entry, refusal.NotBuilt) ∷ (not (in_state is_live (state_of t) d.q), refusal.QueueGone) ∷
    (queue_full (state_of t) d.q, refusal.QueueFull) ∷ []) c.none in
    cancel_brings t d (rw mine refl)

-- and its pages are none of a queue's halves
spares : (t : Tables) (d : DraftContents) (x : Queue) (entry : SubEntry) → IsWhole t → CanSubmit t d x entry → Spares t (brought_in d t).pages
spares t d x entry whole c = record {
  same = λ k half p at. with-other pages t.pages p (false_from_ne_true (is_among (numbers_of pages) p) (λ e.
      let o = command-owner t.owners b.entry (found_all (TellsCommand t.owners) (is_at d.q d.cid) t.records b.entry b.was whole.host.table.owners.commands_told) p
      (held_once p (pages_of b.entry) (rw (← b.numbers) e)) in
      let same : OfQueue k half ≡ Command b.entry.q b.entry.cid o.0 = some_is (sym at ∙ o.1) in cc));
}
  where
    pages : PagesOut
    pages = d.data_pages ++ d.chain_pages

    b : Brings t d.q d.cid (d.data_pages ++ d.chain_pages)
    b = brings t d x entry c

are-pages : (d : DraftContents) → IsProperDraft d → AllByRecursion (λ (page : ℕ × List ℕ). length page.1 ≡ 4096) (d.data_pages ++ d.chain_pages)
are-pages d proper =
    all-from (λ (page : ℕ × List ℕ). length page.1 ≡ 4096) (d.data_pages ++ d.chain_pages) (joined-pages d.data_pages d.chain_pages proper.data_pages proper.chain_pages)

-- its data pointer has sixteen bytes
length-admin_pointer : (pages : List ℕ) → length (admin_pointer pages) ≡ 16
length-admin_pointer [] = refl
length-admin_pointer (page ∷ pages) = refl

length-sgl1 : (kind : Kind) (cid : ℕ) (r : Request) (sgl1 pages : List ℕ) → length sgl1 ≡ 16 → length (entry_of kind cid r sgl1 pages).sgl1 ≡ 16
length-sgl1 (Admin command) cid r sgl1 pages count = length-admin_pointer pages
length-sgl1 kind cid r sgl1 pages count = length-pointer_of r.kind sgl1 count

draft-sgl1 : (d : DraftContents) (entry : SubEntry) → IsProperDraft d → d.entry ≡ Some entry → length entry.sgl1 ≡ 16
draft-sgl1 d entry proper built = ap (λ (e : SubEntry). length e.sgl1) (carries_entry d entry proper.draft built)
    ∙ length-sgl1 d.request.kind d.cid d.request (spelling (draft_first d)) (numbers_of d.data_pages) (length-spelling (draft_first d))

-- the entry can be posted after the pages
pub can-post : (t : Tables) (d : DraftContents) (x : Queue) (entry : SubEntry) → IsWhole t → CanSubmit t d x entry → CanPost (brought_in d t) d.q x entry
can-post t d x entry whole c =
    let kept = live_has_sq x.state c.live in
    let spared = spares t d x entry whole c in
    record {
      at = c.at;
      kept = kept;
      room = c.room;
      sgl1 = draft-sgl1 d entry c.proper c.built;
      fits = c.fits;
      pool = pool-with (d.data_pages ++ d.chain_pages) t.pages (are-pages d c.proper) whole.over.pool;
      inside = λ k l. subst (λ (o : Option (List ℕ)). IsSome o) (sym (spared.same d.q Submission (x.host.sq + k) (own k l))) (submission_page-in t whole d.q x c.at kept k l);
      queues = whole.host.rings;
    }
  where
    own : (k : ℕ) → k < half_pages x.host.entries Submission → owner_at t.owners (x.host.sq + k) ≡ Some (OfQueue d.q Submission)
    own k l = submission-owner t whole d.q x c.at (live_has_sq x.state c.live) k l

-- The state

-- the machine's state with the pages in and the record marked
abbrev in_state_of : DraftContents → State → State
in_state_of d s = a.on_records (with_record d.q d.cid a.submitted) (a.on_memory (with_pages (d.data_pages ++ d.chain_pages)) s)

submit-after : (t : Tables) (d : DraftContents) (x : Queue) (entry : SubEntry) → CanSubmit t d x entry → after_submit d (state_of t) ≡ a.posted d.q entry (in_state_of d (state_of t))
submit-after t d x entry c = ap (λ (o : Option SubEntry). option_map_or (λ e. a.posted d.q e (in_state_of d (state_of t))) o (state_of t)) c.built

-- A submission on the tables is the machine's.
pub submit-exact : (t : Tables) (d : DraftContents) (x : Queue) (entry : SubEntry) → IsWhole t → CanSubmit t d x entry
    → Exactly (state_of t) (events.Submit d) events.Accepted (state_of (submitted d x entry t))
submit-exact t d x entry whole c =
    (c.none, tt, posted-exact (brought_in d t) d.q x entry (can-post t d x entry whole c) ∙ sym (submit-after t d x entry c))

-- What holds between calls

marks-submitted : Marks a.submitted
marks-submitted =
    record {
      at = λ q cid r. refl;
      tells = λ owners r h. record { data_pages = h.data_pages; chain_pages = h.chain_pages };
    }

submitted-fits : (n : ℕ) (r : Record) → IsRecord n r → IsRecord n (a.submitted r)
submitted-fits n r h = record { queue = h.queue; work = still r.work r h.work; phase = tt }
  where
    still : (w : Work) (r : Record) → FitsWork w r → FitsWork w (a.submitted r)
    still (Io request) r h = h
    still (Management kind) r h = tt

pub submit-settled : (t : Tables) (d : DraftContents) (x : Queue) (entry : SubEntry) → IsWhole t → CanSubmit t d x entry → Settled (submitted d x entry t)
submit-settled t d x entry w c =
    let post = can-post t d x entry w c in
    let count : length (submission_bytes entry) ≡ 64 = submission_length entry (draft-sgl1 d entry c.proper c.built) in
    let claims = marked-claims a.submitted marks-submitted t.records t.queues d.q d.cid w.host.table.identifiers in
    settled-turned t d.q with_tail_moved (submitted d x entry t).pages t.owners (with_record d.q d.cid a.submitted t.records) (settled-of t w)
    (record {
      pool = pool-with_bytes (brought_in d t).pages (tail_place x / 4096) (tail_place x % 4096) (submission_bytes entry) (tail-in (brought_in d t) d.q x entry post)
          (omega (arith, count, tail-fits x)) post.pool;
      lent = (lent-of t w) ∙ sym (length-set (brought_in d t).pages (tail_place x / 4096) _ ∙ length-with_pages (d.data_pages ++ d.chain_pages) t.pages);
      queue = λ y at. posted-queue t.entries d.q y (w.host.rings.each d.q y at);
      identifiers = claims.each;
      claims = claims.each d.q;
      others = λ k y _ at. w.host.table.owners.queues_told k y at;
      own = λ y at. let told = w.host.table.owners.queues_told d.q y at in record { submission = told.submission; completion = told.completion };
      commands = marked-tells a.submitted marks-submitted t.owners t.records d.q d.cid w.host.table.owners.commands_told;
      records = marked-records a.submitted (length t.queues) t.records d.q d.cid (λ r _ fits. submitted-fits (length t.queues) r fits) w.host.table.records;
    })

-- The calls of a submission: what is found before it, and what it leaves.

-- Nothing refuses it

abbrev is_drafts : Tables → DraftContents → Bool
is_drafts t d = record_is (is_of is_drafted d.request (numbers_of d.data_pages) (numbers_of d.chain_pages)) (state_of t) d.q d.cid

none-against : (t : Tables) (d : DraftContents) → is_drafts t d ≡ true → is_none d.entry ≡ false → in_state is_live (state_of t) d.q ≡ true → queue_full (state_of t) d.q ≡ false
    → refusal_of (state_of t) (events.Submit d) ≡ None
none-against t d mine built live room = rw (mine, built, live, room) refl

drafted : (t : Tables) (d : DraftContents) → BelongsToDraft t.records d → is_drafts t d ≡ true
drafted t d belongs = belongs-passes t false d.q d.cid d.request (numbers_of d.data_pages) (numbers_of d.chain_pages) belongs

live_queue : (queues : List Queue) (q : ℕ) → passes is_live (state_at queues q) ≡ true → (x : Queue) × (slice_get queues q ≡ Some x) × (is_live x.state ≡ true)
live_queue queues q live = elim (option_is (slice_get queues q)) [
  | inl e ↦ absurd (true≢false (sym (rw e at live)))
  | inr (x, e) ↦ (x, e, rw e at live)
]

pub live_within : (queues : List Queue) (q : ℕ) → passes is_live (state_at queues q) ≡ true → q < length queues
live_within queues q live = let x = live_queue queues q live in slice_get_within queues q x.0 x.1

-- whether it is full, as the machine says
pub full_is : (t : Tables) → AreQueues t.entries t.queues → (q : ℕ) (x : Queue) → slice_get t.queues q ≡ Some x → is_full x.host.entries x.host.ring.known_head x.host.ring.tail ≡ queue_full (state_of t) q
full_is t queues q x at =
    let seen : host_queue (state_of t) q ≡ Some (host_queue_of x) = slice_get-map host_queue_of t.queues q ∙ ap (option_map host_queue_of) at in
    ap (λ (n : ℕ). is_full n x.host.ring.known_head x.host.ring.tail) (queues.each q x at).entries
    ∙ ap (λ (o : Option HostQueue). option_map_or (λ queue. is_full t.entries queue.ring.known_head queue.ring.tail) o true) (sym seen)

fits-entry_of : (kind : Kind) (cid : ℕ) (r : Request) (sgl1 pages : List ℕ) → FitsSubmission (entry_of kind cid r sgl1 pages)
fits-entry_of (Admin command) cid r sgl1 pages = record { fuse = omega arith; psdt = omega arith }
fits-entry_of kind cid r sgl1 pages = record { fuse = omega arith; psdt = psdt_fits (has_list r.kind) }

entry-fits : (d : DraftContents) (entry : SubEntry) → IsProperDraft d → d.entry ≡ Some entry → FitsSubmission entry
entry-fits d entry proper built =
    subst (λ (e : SubEntry). FitsSubmission e) (sym (carries_entry d entry proper.draft built))
    (fits-entry_of d.request.kind d.cid d.request (spelling (draft_first d)) (numbers_of d.data_pages))

pub submit_ready : (t : Tables) (d : DraftContents) (entry : SubEntry) → IsWhole t → IsProperDraft d → BelongsToDraft t.records d → d.entry ≡ Some entry
    → passes is_live (state_at t.queues d.q) ≡ true → queue_full (state_of t) d.q ≡ false → IsReady t d entry
submit_ready t d entry whole proper belongs built live free =
    let x = live_queue t.queues d.q live in
    record {
      queue = x.0;
      can = record {
        none = none-against t d (drafted t d belongs) (ap is_none built) (in_state-is is_live t d.q ∙ live) free;
        proper = proper;
        at = x.1;
        live = x.2;
        room = full_is t whole.host.rings d.q x.0 x.1 ∙ free;
        built = built;
        fits = entry-fits d entry proper built;
      };
      belongs = belongs;
    }

-- What refuses it

pub submit_gone : (t : Tables) (d : DraftContents) → BelongsToDraft t.records d → is_none d.entry ≡ false → passes is_live (state_at t.queues d.q) ≡ false
    → Refuses (state_of t) (events.Submit d) refusal.QueueGone []
submit_gone t d belongs built gone = (rw (drafted t d belongs, built, in_state-is is_live t d.q ∙ gone) refl, refl)

pub submit_full : (t : Tables) (d : DraftContents) → BelongsToDraft t.records d → is_none d.entry ≡ false → passes is_live (state_at t.queues d.q) ≡ true → queue_full (state_of t) d.q ≡ true
    → Refuses (state_of t) (events.Submit d) refusal.QueueFull []
submit_full t d belongs built live full = (rw (drafted t d belongs, built, in_state-is is_live t d.q ∙ live, full) refl, refl)

-- What a submission does

pub submit_can_put : (t : Tables) (d : DraftContents) (entry : SubEntry) (pages : PagesOut) → IsWhole t → IsReady t d entry → pages ≡ d.data_pages ++ d.chain_pages → CanPut pages t.pages
submit_can_put t d entry pages whole ready e =
    subst (λ (ps : PagesOut). CanPut ps t.pages) (sym e)
    (ended_can_put t d.q d.cid (d.data_pages ++ d.chain_pages) whole (belongs_brings t false d.q d.cid d.request d.data_pages d.chain_pages ready.belongs))

pub brought_tables : (t : Tables) (d : DraftContents) (out : PagesOut) (pages : Pages) (q cid : ℕ) → q ≡ d.q → cid ≡ d.cid → out ≡ d.data_pages ++ d.chain_pages → pages ≡ with_pages out t.pages
    → record t { pages = pages; records = with_record q cid a.submitted t.records } ≡ brought_in d t
brought_tables t d out pages q cid eq ec eo ep = rw (ep ∙ ap (λ (ps : PagesOut). with_pages ps t.pages) eo, eq, ec) refl

pub submit_there : (t u : Tables) (d : DraftContents) (entry : SubEntry) (q : ℕ) → IsReady t d entry → u ≡ brought_in d t → q ≡ d.q → q < length u.queues
submit_there t u d entry q ready eu e =
    subst (λ (v : Tables). q < length v.queues) (sym eu) (subst (λ (k : ℕ). k < length t.queues) (sym e) (slice_get_within t.queues d.q ready.queue ready.can.at))

pub submit_can_post : (t u : Tables) (d : DraftContents) (entry : SubEntry) (q : ℕ) → IsWhole t → IsReady t d entry → u ≡ brought_in d t → q ≡ d.q → CanPostTo u q entry
submit_can_post t u d entry q whole ready eu eq =
    rw (eu, eq) (λ y at. subst (λ (z : Queue). CanPost (brought_in d t) d.q z entry) (some_is (sym ready.can.at ∙ at)) (can-post t d ready.queue entry whole ready.can))

pub submits_apart : (t u new : Tables) (d : DraftContents) (entry : SubEntry) (q : ℕ) → u ≡ brought_in d t → q ≡ d.q → Posts u q entry new → Submits t d entry new
submits_apart t u new d entry q eu eq posts =
    subst (λ (k : ℕ). Posts (brought_in d t) k entry new) eq (subst (λ (v : Tables). Posts v q entry new) eu posts)

-- The whole of a submission

pub submit_made : (t new : Tables) (d : DraftContents) (entry : SubEntry) → IsWhole t → IsReady t d entry → Submits t d entry new → Steps t (events.Submit d) events.Accepted new
submit_made t new d entry whole ready left =
    let x = ready.queue in
    let can = ready.can in
    rw (left x can.at) (steps t (submitted d x entry t) (events.Submit d) events.Accepted whole refl can.proper (submit-exact t d x entry whole can) (submit-settled t d x entry whole can))

-- queue 0 is live

pub admin_live : (t : Tables) → IsWhole t → (queue : Queue) → slice_get t.queues 0 ≡ Some queue → is_live queue.state ≡ true
admin_live t w queue here =
    ap (λ (o : Option HostQueue). option_map_or (λ x. is_live x.state) o true) (sym (slice_get-map host_queue_of t.queues 0 ∙ ap (option_map host_queue_of) here)) ∙ w.host.sound.admin
