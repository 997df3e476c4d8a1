-- Drafts, and what is filled into them.
use Rattle.machine_model.specs.Events as events
use Rattle.machine_model.specs.Step as machine
use Rattle.machine_model.specs.declared.words.Refusal.TheVariants as refusal
use Rattle.step_core.specs.declared.step.Reply.TheVariants as reply
use Rattle.step_core.specs.declared.step.Step.TheVariants as step
use Rattle.run_laws.proofs.Standing as standing
use Rattle.std.proofs.Common.{◌≡◌, ◌≤◌, ◌+◌, ◌-◌, ℕ, false, nat_lt, List, [], ◌∷◌, ◌++◌, length, take, drop, replicate, sum_by, cond, refl, ap, ap₂, sym, ◌∙◌, arith, append_assoc, length-append, ◌==◌, ◌&&◌, Option, Some, None, subst, Bool, true, if◌then◌else◌, eqb-true}
use Rattle.std.proofs.{Math.Seq.{drop-append_seam, take-append_seam}, lemmas.Bool.{or_parts, and_parts, Decides.nat_tests}}
use Rattle.std.proofs.lemmas.List.{length-take-le, length-drop, take-append-drop, take-replicate, drop-replicate, replicate-append-replicate, length-replicate}
use Rattle.std.{proofs.lemmas.List.{Folds.drop_split, Sums.sum_by-cons}, specs.List.{AllByRecursion, list_any, slice_range}}
use Rattle.page_memory.specs.Pages.{with_bytes, zero_page}
use Rattle.io_commands.{proofs.Building.numbers_of-filled, specs.{Asked.Request, DataBytes.{PagesOut, data_length, filled, gathered}}}
use Rattle.io_commands.specs.{Drafts.{DraftContents, built, laid, draft_segments}, Requests.{crosses_page, data_count, is_data}}
use Rattle.io_commands.specs.{Values.{FinishedContents, numbers_of}, declared.{request.Piece.Piece}}
use Rattle.io_commands.specs.declared.request.Piece.TheVariants.{Data, Bucket}
use Rattle.machine_model.{proofs.Steps.{first_fails, rest_fails}, specs.{Events.Event, Image.{draft_of, is_draft}, Proper.{IsPage, IsProperDraft}}}
use Rattle.machine_model.specs.Script.{Table, finished_at, fill_fault, filled_draft}
use Rattle.step_core.{proofs.Order.{asked_at, filled_stays_proper, built_stays_proper}, specs.Bench.{Fills, Builds, Gathers, IsOwn, asked, told, kept}}
use Rattle.step_core.specs.Values.{Reply, Step}
use Rattle.host_core.proofs.Lists.{all-from}
use Rattle.host_core.proofs.Outstanding.{find_more}
use Rattle.host_core.specs.Firsts.{without_first, with_first}
use Rattle.run_laws.proofs.{KeptValues.{StepKind, OfMachine, OfBench, kind}, Standing.{find_with, find_with_other, find_without_other}}
use Rattle.run_laws.specs.{Drafts.{fill_by, takes_by, takes_draft, fills_of, data_bytes, written_over}, Values.{Done, Goes}}
use Rattle.sgl_descriptor.specs.declared.Descriptor.{Descriptor}
use Rattle.two_sides.proofs.Served.{good_is, not_crossing}

-- What data pages gather once they are filled, and as they are reserved.

-- One piece

-- bytes that were written at an offset are read there
read_back : (page new : List ℕ) (at len : ℕ) → length new ≡ len → at + len ≤ length page → slice_range (with_bytes page at new) at (at + len) ≡ new
read_back page new at len long fits =
    ap (take (at + len - at)) dropped ∙ ap (λ (n : ℕ). take n (new ++ drop (at + length new) page)) (omega (arith, long)) ∙ take-append_seam new (drop (at + length new) page)
  where
    dropped : drop at (take at page ++ new ++ drop (at + length new) page) ≡ new ++ drop (at + length new) page
    dropped =
        ap (drop at) (append_assoc (take at page) new (drop (at + length new) page))
        ∙ ap (λ (n : ℕ). drop n (take at page ++ (new ++ drop (at + length new) page))) (sym (length-take-le at page (omega (arith, fits))))
        ∙ drop-append_seam (take at page) (new ++ drop (at + length new) page)

-- what is at an offset, written there again, changes nothing; and of two writes there the second counts
put_back : (page : List ℕ) (at len : ℕ) → at + len ≤ length page → with_bytes page at (slice_range page at (at + len)) ≡ page
put_back page at len fits =
    let ends : at + length (slice_range page at (at + len)) ≡ at + len = omega (arith, length-take-le (at + len - at) (drop at page) (omega (arith, length-drop at page, fits))) in
    ap (λ (n : ℕ). take at page ++ slice_range page at (at + len) ++ drop n page) ends ∙ append_assoc (take at page) (slice_range page at (at + len)) (drop (at + len) page)
    ∙ ap (λ (xs : List ℕ). take at page ++ xs) (sym (drop_split page at (at + len) (omega arith))) ∙ take-append-drop at page

put_twice : (page old new : List ℕ) (at len : ℕ) → length old ≡ len → length new ≡ len → at + len ≤ length page → with_bytes (with_bytes page at old) at new ≡ with_bytes page at new
put_twice page old new at len was is fits = ap₂ (λ (xs ys : List ℕ). xs ++ new ++ ys) front behind
  where
    first : length (take at page) ≡ at
    first = length-take-le at page (omega (arith, fits))

    both : length (take at page ++ old) ≡ at + length new
    both = length-append (take at page) old ∙ omega (arith, first, was, is)

    front : take at (take at page ++ old ++ drop (at + length old) page) ≡ take at page
    front =
        ap (take at) (append_assoc (take at page) old (drop (at + length old) page))
        ∙ ap (λ (n : ℕ). take n (take at page ++ (old ++ drop (at + length old) page))) (sym first) ∙ take-append_seam (take at page) (old ++ drop (at + length old) page)

    behind : drop (at + length new) (take at page ++ old ++ drop (at + length old) page) ≡ drop (at + length new) page
    behind =
        ap (λ (n : ℕ). drop n (take at page ++ old ++ drop (at + length old) page)) (sym both) ∙ drop-append_seam (take at page ++ old) (drop (at + length old) page)
        ∙ ap (λ (n : ℕ). drop (at + n) page) (was ∙ sym is)

zeros_read : (at len : ℕ) → at + len ≤ 4096 → slice_range zero_page at (at + len) ≡ replicate len 0
unfolding zero_page
zeros_read at len fits =
    ap (take (at + len - at)) (drop-replicate at 4096 0) ∙ take-replicate (at + len - at) (4096 - at) 0 (omega (arith, fits)) ∙ ap (λ (n : ℕ). replicate n 0) (omega arith)

-- All pieces

no_bytes : (bytes : List ℕ) → length bytes ≡ 0 → [] ≡ bytes
no_bytes [] e = refl
no_bytes (b ∷ bytes) e = absurd (omega (arith, e))

one_data : (piece : Piece) (pieces : List Piece) → data_count (piece ∷ pieces) ≡ cond (is_data piece) 1 0 + data_count pieces
one_data piece pieces = sum_by-cons (λ (x : Piece). cond (is_data x) 1 0) piece pieces

pub gathered_filled : (pieces : List Piece) (pages : PagesOut) (bytes : List ℕ) → list_any crosses_page pieces ≡ false → AllByRecursion (λ page. IsPage page.1) pages → length pages ≡ data_count pieces
    → length bytes ≡ sum_by data_length pieces → gathered pieces (filled pieces pages bytes) ≡ bytes
gathered_filled [] pages bytes within whole count long = no_bytes bytes long
gathered_filled (Bucket len ∷ pieces) pages bytes within whole count long =
    gathered_filled pieces pages bytes within whole (omega (arith, count, one_data (Bucket len) pieces)) (omega (arith, long, sum_by-cons data_length (Bucket len) pieces))
gathered_filled (Data offset len ∷ pieces) [] bytes within whole count long = absurd (omega (arith, count, one_data (Data offset len) pieces))
gathered_filled (Data offset len ∷ pieces) (page ∷ pages) bytes within whole count long =
    let c = or_parts (nat_lt 4096 (offset + len)) (list_any crosses_page pieces) within in
    let some = sum_by-cons data_length (Data offset len) pieces in
    ap₂ (λ (xs ys : List ℕ). xs ++ ys)
    (read_back page.1 (take len bytes) offset len (length-take-le len bytes (omega (arith, long, some))) (omega (arith, not_crossing offset len c.0, whole.0)))
    (gathered_filled pieces pages (drop len bytes) c.1 whole.1 (omega (arith, count, one_data (Data offset len) pieces)) (omega (arith, length-drop len bytes, long, some)))
    ∙ take-append-drop len bytes

pub filled_same : (pieces : List Piece) (pages : PagesOut) → list_any crosses_page pieces ≡ false → AllByRecursion (λ page. IsPage page.1) pages → filled pieces pages (gathered pieces pages) ≡ pages
filled_same [] pages within whole = refl
filled_same (Bucket len ∷ pieces) pages within whole = filled_same pieces pages within whole
filled_same (Data offset len ∷ pieces) [] within whole = refl
filled_same (Data offset len ∷ pieces) (page ∷ pages) within whole =
    let c = or_parts (nat_lt 4096 (offset + len)) (list_any crosses_page pieces) within in
    let fits : offset + len ≤ length page.1 = omega (arith, not_crossing offset len c.0, whole.0) in
    let here = slice_range page.1 offset (offset + len) in
    let long : length (slice_range page.1 offset (offset + len)) ≡ len =
    length-take-le (offset + len - offset) (drop offset page.1) (omega (arith, length-drop offset page.1, fits)) ∙ omega arith in
    ap₂ (λ (x : ℕ × List ℕ) (xs : PagesOut). x ∷ xs)
    (ap (λ (n : ℕ). (page.0, with_bytes page.1 offset (take n (here ++ gathered pieces pages)))) (sym long)
    ∙ ap (λ (bytes : List ℕ). (page.0, with_bytes page.1 offset bytes)) (take-append_seam here (gathered pieces pages)) ∙ ap (λ (bytes : List ℕ). (page.0, bytes)) (put_back page.1 offset len fits))
    (ap (λ (n : ℕ). filled pieces pages (drop n (here ++ gathered pieces pages))) (sym long)
    ∙ ap (filled pieces pages) (drop-append_seam here (gathered pieces pages)) ∙ filled_same pieces pages c.1 whole.1)

pub filled_again : (pieces : List Piece) (pages : PagesOut) (old new : List ℕ) → list_any crosses_page pieces ≡ false → AllByRecursion (λ page. IsPage page.1) pages
    → length old ≡ sum_by data_length pieces → length new ≡ sum_by data_length pieces → filled pieces (filled pieces pages old) new ≡ filled pieces pages new
filled_again (Bucket len ∷ pieces) pages old new within whole was is =
    filled_again pieces pages old new within whole (omega (arith, was, sum_by-cons data_length (Bucket len) pieces)) (omega (arith, is, sum_by-cons data_length (Bucket len) pieces))
filled_again (Data offset len ∷ pieces) (page ∷ pages) old new within whole was is =
    let c = or_parts (nat_lt 4096 (offset + len)) (list_any crosses_page pieces) within in
    let some = sum_by-cons data_length (Data offset len) pieces in
    ap₂ (λ (x : ℕ × List ℕ) (xs : PagesOut). x ∷ xs)
    (ap (λ (bytes : List ℕ). (page.0, bytes))
    (put_twice page.1 (take len old) (take len new) offset len (length-take-le len old (omega (arith, was, some))) (length-take-le len new (omega (arith, is, some)))
    (omega (arith, not_crossing offset len c.0, whole.0))))
    (filled_again pieces pages (drop len old) (drop len new) c.1 whole.1 (omega (arith, length-drop len old, was, some)) (omega (arith, length-drop len new, is, some)))
filled_again pieces pages old new within whole was is = refl

pub gathered_length : (pieces : List Piece) (pages : PagesOut) → list_any crosses_page pieces ≡ false → AllByRecursion (λ page. IsPage page.1) pages → length pages ≡ data_count pieces
    → length (gathered pieces pages) ≡ sum_by data_length pieces
gathered_length [] pages within whole count = refl
gathered_length (Bucket len ∷ pieces) pages within whole count =
    omega (arith, gathered_length pieces pages within whole (omega (arith, count, one_data (Bucket len) pieces)), sum_by-cons data_length (Bucket len) pieces)
gathered_length (Data offset len ∷ pieces) [] within whole count = absurd (omega (arith, count, one_data (Data offset len) pieces))
gathered_length (Data offset len ∷ pieces) (page ∷ pages) within whole count =
    let c = or_parts (nat_lt 4096 (offset + len)) (list_any crosses_page pieces) within in
    let here = slice_range page.1 offset (offset + len) in
    omega (
      arith,
      length-append here (gathered pieces pages),
      length-take-le (offset + len - offset) (drop offset page.1) (omega (arith, length-drop offset page.1, not_crossing offset len c.0, whole.0)),
      gathered_length pieces pages c.1 whole.1 (omega (arith, count, one_data (Data offset len) pieces)),
      sum_by-cons data_length (Data offset len) pieces,
    )

pub gathered_zeros : (pieces : List Piece) (pages : PagesOut) → list_any crosses_page pieces ≡ false → AllByRecursion (λ page. page.1 ≡ zero_page) pages → length pages ≡ data_count pieces
    → gathered pieces pages ≡ replicate (sum_by data_length pieces) 0
gathered_zeros [] pages within zero count = refl
gathered_zeros (Bucket len ∷ pieces) pages within zero count = grind (arith, gathered_zeros pieces pages, one_data, sum_by-cons)
gathered_zeros (Data offset len ∷ pieces) [] within zero count = absurd (omega (arith, count, one_data (Data offset len) pieces))
gathered_zeros (Data offset len ∷ pieces) (page ∷ pages) within zero count =
    let c = or_parts (nat_lt 4096 (offset + len)) (list_any crosses_page pieces) within in
    ap₂ (λ (xs ys : List ℕ). xs ++ ys)
    (ap (λ (bytes : List ℕ). slice_range bytes offset (offset + len)) zero.0 ∙ zeros_read offset len (not_crossing offset len c.0))
    (gathered_zeros pieces pages c.1 zero.1 (omega (arith, count, one_data (Data offset len) pieces)))
    ∙ replicate-append-replicate len (sum_by data_length pieces) 0 ∙ ap (λ (n : ℕ). replicate n 0) (sym (sum_by-cons data_length (Data offset len) pieces))

-- What each step of a bench does to the drafts that it keeps, and to the world.

-- a step that fills nothing; one that takes no draft either; and an event that takes none
abbrev pub FillsNone : Step → Reply → Type 0
FillsNone what answer = (q cid : ℕ) → fill_by q cid what answer ≡ []

abbrev pub IsIdle : Step → Reply → Type 0
IsIdle what answer = (q cid : ℕ) → (fill_by q cid what answer ≡ []) × (takes_by q cid what answer ≡ false)

abbrev pub TakesNone : Event → events.Reply → Type 0
TakesNone e r = (q cid : ℕ) → standing.takes_by q cid e r ≡ false

pub data DraftMove (t : Table) (what : Step) (answer : Reply) (new : Table) : Type 0 where
  -- nothing happens to the drafts and the world
  Rested : new.drafts ≡ t.drafts → new.world ≡ t.world → IsIdle what answer → DraftMove t what answer new
  -- the world goes on, and the drafts stay
  Stepped : new.drafts ≡ t.drafts → (e : Event) → (r : events.Reply) → machine.Step t.world e r new.world → TakesNone e r → IsIdle what answer → DraftMove t what answer new
  -- a command is reserved
  Added : (q : ℕ) → (request : Request) → (d : DraftContents) → machine.Step t.world (events.Reserve q request) (events.Reserved d) new.world
      → what ≡ step.Reserve q request → answer ≡ reply.Reserved d.q d.cid (length d.data_pages) (length d.chain_pages) → new.drafts ≡ t.drafts ++ d ∷ [] → IsIdle what answer → DraftMove t what answer new
  -- a draft is filled, or built
  Filled : (k n : ℕ) → (bytes : List ℕ) → (d : DraftContents) → ((q cid : ℕ) → fill_by q cid what answer ≡ fill_by q cid (step.Fill k n bytes) reply.Accepted)
      → draft_of k n t.drafts ≡ Some d → fill_fault bytes d ≡ None → new.world ≡ t.world → new.drafts ≡ with_first (is_draft k n) (filled_draft bytes) t.drafts → ((q cid : ℕ) → takes_by q cid what answer ≡ false) → DraftMove t what answer new
  Built : (k n : ℕ) → (d : DraftContents) → draft_of k n t.drafts ≡ Some d → new.world ≡ t.world → new.drafts ≡ with_first (is_draft k n) built t.drafts → IsIdle what answer → DraftMove t what answer new
  -- a draft is submitted, or cancelled
  Taken : (k n : ℕ) → (e : Event) → machine.Step t.world e events.Accepted new.world → ((q cid : ℕ) → standing.takes_by q cid e events.Accepted ≡ ((k == q) && (n == cid)))
      → ((q cid : ℕ) → takes_by q cid what answer ≡ ((k == q) && (n == cid))) → new.drafts ≡ without_first (is_draft k n) t.drafts → FillsNone what answer → DraftMove t what answer new

-- Steps

rests : (t new : Table) (what : Step) (answer : Reply) → IsIdle what answer → new ≡ t → DraftMove t what answer new
rests t new what answer none is = Rested (ap (λ (x : Table). x.drafts) is) (ap (λ (x : Table). x.world) is) none

fills : (t : Table) (q cid : ℕ) (bytes : List ℕ) (o : Option DraftContents) (answer : Reply) (new : Table) → draft_of q cid t.drafts ≡ o → Fills t q cid bytes o answer new → DraftMove t (step.Fill q cid bytes) answer new
fills t q cid bytes None answer new e is = rests t new (step.Fill q cid bytes) answer (λ k n. (ap (fill_by k n (step.Fill q cid bytes)) is.0, refl)) is.1
fills t q cid bytes (Some d) reply.Accepted new e is = Filled q cid bytes d (λ k n. refl) e is.0 (ap (λ (x : Table). x.world) is.1) (ap (λ (x : Table). x.drafts) is.1) (λ k n. refl)
fills t q cid bytes (Some d) (reply.NotFilled why) new e is = rests t new (step.Fill q cid bytes) (reply.NotFilled why) (λ k n. (refl, refl)) is.1
fills t q cid bytes (Some d) answer new e is = absurd is

builds : (t : Table) (q cid : ℕ) (o : Option DraftContents) (answer : Reply) (new : Table) → draft_of q cid t.drafts ≡ o → Builds t q cid o answer new → DraftMove t (step.Build q cid) answer new
builds t q cid None answer new e is = rests t new (step.Build q cid) answer (λ k n. (refl, refl)) is.1
builds t q cid (Some d) reply.Accepted new e is = Built q cid d e (ap (λ (x : Table). x.world) is) (ap (λ (x : Table). x.drafts) is) (λ k n. (refl, refl))
builds t q cid (Some d) (reply.Refused refusal.Memory []) new e is = rests t new (step.Build q cid) (reply.Refused refusal.Memory []) (λ k n. (refl, refl)) is
builds t q cid (Some d) answer new e is = absurd is

gathers : (t : Table) (q cid : ℕ) (o : Option FinishedContents) (answer : Reply) (new : Table) → Gathers t o answer new → DraftMove t (step.Gather q cid) answer new
gathers t q cid None answer new is = rests t new (step.Gather q cid) answer (λ k n. (refl, refl)) is.1
gathers t q cid (Some f) (reply.Gathered bytes) new is = rests t new (step.Gather q cid) (reply.Gathered bytes) (λ k n. (refl, refl)) is.1
gathers t q cid (Some f) (reply.Refused refusal.Memory []) new is = rests t new (step.Gather q cid) (reply.Refused refusal.Memory []) (λ k n. (refl, refl)) is
gathers t q cid (Some f) answer new is = absurd is

own_moves : (t : Table) (what : Step) (answer : Reply) (new : Table) → IsOwn t what answer new → DraftMove t what answer new
own_moves t (step.Fill q cid bytes) answer new is = fills t q cid bytes (draft_of q cid t.drafts) answer new refl is
own_moves t (step.Build q cid) answer new is = builds t q cid (draft_of q cid t.drafts) answer new refl is
own_moves t (step.Gather q cid) answer new is = gathers t q cid (finished_at q cid t.finished) answer new is
own_moves t what answer new is = rests t new what answer (λ k n. (ap (fill_by k n what) is.0, ap (takes_by k n what) is.0)) is.1

event_moves : (t : Table) (e : Event) (r : events.Reply) (new : Table) → machine.Step t.world e r new.world → new ≡ record (kept t (asked e) r) { world = new.world } → DraftMove t (asked e) (told r) new
event_moves t (events.Reserve q request) (events.Reserved d) new is keeps = Added q request d is refl refl (ap (λ (x : Table). x.drafts) keeps) (λ k n. (refl, refl))
event_moves t (events.Submit d) events.Accepted new is keeps = Taken d.q d.cid (events.Submit d) is (λ k n. refl) (λ k n. refl) (ap (λ (x : Table). x.drafts) keeps) (λ k n. refl)
event_moves t (events.Cancel d) events.Accepted new is keeps = Taken d.q d.cid (events.Cancel d) is (λ k n. refl) (λ k n. refl) (ap (λ (x : Table). x.drafts) keeps) (λ k n. refl)
event_moves t (events.Collect q cid) (events.Collects f) new is keeps = Stepped (ap (λ (x : Table). x.drafts) keeps) (events.Collect q cid) (events.Collects f) is (λ k n. refl) (λ k n. (refl, refl))
event_moves t (events.Release f) events.Accepted new is keeps = Stepped (ap (λ (x : Table). x.drafts) keeps) (events.Release f) events.Accepted is (λ k n. refl) (λ k n. (refl, refl))
event_moves t e r new is keeps = Stepped (ap (λ (x : Table). x.drafts) keeps) e r is (λ k n. refl) (λ k n. (refl, refl))

pub moves : (d : Done) → DraftMove d.before d.what d.answer d.after
moves d = by_kind (kind d)
  where
    by_kind : StepKind d → DraftMove d.before d.what d.answer d.after
    by_kind (OfMachine e at m same) =
        let asks = asked_at d.before d.what e at in
        subst (λ (what : Step). DraftMove d.before what d.answer d.after) (sym asks)
        (subst (λ (answer : Reply). DraftMove d.before (asked e) answer d.after) (sym m.tells)
        (event_moves d.before e m.reply d.after m.step (subst (λ (what : Step). d.after ≡ record (kept d.before what m.reply) { world = d.after.world }) asks m.keeps)))
    by_kind (OfBench at own same) = own_moves d.before d.what d.answer d.after own

-- A draft that a bench keeps, along the steps that don't take it: its request and pages stay, and its bytes are those of its fills.

-- what fills and builds leave of a draft
pub record Leaves (d : DraftContents) (fills : List (List ℕ)) (x : DraftContents) : Type 0 where
  pub queue : x.q ≡ d.q
  pub identifier : x.cid ≡ d.cid
  pub request : x.request ≡ d.request
  pub segment : x.segment ≡ d.segment
  pub data_pages : numbers_of x.data_pages ≡ numbers_of d.data_pages
  pub chain_pages : numbers_of x.chain_pages ≡ numbers_of d.chain_pages
  pub bytes : gathered d.request.pieces x.data_pages ≡ written_over (data_bytes d.request) (gathered d.request.pieces d.data_pages) fills
  pub long : length (written_over (data_bytes d.request) (gathered d.request.pieces d.data_pages) fills) ≡ data_bytes d.request
  pub pages : x.data_pages ≡ filled d.request.pieces d.data_pages (written_over (data_bytes d.request) (gathered d.request.pieces d.data_pages) fills)

whole_pages : (d : DraftContents) → IsProperDraft d → AllByRecursion (λ page. IsPage page.1) d.data_pages
whole_pages d proper = all-from (λ page. IsPage page.1) d.data_pages proper.data_pages

leaves_all : (d : DraftContents) → IsProperDraft d → Leaves d [] d
leaves_all d proper =
    record {
      queue = refl;
      identifier = refl;
      request = refl;
      segment = refl;
      data_pages = refl;
      chain_pages = refl;
      bytes = refl;
      long = gathered_length d.request.pieces d.data_pages (good_is d.request proper.draft.good).crosses (whole_pages d proper) proper.draft.pieces_have_pages;
      pages = sym (filled_same d.request.pieces d.data_pages (good_is d.request proper.draft.good).crosses (whole_pages d proper));
    }

-- A fill

few_bytes : (bytes : List ℕ) (d : DraftContents) → fill_fault bytes d ≡ None → nat_lt (data_bytes d.request) (length bytes) ≡ false
few_bytes bytes d none = grind (arith, first_fails, rest_fails, kind)

long_enough : (whole n : ℕ) → nat_lt whole n ≡ false → n + (whole - n) ≡ whole
long_enough whole n h = grind (arith, nat_tests, h)

padded_length : (bytes : List ℕ) (whole : ℕ) → nat_lt whole (length bytes) ≡ false → length (bytes ++ replicate (whole - length bytes) 0) ≡ whole
padded_length bytes whole h = length-append bytes (replicate (whole - length bytes) 0) ∙ ap (λ (n : ℕ). length bytes + n) (length-replicate (whole - length bytes) 0) ∙ long_enough whole (length bytes) h

leaves_filled : (fill : List ℕ) (d : DraftContents) (fills : List (List ℕ)) (x : DraftContents) → IsProperDraft d → fill_fault fill d ≡ None → Leaves (filled_draft fill d) fills x → Leaves d (fill ∷ fills) x
leaves_filled fill d fills x proper fits h =
    record {
      queue = h.queue;
      identifier = h.identifier;
      request = h.request;
      segment = h.segment;
      data_pages = h.data_pages ∙ numbers_of-filled d.request.pieces d.data_pages padded;
      chain_pages = h.chain_pages;
      bytes = h.bytes ∙ after;
      long = ap length (sym after) ∙ h.long;
      pages = h.pages ∙ ap (filled d.request.pieces (filled d.request.pieces d.data_pages padded)) after
          ∙ filled_again d.request.pieces d.data_pages padded (written_over (data_bytes d.request) padded fills) crosses (whole_pages d proper) count (ap length (sym after) ∙ h.long);
    }
  where
    padded : List ℕ
    padded = fill ++ replicate (sum_by data_length d.request.pieces - length fill) 0

    crosses : list_any crosses_page d.request.pieces ≡ false
    crosses = (good_is d.request proper.draft.good).crosses

    count : length (fill ++ replicate (sum_by data_length d.request.pieces - length fill) 0) ≡ sum_by data_length d.request.pieces
    count = padded_length fill (data_bytes d.request) (few_bytes fill d fits)

    after : written_over (data_bytes d.request) (gathered d.request.pieces (filled d.request.pieces d.data_pages (fill ++ replicate (sum_by data_length d.request.pieces - length fill) 0))) fills
        ≡ written_over (data_bytes d.request) (fill ++ replicate (sum_by data_length d.request.pieces - length fill) 0) fills
    after = ap (λ (bytes : List ℕ). written_over (data_bytes d.request) bytes fills) (gathered_filled d.request.pieces d.data_pages padded crosses (whole_pages d proper) proper.draft.pieces_have_pages count)

-- A build

numbers_laid : (segments : List (List Descriptor)) (pages : PagesOut) → numbers_of (laid segments pages) ≡ numbers_of pages
numbers_laid (segment ∷ segments) (page ∷ pages) = ap (λ (ns : List ℕ). page.0 ∷ ns) (numbers_laid segments pages)
numbers_laid segments pages = refl

leaves_built : (d : DraftContents) (fills : List (List ℕ)) (x : DraftContents) → Leaves (built d) fills x → Leaves d fills x
leaves_built d fills x h =
    record {
      queue = h.queue;
      identifier = h.identifier;
      request = h.request;
      segment = h.segment;
      data_pages = h.data_pages;
      chain_pages = h.chain_pages ∙ numbers_laid (draft_segments d) d.chain_pages;
      bytes = h.bytes;
      long = h.long;
      pages = h.pages;
    }

-- One step

pub record Tracked (q cid : ℕ) (d : DraftContents) (fills : List (List ℕ)) (end : Table) : Type 0 where
  pub draft : DraftContents
  pub found : draft_of q cid end.drafts ≡ Some draft
  pub leaves : Leaves d fills draft

-- drafts of another name
other_draft : (q cid k n : ℕ) → ((k == q) && (n == cid)) ≡ false → (d : DraftContents) → is_draft k n d ≡ true → is_draft q cid d ≡ false
other_draft q cid k n far d e = grind (arith, eqb-true)

only_draft : {x y : DraftContents} → Some x ≡ Some y → x ≡ y
only_draft e = cc

abbrev Onward : ℕ → ℕ → List (List ℕ) → Table → Table → Type 0
Onward q cid fills new end = (x : DraftContents) → draft_of q cid new.drafts ≡ Some x → IsProperDraft x → Tracked q cid x fills end

step_tracked : (q cid : ℕ) (fills : List (List ℕ)) (t : Table) (what : Step) (answer : Reply) (new end : Table) (d : DraftContents) → DraftMove t what answer new → takes_by q cid what answer ≡ false
    → draft_of q cid t.drafts ≡ Some d → IsProperDraft d → Onward q cid fills new end → Tracked q cid d (fill_by q cid what answer ++ fills) end
step_tracked q cid fills t what answer new end d (Rested drafts world none) far found proper on =
    subst (λ (now : List (List ℕ)). Tracked q cid d (now ++ fills) end) (sym (none q cid).0) (on d (ap (draft_of q cid) drafts ∙ found) proper)
step_tracked q cid fills t what answer new end d (Stepped drafts e r step untaken none) far found proper on =
    subst (λ (now : List (List ℕ)). Tracked q cid d (now ++ fills) end) (sym (none q cid).0) (on d (ap (draft_of q cid) drafts ∙ found) proper)
step_tracked q cid fills t what answer new end d (Added k request x step is says drafts none) far found proper on = grind (arith, fills, find_more)
step_tracked q cid fills t what answer new end d (Filled k n bytes x fill at fits world drafts untaken) far found proper on =
    subst (λ (now : List (List ℕ)). Tracked q cid d (now ++ fills) end) (sym (fill q cid)) (by_name ((k == q) && (n == cid)) refl)
  where
    by_name : (b : Bool) → ((k == q) && (n == cid)) ≡ b → Tracked q cid d ((if b then bytes ∷ [] else []) ++ fills) end
    by_name false e =
        on d (ap (draft_of q cid) drafts ∙ find_with_other (is_draft q cid) (is_draft k n) (filled_draft bytes) (λ y. refl) (other_draft q cid k n e) t.drafts ∙ found) proper
    by_name true e =
        let both = and_parts (k == q) (n == cid) e in
        let same : x ≡ d =
        only_draft (sym at ∙ ap (λ (m : ℕ). draft_of m n t.drafts) (eqb-true k q both.0) ∙ ap (λ (m : ℕ). draft_of q m t.drafts) (eqb-true n cid both.1) ∙ found) in
        let now : draft_of q cid new.drafts ≡ Some (filled_draft bytes d) =
        ap (draft_of q cid) drafts ∙ ap (λ (m : ℕ). draft_of q cid (with_first (is_draft m n) (filled_draft bytes) t.drafts)) (eqb-true k q both.0)
        ∙ ap (λ (m : ℕ). draft_of q cid (with_first (is_draft q m) (filled_draft bytes) t.drafts)) (eqb-true n cid both.1)
        ∙ find_with (is_draft q cid) (filled_draft bytes) (λ y. refl) t.drafts d found in
        let rest = on (filled_draft bytes d) now (filled_stays_proper bytes d proper) in
        record { draft = rest.draft; found = rest.found; leaves = leaves_filled bytes d fills rest.draft proper (ap (fill_fault bytes) (sym same) ∙ fits) rest.leaves }
step_tracked q cid fills t what answer new end d (Built k n x at world drafts none) far found proper on =
    subst (λ (now : List (List ℕ)). Tracked q cid d (now ++ fills) end) (sym (none q cid).0) (by_name ((k == q) && (n == cid)) refl)
  where
    by_name : (b : Bool) → ((k == q) && (n == cid)) ≡ b → Tracked q cid d fills end
    by_name false e = on d (ap (draft_of q cid) drafts ∙ find_with_other (is_draft q cid) (is_draft k n) built (λ y. refl) (other_draft q cid k n e) t.drafts ∙ found) proper
    by_name true e =
        let both = and_parts (k == q) (n == cid) e in
        let now : draft_of q cid new.drafts ≡ Some (built d) =
        ap (draft_of q cid) drafts ∙ ap (λ (m : ℕ). draft_of q cid (with_first (is_draft m n) built t.drafts)) (eqb-true k q both.0)
        ∙ ap (λ (m : ℕ). draft_of q cid (with_first (is_draft q m) built t.drafts)) (eqb-true n cid both.1) ∙ find_with (is_draft q cid) built (λ y. refl) t.drafts d found in
        let rest = on (built d) now (built_stays_proper d proper) in
        record { draft = rest.draft; found = rest.found; leaves = leaves_built d fills rest.draft rest.leaves }
step_tracked q cid fills t what answer new end d (Taken k n e step takes its drafts none) far found proper on = grind (arith, fills, find_without_other, other_draft)

-- Along the steps

pub tracked : (q cid : ℕ) (done : List Done) (t end : Table) (d : DraftContents) → Goes t done end → list_any (takes_draft q cid) done ≡ false → draft_of q cid t.drafts ≡ Some d → IsProperDraft d
    → Tracked q cid d (fills_of q cid done) end
tracked q cid [] t end d is none found proper = record { draft = d; found = ap (λ (x : Table). draft_of q cid x.drafts) is ∙ found; leaves = leaves_all d proper }
tracked q cid (m ∷ done) t end d (at, rest) none found proper =
    let both = or_parts (takes_draft q cid m) (list_any (takes_draft q cid) done) none in
    step_tracked q cid (fills_of q cid done) m.before m.what m.answer m.after end d (moves m) both.0
    (ap (λ (x : Table). draft_of q cid x.drafts) at ∙ found) proper (λ x there fine. tracked q cid done m.after end x rest both.1 there fine)
