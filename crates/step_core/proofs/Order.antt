-- The event that a step of a bench is, that each has an answer, and what they keep: order, proper drafts, the laws of trusted runs.
use Rattle.machine_model.specs.Events as events
use Rattle.step_core.specs.declared.step.Step.TheVariants as step
use Rattle.machine_model.specs.declared.words.Refusal.TheVariants as refusal
use Rattle.step_core.specs.declared.step.Reply.TheVariants as reply
use Rattle.machine_model.specs.Step as machine
use Rattle.two_sides.proofs.Agreed as orders
use Rattle.machine_model.specs.Trusted as trusted
use Rattle.std.proofs.Common.{◌≡◌, ◌==◌, ℕ, Bool, true, false, Option, Some, None, List, if◌then◌else◌, eqb-true, refl, ap, ap₂, sym, ◌∙◌, subst, [], ◌≤◌, ◌+◌, ◌-◌, nat_lt, nat_le, ◌∷◌, ◌++◌, length, map, take, drop, replicate, sum_by, arith, ◌&&◌, ◌||◌, not, IsTrue}
use Rattle.std.proofs.lemmas.{Bool.{and_parts, or_parts, Decides.nat_tests}, Grind.common_steps, List.length-map}
use Rattle.std.specs.{List.{list_any, AllByRecursion, list_all}, Option.option_map}
use Rattle.io_commands.{proofs.Building.{some_parts, no_segments, built_keeps, fill_keeps}, specs.DataBytes.{PagesOut, data_length, filled}}
use Rattle.io_commands.specs.{Drafts.{DraftContents, IsDraft, built, laid, draft_parts, draft_segments}, Requests.{crosses_page, has_list}}
use Rattle.io_commands.specs.{Values.{FinishedContents, numbers_of}, declared.{draft.FillFault.FillFault, request.Piece.{Piece, TheVariants.{Data, Bucket}}}}
use Rattle.machine_model.specs.{Events.Event, Image.{draft_of, is_draft, Made}, Proper.{IsProper, IsProperDraft, IsPage}}
use Rattle.machine_model.specs.{Script.{Table, finished_at, is_ticket, is_finished, fill_fault, filled_draft, table}, State.State}
use Rattle.machine_model.specs.{Touch.{allowed, own_pages, touched_by}, Trusted.Steps}
use Rattle.host_core.proofs.Lists.{all-from}
use Rattle.host_core.specs.Firsts.{with_first, without_first}
use Rattle.step_core.specs.Bench.{event_at, asked, DoesBy, IsOwn, Fills, Builds, Gathers, told, kept, DoesAll}
use Rattle.step_core.specs.Going.{IsTableInOrder, IsFitStep, benches_go_on, benches_open_in_order, benches_keep_order, forges_by, has_forgery, benches_touch_what_they_may, benches_make_trusted_runs}
use Rattle.step_core.specs.{Laws.{made_from, benches_run_the_machine, made_by}, Opening.opening_of, Values.{Step, Reply}}
use Rattle.two_sides.proofs.{Agreed.{answers_every_event, order_kept, agreed_stays}, JobLaws.length_put}
use Rattle.two_sides.proofs.Served.{good_is, reserved_is_proper, collected_is_proper, not_crossing}
use Rattle.two_sides.specs.InOrder.{openings_are_in_order, steps_keep_order, reserved_drafts_are_proper, collected_commands_are_proper}
use Rattle.sgl_descriptor.specs.{Targets.descriptor_of_part, declared.{Descriptor.Descriptor, Part.Part}}
use Rattle.sgl_chain.{proofs.{Back.length-built, Spelled.length-segment_bytes}, specs.Chains.{segments_on, segment_bytes, link_to}}
use Rattle.page_memory.specs.Pages.{with_bytes}
use Rattle.page_ledger.specs.Owners.{is_among}
use Rattle.page_memory.proofs.Lists.{all-append, found_is, all-to, all-found}

-- The event that a step of a bench is.

pub named_draft : (q cid : ℕ) (drafts : List DraftContents) (d : DraftContents) → draft_of q cid drafts ≡ Some d → (d.q ≡ q) × (d.cid ≡ cid)
named_draft q cid drafts d e =
    let both = and_parts (d.q == q) (d.cid == cid) (found_is (is_draft q cid) drafts d e) in
    (eqb-true d.q q both.0, eqb-true d.cid cid both.1)

pub named_finished : (q cid : ℕ) (finished : List FinishedContents) (f : FinishedContents) → finished_at q cid finished ≡ Some f → (f.q ≡ q) × (f.cid ≡ cid)
named_finished q cid finished f e =
    let both = and_parts (f.q == q) (f.cid == cid) (found_is (is_finished q cid) finished f e) in
    (eqb-true f.q q both.0, eqb-true f.cid cid both.1)

pub inside : {x y : Event} → Some x ≡ Some y → x ≡ y
inside e = cc

-- what holds of the event of each value holds of that of the one that is found
pub found_event : {X : Type 0} (P : Event → Type 0) (event : X → Event) (o : Option X) (e : Event) → ((x : X) → o ≡ Some x → P (event x)) → option_map event o ≡ Some e → P e
found_event P event None e each at = absurd cc
found_event P event (Some x) e each at = subst P (inside at) (each x refl)

pub collect_at : (t : Table) (q cid : ℕ) (e : Event) → event_at t (step.Collect q cid) ≡ Some e → events.Collect q cid ≡ e
collect_at t q cid e at = by_ticket (list_any (is_ticket q cid) t.tickets) at
  where
    by_ticket : (b : Bool) → (if b then Some (events.Collect q cid) else None) ≡ Some e → events.Collect q cid ≡ e
    by_ticket true at = inside at
    by_ticket false at = absurd cc

-- a step asks for its event
pub asked_at : (t : Table) (what : Step) (e : Event) → event_at t what ≡ Some e → what ≡ asked e
asked_at t (step.Submit q cid) e at =
    found_event (λ e. step.Submit q cid ≡ asked e) events.Submit (draft_of q cid t.drafts) e (λ d is. let named = named_draft q cid t.drafts d is in ap₂ step.Submit (sym named.0) (sym named.1)) at
asked_at t (step.Cancel q cid) e at =
    found_event (λ e. step.Cancel q cid ≡ asked e) events.Cancel (draft_of q cid t.drafts) e (λ d is. let named = named_draft q cid t.drafts d is in ap₂ step.Cancel (sym named.0) (sym named.1)) at
asked_at t (step.Release q cid) e at =
    found_event (λ e. step.Release q cid ≡ asked e) events.Release (finished_at q cid t.finished) e (λ f is. let named = named_finished q cid t.finished f is in ap₂ step.Release (sym named.0) (sym named.1)) at
asked_at t (step.Collect q cid) e at = ap asked (collect_at t q cid e at)
asked_at t (step.Fill q cid bytes) e at = absurd cc
asked_at t (step.Build q cid) e at = absurd cc
asked_at t (step.Gather q cid) e at = absurd cc
asked_at t what e at = ap asked (inside at)

-- Each step of a bench has an answer.

-- a step whose numbers fit is a proper event
proper : (t : Table) (what : Step) → IsTableInOrder t → IsFitStep what → (e : Event) → event_at t what ≡ Some e → IsProper e
proper t (step.Reserve q request) h fit e at = subst IsProper (inside at) fit
proper t (step.CreateCq q vector) h fit e at = subst IsProper (inside at) fit
proper t (step.Forge q slot bytes) h fit e at = subst IsProper (inside at) fit
proper t (step.Submit q cid) h fit e at = found_event IsProper events.Submit (draft_of q cid t.drafts) e (λ d is. all-found IsProperDraft (is_draft q cid) t.drafts d is h.drafts) at
proper t (step.Cancel q cid) h fit e at = found_event IsProper events.Cancel (draft_of q cid t.drafts) e (λ d is. all-found IsProperDraft (is_draft q cid) t.drafts d is h.drafts) at
proper t (step.Release q cid) h fit e at =
    found_event IsProper events.Release (finished_at q cid t.finished) e (λ f is. all-found (λ x. IsProper (events.Release x)) (is_finished q cid) t.finished f is h.finished) at
proper t (step.Collect q cid) h fit e at = subst IsProper (collect_at t q cid e at) tt
proper t (step.Fill q cid bytes) h fit e at = absurd cc
proper t (step.Build q cid) h fit e at = absurd cc
proper t (step.Gather q cid) h fit e at = absurd cc
proper t what h fit e at = subst IsProper (inside at) tt

-- an answer, and what it leaves
record Has (P : Reply → Table → Type 0) : Type 0 where
  answer : Reply
  left : Table
  is : P answer left

own : (t : Table) (what : Step) → Has (IsOwn t what)
own t (step.Fill q cid bytes) = fills (draft_of q cid t.drafts)
  where
    by_fault : (d : DraftContents) (fault : Option FillFault) → fill_fault bytes d ≡ fault → Has (Fills t q cid bytes (Some d))
    by_fault d None none = record { answer = reply.Accepted; left = record t { drafts = with_first (is_draft q cid) (filled_draft bytes) t.drafts }; is = (none, refl) }
    by_fault d (Some why) some = record { answer = reply.NotFilled why; left = t; is = (some, refl) }

    fills : (o : Option DraftContents) → Has (Fills t q cid bytes o)
    fills None = record { answer = reply.NoValue; left = t; is = (refl, refl) }
    fills (Some d) = by_fault d (fill_fault bytes d) refl
own t (step.Build q cid) = builds (draft_of q cid t.drafts)
  where
    builds : (o : Option DraftContents) → Has (Builds t q cid o)
    builds None = record { answer = reply.NoValue; left = t; is = (refl, refl) }
    builds (Some d) = record { answer = reply.Refused refusal.Memory []; left = t; is = refl }
own t (step.Gather q cid) = gathers (finished_at q cid t.finished)
  where
    gathers : (o : Option FinishedContents) → Has (Gathers t o)
    gathers None = record { answer = reply.NoValue; left = t; is = (refl, refl) }
    gathers (Some f) = record { answer = reply.Refused refusal.Memory []; left = t; is = refl }
own t what = record { answer = reply.NoValue; left = t; is = (refl, refl) }

pub goes_on : benches_go_on
goes_on t what h fit =
    let next = by (event_at t what) (proper t what h fit) in
    record { answer = next.answer; left = next.left; does = next.is }
  where
    by : (o : Option Event) → ((e : Event) → o ≡ Some e → IsProper e) → Has (DoesBy o t what)
    by None fits = own t what
    by (Some e) fits =
        let its = answers_every_event t.world e h.world (fits e refl) in
        record { answer = told its.reply; left = record (kept t what its.reply) { world = its.left }; is = record { reply = its.reply; tells = refl; step = its.step; keeps = refl } }

-- Proper drafts stay proper when they are filled and when they are built; and all else stays.

abbrev IsPageOut : ℕ × List ℕ → Type 0
IsPageOut page = IsPage page.1

-- bytes written within a page leave it whole
put_in_page : (page new : List ℕ) (at : ℕ) → IsPage page → at + length new ≤ 4096 → IsPage (with_bytes page at new)
put_in_page page new at whole fits = length_put page new at (omega (arith, whole, fits)) ∙ whole

-- Filling

few_taken : (n : ℕ) (xs : List ℕ) → length (take n xs) ≤ n
few_taken n xs = grind (arith, common_steps)

filled_pages : (pieces : List Piece) (pages : PagesOut) (bytes : List ℕ) → list_any crosses_page pieces ≡ false → AllByRecursion IsPageOut pages → AllByRecursion IsPageOut (filled pieces pages bytes)
filled_pages [] pages bytes within whole = whole
filled_pages (Bucket len ∷ pieces) pages bytes within whole = filled_pages pieces pages bytes within whole
filled_pages (Data offset len ∷ pieces) [] bytes within whole = tt
filled_pages (Data offset len ∷ pieces) (page ∷ pages) bytes within whole =
    let c = or_parts (nat_lt 4096 (offset + len)) (list_any crosses_page pieces) within in (
      put_in_page page.1 (take len bytes) offset whole.0 (omega (arith, few_taken len bytes, not_crossing offset len c.0)),
      filled_pages pieces pages (drop len bytes) c.1 whole.1,
    )

pub filled_stays_proper : (bytes : List ℕ) (d : DraftContents) → IsProperDraft d → IsProperDraft (filled_draft bytes d)
filled_stays_proper bytes d h =
    let pieces = d.request.pieces in
    let padded = bytes ++ replicate (sum_by data_length pieces - length bytes) 0 in
    record {
      request = h.request;
      data_pages = all-to IsPageOut (filled pieces d.data_pages padded) (filled_pages pieces d.data_pages padded (good_is d.request h.draft.good).crosses (all-from IsPageOut d.data_pages h.data_pages));
      chain_pages = h.chain_pages;
      draft = fill_keeps d padded h.draft;
    }

-- Building

abbrev FitsInPage : List Descriptor → Type 0
FitsInPage descriptors = length descriptors ≤ 256

few_links : (s : ℕ) (pages : List ℕ) (k : ℕ) → length (link_to s pages k) ≤ 1
few_links s [] k = omega arith
few_links s (page ∷ pages) k = omega arith

-- a segment holds at most as many descriptors as one may
whole_segment : (s : ℕ) (parts : List Part) → s ≤ 256 → length parts ≤ s → length (map descriptor_of_part parts) ≤ 256
whole_segment s parts high few = omega (arith, high, few, length-map parts descriptor_of_part)

linked_segment : (s k : ℕ) (pages : List ℕ) (parts : List Part) → 2 ≤ s → s ≤ 256 → length (map descriptor_of_part (take (s - 1) parts) ++ link_to s pages k) ≤ 256
linked_segment s k pages parts low high = grind (arith, common_steps, few_links s pages k)

segments_fit : (s : ℕ) (pages : List ℕ) (parts : List Part) → 2 ≤ s → s ≤ 256 → AllByRecursion FitsInPage (segments_on s pages parts)
segments_fit s [] parts low high = tt
segments_fit s (page ∷ pages) parts low high = by_length (nat_le (length parts) s) refl (segments_fit s pages (drop (s - 1) parts) low high)
  where
    at_most : (k n : ℕ) → nat_le k n ≡ true → k ≤ n
    at_most k n e = grind (arith, nat_tests)

    by_length : (b : Bool) → nat_le (length parts) s ≡ b → AllByRecursion FitsInPage (segments_on s pages (drop (s - 1) parts))
        → AllByRecursion FitsInPage
        (if b then map descriptor_of_part parts ∷ []
        else (map descriptor_of_part (take (s - 1) parts) ++ link_to s pages (length parts - (s - 1))) ∷ segments_on s pages (drop (s - 1) parts))
    by_length true e rest = (whole_segment s parts high (at_most (length parts) s e), tt)
    by_length false e rest = (linked_segment s (length parts - (s - 1)) pages parts low high, rest)

laid_pages : (segments : List (List Descriptor)) (pages : PagesOut) → AllByRecursion FitsInPage segments → AllByRecursion IsPageOut pages → AllByRecursion IsPageOut (laid segments pages)
laid_pages [] pages fit whole = whole
laid_pages (segment ∷ segments) [] fit whole = tt
laid_pages (segment ∷ segments) (page ∷ pages) fit whole =
    (put_in_page page.1 (segment_bytes segment) 0 whole.0 (omega (arith, fit.0, length-segment_bytes segment)), laid_pages segments pages fit.1 whole.1)

-- one segment on each page of a draft's chain
segment_on_each : (d : DraftContents) → IsDraft d → length (draft_segments d) ≡ length d.chain_pages
segment_on_each d h = by (has_list d.request.kind) refl
  where
    by : (b : Bool) → has_list d.request.kind ≡ b → length (draft_segments d) ≡ length d.chain_pages
    by false still = no_segments d h still
    by true list =
        length-built d.segment (numbers_of d.chain_pages) (draft_parts d)
        (record {
          low = h.low;
          high = h.high;
          some = some_parts d.request (numbers_of d.data_pages) h.good list (omega (arith, length-map d.data_pages (λ page. page.0), h.pieces_have_pages));
          needed = length-map d.chain_pages (λ page. page.0) ∙ h.chain_has_pages;
        })
        ∙ sym h.chain_has_pages

pub built_stays_proper : (d : DraftContents) → IsProperDraft d → IsProperDraft (built d)
built_stays_proper d h =
    record {
      request = h.request;
      data_pages = h.data_pages;
      chain_pages =
          all-to IsPageOut (laid (draft_segments d) d.chain_pages)
          (laid_pages (draft_segments d) d.chain_pages (segments_fit d.segment (numbers_of d.chain_pages) (draft_parts d) h.draft.low h.draft.high) (all-from IsPageOut d.chain_pages h.chain_pages));
      draft = built_keeps d (segment_on_each d h.draft) h.draft;
    }

-- Steps of a kept value alone

-- all stays, or a draft changes that stays proper
pub data OwnLeft (t new : Table) : Type 0 where
  Same : new ≡ t → OwnLeft t new
  Changed : (test : DraftContents → Bool) → (f : DraftContents → DraftContents) → ((d : DraftContents) → IsProperDraft d → IsProperDraft (f d)) → new ≡ record t { drafts = with_first test f t.drafts }
      → OwnLeft t new

fills_left : (t : Table) (q cid : ℕ) (bytes : List ℕ) (o : Option DraftContents) (answer : Reply) (new : Table) → Fills t q cid bytes o answer new → OwnLeft t new
fills_left t q cid bytes None answer new is = Same is.1
fills_left t q cid bytes (Some d) reply.Accepted new is = Changed (is_draft q cid) (filled_draft bytes) (filled_stays_proper bytes) is.1
fills_left t q cid bytes (Some d) (reply.NotFilled why) new is = Same is.1
fills_left t q cid bytes (Some d) answer new is = absurd is

builds_left : (t : Table) (q cid : ℕ) (o : Option DraftContents) (answer : Reply) (new : Table) → Builds t q cid o answer new → OwnLeft t new
builds_left t q cid None answer new is = Same is.1
builds_left t q cid (Some d) reply.Accepted new is = Changed (is_draft q cid) built built_stays_proper is
builds_left t q cid (Some d) (reply.Refused refusal.Memory []) new is = Same is
builds_left t q cid (Some d) answer new is = absurd is

gathers_left : (t : Table) (o : Option FinishedContents) (answer : Reply) (new : Table) → Gathers t o answer new → OwnLeft t new
gathers_left t None answer new is = Same is.1
gathers_left t (Some f) (reply.Gathered bytes) new is = Same is.1
gathers_left t (Some f) (reply.Refused refusal.Memory []) new is = Same is
gathers_left t (Some f) answer new is = absurd is

pub own_left : (t : Table) (what : Step) (answer : Reply) (new : Table) → IsOwn t what answer new → OwnLeft t new
own_left t (step.Fill q cid bytes) answer new is = fills_left t q cid bytes (draft_of q cid t.drafts) answer new is
own_left t (step.Build q cid) answer new is = builds_left t q cid (draft_of q cid t.drafts) answer new is
own_left t (step.Gather q cid) answer new is = gathers_left t (finished_at q cid t.finished) answer new is
own_left t what answer new is = Same is.1

pub own_world : (t : Table) (what : Step) (answer : Reply) (new : Table) → IsOwn t what answer new → new.world ≡ t.world
own_world t what answer new is = by_change (own_left t what answer new is)
  where
    by_change : OwnLeft t new → new.world ≡ t.world
    by_change (Same same) = ap (λ (x : Table). x.world) same
    by_change (Changed test f proper same) = ap (λ (x : Table). x.world) same

-- Benches open in order, and each step keeps them so.

opens_in_order : openings_are_in_order → benches_open_in_order
opens_in_order ordered config image opens bytes = record { world = ordered config.pages config.queues config.entries config.segment image opens bytes; drafts = tt; finished = tt }

-- Lists of kept values

all_without : {X : Type 0} (P : X → Type 0) (test : X → Bool) (xs : List X) → AllByRecursion P xs → AllByRecursion P (without_first test xs)
all_without P test [] all = tt
all_without P test (x ∷ xs) all = elim (test x) as (λ b. AllByRecursion P (if b then xs else (x ∷ without_first test xs))) [ true ↦ all.1 | false ↦ (all.0, all_without P test xs all.1) ]

all_with : {X : Type 0} (P : X → Type 0) (test : X → Bool) (f : X → X) → ((x : X) → P x → P (f x)) → (xs : List X) → AllByRecursion P xs → AllByRecursion P (with_first test f xs)
all_with P test f keeps [] all = tt
all_with P test f keeps (x ∷ xs) all = elim (test x) as (λ b. AllByRecursion P (if b then (f x ∷ xs) else (x ∷ with_first test f xs))) [ true ↦ (keeps x all.0, all.1) | false ↦ (all.0, all_with P test f keeps xs all.1) ]

-- Tables

abbrev IsProperFinished : FinishedContents → Type 0
IsProperFinished f = IsProper (events.Release f)

module _ (keep : steps_keep_order) (fresh : reserved_drafts_are_proper) (held : collected_commands_are_proper) where
  -- after a reply of the machine the values stay proper
  values : (t : Table) (what : Step) (e : Event) (r : events.Reply) (new : State) → IsTableInOrder t → event_at t what ≡ Some e → machine.Step t.world e r new
      → AllByRecursion IsProperDraft (kept t what r).drafts × AllByRecursion IsProperFinished (kept t what r).finished
  values t (step.Reserve q request) e (events.Reserved d) new h at is =
      (all-append IsProperDraft t.drafts d h.drafts (fresh t.world new q request d h.world (subst (λ x. machine.Step t.world x (events.Reserved d) new) (sym (inside at)) is)), h.finished)
  values t (step.Submit q cid) e events.Accepted new h at is = (all_without IsProperDraft (is_draft q cid) t.drafts h.drafts, h.finished)
  values t (step.Cancel q cid) e events.Accepted new h at is = (all_without IsProperDraft (is_draft q cid) t.drafts h.drafts, h.finished)
  values t (step.Collect q cid) e (events.Collects f) new h at is = (
    h.drafts,
    all-append IsProperFinished t.finished f h.finished (held t.world new q cid f h.world (subst (λ x. machine.Step t.world x (events.Collects f) new) (sym (collect_at t q cid e at)) is)),
  )
  values t (step.Release q cid) e events.Accepted new h at is = (h.drafts, all_without IsProperFinished (is_finished q cid) t.finished h.finished)
  values t what e r new h at is = (h.drafts, h.finished)

  keeps_order : benches_keep_order
  keeps_order t what answer new h does = by_event (event_at t what) refl does
    where
      by_event : (o : Option Event) → event_at t what ≡ o → DoesBy o t what answer new → IsTableInOrder new
      by_event (Some e) at m =
          let proper = values t what e m.reply new.world h at m.step in
          subst IsTableInOrder (sym m.keeps) (record { world = keep t.world e m.reply new.world h.world m.step; drafts = proper.0; finished = proper.1 })
      by_event None at own = left (own_left t what answer new own)
        where
          left : OwnLeft t new → IsTableInOrder new
          left (Same same) = subst IsTableInOrder (sym same) h
          left (Changed test f proper same) = subst IsTableInOrder (sym same) (record { world = h.world; drafts = all_with IsProperDraft test f proper t.drafts h.drafts; finished = h.finished })

pub bench_opens : benches_open_in_order
bench_opens = opens_in_order orders.opens_in_order

pub bench_keeps : benches_keep_order
bench_keeps = keeps_order order_kept reserved_is_proper collected_is_proper

-- What a bench does is a run of the machine.

-- one more step before the others
pub steps_from : (o : Option Event) (t : Table) (what : Step) (answer : Reply) (mid new : Table) (does : DoesBy o t what answer mid) (made : List Made) → Steps mid.world made new.world
    → Steps t.world (made_from o t what answer mid does made) new.world
steps_from (Some e) t what answer mid new makes made steps = (refl, mid.world, makes.step, steps)
steps_from None t what answer mid new own made steps = subst (λ (s : State). Steps s made new.world) (own_world t what answer mid own) steps

pub runs_of : benches_run_the_machine
runs_of t new [] [] is = ap (λ (x : Table). x.world) is
runs_of t new [] (answer ∷ answers) is = absurd is
runs_of t new (what ∷ steps) [] is = absurd is
runs_of t new (what ∷ steps) (answer ∷ answers) (mid, does, rest) = steps_from (event_at t what) t what answer mid new does _ (runs_of mid new steps answers rest)

-- Where no forgery was accepted, benches keep to the laws of trusted runs.

-- What a step may touch

-- events that one step asks for may touch the same pages
own_by : State → Step → List ℕ
own_by s (step.Fetch q) = own_pages s (events.Fetch q)
own_by s (step.Walk q cid) = own_pages s (events.Walk q cid)
own_by s (step.Complete q cid) = own_pages s (events.Complete q cid)
own_by s what = []

own_asked : (s : State) (e : Event) → own_pages s e ≡ own_by s (asked e)
unfolding own_by
own_asked s (events.Fetch q) = refl
own_asked s e = refl

-- replies that one answer reports touched the same pages
touched_in : Reply → List ℕ
touched_in (reply.Fetched cid touched) = touched
touched_in (reply.Walked state touched) = touched
touched_in (reply.Completed touched) = touched
touched_in (reply.Refused why touched) = touched
touched_in answer = []

touched_told : (r : events.Reply) → touched_by r ≡ touched_in (told r)
unfolding touched_in
touched_told events.Accepted = refl
touched_told r = refl

-- no step of the bench alone asks for an event and reports a reply
own_answer : (t : Table) (e : Event) (answer : Reply) (new : Table) → IsOwn t (asked e) answer new → answer ≡ reply.NoValue
own_answer t events.Reset answer new own = own.0
own_answer t e answer new own = own.0

never_told : (r : events.Reply) → told r ≡ reply.NoValue → ⊥
never_told events.Accepted same = cc
never_told r same = cc

abbrev stays_in : State → List ℕ → List ℕ → Bool
stays_in s own touched = list_all (is_among (allowed s)) touched && list_all (is_among own) touched

pub touches_what_it_may : benches_touch_what_they_may
touches_what_it_may t what answer new e r h trusted does asks tells = by_event (event_at t what) refl does
  where
    by_event : (o : Option Event) → event_at t what ≡ o → DoesBy o t what answer new → IsTrue (stays_in t.world (own_pages t.world e) (touched_by r))
    by_event (Some x) at m =
        subst IsTrue
        (ap₂ (stays_in t.world)
        (own_asked t.world x ∙ ap (own_by t.world) (sym (asked_at t what x at) ∙ asks) ∙ sym (own_asked t.world e))
        (touched_told m.reply ∙ ap touched_in (sym m.tells ∙ tells) ∙ sym (touched_told r)))
        (agreed_stays t.world new.world x m.reply (h.world.agree trusted) trusted m.step)
    by_event None at own = absurd (never_told r (sym tells ∙ own_answer t e answer new (subst (λ (w : Step). IsOwn t w answer new) asks own)))

-- Forgeries

-- a step is a forgery where the event is one that it asks for
pub same_forgery : (e : Event) (r : events.Reply) → forges_by (asked e) (told r) ≡ trusted.forges_by e r
same_forgery (events.Forge q slot bytes) events.Accepted = refl
same_forgery e r = refl

pub none_forged : (t : Table) (what : Step) (answer : Reply) → event_at t what ≡ None → forges_by what answer ≡ false
none_forged t (step.Forge q slot bytes) answer at = absurd cc
none_forged t what answer at = refl

same_forgeries : (t : Table) (steps : List Step) (answers : List Reply) (new : Table) (does : DoesAll t steps answers new)
    → list_any trusted.is_forgery (made_by t steps answers new does) ≡ has_forgery steps answers
same_forgeries t [] [] new does = refl
same_forgeries t [] (answer ∷ answers) new does = absurd does
same_forgeries t (what ∷ steps) [] new does = absurd does
same_forgeries t (what ∷ steps) (answer ∷ answers) new (mid, does, rest) = by_event (event_at t what) refl does (same_forgeries mid steps answers new rest)
  where
    by_event : (o : Option Event) → event_at t what ≡ o → (does : DoesBy o t what answer mid) → list_any trusted.is_forgery (made_by mid steps answers new rest) ≡ has_forgery steps answers
        → list_any trusted.is_forgery (made_from o t what answer mid does (made_by mid steps answers new rest)) ≡ has_forgery (what ∷ steps) (answer ∷ answers)
    by_event (Some e) at m later = ap₂ (λ (x y : Bool). x || y) (sym (same_forgery e m.reply) ∙ ap₂ forges_by (sym (asked_at t what e at)) (sym m.tells)) later
    by_event None at own later = later ∙ ap (λ (b : Bool). b || has_forgery steps answers) (sym (none_forged t what answer at))

-- Runs

pub makes_trusted_run : benches_make_trusted_runs
makes_trusted_run config image steps answers new opens is_image does unforged =
    record {
      pages = config.pages;
      queues = config.queues;
      entries = config.entries;
      segment = config.segment;
      opens = opens;
      is_image = is_image;
      steps = runs_of (table (opening_of config image)) new steps answers does;
      unforged = subst (λ (b : Bool). IsTrue (not b)) (sym (same_forgeries (table (opening_of config image)) steps answers new does)) unforged;
    }
