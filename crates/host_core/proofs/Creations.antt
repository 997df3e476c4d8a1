-- The command that makes a half, as it is sent: what is found before it, what is written, and the step of the machine that it is.
use Rattle.std.proofs.Common.{◌≡◌, ℕ, zero, suc, ◌+◌, ◌*◌, ◌^◌, ◌<◌, ◌==◌, ◌||◌, ◌&&◌, nat_lt, ◌++◌, ◌∷◌, [], Bool, true, false, not, Option, Some, None, IfSome, List, is_none, length, position, slice_get, slice_index, refl, ap, ap₂, sym, ◌∙◌, subst, arith, inl, inr}
use Rattle.std.{proofs.lemmas.{Bool.{true≢false, or_parts}, Option.slice_get-map}, specs.{List.list_any, Option.{option_map, option_map_or}}}
use Rattle.admin_commands.specs.{Entries.admin_entry, declared.AdminKind.{AdminKind, TheVariants.{CreateCq, CreateSq}}}
use Rattle.controller_walk.specs.Units.{first_passing}
use Rattle.entry_codec.specs.declared.submission.SubEntry.{SubEntry}
use Rattle.machine_model.specs.{After.change, Memory.zeroed_pages, Proper.IsProper, State.{HostQueue, Record, State, is_at}}
use Rattle.machine_model.specs.Refusals.{in_state, is_gone, is_half_made, is_making, no_identifier, queue_full, refusal_of, run_for}
use Rattle.machine_model.specs.{Step.{Answers, IsController, IsNewIdentifier, Refuses, Step, touched_by_refusal}, declared.words.HostState.HostState}
use Rattle.machine_model.specs.declared.words.{HostState.TheVariants.{Gone}, Refusal.Refusal}
use Rattle.page_ledger.specs.{Owners.pages_from, Runs.lowest_run}
use Rattle.page_memory.specs.declared.page.Half.{Half, TheVariants.{Submission, Completion}}
use Rattle.queue_pair.specs.Memory.{half_pages}
use Rattle.host_core.proofs.{Granting.{in_state-is, next-fresh, next-left, none-left}, Identifiers.Settled, QueueLists.{host_step, Steps, steps}}
use Rattle.host_core.proofs.Making.{any-count, IsBare, granted-state, half_in, run-within, settled-granted, some-pages, with-some, same-run}
use Rattle.host_core.proofs.Sending.{Next, can-post-to, first-there, past, send-typed, HasHalfIn, half-in, sent-exact, sent_in, settled-sent}
use Rattle.host_core.{proofs.Submitted.full_is, specs.{Commands.{ClaimsNext, with_claim}, Posting.{CanPostTo, Posts, posted}, Rows.Queue}}
use Rattle.host_core.specs.Sending.{CanCreate, Creates, HasSlot, creating, creation, granted, half_from, making, named_causes, noted, sent}
use Rattle.host_core.specs.{Tables.{Tables, host_queue_of, state_of}, Whole.IsWhole}
use Rattle.machine_model.specs.After as a
use Rattle.machine_model.specs.Events as events
use Rattle.machine_model.specs.declared.words.Refusal.TheVariants as refusal
use Rattle.std.proofs.lemmas.Option.{slice_get_within}
use Rattle.slot_table.proofs.Rows.{option_is}
use Rattle.machine_model.proofs.Moves.{half_made_is}
use Rattle.machine_model.proofs.Counting.{get_changed}
use Rattle.page_memory.proofs.Lists.{some_is}

-- What rules it out

abbrev pub half_causes : State → Half → List (Bool × Refusal)
half_causes s half =
    (no_identifier s 0, refusal.NoIdentifier) ∷ (is_none (run_for s half), refusal.NoRun (half_pages s.entries half)) ∷ (queue_full s 0, refusal.QueueFull) ∷ []

by-half : (s : State) (half : Half) (q : ℕ) (vector : Option ℕ) → refusal_of s (creating half q vector) ≡ first_passing (named_causes s (creation half q 0 0 None) ++ half_causes s half)
by-half s Completion q vector = refl
by-half s Submission q vector = refl

behind : (s : State) (half : Half) (q : ℕ) (vector : Option ℕ) → first_passing (named_causes s (creation half q 0 0 None)) ≡ None → refusal_of s (creating half q vector) ≡ first_passing (half_causes s half)
behind s half q vector free = by-half s half q vector ∙ past (named_causes s (creation half q 0 0 None)) (half_causes s half) free

untouched : (s : State) (half : Half) (q : ℕ) (vector : Option ℕ) (why : Refusal) → [] ≡ touched_by_refusal s (creating half q vector) why
untouched s Completion q vector why = refl
untouched s Submission q vector why = refl

run-is : (t : Tables) (half : Half) (k : ℕ) (o : Option ℕ) → IsWhole t → k ≡ half_pages t.entries half → lowest_run k t.owners ≡ o → run_for (state_of t) half ≡ o
run-is t half k o w is found =
    same-run t.owners (half_pages t.entries half) (some-pages t.entries half w.host.limits.least_entries) ∙ (ap (λ (n : ℕ). lowest_run n t.owners) (sym is) ∙ found)

pub create-no_identifier : (t : Tables) (half : Half) (q : ℕ) (vector : Option ℕ) (queues : List Queue) → IsWhole t → first_passing (named_causes (state_of t) (creation half q 0 0 None)) ≡ None → queues ≡ t.queues → Next queues None
    → Refuses (state_of t) (creating half q vector) refusal.NoIdentifier []
create-no_identifier t half q vector queues w free same next =
    let x = first-there t.queues w.host.limits.some_queues in
    let none = none-left t w 0 x.0 x.1 (sym (next x.0 (ap (λ (qs : List Queue). slice_get qs 0) same ∙ x.1))) in
    (behind (state_of t) half q vector free ∙ rw none refl, untouched (state_of t) half q vector refusal.NoIdentifier)

pub create-no_run : (t : Tables) (half : Half) (q : ℕ) (vector : Option ℕ) (k : ℕ) (queues : List Queue) (cid : ℕ) → IsWhole t → first_passing (named_causes (state_of t) (creation half q 0 0 None)) ≡ None → queues ≡ t.queues → Next queues (Some cid)
    → k ≡ half_pages t.entries half → lowest_run k t.owners ≡ None → Refuses (state_of t) (creating half q vector) (refusal.NoRun k) []
create-no_run t half q vector k queues cid w free same next is none =
    let x = first-there t.queues w.host.limits.some_queues in
    let left = next-left t w 0 cid x.0 x.1 (sym (next x.0 (ap (λ (qs : List Queue). slice_get qs 0) same ∙ x.1))) in
    subst (λ (n : ℕ). Refuses (state_of t) (creating half q vector) (refusal.NoRun n) []) (sym is)
    (behind (state_of t) half q vector free ∙ rw (left, run-is t half k None w is none) refl, untouched (state_of t) half q vector (refusal.NoRun (half_pages t.entries half)))

pub create-full : (t : Tables) (half : Half) (q : ℕ) (vector : Option ℕ) (k : ℕ) (queues : List Queue) (cid first : ℕ) → IsWhole t → first_passing (named_causes (state_of t) (creation half q 0 0 None)) ≡ None → queues ≡ t.queues → Next queues (Some cid)
    → k ≡ half_pages t.entries half → lowest_run k t.owners ≡ Some first → queue_full (state_of t) 0 ≡ true → Refuses (state_of t) (creating half q vector) refusal.QueueFull []
create-full t half q vector k queues cid first w free same next is found full =
    let x = first-there t.queues w.host.limits.some_queues in
    let left = next-left t w 0 cid x.0 x.1 (sym (next x.0 (ap (λ (qs : List Queue). slice_get qs 0) same ∙ x.1))) in
    (behind (state_of t) half q vector free ∙ rw (left, run-is t half k (Some first) w is found, full) refl, untouched (state_of t) half q vector refusal.QueueFull)

pub create-ready : (t : Tables) (half : Half) (q k : ℕ) (queues : List Queue) (cid first : ℕ) → IsWhole t → first_passing (named_causes (state_of t) (creation half q 0 0 None)) ≡ None → queues ≡ t.queues → Next queues (Some cid)
    → k ≡ half_pages t.entries half → lowest_run k t.owners ≡ Some first → queue_full (state_of t) 0 ≡ false → CanCreate t half q cid first
create-ready t half q k queues cid first w free same next is found room =
    let x = first-there t.queues w.host.limits.some_queues in
    let next' = sym (next x.0 (ap (λ (qs : List Queue). slice_get qs 0) same ∙ x.1)) in
    let run = run-is t half k (Some first) w is found in
    record {
      none = λ vector. behind (state_of t) half q vector free ∙ rw (next-left t w 0 cid x.0 x.1 next', run, room) refl;
      slot = record { queue = x.0; at = x.1; next = next'; room = full_is t w.host.rings 0 x.0 x.1 ∙ room };
      run = run;
    }

-- The queue that it names

none-of : (q : ℕ) (rs : List Record) → list_any (λ (r : Record). r.q == q) rs ≡ false → (cid : ℕ) → list_any (is_at q cid) rs ≡ false
none-of q [] h cid = refl
none-of q (r ∷ rs) h cid =
    let both = or_parts (r.q == q) (list_any (λ (x : Record). x.q == q) rs) h in
    ap₂ (λ (b c : Bool). b && (r.cid == cid) || c) both.0 (none-of q rs both.1 cid)

in-it : (test : HostState → Bool) (t : Tables) (q : ℕ) → in_state test (state_of t) q ≡ true → (x : Queue) × (slice_get t.queues q ≡ Some x) × (test x.state ≡ true)
in-it test t q h = let is = sym (in_state-is test t q) ∙ h in elim (option_is (slice_get t.queues q)) [
  | inl at ↦ absurd (true≢false (sym (rw at at is)))
  | inr (x, at) ↦ (x, at, rw at at is)
]

gone-is : (state : HostState) → is_gone state ≡ true → state ≡ Gone
gone-is Gone e = refl
gone-is state e = absurd (true≢false (sym e))

pub bare-of : (t : Tables) (half : Half) (q : ℕ) (vector : Option ℕ) → IsWhole t → refusal_of (state_of t) (creating half q vector) ≡ None → IsBare t half q
bare-of t Completion q vector w none =
    let is = in-it is_gone t q (grind (arith, none)) in
    record {
      queue = is.0;
      at = is.1;
      other = grind (arith, none);
      state = gone-is is.0.state is.2;
      none = none-of q t.records (sym (any-count q t.records) ∙ grind (arith, none));
    }
bare-of t Submission q vector w none =
    let is = in-it is_half_made t q (grind (arith, none)) in
    let state = half_made_is is.0.state is.2 in
    let making : option_map_or (λ (queue : HostQueue). is_making queue.state) (slice_get (state_of t).host.queues q) false ≡ true =
    ap (λ (o : Option HostQueue). option_map_or (λ (queue : HostQueue). is_making queue.state) o false) (slice_get-map host_queue_of t.queues q ∙ ap (option_map host_queue_of) is.1) ∙ ap is_making state in
    record {
      queue = is.0;
      at = is.1;
      other = grind (arith, none);
      state = state;
      none = none-of q t.records (sym (any-count q t.records) ∙ ap (nat_lt 0) (w.host.sound.bare q making));
    }

-- The half is granted, and queue 0 stands as it stood

kept-at : {A : Type 0} (q : ℕ) (f : A → A) (xs : List A) → (q == 0) ≡ false → slice_get (change q f xs) 0 ≡ slice_get xs 0
kept-at zero f xs other = absurd (true≢false other)
kept-at (suc q) f [] other = refl
kept-at (suc q) f (x ∷ xs) other = refl

abbrev granted-slot : (t : Tables) (half : Half) (q cid first : ℕ) → (q == 0) ≡ false → HasSlot t cid → HasSlot (granted half q first t) cid
granted-slot t half q cid first other slot = record { queue = slot.queue; at = kept-at q (making half first) t.queues other ∙ slot.at; next = slot.next; room = slot.room }

granted-half-in : (t : Tables) (half : Half) (q first : ℕ) (queue : Queue) → HasHalfIn t queue → HasHalfIn (granted half q first t) queue
granted-half-in t half q first queue h = record { kept = h.kept; inside = λ k l. with-some (zeroed_pages (half_from t half first)) t.pages (queue.host.sq + k) (h.inside k l) }

-- The machine's step

first-of : (first k : ℕ) → 0 < k → slice_index (pages_from first k) 0 ≡ first
first-of first zero some = absurd (omega arith)
first-of first (suc k) some = refl

run-pages : (s : State) (half : Half) (first : ℕ) → run_for s half ≡ Some first → a.half_run half s ≡ pages_from first (half_pages s.entries half)
run-pages s half first run = ap (λ (o : Option ℕ). option_map_or (λ (p : ℕ). pages_from p (half_pages s.entries half)) o []) run

-- what the machine makes of a creation
abbrev makes_cq : State → (q : ℕ) → Option ℕ → (cid : ℕ) → List ℕ → ℕ → State
makes_cq s q vector cid pages base = sent_in (CreateCq q s.entries base vector) cid (a.on_host_queue q (a.making_cq pages) (a.half_granted pages s))

abbrev makes_sq : State → (q cid : ℕ) → List ℕ → ℕ → State
makes_sq s q cid pages base = sent_in (CreateSq q s.entries base) cid (a.on_host_queue q (a.making_sq pages) (a.half_granted pages s))

created-after : (s : State) (half : Half) (q : ℕ) (vector : Option ℕ) (cid first : ℕ) → run_for s half ≡ Some first → 0 < half_pages s.entries half
    → a.after s (creating half q vector) (events.Sent cid)
    ≡ sent_in (creation half q s.entries first vector) cid (a.on_host_queue q (half_in half (pages_from first (half_pages s.entries half))) (a.half_granted (pages_from first (half_pages s.entries half)) s))
created-after s Completion q vector cid first run some =
    ap (λ (pages : List ℕ). makes_cq s q vector cid pages (a.base_of pages)) (run-pages s Completion first run)
    ∙ ap (λ (p : ℕ). makes_cq s q vector cid (pages_from first (half_pages s.entries Completion)) (4096 * p)) (first-of first (half_pages s.entries Completion) some)
created-after s Submission q vector cid first run some =
    ap (λ (pages : List ℕ). makes_sq s q cid pages (a.base_of pages)) (run-pages s Submission first run)
    ∙ ap (λ (p : ℕ). makes_sq s q cid (pages_from first (half_pages s.entries Submission)) (4096 * p)) (first-of first (half_pages s.entries Submission) some)

created-answers : (s : State) (half : Half) (q : ℕ) (vector : Option ℕ) (cid : ℕ) → IsNewIdentifier s 0 cid → Answers s (creating half q vector) (events.Sent cid)
created-answers s Completion q vector cid new = new
created-answers s Submission q vector cid new = new

is-hosts : (half : Half) (q : ℕ) (vector : Option ℕ) → IsController (creating half q vector) ≡ false
is-hosts Completion q vector = refl
is-hosts Submission q vector = refl

is-proper : (half : Half) (q : ℕ) (vector : Option ℕ) → IfSome vector (λ v. v < 2 ^ 16) → IsProper (creating half q vector)
is-proper Completion q vector fits = fits
is-proper Submission q vector fits = tt

pub created_made : (t new : Tables) (half : Half) (q : ℕ) (vector : Option ℕ) (cid first : ℕ) → IfSome vector (λ v. v < 2 ^ 16) → IsWhole t → CanCreate t half q cid first → Creates t half q vector cid first new → Steps t
    (creating half q vector) (events.Sent cid) new
created_made t new half q vector cid first fits w can creates =
    let kind : AdminKind = creation half q t.entries first vector in
    let bare = bare-of t half q None w (can.none None) in
    let g : Tables = granted half q first t in
    let s = settled-granted t half q first w bare can.run in
    let slot = granted-slot t half q cid first bare.other can.slot in
    let in_half = granted-half-in t half q first can.slot.queue (half-in t cid w can.slot) in
    let exact : state_of (sent kind cid can.slot.queue g) ≡ a.after (state_of t) (creating half q vector) (events.Sent cid) =
    sent-exact g kind cid s slot in_half (send-typed kind cid)
    ∙ (ap (sent_in kind cid) (granted-state t half q first w bare)
    ∙ sym (created-after (state_of t) half q vector cid first can.run (some-pages t.entries half w.host.limits.least_entries))) in
    rw (creates can.slot.queue can.slot.at) (steps t (sent kind cid can.slot.queue g) (creating half q vector) (events.Sent cid) w (is-hosts half q vector) (is-proper half q vector fits)
    (can.none vector, created-answers (state_of t) half q vector cid (next-fresh t w 0 cid can.slot.queue can.slot.at can.slot.next), exact) (settled-sent g kind cid s slot in_half (send-typed kind cid)))

pub create-refused : (t : Tables) (half : Half) (q : ℕ) (vector : Option ℕ) (why : Refusal) → IfSome vector (λ v. v < 2 ^ 16) → Refuses (state_of t) (creating half q vector) why [] → Step (state_of t) (creating half q vector) (events.Refused why []) (state_of t)
create-refused t half q vector why fits h = host_step t t (creating half q vector) (events.Refused why []) (is-hosts half q vector) (is-proper half q vector fits) (h, refl)

-- What is written

pub first-within : (t : Tables) (half : Half) (first : ℕ) → IsWhole t → run_for (state_of t) half ≡ Some first → first < 65536
first-within t half first w run = omega (arith, run-within t half first (half_pages t.entries half) w refl run, some-pages t.entries half w.host.limits.least_entries)

pub creatable-there : (t : Tables) (half : Half) (q cid first : ℕ) → IsWhole t → CanCreate t half q cid first → q < length t.queues
creatable-there t half q cid first w can =
    let bare = bare-of t half q None w (can.none None) in
    slice_get_within t.queues q bare.queue bare.at

pub granted-there : (t u : Tables) (half : Half) (q cid first : ℕ) → IsWhole t → CanCreate t half q cid first → u ≡ granted half q first t → 0 < length u.queues
granted-there t u half q cid first w can same =
    let slot = granted-slot t half q cid first (bare-of t half q None w (can.none None)).other can.slot in
    subst (λ (v : Tables). 0 < length v.queues) (sym same) (slice_get_within (granted half q first t).queues 0 slot.queue slot.at)

pub granted-next : (t u : Tables) (half : Half) (q cid first : ℕ) → IsWhole t → CanCreate t half q cid first → u ≡ granted half q first t → ClaimsNext u.queues 0 cid
granted-next t u half q cid first w can same =
    let slot = granted-slot t half q cid first (bare-of t half q None w (can.none None)).other can.slot in
    subst (λ (v : Tables). ClaimsNext v.queues 0 cid) (sym same) (λ x at. subst (λ (y : Queue). position not y.host.claimed ≡ Some cid) (some_is (sym slot.at ∙ at)) slot.next)

-- the identifier is new in them, too
pub granted-new : (t u : Tables) (half : Half) (q cid first : ℕ) → IsWhole t → CanCreate t half q cid first → u ≡ granted half q first t → IsNewIdentifier (state_of u) 0 cid
granted-new t u half q cid first w can same =
    let new = next-fresh t w 0 cid can.slot.queue can.slot.at can.slot.next in
    subst (λ (v : Tables). IsNewIdentifier (state_of v) 0 cid) (sym same) (record { in_range = new.in_range; unused = new.unused })

pub granted-settled : (t u : Tables) (half : Half) (q cid first : ℕ) → IsWhole t → CanCreate t half q cid first → u ≡ granted half q first t → Settled u
granted-settled t u half q cid first w can same =
    subst Settled (sym same) (settled-granted t half q first w (bare-of t half q None w (can.none None)) can.run)

pub granted-noted-there : (t u v : Tables) (half : Half) (q cid first : ℕ) (kind : AdminKind) → IsWhole t → CanCreate t half q cid first → u ≡ granted half q first t → v ≡ noted kind cid u → 0 < length v.queues
granted-noted-there t u v half q cid first kind w can same is =
    let slot = granted-slot t half q cid first (bare-of t half q None w (can.none None)).other can.slot in
    subst (λ (y : Tables). 0 < length y.queues) (sym (is ∙ ap (noted kind cid) same))
    (slice_get_within (noted kind cid (granted half q first t)).queues 0 (with_claim cid slot.queue) (get_changed 0 (with_claim cid) (granted half q first t).queues slot.queue slot.at))

pub granted-can-post : (t u v : Tables) (half : Half) (q cid first : ℕ) (kind : AdminKind) (entry : SubEntry) → IsWhole t → CanCreate t half q cid first → u ≡ granted half q first t → v ≡ noted kind cid u
    → entry ≡ admin_entry kind cid → CanPostTo v 0 entry
granted-can-post t u v half q cid first kind entry w can same is posts =
    let bare = bare-of t half q None w (can.none None) in
    can-post-to (granted half q first t) v kind cid entry (settled-granted t half q first w bare can.run) (granted-slot t half q cid first bare.other can.slot)
    (granted-half-in t half q first can.slot.queue (half-in t cid w can.slot)) (is ∙ ap (noted kind cid) same) posts

pub creates-apart : (t u v new : Tables) (half : Half) (q : ℕ) (vector : Option ℕ) (cid first : ℕ) (kind : AdminKind) (entry : SubEntry) → (q == 0) ≡ false → kind ≡ creation half q t.entries first vector → u ≡ granted half q first t
    → v ≡ noted kind cid u → entry ≡ admin_entry kind cid → Posts v 0 entry new → Creates t half q vector cid first new
creates-apart t u v new half q vector cid first kind entry other is same noted-is posts-is posts = λ x at.
    let g : Tables = granted half q first t in
    let stands : slice_get g.queues 0 ≡ Some x = kept-at q (making half first) t.queues other ∙ at in
    let there = subst (λ (y : Tables). Posts y 0 entry new) (noted-is ∙ ap (noted kind cid) same) posts (with_claim cid x) (get_changed 0 (with_claim cid) g.queues x stands) in
    there ∙ (ap (λ (e : SubEntry). posted 0 (with_claim cid x) e (noted kind cid g)) posts-is ∙ ap (λ (k : AdminKind). sent k cid x g) is)
