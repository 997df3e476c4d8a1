-- The heads of queues, as completions tell them.
use Rattle.machine_model.specs.After as a
use Rattle.machine_model.specs.Events as events
use Rattle.std.proofs.Common.{◌≡◌, ◌≢◌, ◌⊎◌, inl, inr, ℕ, zero, suc, ◌+◌, ◌-◌, ◌<◌, ◌≤◌, ◌==◌, nat_lt, Bool, true, false, ◌&&◌, Some, List, [], ◌∷◌, ◌++◌, length, map, filter, slice_get, if◌then◌else◌, refl, ap, sym, arith, subst, nat_le, drop, option_and_then, ◌∙◌, eq-eqb, not, Option, None, is_some, replicate, eqb-true}
use Rattle.std.{proofs.lemmas.Bool.{true≢false, and_parts, eqb-false, Decides.nat_tests}, specs.{List.AllByRecursion, Option.option_map_or}}
use Rattle.queue_pair.{proofs.Rings.{next_below, distance_same, next_full, distance_grows, distance_shrinks}, specs.{Members.change, Memory.half_pages}}
use Rattle.queue_pair.specs.{Rings.{HostRing, fresh_host_ring, next_tail, next_head, knowing}, Slots.{next_slot, distance, moved}}
use Rattle.machine_model.proofs.{Counting.{total-append, total_with, total_without, total-map, get_other as changed_elsewhere}, HostLeaves.ids_of}
use Rattle.machine_model.proofs.Kept.{making_sq_as_heard, ring_at, asked_serves}
use Rattle.machine_model.proofs.Moves.{posts, sends, sent_record, host_moves, drafted_record, heard_without, half_from, creates_cq, creates_sq, grants_cq, grants_sq, IsHeard, completion_heard}
use Rattle.machine_model.proofs.{Owned.{all_reset, lost_keeps}, Sound.{still_live, asked_note}, Steps.{Accepts, part_controller, managed_by, unrefused}}
use Rattle.machine_model.proofs.TokensKept.{reset_heads}
use Rattle.machine_model.specs.Agreeing.{sent_count, AreCompletionsBehind as CompletionsBehind, completions_at, AreHeadsBehind as Heads, IsHeadBehind as HeadBehind, is_out_of_service_at as past_at, unfetched_count, job_weight}
use Rattle.machine_model.specs.{Events.{Event, Reply}, Memory.with_pages, Opening.{Opens, opening, queues_from, served_queue as opened}, Positions.IsInRing}
use Rattle.machine_model.specs.Proper.{IsProper}
use Rattle.machine_model.specs.Refusals.{is_submitted, served_queue, no_identifier, entry_of, front_completion, in_service, job_at, fetch_slot, is_live, is_making, is_job}
use Rattle.machine_model.specs.Standing.{unfetched_at}
use Rattle.machine_model.specs.State.{Record, PostedCompletion, State, HostQueue, ServedQueue, is_at, with_record, outstanding_on, without_record, record_at, Controller, Host, Job}
use Rattle.machine_model.specs.{Step.{HostPart, host_part, IsController}, Weights.{one, total, here, sent}}
use Rattle.machine_model.specs.declared.words.{HostState.TheVariants.{Live, Deleting, MakingSq}, Phase.TheVariants.Held, Work.TheVariants.Management}
use Rattle.admin_commands.specs.{Entries.{admin_entry, named_queue}, declared.AdminKind.{AdminKind, TheVariants.{Abort, DeleteSq, DeleteCq, CreateSq}}}
use Rattle.admin_commands.specs.declared.SqState.TheVariants.{Stopping}
use Rattle.entry_codec.specs.{Status.is_success, declared.{completion.ComEntry.ComEntry, status.{Status.Status, TheConstants.Status.ABORTED_SQ_DELETION}}}
use Rattle.entry_codec.specs.declared.submission.SubEntry.{SubEntry}
use Rattle.two_sides.proofs.ControllerMoves.{fetch_by, walk_by, posts_completion, finished, cleared, complete_by}
use Rattle.two_sides.proofs.PlacesKept.{sent_is, held_not, PlacesIn, places_event, running_not_past, sent_not, InHand, in_hand, first_is}
use Rattle.two_sides.proofs.{Provided.{In, all_map, all_append, in_found}, Served.Stood, Standing.{list_at, list_same, admin_zero}}
use Rattle.two_sides.proofs.TiedAll.{Grounds, pair_at, ring_in, zero_lives}
use Rattle.page_memory.specs.declared.page.Half.TheVariants.{Submission, Completion}
use Rattle.page_memory.proofs.Lists.{found_is, all-filter}

-- How far the host's known head and the heads told by completions are behind the tail: never more than commands are submitted.

-- Answers, as something changes

pub behind_more : (n tail k k' : ℕ) (ans : List PostedCompletion) → k ≤ k' → CompletionsBehind n tail k ans → CompletionsBehind n tail k' ans
behind_more n tail k k' [] le h = tt
behind_more n tail k k' (an ∷ ans) le h = (h.0, omega (arith, h.1, le), behind_more n tail (k - 1) (k' - 1) ans (omega (arith, le)) h.2)

pub behind_posted : (n tail k : ℕ) (ans : List PostedCompletion) → tail < n → k < n - 1 → CompletionsBehind n tail k ans → CompletionsBehind n (next_slot n tail) (k + 1) ans
behind_posted n tail k [] t few h = tt
behind_posted n tail k (an ∷ ans) t few h =
    let grows : distance n an.sq_head (next_slot n tail) ≡ suc (distance n an.sq_head tail) = distance_grows n an.sq_head tail h.0 t (λ e. absurd (omega (arith, e, h.1, few))) in (
      h.0,
      omega (arith, grows, h.1),
      subst (λ (m : ℕ). CompletionsBehind n (next_slot n tail) m ans) (omega (arith, h.1)) (behind_posted n tail (k - 1) ans t (omega (arith, few)) h.2),
    )

pub behind_completed : (n tail k : ℕ) (ans : List PostedCompletion) (an : PostedCompletion) → an.sq_head < n → distance n an.sq_head tail + length ans < k → CompletionsBehind n tail k ans → CompletionsBehind n tail k (ans ++ an ∷ [])
behind_completed n tail k [] an head less h = (head, omega (arith, less), tt)
behind_completed n tail k (x ∷ ans) an head less h = (h.0, h.1, behind_completed n tail (k - 1) ans an head (omega (arith, less)) h.2)

-- The controller's head

shrunk : (n tail many head : ℕ) → head < n → tail < n → many ≤ distance n head tail → (moved n head many < n) × (distance n (moved n head many) tail ≡ distance n head tail - many)
shrunk n tail zero head h t le = (h, omega arith)
shrunk n tail (suc many) head h t le =
    let apart : head ≢ tail = λ e. absurd (omega (arith, le, distance_same n tail, ap (λ (x : ℕ). distance n x tail) e)) in
    let one_less = distance_shrinks n head tail h t apart in
    let rest = shrunk n tail many (next_slot n head) (next_below n head h) t (omega (arith, le, one_less)) in
    (rest.0, omega (arith, rest.1, one_less))

-- this many entries behind the tail
pub head_at : (n tail u : ℕ) → tail < n → u < n → (moved n tail (n - u) < n) × (distance n (moved n tail (n - u)) tail ≡ u)
head_at n tail u t few = by_steps (n - u) refl
  where
    by_steps : (m : ℕ) → n - u ≡ m → (moved n tail m < n) × (distance n (moved n tail m) tail ≡ u)
    by_steps zero e = absurd (omega (arith, e, few))
    by_steps (suc m) e =
        let full : distance n (next_slot n tail) tail ≡ n - 1 = next_full n (next_slot n tail) tail (next_below n tail t) t refl in
        let rest = shrunk n tail m (next_slot n tail) (next_below n tail t) t (omega (arith, e, full)) in
        (rest.0, omega (arith, rest.1, full, e, few))

-- How many commands a queue has

abbrev low_id : ℕ → ℕ → Record → ℕ
low_id q b r = if (r.q == q) && nat_lt r.cid b then 1 else 0

none_low : (q : ℕ) (rs : List Record) → total (low_id q 0) rs ≡ 0
none_low q [] = refl
none_low q (r ∷ rs) = omega (arith, none_low q rs, let each : (if (r.q == q) && (nat_lt r.cid 0) then 1 else 0) ≡ zero = grind arith in each)

low_step : (q b : ℕ) (rs : List Record) → total (low_id q (suc b)) rs ≤ total (low_id q b) rs + total (here q b) rs
low_step q b [] = omega arith
low_step q b (r ∷ rs) =
    let each : (a x y z : Bool) → (x ≡ true → y ≡ false → z ≡ true) → (if a && x then 1 else 0) ≤ (if a && y then 1 else 0) + one (a && z) = λ a x y z h. grind arith in
    omega (arith, low_step q b rs, each (r.q == q) (nat_lt r.cid (suc b)) (nat_lt r.cid b) (r.cid == b) (λ h g. grind (arith, nat_tests)))

low_few : (q b : ℕ) (rs : List Record) → ((c : ℕ) → total (here q c) rs < 2) → total (low_id q b) rs ≤ b
low_few q zero rs once = omega (arith, none_low q rs)
low_few q (suc b) rs once = omega (arith, low_few q b rs once, low_step q b rs, once b)

abbrev pub on_queue' : ℕ → Record → ℕ
on_queue' q r = one (r.q == q)

all_low : (q b : ℕ) (rs : List Record) → AllByRecursion (λ r. r.cid < b) rs → total (on_queue' q) rs ≡ total (low_id q b) rs
all_low q b [] h = refl
all_low q b (r ∷ rs) h = omega (arith, all_low q b rs h.1, let each : one (r.q == q) ≡ (if (r.q == q) && (nat_lt r.cid b) then 1 else 0) = grind arith in each)

pub few_outstanding : (q b : ℕ) (rs : List Record) → AllByRecursion (λ r. r.cid < b) rs → ((q c : ℕ) → total (here q c) rs < 2) → total (on_queue' q) rs ≤ b
few_outstanding q b rs h once = omega (arith, all_low q b rs h, low_few q b rs (once q))

-- of which some are submitted
pub sent_outstanding : (q : ℕ) (rs : List Record) → sent_count q rs ≤ total (on_queue' q) rs
sent_outstanding q [] = omega arith
sent_outstanding q (r ∷ rs) = omega (arith, sent_outstanding q rs, let each : (if (r.q == q) && (is_submitted r.phase) then 1 else 0) ≤ one (r.q == q) = grind arith in each)

pub length_outstanding : (q : ℕ) (rs : List Record) → length (map (λ r. r.cid) (filter (λ r. r.q == q) rs)) ≡ total (on_queue' q) rs
length_outstanding q [] = refl
length_outstanding q (r ∷ rs) = grind (arith, length_outstanding q rs)

-- a queue's position in a changed list
pub changed_at : {A : Type 0} (k : ℕ) (f : A → A) (xs : List A) (q : ℕ) (y : A) → slice_get (change k f xs) q ≡ Some y → ((k ≡ q) × ((x : A) × (slice_get xs q ≡ Some x) × (y ≡ f x))) ⊎ ((k ≡ q → ⊥) × (slice_get xs q ≡ Some y))
changed_at k f [] q y e = absurd cc
changed_at zero f (x ∷ xs) zero y e = inl (refl, (x, refl, cc))
changed_at (suc k) f (x ∷ xs) (suc q) y e = elim (changed_at k f xs q y e) [
  | inl h ↦ inl (ap suc h.0, h.1)
  | inr h ↦ inr ((λ z. h.0 (omega (arith, z))), h.1)
]
changed_at k f x q y e = inr ((λ z. absurd (omega (arith, z))), e)

pub total_ones : {A : Type 0} (xs : List A) → total (λ x. 1) xs ≡ length xs
total_ones [] = refl
total_ones (x ∷ xs) = omega (arith, total_ones xs)

-- Every event keeps the heads behind the tail.

abbrev pub HeadsS : State → Type 0
HeadsS s = (Heads (host_part s).entries (host_part s).host.queues (host_part s).host.records s.controller.queues)

-- What does not concern heads

pub heads_records : (n : ℕ) (hs : List HostQueue) (rs rs' : List Record) (qs : List ServedQueue) → AllByRecursion (λ r. r.cid < n - 1) rs' → ((q : ℕ) → sent_count q rs ≤ sent_count q rs') → Heads n hs rs qs → Heads n hs rs' qs
heads_records n hs rs rs' qs ids more h = record {
  ids = ids;
  behind = λ q queue e past.
      let b = h.behind q queue e past in
      record { known = omega (arith, b.known, more q); completions = behind_more n queue.ring.tail (sent_count q rs) (sent_count q rs') (completions_at qs q) (more q) b.completions };
}

pub heads_controller : (n : ℕ) (hs : List HostQueue) (rs : List Record) (qs qs' : List ServedQueue) → ((q : ℕ) → completions_at qs' q ≡ completions_at qs q) → Heads n hs rs qs → Heads n hs rs qs'
heads_controller n hs rs qs qs' same h = record {
  ids = h.ids;
  behind = λ q queue e past. subst (HeadBehind n (sent_count q rs) queue) (sym (same q)) (h.behind q queue e past);
}

-- a queue of the host changes: what is said of it, and what held of the others
heads_change : (n k : ℕ) (f : HostQueue → HostQueue) (hs : List HostQueue) (rs : List Record) (qs : List ServedQueue)
    → ((x : HostQueue) → slice_get hs k ≡ Some x → in_service (f x).state ≡ true → HeadBehind n (sent_count k rs) (f x) (completions_at qs k)) → Heads n hs rs qs → Heads n (change k f hs) rs qs
heads_change n k f hs rs qs here h = record { ids = h.ids; behind = λ q queue e past. at q queue past (changed_at k f hs q queue e) }
  where
    at : (q : ℕ) (queue : HostQueue) → in_service queue.state ≡ true → ((k ≡ q) × ((x : HostQueue) × (slice_get hs q ≡ Some x) × (queue ≡ f x))) ⊎ ((k ≡ q → ⊥) × (slice_get hs q ≡ Some queue))
        → HeadBehind n (sent_count q rs) queue (completions_at qs q)
    at q queue past (inl (same, (x, e, is))) =
        let behind = here x (subst (λ (z : ℕ). slice_get hs z ≡ Some x) (sym same) e) (ap (λ (y : HostQueue). in_service y.state) (sym is) ∙ past) in
        subst (λ (z : ℕ). HeadBehind n (sent_count z rs) queue (completions_at qs z)) same (subst (λ (y : HostQueue). HeadBehind n (sent_count k rs) y (completions_at qs k)) (sym is) behind)
    at q queue past (inr (far, e)) = h.behind q queue e past

-- its ring is left alone, and it is past where it was
pub heads_state : (n k : ℕ) (f : HostQueue → HostQueue) (hs : List HostQueue) (rs : List Record) (qs : List ServedQueue) → ((x : HostQueue) → (f x).ring ≡ x.ring)
    → ((x : HostQueue) → slice_get hs k ≡ Some x → in_service (f x).state ≡ true → in_service x.state ≡ true) → Heads n hs rs qs → Heads n (change k f hs) rs qs
heads_state n k f hs rs qs ring past h = heads_change n k f hs rs qs (λ x e open'.
    let b = h.behind k x e (past x e open') in
    let r = sym (ring x) in
    record {
      known = subst (λ (g : HostRing). distance n g.known_head g.tail ≤ sent_count k rs) r b.known;
      completions = subst (λ (g : HostRing). CompletionsBehind n g.tail (sent_count k rs) (completions_at qs k)) r b.completions;
    }) h

-- completions stay, or are gone
pub list_emptied : {B : Type 0} (get : ServedQueue → List B) (k : ℕ) (f : ServedQueue → ServedQueue) (qs : List ServedQueue) (q : ℕ) → ((at : ServedQueue) → get (f at) ≡ [])
    → (list_at get (change k f qs) q ≡ list_at get qs q) ⊎ (list_at get (change k f qs) q ≡ [])
list_emptied get zero f (x ∷ qs) zero none = inr (none x)
list_emptied get (suc k) f (x ∷ qs) (suc q) none = list_emptied get k f qs q none
list_emptied get k f x q none = inl refl

pub heads_fewer : (n : ℕ) (hs : List HostQueue) (rs : List Record) (qs qs' : List ServedQueue) → ((q : ℕ) → (completions_at qs' q ≡ completions_at qs q) ⊎ (completions_at qs' q ≡ [])) → Heads n hs rs qs → Heads n hs rs qs'
heads_fewer n hs rs qs qs' fewer h = record { ids = h.ids; behind = λ q queue e open'. at q queue (h.behind q queue e open') (fewer q) }
  where
    at : (q : ℕ) (queue : HostQueue) → HeadBehind n (sent_count q rs) queue (completions_at qs q) → (completions_at qs' q ≡ completions_at qs q) ⊎ (completions_at qs' q ≡ []) → HeadBehind n (sent_count q rs) queue (completions_at qs' q)
    at q queue b (inl same) = subst (HeadBehind n (sent_count q rs) queue) (sym same) b
    at q queue b (inr none) = subst (HeadBehind n (sent_count q rs) queue) (sym none) (record { known = b.known; completions = tt })

-- a queue is out of service from now on
pub heads_out : (n k : ℕ) (f : HostQueue → HostQueue) (hs : List HostQueue) (rs : List Record) (qs : List ServedQueue) → ((x : HostQueue) → in_service (f x).state ≡ false) → Heads n hs rs qs → Heads n (change k f hs) rs qs
heads_out n k f hs rs qs out h = heads_change n k f hs rs qs (λ x e open'. absurd (true≢false (sym open' ∙ out x))) h

-- a queue comes into service with rings as they open, and no completions
pub heads_made : (n k : ℕ) (hs : List HostQueue) (rs : List Record) (qs : List ServedQueue) → ((x : HostQueue) → slice_get hs k ≡ Some x → (x.ring ≡ fresh_host_ring) × (completions_at qs k ≡ [])) → Heads n hs rs qs → Heads n (change k a.live hs) rs qs
heads_made n k hs rs qs fresh h = heads_change n k a.live hs rs qs (λ x e open'.
    let f = fresh x e in
    subst (HeadBehind n (sent_count k rs) (a.live x)) (sym f.1) (record { known = omega (arith, ap (λ (r : HostRing). distance n r.known_head r.tail) f.0, distance_same n 0); completions = tt })) h

-- Posting

pub heads_posted : (q : ℕ) (entry : SubEntry) (s : State) (rs : List Record) → AllByRecursion (λ r. r.cid < s.entries - 1) s.host.records
    → ((k : ℕ) → sent_count k rs + (if q == k then 1 else 0) ≤ sent_count k s.host.records) → sent_count q rs < s.entries - 1
    → ((queue : HostQueue) → slice_get s.host.queues q ≡ Some queue → IsInRing s.entries queue.ring)
    → Heads s.entries s.host.queues rs s.controller.queues → HeadsS (posts q entry s)
heads_posted q entry s rs ids more few rings h = record {
  ids = ids;
  behind = λ k queue e open'. subst (HeadBehind s.entries (sent_count k s.host.records) queue) (sym (list_same (λ at. at.completions) q (λ at. record at { unfetched = at.unfetched ++ entry ∷ [] }) s.controller.queues k (λ at. refl)))
      (at k queue open' (changed_at q (λ x. record x { ring = next_tail s.entries x.ring }) s.host.queues k queue e));
}
  where
    at : (k : ℕ) (queue : HostQueue) → in_service queue.state ≡ true
        → ((q ≡ k) × ((x : HostQueue) × (slice_get s.host.queues k ≡ Some x) × (queue ≡ record x { ring = next_tail s.entries x.ring }))) ⊎ ((q ≡ k → ⊥) × (slice_get s.host.queues k ≡ Some queue))
        → HeadBehind s.entries (sent_count k s.host.records) queue (completions_at s.controller.queues k)
    at k queue open' (inr (far, e)) =
        let b = h.behind k queue e open' in
        let le : sent_count k rs ≤ sent_count k s.host.records = omega (arith, more k) in
        record { known = omega (arith, b.known, le); completions = behind_more s.entries queue.ring.tail (sent_count k rs) (sent_count k s.host.records) (completions_at s.controller.queues k) le b.completions }
    at k queue open' (inl (same, (x, e, is))) =
        let b = h.behind k x e (ap (λ (y : HostQueue). in_service y.state) (sym is) ∙ open') in
        let r = rings x (subst (λ (z : ℕ). slice_get s.host.queues z ≡ Some x) (sym same) e) in
        let few' : sent_count k rs < s.entries - 1 = subst (λ (z : ℕ). sent_count z rs < s.entries - 1) same few in
        let one_more : sent_count k rs + 1 ≤ sent_count k s.host.records = omega (arith, more k, ap one (eq-eqb q k same)) in
        let grows : distance s.entries x.ring.known_head (next_slot s.entries x.ring.tail) ≡ suc (distance s.entries x.ring.known_head x.ring.tail) =
        distance_grows s.entries x.ring.known_head x.ring.tail r.known_head r.tail (λ z. absurd (omega (arith, z, b.known, few'))) in
        subst (λ (y : HostQueue). HeadBehind s.entries (sent_count k s.host.records) y (completions_at s.controller.queues k)) (sym is)
        (record {
          known = omega (arith, grows, b.known, one_more);
          completions = behind_more s.entries (next_slot s.entries x.ring.tail) (sent_count k rs + 1) (sent_count k s.host.records) (completions_at s.controller.queues k) one_more
              (behind_posted s.entries x.ring.tail (sent_count k rs) (completions_at s.controller.queues k) r.tail few' b.completions);
        })

few_sent : (s : State) → Grounds s → HeadsS s → (q : ℕ) → total (on_queue' q) s.host.records ≤ s.entries - 1
few_sent s g h q = few_outstanding q (s.entries - 1) s.host.records h.ids g.stands.0.once

pub heads_sent : (adm : AdminKind) (id : ℕ) (s : State) → id < s.entries - 1 → no_identifier s 0 ≡ false → ((queue : HostQueue) → slice_get s.host.queues 0 ≡ Some queue → IsInRing s.entries queue.ring) → HeadsS s → HeadsS (sends adm id s)
heads_sent adm id s low room rings h =
    let below : (a b : ℕ) → nat_le a b ≡ false → b < a = λ a b e. grind (arith, nat_tests) in
    let r = sent_record adm id in
    heads_posted 0 (admin_entry adm id) (a.on_records (λ records. records ++ r ∷ []) s) s.host.records
    (all_append (λ r. r.cid < s.entries - 1) s.host.records (r ∷ []) h.ids (low, tt))
    (λ k. omega (arith, total-append (sent k (λ c. 1)) s.host.records (r ∷ []), sent_is 0 id k (λ c. 1) r refl refl refl))
    (omega (arith, sent_outstanding 0 s.host.records, length_outstanding 0 s.host.records, below (s.entries - 1) (length (outstanding_on s.host 0)) room))
    rings h

-- a drafted command itself has an identifier, so one of a queue's is not submitted
pub drafted_room : (s : State) (q : ℕ) (r : Record) → r.q ≡ q → In r s.host.records → is_submitted r.phase ≡ false → Grounds s → HeadsS s → sent_count q s.host.records < s.entries - 1
drafted_room s q r same within quiet g h =
    let mine : on_queue' q r ≡ 1 = ap one (eq-eqb r.q q same) in
    omega (arith, few_sent s g h q, both s.host.records, within (λ x. if is_submitted x.phase then 0 else on_queue' q x), subst (λ (b : Bool). (if b then 0 else on_queue' q r) ≡ on_queue' q r) (sym quiet) refl, mine)
  where
    both : (rs : List Record) → sent_count q rs + total (λ x. if is_submitted x.phase then 0 else on_queue' q x) rs ≡ total (on_queue' q) rs
    both [] = refl
    both (x ∷ rs) = omega (arith, both rs, each (x.q == q) (is_submitted x.phase))
      where
        each : (a b : Bool) → (if a && b then 1 else 0) + (if b then 0 else one a) ≡ one a
        each a b = grind arith

-- Records that go, or change without being sent

pub heads_less : (keep : Record → Bool) (s : State) → ((q : ℕ) → sent_count q s.host.records ≤ sent_count q (filter keep s.host.records)) → HeadsS s → Heads s.entries s.host.queues (filter keep s.host.records) s.controller.queues
heads_less keep s same h = heads_records s.entries s.host.queues s.host.records (filter keep s.host.records) s.controller.queues (all-filter (λ r. r.cid < s.entries - 1) keep s.host.records h.ids) same h

pub ids_with : (n q cid : ℕ) (f : Record → Record) (rs : List Record) → ((r : Record) → (f r).cid ≡ r.cid) → AllByRecursion (λ r. r.cid < n) rs → AllByRecursion (λ r. r.cid < n) (with_record q cid f rs)
ids_with n q cid f rs same h = all_map (λ r. r.cid < n) (λ r. r.cid < n) (λ r. if is_at q cid r then f r else r) rs (λ x low. grind arith) h

-- Reaping

pub heads_consumed : (q : ℕ) (s : State) → HeadsS s → HeadsS (a.consumed q s)
heads_consumed q s h = record {
  ids = h.ids;
  behind = λ k queue e open'. at k queue open' (changed_at q (λ x. record x { ring = next_head s.entries x.ring }) s.host.queues k queue e);
}
  where
    fewer : (tail m : ℕ) (ans : List PostedCompletion) → CompletionsBehind s.entries tail m ans → CompletionsBehind s.entries tail m (drop 1 ans)
    fewer tail m [] h = tt
    fewer tail m (x ∷ ans) h = behind_more s.entries tail (m - 1) m ans (omega arith) h.2

    dropped : (k : ℕ) (tail m : ℕ) → CompletionsBehind s.entries tail m (completions_at s.controller.queues k) → CompletionsBehind s.entries tail m (completions_at (change q (λ at. record at { completions = drop 1 at.completions }) s.controller.queues) k)
    dropped k tail m h = over q s.controller.queues k h
      where
        over : (q : ℕ) (qs : List ServedQueue) (k : ℕ) → CompletionsBehind s.entries tail m (completions_at qs k) → CompletionsBehind s.entries tail m (completions_at (change q (λ at. record at { completions = drop 1 at.completions }) qs) k)
        over q [] k h = h
        over zero (at ∷ qs) zero h = fewer tail m at.completions h
        over zero (at ∷ qs) (suc k) h = h
        over (suc q) (at ∷ qs) zero h = h
        over (suc q) (at ∷ qs) (suc k) h = over q qs k h

    at : (k : ℕ) (queue : HostQueue) → in_service queue.state ≡ true
        → ((q ≡ k) × ((x : HostQueue) × (slice_get s.host.queues k ≡ Some x) × (queue ≡ record x { ring = next_head s.entries x.ring }))) ⊎ ((q ≡ k → ⊥) × (slice_get s.host.queues k ≡ Some queue))
        → HeadBehind s.entries (sent_count k s.host.records) queue (completions_at (change q (λ at. record at { completions = drop 1 at.completions }) s.controller.queues) k)
    at k queue open' (inr (far, e)) =
        let b = h.behind k queue e open' in record { known = b.known; completions = dropped k queue.ring.tail (sent_count k s.host.records) b.completions }
    at k queue open' (inl (same, (x, e, is))) =
        let b = h.behind k x e (ap (λ (y : HostQueue). in_service y.state) (sym is) ∙ open') in
        subst (λ (y : HostQueue). HeadBehind s.entries (sent_count k s.host.records) y (completions_at (change q (λ at. record at { completions = drop 1 at.completions }) s.controller.queues) k)) (sym is)
        (record { known = b.known; completions = dropped k x.ring.tail (sent_count k s.host.records) b.completions })

-- a good completion: the host knows its head, and one command is no longer submitted
pub heads_heard : (q : ℕ) (an : PostedCompletion) (s : State) (rs : List Record) → option_and_then (λ queue. front_completion queue.completions) (served_queue s q) ≡ Some an → AllByRecursion (λ r. r.cid < s.entries - 1) rs
    → ((k : ℕ) → sent_count k s.host.records ≤ sent_count k rs + (if q == k then 1 else 0)) → HeadsS s
    → Heads s.entries (a.heard q (entry_of q an) s).host.queues rs (change q (λ at. record at { completions = drop 1 at.completions }) s.controller.queues)
heads_heard q an s rs first ids less h = record {
  ids = ids;
  behind = λ k queue e open'. at k queue open' (changed_at q (λ x. record x { ring = knowing (entry_of q an).sqhd x.ring }) (change q (λ x. record x { ring = next_head s.entries x.ring }) s.host.queues) k queue e);
}
  where
    qs' : List ServedQueue
    qs' = change q (λ at. record at { completions = drop 1 at.completions }) s.controller.queues

    head_rest : completions_at s.controller.queues q ≡ an ∷ completions_at (change q (λ at. record at { completions = drop 1 at.completions }) s.controller.queues) q
    head_rest = over q s.controller.queues first
      where
        cut : (ans : List PostedCompletion) → front_completion ans ≡ Some an → ans ≡ an ∷ drop 1 ans
        cut [] e = absurd cc
        cut (x ∷ ans) e = let same : x ≡ an = cc in ap (λ y. y ∷ ans) same

        over : (q : ℕ) (qs : List ServedQueue) → option_and_then (λ queue. front_completion queue.completions) (slice_get qs q) ≡ Some an → completions_at qs q ≡ an ∷ completions_at (change q (λ at. record at { completions = drop 1 at.completions }) qs) q
        over q [] e = absurd cc
        over zero (at ∷ qs) e = cut at.completions e
        over (suc q) (at ∷ qs) e = over q qs e

    elsewhere : (k : ℕ) → (q ≡ k → ⊥) → completions_at (change q (λ at. record at { completions = drop 1 at.completions }) s.controller.queues) k ≡ completions_at s.controller.queues k
    elsewhere k far = over q s.controller.queues k far
      where
        over : (q : ℕ) (qs : List ServedQueue) (k : ℕ) → (q ≡ k → ⊥) → completions_at (change q (λ at. record at { completions = drop 1 at.completions }) qs) k ≡ completions_at qs k
        over q [] k far = refl
        over zero (at ∷ qs) zero far = absurd (far refl)
        over zero (at ∷ qs) (suc k) far = refl
        over (suc q) (at ∷ qs) zero far = refl
        over (suc q) (at ∷ qs) (suc k) far = over q qs k (λ e. far (ap suc e))

    -- the queue itself
    own : (k : ℕ) (x : HostQueue) → q ≡ k → slice_get s.host.queues k ≡ Some x → in_service x.state ≡ true
        → (distance s.entries an.sq_head x.ring.tail ≤ sent_count k rs) × CompletionsBehind s.entries x.ring.tail (sent_count k rs) (completions_at (change q (λ at. record at { completions = drop 1 at.completions }) s.controller.queues) k)
    own k x same e open' =
        let b = h.behind k x e open' in
        let front : CompletionsBehind s.entries x.ring.tail (sent_count k s.host.records) (an ∷ completions_at (change q (λ at. record at { completions = drop 1 at.completions }) s.controller.queues) k) =
        subst (CompletionsBehind s.entries x.ring.tail (sent_count k s.host.records)) (subst (λ (z : ℕ). completions_at s.controller.queues z ≡ an ∷ completions_at (change q (λ at. record at { completions = drop 1 at.completions }) s.controller.queues) z) same head_rest) b.completions in
        let one' : one (q == k) ≡ 1 = ap one (eq-eqb q k same) in (
          omega (arith, front.1, less k, one'),
          behind_more s.entries x.ring.tail (sent_count k s.host.records - 1) (sent_count k rs) (completions_at (change q (λ at. record at { completions = drop 1 at.completions }) s.controller.queues) k) (omega (arith, less k, one')) front.2,
        )

    at : (k : ℕ) (queue : HostQueue) → in_service queue.state ≡ true
        → ((q ≡ k) × ((x : HostQueue) × (slice_get (change q (λ x. record x { ring = next_head s.entries x.ring }) s.host.queues) k ≡ Some x) × (queue ≡ record x { ring = knowing (entry_of q an).sqhd x.ring })))
        ⊎ ((q ≡ k → ⊥) × (slice_get (change q (λ x. record x { ring = next_head s.entries x.ring }) s.host.queues) k ≡ Some queue))
        → HeadBehind s.entries (sent_count k rs) queue (completions_at (change q (λ at. record at { completions = drop 1 at.completions }) s.controller.queues) k)
    at k queue open' (inl (same, (x, e, is))) = elim (changed_at q (λ x. record x { ring = next_head s.entries x.ring }) s.host.queues k x e) [
      | inl (same', (y, ey, isy)) ↦
          let state : in_service y.state ≡ true = ap (λ (z : HostQueue). in_service z.state) (sym isy) ∙ ap (λ (z : HostQueue). in_service z.state) (sym is) ∙ open' in
          let o = own k y same ey state in
          let ring : queue.ring ≡ knowing (entry_of q an).sqhd (next_head s.entries y.ring) = ap (λ (z : HostQueue). z.ring) is ∙ ap (λ (z : HostQueue). knowing (entry_of q an).sqhd z.ring) isy in
          record {
            known = subst (λ (g : HostRing). distance s.entries g.known_head g.tail ≤ sent_count k rs) (sym ring) o.0;
            completions = subst (λ (g : HostRing). CompletionsBehind s.entries g.tail (sent_count k rs) (completions_at (change q (λ at. record at { completions = drop 1 at.completions }) s.controller.queues) k)) (sym ring) o.1;
          }
      | inr (far, ey) ↦ absurd (far same)
    ]
    at k queue open' (inr (far, e)) = elim (changed_at q (λ x. record x { ring = next_head s.entries x.ring }) s.host.queues k queue e) [
      | inl (same, it) ↦ absurd (far same)
      | inr (far', e') ↦
          let b = h.behind k queue e' open' in
          let none : one (q == k) ≡ 0 = ap one (other q k far) in
          record {
            known = omega (arith, b.known, less k, none);
            completions = subst (CompletionsBehind s.entries queue.ring.tail (sent_count k rs)) (sym (elsewhere k far))
                (behind_more s.entries queue.ring.tail (sent_count k s.host.records) (sent_count k rs) (completions_at s.controller.queues k) (omega (arith, less k, none)) b.completions);
          }
    ]
      where
        other : (q k : ℕ) → (q ≡ k → ⊥) → (q == k) ≡ false
        other q k far = grind (arith, nat_tests)

-- Every event keeps the heads behind the tail: the controller's, and all together.

-- Retiring

heads_retire : (q : ℕ) (s : State) → HeadsS s → Heads s.entries (change q a.retired s.host.queues) (map (a.lost q) s.host.records) s.controller.queues
heads_retire q s h = record { ids = ids; behind = λ k x ex open'. at k x open' (changed_at q a.retired s.host.queues k x ex) }
  where
    ids : AllByRecursion (λ (r : Record). r.cid < s.entries - 1) (map (a.lost q) s.host.records)
    ids = all_map (λ (r : Record). r.cid < s.entries - 1) (λ (r : Record). r.cid < s.entries - 1) (a.lost q) s.host.records (λ x low. each x ((x.q == q) && is_submitted x.phase) low) h.ids
      where
        each : (x : Record) (b : Bool) → x.cid < s.entries - 1 → (if b then a.aborted x else x).cid < s.entries - 1
        each x b low = grind arith

    same_sent : (k : ℕ) → (q == k) ≡ false → sent_count k (map (a.lost q) s.host.records) ≡ sent_count k s.host.records
    same_sent k far = total-map (sent k (λ c. 1)) (a.lost q) (λ r. each r ((r.q == q) && is_submitted r.phase) refl) s.host.records
      where
        each : (r : Record) (b : Bool) → ((r.q == q) && is_submitted r.phase) ≡ b → sent k (λ c. 1) (if b then a.aborted r else r) ≡ sent k (λ c. 1) r
        each r true e =
            let elsewhere : (r.q == k) ≡ false = ap (λ (n : ℕ). n == k) (eqb-true r.q q (and_parts (r.q == q) (is_submitted r.phase) e).0) ∙ far in
            sent_not k (λ c. 1) (a.aborted r) refl ∙ sym (ap (λ (b : Bool). one (b && is_submitted r.phase)) elsewhere)
        each r false e = refl

    at : (k : ℕ) (x : HostQueue) → in_service x.state ≡ true → ((q ≡ k) × ((y : HostQueue) × (slice_get s.host.queues k ≡ Some y) × (x ≡ a.retired y))) ⊎ ((q ≡ k → ⊥) × (slice_get s.host.queues k ≡ Some x))
        → HeadBehind s.entries (sent_count k (map (a.lost q) s.host.records)) x (completions_at s.controller.queues k)
    at k x open' (inl (same, (y, e, is))) = absurd (true≢false (sym open' ∙ ap (λ (z : HostQueue). in_service z.state) is))
    at k x open' (inr (far, e)) = subst (λ (m : ℕ). HeadBehind s.entries m x (completions_at s.controller.queues k)) (sym (same_sent k (grind (arith, nat_tests)))) (h.behind k x e open')

-- Fetching

-- no entry in hand has the identifier of a job
pub no_conflict : (s : State) → Stood s → (q : ℕ) (e : SubEntry) → InHand s q e → is_some (job_at s q e.cid) ≡ false
no_conflict s stood q e hand = by_job (job_at s q e.cid) refl
  where
    here_first : 1 ≤ total (λ (x : SubEntry). one (x.cid == e.cid)) (unfetched_at s.controller.queues q)
    here_first =
        subst (λ (o : Option ServedQueue). 1 ≤ total (λ (x : SubEntry). one (x.cid == e.cid)) (option_map_or (λ at. at.unfetched) o [])) (sym hand.at)
        (subst (λ (xs : List SubEntry). 1 ≤ total (λ (x : SubEntry). one (x.cid == e.cid)) xs) (sym (first_is hand.queue.unfetched e hand.first)) (omega (arith, ap one (eq-eqb e.cid e.cid refl))))

    few : (rs : List Record) → total (sent q (λ c. one (c == e.cid))) rs ≤ total (here q e.cid) rs
    few [] = omega arith
    few (r ∷ rs) = omega (arith, few rs, each (r.q == q) (is_submitted r.phase) (r.cid == e.cid))
      where
        each : (x y z : Bool) → (if x && y then one z else 0) ≤ one (x && z)
        each x y z = grind arith

    by_job : (o : Option Job) → job_at s q e.cid ≡ o → is_some o ≡ false
    by_job None n = refl
    by_job (Some j) n =
        let ids = and_parts (j.q == q) (j.entry.cid == e.cid) (found_is (is_job q e.cid) s.controller.jobs j n) in
        let mine : job_weight q (λ c. one (c == e.cid)) j ≡ 1 = subst (λ (b : Bool). (if b then one (j.entry.cid == e.cid) else 0) ≡ 1) (sym ids.0) (ap one ids.1) in
        let counted : unfetched_count q (λ c. one (c == e.cid)) s.host.queues s.controller.queues ≡ total (λ (x : SubEntry). one (x.cid == e.cid)) (unfetched_at s.controller.queues q) =
        ap (λ (b : Bool). if b then 0 else total (λ (x : SubEntry). one (x.cid == e.cid)) (unfetched_at s.controller.queues q)) (running_not_past s stood.grounds q e hand) in
        absurd (omega (arith, counted, here_first, mine, in_found (is_job q e.cid) s.controller.jobs j n (job_weight q (λ c. one (c == e.cid))), stood.places q (λ c. one (c == e.cid)), few s.host.records, stood.grounds.stands.0.once q e.cid))

-- a queue's completions stay, or are gone with its completion queue
abbrev Fewer : State → Controller → Type 0
Fewer s d = (k : ℕ) → (completions_at d.queues k ≡ completions_at s.controller.queues k) ⊎ (completions_at d.queues k ≡ [])

same_off : (s : State) (q k : ℕ) → completions_at (a.taken_off q s).controller.queues k ≡ completions_at s.controller.queues k
same_off s q k = list_same (λ at. at.completions) q (λ at. record at { unfetched = drop 1 at.unfetched; rung = at.rung - 1 }) s.controller.queues k (λ at. refl)

fewer_managed : (s : State) (e : SubEntry) → Fewer s (a.managed e (a.taken_off 0 s)).controller
fewer_managed s e =
    let emptied : (f : ServedQueue → ServedQueue) → ((at : ServedQueue) → (f at).completions ≡ []) → Fewer s (a.on_served_queue (named_queue e) f (a.taken_off 0 s)).controller = λ f none k.
    elim (list_emptied (λ at. at.completions) (named_queue e) f (a.taken_off 0 s).controller.queues k none) [
      | inl same ↦ inl (same ∙ same_off s 0 k)
      | inr gone ↦ inr gone
    ] in
    managed_by (λ (t : State). Fewer s t.controller) e (a.taken_off 0 s)
    (record {
      refuses = λ st bad k. inl (same_off s 0 k);
      aborts = λ is8 walks k. inl (same_off s 0 k);
      is_late = λ is8 k. inl (same_off s 0 k);
      stops = λ is0 q0 runs k. inl (list_same (λ at. at.completions) (named_queue e) (λ at. record at { state = Stopping }) (a.taken_off 0 s).controller.queues k (λ at. refl) ∙ same_off s 0 k);
      drops = λ is4 q0 there gone. emptied a.dropped (λ at. refl);
      makes_completion = λ is5 q0 none. emptied a.completion_made (λ at. refl);
      makes_submission = λ is1 q0 gone there. emptied a.submission_made (λ at. refl);
    })

fewer_fetch : (s : State) → Stood s → (q : ℕ) → Fewer s (a.after_fetch q s).controller
fewer_fetch s stood q =
    fetch_by (λ (t : State). Fewer s t.controller) s q (λ k. inl refl)
    (λ e n c. absurd (true≢false (sym c ∙ ap (λ (o : Option SubEntry). option_map_or (λ e. is_some (job_at s q e.cid)) o false) n ∙ no_conflict s stood q e (in_hand s q e n))))
    (λ e n c z. fewer_managed s e) (λ e n c other k. inl (same_off s q k))

-- Walking

fewer_walk : (s : State) (q cid : ℕ) → Fewer s (a.after_walk q cid s).controller
fewer_walk s q cid = walk_by (λ (t : State). Fewer s t.controller) s q cid (λ k. inl refl) (λ j act at u k. inl refl)

-- Completing

few_sent_heads_all : (s : State) → Grounds s → HeadsS s → (q : ℕ) → sent_count q s.host.records ≤ s.entries - 1
few_sent_heads_all s g h q = omega (arith, sent_outstanding q s.host.records, few_outstanding q (s.entries - 1) s.host.records h.ids g.stands.0.once)

-- a completion is posted where entries and completions leave one command
heads_completed : (q cid : ℕ) (st : Status) (dw0 : ℕ) (t : State) → 0 < t.entries → ((k : ℕ) → sent_count k t.host.records ≤ t.entries - 1)
    → ((queue : HostQueue) → slice_get t.host.queues q ≡ Some queue → IsInRing t.entries queue.ring)
    → PlacesIn (posts_completion q cid st dw0 t) → HeadsS t → HeadsS (posts_completion q cid st dw0 t)
heads_completed q cid st dw0 t pos few rings placed h =
    let f : ServedQueue → ServedQueue = λ at. record at { completions = at.completions ++ record { cid = cid; status = st; dw0 = dw0; sq_head = fetch_slot t q } ∷ [] } in
    let after : List ServedQueue = change q (λ at. record at { completions = at.completions ++ record { cid = cid; status = st; dw0 = dw0; sq_head = fetch_slot t q } ∷ [] }) t.controller.queues in
    record { ids = h.ids; behind = λ k queue e open'. at k queue e open' (q == k) refl }
  where
    an : PostedCompletion
    an = record { cid = cid; status = st; dw0 = dw0; sq_head = fetch_slot t q }

    elsewhere : (q k : ℕ) (qs : List ServedQueue) (g : ServedQueue → ServedQueue) → (q == k) ≡ false → completions_at (change q g qs) k ≡ completions_at qs k
    elsewhere q k [] g far = refl
    elsewhere zero zero (x ∷ qs) g far = absurd (true≢false far)
    elsewhere zero (suc k) (x ∷ qs) g far = refl
    elsewhere (suc q) zero (x ∷ qs) g far = refl
    elsewhere (suc q) (suc k) (x ∷ qs) g far = elsewhere q k qs g (less q k far)
      where
        less : (q k : ℕ) → (suc q == suc k) ≡ false → (q == k) ≡ false
        less q k e = grind (arith, nat_tests)

    own_completions : (q : ℕ) (qs : List ServedQueue) (at : ServedQueue) (g : ServedQueue → ServedQueue) → slice_get qs q ≡ Some at → completions_at (change q g qs) q ≡ (g at).completions
    own_completions q [] at g e = absurd cc
    own_completions zero (x ∷ qs) at g e = let same : x ≡ at = cc in ap (λ (y : ServedQueue). (g y).completions) same
    own_completions (suc q) (x ∷ qs) at g e = own_completions q qs at g e

    own_entries : (q : ℕ) (qs : List ServedQueue) (at : ServedQueue) (g : ServedQueue → ServedQueue) → slice_get qs q ≡ Some at → unfetched_at (change q g qs) q ≡ (g at).unfetched
    own_entries q [] at g e = absurd cc
    own_entries zero (x ∷ qs) at g e = let same : x ≡ at = cc in ap (λ (y : ServedQueue). (g y).unfetched) same
    own_entries (suc q) (x ∷ qs) at g e = own_entries q qs at g e

    none_there : (q : ℕ) (qs : List ServedQueue) (g : ServedQueue → ServedQueue) → slice_get qs q ≡ None → completions_at (change q g qs) q ≡ []
    none_there q [] g e = refl
    none_there zero (x ∷ qs) g e = absurd cc
    none_there (suc q) (x ∷ qs) g e = none_there q qs g e

    at : (k : ℕ) (queue : HostQueue) → slice_get t.host.queues k ≡ Some queue → in_service queue.state ≡ true → (b : Bool) → (q == k) ≡ b
        → HeadBehind t.entries (sent_count k t.host.records) queue (completions_at (change q (λ at. record at { completions = at.completions ++ record { cid = cid; status = st; dw0 = dw0; sq_head = fetch_slot t q } ∷ [] }) t.controller.queues) k)
    at k queue e open' false far = subst (HeadBehind t.entries (sent_count k t.host.records) queue) (sym (elsewhere q k t.controller.queues _ far)) (h.behind k queue e open')
    at k queue e open' true same =
        let z : q ≡ k = eqb-true q k same in
        subst (λ (m : ℕ). HeadBehind t.entries (sent_count m t.host.records) queue (completions_at (change q (λ at. record at { completions = at.completions ++ record { cid = cid; status = st; dw0 = dw0; sq_head = fetch_slot t q } ∷ [] }) t.controller.queues) m)) z
        (mine queue (subst (λ (m : ℕ). slice_get t.host.queues m ≡ Some queue) (sym z) e) open' (slice_get t.controller.queues q) refl)
      where
        mine : (queue : HostQueue) → slice_get t.host.queues q ≡ Some queue → in_service queue.state ≡ true → (o : Option ServedQueue) → slice_get t.controller.queues q ≡ o
            → HeadBehind t.entries (sent_count q t.host.records) queue (completions_at (change q (λ at. record at { completions = at.completions ++ record { cid = cid; status = st; dw0 = dw0; sq_head = fetch_slot t q } ∷ [] }) t.controller.queues) q)
        mine queue e open' None d =
            subst (HeadBehind t.entries (sent_count q t.host.records) queue) (sym (none_there q t.controller.queues _ d)) (record { known = (h.behind q queue e open').known; completions = tt })
        mine queue e open' (Some x) d =
            let g : ServedQueue → ServedQueue = λ at. record at { completions = at.completions ++ record { cid = cid; status = st; dw0 = dw0; sq_head = fetch_slot t q } ∷ [] } in
            let b = h.behind q queue e open' in
            let before : CompletionsBehind t.entries queue.ring.tail (sent_count q t.host.records) x.completions =
            subst (λ (o : Option ServedQueue). CompletionsBehind t.entries queue.ring.tail (sent_count q t.host.records) (option_map_or (λ at. at.completions) o [])) d b.completions in
            let past : past_at t.host.queues q ≡ false = ap (λ (o : Option HostQueue). option_map_or (λ h. not (in_service h.state)) o false) e ∙ ap not open' in
            let entries' : unfetched_count q (λ c. 1) t.host.queues (change q g t.controller.queues) ≡ length x.unfetched =
            ap (λ (b : Bool). if b then 0 else total (λ (e : SubEntry). 1) (unfetched_at (change q g t.controller.queues) q)) past ∙ ap (total (λ (e : SubEntry). 1)) (own_entries q t.controller.queues x g d) ∙ total_ones x.unfetched in
            let answers' : total (λ (an : PostedCompletion). 1) (completions_at (change q g t.controller.queues) q) ≡ length x.completions + 1 =
            ap (total (λ (an : PostedCompletion). 1)) (own_completions q t.controller.queues x g d) ∙ total-append (λ (an : PostedCompletion). 1) x.completions (an ∷ []) ∙ ap (λ (n : ℕ). n + 1) (total_ones x.completions) in
            let room : length x.unfetched + (length x.completions + 1) ≤ sent_count q t.host.records = omega (arith, placed q (λ c. 1), entries', answers') in
            let slot : fetch_slot t q ≡ moved t.entries queue.ring.tail (t.entries - length x.unfetched) =
            ap (λ (o : Option HostQueue). option_map_or (λ queue. option_map_or (λ at. moved t.entries queue.ring.tail (t.entries - length at.unfetched)) (served_queue t q) 0) o 0) e
            ∙ ap (λ (o : Option ServedQueue). option_map_or (λ at. moved t.entries queue.ring.tail (t.entries - length at.unfetched)) o 0) d in
            let head = head_at t.entries queue.ring.tail (length x.unfetched) (rings queue e).tail (omega (arith, room, few q, pos)) in
            let low : fetch_slot t q < t.entries = subst (λ (n : ℕ). n < t.entries) (sym slot) head.0 in
            let far : distance t.entries (fetch_slot t q) queue.ring.tail ≡ length x.unfetched = ap (λ (n : ℕ). distance t.entries n queue.ring.tail) slot ∙ head.1 in
            subst (HeadBehind t.entries (sent_count q t.host.records) queue) (sym (own_completions q t.controller.queues x g d))
            (record { known = b.known; completions = behind_completed t.entries queue.ring.tail (sent_count q t.host.records) x.completions an low (omega (arith, far, room)) before })

heads_complete : (q cid : ℕ) (s : State) → Grounds s → PlacesIn (a.after_complete q cid s) → HeadsS s → HeadsS (a.after_complete q cid s)
heads_complete q cid s g places h =
    let completed : (t : State) (j : Job) → t.entries ≡ s.entries → t.host ≡ s.host → HeadsS t → PlacesIn (posts_completion q cid (a.final_status s j) j.dw0 t) → HeadsS (posts_completion q cid (a.final_status s j) j.dw0 t) = λ t j n host ht places.
    heads_completed q cid (a.final_status s j) j.dw0 t (subst (λ (k : ℕ). 0 < k) (sym n) g.fit.some_entries)
    (λ k. subst (λ (x : Host). sent_count k x.records ≤ t.entries - 1) (sym host) (subst (λ (m : ℕ). sent_count k s.host.records ≤ m - 1) (sym n) (few_sent_heads_all s g h k)))
    (λ queue e. subst (λ (m : ℕ). IsInRing m queue.ring) (sym n) (ring_in s g q queue (subst (λ (x : Host). slice_get x.queues q ≡ Some queue) host e))) places ht in
    complete_by (λ (t : State). PlacesIn t → HeadsS t) s q cid (λ places. h)
    (λ j at c. completed (a.on_served_queue (named_queue j.entry) cleared (finished q cid j s)) j refl refl
    (heads_controller s.entries s.host.queues s.host.records s.controller.queues (change (named_queue j.entry) cleared s.controller.queues) (λ n. list_same (λ at. at.completions) (named_queue j.entry) cleared s.controller.queues n (λ at. refl)) h))
    (λ j at c. completed (finished q cid j s) j refl refl h) places

-- Every event

controller_heads : (s : State) (e : Event) (reply : Reply) → IsController e ≡ true → Fewer s (a.after s e reply).controller → HeadsS s → HeadsS (a.after s e reply)
controller_heads s e reply c fewer h =
    subst (λ (part : HostPart). (Heads part.entries part.host.queues part.host.records (a.after s e reply).controller.queues)) (sym (part_controller s e reply c))
    (heads_fewer s.entries s.host.queues s.host.records s.controller.queues (a.after s e reply).controller.queues fewer h)

heads_host : (s : State) (e : Event) (reply : Reply) → Accepts s e reply → IsController e ≡ false → s.trusted ≡ true → Grounds s → HeadsS s → HeadsS (a.after s e reply)
heads_host s e reply ok c t g h =
    let without : (q cid : ℕ) (st : Status) (e : ComEntry) (r : Record) → IsHeard s q cid st e r → HeadsS (heard_without q cid e s) = λ q cid st e r heard.
    good q cid st e r heard (without_record q cid s.host.records) (all-filter (λ r. r.cid < s.entries - 1) (λ r. not (is_at q cid r)) s.host.records h.ids)
    (λ k. omega (arith, total_without (sent k (λ c. 1)) q cid s.host.records r heard.found (g.stands.0.once q cid))) in
    host_moves (λ (e : Event) (reply : Reply) (t : State). HeadsS t) s e reply ok c
    (record {
      reserves = λ q request d none is.
          heads_records s.entries s.host.queues s.host.records (s.host.records ++ drafted_record d ∷ []) s.controller.queues
          (all_append (λ r. r.cid < s.entries - 1) s.host.records (drafted_record d ∷ []) h.ids (is.identifier.in_range, tt))
          (λ k. omega (arith, total-append (sent k (λ c. 1)) s.host.records (drafted_record d ∷ []))) h;
      submits = λ d entry r none built its live.
          let ids = ids_of s d.q d.cid r its.found in
          heads_posted d.q entry (a.on_records (with_record d.q d.cid a.submitted) (a.on_memory (with_pages (d.data_pages ++ d.chain_pages)) s)) s.host.records (ids_with (s.entries - 1) d.q d.cid a.submitted s.host.records (λ x. refl) h.ids)
          (λ k. omega (
            arith,
            total_with (sent k (λ c. 1)) d.q d.cid a.submitted s.host.records r its.found (g.stands.0.once d.q d.cid),
            sent_not k (λ c. 1) r its.quiet,
            sent_is d.q d.cid k (λ c. 1) (a.submitted r) ids.0 ids.1 refl,
          ))
          (drafted_room s d.q r ids.0 (in_found (is_at d.q d.cid) s.host.records r its.found) its.quiet g h) (λ queue e. ring_in s g d.q queue e) h;
      cancels = λ d r its. ended d.q d.cid r its.found its.quiet;
      rings = λ q none.
          heads_controller s.entries s.host.queues s.host.records s.controller.queues (change q (λ at. record at { rung = length at.unfetched }) s.controller.queues)
          (λ k. list_same (λ at. at.completions) q (λ at. record at { rung = length at.unfetched }) s.controller.queues k (λ at. refl)) h;
      rests = λ q is. h;
      rejects = λ q why is. heads_consumed q s h;
      tells = λ q cid st what e r request told heard w.
          good q cid st e r heard (with_record q cid (a.held st e.hints) s.host.records) (ids_with (s.entries - 1) q cid (a.held st e.hints) s.host.records (λ x. refl) h.ids)
          (λ k. omega (arith, total_with (sent k (λ c. 1)) q cid (a.held st e.hints) s.host.records r heard.found (g.stands.0.once q cid), sent_not k (λ c. 1) (a.held st e.hints r) refl));
      hears = λ q cid st what e r adm told heard w quiet unmade. without q cid st e r heard;
      notes = λ q cid st what e r k told heard w.
          let u = a.heard q e s in
          heads_state s.entries k (λ queue. record queue { state = if is_success st then Deleting true else Live }) u.host.queues (without_record q cid s.host.records) u.controller.queues (λ x. refl)
          (λ x ex open'. asked_serves x.state (asked_note s q cid st e r k g.stands.0 g.fit.asked heard w x ex)) (without q cid st e r heard);
      frees = λ q cid st what e r k queue told heard w at alone good. heads_out s.entries k a.gone (a.heard q e s).host.queues (without_record q cid s.host.records) (a.heard q e s).controller.queues (λ x. refl) (without q cid st e r heard);
      makes_cq = λ q cid st what e r k n base vector told heard w good. heads_out s.entries k a.half_made (a.heard q e s).host.queues (without_record q cid s.host.records) (a.heard q e s).controller.queues (λ x. refl) (without q cid st e r heard);
      unmakes_cq = λ q cid st what e r k n base vector queue told heard w at bad. heads_out s.entries k a.gone (a.heard q e s).host.queues (without_record q cid s.host.records) (a.heard q e s).controller.queues (λ x. refl) (without q cid st e r heard);
      makes_sq = λ q cid st what e r k n base told heard w good.
          let u = a.heard q e s in
          heads_made s.entries k u.host.queues (without_record q cid s.host.records) u.controller.queues (λ x ex. fresh q cid st e r k n base heard w x ex) (without q cid st e r heard);
      unmakes_sq = λ q cid st what e r k n base queue told heard w at bad. heads_out s.entries k a.unmade_sq (a.heard q e s).host.queues (without_record q cid s.host.records) (a.heard q e s).controller.queues (λ x. refl) (without q cid st e r heard);
      collects = λ q cid r f at held is.
          heads_records s.entries s.host.queues s.host.records (with_record q cid a.collected s.host.records) s.controller.queues (ids_with (s.entries - 1) q cid a.collected s.host.records (λ x. refl) h.ids)
          (λ k. omega (arith, total_with (sent k (λ c. 1)) q cid a.collected s.host.records r at (g.stands.0.once q cid), sent_not k (λ c. 1) r (held_not r.phase held), sent_not k (λ c. 1) (a.collected r) refl)) h;
      releases = λ f r its. ended f.q f.cid r its.found its.quiet;
      aborts = λ q cid id none new. heads_sent (Abort q cid) id s new.in_range (unrefused s (events.Abort q cid) none).1.1.1.0 (λ queue e. ring_in s g 0 queue e) h;
      asks = λ q id queue none new live.
          let u = sends (DeleteSq q) id s in
          heads_state s.entries q a.deleting u.host.queues u.host.records u.controller.queues (λ x. refl) (λ x ex open'. ap in_service (still_live s q 0 (next_tail s.entries) queue x live ex))
          (heads_sent (DeleteSq q) id s new.in_range (unrefused s (events.DeleteSq q) none).1.1.0 (λ queue e. ring_in s g 0 queue e) h);
      drops = λ q id none new. heads_sent (DeleteCq q) id s new.in_range (unrefused s (events.DeleteCq q) none).1.1.0 (λ queue e. ring_in s g 0 queue e) h;
      creates_cqs = λ q vector id first queue none new granted.
          let pages = half_from Completion first s in
          heads_sent (creates_cq q vector first s) id (grants_cq q first s) new.in_range (unrefused s (events.CreateCq q vector) none).1.1.1.0 (zero_ring (a.making_cq pages) q granted.other) (heads_out s.entries q (a.making_cq pages) s.host.queues s.host.records s.controller.queues (λ x. refl) h);
      creates_sqs = λ q id first queue none new granted.
          let pages = half_from Submission first s in
          heads_sent (creates_sq q first s) id (grants_sq q first s) new.in_range (unrefused s (events.CreateSq q) none).1.1.0 (zero_ring (a.making_sq pages) q granted.other) (heads_out s.entries q (a.making_sq pages) s.host.queues s.host.records s.controller.queues (λ x. refl) h);
      retires = λ q queue none at deleted. heads_retire q s h;
      forges = λ q slot bytes queue none at. h;
      resets =
          reset_heads s.entries s.host.queues (a.reset_records s.host.records) s.controller.queues
          (all_reset (λ r. r.cid < s.entries - 1) (λ r. r.cid < s.entries - 1) (λ r io low. subst (λ (c : ℕ). c < s.entries - 1) (sym (lost_keeps.cid r)) low) s.host.records h.ids);
    })
  where
    ended : (q cid : ℕ) (r : Record) → record_at s.host q cid ≡ Some r → is_submitted r.phase ≡ false → Heads s.entries s.host.queues (without_record q cid s.host.records) s.controller.queues
    ended q cid r at quiet = heads_less (λ r. not (is_at q cid r)) s (λ k. omega (arith, total_without (sent k (λ c. 1)) q cid s.host.records r at (g.stands.0.once q cid), sent_not k (λ c. 1) r quiet)) h

    good : (q cid : ℕ) (st : Status) (e : ComEntry) (r : Record) → IsHeard s q cid st e r → (rs : List Record) → AllByRecursion (λ r. r.cid < s.entries - 1) rs
        → ((k : ℕ) → sent_count k s.host.records ≤ sent_count k rs + sent k (λ c. 1) r) → Heads s.entries (a.heard q e s).host.queues rs (change q (λ at. record at { completions = drop 1 at.completions }) s.controller.queues)
    good q cid st e r heard rs ids less =
        let an = completion_heard s q cid st e r t heard in
        let its = ids_of s q cid r heard.found in
        subst (λ (x : ComEntry). Heads s.entries (a.heard q x s).host.queues rs (change q (λ at. record at { completions = drop 1 at.completions }) s.controller.queues)) (sym an.is)
        (heads_heard q an.completion s rs an.first ids (λ k. omega (arith, less k, sent_is q cid k (λ c. 1) r its.0 its.1 heard.submitted)) h)

    -- where a queue other than 0 changes
    zero_ring : (f : HostQueue → HostQueue) (q : ℕ) → (q == 0) ≡ false → (queue : HostQueue) → slice_get (change q f s.host.queues) 0 ≡ Some queue → IsInRing s.entries queue.ring
    zero_ring f q other queue e = ring_in s g 0 queue (sym (changed_elsewhere q f s.host.queues 0 (eqb-false q 0 other)) ∙ e)

    -- a queue whose halves are both made has rings as they open, and no completions
    fresh : (q cid : ℕ) (st : Status) (e : ComEntry) (r : Record) (k n base : ℕ) → IsHeard s q cid st e r → r.work ≡ Management (CreateSq k n base) → (x : HostQueue) → slice_get (a.heard q e s).host.queues k ≡ Some x
        → (x.ring ≡ fresh_host_ring) × (completions_at (a.heard q e s).controller.queues k ≡ [])
    fresh q cid st e r k n base heard w x ex =
        let making = making_sq_as_heard s q cid st e r k n base g.stands.0 heard w x ex in
        let hs1 = change q (λ x. record x { ring = next_head s.entries x.ring }) s.host.queues in
        let far : q ≡ k → ⊥ = λ same. not_zero k x making ex (sym same ∙ admin_zero s q cid r (CreateSq k n base) g.stands.0 heard.found w) in
        let there : slice_get s.host.queues k ≡ Some x =
        sym (changed_elsewhere q (λ x. record x { ring = next_head s.entries x.ring }) s.host.queues k far) ∙ sym (changed_elsewhere q (λ x. record x { ring = knowing e.sqhd x.ring }) hs1 k far) ∙ ex in
        let pair = pair_at s g k x there in (
          pair.2.fresh (ap is_making making),
          ap (λ (o : Option ServedQueue). option_map_or (λ at. at.completions) o []) (changed_elsewhere q (λ at. record at { completions = drop 1 at.completions }) s.controller.queues k far ∙ pair.1) ∙ pair.2.completions (ap in_service making),
        )
      where
        not_zero : (k : ℕ) (x : HostQueue) → x.state ≡ MakingSq → slice_get (a.heard q e s).host.queues k ≡ Some x → k ≡ 0 → ⊥
        not_zero k x making ex zero' =
            let b = ring_at q k (knowing e.sqhd) (change q (λ x. record x { ring = next_head s.entries x.ring }) s.host.queues) x ex in
            let y = ring_at q k (next_head s.entries) s.host.queues b.0 b.1 in
            true≢false (sym (zero_lives s g y.0 (subst (λ (z : ℕ). slice_get s.host.queues z ≡ Some y.0) zero' y.1)) ∙ ap is_live (sym y.2 ∙ sym b.2 ∙ making))

pub heads_event : (s : State) (e : Event) (reply : Reply) → IsProper e → Accepts s e reply → s.trusted ≡ true → Stood s → HeadsS s → HeadsS (a.after s e reply)
heads_event s (events.Fetch q) (events.Fetched c touched) pr ok t stood h = controller_heads s (events.Fetch q) (events.Fetched c touched) refl (fewer_fetch s stood q) h
heads_event s (events.Walk q cid) (events.Walked o touched) pr ok t stood h = controller_heads s (events.Walk q cid) (events.Walked o touched) refl (fewer_walk s q cid) h
heads_event s (events.Complete q cid) (events.Completed touched) pr ok t stood h =
    heads_complete q cid s stood.grounds (places_event s (events.Complete q cid) (events.Completed touched) pr ok t stood.grounds stood.places) h
heads_event s (events.Fetch q) reply pr ok t stood h = absurd ok.1
heads_event s (events.Walk q cid) reply pr ok t stood h = absurd ok.1
heads_event s (events.Complete q cid) reply pr ok t stood h = absurd ok.1
heads_event s e reply pr ok t stood h = heads_host s e reply ok refl t stood.grounds h

-- at the opening

opened_heads : (page n count q : ℕ) (queue : HostQueue) → slice_get (queues_from page n count) q ≡ Some queue → distance n queue.ring.known_head queue.ring.tail ≡ 0
opened_heads page n zero q queue e = absurd cc
opened_heads page n (suc count) zero queue e = let same : queue.ring ≡ fresh_host_ring = ring_is queue e in ap (λ (r : HostRing). distance n r.known_head r.tail) same ∙ distance_same n 0
  where
    ring_is : (queue : HostQueue) → slice_get (queues_from page n (suc count)) 0 ≡ Some queue → queue.ring ≡ fresh_host_ring
    ring_is queue e = sym (ap (λ (o : Option HostQueue). option_map_or (λ (h : HostQueue). h.ring) o fresh_host_ring) e)
opened_heads page n (suc count) (suc q) queue e = opened_heads (page + half_pages n Submission + half_pages n Completion) n count q queue e

nothing_completed : (k q : ℕ) → completions_at (replicate k opened) q ≡ []
nothing_completed (suc k) (suc q) = nothing_completed k q
nothing_completed x q = refl

pub heads_at_opening : (pages queues n s : ℕ) (image : List ℕ) → Opens pages queues n s → HeadsS (opening pages queues n s image)
heads_at_opening pages queues n s image opens = record {
  ids = tt;
  behind = λ q queue e open'. subst (HeadBehind n 0 queue) (sym (nothing_completed (queues + 1) q)) (record { known = omega (arith, opened_heads 0 n (queues + 1) q queue e); completions = tt });
}
