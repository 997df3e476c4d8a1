-- Halves of queues that are made.
use Rattle.machine_model.specs.Events as events
use Rattle.machine_model.specs.declared.words.Refusal.TheVariants as refusal
use Rattle.machine_model.specs.After as a
use Rattle.page_ledger.specs.declared.owner.Owner.TheVariants as owner
use Rattle.std.proofs.Common.{◌≡◌, ℕ, zero, suc, ◌+◌, ◌<◌, Bool, true, false, Option, Some, None, List, [], ◌∷◌, length, take, filter, find, refl, ap, sym, ◌∙◌, arith, lt-ltb, if◌then◌else◌, ◌==◌, nat_lt, map, slice_get, ◌-◌, ◌≤◌, IsSome, replicate, slice_set, ap₂, subst, eq-eqb, inl, inr}
use Rattle.std.proofs.lemmas.Bool.{true≢false, true_from_ne_false, false_from_ne_true, and_parts, cases_Bool, cases_eq, or_left, or_right}
use Rattle.std.proofs.lemmas.{List.length-replicate, Option.{slice_get_within, slice_get-map}}
use Rattle.std.specs.{List.{list_all, range_with_len, list_any, AllByRecursion}, Option.{option_map_or}}
use Rattle.io_commands.{proofs.Fewest.same_anywhere, specs.{Asked.Request, Least.{least_pages, pages_with}, Requests.{data_count, joined_parts}, Values.IsGood}}
use Rattle.machine_model.proofs.{Counting.{one, times-filter, times-pages, held_once, not_held, all_among}, Steps.length-with_pages}
use Rattle.machine_model.specs.{After.change, Memory.{is_in, with_pages, zeroed_pages}, Placement.{is_run, first_of_run, placed, chain_wanted}}
use Rattle.machine_model.specs.{Refusals.{has_sq, run_for}, State.{Record, HostQueue, State}, Step.{times, Refuses}}
use Rattle.machine_model.specs.declared.words.HostState.{HostState, TheVariants.{Gone, HalfMade, MakingCq, MakingSq}}
use Rattle.page_ledger.proofs.{Pages.lowest_run-within, Tables.{free-others, length-with_owner, owner-with}}
use Rattle.page_ledger.specs.{Owners.{is_among, is_free, is_owned_at, owner_at, free_pages, pages_from, with_owner}, Runs.{is_free_run, lowest_run}}
use Rattle.page_ledger.specs.declared.owner.{Owner.{Owner, TheVariants.Free}, Role.TheVariants.{Data, Chain}}
use Rattle.host_core.proofs.PageOwners.{free-owner, free-in, pool-with, set-other, set-there}
use Rattle.host_core.{proofs.{Identifiers.{sound-of, lent-of, Settled, settled-of}, QueueLists.{map-change, settled-turned}}, specs.{Commands.{state_at, CanZero}, Rows.Queue}}
use Rattle.host_core.specs.{Sending.{named_causes, granted, half_from, making, renewed}, Tables.{Tables, state_of, host_queue_of, cq_pages_of, sq_pages_of}}
use Rattle.host_core.specs.Whole.{ClaimsIdentifiers, HaveOwner, IsQueue, IsWhole, TellsCommand, TellsQueue, is_outstanding}
use Rattle.admin_commands.specs.declared.AdminKind.TheVariants.{CreateCq}
use Rattle.controller_walk.specs.Units.{first_passing}
use Rattle.page_memory.{proofs.Bytes.length-zero_page, specs.{Pages.{Pages, page_at, zero_page}, declared.page.Half.Half}}
use Rattle.page_memory.specs.declared.page.Half.TheVariants.{Submission, Completion}
use Rattle.queue_pair.specs.{Memory.half_pages, Rings.{IsHostSide, fresh_host_ring, none_claimed}}
use Rattle.std.proofs.lemmas.Bool.Decides.{nat_tests}
use Rattle.slot_table.proofs.Rows.{option_is}
use Rattle.page_memory.proofs.Lists.{found_is, some_is, all-all}

-- Placed pages by their owners: the lowest run of free pages is the one that a ledger finds.

owned-within : (owners : List Owner) (p : ℕ) → is_owned_at is_free owners p ≡ true → p < length owners
owned-within owners p h = elim (option_is (owner_at owners p)) [
  | inl at ↦ absurd (true≢false (sym (rw at at h)))
  | inr (x, at) ↦ slice_get_within owners p x at
]

among-free : (owners : List Owner) (p : ℕ) → is_among (free_pages owners) p ≡ is_owned_at is_free owners p
among-free owners p = elim (cases_Bool (is_among (free_pages owners) p)) [
  | inl e ↦ rw (e, free-owner owners p (held_once p (free_pages owners) e)) refl
  | inr e ↦ rw e (sym (false_from_ne_true (is_owned_at is_free owners p) (λ f.
      let all : times p (free_pages owners) ≡ times p (pages_from 0 (length owners)) = rw f at (times-filter p (is_owned_at is_free owners) (pages_from 0 (length owners))) in
      omega (arith, not_held p (free_pages owners) e, all, times-pages p (length owners), ap one (lt-ltb p (length owners) (owned-within owners p f))))))
]

all-among : (owners : List Owner) (pages : List ℕ) → list_all (is_among (free_pages owners)) pages ≡ list_all (is_owned_at is_free owners) pages
all-among owners [] = refl
all-among owners (p ∷ pages) = rw (among-free owners p, all-among owners pages) refl

find-alike : (f g : ℕ → Bool) → ((p : ℕ) → f p ≡ g p) → (pages : List ℕ) → find f pages ≡ find g pages
find-alike f g same [] = refl
find-alike f g same (p ∷ pages) = rw (same p, find-alike f g same pages) refl

-- a search for what a filter keeps finds the same in the filtered list
find-kept : (f g : ℕ → Bool) → ((p : ℕ) → f p ≡ true → g p ≡ true) → (pages : List ℕ) → find f (filter g pages) ≡ find f pages
find-kept f g keeps [] = refl
find-kept f g keeps (p ∷ pages) = grind (arith, keeps p, find-kept f g keeps pages)

run-begins : (k : ℕ) (owners : List Owner) (p : ℕ) → 0 < k → is_free_run k owners p ≡ true → is_owned_at is_free owners p ≡ true
run-begins zero owners p some h = absurd (omega (arith, some))
run-begins (suc k) owners p some h = (and_parts (is_owned_at is_free owners p) (list_all (is_owned_at is_free owners) (pages_from (p + 1) k)) h).0

pub same-run : (owners : List Owner) (k : ℕ) → 0 < k → first_of_run (free_pages owners) k ≡ lowest_run k owners
same-run owners k some =
    find-alike (is_run (free_pages owners) k) (is_free_run k owners) (λ p. all-among owners (pages_from p k)) (free_pages owners)
    ∙ find-kept (is_free_run k owners) (is_owned_at is_free owners) (λ p h. run-begins k owners p some h) (pages_from 0 (length owners))

pub placed-run : (owners : List Owner) (k first : ℕ) → 0 < k → Some first ≡ lowest_run k owners → placed (free_pages owners) k ≡ pages_from first k
placed-run owners k first some is = ap (λ (o : Option ℕ). option_map_or (λ first. pages_from first k) o (take k (free_pages owners))) (same-run owners k some ∙ sym is)

pub placed-lowest : (owners : List Owner) (k : ℕ) → 0 < k → None ≡ lowest_run k owners → placed (free_pages owners) k ≡ take k (free_pages owners)
placed-lowest owners k some is = ap (λ (o : Option ℕ). option_map_or (λ first. pages_from first k) o (take k (free_pages owners))) (same-run owners k some ∙ sym is)

-- Consecutive pages by either spelling
pub same-pages : (first k : ℕ) → pages_from first k ≡ range_with_len first k
same-pages first zero = refl
same-pages first (suc k) = ap (λ (ps : List ℕ). first ∷ ps) (same-pages (first + 1) k)

-- where the data is placed in consecutive pages, a request wants the fewest that it can take
pub least-in-run : (free : List ℕ) (segment first : ℕ) (request : Request) → IsGood request → placed free (data_count request.pieces) ≡ pages_from first (data_count request.pieces)
    → data_count request.pieces + chain_wanted free segment request.pieces ≡ least_pages request.pieces segment
least-in-run free segment first request good is =
    ap (λ (ps : List ℕ). pages_with request.pieces segment (joined_parts request.pieces ps)) (is ∙ same-pages first (data_count request.pieces))
    ∙ same_anywhere request segment first good

-- What rules out the creation of a completion queue.

pub any-count : (q : ℕ) (rs : List Record) → nat_lt 0 (length (map (λ (r : Record). r.cid) (filter (λ (r : Record). r.q == q) rs))) ≡ list_any (λ (r : Record). r.q == q) rs
any-count q [] = refl
any-count q (x ∷ rs) = grind (arith, nat_tests, any-count q rs)

gone-at : (t : Tables) (q : ℕ) → state_at t.queues q ≡ Some Gone → (x : Queue) × (slice_get t.queues q ≡ Some x) × (x.state ≡ Gone)
gone-at t q gone = elim (option_is (slice_get t.queues q)) [
  | inl at ↦ absurd (let none : None ≡ Some Gone = rw at at gone in cc)
  | inr (x, at) ↦ (x, at, some_is (rw at at gone))
]

pub create_cq-free : (t : Tables) (q : ℕ) → (q == 0) ≡ false → state_at t.queues q ≡ Some Gone → list_any (λ (r : Record). r.q == q) t.records ≡ false → first_passing (named_causes (state_of t) (CreateCq q 0 0 None)) ≡ None
create_cq-free t q zeroth gone free = let x = gone-at t q gone in rw (zeroth, slice_get-map host_queue_of t.queues q, x.1, x.2, any-count q t.records, free) refl

pub create_cq-busy : (t : Tables) (q : ℕ) (vector : Option ℕ) → (q == 0) ≡ false → state_at t.queues q ≡ Some Gone → list_any (λ (r : Record). r.q == q) t.records ≡ true → Refuses (state_of t) (events.CreateCq q vector) refusal.Outstanding []
create_cq-busy t q vector zeroth gone busy = let x = gone-at t q gone in (rw (zeroth, slice_get-map host_queue_of t.queues q, x.1, x.2, any-count q t.records, busy) refl, refl)

-- A queue is granted a half: the tables after it, and the machine that they stand for.

-- The queue that gets a half: it is in the state for it, is not queue 0, and has no command.

abbrev pub was : Half → HostState
was Completion = Gone
was Submission = HalfMade

pub record IsBare (t : Tables) (half : Half) (q : ℕ) : Type 0 where
  pub queue : Queue
  pub at : slice_get t.queues q ≡ Some queue
  pub other : (q == 0) ≡ false
  pub state : queue.state ≡ was half
  pub none : (cid : ℕ) → is_outstanding t.records q cid ≡ false

-- The pages of the half are free

pub run-free : (t : Tables) (half : Half) (first p : ℕ) → run_for (state_of t) half ≡ Some first → is_among (half_from t half first) p ≡ true → is_among (free_pages t.owners) p ≡ true
run-free t half first p run among =
    all_among (half_from t half first) (free_pages t.owners) p (found_is (is_run (free_pages t.owners) (half_pages t.entries half)) (free_pages t.owners) first run) among

run-owner : (t : Tables) (half : Half) (first p : ℕ) → run_for (state_of t) half ≡ Some first → is_among (half_from t half first) p ≡ true → owner_at t.owners p ≡ Some owner.Free
run-owner t half first p run among = free-owner t.owners p (held_once p (free_pages t.owners) (run-free t half first p run among))

pub run-in : (t : Tables) (half : Half) (first p : ℕ) → IsWhole t → run_for (state_of t) half ≡ Some first → is_among (half_from t half first) p ≡ true → is_in t.pages p ≡ true
run-in t half first p w run among =
    true_from_ne_false (is_in t.pages p) (λ e. omega (arith, ap one e, free-in (state_of t) (sound-of t w) p, held_once p (free_pages t.owners) (run-free t half first p run among)))

-- a page that is in stays so where others are written

pub set-some : (m : Pages) (k p : ℕ) (x : List ℕ) → IsSome (page_at m p) → IsSome (page_at (slice_set m k (Some x)) p)
set-some m k p x h = elim (cases_eq p k) [
  | inl same ↦ rw (same, set-there m k x (rw same at h)) refl
  | inr other ↦ rw (set-other m k p (Some x) (λ e. other (sym e))) h
]

pub with-some : (ps : List (ℕ × List ℕ)) (m : Pages) (p : ℕ) → IsSome (page_at m p) → IsSome (page_at (with_pages ps m) p)
with-some [] m p h = h
with-some (page ∷ ps) m p h = with-some ps (slice_set m page.0 (Some page.1)) p (set-some m page.0 p page.1 h)

-- so each of them can be made zero

pub can-zero : (ps : List ℕ) (m : Pages) → ((p : ℕ) → is_among ps p ≡ true → IsSome (page_at m p)) → CanZero ps m
can-zero [] m h = tt
can-zero (p ∷ ps) m h = (
  h p (or_left (p == p) _ (eq-eqb p p refl)),
  can-zero ps (slice_set m p (Some zero_page)) (λ k among. set-some m p k zero_page (h k (or_right (p == k) _ among))),
)

pub half-can-zero : (t : Tables) (half : Half) (first : ℕ) → IsWhole t → run_for (state_of t) half ≡ Some first → CanZero (half_from t half first) t.pages
half-can-zero t half first w run = can-zero (half_from t half first) t.pages (λ p among. run-in t half first p w run among)

-- Whose pages they are then

abbrev owned : Half → (q first : ℕ) → Tables → List Owner
owned half q first t = with_owner t.owners (half_from t half first) (owner.Queue q half)

-- a page that had an owner keeps it
owner-stays : (t : Tables) (half : Half) (q first p : ℕ) (x : Owner) → run_for (state_of t) half ≡ Some first → (x ≡ owner.Free → ⊥) → owner_at t.owners p ≡ Some x → owner_at (owned half q first t) p ≡ Some x
owner-stays t half q first p x run busy at =
    let far : is_among (half_from t half first) p ≡ false = false_from_ne_true (is_among (half_from t half first) p) (λ e. busy (some_is (sym at ∙ run-owner t half first p run e))) in
    owner-with t.owners (half_from t half first) (owner.Queue q half) p (slice_get_within t.owners p x at) ∙ rw far at

-- and those of the half are the queue's
owner-new : (t : Tables) (half : Half) (q first : ℕ) → run_for (state_of t) half ≡ Some first → HaveOwner (owned half q first t) (owner.Queue q half) (half_from t half first)
owner-new t half q first run p among =
    owner-with t.owners (half_from t half first) (owner.Queue q half) p (slice_get_within t.owners p owner.Free (run-owner t half first p run among))
    ∙ ap (λ (b : Bool). if b then Some (owner.Queue q half) else owner_at t.owners p) among

stay-owned : (t : Tables) (half : Half) (q first : ℕ) (x : Owner) (pages : List ℕ) → run_for (state_of t) half ≡ Some first → (x ≡ owner.Free → ⊥) → HaveOwner t.owners x pages → HaveOwner (owned half q first t) x pages
stay-owned t half q first x pages run busy h p among = owner-stays t half q first p x run busy (h p among)

others-told : (t : Tables) (half : Half) (q first k : ℕ) (x : Queue) → run_for (state_of t) half ≡ Some first → TellsQueue t.owners k x → TellsQueue (owned half q first t) k x
others-told t half q first k x run told =
    record {
      submission = stay-owned t half q first (owner.Queue k Submission) (sq_pages_of x) run (λ e. cc) told.submission;
      completion = stay-owned t half q first (owner.Queue k Completion) (cq_pages_of x) run (λ e. cc) told.completion;
    }

commands-told : (t : Tables) (half : Half) (q first : ℕ) → run_for (state_of t) half ≡ Some first → AllByRecursion (TellsCommand t.owners) t.records → AllByRecursion (TellsCommand (owned half q first t)) t.records
commands-told t half q first run told =
    all-all (TellsCommand t.owners) (TellsCommand (owned half q first t))
    (λ (r : Record) tells. record {
      data_pages = stay-owned t half q first (owner.Command r.q r.cid Data) r.data_pages run (λ e. cc) tells.data_pages;
      chain_pages = stay-owned t half q first (owner.Command r.q r.cid Chain) r.chain_pages run (λ e. cc) tells.chain_pages;
    })
    t.records told

-- The queue with its half

new-sq-pages : (half : Half) (first n : ℕ) (x : Queue) → x.state ≡ was half → x.host.entries ≡ n → sq_pages_of (making half first x) ≡ (elim half [ Completion ↦ [] | Submission ↦ pages_from first (half_pages n Submission) ])
new-sq-pages Completion first n x state same = refl
new-sq-pages Submission first n x state same = ap (λ (k : ℕ). pages_from first (half_pages k Submission)) same

new-cq-pages : (half : Half) (first n : ℕ) (x : Queue) → x.state ≡ was half → x.host.entries ≡ n → cq_pages_of (making half first x) ≡ (elim half [ Completion ↦ pages_from first (half_pages n Completion) | Submission ↦ cq_pages_of x ])
new-cq-pages Completion first n x state same = ap (λ (k : ℕ). pages_from first (half_pages k Completion)) same
new-cq-pages Submission first n x state same = rw state refl

own-told : (t : Tables) (half : Half) (q first : ℕ) (x : Queue) → run_for (state_of t) half ≡ Some first → x.state ≡ was half → x.host.entries ≡ t.entries → TellsQueue t.owners q x
    → TellsQueue (owned half q first t) q (making half first x)
own-told t Completion q first x run state same told =
    record {
      submission = λ p among. cc;
      completion = subst (HaveOwner (owned Completion q first t) (owner.Queue q Completion))
          (sym (new-cq-pages Completion first t.entries x state same)) (owner-new t Completion q first run);
    }
own-told t Submission q first x run state same told =
    record {
      submission = subst (HaveOwner (owned Submission q first t) (owner.Queue q Submission)) (sym (new-sq-pages Submission first t.entries x state same)) (owner-new t Submission q first run);
      completion = subst (HaveOwner (owned Submission q first t) (owner.Queue q Completion)) (sym (new-cq-pages Submission first t.entries x state same))
          (stay-owned t Submission q first (owner.Queue q Completion) (cq_pages_of x) run (λ e. cc) told.completion);
    }

made-side : (sq cq : ℕ) (x : Queue) → IsHostSide x.host → IsHostSide (renewed sq cq x.host)
made-side sq cq x side =
    let some : 0 < x.host.entries = omega (arith, side.least) in
    record { least = side.least; most = side.most; head = some; known_head = some; tail = some; identifiers = omega (arith, length-replicate (x.host.entries - 1) false, side.least) }

pub made-queue : (half : Half) (first n q : ℕ) (x : Queue) → IsQueue n q x → IsQueue n q (making half first x)
made-queue Completion first n q x is = record { number = is.number; entries = is.entries; host_side = made-side x.host.sq first x is.host_side }
made-queue Submission first n q x is = record { number = is.number; entries = is.entries; host_side = made-side first x.host.cq x is.host_side }

-- none of its identifiers is claimed, and none is outstanding

replicate-at : (n cid : ℕ) → cid < n → slice_get (replicate n false) cid ≡ Some false
replicate-at zero cid l = absurd (omega arith)
replicate-at (suc n) zero l = refl
replicate-at (suc n) (suc cid) l = replicate-at n cid (omega arith)

made-claims : (half : Half) (first q : ℕ) (x : Queue) → (making half first x).host.claimed ≡ none_claimed (x.host.entries - 1)
made-claims Completion first q x = refl
made-claims Submission first q x = refl

pub claims-none : (records : List Record) (q n : ℕ) → ((cid : ℕ) → is_outstanding records q cid ≡ false) → ClaimsIdentifiers records q (none_claimed n)
claims-none records q n none =
    record {
      told = λ cid l. replicate-at n cid (omega (arith, l, length-replicate n false)) ∙ ap Some (sym (none cid));
      inside = λ cid h. absurd (true≢false (sym h ∙ none cid));
    }

-- What holds of the tables by themselves

pub whole-zeros : (ps : List ℕ) → AllByRecursion (λ (page : ℕ × List ℕ). length page.1 ≡ 4096) (zeroed_pages ps)
whole-zeros [] = tt
whole-zeros (p ∷ ps) = (length-zero_page, whole-zeros ps)

pub settled-granted : (t : Tables) (half : Half) (q first : ℕ) → IsWhole t → IsBare t half q → run_for (state_of t) half ≡ Some first → Settled (granted half q first t)
settled-granted t half q first w bare run =
    let s = settled-of t w in
    settled-turned t q (making half first) (with_pages (zeroed_pages (half_from t half first)) t.pages) (owned half q first t) t.records s
    (record {
      pool = pool-with (zeroed_pages (half_from t half first)) t.pages (whole-zeros (half_from t half first)) s.pool;
      lent = length-with_owner t.owners (half_from t half first) (owner.Queue q half) ∙ (s.lent ∙ sym (length-with_pages (zeroed_pages (half_from t half first)) t.pages));
      queue = λ y at. made-queue half first t.entries q y (s.rings.each q y at);
      identifiers = s.table.identifiers.each;
      claims = λ y at. subst (ClaimsIdentifiers t.records q) (sym (made-claims half first q y)) (claims-none t.records q (y.host.entries - 1) bare.none);
      others = λ k y _ at. others-told t half q first k y run (s.table.owners.queues_told k y at);
      own = λ y at.
          let same : bare.queue ≡ y = some_is (sym bare.at ∙ at) in
          own-told t half q first y run (subst (λ (z : Queue). z.state ≡ was half) same bare.state) (s.rings.each q y at).entries (s.table.owners.queues_told q y at);
      commands = commands-told t half q first run s.table.owners.commands_told;
      records = s.table.records;
    })

-- The machine that they stand for

-- what the machine makes of the queue
abbrev pub half_in : Half → List ℕ → HostQueue → HostQueue
half_in Completion pages queue = a.making_cq pages queue
half_in Submission pages queue = a.making_sq pages queue

shown-made : (half : Half) (first n : ℕ) (x : Queue) → x.state ≡ was half → x.host.entries ≡ n → host_queue_of (making half first x) ≡ half_in half (pages_from first (half_pages n half)) (host_queue_of x)
shown-made Completion first n x state same =
    ap₂ (λ (sq cq : List ℕ). record { state = MakingCq; ring = fresh_host_ring; sq_pages = sq; cq_pages = cq }) (sym (no-sq (ap has_sq state))) (new-cq-pages Completion first n x state same)
  where
    no-sq : has_sq x.state ≡ false → sq_pages_of x ≡ []
    no-sq e = rw e refl
shown-made Submission first n x state same =
    ap₂ (λ (sq cq : List ℕ). record { state = MakingSq; ring = fresh_host_ring; sq_pages = sq; cq_pages = cq }) (new-sq-pages Submission first n x state same) (new-cq-pages Submission first n x state same)

pub granted-state : (t : Tables) (half : Half) (q first : ℕ) → IsWhole t → IsBare t half q
    → state_of (granted half q first t) ≡ a.on_host_queue q (half_in half (half_from t half first)) (a.half_granted (half_from t half first) (state_of t))
granted-state t half q first w bare =
    ap₂ shown (free-others (half_from t half first) (owner.Queue q half) t.owners refl)
    (map-change host_queue_of (making half first) (half_in half (half_from t half first)) q t.queues
    (λ x at.
    let same : bare.queue ≡ x = some_is (sym bare.at ∙ at) in
    shown-made half first t.entries x (subst (λ (z : Queue). z.state ≡ was half) same bare.state) (w.host.rings.each q x at).entries))
  where
    shown : List ℕ → List HostQueue → State
    shown free hs =
        record (state_of t) { memory = with_pages (zeroed_pages (half_from t half first)) t.pages; host = record (state_of t).host { free = free; queues = hs } }

-- What is granted is the lowest run

pub some-pages : (n : ℕ) (half : Half) → 2 ≤ n → 0 < half_pages n half
some-pages n Submission l = omega arith
some-pages n Completion l = omega arith

pub run-lowest : (t : Tables) (half : Half) (first k : ℕ) → IsWhole t → k ≡ half_pages t.entries half → run_for (state_of t) half ≡ Some first → lowest_run k t.owners ≡ Some first
run-lowest t half first k w is run =
    ap (λ (n : ℕ). lowest_run n t.owners) is ∙ (sym (same-run t.owners (half_pages t.entries half) (some-pages t.entries half w.host.limits.least_entries)) ∙ run)

pub run-within : (t : Tables) (half : Half) (first k : ℕ) → IsWhole t → k ≡ half_pages t.entries half → run_for (state_of t) half ≡ Some first → first + k ≤ 65536
run-within t half first k w is run =
    omega (arith, w.over.pool.few, (lent-of t w), is, some-pages t.entries half w.host.limits.least_entries, lowest_run-within k first t.owners (subst (λ (n : ℕ). 0 < n) (sym is) (some-pages t.entries half w.host.limits.least_entries)) (run-lowest t half first k w is run))

-- as it is made of its parts
pub made-granted : (t : Tables) (half : Half) (q first k : ℕ) (pages : Pages) (owners : List Owner) (queues : List Queue) → k ≡ half_pages t.entries half
    → pages ≡ with_pages (zeroed_pages (pages_from first k)) t.pages → owners ≡ with_owner t.owners (pages_from first k) (owner.Queue q half) → queues ≡ change q (making half first) t.queues
    → record t { pages = pages; owners = owners; queues = queues } ≡ granted half q first t
made-granted t half q first k pages owners queues is written given changed = rw (written, given, changed, is) refl
