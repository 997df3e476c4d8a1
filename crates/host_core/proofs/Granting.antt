-- What a request is refused for, and what it gets.
use Rattle.std.proofs.Common.{◌≡◌, ℕ, zero, suc, ◌+◌, ◌-◌, ◌<◌, ◌≤◌, ◌==◌, inl, inr, nat_lt, Bool, true, false, not, ◌&&◌, ◌||◌, Some, None, List, [], ◌∷◌, length, position, slice_get, refl, ap, sym, ◌∙◌, arith, if◌then◌else◌, lt-ltb, le-ltb, eq-eqb}
use Rattle.std.proofs.lemmas.{Bool.{true_from_ne_false, cases_lt, not-true, Decides.nat_tests}, Option.{slice_get-map, slice_get_within}}
use Rattle.io_commands.specs.{Asked.Request, Least.least_pages, Requests.{fault_of, data_count, is_admin}, declared.request.{Kind.Kind, Piece.Piece}}
use Rattle.machine_model.{proofs.Counting.{one, times-cons, held_once, not_held}, specs.Placement.{wanted_of, chain_wanted}}
use Rattle.machine_model.specs.Refusals.{refusal_of, lacks_queue, no_io_queue, in_state, is_deleting, no_identifier, pages_wanted, in_service, takes, takes_admin}
use Rattle.machine_model.specs.{State.{State, outstanding_on}, Step.{IsNewIdentifier, Refuses, times}, declared.words.HostState.HostState}
use Rattle.page_ledger.specs.Owners.{is_among, free_pages}
use Rattle.queue_pair.proofs.Halves.{found_within, found_free, all_claimed, lower_claimed}
use Rattle.host_core.{proofs.Identifiers.{outstanding-among, queue-here}, specs.Alone.IsLowest}
use Rattle.host_core.specs.{Commands.{state_at, passes, takes_no_io, lacks, Grants}, Rows.Queue, Tables.{Tables, state_of, view_of, host_queue_of}}
use Rattle.host_core.specs.Whole.{IsWhole, is_outstanding}
use Rattle.machine_model.specs.Events as events
use Rattle.machine_model.specs.declared.words.Refusal.TheVariants as refusal
use Rattle.slot_table.proofs.Rows.{option_is}
use Rattle.page_memory.proofs.Lists.{some_is}
use Rattle.machine_model.proofs.Sound.{small}

-- The host's state of a queue

pub in_state-is : (test : HostState → Bool) (t : Tables) (q : ℕ) → in_state test (state_of t) q ≡ passes test (state_at t.queues q)
in_state-is test t q = elim (option_is (slice_get t.queues q)) [
  | inl none ↦ rw (slice_get-map host_queue_of t.queues q, none) refl
  | inr (x, at) ↦ rw (slice_get-map host_queue_of t.queues q, at) refl
]

pub no_io-is : (t : Tables) (q : ℕ) → no_io_queue (state_of t) q ≡ takes_no_io q (state_at t.queues q)
no_io-is t q = ap (λ b. (q == 0) || not b) (in_state-is in_service t q)

pub lacks-is : (t : Tables) (q : ℕ) (kind : Kind) → lacks_queue (state_of t) q kind ≡ lacks t.peer q (state_at t.queues q) kind
lacks-is t q kind = ap (λ b. if is_admin kind then not (takes_admin t.peer && (q == 0)) else b) (no_io-is t q)

-- Identifiers

-- a list with every number below a bound is that long
below : ℕ → List ℕ → ℕ
below zero xs = 0
below (suc n) xs = below n xs + times n xs

below-nil : (n : ℕ) → below n [] ≡ 0
unfolding below
below-nil zero = refl
below-nil (suc n) = omega (arith, below-nil n)

lt-next : (x n : ℕ) → one (nat_lt x (suc n)) ≡ one (nat_lt x n) + one (x == n)
lt-next x n = grind (arith, nat_tests)

below-cons : (n x : ℕ) (xs : List ℕ) → below n (x ∷ xs) ≡ one (nat_lt x n) + below n xs
unfolding below
below-cons zero x xs = omega (arith, ap one (le-ltb x 0 (omega arith)))
below-cons (suc n) x xs = omega (arith, below-cons n x xs, times-cons n x xs, lt-next x n)

below-le : (n : ℕ) (xs : List ℕ) → below n xs ≤ length xs
below-le n [] = omega (arith, below-nil n)
below-le n (x ∷ xs) = omega (arith, below-cons n x xs, below-le n xs, small (nat_lt x n))

-- where each is below the bound, they are counted all
below-all : (n : ℕ) (xs : List ℕ) → ((k : ℕ) → 0 < times k xs → k < n) → length xs ≡ below n xs
below-all n [] h = omega (arith, below-nil n)
below-all n (x ∷ xs) h =
    let here : x < n = h x (omega (arith, times-cons x x xs, ap one (eq-eqb x x refl))) in
    omega (arith, below-cons n x xs, ap one (lt-ltb x n here), below-all n xs (λ k l. h k (omega (arith, times-cons k x xs))))

all-below : (n : ℕ) (xs : List ℕ) → ((k : ℕ) → k < n → 0 < times k xs) → n ≤ below n xs
unfolding below
all-below zero xs h = omega arith
all-below (suc n) xs h = omega (arith, all-below n xs (λ k l. h k (omega arith)), h n (omega arith))

few-below : (n : ℕ) (xs : List ℕ) → ((k : ℕ) → times k xs < 2) → below n xs ≤ n
unfolding below
few-below zero xs h = omega arith
few-below (suc n) xs h = omega (arith, few-below n xs h, h n)

one-missing : (n c : ℕ) (xs : List ℕ) → ((k : ℕ) → times k xs < 2) → c < n → times c xs ≡ 0 → below n xs < n
unfolding below
one-missing zero c xs h l z = absurd (omega arith)
one-missing (suc n) c xs h l z = elim (cases_lt c n) [
  | inl m ↦ omega (arith, one-missing n c xs h m z, h n)
  | inr m ↦ let e : c ≡ n = omega arith in omega (arith, few-below n xs h, ap (λ (k : ℕ). times k xs) e, z)
]

pub all-used : (n : ℕ) (xs : List ℕ) → ((k : ℕ) → k < n → 0 < times k xs) → n ≤ length xs
all-used n xs h = omega (arith, all-below n xs h, below-le n xs)

pub one-unused : (n c : ℕ) (xs : List ℕ) → ((k : ℕ) → 0 < times k xs → k < n) → ((k : ℕ) → times k xs < 2) → c < n → times c xs ≡ 0 → length xs < n
one-unused n c xs inside few l z = omega (arith, below-all n xs inside, one-missing n c xs few l z)

-- the claimed identifiers of a queue that there is
size-of-claims : (t : Tables) → IsWhole t → (q : ℕ) (queue : Queue) → slice_get t.queues q ≡ Some queue → length queue.host.claimed ≡ t.entries - 1
size-of-claims t whole q queue at = let is = whole.host.rings.each q queue at in omega (arith, is.host_side.identifiers, is.entries)

outstanding-inside : (t : Tables) → IsWhole t → (q : ℕ) (queue : Queue) → slice_get t.queues q ≡ Some queue → (k : ℕ) → 0 < times k (outstanding_on (state_of t).host q) → k < length queue.host.claimed
outstanding-inside t whole q queue at k some =
    (whole.host.table.identifiers.each q queue at).inside k (outstanding-among (state_of t).host q k ∙ true_from_ne_false (is_among (outstanding_on (state_of t).host q) k)
    (λ e. omega (arith, some, not_held k (outstanding_on (state_of t).host q) e)))

pub next-fresh : (t : Tables) → IsWhole t → (q cid : ℕ) (queue : Queue) → slice_get t.queues q ≡ Some queue → position not queue.host.claimed ≡ Some cid → IsNewIdentifier (state_of t) q cid
next-fresh t whole q cid queue at next = record {
  in_range = omega (arith, found_within queue.host.claimed cid next, size-of-claims t whole q queue at);
  unused = ap not (sym (outstanding-among (state_of t).host q cid)
      ∙ some_is (sym ((whole.host.table.identifiers.each q queue at).told cid (found_within queue.host.claimed cid next)) ∙ found_free queue.host.claimed cid next));
}

pub next-left : (t : Tables) → IsWhole t → (q cid : ℕ) (queue : Queue) → slice_get t.queues q ≡ Some queue → position not queue.host.claimed ≡ Some cid → no_identifier (state_of t) q ≡ false
next-left t whole q cid queue at next =
    let size = size-of-claims t whole q queue at in
    let fresh = next-fresh t whole q cid queue at next in
    let none : times cid (outstanding_on (state_of t).host q) ≡ 0 = not_held cid (outstanding_on (state_of t).host q) (not-true _ fresh.unused) in
    let few : length (outstanding_on (state_of t).host q) < t.entries - 1 =
    one-unused (t.entries - 1) cid (outstanding_on (state_of t).host q) (λ k some. omega (arith, outstanding-inside t whole q queue at k some, size))
    (whole.host.sound.identifiers q) (omega (arith, found_within queue.host.claimed cid next, size)) none in
    grind (arith, nat_tests, few)

pub none-left : (t : Tables) → IsWhole t → (q : ℕ) (queue : Queue) → slice_get t.queues q ≡ Some queue → position not queue.host.claimed ≡ None → no_identifier (state_of t) q ≡ true
none-left t whole q queue at next =
    let size = size-of-claims t whole q queue at in
    let all : t.entries - 1 ≤ length (outstanding_on (state_of t).host q) =
    all-used (t.entries - 1) (outstanding_on (state_of t).host q) (λ k l.
    let within : k < length queue.host.claimed = omega arith in
    let yes : is_outstanding t.records q k ≡ true = some_is (sym ((whole.host.table.identifiers.each q queue at).told k within) ∙ all_claimed queue.host.claimed k next within) in
    held_once k (outstanding_on (state_of t).host q) (sym (outstanding-among (state_of t).host q k) ∙ yes)) in
    grind (arith, nat_tests, all)

-- The refusals

pub refuses-other_blocks : (s : State) (q : ℕ) (r : Request) → lacks_queue s q r.kind ≡ false → in_state is_deleting s q ≡ false → fault_of r.kind r.block_size r.blocks r.pieces ≡ None
    → takes s.host.peer r.block_size ≡ false → Refuses s (events.Reserve q r) refusal.OtherBlocks []
refuses-other_blocks s q r a b c d = (rw (a, b, c, d) refl, refl)

pub refuses-no_identifier : (s : State) (q : ℕ) (r : Request) → lacks_queue s q r.kind ≡ false → in_state is_deleting s q ≡ false → fault_of r.kind r.block_size r.blocks r.pieces ≡ None
    → takes s.host.peer r.block_size ≡ true → no_identifier s q ≡ true
    → Refuses s (events.Reserve q r) refusal.NoIdentifier []
refuses-no_identifier s q r a b c d e = (rw (a, b, c, d, e) refl, refl)

pub refuses-no_pages : (s : State) (q : ℕ) (r : Request) → lacks_queue s q r.kind ≡ false → in_state is_deleting s q ≡ false → fault_of r.kind r.block_size r.blocks r.pieces ≡ None
    → takes s.host.peer r.block_size ≡ true → no_identifier s q ≡ false
    → length s.host.free < pages_wanted s r → Refuses s (events.Reserve q r) (refusal.NoPages (pages_wanted s r) (length s.host.free)) []
refuses-no_pages s q r a b c d e l = (rw (a, b, c, d, e, lt-ltb (length s.host.free) (pages_wanted s r) l) refl, refl)

pub refuses-nothing : (s : State) (q : ℕ) (r : Request) → lacks_queue s q r.kind ≡ false → in_state is_deleting s q ≡ false → fault_of r.kind r.block_size r.blocks r.pieces ≡ None
    → takes s.host.peer r.block_size ≡ true → no_identifier s q ≡ false
    → pages_wanted s r ≤ length s.host.free → refusal_of s (events.Reserve q r) ≡ None
refuses-nothing s q r a b c d e l = rw (a, b, c, d, e, le-ltb (length s.host.free) (pages_wanted s r) l) refl

pub refuses-memory : (s : State) (q : ℕ) (r : Request) → refusal_of s (events.Reserve q r) ≡ None → Refuses s (events.Reserve q r) refusal.Memory []
refuses-memory s q r none = (refl, none, refl)

pub refuses-too_few : (s : State) (q : ℕ) (r : Request) (need free : ℕ) → lacks_queue s q r.kind ≡ false → in_state is_deleting s q ≡ false → fault_of r.kind r.block_size r.blocks r.pieces ≡ None
    → takes s.host.peer r.block_size ≡ true → no_identifier s q ≡ false
    → need ≡ pages_wanted s r → free ≡ length s.host.free → free < need → Refuses s (events.Reserve q r) (refusal.NoPages need free) []
refuses-too_few s q r need free a b c d e en ef l = rw (en, ef) (refuses-no_pages s q r a b c d e (omega (arith, l, en, ef)))

-- What a queue tells of a request

pub record Asked (t : Tables) (q : ℕ) (r : Request) : Type 0 where
  pub queue : Queue
  pub at : slice_get t.queues q ≡ Some queue
  pub known : lacks_queue (state_of t) q r.kind ≡ false
  pub stays : in_state is_deleting (state_of t) q ≡ false
  pub good : fault_of r.kind r.block_size r.blocks r.pieces ≡ None
  pub fits : takes t.peer r.block_size ≡ true

-- where the data has room, the pages of the placement are wanted
pub wanted-placed : (free : List ℕ) (segment : ℕ) (pieces : List Piece) → data_count pieces ≤ length free → wanted_of free segment pieces ≡ data_count pieces + chain_wanted free segment pieces
wanted-placed free segment pieces room = ap (λ (b : Bool). if b then least_pages pieces segment else data_count pieces + chain_wanted free segment pieces) (le-ltb (length free) (data_count pieces) room)

pub granted : (t : Tables) (q : ℕ) (r : Request) (cid data_pages chain_pages : ℕ) → IsWhole t → (asked : Asked t q r) → position not asked.queue.host.claimed ≡ Some cid
    → data_pages ≡ data_count r.pieces → chain_pages ≡ chain_wanted (free_pages t.owners) t.segment r.pieces → data_pages + chain_pages ≤ length (free_pages t.owners) → Grants t q r cid data_pages chain_pages
granted t q r cid data_pages chain_pages whole asked next ef eb enough = record {
  none = refuses-nothing (state_of t) q r asked.known asked.stays asked.good asked.fits (next-left t whole q cid asked.queue asked.at next)
      (omega (arith, wanted-placed (free_pages t.owners) t.segment r.pieces (omega (arith, ef, enough)), ef, eb, enough));
  good = asked.good;
  there = slice_get_within t.queues q asked.queue asked.at;
  next = λ queue e. ap (λ (x : Queue). position not x.host.claimed) (some_is (sym e ∙ asked.at)) ∙ next;
  fresh = next-fresh t whole q cid asked.queue asked.at next;
  for_data = ef;
  for_chain = eb;
  enough = enough;
}

-- The next identifier of a queue is the lowest that is not outstanding.
pub next-lowest : (t : Tables) → IsWhole t → (q cid : ℕ) (queue : Queue) → slice_get t.queues q ≡ Some queue → position not queue.host.claimed ≡ Some cid → IsLowest (view_of t).host q cid
next-lowest t w q cid queue at next lower l =
    let claims = w.host.table.identifiers.each q queue at in
    let within : lower < length queue.host.claimed = omega (arith, l, found_within queue.host.claimed cid next) in
    sym (outstanding-among (view_of t).host q lower) ∙ some_is (sym (claims.told lower within) ∙ lower_claimed queue.host.claimed cid lower next l)

pub grant-lowest : (t : Tables) → IsWhole t → (q cid : ℕ) (r : Request) (data_pages chain_pages : ℕ) → Grants t q r cid data_pages chain_pages → IsLowest (view_of t).host q cid
grant-lowest t w q cid r data_pages chain_pages grants = let there = queue-here t.queues q grants.there in next-lowest t w q cid there.0 there.1 (grants.next there.0 there.1)
