-- Commands that are reserved.
use Rattle.machine_model.specs.Events as events
use Rattle.host_core.specs.Rows as declared
use Rattle.std.proofs.Common.{◌≡◌, ℕ, ◌<◌, ◌≤◌, ◌==◌, nat_lt, Bool, true, false, ◌&&◌, ◌||◌, Option, Some, None, List, [], ◌∷◌, ◌++◌, length, map, slice_get, slice_set, is_none, is_some, refl, ap, ap₂, sym, ◌∙◌, arith, subst, eqb-true, length-set, if◌then◌else◌, not, ◌+◌, All, length-append, inl, inr}
use Rattle.std.proofs.lemmas.Bool.{and_parts, not-false, true≢false, true_from_ne_false, false_from_ne_true, cases_Bool, cond_both, or_left, or_right, or_parts}
use Rattle.std.proofs.lemmas.List.{length-map, take_at, drop_at, Elements.{All-map, All-append}}
use Rattle.std.{proofs.lemmas.Option.{slice_get-map, slice_get_within}, specs.{List.AllByRecursion, Option.{option_map}}}
use Rattle.io_commands.specs.{Asked.Request, DataBytes.PagesOut, Drafts.DraftContents, Least.pages_with}
use Rattle.io_commands.specs.{Requests.{fault_of, data_count, FitsRequest, is_admin, joined_parts}, Values.{numbers_of, data_part, chain_part}, declared.request.Kind.Kind}
use Rattle.machine_model.proofs.Counting.{times-append, held_once, times-filter, times-pages, not_held, zeroed_numbers}
use Rattle.machine_model.proofs.{Headline.{length_placed, placed_times, two_placed, length_left}, Moves.queue_known}
use Rattle.machine_model.{proofs.Steps.{length-without_pages}, specs.After.{after_reserve, change}}
use Rattle.machine_model.specs.{Memory.{without_pages, zeroed_pages}, Placement.{placed, without_numbers, data_placed}}
use Rattle.machine_model.specs.{Refusals.{refusal_of, lacks_queue, no_io_queue, in_state, in_service, is_deleting, takes_admin}, State.{State, Record}}
use Rattle.machine_model.specs.{Step.{IsReserved, times}, declared.words.{Phase.TheVariants.Drafted, Refusal.Refusal, Work.TheVariants.Io}}
use Rattle.page_ledger.specs.{Owners.{is_among, owner_at, with_owner, free_pages, is_free, is_owned_at, pages_from}, declared.owner.Owner.Owner}
use Rattle.page_ledger.{specs.declared.owner.{Owner.TheVariants.{Free, Command}, Role.TheVariants.{Data, Chain}}, proofs.Tables.{length-with_owner, owner-with}}
use Rattle.host_core.proofs.{Ending.{Fits, due, moved_is, moved_whole}, Identifiers.{claim-more, queue-here, sound-of}}
use Rattle.host_core.proofs.{PageOwners.{free-owner, granted-free, among-append, pool-without, can-take, free-in, without-append}, QueueLists.Steps}
use Rattle.host_core.specs.{Alone.HasPlacedPages, Commands.{reserved, record_of_draft, first_placed, then_placed, with_claim, CanTake, Grants, new_draft}}
use Rattle.host_core.specs.{Rows.Queue, Tables.{Tables, state_of, host_queue_of, view_of}, Whole.{IsHost, IsWhole, TellsCommand, IsRecord}}
use Rattle.page_memory.specs.Pages.{Pages, zero_page}
use Rattle.sgl_chain.specs.Chains.{pages_needed}
use Rattle.slot_table.proofs.Rows.{option_is}
use Rattle.page_memory.proofs.Bytes.{none_of}
use Rattle.page_memory.proofs.Lists.{some_is, all-append, all-all}
use Rattle.machine_model.proofs.Sound.{small}
use Rattle.entry_codec.specs.declared.hints.TheConstants.Hints.{NONE}

-- A reservation on the tables is the machine's, and leaves them whole.

-- What is known where a reservation isn't refused

record Passes (s : State) (q : ℕ) (r : Request) : Type 0 where
  queue : lacks_queue s q r.kind ≡ false
  good : fault_of r.kind r.block_size r.blocks r.pieces ≡ None

-- of the first three causes
first-and-third : (a b c : Bool) (x y z : Refusal) (rest : Option Refusal) → (if a then Some x else if b then Some y else if c then Some z else rest) ≡ None → (a ≡ false) × (c ≡ false)
first-and-third a b c x y z rest none = (grind arith, grind arith)

passes : (s : State) (q : ℕ) (r : Request) → refusal_of s (events.Reserve q r) ≡ None → Passes s q r
passes s q r none =
    let both = first-and-third (lacks_queue s q r.kind) (in_state is_deleting s q) (is_some (fault_of r.kind r.block_size r.blocks r.pieces)) _ _ _ _ none in
    record { queue = both.0; good = none_of (fault_of r.kind r.block_size r.blocks r.pieces) both.1 }

io-there : (t : Tables) (q : ℕ) → no_io_queue (state_of t) q ≡ false → (queue : declared.Queue) × (slice_get t.queues q ≡ Some queue)
io-there t q known = elim (option_is (slice_get t.queues q)) [
  | inr x ↦ x
  | inl e ↦ absurd (true≢false (sym (ap is_none (slice_get-map host_queue_of t.queues q ∙ ap (option_map host_queue_of) e)) ∙ there))
]
  where
    there : is_none (slice_get (map host_queue_of t.queues) q) ≡ false
    there = queue_known in_service (state_of t) q (or_parts (q == 0) (not (in_state in_service (state_of t) q)) known).1

-- an I/O queue in service, and for an admin command queue 0
pub queue_there : (t : Tables) → IsHost t → (q : ℕ) (kind : Kind) → lacks_queue (state_of t) q kind ≡ false → (queue : declared.Queue) × (slice_get t.queues q ≡ Some queue)
queue_there t h q kind known = elim (cases_Bool (is_admin kind)) [
  | inr other ↦ io-there t q (rw other at known)
  | inl admin ↦
      let zeroth : q ≡ 0 = eqb-true q 0 (and_parts (takes_admin t.peer) (q == 0) (not-false _ (rw admin at known))).1 in
      queue-here t.queues q (omega (arith, zeroth, h.limits.some_queues))
]

-- The pages that are reserved

abbrev numbers : DraftContents → List ℕ
numbers d = numbers_of d.data_pages ++ numbers_of d.chain_pages

-- each is free, and named once
record Reserving (t : Tables) (d : DraftContents) : Type 0 where
  free : (p : ℕ) → is_among (numbers d) p ≡ true → owner_at t.owners p ≡ Some Free
  once : (p : ℕ) → times p (numbers d) ≤ 1

reserving : (t : Tables) (q : ℕ) (r : Request) (d : DraftContents) → IsReserved (state_of t) q r d → Reserving t d
reserving t q r d is = record {
  free = λ p h. free-owner t.owners p (held_once p (free_pages t.owners) (true_from_ne_false (is_among (free_pages t.owners) p)
      (λ e. omega (arith, rw (h, e) at (is.free p), held_once p (numbers d) h))));
  once = λ p. omega (arith, is.free p, cond_both (is_among (numbers d) p && is_among (free_pages t.owners) p) 1 0 (λ (n : ℕ). n ≤ 1) (λ _. omega arith) (λ _. omega arith));
}

-- their owners

owner-after : (t : Tables) (d : DraftContents) (p : ℕ) → p < length t.owners
    → owner_at (reserved d t).owners p ≡ (if is_among (numbers_of d.chain_pages) p then Some (Command d.q d.cid Chain)
    else if is_among (numbers_of d.data_pages) p then Some (Command d.q d.cid Data) else owner_at t.owners p)
owner-after t d p l =
    let a = numbers_of d.data_pages in
    let b = numbers_of d.chain_pages in
    owner-with (with_owner t.owners a (Command d.q d.cid Data)) b (Command d.q d.cid Chain) p (subst (λ (n : ℕ). p < n) (sym (length-with_owner t.owners a (Command d.q d.cid Data))) l)
    ∙ ap (λ o. if is_among b p then Some (Command d.q d.cid Chain) else o) (owner-with t.owners a (Command d.q d.cid Data) p l)

-- a page that had an owner keeps it
owner-stays : (t : Tables) (d : DraftContents) → Reserving t d → (p : ℕ) (x : Owner) → (x ≡ Free → ⊥) → owner_at t.owners p ≡ Some x → owner_at (reserved d t).owners p ≡ Some x
owner-stays t d is p x busy at =
    let none : is_among (numbers d) p ≡ false = false_from_ne_true (is_among (numbers d) p) (λ h. busy (some_is (sym at ∙ is.free p h))) in
    let both = or_parts (is_among (numbers_of d.data_pages) p) _ (sym (among-append (numbers_of d.data_pages) (numbers_of d.chain_pages) p) ∙ none) in
    owner-after t d p (slice_get_within t.owners p x at) ∙ rw (both.1, both.0) at

new-owners : (t : Tables) (d : DraftContents) → Reserving t d → TellsCommand (reserved d t).owners (record_of_draft d)
new-owners t d is = record {
  data_pages = λ p e.
      let f : is_among (numbers_of d.chain_pages) p ≡ false = false_from_ne_true (is_among (numbers_of d.chain_pages) p)
      (λ f. omega (
        arith,
        is.once p,
        times-append p (numbers_of d.data_pages) (numbers_of d.chain_pages),
        held_once p (numbers_of d.data_pages) e,
        held_once p
            (numbers_of d.chain_pages) f,
      )) in
      owner-after t d p (within p (or_left (is_among (numbers_of d.data_pages) p) _ e)) ∙ rw (f, e) refl;
  chain_pages = λ p f. owner-after t d p (within p (or_right (is_among (numbers_of d.data_pages) p) _ f)) ∙ rw f refl;
}
  where
    within : (p : ℕ) → (is_among (numbers_of d.data_pages) p || is_among (numbers_of d.chain_pages) p) ≡ true → p < length t.owners
    within p h = slice_get_within t.owners p Free (is.free p (among-append (numbers_of d.data_pages) (numbers_of d.chain_pages) p ∙ h))

-- The state that is due

reserved-due : (t : Tables) (d : DraftContents) → after_reserve d (state_of t) ≡ due (state_of t) (reserved d t).pages (reserved d t).owners (reserved d t).records
reserved-due t d =
    let s = state_of t in
    ap (λ (free : List ℕ). record s { memory = (reserved d t).pages; host = record s.host { free = free; records = (reserved d t).records } })
    (sym (granted-free t.owners (numbers_of d.data_pages) (numbers_of d.chain_pages) (Command d.q d.cid Data) (Command d.q d.cid Chain) refl refl))

commands-told : (t : Tables) (d : DraftContents) → Reserving t d → AllByRecursion (TellsCommand t.owners) t.records → AllByRecursion (TellsCommand (reserved d t).owners) (reserved d t).records
commands-told t d is told =
    all-append (TellsCommand (reserved d t).owners) t.records (record_of_draft d)
    (all-all (TellsCommand t.owners) (TellsCommand (reserved d t).owners) (λ x tells. record {
      data_pages = λ p h. owner-stays t d is p (Command x.q x.cid Data) (λ e. cc) (tells.data_pages p h);
      chain_pages = λ p h. owner-stays t d is p (Command x.q x.cid Chain) (λ e. cc) (tells.chain_pages p h);
    }) t.records told)
    (new-owners t d is)

pub reserved_step : (t : Tables) (q : ℕ) (r : Request) (d : DraftContents) → IsWhole t → FitsRequest r → refusal_of (state_of t) (events.Reserve q r) ≡ None → IsReserved (state_of t) q r d
    → Steps t (events.Reserve q r) (events.Reserved d) (reserved d t)
reserved_step t q r d whole proper none is =
    moved_whole t d.q (λ claimed. slice_set claimed d.cid true) (reserved d t).pages (reserved d t).owners (reserved d t).records (events.Reserve q r)
    (events.Reserved d) whole fits refl proper (
      none,
      is,
      moved_is t d.q (λ claimed. slice_set claimed d.cid true) (reserved d t).pages (reserved d t).owners (reserved d t).records ∙ sym (reserved-due t d),
    )
  where
    at : (queue : declared.Queue) × (slice_get t.queues d.q ≡ Some queue)
    at = queue_there t whole.host d.q r.kind (rw is.queue (passes (state_of t) q r none).queue)

    fits : Fits t d.q (λ claimed. slice_set claimed d.cid true) (reserved d t).pages (reserved d t).owners (reserved d t).records
    fits = record {
      pool = pool-without (numbers d) t.pages whole.over.pool;
      many = length-without_pages (numbers d) t.pages;
      lent = length-with_owner (with_owner t.owners (numbers_of d.data_pages) (Command d.q d.cid Data)) (numbers_of d.chain_pages) (Command d.q d.cid Chain) ∙ length-with_owner t.owners (numbers_of d.data_pages) (Command d.q d.cid Data);
      size = λ bits. length-set bits d.cid true;
      queues_told = λ k queue e. let tells = whole.host.table.owners.queues_told k queue e in record {
        submission = λ p h. owner-stays t d (reserving t q r d is) p _ (λ f. cc) (tells.submission p h);
        completion = λ p h. owner-stays t d (reserving t q r d is) p _ (λ f. cc) (tells.completion p h);
      };
      commands_told = commands-told t d (reserving t q r d is) whole.host.table.owners.commands_told;
      identifiers = claim-more t.records t.queues (record_of_draft d) whole.host.table.identifiers
          (λ queue e. let side = (whole.host.rings.each d.q queue e) in omega (arith, is.identifier.in_range, side.host_side.identifiers, side.entries));
      fit = all-append (IsRecord (length t.queues)) t.records (record_of_draft d) whole.host.table.records (record {
        queue = slice_get_within t.queues d.q at.0 at.1;
        work = (
          subst (λ (x : Request). fault_of x.kind x.block_size x.blocks x.pieces ≡ None) (sym is.request) (passes (state_of t) q r none).good,
          length-map d.data_pages
              (λ page. page.0) ∙ (is.data_pages ∙ ap (λ (x : Request). data_count x.pieces) (sym is.request)),
        );
        phase = tt;
      });
    }

-- Pages that are placed among the free ones, handed to a command in two parts.

-- What is taken of the free pages

pub free-once : (owners : List Owner) (p : ℕ) → times p (free_pages owners) ≤ 1
free-once owners p =
    let count = times-filter p (is_owned_at is_free owners) (pages_from 0 (length owners)) in
    let few : times p (pages_from 0 (length owners)) ≤ 1 = omega (arith, times-pages p (length owners), small (nat_lt p (length owners))) in
    omega (arith, count, cond_both (is_owned_at is_free owners p) (times p (pages_from 0 (length owners))) 0 (λ (n : ℕ). n ≤ 1) (λ _. few) (λ _. omega arith))

-- the two parts together are free pages, none of them twice
placed-times : (owners : List Owner) (m n p : ℕ) → times p (first_placed owners m ++ then_placed owners m n) ≤ times p (free_pages owners)
placed-times owners m n p =
    two_placed p (first_placed owners m) (free_pages owners) (then_placed owners m n) (placed_times p (free_pages owners) m)
    (placed_times p (without_numbers (first_placed owners m) (free_pages owners)) n)

are-free : (owners : List Owner) (m n p : ℕ) → times p (first_placed owners m ++ then_placed owners m n)
    ≡ (if is_among (first_placed owners m ++ then_placed owners m n) p && is_among (free_pages owners) p then 1 else 0)
are-free owners m n p =
    let pages = first_placed owners m ++ then_placed owners m n in
    elim (cases_Bool (is_among pages p)) [
      | inr e ↦ rw e (not_held p pages e)
      | inl e ↦
          let some = held_once p pages e in
          let among : is_among (free_pages owners) p ≡ true = true_from_ne_false (is_among (free_pages owners) p)
          (λ f. omega (arith, some, placed-times owners m n p, not_held p (free_pages owners) f)) in
          rw (e, among) (omega (arith, some, placed-times owners m n p, free-once owners p))
    ]

can-take-append : (a b : List ℕ) (m : Pages) → CanTake (a ++ b) m → CanTake a m × CanTake b (without_pages a m)
can-take-append [] b m h = (tt, h)
can-take-append (x ∷ a) b m h = let r = can-take-append a b (slice_set m x None) h.1 in ((h.0, r.0), r.1)

pub granted_can_take : (t : Tables) → IsWhole t → (m n : ℕ) → CanTake (first_placed t.owners m) t.pages × CanTake (then_placed t.owners m n) (without_pages (first_placed t.owners m) t.pages)
granted_can_take t whole m n =
    can-take-append (first_placed t.owners m) (then_placed t.owners m n) t.pages
    (can-take _ t.pages (λ p. omega (arith, placed-times t.owners m n p, free-in (state_of t) (sound-of t whole) p)))

-- The draft

pub length-zeroed : (ps : List ℕ) → length (zeroed_pages ps) ≡ length ps
length-zeroed ps = length-map ps (λ p. (p, zero_page))

all-zeroed : (ps : List ℕ) → All (λ (page : ℕ × List ℕ). page.1 ≡ zero_page) (zeroed_pages ps)
all-zeroed ps = All-map (λ (page : ℕ × List ℕ). page.1 ≡ zero_page) (λ p. (p, zero_page)) ps (λ k d l. refl)

pub data-size : (t : Tables) (q : ℕ) (r : Request) (cid m n : ℕ) → Grants t q r cid m n → length (first_placed t.owners m) ≡ m
data-size t q r cid m n grants = length_placed (free_pages t.owners) m (let e = grants.enough in omega arith)

pub chain-size : (t : Tables) (q : ℕ) (r : Request) (cid m n : ℕ) → Grants t q r cid m n → length (then_placed t.owners m n) ≡ n
chain-size t q r cid m n grants =
    length_placed (without_numbers (first_placed t.owners m) (free_pages t.owners)) n
    (omega (arith, length_left (first_placed t.owners m) (free_pages t.owners) (λ p. placed_times p (free_pages t.owners) m) (free-once t.owners), data-size t q r cid m n grants, grants.enough))

-- the numbers of its data pages are where its data is placed
data-numbers : (t : Tables) (q : ℕ) (r : Request) (cid m n : ℕ) → Grants t q r cid m n → numbers_of (zeroed_pages (first_placed t.owners m)) ≡ data_placed (free_pages t.owners) r.pieces
data-numbers t q r cid m n grants = zeroed_numbers (first_placed t.owners m) ∙ ap (placed (free_pages t.owners)) grants.for_data

pub new_draft_fits : (t : Tables) (q : ℕ) (r : Request) (cid m n : ℕ) → Grants t q r cid m n
    → IsReserved (state_of t) q r (new_draft q cid r (first_placed t.owners m) (then_placed t.owners m n) t.segment)
new_draft_fits t q r cid m n grants =
    let a = first_placed t.owners m in
    let b = then_placed t.owners m n in
    record {
      queue = refl;
      request = refl;
      segment = refl;
      identifier = grants.fresh;
      data_pages = length-zeroed a ∙ (data-size t q r cid m n grants ∙ grants.for_data);
      chain_pages = length-zeroed b ∙ (chain-size t q r cid m n grants ∙ (grants.for_chain ∙ ap (λ (ps : List ℕ). pages_needed (length (joined_parts r.pieces ps)) t.segment) (sym (data-numbers t q r cid m n grants))));
      free = λ p. subst (λ (ps : List ℕ). times p ps ≡ (if is_among ps p && is_among (free_pages t.owners) p then 1 else 0))
          (sym (ap₂ (λ (x y : List ℕ). x ++ y) (zeroed_numbers a) (zeroed_numbers b))) (are-free t.owners m n p);
      zero = All-append (λ (page : ℕ × List ℕ). page.1 ≡ zero_page) (zeroed_pages a) (zeroed_pages b) (all-zeroed a) (all-zeroed b);
      not_built = refl;
    }

made_parts : (t : Tables) (q : ℕ) (r : Request) (cid m n : ℕ) → Grants t q r cid m n → (pages : PagesOut) → pages ≡ zeroed_pages (first_placed t.owners m) ++ zeroed_pages
    (then_placed t.owners m n)
    → (data_part r pages ≡ zeroed_pages (first_placed t.owners m)) × (chain_part r pages ≡ zeroed_pages (then_placed t.owners m n))
made_parts t q r cid m n grants pages is =
    let a = zeroed_pages (first_placed t.owners m) in
    let b = zeroed_pages (then_placed t.owners m n) in
    let size : length a ≡ data_count r.pieces = length-zeroed (first_placed t.owners m) ∙ (data-size t q r cid m n grants ∙ grants.for_data) in
    (ap (data_part r) is ∙ take_at a b (data_count r.pieces) size, ap (chain_part r) is ∙ drop_at a b (data_count r.pieces) size)

-- as it is made of one list of pages
pub made_draft : (t : Tables) (q : ℕ) (r : Request) (cid m n : ℕ) → Grants t q r cid m n → (pages : PagesOut)
    → pages ≡ zeroed_pages (first_placed t.owners m) ++ zeroed_pages (then_placed t.owners m n)
    → record { q = q; cid = cid; request = r; data_pages = data_part r pages; chain_pages = chain_part r pages; segment = t.segment; entry = None }
    ≡ new_draft q cid r (first_placed t.owners m) (then_placed t.owners m n) t.segment
made_draft t q r cid m n grants pages is =
    let parts = made_parts t q r cid m n grants pages is in
    ap₂ (λ (x y : PagesOut). record { q = q; cid = cid; request = r; data_pages = x; chain_pages = y; segment = t.segment; entry = None }) parts.0 parts.1

pub made_size : (t : Tables) (q : ℕ) (r : Request) (cid m n : ℕ) → Grants t q r cid m n → (pages : PagesOut)
    → pages ≡ zeroed_pages (first_placed t.owners m) ++ zeroed_pages (then_placed t.owners m n) → length pages ≡ m + n
made_size t q r cid m n grants pages is =
    let a = first_placed t.owners m in
    let b = then_placed t.owners m n in
    omega (arith, ap length is, length-append (zeroed_pages a) (zeroed_pages b), length-zeroed a, length-zeroed b, data-size t q r cid m n grants, chain-size t q r cid m n grants)

-- they are as many as its chain takes there
pub made_pages : (t : Tables) (q : ℕ) (r : Request) (cid m n : ℕ) → Grants t q r cid m n → (pages : PagesOut)
    → pages ≡ zeroed_pages (first_placed t.owners m) ++ zeroed_pages (then_placed t.owners m n) → length pages ≡ pages_with r.pieces t.segment (joined_parts r.pieces (numbers_of (data_part r pages)))
made_pages t q r cid m n grants pages is =
    let numbers : numbers_of (data_part r pages) ≡ data_placed (free_pages t.owners) r.pieces = ap numbers_of (made_parts t q r cid m n grants pages is).0
    ∙ data-numbers t q r cid m n grants in
    omega (arith, made_size t q r cid m n grants pages is, grants.for_data, grants.for_chain, ap (λ (ps : List ℕ). pages_needed (length (joined_parts r.pieces ps)) t.segment) numbers)

-- The tables

pub reserved_tables : (t : Tables) (q cid : ℕ) (r : Request) (a b : List ℕ) (pages : Pages) (owners : List Owner) (records : List Record) (queues : List Queue)
    → pages ≡ without_pages b (without_pages a t.pages) → owners ≡ with_owner (with_owner t.owners a (Command q cid Data)) b (Command q cid Chain)
    → records ≡ t.records ++ record { q = q; cid = cid; phase = Drafted; work = Io r; data_pages = a; chain_pages = b; status = None; hints = NONE } ∷ []
    → queues ≡ change q (with_claim cid) t.queues
    → record t { pages = pages; owners = owners; records = records; queues = queues } ≡ reserved (new_draft q cid r a b t.segment) t
reserved_tables t q cid r a b pages owners records queues ep eo er eq =
    rw (ep, eo, er, eq, zeroed_numbers a, zeroed_numbers b, without-append a b t.pages) refl

-- The whole of a reservation

pub reserve_made : (t new : Tables) (q cid : ℕ) (r : Request) (m n : ℕ) (d : DraftContents) → IsWhole t → FitsRequest r → Grants t q r cid m n
    → d ≡ new_draft q cid r (first_placed t.owners m) (then_placed t.owners m n) t.segment → new ≡ reserved d t → Steps t (events.Reserve q r) (events.Reserved d) new
reserve_made t new q cid r m n d whole proper grants is after =
    rw after (reserved_step t q r d whole proper grants.none (subst (λ (x : DraftContents). IsReserved (state_of t) q r x) (sym is) (new_draft_fits t q r cid m n grants)))

-- What is chosen

pub placed_pages : (t : Tables) (q cid : ℕ) (r : Request) (m n : ℕ) (d : DraftContents) → Grants t q r cid m n
    → d ≡ new_draft q cid r (first_placed t.owners m) (then_placed t.owners m n) t.segment → HasPlacedPages (view_of t).host d
placed_pages t q cid r m n d grants is =
    let free : List ℕ = free_pages t.owners in
    subst (λ (x : DraftContents). HasPlacedPages (view_of t).host x) (sym is)
    (record {
      data_pages = data-numbers t q r cid m n grants;
      chain_pages =
          zeroed_numbers (then_placed t.owners m n)
          ∙ ap₂ (λ (k l : ℕ). placed (without_numbers (placed free k) free) l) grants.for_data grants.for_chain;
    })
