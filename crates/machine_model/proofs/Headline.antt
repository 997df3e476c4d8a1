-- The headline of a state.
use Rattle.std.proofs.Common.{◌≡◌, ℕ, zero, suc, ◌+◌, ◌≤◌, ◌==◌, true, not, Some, List, [], ◌∷◌, ◌++◌, length, take, filter, refl, ap, ◌∙◌, arith, eqb-true, eq-eqb, ◌-◌, ◌*◌, ◌<◌, nat_lt, ltb-false, nat_le, leb-true, ◌&&◌, drop, replicate, slice_get, ap₂, sym, zero-mul, zero-add, map, flat_map, sum_by, length-append, subst}
use Rattle.std.{proofs.lemmas.{Bool.{and_parts}, List.{length-replicate, Sums.sum_by-cons}}}
use Rattle.machine_model.proofs.Counting.{one, times-cons, times-append, times-filter, held_once, not_held, times-pages, length_of_all, once_in_run, all_among, total}
use Rattle.machine_model.proofs.Kept.{bare_at_opening, halves_at_opening, zero_opened}
use Rattle.machine_model.proofs.Owned.{in_queue, HoldsPart, holds_from_sound, owners_from_holds, identifiers_from_holds, Taken, out_from_taken, taken_from_out}
use Rattle.machine_model.proofs.Sound.{deletions_at_opening, creations_at_opening, Both, both_events}
use Rattle.machine_model.proofs.Steps.{first_fails, rest_fails, in_store, length-in_store, each_step, each_run}
use Rattle.machine_model.specs.Claims.{each_step_keeps, every_run_is_sound, every_run_takes_out, counts_add_up, claimed, claims_of, claims_of_queues, claims_of_record, IsSound, HasOneOwner, counts_of}
use Rattle.machine_model.specs.Opening.{opening, queues_from, pages_of_queues, is_config, Opens}
use Rattle.machine_model.specs.Placement.{placed, without_numbers, data_placed, chain_wanted, chain_placed, wanted_of}
use Rattle.machine_model.specs.{State.{State, Host, HostQueue, Record}, Step.{times, host_part}}
use Rattle.page_ledger.{proofs.Pages.length-pages_from as length_run, specs.{Counting.total as total_counting, Owners.{pages_from}}}
use Rattle.page_ledger.specs.declared.owner.{Owner.{Owner}}
use Rattle.io_commands.specs.{Requests.data_count, declared.request.Piece.Piece}
use Rattle.page_memory.specs.{Pages.zero_page, declared.page.Half.TheVariants.{Submission, Completion}}
use Rattle.queue_pair.specs.Memory.{half_pages}
use Rattle.std.proofs.lemmas.Grind.{common_steps}
use Rattle.page_memory.proofs.Lists.{found_is}
use Rattle.page_ledger.proofs.Pages.{length-pages_from}

-- What is placed are free pages, each once, and as many as are wanted where there are that many.

-- Pages that are placed

take_times : (p n : ℕ) (xs : List ℕ) → times p (take n xs) ≤ times p xs
take_times p (suc n) (x ∷ xs) = omega (arith, times-cons p x (take n xs), times-cons p x xs, take_times p n xs)
take_times p n xs = omega arith

length_taken : (n : ℕ) (xs : List ℕ) → n ≤ length xs → length (take n xs) ≡ n
length_taken zero xs h = refl
length_taken (suc n) [] h = absurd (omega (arith, h))
length_taken (suc n) (x ∷ xs) h = ap suc (length_taken n xs (omega (arith, h)))

pub length_placed : (free : List ℕ) (count : ℕ) → count ≤ length free → length (placed free count) ≡ count
length_placed free count enough = grind (arith, length_taken, length_run)

pub placed_times : (p : ℕ) (free : List ℕ) (count : ℕ) → times p (placed free count) ≤ times p free
placed_times p free count = grind (arith, take_times, found_is, once_in_run, held_once, all_among, not_held)

-- of free pages, some and then some of those that are left
pub two_placed : (p : ℕ) (pages free more : List ℕ) → times p pages ≤ times p free → times p more ≤ times p (without_numbers pages free) → times p (pages ++ more) ≤ times p free
two_placed p pages free more some rest = grind (arith, times-filter, times-append, not_held)

-- How many are left

one_less : (d : ℕ) (free : List ℕ) → length (filter (λ p. not (d == p)) free) + times d free ≡ length free
one_less d [] = refl
one_less d (x ∷ free) = grind (arith, one_less d free)

left_in_turn : (d : ℕ) (pages free : List ℕ) → without_numbers (d ∷ pages) free ≡ without_numbers pages (filter (λ p. not (d == p)) free)
left_in_turn d pages [] = refl
left_in_turn d pages (x ∷ free) = grind (arith, left_in_turn d pages free)

pub length_left : (pages free : List ℕ) → ((p : ℕ) → times p pages ≤ times p free) → ((p : ℕ) → times p free ≤ 1) → length (without_numbers pages free) + length pages ≡ length free
length_left [] free some once = omega (arith, all free)
  where
    all : (xs : List ℕ) → length (without_numbers [] xs) ≡ length xs
    all [] = refl
    all (x ∷ xs) = ap suc (all xs)
length_left (d ∷ pages) free some once = grind (arith, length_left pages (filter (λ p. not (d == p)) free), times-filter, left_in_turn, one_less, times-cons, eq-eqb, eqb-true)

-- A request's pages

pub placement_times : (p : ℕ) (free : List ℕ) (segment : ℕ) (pieces : List Piece) → times p (data_placed free pieces ++ chain_placed free segment pieces) ≤ times p free
placement_times p free segment pieces = grind (arith, two_placed, placed_times)

pub length_chain : (free : List ℕ) (segment : ℕ) (pieces : List Piece) → ((p : ℕ) → times p free ≤ 1) → data_count pieces + chain_wanted free segment pieces ≤ length free
    → length (chain_placed free segment pieces) ≡ chain_wanted free segment pieces
length_chain free segment pieces once enough =
    let front : length (data_placed free pieces) ≡ data_count pieces = length_placed free (data_count pieces) (omega (arith, enough)) in
    let left = length_left (data_placed free pieces) free (λ p. placed_times p free (data_count pieces)) once in
    length_placed (without_numbers (data_placed free pieces) free) (chain_wanted free segment pieces) (omega (arith, front, left, enough))

-- where as many pages are free as a request wants, its data has room, and its chain after it
pub room_for : (free : List ℕ) (segment : ℕ) (pieces : List Piece) → wanted_of free segment pieces ≤ length free → data_count pieces + chain_wanted free segment pieces ≤ length free
room_for free segment pieces enough = grind arith

-- The opening state keeps the invariant.

range_split : (a c d n : ℕ) → c + d ≡ n → pages_from a n ≡ pages_from a c ++ pages_from (a + c) d
range_split a zero d n e = ap₂ pages_from (omega arith) (omega arith)
range_split a (suc c) d zero e = absurd (omega arith)
range_split a (suc c) d (suc n) e = grind (arith, range_split (a + 1) c d n)

drop_front : (xs ys : List ℕ) → drop (length xs) (xs ++ ys) ≡ ys
drop_front [] ys = refl
drop_front (x ∷ xs) ys = drop_front xs ys

free_pages : (k n : ℕ) → k ≤ n → drop k (pages_from 0 n) ≡ pages_from k (n - k)
free_pages k n le =
    let split : pages_from 0 n ≡ pages_from 0 k ++ pages_from (0 + k) (n - k) = range_split 0 k (n - k) n (omega arith) in
    let at : length (pages_from 0 k) ≡ k = length-pages_from 0 k in
    ap (drop k) split ∙ ap (λ i. drop i (pages_from 0 k ++ pages_from (0 + k) (n - k))) (sym at) ∙ drop_front (pages_from 0 k) (pages_from (0 + k) (n - k)) ∙ ap (λ a. pages_from a (n - k)) (zero-add k)

three : (p page a b count rest : ℕ) → rest ≡ times p (pages_from (page + a + b) (count * (a + b)))
    → times p (pages_from page a) + times p (pages_from (page + a) b) + rest ≡ times p (pages_from page (suc count * (a + b)))
three p page a b count rest e =
    let first = range_split page a (b + count * (a + b)) (suc count * (a + b)) (omega arith) in
    let second = range_split (page + a) b (count * (a + b)) (b + count * (a + b)) refl in
    omega (arith, e, ap (times p) first, times-append p (pages_from page a) (pages_from (page + a) (b + count * (a + b))), ap (times p) second, times-append p (pages_from (page + a) b) (pages_from (page + a + b) (count * (a + b))))

queue_pages : (p page n count : ℕ) → total (in_queue p) (queues_from page n count) ≡ times p (pages_from page (count * (half_pages n Submission + half_pages n Completion)))
queue_pages p page n zero = ap (λ k. times p (pages_from page k)) (sym (zero-mul (half_pages n Submission + half_pages n Completion)))
queue_pages p page n (suc count) = three p page (half_pages n Submission) (half_pages n Completion) count _ (queue_pages p (page + half_pages n Submission + half_pages n Completion) n count)

whole : (p pages k : ℕ) {q : ℕ} → k ≤ pages → q ≡ times p (pages_from 0 k) → times p (drop k (pages_from 0 pages)) + (q + 0) ≡ one (nat_lt p pages)
whole p pages k le e =
    omega (
      arith,
      ap (times p) (free_pages k pages le),
      e,
      ap (times p) (range_split 0 k (pages - k) pages (omega arith)),
      times-append p (pages_from 0 k) (pages_from (0 + k) (pages - k)),
      ap (λ a. times p (pages_from a (pages - k))) (zero-add k),
      times-pages p pages,
    )

abbrev pub FitsPool : (pages queues n : ℕ) → Type 0
FitsPool pages queues n = pages_of_queues queues n ≤ pages

-- what opens has enough pages, and its limits
pub fits_pool : (pages queues n s : ℕ) → Opens pages queues n s → FitsPool pages queues n
fits_pool pages queues n s opens = grind (arith, ltb-false, first_fails, rest_fails)

pub in_limits : (pages queues n s : ℕ) → Opens pages queues n s → is_config pages queues n s ≡ true
in_limits pages queues n s opens = grind (arith, first_fails)

pub record Limits (pages queues n s : ℕ) : Type 0 where
  pub pages_most : pages ≤ 65536
  pub queues_most : queues ≤ 64
  pub entries_least : 2 ≤ n
  pub segment_least : 2 ≤ s
  pub segment_most : s ≤ 256

pub limits_of : (pages queues n s : ℕ) → is_config pages queues n s ≡ true → Limits pages queues n s
limits_of pages queues n s h =
    let a = and_parts (nat_le 8 pages && nat_le pages 65536 && nat_le 1 queues && nat_le queues 64 && nat_le 2 n && nat_le n 1024 && nat_le 2 s) (nat_le s 256) h in
    let b = and_parts (nat_le 8 pages && nat_le pages 65536 && nat_le 1 queues && nat_le queues 64 && nat_le 2 n && nat_le n 1024) (nat_le 2 s) a.0 in
    let c = and_parts (nat_le 8 pages && nat_le pages 65536 && nat_le 1 queues && nat_le queues 64 && nat_le 2 n) (nat_le n 1024) b.0 in
    let d = and_parts (nat_le 8 pages && nat_le pages 65536 && nat_le 1 queues && nat_le queues 64) (nat_le 2 n) c.0 in
    let e = and_parts (nat_le 8 pages && nat_le pages 65536 && nat_le 1 queues) (nat_le queues 64) d.0 in
    let f = and_parts (nat_le 8 pages && nat_le pages 65536) (nat_le 1 queues) e.0 in
    let g = and_parts (nat_le 8 pages) (nat_le pages 65536) f.0 in
    record { pages_most = leb-true pages 65536 g.1; queues_most = leb-true queues 64 e.1; entries_least = leb-true 2 n d.1; segment_least = leb-true 2 s b.1; segment_most = leb-true s 256 a.1 }

pub limits_say : (pages queues n s : ℕ) → is_config pages queues n s ≡ true → (0 < n) × (queues < 65536)
limits_say pages queues n s h = let l = limits_of pages queues n s h in (omega (arith, l.entries_least), omega (arith, l.queues_most))

pub holds_at_opening : (pages queues n s : ℕ) (image : List ℕ) → FitsPool pages queues n → HoldsPart (host_part (opening pages queues n s image))
holds_at_opening pages queues n s image fits =
    let count : length (in_store (replicate pages (Some zero_page))) ≡ pages = length-in_store (replicate pages (Some zero_page)) ∙ length-replicate pages (Some zero_page) in
    record {
      owner = λ p. whole p pages ((queues + 1) * (half_pages n Submission + half_pages n Completion)) fits (queue_pages p 0 n (queues + 1)) ∙ ap (λ k. one (nat_lt p k)) (sym count);
      once = λ q cid. omega arith;
      admins = tt;
      deletions = deletions_at_opening pages queues n s image;
      creations = creations_at_opening pages queues n s image;
      bare = bare_at_opening pages queues n s image;
      halves = halves_at_opening 0 n (queues + 1);
      admin = zero_opened 0 n (queues + 1);
    }

pub taken_at_opening : (pages queues n s : ℕ) (image : List ℕ) → Taken (in_store (opening pages queues n s image).memory) []
taken_at_opening pages queues n s image p l = all_in pages p (omega (arith, length-in_store (replicate pages (Some zero_page)), length-replicate pages (Some zero_page)))
  where
    all_in : (pages p : ℕ) → p < pages → slice_get (in_store (replicate pages (Some zero_page))) p ≡ Some true
    all_in zero p l = absurd (omega arith)
    all_in (suc pages) zero l = refl
    all_in (suc pages) (suc p) l = all_in pages p (omega arith)

-- The laws.

-- The four counts are the lengths of the claims

length_claimed : (owner : Owner) (pages : List ℕ) → length (claimed owner pages) ≡ length pages
length_claimed owner [] = refl
length_claimed owner (p ∷ pages) = ap suc (length_claimed owner pages)

abbrev pub firsts : List (ℕ × Owner) → List ℕ
firsts claims = map (λ claim. claim.0) claims

length_firsts : (claims : List (ℕ × Owner)) → length (firsts claims) ≡ length claims
length_firsts [] = refl
length_firsts (claim ∷ claims) = ap suc (length_firsts claims)

in_halves : (q : ℕ) (queues : List HostQueue) → length (claims_of_queues q queues) ≡ sum_by (λ queue. length queue.sq_pages + length queue.cq_pages) queues
in_halves q [] = refl
in_halves q (queue ∷ queues) = grind (arith, in_halves (q + 1) queues, length-append, length_claimed, sum_by-cons, common_steps)

in_commands : (records : List Record) → length (flat_map claims_of_record records) ≡ sum_by (λ r. length r.chain_pages) records + sum_by (λ r. length r.data_pages) records
in_commands [] = refl
in_commands (r ∷ records) = grind (arith, in_commands records, length-append, length_claimed, sum_by-cons, common_steps)

all_claims : (h : Host) → length (firsts (claims_of h)) ≡ total_counting (counts_of h)
all_claims h = grind (arith, flat_map, length_firsts, length-append, length_claimed, in_halves, in_commands)

pub counts_are_all : counts_add_up
counts_are_all count h owners = sym (all_claims h) ∙ length_of_all count (firsts (claims_of h)) owners

-- The invariant that is kept, and the statement

pub sound_from_both : (s : State) → Both (host_part s) → IsSound s
sound_from_both s both =
    let owners : HasOneOwner (length s.memory) s.host = subst (λ (k : ℕ). HasOneOwner k s.host) (length-in_store s.memory) (owners_from_holds _ s.host both.0) in
    record {
      owners = owners;
      counted = counts_are_all (length s.memory) s.host owners;
      identifiers = identifiers_from_holds _ s.host both.0;
      out = out_from_taken s both.1;
      works_fit = both.0.admins;
      deletions = both.0.deletions;
      creations = both.0.creations;
      bare = both.0.bare;
      halves = both.0.halves;
      admin = both.0.admin;
    }

pub steps_keep : each_step_keeps
steps_keep old e reply new step sound = sound_from_both new (each_step Both both_events old e reply new step ((holds_from_sound old sound, taken_from_out old sound.out)))

pub runs_are_sound : every_run_is_sound
runs_are_sound pages queues n s image es replies new opens run =
    sound_from_both new (each_run Both both_events _ es replies new run
    (holds_at_opening pages queues n s image (fits_pool pages queues n s opens), taken_at_opening pages queues n s image))

pub runs_take_out : every_run_takes_out
runs_take_out pages queues n s image es replies new opens run = (runs_are_sound pages queues n s image es replies new opens run).out
