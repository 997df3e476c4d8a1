-- The host is reset.
use Rattle.page_ledger.specs.declared.owner.Owner.TheVariants as owner
use Rattle.host_core.specs.Rows as declared
use Rattle.machine_model.specs.After as a
use Rattle.machine_model.specs.Events as events
use Rattle.std.proofs.Common.{◌≡◌, ℕ, ◌+◌, ◌-◌, ◌<◌, ◌≤◌, true, Some, List, [], ◌∷◌, ◌++◌, length, map, get_or, slice_get, slice_set, refl, ap, ap₂, sym, ◌∙◌, arith, subst, zero, suc, ◌==◌, nat_lt, not, Bool, false, ◌&&◌, None, if◌then◌else◌, lt-ltb, ◌||◌, inl, inr, flat_map}
use Rattle.std.proofs.lemmas.Bool.{true≢false, false_from_ne_true, cases_Bool, and_parts, and_right, ne_eqb, not-true, or_cases, or_left, or_right}
use Rattle.std.{proofs.lemmas.{List.{map-append, length-map}, Option.{slice_get_within, slice_get-map}, Bool.Decides.nat_tests}, specs.List.AllByRecursion}
use Rattle.std.specs.{Option.{option_map_or, option_map}, Prelude.Option}
use Rattle.machine_model.proofs.{Owned.{all_reset, lost_by}, Steps.length-with_pages, TokensKept.live_is, Headline.steps_keep}
use Rattle.machine_model.specs.{After.{admin_pages, change, after_reset, is_of_io, reset_records}, Claims.IsSound}
use Rattle.machine_model.specs.{Memory.{with_pages, zeroed_pages}, Refusals.is_live, State.{HostQueue, Record, State}, Step.Step}
use Rattle.machine_model.specs.declared.words.{HostState.{HostState, TheVariants.Live}}
use Rattle.page_ledger.specs.{Lists.ListsAll, Owners.{is_among, owner_at, pages_from, given_back, is_half, is_owned_at, is_queue, is_same_half}}
use Rattle.page_ledger.specs.declared.owner.Owner.{Owner, TheVariants.{Free, Queue as OwnerQueue, Command}}
use Rattle.page_memory.specs.{Pages.{Pages, zero_page}, declared.page.Half.{Half, TheVariants.{Submission, Completion}}}
use Rattle.queue_pair.specs.{Memory.half_pages, Rings.first_page_of}
use Rattle.host_core.proofs.Identifiers.{sound-of, lent-of, Settled, settled-of, whole-of, queue-here, alone_sound, over_pages, places-of}
use Rattle.host_core.proofs.Lists.{change-at-lists as change-at, each-change, get-at, length-change, map-agree}
use Rattle.host_core.proofs.Making.{can-zero, some-pages, with-some, whole-zeros}
use Rattle.host_core.proofs.PageOwners.{half-from, half-told, among-from, with-append, half-lists, half-standing, owner-stays, among-append, pool-with, given-free}
use Rattle.host_core.proofs.QueueLists.{queue_page-in, host-at, none-told, settled-with}
use Rattle.host_core.proofs.{Reaping.{held-lost, work-cases}, ResetRecords.{claims-of, claims-reset, length-freed}, RowRecords.claims_keep_queue}
use Rattle.host_core.specs.{Alone.{HostView, alone}, Commands.{CanZero, claims_changed}, Halves.{half_of, has_half}, Laws.shown}
use Rattle.host_core.specs.Resetting.{admin_reset, with_admin_renewed, gone, gone_behind_first, is_of_io_queue, with_queue_gone, ListHalves, ListsHalf, own_freed, tables_reset, with_records_reset, HasClaims, HasPlaces, IsPlaced}
use Rattle.host_core.specs.{Rows.{Queue, Queue as RowsQueue}, Tables.{Tables, host_queue_of, sq_pages_of, cq_pages_of, state_of, view_of}}
use Rattle.host_core.specs.Whole.{IsWhole, IsHost, ClaimIdentifiers, ClaimsIdentifiers, IsQueue, IsRecord, TellsCommand, TellsQueue}
use Rattle.page_memory.proofs.Lists.{some_is}
use Rattle.machine_model.proofs.Cases.{none_some}

-- Queue 0 at a reset: its pages are made zero, and its rings are as they open.

-- Queue 0 is live, so both halves are there.

pub admin-live : (t : Tables) → IsWhole t → (x : Queue) → slice_get t.queues 0 ≡ Some x → x.state ≡ Live
admin-live t w x at = live_is x.state (ap (λ (o : Option HostQueue). option_map_or (λ (queue : HostQueue). is_live queue.state) o true) (sym (host-at t 0 x at)) ∙ w.host.sound.admin)

has-both : (half : Half) → has_half half Live ≡ true
has-both Submission = refl
has-both Completion = refl

pub admin-half : (t : Tables) → IsWhole t → (x : Queue) → slice_get t.queues 0 ≡ Some x → (half : Half) → half_of half x ≡ pages_from (first_page_of half x.host) (half_pages t.entries half)
admin-half t w x at half =
    half-from half x (ap (has_half half) (admin-live t w x at) ∙ has-both half)
    ∙ ap (λ (n : ℕ). pages_from (first_page_of half x.host) (half_pages n half)) (w.host.rings.each 0 x at).entries

-- A run of pages that is a half of queue 0
pub record IsAdminRun (t : Tables) (half : Half) (first count : ℕ) : Type 0 where
  pub queue : Queue
  pub at : slice_get t.queues 0 ≡ Some queue
  pub first_page : first ≡ first_page_of half queue.host
  pub many : count ≡ half_pages t.entries half

pub admin-run : (t : Tables) (half : Half) (x : Queue) (first count : ℕ) → IsWhole t → x ≡ get_or t.queues 0 x → first ≡ first_page_of half x.host → count ≡ half_pages t.entries half → IsAdminRun t half first count
admin-run t half x first count w was from many = record { queue = x; at = get-at 0 t.queues x (omega (arith, w.host.limits.some_queues)) was; first_page = from; many = many }

run-half : (t : Tables) → IsWhole t → (half : Half) (first count : ℕ) (r : IsAdminRun t half first count) → pages_from first count ≡ half_of half r.queue
run-half t w half first count r = ap₂ pages_from r.first_page r.many ∙ sym (admin-half t w r.queue r.at half)

run-owner : (t : Tables) → IsWhole t → (half : Half) (first count : ℕ) → IsAdminRun t half first count → (p : ℕ) → is_among (pages_from first count) p ≡ true → owner_at t.owners p ≡ Some (owner.Queue 0 half)
run-owner t w half first count r p among =
    half-told t.owners 0 half r.queue (w.host.table.owners.queues_told 0 r.queue r.at) p (subst (λ (ps : List ℕ). is_among ps p ≡ true) (run-half t w half first count r) among)

pub run-few : (t : Tables) → IsWhole t → (half : Half) (first count : ℕ) → IsAdminRun t half first count → first + count ≤ 65536
run-few t w half first count r =
    let some : 0 < count = subst (λ (n : ℕ). 0 < n) (sym r.many) (some-pages t.entries half w.host.limits.least_entries) in
    let last : first + (count - 1) < length t.owners =
    slice_get_within t.owners (first + (count - 1)) (owner.Queue 0 half) (run-owner t w half first count r (first + (count - 1)) (among-from first count (count - 1) (omega (arith, some)))) in
    omega (arith, some, last, (lent-of t w), w.over.pool.few)

-- whatever other pages were written before
pub run-can_zero : (t : Tables) → IsWhole t → (half : Half) (first count : ℕ) (written : List (ℕ × List ℕ)) → IsAdminRun t half first count → CanZero (pages_from first count) (with_pages written t.pages)
run-can_zero t w half first count written r =
    can-zero (pages_from first count) (with_pages written t.pages) (λ p among. with-some written t.pages p (queue_page-in t w 0 half p (run-owner t w half first count r p among)))

-- As the code makes it

admin-are : (queues : List Queue) (x : Queue) → slice_get queues 0 ≡ Some x → admin_pages (map host_queue_of queues) ≡ sq_pages_of x ++ cq_pages_of x
admin-are [] x at = absurd cc
admin-are (y ∷ queues) x at = let same : y ≡ x = cc in ap (λ (z : Queue). sq_pages_of z ++ cq_pages_of z) same

pub admin-renewed : (t : Tables) (first second : Pages) (x y : Queue) (sq k cq n : ℕ) → IsWhole t → (a : IsAdminRun t Submission sq k) → (b : IsAdminRun t Completion cq n)
    → first ≡ with_pages (zeroed_pages (pages_from sq k)) t.pages → second ≡ with_pages (zeroed_pages (pages_from cq n)) first → x ≡ get_or t.queues 0 x → y ≡ admin_reset x
    → record t { pages = second; queues = slice_set t.queues 0 y } ≡ with_admin_renewed t
admin-renewed t first second x y sq k cq n w a b zeroed also was made =
    ap₂ (λ (m : Pages) (queues : List Queue). record t { pages = m; queues = queues }) pages
    (change-at 0 admin_reset t.queues x y (slice_get_within t.queues 0 a.queue a.at) was made)
  where
    same : a.queue ≡ b.queue
    same = let both : Some a.queue ≡ Some b.queue = sym a.at ∙ b.at in cc

    runs : pages_from sq k ++ pages_from cq n ≡ admin_pages (map host_queue_of t.queues)
    runs =
        ap₂ (λ (u v : List ℕ). u ++ v) (run-half t w Submission sq k a) (run-half t w Completion cq n b)
        ∙ (ap (λ (v : Queue). sq_pages_of v ++ cq_pages_of b.queue) same ∙ sym (admin-are t.queues b.queue b.at))

    pages : second ≡ with_pages (zeroed_pages (admin_pages (map host_queue_of t.queues))) t.pages
    pages =
        also ∙ (ap (with_pages (zeroed_pages (pages_from cq n))) zeroed
        ∙ (sym (with-append (zeroed_pages (pages_from sq k)) (zeroed_pages (pages_from cq n)) t.pages)
        ∙ (ap (λ (ps : List (ℕ × List ℕ)). with_pages ps t.pages) (sym (map-append (λ (p : ℕ). (p, zero_page)) (pages_from sq k) (pages_from cq n)))
        ∙ ap (λ (ps : List ℕ). with_pages (zeroed_pages ps) t.pages) runs)))

-- The host is reset.

-- The I/O queues at a reset: their halves are given back, queue by queue.

-- The table of owners

pub none-given : (named : Owner → Bool) (owners : List Owner) → ((p : ℕ) → p < length owners → is_owned_at named owners p ≡ false) → given_back named owners ≡ owners
none-given named [] none = refl
none-given named (o ∷ owners) none =
    ap₂ (λ (x : Owner) (xs : List Owner). x ∷ xs) (ap (λ b. if b then Free else o) (none 0 (omega arith))) (none-given named owners (λ p l. none (suc p) (omega (arith, l))))

-- what is given back of others leaves a test as it was
stays-owned : (test named : Owner → Bool) (owners : List Owner) (p : ℕ) → test Free ≡ false → ((o : Owner) → test o ≡ true → named o ≡ false) → is_owned_at test (given_back named owners) p ≡ is_owned_at test owners p
stays-owned test named owners p free other =
    ap (λ (o : Option Owner). option_map_or test o false) (slice_get-map (λ (o : Owner). if named o then Free else o) owners p) ∙ at (owner_at owners p)
  where
    at : (o : Option Owner) → option_map_or test (option_map (λ (x : Owner). if named x then Free else x) o) false ≡ option_map_or test o false
    at None = refl
    at (Some o) = grind (arith, free, other o)

-- both halves of a queue, one after the other
pub both-given : (q : ℕ) (owners : List Owner) → given_back (is_half q Completion) (given_back (is_half q Submission) owners) ≡ given_back (is_queue q) owners
both-given q [] = refl
both-given q (o ∷ owners) = ap₂ (λ (x : Owner) (xs : List Owner). x ∷ xs) (one o) (both-given q owners)
  where
    one : (o : Owner) → (if is_half q Completion (if is_half q Submission o then Free else o) then Free else (if is_half q Submission o then Free else o)) ≡ (if is_queue q o then Free else o)
    one (OwnerQueue k Submission) = grind arith
    one (OwnerQueue k Completion) = grind arith
    one o = refl

-- whether a page is one of an I/O queue below this one
abbrev pub is_io_below : ℕ → Owner → Bool
is_io_below n Free = false
is_io_below n (OwnerQueue q half) = not (q == 0) && nat_lt q n
is_io_below n (Command q cid role) = false

pub none-below : (owners : List Owner) → owners ≡ given_back (is_io_below 1) owners
none-below [] = refl
none-below (o ∷ owners) = ap₂ (λ (x : Owner) (xs : List Owner). x ∷ xs) (one o) (none-below owners)
  where
    one : (o : Owner) → o ≡ (if is_io_below 1 o then Free else o)
    one (OwnerQueue q half) = let no : (not (q == 0) && nat_lt q 1) ≡ false = grind (arith, nat_tests) in rw no refl
    one o = refl

pub one-below : (n : ℕ) → 1 ≤ n → (owners : List Owner) → given_back (is_queue n) (given_back (is_io_below n) owners) ≡ given_back (is_io_below (n + 1)) owners
one-below n some [] = refl
one-below n some (o ∷ owners) = ap₂ (λ (x : Owner) (xs : List Owner). x ∷ xs) (one o) (one-below n some owners)
  where
    one : (o : Owner) → (if is_queue n (if is_io_below n o then Free else o) then Free else (if is_io_below n o then Free else o)) ≡ (if is_io_below (n + 1) o then Free else o)
    one (OwnerQueue q half) =
        let next : (not (q == 0) && nat_lt q (n + 1)) ≡ ((not (q == 0) && nat_lt q n) || (q == n)) = grind (arith, nat_tests, some) in rw next (grind arith)
    one o = refl

pub all-below : (n : ℕ) (owners : List Owner) → ((p q : ℕ) (half : Half) → owner_at owners p ≡ Some (OwnerQueue q half) → q < n) → given_back (is_io_below n) owners ≡ given_back is_of_io_queue owners
all-below n owners inside = map-agree (λ (o : Owner). if is_io_below n o then Free else o) (λ (o : Owner). if is_of_io_queue o then Free else o) owners (λ p o at. one p o at)
  where
    one : (p : ℕ) (o : Owner) → owner_at owners p ≡ Some o → (if is_io_below n o then Free else o) ≡ (if is_of_io_queue o then Free else o)
    one p (OwnerQueue q half) at = let below = lt-ltb q n (inside p q half at) in grind (arith, below)
    one p o at = refl

-- The queues

abbrev pub gone_first : ℕ → List declared.Queue → List declared.Queue
gone_first zero queues = queues
gone_first (suc n) [] = []
gone_first (suc n) (x ∷ queues) = gone x ∷ gone_first n queues

-- the queues, of which those between queue 0 and this one are gone
abbrev pub gone_below : ℕ → List declared.Queue → List declared.Queue
gone_below zero queues = queues
gone_below (suc n) [] = []
gone_below (suc n) (x ∷ queues) = x ∷ gone_first n queues

pub none-gone : (queues : List declared.Queue) → queues ≡ gone_below 1 queues
none-gone [] = refl
none-gone (x ∷ queues) = refl

pub one-gone : (n : ℕ) → 1 ≤ n → (queues : List declared.Queue) → change n gone (gone_below n queues) ≡ gone_below (n + 1) queues
one-gone zero some queues = absurd (omega (arith, some))
one-gone (suc n) some queues = let next : suc (suc n) ≡ suc n + 1 = omega arith in subst (λ (k : ℕ). change (suc n) gone (gone_below (suc n) queues) ≡ gone_below k queues) next (by_queues queues)
  where
    first : (n : ℕ) (queues : List declared.Queue) → change n gone (gone_first n queues) ≡ gone_first (suc n) queues
    first zero [] = refl
    first zero (x ∷ queues) = refl
    first (suc n) [] = refl
    first (suc n) (x ∷ queues) = ap (λ (xs : List declared.Queue). gone x ∷ xs) (first n queues)

    by_queues : (queues : List declared.Queue) → change (suc n) gone (gone_below (suc n) queues) ≡ gone_below (suc (suc n)) queues
    by_queues [] = refl
    by_queues (x ∷ queues) = ap (λ (xs : List declared.Queue). x ∷ xs) (first n queues)

pub all-gone : (n : ℕ) → 1 ≤ n → (queues : List declared.Queue) → length queues ≤ n → gone_below n queues ≡ gone_behind_first queues
all-gone zero some queues size = absurd (omega (arith, some))
all-gone (suc n) some [] size = refl
all-gone (suc n) some (x ∷ queues) size = ap (λ (xs : List declared.Queue). x ∷ xs) (first n queues (omega (arith, size)))
  where
    first : (n : ℕ) (queues : List declared.Queue) → length queues ≤ n → gone_first n queues ≡ map gone queues
    first zero [] size = refl
    first zero (x ∷ queues) size = absurd (omega (arith, size))
    first (suc n) [] size = refl
    first (suc n) (x ∷ queues) size = ap (λ (xs : List declared.Queue). gone x ∷ xs) (first n queues (omega (arith, size)))

pub not-gone : (n : ℕ) (queues : List declared.Queue) → slice_get (gone_below n queues) n ≡ slice_get queues n
not-gone zero queues = refl
not-gone (suc n) [] = refl
not-gone (suc n) (x ∷ queues) = first n queues
  where
    first : (n : ℕ) (queues : List declared.Queue) → slice_get (gone_first n queues) n ≡ slice_get queues n
    first zero queues = refl
    first (suc n) [] = refl
    first (suc n) (x ∷ queues) = first n queues

-- Halves

-- a queue owns no page of a half that it does not have
pub half-absent : (t : Tables) (q : ℕ) (half : Half) (h : ListsHalf t q half) → has_half half h.queue.state ≡ false → given_back (is_half q half) t.owners ≡ t.owners
half-absent t q Submission h none = none-given (is_half q Submission) t.owners (λ p l. sym (h.lists.lists p l) ∙ rw none refl)
half-absent t q Completion h none = none-given (is_half q Completion) t.owners (λ p l. sym (h.lists.lists p l) ∙ rw none refl)

-- what others give back leaves a half as it was
pub half-stays : (t : Tables) (q : ℕ) (half : Half) (named : Owner → Bool) (queues : List declared.Queue) → ((o : Owner) → is_half q half o ≡ true → named o ≡ false) → slice_get queues q ≡ slice_get t.queues q
    → ListsHalf t q half → ListsHalf (record t { owners = given_back named t.owners; queues = queues }) q half
half-stays t q half named queues other same h =
    record {
      queue = h.queue;
      at = same ∙ h.at;
      entries = h.entries;
      lists = record {
        within = λ i d l. subst (λ (n : ℕ). get_or (half_of half h.queue) i d < n) (sym (length-map t.owners _)) (h.lists.within i d l);
        lists = λ p l. h.lists.lists p (subst (λ (n : ℕ). p < n) (length-map t.owners _) l) ∙ sym (stays-owned (is_half q half) named t.owners p refl other);
      };
    }

pub halves-apart : (q : ℕ) (o : Owner) → is_half q Completion o ≡ true → is_half q Submission o ≡ false
halves-apart q Free h = refl
halves-apart q (OwnerQueue k Submission) h = absurd (true≢false (sym (and_parts (k == q) false h).1))
halves-apart q (OwnerQueue k Completion) h = and_right (k == q) false refl
halves-apart q (Command k cid role) h = refl

pub queues-apart : (q : ℕ) (half : Half) (o : Owner) → is_half q half o ≡ true → is_io_below q o ≡ false
queues-apart q half Free h = refl
queues-apart q half (OwnerQueue k other) h =
    let same = (and_parts (k == q) (is_same_half other half) h).0 in
    let above : nat_lt k q ≡ false = grind (arith, nat_tests, same) in and_right (not (k == 0)) (nat_lt k q) above
queues-apart q half (Command k cid role) h = refl

-- As the code makes it

abbrev pub with_owners : Tables → List Owner → List declared.Queue → Tables
with_owners t owners queues = record t { owners = owners; queues = queues }

abbrev pub halves_given : ℕ → Tables → Tables
halves_given q t = record t { owners = given_back (is_half q Completion) (given_back (is_half q Submission) t.owners) }

pub queue-lost : (t now : Tables) (q i : ℕ) (x y : declared.Queue) → now ≡ halves_given q t → i ≡ q → q < length t.queues → x ≡ get_or now.queues i x → y ≡ gone x
    → record now { queues = slice_set now.queues i y } ≡ with_queue_gone q t
queue-lost t now q i x y is at inside was made =
    ap (λ (u : Tables). record u { queues = slice_set u.queues i y }) is
    ∙ ap₂ (with_owners t) (both-given q t.owners)
    (ap (λ (k : ℕ). slice_set t.queues k y) at
    ∙ change-at q gone t.queues x y inside (subst (λ (k : ℕ). x ≡ get_or t.queues k x) at (was ∙ ap (λ (u : Tables). get_or u.queues i x) is)) made)

-- Each queue of a host owns the pages of its halves.

pub list-halves : (t : Tables) → IsHost t → ListHalves t
list-halves t h =
    record {
      few_queues = h.limits.few_queues;
      inside = λ p q half at.
          let s = half-standing t (length t.owners) h.sound.owners h.table.owners q half p (slice_get_within t.owners p (OwnerQueue q half) at) at in slice_get_within t.queues q s.0 s.1;
      each = λ q l half. let x = queue-here t.queues q l in record { queue = x.0; at = x.1; entries = (h.rings.each q x.0 x.1).entries; lists = half-lists t h q half x.0 x.1 };
    }

-- What a reset leaves of the tables: the machine that they stand for, and what holds of them.

not-first : (k : ℕ) → (suc k == 0) ≡ false
not-first k = ne_eqb (suc k) 0 (λ e. cc)

-- The queues

-- queue 0, where it keeps these of its claimed identifiers
abbrev admin_left : (List Bool → List Bool) → RowsQueue → RowsQueue
admin_left kept queue = claims_changed kept (admin_reset queue)

abbrev queues_left : (List Bool → List Bool) → List RowsQueue → List RowsQueue
queues_left kept queues = gone_behind_first (change 0 (claims_changed kept) (change 0 admin_reset queues))

each-left : (P : ℕ → RowsQueue → Type 0) (kept : List Bool → List Bool) (queues : List RowsQueue) → ((x : RowsQueue) → slice_get queues 0 ≡ Some x → P 0 (admin_left kept x))
    → ((k : ℕ) (x : RowsQueue) → slice_get queues (suc k) ≡ Some x → P (suc k) (gone x)) → (k : ℕ) (y : RowsQueue) → slice_get (queues_left kept queues) k ≡ Some y → P k y
each-left P kept [] admin io k y at = absurd (none_some at)
each-left P kept (x ∷ queues) admin io zero y at = subst (P 0) (some_is at) (admin x refl)
each-left P kept (x ∷ queues) admin io (suc k) y at = rest (λ (n : ℕ) (z : RowsQueue). P (suc n) z) queues io k y at
  where
    rest : (Q : ℕ → RowsQueue → Type 0) (queues : List RowsQueue) → ((k : ℕ) (x : RowsQueue) → slice_get queues k ≡ Some x → Q k (gone x)) → (k : ℕ) (y : RowsQueue) → slice_get (map gone queues) k ≡ Some y → Q k y
    rest Q [] io k y at = absurd (none_some at)
    rest Q (x ∷ queues) io zero y at = subst (Q 0) (some_is at) (io 0 x refl)
    rest Q (x ∷ queues) io (suc k) y at = rest (λ (n : ℕ) (z : RowsQueue). Q (suc n) z) queues (λ n z e. io (suc n) z e) k y at

many-left : (kept : List Bool → List Bool) (queues : List RowsQueue) → length (queues_left kept queues) ≡ length queues
many-left kept [] = refl
many-left kept (x ∷ queues) = ap suc (length-map queues gone)

shown-left : (kept : List Bool → List Bool) (queues : List RowsQueue) → ((x : RowsQueue) → slice_get queues 0 ≡ Some x → x.state ≡ Live)
    → map host_queue_of (queues_left kept queues) ≡ a.reset_queues (map host_queue_of queues)
shown-left kept [] live = refl
shown-left kept (x ∷ queues) live = ap₂ (λ (state : HostState) (hs : List HostQueue). record (a.reset_admin (host_queue_of x)) { state = state } ∷ hs) (live x refl) (rest queues)
  where
    rest : (queues : List RowsQueue) → map host_queue_of (map gone queues) ≡ map (λ other. a.no_queue) (map host_queue_of queues)
    rest [] = refl
    rest (y ∷ queues) = ap (λ (hs : List HostQueue). a.no_queue ∷ hs) (rest queues)

-- The pages of the I/O queues

-- a page of all halves is one of some half
record StandsIn (queues : List RowsQueue) (p : ℕ) : Type 0 where
  place : ℕ
  half : Half
  queue : RowsQueue
  at : slice_get queues place ≡ Some queue
  among : is_among (half_of half queue) p ≡ true

stands-in : (queues : List RowsQueue) (p : ℕ) → is_among (flat_map a.halves_of (map host_queue_of queues)) p ≡ true → StandsIn queues p
stands-in [] p h = absurd (true≢false (sym h))
stands-in (x ∷ queues) p h =
    elim (or_cases (is_among (sq_pages_of x ++ cq_pages_of x) p) _ (sym (among-append (sq_pages_of x ++ cq_pages_of x) (flat_map a.halves_of (map host_queue_of queues)) p) ∙ h)) [
      | inl here ↦ elim (or_cases (is_among (sq_pages_of x) p) (is_among (cq_pages_of x) p) (sym (among-append (sq_pages_of x) (cq_pages_of x) p) ∙ here)) [
        | inl sub ↦ record { place = 0; half = Submission; queue = x; at = refl; among = sub }
        | inr comp ↦ record { place = 0; half = Completion; queue = x; at = refl; among = comp }
      ]
      | inr there ↦ let s = stands-in queues p there in record { place = suc s.place; half = s.half; queue = s.queue; at = s.at; among = s.among }
    ]

in-half : (half : Half) (x : RowsQueue) (p : ℕ) → is_among (half_of half x) p ≡ true → is_among (sq_pages_of x ++ cq_pages_of x) p ≡ true
in-half Submission x p h = among-append (sq_pages_of x) (cq_pages_of x) p ∙ or_left (is_among (sq_pages_of x) p) (is_among (cq_pages_of x) p) h
in-half Completion x p h = among-append (sq_pages_of x) (cq_pages_of x) p ∙ or_right (is_among (sq_pages_of x) p) (is_among (cq_pages_of x) p) h

in-all : (queues : List RowsQueue) (place : ℕ) (half : Half) (x : RowsQueue) (p : ℕ) → slice_get queues place ≡ Some x → is_among (half_of half x) p ≡ true → is_among (flat_map a.halves_of (map host_queue_of queues)) p ≡ true
in-all [] place half x p at h = absurd (none_some at)
in-all (y ∷ queues) zero half x p at h =
    among-append (sq_pages_of y ++ cq_pages_of y) (flat_map a.halves_of (map host_queue_of queues)) p
    ∙ or_left (is_among (sq_pages_of y ++ cq_pages_of y) p) _ (in-half half y p (subst (λ (z : RowsQueue). is_among (half_of half z) p ≡ true) (sym (some_is at)) h))
in-all (y ∷ queues) (suc place) half x p at h =
    among-append (sq_pages_of y ++ cq_pages_of y) (flat_map a.halves_of (map host_queue_of queues)) p
    ∙ or_right (is_among (sq_pages_of y ++ cq_pages_of y) p) _ (in-all queues place half x p at h)

-- after queue 0
io-stands : (queues : List RowsQueue) (p : ℕ) → is_among (a.io_pages (map host_queue_of queues)) p ≡ true → (q : ℕ) × (half : Half) × (x : RowsQueue) × (slice_get queues (suc q) ≡ Some x) × (is_among (half_of half x) p ≡ true)
io-stands [] p h = absurd (true≢false (sym h))
io-stands (x ∷ queues) p h = let s = stands-in queues p h in (s.place, s.half, s.queue, s.at, s.among)

in-io : (queues : List RowsQueue) (q : ℕ) (half : Half) (x : RowsQueue) (p : ℕ) → (q == 0) ≡ false → slice_get queues q ≡ Some x → is_among (half_of half x) p ≡ true → is_among (a.io_pages (map host_queue_of queues)) p ≡ true
in-io [] q half x p io at h = absurd (none_some at)
in-io (y ∷ queues) zero half x p io at h = absurd (true≢false io)
in-io (y ∷ queues) (suc q) half x p io at h = in-all queues q half x p at h

io-owned : (t : Tables) → IsWhole t → (p : ℕ) → p < length t.pages → is_owned_at is_of_io_queue t.owners p ≡ is_among (a.io_pages (view_of t).host.queues) p
io-owned t w p l = elim (cases_Bool (is_among (a.io_pages (view_of t).host.queues) p)) [
  | inl h ↦ let s = io-stands t.queues p h in rw (h, half-told t.owners (suc s.0) s.1 s.2 (w.host.table.owners.queues_told (suc s.0) s.2 s.3) p s.4, not-first s.0) refl
  | inr h ↦ rw h (false_from_ne_true (is_owned_at is_of_io_queue t.owners p) (λ e. true≢false (sym (standing (owner_at t.owners p) refl e) ∙ h)))
]
  where
    standing : (o : Option Owner) → owner_at t.owners p ≡ o → option_map_or is_of_io_queue o false ≡ true → is_among (a.io_pages (view_of t).host.queues) p ≡ true
    standing (Some (owner.Queue q half)) at e = let s = half-standing t (length t.pages) (sound-of t w).owners w.host.table.owners q half p l at in in-io t.queues q half s.0 p (not-true (q == 0) e) s.1 s.2
    standing o at e = cc

-- The machine's state

pub view-reset : (t : Tables) → IsWhole t → view_of (tables_reset t) ≡ shown (after_reset (state_of t))
view-reset t w =
    ap₂ (λ (free : List ℕ) (queues : List HostQueue). record (view_of t) { host = record { peer = t.peer; free = free; queues = queues; records = reset_records t.records } })
    (given-free t.owners is_of_io_queue (length t.pages) (a.io_pages (view_of t).host.queues) (sym (lent-of t w)) (io-owned t w))
    (shown-left (own_freed t.records (t.entries - 1)) t.queues (λ x at. admin-live t w x at))

-- The records

records-left : (n : ℕ) (rs : List Record) → AllByRecursion (IsRecord n) rs → AllByRecursion (IsRecord n) (reset_records rs)
records-left n rs all = all_reset (IsRecord n) (IsRecord n) (λ r io fits. lost_by (IsRecord n) r (λ e. fits) (λ e. elim (work-cases r.work) [
  | inl is ↦ held-lost n r is fits
  | inr (kind, is) ↦ absurd (true≢false (sym io ∙ ap is_of_io is))
])) rs all

-- the claimed identifiers are those outstanding

first-claims : (rs : List Record) (kept : List Bool → List Bool) (queues : List RowsQueue) → ClaimIdentifiers rs (change 0 (claims_changed kept) queues) → (x : RowsQueue) → slice_get queues 0 ≡ Some x
    → ClaimsIdentifiers rs 0 (kept x.host.claimed)
first-claims rs kept [] claims x at = absurd (none_some at)
first-claims rs kept (y ∷ queues) claims x at = claims.each 0 (claims_changed kept x) (ap (λ (z : RowsQueue). Some (claims_changed kept z)) (some_is at))

other-claims : (rs : List Record) (kept : List Bool → List Bool) (queues : List RowsQueue) → ClaimIdentifiers rs (change 0 (claims_changed kept) queues) → (k : ℕ) (x : RowsQueue)
    → slice_get queues (suc k) ≡ Some x → ClaimsIdentifiers rs (suc k) x.host.claimed
other-claims rs kept [] claims k x at = absurd (none_some at)
other-claims rs kept (y ∷ queues) claims k x at = claims.each (suc k) x at

commands-left : (owners : List Owner) (rs : List Record) → AllByRecursion (TellsCommand owners) rs → AllByRecursion (TellsCommand (given_back is_of_io_queue owners)) (reset_records rs)
commands-left owners rs all = all_reset (TellsCommand owners) (TellsCommand (given_back is_of_io_queue owners)) (λ r io tells. lost_by (TellsCommand (given_back is_of_io_queue owners)) r (λ e. stays r tells) (λ e. let s = stays r tells in record { data_pages = s.data_pages; chain_pages = s.chain_pages })) rs all
  where
    stays : (r : Record) → TellsCommand owners r → TellsCommand (given_back is_of_io_queue owners) r
    stays r tells = record {
      data_pages = λ p h. owner-stays owners is_of_io_queue p _ refl (tells.data_pages p h);
      chain_pages = λ p h. owner-stays owners is_of_io_queue p _ refl (tells.chain_pages p h);
    }

-- One queue

gone-queue : (n q : ℕ) (x : RowsQueue) → IsQueue n q x → IsQueue n q (gone x)
gone-queue n q x is =
    let some : 0 < x.host.entries = omega (arith, is.host_side.least) in
    record { number = is.number; entries = is.entries; host_side = record { least = is.host_side.least; most = is.host_side.most; head = some; known_head = some; tail = some; identifiers = is.host_side.identifiers } }

admin-queue : (n q : ℕ) (x : RowsQueue) → IsQueue n q x → IsQueue n q (admin_reset x)
admin-queue n q x is = let made = gone-queue n q x is in record { number = made.number; entries = made.entries; host_side = made.host_side }

-- The tables

settled-reset : (t : Tables) → IsWhole t → Settled (tables_reset t)
settled-reset t w =
    let s = settled-of t w in
    let zeros = a.admin_pages (view_of t).host.queues in
    let kept : List Bool → List Bool = own_freed t.records (t.entries - 1) in
    let size : (bits : List Bool) → length (kept bits) ≡ length bits = length-freed t.records (t.entries - 1) in
    let claims = claims-reset t w.host in
    settled-with t (with_pages (zeroed_pages zeros) t.pages) (given_back is_of_io_queue t.owners) (queues_left kept t.queues) (reset_records t.records) s
    (record {
      pool = pool-with (zeroed_pages zeros) t.pages (whole-zeros zeros) s.pool;
      lent = length-map t.owners _ ∙ (s.lent ∙ sym (length-with_pages (zeroed_pages zeros) t.pages));
      many = many-left kept t.queues;
      queues = record {
        each = each-left (IsQueue t.entries) kept t.queues
            (λ x at. claims_keep_queue kept size t.entries 0 (admin_reset x) (admin-queue t.entries 0 x (s.rings.each 0 x at)))
            (λ k x at. gone-queue t.entries (suc k) x (s.rings.each (suc k) x at));
      };
      identifiers = record {
        each = each-left (λ (k : ℕ) (y : RowsQueue). ClaimsIdentifiers (reset_records t.records) k y.host.claimed) kept t.queues
            (first-claims (reset_records t.records) kept t.queues claims) (other-claims (reset_records t.records) kept t.queues claims);
      };
      owners = record {
        queues_told = each-left (TellsQueue (given_back is_of_io_queue t.owners)) kept t.queues
            (λ x at. let told = s.table.owners.queues_told 0 x at in record {
              submission = λ p h. owner-stays t.owners is_of_io_queue p _ refl (told.submission p h);
              completion = λ p h. owner-stays t.owners is_of_io_queue p _ refl (told.completion p h);
            })
            (λ k x at. record { submission = none-told _ _; completion = none-told _ _ });
        commands_told = commands-left t.owners t.records s.table.owners.commands_told;
      };
      records = records-left (length t.queues) t.records s.table.records;
    })

reset-step : (t : Tables) → Step (state_of t) events.Reset events.Accepted (after_reset (state_of t))
reset-step t = (tt, (refl, tt), refl)

pub whole-reset : (t : Tables) → IsWhole t → IsWhole (tables_reset t)
whole-reset t w =
    let left : State = after_reset (state_of t) in
    whole-of (tables_reset t) (settled-reset t w)
    (subst (λ (v : HostView). IsSound (alone v (tables_reset t).pages)) (sym (view-reset t w))
    (alone_sound left (steps_keep (state_of t) events.Reset events.Accepted left (reset-step t) (sound-of t w))))

-- What the parts of a reset rely on

pub places-renewed : (t : Tables) (pages : Pages) → IsWhole t → HasPlaces (over_pages (with_admin_renewed t) pages)
places-renewed t pages w =
    let h = places-of t w.host in
    let many = length-change 0 admin_reset t.queues in
    record {
      some_entries = h.some_entries;
      few_queues = subst (λ (n : ℕ). n ≤ 65) (sym many) h.few_queues;
      commands = subst (λ (n : ℕ). AllByRecursion (IsPlaced t.entries n) t.records) (sym many) h.commands;
    }

pub claims-renewed : (t : Tables) (pages : Pages) → IsWhole t → HasClaims (over_pages (with_admin_renewed t) pages)
claims-renewed t pages w =
    let h = claims-of t w.host in
    record {
      some_queues = omega (arith, length-change 0 admin_reset t.queues, h.some_queues);
      differ = h.differ;
      claims = record {
        each = each-change (λ q (queue : RowsQueue). ClaimsIdentifiers t.records q queue.host.claimed) 0 admin_reset t.queues (λ q x _ at. h.claims.each q x at) (λ x at. h.claims.each 0 x at);
      };
    }

half-renewed : (t : Tables) (kept : List Bool → List Bool) (records : List Record) (pages : Pages) (q : ℕ) (half : Half) → ListsHalf t q half
    → ListsHalf (record t { pages = pages; records = records; queues = change 0 (claims_changed kept) (change 0 admin_reset t.queues) }) q half
half-renewed t kept records pages q half h =
    let x = by_place t.queues q h.at in record { queue = x.0; at = x.1; entries = x.3; lists = subst (λ (ps : List ℕ). ListsAll (is_half q half) t.owners ps) x.2 h.lists }
  where
    same-half : (half : Half) (x : RowsQueue) → half_of half x ≡ half_of half (admin_left kept x)
    same-half Submission x = refl
    same-half Completion x = refl

    by_place : (queues : List RowsQueue) (k : ℕ) → slice_get queues k ≡ Some h.queue → (x : RowsQueue) × (slice_get (change 0 (claims_changed kept) (change 0 admin_reset queues)) k ≡ Some x) ×
        (half_of half h.queue ≡ half_of half x) × (x.host.entries ≡ t.entries)
    by_place [] k at = absurd (none_some at)
    by_place (y ∷ queues) zero at = (admin_left kept h.queue, ap (λ (z : RowsQueue). Some (admin_left kept z)) (some_is at), same-half half h.queue, h.entries)
    by_place (y ∷ queues) (suc k) at = (h.queue, at, refl, h.entries)

pub halves-renewed : (t : Tables) (pages : Pages) → IsWhole t → ListHalves (with_records_reset (over_pages (with_admin_renewed t) pages))
halves-renewed t pages w =
    let h = list-halves t w.host in
    let kept : List Bool → List Bool = own_freed t.records (t.entries - 1) in
    let many = length-change 0 (claims_changed kept) (change 0 admin_reset t.queues) ∙ length-change 0 admin_reset t.queues in
    record {
      few_queues = subst (λ (n : ℕ). n ≤ 65) (sym many) h.few_queues;
      inside = λ p q half at. subst (λ (n : ℕ). q < n) (sym many) (h.inside p q half at);
      each = λ q l half. half-renewed t kept (reset_records t.records) pages q half (h.each q (subst (λ (n : ℕ). q < n) many l) half);
    }
