-- The queues of a controller that opens, and that is reset.
use Rattle.controller_core.specs.declared.refusal.ControllerRefusal.TheVariants as refusal
use Rattle.std.proofs.Common.{◌≡◌, ℕ, zero, suc, ◌+◌, ◌<◌, ◌≤◌, List, [], ◌∷◌, ◌++◌, length, take, get_or, refl, ap, ap₂, sym, ◌∙◌, arith, Bool, true, false, if◌then◌else◌, Some, None, slice_get, slice_set}
use Rattle.std.specs.{List.AllByRecursion, Option.option_map_or, Prelude.nat_lt}
use Rattle.controller_core.specs.{Contents.{Contents, change}, Doorbells.{head_rung, with_head, with_side, with_tail}}
use Rattle.controller_core.specs.{Fetching.{fetch_refusal, live_side, side_refusal}, Opening.{fresh_queue, queues_from}}
use Rattle.controller_core.specs.Resetting.{queue_reset, queues_reset, reset, IsQuiet, ResetIsQuiet, QuietUntilTail, IdleUntilCreated, ResetOnce}
use Rattle.controller_core.specs.declared.queue.{ControllerQueue.ControllerQueue, QueuePages.QueuePages}
use Rattle.admin_commands.specs.Verdicts.{is_live}
use Rattle.page_memory.specs.Memory.{Memory}
use Rattle.queue_pair.specs.{Rings.{hearing_head, hearing_tail}, Slots.is_in_range}

-- The queues of a controller that opens.

pub many : (n q : ℕ) (pages : List QueuePages) → length (queues_from n q pages) ≡ length pages
many n q [] = refl
many n q (p ∷ pages) = ap suc (many n (suc q) pages)

-- this many of them
pub many_taken : (n i : ℕ) (pages : List QueuePages) → length (queues_from n 0 (take i pages)) ≤ i
many_taken n i pages = omega (arith, many n 0 (take i pages), shorter i pages)
  where
    shorter : (i : ℕ) (pages : List QueuePages) → length (take i pages) ≤ i
    shorter zero pages = omega arith
    shorter (suc i) [] = omega arith
    shorter (suc i) (p ∷ pages) = omega (arith, shorter i pages)

one_more : (n q i : ℕ) (pages : List QueuePages) (x : QueuePages) → i < length pages → x ≡ get_or pages i x
    → queues_from n q (take (suc i) pages) ≡ queues_from n q (take i pages) ++ fresh_queue n (q + i) x ∷ []
one_more n q i [] x l e = absurd (omega arith)
one_more n q zero (p ∷ pages) x l e =
    let at : q ≡ q + 0 = omega arith in
    ap₂ (λ (k : ℕ) (y : QueuePages). fresh_queue n k y ∷ []) at (sym e)
one_more n q (suc i) (p ∷ pages) x l e =
    let at : suc q + i ≡ q + suc i = omega arith in
    ap (λ (ys : List ControllerQueue). fresh_queue n q p ∷ ys)
    (one_more n (suc q) i pages x (omega arith) e ∙ ap (λ (k : ℕ). queues_from n (suc q) (take i pages) ++ fresh_queue n k x ∷ []) at)

-- one queue more
pub queues-more : (n i : ℕ) (pages : List QueuePages) (x : QueuePages) → i < length pages → x ≡ get_or pages i x
    → queues_from n 0 (take (i + 1) pages) ≡ queues_from n 0 (take i pages) ++ fresh_queue n i x ∷ []
queues-more n i pages x l e =
    let next : i + 1 ≡ suc i = omega arith in
    let at : 0 + i ≡ i = omega arith in
    ap (λ (k : ℕ). queues_from n 0 (take k pages)) next
    ∙ one_more n 0 i pages x l e
    ∙ ap (λ (k : ℕ). queues_from n 0 (take i pages) ++ fresh_queue n k x ∷ []) at

-- A controller that is reset.

-- queues that are numbered from q on, of which the first n are reset
abbrev pub first_reset : ℕ → ℕ → List ControllerQueue → List ControllerQueue
first_reset q zero queues = queues
first_reset q (suc n) [] = []
first_reset q (suc n) (queue ∷ queues) = queue_reset q queue ∷ first_reset (suc q) n queues

pub all_reset : (q : ℕ) (queues : List ControllerQueue) → first_reset q (length queues) queues ≡ queues_reset q queues
all_reset q [] = refl
all_reset q (queue ∷ queues) = ap (λ (rest : List ControllerQueue). queue_reset q queue ∷ rest) (all_reset (suc q) queues)

pub many_reset : (q n : ℕ) (queues : List ControllerQueue) → length (first_reset q n queues) ≡ length queues
many_reset q zero queues = refl
many_reset q (suc n) [] = refl
many_reset q (suc n) (queue ∷ queues) = ap suc (many_reset (suc q) n queues)

-- one queue more
one_more_resets : (q n : ℕ) (queues : List ControllerQueue) (other : ControllerQueue) → n < length queues
    → slice_set (first_reset q n queues) n (queue_reset (q + n) (get_or (first_reset q n queues) n other)) ≡ first_reset q (suc n) queues
one_more_resets q n [] other inside = absurd (omega arith)
one_more_resets q zero (queue ∷ queues) other inside =
    let here : q + 0 ≡ q = omega arith in
    ap (λ (k : ℕ). queue_reset k queue ∷ queues) here
one_more_resets q (suc n) (queue ∷ queues) other inside =
    let here : q + suc n ≡ suc q + n = omega arith in
    let rest : List ControllerQueue = first_reset (suc q) n queues in
    ap (λ (k : ℕ). queue_reset q queue ∷ slice_set rest n (queue_reset k (get_or rest n other))) here
    ∙ ap (λ (xs : List ControllerQueue). queue_reset q queue ∷ xs) (one_more_resets (suc q) n queues other (omega arith))

pub reset_next : (n : ℕ) (queues now : List ControllerQueue) (other : ControllerQueue) → now ≡ first_reset 0 n queues → n < length now
    → slice_set now n (queue_reset n (get_or now n other)) ≡ first_reset 0 (n + 1) queues
reset_next n queues now other sofar inside =
    let here : n ≡ 0 + n = omega arith in
    let next : suc n ≡ n + 1 = omega arith in
    let long : n < length queues = omega (arith, inside, ap length sofar, many_reset 0 n queues) in
    ap₂ (λ (xs : List ControllerQueue) (k : ℕ). slice_set xs n (queue_reset k (get_or xs n other))) sofar here
    ∙ one_more_resets 0 n queues other long
    ∙ ap (λ (k : ℕ). first_reset 0 k queues) next

-- What a reset leaves is idle

-- nothing is fetched from the queue
abbrev pub IsIdle : ControllerQueue → Type 0
IsIdle queue = (m : Memory) → option_map_or (side_refusal m) (live_side (Some queue)) (Some refusal.Idle) ≡ Some refusal.Idle

idle_get : (queues : List ControllerQueue) → AllByRecursion IsIdle queues → (m : Memory) (q : ℕ) → option_map_or (side_refusal m) (live_side (slice_get queues q)) (Some refusal.Idle) ≡ Some refusal.Idle
idle_get [] are m q = refl
idle_get (queue ∷ queues) are m zero = are.0 m
idle_get (queue ∷ queues) are m (suc q) = idle_get queues are.1 m q

idle_fetch : (c : Contents) → AllByRecursion IsIdle c.queues → (m : Memory) (q : ℕ) → fetch_refusal c m q ≡ Some refusal.Idle
idle_fetch c are m q = rw (idle_get c.queues are m q) refl

all_change : (P : ControllerQueue → Type 0) (k : ℕ) (f : ControllerQueue → ControllerQueue) (queues : List ControllerQueue) → ((queue : ControllerQueue) → P queue → P (f queue))
    → AllByRecursion P queues → AllByRecursion P (change k f queues)
all_change P k f [] keeps are = tt
all_change P zero f (queue ∷ queues) keeps are = (keeps queue are.0, are.1)
all_change P (suc k) f (queue ∷ queues) keeps are = (are.0, all_change P k f queues keeps are.1)

reset_idle : (q : ℕ) (queue : ControllerQueue) → IsIdle (queue_reset q queue)
reset_idle zero queue m = refl
reset_idle (suc q) queue m = refl

all_idle : (q : ℕ) (queues : List ControllerQueue) → AllByRecursion IsIdle (queues_reset q queues)
all_idle q [] = tt
all_idle q (queue ∷ queues) = (reset_idle q queue, all_idle (suc q) queues)

-- a head that is taken leaves an idle queue idle
heard_idle : (v : ℕ) (queue : ControllerQueue) → IsIdle queue → IsIdle (with_head v queue)
heard_idle v queue is = by_range (is_in_range queue.controller.entries queue.controller.ring.known_head queue.controller.ring.tail v)
  where
    heard : ControllerQueue
    heard = with_side (record queue.controller { ring = hearing_head v queue.controller.ring }) queue

    side : (b : Bool) (m : Memory) → option_map_or (side_refusal m) (if b then Some queue.controller else None) (Some refusal.Idle) ≡ Some refusal.Idle
        → option_map_or (side_refusal m) (if b then Some heard.controller else None) (Some refusal.Idle) ≡ Some refusal.Idle
    side true m h = h
    side false m h = refl

    by_range : (b : Bool) → IsIdle (if b then heard else queue)
    by_range true m = side (is_live queue.state) m (is m)
    by_range false m = is m

quiet : (c : Contents) → c.commands ≡ [] → AllByRecursion IsIdle c.queues → IsQuiet c
quiet c none are = record {
  fetches = idle_fetch c are;
  walks = λ q cid. rw none refl;
  completes = λ m q cid. rw none refl;
}

pub reset_quiet : ResetIsQuiet
reset_quiet c = quiet (reset c) refl (all_idle 0 c.queues)

pub quiet_until_tail : QuietUntilTail
quiet_until_tail c q v = quiet (head_rung q v (reset c)) refl (all_change IsIdle q (with_head v) (queues_reset 0 c.queues) (heard_idle v) (all_idle 0 c.queues))

-- Nothing is fetched from an I/O queue

abbrev pub IsOff : ControllerQueue → Type 0
IsOff queue = is_live queue.state ≡ false

off_idle : (queue : ControllerQueue) → IsOff queue → IsIdle queue
off_idle queue off m = rw off refl

all_off_idle : (queues : List ControllerQueue) → AllByRecursion IsOff queues → AllByRecursion IsIdle queues
all_off_idle [] are = tt
all_off_idle (queue ∷ queues) are = (off_idle queue are.0, all_off_idle queues are.1)

all_off : (q : ℕ) (queues : List ControllerQueue) → AllByRecursion IsOff (queues_reset (suc q) queues)
all_off q [] = tt
all_off q (queue ∷ queues) = (refl, all_off (suc q) queues)

rung_off : (v : ℕ) (queue : ControllerQueue) → IsOff queue → IsOff (with_tail v queue)
rung_off v queue off =
    elim (nat_lt v queue.controller.entries) as (λ b. IsOff (if b then with_side (record queue.controller { ring = hearing_tail v queue.controller.ring }) queue else queue)) [ true ↦ off | false ↦ off ]

-- what is rung at a queue that is not the first
off_behind : (queues : List ControllerQueue) (m : Memory) (q r v : ℕ)
    → option_map_or (side_refusal m) (live_side (slice_get (change r (with_tail v) (queues_reset 0 queues)) (suc q))) (Some refusal.Idle) ≡ Some refusal.Idle
off_behind [] m q r v = refl
off_behind (queue ∷ queues) m q zero v = idle_get (queues_reset 1 queues) (all_off_idle (queues_reset 1 queues) (all_off 0 queues)) m q
off_behind (queue ∷ queues) m q (suc r) v =
    let rung : List ControllerQueue = change r (with_tail v) (queues_reset 1 queues) in
    idle_get rung (all_off_idle rung (all_change IsOff r (with_tail v) (queues_reset 1 queues) (rung_off v) (all_off 0 queues))) m q

pub idle_until_created : IdleUntilCreated
idle_until_created c m zero r v io = cc
idle_until_created c m (suc q) r v io = rw (off_behind c.queues m q r v) refl

-- A second reset

twice : (q : ℕ) (queue : ControllerQueue) → queue_reset q (queue_reset q queue) ≡ queue_reset q queue
twice zero queue = refl
twice (suc q) queue = refl

all_twice : (q : ℕ) (queues : List ControllerQueue) → queues_reset q (queues_reset q queues) ≡ queues_reset q queues
all_twice q [] = refl
all_twice q (queue ∷ queues) = ap₂ (λ (x : ControllerQueue) (rest : List ControllerQueue). x ∷ rest) (twice q queue) (all_twice (suc q) queues)

pub reset_once : ResetOnce
reset_once c = ap contents (all_twice 0 c.queues)
  where
    contents : List ControllerQueue → Contents
    contents queues = record { queues = queues; commands = []; image = c.image }
