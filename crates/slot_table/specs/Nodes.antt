-- How a table threads its list through a map. No public clause cites this module.
use Rattle.std.specs.{HashMap.{HashMap, get}, Option.{option_map, option_and_then}}
use Rattle.std.specs.Prelude.{◌≡◌, ◌≢◌, ℕ, zero, suc, ◌&&◌, ◌==◌, Bool, List, [], ◌∷◌, Option, Some, None, IsSome}
use Rattle.slot_table.specs.{Chains.{Threads, rows_of}, Rows.Row, declared.nodes.Node.Node}

-- a queue and an identifier
abbrev pub Place : Type 0
Place = ℕ × ℕ

abbrev pub place_eq : Place → Place → Bool
place_eq x y = (x.0 == y.0) && (x.1 == y.1)

-- the node of each slot that has one, and the two ends of the list
pub record Thread (R : Type 0) : Type 0 where
  pub look : Place → Option (Node R)
  pub first : Option Place
  pub last : Option Place

abbrev pub thread_of : {R S : Type 0} → HashMap Place (Node R) S → Option Place → Option Place → Thread R
thread_of map first last = record { look = get place_eq map; first = first; last = last }

module _ {R : Type 0} where
  -- the slot after one, and after the start, which is `None`
  abbrev pub after_of : Thread R → Option Place → Option Place
  after_of t None = t.first
  after_of t (Some k) = option_and_then (λ node. node.after) (t.look k)

  -- the slot before one, and before the end, which is `None`
  abbrev pub before_of : Thread R → Option Place → Option Place
  before_of t None = t.last
  before_of t (Some k) = option_and_then (λ node. node.before) (t.look k)

  abbrev pub value_of : Thread R → Place → Option R
  value_of t k = option_map (λ node. node.value) (t.look k)

  -- a slot that has a node, or an end
  abbrev pub IsEnd : Thread R → Option Place → Type 0
  IsEnd t None = Unit {0}
  IsEnd t (Some k) = IsSome (t.look k)

  -- the slot after this one is now another, and nothing else changed
  pub record LinksAfter (old new : Thread R) (place after : Option Place) : Type 0 where
    pub here : after_of new place ≡ after
    pub others : (k : Option Place) → k ≢ place → after_of new k ≡ after_of old k
    pub before : (k : Option Place) → before_of new k ≡ before_of old k
    pub values : (k : Place) → value_of new k ≡ value_of old k

  -- the slot before this one is now another, and nothing else changed
  pub record LinksBefore (old new : Thread R) (place before : Option Place) : Type 0 where
    pub here : before_of new place ≡ before
    pub others : (k : Option Place) → k ≢ place → before_of new k ≡ before_of old k
    pub after : (k : Option Place) → after_of new k ≡ after_of old k
    pub values : (k : Place) → value_of new k ≡ value_of old k

  -- the slots starting at this one, at most this many
  abbrev pub walk : Thread R → Option Place → ℕ → List Place
  walk t at zero = []
  walk t None (suc most) = []
  walk t (Some k) (suc most) = k ∷ walk t (after_of t (Some k)) most

  -- the rows of a list that is threaded through this many nodes
  abbrev pub rows_in : Thread R → ℕ → List (Row R)
  rows_in t count = rows_of (λ k. k) (value_of t) (walk t t.first count)

  -- the links lead through the slots that have a node, each once
  pub record IsThreaded (t : Thread R) (count : ℕ) : Type 0 where
    pub thread : Threads (λ k. Some k) (after_of t) (before_of t) (value_of t) None count
