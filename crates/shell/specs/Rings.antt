-- What is said of the rings of queues.
use Rattle.std.specs.{Bool.OnTrue, Fmt.decimal, Option.option_map}
use Rattle.std.specs.Prelude.{◌≡◌, ℕ, zero, suc, ◌+◌, Bool, true, false, Option, Some, None, IfSome, List, [], ◌∷◌, ◌++◌, codes, if◌then◌else◌, length, slice_get}
use Rattle.machine_model.specs.State.{State, outstanding_on}
use Rattle.queue_pair.specs.{Positions.host_positions, declared.positions.HostPositions.HostPositions}
use Rattle.step_core.specs.{Rings.{ShowsHalves, TellsRung, TellsFetching, TellsPosting}, declared.rings.FetchPositions.FetchPositions}
use Rattle.step_core.specs.declared.rings.{PostPositions.PostPositions, Rings.Rings}

-- What a look at the rings of a queue tells of a world: what `step_core`'s look tells. The controller's positions are the world's exactly
-- while it is trusted.
pub record AreRingsOf (world : State) (q : ℕ) (rings : Option Rings) : Type 0 where
  pub state : option_map (λ (it : Rings). it.state) rings ≡ option_map (λ queue. queue.state) (slice_get world.host.queues q)
  pub host : option_map (λ (it : Rings). it.host) rings ≡ option_map (λ queue. host_positions queue.ring) (slice_get world.host.queues q)
  pub outstanding : IfSome rings (λ it. it.outstanding ≡ length (outstanding_on world.host q))
  pub halves : IfSome rings (λ it. ShowsHalves world q it)
  pub rung : IfSome rings (λ it. TellsRung world q it)
  pub fetching : IfSome rings (λ it. OnTrue world.trusted (TellsFetching world q it))
  pub posting : IfSome rings (λ it. OnTrue world.trusted (TellsPosting world q it))

abbrev pub bit : Bool → ℕ
bit b = if b then 1 else 0

abbrev pub fetching_text : Option FetchPositions → List ℕ
fetching_text None = codes "has none\n"
fetching_text (Some at) = codes "head " ++ (decimal at.head ++ (codes ", tail doorbell " ++ (decimal at.tail_doorbell ++ (10 ∷ []))))

abbrev pub host_submission_text : HostPositions → List ℕ
host_submission_text host =
    codes "  sq: host tail " ++ (decimal host.submission_tail ++ (codes ", knows head " ++ (decimal host.submission_head ++ codes "; controller ")))

abbrev pub submission_text : HostPositions → Option FetchPositions → List ℕ
submission_text host controller = host_submission_text host ++ fetching_text controller

abbrev pub posting_text : Option PostPositions → List ℕ
posting_text None = codes "has none\n"
posting_text (Some at) =
    codes "tail " ++ (decimal at.tail ++ (codes ", phase " ++ (decimal (bit at.phase) ++ (codes ", head doorbell " ++ (decimal at.head_doorbell ++ (10 ∷ []))))))

abbrev pub host_completion_text : HostPositions → List ℕ
host_completion_text host =
    codes "  cq: host head " ++ (decimal host.completion_head ++ (codes ", phase " ++ (decimal (bit host.phase) ++ codes "; controller ")))

abbrev pub completion_text : HostPositions → Option PostPositions → List ℕ
completion_text host controller = host_completion_text host ++ posting_text controller

-- the name of the host's state of the queue, which no clause spells, is where `name` is
abbrev pub state_text : List ℕ → ℕ → ℕ → List ℕ
state_text name q outstanding =
    codes "queue " ++ (decimal q ++ (codes ": " ++ (name ++ (codes ", outstanding " ++ (decimal outstanding ++ (10 ∷ []))))))

abbrev pub ring_text : List ℕ → ℕ → Rings → List ℕ
ring_text name q rings =
    state_text name q rings.outstanding ++ (submission_text rings.host rings.submission ++ completion_text rings.host rings.completion)

abbrev pub rings_text : List ℕ → ℕ → Option Rings → List ℕ
rings_text name q None = codes "there is no queue " ++ (decimal q ++ (10 ∷ []))
rings_text name q (Some rings) = ring_text name q rings

-- what is said of a queue, after a text
pub record SaysRings (world : State) (q : ℕ) (before after : List ℕ) : Type 0 where
  pub name : List ℕ
  pub rings : Option Rings
  pub are : AreRingsOf world q rings
  pub said : after ≡ before ++ rings_text name q rings

-- THE TEXT of the rings of this many queues, starting at one: what is said of each, one after the other
abbrev pub SaysAllRings : State → ℕ → ℕ → List ℕ → List ℕ → Type 0
SaysAllRings world zero q before after = after ≡ before
SaysAllRings world (suc n) q before after = (mid : List ℕ) × SaysRings world q before mid × SaysAllRings world n (q + 1) mid after
