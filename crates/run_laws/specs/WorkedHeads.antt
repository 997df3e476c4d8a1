-- A worked run: a completion is posted while a younger entry of its queue is in the ring and not announced. Its SQ head pointer
-- is where the controller fetches next, after the entries that were fetched, and not the tail.
use Rattle.std.specs.Prelude.{ℕ, true, List, [], ◌∷◌, ◌++◌}
use Rattle.controller_walk.specs.declared.walk.WalkState.TheVariants.{More, End}
use Rattle.io_commands.specs.declared.request.Kind.TheVariants.{Read}
use Rattle.entry_codec.specs.declared.status.TheConstants.Status.{SUCCESS}
use Rattle.machine_model.specs.Script.{Line, Said, build, submit, ring, fetch, walk, complete, reap, ok, reserved, fetched, walked, completed, reaps}
use Rattle.machine_model.specs.{WorkedQueues.block, declared.words.Reaped.TheVariants.Done}
use Rattle.queue_pair.specs.Rings.{HostRing}

-- the first Read is fetched and walked; the second is submitted, and its doorbell is not rung; then the first is completed
abbrev pub posted_behind : List Line
posted_behind =
    block Read 0 ∷ build 1 0 ∷ submit 1 0 ∷ ring 1 ∷ fetch 1 ∷ walk 1 0 ∷ walk 1 0
    ∷ block Read 1 ∷ build 1 1 ∷ submit 1 1 ∷ complete 1 0 ∷ []

abbrev pub posted_behind_said : List Said
posted_behind_said =
    reserved 1 0 (4 ∷ []) [] ∷ ok ∷ ok ∷ ok ∷ fetched 0 (2 ∷ []) ∷ walked More [] ∷ walked End (4 ∷ [])
    ∷ reserved 1 1 (5 ∷ []) [] ∷ ok ∷ ok ∷ completed (3 ∷ []) ∷ []

-- the second entry is in slot 1: a Read by a list, of identifier 1
abbrev pub second_word : List ℕ
second_word = 2 ∷ 64 ∷ 1 ∷ 0 ∷ []

-- and then reaped: the host knows of one entry that was fetched, and its tail is past both
abbrev pub reaped_behind : List Line
reaped_behind = posted_behind ++ reap 1 ∷ []

abbrev pub reaped_behind_said : List Said
reaped_behind_said = posted_behind_said ++ reaps (Done 0 SUCCESS) ∷ []

abbrev pub ring_behind : HostRing
ring_behind = record { head = 1; phase = true; known_head = 1; tail = 2 }
