-- One owner for each page, the counts and the identifiers, computed in each state before a step of worked runs, and the two machines on a longer script.
use Rattle.std.specs.{List.{list_all, list_any}, Prelude.{ℕ, Bool, true, false, ◌==◌, ◌&&◌, not, List, [], ◌∷◌, ◌++◌, map, filter, length, if◌then◌else◌}}
use Rattle.machine_model.specs.{Claims.{claims_of, is_away, counts_of}, Image.Made, Memory.is_in, Refusals.{deletes_sq_of, is_asked, is_live, in_state}}
use Rattle.machine_model.specs.Script.{Line, Said, Table, defaults, walks, reserve, build, submit, ring, fetch, complete, reap, collect, release, abort, ok, reserved, fetched, walked, completed, reaps, held, sent, refused}
use Rattle.machine_model.specs.{State.{State, Host, outstanding_on, pages_of}, Step.times}
use Rattle.page_ledger.specs.{Counting.total, Owners.{is_among, pages_from}}
use Rattle.controller_walk.specs.declared.walk.WalkState.TheVariants.{More, End}
use Rattle.io_commands.specs.declared.request.{Kind.TheVariants.Read, Piece.TheVariants.Data}
use Rattle.entry_codec.specs.declared.status.TheConstants.Status.{SUCCESS}
use Rattle.machine_model.specs.Events as events

abbrev pub one_each : List ℕ → Bool
one_each xs = list_all (λ x. times x xs == 1) xs

abbrev pub claimed_pages : Host → List ℕ
claimed_pages h = map (λ claim. claim.0) (claims_of h)

abbrev pub same_bool : Bool → Bool → Bool
same_bool true b = b
same_bool false b = not b

abbrev pub is_sound : State → Bool
is_sound s =
    let pages = pages_from 0 (length s.memory) in
    list_all (λ p. times p (claimed_pages s.host) == 1) pages && (length (claimed_pages s.host) == length s.memory)
    && (total (counts_of s.host) == length s.memory)
    && list_all (λ q. one_each (outstanding_on s.host q)) (pages_from 0 (length s.host.queues))
    && list_all (λ q. length (filter (λ r. deletes_sq_of q r.work) s.host.records) == (if in_state is_asked s q then 1 else 0)) (pages_from 0 (length s.host.queues))
    && in_state is_live s 0
    && list_all (λ p. same_bool (is_in s.memory p) (not (list_any (λ r. is_away r && is_among (pages_of r) p) s.host.records))) pages

abbrev pub all_sound : List Made → Bool
all_sound made = list_all (λ m. is_sound m.before) made

-- three entries, two commands at a time, completed in the other order, with an Abort that comes too late
abbrev pub three_entries : Table
three_entries = defaults 16 1 3 256

abbrev pub block : Line
block = reserve 1 Read 0 1 (Data 0 512 ∷ [])

abbrev pub turn : List Line
turn =
    block ∷ build 1 0 ∷ submit 1 0 ∷ block ∷ build 1 1 ∷ submit 1 1 ∷ block ∷ ring 1 ∷ fetch 1 ∷ fetch 1 ∷ fetch 1
    ∷ walks 2 1 1 ++ walks 2 1 0 ++ complete 1 1 ∷ complete 1 0 ∷ complete 1 0 ∷ reap 1
    ∷ abort 1 0 ∷ ring 0 ∷ fetch 0 ∷ complete 0 0 ∷ reap 0 ∷ reap 1 ∷ reap 1 ∷ collect 1 0 ∷ collect 1 1 ∷ release 1 0 ∷ release 1 1 ∷ []

abbrev pub turns : List Line
turns = turn ++ turn ++ turn

-- in the second turn one completion is in the last slot and one in the first, written before the host has come round
abbrev pub two_turns : List Line
two_turns = turn ++ turn

abbrev pub said_turn : List Said
said_turn =
    reserved 1 0 (4 ∷ []) [] ∷ ok ∷ ok ∷ reserved 1 1 (5 ∷ []) [] ∷ ok ∷ ok ∷ refused events.NoIdentifier ∷ ok ∷ fetched 0 (2 ∷ []) ∷ fetched 1 (2 ∷ []) ∷ refused events.Idle
    ∷ walked More [] ∷ walked End (5 ∷ []) ∷ walked More [] ∷ walked End (4 ∷ []) ∷ completed (3 ∷ []) ∷ completed (3 ∷ []) ∷ refused events.NoJob ∷ reaps (events.Done 1 SUCCESS)
    ∷ sent 0 ∷ ok ∷ fetched 0 (0 ∷ []) ∷ completed (1 ∷ []) ∷ reaps (events.AdminDone 0 SUCCESS 1) ∷ reaps (events.Done 0 SUCCESS) ∷ reaps events.Empty
    ∷ held SUCCESS ∷ held SUCCESS ∷ ok ∷ ok ∷ []

abbrev pub said_turns : List Said
said_turns = said_turn ++ said_turn ++ said_turn
