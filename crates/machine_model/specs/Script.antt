-- Scripts, played: the choices are the lowest free identifier and the first placement of pages, and drafts, tickets and finished commands are kept beside the machine.
use Rattle.std.specs.{List.{list_all, list_any}, Option.{option_map_or, option_map}}
use Rattle.std.specs.Prelude.{ℕ, zero, suc, ◌+◌, ◌-◌, ◌==◌, Bool, true, false, nat_lt, ◌&&◌, not, Option, Some, None, List, [], ◌∷◌, ◌++◌, length, take, drop, replicate, filter, find, sum_by, option_and_then, if◌then◌else◌}
use Rattle.machine_model.specs.{After.{after, next_unit, next_answer}, Events.{Event, Reply, Refusal, Reaped}, Image.{Made, is_draft, draft_of}}
use Rattle.machine_model.specs.{Memory.zeroed_pages, Opening.opening, Placement.{data_placed, chain_placed}}
use Rattle.machine_model.specs.{Refusals.{refusal_of, next_rung, job_at, post_page}, State.{State, record_at, outstanding_on, Job}}
use Rattle.machine_model.specs.{Step.{reaped, touched_by_fetch, touched_by_refusal, finished_from}, Touch.{stays_allowed, stays_own}}
use Rattle.page_ledger.specs.Owners.{is_among, pages_from}
use Rattle.controller_walk.specs.{Units.{touched as pages_touched, first_passing}, declared.walk.WalkState.WalkState}
use Rattle.io_commands.specs.{Asked.Request, DataBytes.{data_length, filled}, Drafts.{DraftContents, built}, Requests.brings_data}
use Rattle.io_commands.specs.{Values.{FinishedContents, numbers_of, gathered_from}, declared.draft.FillFault.{FillFault, TheVariants.{NotASource, WrongLength}}}
use Rattle.io_commands.specs.declared.request.{Kind.Kind, Piece.Piece, TheConstants.Flags.NONE}
use Rattle.io_commands.specs.declared.block_size.BlockSize.TheVariants.{Bytes512}
use Rattle.page_memory.specs.Pages.{page_at}
use Rattle.entry_codec.specs.declared.status.Status.{Status}
use Rattle.machine_model.specs.Events as events

-- A script's lines: a command is reserved for namespace 1 and without flags, or as a request asks for it

pub data Line : Type 0 where
  reserve : (q : ℕ) → (kind : Kind) → (slba blocks : ℕ) → List Piece → Line
  ask : (q : ℕ) → Request → Line
  fill : (q cid : ℕ) → List ℕ → Line
  build : (q cid : ℕ) → Line
  submit : (q cid : ℕ) → Line
  cancel : (q cid : ℕ) → Line
  ring : (q : ℕ) → Line
  fetch : (q : ℕ) → Line
  walk : (q cid : ℕ) → Line
  complete : (q cid : ℕ) → Line
  reap : (q : ℕ) → Line
  collect : (q cid : ℕ) → Line
  gather : (q cid : ℕ) → Line
  release : (q cid : ℕ) → Line
  abort : (q cid : ℕ) → Line
  delete_sq : (q : ℕ) → Line
  delete_cq : (q : ℕ) → Line
  create_cq : (q : ℕ) → (vector : Option ℕ) → Line
  create_sq : (q : ℕ) → Line
  retire : (q : ℕ) → Line
  forge : (q slot : ℕ) → List ℕ → Line
  reset : Line

-- What a line prints. A reserve shows its pages where the printed line has their numbers

pub data Said : Type 0 where
  not_filled : FillFault → Said
  ok : Said
  reserved : (q cid : ℕ) → (data_pages chain_pages : List ℕ) → Said
  fetched : (cid : ℕ) → List ℕ → Said
  walked : WalkState → List ℕ → Said
  completed : List ℕ → Said
  reaps : Reaped → Said
  held : Status → Said
  gathered : List (ℕ × ℕ) → Said
  sent : (cid : ℕ) → Said
  refused : Refusal → Said
  no_value : Said
  stuck : Said

pub record Table : Type 0 where
  pub world : State
  pub drafts : List DraftContents
  pub tickets : List (ℕ × ℕ)
  pub finished : List FinishedContents

abbrev pub table : State → Table
table s = record { world = s; drafts = []; tickets = []; finished = [] }

-- Choices

abbrev pub lowest_of : List ℕ → List ℕ → ℕ
lowest_of used [] = 0
lowest_of used (n ∷ ns) = if is_among used n then lowest_of used ns else n

abbrev pub chosen : State → ℕ → Request → DraftContents
chosen s q r =
    record {
      q = q;
      cid = lowest_of (outstanding_on s.host q) (pages_from 0 s.entries);
      request = r;
      data_pages = zeroed_pages (data_placed s.host.free r.pieces);
      chain_pages = zeroed_pages (chain_placed s.host.free s.segment r.pieces);
      segment = s.segment;
      entry = None;
    }

-- A draft's own calls

abbrev pub filled_draft : List ℕ → DraftContents → DraftContents
filled_draft bytes d =
    let whole = sum_by data_length d.request.pieces in
    record d { data_pages = filled d.request.pieces d.data_pages (bytes ++ replicate (whole - length bytes) 0) }

-- bytes that are too few are padded
abbrev pub fill_fault : List ℕ → DraftContents → Option FillFault
fill_fault bytes d =
    first_passing (
    (brings_data d.request.kind, NotASource)
    ∷ (nat_lt (sum_by data_length d.request.pieces) (length bytes), WrongLength)
    ∷ [])

-- maximal runs of equal bytes
abbrev pub runs_from : ℕ → ℕ → List ℕ → List (ℕ × ℕ)
runs_from byte count [] = (byte, count) ∷ []
runs_from byte count (b ∷ bs) = if b == byte then runs_from byte (count + 1) bs else (byte, count) ∷ runs_from b 1 bs

abbrev pub runs : List ℕ → List (ℕ × ℕ)
runs [] = []
runs (b ∷ bs) = runs_from b 1 bs

-- Kept values

abbrev pub is_ticket : ℕ → ℕ → ℕ × ℕ → Bool
is_ticket q cid ticket = (ticket.0 == q) && (ticket.1 == cid)

abbrev pub is_finished : ℕ → ℕ → FinishedContents → Bool
is_finished q cid f = (f.q == q) && (f.cid == cid)

abbrev pub finished_at : ℕ → ℕ → List FinishedContents → Option FinishedContents
finished_at q cid fs = find (is_finished q cid) fs

-- what is kept, without the values that pass a test
abbrev pub without : {X : Type 0} → (X → Bool) → List X → List X
without test kept = filter (λ x. not (test x)) kept

-- One line

-- what a job's next walk step answers, and the pages that it touches
abbrev pub walk_step : State → Job → Option (WalkState × List ℕ)
walk_step s j = option_map (λ act. (next_answer s j, pages_touched act)) (next_unit s j)

abbrev pub walked_as : Option (WalkState × List ℕ) → Said
walked_as None = stuck
walked_as (Some step) = walked step.0 step.1

-- the world's event with an accepted reply, and what is said of it
abbrev pub stepped : Table → Event → Reply → Said → (Table → Table) → Table × Said × Option Made
stepped t e reply words keep =
    elim (refusal_of t.world e) [
      | Some why ↦ (t, refused why, Some (record { before = t.world; event = e; reply = events.Refused why (touched_by_refusal t.world e why) }))
      | None ↦ (keep (record t { world = after t.world e reply }), words, Some (record { before = t.world; event = e; reply = reply }))
    ]

abbrev pub same_table : Table → Table
same_table t = t

-- what is done with a kept value, if there is one
abbrev pub with_kept : {X : Type 0} → Option X → (X → Table × Said × Option Made) → Table → Table × Said × Option Made
with_kept None f t = (t, no_value, None)
with_kept (Some x) f t = f x

abbrev pub asked : Table → ℕ → Request → Table × Said × Option Made
asked t q r =
    let d = chosen t.world q r in
    stepped t (events.Reserve q r) (events.Reserved d) (reserved q d.cid (numbers_of d.data_pages) (numbers_of d.chain_pages)) (λ t'. record t' { drafts = d ∷ t'.drafts })

abbrev pub line : Table → Line → Table × Said × Option Made
line t (reserve q kind slba blocks pieces) = asked t q (record { kind = kind; nsid = 1; flags = NONE; slba = slba; block_size = Bytes512; blocks = blocks; pieces = pieces })
line t (ask q r) = asked t q r
line t (fill q cid bytes) =
    with_kept (draft_of q cid t.drafts)
    (λ d. elim (fill_fault bytes d) [
      | Some why ↦ (t, not_filled why, None)
      | None ↦ (record t { drafts = filled_draft bytes d ∷ without (is_draft q cid) t.drafts }, ok, None)
    ]) t
line t (build q cid) =
    with_kept (draft_of q cid t.drafts) (λ d. (record t { drafts = built d ∷ without (is_draft q cid) t.drafts }, ok, None)) t
line t (submit q cid) =
    with_kept (draft_of q cid t.drafts) (λ d. stepped t (events.Submit d) events.Accepted ok (λ t'. record t' { drafts = without (is_draft q cid) t'.drafts; tickets = (q, cid) ∷ t'.tickets })) t
line t (cancel q cid) =
    with_kept (draft_of q cid t.drafts) (λ d. stepped t (events.Cancel d) events.Accepted ok (λ t'. record t' { drafts = without (is_draft q cid) t'.drafts })) t
line t (ring q) = stepped t (events.Ring q) events.Accepted ok same_table
line t (fetch q) =
    let cid = option_map_or (λ e. e.cid) (next_rung t.world q) 0 in
    let touched = touched_by_fetch t.world q in
    stepped t (events.Fetch q) (events.Fetched cid touched) (fetched cid touched) same_table
line t (walk q cid) =
    let due = option_and_then (walk_step t.world) (job_at t.world q cid) in
    stepped t (events.Walk q cid) (option_map_or (λ step. events.Walked step.0 step.1) due events.Accepted) (walked_as due) same_table
line t (complete q cid) =
    let touched = post_page t.world q ∷ [] in
    stepped t (events.Complete q cid) (events.Completed touched) (completed touched) same_table
line t (reap q) =
    let what = reaped t.world q in
    stepped t (events.Reap q) (events.Reaps what) (reaps what) same_table
line t (collect q cid) =
    let f = option_and_then (finished_from t.world) (record_at t.world.host q cid) in
    if list_any (is_ticket q cid) t.tickets
    then stepped t (events.Collect q cid) (option_map_or events.Collects f events.Accepted) (option_map_or (λ x. held x.status) f stuck)
    (λ t'. option_map_or (λ x. record t' { tickets = without (is_ticket q cid) t'.tickets; finished = x ∷ t'.finished }) f t')
    else (t, no_value, None)
line t (gather q cid) = with_kept (finished_at q cid t.finished) (λ x. (t, gathered (runs (gathered_from x)), None)) t
line t (release q cid) =
    with_kept (finished_at q cid t.finished) (λ x. stepped t (events.Release x) events.Accepted ok (λ t'. record t' { finished = without (is_finished q cid) t'.finished })) t
line t (abort q cid) =
    let id = lowest_of (outstanding_on t.world.host 0) (pages_from 0 t.world.entries) in
    stepped t (events.Abort q cid) (events.Sent id) (sent id) same_table
line t (delete_sq q) =
    let id = lowest_of (outstanding_on t.world.host 0) (pages_from 0 t.world.entries) in
    stepped t (events.DeleteSq q) (events.Sent id) (sent id) same_table
line t (delete_cq q) =
    let id = lowest_of (outstanding_on t.world.host 0) (pages_from 0 t.world.entries) in
    stepped t (events.DeleteCq q) (events.Sent id) (sent id) same_table
line t (create_cq q vector) =
    let id = lowest_of (outstanding_on t.world.host 0) (pages_from 0 t.world.entries) in
    stepped t (events.CreateCq q vector) (events.Sent id) (sent id) same_table
line t (create_sq q) =
    let id = lowest_of (outstanding_on t.world.host 0) (pages_from 0 t.world.entries) in
    stepped t (events.CreateSq q) (events.Sent id) (sent id) same_table
line t (retire q) = stepped t (events.Retire q) events.Accepted ok same_table
line t (forge q slot bytes) = stepped t (events.Forge q slot bytes) events.Accepted ok same_table
line t reset = stepped t events.Reset events.Accepted ok same_table

abbrev pub played : Table → List Line → List Said
played t [] = []
played t (l ∷ ls) = let step = line t l in step.1 ∷ played step.0 ls

abbrev pub left_by : Table → List Line → Table
left_by t [] = t
left_by t (l ∷ ls) = left_by (line t l).0 ls

-- the steps that were made, and whether each touches only what it may
abbrev pub made_by : Table → List Line → List Made
made_by t [] = []
made_by t (l ∷ ls) = let step = line t l in option_map_or (λ m. m ∷ []) step.2 [] ++ made_by step.0 ls

abbrev pub all_allowed : List Made → Bool
all_allowed made = list_all (λ m. stays_allowed m.before m.reply && stays_own m.before m.event m.reply) made

-- a command carried from a draft to its collection, in this many walk steps
abbrev pub walks : ℕ → ℕ → ℕ → List Line
walks zero q cid = []
walks (suc n) q cid = walk q cid ∷ walks n q cid

abbrev pub carried : (steps q cid : ℕ) → List Line
carried steps q cid =
    build q cid ∷ submit q cid ∷ ring q ∷ fetch q ∷ walks steps q cid ++ complete q cid ∷ reap q ∷ collect q cid ∷ []

-- an opening over 64 zero blocks; most worked runs have 16 pages, one I/O queue and 4 entries
abbrev pub defaults : ℕ → ℕ → ℕ → ℕ → Table
defaults pages queues entries segment = table (opening pages queues entries segment (replicate 32768 0))

-- some bytes of a page, and what is free
abbrev pub shown : Table → (page at count : ℕ) → List ℕ
shown t p at count = option_map_or (λ bytes. take count (drop at bytes)) (page_at t.world.memory p) []

abbrev pub free_of : Table → ℕ
free_of t = length t.world.host.free
