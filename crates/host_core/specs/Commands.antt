-- What the calls about a command leave of the tables.
use Rattle.std.specs.Option.{option_map, option_map_or}
use Rattle.std.specs.Prelude.{◌≡◌, ℕ, ◌+◌, ◌<◌, ◌≤◌, ◌==◌, ◌&&◌, ◌||◌, not, if◌then◌else◌, Bool, true, false, Option, Some, None, IsSome, position, find, length, List, [], ◌∷◌, ◌++◌, slice_get, slice_set}
use Rattle.entry_codec.specs.declared.hints.TheConstants.Hints.{NONE}
use Rattle.io_commands.specs.{Asked.Request, DataBytes.PagesOut, Drafts.DraftContents, Requests.{data_count, is_admin}, Values.{numbers_of, IsGood}, declared.request.Kind.Kind}
use Rattle.machine_model.specs.{After.{change, collected}, Claims.is_away, Memory.{without_pages, with_pages, zeroed_pages}}
use Rattle.machine_model.specs.{Placement.{placed, without_numbers, chain_wanted}, Refusals.{refusal_of, is_drafted, is_collected, is_of, in_service, takes_admin}}
use Rattle.machine_model.specs.{State.{Record, is_at, pages_of, with_record, without_record}, Step.IsNewIdentifier, declared.words.{HostState.HostState, Peer.Peer}}
use Rattle.machine_model.specs.declared.words.{Phase.{Phase, TheVariants.Drafted}, Work.TheVariants.Io}
use Rattle.page_ledger.specs.{Owners.{with_owner, given_back, is_command, free_pages}, declared.owner.Owner.{Owner, TheVariants.Command}}
use Rattle.page_ledger.specs.declared.owner.Role.TheVariants.{Data, Chain}
use Rattle.page_memory.specs.Pages.{Pages, page_at, zero_page}
use Rattle.host_core.specs.{Rows.Queue, Tables.{Tables, state_of}}
use Rattle.machine_model.specs.Events as events

-- a queue with its claimed identifiers changed
abbrev pub claims_changed : (List Bool → List Bool) → Queue → Queue
claims_changed f queue = record queue { host = record queue.host { claimed = f queue.host.claimed } }

abbrev pub with_claim : ℕ → Queue → Queue
with_claim cid queue = claims_changed (λ claimed. slice_set claimed cid true) queue

abbrev pub without_claim : ℕ → Queue → Queue
without_claim cid queue = claims_changed (λ claimed. slice_set claimed cid false) queue

-- the record of a command that was just reserved
abbrev pub record_of_draft : DraftContents → Record
record_of_draft d =
    record {
      q = d.q;
      cid = d.cid;
      phase = Drafted;
      work = Io d.request;
      data_pages = numbers_of d.data_pages;
      chain_pages = numbers_of d.chain_pages;
      status = None;
      hints = NONE;
    }

-- a draft's pages are its command's, and out; its identifier is claimed, and its record comes after the others
abbrev pub reserved : DraftContents → Tables → Tables
reserved d t =
    record t {
      pages = without_pages (numbers_of d.data_pages ++ numbers_of d.chain_pages) t.pages;
      owners = with_owner (with_owner t.owners (numbers_of d.data_pages) (Command d.q d.cid Data)) (numbers_of d.chain_pages) (Command d.q d.cid Chain);
      records = t.records ++ record_of_draft d ∷ [];
      queues = change d.q (with_claim d.cid) t.queues;
    }

-- a command's pages come in with these bytes, and are free, and so is its identifier; its record is gone
abbrev pub ended : ℕ → ℕ → PagesOut → Tables → Tables
ended q cid pages t =
    record t {
      pages = with_pages pages t.pages;
      owners = given_back (is_command q cid) t.owners;
      records = without_record q cid t.records;
      queues = change q (without_claim cid) t.queues;
    }

-- a command's pages are out again, and it is collected
abbrev pub taken_out : ℕ → ℕ → List ℕ → Tables → Tables
taken_out q cid pages t = record t { pages = without_pages pages t.pages; records = with_record q cid collected t.records }

-- each page is in, and named once
abbrev pub CanTake : List ℕ → Pages → Type 0
CanTake [] m = Unit {0}
CanTake (p ∷ ps) m = IsSome (page_at m p) × CanTake ps (slice_set m p None)

-- each page is out, and named once
abbrev pub CanPut : PagesOut → Pages → Type 0
CanPut [] m = Unit {0}
CanPut (page ∷ pages) m = (slice_get m page.0 ≡ Some None) × CanPut pages (slice_set m page.0 (Some page.1))

-- each page is in, once those before it are made zero
abbrev pub CanZero : List ℕ → Pages → Type 0
CanZero [] m = Unit {0}
CanZero (p ∷ ps) m = IsSome (page_at m p) × CanZero ps (slice_set m p (Some zero_page))

-- the host's state of a queue, where there is one
abbrev pub state_at : List Queue → ℕ → Option HostState
state_at queues q = option_map (λ queue. queue.state) (slice_get queues q)

-- whether that state passes a test
abbrev pub passes : (HostState → Bool) → Option HostState → Bool
passes test state = option_map_or test state false

-- whether no I/O queue of this number, in this state, is in service
abbrev pub takes_no_io : ℕ → Option HostState → Bool
takes_no_io q state = (q == 0) || not (passes in_service state)

-- whether a host that speaks to this peer has no queue of this number, in this state, for a command of this kind
abbrev pub lacks : Peer → ℕ → Option HostState → Kind → Bool
lacks peer q state kind = if is_admin kind then not (takes_admin peer && (q == 0)) else takes_no_io q state

-- The identifier that a queue would claim next
abbrev pub ClaimsNext : List Queue → ℕ → ℕ → Type 0
ClaimsNext queues q cid = (queue : Queue) → slice_get queues q ≡ Some queue → position not queue.host.claimed ≡ Some cid

-- this many pages where they are placed first, and this many of those that are left
abbrev pub first_placed : List Owner → ℕ → List ℕ
first_placed owners data_pages = placed (free_pages owners) data_pages

abbrev pub then_placed : List Owner → (data_pages chain_pages : ℕ) → List ℕ
then_placed owners data_pages chain_pages = placed (without_numbers (first_placed owners data_pages) (free_pages owners)) chain_pages

-- What a request gets, where nothing rules it out: an identifier and a number of pages for its data and for its chain.
pub record Grants (t : Tables) (q : ℕ) (r : Request) (cid data_pages chain_pages : ℕ) : Type 0 where
  pub none : refusal_of (state_of t) (events.Reserve q r) ≡ None
  pub good : IsGood r
  pub there : q < length t.queues
  pub next : ClaimsNext t.queues q cid
  pub fresh : IsNewIdentifier (state_of t) q cid
  pub for_data : data_pages ≡ data_count r.pieces
  pub for_chain : chain_pages ≡ chain_wanted (free_pages t.owners) t.segment r.pieces
  pub enough : data_pages + chain_pages ≤ length (free_pages t.owners)

-- An identifier of a queue is claimed.
abbrev pub Claims : List Queue → ℕ → ℕ → Type 0
Claims queues q cid = (queue : Queue) → slice_get queues q ≡ Some queue → slice_get queue.host.claimed cid ≡ Some true

-- a draft that was just reserved
abbrev pub new_draft : ℕ → ℕ → Request → List ℕ → List ℕ → ℕ → DraftContents
new_draft q cid request data_numbers chain_numbers segment =
    record { q = q; cid = cid; request = request; data_pages = zeroed_pages data_numbers; chain_pages = zeroed_pages chain_numbers; segment = segment; entry = None }

-- the phase of the commands that a draft or a finished command belongs to
abbrev pub phase_of_end : Bool → Phase → Bool
phase_of_end true = is_collected
phase_of_end false = is_drafted

-- A command's record is that of a moved value with these pages.
pub record Belongs (records : List Record) (ended : Bool) (q cid : ℕ) (request : Request) (data_pages chain_pages : List ℕ) : Type 0 where
  pub entry : Record
  pub was : find (is_at q cid) records ≡ Some entry
  pub is : is_of (phase_of_end ended) request data_pages chain_pages entry ≡ true

-- whether some record is
abbrev pub has_record : List Record → Bool → ℕ → ℕ → Request → List ℕ → List ℕ → Bool
has_record records ended q cid request data_pages chain_pages = option_map_or (is_of (phase_of_end ended) request data_pages chain_pages) (find (is_at q cid) records) false

-- the same of a draft
abbrev pub BelongsToDraft : List Record → DraftContents → Type 0
BelongsToDraft records d = Belongs records false d.q d.cid d.request (numbers_of d.data_pages) (numbers_of d.chain_pages)

abbrev pub has_drafted : List Record → DraftContents → Bool
has_drafted records d = has_record records false d.q d.cid d.request (numbers_of d.data_pages) (numbers_of d.chain_pages)

-- The pages that are brought are those of a command whose pages are out.
pub record Brings (t : Tables) (q cid : ℕ) (pages : PagesOut) : Type 0 where
  pub entry : Record
  pub was : find (is_at q cid) t.records ≡ Some entry
  pub out : is_away entry ≡ true
  pub numbers : numbers_of pages ≡ pages_of entry
