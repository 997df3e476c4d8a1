-- Which pages a device may reach where each page has one owner, whatever was forged: those of rings, and those of what is submitted, each with its right.
use Rattle.std.specs.{List.{AllByRecursion, flat_map}, Prelude.{◌≡◌, ℕ, ◌+◌, ◌/◌, ◌<◌, ◌≤◌, true, Some, List, ◌∷◌, length, slice_get}}
use Rattle.io_commands.specs.{Asked.Request, Requests.joined_parts, Values.IsGood}
use Rattle.machine_model.specs.{Claims.IsSound, Refusals.is_submitted, State.{State, Host, HostQueue, Record, record_at}}
use Rattle.machine_model.specs.declared.words.Work.TheVariants.{Io}
use Rattle.page_ledger.specs.Owners.{is_among}
use Rattle.page_ledger.specs.declared.owner.Role.TheVariants as role
use Rattle.host_core.specs.Rights.{right_at, right_of_data, right_of_role}
use Rattle.host_core.specs.declared.rights.Right.{Right}
use Rattle.host_core.specs.declared.rights.Right.TheVariants as right
use Rattle.sgl_chain.specs.Chains.{first_of, segments_on}
use Rattle.sgl_descriptor.specs.declared.{Descriptor.{Descriptor, TheVariants.{DataBlock, BitBucket, Segment, LastSegment}}, Part.Part}

-- these pages have this right
abbrev pub HaveRight : Host → Right → List ℕ → Type 0
HaveRight h may pages = (p : ℕ) → is_among pages p ≡ true → right_at h p ≡ may

-- an outstanding command's pages have the right of its phase, its kind and what they hold
abbrev pub data_pages_have_their_right : Type 0
data_pages_have_their_right =
    (s : State) (q cid : ℕ) (r : Record) → IsSound s → record_at s.host q cid ≡ Some r → HaveRight s.host (right_of_role r role.Data) r.data_pages

abbrev pub chain_pages_have_their_right : Type 0
chain_pages_have_their_right =
    (s : State) (q cid : ℕ) (r : Record) → IsSound s → record_at s.host q cid ≡ Some r → HaveRight s.host (right_of_role r role.Chain) r.chain_pages

-- rings are read, or written, as long as the host has them
abbrev pub submission_rings_are_read : Type 0
submission_rings_are_read =
    (s : State) (q : ℕ) (queue : HostQueue) → IsSound s → slice_get s.host.queues q ≡ Some queue → HaveRight s.host right.Read queue.sq_pages

abbrev pub completion_rings_are_written : Type 0
completion_rings_are_written =
    (s : State) (q : ℕ) (queue : HostQueue) → IsSound s → slice_get s.host.queues q ≡ Some queue → HaveRight s.host right.Write queue.cq_pages

-- no free page is reached, and none outside the pool
abbrev pub free_pages_have_none : Type 0
free_pages_have_none = (s : State) → IsSound s → HaveRight s.host right.Nothing s.host.free

abbrev pub none_outside_the_pool : Type 0
none_outside_the_pool = (s : State) (p : ℕ) → IsSound s → length s.memory ≤ p → right_at s.host p ≡ right.Nothing

-- Addresses in lists

-- each byte at the addresses of a descriptor is on a page with the right that it needs: data with this one, and further segments are read
abbrev pub Reaches : Host → Right → Descriptor → Type 0
Reaches h may (DataBlock addr len) = (k : ℕ) → k < len → right_at h ((addr + k) / 4096) ≡ may
Reaches h may (BitBucket len) = Unit {0}
Reaches h may (Segment addr len) = (k : ℕ) → k < len → right_at h ((addr + k) / 4096) ≡ right.Read
Reaches h may (LastSegment addr len) = (k : ℕ) → k < len → right_at h ((addr + k) / 4096) ≡ right.Read

-- the descriptor in an entry, and then those of the segments of its list
abbrev pub descriptors_of : ℕ → List ℕ → List Part → List Descriptor
descriptors_of n pages parts = first_of n pages parts ∷ flat_map (λ segment. segment) (segments_on n pages parts)

-- So each address that the entry and the list of a submitted command name, whose request
-- passed its check, lies with all its bytes on a page with the right that its direction needs.
abbrev pub lists_name_what_may_be_reached : Type 0
lists_name_what_may_be_reached =
    (s : State) (q cid n : ℕ) (r : Record) (request : Request) → IsSound s → record_at s.host q cid ≡ Some r → r.work ≡ Io request → is_submitted r.phase ≡ true
    → n ≤ 256 → IsGood request
    → AllByRecursion (Reaches s.host (right_of_data request.kind)) (descriptors_of n r.chain_pages (joined_parts request.pieces r.data_pages))
