-- What rules out an admin command that names a queue, or a command.
use Rattle.std.proofs.Common.{◌≡◌, ◌∙◌, ℕ, ◌==◌, ◌||◌, ◌&&◌, not, Bool, true, false, Option, Some, None, [], refl, ap, sym, inl, inr, slice_get}
use Rattle.std.proofs.lemmas.Option.{slice_get-map}
use Rattle.slot_table.proofs.Rows.{option_is}
use Rattle.admin_commands.specs.declared.AdminKind.TheVariants.{Abort, DeleteSq, DeleteCq, CreateSq}
use Rattle.controller_walk.specs.Units.{first_passing}
use Rattle.io_commands.specs.{Asked.Request, Requests.fault_of, declared.request.RequestFault.RequestFault}
use Rattle.machine_model.specs.Refusals.{cq_deletion_outstanding, in_state, is_changing, is_deleted, is_deleting, is_reaped, is_half_made, is_io_queue, is_submitted, has_cq, in_service, lacks_queue as takes_none, no_io_queue, record_is, refusal_of}
use Rattle.machine_model.specs.{State.State, Step.{Refuses, Step}, declared.words.HostState.HostState}
use Rattle.host_core.proofs.{Granting.{in_state-is, no_io-is}, QueueLists.host_step}
use Rattle.host_core.specs.{Commands.{passes, state_at, takes_no_io}, Reaping.lacks_completion, Ringing.lacks_submission, Sending.{named_causes, lacks_queue}, Tables.{Tables, state_of, host_queue_of}}
use Rattle.machine_model.specs.Events as events
use Rattle.machine_model.specs.declared.words.Refusal.TheVariants as refusal

-- What the host's state of a queue, as it was looked up, tells of the machine's

pub state-seen : (test : HostState → Bool) (t : Tables) (q : ℕ) (o : Option HostState) (b : Bool) → o ≡ state_at t.queues q → b ≡ passes test o → in_state test (state_of t) q ≡ b
state-seen test t q o b seen is = in_state-is test t q ∙ (ap (passes test) (sym seen) ∙ sym is)

pub service-seen : (t : Tables) (q : ℕ) (o : Option HostState) (b : Bool) → o ≡ state_at t.queues q → b ≡ takes_no_io q o → no_io_queue (state_of t) q ≡ b
service-seen t q o b seen is = no_io-is t q ∙ (ap (takes_no_io q) (sym seen) ∙ sym is)

pub lack-seen : (t : Tables) (q : ℕ) (o : Option HostState) (b : Bool) → o ≡ state_at t.queues q → b ≡ lacks_queue q o → ((q == 0) || not (in_state has_cq (state_of t) q)) ≡ b
lack-seen t q o b seen is = ap (λ (k : Bool). (q == 0) || not k) (in_state-is has_cq t q) ∙ (ap (lacks_queue q) (sym seen) ∙ sym is)

-- An Abort

pub abort-no_queue : (s : State) (q cid : ℕ) → no_io_queue s q ≡ true → Refuses s (events.Abort q cid) refusal.NoQueue []
abort-no_queue s q cid a = (rw a refl, refl)

pub abort-deleting : (s : State) (q cid : ℕ) → no_io_queue s q ≡ false → in_state is_deleting s q ≡ true → Refuses s (events.Abort q cid) refusal.WrongState []
abort-deleting s q cid a b = (rw (a, b) refl, refl)

pub abort-no_command : (s : State) (q cid : ℕ) → no_io_queue s q ≡ false → in_state is_deleting s q ≡ false → record_is (λ r. is_submitted r.phase) s q cid ≡ false → Refuses s (events.Abort q cid) refusal.NoSuchCommand []
abort-no_command s q cid a b d = (rw (a, b, d) refl, refl)

pub abort-free : (s : State) (q cid : ℕ) → no_io_queue s q ≡ false → in_state is_deleting s q ≡ false → record_is (λ r. is_submitted r.phase) s q cid ≡ true → first_passing (named_causes s (Abort q cid)) ≡ None
abort-free s q cid a b d = rw (a, b, d) refl

-- The deletion of a submission queue

pub delete_sq-no_queue : (s : State) (q : ℕ) → no_io_queue s q ≡ true → Refuses s (events.DeleteSq q) refusal.NoQueue []
delete_sq-no_queue s q a = (rw a refl, refl)

pub delete_sq-deleting : (s : State) (q : ℕ) → no_io_queue s q ≡ false → in_state is_deleting s q ≡ true → Refuses s (events.DeleteSq q) refusal.WrongState []
delete_sq-deleting s q a b = (rw (a, b) refl, refl)

pub delete_sq-free : (s : State) (q : ℕ) → no_io_queue s q ≡ false → in_state is_deleting s q ≡ false → first_passing (named_causes s (DeleteSq q)) ≡ None
delete_sq-free s q a b = rw (a, b) refl

-- The deletion of a completion queue

pub delete_cq-no_queue : (s : State) (q : ℕ) → ((q == 0) || not (in_state has_cq s q)) ≡ true → Refuses s (events.DeleteCq q) refusal.NoQueue []
delete_cq-no_queue s q a = (rw a refl, refl)

pub delete_cq-changing : (s : State) (q : ℕ) → ((q == 0) || not (in_state has_cq s q)) ≡ false → in_state is_changing s q ≡ true → Refuses s (events.DeleteCq q) refusal.WrongState []
delete_cq-changing s q a b = (rw (a, b) refl, refl)

-- The creation of a completion queue

pub create_cq-no_queue : (s : State) (q : ℕ) (vector : Option ℕ) → is_io_queue s q ≡ false → Refuses s (events.CreateCq q vector) refusal.NoQueue []
create_cq-no_queue s q vector a = (rw a refl, refl)

-- The creation of a submission queue

pub create_sq-no_queue : (s : State) (q : ℕ) → is_io_queue s q ≡ false → Refuses s (events.CreateSq q) refusal.NoQueue []
create_sq-no_queue s q a = (rw a refl, refl)

pub create_sq-outstanding : (s : State) (q : ℕ) → is_io_queue s q ≡ true → in_state is_half_made s q ≡ true → cq_deletion_outstanding s q ≡ true → Refuses s (events.CreateSq q) refusal.WrongState []
create_sq-outstanding s q a b d = (rw (a, b, d) refl, refl)

pub create_sq-free : (s : State) (q : ℕ) → is_io_queue s q ≡ true → in_state is_half_made s q ≡ true → cq_deletion_outstanding s q ≡ false → first_passing (named_causes s (CreateSq q 0 0)) ≡ None
create_sq-free s q a b d = rw (a, b, d) refl

-- Whether there is an I/O queue

pub io-zeroth : (s : State) (q : ℕ) → q ≡ 0 → is_io_queue s q ≡ false
io-zeroth s q e = rw e refl

and-false : (b : Bool) → (b && false) ≡ false
and-false true = refl
and-false false = refl

pub io-unknown : (t : Tables) (q : ℕ) → state_at t.queues q ≡ None → is_io_queue (state_of t) q ≡ false
io-unknown t q is = elim (option_is (slice_get t.queues q)) [
  | inl none ↦ rw (slice_get-map host_queue_of t.queues q, none) (and-false (not (q == 0)))
  | inr (x, at) ↦ absurd (let no : Some x.state ≡ None = rw at at is in cc)
]

pub io-there : (t : Tables) (q : ℕ) (state : HostState) → (q == 0) ≡ false → state_at t.queues q ≡ Some state → is_io_queue (state_of t) q ≡ true
io-there t q state zeroth is = elim (option_is (slice_get t.queues q)) [
  | inl none ↦ absurd (let no : None ≡ Some state = rw none at is in cc)
  | inr (x, at) ↦ rw (zeroth, slice_get-map host_queue_of t.queues q, at) refl
]

-- A queue's tail, written to the doorbell

served-is : (t : Tables) (q : ℕ) (b : Bool) → lacks_submission (slice_get t.queues q) ≡ b → not (in_state in_service (state_of t) q) ≡ b
served-is t q b is = elim (option_is (slice_get t.queues q)) [
  | inl none ↦ rw (slice_get-map host_queue_of t.queues q, none) (rw none at is)
  | inr (x, at) ↦ rw (slice_get-map host_queue_of t.queues q, at) (rw at at is)
]

refuses-ring : (s : State) (q : ℕ) → not (in_state in_service s q) ≡ true → Refuses s (events.Ring q) refusal.NoQueue []
refuses-ring s q a = (rw a refl, refl)

lets-ring : (s : State) (q : ℕ) → not (in_state in_service s q) ≡ false → refusal_of s (events.Ring q) ≡ None
lets-ring s q a = rw a refl

pub ring-refused : (t : Tables) (q : ℕ) → lacks_submission (slice_get t.queues q) ≡ true → Step (state_of t) (events.Ring q) (events.Refused refusal.NoQueue []) (state_of t)
ring-refused t q lacks = host_step t t (events.Ring q) (events.Refused refusal.NoQueue []) refl tt (refuses-ring (state_of t) q (served-is t q true lacks), refl)

pub ring-made : (t : Tables) (q : ℕ) → lacks_submission (slice_get t.queues q) ≡ false → Step (state_of t) (events.Ring q) events.Accepted (state_of t)
ring-made t q lacks = host_step t t (events.Ring q) events.Accepted refl tt (lets-ring (state_of t) q (served-is t q false lacks), tt, refl)

-- A reservation

pub reserve-no_queue : (s : State) (q : ℕ) (r : Request) → takes_none s q r.kind ≡ true → Refuses s (events.Reserve q r) refusal.NoQueue []
reserve-no_queue s q r a = (rw a refl, refl)

pub reserve-deleting : (s : State) (q : ℕ) (r : Request) → takes_none s q r.kind ≡ false → in_state is_deleting s q ≡ true → Refuses s (events.Reserve q r) refusal.Deleting []
reserve-deleting s q r a b = (rw (a, b) refl, refl)

pub reserve-bad : (s : State) (q : ℕ) (r : Request) (fault : RequestFault) → takes_none s q r.kind ≡ false → in_state is_deleting s q ≡ false → fault_of r.kind r.block_size r.blocks r.pieces ≡ Some fault → Refuses s (events.Reserve q r) (refusal.Bad fault) []
reserve-bad s q r fault a b d = (rw (a, b, d) refl, refl)

-- A reap, and a retirement

reaped-is : (t : Tables) (q : ℕ) (b : Bool) → lacks_completion (slice_get t.queues q) ≡ b → not (in_state is_reaped (state_of t) q) ≡ b
reaped-is t q b is = elim (option_is (slice_get t.queues q)) [
  | inl none ↦ rw (slice_get-map host_queue_of t.queues q, none) (rw none at is)
  | inr (x, at) ↦ rw (slice_get-map host_queue_of t.queues q, at) (rw at at is)
]

refuses-reap : (s : State) (q : ℕ) → not (in_state is_reaped s q) ≡ true → Refuses s (events.Reap q) refusal.NoQueue []
refuses-reap s q a = (rw a refl, refl)

pub reap-refused : (t : Tables) (q : ℕ) → lacks_completion (slice_get t.queues q) ≡ true → Step (state_of t) (events.Reap q) (events.Refused refusal.NoQueue []) (state_of t)
reap-refused t q lacks = host_step t t (events.Reap q) (events.Refused refusal.NoQueue []) refl tt (refuses-reap (state_of t) q (reaped-is t q true lacks), refl)

refuses-retire : (s : State) (q : ℕ) → in_state is_deleted s q ≡ false → Refuses s (events.Retire q) refusal.NotDeleted []
refuses-retire s q a = (rw a refl, refl)

pub retire-refused : (t : Tables) (q : ℕ) → passes is_deleted (state_at t.queues q) ≡ false → Step (state_of t) (events.Retire q) (events.Refused refusal.NotDeleted []) (state_of t)
retire-refused t q other = host_step t t (events.Retire q) (events.Refused refusal.NotDeleted []) refl tt (refuses-retire (state_of t) q (in_state-is is_deleted t q ∙ other), refl)
