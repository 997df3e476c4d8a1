-- Which commands a step names, and that it leaves all others, with the rights to their pages, as they were.
use Rattle.std.specs.{Option.option_map_or, Prelude.{◌≡◌, ℕ, ◌==◌, ◌&&◌, ◌||◌, slice_get, Bool, true, false, Option, Some, None}}
use Rattle.machine_model.specs.{Claims.IsSound, Events.{Event, Reply}, State.{State, HostQueue, Record, record_at}, Step.Step}
use Rattle.machine_model.specs.declared.words.Reaped.{Reaped}
use Rattle.machine_model.specs.Events as events
use Rattle.machine_model.specs.declared.words.Reaped.TheVariants as reaped
use Rattle.machine_model.specs.{Refusals.{deletes_cq_of, creates_cq_of, creates_sq_of}, Work.Work}
use Rattle.host_core.specs.declared.rights.Right.TheVariants as right
use Rattle.page_ledger.specs.declared.owner.Role.TheVariants as role
use Rattle.host_core.specs.Rights.{right_of_role}
use Rattle.run_laws.specs.Reach.{HaveRight}

-- the command that a reap ends, if it ends one
abbrev pub ended : Reaped → Option ℕ
ended (reaped.Done cid st) = Some cid
ended (reaped.AdminDone cid st dw0) = Some cid
ended what = None

-- whether a step names a command: the one that it is of, that it makes, or that it ends. A retirement names all of its queue, and a reset all.
abbrev pub names : Event → Reply → ℕ → ℕ → Bool
names (events.Reserve q request) (events.Reserved d) k cid = (d.q == k) && (d.cid == cid)
names (events.Submit d) reply k cid = (d.q == k) && (d.cid == cid)
names (events.Cancel d) reply k cid = (d.q == k) && (d.cid == cid)
names (events.Reap q) (events.Reaps what) k cid = (q == k) && option_map_or (λ c. c == cid) (ended what) false
names (events.Collect q c) reply k cid = (q == k) && (c == cid)
names (events.Release f) reply k cid = (f.q == k) && (f.cid == cid)
names (events.Retire q) reply k cid = q == k
names events.Reset reply k cid = true
names e (events.Sent id) k cid = (0 == k) && (id == cid)
names e reply k cid = false

-- the record of a command that is not named stays as it is
abbrev pub other_commands_stay : Type 0
other_commands_stay =
    (old : State) (e : Event) (reply : Reply) (new : State) → Step old e reply new → (k cid : ℕ) → names e reply k cid ≡ false
    → record_at new.host k cid ≡ record_at old.host k cid

-- and so do the rights to its pages
abbrev pub other_commands_keep_their_rights : Type 0
other_commands_keep_their_rights =
    (old : State) (e : Event) (reply : Reply) (new : State) → Step old e reply new → IsSound old → (k cid : ℕ) → names e reply k cid ≡ false
    → (r : Record) → record_at old.host k cid ≡ Some r
    → HaveRight new.host (right_of_role r role.Data) r.data_pages × HaveRight new.host (right_of_role r role.Chain) r.chain_pages

-- whether a command makes or deletes a half of a queue
abbrev pub is_of_queue : ℕ → Work → Bool
is_of_queue k work = deletes_cq_of k work || creates_cq_of k work || creates_sq_of k work

-- whether a step names a queue: one that it makes or retires, or of which it ends a command that makes or deletes a half. A reset names all.
abbrev pub names_queue : State → Event → Reply → ℕ → Bool
names_queue s (events.CreateCq q vector) reply k = q == k
names_queue s (events.CreateSq q) reply k = q == k
names_queue s (events.Retire q) reply k = q == k
names_queue s events.Reset reply k = true
names_queue s (events.Reap q) (events.Reaps what) k =
    option_map_or (λ c. option_map_or (λ r. is_of_queue k r.work) (record_at s.host q c) false) (ended what) false
names_queue s e reply k = false

-- the rights to the rings of a queue that is not named stay as they are
abbrev pub other_rings_keep_their_rights : Type 0
other_rings_keep_their_rights =
    (old : State) (e : Event) (reply : Reply) (new : State) → Step old e reply new → IsSound old → (k : ℕ) → names_queue old e reply k ≡ false
    → (queue : HostQueue) → slice_get old.host.queues k ≡ Some queue → HaveRight new.host right.Read queue.sq_pages × HaveRight new.host right.Write queue.cq_pages
