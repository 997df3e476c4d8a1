-- The laws of trusted runs, said of the steps as they were made.
use Rattle.std.specs.Option.{option_map_or}
use Rattle.std.specs.Prelude.{◌≡◌, ℕ, ◌==◌, Bool, true, false, ◌&&◌, not, IsTrue, Some, List, [], ◌∷◌, ◌++◌, ◌≤◌, map, filter, slice_get, All, nat_lt}
use Rattle.page_ledger.specs.Owners.{is_among}
use Rattle.machine_model.specs.{After.{after, course_of}, Events.{Event, Reply}, Image.Made, Linked.{absent, IsLinked}}
use Rattle.machine_model.specs.{Refusals.{job_at, is_submitted, host_queue, is_live}, Standing.JobStands}
use Rattle.machine_model.specs.{State.{State, Controller, Record, record_at, outstanding_on, HostQueue, Job}, Step.{Step, Permits, IsController, host_part, times}}
use Rattle.machine_model.specs.{Touch.{stays_allowed, stays_own}, Trusted.{TrustedRun, forges_by}, Work.Work, declared.words.Work.TheVariants.{Io, Management}}
use Rattle.io_commands.specs.{Asked.Request, Requests.{has_list, joined_parts}, Drafts.pointer_of}
use Rattle.sgl_descriptor.specs.{Spelling.spelling, declared.Descriptor.Descriptor}
use Rattle.entry_codec.specs.declared.submission.SubEntry.{SubEntry}
use Rattle.page_memory.specs.Pages.{page_at, byte_at}
use Rattle.sgl_chain.specs.Spells.{Spells}
use Rattle.machine_model.specs.Events as events
use Rattle.machine_model.specs.declared.words.Refusal.TheVariants as refusal

abbrev pub is_full : Reply → Bool
is_full (events.Refused refusal.QueueFull touched) = true
is_full (events.Refused refusal.Full touched) = true
is_full (events.Refused refusal.SlotOut touched) = true
is_full reply = false

abbrev pub rings_are_never_full : Type 0
rings_are_never_full =
    (image : List ℕ) (made : List Made) (end : State) → TrustedRun image made end → All (λ m. IsTrue (not (is_full m.reply))) made

-- A submitted record's chain spells its parts, neighbours that join as one, from some descriptor, which is that of its entry wherever the entry still exists;
-- where it has no list its entry has zeros there.
-- A record doesn't keep its entry: after the completion nobody reads the chain.
abbrev pub entries_of : State → ℕ → ℕ → List SubEntry
entries_of s q cid =
    option_map_or (λ at. filter (λ e. e.cid == cid) at.unfetched) (slice_get s.controller.queues q) []
    ++ option_map_or (λ j. j.entry ∷ []) (job_at s q cid) []

pub record HasChain (s : State) (r : Record) (request : Request) : Type 0 where
  pub first : Descriptor
  pub spells : has_list request.kind ≡ true → Spells (byte_at s.memory) first (joined_parts request.pieces r.data_pages)
  pub named : All (λ e. e.sgl1 ≡ pointer_of request.kind (spelling first)) (entries_of s r.q r.cid)

abbrev pub HasChainIfIo : State → Record → Work → Type 0
HasChainIfIo s r (Io request) = HasChain s r request
HasChainIfIo s r (Management a) = Unit {0}

abbrev pub chains_stand : Type 0
chains_stand =
    (image : List ℕ) (made : List Made) (end : State) (q cid : ℕ) (r : Record) → TrustedRun image made end
    → record_at end.host q cid ≡ Some r → IsTrue (is_submitted r.phase) → HasChainIfIo end r r.work

-- no step changes a byte of a chain page of a record that stays submitted, so a job's units are one list from its submission to its completion
abbrev pub chains_stay : Type 0
chains_stay =
    (image : List ℕ) (made : List Made) (m : Made) (old new : State) (q cid : ℕ) (r : Record) (p : ℕ)
    → TrustedRun image made old → Step old m.event m.reply new
    → record_at old.host q cid ≡ Some r → IsTrue (is_submitted r.phase) → record_at new.host q cid ≡ Some r
    → IsTrue (is_among r.chain_pages p) → page_at new.memory p ≡ page_at old.memory p

-- Where nothing was forged, each step of the controller stays within what is allowed
abbrev pub trusted_steps_stay_allowed : Type 0
trusted_steps_stay_allowed =
    (image : List ℕ) (made : List Made) (old new : State) (e : Event) (reply : Reply)
    → TrustedRun image made old → Step old e reply new → IsTrue (stays_allowed old reply && stays_own old e reply)

-- Where nothing was forged, an admin command is at the controller at most once, and only where it is outstanding: not fetched, fetched, or completed
abbrev pub admin_places : State → List ℕ
admin_places s =
    map (λ e. e.cid) (option_map_or (λ at. at.unfetched) (slice_get s.controller.queues 0) [])
    ++ map (λ j. j.entry.cid) (filter (λ j. j.q == 0) s.controller.jobs)
    ++ map (λ a. a.cid) (option_map_or (λ at. at.completions) (slice_get s.controller.queues 0) [])

abbrev pub admin_commands_stand_once : Type 0
admin_commands_stand_once =
    (image : List ℕ) (made : List Made) (end : State) (cid : ℕ) → TrustedRun image made end
    → times cid (admin_places end) ≤ times cid (outstanding_on end.host 0)

-- Once something was forged: what the host is answered, and what its part and the memory become, depends on nothing in the controller's part
abbrev pub hosts_need_no_controller : Type 0
hosts_need_no_controller =
    (s : State) (d : Controller) (e : Event) (reply : Reply) → s.trusted ≡ false → IsController e ≡ false → Permits s e reply
    → Permits (record s { controller = d }) e reply
    × (host_part (after (record s { controller = d }) e reply) ≡ host_part (after s e reply))
    × ((after (record s { controller = d }) e reply).memory ≡ (after s e reply).memory)

-- whenever nothing was forged
abbrev pub trusted_worlds_are_linked : Type 0
trusted_worlds_are_linked = (image : List ℕ) (made : List Made) (s : State) → TrustedRun image made s → IsLinked s

-- A submission queue that is live at the host is there at the controller: only a deletion that the host asked for, or a reset, takes it
-- away, and the host is told only of that deletion's success.
abbrev pub live_queues_are_there : Type 0
live_queues_are_there =
    (image : List ℕ) (made : List Made) (s : State) (q : ℕ) (queue : HostQueue) → TrustedRun image made s → host_queue s q ≡ Some queue → is_live queue.state ≡ true → absent s q ≡ false

-- So each job does, after every run in which nothing was forged.
abbrev pub jobs_stand : Type 0
jobs_stand =
    (image : List ℕ) (made : List Made) (end : State) (q cid : ℕ) (j : Job) → TrustedRun image made end → IsTrue (nat_lt 0 q) → job_at end q cid ≡ Some j → JobStands end j

-- A step that forges nothing and leaves a job there keeps its list the same: the job's own walk, and anything else.
abbrev pub jobs_keep_their_lists : Type 0
jobs_keep_their_lists =
    (image : List ℕ) (made : List Made) (old new : State) (e : Event) (reply : Reply) (q cid : ℕ) (before after : Job)
    → TrustedRun image made old → Step old e reply new → IsTrue (not (forges_by e reply)) → IsTrue (nat_lt 0 q) → job_at old q cid ≡ Some before → job_at new q cid ≡ Some after
    → (after.entry ≡ before.entry) × (course_of new after ≡ course_of old before)
