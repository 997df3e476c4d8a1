-- A state is put together from both sides.
use Rattle.machine_model.specs.Events as events
use Rattle.machine_model.specs.declared.words.Refusal.TheVariants as refusal
use Rattle.machine_model.specs.Step as machine
use Rattle.std.proofs.Common.{◌≡◌, ℕ, Bool, true, false, not, ◌||◌, List, MatchBool, refl, ap, sym, ◌∙◌, arith, zero, suc, ◌≤◌, ◌&&◌, Option, Some, None, [], ◌∷◌, length, map, is_some, slice_get, ap₂, subst, ◌<◌, ◌++◌, if◌then◌else◌, inl, inr}
use Rattle.std.{proofs.lemmas.Bool.{true≢false, OnTrue_from, not-false, cases_Bool, Decides.nat_tests}, specs.Option.{option_map, option_map_or}}
use Rattle.host_core.{proofs.Told.leaves_just, specs.Alone.{alone, HostView, HostStep, IsOver}}
use Rattle.machine_model.proofs.{Counting.held_once, Headline.{sound_from_both, steps_keep}, HostLeaves.host_leaves}
use Rattle.machine_model.proofs.{Moves.{collected_away, drafted_away, is_of_found, queue_found}, Owned.{holds_from_sound, taken_from_out}, Sound.Both}
use Rattle.machine_model.{proofs.Steps.{Accepts, part_controller, found, unrefused}, specs.After.{after, collected, on_memory, on_records}}
use Rattle.machine_model.specs.{Claims.HasOneOwner, Events.{Event, Reply}, Memory.{memory_of, without_pages}, Proper.IsProper}
use Rattle.machine_model.specs.Refusals.{refusal_of, is_reaped, seen_entry, in_service, is_collected, is_drafted, is_held, is_submitted}
use Rattle.machine_model.specs.State.{State, Controller, HostQueue, ServedQueue, Record, is_at, pages_of, record_at, with_record}
use Rattle.machine_model.specs.Step.{Answers, IsController, IsNewIdentifier, Permits, Refuses, touched_by_refusal, Leaves, LeavesByController, LeavesByHost, Step, forges, host_part, times}
use Rattle.machine_model.specs.declared.words.Refusal.{Refusal}
use Rattle.two_sides.proofs.{AdminKept.admin_behind, Agreed.{step_keeps_agreement, recovery_kept}, Blind.{out_of, SeesAlike, bare, heard_of_entry, left_alike}}
use Rattle.two_sides.proofs.ControllerMoves.{steps_stay_in_rings}
use Rattle.two_sides.proofs.Frames.{tied_of, known, Spares, all_stand_still, free_apart_from_queues, one_queue, one_stands, queues_stay, unchanged, walks_after, commands_apart}
use Rattle.two_sides.proofs.{Places.{seen_alike, told, tails_heard, in_ring, length-unfetched}, Provided.{steps_provide, in_found}, Serving.step_keeps_serving}
use Rattle.two_sides.proofs.Shared.{refused_leaves, length-controller, forged_step, commands-heard, image-heard, length-heard, share_queues, unreset}
use Rattle.two_sides.{proofs.Untouched.without_elsewhere, specs.Hearing.heard}
use Rattle.two_sides.specs.Laws.{looks_at_completions, hosts_answer, hosts_refuse, behind}
use Rattle.two_sides.specs.{Sides.{Sides, state_of, controller_part, served_queue_of, served_queues_of}, Stepping.{StepsTo, LeavesPages, served}}
use Rattle.two_sides.specs.Ties.{AreSides, IsWorld, AllQueuesStand, ShareQueues, SharesAdmin, WalksStand, QueueStands}
use Rattle.block_image.specs.Blocks.{block_count}
use Rattle.controller_core.specs.Contents.{AreAwaited, AreCommands, Contents, FetchedCommand, IsController as ContentsIsController}
use Rattle.controller_core.specs.{Doorbells.{tail_rung, with_tail}, declared.queue.ControllerQueue.ControllerQueue}
use Rattle.entry_codec.specs.declared.completion.ComEntry.{ComEntry}
use Rattle.page_memory.specs.{Memory.Memory, Pages.{AreWhole, Pages, byte_at, page_at}}
use Rattle.admin_commands.specs.Verdicts.{is_absent}
use Rattle.io_commands.specs.{Asked.Request, Drafts.DraftContents, Values.{FinishedContents, numbers_of}}
use Rattle.page_ledger.specs.Owners.{is_among}
use Rattle.queue_pair.specs.{Members.change, Slots.is_in_range}
use Rattle.host_core.proofs.PageOwners.{with-other}

-- What the host answers to a call that looks at no completion ring is what the machine may answer.

same_refusal : (s : Sides) (e : Event) → IsController e ≡ false → looks_at_completions e ≡ false → refusal_of (alone s.host s.pages) e ≡ refusal_of (state_of s) e
same_refusal s e c l = grind arith

same_touch : (s : Sides) (e : Event) (why : Refusal) → IsController e ≡ false → touched_by_refusal (alone s.host s.pages) e why ≡ touched_by_refusal (state_of s) e why
same_touch s e why c = grind arith

pub refuses : (s : Sides) (e : Event) (why : Refusal) (touched : List ℕ) → IsController e ≡ false → refusal_of (alone s.host s.pages) e ≡ refusal_of (state_of s) e
    → Refuses (alone s.host s.pages) e why touched → Refuses (state_of s) e why touched
refuses s e refusal.Memory touched c same h = (h.0, sym same ∙ h.1, h.2 ∙ same_touch s e refusal.Memory c)
refuses s e why touched c same h = (sym same ∙ h.0, h.1 ∙ same_touch s e why c)

new_same : (s : Sides) (q cid : ℕ) → IsNewIdentifier (alone s.host s.pages) q cid → IsNewIdentifier (state_of s) q cid
new_same s q cid h = record { in_range = h.in_range; unused = h.unused }

pub answers : (s : Sides) (e : Event) (reply : Reply) → IsController e ≡ false → looks_at_completions e ≡ false → Answers (alone s.host s.pages) e reply → Answers (state_of s) e reply
answers s (events.Reserve q r) (events.Reserved d) c l h =
    record { queue = h.queue; request = h.request; segment = h.segment; identifier = new_same s q d.cid h.identifier; data_pages = h.data_pages; chain_pages = h.chain_pages; free = h.free; zero = h.zero; not_built = h.not_built }
answers s (events.Submit d) events.Accepted c l h = h
answers s (events.Cancel d) events.Accepted c l h = h
answers s (events.Ring q) events.Accepted c l h = h
answers s (events.Reap q) (events.Reaps what) c l h = absurd (true≢false l)
answers s (events.Collect q cid) (events.Collects f) c l h = h
answers s (events.Release f) events.Accepted c l h = h
answers s (events.Abort q cid) (events.Sent id) c l h = new_same s 0 id h
answers s (events.DeleteSq q) (events.Sent id) c l h = new_same s 0 id h
answers s (events.DeleteCq q) (events.Sent id) c l h = new_same s 0 id h
answers s (events.CreateCq q vector) (events.Sent id) c l h = new_same s 0 id h
answers s (events.CreateSq q) (events.Sent id) c l h = new_same s 0 id h
answers s (events.Retire q) events.Accepted c l h = absurd (true≢false l)
answers s (events.Forge q slot bytes) events.Accepted c l h = h
answers s events.Reset events.Accepted c l h = h
answers s (events.Fetch q) reply c l h = absurd (true≢false c)
answers s (events.Walk q cid) reply c l h = absurd (true≢false c)
answers s (events.Complete q cid) reply c l h = absurd (true≢false c)
answers s e reply c l h = absurd h

pub into : {A : Type 0} (B : Type 0) (t c : Bool) → c ≡ false → A → MatchBool (t || not c) A B
into B false true e h = absurd (true≢false e)
into x y c e h = h

permits : (s : Sides) (e : Event) (reply : Reply) → IsController e ≡ false → looks_at_completions e ≡ false → Permits (alone s.host s.pages) e reply → Permits (state_of s) e reply
permits s e (events.Refused why touched) c l h = into _ s.trusted (IsController e) c (refuses s e why touched c (same_refusal s e c l) (out_of _ (IsController e) c h))
permits s e (events.Reserved d) c l h =
    let ok = out_of _ (IsController e) c h in
    into _ s.trusted (IsController e) c (sym (same_refusal s e c l) ∙ ok.0, answers s e (events.Reserved d) c l ok.1)
permits s e reply c l h =
    let ok = out_of _ (IsController e) c h in
    into _ s.trusted (IsController e) c (sym (same_refusal s e c l) ∙ ok.0, answers s e reply c l ok.1)

pub answer_as_machine : hosts_answer
answer_as_machine s e reply host pages c l step = permits s e reply c l step.1

pub refuse_as_machine : hosts_refuse
refuse_as_machine s e why touched host pages c l step = (
  ap (λ (x : State). record s { host = record { entries = x.entries; segment = x.segment; host = x.host }; pages = x.memory }) step.2,
  (step.0, permits s e (events.Refused why touched) c l step.1, refl),
)

-- What each event has to show, so that it is a step of the machine and leaves both sides tied.

-- A controller whose doorbell is rung

-- What holds whatever was forged still holds after each step of the host.
pub sides_behind : (s : Sides) (e : Event) (reply : Reply) (host : HostView) (pages : Pages) → AreSides s → machine.IsController e ≡ false
    → HostStep s.host s.pages e reply host pages → IsOver host pages → AreSides (behind s e reply host pages)
sides_behind s e reply host pages sides c step over =
    let kept = steps_keep (alone s.host s.pages) e reply (alone host pages) step sides.kept in
    record {
      over = over;
      sound = record {
        owners = subst (λ (n : ℕ). HasOneOwner n host.host) (sym kept.counted) kept.owners;
        identifiers = kept.identifiers;
        positions = steps_stay_in_rings (alone s.host s.pages) e reply (alone host pages) step sides.sound.positions;
      };
      kept = kept;
      provided = steps_provide (alone s.host s.pages) e reply (alone host pages) step sides.kept sides.provided;
      controller =
          let same = commands-heard e reply host s.controller in
          record {
            commands = subst (λ (k : List FetchedCommand). AreCommands (block_count (heard e reply host s.controller).image) (length (heard e reply host s.controller).queues) k) (sym same)
                (subst (λ (n : ℕ). AreCommands n (length (heard e reply host s.controller).queues) s.controller.commands) (sym (ap block_count (image-heard e reply host s.controller)))
                (subst (λ (n : ℕ). AreCommands (block_count s.controller.image) n s.controller.commands) (sym (length-heard e reply host s.controller)) sides.controller.commands));
            awaited = subst AreAwaited (sym same) sides.controller.awaited;
          };
      queues = share_queues s e reply host pages c step sides.queues;
      admin = admin_behind s e reply host pages c step sides.kept sides.admin;
    }

stays_left : (s : State) (e : Event) (reply : Reply) → AreWhole s.memory → after s e reply ≡ s → Leaves s e reply s
stays_left s e (events.Refused why touched) whole same = refl
-- nothing changes
stays_left s e reply whole same = grind arith

-- a refused call, also Reap and Retire
pub host_refused : (s : Sides) (e : Event) (reply : Reply) (host : HostView) (pages : Pages) → IsWorld s → alone host pages ≡ alone s.host s.pages
    → behind s e reply host pages ≡ s → IsProper e → Permits (state_of s) e reply → after (state_of s) e reply ≡ state_of s → StepsTo s e reply (behind s e reply host pages)
host_refused s e reply host pages world same stays proper permits leaves =
    subst (λ (x : Sides). StepsTo s e reply x) (sym stays) ((proper, permits, stays_left (state_of s) e reply world.sides.over.pool.whole leaves), world)

-- An accepted call where nothing was forged: the machine's lists, and that the queues and the walks stand.
pub record Ties (s : Sides) (e : Event) (reply : Reply) (host : HostView) (pages : Pages) : Type 0 where
  pub permits : Permits (state_of s) e reply
  pub controller : controller_part (behind s e reply host pages) ≡ (after (state_of s) e reply).controller
  pub queues : AllQueuesStand s.host.entries (byte_at pages) zero host.host.queues (heard e reply host s.controller).queues
  pub walks : WalksStand (memory_of pages) s.controller.commands

-- what an accepted call leaves is what is due
exactly_left : (s : Sides) (e : Event) (reply : Reply) (host : HostView) (pages : Pages) → s.trusted ≡ true → forges e ≡ false
    → (state_of (behind s e reply host pages) ≡ after (state_of s) e reply) → Leaves (state_of s) e reply (state_of (behind s e reply host pages))
exactly_left s e (events.Refused why touched) host pages t f same = same
exactly_left s e reply host pages t f same = grind arith

-- the same completion is at the head for the host and for the machine
heads_alike : (o p : Option ComEntry) → told o ≡ told p → option_map heard_of_entry p ≡ option_map heard_of_entry o
heads_alike o p same = grind arith

pub sees_alike : (s : Sides) (e : Event) → IsWorld s → refusal_of (alone s.host s.pages) e ≡ None → SeesAlike (state_of s) (alone s.host s.pages) e
sees_alike s (events.Reap q) world none = by_queue (slice_get s.host.host.queues q) refl (grind arith)
  where
    by_queue : (o : Option HostQueue) → slice_get s.host.host.queues q ≡ o → option_map_or (λ queue. is_reaped queue.state) (slice_get s.host.host.queues q) false ≡ true
        → option_map heard_of_entry (seen_entry (state_of s) q) ≡ option_map heard_of_entry (seen_entry (alone s.host s.pages) q)
    by_queue None at has = absurd (true≢false (sym has ∙ ap (λ (o : Option HostQueue). option_map_or (λ queue. is_reaped queue.state) o false) at))
    by_queue (Some h) at has =
        heads_alike (seen_entry (alone s.host s.pages) q) (seen_entry (state_of s) q)
        (seen_alike s world q h at (sym (ap (λ (o : Option HostQueue). option_map_or (λ queue. is_reaped queue.state) o false) at) ∙ has))
sees_alike s e world none = tt

-- the host and the memory that an accepted call leaves are those that the machine leaves, whatever was forged
pub left_bare : (s : Sides) (e : Event) (reply : Reply) (host : HostView) (pages : Pages) → IsWorld s → machine.IsController e ≡ false → forges e ≡ false
    → HostStep s.host s.pages e reply host pages → Accepts (alone s.host s.pages) e reply → alone host pages ≡ bare (after (state_of s) e reply)
left_bare s e reply host pages world c f step ok =
    let just = leaves_just s.host host s.pages pages e reply c step in
    ap₂ alone just.0 just.1 ∙ sym (ap bare (left_alike (state_of s) e reply c f (unreset s.host host s.pages pages e reply step) (sees_alike s e world ok.0) ok.1))

accepted_due : (s : Sides) (e : Event) (reply : Reply) (host : HostView) (pages : Pages) → IsWorld s → machine.IsController e ≡ false → forges e ≡ false
    → HostStep s.host s.pages e reply host pages → controller_part (behind s e reply host pages) ≡ (after (state_of s) e reply).controller → Accepts (alone s.host s.pages) e reply
    → state_of (behind s e reply host pages) ≡ after (state_of s) e reply
accepted_due s e reply host pages world c f step controller ok =
    ap (λ (x : State). record x { controller = controller_part (behind s e reply host pages); trusted = s.trusted }) (left_bare s e reply host pages world c f step ok)
    ∙ ap₂ (λ (d : Controller) (b : Bool). record (after (state_of s) e reply) { controller = d; trusted = b }) controller
    (sym (ap (λ (x : State). x.trusted) (left_alike (state_of s) e reply c f (unreset s.host host s.pages pages e reply step) (sees_alike s e world ok.0) ok.1)))

left_due : (s : Sides) (e : Event) (reply : Reply) (host : HostView) (pages : Pages) → IsWorld s → machine.IsController e ≡ false → forges e ≡ false
    → HostStep s.host s.pages e reply host pages → controller_part (behind s e reply host pages) ≡ (after (state_of s) e reply).controller → state_of (behind s e reply host pages) ≡ after (state_of s) e reply
left_due s e (events.Refused why touched) host pages world c f step controller = refused_leaves s host pages step.2
left_due s e (events.Reserved d) host pages world c f step controller = accepted_due s e (events.Reserved d) host pages world c f step controller (out_of _ (machine.IsController e) c step.1)
left_due s e reply host pages world c f step controller = accepted_due s e reply host pages world c f step controller (out_of _ (machine.IsController e) c step.1)

-- the rings have as many entries as before
accepted_entries : (s : Sides) (e : Event) (reply : Reply) (host : HostView) (pages : Pages) → machine.IsController e ≡ false → HostStep s.host s.pages e reply host pages
    → Accepts (alone s.host s.pages) e reply → host.entries ≡ s.host.entries
accepted_entries s e reply host pages c step ok =
    ap (λ (v : HostView). v.entries) (leaves_just s.host host s.pages pages e reply c step).0 ∙ (host_leaves (alone s.host s.pages) e reply ok c).entries

entries_kept : (s : Sides) (e : Event) (reply : Reply) (host : HostView) (pages : Pages) → machine.IsController e ≡ false → HostStep s.host s.pages e reply host pages → host.entries ≡ s.host.entries
entries_kept s e (events.Refused why touched) host pages c step = ap (λ (x : State). x.entries) step.2
entries_kept s e (events.Reserved d) host pages c step = accepted_entries s e (events.Reserved d) host pages c step (out_of _ (machine.IsController e) c step.1)
entries_kept s e reply host pages c step = accepted_entries s e reply host pages c step (out_of _ (machine.IsController e) c step.1)

pub host_stepped : (s : Sides) (e : Event) (reply : Reply) (host : HostView) (pages : Pages) → IsWorld s → machine.IsController e ≡ false → forges e ≡ false
    → HostStep s.host s.pages e reply host pages → IsOver host pages → (s.trusted ≡ true → Ties s e reply host pages) → StepsTo s e reply (behind s e reply host pages)
host_stepped s e reply host pages world c f step over ties = (
  by_trust s.trusted refl,
  record {
    sides = sides_behind s e reply host pages world.sides c step over;
    recovers = recovery_kept (state_of s) e reply (state_of (behind s e reply host pages)) (by_trust s.trusted refl) (λ t. (tied_of s world t).agree) world.recovers;
    tied = OnTrue_from s.trusted _ (λ t.
        let tie = ties t in
        record {
          queues = subst (λ (n : ℕ). AllQueuesStand n (byte_at pages) zero host.host.queues (heard e reply host s.controller).queues) (sym (entries_kept s e reply host pages c step)) tie.queues;
          walks = subst (λ (k : List FetchedCommand). WalksStand (memory_of pages) k) (sym (commands-heard e reply host s.controller)) tie.walks;
          agree = (step_keeps_agreement (state_of s) e reply (state_of (behind s e reply host pages)) (by_trust s.trusted refl) t).1 (tied_of s world t).agree;
          serve = step_keeps_serving (state_of s) e reply (state_of (behind s e reply host pages)) (by_trust s.trusted refl) t t (tied_of s world t).agree (tied_of s world t).serve;
        });
  },
)
  where
    by_trust : (b : Bool) → s.trusted ≡ b → Step (state_of s) e reply (state_of (behind s e reply host pages))
    by_trust false t = forged_step s e reply host pages t c step world.sides.queues
    by_trust true t = let tie = ties t in (step.0, tie.permits, exactly_left s e reply host pages t f (left_due s e reply host pages world c f step tie.controller))

-- What holds whatever was forged still holds after each call of the controller, which takes no page out and brings none in.
pub record ServesOver (s : Sides) (c : Contents) (pages : Pages) : Type 0 where
  pub leaves : LeavesPages s.pages pages
  pub in_store : map is_some pages ≡ map is_some s.pages
  pub controller : ContentsIsController c
  pub queues : ShareQueues s.host.entries zero s.host.host.queues c.queues
  pub admin : SharesAdmin s.host.entries s.host.host.queues c.queues
  pub image : length c.image ≡ length s.controller.image

pub sides_served : (s : Sides) (c : Contents) (pages : Pages) → AreSides s → ServesOver s c pages → AreSides (served s c pages)
sides_served s c pages sides serves =
    let store : host_part (alone s.host pages) ≡ host_part (alone s.host s.pages) = ap (λ (bits : List Bool). record (host_part (alone s.host s.pages)) { in_store = bits }) serves.in_store in
    -- what is kept speaks of the host's part alone
    let kept = (sound_from_both (alone s.host pages) (subst Both (sym store) (holds_from_sound (alone s.host s.pages) sides.kept, taken_from_out (alone s.host s.pages) sides.kept.out))) in
    record {
      over = record {
        pool = record { few = subst (λ (n : ℕ). n ≤ 65536) (sym serves.leaves.count) sides.over.pool.few; whole = serves.leaves.whole };
        size = serves.leaves.count ∙ sides.over.size;
        out = kept.out;
      };
      sound = sides.sound;
      kept = kept;
      provided = sides.provided;
      controller = serves.controller;
      queues = serves.queues;
      admin = serves.admin;
    }

as_many : (n q : ℕ) (hs : List HostQueue) (cs : List ControllerQueue) → ShareQueues n q hs cs → length cs ≡ length hs
as_many n q [] [] share = refl
as_many n q (h ∷ hs) (c ∷ cs) share = ap suc (as_many n (suc q) hs cs share.1)
as_many n q x y share = absurd share

proper_serve : (e : Event) → machine.IsController e ≡ true → IsProper e
proper_serve (events.Fetch q) c = tt
proper_serve (events.Walk q cid) c = tt
proper_serve (events.Complete q cid) c = tt
proper_serve e c = absurd (true≢false (sym c))

-- a refused call of the controller changes nothing
pub serve_refused : (s : Sides) (e : Event) (why : Refusal) (touched : List ℕ) (c : Contents) (pages : Pages) → IsWorld s → machine.IsController e ≡ true
    → c ≡ s.controller → pages ≡ s.pages → Permits (state_of s) e (events.Refused why touched) → StepsTo s e (events.Refused why touched) (served s c pages)
serve_refused s e why touched c pages world is_controller same_controller same_pages permits =
    subst (λ (x : Sides). StepsTo s e (events.Refused why touched) x) (sym (ap₂ (λ (k : Contents) (m : Pages). served s k m) same_controller same_pages)) ((proper_serve e is_controller, permits, refl), world)

-- An accepted call of the controller: where nothing was forged it leaves the machine's state, and the queues and the walks stand.
pub served_stepped : (s : Sides) (e : Event) (reply : Reply) (c : Contents) (pages : Pages) → IsWorld s → machine.IsController e ≡ true → ServesOver s c pages
    → ((new : State) → Leaves (state_of s) e reply new ≡ MatchBool (not (forges e) && s.trusted) (new ≡ after (state_of s) e reply) (MatchBool (machine.IsController e) (LeavesByController (state_of s) (after (state_of s) e reply) new) (LeavesByHost (state_of s) (after (state_of s) e reply) new)))
    → Permits (state_of s) e reply
    → (s.trusted ≡ true → (state_of (served s c pages) ≡ after (state_of s) e reply) × AllQueuesStand s.host.entries (byte_at pages) zero s.host.host.queues c.queues × WalksStand (memory_of pages) c.commands)
    → StepsTo s e reply (served s c pages)
served_stepped s e reply c pages world is_controller serves accepted permits exact = (
  step,
  record {
    sides = sides_served s c pages world.sides serves;
    recovers = recovery_kept (state_of s) e reply new step (λ t. (tied_of s world t).agree) world.recovers;
    tied = OnTrue_from s.trusted _ (λ t. record {
      queues = (exact t).1;
      walks = (exact t).2;
      agree = (step_keeps_agreement (state_of s) e reply (state_of (served s c pages)) step t).1 (tied_of s world t).agree;
      serve = step_keeps_serving (state_of s) e reply (state_of (served s c pages)) step t t (tied_of s world t).agree (tied_of s world t).serve;
    });
  },
)
  where
    new : State
    new = state_of (served s c pages)

    part : host_part new ≡ host_part (after (state_of s) e reply)
    part = ap (λ (bits : List Bool). record (host_part (state_of s)) { in_store = bits }) serves.in_store ∙ sym (part_controller (state_of s) e reply is_controller)

    open_left : LeavesByController (state_of s) (after (state_of s) e reply) new
    open_left = record {
      part = part;
      pages = serves.leaves.whole;
      controller = record {
        image = serves.image;
        queues = length-controller (byte_at pages) s.host.entries 0 s.host.host.queues c.queues serves.queues
            ∙ as_many s.host.entries 0 s.host.host.queues c.queues serves.queues
            ∙ sym (length-controller (byte_at s.pages) s.host.entries 0 s.host.host.queues s.controller.queues world.sides.queues ∙ as_many s.host.entries 0 s.host.host.queues s.controller.queues world.sides.queues);
      };
    }

    leaves_as_due : (b f k : Bool) → s.trusted ≡ b → machine.IsController e ≡ k → forges e ≡ f
        → MatchBool (not f && b) (new ≡ after (state_of s) e reply) (MatchBool k (LeavesByController (state_of s) (after (state_of s) e reply) new) (LeavesByHost (state_of s) (after (state_of s) e reply) new))
    leaves_as_due b f false t k' f' = absurd (true≢false (sym is_controller ∙ k'))
    leaves_as_due b true true t k' f' = open_left
    leaves_as_due true false true t k' f' = (exact t).0
    leaves_as_due false false true t k' f' = open_left

    step : Step (state_of s) e reply new
    step = (proper_serve e is_controller, permits, subst (λ (X : Type 0). X) (sym (accepted new)) (leaves_as_due s.trusted (forges e) (machine.IsController e) refl refl refl))

-- The host's calls that move the pages of commands alone, where nothing was forged, and its writes of a tail doorbell: no queue of the host changes.

-- The walks stand after each accepted call.
pub walks_behind : (s : Sides) (e : Event) (reply : Reply) (host : HostView) (pages : Pages) → IsWorld s → s.trusted ≡ true → IsController e ≡ false → forges e ≡ false
    → HostStep s.host s.pages e reply host pages → Accepts (alone s.host s.pages) e reply → Accepts (state_of s) e reply → WalksStand (memory_of pages) s.controller.commands
walks_behind s e reply host pages world t c f step ok seen =
    let same : pages ≡ (after (state_of s) e reply).memory =
    (leaves_just s.host host s.pages pages e reply c step).1 ∙ sym (ap (λ (x : State). x.memory) (left_alike (state_of s) e reply c f (unreset s.host host s.pages pages e reply step) (sees_alike s e world ok.0) ok.1)) in
    subst (λ (m : Pages). WalksStand (memory_of m) s.controller.commands) (sym same) (walks_after s e reply world t seen)

-- A call that spares the queues' pages, and leaves the host's queues and the controller as they are.
quiet_ties : (s : Sides) (e : Event) (reply : Reply) (host : HostView) (pages : Pages) → IsWorld s → s.trusted ≡ true → HostStep s.host s.pages e reply host pages
    → IsController e ≡ false → forges e ≡ false → looks_at_completions e ≡ false → heard e reply host s.controller ≡ s.controller
    → (after (alone s.host s.pages) e reply).host.queues ≡ s.host.host.queues → (after (state_of s) e reply).controller ≡ controller_part s
    → Accepts (alone s.host s.pages) e reply → Accepts (state_of s) e reply → Spares s (after (alone s.host s.pages) e reply).memory → Ties s e reply host pages
quiet_ties s e reply host pages world t step c f looks unheard keeps controller ok seen spared =
    let just = leaves_just s.host host s.pages pages e reply c step in
    let queues : host.host.queues ≡ s.host.host.queues = ap (λ (v : HostView). v.host.queues) just.0 ∙ keeps in
    let spares : Spares s pages = subst (λ (m : Pages). Spares s m) (sym just.1) spared in
    record {
      permits = answer_as_machine s e reply host pages c looks step;
      controller = ap (λ (k : Contents). controller_part (record s { host = host; pages = pages; controller = k })) unheard
          ∙ ap (λ (hs : List HostQueue). record (controller_part s) { queues = served_queues_of (byte_at pages) hs s.controller.queues }) queues
          ∙ ap (λ (ds : List ServedQueue). record (controller_part s) { queues = ds }) (queues_stay s pages world t spares)
          ∙ sym controller;
      queues = subst (λ (hs : List HostQueue). AllQueuesStand s.host.entries (byte_at pages) zero hs (heard e reply host s.controller).queues) (sym queues)
          (subst (λ (k : Contents). AllQueuesStand s.host.entries (byte_at pages) zero s.host.host.queues k.queues) (sym unheard) (all_stand_still s pages world t spares));
      walks = walks_behind s e reply host pages world t c f step ok seen;
    }

-- Pages that are no queue's go out and come in.

abbrev Apart : Sides → List ℕ → Type 0
Apart s numbers = (q : ℕ) (h : HostQueue) (p : ℕ) → slice_get s.host.host.queues q ≡ Some h → is_among numbers p ≡ true → (is_among h.sq_pages p ≡ false) × (is_among h.cq_pages p ≡ false)

spares_from : (s : Sides) (pages : Pages) (numbers : List ℕ) → Apart s numbers → ((p : ℕ) → is_among numbers p ≡ false → page_at pages p ≡ page_at s.pages p) → Spares s pages
spares_from s pages numbers apart same q h e =
    let page_stays : (p : ℕ) (b : Bool) → is_among numbers p ≡ b → (is_among numbers p ≡ true → ⊥) → page_at pages p ≡ page_at s.pages p = λ p b x far. grind arith in
    record {
      submission = λ p own. page_stays p (is_among numbers p) refl (λ x. true≢false (sym own ∙ (apart q h p e x).0));
      completion = λ p own. page_stays p (is_among numbers p) refl (λ x. true≢false (sym own ∙ (apart q h p e x).1));
    }

-- a command's pages
command_apart : (s : Sides) → IsWorld s → (q cid : ℕ) (r : Record) (numbers : List ℕ) → record_at s.host.host q cid ≡ Some r → numbers ≡ pages_of r → Apart s numbers
command_apart s world q cid r numbers found same k h p e among =
    commands_apart s world.sides k h r p e (in_found (is_at q cid) s.host.host.records r found) (ap (λ (ps : List ℕ). is_among ps p) (sym same) ∙ among)

-- The calls

pub reserve_ties : (s : Sides) (q : ℕ) (request : Request) (d : DraftContents) (host : HostView) (pages : Pages) → IsWorld s → s.trusted ≡ true
    → HostStep s.host s.pages (events.Reserve q request) (events.Reserved d) host pages → Ties s (events.Reserve q request) (events.Reserved d) host pages
reserve_ties s q request d host pages world t step =
    let out = numbers_of d.data_pages ++ numbers_of d.chain_pages in
    quiet_ties s (events.Reserve q request) (events.Reserved d) host pages world t step refl refl refl refl refl refl step.1 (step.1.0, answers s (events.Reserve q request) (events.Reserved d) refl refl step.1.1)
    (spares_from s _ out (λ k h p at among. free_apart_from_queues s world k h p at (granted p out (step.1.1.free p) among)) (without_elsewhere out s.pages))
  where
    granted : (p : ℕ) (out : List ℕ) → times p out ≡ (if is_among out p && is_among s.host.host.free p then 1 else 0) → is_among out p ≡ true → is_among s.host.host.free p ≡ true
    granted p out is among = by_presence (is_among out p) (is_among s.host.host.free p) is
      where
        by_presence : (a b : Bool) → times p out ≡ (if a && b then 1 else 0) → b ≡ true
        by_presence a true count = refl
        by_presence true false count = absurd (omega (arith, count, held_once p out among))
        by_presence false false count = absurd (omega (arith, count, held_once p out among))

pub cancel_ties : (s : Sides) (d : DraftContents) (host : HostView) (pages : Pages) → IsWorld s → s.trusted ≡ true
    → HostStep s.host s.pages (events.Cancel d) events.Accepted host pages → Ties s (events.Cancel d) events.Accepted host pages
cancel_ties s d host pages world t step =
    let its = is_of_found (alone s.host s.pages) is_drafted d.request d.q d.cid d.data_pages d.chain_pages drafted_away (unrefused (alone s.host s.pages) (events.Cancel d) step.1.0).0 in
    quiet_ties s (events.Cancel d) events.Accepted host pages world t step refl refl refl refl refl refl step.1 step.1
    (spares_from s _ (numbers_of (d.data_pages ++ d.chain_pages)) (command_apart s world d.q d.cid its.0 _ its.1.found its.1.pages) (with-other (d.data_pages ++ d.chain_pages) s.pages))

pub release_ties : (s : Sides) (f : FinishedContents) (host : HostView) (pages : Pages) → IsWorld s → s.trusted ≡ true
    → HostStep s.host s.pages (events.Release f) events.Accepted host pages → Ties s (events.Release f) events.Accepted host pages
release_ties s f host pages world t step =
    let its = is_of_found (alone s.host s.pages) is_collected f.request f.q f.cid f.data_pages f.chain_pages collected_away (unrefused (alone s.host s.pages) (events.Release f) step.1.0).0 in
    quiet_ties s (events.Release f) events.Accepted host pages world t step refl refl refl refl refl refl step.1 step.1
    (spares_from s _ (numbers_of (f.data_pages ++ f.chain_pages)) (command_apart s world f.q f.cid its.0 _ its.1.found its.1.pages) (with-other (f.data_pages ++ f.chain_pages) s.pages))

pub collect_ties : (s : Sides) (q cid : ℕ) (f : FinishedContents) (host : HostView) (pages : Pages) → IsWorld s → s.trusted ≡ true
    → HostStep s.host s.pages (events.Collect q cid) (events.Collects f) host pages → Ties s (events.Collect q cid) (events.Collects f) host pages
collect_ties s q cid f host pages world t step =
    let collects : (u : State) (r : Record) → record_at u.host q cid ≡ Some r
    → after u (events.Collect q cid) (events.Collects f) ≡ on_records (with_record q cid collected) (on_memory (without_pages (pages_of r)) u) = λ u r e.
    rw e refl in
    let its = found (λ r. is_submitted r.phase || is_held r.phase) (alone s.host s.pages) q cid (not-false _ (unrefused (alone s.host s.pages) (events.Collect q cid) step.1.0).0) in
    quiet_ties s (events.Collect q cid) (events.Collects f) host pages world t step refl refl refl refl
    (ap (λ (x : State). x.host.queues) (collects (alone s.host s.pages) its.0 its.1)) (ap (λ (x : State). x.controller) (collects (state_of s) its.0 its.1)) step.1 step.1
    (subst (λ (x : State). Spares s x.memory) (sym (collects (alone s.host s.pages) its.0 its.1))
    (spares_from s _ (pages_of its.0) (command_apart s world q cid its.0 _ its.1 refl) (without_elsewhere (pages_of its.0) s.pages)))

-- The controller's tail doorbell is rung.

abbrev with_rung : ServedQueue → ServedQueue
with_rung at = record at { rung = length at.unfetched }

rung_seen : (s : Sides) (q : ℕ) (h : HostQueue) (c : ControllerQueue) → IsWorld s → s.trusted ≡ true → slice_get s.host.host.queues q ≡ Some h → slice_get s.controller.queues q ≡ Some c
    → served_queue_of (byte_at s.pages) h.ring (with_tail h.ring.tail c) ≡ with_rung (served_queue_of (byte_at s.pages) h.ring c)
rung_seen s q h c world t e f =
    ap (served_queue_of (byte_at s.pages) h.ring) (tails_heard s q h c world.sides e f) ∙ ap (λ (n : ℕ). record (served_queue_of (byte_at s.pages) h.ring c) { rung = n }) (elim (cases_Bool (is_absent c.state)) [ inl there ↦ rw there refl | inr there ↦ rw there (sym (length-unfetched s q h c (known s world t q h c e f) there)) ])

pub ends_in_range : (n from to : ℕ) → to < n → is_in_range n from to to ≡ true
ends_in_range n from to l = grind (arith, nat_tests, l)

rung_stands : (s : Sides) (q : ℕ) (h : HostQueue) (c : ControllerQueue) → IsWorld s → s.trusted ≡ true → slice_get s.host.host.queues q ≡ Some h → slice_get s.controller.queues q ≡ Some c
    → QueueStands s.host.entries (byte_at s.pages) q h (with_tail h.ring.tail c)
rung_stands s q h c world t e f =
    let known' = known s world t q h c e f in
    subst (QueueStands s.host.entries (byte_at s.pages) q h) (sym (tails_heard s q h c world.sides e f))
    (record {
      halves = record { submission = known'.submission; completion = known'.completion };
      rings = λ has.
          let rings = known'.rings has in
          record {
            fetched = rings.fetched;
            rung = ends_in_range c.controller.entries c.controller.ring.head h.ring.tail (in_ring s q h c known').tail;
            heard = rings.heard;
            expected = rings.expected;
            phases = record { stands = rings.phases.stands };
            owned = rings.owned;
            follow = rings.follow;
            drained = rings.drained;
          };
      granted = known'.granted;
    })

pub ring_ties : (s : Sides) (q : ℕ) (host : HostView) (pages : Pages) → IsWorld s → s.trusted ≡ true
    → HostStep s.host s.pages (events.Ring q) events.Accepted host pages → Ties s (events.Ring q) events.Accepted host pages
ring_ties s q host pages world t step =
    let m : Memory = byte_at s.pages in
    let told : heard (events.Ring q) events.Accepted s.host s.controller ≡ tail_rung q its.0.ring.tail s.controller =
    ap (λ (o : Option HostQueue). option_map_or (λ tail. tail_rung q tail s.controller) (option_map (λ h. h.ring.tail) o) s.controller) its.1 in
    let queues : served_queues_of m s.host.host.queues (change q (with_tail its.0.ring.tail) s.controller.queues) ≡ change q with_rung (served_queues_of m s.host.host.queues s.controller.queues) =
    ap (λ (hs : List HostQueue). served_queues_of m hs (change q (with_tail its.0.ring.tail) s.controller.queues)) (sym (unchanged q s.host.host.queues))
    ∙ one_queue m m q (λ h. h) (with_tail its.0.ring.tail) with_rung s.host.host.queues s.controller.queues
    (λ h c e f. same (λ x. served_queue_of m x.ring (with_tail its.0.ring.tail c) ≡ with_rung (served_queue_of m x.ring c)) h e (rung_seen s q its.0 c world t its.1 f))
    (λ i h c other e f. refl) in
    let here : Ties s (events.Ring q) events.Accepted s.host s.pages = record {
      permits = answer_as_machine s (events.Ring q) events.Accepted host pages refl refl step;
      controller = ap (λ (k : Contents). controller_part (record s { controller = k })) told ∙ ap (λ (ds : List ServedQueue). record (controller_part s) { queues = ds }) queues;
      queues = subst (λ (k : Contents). AllQueuesStand s.host.entries m zero s.host.host.queues k.queues) (sym told)
          (subst (λ (hs : List HostQueue). AllQueuesStand s.host.entries m zero hs (change q (with_tail its.0.ring.tail) s.controller.queues)) (unchanged q s.host.host.queues)
          (one_stands s.host.entries m m q (λ h. h) (with_tail its.0.ring.tail) s.host.host.queues s.controller.queues
          (λ h c e f stands. same (λ x. QueueStands s.host.entries m q x (with_tail its.0.ring.tail c)) h e (rung_stands s q its.0 c world t its.1 f))
          (λ i h c other e f stands. stands) (tied_of s world t).queues));
      walks = (tied_of s world t).walks;
    } in
    let just = leaves_just s.host host s.pages pages (events.Ring q) events.Accepted refl step in
    subst (λ (v : HostView). Ties s (events.Ring q) events.Accepted v pages) (sym just.0) (subst (λ (p : Pages). Ties s (events.Ring q) events.Accepted s.host p) (sym just.1) here)
  where
    its : (h : HostQueue) × (slice_get s.host.host.queues q ≡ Some h) × (in_service h.state ≡ true)
    its = queue_found in_service (alone s.host s.pages) q (not-false _ (unrefused (alone s.host s.pages) (events.Ring q) step.1.0).0)

    -- the queue of that number is the one that was found
    same : (P : HostQueue → Type 0) (h : HostQueue) → slice_get s.host.host.queues q ≡ Some h → P its.0 → P h
    same P h e p = let is : its.0 ≡ h = cc (its.1, e) in subst P is p
