-- What the host's events leave at the host does not depend on the controller's part.
use Rattle.std.proofs.Common.{◌≡◌, ℕ, Bool, true, false, not, ◌&&◌, ◌||◌, Option, Some, None, List, [], ◌∷◌, ◌++◌, map, MatchBool, if◌then◌else◌, refl, ap, sym, ◌∙◌, subst, arith, zero}
use Rattle.std.{proofs.lemmas.Bool.true≢false, specs.Option.{option_map_or, option_map}}
use Rattle.entry_codec.specs.{Status.is_success, Submission.submission_bytes, declared.{completion.ComEntry.ComEntry, status.Status.Status, submission.SubEntry.SubEntry}}
use Rattle.entry_codec.specs.declared.hints.{Hints.Hints, TheConstants.Hints.NONE}
use Rattle.admin_commands.specs.{Entries.admin_entry, declared.AdminKind.{AdminKind, TheVariants.{Abort, DeleteSq, DeleteCq, CreateCq, CreateSq}}}
use Rattle.page_memory.proofs.Lists.{some_is}
use Rattle.page_memory.specs.{Pages.{Pages, with_page_bytes}, declared.page.Half.TheVariants.{Submission, Completion}}
use Rattle.machine_model.specs.{Events.{Event, Reply}, Memory.{with_pages, without_pages}}
use Rattle.machine_model.specs.Refusals.{host_queue, seen_entry, refusal_of, slot_page, slot_offset, has_cq_alone}
use Rattle.machine_model.specs.State.{State, Controller, HostQueue, record_at, with_record, without_record, pages_of}
use Rattle.machine_model.specs.Step.{Permits, Refuses, Answers, IsNewIdentifier, IsController, HostPart, host_part, touched_by_refusal, resets, forges}
use Rattle.machine_model.specs.{Work.Work, declared.words.{Phase.TheVariants.Submitted, Reaped.Reaped, Refusal.Refusal, Work.TheVariants.{Io, Management}}}
use Rattle.queue_pair.specs.Rings.{next_tail, knowing}
use Rattle.two_sides.specs.MachineLaws.{hosts_need_no_controller}
use Rattle.host_core.specs.Alone.{nothing}
use Rattle.machine_model.specs.After as a
use Rattle.machine_model.specs.Events as events
use Rattle.machine_model.specs.declared.words.Refusal.TheVariants as refusal
use Rattle.machine_model.specs.declared.words.Reaped.TheVariants as reaped

-- What an event of the host leaves at the host is told by the host's part and the memory, where the same is at the head of the completion ring that is reaped.

-- a state with any part of the controller's, trusted or not
abbrev over : State → Controller → Bool → State
over s d b = record s { controller = d; trusted = b }

abbrev pub bare : State → State
bare s = over s nothing false

-- what is compared: all but the controller's part, and whether a state is trusted
abbrev Seen : Type 0
Seen = State × Bool

abbrev seen : State → Seen
seen s = (bare s, s.trusted)

-- one state leaves what the other does, and is trusted as before
abbrev Alike : Bool → State → State → Type 0
Alike b t u = seen t ≡ (bare u, b)

alike-option : {A : Type 0} (b : Bool) (f g : A → State) (o : Option A) (t u : State) → Alike b t u → ((x : A) → Alike b (f x) (g x)) → Alike b (option_map_or f o t) (option_map_or g o u)
alike-option b f g None t u e each = e
alike-option b f g (Some x) t u e each = each x

alike-if : (b c : Bool) (t t' u u' : State) → Alike b t t' → Alike b u u' → Alike b (if c then t else u) (if c then t' else u')
alike-if b true t t' u u' e e' = e
alike-if b false t t' u u' e e' = e'

-- a queue of the host that is changed afterwards
abbrev with_queue : ℕ → (HostQueue → HostQueue) → Seen → Seen
with_queue q f x = (a.on_host_queue q f x.0, x.1)

alike-posted : (q : ℕ) (entry : SubEntry) (s : State) (d d' : Controller) (b b' : Bool) → Alike b (a.posted q entry (over s d b)) (a.posted q entry (over s d' b'))
alike-posted q entry s d d' b b' =
    let write : HostQueue → Pages → Pages = λ queue m. with_page_bytes m (slot_page queue.sq_pages 64 queue.ring.tail) (slot_offset 64 queue.ring.tail) (submission_bytes entry) in
    ap (with_queue q (λ queue. record queue { ring = next_tail s.entries queue.ring }))
    (alike-option b (λ queue. a.on_memory (write queue) (over s d b)) (λ queue. a.on_memory (write queue) (over s d' b')) (host_queue s q) (over s d b) (over s d' b') refl (λ queue. refl))

alike-freed : (pages : HostQueue → List ℕ) (without : HostQueue → HostQueue) (q : ℕ) (s : State) (d d' : Controller) (b b' : Bool)
    → Alike b (a.half_freed pages without q (over s d b)) (a.half_freed pages without q (over s d' b'))
alike-freed pages without q s d d' b b' =
    alike-option b (λ queue. a.on_host_queue q without (a.given_back (pages queue) (over s d b)))
    (λ queue. a.on_host_queue q without (a.given_back (pages queue) (over s d' b')))
    (host_queue s q) (over s d b) (over s d' b') refl (λ queue. refl)

alike-admin : (adm : AdminKind) (st : Status) (s : State) (d d' : Controller) (b b' : Bool) → Alike b (a.after_admin adm st (over s d b)) (a.after_admin adm st (over s d' b'))
alike-admin (DeleteCq q) st s d d' b b' =
    alike-if b (is_success st && option_map_or (λ queue. has_cq_alone queue.state) (host_queue s q) false)
    (a.half_freed (λ queue. queue.cq_pages) a.gone q (over s d b))
    (a.half_freed (λ queue. queue.cq_pages) a.gone q (over s d' b'))
    (over s d b) (over s d' b')
    (alike-freed (λ queue. queue.cq_pages) a.gone q s d d' b b')
    refl
alike-admin (CreateCq q n base vector) st s d d' b b' =
    alike-if b (is_success st) (a.on_host_queue q a.half_made (over s d b)) (a.on_host_queue q a.half_made (over s d' b'))
    (a.half_freed (λ queue. queue.cq_pages) a.gone q (over s d b)) (a.half_freed (λ queue. queue.cq_pages) a.gone q (over s d' b'))
    refl (alike-freed (λ queue. queue.cq_pages) a.gone q s d d' b b')
alike-admin (CreateSq q n base) st s d d' b b' =
    alike-if b (is_success st) (a.on_host_queue q a.live (over s d b)) (a.on_host_queue q a.live (over s d' b'))
    (a.half_freed (λ queue. queue.sq_pages) a.unmade_sq q (over s d b)) (a.half_freed (λ queue. queue.sq_pages) a.unmade_sq q (over s d' b'))
    refl (alike-freed (λ queue. queue.sq_pages) a.unmade_sq q s d d' b b')
alike-admin x st s d d' b b' = refl

alike-work : (w : Work) (q cid : ℕ) (st : Status) (hints : Hints) (s : State) (d d' : Controller) (b b' : Bool)
    → Alike b (a.after_work w q cid st hints (over s d b)) (a.after_work w q cid st hints (over s d' b'))
alike-work (Io r) q cid st hints s d d' b b' = refl
alike-work (Management adm) q cid st hints s d d' b b' = alike-admin adm st (a.on_records (without_record q cid) s) d d' b b'

-- what a reap tells the host besides its reply
pub record Heard : Type 0 where
  pub head : ℕ
  pub hints : Hints

abbrev pub heard_of_entry : ComEntry → Heard
heard_of_entry e = record { head = e.sqhd; hints = e.hints }

abbrev ends : Work → (q cid : ℕ) → Status → Heard → State → State
ends w q cid st heard s = a.after_work w q cid st heard.hints (a.on_ring q (knowing heard.head) (a.consumed q s))

-- of the completion that is reaped only that matters
alike-heard : (w : Work) (q cid : ℕ) (st : Status) (s : State) (d d' : Controller) (b b' : Bool) (o o' : Option ComEntry) → option_map heard_of_entry o ≡ option_map heard_of_entry o'
    → Alike b (option_map_or (λ e. a.after_work w q cid st e.hints (a.heard q e (over s d b))) o (over s d b)) (option_map_or (λ e. a.after_work w q cid st e.hints (a.heard q e (over s d' b'))) o' (over s d' b'))
alike-heard w q cid st s d d' b b' None None same = refl
alike-heard w q cid st s d d' b b' (Some e) (Some e') same =
    let one : heard_of_entry e ≡ heard_of_entry e' = some_is same in
    let hears : State → State = λ t. a.on_ring q (knowing e.sqhd) (a.consumed q t) in
    subst (λ (heard : Heard). Alike b (ends w q cid st (heard_of_entry e) (over s d b)) (ends w q cid st heard (over s d' b'))) one
    (alike-work w q cid st e.hints (hears s) (hears (over s d b)).controller (hears (over s d' b')).controller b b')
alike-heard w q cid st s d d' b b' x y same = absurd cc

alike-done : (q cid : ℕ) (st : Status) (s : State) (d d' : Controller) (b b' : Bool) (o o' : Option ComEntry) → option_map heard_of_entry o ≡ option_map heard_of_entry o'
    → Alike b (option_map_or (λ r. option_map_or (λ e. a.after_work r.work q cid st e.hints (a.heard q e (over s d b))) o (over s d b)) (record_at s.host q cid) (over s d b))
    (option_map_or (λ r. option_map_or (λ e. a.after_work r.work q cid st e.hints (a.heard q e (over s d' b'))) o' (over s d' b')) (record_at s.host q cid) (over s d' b'))
alike-done q cid st s d d' b b' o o' same =
    alike-option b (λ r. option_map_or (λ e. a.after_work r.work q cid st e.hints (a.heard q e (over s d b))) o (over s d b))
    (λ r. option_map_or (λ e. a.after_work r.work q cid st e.hints (a.heard q e (over s d' b'))) o' (over s d' b')) (record_at s.host q cid) (over s d b) (over s d' b') refl
    (λ r. alike-heard r.work q cid st s d d' b b' o o' same)

alike-reap : (q : ℕ) (what : Reaped) (s : State) (d d' : Controller) (b b' : Bool) → option_map heard_of_entry (seen_entry (over s d b) q) ≡ option_map heard_of_entry (seen_entry (over s d' b') q)
    → Alike b (a.after_reap q what (over s d b)) (a.after_reap q what (over s d' b'))
alike-reap q (reaped.Done cid st) s d d' b b' same = alike-done q cid st s d d' b b' (seen_entry (over s d b) q) (seen_entry (over s d' b') q) same
alike-reap q (reaped.AdminDone cid st dw0) s d d' b b' same = alike-done q cid st s d d' b b' (seen_entry (over s d b) q) (seen_entry (over s d' b') q) same
alike-reap q what s d d' b b' same = refl

alike-sent : (adm : AdminKind) (id : ℕ) (entry : SubEntry) (s : State) (d d' : Controller) (b b' : Bool) → Alike b (a.sent adm id entry (over s d b)) (a.sent adm id entry (over s d' b'))
alike-sent adm id entry s d d' b b' =
    alike-posted 0 entry (a.on_records (λ records. records ++ record { q = 0; cid = id; phase = Submitted; work = Management adm; data_pages = []; chain_pages = []; status = None; hints = NONE } ∷ []) s) d d' b b'

-- the same is at the head of the ring that an event reaps
abbrev pub SeesAlike : State → State → Event → Type 0
SeesAlike t u (events.Reap q) = option_map heard_of_entry (seen_entry t q) ≡ option_map heard_of_entry (seen_entry u q)
SeesAlike t u e = Unit {0}

alike_after : (s : State) (d d' : Controller) (b b' : Bool) (e : Event) (reply : Reply) → IsController e ≡ false → forges e ≡ false → resets e ≡ false → SeesAlike (over s d b) (over s d' b') e → Answers (over s d' b') e reply
    → Alike b (a.after (over s d b) e reply) (a.after (over s d' b') e reply)
alike_after s d d' b b' e (events.Refused why touched) c f z sees ok = refl
alike_after s d d' b b' (events.Reserve q r) (events.Reserved dr) c f z sees ok = refl
alike_after s d d' b b' (events.Submit dr) events.Accepted c f z sees ok =
    let with : State → State = λ t. a.on_records (with_record dr.q dr.cid a.submitted) (a.on_memory (with_pages (dr.data_pages ++ dr.chain_pages)) t) in
    alike-option b (λ entry. a.posted dr.q entry (with (over s d b))) (λ entry. a.posted dr.q entry (with (over s d' b'))) dr.entry (over s d b) (over s d' b') refl
    (λ entry. alike-posted dr.q entry (with s) d d' b b')
alike_after s d d' b b' (events.Cancel dr) events.Accepted c f z sees ok = refl
alike_after s d d' b b' (events.Ring q) events.Accepted c f z sees ok = refl
alike_after s d d' b b' (events.Reap q) (events.Reaps what) c f z sees ok = alike-reap q what s d d' b b' sees
alike_after s d d' b b' (events.Collect q cid) (events.Collects fin) c f z sees ok =
    alike-option b (λ r. a.on_records (with_record q cid a.collected) (a.on_memory (without_pages (pages_of r)) (over s d b)))
    (λ r. a.on_records (with_record q cid a.collected) (a.on_memory (without_pages (pages_of r)) (over s d' b')))
    (record_at s.host q cid) (over s d b) (over s d' b') refl (λ r. refl)
alike_after s d d' b b' (events.Release fin) events.Accepted c f z sees ok = refl
alike_after s d d' b b' (events.Abort q cid) (events.Sent id) c f z sees ok = alike-sent (Abort q cid) id (admin_entry (Abort q cid) id) s d d' b b'
alike_after s d d' b b' (events.DeleteSq q) (events.Sent id) c f z sees ok = ap (with_queue q a.deleting) (alike-sent (DeleteSq q) id (admin_entry (DeleteSq q) id) s d d' b b')
alike_after s d d' b b' (events.DeleteCq q) (events.Sent id) c f z sees ok = alike-sent (DeleteCq q) id (admin_entry (DeleteCq q) id) s d d' b b'
alike_after s d d' b b' (events.CreateCq q vector) (events.Sent id) c f z sees ok =
    let pages = a.half_run Completion s in
    let kind : AdminKind = CreateCq q s.entries (a.base_of pages) vector in
    alike-sent kind id (admin_entry kind id) (a.on_host_queue q (a.making_cq pages) (a.half_granted pages s)) d d' b b'
alike_after s d d' b b' (events.CreateSq q) (events.Sent id) c f z sees ok =
    let pages = a.half_run Submission s in
    let kind : AdminKind = CreateSq q s.entries (a.base_of pages) in
    alike-sent kind id (admin_entry kind id) (a.on_host_queue q (a.making_sq pages) (a.half_granted pages s)) d d' b b'
alike_after s d d' b b' (events.Retire q) events.Accepted c f z sees ok =
    let lost : State → State = λ t. a.on_records (λ records. map (a.lost q) records) t in
    alike-option b (λ queue. a.on_host_queue q a.retired (a.given_back queue.sq_pages (lost (over s d b))))
    (λ queue. a.on_host_queue q a.retired (a.given_back queue.sq_pages (lost (over s d' b'))))
    (host_queue s q) (lost (over s d b)) (lost (over s d' b')) refl (λ queue. refl)
alike_after s d d' b b' (events.Forge q slot bytes) reply c f z sees ok = absurd (true≢false f)
alike_after s d d' b b' events.Reset reply c f z sees ok = absurd (true≢false z)
alike_after s d d' b b' (events.Fetch q) reply c f z sees ok = absurd (true≢false c)
alike_after s d d' b b' (events.Walk q cid) reply c f z sees ok = absurd (true≢false c)
alike_after s d d' b b' (events.Complete q cid) reply c f z sees ok = absurd (true≢false c)
alike_after s d d' b b' e reply c f z sees ok = absurd ok

-- So a state is known after an event by what the host alone leaves, and by the controller's part.
pub left_alike : (s : State) (e : Event) (reply : Reply) → IsController e ≡ false → forges e ≡ false → resets e ≡ false → SeesAlike s (bare s) e → Answers (bare s) e reply
    → a.after s e reply ≡ record (a.after (bare s) e reply) { controller = (a.after s e reply).controller; trusted = s.trusted }
left_alike s e reply c f z sees ok =
    ap (λ (x : Seen). record x.0 { controller = (a.after s e reply).controller; trusted = x.1 }) (alike_after s s.controller nothing s.trusted false e reply c f z sees ok)

-- Once something was forged, nothing in the controller's part affects the host's events.

abbrev left_of : State → HostPart × Pages
left_of s = (host_part s, s.memory)

sees_blind : (s : State) (d d' : Controller) (e : Event) → SeesAlike (over s d false) (over s d' false) e
sees_blind s d d' (events.Reap q) = refl
sees_blind s d d' e = tt

alike_blind : (s : State) (d d' : Controller) (e : Event) (reply : Reply) → IsController e ≡ false → resets e ≡ false → Answers (over s d' false) e reply → Alike false (a.after (over s d false) e reply) (a.after (over s d' false) e reply)
alike_blind s d d' e (events.Refused why touched) c z ok = refl
alike_blind s d d' (events.Forge q slot bytes) events.Accepted c z ok =
    let forged : State → HostQueue → State = λ t queue. record (a.on_memory (λ m. with_page_bytes m (slot_page queue.cq_pages 16 slot) (slot_offset 16 slot) bytes) t) { trusted = false } in
    alike-option false (forged (over s d false)) (forged (over s d' false)) (host_queue s q) (over s d false) (over s d' false) refl (λ queue. refl)
alike_blind s d d' (events.Forge q slot bytes) reply c z ok = absurd ok
alike_blind s d d' e reply c z ok = alike_after s d d' false false e reply c refl z (sees_blind s d d' e) ok

-- and its answers are the same

same_refusal : (s : State) (d d' : Controller) (e : Event) → IsController e ≡ false → refusal_of (over s d false) e ≡ refusal_of (over s d' false) e
same_refusal s d d' e c = grind arith

same_touch : (s : State) (d d' : Controller) (e : Event) (why : Refusal) → IsController e ≡ false → touched_by_refusal (over s d false) e why ≡ touched_by_refusal (over s d' false) e why
same_touch s d d' e why c = grind arith

refuses_same : (s : State) (d d' : Controller) (e : Event) (why : Refusal) (touched : List ℕ) → IsController e ≡ false → Refuses (over s d false) e why touched → Refuses (over s d' false) e why touched
refuses_same s d d' e refusal.Memory touched c h = (h.0, sym (same_refusal s d d' e c) ∙ h.1, h.2 ∙ same_touch s d d' e refusal.Memory c)
refuses_same s d d' e why touched c h = (sym (same_refusal s d d' e c) ∙ h.0, h.1 ∙ same_touch s d d' e why c)

new_same : (s : State) (d d' : Controller) (q cid : ℕ) → IsNewIdentifier (over s d false) q cid → IsNewIdentifier (over s d' false) q cid
new_same s d d' q cid h = record { in_range = h.in_range; unused = h.unused }

answers_same : (s : State) (d d' : Controller) (e : Event) (reply : Reply) → IsController e ≡ false → Answers (over s d false) e reply → Answers (over s d' false) e reply
answers_same s d d' (events.Reserve q r) (events.Reserved dr) c h =
    record { queue = h.queue; request = h.request; segment = h.segment; identifier = new_same s d d' q dr.cid h.identifier; data_pages = h.data_pages; chain_pages = h.chain_pages; free = h.free; zero = h.zero; not_built = h.not_built }
answers_same s d d' (events.Abort q cid) (events.Sent id) c h = new_same s d d' 0 id h
answers_same s d d' (events.DeleteSq q) (events.Sent id) c h = new_same s d d' 0 id h
answers_same s d d' (events.DeleteCq q) (events.Sent id) c h = new_same s d d' 0 id h
answers_same s d d' (events.CreateCq q vector) (events.Sent id) c h = new_same s d d' 0 id h
answers_same s d d' (events.CreateSq q) (events.Sent id) c h = new_same s d d' 0 id h
answers_same s d d' (events.Fetch q) reply c h = absurd (true≢false c)
answers_same s d d' (events.Walk q cid) reply c h = absurd (true≢false c)
answers_same s d d' (events.Complete q cid) reply c h = absurd (true≢false c)
answers_same s d d' e reply c h = h

pub out_of : {A : Type 0} (B : Type 0) (c : Bool) → c ≡ false → MatchBool (false || not c) A B → A
out_of B true e h = absurd (true≢false e)
out_of B false e h = h

into : {A : Type 0} (B : Type 0) (c : Bool) → c ≡ false → A → MatchBool (false || not c) A B
into B true e h = absurd (true≢false e)
into B false e h = h

permits_same : (s : State) (d d' : Controller) (e : Event) (reply : Reply) → IsController e ≡ false → Permits (over s d false) e reply
    → Permits (over s d' false) e reply × (left_of (a.after (over s d false) e reply) ≡ left_of (a.after (over s d' false) e reply))
permits_same s d d' e (events.Refused why touched) c h = (into _ (IsController e) c (refuses_same s d d' e why touched c (out_of _ (IsController e) c h)), refl)
permits_same s d d' e (events.Reserved dr) c h =
    let ok = out_of _ (IsController e) c h in
    (into _ (IsController e) c (sym (same_refusal s d d' e c) ∙ ok.0, answers_same s d d' e (events.Reserved dr) c ok.1), grind arith)
permits_same s d d' e reply c h =
    let ok = out_of _ (IsController e) c h in
    (into _ (IsController e) c (sym (same_refusal s d d' e c) ∙ ok.0, answers_same s d d' e reply c ok.1), grind arith)

pub blind : hosts_need_no_controller
blind s d e reply t c h =
    let here : over s s.controller false ≡ s = ap (λ b. record s { trusted = b }) (sym t) in
    let there : over s d false ≡ record s { controller = d } = ap (λ b. record s { trusted = b; controller = d }) (sym t) in
    let both = permits_same s s.controller d e reply c (subst (λ (x : State). Permits x e reply) (sym here) h) in
    let same : left_of (a.after (record s { controller = d }) e reply) ≡ left_of (a.after s e reply) =
    sym (ap (λ (x : State). left_of (a.after x e reply)) there) ∙ sym both.1 ∙ ap (λ (x : State). left_of (a.after x e reply)) here in
    (subst (λ (x : State). Permits x e reply) there both.0, ap (λ (x : HostPart × Pages). x.0) same, ap (λ (x : HostPart × Pages). x.1) same)
