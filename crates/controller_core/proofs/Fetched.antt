-- What a fetch makes of an entry that it looked at.
use Rattle.std.proofs.Common.{◌≡◌, ◌≢◌, ℕ, ◌<◌, ◌+◌, ◌*◌, ◌++◌, ◌==◌, replicate, take, drop, arith, length-append, IfSome, slice_get, inl, inr, ◌||◌, ◌&&◌, not, Bool, true, false, Option, Some, None, List, length, Result, Ok, Err, find, is_some, if◌then◌else◌, refl, ap, sym, ◌∙◌, subst, true≢false}
use Rattle.std.proofs.lemmas.{Bool.{cases_Bool, or_parts}, List.{length-take-le, length-drop, length-replicate}, Option.none-some}
use Rattle.std.specs.{Option.option_and_then, Result.{IsErr, IsErrAnd}}
use Rattle.admin_commands.specs.Verdicts.{is_live}
use Rattle.block_image.specs.Blocks.{IsPart, block_count, shown}
use Rattle.entry_codec.specs.declared.submission.SubEntry.{SubEntry}
use Rattle.io_commands.specs.Jobs.{JobContents, lacks_read}
use Rattle.page_memory.{proofs.Lists.some_is, specs.Memory.Memory}
use Rattle.queue_pair.specs.Memory.{entry_at}
use Rattle.queue_pair.specs.Rings.{ControllerSide}
use Rattle.controller_core.proofs.Awaited.{begun_fits, looked_there}
use Rattle.controller_core.specs.Contents.{Contents, IsController, AreCommands, FitsWork, is_command}
use Rattle.controller_core.specs.Fetching.{LooksAt, Begins, IsBegun, FetchesTo, Fetches, Takes, TakesIn, RefusedBy, entry_refusal, is_known, live_side, look_refusal, rung_entry, begun}
use Rattle.controller_core.specs.Lending.{with_image, IsRefusedAfterLook, entry_lacked, fetch_lacked, not_lent}
use Rattle.controller_core.specs.declared.{command.FetchedWork.TheVariants.Io, queue.ControllerQueue.ControllerQueue, refusal.ControllerRefusal.ControllerRefusal}
use Rattle.controller_core.specs.declared.refusal.ControllerRefusal.TheVariants as refusal

-- an entry that is taken at once
pub taken_fetch : (pages pages' : ℕ) (c c' : Contents) (m m' m'' : Memory) (q : ℕ) (e : SubEntry) (reached looked reached' : List ℕ) → LooksAt c m reached q e looked → m' ≡ m → pages' ≡ pages
    → entry_refusal c m' q e ≡ None → Takes (is_known c q e) c pages' q e m' looked c' m'' reached' → FetchesTo c pages m reached q e.cid c' m'' reached'
taken_fetch pages pages' c c' m m' m'' q e reached looked reached' looks em ep room takes =
    record {
      entry = e;
      looked = looked;
      looks = looks;
      named = refl;
      room = subst (λ (n : Memory). entry_refusal c n q e ≡ None) em room;
      takes = subst (λ (n : Memory). Takes (is_known c q e) c pages q e n looked c' m'' reached') em
          (subst (λ (p : ℕ). Takes (is_known c q e) c p q e m' looked c' m'' reached') ep takes);
    }

-- one that begins a job
pub begun_fetch : (pages : ℕ) (c c1 c' : Contents) (m m' m'' : Memory) (q : ℕ) (e : SubEntry) (reached looked reached' : List ℕ) (job : JobContents) (image : List ℕ) → LooksAt c m reached q e looked → m' ≡ m
    → (is_known c q e || (q == 0)) ≡ false → c1 ≡ c → m'' ≡ m' → reached' ≡ looked → IsBegun image e job → image ≡ c1.image → c' ≡ begun q job c1 → FetchesTo c pages m reached q e.cid c' m'' reached'
begun_fetch pages c c1 c' m m' m'' q e reached looked reached' job image looks em none ec em' er is ei leaves =
    let parts = or_parts (is_known c q e) (q == 0) none in
    let own : IsBegun c.image e job = subst (λ (i : List ℕ). IsBegun i e job) (ei ∙ ap (λ (x : Contents). x.image) ec) is in
    let begins : Begins c q e c' = record { job = job; is = own; leaves = leaves ∙ ap (begun q job) ec } in
    record {
      entry = e;
      looked = looked;
      looks = looks;
      named = refl;
      room = rw (parts.0) refl;
      takes = subst (λ (b : Bool). Takes b c pages q e m looked c' m'' reached') (sym parts.0)
          (subst (λ (b : Bool). TakesIn b c pages q e c') (sym parts.1) begins, em' ∙ em, er);
    }

-- and one that is refused
pub refused_fetch : (c c' : Contents) (m m' m'' : Memory) (q : ℕ) (e : SubEntry) (reached looked reached' : List ℕ) (why : ControllerRefusal) → None ≡ look_refusal c m q → LooksAt c m reached q e looked → m' ≡ m
    → IsRefusedAfterLook c m' q e why → c' ≡ c → m'' ≡ m' → reached' ≡ looked → RefusedBy (look_refusal c m q) c m reached q why reached' × (c' ≡ c) × (m'' ≡ m)
refused_fetch c c' m m' m'' q e reached looked reached' why none looks em cause ec em' er = (
  subst (λ (o : Option ControllerRefusal). RefusedBy o c m reached q why reached') none
      (record { entry = e; looks = subst (LooksAt c m reached q e) (sym er) looks; cause = subst (λ (n : Memory). IsRefusedAfterLook c n q e why) em cause }),
  ec,
  em' ∙ em,
)

-- memory is wanted for a command whose identifier is unknown
pub memory_refused : (c : Contents) (m : Memory) (q : ℕ) (e : SubEntry) → (is_known c q e || (q == 0)) ≡ false → IsRefusedAfterLook c m q e refusal.Memory
memory_refused c m q e none = let parts = or_parts (is_known c q e) (q == 0) none in rw (parts.0) refl

-- the same of the answer that it is
pub err_fetch : (r : Result ℕ ControllerRefusal) (pages : ℕ) (c c' : Contents) (m m' : Memory) (q : ℕ) (reached reached' : List ℕ) (why : ControllerRefusal) → IsErr r → IsErrAnd r (λ given. given ≡ why)
    → RefusedBy (look_refusal c m q) c m reached q why reached' × (c' ≡ c) × (m' ≡ m) → Fetches c pages m reached q r c' m' reached'
err_fetch (Ok cid) pages c c' m m' q reached reached' why err is refused = absurd (true≢false (sym err))
err_fetch (Err given) pages c c' m m' q reached reached' why err is refused = subst (λ (w : ControllerRefusal). Fetches c pages m reached q (Err w) c' m' reached') (sym is) refused

-- Over blocks that are lent

pub sound_over : (c : Contents) (image : List ℕ) → block_count image ≡ block_count c.image → IsController c → IsController (with_image c image)
sound_over c image same is = record { commands = subst (λ (n : ℕ). AreCommands n (length c.queues) c.commands) (sym same) is.commands; awaited = is.awaited }

pub looks_over : (c : Contents) (image : List ℕ) (m : Memory) (reached : List ℕ) (q : ℕ) (e : SubEntry) (reached' : List ℕ) → LooksAt c m reached q e reached' → LooksAt (with_image c image) m reached q e reached'
looks_over c image m reached q e reached' looks = record { controller = looks.controller; here = looks.here; rung = looks.rung; at = looks.at; touches = looks.touches }

pub takes_over : (b : Bool) (c c' : Contents) (image : List ℕ) (pages q : ℕ) (e : SubEntry) (m m' : Memory) (looked reached' : List ℕ) → (b || (q == 0)) ≡ true
    → Takes b c pages q e m looked c' m' reached' → Takes b (with_image c image) pages q e m looked (with_image c' image) m' reached'
takes_over true c c' image pages q e m m' looked reached' at_once takes = (takes.0, takes.1, refl)
takes_over false c c' image pages q e m m' looked reached' at_once takes =
    let zeroth : TakesIn true c pages q e c' = subst (λ (b : Bool). TakesIn b c pages q e c') at_once takes.0 in
    (subst (λ (b : Bool). TakesIn b (with_image c image) pages q e (with_image c' image)) (sym at_once) (ap (λ (x : Contents). with_image x image) zeroth), takes.1, takes.2)

-- What a fetch lacks

rung_is : (c : Contents) (m : Memory) (reached : List ℕ) (q : ℕ) (e : SubEntry) (reached' : List ℕ) → LooksAt c m reached q e reached' → rung_entry c m q ≡ Some e
rung_is c m reached q e reached' looks = ap (option_and_then (λ (controller : ControllerSide). entry_at m controller.sq controller.ring.head)) looks.here ∙ looks.at

pub unlooked_lacks : (at_hand : ℕ → ℕ → Bool) (c : Contents) (m : Memory) (q : ℕ) (why : ControllerRefusal) → Some why ≡ look_refusal c m q → None ≡ fetch_lacked at_hand c m q
unlooked_lacks at_hand c m q why is = ap (λ (o : Option ControllerRefusal). if is_some o then None else option_and_then (entry_lacked at_hand c q) (rung_entry c m q)) is

pub looked_lacks : (at_hand : ℕ → ℕ → Bool) (c : Contents) (m : Memory) (reached : List ℕ) (q : ℕ) (e : SubEntry) (reached' : List ℕ) → None ≡ look_refusal c m q → LooksAt c m reached q e reached' → fetch_lacked at_hand c m q ≡ entry_lacked at_hand c q e
looked_lacks at_hand c m reached q e reached' none looks =
    sym (ap (λ (o : Option ControllerRefusal). if is_some o then None else option_and_then (entry_lacked at_hand c q) (rung_entry c m q)) none) ∙ ap (option_and_then (entry_lacked at_hand c q)) (rung_is c m reached q e reached' looks)

pub at_once_lacks : (at_hand : ℕ → ℕ → Bool) (c : Contents) (m : Memory) (reached : List ℕ) (q : ℕ) (e : SubEntry) (reached' : List ℕ) → None ≡ look_refusal c m q → LooksAt c m reached q e reached' → (is_known c q e || (q == 0)) ≡ true
    → None ≡ fetch_lacked at_hand c m q
at_once_lacks at_hand c m reached q e reached' none looks at_once =
    sym (looked_lacks at_hand c m reached q e reached' none looks ∙ ap (λ (b : Bool). if not b && lacks_read at_hand (block_count c.image) e then Some (not_lent e) else None) at_once)

pub job_lacks : (at_hand : ℕ → ℕ → Bool) (c : Contents) (m : Memory) (reached : List ℕ) (q : ℕ) (e : SubEntry) (reached' : List ℕ) (lacks : Bool) (blocks : ℕ) → None ≡ look_refusal c m q → LooksAt c m reached q e reached'
    → (is_known c q e || (q == 0)) ≡ false → blocks ≡ block_count c.image → lacks ≡ lacks_read at_hand blocks e → (if lacks then Some (not_lent e) else None) ≡ fetch_lacked at_hand c m q
job_lacks at_hand c m reached q e reached' lacks blocks none looks job same is =
    sym (looked_lacks at_hand c m reached q e reached' none looks
    ∙ ap (λ (b : Bool). if not b && lacks_read at_hand (block_count c.image) e then Some (not_lent e) else None) job
    ∙ ap (λ (b : Bool). if b then Some (not_lent e) else None) (ap (λ (n : ℕ). lacks_read at_hand n e) (sym same) ∙ sym is))

-- a job that an entry begins can be kept

pub record CanKeep (c : Contents) (q : ℕ) (job : JobContents) : Type 0 where
  pub there : q < length c.queues
  pub rung : IfSome (slice_get c.queues q) (λ queue. queue.controller.ring.head ≢ queue.controller.ring.bell)
  pub unknown : is_some (find (is_command q job.entry.cid) c.commands) ≡ false
  pub fits : FitsWork (block_count c.image) q 0 (Io job)

rung_by : (o : Option ControllerQueue) (side : ControllerSide) → live_side o ≡ Some side → side.ring.head ≢ side.ring.bell → IfSome o (λ queue. queue.controller.ring.head ≢ queue.controller.ring.bell)
rung_by None side is rung = tt
rung_by (Some queue) side is rung = elim (cases_Bool (is_live queue.state)) [
  | inl live ↦ (let same : queue.controller ≡ side = some_is (rw live at is) in subst (λ (s : ControllerSide). s.ring.head ≢ s.ring.bell) (sym same) rung)
  | inr not_live ↦ absurd (none-some side (rw not_live at is))
]

pub can_keep : (c c1 : Contents) (m : Memory) (reached : List ℕ) (q : ℕ) (e : SubEntry) (reached' : List ℕ) (job : JobContents) (image : List ℕ) → LooksAt c m reached q e reached' → (is_known c q e || (q == 0)) ≡ false → c1 ≡ c
    → IsBegun image e job → block_count image ≡ block_count c1.image → CanKeep c1 q job
can_keep c c1 m reached q e reached' job image looks none ec is same =
    let parts = or_parts (is_known c q e) (q == 0) none in
    let unknown : is_some (find (is_command q e.cid) c1.commands) ≡ false = subst (λ (x : Contents). is_some (find (is_command q e.cid) x.commands) ≡ false) (sym ec) parts.0 in
    record {
      there = subst (λ (x : Contents). q < length x.queues) (sym ec) (looked_there c m reached q e reached' looks);
      rung = subst (λ (x : Contents). IfSome (slice_get x.queues q) (λ queue. queue.controller.ring.head ≢ queue.controller.ring.bell)) (sym ec)
          (rung_by (slice_get c.queues q) looks.controller looks.here looks.rung);
      unknown = subst (λ (x : SubEntry). is_some (find (is_command q x.cid) c1.commands) ≡ false) (sym is.entry) unknown;
      fits = begun_fits image (block_count c1.image) q e job is same parts.1;
    }

-- what is lent is of as many blocks as it says
pub lent_count : (blocks first : ℕ) (lent : List ℕ) → IsPart blocks first lent → block_count (shown blocks first lent) ≡ blocks
lent_count blocks first lent part =
    let zeros : List ℕ = replicate (512 * blocks) 0 in
    let front : List ℕ = take (512 * first) zeros in
    omega (
      arith,
      part.inside,
      part.whole,
      length-append (front ++ lent) (drop (512 * first + length lent) zeros),
      length-append front lent,
      length-take-le (512 * first) zeros (omega (arith, part.inside, length-replicate {A = ℕ} (512 * blocks) 0)),
      length-drop (512 * first + length lent) zeros,
      length-replicate {A = ℕ} (512 * blocks) 0,
    )
