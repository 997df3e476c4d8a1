-- A command that was just collected can be released, where none was collected under its name before.
use Rattle.std.proofs.Common.{◌≡◌, ℕ, ◌==◌, Bool, true, false, not, List, [], ◌∷◌, ◌++◌, Option, Some, None, refl, sym, ap, ◌∙◌, subst, nat_eq, eq-eqb, eqb-true, if◌then◌else◌}
use Rattle.std.proofs.lemmas.{Bool.{true≢false, and_parts}, Option.{none-some}}
use Rattle.std.specs.{Cmp.Lexicographic.pointwise, List.list_any, Option.{option_map, option_map_or, option_and_then}, Prelude.{find}, Bool.beq}
use Rattle.controller_walk.specs.Units.{first_passing}
use Rattle.entry_codec.specs.declared.{hints.Hints.Hints, status.Status.Status}
use Rattle.io_commands.specs.{Admin.{same_command, same_use}, Asked.Request, BlockSizes.block_bytes, Requests.{same_kind}, Values.{FinishedContents, numbers_of}}
use Rattle.io_commands.specs.declared.{admin.{AdminCommand.AdminCommand, PageUse.{PageUse, TheVariants.{Nothing, In, Out}}}, request.{Kind.{Kind, TheVariants.{Read, Write, Compare, WriteZeroes, Verify, Flush, Deallocate, Admin}}, Piece.{Piece, TheVariants.{Data, Bucket}}}}
use Rattle.machine_model.proofs.Steps.{part_left, surely}
use Rattle.machine_model.proofs.Tokens.{find_map}
use Rattle.machine_model.specs.{After.collected, Commands.Work, declared.words.{Refusal.Refusal, Work.TheVariants.{Io, Management}}, Refusals.{asks_for, is_collected, is_of, record_is, refusal_of, same_piece, same_pieces, same_request}, Script.{Table, finished_at, is_finished, is_ticket}, State.{Record, State, is_at, record_at, with_record}}
use Rattle.machine_model.specs.Step.{HostPart, Step, asked_by, finished_from, pages_with_bytes, Refuses}
use Rattle.nvmesgl_c.specs.MachineWhole.{is_accepted}
use Rattle.page_memory.specs.Pages.{Pages}
use Rattle.machine_model.specs.After as a
use Rattle.machine_model.specs.Events as events
use Rattle.machine_model.specs.declared.words.Refusal.TheVariants as refusal
use Rattle.step_core.specs.Values.{Reply}
use Rattle.step_core.specs.Bench as bench
use Rattle.step_core.specs.declared.step.Reply.TheVariants as reply
use Rattle.step_core.specs.declared.step.Step.TheVariants as step

-- What is compared with itself is the same

nat_itself : (n : ℕ) → (n == n) ≡ true
nat_itself n = eq-eqb n n refl

bool_itself : (b : Bool) → beq b b ≡ true
bool_itself true = refl
bool_itself false = refl

use_itself : (page : PageUse) → same_use page page ≡ true
use_itself Nothing = refl
use_itself In = refl
use_itself Out = refl

command_itself : (c : AdminCommand) → same_command c c ≡ true
command_itself c = rw (nat_itself c.opcode, use_itself c.page, nat_itself c.cdw10, nat_itself c.cdw11, nat_itself c.cdw12, nat_itself c.cdw13, nat_itself c.cdw14, nat_itself c.cdw15) refl

kind_itself : (k : Kind) → same_kind k k ≡ true
kind_itself Read = refl
kind_itself Write = refl
kind_itself Compare = refl
kind_itself WriteZeroes = refl
kind_itself Verify = refl
kind_itself Flush = refl
kind_itself Deallocate = refl
kind_itself (Admin c) = command_itself c

piece_itself : (p : Piece) → same_piece p p ≡ true
piece_itself (Data offset len) = rw (nat_itself offset, nat_itself len) refl
piece_itself (Bucket len) = nat_itself len

pieces_itself : (ps : List Piece) → same_pieces ps ps ≡ true
pieces_itself [] = refl
pieces_itself (p ∷ ps) = rw (piece_itself p, pieces_itself ps) refl

request_itself : (r : Request) → same_request r r ≡ true
request_itself r =
    rw (kind_itself r.kind, nat_itself r.nsid, bool_itself r.flags.force_unit_access, bool_itself r.flags.limited_retry, nat_itself r.slba, nat_itself (block_bytes r.block_size), nat_itself r.blocks, pieces_itself r.pieces) refl

numbers_itself : (xs : List ℕ) → pointwise nat_eq xs xs ≡ true
numbers_itself [] = refl
numbers_itself (x ∷ xs) = rw (nat_itself x, numbers_itself xs) refl

numbers_kept : (m : Pages) (ps : List ℕ) → numbers_of (pages_with_bytes m ps) ≡ ps
numbers_kept m [] = refl
numbers_kept m (p ∷ ps) = ap (λ (l : List ℕ). p ∷ l) (numbers_kept m ps)

-- What is found

same_value : {A : Type 0} (x y : A) → Some x ≡ Some y → x ≡ y
same_value x y e = cc

found_is : {A : Type 0} (test : A → Bool) (xs : List A) (x : A) → find test xs ≡ Some x → test x ≡ true
found_is test [] x h = absurd cc
found_is test (y ∷ xs) x h = by_test (test y) refl (found_is test xs x) h where
  by_test : (b : Bool) → test y ≡ b → (find test xs ≡ Some x → test x ≡ true) → (if b then Some y else find test xs) ≡ Some x → test x ≡ true
  by_test true is behind e = subst (λ z. test z ≡ true) (same_value y x e) is
  by_test false is behind e = behind e

found_last : {A : Type 0} (test : A → Bool) (xs : List A) (x : A) → find test xs ≡ None → test x ≡ true → find test (xs ++ x ∷ []) ≡ Some x
found_last test [] x none is = ap (λ (b : Bool). if b then Some x else None) is
found_last test (y ∷ xs) x none is = by_test (test y) (λ e. found_last test xs x e is) none where
  by_test : (b : Bool) → (find test xs ≡ None → find test (xs ++ x ∷ []) ≡ Some x) → (if b then Some y else find test xs) ≡ None → (if b then Some y else find test (xs ++ x ∷ [])) ≡ Some x
  by_test true behind e = absurd cc
  by_test false behind e = behind e

-- A collected command's record

chosen : (g : Record → Option FinishedContents) (o : Option Record) (f : FinishedContents) → option_and_then g o ≡ Some f → (r : Record) × (o ≡ Some r) × (g r ≡ Some f)
chosen g None f h = absurd cc
chosen g (Some r) f h = (r, refl, h)

asked_for : (asked : Request) (work : Work) → asked_by work ≡ Some asked → asks_for asked work ≡ true
asked_for asked (Io r) h = subst (λ (x : Request). same_request asked x ≡ true) (sym (same_value r asked h)) (request_itself asked)
asked_for asked (Management m) h = absurd cc

-- a command that ended, as it is taken out of its record
record IsFrom (m : Pages) (r : Record) (f : FinishedContents) : Type 0 where
  queue : f.q ≡ r.q
  identifier : f.cid ≡ r.cid
  asked : asks_for f.request r.work ≡ true
  front : f.data_pages ≡ pages_with_bytes m r.data_pages
  back : f.chain_pages ≡ pages_with_bytes m r.chain_pages

from_record : (s : State) (r : Record) (f : FinishedContents) → finished_from s r ≡ Some f → IsFrom s.memory r f
from_record s r f h = by_request (asked_by r.work) refl r.status h where
  made : Request → Status → FinishedContents
  made asked st = record { q = r.q; cid = r.cid; request = asked; status = st; hints = r.hints; data_pages = pages_with_bytes s.memory r.data_pages; chain_pages = pages_with_bytes s.memory r.chain_pages }

  by_request : (w : Option Request) → asked_by r.work ≡ w → (st : Option Status) → option_and_then (λ (asked : Request). option_map (made asked) st) w ≡ Some f → IsFrom s.memory r f
  by_request None is st e = absurd cc
  by_request (Some asked) is None e = absurd cc
  by_request (Some asked) is (Some st) e =
      let same = same_value (made asked st) f e in
      subst (IsFrom s.memory r) same (record { queue = refl; identifier = refl; asked = asked_for asked r.work is; front = refl; back = refl })

at_changed : (q cid : ℕ) (b : Bool) (x : Record) → is_at q cid (if b then collected x else x) ≡ is_at q cid x
at_changed q cid true x = refl
at_changed q cid false x = refl

changed_at : (q cid : ℕ) (rs : List Record) (r : Record) → find (is_at q cid) rs ≡ Some r → find (is_at q cid) (with_record q cid collected rs) ≡ Some (collected r)
changed_at q cid rs r h =
    find_map (is_at q cid) (λ (x : Record). if is_at q cid x then collected x else x) (λ x. at_changed q cid (is_at q cid x) x) rs r h
    ∙ ap (λ (b : Bool). Some (if b then collected r else r)) (found_is (is_at q cid) rs r h)

left_records : (s : State) (q cid : ℕ) (r : Record) → record_at s.host q cid ≡ Some r → (a.after_collect q cid s).host.records ≡ with_record q cid collected s.host.records
left_records s q cid r h = rw h refl

-- What is collected

record IsCollected (q cid : ℕ) (f : FinishedContents) (new : State) : Type 0 where
  queue : f.q ≡ q
  identifier : f.cid ≡ cid
  known : refusal_of new (events.Release f) ≡ None

knows : (s new : State) (q cid : ℕ) (r : Record) (f : FinishedContents) → record_at s.host q cid ≡ Some r → IsFrom s.memory r f → new.host.records ≡ with_record q cid collected s.host.records → IsCollected q cid f new
knows s new q cid r f at from left =
    let both = and_parts (r.q == q) (r.cid == cid) (found_is (is_at q cid) s.host.records r at) in
    let queue : f.q ≡ q = from.queue ∙ eqb-true r.q q both.0 in
    let identifier : f.cid ≡ cid = from.identifier ∙ eqb-true r.cid cid both.1 in
    let front : pointwise nat_eq (numbers_of f.data_pages) r.data_pages ≡ true = rw (from.front, numbers_kept s.memory r.data_pages) (numbers_itself r.data_pages) in
    let back : pointwise nat_eq (numbers_of f.chain_pages) r.chain_pages ≡ true = rw (from.back, numbers_kept s.memory r.chain_pages) (numbers_itself r.chain_pages) in
    let test : Record → Bool = is_of is_collected f.request (numbers_of f.data_pages) (numbers_of f.chain_pages) in
    let passes : test (collected r) ≡ true = rw (from.asked, front, back) refl in
    let there : record_at new.host f.q f.cid ≡ Some (collected r) =
    rw (queue, identifier) (ap (find (is_at q cid)) left ∙ changed_at q cid s.host.records r at) in
    let is : record_is test new f.q f.cid ≡ true = ap (λ (o : Option Record). option_map_or test o false) there ∙ passes in
    record {
      queue = queue;
      identifier = identifier;
      known = ap (λ (b : Bool). first_passing ((not b, refusal.Stranger) ∷ [])) is;
    }

collected_known : (s new : State) (q cid : ℕ) (f : FinishedContents) → Step s (events.Collect q cid) (events.Collects f) new → IsCollected q cid f new
collected_known s new q cid f step =
    let its = chosen (finished_from s) (record_at s.host q cid) f (surely _ s.trusted false refl step.1).1 in
    let left : new.host.records ≡ with_record q cid collected s.host.records =
    ap (λ (p : HostPart). p.host.records) (part_left s (events.Collect q cid) (events.Collects f) new step.2) ∙ left_records s q cid its.0 its.1 in
    knows s new q cid its.0 f its.1 (from_record s its.0 f its.2) left

-- A release that nothing refuses is done

unfit : (s : State) (f : FinishedContents) (why : Refusal) (touched : List ℕ) → refusal_of s (events.Release f) ≡ None → Refuses s (events.Release f) why touched → ⊥
unfit s f refusal.Memory touched none h = true≢false (sym h.0)
unfit s f why touched none h = none-some why (sym none ∙ h.0)

released : (s new : State) (f : FinishedContents) (r : events.Reply) → refusal_of s (events.Release f) ≡ None → Step s (events.Release f) r new → r ≡ events.Accepted
released s new f events.Accepted none step = refl
released s new f (events.Refused why touched) none step = absurd (unfit s f why touched none (surely _ s.trusted false refl step.1))
released s new f r none step = absurd (surely _ s.trusted false refl step.1).1

-- Of a bench

collected_kept : (t mid : Table) (q cid : ℕ) (st : Status) (h : Hints) → bench.Does t (step.Collect q cid) (reply.Collected st h) mid → (f : FinishedContents) × (mid.finished ≡ t.finished ++ f ∷ []) × IsCollected q cid f mid.world
collected_kept t mid q cid st h does = by_ticket (list_any (is_ticket q cid) t.tickets) does where
  by_reply : (e : events.Reply) → reply.Collected st h ≡ bench.told e → Step t.world (events.Collect q cid) e mid.world → mid ≡ record (bench.kept t (step.Collect q cid) e) { world = mid.world }
      → (f : FinishedContents) × (mid.finished ≡ t.finished ++ f ∷ []) × IsCollected q cid f mid.world
  by_reply (events.Collects f) tells made keeps = (f, ap (λ (x : Table). x.finished) keeps, collected_known t.world mid.world q cid f made)
  by_reply e tells made keeps = absurd cc

  by_ticket : (b : Bool) → bench.DoesBy (if b then Some (events.Collect q cid) else None) t (step.Collect q cid) (reply.Collected st h) mid → (f : FinishedContents) × (mid.finished ≡ t.finished ++ f ∷ []) × IsCollected q cid f mid.world
  by_ticket false d = absurd cc
  by_ticket true d = by_reply d.reply d.tells d.step d.keeps

released_after : (t mid new : Table) (q cid : ℕ) (st : Status) (h : Hints) (r : Reply) → finished_at q cid t.finished ≡ None → bench.Does t (step.Collect q cid) (reply.Collected st h) mid
    → bench.Does mid (step.Release q cid) r new → r ≡ reply.Accepted
released_after t mid new q cid st h r none collects releases =
    let its = collected_kept t mid q cid st h collects in
    let named : is_finished q cid its.0 ≡ true = rw (its.2.queue, its.2.identifier, nat_itself q, nat_itself cid) refl in
    let there : finished_at q cid mid.finished ≡ Some its.0 = ap (finished_at q cid) its.1 ∙ found_last (is_finished q cid) t.finished its.0 none named in
    let makes : bench.Makes mid (step.Release q cid) (events.Release its.0) r new = subst (λ (o : Option FinishedContents). bench.DoesBy (option_map events.Release o) mid (step.Release q cid) r new) there releases in
    makes.tells ∙ ap bench.told (released mid.world new.world its.0 makes.reply its.2.known makes.step)

-- What was laid stands only where the release is done

gather_stays : (o : Option FinishedContents) (t new : Table) (bytes : List ℕ) → bench.Gathers t o (reply.Gathered bytes) new → new ≡ t
gather_stays None t new bytes h = absurd cc
gather_stays (Some f) t new bytes h = h.1

pub unlaid : (t collected gathered new : Table) (q cid : ℕ) (status : Status) (hints : Hints) (bytes old buffer : List ℕ) (why : Reply) (accepted : Bool) → finished_at q cid t.finished ≡ None
    → bench.Does t (step.Collect q cid) (reply.Collected status hints) collected → bench.Does collected (step.Gather q cid) (reply.Gathered bytes) gathered → bench.Does gathered (step.Release q cid) why new
    → accepted ≡ is_accepted why → accepted ≡ false → buffer ≡ old
unlaid t collected gathered new q cid status hints bytes old buffer why accepted once collects gathers releases told not_done =
    let stays = gather_stays (finished_at q cid collected.finished) collected gathered bytes gathers in
    let done = released_after t collected new q cid status hints why once collects (subst (λ (x : Table). bench.Does x (step.Release q cid) why new) stays releases) in
    absurd (true≢false (sym (told ∙ ap is_accepted done) ∙ not_done))
