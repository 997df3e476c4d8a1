-- Which blocks the end of a command lacks.
use Rattle.std.proofs.Common.{◌≡◌, ℕ, ◌==◌, ◌&&◌, ◌||◌, Bool, true, false, not, is_some, inl, inr, Option, Some, None, List, find, if◌then◌else◌, is_none, refl, ap, sym, ◌∙◌}
use Rattle.std.proofs.lemmas.Bool.{cases_Bool}
use Rattle.std.specs.Option.{option_and_then, option_map, option_map_or}
use Rattle.entry_codec.specs.declared.{submission.SubEntry.SubEntry}
use Rattle.page_memory.specs.Memory.{Memory}
use Rattle.controller_core.specs.Completing.{command_refusal, waits_among}
use Rattle.controller_core.specs.Contents.{Contents, FetchedCommand, FetchedWork, entry_of_work, is_command, verdict_of_work}
use Rattle.controller_core.specs.Lending.{command_cause, unready, command_lacks, work_lacks, end_refusal, entry_lacked, lent_refusal, not_lent, NoneLacksAtHand, RefusesAsImage}
use Rattle.controller_core.specs.Fetching.{is_known, look_refusal, rung_entry}
use Rattle.controller_core.specs.Posting.{post_refusal_at}
use Rattle.controller_core.specs.declared.{command.FetchedWork.TheVariants.{Io, Admin}, refusal.ControllerRefusal.ControllerRefusal, lending.LentRefusal.LentRefusal}
use Rattle.controller_core.specs.declared.lending.LentRefusal.TheVariants.{Refused}
use Rattle.controller_core.specs.declared.refusal.ControllerRefusal.TheVariants as refusal

-- the command that was found
pub found_lacks : (at_hand : ℕ → ℕ → Bool) (commands : List FetchedCommand) (q cid : ℕ) (k : FetchedCommand) → find (is_command q cid) commands ≡ Some k → command_lacks at_hand commands q cid ≡ work_lacks at_hand k.work
found_lacks at_hand commands q cid k found = ap (λ (o : Option FetchedCommand). option_map_or (λ k. work_lacks at_hand k.work) o false) found

-- over an image none is lacking
image_work : (work : FetchedWork) → work_lacks (λ slba n. true) work ≡ false
image_work (Io job) = refl
image_work (Admin entry status dw0) = refl

image_found : (o : Option FetchedCommand) → option_map_or (λ k. work_lacks (λ slba n. true) k.work) o false ≡ false
image_found None = refl
image_found (Some k) = image_work k.work

pub image_lacks : (commands : List FetchedCommand) (q cid : ℕ) → command_lacks (λ slba n. true) commands q cid ≡ false
image_lacks commands q cid = image_found (find (is_command q cid) commands)

-- What a completion over lent blocks is refused for

ready_by : (a b : Bool) (x : Option LentRefusal) → (if a then Some refusal.Walking else if b then Some refusal.Waits else None) ≡ None
    → (if a then Some (Refused refusal.Walking) else if b then Some (Refused refusal.Waits) else x) ≡ x
ready_by true b x none = cc
ready_by false true x none = cc
ready_by false false x none = refl

unready_by : (a b : Bool) (x : Option LentRefusal) (why : ControllerRefusal) → (if a then Some refusal.Walking else if b then Some refusal.Waits else None) ≡ Some why
    → (if a then Some (Refused refusal.Walking) else if b then Some (Refused refusal.Waits) else x) ≡ Some (Refused why)
unready_by true b x why is = cc
unready_by false true x why is = cc
unready_by false false x why is = cc

pub lent_unready : (at_hand : ℕ → ℕ → Bool) (c : Contents) (m : Memory) (q cid : ℕ) (why : ControllerRefusal) → Some why ≡ unready c q cid → lent_refusal at_hand c m q cid ≡ Some (Refused why)
lent_unready at_hand c m q cid why is = by_command (find (is_command q cid) c.commands) (sym is)
  where
    by_command : (o : Option FetchedCommand) → option_map_or (command_cause c.commands) o (Some refusal.NoJob) ≡ Some why → option_map_or (end_refusal at_hand c m q) o (Some (Refused refusal.NoJob)) ≡ Some (Refused why)
    by_command None is = cc
    by_command (Some k) is =
        unready_by (is_none (verdict_of_work k.work)) (waits_among c.commands k)
        (if work_lacks at_hand k.work then Some (not_lent (entry_of_work k.work)) else option_map (λ why. Refused why) (post_refusal_at c.queues m q)) why is

pub lent_ready : (at_hand : ℕ → ℕ → Bool) (c : Contents) (m : Memory) (q cid : ℕ) (k : FetchedCommand) → None ≡ unready c q cid → find (is_command q cid) c.commands ≡ Some k
    → lent_refusal at_hand c m q cid ≡ (if work_lacks at_hand k.work then Some (not_lent (entry_of_work k.work)) else option_map (λ why. Refused why) (post_refusal_at c.queues m q))
lent_ready at_hand c m q cid k is found =
    ap (λ (o : Option FetchedCommand). option_map_or (end_refusal at_hand c m q) o (Some (Refused refusal.NoJob))) found
    ∙ ready_by (is_none (verdict_of_work k.work)) (waits_among c.commands k)
    (if work_lacks at_hand k.work then Some (not_lent (entry_of_work k.work)) else option_map (λ why. Refused why) (post_refusal_at c.queues m q))
    (sym (is ∙ ap (λ (o : Option FetchedCommand). option_map_or (command_cause c.commands) o (Some refusal.NoJob)) found))

-- Where all blocks are at hand

as_image : (a b lacks : Bool) (e : SubEntry) (x : Option ControllerRefusal) → lacks ≡ false
    → (if a then Some (Refused refusal.Walking) else if b then Some (Refused refusal.Waits) else if lacks then Some (not_lent e) else option_map (λ why. Refused why) x)
    ≡ option_map (λ why. Refused why) (if a then Some refusal.Walking else if b then Some refusal.Waits else x)
as_image true b lacks e x none = refl
as_image false true lacks e x none = refl
as_image false false lacks e x none = rw none refl

pub refuses_as_image : RefusesAsImage
refuses_as_image c m q cid = by_command (find (is_command q cid) c.commands)
  where
    by_command : (o : Option FetchedCommand) → option_map_or (end_refusal (λ slba n. true) c m q) o (Some (Refused refusal.NoJob)) ≡ option_map (λ why. Refused why) (option_map_or (command_refusal c m q) o (Some refusal.NoJob))
    by_command None = refl
    by_command (Some k) = as_image (is_none (verdict_of_work k.work)) (waits_among c.commands k) (work_lacks (λ slba n. true) k.work) (entry_of_work k.work) (post_refusal_at c.queues m q) (image_work k.work)

and_false : (b : Bool) → (b && false) ≡ false
and_false true = refl
and_false false = refl

entry_has : (c : Contents) (q : ℕ) (o : Option SubEntry) → option_and_then (entry_lacked (λ slba n. true) c q) o ≡ None
entry_has c q None = refl
entry_has c q (Some e) = ap (λ (b : Bool). if b then Some (not_lent e) else None) (and_false (not (is_known c q e || (q == 0))))

pub none_lacks_at_hand : NoneLacksAtHand
none_lacks_at_hand c m q = elim (cases_Bool (is_some (look_refusal c m q))) [
  | inl refused ↦ ap (λ (b : Bool). if b then None else option_and_then (entry_lacked (λ slba n. true) c q) (rung_entry c m q)) refused
  | inr looked ↦ ap (λ (b : Bool). if b then None else option_and_then (entry_lacked (λ slba n. true) c q) (rung_entry c m q)) looked ∙ entry_has c q (rung_entry c m q)
]
