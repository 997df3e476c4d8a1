-- The objects of pages have no float.
use Rattle.std.proofs.Common.{◌≡◌, ℕ, List, ◌||◌, false, ap, refl}
use Rattle.page_ledger.specs.declared.owner.Owner.{Owner, TheVariants.{Free, Queue, Command}}
use Rattle.serde_json.specs.Written.{has_float, members_have_float}
use Rattle.texts.proofs.ObjectTexts.{items_whole}
use Rattle.texts.specs.{PageObjects.{owner_members, run_object, runs_object}, declared.objects.pages.Run.Run}

owner_whole : (owner : Owner) → members_have_float (owner_members owner) ≡ false
owner_whole Free = refl
owner_whole (Queue q half) = refl
owner_whole (Command q cid role) = refl

pub runs_whole : (line : ℕ) (runs : List Run) → has_float (runs_object line runs) ≡ false
runs_whole line runs = ap (λ b. b || false) (items_whole run_object (λ (run : Run). owner_whole run.owner) runs)
