-- The owner of a page, as C sees it.
use Rattle.std.specs.Prelude.{ℕ, [], ◌∷◌}
use Rattle.nvmesgl_c.specs.declared.words.owner.COwner.{COwner}
use Rattle.page_ledger.specs.declared.owner.Owner.{Owner}
use Rattle.page_ledger.specs.declared.owner.Owner.TheVariants as owned
use Rattle.page_ledger.specs.declared.owner.Role.TheVariants as role
use Rattle.page_memory.specs.declared.page.Half.TheVariants as half

abbrev pub owner_with : ℕ → ℕ → ℕ → COwner
owner_with class q cid = record { class = class; q = q; cid = cid; reserved = 0 ∷ 0 ∷ 0 ∷ 0 ∷ [] }

abbrev pub owner_of : Owner → COwner
owner_of owned.Free = owner_with 0 0 0
owner_of (owned.Queue q half.Submission) = owner_with 1 q 0
owner_of (owned.Queue q half.Completion) = owner_with 2 q 0
owner_of (owned.Command q cid role.Data) = owner_with 3 q cid
owner_of (owned.Command q cid role.Chain) = owner_with 4 q cid
