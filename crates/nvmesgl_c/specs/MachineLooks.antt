-- What the looks at a pool tell.
use Rattle.std.specs.{List.Contains, Prelude.{◌≡◌, ◌≤◌, ℕ, Option, Some, None, Ok, Err, [], ◌∷◌, length}}
use Rattle.machine_model.specs.{Claims.claims_of, Script.Table}
use Rattle.nvmesgl_c.specs.{MachineKept.{Kept, code_in}, Owners.owner_of, declared.{machine.looks.CCounts.CCounts, words.owner.COwner.COwner}}
use Rattle.page_ledger.specs.declared.owner.Owner.{Owner}
use Rattle.machine_model.specs.Claims as claims

abbrev pub counts_of : Table → CCounts
counts_of t =
    let counts = claims.counts_of t.world.host in
    record {
      pages = length t.world.memory;
      free_pages = counts.free_pages;
      queue_pages = counts.queue_pages;
      chain_pages = counts.chain_pages;
      data_pages = counts.data_pages;
      trusted = t.world.trusted;
      reserved = 0 ∷ 0 ∷ 0 ∷ 0 ∷ [];
    }

-- the counts, of a handle that is open
abbrev pub TellsCounts : Kept → ℕ → CCounts → CCounts → Kept → Type 0
TellsCounts (Err h) code old new left = (code ≡ code_in h) × (new ≡ old) × (left ≡ Err h)
TellsCounts (Ok t) code old new left = (code ≡ 0) × (new ≡ counts_of t) × (left ≡ Ok t)

-- a page is searched for: its owner is that of the one claim that has it; there is none outside the pool
abbrev pub FindsOwner : Table → ℕ → Option Owner → Type 0
FindsOwner t page None = length t.world.memory ≤ page
FindsOwner t page (Some owner) = Contains (claims_of t.world.host) (page, owner)

abbrev pub Shows : Option Owner → ℕ → COwner → COwner → Type 0
Shows None code old new = (code ≡ 6) × (new ≡ old)
Shows (Some owner) code old new = (code ≡ 0) × (new ≡ owner_of owner)

-- the owner of a page, of a handle that is open
abbrev pub TellsOwner : Kept → ℕ → ℕ → COwner → COwner → Kept → Type 0
TellsOwner (Err h) page code old new left = (code ≡ code_in h) × (new ≡ old) × (left ≡ Err h)
TellsOwner (Ok t) page code old new left = (found : Option Owner) × FindsOwner t page found × Shows found code old new × (left ≡ Ok t)
