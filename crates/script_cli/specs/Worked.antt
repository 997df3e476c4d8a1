-- Worked texts.
use Rattle.std.specs.Prelude.{ℕ, List, [], ◌∷◌, ◌++◌, codes}
use Rattle.page_ledger.specs.declared.owner.{Owner.{Owner, TheVariants.{Free, Queue, Command}}, Role.TheVariants.Data}
use Rattle.page_memory.specs.declared.page.Half.TheVariants.{Submission, Completion}

-- a line with its line feed
abbrev pub fed : List ℕ → List ℕ
fed line = line ++ (10 ∷ [])

abbrev pub all_fed : List (List ℕ) → List ℕ
all_fed [] = []
all_fed (line ∷ rest) = fed line ++ all_fed rest

-- a Read of one block through one Data Block
abbrev pub first_script : List ℕ
first_script = all_fed (
    codes "reserve 1 read 0 1 0+512" ∷ codes "build 1 0" ∷ codes "submit 1 0" ∷ codes "ring 1" ∷ codes "fetch 1" ∷ codes "walk 1 0" ∷ codes "walk 1 0"
    ∷ codes "complete 1 0" ∷ codes "reap 1" ∷ codes "collect 1 0" ∷ codes "gather 1 0" ∷ codes "owners" ∷ codes "release 1 0" ∷ [])

-- the owners of a pool of 16 pages with two queues, while that Read is outstanding
abbrev pub first_owners : List Owner
first_owners =
    Queue 0 Submission ∷ Queue 0 Completion ∷ Queue 1 Submission ∷ Queue 1 Completion ∷ Command 1 0 Data
    ∷ Free ∷ Free ∷ Free ∷ Free ∷ Free ∷ Free ∷ Free ∷ Free ∷ Free ∷ Free ∷ Free ∷ []
