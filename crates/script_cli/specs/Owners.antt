-- The text of the owners of all pages, and of the counts.
use Rattle.std.specs.{Fmt.decimal, Prelude.{ℕ, ◌+◌, ◌==◌, ◌&&◌, Bool, true, false, List, [], ◌∷◌, ◌++◌, codes, if◌then◌else◌}}
use Rattle.page_ledger.specs.{Owners.is_same_half, declared.owner.{Counts.Counts, Owner.{Owner, TheVariants.{Free, Queue, Command}}, Role.Role}}
use Rattle.page_ledger.specs.declared.owner.Role.TheVariants.{Data, Chain}
use Rattle.page_memory.specs.declared.page.Half.{Half, TheVariants.{Submission, Completion}}

abbrev pub is_same_role : Role → Role → Bool
is_same_role Data Data = true
is_same_role Chain Chain = true
is_same_role a b = false

abbrev pub is_same_owner : Owner → Owner → Bool
is_same_owner Free Free = true
is_same_owner (Queue q half) (Queue p other) = q == p && is_same_half half other
is_same_owner (Command q cid role) (Command p did other) = q == p && (cid == did && is_same_role role other)
is_same_owner a b = false

abbrev pub half_name : Half → List ℕ
half_name Submission = codes "sq"
half_name Completion = codes "cq"

abbrev pub role_name : Role → List ℕ
role_name Data = codes "data"
role_name Chain = codes "chain"

abbrev pub owner_text : Owner → List ℕ
owner_text Free = codes "free"
owner_text (Queue q half) = codes "queue " ++ (decimal q ++ (codes " " ++ half_name half))
owner_text (Command q cid role) = codes "command " ++ (decimal q ++ (codes " " ++ (decimal cid ++ (codes " " ++ role_name role))))

-- the line of a run of pages, with its line feed
abbrev pub owner_line : ℕ → ℕ → Owner → List ℕ
owner_line first last owner = decimal first ++ (codes "-" ++ (decimal last ++ (codes " " ++ (owner_text owner ++ (10 ∷ [])))))

-- the lines of the longest runs, where the run so far is from the first page to the last, and then the owners of the pages after it
abbrev pub owner_lines : ℕ → ℕ → Owner → List Owner → List ℕ
owner_lines first last owner [] = owner_line first last owner
owner_lines first last owner (next ∷ rest) =
    if is_same_owner next owner then owner_lines first (last + 1) owner rest
    else owner_line first last owner ++ owner_lines (last + 1) (last + 1) next rest

abbrev pub owners_text : List Owner → List ℕ
owners_text [] = []
owners_text (owner ∷ rest) = owner_lines 0 0 owner rest

-- the last line of the text of a run, with its line feed
abbrev pub counts_line : Counts → List ℕ
counts_line counts =
    codes "counts free " ++ (decimal counts.free_pages ++ (codes " queue " ++ (decimal counts.queue_pages
    ++ (codes " chain " ++ (decimal counts.chain_pages ++ (codes " data " ++ (decimal counts.data_pages ++ (10 ∷ []))))))))
