-- Who owns the pages, as objects of JSON.
use Rattle.std.specs.Prelude.{◌+◌, ℕ, List, [], ◌∷◌, codes, if◌then◌else◌}
use Rattle.page_ledger.specs.declared.owner.{Counts.Counts, Owner.{Owner, TheVariants.{Free, Queue, Command}}}
use Rattle.serde_json.specs.Data.{Data, number, unsigned, string, array, object, Members, no_members, member}
use Rattle.script_cli.specs.Owners.{half_name, is_same_owner, role_name}
use Rattle.texts.specs.{Objects.{items_of, lone}, declared.objects.pages.Run.Run}

-- how many pages each class has
abbrev pub class_counts : Counts → Data
class_counts counts =
    object (member (codes "free") (number (unsigned counts.free_pages)) (member (codes "queue") (number (unsigned counts.queue_pages))
    (member (codes "chain") (number (unsigned counts.chain_pages)) (lone (codes "data") (number (unsigned counts.data_pages))))))

-- the last object of every run
abbrev pub counts_object : Counts → Data
counts_object counts = object (lone (codes "counts") (class_counts counts))

-- the longest runs of pages with one owner, where the run so far is from the first page to the last, and then the owners of the pages after it
abbrev pub runs_from : ℕ → ℕ → Owner → List Owner → List Run
runs_from first last owner [] = record { first = first; last = last; owner = owner } ∷ []
runs_from first last owner (next ∷ rest) =
    if is_same_owner next owner then runs_from first (last + 1) owner rest
    else record { first = first; last = last; owner = owner } ∷ runs_from (last + 1) (last + 1) next rest

-- the longest runs of pages with one owner
abbrev pub runs_of : List Owner → List Run
runs_of [] = []
runs_of (owner ∷ rest) = runs_from 0 0 owner rest

-- an owner by name, with its queue, its command, and what the page is to it
abbrev pub owner_members : Owner → Members
owner_members Free = lone (codes "owner") (string (codes "free"))
owner_members (Queue q half) =
    member (codes "owner") (string (codes "queue")) (member (codes "q") (number (unsigned q)) (lone (codes "role") (string (half_name half))))
owner_members (Command q cid role) =
    member (codes "owner") (string (codes "command")) (member (codes "q") (number (unsigned q)) (member (codes "cid") (number (unsigned cid))
    (lone (codes "role") (string (role_name role)))))

abbrev pub run_object : Run → Data
run_object run =
    object (member (codes "first") (number (unsigned run.first)) (member (codes "last") (number (unsigned run.last)) (owner_members run.owner)))

-- the object of the line `owners` of this number, with these runs
abbrev pub runs_object : ℕ → List Run → Data
runs_object line runs =
    object (member (codes "line") (number (unsigned line)) (member (codes "verb") (string (codes "owners")) (lone (codes "owners") (array (items_of run_object runs)))))

-- the object of the line `owners` of this number: the longest runs of pages with one owner
abbrev pub owners_object : ℕ → List Owner → Data
owners_object line owners = runs_object line (runs_of owners)
