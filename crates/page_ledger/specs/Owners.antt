-- Who owns each page of a pool: the owner of page p is at index p of a list.
use Rattle.std.specs.{List.list_any, Option.option_map_or}
use Rattle.std.specs.Prelude.{◌+◌, ◌==◌, ◌&&◌, Bool, true, false, List, [], ◌∷◌, ℕ, zero, suc, Option, filter, if◌then◌else◌, length, map, slice_get, slice_set}
use Rattle.page_memory.specs.declared.page.Half.{Half, TheVariants.{Submission, Completion}}
use Rattle.page_ledger.specs.declared.owner.Owner.{Owner, TheVariants.{Free, Queue, Command}}

-- the owner of a page, or nothing outside the pool
abbrev pub owner_at : List Owner → ℕ → Option Owner
owner_at owners p = slice_get owners p

-- whether nobody owns the page
abbrev pub is_free : Owner → Bool
is_free Free = true
is_free (Queue q half) = false
is_free (Command q cid role) = false

-- whether two rings are the same one
abbrev pub is_same_half : Half → Half → Bool
is_same_half Submission Submission = true
is_same_half Submission Completion = false
is_same_half Completion Submission = false
is_same_half Completion Completion = true

-- whether this half of queue q owns the page
abbrev pub is_half : ℕ → Half → Owner → Bool
is_half q half Free = false
is_half q half (Queue r other) = (r == q) && is_same_half other half
is_half q half (Command r cid role) = false

-- whether a half of queue q owns the page
abbrev pub is_queue : ℕ → Owner → Bool
is_queue q Free = false
is_queue q (Queue r half) = r == q
is_queue q (Command r cid role) = false

-- whether this command owns the page, for its data or for its chain
abbrev pub is_command : ℕ → ℕ → Owner → Bool
is_command q cid Free = false
is_command q cid (Queue r half) = false
is_command q cid (Command r other role) = (r == q) && (other == cid)

-- the pages p, p + 1, .., of which there are k
abbrev pub pages_from : ℕ → ℕ → List ℕ
pages_from p zero = []
pages_from p (suc k) = p ∷ pages_from (p + 1) k

-- whether a page is one of these
abbrev pub is_among : List ℕ → ℕ → Bool
is_among pages p = list_any (λ q. q == p) pages

-- whether a page is in the pool and its owner passes a test
abbrev pub is_owned_at : (Owner → Bool) → List Owner → ℕ → Bool
is_owned_at test owners p = option_map_or test (owner_at owners p) false

-- the pages whose owner passes a test, in rising order
abbrev pub pages_owned : (Owner → Bool) → List Owner → List ℕ
pages_owned test owners = filter (is_owned_at test owners) (pages_from 0 (length owners))

-- the free pages, in rising order
abbrev pub free_pages : List Owner → List ℕ
free_pages owners = pages_owned is_free owners

-- these pages get this owner, and all others keep theirs
abbrev pub with_owner : List Owner → List ℕ → Owner → List Owner
with_owner owners [] owner = owners
with_owner owners (p ∷ pages) owner = with_owner (slice_set owners p owner) pages owner

-- each page whose owner passes a test becomes free, and all others keep theirs
abbrev pub given_back : (Owner → Bool) → List Owner → List Owner
given_back named owners = map (λ owner. if named owner then Free else owner) owners
