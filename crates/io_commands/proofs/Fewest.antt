-- How many joined parts pieces are, and that consecutive pages have the fewest.
use Rattle.sgl_descriptor.specs.declared.Part.TheVariants as part
use Rattle.std.proofs.Common.{◌∙◌, sym, ap, ◌≡◌, Bool, true, false, if◌then◌else◌, Some, None, List, ◌∷◌, length, arith, refl, ◌≤◌, ◌<◌, ◌+◌, ◌*◌, ◌&&◌, ◌||◌, ℕ, suc, [], eqb, ltb, subst, ◌≢◌}
use Rattle.std.{proofs.lemmas.{Bool.Decides.nat_tests, List.Sums.sum_by-cons}, specs.List.{list_any, range_with_len}}
use Rattle.sgl_descriptor.specs.declared.Part.{Part}
use Rattle.sgl_chain.{proofs.{Joins.{joined_from, from_list}, Spelled.needed_more}, specs.{Chains.pages_needed, Joining.{joins, both, joined}}}
use Rattle.io_commands.{proofs.Building.{joined_parts_few, few_pieces}, specs.Least.{parts_in_a_run, LeastIsBetween, LeastAnywhere, LeastOfAll, AreDistinct}}
use Rattle.io_commands.specs.{declared.block_size.BlockSize.BlockSize, Requests.{crosses_page, is_data, data_count, parts_of, fault_of, is_empty_piece}, declared.request.{Kind.Kind, Piece.Piece}}
use Rattle.io_commands.specs.declared.request.Piece.TheVariants.{Data, Bucket}

-- Joined parts counted from the front of a list.

taken : (b : Bool) (x one : Part) (f : Part → List Part) (ws : List Part) → Some one ≡ (if b then Some x else None) → (if b then f x else ws) ≡ f one
taken true x one f ws e = let same : x ≡ one = cc in ap f same
taken false x one f ws e = absurd cc

apart : (b : Bool) (x : Part) (zs ws : List Part) → None ≡ (if b then Some x else None) → (if b then zs else ws) ≡ ws
apart true x zs ws e = absurd cc
apart false x zs ws e = refl

-- two that join are as the one that they become
pub joined_as_one : (last next one : Part) (parts : List Part) → Some one ≡ (if joins last next then Some (both last next) else None) → joined (last ∷ next ∷ parts) ≡ joined (one ∷ parts)
joined_as_one last next one parts is =
    from_list last (next ∷ parts) ∙ taken (joins last next) (both last next) one (λ (x : Part). joined_from x parts) (last ∷ joined_from next parts) is ∙ sym (from_list one parts)

-- where two do not join, the first stands for itself
pub joined_apart : (last next : Part) (parts : List Part) → None ≡ (if joins last next then Some (both last next) else None) → joined (last ∷ next ∷ parts) ≡ last ∷ joined (next ∷ parts)
joined_apart last next parts is =
    from_list last (next ∷ parts) ∙ apart (joins last next) (both last next) (joined_from (both last next) parts) (last ∷ joined_from next parts) is
    ∙ ap (λ (xs : List Part). last ∷ xs) (sym (from_list next parts))

-- and so counted
pub counted_as_one : (last next one : Part) (parts : List Part) → Some one ≡ (if joins last next then Some (both last next) else None) → length (joined (last ∷ next ∷ parts)) ≡ length (joined (one ∷ parts))
counted_as_one last next one parts is = ap length (joined_as_one last next one parts is)

-- How many parts pieces are in consecutive pages, counted piece by piece.

-- how many of the pieces begin a part, where the piece before them fills the rest of its page or not
abbrev pub begun : Bool → List Piece → ℕ
begun fills [] = 0
begun fills (Bucket len ∷ pieces) = 1 + begun false pieces
begun fills (Data offset len ∷ pieces) = (if fills && eqb offset 0 then 0 else 1) + begun (eqb (offset + len) 4096) pieces

-- no piece passes the end of its page
abbrev pub Inside : List Piece → Type 0
Inside [] = Unit {0}
Inside (Bucket len ∷ pieces) = Inside pieces
Inside (Data offset len ∷ pieces) = (offset + len ≤ 4096) × Inside pieces

pub none_left : (b c : Bool) → (b || c) ≡ false → c ≡ false
none_left true c h = absurd cc
none_left false c h = h

pub none_here : (b c : Bool) → (b || c) ≡ false → b ≡ false
none_here true c h = absurd cc
none_here false c h = refl

pub inside : (pieces : List Piece) → list_any crosses_page pieces ≡ false → Inside pieces
inside [] h = tt
inside (Bucket len ∷ pieces) h = inside pieces (none_left false (list_any crosses_page pieces) h)
inside (Data offset len ∷ pieces) h =
    let here : ltb 4096 (offset + len) ≡ false = none_here (ltb 4096 (offset + len)) (list_any crosses_page pieces) h in
    (grind (arith, nat_tests), inside pieces (none_left (ltb 4096 (offset + len)) (list_any crosses_page pieces) h))

-- a data piece takes one page more
pub data_first : (offset len : ℕ) (pieces : List Piece) → data_count (Data offset len ∷ pieces) ≡ suc (data_count pieces)
data_first offset len pieces =
    let one : data_count (Data offset len ∷ pieces) ≡ 1 + data_count pieces = sum_by-cons (λ (x : Piece). if is_data x then 1 else 0) (Data offset len) pieces in
    omega arith

-- a part before page n, which ends with the page before it or not
abbrev Ends : Part → Bool → ℕ → Type 0
Ends (part.Data addr len) fills n = (addr + len ≤ 4096 * n) × (fills ≡ eqb (addr + len) (4096 * n))
Ends (part.Bucket len) fills n = fills ≡ false

-- a part that can take this many pages more
abbrev Short : Part → ℕ → Type 0
Short (part.Data addr len) k = len + 4096 * k < 4294967296
Short (part.Bucket len) k = Unit {0}

-- the data piece in page n joins a part before it or not
next_meets : (addr size n offset len : ℕ) → addr + size ≤ 4096 * n → size + len < 4294967296 →
    ((eqb (addr + size) (4096 * n + offset)) && ltb (size + len) 4294967296) ≡ (eqb (addr + size) (4096 * n) && eqb offset 0)
next_meets addr size n offset len before short = grind (arith, nat_tests)

joins_next : (last : Part) (fills : Bool) (n k offset len : ℕ) → Ends last fills n → Short last (suc k) → offset + len ≤ 4096 →
    joins last (part.Data (4096 * n + offset) len) ≡ (fills && eqb offset 0)
joins_next (part.Bucket size) fills n k offset len ends short fits = rw ends refl
joins_next (part.Data addr size) fills n k offset len ends short fits =
    next_meets addr size n offset len ends.0 (let room : size + 4096 * suc k < 4294967296 = short in omega arith)
    ∙ ap (λ (b : Bool). b && eqb offset 0) (sym ends.1)

next_ends : (n offset len : ℕ) → offset + len ≤ 4096 → Ends (part.Data (4096 * n + offset) len) (eqb (offset + len) 4096) (n + 1)
next_ends n offset len fits = (omega arith, grind (arith, nat_tests))

both_end : (last : Part) (fills : Bool) (n k offset len : ℕ) → Ends last fills n → Short last (suc k) → offset + len ≤ 4096 → joins last (part.Data (4096 * n + offset) len) ≡ true →
    Ends (both last (part.Data (4096 * n + offset) len)) (eqb (offset + len) 4096) (n + 1) × Short (both last (part.Data (4096 * n + offset) len)) k
both_end (part.Bucket size) fills n k offset len ends short fits is = absurd cc
both_end (part.Data addr size) fills n k offset len ends short fits is =
    let room : size + 4096 * suc k < 4294967296 = short in
    let there : addr + size ≡ 4096 * n + offset = grind (arith, nat_tests) in
    ((omega arith, grind (arith, nat_tests)), omega arith)

-- the parts after one
either_count : (b : Bool) (last : Part) (xs ys : List Part) (e : ℕ) → (b ≡ true → length xs ≡ 1 + e) → length ys ≡ 1 + e →
    length (if b then xs else last ∷ ys) ≡ 1 + ((if b then 0 else 1) + e)
either_count true last xs ys e p q = let one : length xs ≡ 1 + e = p refl in omega arith
either_count false last xs ys e p q = omega arith

pub no_bucket : (last : Part) (len : ℕ) → joins last (part.Bucket len) ≡ false
no_bucket (part.Data addr size) len = refl
no_bucket (part.Bucket size) len = refl

counted_from : (last : Part) (fills : Bool) (n : ℕ) (pieces : List Piece) → Ends last fills n → Short last (length pieces) → 4096 * length pieces < 4294967296 → Inside pieces →
    length (joined_from last (parts_of pieces (range_with_len n (data_count pieces)))) ≡ 1 + begun fills pieces
counted_from last fills n [] ends short low fit = refl
counted_from last fills n (Bucket len ∷ pieces) ends short low fit =
    let low' : 4096 * suc (length pieces) < 4294967296 = low in
    let behind : List Part = parts_of pieces (range_with_len n (data_count pieces)) in
    ap (λ (b : Bool). length (if b then joined_from (both last (part.Bucket len)) behind else last ∷ joined_from (part.Bucket len) behind)) (no_bucket last len)
    ∙ ap suc (counted_from (part.Bucket len) false n pieces refl tt (omega arith) fit)
    ∙ omega arith
counted_from last fills n (Data offset len ∷ pieces) ends short low fit =
    let low' : 4096 * suc (length pieces) < 4294967296 = low in
    let next : Part = part.Data (4096 * n + offset) len in
    let behind : List Part = parts_of pieces (range_with_len (n + 1) (data_count pieces)) in
    let same : joins last next ≡ (fills && eqb offset 0) = joins_next last fills n (length pieces) offset len ends short fit.0 in
    ap (λ (k : ℕ). length (joined_from last (parts_of (Data offset len ∷ pieces) (range_with_len n k)))) (data_first offset len pieces)
    ∙ either_count (joins last next) last (joined_from (both last next) behind) (joined_from next behind) (begun (eqb (offset + len) 4096) pieces)
    (λ is. let ended = both_end last fills n (length pieces) offset len ends short fit.0 is in
    counted_from (both last next) (eqb (offset + len) 4096) (n + 1) pieces ended.0 ended.1 (omega arith) fit.1)
    (counted_from next (eqb (offset + len) 4096) (n + 1) pieces (next_ends n offset len fit.0) (omega (arith, fit.0)) (omega arith) fit.1)
    ∙ ap (λ (b : Bool). 1 + ((if b then 0 else 1) + begun (eqb (offset + len) 4096) pieces)) same

pub counted : (n : ℕ) (pieces : List Piece) → length pieces ≤ 1024 → list_any crosses_page pieces ≡ false → length (joined (parts_in_a_run pieces n)) ≡ begun false pieces
counted n [] few none = refl
counted n (Bucket len ∷ pieces) few none =
    let few' : suc (length pieces) ≤ 1024 = few in
    ap length (from_list (part.Bucket len) (parts_of pieces (range_with_len n (data_count pieces))))
    ∙ counted_from (part.Bucket len) false n pieces refl tt (omega arith) (inside (Bucket len ∷ pieces) none)
counted n (Data offset len ∷ pieces) few none =
    let few' : suc (length pieces) ≤ 1024 = few in
    let fit : Inside (Data offset len ∷ pieces) = inside (Data offset len ∷ pieces) none in
    ap (λ (k : ℕ). length (joined (parts_of (Data offset len ∷ pieces) (range_with_len n k)))) (data_first offset len pieces)
    ∙ ap length (from_list (part.Data (4096 * n + offset) len) (parts_of pieces (range_with_len (n + 1) (data_count pieces))))
    ∙ counted_from (part.Data (4096 * n + offset) len) (eqb (offset + len) 4096) (n + 1) pieces (next_ends n offset len fit.0) (omega (arith, fit.0)) (omega arith) fit.1

-- In no pages are there fewer joined parts than in consecutive ones.

-- what a good request is
none_crosses : (kind : Kind) (size : BlockSize) (blocks : ℕ) (pieces : List Piece) → fault_of kind size blocks pieces ≡ None → list_any crosses_page pieces ≡ false
none_crosses kind size blocks pieces h = grind (arith, nat_tests)

none_empty : (kind : Kind) (size : BlockSize) (blocks : ℕ) (pieces : List Piece) → fault_of kind size blocks pieces ≡ None → list_any is_empty_piece pieces ≡ false
none_empty kind size blocks pieces h = grind (arith, nat_tests)

pub same_anywhere : LeastAnywhere
same_anywhere request segment first good =
    let few = few_pieces request.kind request.block_size request.blocks request.pieces good in
    let inside = none_crosses request.kind request.block_size request.blocks request.pieces good in
    ap (λ (k : ℕ). data_count request.pieces + pages_needed k segment) (counted first request.pieces few inside ∙ sym (counted 0 request.pieces few inside))

plus_more : (d x y : ℕ) → x ≤ y → d + x ≤ d + y
plus_more d x y more = omega arith

pub is_between : (pieces : List Piece) (segment : ℕ) → LeastIsBetween pieces segment
is_between pieces segment =
    record {
      least = omega arith;
      most = λ low. plus_more (data_count pieces) (pages_needed (length (joined (parts_in_a_run pieces 0))) segment) (pages_needed (length pieces) segment)
          (needed_more (length (joined (parts_in_a_run pieces 0))) (length pieces) segment low (joined_parts_few pieces (range_with_len 0 (data_count pieces))));
    }

-- each data piece has bytes, and they lie in its page
abbrev Proper : List Piece → Type 0
Proper [] = Unit {0}
Proper (Bucket len ∷ pieces) = Proper pieces
Proper (Data offset len ∷ pieces) = (0 < len) × (offset + len ≤ 4096) × Proper pieces

some_bytes : (len : ℕ) → eqb len 0 ≡ false → 0 < len
some_bytes len h = grind (arith, nat_tests)

proper : (pieces : List Piece) → list_any is_empty_piece pieces ≡ false → Inside pieces → Proper pieces
proper [] none fit = tt
proper (Bucket len ∷ pieces) none fit = proper pieces (none_left (eqb len 0) (list_any is_empty_piece pieces) none) fit
proper (Data offset len ∷ pieces) none fit =
    (some_bytes len (none_here (eqb len 0) (list_any is_empty_piece pieces) none), fit.0, proper pieces (none_left (eqb len 0) (list_any is_empty_piece pieces) none) fit.1)

-- no page is the one before it
abbrev Differ : ℕ → List ℕ → Type 0
Differ page [] = Unit {0}
Differ page (next ∷ pages) = (page ≢ next) × Differ next pages

abbrev Differing : List ℕ → Type 0
Differing [] = Unit {0}
Differing (page ∷ pages) = Differ page pages

distinct_behind : (page : ℕ) (pages : List ℕ) → AreDistinct (page ∷ pages) → AreDistinct pages
distinct_behind page pages h i j lt few = h (suc i) (suc j) (omega arith) (omega arith)

differing : (pages : List ℕ) → AreDistinct pages → Differing pages
differing [] h = tt
differing (page ∷ []) h = tt
differing (page ∷ next ∷ pages) h = (h 0 1 (omega arith) (omega arith), differing (next ∷ pages) (distinct_behind page (next ∷ pages) h))

-- a part whose last byte is in a page, which it fills to the end or not
abbrev EndsIn : Part → Bool → ℕ → Type 0
EndsIn (part.Data addr len) fills page = (4096 * page < addr + len) × (addr + len ≤ 4096 * (page + 1)) × (fills ≡ eqb (addr + len) (4096 * (page + 1)))
EndsIn (part.Bucket len) fills page = fills ≡ false

-- a data piece that joins a part begins its page, and the part fills its own
meets_end : (addr size page next offset len : ℕ) → 4096 * page < addr + size → addr + size ≤ 4096 * (page + 1) → page ≢ next → 0 < len → offset + len ≤ 4096 →
    addr + size ≡ 4096 * next + offset → (addr + size ≡ 4096 * (page + 1)) × (offset ≡ 0)
meets_end addr size page next offset len after before other some fits there = (omega arith, omega arith)

joins_end : (last : Part) (fills : Bool) (page next offset len : ℕ) → EndsIn last fills page → page ≢ next → 0 < len → offset + len ≤ 4096 →
    joins last (part.Data (4096 * next + offset) len) ≡ true → (fills && eqb offset 0) ≡ true
joins_end (part.Bucket size) fills page next offset len ends other some fits is = absurd cc
joins_end (part.Data addr size) fills page next offset len ends other some fits is =
    let there : addr + size ≡ 4096 * next + offset = grind (arith, nat_tests) in
    let met : (addr + size ≡ 4096 * (page + 1)) × (offset ≡ 0) = meets_end addr size page next offset len ends.0 ends.1 other some fits there in
    let filled : eqb (addr + size) (4096 * (page + 1)) ≡ true = grind (arith, nat_tests) in
    let begins : eqb offset 0 ≡ true = grind (arith, nat_tests) in
    rw (ends.2, filled, begins) refl

next_ends_in : (page offset len : ℕ) → 0 < len → offset + len ≤ 4096 → EndsIn (part.Data (4096 * page + offset) len) (eqb (offset + len) 4096) page
next_ends_in page offset len some fits = (omega arith, omega arith, grind (arith, nat_tests))

both_end_in : (last : Part) (page offset len : ℕ) → 0 < len → offset + len ≤ 4096 → joins last (part.Data (4096 * page + offset) len) ≡ true →
    EndsIn (both last (part.Data (4096 * page + offset) len)) (eqb (offset + len) 4096) page
both_end_in (part.Bucket size) page offset len some fits is = absurd cc
both_end_in (part.Data addr size) page offset len some fits is =
    let there : addr + size ≡ 4096 * page + offset = grind (arith, nat_tests) in
    (omega arith, omega arith, grind (arith, nat_tests))

-- the joined parts of pieces after one
either_least : (b a : Bool) (last : Part) (xs ys : List Part) (e : ℕ) → (b ≡ true → a ≡ true) → (b ≡ true → 1 + e ≤ length xs) → 1 + e ≤ length ys →
    1 + ((if a then 0 else 1) + e) ≤ length (if b then xs else last ∷ ys)
either_least true true last xs ys e also p q = let few : 1 + e ≤ length xs = p refl in omega arith
either_least true false last xs ys e also p q = absurd (let wrong : false ≡ true = also refl in cc)
either_least false true last xs ys e also p q = omega arith
either_least false false last xs ys e also p q = omega arith

least_from : (last : Part) (fills : Bool) (page : ℕ) (pages : List ℕ) (pieces : List Piece) → EndsIn last fills page → Differ page pages → data_count pieces ≤ length pages → Proper pieces →
    1 + begun fills pieces ≤ length (joined_from last (parts_of pieces pages))
least_from last fills page pages [] ends differ enough fit = omega arith
least_from last fills page pages (Bucket len ∷ pieces) ends differ enough fit =
    let behind : 1 + begun false pieces ≤ length (joined_from (part.Bucket len) (parts_of pieces pages)) = least_from (part.Bucket len) false page pages pieces refl differ enough fit in
    subst (λ (b : Bool). 1 + (1 + begun false pieces) ≤ length (if b then joined_from (both last (part.Bucket len)) (parts_of pieces pages) else last ∷ joined_from (part.Bucket len) (parts_of pieces pages)))
    (sym (no_bucket last len)) (omega arith)
least_from last fills page [] (Data offset len ∷ pieces) ends differ enough fit = absurd (omega (arith, data_first offset len pieces))
least_from last fills page (next ∷ pages) (Data offset len ∷ pieces) ends differ enough fit =
    let others : data_count pieces ≤ length pages = omega (arith, data_first offset len pieces) in
    let here : Part = part.Data (4096 * next + offset) len in
    either_least (joins last here) (fills && eqb offset 0) last (joined_from (both last here) (parts_of pieces pages)) (joined_from here (parts_of pieces pages)) (begun (eqb (offset + len) 4096) pieces)
    (λ is. joins_end last fills page next offset len ends differ.0 fit.0 fit.1 is)
    (λ is. least_from (both last here) (eqb (offset + len) 4096) next pages pieces (both_end_in last next offset len fit.0 fit.1 is) differ.1 others fit.2)
    (least_from here (eqb (offset + len) 4096) next pages pieces (next_ends_in next offset len fit.0 fit.1) differ.1 others fit.2)

least_parts : (pages : List ℕ) (pieces : List Piece) → Differing pages → data_count pieces ≤ length pages → Proper pieces → begun false pieces ≤ length (joined (parts_of pieces pages))
least_parts pages [] differ enough fit = omega arith
least_parts [] (Bucket len ∷ pieces) differ enough fit =
    subst (λ (xs : List Part). 1 + begun false pieces ≤ length xs) (sym (from_list (part.Bucket len) (parts_of pieces [])))
    (least_from (part.Bucket len) false 0 [] pieces refl tt enough fit)
least_parts (page ∷ pages) (Bucket len ∷ pieces) differ enough fit =
    subst (λ (xs : List Part). 1 + begun false pieces ≤ length xs) (sym (from_list (part.Bucket len) (parts_of pieces (page ∷ pages))))
    (least_from (part.Bucket len) false (suc page) (page ∷ pages) pieces refl (omega arith, differ) enough fit)
least_parts [] (Data offset len ∷ pieces) differ enough fit = absurd (omega (arith, data_first offset len pieces))
least_parts (page ∷ pages) (Data offset len ∷ pieces) differ enough fit =
    subst (λ (xs : List Part). 1 + begun (eqb (offset + len) 4096) pieces ≤ length xs) (sym (from_list (part.Data (4096 * page + offset) len) (parts_of pieces pages)))
    (least_from (part.Data (4096 * page + offset) len) (eqb (offset + len) 4096) page pages pieces (next_ends_in page offset len fit.0 fit.1) differ (omega (arith, data_first offset len pieces)) fit.2)

pub least_of_all : LeastOfAll
least_of_all request segment pages good low count distinct =
    let few = few_pieces request.kind request.block_size request.blocks request.pieces good in
    let inside_pages = none_crosses request.kind request.block_size request.blocks request.pieces good in
    let fewest : length (joined (parts_in_a_run request.pieces 0)) ≤ length (joined (parts_of request.pieces pages)) =
    subst (λ (k : ℕ). k ≤ length (joined (parts_of request.pieces pages))) (sym (counted 0 request.pieces few inside_pages))
    (least_parts pages request.pieces (differing pages distinct) (omega arith)
    (proper request.pieces (none_empty request.kind request.block_size request.blocks request.pieces good) (inside request.pieces inside_pages))) in
    plus_more (data_count request.pieces) (pages_needed (length (joined (parts_in_a_run request.pieces 0))) segment) (pages_needed (length (joined (parts_of request.pieces pages))) segment)
    (needed_more (length (joined (parts_in_a_run request.pieces 0))) (length (joined (parts_of request.pieces pages))) segment low fewest)
