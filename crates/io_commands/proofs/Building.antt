-- What building a draft rests on, and what its entry and pages say.
use Rattle.sgl_descriptor.specs.declared.Part.TheVariants as part
use Rattle.std.proofs.Common.{◌≡◌, ◌/◌, ℕ, suc, List, [], ◌∷◌, refl, ap, eqb-true, length, arith, ◌≤◌, ◌<◌, ◌+◌, ◌*◌, zero, ◌++◌, Some, None, subst, ◌∙◌, take, drop, length-append, Option, sym, ◌-◌, ◌^◌, ◌%◌, Bool, true, false, nat_le, nat_lt, ◌==◌, ◌||◌, not, replicate, true≢false, All, if◌then◌else◌}
use Rattle.std.proofs.{Math.Seq.{take-append_seam, drop-append_seam}, lemmas.{Bool.Decides.nat_tests, Grind.common_steps}}
use Rattle.std.proofs.lemmas.List.{length-map, length-drop, length-take-le, get_or_append_left, length-take, Elements.{All-head, All-tail, All-nil, All-cons}, Sums.sum_by-cons}
use Rattle.sgl_descriptor.specs.{Spelling.Fits, Targets.descriptor_of_part, declared.{Descriptor.Descriptor, Part.Part}}
use Rattle.sgl_chain.{proofs.Joins.{joined_few, joined_from, from_list}, specs.Chains.{segment_bytes, Sgl, pages_needed, segments_on}}
use Rattle.sgl_chain.specs.{Joining.{joined, joins, both}, Laws.LaidChainsSpell, Spells.{Holds, IsLaid, SpellsWhereLaid}}
use Rattle.page_memory.specs.{Memory.Memory, Pages.with_bytes}
use Rattle.io_commands.specs.{Asked.Request, DataBytes.{PagesOut, filled}}
use Rattle.io_commands.proofs.Pointers.{moves_list}
use Rattle.io_commands.specs.Drafts.{laid, caller_entry, dword_10, dword_11, dword_12, entry_of, io_entry, DraftContents, IsDraft, built, draft_segments, draft_parts, draft_first, draft_entry, HoldsPages, SpellsItsParts, IsBuiltIfAny, IsBuilt, DraftsCarryTheirEntry, BuiltDraftsSpell}
use Rattle.io_commands.specs.{Admin.has_its_page, BlockSizes.{block_bytes, most_blocks}, declared.block_size.BlockSize.{BlockSize, TheVariants.{Bytes512, Bytes1024, Bytes2048, Bytes4096}}, Jobs.{block_number, first_block}, Requests.{crosses_page, fault_of, flag_bits, has_its_bytes, has_list, is_admin, is_hosts_own, most_of, moves_data, names_blocks, names_ranges, need_of, is_count, is_empty_piece, counted_length, counted_lengths, data_count, parts_of, joined_parts, FitsPiece}, Values.{numbers_of, IsGood}, declared.request.{Flags.Flags, Kind.{Kind, TheVariants.{Read, Write, Compare, WriteZeroes, Verify, Flush, Deallocate, Admin}}, RequestFault.{RequestFault, TheVariants.{TooManyPieces, EmptyPiece, CrossesPage, BadCount, LengthMismatch, HostsOwn}}}}
use Rattle.io_commands.specs.declared.admin.{AdminCommand.AdminCommand, PageUse.PageUse}
use Rattle.controller_walk.specs.Units.{first_passing}
use Rattle.sgl_descriptor.specs.Spelling.{spelling}
use Rattle.std.specs.List.{list_any}
use Rattle.io_commands.specs.declared.request.Piece.{Piece, TheVariants.{Data, Bucket}}
use Rattle.entry_codec.specs.declared.submission.SubEntry.{SubEntry}

-- Laying a chain in a draft's own pages.

-- laying a chain again changes nothing
twice : (page image : List ℕ) → with_bytes (with_bytes page 0 image) 0 image ≡ with_bytes page 0 image
twice page image = grind (arith, common_steps)

pub same_numbers : (segments : List (List Descriptor)) (pages : PagesOut) → length segments ≡ length pages → numbers_of (laid segments pages) ≡ numbers_of pages
same_numbers [] [] same = refl
same_numbers [] (page ∷ pages) same = absurd (omega (arith, same))
same_numbers (s ∷ segments) [] same = absurd (omega (arith, same))
same_numbers (s ∷ segments) (page ∷ pages) same = ap (λ (numbers : List ℕ). page.0 ∷ numbers) (same_numbers segments pages (omega (arith, same)))

pub laid-laid : (segments : List (List Descriptor)) (pages : PagesOut) → laid segments (laid segments pages) ≡ laid segments pages
laid-laid [] pages = refl
laid-laid (s ∷ segments) [] = refl
laid-laid (s ∷ segments) (page ∷ pages) = rw (twice page.1 (segment_bytes s), laid-laid segments pages) refl

pub length-laid : (segments : List (List Descriptor)) (pages : PagesOut) → length segments ≡ length pages → length (laid segments pages) ≡ length pages
length-laid [] [] same = refl
length-laid [] (page ∷ pages) same = refl
length-laid (s ∷ segments) [] same = refl
length-laid (s ∷ segments) (page ∷ pages) same = ap suc (length-laid segments pages (omega (arith, same)))

-- What building a draft rests on.

-- a good request has as many blocks as its kind may have, and its pieces are just its bytes
pub has_count : (kind : Kind) (size : BlockSize) (blocks : ℕ) (pieces : List Piece) → fault_of kind size blocks pieces ≡ None → is_count kind size blocks ≡ true
has_count kind size blocks pieces h = grind (arith, nat_tests)

-- no row of the checks holds
its_bytes : (many empty crosses count bytes own : Bool)
    → ◌≡◌ {A = Option RequestFault} (first_passing ((many, TooManyPieces) ∷ (empty, EmptyPiece) ∷ (crosses, CrossesPage) ∷ (count, BadCount) ∷ (not bytes, LengthMismatch) ∷ (own, HostsOwn) ∷ [])) None → bytes ≡ true
its_bytes true empty crosses count bytes own h = absurd cc
its_bytes false true crosses count bytes own h = absurd cc
its_bytes false false true count bytes own h = absurd cc
its_bytes false false false true bytes own h = absurd cc
its_bytes false false false false true own h = refl
its_bytes false false false false false own h = absurd cc

pub has_bytes : (kind : Kind) (size : BlockSize) (blocks : ℕ) (pieces : List Piece) → fault_of kind size blocks pieces ≡ None → has_its_bytes kind size blocks pieces ≡ true
has_bytes kind size blocks pieces h =
    its_bytes (nat_lt 1024 (length pieces)) (list_any is_empty_piece pieces) (list_any crosses_page pieces) (not (is_count kind size blocks)) (has_its_bytes kind size blocks pieces) (is_hosts_own kind) h

pub counted : (kind : Kind) (size : BlockSize) (blocks : ℕ) (pieces : List Piece) → fault_of kind size blocks pieces ≡ None → is_admin kind ≡ false → counted_lengths kind pieces ≡ need_of kind size blocks
counted Read size blocks pieces h far = eqb-true (counted_lengths Read pieces) (need_of Read size blocks) (has_bytes Read size blocks pieces h)
counted Write size blocks pieces h far = eqb-true (counted_lengths Write pieces) (need_of Write size blocks) (has_bytes Write size blocks pieces h)
counted Compare size blocks pieces h far = eqb-true (counted_lengths Compare pieces) (need_of Compare size blocks) (has_bytes Compare size blocks pieces h)
counted WriteZeroes size blocks pieces h far = eqb-true (counted_lengths WriteZeroes pieces) (need_of WriteZeroes size blocks) (has_bytes WriteZeroes size blocks pieces h)
counted Verify size blocks pieces h far = eqb-true (counted_lengths Verify pieces) (need_of Verify size blocks) (has_bytes Verify size blocks pieces h)
counted Flush size blocks pieces h far = eqb-true (counted_lengths Flush pieces) (need_of Flush size blocks) (has_bytes Flush size blocks pieces h)
counted Deallocate size blocks pieces h far = eqb-true (counted_lengths Deallocate pieces) (need_of Deallocate size blocks) (has_bytes Deallocate size blocks pieces h)
counted (Admin command) size blocks pieces h far = absurd (true≢false far)

-- what moves data through a list is no admin command
pub moves_blocks : (kind : Kind) → moves_data kind ≡ true → is_admin kind ≡ false
moves_blocks Read moves = refl
moves_blocks Write moves = refl
moves_blocks Compare moves = refl
moves_blocks WriteZeroes moves = refl
moves_blocks Verify moves = refl
moves_blocks Flush moves = refl
moves_blocks Deallocate moves = refl
moves_blocks (Admin command) moves = absurd (true≢false (sym moves))

pub list_blocks : (kind : Kind) → has_list kind ≡ true → is_admin kind ≡ false
list_blocks Read list = refl
list_blocks Write list = refl
list_blocks Compare list = refl
list_blocks WriteZeroes list = refl
list_blocks Verify list = refl
list_blocks Flush list = refl
list_blocks Deallocate list = refl
list_blocks (Admin command) list = absurd (true≢false (sym list))

-- what moves data names no ranges
moves_no_ranges : (kind : Kind) → moves_data kind ≡ true → names_ranges kind ≡ false
moves_no_ranges Read moves = refl
moves_no_ranges Write moves = refl
moves_no_ranges Compare moves = refl
moves_no_ranges WriteZeroes moves = refl
moves_no_ranges Verify moves = refl
moves_no_ranges Flush moves = refl
moves_no_ranges Deallocate moves = absurd (true≢false (sym moves))
moves_no_ranges (Admin command) moves = refl

-- where it has a list it names blocks or ranges
list_names : (kind : Kind) → has_list kind ≡ true → (names_blocks kind || names_ranges kind) ≡ true
list_names Read list = refl
list_names Write list = refl
list_names Compare list = refl
list_names WriteZeroes list = refl
list_names Verify list = refl
list_names Flush list = absurd (true≢false (sym list))
list_names Deallocate list = refl
list_names (Admin command) list = absurd (true≢false (sym list))

in_range : (most blocks : ℕ) (names : Bool) → names ≡ true → (if names then not ((blocks == 0) || nat_lt most blocks) else blocks == 0) ≡ true → 0 < blocks
in_range most blocks true is h = grind (arith, nat_tests)
in_range most blocks false is h = absurd (true≢false (sym is))

at_most : (most blocks : ℕ) (names : Bool) → (if names then not ((blocks == 0) || nat_lt most blocks) else blocks == 0) ≡ true → blocks ≤ most
at_most most blocks true h = grind (arith, nat_tests)
at_most most blocks false h = grind (arith, nat_tests)

pub few_of_a_size : (size : BlockSize) → most_blocks size ≤ 2048
few_of_a_size Bytes512 = omega arith
few_of_a_size Bytes1024 = omega arith
few_of_a_size Bytes2048 = omega arith
few_of_a_size Bytes4096 = omega arith

-- ranges are no more than blocks may be
few_ranges : (b : Bool) (size : BlockSize) → (if b then 256 else most_blocks size) ≤ most_blocks size
few_ranges false size = omega arith
few_ranges true Bytes512 = omega arith
few_ranges true Bytes1024 = omega arith
few_ranges true Bytes2048 = omega arith
few_ranges true Bytes4096 = omega arith

some_bytes : (size : BlockSize) (blocks : ℕ) → 0 < blocks → 0 < block_bytes size * blocks
some_bytes Bytes512 blocks some = omega arith
some_bytes Bytes1024 blocks some = omega arith
some_bytes Bytes2048 blocks some = omega arith
some_bytes Bytes4096 blocks some = omega arith

-- so one with a list has a block to 1 MiB of them, or a range to 256, and pieces
pub some_blocks : (kind : Kind) (size : BlockSize) (blocks : ℕ) (pieces : List Piece) → fault_of kind size blocks pieces ≡ None → has_list kind ≡ true → 0 < blocks
some_blocks kind size blocks pieces h list = in_range (most_of kind size) blocks (names_blocks kind || names_ranges kind) (list_names kind list) (has_count kind size blocks pieces h)

pub few_blocks : (kind : Kind) (size : BlockSize) (blocks : ℕ) (pieces : List Piece) → fault_of kind size blocks pieces ≡ None → blocks ≤ most_blocks size
few_blocks kind size blocks pieces h =
    let most = at_most (most_of kind size) blocks (names_blocks kind || names_ranges kind) (has_count kind size blocks pieces h) in
    let few = few_ranges (names_ranges kind) size in
    omega (arith, most, few)

some_need : (kind : Kind) (size : BlockSize) (blocks : ℕ) → has_list kind ≡ true → 0 < blocks → 0 < need_of kind size blocks
some_need Read size blocks list some = some_bytes size blocks some
some_need Write size blocks list some = some_bytes size blocks some
some_need Compare size blocks list some = some_bytes size blocks some
some_need Deallocate size blocks list some = omega (arith, some)
some_need WriteZeroes size blocks list some = absurd (true≢false (sym list))
some_need Verify size blocks list some = absurd (true≢false (sym list))
some_need Flush size blocks list some = absurd (true≢false (sym list))
some_need (Admin command) size blocks list some = absurd (true≢false (sym list))

pub some_pieces : (kind : Kind) (size : BlockSize) (blocks : ℕ) (pieces : List Piece) → fault_of kind size blocks pieces ≡ None → has_list kind ≡ true → 0 < length pieces
some_pieces kind size blocks [] h list =
    let need : 0 ≡ need_of kind size blocks = counted kind size blocks [] h (list_blocks kind list) in
    let some = some_need kind size blocks list (some_blocks kind size blocks [] h list) in
    absurd (omega (arith, need, some))
some_pieces kind size blocks (piece ∷ pieces) h list = omega arith

some_length : (kind : Kind) (piece : Piece) → has_list kind ≡ false → is_admin kind ≡ false → is_empty_piece piece ≡ false → counted_length kind piece ≡ 0 → ⊥
some_length kind (Data offset len) still far some none = grind (arith, nat_tests)
some_length WriteZeroes (Bucket len) still far some none = grind (arith, nat_tests)
some_length Verify (Bucket len) still far some none = grind (arith, nat_tests)
some_length Flush (Bucket len) still far some none = grind (arith, nat_tests)
some_length (Admin command) (Bucket len) still far some none = true≢false far
some_length Read (Bucket len) still far some none = true≢false still
some_length Write (Bucket len) still far some none = true≢false still
some_length Compare (Bucket len) still far some none = true≢false still
some_length Deallocate (Bucket len) still far some none = true≢false still

no_need : (kind : Kind) (size : BlockSize) (blocks : ℕ) → has_list kind ≡ false → need_of kind size blocks ≡ 0
no_need Read size blocks still = absurd (true≢false still)
no_need Write size blocks still = absurd (true≢false still)
no_need Compare size blocks still = absurd (true≢false still)
no_need Deallocate size blocks still = absurd (true≢false still)
no_need WriteZeroes size blocks still = refl
no_need Verify size blocks still = refl
no_need Flush size blocks still = refl
no_need (Admin command) size blocks still = refl

-- a command of blocks without a list has no piece
pub no_pieces : (kind : Kind) (size : BlockSize) (blocks : ℕ) (pieces : List Piece) → fault_of kind size blocks pieces ≡ None → has_list kind ≡ false → is_admin kind ≡ false → pieces ≡ []
no_pieces kind size blocks [] h still far = refl
no_pieces kind size blocks (piece ∷ pieces) h still far =
    let need : counted_lengths kind (piece ∷ pieces) ≡ 0 = counted kind size blocks (piece ∷ pieces) h far ∙ no_need kind size blocks still in
    let none : is_empty_piece piece ≡ false = grind (arith, nat_tests) in
    absurd (some_length kind piece still far none (omega (arith, need, sum_by-cons (counted_length kind) piece pieces)))

pub length-parts_of : (pieces : List Piece) (numbers : List ℕ) → data_count pieces ≤ length numbers → length (parts_of pieces numbers) ≡ length pieces
length-parts_of [] numbers few = refl
length-parts_of (Bucket len ∷ pieces) numbers few = ap suc (length-parts_of pieces numbers (grind (arith, common_steps)))
length-parts_of (Data offset len ∷ pieces) [] few = absurd (grind (arith, common_steps))
length-parts_of (Data offset len ∷ pieces) (n ∷ numbers) few = ap suc (length-parts_of pieces numbers (grind (arith, common_steps)))

-- where there are parts there are joined ones, and no more than pieces
some_joined : (parts : List Part) → 0 < length parts → 0 < length (joined parts)
some_joined [] some = absurd (omega arith)
some_joined (part ∷ parts) some = omega arith

parts_few : (pieces : List Piece) (numbers : List ℕ) → length (parts_of pieces numbers) ≤ length pieces
parts_few [] numbers = omega arith
parts_few (Bucket len ∷ pieces) numbers = let few : length (parts_of pieces numbers) ≤ length pieces = parts_few pieces numbers in omega arith
parts_few (Data offset len ∷ pieces) [] = omega arith
parts_few (Data offset len ∷ pieces) (n ∷ numbers) = let few : length (parts_of pieces numbers) ≤ length pieces = parts_few pieces numbers in omega arith

pub joined_parts_few : (pieces : List Piece) (numbers : List ℕ) → length (joined_parts pieces numbers) ≤ length pieces
joined_parts_few pieces numbers =
    let few : length (joined_parts pieces numbers) ≤ length (parts_of pieces numbers) = joined_few (parts_of pieces numbers) in
    let most : length (parts_of pieces numbers) ≤ length pieces = parts_few pieces numbers in
    omega arith

-- a good request with a list has parts in its pages
pub some_parts : (r : Request) (numbers : List ℕ) → IsGood r → has_list r.kind ≡ true → data_count r.pieces ≤ length numbers → 0 < length (joined_parts r.pieces numbers)
some_parts r numbers good list enough =
    let all : length (parts_of r.pieces numbers) ≡ length r.pieces = length-parts_of r.pieces numbers enough in
    let some : 0 < length r.pieces = some_pieces r.kind r.block_size r.blocks r.pieces good list in
    some_joined (parts_of r.pieces numbers) (omega arith)

-- the first of its pages are enough for its data pieces
pub front_pages : (r : Request) (pages front : PagesOut) (n : ℕ) → length pages ≡ data_count r.pieces + n → front ≡ take (data_count r.pieces) pages → data_count r.pieces ≤ length (numbers_of front)
front_pages r pages front n count is =
    let same : length (numbers_of front) ≡ length front = length-map front (λ page. page.0) in
    let taken : length (take (data_count r.pieces) pages) ≡ data_count r.pieces = length-take-le (data_count r.pieces) pages (omega arith) in
    let whole : length front ≡ data_count r.pieces = ap length is ∙ taken in
    omega arith

-- the pages after those of the data pieces are as many as the chain needs
pub rest_pages : (r : Request) (pages behind : PagesOut) (n : ℕ) → length pages ≡ data_count r.pieces + n → behind ≡ drop (data_count r.pieces) pages → length (numbers_of behind) ≡ n
rest_pages r pages behind n count is = length-map behind (λ page. page.0) ∙ rw is (omega (arith, count, length-drop (data_count r.pieces) pages))

-- a draft whose chain is laid: it is built, and building it again changes nothing
pub built_again : (d : DraftContents) → length (draft_segments d) ≡ length d.chain_pages → built (built d) ≡ built d
built_again d count =
    rw (same_numbers (draft_segments d) d.chain_pages count, laid-laid (draft_segments d) d.chain_pages) refl

pub built_keeps : (d : DraftContents) → length (draft_segments d) ≡ length d.chain_pages → IsDraft d → IsDraft (built d)
built_keeps d count h =
    record {
      good = h.good;
      low = h.low;
      high = h.high;
      pieces_have_pages = h.pieces_have_pages;
      chain_has_pages = length-laid (draft_segments d) d.chain_pages count ∙ h.chain_has_pages;
      built = built_again d count;
    }

-- a draft's contents, once its chain is laid after its data pages
pub built_contents : (d : DraftContents) (items new : PagesOut) (n : ℕ) (segments : List (List Descriptor)) (entry : SubEntry) → n ≡ data_count d.request.pieces → n ≤ length items →
    d.data_pages ≡ take n items → d.chain_pages ≡ drop n items → new ≡ take n items ++ laid segments (drop n items) → segments ≡ draft_segments d → entry ≡ draft_entry d →
    ◌≡◌ {A = DraftContents} (record d { data_pages = take (data_count d.request.pieces) new; chain_pages = drop (data_count d.request.pieces) new; entry = Some entry }) (built d)
built_contents d items new n segments entry is few in_data in_chain wrote same named =
    let count : length (take n items) ≡ n = length-take-le n items few in
    let front : take n (take n items ++ laid segments (drop n items)) ≡ take n items =
    subst (λ (k : ℕ). take k (take n items ++ laid segments (drop n items)) ≡ take n items) count (take-append_seam (take n items) (laid segments (drop n items))) in
    let behind : drop n (take n items ++ laid segments (drop n items)) ≡ laid segments (drop n items) =
    subst (λ (k : ℕ). drop k (take n items ++ laid segments (drop n items)) ≡ laid segments (drop n items)) count (drop-append_seam (take n items) (laid segments (drop n items))) in
    rw (← is, wrote, front, behind, ← in_data, ← in_chain, same, named) refl

-- pages that are held, and what was laid in them
held_front : (m : Memory) (place : ℕ) (page image : List ℕ) → Holds m place (with_bytes page 0 image) → Holds m place image
held_front m place page image h k lt =
    h k (rw (length-append image (drop (0 + length image) page)) (omega (arith, lt))) ∙ ap (λ (b : ℕ). Some b) (get_or_append_left image (drop (0 + length image) page) 0 k lt)

pub held_laid : (m : Memory) (segments : List (List Descriptor)) (pages : PagesOut) → length segments ≤ length pages → HoldsPages m (laid segments pages) → IsLaid m (numbers_of pages) segments
held_laid m [] [] count h = tt
held_laid m [] (page ∷ pages) count h = tt
held_laid m (s ∷ segments) [] count h = absurd (omega (arith, count))
held_laid m (s ∷ segments) (page ∷ pages) count h = (held_front m (4096 * page.0) page.1 (segment_bytes s) h.0, held_laid m segments pages (omega (arith, count)) h.1)

pub built_spells : (d : DraftContents) (chain : Sgl) → length (draft_segments d) ≡ length d.chain_pages → chain.segments ≡ draft_segments d → chain.first ≡ draft_first d →
    SpellsWhereLaid (numbers_of d.chain_pages) chain (draft_parts d) → SpellsItsParts (built d)
built_spells d chain count segments first spells = λ moves m held.
    rw (same_numbers (draft_segments d) d.chain_pages count, ← first)
    (spells m (rw segments (held_laid m (draft_segments d) d.chain_pages (omega (arith, count)) held)))

-- A draft without a list has no chain.

laid-none : (segments : List (List Descriptor)) → laid segments [] ≡ []
laid-none [] = refl
laid-none (s ∷ segments) = refl

no_pages : (pages : PagesOut) → length pages ≡ 0 → pages ≡ []
no_pages [] none = refl
no_pages (page ∷ pages) none = absurd (omega (arith, none))

-- the page of an admin command is one part at most, which needs no chain
one_part : (page : PageUse) (pieces : List Piece) (pages : List ℕ) (segment : ℕ) → has_its_page page pieces ≡ true → pages_needed (length (joined_parts pieces pages)) segment ≡ 0
one_part page [] pages segment h = refl
one_part page (Data offset len ∷ []) [] segment h = refl
one_part page (Data offset len ∷ []) (n ∷ pages) segment h = refl
one_part page (Data offset len ∷ piece ∷ pieces) pages segment h = absurd (true≢false (sym h))
one_part page (Bucket len ∷ pieces) pages segment h = absurd (true≢false (sym h))

no_part : (r : Request) (pages : List ℕ) (segment : ℕ) → IsGood r → has_list r.kind ≡ false → is_admin r.kind ≡ false → pages_needed (length (joined_parts r.pieces pages)) segment ≡ 0
no_part r pages segment good still far =
    ap (λ (pieces : List Piece). pages_needed (length (joined_parts pieces pages)) segment) (no_pieces r.kind r.block_size r.blocks r.pieces good still far)

none_needed : (kind : Kind) (r : Request) (pages : List ℕ) (segment : ℕ) → r.kind ≡ kind → IsGood r → has_list kind ≡ false → pages_needed (length (joined_parts r.pieces pages)) segment ≡ 0
none_needed Read r pages segment is good still = absurd (true≢false still)
none_needed Write r pages segment is good still = absurd (true≢false still)
none_needed Compare r pages segment is good still = absurd (true≢false still)
none_needed Deallocate r pages segment is good still = absurd (true≢false still)
none_needed WriteZeroes r pages segment is good still = no_part r pages segment good (ap has_list is) (ap is_admin is)
none_needed Verify r pages segment is good still = no_part r pages segment good (ap has_list is) (ap is_admin is)
none_needed Flush r pages segment is good still = no_part r pages segment good (ap has_list is) (ap is_admin is)
none_needed (Admin command) r pages segment is good still =
    one_part command.page r.pieces pages segment (sym (ap (λ (k : Kind). has_its_bytes k r.block_size r.blocks r.pieces) is) ∙ has_bytes r.kind r.block_size r.blocks r.pieces good)

pub no_chain : (d : DraftContents) → IsDraft d → has_list d.request.kind ≡ false → d.chain_pages ≡ []
no_chain d h still = no_pages d.chain_pages (h.chain_has_pages ∙ none_needed d.request.kind d.request (numbers_of d.data_pages) d.segment refl h.good still)

-- with its entry it is built
pub built_as : (d : DraftContents) (entry : SubEntry) → IsDraft d → has_list d.request.kind ≡ false → entry ≡ draft_entry d → ◌≡◌ {A = DraftContents} (record d { entry = Some entry }) (built d)
built_as d entry h still is =
    let none : d.chain_pages ≡ [] = no_chain d h still in
    let laid_there : laid (draft_segments d) d.chain_pages ≡ d.chain_pages = ap (laid (draft_segments d)) none ∙ laid-none (draft_segments d) ∙ sym none in
    rw (laid_there, is) refl

-- the entry of a command of blocks, and of an admin command
pub entry_of_blocks : (kind : Kind) (cid : ℕ) (r : Request) (sgl1 : List ℕ) (pages : List ℕ) → is_admin kind ≡ false → entry_of kind cid r sgl1 pages ≡ io_entry cid r sgl1
entry_of_blocks Read cid r sgl1 pages far = refl
entry_of_blocks Write cid r sgl1 pages far = refl
entry_of_blocks Compare cid r sgl1 pages far = refl
entry_of_blocks WriteZeroes cid r sgl1 pages far = refl
entry_of_blocks Verify cid r sgl1 pages far = refl
entry_of_blocks Flush cid r sgl1 pages far = refl
entry_of_blocks Deallocate cid r sgl1 pages far = refl
entry_of_blocks (Admin command) cid r sgl1 pages far = absurd (true≢false far)

pub draft_of_blocks : (d : DraftContents) → is_admin d.request.kind ≡ false → draft_entry d ≡ io_entry d.cid d.request (spelling (draft_first d))
draft_of_blocks d far = entry_of_blocks d.request.kind d.cid d.request (spelling (draft_first d)) (numbers_of d.data_pages) far

pub draft_of_admin : (d : DraftContents) (command : AdminCommand) → d.request.kind ≡ Admin command → draft_entry d ≡ caller_entry d.cid d.request.nsid command (numbers_of d.data_pages)
draft_of_admin d command is = ap (λ (k : Kind). entry_of k d.cid d.request (spelling (draft_first d)) (numbers_of d.data_pages)) is

pub built_still : (d : DraftContents) (entry : SubEntry) → IsDraft d → has_list d.request.kind ≡ false → is_admin d.request.kind ≡ false → entry ≡ io_entry d.cid d.request (replicate 16 0)
    → ◌≡◌ {A = DraftContents} (record d { entry = Some entry }) (built d)
built_still d entry h still far is =
    let named : io_entry d.cid d.request (replicate 16 0) ≡ io_entry d.cid d.request (spelling (draft_first d)) = rw still refl in
    built_as d entry h still (is ∙ named ∙ sym (draft_of_blocks d far))

pub no_segments : (d : DraftContents) → IsDraft d → has_list d.request.kind ≡ false → length (draft_segments d) ≡ length d.chain_pages
no_segments d h still =
    let none : d.chain_pages ≡ [] = no_chain d h still in
    ap (λ (pages : PagesOut). length (segments_on d.segment (numbers_of pages) (draft_parts d))) none ∙ ap length (sym none)

pub still_keeps : (d : DraftContents) → IsDraft d → has_list d.request.kind ≡ false → IsDraft (built d)
still_keeps d h still = built_keeps d (no_segments d h still) h

-- Filling a draft's data pages.

pub length-filled : (pieces : List Piece) (pages : PagesOut) (bytes : List ℕ) → length (filled pieces pages bytes) ≡ length pages
length-filled [] pages bytes = refl
length-filled (Bucket len ∷ pieces) pages bytes = length-filled pieces pages bytes
length-filled (Data offset len ∷ pieces) [] bytes = refl
length-filled (Data offset len ∷ pieces) (page ∷ pages) bytes = omega (arith, length-filled pieces pages (drop len bytes))

pub numbers_of-filled : (pieces : List Piece) (pages : PagesOut) (bytes : List ℕ) → numbers_of (filled pieces pages bytes) ≡ numbers_of pages
numbers_of-filled [] pages bytes = refl
numbers_of-filled (Bucket len ∷ pieces) pages bytes = numbers_of-filled pieces pages bytes
numbers_of-filled (Data offset len ∷ pieces) [] bytes = refl
numbers_of-filled (Data offset len ∷ pieces) (page ∷ pages) bytes = ap (λ (numbers : List ℕ). page.0 ∷ numbers) (numbers_of-filled pieces pages (drop len bytes))

-- the first pages are filled, and those after stay
pub front : (pieces : List Piece) (n : ℕ) (pages : PagesOut) (bytes : List ℕ) → n ≤ length pages →
    take n (filled pieces (take n pages) bytes ++ drop n pages) ≡ filled pieces (take n pages) bytes
front pieces n pages bytes few =
    let count : length (filled pieces (take n pages) bytes) ≡ n = length-filled pieces (take n pages) bytes ∙ length-take-le n pages few in
    subst (λ (k : ℕ). take k (filled pieces (take n pages) bytes ++ drop n pages) ≡ filled pieces (take n pages) bytes) count (take-append_seam (filled pieces (take n pages) bytes) (drop n pages))

pub behind : (pieces : List Piece) (n : ℕ) (pages : PagesOut) (bytes : List ℕ) → n ≤ length pages →
    drop n (filled pieces (take n pages) bytes ++ drop n pages) ≡ drop n pages
behind pieces n pages bytes few =
    let count : length (filled pieces (take n pages) bytes) ≡ n = length-filled pieces (take n pages) bytes ∙ length-take-le n pages few in
    subst (λ (k : ℕ). drop k (filled pieces (take n pages) bytes ++ drop n pages) ≡ drop n pages) count (drop-append_seam (filled pieces (take n pages) bytes) (drop n pages))

-- a draft whose data pages are filled
pub built_filled : (d : DraftContents) (pages : PagesOut) (entry : Option SubEntry) → numbers_of pages ≡ numbers_of d.data_pages → IsBuiltIfAny d entry → IsBuiltIfAny (record d { data_pages = pages }) entry
built_filled d pages None same h = tt
built_filled d pages (Some e) same h = rw same (ap (λ (x : DraftContents). record x { data_pages = pages }) h)

pub fill_keeps : (d : DraftContents) (bytes : List ℕ) → IsDraft d → IsDraft (record d { data_pages = filled d.request.pieces d.data_pages bytes })
fill_keeps d bytes h =
    record {
      good = h.good;
      low = h.low;
      high = h.high;
      pieces_have_pages = length-filled d.request.pieces d.data_pages bytes ∙ h.pieces_have_pages;
      chain_has_pages = h.chain_has_pages
          ∙ ap (λ (numbers : List ℕ). pages_needed (length (joined_parts d.request.pieces numbers)) d.segment) (sym (numbers_of-filled d.request.pieces d.data_pages bytes));
      built = built_filled d (filled d.request.pieces d.data_pages bytes) d.entry (numbers_of-filled d.request.pieces d.data_pages bytes) h.built;
    }

-- a draft has its data pages
pub enough_pages : (d : DraftContents) (pages : PagesOut) (n : ℕ) → n ≡ data_count d.request.pieces → length (take (data_count d.request.pieces) pages) ≡ data_count d.request.pieces → n ≤ length pages
enough_pages d pages n is h = omega (arith, is, h, length-take (data_count d.request.pieces) pages)

-- a draft's contents, once the first of its pages are filled
pub filled_contents : (d : DraftContents) (items new : PagesOut) (n : ℕ) (bytes : List ℕ) → n ≡ data_count d.request.pieces → n ≤ length items → d.data_pages ≡ take n items → d.chain_pages ≡ drop n items →
    new ≡ filled d.request.pieces (take n items) bytes ++ drop n items →
    ◌≡◌ {A = DraftContents} (record d { data_pages = take (data_count d.request.pieces) new; chain_pages = drop (data_count d.request.pieces) new }) (record d { data_pages = filled d.request.pieces d.data_pages bytes })
filled_contents d items new n bytes is few in_data in_chain wrote =
    rw (← is, wrote, front d.request.pieces n items bytes few, behind d.request.pieces n items bytes few, in_data, ← in_chain) refl

-- What a built draft's entry and pages say.

-- a draft with an entry is built
is_built : (d : DraftContents) (o : Option SubEntry) (entry : SubEntry) → o ≡ Some entry → IsBuiltIfAny d o → IsBuilt d
is_built d None entry e h = absurd cc
is_built d (Some other) entry e h = h

pub carries_entry : DraftsCarryTheirEntry
carries_entry d entry h e =
    let same : built d ≡ d = is_built d d.entry entry e h.built in
    let named : Some (draft_entry d) ≡ Some entry = ap (λ (x : DraftContents). x.entry) same ∙ e in
    cc

-- no chain has more segments than pages
few_of : (b : Bool) (one more : List Descriptor) (rest : List (List Descriptor)) (n : ℕ) → length rest ≤ n → length (if b then one ∷ [] else more ∷ rest) ≤ suc n
few_of true one more rest n few = omega arith
few_of false one more rest n few = omega arith

segments_few : (s : ℕ) (pages : List ℕ) (parts : List Part) → length (segments_on s pages parts) ≤ length pages
segments_few s [] parts = omega arith
segments_few s (page ∷ pages) parts = few_of (nat_le (length parts) s) _ _ _ (length pages) (segments_few s pages (drop (s - 1) parts))

pub few_pieces : (kind : Kind) (size : BlockSize) (blocks : ℕ) (pieces : List Piece) → fault_of kind size blocks pieces ≡ None → length pieces ≤ 1024
few_pieces kind size blocks pieces h = grind (arith, nat_tests)

-- the entry of one that moves data names its blocks: the bits of its flags lie above those of their number
blocks_below : (a b : Bool) (n : ℕ) → n < 65536 → (n + ((if a then 2 ^ 30 else 0) + (if b then 2 ^ 31 else 0))) % 65536 ≡ n
blocks_below true true n few = omega (arith, few)
blocks_below true false n few = omega (arith, few)
blocks_below false true n few = omega (arith, few)
blocks_below false false n few = omega (arith, few)

pub entry_blocks : (cid : ℕ) (r : Request) (sgl1 : List ℕ) → IsGood r → moves_data r.kind ≡ true → block_number (io_entry cid r sgl1) ≡ r.blocks
entry_blocks cid r sgl1 good moves =
    let some = some_blocks r.kind r.block_size r.blocks r.pieces good (moves_list r.kind moves) in
    let few_of = few_blocks r.kind r.block_size r.blocks r.pieces good in
    let few = few_of_a_size r.block_size in
    let word : dword_12 r ≡ r.blocks - 1 + flag_bits r.flags = ap (λ (b : Bool). if b then 0 else r.blocks - 1 + flag_bits r.flags) (moves_no_ranges r.kind moves) in
    omega (arith, word, blocks_below r.flags.force_unit_access r.flags.limited_retry (r.blocks - 1) (omega (arith, some, few)), some)

-- and its first block
pub entry_block : (cid : ℕ) (r : Request) (sgl1 : List ℕ) → moves_data r.kind ≡ true → first_block (io_entry cid r sgl1) ≡ r.slba
entry_block cid r sgl1 moves =
    let low : dword_10 r ≡ r.slba % 4294967296 = ap (λ (b : Bool). if b then r.blocks - 1 else r.slba % 4294967296) (moves_no_ranges r.kind moves) in
    let high : dword_11 r ≡ r.slba / 4294967296 = ap (λ (b : Bool). if b then 4 else r.slba / 4294967296) (moves_no_ranges r.kind moves) in
    omega (arith, low, high)

-- and they leave room for that number
flags_below : (a b : Bool) → (if a then 2 ^ 30 else 0) + (if b then 2 ^ 31 else 0) ≤ 2 ^ 30 + 2 ^ 31
flags_below true true = omega arith
flags_below true false = omega arith
flags_below false true = omega arith
flags_below false false = omega arith

pub flags_fit : (flags : Flags) → flag_bits flags ≤ 2 ^ 30 + 2 ^ 31
flags_fit flags = flags_below flags.force_unit_access flags.limited_retry

-- the fields of a draft's parts fit their types
abbrev FitsPart : Part → Type 0
FitsPart part = Fits (descriptor_of_part part)

parts_fit : (pieces : List Piece) (numbers : List ℕ) → All FitsPiece pieces → All (λ page. page < 2 ^ 32) numbers → All FitsPart (parts_of pieces numbers)
parts_fit [] numbers fit low = All-nil FitsPart
parts_fit (Bucket len ∷ pieces) numbers fit low =
    All-cons FitsPart (part.Bucket len) (parts_of pieces numbers) (All-head FitsPiece (Bucket len) pieces fit) (parts_fit pieces numbers (All-tail FitsPiece (Bucket len) pieces fit) low)
parts_fit (Data offset len ∷ pieces) [] fit low = All-nil FitsPart
parts_fit (Data offset len ∷ pieces) (n ∷ numbers) fit low =
    let here = All-head FitsPiece (Data offset len) pieces fit in
    let page : n < 2 ^ 32 = All-head (λ page. page < 2 ^ 32) n numbers low in
    All-cons FitsPart (part.Data (4096 * n + offset) len) (parts_of pieces numbers) (omega (arith, here.0), here.1)
    (parts_fit pieces numbers (All-tail FitsPiece (Data offset len) pieces fit) (All-tail (λ page. page < 2 ^ 32) n numbers low))

-- and so do those of the joined ones: what two become is where the first is, and their lengths together fit
both_fits : (part next : Part) → joins part next ≡ true → FitsPart part → FitsPart (both part next)
both_fits (part.Data addr len) (part.Data next more) is fit = (fit.0, grind (arith, nat_tests))
both_fits (part.Data addr len) (part.Bucket more) is fit = fit
both_fits (part.Bucket len) next is fit = fit

either_fit : (b : Bool) (xs ys : List Part) → (b ≡ true → All FitsPart xs) → All FitsPart ys → All FitsPart (if b then xs else ys)
either_fit true xs ys p q = p refl
either_fit false xs ys p q = q

from_fit : (part : Part) (parts : List Part) → FitsPart part → All FitsPart parts → All FitsPart (joined_from part parts)
from_fit part [] fit fits = All-cons FitsPart part [] fit fits
from_fit part (next ∷ parts) fit fits =
    let here = All-head FitsPart next parts fits in
    let behind = All-tail FitsPart next parts fits in
    either_fit (joins part next) (joined_from (both part next) parts) (part ∷ joined_from next parts)
    (λ is. from_fit (both part next) parts (both_fits part next is fit) behind)
    (All-cons FitsPart part (joined_from next parts) fit (from_fit next parts here behind))

joined_fit : (parts : List Part) → All FitsPart parts → All FitsPart (joined parts)
joined_fit [] fits = All-nil FitsPart
joined_fit (part ∷ parts) fits =
    subst (All FitsPart) (sym (from_list part parts)) (from_fit part parts (All-head FitsPart part parts fits) (All-tail FitsPart part parts fits))

pub built_drafts_spell : ((s : ℕ) → LaidChainsSpell s) → BuiltDraftsSpell
built_drafts_spell law d entry h fits e = λ list m held.
    let enough : data_count d.request.pieces ≤ length (numbers_of d.data_pages) = omega (arith, length-map d.data_pages (λ page. page.0), h.pieces_have_pages) in
    let laid_there : laid (draft_segments d) d.chain_pages ≡ d.chain_pages = ap (λ (x : DraftContents). x.chain_pages) (is_built d d.entry entry e h.built) in
    let few : length (draft_segments d) ≤ length d.chain_pages = omega (arith, segments_few d.segment (numbers_of d.chain_pages) (draft_parts d), length-map d.chain_pages (λ page. page.0)) in
    law d.segment (numbers_of d.chain_pages) (draft_parts d)
    (record {
      low = h.low;
      high = h.high;
      some = some_parts d.request (numbers_of d.data_pages) h.good list enough;
      needed = length-map d.chain_pages (λ page. page.0) ∙ h.chain_has_pages;
    })
    (record {
      pages_fit = fits.chain_pages;
      parts_fit = joined_fit (parts_of d.request.pieces (numbers_of d.data_pages)) (parts_fit d.request.pieces (numbers_of d.data_pages) fits.request.pieces fits.data_pages);
    })
    (omega (arith, joined_parts_few d.request.pieces (numbers_of d.data_pages), few_pieces d.request.kind d.request.block_size d.request.blocks d.request.pieces h.good))
    m (held_laid m (draft_segments d) d.chain_pages few (subst (HoldsPages m) (sym laid_there) held))
