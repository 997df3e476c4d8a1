-- Ranges of bytes over the pages of a pool.
use Rattle.std.proofs.Common.{◌≡◌, ◌≢◌, ◌∙◌, ℕ, ◌+◌, ◌*◌, ◌<◌, ◌≤◌, ◌++◌, true, false, List, Some, None, refl, ap, length, take, drop}
use Rattle.page_memory.specs.{Memory.{bytes_at, written}, Pages.with_bytes}
use Rattle.views.specs.Sparse.{SparsePool, bytes_of_page, with_page, is_there, page_in, byte_in}
use Rattle.views.specs.declared.sparse_memory.GivenPage.{GivenPage}
use Rattle.views.proofs.SparseGiven.{AreWhole, length-bytes, whole-with, bytes-with_same, bytes-with_other}
use Rattle.views.proofs.SparseBytes.{missing_first, missing_second, found_first, found_both, there_first, there_both, wrote_page, length_with}

there : (pool : SparsePool) (p : ℕ) → is_there pool p ≡ true → page_in pool p ≡ Some (bytes_of_page pool.given p)
there pool p e = rw e refl

not_there : (pool : SparsePool) (p : ℕ) → is_there pool p ≡ false → page_in pool p ≡ None
not_there pool p e = rw e refl

pub first_is_missing : (pool : SparsePool) (addr n page at : ℕ) → 4096 * page + at ≡ addr → at < 4096 → 0 < n → is_there pool page ≡ false → bytes_at (byte_in pool) addr n ≡ None
unfolding byte_in
first_is_missing pool addr n page at place small some out = missing_first (page_in pool) addr n page at place small some (not_there pool page out)

pub second_is_missing : (pool : SparsePool) (addr n page at front back : ℕ) → 4096 * page + at ≡ addr → at + front ≡ 4096 → front + back ≡ n → 0 < back → is_there pool (page + 1) ≡ false →
    bytes_at (byte_in pool) addr n ≡ None
unfolding byte_in
second_is_missing pool addr n page at front back place border sum some out =
    missing_second (page_in pool) addr n page at front back place border sum some (not_there pool (page + 1) out)

pub first_is_read : (pool : SparsePool) (addr n page at front back : ℕ) (copied rest : List ℕ) → AreWhole pool.given → 4096 * page + at ≡ addr → at + front ≤ 4096 → front + back ≡ n → back ≡ 0 →
    is_there pool page ≡ true → copied ≡ take front (drop at (bytes_of_page pool.given page)) → length rest ≡ 0 → bytes_at (byte_in pool) addr n ≡ Some (copied ++ rest)
unfolding byte_in
first_is_read pool addr n page at front back copied rest whole place fits sum none is copy over =
    found_first (page_in pool) addr n page at front back (bytes_of_page pool.given page) copied rest place fits sum none (there pool page is) (length-bytes pool.given page whole) copy over

pub both_are_read : (pool : SparsePool) (addr n page at front back : ℕ) (copied rest : List ℕ) → AreWhole pool.given → 4096 * page + at ≡ addr → at + front ≡ 4096 → front + back ≡ n → back ≤ 4096 →
    is_there pool page ≡ true → is_there pool (page + 1) ≡ true → copied ≡ take front (drop at (bytes_of_page pool.given page)) → rest ≡ take back (drop 0 (bytes_of_page pool.given (page + 1))) →
    bytes_at (byte_in pool) addr n ≡ Some (copied ++ rest)
unfolding byte_in
both_are_read pool addr n page at front back copied rest whole place border sum few is is' copy copy' =
    found_both (page_in pool) addr n page at front back (bytes_of_page pool.given page) (bytes_of_page pool.given (page + 1)) copied rest place border sum few
    (there pool page is) (length-bytes pool.given page whole) (there pool (page + 1) is') (length-bytes pool.given (page + 1) whole) copy copy'

pub first_is_there : (pool : SparsePool) (addr n page at front back : ℕ) → AreWhole pool.given → 4096 * page + at ≡ addr → at + front ≤ 4096 → front + back ≡ n → back ≡ 0 →
    is_there pool page ≡ true → bytes_at (byte_in pool) addr n ≢ None
unfolding byte_in
first_is_there pool addr n page at front back whole place fits sum none is =
    there_first (page_in pool) addr n page at front back (bytes_of_page pool.given page) place fits sum none (there pool page is) (length-bytes pool.given page whole)

pub both_are_there : (pool : SparsePool) (addr n page at front back : ℕ) → AreWhole pool.given → 4096 * page + at ≡ addr → at + front ≡ 4096 → front + back ≡ n → back ≤ 4096 →
    is_there pool page ≡ true → is_there pool (page + 1) ≡ true → bytes_at (byte_in pool) addr n ≢ None
unfolding byte_in
both_are_there pool addr n page at front back whole place border sum few is is' =
    there_both (page_in pool) addr n page at front back (bytes_of_page pool.given page) (bytes_of_page pool.given (page + 1)) place border sum few
    (there pool page is) (length-bytes pool.given page whole) (there pool (page + 1) is') (length-bytes pool.given (page + 1) whole)

-- What a write makes of a pool.

-- a page with bytes in place starting at an offset
abbrev pub put_bytes : List GivenPage → ℕ → ℕ → List ℕ → List GivenPage
put_bytes given p at new = with_page given p (with_bytes (bytes_of_page given p) at new)

pub whole-put : (given given' : List GivenPage) (p at : ℕ) (new : List ℕ) → given' ≡ put_bytes given p at new → AreWhole given → at + length new ≤ 4096 → AreWhole given'
whole-put given given' p at new is whole fits =
    rw is (whole-with given p (with_bytes (bytes_of_page given p) at new) whole (length_with (bytes_of_page given p) new at (length-bytes given p whole) fits))

same_pages : (first count : ℕ) (given : List GivenPage) (out : List ℕ) (p at q : ℕ) (new : List ℕ) → q ≢ p →
    page_in (record { first = first; count = count; given = put_bytes given p at new; out = out }) q ≡ page_in (record { first = first; count = count; given = given; out = out }) q
same_pages first count given out p at q new other = rw (bytes-with_other given p q (with_bytes (bytes_of_page given p) at new) other) refl

pub wrote : (first count : ℕ) (given given' : List GivenPage) (out : List ℕ) (p at : ℕ) (new : List ℕ) → given' ≡ put_bytes given p at new → AreWhole given →
    is_there (record { first = first; count = count; given = given; out = out }) p ≡ true → at + length new ≤ 4096 →
    byte_in (record { first = first; count = count; given = given'; out = out }) ≡ written (byte_in (record { first = first; count = count; given = given; out = out })) (4096 * p + at) new
unfolding byte_in
wrote first count given given' out p at new put whole is fits =
    rw put
    (wrote_page (page_in (record { first = first; count = count; given = given; out = out })) (page_in (record { first = first; count = count; given = put_bytes given p at new; out = out })) p at new
    (bytes_of_page given p) (there (record { first = first; count = count; given = given; out = out }) p is) (length-bytes given p whole) fits
    (there (record { first = first; count = count; given = put_bytes given p at new; out = out }) p is ∙ ap (λ (bytes : List ℕ). Some bytes) (bytes-with_same given p (with_bytes (bytes_of_page given p) at new)))
    (λ q other. same_pages first count given out p at q new other))
