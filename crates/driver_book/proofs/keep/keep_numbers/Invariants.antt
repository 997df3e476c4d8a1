use Rattle.std.proofs.Common.{◌≡◌, ◌+◌, ◌++◌, map, take, vec_len, vec_capacity}
use Rattle.driver_book.proofs.keep.keep_numbers.Given as goal

abbrev pub invariant-loop-page : goal.invariant-loop-page
invariant-loop-page g l = record {
  items : l.list.items ≡ l.fn.list.items ++ map (λ page. page.0) (take l.page-index l.pages);
  count : vec_len l.list ≡ vec_len l.fn.list + l.page-index;
  capacity : vec_capacity l.list ≡ vec_capacity l.fn.list;
}
