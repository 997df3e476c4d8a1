use Rattle.std.proofs.Common.{◌≡◌, ◌+◌, ◌++◌, take, vec_len, vec_capacity}
use Rattle.driver_book.proofs.keep.keep_pieces.Given as goal

abbrev pub invariant-loop-piece : goal.invariant-loop-piece
invariant-loop-piece g l = record {
  items : l.list.items ≡ l.fn.list.items ++ take l.piece-index l.pieces;
  count : vec_len l.list ≡ vec_len l.fn.list + l.piece-index;
  capacity : vec_capacity l.list ≡ vec_capacity l.fn.list;
}
