use Rattle.std.{proofs.Common.{◌≡◌, ◌≤◌, ◌*◌, false, take, length}, specs.List.list_any}
use Rattle.io_commands.specs.Requests.{is_empty_piece, crosses_page, counted_lengths}
use Rattle.io_commands.proofs.request.Request+A.check.Given as goal

abbrev pub invariant-loop-piece : goal.invariant-loop-piece
invariant-loop-piece g l =
    record {
      few : length l.pieces ≤ 1024;
      none_empty : list_any is_empty_piece (take l.piece-index l.pieces) ≡ false;
      crosses : l.crosses ≡ list_any crosses_page (take l.piece-index l.pieces);
      counted : l.counted ≡ counted_lengths l.self.kind (take l.piece-index l.pieces);
      bound : l.counted ≤ l.piece-index * 4294967295;
    }
