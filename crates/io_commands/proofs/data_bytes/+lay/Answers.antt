use Rattle.std.proofs.Common.{◌+◌, ◌∙◌, ℕ, List, ap, arith, drop}
use Rattle.std.specs.Prelude.{slice_range}
use Rattle.io_commands.proofs.Laying.{piece_laid}
use Rattle.io_commands.proofs.data_bytes.+lay.Goals as goal

pub returns-in-Some-split_first : goal.returns-in-Some-split_first
returns-in-Some-split_first g t c =
    let here : List ℕ = slice_range c.bytes.result.now c.in-Data.offset (c.in-Data.offset + c.in-Data.len) in
    piece_laid c.args.pieces.now c.in-Some.others.now c.in-Some.piece.now c.in-Data.offset c.in-Data.len c.args.pages.now c.in-Some-split_first.behind.now c.in-Some-split_first.page.now c.args.into.now
    c.copy_from_slice.new.self c.split_at_mut-front.result.1.now here c.lay-in-Some-split_first.new.into
    c.in-Some.ensures.cases.0 c.in-Data.is c.in-Some-split_first.ensures.cases.0
    (ap (λ (bytes : List ℕ). slice_range bytes c.in-Data.offset (c.in-Data.offset + c.in-Data.len)) c.bytes.ensures.value)
    c.copy_from_slice.ensures.after (c.split_at_mut-front.ensures.back ∙ ap (λ (n : ℕ). drop n c.args.into.now) (omega arith)) c.lay-in-Some-split_first.ensures
