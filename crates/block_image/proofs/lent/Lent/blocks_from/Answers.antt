use Rattle.std.proofs.Common.{◌≡◌, ◌+◌, ◌-◌, ◌*◌, arith, sym}
use Rattle.block_image.proofs.Lending.{lies_in, shown_part}
use Rattle.block_image.proofs.lent.Lent.blocks_from.Goals as goal

pub returns : goal.returns
returns c =
    let s = c.args.self.now in
    let len : (512 * (c.args.slba - s.first) + 512 * c.args.count) - 512 * (c.args.slba - s.first) ≡ 512 * c.args.count = omega arith in
    rw len (sym (shown_part s.blocks s.first s.bytes.now c.args.slba c.args.count s.part (lies_in s.first s.bytes.now c.args.slba c.args.count c.requires)))
