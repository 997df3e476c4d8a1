use Rattle.std.proofs.Common.{◌≡◌, ◌++◌, ◌*◌, take, drop}
use Rattle.sgl_chain.specs.Chains.{segment_bytes}
use Rattle.sgl_chain.proofs.segment.lay_descriptors.Given as goal

abbrev pub invariant-loop-i : goal.invariant-loop-i
invariant-loop-i g l =
    record {
      number : l.page.0 ≡ l.initial.page.0;
      bytes : l.page.1 ≡ segment_bytes (take l.i l.descriptors) ++ drop (16 * l.i) l.initial.page.1;
    }
