use Rattle.std.proofs.Common.{◌≡◌, ◌*◌, length}
use Rattle.io_commands.specs.BlockSizes.{block_bytes}
use Rattle.views.specs.Stored.{blocks_from}
use Rattle.views.proofs.explain.namespace.stored.Given as goal

abbrev pub invariant-loop-k : goal.invariant-loop-k
invariant-loop-k l = record {
  bytes : l.bytes.items ≡ blocks_from (block_bytes l.fn.namespace.size) l.fn.namespace.given.items l.first l.k;
  len : length l.bytes.items ≡ block_bytes l.fn.namespace.size * l.k;
}
