use Rattle.std.proofs.Common.{◌≡◌, ◌≤◌, ◌-◌, length, take}
use Rattle.page_memory.specs.Memory.{written}
use Rattle.nvmesgl_c.specs.Regions.{byte_in, hidden_in, table_of}
use Rattle.nvmesgl_c.proofs.words.region.copy_to.Given as goal

abbrev pub invariant-loop-run : goal.invariant-loop-run
invariant-loop-run l = record {
  few : l.done ≤ length l.bytes;
  table : table_of l.regions ≡ table_of l.fn.regions;
  hidden : hidden_in l.regions ≡ hidden_in l.fn.regions;
  written : byte_in l.regions ≡ written (byte_in l.fn.regions) l.addr (take l.done l.bytes);
}

abbrev pub decreases-loop-run : goal.decreases-loop-run
decreases-loop-run l = length l.bytes - l.done
