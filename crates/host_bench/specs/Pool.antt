-- What a device leaves of a pool.
use Rattle.std.specs.Prelude.{◌≡◌, ℕ, List, length}
use Rattle.machine_model.specs.{Memory.is_in, Script.Table}
use Rattle.page_memory.specs.{Memory.written, Pages.{Pages, IsPool, byte_at}}

-- each page stays in, or out
pub record Keeps (old new : Pages) : Type 0 where
  pub pool : IsPool new
  pub count : length new ≡ length old
  pub stays : (p : ℕ) → is_in new p ≡ is_in old p

-- the bytes are there, starting at an address, and all else is as it was
pub record IsWritten (t : Table) (addr : ℕ) (bytes : List ℕ) (new : Table) : Type 0 where
  pub rest : new ≡ record t { world = record t.world { memory = new.world.memory } }
  pub bytes_are : byte_at new.world.memory ≡ written (byte_at t.world.memory) addr bytes
  pub keeps : Keeps t.world.memory new.world.memory
