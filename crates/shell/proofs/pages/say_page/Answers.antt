-- A page that is in has its bytes.
use Rattle.std.proofs.Common.{rules, ◌≡◌, ◌*◌, Some, nat_le, false, length, string_bytes}
use Rattle.page_ledger.specs.declared.owner.Owner.TheVariants.{Free}
use Rattle.page_memory.specs.{Memory.bytes_at, Pages.byte_at}
use Rattle.shell.{proofs.Shown.{in_text, not_out, on_ok}, specs.Pages.bytes_text}
use Rattle.shell.proofs.pages.say_page.Goals as goal

pub returns-in-Ok-clause-said : goal.returns-in-Ok-clause-said
returns-in-Ok-clause-said c = on_ok c.say_bytes.result (string_bytes c.say_bytes.new.out ≡ bytes_text c.read.new.into) _ (λ text. record {
  owner = Free;
  owns = λ lt none. not_out _ (bytes_at (byte_at c.args.bench.now.table.world.memory) (4096 * c.args.p) 4096) c.read.new.into has none;
  said = in_text (length c.args.bench.now.table.world.memory) c.args.p (bytes_at (byte_at c.args.bench.now.table.world.memory) (4096 * c.args.p) 4096) c.read.new.into _ Free inside has text;
}) (search rules)
  where
    has : bytes_at (byte_at c.args.bench.now.table.world.memory) (4096 * c.args.p) 4096 ≡ Some c.read.new.into
    has = search rules

    inside : nat_le (length c.args.bench.now.table.world.memory) c.args.p ≡ false
    inside = search rules
