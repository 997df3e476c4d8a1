use Rattle.std.{proofs.Common.{◌≡◌, ◌≤◌, map, take, length, vec_len}, specs.Vec.vec_capacity}
use Rattle.io_commands.proofs.layout.numbers_of.Given as goal

abbrev pub invariant-loop-page : goal.invariant-loop-page
invariant-loop-page g l =
    record {
      numbers : l.numbers.items ≡ map (λ page. page.0) (take l.page-index l.pages);
      count : vec_len l.numbers ≡ l.page-index;
      room : length l.pages ≤ vec_capacity l.numbers;
    }
