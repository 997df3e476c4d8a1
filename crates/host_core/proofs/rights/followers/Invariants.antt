use Rattle.std.proofs.Common.{◌≡◌, ◌+◌, drop}
use Rattle.host_core.specs.Rights.{following}
use Rattle.host_core.proofs.rights.followers.Given as goal

-- the pages so far follow one another
abbrev pub invariant-loop-page : goal.invariant-loop-page
invariant-loop-page l = record {
  follow : following l.fn.first l.fn.pages ≡ l.count + following l.last (drop l.count l.fn.pages);
  count : l.count ≡ l.page-index;
}
