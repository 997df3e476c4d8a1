use Rattle.std.proofs.Common.{rules, arith, ◌≡◌, ◌++◌, ◌+◌, ◌<◌, length, refl, sym, string_bytes}
use Rattle.shell.proofs.Shown.{goes_on, comes_to_end}
use Rattle.shell.proofs.pages.say_bytes.Goals as goal

pub loop-row-preserved : goal.loop-row-preserved
loop-row-preserved c = search (rules, goes_on (string_bytes c.loop-row.out) (string_bytes c.say_next.new.out) c.loop-row.before c.loop-row.at c.loop-row.rest.now c.in-Some.row.now c.in-Some.behind.now _ c.loop-row.invariant.rows)

pub returns : goal.returns
returns c = let short : length c.loop-row.rest.now < 16 = search rules in comes_to_end _ _ _ _ _ c.loop-row.invariant.rows short
