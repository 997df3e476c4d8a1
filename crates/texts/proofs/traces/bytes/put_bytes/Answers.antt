use Rattle.std.proofs.Common.{rules, ◌<◌, length, string_bytes}
use Rattle.texts.proofs.RowTexts.{row_put, all_put}
use Rattle.texts.proofs.traces.bytes.put_bytes.Goals as goal

pub loop-row-preserved : goal.loop-row-preserved
loop-row-preserved c = search (rules, row_put (string_bytes c.loop-row.out) (string_bytes c.put_row.new.out) c.loop-row.rest.now c.in-Some.row.now c.in-Some.behind.now _ c.loop-row.invariant)

pub returns : goal.returns
returns c = let short : length c.loop-row.rest.now < 16 = search rules in all_put _ _ _ c.loop-row.invariant short
