-- the pages left go on to the same text from the text so far
use Rattle.std.proofs.Common.{◌≡◌, ◌++◌, length, string_bytes}
use Rattle.script_cli.specs.Replies.{more_pages}
use Rattle.script_cli.proofs.reply.put_more_pages.Given as goal

abbrev pub invariant-loop-page : goal.invariant-loop-page
invariant-loop-page l = string_bytes l.out ++ more_pages l.rest ≡ string_bytes l.fn.out ++ more_pages l.fn.pages

abbrev pub decreases-loop-page : goal.decreases-loop-page
decreases-loop-page l = length l.rest
