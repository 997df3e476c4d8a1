-- Calls and their replies, as contracts see them: requests with a list of pieces, and lists of bytes.
use Rattle.std.specs.Prelude.{ℕ, List}
use Rattle.io_commands.specs.Asked.{Request}
use Rattle.host_bench.specs.declared.call.Call as declared_call
use Rattle.host_bench.specs.declared.call.Reply as declared_reply

abbrev pub Call : Type 0
Call = declared_call.Call Request (List ℕ)

abbrev pub Reply : Type 0
Reply = declared_reply.Reply (List ℕ)
