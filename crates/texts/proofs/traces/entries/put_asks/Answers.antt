-- The pieces come one after the other.
use Rattle.std.proofs.Common.{rules, ◌≡◌, ◌++◌, OnOk, codes, decimal, string_bytes}
use Rattle.std.proofs.lemmas.Result.{on_ok_weaker}
use Rattle.texts.{proofs.Appended.put_behind, specs.{Fields.asks_text, Slots.byte_text}}
use Rattle.texts.proofs.traces.entries.put_asks.Goals as goal

pub returns : goal.returns
unfolding asks_text
returns c =
    let before = string_bytes c.args.out.now in
    let entry = c.args.entry.now in
    let rest = codes "h " ++ (c.args.name.now ++ (codes ", FUSE " ++ (decimal entry.fuse ++ (codes ", PSDT " ++ decimal entry.psdt)))) in
    let one : string_bytes c.push_str.new.self ≡ before ++ codes "    OPC" = search rules in
    let two : string_bytes c.put_byte.new.out ≡ before ++ (codes "    OPC" ++ byte_text entry.opcode) = put_behind before (codes "    OPC") (byte_text entry.opcode) one c.in_ok-put_byte.ensures in
    let put : OnOk c.write.result (string_bytes c.write.new.self ≡ string_bytes c.put_byte.new.out ++ rest) = search rules in
    on_ok_weaker c.write.result (λ put. put_behind before (codes "    OPC" ++ byte_text entry.opcode) rest two put) put
