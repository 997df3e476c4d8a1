-- The name that the status has follows it.
use Rattle.std.proofs.Common.{rules, ◌≡◌, ◌++◌, OnOk, Some, string_bytes}
use Rattle.std.proofs.lemmas.Result.{on_ok_weaker}
use Rattle.texts.{proofs.Appended.put_behind, specs.Fields.named_text}
use Rattle.texts.proofs.traces.entries.put_completion_fields.Goals as goal

pub returns-in-Some : goal.returns-in-Some
returns-in-Some c =
    let name = Some c.in-Some.name.now in
    let put : OnOk c.write.result (string_bytes c.write.new.self ≡ string_bytes c.put_completion_head.new.out ++ named_text c.args.entry.now.status name) = search rules in
    on_ok_weaker c.write.result (λ put. record { name = name; put = put_behind _ _ _ c.in_ok-put_completion_head.ensures put }) put
