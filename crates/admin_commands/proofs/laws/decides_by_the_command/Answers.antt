use Rattle.std.proofs.Common.{arith, ◌≡◌, ◌≢◌, ◌∙◌, sym, ap, Bool, true, false, Result, Ok, Err}
use Rattle.entry_codec.specs.declared.{status.{Status.Status, TheConstants.Status.INVALID_OPCODE}, submission.SubEntry.SubEntry}
use Rattle.admin_commands.specs.{Entries.kind_or_fault, Verdicts.{decision, abort_verdict, delete_sq_verdict, delete_cq_verdict}, declared.AdminKind.AdminKind}
use Rattle.admin_commands.specs.declared.{AdminKind.TheVariants.{Abort, DeleteSq, DeleteCq, CreateCq, CreateSq}, AdminVerdict.AdminVerdict}
use Rattle.admin_commands.specs.declared.{AdminVerdict.TheVariants.Answer, DeviceView.DeviceView}
use Rattle.admin_commands.proofs.laws.decides_by_the_command.Goals as goal

-- whether what an entry asks for is the creation of a queue
abbrev creates : Result AdminKind Status → Bool
creates (Ok (CreateCq q n base vector)) = true
creates (Ok (CreateSq q n base)) = true
creates v = false

-- what is decided for a command that is not a creation, or for a fault
abbrev verdict_on : Result AdminKind Status → DeviceView → AdminVerdict
verdict_on (Err fault) view = Answer fault 0
verdict_on (Ok (Abort q cid)) view = abort_verdict q cid view
verdict_on (Ok (DeleteSq q)) view = delete_sq_verdict q view
verdict_on (Ok (DeleteCq q)) view = delete_cq_verdict q view
verdict_on v view = Answer INVALID_OPCODE 0

no_creation : (entry : SubEntry) → entry.opcode ≢ 0x01 → entry.opcode ≢ 0x05 → creates (kind_or_fault entry) ≡ false
no_creation entry a b = grind arith

decided : (entry : SubEntry) (view : DeviceView) → creates (kind_or_fault entry) ≡ false → decision entry view ≡ verdict_on (kind_or_fault entry) view
decided entry view h = grind arith

pub returns-clause-no_creation : goal.returns-clause-no_creation
returns-clause-no_creation c one other view a b e =
    let none : creates (kind_or_fault one) ≡ false = no_creation one a b in
    decided one view none ∙ ap (λ (kind : Result AdminKind Status). verdict_on kind view) e ∙ sym (decided other view (sym (ap creates e) ∙ none))
