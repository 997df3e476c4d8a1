-- The rules for the fields of an entry.
use Rattle.entry_codec.specs.declared.status.Status.{Status}
use Rattle.entry_codec.specs.declared.status.TheConstants.Status.{INVALID_OPCODE, INVALID_FIELD, INVALID_NAMESPACE, LBA_OUT_OF_RANGE}
use Rattle.views.specs.declared.explain.rule.FieldRule.{FieldRule, TheVariants.{Opcode, Namespace, Fuse, Psdt, Blocks, Range}}

-- the status of a command whose entry breaks a rule
abbrev pub status_of_rule : FieldRule → Status
status_of_rule Opcode = INVALID_OPCODE
status_of_rule Namespace = INVALID_NAMESPACE
status_of_rule Fuse = INVALID_FIELD
status_of_rule Psdt = INVALID_FIELD
status_of_rule Blocks = INVALID_FIELD
status_of_rule Range = LBA_OUT_OF_RANGE
