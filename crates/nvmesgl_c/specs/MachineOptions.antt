-- What the options of an opening say, and when a handle is not opened.
use Rattle.std.specs.Prelude.{◌≡◌, ℕ, Option, Some, None, Ok, Err, List}
use Rattle.host_core.specs.{Opening.{refusal_of_config, RefusesOpening}, declared.config.Config.Config}
use Rattle.machine_model.specs.Script.{Table, table}
use Rattle.nvmesgl_c.specs.{Answers.nothing, Images.{image_of, IsBadImage, IsGoodImage}, MachineKept.{Kept, cause_in}, NotOpening.{code_of_not_opened, fault_of_form, told_not_opened}}
use Rattle.nvmesgl_c.specs.declared.{machine.options.Options.Options, words.{answer.Answer.Answer, not_opened.NotOpened.NotOpened}}
use Rattle.step_core.specs.Opening.{opening_of}
use Rattle.nvmesgl_c.specs.declared.words.not_opened.NotOpened.TheVariants as not_opened

-- the configuration of an opening
abbrev pub config_of : Options → Config
config_of o = record { pages = o.pages; queues = o.queues; entries = o.entries; segment = o.segment }

-- what is wrong with the form of the options
abbrev pub fault_of : Options → Option NotOpened
fault_of o = fault_of_form 64 o.size o.reserved

-- when a handle is not opened for a cause: the first that holds; memory is refused only where there is no other
abbrev pub IsWhy : Options → List ℕ → NotOpened → Type 0
IsWhy o bytes (not_opened.Refused why) = (fault_of o ≡ None) × IsGoodImage o.blocks bytes × RefusesOpening (config_of o) why
IsWhy o bytes not_opened.BadImage = (fault_of o ≡ None) × IsBadImage o.blocks bytes
IsWhy o bytes not_opened.Memory = (fault_of o ≡ None) × IsGoodImage o.blocks bytes × (refusal_of_config (config_of o) ≡ None)
IsWhy o bytes why = fault_of o ≡ Some why

-- what an opening makes
pub record IsOpened (o : Options) (bytes : List ℕ) (new : Table) : Type 0 where
  pub form : fault_of o ≡ None
  pub config : refusal_of_config (config_of o) ≡ None
  pub opened : new ≡ table (opening_of (config_of o) (image_of o.blocks bytes))

-- an opening that nothing about the handle prevents, or one that its handle is refused for
abbrev pub OpensBy : Option ℕ → Kept → Options → List ℕ → ℕ → Answer → Kept → Type 0
OpensBy (Some cause) t o bytes code answer new = (code ≡ cause) × (answer ≡ nothing) × (new ≡ t)
OpensBy None t o bytes code answer (Ok new) = (code ≡ 0) × (answer ≡ nothing) × IsOpened o bytes new
OpensBy None t o bytes code answer (Err h) = (why : NotOpened) × IsWhy o bytes why × (code ≡ code_of_not_opened why) × (answer ≡ told_not_opened why) × (t ≡ Err h)

-- an opening: a handle that is open, or is not of this kind, stays as it is; one that is closed opens, or stays closed for a cause that is told
abbrev pub Opens : Kept → Options → List ℕ → ℕ → Answer → Kept → Type 0
Opens t o bytes code answer new = OpensBy (cause_in t) t o bytes code answer new
