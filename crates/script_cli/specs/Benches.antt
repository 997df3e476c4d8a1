-- Why no bench was opened for options.
use Rattle.std.specs.Prelude.{◌≡◌, ◌⊎◌, ◌<◌, ℕ}
use Rattle.block_image.specs.Blocks.{most_blocks}
use Rattle.script_cli.specs.Runs.{IsNoOpening}
use Rattle.script_cli.specs.declared.{input.ImageFault.ImageFault, transcripts.{fault.OpeningFault.OpeningFault, options.Options.Options}}
use Rattle.script_cli.specs.declared.input.ImageFault.TheVariants as image_fault
use Rattle.script_cli.specs.declared.transcripts.fault.OpeningFault.TheVariants as opening

-- an image has no such number of blocks, or memory was refused
abbrev pub MakesNoZeros : ℕ → ImageFault → Type 0
MakesNoZeros blocks image_fault.BadLength = (blocks ≡ 0) ⊎ (most_blocks < blocks)
MakesNoZeros blocks image_fault.Unreadable = ⊥
MakesNoZeros blocks image_fault.Memory = Unit {0}

-- there is no such image, or the configuration opens no world over it
abbrev pub OpensNoBench : Options → OpeningFault → Type 0
OpensNoBench options (opening.Image why) = MakesNoZeros options.blocks why
OpensNoBench options (opening.World why) = IsNoOpening options.config why
