-- What a load comes to.
use Rattle.std.specs.Prelude.{◌≡◌, ◌*◌, ℕ, Bool, true, false, Option, Some, None, List, replicate}
use Rattle.host_core.specs.declared.config.Config.{Config}
use Rattle.block_image.specs.Blocks.{block_count, blocks_at}
use Rattle.load.specs.{Course.commands_for, Layouts.IsLayoutFor, Rounds.{HasGoneOn, HasReadAgain, Setting, Standing}, Tallies.no_tally}
use Rattle.load.specs.declared.{content.Content.Content, course.Course.Course, tally.Tally.Tally}
use Rattle.machine_model.specs.State.{State}
use Rattle.script_cli.specs.declared.workload.Load.{Load}
use Rattle.step_core.specs.Opening.{opening_of}

abbrev pub setting_of : Course → Setting
setting_of c = record { layout = c.layout; seed = c.seed; queues = c.queues; round = c.round; content = c.content }

-- where a load stands over a machine
abbrev pub standing_of : Course → State → Standing
standing_of c machine = record { generations = c.generations.items; machine = machine; tally = c.tally }

-- what slots held at first are these bytes, where it is compared
abbrev pub IsFirst : Bool → ℕ → List ℕ → Option Content → Type 0
IsFirst false seed bytes content = content ≡ None
IsFirst true seed bytes None = ⊥
IsFirst true seed bytes (Some content) = (content.seed ≡ seed) × (content.first.items ≡ bytes)

-- what is loaded, over this many queues and this image
pub record IsSettingFor (what : Load) (queues : ℕ) (image : List ℕ) (s : Setting) : Type 0 where
  pub layout : IsLayoutFor what (block_count image) s.layout
  pub seed : s.seed ≡ what.seed
  pub queues_are : s.queues ≡ queues
  pub round : s.round ≡ commands_for what.command_blocks what.submitters what.log_limit
  pub first : IsFirst what.verify what.seed (blocks_at image 0 s.layout.blocks) s.content

-- no slot was written, and no command came to anything
abbrev pub start : Setting → State → Standing
start s machine = record { generations = replicate (s.layout.submitters * s.layout.slots) 0; machine = machine; tally = no_tally }

-- where it is compared, what was written was read again
abbrev pub IsReadAgain : Bool → Setting → Standing → Standing → Type 0
IsReadAgain false s before standing = standing ≡ before
IsReadAgain true s before standing = HasReadAgain s before standing

-- A load ran over a configuration and an image, and its commands and the reads after it came to this: the first round began over the machine that they open, each
-- other over the one that the round before left.
pub record HasRun (config : Config) (image : List ℕ) (what : Load) (tally : Tally) : Type 0 where
  pub setting : Setting
  pub is_setting : IsSettingFor what config.queues image setting
  pub middle : Standing
  pub end : Standing
  pub gone_on : HasGoneOn what setting (start setting (opening_of config image)) middle
  pub read_again : IsReadAgain what.verify setting middle end
  pub counts : tally ≡ end.tally
