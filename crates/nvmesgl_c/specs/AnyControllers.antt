-- A controller of one of two kinds, as contracts see it.
use Rattle.std.specs.Prelude.{Bool, true, false}
use Rattle.controller_core.specs.Contents.{Contents}

-- what it keeps, and whether its blocks are lent for each call: else it holds an image
pub record AnyContents : Type 0 where
  pub contents : Contents
  pub lends : Bool

abbrev pub holding : Contents → AnyContents
holding c = record { contents = c; lends = false }

abbrev pub lending : Contents → AnyContents
lending c = record { contents = c; lends = true }

abbrev pub with_contents : Contents → AnyContents → AnyContents
with_contents c d = record { contents = c; lends = d.lends }
