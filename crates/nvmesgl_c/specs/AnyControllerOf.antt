-- What a controller of one of two kinds shows.
use Rattle.nvmesgl_c.specs.{AnyControllers.{AnyContents, holding, lending}, declared.controller.any_controller.Kind.{Kind, TheVariants.{Own, Lending}}}

abbrev pub any_of : Kind → AnyContents
any_of (Own c) = holding c
any_of (Lending c) = lending c
