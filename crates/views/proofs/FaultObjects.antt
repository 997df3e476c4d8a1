-- The object of a fault has no float.
use Rattle.std.proofs.Common.{◌≡◌, ℕ, List, false, refl}
use Rattle.serde_json.specs.Written.{has_float}
use Rattle.views.specs.FaultObjects.{fault_object}
use Rattle.views.specs.declared.explain.fault.CaseFault.{CaseFault, TheVariants.{Line, TooLong, NoEntry, Memory}}

pub fault_whole : (fault : CaseFault) (sentence : List ℕ) → has_float (fault_object fault sentence) ≡ false
fault_whole (Line line start end wrong) sentence = refl
fault_whole TooLong sentence = refl
fault_whole NoEntry sentence = refl
fault_whole Memory sentence = refl
