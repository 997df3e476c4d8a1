-- What a seat keeps for its searches.
use Rattle.std.specs.Prelude.{◌≡◌, ℕ, zero, suc, Bool, List, [], ◌∷◌, false, is_none}
use Rattle.driver_book.specs.declared.report.Receipt.{Receipt}

abbrev pub is_without_status : Receipt → Bool
is_without_status r = is_none r.status

-- this many receipts are at the head of a list, and each has a status
abbrev pub AreSettled : ℕ → List Receipt → Type 0
AreSettled zero receipts = Unit {0}
AreSettled (suc n) [] = ⊥
AreSettled (suc n) (r ∷ receipts) = (is_none r.status ≡ false) × AreSettled n receipts
