-- A tag is given where there is one, and where there is none.
use Rattle.std.proofs.Common.{◌≡◌, ℕ, Option, Some, None, List, refl, ap, sym, ◌∙◌}
use Rattle.std.specs.Prelude.{unwrap_or}
use Rattle.host_bench.proofs.KeptRows.{value_with, without_with}
use Rattle.slot_table.proofs.{Rows.without-none, Walks.{none_stands, put_taken, put_value}}
use Rattle.slot_table.specs.{Rows.{Row, value_at, with_last, with_value}, Table.TableOf}
use Rattle.nvmesgl_c.specs.HostTags.{IsTagged}

pub tagged_again : (rows : List (Row ℕ)) (q cid tag old : ℕ) → value_at rows q cid ≡ Some old → IsTagged rows q cid tag (with_value rows q cid tag)
tagged_again rows q cid tag old at =
    record { told = ap (λ (o : Option ℕ). unwrap_or o 0) (value_with rows q cid old tag at); others = without_with rows q cid tag }

pub tagged_first : (rows : List (Row ℕ)) (q cid tag : ℕ) → value_at rows q cid ≡ None → IsTagged rows q cid tag (with_last rows q cid tag)
tagged_first rows q cid tag none =
    let table : TableOf ℕ = record { queues = 0; places = 0; rows = rows } in
    record {
      told = ap (λ (o : Option ℕ). unwrap_or o 0) (put_value table q cid tag none);
      others = put_taken table q cid tag none ∙ sym (without-none rows q cid (none_stands rows q cid none));
    }

pub untagged : (rows : List (Row ℕ)) (q cid : ℕ) → value_at rows q cid ≡ None → IsTagged rows q cid 0 rows
untagged rows q cid none = record { told = ap (λ (o : Option ℕ). unwrap_or o 0) none; others = refl }
