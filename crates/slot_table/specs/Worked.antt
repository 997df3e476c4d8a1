-- A small table: two queues of three slots, with numbers as records.
use Rattle.std.specs.Prelude.{ℕ, []}
use Rattle.slot_table.specs.{Rows.{Row, without}, Table.{TableOf, with_row}}

abbrev pub row_of : ℕ → ℕ → ℕ → Row ℕ
row_of q cid value = record { q = q; cid = cid; value = value }

abbrev pub opened : TableOf ℕ
opened = record { queues = 2; places = 3; rows = [] }

-- a record is put into each queue
abbrev pub two_put : TableOf ℕ
two_put = with_row (with_row opened 1 2 70) 0 1 80

-- the first is taken
abbrev pub one_taken : TableOf ℕ
one_taken = record two_put { rows = without two_put.rows 1 2 }

-- and put again
abbrev pub put_again : TableOf ℕ
put_again = with_row one_taken 1 2 70
