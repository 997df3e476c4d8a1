-- What must come back of lent regions, as one number, which tells it.
use Rattle.std.proofs.Common.{◌≡◌, ℕ, List, Option}
use Rattle.nvmesgl_c.{proofs.{Unshown.same_lists, Tables.{same_pair, same_table}}, specs.Regions.{Row, lists_number, number_of, paired}}

-- the name of the borrow, the table, and the bytes that no address shows
pub same_mark : (m n : ℕ) (xs ys : List Row) (hs ks : List (List (Option ℕ))) → paired m (paired (number_of xs) (lists_number hs)) ≡ paired n (paired (number_of ys) (lists_number ks)) → (m ≡ n) × (xs ≡ ys) × (hs ≡ ks)
same_mark m n xs ys hs ks e =
    let outer : (m ≡ n) × (paired (number_of xs) (lists_number hs) ≡ paired (number_of ys) (lists_number ks)) = same_pair m (paired (number_of xs) (lists_number hs)) n (paired (number_of ys) (lists_number ks)) e in
    let inner : (number_of xs ≡ number_of ys) × (lists_number hs ≡ lists_number ks) = same_pair (number_of xs) (lists_number hs) (number_of ys) (lists_number ks) outer.1 in
    (outer.0, same_table xs ys inner.0, same_lists hs ks inner.1)
