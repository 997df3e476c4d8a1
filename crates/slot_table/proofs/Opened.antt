-- A table with no record.
use Rattle.std.proofs.Common.{◌≡◌, ℕ, zero, suc, ◌+◌, ◌*◌, ◌<◌, ◌≤◌, List, [], length, get_or, Option, None, is_some, IsSome, count_by, replicate, refl, sym}
use Rattle.std.proofs.Common.{ap, subst, ◌∙◌, arith, true≢false}
use Rattle.std.proofs.lemmas.List.{length-replicate, get_or-replicate}
use Rattle.slot_table.specs.{Links.{IsThreaded}, declared.link.Link.Link}

none_counted : (R : Type 0) (n : ℕ) → count_by is_some (replicate {A = Option R} n None) ≡ 0
none_counted R zero = refl
none_counted R (suc n) = omega (arith, none_counted R n)

module _ {R : Type 0} where
  none_anywhere : (n i : ℕ) → get_or {A = Option R} (replicate n None) i None ≡ None
  none_anywhere zero i = refl
  none_anywhere (suc n) zero = refl
  none_anywhere (suc n) (suc i) = none_anywhere n i

  pub IsThreaded-open : (queues places n : ℕ) (records : List (Option R)) (links : List Link) → queues ≤ 65536 → places < 65536 → n ≡ queues * places → records ≡ replicate n None
      → links ≡ replicate (n + 1) (record { before = n; after = n }) → IsThreaded queues places 0 records links
  IsThreaded-open queues places n records links few few_places all is links_is =
      let end : Link = record { before = n; after = n } in
      let long : length (replicate {A = Option R} n None) ≡ n = length-replicate n None in
      let within : n < n + 1 = omega arith in
      let own : get_or (replicate (n + 1) end) n (record { before = 0; after = 0 }) ≡ end = get_or-replicate (n + 1) n end (record { before = 0; after = 0 }) within in
      rw (is, links_is)
      (record {
        few_queues = few;
        few_places = few_places;
        all_places = long ∙ all;
        all_links = length-replicate (n + 1) end ∙ ap (λ k. k + 1) (sym long);
        thread = record {
          order = [];
          leads = rw long (ap (λ l. l.after) own, ap (λ l. l.before) own);
          distinct = tt;
          apart = tt;
          held = tt;
          listed = λ i some _. absurd (true≢false (sym (subst IsSome (none_anywhere n i) some)));
          counted = refl;
        };
        occupied = none_counted R n;
      })
