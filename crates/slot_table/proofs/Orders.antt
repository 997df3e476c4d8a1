-- Lists of slots: which are among them, in what order, and how links lead through them as links change.
use Rattle.std.{proofs.Common.{◌≡◌, ◌≢◌, ◌⊎◌, List, [], ◌∷◌, ◌++◌, sym, ap, subst, refl, ◌∙◌, inl, inr, append-nil}, specs.List.AllByRecursion as All}
use Rattle.slot_table.specs.Chains.{Lacks, AreDistinct, Leads}

module _ {X : Type 0} (P : X → Type 0) where
  pub each-append : (xs ys : List X) → All P xs → All P ys → All P (xs ++ ys)
  each-append [] ys a b = b
  each-append (x ∷ xs) ys a b = (a.0, each-append xs ys a.1 b)

  pub each-front : (xs ys : List X) → All P (xs ++ ys) → All P xs
  each-front [] ys a = tt
  each-front (x ∷ xs) ys a = (a.0, each-front xs ys a.1)

  pub each-back : (xs ys : List X) → All P (xs ++ ys) → All P ys
  each-back [] ys a = a
  each-back (x ∷ xs) ys a = each-back xs ys a.1

  pub each-without : (x : X) (xs ys : List X) → All P (xs ++ x ∷ ys) → All P (xs ++ ys)
  each-without x xs ys a = each-append xs ys (each-front xs (x ∷ ys) a) (each-back xs (x ∷ ys) a).1

  -- what follows from two things that hold of each
  pub each-two : (Q S : X → Type 0) → ((x : X) → P x → Q x → S x) → (xs : List X) → All P xs → All Q xs → All S xs
  each-two Q S f [] p q = tt
  each-two Q S f (x ∷ xs) p q = (f x p.0 q.0, each-two Q S f xs p.1 q.1)

-- the slot lies between these
pub record IsBetween {K : Type 0} (k : K) (xs : List K) : Type 0 where
  pub front : List K
  pub back : List K
  pub parts : xs ≡ front ++ k ∷ back

module _ {K P : Type 0} (at : K → P) where
  -- the first of these slots, or the end
  abbrev pub first_or : P → List K → P
  first_or end [] = end
  first_or end (x ∷ xs) = at x

  -- the last of these slots, or the start
  abbrev pub last_or : P → List K → P
  last_or start [] = start
  last_or start (x ∷ xs) = last_or (at x) xs

  -- what holds of the start and of each slot holds of the last
  pub last_or-each : (Q : P → Type 0) (x : P) (xs : List K) → Q x → All (λ k. Q (at k)) xs → Q (last_or x xs)
  last_or-each Q x [] q all = q
  last_or-each Q x (y ∷ ys) q all = last_or-each Q (at y) ys all.0 all.1

  pub first_or-each : (Q : P → Type 0) (x : P) (xs : List K) → Q x → All (λ k. Q (at k)) xs → Q (first_or x xs)
  first_or-each Q x [] q all = q
  first_or-each Q x (y ∷ ys) q all = all.0

  -- what comes after a prefix lacks the prefix's last
  pub Lacks-last_or : (x : P) (front back : List K) → AreDistinct at (front ++ back) → Lacks at x back → Lacks at (last_or x front) back
  Lacks-last_or x [] back d l = l
  Lacks-last_or x (y ∷ ys) back d l = Lacks-last_or (at y) ys back d.1 (each-back (λ z. at z ≢ at y) ys back d.0)

  pub AreDistinct-front : (xs ys : List K) → AreDistinct at (xs ++ ys) → AreDistinct at xs
  AreDistinct-front [] ys d = tt
  AreDistinct-front (x ∷ xs) ys d = (each-front (λ z. at z ≢ at x) xs ys d.0, AreDistinct-front xs ys d.1)

  pub AreDistinct-back : (xs ys : List K) → AreDistinct at (xs ++ ys) → AreDistinct at ys
  AreDistinct-back [] ys d = d
  AreDistinct-back (x ∷ xs) ys d = AreDistinct-back xs ys d.1

  -- a slot in the middle is not before itself
  pub Lacks-before : (k : K) (front back : List K) → AreDistinct at (front ++ k ∷ back) → Lacks at (at k) front
  Lacks-before k [] back d = tt
  Lacks-before k (x ∷ xs) back d = (λ e. (each-back (λ z. at z ≢ at x) xs (k ∷ back) d.0).0 (sym e), Lacks-before k xs back d.1)

  pub Lacks-own : (k : K) (front back : List K) → AreDistinct at (front ++ k ∷ back) → Lacks at (at k) (front ++ back)
  Lacks-own k front back d = each-append (λ z. at z ≢ at k) front back (Lacks-before k front back d) (AreDistinct-back front (k ∷ back) d).0

  pub AreDistinct-without : (k : K) (front back : List K) → AreDistinct at (front ++ k ∷ back) → AreDistinct at (front ++ back)
  AreDistinct-without k [] back d = d.1
  AreDistinct-without k (x ∷ xs) back d = (each-without (λ z. at z ≢ at x) k xs back d.0, AreDistinct-without k xs back d.1)

  pub AreDistinct-push : (k : K) (xs : List K) → AreDistinct at xs → Lacks at (at k) xs → AreDistinct at (xs ++ k ∷ [])
  AreDistinct-push k [] d l = (tt, tt)
  AreDistinct-push k (x ∷ xs) d l = (each-append (λ z. at z ≢ at x) xs (k ∷ []) d.0 (λ e. l.0 (sym e), tt), AreDistinct-push k xs d.1 l.1)

  -- a slot is among these, or is not
  pub find_place : ((x y : K) → (x ≡ y) ⊎ (at x ≢ at y)) → (k : K) (xs : List K) → Lacks at (at k) xs ⊎ IsBetween k xs
  find_place cases k [] = inl tt
  find_place cases k (x ∷ xs) =
      elim (cases x k) [
        | inl same ↦ inr (record { front = []; back = xs; parts = ap (λ z. z ∷ xs) same })
        | inr other ↦ elim (find_place cases k xs) [
          | inl lacks ↦ inl (other, lacks)
          | inr found ↦ inr (record { front = x ∷ found.front; back = found.back; parts = ap (λ zs. x ∷ zs) found.parts })
        ]
      ]

  module _ (a b : P → P) where
    pub Leads-after : (x : P) (xs : List K) (end : P) → Leads at a b x xs end → a x ≡ first_or end xs
    Leads-after x [] end l = l.0
    Leads-after x (y ∷ ys) end l = l.0.0

    pub Leads-before : (x : P) (xs : List K) (end : P) → Leads at a b x xs end → b end ≡ last_or x xs
    Leads-before x [] end l = l.1
    Leads-before x (y ∷ ys) end l = Leads-before (at y) ys end l.1

    pub Leads-append : (x : P) (xs : List K) (y : K) (ys : List K) (end : P) → Leads at a b x xs (at y) → Leads at a b (at y) ys end → Leads at a b x (xs ++ y ∷ ys) end
    Leads-append x [] y ys end f g = (f, g)
    Leads-append x (z ∷ zs) y ys end f g = (f.0, Leads-append (at z) zs y ys end f.1 g)

    pub Leads-parts : (x : P) (xs : List K) (y : K) (ys : List K) (end : P) → Leads at a b x (xs ++ y ∷ ys) end → Leads at a b x xs (at y) × Leads at a b (at y) ys end
    Leads-parts x [] y ys end l = l
    Leads-parts x (z ∷ zs) y ys end l = let rest = Leads-parts (at z) zs y ys end l.1 in ((l.0, rest.0), rest.1)

  module _ (a b c d : P → P) where
    -- links that do not change on the way still lead that way
    pub Leads-kept : (x : P) (xs : List K) (end : P) → c x ≡ a x → All (λ k. c (at k) ≡ a (at k)) xs → All (λ k. d (at k) ≡ b (at k)) xs → d end ≡ b end → Leads at a b x xs end
        → Leads at c d x xs end
    Leads-kept x [] end f sa sb g l = (f ∙ l.0, g ∙ l.1)
    Leads-kept x (y ∷ ys) end f sa sb g l = ((f ∙ l.0.0, sb.0 ∙ l.0.1), Leads-kept (at y) ys end sa.0 sa.1 sb.1 g l.1)

    -- the last link now leads elsewhere
    pub Leads-turned : (p q apart x : P) (xs : List K) (end : P) → ((z : P) → z ≢ p → z ≢ apart → c z ≡ a z) → c p ≡ q → d q ≡ p → p ≡ last_or x xs → Leads at a b x xs end
        → x ≢ apart → Lacks at x xs → AreDistinct at xs → Lacks at apart xs → All (λ k. d (at k) ≡ b (at k)) xs → Leads at c d x xs q
    Leads-turned p q apart x [] end sa f g is l xg lx dx lg sb = (subst (λ k. c k ≡ q) is f, g ∙ is)
    Leads-turned p q apart x (y ∷ ys) end sa f g is l xg lx dx lg sb =
        let other : x ≢ p = λ e. last_or-each (λ z. z ≢ x) (at y) ys lx.0 lx.1 (sym is ∙ sym e) in
        ((sa x other xg ∙ l.0.0, sb.0 ∙ l.0.1), Leads-turned p q apart (at y) ys end sa f g is l.1 lg.0 dx.0 dx.1 lg.1 sb.1)

    -- two slots that a link joins, past a slot apart
    pub record Skips (p q apart : P) : Type 0 where
      pub after : c p ≡ q
      pub before : d q ≡ p
      pub other_after : (z : P) → z ≢ p → z ≢ apart → c z ≡ a z
      pub other_before : (z : P) → z ≢ q → z ≢ apart → d z ≡ b z

    -- a slot after the last
    pub record Joins (end : P) (k : K) : Type 0 where
      pub after : c (b end) ≡ at k
      pub before : d (at k) ≡ b end
      pub end_after : c (at k) ≡ end
      pub end_before : d end ≡ at k
      pub other_after : (z : P) → z ≢ b end → z ≢ at k → c z ≡ a z
      pub other_before : (z : P) → z ≢ end → z ≢ at k → d z ≡ b z

    -- a slot at the end of the list
    pub Leads-push : (end : P) (k : K) (order : List K) → Leads at a b end order end → Joins end k → end ≢ at k → Lacks at end order → Lacks at (at k) order → AreDistinct at order
        → Leads at c d end (order ++ k ∷ []) end
    Leads-push end k order l j other le lk dx =
        let turned = Leads-turned (b end) (at k) (at k) end order end j.other_after j.after j.before (Leads-before a b end order end l) l other le dx lk
        (each-two (λ z. at z ≢ end) (λ z. at z ≢ at k) (λ z. d (at z) ≡ b (at z)) (λ z. j.other_before (at z)) order le lk) in
        Leads-append c d end order k [] end turned (j.end_after, j.end_before)

    -- the list without a slot
    front-turned : (end : P) (k : K) (front back : List K) → Leads at a b end (front ++ k ∷ back) end → Skips (last_or end front) (first_or end back) (at k)
        → Lacks at end (front ++ k ∷ back)
        → AreDistinct at (front ++ k ∷ back) → Lacks at (first_or end back) front → Leads at c d end front (first_or end back)
    front-turned end k front back l s le dx lq =
        let lk = Lacks-before k front back dx in
        let other : end ≢ at k = λ e. (each-back (λ z. at z ≢ end) front (k ∷ back) le).0 (sym e) in
        Leads-turned (last_or end front) (first_or end back) (at k) end front (at k) s.other_after s.after s.before refl (Leads-parts a b end front k back end l).0 other
        (each-front (λ z. at z ≢ end) front (k ∷ back) le) (AreDistinct-front front (k ∷ back) dx) lk
        (each-two (λ z. at z ≢ first_or end back) (λ z. at z ≢ at k) (λ z. d (at z) ≡ b (at z)) (λ z. s.other_before (at z)) front lq lk)

    pub Leads-without : (end : P) (k : K) (front back : List K) → Leads at a b end (front ++ k ∷ back) end → Skips (last_or end front) (first_or end back) (at k)
        → Lacks at end (front ++ k ∷ back)
        → AreDistinct at (front ++ k ∷ back) → Leads at c d end (front ++ back) end
    Leads-without end k front [] l s le dx =
        subst (λ xs. Leads at c d end xs end) (sym (append-nil front)) (front-turned end k front [] l s le dx (each-front (λ z. at z ≢ end) front (k ∷ []) le))
    Leads-without end k front (y ∷ ys) l s le dx =
        let shorter = AreDistinct-without k front (y ∷ ys) dx in
        let rest = AreDistinct-back front (k ∷ y ∷ ys) dx in
        let ends = each-back (λ z. at z ≢ end) front (k ∷ y ∷ ys) le in
        let lasts = Lacks-last_or end front (y ∷ ys) shorter ends.1 in
        Leads-append c d end front y ys end (front-turned end k front (y ∷ ys) l s le dx (Lacks-before y front ys shorter))
        (Leads-kept (at y) ys end (s.other_after (at y) lasts.0 rest.0.0)
        (each-two (λ z. at z ≢ last_or end front) (λ z. at z ≢ at k) (λ z. c (at z) ≡ a (at z)) (λ z. s.other_after (at z)) ys lasts.1 rest.0.1)
        (each-two (λ z. at z ≢ at y) (λ z. at z ≢ at k) (λ z. d (at z) ≡ b (at z)) (λ z. s.other_before (at z)) ys rest.1.0 rest.0.1)
        (s.other_before end (λ e. ends.1.0 (sym e)) (λ e. ends.0 (sym e))) (Leads-parts a b end front k (y ∷ ys) end l).1.1)
