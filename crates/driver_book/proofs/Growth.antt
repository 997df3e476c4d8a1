-- The ghost steps of a list. Assumes `Logic`.
use mathlib.Core.Path.{◌≡◌, refl, ap}
use mathlib.Core.List.{List, [], ◌∷◌, ◌++◌, IsPrefix, map}
use seplogic.Ra.Ura.{Ura}
use Prim.Native.Nat.{ℕ}
use base.Logic.{SProp, ent, sep, ex, emp, guard, via}
use base.Fraction.{full_share}
use base.Stored.{Gv, Coded}
use base.Fml.{Fml}
use base.Growing.{latest, at_least}
use types.Logic.{Logic, sem}
use types.Owned.{basic}
use types.Growing.{latest_new, latest_grows, latest_shows, latest_bounds, at_least_dup}
use types.Kit.{‵, ◌⊛◌, given, ◌$◌, ◌∵◌, !, qed, learn, check, done, use2}
use Rattle.driver_book.specs.KnownLists.{lists, grows, reached}

abbrev head : {X : Type 0} → X → List X → X
head d [] = d
head d (x ∷ xs) = x

abbrev rest : {X : Type 0} → List X → List X
rest [] = []
rest (x ∷ xs) = xs

module _ {E : Type 0} (c : Coded E) where
  pub prefix_in : (xs : List E) (y : E) → IsPrefix (map c.code xs) (map c.code (xs ++ y ∷ []))
  prefix_in [] y = (c.code y ∷ [], refl)
  prefix_in (x ∷ xs) y = let p = prefix_in xs y in (p.0, ap (λ (l : List Gv). c.code x ∷ l) p.1)

  pub prefix_out : (xs ys : List E) → IsPrefix (map c.code xs) (map c.code ys) → IsPrefix xs ys
  prefix_out [] ys p = (ys, refl)
  prefix_out (x ∷ xs) [] p = absurd (cc (p.1))
  prefix_out (x ∷ xs) (y ∷ ys) p =
      let same : x ≡ y = c.inj x y (ap (head (c.code x)) p.1) in
      let more = prefix_out xs ys (p.0, ap rest p.1) in
      (more.0, λ i. same i ∷ more.1 i)

  module _ {M : Type 1} {𝓤 : Ura M} (𝓛 : Logic 𝓤) (name : ℕ) where
    open 𝓛 use {H}

    abbrev ⟦◌⟧ : Fml → SProp 𝓤
    ⟦ P ⟧ = sem 𝓛 P

    abbrev ◌∗◌ : SProp 𝓤 → SProp 𝓤 → SProp 𝓤
    P ∗ Q = sep 𝓤 P Q

    abbrev ◌⊢◌ : SProp 𝓤 → SProp 𝓤 → Type 1
    P ⊢ Q = ent 𝓤 P Q

    infix 26 ◌⊢◌
    infixr 35 ◌∗◌
    -- one more entry
    pub pushes : (xs : List E) (y : E) → ⟦ grows c.code name xs ⟧ ⊢ H.⇛ ⟦ grows c.code name (xs ++ y ∷ []) ⟧
    unfolding grows
    pushes xs y = via 𝓤 _ (latest_grows lists 𝓛 name (map c.code xs) (map c.code (xs ++ y ∷ [])) (prefix_in xs y)) (basic 𝓛 _)

    -- what it is now is known from now on
    pub shows : (xs : List E) → ⟦ grows c.code name xs ⟧ ⊢ ⟦ grows c.code name xs ⟧ ∗ ⟦ reached c.code name xs ⟧
    unfolding grows reached
    shows xs = latest_shows lists 𝓛 full_share name (map c.code xs) (map c.code xs) (lists.same (map c.code xs))

    -- what is known is a beginning
    pub bounds : (xs known : List E) → ⟦ grows c.code name xs ⟧ ∗ ⟦ reached c.code name known ⟧ ⊢ guard 𝓤 (IsPrefix known xs) (⟦ grows c.code name xs ⟧ ∗ ⟦ reached c.code name known ⟧)
    unfolding grows reached
    bounds xs known = qed 𝓛 (‵ (latest lists full_share name (map c.code xs)) ∷ ‵ (at_least lists name (map c.code known)) ∷ []) ∵
        use2 𝓛 (given (IsPrefix (map c.code known) (map c.code xs)) (‵ (latest lists full_share name (map c.code xs)) ⊛ ‵ (at_least lists name (map c.code known))))
        (latest_bounds lists 𝓛 full_share name (map c.code xs) (map c.code known)) $
        learn ! (λ p. check ! (prefix_out known xs p) $ done !)

    pub twice : (known : List E) → ⟦ reached c.code name known ⟧ ⊢ ⟦ reached c.code name known ⟧ ∗ ⟦ reached c.code name known ⟧
    unfolding reached
    twice known = at_least_dup lists 𝓛 name (map c.code known)

module _ {E : Type 0} (c : Coded E) {M : Type 1} {𝓤 : Ura M} (𝓛 : Logic 𝓤) where
  -- a list begins with no entry, under a name of its own
  pub starts : ent 𝓤 (emp 𝓤) (𝓛.H.⇛ (ex 𝓤 (λ (name : ℕ). sem 𝓛 (grows c.code name []))))
  unfolding grows
  starts = via 𝓤 _ (latest_new lists 𝓛 []) (basic 𝓛 _)
