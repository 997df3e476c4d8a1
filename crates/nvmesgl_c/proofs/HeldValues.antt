-- The machine values of a `Held`: what is owned tells them, and is made of them. Assumes `Logic`.
use Rattle.std.{proofs.Common.{◌≡◌, List, [], ◌∷◌, ◌++◌, refl, ◌∙◌, lit<}, specs.Prelude.Option}
use mathlib.Core.Bool.{Bool, true, false, ◌&&◌}
use lib.Dec.{T}
use seplogic.Ra.Ura.{Ura}
use mir.{Syntax.{impl, tnil, dnil, ty_ptr}, Val.{Val, vstruct, vcons, vnil, of_list, has_ty, WT}}
use types.{Kit.{Item, Goal, Seq, Step, step, ‵, ◌$◌, move, drop, fsplit, fjoin, fpick, fpack, feq_i, feq_l}, Logic.Logic}
use denote.{Builtin.RawPtr, Param.{layout, Laws.Laws}, RattleType.{RattleType, Valss}, RawPtr.{Ptr, block_ptr, null_ptr, ptr_val}, Steps.nothing}
use denote.Struct.{Owning.shape, Struct.within}
use Rattle.core.{proofs.{alloc.Calls.{Al, handle_tells}, cell.Inside.Good}, specs.declared.alloc.Allocator.Ghosts}
use Rattle.nvmesgl_c.specs.HeldOwned.{held_owns}
use Rattle.nvmesgl_c.specs.contracts.held.Held as held

abbrev pub held_val : Ptr → Val → Val
held_val p h = vstruct (vcons (ptr_val p) (vcons h vnil))

ptr_typed : (p : Ptr) → Good ty_ptr (ptr_val p)
ptr_typed (block_ptr b o) = (tt, tt)
ptr_typed null_ptr = (tt, record { fits = lit< tt })

and_2 : (x y : Bool) → T x → T y → T (x && (y && true))
and_2 true true s t = tt
and_2 true false s t = absurd t
and_2 false y s t = absurd s

module _ (R Z : RattleType) (L : Laws Z) (g : Ghosts Z.Denot) where
  abbrev pub Held : RattleType
  Held = held.the_row R Z g

  abbrev al : Al
  al = record { row = Z; laws = L; g = g; d = impl [] tnil dnil; drops = impl [] tnil dnil }

  pub held_good : (p : Ptr) (h : Val) → Good (layout Z) h → T (has_ty ty_ptr (ptr_val p) && (has_ty (layout Z) h && true)) × WT (held_val p h)
  held_good p h fits = (and_2 (has_ty ty_ptr (ptr_val p)) (has_ty (layout Z) h) (ptr_typed p).0 fits.0, ((ptr_typed p).1, (fits.1, tt)))

  pub at_good : (p : Ptr) → Good ty_ptr (ptr_val p)
  at_good p = ptr_typed p

  module _ {M : Type 1} {𝓤 : Ura M} {𝓛 : Logic 𝓤} {K : Type 0} {Γ : List (Item 𝓤)} {G : Goal 𝓤 𝓛.H} where
    pub held_out : K → (d : Held.Denot) (vs : List Val)
        → ((h : Val) → vs ≡ held_val d.at h ∷ [] → Good (layout Z) h → Seq K 𝓛 (‵ (held_owns (g.dealloc_token d.alloc) R d.at d.value) ∷ ‵ (Z.own_val d.alloc (h ∷ [])) ∷ Γ) G)
        → Seq K 𝓛 (‵ (Held.own_val d vs) ∷ Γ) G
    held_out t d vs k =
        fsplit t $ fpick t (λ vss. fsplit t $ feq_l t (λ ev. fsplit t $ feq_l t (λ ep. fsplit t $ handle_tells al t d.alloc vss.1.0 (λ h ea fits. move t (1 ∷ []) $ drop t $ move t (1 ∷ []) $
        k h (ev ∙ (λ i. vstruct (of_list (ep i ++ (ea i ++ []))) ∷ [])) fits))))

    pub held_in : K → (p : Ptr) (h : Val) (a : Z.Denot) (x : Option R.Denot)
        → Step K 𝓛 (‵ (Held.own_val (record { at = p; alloc = a; value = x }) (held_val p h ∷ [])) ∷ Γ) G (‵ (held_owns (g.dealloc_token a) R p x) ∷ ‵ (Z.own_val a (h ∷ [])) ∷ Γ) G
    held_in t p h a x = step (λ s. let v : Val = held_val p h in
        nothing t $ move t (2 ∷ 0 ∷ []) $ fjoin t $ feq_i t (List Val) (ptr_val p ∷ []) (ptr_val p ∷ []) refl $ fjoin t $ feq_i t (List Val) (v ∷ []) (v ∷ []) refl $ fjoin t $
        fpack t (Valss (RawPtr ∷ Z ∷ [])) (within (shape (held.the_type R Z g)) (p, (a, tt)) (v ∷ [])) (ptr_val p ∷ [], (h ∷ [], tt)) $ fjoin t $ s)
