-- `into_box` makes the box again, or gives the allocator back.
use Rattle.std.proofs.{Common.{◌≡◌, List, [], ◌∷◌, ◌++◌, refl, sym, ap, subst}, raw_atomic.Walks.{proved_at, leaves}}
use Rattle.std.specs.Prelude.{Option, Some, None, is_some}
use mathlib.Core.Bool.{true, false}
use mir.{MapTy.inst_fn, Syntax.{a_type, dcons, dnil, Body}}
use mir.Val.{Val}
use base.{Fml.{ftrue, flft}, Logic.{SProp, ent, emp, id⊢}}
use prog.Wp.{WpFn}
use types.ByLocal.{alloc_all, pass_all, free_all, look_at, get, get_in, sets, lands_last, env}
use types.Kit.{Item, ⋆, ‵, raw, ◌⊛◌, some, later, at_ret, ◌$◌, ◌∵◌, !, qed, by, move, keep, drop, split, split3, join, fsplit, fjoin, pick, use0, use1, await, rewrite, feq_i}
use types.{Part.{sub, whole}, Run.{stop, fld, of_opd, no_more, and_then, first, blocks, exec, returns, enter}}
use contract.{BorrowLft.◌⊑◌, Monad.{fact, fact_i}, Running.tables}
use denote.{Exit.no, Param.{param, bounded, Laws.param_laws}, RattleType.{RattleType, owns}, RawPtr.ptr_val, Signature.{types_at, plain}}
use denote.{Steps.{nothing, only, heard}, Triple.{Call.calls_at_last, Clauses.{Lasts, lasts}, Spec.triple_of, Walked.{Stays, stay_dropped, walk_of}}}
use Rattle.core.proofs.{alloc.{Calls.Goes-blank, Shapes.{after}}, atomic.Steps.fm, cell.Inside.Good}
use Rattle.std_alloc.proofs.{BoxSteps.Steps.{box_out, box_in}, boxed.Box.from_raw.Met.met}
use Rattle.nvmesgl_c.{proofs.{held.Held.into_box.Statement.statement, HeldValues.{Held, held_val, held_good, held_out, at_good}}, specs.HeldOwned.held_owns}
use Rattle.nvmesgl_c.specs.contracts.held.Held.into_box.{ended, clauses, Key.name as #self}
use Rattle.std_alloc.proofs.BoxSteps.Form as box
use Rattle.std_alloc.specs.contracts.boxed.Box.from_raw as callee
use Rattle.nvmesgl_c.proofs.held.Held.into_box.Code as code

-- the value, case by case
by_value : {X : Type 0} (P : Option X → Type 1) → ((x : X) → P (Some x)) → P None → (v : Option X) → P v
by_value P full void (Some x) = full x
by_value P full void None = void

none_is_none : false ≡ true → ⊥
none_is_none e = cc

pub into_box_spec : {M : Type 1} → statement M
into_box_spec 𝓤 𝓛 𝓜 𝓡 wired T A L LA g d dd allocator md =
    let H = 𝓛.H in let 𝓣 = tables 𝓤 H 𝓜 𝓡 𝓡.env in let R : RattleType = param 0 T in let Z : RattleType = param 1 A in let LZ = param_laws 1 A LA in let En = ended T A g d dd in let c = clauses T A g d dd 𝓛 𝓜.mem 𝓡.returns in
    let E : box.Bx = record { row = T; laws = L; al = record { row = A; laws = LA; g = g; d = d; drops = dd } } in let args = bounded (a_type ∷ a_type ∷ []) (T, (A, tt)) (dcons d (dcons dd dnil)) in let fn = inst_fn args code.function in
    let Row : RattleType = Held R Z LZ g in let B : RattleType = box.B E in let hs : Stays En.signature.params En.kept = (stay_dropped (plain (λ _. Row)) no, tt) in
    proved_at 𝓛 En hs c 𝓜 𝓡 (Goes-blank 𝓛 2 (plain (λ _. Row)) no (λ κs x f. tt), tt) (#self args) fn (code.unfolded 𝓤 H 𝓜 𝓡 wired (T, (A, tt)) d dd) (λ z are.
    let κs = z.0.0 in let qs = z.0.1 in let v = z.0.3.0 in let a = v.alloc in let p = v.at in
    let at : Option T.Denot → (walk_of 𝓛 En hs c).Ghost = λ x. ((κs, qs, z.0.2, (record { at = p; alloc = a; value = x }, tt), z.0.4), z.1) in
    let Post : Option T.Denot → Val → SProp 𝓤 = λ x. (walk_of 𝓛 En hs c).post (at x) in
    let toks : Item 𝓤 = ‵ (flft κs.0 qs.0) ⊛ ‵ (flft κs.1.0 qs.1.0) ⊛ ‵ ftrue in
    let asked : Option T.Denot → Item 𝓤 = λ x. raw (fact 𝓤 (κs.0 ⊑ T.lives)) ⊛ raw (fact 𝓤 (κs.1.0 ⊑ A.lives)) ⊛ raw (fact 𝓤 (is_some x ≡ true)) in
    let Had : Option T.Denot → Val → List (Item 𝓤) = λ x h. ‵ (held_owns (g.dealloc_token a) R p x) ∷ ‵ (Z.own_val a (h ∷ [])) ∷ ‵ ftrue ∷ toks ∷ asked x ∷ [] in
    let outer : Body = after 3 fn.body in
    qed 𝓛 ((toks ⊛ ‵ (owns (types_at En.signature.params κs) z.0.3 z.0.4)) ∷ raw ((c κs z.0.3).requires z.1) ∷ []) ∵ split ! $ move ! (1 ∷ []) $ fsplit ! $ held_out R Z LZ g ! v z.0.4.0 (λ h ws good.
    by ! (subst (λ (us : List Val). ent 𝓤 (⋆ 𝓛 (Had v.value h)) (WpFn 𝓤 H 𝓣.C 𝓣.Λ fn us (Post v.value))) (sym (λ i. ws i ++ []))
    (by_value (λ x. ent 𝓤 (⋆ 𝓛 (Had x h)) (WpFn 𝓤 H 𝓣.C 𝓣.Λ fn (held_val p h ∷ []) (Post x)))
    (λ x. let k = triple_of 𝓛 (callee.signature T A g d dd) (callee.spec T A g d dd 𝓛 𝓜.mem 𝓡.returns) in let y : k.Ghost = ((κs, qs, tt, (a, (p, tt)), (h ∷ [], (ptr_val p ∷ [], tt))), x) in
    qed 𝓛 (Had (Some x) h) ∵ enter ! 𝓣.C 𝓣.Λ fn (held_val p h ∷ []) (Post (Some x)) $ alloc_all ! (λ l. pass_all ! refl (held_good R Z LZ g p h good, tt) $ let Ev = env fn.locals l in
    sets ! (of_opd ! (get_in ! (fld ! refl (stop !)) (sub ! 0 refl (whole !)))) refl (at_good R Z LZ g p) $ sets ! (of_opd ! (get_in ! (fld ! refl (stop !)) (sub ! 1 refl (whole !)))) refl good $
    first ! $ blocks ! $ sets ! (of_opd ! (get ! refl)) refl good $
    move ! (4 ∷ []) $ split3 ! $ move ! (2 ∷ []) $ drop ! $ move ! (1 ∷ 2 ∷ []) $ join ! $ move ! (1 ∷ 0 ∷ []) $ join ! $
    move ! (2 ∷ []) $ feq_i ! (List Val) (ptr_val p ∷ []) (ptr_val p ∷ []) refl $ fjoin ! $ move ! (2 ∷ 0 ∷ []) $ fjoin ! $ move ! (2 ∷ 0 ∷ []) $ join ! $ join ! $ use1 𝓛 (raw (k.pre y)) (id⊢ 𝓤 _) $
    calls_at_last ! (fm 𝓛 𝓜 𝓡) k (met 𝓤 𝓛 𝓜 𝓡 (code.calls-std_alloc::boxed::Box::from_raw 𝓡.env wired) T A L LA g d dd allocator md) y (and_then ! (get ! refl) (and_then ! (get ! refl) (no_more !))) (λ u.
    use1 𝓛 (later (some (λ (r : B.Denot). (toks ⊛ ‵ (B.own_val r (u ∷ []))) ⊛ some (λ (ls : Lasts (callee.ended T A g d dd) κs y.0.3). ‵ (lasts (callee.ended T A g d dd) κs y.0.3 ls) ⊛ (raw (fact 𝓤 (r.value ≡ x)) ⊛ raw (fact 𝓤 (r.alloc ≡ a))))))) (id⊢ 𝓤 (k.post y u)) $
    await ! tt $ pick ! (λ r. split ! $ move ! (1 ∷ []) $ pick ! (λ _. split3 ! $ drop ! $ heard ! (r.value ≡ x) (λ same. drop ! $ split ! $ move ! (1 ∷ []) $
    box_out E ! r (u ∷ []) (λ b' o' h' e' us fits'. box_in E ! r b' o' r.value e' refl $ rewrite ! 0 (λ (xs : List Val). ‵ (B.own_val r xs)) (sym us) refl $
    let typed : Good (box.box_ty E) u = subst (Good (box.box_ty E)) (sym (ap only us)) (box.box_typed E h' b' o' fits') in
    let Said : Type 0 = Some r.value ≡ Some x in
    lands_last ! refl typed $ exec ! 𝓣.C 𝓣.Λ Ev outer (at_ret Ev (Post (Some x))) $ sets ! (of_opd ! (get ! refl)) refl typed $
    use0 𝓛 (raw (fact 𝓤 Said)) (fact_i 𝓤 Said (emp 𝓤) (ap Some same)) $ nothing ! $ nothing ! $ fjoin ! $
    returns ! (look_at ! 0 refl) $ free_all ! refl $ keep ! (3 ∷ 0 ∷ 2 ∷ 1 ∷ []) $ by ! (leaves 𝓛 En hs c (at (Some x)) u r ((tt, (tt, tt)), tt) (tt, tt)))))))))
    (qed 𝓛 (Had None h) ∵ move ! (4 ∷ []) $ split3 ! $ move ! (2 ∷ []) $ heard ! (is_some {T = T.Denot} None ≡ true) (λ e. absurd (none_is_none e)))
    v.value))))
