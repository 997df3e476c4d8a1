-- `of_held` moves two fields, and what they own goes with them.
use Rattle.std.proofs.{Common.{◌≡◌, List, [], ◌∷◌, ◌++◌, refl, sym, subst}, raw_atomic.Walks.{proved_at, leaves}}
use Rattle.std.specs.contracts.impls.GlobalAllocator.TheImpl.{ghosts}
use mir.Val.{Val}
use base.Logic.{SProp, ent, emp, id⊢}
use prog.Wp.{WpFn}
use types.ByLocal.{alloc_all, pass_all, free_all, look_at, get, get_in, sets}
use types.{Kit.{‵, raw, ◌⊛◌, ◌$◌, ◌∵◌, !, qed, by, move, keep, split, fsplit, fjoin, suffices, use0, use1}, Part.{agg, sub, whole}}
use types.Run.{stop, fld, of_opd, no_more, and_then, returns, enter}
use contract.{Monad.{fact, fact_i}, Running.tables}
use denote.{Exit.yes, RattleType.{RattleType, owns}, Signature.{types_at, plain}, Steps.nothing, Triple.{Entry.alive, Walked.{Stays, stay_dropped, walk_of}}}
use Rattle.core.proofs.alloc.Calls.{Goes-blank}
use Rattle.nvmesgl_c.proofs.{HeldValues.{Held, held_val, held_good, held_out, held_in, at_good}, controller.handle.Kept.of_held.Statement.statement}
use Rattle.nvmesgl_c.specs.{ControllerOwned.Row, contracts.controller.handle.Kept.of_held.{ended, clauses, Key.name as #self}}
use Rattle.std.specs.contracts.alloc.Global as heap
use Rattle.std.proofs.alloc.Global.TheLaws as heap_laws
use Rattle.nvmesgl_c.specs.contracts.controller.handle.Kept as handle
use Rattle.nvmesgl_c.proofs.controller.handle.Kept.of_held.Code as code

pub of_held_spec : {M : Type 1} → statement M
of_held_spec 𝓤 𝓛 𝓜 𝓡 wired =
    let H = 𝓛.H in let 𝓣 = tables 𝓤 H 𝓜 𝓡 𝓡.env in let Z : RattleType = heap.the_row in let LZ = heap_laws.the_row_laws in let Boxed : RattleType = Held Row Z LZ ghosts in let From : RattleType = Boxed in let To : RattleType = handle.the_row in
    let En = ended in let c = clauses 𝓛 𝓜.mem 𝓡.returns in let fn = code.function in let hs : Stays En.signature.params En.kept = (stay_dropped (plain (λ _. From)) yes, tt) in
    proved_at 𝓛 En hs c 𝓜 𝓡 (Goes-blank 𝓛 0 (plain (λ _. From)) yes (λ κs x f. tt), tt) #self fn (code.unfolded 𝓤 H 𝓜 𝓡 wired) (λ z are.
    let v = z.0.3.0 in let p = v.at in let a = v.alloc in let x = v.value in let Post : Val → SProp 𝓤 = (walk_of 𝓛 En hs c).post z in let Run : List Val → SProp 𝓤 = λ ws. WpFn 𝓤 H 𝓣.C 𝓣.Λ fn ws Post in
    let made : To.Denot = record { at = p; alloc = a; controller = x } in let held : Boxed.Denot = record { at = p; alloc = a; value = x } in
    qed 𝓛 ((raw (alive 𝓛 En.signature z.0.0 z.0.1) ⊛ ‵ (owns (types_at En.signature.params z.0.0) z.0.3 z.0.4)) ∷ raw ((c z.0.0 z.0.3).requires z.1) ∷ []) ∵ split ! $ move ! (1 ∷ []) $ fsplit ! $
    use1 𝓛 (‵ (Boxed.own_val held z.0.4.0)) (id⊢ 𝓤 _) $ held_out Row Z LZ ghosts ! held z.0.4.0 (λ h ws good. held_in Row Z LZ ghosts ! p h a x $
    let w : Val = held_val p h in let whole_good = held_good Row Z LZ ghosts p h good in
    use1 𝓛 (‵ (To.own_val made (w ∷ []))) (id⊢ 𝓤 _) $
    suffices ! (Run (w ∷ [])) (subst (λ (us : List Val). ent 𝓤 (Run (w ∷ [])) (Run us)) (sym (λ i. ws i ++ [])) (id⊢ 𝓤 (Run (w ∷ [])))) $
    enter ! 𝓣.C 𝓣.Λ fn (w ∷ []) Post $ alloc_all ! (λ l. pass_all ! refl (whole_good, tt) $
    sets ! (of_opd ! (get_in ! (fld ! refl (stop !)) (sub ! 0 refl (whole !)))) refl (at_good Row Z LZ ghosts p) $ sets ! (of_opd ! (get_in ! (fld ! refl (stop !)) (sub ! 1 refl (whole !)))) refl good $
    sets ! (of_opd ! (get ! refl)) refl (at_good Row Z LZ ghosts p) $ sets ! (agg ! (and_then ! (get ! refl) (and_then ! (get ! refl) (no_more !)))) refl whole_good $
    use0 𝓛 (raw (fact 𝓤 (x ≡ x))) (fact_i 𝓤 (x ≡ x) (emp 𝓤) refl) $ nothing ! $ nothing ! $ fjoin ! $
    returns ! (look_at ! 0 refl) $ free_all ! refl $ keep ! (4 ∷ 0 ∷ 2 ∷ 1 ∷ []) $ by ! (leaves 𝓛 En hs c z w made (tt, tt) (tt, tt)))))
