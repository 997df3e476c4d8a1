-- `begins_with` reads what is known beside the list.
use Rattle.std.proofs.Common.{◌≡◌, List, [], ◌∷◌, refl}
use mathlib.Core.List.{IsPrefix}
use mir.Syntax.{a_type, dcons, dnil, named}
use mir.Val.{Val, vunit, vptr}
use mir.MapTy.{inst_fn}
use base.Logic.{SProp}
use base.Fml.{Fml, ftrue, fsep, flft, fhide}
use types.Kit.{‵, raw, ◌⊛◌, given, ◌$◌, ◌∵◌, !, qed, by, move, keep, drop, split, fsplit, fsplit3, fjoin, fjoin3, learn, use1, use2, feq_i}
use types.Run.{unit_lit, of_opd, returns, enter}
use types.ByLocal.{alloc_all, pass_all, free_all, look_at, sets}
use contract.Running.{tables}
use denote.Exit.{yes}
use denote.RattleType.{RattleType, owns}
use denote.Signature.{types_at, plain}
use denote.Builtin.{RefOf}
use denote.Ref.{mut_vals, mut_Tells, shr_vals, shr_Tells}
use denote.Memory.{hidden_shr}
use denote.Opens.{unhide}
use denote.Steps.{nothing, opens, closes}
use denote.Param.{param, bounded}
use denote.Struct.Tuple.{Tuple}
use denote.Struct.Lending.{lent_out}
use denote.Triple.Walked.{Stays, stay_dropped, stay_ref, walk_of, Goes-dropped, Goes-ref}
use Rattle.core.specs.contracts.marker.PhantomData as marker
use Rattle.core.proofs.ledger.Walks.{tells_all}
use Rattle.atomic_table.proofs.Walks.{proved}
use Rattle.logbook.proofs.Fields.{Token, ends}
use Rattle.driver_book.specs.KnownLists.{grows, reached}
use Rattle.driver_book.proofs.Growth as steps
use Rattle.driver_book.specs.contracts.known_list.KnownList as KnownList
use Rattle.driver_book.specs.contracts.known_list.Beginning as Beginning
use Rattle.driver_book.specs.contracts.known_list.KnownList.begins_with.{ended, clauses}
use Rattle.driver_book.specs.contracts.known_list.KnownList.begins_with.Key.{name as #self}
use Rattle.driver_book.proofs.known_list.KnownList.begins_with.Statement.{statement}
use Rattle.driver_book.proofs.known_list.KnownList.begins_with.Code as code

pub begins_with_spec : {M : Type 1} → statement M
begins_with_spec 𝓤 𝓛 𝓜 𝓡 wired E N _ _ g d _ =
    let H = 𝓛.H in let 𝓣 = tables 𝓤 H 𝓜 𝓡 𝓡.env in let E' : RattleType = param 0 E in let N' : RattleType = param 1 N in let En = ended E N g d in
    let inst = bounded (a_type ∷ a_type ∷ []) (E, (N, tt)) (dcons d dnil) in let fn = inst_fn inst code.function in let c = clauses E N g d 𝓛 𝓜.mem 𝓡.returns in
    let cv = E'.coded in let L : RattleType = KnownList.the_row E' N' g in let B : RattleType = Beginning.the_row E' N' g in let Two : RattleType = Tuple (E' ∷ N' ∷ []) in
    let hs : Stays En.signature.params En.kept = (stay_ref (0 ∷ []) tt (plain (λ _. L)), (stay_dropped (RefOf (1 ∷ []) tt (plain (λ _. B)) (λ _. tt)) yes, tt)) in
    proved 𝓛 En hs c 𝓜 𝓡 (Goes-ref 𝓛 4 0 tt (plain (λ _. L)), (Goes-dropped 𝓛 4 (RefOf (1 ∷ []) tt (plain (λ _. B)) (λ _. tt)) yes (λ κs x f. refl), tt)) (#self inst) fn (code.unfolded 𝓤 H 𝓜 𝓡 wired (E, (N, tt)) d)
    (λ κs. (mut_vals, (shr_vals, tt))) (λ κs. (mut_Tells (named 0) κs.0 L, (shr_Tells (named 1) κs.1.0 B, tt))) (λ κs qs bounds a gh are.
    let me = a.0.now in let known = a.1.0.now in let u : Val = vptr a.0.ref_ptr.0 a.0.ref_ptr.1 in let v : Val = vptr a.1.0.ref_ptr.0 a.1.0.ref_ptr.1 in
    let y : (walk_of 𝓛 En hs c).Ghost = ((κs, qs, bounds, a, (u ∷ [], (v ∷ [], tt))), gh) in let Post : Val → SProp 𝓤 = (walk_of 𝓛 En hs c).post y in
    let toks : Fml = fsep (flft κs.0 qs.0) (fsep (flft κs.1.0 qs.1.0) (fsep (flft κs.1.1.0 qs.1.1.0) (fsep (flft κs.1.1.1.0 qs.1.1.1.0) ftrue))) in
    qed 𝓛 ((‵ toks ⊛ ‵ (owns (types_at En.signature.params κs) a y.0.4)) ∷ raw ((c κs a).requires gh) ∷ []) ∵ keep ! (0 ∷ []) $ split ! $
    fsplit ! $ move ! (1 ∷ []) $ fsplit ! $ move ! (3 ∷ []) $ fsplit ! $ fsplit3 ! $ move ! (3 ∷ []) $ fsplit ! $ fsplit ! $ keep ! (1 ∷ 4 ∷ 5 ∷ 6 ∷ 7 ∷ 8 ∷ []) $
    enter ! 𝓣.C 𝓣.Λ fn (u ∷ v ∷ []) Post $ alloc_all ! (λ l. pass_all ! refl ((tt, tt), ((tt, tt), tt)) $
    use1 𝓛 (‵ (hidden_shr (Token Two) κs.1.0 (record {}, tt) a.1.0.ref_ptr.0 a.1.0.ref_ptr.1) ⊛ ‵ (fhide (reached cv.code g.list known.entries))) (lent_out 𝓛 (Beginning.struct E' N' g) (Beginning.the_codes E.Denot N.Denot E'.coded N'.coded (marker.the_row Two).coded) (Beginning.the_heap E' N' g) (Beginning.the_lent E' N' g) κs.1.0 known a.1.0.ref_ptr.0 a.1.0.ref_ptr.1) $ split ! $ drop ! $ unhide ! $
    move ! (1 ∷ 2 ∷ 5 ∷ []) $ opens ! tt L a.0.ref_ptr.0 a.0.ref_ptr.1 (λ vs. move ! (1 ∷ []) $ fsplit ! $ move ! (1 ∷ 6 ∷ []) $
    use2 𝓛 (given (IsPrefix known.entries me.entries) (‵ (grows cv.code g.list me.entries) ⊛ ‵ (reached cv.code g.list known.entries))) (steps.bounds cv 𝓛 g.list me.entries known.entries) $ learn ! (λ begins. split ! $ move ! (1 ∷ []) $ drop ! $
    move ! (1 ∷ 0 ∷ []) $ fjoin ! $ move ! (1 ∷ 0 ∷ 2 ∷ 3 ∷ 4 ∷ []) $ closes ! tt L me vs a.0.ref_ptr.0 a.0.ref_ptr.1 $
    sets ! (of_opd ! (unit_lit !)) refl (tt, tt) $ feq_i ! (List Val) (vunit ∷ []) (vunit ∷ []) refl $
    move ! (4 ∷ 5 ∷ []) $ fjoin ! $ move ! (4 ∷ 0 ∷ []) $ fjoin ! $ nothing ! $ nothing ! $ fjoin ! $ feq_i ! (List Val) (u ∷ []) (u ∷ []) refl $ move ! (0 ∷ 4 ∷ 5 ∷ []) $ fjoin3 ! $ fjoin ! $
    returns ! (look_at ! 0 refl) $ free_all ! refl $ keep ! (1 ∷ 0 ∷ 2 ∷ []) $ by ! (ends 𝓛 En hs c y vunit tt (me, (tt, tt)) (tt, (tt, tt)) (tells_all 𝓤 ((me ≡ me) ∷ IsPrefix known.entries me.entries ∷ []) (refl, begins)))))))
