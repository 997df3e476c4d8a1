-- `beginning` keeps what the list is now.
use Rattle.std.proofs.Common.{◌≡◌, List, [], ◌∷◌, refl}
use mir.Syntax.{a_type, dcons, dnil, named}
use mir.Val.{Val, vptr}
use mir.MapTy.{inst_fn}
use base.Logic.{SProp}
use base.Fml.{Fml, ftrue, fsep, flft}
use types.Kit.{‵, raw, ◌⊛◌, ◌$◌, ◌∵◌, !, qed, by, move, keep, split, fsplit, fsplit3, fjoin, fjoin3, use0, use1, feq_i}
use types.Run.{no_more, and_then, returns, enter}
use types.ByLocal.{alloc_all, pass_all, free_all, look_at, get, sets}
use types.Part.{agg}
use contract.Running.{tables}
use denote.RattleType.{RattleType, owns}
use denote.Signature.{types_at, plain}
use denote.Ref.{mut_vals, mut_Tells}
use denote.Steps.{nothing, opens, closes}
use denote.Param.{param, bounded}
use denote.Struct.Tuple.{Tuple}
use denote.Triple.Walked.{Stays, stay_ref, walk_of, Goes-ref}
use Rattle.core.proofs.ledger.Walks.{tells_all}
use Rattle.atomic_table.proofs.Walks.{proved}
use Rattle.logbook.proofs.Fields.{token, Token, token_made, ends}
use Rattle.driver_book.specs.KnownLists.{grows, reached}
use Rattle.driver_book.proofs.Growth as steps
use Rattle.driver_book.specs.contracts.known_list.KnownList as KnownList
use Rattle.driver_book.specs.contracts.known_list.Beginning as Beginning
use Rattle.driver_book.specs.contracts.known_list.KnownList.beginning.{ended, clauses}
use Rattle.driver_book.specs.contracts.known_list.KnownList.beginning.Key.{name as #self}
use Rattle.driver_book.proofs.known_list.KnownList.beginning.Statement.{statement}
use Rattle.driver_book.proofs.known_list.KnownList.beginning.Code as code

pub beginning_spec : {M : Type 1} → statement M
beginning_spec 𝓤 𝓛 𝓜 𝓡 wired E N _ _ g d _ =
    let H = 𝓛.H in let 𝓣 = tables 𝓤 H 𝓜 𝓡 𝓡.env in let E' : RattleType = param 0 E in let N' : RattleType = param 1 N in let En = ended E N g d in
    let inst = bounded (a_type ∷ a_type ∷ []) (E, (N, tt)) (dcons d dnil) in let fn = inst_fn inst code.function in let c = clauses E N g d 𝓛 𝓜.mem 𝓡.returns in
    let cv = E'.coded in let L : RattleType = KnownList.the_row E' N' g in let Two : RattleType = Tuple (E' ∷ N' ∷ []) in
    let hs : Stays En.signature.params En.kept = (stay_ref (0 ∷ []) tt (plain (λ _. L)), tt) in
    proved 𝓛 En hs c 𝓜 𝓡 (Goes-ref 𝓛 3 0 tt (plain (λ _. L)), tt) (#self inst) fn (code.unfolded 𝓤 H 𝓜 𝓡 wired (E, (N, tt)) d)
    (λ κs. (mut_vals, tt)) (λ κs. (mut_Tells (named 0) κs.0 L, tt)) (λ κs qs bounds a gh are.
    let me = a.0.now in let u : Val = vptr a.0.ref_ptr.0 a.0.ref_ptr.1 in let r : (Beginning.the_row E' N' g).Denot = record { marker = record {}; entries = me.entries } in
    let y : (walk_of 𝓛 En hs c).Ghost = ((κs, qs, bounds, a, (u ∷ [], tt)), gh) in let Post : Val → SProp 𝓤 = (walk_of 𝓛 En hs c).post y in
    let toks : Fml = fsep (flft κs.0 qs.0) (fsep (flft κs.1.0 qs.1.0) (fsep (flft κs.1.1.0 qs.1.1.0) ftrue)) in
    qed 𝓛 ((‵ toks ⊛ ‵ (owns (types_at En.signature.params κs) a y.0.4)) ∷ raw ((c κs a).requires gh) ∷ []) ∵ keep ! (0 ∷ []) $ split ! $
    fsplit ! $ move ! (2 ∷ []) $ fsplit ! $ fsplit3 ! $ keep ! (1 ∷ 2 ∷ 4 ∷ 5 ∷ []) $
    enter ! 𝓣.C 𝓣.Λ fn (u ∷ []) Post $ alloc_all ! (λ l. pass_all ! refl ((tt, tt), tt) $ opens ! tt L a.0.ref_ptr.0 a.0.ref_ptr.1 (λ vs. move ! (1 ∷ []) $ fsplit ! $ move ! (1 ∷ []) $
    use1 𝓛 (‵ (grows cv.code g.list me.entries) ⊛ ‵ (reached cv.code g.list me.entries)) (steps.shows cv 𝓛 g.list me.entries) $ split ! $ move ! (2 ∷ 0 ∷ []) $ fjoin ! $ move ! (2 ∷ 0 ∷ 3 ∷ 4 ∷ 5 ∷ []) $ closes ! tt L me vs a.0.ref_ptr.0 a.0.ref_ptr.1 $
    move ! (3 ∷ []) $ use0 𝓛 (‵ ((Token Two).own_val (record {}, tt) (token ∷ []))) (token_made Two 𝓛) $ fjoin ! $ sets ! (agg ! (no_more !)) refl (tt, tt) $ sets ! (agg ! (and_then ! (get ! refl) (no_more !))) refl (tt, (tt, tt)) $
    move ! (3 ∷ 4 ∷ []) $ fjoin ! $ nothing ! $ feq_i ! (List Val) (u ∷ []) (u ∷ []) refl $ move ! (0 ∷ 4 ∷ 5 ∷ []) $ fjoin3 ! $ fjoin ! $
    returns ! (look_at ! 0 refl) $ free_all ! refl $ keep ! (1 ∷ 0 ∷ 2 ∷ []) $ by ! (ends 𝓛 En hs c y token r (me, tt) (tt, tt) (tells_all 𝓤 ((me.entries ≡ me.entries) ∷ (me ≡ me) ∷ []) (refl, refl))))))
