-- The three functions that write the account, at a call: what each is handed, and what a caller has of it. Assumes `Logic`.
use Rattle.std.proofs.Common.{◌≡◌, ◌^◌, ◌<◌, Bool, ℕ, List, [], ◌∷◌, refl, ap, w64}
use seplogic.Ra.Ura.{Ura}
use mir.{Syntax.Body, Val.{Val, vbool, vint, vunit, vptr}}
use base.{Fml.{Lft, Share, ftrue, fsep, flft}, Logic.{SProp, ent, sep, guard, ex, id⊢}}
use prog.{Memory.Memory, Routine.Routine, Wp.{Env, Calls, Loops, Wp, after_seq}}
use types.Kit.{Post, any_q, post, ‵, raw, ◌⊛◌, some, later, ◌$◌, ◌∵◌, !, qed, move, keep, use1, split, join, pick, fjoin, feq_i, feq_l, flt_i, check, show, await, updating, now as at_once, done}
use types.Logic.{Logic, sem}
use contract.Monad.{Fun}
use denote.{Builtin.{bool, unit}, Memory.hidden_shr, RattleType.{RattleType, RowLaws}, Steps.{nothing, only}, Triple.{Spec.triple_of, Statement.Contract}}
use Rattle.test_support.proofs.allocator.Account.TheLaws as account_laws
use Rattle.test_support.specs.contracts.allocator.Account as account
use Rattle.test_support.specs.contracts.allocator.refuses_call as ask
use Rattle.test_support.specs.contracts.allocator.count_block as block
use Rattle.test_support.specs.contracts.allocator.count_return as returned

abbrev pub AccountRow : RattleType
AccountRow = account.the_row

abbrev pub kept_laws : RowLaws AccountRow
kept_laws = account_laws.the_row_laws.shr_laws

-- an account as contracts see it: nothing is known of its words
abbrev pub some_account : account.the_row.Denot
some_account = record { first = tt; last = tt; calls = tt; refused = tt; blocks = tt; bytes = tt }

-- what is left to run after a match's arm
abbrev pub then_runs : {M : Type 1} {𝓤 : Ura M} (𝓛 : Logic 𝓤) → Calls 𝓤 𝓛.H → Loops 𝓤 𝓛.H → Env 𝓤 𝓛.H → Body → Post 𝓤 𝓛.H → Post 𝓤 𝓛.H
then_runs {𝓤 = 𝓤} 𝓛 C Λ E b q = any_q (after_seq 𝓤 𝓛.H (Wp 𝓤 𝓛.H C Λ E b (post 𝓤 𝓛.H q)) (post 𝓤 𝓛.H q))

module _ {M : Type 1} {𝓤 : Ura M} (𝓛 : Logic 𝓤) (at_mem : Memory → SProp 𝓤) (run : Routine → Fun 𝓤) where
  abbrev pub Ask : Contract 𝓤
  Ask = triple_of 𝓛 ask.signature (ask.spec 𝓛 at_mem run)

  abbrev pub at_ask : Lft → Share → ℕ × ℕ → Ask.Ghost
  at_ask κ q c = (((κ, tt), (q, tt), tt, (record { ref_ptr = c; now = some_account }, tt), (vptr c.0 c.1 ∷ [], tt)), tt)

  abbrev pub Block : Contract 𝓤
  Block = triple_of 𝓛 block.signature (block.spec 𝓛 at_mem run)

  abbrev pub at_block : Lft → Share → ℕ × ℕ → ℕ → Block.Ghost
  at_block κ q c n = (((κ, tt), (q, tt), tt, (record { ref_ptr = c; now = some_account }, (n, tt)), (vptr c.0 c.1 ∷ [], (vint w64 n ∷ [], tt))), tt)

  abbrev pub Returned : Contract 𝓤
  Returned = triple_of 𝓛 returned.signature (returned.spec 𝓛 at_mem run)

  abbrev pub at_returned : Lft → Share → ℕ × ℕ → ℕ → Returned.Ghost
  at_returned κ q c n = (((κ, tt), (q, tt), tt, (record { ref_ptr = c; now = some_account }, (n, tt)), (vptr c.0 c.1 ∷ [], (vint w64 n ∷ [], tt))), tt)

module _ {M : Type 1} {𝓤 : Ura M} (𝓛 : Logic 𝓤) (at_mem : Memory → SProp 𝓤) (run : Routine → Fun 𝓤) (κ : Lft) (q : Share) (c : ℕ × ℕ) where
  open 𝓛 use {H, A}

  pub Ask-goes : ent 𝓤 (sep 𝓤 (sem 𝓛 (hidden_shr AccountRow κ (some_account) c.0 c.1)) (A.lft κ q)) ((Ask 𝓛 at_mem run).pre (at_ask 𝓛 at_mem run κ q c))
  Ask-goes =
      qed 𝓛 (‵ (hidden_shr AccountRow κ (some_account) c.0 c.1) ∷ ‵ (flft κ q) ∷ []) ∵ feq_i ! (List Val) (vptr c.0 c.1 ∷ []) (vptr c.0 c.1 ∷ []) refl $ fjoin ! $
      nothing ! $ move ! (1 ∷ []) $ fjoin ! $ nothing ! $ move ! (2 ∷ []) $ join ! $ join ! $ nothing ! $ move ! (1 ∷ []) $ join ! $ done !

  pub Ask-gives : (v : Val) → ent 𝓤 ((Ask 𝓛 at_mem run).post (at_ask 𝓛 at_mem run κ q c) v) (H.⇛ (ex 𝓤 (λ (y : Bool). guard 𝓤 (v ≡ vbool y) (A.lft κ q))))
  Ask-gives v =
      qed 𝓛 (raw ((Ask 𝓛 at_mem run).post (at_ask 𝓛 at_mem run κ q c) v) ∷ []) ∵ updating ! $
      use1 𝓛 (later (some (λ (y : Bool). ((‵ (flft κ q) ⊛ ‵ ftrue) ⊛ ‵ (bool.own_val y (v ∷ []))) ⊛ some (λ (ws : Unit {0} × Unit {0}). ‵ (fsep ftrue ftrue) ⊛ ‵ ftrue)))) (id⊢ 𝓤 _) $ await ! tt $ pick ! (λ y.
      split ! $ split ! $ move ! (1 ∷ []) $ feq_l ! (λ e. split ! $ at_once ! $
      show ! (λ (z : Bool). guard 𝓤 (v ≡ vbool z) (A.lft κ q)) y $ check ! (ap only e) $ keep ! (0 ∷ []) $ done !))

  pub Block-goes : (n : ℕ) → n < 2 ^ 64 → ent 𝓤 (sep 𝓤 (sem 𝓛 (hidden_shr AccountRow κ (some_account) c.0 c.1)) (A.lft κ q)) ((Block 𝓛 at_mem run).pre (at_block 𝓛 at_mem run κ q c n))
  Block-goes n fn =
      qed 𝓛 (‵ (hidden_shr AccountRow κ (some_account) c.0 c.1) ∷ ‵ (flft κ q) ∷ []) ∵
      nothing ! $ flt_i ! n (2 ^ 64) fn $ feq_i ! (List Val) (vint w64 n ∷ []) (vint w64 n ∷ []) refl $ fjoin ! $ fjoin ! $
      move ! (1 ∷ []) $ feq_i ! (List Val) (vptr c.0 c.1 ∷ []) (vptr c.0 c.1 ∷ []) refl $ fjoin ! $ move ! (0 ∷ 1 ∷ []) $ fjoin ! $
      nothing ! $ move ! (2 ∷ []) $ join ! $ join ! $ nothing ! $ move ! (1 ∷ []) $ join ! $ done !

  pub Block-gives : (n : ℕ) (v : Val) → ent 𝓤 ((Block 𝓛 at_mem run).post (at_block 𝓛 at_mem run κ q c n) v) (H.⇛ (guard 𝓤 (v ≡ vunit) (A.lft κ q)))
  Block-gives n v =
      qed 𝓛 (raw ((Block 𝓛 at_mem run).post (at_block 𝓛 at_mem run κ q c n) v) ∷ []) ∵ updating ! $
      use1 𝓛 (later (some (λ (r : Unit {0}). ((‵ (flft κ q) ⊛ ‵ ftrue) ⊛ ‵ (unit.own_val r (v ∷ []))) ⊛ some (λ (ws : Unit {0} × (Unit {0} × Unit {0})). ‵ (fsep ftrue (fsep ftrue ftrue)) ⊛ ‵ ftrue)))) (id⊢ 𝓤 _) $ await ! tt $ pick ! (λ r.
      split ! $ split ! $ move ! (1 ∷ []) $ feq_l ! (λ e. split ! $ at_once ! $ check ! (ap only e) $ keep ! (0 ∷ []) $ done !))

  pub Returned-goes : (n : ℕ) → n < 2 ^ 64 → ent 𝓤 (sep 𝓤 (sem 𝓛 (hidden_shr AccountRow κ (some_account) c.0 c.1)) (A.lft κ q)) ((Returned 𝓛 at_mem run).pre (at_returned 𝓛 at_mem run κ q c n))
  Returned-goes n fn =
      qed 𝓛 (‵ (hidden_shr AccountRow κ (some_account) c.0 c.1) ∷ ‵ (flft κ q) ∷ []) ∵
      nothing ! $ flt_i ! n (2 ^ 64) fn $ feq_i ! (List Val) (vint w64 n ∷ []) (vint w64 n ∷ []) refl $ fjoin ! $ fjoin ! $
      move ! (1 ∷ []) $ feq_i ! (List Val) (vptr c.0 c.1 ∷ []) (vptr c.0 c.1 ∷ []) refl $ fjoin ! $ move ! (0 ∷ 1 ∷ []) $ fjoin ! $
      nothing ! $ move ! (2 ∷ []) $ join ! $ join ! $ nothing ! $ move ! (1 ∷ []) $ join ! $ done !

  pub Returned-gives : (n : ℕ) (v : Val) → ent 𝓤 ((Returned 𝓛 at_mem run).post (at_returned 𝓛 at_mem run κ q c n) v) (H.⇛ (guard 𝓤 (v ≡ vunit) (A.lft κ q)))
  Returned-gives n v =
      qed 𝓛 (raw ((Returned 𝓛 at_mem run).post (at_returned 𝓛 at_mem run κ q c n) v) ∷ []) ∵ updating ! $
      use1 𝓛 (later (some (λ (r : Unit {0}). ((‵ (flft κ q) ⊛ ‵ ftrue) ⊛ ‵ (unit.own_val r (v ∷ []))) ⊛ some (λ (ws : Unit {0} × (Unit {0} × Unit {0})). ‵ (fsep ftrue (fsep ftrue ftrue)) ⊛ ‵ ftrue)))) (id⊢ 𝓤 _) $ await ! tt $ pick ! (λ r.
      split ! $ split ! $ move ! (1 ∷ []) $ feq_l ! (λ e. split ! $ at_once ! $ check ! (ap only e) $ keep ! (0 ∷ []) $ done !))
