-- Lines that are answers.
use Rattle.std.proofs.Common.{arith, ◌≡◌, ◌≢◌, ◌<◌, ◌==◌, ℕ, Bool, true, false, Option, Some, None, MatchOption, List, [], ◌∷◌, length, option_map, refl, sym, ap}
use Rattle.std.proofs.lemmas.Bool.{eqb-true}
use Rattle.std.specs.{Borrow.Bor}
use Rattle.script_cli.specs.Lines.{is_blank, is_solid, onward}
use Rattle.script_cli.specs.Transcripts.{behind_blank, behind_indent, behind_sign}

abbrev shown : Option (Bor (List ℕ)) → Option (List ℕ)
shown r = option_map (λ (t : Bor (List ℕ)). t.now) r

-- a space, and else a tab
pub behind_space : (bs rest : List ℕ) → bs ≡ 32 ∷ rest → Some rest ≡ behind_blank bs
behind_space bs rest e = sym (ap behind_blank e)

pub behind_tab : (bs : List ℕ) (r : Option (Bor (List ℕ))) → ((rest : List ℕ) → bs ≢ 32 ∷ rest) → MatchOption r ((rest : List ℕ) → bs ≢ 9 ∷ rest) (λ x. bs ≡ 9 ∷ x.now) → shown r ≡ behind_blank bs
behind_tab bs (Some x) space tab = sym (ap behind_blank tab)
behind_tab [] None space tab = refl
behind_tab (b ∷ rest) None space tab = by_byte (b == 32) refl (b == 9) refl
  where
    by_byte : (v : Bool) → (b == 32) ≡ v → (w : Bool) → (b == 9) ≡ w → None ≡ behind_blank (b ∷ rest)
    by_byte true e w f = absurd (space rest (ap (λ (x : ℕ). x ∷ rest) (eqb-true b 32 e)))
    by_byte false e true f = absurd (tab rest (ap (λ (x : ℕ). x ∷ rest) (eqb-true b 9 f)))
    by_byte false e false f = rw (e, f) refl

pub sign_of : (bs : List ℕ) → 0 < length bs → behind_blank bs ≡ behind_sign bs
sign_of [] some = absurd (omega arith)
sign_of (b ∷ rest) some = refl

pub no_sign : (bs : List ℕ) → ((rest : List ℕ) → bs ≢ 62 ∷ rest) → None ≡ behind_indent bs
no_sign [] other = refl
no_sign (b ∷ rest) other = by_sign (b == 62) refl
  where
    by_sign : (v : Bool) → (b == 62) ≡ v → None ≡ behind_indent (b ∷ rest)
    by_sign true e = absurd (other rest (ap (λ (x : ℕ). x ∷ rest) (eqb-true b 62 e)))
    by_sign false e = rw e refl

-- Indents

pub goes_behind : (bs rest : List ℕ) → Some rest ≡ behind_blank bs → onward is_solid rest ≡ onward is_solid bs
goes_behind [] rest e = cc
goes_behind (b ∷ bs) rest e = by_blank (is_blank b) refl e
  where
    by_blank : (v : Bool) → is_blank b ≡ v → Some rest ≡ behind_blank (b ∷ bs) → onward is_solid rest ≡ onward is_solid (b ∷ bs)
    by_blank true f found = let same : rest ≡ bs = let h : Some rest ≡ Some bs = rw f at found in cc in rw f (ap (onward is_solid) same)
    by_blank false f found = let h : Some rest ≡ None = rw f at found in cc

pub is_shorter : (bs rest : List ℕ) → Some rest ≡ behind_blank bs → length rest < length bs
is_shorter [] rest e = cc
is_shorter (b ∷ bs) rest e = by_blank (is_blank b) refl e
  where
    by_blank : (v : Bool) → is_blank b ≡ v → Some rest ≡ behind_blank (b ∷ bs) → length rest < length (b ∷ bs)
    by_blank true f found = let h : Some rest ≡ Some bs = rw f at found in let same : rest ≡ bs = cc in let n : length rest ≡ length bs = ap length same in omega arith
    by_blank false f found = let h : Some rest ≡ None = rw f at found in cc

pub stands : (bs : List ℕ) → None ≡ behind_blank bs → bs ≡ onward is_solid bs
stands [] e = refl
stands (b ∷ bs) e = by_blank (is_blank b) refl e
  where
    by_blank : (v : Bool) → is_blank b ≡ v → None ≡ behind_blank (b ∷ bs) → b ∷ bs ≡ onward is_solid (b ∷ bs)
    by_blank true f found = let h : None ≡ Some bs = rw f at found in cc
    by_blank false f found = rw f refl
