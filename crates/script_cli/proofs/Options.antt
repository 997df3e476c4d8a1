-- Options that words say, from one word to the next.
use Rattle.std.proofs.Common.{◌≡◌, ℕ, Bool, true, false, ◌&&◌, Option, Some, None, List, [], ◌∷◌, refl, if◌then◌else◌, option_and_then, option_map, MatchOption, subst, sym}
use Rattle.std.specs.{Borrow.Bor, Prelude.codes, Str.bytes_eq}
use Rattle.script_cli.specs.{Lines.{before, onward}, Options.{has_submitters, is_equals, once, said_from, unhyphened, with_option}, Pieces.number32}
use Rattle.script_cli.specs.declared.transcripts.options.{SaidOptions.SaidOptions, ScriptKind.ScriptKind}

-- an option with its number in the same word
pub joined_said : (word rest-digits : List ℕ) (rest : List (List ℕ)) (equals : ℕ) (kind : ScriptKind) (said : SaidOptions) → onward is_equals word ≡ equals ∷ rest-digits →
    said_from kind None said (word ∷ rest) ≡ option_and_then (λ more. said_from kind None more rest) (with_option kind said (unhyphened (before is_equals word)) (number32 rest-digits))
joined_said word digits rest equals kind said cut = rw cut refl

-- an option with its number in the next word
pub apart_said : (word next : List ℕ) (rest : List (List ℕ)) (kind : ScriptKind) (said : SaidOptions) → onward is_equals word ≡ [] →
    said_from kind None said (word ∷ next ∷ rest) ≡ option_and_then (λ more. said_from kind None more rest) (with_option kind said (unhyphened word) (number32 next))
apart_said word next rest kind said uncut = rw uncut refl

once_none : (number : Option ℕ) → once number None ≡ None
once_none None = refl
once_none (Some n) = refl

mapped_none : (number : Option ℕ) (f : Option ℕ → SaidOptions) → option_map f (once number None) ≡ None
mapped_none number f = rw (once_none number) refl

either : (b : Bool) (x y : Option SaidOptions) → x ≡ None → y ≡ None → (if b then x else y) ≡ None
either true x y e f = e
either false x y e f = f

-- an option without a number is none
pub no_number : (kind : ScriptKind) (said : SaidOptions) (name : List ℕ) → with_option kind said name None ≡ None
no_number kind said name =
    either (bytes_eq name (codes "pages")) _ _ (mapped_none said.pages _) (
    either (bytes_eq name (codes "queues")) _ _ (mapped_none said.queues _) (
    either (bytes_eq name (codes "entries")) _ _ (mapped_none said.entries _) (
    either (bytes_eq name (codes "segment")) _ _ (mapped_none said.segment _) (
    either (bytes_eq name (codes "blocks")) _ _ (mapped_none said.blocks _) (
    either (has_submitters kind && bytes_eq name (codes "submitters")) _ _ (mapped_none said.submitters _) refl)))))

-- an option with its number in the next word, if there is one
pub rest_said : (word : List ℕ) (mid rest : List (List ℕ)) (next : Option (Bor (List ℕ))) (kind : ScriptKind) (said : SaidOptions) → onward is_equals word ≡ []
    → MatchOption next ((mid ≡ []) × (rest ≡ [])) (λ n. mid ≡ n.now ∷ rest)
    → said_from kind None said (word ∷ mid) ≡ option_and_then (λ more. said_from kind None more rest) (with_option kind said (unhyphened word) (option_and_then (λ n. number32 n.now) next))
rest_said word mid rest None kind said uncut (none, left) =
    subst (λ (m : List (List ℕ)). said_from kind None said (word ∷ m) ≡ option_and_then (λ more. said_from kind None more rest) (with_option kind said (unhyphened word) None)) (sym none)
    (rw (uncut, no_number kind said (unhyphened word)) refl)
rest_said word mid rest (Some n) kind said uncut taken =
    subst (λ (m : List (List ℕ)). said_from kind None said (word ∷ m) ≡ option_and_then (λ more. said_from kind None more rest) (with_option kind said (unhyphened word) (number32 n.now))) (sym taken)
    (apart_said word n.now rest kind said uncut)
