-- The lines of a text, as they come one after the other.
use Rattle.std.proofs.Common.{arith, ◌≡◌, ◌<◌, ◌-◌, ◌==◌, ◌&&◌, ℕ, Bool, true, false, Some, None, List, [], ◌∷◌, length, take, get_or, refl, sym, ap, ◌∙◌, subst, suc, if◌then◌else◌}
use Rattle.std.proofs.lemmas.{Bool.{true≢false, and_parts, ne_eqb}, Iterator.{YieldsList}, Iterator.Splits.{YieldsList-from_lines}, List.Splits.{length-slice_split}}
use Rattle.std.specs.{Borrow.Bor, List.{onto_first, slice_split}, Str.Iter.{lines_rest, lines_steps}, Str.Lines.{lines_of_parts, strip_carriage_return}}
use Rattle.std.specs.Str.Lines as std
use Rattle.std.specs.declared.str.Lines.{Lines}
use Rattle.script_cli.specs.Lines.{is_feed, is_dropped, lines}

-- The lines of a text, cut at once, are those that its first line and the lines after it are.

abbrev parts : List ℕ → List (List ℕ)
parts bs = slice_split is_feed bs

some_parts : (bs : List ℕ) → 0 < length (parts bs)
some_parts bs = omega (arith, length-slice_split is_feed bs)

abbrev strip_at : ℕ → List ℕ → List ℕ
strip_at n l = if get_or l n 0 == 13 then take n l else l

strip_front : (b c : ℕ) (y : List ℕ) → strip_carriage_return (b ∷ c ∷ y) ≡ b ∷ strip_carriage_return (c ∷ y)
strip_front b c y =
    let e : length (b ∷ c ∷ y) - 1 ≡ suc (length y) = omega arith in
    let f : length (c ∷ y) - 1 ≡ length y = omega arith in
    ap (λ (n : ℕ). strip_at n (b ∷ c ∷ y)) e ∙ by_return (get_or (c ∷ y) (length y) 0 == 13) ∙ ap (λ (n : ℕ). b ∷ strip_at n (c ∷ y)) (sym f)
  where
    by_return : (v : Bool) → (if v then b ∷ take (length y) (c ∷ y) else b ∷ c ∷ y) ≡ b ∷ (if v then take (length y) (c ∷ y) else c ∷ y)
    by_return true = refl
    by_return false = refl

parts_cons : (x : List ℕ) (ps : List (List ℕ)) → 0 < length ps → lines_of_parts (x ∷ ps) ≡ strip_carriage_return x ∷ lines_of_parts ps
parts_cons x [] some = absurd (omega arith)
parts_cons x (y ∷ more) some = refl

front_of_parts : (b c : ℕ) (y : List ℕ) (more : List (List ℕ)) → lines_of_parts ((b ∷ c ∷ y) ∷ more) ≡ onto_first b (lines_of_parts ((c ∷ y) ∷ more))
front_of_parts b c y [] =
    let long : (length (b ∷ c ∷ y) == 0) ≡ false = ne_eqb (length (b ∷ c ∷ y)) 0 (λ e. omega arith) in
    let some : (length (c ∷ y) == 0) ≡ false = ne_eqb (length (c ∷ y)) 0 (λ e. omega arith) in
    ap (λ (v : Bool). if v then [] else (b ∷ c ∷ y) ∷ []) long ∙ ap (λ (v : Bool). onto_first b (if v then [] else (c ∷ y) ∷ [])) (sym some)
front_of_parts b c y (z ∷ zs) = ap (λ (l : List ℕ). l ∷ lines_of_parts (z ∷ zs)) (strip_front b c y)

front_onto : (b c : ℕ) (ps : List (List ℕ)) → lines_of_parts (onto_first b (onto_first c ps)) ≡ onto_first b (lines_of_parts (onto_first c ps))
front_onto b c [] = front_of_parts b c [] []
front_onto b c (y ∷ more) = front_of_parts b c y more

tail_same : (A B : List (List ℕ)) → [] ∷ A ≡ [] ∷ B → A ≡ B
tail_same A B e = cc

not_feed : (b : ℕ) (v w u : Bool) (x : List (List ℕ)) → v ≡ false → u ≡ false → onto_first b x ≡ (if v then [] ∷ x else if w && u then x else onto_first b x)
not_feed b true w u x e f = absurd (true≢false e)
not_feed b false true true x e f = absurd (true≢false f)
not_feed b false true false x e f = refl
not_feed b false false u x e f = refl

at_line : (b : ℕ) (bs : List ℕ) → std.lines bs ≡ lines bs → std.lines (b ∷ bs) ≡ lines (b ∷ bs)
at_line b [] ih = by_byte (is_feed b) refl (is_dropped b []) refl
  where
    by_byte : (v : Bool) → is_feed b ≡ v → (w : Bool) → is_dropped b [] ≡ w → std.lines (b ∷ []) ≡ lines (b ∷ [])
    by_byte true e w f = rw e refl
    by_byte false e true f = absurd (true≢false (sym (and_parts (b == 13) false f).1))
    by_byte false e false f = rw (e, f) refl
at_line b (c ∷ cs) ih = by_two_bytes (is_feed b) refl (is_feed c) refl ih
  where
    by_two_bytes : (v : Bool) → is_feed b ≡ v → (w : Bool) → is_feed c ≡ w → std.lines (c ∷ cs) ≡ lines (c ∷ cs) → std.lines (b ∷ c ∷ cs) ≡ lines (b ∷ c ∷ cs)
    by_two_bytes true e w f same = rw e (parts_cons [] (parts (c ∷ cs)) (some_parts (c ∷ cs)) ∙ ap (λ (l : List (List ℕ)). [] ∷ l) same)
    by_two_bytes false e true f same =
        let later : lines_of_parts (parts cs) ≡ lines cs = tail_same _ _ (sym (parts_cons [] (parts cs) (some_parts cs)) ∙ (rw f at same)) in
        rw (e, f) (parts_cons (b ∷ []) (parts cs) (some_parts cs) ∙ ap (λ (l : List (List ℕ)). strip_carriage_return (b ∷ []) ∷ l) later ∙ pick (b == 13))
      where
        pick : (v : Bool) → (if v then [] else b ∷ []) ∷ lines cs ≡ (if v && true then [] ∷ lines cs else (b ∷ []) ∷ lines cs)
        pick true = refl
        pick false = refl
    by_two_bytes false e false f same =
        let here : std.lines (b ∷ c ∷ cs) ≡ onto_first b (std.lines (c ∷ cs)) = rw (e, f) (front_onto b c (parts cs)) in
        here ∙ ap (onto_first b) same ∙ not_feed b (is_feed b) (b == 13) (is_feed c) (lines (c ∷ cs)) e f

pub same_lines : (bs : List ℕ) → std.lines bs ≡ lines bs
same_lines [] = refl
same_lines (b ∷ bs) = at_line b bs (same_lines bs)

-- Lines that come one after the other

pub next_line : {s t : Lines} (x : Bor (List ℕ)) (ys : List (List ℕ)) → YieldsList lines_steps (λ (l : Bor (List ℕ)). l.now) s ys → lines_steps s (Some x) t
    → (more : List (List ℕ)) × (ys ≡ x.now ∷ more) × YieldsList lines_steps (λ (l : Bor (List ℕ)). l.now) t more
next_line {s} {t} x [] y k = absurd (y.runs x t k)
next_line {s} {t} x (z ∷ more) y k = let m = y.runs.1 x t k in (more, ap (λ (w : List ℕ). w ∷ more) (sym m.0), record { runs = m.1 })

pub no_line : {s t : Lines} (ys : List (List ℕ)) → YieldsList lines_steps (λ (l : Bor (List ℕ)). l.now) s ys → lines_steps s None t → ys ≡ []
no_line {s} {t} [] y k = refl
no_line {s} {t} (z ∷ more) y k = absurd (y.runs.0 t k)

pub all_lines : {s : Lines} (bs : List ℕ) → lines_rest s ≡ bs → YieldsList lines_steps (λ (l : Bor (List ℕ)). l.now) s (lines bs)
all_lines {s} bs e = subst (λ (ys : List (List ℕ)). YieldsList lines_steps (λ (l : Bor (List ℕ)). l.now) s ys) (same_lines bs) (YieldsList-from_lines bs e)
