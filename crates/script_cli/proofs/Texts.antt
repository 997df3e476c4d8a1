-- Texts: lines, words and digits that are read from their start; what was read and written.
use Rattle.script_cli.specs.declared.fault.ScriptFault.TheVariants as fault
use Rattle.std.proofs.Common.{arith, ◌≡◌, ◌<◌, ◌≤◌, ◌+◌, ◌-◌, ℕ, Bool, true, false, nat_lt, Option, Some, None, List, [], ◌++◌, append_assoc, length, take, drop, refl, sym, ap, ◌∙◌, subst, if◌then◌else◌, suc, ◌==◌, ◌∷◌, not, ◌*◌, zero, get_or, replicate, nat_eq, Result, Ok, Err}
use Rattle.std.proofs.lemmas.{Bool.{ltb-true, ltb-false, true≢false, and_parts, le-ltb}, Grind.common_steps}
use Rattle.std.{proofs.lemmas.List.{take_all, take_at, take_rest, take-append-drop, length-take-le}, specs.Io.KnownBytes.{Appends, Keeps, Consumes}}
use Rattle.std.specs.{List.{onto_first, position_or_len}, Str.bytes_eq}
use Rattle.block_image.specs.Blocks.{IsImage}
use Rattle.script_cli.specs.Inputs.{IsTold, AreFirstOf, GivesNoImage}
use Rattle.script_cli.specs.Lines.{is_feed, is_dropped, lines, first_line, after_line, unreturned, begins_part, parts_between, before, onward}
use Rattle.script_cli.specs.{Numbers.{is_digit, digits_from, if_below, hex_byte, bytes_from}, Pieces.{is_plus, number32, data_of, data_piece}}
use Rattle.script_cli.specs.{Replies.runs_text, Scripts.{numbered_line, with_line, script_from, IsNumberedLine, AreLines, IsReading}}
use Rattle.script_cli.specs.declared.{fault.ScriptFault.ScriptFault, input.ImageFault.TheVariants.BadLength, script.{Line.Line, Numbered.Numbered}}
use Rattle.std.proofs.lemmas.Bool.{and_right}

-- What was read and written, where it is known.

-- Writers

pub appends_none : (k : Option (List ℕ)) → Appends k k []
appends_none None = _
appends_none (Some xs) = grind (arith, common_steps)

pub appends_more : (a b c : Option (List ℕ)) (x y : List ℕ) → Appends a b x → Appends b c y → Appends a c (x ++ y)
appends_more None b c x y first second = _
appends_more (Some xs) None c x y first second = absurd first
appends_more (Some xs) (Some ys) None x y first second = absurd second
appends_more (Some xs) (Some ys) (Some zs) x y first second = grind (arith, common_steps)

pub keeps_then : (a b c : Option (List ℕ)) (x : List ℕ) → Appends a b x → Keeps b c → Appends a c x
keeps_then None b c x first kept = _
keeps_then (Some xs) None c x first kept = absurd first
keeps_then (Some xs) (Some ys) None x first kept = absurd kept
keeps_then (Some xs) (Some ys) (Some zs) x first kept = kept ∙ first

-- some of the rest was written, too
pub more_is_written : (all front rest : List ℕ) (n : ℕ) (a b c : Option (List ℕ)) → all ≡ front ++ rest → Appends a b front → Appends b c (take n rest) →
    (x : List ℕ) × (all ≡ x ++ take (length rest - n) (drop n rest)) × Appends a c x
more_is_written all front rest n a b c joined first second =
    (front ++ take n rest, rw (joined, take_rest rest n) (ap (λ (xs : List ℕ). front ++ xs) (sym (take-append-drop n rest)) ∙ sym (append_assoc front (take n rest) (drop n rest))), appends_more a b c front (take n rest) first second)

-- Readers

-- one more than the limit was read
pub limit_is_first : (limit : ℕ) (old new : Option (List ℕ)) (bytes : List ℕ) → length bytes ≡ limit + 1 → Consumes old new bytes → AreFirstOf limit old bytes
limit_is_first limit None new bytes most read = (bytes, _, sym (take_all (limit + 1) bytes (omega (arith, most))))
limit_is_first limit (Some xs) None bytes most read = absurd read
limit_is_first limit (Some xs) (Some ys) bytes most read = (xs, refl, rw read (sym (take_at bytes ys (limit + 1) most)))

-- the first bytes are all, where they are no more than the limit
pub first_are_all : (limit : ℕ) (bytes all : List ℕ) → bytes ≡ take (limit + 1) all → length bytes ≤ limit → bytes ≡ all
first_are_all limit bytes all first few = by_length (nat_lt limit (length all)) refl
  where
    by_length : (b : Bool) → nat_lt limit (length all) ≡ b → bytes ≡ all
    by_length true e =
        let long : limit < length all = ltb-true limit (length all) e in
        let len : length bytes ≡ limit + 1 = ap length first ∙ length-take-le (limit + 1) all (omega (arith, long)) in
        absurd (omega (arith, len, few))
    by_length false e = first ∙ take_all (limit + 1) all (omega (arith, ltb-false limit (length all) e))

-- and more than the limit only where all are
pub first_are_long : (limit : ℕ) (bytes all : List ℕ) → bytes ≡ take (limit + 1) all → limit < length all → length bytes ≡ limit + 1
first_are_long limit bytes all first long = ap length first ∙ length-take-le (limit + 1) all (omega (arith, long))

-- Images

pub image_is_told : (told : Option (List ℕ)) (bytes : List ℕ) → IsImage bytes → AreFirstOf 33554432 told bytes → IsTold told bytes
image_is_told None bytes good first = _
image_is_told (Some xs) bytes good (all, same, first) = first_are_all 33554432 bytes all first (omega (arith, good.few)) ∙ same

pub no_image_is_told : (told : Option (List ℕ)) (bytes : List ℕ) → (IsImage bytes → ⊥) → AreFirstOf 33554432 told bytes → GivesNoImage told BadLength
no_image_is_told told bytes bad (all, same, first) = (all, same, none)
  where
    none : IsImage all → ⊥
    none good =
        let short : length all ≤ 33554432 = omega (arith, good.few) in
        bad (subst IsImage (sym (first ∙ take_all (33554432 + 1) all (omega (arith, short)))) good)

-- What is read up to a limit is as good as all, where more than the limit is refused.

pub same_if_short : {A : Type 0} (long : A) (f : List ℕ → A) (text all : List ℕ) → text ≡ take (1048576 + 1) all
    → (if nat_lt 1048576 (length text) then long else f text) ≡ (if nat_lt 1048576 (length all) then long else f all)
same_if_short {A} long f text all first = by_length (nat_lt 1048576 (length all)) refl
  where
    by_length : (b : Bool) → nat_lt 1048576 (length all) ≡ b → (if nat_lt 1048576 (length text) then long else f text) ≡ (if nat_lt 1048576 (length all) then long else f all)
    by_length true e =
        let more : 1048576 < length all = ltb-true 1048576 (length all) e in
        let len = first_are_long 1048576 text all first more in
        let l : nat_lt 1048576 (length text) ≡ true = ap (nat_lt 1048576) len in
        rw (e, l) refl
    by_length false e =
        let few : length all ≤ 1048576 = ltb-false 1048576 (length all) e in
        let same : text ≡ all = first ∙ take_all (1048576 + 1) all (omega (arith, few)) in
        ap (λ (t : List ℕ). if nat_lt 1048576 (length t) then long else f t) same

-- A text that is not empty is its first line and the lines after it; a line is its first word and the words after it.

-- Lines

pub lines_cut : (b : ℕ) (bs : List ℕ) → lines (b ∷ bs) ≡ first_line (b ∷ bs) ∷ lines (after_line (b ∷ bs))
lines_cut b [] = by_byte (is_feed b) refl (is_dropped b []) refl
  where
    by_byte : (v : Bool) → is_feed b ≡ v → (w : Bool) → is_dropped b [] ≡ w → lines (b ∷ []) ≡ first_line (b ∷ []) ∷ lines (after_line (b ∷ []))
    by_byte true e w f = rw e refl
    by_byte false e true f = absurd (true≢false (sym (and_parts (b == 13) false f).1))
    by_byte false e false f = rw (e, f) refl
lines_cut b (c ∷ cs) = by_byte (is_feed b) refl (is_dropped b (c ∷ cs)) refl (lines_cut c cs)
  where
    by_byte : (v : Bool) → is_feed b ≡ v → (w : Bool) → is_dropped b (c ∷ cs) ≡ w → lines (c ∷ cs) ≡ first_line (c ∷ cs) ∷ lines (after_line (c ∷ cs))
        → lines (b ∷ c ∷ cs) ≡ first_line (b ∷ c ∷ cs) ∷ lines (after_line (b ∷ c ∷ cs))
    by_byte true e w f ih = rw e refl
    by_byte false e true f ih = rw (e, f) (rw ((and_parts (b == 13) (is_feed c) f).1) refl)
    by_byte false e false f ih = rw (e, f) (ap (onto_first b) ih)

-- What is before the first byte that passes a test, and what starts at it

one_more : (n : ℕ) → 1 + n ≡ suc n
one_more n = omega arith

pub cut_before : (p : ℕ → Bool) (text : List ℕ) → take (position_or_len p text) text ≡ before p text
cut_before p [] = refl
cut_before p (b ∷ bs) = by_test (p b) refl (cut_before p bs)
  where
    by_test : (v : Bool) → p b ≡ v → take (position_or_len p bs) bs ≡ before p bs → take (position_or_len p (b ∷ bs)) (b ∷ bs) ≡ before p (b ∷ bs)
    by_test true e ih = rw e refl
    by_test false e ih = rw e (rw (one_more (position_or_len p bs)) (ap (λ (l : List ℕ). b ∷ l) ih))

pub cut_onward : (p : ℕ → Bool) (text : List ℕ) → drop (position_or_len p text) text ≡ onward p text
cut_onward p [] = refl
cut_onward p (b ∷ bs) = by_test (p b) refl (cut_onward p bs)
  where
    by_test : (v : Bool) → p b ≡ v → drop (position_or_len p bs) bs ≡ onward p bs → drop (position_or_len p (b ∷ bs)) (b ∷ bs) ≡ onward p (b ∷ bs)
    by_test true e ih = rw e refl
    by_test false e ih = rw e (rw (one_more (position_or_len p bs)) ih)

-- Parts

-- a part goes on to the next separating byte
part_goes_on : (p : ℕ → Bool) (b : ℕ) (bs : List ℕ) →
    (if begins_part p bs then onto_first b (parts_between p bs) else (b ∷ []) ∷ parts_between p bs) ≡ (b ∷ before p bs) ∷ parts_between p (onward p bs)
part_goes_on p b [] = refl
part_goes_on p b (c ∷ cs) = by_separator (p c) refl (part_goes_on p c cs)
  where
    by_separator : (v : Bool) → p c ≡ v
        → (if begins_part p cs then onto_first c (parts_between p cs) else (c ∷ []) ∷ parts_between p cs) ≡ (c ∷ before p cs) ∷ parts_between p (onward p cs)
        → (if begins_part p (c ∷ cs) then onto_first b (parts_between p (c ∷ cs)) else (b ∷ []) ∷ parts_between p (c ∷ cs)) ≡ (b ∷ before p (c ∷ cs)) ∷ parts_between p (onward p (c ∷ cs))
    by_separator true e ih = rw e (rw e refl)
    by_separator false e ih = rw e (ap (onto_first b) ih)

-- what is left where the separating bytes at the start are dropped
abbrev pub begun : (ℕ → Bool) → List ℕ → List ℕ
begun p text = onward (λ b. not (p b)) text

pub part_is_first : (p : ℕ → Bool) (text : List ℕ) → 0 < length (begun p text) → parts_between p text ≡ before p (begun p text) ∷ parts_between p (onward p (begun p text))
part_is_first p [] some = absurd (omega arith)
part_is_first p (b ∷ bs) some = by_separator (p b) refl some (part_is_first p bs)
  where
    by_separator : (v : Bool) → p b ≡ v → 0 < length (begun p (b ∷ bs)) → (0 < length (begun p bs) → parts_between p bs ≡ before p (begun p bs) ∷ parts_between p (onward p (begun p bs)))
        → parts_between p (b ∷ bs) ≡ before p (begun p (b ∷ bs)) ∷ parts_between p (onward p (begun p (b ∷ bs)))
    by_separator true e some ih = rw e (ih (rw e at some))
    by_separator false e some ih = rw e (rw e (part_goes_on p b bs))

pub no_part : (p : ℕ → Bool) (text : List ℕ) → length (begun p text) ≡ 0 → parts_between p text ≡ []
no_part p [] none = refl
no_part p (b ∷ bs) none = by_separator (p b) refl none (no_part p bs)
  where
    by_separator : (v : Bool) → p b ≡ v → length (begun p (b ∷ bs)) ≡ 0 → (length (begun p bs) ≡ 0 → parts_between p bs ≡ []) → parts_between p (b ∷ bs) ≡ []
    by_separator true e none ih = rw e (ih (rw e at none))
    by_separator false e none ih = let one : suc (length bs) ≡ 0 = rw e at none in absurd (omega arith)

-- Lines as they are cut

pub feed_missing : (text : List ℕ) → onward is_feed text ≡ [] → (first_line text ≡ text) × (after_line text ≡ [])
feed_missing [] none = (refl, refl)
feed_missing (b ∷ []) none = by_byte (is_feed b) refl (b == 13) refl none
  where
    by_byte : (v : Bool) → is_feed b ≡ v → (w : Bool) → (b == 13) ≡ w → onward is_feed (b ∷ []) ≡ [] → (first_line (b ∷ []) ≡ b ∷ []) × (after_line (b ∷ []) ≡ [])
    by_byte true e w f none = let no : b ∷ [] ≡ [] = rw e at none in cc
    by_byte false e true f none = (rw (e, f) refl, rw e refl)
    by_byte false e false f none = (rw (e, f) refl, rw e refl)
feed_missing (b ∷ c ∷ cs) none = by_two_bytes (is_feed b) refl (is_feed c) refl (b == 13) refl none (feed_missing (c ∷ cs))
  where
    by_two_bytes : (v : Bool) → is_feed b ≡ v → (w : Bool) → is_feed c ≡ w → (r : Bool) → (b == 13) ≡ r → onward is_feed (b ∷ c ∷ cs) ≡ []
        → (onward is_feed (c ∷ cs) ≡ [] → (first_line (c ∷ cs) ≡ c ∷ cs) × (after_line (c ∷ cs) ≡ []))
        → (first_line (b ∷ c ∷ cs) ≡ b ∷ c ∷ cs) × (after_line (b ∷ c ∷ cs) ≡ [])
    by_two_bytes true e w f r g none ih = let no : b ∷ c ∷ cs ≡ [] = rw e at none in cc
    by_two_bytes false e true f r g none ih = let no : c ∷ cs ≡ [] = rw (e, f) at none in cc
    by_two_bytes false e false f true g none ih = let rest = ih (rw e at none) in (rw (e, f, g) (ap (λ (l : List ℕ). b ∷ l) (rw f at (rest.0))), rw e (rest.1))
    by_two_bytes false e false f false g none ih = let rest = ih (rw e at none) in (rw (e, f, g) (ap (λ (l : List ℕ). b ∷ l) (rw f at (rest.0))), rw e (rest.1))

-- the text before its first line feed
pub feed_found : (text : List ℕ) (x : ℕ) (after : List ℕ) → onward is_feed text ≡ x ∷ after → (first_line text ≡ unreturned (before is_feed text)) × (after_line text ≡ after)
feed_found [] x after found = cc
feed_found (b ∷ []) x after found = by_feed (is_feed b) refl found
  where
    by_feed : (v : Bool) → is_feed b ≡ v → onward is_feed (b ∷ []) ≡ x ∷ after → (first_line (b ∷ []) ≡ unreturned (before is_feed (b ∷ []))) × (after_line (b ∷ []) ≡ after)
    by_feed true e found = let same : b ∷ [] ≡ x ∷ after = rw e at found in (rw e refl, rw e (cc))
    by_feed false e found = let no : [] ≡ x ∷ after = rw e at found in cc
feed_found (b ∷ c ∷ cs) x after found = by_two_bytes (is_feed b) refl (is_feed c) refl (b == 13) refl found (feed_found (c ∷ cs) x after)
  where
    by_two_bytes : (v : Bool) → is_feed b ≡ v → (w : Bool) → is_feed c ≡ w → (r : Bool) → (b == 13) ≡ r → onward is_feed (b ∷ c ∷ cs) ≡ x ∷ after
        → (onward is_feed (c ∷ cs) ≡ x ∷ after → (first_line (c ∷ cs) ≡ unreturned (before is_feed (c ∷ cs))) × (after_line (c ∷ cs) ≡ after))
        → (first_line (b ∷ c ∷ cs) ≡ unreturned (before is_feed (b ∷ c ∷ cs))) × (after_line (b ∷ c ∷ cs) ≡ after)
    by_two_bytes true e w f r g found ih = let same : b ∷ c ∷ cs ≡ x ∷ after = rw e at found in (rw e refl, rw e (cc))
    by_two_bytes false e true f true g found ih = let same : c ∷ cs ≡ x ∷ after = rw (e, f) at found in (rw (e, f, g) refl, rw (e, f) (cc))
    by_two_bytes false e true f false g found ih = let same : c ∷ cs ≡ x ∷ after = rw (e, f) at found in (rw (e, f, g) refl, rw (e, f) (cc))
    by_two_bytes false e false f true g found ih = let rest = ih (rw e at found) in (rw (e, f, g) (ap (λ (l : List ℕ). b ∷ l) (rw f at (rest.0))), rw e (rest.1))
    by_two_bytes false e false f false g found ih = let rest = ih (rw e at found) in (rw (e, f, g) (ap (λ (l : List ℕ). b ∷ l) (rw f at (rest.0))), rw e (rest.1))

-- the carriage return at the end of a line
pub unreturned_at_return : (front : List ℕ) → unreturned (front ++ (13 ∷ [])) ≡ front
unreturned_at_return [] = refl
unreturned_at_return (a ∷ []) = refl
unreturned_at_return (a ∷ b ∷ bs) = ap (λ (l : List ℕ). a ∷ l) (unreturned_at_return (b ∷ bs))

pub unreturned_elsewhere : (front : List ℕ) (b : ℕ) → (b == 13) ≡ false → unreturned (front ++ (b ∷ [])) ≡ front ++ (b ∷ [])
unreturned_elsewhere [] b e = rw e refl
unreturned_elsewhere (a ∷ []) b e = ap (λ (l : List ℕ). a ∷ l) (unreturned_elsewhere [] b e)
unreturned_elsewhere (a ∷ c ∷ cs) b e = ap (λ (l : List ℕ). a ∷ l) (unreturned_elsewhere (c ∷ cs) b e)

-- Digits that go on from a value that is too large, and the next byte of hexadecimal digits.

digits_grow : (limit value : ℕ) (bs : List ℕ) → limit ≤ value → if_below limit (digits_from value bs) ≡ None
digits_grow limit value [] large = rw (le-ltb value limit large) refl
digits_grow limit value (b ∷ bs) large = by_digit (is_digit b) refl (digits_grow limit (value * 10 + (b - 48)) bs (omega arith))
  where
    by_digit : (v : Bool) → is_digit b ≡ v → if_below limit (digits_from (value * 10 + (b - 48)) bs) ≡ None → if_below limit (digits_from value (b ∷ bs)) ≡ None
    by_digit true e ih = rw e ih
    by_digit false e ih = rw e refl

not_below : (limit n : ℕ) → if_below limit (Some n) ≡ None → limit ≤ n
not_below limit n none = by_limit (nat_lt n limit) refl none
  where
    by_limit : (v : Bool) → nat_lt n limit ≡ v → if_below limit (Some n) ≡ None → limit ≤ n
    by_limit true e none = let no : Some n ≡ None = rw e at none in cc
    by_limit false e none = ltb-false n limit e

-- a digit that makes the value too large
pub digit_overflows : (limit value b : ℕ) (bs : List ℕ) → is_digit b ≡ true → if_below limit (Some (value * 10 + (b - 48))) ≡ None → if_below limit (digits_from value (b ∷ bs)) ≡ None
digit_overflows limit value b bs digit none = rw digit (digits_grow limit (value * 10 + (b - 48)) bs (not_below limit (value * 10 + (b - 48)) none))

pub next_byte : (so_far : List ℕ) (a b byte : ℕ) (rest : List ℕ) → hex_byte a b ≡ Some byte → bytes_from so_far (a ∷ b ∷ rest) ≡ bytes_from (so_far ++ (byte ∷ [])) rest
next_byte so_far a b byte rest found = rw found refl

-- data as it is cut at its plus sign
pub data_cut : (word offset len : List ℕ) (plus : ℕ) → before is_plus word ≡ offset → onward is_plus word ≡ plus ∷ len →
    data_piece (before is_plus word) (onward is_plus word) ≡ data_of (number32 offset) (number32 len)
data_cut word offset len plus front back = rw (front, back) refl

pub data_uncut : (word : List ℕ) → onward is_plus word ≡ [] → data_piece (before is_plus word) (onward is_plus word) ≡ None
data_uncut word none = rw none refl

-- Eight bytes at a time.

one_more_gathered : (byte count : ℕ) (rest : List ℕ) → runs_text byte count (byte ∷ rest) ≡ runs_text byte (count + 1) rest
one_more_gathered byte count rest = grind (arith, common_steps)

runs_more : (n byte count : ℕ) (rest : List ℕ) → runs_text byte count (replicate n byte ++ rest) ≡ runs_text byte (count + n) rest
runs_more zero byte count rest = let e : count ≡ count + 0 = omega arith in ap (λ (m : ℕ). runs_text byte m rest) e
runs_more (suc n) byte count rest =
    let e : count + 1 + n ≡ count + suc n = omega arith in
    one_more_gathered byte count (replicate n byte ++ rest) ∙ (runs_more n byte (count + 1) rest ∙ ap (λ (m : ℕ). runs_text byte m rest) e)

-- a run that goes on for eight bytes
pub eight_more : (byte count : ℕ) (all rest : List ℕ) → all ≡ replicate 8 byte ++ rest → runs_text byte count all ≡ runs_text byte (count + 8) rest
eight_more byte count all rest e = rw e (runs_more 8 byte count rest)

pub eight_fewer : (byte : ℕ) (all rest : List ℕ) → all ≡ replicate 8 byte ++ rest → length all ≡ 8 + length rest
eight_fewer byte all rest e = grind (arith, common_steps)

each_of : (n byte : ℕ) → byte < 256 → (i : ℕ) → get_or (replicate n byte) i 0 < 256
each_of zero byte small i = grind (arith, common_steps)
each_of (suc n) byte small zero = small
each_of (suc n) byte small (suc i) = each_of n byte small i

pub bytes_all : (byte : ℕ) → byte < 256 → (i : ℕ) → get_or (replicate 8 byte) i 0 < 256
bytes_all byte small = each_of 8 byte small

-- Names of another length.

-- words of two lengths are not the same
pub other_length : (a b : List ℕ) → nat_eq (length a) (length b) ≡ false → bytes_eq a b ≡ false
other_length [] [] other = grind (arith, other)
other_length [] (y ∷ b) other = refl
other_length (x ∷ a) [] other = refl
other_length (x ∷ a) (y ∷ b) other = and_right (nat_eq x y) (bytes_eq a b) (other_length a b (grind (arith, other)))

-- A script is read line by line.

pub lines_are_cut : (text : List ℕ) → 0 < length text → lines text ≡ first_line text ∷ lines (after_line text)
lines_are_cut [] some = absurd (omega arith)
lines_are_cut (b ∷ bs) some = lines_cut b bs

after_is_within : (text : List ℕ) → length (after_line text) ≤ length text
after_is_within [] = omega arith
after_is_within (b ∷ bs) = by_feed (is_feed b) refl (after_is_within bs)
  where
    by_feed : (v : Bool) → is_feed b ≡ v → length (after_line bs) ≤ length bs → length (after_line (b ∷ bs)) ≤ length (b ∷ bs)
    by_feed true e ih = rw e (omega arith)
    by_feed false e ih = rw e (omega arith)

pub after_is_shorter : (text : List ℕ) → 0 < length text → length (after_line text) < length text
after_is_shorter [] some = absurd (omega arith)
after_is_shorter (b ∷ bs) some = by_feed (is_feed b) refl (after_is_within bs)
  where
    by_feed : (v : Bool) → is_feed b ≡ v → length (after_line bs) ≤ length bs → length (after_line (b ∷ bs)) < length (b ∷ bs)
    by_feed true e within = rw e (omega arith)
    by_feed false e within = rw e (omega arith)

-- a line without a fault
pub line_is_next : (so_far : List Numbered) (number : ℕ) (bytes : List ℕ) (rest : List (List ℕ)) (what : Line) → numbered_line number bytes ≡ Ok what →
    script_from so_far number (bytes ∷ rest) ≡ script_from (with_line so_far number what) (number + 1) rest
line_is_next so_far number bytes rest what good = rw good refl

-- the first line with a fault
pub fault_is_first : (so_far : List Numbered) (number : ℕ) (bytes : List ℕ) (rest : List (List ℕ)) (text : List ℕ) (why : ScriptFault) → IsNumberedLine number bytes (Err why) →
    script_from so_far number (bytes ∷ rest) ≡ script_from [] 1 (lines text) → AreLines text (Err why)
fault_is_first so_far number bytes rest text fault.TooLong bad same = bad
fault_is_first so_far number bytes rest text (fault.Line at why) bad same = rw (← same) (rw (bad.1) (rw (bad.0) refl))
fault_is_first so_far number bytes rest text fault.Memory bad same = tt

pub lines_are_read : (text : List ℕ) (read : Result (List Numbered) ScriptFault) → length text ≤ 1048576 → AreLines text read → IsReading text read
lines_are_read text read small lined = by_length (nat_lt 1048576 (length text)) refl read lined
  where
    by_length : (v : Bool) → nat_lt 1048576 (length text) ≡ v → (read : Result (List Numbered) ScriptFault) → AreLines text read → IsReading text read
    by_length true e read lined = absurd (omega (arith, ltb-true 1048576 (length text) e))
    by_length false e (Ok script) lined = rw e lined
    by_length false e (Err fault.TooLong) lined = absurd lined
    by_length false e (Err (fault.Line number why)) lined = rw e lined
    by_length false e (Err fault.Memory) lined = tt
