-- What words ask for, by what a parse finds of them.
use Rattle.std.proofs.Common.{◌≡◌, ◌∙◌, ◌||◌, ap, ap₂, Bool, true, false, refl, ◌&&◌, ◌<◌, ◌^◌, ℕ, List, [], ◌∷◌, Option, Some, None, sym, ◌⊎◌, subst, inl, inr}
use Rattle.std.{proofs.lemmas.{Bool.{ltb-true, lt-ltb}}, specs.{Box.box_value, Char.digit_value, List.{AllByRecursion, list_all}}}
use Rattle.std.specs.{Prelude.{Vec, map, Result, Ok, Err, nat_lt, option_and_then, if◌then◌else◌, IfErr, IfOk, IsErrAnd, IsOkAnd, option_map}}
use Rattle.std.specs.Str.Parse.{AllDigits, IsNumeral, ParsesUnsigned, digits_value, without_leading_plus}
use Rattle.clap.{proofs.{OnLiterals.clap_on_literals, WalkLemmas.both}, specs.ValueTests.is_numeral}
use Rattle.clap.specs.Words.{AddsArg, AddsInTurn, AddsSubcommand, App, Rule, app_of, rule_of, with_rule, with_subcommand, ReadsOne, Text, HasKind, HasMatchesOf, IsAmong, Kinds, Row, fault_of, found_of, is_simple, is_simple_and_free, kind_of, rows_of, subcommand_name_of, subcommand_of, subcommand_rows_of}
use Rattle.clap.specs.declared.{builder.{arg.Arg.Arg, command.Command.{Command, TheViews.out-Command}}, error.{Error.Error, kind.ErrorKind.ErrorKind}}
use Rattle.clap.specs.declared.{error.kind.ErrorKind.TheVariants.OutOfMemory, parser.matches.ArgMatches.{ArgMatches, TheViews.{out-ArgMatches, out-SubCommand}}}
use Rattle.command_line.specs.{Asked.{asked, asked_by, unless_at_fault}, Units.number}
use Rattle.command_line.specs.Commands.{nvmesgl, with_rules}

-- What adding an argument makes of a command.

-- a command is what adding to another made, by what a parse reads of both
pub added_shape : (old : Command) (a : Arg) (new : Command) (x : App) (r : Rule) → AddsArg old a new
    → a.global ≡ false → app_of old ≡ x → rule_of a ≡ r → app_of new ≡ with_rule x r
added_shape old a new x r adds local is rule = adds.shape local ∙ ap₂ with_rule is rule

or_false : (b : Bool) → (b || false) ≡ b
or_false true = refl
or_false false = refl

-- and it has no global argument more
pub added_local : (old : Command) (a : Arg) (new : Command) (b : Bool) → AddsArg old a new
    → a.global ≡ false → (out-Command old).has_globals ≡ b → (out-Command new).has_globals ≡ b
added_local old a new b adds local is = adds.globals ∙ (ap (λ (g : Bool). (out-Command old).has_globals || g) local ∙ (or_false _ ∙ is))

-- so of one argument after the other
pub added_all : (args : List Arg) (old new : Command) (rules : List Rule) → AddsInTurn AddsArg old args new
    → AllByRecursion (λ arg. arg.global ≡ false) args → map rule_of args ≡ rules → app_of new ≡ with_rules (app_of old) rules
added_all args old new rules adds local is = along_arguments args old adds local ∙ ap (with_rules (app_of old)) is
  where
    along_arguments : (args : List Arg) (old : Command) → AddsInTurn AddsArg old args new → AllByRecursion (λ arg. arg.global ≡ false) args
        → app_of new ≡ with_rules (app_of old) (map rule_of args)
    along_arguments [] old adds local = ap app_of (sym adds)
    along_arguments (arg ∷ args) old adds local = along_arguments args adds.0 adds.2 local.1 ∙ ap (λ x. with_rules x (map rule_of args)) (adds.1.shape local.0)

pub all_local : (args : List Arg) (old new : Command) → AddsInTurn AddsArg old args new
    → AllByRecursion (λ arg. arg.global ≡ false) args → (out-Command new).has_globals ≡ (out-Command old).has_globals
all_local [] old new adds local = ap (λ (c : Command). (out-Command c).has_globals) (sym adds)
all_local (arg ∷ args) old new adds local = all_local args adds.0 new adds.2 local.1 ∙ added_local old arg adds.0 _ adds.1 local.0 refl

-- and so where the list was made, by what it has
pub made_all : {E A : Type 0} (made : Result (Vec Arg A) E) (old new : Command) (rules : List Rule) → IsOkAnd made (λ args. AddsInTurn AddsArg old args.items new)
    → IfOk made (λ args. AllByRecursion (λ arg. arg.global ≡ false) args.items) → IfOk made (λ args. map rule_of args.items ≡ rules)
    → app_of new ≡ with_rules (app_of old) rules
made_all (Ok args) old new rules adds local is = added_all args.items old new rules adds local is
made_all (Err e) old new rules adds local is = absurd adds

pub made_local : {E A : Type 0} (made : Result (Vec Arg A) E) (old new : Command) → IsOkAnd made (λ args. AddsInTurn AddsArg old args.items new)
    → IfOk made (λ args. AllByRecursion (λ arg. arg.global ≡ false) args.items) → (out-Command new).has_globals ≡ (out-Command old).has_globals
made_local (Ok args) old new adds local = all_local args.items old new adds local
made_local (Err e) old new adds local = absurd adds

-- what adding a command made, where both were made, by what a parse reads of them
pub added_command : {E F : Type 0} (whole : Result Command E) (made : Result Command F) (new : Command) (x y : App)
    → IfOk made (λ command. app_of command ≡ y) → IfOk made (λ command. (out-Command command).has_globals ≡ false)
    → IsOkAnd whole (λ old. IsOkAnd made (λ command. AddsSubcommand old command new)) → IfOk whole (λ old. app_of old ≡ x)
    → app_of new ≡ with_subcommand x y.top
added_command (Ok old) (Ok command) new x y shape local adds is = adds.shape local ∙ ap₂ with_subcommand is (ap (λ (a : App). a.top) shape)
added_command (Ok old) (Err e) new x y shape local adds is = absurd adds
added_command (Err e) made new x y shape local adds is = absurd adds

-- and so of what adding it answers
pub added_or_not : {E F G : Type 0} (whole : Result Command E) (made : Result Command F) (result : Result Command G) (x y : App)
    → IfOk made (λ command. app_of command ≡ y) → IfOk made (λ command. (out-Command command).has_globals ≡ false)
    → IfOk result (λ new. IsOkAnd whole (λ old. IsOkAnd made (λ command. AddsSubcommand old command new))) → IfOk whole (λ old. app_of old ≡ x)
    → IfOk result (λ new. app_of new ≡ with_subcommand x y.top)
added_or_not whole made (Ok new) x y shape local adds is = added_command whole made new x y shape local adds is
added_or_not whole made (Err e) x y shape local adds is = tt

-- The number that a text is read as.

digits_tested : (ds : List ℕ) → AllDigits 10 ds → list_all (λ d. nat_lt (digit_value d) 10) ds ≡ true
digits_tested [] h = refl
digits_tested (d ∷ ds) h = rw (lt-ltb (digit_value d) 10 h.0) (digits_tested ds h.1)

digits_found : (ds : List ℕ) → list_all (λ d. nat_lt (digit_value d) 10) ds ≡ true → AllDigits 10 ds
digits_found [] e = tt
digits_found (d ∷ ds) e =
    let parts = both _ _ e in
    (ltb-true _ _ parts.0, digits_found ds parts.1)

fits_tested : (ds : List ℕ) → IsNumeral 10 ds → digits_value 10 ds < 2 ^ 32 → (is_numeral ds && nat_lt (digits_value 10 ds) (2 ^ 32)) ≡ true
fits_tested ds h low = rw (lt-ltb _ _ h.0, digits_tested ds h.1, lt-ltb _ _ low) refl

fits_found : (ds : List ℕ) → (is_numeral ds && nat_lt (digits_value 10 ds) (2 ^ 32)) ≡ true → IsNumeral 10 ds × (digits_value 10 ds < 2 ^ 32)
fits_found ds e =
    let parts = both _ _ e in
    let numeral = both _ _ parts.0 in
    ((ltb-true _ _ numeral.0, digits_found ds numeral.1), ltb-true _ _ parts.1)

-- a value that 32 bits are read as is the text's number
pub number_read : (t : Text) (v : ℕ) → (IsNumeral 10 (without_leading_plus t) × (digits_value 10 (without_leading_plus t) < 2 ^ 32)) × (v ≡ digits_value 10 (without_leading_plus t))
    → Some v ≡ number t
number_read t v parsed =
    ap Some parsed.1 ∙ sym (ap (λ (b : Bool). if b then Some (digits_value 10 (without_leading_plus t)) else None)
    (fits_tested (without_leading_plus t) parsed.0.0 parsed.0.1))

-- and where they cannot be read, it is none
pub no_number_read : (t : Text) → ¬ (IsNumeral 10 (without_leading_plus t) × (digits_value 10 (without_leading_plus t) < 2 ^ 32)) → None ≡ number t
no_number_read t unread = by_numeral (is_numeral (without_leading_plus t) && nat_lt (digits_value 10 (without_leading_plus t)) (2 ^ 32)) refl
  where
    by_numeral : (b : Bool) → (is_numeral (without_leading_plus t) && nat_lt (digits_value 10 (without_leading_plus t)) (2 ^ 32)) ≡ b
        → None ≡ (if b then Some (digits_value 10 (without_leading_plus t)) else None)
    by_numeral true e = absurd (unread (fits_found (without_leading_plus t) e))
    by_numeral false e = refl

-- and so what a getter of 32 bits reads
read_is : (E : Type 0) (G : List ℕ → Result ℕ E → Type 0) → ((u : List ℕ) (x : Result ℕ E) → G u x → ParsesUnsigned 32 10 u x)
    → (t : Text) (r : Option ℕ) → ReadsOne G t r → r ≡ number t
read_is E G only t (Some v) h = number_read t v (only t (Ok v) h)
read_is E G only t None h = no_number_read t (only t (Err h.0) h.1)

-- and so of a text that may not be there
pub number_is : (E : Type 0) (G : List ℕ → Result ℕ E → Type 0) → ((u : List ℕ) (x : Result ℕ E) → G u x → ParsesUnsigned 32 10 u x)
    → (o : Option Text) (r : Option ℕ) → (o ≡ None → r ≡ None) → ((t : List ℕ) → o ≡ Some t → ReadsOne G t r) → r ≡ option_and_then number o
number_is E G only None r none value = none refl
number_is E G only (Some t) r none value = read_is E G only t r (value t refl)

-- What words ask for, by what a parse finds of them.

simple : is_simple nvmesgl ≡ true
unfolding clap_on_literals
simple = refl

free : is_simple_and_free nvmesgl ≡ true
unfolding clap_on_literals
free = refl

-- words with a fault ask for nothing
with_fault : (words : List Text) (k : ErrorKind) → IsAmong k (fault_of nvmesgl words) → asked words ≡ None
with_fault words k among = by_kinds (fault_of nvmesgl words) among
  where
    by_kinds : (kinds : Kinds) → IsAmong k kinds → unless_at_fault kinds (asked_by (subcommand_of nvmesgl words)) ≡ None
    by_kinds [] h = absurd h
    by_kinds (x ∷ xs) h = refl

-- where a parse of the words fails, they ask for nothing, or memory is lacking
pub failed_parse : (a : App) (words : List Text) (e : Error) → a ≡ nvmesgl → (is_simple_and_free a ≡ true → HasKind (fault_of a words) e)
    → (kind_of e ≡ OutOfMemory) ⊎ (asked words ≡ None)
failed_parse a words e is kinds =
    let told : HasKind (fault_of nvmesgl words) e = (rw is at kinds) free in
    elim told [
      | inl h ↦ inl h
      | inr h ↦ inr (with_fault words (kind_of e) h)
    ]

-- an error that `?` passes on is the one that was
pub passed_on : {T E : Type 0} (r : Result T E) (P : E → Type 0) (e : E) → IsErrAnd r (λ x. x ≡ e) → P e → IfErr r P
passed_on (Ok v) P e same holds = tt
passed_on (Err x) P e same holds = subst P (sym same) holds

-- where it succeeds, they ask for what the subcommand and its rows do
pub parsed_asks : (a : App) (words : List Text) (m : ArgMatches) → a ≡ nvmesgl → (is_simple_and_free a ≡ true → fault_of a words ≡ [])
    → HasMatchesOf a words m → asked words ≡ asked_by (subcommand_rows_of m)
parsed_asks a words m is kinds matches =
    let none : fault_of nvmesgl words ≡ [] = (rw is at kinds) free in
    let met : HasMatchesOf nvmesgl words m = rw is at matches in
    ap (λ (ks : Kinds). unless_at_fault ks (asked_by (subcommand_of nvmesgl words))) none ∙ ap asked_by (sym (met simple).1)

-- a name and rows, of an option that has both
both_of : {B : Type 0} (name_in : B → Text) (rows_in : B → List Row) (o : Option B) (name : Text) (rows : List Row)
    → option_map name_in o ≡ Some name → option_map (λ (p : Text × List Row). p.1) (option_map (λ b. (name_in b, rows_in b)) o) ≡ Some rows
    → option_map {U = Text × List Row} (λ b. (name_in b, rows_in b)) o ≡ Some (name, rows)
both_of name_in rows_in None name rows named found =
    let bad : None ≡ Some name = named in
    cc
both_of name_in rows_in (Some b) name rows named found =
    let first : Some (name_in b) ≡ Some name = named in
    let second : Some (rows_in b) ≡ Some rows = found in
    cc

first_of_both : {B : Type 0} (name_in : B → Text) (rows_in : B → List Row) (o : Option B)
    → option_map name_in o ≡ option_map (λ (p : Text × List Row). p.0) (option_map (λ b. (name_in b, rows_in b)) o)
first_of_both name_in rows_in None = refl
first_of_both name_in rows_in (Some b) = refl

-- the name and the rows of the subcommand, from both alone
pub named_rows : (m : ArgMatches) (name : Text) (rows : List Row) → subcommand_name_of m ≡ Some name
    → option_map (λ p. p.1) (subcommand_rows_of m) ≡ Some rows → subcommand_rows_of m ≡ Some (name, rows)
named_rows m name rows named found =
    both_of (λ b. (out-SubCommand (box_value b)).name.now) (λ b. rows_of (found_of (out-SubCommand (box_value b)).matches))
    (out-ArgMatches m).subcommand name rows named found

name_of_rows : (m : ArgMatches) → subcommand_name_of m ≡ option_map (λ p. p.0) (subcommand_rows_of m)
name_of_rows m =
    first_of_both (λ b. (out-SubCommand (box_value b)).name.now) (λ b. rows_of (found_of (out-SubCommand (box_value b)).matches))
    (out-ArgMatches m).subcommand

no_value : {A B : Type 0} (f : A → B) (o : Option A) → option_map f o ≡ None → o ≡ None
no_value f None e = refl
no_value f (Some a) e =
    let bad : Some (f a) ≡ None = e in
    cc

-- without a name there are no rows
pub unnamed_rows : (m : ArgMatches) → subcommand_name_of m ≡ None → subcommand_rows_of m ≡ None
unnamed_rows m none = no_value (λ p. p.0) (subcommand_rows_of m) (sym (name_of_rows m) ∙ none)
