-- Runs of scripts, and the rest of a script whose run was cut off.
use Rattle.script_cli.specs.declared.fault.ScriptFault.TheVariants as fault
use Rattle.script_cli.specs.declared.script.Line.TheVariants as line
use Rattle.script_cli.specs.declared.verb.CommandVerb.TheVariants as command
use Rattle.script_cli.specs.declared.verb.QueueVerb.TheVariants as queue
use Rattle.step_core.specs.declared.step.Step.TheVariants as step
use Rattle.script_cli.specs.declared.fault.RunFault.TheVariants as run
use Rattle.std.proofs.Common.{◌≡◌, ◌<◌, ◌+◌, ◌^◌, ◌==◌, ◌&&◌, ℕ, Bool, true, false, nat_lt, nat_le, Option, Some, None, Result, Ok, Err, List, [], ◌∷◌, ◌++◌, length, option_and_then, if◌then◌else◌, refl, subst, eqb-true, ltb-true, arith, zero, suc, map, slice_get, ap, lt-ltb, append_assoc, sym, ◌∙◌, ◌⊎◌, inl, inr, take, min}
use Rattle.std.{proofs.lemmas.{Grind.common_steps, List.Elements.{All-nil, All-push, Contains-append_right}}, specs.Io.KnownBytes.{Appends, Keeps}}
use Rattle.std.specs.{List.Contains, Prelude.{All, IfOk, IfSome, OnOk, OnErr, IfErr, codes}}
use Rattle.io_commands.specs.{Requests.{FitsPiece, FitsRequest}, declared.request.{Kind.Kind, Piece.{Piece, TheVariants.{Data, Bucket}}}}
use Rattle.two_sides.proofs.Provided.{all_append}
use Rattle.script_cli.{proofs.Texts.{same_if_short, appends_more, keeps_then}, specs.Faults.fault_of_script}
use Rattle.script_cli.specs.Grammar.{Words, ◌>>=◌, value_or, wanted, number_word, kind_word, hex_word, sixteen_bytes_word, namespace_word, named_word, nsid_words, size_words, vector_word, vector_words, begins_option, nothing_more, with_piece, pieces_from, request_words, reserve_line, fill_line, create_cq_line, forge_line, queue_line, command_line, verb_line, begins_comment, known_verb_line, line_of_words, words_of, line_of}
use Rattle.script_cli.specs.{Inputs.{IsFront, AreFirstOf, Gains}, Lines.{lines, before, onward}}
use Rattle.script_cli.specs.{Numbers.{digits_from, if_below, number, hex, if_sixteen, sixteen_bytes}, Owners.owners_text}
use Rattle.script_cli.specs.{Pieces.{number32, is_plus, data_of, data_piece, bucket_piece, piece}, Replies.reply_line}
use Rattle.script_cli.specs.Runs.{IsFitLine, AreFitLines, AreOwners, PrintsLine, Prints, unwell_by, last_line, IsFrontOfFirst, IsCutText, HasScript, IsRunText, IsRunTo, HasFault, IsNoScript, EndsWith, Writes}
use Rattle.script_cli.specs.Scripts.{numbered_line, numbered, with_line, then_lines, script_from, script_of, IsReading}
use Rattle.script_cli.specs.{Verbs.{verb_named, queue_step, command_step, verb_of}, declared.fault.LineFault.{LineFault, TheVariants.{TooManyLines, BadNumber}}}
use Rattle.script_cli.specs.declared.{fault.{RunFault.RunFault, ScriptFault.ScriptFault}, script.{Line.Line, Numbered.Numbered}, verb.CommandVerb.CommandVerb}
use Rattle.script_cli.specs.declared.verb.{QueueVerb.QueueVerb, Verb.{Verb, TheVariants.{Reserve, Fill, CreateCq, Forge, Reset, Owners, OnQueue, OnCommand}}}
use Rattle.machine_model.specs.{Claims.{claims_of, IsSound}, Script.{Table, table}, State.State, Step.times}
use Rattle.page_ledger.specs.declared.owner.Owner.{Owner}
use Rattle.block_image.specs.Blocks.{IsImage}
use Rattle.step_core.{proofs.Order.{goes_on, bench_opens, bench_keeps}, specs.{Going.IsTableInOrder, Opening.opening_of}}
use Rattle.host_core.specs.{Opening.refusal_of_config, declared.config.Config.Config}

-- The lines of a script have numbers that fit.

-- Single words

below : (limit : ℕ) (o : Option ℕ) (n : ℕ) → if_below limit o ≡ Some n → n < limit
below limit None n e = absurd cc
below limit (Some m) n e = by_limit (nat_lt m limit) refl e
  where
    by_limit : (b : Bool) → nat_lt m limit ≡ b → (if b then Some m else None) ≡ Some n → n < limit
    by_limit true less e = let same : m ≡ n = cc in subst (λ k. k < limit) same (ltb-true m limit less)
    by_limit false less e = absurd cc

number_is_below : (limit : ℕ) (word : List ℕ) (n : ℕ) → number limit word ≡ Some n → n < limit
number_is_below limit word n e = by_length (nat_lt 0 (length word) && nat_le (length word) 20) e
  where
    by_length : (b : Bool) → (if b then if_below limit (digits_from 0 word) else None) ≡ Some n → n < limit
    by_length true e = below limit (digits_from 0 word) n e
    by_length false e = absurd cc

sixteen : (o : Option (List ℕ)) (bytes : List ℕ) → if_sixteen o ≡ Some bytes → length bytes ≡ 16
sixteen None bytes e = absurd cc
sixteen (Some found) bytes e = by_length (length found == 16) refl e
  where
    by_length : (b : Bool) → (length found == 16) ≡ b → (if b then Some found else None) ≡ Some bytes → length bytes ≡ 16
    by_length true long e = let same : found ≡ bytes = cc in subst (λ (xs : List ℕ). length xs ≡ 16) same (eqb-true (length found) 16 long)
    by_length false long e = absurd cc

bucket_fits : (word : List ℕ) (p : Piece) → bucket_piece word ≡ Some p → FitsPiece p
bucket_fits word p e = by_number (number32 word) refl e
  where
    by_number : (o : Option ℕ) → number32 word ≡ o → option_and_then (λ len. Some (Bucket len)) o ≡ Some p → FitsPiece p
    by_number None f e = absurd cc
    by_number (Some len) f e = let same : Bucket len ≡ p = cc in subst FitsPiece same (number_is_below (2 ^ 32) word len f)

data_fits : (first last : List ℕ) (p : Piece) → data_of (number32 first) (number32 last) ≡ Some p → FitsPiece p
data_fits first last p e = by_numbers (number32 first) (number32 last) refl refl e
  where
    by_numbers : (a b : Option ℕ) → number32 first ≡ a → number32 last ≡ b → data_of a b ≡ Some p → FitsPiece p
    by_numbers None b f g e = absurd cc
    by_numbers (Some offset) None f g e = absurd cc
    by_numbers (Some offset) (Some len) f g e =
        let same : Data offset len ≡ p = cc in
        subst FitsPiece same (number_is_below (2 ^ 32) first offset f, number_is_below (2 ^ 32) last len g)

parts_fit : (offset rest : List ℕ) (p : Piece) → data_piece offset rest ≡ Some p → FitsPiece p
parts_fit offset [] p e = absurd cc
parts_fit offset (plus ∷ len) p e = data_fits offset len p e

piece_fits : (word : List ℕ) (p : Piece) → piece word ≡ Some p → FitsPiece p
piece_fits [] p e = absurd cc
piece_fits (b ∷ bs) p e = by_letter (b == 120) e
  where
    by_letter : (v : Bool) → (if v then bucket_piece bs else data_piece (before is_plus (b ∷ bs)) (onward is_plus (b ∷ bs))) ≡ Some p → FitsPiece p
    by_letter true e = bucket_fits bs p e
    by_letter false e = parts_fit (before is_plus (b ∷ bs)) (onward is_plus (b ∷ bs)) p e

-- Words in their order

value_fits : {A : Type 0} (P : A → Type 0) (fault : LineFault) (rest : Words) (value : Option A) → ((a : A) → value ≡ Some a → P a) → IfOk (value_or fault rest value) (λ r. P r.0)
value_fits P fault rest None holds = tt
value_fits P fault rest (Some a) holds = holds a refl

word_fits : {A : Type 0} (P : A → Type 0) (fault : LineFault) (value : List ℕ → Option A) (ws : Words) → ((word : List ℕ) (a : A) → value word ≡ Some a → P a) → IfOk (wanted fault value ws) (λ r. P r.0)
word_fits P fault value [] holds = tt
word_fits P fault value (word ∷ rest) holds = value_fits P fault rest (value word) (holds word)

pub number_fits : (limit : ℕ) (ws : Words) → IfOk (number_word limit ws) (λ r. r.0 < limit)
unfolding number_word
number_fits limit ws = word_fits (λ n. n < limit) _ (number limit) ws (number_is_below limit)

bytes_fit : (ws : Words) → IfOk (sixteen_bytes_word ws) (λ r. length r.0 ≡ 16)
unfolding sixteen_bytes_word
bytes_fit ws = word_fits (λ (bytes : List ℕ). length bytes ≡ 16) _ sixteen_bytes ws (λ word. sixteen (hex word))

pieces_fit : (so_far : List Piece) (ws : Words) → All FitsPiece so_far → IfOk (pieces_from so_far ws) (λ r. All FitsPiece r.0)
unfolding pieces_from
pieces_fit so_far [] fit = fit
pieces_fit so_far (word ∷ rest) fit = by (begins_option word) (by_piece (piece word) (piece_fits word) (λ more fits. pieces_fit more rest fits))
  where
    by_piece : (o : Option Piece) → ((p : Piece) → o ≡ Some p → FitsPiece p) → ((more : List Piece) → All FitsPiece more → IfOk (pieces_from more rest) (λ r. All FitsPiece r.0))
        → IfOk (with_piece so_far (λ pieces. pieces_from pieces rest) o) (λ r. All FitsPiece r.0)
    by_piece None fits onward = tt
    by_piece (Some p) fits onward = onward (so_far ++ (p ∷ [])) (All-push FitsPiece so_far p fit (fits p refl))

    by : (b : Bool) → IfOk (with_piece so_far (λ pieces. pieces_from pieces rest) (piece word)) (λ r. All FitsPiece r.0)
        → IfOk (if b then Ok (so_far, word ∷ rest) else with_piece so_far (λ pieces. pieces_from pieces rest) (piece word)) (λ r. All FitsPiece r.0)
    by true onward = fit
    by false onward = onward

-- what holds of a word is known where the words after it are read
pub then_fits : {A B : Type 0} (P : A → Type 0) (Q : B → Type 0) (r : Result A LineFault) (next : A → Result B LineFault) → IfOk r P → ((a : A) → P a → IfOk (next a) Q) → IfOk (r >>= next) Q
then_fits P Q (Ok a) next holds onward = onward a holds
then_fits P Q (Err fault) next holds onward = tt

pub whatever_fits : {A B : Type 0} (Q : B → Type 0) (r : Result A LineFault) (next : A → Result B LineFault) → ((a : A) → IfOk (next a) Q) → IfOk (r >>= next) Q
whatever_fits Q (Ok a) next onward = onward a
whatever_fits Q (Err fault) next onward = tt

ended_fits : {A : Type 0} (P : A → Type 0) (ws : Words) (what : A) → P what → IfOk (nothing_more ws what) P
unfolding nothing_more
ended_fits P [] what fit = fit
ended_fits P (word ∷ rest) what fit = tt

no_more_fits : (ws : Words) (what : Line) → IsFitLine what → IfOk (nothing_more ws what) IsFitLine
no_more_fits ws what fit = ended_fits IsFitLine ws what fit

-- a namespace, where one is named

namespace_fits : (ws : Words) → IfOk (namespace_word ws) (λ r. r.0 < 2 ^ 32)
namespace_fits ws = then_fits (λ n. n.0 < 2 ^ 32) (λ n. n.0 < 2 ^ 32) (number_word (2 ^ 32) ws) _ (number_fits (2 ^ 32) ws) λ n few. by_zero (n.0 == 0) n few
  where
    by_zero : (b : Bool) (n : ℕ × Words) → n.0 < 2 ^ 32 → IfOk (if b then Err BadNumber else Ok n) (λ r. r.0 < 2 ^ 32)
    by_zero true n few = tt
    by_zero false n few = few

nsid_fits : (ws : Words) → IfOk (nsid_words ws) (λ r. r.0 < 2 ^ 32)
nsid_fits ws = whatever_fits (λ r. r.0 < 2 ^ 32) (named_word (codes "nsid") ws) _ λ named. by_presence named.0 named.1
  where
    by_presence : (b : Bool) (rest : Words) → IfOk (if b then namespace_word rest else Ok (1, rest)) (λ r. r.0 < 2 ^ 32)
    by_presence true rest = namespace_fits rest
    by_presence false rest = omega arith

request_fits : (kind : Kind) (slba blocks : ℕ) (ws : Words) → slba < 2 ^ 64 → blocks < 2 ^ 32 → IfOk (request_words kind slba blocks ws) FitsRequest
request_fits kind slba blocks ws low few =
    then_fits (λ r. All FitsPiece r.0) FitsRequest (pieces_from [] ws) _ (pieces_fit [] ws (All-nil FitsPiece)) λ pieces fit.
    then_fits (λ n. n.0 < 2 ^ 32) FitsRequest (nsid_words pieces.1) _ (nsid_fits pieces.1) λ nsid named.
    whatever_fits FitsRequest (size_words nsid.1) _ λ size.
    whatever_fits FitsRequest (named_word (codes "fua") size.1) _ λ fua.
    whatever_fits FitsRequest (named_word (codes "lr") fua.1) _ λ lr.
    ended_fits FitsRequest lr.1 _ (record { nsid = named; slba = low; blocks = few; pieces = fit })

-- a vector, where one is named

vector_named_fits : (ws : Words) → IfOk (vector_word ws) (λ r. IfSome r.0 (λ v. v < 2 ^ 16))
vector_named_fits ws = then_fits (λ n. n.0 < 2 ^ 16) (λ r. IfSome r.0 (λ v. v < 2 ^ 16)) (number_word (2 ^ 16) ws) _ (number_fits (2 ^ 16) ws) λ n few. few

vector_fits : (ws : Words) → IfOk (vector_words ws) (λ r. IfSome r.0 (λ v. v < 2 ^ 16))
vector_fits ws = whatever_fits (λ r. IfSome r.0 (λ v. v < 2 ^ 16)) (named_word (codes "vector") ws) _ λ named. by_presence named.0 named.1
  where
    by_presence : (b : Bool) (rest : Words) → IfOk (if b then vector_word rest else Ok (None, rest)) (λ r. IfSome r.0 (λ v. v < 2 ^ 16))
    by_presence true rest = vector_named_fits rest
    by_presence false rest = tt

-- Lines by their verbs

reserve_fits : (ws : Words) → IfOk (reserve_line ws) IsFitLine
reserve_fits ws =
    whatever_fits IsFitLine (number_word (2 ^ 16) ws) _ λ q.
    whatever_fits IsFitLine (kind_word q.1) _ λ kind.
    then_fits (λ n. n.0 < 2 ^ 64) IsFitLine (number_word (2 ^ 64) kind.1) _ (number_fits (2 ^ 64) kind.1) λ slba low.
    then_fits (λ n. n.0 < 2 ^ 32) IsFitLine (number_word (2 ^ 32) slba.1) _ (number_fits (2 ^ 32) slba.1) λ blocks few.
    then_fits FitsRequest IsFitLine (request_words kind.0 slba.0 blocks.0 blocks.1) _ (request_fits kind.0 slba.0 blocks.0 blocks.1 low few) λ request fit.
    fit

fill_fits : (ws : Words) → IfOk (fill_line ws) IsFitLine
fill_fits ws =
    whatever_fits IsFitLine (number_word (2 ^ 16) ws) _ λ q.
    whatever_fits IsFitLine (number_word (2 ^ 16) q.1) _ λ cid.
    whatever_fits IsFitLine (hex_word cid.1) _ λ bytes.
    no_more_fits bytes.1 _ tt

create_cq_fits : (ws : Words) → IfOk (create_cq_line ws) IsFitLine
create_cq_fits ws =
    whatever_fits IsFitLine (number_word (2 ^ 16) ws) _ λ q.
    then_fits (λ (r : Option ℕ × Words). IfSome r.0 (λ v. v < 2 ^ 16)) IsFitLine (vector_words q.1) _ (vector_fits q.1) λ vector fit.
    no_more_fits vector.1 _ fit

forge_fits : (ws : Words) → IfOk (forge_line ws) IsFitLine
forge_fits ws =
    whatever_fits IsFitLine (number_word (2 ^ 16) ws) _ λ q.
    whatever_fits IsFitLine (number_word (2 ^ 16) q.1) _ λ slot.
    then_fits (λ (r : List ℕ × Words). length r.0 ≡ 16) IsFitLine (sixteen_bytes_word slot.1) _ (bytes_fit slot.1) λ bytes long.
    no_more_fits bytes.1 _ long

queue_step_fits : (verb : QueueVerb) (q : ℕ) → IsFitLine (line.Step (queue_step verb q))
queue_step_fits queue.Ring q = tt
queue_step_fits queue.Reap q = tt
queue_step_fits queue.Fetch q = tt
queue_step_fits queue.Retire q = tt
queue_step_fits queue.DeleteSq q = tt
queue_step_fits queue.DeleteCq q = tt
queue_step_fits queue.CreateSq q = tt

queue_fits : (verb : QueueVerb) (ws : Words) → IfOk (queue_line verb ws) IsFitLine
queue_fits verb ws =
    whatever_fits IsFitLine (number_word (2 ^ 16) ws) _ λ q.
    no_more_fits q.1 _ (queue_step_fits verb q.0)

command_step_fits : (verb : CommandVerb) (q cid : ℕ) → IsFitLine (line.Step (command_step verb q cid))
command_step_fits command.Build q cid = tt
command_step_fits command.Submit q cid = tt
command_step_fits command.Cancel q cid = tt
command_step_fits command.Collect q cid = tt
command_step_fits command.Gather q cid = tt
command_step_fits command.Release q cid = tt
command_step_fits command.Walk q cid = tt
command_step_fits command.Complete q cid = tt
command_step_fits command.Abort q cid = tt

command_fits : (verb : CommandVerb) (ws : Words) → IfOk (command_line verb ws) IsFitLine
command_fits verb ws =
    whatever_fits IsFitLine (number_word (2 ^ 16) ws) _ λ q.
    whatever_fits IsFitLine (number_word (2 ^ 16) q.1) _ λ cid.
    no_more_fits cid.1 _ (command_step_fits verb q.0 cid.0)

verb_fits : (ws : Words) (verb : Verb) → IfOk (verb_line ws verb) IsFitLine
verb_fits ws Reserve = reserve_fits ws
verb_fits ws Fill = fill_fits ws
verb_fits ws CreateCq = create_cq_fits ws
verb_fits ws Forge = forge_fits ws
verb_fits ws Reset = no_more_fits ws (line.Step step.Reset) tt
verb_fits ws Owners = no_more_fits ws line.Owners tt
verb_fits ws (OnQueue verb) = queue_fits verb ws
verb_fits ws (OnCommand verb) = command_fits verb ws

known_verb_fits : (ws : Words) (verb : Option Verb) → IfOk (known_verb_line ws verb) IsFitLine
known_verb_fits ws None = tt
known_verb_fits ws (Some verb) = verb_fits ws verb

words_fit : (ws : Words) → IfOk (line_of_words ws) IsFitLine
words_fit [] = tt
words_fit (first ∷ rest) = by_comment (begins_comment first)
  where
    by_comment : (b : Bool) → IfOk (if b then Ok line.Nothing else known_verb_line rest (verb_named first)) IsFitLine
    by_comment true = tt
    by_comment false = known_verb_fits rest (verb_named first)

line_fits : (bytes : List ℕ) → IfOk (line_of bytes) IsFitLine
line_fits bytes = whatever_fits IsFitLine (words_of bytes) line_of_words words_fit

numbered_fits : (n : ℕ) (bytes : List ℕ) → IfOk (numbered_line n bytes) IsFitLine
numbered_fits n bytes = by_line_number (nat_lt 65536 n)
  where
    by_line_number : (b : Bool) → IfOk (if b then Err TooManyLines else line_of bytes) IsFitLine
    by_line_number true = tt
    by_line_number false = line_fits bytes

-- Scripts

with_line_fits : (so_far : List Numbered) (n : ℕ) (what : Line) → AreFitLines so_far → IsFitLine what → AreFitLines (with_line so_far n what)
with_line_fits so_far n (line.Step what) all fit = all_append (λ (numbered : Numbered). IsFitLine numbered.line) so_far (numbered n (line.Step what) ∷ []) all (fit, tt)
with_line_fits so_far n line.Owners all fit = all_append (λ (numbered : Numbered). IsFitLine numbered.line) so_far (numbered n line.Owners ∷ []) all (tt, tt)
with_line_fits so_far n line.Nothing all fit = all

lines_fit : (so_far : List Numbered) (n : ℕ) (bytes : List (List ℕ)) → AreFitLines so_far → IfOk (script_from so_far n bytes) AreFitLines
lines_fit so_far n [] all = all
lines_fit so_far n (bytes ∷ rest) all = by_line (numbered_line n bytes) (numbered_fits n bytes) (λ more fits. lines_fit more (n + 1) rest fits)
  where
    by_line : (r : Result Line LineFault) → IfOk r IsFitLine → ((more : List Numbered) → AreFitLines more → IfOk (script_from more (n + 1) rest) AreFitLines)
        → IfOk (then_lines so_far n (λ more. script_from more (n + 1) rest) r) AreFitLines
    by_line (Ok what) fit onward = onward (with_line so_far n what) (with_line_fits so_far n what all fit)
    by_line (Err why) fit onward = tt

-- each step of a script without faults has numbers that fit
pub scripts_are_fit : (text : List ℕ) (script : List Numbered) → script_of text ≡ Ok script → AreFitLines script
scripts_are_fit text script e = by_length (nat_lt 1048576 (length text)) e
  where
    by_length : (b : Bool) → (if b then Err fault.TooLong else script_from [] 1 (lines text)) ≡ Ok script → AreFitLines script
    by_length true e = absurd cc
    by_length false e = rw e at (lines_fit [] 1 (lines text) tt)

-- Where each page of a pool is in a claim, there is a list of the owners of all pages.

-- a page that claims count is in one of them
claim_found : (p : ℕ) (claims : List (ℕ × Owner)) → 0 < times p (map (λ claim. claim.0) claims) → (owner : Owner) × Contains claims (p, owner)
claim_found p [] some = absurd (omega arith)
claim_found p ((page, owner) ∷ claims) some = by_page (page == p) refl some (claim_found p claims)
  where
    by_page : (b : Bool) → (page == p) ≡ b → 0 < (if b then 1 + times p (map (λ claim. claim.0) claims) else times p (map (λ claim. claim.0) claims))
        → (0 < times p (map (λ claim. claim.0) claims) → (o : Owner) × Contains claims (p, o)) → (o : Owner) × Contains ((page, owner) ∷ claims) (p, o)
    by_page true e some ih = (owner, (0, omega arith, ap (λ (n : ℕ). (n, owner)) (eqb-true page p e)))
    by_page false e some ih = let found = ih some in (found.0, Contains-append_right ((page, owner) ∷ []) claims (p, found.0) found.1)

-- owners, each of them one of its page
record AreListed (IsOf : ℕ → Owner → Type 0) (count : ℕ) : Type 0 where
  owners : List Owner
  all : length owners ≡ count
  each : (p : ℕ) (owner : Owner) → slice_get owners p ≡ Some owner → IsOf p owner

listed : (IsOf : ℕ → Owner → Type 0) (count : ℕ) → ((p : ℕ) → p < count → (owner : Owner) × IsOf p owner) → AreListed IsOf count
listed IsOf zero there = record { owners = []; all = refl; each = λ p owner e. absurd cc }
listed IsOf (suc n) there = one_more_listed (there 0 (omega arith)) (listed (λ p owner. IsOf (suc p) owner) n (λ p less. there (suc p) (omega arith)))
  where
    at : (first : Owner) (rest : List Owner) → IsOf 0 first → ((p : ℕ) (owner : Owner) → slice_get rest p ≡ Some owner → IsOf (suc p) owner)
        → (p : ℕ) (owner : Owner) → slice_get (first ∷ rest) p ≡ Some owner → IsOf p owner
    at first rest here more zero owner e = let same : first ≡ owner = cc in subst (IsOf 0) same here
    at first rest here more (suc p) owner e = more p owner e

    one_more_listed : (owner : Owner) × IsOf 0 owner → AreListed (λ p owner. IsOf (suc p) owner) n → AreListed IsOf (suc n)
    one_more_listed (first, here) rest = record { owners = first ∷ rest.owners; all = ap suc rest.all; each = at first rest.owners here rest.each }

pub owners_there : (s : State) → IsSound s → (owners : List Owner) × AreOwners s owners
owners_there s sound = are_owners (listed (λ p owner. Contains (claims_of s.host) (p, owner)) (length s.memory) claimed)
  where
    claimed : (p : ℕ) → p < length s.memory → (owner : Owner) × Contains (claims_of s.host) (p, owner)
    claimed p less =
        let one : times p (map (λ claim. claim.0) (claims_of s.host)) ≡ 1 = rw (lt-ltb p (length s.memory) less) at (sound.owners p) in
        claim_found p (claims_of s.host) (omega (arith, one))

    are_owners : AreListed (λ p owner. Contains (claims_of s.host) (p, owner)) (length s.memory) → (owners : List Owner) × AreOwners s owners
    are_owners found = (found.owners, record { all = found.all; claim = found.each })

-- Starting where a run of a script was cut off, the rest of the script can be run.

-- each line prints something
pub line_goes_on : (t : Table) (n : ℕ) (what : Line) → IsTableInOrder t → IsFitLine what → (said : List ℕ) × (unwell : ℕ) × (new : Table) × PrintsLine t n what said unwell new
line_goes_on t n (line.Step what) order fit =
    let next = goes_on t what order fit in
    (reply_line n (verb_of what) next.answer, unwell_by next.answer, next.left, (next.answer, next.does, refl, refl))
line_goes_on t n line.Owners order fit = let found = owners_there t.world order.world.sound in (owners_text found.0, 0, t, (found.0, found.1, refl, refl, refl))
line_goes_on t n line.Nothing order fit = ([], 0, t, (refl, refl, refl))

line_keeps_order : (t : Table) (n : ℕ) (what : Line) (said : List ℕ) (unwell : ℕ) (new : Table) → IsTableInOrder t → PrintsLine t n what said unwell new → IsTableInOrder new
line_keeps_order t n (line.Step what) said unwell new order (answer, does, text, counted) = bench_keeps t what answer new order does
line_keeps_order t n line.Owners said unwell new order (owners, are, text, counted, stays) = subst IsTableInOrder (sym stays) order
line_keeps_order t n line.Nothing said unwell new order (text, counted, stays) = subst IsTableInOrder (sym stays) order

pub prints_keep_order : (t : Table) (done : List Numbered) (said : List ℕ) (unwell : ℕ) (new : Table) → IsTableInOrder t → Prints t done said unwell new → IsTableInOrder new
prints_keep_order t [] said unwell new order (text, counted, stays) = subst IsTableInOrder (sym stays) order
prints_keep_order t (first ∷ rest) said unwell new order (mid, one, others, here, later, says, run, text, counted) =
    prints_keep_order mid rest others later new (line_keeps_order t first.number first.line one here mid order says) run

pub lines_go_on : (t : Table) (left : List Numbered) → IsTableInOrder t → AreFitLines left → (said : List ℕ) × (unwell : ℕ) × (new : Table) × Prints t left said unwell new
lines_go_on t [] order fit = ([], 0, t, (refl, refl, refl))
lines_go_on t (first ∷ rest) order fit =
    let (one, here, mid, says) = line_goes_on t first.number first.line order fit.0 in
    let (others, later, new, run) = lines_go_on mid rest (line_keeps_order t first.number first.line one here mid order says) fit.1 in
    (one ++ others, here + later, new, (mid, one, others, here, later, says, run, refl, refl))

-- what lines print, and then what others do
pub joins : (t : Table) (done left : List Numbered) (said others : List ℕ) (here later : ℕ) (mid new : Table)
    → Prints t done said here mid → Prints mid left others later new → Prints t (done ++ left) (said ++ others) (here + later) new
joins t [] left said others here later mid new (none, zeros, stays) run =
    let sum : here + later ≡ later = omega (arith, zeros) in
    subst (λ (n : ℕ). Prints t left (said ++ others) n new) (sym sum)
    (subst (λ (text : List ℕ). Prints t left text later new) (sym (ap (λ (xs : List ℕ). xs ++ others) none)) (subst (λ (from : Table). Prints from left others later new) stays run))
joins t (first ∷ rest) left said others here later mid new (after, one, more, a, b, says, run, text, counted) next =
    (after, one, more ++ others, a, b + later, says, joins after rest left more others b later mid new run next, ap (λ (xs : List ℕ). xs ++ others) text ∙ append_assoc one more others, omega (arith, counted))

fit_after : (done left : List Numbered) → AreFitLines (done ++ left) → AreFitLines left
fit_after [] left fit = fit
fit_after (first ∷ rest) left fit = fit_after rest left fit.1

-- what the lines done print begins the text of a run of all lines
pub front_of_first_is_cut : (t : Table) (script : List Numbered) (text : List ℕ) → IsTableInOrder t → AreFitLines script → IsFrontOfFirst t script text → IsCutText t script text
front_of_first_is_cut t script text order fit (done, left, last, said, unwell, split, run, front) = by_lines_left left split front
  where
    by_lines_left : (left : List Numbered) → script ≡ done ++ left → IsFront text (said ++ last_line left last) → IsCutText t script text
    by_lines_left [] split front =
        let all : script ≡ done = grind (arith, common_steps) in
        (said ++ last_line [] last, (last, said, unwell, rw all run, refl), front)
    by_lines_left (next ∷ others) split (rest, joined) =
        let (more, later, new, onward) = lines_go_on last (next ∷ others) (prints_keep_order t done said unwell last order run) (fit_after done (next ∷ others) (subst AreFitLines split fit)) in (
          (said ++ more) ++ last_line [] new,
          (new, said ++ more, unwell + later, rw split (joins t done (next ∷ others) said more unwell later last new run onward), refl),
          (rest ++ (more ++ last_line [] new), grind (arith, common_steps)),
        )

-- over a world that opens, for a script that was read
pub cut_is_front : (told : Option (List ℕ)) (config : Config) (image : List ℕ) (script : List Numbered) (text : List ℕ)
    → HasScript told script → refusal_of_config config ≡ None → IsImage image → IsFrontOfFirst (table (opening_of config image)) script text → IsCutText (table (opening_of config image)) script text
cut_is_front told config image script text (bytes, is_told, read) fits good front =
    front_of_first_is_cut (table (opening_of config image)) script text (bench_opens config image fits good) (scripts_are_fit bytes script read) front

-- Runs of scripts.

-- The script of the first bytes is that of all

same_script : (text all : List ℕ) → text ≡ take (1048576 + 1) all → script_of text ≡ script_of all
same_script text all first = same_if_short (Err fault.TooLong) (λ t. script_from [] 1 (lines t)) text all first

pub script_is_told : (told : Option (List ℕ)) (text : List ℕ) (script : List Numbered) → AreFirstOf 1048576 told text → script_of text ≡ Ok script → HasScript told script
script_is_told told text script (all, same, first) good = (all, same, sym (same_script text all first) ∙ good)

fault_is_told : (told : Option (List ℕ)) (text : List ℕ) (why : ScriptFault) → AreFirstOf 1048576 told text → script_of text ≡ Err why → HasFault told why
fault_is_told told text why (all, same, first) bad = (all, same, sym (same_script text all first) ∙ bad)

pub no_script_is_told : (told : Option (List ℕ)) (text : List ℕ) (why : ScriptFault) → AreFirstOf 1048576 told text → IsReading text (Err why) → IsNoScript told (fault_of_script why)
no_script_is_told told text fault.TooLong first bad = fault_is_told told text fault.TooLong first bad
no_script_is_told told text (fault.Line number why) first bad = fault_is_told told text (fault.Line number why) first bad
no_script_is_told told text fault.Memory first bad = _

-- What is printed grows by a line

pub prints_more : (t : Table) (done : List Numbered) (said : List ℕ) (so_far : ℕ) (mid : Table) (next : Numbered) (text : List ℕ) (unwell : ℕ) (new : Table) →
    Prints t done said so_far mid → PrintsLine mid next.number next.line text unwell new → Prints t (done ++ next ∷ []) (said ++ text) (so_far + unwell) new
prints_more t [] said so_far mid next text unwell new (none, zeros, stays) line =
    (new, text, [], unwell, 0, subst (λ (from : Table). PrintsLine from next.number next.line text unwell new) stays line, (refl, refl, refl), grind (arith, common_steps), omega (arith, zeros))
prints_more t (first ∷ rest) said so_far mid next text unwell new (after, one, others, here, later, says, run, joined, counted) line =
    (after, one, others ++ text, here, later + unwell, says, prints_more after rest others later mid next text unwell new run line, grind (arith, common_steps), omega (arith, counted))

-- Where a run was cut off: between lines, inside what a line prints, and inside the counts

-- what has been written of the lines done, and how many answers are not well, as far as 64 bits count
abbrev pub HasPrinted : Table → List Numbered → Table → ℕ → Option (List ℕ) → Option (List ℕ) → Type 0
HasPrinted t done now counted a b = (unwell : ℕ) × (counted ≡ min unwell 18446744073709551615) × Gains a b (λ said. Prints t done said unwell now)

abbrev pub IsFrontOf : List ℕ → List ℕ → Type 0
IsFrontOf whole front = IsFront front whole

-- a count and what comes to it, as far as 64 bits count
counts_on : (counted more sum so_far : ℕ) → counted ≡ min so_far 18446744073709551615 → sum ≡ min (counted + more) 18446744073709551615 → sum ≡ min (so_far + more) 18446744073709551615
counts_on counted more sum so_far first second = omega (arith, first, second)

pub printed_more : (t : Table) (done : List Numbered) (mid : Table) (counted : ℕ) (next : Numbered) (text : List ℕ) (more : ℕ) (new : Table) (sum : ℕ) (a b c : Option (List ℕ)) →
    HasPrinted t done mid counted a b → PrintsLine mid next.number next.line text more new → sum ≡ min (counted + more) 18446744073709551615 → Appends b c text
    → HasPrinted t (done ++ next ∷ []) new sum a c
printed_more t done mid counted next text more new sum a b c (so_far, is, (said, run, first)) line adds second =
    (so_far + more, counts_on counted more sum so_far is adds, (said ++ text, prints_more t done said so_far mid next text more new run line, appends_more a b c said text first second))

-- between lines
pub cut_between : (t : Table) (script done left : List Numbered) (mid : Table) (counted : ℕ) (a b : Option (List ℕ)) → done ++ left ≡ script → HasPrinted t done mid counted a b → Gains a b (IsFrontOfFirst t script)
cut_between t script done left mid counted a b split (so_far, is, (said, run, first)) = (said, (done, left, mid, said, so_far, sym split, run, (last_line left mid, refl)), first)

-- inside what a line prints
pub cut_inside : (t : Table) (script done left : List Numbered) (mid : Table) (counted : ℕ) (next : Numbered) (text : List ℕ) (more : ℕ) (new : Table) (a b c : Option (List ℕ)) → done ++ next ∷ left ≡ script →
    HasPrinted t done mid counted a b → PrintsLine mid next.number next.line text more new → Gains b c (IsFrontOf text) → Gains a c (IsFrontOfFirst t script)
cut_inside t script done left mid counted next text more new a b c split (so_far, is, (said, run, first)) line (front, (rest, joined), second) = (
  said ++ front,
  (
    done ++ next ∷ [],
    left,
    new,
    said ++ text,
    so_far + more,
    grind (arith, common_steps),
    prints_more t done said so_far mid next text more new run line,
    (rest ++ last_line left new, grind (arith, common_steps)),
  ),
  appends_more a b c said front first second,
)

-- inside the counts
pub cut_in_counts : (t : Table) (script : List Numbered) (last : Table) (counted : ℕ) (a b c : Option (List ℕ)) →
    HasPrinted t script last counted a b → Gains b c (IsFrontOf (last_line [] last)) → Gains a c (IsFrontOfFirst t script)
cut_in_counts t script last counted a b c (so_far, is, (said, run, first)) (front, (rest, joined), second) =
    (said ++ front, (script, [], last, said, so_far, grind (arith, common_steps), run, (rest, grind (arith, common_steps))), appends_more a b c said front first second)

-- all was written
pub whole_text : (t : Table) (script : List Numbered) (last : Table) (counted : ℕ) (a b c : Option (List ℕ)) →
    HasPrinted t script last counted a b → Appends b c (last_line [] last) → Gains a c (IsRunText t script)
whole_text t script last counted a b c (unwell, is, (said, run, first)) second = (said ++ last_line [] last, (last, said, unwell, run, refl), appends_more a b c said (last_line [] last) first second)

-- and by the table that was left
pub whole_run : (t : Table) (script : List Numbered) (last : Table) (counted : ℕ) (a b c : Option (List ℕ)) →
    HasPrinted t script last counted a b → Appends b c (last_line [] last) → Gains a c (IsRunTo last counted t script)
whole_run t script last counted a b c (unwell, is, (said, run, first)) second = (said ++ last_line [] last, (said, unwell, run, refl, is), appends_more a b c said (last_line [] last) first second)

-- what is written of a run is so
pub writes_so : (told : Option (List ℕ)) (config : Config) (image : List ℕ) (a b : Option (List ℕ)) (P Q : Table → List Numbered → List ℕ → Type 0)
    → ((t : Table) (script : List Numbered) (text : List ℕ) → P t script text → Q t script text) → Writes told config image a b P → Writes told config image a b Q
writes_so told config image a b P Q is (script, has, fits, (text, holds, written)) = (script, has, fits, (text, is (table (opening_of config image)) script text holds, written))

pub run_to_text : (told : Option (List ℕ)) (config : Config) (image : List ℕ) (last : Table) (counted : ℕ) (a b : Option (List ℕ))
    → Writes told config image a b (IsRunTo last counted) → Writes told config image a b IsRunText
run_to_text told config image last counted a b (script, has, fits, (text, (said, unwell, run, joined, is), gained)) = (script, has, fits, (text, (last, said, unwell, run, joined), gained))

pub kept_gains : (a b c : Option (List ℕ)) (Holds : List ℕ → Type 0) → Gains a b Holds → Keeps b c → Gains a c Holds
kept_gains a b c Holds (bytes, holds, first) kept = (bytes, holds, keeps_then a b c bytes first kept)

-- a whole text is a prefix of itself
pub whole_is_cut : (t : Table) (script : List Numbered) (a b : Option (List ℕ)) → Gains a b (IsRunText t script) → Gains a b (IsFrontOfFirst t script)
whole_is_cut t script a b (text, (last, said, unwell, run, joined), first) =
    (text, (script, [], last, said, unwell, grind (arith, common_steps), run, ([], grind (arith, common_steps))), first)

-- what holds in any case holds of a refusal
pub on_err : {T E X : Type 0} (r : Result T E) → X → OnErr r X
on_err (Ok value) holds = _
on_err (Err fault) holds = holds

pub on_ok : {T E X : Type 0} (r : Result T E) → X → OnOk r X
on_ok (Ok value) holds = holds
on_ok (Err fault) holds = _

-- a run that was cut off says so
pub run_ends : {T : Type 0} (r : Result T RunFault) (told : Option (List ℕ)) (config : Config) (image : List ℕ) (a b : Option (List ℕ)) (script : List Numbered) →
    HasScript told script → refusal_of_config config ≡ None → IsImage image → OnErr r (Gains a b (IsFrontOfFirst (table (opening_of config image)) script)) →
    IfErr r (λ fault. (fault ≡ run.Memory) ⊎ (fault ≡ run.OutputFailed)) → IfErr r (EndsWith told config image a b)
run_ends (Ok done) told config image a b script has fits good cut says = _
run_ends (Err fault) told config image a b script has fits good (text, front, written) (inl e) = rw e (inr (script, has, fits, (text, cut_is_front told config image script text has fits good front, written)))
run_ends (Err fault) told config image a b script has fits good (text, front, written) (inr e) = rw e (script, has, fits, (text, cut_is_front told config image script text has fits good front, written))
