-- What a completion over lent blocks tells that is refused, from what the controller's call says of the namespace that is shown.
use Rattle.std.proofs.Common.{◌≡◌, ℕ, ◌+◌, ◌-◌, ◌*◌, ◌/◌, ◌%◌, ◌≤◌, List, [], Option, Some, Ok, length, take, drop, sym, ap, ◌∙◌, subst, arith}
use Rattle.std.proofs.lemmas.List.{take_all}
use Rattle.block_image.{proofs.Lending.{LiesIn, shown_part}, specs.Blocks.{IsPart, block_count, blocks_at, is_lent, shown}}
use Rattle.controller_core.specs.{Contents.Contents, Lending.lent_refusal, declared.lending.LentRefusal.LentRefusal}
use Rattle.nvmesgl_c.specs.{Answers.touching, ControllerKept.Kept}
use Rattle.nvmesgl_c.specs.ControllerLent.{CompletesLent, CompletesLentBy, StaysUnlent, code_of_lent, code_of_lent_end, opcode_in, wanted_by}
use Rattle.nvmesgl_c.specs.declared.{controller.lent_over.CWanted.CWanted, words.answer.Answer.Answer}
use Rattle.page_memory.specs.Memory.{Memory}

-- lent blocks stand in the namespace that is shown, so two that show the same are the same
part_alone : (b f : ℕ) (x : List ℕ) → IsPart b f x → blocks_at (shown b f x) f (block_count x) ≡ x
part_alone b f x part =
    let lies : LiesIn f x f (block_count x) = record { low = omega arith; inside = omega arith } in
    let start : 512 * (f - f) ≡ 0 = omega arith in
    let long : length x ≤ 512 * block_count x = omega (arith, part.whole) in
    shown_part b f x f (block_count x) part lies ∙ ap (λ (n : ℕ). take (512 * block_count x) (drop n x)) start ∙ take_all (512 * block_count x) x long

part_as_long : (b f : ℕ) (x y : List ℕ) → IsPart b f x → length y ≡ length x → IsPart b f y
part_as_long b f x y part long =
    record { some = part.some; whole = subst (λ (n : ℕ). n % 512 ≡ 0) (sym long) part.whole; inside = subst (λ (n : ℕ). f + n / 512 ≤ b) (sym long) part.inside }

pub same_lent : (b f : ℕ) (x y : List ℕ) → IsPart b f x → length y ≡ length x → shown b f y ≡ shown b f x → y ≡ x
same_lent b f x y part long same =
    sym (part_alone b f y (part_as_long b f x y part long)) ∙ ap (λ (n : ℕ). blocks_at (shown b f y) f (n / 512)) long ∙ ap (λ (bytes : List ℕ). blocks_at bytes f (block_count x)) same ∙ part_alone b f x part

-- A completion that is refused

pub complete_lent_err : (q cid f f' b b' pages code opcode : ℕ) (lent lent' : List ℕ) (old new : CWanted) (k k' : Contents) (why : LentRefusal) (m m' : Memory) (reached touched told_pages : List ℕ) (told : Answer) →
    IsPart b f lent → b' ≡ b → f' ≡ f → length lent' ≡ length lent → reached ≡ [] → Some why ≡ lent_refusal (is_lent f lent) k m q cid →
    (k' ≡ k) × (shown b' f' lent' ≡ shown b f lent) × (m' ≡ m) × (touched ≡ reached) → told ≡ touching told_pages → told_pages ≡ touched →
    code ≡ code_of_lent why → opcode ≡ opcode_in k q cid → new ≡ wanted_by opcode (Some why) old → CompletesLentBy q cid f lent lent' old new k pages m code told k' m'
complete_lent_err q cid f f' b b' pages code opcode lent lent' old new k k' why m m' reached touched told_pages told part as_many as_first long fresh refusal kept tells shows codes named wants =
    let same : shown b f lent' ≡ shown b f lent = subst (λ (n : ℕ). shown n f lent' ≡ shown b f lent) as_many (subst (λ (n : ℕ). shown b' n lent' ≡ shown b f lent) as_first kept.1) in
    record {
      touched = touched;
      completes = subst (λ (o : Option LentRefusal). CompletesLent o k q cid f lent lent' m k' m' touched) refusal (kept.0, same_lent b f lent lent' part long same, kept.2, kept.3 ∙ fresh);
      code_is = codes ∙ ap code_of_lent_end refusal;
      wanted_is = wants ∙ ap (λ (n : ℕ). wanted_by n (Some why) old) named ∙ ap (λ (o : Option LentRefusal). wanted_by (opcode_in k q cid) o old) refusal;
      answer_is = tells ∙ ap touching shows;
    }

-- a controller is kept that the call takes
pub takes_some : (kept : Kept) (c : Contents) (lent lent' : List ℕ) (old new : CWanted) → kept ≡ Ok c → StaysUnlent kept lent lent' old new
takes_some kept c lent lent' old new is = subst (λ (o : Kept). StaysUnlent o lent lent' old new) (sym is) tt
