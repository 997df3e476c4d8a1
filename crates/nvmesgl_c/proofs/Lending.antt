-- A call that was made over a pool or over regions, and a look, as what their exports say. The controller that is called is in a box.
use Rattle.std.{proofs.Common.{◌≡◌, ℕ, ◌≤◌, ◌/◌, List, Option, Ok, length, sym, ap, ◌∙◌, inl, subst, refl}, specs.List.slice_get}
use Rattle.nvmesgl_c.specs.{ControllerCalls.Lent, ControllerKept.Kept, ControllerNext.{Sees, TellsNext, step_of}, ControllerOver.{LentOver, TellsNextOver}, Regions.{memory_of, pages_of}}
use Rattle.nvmesgl_c.specs.declared.{controller.next.CStep.CStep, words.{answer.Answer.Answer, region.CRegion.CRegion}}
use Rattle.controller_core.specs.{Contents.Contents, declared.look.ControllerStep.ControllerStep}
use Rattle.page_memory.specs.Memory.{Memory}
use Rattle.nvmesgl_c.specs.AnyControllers.{AnyContents}

-- what a controller of either kind keeps
abbrev pub contents : AnyContents → Contents
contents d = d.contents

pub lent_called : (Calls : Contents → ℕ → Memory → ℕ → Answer → Contents → Memory → Type 0) (old new : Kept) (k held k' : Contents) (pool pool' : List ℕ) (code : ℕ) (answer : Answer) →
    old ≡ Ok k → held ≡ k → new ≡ Ok k' → length pool ≤ 268435456 → Calls held (length pool / 4096) (slice_get pool) code answer k' (slice_get pool') → Lent Calls old pool code answer new pool'
lent_called Calls old new k held k' pool pool' code answer was same is fits called =
    subst (λ (o : Kept). Lent Calls o pool code answer new pool') (sym was)
    (subst (λ (o : Kept). Lent Calls (Ok k) pool code answer o pool') (sym is)
    (inl (fits, subst (λ (h : Contents). Calls h (length pool / 4096) (slice_get pool) code answer k' (slice_get pool')) same called)))

-- what is in a pool after a look, where that is what the look left
pub left_alike : (pool' left pool : List ℕ) → pool' ≡ left → slice_get left ≡ slice_get pool → slice_get pool' ≡ slice_get pool
left_alike pool' left pool same kept = ap slice_get same ∙ kept

pub looked_over : (old new : Kept) (k held : Contents) (pool pool' : List ℕ) (step : Option ControllerStep) (before told : CStep) →
    old ≡ Ok k → held ≡ k → new ≡ Ok k → length pool ≤ 268435456 → slice_get pool' ≡ slice_get pool → Sees held (slice_get pool) step → told ≡ step_of step → TellsNext old pool 0 before told new pool'
looked_over old new k held pool pool' step before told was same is fits kept sees tells =
    subst (λ (o : Kept). TellsNext o pool 0 before told new pool') (sym was)
    (inl (fits, refl, is, kept, step, subst (λ (h : Contents). Sees h (slice_get pool) step) same sees, tells))

pub called_over : (Calls : Contents → ℕ → Memory → ℕ → Answer → Contents → Memory → Type 0) (old new : Kept) (k held k' : Contents) (regions regions' : List CRegion) (code : ℕ) (answer : Answer) →
    old ≡ Ok k → held ≡ k → new ≡ Ok k' → Calls held (pages_of regions) (memory_of regions) code answer k' (memory_of regions') → LentOver Calls old regions code answer new regions'
called_over Calls old new k held k' regions regions' code answer was same is called =
    subst (λ (o : Kept). LentOver Calls o regions code answer new regions') (sym was)
    (subst (λ (o : Kept). LentOver Calls (Ok k) regions code answer o regions') (sym is)
    (subst (λ (h : Contents). Calls h (pages_of regions) (memory_of regions) code answer k' (memory_of regions')) same called))

pub seen_over : (old new : Kept) (k held : Contents) (regions regions' : List CRegion) (step : Option ControllerStep) (before told : CStep) →
    old ≡ Ok k → held ≡ k → new ≡ Ok k → memory_of regions' ≡ memory_of regions → Sees held (memory_of regions) step → told ≡ step_of step → TellsNextOver old regions 0 before told new regions'
seen_over old new k held regions regions' step before told was same is kept sees tells =
    subst (λ (o : Kept). TellsNextOver o regions 0 before told new regions') (sym was)
    (refl, is, kept, step, subst (λ (h : Contents). Sees h (memory_of regions) step) same sees, tells)
