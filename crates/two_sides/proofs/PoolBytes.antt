-- What a step leaves as it was.
use Rattle.machine_model.specs.After as a
use Rattle.machine_model.specs.Events as events
use Rattle.machine_model.specs.declared.words.Refusal.TheVariants as refusal
use Rattle.std.proofs.Common.{◌≡◌, ℕ, ◌%◌, ◌<◌, true, Option, Some, None, List, length, slice_get, slice_index, IfSome, is_some, refl, sym, ap, zero, suc, ◌+◌, ◌-◌, ◌*◌, ◌/◌, ◌≤◌, take, drop, ◌∙◌, false, [], ◌∷◌, Bool, not, ◌||◌, if◌then◌else◌, inl, inr}
use Rattle.std.{proofs.lemmas.{Bool.{true≢false, or_parts, cases_Bool}, Option.slice_get-get_or}, specs.List.list_any}
use Rattle.std.specs.Prelude.{option_map, option_and_then, slice_range}
use native.Mathlib.Omega.{arith}
use Rattle.page_memory.{proofs.Bytes.{bytes_within, bytes_missing, byte_at-with_page_bytes}, specs.Memory.{page_of, bytes_at, written}}
use Rattle.page_memory.specs.Pages.{page_at, byte_at, Pages, with_page_bytes}
use Rattle.controller_walk.{proofs.Same.list_same, specs.{Laws.ReadsWithin, Units.{Stays, Reads, Moves, Course, Closes, Does, course_of_list}}}
use Rattle.machine_model.{proofs.{HostLeaves.host_leaves, Steps.{Accepts, kept_anyway, part_left}}, specs.{Events.{Event, Reply}, Image.Made, Memory.memory_of}}
use Rattle.machine_model.specs.{Refusals.slot_offset, State.State, Step.{IsController, resets, Step, HostPart}}
use Rattle.machine_model.specs.Trusted.{Steps, forges_by, is_forgery, is_reset}
use Rattle.two_sides.specs.{Histories.{trusted_ends_are_unforged, since_reset, resets_restore_trust}, Lists.{walks_read_the_pool, walks_go_as_in_the_pool}}
use Rattle.two_sides.specs.Slots.{entries_lie_in_pages, completions_lie_in_pages, entries_stand_in_memory, completions_stand_in_memory, entries_are_written, completions_are_written}
use Rattle.page_ledger.specs.Owners.{pages_from}
use Rattle.queue_pair.specs.Memory.{submission_page, completion_page}

-- The memory that a walk reads is the pool's.

one_page : (o : Option (List ℕ)) (place : ℕ) → IfSome o (λ page. length page ≡ 4096)
    → option_map (λ page. slice_index page (place % 4096)) o ≡ option_and_then (λ page. slice_get page (place % 4096)) o
one_page None place whole = refl
one_page (Some page) place whole =
    let inside : place % 4096 < 4096 = omega arith in
    let below : place % 4096 < length page = omega (arith, whole, inside) in
    sym (slice_get-get_or page (place % 4096) 0 below)

pub reads_the_pool : walks_read_the_pool
reads_the_pool pages place whole = one_page (page_at pages (page_of place)) place (whole (page_of place))

anywhere : (c : Course) → ReadsWithin (λ q. true) c
anywhere (Closes v) = tt
anywhere (Does Stays rest) = anywhere rest
anywhere (Does (Reads place) rest) = (λ k lt. refl, anywhere rest)
anywhere (Does (Moves place n offset) rest) = anywhere rest

pub goes_as_in_the_pool : walks_go_as_in_the_pool
goes_as_in_the_pool pages sgl1 dir need whole =
    list_same (memory_of pages) (byte_at pages) (λ q. true) sgl1 dir need
    (record { there = λ q. ap is_some (reads_the_pool pages q whole); same = λ q h. reads_the_pool pages q whole }) (anywhere (course_of_list (memory_of pages) sgl1 dir need))

-- Slots by pages are slots in memory.

page_in_order : (p k i : ℕ) → i < k → slice_index (pages_from p k) i ≡ p + i
page_in_order p zero i l = absurd (omega arith)
page_in_order p (suc k) zero l = omega arith
page_in_order p (suc k) (suc i) l = page_in_order (p + 1) k i (omega arith) ∙ omega arith

pub entry_pages : entries_lie_in_pages
entry_pages sq pages slot l = page_in_order sq pages (slot * 64 / 4096) (omega arith) ∙ omega arith

pub completion_pages : completions_lie_in_pages
completion_pages cq pages slot l = page_in_order cq pages (slot * 16 / 4096) (omega arith) ∙ omega arith

-- a range in one page, by its page
in_page : (m : Pages) (p at n : ℕ) (o : Option (List ℕ)) → page_at m p ≡ o → IfSome o (λ page. length page ≡ 4096) → at + n ≤ 4096 → 0 < n
    → option_map (λ bytes. slice_range bytes at (at + n)) o ≡ bytes_at (byte_at m) (4096 * p + at) n
in_page m p at n None found whole fits some = sym (bytes_missing m p n at found (omega arith) some)
in_page m p at n (Some page) found whole fits some =
    let many : at + n - at ≡ n = omega arith in
    ap (λ (k : ℕ). Some (take k (drop at page))) many ∙ sym (bytes_within m p n at page found whole fits)

pub entries_stand : entries_stand_in_memory
entries_stand m sq pages slot whole l =
    let at : slot * 64 % 4096 + 64 ≤ 4096 = omega arith in
    let place : 4096 * (sq + slot / 64) + slot * 64 % 4096 ≡ 4096 * sq + 64 * slot = omega arith in
    ap (λ (p : ℕ). option_map (λ bytes. slice_range bytes (slot_offset 64 slot) (slot_offset 64 slot + 64)) (page_at m p)) (entry_pages sq pages slot l)
    ∙ in_page m (submission_page sq slot) (slot * 64 % 4096) 64 (page_at m (submission_page sq slot)) refl (whole (submission_page sq slot)) at (omega arith)
    ∙ ap (λ (place : ℕ). bytes_at (byte_at m) place 64) place

pub completions_stand : completions_stand_in_memory
completions_stand m cq pages slot whole l =
    let at : slot * 16 % 4096 + 16 ≤ 4096 = omega arith in
    let place : 4096 * (cq + slot / 256) + slot * 16 % 4096 ≡ 4096 * cq + 16 * slot = omega arith in
    ap (λ (p : ℕ). option_map (λ bytes. slice_range bytes (slot_offset 16 slot) (slot_offset 16 slot + 16)) (page_at m p)) (completion_pages cq pages slot l)
    ∙ in_page m (completion_page cq slot) (slot * 16 % 4096) 16 (page_at m (completion_page cq slot)) refl (whole (completion_page cq slot)) at (omega arith)
    ∙ ap (λ (place : ℕ). bytes_at (byte_at m) place 16) place

pub entries_written : entries_are_written
entries_written m sq pages slot page bytes l found whole count =
    let at : slot * 64 % 4096 + length bytes ≤ 4096 = omega (arith, count) in
    let place : 4096 * (sq + slot / 64) + slot * 64 % 4096 ≡ 4096 * sq + 64 * slot = omega arith in
    ap (λ (p : ℕ). byte_at (with_page_bytes m p (slot_offset 64 slot) bytes)) (entry_pages sq pages slot l)
    ∙ byte_at-with_page_bytes m (submission_page sq slot) (slot * 64 % 4096) bytes page found whole at
    ∙ ap (λ (place : ℕ). written (byte_at m) place bytes) place

pub completions_written : completions_are_written
completions_written m cq pages slot page bytes l found whole count =
    let at : slot * 16 % 4096 + length bytes ≤ 4096 = omega (arith, count) in
    let place : 4096 * (cq + slot / 256) + slot * 16 % 4096 ≡ 4096 * cq + 16 * slot = omega arith in
    ap (λ (p : ℕ). byte_at (with_page_bytes m p (slot_offset 16 slot) bytes)) (completion_pages cq pages slot l)
    ∙ byte_at-with_page_bytes m (completion_page cq slot) (slot * 16 % 4096) bytes page found whole at
    ∙ ap (λ (place : ℕ). written (byte_at m) place bytes) place

-- What no event of the host changes.

pub host_image : (s : State) (e : Event) (reply : Reply) → Accepts s e reply → IsController e ≡ false → (a.after s e reply).controller.image ≡ s.controller.image
host_image s e reply ok c = (host_leaves s e reply ok c).image

pub host_jobs : (s : State) (e : Event) (reply : Reply) → Accepts s e reply → IsController e ≡ false → resets e ≡ false → (a.after s e reply).controller.jobs ≡ s.controller.jobs
host_jobs s e reply ok c other = (host_leaves s e reply ok c).jobs other

-- Once something was forged, it stays so until a reset: no other event restores the trust. So where the flag is set, nothing was forged since.

abbrev Distrusts : HostPart → Type 0
Distrusts part = part.trusted ≡ false

pub trusted_before : (old : State) (e : Event) (reply : Reply) (new : State) → Step old e reply new → resets e ≡ false → new.trusted ≡ true → old.trusted ≡ true
trusted_before old e reply new step other t = elim (cases_Bool old.trusted) [
  | inl e' ↦ e'
  | inr e' ↦
      absurd (true≢false (sym t ∙ (ap (λ (part : HostPart). part.trusted) (part_left old e reply new step.2)
      ∙ kept_anyway Distrusts old e reply (IsController e) refl step.1 (λ ok c. λ h. (host_leaves old e reply ok c).distrusts other h) e')))
]

-- a reset is never refused, and leaves one state
pub reset_leaves : (old : State) (reply : Reply) (new : State) → Step old events.Reset reply new → new ≡ a.after_reset old
reset_leaves old reply new step = grind arith

pub trust_restored : resets_restore_trust
trust_restored old reply new step = ap (λ (s : State). s.trusted) (reset_leaves old reply new step)

pub trusted_or_reset : (old : State) (e : Event) (reply : Reply) (new : State) → Step old e reply new → new.trusted ≡ true → (old.trusted || resets e) ≡ true
trusted_or_reset old e reply new step t = by_reset (resets e) refl
  where
    by_reset : (b : Bool) → resets e ≡ b → (old.trusted || b) ≡ true
    by_reset true other = or_true old.trusted
      where
        or_true : (b : Bool) → (b || true) ≡ true
        or_true b = grind arith
    by_reset false other = ap (λ (b : Bool). b || false) (trusted_before old e reply new step other t)

-- a step between trusted states forges nothing
pub unforged_step : (old : State) (e : Event) (reply : Reply) (new : State) → Step old e reply new → old.trusted ≡ true → new.trusted ≡ true → forges_by e reply ≡ false
unforged_step old e reply new step t u = grind arith

-- steps without a reset to a trusted state came from one, and forged nothing
came_trusted : (made : List Made) (s end : State) → Steps s made end → list_any is_reset made ≡ false → end.trusted ≡ true → (s.trusted ≡ true) × (list_any is_forgery made ≡ false)
came_trusted [] s end steps none t = (ap (λ (x : State). x.trusted) (sym steps) ∙ t, refl)
came_trusted (m ∷ made) s end (is, mid, step, rest) none t =
    let both = or_parts (is_reset m) (list_any is_reset made) none in
    let behind = came_trusted made mid end rest both.1 t in
    let before = trusted_before s m.event m.reply mid step both.0 behind.0 in
    (before, (ap (λ (x : Bool). x || list_any is_forgery made) (unforged_step s m.event m.reply mid step before behind.0) ∙ behind.1))

pub ends_unforged : trusted_ends_are_unforged
ends_unforged [] s end steps t = refl
ends_unforged (m ∷ made) s end steps t = stays_unforged (ends_unforged made steps.1 end steps.3 t) (list_any is_reset made) (is_reset m) refl refl
  where
    stays_unforged : not (list_any is_forgery (since_reset made)) ≡ true → (b c : Bool) → list_any is_reset made ≡ b → is_reset m ≡ c
        → not (list_any is_forgery (if b then since_reset made else if c then made else m ∷ made)) ≡ true
    stays_unforged ih true c rest first = ih
    stays_unforged ih false true rest first = ap not (came_trusted made steps.1 end steps.3 rest t).1
    stays_unforged ih false false rest first = ap not (came_trusted (m ∷ made) s end steps (ap (λ (b : Bool). b || list_any is_reset made) first ∙ rest) t).1
