-- Which commands the controller has: just those that move data.
use Rattle.std.proofs.Common.{◌≡◌, ◌∙◌, ℕ, true, false, Option, Some, None, is_none, is_some, inl, inr, refl, ap, sym, true≢false}
use Rattle.std.proofs.lemmas.Bool.{cases_Bool}
use Rattle.entry_codec.specs.declared.submission.SubEntry.{SubEntry}
use Rattle.io_commands.{proofs.Pointers.known_moves, specs.{Jobs.{io_fault, kind_of_opcode}, Requests.{is_admin, moves_data, opcode_of}}}
use Rattle.io_commands.specs.declared.request.Kind.{Kind, TheVariants.{Read, Write, Compare, WriteZeroes, Verify, Flush, Deallocate, Admin}}
use Rattle.machine_model.specs.State.{State, Job}
use Rattle.two_sides.proofs.Served.{JobList}

-- the opcode of a kind that moves data is that kind's, and the controller has none of the other commands of blocks
pub moving_kind : (kind : Kind) → moves_data kind ≡ true → kind_of_opcode (opcode_of kind) ≡ Some kind
moving_kind Read moves = refl
moving_kind Write moves = refl
moving_kind Compare moves = refl
moving_kind WriteZeroes moves = absurd (true≢false (sym moves))
moving_kind Verify moves = absurd (true≢false (sym moves))
moving_kind Flush moves = absurd (true≢false (sym moves))
moving_kind Deallocate moves = absurd (true≢false (sym moves))
moving_kind (Admin command) moves = absurd (true≢false (sym moves))

pub still_kind : (kind : Kind) → is_admin kind ≡ false → moves_data kind ≡ false → kind_of_opcode (opcode_of kind) ≡ None
still_kind Read far still = absurd (true≢false still)
still_kind Write far still = absurd (true≢false still)
still_kind Compare far still = absurd (true≢false still)
still_kind WriteZeroes far still = refl
still_kind Verify far still = refl
still_kind Flush far still = refl
still_kind Deallocate far still = refl
still_kind (Admin command) far still = absurd (true≢false far)

some_of : (o : Option Kind) → is_none o ≡ false → is_some o ≡ true
some_of None none = absurd (true≢false none)
some_of (Some kind) none = refl

-- a job's opcode is its request's, so where the controller has it the request moves data
pub opcode_asked : (s : State) (j : Job) (l : JobList s j) → j.entry.opcode ≡ opcode_of l.request.kind
opcode_asked s j l = ap (λ (e : SubEntry). e.opcode) l.entry

pub list_moves : (s : State) (j : Job) (l : JobList s j) → is_none (kind_of_opcode j.entry.opcode) ≡ false → moves_data l.request.kind ≡ true
list_moves s j l known =
    known_moves l.request.kind l.sized.blocks (some_of (kind_of_opcode (opcode_of l.request.kind)) (ap (λ (n : ℕ). is_none (kind_of_opcode n)) (sym (opcode_asked s j l)) ∙ known))

-- and so it has that of an entry without fault
pub opcode_had : (blocks : ℕ) (e : SubEntry) → io_fault blocks e ≡ None → is_none (kind_of_opcode e.opcode) ≡ false
opcode_had blocks e h = elim (cases_Bool (is_none (kind_of_opcode e.opcode))) [ inl none ↦ let h = rw none at h in absurd cc | inr known ↦ known ]
