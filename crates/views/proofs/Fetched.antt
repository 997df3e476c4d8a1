-- What a walk that fetches leaves of its bytes is what its list leaves of them.
use Rattle.std.proofs.Common.{◌≡◌, ◌≢◌, ◌+◌, ◌++◌, ◌∙◌, ℕ, Bool, true, false, not, List, Option, Some, None, ap, drop, refl, replicate, subst, sym, take, arith}
use Rattle.controller_walk.specs.Units.{Act, Closes, Course, Does, Moves, Reads, Stays}
use Rattle.controller_walk.specs.Walks.{answer, course, course_in, direction_of, DoesFirst, IfMore, is_more, is_over, is_over_in, LeavesRest}
use Rattle.controller_walk.specs.declared.{cause.WalkFault.WalkFault, progress.State.{State, TheVariants.{First, Next, Data, Over}}, walk.{Walk.Walk, WalkState.WalkState}}
use Rattle.controller_walk.specs.declared.walk.WalkState.TheVariants.{More, End, Fault}
use Rattle.entry_codec.specs.declared.submission.SubEntry.{SubEntry}
use Rattle.io_commands.specs.{Jobs.{direction_by, direction_of_entry, kind_of_opcode}, declared.request.Kind.{Kind, TheVariants.{Admin, Compare, Deallocate, Flush, Read, Verify, Write, WriteZeroes}}}
use Rattle.io_commands.specs.declared.admin.AdminCommand.{AdminCommand}
use Rattle.page_memory.specs.Memory.{Memory, bytes_at}
use Rattle.sgl_descriptor.specs.declared.Direction.{Direction, TheVariants.Source}
use Rattle.views.specs.{Ending.ends_with, Fetched.{fetched, Fetches, put_over}}

-- a walk that is over fetches nothing more
nothing_more : (w : Walk) (m : Memory) (bytes : List ℕ) → is_over w ≡ true → fetched m (course m w) bytes ≡ bytes
nothing_more w m bytes is = by w.state is
  where
    by : (s : State) → is_over_in s ≡ true → fetched m (course_in m w s) bytes ≡ bytes
    by (First sgl1) e = cc
    by (Next c) e = cc
    by (Data block after) e = cc
    by (Over why) e = refl

-- what a step leaves to be fetched is the rest of its course
rest_left : (rest : Course) (w : Walk) (result : WalkState) (m : Memory) (bytes : List ℕ) → result ≡ answer rest → IfMore result (course m w ≡ rest) → is_over w ≡ not (is_more result)
    → fetched m (course m w) bytes ≡ fetched m rest bytes
rest_left rest w More m bytes is left over = ap (λ (c : Course). fetched m c bytes) left
rest_left (Closes v) w End m bytes is left over = nothing_more w m bytes over
rest_left (Does a rest) w End m bytes is left over = absurd (no_more is)
  where
    no_more : End ≡ More → ⊥
    no_more e = cc
rest_left (Closes v) w (Fault status) m bytes is left over = nothing_more w m bytes over
rest_left (Does a rest) w (Fault status) m bytes is left over = absurd (no_more is)
  where
    no_more : Fault status ≡ More → ⊥
    no_more e = cc

-- one step
first_fetched : (c : Course) (w : Walk) (result : WalkState) (m m' : Memory) (bytes bytes' r r' : List ℕ) → DoesFirst c Source m m' bytes bytes' r r' → LeavesRest c result (course m w)
    → is_over w ≡ not (is_more result) → (m' ≡ m) × (fetched m (course m w) bytes' ≡ fetched m c bytes)
first_fetched (Closes v) w result m m' bytes bytes' r r' does leaves over = absurd does
first_fetched (Does Stays rest) w result m m' bytes bytes' r r' ((same, kept), reached) (is, left) over =
    (same, rest_left rest w result m bytes' is left over ∙ ap (λ (b : List ℕ). fetched m rest b) kept)
first_fetched (Does (Reads place) rest) w result m m' bytes bytes' r r' ((same, kept), reached) (is, left) over =
    (same, rest_left rest w result m bytes' is left over ∙ ap (λ (b : List ℕ). fetched m rest b) kept)
first_fetched (Does (Moves place n offset) rest) w result m m' bytes bytes' r r' (((found, there, put), same), reached) (is, left) over =
    (same, rest_left rest w result m bytes' is left over ∙ ap (λ (b : List ℕ). fetched m rest b) (put ∙ sym (ap (put_over bytes offset n) there)))

pub step_fetches : (w w' : Walk) (result : WalkState) (m m' : Memory) (bytes bytes' r r' : List ℕ) → DoesFirst (course m w) (direction_of w) m m' bytes bytes' r r'
    → LeavesRest (course m w) result (course m w') → is_over w' ≡ not (is_more result) → Fetches w w' m m' bytes bytes'
step_fetches w w' result m m' bytes bytes' r r' does leaves over source =
    first_fetched (course m w) w' result m m' bytes bytes' r r' (subst (λ (d : Direction). DoesFirst (course m w) d m m' bytes bytes' r r') source does) leaves over

pub fetches_none : (w : Walk) (m : Memory) (bytes : List ℕ) → Fetches w w m m bytes bytes
fetches_none w m bytes source = (refl, refl)

-- and then another
pub fetches_on : (begun w w' : Walk) (m now now' : Memory) (bytes mid bytes' : List ℕ) → direction_of w ≡ direction_of begun → Fetches begun w m now bytes mid → Fetches w w' now now' mid bytes'
    → Fetches begun w' m now' bytes bytes'
fetches_on begun w w' m now now' bytes mid bytes' way first second source =
    let (same, so_far) = first source in
    let (same', more) = second (way ∙ source) in
    (same' ∙ same, subst (λ (x : Memory). fetched x (course x w') bytes' ≡ fetched x (course x w) mid) same more ∙ so_far)

-- the bytes of a walk that is over
pub all_fetched : (begun w : Walk) (m now : Memory) (bytes bytes' : List ℕ) → Fetches begun w m now bytes bytes' → is_over w ≡ true → direction_of begun ≡ Source → bytes' ≡ fetched m (course m begun) bytes
all_fetched begun w m now bytes bytes' fetches is source = sym (nothing_more w m bytes' is) ∙ (fetches source).1

-- the controller has no admin command by an I/O opcode
no_admin : (opcode : ℕ) (command : AdminCommand) → kind_of_opcode opcode ≡ Some (Admin command) → ⊥
no_admin opcode command is = grind arith

-- what is no Read fetches its bytes
pub fetching : (e : SubEntry) (kind : Kind) → kind_of_opcode e.opcode ≡ Some kind → kind ≢ Read → direction_of_entry e ≡ Source
fetching e Read is other = absurd (other refl)
fetching e Write is other = ap direction_by is
fetching e Compare is other = ap direction_by is
fetching e WriteZeroes is other = ap direction_by is
fetching e Verify is other = ap direction_by is
fetching e Flush is other = ap direction_by is
fetching e Deallocate is other = ap direction_by is
fetching e (Admin command) is other = absurd (no_admin e.opcode command is)

-- How a command ends depends on its bytes only where it is a Compare.
pub judged : (stored : List ℕ) (e : SubEntry) (kind : Kind) (bytes other : List ℕ) (why : Option WalkFault) → kind_of_opcode e.opcode ≡ Some kind → (kind ≢ Read → bytes ≡ other)
    → ends_with stored e bytes why ≡ ends_with stored e other why
judged stored e kind bytes other (Some fault) is same = refl
judged stored e Read bytes other None is same = rw is refl
judged stored e Write bytes other None is same = rw is refl
judged stored e WriteZeroes bytes other None is same = rw is refl
judged stored e Verify bytes other None is same = rw is refl
judged stored e Flush bytes other None is same = rw is refl
judged stored e Deallocate bytes other None is same = rw is refl
judged stored e (Admin command) bytes other None is same = absurd (no_admin e.opcode command is)
judged stored e Compare bytes other None is same = ap (λ (b : List ℕ). ends_with stored e b None) (same no_read)
  where
    no_read : Compare ≢ Read
    no_read e = cc
