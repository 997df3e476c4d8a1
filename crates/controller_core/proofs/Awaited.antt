-- Which command an Abort waits for, and what a fetch keeps of that.
use Rattle.controller_core.specs.declared.refusal.ControllerRefusal.TheVariants as refusal
use Rattle.controller_core.proofs.Lists.{length-change, change_at, count-cons, one, all_set}
use Rattle.controller_core.proofs.Rows.{named, some_name, cid_of}
use Rattle.controller_core.specs.Posting.{completion_by, memory_posted, page_posted, with_posted, post_refusal_at}
use Rattle.controller_core.specs.Completing.{without_command, command_refusal, complete_refusal, is_abort_of, waits_among}
use Rattle.controller_core.specs.Contents.{change, Contents, IsController, AreCommands, FitsCommand, FitsWork, is_command, entry_of_work, FetchedCommand, AreAwaited, IsNamedBy, entry_of, FitsVerdict as ContentsFitsVerdict}
use Rattle.controller_core.specs.{Fetching.{IsBegun, PostsConflict, LooksAt, begun, live_side}}
use Rattle.controller_core.specs.{Looks.name_at, Managing.{with_taken, command_of}, declared.command.FetchedWork.TheVariants.{Io}}
use Rattle.controller_core.specs.declared.{queue.ControllerQueue.ControllerQueue, refusal.ControllerRefusal.ControllerRefusal}
use Rattle.std.proofs.Common.{◌≡◌, ℕ, ◌<◌, ◌==◌, ◌&&◌, ◌++◌, ◌∷◌, [], not, Bool, true, false, Option, Some, Result, Ok, Err, cond, List, length, find, slice_set, get_or, if◌then◌else◌, refl, ap, ap₂, sym, ◌∙◌, arith, subst, eqb-true, true≢false, None, zero, suc, ◌||◌, IfSome, map, slice_get, inl, inr, ◌+◌, nat_lt, is_none, is_some}
use Rattle.std.{proofs.lemmas.{Bool.{and_parts, cases_Bool, or_parts, Decides.nat_tests}, Option.{none-some, slice_get_read}}, specs.{Borrow.Bor, List.{AllByRecursion, list_any, count_by}}}
use Rattle.std.specs.{Option.{option_map, option_map_or, option_copied}, Result.{OnOk, OnErr}}
use Rattle.admin_commands.specs.Entries.{named_queue, named_command}
use Rattle.block_image.specs.Blocks.{block_count}
use Rattle.io_commands.specs.{Jobs.{kind_of_opcode, first_block, block_number, JobContents, io_fault}}
use Rattle.entry_codec.specs.declared.status.TheConstants.Status.{INVALID_OPCODE, INVALID_NAMESPACE, INVALID_FIELD, LBA_OUT_OF_RANGE, COMMAND_ID_CONFLICT}
use Rattle.entry_codec.specs.declared.submission.SubEntry.{SubEntry}
use Rattle.page_memory.{proofs.Lists.{some_is, all-append, all-at}, specs.Memory.{Memory}}
use Rattle.slot_table.proofs.Rows.{none_is}
use Rattle.queue_pair.specs.Rings.{ControllerSide}

-- Where an Abort waits for a command, it is there, and names that command.

abbrev pub Awaits : List FetchedCommand → FetchedCommand → Type 0
Awaits commands k = IfSome k.waiting_abort (IsNamedBy commands k)

-- the same name, the same entry, and the same Abort
abbrev pub IsAlike : FetchedCommand → FetchedCommand → Type 0
IsAlike k k' = (k'.q ≡ k.q) × (entry_of_work k'.work ≡ entry_of_work k.work)

-- the entries of these commands are there
abbrev pub Keeps : List FetchedCommand → List FetchedCommand → Type 0
Keeps commands commands' = (cid : ℕ) (e : SubEntry) → entry_of commands 0 cid ≡ Some e → entry_of commands' 0 cid ≡ Some e

named_alike : (q cid : ℕ) (k k' : FetchedCommand) → IsAlike k k' → is_command q cid k' ≡ is_command q cid k
named_alike q cid k k' alike = ap₂ (λ (r : ℕ) (e : SubEntry). (r == q) && (e.cid == cid)) alike.0 alike.1

awaits_by : (commands commands' : List FetchedCommand) (k k' : FetchedCommand) (o : Option ℕ) → IsAlike k k' → Keeps commands commands' → IfSome o (IsNamedBy commands k) → IfSome o (IsNamedBy commands' k')
awaits_by commands commands' k k' None alike keeps is = tt
awaits_by commands commands' k k' (Some abort) alike keeps is =
    record { entry = is.entry; there = keeps abort is.entry is.there; names = named_alike (named_queue is.entry) (named_command is.entry) k k' alike ∙ is.names }

-- a command that is kept as it was, but for what its walk does and how it ends
pub awaits_alike : (commands commands' : List FetchedCommand) (k k' : FetchedCommand) → k'.waiting_abort ≡ k.waiting_abort → IsAlike k k' → Keeps commands commands' → Awaits commands k → Awaits commands' k'
awaits_alike commands commands' k k' same alike keeps is =
    subst (λ (o : Option ℕ). IfSome o (IsNamedBy commands' k')) (sym same) (awaits_by commands commands' k k' k.waiting_abort alike keeps is)

all_awaited : (commands commands' xs : List FetchedCommand) → Keeps commands commands' → AllByRecursion (Awaits commands) xs → AllByRecursion (Awaits commands') xs
all_awaited commands commands' [] keeps all = tt
all_awaited commands commands' (x ∷ xs) keeps all = (awaits_alike commands commands' x x refl (refl, refl) keeps all.0, all_awaited commands commands' xs keeps all.1)

-- A command more

keeps_more : (commands : List FetchedCommand) (k : FetchedCommand) → Keeps commands (commands ++ k ∷ [])
keeps_more [] k cid e h = absurd (none-some e h)
keeps_more (x ∷ xs) k cid e h = elim (cases_Bool (is_command 0 cid x)) [
  | inl own ↦ rw own (rw own at h)
  | inr other ↦ rw other (keeps_more xs k cid e (rw other at h))
]

pub awaited_more : (commands : List FetchedCommand) (k : FetchedCommand) → AreAwaited commands → k.waiting_abort ≡ None → AreAwaited (commands ++ k ∷ [])
awaited_more commands k are none =
    all-append (Awaits (commands ++ k ∷ [])) commands k (all_awaited commands (commands ++ k ∷ []) commands (keeps_more commands k) are)
    (subst (λ (o : Option ℕ). IfSome o (IsNamedBy (commands ++ k ∷ []) k)) (sym none) tt)

-- An Abort and the command that it stops

entry_map : (f : FetchedCommand → FetchedCommand) → ((k : FetchedCommand) → IsAlike k (f k)) → (commands : List FetchedCommand) (q cid : ℕ) → entry_of (map f commands) q cid ≡ entry_of commands q cid
entry_map f alike [] q cid = refl
entry_map f alike (x ∷ xs) q cid =
    rw (named_alike q cid x (f x) (alike x)) (elim (cases_Bool (is_command q cid x)) [
      | inl own ↦ rw own (ap (λ (e : SubEntry). Some e) (alike x).1)
      | inr other ↦ rw other (entry_map f alike xs q cid)
    ])

pub none_mapped : (f : FetchedCommand → FetchedCommand) → ((k : FetchedCommand) → IsAlike k (f k)) → (commands : List FetchedCommand) (q cid : ℕ) → find (is_command q cid) commands ≡ None → find (is_command q cid) (map f commands) ≡ None
none_mapped f alike [] q cid none = refl
none_mapped f alike (x ∷ xs) q cid none = elim (cases_Bool (is_command q cid x)) [
  | inl h ↦ absurd (none-some x (sym (rw h at none)))
  | inr h ↦ rw (named_alike q cid x (f x) (alike x), h) (none_mapped f alike xs q cid (rw h at none))
]

-- what is found after others
found_last : (commands : List FetchedCommand) (k : FetchedCommand) (q cid : ℕ) → find (is_command q cid) commands ≡ None → is_command q cid k ≡ true → entry_of (commands ++ k ∷ []) q cid ≡ Some (entry_of_work k.work)
found_last [] k q cid none own = rw own refl
found_last (x ∷ xs) k q cid none own = elim (cases_Bool (is_command q cid x)) [
  | inl h ↦ absurd (none-some x (sym (rw h at none)))
  | inr h ↦ rw h (found_last xs k q cid (rw h at none) own)
]

-- A change of all commands that leaves names and entries, and whose new waits are named by a command that is put after them
pub awaited_changed : (f : FetchedCommand → FetchedCommand) (commands : List FetchedCommand) (own : FetchedCommand) → ((k : FetchedCommand) → IsAlike k (f k))
    → ((k : FetchedCommand) → Awaits (map f commands ++ own ∷ []) k → Awaits (map f commands ++ own ∷ []) (f k)) → own.waiting_abort ≡ None → AreAwaited commands → AreAwaited (map f commands ++ own ∷ [])
awaited_changed f commands own alike changes none are =
    all-append (Awaits after) (map f commands) own (along_commands commands (all_awaited commands after commands keeps are)) (subst (λ (o : Option ℕ). IfSome o (IsNamedBy after own)) (sym none) tt)
  where
    after : List FetchedCommand
    after = map f commands ++ own ∷ []

    keeps : Keeps commands after
    keeps cid e h = keeps_more (map f commands) own cid e (entry_map f alike commands 0 cid ∙ h)

    along_commands : (xs : List FetchedCommand) → AllByRecursion (Awaits after) xs → AllByRecursion (Awaits after) (map f xs)
    along_commands [] all = tt
    along_commands (x ∷ xs) all = (changes x all.0, along_commands xs all.1)

pub named_last : (commands : List FetchedCommand) (own k : FetchedCommand) (cid : ℕ) → find (is_command 0 cid) commands ≡ None → is_command 0 cid own ≡ true
    → is_command (named_queue (entry_of_work own.work)) (named_command (entry_of_work own.work)) k ≡ true → IsNamedBy (commands ++ own ∷ []) k cid
named_last commands own k cid none is names = record { entry = entry_of_work own.work; there = found_last commands own 0 cid none is; names = names }

-- A walk

entry_set : (commands : List FetchedCommand) (i q cid : ℕ) (x y : FetchedCommand) → slice_get commands i ≡ Some x → IsAlike x y → entry_of (slice_set commands i y) q cid ≡ entry_of commands q cid
entry_set [] i q cid x y at alike = refl
entry_set (z ∷ xs) zero q cid x y at alike =
    let same : z ≡ x = some_is at in
    rw (named_alike q cid x y alike ∙ ap (is_command q cid) (sym same)) (elim (cases_Bool (is_command q cid z)) [
      | inl own ↦ rw own (ap (λ (e : SubEntry). Some e) (alike.1 ∙ ap (λ (k : FetchedCommand). entry_of_work k.work) (sym same)))
      | inr other ↦ rw other refl
    ])
entry_set (z ∷ xs) (suc i) q cid x y at alike = elim (cases_Bool (is_command q cid z)) [
  | inl own ↦ rw own refl
  | inr other ↦ rw other (entry_set xs i q cid x y at alike)
]

pub awaited_set : (commands : List FetchedCommand) (i : ℕ) (x y : FetchedCommand) → slice_get commands i ≡ Some x → IsAlike x y → y.waiting_abort ≡ x.waiting_abort → AreAwaited commands → AreAwaited (slice_set commands i y)
awaited_set commands i x y at alike same are =
    let after : List FetchedCommand = slice_set commands i y in
    let keeps : Keeps commands after = λ cid e h. entry_set commands i 0 cid x y at alike ∙ h in
    all_set (Awaits after) commands i y (all_awaited commands after commands keeps are) (awaits_alike commands after x y same alike keeps (all-at (Awaits commands) commands i x at are))

-- A completion

-- no command that is left waits for what is taken out
abbrev IsLet : ℕ → ℕ → FetchedCommand → Type 0
IsLet q cid k = IfSome k.waiting_abort (λ abort. (x : FetchedCommand) → is_command 0 abort x ≡ true → is_command q cid x ≡ false)

found_let : (commands : List FetchedCommand) (q cid abort : ℕ) → ((x : FetchedCommand) → is_command 0 abort x ≡ true → is_command q cid x ≡ false) → find (is_command 0 abort) (without_command q cid commands) ≡ find (is_command 0 abort) commands
found_let [] q cid abort apart = refl
found_let (x ∷ xs) q cid abort apart = by_names (is_command 0 abort x) refl (is_command q cid x) refl (found_let xs q cid abort apart)
  where
    by_names : (a : Bool) → is_command 0 abort x ≡ a → (b : Bool) → is_command q cid x ≡ b → find (is_command 0 abort) (without_command q cid xs) ≡ find (is_command 0 abort) xs
        → find (is_command 0 abort) (cond (not b) (x ∷ without_command q cid xs) (without_command q cid xs)) ≡ cond a (Some x) (find (is_command 0 abort) xs)
    by_names true h true h' rest = absurd (true≢false (sym h' ∙ apart x h))
    by_names true h false h' rest = ap (λ (b : Bool). cond b (Some x) (find (is_command 0 abort) (without_command q cid xs))) h
    by_names false h true h' rest = rest
    by_names false h false h' rest = ap (λ (b : Bool). cond b (Some x) (find (is_command 0 abort) (without_command q cid xs))) h ∙ rest

let_by : (commands : List FetchedCommand) (q cid : ℕ) (k : FetchedCommand) (o : Option ℕ) → IfSome o (λ abort. (x : FetchedCommand) → is_command 0 abort x ≡ true → is_command q cid x ≡ false)
    → IfSome o (IsNamedBy commands k) → IfSome o (IsNamedBy (without_command q cid commands) k)
let_by commands q cid k None lets is = tt
let_by commands q cid k (Some abort) lets is =
    record { entry = is.entry; there = ap (option_map (λ k. entry_of_work k.work)) (found_let commands q cid abort lets) ∙ is.there; names = is.names }

all_let : (commands xs : List FetchedCommand) (q cid : ℕ) → AllByRecursion (IsLet q cid) xs → AllByRecursion (Awaits commands) xs → AllByRecursion (Awaits (without_command q cid commands)) (without_command q cid xs)
all_let commands [] q cid lets all = tt
all_let commands (x ∷ xs) q cid lets all =
    let rest = all_let commands xs q cid lets.1 all.1 in
    elim (is_command q cid x) as (λ b. AllByRecursion (Awaits (without_command q cid commands)) (cond (not b) (x ∷ without_command q cid xs) (without_command q cid xs))) [
      | true ↦ rest
      | false ↦ (let_by commands q cid x x.waiting_abort lets.0 all.0, rest)
    ]

other_queue : (q cid abort : ℕ) → (q == 0) ≡ false → (x : FetchedCommand) → is_command 0 abort x ≡ true → is_command q cid x ≡ false
other_queue q cid abort io x own = grind (arith, nat_tests, io, own)

other_abort : (q cid abort : ℕ) → (abort == cid) ≡ false → (x : FetchedCommand) → is_command 0 abort x ≡ true → is_command q cid x ≡ false
other_abort q cid abort other x own = grind (arith, nat_tests, other, own)

lets_io : (commands : List FetchedCommand) (q cid : ℕ) → (q == 0) ≡ false → AllByRecursion (IsLet q cid) commands
lets_io [] q cid io = tt
lets_io (x ∷ xs) q cid io = (by_abort x.waiting_abort, lets_io xs q cid io)
  where
    by_abort : (o : Option ℕ) → IfSome o (λ abort. (y : FetchedCommand) → is_command 0 abort y ≡ true → is_command q cid y ≡ false)
    by_abort None = tt
    by_abort (Some abort) = other_queue q cid abort io

lets_none : (commands : List FetchedCommand) (q cid : ℕ) → list_any (λ k. is_abort_of cid k.waiting_abort) commands ≡ false → AllByRecursion (IsLet q cid) commands
lets_none [] q cid none = tt
lets_none (x ∷ xs) q cid none =
    let both = or_parts (is_abort_of cid x.waiting_abort) (list_any (λ k. is_abort_of cid k.waiting_abort) xs) none in
    (by_abort x.waiting_abort both.0, lets_none xs q cid both.1)
  where
    by_abort : (o : Option ℕ) → is_abort_of cid o ≡ false → IfSome o (λ abort. (y : FetchedCommand) → is_command 0 abort y ≡ true → is_command q cid y ≡ false)
    by_abort None h = tt
    by_abort (Some abort) h = other_abort q cid abort h

pub awaited_without : (commands : List FetchedCommand) (q cid : ℕ) → ((q == 0) ≡ true → list_any (λ k. is_abort_of cid k.waiting_abort) commands ≡ false) → AreAwaited commands → AreAwaited (without_command q cid commands)
awaited_without commands q cid none are =
    elim (cases_Bool (q == 0)) [
      | inl zeroth ↦ all_let commands commands q cid (lets_none commands q cid (none zeroth)) are
      | inr io ↦ all_let commands commands q cid (lets_io commands q cid io) are
    ]

-- What completes is not awaited

waits_no : (commands : List FetchedCommand) (k : FetchedCommand) → waits_among commands k ≡ false → (k.q == 0) ≡ true → list_any (λ other. is_abort_of (cid_of k) other.waiting_abort) commands ≡ false
waits_no commands k alone zeroth = (or_parts _ _ (rw zeroth at alone)).0

pub completes_alone : (c : Contents) (m : Memory) (q cid : ℕ) → complete_refusal c m q cid ≡ None → (q == 0) ≡ true → list_any (λ k. is_abort_of cid k.waiting_abort) c.commands ≡ false
completes_alone c m q cid ready zeroth = by_command (find (is_command q cid) c.commands) refl ready
  where
    waits : (k : FetchedCommand) (b : Bool) → waits_among c.commands k ≡ b → (if b then Some refusal.Waits else post_refusal_at c.queues m q) ≡ None → waits_among c.commands k ≡ false
    waits k true h ready = absurd (none-some refusal.Waits (sym ready))
    waits k false h ready = h

    walked : (k : FetchedCommand) (b : Bool) → (if b then Some refusal.Walking else if waits_among c.commands k then Some refusal.Waits else post_refusal_at c.queues m q) ≡ None → waits_among c.commands k ≡ false
    walked k true ready = absurd (none-some refusal.Walking (sym ready))
    walked k false ready = waits k (waits_among c.commands k) refl ready

    by_command : (o : Option FetchedCommand) → find (is_command q cid) c.commands ≡ o → option_map_or (command_refusal c m q) o (Some refusal.NoJob) ≡ None → list_any (λ k. is_abort_of cid k.waiting_abort) c.commands ≡ false
    by_command None found ready = absurd (none-some refusal.NoJob (sym ready))
    by_command (Some k) found ready =
        let is = named q cid c.commands k found in
        subst (λ (d : ℕ). list_any (λ k. is_abort_of d k.waiting_abort) c.commands ≡ false) is.1
        (waits_no c.commands k (walked k _ ready) (ap (λ (r : ℕ). r == 0) is.0 ∙ zeroth))

-- An Abort is awaited just if the command that it names waits for it

record IsAny (f : FetchedCommand → Bool) (commands : List FetchedCommand) : Type 0 where
  pub place : ℕ
  pub command : FetchedCommand
  pub at : slice_get commands place ≡ Some command
  pub passes : f command ≡ true

some_any : (f : FetchedCommand → Bool) (commands : List FetchedCommand) → list_any f commands ≡ true → IsAny f commands
some_any f [] any = absurd (true≢false (sym any))
some_any f (x ∷ xs) any = elim (cases_Bool (f x)) [
  | inl h ↦ record { place = 0; command = x; at = refl; passes = h }
  | inr h ↦ let later = some_any f xs (rw h at any) in record { place = suc later.place; command = later.command; at = later.at; passes = later.passes }
]

none_found_awaited : (f p : FetchedCommand → Bool) (commands : List FetchedCommand) → list_any f commands ≡ false → option_map_or f (find p commands) false ≡ false
none_found_awaited f p [] none = refl
none_found_awaited f p (x ∷ xs) none =
    let both = or_parts (f x) (list_any f xs) none in
    let rest = none_found_awaited f p xs both.1 in
    elim (p x) as (λ b. option_map_or f (cond b (Some x) (find p xs)) false ≡ false) [ true ↦ both.0 | false ↦ rest ]

names_by : (commands : List FetchedCommand) (e : SubEntry) (k : FetchedCommand) (o : Option ℕ) → entry_of commands 0 e.cid ≡ Some e → IfSome o (IsNamedBy commands k) → is_abort_of e.cid o ≡ true → is_command (named_queue e) (named_command e) k ≡ true
names_by commands e k None there is own = absurd (true≢false (sym own))
names_by commands e k (Some abort) there is own =
    let cid : abort ≡ e.cid = eqb-true abort e.cid own in
    let same : is.entry ≡ e = some_is (sym is.there ∙ ap (entry_of commands 0) cid ∙ there) in
    subst (λ (x : SubEntry). is_command (named_queue x) (named_command x) k ≡ true) same is.names

name_of : (commands : List FetchedCommand) (n q cid : ℕ) (k : FetchedCommand) → slice_get commands n ≡ Some k → is_command q cid k ≡ true → name_at commands n ≡ some_name q cid
name_of commands n q cid k at own =
    let both = and_parts (k.q == q) (cid_of k == cid) own in
    ap (option_map (λ k. (k.q, cid_of k))) at ∙ ap₂ some_name (eqb-true k.q q both.0) (eqb-true (cid_of k) cid both.1)

pub awaited_is : (commands : List FetchedCommand) (e : SubEntry) (o : Option FetchedCommand) → entry_of commands 0 e.cid ≡ Some e → AreAwaited commands
    → o ≡ find (is_command (named_queue e) (named_command e)) commands → ((n : ℕ) → name_at commands n ≡ some_name (named_queue e) (named_command e) → o ≡ slice_get commands n)
    → option_map_or (λ k. is_abort_of e.cid k.waiting_abort) o false ≡ list_any (λ k. is_abort_of e.cid k.waiting_abort) commands
awaited_is commands e o there are found alone = by_presence (list_any test commands) refl
  where
    test : FetchedCommand → Bool
    test k = is_abort_of e.cid k.waiting_abort

    by_presence : (b : Bool) → list_any test commands ≡ b → option_map_or test o false ≡ b
    by_presence true any =
        let is = some_any test commands any in
        let names = names_by commands e is.command is.command.waiting_abort there (all-at (Awaits commands) commands is.place is.command is.at are) is.passes in
        ap (λ (x : Option FetchedCommand). option_map_or test x false) (alone is.place (name_of commands is.place _ _ is.command is.at names) ∙ is.at) ∙ is.passes
    by_presence false none =
        ap (λ (x : Option FetchedCommand). option_map_or test x false) found ∙ none_found_awaited test (is_command (named_queue e) (named_command e)) commands none

-- the same of what was looked up
pub awaited_of : (commands : List FetchedCommand) (e : SubEntry) (q cid : ℕ) (found o : Option FetchedCommand) → q ≡ named_queue e → cid ≡ named_command e → found ≡ o → entry_of commands 0 e.cid ≡ Some e → AreAwaited commands
    → found ≡ find (is_command q cid) commands → ((n : ℕ) → name_at commands n ≡ some_name q cid → found ≡ slice_get commands n)
    → option_map_or (λ k. is_abort_of e.cid k.waiting_abort) o false ≡ list_any (λ k. is_abort_of e.cid k.waiting_abort) commands
awaited_of commands e q cid found o eq ec same there are is alone =
    awaited_is commands e o there are (sym same ∙ is ∙ ap₂ (λ (q cid : ℕ). find (is_command q cid) commands) eq ec)
    (λ n at. sym same ∙ alone n (at ∙ sym (ap₂ some_name eq ec)))

-- What a fetch keeps, and what it makes of what it looked at.

-- Commands that are counted

pub count-more : {A : Type 0} (p : A → Bool) (xs : List A) (y : A) → count_by p (xs ++ y ∷ []) ≡ count_by p xs + one (p y)
count-more p [] y = omega (arith, count-cons p y [])
count-more p (x ∷ xs) y = omega (arith, count-cons p x xs, count-cons p x (xs ++ y ∷ []), count-more p xs y)

pub none_found : {A : Type 0} (p : A → Bool) (xs : List A) → find p xs ≡ None → count_by p xs ≡ 0
none_found p [] e = refl
none_found p (x ∷ xs) e = elim (cases_Bool (p x)) [
  | inl h ↦ absurd (none-some x (sym (rw h at e)))
  | inr h ↦ omega (arith, count-cons p x xs, ap one h, none_found p xs (rw h at e))
]

-- One command more

pub commands-with : (blocks queues : ℕ) (commands : List FetchedCommand) (k : FetchedCommand) → AreCommands blocks queues commands → k.q < queues → FitsWork blocks k.q k.units_done k.work
    → count_by (is_command k.q (entry_of_work k.work).cid) commands ≡ 0 → AreCommands blocks queues (commands ++ k ∷ [])
commands-with blocks queues commands k are there fits none = record {
  each = all-append (FitsCommand blocks queues) commands k are.each (there, fits);
  differ = λ r d. by_name r d (is_command r d k) refl;
}
  where
    by_name : (r d : ℕ) (b : Bool) → is_command r d k ≡ b → count_by (is_command r d) (commands ++ k ∷ []) < 2
    by_name r d true h =
        let both = and_parts (k.q == r) ((entry_of_work k.work).cid == d) h in
        let own : count_by (is_command r d) commands ≡ 0 =
        subst (λ (x : ℕ). count_by (is_command x d) commands ≡ 0) (eqb-true k.q r both.0)
        (subst (λ (x : ℕ). count_by (is_command k.q x) commands ≡ 0) (eqb-true (entry_of_work k.work).cid d both.1) none) in
        omega (arith, count-more (is_command r d) commands k, ap one h, own)
    by_name r d false h = omega (arith, count-more (is_command r d) commands k, ap one h, are.differ r d)

pub fault_fits : (blocks : ℕ) (e : SubEntry) → ContentsFitsVerdict (io_fault blocks e)
fault_fits blocks e = by (is_none (kind_of_opcode e.opcode)) (not (e.nsid == 1)) (not (e.fuse == 0) || not (e.psdt == 1)) (nat_lt 2048 (block_number e)) (nat_lt blocks (first_block e + block_number e))
  where
    by : (a b c d f : Bool) → ContentsFitsVerdict (if a then Some INVALID_OPCODE else if b then Some INVALID_NAMESPACE else if c then Some INVALID_FIELD else if d then Some INVALID_FIELD else if f then Some LBA_OUT_OF_RANGE else None)
    by true b c d f = omega arith
    by false true c d f = omega arith
    by false false true d f = omega arith
    by false false false true f = omega arith
    by false false false false true = omega arith
    by false false false false false = tt

-- a job that is begun over as many blocks fits
pub begun_fits : (image : List ℕ) (blocks q : ℕ) (e : SubEntry) (job : JobContents) → IsBegun image e job → block_count image ≡ blocks → (q == 0) ≡ false → FitsWork blocks q 0 (Io job)
begun_fits image blocks q e job begun same io =
    (io, begun.blocks ∙ same, subst ContentsFitsVerdict (sym begun.verdict) (fault_fits (block_count image) e), omega (arith, begun.left))

pub begun_kept : (c : Contents) (q : ℕ) (job : JobContents) (queues : List ControllerQueue) (commands : List FetchedCommand) → IsController c → q < length c.queues → is_some (find (is_command q job.entry.cid) c.commands) ≡ false
    → FitsWork (block_count c.image) q 0 (Io job) → queues ≡ change q with_taken c.queues → commands ≡ c.commands ++ command_of q (Io job) ∷ [] → IsController (record { queues = queues; commands = commands; image = c.image })
begun_kept c q job queues commands is there free fits eq ec =
    record {
      commands =
          subst (λ (n : ℕ). AreCommands (block_count c.image) n commands) (sym (ap length eq ∙ length-change q with_taken c.queues))
          (subst (AreCommands (block_count c.image) (length c.queues)) (sym ec)
          (commands-with (block_count c.image) (length c.queues) c.commands (command_of q (Io job)) is.commands there fits
          (none_found (is_command q job.entry.cid) c.commands (none_is (find (is_command q job.entry.cid) c.commands) free))));
      awaited = subst AreAwaited (sym ec) (awaited_more c.commands (command_of q (Io job)) is.awaited refl);
    }

pub begun_in : (v c : Contents) (q : ℕ) (job : JobContents) (k : FetchedCommand) (queues : List ControllerQueue) (before commands : List FetchedCommand) → v ≡ c → IsController v → q < length c.queues → is_some (find (is_command q job.entry.cid) c.commands) ≡ false
    → FitsWork (block_count c.image) q 0 (Io job) → queues ≡ change q with_taken v.queues → before ≡ v.commands → k ≡ command_of q (Io job) → commands ≡ before ++ k ∷ [] → IsController (record { queues = queues; commands = commands; image = v.image })
begun_in v c q job k queues before commands same is there free fits eq eb ek ec =
    begun_kept v q job queues commands is (subst (λ (x : Contents). q < length x.queues) (sym same) there) (subst (λ (x : Contents). is_some (find (is_command q job.entry.cid) x.commands) ≡ false) (sym same) free)
    (subst (λ (x : Contents). FitsWork (block_count x.image) q 0 (Io job)) (sym same) fits) eq (ec ∙ ap₂ (λ (xs : List FetchedCommand) (x : FetchedCommand). xs ++ x ∷ []) eb ek)

pub begun_unknown : (commands : List FetchedCommand) (q : ℕ) (e : SubEntry) (job : JobContents) (k : FetchedCommand) → job.entry ≡ e → k ≡ command_of q (Io job) → is_some (find (is_command q e.cid) commands) ≡ false
    → is_some (find (is_command k.q (entry_of_work k.work).cid) commands) ≡ false
begun_unknown commands q e job k ee ek free =
    subst (λ (x : FetchedCommand). is_some (find (is_command x.q (entry_of_work x.work).cid) commands) ≡ false) (sym ek)
    (subst (λ (x : SubEntry). is_some (find (is_command q x.cid) commands) ≡ false) (sym ee) free)

-- what holds anyhow holds where a call was refused
pub on_err : {X E : Type 0} {P : Type 0} (r : Result X E) → P → OnErr r P
on_err (Ok x) p = tt
on_err (Err e) p = p

pub count_kept : (c : Contents) (queues : List ControllerQueue) → IsController c → length queues ≡ length c.queues → IsController (record { queues = queues; commands = c.commands; image = c.image })
count_kept c queues is e = record { commands = subst (λ (n : ℕ). AreCommands (block_count c.image) n c.commands) (sym e) is.commands; awaited = is.awaited }

pub posts_conflict : (result : Result (Unit {0}) ControllerRefusal) (queues : List ControllerQueue) (q i cid : ℕ) (m m' : Memory) (reached reached' : List ℕ) (queue queue' : ControllerQueue)
    → i ≡ q → q < length queues → queue ≡ get_or queues i queue → OnOk result (queue' ≡ with_posted (with_taken queue))
    → OnOk result (m' ≡ memory_posted m queue.controller (completion_by q cid COMMAND_ID_CONFLICT 0 (with_taken queue).controller)) → OnOk result (reached' ≡ reached ++ page_posted queue.controller ∷ [])
    → OnOk result (PostsConflict queues q cid m reached (slice_set queues i queue') m' reached')
posts_conflict (Err why) queues q i cid m m' reached reached' queue queue' same there at a b d = tt
posts_conflict (Ok x) queues q i cid m m' reached reached' queue queue' same there at a b d =
    record {
      queue = queue;
      here = slice_get_read queues _ q queue refl there (subst (λ (j : ℕ). queue ≡ get_or queues j queue) same at);
      leaves = change_at q i (λ queue. with_posted (with_taken queue)) queues queue queue' same (omega (arith, same, there)) at a;
      memory = b;
      touches = d;
    }

pub begun_is : (v c c' : Contents) (q : ℕ) (job : JobContents) (k : FetchedCommand) (queues : List ControllerQueue) (before commands : List FetchedCommand) → v ≡ c
    → queues ≡ change q with_taken v.queues → before ≡ v.commands → k ≡ command_of q (Io job) → commands ≡ before ++ k ∷ [] → c' ≡ record { queues = queues; commands = commands; image = v.image } → c' ≡ begun q job c
begun_is v c c' q job k queues before commands same eq eb ek ec is =
    subst (λ (x : Contents). c' ≡ begun q job x) same
    (is ∙ ap₂ (λ (xs : List ControllerQueue) (ys : List FetchedCommand). record { queues = xs; commands = ys; image = v.image }) eq (ec ∙ ap₂ (λ (xs : List FetchedCommand) (x : FetchedCommand). xs ++ x ∷ []) eb ek))

-- An entry whose identifier is unknown

queue_there : (q : ℕ) (queues : List ControllerQueue) (controller : ControllerSide) → live_side (slice_get queues q) ≡ Some controller → q < length queues
queue_there q [] controller e = cc
queue_there zero (x ∷ xs) controller e = omega arith
queue_there (suc q) (x ∷ xs) controller e = omega (arith, queue_there q xs controller e)

pub looked_there : (c : Contents) (m : Memory) (reached : List ℕ) (q : ℕ) (e : SubEntry) (reached' : List ℕ) → LooksAt c m reached q e reached' → q < length c.queues
looked_there c m reached q e reached' looks = queue_there q c.queues looks.controller looks.here

-- whether a look found a command
pub found_by : {X : Type 0} (seen : Option (Bor X)) (o : Option X) → option_copied seen ≡ o → is_some seen ≡ is_some o
found_by None o is = ap is_some is
found_by (Some x) o is = ap is_some is
