-- Fetched commands in a table, as a list, and which of them complete.
use Rattle.controller_core.proofs.Lists.{change-change, length-change, change_at, count-filter}
use Rattle.controller_core.specs.Posting.{completion_by, memory_posted, page_posted, with_posted, Posts}
use Rattle.controller_core.specs.Completing.{CompletesTo, queues_of_end, image_of_end, status_of_end, CanEnd, without_command, without_submission}
use Rattle.controller_core.specs.Contents.{change, Contents, IsController, AreCommands, FitsCommand, FitsWork, is_command, is_deletion, entry_of_work, dw0_of_work, FetchedCommand, FetchedWork}
use Rattle.controller_core.specs.{Doorbells.with_side}
use Rattle.controller_core.specs.{Looks.{name_at}}
use Rattle.controller_core.specs.{Tables.{AreNamed}}
use Rattle.controller_core.specs.declared.{command.FetchedWork.TheVariants.{Io, Admin}, queue.ControllerQueue.ControllerQueue, refusal.ControllerRefusal.ControllerRefusal}
use Rattle.std.proofs.Common.{◌≡◌, ℕ, ◌<◌, ◌==◌, ◌&&◌, ◌++◌, ◌∷◌, [], not, Bool, true, false, Option, Some, Result, Ok, Err, cond, List, length, find, slice_set, get_or, if◌then◌else◌, refl, ap, ap₂, sym, ◌∙◌, arith, subst, eqb-true, true≢false, None, zero, suc, map, slice_get, inl, inr, is_some}
use Rattle.std.proofs.lemmas.{Bool.{and_parts, cases_Bool, eq-eqb}}
use Rattle.std.{proofs.lemmas.{Option.{none-some, slice_get_read}}}
use Rattle.std.specs.{Option.{is_some}, Result.{OnOk}, Str.bytes_eq}
use Rattle.admin_commands.specs.Entries.{named_queue}
use Rattle.block_image.specs.Blocks.{block_count, blocks_at}
use Rattle.io_commands.specs.{Ends.FitsVerdict, Jobs.{status_by, status_after, kind_of_opcode, first_block, block_number}}
use Rattle.io_commands.specs.declared.request.Kind.{Kind, TheVariants.{Compare}}
use Rattle.entry_codec.specs.{Completion.IsComEntry, Status.is_success, declared.status.Status.Status}
use Rattle.entry_codec.specs.declared.status.TheConstants.Status.{SUCCESS, COMPARE_FAILURE}
use Rattle.entry_codec.specs.declared.submission.SubEntry.{SubEntry}
use Rattle.page_memory.{proofs.Lists.{some_is, all-filter, all-found, found_is}, specs.Memory.{Memory}}
use Rattle.queue_pair.specs.Rings.{ControllerSide, completion_posted}
use Rattle.slot_table.proofs.{Rows.none_is, Walks.none_stands}
use Rattle.slot_table.specs.Rows.{Row, is_at, value_at, without, with_value, with_last, first_place, place_behind, NoneAt, IsDistinct}

-- A command that was found ready completes.

-- How a command ends

pub length-end : (work : FetchedWork) (queues : List ControllerQueue) → length (queues_of_end work queues) ≡ length queues
length-end (Io job) queues = refl
length-end (Admin entry status dw0) queues =
    elim (is_deletion entry status) as (λ b. length (if b then change (named_queue entry) without_submission queues else queues) ≡ length queues) [
      | true ↦ length-change (named_queue entry) without_submission queues
      | false ↦ refl
    ]

-- Its name, and its queue

pub named : (q cid : ℕ) (commands : List FetchedCommand) (k : FetchedCommand) → find (is_command q cid) commands ≡ Some k → (k.q ≡ q) × ((entry_of_work k.work).cid ≡ cid)
named q cid commands k found =
    let both = and_parts (k.q == q) ((entry_of_work k.work).cid == cid) (found_is (is_command q cid) commands k found) in
    (eqb-true k.q q both.0, eqb-true (entry_of_work k.work).cid cid both.1)

-- it is found by its own name
pub found_own : (q cid : ℕ) (commands : List FetchedCommand) (k : FetchedCommand) → find (is_command q cid) commands ≡ Some k → find (is_command k.q (entry_of_work k.work).cid) commands ≡ Some k
found_own q cid commands k found =
    let is = named q cid commands k found in
    ap₂ (λ (r d : ℕ). find (is_command r d) commands) is.0 is.1 ∙ found

-- a command that is found stands in a queue that is there
pub record IsFound (c : Contents) (q cid : ℕ) (k : FetchedCommand) : Type 0 where
  pub found : find (is_command q cid) c.commands ≡ Some k
  pub there : q < length c.queues
  pub fits : FitsWork (block_count c.image) q k.units_done k.work

pub is_found : (c : Contents) (q cid : ℕ) (k : FetchedCommand) → IsController c → find (is_command q cid) c.commands ≡ Some k → IsFound c q cid k
is_found c q cid k is found =
    let fits = all-found (FitsCommand (block_count c.image) (length c.queues)) (is_command q cid) c.commands k found is.commands.each in
    let q_is = (named q cid c.commands k found).0 in
    record {
      found = found;
      there = subst (λ (n : ℕ). n < length c.queues) q_is fits.0;
      fits = subst (λ (n : ℕ). FitsWork (block_count c.image) n k.units_done k.work) q_is fits.1;
    }

-- the status of its end fits a completion, and it was checked over the image
status_by_fits : (image : List ℕ) (e : SubEntry) (bytes : List ℕ) (kind : Option Kind) → (status_by image e bytes kind).sct < 8
status_by_fits image e bytes None = omega arith
status_by_fits image e bytes (Some Compare) =
    elim (bytes_eq (blocks_at image (first_block e) (block_number e)) bytes) as (λ b. (if b then SUCCESS else COMPARE_FAILURE).sct < 8) [ true ↦ omega arith | false ↦ omega arith ]
status_by_fits image e bytes (Some v) = omega arith

status_after_fits : (image : List ℕ) (e : SubEntry) (bytes : List ℕ) (verdict : Option Status) → FitsVerdict verdict → (status_after image e bytes verdict).sct < 8
status_after_fits image e bytes None fits = omega arith
status_after_fits image e bytes (Some verdict) fits =
    elim (is_success verdict) as (λ b. (if b then status_by image e bytes (kind_of_opcode e.opcode) else verdict).sct < 8) [
      | true ↦ status_by_fits image e bytes (kind_of_opcode e.opcode)
      | false ↦ fits
    ]

pub end_fits : (image : List ℕ) (blocks q done : ℕ) (work : FetchedWork) → FitsWork blocks q done work → (status_of_end image work).sct < 8
end_fits image blocks q done (Io job) fits = status_after_fits image job.entry job.bytes job.verdict fits.2
end_fits image blocks q done (Admin entry status dw0) fits = fits.1

pub over_fits : (blocks q done : ℕ) (work : FetchedWork) → FitsWork blocks q done work → CanEnd blocks work
over_fits blocks q done (Io job) fits = fits.1
over_fits blocks q done (Admin entry status dw0) fits = tt

-- What it leaves

pub end-posted : (work : FetchedWork) (q : ℕ) (queues : List ControllerQueue) → queues_of_end work (change q with_posted queues) ≡ change q with_posted (queues_of_end work queues)
end-posted (Io job) q queues = refl
end-posted (Admin entry status dw0) q queues = elim (cases_Bool (is_deletion entry status)) [
  | inl deletes ↦ rw deletes (change-change (named_queue entry) q without_submission with_posted (λ queue. refl) queues)
  | inr keeps ↦ rw keeps refl
]

-- what was posted for a command at a place, and what was done for the same command after that
pub finishes : (c : Contents) (m m' : Memory) (q cid : ℕ) (k k' : FetchedCommand) (queues queues' : List ControllerQueue) (commands : List FetchedCommand) (image : List ℕ) (st : Status) (dw0 : ℕ) (reached reached' : List ℕ)
    → IsFound c q cid k → IsFound c q cid k' → st ≡ status_of_end c.image k.work → dw0 ≡ dw0_of_work k.work → Posts c.queues q cid st dw0 m reached queues m' reached'
    → commands ≡ without_command q cid c.commands → queues' ≡ queues_of_end k'.work queues → image ≡ image_of_end c.image k'.work → length image ≡ length c.image → CompletesTo c q cid m reached (record { queues = queues'; commands = commands; image = image }) m' reached'
finishes c m m' q cid k k' queues queues' commands image st dw0 reached reached' f f' es ed posts ec eq ei el =
    let same : k ≡ k' = some_is (sym f.found ∙ f'.found) in
    let by_status : st ≡ status_of_end c.image k'.work = es ∙ ap (λ (x : FetchedCommand). status_of_end c.image x.work) same in
    let by_dw0 : dw0 ≡ dw0_of_work k'.work = ed ∙ ap (λ (x : FetchedCommand). dw0_of_work x.work) same in
    let left : queues' ≡ change q with_posted (queues_of_end k'.work c.queues) = eq ∙ (ap (queues_of_end k'.work) posts.queues_posted ∙ end-posted k'.work q c.queues) in
    record {
      command = k';
      queue = posts.queue;
      found = f'.found;
      here = posts.here;
      leaves = rw (left, ec, ei) refl;
      as_long = el;
      typed = subst IsComEntry (ap₂ (λ (st : Status) (dw0 : ℕ). completion_by q cid st dw0 posts.queue.controller) by_status by_dw0) posts.typed;
      memory = posts.memory ∙ ap₂ (λ (st : Status) (dw0 : ℕ). memory_posted m posts.queue.controller (completion_by q cid st dw0 posts.queue.controller)) by_status by_dw0;
      touches = posts.touches;
    }

pub commands-without : (blocks queues q cid : ℕ) (commands : List FetchedCommand) → AreCommands blocks queues commands → AreCommands blocks queues (without_command q cid commands)
commands-without blocks queues q cid commands are = record {
  each = all-filter (FitsCommand blocks queues) (λ (k : FetchedCommand). not (is_command q cid k)) commands are.each;
  differ = λ r d. let l = count-filter (is_command r d) (λ (k : FetchedCommand). not (is_command q cid k)) commands in let m = are.differ r d in omega arith;
}

-- A completion is posted in a queue that is there.
pub posts_by : (result : Result (Unit {0}) ControllerRefusal) (queues : List ControllerQueue) (q i cid : ℕ) (st : Status) (dw0 : ℕ) (m m' : Memory) (reached reached' : List ℕ) (queue : ControllerQueue) (controller : ControllerSide)
    → i ≡ q → q < length queues → queue ≡ get_or queues i queue → OnOk result (controller ≡ record queue.controller { ring = completion_posted queue.controller.entries queue.controller.ring })
    → OnOk result (IsComEntry (completion_by q cid st dw0 queue.controller)) → OnOk result (m' ≡ memory_posted m queue.controller (completion_by q cid st dw0 queue.controller)) → OnOk result (reached' ≡ reached ++ page_posted queue.controller ∷ [])
    → OnOk result (Posts queues q cid st dw0 m reached (slice_set queues i (with_side controller queue)) m' reached')
posts_by (Err why) queues q i cid st dw0 m m' reached reached' queue controller same there at a t b d = tt
posts_by (Ok x) queues q i cid st dw0 m m' reached reached' queue controller same there at a t b d =
    record {
      queue = queue;
      here = slice_get_read queues _ q queue refl there (subst (λ (k : ℕ). queue ≡ get_or queues k queue) same at);
      queues_posted = change_at q i with_posted queues queue (with_side controller queue) same (omega (arith, same, there)) at (ap (λ (side : ControllerSide). with_side side queue) a);
      typed = t;
      memory = b;
      touches = d;
    }

-- The same of a controller's value and of what is in it

pub finishes_in : (v c c' : Contents) (m m' : Memory) (q cid : ℕ) (k k' : FetchedCommand) (queues queues' : List ControllerQueue) (commands : List FetchedCommand) (image : List ℕ) (st : Status) (dw0 : ℕ) (reached reached' : List ℕ)
    → v ≡ c → IsFound v q cid k → IsFound v q cid k' → st ≡ status_of_end v.image k.work → dw0 ≡ dw0_of_work k.work → Posts v.queues q cid st dw0 m reached queues m' reached'
    → commands ≡ without_command q cid v.commands → queues' ≡ queues_of_end k'.work queues → image ≡ image_of_end v.image k'.work → length image ≡ length v.image → c' ≡ record { queues = queues'; commands = commands; image = image } → CompletesTo c q cid m reached c' m' reached'
finishes_in v c c' m m' q cid k k' queues queues' commands image st dw0 reached reached' e f f' es ed posts ec eq ei el is =
    subst (λ (x : Contents). CompletesTo x q cid m reached c' m' reached') e
    (subst (λ (x : Contents). CompletesTo v q cid m reached x m' reached') (sym is) (finishes v m m' q cid k k' queues queues' commands image st dw0 reached reached' f f' es ed posts ec eq ei el))

-- Fetched commands in a table, as a list.

abbrev pub Rows : Type 0
Rows = List (Row FetchedCommand)

-- the commands of rows
abbrev pub commands_of : Rows → List FetchedCommand
commands_of rows = map (λ row. row.value) rows

-- a name, of a command that is there
abbrev pub some_name : ℕ → ℕ → Option (ℕ × ℕ)
some_name q cid = Some (q, cid)

abbrev pub cid_of : FetchedCommand → ℕ
cid_of k = (entry_of_work k.work).cid

named_is : (q cid : ℕ) (row : Row FetchedCommand) → row.value.q ≡ row.q → cid_of row.value ≡ row.cid → is_command q cid row.value ≡ is_at row q cid
named_is q cid row a b = ap₂ (λ (x y : ℕ). (x == q) && (y == cid)) a b

-- the command of a name is the record of its place
pub found_rows : (rows : Rows) (q cid : ℕ) → AreNamed rows → find (is_command q cid) (commands_of rows) ≡ value_at rows q cid
found_rows [] q cid n = refl
found_rows (row ∷ rows) q cid n =
    ap₂ (λ (b : Bool) (o : Option FetchedCommand). cond b (Some row.value) o) (named_is q cid row n.0 n.1) (found_rows rows q cid n.2)

pub place_is : (row : Row FetchedCommand) (q cid : ℕ) → is_at row q cid ≡ true → (row.q ≡ q) × (row.cid ≡ cid)
place_is row q cid at =
    let both = and_parts (row.q == q) (row.cid == cid) at in
    (eqb-true row.q q both.0, eqb-true row.cid cid both.1)

at_itself : (row : Row FetchedCommand) (q cid : ℕ) → row.q ≡ q → row.cid ≡ cid → is_at row q cid ≡ true
at_itself row q cid a b = rw (eq-eqb row.q q a, eq-eqb row.cid cid b) refl

-- A row more

pub named_put : (rows : Rows) (q cid : ℕ) (k : FetchedCommand) → AreNamed rows → k.q ≡ q → cid_of k ≡ cid → AreNamed (with_last rows q cid k)
named_put [] q cid k n a b = (a, b, tt)
named_put (row ∷ rows) q cid k n a b = (n.0, n.1, named_put rows q cid k n.2 a b)

none_put : (rows : Rows) (q cid q' cid' : ℕ) (k : FetchedCommand) → NoneAt rows q' cid' → is_at (record { q = q; cid = cid; value = k }) q' cid' ≡ false → NoneAt (with_last rows q cid k) q' cid'
none_put [] q cid q' cid' k none other = (other, tt)
none_put (row ∷ rows) q cid q' cid' k none other = (none.0, none_put rows q cid q' cid' k none.1 other)

not_at : (row other : Row FetchedCommand) → is_at row other.q other.cid ≡ false → is_at other row.q row.cid ≡ false
not_at row other apart =
    elim (cases_Bool (is_at other row.q row.cid)) [
      | inl here ↦ (let same = place_is other row.q row.cid here in absurd (true≢false (sym (at_itself row other.q other.cid (sym same.0) (sym same.1)) ∙ apart)))
      | inr other_way ↦ other_way
    ]

pub distinct_put : (rows : Rows) (q cid : ℕ) (k : FetchedCommand) → IsDistinct rows → NoneAt rows q cid → IsDistinct (with_last rows q cid k)
distinct_put [] q cid k d none = (tt, tt)
distinct_put (row ∷ rows) q cid k d none =
    (none_put rows q cid row.q row.cid k d.0 (not_at row (record { q = q; cid = cid; value = k }) none.0), distinct_put rows q cid k d.1 none.1)

pub commands_put : (rows : Rows) (q cid : ℕ) (k : FetchedCommand) → commands_of (with_last rows q cid k) ≡ commands_of rows ++ k ∷ []
commands_put [] q cid k = refl
commands_put (row ∷ rows) q cid k = ap (λ ks. row.value ∷ ks) (commands_put rows q cid k)

pub unknown_place : (rows : Rows) (q cid : ℕ) → AreNamed rows → is_some (find (is_command q cid) (commands_of rows)) ≡ false → value_at rows q cid ≡ None
unknown_place rows q cid n unknown = none_is (value_at rows q cid) (ap is_some (sym (found_rows rows q cid n)) ∙ unknown)

-- A row less

pub named_without : (rows : Rows) (q cid : ℕ) → AreNamed rows → AreNamed (without rows q cid)
named_without [] q cid n = tt
named_without (row ∷ rows) q cid n =
    let rest = named_without rows q cid n.2 in
    elim (is_at row q cid) as (λ b. AreNamed (if b then rows else row ∷ without rows q cid)) [ true ↦ n.2 | false ↦ (n.0, n.1, rest) ]

none_without : (rows : Rows) (q cid q' cid' : ℕ) → NoneAt rows q' cid' → NoneAt (without rows q cid) q' cid'
none_without [] q cid q' cid' none = tt
none_without (row ∷ rows) q cid q' cid' none =
    let rest = none_without rows q cid q' cid' none.1 in
    elim (is_at row q cid) as (λ b. NoneAt (if b then rows else row ∷ without rows q cid) q' cid') [ true ↦ none.1 | false ↦ (none.0, rest) ]

pub distinct_without : (rows : Rows) (q cid : ℕ) → IsDistinct rows → IsDistinct (without rows q cid)
distinct_without [] q cid d = tt
distinct_without (row ∷ rows) q cid d =
    let rest = distinct_without rows q cid d.1 in
    elim (is_at row q cid) as (λ b. IsDistinct (if b then rows else row ∷ without rows q cid)) [ true ↦ d.1 | false ↦ (none_without rows q cid row.q row.cid d.0, rest) ]

kept_apart : (rows : Rows) (q cid : ℕ) → AreNamed rows → NoneAt rows q cid → without_command q cid (commands_of rows) ≡ commands_of rows
kept_apart [] q cid n none = refl
kept_apart (row ∷ rows) q cid n none =
    ap₂ (λ (b : Bool) (ks : List FetchedCommand). cond (not b) (row.value ∷ ks) ks) (named_is q cid row n.0 n.1 ∙ none.0) (kept_apart rows q cid n.2 none.1)

pub commands_without : (rows : Rows) (q cid : ℕ) → AreNamed rows → IsDistinct rows → commands_of (without rows q cid) ≡ without_command q cid (commands_of rows)
commands_without [] q cid n d = refl
commands_without (row ∷ rows) q cid n d =
    elim (cases_Bool (is_at row q cid)) [
      | inl here ↦
          (let same = place_is row q cid here in
          let none : NoneAt rows q cid = subst (λ (x : ℕ). NoneAt rows x cid) same.0 (subst (λ (x : ℕ). NoneAt rows row.q x) same.1 d.0) in
          ap (λ (b : Bool). commands_of (if b then rows else row ∷ without rows q cid)) here
          ∙ sym (ap₂ (λ (b : Bool) (ks : List FetchedCommand). cond (not b) (row.value ∷ ks) ks) (named_is q cid row n.0 n.1 ∙ here) (kept_apart rows q cid n.2 none)))
      | inr other ↦
          ap (λ (b : Bool). commands_of (if b then rows else row ∷ without rows q cid)) other
          ∙ sym (ap₂ (λ (b : Bool) (ks : List FetchedCommand). cond (not b) (row.value ∷ ks) ks) (named_is q cid row n.0 n.1 ∙ other) (sym (commands_without rows q cid n.2 d.1)))
    ]

-- A row that is changed in its place

pub named_with : (rows : Rows) (q cid : ℕ) (k : FetchedCommand) → AreNamed rows → k.q ≡ q → cid_of k ≡ cid → AreNamed (with_value rows q cid k)
named_with [] q cid k n a b = tt
named_with (row ∷ rows) q cid k n a b =
    elim (cases_Bool (is_at row q cid)) [
      | inl here ↦ (let same = place_is row q cid here in rw here (a ∙ sym same.0, b ∙ sym same.1, n.2))
      | inr other ↦ rw other (n.0, n.1, named_with rows q cid k n.2 a b)
    ]

none_with : (rows : Rows) (q cid q' cid' : ℕ) (k : FetchedCommand) → NoneAt rows q' cid' → NoneAt (with_value rows q cid k) q' cid'
none_with [] q cid q' cid' k none = tt
none_with (row ∷ rows) q cid q' cid' k none =
    let rest = none_with rows q cid q' cid' k none.1 in
    elim (is_at row q cid) as (λ b. NoneAt (if b then record row { value = k } ∷ rows else row ∷ with_value rows q cid k) q' cid') [ true ↦ none | false ↦ (none.0, rest) ]

pub distinct_with : (rows : Rows) (q cid : ℕ) (k : FetchedCommand) → IsDistinct rows → IsDistinct (with_value rows q cid k)
distinct_with [] q cid k d = tt
distinct_with (row ∷ rows) q cid k d =
    let rest = distinct_with rows q cid k d.1 in
    elim (is_at row q cid) as (λ b. IsDistinct (if b then record row { value = k } ∷ rows else row ∷ with_value rows q cid k)) [
      | true ↦ d
      | false ↦ (none_with rows q cid row.q row.cid k d.0, rest)
    ]

-- Where a place stands in the order

pub record StandsAt (rows : Rows) (q cid n : ℕ) : Type 0 where
  pub here : FetchedCommand
  pub value : value_at rows q cid ≡ Some here
  pub at : slice_get (commands_of rows) n ≡ Some here
  pub behind : place_behind rows q cid ≡ name_at (commands_of rows) (suc n)
  pub changed : (k : FetchedCommand) → commands_of (with_value rows q cid k) ≡ slice_set (commands_of rows) n k
  pub inside : n < length (commands_of rows)

first_named : (rows : Rows) → AreNamed rows → first_place rows ≡ name_at (commands_of rows) 0
first_named [] n = refl
first_named (row ∷ rows) n = ap₂ some_name (sym n.0) (sym n.1)

stands_first : (row : Row FetchedCommand) (rows : Rows) (q cid : ℕ) → AreNamed (row ∷ rows) → is_at row q cid ≡ true → StandsAt (row ∷ rows) q cid 0
stands_first row rows q cid n here =
    record {
      here = row.value;
      value = rw here refl;
      at = refl;
      behind = rw here (first_named rows n.2);
      changed = λ k. rw here refl;
      inside = omega arith;
    }

stands_later : (row : Row FetchedCommand) (rows : Rows) (q cid n : ℕ) → is_at row q cid ≡ false → StandsAt rows q cid n → StandsAt (row ∷ rows) q cid (suc n)
stands_later row rows q cid n other s =
    record {
      here = s.here;
      value = rw other s.value;
      at = s.at;
      behind = rw other s.behind;
      changed = λ k. rw other (ap (λ ks. row.value ∷ ks) (s.changed k));
      inside = omega (arith, s.inside);
    }

-- a command that is found stands somewhere
pub record StandsSomewhere (rows : Rows) (q cid : ℕ) : Type 0 where
  pub place : ℕ
  pub stands : StandsAt rows q cid place

pub stands_somewhere : (rows : Rows) (q cid : ℕ) (k : FetchedCommand) → AreNamed rows → value_at rows q cid ≡ Some k → StandsSomewhere rows q cid
stands_somewhere [] q cid k n has = absurd (none-some k has)
stands_somewhere (row ∷ rows) q cid k n has =
    elim (cases_Bool (is_at row q cid)) [
      | inl here ↦ record { place = 0; stands = stands_first row rows q cid n here }
      | inr other ↦ (let rest = stands_somewhere rows q cid k n.2 (rw other at has) in record { place = suc rest.place; stands = stands_later row rows q cid rest.place other rest.stands })
    ]

none_at_value : (rows : Rows) (q cid : ℕ) (k : FetchedCommand) → NoneAt rows q cid → value_at rows q cid ≡ Some k → ⊥
none_at_value [] q cid k none has = none-some k has
none_at_value (row ∷ rows) q cid k none has = none_at_value rows q cid k none.1 (rw none.0 at has)

-- the command of a name stands at the place that has the name
pub stands_named : (rows : Rows) (q cid n : ℕ) → AreNamed rows → IsDistinct rows → name_at (commands_of rows) n ≡ some_name q cid → StandsAt rows q cid n
stands_named [] q cid n names d is = absurd (none-some _ is)
stands_named (row ∷ rows) q cid zero names d is =
    let same : (row.value.q, cid_of row.value) ≡ (q, cid) = cc in
    let first : row.value.q ≡ q = ap (λ (p : ℕ × ℕ). p.0) same in
    let second : cid_of row.value ≡ cid = ap (λ (p : ℕ × ℕ). p.1) same in
    stands_first row rows q cid names (at_itself row q cid (sym names.0 ∙ first) (sym names.1 ∙ second))
stands_named (row ∷ rows) q cid (suc n) names d is =
    let rest = stands_named rows q cid n names.2 d.1 is in
    elim (cases_Bool (is_at row q cid)) [
      | inl here ↦
          (let same = place_is row q cid here in
          let none : NoneAt rows q cid = subst (λ (x : ℕ). NoneAt rows x cid) same.0 (subst (λ (x : ℕ). NoneAt rows row.q x) same.1 d.0) in
          absurd (none_at_value rows q cid rest.here none rest.value))
      | inr other ↦ stands_later row rows q cid n other rest
    ]

-- A change of the command of one name

set_change : {A : Type 0} (n : ℕ) (f : A → A) (xs : List A) (x : A) → slice_get xs n ≡ Some x → slice_set xs n (f x) ≡ change n f xs
set_change n f [] x at = refl
set_change zero f (y ∷ xs) x at = let same : y ≡ x = cc in ap (λ z. f z ∷ xs) (sym same)
set_change (suc n) f (y ∷ xs) x at = ap (λ ys. y ∷ ys) (set_change n f xs x at)

pub commands_changed : (rows : Rows) (q cid n : ℕ) (f : FetchedCommand → FetchedCommand) (k : FetchedCommand) → StandsAt rows q cid n → value_at rows q cid ≡ Some k → commands_of (with_value rows q cid (f k)) ≡ change n f (commands_of rows)
commands_changed rows q cid n f k s has =
    let same : s.here ≡ k = (let both : Some s.here ≡ Some k = sym s.value ∙ has in cc) in
    s.changed (f k) ∙ set_change n f (commands_of rows) k (s.at ∙ ap (λ x. Some x) same)

apart_same : (f : FetchedCommand → FetchedCommand) (q cid : ℕ) → ((k : FetchedCommand) → is_command q cid k ≡ false → f k ≡ k) → (rows : Rows) → AreNamed rows → NoneAt rows q cid → commands_of rows ≡ map f (commands_of rows)
apart_same f q cid keeps [] n none = refl
apart_same f q cid keeps (row ∷ rows) n none =
    ap₂ (λ (k : FetchedCommand) (ks : List FetchedCommand). k ∷ ks) (sym (keeps row.value (named_is q cid row n.0 n.1 ∙ none.0))) (apart_same f q cid keeps rows n.2 none.1)

pub none_mapped : (f : FetchedCommand → FetchedCommand) (q cid : ℕ) → ((k : FetchedCommand) → is_command q cid k ≡ false → f k ≡ k) → (rows : Rows) → AreNamed rows → value_at rows q cid ≡ None → commands_of rows ≡ map f (commands_of rows)
none_mapped f q cid keeps rows n none = apart_same f q cid keeps rows n (none_stands rows q cid none)

pub one_mapped : (f : FetchedCommand → FetchedCommand) (q cid : ℕ) → ((k : FetchedCommand) → is_command q cid k ≡ false → f k ≡ k) → (rows : Rows) (k : FetchedCommand) → AreNamed rows → IsDistinct rows → value_at rows q cid ≡ Some k → commands_of (with_value rows q cid (f k)) ≡ map f (commands_of rows)
one_mapped f q cid keeps [] k n d has = absurd (none-some k has)
one_mapped f q cid keeps (row ∷ rows) k n d has =
    elim (cases_Bool (is_at row q cid)) [
      | inl here ↦
          (let same = place_is row q cid here in
          let none : NoneAt rows q cid = subst (λ (x : ℕ). NoneAt rows x cid) same.0 (subst (λ (x : ℕ). NoneAt rows row.q x) same.1 d.0) in
          let own : Some row.value ≡ Some k = rw here at has in
          let is : row.value ≡ k = cc in
          rw here (ap₂ (λ (x : FetchedCommand) (ks : List FetchedCommand). x ∷ ks) (ap f (sym is)) (apart_same f q cid keeps rows n.2 none)))
      | inr other ↦
          rw other (ap₂ (λ (x : FetchedCommand) (ks : List FetchedCommand). x ∷ ks) (sym (keeps row.value (named_is q cid row n.0 n.1 ∙ other))) (one_mapped f q cid keeps rows k n.2 d.1 (rw other at has)))
    ]

-- the name of a place's command
pub place_named : (rows : Rows) (q cid : ℕ) (k : FetchedCommand) → AreNamed rows → value_at rows q cid ≡ Some k → (k.q ≡ q) × (cid_of k ≡ cid)
place_named [] q cid k n has = absurd (none-some k has)
place_named (row ∷ rows) q cid k n has =
    elim (cases_Bool (is_at row q cid)) [
      | inl here ↦
          (let same = place_is row q cid here in
          let own : Some row.value ≡ Some k = rw here at has in
          let is : row.value ≡ k = cc in
          (ap (λ (x : FetchedCommand). x.q) (sym is) ∙ n.0 ∙ same.0, ap cid_of (sym is) ∙ n.1 ∙ same.1))
      | inr other ↦ place_named rows q cid k n.2 (rw other at has)
    ]

-- what is refused of a name is refused of its command
pub value_found : (rows : Rows) (q cid : ℕ) (k : FetchedCommand) → AreNamed rows → value_at rows q cid ≡ Some k → find (is_command q cid) (commands_of rows) ≡ Some k
value_found rows q cid k n has = found_rows rows q cid n ∙ has
