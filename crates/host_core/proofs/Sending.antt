-- Admin commands that are sent.
use Rattle.machine_model.specs.After as a
use Rattle.machine_model.specs.Events as events
use Rattle.machine_model.specs.declared.words.Refusal.TheVariants as refusal
use Rattle.std.proofs.Common.{◌≡◌, ℕ, IsSome, ◌+◌, ◌<◌, ◌≤◌, ◌/◌, ◌%◌, ◌++◌, ◌∷◌, [], Bool, true, false, Option, Some, None, List, length, slice_get, slice_set, refl, ap, sym, ◌∙◌, subst, arith, length-set, not, position}
use Rattle.admin_commands.specs.{Entries.admin_entry, declared.AdminKind.{AdminKind, TheVariants.{Abort, DeleteSq, CreateCq, CreateSq}}}
use Rattle.entry_codec.specs.{Submission.{submission_bytes, FitsSubmission}, declared.submission.SubEntry.SubEntry}
use Rattle.machine_model.{proofs.{Kept.{live_has_sq, service_has_sq}}, specs.{After.change, Proper.IsProper}}
use Rattle.machine_model.specs.Refusals.{in_state, no_identifier, queue_full, refusal_of, has_sq, in_service}
use Rattle.machine_model.specs.{State.{HostQueue, State}, Step.{Answers, IsController, IsNewIdentifier, Refuses, Step, touched_by_refusal}}
use Rattle.machine_model.specs.declared.words.{HostState.TheVariants.Deleting, Refusal.Refusal}
use Rattle.page_memory.specs.{Pages.page_at, declared.page.Half.TheVariants.Submission}
use Rattle.queue_pair.{proofs.Halves.found_within, specs.Memory.half_pages}
use Rattle.host_core.proofs.{Granting.{in_state-is, next-fresh, next-left, none-left}, Identifiers.{claim-more, Settled, settled-of}}
use Rattle.host_core.proofs.Lists.{each-change, length-change, map-change}
use Rattle.host_core.proofs.QueueLists.{posted-exact, posted-queue, submission_length, tail-fits, tail-in, pool-with_bytes, submission_page-in, settled-state, settled-turned, settled-with, host_step, Steps, steps}
use Rattle.host_core.proofs.{Reaping.state-set, RowRecords.{claims_keep_queue, claims_keep_tells, each_claimed}, Submitted.{admin_live, full_is}}
use Rattle.host_core.specs.{Commands.with_claim, Exact.Exactly, Posting.{CanPost, posted, tail_place, with_tail_moved, CanPostTo, Posts}, Rows.Queue}
use Rattle.host_core.specs.Sending.{CanSend, HasSlot, Sends, asked, grants_none, noted, record_of_admin, sending, sent, named_causes}
use Rattle.host_core.specs.{Tables.{Tables, state_of, host_queue_of}, Whole.{IsQueue, IsRecord, IsWhole, TellsCommand, TellsQueue}}
use Rattle.controller_walk.specs.Units.{first_passing}
use Rattle.std.proofs.lemmas.Option.{slice_get_within}
use Rattle.machine_model.proofs.Counting.{get_changed}
use Rattle.page_memory.proofs.Lists.{some_is, all-append}

-- An admin command that is sent on the tables is the machine's, and leaves them whole.

-- An identifier of queue 0 is claimed, and the command is outstanding

abbrev more : ℕ → List Bool → List Bool
more cid claimed = slice_set claimed cid true

none-told : (t : Tables) (kind : AdminKind) (cid : ℕ) → TellsCommand t.owners (record_of_admin kind cid)
none-told t kind cid = record { data_pages = λ p h. cc; chain_pages = λ p h. cc }

settled-noted : (t : Tables) (kind : AdminKind) (cid : ℕ) → Settled t → (slot : HasSlot t cid) → Settled (noted kind cid t)
settled-noted t kind cid s slot =
    settled-with t t.pages t.owners (change 0 (with_claim cid) t.queues) (t.records ++ record_of_admin kind cid ∷ []) s
    (record {
      pool = s.pool;
      lent = s.lent;
      many = length-change 0 (with_claim cid) t.queues;
      queues = record { each = each_claimed (IsQueue t.entries) (more cid) (claims_keep_queue (more cid) (λ bits. length-set bits cid true) t.entries) 0 t.queues s.rings.each };
      identifiers = claim-more t.records t.queues (record_of_admin kind cid) s.table.identifiers
          (λ queue e. subst (λ (x : Queue). cid < length x.host.claimed) (some_is (sym slot.at ∙ e)) (found_within slot.queue.host.claimed cid slot.next));
      owners = record {
        queues_told = each_claimed (TellsQueue t.owners) (more cid) (claims_keep_tells (more cid) t.owners) 0 t.queues s.table.owners.queues_told;
        commands_told = all-append (TellsCommand t.owners) t.records (record_of_admin kind cid) s.table.owners.commands_told (none-told t kind cid);
      };
      records = all-append (IsRecord (length t.queues)) t.records (record_of_admin kind cid) s.table.records (record { queue = slice_get_within t.queues 0 slot.queue slot.at; work = tt; phase = tt });
    })

-- the machine shows no claims
noted-state : (t : Tables) (kind : AdminKind) (cid : ℕ) → state_of (noted kind cid t) ≡ a.on_records (λ records. records ++ record_of_admin kind cid ∷ []) (state_of t)
noted-state t kind cid =
    ap (λ (hs : List HostQueue). shown hs) (map-change host_queue_of (with_claim cid) (λ x. refl) 0 t.queues)
  where
    shown : List HostQueue → State
    shown hs = record (state_of t) { host = record (state_of t).host { queues = hs; records = t.records ++ record_of_admin kind cid ∷ [] } }

-- An entry is posted

-- what the entry of an admin command is
pub record IsTyped (entry : SubEntry) : Type 0 where
  pub sgl1 : length entry.sgl1 ≡ 16
  pub fits : FitsSubmission entry

-- the submission half of queue 0 is there, and in
pub record HasHalfIn (t : Tables) (queue : Queue) : Type 0 where
  pub kept : has_sq queue.state ≡ true
  pub inside : (k : ℕ) → k < half_pages queue.host.entries Submission → IsSome (page_at t.pages (queue.host.sq + k))

pub half-in : (t : Tables) (cid : ℕ) → IsWhole t → (slot : HasSlot t cid) → HasHalfIn t slot.queue
half-in t cid w slot =
    let kept = live_has_sq slot.queue.state (admin_live t w slot.queue slot.at) in
    record { kept = kept; inside = λ k l. submission_page-in t w 0 slot.queue slot.at kept k l }

pub can-send : (t : Tables) (kind : AdminKind) (cid : ℕ) → Settled t → (slot : HasSlot t cid) → HasHalfIn t slot.queue → IsTyped (admin_entry kind cid)
    → CanPost (noted kind cid t) 0 (with_claim cid slot.queue) (admin_entry kind cid)
can-send t kind cid s slot half is =
    record {
      at = get_changed 0 (with_claim cid) t.queues slot.queue slot.at;
      kept = half.kept;
      room = slot.room;
      sgl1 = is.sgl1;
      fits = is.fits;
      pool = s.pool;
      inside = half.inside;
      queues = (settled-noted t kind cid s slot).rings;
    }

settled-posted : (u : Tables) (q : ℕ) (x : Queue) (entry : SubEntry) → Settled u → CanPost u q x entry → Settled (posted q x entry u)
settled-posted u q x entry s post =
    let count : length (submission_bytes entry) ≡ 64 = submission_length entry post.sgl1 in
    settled-turned u q with_tail_moved (posted q x entry u).pages u.owners u.records s
    (record {
      pool = pool-with_bytes u.pages (tail_place x / 4096) (tail_place x % 4096) (submission_bytes entry) (tail-in u q x entry post) (omega (arith, count, tail-fits x)) post.pool;
      lent = s.lent ∙ sym (length-set u.pages (tail_place x / 4096) _);
      queue = λ y at. posted-queue u.entries q y (s.rings.each q y at);
      identifiers = s.table.identifiers.each;
      claims = s.table.identifiers.each q;
      others = λ k y _ at. s.table.owners.queues_told k y at;
      own = λ y at. let told = s.table.owners.queues_told q y at in record { submission = told.submission; completion = told.completion };
      commands = s.table.owners.commands_told;
      records = s.table.records;
    })

pub settled-sent : (t : Tables) (kind : AdminKind) (cid : ℕ) → Settled t → (slot : HasSlot t cid) → HasHalfIn t slot.queue → IsTyped (admin_entry kind cid) → Settled (sent kind cid slot.queue t)
settled-sent t kind cid s slot half is =
    settled-posted (noted kind cid t) 0 (with_claim cid slot.queue) (admin_entry kind cid) (settled-noted t kind cid s slot) (can-send t kind cid s slot half is)

-- the machine's state

abbrev pub sent_in : AdminKind → ℕ → State → State
sent_in kind cid s = a.sent kind cid (admin_entry kind cid) s

pub sent-exact : (t : Tables) (kind : AdminKind) (cid : ℕ) → Settled t → (slot : HasSlot t cid) → HasHalfIn t slot.queue → IsTyped (admin_entry kind cid)
    → state_of (sent kind cid slot.queue t) ≡ sent_in kind cid (state_of t)
sent-exact t kind cid s slot half is =
    posted-exact (noted kind cid t) 0 (with_claim cid slot.queue) (admin_entry kind cid) (can-send t kind cid s slot half is)
    ∙ ap (a.posted 0 (admin_entry kind cid)) (noted-state t kind cid)

-- The queue that it names

-- what a command relies on: a queue that it deletes has its submission half
abbrev AsksOf : AdminKind → Tables → Type 0
AsksOf (DeleteSq q) u = (x : Queue) → slice_get u.queues q ≡ Some x → has_sq x.state ≡ true
AsksOf kind u = Unit {0}

has-half : (t : Tables) (q : ℕ) → refusal_of (state_of t) (events.DeleteSq q) ≡ None → (x : Queue) → slice_get t.queues q ≡ Some x → has_sq x.state ≡ true
has-half t q none x at =
    let serves : in_state in_service (state_of t) q ≡ true = grind (arith, none) in service_has_sq x.state (rw (in_state-is in_service t q, at) at serves)

-- the state of a queue stays with other claims, and with another tail
asks-sent : (t : Tables) (kind : AdminKind) (cid : ℕ) (x : Queue) → refusal_of (state_of t) (sending kind) ≡ None → AsksOf kind (sent kind cid x t)
asks-sent t (DeleteSq q) cid x none =
    λ y at. each-change (λ (k : ℕ) (z : Queue). q ≡ k → has_sq z.state ≡ true) 0 with_tail_moved (change 0 (with_claim cid) t.queues) (λ k z _ at'. claimed k z at') (λ z at'. claimed 0 z at') q y at refl
  where
    claimed : (k : ℕ) (z : Queue) → slice_get (change 0 (with_claim cid) t.queues) k ≡ Some z → q ≡ k → has_sq z.state ≡ true
    claimed = each_claimed (λ (k : ℕ) (z : Queue). q ≡ k → has_sq z.state ≡ true) (more cid) (λ k z h. h) 0 t.queues
        (λ k z at same. has-half t q none z (subst (λ (i : ℕ). slice_get t.queues i ≡ Some z) (sym same) at))
asks-sent t kind cid x none = tt

asked_in : AdminKind → State → State
asked_in (DeleteSq q) s = a.on_host_queue q a.deleting s
asked_in kind s = s

asked-state : (u : Tables) (kind : AdminKind) → AsksOf kind u → state_of (asked kind u) ≡ asked_in kind (state_of u)
unfolding asked_in
asked-state u (DeleteSq q) h = state-set u q (Deleting false) (refl) h
asked-state u kind h = refl

settled-asked : (u : Tables) (kind : AdminKind) → Settled u → AsksOf kind u → Settled (asked kind u)
settled-asked u (DeleteSq q) s h = settled-state u q (Deleting false) s (refl) h
settled-asked u kind s h = s

-- The machine's step

send-after : (s : State) (kind : AdminKind) (cid : ℕ) → grants_none kind ≡ true → a.after s (sending kind) (events.Sent cid) ≡ asked_in kind (sent_in kind cid s)
unfolding asked_in
send-after s (CreateCq q n base vector) cid plain = cc
send-after s (CreateSq q n base) cid plain = cc
send-after s kind cid plain = refl

send-answers : (s : State) (kind : AdminKind) (cid : ℕ) → grants_none kind ≡ true → IsNewIdentifier s 0 cid → Answers s (sending kind) (events.Sent cid)
send-answers s (CreateCq q n base vector) cid plain h = cc
send-answers s (CreateSq q n base) cid plain h = cc
send-answers s kind cid plain h = h

is-hosts : (kind : AdminKind) → IsController (sending kind) ≡ false
is-hosts (Abort q cid) = refl
is-hosts kind = refl

is-proper : (kind : AdminKind) → grants_none kind ≡ true → IsProper (sending kind)
is-proper (CreateCq q n base vector) plain = cc
is-proper (Abort q cid) plain = tt
is-proper kind plain = tt

pub send-exact : (t : Tables) (kind : AdminKind) (cid : ℕ) → IsWhole t → (can : CanSend t kind cid) → IsTyped (admin_entry kind cid)
    → Exactly (state_of t) (sending kind) (events.Sent cid) (state_of (asked kind (sent kind cid can.slot.queue t)))
send-exact t kind cid w can is = (
  can.none,
  send-answers (state_of t) kind cid can.plain (next-fresh t w 0 cid can.slot.queue can.slot.at can.slot.next),
  asked-state (sent kind cid can.slot.queue t) kind (asks-sent t kind cid can.slot.queue can.none)
      ∙ (ap (asked_in kind) (sent-exact t kind cid (settled-of t w) can.slot (half-in t cid w can.slot) is) ∙ sym (send-after (state_of t) kind cid can.plain)),
)

pub send_made : (t new : Tables) (kind : AdminKind) (cid : ℕ) → IsWhole t → CanSend t kind cid → IsTyped (admin_entry kind cid) → Sends t kind cid new → Steps t
    (sending kind) (events.Sent cid) new
send_made t new kind cid w can is sends =
    let u : Tables = sent kind cid can.slot.queue t in
    rw (sends can.slot.queue can.slot.at) (steps t (asked kind u) (sending kind) (events.Sent cid) w (is-hosts kind) (is-proper kind can.plain) (send-exact t kind cid w can is)
    (settled-asked u kind (settled-sent t kind cid (settled-of t w) can.slot (half-in t cid w can.slot) is) (asks-sent t kind cid can.slot.queue can.none)))

-- What a refusal makes of it

pub send-refused : (t : Tables) (kind : AdminKind) (why : Refusal) → grants_none kind ≡ true → Refuses (state_of t) (sending kind) why [] → Step (state_of t) (sending kind) (events.Refused why []) (state_of t)
send-refused t kind why plain h = host_step t t (sending kind) (events.Refused why []) (is-hosts kind) (is-proper kind plain) (h, refl)

-- A sending as it is made: what is found before it, and what is written.

-- What rules it out

abbrev room_causes : State → List (Bool × Refusal)
room_causes s = (no_identifier s 0, refusal.NoIdentifier) ∷ (queue_full s 0, refusal.QueueFull) ∷ []

by-name : (s : State) (kind : AdminKind) → grants_none kind ≡ true → refusal_of s (sending kind) ≡ first_passing (named_causes s kind ++ room_causes s)
by-name s (CreateCq q n base vector) plain = cc
by-name s (CreateSq q n base) plain = cc
by-name s kind plain = refl

pub past : (xs ys : List (Bool × Refusal)) → first_passing xs ≡ None → first_passing (xs ++ ys) ≡ first_passing ys
past [] ys h = refl
past ((true, x) ∷ xs) ys h = cc
past ((false, x) ∷ xs) ys h = past xs ys h

behind : (s : State) (kind : AdminKind) → grants_none kind ≡ true → first_passing (named_causes s kind) ≡ None → refusal_of s (sending kind) ≡ first_passing (room_causes s)
behind s kind plain free = by-name s kind plain ∙ past (named_causes s kind) (room_causes s) free

untouched : (s : State) (kind : AdminKind) (why : Refusal) → [] ≡ touched_by_refusal s (sending kind) why
untouched s (Abort q cid) why = refl
untouched s kind why = refl

pub first-there : (xs : List Queue) → 2 ≤ length xs → (x : Queue) × (slice_get xs 0 ≡ Some x)
first-there [] l = absurd (omega (arith, l))
first-there (x ∷ xs) l = (x, refl)

-- what queue 0 tells of its next identifier
abbrev pub Next : List Queue → Option ℕ → Type 0
Next queues o = (x : Queue) → slice_get queues 0 ≡ Some x → o ≡ position not x.host.claimed

pub send-no_identifier : (t : Tables) (kind : AdminKind) (queues : List Queue) → IsWhole t → grants_none kind ≡ true → first_passing (named_causes (state_of t) kind) ≡ None → queues ≡ t.queues → Next queues None
    → Refuses (state_of t) (sending kind) refusal.NoIdentifier []
send-no_identifier t kind queues w plain free same next =
    let x = first-there t.queues w.host.limits.some_queues in
    let none = none-left t w 0 x.0 x.1 (sym (next x.0 (ap (λ (qs : List Queue). slice_get qs 0) same ∙ x.1))) in
    (behind (state_of t) kind plain free ∙ rw none refl, untouched (state_of t) kind refusal.NoIdentifier)

pub send-full : (t : Tables) (kind : AdminKind) (queues : List Queue) (cid : ℕ) → IsWhole t → grants_none kind ≡ true → first_passing (named_causes (state_of t) kind) ≡ None → queues ≡ t.queues → Next queues (Some cid)
    → queue_full (state_of t) 0 ≡ true → Refuses (state_of t) (sending kind) refusal.QueueFull []
send-full t kind queues cid w plain free same next full =
    let x = first-there t.queues w.host.limits.some_queues in
    let left = next-left t w 0 cid x.0 x.1 (sym (next x.0 (ap (λ (qs : List Queue). slice_get qs 0) same ∙ x.1))) in
    (behind (state_of t) kind plain free ∙ rw (left, full) refl, untouched (state_of t) kind refusal.QueueFull)

pub send-ready : (t : Tables) (kind : AdminKind) (queues : List Queue) (cid : ℕ) → IsWhole t → grants_none kind ≡ true → first_passing (named_causes (state_of t) kind) ≡ None → queues ≡ t.queues → Next queues (Some cid)
    → queue_full (state_of t) 0 ≡ false → CanSend t kind cid
send-ready t kind queues cid w plain free same next room =
    let x = first-there t.queues w.host.limits.some_queues in
    let is = sym (next x.0 (ap (λ (qs : List Queue). slice_get qs 0) same ∙ x.1)) in
    record {
      plain = plain;
      none = behind (state_of t) kind plain free ∙ rw (next-left t w 0 cid x.0 x.1 is, room) refl;
      slot = record { queue = x.0; at = x.1; next = is; room = full_is t w.host.rings 0 x.0 x.1 ∙ room };
    }

-- What is written

pub noted-there : (t u : Tables) (kind : AdminKind) (cid : ℕ) → CanSend t kind cid → u ≡ noted kind cid t → 0 < length u.queues
noted-there t u kind cid can same =
    subst (λ (v : Tables). 0 < length v.queues) (sym same) (slice_get_within (noted kind cid t).queues 0 (with_claim cid can.slot.queue) (get_changed 0 (with_claim cid) t.queues can.slot.queue can.slot.at))

pub send-typed : (kind : AdminKind) (cid : ℕ) → IsTyped (admin_entry kind cid)
send-typed kind cid = record { sgl1 = refl; fits = record { fuse = omega arith; psdt = omega arith } }

pub can-post-to : (t u : Tables) (kind : AdminKind) (cid : ℕ) (entry : SubEntry) → Settled t → (slot : HasSlot t cid) → HasHalfIn t slot.queue → u ≡ noted kind cid t → entry ≡ admin_entry kind cid → CanPostTo u 0 entry
can-post-to t u kind cid entry s slot half same is =
    subst (λ (v : Tables). CanPostTo v 0 entry) (sym same)
    (subst (λ (e : SubEntry). CanPostTo (noted kind cid t) 0 e) (sym is)
    (λ y at. subst (λ (z : Queue). CanPost (noted kind cid t) 0 z (admin_entry kind cid)) (some_is (sym (get_changed 0 (with_claim cid) t.queues slot.queue slot.at) ∙ at))
    (can-send t kind cid s slot half (send-typed kind cid))))

pub send_can_post : (t u : Tables) (kind : AdminKind) (cid : ℕ) (entry : SubEntry) → IsWhole t → CanSend t kind cid → u ≡ noted kind cid t → entry ≡ admin_entry kind cid → CanPostTo u 0 entry
send_can_post t u kind cid entry w can same is = can-post-to t u kind cid entry (settled-of t w) can.slot (half-in t cid w can.slot) same is

pub sends_apart : (t u v new : Tables) (kind : AdminKind) (cid : ℕ) (entry : SubEntry) → u ≡ noted kind cid t → entry ≡ admin_entry kind cid → Posts u 0 entry v → new ≡ asked kind v → Sends t kind cid new
sends_apart t u v new kind cid entry same is posts left = λ x at.
    let there = subst (λ (y : Tables). Posts y 0 entry v) same posts (with_claim cid x) (get_changed 0 (with_claim cid) t.queues x at) in
    left ∙ ap (asked kind) (there ∙ ap (λ (e : SubEntry). posted 0 (with_claim cid x) e (noted kind cid t)) is)
