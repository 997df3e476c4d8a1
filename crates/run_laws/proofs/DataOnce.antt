-- Data is moved once, and lies where the chain says.
use Rattle.machine_model.specs.After as a
use Rattle.machine_model.specs.Events as events
use Rattle.machine_model.specs.declared.words.Refusal.TheVariants as refusals
use Rattle.std.proofs.Common.{◌≡◌, ℕ, ◌+◌, ◌-◌, ◌≤◌, ◌==◌, Bool, true, false, ◌&&◌, ◌||◌, Option, Some, None, List, [], ◌∷◌, ◌++◌, drop, slice_get, is_some, if◌then◌else◌, refl, ap, sym, ◌∙◌, arith, subst, eqb-true, eq-eqb, inl, inr, zero, suc, ◌<◌, not, All, is_none, append-nil, append_assoc}
use Rattle.std.{proofs.lemmas.Bool.{true≢false, and_parts, or_parts, cases_Bool, not-false}, specs.List.{AllByRecursion, list_any}}
use Rattle.std.specs.Option.{option_map_or, option_map}
use Rattle.machine_model.proofs.{Counting.{one, total}, HostLeaves.ids_of, Steps.{permitted, exact, Accepts, first_fails, rest_fails}}
use Rattle.machine_model.specs.{After.change, Claims.OwnsFit, Events.{Event, Reply}, Image.{Made, draft_of, submitted_by}, Memory.with_pages, Opening.opening}
use Rattle.machine_model.specs.{Proper.IsProper, Reached.{only, on_pages}}
use Rattle.machine_model.specs.Refusals.{next_rung, job_at, conflicts, host_queue, is_submitted, is_drafted, is_live, in_state, is_of, queue_full, record_is}
use Rattle.machine_model.specs.Standing.{unfetched_at, HasEntry, ListStands, StandsAs, CommandStands}
use Rattle.machine_model.specs.{State.{State, ServedQueue, Controller, Record, Job, is_at, record_at, with_record, pages_of}, Step.Step, Trusted.{Steps, drafts_of}}
use Rattle.machine_model.specs.{Work.Work, declared.words.{Peer.TheVariants.{Modelled}, Refusal.Refusal, Work.TheVariants.{Io, Management}}}
use Rattle.entry_codec.specs.declared.{status.TheConstants.Status.COMMAND_ID_CONFLICT, submission.SubEntry.SubEntry}
use Rattle.io_commands.proofs.{Building.{carries_entry, draft_of_blocks, list_blocks}, Pointers.{pointer_lists, pointer_still}}
use Rattle.io_commands.specs.{Asked.Request, Drafts.{DraftContents, draft_first, io_entry, pointer_of}, Requests.{has_list, joined_parts}}
use Rattle.io_commands.specs.{Values.numbers_of, declared.request.Kind.Kind}
use Rattle.run_laws.proofs.{Causes.not_conflicting, DataKept.{Going, one_step, stood_step, left_step, submits_far, IsOfDraft, Found, found_draft, submits_of}}
use Rattle.run_laws.proofs.{Known.{unsent, same_draft}, Moves.{QueueMove, queues_event, RecordsMove, records_event}, ReadsWalked.sent_few}
use Rattle.run_laws.specs.{Statuses.{fetches, fetches_by}, Submitted.{submits, HasListOf, chains_are_the_drafts}}
use Rattle.two_sides.proofs.{Along.{Unforged, unforged_next, unforged_run}, Commands.{nobody, keeps_fetch, keeps_walk, keeps_complete, only_same}}
use Rattle.two_sides.proofs.{JobLaws.{stay_after, entries_named}, NeverFull.{host_jobs, stood_on, stood_at_opening}}
use Rattle.two_sides.proofs.PlacesKept.{InHand, entry_cid, in_hand, first_is, running_not_past, drafted_not}
use Rattle.two_sides.proofs.Provided.{all_append, all_drop_one, In, in_found, all_in_both, sent}
use Rattle.two_sides.proofs.Served.{Stood, unfetched_count, page_below, data_of, chain_of, more_than_only, first_read}
use Rattle.two_sides.{proofs.{Standing.{list_at, less_at, controller-posted}, TiedAll.{admins_of, pair_at}}, specs.MachineLaws.entries_of}
use Rattle.page_ledger.specs.Owners.{is_among}
use Rattle.page_memory.specs.Pages.{Pages, page_at, byte_at}
use Rattle.sgl_descriptor.specs.{Spelling.{spelling, descriptor_of}, declared.Descriptor.Descriptor}
use Rattle.sgl_chain.{proofs.Back.spells_there, specs.Spells.Spells}
use Rattle.slot_table.proofs.Rows.{option_is}
use Rattle.page_memory.proofs.Lists.{all-to, all-found, some_is}

-- A command is fetched once: after its fetch no entry of it is left to fetch.

-- no entry of an identifier is left to fetch
abbrev pub NoEntry : ℕ → ℕ → State → Type 0
NoEntry q cid s = AllByRecursion (λ (e : SubEntry). e.cid ≡ cid → ⊥) (list_at (λ at. at.unfetched) s.controller.queues q)

no_entry_on : (q cid : ℕ) → (q == 0) ≡ false → (s : State) (e : Event) (reply : Reply) → Going s e reply → ((d : DraftContents) → e ≡ events.Submit d → ((d.q == q) && (d.cid == cid)) ≡ false)
    → QueueMove (λ at. at.unfetched) (λ (x : SubEntry). x.cid ≡ cid → ⊥) q s e
no_entry_on q cid other s e reply g far = record {
  posts = λ x entry at is built z all. all_append (λ (y : SubEntry). y.cid ≡ cid → ⊥) at.unfetched (entry ∷ []) all (new x entry is built z, tt);
  sends = λ entry at z all. absurd (true≢false (sym (eq-eqb q 0 (sym z)) ∙ other));
  rings = λ rung at all. all;
  reaps = λ at all. all;
  fetches = λ rung at all. all_drop_one (λ (y : SubEntry). y.cid ≡ cid → ⊥) at.unfetched all;
  stops = λ at all. all;
  drops = λ at all. all;
  makes_completion = λ at all. all;
  makes_submission = λ at all. tt;
  clears = λ at all. tt;
  empties = (tt, tt);
  completes = λ c j head at is found all. all;
}
  where
    new : (x : DraftContents) (entry : SubEntry) → e ≡ events.Submit x → x.entry ≡ Some entry → x.q ≡ q → entry.cid ≡ cid → ⊥
    new x entry is built z c =
        let proper : IsProper (events.Submit x) = subst IsProper is g.proper in
        let its : entry.cid ≡ x.cid = ap (λ (y : SubEntry). y.cid) (carries_entry x entry proper.draft built) ∙ entry_cid x in
        true≢false (sym (rw (eq-eqb x.q q z, eq-eqb x.cid cid (sym its ∙ c)) refl) ∙ far x is)

pub no_entry_step : (q cid : ℕ) → (q == 0) ≡ false → (s : State) (e : Event) (reply : Reply) → Going s e reply → ((d : DraftContents) → e ≡ events.Submit d → ((d.q == q) && (d.cid == cid)) ≡ false)
    → NoEntry q cid s → NoEntry q cid (a.after s e reply)
no_entry_step q cid other s e reply g far h = queues_event (λ at. at.unfetched) (λ (x : SubEntry). x.cid ≡ cid → ⊥) q s e reply (no_entry_on q cid other s e reply g far) g.ok g.stood h

-- where none is left, none is fetched
first_of : (P : SubEntry → Type 0) (qs : List ServedQueue) (q : ℕ) (queue : ServedQueue) (e : SubEntry) → slice_get qs q ≡ Some queue → slice_get queue.unfetched 0 ≡ Some e → AllByRecursion P (list_at (λ at. at.unfetched) qs q) → P e
first_of P qs q queue e at first all = holds_of_first queue.unfetched first (subst (AllByRecursion P) (ap (λ (o : Option ServedQueue). option_map_or (λ at. at.unfetched) o []) at) all)
  where
    holds_of_first : (xs : List SubEntry) → slice_get xs 0 ≡ Some e → AllByRecursion P xs → P e
    holds_of_first [] f all = absurd cc
    holds_of_first (x ∷ xs) f all = let same : x ≡ e = cc in subst P same all.0

-- the entry that a fetch takes
pub fetched_entry : (s : State) (q cid c : ℕ) → option_map (λ (e : SubEntry). e.cid) (next_rung s q) ≡ Some c → c ≡ cid → (e : SubEntry) × (next_rung s q ≡ Some e) × (e.cid ≡ cid)
fetched_entry s q cid c h same = elim (option_is (next_rung s q)) [ inl r ↦ let h = rw r at h in absurd cc | inr (e, r) ↦ let h = rw r at h in (e, r, some_is h ∙ same) ]

-- a fetch as it was made
pub record IsFetch (s : State) (q cid : ℕ) (e : Event) (reply : Reply) : Type 0 where
  pub touched : List ℕ
  pub is_event : e ≡ events.Fetch q
  pub is_reply : reply ≡ events.Fetched cid touched

pub is_fetch : (s : State) (q cid : ℕ) (e : Event) (reply : Reply) → fetches_by q cid e reply ≡ true → IsFetch s q cid e reply
is_fetch s q cid (events.Fetch k) (events.Fetched c touched) h =
    let both = and_parts (k == q) (c == cid) h in
    record { touched = touched; is_event = ap events.Fetch (eqb-true k q both.0); is_reply = ap (λ (n : ℕ). events.Fetched n touched) (eqb-true c cid both.1) }
is_fetch s q cid e reply h = absurd (true≢false (sym h))

-- the state before a fetch, its entry, and the state after it
pub record Fetches (s new : State) (q cid : ℕ) : Type 0 where
  pub touched : List ℕ
  pub going : Going s (events.Fetch q) (events.Fetched cid touched)
  pub left : new ≡ a.after_fetch q s
  pub entry : SubEntry
  pub rung : next_rung s q ≡ Some entry
  pub its_cid : entry.cid ≡ cid

pub fetch_made : (s : State) (e : Event) (reply : Reply) (new : State) (q cid : ℕ) → Step s e reply new → s.trusted ≡ true → Stood s → fetches_by q cid e reply ≡ true → Fetches s new q cid
fetch_made s e reply new q cid step t stood is =
    let f = is_fetch s q cid e reply is in
    let made : Step s (events.Fetch q) (events.Fetched cid f.touched) new = subst (λ (x : Event). Step s x (events.Fetched cid f.touched) new) f.is_event (subst (λ (x : Reply). Step s e x new) f.is_reply step) in
    let ok = permitted _ s.trusted false t made.1 in
    let x = fetched_entry s q cid cid ok.1.0 refl in
    record { touched = f.touched; going = record { proper = tt; ok = ok; trusted = t; stood = stood }; left = exact _ s.trusted t made.2; entry = x.0; rung = x.1; its_cid = x.2 }

-- no entry of it is next
pub none_next : (q cid : ℕ) (s : State) (entry : SubEntry) → NoEntry q cid s → next_rung s q ≡ Some entry → entry.cid ≡ cid → ⊥
none_next q cid s entry h next its =
    let hand = in_hand s q entry next in
    first_of (λ (x : SubEntry). x.cid ≡ cid → ⊥) s.controller.queues q hand.queue entry hand.at hand.first h its

-- After a fetch

pub fetched_clears : (s new : State) (q cid : ℕ) → (q == 0) ≡ false → Fetches s new q cid → NoEntry q cid new
fetched_clears s new q cid other f = subst (NoEntry q cid) (sym f.left) (by_entry (next_rung s q) refl)
  where
    hand : InHand s q f.entry
    hand = in_hand s q f.entry f.rung

    w : ℕ → ℕ
    w c = one (c == cid)

    off : ServedQueue → ServedQueue
    off at = record at { unfetched = drop 1 at.unfetched; rung = at.rung - 1 }

    un : unfetched_count q (λ c. one (c == cid)) s.host.queues s.controller.queues ≡ total (λ (x : SubEntry). one (x.cid == cid)) (unfetched_at s.controller.queues q)
    un = ap (λ (b : Bool). if b then 0 else total (λ (x : SubEntry). one (x.cid == cid)) (unfetched_at s.controller.queues q)) (running_not_past s f.going.stood.grounds q f.entry hand)

    head : total (λ (x : SubEntry). one (x.cid == cid)) hand.queue.unfetched ≡ one (f.entry.cid == cid) + total (λ (x : SubEntry). one (x.cid == cid)) (drop 1 hand.queue.unfetched)
    head = ap (total (λ (x : SubEntry). one (x.cid == cid))) (first_is hand.queue.unfetched f.entry hand.first)

    one_less : total (λ (x : SubEntry). one (x.cid == cid)) (list_at (λ at. at.unfetched) (change q off s.controller.queues) q) + (if q == q then 1 else 0) ≤ total (λ (x : SubEntry). one (x.cid == cid)) (list_at (λ at. at.unfetched) s.controller.queues q)
    one_less = less_at (λ at. at.unfetched) (λ (x : SubEntry). one (x.cid == cid)) q off 1 s.controller.queues q hand.queue hand.at (omega (arith, head, ap one (eq-eqb f.entry.cid cid f.its_cid)))

    self : ◌≡◌ {A = ℕ} (if q == q then 1 else 0) 1
    self = rw (eq-eqb q q refl) refl

    few : total (λ (x : SubEntry). one (x.cid == cid)) (list_at (λ at. at.unfetched) (change q off s.controller.queues) q) ≡ 0
    few = omega (arith, un, one_less, self, f.going.stood.places q (λ c. one (c == cid)), sent_few q cid s.host.records, f.going.stood.grounds.stands.0.once q cid)

    inner : (e : SubEntry) → next_rung s q ≡ Some e → (b z : Bool) → conflicts s q ≡ b → (q == 0) ≡ z
        → NoEntry q cid (if b then a.with_posted_completion q e.cid COMMAND_ID_CONFLICT 0 (a.taken_off q s) else if z then a.managed e (a.taken_off 0 s) else a.begun q e (a.taken_off q s))
    inner e r true z con is0 =
        absurd (true≢false (sym con ∙ ap (λ (o : Option SubEntry). option_map_or (λ e. is_some (job_at s q e.cid)) o false) r ∙ not_conflicting s f.going.stood q e (in_hand s q e r)))
    inner e r false true con is0 = absurd (true≢false (sym is0 ∙ other))
    inner e r false false con is0 = (nobody (λ (e : SubEntry). e.cid) cid (λ e. ⊥) (list_at (λ at. at.unfetched) (change q off s.controller.queues) q) few)

    by_entry : (o : Option SubEntry) → next_rung s q ≡ o
        → NoEntry q cid (option_map_or (λ e. if conflicts s q then a.with_posted_completion q e.cid COMMAND_ID_CONFLICT 0 (a.taken_off q s) else if q == 0 then a.managed e (a.taken_off 0 s) else a.begun q e (a.taken_off q s)) o s)
    by_entry None r = grind arith
    by_entry (Some e) r = inner e r (conflicts s q) (q == 0) refl refl

-- Along the steps

pub no_more : (d : DraftContents) → (d.q == 0) ≡ false → (made : List Made) (s end : State) → Steps s made end → Unforged s made → Stood s → list_any (submits d.q d.cid) made ≡ false → NoEntry d.q d.cid s
    → list_any (fetches d.q d.cid) made ≡ false
no_more d other [] s end steps u stood none h = refl
no_more d other (m ∷ made) s end (is, mid, step, rest) u stood none h =
    let both = or_parts (submits d.q d.cid m) (list_any (submits d.q d.cid) made) none in
    let next = unforged_next m made s mid step u in
    elim (cases_Bool (fetches d.q d.cid m)) [
      | inl f ↦ rw f (let made = fetch_made s m.event m.reply mid d.q d.cid step u.trusted stood f in absurd (none_next d.q d.cid s made.entry h made.rung made.its_cid))
      | inr f ↦
          rw f ((no_more d other made mid end rest next (stood_step s m.event m.reply mid step u.trusted next.trusted stood) both.1
          (one_step (NoEntry d.q d.cid) s m.event m.reply mid step u.trusted next.trusted stood (λ g. no_entry_step d.q d.cid other s m.event m.reply g (submits_far s d m.event m.reply g both.0)) h)))
    ]

pub once : (d : DraftContents) → (d.q == 0) ≡ false → (xs ys : List Made) (m : Made) (s end : State) → Steps s (xs ++ m ∷ ys) end → Unforged s (xs ++ m ∷ ys) → Stood s → list_any (submits d.q d.cid) (xs ++ m ∷ ys) ≡ false
    → fetches d.q d.cid m ≡ true → list_any (fetches d.q d.cid) (xs ++ ys) ≡ false
once d other [] ys m s end (is, mid, step, rest) u stood none f =
    let both = or_parts (submits d.q d.cid m) (list_any (submits d.q d.cid) ys) none in
    let next = unforged_next m ys s mid step u in
    no_more d other ys mid end rest next (stood_step s m.event m.reply mid step u.trusted next.trusted stood) both.1
    (fetched_clears s mid d.q d.cid other (fetch_made s m.event m.reply mid d.q d.cid step u.trusted stood f))
once d other (x ∷ xs) ys m s end (is, mid, step, rest) u stood none f =
    let both : (submits d.q d.cid x ≡ false) × (list_any (submits d.q d.cid) (xs ++ m ∷ ys) ≡ false) = or_parts (submits d.q d.cid x) (list_any (submits d.q d.cid) (xs ++ m ∷ ys)) none in
    let next : Unforged mid (xs ++ m ∷ ys) = unforged_next x (xs ++ m ∷ ys) s mid step u in
    let stood_mid : Stood mid = stood_step s x.event x.reply mid step u.trusted next.trusted stood in
    elim (cases_Bool (fetches d.q d.cid x)) [
      | inl e ↦
          absurd (true≢false (sym (among xs) ∙ no_more d other (xs ++ m ∷ ys) mid end rest next stood_mid both.1
          (fetched_clears s mid d.q d.cid other (fetch_made s x.event x.reply mid d.q d.cid step u.trusted stood e))))
      | inr e ↦ let ih = once d other xs ys m mid end rest next stood_mid both.1 f in rw e ih
    ]
  where
    among : (zs : List Made) → list_any (fetches d.q d.cid) (zs ++ m ∷ ys) ≡ true
    among [] = ap (λ (b : Bool). b || list_any (fetches d.q d.cid) ys) f
    among (z ∷ zs) = grind (arith, among zs)

-- The list of a submitted command is its draft's, from its submission to its completion.

-- What is known

pub record Chained (drafts : List DraftContents) (s : State) (r : Record) (request : Request) : Type 0 where
  pub draft : DraftContents
  pub latest : draft_of r.q r.cid drafts ≡ Some draft
  pub entry : SubEntry
  pub built : draft.entry ≡ Some entry
  pub of : IsOfDraft draft r
  pub list : ListStands s.memory s.controller.queues s.controller.jobs r request
  pub first : has_list request.kind ≡ true → list.first ≡ draft_first draft

abbrev pub ChainedIfIo : List DraftContents → State → Record → Work → Type 0
ChainedIfIo drafts s r (Io request) = Chained drafts s r request
ChainedIfIo drafts s r (Management adm) = Unit {0}

abbrev pub ChainKnown : List DraftContents → State → Record → Type 0
ChainKnown drafts s r = is_submitted r.phase ≡ true → ChainedIfIo drafts s r r.work

-- Its entry stays the one

-- a draft that is submitted is not of another submitted command's identifier
other_draft : (s : State) (e : Event) (reply : Reply) → Going s e reply → (r : Record) → In r s.host.records → is_submitted r.phase ≡ true → (d : DraftContents) → e ≡ events.Submit d → ((d.q == r.q) && (d.cid == r.cid)) ≡ false
other_draft s e reply g r within sub d is = by_name ((d.q == r.q) && (d.cid == r.cid)) refl
  where
    by_name : (b : Bool) → ((d.q == r.q) && (d.cid == r.cid)) ≡ b → b ≡ false
    by_name false e = refl
    by_name true e =
        let ids = and_parts (d.q == r.q) (d.cid == r.cid) e in
        let x = found_draft s d reply (subst (λ (x : Event). Going s x reply) is g) in
        let counts : sent d.q (λ n. one (n == d.cid)) r ≡ 1 = rw (eq-eqb r.q d.q (sym (eqb-true d.q r.q ids.0)), sub, eq-eqb r.cid d.cid (sym (eqb-true d.cid r.cid ids.1))) refl in
        absurd (omega (arith, within (sent d.q (λ n. one (n == d.cid))), counts, unsent s d g.stood.grounds x.command x.at (drafted_not x.command.phase x.drafted)))

entry_on : (s : State) (e : Event) (reply : Reply) → Going s e reply → (q cid : ℕ) (wanted : SubEntry) → (q == 0) ≡ false → ((d : DraftContents) → e ≡ events.Submit d → ((d.q == q) && (d.cid == cid)) ≡ false)
    → QueueMove (λ at. at.unfetched) (λ (x : SubEntry). x.cid ≡ cid → x ≡ wanted) q s e
entry_on s e reply g q cid wanted other far = record {
  posts = λ x entry at is built z all. all_append (λ (y : SubEntry). y.cid ≡ cid → y ≡ wanted) at.unfetched (entry ∷ []) all ((λ c. absurd (clash x entry is built z c)), tt);
  sends = λ entry at z all. absurd (true≢false (sym (eq-eqb q 0 (sym z)) ∙ other));
  rings = λ rung at all. all;
  reaps = λ at all. all;
  fetches = λ rung at all. all_drop_one (λ (y : SubEntry). y.cid ≡ cid → y ≡ wanted) at.unfetched all;
  stops = λ at all. all;
  drops = λ at all. all;
  makes_completion = λ at all. all;
  makes_submission = λ at all. tt;
  clears = λ at all. tt;
  empties = (tt, tt);
  completes = λ c j head at is found all. all;
}
  where
    clash : (x : DraftContents) (entry : SubEntry) → e ≡ events.Submit x → x.entry ≡ Some entry → x.q ≡ q → entry.cid ≡ cid → ⊥
    clash x entry is built z c =
        let g' : Going s (events.Submit x) reply = subst (λ (y : Event). Going s y reply) is g in
        let its : entry.cid ≡ x.cid = ap (λ (y : SubEntry). y.cid) (carries_entry x entry g'.proper.draft built) ∙ entry_cid x in
        true≢false (sym (rw (eq-eqb x.q q z, eq-eqb x.cid cid (sym its ∙ c)) refl) ∙ far x is)

jobs_keep : (s : State) (e : Event) (reply : Reply) → Accepts s e reply → (q cid : ℕ) (entry : SubEntry) → HasEntry s.controller.queues s.controller.jobs q cid entry
    → AllByRecursion (λ j. j.q ≡ q → j.entry.cid ≡ cid → j.entry ≡ entry) (a.after s e reply).controller.jobs
jobs_keep s e (events.Refused why touched) ok q cid entry has = has.fetched
jobs_keep s (events.Fetch k) reply ok q cid entry has = (keeps_fetch s k q cid entry has).fetched
jobs_keep s (events.Walk k c) reply ok q cid entry has = (keeps_walk s k c q cid entry has).fetched
jobs_keep s (events.Complete k c) reply ok q cid entry has = (keeps_complete s k c q cid entry has).fetched
jobs_keep s events.Reset reply ok q cid entry has = tt
jobs_keep s e reply ok q cid entry has = subst (AllByRecursion (λ j. j.q ≡ q → j.entry.cid ≡ cid → j.entry ≡ entry)) (sym (host_jobs s e reply ok refl refl)) has.fetched

entry_kept : (s : State) (e : Event) (reply : Reply) → Going s e reply → (q cid : ℕ) → (q == 0) ≡ false → ((d : DraftContents) → e ≡ events.Submit d → ((d.q == q) && (d.cid == cid)) ≡ false)
    → (wanted : SubEntry) → HasEntry s.controller.queues s.controller.jobs q cid wanted → HasEntry (a.after s e reply).controller.queues (a.after s e reply).controller.jobs q cid wanted
entry_kept s e reply g q cid other far wanted has = record {
  unfetched = queues_event (λ at. at.unfetched) (λ (x : SubEntry). x.cid ≡ cid → x ≡ wanted) q s e reply (entry_on s e reply g q cid wanted other far) g.ok g.stood has.unfetched;
  fetched = jobs_keep s e reply g.ok q cid wanted has;
}

list_kept : (m m' : Pages) (qs qs' : List ServedQueue) (js js' : List Job) (r : Record) (request : Request) → ((p : ℕ) → is_among r.chain_pages p ≡ true → page_at m' p ≡ page_at m p)
    → ((entry : SubEntry) → HasEntry qs js r.q r.cid entry → HasEntry qs' js' r.q r.cid entry) → (l : ListStands m qs js r request) → (l' : ListStands m' qs' js' r request) × (l'.first ≡ l.first)
list_kept m m' qs qs' js js' r request same keeps l = (
  record {
    first = l.first;
    read = l.read;
    spells = λ has. spells_there (only (on_pages r.chain_pages) (byte_at m)) (only (on_pages r.chain_pages) (byte_at m')) (only_same m m' r.chain_pages same) l.first (joined_parts request.pieces r.data_pages) (l.spells has);
    entry = keeps (io_entry r.cid request (spelling l.first)) l.entry;
  },
  refl,
)

-- Its submission

-- after it the entry is among those of its queue
entry_posted : (qs : List ServedQueue) (q : ℕ) (at : ServedQueue) (entry : SubEntry) (P : SubEntry → Type 0) → slice_get qs q ≡ Some at
    → AllByRecursion P (unfetched_at (change q (λ at. record at { unfetched = at.unfetched ++ entry ∷ [] }) qs) q) → P entry
entry_posted [] q at entry P e all = absurd cc
entry_posted (x ∷ qs) zero at entry P e all = last x.unfetched all
  where
    last : (xs : List SubEntry) → AllByRecursion P (xs ++ entry ∷ []) → P entry
    last [] h = h.0
    last (y ∷ ys) h = last ys h.1
entry_posted (x ∷ qs) (suc q) at entry P e all = entry_posted qs q at entry P e all

pub submitted_first : (s : State) (d : DraftContents) → Going s (events.Submit d) events.Accepted → (entry : SubEntry) → d.entry ≡ Some entry → (r : Record) (request : Request) → r.q ≡ d.q → r.cid ≡ d.cid → d.request ≡ request → has_list request.kind ≡ true
    → (l : ListStands (a.after_submit d s).memory (a.after_submit d s).controller.queues (a.after_submit d s).controller.jobs r request) → l.first ≡ draft_first d
submitted_first s d g entry built r request its_queue its_cid asked has l =
    let s1 : State = a.on_records (with_record d.q d.cid a.submitted) (a.on_memory (with_pages (d.data_pages ++ d.chain_pages)) s) in
    elim (option_is (host_queue s d.q)) [
      | inl e ↦ let h = rw e at live in absurd (true≢false (sym h))
      | inr (queue, e) ↦
          let pair = pair_at s g.stood.grounds d.q queue e in
          let its : entry ≡ io_entry d.cid d.request (spelling (draft_first d)) =
          carries_entry d entry g.proper.draft built ∙ draft_of_blocks d (list_blocks d.request.kind (ap (λ (x : Request). has_list x.kind) asked ∙ has)) in
          let all : AllByRecursion (λ (y : SubEntry). y.cid ≡ r.cid → y ≡ io_entry r.cid request (spelling l.first)) (unfetched_at (change d.q (λ at. record at { unfetched = at.unfetched ++ entry ∷ [] }) s.controller.queues) d.q) =
          subst (λ (qs : List ServedQueue). AllByRecursion (λ (y : SubEntry). y.cid ≡ r.cid → y ≡ io_entry r.cid request (spelling l.first)) (unfetched_at qs d.q)) queues
          (subst (λ (n : ℕ). AllByRecursion (λ (y : SubEntry). y.cid ≡ r.cid → y ≡ io_entry r.cid request (spelling l.first)) (unfetched_at (a.after_submit d s).controller.queues n)) its_queue l.entry.unfetched) in
          let is : entry ≡ io_entry r.cid request (spelling l.first) =
          entry_posted s.controller.queues d.q pair.0 entry (λ (y : SubEntry). y.cid ≡ r.cid → y ≡ io_entry r.cid request (spelling l.first)) pair.1 all (ap (λ (y : SubEntry). y.cid) its ∙ sym its_cid) in
          let pointer : pointer_of request.kind (spelling l.first) ≡ pointer_of d.request.kind (spelling (draft_first d)) = sym (ap (λ (y : SubEntry). y.sgl1) is) ∙ ap (λ (y : SubEntry). y.sgl1) its in
          let spelled : spelling l.first ≡ spelling (draft_first d) =
          sym (pointer_lists request.kind (spelling l.first) has) ∙ pointer ∙ pointer_lists d.request.kind (spelling (draft_first d)) (ap (λ (x : Request). has_list x.kind) asked ∙ has) in
          some_is (sym l.read ∙ ap descriptor_of spelled ∙ read)
    ]
  where
    x : Found s d
    x = found_draft s d events.Accepted g

    within : In x.command s.host.records
    within = in_found (is_at d.q d.cid) s.host.records (found_draft s d events.Accepted g).command (found_draft s d events.Accepted g).at

    low : (p : ℕ) → is_among (pages_of (found_draft s d events.Accepted g).command) p ≡ true → p < 65536
    low p h = omega (arith, page_below s g.stood.grounds (found_draft s d events.Accepted g).command within p h, g.stood.few)

    read : descriptor_of (spelling (draft_first d)) ≡ Some (draft_first d)
    read = first_read d g.proper
        (λ p h. low p (data_of (found_draft s d events.Accepted g).command p (ap (λ (xs : List ℕ). is_among xs p) (sym (found_draft s d events.Accepted g).of.data_pages) ∙ h)))
        (λ p h. low p (chain_of (found_draft s d events.Accepted g).command p (ap (λ (xs : List ℕ). is_among xs p) (sym (found_draft s d events.Accepted g).of.chain_pages) ∙ h)))

    live : in_state is_live s d.q ≡ true
    live =
        not-false _ (first_fails (not (in_state is_live s d.q)) refusals.QueueGone ((queue_full s d.q, refusals.QueueFull) ∷ [])
        (rest_fails (is_none d.entry) refusals.NotBuilt ((not (in_state is_live s d.q), refusals.QueueGone) ∷ (queue_full s d.q, refusals.QueueFull) ∷ [])
        (rest_fails (not (record_is (is_of is_drafted d.request (numbers_of d.data_pages) (numbers_of d.chain_pages)) s d.q d.cid)) refusals.Stranger
        ((is_none d.entry, refusals.NotBuilt) ∷ (not (in_state is_live s d.q), refusals.QueueGone) ∷ (queue_full s d.q, refusals.QueueFull) ∷ []) g.ok.0)))

    queues : (a.after_submit d s).controller.queues ≡ change d.q (λ at. record at { unfetched = at.unfetched ++ entry ∷ [] }) s.controller.queues
    queues =
        ap (λ (o : Option SubEntry). (option_map_or (λ entry. a.posted d.q entry (a.on_records (with_record d.q d.cid a.submitted) (a.on_memory (with_pages (d.data_pages ++ d.chain_pages)) s))) o s).controller.queues) built
        ∙ ap (λ (dev : Controller). dev.queues) (controller-posted d.q entry (a.on_records (with_record d.q d.cid a.submitted) (a.on_memory (with_pages (d.data_pages ++ d.chain_pages)) s)))

-- Every event

chains_move : (drafts : List DraftContents) (s : State) (e : Event) (reply : Reply) → Going s e reply
    → RecordsMove (λ r. OwnsFit Modelled r.q r.work (pages_of r) × ChainKnown drafts s r)
    (λ r. CommandStands (a.after s e reply).memory (a.after s e reply).controller.queues (a.after s e reply).controller.jobs r → ChainKnown (submitted_by e reply ++ drafts) (a.after s e reply) r) s e
chains_move drafts s e reply g = record {
  stays = λ r within free p stands sub. kept r within sub r.work p.0 (p.1 sub);
  reserves = λ d stands sub. absurd (true≢false (sym sub));
  sends = λ adm id stands sub. tt;
  submits = λ d entry r is built at fits p stands sub.
      subst (λ (x : Event). Going s x reply → CommandStands (a.after s x reply).memory (a.after s x reply).controller.queues (a.after s x reply).controller.jobs (a.submitted r) → ChainedIfIo (submitted_by x reply ++ drafts) (a.after s x reply) (a.submitted r) r.work) (sym is)
      (λ g' stands'. new d reply g' entry r built at fits r.work refl stands') g stands;
  reaps = λ q cid st entry request r is seen n x at w p stands sub. absurd (true≢false (sym sub));
  loses = λ r within sent free p stands sub. absurd (true≢false (sym sub));
  collects = λ r p stands sub. absurd (true≢false (sym sub));
}
  where
    kept : (r : Record) → In r s.host.records → is_submitted r.phase ≡ true → (w : Work) → OwnsFit Modelled r.q w (pages_of r) → ChainedIfIo drafts s r w → ChainedIfIo (submitted_by e reply ++ drafts) (a.after s e reply) r w
    kept r within sub (Management adm) fit h = tt
    kept r within sub (Io request) fit h = record {
      draft = h.draft;
      latest = same_draft s e reply drafts r.q r.cid (other_draft s e reply g r within sub) ∙ h.latest;
      entry = h.entry;
      built = h.built;
      of = h.of;
      list = still.0;
      first = λ has. still.1 ∙ h.first has;
    }
      where
        still : (l' : ListStands (a.after s e reply).memory (a.after s e reply).controller.queues (a.after s e reply).controller.jobs r request) × (l'.first ≡ h.list.first)
        still = list_kept s.memory (a.after s e reply).memory s.controller.queues (a.after s e reply).controller.queues s.controller.jobs (a.after s e reply).controller.jobs r request
            ((stay_after s e reply g.ok g.stood).chains r within sub) (λ wanted has. entry_kept s e reply g r.q r.cid fit (other_draft s e reply g r within sub) wanted has) h.list

    new : (d : DraftContents) (reply : Reply) → Going s (events.Submit d) reply → (entry : SubEntry) (r : Record) → d.entry ≡ Some entry → record_at s.host d.q d.cid ≡ Some r
        → is_of is_drafted d.request (numbers_of d.data_pages) (numbers_of d.chain_pages) r ≡ true → (w : Work) → r.work ≡ w
        → StandsAs (a.after s (events.Submit d) reply).memory (a.after s (events.Submit d) reply).controller.queues (a.after s (events.Submit d) reply).controller.jobs (a.submitted r) r.work
        → ChainedIfIo (submitted_by (events.Submit d) reply ++ drafts) (a.after s (events.Submit d) reply) (a.submitted r) w
    new d reply g entry r built at fits (Management adm) w stands = tt
    new d events.Accepted g entry r built at fits (Io request) w stands =
        let ids = ids_of s d.q d.cid r at in
        let of = (submits_of d r fits).0 in
        let asked : d.request ≡ request = (cc (sym of.work ∙ w)) in
        let l = (subst (StandsAs (a.after_submit d s).memory (a.after_submit d s).controller.queues (a.after_submit d s).controller.jobs (a.submitted r)) w stands).1 refl in
        record {
          draft = d;
          latest = rw (ids.0, ids.1) (rw (eq-eqb d.q d.q refl, eq-eqb d.cid d.cid refl) refl);
          entry = entry;
          built = built;
          of = record { work = of.work; data_pages = of.data_pages; chain_pages = of.chain_pages };
          list = l;
          first = λ has. submitted_first s d g entry built (a.submitted r) request ids.0 ids.1 asked has l;
        }
    new d reply g entry r built at fits (Io request) w stands = absurd g.ok.1

abbrev pub AllChained : List DraftContents → State → Type 0
AllChained drafts s = AllByRecursion (ChainKnown drafts s) s.host.records

chained_on : (drafts : List DraftContents) (s : State) (e : Event) (reply : Reply) → Going s e reply → AllByRecursion (ChainKnown drafts s) s.host.records
    → AllByRecursion (ChainKnown (submitted_by e reply ++ drafts) (a.after s e reply)) (a.after s e reply).host.records
chained_on drafts s e reply g h =
    let t = a.after s e reply in
    let stood = stood_on s e reply g.proper g.ok g.trusted g.stood in
    all_in_both (CommandStands t.memory t.controller.queues t.controller.jobs) (λ r. CommandStands t.memory t.controller.queues t.controller.jobs r → ChainKnown (submitted_by e reply ++ drafts) t r) (ChainKnown (submitted_by e reply ++ drafts) t) t.host.records
    (λ r within f c. f c)
    (records_event (λ r. OwnsFit Modelled r.q r.work (pages_of r) × ChainKnown drafts s r)
    (λ r. CommandStands t.memory t.controller.queues t.controller.jobs r → ChainKnown (submitted_by e reply ++ drafts) t r) s e reply (chains_move drafts s e reply g) g.ok g.stood.grounds
    (all_in_both (ChainKnown drafts s) (λ r. OwnsFit Modelled r.q r.work (pages_of r)) (λ r. OwnsFit Modelled r.q r.work (pages_of r) × ChainKnown drafts s r) s.host.records
    (λ r within f p. (f, p)) (admins_of s g.stood.grounds) h))
    stood.commands

refused_same : (drafts : List DraftContents) (e : Event) (why : Refusal) (touched : List ℕ) (s : State) → AllChained drafts s → AllChained (submitted_by e (events.Refused why touched) ++ drafts) s
refused_same drafts (events.Submit d) why touched s h = h
refused_same drafts e why touched s h = h

-- a refused event submits nothing, so the drafts are as they were
chained_step : (s : State) (e : Event) (reply : Reply) (new : State) (drafts : List DraftContents) → Step s e reply new → s.trusted ≡ true → new.trusted ≡ true → Stood s → AllChained drafts s → AllChained (submitted_by e reply ++ drafts) new
chained_step s e reply new drafts step t u stood h =
    left_step (AllChained (submitted_by e reply ++ drafts)) s e reply new step t u stood
    (λ why touched is. subst (λ (x : Reply). AllChained (submitted_by e x ++ drafts) s) (sym is) (refused_same drafts e why touched s h)) (λ g. chained_on drafts s e reply g h)

chained_along : (made : List Made) (s end : State) (drafts : List DraftContents) → Steps s made end → Unforged s made → Stood s → AllChained drafts s → AllChained (drafts_of made ++ drafts) end
chained_along [] s end drafts steps u stood h = subst (AllChained drafts) (sym steps) h
chained_along (m ∷ made) s end drafts (is, mid, step, rest) u stood h =
    let next = unforged_next m made s mid step u in
    subst (λ (ds : List DraftContents). AllChained ds end) (sym (append_assoc (drafts_of made) (submitted_by m.event m.reply) drafts))
    (chained_along made mid end (submitted_by m.event m.reply ++ drafts) rest next (stood_step s m.event m.reply mid step u.trusted next.trusted stood)
    (chained_step s m.event m.reply mid drafts step u.trusted next.trusted stood h))

-- The law

same_pointer : (kind : Kind) (x y : Descriptor) → (has_list kind ≡ true → x ≡ y) → pointer_of kind (spelling x) ≡ pointer_of kind (spelling y)
same_pointer kind x y same = elim (cases_Bool (has_list kind)) [
  | inl has ↦ ap (λ (d : Descriptor). pointer_of kind (spelling d)) (same has)
  | inr still ↦ pointer_still kind (spelling x) still ∙ sym (pointer_still kind (spelling y) still)
]

pub chains_drafted : chains_are_the_drafts
chains_drafted image made end q cid r request run found sub work =
    let s0 : State = opening run.pages run.queues run.entries run.segment image in
    let all : AllChained (drafts_of made ++ []) end =
    chained_along made s0 end [] run.steps (unforged_run image made end run) (stood_at_opening run.pages run.queues run.entries run.segment image run.opens) tt in
    let known : Chained (drafts_of made ++ []) end r request =
    subst (ChainedIfIo (drafts_of made ++ []) end r) work (all-found (ChainKnown (drafts_of made ++ []) end) (is_at q cid) end.host.records r found all sub) in
    of known
  where
    of : Chained (drafts_of made ++ []) end r request → (d : DraftContents) × (draft_of q cid (drafts_of made) ≡ Some d) × HasListOf d end r request
    of h =
        let ids = ids_of end q cid r found in (
          h.draft,
          ap (λ (n : ℕ). draft_of n cid (drafts_of made)) (sym ids.0) ∙ ap (λ (n : ℕ). draft_of r.q n (drafts_of made)) (sym ids.1) ∙ ap (draft_of r.q r.cid) (sym (append-nil (drafts_of made))) ∙ h.latest,
          record {
            is_built = ap is_some h.built;
            request_is = (cc (sym h.of.work ∙ work));
            data_pages = h.of.data_pages;
            chain_pages = h.of.chain_pages;
            spells = λ has. subst (λ (x : Descriptor). Spells (byte_at end.memory) x (joined_parts request.pieces r.data_pages)) (h.first has)
                (spells_there (only (on_pages r.chain_pages) (byte_at end.memory)) (byte_at end.memory) (more_than_only (on_pages r.chain_pages) (byte_at end.memory)) h.list.first (joined_parts request.pieces r.data_pages) (h.list.spells has));
            named = subst (λ (pointer : List ℕ). All (λ (e : SubEntry). e.sgl1 ≡ pointer) (entries_of end r.q r.cid)) (same_pointer request.kind h.list.first (draft_first h.draft) h.first)
                (all-to (λ e. e.sgl1 ≡ pointer_of request.kind (spelling h.list.first)) (entries_of end r.q r.cid) (entries_named end r.q r.cid (io_entry r.cid request (spelling h.list.first)) h.list.entry));
          },
        )
