-- What a bench submits was reserved and filled.
use Rattle.machine_model.specs.Events as events
use Rattle.machine_model.specs.Step as machine
use Rattle.step_core.specs.declared.step.Reply.TheVariants as reply
use Rattle.step_core.specs.declared.step.Step.TheVariants as step
use Rattle.std.proofs.Common.{◌≡◌, ℕ, ◌==◌, Bool, true, false, ◌&&◌, List, [], ◌∷◌, ◌++◌, refl, ap, sym, ◌∙◌, subst, eqb-true, Some, replicate, eq-eqb, not, is_some, Option, None, length, append_assoc, append-nil, arith, inl, inr}
use Rattle.std.{proofs.lemmas.{Bool.{true≢false, and_parts, not-true}, List.Elements.{All-head, All-tail}}, specs.List.{list_any, AllByRecursion}}
use Rattle.std.specs.Option.{option_map}
use Rattle.io_commands.specs.{Asked.Request, DataBytes.{PagesOut, filled, gathered}, Drafts.{DraftContents, built}}
use Rattle.machine_model.{proofs.Moves.drafted_record, specs.{Events.Event, Image.{is_draft, draft_of}, Proper.IsProperDraft}}
use Rattle.machine_model.specs.{Script.{Table, table, filled_draft}, State.{State}, Step.{IsReserved, IsNewIdentifier, HostPart, zeroed}}
use Rattle.step_core.{proofs.Order.{bench_opens, bench_keeps}, specs.{Bench.{event_at, told, kept}, Going.IsTableInOrder, Opening.opening_of}}
use Rattle.step_core.specs.Values.{Reply, Step}
use Rattle.host_core.proofs.Outstanding.{none_there, record_reserved, reserved_ok, find_last}
use Rattle.host_core.specs.Firsts.{with_first, without_first}
use Rattle.run_laws.proofs.Filled.{DraftMove, Rested, Stepped, Added, Filled, Built, Taken, moves, gathered_zeros, Tracked, tracked}
use Rattle.run_laws.proofs.Standing.{any_with, few_with, Few, few_more, few_without, gone, any_without, any_of_more, Drafts, step_drafts, takes_by, none_last}
use Rattle.run_laws.specs.Drafts.{ReservedCommand, IsReservedDraft, benches_submit_what_they_reserved_and_filled, takes_draft, fills_of, data_bytes, written_over, submitted_drafts_were_reserved}
use Rattle.run_laws.specs.Values.{Done, Goes}
use Rattle.page_memory.specs.Pages.{zero_page}
use Rattle.two_sides.proofs.Served.{good_is}
use Rattle.std.proofs.lemmas.Bool.{cases_Bool}
use Rattle.page_memory.proofs.Lists.{found_any, all-found}

-- Each draft that a bench keeps is that of a drafted command, and it keeps at most one of each name.

pub record DraftsStand (t : Table) : Type 0 where
  pub drafted : (q cid : ℕ) → list_any (is_draft q cid) t.drafts ≡ true → Drafts q cid t.world.host.records
  pub few : (q cid : ℕ) → Few (is_draft q cid) t.drafts

-- A reservation

pub none_named : (t : Table) (new : State) (q : ℕ) (request : Request) (d : DraftContents) → machine.Step t.world (events.Reserve q request) (events.Reserved d) new → DraftsStand t → list_any (is_draft d.q d.cid) t.drafts ≡ false
none_named t new q request d step h = elim (cases_Bool (list_any (is_draft d.q d.cid) t.drafts)) [
  | inl e ↦ rw e (grind (arith, found_any, none_there))
  | inr e ↦ rw e refl
]

reserved_drafted : (s new : State) (q : ℕ) (request : Request) (d : DraftContents) → machine.Step s (events.Reserve q request) (events.Reserved d) new → Drafts d.q d.cid new.host.records
reserved_drafted s new q request d step = (drafted_record d, record_reserved s new q request d step, record { phase = refl; request = d.request; work = refl })

-- One step

names : (q cid : ℕ) (d : DraftContents) → is_draft q cid d ≡ true → (d.q ≡ q) × (d.cid ≡ cid)
names q cid d e = let both = and_parts (d.q == q) (d.cid == cid) e in (eqb-true d.q q both.0, eqb-true d.cid cid both.1)

-- the drafts have the names that they had
same_names : (t new : Table) (k n : ℕ) (f : DraftContents → DraftContents) → ((q cid : ℕ) (d : DraftContents) → is_draft q cid (f d) ≡ is_draft q cid d) → new.world ≡ t.world → new.drafts ≡ with_first (is_draft k n) f t.drafts → DraftsStand t → DraftsStand new
same_names t new k n f same world drafts h =
    record {
      drafted = λ q cid there.
          subst (λ (s : State). Drafts q cid s.host.records) (sym world)
          (h.drafted q cid (sym (any_with (is_draft q cid) (is_draft k n) f (same q cid) t.drafts) ∙ ap (list_any (is_draft q cid)) (sym drafts) ∙ there));
      few = λ q cid. subst (Few (is_draft q cid)) (sym drafts) (few_with (is_draft q cid) (is_draft k n) f (same q cid) t.drafts (h.few q cid));
    }

added : (t new : Table) (q : ℕ) (request : Request) (d : DraftContents) → machine.Step t.world (events.Reserve q request) (events.Reserved d) new.world → new.drafts ≡ t.drafts ++ d ∷ [] → DraftsStand t → DraftsStand new
added t new q request d step drafts h =
    let by_name : (k n : ℕ) → (d.q ≡ k) × (d.cid ≡ n) → Drafts k n new.world.host.records =
    λ k n is. subst (λ (x : ℕ). Drafts x n new.world.host.records) is.0 (subst (λ (x : ℕ). Drafts d.q x new.world.host.records) is.1 (reserved_drafted t.world new.world q request d step)) in
    let alone : (k n : ℕ) → (d.q ≡ k) × (d.cid ≡ n) → list_any (is_draft k n) t.drafts ≡ false =
    λ k n is. ap (λ (x : ℕ). list_any (is_draft x n) t.drafts) (sym is.0) ∙ ap (λ (x : ℕ). list_any (is_draft d.q x) t.drafts) (sym is.1) ∙ none_named t new.world q request d step h in
    record {
      drafted = λ k n there.
          any_of_more (is_draft k n) t.drafts d (Drafts k n new.world.host.records) (ap (list_any (is_draft k n)) (sym drafts) ∙ there)
          (λ early. step_drafts k n t.world (events.Reserve q request) (events.Reserved d) new.world step refl (h.drafted k n early))
          (λ late. by_name k n (names k n d late));
      few = λ k n. subst (Few (is_draft k n)) (sym drafts) (few_more (is_draft k n) t.drafts d (h.few k n) (λ late. alone k n (names k n d late)));
    }

taken : (t new : Table) (k n : ℕ) (e : Event) → machine.Step t.world e events.Accepted new.world → ((q cid : ℕ) → takes_by q cid e events.Accepted ≡ ((k == q) && (n == cid)))
    → new.drafts ≡ without_first (is_draft k n) t.drafts → DraftsStand t → DraftsStand new
taken t new k n e step takes drafts h =
    record {
      drafted = λ q cid there. left q cid (ap (list_any (is_draft q cid)) (sym drafts) ∙ there) ((k == q) && (n == cid)) refl;
      few = λ q cid. subst (Few (is_draft q cid)) (sym drafts) (few_without (is_draft q cid) (is_draft k n) t.drafts (h.few q cid));
    }
  where
    left : (q cid : ℕ) → list_any (is_draft q cid) (without_first (is_draft k n) t.drafts) ≡ true → (b : Bool) → ((k == q) && (n == cid)) ≡ b → Drafts q cid new.world.host.records
    left q cid there false is = step_drafts q cid t.world e events.Accepted new.world step (takes q cid ∙ is) (h.drafted q cid (any_without (is_draft q cid) (is_draft k n) t.drafts there))
    left q cid there true is =
        let both = and_parts (k == q) (n == cid) is in
        absurd (true≢false (sym there ∙ ap (λ (x : ℕ). list_any (is_draft x cid) (without_first (is_draft k n) t.drafts)) (sym (eqb-true k q both.0))
        ∙ ap (λ (x : ℕ). list_any (is_draft k x) (without_first (is_draft k n) t.drafts)) (sym (eqb-true n cid both.1)) ∙ gone (is_draft k n) t.drafts (h.few k n)))

pub stand_on : (t : Table) (what : Step) (answer : Reply) (new : Table) → DraftMove t what answer new → DraftsStand t → DraftsStand new
stand_on t what answer new (Rested drafts world none) h =
    record {
      drafted = λ q cid there. subst (λ (s : State). Drafts q cid s.host.records) (sym world) (h.drafted q cid (ap (list_any (is_draft q cid)) (sym drafts) ∙ there));
      few = λ q cid. subst (Few (is_draft q cid)) (sym drafts) (h.few q cid);
    }
stand_on t what answer new (Stepped drafts e r step untaken none) h =
    record {
      drafted = λ q cid there. step_drafts q cid t.world e r new.world step (untaken q cid) (h.drafted q cid (ap (list_any (is_draft q cid)) (sym drafts) ∙ there));
      few = λ q cid. subst (Few (is_draft q cid)) (sym drafts) (h.few q cid);
    }
stand_on t what answer new (Added q request d step is says drafts none) h = added t new q request d step drafts h
stand_on t what answer new (Filled k n bytes d fill found fits world drafts untaken) h = same_names t new k n (filled_draft bytes) (λ q cid x. refl) world drafts h
stand_on t what answer new (Built k n d found world drafts none) h = same_names t new k n built (λ q cid x. refl) world drafts h
stand_on t what answer new (Taken k n e step takes its drafts none) h = taken t new k n e step takes drafts h

-- Along the steps

pub none_kept : {s : State} → DraftsStand (table s)
none_kept = record { drafted = λ q cid there. absurd cc; few = λ q cid. tt }

pub stand_along : (done : List Done) (t end : Table) → Goes t done end → DraftsStand t → DraftsStand end
stand_along [] t end is h = subst DraftsStand (sym is) h
stand_along (d ∷ done) t end (at, rest) h =
    stand_along done d.after end rest (stand_on d.before d.what d.answer d.after (moves d) (subst DraftsStand (sym at) h))

-- What a bench submits was reserved and filled.

-- A bench submits the draft that it reserved, with the bytes of its fills.

-- Steps in two parts

pub parted : (xs ys : List Done) (t end : Table) → Goes t (xs ++ ys) end → (mid : Table) × Goes t xs mid × Goes mid ys end
parted [] ys t end goes = (t, refl, goes)
parted (x ∷ xs) ys t end (at, rest) = let r = parted xs ys x.after end rest in (r.0, (at, r.1), r.2)

ordered : (done : List Done) (t end : Table) → Goes t done end → IsTableInOrder t → IsTableInOrder end
ordered [] t end is h = subst IsTableInOrder (sym is) h
ordered (d ∷ done) t end (at, rest) h = ordered done d.after end rest (bench_keeps d.before d.what d.answer d.after (subst IsTableInOrder (sym at) h) d.does)

-- A reservation

front_zeroed : (xs ys : PagesOut) → zeroed (xs ++ ys) → AllByRecursion (λ page. page.1 ≡ zero_page) xs
front_zeroed [] ys h = tt
front_zeroed (x ∷ xs) ys h = (All-head (λ (p : ℕ × List ℕ). p.1 ≡ zero_page) x (xs ++ ys) h, front_zeroed xs ys (All-tail (λ (p : ℕ × List ℕ). p.1 ≡ zero_page) x (xs ++ ys) h))

reserved_as : (c : ReservedCommand) (r : events.Reply) → ◌≡◌ {A = Reply} (reply.Reserved c.q c.cid c.data_pages c.chain_pages) (told r)
    → machine.Step c.reservation.before.world (events.Reserve c.q c.request) r c.reservation.after.world
    → c.reservation.after ≡ record (kept c.reservation.before (step.Reserve c.q c.request) r) { world = c.reservation.after.world } → (draft : DraftContents) × IsReservedDraft c draft
reserved_as c (events.Reserved d) tells is keeps = (d, record { queue = cc; identifier = cc; step = is; kept = ap (λ (x : Table). x.drafts) keeps })
reserved_as c r tells is keeps = absurd cc

reserved_draft : (c : ReservedCommand) → (draft : DraftContents) × IsReservedDraft c draft
reserved_draft c = grind (arith, reserved_as)

-- The law

pub submits_filled : benches_submit_what_they_reserved_and_filled
submits_filled c =
    record {
      reserved = made.0;
      is_reserved = made.1;
      submitted = end.draft;
      event =
          ap (event_at c.submission.before) c.submits
          ∙ ap (option_map events.Submit) (ap (λ (t : Table). draft_of c.q c.cid t.drafts) at_submission.2.0 ∙ end.found);
      queue = end.leaves.queue ∙ made.1.queue;
      identifier = end.leaves.identifier ∙ made.1.identifier;
      request = end.leaves.request ∙ its.request;
      segment = end.leaves.segment;
      data_pages = end.leaves.data_pages;
      chain_pages = end.leaves.chain_pages;
      bytes =
          ap (λ (r : Request). gathered r.pieces end.draft.data_pages) (sym its.request) ∙ end.leaves.bytes
          ∙ ap (λ (bytes : List ℕ). written_over (data_bytes made.0.request) bytes (fills_of c.q c.cid c.between)) zeros
          ∙ ap (λ (r : Request). written_over (data_bytes r) (replicate (data_bytes r) 0) (fills_of c.q c.cid c.between)) its.request;
      page_bytes = end.leaves.pages
          ∙ ap (λ (bytes : List ℕ). filled made.0.request.pieces made.0.data_pages (written_over (data_bytes made.0.request) bytes (fills_of c.q c.cid c.between))) zeros
          ∙ ap (λ (r : Request). filled r.pieces made.0.data_pages (written_over (data_bytes r) (replicate (data_bytes r) 0) (fills_of c.q c.cid c.between))) its.request;
    }
  where
    start : Table
    start = table (opening_of c.config c.image)

    at_submission : (mid : Table) × Goes (table (opening_of c.config c.image)) (c.earlier ++ c.reservation ∷ c.between) mid × Goes mid (c.submission ∷ c.later) c.end
    at_submission = parted (c.earlier ++ c.reservation ∷ c.between) (c.submission ∷ c.later) start c.end c.goes

    at_reservation : (mid : Table) × Goes (table (opening_of c.config c.image)) c.earlier mid × Goes mid (c.reservation ∷ c.between) at_submission.0
    at_reservation = parted c.earlier (c.reservation ∷ c.between) start at_submission.0 at_submission.1

    order : IsTableInOrder at_reservation.0
    order = ordered c.earlier start at_reservation.0 at_reservation.1 (bench_opens c.config c.image c.opens c.is_image)

    order_after : IsTableInOrder c.reservation.after
    order_after = bench_keeps c.reservation.before c.reservation.what c.reservation.answer c.reservation.after (subst IsTableInOrder (sym at_reservation.2.0) order) c.reservation.does

    stand : DraftsStand c.reservation.before
    stand = subst DraftsStand (sym at_reservation.2.0) (stand_along c.earlier start at_reservation.0 at_reservation.1 none_kept)

    made : (draft : DraftContents) × IsReservedDraft c draft
    made = reserved_draft c

    its : IsReserved c.reservation.before.world c.q c.request made.0
    its = (reserved_ok c.reservation.before.world c.reservation.after.world c.q c.request made.0 made.1.step).1

    own : (made.0.q == c.q) ≡ true → (made.0.cid == c.cid) ≡ true → ((made.0.q == c.q) && (made.0.cid == c.cid)) ≡ true
    own x y = rw (x, y) refl

    none : list_any (is_draft c.q c.cid) c.reservation.before.drafts ≡ false
    none =
        ap (λ (k : ℕ). list_any (is_draft k c.cid) c.reservation.before.drafts) (sym made.1.queue) ∙ ap (λ (n : ℕ). list_any (is_draft made.0.q n) c.reservation.before.drafts) (sym made.1.identifier)
        ∙ none_named c.reservation.before c.reservation.after.world c.q c.request made.0 made.1.step stand

    found : draft_of c.q c.cid c.reservation.after.drafts ≡ Some made.0
    found =
        ap (draft_of c.q c.cid) made.1.kept
        ∙ find_last (is_draft c.q c.cid) c.reservation.before.drafts made.0 none (own (eq-eqb made.0.q c.q made.1.queue) (eq-eqb made.0.cid c.cid made.1.identifier))

    proper : IsProperDraft made.0
    proper = all-found IsProperDraft (is_draft c.q c.cid) c.reservation.after.drafts made.0 found order_after.drafts

    end : Tracked c.q c.cid made.0 (fills_of c.q c.cid c.between) at_submission.0
    end = tracked c.q c.cid c.between c.reservation.after at_submission.0 made.0 at_reservation.2.1 (not-true (list_any (takes_draft c.q c.cid) c.between) c.stays) found proper

    zeros : gathered made.0.request.pieces made.0.data_pages ≡ replicate (data_bytes made.0.request) 0
    zeros =
        gathered_zeros made.0.request.pieces made.0.data_pages (good_is made.0.request proper.draft.good).crosses
        (front_zeroed made.0.data_pages made.0.chain_pages its.zero) proper.draft.pieces_have_pages

-- Each draft that a bench keeps was reserved in one of its steps, and was neither submitted nor cancelled since.

-- a command of this name was reserved in these steps, and its draft was not taken since
record ReservedIn (past : List Done) (q cid : ℕ) : Type 0 where
  earlier : List Done
  reservation : Done
  between : List Done
  request : Request
  data_pages : ℕ
  chain_pages : ℕ
  parts : past ≡ earlier ++ reservation ∷ between
  reserves : reservation.what ≡ step.Reserve q request
  reserved : reservation.answer ≡ reply.Reserved q cid data_pages chain_pages
  stays : list_any (takes_draft q cid) between ≡ false

-- so was that of each draft that is kept
record AreReserved (past : List Done) (t : Table) : Type 0 where
  stand : DraftsStand t
  all : (q cid : ℕ) → list_any (is_draft q cid) t.drafts ≡ true → ReservedIn past q cid

-- One step

one_more : (past : List Done) (m : Done) (q cid : ℕ) → takes_draft q cid m ≡ false → ReservedIn past q cid → ReservedIn (past ++ m ∷ []) q cid
one_more past m q cid far h =
    record {
      earlier = h.earlier;
      reservation = h.reservation;
      between = h.between ++ m ∷ [];
      request = h.request;
      data_pages = h.data_pages;
      chain_pages = h.chain_pages;
      parts = ap (λ (l : List Done). l ++ m ∷ []) h.parts ∙ append_assoc h.earlier (h.reservation ∷ h.between) (m ∷ []);
      reserves = h.reserves;
      reserved = h.reserved;
      stays = none_last (takes_draft q cid) h.between m h.stays far;
    }

reserved_now : (past : List Done) (m : Done) (k : ℕ) (request : Request) (d : DraftContents) → d.q ≡ k → m.what ≡ step.Reserve k request
    → m.answer ≡ reply.Reserved d.q d.cid (length d.data_pages) (length d.chain_pages) → (q cid : ℕ) → is_draft q cid d ≡ true → ReservedIn (past ++ m ∷ []) q cid
reserved_now past m k request d queue is says q cid named =
    let both = and_parts (d.q == q) (d.cid == cid) named in
    let dq = eqb-true d.q q both.0 in
    record {
      earlier = past;
      reservation = m;
      between = [];
      request = request;
      data_pages = length d.data_pages;
      chain_pages = length d.chain_pages;
      parts = refl;
      reserves = is ∙ ap (λ (n : ℕ). step.Reserve n request) (sym queue ∙ dq);
      reserved = says ∙ ap (λ (n : ℕ). reply.Reserved n d.cid (length d.data_pages) (length d.chain_pages)) dq
          ∙ ap (λ (n : ℕ). reply.Reserved q n (length d.data_pages) (length d.chain_pages)) (eqb-true d.cid cid both.1);
      stays = refl;
    }

all_more : (past : List Done) (m : Done) → DraftMove m.before m.what m.answer m.after → AreReserved past m.before → (q cid : ℕ) → list_any (is_draft q cid) m.after.drafts ≡ true → ReservedIn (past ++ m ∷ []) q cid
all_more past m (Rested drafts world idle) h q cid there = one_more past m q cid (idle q cid).1 (h.all q cid (ap (list_any (is_draft q cid)) (sym drafts) ∙ there))
all_more past m (Stepped drafts e r step untaken idle) h q cid there = one_more past m q cid (idle q cid).1 (h.all q cid (ap (list_any (is_draft q cid)) (sym drafts) ∙ there))
all_more past m (Added k request d step is says drafts idle) h q cid there =
    any_of_more (is_draft q cid) m.before.drafts d (ReservedIn (past ++ m ∷ []) q cid) (ap (list_any (is_draft q cid)) (sym drafts) ∙ there)
    (λ early. one_more past m q cid (idle q cid).1 (h.all q cid early))
    (λ late. reserved_now past m k request d (reserved_ok m.before.world m.after.world k request d step).1.queue is says q cid late)
all_more past m (Filled k n bytes d fill found fits world drafts untaken) h q cid there =
    one_more past m q cid (untaken q cid)
    (h.all q cid (sym (any_with (is_draft q cid) (is_draft k n) (filled_draft bytes) (λ x. refl) m.before.drafts) ∙ ap (list_any (is_draft q cid)) (sym drafts) ∙ there))
all_more past m (Built k n d found world drafts idle) h q cid there =
    one_more past m q cid (idle q cid).1
    (h.all q cid (sym (any_with (is_draft q cid) (is_draft k n) built (λ x. refl) m.before.drafts) ∙ ap (list_any (is_draft q cid)) (sym drafts) ∙ there))
all_more past m (Taken k n e step takes its drafts none) h q cid there = elim (cases_Bool ((k == q) && (n == cid))) [
  | inl is ↦
      let both = and_parts (k == q) (n == cid) is in
      absurd (true≢false (sym (ap (list_any (is_draft q cid)) (sym drafts) ∙ there) ∙ ap (λ (x : ℕ). list_any (is_draft x cid) (without_first (is_draft k n) m.before.drafts)) (sym (eqb-true k q both.0))
      ∙ ap (λ (x : ℕ). list_any (is_draft k x) (without_first (is_draft k n) m.before.drafts)) (sym (eqb-true n cid both.1)) ∙ gone (is_draft k n) m.before.drafts (h.stand.few k n)))
  | inr is ↦ one_more past m q cid (its q cid ∙ is) (h.all q cid (any_without (is_draft q cid) (is_draft k n) m.before.drafts (ap (list_any (is_draft q cid)) (sym drafts) ∙ there)))
]

more : (past : List Done) (m : Done) → AreReserved past m.before → AreReserved (past ++ m ∷ []) m.after
more past m h = record { stand = stand_on m.before m.what m.answer m.after (moves m) h.stand; all = all_more past m (moves m) h }

-- Along the steps

along : (past done : List Done) (t end : Table) → Goes t done end → AreReserved past t → AreReserved (past ++ done) end
along past [] t end is h = subst (λ (l : List Done). AreReserved l end) (sym (append-nil past)) (subst (AreReserved past) (sym is) h)
along past (m ∷ done) t end (at, rest) h =
    subst (λ (l : List Done). AreReserved l end) (append_assoc past (m ∷ []) done)
    (along (past ++ m ∷ []) done m.after end rest (more past m (subst (AreReserved past) (sym at) h)))

there_if : (o : Option DraftContents) → is_some o ≡ true → (d : DraftContents) × (o ≡ Some d)
there_if None h = absurd (true≢false (sym h))
there_if (Some d) h = (d, refl)

pub were_reserved : submitted_drafts_were_reserved
were_reserved config image before later submission end q cid opens is_image goes submits kept =
    record {
      command = record {
        config = config;
        image = image;
        opens = opens;
        is_image = is_image;
        earlier = r.earlier;
        reservation = r.reservation;
        between = r.between;
        submission = submission;
        later = later;
        end = end;
        goes = subst (λ (l : List Done). Goes (table (opening_of config image)) (l ++ submission ∷ later) end) r.parts goes;
        q = q;
        cid = cid;
        request = r.request;
        data_pages = r.data_pages;
        chain_pages = r.chain_pages;
        reserves = r.reserves;
        reserved = r.reserved;
        submits = submits;
        stays = ap not r.stays;
      };
      its_config = refl;
      its_image = refl;
      steps_before = sym r.parts;
      its_step = refl;
      steps_behind = refl;
      queue = refl;
      identifier = refl;
    }
  where
    at : (mid : Table) × Goes (table (opening_of config image)) before mid × Goes mid (submission ∷ later) end
    at = parted before (submission ∷ later) (table (opening_of config image)) end goes

    found : (d : DraftContents) × (draft_of q cid submission.before.drafts ≡ Some d)
    found = there_if (draft_of q cid submission.before.drafts) kept

    r : ReservedIn before q cid
    r = (along [] before (table (opening_of config image)) at.0 at.1 (record { stand = none_kept; all = λ k n there. absurd cc })).all q cid
        (ap (λ (t : Table). list_any (is_draft q cid) t.drafts) (sym at.2.0) ∙ found_any (is_draft q cid) submission.before.drafts found.0 found.1)
