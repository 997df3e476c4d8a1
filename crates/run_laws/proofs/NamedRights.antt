-- A step leaves the records of all commands that it does not name as they are.
use Rattle.std.proofs.Common.{◌≡◌, ℕ, zero, suc, None, slice_get, option_map, ◌==◌, ◌&&◌, true, false, inl, inr, Option, Some, List, [], ◌∷◌, ◌++◌, find, map, refl, ap, ap₂, sym, ◌∙◌, subst, if◌then◌else◌, eqb-true, eq-eqb}
use Rattle.std.proofs.lemmas.Bool.{cases_Bool, and_parts, true≢false}
use Rattle.std.specs.Option.{option_map_or}
use Rattle.machine_model.proofs.{Headline.steps_keep, Moves.{HostMoves, ReapTells, host_moves, named as told, sent_record, drafted_record, creates_cq, creates_sq, sends, grants_cq, grants_sq, half_from}, Steps.{Accepts, kept_anyway, part_left}}
use Rattle.machine_model.specs.{Events.{Event, Reply}, Refusals.is_submitted, State.{State, HostQueue, Record, is_at, record_at, with_record, without_record}, Step.{HostPart, IsController}}
use Rattle.admin_commands.specs.declared.AdminKind.TheVariants.{Abort, DeleteSq, DeleteCq, CreateCq, CreateSq}
use Rattle.entry_codec.specs.{Status.is_success, declared.status.Status.Status}
use Rattle.machine_model.specs.After as a
use Rattle.machine_model.specs.declared.words.Reaped.{Reaped}
use Rattle.machine_model.specs.declared.words.Reaped.TheVariants as reaped
use Rattle.run_laws.proofs.Reachable.{data_of_commands, chains_of_commands, submission_rings, completion_rings}
use Rattle.machine_model.specs.{Claims.IsSound, Work.Work}
use Rattle.machine_model.specs.declared.words.Work.TheVariants.{Management}
use Rattle.machine_model.specs.declared.words.HostState.TheVariants.{Deleting, Live}
use Rattle.entry_codec.specs.declared.completion.ComEntry.{ComEntry}
use Rattle.queue_pair.specs.Rings.{next_tail, next_head, knowing}
use Rattle.page_ledger.specs.Owners.{is_among}
use Rattle.page_memory.specs.declared.page.Half.TheVariants.{Submission, Completion}
use Rattle.host_core.specs.declared.rights.Right.TheVariants as right
use Rattle.run_laws.specs.Reach.{HaveRight}
use Rattle.run_laws.specs.Named as spec
use Rattle.run_laws.specs.Named.{ended, is_of_queue, names, names_queue}

-- Records in a list

found-append : (rs : List Record) (new : Record) (k cid : ℕ) → is_at k cid new ≡ false → find (is_at k cid) (rs ++ new ∷ []) ≡ find (is_at k cid) rs
found-append [] new k cid h = rw h refl
found-append (r ∷ rs) new k cid h = elim (cases_Bool (is_at k cid r)) [ inl e ↦ rw e refl | inr e ↦ rw e (found-append rs new k cid h) ]

-- a command of one name is not one of another
other-name : (q c k cid : ℕ) (r : Record) → is_at q c r ≡ true → ((q == k) && (c == cid)) ≡ false → is_at k cid r ≡ false
other-name q c k cid r e n =
    let both = and_parts (r.q == q) (r.cid == c) e in
    let queue : r.q ≡ q = eqb-true r.q q both.0 in
    let identifier : r.cid ≡ c = eqb-true r.cid c both.1 in
    ap₂ (λ (x y : ℕ). (x == k) && (y == cid)) queue identifier ∙ n

found-with : (q c k cid : ℕ) (f : Record → Record) → ((r : Record) → is_at k cid (f r) ≡ is_at k cid r) → ((q == k) && (c == cid)) ≡ false → (rs : List Record)
    → find (is_at k cid) (with_record q c f rs) ≡ find (is_at k cid) rs
found-with q c k cid f keeps n [] = refl
found-with q c k cid f keeps n (r ∷ rs) = elim (cases_Bool (is_at q c r)) [
  | inl e ↦ let no = other-name q c k cid r e n in rw (e, keeps r, no) (found-with q c k cid f keeps n rs)
  | inr e ↦ rw e (elim (cases_Bool (is_at k cid r)) [ inl here ↦ rw here refl | inr gone ↦ rw gone (found-with q c k cid f keeps n rs) ])
]

found-without : (q c k cid : ℕ) → ((q == k) && (c == cid)) ≡ false → (rs : List Record) → find (is_at k cid) (without_record q c rs) ≡ find (is_at k cid) rs
found-without q c k cid n [] = refl
found-without q c k cid n (r ∷ rs) = elim (cases_Bool (is_at q c r)) [
  | inl e ↦ rw (e, other-name q c k cid r e n) (found-without q c k cid n rs)
  | inr e ↦ rw e (elim (cases_Bool (is_at k cid r)) [ inl here ↦ rw here refl | inr gone ↦ rw gone (found-without q c k cid n rs) ])
]

-- the commands of a queue that is retired are others than those of another queue
lost-stays : (q k cid : ℕ) (r : Record) → (q == k) ≡ false → is_at k cid r ≡ true → a.lost q r ≡ r
lost-stays q k cid r n e =
    let queue : r.q ≡ k = eqb-true r.q k (and_parts (r.q == k) (r.cid == cid) e).0 in
    elim (cases_Bool (r.q == q)) [
      | inl same ↦ let is : q ≡ k = sym (eqb-true r.q q same) ∙ queue in absurd (true≢false (sym (eq-eqb q k is) ∙ n))
      | inr other ↦ rw other refl
    ]

lost-named : (q k cid : ℕ) (r : Record) → is_at k cid (a.lost q r) ≡ is_at k cid r
lost-named q k cid r = elim (cases_Bool ((r.q == q) && is_submitted r.phase)) [ inl e ↦ rw e refl | inr e ↦ rw e refl ]

found-lost : (q k cid : ℕ) → (q == k) ≡ false → (rs : List Record) → find (is_at k cid) (map (a.lost q) rs) ≡ find (is_at k cid) rs
found-lost q k cid n [] = refl
found-lost q k cid n (r ∷ rs) = elim (cases_Bool (is_at k cid r)) [
  | inl e ↦ rw (lost-stays q k cid r n e, e) refl
  | inr e ↦ rw (lost-named q k cid r, e) (found-lost q k cid n rs)
]

-- The events

same-end : (what : Reaped) → ended what ≡ told what
same-end (reaped.Done cid st) = refl
same-end (reaped.AdminDone cid st dw0) = refl
same-end reaped.Empty = refl
same-end (reaped.Rejected why) = refl

abbrev Stays : State → ℕ → ℕ → Event → Reply → State → Type 0
Stays s k cid e reply t = names e reply k cid ≡ false → record_at t.host k cid ≡ record_at s.host k cid

moves : (s : State) (k cid : ℕ) → HostMoves (Stays s k cid) s
moves s k cid = record {
  reserves = λ q request d none is n. found-append s.host.records (drafted_record d) k cid n;
  submits = λ d entry r none built its live n. found-with d.q d.cid k cid a.submitted (λ x. refl) n s.host.records;
  cancels = λ d r its n. found-without d.q d.cid k cid n s.host.records;
  rings = λ q none n. refl;
  rests = λ q is n. refl;
  rejects = λ q why is n. refl;
  tells = λ q c st what e r request names-it heard w n. found-with q c k cid (a.held st e.hints) (λ x. refl) (other q c st what names-it n) s.host.records;
  hears = λ q c st what e r adm names-it heard w quiet unmade n. found-without q c k cid (other q c st what names-it n) s.host.records;
  notes = λ q c st what e r j names-it heard w n. found-without q c k cid (other q c st what names-it n) s.host.records;
  frees = λ q c st what e r j queue names-it heard w at alone good n. found-without q c k cid (other q c st what names-it n) s.host.records;
  makes_cq = λ q c st what e r j size base vector names-it heard w good n. found-without q c k cid (other q c st what names-it n) s.host.records;
  unmakes_cq = λ q c st what e r j size base vector queue names-it heard w at bad n. found-without q c k cid (other q c st what names-it n) s.host.records;
  makes_sq = λ q c st what e r j size base names-it heard w good n. found-without q c k cid (other q c st what names-it n) s.host.records;
  unmakes_sq = λ q c st what e r j size base queue names-it heard w at bad n. found-without q c k cid (other q c st what names-it n) s.host.records;
  collects = λ q c r f at held is n. found-with q c k cid a.collected (λ x. refl) n s.host.records;
  releases = λ f r its n. found-without f.q f.cid k cid n s.host.records;
  aborts = λ q c id none new n. found-append s.host.records (sent_record (Abort q c) id) k cid n;
  asks = λ q id queue none new live n. found-append s.host.records (sent_record (DeleteSq q) id) k cid n;
  drops = λ q id none new n. found-append s.host.records (sent_record (DeleteCq q) id) k cid n;
  creates_cqs = λ q vector id first queue none new granted n. found-append s.host.records (sent_record (creates_cq q vector first s) id) k cid n;
  creates_sqs = λ q id first queue none new granted n. found-append s.host.records (sent_record (creates_sq q first s) id) k cid n;
  retires = λ q queue none at deleted n. found-lost q k cid n s.host.records;
  forges = λ q slot bytes queue none at n. refl;
  resets = λ n. absurd (true≢false n);
}
  where
    other : (q c : ℕ) (st : Status) (what : Reaped) → ReapTells s q c st what → ((q == k) && option_map_or (λ x. x == cid) (ended what) false) ≡ false → ((q == k) && (c == cid)) ≡ false
    other q c st what tells n = subst (λ (o : Option ℕ). ((q == k) && option_map_or (λ x. x == cid) o false) ≡ false) (same-end what ∙ tells.names) n

pub others_stay : spec.other_commands_stay
others_stay old e reply new step k cid n =
    let Same : HostPart → Type 0 = λ part. record_at part.host k cid ≡ record_at old.host k cid in
    subst Same (sym (part_left old e reply new step.2))
    (kept_anyway Same old e reply (IsController e) refl step.1 (λ ok c h. by-host ok c) refl)
  where
    by-host : Accepts old e reply → IsController e ≡ false → record_at (a.after old e reply).host k cid ≡ record_at old.host k cid
    by-host ok c = host_moves (Stays old k cid) old e reply ok c (moves old k cid) n

pub others_keep : spec.other_commands_keep_their_rights
others_keep old e reply new step sound k cid n r at =
    let after = steps_keep old e reply new step sound in
    let there : record_at new.host k cid ≡ Some r = others_stay old e reply new step k cid n ∙ at in
    (data_of_commands new k cid r after there, chains_of_commands new k cid r after there)

-- Rings

abbrev pages : HostQueue → List ℕ × List ℕ
pages queue = (queue.sq_pages, queue.cq_pages)

abbrev rings-at : List HostQueue → ℕ → Option (List ℕ × List ℕ)
rings-at queues k = option_map pages (slice_get queues k)

rings-changed : (q k : ℕ) (f : HostQueue → HostQueue) → ((x : HostQueue) → pages (f x) ≡ pages x) → (queues : List HostQueue) → rings-at (a.change q f queues) k ≡ rings-at queues k
rings-changed q k f keeps [] = refl
rings-changed zero zero f keeps (x ∷ queues) = ap (λ (both : List ℕ × List ℕ). Some both) (keeps x)
rings-changed zero (suc k) f keeps (x ∷ queues) = refl
rings-changed (suc q) zero f keeps (x ∷ queues) = refl
rings-changed (suc q) (suc k) f keeps (x ∷ queues) = rings-changed q k f keeps queues

rings-other : (q k : ℕ) (f : HostQueue → HostQueue) (queues : List HostQueue) → (q ≡ k → ⊥) → rings-at (a.change q f queues) k ≡ rings-at queues k
rings-other q k f [] ne = refl
rings-other zero zero f (x ∷ queues) ne = absurd (ne refl)
rings-other zero (suc k) f (x ∷ queues) ne = refl
rings-other (suc q) zero f (x ∷ queues) ne = refl
rings-other (suc q) (suc k) f (x ∷ queues) ne = rings-other q k f queues (λ e. ne (ap suc e))

unlike : (q k : ℕ) → (q == k) ≡ false → q ≡ k → ⊥
unlike q k n e = true≢false (sym (eq-eqb q k e) ∙ n)

abbrev RingsStay : State → ℕ → Event → Reply → State → Type 0
RingsStay s k e reply t = names_queue s e reply k ≡ false → rings-at t.host.queues k ≡ rings-at s.host.queues k

module _ (s : State) (k : ℕ) where
  heard-rings : (q : ℕ) (e : ComEntry) → rings-at (a.heard q e s).host.queues k ≡ rings-at s.host.queues k
  heard-rings q e =
      rings-changed q k (λ x. record x { ring = knowing e.sqhd x.ring }) (λ x. refl) (a.consumed q s).host.queues
      ∙ rings-changed q k (λ x. record x { ring = next_head s.entries x.ring }) (λ x. refl) s.host.queues

  posted-rings : (queues : List HostQueue) → rings-at (a.change 0 (λ x. record x { ring = next_tail s.entries x.ring }) queues) k ≡ rings-at queues k
  posted-rings queues = rings-changed 0 k (λ x. record x { ring = next_tail s.entries x.ring }) (λ x. refl) queues

  -- what a reap ends is of no half of the queue
  of-others : (q c : ℕ) (st : Status) (what : Reaped) (r : Record) (w : Work) → ReapTells s q c st what → record_at s.host q c ≡ Some r → r.work ≡ w
      → option_map_or (λ x. option_map_or (λ y. is_of_queue k y.work) (record_at s.host q x) false) (ended what) false ≡ false → is_of_queue k w ≡ false
  of-others q c st what r w tells found is n =
      ap (is_of_queue k) (sym is)
      ∙ (ap (λ (o : Option Record). option_map_or (λ y. is_of_queue k y.work) o false) (sym found)
      ∙ subst (λ (o : Option ℕ). option_map_or (λ x. option_map_or (λ y. is_of_queue k y.work) (record_at s.host q x) false) o false ≡ false) (same-end what ∙ tells.names) n)

  deleted-other : (j : ℕ) → is_of_queue k (Management (DeleteCq j)) ≡ false → j ≡ k → ⊥
  deleted-other j n e = let h = rw (eq-eqb j k e) at n in true≢false h

  made-cq-other : (j size base : ℕ) (vector : Option ℕ) → is_of_queue k (Management (CreateCq j size base vector)) ≡ false → j ≡ k → ⊥
  made-cq-other j size base vector n e = let h = rw (eq-eqb j k e) at n in true≢false h

  made-sq-other : (j size base : ℕ) → is_of_queue k (Management (CreateSq j size base)) ≡ false → j ≡ k → ⊥
  made-sq-other j size base n e = let h = rw (eq-eqb j k e) at n in true≢false h

  ring-moves : HostMoves (RingsStay s k) s
  ring-moves = record {
    reserves = λ q request d none is n. refl;
    submits = λ d entry r none built its live n. rings-changed d.q k (λ x. record x { ring = next_tail s.entries x.ring }) (λ x. refl) s.host.queues;
    cancels = λ d r its n. refl;
    rings = λ q none n. refl;
    rests = λ q is n. refl;
    rejects = λ q why is n. rings-changed q k (λ x. record x { ring = next_head s.entries x.ring }) (λ x. refl) s.host.queues;
    tells = λ q c st what e r request names-it heard w n. heard-rings q e;
    hears = λ q c st what e r adm names-it heard w quiet unmade n. heard-rings q e;
    notes = λ q c st what e r j names-it heard w n.
        rings-changed j k (λ x. record x { state = if is_success st then Deleting true else Live }) (λ x. refl) (a.heard q e s).host.queues ∙ heard-rings q e;
    frees = λ q c st what e r j queue names-it heard w at alone good n.
        rings-other j k a.gone (a.heard q e s).host.queues (deleted-other j (of-others q c st what r (Management (DeleteCq j)) names-it heard.found w n)) ∙ heard-rings q e;
    makes_cq = λ q c st what e r j size base vector names-it heard w good n. rings-changed j k a.half_made (λ x. refl) (a.heard q e s).host.queues ∙ heard-rings q e;
    unmakes_cq = λ q c st what e r j size base vector queue names-it heard w at bad n.
        rings-other j k a.gone (a.heard q e s).host.queues (made-cq-other j size base vector (of-others q c st what r (Management (CreateCq j size base vector)) names-it heard.found w n)) ∙ heard-rings q e;
    makes_sq = λ q c st what e r j size base names-it heard w good n. rings-changed j k a.live (λ x. refl) (a.heard q e s).host.queues ∙ heard-rings q e;
    unmakes_sq = λ q c st what e r j size base queue names-it heard w at bad n.
        rings-other j k a.unmade_sq (a.heard q e s).host.queues (made-sq-other j size base (of-others q c st what r (Management (CreateSq j size base)) names-it heard.found w n)) ∙ heard-rings q e;
    collects = λ q c r f at held is n. refl;
    releases = λ f r its n. refl;
    aborts = λ q c id none new n. posted-rings s.host.queues;
    asks = λ q id queue none new live n. rings-changed q k a.deleting (λ x. refl) (sends (DeleteSq q) id s).host.queues ∙ posted-rings s.host.queues;
    drops = λ q id none new n. posted-rings s.host.queues;
    creates_cqs = λ q vector id first queue none new granted n. posted-rings (grants_cq q first s).host.queues ∙ rings-other q k (a.making_cq (half_from Completion first s)) s.host.queues (unlike q k n);
    creates_sqs = λ q id first queue none new granted n. posted-rings (grants_sq q first s).host.queues ∙ rings-other q k (a.making_sq (half_from Submission first s)) s.host.queues (unlike q k n);
    retires = λ q queue none at deleted n. rings-other q k a.retired s.host.queues (unlike q k n);
    forges = λ q slot bytes queue none at n. refl;
    resets = λ n. absurd (true≢false n);
  }

pub rings_keep : spec.other_rings_keep_their_rights
rings_keep old e reply new step sound k n queue at =
    let after = steps_keep old e reply new step sound in
    let Same : HostPart → Type 0 = λ part. rings-at part.host.queues k ≡ rings-at old.host.queues k in
    let same : rings-at new.host.queues k ≡ rings-at old.host.queues k =
    subst Same (sym (part_left old e reply new step.2))
    (kept_anyway Same old e reply (IsController e) refl step.1 (λ ok c h. host_moves (RingsStay old k) old e reply ok c (ring-moves old k) n) refl) in
    keep after (slice_get new.host.queues k) refl (same ∙ ap (option_map pages) at)
  where
    keep : IsSound new → (o : Option HostQueue) → slice_get new.host.queues k ≡ o → option_map pages o ≡ Some (queue.sq_pages, queue.cq_pages)
        → HaveRight new.host right.Read queue.sq_pages × HaveRight new.host right.Write queue.cq_pages
    keep w None is e = absurd (cc)
    keep w (Some x) is e =
        let both : pages x ≡ (queue.sq_pages, queue.cq_pages) = cc in
        let sq : queue.sq_pages ≡ x.sq_pages = sym (ap (λ (p : List ℕ × List ℕ). p.0) both) in
        let cq : queue.cq_pages ≡ x.cq_pages = sym (ap (λ (p : List ℕ × List ℕ). p.1) both) in (
          λ p h. submission_rings new k x w is p (subst (λ (l : List ℕ). is_among l p ≡ true) sq h),
          λ p h. completion_rings new k x w is p (subst (λ (l : List ℕ). is_among l p ≡ true) cq h),
        )
