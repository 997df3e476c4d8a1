-- Records that are found by their names; and a command of the caller's stays outstanding until it is cancelled or released.
use Rattle.machine_model.specs.After as a
use Rattle.machine_model.specs.Events as events
use Rattle.std.proofs.Common.{◌≡◌, ℕ, ◌==◌, Bool, true, false, not, ◌&&◌, ◌||◌, Some, None, List, [], ◌∷◌, ◌++◌, map, filter, find, if◌then◌else◌, refl, ap, sym, ◌∙◌, eqb-true, eq-eqb, Option, length, subst, MatchBool, inl, inr, arith}
use Rattle.std.proofs.lemmas.Bool.{and_parts, cond_both, false_from_ne_true, not-true, Decides.nat_tests}
use Rattle.std.specs.{List.list_any, Option.{option_and_then, option_map}}
use Rattle.machine_model.proofs.{HostLeaves.{io_left, host_leaves, ids_of}, Moves.{host_moves, drafted_record, sent_record, creates_cq, creates_sq}}
use Rattle.machine_model.{proofs.{Owned.reset_length, Steps.{Accepts, part_controller, part_left}}, specs.Events.{Event, Reply}}
use Rattle.machine_model.specs.{Refusals.{is_submitted, refusal_of}, State.{Record, is_at, with_record, without_record, State, HostQueue, record_at}}
use Rattle.machine_model.specs.Step.{Step, HostPart, IsController, IsReserved, IsNewIdentifier, Permits, asked_by, finished_from, host_part, pages_with_bytes}
use Rattle.machine_model.specs.declared.words.{Work.TheVariants.{Io, Management}}
use Rattle.host_core.proofs.Identifiers.{outstanding-among}
use Rattle.host_core.proofs.Lists.{length-change}
use Rattle.host_core.specs.Outstanding.{IsOutstanding}
use Rattle.admin_commands.specs.declared.AdminKind.{AdminKind, TheVariants.{Abort, DeleteSq, DeleteCq, CreateCq, CreateSq}}
use Rattle.entry_codec.specs.declared.status.{Status.Status}
use Rattle.io_commands.specs.{Asked.Request, Drafts.DraftContents, Values.FinishedContents}
use Rattle.slot_table.proofs.Rows.{option_is}
use Rattle.page_memory.proofs.Lists.{some_is, found_is}
use Rattle.machine_model.proofs.Steps.{surely}

-- Records that are found by their names: others are added, changed and taken out.

-- Lists

pub find_more : {X : Type 0} (p : X → Bool) (xs ys : List X) (r : X) → find p xs ≡ Some r → find p (xs ++ ys) ≡ Some r
find_more p [] ys r e = absurd cc
find_more p (x ∷ xs) ys r e = grind (arith, find_more p xs ys r)

pub find_last : {X : Type 0} (p : X → Bool) (xs : List X) (y : X) → list_any p xs ≡ false → p y ≡ true → find p (xs ++ y ∷ []) ≡ Some y
find_last p [] y none is = rw is refl
find_last p (x ∷ xs) y none is = grind (arith, find_last p xs y, is)

pub find_changed : {X : Type 0} (p : X → Bool) (g : X → X) → ((x : X) → p (g x) ≡ p x) → (xs : List X) (r : X) → find p xs ≡ Some r → find p (map g xs) ≡ Some (g r)
find_changed p g same [] r e = absurd cc
find_changed p g same (x ∷ xs) r e = grind (arith, same x, find_changed p g same xs r)

find_left : {X : Type 0} (p f : X → Bool) → ((x : X) → p x ≡ true → f x ≡ true) → (xs : List X) (r : X) → find p xs ≡ Some r → find p (filter f xs) ≡ Some r
find_left p f keeps [] r e = absurd cc
find_left p f keeps (x ∷ xs) r e = grind (arith, keeps x, find_left p f keeps xs r)

-- Names

pub ids : (q cid : ℕ) (r : Record) → is_at q cid r ≡ true → (r.q ≡ q) × (r.cid ≡ cid)
ids q cid r e = let both = and_parts (r.q == q) (r.cid == cid) e in (eqb-true r.q q both.0, eqb-true r.cid cid both.1)

module _ (q cid k n : ℕ) (rs : List Record) (r : Record) (at : find (is_at q cid) rs ≡ Some r) where
  -- a record that is found by one name only
  pub other_than : (x : Record) → find (is_at k n) rs ≡ Some x → (x ≡ r → ⊥) → is_at k n r ≡ false
  other_than x there other = false_from_ne_true (is_at k n r) (λ e.
      let mine = ids q cid r (found_is (is_at q cid) rs r at) in
      let its = ids k n r e in
      other (some_is (sym there ∙ ap (λ (m : ℕ). find (is_at m n) rs) (sym its.0 ∙ mine.0) ∙ ap (λ (m : ℕ). find (is_at q m) rs) (sym its.1 ∙ mine.1) ∙ at)))

  pub off_name : ((k == q) && (n == cid)) ≡ false → is_at k n r ≡ false
  off_name far = let mine = ids q cid r (found_is (is_at q cid) rs r at) in grind (arith, nat_tests, mine.0, mine.1, far)

  pub apart : is_at k n r ≡ false → ((k == q) && (n == cid)) ≡ false
  apart far = let mine = ids q cid r (found_is (is_at q cid) rs r at) in grind (arith, nat_tests, mine.0, mine.1, far)

  pub found_with : (f : Record → Record) → ((x : Record) → is_at q cid (f x) ≡ is_at q cid x) → find (is_at q cid) (with_record k n f rs) ≡ Some (if is_at k n r then f r else r)
  found_with f same =
      find_changed (is_at q cid) (λ (x : Record). if is_at k n x then f x else x) (λ x. cond_both (is_at k n x) _ _ (λ y. is_at q cid y ≡ is_at q cid x) (λ _. same x) (λ _. refl)) rs r at

  pub found_without : ((k == q) && (n == cid)) ≡ false → find (is_at q cid) (without_record k n rs) ≡ Some r
  found_without far = find_left (is_at q cid) (λ (x : Record). not (is_at k n x)) (λ x mine. grind (arith, nat_tests, mine, far)) rs r at

-- A command of the caller's stays outstanding until it is cancelled or released, whatever else happens; and no event changes how many queues there are.

-- What one step keeps of the host's part, if it does where it is accepted

anyway : (P : HostPart → Type 0) (s : State) (e : Event) (reply : Reply) (b : Bool) → IsController e ≡ b → Permits s e reply
    → (Accepts s e reply → IsController e ≡ false → P (host_part s) → P (host_part (a.after s e reply))) → P (host_part s) → P (host_part (a.after s e reply))
anyway P s e reply true c permits each h = subst P (sym (part_controller s e reply c)) h
anyway P s e (events.Refused why touched) false c permits each h = h
anyway P s e reply false c permits each h = each (surely _ s.trusted (IsController e) c permits) c h

pub one_step : (P : HostPart → Type 0) (s : State) (e : Event) (reply : Reply) (new : State) → Step s e reply new
    → (Accepts s e reply → IsController e ≡ false → P (host_part s) → P (host_part (a.after s e reply))) → P (host_part s) → P (host_part new)
one_step P s e reply new step each h = subst P (sym (part_left s e reply new step.2)) (anyway P s e reply (IsController e) refl step.1 each h)

-- What changes records

changed : (q cid k n : ℕ) (f : Record → Record) (rs : List Record) → ((x : Record) → is_at q cid (f x) ≡ is_at q cid x) → ((x : Record) → (f x).work ≡ x.work) → IsOutstanding q cid rs → IsOutstanding q cid (with_record k n f rs)
changed q cid k n f rs same work (r, at, asked, is) = (
  (if is_at k n r then f r else r),
  found_with q cid k n rs r at f same,
  asked,
  cond_both (is_at k n r) _ _ (λ (x : Record). x.work ≡ Io asked) (λ _. work r ∙ is) (λ _. is),
)

lost : (q cid k : ℕ) (rs : List Record) → IsOutstanding q cid rs → IsOutstanding q cid (map (a.lost k) rs)
lost q cid k rs (r, at, asked, is) = (
  a.lost k r,
  find_changed (is_at q cid) (a.lost k) (λ x. cond_both ((x.q == k) && is_submitted x.phase) _ _ (λ y. is_at q cid y ≡ is_at q cid x) (λ _. refl) (λ _. refl)) rs r at,
  asked,
  cond_both ((r.q == k) && is_submitted r.phase) _ _ (λ (y : Record). y.work ≡ Io asked) (λ _. is) (λ _. is),
)

reset : (q cid : ℕ) (s : State) → IsOutstanding q cid s.host.records → IsOutstanding q cid (a.reset_records s.host.records)
reset q cid s (r, at, asked, is) =
    (a.lost_anywhere r, io_left s q cid r asked at is, asked, cond_both (is_submitted r.phase) _ _ (λ (y : Record). y.work ≡ Io asked) (λ _. is) (λ _. is))

-- One event

-- whether a step cancels or releases a command of this name
abbrev pub ends_by : ℕ → ℕ → Event → Reply → Bool
ends_by q cid (events.Cancel d) events.Accepted = (d.q == q) && (d.cid == cid)
ends_by q cid (events.Release f) events.Accepted = (f.q == q) && (f.cid == cid)
ends_by q cid e reply = false

event_keeps : (q cid : ℕ) (s : State) (e : Event) (reply : Reply) → ends_by q cid e reply ≡ false → Accepts s e reply → IsController e ≡ false
    → IsOutstanding q cid s.host.records → IsOutstanding q cid (a.after s e reply).host.records
event_keeps q cid s e reply far ok c h =
    host_moves (λ (e : Event) (reply : Reply) (t : State). ends_by q cid e reply ≡ false → IsOutstanding q cid t.host.records) s e reply ok c
    (record {
      reserves = λ k request d none is far. more (drafted_record d ∷ []);
      submits = λ d entry r none built its live far. changed q cid d.q d.cid a.submitted s.host.records (λ x. refl) (λ x. refl) h;
      cancels = λ d r its far. without d.q d.cid far;
      rings = λ k none far. h;
      rests = λ k is far. h;
      rejects = λ k why is far. h;
      tells = λ k n st what e r request t heard w far. changed q cid k n (a.held st e.hints) s.host.records (λ x. refl) (λ x. refl) h;
      hears = λ k n st what e r adm t heard w quiet none far. managed k n r adm heard.found w;
      notes = λ k n st what e r m t heard w far. managed k n r (DeleteSq m) heard.found w;
      frees = λ k n st what e r m queue t heard w at retired good far. managed k n r (DeleteCq m) heard.found w;
      makes_cq = λ k n st what e r m count base vector t heard w good far. managed k n r (CreateCq m count base vector) heard.found w;
      unmakes_cq = λ k n st what e r m count base vector queue t heard w at bad far. managed k n r (CreateCq m count base vector) heard.found w;
      makes_sq = λ k n st what e r m count base t heard w good far. managed k n r (CreateSq m count base) heard.found w;
      unmakes_sq = λ k n st what e r m count base queue t heard w at bad far. managed k n r (CreateSq m count base) heard.found w;
      collects = λ k n r f at held is far. changed q cid k n a.collected s.host.records (λ x. refl) (λ x. refl) h;
      releases = λ f r its far. without f.q f.cid far;
      aborts = λ k n id none new far. more (sent_record (Abort k n) id ∷ []);
      asks = λ k id queue none new live far. more (sent_record (DeleteSq k) id ∷ []);
      drops = λ k id none new far. more (sent_record (DeleteCq k) id ∷ []);
      creates_cqs = λ k vector id first queue none new granted far. more (sent_record (creates_cq k vector first s) id ∷ []);
      creates_sqs = λ k id first queue none new granted far. more (sent_record (creates_sq k first s) id ∷ []);
      retires = λ k queue none at deleted far. lost q cid k s.host.records h;
      forges = λ k slot bytes queue none at far. h;
      resets = λ far. reset q cid s h;
    })
    far
  where
    more : (new : List Record) → IsOutstanding q cid (s.host.records ++ new)
    more new = (h.0, find_more (is_at q cid) s.host.records new h.0 h.1, h.2, h.3)

    without : (k n : ℕ) → ((k == q) && (n == cid)) ≡ false → IsOutstanding q cid (without_record k n s.host.records)
    without k n far = (h.0, found_without q cid k n s.host.records h.0 h.1 far, h.2, h.3)

    unlike : (x : Record) (adm : AdminKind) → x.work ≡ Management adm → x ≡ h.0 → ⊥
    unlike x adm w same = let bad : Management adm ≡ Io h.2 = sym w ∙ ap (λ (y : Record). y.work) same ∙ h.3 in cc

    managed : (k n : ℕ) (x : Record) (adm : AdminKind) → record_at s.host k n ≡ Some x → x.work ≡ Management adm → IsOutstanding q cid (without_record k n s.host.records)
    managed k n x adm there w = without k n (apart q cid k n s.host.records h.0 h.1 (other_than q cid k n s.host.records h.0 h.1 x there (unlike x adm w)))

-- One step

pub stays_outstanding : (q cid : ℕ) (s : State) (e : Event) (reply : Reply) (new : State) → Step s e reply new → ends_by q cid e reply ≡ false → IsOutstanding q cid s.host.records → IsOutstanding q cid new.host.records
stays_outstanding q cid s e reply new step far h =
    one_step (λ (part : HostPart). IsOutstanding q cid part.host.records) s e reply new step (λ ok c h. event_keeps q cid s e reply far ok c h) h

-- A reservation

accepted : {A : Type 0} (B : Type 0) (b : Bool) → MatchBool (b || true) A B → A
accepted B true h = h
accepted B false h = h

pub reserved_ok : (s new : State) (q : ℕ) (request : Request) (d : DraftContents) → Step s (events.Reserve q request) (events.Reserved d) new
    → (refusal_of s (events.Reserve q request) ≡ None) × IsReserved s q request d
reserved_ok s new q request d step = accepted _ s.trusted step.1

-- its identifier is new
pub none_there : (s new : State) (q : ℕ) (request : Request) (d : DraftContents) → Step s (events.Reserve q request) (events.Reserved d) new → list_any (is_at d.q d.cid) s.host.records ≡ false
none_there s new q request d step =
    let r = (reserved_ok s new q request d step).1 in
    let fresh : IsNewIdentifier s d.q d.cid = subst (λ (k : ℕ). IsNewIdentifier s k d.cid) (sym r.queue) r.identifier in
    outstanding-among s.host d.q d.cid ∙ not-true _ fresh.unused

-- and its record comes after the others
pub record_reserved : (s new : State) (q : ℕ) (request : Request) (d : DraftContents) → Step s (events.Reserve q request) (events.Reserved d) new → find (is_at d.q d.cid) new.host.records ≡ Some (drafted_record d)
record_reserved s new q request d step =
    ap (λ (part : HostPart). find (is_at d.q d.cid) part.host.records) (part_left s (events.Reserve q request) (events.Reserved d) new step.2)
    ∙ find_last (is_at d.q d.cid) s.host.records (drafted_record d) (none_there s new q request d step) (rw (eq-eqb d.q d.q refl, eq-eqb d.cid d.cid refl) refl)

-- A collection

names_of : (s : State) (r : Record) (f : FinishedContents) (asked : Option Request) (o : Option Status)
    → option_and_then
    (λ (request : Request). option_map
    (λ (st : Status). record { q = r.q; cid = r.cid; request = request; status = st; hints = r.hints; data_pages = pages_with_bytes s.memory r.data_pages; chain_pages = pages_with_bytes s.memory r.chain_pages })
    o)
    asked ≡ Some f → (f.q ≡ r.q) × (f.cid ≡ r.cid)
names_of s r f None o e = absurd cc
names_of s r f (Some request) None e = absurd cc
names_of s r f (Some request) (Some st) e = let same = some_is e in (ap (λ (x : FinishedContents). x.q) (sym same), ap (λ (x : FinishedContents). x.cid) (sym same))

-- gives a command of the name that was asked for
pub collected_named : (s new : State) (q cid : ℕ) (f : FinishedContents) → Step s (events.Collect q cid) (events.Collects f) new → (f.q ≡ q) × (f.cid ≡ cid)
collected_named s new q cid f step =
    let ok : (refusal_of s (events.Collect q cid) ≡ None) × (option_and_then (finished_from s) (record_at s.host q cid) ≡ Some f) = accepted _ s.trusted step.1 in
    elim (option_is (record_at s.host q cid)) [
      | inl e ↦ let none : None ≡ Some f = rw e at ok.1 in absurd cc
      | inr (r, e) ↦
          let its = names_of s r f (asked_by r.work) r.status (rw e at ok.1) in
          let ids = ids_of s q cid r e in
          (its.0 ∙ ids.0, its.1 ∙ ids.1)
    ]

-- How many queues there are

counts : (s : State) (e : Event) (reply : Reply) → Accepts s e reply → IsController e ≡ false → length (a.after s e reply).host.queues ≡ length s.host.queues
counts s e reply ok c =
    host_moves (λ (e : Event) (reply : Reply) (t : State). length t.host.queues ≡ length s.host.queues) s e reply ok c
    (record {
      reserves = λ q request d none is. refl;
      submits = λ d entry r none built its live. one d.q _ s.host.queues;
      cancels = λ d r its. refl;
      rings = λ q none. refl;
      rests = λ q is. refl;
      rejects = λ q why is. one q _ s.host.queues;
      tells = λ q cid st what e r request t heard w. two q q _ _;
      hears = λ q cid st what e r adm t heard w quiet none. two q q _ _;
      notes = λ q cid st what e r k t heard w. one k _ _ ∙ two q q _ _;
      frees = λ q cid st what e r k queue t heard w at retired good. one k _ _ ∙ two q q _ _;
      makes_cq = λ q cid st what e r k n base vector t heard w good. one k _ _ ∙ two q q _ _;
      unmakes_cq = λ q cid st what e r k n base vector queue t heard w at bad. one k _ _ ∙ two q q _ _;
      makes_sq = λ q cid st what e r k n base t heard w good. one k _ _ ∙ two q q _ _;
      unmakes_sq = λ q cid st what e r k n base queue t heard w at bad. one k _ _ ∙ two q q _ _;
      collects = λ q cid r f at held is. refl;
      releases = λ f r its. refl;
      aborts = λ q cid id none new. one 0 _ s.host.queues;
      asks = λ q id queue none new live. two q 0 _ _;
      drops = λ q id none new. one 0 _ s.host.queues;
      creates_cqs = λ q vector id first queue none new granted. two 0 q _ _;
      creates_sqs = λ q id first queue none new granted. two 0 q _ _;
      retires = λ q queue none at deleted. one q _ s.host.queues;
      forges = λ q slot bytes queue none at. refl;
      resets = reset_length s.host.queues;
    })
  where
    one : (k : ℕ) (f : HostQueue → HostQueue) (queues : List HostQueue) → length (a.change k f queues) ≡ length queues
    one k f queues = length-change k f queues

    two : (k n : ℕ) (f g : HostQueue → HostQueue) → length (a.change k f (a.change n g s.host.queues)) ≡ length s.host.queues
    two k n f g = one k f (a.change n g s.host.queues) ∙ one n g s.host.queues

-- the limits of a state that a bench's slots rest on
pub record SameLimits (s : State) (part : HostPart) : Type 0 where
  pub queues : length part.host.queues ≡ length s.host.queues
  pub entries : part.entries ≡ s.entries

pub limits_stay : (s : State) (e : Event) (reply : Reply) (new : State) → Step s e reply new → SameLimits s (host_part new)
limits_stay s e reply new step =
    one_step (SameLimits s) s e reply new step
    (λ ok c h. record { queues = counts s e reply ok c ∙ h.queues; entries = (host_leaves s e reply ok c).entries ∙ h.entries })
    (record { queues = refl; entries = refl })
