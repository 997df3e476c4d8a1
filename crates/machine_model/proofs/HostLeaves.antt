-- What no event of the host changes: the limits, whom the host speaks to, the image, how
-- many pages there are; and, except for a reset, the jobs, and that something was forged.
use Rattle.machine_model.specs.After as a
use Rattle.machine_model.specs.Events as events
use Rattle.std.proofs.Common.{◌≡◌, ℕ, ◌==◌, Bool, true, false, Some, List, [], ◌∷◌, ◌++◌, length, length-set, filter, find, if◌then◌else◌, eqb-true, refl, ap, sym, ◌∙◌, inl, inr}
use Rattle.std.proofs.lemmas.Bool.{true≢false, and_parts, cases_Bool}
use Rattle.io_commands.specs.{Asked.Request, Values.numbers_of}
use Rattle.admin_commands.specs.{Entries.admin_entry, declared.AdminKind.{AdminKind, TheVariants.{Abort, DeleteSq, DeleteCq}}}
use Rattle.entry_codec.specs.declared.submission.SubEntry.{SubEntry}
use Rattle.page_memory.specs.declared.page.Half.TheVariants.{Submission, Completion}
use Rattle.machine_model.proofs.Moves.{host_moves, posted_bytes, posted_bits, sent_record, sends, half_from, creates_cq, creates_sq, grants_cq, grants_sq}
use Rattle.machine_model.proofs.{Owned.{io_records, lost_keeps}, Steps.{length-in_store, length-with_pages, length-without_pages, Accepts, each_step, part_controller}}
use Rattle.machine_model.{proofs.Tokens.find_map, specs.{Events.{Event, Reply}, Memory.{with_pages, zeroed_pages}, Refusals.slot_page}}
use Rattle.machine_model.specs.{State.{State, Record, is_at, pages_of, record_at, with_record}, Step.{HostPart, IsController, Step, resets}}
use Rattle.machine_model.specs.declared.words.Work.TheVariants.{Io}
use Rattle.page_memory.proofs.Lists.{found_is}

pub record HostLeaves (s : State) (e : Event) (t : State) : Type 0 where
  pub entries : t.entries ≡ s.entries
  pub segment : t.segment ≡ s.segment
  pub peer : t.host.peer ≡ s.host.peer
  pub image : t.controller.image ≡ s.controller.image
  -- a reset aside
  pub jobs : resets e ≡ false → t.controller.jobs ≡ s.controller.jobs
  pub size : length t.memory ≡ length s.memory
  pub distrusts : resets e ≡ false → s.trusted ≡ false → t.trusted ≡ false

-- where the memory alone changes of these
left : {e : Event} (s t : State) → t.entries ≡ s.entries → t.segment ≡ s.segment → t.host.peer ≡ s.host.peer → t.controller.image ≡ s.controller.image → t.controller.jobs ≡ s.controller.jobs → (s.trusted ≡ false → t.trusted ≡ false) → length t.memory ≡ length s.memory → HostLeaves s e t
left s t n g z i j d m = record { entries = n; segment = g; peer = z; image = i; jobs = λ other. j; size = m; distrusts = λ other. d }

posted_size : (q : ℕ) (entry : SubEntry) (s : State) → length (posted_bytes q entry s) ≡ length s.memory
posted_size q entry s = sym (length-in_store (posted_bytes q entry s)) ∙ ap length (posted_bits q entry s) ∙ length-in_store s.memory

pub host_leaves : (s : State) (e : Event) (reply : Reply) → Accepts s e reply → IsController e ≡ false → HostLeaves s e (a.after s e reply)
host_leaves s e reply ok c =
    host_moves (λ (e : Event) (reply : Reply) (t : State). HostLeaves s e t) s e reply ok c
    (record {
      reserves = λ q request d none is. left s _ refl refl refl refl refl (λ d. d) (length-without_pages (numbers_of d.data_pages ++ numbers_of d.chain_pages) s.memory);
      submits = λ d entry r none built its live.
          left s _ refl refl refl refl refl (λ d. d)
          (posted_size d.q entry (a.on_records (with_record d.q d.cid a.submitted) (a.on_memory (with_pages (d.data_pages ++ d.chain_pages)) s)) ∙ length-with_pages (d.data_pages ++ d.chain_pages) s.memory);
      cancels = λ d r its. left s _ refl refl refl refl refl (λ d. d) (length-with_pages (d.data_pages ++ d.chain_pages) s.memory);
      rings = λ q none. left s _ refl refl refl refl refl (λ d. d) refl;
      rests = λ q is. left s s refl refl refl refl refl (λ d. d) refl;
      rejects = λ q why is. left s _ refl refl refl refl refl (λ d. d) refl;
      tells = λ q cid st what e r request t heard w. left s _ refl refl refl refl refl (λ d. d) refl;
      hears = λ q cid st what e r adm t heard w quiet unmade. left s _ refl refl refl refl refl (λ d. d) refl;
      notes = λ q cid st what e r k t heard w. left s _ refl refl refl refl refl (λ d. d) refl;
      frees = λ q cid st what e r k queue t heard w at retired good. left s _ refl refl refl refl refl (λ d. d) refl;
      makes_cq = λ q cid st what e r k size base vector t heard w good. left s _ refl refl refl refl refl (λ d. d) refl;
      unmakes_cq = λ q cid st what e r k size base vector queue t heard w at bad. left s _ refl refl refl refl refl (λ d. d) refl;
      makes_sq = λ q cid st what e r k size base t heard w good. left s _ refl refl refl refl refl (λ d. d) refl;
      unmakes_sq = λ q cid st what e r k size base queue t heard w at bad. left s _ refl refl refl refl refl (λ d. d) refl;
      collects = λ q cid r f at held is. left s _ refl refl refl refl refl (λ d. d) (length-without_pages (pages_of r) s.memory);
      releases = λ f r its. left s _ refl refl refl refl refl (λ d. d) (length-with_pages (f.data_pages ++ f.chain_pages) s.memory);
      aborts = λ q cid id none new. sent (Abort q cid) id s;
      asks = λ q id queue none new live. left s _ refl refl refl refl refl (λ d. d) (sent {e = events.DeleteSq q} (DeleteSq q) id s).size;
      drops = λ q id none new. sent (DeleteCq q) id s;
      creates_cqs = λ q vector id first queue none new granted. left s _ refl refl refl refl refl (λ d. d) ((sent {e = events.CreateCq q vector} (creates_cq q vector first s) id (grants_cq q first s)).size ∙ length-with_pages (zeroed_pages (half_from Completion first s)) s.memory);
      creates_sqs = λ q id first queue none new granted. left s _ refl refl refl refl refl (λ d. d) ((sent {e = events.CreateSq q} (creates_sq q first s) id (grants_sq q first s)).size ∙ length-with_pages (zeroed_pages (half_from Submission first s)) s.memory);
      retires = λ q queue none at deleted. left s _ refl refl refl refl refl (λ d. d) refl;
      forges = λ q slot bytes queue none at. left s _ refl refl refl refl refl (λ d. refl) (length-set s.memory (slot_page queue.cq_pages 16 slot) _);
      resets = record {
        entries = refl;
        segment = refl;
        peer = refl;
        image = refl;
        jobs = λ other. absurd (true≢false other);
        size = length-with_pages (zeroed_pages (a.admin_pages s.host.queues)) s.memory;
        distrusts = λ other. absurd (true≢false other);
      };
    })
  where
    sent : {e : Event} (adm : AdminKind) (id : ℕ) (s : State) → HostLeaves s e (sends adm id s)
    sent adm id s = left s _ refl refl refl refl refl (λ d. d) (posted_size 0 (admin_entry adm id) (a.on_records (λ records. records ++ sent_record adm id ∷ []) s))

-- a host speaks to the same peer after each event, and after each step, whatever was forged
pub peer_after : (s : State) (e : Event) (reply : Reply) → Accepts s e reply → (a.after s e reply).host.peer ≡ s.host.peer
peer_after s e reply ok = elim (cases_Bool (IsController e)) [
  | inl c ↦ ap (λ (part : HostPart). part.host.peer) (part_controller s e reply c)
  | inr c ↦ (host_leaves s e reply ok c).peer
]

pub peer_stays : (old : State) (e : Event) (reply : Reply) (new : State) → Step old e reply new → new.host.peer ≡ old.host.peer
peer_stays old e reply new step =
    each_step (λ (part : HostPart). part.host.peer ≡ old.host.peer) (λ s e reply ok c h. (host_leaves s e reply ok c).peer ∙ h) old e reply new step refl

-- the record that a look-up finds has the queue and the identifier of that look-up
pub ids_of : (s : State) (q cid : ℕ) (r : Record) → record_at s.host q cid ≡ Some r → (r.q ≡ q) × (r.cid ≡ cid)
ids_of s q cid r e = let p = and_parts (r.q == q) (r.cid == cid) (found_is (is_at q cid) s.host.records r e) in (eqb-true r.q q p.0, eqb-true r.cid cid p.1)

-- the first record that passes a test is the first of those that pass another, if it does
found_still : (test keep : Record → Bool) (rs : List Record) (r : Record) → keep r ≡ true → find test rs ≡ Some r → find test (filter keep rs) ≡ Some r
found_still test keep [] r kept e = absurd cc
found_still test keep (x ∷ rs) r kept e = by_tests (keep x) (test x) refl refl e (found_still test keep rs r kept)
  where
    by_tests : (b c : Bool) → keep x ≡ b → test x ≡ c → (if c then Some x else find test rs) ≡ Some r → (find test rs ≡ Some r → find test (filter keep rs) ≡ Some r)
        → find test (if b then x ∷ filter keep rs else filter keep rs) ≡ Some r
    by_tests true true k t e ih = rw t e
    by_tests true false k t e ih = rw t (ih e)
    by_tests false true k t e ih = let same : x ≡ r = cc in absurd (true≢false (sym kept ∙ ap keep (sym same) ∙ k))
    by_tests false false k t e ih = ih e

-- each I/O command is outstanding after a reset, and held where it was submitted
pub io_left : (s : State) (q cid : ℕ) (r : Record) (request : Request) → record_at s.host q cid ≡ Some r → r.work ≡ Io request → record_at (a.after_reset s).host q cid ≡ Some (a.lost_anywhere r)
io_left s q cid r request found w =
    find_map (is_at q cid) a.lost_anywhere (λ x. rw (lost_keeps.q x, lost_keeps.cid x) refl) (io_records s.host.records) r
    (found_still (is_at q cid) (λ x. a.is_of_io x.work) s.host.records r (ap a.is_of_io w) found)
