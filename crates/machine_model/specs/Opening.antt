-- The machine as it opens.
use Rattle.std.specs.Prelude.{◌≡◌, ℕ, zero, suc, ◌+◌, ◌*◌, nat_lt, nat_le, Bool, true, ◌&&◌, not, Option, Some, None, List, [], ◌∷◌, replicate, drop}
use Rattle.page_ledger.specs.Owners.{pages_from}
use Rattle.admin_commands.specs.declared.SqState.TheVariants.{Live as Running}
use Rattle.controller_walk.specs.Units.{first_passing}
use Rattle.page_memory.specs.{Pages.zero_page, declared.page.Half.TheVariants.{Submission, Completion}}
use Rattle.machine_model.specs.State.{State, HostQueue, ServedQueue, Live}
use Rattle.queue_pair.specs.{Memory.half_pages, Rings.fresh_host_ring}
use Rattle.machine_model.specs.declared.words.Peer.TheVariants.{Modelled}
pub use Rattle.machine_model.specs.declared.words.OpenRefusal.{OpenRefusal}
pub use Rattle.machine_model.specs.declared.words.OpenRefusal.TheVariants.{BadConfig, NoPages, Memory}

abbrev pub queues_from : ℕ → ℕ → ℕ → List HostQueue
queues_from page n zero = []
queues_from page n (suc count) =
    record {
      state = Live;
      ring = fresh_host_ring;
      sq_pages = pages_from page (half_pages n Submission);
      cq_pages = pages_from (page + half_pages n Submission) (half_pages n Completion);
    } ∷ queues_from (page + half_pages n Submission + half_pages n Completion) n count

abbrev pub served_queue : ServedQueue
served_queue = record { state = Running; cq_there = true; unfetched = []; rung = 0; completions = [] }

-- pages, I/O queues, entries and descriptors within their limits
abbrev pub is_config : ℕ → ℕ → ℕ → ℕ → Bool
is_config pages queues n s =
    nat_le 8 pages && nat_le pages 65536 && nat_le 1 queues && nat_le queues 64 && nat_le 2 n && nat_le n 1024 && nat_le 2 s && nat_le s 256

abbrev pub pages_of_queues : ℕ → ℕ → ℕ
pages_of_queues queues n = (queues + 1) * (half_pages n Submission + half_pages n Completion)

-- lack of memory aside
abbrev pub open_refusal : ℕ → ℕ → ℕ → ℕ → Option OpenRefusal
open_refusal pages queues n s =
    first_passing (
    (not (is_config pages queues n s), BadConfig)
    ∷ (nat_lt pages (pages_of_queues queues n), NoPages (pages_of_queues queues n) pages)
    ∷ [])

-- a world opens: its limits are kept, and there are enough pages for its queues
abbrev pub Opens : ℕ → ℕ → ℕ → ℕ → Type 0
Opens pages queues n s = open_refusal pages queues n s ≡ None

-- pages, I/O queues, entries of each ring, descriptors of a full segment, the image
abbrev pub opening : ℕ → ℕ → ℕ → ℕ → List ℕ → State
opening pages queues n s image =
    record {
      entries = n;
      segment = s;
      memory = replicate pages (Some zero_page);
      host = record {
        peer = Modelled;
        free = drop (pages_of_queues queues n) (pages_from 0 pages);
        queues = queues_from 0 n (queues + 1);
        records = [];
      };
      controller = record { queues = replicate (queues + 1) served_queue; jobs = []; image = image };
      trusted = true;
    }
