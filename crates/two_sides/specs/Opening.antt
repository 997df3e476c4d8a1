-- Both sides as they open.
use Rattle.std.specs.Prelude.{◌≡◌, ℕ, zero, suc, ◌+◌, true, None, List, [], ◌∷◌}
use Rattle.controller_core.specs.{Opening.opened, declared.queue.QueuePages.QueuePages}
use Rattle.host_core.specs.{Opening.{refusal_of_config, opened_view, opened_pages}, declared.config.Config.Config}
use Rattle.machine_model.specs.{Opening.{opening}, declared.words.Peer.TheVariants.{Modelled}}
use Rattle.page_memory.specs.declared.page.Half.TheVariants.{Submission, Completion}
use Rattle.queue_pair.specs.Memory.{half_pages}
use Rattle.two_sides.specs.{Sides.{Sides, state_of}, Ties.IsWorld}

-- where the halves of this many queues begin, one queue's after the other's, starting at a page
abbrev pub halves_from : ℕ → ℕ → ℕ → List QueuePages
halves_from page n zero = []
halves_from page n (suc count) =
    record { sq = page; cq = page + half_pages n Submission } ∷ halves_from (page + half_pages n Submission + half_pages n Completion) n count

-- a host that opens for blocks of 512 bytes, and a controller that opens with its queues' pages, over the host's pages
abbrev pub opened_sides : Config → List ℕ → Sides
opened_sides c image =
    record {
      host = opened_view c Modelled;
      controller = opened c.entries (halves_from 0 c.entries (c.queues + 1)) image;
      pages = opened_pages c;
      trusted = true;
    }

-- That is the machine's opening, and both sides are tied.
abbrev pub openings_are_worlds : Type 0
openings_are_worlds =
    (c : Config) (image : List ℕ) → refusal_of_config c ≡ None
    → (state_of (opened_sides c image) ≡ opening c.pages c.queues c.entries c.segment image) × IsWorld (opened_sides c image)
