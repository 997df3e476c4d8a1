use Rattle.std.proofs.Common.{◌<◌, sym, ◌∙◌, ap, arith, ℕ}
use Rattle.page_memory.specs.declared.page.Half.{Half, TheVariants.{Submission, Completion}}
use Rattle.page_ledger.specs.Owners.{pages_from}
use Rattle.queue_pair.specs.{Memory.half_pages, Rings.first_page_of}
use Rattle.host_core.{proofs.Reachable.ring-is, proofs.PageOwners.half-from, specs.{Rights.ring_of}}
use Rattle.host_core.proofs.rights.ring_memory.Goals as goal

some-pages : (n : ℕ) (half : Half) → 0 < n → 0 < half_pages n half
some-pages n Submission l = omega (arith, l)
some-pages n Completion l = omega (arith, l)

pub returns : goal.returns
returns g c =
    rw (c.first_page.ensures, c.half_pages.ensures)
    (sym (ring-is c.args.right (first_page_of c.args.half c.args.queue.now.host) (half_pages c.args.entries c.args.half) (some-pages c.args.entries c.args.half c.requires.some))
    ∙ ap (ring_of c.args.right) (ap (λ n. pages_from (first_page_of c.args.half c.args.queue.now.host) (half_pages n c.args.half)) (sym c.requires.entries) ∙ sym (half-from c.args.half c.args.queue.now (sym c.if-not-has_half.ensures))))
