use Rattle.io_commands.{proofs.Building.{some_parts, front_pages, rest_pages}, specs.Values.numbers_of}
use Rattle.io_commands.proofs.layout.chain_of.Goals as goal

pub build-requires-clause-some : goal.build-requires-clause-some
build-requires-clause-some g c =
    rw (c.as_slice.ensures.value, c.in_ok-parts.ensures)
    (some_parts c.args.request.now (numbers_of c.split_at.result.0.now) c.requires.good c.requires.list
    (front_pages c.args.request.now c.args.pages.now c.split_at.result.0.now _ c.requires.pages (rw c.data_pages.ensures at c.split_at.ensures.front)))

pub build-requires-clause-pages : goal.build-requires-clause-pages
build-requires-clause-pages g c =
    rw (
      c.as_slice.ensures.value,
      c.in_ok-parts.ensures,
      c.as_slice-2.ensures.value,
      c.in_ok-numbers.ensures,
      rw c.data_pages.ensures at c.split_at.ensures.front,
    )
    (rest_pages c.args.request.now c.args.pages.now c.split_at.result.1.now _ c.requires.pages (rw c.data_pages.ensures at c.split_at.ensures.back))
