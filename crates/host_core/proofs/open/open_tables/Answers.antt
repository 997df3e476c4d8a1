use Rattle.std.proofs.{Common.{arith, ap, length, ◌∙◌}, lemmas.List.length-replicate}
use Rattle.host_core.proofs.Openings.{limits}
use Rattle.host_core.proofs.open.open_tables.Goals as goal

pub overflow_add-config-2 : goal.overflow_add-config-2
overflow_add-config-2 g c = let l = limits c.args.config c.requires in record { fits = omega (arith, l.numbers.few_queues) }

pub open-requires-3-clause-queues : goal.open-requires-3-clause-queues
open-requires-3-clause-queues g c = let l = limits c.args.config c.requires in omega (arith, l.numbers.few_queues)

pub open-requires-3-clause-least : goal.open-requires-3-clause-least
open-requires-3-clause-least g c = let l = limits c.args.config c.requires in omega (arith, l.numbers.least_entries)

pub open-requires-3-clause-most : goal.open-requires-3-clause-most
open-requires-3-clause-most g c = let l = limits c.args.config c.requires in omega (arith, l.numbers.most_entries)

pub overflow_add-config : goal.overflow_add-config
overflow_add-config g c = let l = limits c.args.config c.requires in record { fits = omega (arith, l.numbers.few_queues) }

pub overflow_cast-config : goal.overflow_cast-config
overflow_cast-config g c = let l = limits c.args.config c.requires in record { fits = omega (arith, l.numbers.few_queues) }

pub overflow_cast-config-2 : goal.overflow_cast-config-2
overflow_cast-config-2 g c = let l = limits c.args.config c.requires in record { fits = omega (arith, l.numbers.most_entries) }

pub open_queues-requires-clause-least : goal.open_queues-requires-clause-least
open_queues-requires-clause-least g c = let l = limits c.args.config c.requires in omega (arith, l.numbers.least_entries)

pub open_queues-requires-clause-most : goal.open_queues-requires-clause-most
open_queues-requires-clause-most g c = let l = limits c.args.config c.requires in omega (arith, l.numbers.most_entries)

pub returns-clause-pages : goal.returns-clause-pages
returns-clause-pages g c = c.in_ok-store.ensures.pages

pub returns-clause-untouched : goal.returns-clause-untouched
returns-clause-untouched g c = record { touched = c.in_ok-store.ensures.touched; unlisted = c.in_ok-store.ensures.unlisted }

pub returns-clause-owners : goal.returns-clause-owners
returns-clause-owners g c = c.in_ok-queues.ensures.size ∙ (ap length c.in_ok-ledger.ensures.free ∙ length-replicate _ _)

pub returns-clause-granted : goal.returns-clause-granted
returns-clause-granted g c = c.in_ok-queues.ensures.granted

pub returns-clause-records : goal.returns-clause-records
returns-clause-records g c = c.in_ok-records.ensures

pub returns-clause-queues : goal.returns-clause-queues
returns-clause-queues g c = c.in_ok-queues.ensures.queues
