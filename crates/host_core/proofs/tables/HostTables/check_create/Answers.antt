use Rattle.std.proofs.Common.{arith, sym}
use Rattle.host_core.{proofs.Creations.{create-full, create-no_identifier, create-no_run, create-ready}, specs.{Parts.tables_of, Tables.Tables}}
use Rattle.host_core.proofs.tables.HostTables.check_create.Goals as goal

pub returns-in_default-clause-refused : goal.returns-in_default-clause-refused
returns-in_default-clause-refused g c = λ pages w vector.
    create-no_identifier (tables_of c.args.self.now pages) c.args.half c.args.q vector c.deref.result.now w (c.in-Ok.ensures.free pages) c.deref.ensures.value c.in_default.ensures

pub returns-in_default-lowest_run-clause-refused : goal.returns-in_default-lowest_run-clause-refused
returns-in_default-lowest_run-clause-refused g c = λ pages w vector.
    let t : Tables = tables_of c.args.self.now pages in
    create-no_run t c.args.half c.args.q vector c.half_pages-need.result c.deref.result.now c.in-Some.cid w (c.in-Ok.ensures.free pages) c.deref.ensures.value c.in-Some.ensures c.half_pages-need.ensures (sym c.in_default-lowest_run.ensures.lowest)

pub returns-then-is_queue_full-clause-refused : goal.returns-then-is_queue_full-clause-refused
returns-then-is_queue_full-clause-refused g c = λ pages w vector.
    let t : Tables = tables_of c.args.self.now pages in
    create-full t c.args.half c.args.q vector c.half_pages-need.result c.deref.result.now c.in-Some.cid c.in-Some-lowest_run.first w (c.in-Ok.ensures.free pages) c.deref.ensures.value c.in-Some.ensures c.half_pages-need.ensures (sym c.in-Some-lowest_run.ensures.lowest) (sym (c.if-is_queue_full.ensures pages))

pub returns-clause-ready : goal.returns-clause-ready
returns-clause-ready g c = λ pages w.
    let t : Tables = tables_of c.args.self.now pages in
    create-ready t c.args.half c.args.q c.half_pages-need.result c.deref.result.now c.in-Some.cid c.in-Some-lowest_run.first w (c.in-Ok.ensures.free pages) c.deref.ensures.value c.in-Some.ensures c.half_pages-need.ensures (sym c.in-Some-lowest_run.ensures.lowest) (sym (c.if-is_queue_full.ensures pages))

pub next_identifier-requires : goal.next_identifier-requires
next_identifier-requires g c = omega arith

pub is_queue_full-requires-clause-there : goal.is_queue_full-requires-clause-there
is_queue_full-requires-clause-there g c = omega arith

pub returns-in-Err-clause-refused : goal.returns-in-Err-clause-refused
returns-in-Err-clause-refused g c = λ pages w vector. c.in-Err.ensures.refused pages vector
