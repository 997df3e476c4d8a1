use Rattle.std.proofs.Common.{sym}
use Rattle.host_core.{proofs.Sending.{send-full, send-no_identifier, send-ready}, specs.{Parts.tables_of, Tables.Tables}}
use Rattle.host_core.proofs.tables.HostTables.check_send.Goals as goal

pub returns-in_default-clause-refused : goal.returns-in_default-clause-refused
returns-in_default-clause-refused g c = λ pages w.
    let t : Tables = tables_of c.args.self.now pages in
    send-no_identifier t c.args.kind c.deref.result.now w c.requires.plain (c.in-Ok.ensures.free pages) c.deref.ensures.value c.in_default.ensures

pub returns-then-is_queue_full-clause-refused : goal.returns-then-is_queue_full-clause-refused
returns-then-is_queue_full-clause-refused g c = λ pages w.
    let t : Tables = tables_of c.args.self.now pages in
    send-full t c.args.kind c.deref.result.now c.in-Some.cid w c.requires.plain (c.in-Ok.ensures.free pages) c.deref.ensures.value c.in-Some.ensures (sym (c.if-is_queue_full.ensures pages))

pub returns-clause-ready : goal.returns-clause-ready
returns-clause-ready g c = λ pages w.
    let t : Tables = tables_of c.args.self.now pages in
    send-ready t c.args.kind c.deref.result.now c.in-Some.cid w c.requires.plain (c.in-Ok.ensures.free pages) c.deref.ensures.value c.in-Some.ensures (sym (c.if-is_queue_full.ensures pages))

pub returns-in-Err-clause-refused : goal.returns-in-Err-clause-refused
returns-in-Err-clause-refused g c = λ pages w. c.in-Err.ensures.refused pages
