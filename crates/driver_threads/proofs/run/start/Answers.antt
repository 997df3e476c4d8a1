use denote.Param.{param, copied, Send.{IsSend, Frees, sendable}}
use Rattle.std.proofs.vec.Vec.TheSendSync as vectors
use Rattle.io_commands.proofs.request.Pieces.TheSendSync as pieces
use Rattle.io_commands.proofs.request.RequestOf.TheSendSync as requests
use Rattle.driver_threads.proofs.jobs.Job.TheSendSync as jobs
use Rattle.driver_threads.proofs.book_lock.Shared.TheSendSync as books
use Rattle.driver_threads.proofs.run.Post.TheSendSync as posts
use Rattle.driver_threads.proofs.run.Returned.TheSendSync as returned
use Rattle.driver_threads.proofs.Crossing.{seven_send}
use Rattle.driver_threads.proofs.run.start.Goals as goal

-- each part of the closure that names the allocator, whole: a `search` that goes down to it runs out of steps
pub spawn_with-requires-send-F : goal.spawn_with-requires-send-F
spawn_with-requires-send-F g c κs within =
    let A = copied 1 g.row.A in
    let told = c.type_bounds in
    let send : IsSend (copied 1 g.row.A) = search sendable depth 20 in
    let frees : Frees g.A.Allocator g.A.Allocator.dealloc_token = search sendable depth 20 in
    let given : IsSend (param 6 g.row.D) = search sendable depth 20 in
    let piece = pieces.the_send A g.A.Allocator send frees in
    let book = books.the_field_sync (param 0 g.row.L) A g.L.LogBrand g.L.Ledger g.L.Naming g.A.Allocator send frees in
    let row = vectors.the_send _ A g.A.Allocator (jobs.the_send _ _ (requests.the_send _ piece) given) send frees in
    let post = posts.the_send in
    search (seven_send, sendable) depth 30

pub spawn_with-requires-send-T : goal.spawn_with-requires-send-T
spawn_with-requires-send-T g c κs within =
    let told = c.type_bounds in
    let send : IsSend (copied 1 g.row.A) = search sendable depth 20 in
    let frees : Frees g.A.Allocator g.A.Allocator.dealloc_token = search sendable depth 20 in
    let kept : IsSend (param 5 g.row.K) = search sendable depth 20 in
    let field = returned.the_field_send (param 0 g.row.L) (copied 1 g.row.A) (param 5 g.row.K) g.L.LogBrand g.L.Ledger g.L.Naming g.A.Allocator send kept frees in
    let row = returned.the_send (param 0 g.row.L) (copied 1 g.row.A) (param 5 g.row.K) g.L.LogBrand g.L.Ledger g.L.Naming g.A.Allocator send kept frees in
    search sendable depth 30
