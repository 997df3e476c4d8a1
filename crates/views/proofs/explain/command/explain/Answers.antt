-- The walk begins with all of the list to do.
use Rattle.std.proofs.{Common.{◌≡◌, ◌≢◌, ◌∙◌, ℕ, List, ap, length, replicate, subst, sym}, lemmas.List.take_at}
use Rattle.controller_walk.{proofs.Stands.stands_at_first, specs.{Laws.IsApart, Walks.direction_of}}
use Rattle.views.{proofs.{Fetched.{fetching, judged}, Telling.{tells_none, begins}}, specs.{Ending.{ends_with, list_of}, Fetched.{bytes_fetched, fetched}, Stored.{bytes_moved, stored_of}}}
use Rattle.controller_walk.specs.Units.{Course}
use Rattle.io_commands.specs.{Jobs.direction_of_entry, declared.request.Kind.TheVariants.Read}
use Rattle.views.specs.Sparse.{byte_in}
use Rattle.sgl_descriptor.specs.declared.Direction.{Direction}
use Rattle.views.proofs.explain.command.explain.Goals as goal

pub returns-clause-fault : goal.returns-clause-fault
returns-clause-fault c passes at apart =
    let apart' : IsApart at (direction_of c.walk_of-walk.result) (list_of c.args.namespace.now.size (byte_in c.args.memory.now.pool) c.args.entry.now) =
    subst (λ (d : Direction). IsApart at d (list_of c.args.namespace.now.size (byte_in c.args.memory.now.pool) c.args.entry.now)) (sym c.walk_of-walk.ensures.direction) apart in
    c.in_ok-taken.ensures.ends at _ _ apart'
    (begins at (byte_in c.args.memory.now.pool) c.args.entry.now.sgl1 (direction_of_entry c.args.entry.now) (bytes_moved c.args.namespace.now.size c.args.entry.now) c.walk_of-walk.result apart c.walk_of-walk.ensures.course)

pub returns-clause-told : goal.returns-clause-told
returns-clause-told c passes at apart =
    let apart' : IsApart at (direction_of c.walk_of-walk.result) (list_of c.args.namespace.now.size (byte_in c.args.memory.now.pool) c.args.entry.now) =
    subst (λ (d : Direction). IsApart at d (list_of c.args.namespace.now.size (byte_in c.args.memory.now.pool) c.args.entry.now)) (sym c.walk_of-walk.ensures.direction) apart in
    c.in_ok-taken.ensures.told at _ _ apart'
    (tells_none at (byte_in c.args.memory.now.pool) c.args.entry.now.sgl1 _ c.walk_of-walk.result
    (stands_at_first at (byte_in c.args.memory.now.pool) c.args.entry.now.sgl1 (direction_of_entry c.args.entry.now) (bytes_moved c.args.namespace.now.size c.args.entry.now) c.walk_of-walk.result apart.reads c.walk_of-walk.ensures.course) c.walk_of-walk.ensures.next)

pub returns-clause-status : goal.returns-clause-status
returns-clause-status c passes =
    let final : c.as_slice-3.result.now ≡ c.walk_list.new.staging = c.as_slice-3.ensures.value ∙ take_at c.walk_list.new.staging _ c.in_ok-bytes.bytes.len (c.walk_list.ensures.staging ∙ c.as_mut_slice.ensures.len) in
    let begun : c.as_mut_slice.result.now ≡ c.in_ok-bytes.bytes.items = c.as_mut_slice.ensures.value in
    let many : length c.as_slice.result.now ≡ bytes_moved c.args.namespace.now.size c.args.entry.now = ap length c.as_slice.ensures.value ∙ c.in_ok-stored.ensures.len in
    let stored : c.as_slice-2.result.now ≡ stored_of c.args.namespace.now.size c.args.namespace.now.given.items c.args.entry.now = c.as_slice-2.ensures.value ∙ c.in_ok-stored.ensures.bytes in
    let same : c.in-Ok.kind ≢ Read → c.as_slice-3.result.now ≡ bytes_fetched c.args.namespace.now.size (byte_in c.args.memory.now.pool) c.args.entry.now =
    λ other.
    let zeros : c.as_mut_slice.result.now ≡ replicate (bytes_moved c.args.namespace.now.size c.args.entry.now) 0 = begun ∙ (c.in_ok-bytes.ensures.zeros other ∙ ap (λ (n : ℕ). replicate n 0) many) in
    final ∙ (c.in_ok-taken.ensures.fetched (c.walk_of-walk.ensures.direction ∙ fetching c.args.entry.now c.in-Ok.kind c.in-Ok.ensures.kind other)
    ∙ (ap (λ (x : Course). fetched (byte_in c.args.memory.now.pool) x c.as_mut_slice.result.now) (c.walk_of-walk.ensures.course (byte_in c.args.memory.now.pool))
    ∙ ap (λ (b : List ℕ). fetched (byte_in c.args.memory.now.pool) (list_of c.args.namespace.now.size (byte_in c.args.memory.now.pool) c.args.entry.now) b) zeros)) in
    c.final_status.ensures c.args.entry.now c.in-Ok.ensures.kind
    ∙ (judged c.as_slice-2.result.now c.args.entry.now c.in-Ok.kind c.as_slice-3.result.now (bytes_fetched c.args.namespace.now.size (byte_in c.args.memory.now.pool) c.args.entry.now) c.in_ok-taken.field-0.fault c.in-Ok.ensures.kind same
    ∙ ap (λ (b : List ℕ). ends_with b c.args.entry.now (bytes_fetched c.args.namespace.now.size (byte_in c.args.memory.now.pool) c.args.entry.now) c.in_ok-taken.field-0.fault) stored)
