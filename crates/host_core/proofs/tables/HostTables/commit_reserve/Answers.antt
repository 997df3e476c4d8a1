use Rattle.std.proofs.{Common.{◌≡◌, ◌+◌, ◌++◌, ◌∷◌, [], ℕ, List, None, arith, ap, ap₂, sym, ◌∙◌, subst, length}, lemmas.List.length-append}
use Rattle.io_commands.specs.{Asked.Request, DataBytes.PagesOut, Drafts.DraftContents, Least.pages_with, Requests.joined_parts}
use Rattle.io_commands.specs.Values.{numbers_of, data_part, chain_part}
use Rattle.machine_model.specs.{Memory.{without_pages, zeroed_pages}, State.Record, declared.words.{Phase.TheVariants.Drafted, Work.TheVariants.Io}}
use Rattle.page_ledger.specs.{Owners.with_owner, declared.owner.{Owner.TheVariants.Command, Role.TheVariants.{Data, Chain}}}
use Rattle.page_memory.specs.Pages.{Pages}
use Rattle.host_core.proofs.Granted.{data-size, chain-size, length-zeroed, granted_can_take, made_draft, made_pages, reserved_tables}
use Rattle.host_core.{proofs.{Identifiers.{new-place, new-empty}, Told.both_parts}, specs.Commands.{first_placed, then_placed, reserved, CanTake}}
use Rattle.host_core.specs.{Parts.tables_of, Tables.Tables}
use Rattle.entry_codec.specs.declared.hints.TheConstants.Hints.{NONE}
use Rattle.host_core.proofs.tables.HostTables.commit_reserve.Goals as goal

pub move_out_zeroed-requires-clause-can : goal.move_out_zeroed-requires-clause-can
move_out_zeroed-requires-clause-can g c =
    let t : Tables = tables_of c.args.self.now c.args.store.now.pages in
    subst (λ (ps : List ℕ). CanTake ps t.pages) (sym (c.deref.ensures.value ∙ c.place_command.ensures.data_numbers)) (granted_can_take t c.requires.whole c.args.grant.data_pages c.args.grant.chain_pages).0

pub move_out_zeroed-requires-2-clause-can : goal.move_out_zeroed-requires-2-clause-can
move_out_zeroed-requires-2-clause-can g c =
    let t : Tables = tables_of c.args.self.now c.args.store.now.pages in
    let left : c.move_out_zeroed.new.store.pages ≡ without_pages (first_placed t.owners c.args.grant.data_pages) t.pages =
    c.move_out_zeroed.ensures.pages ∙ ap (λ (ps : List ℕ). without_pages ps t.pages) (c.deref.ensures.value ∙ c.place_command.ensures.data_numbers) in
    subst (λ (ps : List ℕ). CanTake ps c.move_out_zeroed.new.store.pages) (sym (c.deref-2.ensures.value ∙ c.place_command.ensures.chain_numbers))
    (subst (λ (m : Pages). CanTake (then_placed t.owners c.args.grant.data_pages c.args.grant.chain_pages) m) (sym left) (granted_can_take t c.requires.whole c.args.grant.data_pages c.args.grant.chain_pages).1)

pub move_out_zeroed-requires-clause-room : goal.move_out_zeroed-requires-clause-room
move_out_zeroed-requires-clause-room g c =
    let t : Tables = tables_of c.args.self.now c.args.store.now.pages in
    let size = data-size t c.args.q c.args.request c.args.grant.cid c.args.grant.data_pages c.args.grant.chain_pages c.requires.granted in
    omega (arith, c.requires.pages.1, ap length (c.deref.ensures.value ∙ c.place_command.ensures.data_numbers), size)

pub move_out_zeroed-requires-2-clause-room : goal.move_out_zeroed-requires-2-clause-room
move_out_zeroed-requires-2-clause-room g c =
    let t : Tables = tables_of c.args.self.now c.args.store.now.pages in
    let one : c.move_out_zeroed.new.into.items ≡ zeroed_pages (first_placed t.owners c.args.grant.data_pages) =
    c.move_out_zeroed.ensures.items ∙ ap₂ (λ (x : PagesOut) (y : List ℕ). x ++ zeroed_pages y) c.requires.pages.0 (c.deref.ensures.value ∙ c.place_command.ensures.data_numbers) in
    let data_numbers = data-size t c.args.q c.args.request c.args.grant.cid c.args.grant.data_pages c.args.grant.chain_pages c.requires.granted in
    let chain_numbers = chain-size t c.args.q c.args.request c.args.grant.cid c.args.grant.data_pages c.args.grant.chain_pages c.requires.granted in
    omega (
      arith,
      c.requires.pages.1,
      c.move_out_zeroed.ensures.capacity,
      ap length one,
      length-zeroed (first_placed t.owners c.args.grant.data_pages),
      data_numbers,
      ap length (c.deref-2.ensures.value ∙ c.place_command.ensures.chain_numbers),
      chain_numbers,
    )

pub make-requires-clause-pages : goal.make-requires-clause-pages
make-requires-clause-pages g c =
    let t : Tables = tables_of c.args.self.now c.args.store.now.pages in
    let one : c.move_out_zeroed.new.into.items ≡ zeroed_pages (first_placed t.owners c.args.grant.data_pages) =
    c.move_out_zeroed.ensures.items ∙ ap₂ (λ (x : PagesOut) (y : List ℕ). x ++ zeroed_pages y) c.requires.pages.0 (c.deref.ensures.value ∙ c.place_command.ensures.data_numbers) in
    let both = c.move_out_zeroed-2.ensures.items ∙ ap₂ (λ (x : PagesOut) (y : List ℕ). x ++ zeroed_pages y) one (c.deref-2.ensures.value ∙ c.place_command.ensures.chain_numbers) in
    let size = made_pages t c.args.q c.args.request c.args.grant.cid c.args.grant.data_pages c.args.grant.chain_pages c.requires.granted c.move_out_zeroed-2.new.into.items both in
    let segment = c.from.ensures ∙ ap (λ (u : Tables). u.segment) (c.add_record.ensures []) in
    size ∙ ap (λ (k : ℕ). pages_with c.args.request.pieces k (joined_parts c.args.request.pieces (numbers_of (data_part c.args.request c.move_out_zeroed-2.new.into.items)))) (sym segment)

pub add_record-requires-clause-place : goal.add_record-requires-clause-place
add_record-requires-clause-place g c = new-place c.args.self.now c.args.store.now.pages c.args.q c.args.grant.cid c.requires.whole c.requires.granted.there c.requires.granted.fresh

pub add_record-requires-clause-empty : goal.add_record-requires-clause-empty
add_record-requires-clause-empty g c = new-empty c.args.self.now c.args.store.now.pages c.args.q c.args.grant.cid c.requires.granted.fresh

pub make-requires-clause-low : goal.make-requires-clause-low
make-requires-clause-low g c =
    let segment = c.from.ensures ∙ ap (λ (u : Tables). u.segment) (c.add_record.ensures []) in
    omega (arith, segment, c.requires.whole.host.limits.least_segment)

pub make-requires-clause-high : goal.make-requires-clause-high
make-requires-clause-high g c =
    let segment = c.from.ensures ∙ ap (λ (u : Tables). u.segment) (c.add_record.ensures []) in
    omega (arith, segment, c.requires.whole.host.limits.most_segment)

pub returns : goal.returns
returns g c =
    let t : Tables = tables_of c.args.self.now c.args.store.now.pages in
    let a : List ℕ = first_placed t.owners c.args.grant.data_pages in
    let b : List ℕ = then_placed t.owners c.args.grant.data_pages c.args.grant.chain_pages in
    let data_numbers = c.deref.ensures.value ∙ c.place_command.ensures.data_numbers in
    let chain_numbers = c.deref-2.ensures.value ∙ c.place_command.ensures.chain_numbers in
    let one : c.move_out_zeroed.new.into.items ≡ zeroed_pages a = c.move_out_zeroed.ensures.items ∙ ap₂ (λ (x : PagesOut) (y : List ℕ). x ++ zeroed_pages y) c.requires.pages.0 data_numbers in
    let both = c.move_out_zeroed-2.ensures.items ∙ ap₂ (λ (x : PagesOut) (y : List ℕ). x ++ zeroed_pages y) one chain_numbers in
    let items : PagesOut = c.move_out_zeroed-2.new.into.items in
    let made : ℕ → DraftContents =
    λ k. record { q = c.args.q; cid = c.args.grant.cid; request = c.args.request; data_pages = data_part c.args.request items; chain_pages = chain_part c.args.request items; segment = k; entry = None } in
    let segment = c.from.ensures ∙ ap (λ (u : Tables). u.segment) (c.add_record.ensures []) in
    let draft = c.make.ensures ∙ (ap made segment ∙ made_draft t c.args.q c.args.request c.args.grant.cid c.args.grant.data_pages c.args.grant.chain_pages c.requires.granted items both) in
    let left : c.move_out_zeroed.new.store.pages ≡ without_pages a t.pages = c.move_out_zeroed.ensures.pages ∙ ap (λ (ps : List ℕ). without_pages ps t.pages) data_numbers in
    let pages = c.move_out_zeroed-2.ensures.pages ∙ ap₂ (λ (ps : List ℕ) (m : Pages). without_pages ps m) chain_numbers left in
    let owners = c.place_command.ensures.owners
    ∙ ap₂ (λ (x y : List ℕ). with_owner (with_owner t.owners x (Command c.args.q c.args.grant.cid Data)) y (Command c.args.q c.args.grant.cid Chain)) c.place_command.ensures.data_numbers c.place_command.ensures.chain_numbers in
    let kept : Request → List ℕ → List ℕ → List Record =
    λ r x y. t.records ++ record { q = c.args.q; cid = c.args.grant.cid; phase = Drafted; work = Io r; data_pages = x; chain_pages = y; status = None; hints = NONE } ∷ [] in
    let records =
    ap (λ (r : Request). kept r c.place_command.new.data_numbers.items c.place_command.new.chain_numbers.items) c.requires.request
    ∙ ap₂ (kept c.args.request) c.place_command.ensures.data_numbers c.place_command.ensures.chain_numbers in
    let parts = ap (λ (d : DraftContents). length d.data_pages + length d.chain_pages) c.make.ensures ∙ both_parts c.args.request items in
    let many = ap length both ∙ length-append (zeroed_pages a) (zeroed_pages b) in
    record {
      draft = draft;
      new = c.add_record.ensures c.move_out_zeroed-2.new.store.pages
          ∙ reserved_tables t c.args.q c.args.grant.cid c.args.request a b c.move_out_zeroed-2.new.store.pages c.place_command.new.ledger (kept c.args.room.request c.place_command.new.data_numbers.items c.place_command.new.chain_numbers.items) c.claim.new.queues.items pages owners records c.claim.ensures
          ∙ ap (λ (d : DraftContents). reserved d t) (sym draft);
      touches = omega (arith, c.move_out_zeroed.ensures.touches, c.move_out_zeroed-2.ensures.touches, ap length data_numbers, ap length chain_numbers, many, length-zeroed a, length-zeroed b, parts);
    }
