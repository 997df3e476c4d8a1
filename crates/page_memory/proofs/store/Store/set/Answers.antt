use Rattle.page_memory.proofs.Bytes.{byte_at_written, in_written}
use Rattle.page_memory.proofs.store.Store.set.Goals as goal

pub returns-clause-memory : goal.returns-clause-memory
returns-clause-memory g c =
    rw (← c.self.view_is, c.set.ensures.bytes)
    (byte_at_written c.self.inside.pages.items c.args.number c.args.at c.args.bytes.now c.in-Some.page (rw c.in-Some.is at c.index_mut.ensures.value) (rw (← c.self.view_is) at c.requires.there) c.set.ensures.len.0 c.requires.fits)

pub returns-clause-stays_in : goal.returns-clause-stays_in
returns-clause-stays_in g c = λ p.
    rw (← c.self.view_is, c.set.ensures.bytes)
    (in_written c.self.inside.pages.items c.args.number c.args.at p c.args.bytes.now c.in-Some.page (rw c.in-Some.is at c.index_mut.ensures.value) (rw (← c.self.view_is) at c.requires.there))
