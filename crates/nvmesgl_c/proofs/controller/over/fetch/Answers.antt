use Rattle.nvmesgl_c.proofs.Told.{fetch_ok, fetch_err}
use Rattle.nvmesgl_c.proofs.controller.over.fetch.Goals as goal

pub returns-in-Ok-clause-fetches : goal.returns-in-Ok-clause-fetches
returns-in-Ok-clause-fetches c =
    fetch_ok _ _ _ _ c.in-Ok.cid _ _ c.args.memory.now.touched.items c.fetch-fetched.new.dma.touched.items c.as_slice.result.now c.touching.result c.requires.fresh c.in-Ok.ensures.fetches c.touching.ensures c.as_slice.ensures.value

pub returns-in-Err-clause-fetches : goal.returns-in-Err-clause-fetches
returns-in-Err-clause-fetches c =
    fetch_err _ _ _ _ _ c.in-Err.why _ _ c.args.memory.now.touched.items c.fetch-fetched.new.dma.touched.items c.as_slice.result.now c.touching.result c.requires.fresh c.in-Err.ensures.fetches c.touching.ensures c.as_slice.ensures.value
    c.code_of_refusal.ensures
