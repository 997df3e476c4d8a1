use Rattle.nvmesgl_c.proofs.Marks.{same_mark}
use Rattle.nvmesgl_c.proofs.Told.{fetch_ok, fetch_err}
use Rattle.nvmesgl_c.proofs.controller.regions.fetch.Goals as goal

pub returns-in-Ok-clause-fetches : goal.returns-in-Ok-clause-fetches
returns-in-Ok-clause-fetches c =
    fetch_ok _ _ _ _ c.in-Ok.cid _ _ c.args.memory.now.touched.items c.fetch-fetched.new.dma.touched.items c.as_slice.result.now c.touching.result c.requires.fresh c.in-Ok.ensures.fetches c.touching.ensures c.as_slice.ensures.value

pub returns-in-Err-clause-fetches : goal.returns-in-Err-clause-fetches
returns-in-Err-clause-fetches c =
    fetch_err _ _ _ _ _ c.in-Err.why _ _ c.args.memory.now.touched.items c.fetch-fetched.new.dma.touched.items c.as_slice.result.now c.touching.result c.requires.fresh c.in-Err.ensures.fetches c.touching.ensures c.as_slice.ensures.value
    c.code_of_refusal.ensures

pub returns-in-Ok-clause-same : goal.returns-in-Ok-clause-same
returns-in-Ok-clause-same c = (same_mark _ _ _ _ _ _ c.fetch-fetched.ensures.unlisted).0

pub returns-in-Ok-clause-table : goal.returns-in-Ok-clause-table
returns-in-Ok-clause-table c = (same_mark _ _ _ _ _ _ c.fetch-fetched.ensures.unlisted).1

pub returns-in-Err-clause-same : goal.returns-in-Err-clause-same
returns-in-Err-clause-same c = (same_mark _ _ _ _ _ _ c.fetch-fetched.ensures.unlisted).0

pub returns-in-Err-clause-table : goal.returns-in-Err-clause-table
returns-in-Err-clause-table c = (same_mark _ _ _ _ _ _ c.fetch-fetched.ensures.unlisted).1

pub returns-in-Ok-clause-hidden : goal.returns-in-Ok-clause-hidden
returns-in-Ok-clause-hidden c = (same_mark _ _ _ _ _ _ c.fetch-fetched.ensures.unlisted).2

pub returns-in-Err-clause-hidden : goal.returns-in-Err-clause-hidden
returns-in-Err-clause-hidden c = (same_mark _ _ _ _ _ _ c.fetch-fetched.ensures.unlisted).2
