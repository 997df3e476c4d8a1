use Rattle.std.proofs.Common.{◌≡◌, ◌++◌, ap, ◌∙◌}
use Rattle.io_commands.specs.{DataBytes.PagesOut, Values.numbers_of}
use Rattle.driver_book.proofs.Runs.{kept_draft}
use Rattle.driver_book.proofs.keep.keep_draft.Goals as goal

pub returns-clause-shown : goal.returns-clause-shown
returns-clause-shown g c =
    let d = c.args.draft.now in
    let q0 = c.args.pages.now in
    let q1 = c.keep_numbers-data_pages.new.list in
    let q2 = c.keep_numbers-chain_pages.new.list in
    let first : q1.items ≡ q0.items ++ numbers_of d.data_pages = c.keep_numbers-data_pages.ensures.items ∙ ap (λ (ps : PagesOut). q0.items ++ numbers_of ps) c.data_pages.ensures in
    let then : q2.items ≡ q1.items ++ numbers_of d.chain_pages = c.keep_numbers-chain_pages.ensures.items ∙ ap (λ (ps : PagesOut). q1.items ++ numbers_of ps) c.chain_pages.ensures in
    kept_draft c.keep_request-request.new.list.items q0.items q1.items q2.items (record { request = c.keep_request-request.result; data_pages = c.keep_numbers-data_pages.result; chain_pages = c.keep_numbers-chain_pages.result })
    d.request (numbers_of d.data_pages) (numbers_of d.chain_pages) (c.keep_request-request.ensures.shown ∙ c.request.ensures.request) first then
    (c.keep_numbers-data_pages.ensures.start ∙ q0.ok.0) (c.keep_numbers-data_pages.ensures.end ∙ q1.ok.0) (c.keep_numbers-chain_pages.ensures.start ∙ q1.ok.0) (c.keep_numbers-chain_pages.ensures.end ∙ q2.ok.0)
