use Rattle.std.proofs.{Common.{rules, arith, ◌≤◌, [], ◌∷◌, length, sym, subst, ap, ◌∙◌, All}, lemmas.List.Elements.All-cons}
use Rattle.sgl_descriptor.specs.Spelling.{Fits}
use Rattle.sgl_chain.{proofs.Spelled.{on_one, two_pages, one_page, pages_of_rest}, specs.Chains.{AllFit, Linked, segments_from}}
use Rattle.sgl_chain.proofs.chain.+build_segments.Goals as goal

pub bounds-later-0 : goal.bounds-later-0
bounds-later-0 g t c =
    let two : 2 ≤ length c.args.pages.now = two_pages c.args.segment_size (length c.args.parts.now) (length c.args.pages.now) c.requires.low (omega arith) c.requires.pages in
    search rules

pub build_segments-requires : goal.build_segments-requires
build_segments-requires g t c κs within = (
  search rules,
  (
    search rules,
    (
      omega arith,
      (
        omega arith,
        (
          c.requires.low,
          (
            c.requires.high,
            pages_of_rest c.args.segment_size (length c.args.parts.now) _ c.args.pages.now c.requires.low (omega arith) c.requires.pages c.split_at.ensures.back_len,
          ),
        ),
      ),
    ),
  ),
)

pub returns-in_ok-descs-clause-segments : goal.returns-in_ok-descs-clause-segments
returns-in_ok-descs-clause-segments g t c =
    ap (λ descs. descs ∷ []) c.in_ok-descs.ensures.descs ∙ sym (on_one c.args.segment_size c.args.pages.now c.args.parts.now (one_page c.args.segment_size _ _ c.requires.some c.requires.pages) (omega arith))

pub returns-in_ok-new-clause-fits : goal.returns-in_ok-new-clause-fits
returns-in_ok-new-clause-fits g t c =
    All-cons (λ descriptors. All Fits descriptors) c.in_ok-descs-2.descs (segments_from c.in_ok-new.field-0.value) c.in_ok-descs-2.ensures.fits (subst (λ (segment : Linked). AllFit (segments_from segment)) (sym c.in_ok-new.ensures.ok) c.in_ok-next.ensures.fits)
