use Rattle.std.proofs.Common.{◌≡◌, ◌<◌, ◌∙◌, length, refl, subst, sym}
use Rattle.io_commands.{proofs.Lending.{lent_bytes, lent_is, lent_keeps}, specs.{Drafting.contents_of, Drafts.{DraftContents, IsDraft}, Requests.data_count, Values.data_part}}
use Rattle.io_commands.proofs.draft.Draft.data_mut.Goals as goal

pub invariant_of-self-lent : goal.invariant_of-self-lent
invariant_of-self-lent g c = λ w.
    let d : DraftContents = contents_of c.self.inside in
    let there : c.args.i < length (data_part d.request c.self.inside.pages.items) = rw (← c.self.view_is) at c.requires in (
      subst (λ (x : DraftContents). IsDraft x) (sym (lent_is d c.self.inside.pages.items c.args.i c.index_mut.result.now w refl refl there c.index_mut.ensures.value)) (lent_keeps d c.args.i w c.self.invariant.0),
      c.self.invariant.1,
    )

pub returns : goal.returns
returns g c =
    let d : DraftContents = contents_of c.self.inside in
    let there : c.args.i < length (data_part d.request c.self.inside.pages.items) = rw (← c.self.view_is) at c.requires in (
      (refl, λ w. rw (← c.self.view_is) (lent_is d c.self.inside.pages.items c.args.i c.index_mut.result.now w refl refl there c.index_mut.ensures.value)),
      record {
        writes_back = tt;
        value = rw (← c.self.view_is) (c.bytes_mut.ensures.value ∙ lent_bytes (data_count d.request.pieces) c.self.inside.pages.items c.args.i c.index_mut.result.now there c.index_mut.ensures.value);
        len = c.bytes_mut.ensures.len;
      },
    )
