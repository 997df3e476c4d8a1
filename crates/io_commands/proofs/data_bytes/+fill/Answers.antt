use Rattle.std.proofs.Common.{arith, rules}
use Rattle.std.proofs.lemmas.List.{length-take}
use Rattle.io_commands.proofs.Padding.{bucket_filled, bucket_passed, bytes_behind, others_inside, pages_behind, piece_filled, piece_inside}
use Rattle.io_commands.proofs.data_bytes.+fill.Goals as goal

pub returns-in-Some-split_first_mut : goal.returns-in-Some-split_first_mut
returns-in-Some-split_first_mut g t c =
    piece_filled c.args.pieces.now c.in-Some.others.now c.in-Some.piece.now c.in-Data.offset c.in-Data.len c.args.pages.now c.in-Some-split_first_mut.behind.now
    c.fill-in-Some-split_first_mut.new.pages c.in-Some-split_first_mut.page.now c.put_padded.new.page c.args.bytes.now c.split_within.result.0.now c.split_within.result.1.now
    c.in-Some.ensures.cases.0 c.in-Data.is c.in-Some-split_first_mut.ensures.cases.0 c.split_within.ensures.first c.split_within.ensures.others c.put_padded.ensures c.fill-in-Some-split_first_mut.ensures

pub fill-requires : goal.fill-requires
fill-requires g t c κs within =
    let passed = bucket_passed c.args.pieces.now c.in-Some.others.now c.in-Some.piece.now c.in-Bucket.len c.in-Some.ensures.cases.0 c.in-Bucket.is in (
      search rules,
      (
        search rules,
        (
          others_inside c.args.pieces.now c.in-Some.others.now c.in-Some.piece.now c.in-Some.ensures.cases.0 c.requires.inside,
          (omega (arith, passed.0, c.requires.enough), omega (arith, passed.1, c.requires.length)),
        ),
      ),
    )

pub put_padded-requires-clause-inside : goal.put_padded-requires-clause-inside
put_padded-requires-clause-inside g t c =
    piece_inside c.args.pieces.now c.in-Some.others.now c.in-Some.piece.now c.in-Data.offset c.in-Data.len c.in-Some.ensures.cases.0 c.in-Data.is c.requires.inside

pub put_padded-requires-clause-room : goal.put_padded-requires-clause-room
put_padded-requires-clause-room g t c = rw c.split_within.ensures.first (omega (arith, length-take c.in-Data.len c.args.bytes.now))

pub fill-requires-in-Some-split_first_mut : goal.fill-requires-in-Some-split_first_mut
fill-requires-in-Some-split_first_mut g t c κs within = (
  search rules,
  (
    search rules,
    (
      others_inside c.args.pieces.now c.in-Some.others.now c.in-Some.piece.now c.in-Some.ensures.cases.0 c.requires.inside,
      (
        pages_behind c.args.pieces.now c.in-Some.others.now c.in-Some.piece.now c.in-Data.offset c.in-Data.len c.args.pages.now c.in-Some-split_first_mut.behind.now c.in-Some-split_first_mut.page.now
            c.in-Some.ensures.cases.0 c.in-Data.is c.in-Some-split_first_mut.ensures.cases.0 c.requires.enough,
        bytes_behind c.args.pieces.now c.in-Some.others.now c.in-Some.piece.now c.in-Data.offset c.in-Data.len c.args.bytes.now c.split_within.result.1.now
            c.in-Some.ensures.cases.0 c.in-Data.is c.split_within.ensures.others c.requires.length,
      ),
    ),
  ),
)

pub returns-in-Bucket : goal.returns-in-Bucket
returns-in-Bucket g t c =
    bucket_filled c.args.pieces.now c.in-Some.others.now c.in-Some.piece.now c.in-Bucket.len c.args.pages.now c.fill.new.pages c.args.bytes.now c.in-Some.ensures.cases.0 c.in-Bucket.is c.fill.ensures
