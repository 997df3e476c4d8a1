use Rattle.block_image.proofs.Laws.{put_keeps_others}
use Rattle.block_image.proofs.laws_of_blocks.Goals as goal

pub returns-clause-others : goal.returns-clause-others
returns-clause-others c = put_keeps_others
