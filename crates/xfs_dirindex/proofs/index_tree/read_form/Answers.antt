use Rattle.std.proofs.lemmas.Result.{IfOk-from_err}
use Rattle.xfs_dirindex.proofs.index_tree.read_form.Goals as goal

pub returns-in_err-pairs-clause-sound : goal.returns-in_err-pairs-clause-sound
returns-in_err-pairs-clause-sound c = IfOk-from_err c.from_residual.result _ c.from_residual.ensures.0

pub returns-in_err-pairs-clause-size : goal.returns-in_err-pairs-clause-size
returns-in_err-pairs-clause-size c = IfOk-from_err c.from_residual.result _ c.from_residual.ensures.0

pub returns-in_err-pairs-clause-some : goal.returns-in_err-pairs-clause-some
returns-in_err-pairs-clause-some c = IfOk-from_err c.from_residual.result _ c.from_residual.ensures.0

pub returns-in_err-pairs-clause-few : goal.returns-in_err-pairs-clause-few
returns-in_err-pairs-clause-few c = IfOk-from_err c.from_residual.result _ c.from_residual.ensures.0

pub returns-in_err-pairs-clause-pairs : goal.returns-in_err-pairs-clause-pairs
returns-in_err-pairs-clause-pairs c = IfOk-from_err c.from_residual.result _ c.from_residual.ensures.0

pub returns-then-bytes-ne-BLOCK_SIZE-clause-sound : goal.returns-then-bytes-ne-BLOCK_SIZE-clause-sound
returns-then-bytes-ne-BLOCK_SIZE-clause-sound c = tt

pub returns-then-bytes-ne-BLOCK_SIZE-clause-size : goal.returns-then-bytes-ne-BLOCK_SIZE-clause-size
returns-then-bytes-ne-BLOCK_SIZE-clause-size c = tt

pub returns-then-bytes-ne-BLOCK_SIZE-clause-some : goal.returns-then-bytes-ne-BLOCK_SIZE-clause-some
returns-then-bytes-ne-BLOCK_SIZE-clause-some c = tt

pub returns-then-bytes-ne-BLOCK_SIZE-clause-few : goal.returns-then-bytes-ne-BLOCK_SIZE-clause-few
returns-then-bytes-ne-BLOCK_SIZE-clause-few c = tt

pub returns-then-bytes-ne-BLOCK_SIZE-clause-pairs : goal.returns-then-bytes-ne-BLOCK_SIZE-clause-pairs
returns-then-bytes-ne-BLOCK_SIZE-clause-pairs c = tt

pub returns-then-count-gt-MOST_PAIRS-clause-sound : goal.returns-then-count-gt-MOST_PAIRS-clause-sound
returns-then-count-gt-MOST_PAIRS-clause-sound c = tt

pub returns-then-count-gt-MOST_PAIRS-clause-size : goal.returns-then-count-gt-MOST_PAIRS-clause-size
returns-then-count-gt-MOST_PAIRS-clause-size c = tt

pub returns-then-count-gt-MOST_PAIRS-clause-some : goal.returns-then-count-gt-MOST_PAIRS-clause-some
returns-then-count-gt-MOST_PAIRS-clause-some c = tt

pub returns-then-count-gt-MOST_PAIRS-clause-few : goal.returns-then-count-gt-MOST_PAIRS-clause-few
returns-then-count-gt-MOST_PAIRS-clause-few c = tt

pub returns-then-count-gt-MOST_PAIRS-clause-pairs : goal.returns-then-count-gt-MOST_PAIRS-clause-pairs
returns-then-count-gt-MOST_PAIRS-clause-pairs c = tt

pub returns-then-count-lt1-clause-sound : goal.returns-then-count-lt1-clause-sound
returns-then-count-lt1-clause-sound c = tt

pub returns-then-count-lt1-clause-size : goal.returns-then-count-lt1-clause-size
returns-then-count-lt1-clause-size c = tt

pub returns-then-count-lt1-clause-some : goal.returns-then-count-lt1-clause-some
returns-then-count-lt1-clause-some c = tt

pub returns-then-count-lt1-clause-few : goal.returns-then-count-lt1-clause-few
returns-then-count-lt1-clause-few c = tt

pub returns-then-count-lt1-clause-pairs : goal.returns-then-count-lt1-clause-pairs
returns-then-count-lt1-clause-pairs c = tt

pub returns-then-get16-magic_of_level-clause-sound : goal.returns-then-get16-magic_of_level-clause-sound
returns-then-get16-magic_of_level-clause-sound c = tt

pub returns-then-get16-magic_of_level-clause-size : goal.returns-then-get16-magic_of_level-clause-size
returns-then-get16-magic_of_level-clause-size c = tt

pub returns-then-get16-magic_of_level-clause-some : goal.returns-then-get16-magic_of_level-clause-some
returns-then-get16-magic_of_level-clause-some c = tt

pub returns-then-get16-magic_of_level-clause-few : goal.returns-then-get16-magic_of_level-clause-few
returns-then-get16-magic_of_level-clause-few c = tt

pub returns-then-get16-magic_of_level-clause-pairs : goal.returns-then-get16-magic_of_level-clause-pairs
returns-then-get16-magic_of_level-clause-pairs c = tt

pub returns-then-get16-stated_of-clause-sound : goal.returns-then-get16-stated_of-clause-sound
returns-then-get16-stated_of-clause-sound c = tt

pub returns-then-get16-stated_of-clause-size : goal.returns-then-get16-stated_of-clause-size
returns-then-get16-stated_of-clause-size c = tt

pub returns-then-get16-stated_of-clause-some : goal.returns-then-get16-stated_of-clause-some
returns-then-get16-stated_of-clause-some c = tt

pub returns-then-get16-stated_of-clause-few : goal.returns-then-get16-stated_of-clause-few
returns-then-get16-stated_of-clause-few c = tt

pub returns-then-get16-stated_of-clause-pairs : goal.returns-then-get16-stated_of-clause-pairs
returns-then-get16-stated_of-clause-pairs c = tt
