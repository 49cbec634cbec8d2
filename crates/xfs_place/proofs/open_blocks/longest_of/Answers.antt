use Rattle.std.proofs.Common.{◌≡◌, min, ◌∙◌, ap, arith, get_or}
use Rattle.xfs_place.proofs.RowRuns.{longest_row, longest_zero}
use Rattle.xfs_place.proofs.open_blocks.longest_of.Goals as goal

pub returns-then-blocks-eq0-clause-longest : goal.returns-then-blocks-eq0-clause-longest
returns-then-blocks-eq0-clause-longest c =
    longest_zero c.args.starts.now c.args.counts.now c.requires.rows c.args.most c.min-blocks.result (omega (arith, c.min-blocks.ensures, c.greatest.ensures)) (omega (arith, c.if-blocks-eq0.true))

pub returns-clause-longest : goal.returns-clause-longest
returns-clause-longest c =
    longest_row c.args.starts.now c.args.counts.now c.requires.rows c.args.most c.min-blocks.result (omega (arith, c.min-blocks.ensures, c.greatest.ensures)) c.lowest_of.result c.requires.few
    (omega (arith, c.if-blocks-eq0.false)) c.lowest_of.ensures.lowest c.lowest_of.ensures.blocks c.lowest_of.ensures.there

pub returns-then-blocks-eq0-clause-front : goal.returns-then-blocks-eq0-clause-front
returns-then-blocks-eq0-clause-front c = tt

pub returns-then-blocks-eq0-clause-few : goal.returns-then-blocks-eq0-clause-few
returns-then-blocks-eq0-clause-few c = tt

pub lowest_of-requires-clause-rows : goal.lowest_of-requires-clause-rows
lowest_of-requires-clause-rows c = c.requires.rows

pub returns-clause-front : goal.returns-clause-front
returns-clause-front c = c.lowest_of.ensures.front
