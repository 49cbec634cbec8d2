use Rattle.std.proofs.Common.{◌≡◌, ℕ, ◌<◌, ◌≤◌, inl, inr, get_or, length, ◌∙◌, sym, subst, arith, refl}
use Rattle.xfs_place.specs.Greatest.{leaves_of}
use Rattle.xfs_place.proofs.RowRuns.{least_row, none_row, row_inside}
use Rattle.xfs_place.proofs.open_blocks.lowest_of.Goals as goal

pub returns-then-blocks-gt-MOST_BLOCKS-clause-there : goal.returns-then-blocks-gt-MOST_BLOCKS-clause-there
returns-then-blocks-gt-MOST_BLOCKS-clause-there c = inl (omega (arith, c.if-blocks-gt-MOST_BLOCKS.true))

pub returns-in_default-clause-lowest : goal.returns-in_default-clause-lowest
returns-in_default-clause-lowest c =
    none_row c.args.starts.now (leaves_of c.args.counts.now) c.requires.rows.rows c.args.blocks c.requires.some
    (λ j low. c.in_default.ensures.first.1 j (omega (arith, low, c.requires.rows.few)))

pub returns-in_default-clause-there : goal.returns-in_default-clause-there
returns-in_default-clause-there c = inr c.in_default.ensures.first.0

pub returns-clause-lowest : goal.returns-clause-lowest
returns-clause-lowest c =
    let found = c.in-Some.ensures.first in
    let row = c.in-Some.row in
    let starts = c.args.starts.now in
    let inside = row_inside starts c.args.counts.now row c.args.blocks c.requires.rows found.0 found.1 c.requires.some in
    least_row starts (leaves_of c.args.counts.now) c.requires.rows.rows c.args.blocks row c.requires.some (omega (arith, c.if-blocks-gt-MOST_BLOCKS.false)) inside found.1 found.2

pub returns-then-blocks-gt-MOST_BLOCKS-clause-front : goal.returns-then-blocks-gt-MOST_BLOCKS-clause-front
returns-then-blocks-gt-MOST_BLOCKS-clause-front c = tt

pub returns-then-blocks-gt-MOST_BLOCKS-clause-blocks : goal.returns-then-blocks-gt-MOST_BLOCKS-clause-blocks
returns-then-blocks-gt-MOST_BLOCKS-clause-blocks c = tt

pub returns-in_default-clause-front : goal.returns-in_default-clause-front
returns-in_default-clause-front c = tt

pub returns-in_default-clause-blocks : goal.returns-in_default-clause-blocks
returns-in_default-clause-blocks c = tt

pub returns-clause-blocks : goal.returns-clause-blocks
returns-clause-blocks c = refl

pub returns-clause-there : goal.returns-clause-there
returns-clause-there c = tt
