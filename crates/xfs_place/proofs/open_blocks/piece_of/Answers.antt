use Rattle.std.proofs.Common.{◌≡◌, ℕ, ◌-◌, Some, None, min, if◌then◌else◌, Bool, ◌&&◌, nat_lt, sym, ◌∙◌, ap, arith}
use Rattle.xfs_place.specs.Finding.{InRow}
use Rattle.xfs_place.specs.Greatest.{leaves_of}
use Rattle.xfs_place.specs.Objects.{most_extent_blocks, longest_run}
use Rattle.xfs_place.proofs.RowRuns.{found_first, found_none, least_found, longest_found}
use Rattle.xfs_place.proofs.open_blocks.piece_of.Goals as goal

pub returns-in-Some-clause-piece : goal.returns-in-Some-clause-piece
returns-in-Some-clause-piece c = λ low finds.
    found_first (if c.args.split && nat_lt most_extent_blocks c.args.blocks then None else low c.args.blocks) c.args.blocks (longest_run low (min (c.args.blocks - 1) 2097151))
    (c.in-Some.piece.start, c.in-Some.piece.blocks) (c.in-Some.ensures.whole low finds)

pub returns-clause-piece : goal.returns-clause-piece
returns-clause-piece c = λ low finds.
    found_none (if c.args.split && nat_lt most_extent_blocks c.args.blocks then None else low c.args.blocks) c.args.blocks (longest_run low (min (c.args.blocks - 1) 2097151)) (c.in_default.ensures.whole low finds)
    ∙ ap (longest_run low) (sym c.min.ensures)
    ∙ longest_found (InRow c.args.starts.now (leaves_of c.args.counts.now)) low c.min.result c.longest_of.result finds c.longest_of.ensures.longest

pub returns-clause-least : goal.returns-clause-least
returns-clause-least c = least_found (InRow c.args.starts.now (leaves_of c.args.counts.now)) c.min.result c.longest_of.result c.longest_of.ensures.longest

pub whole_of-requires-clause-some : goal.whole_of-requires-clause-some
whole_of-requires-clause-some c = c.requires.some

pub whole_of-requires-clause-rows : goal.whole_of-requires-clause-rows
whole_of-requires-clause-rows c = c.requires.rows

pub returns-in-Some-clause-least : goal.returns-in-Some-clause-least
returns-in-Some-clause-least c = c.in-Some.ensures.least

pub returns-in-Some-clause-front : goal.returns-in-Some-clause-front
returns-in-Some-clause-front c = c.in-Some.ensures.front

pub returns-in-Some-clause-few : goal.returns-in-Some-clause-few
returns-in-Some-clause-few c = omega (arith, c.in-Some.ensures.blocks)

pub longest_of-requires-clause-few : goal.longest_of-requires-clause-few
longest_of-requires-clause-few c = omega (arith, c.min.ensures)

pub longest_of-requires-clause-rows : goal.longest_of-requires-clause-rows
longest_of-requires-clause-rows c = c.requires.rows

pub returns-clause-front : goal.returns-clause-front
returns-clause-front c = c.longest_of.ensures.front
