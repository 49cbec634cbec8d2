use Rattle.std.proofs.Common.{◌≡◌, Bool, None, if◌then◌else◌, sym, ◌∙◌, ap}
use Rattle.xfs_place.specs.Finding.{InRow}
use Rattle.xfs_place.specs.Greatest.{leaves_of}
use Rattle.xfs_place.specs.Objects.{found_or}
use Rattle.xfs_place.proofs.RowRuns.{least_whole, whole_found}
use Rattle.xfs_place.proofs.open_blocks.whole_of.Goals as goal

pub returns-then-is_too_long-clause-whole : goal.returns-then-is_too_long-clause-whole
returns-then-is_too_long-clause-whole c = λ low finds.
    ap (λ (t : Bool). found_or (if t then None else low c.args.blocks) c.args.blocks None) (sym c.is_too_long.ensures ∙ c.if-is_too_long.true)

pub returns-clause-whole : goal.returns-clause-whole
returns-clause-whole c = λ low finds.
    ap (λ (t : Bool). found_or (if t then None else low c.args.blocks) c.args.blocks None) (sym c.is_too_long.ensures ∙ c.if-is_too_long.false)
    ∙ whole_found (InRow c.args.starts.now (leaves_of c.args.counts.now)) low c.args.blocks c.lowest_of.result finds c.requires.some c.lowest_of.ensures.lowest c.lowest_of.ensures.blocks

pub returns-clause-least : goal.returns-clause-least
returns-clause-least c = least_whole (InRow c.args.starts.now (leaves_of c.args.counts.now)) c.args.blocks c.lowest_of.result c.lowest_of.ensures.lowest c.lowest_of.ensures.blocks

pub returns-then-is_too_long-clause-least : goal.returns-then-is_too_long-clause-least
returns-then-is_too_long-clause-least c = tt

pub returns-then-is_too_long-clause-front : goal.returns-then-is_too_long-clause-front
returns-then-is_too_long-clause-front c = tt

pub returns-then-is_too_long-clause-blocks : goal.returns-then-is_too_long-clause-blocks
returns-then-is_too_long-clause-blocks c = tt

pub lowest_of-requires-clause-some : goal.lowest_of-requires-clause-some
lowest_of-requires-clause-some c = c.requires.some

pub lowest_of-requires-clause-rows : goal.lowest_of-requires-clause-rows
lowest_of-requires-clause-rows c = c.requires.rows

pub returns-clause-front : goal.returns-clause-front
returns-clause-front c = c.lowest_of.ensures.front

pub returns-clause-blocks : goal.returns-clause-blocks
returns-clause-blocks c = c.lowest_of.ensures.blocks
