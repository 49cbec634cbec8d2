use Rattle.std.proofs.Common.{ℕ, ◌∙◌}
use Rattle.xfs_word.specs.Field.{KeepsBeside, KeepsParts}
use Rattle.xfs_geom.specs.Volumes.{volume_of}
use Rattle.xfs_treebuild.proofs.Heading.{no-both, long-sealed, long-lsn, long-left, long-right, long-keeps, short-sealed, short-lsn, short-left, short-right, short-keeps}
use Rattle.xfs_treebuild.proofs.heads.put_header.Goals as goal

pub put_long-requires-clause-block : goal.put_long-requires-clause-block
put_long-requires-clause-block c = c.requires.block

pub put_short-requires-clause-block : goal.put_short-requires-clause-block
put_short-requires-clause-block c = c.requires.block

pub put_long-requires-clause-magic : goal.put_long-requires-clause-magic
put_long-requires-clause-magic c = c.requires.magic ∙ c.requires.long_magic c.if-layout.true

pub put_short-requires-clause-left : goal.put_short-requires-clause-left
put_short-requires-clause-left c = c.requires.left c.if-layout.false

pub put_short-requires-clause-right : goal.put_short-requires-clause-right
put_short-requires-clause-right c = c.requires.right c.if-layout.false

pub put_short-requires-clause-owner : goal.put_short-requires-clause-owner
put_short-requires-clause-owner c = c.requires.owner c.if-layout.false

pub returns-then-layout-clause-sealed : goal.returns-then-layout-clause-sealed
returns-then-layout-clause-sealed c =
    long-sealed (volume_of c.args.g.now) c.args.layout.now c.args.header.now.owner c.args.header.now.place c.put_long.new.block c.if-layout.true c.put_long.ensures.sealed

pub returns-then-layout-clause-level : goal.returns-then-layout-clause-level
returns-then-layout-clause-level c = c.put_long.ensures.level

pub returns-then-layout-clause-count : goal.returns-then-layout-clause-count
returns-then-layout-clause-count c = c.put_long.ensures.count

pub returns-then-layout-clause-lsn : goal.returns-then-layout-clause-lsn
returns-then-layout-clause-lsn c = long-lsn c.args.layout.now c.put_long.new.block 0 c.if-layout.true c.put_long.ensures.lsn

pub returns-then-layout-clause-left : goal.returns-then-layout-clause-left
returns-then-layout-clause-left c = long-left c.args.layout.now c.put_long.new.block c.args.header.now.left c.if-layout.true c.put_long.ensures.left

pub returns-then-layout-clause-right : goal.returns-then-layout-clause-right
returns-then-layout-clause-right c = long-right c.args.layout.now c.put_long.new.block c.args.header.now.right c.if-layout.true c.put_long.ensures.right

pub returns-then-layout-clause-pad : goal.returns-then-layout-clause-pad
returns-then-layout-clause-pad c = λ is. c.put_long.ensures.pad

pub returns-then-layout-clause-keeps : goal.returns-then-layout-clause-keeps
returns-then-layout-clause-keeps c = long-keeps (λ (n : ℕ). KeepsBeside c.args.block.now c.put_long.new.block 0 n) c.args.layout.now c.if-layout.true c.put_long.ensures.keeps

pub returns-then-layout-clause-keeps_parts : goal.returns-then-layout-clause-keeps_parts
returns-then-layout-clause-keeps_parts c = long-keeps (λ (n : ℕ). KeepsParts c.args.block.now c.put_long.new.block 0 n) c.args.layout.now c.if-layout.true c.put_long.ensures.keeps_parts

pub returns-else-layout-clause-sealed : goal.returns-else-layout-clause-sealed
returns-else-layout-clause-sealed c =
    short-sealed (volume_of c.args.g.now) c.args.layout.now c.args.header.now.magic c.args.header.now.owner c.args.header.now.place c.put_short.new.block c.if-layout.false c.requires.magic c.put_short.ensures.sealed

pub returns-else-layout-clause-level : goal.returns-else-layout-clause-level
returns-else-layout-clause-level c = c.put_short.ensures.level

pub returns-else-layout-clause-count : goal.returns-else-layout-clause-count
returns-else-layout-clause-count c = c.put_short.ensures.count

pub returns-else-layout-clause-lsn : goal.returns-else-layout-clause-lsn
returns-else-layout-clause-lsn c = short-lsn c.args.layout.now c.put_short.new.block 0 c.if-layout.false c.put_short.ensures.lsn

pub returns-else-layout-clause-left : goal.returns-else-layout-clause-left
returns-else-layout-clause-left c = short-left c.args.layout.now c.put_short.new.block c.args.header.now.left c.if-layout.false c.put_short.ensures.left

pub returns-else-layout-clause-right : goal.returns-else-layout-clause-right
returns-else-layout-clause-right c = short-right c.args.layout.now c.put_short.new.block c.args.header.now.right c.if-layout.false c.put_short.ensures.right

pub returns-else-layout-clause-pad : goal.returns-else-layout-clause-pad
returns-else-layout-clause-pad c = λ is. no-both c.args.layout.now.long is c.if-layout.false

pub returns-else-layout-clause-keeps : goal.returns-else-layout-clause-keeps
returns-else-layout-clause-keeps c = short-keeps (λ (n : ℕ). KeepsBeside c.args.block.now c.put_short.new.block 0 n) c.args.layout.now c.if-layout.false c.put_short.ensures.keeps

pub returns-else-layout-clause-keeps_parts : goal.returns-else-layout-clause-keeps_parts
returns-else-layout-clause-keeps_parts c = short-keeps (λ (n : ℕ). KeepsParts c.args.block.now c.put_short.new.block 0 n) c.args.layout.now c.if-layout.false c.put_short.ensures.keeps_parts
