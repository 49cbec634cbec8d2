use Rattle.std.proofs.Common.{sym, ◌∙◌}
use Rattle.xfs_empty.proofs.Bounds.{blocks_broken, chosen, groups_broken, log_broken, none_broken}
use Rattle.xfs_empty.proofs.sizes.choose.Goals as goal

pub split-requires : goal.split-requires
split-requires c = c.if-dblocks-gt-MOST_BLOCKS.false

pub log_blocks-logblocks-requires : goal.log_blocks-logblocks-requires
log_blocks-logblocks-requires c = c.in-Some.ensures.kept

pub has_log_room-requires : goal.has_log_room-requires
has_log_room-requires c = c.in-Some.ensures.kept

pub geometry-requires-clause-groups : goal.geometry-requires-clause-groups
geometry-requires-clause-groups c = c.in-Some.ensures.kept

pub geometry-requires-clause-log : goal.geometry-requires-clause-log
geometry-requires-clause-log c = sym c.has_log_room.ensures ∙ c.if-not-has_log_room.false

pub returns-then-dblocks-blocks-clause-refused : goal.returns-then-dblocks-blocks-clause-refused
returns-then-dblocks-blocks-clause-refused c =
    blocks_broken c.args.asked.now c.args.blocks c.unwrap_or-dblocks.result c.unwrap_or-dblocks.ensures c.then-dblocks-blocks.either

pub returns-in_default-clause-refused : goal.returns-in_default-clause-refused
returns-in_default-clause-refused c =
    groups_broken c.args.asked.now c.args.blocks c.unwrap_or-dblocks.result c.unwrap_or-dblocks.ensures c.if-dblocks-blocks.false
    c.if-dblocks-gt-MOST_BLOCKS.false (sym c.split.ensures.value ∙ c.in_default.is)

pub returns-then-not-has_log_room-clause-refused : goal.returns-then-not-has_log_room-clause-refused
returns-then-not-has_log_room-clause-refused c =
    log_broken c.args.asked.now c.args.blocks c.unwrap_or-dblocks.result c.unwrap_or-dblocks.ensures c.in-Some.groups (sym c.split.ensures.value ∙ c.in-Some.is)
    c.log_blocks-logblocks.result c.if-dblocks-blocks.false c.if-dblocks-gt-MOST_BLOCKS.false c.log_blocks-logblocks.ensures
    (sym c.has_log_room.ensures ∙ c.if-not-has_log_room.true)

pub returns-clause-fits : goal.returns-clause-fits
returns-clause-fits c =
    none_broken c.args.asked.now c.args.blocks c.unwrap_or-dblocks.result c.unwrap_or-dblocks.ensures c.in-Some.groups (sym c.split.ensures.value ∙ c.in-Some.is)
    c.log_blocks-logblocks.result c.if-dblocks-blocks.false c.if-dblocks-gt-MOST_BLOCKS.false c.log_blocks-logblocks.ensures
    (sym c.has_log_room.ensures ∙ c.if-not-has_log_room.false)

pub returns-clause-chosen : goal.returns-clause-chosen
returns-clause-chosen c =
    chosen c.args.asked.now c.args.blocks c.unwrap_or-dblocks.result c.unwrap_or-dblocks.ensures c.in-Some.groups (sym c.split.ensures.value ∙ c.in-Some.is)
    c.args.uuid c.geometry.result c.log_blocks-logblocks.result c.log_blocks-logblocks.ensures c.geometry.ensures.dblocks c.geometry.ensures.agblocks
    c.geometry.ensures.agcount c.geometry.ensures.log c.geometry.ensures.logblocks c.geometry.ensures.rootino c.geometry.ensures.logsectlog c.geometry.ensures.uuid
