use Rattle.xfs_filled.proofs.Planned.{all_room, can_write, has_bytes, plan_inside, plan_is}
use Rattle.xfs_filled.proofs.planning.plan_bytes.Goals as goal

pub placed_is_ready-requires-clause-wanted : goal.placed_is_ready-requires-clause-wanted
placed_is_ready-requires-clause-wanted g c =
    can_write c.args.site.now.geometry.now c.args.site.now.starts.now c.args.site.now.nodes.now c.args.site.now.contents.now c.args.site.now.directories.now c.args.site.now.order.now c.requires.site c.requires.chunk c.requires.starts c.args.wanted.now c.requires.wanted

pub placed_is_ready-requires-clause-bytes : goal.placed_is_ready-requires-clause-bytes
placed_is_ready-requires-clause-bytes g c =
    has_bytes c.args.site.now.geometry.now c.args.site.now.starts.now c.args.site.now.nodes.now c.args.site.now.contents.now c.args.site.now.directories.now c.args.site.now.order.now c.requires.site c.requires.chunk c.requires.starts c.args.wanted.now c.requires.wanted c.args.sector.now c.args.stamp.now c.args.placed.now.runs c.args.bytes.now c.requires.bytes c.requires.accepted c.requires.states c.requires.stands.runs'

pub placed_is_ready-requires-clause-runs : goal.placed_is_ready-requires-clause-runs
placed_is_ready-requires-clause-runs g c =
    c.requires.stands.runs'

pub placed_is_ready-requires-clause-cuts : goal.placed_is_ready-requires-clause-cuts
placed_is_ready-requires-clause-cuts g c =
    c.requires.cuts

pub placed_is_ready-requires-clause-groups : goal.placed_is_ready-requires-clause-groups
placed_is_ready-requires-clause-groups g c =
    c.requires.stands.groups'

pub placed_is_ready-requires-clause-apart : goal.placed_is_ready-requires-clause-apart
placed_is_ready-requires-clause-apart g c =
    c.requires.stands.apart

pub placed_is_ready-requires-clause-pool : goal.placed_is_ready-requires-clause-pool
placed_is_ready-requires-clause-pool g c =
    c.requires.stands.pool

pub returns-in-Ok-clause-rendered : goal.returns-in-Ok-clause-rendered
returns-in-Ok-clause-rendered g c =
    plan_is c.args.site.now.geometry.now c.args.site.now.starts.now c.args.site.now.nodes.now c.args.site.now.contents.now c.args.site.now.directories.now c.args.site.now.order.now c.requires.site c.requires.chunk c.requires.starts c.args.wanted.now c.requires.wanted c.args.sector.now c.args.stamp.now c.args.placed.now c.args.bytes.now c.in-Ok.plan c.requires.bytes c.requires.stands c.requires.cuts c.in-Ok.ensures

pub returns-in-Ok-clause-inside : goal.returns-in-Ok-clause-inside
returns-in-Ok-clause-inside g c =
    plan_inside c.args.site.now.geometry.now c.args.site.now.starts.now c.args.site.now.nodes.now c.args.site.now.contents.now c.args.site.now.directories.now c.args.site.now.order.now c.requires.site c.requires.chunk c.requires.starts c.args.wanted.now c.requires.wanted c.args.placed.now c.args.bytes.now c.in-Ok.plan c.placed_is_ready.ensures c.in-Ok.ensures

pub returns-in-Ok-clause-held : goal.returns-in-Ok-clause-held
returns-in-Ok-clause-held g c =
    c.in-Ok.ensures.inside

pub returns-in-Ok-clause-room : goal.returns-in-Ok-clause-room
returns-in-Ok-clause-room g c =
    all_room c.args.site.now.geometry.now c.args.site.now.starts.now c.args.site.now.nodes.now c.args.site.now.contents.now c.args.site.now.directories.now c.args.site.now.order.now c.requires.site c.requires.chunk c.requires.starts c.args.wanted.now c.requires.wanted c.args.placed.now c.requires.stands
