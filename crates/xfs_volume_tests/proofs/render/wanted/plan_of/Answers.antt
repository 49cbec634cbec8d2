use Rattle.xfs_volume_tests.proofs.Rendered.{small_bytes, small_kept, small_writable}
use Rattle.xfs_volume_tests.proofs.render.wanted.plan_of.Goals as goal

pub chunks_are_few-requires : goal.chunks_are_few-requires
chunks_are_few-requires g c = small_writable c.volume_in-g.result c.in-Ok.wanted c.args.objects.items _ c.volume_in-g.ensures.first c.in-Ok.ensures c.requires

pub place-requires-clause-kept : goal.place-requires-clause-kept
place-requires-clause-kept g c = small_kept c.volume_in-g.result c.in-Ok.wanted c.args.objects.items c.volume_in-g.ensures.first c.in-Ok.ensures

pub place-requires-clause-asks : goal.place-requires-clause-asks
place-requires-clause-asks g c =
    (small_writable c.volume_in-g.result c.in-Ok.wanted c.args.objects.items _ c.volume_in-g.ensures.first c.in-Ok.ensures c.requires).asks

pub placed_is_ready-requires-clause-wanted : goal.placed_is_ready-requires-clause-wanted
placed_is_ready-requires-clause-wanted g c =
    small_writable c.volume_in-g.result c.in-Ok.wanted c.args.objects.items _ c.volume_in-g.ensures.first c.in-Ok.ensures c.requires

pub placed_is_ready-requires-clause-bytes : goal.placed_is_ready-requires-clause-bytes
placed_is_ready-requires-clause-bytes g c =
    small_bytes c.volume_in-g.result c.in-Ok.wanted c.args.objects.items _ _ c.args.built c.in-Ok-bytes_of.bytes c.in-Ok.ensures c.in-Ok-bytes_of.ensures
    c.volume_in-g.ensures.accepted c.volume_in-g.ensures.states c.requires
