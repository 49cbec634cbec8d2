use Rattle.xfs_volume_tests.proofs.Asked.{two_asked}
use Rattle.xfs_volume_tests.proofs.render.objects.two_files.Goals as goal

pub returns : goal.returns
returns c = two_asked _ c.in_ok-first.first c.in_ok-second.second c.in_ok-vec.ensures.items c.in_ok-first.ensures c.in_ok-second.ensures
