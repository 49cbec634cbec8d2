use Rattle.xfs_volume_tests.proofs.Asked.{kinds_asked}
use Rattle.xfs_volume_tests.proofs.render.objects.of_each_kind.Goals as goal

pub returns : goal.returns
returns c =
    kinds_asked _ c.in_ok-directory.directory c.in_ok-link.link c.in_ok-file.file c.in_ok-vec.ensures.items c.in_ok-directory.ensures c.in_ok-link.ensures c.in_ok-file.ensures
