use Rattle.xfs_request.proofs.Numbers.{number_next}
use Rattle.xfs_request.proofs.links.each_number.Goals as goal

pub loop-file-preserved : goal.loop-file-preserved
loop-file-preserved c =
    number_next c.args.files.now c.loop-file.file-index c.file-item.result c.loop-file.numbers.items c.push.new.self.items _ c.loop-file-test.true c.file-item.is c.loop-file.invariant
    c.in_ok-push.ensures.items
