use Rattle.std.proofs.Common.{refl}
use Rattle.xfs_generator.specs.Files.{byte_of_file}
use Rattle.xfs_generator.proofs.Making.{next_made}
use Rattle.xfs_generator.proofs.generating.bytes_of_file.Goals as goal

pub loop-place-preserved : goal.loop-place-preserved
loop-place-preserved c =
    next_made (byte_of_file c.args.number) c.loop-place.place c.loop-place.bytes.items c.push.new.self.items (byte_of_file c.args.number c.loop-place.place) c.loop-place.invariant
    c.in_ok-push.ensures.items refl
