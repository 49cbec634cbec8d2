use Rattle.xfs_geom.proofs.LogPlace.{log_kept}
use Rattle.xfs_geom.proofs.stated.Stated.geometry.Goals as goal

pub invariant_of-result : goal.invariant_of-result
invariant_of-result c =
    record {
      shape =
          rw c.log.ensures.value
          (record {
            groups = c.requires.parts.groups;
            addresses = c.requires.parts.addresses;
            log_inside = log_kept _ c.requires.parts;
            root = c.requires.root;
            log_sectors = c.requires.parts.log_sectors;
          });
    }
