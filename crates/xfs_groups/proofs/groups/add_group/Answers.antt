use Rattle.std.proofs.Common.{◌∙◌, ◌++◌, ◌∷◌, [], List, ℕ, ap, arith}
use Rattle.xfs_geom.specs.Volumes.{volume_of}
use Rattle.xfs_volume.specs.declared.clusters.ClusterRec.{ClusterRec}
use Rattle.xfs_groups.specs.Answers.{lists_of}
use Rattle.xfs_groups.specs.Private.Parts.{then_read}
use Rattle.xfs_groups.proofs.Bare.{bare_behind}
use Rattle.xfs_groups.proofs.groups.add_group.Goals as goal

pub returns-in-Err : goal.returns-in-Err
returns-in-Err g c = record { groups = tt; clusters = tt; trees = tt; placed = tt; cause = c.in-Err.ensures.cause; disk = c.in-Err.ensures.disk; reads = omega arith }

pub returns-in-Err-with_seen : goal.returns-in-Err-with_seen
returns-in-Err-with_seen g c = record { groups = tt; clusters = tt; trees = tt; placed = tt; cause = c.in-Ok.ensures.cause; disk = c.in-Ok.ensures.disk; reads = omega arith }

pub returns-in-Ok-with_seen : goal.returns-in-Ok-with_seen
returns-in-Ok-with_seen g c =
    let all = c.args.all in
    record {
      groups = λ image told. c.in-Ok-with_seen.ensures.groups ∙ ap (then_read all.groups) (c.in-Ok.ensures.record image told);
      clusters = λ image told none. c.in-Ok-with_seen.ensures.clusters
          ∙ ap (λ (xs : List ClusterRec). all.clusters ++ xs) (c.in-Ok.ensures.clusters image told
          (λ unlooked. bare_behind (volume_of c.args.g.now) image all.clusters c.in-Ok.seen.clusters.items c.in-Ok-with_seen.grown.clusters c.in-Ok-with_seen.ensures.clusters (none unlooked)));
      trees = λ image told. c.in-Ok-with_seen.ensures.trees ∙ ap (λ (xs : List ℕ). lists_of all.trees ++ xs ∷ []) (c.in-Ok.ensures.reserved image told);
      placed = record { more = c.in-Ok.seen.clusters.items; joined = c.in-Ok-with_seen.ensures.clusters; placed = c.in-Ok.ensures.placed };
      cause = c.in-Ok.ensures.cause;
      disk = c.in-Ok.ensures.disk;
      reads = omega arith;
    }
