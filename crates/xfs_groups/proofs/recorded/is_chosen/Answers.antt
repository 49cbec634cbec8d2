use Rattle.std.proofs.Common.{◌≡◌, refl, sym, ◌∙◌, arith}
use Rattle.xfs_disk.specs.Blocks.{Image}
use Rattle.xfs_disk.proofs.Reading.{reads_none}
use Rattle.xfs_geom.specs.Volumes.{volume_of}
use Rattle.xfs_image.specs.Candidates.{lies_in_chunk}
use Rattle.xfs_image.specs.Clusters.{root_cluster}
use Rattle.xfs_groups.specs.Answers.{are_bare}
use Rattle.xfs_groups.specs.Private.Chosen.{are_clear}
use Rattle.xfs_groups.proofs.Causes.{no_later}
use Rattle.xfs_groups.proofs.OneChosen.{no_root, of_root, outside, unnamed, where_clear}
use Rattle.xfs_groups.proofs.recorded.is_chosen.Goals as goal

pub are_clear-requires : goal.are_clear-requires
are_clear-requires g c = record { blocks = c.requires.cluster; inside = c.requires.inside }

pub returns-then-cluster-root : goal.returns-then-cluster-root
returns-then-cluster-root g c =
    let D = g.D.Disk in
    record {
      chosen = λ image told none. of_root c.args.cluster (root_cluster (volume_of c.args.g.now)) _ (c.if-cluster-root.true ∙ c.requires.root);
      root = λ root. refl;
      cause = no_later (D.faults c.args.disk.now);
      disk = reads_none D.size D.holds D.write_faults D.writes D.tells_stops D.moment D.may_leave D.left_since c.args.disk.now;
      reads = omega arith;
    }

pub returns-then-not-is_named : goal.returns-then-not-is_named
returns-then-not-is_named g c =
    let D = g.D.Disk in
    let v = volume_of c.args.g.now in
    let other : c.args.cluster ≡ root_cluster v → ⊥ = λ root. c.if-cluster-root.false (root ∙ sym c.requires.root) in
    record {
      chosen = λ image told none.
          unnamed c.args.cluster (root_cluster v) c.args.is_named (lies_in_chunk v c.args.cluster) (are_clear v image c.args.cluster 4) other
          c.if-not-is_named.true;
      root = λ root. absurd (other root);
      cause = no_later (D.faults c.args.disk.now);
      disk = reads_none D.size D.holds D.write_faults D.writes D.tells_stops D.moment D.may_leave D.left_since c.args.disk.now;
      reads = omega arith;
    }

pub returns-then-not-lies_in_chunk : goal.returns-then-not-lies_in_chunk
returns-then-not-lies_in_chunk g c =
    let D = g.D.Disk in
    let v = volume_of c.args.g.now in
    let other : c.args.cluster ≡ root_cluster v → ⊥ = λ root. c.if-cluster-root.false (root ∙ sym c.requires.root) in
    record {
      chosen = λ image told none.
          outside c.args.cluster (root_cluster v) c.args.is_named (lies_in_chunk v c.args.cluster) (are_clear v image c.args.cluster 4) other
          c.if-not-is_named.false (sym c.lies_in_chunk.ensures ∙ c.if-not-lies_in_chunk.true);
      root = λ root. absurd (other root);
      cause = no_later (D.faults c.args.disk.now);
      disk = reads_none D.size D.holds D.write_faults D.writes D.tells_stops D.moment D.may_leave D.left_since c.args.disk.now;
      reads = omega arith;
    }

pub returns : goal.returns
returns g c =
    let v = volume_of c.args.g.now in
    let other : c.args.cluster ≡ root_cluster v → ⊥ = λ root. c.if-cluster-root.false (root ∙ sym c.requires.root) in
    record {
      chosen = where_clear c.are_clear.result (g.D.Disk.holds c.args.disk.now) c.args.looks (λ (image : Image). are_bare v image c.args.cluster 4) (λ (image : Image). are_clear v image c.args.cluster 4) c.args.cluster (root_cluster v)
          c.args.is_named (lies_in_chunk v c.args.cluster) other c.if-not-is_named.false
          (sym c.lies_in_chunk.ensures ∙ c.if-not-lies_in_chunk.false) c.are_clear.ensures.clear;
      root = no_root c.are_clear.result c.args.cluster (root_cluster v) other;
      cause = c.are_clear.ensures.cause;
      disk = c.are_clear.ensures.disk;
      reads = c.are_clear.ensures.reads;
    }
