use Rattle.std.proofs.Common.{◌++◌, ◌∷◌, [], if◌then◌else◌, Bool, ap, ap₂, ◌∙◌, arith}
use Rattle.xfs_geom.specs.Volumes.{volume_of}
use Rattle.xfs_groups.specs.Private.Chosen.{chosen_rec, is_chosen_as}
use Rattle.xfs_groups.proofs.Placed.{root_chosen}
use Rattle.xfs_groups.proofs.scanned.scan_cluster.Goals as goal

pub returns-in-Err : goal.returns-in-Err
returns-in-Err g c = record { chosen = tt; withheld = tt; root = tt; cause = c.in-Err.ensures.cause; disk = c.in-Err.ensures.disk; reads = omega arith }

pub returns-in-Err-push_chosen : goal.returns-in-Err-push_chosen
returns-in-Err-push_chosen g c = record { chosen = tt; withheld = tt; root = tt; cause = c.in-Ok.ensures.cause; disk = c.in-Ok.ensures.disk; reads = omega arith }

pub returns-in-Ok-push_chosen : goal.returns-in-Ok-push_chosen
returns-in-Ok-push_chosen g c =
    let v = volume_of c.args.g.now in
    let named = c.args.named.now in
    let cluster = c.args.cluster in
    record {
      chosen = λ image told.
          c.in-Ok-push_chosen.ensures
          ∙ ap (λ (b : Bool). c.args.all.now.clusters.items ++ (if b then (chosen_rec v named cluster ∷ []) else []))
          (c.is_chosen-is_chosen.ensures ∙ ap₂ (is_chosen_as v named cluster) (c.in-Ok.ensures.used image told) (c.in-Ok.ensures.clear image told));
      withheld = λ image told. c.in-Ok.ensures.withheld image told;
      root = record {
        wanted = c.is_chosen-is_chosen.result;
        joined = c.in-Ok-push_chosen.ensures;
        root = λ same. c.is_chosen-is_chosen.ensures ∙ root_chosen v named cluster c.in-Ok.seen.used c.in-Ok.seen.clear same;
      };
      cause = c.in-Ok.ensures.cause;
      disk = c.in-Ok.ensures.disk;
      reads = omega arith;
    }
