use Rattle.std.proofs.Common.{◌-◌, None, rules, refl, arith}
use Rattle.xfs_forest.proofs.Trees.{growing_descends}
use Rattle.xfs_forest.proofs.growing.descend.Goals as goal

pub returns : goal.returns
returns g c =
    let old = c.args.tree.now in
    record {
      low = λ n low none. let was = low none in omega (arith, was);
      met = refl;
      grows = λ s v image whole growing.
          growing_descends s v image whole old
          (record { level = old.level - 1; row = c.replace.result; at = 0; side = None; met = old.met; before = None; next = c.replace.new.dest; records = old.records; fault = old.fault })
          (old.level - 1) c.requires.through (search rules) refl refl refl refl (search rules) (search rules) refl refl growing;
    }
