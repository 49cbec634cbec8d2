use Rattle.std.proofs.Common.{◌+◌, ◌++◌, ◌∙◌, sym, ap, subst, List, map, drop}
use Rattle.std.specs.List.{All}
use Rattle.std.proofs.lemmas.List.Elements.{All-push}
use Rattle.xfs_names.specs.declared.building.BuiltDirectory.{BuiltDirectory}
use Rattle.xfs_names.specs.Built.{IsBuiltAsWanted}
use Rattle.xfs_names.proofs.OwnEntries.{number_next}
use Rattle.xfs_names.proofs.building.build_all.Goals as goal

pub loop-dir-preserved : goal.loop-dir-preserved
loop-dir-preserved c = (
  ap (λ (bs : List BuiltDirectory). map (λ (b : BuiltDirectory). b.ino) bs ++ drop (c.loop-dir.dir-index + 1) c.as_slice-rebuilt.result.now) c.in_ok-push.ensures.items
      ∙ number_next c.loop-dir.built.items c.in_ok-build_one.field-0 c.as_slice-rebuilt.result.now c.loop-dir.dir-index c.loop-dir-test.true c.in_ok-build_one.ensures.number c.loop-dir.invariant.0,
  subst (All (IsBuiltAsWanted c.args.wanted.now c.args.rooms.now)) (sym c.in_ok-push.ensures.items)
      (All-push (IsBuiltAsWanted c.args.wanted.now c.args.rooms.now) c.loop-dir.built.items c.in_ok-build_one.field-0 c.loop-dir.invariant.1 c.in_ok-build_one.ensures.built),
)
