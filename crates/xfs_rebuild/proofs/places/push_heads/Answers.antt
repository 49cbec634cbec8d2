use Rattle.std.proofs.Common.{ℕ, ◌+◌, ◌-◌, ◌++◌, [], ◌∷◌, map, ap, ◌∙◌}
use Rattle.std.specs.List.{range_with_len}
use Rattle.std.proofs.lemmas.Result.{IfOk-from_err}
use Rattle.xfs_geom.specs.Volumes.{volume_of}
use Rattle.xfs_rebuild.specs.Places.{first_of_group}
use Rattle.xfs_rebuild.proofs.Listed.{item_more, items_end, none_gone, one_less}
use Rattle.xfs_rebuild.proofs.places.push_heads.Goals as goal

pub loop-ag-preserved : goal.loop-ag-preserved
loop-ag-preserved c =
    let ag = c.loop-ag.ag in
    let n = c.args.g.now.agcount in
    record {
      more = item_more (first_of_group (volume_of c.args.g.now)) c.loop-ag.places.items c.push.new.places.items _ ag (n - ag) (n - (ag + 1))
          (one_less n ag c.loop-ag-test.true)
          (c.in_ok-push.ensures.more ∙ ap (λ (place : ℕ). c.loop-ag.places.items ++ place ∷ []) c.start_of_group.ensures.value)
          c.loop-ag.invariant.more;
      low = c.in_ok-push.ensures.low;
    }

pub loop-ag-init : goal.loop-ag-init
loop-ag-init c = record {
  more = ap (λ (n : ℕ). c.args.places.now.items ++ map (first_of_group (volume_of c.args.g.now)) (range_with_len 0 n)) (none_gone c.args.g.now.agcount);
  low = c.requires.low;
}

pub start_of_group-requires : goal.start_of_group-requires
start_of_group-requires c = c.loop-ag-test.true

pub push-requires : goal.push-requires
push-requires c = record { place = c.start_of_group.ensures.inside; low = c.loop-ag.invariant.low }

pub returns : goal.returns
returns c = record {
  more = items_end (first_of_group (volume_of c.args.g.now)) c.loop-ag.places.items _ c.loop-ag.ag c.args.g.now.agcount c.loop-ag.ag c.loop-ag-test.false c.loop-ag.invariant.more;
  low = c.loop-ag.invariant.low;
}

pub returns-in_err-push : goal.returns-in_err-push
returns-in_err-push c = record { more = IfOk-from_err c.from_residual.result _ c.from_residual.ensures.0; low = IfOk-from_err c.from_residual.result _ c.from_residual.ensures.0 }
