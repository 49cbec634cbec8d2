use Rattle.std.proofs.Common.{◌≡◌, ◌++◌, List, [], ◌∷◌, arith, sym, ap, ap₂, ◌∙◌}
use Rattle.std.proofs.lemmas.List.FromFn.{map-range_with_len_more}
use Rattle.xfs_geom.specs.declared.records.InoRec.{InoRec}
use Rattle.xfs_place.specs.declared.wanted.GroupInodes.{GroupInodes}
use Rattle.xfs_empty.specs.Placing.{group_inodes}
use Rattle.xfs_empty.proofs.wanted.list_inodes.Goals as goal

pub loop-ag-preserved : goal.loop-ag-preserved
loop-ag-preserved c =
    let one : record { records = c.from_vec.result } ≡ group_inodes c.loop-ag.ag =
    ap (λ (rs : List InoRec). record { records = rs }) (c.from_vec.ensures ∙ c.in_ok-list_records.ensures) in
    c.in_ok-push.ensures.items ∙ ap₂ (λ (gs : List GroupInodes) (x : GroupInodes). gs ++ x ∷ []) c.loop-ag.invariant one
    ∙ sym (map-range_with_len_more group_inodes 0 c.loop-ag.ag c.loop-ag.ag (omega arith))
