use Rattle.std.proofs.Common.{◌≡◌, ◌++◌, List, [], ◌∷◌, arith, sym, ap, ap₂, ◌∙◌}
use Rattle.std.proofs.lemmas.List.FromFn.{map-range_with_len_more}
use Rattle.xfs_geom.specs.Volumes.{volume_of}
use Rattle.xfs_geom.specs.declared.records.InoRec.{InoRec}
use Rattle.xfs_place.specs.declared.wanted.GroupInodes.{GroupInodes}
use Rattle.xfs_filled.specs.Chunks.{inodes_of_group}
use Rattle.xfs_filled.proofs.chunks.list_inodes.Goals as goal

pub loop-ag-preserved : goal.loop-ag-preserved
loop-ag-preserved c =
    let f = inodes_of_group (volume_of c.args.g.now) c.args.files c.args.starts.now in
    let one : record { records = c.from_vec.result } ≡ f c.loop-ag.ag =
    ap (λ (rs : List InoRec). record { records = rs }) (c.from_vec.ensures ∙ c.in_ok-list_chunks.ensures) in
    c.in_ok-push.ensures.items ∙ ap₂ (λ (gs : List GroupInodes) (x : GroupInodes). gs ++ x ∷ []) c.loop-ag.invariant one
    ∙ sym (map-range_with_len_more f 0 c.loop-ag.ag c.loop-ag.ag (omega arith))
