use Rattle.std.proofs.Common.{List, [], ◌∷◌, ◌++◌, sym, ap₂, ◌∙◌, arith}
use Rattle.std.proofs.lemmas.List.FromFn.{map-range_with_len_more}
use Rattle.xfs_geom.specs.Volumes.{volume_of}
use Rattle.xfs_geom.specs.declared.records.InoRec.{InoRec}
use Rattle.xfs_place.specs.declared.wanted.GroupInodes.{GroupInodes}
use Rattle.xfs_request.specs.Chunks.{group_asked}
use Rattle.xfs_request.proofs.Numbers.{same_numbers}
use Rattle.xfs_request.proofs.chunks.inodes_wanted.Goals as goal

pub kept_chunks-requires-clause-used : goal.kept_chunks-requires-clause-used
kept_chunks-requires-clause-used c =
    same_numbers c.args.kept.now.files c.as_slice.result.now c.in_ok-used.used.items c.as_slice-in-loop-ag.result.now c.as_slice.ensures c.as_slice-in-loop-ag.ensures.value c.in_ok-used.ensures

pub loop-ag-preserved : goal.loop-ag-preserved
loop-ag-preserved c =
    c.in_ok-push.ensures.items
    ∙ ap₂ (λ (groups : List GroupInodes) (chunks : List InoRec). groups ++ (record { records = chunks }) ∷ []) c.loop-ag.invariant c.in_ok-kept_chunks.ensures
    ∙ sym (map-range_with_len_more (group_asked (volume_of c.args.g.now) c.args.kept.now) 0 c.loop-ag.ag c.loop-ag.ag (omega arith))
