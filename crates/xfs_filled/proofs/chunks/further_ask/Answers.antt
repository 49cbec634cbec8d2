use Rattle.std.proofs.Common.{◌∙◌, ap, ◌∷◌, []}
use Rattle.xfs_geom.specs.Volumes.{volume_of}
use Rattle.xfs_geom.specs.declared.records.Run.{Run}
use Rattle.std.specs.Prelude.{true}
use Rattle.xfs_place.specs.Pool.{is_pool}
use Rattle.xfs_place.specs.Sparing.{spared_of}
use Rattle.xfs_filled.proofs.Asked.{ask_is}
use Rattle.xfs_filled.proofs.Lists.{listed}
use Rattle.xfs_filled.proofs.chunks.further_ask.Goals as goal

pub returns : goal.returns
returns c =
    let g = c.args.g.now in
    let spared = c.in_ok-spared_from in
    ask_is g c.args.files c.from_vec.result c.from_vec-2.result spared.spared_from c.further_chunks.result
    (c.from_vec.ensures ∙ c.in_ok-first.ensures.items ∙ ap (λ (r : Run). r ∷ []) c.chunk_at.ensures)
    (c.from_vec-2.ensures ∙ c.new.ensures.items)
    (listed (spared_of (volume_of g) (is_pool (volume_of g) [] []) true) spared.spared_from g.agcount 0 spared.ensures.all spared.ensures.each)
    c.further_chunks.ensures
