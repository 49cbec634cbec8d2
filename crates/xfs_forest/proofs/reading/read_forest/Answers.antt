use Rattle.std.proofs.Common.{◌≡◌, [], length, map, sym, subst, ◌∙◌}
use Rattle.xfs_geom.specs.Volumes.{volume_of}
use Rattle.xfs_forest.specs.Forest.{contents_of, reads_as, AreGrowing, IsForest}
use Rattle.xfs_forest.proofs.reading.read_forest.Goals as goal

pub read_planted-requires-clause-forest : goal.read_planted-requires-clause-forest
read_planted-requires-clause-forest g c = λ κs lives.
    let end = c.args.g.now.dblocks in
    subst (λ plants. IsForest (length plants) end c.deref_mut.result.now []) (c.deref.ensures.value ∙ sym c.deref-2.ensures.value)
    (subst (λ trees. IsForest (length c.deref.result.now) end trees []) (sym c.deref_mut.ensures.value) (c.in-Ok.ensures.forest end))

pub returns-in-Ok-read_planted-clause-read : goal.returns-in-Ok-read_planted-clause-read
returns-in-Ok-read_planted-clause-read g c = λ image told.
    let shape = g.K.Kind.shape in
    let v = volume_of c.args.g.now in
    subst (λ plants. map contents_of c.in-Ok-read_planted.grown.items ≡ map (reads_as shape v image) plants) c.deref-2.ensures.value
    (c.in-Ok-read_planted.ensures.read image told
    (subst (λ plants. AreGrowing shape v image plants c.deref_mut.result.now []) (c.deref.ensures.value ∙ sym c.deref-2.ensures.value)
    (subst (λ trees. AreGrowing shape v image c.deref.result.now trees []) (sym c.deref_mut.ensures.value) (c.in-Ok.ensures.grows v image))))
