use Rattle.std.proofs.Common.{◌≡◌, ℕ, ◌+◌, ◌<◌, ◌≤◌, ◌^◌, ◌++◌, ◌∷◌, [], List, length, take, get_or, sym, ap, subst, ◌∙◌, arith}
use Rattle.std.specs.List.{All, flat_map}
use Rattle.std.proofs.lemmas.List.{append-nil, take_all, take_more}
use Rattle.std.proofs.lemmas.List.Concat.{flat_map-append}
use Rattle.std.proofs.lemmas.List.Elements.{All-nil}
use Rattle.xfs_geom.specs.declared.records.InoRec.{InoRec}
use Rattle.xfs_image.specs.Clusters.{clusters_in}
use Rattle.xfs_groups.proofs.named.chunk_clusters.Goals as goal

small_start : (start dblocks : ℕ) → start < dblocks → dblocks ≤ 2 ^ 26 → start < 2 ^ 26
small_start start dblocks inside small = omega (arith, inside, small)

one_more : (f : InoRec → List ℕ) (xs : List InoRec) (i : ℕ) (d : InoRec) (old new : List ℕ) → i < length xs → old ≡ flat_map f (take i xs) → new ≡ old ++ f (get_or xs i d) → new ≡ flat_map f (take (i + 1) xs)
one_more f xs i d old new inside before put =
    put
    ∙ ap (λ ys. ys ++ f (get_or xs i d)) before
    ∙ ap (λ ys. flat_map f (take i xs) ++ ys) (sym (append-nil (f (get_or xs i d))))
    ∙ sym (flat_map-append f (take i xs) (get_or xs i d ∷ []))
    ∙ ap (flat_map f) (sym (take_more xs i d inside))

pub loop-chunk-init : goal.loop-chunk-init
loop-chunk-init c = record {
  named = c.new-clusters.ensures.items;
  low = subst (All (λ (cluster : ℕ). cluster < 2 ^ 32)) (sym c.new-clusters.ensures.items) (All-nil (λ (cluster : ℕ). cluster < 2 ^ 32));
}

pub push_clusters-requires-clause-base : goal.push_clusters-requires-clause-base
push_clusters-requires-clause-base c = small_start c.start_of_group-base.result c.args.g.now.dblocks c.start_of_group-base.ensures.inside c.args.g.now.shape.groups.small

pub push_clusters-requires-clause-low : goal.push_clusters-requires-clause-low
push_clusters-requires-clause-low c = c.loop-chunk.invariant.low

pub loop-chunk-preserved : goal.loop-chunk-preserved
loop-chunk-preserved c = record {
  named = one_more (clusters_in c.start_of_group-base.result) c.args.chunks.now c.loop-chunk.chunk-index record { startino = 0; holemask = 0; count = 0; freecount = 0; free = 0 } c.loop-chunk.clusters.items
      c.push_clusters.new.clusters.items c.loop-chunk-test.true c.loop-chunk.invariant.named c.in_ok-push_clusters.ensures.more;
  low = c.in_ok-push_clusters.ensures.low;
}

pub returns-clause-named : goal.returns-clause-named
returns-clause-named c =
    c.from_vec.ensures
    ∙ c.loop-chunk.invariant.named
    ∙ ap (flat_map (clusters_in c.start_of_group-base.result)) (take_all c.loop-chunk.chunk-index c.args.chunks.now c.loop-chunk-test.false)
    ∙ ap (λ (base : ℕ). flat_map (clusters_in base) c.args.chunks.now) c.start_of_group-base.ensures.value

pub returns-clause-low : goal.returns-clause-low
returns-clause-low c = subst (All (λ (cluster : ℕ). cluster < 2 ^ 32)) (sym c.from_vec.ensures) c.loop-chunk.invariant.low
