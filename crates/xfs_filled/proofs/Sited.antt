-- The chunks that are placed have an inode for each file, and what is asked of them can be written.
use Rattle.std.proofs.Common.{◌≡◌, ℕ, ◌*◌, ◌^◌, ◌<◌, List, ◌∷◌, length, take, arith, refl, sym, subst, ap, ◌∙◌}
use Rattle.std.specs.List.{All}
use Rattle.std.proofs.lemmas.List.{length-take}
use Rattle.xfs_empty.specs.Geometry.{HasFirstChunk}
use Rattle.xfs_geom.specs.Volumes.{volume_of}
use Rattle.xfs_geom.specs.declared.geometry.Geometry.{Geometry}
use Rattle.xfs_place.specs.Chunks.{asked_pool, asked_rooms}
use Rattle.xfs_place.specs.Wanted.{CanBeKept, kept_runs}
use Rattle.xfs_place.specs.declared.wanted.Object.{Object}
use Rattle.xfs_proto.specs.declared.protofile.ProtoNode.{ProtoNode}
use Rattle.xfs_render.specs.Readiness.{IsWritable}
use Rattle.xfs_filled.specs.Chunks.{chunk_starts, further_ask}
use Rattle.xfs_filled.specs.Directories.{IsSoundWhere, made_directory_at}
use Rattle.xfs_filled.specs.Numbers.{chunk_count, further_chunks}
use Rattle.xfs_filled.specs.Objects.{all_objects}
use Rattle.xfs_filled.specs.Sites.{AreChunksPlaced}
use Rattle.xfs_filled.specs.Wanting.{wanted_by_chunks}
use Rattle.xfs_filled.proofs.Asked.{rooms_few}
use Rattle.xfs_filled.proofs.Asking.{IsFine, askers_of_fine, asks_of_fine, objects_fine}
use Rattle.xfs_filled.proofs.Rising.{rise_apart}
use Rattle.xfs_filled.proofs.Starting.{AreChunks, all_end, are_chunks, chunks_kept}
use Rattle.xfs_filled.proofs.Writable.{wanted_writable}

abbrev found : Geometry → ℕ → List ℕ
found g files = take (further_chunks files) (asked_rooms (further_ask g files))

starts_split : (g : Geometry) (files : ℕ) → chunk_starts g files ≡ 16 ∷ found g files
unfolding chunk_starts
starts_split g files = refl

starts_few : (g : Geometry) (files : ℕ) → length (chunk_starts g files) < 2 ^ 32
starts_few g files =
    let all = ap length (starts_split g files) in
    let some = length-take (further_chunks files) (asked_rooms (further_ask g files)) in
    let most = rooms_few (volume_of g) (asked_pool (further_ask g files)) 24 g.shape.groups in
    omega (arith, all, some, most)

pub chunks_are : (g : Geometry) (files : ℕ) (starts : List ℕ) → HasFirstChunk (volume_of g) → starts ≡ chunk_starts g files → AreChunks (volume_of g) starts
chunks_are g files starts first are = subst (AreChunks (volume_of g)) (sym are) (are_chunks g files first)

pub placed_at : (g : Geometry) (ns : List ProtoNode) (starts : List ℕ) → HasFirstChunk (volume_of g) → starts ≡ chunk_starts g (length ns) → length starts ≡ chunk_count (length ns)
    → AreChunksPlaced g starts ns
placed_at g ns starts first are count =
    let chunks = chunks_are g (length ns) starts first are in
    record {
      volume = all_end (volume_of g) starts g.shape.groups chunks;
      ascend = λ i j less low. rise_apart (g.agcount * g.agblocks) 16 i j 0 starts chunks.rise less low;
      few = subst (λ (xs : List ℕ). length xs < 2 ^ 32) (sym are) (starts_few g (length ns));
      enough = omega (arith, count);
    }

-- what is wanted can be written, and its chunks can be kept
pub site_writable : (g : Geometry) (ns : List ProtoNode) (contents : List (List ℕ)) (starts : List ℕ) → HasFirstChunk (volume_of g) → starts ≡ chunk_starts g (length ns) → AreChunksPlaced g starts ns
    → ((k : ℕ) → k < length ns → IsSoundWhere (made_directory_at (volume_of g) starts ns k)) → IsWritable (wanted_by_chunks g starts ns contents)
site_writable g ns contents starts first are placed sound =
    let split : starts ≡ 16 ∷ found g (length ns) = are ∙ starts_split g (length ns) in
    let fine = objects_fine g starts ns contents placed sound in
    subst (λ (xs : List ℕ). IsWritable (wanted_by_chunks g xs ns contents)) (sym split)
    (wanted_writable g (found g (length ns)) ns contents first (subst (AreChunks (volume_of g)) split (chunks_are g (length ns) starts first are))
    (asks_of_fine (all_objects (volume_of g) (16 ∷ found g (length ns)) ns contents) (subst (λ (xs : List ℕ). All (λ (o : Object). All IsFine o.runs) (all_objects (volume_of g) xs ns contents)) split fine))
    (askers_of_fine (all_objects (volume_of g) (16 ∷ found g (length ns)) ns contents) (subst (λ (xs : List ℕ). All (λ (o : Object). All IsFine o.runs) (all_objects (volume_of g) xs ns contents)) split fine)))

pub site_kept : (g : Geometry) (ns : List ProtoNode) (contents : List (List ℕ)) (starts : List ℕ) → HasFirstChunk (volume_of g) → starts ≡ chunk_starts g (length ns)
    → CanBeKept (volume_of g) (kept_runs (wanted_by_chunks g starts ns contents))
site_kept g ns contents starts first are = chunks_kept (volume_of g) starts g.shape.groups (chunks_are g (length ns) starts first are)
