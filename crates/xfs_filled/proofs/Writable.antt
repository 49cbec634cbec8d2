-- What is wanted of a new volume with files can be written.
use Rattle.std.proofs.Common.{◌≡◌, ℕ, Bool, true, false, ◌||◌, IsTrue, List, [], ◌∷◌, length, map, get_or, None, arith, refl, sym, subst, ap}
use Rattle.std.specs.List.{All, list_any}
use Rattle.std.proofs.lemmas.Bool.{true≢false}
use Rattle.std.proofs.lemmas.List.FromFn.{get_or-map-range_with_len, length-map-range_with_len}
use Rattle.xfs_empty.proofs.Kept.{root_taken}
use Rattle.xfs_empty.specs.Geometry.{HasFirstChunk}
use Rattle.xfs_geom.specs.Runs.{covers}
use Rattle.xfs_geom.specs.Volumes.{volume_of}
use Rattle.xfs_geom.specs.declared.geometry.Geometry.{Geometry}
use Rattle.xfs_geom.specs.declared.records.InoRec.{InoRec}
use Rattle.xfs_geom.specs.declared.records.Run.{Run}
use Rattle.xfs_kinds.specs.InodeTrees.{ino_shape}
use Rattle.xfs_place.specs.Objects.{IsAsk}
use Rattle.xfs_place.specs.Pool.{is_taken}
use Rattle.xfs_place.specs.declared.wanted.GroupInodes.{GroupInodes}
use Rattle.xfs_place.specs.declared.wanted.Object.{Object}
use Rattle.xfs_proto.specs.declared.protofile.ProtoNode.{ProtoNode}
use Rattle.xfs_render.specs.Readiness.{HasAsker, HasOwner, IsWritable}
use Rattle.xfs_tree.specs.Rules.{are_lawful}
use Rattle.xfs_filled.specs.Chunks.{inodes_filled, chunk_at, chunks_of_group, inodes_of_group}
use Rattle.xfs_filled.specs.Objects.{all_objects}
use Rattle.xfs_filled.specs.Wanting.{wanted_by_chunks}
use Rattle.xfs_filled.proofs.Recorded.{groups_lawful}
use Rattle.xfs_filled.proofs.Starting.{AreChunks, all_mapped}

abbrev no_group : GroupInodes
no_group = record { records = [] }

taken_front : (r : Run) (rest : List Run) (block : ℕ) → is_taken (r ∷ []) block ≡ true → is_taken (r ∷ rest) block ≡ true
unfolding is_taken
taken_front r rest block is = by_case (covers block r) is
  where
    by_case : (t : Bool) → (t || false) ≡ true → (t || list_any (covers block) rest) ≡ true
    by_case true is = refl
    by_case false is = absurd (true≢false (sym is))

pub wanted_writable : (g : Geometry) (rest : List ℕ) (ns : List ProtoNode) (contents : List (List ℕ)) → HasFirstChunk (volume_of g) → AreChunks (volume_of g) (16 ∷ rest)
    → All (λ (o : Object). All IsAsk o.runs) (all_objects (volume_of g) (16 ∷ rest) ns contents)
    → All (λ (o : Object). All HasAsker o.runs) (all_objects (volume_of g) (16 ∷ rest) ns contents) → IsWritable (wanted_by_chunks g (16 ∷ rest) ns contents)
wanted_writable g rest ns contents first chunks asks askers =
    let v = volume_of g in
    let starts : List ℕ = 16 ∷ rest in
    record {
      asks = asks;
      askers = askers;
      inodes = length-map-range_with_len (inodes_of_group v (length ns) starts) 0 g.agcount;
      chunks = λ ag low.
          let is : (get_or (inodes_filled g (length ns) starts) ag no_group).records ≡ chunks_of_group v (length ns) starts ag =
          ap (λ (r : GroupInodes). r.records) (get_or-map-range_with_len (inodes_of_group v (length ns) starts) 0 g.agcount ag ag no_group low (omega arith)) in
          subst (λ (rs : List InoRec). IsTrue (are_lawful (ino_shape ag) v None rs)) (sym is) (groups_lawful v (length ns) starts g.shape.groups chunks ag);
      owned = all_mapped HasOwner starts (λ k d low. record { owner = omega arith; offset = omega arith });
      root = λ block is. taken_front (chunk_at 16) (map chunk_at rest) block (root_taken v block g.shape.groups g.shape.addresses first is);
    }
