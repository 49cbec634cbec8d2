-- An empty volume can be placed and written.
use Rattle.std.proofs.Common.{◌≡◌, ℕ, ◌^◌, ◌≤◌, ◌<◌, false, List, [], length, get_or, replicate, None, IsTrue, arith, sym, subst, ap, ◌∙◌}
use Rattle.std.specs.List.{All}
use Rattle.std.specs.Option.{MatchOption}
use Rattle.std.proofs.lemmas.List.{length-replicate}
use Rattle.xfs_disk.specs.declared.stamp.Stamp.{Stamp}
use Rattle.xfs_geom.specs.Volumes.{volume_of, stated_volume}
use Rattle.xfs_geom.specs.Writing.{IsAcceptedSector}
use Rattle.xfs_geom.specs.declared.geometry.Geometry.{Geometry}
use Rattle.xfs_geom.specs.declared.records.InoRec.{InoRec}
use Rattle.xfs_place.specs.xfs_kinds.InodeTrees.{ino_shape}
use Rattle.xfs_place.specs.declared.wanted.GroupInodes.{GroupInodes}
use Rattle.xfs_render.specs.Clusters.{CanCluster}
use Rattle.xfs_render.specs.Readiness.{HasBytes, HasOwner, IsWritable}
use Rattle.xfs_render.specs.Rendering.{is_head, old_at}
use Rattle.xfs_render.specs.declared.bytes.Bytes.{Bytes}
use Rattle.xfs_tree.specs.Rules.{are_lawful}
use Rattle.xfs_empty.specs.Bytes.{IsEmptyBytes, empty_places}
use Rattle.xfs_empty.specs.Geometry.{HasFirstChunk}
use Rattle.xfs_empty.specs.Placing.{all_inodes, chunk_run, chunks_of, empty_wanted}
use Rattle.xfs_empty.proofs.Chunk.{chunks_lawful}
use Rattle.xfs_empty.proofs.Kept.{all_one, count_inodes, inodes_are, root_taken}
use Rattle.xfs_empty.proofs.Places.{all_inside, numbered, places_can}
use Rattle.xfs_empty.proofs.Slots.{in_order}

chunk_owned : HasOwner chunk_run
chunk_owned = record { owner = omega arith; offset = omega arith }

abbrev no_group : GroupInodes
no_group = record { records = [] }

pub writable : (g : Geometry) → HasFirstChunk (volume_of g) → IsWritable (empty_wanted g)
writable g first =
    record {
      asks = λ k d low. absurd (omega (arith, low));
      askers = λ k d low. absurd (omega (arith, low));
      inodes = count_inodes g.agcount;
      chunks = λ ag low.
          let is : (get_or (all_inodes g.agcount) ag no_group).records ≡ chunks_of ag =
          ap (λ (r : GroupInodes). r.records) (inodes_are g.agcount ag no_group low) in
          subst (λ (rs : List InoRec). IsTrue (are_lawful (ino_shape ag) (volume_of g) None rs)) (sym is)
          (chunks_lawful (volume_of g) ag g.shape.groups first);
      owned = all_one HasOwner chunk_run chunk_owned;
      root = λ block is. root_taken (volume_of g) block g.shape.groups g.shape.addresses first is;
    }

pub has_bytes : (g : Geometry) (sector : List ℕ) (s : Stamp) (b : Bytes) → IsEmptyBytes g sector s b → IsAcceptedSector sector
    → stated_volume sector ≡ volume_of g → HasBytes (empty_wanted g) b
has_bytes g sector s b made accepted states =
    record {
      accepted = subst IsAcceptedSector (sym made.sector') accepted;
      states = ap stated_volume made.sector' ∙ states;
      objects = ap length made.objects';
      old = ap length made.old ∙ length-replicate (length b.places) (replicate 4096 0);
      inside = subst (λ (ps : List ℕ). All (λ place. place < g.dblocks) ps) (sym made.places') (all_inside g);
      order = in_order 128 b.slots (numbered g s b.slots made.slots');
      slots = λ i low other.
          at_places b.places made.places' i (old_at b i) low other;
      cycle = subst (λ c. MatchOption c (Unit {0}) (λ cycle. (1 ≤ cycle) × (cycle < 2 ^ 31))) (sym made.cycle') (omega arith, omega arith);
    }
  where
    at_places : (places : List ℕ) → places ≡ empty_places g → (i : ℕ) (old : List ℕ) → i < length places
        → is_head (volume_of g) (get_or places i 0) ≡ false → CanCluster (volume_of g) b.slots (get_or places i 0) old
    at_places places same i old low other =
        let inside : i < length (empty_places g) = omega (arith, ap length same, low) in
        let at = ap (λ (ps : List ℕ). get_or ps i 0) same in
        subst (λ (p : ℕ). CanCluster (volume_of g) b.slots p old) (sym at)
        (places_can g s b.slots i old made.slots' inside (sym (ap (λ (p : ℕ). is_head (volume_of g) p) at) ∙ other))
