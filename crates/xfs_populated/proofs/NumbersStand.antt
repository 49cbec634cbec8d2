-- The files of a new volume are numbered by their places.
use Rattle.std.proofs.Common.{◌≡◌, ℕ, ◌+◌, ◌*◌, ◌/◌, ◌%◌, ◌^◌, ◌≤◌, ◌<◌, ◌⊎◌, inl, inr, Bool, cond, List, ◌∷◌, length, take, arith, refl, ap, ◌∙◌}
use Rattle.std.proofs.Math.Nat.{div-eq_of_lt, mod-eq_of_lt}
use Rattle.std.proofs.lemmas.Bool.{ne_eqb}
use Rattle.std.proofs.lemmas.List.{length-take}
use Rattle.xfs_geom.specs.Conversions.{address_of, inode_of}
use Rattle.xfs_geom.specs.Volumes.{Volume, volume_of}
use Rattle.xfs_geom.specs.declared.geometry.Geometry.{Geometry}
use Rattle.xfs_place.specs.Chunks.{asked_pool, asked_rooms}
use Rattle.xfs_empty.specs.Geometry.{HasFirstChunk}
use Rattle.xfs_proto.specs.declared.protofile.ProtoNode.{ProtoNode}
use Rattle.xfs_filled.specs.Chunks.{chunk_starts, further_ask}
use Rattle.xfs_filled.specs.Numbers.{chunk_count, further_chunks, index_of_place, inode_at, number_of}
use Rattle.xfs_filled.specs.Planning.{further_rooms}
use Rattle.xfs_filled.specs.Sites.{AreChunksPlaced}
use Rattle.xfs_filled.proofs.Ascending.{inode_at_up}
use Rattle.xfs_filled.proofs.Asked.{enough_rooms, rooms_few}
use Rattle.xfs_filled.proofs.Numbering.{index_is, index_low}
use Rattle.xfs_filled.proofs.Ordered.{rise_in}
use Rattle.xfs_filled.proofs.Sited.{placed_at}
use Rattle.xfs_populated.specs.Names.{HasFileNumbers}

abbrev found : Geometry → ℕ → List ℕ
found g files = take (further_chunks files) (asked_rooms (further_ask g files))

pub starts_split : (g : Geometry) (files : ℕ) → chunk_starts g files ≡ 16 ∷ found g files
unfolding chunk_starts
starts_split g files = refl

-- there are as many chunks as the files need
pub count_is : (g : Geometry) (files : ℕ) → chunk_count files ≤ further_rooms g files + 1 → length (chunk_starts g files) ≡ chunk_count files
count_is g files room =
    let n = further_chunks files in
    let few : n ≤ further_rooms g files = omega (arith, room) in
    let most = rooms_few (volume_of g) (asked_pool (further_ask g files)) 24 g.shape.groups in
    let all : n + 1 ≡ chunk_count files = (enough_rooms files n (further_rooms g files) refl few most).0 in
    let split = ap length (starts_split g files) in
    let some = length-take n (asked_rooms (further_ask g files)) in
    omega (arith, all, split, some, few)

pub chunks_placed : (g : Geometry) (ns : List ProtoNode) → HasFirstChunk (volume_of g) → chunk_count (length ns) ≤ further_rooms g (length ns) + 1 → AreChunksPlaced g (chunk_starts g (length ns)) ns
chunks_placed g ns first room = placed_at g ns (chunk_starts g (length ns)) first refl (count_is g (length ns) room)

-- the inodes of the first chunk
inode_is : (v : Volume) (block k : ℕ) → block < v.agblocks → v.agblocks ≤ 2 ^ v.agblklog → inode_of v block k ≡ 8 * block + k
unfolding inode_of address_of
inode_is v block k short enough =
    let group : block / v.agblocks ≡ 0 = div-eq_of_lt short in
    let rest : block % v.agblocks ≡ block = mod-eq_of_lt short in
    rw (group, rest) (omega arith)

-- which inodes two files have
index_behind : (j : ℕ) → 1 ≤ j → index_of_place j ≡ j + 2
index_behind j some = ap (λ (t : Bool). cond t 0 (j + 2)) (ne_eqb j 0 (λ none. omega (arith, some, none)))

index_up : (i j : ℕ) → i < j → index_of_place i < index_of_place j
index_up i j less = by_case (index_is i)
  where
    by_case : (index_of_place i ≡ 0) ⊎ (index_of_place i ≡ i + 2) → index_of_place i < index_of_place j
    by_case (inl none) = let there = index_behind j (omega (arith, less)) in omega (arith, none, there)
    by_case (inr some) = let there = index_behind j (omega (arith, less)) in omega (arith, some, there, less)

module _ (g : Geometry) (ns : List ProtoNode) (first : HasFirstChunk (volume_of g)) (room : chunk_count (length ns) ≤ further_rooms g (length ns) + 1) where
  abbrev starts : List ℕ
  starts = chunk_starts g (length ns)

  placed : AreChunksPlaced g starts ns
  placed = chunks_placed g ns first room

  first_inodes : (k : ℕ) → inode_of (volume_of g) 16 k ≡ 128 + k
  first_inodes k =
      let large = g.shape.groups.large in
      inode_is (volume_of g) 16 k (omega (arith, large)) g.shape.addresses.enough

  root_number : number_of (volume_of g) starts 0 ≡ 128
  root_number = ap (λ (xs : List ℕ). inode_at (volume_of g) xs 0) (starts_split g (length ns)) ∙ first_inodes 0

  last_system : inode_at (volume_of g) starts 2 ≡ 130
  last_system = ap (λ (xs : List ℕ). inode_at (volume_of g) xs 2) (starts_split g (length ns)) ∙ first_inodes 2

  inside : (k : ℕ) → k < length ns → index_of_place k < 64 * length starts
  inside k low = let enough = placed.enough in index_low k (64 * length starts) (omega (arith, enough, low))

  up : (i j : ℕ) → i < j → j < 64 * length starts → inode_at (volume_of g) starts i < inode_at (volume_of g) starts j
  up i j less low = inode_at_up (volume_of g) g.dblocks 0 i j starts g.shape.groups g.shape.addresses (rise_in g starts ns placed) less low

  pub numbers_stand : HasFileNumbers (volume_of g) starts (length ns)
  numbers_stand = record {
    root = root_number;
    ascend = λ i j less low. up (index_of_place i) (index_of_place j) (index_up i j less) (inside j low);
    behind = λ k some low.
        let there = index_behind k some in
        let above = up 2 (index_of_place k) (omega (arith, there, some)) (inside k low) in
        let last = last_system in
        omega (arith, above, last);
  }
