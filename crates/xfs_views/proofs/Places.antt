-- Where the clusters of lawful chunks stand, and what the inodes of a view read as.
use Rattle.std.proofs.Common.{◌≡◌, ◌⊎◌, ℕ, Bool, true, false, ◌+◌, ◌*◌, ◌/◌, ◌%◌, ◌^◌, ◌≤◌, ◌<◌, inl, inr, ◌&&◌, ◌==◌, nat_le, nat_lt, if◌then◌else◌, List, [], ◌∷◌, ◌++◌, length, refl, sym, ◌∙◌, ap, subst, arith, Option, Some, None}
use Rattle.std.specs.List.{All, flat_map, range_with_len}
use Rattle.std.proofs.Math.Nat.{mul-le-mul_left}
use Rattle.std.proofs.lemmas.Bool.{and_from, and_parts, eqb-true, le-leb, leb-true, ltb-true}
use Rattle.std.proofs.lemmas.List.Elements.{All-from_recursion}
use Rattle.std.proofs.lemmas.Nat.{div-add-mod', div-mul-add, mod-mul-add}
use Rattle.xfs_disk.specs.Blocks.{Image}
use Rattle.xfs_geom.specs.Conversions.{address_of, group_length, inode_of}
use Rattle.xfs_geom.specs.Shape.{chunk_of}
use Rattle.xfs_geom.specs.Volumes.{Volume, volume_of}
use Rattle.xfs_geom.specs.declared.geometry.Geometry.{Geometry}
use Rattle.xfs_geom.specs.declared.records.InoRec.{InoRec}
use Rattle.xfs_tree.specs.Rules.{are_lawful}
use Rattle.xfs_kinds.specs.InodeTrees.{ascends_inode, ino_shape, is_chunk, is_missing}
use Rattle.xfs_inode.specs.declared.files.FileRead.TheVariants as Reads
use Rattle.xfs_volume.specs.declared.files.FileRec.{FileRec}
use Rattle.xfs_volume.specs.declared.groups.GroupRec.{GroupRec}
use Rattle.xfs_laws.specs.xfs_space.Parts.{AreGroups}
use Rattle.xfs_laws.proofs.xfs_space.FreeSpans.{group_short}
use Rattle.xfs_laws.proofs.xfs_space.RecordedMaps.{group_inside}
use Rattle.xfs_image.specs.Candidates.{lies_in_chunk}
use Rattle.xfs_image.specs.Clusters.{chunk_clusters, clusters_in}
use Rattle.xfs_image.specs.Files.{AreFilesRead, clusters_from, clusters_of, inodes_of}
use Rattle.xfs_image.specs.Groups.{head_block}
use Rattle.xfs_image.specs.Slots.{cluster_blocks, cluster_inodes, inodes_of_block, reads_as}
use Rattle.xfs_views.proofs.Files.{file_sound}
use Rattle.xfs_views.proofs.Addresses.{IsPlaced}
use Rattle.xfs_views.proofs.Chunks.{IsLawfulChunk, lawful_chunk}
use Rattle.xfs_views.proofs.Members.{Member, all_members, flat_member, map_member, member_either, row_member}

-- a cluster of chunks is one of a lawful chunk of a group
pub record IsNamed (v : Volume) (ag n x : ℕ) : Type 0 where
  pub j : ℕ
  pub few : j < n
  pub chunk : InoRec
  pub lawful : IsLawfulChunk v (ag + j) chunk
  pub is : Member x (clusters_in (head_block v (ag + j)) chunk)

pub record HasChunk (v : Volume) (ag base x : ℕ) : Type 0 where
  pub chunk : InoRec
  pub lawful : IsLawfulChunk v ag chunk
  pub is : Member x (clusters_in base chunk)

pub chunk_in : (v : Volume) (ag base x : ℕ) (before : Option InoRec) (rs : List InoRec) → are_lawful (ino_shape ag) v before rs ≡ true → Member x (flat_map (clusters_in base) rs) → HasChunk v ag base x
chunk_in v ag base x before [] lawful is = absurd is
chunk_in v ag base x before (r ∷ rs) lawful is =
    let parts = and_parts (is_chunk v ag r && ascends_inode before r) (are_lawful (ino_shape ag) v (Some r) rs) lawful in
    elim (member_either x (clusters_in base r) (flat_map (clusters_in base) rs) is) [
      | inl here ↦ record { chunk = r; lawful = lawful_chunk v ag before r parts.0; is = here }
      | inr there ↦ chunk_in v ag base x (Some r) rs parts.1 there
    ]

pub named : (v : Volume) (ag x : ℕ) (gs : List GroupRec) → AreGroups v ag gs → Member x (clusters_from v ag gs) → IsNamed v ag (length gs) x
named v ag x [] are is = absurd is
named v ag x (g ∷ gs) are is =
    elim (member_either x (chunk_clusters v ag g.ino) (clusters_from v (ag + 1) gs) is) [
      | inl here ↦
          let of = chunk_in v ag (head_block v ag) x None g.ino are.0.ino here in
          let same : ag + 0 ≡ ag = omega arith in
          record {
            j = 0;
            few = omega arith;
            chunk = of.chunk;
            lawful = subst (λ (n : ℕ). IsLawfulChunk v n of.chunk) (sym same) of.lawful;
            is = subst (λ (n : ℕ). Member x (clusters_in (head_block v n) of.chunk)) (sym same) of.is;
          }
      | inr there ↦
          let of = named v (ag + 1) x gs are.1 there in
          let same : ag + 1 + of.j ≡ ag + (of.j + 1) = omega arith in
          let few = of.few in
          record {
            j = of.j + 1;
            few = omega (arith, few);
            chunk = of.chunk;
            lawful = subst (λ (n : ℕ). IsLawfulChunk v n of.chunk) same of.lawful;
            is = subst (λ (n : ℕ). Member x (clusters_in (head_block v n) of.chunk)) same of.is;
          }
    ]

half_of : (a b : Bool) (p x : ℕ) → Member x ((if a then [] else (p ∷ [])) ++ (if b then [] else ((p + 4) ∷ []))) → (x ≡ p) ⊎ (x ≡ p + 4)
half_of true true p x is = absurd is
half_of true false p x is = elim is [ inl same ↦ inr (sym same) | inr none ↦ absurd none ]
half_of false true p x is = elim is [ inl same ↦ inl (sym same) | inr none ↦ absurd none ]
half_of false false p x is = elim is [ inl same ↦ inl (sym same) | inr rest ↦ elim rest [ inl same ↦ inr (sym same) | inr none ↦ absurd none ] ]

-- it stands in its group, inside a chunk
pub record IsChunked (g : Geometry) (ag x : ℕ) : Type 0 where
  pub i : ℕ
  pub group : ag < g.agcount
  pub inside : 4 * i + 4 ≤ group_length (volume_of g) ag
  pub chunk : 4 * i / 8 * 8 + 8 ≤ group_length (volume_of g) ag
  pub behind : 8 ≤ 4 * i
  pub is : x ≡ ag * g.agblocks + 4 * i

pub chunked : (g : Geometry) (ag x : ℕ) (r : InoRec) → IsLawfulChunk (volume_of g) ag r → Member x (clusters_in (head_block (volume_of g) ag) r) → IsChunked g ag x
chunked g ag x r lawful is =
    let v : Volume = volume_of g in
    let first = and_parts (r.startino % 64 == 0) (nat_le 64 r.startino) lawful.first in
    let aligned = eqb-true (r.startino % 64) 0 first.0 in
    let low = leb-true 64 r.startino first.1 in
    let lies = and_parts (nat_lt ag v.agcount) (nat_le (r.startino / 8 + 8) (group_length v ag)) lawful.lies in
    let group = ltb-true ag v.agcount lies.0 in
    let inside = leb-true (r.startino / 8 + 8) (group_length v ag) lies.1 in
    elim (half_of (is_missing r.holemask 0) (is_missing r.holemask 32) (head_block v ag + r.startino / 8) x is) [
      | inl same ↦ record {
        i = r.startino / 8 / 4;
        group = group;
        inside = omega (arith, inside, aligned);
        chunk = omega (arith, inside, aligned);
        behind = omega (arith, aligned, low);
        is = omega (arith, same, aligned);
      }
      | inr same ↦ record {
        i = r.startino / 8 / 4 + 1;
        group = group;
        inside = omega (arith, inside, aligned);
        chunk = omega (arith, inside, aligned);
        behind = omega (arith, aligned, low);
        is = omega (arith, same, aligned);
      }
    ]

pub cluster_chunked : (g : Geometry) (x : ℕ) (gs : List GroupRec) → AreGroups (volume_of g) 0 gs → Member x (clusters_from (volume_of g) 0 gs) → (ag : ℕ) × IsChunked g ag x
cluster_chunked g x gs are is =
    let of = named (volume_of g) 0 x gs are is in
    (0 + of.j, chunked g (0 + of.j) x of.chunk of.lawful of.is)

abbrev pub as_placed : (g : Geometry) (ag x : ℕ) → IsChunked g ag x → IsPlaced g x
as_placed g ag x at = record { ag = ag; i = at.i; group = at.group; inside = at.inside; is = at.is }

-- the group and the place of a cluster
pub group_is : (g : Geometry) (x : ℕ) (at : IsPlaced g x) → x / g.agblocks ≡ at.ag
group_is g x at =
    let inside = at.inside in
    let short = group_short (volume_of g) at.ag g.shape.groups.covered in
    ap (λ (n : ℕ). n / g.agblocks) at.is ∙ div-mul-add at.ag g.agblocks (4 * at.i) (omega (arith, inside, short))

pub place_is : (g : Geometry) (x : ℕ) (at : IsPlaced g x) → x % g.agblocks ≡ 4 * at.i
place_is g x at =
    let inside = at.inside in
    let short = group_short (volume_of g) at.ag g.shape.groups.covered in
    ap (λ (n : ℕ). n % g.agblocks) at.is ∙ mod-mul-add at.ag g.agblocks (4 * at.i) (omega (arith, inside, short))

pub in_chunk : (g : Geometry) (ag x : ℕ) → IsChunked g ag x → lies_in_chunk (volume_of g) x ≡ true
in_chunk g ag x at =
    let v : Volume = volume_of g in
    let placed = as_placed g ag x at in
    let place = place_is g x placed in
    let group = group_is g x placed in
    let behind = at.behind in
    let chunk = at.chunk in
    let low : 8 ≤ x % g.agblocks = omega (arith, place, behind) in
    let whole : chunk_of (x % g.agblocks) + 8 ≤ group_length v (x / g.agblocks) =
    subst (λ (n : ℕ). chunk_of (x % g.agblocks) + 8 ≤ group_length v n) (sym group) (subst (λ (n : ℕ). chunk_of n + 8 ≤ group_length v ag) (sym place) chunk) in
    and_from (nat_le 8 (x % v.agblocks)) (nat_le (chunk_of (x % v.agblocks) + 8) (group_length v (x / v.agblocks))) (le-leb 8 (x % v.agblocks) low)
    (le-leb (chunk_of (x % v.agblocks) + 8) (group_length v (x / v.agblocks)) whole)

-- what the inodes of a view read as
pub inode_reads : (v : Volume) (image : Image) (i : ℕ) (inos : List ℕ) (files : List FileRec) → AreFilesRead v image inos files → Member i inos
    → (reads_as v image i ≡ Reads.Free) ⊎ ((f : FileRec) × (reads_as v image i ≡ Reads.File f) × Member f files)
inode_reads v image i [] files read is = absurd is
inode_reads v image i (ino ∷ inos) files read is =
    elim read [
      | inl free ↦ elim is [ inl same ↦ inl (ap (reads_as v image) (sym same) ∙ free.0) | inr there ↦ inode_reads v image i inos files free.1 there ]
      | inr used ↦ elim is [
        | inl same ↦ inr (used.0, ap (reads_as v image) (sym same) ∙ used.2, subst (λ (fs : List FileRec). Member used.0 fs) (sym used.3) (inl refl))
        | inr there ↦ elim (inode_reads v image i inos used.1 used.4 there) [
          | inl none ↦ inl none
          | inr one ↦ inr (one.0, one.1, subst (λ (fs : List FileRec). Member one.0 fs) (sym used.3) (inr one.2))
        ]
      ]
    ]

-- the inode of a file of a view is one of those
pub file_inode : (v : Volume) (image : Image) (f : FileRec) (inos : List ℕ) (files : List FileRec) → AreFilesRead v image inos files → Member f files
    → Member f.ino inos × (reads_as v image f.ino ≡ Reads.File f)
file_inode v image f [] files read is = absurd (subst (λ (fs : List FileRec). Member f fs) read is)
file_inode v image f (ino ∷ inos) files read is =
    elim read [
      | inl free ↦ let rest = file_inode v image f inos files free.1 is in (inr rest.0, rest.1)
      | inr used ↦ by_place used.0 used.1 used.2 (subst (λ (fs : List FileRec). Member f fs) used.3 is) (λ there. file_inode v image f inos used.1 used.4 there)
    ]
  where
    by_place : (one : FileRec) (rest : List FileRec) → reads_as v image ino ≡ Reads.File one → Member f (one ∷ rest)
        → (Member f rest → Member f.ino inos × (reads_as v image f.ino ≡ Reads.File f)) → Member f.ino (ino ∷ inos) × (reads_as v image f.ino ≡ Reads.File f)
    by_place one rest reads is behind =
        elim is [
          | inl same ↦
              let own : reads_as v image ino ≡ Reads.File f = subst (λ (x : FileRec). reads_as v image ino ≡ Reads.File x) same reads in
              let number : f.ino ≡ ino = (file_sound v image ino f own).keeps.number in
              (inl (sym number), ap (reads_as v image) number ∙ own)
          | inr there ↦ let later = behind there in (inr later.0, later.1)
        ]

-- the numbers of inodes of a volume are low
small_number : (w k d b s : ℕ) → 1 ≤ w → k < 2 * w → b < d → d ≤ 2 ^ 26 → s < 8 → (b / w * k + b % w) * 8 + s < 2 ^ 60
small_number w k d b s some wide inside low slot =
    let whole : b / w * w + b % w ≡ b = div-add-mod' b w in
    let most : b / w * k ≤ b / w * (2 * w) = mul-le-mul_left (b / w) (omega (arith, wide)) in
    let twice : b / w * (2 * w) ≡ 2 * (b / w * w) = omega arith in
    omega (arith, whole, most, twice, inside, low, slot)

pub inode_small : (g : Geometry) (ag x ino : ℕ) → IsChunked g ag x → Member ino (cluster_inodes (volume_of g) x) → ino < 2 ^ 60
unfolding cluster_inodes inode_of address_of
inode_small g ag x ino at is =
    let v : Volume = volume_of g in
    let in_block = flat_member (inodes_of_block v) ino (cluster_blocks x) is in
    let slot = map_member (inode_of v in_block.0) ino (range_with_len 0 8) in_block.2 in
    let b = row_member in_block.0 x 4 in_block.1 in
    let s = row_member slot.0 0 8 slot.1 in
    let ends = group_inside v ag at.group g.shape.groups.last in
    let inside = at.inside in
    let start = at.is in
    let high = b.high in
    let last = s.high in
    let below : in_block.0 < g.dblocks = omega (arith, ends, inside, start, high) in
    let large = g.shape.groups.large in
    let small = small_number g.agblocks (2 ^ g.agblklog) g.dblocks in_block.0 slot.0 (omega (arith, large)) g.shape.addresses.least below g.shape.groups.small (omega (arith, last)) in
    let is_number = slot.2 in
    omega (arith, small, is_number)

pub files_small : (g : Geometry) (image : Image) (groups : List GroupRec) (files : List FileRec) → AreGroups (volume_of g) 0 groups
    → AreFilesRead (volume_of g) image (inodes_of (volume_of g) groups) files → All (λ (f : FileRec). f.ino < 2 ^ 60) files
unfolding inodes_of clusters_of
files_small g image groups files are read =
    let v : Volume = volume_of g in
    All-from_recursion (λ (f : FileRec). f.ino < 2 ^ 60) files
    (all_members (λ (f : FileRec). f.ino < 2 ^ 60) files
    (λ f is.
    let ino = (file_inode v image f (inodes_of v groups) files read is).0 in
    let of = flat_member (cluster_inodes v) f.ino (clusters_from v 0 groups) ino in
    let at = cluster_chunked g of.0 groups are of.1 in
    inode_small g at.0 of.0 f.ino at.1 of.2))
