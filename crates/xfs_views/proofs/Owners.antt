-- In a consistent image the tree of owners gives to clusters just the blocks of the clusters that the tree of chunks names.
use Rattle.std.proofs.Common.{◌≡◌, ◌⊎◌, ℕ, Bool, true, false, ◌+◌, ◌-◌, ◌*◌, ◌^◌, ◌≤◌, ◌<◌, inl, inr, nat_le, nat_lt, if◌then◌else◌, List, [], ◌∷◌, ◌++◌, map, take, refl, sym, ◌∙◌, ap, subst, arith, None}
use Rattle.std.specs.List.{All, flat_map}
use Rattle.std.proofs.lemmas.Bool.Decides.{nat_tests}
use Rattle.std.proofs.lemmas.Bool.{and_parts, cases_lt, leb-true, ltb-true}
use Rattle.std.proofs.lemmas.List.Elements.{recursion_from_All}
use Rattle.xfs_kinds.specs.Owners.{headers_owner, log_owner}
use Rattle.xfs_geom.specs.Runs.{covers}
use Rattle.xfs_disk.specs.Blocks.{Image}
use Rattle.xfs_geom.specs.Volumes.{Volume, volume_of}
use Rattle.xfs_geom.specs.declared.geometry.Geometry.{Geometry}
use Rattle.xfs_geom.specs.declared.records.Run.{Run}
use Rattle.xfs_kinds.specs.MergedRuns.{held_at, offset_word_at}
use Rattle.xfs_kinds.specs.OffsetWords.{is_file_data}
use Rattle.xfs_volume.specs.Laws.{first_broken}
use Rattle.xfs_volume.specs.declared.files.FileRec.{FileRec}
use Rattle.xfs_volume.specs.declared.groups.GroupRec.{GroupRec}
use Rattle.xfs_volume.specs.declared.groups.TreeBlocks.{TreeBlocks}
use Rattle.xfs_laws.specs.xfs_space.Owners.{runs_of_blocks, cluster_run, cluster_runs, clusters_of_chunk, different, file_runs, extent_run, group_runs, groups_runs, listed_run, listed_runs, owned_runs, new_run, tree_owners, tree_runs}
use Rattle.xfs_laws.specs.xfs_space.Parts.{AreGroups}
use Rattle.xfs_laws.specs.xfs_space.Sorted.{IsOwned}
use Rattle.xfs_laws.specs.xfs_space.SpaceLaws.{owner_at, owner_laws, owner_number}
use Rattle.xfs_laws.proofs.xfs_space.Broken.{each_kept}
use Rattle.xfs_image.specs.Claims.{is_of_cluster}
use Rattle.xfs_image.specs.Clusters.{chunk_clusters}
use Rattle.xfs_image.specs.Files.{clusters_from}
use Rattle.xfs_views.proofs.Chunks.{chunks_moved}
use Rattle.xfs_views.proofs.Held.{held_of}
use Rattle.xfs_views.proofs.Lawful.{IsLawfulView}
use Rattle.xfs_views.proofs.Members.{Member, map_member, member_all, member_either, flat_member, member_left, member_map, member_right}

-- the owners of a group's trees
tree_owner : (owners : List ℕ) (trees : List TreeBlocks) (q : Run) → Member q (tree_runs owners trees) → Member q.owner owners
tree_owner [] trees q is = absurd is
tree_owner (o ∷ os) [] q is = absurd is
tree_owner (o ∷ os) (t ∷ ts) q is =
    elim (member_either q (runs_of_blocks o 0 t.blocks) (tree_runs os ts) is) [
      | inl here ↦ let of = map_member (λ block. new_run block 1 o 0) q t.blocks here in inl (ap (λ (r : Run). r.owner) of.2)
      | inr there ↦ inr (tree_owner os ts q there)
    ]

-- an owner of the clusters, or one below: no other owner that is no inode
abbrev IsClusters : ℕ → Type 0
IsClusters owner = (owner ≡ 2 ^ 64 - 7) ⊎ (owner ≡ 2 ^ 64 - 8)

no_tree : (owner : ℕ) → IsClusters owner → Member owner tree_owners → ⊥
no_tree owner is among =
    elim among [
      | inl a ↦ other a
      | inr more ↦ elim more [
        | inl a ↦ other a
        | inr more ↦ elim more [
          | inl a ↦ inodes a
          | inr more ↦ elim more [ inl a ↦ inodes a | inr more ↦ elim more [ inl a ↦ other a | inr none ↦ none ] ]
        ]
      ]
    ]
  where
    other : 2 ^ 64 - 5 ≡ owner → ⊥
    other e = elim is [ inl a ↦ absurd (omega (arith, a, e)) | inr a ↦ absurd (omega (arith, a, e)) ]

    inodes : 2 ^ 64 - 6 ≡ owner → ⊥
    inodes e = elim is [ inl a ↦ absurd (omega (arith, a, e)) | inr a ↦ absurd (omega (arith, a, e)) ]

not_owner : (owner n : ℕ) → IsClusters owner → (n < 2 ^ 64 - 8) ⊎ (2 ^ 64 - 7 < n) → owner ≡ n → ⊥
not_owner owner n is off e =
    elim is [
      | inl a ↦ elim off [ inl low ↦ absurd (omega (arith, a, e, low)) | inr high ↦ absurd (omega (arith, a, e, high)) ]
      | inr a ↦ elim off [ inl low ↦ absurd (omega (arith, a, e, low)) | inr high ↦ absurd (omega (arith, a, e, high)) ]
    ]

-- a run that a group owns for its clusters is one of theirs
group_cluster : (base : ℕ) (g : GroupRec) (q : Run) → Member q (group_runs base g) → IsClusters q.owner → Member q (cluster_runs base g.ino)
group_cluster base g q is owner =
    elim (member_either q (new_run base 1 headers_owner 0 ∷ tree_runs tree_owners g.blocks ++ listed_runs base g.agfl) (cluster_runs base g.ino) is) [
      | inl front ↦ elim (member_either q (new_run base 1 headers_owner 0 ∷ tree_runs tree_owners g.blocks) (listed_runs base g.agfl) front) [
        | inl early ↦ elim early [
          | inl head ↦ absurd (not_owner q.owner (2 ^ 64 - 3) owner (inr (omega arith)) (sym (ap (λ (r : Run). r.owner) head)))
          | inr tree ↦ absurd (no_tree q.owner owner (tree_owner tree_owners g.blocks q tree))
        ]
        | inr listed ↦
            let of = map_member (listed_run base) q (different (take g.agfl.count g.agfl.entries)) listed in
            absurd (not_owner q.owner (2 ^ 64 - 5) owner (inr (omega arith)) (sym (ap (λ (r : Run). r.owner) of.2)))
      ]
      | inr cluster ↦ cluster
    ]

-- a cluster that has the block
pub record HasBlock (v : Volume) (a : ℕ) (gs : List GroupRec) (b : ℕ) : Type 0 where
  pub cluster : ℕ
  pub is : Member cluster (clusters_from v a gs)
  pub on : is_of_cluster cluster b ≡ true

next_base : (ag w : ℕ) → ag * w + w ≡ (ag + 1) * w
next_base ag w = omega arith

groups_cluster : (v : Volume) (a b : ℕ) (gs : List GroupRec) (q : Run) → AreGroups v a gs → Member q (groups_runs v.agblocks (a * v.agblocks) gs) → IsClusters q.owner → covers b q ≡ true
    → HasBlock v a gs b
groups_cluster v a b [] q are is owner on = absurd is
groups_cluster v a b (g ∷ gs) q are is owner on =
    elim (member_either q (group_runs (a * v.agblocks) g) (groups_runs v.agblocks (a * v.agblocks + v.agblocks) gs) is) [
      | inl here ↦
          let base : ℕ = a * v.agblocks in
          let of = map_member (cluster_run base) q (flat_map clusters_of_chunk g.ino) (group_cluster base g q here owner) in
          let among : Member (base + of.0) (chunk_clusters v a g.ino) =
          subst (λ (xs : List ℕ). Member (base + of.0) xs) (sym (chunks_moved v a base None g.ino are.0.ino)) (member_map (λ k. base + k) of.0 (flat_map clusters_of_chunk g.ino) of.1) in
          record {
            cluster = base + of.0;
            is = member_left (base + of.0) (chunk_clusters v a g.ino) (clusters_from v (a + 1) gs) among;
            on = subst (λ (r : Run). covers b r ≡ true) (sym of.2) on;
          }
      | inr there ↦
          let rest = groups_cluster v (a + 1) b gs q are.1 (subst (λ (n : ℕ). Member q (groups_runs v.agblocks n gs)) (next_base a v.agblocks) there) owner on in
          record { cluster = rest.cluster; is = member_right rest.cluster (chunk_clusters v a g.ino) (clusters_from v (a + 1) gs) rest.is; on = rest.on }
    ]

-- the runs of a file have its number as owner
file_owner : (v : Volume) (f : FileRec) (q : Run) → Member q (file_runs v f) → q.owner ≡ f.ino
file_owner v f q is =
    elim (member_either q (map (extent_run v f.ino 0) f.extents ++ map (extent_run v f.ino (2 ^ 63)) f.rest.attr_extents) (runs_of_blocks f.ino (2 ^ 62) f.rest.tree) is) [
      | inl forks ↦ elim (member_either q (map (extent_run v f.ino 0) f.extents) (map (extent_run v f.ino (2 ^ 63)) f.rest.attr_extents) forks) [
        | inl a ↦ let of = map_member (extent_run v f.ino 0) q f.extents a in sym (ap (λ (r : Run). r.owner) of.2)
        | inr a ↦ let of = map_member (extent_run v f.ino (2 ^ 63)) q f.rest.attr_extents a in sym (ap (λ (r : Run). r.owner) of.2)
      ]
      | inr a ↦ let of = map_member (λ block. new_run block 1 f.ino (2 ^ 62)) q f.rest.tree a in sym (ap (λ (r : Run). r.owner) of.2)
    ]

-- a run of a volume for clusters is that of one
pub owned_cluster : (g : Geometry) (b : ℕ) (groups : List GroupRec) (files : List FileRec) (q : Run) → AreGroups (volume_of g) 0 groups → All (λ (f : FileRec). f.ino < 2 ^ 60) files
    → Member q (owned_runs (volume_of g) groups files) → IsClusters q.owner → covers b q ≡ true → HasBlock (volume_of g) 0 groups b
unfolding owned_runs
owned_cluster g b groups files q are low is owner on =
    let v : Volume = volume_of g in
    elim (member_either q (groups_runs g.agblocks 0 groups) (new_run g.log g.logblocks log_owner 0 ∷ flat_map (file_runs v) files) is) [
      | inl of_group ↦
          let zero_base : 0 ≡ 0 * g.agblocks = omega arith in
          groups_cluster v 0 b groups q are (subst (λ (n : ℕ). Member q (groups_runs g.agblocks n groups)) zero_base of_group) owner on
      | inr behind ↦ elim behind [
        | inl of_log ↦ absurd (not_owner q.owner (2 ^ 64 - 4) owner (inr (omega arith)) (sym (ap (λ (r : Run). r.owner) of_log)))
        | inr of_file ↦
            let of = flat_member (file_runs v) q files of_file in
            let number = file_owner v of.0 q of.2 in
            let small : of.0.ino < 2 ^ 60 = member_all (λ (f : FileRec). f.ino < 2 ^ 60) of.0 files (recursion_from_All (λ (f : FileRec). f.ino < 2 ^ 60) files low) of.1 in
            absurd (not_owner q.owner of.0.ino owner (inl (omega (arith, small))) number)
      ]
    ]

-- the offset word of a block of an owned run is not much above eight bytes; of an owner that is no inode it is that of the run
pub word_low : (q : Run) (b : ℕ) → q.offset_word < 2 ^ 64 → q.count ≤ 2 ^ 54 → b < q.start + q.count → offset_word_at q b < 2 ^ 64 + 2 ^ 54
word_low q b offset count inside = by_case (is_file_data q.owner q.offset_word)
  where
    by_case : (t : Bool) → (if t then q.offset_word + (b - q.start) else q.offset_word) < 2 ^ 64 + 2 ^ 54
    by_case true = omega (arith, offset, count, inside)
    by_case false = omega (arith, offset)

pub word_own : (q : Run) (b : ℕ) → 2 ^ 63 ≤ q.owner → offset_word_at q b ≡ q.offset_word
word_own q b high =
    let t : nat_lt q.owner (2 ^ 63) ≡ false = grind (arith, nat_tests, high) in
    rw t refl

pub on_parts : (b : ℕ) (r : Run) → covers b r ≡ true → (r.start ≤ b) × (b < r.start + r.count)
on_parts b r on = let both = and_parts (nat_le r.start b) (nat_lt b (r.start + r.count)) on in (leb-true r.start b both.0, ltb-true b (r.start + r.count) both.1)

-- the third law at a block of the volume
pub numbers_agree : (v : Volume) (recorded owned : List Run) (b : ℕ) → first_broken (owner_laws v recorded owned) ≡ None → b < v.dblocks
    → owner_number (held_at recorded b) ≡ owner_number (held_at owned b)
unfolding owner_laws
numbers_agree v recorded owned b kept inside = each_kept (owner_at recorded owned) 0 v.dblocks kept b (omega arith) (omega (arith, inside))

clusters_number : (w o x : ℕ) → o * 2 ^ 64 + x ≡ (2 ^ 64 - 7) * 2 ^ 64 + w → w < 2 ^ 64 → x < 2 ^ 64 + 2 ^ 54 → IsClusters o
clusters_number w o x e low more =
    elim (cases_lt o (2 ^ 64 - 7)) [
      | inl less ↦ inr (omega (arith, e, low, more, less))
      | inr high ↦ inl (omega (arith, e, low, more, high))
    ]

-- a block that is held for clusters among the owned runs is one of a cluster
pub from_number : (g : Geometry) (image : Image) (groups : List GroupRec) (files : List FileRec) (b w : ℕ) → IsLawfulView g image groups files → w < 2 ^ 64
    → owner_number (held_at (owned_runs (volume_of g) groups files) b) ≡ (2 ^ 64 - 7) * 2 ^ 64 + w → HasBlock (volume_of g) 0 groups b
from_number g image groups files b w view low number =
    let runs = owned_runs (volume_of g) groups files in
    elim (held_of runs b) [
      | inl none ↦ let e : owner_number None ≡ (2 ^ 64 - 7) * 2 ^ 64 + w = ap owner_number (sym none) ∙ number in absurd (omega (arith, e, low))
      | inr one ↦
          let owned : IsOwned (volume_of g) one.0 = member_all (IsOwned (volume_of g)) one.0 runs (recursion_from_All (IsOwned (volume_of g)) runs view.owned) one.1.is in
          let fork = owned.fork in
          let at = on_parts b one.0 one.1.on in
          let small = word_low one.0 b owned.offset (omega (arith, fork)) at.1 in
          let e : one.0.owner * 2 ^ 64 + offset_word_at one.0 b ≡ (2 ^ 64 - 7) * 2 ^ 64 + w = ap owner_number (sym one.1.held) ∙ number in
          owned_cluster g b groups files one.0 view.space.are view.low one.1.is (clusters_number w one.0.owner (offset_word_at one.0 b) e low small) one.1.on
    ]
