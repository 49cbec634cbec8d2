-- A new cluster of a plan: its 32 inodes are those from the first on, which is lost+found; the others are free.
use Rattle.std.proofs.Common.{◌≡◌, inl, inr, ℕ, zero, suc, Bool, true, false, ◌+◌, ◌*◌, ◌/◌, ◌%◌, ◌^◌, ◌≤◌, ◌<◌, nat_lt, if◌then◌else◌, List, [], ◌∷◌, ◌++◌, length, map, Option, None, MatchOption, refl, sym, ap, ap₂, ◌∙◌, subst, arith}
use Rattle.std.specs.List.{Contains, flat_map, range_with_len}
use Rattle.std.proofs.Math.Nat.{mod-lt}
use Rattle.std.proofs.lemmas.Bool.{eq-eqb}
use Rattle.std.proofs.lemmas.Nat.{div-add-mod', div-mul-add, mod-mul-add}
use Rattle.xfs_disk.specs.Blocks.{Image}
use Rattle.xfs_disk.specs.declared.stamp.Stamp.{Stamp}
use Rattle.xfs_geom.specs.Conversions.{address_of, inode_of}
use Rattle.xfs_geom.specs.Volumes.{Volume, volume_of}
use Rattle.xfs_geom.specs.declared.geometry.Geometry.{Geometry}
use Rattle.xfs_image.specs.Slots.{cluster_inodes, inodes_of_block, reads_as, slot_bytes}
use Rattle.xfs_inode.specs.declared.files.FileRead.TheVariants as Reads
use Rattle.xfs_names.specs.declared.place.LostPlace.{LostPlace}
use Rattle.xfs_names.specs.declared.place.LostPlace.TheVariants as place
use Rattle.xfs_views.proofs.Members.{Member, contains, member_flat, member_row}
use Rattle.xfs_render.specs.Plans.{HoldsPlan}
use Rattle.xfs_render.specs.Slots.{IsMadeSlot, wanted_of}
use Rattle.xfs_render.specs.declared.wanted_slots.SlotWanted.{SlotWanted}
use Rattle.xfs_salvage.specs.Kept.{run_of_cluster}
use Rattle.xfs_rename.specs.xfs_rebuild.declared.names_due.NamesDue.{NamesDue}
use Rattle.xfs_rename.specs.Lost.{added_for, first_added, first_of, is_lost_made, lost_due, new_for, place_due}
use Rattle.xfs_rename.specs.xfs_changes.Nodes.{first_of_cluster}
use Rattle.xfs_rename.specs.Renames.{IsRenamed, old_files, placed_forks}
use Rattle.xfs_rename.specs.xfs_changes.Slots.{changed_alone, free_change}
use Rattle.xfs_rename.specs.Settled.{with_number_in_order, with_numbers}
use Rattle.xfs_rename.specs.declared.planning.Renamed.{Renamed}
use Rattle.xfs_restored.specs.Changes.{LinksAscend, SlotsAscend, inodes_taken, lost_slot}
use Rattle.xfs_restored.proofs.DueSlots.{asked_due, cluster_clear}
use Rattle.xfs_rename.proofs.xfs_built.Joining.{range_split}
use Rattle.xfs_restored.proofs.NewCluster.{free_due, free_now, lost_wanted}
use Rattle.xfs_restored.proofs.Placing.{next_head}

-- at most one cluster is new, and its first inode is lost+found
first_few : (starts others : List ℕ) → length (first_of starts others) ≤ 1
first_few [] [] = omega arith
first_few [] (x ∷ xs) = omega arith
first_few (x ∷ xs) others = omega arith

few_for : (g : Geometry) (n : NamesDue) (where_is : LostPlace) → length (added_for g n where_is) ≤ 1
few_for g n place.Unneeded = omega arith
few_for g n (place.Old ino) = omega arith
few_for g n (place.Slot ino) = omega arith
few_for g n place.Cluster = first_few _ _

pub added_few : (g : Geometry) (n : NamesDue) → length (lost_due g n).added ≤ 1
added_few g n = few_for g n (place_due g n)

made_for : (g : Geometry) (n : NamesDue) (where_is : LostPlace) (cluster : ℕ) → added_for g n where_is ≡ cluster ∷ []
    → (new_for g n where_is ≡ first_of_cluster (volume_of g) cluster) × (is_lost_made where_is ≡ true)
made_for g n place.Unneeded cluster is = absurd cc
made_for g n (place.Old ino) cluster is = absurd cc
made_for g n (place.Slot ino) cluster is = absurd cc
made_for g n place.Cluster cluster is = (ap (first_added g n) is, refl)

pub added_made : (g : Geometry) (n : NamesDue) (cluster : ℕ) → (lost_due g n).added ≡ cluster ∷ []
    → ((lost_due g n).new ≡ first_of_cluster (volume_of g) cluster) × ((lost_due g n).made ≡ true)
added_made g n cluster is = made_for g n (place_due g n) cluster is

-- numbers that are put among others
number_has : (x : ℕ) (ys : List ℕ) → Member x (with_number_in_order x ys)
number_has x [] = inl refl
number_has x (y ∷ ys) = by_test (nat_lt y x) (number_has x ys)
  where
    by_test : (t : Bool) → Member x (with_number_in_order x ys) → Member x (if t then y ∷ with_number_in_order x ys else x ∷ y ∷ ys)
    by_test true rest = inr rest
    by_test false rest = inl refl

one_number : (x : ℕ) (added ys : List ℕ) → added ≡ x ∷ [] → Member x (with_numbers added ys)
one_number x added ys is = subst (λ (xs : List ℕ). Member x (with_numbers xs ys)) (sym is) (number_has x ys)

-- the inodes of a cluster inside a group follow each other
block_row : (v : Volume) (block k n : ℕ) → map (inode_of v block) (range_with_len k n) ≡ range_with_len (address_of v block * 8 + k) n
unfolding inode_of
block_row v block k zero = refl
block_row v block k (suc n) =
    ap (λ (xs : List ℕ). (address_of v block * 8 + k) ∷ xs) (block_row v block (k + 1) n ∙ ap (λ (m : ℕ). range_with_len m n) (omega arith))

next_address : (v : Volume) (c b : ℕ) → c % v.agblocks + b < v.agblocks → address_of v (c + b) ≡ address_of v c + b
unfolding address_of
next_address v c b room =
    let w : ℕ = v.agblocks in
    let whole : c / w * w + c % w ≡ c = div-add-mod' c w in
    let same : c + b ≡ c / w * w + (c % w + b) = omega (arith, whole) in
    let group : (c + b) / w ≡ c / w = ap (λ (m : ℕ). m / w) same ∙ div-mul-add (c / w) w (c % w + b) room in
    let rest : (c + b) % w ≡ c % w + b = ap (λ (m : ℕ). m % w) same ∙ mod-mul-add (c / w) w (c % w + b) room in
    ap₂ (λ (m k : ℕ). m * 2 ^ v.agblklog + k) group rest ∙ omega arith

pub rows_follow : (v : Volume) (c b n : ℕ) → c % v.agblocks + b + n ≤ v.agblocks → flat_map (inodes_of_block v) (range_with_len (c + b) n) ≡ range_with_len (address_of v c * 8 + 8 * b) (8 * n)
rows_follow v c b zero room = refl
rows_follow v c b (suc n) room =
    let here : inodes_of_block v (c + b) ≡ range_with_len (address_of v c * 8 + 8 * b) 8 =
    block_row v (c + b) 0 8 ∙ ap (λ (a : ℕ). range_with_len a 8) (ap (λ (a : ℕ). a * 8 + 0) (next_address v c b (omega (arith, room))) ∙ omega arith) in
    let behind : flat_map (inodes_of_block v) (range_with_len (c + b + 1) n) ≡ range_with_len (address_of v c * 8 + 8 * b + 8) (8 * n) =
    ap (λ (a : ℕ). flat_map (inodes_of_block v) (range_with_len a n)) (omega arith)
    ∙ (rows_follow v c (b + 1) n (omega (arith, room)) ∙ ap (λ (a : ℕ). range_with_len a (8 * n)) (omega arith)) in
    ap₂ (λ (xs ys : List ℕ). xs ++ ys) here behind
    ∙ (sym (range_split (address_of v c * 8 + 8 * b) 8 (8 * n)) ∙ ap (λ (k : ℕ). range_with_len (address_of v c * 8 + 8 * b) k) (omega arith))

module _ (g : Geometry) (sector : List ℕ) (s : Stamp) (image now : Image) (n : NamesDue) (r : Renamed) (is : IsRenamed g sector s image n r) (holds : HoldsPlan now is.left.plan)
    (size : g.dblocks ≤ length now) (cluster : ℕ) (added : (lost_due g n).added ≡ cluster ∷ []) where
  abbrev first : ℕ
  first = first_of_cluster (volume_of g) cluster

  one_cluster : Member cluster (with_numbers (lost_due g n).added n.clusters)
  one_cluster = one_number cluster (lost_due g n).added n.clusters added

  in_group : cluster % g.agblocks + 4 ≤ g.agblocks
  in_group =
      let large = g.shape.groups.large in
      let ag : ℕ = cluster / g.agblocks in
      let whole : ag * g.agblocks + cluster % g.agblocks ≡ cluster = div-add-mod' cluster g.agblocks in
      let short : cluster % g.agblocks < g.agblocks = mod-lt cluster (omega (arith, large)) in
      let more : (ag + 1) * g.agblocks ≡ ag * g.agblocks + g.agblocks = omega arith in
      let end = next_head g (run_of_cluster cluster) (ag + 1) (cluster_clear g sector s image now n r is holds size cluster one_cluster) (omega (arith, whole, short, more)) in
      omega (arith, whole, end, more)

  pub cluster_row : cluster_inodes (volume_of g) cluster ≡ range_with_len first 32
  unfolding cluster_inodes inode_of
  cluster_row =
      ap (λ (c : ℕ). flat_map (inodes_of_block (volume_of g)) (range_with_len c 4)) (omega arith)
      ∙ (rows_follow (volume_of g) cluster 0 4 (let inside = in_group in omega (arith, inside)) ∙ ap (λ (a : ℕ). range_with_len a 32) (omega arith))

  has_inode : (j : ℕ) → j < 32 → Contains (flat_map (cluster_inodes (volume_of g)) (with_numbers (lost_due g n).added n.clusters)) (first + j)
  has_inode j low =
      contains (first + j) (flat_map (cluster_inodes (volume_of g)) (with_numbers (lost_due g n).added n.clusters))
      (member_flat (cluster_inodes (volume_of g)) cluster (first + j) (with_numbers (lost_due g n).added n.clusters) one_cluster
      (subst (λ (xs : List ℕ). Member (first + j) xs) (sym cluster_row) (member_row (first + j) first 32 (omega arith) (omega (arith, low)))))

  taken_is : inodes_taken (lost_due g n) first ≡ 32
  taken_is =
      ap (λ (t : Bool). if t then 1 + 31 * length (lost_due g n).added else 1) (eq-eqb (lost_due g n).new first (added_made g n cluster added).0)
      ∙ ap (λ (xs : List ℕ). 1 + 31 * length xs) added

  module _ (ascend : LinksAscend (lost_due g n) 0 is.w.links) (rise : SlotsAscend 0 n.slots) (k : ℕ) (linked : Contains is.w.links (first, k)) where
    pub others_free : (j : ℕ) → j < 31 → wanted_of n.slots (first + 1 + j) ≡ None → reads_as (volume_of g) now (first + 1 + j) ≡ Reads.Free
    unfolding reads_as
    others_free j low none =
        let place : first + (j + 1) ≡ first + 1 + j = omega arith in
        let taken = taken_is in
        free_now (volume_of g) s (lost_due g n) (old_files n is.w) (placed_forks g n is.w is.built is.placed) is.w.links n.slots (added_few g n) ascend rise now s.generation (first, k) j
        (slot_bytes (volume_of g) image (first + 1 + j)) (slot_bytes (volume_of g) now (first + 1 + j)) linked (omega (arith, taken, low)) none
        (asked_due g sector s image now n r is holds size (first + 1 + j)
        (subst (λ (ino : ℕ). Contains (flat_map (cluster_inodes (volume_of g)) (with_numbers (lost_due g n).added n.clusters)) ino) place (has_inode (j + 1) (omega (arith, low))))
        (changed_alone (free_change (first + 1 + j)))
        (free_due (volume_of g) s (lost_due g n) (old_files n is.w) (placed_forks g n is.w is.built is.placed) is.w.links n.slots (added_few g n) ascend rise (first, k) j linked
        (omega (arith, taken, low)) none))

    pub first_made : wanted_of n.slots first ≡ None
        → IsMadeSlot (volume_of g) s.generation (lost_slot (volume_of g) s (old_files n is.w) (placed_forks g n is.w is.built is.placed) (first, k)) (slot_bytes (volume_of g) image first)
        (slot_bytes (volume_of g) now first)
    first_made none =
        let made = added_made g n cluster added in
        let place : first + 0 ≡ first = omega arith in
        let wanted = lost_wanted (volume_of g) s (lost_due g n) (old_files n is.w) (placed_forks g n is.w is.built is.placed) is.w.links n.slots (added_few g n) ascend rise (first, k) linked made.1
        made.0 none in
        subst (λ (o : Option SlotWanted). MatchOption o (slot_bytes (volume_of g) now first ≡ slot_bytes (volume_of g) image first)
        (λ w. IsMadeSlot (volume_of g) s.generation w (slot_bytes (volume_of g) image first) (slot_bytes (volume_of g) now first)))
        wanted
        (asked_due g sector s image now n r is holds size first
        (subst (λ (ino : ℕ). Contains (flat_map (cluster_inodes (volume_of g)) (with_numbers (lost_due g n).added n.clusters)) ino) place (has_inode 0 (omega arith)))
        (lost_slot (volume_of g) s (old_files n is.w) (placed_forks g n is.w is.built is.placed) (first, k)) wanted)
