-- The counters of the volume are the sums of those of its groups.
use Rattle.std.proofs.Common.{◌≡◌, ℕ, suc, ◌+◌, ◌*◌, ◌<◌, List, [], ◌∷◌, length, get_or, map, refl, sym, ◌∙◌, ap, ap₂, subst, arith}
use Rattle.std.specs.List.{range_with_len, sum}
use Rattle.xfs_geom.specs.Sums as Sums
use Rattle.xfs_geom.specs.Volumes.{Volume}
use Rattle.xfs_geom.specs.declared.records.Counts.{Counts}
use Rattle.xfs_geom.specs.declared.records.Run.{Run}
use Rattle.xfs_volume.specs.Laws.{AreKept}
use Rattle.xfs_volume.specs.declared.groups.GroupRec.{GroupRec}
use Rattle.xfs_laws.specs.Counting as Laws
use Rattle.xfs_place.specs.Counts as Placed
use Rattle.xfs_place.specs.Counts.{placed_counts}
use Rattle.xfs_place.specs.Standing.{AreOfPool}
use Rattle.xfs_place.specs.Wanted.{ArePlaced, inodes_in_group}
use Rattle.xfs_place.specs.declared.placed.GroupPlaced.{GroupPlaced}
use Rattle.xfs_place.specs.declared.wanted.GroupInodes.{GroupInodes}
use Rattle.xfs_place.proofs.OfPool.{all_of_pool}
use Rattle.xfs_render.specs.Rendering.{no_group}
use Rattle.xfs_made.specs.Groups.{due_group_at, due_groups}
use Rattle.xfs_made.proofs.Counters.{counts_kept, free_slots_are, room_is, slots_are}
use Rattle.xfs_made.proofs.KeptLaws.{both_kept, groups_kept}
use Rattle.xfs_made.proofs.TopDown.{AreSized, are_sized}

-- a number of each of some records is that of the group that is made of it
numbers_are : {X : Type 0} (number : X → ℕ) (due : GroupRec → ℕ) (group : ℕ → GroupRec) (xs : List X) (d : X) (a n : ℕ) → length xs ≡ n
    → ((k : ℕ) → k < n → number (get_or xs k d) ≡ due (group (a + k))) → map number xs ≡ map due (map group (range_with_len a n))
numbers_are number due group [] d a n all each = subst (λ (m : ℕ). [] ≡ map due (map group (range_with_len a m))) all refl
numbers_are number due group (x ∷ xs) d a n all each =
    let one : a + 0 ≡ a = omega arith in
    let first : number x ≡ due (group a) = each 0 (omega (arith, all)) ∙ ap (λ (k : ℕ). due (group k)) one in
    let others : map number xs ≡ map due (map group (range_with_len (a + 1) (length xs))) =
    numbers_are number due group xs d (a + 1) (length xs) refl (λ k low.
    let next : a + suc k ≡ a + 1 + k = omega arith in
    each (suc k) (omega (arith, all, low)) ∙ ap (λ (j : ℕ). due (group j)) next) in
    subst (λ (m : ℕ). number x ∷ map number xs ≡ map due (map group (range_with_len a m))) all (ap₂ (λ (y : ℕ) (ys : List ℕ). y ∷ ys) first others)

module _ (v : Volume) (kept : List Run) (reserved : List ℕ) (inodes : List GroupInodes) (groups : List GroupPlaced) (agf_crc agi_crc : ℕ → ℕ)
    (placed : ArePlaced v kept reserved inodes v.agcount groups) where
  pool : AreOfPool v kept reserved inodes v.agcount groups
  pool = all_of_pool v kept reserved inodes v.agcount groups placed

  pub sized : (ag : ℕ) → ag < v.agcount → AreSized (inodes_in_group inodes ag) (get_or groups ag no_group)
  sized ag low =
      are_sized v kept reserved (ag * v.agblocks) (inodes_in_group inodes ag) (get_or groups ag no_group) (pool.each ag no_group low) (placed.each ag no_group low).cnt

  same_at : (due : GroupRec → ℕ) (k : ℕ) → due (due_group_at v inodes groups agf_crc agi_crc k) ≡ due (due_group_at v inodes groups agf_crc agi_crc (0 + k))
  same_at due k = let start : k ≡ 0 + k = omega arith in ap (λ (j : ℕ). due (due_group_at v inodes groups agf_crc agi_crc j)) start

  groups_counted : AreKept (Laws.by_group Laws.group_counts 0 (due_groups v inodes groups agf_crc agi_crc))
  groups_counted =
      groups_kept Laws.group_counts (due_group_at v inodes groups agf_crc agi_crc) 0 v.agcount (λ ag low high.
      counts_kept v ag (inodes_in_group inodes ag) (get_or groups ag no_group) (agf_crc ag) (agi_crc ag) (sized ag (omega (arith, high))))

  all_slots : length inodes ≡ v.agcount → sum (map (λ (g : GroupInodes). Sums.slots g.records) inodes) ≡ sum (map (λ (g : GroupRec). Sums.slots g.ino) (due_groups v inodes groups agf_crc agi_crc))
  all_slots all =
      ap sum (numbers_are (λ (g : GroupInodes). Sums.slots g.records) (λ (g : GroupRec). Sums.slots g.ino) (due_group_at v inodes groups agf_crc agi_crc) inodes (record { records = [] }) 0 v.agcount all
      (λ k low. sym (slots_are v k (inodes_in_group inodes k) (get_or groups k no_group) (agf_crc k) (agi_crc k) (sized k low)) ∙ same_at (λ (g : GroupRec). Sums.slots g.ino) k))

  all_free_slots : length inodes ≡ v.agcount → sum (map (λ (g : GroupInodes). Sums.free_slots g.records) inodes) ≡ sum (map (λ (g : GroupRec). Sums.free_slots g.ino) (due_groups v inodes groups agf_crc agi_crc))
  all_free_slots all =
      ap sum (numbers_are (λ (g : GroupInodes). Sums.free_slots g.records) (λ (g : GroupRec). Sums.free_slots g.ino) (due_group_at v inodes groups agf_crc agi_crc) inodes (record { records = [] }) 0 v.agcount all
      (λ k low. sym (free_slots_are v k (inodes_in_group inodes k) (get_or groups k no_group) (agf_crc k) (agi_crc k) (sized k low)) ∙ same_at (λ (g : GroupRec). Sums.free_slots g.ino) k))

  all_room : sum (map Placed.room_placed groups) ≡ sum (map Laws.room (due_groups v inodes groups agf_crc agi_crc))
  all_room =
      ap sum (numbers_are Placed.room_placed Laws.room (due_group_at v inodes groups agf_crc agi_crc) groups no_group 0 v.agcount placed.all
      (λ k low. sym (room_is v k (inodes_in_group inodes k) (get_or groups k no_group) (agf_crc k) (agi_crc k) (sized k low)) ∙ same_at Laws.room k))

  pub counters_kept : (counts : Counts) → length inodes ≡ v.agcount → counts ≡ placed_counts inodes groups → AreKept (Laws.counter_laws v (due_groups v inodes groups agf_crc agi_crc) counts)
  counters_kept counts all are =
      both_kept (Laws.by_group Laws.group_counts 0 (due_groups v inodes groups agf_crc agi_crc)) (Laws.volume_counts v (due_groups v inodes groups agf_crc agi_crc) counts) groups_counted
      (ap (λ (c : Counts). c.icount) are ∙ all_slots all, (ap (λ (c : Counts). c.ifree) are ∙ all_free_slots all, (ap (λ (c : Counts). c.fdblocks) are ∙ all_room, tt)))
