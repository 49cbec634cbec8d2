-- The counters of one group are the sums of what stands in it.
use Rattle.std.proofs.Common.{◌≡◌, ℕ, ◌+◌, ◌-◌, max, List, [], ◌∷◌, length, map, refl, sym, ◌∙◌, ap, ap₂, arith, map-id}
use Rattle.std.specs.List.{sum}
use Rattle.xfs_geom.specs.Sums as Sums
use Rattle.xfs_geom.specs.Volumes.{Volume}
use Rattle.xfs_geom.specs.declared.records.InoRec.{InoRec}
use Rattle.xfs_geom.specs.declared.records.Span.{Span}
use Rattle.xfs_treebuild.specs.Packing.{rows_in, top_down}
use Rattle.xfs_treebuild.specs.Size.{rows_of}
use Rattle.xfs_kinds.specs.InodeTrees.{settled_chunk}
use Rattle.xfs_volume.specs.Laws.{AreKept}
use Rattle.xfs_laws.specs.Counting as Laws
use Rattle.xfs_place.specs.Counts as Placed
use Rattle.xfs_place.specs.declared.placed.GroupPlaced.{GroupPlaced}
use Rattle.xfs_render.specs.Groups.{tree_places}
use Rattle.xfs_made.specs.Groups.{due_group}
use Rattle.xfs_made.proofs.TopDown.{AreSized, as_many_blocks}

-- records of free runs are written as they are
pub spans_settled : (spans : List Span) → map (λ (s : Span). s) spans ≡ spans
spans_settled spans = map-id spans

-- settled chunks have the same numbers of inodes
pub slots_settled : (chunks : List InoRec) → map (λ (r : InoRec). r.count) (map settled_chunk chunks) ≡ map (λ (r : InoRec). r.count) chunks
slots_settled [] = refl
slots_settled (r ∷ rs) = ap (λ (ns : List ℕ). r.count ∷ ns) (slots_settled rs)

pub free_settled : (chunks : List InoRec) → map (λ (r : InoRec). r.freecount) (map settled_chunk chunks) ≡ map (λ (r : InoRec). r.freecount) chunks
free_settled [] = refl
free_settled (r ∷ rs) = ap (λ (ns : List ℕ). r.freecount ∷ ns) (free_settled rs)

module _ (v : Volume) (ag : ℕ) (inodes : List InoRec) (p : GroupPlaced) (agf_crc agi_crc : ℕ) (sized : AreSized inodes p) where
  packed : (leaf node records : ℕ) (places : List ℕ) → length places ≡ sum (rows_of leaf node records) → length (top_down (rows_in (rows_of leaf node records) places)) ≡ length places
  packed leaf node records places all = as_many_blocks (rows_of leaf node records) places all

  pub spare_is : Laws.spare_tree_blocks (due_group v ag inodes p agf_crc agi_crc).blocks ≡ Placed.spare_blocks p.trees
  spare_is =
      let a = packed 505 336 (length p.bno) (tree_places p 0) sized.bno in
      let b = packed 505 336 (length p.cnt) (tree_places p 1) sized.cnt in
      let c = packed 168 91 (length p.rmap) (tree_places p 4) sized.rmap in
      ap₂ (λ (m n : ℕ). m + n - 3) (ap₂ (λ (m n : ℕ). m + n) a b) c

  pub free_is : Sums.free_blocks (due_group v ag inodes p agf_crc agi_crc).bno ≡ Sums.free_blocks p.bno
  free_is = ap (λ (ss : List Span). sum (map (λ (s : Span). s.count) ss)) (spans_settled p.bno)

  pub slots_are : Sums.slots (due_group v ag inodes p agf_crc agi_crc).ino ≡ Sums.slots inodes
  slots_are = ap sum (slots_settled inodes)

  pub free_slots_are : Sums.free_slots (due_group v ag inodes p agf_crc agi_crc).ino ≡ Sums.free_slots inodes
  free_slots_are = ap sum (free_settled inodes)

  pub room_is : Laws.room (due_group v ag inodes p agf_crc agi_crc) ≡ Placed.room_placed p
  room_is = ap₂ (λ (m n : ℕ). m + length p.agfl + n) free_is spare_is

  longest_is : Sums.longest p.bno ≡ Sums.longest (map (λ (s : Span). s) p.bno)
  longest_is = ap Sums.longest (sym (spans_settled p.bno))

  pub counts_kept : AreKept (Laws.group_counts ag (due_group v ag inodes p agf_crc agi_crc))
  counts_kept = (
    sym free_is,
    (
      longest_is,
      (
        sym spare_is,
        (
          sym (packed 168 91 (length p.rmap) (tree_places p 4) sized.rmap),
          (sym slots_are, (sym free_slots_are, tt)),
        ),
      ),
    ),
  )
