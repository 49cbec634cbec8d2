-- The headers that are due have their shape.
use Rattle.std.proofs.Common.{◌≡◌, ℕ, ◌+◌, ◌-◌, ◌%◌, ◌^◌, ◌<◌, ◌≤◌, ◌&&◌, ◌||◌, ◌==◌, Bool, true, false, nat_le, nat_lt, if◌then◌else◌, List, ◌++◌, length, take, drop, refl, sym, ap, ap₂, ◌∙◌, arith}
use Rattle.std.proofs.lemmas.List.{take-append-drop}
use Rattle.std.specs.Prelude.{IsTrue}
use Rattle.std.specs.Cmp.Derive.{both_true}
use Rattle.std.proofs.lemmas.Bool.{eq-eqb, eqb-false, le-leb, lt-ltb}
use Rattle.xfs_geom.specs.Conversions.{group_length}
use Rattle.xfs_geom.specs.Volumes.{Volume}
use Rattle.xfs_geom.specs.declared.records.InoRec.{InoRec}
use Rattle.xfs_heads.specs.FreeList.{unused}
use Rattle.xfs_heads.specs.FreeSpace.{is_agf_shaped}
use Rattle.xfs_heads.specs.declared.free_list.Agfl.{Agfl}
use Rattle.xfs_heads.specs.Heads.{is_level, is_root_block}
use Rattle.xfs_heads.specs.Inodes.{is_agi_shaped}
use Rattle.xfs_kinds.specs.FreeTrees.{bno_shape, cnt_shape}
use Rattle.xfs_kinds.specs.InodeTrees.{ino_shape, fino_shape}
use Rattle.xfs_kinds.specs.OwnerTrees.{rmap_shape}
use Rattle.xfs_place.specs.declared.placed.GroupPlaced.{GroupPlaced}
use Rattle.xfs_treebuild.specs.Packing.{root_of}
use Rattle.xfs_tree.specs.Shape.{Shape}
use Rattle.xfs_render.specs.Counters.{levels}
use Rattle.xfs_render.specs.Groups.{CanPack, IsSoundGroup, due_agf, due_agfl, due_agi, last_entry, tree_places}
use Rattle.xfs_render.proofs.Levels.{levels_few}
use Rattle.xfs_render.proofs.Roots.{root_in_group}
use Rattle.xfs_render.proofs.Sums.{tree_small}

level_fits : (leaf_cap node_cap records : ℕ) → 16 ≤ leaf_cap → 16 ≤ node_cap → records < 2 ^ 28 → is_level (levels leaf_cap node_cap records) ≡ true
level_fits leaf_cap node_cap records leaves nodes few =
    let both = levels_few leaf_cap node_cap records leaves nodes few in
    both_true (le-leb 1 (levels leaf_cap node_cap records) both.0) (le-leb (levels leaf_cap node_cap records) 9 both.1)

-- the root of a tree that can be packed is an AG block behind the first
root_fits : {R K : Type 0} (s : Shape R K) (v : Volume) (ag : ℕ) (records : List R) (places : List ℕ) → 1 ≤ v.agblocks → s.layout.long ≡ false → s.owner ≡ ag
    → 1 ≤ s.layout.leaf_cap → 2 ≤ s.layout.node_cap → CanPack s v records places → is_root_block (root_of places % v.agblocks) (group_length v ag) ≡ true
root_fits s v ag records places some short owner leaves nodes can =
    let there = (tree_small s.layout.leaf_cap s.layout.node_cap (length records) (length places) leaves nodes can.few can.size).0 in
    let root = root_in_group s v ag records places some short owner there can in
    both_true (le-leb 1 (root_of places % v.agblocks) root.behind) (lt-ltb (root_of places % v.agblocks) (group_length v ag) root.inside)

-- the list begins at entry 0 and ends at its last entry
list_fits : (n : ℕ) → n ≤ 118 → ((nat_lt (last_entry n) 119 && nat_le n 119) && (n == 0 || (last_entry n + 119 - 0) % 119 + 1 == n)) ≡ true
list_fits n short = by_case (n == 0) refl
  where
    by_case : (t : Bool) → (n == 0) ≡ t
        → ((nat_lt (if t then 118 else n - 1) 119 && nat_le n 119) && (t || ((if t then 118 else n - 1) + 119 - 0) % 119 + 1 == n)) ≡ true
    by_case true e = both_true (le-leb n 119 (omega (arith, short))) refl
    by_case false e =
        let some = eqb-false n 0 e in
        let low : n - 1 < 119 = omega (arith, short) in
        let turn : (n - 1 + 119 - 0) % 119 + 1 ≡ n = omega (arith, some, short) in
        both_true (both_true (lt-ltb (n - 1) 119 low) (le-leb n 119 (omega (arith, short)))) (eq-eqb _ n turn)

module _ (v : Volume) (ag : ℕ) (inodes : List InoRec) (p : GroupPlaced) (some : 1 ≤ v.agblocks) (sound : IsSoundGroup v ag inodes p) where
  pub agf_shaped : IsTrue (is_agf_shaped v ag (due_agf v ag p))
  agf_shaped =
      let whole = eq-eqb (group_length v ag) (group_length v ag) refl in
      let bno = root_fits (bno_shape ag) v ag p.bno (tree_places p 0) some refl refl (omega arith) (omega arith) sound.bno in
      let cnt = root_fits (cnt_shape ag) v ag p.cnt (tree_places p 1) some refl refl (omega arith) (omega arith) sound.cnt in
      let rmap = root_fits (rmap_shape ag) v ag p.rmap (tree_places p 4) some refl refl (omega arith) (omega arith) sound.rmap in
      let bnolevel = level_fits 505 336 (length p.bno) (omega arith) (omega arith) sound.bno.few in
      let cntlevel = level_fits 505 336 (length p.cnt) (omega arith) (omega arith) sound.cnt.few in
      let rmaplevel = level_fits 168 91 (length p.rmap) (omega arith) (omega arith) sound.rmap.few in
      both_true (both_true (both_true (both_true (both_true (both_true (both_true whole bnolevel) cntlevel) rmaplevel) bno) cnt) rmap) (list_fits (length p.agfl) sound.short)

  pub agi_shaped : IsTrue (is_agi_shaped v ag (due_agi v ag inodes p))
  agi_shaped =
      let whole = eq-eqb (group_length v ag) (group_length v ag) refl in
      let ino = root_fits (ino_shape ag) v ag inodes (tree_places p 2) some refl refl (omega arith) (omega arith) sound.ino in
      let fino = root_fits (fino_shape ag) v ag p.fino (tree_places p 3) some refl refl (omega arith) (omega arith) sound.fino in
      let level = level_fits 252 505 (length inodes) (omega arith) (omega arith) sound.ino.few in
      let free_level = level_fits 252 505 (length p.fino) (omega arith) (omega arith) sound.fino.few in
      both_true (both_true (both_true (both_true whole level) free_level) ino) fino

-- the free list by its entries: those that are active, then those that are not
pub agfl_is : (p : GroupPlaced) (a : Agfl) → a.count ≡ length p.agfl → take a.count a.entries ≡ p.agfl → drop a.count a.entries ≡ unused (119 - a.count)
    → a ≡ due_agfl p
agfl_is p a count active rest =
    let entries : a.entries ≡ p.agfl ++ unused (119 - length p.agfl) =
    sym (take-append-drop a.count a.entries) ∙ ap₂ (λ (xs ys : List ℕ). xs ++ ys) active (rest ∙ ap (λ n. unused (119 - n)) count) in
    λ i. record { entries = entries i; count = count i }
