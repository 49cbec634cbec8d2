-- The root of a packed tree as an AG block of its group.
use Rattle.std.proofs.Common.{◌≡◌, ℕ, ◌+◌, ◌-◌, ◌*◌, ◌/◌, ◌%◌, ◌<◌, ◌≤◌, ◌||◌, ◌==◌, Bool, true, false, if◌then◌else◌, List, length, refl, subst, arith}
use Rattle.std.specs.Prelude.{IsTrue}
use Rattle.std.proofs.lemmas.Bool.{and_parts, or_parts, not-true, eqb-false, eqb-true, ltb-true}
use Rattle.xfs_geom.specs.Conversions.{group_length}
use Rattle.xfs_geom.specs.Volumes.{Volume}
use Rattle.xfs_treebuild.specs.Packing.{root_of}
use Rattle.xfs_tree.specs.Rules.{can_hold}
use Rattle.xfs_tree.specs.Shape.{Shape}
use Rattle.xfs_tree.specs.declared.layout.Layout.{Layout}
use Rattle.xfs_render.specs.Groups.{CanPack}

-- an AG block behind the first, and the block that it is
pub record IsInGroup (v : Volume) (ag block : ℕ) : Type 0 where
  pub behind : 1 ≤ block % v.agblocks
  pub inside : block % v.agblocks < group_length v ag
  pub is : ag * v.agblocks + block % v.agblocks ≡ block

in_group : (v : Volume) (ag block : ℕ) → 1 ≤ v.agblocks → block < v.dblocks → block / v.agblocks ≡ ag → (block % v.agblocks == 0) ≡ false → IsInGroup v ag block
in_group v ag block some inside group behind =
    let r = block % v.agblocks in
    let whole : ag * v.agblocks + r ≡ block = grind (arith, group) in
    record {
      behind = omega (arith, eqb-false r 0 behind);
      inside = by_case (ag + 1 == v.agcount) refl whole;
      is = whole;
    }
  where
    by_case : (t : Bool) → (ag + 1 == v.agcount) ≡ t → ag * v.agblocks + block % v.agblocks ≡ block
        → block % v.agblocks < (if t then v.dblocks - ag * v.agblocks else v.agblocks)
    by_case true e whole = omega (arith, whole, inside)
    by_case false e whole = omega (arith, some)

pub held_in_group : (v : Volume) (l : Layout) (ag block : ℕ) → 1 ≤ v.agblocks → l.long ≡ false → IsTrue (can_hold v l ag block) → IsInGroup v ag block
held_in_group v l ag block some short held =
    let clear = and_parts _ _ held in
    let free = and_parts _ _ clear.0 in
    let place = and_parts _ _ free.0 in
    let group : (false || block / v.agblocks == ag) ≡ true = subst (λ (t : Bool). (t || block / v.agblocks == ag) ≡ true) short place.1 in
    let fixed = or_parts _ _ (not-true _ free.1) in
    in_group v ag block some (ltb-true _ _ place.0) (eqb-true _ _ group) fixed.0

-- the root of a tree that can be packed
pub root_in_group : {R K : Type 0} (s : Shape R K) (v : Volume) (ag : ℕ) (records : List R) (places : List ℕ) → 1 ≤ v.agblocks → s.layout.long ≡ false
    → s.owner ≡ ag → 0 < length places → CanPack s v records places → IsInGroup v ag (root_of places)
root_in_group s v ag records places some short owner there can =
    let held = can.held (length places - 1) 0 (omega (arith, there)) in
    held_in_group v s.layout ag (root_of places) some short (subst (λ (o : ℕ). IsTrue (can_hold v s.layout o (root_of places))) owner held)
