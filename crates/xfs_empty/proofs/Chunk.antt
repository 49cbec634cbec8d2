-- The first chunk of an empty volume is lawful.
use Rattle.std.proofs.Common.{◌≡◌, ℕ, ◌+◌, ◌-◌, ◌*◌, ◌%◌, ◌≤◌, ◌<◌, Bool, true, false, not, ◌==◌, ◌&&◌, ◌||◌, cond, [], ◌∷◌, None, IsTrue, arith, refl}
use Rattle.std.proofs.Math.Nat.{mod-eq_of_lt}
use Rattle.std.proofs.lemmas.Bool.{eqb-true, le-leb, lt-ltb, lt-leb, ne_eqb}
use Rattle.std.specs.Cmp.Derive.{both_true}
use Rattle.xfs_geom.specs.Conversions.{group_length, is_fixed}
use Rattle.xfs_geom.specs.Shape.{HasGroups}
use Rattle.xfs_geom.specs.Volumes.{Volume}
use Rattle.xfs_place.specs.xfs_kinds.InodeTrees.{are_free_of_use, ino_shape}
use Rattle.xfs_tree.specs.Rules.{are_lawful}
use Rattle.xfs_empty.specs.Geometry.{HasFirstChunk}
use Rattle.xfs_empty.specs.Placing.{chunks_of, first_chunk}

neither : (a b : Bool) → a ≡ false → b ≡ false → (a || b) ≡ false
neither a b p q = rw (p, q) refl

not_both : (a b : Bool) → a ≡ false → (a && b) ≡ false
not_both a b p = rw p refl

-- no block of the first chunk has a fixed use
pub chunk_free : (v : Volume) (b : ℕ) → HasGroups v.dblocks v.agblocks v.agcount → HasFirstChunk v → 16 ≤ b → b < 24 → is_fixed v b ≡ false
chunk_free v b groups first low high =
    let rest : b % v.agblocks ≡ b = mod-eq_of_lt (omega (arith, groups.large)) in
    neither _ _
    (rw rest (ne_eqb b 0 (λ none. absurd (omega arith))))
    (not_both _ _ (lt-leb v.log b (omega (arith, first.log))))

-- the first group has more than 24 blocks
pub first_length : (v : Volume) → HasGroups v.dblocks v.agblocks v.agcount → 1024 ≤ group_length v 0
first_length v groups = by_case (1 == v.agcount) refl
  where
    by_case : (r : Bool) → (1 == v.agcount) ≡ r → 1024 ≤ cond r (v.dblocks - 0 * v.agblocks) v.agblocks
    by_case true is = absurd (let one : 1 ≡ v.agcount = eqb-true _ _ is in omega (arith, groups.two))
    by_case false is = groups.large

clear_block : (v : Volume) (b : ℕ) → is_fixed v b ≡ false → not (is_fixed v b) ≡ true
clear_block v b h = rw h refl

pub all_clear : (v : Volume) (s : ℕ) → HasGroups v.dblocks v.agblocks v.agcount → HasFirstChunk v → s ≡ 16 → are_free_of_use v 0 s ≡ true
unfolding are_free_of_use
all_clear v s groups first at =
    let clear : (b : ℕ) → 16 ≤ b → b < 24 → not (is_fixed v b) ≡ true = λ b low high. clear_block v b (chunk_free v b groups first low high) in
    rw at
    (both_true (clear 16 (omega arith) (omega arith))
    (both_true (clear 17 (omega arith) (omega arith))
    (both_true (clear 18 (omega arith) (omega arith))
    (both_true (clear 19 (omega arith) (omega arith))
    (both_true (clear 20 (omega arith) (omega arith))
    (both_true (clear 21 (omega arith) (omega arith))
    (both_true (clear 22 (omega arith) (omega arith))
    (both_true (clear 23 (omega arith) (omega arith)) refl))))))))

-- the records of inodes of each group are lawful
pub chunks_lawful : (v : Volume) (ag : ℕ) → HasGroups v.dblocks v.agblocks v.agcount → HasFirstChunk v
    → IsTrue (are_lawful (ino_shape ag) v None (chunks_of ag))
chunks_lawful v ag groups first = by_case (ag == 0) refl
  where
    start : (ag : ℕ) → ag ≡ 0 → ag * v.agblocks + 16 ≡ 16
    start ag none = rw none (omega arith)

    lies : (ag : ℕ) → ag ≡ 0 → 24 ≤ group_length v ag
    lies ag none = rw none (omega (arith, first_length v groups))

    by_case : (r : Bool) → (ag == 0) ≡ r → IsTrue (are_lawful (ino_shape ag) v None (cond r (first_chunk ∷ []) []))
    by_case true is =
        let none : ag ≡ 0 = eqb-true ag 0 is in
        both_true
        (both_true
        (both_true (both_true (lt-ltb ag v.agcount (omega (arith, groups.two, none))) (le-leb 24 _ (lies ag none)))
        (all_clear v (ag * v.agblocks + 16) groups first (start ag none)))
        refl)
        refl
    by_case false is = refl
