-- The numbers of the inodes of chunks ascend.
use Rattle.std.proofs.Common.{◌≡◌, ◌≢◌, ℕ, ◌+◌, ◌*◌, ◌/◌, ◌%◌, ◌^◌, ◌≤◌, ◌<◌, ◌⊎◌, inl, inr, List, length, get_or, arith, sym, subst, ap}
use Rattle.std.proofs.Math.Nat.{mod-lt, mul-le-mul_right}
use Rattle.std.proofs.lemmas.Bool.{cases_lt}
use Rattle.std.proofs.lemmas.Nat.{div-add-mod'}
use Rattle.xfs_geom.specs.Conversions.{address_of, inode_of}
use Rattle.xfs_geom.specs.Shape.{HasAddresses, HasGroups}
use Rattle.xfs_geom.specs.Volumes.{Volume}
use Rattle.xfs_filled.specs.Numbers.{inode_at}
use Rattle.xfs_filled.proofs.Numbering.{block_few, chunk_inside}
use Rattle.xfs_filled.proofs.Rising.{Rise, rise_apart}

-- of two blocks the first has the lower address
address_up : (v : Volume) (a b : ℕ) → 1 ≤ v.agblocks → v.agblocks ≤ 2 ^ v.agblklog → a < b → address_of v a < address_of v b
unfolding address_of
address_up v a b some enough less = by_case (cases_lt (a / v.agblocks) (b / v.agblocks))
  where
    first : a / v.agblocks * v.agblocks + a % v.agblocks ≡ a
    first = div-add-mod' a v.agblocks

    second : b / v.agblocks * v.agblocks + b % v.agblocks ≡ b
    second = div-add-mod' b v.agblocks

    rest : a % v.agblocks < v.agblocks
    rest = mod-lt a (omega (arith, some))

    rests : b % v.agblocks < v.agblocks
    rests = mod-lt b (omega (arith, some))

    by_case : (a / v.agblocks < b / v.agblocks) ⊎ (b / v.agblocks ≤ a / v.agblocks)
        → a / v.agblocks * 2 ^ v.agblklog + a % v.agblocks < b / v.agblocks * 2 ^ v.agblklog + b % v.agblocks
    by_case (inl before) =
        let most : (a / v.agblocks + 1) * 2 ^ v.agblklog ≤ b / v.agblocks * 2 ^ v.agblklog = mul-le-mul_right (2 ^ v.agblklog) (omega (arith, before)) in
        let next : (a / v.agblocks + 1) * 2 ^ v.agblklog ≡ a / v.agblocks * 2 ^ v.agblklog + 2 ^ v.agblklog = omega arith in
        omega (arith, most, next, rest, enough)
    by_case (inr behind) =
        let most : b / v.agblocks * v.agblocks ≤ a / v.agblocks * v.agblocks = mul-le-mul_right v.agblocks behind in
        same (a / v.agblocks) (b / v.agblocks) behind (groups (a / v.agblocks) (b / v.agblocks) behind first second)
      where
        -- the blocks are of one group
        groups : (x y : ℕ) → y ≤ x → x * v.agblocks + a % v.agblocks ≡ a → y * v.agblocks + b % v.agblocks ≡ b → x ≡ y
        groups x y low one other = apart (cases_lt y x)
          where
            apart : (y < x) ⊎ (x ≤ y) → x ≡ y
            apart (inr up) = omega (arith, up, low)
            apart (inl below) =
                let most : (y + 1) * v.agblocks ≤ x * v.agblocks = mul-le-mul_right v.agblocks (omega (arith, below)) in
                let next : (y + 1) * v.agblocks ≡ y * v.agblocks + v.agblocks = omega arith in
                absurd (omega (arith, most, next, one, other, less, rests))

        rests_up : (x y : ℕ) → x ≡ y → a % v.agblocks < b % v.agblocks
        rests_up x y is =
            let one : a / v.agblocks ≡ b / v.agblocks = groups (a / v.agblocks) (b / v.agblocks) behind first second in
            let bases : a / v.agblocks * v.agblocks ≡ b / v.agblocks * v.agblocks = ap (λ (n : ℕ). n * v.agblocks) one in
            omega (arith, bases, first, second, less)

        same : (x y : ℕ) → y ≤ x → x ≡ y → x * 2 ^ v.agblklog + a % v.agblocks < y * 2 ^ v.agblklog + b % v.agblocks
        same x y low is =
            let powers : x * 2 ^ v.agblklog ≡ y * 2 ^ v.agblklog = ap (λ (n : ℕ). n * 2 ^ v.agblklog) is in
            let up : a % v.agblocks < b % v.agblocks = rests_up x y is in
            omega (arith, powers, up)

inode_up : (v : Volume) (a b i j : ℕ) → HasGroups v.dblocks v.agblocks v.agcount → HasAddresses v.agblocks v.agblklog → i < 8 → a < b → inode_of v a i < inode_of v b j
unfolding inode_of
inode_up v a b i j groups addresses few less =
    let up = address_up v a b (omega (arith, groups.large)) addresses.enough less in
    omega (arith, up, few)

slot_up : (v : Volume) (b i j : ℕ) → i < j → inode_of v b i < inode_of v b j
unfolding inode_of
slot_up v b i j up = omega (arith, up)

-- of two inodes of chunks the first has the lower number
pub inode_at_up : (v : Volume) (end least i j : ℕ) (starts : List ℕ) → HasGroups v.dblocks v.agblocks v.agcount → HasAddresses v.agblocks v.agblklog → Rise end least starts
    → i < j → j < 64 * length starts → inode_at v starts i < inode_at v starts j
inode_at_up v end least i j starts groups addresses rise less low = by_case (cases_lt (i / 64) (j / 64))
  where
    first : i / 64 * 64 + i % 64 ≡ i
    first = div-add-mod' i 64

    second : j / 64 * 64 + j % 64 ≡ j
    second = div-add-mod' j 64

    slot : i % 8 < 8
    slot = mod-lt i (omega arith)

    by_case : (i / 64 < j / 64) ⊎ (j / 64 ≤ i / 64) → inode_at v starts i < inode_at v starts j
    by_case (inl before) =
        let apart = rise_apart end least (i / 64) (j / 64) 0 starts rise before (chunk_inside j (length starts) low) in
        let few = block_few i in
        inode_up v (get_or starts (i / 64) 0 + i % 64 / 8) (get_or starts (j / 64) 0 + j % 64 / 8) (i % 8) (j % 8) groups addresses slot (omega (arith, apart, few))
    by_case (inr behind) = in_chunk (omega (arith, behind, less, first, second)) (cases_lt (i % 64 / 8) (j % 64 / 8))
      where
        in_chunk : i / 64 ≡ j / 64 → (i % 64 / 8 < j % 64 / 8) ⊎ (j % 64 / 8 ≤ i % 64 / 8) → inode_at v starts i < inode_at v starts j
        in_chunk same (inl up) =
            let there : get_or starts (i / 64) 0 ≡ get_or starts (j / 64) 0 = ap (λ (c : ℕ). get_or starts c 0) same in
            inode_up v (get_or starts (i / 64) 0 + i % 64 / 8) (get_or starts (j / 64) 0 + j % 64 / 8) (i % 8) (j % 8) groups addresses slot (omega (arith, there, up))
        in_chunk same (inr down) =
            let there : get_or starts (i / 64) 0 ≡ get_or starts (j / 64) 0 = ap (λ (c : ℕ). get_or starts c 0) same in
            let one_block : i % 64 / 8 ≡ j % 64 / 8 = omega (arith, same, first, second, less, down) in
            let blocks : get_or starts (i / 64) 0 + i % 64 / 8 ≡ get_or starts (j / 64) 0 + j % 64 / 8 = omega (arith, there, one_block) in
            subst (λ (b : ℕ). inode_of v b (i % 8) < inode_of v (get_or starts (j / 64) 0 + j % 64 / 8) (j % 8)) (sym blocks)
            (slot_up v (get_or starts (j / 64) 0 + j % 64 / 8) (i % 8) (j % 8) (omega (arith, same, first, second, less, one_block)))

-- two inodes with one number are one
pub inode_at_once : (v : Volume) (end least i j : ℕ) (starts : List ℕ) → HasGroups v.dblocks v.agblocks v.agcount → HasAddresses v.agblocks v.agblklog → Rise end least starts
    → i < 64 * length starts → j < 64 * length starts → i ≢ j → inode_at v starts i ≢ inode_at v starts j
inode_at_once v end least i j starts groups addresses rise low inside differ = by_case (cases_lt i j)
  where
    by_case : (i < j) ⊎ (j ≤ i) → inode_at v starts i ≢ inode_at v starts j
    by_case (inl less) same = let up = inode_at_up v end least i j starts groups addresses rise less inside in absurd (omega (arith, up, same))
    by_case (inr more) same =
        let up = inode_at_up v end least j i starts groups addresses rise (omega (arith, more, differ)) low in absurd (omega (arith, up, same))
