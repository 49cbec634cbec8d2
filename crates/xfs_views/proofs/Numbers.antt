-- The files of a view stand by number.
use Rattle.std.proofs.Common.{◌≡◌, inl, inr, ℕ, zero, suc, ◌+◌, ◌-◌, ◌*◌, ◌/◌, ◌%◌, ◌^◌, ◌≤◌, ◌<◌, Bool, true, false, ◌==◌, ◌&&◌, nat_le, nat_lt, if◌then◌else◌, List, [], ◌∷◌, ◌++◌, map, length, Option, Some, None, refl, sym, ap, subst, arith}
use Rattle.std.proofs.Math.Nat.{mod-lt, mul-le-mul_right}
use Rattle.std.proofs.lemmas.Bool.{and_parts, cases_lt, eqb-true, leb-true, ltb-true}
use Rattle.std.proofs.lemmas.List.{append_assoc}
use Rattle.std.proofs.lemmas.Nat.{div-add-mod'}
use Rattle.std.specs.List.{flat_map, range_with_len}
use Rattle.xfs_disk.specs.Blocks.{Image}
use Rattle.xfs_geom.specs.Conversions.{address_of, group_length, inode_of}
use Rattle.xfs_geom.specs.Volumes.{Volume, volume_of}
use Rattle.xfs_geom.specs.declared.geometry.Geometry.{Geometry}
use Rattle.xfs_geom.specs.declared.records.InoRec.{InoRec}
use Rattle.xfs_tree.specs.Rules.{are_lawful}
use Rattle.xfs_kinds.specs.Groups.{lies_in_group}
use Rattle.xfs_kinds.specs.InodeTrees.{ascends_inode, fits_chunk, has_count, ino_shape, is_chunk, is_chunk_clear, is_first_inode, is_missing}
use Rattle.xfs_volume.specs.declared.files.FileRec.{FileRec}
use Rattle.xfs_volume.specs.declared.groups.GroupRec.{GroupRec}
use Rattle.xfs_laws.specs.xfs_space.Parts.{AreGroups}
use Rattle.xfs_laws.specs.xfs_naming.Naming.{NumbersAscend, numbers_of}
use Rattle.xfs_image.specs.Clusters.{clusters_in}
use Rattle.xfs_image.specs.Files.{AreFilesRead, clusters_from, clusters_of, inodes_of}
use Rattle.xfs_image.specs.Groups.{head_block}
use Rattle.xfs_image.specs.Slots.{cluster_inodes, inodes_of_block}
use Rattle.xfs_views.proofs.Files.{file_sound}

-- numbers that ascend from a number on ascend from a lower one on
from_lower : (low high : ℕ) (xs : List ℕ) → low ≤ high → NumbersAscend high xs → NumbersAscend low xs
from_lower low high [] le up = tt
from_lower low high (x ∷ xs) le up = (let first = up.0 in omega (arith, le, first), up.1)

-- the numbers of the files among some inodes that ascend do
files_ascend : (v : Volume) (image : Image) (low : ℕ) (inos : List ℕ) (files : List FileRec) → AreFilesRead v image inos files → NumbersAscend low inos
    → NumbersAscend low (numbers_of files)
files_ascend v image low [] files read up = subst (λ (fs : List FileRec). NumbersAscend low (numbers_of fs)) (sym read) tt
files_ascend v image low (ino ∷ inos) files read up =
    elim read [
      | inl free ↦ let first = up.0 in from_lower low (ino + 1) (numbers_of files) (omega (arith, first)) (files_ascend v image (ino + 1) inos files free.1 up.1)
      | inr used ↦
          let number : used.0.ino ≡ ino = (file_sound v image ino used.0 used.2).keeps.number in
          let rest : NumbersAscend (ino + 1) (numbers_of used.1) = files_ascend v image (ino + 1) inos used.1 used.4 up.1 in
          subst (λ (fs : List FileRec). NumbersAscend low (numbers_of fs)) (sym used.3)
          (subst (λ (n : ℕ). (low ≤ n) × NumbersAscend (n + 1) (numbers_of used.1)) (sym number) (up.0, rest))
    ]

-- addresses ascend with the blocks
address_up : (b c w k : ℕ) → 1 ≤ w → w ≤ k → b < c → b / w * k + b % w + 1 ≤ c / w * k + c % w
address_up b c w k some wide less =
    let whole : b / w * w + b % w ≡ b = div-add-mod' b w in
    let other : c / w * w + c % w ≡ c = div-add-mod' c w in
    let short : b % w < w = mod-lt b some in
    let rest : c % w < w = mod-lt c some in
    elim (cases_lt (b / w) (c / w)) [
      | inl above ↦
          let next : b / w + 1 ≤ c / w = omega (arith, above) in
          let groups : (b / w + 1) * k ≤ c / w * k = mul-le-mul_right k next in
          let one : (b / w + 1) * k ≡ b / w * k + k = omega arith in
          omega (arith, groups, one, wide, short)
      | inr upto ↦ same_group (b / w) (c / w) (b % w) (c % w) w k b c whole other short rest wide less upto
    ]
  where
    same_group : (p q r t w k b c : ℕ) → p * w + r ≡ b → q * w + t ≡ c → r < w → t < w → w ≤ k → b < c → q ≤ p → p * k + r + 1 ≤ q * k + t
    same_group p q r t w k b c whole other short rest wide less upto =
        elim (cases_lt q p) [
          | inl below ↦
              let next : q + 1 ≤ p = omega (arith, below) in
              let groups : (q + 1) * w ≤ p * w = mul-le-mul_right w next in
              let one : (q + 1) * w ≡ q * w + w = omega arith in
              absurd (omega (arith, groups, one, whole, other, rest, less))
          | inr above ↦
              let same : q ≡ p = omega (arith, upto, above) in
              subst (λ (n : ℕ). p * k + r + 1 ≤ n * k + t) (sym same)
              (let at : p * w + t ≡ c = subst (λ (n : ℕ). n * w + t ≡ c) same other in omega (arith, whole, at, less))
        ]

-- a volume whose blocks have addresses
record IsAddressed (v : Volume) : Type 0 where
  pub some : 1 ≤ v.agblocks
  pub wide : v.agblocks ≤ 2 ^ v.agblklog

-- the first inode of a block
first_in : Volume → ℕ → ℕ
first_in v block = address_of v block * 8

next_block : (v : Volume) (b c : ℕ) → IsAddressed v → b < c → first_in v b + 8 ≤ first_in v c
unfolding first_in address_of
next_block v b c is less =
    let up = address_up b c v.agblocks (2 ^ v.agblklog) is.some is.wide less in
    omega (arith, up)

later_block : (v : Volume) (b c : ℕ) → IsAddressed v → b ≤ c → first_in v b ≤ first_in v c
later_block v b c is le =
    elim (cases_lt b c) [
      | inl less ↦ let up = next_block v b c is less in omega (arith, up)
      | inr same ↦ let e : b ≡ c = omega (arith, le, same) in let f : first_in v b ≡ first_in v c = ap (first_in v) e in omega (arith, f)
    ]

-- the inodes of a block, and those behind them
slots_then : (v : Volume) (b k n low high : ℕ) (ys : List ℕ) → low ≤ first_in v b + k → first_in v b + (k + n) ≤ high → NumbersAscend high ys
    → NumbersAscend low (map (inode_of v b) (range_with_len k n) ++ ys)
unfolding first_in inode_of
slots_then v b k zero low high ys from upto up = from_lower low high ys (omega (arith, from, upto)) up
slots_then v b k (suc n) low high ys from upto up =
    (from, slots_then v b (k + 1) n (address_of v b * 8 + k + 1) high ys (omega arith) (omega (arith, upto)) up)

-- the inodes of blocks in a row, and those behind them
blocks_then : (v : Volume) (b n low : ℕ) (ys : List ℕ) → IsAddressed v → low ≤ first_in v b → NumbersAscend (first_in v (b + n)) ys
    → NumbersAscend low (flat_map (inodes_of_block v) (range_with_len b n) ++ ys)
blocks_then v b zero low ys is from up =
    let le = later_block v b (b + 0) is (omega arith) in from_lower low (first_in v (b + 0)) ys (omega (arith, from, le)) up
blocks_then v b (suc n) low ys is from up =
    let next = next_block v b (b + 1) is (omega arith) in
    let end : b + suc n ≡ (b + 1) + n = omega arith in
    let rest = blocks_then v (b + 1) n (first_in v (b + 1)) ys is (omega arith) (subst (λ (m : ℕ). NumbersAscend (first_in v m) ys) end up) in
    subst (NumbersAscend low) (sym (append_assoc (inodes_of_block v b) (flat_map (inodes_of_block v) (range_with_len (b + 1) n)) ys))
    (slots_then v b 0 8 low (first_in v (b + 1)) (flat_map (inodes_of_block v) (range_with_len (b + 1) n) ++ ys) (omega (arith, from)) (omega (arith, next)) rest)

-- clusters ascend, and no two have a block in common
abbrev pub Rise : ℕ → List ℕ → Type 0
Rise low [] = Unit {0}
Rise low (x ∷ xs) = (low ≤ x) × Rise (x + 4) xs

lower_rise : (low high : ℕ) (xs : List ℕ) → low ≤ high → Rise high xs → Rise low xs
lower_rise low high [] le rise = tt
lower_rise low high (x ∷ xs) le rise = (let first = rise.0 in omega (arith, le, first), rise.1)

inodes_ascend : (v : Volume) (low : ℕ) (clusters : List ℕ) → IsAddressed v → Rise low clusters → NumbersAscend (first_in v low) (flat_map (cluster_inodes v) clusters)
unfolding cluster_inodes
inodes_ascend v low [] is rise = tt
inodes_ascend v low (x ∷ xs) is rise =
    blocks_then v x 4 (first_in v low) (flat_map (cluster_inodes v) xs) is (later_block v low x is rise.0) (inodes_ascend v (x + 4) xs is rise.1)

-- what the place of a lawful chunk keeps
pub record IsPlaced (v : Volume) (ag : ℕ) (before : Option InoRec) (r : InoRec) : Type 0 where
  pub aligned : r.startino % 64 ≡ 0
  pub inside : r.startino / 8 + 8 ≤ group_length v ag
  pub ascends : ascends_inode before r ≡ true

pub chunk_placed : (v : Volume) (ag : ℕ) (before : Option InoRec) (r : InoRec) → (is_chunk v ag r && ascends_inode before r) ≡ true → IsPlaced v ag before r
chunk_placed v ag before r lawful =
    let fits = fits_chunk r in
    let count = has_count r.holemask r.count in
    let first = is_first_inode r.startino in
    let lies = lies_in_group v ag (r.startino / 8) 8 in
    let a = and_parts (is_chunk v ag r) (ascends_inode before r) lawful in
    let b = and_parts (fits && count && first && lies) (is_chunk_clear v ag r) a.0 in
    let c = and_parts (fits && count && first) lies b.0 in
    let d = and_parts (fits && count) first c.0 in
    let e = and_parts (r.startino % 64 == 0) (nat_le 64 r.startino) d.1 in
    let f = and_parts (nat_lt ag v.agcount) (nat_le (r.startino / 8 + 8) (group_length v ag)) c.1 in
    record { aligned = eqb-true (r.startino % 64) 0 e.0; inside = leb-true (r.startino / 8 + 8) (group_length v ag) f.1; ascends = a.1 }

-- the first inode that a chunk behind another can have
abbrev floor : Option InoRec → ℕ
floor None = 0
floor (Some before) = before.startino + 64

abbrev IsAligned : Option InoRec → Type 0
IsAligned None = Unit {0}
IsAligned (Some before) = before.startino % 64 ≡ 0

above_floor : (v : Volume) (ag : ℕ) (before : Option InoRec) (r : InoRec) → IsAligned before → IsPlaced v ag before r → floor before ≤ r.startino
above_floor v ag None r whole is = omega arith
above_floor v ag (Some before) r whole is =
    let less = ltb-true before.startino r.startino is.ascends in
    let aligned = is.aligned in
    omega (arith, less, whole, aligned)

-- the two halves of a chunk, and what stands behind it
halves_then : (a low : ℕ) (first second : Bool) (rest : List ℕ) → low ≤ a → Rise (a + 8) rest
    → Rise low (((if first then [] else (a ∷ [])) ++ (if second then [] else ((a + 4) ∷ []))) ++ rest)
halves_then a low true true rest le rise = lower_rise low (a + 8) rest (omega (arith, le)) rise
halves_then a low true false rest le rise = (omega (arith, le), lower_rise (a + 4 + 4) (a + 8) rest (omega arith) rise)
halves_then a low false true rest le rise = (le, lower_rise (a + 4) (a + 8) rest (omega arith) rise)
halves_then a low false false rest le rise = (le, (omega arith, lower_rise (a + 4 + 4) (a + 8) rest (omega arith) rise))

-- the clusters of a group's chunks, and those behind them
chunks_then : (v : Volume) (ag base low high : ℕ) (before : Option InoRec) (rs : List InoRec) (ys : List ℕ) → IsAligned before
    → are_lawful (ino_shape ag) v before rs ≡ true → low ≤ base + floor before / 8 → low ≤ high → base + group_length v ag ≤ high → Rise high ys
    → Rise low (flat_map (clusters_in base) rs ++ ys)
chunks_then v ag base low high before [] ys whole lawful from le upto rise = lower_rise low high ys le rise
chunks_then v ag base low high before (r ∷ rs) ys whole lawful from le upto rise =
    let parts = and_parts (is_chunk v ag r && ascends_inode before r) (are_lawful (ino_shape ag) v (Some r) rs) lawful in
    let is = chunk_placed v ag before r parts.0 in
    let above = above_floor v ag before r whole is in
    let inside = is.inside in
    let rest = chunks_then v ag base (base + r.startino / 8 + 8) high (Some r) rs ys is.aligned parts.1 (omega arith) (omega (arith, inside, upto)) upto rise in
    subst (Rise low) (sym (append_assoc (clusters_in base r) (flat_map (clusters_in base) rs) ys))
    (halves_then (base + r.startino / 8) low (is_missing r.holemask 0) (is_missing r.holemask 32) (flat_map (clusters_in base) rs ++ ys) (omega (arith, above, from)) rest)

groups_rise : (v : Volume) (ag : ℕ) (gs : List GroupRec) → ((group : ℕ) → group < ag + length gs → group_length v group ≤ v.agblocks) → AreGroups v ag gs
    → Rise (ag * v.agblocks) (clusters_from v ag gs)
groups_rise v ag [] short are = tt
groups_rise v ag (g ∷ gs) short are =
    let length : group_length v ag ≤ v.agblocks = short ag (omega arith) in
    chunks_then v ag (head_block v ag) (ag * v.agblocks) ((ag + 1) * v.agblocks) None g.ino (clusters_from v (ag + 1) gs) tt are.0.ino (omega arith) (omega arith)
    (omega (arith, length)) (groups_rise v (ag + 1) gs (λ group inside. short group (omega (arith, inside))) are.1)

short_group : (g : Geometry) (ag : ℕ) → ag < g.agcount → group_length (volume_of g) ag ≤ g.agblocks
short_group g ag inside = by_case (ag + 1 == g.agcount) refl
  where
    by_case : (b : Bool) → (ag + 1 == g.agcount) ≡ b → (if b then g.dblocks - ag * g.agblocks else g.agblocks) ≤ g.agblocks
    by_case true e =
        let last : ag + 1 ≡ g.agcount = eqb-true (ag + 1) g.agcount e in
        let full : g.dblocks ≤ (ag + 1) * g.agblocks = subst (λ (n : ℕ). g.dblocks ≤ n * g.agblocks) (sym last) g.shape.groups.covered in
        grind (arith, full)
    by_case false e = omega arith

addressed : (g : Geometry) → IsAddressed (volume_of g)
addressed g = record { some = let large = g.shape.groups.large in omega (arith, large); wide = g.shape.addresses.enough }

-- the inodes of all chunks ascend
pub slots_ascend : (g : Geometry) (groups : List GroupRec) → length groups ≡ g.agcount → AreGroups (volume_of g) 0 groups → NumbersAscend 0 (inodes_of (volume_of g) groups)
unfolding inodes_of clusters_of
slots_ascend g groups many are =
    let v : Volume = volume_of g in
    let rise : Rise (0 * g.agblocks) (clusters_from v 0 groups) = groups_rise v 0 groups (λ group inside. short_group g group (omega (arith, many, inside))) are in
    from_lower 0 (first_in v (0 * g.agblocks)) (flat_map (cluster_inodes v) (clusters_from v 0 groups)) (omega arith)
    (inodes_ascend v (0 * g.agblocks) (clusters_from v 0 groups) (addressed g) rise)

pub numbers_ascend : (g : Geometry) (image : Image) (groups : List GroupRec) (files : List FileRec) → length groups ≡ g.agcount → AreGroups (volume_of g) 0 groups
    → AreFilesRead (volume_of g) image (inodes_of (volume_of g) groups) files → NumbersAscend 0 (numbers_of files)
numbers_ascend g image groups files many are read =
    files_ascend (volume_of g) image 0 (inodes_of (volume_of g) groups) files read (slots_ascend g groups many are)
