-- Blocks that are kept ascend in the file, and are whole.
use Rattle.std.proofs.Common.{◌≡◌, ℕ, zero, suc, ◌+◌, ◌<◌, ◌≤◌, List, [], ◌∷◌, ◌++◌, map, length, get_or, Option, Some, None, refl, ap, ◌∙◌, arith}
use Rattle.std.proofs.lemmas.Bool.{and_parts, leb-true}
use Rattle.std.proofs.Common.{true, ◌&&◌}
use Rattle.xfs_word.specs.declared.extents.Extent.{Extent}
use Rattle.xfs_geom.specs.Volumes.{Volume}
use Rattle.xfs_kinds.specs.FileTrees.{follows_offset, is_extent}
use Rattle.xfs_inode.specs.Files.{are_extents}
use Rattle.xfs_dirindex.specs.Mapped.{OffsetsAscend, Mapped, mapped}
use Rattle.xfs_dirs.specs.declared.gathered.KeptBlocks.{KeptBlocks}
use Rattle.xfs_dirs.specs.declared.gathered.KeptBlock.{KeptBlock}
use Rattle.xfs_dirs.specs.Gathered.{AreBelow, BlocksInOrder, AscendWhole, OffsetsRise, mapped_of}

-- one more behind their end
pub rise_more : (least end : ℕ) (ks : List KeptBlock) (k : KeptBlock) → end ≤ k.offset → length k.bytes ≡ 4096 → OffsetsRise least ks end → OffsetsRise least (ks ++ k ∷ []) (k.offset + 1)
rise_more least end [] k behind whole rise = (omega (arith, behind, rise), whole, omega arith)
rise_more least end (x ∷ ks) k behind whole rise = (rise.0, rise.1, rise_more (x.offset + 1) end ks k behind whole rise.2)

-- the end may lie further behind
rise_later : (least a b : ℕ) (ks : List KeptBlock) → a ≤ b → OffsetsRise least ks a → OffsetsRise least ks b
rise_later least a b [] later rise = omega (arith, later, rise)
rise_later least a b (x ∷ ks) later rise = (rise.0, rise.1, rise_later (x.offset + 1) a b ks later rise.2)

pub below_later : (kept : Option KeptBlocks) (a b : ℕ) → a ≤ b → AreBelow kept a → AreBelow kept b
below_later None a b later below = tt
below_later (Some k) a b later below = rise_later 0 a b k.blocks.items later below

rise_ordered : (least end : ℕ) (ks : List KeptBlock) → OffsetsRise least ks end → AscendWhole least ks
rise_ordered least end [] rise = tt
rise_ordered least end (x ∷ ks) rise = (rise.0, rise.1, rise_ordered (x.offset + 1) end ks rise.2)

pub below_ordered : (kept : Option KeptBlocks) (end : ℕ) → AreBelow kept end → BlocksInOrder kept
below_ordered None end below = tt
below_ordered (Some k) end below = rise_ordered 0 end k.blocks.items below

-- their file blocks ascend, and each has all its bytes
pub offsets_ascend : (least : ℕ) (ks : List KeptBlock) → AscendWhole least ks → OffsetsAscend least (map (λ (k : KeptBlock). k.offset) ks)
offsets_ascend least [] order = tt
offsets_ascend least (x ∷ ks) order = (order.0, offsets_ascend (x.offset + 1) ks order.2)

pub whole_at : (least i : ℕ) (ks : List KeptBlock) (k : KeptBlock) → i < length ks → AscendWhole least ks → length (get_or ks i k).bytes ≡ 4096
whole_at least i [] k inside order = absurd (omega (arith, inside))
whole_at least zero (x ∷ ks) k inside order = order.1
whole_at least (suc i) (x ∷ ks) k inside order = whole_at (x.offset + 1) i ks k (omega (arith, inside)) order.2

-- their numbers and their bytes are the blocks
pub all_mapped : (ks : List KeptBlock) → mapped (map (λ (k : KeptBlock). k.offset) ks) (map (λ (k : KeptBlock). k.bytes) ks) ≡ map mapped_of ks
all_mapped [] = refl
all_mapped (k ∷ ks) = ap (λ (ms : List Mapped). mapped_of k ∷ ms) (all_mapped ks)

-- blocks that were kept stand in front of the extents that are left
abbrev pub AreBefore : Option KeptBlocks → List Extent → Type 0
AreBefore kept [] = BlocksInOrder kept
AreBefore kept (e ∷ es) = AreBelow kept e.offset

pub before_all : (kept : Option KeptBlocks) (es : List Extent) → AreBelow kept 0 → AreBefore kept es
before_all kept [] below = below_ordered kept 0 below
before_all kept (e ∷ es) below = below_later kept 0 e.offset (omega arith) below

pub before_next : (v : Volume) (kept : Option KeptBlocks) (e : Extent) (es : List Extent) → are_extents v None (e ∷ es) ≡ true
    → AreBelow kept (e.offset + e.count) → AreBefore kept es
before_next v kept e [] lawful below = below_ordered kept (e.offset + e.count) below
before_next v kept e (f ∷ es) lawful below =
    let rest = and_parts (is_extent v e && true) (are_extents v (Some e) (f ∷ es)) lawful in
    let first = and_parts (is_extent v f && follows_offset (Some e) f) (are_extents v (Some f) es) rest.1 in
    let behind = and_parts (is_extent v f) (follows_offset (Some e) f) first.0 in
    below_later kept (e.offset + e.count) f.offset (leb-true (e.offset + e.count) f.offset behind.1) below

-- the first of extents is one, and those behind it are lawful by themselves
pub extent_first : (v : Volume) (e : Extent) (es : List Extent) → are_extents v None (e ∷ es) ≡ true → is_extent v e ≡ true
extent_first v e es lawful = (and_parts (is_extent v e) true (and_parts (is_extent v e && true) (are_extents v (Some e) es) lawful).0).0

pub extents_rest : (v : Volume) (e : Extent) (es : List Extent) → are_extents v None (e ∷ es) ≡ true → are_extents v None es ≡ true
extents_rest v e [] lawful = refl
extents_rest v e (f ∷ es) lawful =
    let rest = and_parts (is_extent v e && true) (are_extents v (Some e) (f ∷ es)) lawful in
    let first = and_parts (is_extent v f && follows_offset (Some e) f) (are_extents v (Some f) es) rest.1 in
    let one = and_parts (is_extent v f) (follows_offset (Some e) f) first.0 in
    ap (λ b. b && true && are_extents v (Some f) es) one.0 ∙ first.1
