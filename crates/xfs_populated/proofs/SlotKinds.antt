-- The slots of files read as these are due, by their kinds.
use Rattle.std.proofs.Common.{◌≡◌, ℕ, Bool, true, false, not, ◌+◌, ◌-◌, ◌*◌, ◌/◌, ◌^◌, ◌≤◌, ◌<◌, ◌==◌, ◌&&◌, ◌||◌, nat_le, List, [], ◌∷◌, ◌++◌, length, map, take, drop, Option, Some, None, refl, sym, ap, ap₂, ◌∙◌, arith}
use Rattle.std.specs.Prelude.{if◌then◌else◌}
use Rattle.std.specs.List.{AllByRecursion, flat_map, range_with_len}
use Rattle.std.proofs.lemmas.Bool.{and_from, and_parts, le-leb}
use Rattle.std.proofs.lemmas.List.{drop-drop, drop-take, drop_at, take-take, take_at}
use Rattle.byteorder.specs.Endian.{big_number}
use Rattle.xfs_word.proofs.Digits.{big_number-big_bytes}
use Rattle.xfs_word.specs.Crc.{little_field_of}
use Rattle.xfs_word.specs.Extent.{packed}
use Rattle.xfs_word.specs.Field.{field_of, part_of}
use Rattle.xfs_word.specs.declared.extents.Extent.{Extent}
use Rattle.xfs_disk.specs.declared.stamp.Stamp.{Stamp}
use Rattle.xfs_geom.specs.Volumes.{Volume}
use Rattle.xfs_tree.specs.Blocks.{each_of}
use Rattle.xfs_tree.specs.Reading.{Contents}
use Rattle.xfs_kinds.specs.FileTreeLaws.{bmbt_kind}
use Rattle.xfs_kinds.specs.FileTrees.{extent_of, fits_extent, follows_offset, is_extent}
use Rattle.xfs_kinds.specs.Groups.{lies_in_one_group}
use Rattle.xfs_inode.specs.Files.{are_extents, has_forkoff, has_format, has_link_target, is_link, range_of, ranges_apart, target_in}
use Rattle.xfs_inode.specs.Forks.{fork_extent, link_place}
use Rattle.xfs_inodebuild.specs.declared.forks.ForkWanted.{ForkWanted}
use Rattle.xfs_volume.specs.declared.cores.Core.{Core}
use Rattle.xfs_proto.specs.declared.protofile.ProtoNode.{ProtoNode}
use Rattle.xfs_filled.specs.FileTrees.{node_at}
use Rattle.xfs_filled.specs.Forks.{device_bytes, device_fork, extent_fork, local_fork}
use Rattle.xfs_filled.specs.Numbers.{number_of}
use Rattle.xfs_filled.specs.Slots.{core_at}
use Rattle.xfs_filled.proofs.Shorts.{extents_long}
use Rattle.xfs_populated.specs.Populated.{with_fork}
use Rattle.xfs_populated.proofs.SlotUsed.{IsBareFile, held_extents}

-- extents of a file lie in the volume in file order, no two have a block in common, and they fit a fork
pub record AreFileExtents (v : Volume) (es : List Extent) : Type 0 where
  pub placed : are_extents v None es ≡ true
  pub apart : ranges_apart (map (range_of v) es) ≡ true
  pub few : length es ≤ 21

abbrev pub AllFit : List Extent → Type 0
AllFit es = AllByRecursion (λ (e : Extent). fits_extent e ≡ true) es

pub all_fit : (v : Volume) (before : Option Extent) (es : List Extent) → are_extents v before es ≡ true → AllFit es
all_fit v before [] are = tt
all_fit v before (e ∷ es) are =
    let both = and_parts (is_extent v e && follows_offset before e) (are_extents v (Some e) es) are in
    let first = and_parts (is_extent v e) (follows_offset before e) both.0 in
    let a = and_parts (fits_extent e && nat_le 1 e.count && nat_le (e.offset + e.count) (2 ^ 54 - 1)) (lies_in_one_group v e.start e.count) first.0 in
    let b = and_parts (fits_extent e && nat_le 1 e.count) (nat_le (e.offset + e.count) (2 ^ 54 - 1)) a.0 in
    ((and_parts (fits_extent e) (nat_le 1 e.count) b.0).0, all_fit v (Some e) es both.1)

-- extents are read back from the bytes of a fork
rows_back : (slot : List ℕ) (at k : ℕ) (es : List Extent) → AllFit es → take (16 * length es) (drop (at + 16 * k) slot) ≡ flat_map packed es
    → map (λ (i : ℕ). extent_of (take 16 (drop (at + 16 * i) slot))) (range_with_len k (length es)) ≡ es
rows_back slot at k [] fit is = refl
rows_back slot at k (e ∷ es) fit is =
    let rest : List ℕ = drop (at + 16 * k) slot in
    let n : ℕ = length es in
    let many : take (16 + 16 * n) rest ≡ packed e ++ flat_map packed es = ap (λ (m : ℕ). take m rest) (omega arith) ∙ is in
    let long : length (packed e) ≡ 16 = (bmbt_kind 0).record_len e fit.0 in
    let first : take 16 rest ≡ packed e =
    sym (take-take 16 (16 + 16 * n) rest (omega arith)) ∙ (ap (take 16) many ∙ take_at (packed e) (flat_map packed es) 16 long) in
    let behind : take (16 * n) (drop (at + 16 * (k + 1)) slot) ≡ flat_map packed es =
    ap (λ (m : ℕ). take (16 * n) (drop m slot)) (omega arith)
    ∙ (ap (take (16 * n)) (sym (drop-drop 16 (at + 16 * k) slot))
    ∙ (sym (drop-take 16 (16 * n) rest) ∙ (ap (drop 16) many ∙ drop_at (packed e) (flat_map packed es) 16 long))) in
    ap₂ (λ (x : Extent) (xs : List Extent). x ∷ xs) (ap extent_of first ∙ (bmbt_kind 0).record_again e fit.0) (rows_back slot at (k + 1) es fit.1 behind)

pub extents_back : (slot : List ℕ) (es : List Extent) → AllFit es → part_of slot 176 (length (flat_map packed es)) ≡ flat_map packed es → each_of (length es) (fork_extent slot) ≡ es
unfolding part_of
extents_back slot es fit is = rows_back slot 176 0 es fit (ap (λ (n : ℕ). take n (drop 176 slot)) (sym (extents_long es)) ∙ is)

-- the number of a device is read back
four : (xs : List ℕ) → big_number 4 (take 4 xs) ≡ big_number 4 xs
four [] = refl
four (a ∷ []) = refl
four (a ∷ b ∷ []) = refl
four (a ∷ b ∷ c ∷ []) = refl
four (a ∷ b ∷ c ∷ d ∷ xs) = refl

device_back : (slot : List ℕ) (major minor : ℕ) → major < 2 ^ 14 → minor < 2 ^ 18 → part_of slot 176 4 ≡ device_bytes major minor → field_of slot 176 4 ≡ major * 2 ^ 18 + minor
unfolding part_of field_of
device_back slot major minor first second is =
    sym (four (drop 176 slot)) ∙ ap (big_number 4) is ∙ big_number-big_bytes 4 (major * 2 ^ 18 + minor) (omega (arith, first, second))

module _ (v : Volume) (s : Stamp) (starts : List ℕ) (ns : List ProtoNode) (k : ℕ) (slot : List ℕ) (tree : Option (Contents Extent)) (link : Option (List ℕ)) where
  abbrev pub forked_core : ForkWanted → Core
  forked_core fork = with_fork (core_at v s starts ns k) fork (little_field_of slot 100 4)

  abbrev IsType : ℕ → Type 0
  IsType type = (node_at ns k).mode / 4096 ≡ type

  held_if : (es : List Extent) → AreFileExtents v es → part_of slot 176 (length (flat_map packed es)) ≡ flat_map packed es
      → (if nat_le (16 * length es) 336 then Some (held_extents (each_of (length es) (fork_extent slot))) else None) ≡ Some (held_extents es)
  held_if es extents put =
      let few = extents.few in
      ap (λ (t : Bool). if t then Some (held_extents (each_of (length es) (fork_extent slot))) else None) (le-leb (16 * length es) 336 (omega (arith, few)))
      ∙ ap (λ (xs : List Extent). Some (held_extents xs)) (extents_back slot es (all_fit v None es extents.placed) put)

  -- a regular file or a directory with extents
  module _ (size : ℕ) (es : List Extent) (small : size < 2 ^ 63) (extents : AreFileExtents v es) (put : part_of slot 176 (length (flat_map packed es)) ≡ flat_map packed es) where
    pub regular_file : IsType 8 → IsBareFile v (number_of v starts k) (forked_core (extent_fork size es)) slot tree link es [] 0
    regular_file type =
        record {
          forkoff' = refl;
          states = refl;
          forked = ap (λ (t : ℕ). has_forkoff t 0) type;
          format' = ap (λ (t : ℕ). has_format t 2) type;
          size' = small;
          local = refl;
          held = held_if es extents put;
          nblocks' = refl;
          placed = extents.placed;
          apart = extents.apart;
          link' = ap (λ (t : ℕ). not (t == 10 && 2 == 2) || is_link v (number_of v starts k) (forked_core (extent_fork size es)) slot (link_place v (forked_core (extent_fork size es)) slot) link) type;
          target' = ap (λ (t : ℕ). if t == 10 && 2 == 1 then part_of slot 176 size else if t == 10 && 2 == 2 then target_in (forked_core (extent_fork size es)) link else []) type;
          device' = ap (λ (t : ℕ). if t == 2 || t == 6 then field_of slot 176 4 else 0) type;
        }

    pub directory_file : IsType 4 → IsBareFile v (number_of v starts k) (forked_core (extent_fork size es)) slot tree link es [] 0
    directory_file type =
        record {
          forkoff' = refl;
          states = refl;
          forked = ap (λ (t : ℕ). has_forkoff t 0) type;
          format' = ap (λ (t : ℕ). has_format t 2) type;
          size' = small;
          local = refl;
          held = held_if es extents put;
          nblocks' = refl;
          placed = extents.placed;
          apart = extents.apart;
          link' = ap (λ (t : ℕ). not (t == 10 && 2 == 2) || is_link v (number_of v starts k) (forked_core (extent_fork size es)) slot (link_place v (forked_core (extent_fork size es)) slot) link) type;
          target' = ap (λ (t : ℕ). if t == 10 && 2 == 1 then part_of slot 176 size else if t == 10 && 2 == 2 then target_in (forked_core (extent_fork size es)) link else []) type;
          device' = ap (λ (t : ℕ). if t == 2 || t == 6 then field_of slot 176 4 else 0) type;
        }

    -- a symbolic link with a block
    pub long_link : (target : List ℕ) → IsType 10 → has_link_target v (number_of v starts k) (forked_core (extent_fork size es)) slot link ≡ true
        → target_in (forked_core (extent_fork size es)) link ≡ target → IsBareFile v (number_of v starts k) (forked_core (extent_fork size es)) slot tree link es target 0
    long_link target type holds is =
        record {
          forkoff' = refl;
          states = refl;
          forked = ap (λ (t : ℕ). has_forkoff t 0) type;
          format' = ap (λ (t : ℕ). has_format t 2) type;
          size' = small;
          local = refl;
          held = held_if es extents put;
          nblocks' = refl;
          placed = extents.placed;
          apart = extents.apart;
          link' = holds;
          target' = ap (λ (t : ℕ). if t == 10 && 2 == 1 then part_of slot 176 size else if t == 10 && 2 == 2 then target_in (forked_core (extent_fork size es)) link else []) type ∙ is;
          device' = ap (λ (t : ℕ). if t == 2 || t == 6 then field_of slot 176 4 else 0) type;
        }

  -- a directory in short form, and a target in the inode
  module _ (bytes : List ℕ) (few : length bytes ≤ 336) (put : part_of slot 176 (length bytes) ≡ bytes) where
    pub short_directory : IsType 4 → IsBareFile v (number_of v starts k) (forked_core (local_fork bytes)) slot tree link [] [] 0
    unfolding ranges_apart
    short_directory type =
        record {
          forkoff' = refl;
          states = refl;
          forked = ap (λ (t : ℕ). has_forkoff t 0) type;
          format' = ap (λ (t : ℕ). has_format t 1) type;
          size' = omega (arith, few);
          local =
              and_from (nat_le (length bytes) 336) (not ((node_at ns k).mode / 4096 == 10) || nat_le 1 (length bytes)) (le-leb (length bytes) 336 few)
              (ap (λ (t : ℕ). not (t == 10) || nat_le 1 (length bytes)) type);
          held = refl;
          nblocks' = refl;
          placed = refl;
          apart = refl;
          link' = ap (λ (t : ℕ). not (t == 10 && 1 == 2) || is_link v (number_of v starts k) (forked_core (local_fork bytes)) slot (link_place v (forked_core (local_fork bytes)) slot) link) type;
          target' = ap (λ (t : ℕ). if t == 10 && 1 == 1 then part_of slot 176 (length bytes) else if t == 10 && 1 == 2 then target_in (forked_core (local_fork bytes)) link else []) type;
          device' = ap (λ (t : ℕ). if t == 2 || t == 6 then field_of slot 176 4 else 0) type;
        }

    pub short_link : IsType 10 → 1 ≤ length bytes → IsBareFile v (number_of v starts k) (forked_core (local_fork bytes)) slot tree link [] bytes 0
    unfolding ranges_apart
    short_link type some =
        record {
          forkoff' = refl;
          states = refl;
          forked = ap (λ (t : ℕ). has_forkoff t 0) type;
          format' = ap (λ (t : ℕ). has_format t 1) type;
          size' = omega (arith, few);
          local =
              and_from (nat_le (length bytes) 336) (not ((node_at ns k).mode / 4096 == 10) || nat_le 1 (length bytes)) (le-leb (length bytes) 336 few)
              (ap (λ (t : ℕ). not (t == 10) || nat_le 1 (length bytes)) type ∙ le-leb 1 (length bytes) some);
          held = refl;
          nblocks' = refl;
          placed = refl;
          apart = refl;
          link' = ap (λ (t : ℕ). not (t == 10 && 1 == 2) || is_link v (number_of v starts k) (forked_core (local_fork bytes)) slot (link_place v (forked_core (local_fork bytes)) slot) link) type;
          target' = ap (λ (t : ℕ). if t == 10 && 1 == 1 then part_of slot 176 (length bytes) else if t == 10 && 1 == 2 then target_in (forked_core (local_fork bytes)) link else []) type ∙ put;
          device' = ap (λ (t : ℕ). if t == 2 || t == 6 then field_of slot 176 4 else 0) type;
        }

  -- a file without content: a device, by its number, or a pipe
  plain_file : (bytes : List ℕ) (type device : ℕ) → IsType type → has_forkoff type 0 ≡ true → has_format type 0 ≡ true → (type == 10) ≡ false
      → (if type == 2 || type == 6 then field_of slot 176 4 else 0) ≡ device → IsBareFile v (number_of v starts k) (forked_core (device_fork bytes)) slot tree link [] [] device
  unfolding ranges_apart
  plain_file bytes type device is off format other number =
      record {
        forkoff' = refl;
        states = refl;
        forked = ap (λ (t : ℕ). has_forkoff t 0) is ∙ off;
        format' = ap (λ (t : ℕ). has_format t 0) is ∙ format;
        size' = omega arith;
        local = refl;
        held = refl;
        nblocks' = refl;
        placed = refl;
        apart = refl;
        link' =
            ap (λ (t : ℕ). not (t == 10 && 0 == 2) || is_link v (number_of v starts k) (forked_core (device_fork bytes)) slot (link_place v (forked_core (device_fork bytes)) slot) link) is
            ∙ ap (λ (t : Bool). not (t && 0 == 2) || is_link v (number_of v starts k) (forked_core (device_fork bytes)) slot (link_place v (forked_core (device_fork bytes)) slot) link) other;
        target' =
            ap (λ (t : ℕ). if t == 10 && 0 == 1 then part_of slot 176 0 else if t == 10 && 0 == 2 then target_in (forked_core (device_fork bytes)) link else []) is
            ∙ ap (λ (t : Bool). if t && 0 == 1 then part_of slot 176 0 else if t && 0 == 2 then target_in (forked_core (device_fork bytes)) link else []) other;
        device' = ap (λ (t : ℕ). if t == 2 || t == 6 then field_of slot 176 4 else 0) is ∙ number;
      }

  pub pipe_file : IsType 1 → IsBareFile v (number_of v starts k) (forked_core (device_fork [])) slot tree link [] [] 0
  pipe_file type = plain_file [] 1 0 type refl refl refl refl

  module _ (major minor : ℕ) (first : major < 2 ^ 14) (second : minor < 2 ^ 18) (put : part_of slot 176 4 ≡ device_bytes major minor) where
    pub block_file : IsType 6 → IsBareFile v (number_of v starts k) (forked_core (device_fork (device_bytes major minor))) slot tree link [] [] (major * 2 ^ 18 + minor)
    block_file type = plain_file (device_bytes major minor) 6 (major * 2 ^ 18 + minor) type refl refl refl (device_back slot major minor first second put)

    pub character_file : IsType 2 → IsBareFile v (number_of v starts k) (forked_core (device_fork (device_bytes major minor))) slot tree link [] [] (major * 2 ^ 18 + minor)
    character_file type = plain_file (device_bytes major minor) 2 (major * 2 ^ 18 + minor) type refl refl refl (device_back slot major minor first second put)
