-- The log and the log sequence numbers are the same where the bytes are that they are read from.
use Rattle.std.proofs.Common.{◌≡◌, ℕ, Bool, true, false, ◌*◌, if◌then◌else◌, List, [], ◌∷◌, ◌++◌, map, refl, ap, ap₂}
use Rattle.std.specs.List.{All, AllByRecursion, flat_map, range_with_len}
use Rattle.std.proofs.lemmas.List.Elements.{recursion_from_All}
use Rattle.xfs_disk.specs.Blocks.{Image, bytes_of_block}
use Rattle.xfs_word.specs.Field.{part_of}
use Rattle.xfs_geom.specs.Volumes.{Volume}
use Rattle.xfs_log.specs.Log.{seen_of, state_of}
use Rattle.xfs_tree.specs.Blocks.{each_of}
use Rattle.xfs_volume.specs.declared.files.FileRec.{FileRec}
use Rattle.xfs_volume.specs.declared.groups.GroupRec.{GroupRec}
use Rattle.xfs_image.specs.Lsns.{LsnPlace, lsn_places_in_order, is_place_upto, lsn_at, lsn_places, lsns_read, with_place}
use Rattle.xfs_log.specs.Sectors.{sector_in}
use Rattle.xfs_image.specs.View.{log_of}
use Rattle.xfs_views.specs.Same.{HoldSameBytes}
use Rattle.xfs_views.proofs.TreesStay.{Each}

pub map_stays : {A B : Type 0} (f g : A → B) (xs : List A) → AllByRecursion (λ x. f x ≡ g x) xs → map f xs ≡ map g xs
map_stays f g [] same = refl
map_stays {B = B} f g (x ∷ xs) same = ap₂ (λ (y : B) (ys : List B). y ∷ ys) same.0 (map_stays f g xs same.1)

-- the sectors of some blocks
sectors_stay : (image now : Image) (blocks : List ℕ) → Each image now blocks
    → flat_map (λ block. each_of 8 (sector_in now block)) blocks ≡ flat_map (λ block. each_of 8 (sector_in image block)) blocks
sectors_stay image now [] same = refl
sectors_stay image now (block ∷ blocks) same =
    ap₂ (λ (bytes : List ℕ) (rest : List (List ℕ)). each_of 8 (λ sector. part_of bytes (512 * sector) 512) ++ rest) same.0 (sectors_stay image now blocks same.1)

pub log_kept : (v : Volume) (image now : Image) → Each image now (range_with_len v.log v.logblocks) → log_of v now ≡ log_of v image
unfolding log_of
log_kept v image now same = ap (λ (sectors : List (List ℕ)). state_of (map seen_of sectors)) (sectors_stay image now (range_with_len v.log v.logblocks) same)

pub log_stays : (v : Volume) (image now : Image) → HoldSameBytes image now (range_with_len v.log v.logblocks) → log_of v now ≡ log_of v image
log_stays v image now same = log_kept v image now (recursion_from_All (λ (block : ℕ). bytes_of_block now block ≡ bytes_of_block image block) (range_with_len v.log v.logblocks) same)

-- what holds of some places holds of them in order
placed_all : (P : LsnPlace → Type 0) (p : LsnPlace) (qs : List LsnPlace) → P p → AllByRecursion P qs → AllByRecursion P (with_place p qs)
placed_all P p [] here all = (here, tt)
placed_all P p (q ∷ qs) here all = by_case (is_place_upto p q) (placed_all P p qs here all.1)
  where
    by_case : (t : Bool) → AllByRecursion P (with_place p qs) → AllByRecursion P (if t then p ∷ q ∷ qs else (q ∷ with_place p qs))
    by_case true rest = (here, all)
    by_case false rest = (all.0, rest)

ordered_all : (P : LsnPlace → Type 0) (ps : List LsnPlace) → AllByRecursion P ps → AllByRecursion P (lsn_places_in_order ps)
ordered_all P [] all = all
ordered_all P (p ∷ ps) all = placed_all P p (lsn_places_in_order ps) all.0 (ordered_all P ps all.1)

pub lsns_kept : (v : Volume) (image now : Image) (groups : List GroupRec) (files : List FileRec) → AllByRecursion (λ p. lsn_at now p ≡ lsn_at image p) (lsn_places v groups files)
    → lsns_read v now groups files ≡ lsns_read v image groups files
unfolding lsns_read
lsns_kept v image now groups files same =
    map_stays (lsn_at now) (lsn_at image) (lsn_places_in_order (lsn_places v groups files)) (ordered_all (λ p. lsn_at now p ≡ lsn_at image p) (lsn_places v groups files) same)

pub lsns_stay : (v : Volume) (image now : Image) (groups : List GroupRec) (files : List FileRec) → All (λ p. lsn_at now p ≡ lsn_at image p) (lsn_places v groups files)
    → lsns_read v now groups files ≡ lsns_read v image groups files
lsns_stay v image now groups files same =
    lsns_kept v image now groups files (recursion_from_All (λ (p : LsnPlace). lsn_at now p ≡ lsn_at image p) (lsn_places v groups files) same)
