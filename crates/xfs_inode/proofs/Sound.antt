-- Every file that reads keeps what is told of files.
use Rattle.std.proofs.Common.{◌≡◌, ℕ, ◌+◌, ◌-◌, Bool, true, false, ◌==◌, ◌&&◌, ◌||◌, nat_le, if◌then◌else◌, List, [], ◌∷◌, ◌++◌, map, length, Option, Some, None, Result, Ok, Err, IfOk, refl, sym, ap, ◌∙◌, subst, arith}
use Rattle.std.specs.List.{list_all}
use Rattle.std.proofs.lemmas.Bool.{and_parts, and_from, eqb-true}
use Rattle.std.proofs.lemmas.Bool.Decides.{nat_tests}
use Rattle.xfs_word.specs.declared.extents.Extent.{Extent}
use Rattle.xfs_geom.specs.Conversions.{block_at}
use Rattle.xfs_geom.specs.Groups.{block_of_address}
use Rattle.xfs_geom.specs.Volumes.{Volume}
use Rattle.xfs_tree.specs.Reading.{Contents}
use Rattle.xfs_word.specs.Field.{part_of}
use Rattle.xfs_attr.specs.Leaf.{leaf_of}
use Rattle.xfs_attr.specs.ShortForm.{short_attributes}
use Rattle.xfs_attr.specs.declared.attributes.Attr.{Attr}
use Rattle.xfs_attr.specs.declared.attributes.AttrFault.{AttrFault}
use Rattle.xfs_volume.specs.declared.cores.Core.{Core}
use Rattle.xfs_inode.specs.Files.{AttrFork, ranges_apart, are_blocks, are_extents, attr_fork, extent_blocks, by_slot, data_fork, feature_of, file_record, file_read, fork_with, has_leaf, has_link_target, is_apart, is_off_attributes, is_core, is_counted, is_attr_leaf, is_placed, is_whole_fork, leaf_held, no_attrs, range_of, range_of_block, ranges_of, used_file, with_attrs, with_data, with_feature}
use Rattle.xfs_inode.specs.Forks.{attr_extent, attr_place, has_attr_extent, only_block}
use Rattle.xfs_inode.specs.Slots.{slot_read, attribute_start}
use Rattle.xfs_inode.specs.Sound.{IsBareFile, IsFile, IsSound}
use Rattle.xfs_inode.specs.declared.claims.BlockRange.{BlockRange}
use Rattle.xfs_inode.specs.declared.files.FileRead.{FileRead}
use Rattle.xfs_inode.specs.declared.files.FileRead.TheVariants as Reads
use Rattle.xfs_inode.specs.declared.reading.SlotRead.{SlotRead}
use Rattle.xfs_inode.specs.declared.reading.SlotRead.TheVariants as Read

-- lists that are apart, and from one another, are apart as one list
flipped : (x y : BlockRange) → is_apart x y ≡ true → is_apart y x ≡ true
flipped x y e = on x.start x.end y.start y.end e
  where
    on : (a b c d : ℕ) → (nat_le b c || nat_le d a) ≡ true → (nat_le d a || nat_le b c) ≡ true
    on a b c d e = grind (arith, nat_tests)

from_first : (x : BlockRange) (xs ys : List BlockRange) → list_all (λ (y : BlockRange). list_all (is_apart y) (x ∷ xs)) ys ≡ true
    → (list_all (is_apart x) ys ≡ true) × (list_all (λ (y : BlockRange). list_all (is_apart y) xs) ys ≡ true)
from_first x xs [] clear = (refl, refl)
from_first x xs (y ∷ ys) clear =
    let parts = and_parts (is_apart y x && list_all (is_apart y) xs) (list_all (λ (z : BlockRange). list_all (is_apart z) (x ∷ xs)) ys) clear in
    let first = and_parts (is_apart y x) (list_all (is_apart y) xs) parts.0 in
    let rest = from_first x xs ys parts.1 in (
      and_from (is_apart x y) (list_all (is_apart x) ys) (flipped y x first.0) rest.0,
      and_from (list_all (is_apart y) xs) (list_all (λ (z : BlockRange). list_all (is_apart z) xs) ys) first.1 rest.1,
    )

all_of_both : (x : BlockRange) (xs ys : List BlockRange) → list_all (is_apart x) xs ≡ true → list_all (is_apart x) ys ≡ true → list_all (is_apart x) (xs ++ ys) ≡ true
all_of_both x [] ys one other = other
all_of_both x (z ∷ xs) ys one other =
    let parts = and_parts (is_apart x z) (list_all (is_apart x) xs) one in
    and_from (is_apart x z) (list_all (is_apart x) (xs ++ ys)) parts.0 (all_of_both x xs ys parts.1 other)

both_apart : (xs ys : List BlockRange) → ranges_apart xs ≡ true → ranges_apart ys ≡ true → list_all (λ (y : BlockRange). list_all (is_apart y) xs) ys ≡ true
    → ranges_apart (xs ++ ys) ≡ true
unfolding ranges_apart
both_apart [] ys one other clear = other
both_apart (x ∷ xs) ys one other clear =
    let parts = and_parts (list_all (is_apart x) xs) (ranges_apart xs) one in
    let split = from_first x xs ys clear in
    and_from (list_all (is_apart x) (xs ++ ys)) (ranges_apart (xs ++ ys)) (all_of_both x xs ys parts.0 split.0) (both_apart xs ys parts.1 other split.1)

clear_runs : (xs : List BlockRange) (blocks : List ℕ) → list_all (λ (block : ℕ). list_all (is_apart (range_of_block block)) xs) blocks ≡ true
    → list_all (λ (y : BlockRange). list_all (is_apart y) xs) (map range_of_block blocks) ≡ true
clear_runs xs [] clear = refl
clear_runs xs (b ∷ bs) clear =
    let parts = and_parts (list_all (is_apart (range_of_block b)) xs) (list_all (λ (block : ℕ). list_all (is_apart (range_of_block block)) xs) bs) clear in
    and_from (list_all (is_apart (range_of_block b)) xs) (list_all (λ (y : BlockRange). list_all (is_apart y) xs) (map range_of_block bs)) parts.0 (clear_runs xs bs parts.1)

-- the extents of an attribute fork are its blocks
record IsForkOf (v : Volume) (fork : AttrFork) : Type 0 where
  same : map (range_of v) fork.extents ≡ map range_of_block fork.blocks
  count : extent_blocks fork.extents ≡ length fork.blocks
  apart : ranges_apart (map range_of_block fork.blocks) ≡ true

abbrev AreForkOf : Volume → Option AttrFork → Type 0
AreForkOf v None = Unit {0}
AreForkOf v (Some fork) = IsForkOf v fork

none_good : (v : Volume) (attrs : List Attr) → IsForkOf v (record { attrs = attrs; extents = []; blocks = [] })
unfolding ranges_apart
none_good v attrs = record { same = refl; count = refl; apart = refl }

one_good : (v : Volume) (attrs : List Attr) (e : Extent) (place : ℕ) → e.count ≡ 1 → block_of_address v.agblocks v.agblklog e.start ≡ place
    → IsForkOf v (record { attrs = attrs; extents = e ∷ []; blocks = place ∷ [] })
unfolding ranges_apart
one_good v attrs e place count start = record {
  same = ap (λ (n : ℕ). record { start = block_of_address v.agblocks v.agblklog e.start; end = block_of_address v.agblocks v.agblklog e.start + n } ∷ []) count
      ∙ ap (λ (n : ℕ). range_of_block n ∷ []) start;
  count = ap (λ (n : ℕ). 0 + n) count;
  apart = refl;
}

only_some : (v : Volume) (e : Extent) (place : ℕ) → only_block v e ≡ Some place
    → (e.count ≡ 1) × (block_of_address v.agblocks v.agblklog e.start ≡ place)
unfolding block_at
only_some v e place only = by_count (e.count == 1) refl only
  where
    some_of : (a b : ℕ) → Some a ≡ Some b → a ≡ b
    some_of a b e = cc

    by_place : (t : Bool) → (if t then Some (block_of_address v.agblocks v.agblklog e.start) else None) ≡ Some place
        → block_of_address v.agblocks v.agblklog e.start ≡ place
    by_place true h = some_of (block_of_address v.agblocks v.agblklog e.start) place h
    by_place false h = absurd cc

    by_count : (t : Bool) → (e.count == 1) ≡ t → (if t then block_at v e.start else None) ≡ Some place
        → (e.count ≡ 1) × (block_of_address v.agblocks v.agblklog e.start ≡ place)
    by_count true c h = (eqb-true e.count 1 c, by_place _ h)
    by_count false c h = absurd cc

if_good : (v : Volume) (t : Bool) (a b : Option AttrFork) → AreForkOf v a → AreForkOf v b → AreForkOf v (if t then a else b)
if_good v true a b one other = one
if_good v false a b one other = other

with_good : (v : Volume) (extents : List Extent) (blocks : List ℕ) (attrs : Result (List Attr) AttrFault)
    → ((found : List Attr) → IsForkOf v (record { attrs = found; extents = extents; blocks = blocks })) → AreForkOf v (fork_with extents blocks attrs)
with_good v extents blocks (Ok attrs) good = good attrs
with_good v extents blocks (Err fault) good = tt

leaf_good : (v : Volume) (ino : ℕ) (core : Core) (slot : List ℕ) (place : Option ℕ) (attr_leaf : Option (List ℕ)) → attr_place v core slot ≡ place
    → AreForkOf v (leaf_held v ino core slot place attr_leaf)
leaf_good v ino core slot None attr_leaf named = tt
leaf_good v ino core slot (Some place) None named = tt
leaf_good v ino core slot (Some place) (Some block) named =
    if_good v (is_attr_leaf v ino core slot place block) _ None
    (with_good v (attr_extent core slot ∷ []) (place ∷ []) (leaf_of block) (λ found. one_good v found (attr_extent core slot) place only.0 only.1)) tt
  where
    by_extent : (t : Bool) → (if t then only_block v (attr_extent core slot) else None) ≡ Some place → only_block v (attr_extent core slot) ≡ Some place
    by_extent true h = h
    by_extent false h = absurd cc

    only : ((attr_extent core slot).count ≡ 1) × (block_of_address v.agblocks v.agblklog (attr_extent core slot).start ≡ place)
    only = only_some v (attr_extent core slot) place (by_extent (has_attr_extent core) named)

fork_good : (v : Volume) (ino : ℕ) (core : Core) (slot : List ℕ) (attr_leaf : Option (List ℕ)) → AreForkOf v (attr_fork v ino core slot attr_leaf)
fork_good v ino core slot attr_leaf =
    if_good v (core.forkoff == 0) _ _ (none_good v [])
    (if_good v (core.aformat == 1) _ _ (with_good v [] [] (short_attributes (part_of slot (attribute_start core.forkoff) (512 - attribute_start core.forkoff))) (none_good v))
    (if_good v (core.aformat == 2) _ None
    (if_good v (core.anextents == 0) _ _ (none_good v []) (leaf_good v ino core slot (attr_place v core slot) attr_leaf refl)) tt))

-- a file whose data fork is that of a file
file_with : (v : Volume) (ino : ℕ) (core : Core) (slot : List ℕ) (link : Option (List ℕ)) (held : Contents Extent) (fork : AttrFork)
    → is_placed v held ≡ true → ranges_apart (ranges_of v held) ≡ true → IsForkOf v fork → is_off_attributes v held fork ≡ true
    → IsFile v ino (file_record ino core slot link held fork)
file_with v ino core slot link held fork placed apart good clear =
    let parts = and_parts (are_extents v None held.records) (are_blocks v held.blocks) placed in record {
      number = refl;
      extents = parts.0;
      tree = parts.1;
      apart = subst (λ (runs : List BlockRange). ranges_apart (ranges_of v held ++ runs) ≡ true) (sym good.same)
          (both_apart (ranges_of v held) (map range_of_block fork.blocks) apart good.apart (clear_runs (ranges_of v held) fork.blocks clear));
    }

bare_with : (v : Volume) (ino : ℕ) (core : Core) (slot : List ℕ) (link : Option (List ℕ)) (held : Contents Extent)
    → is_placed v held ≡ true → ranges_apart (ranges_of v held) ≡ true → IsBareFile v ino (file_record ino core slot link held no_attrs)
bare_with v ino core slot link held placed apart =
    record { keeps = file_with v ino core slot link held no_attrs placed apart (none_good v []) refl; no_extents = refl; no_attrs = refl }

attrs_sound : (v : Volume) (ino : ℕ) (core : Core) (slot : List ℕ) (link : Option (List ℕ)) (held : Contents Extent) (fork : Option AttrFork)
    → is_placed v held ≡ true → ranges_apart (ranges_of v held) ≡ true → AreForkOf v fork → IsSound v ino (with_attrs v ino core slot link held fork)
attrs_sound v ino core slot link held None placed apart good = bare_with v ino core slot link held placed apart
attrs_sound v ino core slot link held (Some fork) placed apart good = by_test (is_counted core held fork && is_off_attributes v held fork) refl
  where
    by_leaf : (t : Bool) → IsSound v ino (if t then Reads.FileWithoutAttrs (file_record ino core slot link held no_attrs) else Reads.Unsound)
    by_leaf true = bare_with v ino core slot link held placed apart
    by_leaf false = tt

    by_test : (t : Bool) → (is_counted core held fork && is_off_attributes v held fork) ≡ t
        → IsSound v ino (if t then Reads.File (file_record ino core slot link held fork) else (if has_leaf fork then Reads.FileWithoutAttrs (file_record ino core slot link held no_attrs) else Reads.Unsound))
    by_test true e =
        let parts = and_parts (is_counted core held fork) (is_off_attributes v held fork) e in record {
          keeps = file_with v ino core slot link held fork placed apart good parts.1;
          counted = eqb-true core.nblocks (extent_blocks held.records + length held.blocks + length fork.blocks) parts.0
              ∙ ap (λ (n : ℕ). extent_blocks held.records + length held.blocks + n) (sym good.count);
        }
    by_test false e = by_leaf (has_leaf fork)

data_sound : (v : Volume) (ino : ℕ) (core : Core) (slot : List ℕ) (attr_leaf link : Option (List ℕ)) (held : Option (Contents Extent))
    → IsSound v ino (with_data v ino core slot attr_leaf link held)
data_sound v ino core slot attr_leaf link None = tt
data_sound v ino core slot attr_leaf link (Some held) = by_test (is_whole_fork v ino core slot link held) refl
  where
    by_test : (t : Bool) → is_whole_fork v ino core slot link held ≡ t
        → IsSound v ino (if t then with_attrs v ino core slot link held (attr_fork v ino core slot attr_leaf) else Reads.Unsound)
    by_test true e =
        let parts = and_parts (has_link_target v ino core slot link && is_placed v held) (ranges_apart (ranges_of v held)) e in
        attrs_sound v ino core slot link held (attr_fork v ino core slot attr_leaf) (and_parts (has_link_target v ino core slot link) (is_placed v held) parts.0).1 parts.1
        (fork_good v ino core slot attr_leaf)
    by_test false e = tt

used_sound : (v : Volume) (ino : ℕ) (core : Core) (slot : List ℕ) (tree : Option (Contents Extent)) (attr_leaf link : Option (List ℕ))
    → IsSound v ino (used_file v ino core slot tree attr_leaf link)
used_sound v ino core slot tree attr_leaf link = by_feature (feature_of v ino (attr_place v core slot) attr_leaf)
  where
    by_core : (t : Bool) → IsSound v ino (if t then with_data v ino core slot attr_leaf link (data_fork core slot tree) else Reads.Unsound)
    by_core true = data_sound v ino core slot attr_leaf link (data_fork core slot tree)
    by_core false = tt

    by_feature : (what : Option ℕ)
        → IsSound v ino (with_feature what (if is_core core then with_data v ino core slot attr_leaf link (data_fork core slot tree) else Reads.Unsound))
    by_feature None = by_core (is_core core)
    by_feature (Some what) = tt

slot_sound : (v : Volume) (ino : ℕ) (read : SlotRead) (slot : List ℕ) (tree : Option (Contents Extent)) (attr_leaf link : Option (List ℕ))
    → IsSound v ino (by_slot v ino read slot tree attr_leaf link)
slot_sound v ino Read.Unsound slot tree attr_leaf link = tt
slot_sound v ino Read.Free slot tree attr_leaf link = tt
slot_sound v ino (Read.Unsupported what) slot tree attr_leaf link = tt
slot_sound v ino (Read.InUse core) slot tree attr_leaf link = used_sound v ino core slot tree attr_leaf link

pub always_sound : (v : Volume) (ino : ℕ) (slot : List ℕ) (tree : Option (Contents Extent)) (attr_leaf link : Option (List ℕ))
    → IsSound v ino (file_read v ino slot tree attr_leaf link)
unfolding file_read
always_sound v ino slot tree attr_leaf link = slot_sound v ino (slot_read v ino slot) slot tree attr_leaf link

-- so is whatever an answer holds that is what a slot reads as
pub answer_sound : {E : Type 0} (v : Volume) (ino : ℕ) (slot : List ℕ) (tree : Option (Contents Extent)) (attr_leaf link : Option (List ℕ)) (answer : Result FileRead E)
    → IfOk answer (λ read. read ≡ file_read v ino slot tree attr_leaf link) → IfOk answer (λ read. IsSound v ino read)
answer_sound v ino slot tree attr_leaf link (Ok read) is = subst (λ (r : FileRead). IsSound v ino r) (sym is) (always_sound v ino slot tree attr_leaf link)
answer_sound v ino slot tree attr_leaf link (Err fault) is = tt
