-- The three forms of a directory with blocks: tests say what the words say.
use Rattle.std.proofs.Common.{◌≡◌, ℕ, zero, suc, ◌+◌, ◌-◌, ◌*◌, ◌/◌, ◌%◌, ◌≤◌, Bool, true, false, ◌&&◌, ◌||◌, ◌==◌, nat_le, nat_lt, if◌then◌else◌, List, [], ◌∷◌, length, filter, count_by, refl, sym, subst}
use Rattle.std.specs.List.{list_all}
use Rattle.std.proofs.lemmas.Bool.{and_parts, and_from, eqb-true, eq-eqb, le-leb, leb-true, lt-ltb, ltb-true, true≢false}
use Rattle.xfs_word.specs.Field.{field_of}
use Rattle.xfs_dirindex.specs.Block.{is_single, is_whole_block, tail_count, tail_pairs}
use Rattle.xfs_dirindex.specs.Data.{all_bests, all_pairs, are_data, is_first_block, pairs_in}
use Rattle.xfs_dirindex.specs.FreeBlocks.{are_free, free_count, has_value, has_values, is_covered, is_free_sound, used_in}
use Rattle.xfs_dirindex.specs.IndexTree.{all_leaf_pairs, index_tree_all_places, are_due, are_exactly, are_levels, are_members, magic_of_level, has_index_form, has_greatest, has_neighbours, index_places, is_member, is_tree, keeps_rules, last_hash, next_link, pairs_below, index_level, root_links, stated_of}
use Rattle.xfs_dirindex.specs.Leaf.{are_values, end_of, is_leaf, is_only_leaf, is_whole_leaf, leaf_count, leaf_stale, value_count}
use Rattle.xfs_dirindex.specs.Lookup.{bytes_mapped, is_mapped}
use Rattle.xfs_dirindex.specs.Mapped.{Mapped, is_beyond}
use Rattle.xfs_dirindex.specs.Node.{is_whole_node}
use Rattle.xfs_dirindex.specs.Pairs.{same_pairs, is_index, is_stale, pairs_at}
use Rattle.xfs_dirindex.specs.declared.data.Best.{Best}
use Rattle.xfs_dirindex.specs.declared.pairs.Pair.{Pair}
use Rattle.xfs_views.specs.DirectoriesInWords.{AreFreeBlocks, AreIndexLevels, AreMembers, HaveLengths, IsCovered, IsFreeBlock, IsIndex, IsIndexTree, IsLeafForm, IsMember, IsNodeForm, IsSingleForm}
use Rattle.xfs_views.proofs.Blocks.{data_passes, data_says, first_passes, first_says, index_passes, index_says, values_pass, values_say}
use Rattle.xfs_views.proofs.Tests.{all_pass, all_say, same_passes, same_says}

-- one block
pub single_says : (dir size : ℕ) (ms : List Mapped) → is_whole_block dir size ms ≡ true → IsSingleForm dir size ms
unfolding is_single
single_says dir size [] is = absurd (true≢false (sym (and_parts (size == 4096) false is).1))
single_says dir size (m ∷ n ∷ ms) is = absurd (true≢false (sym (and_parts (size == 4096) false is).1))
single_says dir size (m ∷ []) is =
    let fits = nat_le (64 + 8 * tail_count m.bytes) 4088 in
    let index = is_index (tail_pairs m.bytes) (field_of m.bytes 4092 4) (pairs_in dir true m) in
    let whole = and_parts (size == 4096) (fits && is_first_block dir true m && index) is in
    let both = and_parts (fits && is_first_block dir true m) index whole.1 in
    let parts = and_parts fits (is_first_block dir true m) both.0 in
    record {
      block = m;
      only = refl;
      one_block = eqb-true size 4096 whole.0;
      fits = leb-true (64 + 8 * tail_count m.bytes) 4088 parts.0;
      first = first_says dir true m parts.1;
      index = index_says (tail_pairs m.bytes) (field_of m.bytes 4092 4) (pairs_in dir true m) both.1;
    }

pub single_passes : (dir size : ℕ) (ms : List Mapped) → IsSingleForm dir size ms → is_whole_block dir size ms ≡ true
unfolding is_single
single_passes dir size ms is =
    let m = is.block in
    let fits = nat_le (64 + 8 * tail_count m.bytes) 4088 in
    let index = is_index (tail_pairs m.bytes) (field_of m.bytes 4092 4) (pairs_in dir true m) in
    subst (λ (all : List Mapped). is_whole_block dir size all ≡ true) (sym is.only)
    (and_from (size == 4096) (fits && is_first_block dir true m && index) (eq-eqb size 4096 is.one_block)
    (and_from (fits && is_first_block dir true m) index
    (and_from fits (is_first_block dir true m) (le-leb (64 + 8 * tail_count m.bytes) 4088 is.fits) (first_passes dir true m is.first))
    (index_passes (tail_pairs m.bytes) (field_of m.bytes 4092 4) (pairs_in dir true m) is.index)))

-- the leaf of an index
record IsLeafBlock (bests : List Best) (due : List Pair) (bytes : List ℕ) : Type 0 where
  magic : field_of bytes 8 2 ≡ 0x3df1
  fits : 64 + 8 * leaf_count bytes + 2 * value_count bytes ≤ 4092
  index : IsIndex (pairs_at bytes 64 (leaf_count bytes)) (leaf_stale bytes) due
  enough : end_of bests ≤ value_count bytes
  values : HaveLengths bests bytes (4092 - 2 * value_count bytes) 0 (value_count bytes)

leaf_says : (bests : List Best) (due : List Pair) (bytes : List ℕ) → is_leaf bests due bytes ≡ true → IsLeafBlock bests due bytes
unfolding is_leaf
leaf_says bests due bytes is =
    let a = field_of bytes 8 2 == 0x3df1 in
    let b = nat_le (64 + 8 * leaf_count bytes + 2 * value_count bytes) 4092 in
    let c = is_index (pairs_at bytes 64 (leaf_count bytes)) (leaf_stale bytes) due in
    let d = nat_le (end_of bests) (value_count bytes) in
    let fifth = and_parts (a && b && c && d) (are_values bests bytes (4092 - 2 * value_count bytes) 0 (value_count bytes)) is in
    let fourth = and_parts (a && b && c) d fifth.0 in
    let third = and_parts (a && b) c fourth.0 in
    let second = and_parts a b third.0 in
    record {
      magic = eqb-true (field_of bytes 8 2) 0x3df1 second.0;
      fits = leb-true (64 + 8 * leaf_count bytes + 2 * value_count bytes) 4092 second.1;
      index = index_says (pairs_at bytes 64 (leaf_count bytes)) (leaf_stale bytes) due third.1;
      enough = leb-true (end_of bests) (value_count bytes) fourth.1;
      values = values_say bests bytes (4092 - 2 * value_count bytes) 0 (value_count bytes) fifth.1;
    }

leaf_passes : (bests : List Best) (due : List Pair) (bytes : List ℕ) → IsLeafBlock bests due bytes → is_leaf bests due bytes ≡ true
unfolding is_leaf
leaf_passes bests due bytes is =
    let a = field_of bytes 8 2 == 0x3df1 in
    let b = nat_le (64 + 8 * leaf_count bytes + 2 * value_count bytes) 4092 in
    let c = is_index (pairs_at bytes 64 (leaf_count bytes)) (leaf_stale bytes) due in
    let d = nat_le (end_of bests) (value_count bytes) in
    and_from (a && b && c && d) (are_values bests bytes (4092 - 2 * value_count bytes) 0 (value_count bytes))
    (and_from (a && b && c) d
    (and_from (a && b) c
    (and_from a b (eq-eqb (field_of bytes 8 2) 0x3df1 is.magic) (le-leb (64 + 8 * leaf_count bytes + 2 * value_count bytes) 4092 is.fits))
    (index_passes (pairs_at bytes 64 (leaf_count bytes)) (leaf_stale bytes) due is.index))
    (le-leb (end_of bests) (value_count bytes) is.enough))
    (values_pass bests bytes (4092 - 2 * value_count bytes) 0 (value_count bytes) is.values)

record IsOnlyLeaf (bests : List Best) (due : List Pair) (ms : List Mapped) : Type 0 where
  leaf : Mapped
  only : ms ≡ leaf ∷ []
  place : leaf.offset ≡ 0x800000
  keeps : IsLeafBlock bests due leaf.bytes

only_says : (bests : List Best) (due : List Pair) (ms : List Mapped) → is_only_leaf bests due ms ≡ true → IsOnlyLeaf bests due ms
only_says bests due [] is = absurd (true≢false (sym is))
only_says bests due (m ∷ n ∷ ms) is = absurd (true≢false (sym is))
only_says bests due (m ∷ []) is =
    let parts = and_parts (m.offset == 0x800000) (is_leaf bests due m.bytes) is in
    record { leaf = m; only = refl; place = eqb-true m.offset 0x800000 parts.0; keeps = leaf_says bests due m.bytes parts.1 }

only_passes : (bests : List Best) (due : List Pair) (ms : List Mapped) → IsOnlyLeaf bests due ms → is_only_leaf bests due ms ≡ true
only_passes bests due ms is =
    let m = is.leaf in
    subst (λ (all : List Mapped). is_only_leaf bests due all ≡ true) (sym is.only)
    (and_from (m.offset == 0x800000) (is_leaf bests due m.bytes) (eq-eqb m.offset 0x800000 is.place) (leaf_passes bests due m.bytes is.keeps))

pub leaf_form_says : (dir size : ℕ) (ms : List Mapped) → is_whole_leaf dir size ms ≡ true → IsLeafForm dir size ms
unfolding is_whole_leaf
leaf_form_says dir size ms is =
    let only = is_only_leaf (all_bests dir ms) (all_pairs dir ms) (filter is_beyond ms) in
    let both = and_parts (are_data dir ms && size == 4096 * end_of (all_bests dir ms)) only is in
    let parts = and_parts (are_data dir ms) (size == 4096 * end_of (all_bests dir ms)) both.0 in
    let one = only_says (all_bests dir ms) (all_pairs dir ms) (filter is_beyond ms) both.1 in
    record {
      blocks = data_says dir ms parts.0;
      ends = eqb-true size (4096 * end_of (all_bests dir ms)) parts.1;
      leaf = one.leaf;
      only = one.only;
      place = one.place;
      magic = one.keeps.magic;
      fits = one.keeps.fits;
      index = one.keeps.index;
      enough = one.keeps.enough;
      values = one.keeps.values;
    }

pub leaf_form_passes : (dir size : ℕ) (ms : List Mapped) → IsLeafForm dir size ms → is_whole_leaf dir size ms ≡ true
unfolding is_whole_leaf
leaf_form_passes dir size ms is =
    let only = is_only_leaf (all_bests dir ms) (all_pairs dir ms) (filter is_beyond ms) in
    and_from (are_data dir ms && size == 4096 * end_of (all_bests dir ms)) only
    (and_from (are_data dir ms) (size == 4096 * end_of (all_bests dir ms)) (data_passes dir ms is.blocks) (eq-eqb size (4096 * end_of (all_bests dir ms)) is.ends))
    (only_passes (all_bests dir ms) (all_pairs dir ms) (filter is_beyond ms) (record {
      leaf = is.leaf;
      only = is.only;
      place = is.place;
      keeps = record { magic = is.magic; fits = is.fits; index = is.index; enough = is.enough; values = is.values };
    }))

-- the tree of an index
form_says : (level : ℕ) (bytes : List ℕ) → has_index_form level bytes ≡ true
    → (length bytes ≡ 4096) × (field_of bytes 8 2 ≡ magic_of_level level) × (1 ≤ leaf_count bytes) × (leaf_count bytes ≤ 504) × (leaf_stale bytes ≡ stated_of level bytes)
unfolding has_index_form
form_says level bytes is =
    let a = is_mapped bytes in
    let b = field_of bytes 8 2 == magic_of_level level in
    let c = nat_le 1 (leaf_count bytes) in
    let d = nat_le (leaf_count bytes) 504 in
    let fifth = and_parts (a && b && c && d) (leaf_stale bytes == stated_of level bytes) is in
    let fourth = and_parts (a && b && c) d fifth.0 in
    let third = and_parts (a && b) c fourth.0 in
    let second = and_parts a b third.0 in (
      eqb-true (length bytes) 4096 second.0,
      eqb-true (field_of bytes 8 2) (magic_of_level level) second.1,
      leb-true 1 (leaf_count bytes) third.1,
      leb-true (leaf_count bytes) 504 fourth.1,
      eqb-true (leaf_stale bytes) (stated_of level bytes) fifth.1,
    )

form_passes : (level : ℕ) (bytes : List ℕ) → length bytes ≡ 4096 → field_of bytes 8 2 ≡ magic_of_level level → 1 ≤ leaf_count bytes → leaf_count bytes ≤ 504
    → leaf_stale bytes ≡ stated_of level bytes → has_index_form level bytes ≡ true
unfolding has_index_form
form_passes level bytes mapped magic some most stated =
    let a = is_mapped bytes in
    let b = field_of bytes 8 2 == magic_of_level level in
    let c = nat_le 1 (leaf_count bytes) in
    let d = nat_le (leaf_count bytes) 504 in
    and_from (a && b && c && d) (leaf_stale bytes == stated_of level bytes)
    (and_from (a && b && c) d
    (and_from (a && b) c
    (and_from a b (eq-eqb (length bytes) 4096 mapped) (eq-eqb (field_of bytes 8 2) (magic_of_level level) magic))
    (le-leb 1 (leaf_count bytes) some))
    (le-leb (leaf_count bytes) 504 most))
    (eq-eqb (leaf_stale bytes) (stated_of level bytes) stated)

neighbours_say : (before next : ℕ) (bytes : List ℕ) → has_neighbours before next bytes ≡ true → (field_of bytes 4 4 ≡ before) × (field_of bytes 0 4 ≡ next)
unfolding has_neighbours
neighbours_say before next bytes is =
    let parts = and_parts (field_of bytes 4 4 == before) (field_of bytes 0 4 == next) is in
    (eqb-true (field_of bytes 4 4) before parts.0, eqb-true (field_of bytes 0 4) next parts.1)

neighbours_pass : (before next : ℕ) (bytes : List ℕ) → field_of bytes 4 4 ≡ before → field_of bytes 0 4 ≡ next → has_neighbours before next bytes ≡ true
unfolding has_neighbours
neighbours_pass before next bytes back forward = and_from (field_of bytes 4 4 == before) (field_of bytes 0 4 == next) (eq-eqb (field_of bytes 4 4) before back) (eq-eqb (field_of bytes 0 4) next forward)

greatest_says : (root : Bool) (last hash : ℕ) → (root || last == hash) ≡ true → root ≡ false → last ≡ hash
greatest_says true last hash is below = absurd (true≢false below)
greatest_says false last hash is below = eqb-true last hash is

greatest_passes : (root : Bool) (last hash : ℕ) → (root ≡ false → last ≡ hash) → (root || last == hash) ≡ true
greatest_passes true last hash is = refl
greatest_passes false last hash is = eq-eqb last hash (is refl)

member_says : (ms : List Mapped) (root : Bool) (level before : ℕ) (link : Pair) (next : ℕ) → is_member ms root level before link next ≡ true → IsMember ms root level before link next
member_says ms root level before link next is =
    let bytes = bytes_mapped ms link.address in
    let both = and_parts (has_index_form level bytes && has_neighbours before next bytes) (has_greatest root link.hash bytes) is in
    let parts = and_parts (has_index_form level bytes) (has_neighbours before next bytes) both.0 in
    let form = form_says level bytes parts.0 in
    let sides = neighbours_say before next bytes parts.1 in
    record {
      mapped = form.0;
      magic = form.1;
      some = form.2;
      most = form.3;
      stated = form.4;
      back = sides.0;
      forward = sides.1;
      greatest = greatest_says root (last_hash bytes) link.hash both.1;
    }

member_passes : (ms : List Mapped) (root : Bool) (level before : ℕ) (link : Pair) (next : ℕ) → IsMember ms root level before link next → is_member ms root level before link next ≡ true
member_passes ms root level before link next is =
    let bytes = bytes_mapped ms link.address in
    and_from (has_index_form level bytes && has_neighbours before next bytes) (has_greatest root link.hash bytes)
    (and_from (has_index_form level bytes) (has_neighbours before next bytes) (form_passes level bytes is.mapped is.magic is.some is.most is.stated) (neighbours_pass before next bytes is.back is.forward))
    (greatest_passes root (last_hash bytes) link.hash is.greatest)

members_say : (ms : List Mapped) (root : Bool) (level before : ℕ) (links : List Pair) → are_members ms root level before links ≡ true → AreMembers ms root level before links
members_say ms root level before [] is = tt
members_say ms root level before (link ∷ links) is =
    let parts = and_parts (is_member ms root level before link (next_link links)) (are_members ms root level link.address links) is in
    (member_says ms root level before link (next_link links) parts.0, members_say ms root level link.address links parts.1)

members_pass : (ms : List Mapped) (root : Bool) (level before : ℕ) (links : List Pair) → AreMembers ms root level before links → are_members ms root level before links ≡ true
members_pass ms root level before [] is = refl
members_pass ms root level before (link ∷ links) is =
    and_from (is_member ms root level before link (next_link links)) (are_members ms root level link.address links) (member_passes ms root level before link (next_link links) is.0)
    (members_pass ms root level link.address links is.1)

levels_say : (ms : List Mapped) (root : Bool) (level : ℕ) (links : List Pair) → are_levels ms root level links ≡ true → AreIndexLevels ms root level links
levels_say ms root zero links is = members_say ms root 0 0 links is
levels_say ms root (suc level) links is =
    let parts = and_parts (are_members ms root (suc level) 0 links) (are_levels ms false level (pairs_below ms links)) is in
    (members_say ms root (suc level) 0 links parts.0, levels_say ms false level (pairs_below ms links) parts.1)

levels_pass : (ms : List Mapped) (root : Bool) (level : ℕ) (links : List Pair) → AreIndexLevels ms root level links → are_levels ms root level links ≡ true
levels_pass ms root zero links is = members_pass ms root 0 0 links is
levels_pass ms root (suc level) links is =
    and_from (are_members ms root (suc level) 0 links) (are_levels ms false level (pairs_below ms links)) (members_pass ms root (suc level) 0 links is.0)
    (levels_pass ms false level (pairs_below ms links) is.1)

tree_says : (ms : List Mapped) (due : List Pair) → is_tree ms due ≡ true → IsIndexTree ms due
unfolding is_tree keeps_rules are_exactly are_due
tree_says ms due is =
    let last = and_parts (keeps_rules ms && are_exactly ms (index_tree_all_places ms)) (are_due (all_leaf_pairs ms) due) is in
    let parts = and_parts (keeps_rules ms) (are_exactly ms (index_tree_all_places ms)) last.0 in
    let places = and_parts (length (index_tree_all_places ms) == length (index_places ms)) (same_pairs (index_tree_all_places ms) (index_places ms)) parts.1 in
    let index = index_says (all_leaf_pairs ms) (count_by is_stale (all_leaf_pairs ms)) due last.1 in
    record {
      levels = levels_say ms true (index_level ms) root_links parts.0;
      count = eqb-true (length (index_tree_all_places ms)) (length (index_places ms)) places.0;
      blocks = same_says (index_tree_all_places ms) (index_places ms) places.1;
      ascend = index.ascend;
      exact = index.exact;
    }

tree_passes : (ms : List Mapped) (due : List Pair) → IsIndexTree ms due → is_tree ms due ≡ true
unfolding is_tree keeps_rules are_exactly are_due
tree_passes ms due is =
    and_from (keeps_rules ms && are_exactly ms (index_tree_all_places ms)) (are_due (all_leaf_pairs ms) due)
    (and_from (keeps_rules ms) (are_exactly ms (index_tree_all_places ms)) (levels_pass ms true (index_level ms) root_links is.levels)
    (and_from (length (index_tree_all_places ms) == length (index_places ms)) (same_pairs (index_tree_all_places ms) (index_places ms)) (eq-eqb (length (index_tree_all_places ms)) (length (index_places ms)) is.count)
    (same_passes (index_tree_all_places ms) (index_places ms) is.blocks)))
    (index_passes (all_leaf_pairs ms) (count_by is_stale (all_leaf_pairs ms)) due (record { ascend = is.ascend; stated = refl; exact = is.exact }))

-- the free blocks
free_block_says : (bests : List Best) (i : ℕ) (bytes : List ℕ) → has_values bests i bytes ≡ true → IsFreeBlock bests i bytes
unfolding has_values
free_block_says bests i bytes is =
    let a = field_of bytes 48 4 == 2016 * i in
    let b = nat_le (free_count bytes) 2016 in
    let c = field_of bytes 56 4 == used_in bytes (free_count bytes) in
    let third = and_parts (a && b && c) (are_values bests bytes 64 (2016 * i) (free_count bytes)) is in
    let second = and_parts (a && b) c third.0 in
    let parts = and_parts a b second.0 in
    record {
      first = eqb-true (field_of bytes 48 4) (2016 * i) parts.0;
      most = leb-true (free_count bytes) 2016 parts.1;
      used = eqb-true (field_of bytes 56 4) (used_in bytes (free_count bytes)) second.1;
      values = values_say bests bytes 64 (2016 * i) (free_count bytes) third.1;
    }

free_block_passes : (bests : List Best) (i : ℕ) (bytes : List ℕ) → IsFreeBlock bests i bytes → has_values bests i bytes ≡ true
unfolding has_values
free_block_passes bests i bytes is =
    let a = field_of bytes 48 4 == 2016 * i in
    let b = nat_le (free_count bytes) 2016 in
    let c = field_of bytes 56 4 == used_in bytes (free_count bytes) in
    and_from (a && b && c) (are_values bests bytes 64 (2016 * i) (free_count bytes))
    (and_from (a && b) c
    (and_from a b (eq-eqb (field_of bytes 48 4) (2016 * i) is.first) (le-leb (free_count bytes) 2016 is.most))
    (eq-eqb (field_of bytes 56 4) (used_in bytes (free_count bytes)) is.used))
    (values_pass bests bytes 64 (2016 * i) (free_count bytes) is.values)

-- a test that is asked for numbers from one on alone
from_says : (least n : ℕ) (t : Bool) → (if nat_le least n then t else true) ≡ true → least ≤ n → t ≡ true
from_says least n t is more = subst (λ (b : Bool). (if b then t else true) ≡ true) (le-leb least n more) is

from_passes : (least n : ℕ) (t : Bool) → (least ≤ n → t ≡ true) → (if nat_le least n then t else true) ≡ true
from_passes least n t each = by_test (nat_le least n) refl
  where
    by_test : (b : Bool) → nat_le least n ≡ b → (if b then t else true) ≡ true
    by_test true is = each (leb-true least n is)
    by_test false is = refl

free_each_says : (bests : List Best) (m : Mapped) → is_free_sound bests m ≡ true → 0x1000000 ≤ m.offset → IsFreeBlock bests (m.offset - 0x1000000) m.bytes
unfolding is_free_sound
free_each_says bests m is more = free_block_says bests (m.offset - 0x1000000) m.bytes (from_says 0x1000000 m.offset (has_values bests (m.offset - 0x1000000) m.bytes) is more)

free_each_passes : (bests : List Best) (m : Mapped) → (0x1000000 ≤ m.offset → IsFreeBlock bests (m.offset - 0x1000000) m.bytes) → is_free_sound bests m ≡ true
unfolding is_free_sound
free_each_passes bests m each = from_passes 0x1000000 m.offset (has_values bests (m.offset - 0x1000000) m.bytes) (λ more. free_block_passes bests (m.offset - 0x1000000) m.bytes (each more))

covered_says : (b : Best) (bytes : List ℕ) → is_covered b bytes ≡ true → IsCovered b bytes
unfolding is_covered
covered_says b bytes is =
    let parts = and_parts (is_mapped bytes) (nat_lt (b.offset % 2016) (free_count bytes)) is in
    record { mapped = eqb-true (length bytes) 4096 parts.0; reaches = ltb-true (b.offset % 2016) (free_count bytes) parts.1 }

covered_passes : (b : Best) (bytes : List ℕ) → IsCovered b bytes → is_covered b bytes ≡ true
unfolding is_covered
covered_passes b bytes is = and_from (is_mapped bytes) (nat_lt (b.offset % 2016) (free_count bytes)) (eq-eqb (length bytes) 4096 is.mapped) (lt-ltb (b.offset % 2016) (free_count bytes) is.reaches)

free_says : (bests : List Best) (ms : List Mapped) → are_free bests ms ≡ true → AreFreeBlocks bests ms
unfolding are_free
free_says bests ms is =
    let parts = and_parts (list_all (is_free_sound bests) ms) (list_all (has_value ms) bests) is in
    record {
      each = all_say (is_free_sound bests) (λ (m : Mapped). 0x1000000 ≤ m.offset → IsFreeBlock bests (m.offset - 0x1000000) m.bytes) (free_each_says bests) ms parts.0;
      covered = all_say (has_value ms) (λ (b : Best). IsCovered b (bytes_mapped ms (0x1000000 + b.offset / 2016)))
          (λ b is. covered_says b (bytes_mapped ms (0x1000000 + b.offset / 2016)) is) bests parts.1;
    }

free_passes : (bests : List Best) (ms : List Mapped) → AreFreeBlocks bests ms → are_free bests ms ≡ true
unfolding are_free
free_passes bests ms is =
    and_from (list_all (is_free_sound bests) ms) (list_all (has_value ms) bests)
    (all_pass (is_free_sound bests) (λ (m : Mapped). 0x1000000 ≤ m.offset → IsFreeBlock bests (m.offset - 0x1000000) m.bytes) (free_each_passes bests) ms is.each)
    (all_pass (has_value ms) (λ (b : Best). IsCovered b (bytes_mapped ms (0x1000000 + b.offset / 2016)))
    (λ b is. covered_passes b (bytes_mapped ms (0x1000000 + b.offset / 2016)) is) bests is.covered)

pub node_form_says : (dir size : ℕ) (ms : List Mapped) → is_whole_node dir size ms ≡ true → IsNodeForm dir size ms
unfolding is_whole_node
node_form_says dir size ms is =
    let a = are_data dir ms in
    let b = size == 4096 * end_of (all_bests dir ms) in
    let c = is_tree ms (all_pairs dir ms) in
    let third = and_parts (a && b && c) (are_free (all_bests dir ms) ms) is in
    let second = and_parts (a && b) c third.0 in
    let parts = and_parts a b second.0 in
    record {
      blocks = data_says dir ms parts.0;
      ends = eqb-true size (4096 * end_of (all_bests dir ms)) parts.1;
      tree = tree_says ms (all_pairs dir ms) second.1;
      free = free_says (all_bests dir ms) ms third.1;
    }

pub node_form_passes : (dir size : ℕ) (ms : List Mapped) → IsNodeForm dir size ms → is_whole_node dir size ms ≡ true
unfolding is_whole_node
node_form_passes dir size ms is =
    let a = are_data dir ms in
    let b = size == 4096 * end_of (all_bests dir ms) in
    let c = is_tree ms (all_pairs dir ms) in
    and_from (a && b && c) (are_free (all_bests dir ms) ms)
    (and_from (a && b) c
    (and_from a b (data_passes dir ms is.blocks) (eq-eqb size (4096 * end_of (all_bests dir ms)) is.ends))
    (tree_passes ms (all_pairs dir ms) is.tree))
    (free_passes (all_bests dir ms) ms is.free)
