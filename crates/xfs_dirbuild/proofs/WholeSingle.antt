-- What is built in single-block form is whole.
use Rattle.std.proofs.Common.{◌≡◌, ℕ, ◌+◌, ◌-◌, ◌*◌, ◌≤◌, inl, inr, true, ◌&&◌, ◌==◌, nat_le, List, [], ◌∷◌, map, length, take, drop, get_or, Some, is_some, unwrap_or, refl, sym, ◌∙◌, ap, ap₂, subst, arith}
use Rattle.std.specs.List.{All}
use Rattle.std.specs.List.Sorted.{IsPermutation}
use Rattle.std.proofs.lemmas.List.{append-nil, drop_more, drop_all, length-take, get_or-take, get_or_past}
use Rattle.std.proofs.lemmas.Bool.{and_from, eq-eqb, cases_lt}
use Rattle.std.proofs.lemmas.Bool.Decides.{nat_tests}
use Rattle.xfs_word.specs.Field.{field_of, part_of}
use Rattle.xfs_word.proofs.Written.{keeps}
use Rattle.xfs_dirdata.specs.declared.records.EntryRec.{EntryRec}
use Rattle.xfs_dirdata.specs.Data.{data_of, data_area, area_of}
use Rattle.xfs_dirdata.specs.Written.{in_directory, offsets, written_area}
use Rattle.xfs_dirindex.specs.declared.pairs.Pair.{Pair}
use Rattle.xfs_dirindex.specs.Mapped.{Mapped, mapped_block, mapped}
use Rattle.xfs_dirindex.specs.Pairs.{pairs_at, is_index}
use Rattle.xfs_dirindex.specs.Sorted.{PairsRanked}
use Rattle.xfs_dirindex.specs.Data.{have_no_dots, begin_with_dots, stand_first, no_area, area_in, is_sound_data, is_first_block, due_pairs, pairs_in}
use Rattle.xfs_dirindex.specs.Block.{tail_count, tail_pairs, is_single}
use Rattle.xfs_dirbuild.specs.declared.forms.DirectoryForm.TheVariants.{Single}
use Rattle.xfs_dirbuild.specs.Filling.{all_entries}
use Rattle.xfs_dirbuild.specs.Index.{IsPointer, IsPlacedBlock}
use Rattle.xfs_dirbuild.specs.Private.SingleBlock.{IsSingleBlock}
use Rattle.xfs_dirbuild.specs.Placed.{file_blocks, ArePlacedBlocks, IsWhole, built_entries}
use Rattle.xfs_dirbuild.proofs.Pairs.{pairs_at-same}
use Rattle.xfs_dirbuild.proofs.Areas.{SameBehind, same-behind, area-same}
use Rattle.xfs_dirbuild.proofs.DataPlaced.{pairs-of-area, entries-of-area, places-of-area, stands, begins}
use Rattle.xfs_dirbuild.proofs.Indexes.{index-sound}
use Rattle.xfs_dirbuild.proofs.PlacedBlocks.{data-block}

-- the bytes in front of the index
parts-agree : (b p : List ℕ) (n : ℕ) → IsPlacedBlock 4 b p → length b ≡ 4096 → SameBehind 48 (part_of b 0 n) (part_of p 0 n)
unfolding part_of
parts-agree b p n placed long =
    let one = length-take n b in
    let two = length-take n p in
    let size : length p ≡ 4096 = placed.long in
    same-behind 48 (take n b) (take n p) (omega (arith, one, two)) (λ k low.
    elim (cases_lt k n) [
      | inl inside ↦ get_or-take n p k 0 inside ∙ (placed.same k (inr low) ∙ sym (get_or-take n b k 0 inside))
      | inr past ↦ get_or_past (take n p) k 0 (omega (arith, two)) ∙ sym (get_or_past (take n b) k 0 (omega (arith, one)))
    ])

single-placed : (dir parent : ℕ) (es : List EntryRec) (pairs : List Pair) (b p : List ℕ) → length b ≡ 4096 → 64 + 8 * length pairs ≤ 4088
    → IsSingleBlock dir parent es pairs b → IsPlacedBlock 4 b p → IsSingleBlock dir parent es pairs p
single-placed dir parent es pairs b p long fit was placed =
    let stays = keeps b p 4 44 placed.same in
    let end = 4088 - 8 * length pairs in
    record {
      magic = stays 0 4 (inl (omega arith)) ∙ was.magic;
      count = stays 4088 4 (inr (omega arith)) ∙ was.count;
      stale = stays 4092 4 (inr (omega arith)) ∙ was.stale;
      pairs_is = pairs_at-same b p (4088 - 8 * length pairs) (length pairs) (λ a low high. stays a 4 (inr (omega arith))) ∙ was.pairs_is;
      area = λ d. area-same (part_of b 0 end) (part_of p 0 end) (parts-agree b p end placed long) d (written_area d (all_entries dir parent es) end) (was.area d);
    }

data-read : (dir parent : ℕ) (es : List EntryRec) (pairs : List Pair) (p : List ℕ) → IsSingleBlock dir parent es pairs p
    → data_of dir p true ≡ Some (written_area dir (all_entries dir parent es) (4088 - 8 * length pairs))
unfolding data_of data_area
data-read dir parent es pairs p block = ap (λ (n : ℕ). area_of dir (part_of p 0 (4088 - 8 * n))) block.count ∙ block.area dir

area-read : (dir parent : ℕ) (es : List EntryRec) (pairs : List Pair) (p : List ℕ) → IsSingleBlock dir parent es pairs p
    → area_in dir true (mapped_block 0 p) ≡ written_area dir (all_entries dir parent es) (4088 - 8 * length pairs)
unfolding area_in
area-read dir parent es pairs p block = ap (λ a. unwrap_or a no_area) (data-read dir parent es pairs p block)

first-read : (dir parent : ℕ) (es : List EntryRec) (pairs : List Pair) (p : List ℕ) → have_no_dots es ≡ true → IsSingleBlock dir parent es pairs p
    → is_first_block dir true (mapped_block 0 p) ≡ true
unfolding is_first_block is_sound_data
first-read dir parent es pairs p none block =
    let sound : (field_of p 0 4 == 0x58444233 && is_some (data_of dir p true)) ≡ true =
    and_from _ _ (eq-eqb (field_of p 0 4) 0x58444233 block.magic) (ap (λ a. is_some a) (data-read dir parent es pairs p block)) in
    let entries = entries-of-area dir (4088 - 8 * length pairs) (all_entries dir parent es) (area_in dir true (mapped_block 0 p)) (area-read dir parent es pairs p block) in
    let places = places-of-area dir (4088 - 8 * length pairs) (all_entries dir parent es) (area_in dir true (mapped_block 0 p)) (area-read dir parent es pairs p block) in
    and_from _ _ (and_from _ _ (and_from _ _ refl sound) (ap (λ (xs : List EntryRec). begin_with_dots dir xs) entries ∙ begins dir parent es none))
    (ap (λ (ps : List ℕ). stand_first ps) places ∙ stands dir parent es)

pairs-read : (dir parent : ℕ) (es : List EntryRec) (pairs : List Pair) (p : List ℕ) → IsSingleBlock dir parent es pairs p
    → pairs_in dir true (mapped_block 0 p) ≡ due_pairs 0 (all_entries dir parent es) (offsets 64 (all_entries dir parent es))
unfolding pairs_in
pairs-read dir parent es pairs p block =
    pairs-of-area dir 0 (4088 - 8 * length pairs) (all_entries dir parent es) (area_in dir true (mapped_block 0 p)) (area-read dir parent es pairs p block)

single-sound : (dir parent : ℕ) (es : List EntryRec) (pairs : List Pair) (p : List ℕ) → have_no_dots es ≡ true → 64 + 8 * length pairs ≤ 4088
    → IsSingleBlock dir parent es pairs p
    → IsPermutation (due_pairs 0 (all_entries dir parent es) (offsets 64 (all_entries dir parent es))) pairs → PairsRanked pairs → All IsPointer pairs
    → is_single dir (mapped_block 0 p) ≡ true
unfolding is_single
single-sound dir parent es pairs p none fit block moved ranked pointers =
    let due = due_pairs 0 (all_entries dir parent es) (offsets 64 (all_entries dir parent es)) in
    let count : tail_count p ≡ length pairs = block.count in
    let room : nat_le (64 + 8 * tail_count p) 4088 ≡ true = grind (arith, nat_tests, count) in
    let pairs_are : tail_pairs p ≡ pairs = ap (λ (n : ℕ). pairs_at p (4088 - 8 * n) n) block.count ∙ block.pairs_is in
    let index : is_index (tail_pairs p) (field_of p 4092 4) (pairs_in dir true (mapped_block 0 p)) ≡ true =
    ap₂ (λ (xs ys : List Pair). is_index xs (field_of p 4092 4) ys) pairs_are (pairs-read dir parent es pairs p block)
    ∙ index-sound pairs due (field_of p 4092 4) moved ranked pointers block.stale in
    and_from _ _ (and_from _ _ room (first-read dir parent es pairs p none block)) index

entries-read : (dir parent : ℕ) (es : List EntryRec) (pairs : List Pair) (p : List ℕ) → IsSingleBlock dir parent es pairs p
    → built_entries dir true (mapped_block 0 p ∷ []) ≡ map (in_directory dir) (all_entries dir parent es)
unfolding built_entries
entries-read dir parent es pairs p block =
    append-nil (area_in dir true (mapped_block 0 p)).entries
    ∙ entries-of-area dir (4088 - 8 * length pairs) (all_entries dir parent es) (area_in dir true (mapped_block 0 p)) (area-read dir parent es pairs p block)

pub whole-single : (dir parent : ℕ) (es : List EntryRec) (built placed : List (List ℕ)) (pairs : List Pair) → have_no_dots es ≡ true → length built ≡ 1
    → length (get_or built 0 []) ≡ 4096 → 64 + 8 * length pairs ≤ 4088 → IsSingleBlock dir parent es pairs (get_or built 0 [])
    → IsPermutation (due_pairs 0 (all_entries dir parent es) (offsets 64 (all_entries dir parent es))) pairs → PairsRanked pairs → All IsPointer pairs
    → ArePlacedBlocks 1 0 built placed → IsWhole Single dir parent 4096 es (mapped (file_blocks 1 0 0) placed)
whole-single dir parent es built placed pairs none long size fit single moved ranked pointers are =
    let p = get_or placed 0 [] in
    let front : drop 0 placed ≡ get_or placed 0 [] ∷ drop (0 + 1) placed = drop_more placed 0 [] (omega (arith, are.count)) in
    let last : drop (0 + 1) placed ≡ [] = drop_all (0 + 1) placed (omega (arith, are.count)) in
    let only : placed ≡ get_or placed 0 [] ∷ [] = front ∙ ap (λ (bs : List (List ℕ)). get_or placed 0 [] ∷ bs) last in
    let block = single-placed dir parent es pairs (get_or built 0 []) p size fit single (data-block 1 0 0 built placed are (omega arith) (omega arith)) in
    let is : mapped (file_blocks 1 0 0) placed ≡ mapped_block 0 (get_or placed 0 []) ∷ [] = ap (mapped (file_blocks 1 0 0)) only in
    subst (λ (xs : List Mapped). IsWhole Single dir parent 4096 es xs) (sym is) (record {
      rules = and_from _ _ refl (single-sound dir parent es pairs p none fit block moved ranked pointers);
      entries_are = entries-read dir parent es pairs p block;
    })
