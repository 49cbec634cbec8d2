-- What is built in leaf form is whole.
use Rattle.std.proofs.Common.{◌≡◌, ℕ, ◌+◌, ◌-◌, ◌*◌, ◌<◌, ◌≤◌, inl, inr, true, ◌==◌, nat_le, List, [], ◌∷◌, ◌++◌, map, length, take, drop, get_or, refl, sym, ◌∙◌, ap, ap₂, subst, arith}
use Rattle.std.specs.List.{All, filter}
use Rattle.std.specs.List.Sorted.{IsPermutation}
use Rattle.std.proofs.lemmas.List.{drop_more, drop_all, length-map, length-take-le}
use Rattle.std.proofs.lemmas.List.Elements.{filter-append}
use Rattle.std.proofs.lemmas.Bool.{and_from, eq-eqb}
use Rattle.std.proofs.lemmas.Bool.Decides.{nat_tests}
use Rattle.xfs_word.specs.Field.{field_of}
use Rattle.xfs_word.proofs.Written.{keeps}
use Rattle.xfs_dirdata.specs.declared.records.EntryRec.{EntryRec}
use Rattle.xfs_dirindex.specs.declared.pairs.Pair.{Pair}
use Rattle.xfs_dirindex.specs.declared.data.Best.{Best}
use Rattle.xfs_dirindex.specs.Mapped.{Mapped, mapped_block, mapped, is_beyond}
use Rattle.xfs_dirindex.specs.Pairs.{pairs_at, is_index}
use Rattle.xfs_dirindex.specs.Sorted.{PairsRanked}
use Rattle.xfs_dirindex.specs.Data.{have_no_dots, all_pairs, all_bests}
use Rattle.xfs_dirindex.specs.Leaf.{end_of, leaf_count, leaf_stale, value_count, are_values, is_leaf, is_only_leaf, is_whole_leaf}
use Rattle.xfs_dirbuild.specs.declared.forms.DirectoryForm.TheVariants.{Leaf}
use Rattle.xfs_dirbuild.specs.Filling.{filled_shares, all_entries, pairs_from, rest_in}
use Rattle.xfs_dirbuild.specs.Index.{IsPointer, IsLeafBlock, IsPlacedBlock}
use Rattle.xfs_dirbuild.specs.Placed.{IsBuiltDataBlock, file_blocks, ArePlacedBlocks, IsWhole}
use Rattle.xfs_dirbuild.proofs.Filled.{filled-some}
use Rattle.xfs_dirbuild.proofs.Pairs.{pairs_at-same}
use Rattle.xfs_dirbuild.proofs.Standing.{stand, split, filter-lost}
use Rattle.xfs_dirbuild.proofs.DataPlaced.{bests_from, end-of, best-at}
use Rattle.xfs_dirbuild.proofs.Indexes.{index-sound, values-are}
use Rattle.xfs_dirbuild.proofs.Together.{together}
use Rattle.xfs_dirbuild.proofs.PlacedBlocks.{data-blocks, index-block}

leaf-placed : (pairs : List Pair) (values : List ℕ) (b p : List ℕ) → 64 + 8 * length pairs + 2 * length values + 4 ≤ 4096 → IsLeafBlock pairs values b → IsPlacedBlock 12 b p
    → IsLeafBlock pairs values p
leaf-placed pairs values b p fit was placed =
    let stays = keeps b p 12 44 placed.same in
    record {
      forw = stays 0 4 (inl (omega arith)) ∙ was.forw;
      back = stays 4 4 (inl (omega arith)) ∙ was.back;
      magic = stays 8 2 (inl (omega arith)) ∙ was.magic;
      count = stays 56 2 (inr (omega arith)) ∙ was.count;
      stale = stays 58 2 (inr (omega arith)) ∙ was.stale;
      pairs_is = pairs_at-same b p 64 (length pairs) (λ a low high. stays a 4 (inr (omega arith))) ∙ was.pairs_is;
      value_count = stays 4092 4 (inr (omega arith)) ∙ was.value_count;
      values_are = record { each = λ j less. stays (4092 - 2 * length values + 2 * j) 2 (inr (omega arith)) ∙ was.values_are.each j less };
    }

leaf-sound : (ess : List (List EntryRec)) (pairs : List Pair) (p : List ℕ) → 1 ≤ length ess → 64 + 8 * length pairs + 2 * length (map rest_in ess) + 4 ≤ 4096
    → IsPermutation (pairs_from 0 ess) pairs → PairsRanked pairs → All IsPointer pairs → IsLeafBlock pairs (map rest_in ess) p
    → is_leaf (bests_from 0 ess) (pairs_from 0 ess) p ≡ true
unfolding is_leaf
leaf-sound ess pairs p some fit moved ranked pointers block =
    let values = map rest_in ess in
    let due = pairs_from 0 ess in
    let bests = bests_from 0 ess in
    let long : length (map rest_in ess) ≡ length ess = length-map ess rest_in in
    let count : leaf_count p ≡ length pairs = block.count in
    let value_count_is : value_count p ≡ length (map rest_in ess) = block.value_count in
    let magic : (field_of p 8 2 == 0x3df1) ≡ true = eq-eqb (field_of p 8 2) 0x3df1 block.magic in
    let room : nat_le (64 + 8 * leaf_count p + 2 * value_count p) 4092 ≡ true = grind (arith, nat_tests) in
    let index : is_index (pairs_at p 64 (leaf_count p)) (leaf_stale p) due ≡ true =
    ap (λ (n : ℕ). is_index (pairs_at p 64 n) (leaf_stale p) due) block.count
    ∙ (ap (λ (xs : List Pair). is_index xs (leaf_stale p) due) block.pairs_is ∙ index-sound pairs due (leaf_stale p) moved ranked pointers block.stale) in
    let end : end_of (bests_from 0 ess) ≡ length ess = end-of 0 ess some ∙ omega arith in
    let covers : nat_le (end_of (bests_from 0 ess)) (value_count p) ≡ true = grind (arith, nat_tests) in
    let right : are_values bests p (4092 - 2 * value_count p) 0 (value_count p) ≡ true =
    ap (λ (n : ℕ). are_values bests p (4092 - 2 * n) 0 n) block.value_count
    ∙ values-are bests values (4092 - 2 * length values) 0 p block.values_are (λ j less. best-at 0 ess j (omega (arith, long))) in
    and_from _ _ (and_from _ _ (and_from _ _ (and_from _ _ magic room) index) covers) right

pub whole-leaf : (dir parent d : ℕ) (es : List EntryRec) (built placed : List (List ℕ)) (pairs : List Pair) → have_no_dots es ≡ true
    → d ≡ length (filled_shares dir parent es) → d ≤ 0x800000 → length built ≡ d + 1
    → ((k : ℕ) → k < d → IsBuiltDataBlock (get_or (filled_shares dir parent es) k []) (get_or built k []))
    → IsLeafBlock pairs (map rest_in (filled_shares dir parent es)) (get_or built d [])
    → 64 + 8 * length pairs + 2 * length (map rest_in (filled_shares dir parent es)) + 4 ≤ 4096
    → IsPermutation (pairs_from 0 (filled_shares dir parent es)) pairs → PairsRanked pairs → All IsPointer pairs
    → ArePlacedBlocks d 1 built placed → IsWhole Leaf dir parent (4096 * d) es (mapped (file_blocks d 1 0) placed)
unfolding is_whole_leaf
whole-leaf dir parent d es built placed pairs none count few long each leaf fit moved ranked pointers are =
    let ss = filled_shares dir parent es in
    let p = get_or placed d [] in
    let size : length placed ≡ d + 1 + 0 = omega (arith, are.count, long) in
    let front : drop d placed ≡ get_or placed d [] ∷ drop (d + 1) placed = drop_more placed d [] (omega arith) in
    let last : drop (d + 1) placed ≡ [] = drop_all (d + 1) placed (omega arith) in
    let ms : List Mapped = stand 0 (take d placed) ++ (stand 0x800000 (get_or placed d [] ∷ []) ++ stand 0x1000000 []) in
    let is : mapped (file_blocks d 1 0) placed ≡ stand 0 (take d placed) ++ (stand 0x800000 (get_or placed d [] ∷ []) ++ stand 0x1000000 []) =
    split d 1 0 placed size
    ∙ ap₂ (λ (bs cs : List (List ℕ)). stand 0 (take d placed) ++ (stand 0x800000 (take 1 bs) ++ stand 0x1000000 cs)) front last in
    let both = data-blocks d 1 ss built placed are count (omega arith) each in
    let here : d + 0 ≡ d = omega arith in
    let there : IsPlacedBlock 12 (get_or built d []) (get_or placed d []) =
    subst (λ (n : ℕ). IsPlacedBlock 12 (get_or built n []) (get_or placed n [])) here (index-block d 1 0 built placed are (omega arith) (omega arith)) in
    let block = leaf-placed pairs (map rest_in ss) (get_or built d []) p fit leaf there in
    let short : length (take d placed) ≤ 0x800000 = omega (arith, length-take-le d placed (omega arith)) in
    let all = together dir parent es (take d placed) (p ∷ []) [] none both short in
    let some = filled-some 64 (all_entries dir parent es) in
    let end : end_of (all_bests dir ms) ≡ d = ap end_of all.bests_are ∙ (end-of 0 ss some ∙ omega (arith, count)) in
    let beyond : filter is_beyond ms ≡ mapped_block 0x800000 p ∷ [] =
    filter-append is_beyond (stand 0 (take d placed)) (stand 0x800000 (p ∷ []) ++ stand 0x1000000 [])
    ∙ ap (λ (xs : List Mapped). xs ++ (mapped_block 0x800000 p ∷ [])) (filter-lost is_beyond 0 (take d placed) (λ m low high. grind (arith, nat_tests))) in
    let only : is_only_leaf (all_bests dir ms) (all_pairs dir ms) (filter is_beyond ms) ≡ true =
    ap₂ (λ (b : List Best) (q : List Pair). is_only_leaf b q (filter is_beyond ms)) all.bests_are all.pairs_are
    ∙ (ap (is_only_leaf (bests_from 0 ss) (pairs_from 0 ss)) beyond ∙ and_from _ _ refl (leaf-sound ss pairs p some fit moved ranked pointers block)) in
    subst (λ (xs : List Mapped). IsWhole Leaf dir parent (4096 * d) es xs) (sym is) (record {
      rules = and_from _ _ (and_from _ _ all.sound (eq-eqb (4096 * d) (4096 * end_of (all_bests dir ms)) (ap (λ (n : ℕ). 4096 * n) (sym end)))) only;
      entries_are = all.entries_are;
    })
