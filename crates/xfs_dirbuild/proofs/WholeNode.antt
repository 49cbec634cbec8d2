-- What is built in node form is whole.
use Rattle.std.proofs.Common.{◌≡◌, ℕ, ◌+◌, ◌-◌, ◌*◌, ◌/◌, ◌%◌, ◌<◌, ◌≤◌, inl, inr, Bool, true, false, not, ◌&&◌, ◌==◌, nat_le, nat_lt, if◌then◌else◌, List, [], ◌∷◌, ◌++◌, map, length, take, drop, get_or, count_by, refl, sym, ◌∙◌, ap, ap₂, subst, arith}
use Rattle.std.specs.List.{All, list_all, range_with_len}
use Rattle.std.specs.List.Sorted.{IsPermutation}
use Rattle.std.proofs.lemmas.List.{append-nil, length-map, length-take, length-take-le, length-drop, get_or-take, get_or-drop}
use Rattle.std.proofs.lemmas.List.Elements.{filter-append}
use Rattle.std.proofs.lemmas.Bool.{and_from, eq-eqb, ne_eqb}
use Rattle.std.proofs.lemmas.Bool.Decides.{nat_tests}
use Rattle.xfs_word.specs.Field.{field_of}
use Rattle.xfs_word.proofs.Written.{keeps}
use Rattle.xfs_dirdata.specs.declared.records.EntryRec.{EntryRec}
use Rattle.xfs_dirindex.specs.declared.pairs.Pair.{Pair}
use Rattle.xfs_dirindex.specs.declared.data.Best.{Best}
use Rattle.xfs_dirindex.specs.Mapped.{Mapped, mapped_block, mapped, is_free_index, is_index_block}
use Rattle.xfs_dirindex.specs.Lookup.{bytes_mapped}
use Rattle.xfs_dirindex.specs.Pairs.{is_stale, same_pairs, is_index}
use Rattle.xfs_dirindex.specs.Sorted.{PairsRanked}
use Rattle.xfs_dirindex.specs.Data.{have_no_dots, all_pairs, all_bests}
use Rattle.xfs_dirindex.specs.Leaf.{best_length_of, end_of, are_values}
use Rattle.xfs_dirindex.specs.IndexTree.{pair_of_place, index_tree_all_places, index_places, are_exactly, are_due, is_tree}
use Rattle.xfs_dirindex.specs.FreeBlocks.{free_count, is_used_value, used_in, has_values, is_free_sound, is_covered, has_value, are_free}
use Rattle.xfs_dirindex.specs.Node.{is_whole_node}
use Rattle.xfs_dirbuild.specs.declared.forms.DirectoryForm.TheVariants.{Node}
use Rattle.xfs_dirbuild.specs.Filling.{filled_shares, all_entries, pairs_from, rest_in}
use Rattle.xfs_dirbuild.specs.Index.{IsPointer, IsPlacedBlock, HoldsIndex, leaf_places, IsTreeOf}
use Rattle.xfs_dirbuild.specs.FreeBlocks.{IsBuiltFreeBlock, values_in}
use Rattle.xfs_dirbuild.specs.Placed.{IsBuiltDataBlock, file_blocks, ArePlacedBlocks, IsWhole}
use Rattle.xfs_dirbuild.proofs.Filled.{filled-some}
use Rattle.xfs_dirbuild.proofs.Rows.{none-stale}
use Rattle.xfs_dirbuild.proofs.Standing.{stand, split, filter-kept, filter-lost, all-stand, all-join, bytes-there, bytes-past}
use Rattle.xfs_dirbuild.proofs.DataPlaced.{bests_from, end-of, best-at, rest-small, all-bests}
use Rattle.xfs_dirbuild.proofs.Indexes.{range-count, same-each, index-sound, values-are}
use Rattle.xfs_dirbuild.proofs.Together.{together}
use Rattle.xfs_dirbuild.proofs.PlacedBlocks.{data-blocks, index-block, free-block}

-- the places of the index blocks
stand-places : (a : ℕ) (bs : List (List ℕ)) → map (λ (m : Mapped). pair_of_place m.offset) (stand (0x800000 + a) bs)
    ≡ map (λ k. pair_of_place (0x800000 + k)) (range_with_len a (length bs))
stand-places a [] = refl
stand-places a (b ∷ bs) =
    let on : 0x800000 + a + 1 ≡ 0x800000 + (a + 1) = omega arith in
    ap (λ (ps : List Pair). pair_of_place (0x800000 + a) ∷ ps)
    (ap (λ (n : ℕ). map (λ (m : Mapped). pair_of_place m.offset) (stand n bs)) on ∙ stand-places (a + 1) bs)

index-alone : (bs is fs : List (List ℕ)) → length bs ≤ 0x800000 → length is ≤ 0x800000
    → index_places (stand 0 bs ++ (stand 0x800000 is ++ stand 0x1000000 fs)) ≡ leaf_places 0 (length is)
unfolding index_places leaf_places
index-alone bs is fs few some =
    ap (map (λ (m : Mapped). pair_of_place m.offset))
    (filter-append is_index_block (stand 0 bs) (stand 0x800000 is ++ stand 0x1000000 fs)
    ∙ (ap₂ (λ (xs ys : List Mapped). xs ++ ys) (filter-lost is_index_block 0 bs (λ m low high. grind (arith, nat_tests)))
    (filter-append is_index_block (stand 0x800000 is) (stand 0x1000000 fs)
    ∙ ap₂ (λ (xs ys : List Mapped). xs ++ ys) (filter-kept is_index_block 0x800000 is (λ m low high. grind (arith, nat_tests)))
    (filter-lost is_index_block 0x1000000 fs (λ m low high. grind (arith, nat_tests))))
    ∙ append-nil (stand 0x800000 is)))
    ∙ stand-places 0 is

exactly : (ms : List Mapped) (places : List Pair) (wanted : List Pair) → places ≡ wanted → index_places ms ≡ wanted → are_exactly ms places ≡ true
unfolding are_exactly
exactly ms places wanted one two =
    ap₂ (λ (a b : List Pair). length a == length b && same_pairs a b) one two
    ∙ and_from _ _ (eq-eqb (length wanted) (length wanted) refl) (same-each wanted wanted (λ p. refl))

tree-sound : (ms : List Mapped) (count : ℕ) (pairs due all : List Pair) → IsTreeOf ms count pairs → index_places ms ≡ leaf_places 0 count → all ≡ due
    → IsPermutation due pairs → PairsRanked pairs → All IsPointer pairs → is_tree ms all ≡ true
unfolding is_tree are_due
tree-sound ms count pairs due all tree places all_is moved ranked pointers =
    and_from _ _ (and_from _ _ tree.rules (exactly ms (index_tree_all_places ms) (leaf_places 0 count) tree.places places))
    (ap₂ (λ (a b : List Pair). is_index a (count_by is_stale a) b) tree.pairs_are all_is
    ∙ index-sound pairs due (count_by is_stale pairs) moved ranked pointers (none-stale pairs pointers))

-- the free blocks
free-placed : (first : ℕ) (values b p : List ℕ) → IsBuiltFreeBlock first values b → IsPlacedBlock 4 b p → IsBuiltFreeBlock first values p
free-placed first values b p was placed =
    let stays = keeps b p 4 44 placed.same in
    record {
      magic = stays 0 4 (inl (omega arith)) ∙ was.magic;
      first_is = stays 48 4 (inr (omega arith)) ∙ was.first_is;
      count = stays 52 4 (inr (omega arith)) ∙ was.count;
      used = stays 56 4 (inr (omega arith)) ∙ was.used;
      values_are = record { each = λ j less. stays (64 + 2 * j) 2 (inr (omega arith)) ∙ was.values_are.each j less };
    }

value-in : (vs : List ℕ) (i j : ℕ) → j < length (values_in vs i) → (get_or (values_in vs i) j 0 ≡ get_or vs (2016 * i + j) 0) × (2016 * i + j < length vs) × (j < 2016)
value-in vs i j less =
    let long = length-take 2016 (drop (2016 * i) vs) in
    let rest = length-drop (2016 * i) vs in
    let few : j < 2016 = omega (arith, long) in (
      get_or-take 2016 (drop (2016 * i) vs) j 0 few ∙ get_or-drop (2016 * i) vs j 0,
      omega (arith, long, rest),
      few,
    )

used-all : (ess : List (List EntryRec)) (i : ℕ) (p : List ℕ) → IsBuiltFreeBlock (2016 * i) (values_in (map rest_in ess) i) p
    → used_in p (length (values_in (map rest_in ess) i)) ≡ length (values_in (map rest_in ess) i)
unfolding used_in
used-all ess i p block =
    range-count (is_used_value p) 0 (length (values_in (map rest_in ess) i)) (λ j low high.
    let less : j < length (values_in (map rest_in ess) i) = omega arith in
    let is = value-in (map rest_in ess) i j less in
    let value : field_of p (64 + 2 * j) 2 ≡ get_or (map rest_in ess) (2016 * i + j) 0 = block.values_are.each j less ∙ is.0 in
    let small = rest-small ess (2016 * i + j) in
    ap not (ne_eqb (field_of p (64 + 2 * j) 2) 0xffff (λ e. absurd (omega (arith, e, value, small)))))

values-sound : (ess : List (List EntryRec)) (i : ℕ) (p : List ℕ) → IsBuiltFreeBlock (2016 * i) (values_in (map rest_in ess) i) p → has_values (bests_from 0 ess) i p ≡ true
unfolding has_values
values-sound ess i p block =
    let vs = values_in (map rest_in ess) i in
    let bests = bests_from 0 ess in
    let most = length-take 2016 (drop (2016 * i) (map rest_in ess)) in
    let first : (field_of p 48 4 == 2016 * i) ≡ true = eq-eqb (field_of p 48 4) (2016 * i) block.first_is in
    let count : free_count p ≡ length (values_in (map rest_in ess) i) = block.count in
    let few : nat_le (free_count p) 2016 ≡ true = grind (arith, nat_tests, count, most) in
    let used : (field_of p 56 4 == used_in p (free_count p)) ≡ true =
    eq-eqb (field_of p 56 4) (used_in p (free_count p)) (block.used ∙ sym (ap (used_in p) block.count ∙ used-all ess i p block)) in
    let long = length-map ess rest_in in
    let right : are_values bests p 64 (2016 * i) (free_count p) ≡ true =
    ap (are_values bests p 64 (2016 * i)) block.count
    ∙ values-are bests vs 64 (2016 * i) p block.values_are (λ j less.
    let is = value-in (map rest_in ess) i j less in
    let number : 2016 * i + j ≡ 0 + (2016 * i + j) = omega arith in
    ap (best_length_of (bests_from 0 ess)) number ∙ (best-at 0 ess (2016 * i + j) (omega (arith, is.1, long)) ∙ sym is.0)) in
    and_from _ _ (and_from _ _ (and_from _ _ first few) used) right

free-sound : (ess : List (List EntryRec)) (k : ℕ) (p : List ℕ) → IsBuiltFreeBlock (2016 * k) (values_in (map rest_in ess) k) p
    → is_free_sound (bests_from 0 ess) (mapped_block (0x1000000 + k) p) ≡ true
unfolding is_free_sound
free-sound ess k p block =
    let free : nat_le 0x1000000 (0x1000000 + k) ≡ true = grind (arith, nat_tests) in
    let number : 0x1000000 + k - 0x1000000 ≡ k = omega arith in
    ap (λ (t : Bool). if t then has_values (bests_from 0 ess) (0x1000000 + k - 0x1000000) p else true) free
    ∙ (ap (λ (n : ℕ). has_values (bests_from 0 ess) n p) number ∙ values-sound ess k p block)

not-free : (bests : List Best) (m : Mapped) → is_free_index m ≡ false → is_free_sound bests m ≡ true
unfolding is_free_sound
not-free bests m is = ap (λ (t : Bool). if t then has_values bests (m.offset - 0x1000000) m.bytes else true) is

covered : (b : Best) (p : List ℕ) (n : ℕ) → length p ≡ 4096 → free_count p ≡ n → b.offset % 2016 < n → is_covered b p ≡ true
unfolding is_covered
covered b p n long count less =
    let test : nat_lt (b.offset % 2016) (free_count p) ≡ true = grind (arith, nat_tests) in
    and_from _ _ (eq-eqb (length p) 4096 long) test

-- all free blocks hold what they have to
pub record AreFree (ess : List (List EntryRec)) (fs : List (List ℕ)) : Type 0 where
  pub long : (k : ℕ) → k < length fs → length (get_or fs k []) ≡ 4096
  pub each : (k : ℕ) → k < length fs → IsBuiltFreeBlock (2016 * k) (values_in (map rest_in ess) k) (get_or fs k [])
  pub count : length fs ≡ (length ess + 2015) / 2016

all-free : (ess : List (List EntryRec)) (bs is fs : List (List ℕ)) (bests : List Best) → length bs ≤ 0x800000 → length is ≤ 0x800000 → AreFree ess fs
    → bests ≡ bests_from 0 ess → are_free bests (stand 0 bs ++ (stand 0x800000 is ++ stand 0x1000000 fs)) ≡ true
unfolding are_free
all-free ess bs is fs bests few some free bests_are =
    let ms : List Mapped = stand 0 bs ++ (stand 0x800000 is ++ stand 0x1000000 fs) in
    let mine = bests_from 0 ess in
    let data_free : list_all (is_free_sound (bests_from 0 ess)) (stand 0 bs) ≡ true =
    all-stand (is_free_sound (bests_from 0 ess)) 0 bs (λ k less.
    let low : nat_le 0x1000000 (0 + k) ≡ false = grind (arith, nat_tests) in
    not-free (bests_from 0 ess) (mapped_block (0 + k) (get_or bs k [])) low) in
    let index_free : list_all (is_free_sound (bests_from 0 ess)) (stand 0x800000 is) ≡ true =
    all-stand (is_free_sound (bests_from 0 ess)) 0x800000 is (λ k less.
    let low : nat_le 0x1000000 (0x800000 + k) ≡ false = grind (arith, nat_tests) in
    not-free (bests_from 0 ess) (mapped_block (0x800000 + k) (get_or is k [])) low) in
    let free_free : list_all (is_free_sound (bests_from 0 ess)) (stand 0x1000000 fs) ≡ true =
    all-stand (is_free_sound (bests_from 0 ess)) 0x1000000 fs (λ k less. free-sound ess k (get_or fs k []) (free.each k less)) in
    let sound : list_all (is_free_sound (bests_from 0 ess)) ms ≡ true =
    all-join (is_free_sound mine) (stand 0 bs) (stand 0x800000 is ++ stand 0x1000000 fs) data_free
    (all-join (is_free_sound mine) (stand 0x800000 is) (stand 0x1000000 fs) index_free free_free) in
    let long = length-map ess rest_in in
    let valued : list_all (has_value ms) (bests_from 0 ess) ≡ true =
    all-bests (has_value ms) 0 ess (λ k l less.
    let q = (0 + k) / 2016 in
    let inside : (0 + k) / 2016 < length fs = omega (arith, free.count) in
    let p = get_or fs ((0 + k) / 2016) [] in
    let bytes : bytes_mapped ms (0x1000000 + (0 + k) / 2016) ≡ get_or fs ((0 + k) / 2016) [] =
    bytes-past 0 bs (stand 0x800000 is ++ stand 0x1000000 fs) (0x1000000 + (0 + k) / 2016) (omega arith)
    ∙ (bytes-past 0x800000 is (stand 0x1000000 fs) (0x1000000 + (0 + k) / 2016) (omega arith)
    ∙ (ap (λ (xs : List Mapped). bytes_mapped xs (0x1000000 + (0 + k) / 2016)) (sym (append-nil (stand 0x1000000 fs)))
    ∙ bytes-there 0x1000000 fs [] ((0 + k) / 2016) inside)) in
    let block = free.each ((0 + k) / 2016) inside in
    let most = length-take 2016 (drop (2016 * ((0 + k) / 2016)) (map rest_in ess)) in
    let rest = length-drop (2016 * ((0 + k) / 2016)) (map rest_in ess) in
    let room : (0 + k) % 2016 < length (values_in (map rest_in ess) ((0 + k) / 2016)) = omega (arith, most, rest, long, less) in
    ap (λ (b : List ℕ). is_covered (record { offset = 0 + k; length = l }) b) bytes
    ∙ covered (record { offset = 0 + k; length = l }) p (length (values_in (map rest_in ess) ((0 + k) / 2016))) (free.long ((0 + k) / 2016) inside) block.count room) in
    ap (λ (b : List Best). list_all (is_free_sound b) ms && list_all (has_value ms) b) bests_are ∙ and_from _ _ sound valued

pub whole-node : (dir parent d i f : ℕ) (es : List EntryRec) (built placed : List (List ℕ)) (pairs : List Pair) → have_no_dots es ≡ true
    → d ≡ length (filled_shares dir parent es) → d ≤ 0x800000 → i ≤ 0x800000 → f ≡ (d + 2015) / 2016 → length built ≡ d + i + f
    → ((k : ℕ) → k < d → IsBuiltDataBlock (get_or (filled_shares dir parent es) k []) (get_or built k []))
    → ((ms : List Mapped) → HoldsIndex ms built d 0 i → IsTreeOf ms i pairs)
    → ((k : ℕ) → k < f → IsBuiltFreeBlock (2016 * k) (values_in (map rest_in (filled_shares dir parent es)) k) (get_or built (d + i + k) []))
    → IsPermutation (pairs_from 0 (filled_shares dir parent es)) pairs → PairsRanked pairs → All IsPointer pairs
    → ArePlacedBlocks d i built placed → IsWhole Node dir parent (4096 * d) es (mapped (file_blocks d i f) placed)
unfolding is_whole_node
whole-node dir parent d i f es built placed pairs none count few some frees long each tree free moved ranked pointers are =
    let ss = filled_shares dir parent es in
    let bs = take d placed in
    let is = take i (drop d placed) in
    let fs = drop (d + i) placed in
    let size : length placed ≡ d + i + f = omega (arith, are.count, long) in
    let ms : List Mapped = stand 0 (take d placed) ++ (stand 0x800000 (take i (drop d placed)) ++ stand 0x1000000 (drop (d + i) placed)) in
    let both = data-blocks d i ss built placed are count (omega (arith, long)) each in
    let bs_long : length (take d placed) ≡ d = length-take-le d placed (omega (arith, size)) in
    let rest_long = length-drop d placed in
    let is_long : length (take i (drop d placed)) ≡ i = length-take-le i (drop d placed) (omega (arith, size, rest_long)) in
    let fs_long : length (drop (d + i) placed) ≡ f = length-drop (d + i) placed ∙ omega (arith, size) in
    let short : length (take d placed) ≤ 0x800000 = omega (arith, bs_long) in
    let narrow : length (take i (drop d placed)) ≤ 0x800000 = omega (arith, is_long) in
    let all = together dir parent es bs is fs none both short in
    let any = filled-some 64 (all_entries dir parent es) in
    let end : end_of (all_bests dir ms) ≡ d = ap end_of all.bests_are ∙ (end-of 0 ss any ∙ omega (arith, count)) in
    let holds : HoldsIndex ms built d 0 i = record {
      each = λ k less.
          let inside : k < length (take i (drop d placed)) = omega (arith, is_long) in
          let there : d + k ≡ d + 0 + k = omega arith in
          let read : get_or (take i (drop d placed)) k [] ≡ get_or placed (d + k) [] =
          get_or-take i (drop d placed) k [] less ∙ get_or-drop d placed k [] in
          let bytes : bytes_mapped ms (0x800000 + k) ≡ get_or placed (d + k) [] =
          bytes-past 0 bs (stand 0x800000 is ++ stand 0x1000000 fs) (0x800000 + k) (omega (arith, short))
          ∙ (bytes-there 0x800000 is (stand 0x1000000 fs) k inside ∙ read) in
          subst (λ (b : List ℕ). IsPlacedBlock 12 (get_or built (d + 0 + k) []) b) (sym bytes)
          (subst (λ (n : ℕ). IsPlacedBlock 12 (get_or built n []) (get_or placed (d + k) [])) there (index-block d i k built placed are less (omega (arith, long))));
    } in
    let are_free_blocks : AreFree ss (drop (d + i) placed) = record {
      long = λ k less.
          ap length (get_or-drop (d + i) placed k [])
          ∙ (free-block d i k built placed are (omega (arith, fs_long, long))).long;
      each = λ k less.
          subst (λ (b : List ℕ). IsBuiltFreeBlock (2016 * k) (values_in (map rest_in ss) k) b) (sym (get_or-drop (d + i) placed k []))
          (free-placed (2016 * k) (values_in (map rest_in ss) k) (get_or built (d + i + k) []) (get_or placed (d + i + k) []) (free k (omega (arith, fs_long)))
          (free-block d i k built placed are (omega (arith, fs_long, long))));
      count = fs_long ∙ (frees ∙ ap (λ (n : ℕ). (n + 2015) / 2016) count);
    } in
    let places = index-alone bs is fs short narrow ∙ ap (leaf_places 0) is_long in
    let index = tree-sound ms i pairs (pairs_from 0 ss) (all_pairs dir ms) (tree ms holds) places all.pairs_are moved ranked pointers in
    let right = all-free ss bs is fs (all_bests dir ms) short narrow are_free_blocks all.bests_are in
    subst (λ (xs : List Mapped). IsWhole Node dir parent (4096 * d) es xs) (sym (split d i f placed size)) (record {
      rules = and_from _ _ (and_from _ _ (and_from _ _ all.sound (eq-eqb (4096 * d) (4096 * end_of (all_bests dir ms)) (ap (λ (n : ℕ). 4096 * n) (sym end)))) index) right;
      entries_are = all.entries_are;
    })
