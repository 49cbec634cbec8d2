-- The places of the entries of all directories: each but the root's stands there once.
use Rattle.std.proofs.Common.{◌≡◌, ◌≢◌, ℕ, ◌+◌, ◌-◌, ◌==◌, ◌≤◌, ◌<◌, true, List, length, get_or, refl, sym, ap, ◌∙◌, arith}
use Rattle.std.specs.List.{All, AllPairs, Contains, flat_map, range_with_len}
use Rattle.std.proofs.lemmas.Bool.{eq-eqb, eqb-true}
use Rattle.std.proofs.lemmas.List.Elements.{All-filter, filter_passes}
use Rattle.std.proofs.lemmas.List.FromFn.{get_or-range_with_len, length-range_with_len}
use Rattle.std.proofs.lemmas.List.Kept.{AllPairs-filter}
use Rattle.xfs_proto.specs.declared.protofile.ProtoNode.{ProtoNode}
use Rattle.xfs_filled.specs.FileTrees.{AreProtoNodes, child_places, is_directory_node, is_of, node_at, places_of_kind}
use Rattle.xfs_filled.proofs.Ordered.{contains_filter}
use Rattle.xfs_populated.proofs.NameLists.{Differ, all_flat, contains_flat, pairs_flat, range_apart}

pub in_range : (a n k : ℕ) → a ≤ k → k < a + n → Contains (range_with_len a n) k
in_range a n k from low =
    let long = length-range_with_len a n in
    let there : get_or (range_with_len a n) (k - a) k ≡ a + (k - a) = get_or-range_with_len a n (k - a) k (omega (arith, from, low)) in
    let back : a + (k - a) ≡ k = omega (arith, from) in
    (k - a, omega (arith, long, from, low), there ∙ back)

module _ (ns : List ProtoNode) where
  abbrev pub directories : List ℕ
  directories = places_of_kind ns true

  abbrev pub named_places : List ℕ
  named_places = flat_map (child_places ns) directories

  abbrev pub IsNamedPlace : ℕ → Type 0
  IsNamedPlace i = (1 ≤ i) × (i < length ns)

  pub directories_apart : AllPairs Differ directories
  directories_apart = AllPairs-filter Differ (λ k. is_of true (node_at ns k).kind) (range_with_len 0 (length ns)) (range_apart 0 (length ns))

  pub directories_inside : All (λ k. k < length ns) directories
  directories_inside =
      All-filter (λ k. is_of true (node_at ns k).kind) (λ k. k < length ns) (range_with_len 0 (length ns)) (λ m d low.
      let few : m < length ns = omega (arith, length-range_with_len 0 (length ns), low) in
      let is = get_or-range_with_len 0 (length ns) m d few in
      omega (arith, is, few))

  pub directories_are : All (λ k. is_directory_node ns k ≡ true) directories
  directories_are = filter_passes (λ k. is_of true (node_at ns k).kind) (range_with_len 0 (length ns))

  pub has_directory : (k : ℕ) → k < length ns → is_directory_node ns k ≡ true → Contains directories k
  has_directory k low is = contains_filter (λ i. is_of true (node_at ns i).kind) k (range_with_len 0 (length ns)) is (in_range 0 (length ns) k (omega arith) (omega (arith, low)))

  pub child_inside : (k : ℕ) → All IsNamedPlace (child_places ns k)
  child_inside k =
      All-filter (λ i. (node_at ns i).parent == k) IsNamedPlace (range_with_len 1 (length ns - 1)) (λ m d low.
      let few : m < length ns - 1 = omega (arith, length-range_with_len 1 (length ns - 1), low) in
      let is = get_or-range_with_len 1 (length ns - 1) m d few in
      (omega (arith, is), omega (arith, is, few)))

  pub child_of : (k : ℕ) → All (λ i. (node_at ns i).parent ≡ k) (child_places ns k)
  child_of k m d low = eqb-true _ k (filter_passes (λ i. (node_at ns i).parent == k) (range_with_len 1 (length ns - 1)) m d low)

  children_apart : (k : ℕ) → AllPairs Differ (child_places ns k)
  children_apart k = AllPairs-filter Differ (λ i. (node_at ns i).parent == k) (range_with_len 1 (length ns - 1)) (range_apart 1 (length ns - 1))

  across : (k m : ℕ) → k ≢ m → All (λ i. All (Differ i) (child_places ns m)) (child_places ns k)
  across k m differ i d low j e few same =
      differ (sym (child_of k i d low) ∙ (ap (λ (n : ℕ). (node_at ns n).parent) same ∙ child_of m j e few))

  pub named_apart : AllPairs Differ named_places
  named_apart = pairs_flat Differ Differ (child_places ns) children_apart across directories directories_apart

  pub named_inside : All IsNamedPlace named_places
  named_inside = all_flat IsNamedPlace (child_places ns) directories (λ m d low. child_inside (get_or directories m d))

  pub has_named : AreProtoNodes ns → (i : ℕ) → 1 ≤ i → i < length ns → Contains named_places i
  has_named fs i some low =
      let below = fs.below i some low in
      let before = below.behind in
      contains_flat (child_places ns) i (node_at ns i).parent directories (has_directory (node_at ns i).parent (omega (arith, before, low)) below.directory)
      (contains_filter (λ j. (node_at ns j).parent == (node_at ns i).parent) i (range_with_len 1 (length ns - 1)) (eq-eqb _ _ refl)
      (in_range 1 (length ns - 1) i some (omega (arith, some, low))))
