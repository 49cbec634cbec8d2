-- Rows, one above the other, are a tree.
use Rattle.std.proofs.Common.{◌≡◌, ℕ, ◌+◌, Bool, true, false, ◌&&◌, ◌==◌, if◌then◌else◌, List, [], ◌∷◌, ◌++◌, refl, sym, ◌∙◌, ap, ap₂, subst, arith}
use Rattle.std.proofs.lemmas.Bool.{and_from, and_parts, eqb-true}
use Rattle.xfs_word.specs.Field.{field_of}
use Rattle.xfs_dirindex.specs.declared.pairs.Pair.{Pair}
use Rattle.xfs_dirindex.specs.Mapped.{Mapped}
use Rattle.xfs_dirindex.specs.Lookup.{bytes_mapped, is_mapped}
use Rattle.xfs_dirindex.specs.Leaf.{leaf_stale}
use Rattle.xfs_dirindex.specs.IndexTree.{pairs_of, magic_of_level, stated_of, has_index_form, has_neighbours, has_greatest, is_member, are_members, are_levels, pairs_below, pair_of_place, pairs_of_places, index_tree_places, leaf_pairs, root_links, level_in, index_level, keeps_rules, index_tree_all_places, all_leaf_pairs}
use Rattle.xfs_dirbuild.specs.Index.{leaf_places, IsTreeOf}
use Rattle.xfs_dirbuild.proofs.Rows.{places-join}

-- a row of one block at the front of the index is that of the root
pub record IsRoot (ms : List Mapped) (level : ℕ) (links : List Pair) : Type 0 where
  pub members : are_members ms true level 0 root_links ≡ true
  pub level_is : index_level ms ≡ level
  pub below : pairs_below ms root_links ≡ pairs_below ms links

-- the magic number and the level of the root
level-read : (level : ℕ) (p : List ℕ) → has_index_form level p ≡ true → level_in p ≡ level
unfolding has_index_form level_in
level-read level p form =
    let five = and_parts _ (leaf_stale p == stated_of level p) form in
    let four = and_parts _ (_) five.0 in
    let three = and_parts _ (_) four.0 in
    let two = and_parts (is_mapped p) (field_of p 8 2 == magic_of_level level) three.0 in
    let stated : leaf_stale p ≡ stated_of level p = eqb-true (leaf_stale p) (stated_of level p) five.1 in
    let magic : field_of p 8 2 ≡ magic_of_level level = eqb-true (field_of p 8 2) (magic_of_level level) two.1 in
    by_level (level == 0) refl two.0 stated magic
  where
    by_level : (t : Bool) → (level == 0) ≡ t → is_mapped p ≡ true → leaf_stale p ≡ stated_of level p → field_of p 8 2 ≡ magic_of_level level
        → (if is_mapped p && field_of p 8 2 == 0x3ebe then leaf_stale p else 0) ≡ level
    by_level true is there stated magic =
        let number : field_of p 8 2 ≡ 0x3dff = magic ∙ ap (λ (b : Bool). if b then 0x3dff else 0x3ebe) is in
        let other : (field_of p 8 2 == 0x3ebe) ≡ false = ap (λ (n : ℕ). n == 0x3ebe) number in
        rw (there, other) (sym (eqb-true level 0 is))
    by_level false is there stated magic =
        let number : field_of p 8 2 ≡ 0x3ebe = magic ∙ ap (λ (b : Bool). if b then 0x3dff else 0x3ebe) is in
        let same : (field_of p 8 2 == 0x3ebe) ≡ true = ap (λ (n : ℕ). n == 0x3ebe) number in
        let level_is : stated_of level p ≡ level = rw is refl in
        rw (there, same) (stated ∙ level_is)

root-from : (ms : List Mapped) (level : ℕ) (x : Pair) → are_members ms false level 0 (x ∷ []) ≡ true → x.address ≡ 0x800000 → IsRoot ms level (x ∷ [])
root-from ms level x members at =
    let one = and_parts (is_member ms false level 0 x 0) true members in
    let greatest = and_parts _ (has_greatest false x.hash (bytes_mapped ms x.address)) one.0 in
    let parts = and_parts (has_index_form level (bytes_mapped ms x.address)) (has_neighbours 0 0 (bytes_mapped ms x.address)) greatest.0 in
    let form : has_index_form level (bytes_mapped ms 0x800000) ≡ true = subst (λ (n : ℕ). has_index_form level (bytes_mapped ms n) ≡ true) at parts.0 in
    let neighbours : has_neighbours 0 0 (bytes_mapped ms 0x800000) ≡ true = subst (λ (n : ℕ). has_neighbours 0 0 (bytes_mapped ms n) ≡ true) at parts.1 in
    record {
      members = and_from _ true (and_from _ true (and_from _ _ form neighbours) refl) refl;
      level_is = level-read level (bytes_mapped ms 0x800000) form;
      below = ap (λ (n : ℕ). pairs_of (bytes_mapped ms n) ++ []) (sym at);
    }

pub is-root : (ms : List Mapped) (level : ℕ) (links : List Pair) → are_members ms false level 0 links ≡ true → pairs_of_places links ≡ leaf_places 0 1 → IsRoot ms level links
unfolding leaf_places
is-root ms level [] members places = cc
is-root ms level (x ∷ []) members places =
    let one : pair_of_place x.address ≡ pair_of_place 0x800000 = cc in
    root-from ms level x members (ap (λ (p : Pair). p.address) one)
is-root ms level (x ∷ y ∷ links) members places = cc

root-places : pairs_of_places root_links ≡ leaf_places 0 1
unfolding leaf_places
root-places = refl

-- a leaf alone, leaves under a node, and leaves under nodes under a node
pub tree-one : (ms : List Mapped) (pairs links : List Pair) → are_members ms false 0 0 links ≡ true → pairs_of_places links ≡ leaf_places 0 1
    → pairs_below ms links ≡ pairs → IsTreeOf ms 1 pairs
unfolding keeps_rules index_tree_all_places all_leaf_pairs
tree-one ms pairs links members places below =
    let root = is-root ms 0 links members places in
    record {
      rules = subst (λ (n : ℕ). are_levels ms true n root_links ≡ true) (sym root.level_is) root.members;
      places = subst (λ (n : ℕ). index_tree_places ms n root_links ≡ leaf_places 0 1) (sym root.level_is) root-places;
      pairs_are = subst (λ (n : ℕ). leaf_pairs ms n root_links ≡ pairs) (sym root.level_is) (root.below ∙ below);
    }

pub tree-two : (ms : List Mapped) (leaves : ℕ) (pairs links tops : List Pair) → are_members ms false 0 0 links ≡ true → pairs_of_places links ≡ leaf_places 1 leaves
    → pairs_below ms links ≡ pairs → are_members ms false 1 0 tops ≡ true → pairs_of_places tops ≡ leaf_places 0 1 → pairs_below ms tops ≡ links
    → IsTreeOf ms (1 + leaves) pairs
unfolding keeps_rules index_tree_all_places all_leaf_pairs
tree-two ms leaves pairs links tops members places below top_members top_places top_below =
    let root = is-root ms 1 tops top_members top_places in
    let under : pairs_below ms root_links ≡ links = root.below ∙ top_below in
    record {
      rules = subst (λ (n : ℕ). are_levels ms true n root_links ≡ true) (sym root.level_is)
          (and_from _ _ root.members (subst (λ (ls : List Pair). are_members ms false 0 0 ls ≡ true) (sym under) members));
      places = subst (λ (n : ℕ). index_tree_places ms n root_links ≡ leaf_places 0 (1 + leaves)) (sym root.level_is)
          (ap₂ (λ (a b : List Pair). a ++ b) root-places (ap pairs_of_places under ∙ places) ∙ places-join 0 1 leaves);
      pairs_are = subst (λ (n : ℕ). leaf_pairs ms n root_links ≡ pairs) (sym root.level_is) (ap (pairs_below ms) under ∙ below);
    }

pub tree-three : (ms : List Mapped) (nodes leaves : ℕ) (pairs links uppers tops : List Pair) → are_members ms false 0 0 links ≡ true
    → pairs_of_places links ≡ leaf_places (1 + nodes) leaves → pairs_below ms links ≡ pairs → are_members ms false 1 0 uppers ≡ true
    → pairs_of_places uppers ≡ leaf_places 1 nodes → pairs_below ms uppers ≡ links → are_members ms false 2 0 tops ≡ true
    → pairs_of_places tops ≡ leaf_places 0 1 → pairs_below ms tops ≡ uppers → IsTreeOf ms (1 + nodes + leaves) pairs
unfolding keeps_rules index_tree_all_places all_leaf_pairs
tree-three ms nodes leaves pairs links uppers tops members places below upper_members upper_places upper_below top_members top_places top_below =
    let root = is-root ms 2 tops top_members top_places in
    let under : pairs_below ms root_links ≡ uppers = root.below ∙ top_below in
    let deep : pairs_below ms (pairs_below ms root_links) ≡ links = ap (pairs_below ms) under ∙ upper_below in
    record {
      rules = subst (λ (n : ℕ). are_levels ms true n root_links ≡ true) (sym root.level_is)
          (and_from _ _ root.members
          (and_from _ _ (subst (λ (ls : List Pair). are_members ms false 1 0 ls ≡ true) (sym under) upper_members)
          (subst (λ (ls : List Pair). are_members ms false 0 0 ls ≡ true) (sym deep) members)));
      places = subst (λ (n : ℕ). index_tree_places ms n root_links ≡ leaf_places 0 (1 + nodes + leaves)) (sym root.level_is)
          (ap₂ (λ (a b : List Pair). a ++ b) root-places
          (ap₂ (λ (a b : List Pair). a ++ b) (ap pairs_of_places under ∙ upper_places) (ap pairs_of_places deep ∙ places) ∙ places-join 1 nodes leaves)
          ∙ (places-join 0 1 (nodes + leaves) ∙ ap (leaf_places 0) (omega arith)));
      pairs_are = subst (λ (n : ℕ). leaf_pairs ms n root_links ≡ pairs) (sym root.level_is) (ap (pairs_below ms) deep ∙ below);
    }
