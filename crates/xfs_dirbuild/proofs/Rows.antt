-- The rows of the tree of index blocks.
use Rattle.std.proofs.Common.{◌≡◌, ℕ, suc, zero, ◌+◌, ◌-◌, ◌*◌, ◌<◌, ◌≤◌, inl, inr, Bool, true, false, cond, ◌==◌, nat_le, List, [], ◌∷◌, ◌++◌, map, length, get_or, count_by, refl, sym, ◌∙◌, ap, ap₂, subst, arith}
use Rattle.std.specs.List.{All, range_with_len}
use Rattle.std.proofs.lemmas.Grind.{flat_map-append}
use Rattle.std.proofs.lemmas.List.{append-nil, append_assoc, map-append}
use Rattle.std.proofs.lemmas.List.Elements.{All-head, All-tail}
use Rattle.std.proofs.lemmas.List.Sums.{sum_by-cons}
use Rattle.std.proofs.lemmas.List.FromFn.{map-range_with_len_more}
use Rattle.std.proofs.lemmas.Bool.{and_from, eq-eqb, eqb-true, ne_eqb}
use Rattle.std.proofs.lemmas.Bool.Decides.{nat_tests}
use Rattle.xfs_word.specs.Field.{field_of}
use Rattle.xfs_word.proofs.Written.{keeps}
use Rattle.xfs_dirindex.specs.declared.pairs.Pair.{Pair}
use Rattle.xfs_dirindex.specs.Pairs.{pairs_at, is_stale}
use Rattle.xfs_dirindex.specs.Mapped.{Mapped}
use Rattle.xfs_dirindex.specs.Lookup.{bytes_mapped, is_mapped}
use Rattle.xfs_dirindex.specs.Leaf.{leaf_count, leaf_stale}
use Rattle.xfs_dirindex.specs.IndexTree.{pairs_of, magic_of_level, stated_of, has_index_form, has_neighbours, is_member, next_link, are_members, pairs_below, pair_of_place, pairs_of_places}
use Rattle.xfs_dirbuild.specs.Index.{IsPointer, IsIndexBlock, IsPlacedBlock, HoldsIndex, leaf_places}
use Rattle.xfs_dirbuild.proofs.Pairs.{pairs_at-same}

-- a block of the index is what it was, wherever it stands
pub index-placed : (level before next : ℕ) (pairs : List Pair) (b p : List ℕ) → IsIndexBlock level before next pairs b → IsPlacedBlock 12 b p
    → IsIndexBlock level before next pairs p
index-placed level before next pairs b p was placed =
    let stays = keeps b p 12 44 placed.same in
    record {
      forw = stays 0 4 (inl (omega arith)) ∙ was.forw;
      back = stays 4 4 (inl (omega arith)) ∙ was.back;
      magic = stays 8 2 (inl (omega arith)) ∙ was.magic;
      count = stays 56 2 (inr (omega arith)) ∙ was.count;
      stated = stays 58 2 (inr (omega arith)) ∙ was.stated;
      pairs_is = pairs_at-same b p 64 (length pairs) (λ a low high. stays a 4 (inr (omega arith))) ∙ was.pairs_is;
    }

-- no pointer is stale
pub none-stale : (pairs : List Pair) → All IsPointer pairs → count_by is_stale pairs ≡ 0
none-stale [] all = refl
none-stale (p ∷ ps) all =
    let head = All-head IsPointer p ps all in
    let some : 1 ≤ p.address = head.some in
    let live : is_stale p ≡ false = ne_eqb p.address 0 (λ e. absurd (omega (arith, e, some))) in
    let one : cond (is_stale p) 1 0 ≡ 0 = ap (λ (b : Bool). cond b 1 0) live in
    sum_by-cons (λ (q : Pair). cond (is_stale q) 1 0) p ps ∙ ap₂ (λ (a b : ℕ). a + b) one (none-stale ps (All-tail IsPointer p ps all))

pairs_of-is : (level before next : ℕ) (pairs : List Pair) (p : List ℕ) → IsIndexBlock level before next pairs p → pairs_of p ≡ pairs
unfolding pairs_of
pairs_of-is level before next pairs p block = ap (pairs_at p 64) block.count ∙ block.pairs_is

-- it keeps the rules of its level
form-kept : (level before next : ℕ) (pairs : List Pair) (p : List ℕ) → All IsPointer pairs → 1 ≤ length pairs → length pairs ≤ 504 → length p ≡ 4096
    → IsIndexBlock level before next pairs p → has_index_form level p ≡ true
unfolding has_index_form
form-kept level before next pairs p pointers some most long block =
    let there : is_mapped p ≡ true = eq-eqb (length p) 4096 long in
    let magic : (field_of p 8 2 == magic_of_level level) ≡ true = eq-eqb (field_of p 8 2) (magic_of_level level) block.magic in
    let one : nat_le 1 (leaf_count p) ≡ true = grind (arith, nat_tests, block.count) in
    let two : nat_le (leaf_count p) 504 ≡ true = grind (arith, nat_tests, block.count) in
    let stated : (leaf_stale p == stated_of level p) ≡ true = eq-eqb (leaf_stale p) (stated_of level p) (block.stated ∙ sym (by_level (level == 0) refl)) in
    and_from _ _ (and_from _ _ (and_from _ _ (and_from _ _ there magic) one) two) stated
  where
    by_level : (t : Bool) → (level == 0) ≡ t → stated_of level p ≡ level
    by_level true is = rw is (ap (count_by is_stale) (pairs_of-is level before next pairs p block) ∙ (none-stale pairs pointers ∙ sym (eqb-true level 0 is)))
    by_level false is = rw is refl

pub member : (ms : List Mapped) (level before next : ℕ) (link : Pair) (pairs : List Pair) → All IsPointer pairs → 1 ≤ length pairs → length pairs ≤ 504
    → length (bytes_mapped ms link.address) ≡ 4096 → IsIndexBlock level before next pairs (bytes_mapped ms link.address)
    → link.hash ≡ field_of (bytes_mapped ms link.address) (56 + 8 * length pairs) 4 → is_member ms false level before link next ≡ true
unfolding has_neighbours
member ms level before next link pairs pointers some most long block hash =
    let p = bytes_mapped ms link.address in
    let back : (field_of p 4 4 == before) ≡ true = eq-eqb (field_of p 4 4) before block.back in
    let forw : (field_of p 0 4 == next) ≡ true = eq-eqb (field_of p 0 4) next block.forw in
    let last : field_of p (56 + 8 * leaf_count p) 4 ≡ link.hash = ap (λ (n : ℕ). field_of p (56 + 8 * n) 4) block.count ∙ sym hash in
    and_from _ _ (and_from _ _ (form-kept level before next pairs p pointers some most long block) (and_from _ _ back forw))
    (eq-eqb (field_of p (56 + 8 * leaf_count p) 4) link.hash last)

-- the pairs below one more link
pub below-more : (ms : List Mapped) (links : List Pair) (x : Pair) (level before next : ℕ) (pairs front all : List Pair)
    → IsIndexBlock level before next pairs (bytes_mapped ms x.address) → pairs_below ms links ≡ front → all ≡ front ++ pairs → pairs_below ms (links ++ x ∷ []) ≡ all
below-more ms links x level before next pairs front all block were is =
    flat_map-append (λ (link : Pair). pairs_of (bytes_mapped ms link.address)) links (x ∷ [])
    ∙ (ap₂ (λ (xs ys : List Pair). xs ++ ys) were (append-nil (pairs_of (bytes_mapped ms x.address)) ∙ pairs_of-is level before next pairs (bytes_mapped ms x.address) block)
    ∙ sym is)

-- the places of one more link
pub places-more : (links : List Pair) (x : Pair) (first i : ℕ) → pairs_of_places links ≡ leaf_places first i → x.address ≡ 0x800000 + (first + i)
    → pairs_of_places (links ++ x ∷ []) ≡ leaf_places first (i + 1)
unfolding leaf_places
places-more links x first i were at =
    map-append (λ (link : Pair). pair_of_place link.address) links (x ∷ [])
    ∙ (ap₂ (λ (xs : List Pair) (a : ℕ). xs ++ pair_of_place a ∷ []) were at
    ∙ sym (map-range_with_len_more (λ k. pair_of_place (0x800000 + k)) first i (first + i) refl))

pub places-none : (first : ℕ) → leaf_places first 0 ≡ []
unfolding leaf_places
places-none first = refl

pub places-join : (first a b : ℕ) → leaf_places first a ++ leaf_places (first + a) b ≡ leaf_places first (a + b)
unfolding leaf_places
places-join first zero b =
    ap₂ (λ (f n : ℕ). map (λ k. pair_of_place (0x800000 + k)) (range_with_len f n)) (omega arith) (omega arith)
places-join first (suc a) b =
    let place : first + suc a ≡ first + 1 + a = omega arith in
    let count : suc a + b ≡ suc (a + b) = omega arith in
    ap (λ (ps : List Pair). pair_of_place (0x800000 + first) ∷ ps)
    (ap (λ (f : ℕ). leaf_places (first + 1) a ++ leaf_places f b) place ∙ places-join (first + 1) a b)
    ∙ ap (λ (n : ℕ). leaf_places first n) (sym count)

-- a level with one member more in front of the rest
pub members-more : (ms : List Mapped) (level before next : ℕ) (links rest : List Pair) (x : Pair) → is_member ms false level before x next ≡ true → next ≡ next_link rest
    → are_members ms false level x.address rest ≡ true
    → (are_members ms false level before (x ∷ rest) ≡ true → are_members ms false level 0 (links ++ x ∷ rest) ≡ true)
    → are_members ms false level 0 ((links ++ x ∷ []) ++ rest) ≡ true
members-more ms level before next links rest x one next_is others leads =
    let here : is_member ms false level before x (next_link rest) ≡ true = subst (λ (n : ℕ). is_member ms false level before x n ≡ true) next_is one in
    subst (λ (ls : List Pair). are_members ms false level 0 ls ≡ true) (sym (append_assoc links (x ∷ []) rest))
    (leads (and_from (is_member ms false level before x (next_link rest)) (are_members ms false level x.address rest) here others))

-- the blocks of a row stand as they were, but for those that were not yet written
pub holds-part : (ms : List Mapped) (old new : List (List ℕ)) (base from count start total : ℕ) → HoldsIndex ms new base start total → start ≤ from
    → from + count ≤ start + total → ((k : ℕ) → k < count → get_or new (base + from + k) [] ≡ get_or old (base + from + k) []) → HoldsIndex ms old base from count
holds-part ms old new base from count start total holds low high same = record {
  each = λ k inside.
      let there : base + start + (from - start + k) ≡ base + from + k = omega arith in
      let place : 0x800000 + start + (from - start + k) ≡ 0x800000 + from + k = omega arith in
      let whole = holds.each (from - start + k) (omega arith) in
      subst (λ (b : List ℕ). IsPlacedBlock 12 b (bytes_mapped ms (0x800000 + from + k))) (ap (λ (n : ℕ). get_or new n []) there ∙ same k inside)
      (subst (λ (n : ℕ). IsPlacedBlock 12 (get_or new (base + start + (from - start + k)) []) (bytes_mapped ms n)) place whole);
}
