-- Parts by cuts: of a bank and of its bytes, of cuts in a row, and one by one.
use Rattle.std.proofs.Common.{◌≡◌, ℕ, zero, suc, ◌+◌, ◌-◌, ◌*◌, ◌/◌, ◌<◌, ◌≤◌, List, [], ◌∷◌, ◌++◌, take, drop, length, get_or, Some, arith, ap, refl, sym, subst, ◌∙◌}
use Rattle.std.specs.Prelude.{slice_get}
use Rattle.std.specs.List.{concat}
use Rattle.std.specs.Fork.{AcceptsAt, AcceptsEach, ChangesAt, ChangesEach}
use Rattle.std.proofs.lemmas.List.{length-drop, take-take, drop-take, drop-drop, take_all, take_at, drop_at, take-append-drop, append-nil, nil_from_length}
use Rattle.std.proofs.lemmas.List.Folds.{concat-append}
use denote.Ref.{MutBor}
use denote.Param.Members.{Shared}
use Rattle.xfs_disk.specs.Blocks.{Image}
use Rattle.xfs_disk.specs.Memory.{blocks_of_bytes}
use Rattle.xfs_collections.specs.Bank.{AreCuts, parts_from}
use Rattle.xfs_collections.specs.Parts.{flat_parts, EachFrom, EachPairFrom}
use Rattle.xfs_collections.proofs.Blocks.{length-blocks_of, concat-blocks_of, take-blocks_of, drop-blocks_of}

-- cuts go up
pub AreCuts-rises : (low high : ℕ) (cuts : List ℕ) → AreCuts low high cuts → low ≤ high
AreCuts-rises low high [] are = are
AreCuts-rises low high (cut ∷ cuts) are = omega (arith, are.0, AreCuts-rises cut high cuts are.1)

-- cuts up to one of them, and those behind it
pub AreCuts-split : (low high cut : ℕ) (before after : List ℕ) → AreCuts low high (before ++ cut ∷ after) → AreCuts low cut before × AreCuts cut high after
AreCuts-split low high cut [] after are = are
AreCuts-split low high cut (c ∷ cs) after are = let rest = AreCuts-split c high cut cs after are.1 in ((are.0, rest.0), rest.1)

-- cuts in a row
pub AreCuts-append : (low middle high : ℕ) (before after : List ℕ) → AreCuts low middle before → AreCuts middle high after → AreCuts low high (before ++ after)
AreCuts-append low middle high [] [] up on = omega (arith, up, on)
AreCuts-append low middle high [] (c ∷ cs) up on = (omega (arith, up, on.0), on.1)
AreCuts-append low middle high (c ∷ cs) after up on = (up.0, AreCuts-append c middle high cs after up.1 on)

-- the parts of a bank are the parts of its bytes
pub parts_from-blocks_of : (low high n : ℕ) (cuts bytes : List ℕ) → low + n ≡ high → AreCuts low high cuts → length bytes ≡ n * 4096 → parts_from low cuts (blocks_of_bytes n bytes) ≡ flat_parts low cuts bytes
parts_from-blocks_of low high n [] bytes ends are whole = ap (λ (xs : List ℕ). xs ∷ []) (concat-blocks_of n bytes ∙ take_all (n * 4096) bytes (omega arith))
parts_from-blocks_of low high n (cut ∷ cuts) bytes ends are whole =
    let within : cut - low ≤ n = omega (arith, are.0, AreCuts-rises cut high cuts are.1) in
    let part : concat (take (cut - low) (blocks_of_bytes n bytes)) ≡ take ((cut - low) * 4096) bytes = ap (λ (image : Image). concat image) (take-blocks_of (cut - low) n bytes within) ∙ concat-blocks_of (cut - low) bytes in
    let others : parts_from cut cuts (drop (cut - low) (blocks_of_bytes n bytes)) ≡ flat_parts cut cuts (drop ((cut - low) * 4096) bytes) =
    ap (λ (image : Image). parts_from cut cuts image) (drop-blocks_of (cut - low) n bytes within)
    ∙ parts_from-blocks_of cut high (n - (cut - low)) cuts (drop ((cut - low) * 4096) bytes) (omega (arith, are.0)) are.1 (omega (arith, length-drop ((cut - low) * 4096) bytes)) in
    λ k. part k ∷ others k

-- the parts of what a bank holds are those of its bytes
pub held_parts : (n : ℕ) (bytes : List ℕ) (bank : Image) (cuts : List ℕ) → blocks_of_bytes n bytes ≡ bank → length bytes ≡ n * 4096 → AreCuts 0 (length bank) cuts → parts_from 0 cuts bank ≡ flat_parts 0 cuts bytes
held_parts n bytes bank cuts held whole are =
    let count : length bank ≡ n = ap length (sym held) ∙ length-blocks_of n bytes in
    ap (λ (image : Image). parts_from 0 cuts image) (sym held) ∙ parts_from-blocks_of 0 n n cuts bytes (omega arith) (subst (λ (m : ℕ). AreCuts 0 m cuts) count are) whole

-- the parts of any bank in a row are its bytes
pub concat-parts_from : (low : ℕ) (cuts : List ℕ) (bank : Image) → concat (parts_from low cuts bank) ≡ concat bank
concat-parts_from low [] bank = append-nil (concat bank)
concat-parts_from low (cut ∷ cuts) bank =
    ap (λ (xs : List ℕ). concat (take (cut - low) bank) ++ xs) (concat-parts_from cut cuts (drop (cut - low) bank))
    ∙ sym (concat-append (take (cut - low) bank) (drop (cut - low) bank)) ∙ ap (λ (image : Image). concat image) (take-append-drop (cut - low) bank)

-- any bank has one part more than there are cuts
pub length-parts_from : (low : ℕ) (cuts : List ℕ) (bank : Image) → length (parts_from low cuts bank) ≡ length cuts + 1
length-parts_from low [] bank = refl
length-parts_from low (cut ∷ cuts) bank = omega (arith, length-parts_from cut cuts (drop (cut - low) bank))

-- each part begins no lower than the first block
begins_above : (low high : ℕ) (cuts : List ℕ) (j : ℕ) → AreCuts low high cuts → j ≤ length cuts → low ≤ get_or (low ∷ cuts) j 0
begins_above low high cuts zero are within = omega arith
begins_above low high [] (suc j) are within = absurd (omega arith)
begins_above low high (cut ∷ cuts) (suc j) are within = omega (arith, are.0, begins_above cut high cuts j are.1 (omega arith))

-- a part has the blocks from the cut before it, or the first block, up to the cut behind it, or the end
pub part_at : (low high : ℕ) (cuts : List ℕ) (bank : Image) (j : ℕ) → high ≡ low + length bank → AreCuts low high cuts → j ≤ length cuts →
    slice_get (parts_from low cuts bank) j ≡ Some (concat (take (get_or cuts j high - get_or (low ∷ cuts) j 0) (drop (get_or (low ∷ cuts) j 0 - low) bank)))
part_at low high [] bank zero ends are within =
    let none : 0 ≡ low - low = omega arith in
    ap (λ (image : Image). Some (concat image)) (sym (take_all (high - low) bank (omega arith)) ∙ ap (λ (n : ℕ). take (high - low) (drop n bank)) none)
part_at low high [] bank (suc j) ends are within = absurd (omega arith)
part_at low high (cut ∷ cuts) bank zero ends are within =
    let none : 0 ≡ low - low = omega arith in
    ap (λ (n : ℕ). Some (concat (take (cut - low) (drop n bank)))) none
part_at low high (cut ∷ cuts) bank (suc j) ends are within =
    let up : cut ≤ high = AreCuts-rises cut high cuts are.1 in
    let start : ℕ = get_or (cut ∷ cuts) j 0 in
    let above : cut ≤ start = begins_above cut high cuts j are.1 (omega arith) in
    let place : (cut - low) + (start - cut) ≡ start - low = omega (arith, are.0) in
    part_at cut high cuts (drop (cut - low) bank) j (omega (arith, are.0, length-drop (cut - low) bank)) are.1 (omega arith)
    ∙ ap (λ (image : Image). Some (concat (take (get_or cuts j high - start) image))) (drop-drop (start - cut) (cut - low) bank ∙ ap (λ (n : ℕ). drop n bank) place)

-- there is one part more than there are cuts
pub length-flat_parts : (low : ℕ) (cuts bytes : List ℕ) → length (flat_parts low cuts bytes) ≡ length cuts + 1
length-flat_parts low [] bytes = refl
length-flat_parts low (cut ∷ cuts) bytes = omega (arith, length-flat_parts cut cuts (drop ((cut - low) * 4096) bytes))

-- the parts up to a cut are those of the bytes in front of it, and the others those of the bytes behind it
pub flat_parts-append : (low cut : ℕ) (before after bytes : List ℕ) → AreCuts low cut before →
    flat_parts low (before ++ cut ∷ after) bytes ≡ flat_parts low before (take ((cut - low) * 4096) bytes) ++ flat_parts cut after (drop ((cut - low) * 4096) bytes)
flat_parts-append low cut [] after bytes are = refl
flat_parts-append low cut (c ∷ cs) after bytes are =
    let up : c ≤ cut = AreCuts-rises c cut cs are.1 in
    let size : (cut - low) * 4096 ≡ (c - low) * 4096 + (cut - c) * 4096 = omega (arith, are.0) in
    let first : take ((c - low) * 4096) bytes ≡ take ((c - low) * 4096) (take ((cut - low) * 4096) bytes) = sym (take-take ((c - low) * 4096) ((cut - low) * 4096) bytes (omega arith)) in
    let middle : take ((cut - c) * 4096) (drop ((c - low) * 4096) bytes) ≡ drop ((c - low) * 4096) (take ((cut - low) * 4096) bytes) =
    sym (ap (λ (m : ℕ). drop ((c - low) * 4096) (take m bytes)) size ∙ drop-take ((c - low) * 4096) ((cut - c) * 4096) bytes) in
    let last : drop ((cut - c) * 4096) (drop ((c - low) * 4096) bytes) ≡ drop ((cut - low) * 4096) bytes =
    drop-drop ((cut - c) * 4096) ((c - low) * 4096) bytes ∙ ap (λ (m : ℕ). drop m bytes) (sym size) in
    let others = flat_parts-append c cut cs after (drop ((c - low) * 4096) bytes) are.1 in
    λ k. first k ∷ (others ∙ (λ j. flat_parts c cs (middle j) ++ flat_parts cut after (last j))) k

-- what is so of all parts is so of those in front and of those behind
pub EachFrom-split : (P : ℕ → List ℕ → Type 0) (first : ℕ) (xs ys : List (List ℕ)) → EachFrom P first (xs ++ ys) → EachFrom P first xs × EachFrom P (first + length xs) ys
EachFrom-split P first [] ys all = (tt, let none : first ≡ first + 0 = omega arith in subst (λ (n : ℕ). EachFrom P n ys) none all)
EachFrom-split P first (x ∷ xs) ys all =
    let rest = EachFrom-split P (first + 1) xs ys all.1 in
    let more : first + 1 + length xs ≡ first + suc (length xs) = omega arith in
    ((all.0, rest.0), subst (λ (n : ℕ). EachFrom P n ys) more rest.1)

-- what is so of those in front and of those behind is so of all
pub EachPairFrom-append : (R : ℕ → List ℕ → List ℕ → Type 0) (first : ℕ) (xs us ys vs : List (List ℕ)) → EachPairFrom R first xs us → EachPairFrom R (first + length xs) ys vs → EachPairFrom R first (xs ++ ys) (us ++ vs)
EachPairFrom-append R first [] [] ys vs front back = let none : first + 0 ≡ first = omega arith in subst (λ (n : ℕ). EachPairFrom R n ys vs) none back
EachPairFrom-append R first [] (u ∷ us) ys vs front back = absurd front
EachPairFrom-append R first (x ∷ xs) [] ys vs front back = absurd front
EachPairFrom-append R first (x ∷ xs) (u ∷ us) ys vs front back =
    let more : first + suc (length xs) ≡ first + 1 + length xs = omega arith in
    (front.0, EachPairFrom-append R (first + 1) xs us ys vs front.1 (subst (λ (n : ℕ). EachPairFrom R n ys vs) more back))

-- what is so of the part of each number is so of each part in turn
pub each_from : (P : ℕ → List ℕ → Type 0) (first : ℕ) (parts : List (List ℕ)) → ((i : ℕ) (part : List ℕ) → i < length parts → part ≡ get_or parts i part → P (first + i) part) → EachFrom P first parts
each_from P first [] so = tt
each_from P first (x ∷ xs) so =
    let none : first + 0 ≡ first = omega arith in (
      subst (λ (n : ℕ). P n x) none (so 0 x (omega arith) refl),
      each_from P (first + 1) xs (λ i part inside is. let more : first + suc i ≡ first + 1 + i = omega arith in subst (λ (n : ℕ). P n part) more (so (suc i) part (omega arith) is)),
    )

-- what is so of each part in turn is so of the part of each number
pub pair_at : (R : ℕ → List ℕ → List ℕ → Type 0) (first : ℕ) (olds news : List (List ℕ)) (i j : ℕ) (d : List ℕ) → EachPairFrom R first olds news → i < length olds → first + i ≡ j → R j (get_or olds i d) (get_or news i d)
pair_at R first [] [] i j d all inside at = absurd (omega arith)
pair_at R first [] (y ∷ ys) i j d all inside at = absurd all
pair_at R first (x ∷ xs) [] i j d all inside at = absurd all
pair_at R first (x ∷ xs) (y ∷ ys) zero j d all inside at = let same : first ≡ j = omega arith in subst (λ (n : ℕ). R n x y) same all.0
pair_at R first (x ∷ xs) (y ∷ ys) (suc i) j d all inside at = pair_at R (first + 1) xs ys i j d all.1 (omega arith) (omega arith)

-- a list halved, of which the second half begins with a cut
pub halves : (m cut : ℕ) (cuts before rest after : List ℕ) → before ≡ take m cuts → rest ≡ drop m cuts → rest ≡ cut ∷ after → cuts ≡ before ++ cut ∷ after
halves m cut cuts before rest after front back begins = sym (take-append-drop m cuts) ∙ (λ k. sym front k ++ (sym back ∙ begins) k)

-- no cuts, where the second half has none
pub no_cuts : (cuts rest : List ℕ) → length rest + length cuts / 2 ≡ length cuts → length rest ≡ 0 → cuts ≡ []
no_cuts cuts rest back none = nil_from_length cuts (omega arith)

module _ (low high cut : ℕ) (cuts before after : List ℕ) (joined : cuts ≡ before ++ cut ∷ after) (are : AreCuts low high cuts) where
  -- the cuts before one of them, and those after it
  pub both_cuts : AreCuts low cut before × AreCuts cut high after
  both_cuts = AreCuts-split low high cut before after (subst (λ (xs : List ℕ). AreCuts low high xs) joined are)

  -- the parts of the bytes in front of the cut, and of those behind it
  both_parts : (bytes : List ℕ) → flat_parts low cuts bytes ≡ flat_parts low before (take ((cut - low) * 4096) bytes) ++ flat_parts cut after (drop ((cut - low) * 4096) bytes)
  both_parts bytes = ap (λ (xs : List ℕ). flat_parts low xs bytes) joined ∙ flat_parts-append low cut before after bytes both_cuts.0

  module _ (first next : ℕ) (counts : next ≡ first + length before + 1) where
    -- what is so of all parts is so of those in front of the cut and of those behind it
    pub each_in_both : (P : ℕ → List ℕ → Type 0) (bytes front back : List ℕ) → front ≡ take ((cut - low) * 4096) bytes → back ≡ drop ((cut - low) * 4096) bytes →
        EachFrom P first (flat_parts low cuts bytes) → EachFrom P first (flat_parts low before front) × EachFrom P next (flat_parts cut after back)
    each_in_both P bytes front back is_front is_back all =
        let both = EachFrom-split P first (flat_parts low before (take ((cut - low) * 4096) bytes)) (flat_parts cut after (drop ((cut - low) * 4096) bytes)) (subst (λ (xs : List (List ℕ)). EachFrom P first xs) (both_parts bytes) all) in
        let number : first + length (flat_parts low before (take ((cut - low) * 4096) bytes)) ≡ next = omega (arith, length-flat_parts low before (take ((cut - low) * 4096) bytes), counts) in (
          subst (λ (xs : List ℕ). EachFrom P first (flat_parts low before xs)) (sym is_front) both.0,
          let moved : EachFrom P next (flat_parts cut after (drop ((cut - low) * 4096) bytes)) = subst (λ (n : ℕ). EachFrom P n (flat_parts cut after (drop ((cut - low) * 4096) bytes))) number both.1 in
              subst (λ (xs : List ℕ). EachFrom P next (flat_parts cut after xs)) (sym is_back) moved,
        )

    -- what became of those in front and of those behind became of all
    pub each_of_both : (R : ℕ → List ℕ → List ℕ → Type 0) (bytes front back new_front new_back : List ℕ) → front ≡ take ((cut - low) * 4096) bytes → back ≡ drop ((cut - low) * 4096) bytes → length new_front ≡ (cut - low) * 4096 →
        EachPairFrom R first (flat_parts low before front) (flat_parts low before new_front) → EachPairFrom R next (flat_parts cut after back) (flat_parts cut after new_back) →
        EachPairFrom R first (flat_parts low cuts bytes) (flat_parts low cuts (new_front ++ new_back))
    each_of_both R bytes front back new_front new_back is_front is_back size in_front behind =
        let number : next ≡ first + length (flat_parts low before front) = omega (arith, length-flat_parts low before front, counts) in
        let all = EachPairFrom-append R first (flat_parts low before front) (flat_parts low before new_front) (flat_parts cut after back) (flat_parts cut after new_back) in_front
        (subst (λ (n : ℕ). EachPairFrom R n (flat_parts cut after back) (flat_parts cut after new_back)) number behind) in
        let olds : flat_parts low before front ++ flat_parts cut after back ≡ flat_parts low cuts bytes = (λ k. flat_parts low before (is_front k) ++ flat_parts cut after (is_back k)) ∙ sym (both_parts bytes) in
        let new_is_front : new_front ≡ take ((cut - low) * 4096) (new_front ++ new_back) = sym (take_at new_front new_back ((cut - low) * 4096) size) in
        let new_is_back : new_back ≡ drop ((cut - low) * 4096) (new_front ++ new_back) = sym (drop_at new_front new_back ((cut - low) * 4096) size) in
        let news : flat_parts low before new_front ++ flat_parts cut after new_back ≡ flat_parts low cuts (new_front ++ new_back) =
        (λ k. flat_parts low before (new_is_front k) ++ flat_parts cut after (new_is_back k)) ∙ sym (both_parts (new_front ++ new_back)) in
        subst (λ (xs : List (List ℕ)). EachPairFrom R first xs (flat_parts low cuts (new_front ++ new_back))) olds (subst (λ (ys : List (List ℕ)). EachPairFrom R first (flat_parts low before front ++ flat_parts cut after back) ys) news all)

module _ {F : Type 0} (g : Shared F (ℕ × (MutBor (List ℕ) × Unit {0})) ((Unit {0}) × (MutBor (List ℕ) × Unit {0}))) (f : F) where
  -- a function that takes each part of those takes each in turn
  pub accepts_in_turn : (parts : List (List ℕ)) → AcceptsEach g f parts → EachFrom (AcceptsAt g f) 0 parts
  accepts_in_turn parts accepts = each_from (AcceptsAt g f) 0 parts (λ i part inside is p shows.
      let at : 0 + i ≡ i = omega arith in
      subst (λ (n : ℕ). g.pre f (n, (p, tt))) (sym at) (accepts i p inside (subst (λ (x : List ℕ). x ≡ get_or parts i x) (sym shows) is)))

  -- parts that were each left by a call in turn were left so at each number
  pub changes_each : (olds news : List (List ℕ)) → EachPairFrom (ChangesAt g f) 0 olds news → ChangesEach g f olds news
  changes_each olds news all i d inside = (refl, pair_at (ChangesAt g f) 0 olds news i i d all inside (omega arith))
