-- The data blocks of a directory stand in front of its other blocks.
use Rattle.std.proofs.Common.{◌≡◌, ℕ, zero, suc, ◌+◌, ◌*◌, ◌<◌, ◌≤◌, Bool, true, false, not, ◌&&◌, ◌==◌, List, [], ◌∷◌, ◌++◌, length, map, filter, drop, get_or, slice_get, Some, refl, sym, ap, ap₂, ◌∙◌, subst, arith, inl, inr}
use Rattle.std.proofs.lemmas.List.{drop_all, length-append, length-map}
use Rattle.std.proofs.lemmas.Bool.{cases_lt, lt-ltb, le-ltb, cond-true, cond-false, and_right}
use Rattle.xfs_dirindex.specs.declared.data.Best.{Best}
use Rattle.xfs_dirindex.specs.declared.pairs.Pair.{Pair}
use Rattle.xfs_dirindex.specs.Mapped.{Mapped, OffsetsAscend, mapped_block, mapped, is_data, is_beyond}
use Rattle.xfs_dirindex.specs.Data.{are_data, best_in, all_bests, all_pairs}
use Rattle.xfs_dirindex.specs.Leaf.{end_of, is_leaf, is_only_leaf, is_whole_leaf}
use Rattle.xfs_dirindex.proofs.Gathered.{mapped-step, length-mapped}

pub ascend-below : (low least : ℕ) (offsets : List ℕ) → low ≤ least → OffsetsAscend least offsets → OffsetsAscend low offsets
ascend-below low least [] below up = tt
ascend-below low least (o ∷ os) below up = (omega (arith, up.0), up.1)

-- one block more, of either kind
data-yes : (m : Mapped) (ms : List Mapped) → m.offset < 0x800000 → filter is_data (m ∷ ms) ≡ m ∷ filter is_data ms
data-yes m ms low = cond-true (is_data m) (m ∷ filter is_data ms) (filter is_data ms) (lt-ltb m.offset 0x800000 low)

data-no : (m : Mapped) (ms : List Mapped) → 0x800000 ≤ m.offset → filter is_data (m ∷ ms) ≡ filter is_data ms
data-no m ms high = cond-false (is_data m) (m ∷ filter is_data ms) (filter is_data ms) (le-ltb m.offset 0x800000 high)

beyond-no : (m : Mapped) (ms : List Mapped) → m.offset < 0x800000 → filter is_beyond (m ∷ ms) ≡ filter is_beyond ms
beyond-no m ms low = cond-false (is_beyond m) (m ∷ filter is_beyond ms) (filter is_beyond ms) (ap not (lt-ltb m.offset 0x800000 low))

beyond-yes : (m : Mapped) (ms : List Mapped) → 0x800000 ≤ m.offset → filter is_beyond (m ∷ ms) ≡ m ∷ filter is_beyond ms
beyond-yes m ms high = cond-true (is_beyond m) (m ∷ filter is_beyond ms) (filter is_beyond ms) (ap not (le-ltb m.offset 0x800000 high))

-- behind the data blocks there is none
none-data : (least : ℕ) (offsets : List ℕ) (blocks : List (List ℕ)) → 0x800000 ≤ least → OffsetsAscend least offsets → filter is_data (mapped offsets blocks) ≡ []
none-data least [] blocks high up = refl
none-data least (o ∷ os) [] high up = refl
none-data least (o ∷ os) (b ∷ bs) high up = data-no (mapped_block o b) (mapped os bs) (omega (arith, up.0)) ∙ none-data (o + 1) os bs (omega (arith, up.0)) up.1

all-beyond : (least : ℕ) (offsets : List ℕ) (blocks : List (List ℕ)) → 0x800000 ≤ least → OffsetsAscend least offsets → filter is_beyond (mapped offsets blocks) ≡ mapped offsets blocks
all-beyond least [] blocks high up = refl
all-beyond least (o ∷ os) [] high up = refl
all-beyond least (o ∷ os) (b ∷ bs) high up =
    beyond-yes (mapped_block o b) (mapped os bs) (omega (arith, up.0)) ∙ ap (λ (ms : List Mapped). mapped_block o b ∷ ms) (all-beyond (o + 1) os bs (omega (arith, up.0)) up.1)

pub split : (least : ℕ) (offsets : List ℕ) (blocks : List (List ℕ)) → OffsetsAscend least offsets
    → filter is_data (mapped offsets blocks) ++ filter is_beyond (mapped offsets blocks) ≡ mapped offsets blocks
split least [] blocks up = refl
split least (o ∷ os) [] up = refl
split least (o ∷ os) (b ∷ bs) up =
    let rest = split (o + 1) os bs up.1 in
    elim (cases_lt o 0x800000) [
      | inl low ↦
          ap₂ (λ (xs ys : List Mapped). xs ++ ys) (data-yes (mapped_block o b) (mapped os bs) low) (beyond-no (mapped_block o b) (mapped os bs) low)
          ∙ ap (λ (ms : List Mapped). mapped_block o b ∷ ms) rest
      | inr high ↦
          ap₂ (λ (xs ys : List Mapped). xs ++ ys) (data-no (mapped_block o b) (mapped os bs) high ∙ none-data (o + 1) os bs (omega arith) up.1)
          (all-beyond o (o ∷ os) (b ∷ bs) high (omega arith, up.1))
    ]

-- the spans of the data blocks rise with these
abbrev From : ℕ → List Best → Type 0
From least [] = Unit {0}
From least (b ∷ bs) = (least ≤ b.offset) × From b.offset bs

from-below : (low least : ℕ) (bests : List Best) → low ≤ least → From least bests → From low bests
from-below low least [] below up = tt
from-below low least (b ∷ bs) below up = (omega (arith, up.0), up.1)

from-mapped : (dir least : ℕ) (offsets : List ℕ) (blocks : List (List ℕ)) → OffsetsAscend least offsets → From least (map (best_in dir false) (filter is_data (mapped offsets blocks)))
unfolding best_in
from-mapped dir least [] blocks up = tt
from-mapped dir least (o ∷ os) [] up = tt
from-mapped dir least (o ∷ os) (b ∷ bs) up =
    let rest = from-mapped dir (o + 1) os bs up.1 in
    elim (cases_lt o 0x800000) [
      | inl low ↦
          subst (λ (ms : List Mapped). From least (map (best_in dir false) ms)) (sym (data-yes (mapped_block o b) (mapped os bs) low))
          (up.0, from-below o (o + 1) (map (best_in dir false) (filter is_data (mapped os bs))) (omega arith) rest)
      | inr high ↦
          subst (λ (ms : List Mapped). From least (map (best_in dir false) ms)) (sym (data-no (mapped_block o b) (mapped os bs) high))
          (from-below least (o + 1) (map (best_in dir false) (filter is_data (mapped os bs))) (omega (arith, up.0)) rest)
    ]

from-low : (least : ℕ) (bests : List Best) (j : ℕ) (d : Best) → From least bests → j < length bests → least ≤ (get_or bests j d).offset
from-low least [] j d up low = absurd (omega arith)
from-low least (b ∷ bs) zero d up low = up.0
from-low least (b ∷ bs) (suc j) d up low = let rest = from-low b.offset bs j d up.1 (omega arith) in omega (arith, up.0)

from-rises : (least : ℕ) (bests : List Best) → From least bests → (i j : ℕ) (d : Best) → i ≤ j → j < length bests → (get_or bests i d).offset ≤ (get_or bests j d).offset
from-rises least [] up i j d before low = absurd (omega arith)
from-rises least (b ∷ bs) up zero zero d before low = omega arith
from-rises least (b ∷ bs) up zero (suc j) d before low = from-low b.offset bs j d up.1 (omega arith)
from-rises least (b ∷ bs) up (suc i) zero d before low = absurd (omega arith)
from-rises least (b ∷ bs) up (suc i) (suc j) d before low = from-rises b.offset bs up.1 i j d (omega arith) (omega arith)

pub bests-rise : (dir : ℕ) (offsets : List ℕ) (blocks : List (List ℕ)) → OffsetsAscend 0 offsets → (i j : ℕ) (d : Best) → i ≤ j
    → j < length (all_bests dir (mapped offsets blocks)) → (get_or (all_bests dir (mapped offsets blocks)) i d).offset ≤ (get_or (all_bests dir (mapped offsets blocks)) j d).offset
unfolding all_bests
bests-rise dir offsets blocks up = from-rises 0 (map (best_in dir false) (filter is_data (mapped offsets blocks))) (from-mapped dir 0 offsets blocks up)

-- how many blocks there are beyond the data blocks, and where they begin
pub bests-long : (dir : ℕ) (ms : List Mapped) → length (all_bests dir ms) ≡ length (filter is_data ms)
unfolding all_bests
bests-long dir ms = length-map (filter is_data ms) (best_in dir false)

pub beyond-long : (dir : ℕ) (offsets : List ℕ) (blocks : List (List ℕ)) → OffsetsAscend 0 offsets → length blocks ≡ length offsets
    → length (filter is_beyond (mapped offsets blocks)) + length (all_bests dir (mapped offsets blocks)) ≡ length blocks
beyond-long dir offsets blocks up same =
    let ms = mapped offsets blocks in
    let whole : length (filter is_data ms ++ filter is_beyond ms) ≡ length ms = ap (λ (xs : List Mapped). length xs) (split 0 offsets blocks up) in
    let parts : length (filter is_data ms ++ filter is_beyond ms) ≡ length (filter is_data ms) + length (filter is_beyond ms) = length-append (filter is_data ms) (filter is_beyond ms) in
    let bests : length (all_bests dir ms) ≡ length (filter is_data ms) = bests-long dir ms in
    let long : length ms ≡ length offsets = length-mapped offsets blocks same in
    omega arith

drop-front : {X : Type 0} (xs ys : List X) → drop (length xs) (xs ++ ys) ≡ ys
drop-front [] ys = refl
drop-front (x ∷ xs) ys = drop-front xs ys

pub beyond-is : (dir : ℕ) (offsets : List ℕ) (blocks : List (List ℕ)) (n : ℕ) → OffsetsAscend 0 offsets → n ≡ length (all_bests dir (mapped offsets blocks))
    → filter is_beyond (mapped offsets blocks) ≡ drop n (mapped offsets blocks)
beyond-is dir offsets blocks n up is =
    let ms = mapped offsets blocks in
    sym (drop-front (filter is_data ms) (filter is_beyond ms))
    ∙ ap₂ (λ (k : ℕ) (xs : List Mapped). drop k xs) (sym (is ∙ bests-long dir ms)) (split 0 offsets blocks up)

-- what is so of a directory with one such block
pub leaf-is : (dir size : ℕ) (offsets : List ℕ) (blocks : List (List ℕ)) (n o : ℕ) (b : List ℕ) → OffsetsAscend 0 offsets → length blocks ≡ length offsets
    → n ≡ length (all_bests dir (mapped offsets blocks)) → length blocks ≡ n + 1 → o ≡ get_or offsets n o → slice_get blocks n ≡ Some b
    → filter is_beyond (mapped offsets blocks) ≡ mapped_block o b ∷ []
leaf-is dir size offsets blocks n o b up same count one at_o at_b =
    let ms = mapped offsets blocks in
    let long : length ms ≡ length offsets = length-mapped offsets blocks same in
    beyond-is dir offsets blocks n up count
    ∙ (mapped-step offsets blocks n o b (omega arith) at_o at_b ∙ ap (λ (xs : List Mapped). mapped_block o b ∷ xs) (drop_all (n + 1) ms (omega arith)))

several : (bests : List Best) (due : List Pair) (ms : List Mapped) → (length ms ≡ 1 → ⊥) → is_only_leaf bests due ms ≡ false
several bests due [] other = refl
several bests due (m ∷ []) other = absurd (other refl)
several bests due (m ∷ n ∷ ms) other = refl

pub leaf-several : (dir size : ℕ) (offsets : List ℕ) (blocks : List (List ℕ)) → OffsetsAscend 0 offsets → length blocks ≡ length offsets
    → (length blocks ≡ length (all_bests dir (mapped offsets blocks)) + 1 → ⊥) → is_whole_leaf dir size (mapped offsets blocks) ≡ false
unfolding is_whole_leaf
leaf-several dir size offsets blocks up same other =
    let ms = mapped offsets blocks in
    let sum : length (filter is_beyond ms) + length (all_bests dir ms) ≡ length blocks = beyond-long dir offsets blocks up same in
    and_right (are_data dir ms && size == 4096 * end_of (all_bests dir ms)) (is_only_leaf (all_bests dir ms) (all_pairs dir ms) (filter is_beyond ms))
    (several (all_bests dir ms) (all_pairs dir ms) (filter is_beyond ms) (λ e. other (omega arith)))

-- the answer, from those on its parts
pub leaf-answer : (dir size : ℕ) (ms : List Mapped) (bests : List Best) (due : List Pair) (o : ℕ) (b : List ℕ) → are_data dir ms ≡ true → bests ≡ all_bests dir ms → due ≡ all_pairs dir ms
    → filter is_beyond ms ≡ mapped_block o b ∷ [] → (t : Bool) → (size == 4096 * end_of bests && (o == 0x800000 && is_leaf bests due b)) ≡ t → is_whole_leaf dir size ms ≡ t
unfolding is_whole_leaf
leaf-answer dir size ms bests due o b sound is_bests is_due one t answer =
    ap (λ (xs : List Mapped). are_data dir ms && size == 4096 * end_of (all_bests dir ms) && is_only_leaf (all_bests dir ms) (all_pairs dir ms) xs) one
    ∙ (ap₂ (λ (xs : List Best) (ys : List Pair). are_data dir ms && size == 4096 * end_of xs && is_only_leaf xs ys (mapped_block o b ∷ [])) (sym is_bests) (sym is_due)
    ∙ (all_three (are_data dir ms) (size == 4096 * end_of bests) (o == 0x800000 && is_leaf bests due b) sound ∙ answer))
  where
    all_three : (x y z : Bool) → x ≡ true → (x && y && z) ≡ (y && z)
    all_three true y z e = refl
    all_three false y z e = cc
