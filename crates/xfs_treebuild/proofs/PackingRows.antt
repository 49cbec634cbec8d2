-- The rows of a packed tree: their blocks break no rule, hold what the row has, and their keys ascend.
use Rattle.std.proofs.Common.{◌≡◌, ℕ, zero, suc, ◌+◌, ◌-◌, ◌<◌, ◌≤◌, Bool, true, false, if◌then◌else◌, List, [], ◌∷◌, ◌++◌, map, length, drop, get_or, Option, Some, None, IsTrue, Less, refl, sym, ◌∙◌, ap, ap₂, subst, arith}
use Rattle.std.specs.List.{range_with_len, flat_map}
use Rattle.std.specs.Ordering.{is_lt}
use Rattle.std.specs.Cmp.Derive.{both_true}
use Rattle.std.proofs.lemmas.List.{length-take-le, length-drop, get_or-take, get_or-drop}
use Rattle.std.proofs.lemmas.List.FromFn.{length-map-range_with_len, get_or-map-range_with_len}
use Rattle.xfs_disk.specs.Shares.{share_of, first_of_share}
use Rattle.xfs_tree.specs.Shape.{Shape}
use Rattle.xfs_tree.specs.Blocks.{each_of}
use Rattle.xfs_tree.specs.Rules.{ascend_behind, greater, greatest_with, low_of}
use Rattle.xfs_treebuild.specs.Private.Placed.{share_in, IsKey, IsChild}
use Rattle.xfs_disk.proofs.Shares.{first_up, share_inside, share_next, share_some}

-- what each block of a row has, by its place in the row
pub flat_by : {A B : Type 0} (f : A → List B) (g : ℕ → List B) (d : A) (row : List A) (a : ℕ) → ((k : ℕ) → k < length row → f (get_or row k d) ≡ g (a + k))
    → flat_map f row ≡ flat_map g (range_with_len a (length row))
flat_by f g d [] a at = refl
flat_by f g d (x ∷ row) a at =
    let start : a + 0 ≡ a = omega arith in
    ap₂ ◌++◌ (at 0 (omega arith) ∙ ap g start) (flat_by f g d row (a + 1) (λ k inside.
    let on : a + suc k ≡ a + 1 + k = omega arith in
    at (suc k) (omega arith) ∙ ap g on))

pub map_by : {A B : Type 0} (f : A → B) (g : ℕ → B) (d : A) (row : List A) (a : ℕ) → ((k : ℕ) → k < length row → f (get_or row k d) ≡ g (a + k))
    → map f row ≡ map g (range_with_len a (length row))
map_by f g d [] a at = refl
map_by f g d (x ∷ row) a at =
    let start : a + 0 ≡ a = omega arith in
    ap₂ ◌∷◌ (at 0 (omega arith) ∙ ap g start) (map_by f g d row (a + 1) (λ k inside.
    let on : a + suc k ≡ a + 1 + k = omega arith in
    at (suc k) (omega arith) ∙ ap g on))

pub from_start : {A : Type 0} (g : ℕ → A) (x : A) (k : ℕ) → x ≡ g k → x ≡ g (0 + k)
from_start g x k is = is ∙ ap g (omega arith)

length_share : {A : Type 0} (xs : List A) (m i : ℕ) → i < m → length (share_in xs m i) ≡ share_of (length xs) m i
length_share xs m i inside =
    let within = share_inside (length xs) m i inside in
    let rest = length-drop (first_of_share (length xs) m i) xs in
    length-take-le (share_of (length xs) m i) (drop (first_of_share (length xs) m i) xs) (omega (arith, within, rest))

-- the items of a share, by their places
pub share_item : {A : Type 0} (f : ℕ → A) (n : ℕ) (xs : List A) (m i : ℕ) → each_of n f ≡ share_in xs m i → i < m
    → (k : ℕ) (d : A) → k < n → f k ≡ get_or xs (first_of_share (length xs) m i + k) d
share_item f n xs m i held inside k d less =
    let len = length_share xs m i inside in
    let all = length-map-range_with_len f 0 n in
    let same : length (each_of n f) ≡ length (share_in xs m i) = ap length held in
    sym (get_or-map-range_with_len f 0 n k k d less (omega arith))
    ∙ ap (λ ys. get_or ys k d) held
    ∙ get_or-take (share_of (length xs) m i) (drop (first_of_share (length xs) m i) xs) k d (omega (arith, len, all, same))
    ∙ get_or-drop (first_of_share (length xs) m i) xs k d

pub share_count : {A : Type 0} (f : ℕ → A) (n : ℕ) (xs : List A) (m i : ℕ) → each_of n f ≡ share_in xs m i → i < m → n ≡ share_of (length xs) m i
share_count f n xs m i held inside = sym (length-map-range_with_len f 0 n) ∙ ap length held ∙ length_share xs m i inside

pub firsts_up : (n m i j : ℕ) → 1 ≤ m → m ≤ n → i < j → first_of_share n m i < first_of_share n m j
firsts_up n m i j some enough before =
    let next = share_next n m i in
    let more = share_some n m i some enough in
    let up = first_up n m (i + 1) j (omega arith) in
    omega (arith, next, more, up)

module _ {R K : Type 0} (s : Shape R K) where
  -- there are two keys, the first below the second
  abbrev pub Before : Option K → Option K → Type 0
  Before (Some a) (Some b) = s.order a b ≡ Less
  Before (Some a) None = ⊥
  Before None b = ⊥

  -- the blocks of a row have keys that a node can state, and they ascend
  pub record IsRising (level count : ℕ) (block : ℕ → List ℕ) : Type 0 where
    pub child : (j : ℕ) → j < count → IsChild s level (block j)
    pub rising : (i j : ℕ) → i < j → j < count → Before (low_of s level (block i)) (low_of s level (block j))

  pub rising_same : (level count : ℕ) (old new : ℕ → List ℕ) → ((j : ℕ) → j < count → new j ≡ old j) → IsRising level count old → IsRising level count new
  rising_same level count old new same was = record {
    child = λ j inside. subst (IsChild s level) (sym (same j inside)) (was.child j inside);
    rising = λ i j before inside.
        subst (λ (b : List ℕ). Before (low_of s level b) (low_of s level (new j))) (sym (same i (omega arith)))
        (subst (λ (b : List ℕ). Before (low_of s level (old i)) (low_of s level b)) (sym (same j inside)) (was.rising i j before inside));
  }

  -- the greatest of keys that can be put is one
  greatest_key : (f : ℕ → K) (a n : ℕ) (best : K) → IsTrue (s.fits_key best) → ((k : ℕ) → k < n → IsTrue (s.fits_key (f (a + k))))
      → IsKey s (greatest_with s (Some best) (map f (range_with_len a n)))
  greatest_key f a zero best fits each = fits
  greatest_key f a (suc n) best fits each =
      let start : a + 0 ≡ a = omega arith in
      let here : IsTrue (s.fits_key (f a)) = subst (λ (k : ℕ). IsTrue (s.fits_key (f k))) start (each 0 (omega arith)) in
      greatest_key f (a + 1) n (greater s (Some best) (f a)) (by_order (is_lt (s.order best (f a))) fits here) (λ k less.
      let on : a + suc k ≡ a + 1 + k = omega arith in
      subst (λ (j : ℕ). IsTrue (s.fits_key (f j))) on (each (suc k) (omega arith)))
    where
      by_order : (r : Bool) → IsTrue (s.fits_key best) → IsTrue (s.fits_key (f a)) → IsTrue (s.fits_key (if r then f a else best))
      by_order true fits here = here
      by_order false fits here = fits

  pub highest_key : (f : ℕ → K) (n : ℕ) → 1 ≤ n → ((k : ℕ) → k < n → IsTrue (s.fits_key (f k))) → IsKey s (greatest_with s None (each_of n f))
  highest_key f n some each =
      let more : suc (n - 1) ≡ n = omega arith in
      subst (λ (m : ℕ). IsKey s (greatest_with s None (each_of m f))) more
      (greatest_key f 1 (n - 1) (f 0) (each 0 some) (λ k less. each (1 + k) (omega arith)))

  -- keys of which each is above those in front of it
  ascend_from : (f : ℕ → K) (a n : ℕ) → ((i j : ℕ) → i < j → j < a + n → s.order (f i) (f j) ≡ Less) → (b : ℕ) → b + 1 ≡ a
      → ascend_behind s (Some (f b)) (map f (range_with_len a n)) ≡ true
  ascend_from f a zero up b next = refl
  ascend_from f a (suc n) up b next =
      both_true (ap is_lt (up b a (omega (arith, next)) (omega arith))) (ascend_from f (a + 1) n (λ i j before inside. up i j before (omega arith)) a refl)

  pub ascend_all : (f : ℕ → K) (n : ℕ) → ((i j : ℕ) → i < j → j < n → s.order (f i) (f j) ≡ Less) → ascend_behind s None (each_of n f) ≡ true
  ascend_all f zero up = refl
  ascend_all f (suc n) up = both_true refl (ascend_from f 1 n (λ i j before inside. up i j before (omega arith)) 0 refl)
