-- Lists that grow by one item at a time.
use Rattle.std.proofs.Common.{◌≡◌, ℕ, ◌+◌, ◌*◌, ◌^◌, Fits, w64, ◌<◌, ◌≤◌, ◌⊎◌, inl, inr, List, [], ◌∷◌, ◌++◌, length, map, get_or, arith, refl, sym, subst, ap, ◌∙◌}
use Rattle.std.specs.List.{range_with_len}
use Rattle.std.proofs.Math.Nat.{mul-le-mul_left}
use Rattle.std.proofs.lemmas.Bool.{cases_lt}
use Rattle.std.proofs.lemmas.List.{get_or-append-add, get_or_append_left}
use Rattle.std.proofs.lemmas.List.FromFn.{map-range_with_len_more}
use Rattle.xfs_disk.specs.declared.stamp.Stamp.{Stamp}
use Rattle.xfs_geom.specs.Volumes.{Volume}
use Rattle.xfs_render.specs.declared.wanted_slots.SlotWanted.{SlotWanted}
use Rattle.xfs_empty.specs.Inodes.{IsFirstSlot}

map_same : (xs : List ℕ) → map (λ x. x) xs ≡ xs
map_same [] = refl
map_same (x ∷ xs) = ap (λ (ys : List ℕ). x ∷ ys) (map_same xs)

-- one number more
pub range_more : (a n : ℕ) → range_with_len a (n + 1) ≡ range_with_len a n ++ (a + n) ∷ []
range_more a n =
    sym (map_same (range_with_len a (n + 1))) ∙ map-range_with_len_more (λ x. x) a n (a + n) refl
    ∙ ap (λ (xs : List ℕ). xs ++ (a + n) ∷ []) (map_same (range_with_len a n))

-- one slot more
pub slots_more : (v : Volume) (s : Stamp) (slots new : List SlotWanted) (x : SlotWanted) (m ino : ℕ) → length slots ≡ m
    → ((i : ℕ) (d : SlotWanted) → i < m → IsFirstSlot v s (128 + i) (get_or slots i d)) → ino ≡ 128 + m → IsFirstSlot v s ino x
    → new ≡ slots ++ x ∷ [] → (i : ℕ) (d : SlotWanted) → i < m + 1 → IsFirstSlot v s (128 + i) (get_or new i d)
slots_more v s slots new x m ino count each at first pushed i d low = by_case (cases_lt i m)
  where
    by_case : (i < m) ⊎ (m ≤ i) → IsFirstSlot v s (128 + i) (get_or new i d)
    by_case (inl less) =
        let is : get_or new i d ≡ get_or slots i d =
        ap (λ (xs : List SlotWanted). get_or xs i d) pushed ∙ get_or_append_left slots (x ∷ []) d i (omega (arith, less, count)) in
        subst (λ (w : SlotWanted). IsFirstSlot v s (128 + i) w) (sym is) (each i d less)
    by_case (inr more) =
        let there : i ≡ length slots + 0 = omega (arith, more, low, count) in
        let number : ino ≡ 128 + i = omega (arith, more, low, at) in
        let is : get_or new i d ≡ x =
        ap (λ (xs : List SlotWanted). get_or xs i d) pushed ∙ ap (λ (k : ℕ). get_or (slots ++ x ∷ []) k d) there
        ∙ get_or-append-add slots (x ∷ []) 0 d in
        subst (λ (w : SlotWanted). IsFirstSlot v s (128 + i) w) (sym is) (subst (λ (n : ℕ). IsFirstSlot v s n x) number first)

-- a product of two short numbers
pub product_fits : (a b : ℕ) → a < 2 ^ 32 → b < 2 ^ 32 → Fits w64 (a * b)
product_fits a b high low =
    let most : a * b ≤ a * 2 ^ 32 = mul-le-mul_left a (omega (arith, low)) in
    omega (arith, most, high)
