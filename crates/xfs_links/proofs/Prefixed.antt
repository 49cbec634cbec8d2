-- Lists as far as a loop has come.
use Rattle.std.proofs.Common.{◌≡◌, ℕ, ◌+◌, ◌-◌, ◌<◌, ◌≤◌, ◌==◌, inl, inr, ◌⊎◌, Bool, true, false, cond, if◌then◌else◌, List, [], ◌∷◌, ◌++◌, length, map, take, drop, get_or, set, None, Option, sym, ◌∙◌, ap, ap₂, subst, arith}
use Rattle.std.specs.List.{filter}
use Rattle.std.proofs.lemmas.Bool.{cases_eq}
use Rattle.std.proofs.lemmas.Bool.Decides.{nat_tests}
use Rattle.std.proofs.lemmas.List.{append-nil, drop_more, get_or-set_other, get_or-set_same, map-append, take_more}
use Rattle.std.proofs.lemmas.List.Elements.{filter-append}
use Rattle.xfs_links.specs.declared.walk.Attached.{Attached}
use Rattle.xfs_links.specs.Walk.{attached_parent}

pub none_gone : (n : ℕ) → n - 0 ≡ n
none_gone n = omega arith

pub none_added : (n : ℕ) → n + 0 ≡ n
none_added n = omega arith

pub all_gone : (n k : ℕ) → n ≤ k → n - k ≡ 0
all_gone n k h = omega (arith, h)

pub one_less : (left n : ℕ) → 0 < left → left ≤ n → (left - 1 + 1 ≡ left) × (left - 1 < n) × (left - 1 ≤ n)
one_less left n some low = (omega (arith, some), omega (arith, some, low), omega (arith, some, low))

-- what passes, with one more
module _ {X : Type 0} (f : X → Bool) (xs : List X) (i : ℕ) (d : X) (kept : List X) (inside : i < length xs) (so_far : kept ≡ filter f (take i xs)) where
  split : (t : Bool) → f (get_or xs i d) ≡ t → filter f (take (i + 1) xs) ≡ kept ++ cond t (get_or xs i d ∷ []) []
  split t is =
      ap (filter f) (take_more xs i d inside)
      ∙ filter-append f (take i xs) (get_or xs i d ∷ [])
      ∙ ap (λ ys. ys ++ cond (f (get_or xs i d)) (get_or xs i d ∷ []) []) (sym so_far)
      ∙ ap (λ b. kept ++ cond b (get_or xs i d ∷ []) []) is

  pub filtered_next : f (get_or xs i d) ≡ true → (new : List X) → new ≡ kept ++ get_or xs i d ∷ [] → new ≡ filter f (take (i + 1) xs)
  filtered_next is new put = put ∙ sym (split true is)

  pub filtered_not : f (get_or xs i d) ≡ false → kept ≡ filter f (take (i + 1) xs)
  filtered_not is = sym (split false is ∙ append-nil kept)

-- what is made of each, with one more
pub made_next : {X Y : Type 0} (f : X → Y) (xs : List X) (i : ℕ) (d : X) (made new : List Y) (y : Y) → i < length xs → made ≡ map f (take i xs) → new ≡ made ++ y ∷ [] → y ≡ f (get_or xs i d)
    → new ≡ map f (take (i + 1) xs)
made_next f xs i d made new y inside so_far put is =
    put ∙ ap₂ (λ ys z. ys ++ z ∷ []) so_far is ∙ sym (ap (map f) (take_more xs i d inside) ∙ map-append f (take i xs) (get_or xs i d ∷ []))

-- the parents with one more
pub parents_next : (parents : List (Option ℕ)) (n : ℕ) (turn : List Attached) (left gone : ℕ) (d : Attached) → length parents ≡ n → left + 1 ≡ gone → gone ≤ length turn
    → (get_or turn left d).directory < n → ((p : ℕ) → p < n → get_or parents p None ≡ attached_parent (drop gone turn) p)
    → (p : ℕ) → p < n → get_or (set parents (get_or turn left d).directory (get_or turn left d).parent) p None ≡ attached_parent (drop left turn) p
parents_next parents n turn left gone d size step low inside told p less = by_case (cases_eq p a.directory) ∙ sym (ap (λ s. attached_parent s p) head)
  where
    a : Attached
    a = get_or turn left d

    head : drop left turn ≡ a ∷ drop gone turn
    head = drop_more turn left d (omega (arith, step, low)) ∙ ap (λ k. get_or turn left d ∷ drop k turn) step

    by_case : (p ≡ a.directory) ⊎ (p ≡ a.directory → ⊥) → get_or (set parents a.directory a.parent) p None ≡ (if a.directory == p then a.parent else attached_parent (drop gone turn) p)
    by_case (inl e) =
        let here : (a.directory == p) ≡ true = grind (arith, nat_tests, e) in
        subst (λ k. get_or (set parents a.directory a.parent) k None ≡ a.parent) (sym e) (get_or-set_same parents a.directory a.parent None (subst (λ k. a.directory < k) (sym size) inside))
        ∙ sym (ap (λ (t : Bool). if t then a.parent else attached_parent (drop gone turn) p) here)
    by_case (inr e) =
        let there : (a.directory == p) ≡ false = grind (arith, nat_tests, e) in
        get_or-set_other parents a.directory p a.parent None e ∙ told p less ∙ sym (ap (λ (t : Bool). if t then a.parent else attached_parent (drop gone turn) p) there)
