-- Banks that are filled in the order of pairs that name each index, whatever that order.
use Rattle.std.proofs.Common.{◌≡◌, ℕ, suc, ◌+◌, ◌-◌, ◌<◌, ◌≤◌, inl, inr, Bool, true, false, ◌||◌, nat_eq, List, [], ◌∷◌, ◌++◌, take, drop, length, get_or, arith, ap, refl, sym, ◌∙◌}
use Rattle.std.specs.Prelude.{slice_set}
use Rattle.std.specs.List.{list_any}
use Rattle.std.specs.List.Sorted.{IsPermutation}
use Rattle.std.proofs.lemmas.Bool.{true≢false, eq-eqb, cases_lt}
use Rattle.std.proofs.lemmas.Bool.Decides.{eqb_tells}
use Rattle.std.proofs.lemmas.List.{drop-drop, get_or-set_same, get_or-set_other}
use Rattle.std.proofs.lemmas.List.Folds.{list_any-append, list_any_more}
use Rattle.std.proofs.lemmas.List.Sorted.{list_any-IsPermutation}
use Rattle.xfs_disk.specs.Blocks.{Image}
use Rattle.xfs_collections.specs.Bank.{blocks_at}
use Rattle.xfs_collections.specs.Scattered.{NamesEach}

-- whether a pair has an index
abbrev names : ℕ → ℕ × ℕ → Bool
names i pair = nat_eq pair.1 i

or_true : (a b : Bool) → b ≡ true → (a || b) ≡ true
or_true true b e = refl
or_true false b e = e

or_less : (a b : Bool) → b ≡ false → (a || b) ≡ true → a ≡ true
or_less true b e any = refl
or_less false b e any = absurd (true≢false (sym any ∙ e))

-- one more pair names one more index
pub names_more : (n : ℕ) (pairs : List (ℕ × ℕ)) (pair : ℕ × ℕ) → pair.1 ≡ n → NamesEach n pairs → NamesEach (n + 1) (pairs ++ pair ∷ [])
names_more n pairs pair here each i inside = list_any-append (names i) pairs (pair ∷ []) ∙ elim (cases_lt i n) [
  | inl below ↦ ap (λ (t : Bool). t || list_any (names i) (pair ∷ [])) (each i below)
  | inr past ↦ or_true (list_any (names i) pairs) (list_any (names i) (pair ∷ [])) (ap (λ (t : Bool). t || false) (eq-eqb pair.1 i (omega (arith, here, past, inside))))
]

-- pairs in another order name the same
pub names_moved : (n : ℕ) (xs ys : List (ℕ × ℕ)) → IsPermutation xs ys → NamesEach n xs → NamesEach n ys
names_moved n xs ys moved each i inside = sym (list_any-IsPermutation (names i) xs ys moved) ∙ each i inside

-- the blocks whose indexes some pairs name are those of an image at their places
abbrev pub Placed : Image → Image → List ℕ → List (ℕ × ℕ) → Type 0
Placed image bank places pairs = (i : ℕ) → i < length places → list_any (λ (pair : ℕ × ℕ). nat_eq pair.1 i) pairs ≡ true → get_or bank i [] ≡ get_or image (get_or places i 0) []

-- one more pair
pub placed_more : (image old new : Image) (places : List ℕ) (order : List (ℕ × ℕ)) (k at : ℕ) → k < length order → length places ≤ length old → at ≡ (get_or order k (0, 0)).1 →
    (at < length places → new ≡ slice_set old at (get_or image (get_or places at 0) [])) → (length places ≤ at → new ≡ old) →
    Placed image old places (take k order) → Placed image new places (take (k + 1) order)
placed_more image old new places order k at inside long is set past before i within any =
    let parts : (list_any (names i) (take k order) || names i (get_or order k (0, 0))) ≡ true = sym (list_any_more (names i) order k (0, 0) inside) ∙ any in
    elim (eqb_tells (get_or order k (0, 0)).1 i) [
      | inl same ↦
          let here : i ≡ at = sym (is ∙ same.1) in
          let low : at < length places = omega (arith, here, within) in
          ap (λ (j : ℕ). get_or new j []) here ∙ ap (λ (bank : Image). get_or bank at []) (set low)
          ∙ get_or-set_same old at (get_or image (get_or places at 0) []) [] (omega (arith, low, long)) ∙ ap (λ (j : ℕ). get_or image (get_or places j 0) []) (sym here)
      | inr other ↦
          let held = before i within (or_less (list_any (names i) (take k order)) (names i (get_or order k (0, 0))) other.0 parts) in
          let apart = λ (e : i ≡ at). other.1 (sym is ∙ sym e) in
          elim (cases_lt at (length places)) [
            | inl low ↦ ap (λ (bank : Image). get_or bank i []) (set low) ∙ get_or-set_other old at i (get_or image (get_or places at 0) []) [] apart ∙ held
            | inr high ↦ ap (λ (bank : Image). get_or bank i []) (past high) ∙ held
          ]
    ]

-- blocks that are each the one of its place are all of them
pub placed_all : (image bank : Image) (places : List ℕ) → length places ≤ length bank → ((i : ℕ) → i < length places → get_or bank i [] ≡ get_or image (get_or places i 0) []) →
    take (length places) bank ≡ blocks_at image places
placed_all image bank [] long each = refl
placed_all image [] (place ∷ places) long each = absurd (omega (arith, long))
placed_all image (block ∷ bank) (place ∷ places) long each =
    let first : block ≡ get_or image place [] = each 0 (omega arith) in
    let rest = placed_all image bank places (omega (arith, long)) (λ i within. each (suc i) (omega (arith, within))) in
    λ k. first k ∷ rest k

-- what is alike from some index on is alike from a later one on
pub drop_later : (old new : Image) (i n : ℕ) → i ≤ n → drop i new ≡ drop i old → drop n new ≡ drop n old
drop_later old new i n within same =
    let sum : i + (n - i) ≡ n = omega (arith, within) in
    let later : (bank : Image) → drop n bank ≡ drop (n - i) (drop i bank) = λ bank. sym (drop-drop (n - i) i bank ∙ ap (λ (m : ℕ). drop m bank) sum) in
    later new ∙ ap (λ (bank : Image). drop (n - i) bank) same ∙ sym (later old)
