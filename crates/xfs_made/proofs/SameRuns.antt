-- Runs in another order: all that is summed of them is the same.
use Rattle.std.proofs.Common.{◌≡◌, ℕ, ◌+◌, ◌≤◌, ◌==◌, Bool, true, false, cond, if◌then◌else◌, List, [], ◌∷◌, ◌++◌, Some, None, refl, sym, ◌∙◌, ap, ap₂, arith}
use Rattle.std.specs.List.{sum_by}
use Rattle.std.specs.Option.{option_or}
use Rattle.std.proofs.lemmas.Bool.Decides.{nat_tests}
use Rattle.std.proofs.lemmas.List.Sums.{sum_by-append, sum_by-cons}
use Rattle.xfs_geom.specs.Runs.{covers, runs_on}
use Rattle.xfs_disk.specs.Lists.{is_in_range}
use Rattle.xfs_geom.specs.declared.records.Run.{Run}
use Rattle.xfs_kinds.specs.MergedRuns.{held_at, offset_word_at}
use Rattle.xfs_space.proofs.Shared.{on-cons}

abbrev pub AreSame : List Run → List Run → Type 0
AreSame xs ys = (f : Run → ℕ) → sum_by f xs ≡ sum_by f ys

pub same_both : (xs ys us ws : List Run) → AreSame xs us → AreSame ys ws → AreSame (xs ++ ys) (us ++ ws)
same_both xs ys us ws a b = λ f.
    let one : sum_by f (xs ++ ys) ≡ sum_by f xs + sum_by f ys = sum_by-append f xs ys in
    let other : sum_by f (us ++ ws) ≡ sum_by f us + sum_by f ws = sum_by-append f us ws in
    one ∙ ap₂ (λ (m n : ℕ). m + n) (a f) (b f) ∙ sym other

pub same_on : (xs ys : List Run) → AreSame xs ys → (b : ℕ) → runs_on xs b ≡ runs_on ys b
same_on xs ys same b = same (λ (r : Run). cond (covers b r) 1 0)

-- what the runs on a block have together
abbrev total : (Run → ℕ) → ℕ → List Run → ℕ
total f b xs = sum_by (λ (r : Run). cond (covers b r) (f r) 0) xs

total_none : (f : Run → ℕ) (b : ℕ) (xs : List Run) → runs_on xs b ≡ 0 → total f b xs ≡ 0
total_none f b [] none = refl
total_none f b (x ∷ xs) none = by_case (covers b x) (on-cons x xs b) (sum_by-cons (λ (r : Run). cond (covers b r) (f r) 0) x xs) (total_none f b xs)
  where
    by_case : (t : Bool) → runs_on (x ∷ xs) b ≡ cond t 1 0 + runs_on xs b → total f b (x ∷ xs) ≡ cond t (f x) 0 + total f b xs → (runs_on xs b ≡ 0 → total f b xs ≡ 0) → total f b (x ∷ xs) ≡ 0
    by_case true count sum rest = absurd (omega (arith, count, none))
    by_case false count sum rest = let few : runs_on xs b ≡ 0 = omega (arith, count, none) in let zero_sum = rest few in omega (arith, sum, zero_sum)

-- where at most one run has a block, what it has is what all on the block have together
held_total : (xs : List Run) (b : ℕ) → runs_on xs b ≤ 1 → held_at xs b ≡ (if runs_on xs b == 0 then None else Some (total (λ (r : Run). r.owner) b xs, total (λ (r : Run). offset_word_at r b) b xs))
held_total [] b once = refl
held_total (x ∷ xs) b once =
    by_case (covers b x) (on-cons x xs b) (sum_by-cons (λ (r : Run). cond (covers b r) r.owner 0) x xs) (sum_by-cons (λ (r : Run). cond (covers b r) (offset_word_at r b) 0) x xs) (held_total xs b)
  where
    by_case : (t : Bool) → runs_on (x ∷ xs) b ≡ cond t 1 0 + runs_on xs b → total (λ (r : Run). r.owner) b (x ∷ xs) ≡ cond t x.owner 0 + total (λ (r : Run). r.owner) b xs
        → total (λ (r : Run). offset_word_at r b) b (x ∷ xs) ≡ cond t (offset_word_at x b) 0 + total (λ (r : Run). offset_word_at r b) b xs
        → (runs_on xs b ≤ 1 → held_at xs b ≡ (if runs_on xs b == 0 then None else Some (total (λ (r : Run). r.owner) b xs, total (λ (r : Run). offset_word_at r b) b xs)))
        → (if t then Some (x.owner, offset_word_at x b) else held_at xs b)
        ≡ (if runs_on (x ∷ xs) b == 0 then None else Some (total (λ (r : Run). r.owner) b (x ∷ xs), total (λ (r : Run). offset_word_at r b) b (x ∷ xs)))
    by_case true count owner word rest =
        let none : runs_on xs b ≡ 0 = omega (arith, count, once) in
        let some : (runs_on (x ∷ xs) b == 0) ≡ false = grind (arith, nat_tests, count) in
        let no_owner = total_none (λ (r : Run). r.owner) b xs none in
        let no_word = total_none (λ (r : Run). offset_word_at r b) b xs none in
        let one : x.owner ≡ total (λ (r : Run). r.owner) b (x ∷ xs) = omega (arith, owner, no_owner) in
        let other : offset_word_at x b ≡ total (λ (r : Run). offset_word_at r b) b (x ∷ xs) = omega (arith, word, no_word) in
        ap₂ (λ (o w : ℕ). Some (o, w)) one other ∙ sym (ap (λ (t : Bool). if t then None else Some (total (λ (r : Run). r.owner) b (x ∷ xs), total (λ (r : Run). offset_word_at r b) b (x ∷ xs))) some)
    by_case false count owner word rest =
        let same : runs_on (x ∷ xs) b ≡ runs_on xs b = omega (arith, count) in
        let one : total (λ (r : Run). r.owner) b xs ≡ total (λ (r : Run). r.owner) b (x ∷ xs) = omega (arith, owner) in
        let other : total (λ (r : Run). offset_word_at r b) b xs ≡ total (λ (r : Run). offset_word_at r b) b (x ∷ xs) = omega (arith, word) in
        rest (omega (arith, same, once))
        ∙ ap₂ (λ (n : ℕ) (p : ℕ × ℕ). if n == 0 then None else Some p) (sym same) (ap₂ (λ (o w : ℕ). let p : ℕ × ℕ = (o, w) in p) one other)

pub same_held : (xs ys : List Run) → AreSame xs ys → (b : ℕ) → runs_on ys b ≤ 1 → held_at xs b ≡ held_at ys b
same_held xs ys same b once =
    let on = same_on xs ys same b in
    let owner = same (λ (r : Run). cond (covers b r) r.owner 0) in
    let word = same (λ (r : Run). cond (covers b r) (offset_word_at r b) 0) in
    held_total xs b (omega (arith, on, once))
    ∙ ap₂ (λ (n : ℕ) (p : ℕ × ℕ). if n == 0 then None else Some p) on (ap₂ (λ (o w : ℕ). let p : ℕ × ℕ = (o, w) in p) owner word)
    ∙ sym (held_total ys b once)

-- runs behind others
pub held_both : (xs ys : List Run) (b : ℕ) → held_at (xs ++ ys) b ≡ option_or (held_at xs b) (held_at ys b)
held_both [] ys b = refl
held_both (r ∷ rest) ys b = by_case (is_in_range r.start r.count b) (held_both rest ys b)
  where
    by_case : (t : Bool) → held_at (rest ++ ys) b ≡ option_or (held_at rest b) (held_at ys b)
        → (if t then Some (r.owner, offset_word_at r b) else held_at (rest ++ ys) b) ≡ option_or (if t then Some (r.owner, offset_word_at r b) else held_at rest b) (held_at ys b)
    by_case true next = refl
    by_case false next = next

pub on_both : (xs ys : List Run) (b : ℕ) → runs_on (xs ++ ys) b ≡ runs_on xs b + runs_on ys b
on_both xs ys b = sum_by-append (λ (r : Run). cond (covers b r) 1 0) xs ys
