-- Runs that give each block the same owner with the same offset word, however they are cut and in whatever order they stand.
use Rattle.std.proofs.Common.{◌≡◌, ◌⊎◌, inl, inr, ℕ, zero, suc, Bool, true, false, cond, ◌+◌, ◌-◌, ◌*◌, ◌/◌, ◌%◌, ◌^◌, ◌==◌, ◌≤◌, ◌<◌, ◌&&◌, ◌||◌, not, min, nat_le, nat_lt, List, [], ◌∷◌, Some, None, refl, sym, ap, ap₂, ◌∙◌, arith}
use Rattle.std.specs.Prelude.{if◌then◌else◌}
use Rattle.std.specs.List.{AllByRecursion, flat_map, sum_by}
use Rattle.std.proofs.Math.Nat.{mod-eq_of_lt}
use Rattle.std.proofs.lemmas.Bool.{and_from, and_right, cases_lt, le-leb, le-ltb, lt-leb, lt-ltb}
use Rattle.std.proofs.lemmas.Bool.Decides.{nat_tests}
use Rattle.std.proofs.lemmas.List.Sums.{sum_by-append, sum_by-cons}
use Rattle.xfs_disk.specs.Lists.{is_in_range}
use Rattle.xfs_geom.specs.Runs.{covers, runs_on}
use Rattle.xfs_geom.specs.declared.records.Run.{Run}
use Rattle.xfs_kinds.specs.MergedRuns.{held_at, offset_word_at}
use Rattle.xfs_kinds.specs.OffsetWords.{is_file_data, is_tree_block, offset_in_fork}
use Rattle.xfs_kinds.specs.Owners.{clusters_owner}
use Rattle.xfs_space.specs.Owners.{new_run}
use Rattle.xfs_space.proofs.Shared.{on-cons}
use Rattle.xfs_filled.specs.Chunks.{chunk_at}
use Rattle.xfs_populated.proofs.FileCuts.{cut, part, part_some, parts_from}

-- what a run gives a block, by the owner and the offset word
abbrev pub seen : (ℕ → ℕ → ℕ) → ℕ → Run → ℕ
seen h b r = cond (covers b r) (h r.owner (offset_word_at r b)) 0

-- runs that give each block the same together
abbrev pub AreAlike : List Run → List Run → Type 0
AreAlike xs ys = (h : ℕ → ℕ → ℕ) (b : ℕ) → sum_by (seen h b) xs ≡ sum_by (seen h b) ys

pub alike_on : (xs ys : List Run) → AreAlike xs ys → (b : ℕ) → runs_on xs b ≡ runs_on ys b
alike_on xs ys same b = same (λ owner word. 1) b

abbrev total : (Run → ℕ) → ℕ → List Run → ℕ
total f b xs = sum_by (λ (r : Run). cond (covers b r) (f r) 0) xs

total_none : (f : Run → ℕ) (b : ℕ) (xs : List Run) → runs_on xs b ≡ 0 → total f b xs ≡ 0
total_none f b [] none = refl
total_none f b (x ∷ xs) none = by_case (covers b x) (on-cons x xs b) (sum_by-cons (λ (r : Run). cond (covers b r) (f r) 0) x xs) (total_none f b xs)
  where
    by_case : (t : Bool) → runs_on (x ∷ xs) b ≡ cond t 1 0 + runs_on xs b → total f b (x ∷ xs) ≡ cond t (f x) 0 + total f b xs → (runs_on xs b ≡ 0 → total f b xs ≡ 0) → total f b (x ∷ xs) ≡ 0
    by_case true count sum rest = absurd (omega (arith, count, none))
    by_case false count sum rest = let few : runs_on xs b ≡ 0 = omega (arith, count, none) in let zero_sum = rest few in omega (arith, sum, zero_sum)

-- where at most one run has a block, what it has is what all on the block have together
held_total : (xs : List Run) (b : ℕ) → runs_on xs b ≤ 1 → held_at xs b ≡ (if runs_on xs b == 0 then None else Some (total (λ (r : Run). r.owner) b xs, total (λ (r : Run). offset_word_at r b) b xs))
held_total [] b once = refl
held_total (x ∷ xs) b once =
    by_case (covers b x) (on-cons x xs b) (sum_by-cons (λ (r : Run). cond (covers b r) r.owner 0) x xs) (sum_by-cons (λ (r : Run). cond (covers b r) (offset_word_at r b) 0) x xs) (held_total xs b)
  where
    by_case : (t : Bool) → runs_on (x ∷ xs) b ≡ cond t 1 0 + runs_on xs b → total (λ (r : Run). r.owner) b (x ∷ xs) ≡ cond t x.owner 0 + total (λ (r : Run). r.owner) b xs
        → total (λ (r : Run). offset_word_at r b) b (x ∷ xs) ≡ cond t (offset_word_at x b) 0 + total (λ (r : Run). offset_word_at r b) b xs
        → (runs_on xs b ≤ 1 → held_at xs b ≡ (if runs_on xs b == 0 then None else Some (total (λ (r : Run). r.owner) b xs, total (λ (r : Run). offset_word_at r b) b xs)))
        → (if t then Some (x.owner, offset_word_at x b) else held_at xs b)
        ≡ (if runs_on (x ∷ xs) b == 0 then None else Some (total (λ (r : Run). r.owner) b (x ∷ xs), total (λ (r : Run). offset_word_at r b) b (x ∷ xs)))
    by_case true count owner word rest =
        let none : runs_on xs b ≡ 0 = omega (arith, count, once) in
        let some : (runs_on (x ∷ xs) b == 0) ≡ false = grind (arith, nat_tests, count) in
        let no_owner = total_none (λ (r : Run). r.owner) b xs none in
        let no_word = total_none (λ (r : Run). offset_word_at r b) b xs none in
        let one : x.owner ≡ total (λ (r : Run). r.owner) b (x ∷ xs) = omega (arith, owner, no_owner) in
        let other : offset_word_at x b ≡ total (λ (r : Run). offset_word_at r b) b (x ∷ xs) = omega (arith, word, no_word) in
        ap₂ (λ (o w : ℕ). Some (o, w)) one other ∙ sym (ap (λ (t : Bool). if t then None else Some (total (λ (r : Run). r.owner) b (x ∷ xs), total (λ (r : Run). offset_word_at r b) b (x ∷ xs))) some)
    by_case false count owner word rest =
        let same : runs_on (x ∷ xs) b ≡ runs_on xs b = omega (arith, count) in
        let one : total (λ (r : Run). r.owner) b xs ≡ total (λ (r : Run). r.owner) b (x ∷ xs) = omega (arith, owner) in
        let other : total (λ (r : Run). offset_word_at r b) b xs ≡ total (λ (r : Run). offset_word_at r b) b (x ∷ xs) = omega (arith, word) in
        rest (omega (arith, same, once))
        ∙ ap₂ (λ (n : ℕ) (p : ℕ × ℕ). if n == 0 then None else Some p) (sym same) (ap₂ (λ (o w : ℕ). let p : ℕ × ℕ = (o, w) in p) one other)

pub alike_held : (xs ys : List Run) → AreAlike xs ys → (b : ℕ) → runs_on ys b ≤ 1 → held_at xs b ≡ held_at ys b
alike_held xs ys same b once =
    let on = alike_on xs ys same b in
    let owner = same (λ owner word. owner) b in
    let word = same (λ owner word. word) b in
    held_total xs b (omega (arith, on, once))
    ∙ ap₂ (λ (n : ℕ) (p : ℕ × ℕ). if n == 0 then None else Some p) on (ap₂ (λ (o w : ℕ). let p : ℕ × ℕ = (o, w) in p) owner word)
    ∙ sym (held_total ys b once)

-- a chunk is two clusters
abbrev pub cluster_at : ℕ → Run
cluster_at block = new_run block 4 clusters_owner 0

two_halves : (a b whole : Bool) (n : ℕ) → (a && b) ≡ false → (a || b) ≡ whole → cond a n 0 + cond b n 0 ≡ cond whole n 0
two_halves true true whole n apart all = cc
two_halves true false whole n apart all = let same : n + 0 ≡ n = omega arith in same ∙ ap (λ (t : Bool). cond t n 0) all
two_halves false true whole n apart all = let same : 0 + n ≡ n = omega arith in same ∙ ap (λ (t : Bool). cond t n 0) all
two_halves false false whole n apart all = ap (λ (t : Bool). cond t n 0) all

pub halves_seen : (h : ℕ → ℕ → ℕ) (b start : ℕ) → seen h b (cluster_at start) + seen h b (cluster_at (start + 4)) ≡ seen h b (chunk_at start)
halves_seen h b start =
    let apart : (is_in_range start 4 b && is_in_range (start + 4) 4 b) ≡ false = grind (arith, nat_tests) in
    let all : (is_in_range start 4 b || is_in_range (start + 4) 4 b) ≡ is_in_range start 8 b = grind (arith, nat_tests) in
    two_halves (is_in_range start 4 b) (is_in_range (start + 4) 4 b) (is_in_range start 8 b) (h clusters_owner 0) apart all

-- a run of data of a file that ends at a low offset
pub record IsPlainRun (r : Run) : Type 0 where
  pub owner' : r.owner < 2 ^ 63
  pub low : r.offset_word + r.count ≤ 2 ^ 33

data_word : (owner word : ℕ) → owner < 2 ^ 63 → word ≤ 2 ^ 33 → is_file_data owner word ≡ true
data_word owner word low small =
    let none : word / 2 ^ 62 ≡ 0 = omega (arith, small) in
    let plain : is_tree_block word ≡ false = ap (λ (n : ℕ). n % 2 == 1) none in
    and_from (nat_lt owner (2 ^ 63)) (not (is_tree_block word)) (lt-ltb owner (2 ^ 63) low) (ap not plain)

outside : (low top b : ℕ) → (b < low) ⊎ (top ≤ b) → (nat_le low b && nat_lt b top) ≡ false
outside low top b (inl less) = ap (λ (t : Bool). t && nat_lt b top) (lt-leb low b less)
outside low top b (inr more) = and_right (nat_le low b) (nat_lt b top) (le-ltb b top more)

inside : (low top b : ℕ) → low ≤ b → b < top → (nat_le low b && nat_lt b top) ≡ true
inside low top b above below = and_from (nat_le low b) (nat_lt b top) (le-leb low b above) (lt-ltb b top below)

module _ (h : ℕ → ℕ → ℕ) (b : ℕ) (r : Run) (plain : IsPlainRun r) where
  abbrev n : ℕ
  n = (r.count + 2097150) / 2097151

  -- what the run gives the block where it has it
  abbrev value : ℕ
  value = h r.owner (r.offset_word + (b - r.start))

  run_word : r.start ≤ b → b < r.start + r.count → offset_word_at r b ≡ r.offset_word + (b - r.start)
  run_word above below =
      let low = plain.low in
      ap (λ (t : Bool). if t then r.offset_word + (b - r.start) else r.offset_word) (data_word r.owner r.offset_word plain.owner' (omega (arith, low)))

  part_word : (i : ℕ) → i * 2097151 + 1 ≤ r.count → r.start + i * 2097151 ≤ b → offset_word_at (part r i) b ≡ r.offset_word + (b - r.start)
  part_word i some above =
      let low = plain.low in
      let own : offset_in_fork r.offset_word ≡ r.offset_word = mod-eq_of_lt (omega (arith, low)) in
      let word : offset_in_fork r.offset_word + i * 2097151 ≤ 2 ^ 33 = omega (arith, own, low, some) in
      ap (λ (t : Bool). if t then offset_in_fork r.offset_word + i * 2097151 + (b - (r.start + i * 2097151)) else offset_in_fork r.offset_word + i * 2097151)
      (data_word r.owner (offset_in_fork r.offset_word + i * 2097151) plain.owner' word)
      ∙ omega (arith, own, above)

  -- whether part a has it, the parts behind that, and all from that on
  abbrev here : ℕ → Bool
  here a = nat_le (r.start + a * 2097151) b && nat_lt b (r.start + a * 2097151 + min 2097151 (r.count - a * 2097151))

  abbrev either : ℕ → Bool
  either a = nat_le (r.start + a * 2097151) b && nat_lt b (r.start + r.count)

  parts_seen : (a m : ℕ) → a + m ≡ n → sum_by (seen h b) (parts_from r a m) ≡ cond (nat_le (r.start + a * 2097151) b && nat_lt b (r.start + r.count)) value 0
  parts_seen a zero all =
      let end : r.count ≤ a * 2097151 = omega (arith, all) in
      let off : (b < r.start + a * 2097151) ⊎ (r.start + r.count ≤ b) =
      elim (cases_lt b (r.start + a * 2097151)) [ inl less ↦ inl less | inr more ↦ inr (omega (arith, more, end)) ] in
      sym (ap (λ (t : Bool). cond t value 0) (outside (r.start + a * 2097151) (r.start + r.count) b off))
  parts_seen a (suc m) all =
      let some = part_some r a (omega (arith, all)) in
      let both = sum_by-cons (seen h b) (part r a) (parts_from r (a + 1) m) in
      let rest = parts_seen (a + 1) m (omega (arith, all)) in
      by_place some both rest (cases_lt b (r.start + a * 2097151)) (cases_lt b (r.start + (a + 1) * 2097151)) (cases_lt b (r.start + r.count))
    where
      joined : (s t u : Bool) (one two whole x : ℕ) → here a ≡ s → either (a + 1) ≡ t → either a ≡ u → cond s one 0 + cond t two 0 ≡ cond u whole 0
          → sum_by (seen h b) (part r a ∷ parts_from r (a + 1) m) ≡ cond (here a) one 0 + x → x ≡ cond (either (a + 1)) two 0
          → sum_by (seen h b) (part r a ∷ parts_from r (a + 1) m) ≡ cond (either a) whole 0
      joined s t u one two whole x is_here is_later is_either sums all rest =
          let first : ◌≡◌ {A = ℕ} (cond (here a) one 0) (cond s one 0) = ap (λ (q : Bool). cond q one 0) is_here in
          let second : ◌≡◌ {A = ℕ} (cond (either (a + 1)) two 0) (cond t two 0) = ap (λ (q : Bool). cond q two 0) is_later in
          let third : ◌≡◌ {A = ℕ} (cond (either a) whole 0) (cond u whole 0) = ap (λ (q : Bool). cond q whole 0) is_either in
          omega (arith, first, second, third, sums, all, rest)

      by_place : a * 2097151 + 1 ≤ r.count
          → sum_by (seen h b) (part r a ∷ parts_from r (a + 1) m) ≡ seen h b (part r a) + sum_by (seen h b) (parts_from r (a + 1) m)
          → sum_by (seen h b) (parts_from r (a + 1) m) ≡ cond (either (a + 1)) value 0
          → (b < r.start + a * 2097151) ⊎ (r.start + a * 2097151 ≤ b) → (b < r.start + (a + 1) * 2097151) ⊎ (r.start + (a + 1) * 2097151 ≤ b) → (b < r.start + r.count) ⊎ (r.start + r.count ≤ b)
          → sum_by (seen h b) (part r a ∷ parts_from r (a + 1) m) ≡ cond (either a) value 0
      by_place some both rest (inl before) other end =
          joined false false false (h r.owner (offset_word_at (part r a) b)) value value (sum_by (seen h b) (parts_from r (a + 1) m))
          (outside (r.start + a * 2097151) (r.start + a * 2097151 + min 2097151 (r.count - a * 2097151)) b (inl before))
          (outside (r.start + (a + 1) * 2097151) (r.start + r.count) b (inl (omega (arith, before)))) (outside (r.start + a * 2097151) (r.start + r.count) b (inl before)) refl both rest
      by_place some both rest (inr behind) other (inr past) =
          joined false false false (h r.owner (offset_word_at (part r a) b)) value value (sum_by (seen h b) (parts_from r (a + 1) m))
          (outside (r.start + a * 2097151) (r.start + a * 2097151 + min 2097151 (r.count - a * 2097151)) b (inr (omega (arith, past, some))))
          (outside (r.start + (a + 1) * 2097151) (r.start + r.count) b (inr past)) (outside (r.start + a * 2097151) (r.start + r.count) b (inr past)) refl both rest
      by_place some both rest (inr behind) (inl near) (inl low) =
          joined true false true (h r.owner (offset_word_at (part r a) b)) value value (sum_by (seen h b) (parts_from r (a + 1) m))
          (inside (r.start + a * 2097151) (r.start + a * 2097151 + min 2097151 (r.count - a * 2097151)) b behind (omega (arith, near, low, behind)))
          (outside (r.start + (a + 1) * 2097151) (r.start + r.count) b (inl near)) (inside (r.start + a * 2097151) (r.start + r.count) b behind low)
          (let same : h r.owner (offset_word_at (part r a) b) ≡ value = ap (h r.owner) (part_word a some behind) in omega (arith, same)) both rest
      by_place some both rest (inr behind) (inr far) (inl low) =
          joined false true true (h r.owner (offset_word_at (part r a) b)) value value (sum_by (seen h b) (parts_from r (a + 1) m))
          (outside (r.start + a * 2097151) (r.start + a * 2097151 + min 2097151 (r.count - a * 2097151)) b (inr (omega (arith, far))))
          (inside (r.start + (a + 1) * 2097151) (r.start + r.count) b far low) (inside (r.start + a * 2097151) (r.start + r.count) b behind low) (omega arith) both rest

  -- the parts of a run give what the run does
  pub cut_seen : sum_by (seen h b) (cut r) ≡ seen h b r
  cut_seen = parts_seen 0 ((r.count + 2097150) / 2097151) (omega arith) ∙ by_place (cases_lt b r.start) (cases_lt b (r.start + r.count))
    where
      start : r.start + 0 * 2097151 ≡ r.start
      start = omega arith

      by_place : (b < r.start) ⊎ (r.start ≤ b) → (b < r.start + r.count) ⊎ (r.start + r.count ≤ b)
          → cond (nat_le (r.start + 0 * 2097151) b && nat_lt b (r.start + r.count)) value 0 ≡ cond (nat_le r.start b && nat_lt b (r.start + r.count)) (h r.owner (offset_word_at r b)) 0
      by_place (inl before) other =
          ap (λ (t : Bool). cond t value 0) (outside (r.start + 0 * 2097151) (r.start + r.count) b (inl (omega (arith, before))))
          ∙ sym (ap (λ (t : Bool). cond t (h r.owner (offset_word_at r b)) 0) (outside r.start (r.start + r.count) b (inl before)))
      by_place (inr behind) (inr past) =
          ap (λ (t : Bool). cond t value 0) (outside (r.start + 0 * 2097151) (r.start + r.count) b (inr past))
          ∙ sym (ap (λ (t : Bool). cond t (h r.owner (offset_word_at r b)) 0) (outside r.start (r.start + r.count) b (inr past)))
      by_place (inr behind) (inl low) =
          ap (λ (t : Bool). cond t value 0) (inside (r.start + 0 * 2097151) (r.start + r.count) b (omega (arith, behind)) low)
          ∙ sym (ap (h r.owner) (run_word behind low))
          ∙ sym (ap (λ (t : Bool). cond t (h r.owner (offset_word_at r b)) 0) (inside r.start (r.start + r.count) b behind low))

pub cuts_alike : (runs : List Run) → AllByRecursion IsPlainRun runs → AreAlike (flat_map cut runs) runs
cuts_alike [] all h b = refl
cuts_alike (r ∷ runs) all h b =
    let both = sum_by-append (seen h b) (cut r) (flat_map cut runs) in
    let here = cut_seen h b r all.0 in
    let rest = cuts_alike runs all.1 h b in
    let whole = sum_by-cons (seen h b) r runs in
    omega (arith, both, here, rest, whole)
