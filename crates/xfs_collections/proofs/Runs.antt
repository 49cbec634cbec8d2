-- Blocks of a bank that were read as one run.
use Rattle.std.proofs.Common.{◌≡◌, ℕ, zero, suc, ◌+◌, ◌-◌, ◌*◌, ◌/◌, ◌<◌, ◌≤◌, List, [], ◌∷◌, ◌++◌, ◌⊎◌, inl, inr, take, drop, length, get_or, arith, ap, sym, subst, ◌∙◌}
use Rattle.std.proofs.lemmas.Bool.{cases_lt}
use Rattle.std.proofs.lemmas.Option.{get_or_from_slice_get}
use Rattle.std.proofs.lemmas.List.{length-append, length-drop, length-take-le, take_at, drop_at, drop-drop, take_more, map-append, get_or-take, get_or-drop}
use Rattle.xfs_disk.specs.Blocks.{AreBlocksFrom, Image}
use Rattle.xfs_disk.specs.Memory.{blocks_of_bytes}
use Rattle.xfs_collections.specs.Bank.{AreNeighbours, HasRun, blocks_at, with_run}
use Rattle.xfs_collections.proofs.Blocks.{length-blocks_of, slice_get-blocks_of}

module _ (bank : Image) (i count : ℕ) (bytes : List ℕ) (inside : i + count ≤ length bank) where
  front_long : length (take i bank) ≡ i
  front_long = length-take-le i bank (omega (arith, inside))

  -- the bank is as long as it was
  pub run_len : length (with_run bank i count bytes) ≡ length bank
  run_len =
      length-append (take i bank) (blocks_of_bytes count bytes ++ drop (i + count) bank) ∙ ap (λ (m : ℕ). length (take i bank) + m) (length-append (blocks_of_bytes count bytes) (drop (i + count) bank))
      ∙ omega (arith, front_long, length-blocks_of count bytes, length-drop (i + count) bank, inside)

  -- the blocks before the run and those behind it are as they were
  pub run_front : take i (with_run bank i count bytes) ≡ take i bank
  run_front = take_at (take i bank) (blocks_of_bytes count bytes ++ drop (i + count) bank) i front_long

  run_on : drop i (with_run bank i count bytes) ≡ blocks_of_bytes count bytes ++ drop (i + count) bank
  run_on = drop_at (take i bank) (blocks_of_bytes count bytes ++ drop (i + count) bank) i front_long

  pub run_rest : drop (i + count) (with_run bank i count bytes) ≡ drop (i + count) bank
  run_rest =
      sym (drop-drop count i (with_run bank i count bytes)) ∙ ap (λ (xs : Image). drop count xs) run_on
      ∙ drop_at (blocks_of_bytes count bytes) (drop (i + count) bank) count (length-blocks_of count bytes)

  -- the run is that of the image
  pub run_held : (image : Image) (place : ℕ) → AreBlocksFrom image place count bytes → HasRun image place i count (with_run bank i count bytes)
  run_held image place read k low =
      sym (get_or-drop i (with_run bank i count bytes) k []) ∙ ap (λ (xs : Image). get_or xs k []) run_on
      ∙ sym (get_or-take count (blocks_of_bytes count bytes ++ drop (i + count) bank) k [] low)
      ∙ ap (λ (xs : Image). get_or xs k []) (take_at (blocks_of_bytes count bytes) (drop (i + count) bank) count (length-blocks_of count bytes))
      ∙ get_or_from_slice_get (blocks_of_bytes count bytes) k (take 4096 (drop (k * 4096) bytes)) [] (slice_get-blocks_of count k bytes low)
      ∙ sym (get_or_from_slice_get image (place + k) (take 4096 (drop (k * 4096) bytes)) [] (read k low))

-- the first of the blocks of a run stand behind the blocks of those before it
run_more : (image bank : Image) (places : List ℕ) (i n place j : ℕ) → j ≤ n → i + n ≤ length places → i + n ≤ length bank → AreNeighbours n (drop i places) → place ≡ get_or places i 0
    → HasRun image place i n bank → take i bank ≡ blocks_at image (take i places) → take (i + j) bank ≡ blocks_at image (take (i + j) places)
run_more image bank places i n place zero few within inside behind first held before =
    let none : i + 0 ≡ i = omega arith in
    ap (λ (k : ℕ). take k bank) none ∙ before ∙ ap (λ (k : ℕ). blocks_at image (take k places)) (sym none)
run_more image bank places i n place (suc j) few within inside behind first held before =
    let next : i + suc j ≡ i + j + 1 = omega arith in
    let start : i + 0 ≡ i = omega arith in
    let low : j < n = omega (arith, few) in
    let start_is : get_or (drop i places) 0 0 ≡ place = get_or-drop i places 0 0 ∙ ap (λ (k : ℕ). get_or places k 0) start ∙ sym first in
    let number : get_or places (i + j) 0 ≡ place + j = sym (get_or-drop i places j 0) ∙ behind j low ∙ ap (λ (k : ℕ). k + j) start_is in
    let block : get_or bank (i + j) [] ≡ get_or image (get_or places (i + j) 0) [] = held j low ∙ ap (λ (k : ℕ). get_or image k []) (sym number) in
    let more : take (i + j + 1) bank ≡ take (i + j) bank ++ get_or bank (i + j) [] ∷ [] = take_more bank (i + j) [] (omega (arith, low, inside)) in
    let wanted : blocks_at image (take (i + j + 1) places) ≡ blocks_at image (take (i + j) places) ++ get_or image (get_or places (i + j) 0) [] ∷ [] =
    ap (λ (xs : List ℕ). blocks_at image xs) (take_more places (i + j) 0 (omega (arith, low, within))) ∙ map-append (λ place. get_or image place []) (take (i + j) places) (get_or places (i + j) 0 ∷ []) in
    let passed = run_more image bank places i n place j (omega (arith, few)) within inside behind first held before in
    ap (λ (k : ℕ). take k bank) next ∙ more ∙ (λ k. passed k ++ block k ∷ []) ∙ sym wanted ∙ ap (λ (k : ℕ). blocks_at image (take k places)) (sym next)

-- and all of them
pub run_first : (image old new : Image) (places : List ℕ) (i n place : ℕ) → i + n ≤ length places → i + n ≤ length new → AreNeighbours n (drop i places) → place ≡ get_or places i 0
    → HasRun image place i n new → take i new ≡ take i old → take i old ≡ blocks_at image (take i places) → take (i + n) new ≡ blocks_at image (take (i + n) places)
run_first image old new places i n place within inside behind first held kept before =
    run_more image new places i n place n (omega arith) within inside behind first held (kept ∙ before)

-- the blocks behind a run are as they were
pub rest_on : (first old new : Image) (i n : ℕ) → drop (i + n) new ≡ drop (i + n) old → drop i old ≡ drop i first → drop (i + n) new ≡ drop (i + n) first
rest_on first old new i n kept before =
    kept ∙ sym (drop-drop n i old) ∙ ap (λ (bank : Image). drop n bank) before ∙ drop-drop n i first

-- one number is a run, and a run grows by the number that follows
pub neighbours_one : (numbers : List ℕ) → AreNeighbours 1 numbers
neighbours_one numbers zero low = omega arith
neighbours_one numbers (suc k) low = absurd (omega (arith, low))

pub neighbours_next : (numbers : List ℕ) (n : ℕ) → AreNeighbours n numbers → get_or numbers n 0 ≡ get_or numbers 0 0 + n → AreNeighbours (n + 1) numbers
neighbours_next numbers n before next k low = by_place (cases_lt k n)
  where
    by_place : (k < n) ⊎ (n ≤ k) → get_or numbers k 0 ≡ get_or numbers 0 0 + k
    by_place (inl passed) = before k passed
    by_place (inr last) =
        let same : n ≡ k = omega (arith, low, last) in
        subst (λ (j : ℕ). get_or numbers j 0 ≡ get_or numbers 0 0 + j) same next

-- the last number of a run
pub last_of_run : (places : List ℕ) (i n : ℕ) → AreNeighbours n (drop i places) → 0 < n → get_or places (i + (n - 1)) 0 ≡ get_or places i 0 + (n - 1)
last_of_run places i n behind some =
    let start : i + 0 ≡ i = omega arith in
    sym (get_or-drop i places (n - 1) 0) ∙ behind (n - 1) (omega (arith, some))
    ∙ ap (λ (k : ℕ). k + (n - 1)) (get_or-drop i places 0 0 ∙ ap (λ (k : ℕ). get_or places k 0) start)

-- so many whole blocks
pub blocks_in : (count bytes : ℕ) → bytes ≡ count * 4096 → bytes / 4096 ≡ count
blocks_in count bytes long = omega (arith, long)
