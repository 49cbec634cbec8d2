-- Blocks that follow one another, read one by one into their places.
use Rattle.std.proofs.Common.{◌≡◌, ℕ, ◌+◌, ◌-◌, ◌*◌, ◌<◌, ◌≤◌, ◌⊎◌, inl, inr, List, ◌++◌, take, drop, length, min, Some, zero, suc, ap, sym, subst, ◌∙◌, arith}
use Rattle.std.specs.Prelude.{slice_get}
use Rattle.std.proofs.lemmas.Bool.{cases_lt}
use Rattle.std.proofs.lemmas.List.{length-drop, length-take-le, take_at, drop_at, drop-append-le, take-append-le, drop-take, take-take}
use borrow.Rule.Slice.PartMut.{put_mid, post_of}
use Rattle.xfs_disk.specs.Blocks.{AreBlocksFrom, Image}
use Rattle.xfs_disk.specs.Counts.{raised, raised_times}
use Rattle.xfs_disk.specs.Faults.{Rose}

-- a part of a list's front, whatever stands behind the front
front_stays : (a n m : ℕ) (xs rest : List ℕ) → a + n ≤ m → m ≤ length xs → take n (drop a (take m xs ++ rest)) ≡ take n (drop a xs)
front_stays a n m xs rest fits inside =
    let whole : a + (m - a) ≡ m = omega (arith, fits) in
    let long : length (take m xs) ≡ m = length-take-le m xs inside in
    let left : length (drop a (take m xs)) ≡ m - a = length-drop a (take m xs) ∙ ap (λ k. k - a) long in
    let front : drop a (take m xs) ≡ take (m - a) (drop a xs) = ap (λ k. drop a (take k xs)) (sym whole) ∙ drop-take a (m - a) xs in
    ap (take n) (drop-append-le a (take m xs) rest (omega (arith, fits, long)))
    ∙ take-append-le n (drop a (take m xs)) rest (omega (arith, fits, left))
    ∙ ap (take n) front ∙ take-take n (m - a) (drop a xs) (omega (arith, fits))

-- one block more is read into its place
pub blocks_next : (image : Image) (at i : ℕ) (into block : List ℕ) → i * 4096 + 4096 ≤ length into → length block ≡ 4096 → AreBlocksFrom image at i into
    → slice_get image (at + i) ≡ Some block → AreBlocksFrom image at (i + 1) (put_mid (i * 4096) (i * 4096 + 4096 - i * 4096) into block)
blocks_next image at i into block inside size before read k low = by_place (cases_lt k i)
  where
    by_place : (k < i) ⊎ (i ≤ k) → slice_get image (at + k) ≡ Some (take 4096 (drop (k * 4096) (put_mid (i * 4096) (i * 4096 + 4096 - i * 4096) into block)))
    by_place (inl passed) =
        before k passed
        ∙ ap (λ xs. Some xs) (sym (front_stays (k * 4096) 4096 (i * 4096) into (block ++ post_of (i * 4096) (i * 4096 + 4096 - i * 4096) into) (omega (arith, passed)) (omega (arith, inside))))
    by_place (inr last) =
        let same : i ≡ k = omega (arith, low, last) in
        let rest : List ℕ = post_of (i * 4096) (i * 4096 + 4096 - i * 4096) into in
        let long : length (take (i * 4096) into) ≡ i * 4096 = length-take-le (i * 4096) into (omega (arith, inside)) in
        let here : take 4096 (drop (i * 4096) (take (i * 4096) into ++ (block ++ rest))) ≡ block = ap (take 4096) (drop_at (take (i * 4096) into) (block ++ rest) (i * 4096) long) ∙ take_at block rest 4096 size in
        subst (λ (j : ℕ). slice_get image (at + j) ≡ Some (take 4096 (drop (j * 4096) (put_mid (i * 4096) (i * 4096 + 4096 - i * 4096) into block)))) same
        (read ∙ ap (λ xs. Some xs) (sym here))

-- no block is read yet
pub blocks_none : (image : Image) (at : ℕ) (into : List ℕ) → AreBlocksFrom image at 0 into
blocks_none image at into k low = absurd (omega (arith, low))

-- a count that was raised once more
pub raised_more : (i count between now : ℕ) → between ≡ raised_times i count → now ≡ raised between → now ≡ raised_times (i + 1) count
raised_more i count between now before once =
    let step : i + 1 ≡ suc i = omega arith in
    once ∙ ap raised before ∙ ap (λ (k : ℕ). raised_times k count) (sym step)

-- a count that is raised so many times, by one addition
pub raised_all : (n count : ℕ) → count < 18446744073709551616 → raised_times n count ≡ min (count + n) 18446744073709551615
raised_all zero count fits = omega (arith, fits)
raised_all (suc n) count fits =
    let before = raised_all n count fits in
    ap raised before ∙ omega (arith, fits)

-- a count that rose after it had not fallen
pub rose_on : (a b c : ℕ) → a ≤ b → Rose b c → Rose a c
rose_on a b c up (le, rose) = (omega (arith, up, le), omega (arith, up, le, rose))
