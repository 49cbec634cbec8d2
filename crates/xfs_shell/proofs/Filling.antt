-- Buffers that are filled from a source.
use Rattle.std.proofs.Common.{◌≡◌, ℕ, ◌+◌, ◌≤◌, List, [], ◌++◌, length, take, drop, sym, ◌∙◌, ap, ap₂, append_assoc, arith}
use Rattle.std.proofs.lemmas.List.{append-nil, length-append, length-take-le, take_all, take-append-drop, take-append-le}
use Rattle.std.proofs.Math.Seq.{take-append-add}

-- what was taken stands behind the first bytes
pub behind_taken : (buffer into behind left : List ℕ) (count n : ℕ) → count ≤ length buffer → n ≤ length into → take n into ≡ take n left
    → take (count + n) (take count buffer ++ (into ++ behind)) ≡ take count buffer ++ take n left
behind_taken buffer into behind left count n within some same =
    let front : count + n ≡ length (take count buffer) + n = omega (arith, length-take-le count buffer within) in
    ap (λ (k : ℕ). take k (take count buffer ++ (into ++ behind))) front
    ∙ take-append-add (take count buffer) (into ++ behind) n
    ∙ ap (λ (bytes : List ℕ). take count buffer ++ bytes) (take-append-le n into behind some ∙ same)

-- more of what was left is in the buffer
pub more_filled : (left old new rest : List ℕ) (count n : ℕ) → left ≡ take count old ++ rest → take (count + n) new ≡ take count old ++ take n rest
    → left ≡ take (count + n) new ++ drop n rest
more_filled left old new rest count n is filled =
    is
    ∙ ap (λ (bytes : List ℕ). take count old ++ bytes) (sym (take-append-drop n rest))
    ∙ sym (append_assoc (take count old) (take n rest) (drop n rest))
    ∙ ap (λ (bytes : List ℕ). bytes ++ drop n rest) (sym filled)

-- nothing more was left
pub filled_end : (left old new rest : List ℕ) (count n : ℕ) → n ≡ 0 → rest ≡ [] → left ≡ take count old ++ rest → take (count + n) new ≡ take count old ++ take n rest
    → left ≡ take count new
filled_end left old new rest count n none nothing is filled =
    let same : count + 0 ≡ count = omega arith in
    more_filled left old new rest count n is filled
    ∙ ap₂ (λ (k : ℕ) (r : List ℕ). take (count + k) new ++ drop k r) none nothing
    ∙ ap (λ (k : ℕ). take k new ++ []) same
    ∙ append-nil (take count new)

-- the buffer is full
pub filled_whole : (left buffer rest : List ℕ) (count : ℕ) → length buffer ≤ count → left ≡ take count buffer ++ rest → length buffer ≤ length left
filled_whole left buffer rest count full is =
    let same : left ≡ buffer ++ rest = is ∙ ap (λ (b : List ℕ). b ++ rest) (take_all count buffer full) in
    omega (arith, ap length same, length-append buffer rest)
