-- Arrays of numbers, number by number.
use Rattle.std.proofs.Common.{◌≡◌, ℕ, ◌+◌, ◌*◌, ◌<◌, List, length, get_or, inl, inr, sym, ◌∙◌, arith}
use Rattle.std.proofs.lemmas.List.FromFn.{fill_by_all, get_or-map-range_with_len, length-map-range_with_len}
use Rattle.std.proofs.Math.Nat.{zero-add}
use Rattle.xfs_word.specs.Field.{field_of, KeepsBeside, Beside}
use Rattle.xfs_heads.specs.Heads.{numbers}

pub numbers_at : (bytes : List ℕ) (at n k : ℕ) → k < n → get_or (numbers bytes at n) k 0 ≡ field_of bytes (at + 4 * k) 4
unfolding numbers
numbers_at bytes at n k h = get_or-map-range_with_len (λ i. field_of bytes (at + 4 * i) 4) 0 n k k 0 h (zero-add k)

numbers_long : (bytes : List ℕ) (at n : ℕ) → length (numbers bytes at n) ≡ n
unfolding numbers
numbers_long bytes at n = length-map-range_with_len (λ i. field_of bytes (at + 4 * i) 4) 0 n

as_numbers : (bytes : List ℕ) (at n : ℕ) (xs : List ℕ) → length xs ≡ n → ((k : ℕ) → k < n → get_or xs k 0 ≡ field_of bytes (at + 4 * k) 4)
    → xs ≡ numbers bytes at n
unfolding numbers
as_numbers bytes at n xs long same = fill_by_all (λ i. field_of bytes (at + 4 * i) 4) xs n 0 long same

pub numbers_kept : (old new : List ℕ) (at width lo n : ℕ) → KeepsBeside old new at width → Beside at width lo (4 * n)
    → numbers new lo n ≡ numbers old lo n
numbers_kept old new at width lo n kept beside =
    sym (as_numbers new lo n (numbers old lo n) (numbers_long old lo n) (λ k h. numbers_at old lo n k h ∙ sym (kept (lo + 4 * k) 4 (apart k h beside))))
  where
    apart : (k : ℕ) → k < n → Beside at width lo (4 * n) → Beside at width (lo + 4 * k) 4
    apart k h b = elim b [ inl low ↦ inl (omega arith) | inr high ↦ inr (omega arith) ]
