-- How entries and unused spans are told from one another.
use Rattle.std.proofs.Common.{◌≡◌, ℕ, true, false, ◌<◌, ◌^◌, List, drop, slice_index, arith}
use Rattle.std.proofs.lemmas.Bool.Decides.{nat_tests}
use Rattle.xfs_word.specs.Field.{field_of}
use Rattle.xfs_dirdata.specs.Data.{is_span}

-- what begins with a small inode number is no unused span
pub unmarked : (bytes : List ℕ) (at : ℕ) → field_of bytes at 8 < 2 ^ 32 → is_span bytes at ≡ false
unfolding field_of is_span
unmarked bytes at small =
    let rest = drop at bytes in
    let first : slice_index rest 0 ≡ 0 = omega (arith, small) in
    let second : slice_index rest 1 ≡ 0 = omega (arith, small) in
    grind (arith, nat_tests, first, second)

pub marked : (bytes : List ℕ) (at : ℕ) → field_of bytes at 2 ≡ 0xffff → is_span bytes at ≡ true
unfolding is_span
marked bytes at mark = grind (arith, nat_tests)
