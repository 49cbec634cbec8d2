-- Pairs and values that stand in a block are its bytes, and so is what the block has beside them.
use Rattle.std.proofs.Common.{◌≡◌, ℕ, zero, suc, ◌+◌, ◌-◌, ◌*◌, ◌≤◌, List, [], ◌∷◌, ◌++◌, map, length, take, drop, refl, sym, ◌∙◌, ap, ap₂, arith}
use Rattle.std.specs.List.{range_with_len}
use Rattle.std.proofs.lemmas.List.{take_all, take-replicate, drop-replicate, length-replicate}
use Rattle.xfs_word.specs.Field.{field_of, part_of, zeros}
use Rattle.xfs_word.proofs.Register.{AreBytes}
use Rattle.xfs_dirdata.specs.Bytes.{big_endian}
use Rattle.xfs_dirdata.proofs.Spelling.{part-join, part-none, number-part}
use Rattle.xfs_dirindex.specs.declared.pairs.Pair.{Pair}
use Rattle.xfs_dirindex.specs.Pairs.{pair_at, pairs_at}
use Rattle.xfs_dirbuild.specs.Index.{AreValues}
use Rattle.xfs_dirbuild.specs.Blocks.{pairs_bytes, values_bytes, last_pair_hash}

-- parts of zeros
pub blank-part : (n : ℕ) (bytes : List ℕ) (at width : ℕ) → bytes ≡ zeros n → at + width ≤ n → part_of bytes at width ≡ zeros width
unfolding part_of zeros
blank-part n bytes at width is inside =
    ap (λ (xs : List ℕ). take width (drop at xs)) is
    ∙ (ap (take width) (drop-replicate at n 0) ∙ take-replicate width (n - at) 0 (omega arith))

pub blank-long : (n : ℕ) (bytes : List ℕ) → bytes ≡ zeros n → length bytes ≡ n
unfolding zeros
blank-long n bytes is = ap length is ∙ length-replicate n 0

-- all of some bytes
pub part-all : (bytes : List ℕ) (n : ℕ) → length bytes ≡ n → part_of bytes 0 n ≡ bytes
unfolding part_of
part-all bytes n long = take_all n bytes (omega (arith, long))

-- pairs
pair-part : (bytes : List ℕ) (at : ℕ) → AreBytes bytes → at + 8 ≤ length bytes
    → part_of bytes at 8 ≡ big_endian 4 (pair_at bytes at).hash ++ big_endian 4 (pair_at bytes at).address
pair-part bytes at all inside =
    part-join bytes at 4 4
    ∙ ap₂ ◌++◌ (number-part bytes at 4 (field_of bytes at 4) all (omega arith) refl) (number-part bytes (at + 4) 4 (field_of bytes (at + 4) 4) all (omega arith) refl)

pairs-from : (bytes : List ℕ) (at a n : ℕ) → AreBytes bytes → at + 8 * a + 8 * n ≤ length bytes
    → part_of bytes (at + 8 * a) (8 * n) ≡ pairs_bytes (map (λ k. pair_at bytes (at + 8 * k)) (range_with_len a n))
unfolding pairs_bytes
pairs-from bytes at a zero all inside = part-none bytes (at + 8 * a)
pairs-from bytes at a (suc n) all inside =
    let size : 8 * suc n ≡ 8 + 8 * n = omega arith in
    let next : at + 8 * a + 8 ≡ at + 8 * (a + 1) = omega arith in
    ap (part_of bytes (at + 8 * a)) size
    ∙ (part-join bytes (at + 8 * a) 8 (8 * n)
    ∙ ap₂ ◌++◌ (pair-part bytes (at + 8 * a) all (omega arith))
    (ap (λ (p : ℕ). part_of bytes p (8 * n)) next ∙ pairs-from bytes at (a + 1) n all (omega arith)))

pub pairs-part : (bytes : List ℕ) (at : ℕ) (pairs : List Pair) → AreBytes bytes → at + 8 * length pairs ≤ length bytes → pairs_at bytes at (length pairs) ≡ pairs
    → part_of bytes at (8 * length pairs) ≡ pairs_bytes pairs
unfolding pairs_at
pairs-part bytes at pairs all inside are =
    ap (λ (p : ℕ). part_of bytes p (8 * length pairs)) (omega arith)
    ∙ (pairs-from bytes at 0 (length pairs) all (omega arith) ∙ ap pairs_bytes are)

-- the greatest hash of pairs that stand in a block
last-from : (bytes : List ℕ) (at a n : ℕ) → last_pair_hash (map (λ k. pair_at bytes (at + 8 * k)) (range_with_len a (suc n))) ≡ field_of bytes (at + 8 * (a + n)) 4
last-from bytes at a zero = ap (λ (p : ℕ). field_of bytes p 4) (omega arith)
last-from bytes at a (suc n) = last-from bytes at (a + 1) n ∙ ap (λ (p : ℕ). field_of bytes p 4) (omega arith)

pub last-part : (bytes : List ℕ) (count : ℕ) (pairs : List Pair) → 1 ≤ count → length pairs ≡ count → pairs_at bytes 64 (length pairs) ≡ pairs
    → field_of bytes (56 + 8 * count) 4 ≡ last_pair_hash pairs
unfolding pairs_at
last-part bytes count pairs some long are =
    let place : 64 + 8 * (0 + (count - 1)) ≡ 56 + 8 * count = omega arith in
    let more : length pairs ≡ suc (count - 1) = omega arith in
    sym (ap last_pair_hash (sym are) ∙ (ap (λ (n : ℕ). last_pair_hash (map (λ k. pair_at bytes (64 + 8 * k)) (range_with_len 0 n))) more
    ∙ (last-from bytes 64 0 (count - 1) ∙ ap (λ (p : ℕ). field_of bytes p 4) place)))

-- values
pub values-part : (bytes : List ℕ) (at : ℕ) (values : List ℕ) → AreBytes bytes → at + 2 * length values ≤ length bytes → AreValues values at bytes
    → part_of bytes at (2 * length values) ≡ values_bytes values
unfolding values_bytes
values-part bytes at [] all inside are = part-none bytes at
values-part bytes at (v ∷ vs) all inside are =
    let size : 2 * length (v ∷ vs) ≡ 2 + 2 * length vs = omega arith in
    let first : at ≡ at + 2 * 0 = omega arith in
    let rest : AreValues vs (at + 2) bytes =
    record { each = λ j less. let place : at + 2 + 2 * j ≡ at + 2 * suc j = omega arith in ap (λ (p : ℕ). field_of bytes p 2) place ∙ are.each (suc j) (omega arith) } in
    ap (part_of bytes at) size
    ∙ (part-join bytes at 2 (2 * length vs)
    ∙ ap₂ ◌++◌ (number-part bytes at 2 v all (omega arith) (ap (λ (p : ℕ). field_of bytes p 2) first ∙ are.each 0 (omega arith)))
    (values-part bytes (at + 2) vs all (omega arith) rest))
