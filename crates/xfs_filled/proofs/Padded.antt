-- The bytes of a file, padded up to whole blocks, are its blocks.
use Rattle.std.proofs.Common.{◌≡◌, ℕ, ◌+◌, ◌-◌, ◌*◌, ◌/◌, ◌^◌, ◌<◌, ◌≤◌, inl, inr, min, List, [], ◌++◌, length, length-append, map, take, drop, append-nil, take_all, arith, refl, sym, subst, ap, ◌∙◌}
use Rattle.std.specs.Prelude.{replicate}
use Rattle.std.specs.List.{range_with_len}
use Rattle.std.proofs.lemmas.Bool.{cases_lt}
use Rattle.std.proofs.lemmas.List.{length-drop, length-replicate, length-take-le, drop-append-le, take-append-le}
use Rattle.std.proofs.lemmas.Option.{get_or_from_slice_get}
use Rattle.xfs_collections.proofs.Blocks.{length-blocks_of, slice_get-blocks_of}
use Rattle.xfs_disk.specs.Memory.{blocks_of_bytes}
use Rattle.xfs_word.specs.Field.{zeros}
use Rattle.xfs_filled.specs.Contents.{content_block, content_blocks, part_at}
use Rattle.xfs_filled.specs.Objects.{blocks_of_length}
use Rattle.xfs_filled.specs.Padding.{IsPadded}
use Rattle.xfs_filled.proofs.Lists.{listed}

zeros_are : (n : ℕ) → zeros n ≡ replicate n 0
unfolding zeros
zeros_are n = refl

-- what stands behind the front of padded bytes
rest_of_padded : (bytes pad : List ℕ) (i : ℕ) → 4096 * i ≤ length bytes → drop (i * 4096) (bytes ++ pad) ≡ drop (4096 * i) bytes ++ pad
rest_of_padded bytes pad i low =
    let at : i * 4096 ≡ 4096 * i = omega arith in
    ap (λ (m : ℕ). drop m (bytes ++ pad)) at ∙ drop-append-le (4096 * i) bytes pad low

-- a block that the bytes fill
full_block : (bytes pad : List ℕ) (i : ℕ) → 4096 * i + 4096 ≤ length bytes → take 4096 (drop (i * 4096) (bytes ++ pad)) ≡ content_block bytes i
full_block bytes pad i long =
    let rest : List ℕ = drop (4096 * i) bytes in
    let many : 4096 ≤ length rest = omega (arith, length-drop (4096 * i) bytes, long) in
    let size : min (length bytes) (4096 * i + 4096) - 4096 * i ≡ 4096 = omega (arith, long) in
    let part : part_at bytes i ≡ take 4096 rest = ap (λ (m : ℕ). take m rest) size in
    let few : 4096 - length (part_at bytes i) ≡ 0 = omega (arith, ap length part, length-take-le 4096 rest many) in
    let none : zeros (4096 - length (part_at bytes i)) ≡ [] = ap zeros few ∙ zeros_are 0 in
    ap (take 4096) (rest_of_padded bytes pad i (omega (arith, long))) ∙ take-append-le 4096 rest pad many ∙ sym part ∙ sym (append-nil (part_at bytes i))
    ∙ ap (λ (zs : List ℕ). part_at bytes i ++ zs) (sym none)

-- the last block, where they do not
last_block : (bytes : List ℕ) (i pad : ℕ) → 4096 * i ≤ length bytes → length bytes < 4096 * i + 4096 → length bytes + pad ≡ 4096 * i + 4096
    → take 4096 (drop (i * 4096) (bytes ++ replicate pad 0)) ≡ content_block bytes i
last_block bytes i pad low high whole =
    let zs : List ℕ = replicate pad 0 in
    let rest : List ℕ = drop (4096 * i) bytes in
    let long : length rest ≡ length bytes - 4096 * i = length-drop (4096 * i) bytes in
    let count : length (rest ++ zs) ≤ 4096 = omega (arith, length-append rest zs, length-replicate {A = ℕ} pad 0, long, whole) in
    let size : min (length bytes) (4096 * i + 4096) - 4096 * i ≡ length bytes - 4096 * i = omega (arith, high) in
    let part : part_at bytes i ≡ rest = ap (λ (m : ℕ). take m rest) size ∙ take_all (length bytes - 4096 * i) rest (omega (arith, long)) in
    let few : 4096 - length (part_at bytes i) ≡ pad = omega (arith, ap length part, long, whole, low) in
    let behind : zs ≡ zeros (4096 - length (part_at bytes i)) = sym (zeros_are pad) ∙ ap zeros (sym few) in
    ap (take 4096) (rest_of_padded bytes zs i low) ∙ take_all 4096 (rest ++ zs) count ∙ (λ k. sym part k ++ behind k)

each_block : (bytes : List ℕ) (n pad i : ℕ) → n ≡ blocks_of_length (length bytes) → length bytes + pad ≡ n * 4096 → i < n
    → take 4096 (drop (i * 4096) (bytes ++ replicate pad 0)) ≡ content_block bytes i
each_block bytes n pad i count whole low = elim (cases_lt (length bytes) (4096 * i + 4096)) [
  | inl less ↦ last_block bytes i pad (omega (arith, count, low)) less (omega (arith, count, whole, low, less))
  | inr more ↦ full_block bytes (replicate pad 0) i more
]

pub padded_blocks : (bytes : List ℕ) (n pad : ℕ) → n ≡ blocks_of_length (length bytes) → length bytes + pad ≡ n * 4096
    → blocks_of_bytes n (bytes ++ replicate pad 0) ≡ content_blocks bytes
padded_blocks bytes n pad count whole =
    let all : List ℕ = bytes ++ replicate pad 0 in
    listed (content_block bytes) (blocks_of_bytes n all) n [] (length-blocks_of n all)
    (λ i low. get_or_from_slice_get (blocks_of_bytes n all) i (take 4096 (drop (i * 4096) all)) [] (slice_get-blocks_of n i all low) ∙ each_block bytes n pad i count whole low)
    ∙ ap (λ (m : ℕ). map (content_block bytes) (range_with_len 0 m)) count

-- padded bytes of a file are padded; in front are these bytes
pub front_is : (bytes pad : List ℕ) → take (length bytes) (bytes ++ pad) ≡ bytes
front_is bytes pad = take-append-le (length bytes) bytes pad (omega arith) ∙ take_all (length bytes) bytes (omega arith)

pub is_padded : (bytes : List ℕ) (n : ℕ) → n ≡ blocks_of_length (length bytes) → length bytes ≤ n * 4096 → length bytes < 2 ^ 63
    → IsPadded (length bytes) (bytes ++ replicate (n * 4096 - length bytes) 0)
is_padded bytes n count fits few =
    let pad = n * 4096 - length bytes in
    let all : List ℕ = bytes ++ replicate pad 0 in
    let long : length all ≡ n * 4096 = omega (arith, length-append bytes (replicate pad 0), length-replicate {A = ℕ} pad 0, fits) in
    let blocks : length all / 4096 ≡ n = omega (arith, long) in
    record {
      inside = omega (arith, long, fits);
      few = few;
      blocks = ap (λ (m : ℕ). blocks_of_bytes m all) blocks ∙ padded_blocks bytes n pad count (omega (arith, fits)) ∙ ap content_blocks (sym (front_is bytes (replicate pad 0)));
    }

-- the same of bytes that were cut or filled up to so many blocks
pub padded_by : (bytes : List ℕ) (n size count : ℕ) (whole : List ℕ) → size ≡ length bytes → count ≡ length bytes → n ≡ blocks_of_length (length bytes) → length bytes ≤ n * 4096
    → length bytes < 2 ^ 63 → whole ≡ take (n * 4096) bytes ++ replicate (n * 4096 - count) 0 → IsPadded size whole
padded_by bytes n size count whole at as_many blocks fits few is =
    let same : whole ≡ bytes ++ replicate (n * 4096 - length bytes) 0 = is ∙ (λ k. take_all (n * 4096) bytes fits k ++ replicate (n * 4096 - as_many k) 0) in
    subst (λ (xs : List ℕ). IsPadded size xs) (sym same) (subst (λ (m : ℕ). IsPadded m (bytes ++ replicate (n * 4096 - length bytes) 0)) (sym at) (is_padded bytes n blocks fits few))
