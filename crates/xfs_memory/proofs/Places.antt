-- Blocks of a list of bytes: the block at a place, and what a write to one does.
use Rattle.std.proofs.Common.{◌≡◌, ℕ, zero, suc, ◌+◌, ◌-◌, ◌*◌, ◌<◌, ◌≤◌, List, ◌∷◌, ◌++◌, take, drop, length, get_or, Some, Fits, w8, Vec, arith, ap, refl, sym, ◌∙◌}
use Rattle.std.specs.Prelude.{slice_get, slice_set, replicate}
use Rattle.std.specs.List.{All, concat}
use Rattle.std.specs.Vec.{with_items}
use Rattle.std.proofs.lemmas.List.Elements.{All-append, All-take, All-drop, All-from_get_or}
use borrow.Rule.Slice.PartMut.{put_mid}
use Rattle.std.proofs.lemmas.List.{with_items_is, length-drop, length-take-le, length-append, take_at, drop_at, take-append-drop, take-append-le, take-take, drop-append-le, drop-take, drop-drop, take-replicate, drop-replicate, nil_from_length}
use Rattle.xfs_disk.specs.Blocks.{Image}
use Rattle.xfs_disk.specs.Memory.{blocks_of_bytes, with_block}

-- the block at a place is that part of the bytes
pub slice_get-blocks_of : (blocks at : ℕ) (bytes : List ℕ) → at < blocks → slice_get (blocks_of_bytes blocks bytes) at ≡ Some (take 4096 (drop (at * 4096) bytes))
unfolding blocks_of_bytes
slice_get-blocks_of zero at bytes inside = absurd (omega arith)
slice_get-blocks_of (suc n) zero bytes inside = refl
slice_get-blocks_of (suc n) (suc k) bytes inside =
    let place : suc k * 4096 ≡ 4096 + k * 4096 = omega arith in
    slice_get-blocks_of n k (drop 4096 bytes) (omega arith) ∙ ap (λ (xs : List ℕ). Some (take 4096 xs)) (drop-drop (k * 4096) 4096 bytes ∙ ap (λ (m : ℕ). drop m bytes) (sym place))

-- a block in another's place is a block set in the image
pub blocks_of-with_block : (blocks at : ℕ) (bytes block : List ℕ) → at < blocks → length bytes ≡ blocks * 4096 → length block ≡ 4096 → blocks_of_bytes blocks (with_block bytes at block) ≡ slice_set (blocks_of_bytes blocks bytes) at block
unfolding blocks_of_bytes with_block
blocks_of-with_block zero at bytes block inside whole size = absurd (omega arith)
blocks_of-with_block (suc n) zero bytes block inside whole size =
    let front : take 4096 (block ++ drop 4096 bytes) ≡ block = take_at block (drop 4096 bytes) 4096 size in
    let back : drop 4096 (block ++ drop 4096 bytes) ≡ drop 4096 bytes = drop_at block (drop 4096 bytes) 4096 size in
    λ k. front k ∷ blocks_of_bytes n (back k)
blocks_of-with_block (suc n) (suc j) bytes block inside whole size =
    let place : suc j * 4096 ≡ 4096 + j * 4096 = omega arith in
    let below : suc j * 4096 ≤ length bytes = omega arith in
    let long : 4096 ≤ length (take (suc j * 4096) bytes) = omega (arith, length-take-le (suc j * 4096) bytes below) in
    let tail : List ℕ = block ++ drop 4096 (drop (suc j * 4096) bytes) in
    let first : take 4096 (take (suc j * 4096) bytes ++ tail) ≡ take 4096 bytes = take-append-le 4096 (take (suc j * 4096) bytes) tail long ∙ take-take 4096 (suc j * 4096) bytes (omega arith) in
    let front : drop 4096 (take (suc j * 4096) bytes) ≡ take (j * 4096) (drop 4096 bytes) = ap (λ (m : ℕ). drop 4096 (take m bytes)) place ∙ drop-take 4096 (j * 4096) bytes in
    let back : drop (suc j * 4096) bytes ≡ drop (j * 4096) (drop 4096 bytes) = ap (λ (m : ℕ). drop m bytes) place ∙ sym (drop-drop (j * 4096) 4096 bytes) in
    let rest : drop 4096 (take (suc j * 4096) bytes ++ tail) ≡ with_block (drop 4096 bytes) j block = drop-append-le 4096 (take (suc j * 4096) bytes) tail long ∙ (λ k. front k ++ (block ++ drop 4096 (back k))) in
    let others : blocks_of_bytes n (with_block (drop 4096 bytes) j block) ≡ slice_set (blocks_of_bytes n (drop 4096 bytes)) j block = blocks_of-with_block n j (drop 4096 bytes) block (omega arith) (omega (arith, length-drop 4096 bytes)) size in
    let set : blocks_of_bytes n (drop 4096 (take (suc j * 4096) bytes ++ tail)) ≡ slice_set (blocks_of_bytes n (drop 4096 bytes)) j block = ap (λ (xs : List ℕ). blocks_of_bytes n xs) rest ∙ others in
    λ k. first k ∷ set k

-- all zero bytes are blocks of zeros
pub blocks_of-replicate : (blocks : ℕ) → blocks_of_bytes blocks (replicate (blocks * 4096) 0) ≡ replicate blocks (replicate 4096 0)
unfolding blocks_of_bytes
blocks_of-replicate zero = refl
blocks_of-replicate (suc n) =
    let front : take 4096 (replicate {A = ℕ} (suc n * 4096) 0) ≡ replicate 4096 0 = take-replicate 4096 (suc n * 4096) 0 (omega arith) in
    let less : suc n * 4096 - 4096 ≡ n * 4096 = omega arith in
    let rest : drop 4096 (replicate (suc n * 4096) 0) ≡ replicate (n * 4096) 0 = drop-replicate 4096 (suc n * 4096) 0 ∙ ap (λ (m : ℕ). replicate m 0) less in
    let others : blocks_of_bytes n (drop 4096 (replicate (suc n * 4096) 0)) ≡ replicate n (replicate 4096 0) = ap (λ (xs : List ℕ). blocks_of_bytes n xs) rest ∙ blocks_of-replicate n in
    λ k. front k ∷ others k

-- the blocks in a row are the bytes
pub concat-blocks_of : (blocks : ℕ) (bytes : List ℕ) → length bytes ≡ blocks * 4096 → concat (blocks_of_bytes blocks bytes) ≡ bytes
unfolding blocks_of_bytes
concat-blocks_of zero bytes whole = sym (nil_from_length bytes (omega arith))
concat-blocks_of (suc n) bytes whole =
    ap (λ (xs : List ℕ). take 4096 bytes ++ xs) (concat-blocks_of n (drop 4096 bytes) (omega (arith, length-drop 4096 bytes))) ∙ take-append-drop 4096 bytes

-- a block in another's place leaves the number of bytes
pub length-with_block : (bytes block : List ℕ) (at : ℕ) → at * 4096 + 4096 ≤ length bytes → length block ≡ 4096 → length (with_block bytes at block) ≡ length bytes
unfolding with_block
length-with_block bytes block at inside size = simp (length-append, length-drop) (omega (arith, length-take-le (at * 4096) bytes (omega arith)))

-- what is so of all bytes of both is so of the bytes with the block in another's place
pub All-with_block : (P : ℕ → Type 0) (bytes block : List ℕ) (at : ℕ) → All P bytes → All P block → All P (with_block bytes at block)
unfolding with_block
All-with_block P bytes block at all new =
    let rest = drop 4096 (drop (at * 4096) bytes) in
    All-append P (take (at * 4096) bytes) (block ++ rest) (All-take P (at * 4096) bytes all) (All-append P block rest new (All-drop P 4096 (drop (at * 4096) bytes) (All-drop P (at * 4096) bytes all)))

-- a part of a block's length in the place of a block
pub with_block-put_mid : (bytes block part : List ℕ) (at : ℕ) → at * 4096 + 4096 ≤ length bytes → part ≡ block → length block ≡ 4096 → put_mid (at * 4096) (at * 4096 + 4096 - at * 4096) bytes part ≡ with_block bytes at block
unfolding with_block
with_block-put_mid bytes block part at inside same size =
    let long : at * 4096 + 4096 - at * 4096 ≡ 4096 = omega arith in
    λ k. put_mid (at * 4096) (long k) bytes (same k)

-- a Vec whose elements were lent, and came back with a block in another's place
pub items-with_block : {Z : Type 0} (v : Vec ℕ Z) (lent back block : List ℕ) (at : ℕ) → length back ≡ v.len → back ≡ with_block lent at block → lent ≡ v.items → (with_items v back).items ≡ with_block v.items at block
items-with_block v lent back block at long written was = with_items_is v back long ∙ written ∙ ap (λ (xs : List ℕ). with_block xs at block) was

-- each byte of a slice is below 256
pub bytes_fit : (xs : List ℕ) → ((i : ℕ) → Fits w8 (get_or xs i 0)) → All (λ b. b < 256) xs
bytes_fit xs fits = All-from_get_or (λ b. b < 256) xs 0 (λ i inside. let fit = fits i in omega arith)

-- the blocks of those bytes are the image with that block
pub image-with_block : (blocks at : ℕ) (bytes now block : List ℕ) (image : Image) → at < blocks → length bytes ≡ blocks * 4096 → length block ≡ 4096 → now ≡ with_block bytes at block → blocks_of_bytes blocks bytes ≡ image → blocks_of_bytes blocks now ≡ slice_set image at block
image-with_block blocks at bytes now block image inside whole size written held = ap (λ (xs : List ℕ). blocks_of_bytes blocks xs) written ∙ blocks_of-with_block blocks at bytes block inside whole size ∙ ap (λ (i : Image). slice_set i at block) held
