-- The blocks of a list of bytes: how many, which, all in a row, some of them, and one in the place of another.
use Rattle.std.proofs.Common.{◌≡◌, ℕ, zero, suc, ◌+◌, ◌-◌, ◌*◌, ◌<◌, ◌≤◌, List, [], ◌∷◌, ◌++◌, take, drop, length, Some, arith, ap, refl, sym, ◌∙◌}
use Rattle.std.specs.Prelude.{slice_get, slice_set, replicate}
use Rattle.std.specs.List.{concat}
use Rattle.std.proofs.Math.Seq.{take-add}
use Rattle.std.proofs.lemmas.List.{length-drop, length-take-le, length-append, take_at, drop_at, take-append-drop, take-append-le, take-take, drop-append-le, drop-take, drop-drop, take-replicate, drop-replicate, take_all}
use Rattle.xfs_disk.specs.Blocks.{Image}
use Rattle.xfs_disk.specs.Memory.{blocks_of_bytes}
use Rattle.xfs_collections.specs.Bank.{overwritten, with_run}

-- there are as many blocks as were asked for
pub length-blocks_of : (n : ℕ) (bytes : List ℕ) → length (blocks_of_bytes n bytes) ≡ n
unfolding blocks_of_bytes
length-blocks_of zero bytes = refl
length-blocks_of (suc n) bytes = ap (λ (m : ℕ). suc m) (length-blocks_of n (drop 4096 bytes))

-- the block of a number is that part of the bytes
pub slice_get-blocks_of : (n i : ℕ) (bytes : List ℕ) → i < n → slice_get (blocks_of_bytes n bytes) i ≡ Some (take 4096 (drop (i * 4096) bytes))
unfolding blocks_of_bytes
slice_get-blocks_of zero i bytes inside = absurd (omega arith)
slice_get-blocks_of (suc n) zero bytes inside = refl
slice_get-blocks_of (suc n) (suc j) bytes inside =
    let place : 4096 + j * 4096 ≡ suc j * 4096 = omega arith in
    slice_get-blocks_of n j (drop 4096 bytes) (omega arith) ∙ ap (λ (xs : List ℕ). Some (take 4096 xs)) (drop-drop (j * 4096) 4096 bytes ∙ ap (λ (m : ℕ). drop m bytes) place)

-- the blocks in a row are the bytes that they were made of
pub concat-blocks_of : (n : ℕ) (bytes : List ℕ) → concat (blocks_of_bytes n bytes) ≡ take (n * 4096) bytes
unfolding blocks_of_bytes
concat-blocks_of zero bytes = refl
concat-blocks_of (suc n) bytes =
    let more : 4096 + n * 4096 ≡ suc n * 4096 = omega arith in
    ap (λ (xs : List ℕ). take 4096 bytes ++ xs) (concat-blocks_of n (drop 4096 bytes)) ∙ sym (take-add 4096 (n * 4096) bytes) ∙ ap (λ (m : ℕ). take m bytes) more

-- bytes behind the blocks count for nothing
pub blocks_of-append : (n : ℕ) (xs ys : List ℕ) → n * 4096 ≤ length xs → blocks_of_bytes n (xs ++ ys) ≡ blocks_of_bytes n xs
unfolding blocks_of_bytes
blocks_of-append zero xs ys long = refl
blocks_of-append (suc n) xs ys long =
    let front : take 4096 (xs ++ ys) ≡ take 4096 xs = take-append-le 4096 xs ys (omega arith) in
    let back : drop 4096 (xs ++ ys) ≡ drop 4096 xs ++ ys = drop-append-le 4096 xs ys (omega arith) in
    let others : blocks_of_bytes n (drop 4096 (xs ++ ys)) ≡ blocks_of_bytes n (drop 4096 xs) = ap (λ (zs : List ℕ). blocks_of_bytes n zs) back ∙ blocks_of-append n (drop 4096 xs) ys (omega (arith, length-drop 4096 xs)) in
    λ k. front k ∷ others k

-- the first blocks of some are the blocks of the same bytes
pub take-blocks_of : (k n : ℕ) (bytes : List ℕ) → k ≤ n → take k (blocks_of_bytes n bytes) ≡ blocks_of_bytes k bytes
unfolding blocks_of_bytes
take-blocks_of zero n bytes within = refl
take-blocks_of (suc k) zero bytes within = absurd (omega arith)
take-blocks_of (suc k) (suc n) bytes within = ap (λ (xs : Image). take 4096 bytes ∷ xs) (take-blocks_of k n (drop 4096 bytes) (omega arith))

-- the other blocks are those of the bytes behind
pub drop-blocks_of : (k n : ℕ) (bytes : List ℕ) → k ≤ n → drop k (blocks_of_bytes n bytes) ≡ blocks_of_bytes (n - k) (drop (k * 4096) bytes)
unfolding blocks_of_bytes
drop-blocks_of zero n bytes within = let none : n ≡ n - 0 = omega arith in ap (λ (m : ℕ). blocks_of_bytes m bytes) none
drop-blocks_of (suc k) zero bytes within = absurd (omega arith)
drop-blocks_of (suc k) (suc n) bytes within =
    let place : 4096 + k * 4096 ≡ suc k * 4096 = omega arith in
    let left : n - k ≡ suc n - suc k = omega arith in
    drop-blocks_of k n (drop 4096 bytes) (omega arith) ∙ (λ j. blocks_of_bytes (left j) ((drop-drop (k * 4096) 4096 bytes ∙ ap (λ (m : ℕ). drop m bytes) place) j))

-- all zero bytes are blocks of zeros
pub blocks_of-replicate : (n : ℕ) → blocks_of_bytes n (replicate (n * 4096) 0) ≡ replicate n (replicate 4096 0)
unfolding blocks_of_bytes
blocks_of-replicate zero = refl
blocks_of-replicate (suc n) =
    let front : take 4096 (replicate {A = ℕ} (suc n * 4096) 0) ≡ replicate 4096 0 = take-replicate 4096 (suc n * 4096) 0 (omega arith) in
    let less : suc n * 4096 - 4096 ≡ n * 4096 = omega arith in
    let rest : drop 4096 (replicate (suc n * 4096) 0) ≡ replicate (n * 4096) 0 = drop-replicate 4096 (suc n * 4096) 0 ∙ ap (λ (m : ℕ). replicate m 0) less in
    let others : blocks_of_bytes n (drop 4096 (replicate (suc n * 4096) 0)) ≡ replicate n (replicate 4096 0) = ap (λ (xs : List ℕ). blocks_of_bytes n xs) rest ∙ blocks_of-replicate n in
    λ k. front k ∷ others k

-- a block's bytes in the place of those of another are that block set
pub blocks_of-set : (n i : ℕ) (bytes block : List ℕ) → i < n → n * 4096 ≤ length bytes → length block ≡ 4096 → blocks_of_bytes n (take (i * 4096) bytes ++ (block ++ drop 4096 (drop (i * 4096) bytes))) ≡ slice_set (blocks_of_bytes n bytes) i block
unfolding blocks_of_bytes
blocks_of-set zero i bytes block inside long size = absurd (omega arith)
blocks_of-set (suc n) zero bytes block inside long size =
    let front : take 4096 (block ++ drop 4096 bytes) ≡ block = take_at block (drop 4096 bytes) 4096 size in
    let back : drop 4096 (block ++ drop 4096 bytes) ≡ drop 4096 bytes = drop_at block (drop 4096 bytes) 4096 size in
    λ k. front k ∷ blocks_of_bytes n (back k)
blocks_of-set (suc n) (suc j) bytes block inside long size =
    let place : suc j * 4096 ≡ 4096 + j * 4096 = omega arith in
    let tail : List ℕ = block ++ drop 4096 (drop (suc j * 4096) bytes) in
    let before : 4096 ≤ length (take (suc j * 4096) bytes) = omega (arith, length-take-le (suc j * 4096) bytes (omega arith)) in
    let first : take 4096 (take (suc j * 4096) bytes ++ tail) ≡ take 4096 bytes = take-append-le 4096 (take (suc j * 4096) bytes) tail before ∙ take-take 4096 (suc j * 4096) bytes (omega arith) in
    let front : drop 4096 (take (suc j * 4096) bytes) ≡ take (j * 4096) (drop 4096 bytes) = ap (λ (m : ℕ). drop 4096 (take m bytes)) place ∙ drop-take 4096 (j * 4096) bytes in
    let back : drop (suc j * 4096) bytes ≡ drop (j * 4096) (drop 4096 bytes) = ap (λ (m : ℕ). drop m bytes) place ∙ sym (drop-drop (j * 4096) 4096 bytes) in
    let rest : drop 4096 (take (suc j * 4096) bytes ++ tail) ≡ take (j * 4096) (drop 4096 bytes) ++ (block ++ drop 4096 (drop (j * 4096) (drop 4096 bytes))) = drop-append-le 4096 (take (suc j * 4096) bytes) tail before ∙ (λ k. front k ++ (block ++ drop 4096 (back k))) in
    let others = blocks_of-set n j (drop 4096 bytes) block (omega arith) (omega (arith, length-drop 4096 bytes)) size in
    let set : blocks_of_bytes n (drop 4096 (take (suc j * 4096) bytes ++ tail)) ≡ slice_set (blocks_of_bytes n (drop 4096 bytes)) j block = ap (λ (xs : List ℕ). blocks_of_bytes n xs) rest ∙ others in
    λ k. first k ∷ set k

-- one more block behind the others
pub blocks_of-push : (n : ℕ) (bytes block : List ℕ) → length bytes ≡ n * 4096 → length block ≡ 4096 → blocks_of_bytes (suc n) (bytes ++ block) ≡ blocks_of_bytes n bytes ++ block ∷ []
unfolding blocks_of_bytes
blocks_of-push zero [] block whole size = ap (λ (b : List ℕ). b ∷ []) (take_all 4096 block (omega (arith, size)))
blocks_of-push zero (x ∷ bytes) block whole size = absurd (omega (arith, whole))
blocks_of-push (suc n) bytes block whole size =
    let front : take 4096 (bytes ++ block) ≡ take 4096 bytes = take-append-le 4096 bytes block (omega (arith, whole)) in
    let back : drop 4096 (bytes ++ block) ≡ drop 4096 bytes ++ block = drop-append-le 4096 bytes block (omega (arith, whole)) in
    let others : blocks_of_bytes (suc n) (drop 4096 (bytes ++ block)) ≡ blocks_of_bytes n (drop 4096 bytes) ++ block ∷ [] =
    ap (λ (xs : List ℕ). blocks_of_bytes (suc n) xs) back ∙ blocks_of-push n (drop 4096 bytes) block (omega (arith, whole, length-drop 4096 bytes)) size in
    λ k. front k ∷ others k

-- the bytes of a bank's blocks in a row
pub concat_is : (n : ℕ) (bytes : List ℕ) (bank : Image) → blocks_of_bytes n bytes ≡ bank → length bytes ≡ n * 4096 → concat bank ≡ bytes
concat_is n bytes bank held whole = ap (λ (image : Image). concat image) (sym held) ∙ concat-blocks_of n bytes ∙ take_all (n * 4096) bytes (omega arith)

-- a block of the bank lies among the bytes
pub block_inside : (n : ℕ) (bytes : List ℕ) (bank : Image) (i : ℕ) → blocks_of_bytes n bytes ≡ bank → length bytes ≡ n * 4096 → i < length bank → i * 4096 + 4096 ≤ length bytes
block_inside n bytes bank i held whole inside = omega (arith, length-blocks_of n bytes, ap length held)

-- and is that part of them
pub block_is : (n : ℕ) (bytes : List ℕ) (bank : Image) (i : ℕ) → blocks_of_bytes n bytes ≡ bank → i < length bank → slice_get bank i ≡ Some (take 4096 (drop (i * 4096) bytes))
block_is n bytes bank i held inside = ap (λ (image : Image). slice_get image i) (sym held) ∙ slice_get-blocks_of n i bytes (omega (arith, length-blocks_of n bytes, ap length held))

-- a bank's blocks counted, and its bytes in a row, put in the place of both
overwritten-held : (n : ℕ) (bytes : List ℕ) (bank : Image) (i : ℕ) (over : List ℕ) → blocks_of_bytes n bytes ≡ bank → length bytes ≡ n * 4096 →
    blocks_of_bytes n (take (i * 4096) bytes ++ (over ++ drop (length over) (drop (i * 4096) bytes))) ≡ overwritten bank i over
overwritten-held n bytes bank i over held whole =
    let count : n ≡ length bank = sym (length-blocks_of n bytes) ∙ ap length held in
    let flat : bytes ≡ concat bank = sym (concat_is n bytes bank held whole) in
    λ k. blocks_of_bytes (count k) (take (i * 4096) (flat k) ++ (over ++ drop (length over) (drop (i * 4096) (flat k))))

-- bytes over those of a bank, cut to their number, are the bank overwritten
pub is_overwritten : (n count : ℕ) (bytes : List ℕ) (bank : Image) (i : ℕ) (over rest : List ℕ) → blocks_of_bytes n bytes ≡ bank → length bytes ≡ n * 4096 → count ≡ length bytes → i < length bank →
    blocks_of_bytes n (take count ((take (i * 4096) bytes ++ (over ++ drop (length over) (drop (i * 4096) bytes))) ++ rest)) ≡ overwritten bank i over
is_overwritten n count bytes bank i over rest held whole counted inside =
    let all = take (i * 4096) bytes ++ (over ++ drop (length over) (drop (i * 4096) bytes)) in
    let within : i * 4096 ≤ length bytes = omega (arith, block_inside n bytes bank i held whole inside) in
    let long : count ≤ length all = simp (length-append, length-drop) (omega (arith, length-take-le (i * 4096) bytes within)) in
    let cut : length (take count all) ≡ count = length-take-le count all long in
    let front : blocks_of_bytes n all ≡ blocks_of_bytes n (take count all) =
    ap (λ (xs : List ℕ). blocks_of_bytes n xs) (sym (take-append-drop count all)) ∙ blocks_of-append n (take count all) (drop count all) (omega arith) in
    ap (λ (xs : List ℕ). blocks_of_bytes n xs) (take-append-le count all rest long) ∙ sym front ∙ overwritten-held n bytes bank i over held whole

-- a block's bytes over those of a bank from a block on are that block set
pub overwritten-block : (n : ℕ) (bytes : List ℕ) (bank : Image) (i : ℕ) (block : List ℕ) → blocks_of_bytes n bytes ≡ bank → length bytes ≡ n * 4096 → i < length bank → length block ≡ 4096 → overwritten bank i block ≡ slice_set bank i block
overwritten-block n bytes bank i block held whole inside size =
    let below : i < n = omega (arith, length-blocks_of n bytes, ap length held) in
    let same : blocks_of_bytes n (take (i * 4096) bytes ++ (block ++ drop (length block) (drop (i * 4096) bytes))) ≡ blocks_of_bytes n (take (i * 4096) bytes ++ (block ++ drop 4096 (drop (i * 4096) bytes))) =
    ap (λ (m : ℕ). blocks_of_bytes n (take (i * 4096) bytes ++ (block ++ drop m (drop (i * 4096) bytes)))) size in
    sym (overwritten-held n bytes bank i block held whole) ∙ same ∙ blocks_of-set n i bytes block below (omega arith) size ∙ ap (λ (image : Image). slice_set image i block) held

-- the blocks of two rows of bytes, one behind the other
blocks_of-join : (a b : ℕ) (xs ys : List ℕ) → length xs ≡ a * 4096 → blocks_of_bytes (a + b) (xs ++ ys) ≡ blocks_of_bytes a xs ++ blocks_of_bytes b ys
blocks_of-join a b xs ys size =
    let less : a + b - a ≡ b = omega arith in
    let back : drop (a * 4096) (xs ++ ys) ≡ ys = drop_at xs ys (a * 4096) size in
    let first : take a (blocks_of_bytes (a + b) (xs ++ ys)) ≡ blocks_of_bytes a xs = take-blocks_of a (a + b) (xs ++ ys) (omega arith) ∙ blocks_of-append a xs ys (omega (arith, size)) in
    let others : drop a (blocks_of_bytes (a + b) (xs ++ ys)) ≡ blocks_of_bytes b ys = drop-blocks_of a (a + b) (xs ++ ys) (omega arith) ∙ (λ k. blocks_of_bytes (less k) (back k)) in
    sym (take-append-drop a (blocks_of_bytes (a + b) (xs ++ ys))) ∙ (λ k. first k ++ others k)

-- the bytes of several blocks over those of a bank from a block on are these blocks in the place of as many
pub overwritten-run : (n : ℕ) (bytes : List ℕ) (bank : Image) (i count : ℕ) (over : List ℕ) → blocks_of_bytes n bytes ≡ bank → length bytes ≡ n * 4096 → i + count ≤ length bank → length over ≡ count * 4096 → overwritten bank i over ≡ with_run bank i count over
overwritten-run n bytes bank i count over held whole inside size =
    let all : n ≡ length bank = sym (length-blocks_of n bytes) ∙ ap length held in
    let parts : n ≡ i + (count + (n - (i + count))) = omega (arith, all, inside) in
    let long : length (take (i * 4096) bytes) ≡ i * 4096 = length-take-le (i * 4096) bytes (omega (arith, whole, all, inside)) in
    let tail : List ℕ = drop (length over) (drop (i * 4096) bytes) in
    let cut : blocks_of_bytes i bytes ≡ blocks_of_bytes i (take (i * 4096) bytes) =
    ap (λ (xs : List ℕ). blocks_of_bytes i xs) (sym (take-append-drop (i * 4096) bytes)) ∙ blocks_of-append i (take (i * 4096) bytes) (drop (i * 4096) bytes) (omega (arith, long)) in
    let front : take i bank ≡ blocks_of_bytes i (take (i * 4096) bytes) = ap (λ (image : Image). take i image) (sym held) ∙ take-blocks_of i n bytes (omega (arith, all, inside)) ∙ cut in
    let place : i * 4096 + count * 4096 ≡ (i + count) * 4096 = omega arith in
    let behind : drop (length over) (drop (i * 4096) bytes) ≡ drop ((i + count) * 4096) bytes =
    ap (λ (m : ℕ). drop m (drop (i * 4096) bytes)) size ∙ drop-drop (count * 4096) (i * 4096) bytes ∙ ap (λ (m : ℕ). drop m bytes) place in
    let back : drop (i + count) bank ≡ blocks_of_bytes (n - (i + count)) (drop (length over) (drop (i * 4096) bytes)) =
    ap (λ (image : Image). drop (i + count) image) (sym held) ∙ drop-blocks_of (i + count) n bytes (omega (arith, all, inside)) ∙ ap (λ (xs : List ℕ). blocks_of_bytes (n - (i + count)) xs) (sym behind) in
    let run : blocks_of_bytes (count + (n - (i + count))) (over ++ tail) ≡ blocks_of_bytes count over ++ drop (i + count) bank =
    blocks_of-join count (n - (i + count)) over tail size ∙ ap (λ (image : Image). blocks_of_bytes count over ++ image) (sym back) in
    sym (overwritten-held n bytes bank i over held whole)
    ∙ ap (λ (m : ℕ). blocks_of_bytes m (take (i * 4096) bytes ++ (over ++ tail))) parts
    ∙ blocks_of-join i (count + (n - (i + count))) (take (i * 4096) bytes) (over ++ tail) long
    ∙ (λ k. sym front k ++ run k)

-- the blocks of a run lie among the bytes
pub run_inside : (n : ℕ) (bytes : List ℕ) (bank : Image) (i count : ℕ) → blocks_of_bytes n bytes ≡ bank → length bytes ≡ n * 4096 → i + count ≤ length bank → i * 4096 + count * 4096 ≤ length bytes
run_inside n bytes bank i count held whole inside = omega (arith, length-blocks_of n bytes, ap length held, whole, inside)
