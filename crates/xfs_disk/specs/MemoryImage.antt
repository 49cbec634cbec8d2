-- The blocks of a list of bytes make an image.
use Rattle.std.specs.Prelude.{◌≡◌, ℕ, zero, suc, ◌*◌, ◌<◌, List, [], ◌∷◌, take, drop, length, Some, slice_get, slice_index}
use Rattle.std.specs.List.{All}
use Rattle.std.proofs.Common.{arith, lit<, ap, refl, subst}
use Rattle.std.proofs.lemmas.List.{length-drop, length-take-le}
use Rattle.std.proofs.lemmas.List.Elements.{All-take, All-drop, All-tail}
use Rattle.xfs_disk.specs.Blocks.{Image, IsImage, IsBlock}
use Rattle.xfs_disk.specs.Memory.{blocks_of_bytes}

byte_fits : (xs : List ℕ) (i : ℕ) → All (λ b. b < 256) xs → slice_index xs i < 256
byte_fits [] i fit = lit< tt
byte_fits (x ∷ xs) zero fit = fit zero 0 (omega arith)
byte_fits (x ∷ xs) (suc i) fit = byte_fits xs i (All-tail (λ b. b < 256) x xs fit)

each_more : (first : List ℕ) (rest : Image) → IsBlock first → ((k : ℕ) (block : List ℕ) → slice_get rest k ≡ Some block → IsBlock block) → (k : ℕ) (block : List ℕ) → slice_get (first ∷ rest) k ≡ Some block → IsBlock block
each_more first rest whole others zero block told = let same : first ≡ block = cc in subst (λ (b : List ℕ). IsBlock b) same whole
each_more first rest whole others (suc k) block told = others k block told

is_image : (blocks : ℕ) (bytes : List ℕ) → length bytes ≡ blocks * 4096 → All (λ b. b < 256) bytes → IsImage blocks (blocks_of_bytes blocks bytes)
unfolding blocks_of_bytes
is_image zero bytes whole fit = record { count = refl; each = λ k block told. cc }
is_image (suc n) bytes whole fit =
    let rest = is_image n (drop 4096 bytes) (omega (arith, length-drop 4096 bytes)) (All-drop (λ b. b < 256) 4096 bytes fit) in
    let first : IsBlock (take 4096 bytes) = record { size = length-take-le 4096 bytes (omega arith); bytes = λ i. byte_fits (take 4096 bytes) i (All-take (λ b. b < 256) 4096 bytes fit) } in
    record { count = ap (λ n. suc n) rest.count; each = each_more (take 4096 bytes) (blocks_of_bytes n (drop 4096 bytes)) first rest.each }

-- the blocks of so many whole bytes are the image that they tell
pub is_told_image : (blocks : ℕ) (bytes : List ℕ) (image : Image) → length bytes ≡ blocks * 4096 → All (λ b. b < 256) bytes → Some (blocks_of_bytes blocks bytes) ≡ Some image → IsImage blocks image
is_told_image blocks bytes image whole fit told = let same : blocks_of_bytes blocks bytes ≡ image = cc in subst (λ (i : Image). IsImage blocks i) same (is_image blocks bytes whole fit)
