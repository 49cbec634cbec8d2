-- Big-endian bytes and their number determine each other.
use Rattle.std.proofs.Common.{◌≡◌, ℕ, zero, suc, ◌+◌, ◌*◌, ◌^◌, ◌<◌, List, [], ◌∷◌, length, slice_index, refl, sym, ◌∙◌, ap, ap₂, arith}
use Rattle.std.proofs.lemmas.List.{append-nil}
use Rattle.std.proofs.lemmas.Nat.{same_from_place}
use Rattle.std.specs.Int.{byte_at, bytes_high_first}
use Rattle.byteorder.specs.Endian.{big_from, big_number, big_bytes}
use Rattle.byteorder.specs.Numbers.{big_from-cons, big_from-lt, big_number-reads_back, length-bytes_high_first}
use Rattle.xfs_word.proofs.Register.{AreBytes}

-- bytes are those of their number alone
pub same_bytes : (n : ℕ) (xs ys : List ℕ) → length xs ≡ n → length ys ≡ n → AreBytes xs → AreBytes ys → big_number n xs ≡ big_number n ys → xs ≡ ys
same_bytes zero [] [] lx ly bx by e = refl
same_bytes zero [] (y ∷ ys) lx ly bx by e = absurd (omega arith)
same_bytes zero (x ∷ xs) ys lx ly bx by e = absurd (omega arith)
same_bytes (suc n) [] ys lx ly bx by e = absurd (omega arith)
same_bytes (suc n) (x ∷ xs) [] lx ly bx by e = absurd (omega arith)
same_bytes (suc n) (x ∷ xs) (y ∷ ys) lx ly bx by e =
    let cx : AreBytes xs = record { below = λ k. bx.below (suc k) } in
    let cy : AreBytes ys = record { below = λ k. by.below (suc k) } in
    let mx = big_from-cons 0 n x xs in
    let my = big_from-cons 0 n y ys in
    let whole : x * 256 ^ n + big_from 0 n xs ≡ y * 256 ^ n + big_from 0 n ys =
    sym (ap (λ (r : ℕ). x * 256 ^ n + r) mx) ∙ e ∙ ap (λ (r : ℕ). y * 256 ^ n + r) my in
    let apart = same_from_place x (big_from 0 n xs) y (big_from 0 n ys) (256 ^ n) (big_from-lt 0 n xs cx.below) (big_from-lt 0 n ys cy.below) whole in
    let lx' : length xs ≡ n = omega arith in
    let ly' : length ys ≡ n = omega arith in
    ap₂ ◌∷◌ apart.0 (same_bytes n xs ys lx' ly' cx cy apart.1)

-- a byte of a number is below 256
byte_at-lt : (k x : ℕ) → byte_at k x < 256
byte_at-lt zero x = omega arith
byte_at-lt (suc k) x = omega arith

-- the bytes of a number are bytes
bytes_fit : (n x k : ℕ) → slice_index (bytes_high_first n x) k < 256
bytes_fit zero x k = omega arith
bytes_fit (suc n) x zero = byte_at-lt n x
bytes_fit (suc n) x (suc k) = bytes_fit n x k

-- the number of a number's bytes
pub big_number-big_bytes : (n x : ℕ) → x < 256 ^ n → big_number n (big_bytes n x) ≡ x
big_number-big_bytes n x h =
    ap (big_from 0 n) (sym (append-nil (bytes_high_first n x))) ∙ big_number-reads_back n x [] h

-- the bytes of the number of bytes
pub big_bytes-big_number : (n : ℕ) (xs : List ℕ) → length xs ≡ n → AreBytes xs → big_bytes n (big_number n xs) ≡ xs
big_bytes-big_number n xs long bytes =
    let fits : big_number n xs < 256 ^ n = big_from-lt 0 n xs bytes.below in
    same_bytes n (big_bytes n (big_number n xs)) xs (length-bytes_high_first n (big_number n xs)) long
    (record { below = bytes_fit n (big_number n xs) }) bytes (big_number-big_bytes n (big_number n xs) fits)
