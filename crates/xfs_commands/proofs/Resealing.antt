-- An object that is sealed anew has the right checksum.
use Rattle.std.proofs.Common.{◌≡◌, ℕ, ◌+◌, ◌^◌, ◌<◌, ◌≤◌, true, List, ◌∷◌, ◌++◌, length, take, drop, refl, sym, ◌∙◌, ap, arith}
use Rattle.std.specs.Int.{to_le_bytes, w32}
use Rattle.std.proofs.lemmas.Bool.{eq-eqb}
use Rattle.std.proofs.lemmas.List.{length-take-le}
use Rattle.std.proofs.lemmas.Nat.{from_le_bytes-to_le_bytes_4}
use Rattle.std.proofs.Math.Seq.{take-append_seam, drop-append_seam, drop-append-add}
use Rattle.byteorder.specs.Endian.{little_number}
use Rattle.xfs_word.specs.Crc.{cleared, crc_of, has_checksum, little_field_of}
use Rattle.xfs_commands.specs.Commands.{patched}

number_is : (n : ℕ) (rest : List ℕ) → n < 2 ^ 32 → little_number 4 (to_le_bytes w32 n ++ rest) ≡ n
number_is n rest fits = omega (arith, from_le_bytes-to_le_bytes_4 n fits)

front_drop : (object piece : List ℕ) (at : ℕ) → at ≤ length object → drop at (take at object ++ piece) ≡ piece
front_drop object piece at within =
    ap (λ (k : ℕ). drop k (take at object ++ piece)) (sym (length-take-le at object within)) ∙ drop-append_seam (take at object) piece

front_take : (object piece : List ℕ) (at : ℕ) → at ≤ length object → take at (take at object ++ piece) ≡ take at object
front_take object piece at within =
    ap (λ (k : ℕ). take k (take at object ++ piece)) (sym (length-take-le at object within)) ∙ take-append_seam (take at object) piece

behind_drop : (object piece tail : List ℕ) (at : ℕ) → at ≤ length object → length piece ≡ 4 → drop (at + 4) (take at object ++ (piece ++ tail)) ≡ tail
behind_drop object piece tail at within long =
    let place : at + 4 ≡ length (take at object) + length piece = omega (arith, length-take-le at object within, long) in
    ap (λ (k : ℕ). drop k (take at object ++ (piece ++ tail))) place
    ∙ drop-append-add (take at object) (piece ++ tail) (length piece)
    ∙ drop-append_seam piece tail

-- the checksum of what is around it
pub reseals : (object new : List ℕ) (at checksum : ℕ) → at + 4 ≤ length object → checksum ≡ crc_of (cleared object at) → checksum < 2 ^ 32
    → new ≡ patched object at (to_le_bytes w32 checksum) → has_checksum new at ≡ true
unfolding has_checksum little_field_of cleared patched
reseals object new at checksum within is fits now =
    let low : at ≤ length object = omega (arith, within) in
    let piece : List ℕ = to_le_bytes w32 checksum in
    let tail : List ℕ = drop (at + 4) object in
    let stored : little_number 4 (drop at new) ≡ checksum =
    ap (λ (bytes : List ℕ). little_number 4 (drop at bytes)) now
    ∙ ap (λ (bytes : List ℕ). little_number 4 bytes) (front_drop object (piece ++ tail) at low)
    ∙ number_is checksum tail fits
    in
    let around : take at new ++ 0 ∷ 0 ∷ 0 ∷ 0 ∷ drop (at + 4) new ≡ take at object ++ 0 ∷ 0 ∷ 0 ∷ 0 ∷ drop (at + 4) object =
    ap (λ (bytes : List ℕ). take at bytes ++ 0 ∷ 0 ∷ 0 ∷ 0 ∷ drop (at + 4) bytes) now
    ∙ ap (λ (front : List ℕ). front ++ 0 ∷ 0 ∷ 0 ∷ 0 ∷ drop (at + 4) (take at object ++ (piece ++ tail))) (front_take object (piece ++ tail) at low)
    ∙ ap (λ (rest : List ℕ). take at object ++ 0 ∷ 0 ∷ 0 ∷ 0 ∷ rest) (behind_drop object piece tail at low refl)
    in
    eq-eqb _ _ (stored ∙ is ∙ ap (λ (bytes : List ℕ). crc_of bytes) (sym around))

pub ruleset resealing = (reseals)
