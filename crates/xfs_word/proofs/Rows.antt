-- The rule of the checksum's table.
use Rattle.std.proofs.Common.{◌≡◌, ℕ, ◌+◌, ◌*◌, ◌%◌, ◌<◌, List, [], map, get_or, bit_and, refl, ◌∙◌, ap, arith}
use Rattle.std.specs.List.{range_with_len}
use Rattle.std.proofs.lemmas.Nat.{and_mask}
use Rattle.std.proofs.lemmas.List.FromFn.{get_or-map-range_with_len}
use Rattle.xfs_word.specs.Crc.{after_zeros}
use Rattle.xfs_word.specs.declared.far_tables.TheConstants.{FAR_TABLES}
use Rattle.xfs_word.specs.declared.tables.TheConstants.{TABLES}

-- what each byte leaves after 8 * k zero bits
unfoldable pub row : ℕ → List ℕ
row k = map (after_zeros (8 * k)) (range_with_len 0 256)

-- the table is the rows 1 to 16
pub tables : TABLES ≡ map row (range_with_len 1 16)
unfolding row after_zeros
tables = refl

-- an entry of a row
pub row_entry : (k b : ℕ) → b < 256 → get_or (row k) b 0 ≡ after_zeros (8 * k) b
unfolding row
row_entry k b h = get_or-map-range_with_len (after_zeros (8 * k)) 0 256 b b 0 h (omega arith)

-- an entry of the table
pub entry_of : (r word : ℕ) → r < 16 → get_or (get_or TABLES r []) (bit_and word 255) 0 ≡ after_zeros (8 * (r + 1)) (word % 256)
entry_of r word h =
    let masked : bit_and word 255 ≡ word % 256 = and_mask word 8 in
    let place : 1 + r ≡ r + 1 = omega arith in
    let byte : word % 256 < 256 = omega arith in
    ap (λ (t : List (List ℕ)). get_or (get_or t r []) (bit_and word 255) 0) tables
    ∙ ap (λ (l : List ℕ). get_or l (bit_and word 255) 0) (get_or-map-range_with_len row 1 16 r (r + 1) [] h place)
    ∙ ap (λ (i : ℕ). get_or (row (r + 1)) i 0) masked
    ∙ row_entry (r + 1) (word % 256) byte

-- the far table is the rows 61 to 64
pub far_tables : FAR_TABLES ≡ map row (range_with_len 61 4)
unfolding row after_zeros
far_tables = refl

-- an entry of the far table
pub far_entry_of : (r word : ℕ) → r < 4 → get_or (get_or FAR_TABLES r []) (bit_and word 255) 0 ≡ after_zeros (8 * (r + 61)) (word % 256)
far_entry_of r word h =
    let masked : bit_and word 255 ≡ word % 256 = and_mask word 8 in
    let place : 61 + r ≡ r + 61 = omega arith in
    let byte : word % 256 < 256 = omega arith in
    ap (λ (t : List (List ℕ)). get_or (get_or t r []) (bit_and word 255) 0) far_tables
    ∙ ap (λ (l : List ℕ). get_or l (bit_and word 255) 0) (get_or-map-range_with_len row 61 4 r (r + 61) [] h place)
    ∙ ap (λ (i : ℕ). get_or (row (r + 61)) i 0) masked
    ∙ row_entry (r + 61) (word % 256) byte
