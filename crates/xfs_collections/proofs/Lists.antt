-- Lists of blocks among bytes that several hold.
use Rattle.std.proofs.Common.{◌≡◌, ℕ, ◌+◌, ◌*◌, ◌<◌, ◌≤◌, List, [], ◌∷◌, ◌++◌, length, get_or, map, take, drop, Some, take_all, append_assoc, arith, sym, ap, ◌∙◌}
use Rattle.std.specs.Prelude.{slice_get, replicate}
use Rattle.std.specs.List.{All}
use Rattle.std.proofs.lemmas.List.{map-append, length-take-le, length-drop, replicate-append-replicate, take_more}
use Rattle.std.proofs.lemmas.List.Elements.{All-append, All-cons, All-nil}
use Rattle.std.proofs.lemmas.Option.{get_or_from_slice_get}
use Rattle.xfs_collections.proofs.Blocks.{length-blocks_of, slice_get-blocks_of}
use Rattle.xfs_disk.specs.Blocks.{Image}
use Rattle.xfs_disk.specs.Memory.{blocks_of_bytes}
use Rattle.xfs_collections.specs.Pieces.{HasBlock, block_of}
use Rattle.xfs_collections.specs.declared.piece.Piece.{Piece}

-- one more piece behind the others
pub one_more : (pieces : List Piece) (p : Piece) (list : Image) (block : List ℕ) → map block_of pieces ≡ list → block_of p ≡ block
    → map block_of (pieces ++ p ∷ []) ≡ list ++ block ∷ []
one_more pieces p list block held is = map-append block_of pieces (p ∷ []) ∙ (λ k. held k ++ is k ∷ [])

pub more_inside : (pieces : List Piece) (p : Piece) → All HasBlock pieces → HasBlock p → All HasBlock (pieces ++ p ∷ [])
more_inside pieces p all one = All-append HasBlock pieces (p ∷ []) all (All-cons HasBlock p [] one (All-nil HasBlock))

-- a block has 4096 bytes
pub block_long : (p : Piece) → HasBlock p → length (block_of p) ≡ 4096
block_long p inside = length-take-le 4096 (drop p.at p.bytes) (omega (arith, inside, length-drop p.at p.bytes))

-- a whole block of some bytes is all of these
pub whole_block : (block : List ℕ) → length block ≡ 4096 → take 4096 (drop 0 block) ≡ block
whole_block block long = take_all 4096 block (omega (arith, long))

-- one more block of those that some bytes are
pub next_block : (bytes : List ℕ) (n i : ℕ) (before now new : Image) → i < n → now ≡ before ++ take i (blocks_of_bytes n bytes)
    → new ≡ now ++ take 4096 (drop (4096 * i) bytes) ∷ [] → new ≡ before ++ take (i + 1) (blocks_of_bytes n bytes)
next_block bytes n i before now new low is pushed =
    let blocks = blocks_of_bytes n bytes in
    let x = take 4096 (drop (i * 4096) bytes) in
    let at : 4096 * i ≡ i * 4096 = omega arith in
    let inside : i < length blocks = omega (arith, low, length-blocks_of n bytes) in
    let there : get_or blocks i [] ≡ x = get_or_from_slice_get blocks i x [] (slice_get-blocks_of n i bytes low) in
    pushed ∙ (λ k. is k ++ take 4096 (drop (at k) bytes) ∷ []) ∙ append_assoc before (take i blocks) (x ∷ [])
    ∙ ap (λ (xs : Image). before ++ xs) (ap (λ (b : List ℕ). take i blocks ++ b ∷ []) (sym there) ∙ sym (take_more blocks i [] inside))

pub all_blocks : (bytes : List ℕ) (n i : ℕ) (before now : Image) → n ≤ i → now ≡ before ++ take i (blocks_of_bytes n bytes) → now ≡ before ++ blocks_of_bytes n bytes
all_blocks bytes n i before now past is =
    is ∙ ap (λ (xs : Image). before ++ xs) (take_all i (blocks_of_bytes n bytes) (omega (arith, past, length-blocks_of n bytes)))

-- one more block of zeros
pub one_more_zeros : (i : ℕ) (block : List ℕ) (now new : Image) → now ≡ replicate i block → new ≡ now ++ block ∷ [] → new ≡ replicate (i + 1) block
one_more_zeros i block now new is pushed = pushed ∙ ap (λ (xs : Image). xs ++ block ∷ []) is ∙ replicate-append-replicate i 1 block

-- one more block of a bank
pub next_of_bank : (bank before now new : Image) (i : ℕ) (block : List ℕ) → slice_get bank i ≡ Some block → i < length bank → now ≡ before ++ take i bank
    → new ≡ now ++ block ∷ [] → new ≡ before ++ take (i + 1) bank
next_of_bank bank before now new i block there low is pushed =
    pushed ∙ ap (λ (xs : Image). xs ++ block ∷ []) is ∙ append_assoc before (take i bank) (block ∷ [])
    ∙ ap (λ (xs : Image). before ++ xs) (ap (λ (b : List ℕ). take i bank ++ b ∷ []) (sym (get_or_from_slice_get bank i block [] there)) ∙ sym (take_more bank i [] low))
