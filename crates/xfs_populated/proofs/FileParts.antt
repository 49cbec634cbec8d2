-- A content stands in its blocks byte by byte.
use Rattle.std.proofs.Common.{◌≡◌, ℕ, ◌+◌, ◌-◌, ◌*◌, ◌/◌, ◌%◌, ◌<◌, min, List, [], length, drop, get_or, arith, ap, ◌∙◌}
use Rattle.std.proofs.lemmas.List.{get_or-drop, get_or-take, get_or_append_left, length-drop, length-take}
use Rattle.std.proofs.lemmas.List.FromFn.{get_or-map-range_with_len}
use Rattle.xfs_filled.specs.Contents.{content_block, content_blocks, part_at}
use Rattle.xfs_filled.specs.Objects.{blocks_of_length}
use Rattle.xfs_word.specs.Field.{zeros}

part_long : (c : List ℕ) (j : ℕ) → length (part_at c j) ≡ min (min (length c) (4096 * j + 4096) - 4096 * j) (length c - 4096 * j)
part_long c j = length-take (min (length c) (4096 * j + 4096) - 4096 * j) (drop (4096 * j) c) ∙ ap (min (min (length c) (4096 * j + 4096) - 4096 * j)) (length-drop (4096 * j) c)

-- byte i of a content is byte i % 4096 of block i / 4096
pub content_byte : (c : List ℕ) (i : ℕ) → i < length c → get_or (content_block c (i / 4096)) (i % 4096) 0 ≡ get_or c i 0
content_byte c i low =
    let j : ℕ = i / 4096 in
    let long = part_long c (i / 4096) in
    let inside : i % 4096 < length (part_at c (i / 4096)) = omega (arith, long, low) in
    get_or_append_left (part_at c (i / 4096)) (zeros (4096 - length (part_at c (i / 4096)))) 0 (i % 4096) inside
    ∙ get_or-take (min (length c) (4096 * (i / 4096) + 4096) - 4096 * (i / 4096)) (drop (4096 * (i / 4096)) c) (i % 4096) 0 (omega (arith, low))
    ∙ get_or-drop (4096 * (i / 4096)) c (i % 4096) 0
    ∙ ap (λ (n : ℕ). get_or c n 0) (omega arith)

-- so it is where all its blocks are there
pub content_in_blocks : (c : List ℕ) (i : ℕ) → i < length c → i / 4096 < blocks_of_length (length c) → get_or (get_or (content_blocks c) (i / 4096) []) (i % 4096) 0 ≡ get_or c i 0
content_in_blocks c i low few =
    ap (λ (b : List ℕ). get_or b (i % 4096) 0) (get_or-map-range_with_len (content_block c) 0 (blocks_of_length (length c)) (i / 4096) (i / 4096) [] few (omega arith)) ∙ content_byte c i low
