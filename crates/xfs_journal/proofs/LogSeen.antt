-- What is seen of the sectors of blocks.
use Rattle.std.proofs.Common.{◌≡◌, ℕ, zero, suc, ◌+◌, ◌-◌, ◌*◌, ◌/◌, ◌<◌, ◌≤◌, List, [], ◌∷◌, ◌++◌, length, map, replicate, take, drop, Some, refl, sym, ap, ap₂, ◌∙◌, arith}
use Rattle.std.specs.Prelude.{slice_get}
use Rattle.std.specs.List.{flat_map, range_with_len}
use Rattle.std.proofs.lemmas.List.{append_assoc, append-nil, length-append, length-drop, length-take-le, map-append, length-replicate, replicate-append-replicate, take_at}
use Rattle.xfs_word.specs.Field.{part_of}
use Rattle.xfs_disk.specs.Blocks.{AreBlocksFrom, Image, bytes_of_block}
use Rattle.xfs_log.specs.Log.{all_sectors, no_sector, seen_of}
use Rattle.xfs_tree.specs.Blocks.{each_of}
use Rattle.xfs_log.specs.Sectors.{sector_in}
use Rattle.xfs_log.specs.declared.sectors.SectorSeen.{SectorSeen}
use Rattle.xfs_journal.specs.declared.seen.SeenLog.{SeenLog}
use Rattle.xfs_journal.specs.Placed.{IsListed, sectors_of, seen_in, seen_in_blocks}
use Rattle.xfs_journal.proofs.Listing.{grown}
use Rattle.xfs_journal.proofs.Outside.{read_bytes}

pub all_seen : (image : Image) (blocks : List ℕ)
    → map seen_of (flat_map (λ block. each_of 8 (sector_in image block)) blocks) ≡ flat_map (λ block. each_of 8 (seen_in (bytes_of_block image block))) blocks
all_seen image [] = refl
all_seen image (b ∷ bs) =
    map-append seen_of (each_of 8 (sector_in image b)) (flat_map (λ block. each_of 8 (sector_in image block)) bs)
    ∙ ap (λ xs. each_of 8 (seen_in (bytes_of_block image b)) ++ xs) (all_seen image bs)

-- what is seen in blocks that were read is what those of the image say
seen_read_from : (image : Image) (at n j : ℕ) (bytes : List ℕ) → ((k : ℕ) → k < j + n → slice_get image (at + k) ≡ Some (take 4096 (drop (k * 4096) bytes)))
    → seen_in_blocks bytes j n ≡ flat_map (λ block. each_of 8 (seen_in (bytes_of_block image block))) (range_with_len (at + j) n)
unfolding part_of
seen_read_from image at zero j bytes read = refl
seen_read_from image at (suc n) j bytes read =
    let next : at + (j + 1) ≡ at + j + 1 = omega arith in
    let here : take 4096 (drop (j * 4096) bytes) ≡ bytes_of_block image (at + j) = sym (read_bytes image (at + j) (take 4096 (drop (j * 4096) bytes)) (read j (omega arith))) in
    let rest : seen_in_blocks bytes (j + 1) n ≡ flat_map (λ block. each_of 8 (seen_in (bytes_of_block image block))) (range_with_len (at + (j + 1)) n)
    = seen_read_from image at n (j + 1) bytes (λ k low. read k (omega (arith, low))) in
    let turned = rest ∙ ap (λ first. flat_map (λ block. each_of 8 (seen_in (bytes_of_block image block))) (range_with_len first n)) next in
    λ i. each_of 8 (seen_in (here i)) ++ turned i

pub seen_read : (image : Image) (at n : ℕ) (bytes : List ℕ) → AreBlocksFrom image at n bytes
    → seen_in_blocks bytes 0 n ≡ flat_map (λ block. each_of 8 (seen_in (bytes_of_block image block))) (range_with_len at n)
seen_read image at n bytes read =
    let first : at + 0 ≡ at = omega arith in
    seen_read_from image at n 0 bytes (λ k low. read k (omega (arith, low)))
    ∙ ap (λ k. flat_map (λ block. each_of 8 (seen_in (bytes_of_block image block))) (range_with_len k n)) first

-- what numbers hold, in two parts
range_split : {B : Type 0} (f : ℕ → List B) (first n m : ℕ) → flat_map f (range_with_len first (n + m)) ≡ flat_map f (range_with_len first n) ++ flat_map f (range_with_len (first + n) m)
range_split f first zero m =
    ap₂ (λ (a k : ℕ). flat_map f (range_with_len a k)) (omega arith) (omega arith)
range_split f first (suc n) m =
    let count : suc n + m ≡ suc (n + m) = omega arith in
    let next : first + 1 + n ≡ first + suc n = omega arith in
    ap (λ k. flat_map f (range_with_len first k)) count
    ∙ ap (λ xs. f first ++ xs) (range_split f (first + 1) n m)
    ∙ sym (append_assoc (f first) (flat_map f (range_with_len (first + 1) n)) (flat_map f (range_with_len (first + 1 + n) m)))
    ∙ ap (λ k. (f first ++ flat_map f (range_with_len (first + 1) n)) ++ flat_map f (range_with_len k m)) next

-- a list grows by what several of the numbers that are left hold
pub held_run : {B : Type 0} (f : ℕ → List B) (first i n total : ℕ) (old new all : List B) → i + n ≤ total → new ≡ old ++ flat_map f (range_with_len (first + i) n)
    → old ++ flat_map f (range_with_len (first + i) (total - i)) ≡ all → new ++ flat_map f (range_with_len (first + (i + n)) (total - (i + n))) ≡ all
held_run f first i n total old new all inside more held =
    let count : total - i ≡ n + (total - (i + n)) = omega (arith, inside) in
    let next : first + i + n ≡ first + (i + n) = omega arith in
    let split : flat_map f (range_with_len (first + i) (total - i)) ≡ flat_map f (range_with_len (first + i) n) ++ flat_map f (range_with_len (first + (i + n)) (total - (i + n)))
    = ap (λ k. flat_map f (range_with_len (first + i) k)) count ∙ range_split f (first + i) n (total - (i + n))
    ∙ ap (λ k. flat_map f (range_with_len (first + i) n) ++ flat_map f (range_with_len k (total - (i + n)))) next in
    grown old new (flat_map f (range_with_len (first + i) n)) (flat_map f (range_with_len (first + i) (total - i))) (flat_map f (range_with_len (first + (i + n)) (total - (i + n)))) all more split held

-- what is seen in one block more, and in all
pub seen_more : (bytes : List ℕ) (k n : ℕ) (old new all : List SectorSeen) → k < n → new ≡ old ++ each_of 8 (seen_in (part_of bytes (k * 4096) 4096))
    → old ++ seen_in_blocks bytes k (n - k) ≡ all → new ++ seen_in_blocks bytes (k + 1) (n - (k + 1)) ≡ all
seen_more bytes k n old new all inside more held =
    let count : n - k ≡ suc (n - (k + 1)) = omega (arith, inside) in
    grown old new (each_of 8 (seen_in (part_of bytes (k * 4096) 4096))) (seen_in_blocks bytes k (n - k)) (seen_in_blocks bytes (k + 1) (n - (k + 1))) all more
    (ap (λ m. seen_in_blocks bytes k m) count) held

pub seen_all : (bytes : List ℕ) (k n : ℕ) (new all : List SectorSeen) → n ≤ k → new ++ seen_in_blocks bytes k (n - k) ≡ all → new ≡ all
seen_all bytes k n new all past held =
    let none : n - k ≡ 0 = omega (arith, past) in
    sym (append-nil new) ∙ ap (λ m. new ++ seen_in_blocks bytes k m) (sym none) ∙ held

-- zeros, one more
pub zeros_more : (items : List SectorSeen) (k : ℕ) → items ++ replicate (k + 1) no_sector ≡ (items ++ replicate k no_sector) ++ no_sector ∷ []
zeros_more items k = ap (λ xs. items ++ xs) (sym (replicate-append-replicate k 1 no_sector)) ∙ sym (append_assoc items (replicate k no_sector) (no_sector ∷ []))

-- the sectors of a log are those that are listed and zeros
pub sectors_are : (log : SeenLog) (n : ℕ) → length (sectors_of log) ≡ n → all_sectors log.seen.items n ≡ sectors_of log
unfolding all_sectors
sectors_are log n whole =
    let zeros = length-replicate log.zeros no_sector in
    let sum = length-append log.seen.items (replicate log.zeros no_sector) in
    let rest : n - length log.seen.items ≡ log.zeros = omega (arith, whole, zeros, sum) in
    ap (λ (k : ℕ). log.seen.items ++ replicate k no_sector) rest

pub sectors_inside : (log : SeenLog) (n : ℕ) → length (sectors_of log) ≡ n → length log.seen.items ≤ n
sectors_inside log n whole =
    let sum = length-append log.seen.items (replicate log.zeros no_sector) in
    omega (arith, whole, sum)

pub sectors_listed : (log : SeenLog) (n : ℕ) → length (sectors_of log) ≡ n → IsListed log → length log.seen.items < 512 → length log.seen.items ≡ n
sectors_listed log n whole listed few =
    let none : log.zeros ≡ 0 = listed few in
    let zeros = length-replicate log.zeros no_sector in
    let sum = length-append log.seen.items (replicate log.zeros no_sector) in
    omega (arith, whole, none, zeros, sum)

-- how many sectors are seen in blocks
pub seen_length : (bytes : List ℕ) (k n : ℕ) → length (seen_in_blocks bytes k n) ≡ 8 * n
seen_length bytes k zero = refl
seen_length bytes k (suc n) =
    let rest = seen_length bytes (k + 1) n in
    length-append (each_of 8 (seen_in (part_of bytes (k * 4096) 4096))) (seen_in_blocks bytes (k + 1) n) ∙ omega (arith, rest)

-- sectors of n blocks more
pub count_more : (bytes : List ℕ) (i n : ℕ) (old new : List SectorSeen) → length old ≡ 8 * i → new ≡ old ++ seen_in_blocks bytes 0 n → length new ≡ 8 * (i + n)
count_more bytes i n old new count more =
    let part = seen_length bytes 0 n in
    ap (λ xs. length xs) more ∙ length-append old (seen_in_blocks bytes 0 n) ∙ omega (arith, count, part)

-- the front of a room of sixteen blocks: its blocks, and what was read into it
pub front_blocks : (n : ℕ) (run : List ℕ) → n ≤ 16 → length run ≡ 65536 → length (take (n * 4096) run) ≡ n * 4096
front_blocks n run few long = length-take-le (n * 4096) run (omega (arith, few, long))

pub front_read : (n : ℕ) (read run : List ℕ) → length read ≡ n * 4096 → take (n * 4096) (read ++ drop (n * 4096) run) ≡ read
front_read n read run long = take_at read (drop (n * 4096) run) (n * 4096) long

-- and the room stays as large
pub room_kept : (n : ℕ) (read run : List ℕ) → n ≤ 16 → length read ≡ n * 4096 → length run ≡ 65536 → length (read ++ drop (n * 4096) run) ≡ 65536
room_kept n read run few long room = length-append read (drop (n * 4096) run) ∙ omega (arith, few, long, room, length-drop (n * 4096) run)

pub whole_blocks : (n bytes : ℕ) → bytes ≡ n * 4096 → bytes / 4096 ≡ n
whole_blocks n bytes long = omega (arith, long)

-- blocks that were read count no more than steps
pub steps_on : (first before now steps counted ticked more : ℕ) → before + steps ≤ first + counted → now ≤ before + more → ticked ≡ counted + more → now + steps ≤ first + ticked
steps_on first before now steps counted ticked more up read step = omega (arith, up, read, step)
