-- The runs of a file, cut into parts, stand in file order.
use Rattle.std.proofs.Common.{◌≡◌, ℕ, zero, suc, ◌+◌, ◌*◌, ◌/◌, ◌%◌, ◌^◌, ◌==◌, ◌≤◌, ◌<◌, Bool, true, false, cond, not, nat_le, nat_lt, List, [], ◌∷◌, ◌++◌, length, take, drop, Option, Some, None, arith, sym, subst, ap, append-nil}
use Rattle.std.specs.Prelude.{if◌then◌else◌}
use Rattle.std.specs.List.{flat_map}
use Rattle.std.proofs.Math.Nat.{mod-eq_of_lt}
use Rattle.std.proofs.lemmas.Bool.{and_from, lt-ltb}
use Rattle.std.proofs.lemmas.List.{take-append-drop}
use Rattle.xfs_geom.specs.declared.records.Run.{Run}
use Rattle.xfs_kinds.specs.OffsetWords.{is_file_data, is_tree_block, offset_in_fork}
use Rattle.xfs_place.specs.Objects.{AreJoined, rest_of}
use Rattle.xfs_place.specs.declared.wanted.RunAsk.{RunAsk}
use Rattle.xfs_proto.specs.declared.protofile.ProtoKind.{ProtoKind}
use Rattle.xfs_proto.specs.declared.protofile.ProtoKind.TheVariants as Kind
use Rattle.xfs_filled.specs.Objects.{blocks_of_length, run_of, runs_of_kind, target_blocks}
use Rattle.xfs_filled.specs.declared.directories.MadeDirectory.{MadeDirectory}
use Rattle.xfs_populated.proofs.FileCuts.{cut, part, part_some, parts_from}
use Rattle.xfs_populated.proofs.FileLawful.{InOrder}
use Rattle.xfs_populated.proofs.FileServed.{AreServed}

from_lower : (big small : ℕ) (ps : List Run) → small ≤ big → InOrder big ps → InOrder small ps
from_lower big small [] less order = tt
from_lower big small (p ∷ ps) less order = let first = order.0 in (omega (arith, first, less), order.1)

-- the parts of a run, and what stands behind it
parts_order : (r : Run) (a m least : ℕ) (rest : List Run) → a + m ≡ (r.count + 2097150) / 2097151 → least ≤ offset_in_fork r.offset_word + a * 2097151 → least ≤ offset_in_fork r.offset_word + r.count
    → InOrder (offset_in_fork r.offset_word + r.count) rest → InOrder least (parts_from r a m ++ rest)
parts_order r a zero least rest all first second order = from_lower (offset_in_fork r.offset_word + r.count) least rest second order
parts_order r a (suc m) least rest all first second order =
    let some = part_some r a (omega (arith, all)) in
    (first, parts_order r (a + 1) m ((part r a).offset_word + (part r a).count) rest (omega (arith, all)) (omega (arith, some)) (omega (arith, some)) order)

cut_order : (r : Run) (least : ℕ) (rest : List Run) → least ≤ offset_in_fork r.offset_word → InOrder (offset_in_fork r.offset_word + r.count) rest → InOrder least (cut r ++ rest)
cut_order r least rest low order = parts_order r 0 ((r.count + 2097150) / 2097151) least rest (omega arith) (omega (arith, low)) (omega (arith, low)) order

-- the offset of the blocks behind the first
pub data_word : (owner word : ℕ) → owner < 2 ^ 63 → word ≤ 2 ^ 33 → is_file_data owner word ≡ true
data_word owner word low small =
    let none : word / 2 ^ 62 ≡ 0 = omega (arith, small) in
    let plain : is_tree_block word ≡ false = ap (λ (n : ℕ). n % 2 == 1) none in
    and_from (nat_lt owner (2 ^ 63)) (not (is_tree_block word)) (lt-ltb owner (2 ^ 63) low) (ap not plain)

joined_order : (runs : List Run) (ask : RunAsk) (tail : List Run) (least : ℕ) → AreJoined ask runs → ask.owner < 2 ^ 63 → ask.offset_word + ask.blocks ≤ 2 ^ 33 → least ≤ ask.offset_word
    → InOrder (ask.offset_word + ask.blocks) (flat_map cut tail) → InOrder least (flat_map cut (runs ++ tail))
joined_order [] ask tail least joined owner small low order = from_lower (ask.offset_word + ask.blocks) least (flat_map cut tail) (omega (arith, low)) order
joined_order (r ∷ runs) ask tail least joined owner small low order =
    let word : r.offset_word ≡ ask.offset_word = ap (λ (x : Run). x.offset_word) joined.0 in
    let few = joined.1 in
    let plain : offset_in_fork r.offset_word ≡ r.offset_word = mod-eq_of_lt (omega (arith, word, small)) in
    let next : (rest_of ask r.count).offset_word ≡ ask.offset_word + r.count =
    ap (λ (t : Bool). if t then ask.offset_word + r.count else ask.offset_word) (data_word ask.owner ask.offset_word owner (omega (arith, small))) in
    let behind = joined_order runs (rest_of ask r.count) tail (offset_in_fork r.offset_word + r.count) joined.2 owner (omega (arith, next, small, few)) (omega (arith, next, plain, word))
    (subst (λ (n : ℕ). InOrder n (flat_map cut tail)) (omega (arith, next, few)) order) in
    cut_order r least (flat_map cut (runs ++ tail)) (omega (arith, plain, word, low)) behind

-- asks in file order
abbrev pub AsksInOrder : ℕ → List RunAsk → Type 0
AsksInOrder least [] = Unit {0}
AsksInOrder least (a ∷ asks) = (least ≤ a.offset_word) × (a.owner < 2 ^ 63) × (a.offset_word + a.blocks ≤ 2 ^ 33) × AsksInOrder (a.offset_word + a.blocks) asks

pub served_order : (asks : List RunAsk) (runs : List Run) (least : ℕ) → AreServed asks runs → AsksInOrder least asks → InOrder least (flat_map cut runs)
served_order [] runs least served order = subst (λ (rs : List Run). InOrder least (flat_map cut rs)) (sym served) tt
served_order (a ∷ asks) runs least served order =
    let n = served.0 in
    subst (λ (rs : List Run). InOrder least (flat_map cut rs)) (take-append-drop n runs)
    (joined_order (take n runs) a (drop n runs) least served.2 order.1 order.2 order.0 (served_order asks (drop n runs) (a.offset_word + a.blocks) served.3 order.3))

asks_lower : (big small : ℕ) (asks : List RunAsk) → small ≤ big → AsksInOrder big asks → AsksInOrder small asks
asks_lower big small [] less order = tt
asks_lower big small (a ∷ asks) less order = let first = order.0 in (omega (arith, first, less), order.1, order.2, order.3)

run_order : (blocks owner offset least : ℕ) (rest : List RunAsk) → owner < 2 ^ 63 → least ≤ offset → offset + blocks ≤ 2 ^ 33 → AsksInOrder (offset + blocks) rest → AsksInOrder least (run_of blocks owner offset ++ rest)
run_order blocks owner offset least rest low first small order = by_case (blocks == 0)
  where
    by_case : (r : Bool) → AsksInOrder least (cond r [] (record { blocks = blocks; owner = owner; offset_word = offset } ∷ []) ++ rest)
    by_case true = asks_lower (offset + blocks) least rest (omega (arith, first)) order
    by_case false = (first, low, small, order)

last_order : (blocks owner offset least : ℕ) → owner < 2 ^ 63 → least ≤ offset → offset + blocks ≤ 2 ^ 33 → AsksInOrder least (run_of blocks owner offset)
last_order blocks owner offset least low first small =
    subst (AsksInOrder least) (append-nil (run_of blocks owner offset)) (run_order blocks owner offset least [] low first small tt)

target_few : (target : List ℕ) → target_blocks target ≤ 1
target_few target = by_case (nat_le (length target) 336)
  where
    by_case : (t : Bool) → (if t then 0 else 1) ≤ 1
    by_case true = omega arith
    by_case false = omega arith

-- what a file asks for is in file order
abbrev pub AreFew : Option MadeDirectory → Type 0
AreFew None = Unit {0}
AreFew (Some d) = (d.data_blocks ≤ 2097151) × (d.index_blocks ≤ 2097151) × (d.free_blocks ≤ 2097151)

pub kind_order : (kind : ProtoKind) (made : Option MadeDirectory) (content : List ℕ) (ino : ℕ) → ino < 2 ^ 63 → AreFew made → AsksInOrder 0 (runs_of_kind kind made content ino)
kind_order (Kind.Regular name line) made content ino low few = last_order (blocks_of_length (length content)) ino 0 0 low (omega arith) (omega arith)
kind_order Kind.Directory None content ino low few = tt
kind_order Kind.Directory (Some d) content ino low few =
    let datas = few.0 in
    let indexes = few.1 in
    let frees = few.2 in
    run_order d.data_blocks ino 0 0 (run_of d.index_blocks ino 0x800000 ++ run_of d.free_blocks ino 0x1000000) low (omega arith) (omega (arith, datas))
    (run_order d.index_blocks ino 0x800000 (0 + d.data_blocks) (run_of d.free_blocks ino 0x1000000) low (omega (arith, datas)) (omega (arith, indexes))
    (last_order d.free_blocks ino 0x1000000 (0x800000 + d.index_blocks) low (omega (arith, indexes)) (omega (arith, frees))))
kind_order (Kind.Link target) made content ino low few = let one = target_few target in last_order (target_blocks target) ino 0 0 low (omega arith) (omega (arith, one))
kind_order (Kind.Block major minor) made content ino low few = tt
kind_order (Kind.Character major minor) made content ino low few = tt
kind_order Kind.Pipe made content ino low few = tt
