-- The blocks of objects.
use Rattle.std.proofs.Common.{◌≡◌, ℕ, ◌+◌, ◌-◌, ◌*◌, ◌≤◌, min, drop, List, ◌++◌, length, length-append, arith, refl}
use Rattle.std.specs.List.{flat_map}
use Rattle.std.proofs.lemmas.List.{length-replicate, length-take}
use Rattle.xfs_dirdata.specs.Bytes.{big_endian}
use Rattle.xfs_geom.specs.Volumes.{Volume}
use Rattle.xfs_proto.specs.declared.protofile.ProtoNode.{ProtoNode}
use Rattle.xfs_word.specs.Field.{zeros}
use Rattle.xfs_filled.specs.Contents.{all_blocks, blocks_of_place, padded, part_at, target_head}
use Rattle.xfs_filled.specs.FileTrees.{object_order}

pub zeros_long : (n : ℕ) → length (zeros n) ≡ n
unfolding zeros
zeros_long n = length-replicate n 0

pub padded_long : (part : List ℕ) → length part ≤ 4096 → length (padded part) ≡ 4096
padded_long part few =
    let all = length-append part (zeros (4096 - length part)) in
    let rest = zeros_long (4096 - length part) in
    omega (arith, all, rest, few)

pub head_long : (target : List ℕ) → length (target_head target) ≡ 56
head_long target =
    let seal = zeros_long 44 in
    let bytes = length-append (big_endian 4 (length target)) (zeros 44) in
    let offset = length-append (big_endian 4 0) (big_endian 4 (length target) ++ zeros 44) in
    let magic = length-append (big_endian 4 0x58534c4d) (big_endian 4 0 ++ (big_endian 4 (length target) ++ zeros 44)) in
    omega (arith, seal, bytes, offset, magic)

pub blocks_are : (v : Volume) (starts : List ℕ) (ns : List ProtoNode) (contents : List (List ℕ))
    → flat_map (blocks_of_place v starts ns contents) (object_order ns) ≡ all_blocks v starts ns contents
unfolding all_blocks
blocks_are v starts ns contents = refl

pub part_few : (bytes : List ℕ) (i : ℕ) → length (part_at bytes i) ≤ 4096
part_few bytes i =
    let some = length-take (min (length bytes) (4096 * i + 4096) - 4096 * i) (drop (4096 * i) bytes) in
    omega (arith, some)
