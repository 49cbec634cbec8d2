-- As many blocks are built of objects as are written of them.
use Rattle.std.proofs.Common.{◌≡◌, ℕ, zero, suc, ◌/◌, ◌%◌, ◌^◌, ◌==◌, ◌≤◌, ◌<◌, Bool, true, false, cond, nat_le, List, [], ◌∷◌, ◌++◌, length, length-append, Option, Some, None, arith, refl, sym, ap, ◌∙◌}
use Rattle.std.specs.List.{All, flat_map}
use Rattle.std.specs.Option.{MatchOption}
use Rattle.std.proofs.lemmas.Bool.{eqb-true}
use Rattle.std.proofs.lemmas.List.FromFn.{length-map-range_with_len}
use Rattle.std.proofs.lemmas.List.Sums.{sum_by-append, sum_by-cons}
use Rattle.xfs_geom.specs.Volumes.{Volume}
use Rattle.xfs_kinds.specs.OffsetWords.{is_unwritten}
use Rattle.xfs_place.specs.Objects.{asks_of}
use Rattle.xfs_place.specs.declared.wanted.RunAsk.{RunAsk}
use Rattle.xfs_proto.specs.declared.protofile.ProtoKind.{ProtoKind}
use Rattle.xfs_proto.specs.declared.protofile.ProtoKind.TheVariants as Kind
use Rattle.xfs_proto.specs.declared.protofile.ProtoNode.{ProtoNode}
use Rattle.xfs_render.specs.Objects.{written_blocks, written_in}
use Rattle.xfs_filled.specs.Contents.{all_blocks, blocks_of_place, blocks_in, blocks_of_kind, content_block, block_of_target}
use Rattle.xfs_filled.specs.Directories.{IsSoundDirectory, made_directory_at}
use Rattle.xfs_filled.specs.FileTrees.{node_at, object_order}
use Rattle.xfs_filled.specs.Numbers.{number_of}
use Rattle.xfs_filled.specs.Objects.{all_objects, blocks_of_length, content_at, directory_runs, objects_of_place, run_of, runs_at, runs_of_kind}
use Rattle.xfs_filled.specs.declared.directories.MadeDirectory.{MadeDirectory}
use Rattle.xfs_filled.proofs.Asking.{order_inside}
use Rattle.xfs_filled.proofs.Serving.{asks_next}

written_one : (a : RunAsk) → a.offset_word ≤ 2 ^ 24 → written_in a ≡ a.blocks
written_one a small =
    let none : a.offset_word / 2 ^ 61 ≡ 0 = omega (arith, small) in
    let plain : is_unwritten a.offset_word ≡ false = ap (λ (n : ℕ). n % 2 == 1) none in
    ap (λ (t : Bool). cond t 0 a.blocks) plain

run_written : (blocks owner offset : ℕ) → offset ≤ 2 ^ 24 → written_blocks (run_of blocks owner offset) ≡ blocks
run_written blocks owner offset small = by_case (blocks == 0) refl
  where
    by_case : (r : Bool) → (blocks == 0) ≡ r → written_blocks (cond r [] (record { blocks = blocks; owner = owner; offset_word = offset } ∷ [])) ≡ blocks
    by_case true is = sym (eqb-true blocks 0 is)
    by_case false is =
        let a : RunAsk = record { blocks = blocks; owner = owner; offset_word = offset } in
        let all = sum_by-cons written_in a [] in
        let one = written_one a small in
        omega (arith, all, one)

directory_written : (ino : ℕ) (made : Option MadeDirectory) → MatchOption made (Unit {0}) IsSoundDirectory → written_blocks (directory_runs ino made) ≡ length (blocks_in made)
directory_written ino None sound = refl
directory_written ino (Some d) sound =
    let first = sum_by-append written_in (run_of d.data_blocks ino 0) (run_of d.index_blocks ino 0x800000 ++ run_of d.free_blocks ino 0x1000000) in
    let second = sum_by-append written_in (run_of d.index_blocks ino 0x800000) (run_of d.free_blocks ino 0x1000000) in
    let datas = run_written d.data_blocks ino 0 (omega arith) in
    let indexes = run_written d.index_blocks ino 0x800000 (omega arith) in
    let frees = run_written d.free_blocks ino 0x1000000 (omega arith) in
    let counted = sound.counted in
    omega (arith, first, second, datas, indexes, frees, counted)

target_written : (target : List ℕ) (ino : ℕ) (r : Bool) → written_blocks (run_of (cond r 0 1) ino 0) ≡ length (cond r [] (block_of_target target ∷ []))
target_written target ino true = refl
target_written target ino false = run_written 1 ino 0 (omega arith)

kind_written : (kind : ProtoKind) (made : Option MadeDirectory) (content : List ℕ) (ino : ℕ) → MatchOption made (Unit {0}) IsSoundDirectory
    → written_blocks (runs_of_kind kind made content ino) ≡ length (blocks_of_kind kind made content)
kind_written (Kind.Regular name line) made content ino sound =
    run_written (blocks_of_length (length content)) ino 0 (omega arith) ∙ sym (length-map-range_with_len (content_block content) 0 (blocks_of_length (length content)))
kind_written Kind.Directory made content ino sound = directory_written ino made sound
kind_written (Kind.Link target) made content ino sound = target_written target ino (nat_le (length target) 336)
kind_written (Kind.Block major minor) made content ino sound = refl
kind_written (Kind.Character major minor) made content ino sound = refl
kind_written Kind.Pipe made content ino sound = refl

module _ (v : Volume) (starts : List ℕ) (ns : List ProtoNode) (contents : List (List ℕ)) where
  order_written : (order : List ℕ) → All (λ k. MatchOption (made_directory_at v starts ns k) (Unit {0}) IsSoundDirectory) order
      → written_blocks (asks_of (flat_map (objects_of_place v starts ns contents) order)) ≡ length (flat_map (blocks_of_place v starts ns contents) order)
  order_written [] sound = refl
  order_written (k ∷ ks) sound =
      let next = ap written_blocks (asks_next v starts ns contents k ks) in
      let parts = sum_by-append written_in (runs_at v starts ns contents k) (asks_of (flat_map (objects_of_place v starts ns contents) ks)) in
      let here = kind_written (node_at ns k).kind (made_directory_at v starts ns k) (content_at contents k) (number_of v starts k) (sound zero k (omega arith)) in
      let rest = order_written ks (λ m d low. sound (suc m) d (omega (arith, low))) in
      let long = length-append (blocks_of_place v starts ns contents k) (flat_map (blocks_of_place v starts ns contents) ks) in
      omega (arith, next, parts, here, rest, long)

  pub all_written : ((k : ℕ) → k < length ns → MatchOption (made_directory_at v starts ns k) (Unit {0}) IsSoundDirectory)
      → length (all_blocks v starts ns contents) ≡ written_blocks (asks_of (all_objects v starts ns contents))
  unfolding all_blocks all_objects
  all_written sound = sym (order_written (object_order ns) (λ m d low. sound _ (order_inside ns m d low)))
