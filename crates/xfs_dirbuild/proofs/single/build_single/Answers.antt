use Rattle.std.proofs.Common.{◌≡◌, ℕ, ◌+◌, ◌*◌, ◌≤◌, length, List, [], ◌∷◌, ◌++◌, get_or, Option, Some, sym, ap, ap₂, ◌∙◌, subst, arith}
use Rattle.std.specs.List.Sorted.{IsPermutation}
use Rattle.std.proofs.lemmas.Bool.{leb-true}
use Rattle.xfs_dirdata.specs.Short.{index_size}
use Rattle.xfs_dirdata.specs.Written.{data_length, first_entries, offsets}
use Rattle.xfs_dirindex.specs.declared.pairs.Pair.{Pair}
use Rattle.xfs_dirindex.specs.Data.{due_pairs}
use Rattle.xfs_dirbuild.specs.Forms.{fits_single}
use Rattle.xfs_dirbuild.specs.Filling.{all_entries}
use Rattle.xfs_dirbuild.specs.Private.SingleBlock.{IsSingleBlock}
use Rattle.xfs_dirbuild.specs.Filling.{pairs_from}
use Rattle.xfs_dirbuild.specs.Blocks.{single_block, index_of, dir_blocks}
use Rattle.std.proofs.lemmas.List.{append-nil}
use Rattle.xfs_dirbuild.proofs.InRank.{ranked-is}
use Rattle.xfs_dirbuild.proofs.Sections.{section-push, section-all}
use Rattle.xfs_dirbuild.proofs.Banks.{put-there, put-count}
use Rattle.xfs_dirbuild.proofs.Filled.{due_pairs-append}
use Rattle.xfs_word.specs.Field.{field_of}
use Rattle.xfs_dirbuild.proofs.Magics.{single-magic}
use Rattle.xfs_dirbuild.proofs.WholeSingle.{whole-single}
use Rattle.std.proofs.lemmas.Result.{IfOk-from_err}
use Rattle.std.specs.List.{All}
use Rattle.std.proofs.lemmas.List.Elements.{All-nil}
use Rattle.xfs_dirbuild.specs.Index.{IsPointer}
use Rattle.xfs_dirbuild.proofs.single.build_single.Goals as goal

pub returns-clause-whole : goal.returns-clause-whole
unfolding fits_single
returns-clause-whole c =
    λ placed are.
    let es = c.args.entries.now in
    let all = all_entries c.args.dir c.args.parent es in
    let first : Option (ℕ × ℕ) = Some (c.args.dir, c.args.parent) in
    let old = c.in_ok-blocks.blocks in
    let new = c.put_block.new.blocks in
    let block = c.put_single.new.block in
    let pairs = c.sort_pairs.new.pairs.items in
    let made : length c.in_ok-blocks.blocks ≡ 1 = ap length c.in_ok-blocks.ensures in
    let is = c.put_block.ensures in
    let there : get_or c.put_block.new.blocks 0 [] ≡ c.put_single.new.block = put-there old new 0 block is (omega (arith, made)) in
    let long : length c.put_single.new.block ≡ 4096 = omega arith in
    let fits : 96 + data_length es + index_size (length es) ≤ 4096 = leb-true _ _ c.requires.fits in
    let pairs_long : length c.sort_pairs.new.pairs.items ≡ length c.args.entries.now + 2 =
    omega (arith, c.in_ok-sort_pairs.ensures.count, c.in_ok-add_pairs.ensures.count, c.in_ok-start.ensures.count, ap length c.new-pairs.ensures.items) in
    let fit : 64 + 8 * length c.sort_pairs.new.pairs.items ≤ 4088 = omega (arith, pairs_long, fits) in
    let first_pairs : c.add_first.new.pairs.items ≡ due_pairs 0 (first_entries first) (offsets 64 (first_entries first)) =
    c.in_ok-start.ensures.pairs ∙ ap (λ (ps : List Pair). ps ++ due_pairs 0 (first_entries first) (offsets 64 (first_entries first))) c.new-pairs.ensures.items in
    let due : c.add_pairs.new.pairs.items ≡ due_pairs 0 all (offsets 64 all) =
    c.in_ok-add_pairs.ensures.pairs
    ∙ (ap₂ (λ (ps : List Pair) (a : ℕ). ps ++ due_pairs 0 es (offsets a es)) first_pairs c.in_ok-start.ensures.end
    ∙ sym (due_pairs-append 0 64 (first_entries first) es)) in
    let single : IsSingleBlock c.args.dir c.args.parent es pairs (get_or new 0 []) =
    subst (λ (b : List ℕ). IsSingleBlock c.args.dir c.args.parent es pairs b) (sym there)
    (subst (λ (ps : List Pair). IsSingleBlock c.args.dir c.args.parent es ps block) c.deref.ensures.value c.in_ok-put_single.ensures.stands) in
    whole-single c.args.dir c.args.parent es new placed pairs c.requires.names (put-count old new 0 block is ∙ made) (ap length there ∙ long) fit single
    (subst (λ (ps : List Pair). IsPermutation ps pairs) due c.in_ok-sort_pairs.ensures.moved)
    c.in_ok-sort_pairs.ensures.ranked c.in_ok-sort_pairs.ensures.sound are

pub returns-clause-magics : goal.returns-clause-magics
returns-clause-magics c =
    let old = c.in_ok-blocks.blocks in
    let new = c.put_block.new.blocks in
    let block = c.put_single.new.block in
    let made : length c.in_ok-blocks.blocks ≡ 1 = ap length c.in_ok-blocks.ensures in
    let there : get_or c.put_block.new.blocks 0 [] ≡ c.put_single.new.block = put-there old new 0 block c.put_block.ensures (omega (arith, made)) in
    let single = c.in_ok-put_single.ensures.stands in
    record {
      data_blocks = λ k less.
          let first : 0 ≡ k = omega arith in
          single-magic (get_or new k []) (ap (λ (n : ℕ). field_of (get_or new n []) 0 4) (sym first) ∙ (ap (λ (b : List ℕ). field_of b 0 4) there ∙ single.magic));
      index_blocks = λ k less. absurd (omega arith);
      free_blocks = λ k less. absurd (omega arith);
    }

pub returns-clause-bytes : goal.returns-clause-bytes
unfolding dir_blocks
returns-clause-bytes c =
    let es = c.args.entries.now in
    let all = all_entries c.args.dir c.args.parent es in
    let first : Option (ℕ × ℕ) = Some (c.args.dir, c.args.parent) in
    let old = c.in_ok-blocks.blocks in
    let new = c.put_block.new.blocks in
    let block = c.put_single.new.block in
    let pairs = c.sort_pairs.new.pairs.items in
    let made : length c.in_ok-blocks.blocks ≡ 1 = ap length c.in_ok-blocks.ensures in
    let is = c.put_block.ensures in
    let there : get_or c.put_block.new.blocks 0 [] ≡ c.put_single.new.block = put-there old new 0 block is (omega (arith, made)) in
    let first_pairs : c.add_first.new.pairs.items ≡ due_pairs 0 (first_entries first) (offsets 64 (first_entries first)) =
    c.in_ok-start.ensures.pairs ∙ ap (λ (ps : List Pair). ps ++ due_pairs 0 (first_entries first) (offsets 64 (first_entries first))) c.new-pairs.ensures.items in
    let due : c.add_pairs.new.pairs.items ≡ pairs_from 0 (all ∷ []) =
    c.in_ok-add_pairs.ensures.pairs
    ∙ (ap₂ (λ (ps : List Pair) (a : ℕ). ps ++ due_pairs 0 es (offsets a es)) first_pairs c.in_ok-start.ensures.end
    ∙ (sym (due_pairs-append 0 64 (first_entries first) es) ∙ sym (append-nil (due_pairs 0 all (offsets 64 all))))) in
    let ranked : pairs ≡ index_of (all ∷ []) =
    ranked-is (pairs_from 0 (all ∷ [])) pairs (subst (λ (ps : List Pair). IsPermutation ps pairs) due c.in_ok-sort_pairs.ensures.moved)
    c.in_ok-sort_pairs.ensures.ranked in
    sym (section-all new 1 (put-count old new 0 block is ∙ made))
    ∙ (section-push old new 0 0 block (put-count old new 0 block is) (omega (arith, made)) (λ k less. absurd (omega arith)) there
    ∙ ap (λ (b : List ℕ). b ∷ []) (c.in_ok-put_single.ensures.bytes ∙ ap (single_block all) (c.deref.ensures.value ∙ ranked)))

pub returns-in_err-start : goal.returns-in_err-start
returns-in_err-start c = record {
  count = IfOk-from_err c.from_residual.result _ c.from_residual.ensures.0;
  magics = IfOk-from_err c.from_residual.result _ c.from_residual.ensures.0;
  whole = IfOk-from_err c.from_residual.result _ c.from_residual.ensures.0;
  bytes = IfOk-from_err c.from_residual.result _ c.from_residual.ensures.0;
}

pub returns-in_err-add_pairs : goal.returns-in_err-add_pairs
returns-in_err-add_pairs c = record {
  count = IfOk-from_err c.from_residual-in_err-add_pairs.result _ c.from_residual-in_err-add_pairs.ensures.0;
  magics = IfOk-from_err c.from_residual-in_err-add_pairs.result _ c.from_residual-in_err-add_pairs.ensures.0;
  whole = IfOk-from_err c.from_residual-in_err-add_pairs.result _ c.from_residual-in_err-add_pairs.ensures.0;
  bytes = IfOk-from_err c.from_residual-in_err-add_pairs.result _ c.from_residual-in_err-add_pairs.ensures.0;
}

pub returns-in_err-sort_pairs : goal.returns-in_err-sort_pairs
returns-in_err-sort_pairs c = record {
  count = IfOk-from_err c.from_residual-in_err-sort_pairs.result _ c.from_residual-in_err-sort_pairs.ensures.0;
  magics = IfOk-from_err c.from_residual-in_err-sort_pairs.result _ c.from_residual-in_err-sort_pairs.ensures.0;
  whole = IfOk-from_err c.from_residual-in_err-sort_pairs.result _ c.from_residual-in_err-sort_pairs.ensures.0;
  bytes = IfOk-from_err c.from_residual-in_err-sort_pairs.result _ c.from_residual-in_err-sort_pairs.ensures.0;
}

pub returns-in_err-put_single : goal.returns-in_err-put_single
returns-in_err-put_single c = record {
  count = IfOk-from_err c.from_residual-in_err-put_single.result _ c.from_residual-in_err-put_single.ensures.0;
  magics = IfOk-from_err c.from_residual-in_err-put_single.result _ c.from_residual-in_err-put_single.ensures.0;
  whole = IfOk-from_err c.from_residual-in_err-put_single.result _ c.from_residual-in_err-put_single.ensures.0;
  bytes = IfOk-from_err c.from_residual-in_err-put_single.result _ c.from_residual-in_err-put_single.ensures.0;
}

pub returns-in_err-blocks : goal.returns-in_err-blocks
returns-in_err-blocks c = record {
  count = IfOk-from_err c.from_residual-in_err-blocks.result _ c.from_residual-in_err-blocks.ensures.0;
  magics = IfOk-from_err c.from_residual-in_err-blocks.result _ c.from_residual-in_err-blocks.ensures.0;
  whole = IfOk-from_err c.from_residual-in_err-blocks.result _ c.from_residual-in_err-blocks.ensures.0;
  bytes = IfOk-from_err c.from_residual-in_err-blocks.result _ c.from_residual-in_err-blocks.ensures.0;
}

pub add_first-requires-clause-low : goal.add_first-requires-clause-low
add_first-requires-clause-low c = omega arith

pub add_first-requires-clause-sound : goal.add_first-requires-clause-sound
add_first-requires-clause-sound c = subst (λ (ps : List Pair). All IsPointer ps) (sym c.new-pairs.ensures.items) (All-nil IsPointer)

pub add_pairs-requires-clause-writable : goal.add_pairs-requires-clause-writable
add_pairs-requires-clause-writable c = c.requires.writable

pub add_pairs-requires-clause-low : goal.add_pairs-requires-clause-low
add_pairs-requires-clause-low c = omega arith

pub add_pairs-requires-clause-inside : goal.add_pairs-requires-clause-inside
unfolding fits_single
add_pairs-requires-clause-inside c =
    let begin : c.in_ok-start.start ≡ 96 = c.in_ok-start.ensures.end in
    let fits : 96 + data_length c.args.entries.now + index_size (length c.args.entries.now) ≤ 4096 = leb-true _ _ c.requires.fits in
    omega (arith, begin, fits)

pub add_pairs-requires-clause-behind : goal.add_pairs-requires-clause-behind
add_pairs-requires-clause-behind c =
    let begin : c.in_ok-start.start ≡ 96 = c.in_ok-start.ensures.end in
    omega (arith, begin)

pub add_pairs-requires-clause-sound : goal.add_pairs-requires-clause-sound
add_pairs-requires-clause-sound c = c.in_ok-start.ensures.sound

pub sort_pairs-requires : goal.sort_pairs-requires
sort_pairs-requires c = record { sound = c.in_ok-add_pairs.ensures.sound }

pub put_single-requires-clause-writable : goal.put_single-requires-clause-writable
put_single-requires-clause-writable c = c.requires.writable

pub put_single-requires-clause-dir : goal.put_single-requires-clause-dir
put_single-requires-clause-dir c = c.requires.dir

pub put_single-requires-clause-parent : goal.put_single-requires-clause-parent
put_single-requires-clause-parent c = c.requires.parent

pub put_single-requires-clause-pointers : goal.put_single-requires-clause-pointers
put_single-requires-clause-pointers c = subst (λ (ps : List Pair). All IsPointer ps) (sym c.deref.ensures.value) c.in_ok-sort_pairs.ensures.sound

pub put_single-requires-clause-all : goal.put_single-requires-clause-all
put_single-requires-clause-all c =
    let pairs_long : length c.sort_pairs.new.pairs.items ≡ length c.args.entries.now + 2 =
    omega (arith, c.in_ok-sort_pairs.ensures.count, c.in_ok-add_pairs.ensures.count, c.in_ok-start.ensures.count, ap length c.new-pairs.ensures.items) in
    ap length c.deref.ensures.value ∙ pairs_long

pub put_single-requires-clause-fit : goal.put_single-requires-clause-fit
unfolding fits_single
put_single-requires-clause-fit c =
    let pairs_long : length c.sort_pairs.new.pairs.items ≡ length c.args.entries.now + 2 =
    omega (arith, c.in_ok-sort_pairs.ensures.count, c.in_ok-add_pairs.ensures.count, c.in_ok-start.ensures.count, ap length c.new-pairs.ensures.items) in
    let fits : 96 + data_length c.args.entries.now + index_size (length c.args.entries.now) ≤ 4096 = leb-true _ _ c.requires.fits in
    let same : length c.deref.result.now ≡ length c.sort_pairs.new.pairs.items = ap length c.deref.ensures.value in
    omega (arith, same, pairs_long, fits)

pub put_block-requires-clause-inside : goal.put_block-requires-clause-inside
put_block-requires-clause-inside c =
    let made : length c.in_ok-blocks.blocks ≡ 1 = ap length c.in_ok-blocks.ensures in
    omega (arith, made)

pub returns-clause-count : goal.returns-clause-count
returns-clause-count c =
    let made : length c.in_ok-blocks.blocks ≡ 1 = ap length c.in_ok-blocks.ensures in
    put-count c.in_ok-blocks.blocks c.put_block.new.blocks 0 c.put_single.new.block c.put_block.ensures ∙ made
