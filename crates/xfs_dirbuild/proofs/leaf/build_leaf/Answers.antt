use Rattle.std.proofs.Common.{◌≡◌, ℕ, ◌+◌, ◌*◌, ◌<◌, ◌≤◌, length, map, replicate, List, [], ◌∷◌, ◌++◌, get_or, sym, ap, ap₂, ◌∙◌, subst, inl, arith}
use Rattle.std.specs.List.Sorted.{IsPermutation}
use Rattle.std.proofs.lemmas.List.{length-map, length-replicate}
use Rattle.std.proofs.lemmas.Bool.{leb-true}
use Rattle.xfs_dirindex.specs.declared.pairs.Pair.{Pair}
use Rattle.xfs_dirbuild.specs.Forms.{fits_leaf, data_count}
use Rattle.xfs_dirbuild.specs.Filling.{filled_shares, rest_in}
use Rattle.xfs_dirbuild.specs.Index.{IsLeafBlock, IsIndexed, IsPointer}
use Rattle.xfs_dirbuild.specs.Placed.{IsBuiltDataBlock}
use Rattle.xfs_dirbuild.specs.Filling.{pairs_from}
use Rattle.xfs_dirbuild.specs.Blocks.{leaf_block, index_of, dir_blocks, bank_part}
use Rattle.xfs_dirbuild.proofs.InRank.{ranked-is}
use Rattle.xfs_dirbuild.proofs.Sections.{section-push, section-all}
use Rattle.xfs_dirbuild.proofs.Banks.{put-there, put-beside, put-count}
use Rattle.xfs_dirbuild.proofs.FillSteps.{shares-count, data_count-bound}
use Rattle.xfs_dirbuild.proofs.Magics.{indexed, data-magic}
use Rattle.xfs_dirbuild.proofs.WholeLeaf.{whole-leaf}
use Rattle.std.proofs.lemmas.Result.{IfOk-from_err}
use Rattle.xfs_dirbuild.proofs.BlockBytes.{blank-long}
use Rattle.std.specs.List.{All}
use Rattle.xfs_dirbuild.proofs.Choosing.{data-fits, leaf-room}
use Rattle.xfs_dirbuild.proofs.leaf.build_leaf.Goals as goal

pub fill_blocks-requires-clause-room : goal.fill_blocks-requires-clause-room
fill_blocks-requires-clause-room c =
    let made : length c.in_ok-blocks.blocks ≡ c.data_count-data.result + 1 =
    ap length c.in_ok-blocks.ensures ∙ length-replicate (c.data_count-data.result + 1) (replicate 4096 0) in
    omega (arith, shares-count c.args.dir c.args.parent c.args.entries.now, c.data_count-data.ensures.value, made)

pub fill_blocks-requires-clause-low : goal.fill_blocks-requires-clause-low
fill_blocks-requires-clause-low c =
    omega (arith, shares-count c.args.dir c.args.parent c.args.entries.now, data_count-bound c.args.entries.now c.requires.writable c.requires.few)

pub put_leaf-requires-clause-fit : goal.put_leaf-requires-clause-fit
unfolding fits_leaf
put_leaf-requires-clause-fit c =
    let ss = filled_shares c.args.dir c.args.parent c.args.entries.now in
    let fits : 64 + 8 * (length c.args.entries.now + 2) + 2 * data_count c.args.entries.now + 4 ≤ 4096 = leb-true _ _ c.requires.fits in
    omega (
      arith,
      fits,
      shares-count c.args.dir c.args.parent c.args.entries.now,
      length-map ss rest_in,
      ap length c.in_ok-stated.ensures.rests,
      c.in_ok-stated.ensures.added,
      c.in_ok-sort_pairs.ensures.count,
      ap length c.deref.ensures.value,
      ap length c.deref-2.ensures.value,
    )

pub returns-clause-whole : goal.returns-clause-whole
unfolding fits_leaf
returns-clause-whole c =
    λ placed are.
    let es = c.args.entries.now in
    let ss = filled_shares c.args.dir c.args.parent es in
    let d = c.data_count-data.result in
    let old = c.fill_blocks.new.blocks in
    let new = c.put_block.new.blocks in
    let block = c.put_leaf.new.block in
    let pairs = c.sort_pairs.new.pairs.items in
    let is = c.put_block.ensures in
    let value : c.data_count-data.result ≡ data_count c.args.entries.now = c.data_count-data.ensures.value in
    let count = shares-count c.args.dir c.args.parent es in
    let made : length c.in_ok-blocks.blocks ≡ c.data_count-data.result + 1 =
    ap length c.in_ok-blocks.ensures ∙ length-replicate (c.data_count-data.result + 1) (replicate 4096 0) in
    let old_long : length c.fill_blocks.new.blocks ≡ c.data_count-data.result + 1 = c.in_ok-stated.ensures.count ∙ made in
    let new_long : length c.put_block.new.blocks ≡ c.data_count-data.result + 1 = put-count old new d block is ∙ old_long in
    let rests : c.deref-2.result.now ≡ map rest_in ss = c.deref-2.ensures.value ∙ c.in_ok-stated.ensures.rests in
    let leaf : IsLeafBlock pairs (map rest_in ss) (get_or new (data_count es) []) =
    subst (λ (b : List ℕ). IsLeafBlock pairs (map rest_in ss) b) (sym (ap (λ (n : ℕ). get_or new n []) (sym value) ∙ put-there old new d block is (omega (arith, old_long))))
    (subst (λ (vs : List ℕ). IsLeafBlock pairs vs block) rests (subst (λ (ps : List Pair). IsLeafBlock ps c.deref-2.result.now block) c.deref.ensures.value c.put_leaf.ensures.stands)) in
    let fits : 64 + 8 * (length c.args.entries.now + 2) + 2 * data_count c.args.entries.now + 4 ≤ 4096 = leb-true _ _ c.requires.fits in
    let fit : 64 + 8 * length pairs + 2 * length (map rest_in ss) + 4 ≤ 4096 =
    omega (arith, fits, count, length-map ss rest_in, c.in_ok-stated.ensures.added, c.in_ok-sort_pairs.ensures.count) in
    let long : length c.put_block.new.blocks ≡ data_count es + 1 = omega (arith, new_long, value) in
    whole-leaf c.args.dir c.args.parent (data_count es) es new placed pairs c.requires.names (sym count)
    (data_count-bound es c.requires.writable c.requires.few) long
    (λ k less.
    let low : k < c.data_count-data.result = subst (λ (n : ℕ). k < n) (sym value) less in
    let inside : k < length ss = subst (λ (n : ℕ). k < n) (sym count) less in
    subst (λ (b : List ℕ). IsBuiltDataBlock (get_or ss k []) b) (sym (put-beside old new d k block is (inl low))) (c.in_ok-stated.ensures.blocks k inside))
    leaf fit
    (subst (λ (ps : List Pair). IsPermutation ps pairs) c.in_ok-stated.ensures.pairs c.in_ok-sort_pairs.ensures.moved)
    c.in_ok-sort_pairs.ensures.ranked c.in_ok-sort_pairs.ensures.sound are

pub returns-clause-magics : goal.returns-clause-magics
returns-clause-magics c =
    let ss = filled_shares c.args.dir c.args.parent c.args.entries.now in
    let d = c.data_count-data.result in
    let old = c.fill_blocks.new.blocks in
    let new = c.put_block.new.blocks in
    let block = c.put_leaf.new.block in
    let is = c.put_block.ensures in
    let value : c.data_count-data.result ≡ data_count c.args.entries.now = c.data_count-data.ensures.value in
    let count = shares-count c.args.dir c.args.parent c.args.entries.now in
    let made : length c.in_ok-blocks.blocks ≡ c.data_count-data.result + 1 =
    ap length c.in_ok-blocks.ensures ∙ length-replicate (c.data_count-data.result + 1) (replicate 4096 0) in
    let inside : c.data_count-data.result < length c.fill_blocks.new.blocks = omega (arith, c.in_ok-stated.ensures.count, made) in
    record {
      data_blocks = λ k less.
          let low : k < c.data_count-data.result = subst (λ (n : ℕ). k < n) (sym value) less in
          data-magic (get_or new k []) (subst (λ (b : List ℕ). IsBuiltDataBlock (get_or ss k []) b) (sym (put-beside old new d k block is (inl low)))
          (c.in_ok-stated.ensures.blocks k (omega (arith, count)))).magic;
      index_blocks = λ k less.
          let place : c.data_count-data.result ≡ data_count c.args.entries.now + k = omega (arith, value) in
          subst (λ (n : ℕ). IsIndexed (get_or new n [])) place
          (subst (λ (b : List ℕ). IsIndexed b) (sym (put-there old new d block is inside)) (indexed block 0 c.put_leaf.ensures.stands.forw (omega arith)));
      free_blocks = λ k less. absurd (omega arith);
    }

pub returns-clause-bytes : goal.returns-clause-bytes
unfolding dir_blocks
returns-clause-bytes c =
    let ss = filled_shares c.args.dir c.args.parent c.args.entries.now in
    let d = c.data_count-data.result in
    let old = c.fill_blocks.new.blocks in
    let new = c.put_block.new.blocks in
    let block = c.put_leaf.new.block in
    let pairs = c.sort_pairs.new.pairs.items in
    let is = c.put_block.ensures in
    let made : length c.in_ok-blocks.blocks ≡ c.data_count-data.result + 1 =
    ap length c.in_ok-blocks.ensures ∙ length-replicate (c.data_count-data.result + 1) (replicate 4096 0) in
    let old_long : length c.fill_blocks.new.blocks ≡ c.data_count-data.result + 1 = c.in_ok-stated.ensures.count ∙ made in
    let count : length ss ≡ c.data_count-data.result = shares-count c.args.dir c.args.parent c.args.entries.now ∙ sym c.data_count-data.ensures.value in
    let start : 0 + c.data_count-data.result ≡ c.data_count-data.result = omega arith in
    let room : 0 + c.data_count-data.result < length c.fill_blocks.new.blocks = omega (arith, old_long) in
    let put = ap (λ (n : ℕ). get_or new n []) start ∙ put-there old new d block is (omega (arith, old_long)) in
    let ranked : pairs ≡ index_of ss =
    ranked-is (pairs_from 0 ss) pairs (subst (λ (ps : List Pair). IsPermutation ps pairs) c.in_ok-stated.ensures.pairs c.in_ok-sort_pairs.ensures.moved)
    c.in_ok-sort_pairs.ensures.ranked in
    let leaf : block ≡ leaf_block (index_of ss) (map rest_in ss) =
    c.put_leaf.ensures.bytes
    ∙ ap₂ leaf_block (c.deref.ensures.value ∙ ranked) (c.deref-2.ensures.value ∙ c.in_ok-stated.ensures.rests) in
    sym (section-all new (d + 1) (put-count old new d block is ∙ old_long))
    ∙ (section-push old new 0 d block (put-count old new d block is) room
    (λ k less. put-beside old new d (0 + k) block is (inl (omega arith))) put
    ∙ ap₂ (λ (bs : List (List ℕ)) (b : List ℕ). bs ++ b ∷ []) (ap (bank_part old 0) (sym count) ∙ c.in_ok-stated.ensures.bytes) leaf)

pub returns-in_err-blocks-clause-count : goal.returns-in_err-blocks-clause-count
returns-in_err-blocks-clause-count c = IfOk-from_err c.from_residual.result _ c.from_residual.ensures.0

pub returns-in_err-blocks-clause-magics : goal.returns-in_err-blocks-clause-magics
returns-in_err-blocks-clause-magics c = IfOk-from_err c.from_residual.result _ c.from_residual.ensures.0

pub returns-in_err-blocks-clause-whole : goal.returns-in_err-blocks-clause-whole
returns-in_err-blocks-clause-whole c = IfOk-from_err c.from_residual.result _ c.from_residual.ensures.0

pub returns-in_err-blocks-clause-bytes : goal.returns-in_err-blocks-clause-bytes
returns-in_err-blocks-clause-bytes c = IfOk-from_err c.from_residual.result _ c.from_residual.ensures.0

pub returns-in_err-stated-clause-count : goal.returns-in_err-stated-clause-count
returns-in_err-stated-clause-count c = IfOk-from_err c.from_residual-in_err-stated.result _ c.from_residual-in_err-stated.ensures.0

pub returns-in_err-stated-clause-magics : goal.returns-in_err-stated-clause-magics
returns-in_err-stated-clause-magics c = IfOk-from_err c.from_residual-in_err-stated.result _ c.from_residual-in_err-stated.ensures.0

pub returns-in_err-stated-clause-whole : goal.returns-in_err-stated-clause-whole
returns-in_err-stated-clause-whole c = IfOk-from_err c.from_residual-in_err-stated.result _ c.from_residual-in_err-stated.ensures.0

pub returns-in_err-stated-clause-bytes : goal.returns-in_err-stated-clause-bytes
returns-in_err-stated-clause-bytes c = IfOk-from_err c.from_residual-in_err-stated.result _ c.from_residual-in_err-stated.ensures.0

pub returns-in_err-sort_pairs-clause-count : goal.returns-in_err-sort_pairs-clause-count
returns-in_err-sort_pairs-clause-count c = IfOk-from_err c.from_residual-in_err-sort_pairs.result _ c.from_residual-in_err-sort_pairs.ensures.0

pub returns-in_err-sort_pairs-clause-magics : goal.returns-in_err-sort_pairs-clause-magics
returns-in_err-sort_pairs-clause-magics c = IfOk-from_err c.from_residual-in_err-sort_pairs.result _ c.from_residual-in_err-sort_pairs.ensures.0

pub returns-in_err-sort_pairs-clause-whole : goal.returns-in_err-sort_pairs-clause-whole
returns-in_err-sort_pairs-clause-whole c = IfOk-from_err c.from_residual-in_err-sort_pairs.result _ c.from_residual-in_err-sort_pairs.ensures.0

pub returns-in_err-sort_pairs-clause-bytes : goal.returns-in_err-sort_pairs-clause-bytes
returns-in_err-sort_pairs-clause-bytes c = IfOk-from_err c.from_residual-in_err-sort_pairs.result _ c.from_residual-in_err-sort_pairs.ensures.0

pub data_count-data-requires-clause-writable : goal.data_count-data-requires-clause-writable
data_count-data-requires-clause-writable c = c.requires.writable

pub data_count-data-requires-clause-few : goal.data_count-data-requires-clause-few
data_count-data-requires-clause-few c = c.requires.few

pub fill_blocks-requires-clause-writable : goal.fill_blocks-requires-clause-writable
fill_blocks-requires-clause-writable c = c.requires.writable

pub fill_blocks-requires-clause-dir : goal.fill_blocks-requires-clause-dir
fill_blocks-requires-clause-dir c = c.requires.dir

pub fill_blocks-requires-clause-parent : goal.fill_blocks-requires-clause-parent
fill_blocks-requires-clause-parent c = c.requires.parent

pub overflow_add-data : goal.overflow_add-data
overflow_add-data c = data-fits c.data_count-data.result (length c.args.entries.now) c.data_count-data.ensures.bound c.requires.few

pub sort_pairs-requires : goal.sort_pairs-requires
sort_pairs-requires c = record { sound = c.in_ok-stated.ensures.sound }

pub put_leaf-requires-clause-pointers : goal.put_leaf-requires-clause-pointers
put_leaf-requires-clause-pointers c = subst (λ (ps : List Pair). All IsPointer ps) (sym c.deref.ensures.value) c.in_ok-sort_pairs.ensures.sound

pub put_leaf-requires-clause-long : goal.put_leaf-requires-clause-long
put_leaf-requires-clause-long c = blank-long 4096 c.blank-block.result c.blank-block.ensures

pub put_leaf-requires-clause-blank : goal.put_leaf-requires-clause-blank
put_leaf-requires-clause-blank c = c.blank-block.ensures

pub put_block-requires-clause-inside : goal.put_block-requires-clause-inside
put_block-requires-clause-inside c =
    leaf-room (length c.fill_blocks.new.blocks) (length c.in_ok-blocks.blocks) c.data_count-data.result c.in_ok-stated.ensures.count
    (ap length c.in_ok-blocks.ensures ∙ length-replicate (c.data_count-data.result + 1) (replicate 4096 0))

pub put_block-requires-clause-whole : goal.put_block-requires-clause-whole
put_block-requires-clause-whole c = c.put_leaf.auto.block ∙ blank-long 4096 c.blank-block.result c.blank-block.ensures

pub returns-clause-count : goal.returns-clause-count
returns-clause-count c =
    put-count c.fill_blocks.new.blocks c.put_block.new.blocks c.data_count-data.result c.put_leaf.new.block c.put_block.ensures
    ∙ (c.in_ok-stated.ensures.count ∙ ((ap length c.in_ok-blocks.ensures ∙ length-replicate (c.data_count-data.result + 1) (replicate 4096 0)) ∙ ap (λ (n : ℕ). n + 1) c.data_count-data.ensures.value))
