use Rattle.std.proofs.Common.{rules, ◌≡◌, ℕ, ◌+◌, ◌-◌, ◌*◌, List, [], ◌∷◌, length, refl, sym, ◌∙◌, ap, arith}
use Rattle.xfs_word.specs.Field.{part_of, zeros}
use Rattle.xfs_word.proofs.Register.{AreBytes}
use Rattle.xfs_dirdata.specs.Bytes.{big_endian}
use Rattle.xfs_dirdata.proofs.Spelling.{total, Lie, parts-join, number-at, part-at}
use Rattle.xfs_dirbuild.specs.Filling.{all_entries}
use Rattle.xfs_dirbuild.specs.Blocks.{pairs_bytes, area_bytes, single_block}
use Rattle.xfs_dirbuild.proofs.BlockBytes.{part-all, pairs-part}
use Rattle.std.proofs.lemmas.Result.{IfOk-from_err}
use Rattle.xfs_dirbuild.proofs.single.put_single.Goals as goal

pub returns-clause-bytes : goal.returns-clause-bytes
unfolding single_block zeros
returns-clause-bytes c =
    let block = c.put_pairs.new.block in
    let pairs = c.args.pairs.now in
    let n = length c.args.pairs.now in
    let end = 4088 - 8 * length c.args.pairs.now in
    let entries = all_entries c.args.dir c.args.parent c.args.entries.now in
    let long : length c.put_pairs.new.block ≡ 4096 = omega arith in
    let all : AreBytes block = record { below = λ k. omega (arith, c.type_inv.block k) } in
    let area : part_of c.put_area.new.block 0 end ≡ area_bytes entries end = c.in_ok-put_area.ensures.bytes in
    let stands : part_of block 0 end ≡ area_bytes entries end = search rules in
    let parts : List (ℕ × List ℕ) =
    (end, area_bytes entries end) ∷ (8 * n, pairs_bytes pairs) ∷ (4, big_endian 4 n) ∷ (4, big_endian 4 0) ∷ [] in
    let whole : 4096 ≡ total parts = omega (arith, c.requires.fit) in
    let lie : Lie block 0 parts = (
      stands,
      (
        part-at block (0 + end) end (8 * n) (8 * n) (pairs_bytes pairs) (omega arith) refl (pairs-part block end pairs all (omega (arith, c.requires.fit)) c.put_pairs.ensures.pairs),
        (
          number-at block (0 + end + 8 * n) 4088 4 n all (omega arith) (omega (arith, c.requires.fit)) (search rules),
          (
            number-at block (0 + end + 8 * n + 4) 4092 4 0 all (omega arith) (omega (arith, c.requires.fit)) (search rules),
            tt,
          ),
        ),
      ),
    ) in
    sym (part-all block 4096 long) ∙ (ap (part_of block 0) whole ∙ parts-join block 0 parts lie)

pub returns-in_err-put_area : goal.returns-in_err-put_area
returns-in_err-put_area c = record {
  stands = IfOk-from_err c.from_residual.result _ c.from_residual.ensures.0;
  bytes = IfOk-from_err c.from_residual.result _ c.from_residual.ensures.0;
}

pub put_area-requires-clause-writable : goal.put_area-requires-clause-writable
put_area-requires-clause-writable c = c.requires.writable

pub put_area-requires-clause-dir : goal.put_area-requires-clause-dir
put_area-requires-clause-dir c = c.requires.dir

pub put_area-requires-clause-parent : goal.put_area-requires-clause-parent
put_area-requires-clause-parent c = c.requires.parent

pub put_area-requires-clause-long : goal.put_area-requires-clause-long
put_area-requires-clause-long c = c.requires.long

pub put_area-requires-clause-fit : goal.put_area-requires-clause-fit
put_area-requires-clause-fit c = omega (arith, c.requires.fit)

pub put_area-requires-clause-end : goal.put_area-requires-clause-end
put_area-requires-clause-end c = omega (arith, c.requires.long)

pub put_area-requires-clause-whole : goal.put_area-requires-clause-whole
put_area-requires-clause-whole c = omega (arith, c.requires.fit)

pub put_pairs-requires-clause-pointers : goal.put_pairs-requires-clause-pointers
put_pairs-requires-clause-pointers c = c.requires.pointers
