use Rattle.std.proofs.Common.{ℕ, ◌≡◌, ◌∙◌, ◌-◌, List, [], ◌∷◌, sym, subst, ap, Some, arith, inl, inr, length}
use Rattle.xfs_word.specs.Field.{part_of, zeros}
use Rattle.xfs_word.proofs.Written.{keeps, keeps_parts}
use Rattle.xfs_word.proofs.Register.{AreBytes}
use Rattle.xfs_dirdata.specs.Written.{placed_entries, written_area}
use Rattle.xfs_dirdata.specs.Bytes.{big_endian, data_bytes}
use Rattle.xfs_dirdata.proofs.Spelling.{Lie, parts-join, number-part}
use Rattle.xfs_dirbuild.specs.Blocks.{data_block}
use Rattle.xfs_dirbuild.proofs.BlockBytes.{blank-part, part-all}
use Rattle.xfs_dirbuild.proofs.filling.put_data_block.Goals as goal

pub returns-clause-block : goal.returns-clause-block
returns-clause-block c =
    let long : length c.put32.new.bytes ≡ 4096 = omega arith in
    record {
      magic = keeps _ _ _ _ c.put_data.ensures.others 0 4 (inl (omega arith)) ∙ (c.put32.ensures.put ∙ c.data_magic.ensures);
      long = omega arith;
      area = λ dir. c.put_data.ensures.read dir
          ∙ ap (λ (n : ℕ). Some (written_area dir (placed_entries c.args.first c.args.entries.now c.put_data.result) n)) long;
    }

pub returns-clause-bytes : goal.returns-clause-bytes
unfolding data_block
returns-clause-bytes c =
    let before = c.put32.new.bytes in
    let block = c.put_data.new.block in
    let es = placed_entries c.args.first c.args.entries.now c.put_data.result in
    let before_long : length c.put32.new.bytes ≡ 4096 = omega arith in
    let long : length c.put_data.new.block ≡ 4096 = omega arith in
    let all : AreBytes block = record { below = λ k. omega (arith, c.type_inv.block k) } in
    let stays = keeps_parts before block 48 (length before - 48) (omega arith) c.put_data.ensures.others in
    let parts : List (ℕ × List ℕ) = (4, big_endian 4 0x58444433) ∷ (44, zeros 44) ∷ (4048, data_bytes es 4096) ∷ [] in
    let lie : Lie block 0 parts = (
      number-part block 0 4 0x58444433 all (omega arith) (keeps _ _ _ _ c.put_data.ensures.others 0 4 (inl (omega arith)) ∙ (c.put32.ensures.put ∙ c.data_magic.ensures)),
      (
        stays 4 44 (inl (omega arith)) ∙ (c.put32.ensures.keeps_parts 4 44 (inr (omega arith)) ∙ blank-part 4096 c.args.block.now 4 44 c.requires.blank (omega arith)),
        (
          subst (λ (n : ℕ). part_of block 48 (n - 48) ≡ data_bytes es n) before_long c.put_data.ensures.bytes,
          tt,
        ),
      ),
    ) in
    sym (part-all block 4096 long) ∙ parts-join block 0 parts lie
