use Rattle.std.proofs.Common.{◌≡◌, ◌∙◌, ℕ, List, sym, inl, inr, subst, arith, Some}
use Rattle.xfs_word.specs.Crc.{little_field_of}
use Rattle.xfs_word.specs.Field.{part_of, IsZero}
use Rattle.xfs_geom.specs.Volumes.{volume_of}
use Rattle.xfs_heads.specs.FreeSpace.{agf_of}
use Rattle.xfs_heads.specs.Inodes.{agi_of}
use Rattle.xfs_render.specs.Groups.{due_agf, due_agi}
use Rattle.xfs_render.proofs.header_block.put_headers.Goals as goal

pub returns : goal.returns
returns c =
    let v = volume_of c.args.g.now in
    let ag = c.args.ag in
    let p = c.args.placed.now in
    let list = c.put_free_list.ensures.keeps in
    let inodes = c.put_inodes.ensures.keeps in
    let space = c.put_free_space.ensures.keeps in
    let super = c.put_sector.ensures.keeps in
    let agf_stays = list 512 512 (inl (omega arith)) ∙ inodes 512 512 (inl (omega arith)) in
    let agi_stays = list 1024 512 (inl (omega arith)) in
    record {
      size = omega arith;
      super' = list 0 512 (inl (omega arith)) ∙ inodes 0 512 (inl (omega arith)) ∙ space 0 512 (inl (omega arith)) ∙ c.put_sector.ensures.put;
      agf = subst (λ (s : List ℕ). agf_of v ag s ≡ Some (record (due_agf v ag p) { crc = little_field_of s 216 4 }))
          (sym agf_stays) c.put_free_space.ensures.agf;
      agf_zero_before_lsn = subst (λ (s : List ℕ). IsZero s 84 124) (sym agf_stays) c.put_free_space.ensures.zero_before_lsn;
      agf_zero_behind_crc = subst (λ (s : List ℕ). IsZero s 220 292) (sym agf_stays) c.put_free_space.ensures.zero_behind_crc;
      agi = subst (λ (s : List ℕ). agi_of v ag s ≡ Some (record (due_agi v ag c.args.inodes.now p) { crc = little_field_of s 312 4 }))
          (sym agi_stays) c.put_inodes.ensures.agi;
      agi_zero_behind_crc = subst (λ (s : List ℕ). IsZero s 316 4) (sym agi_stays) c.put_inodes.ensures.zero_behind_crc;
      agi_zero_behind_levels = subst (λ (s : List ℕ). IsZero s 336 176) (sym agi_stays) c.put_inodes.ensures.zero_behind_levels;
      agfl = c.put_free_list.ensures.agfl;
      agfl_entries = c.put_free_list.ensures.entries;
      agfl_lsn = c.put_free_list.ensures.lsn;
      rest = list 2048 2048 (inr (omega arith)) ∙ inodes 2048 2048 (inr (omega arith)) ∙ space 2048 2048 (inr (omega arith))
          ∙ super 2048 2048 (inr (omega arith)) ∙ subst (λ (w : ℕ). part_of c.put_part.new.bytes 2048 w ≡ c.part.result.now) c.part.ensures.long c.put_part.ensures.put ∙ c.part.ensures.value;
    }

pub put_free_space-requires-clause-group : goal.put_free_space-requires-clause-group
put_free_space-requires-clause-group c = c.requires.group

pub put_free_space-requires-clause-sound : goal.put_free_space-requires-clause-sound
put_free_space-requires-clause-sound c = c.requires.sound

pub put_inodes-requires-clause-group : goal.put_inodes-requires-clause-group
put_inodes-requires-clause-group c = c.requires.group

pub put_inodes-requires-clause-sound : goal.put_inodes-requires-clause-sound
put_inodes-requires-clause-sound c = c.requires.sound

pub put_free_list-requires-clause-group : goal.put_free_list-requires-clause-group
put_free_list-requires-clause-group c = c.requires.group

pub put_free_list-requires-clause-sound : goal.put_free_list-requires-clause-sound
put_free_list-requires-clause-sound c = c.requires.sound

pub put_sector-requires-clause-sector : goal.put_sector-requires-clause-sector
put_sector-requires-clause-sector c = c.requires.sector
