-- Of one cycle there is one blank log.
use Rattle.std.proofs.Common.{◌≡◌, ℕ, zero, suc, ◌+◌, ◌*◌, ◌<◌, ◌≤◌, List, [], ◌∷◌, sym, ◌∙◌, arith}
use Rattle.xfs_disk.specs.Blocks.{Image, bytes_of_block}
use Rattle.xfs_word.specs.Field.{field_of, part_of}
use Rattle.xfs_geom.specs.Volumes.{Volume}
use Rattle.xfs_log.specs.BlankLog.{IsBlank, IsBlankData, IsBlankHeader, IsBlankRest}
use Rattle.xfs_render.specs.Logs.{IsBlankBlock, IsBlankLog}
use Rattle.xfs_settled.specs.Sectors.{AreSized}
use Rattle.xfs_settled.proofs.Headers.{part_sized}
use Rattle.xfs_settled.proofs.Sealing.{same_number, same_parts, whole_part}

module _ (a b : List ℕ) (sa : AreSized 512 a) (sb : AreSized 512 b) where
  number : (at w : ℕ) → at + w ≤ 512 → field_of a at w ≡ field_of b at w → part_of a at w ≡ part_of b at w
  number at w inside same = same_number a b 512 at w sa sb inside same

  whole : part_of a 0 512 ≡ part_of b 0 512 → a ≡ b
  whole same = sym (whole_part a 512 sa.size) ∙ same ∙ whole_part b 512 sb.size

  first_one : (cycle : ℕ) (uuid : List ℕ) → IsBlankHeader cycle uuid a → IsBlankHeader cycle uuid b → a ≡ b
  first_one cycle uuid ia ib = whole (same_parts a b 0 (4 ∷ 4 ∷ 4 ∷ 4 ∷ 8 ∷ 8 ∷ 4 ∷ 4 ∷ 4 ∷ 4 ∷ 252 ∷ 4 ∷ 16 ∷ 4 ∷ 188 ∷ []) (number 0 4 (omega arith) (ia.magicno ∙ sym ib.magicno), (number 4 4 (omega arith) (ia.cycle ∙ sym ib.cycle), (number 8 4 (omega arith) (ia.version ∙ sym ib.version), (number 12 4 (omega arith) (ia.len ∙ sym ib.len), (number 16 8 (omega arith) (ia.lsn ∙ sym ib.lsn), (number 24 8 (omega arith) (ia.tail_lsn ∙ sym ib.tail_lsn), (number 32 4 (omega arith) (ia.crc ∙ sym ib.crc), (number 36 4 (omega arith) (ia.prev_block ∙ sym ib.prev_block), (number 40 4 (omega arith) (ia.num_logops ∙ sym ib.num_logops), (number 44 4 (omega arith) (ia.cycle_data ∙ sym ib.cycle_data), (ia.zero_behind_cycle_data ∙ sym ib.zero_behind_cycle_data, (number 300 4 (omega arith) (ia.fmt ∙ sym ib.fmt), (ia.fs_uuid ∙ sym ib.fs_uuid, (number 320 4 (omega arith) (ia.size ∙ sym ib.size), (ia.zero_behind_size ∙ sym ib.zero_behind_size, tt))))))))))))))))

  second_one : (cycle : ℕ) → IsBlankData cycle a → IsBlankData cycle b → a ≡ b
  second_one cycle ia ib = whole (same_parts a b 0 (4 ∷ 4 ∷ 4 ∷ 4 ∷ 496 ∷ []) (number 0 4 (omega arith) (ia.transaction ∙ sym ib.transaction), (number 4 4 (omega arith) (ia.len ∙ sym ib.len), (number 8 4 (omega arith) (ia.operation ∙ sym ib.operation), (number 12 4 (omega arith) (ia.magic ∙ sym ib.magic), (ia.zero_behind ∙ sym ib.zero_behind, tt))))))

  other_one : (cycle : ℕ) → IsBlankRest cycle a → IsBlankRest cycle b → a ≡ b
  other_one cycle ia ib = whole (same_parts a b 0 (4 ∷ 508 ∷ []) (number 0 4 (omega arith) (ia.before ∙ sym ib.before), (ia.zero_behind ∙ sym ib.zero_behind, tt)))

  sector_one : (cycle place : ℕ) (uuid : List ℕ) → IsBlank cycle place uuid a → IsBlank cycle place uuid b → a ≡ b
  sector_one cycle zero uuid ia ib = first_one cycle uuid ia ib
  sector_one cycle (suc zero) uuid ia ib = second_one cycle ia ib
  sector_one cycle (suc (suc place)) uuid ia ib = other_one cycle ia ib

module _ (cycle : ℕ) (uuid : List ℕ) (number : ℕ) (a b : List ℕ) (sa : AreSized 4096 a) (sb : AreSized 4096 b) (ia : IsBlankBlock cycle uuid number a) (ib : IsBlankBlock cycle uuid number b) where
  at_sector : (k : ℕ) → k < 8 → part_of a (512 * k) 512 ≡ part_of b (512 * k) 512
  at_sector k low =
      sector_one (part_of a (512 * k) 512) (part_of b (512 * k) 512) (part_sized 4096 (512 * k) 512 a (omega (arith, low)) sa) (part_sized 4096 (512 * k) 512 b (omega (arith, low)) sb)
      cycle (8 * number + k) uuid (ia.each k low).blank (ib.each k low).blank

  block_one : a ≡ b
  block_one =
      sym (whole_part a 4096 sa.size)
      ∙ same_parts a b 0 (512 ∷ 512 ∷ 512 ∷ 512 ∷ 512 ∷ 512 ∷ 512 ∷ 512 ∷ []) (at_sector 0 (omega arith), (at_sector 1 (omega arith), (at_sector 2 (omega arith), (at_sector 3 (omega arith), (at_sector 4 (omega arith), (at_sector 5 (omega arith), (at_sector 6 (omega arith), (at_sector 7 (omega arith), tt))))))))
      ∙ whole_part b 4096 sb.size

pub log_one : (v : Volume) (cycle : ℕ) (a b : Image) → IsBlankLog v cycle a → IsBlankLog v cycle b → (i : ℕ) → i < v.logblocks
    → AreSized 4096 (bytes_of_block a (v.log + i)) → AreSized 4096 (bytes_of_block b (v.log + i)) → bytes_of_block a (v.log + i) ≡ bytes_of_block b (v.log + i)
log_one v cycle a b ia ib i low sa sb =
    block_one cycle v.uuid i (bytes_of_block a (v.log + i)) (bytes_of_block b (v.log + i)) sa sb (ia.blank i low) (ib.blank i low)
