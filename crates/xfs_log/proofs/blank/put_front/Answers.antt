use Rattle.std.proofs.Common.{◌≡◌, ◌*◌, ◌%◌, ◌^◌, inl, refl, lit≤, ◌∙◌, arith}
use Rattle.xfs_word.specs.Field.{field_of, part_of}
use Rattle.xfs_heads.proofs.Chained.{next}
use Rattle.xfs_log.proofs.blank.put_front.Goals as goal

pub returns : goal.returns
returns c =
    let whole : c.args.cycle * 2 ^ 32 % 2 ^ 64 ≡ c.args.cycle * 2 ^ 32 = omega arith in
    let b1 = c.put32.new.bytes in
    let b2 = c.put32-2.new.bytes in
    let b3 = c.put32-3.new.bytes in
    let b4 = c.put32-4.new.bytes in
    let b5 = c.put64.new.bytes in
    let b6 = c.put64-2.new.bytes in
    let b7 = c.put32-5.new.bytes in
    let b8 = c.put32-6.new.bytes in
    let b9 = c.put32-7.new.bytes in
    let b10 = c.put32-8.new.bytes in
    let keeps9 = c.put32-8.ensures.keeps in
    let keeps8 = next field_of b8 b9 b10 40 4 44 4 refl c.put32-7.ensures.keeps keeps9 in
    let keeps7 = next field_of b7 b8 b10 36 4 40 8 refl c.put32-6.ensures.keeps keeps8 in
    let keeps6 = next field_of b6 b7 b10 32 4 36 12 refl c.put32-5.ensures.keeps keeps7 in
    let keeps5 = next field_of b5 b6 b10 24 8 32 16 refl c.put64-2.ensures.keeps keeps6 in
    let keeps4 = next field_of b4 b5 b10 16 8 24 24 refl c.put64.ensures.keeps keeps5 in
    let keeps3 = next field_of b3 b4 b10 12 4 16 32 refl c.put32-4.ensures.keeps keeps4 in
    let keeps2 = next field_of b2 b3 b10 8 4 12 36 refl c.put32-3.ensures.keeps keeps3 in
    let keeps1 = next field_of b1 b2 b10 4 4 8 40 refl c.put32-2.ensures.keeps keeps2 in
    let parts9 = c.put32-8.ensures.keeps_parts in
    let parts8 = next part_of b8 b9 b10 40 4 44 4 refl c.put32-7.ensures.keeps_parts parts9 in
    let parts7 = next part_of b7 b8 b10 36 4 40 8 refl c.put32-6.ensures.keeps_parts parts8 in
    let parts6 = next part_of b6 b7 b10 32 4 36 12 refl c.put32-5.ensures.keeps_parts parts7 in
    let parts5 = next part_of b5 b6 b10 24 8 32 16 refl c.put64-2.ensures.keeps_parts parts6 in
    let parts4 = next part_of b4 b5 b10 16 8 24 24 refl c.put64.ensures.keeps_parts parts5 in
    let parts3 = next part_of b3 b4 b10 12 4 16 32 refl c.put32-4.ensures.keeps_parts parts4 in
    let parts2 = next part_of b2 b3 b10 8 4 12 36 refl c.put32-3.ensures.keeps_parts parts3 in
    let parts1 = next part_of b1 b2 b10 4 4 8 40 refl c.put32-2.ensures.keeps_parts parts2 in
    let parts0 = next part_of c.args.sector.now b1 b10 0 4 4 44 refl c.put32.ensures.keeps_parts parts1 in
    record {
      magicno = keeps1 0 4 (inl (lit≤ tt)) ∙ c.put32.ensures.put;
      cycle = keeps2 4 4 (inl (lit≤ tt)) ∙ c.put32-2.ensures.put;
      version = keeps3 8 4 (inl (lit≤ tt)) ∙ c.put32-3.ensures.put;
      len = keeps4 12 4 (inl (lit≤ tt)) ∙ c.put32-4.ensures.put;
      lsn = keeps5 16 8 (inl (lit≤ tt)) ∙ c.put64.ensures.put ∙ whole;
      tail_lsn = keeps6 24 8 (inl (lit≤ tt)) ∙ c.put64-2.ensures.put ∙ whole;
      crc = keeps7 32 4 (inl (lit≤ tt)) ∙ c.put32-5.ensures.put;
      prev_block = keeps8 36 4 (inl (lit≤ tt)) ∙ c.put32-6.ensures.put;
      num_logops = keeps9 40 4 (inl (lit≤ tt)) ∙ c.put32-7.ensures.put;
      cycle_data = c.put32-8.ensures.put;
      keeps_parts = parts0;
    }
