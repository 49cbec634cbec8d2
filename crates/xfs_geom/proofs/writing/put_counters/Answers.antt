use Rattle.std.proofs.Common.{ℕ, ◌≤◌, lit≤, refl, sym, subst, ◌∙◌, inl}
use Rattle.xfs_word.specs.Field.{field_of, part_of}
use Rattle.xfs_geom.proofs.Chained.{next}
use Rattle.xfs_geom.proofs.writing.put_counters.Goals as goal

pub put64-requires : goal.put64-requires
put64-requires c = subst (λ (n : ℕ). 136 ≤ n) (sym c.requires.sector) (lit≤ tt)

pub put64-requires-2 : goal.put64-requires-2
put64-requires-2 c = subst (λ (n : ℕ). 144 ≤ n) (sym (c.put64.auto.bytes ∙ c.requires.sector)) (lit≤ tt)

pub put64-requires-3 : goal.put64-requires-3
put64-requires-3 c = subst (λ (n : ℕ). 152 ≤ n) (sym (c.put64-2.auto.bytes ∙ (c.put64.auto.bytes ∙ c.requires.sector))) (lit≤ tt)

pub put64-requires-4 : goal.put64-requires-4
put64-requires-4 c = subst (λ (n : ℕ). 160 ≤ n) (sym (c.put64-3.auto.bytes ∙ (c.put64-2.auto.bytes ∙ (c.put64.auto.bytes ∙ c.requires.sector)))) (lit≤ tt)

pub returns : goal.returns
returns c =
    let b0 = c.args.sector.now in
    let b1 = c.put64.new.bytes in
    let b2 = c.put64-2.new.bytes in
    let b3 = c.put64-3.new.bytes in
    let b4 = c.put64-4.new.bytes in
    let two = next field_of b0 b1 b2 128 8 136 8 refl c.put64.ensures.keeps c.put64-2.ensures.keeps in
    let three = next field_of b0 b2 b3 128 16 144 8 refl two c.put64-3.ensures.keeps in
    let two_parts = next part_of b0 b1 b2 128 8 136 8 refl c.put64.ensures.keeps_parts c.put64-2.ensures.keeps_parts in
    let three_parts = next part_of b0 b2 b3 128 16 144 8 refl two_parts c.put64-3.ensures.keeps_parts in
    record {
      icount = c.put64-4.ensures.keeps 128 8 (inl (lit≤ tt)) ∙ (c.put64-3.ensures.keeps 128 8 (inl (lit≤ tt)) ∙ (c.put64-2.ensures.keeps 128 8 (inl (lit≤ tt)) ∙ c.put64.ensures.put));
      ifree = c.put64-4.ensures.keeps 136 8 (inl (lit≤ tt)) ∙ (c.put64-3.ensures.keeps 136 8 (inl (lit≤ tt)) ∙ (c.put64-2.ensures.put));
      fdblocks = c.put64-4.ensures.keeps 144 8 (inl (lit≤ tt)) ∙ (c.put64-3.ensures.put);
      frextents = c.put64-4.ensures.put;
      keeps = next field_of b0 b3 b4 128 24 152 8 refl three c.put64-4.ensures.keeps;
      keeps_parts = next part_of b0 b3 b4 128 24 152 8 refl three_parts c.put64-4.ensures.keeps_parts;
    }
