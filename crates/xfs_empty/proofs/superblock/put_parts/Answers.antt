use Rattle.std.proofs.Common.{inl, lit≤, ◌∙◌, ℕ, ◌≤◌, sym, subst}
use Rattle.xfs_word.specs.Field.{field_of, part_of}
use Rattle.xfs_empty.proofs.Chained.{joined}
use Rattle.xfs_empty.proofs.superblock.put_parts.Goals as goal

pub returns : goal.returns
returns c =
    let b1 = c.put64.new.bytes in
    let b2 = c.put64-2.new.bytes in
    let b3 = c.put64-3.new.bytes in
    let b4 = c.put32.new.bytes in
    let b5 = c.put32-2.new.bytes in
    let b6 = c.put32-3.new.bytes in
    let b7 = c.put32-4.new.bytes in
    let b8 = c.put32-5.new.bytes in
    let keeps7 = c.put32-5.ensures.keeps in
    let keeps6 = joined field_of b6 b7 b8 92 4 96 4 8 (lit≤ tt) (lit≤ tt) (lit≤ tt) c.put32-4.ensures.keeps keeps7 in
    let keeps5 = joined field_of b5 b6 b8 88 4 92 8 12 (lit≤ tt) (lit≤ tt) (lit≤ tt) c.put32-3.ensures.keeps keeps6 in
    let keeps4 = joined field_of b4 b5 b8 84 4 88 12 16 (lit≤ tt) (lit≤ tt) (lit≤ tt) c.put32-2.ensures.keeps keeps5 in
    let keeps3 = joined field_of b3 b4 b8 80 4 84 16 20 (lit≤ tt) (lit≤ tt) (lit≤ tt) c.put32.ensures.keeps keeps4 in
    let keeps2 = joined field_of b2 b3 b8 72 8 80 20 28 (lit≤ tt) (lit≤ tt) (lit≤ tt) c.put64-3.ensures.keeps keeps3 in
    let keeps1 = joined field_of b1 b2 b8 64 8 72 28 36 (lit≤ tt) (lit≤ tt) (lit≤ tt) c.put64-2.ensures.keeps keeps2 in
    let keeps0 = joined field_of c.args.sector.now b1 b8 56 8 64 36 44 (lit≤ tt) (lit≤ tt) (lit≤ tt) c.put64.ensures.keeps keeps1 in
    let parts7 = c.put32-5.ensures.keeps_parts in
    let parts6 = joined part_of b6 b7 b8 92 4 96 4 8 (lit≤ tt) (lit≤ tt) (lit≤ tt) c.put32-4.ensures.keeps_parts parts7 in
    let parts5 = joined part_of b5 b6 b8 88 4 92 8 12 (lit≤ tt) (lit≤ tt) (lit≤ tt) c.put32-3.ensures.keeps_parts parts6 in
    let parts4 = joined part_of b4 b5 b8 84 4 88 12 16 (lit≤ tt) (lit≤ tt) (lit≤ tt) c.put32-2.ensures.keeps_parts parts5 in
    let parts3 = joined part_of b3 b4 b8 80 4 84 16 20 (lit≤ tt) (lit≤ tt) (lit≤ tt) c.put32.ensures.keeps_parts parts4 in
    let parts2 = joined part_of b2 b3 b8 72 8 80 20 28 (lit≤ tt) (lit≤ tt) (lit≤ tt) c.put64-3.ensures.keeps_parts parts3 in
    let parts1 = joined part_of b1 b2 b8 64 8 72 28 36 (lit≤ tt) (lit≤ tt) (lit≤ tt) c.put64-2.ensures.keeps_parts parts2 in
    let parts0 = joined part_of c.args.sector.now b1 b8 56 8 64 36 44 (lit≤ tt) (lit≤ tt) (lit≤ tt) c.put64.ensures.keeps_parts parts1 in
    record {
      numbers = (
        keeps1 56 8 (inl (lit≤ tt)) ∙ c.put64.ensures.put,
        (
          keeps2 64 8 (inl (lit≤ tt)) ∙ c.put64-2.ensures.put,
          (
            keeps3 72 8 (inl (lit≤ tt)) ∙ c.put64-3.ensures.put,
            (
              keeps4 80 4 (inl (lit≤ tt)) ∙ c.put32.ensures.put,
              (
                keeps5 84 4 (inl (lit≤ tt)) ∙ c.put32-2.ensures.put,
                (
                  keeps6 88 4 (inl (lit≤ tt)) ∙ c.put32-3.ensures.put,
                  (
                    keeps7 92 4 (inl (lit≤ tt)) ∙ c.put32-4.ensures.put,
                    (
                      c.put32-5.ensures.put,
                      tt,
                    ),
                  ),
                ),
              ),
            ),
          ),
        ),
      );
      keeps = keeps0;
      keeps_parts = parts0;
    }

pub put64-requires : goal.put64-requires
put64-requires c = subst (λ (n : ℕ). 64 ≤ n) (sym (c.requires.sector)) (lit≤ tt)

pub put64-requires-2 : goal.put64-requires-2
put64-requires-2 c = subst (λ (n : ℕ). 72 ≤ n) (sym (c.put64.auto.bytes ∙ c.requires.sector)) (lit≤ tt)

pub put64-requires-3 : goal.put64-requires-3
put64-requires-3 c = subst (λ (n : ℕ). 80 ≤ n) (sym (c.put64-2.auto.bytes ∙ (c.put64.auto.bytes ∙ c.requires.sector))) (lit≤ tt)

pub put32-requires : goal.put32-requires
put32-requires c = subst (λ (n : ℕ). 84 ≤ n) (sym (c.put64-3.auto.bytes ∙ (c.put64-2.auto.bytes ∙ (c.put64.auto.bytes ∙ c.requires.sector)))) (lit≤ tt)

pub put32-requires-2 : goal.put32-requires-2
put32-requires-2 c = subst (λ (n : ℕ). 88 ≤ n) (sym (c.put32.auto.bytes ∙ (c.put64-3.auto.bytes ∙ (c.put64-2.auto.bytes ∙ (c.put64.auto.bytes ∙ c.requires.sector))))) (lit≤ tt)

pub put32-requires-3 : goal.put32-requires-3
put32-requires-3 c = subst (λ (n : ℕ). 92 ≤ n) (sym (c.put32-2.auto.bytes ∙ (c.put32.auto.bytes ∙ (c.put64-3.auto.bytes ∙ (c.put64-2.auto.bytes ∙ (c.put64.auto.bytes ∙ c.requires.sector)))))) (lit≤ tt)

pub put32-requires-4 : goal.put32-requires-4
put32-requires-4 c = subst (λ (n : ℕ). 96 ≤ n) (sym (c.put32-3.auto.bytes ∙ (c.put32-2.auto.bytes ∙ (c.put32.auto.bytes ∙ (c.put64-3.auto.bytes ∙ (c.put64-2.auto.bytes ∙ (c.put64.auto.bytes ∙ c.requires.sector))))))) (lit≤ tt)

pub put32-requires-5 : goal.put32-requires-5
put32-requires-5 c = subst (λ (n : ℕ). 100 ≤ n) (sym (c.put32-4.auto.bytes ∙ (c.put32-3.auto.bytes ∙ (c.put32-2.auto.bytes ∙ (c.put32.auto.bytes ∙ (c.put64-3.auto.bytes ∙ (c.put64-2.auto.bytes ∙ (c.put64.auto.bytes ∙ c.requires.sector)))))))) (lit≤ tt)
