use Rattle.std.proofs.Common.{inl, lit≤, ◌∙◌, ℕ, ◌≤◌, sym, subst}
use Rattle.xfs_word.specs.Field.{field_of, part_of}
use Rattle.xfs_empty.proofs.Chained.{joined}
use Rattle.xfs_empty.proofs.superblock.put_counters.Goals as goal

pub returns : goal.returns
returns c =
    let b1 = c.put64.new.bytes in
    let b2 = c.put64-2.new.bytes in
    let b3 = c.put64-3.new.bytes in
    let b4 = c.put64-4.new.bytes in
    let b5 = c.put64-5.new.bytes in
    let b6 = c.put64-6.new.bytes in
    let b7 = c.put16.new.bytes in
    let b8 = c.put8.new.bytes in
    let b9 = c.put8-2.new.bytes in
    let keeps8 = c.put8-2.ensures.keeps in
    let keeps7 = joined field_of b7 b8 b9 178 1 179 1 2 (lit≤ tt) (lit≤ tt) (lit≤ tt) c.put8.ensures.keeps keeps8 in
    let keeps6 = joined field_of b6 b7 b9 176 2 178 2 4 (lit≤ tt) (lit≤ tt) (lit≤ tt) c.put16.ensures.keeps keeps7 in
    let keeps5 = joined field_of b5 b6 b9 168 8 176 4 12 (lit≤ tt) (lit≤ tt) (lit≤ tt) c.put64-6.ensures.keeps keeps6 in
    let keeps4 = joined field_of b4 b5 b9 160 8 168 12 20 (lit≤ tt) (lit≤ tt) (lit≤ tt) c.put64-5.ensures.keeps keeps5 in
    let keeps3 = joined field_of b3 b4 b9 152 8 160 20 28 (lit≤ tt) (lit≤ tt) (lit≤ tt) c.put64-4.ensures.keeps keeps4 in
    let keeps2 = joined field_of b2 b3 b9 144 8 152 28 36 (lit≤ tt) (lit≤ tt) (lit≤ tt) c.put64-3.ensures.keeps keeps3 in
    let keeps1 = joined field_of b1 b2 b9 136 8 144 36 44 (lit≤ tt) (lit≤ tt) (lit≤ tt) c.put64-2.ensures.keeps keeps2 in
    let keeps0 = joined field_of c.args.sector.now b1 b9 128 8 136 44 52 (lit≤ tt) (lit≤ tt) (lit≤ tt) c.put64.ensures.keeps keeps1 in
    let parts8 = c.put8-2.ensures.keeps_parts in
    let parts7 = joined part_of b7 b8 b9 178 1 179 1 2 (lit≤ tt) (lit≤ tt) (lit≤ tt) c.put8.ensures.keeps_parts parts8 in
    let parts6 = joined part_of b6 b7 b9 176 2 178 2 4 (lit≤ tt) (lit≤ tt) (lit≤ tt) c.put16.ensures.keeps_parts parts7 in
    let parts5 = joined part_of b5 b6 b9 168 8 176 4 12 (lit≤ tt) (lit≤ tt) (lit≤ tt) c.put64-6.ensures.keeps_parts parts6 in
    let parts4 = joined part_of b4 b5 b9 160 8 168 12 20 (lit≤ tt) (lit≤ tt) (lit≤ tt) c.put64-5.ensures.keeps_parts parts5 in
    let parts3 = joined part_of b3 b4 b9 152 8 160 20 28 (lit≤ tt) (lit≤ tt) (lit≤ tt) c.put64-4.ensures.keeps_parts parts4 in
    let parts2 = joined part_of b2 b3 b9 144 8 152 28 36 (lit≤ tt) (lit≤ tt) (lit≤ tt) c.put64-3.ensures.keeps_parts parts3 in
    let parts1 = joined part_of b1 b2 b9 136 8 144 36 44 (lit≤ tt) (lit≤ tt) (lit≤ tt) c.put64-2.ensures.keeps_parts parts2 in
    let parts0 = joined part_of c.args.sector.now b1 b9 128 8 136 44 52 (lit≤ tt) (lit≤ tt) (lit≤ tt) c.put64.ensures.keeps_parts parts1 in
    record {
      numbers = (
        keeps1 128 8 (inl (lit≤ tt)) ∙ c.put64.ensures.put,
        (
          keeps2 136 8 (inl (lit≤ tt)) ∙ c.put64-2.ensures.put,
          (
            keeps3 144 8 (inl (lit≤ tt)) ∙ c.put64-3.ensures.put,
            (
              keeps4 152 8 (inl (lit≤ tt)) ∙ c.put64-4.ensures.put,
              (
                keeps5 160 8 (inl (lit≤ tt)) ∙ c.put64-5.ensures.put,
                (
                  keeps6 168 8 (inl (lit≤ tt)) ∙ c.put64-6.ensures.put,
                  (
                    keeps7 176 2 (inl (lit≤ tt)) ∙ c.put16.ensures.put,
                    (
                      keeps8 178 1 (inl (lit≤ tt)) ∙ c.put8.ensures.put,
                      (
                        c.put8-2.ensures.put,
                        tt,
                      ),
                    ),
                  ),
                ),
              ),
            ),
          ),
        ),
      );
      keeps = keeps0;
      keeps_parts = parts0;
    }

pub put64-requires : goal.put64-requires
put64-requires c = subst (λ (n : ℕ). 136 ≤ n) (sym (c.requires.sector)) (lit≤ tt)

pub put64-requires-2 : goal.put64-requires-2
put64-requires-2 c = subst (λ (n : ℕ). 144 ≤ n) (sym (c.put64.auto.bytes ∙ c.requires.sector)) (lit≤ tt)

pub put64-requires-3 : goal.put64-requires-3
put64-requires-3 c = subst (λ (n : ℕ). 152 ≤ n) (sym (c.put64-2.auto.bytes ∙ (c.put64.auto.bytes ∙ c.requires.sector))) (lit≤ tt)

pub put64-requires-4 : goal.put64-requires-4
put64-requires-4 c = subst (λ (n : ℕ). 160 ≤ n) (sym (c.put64-3.auto.bytes ∙ (c.put64-2.auto.bytes ∙ (c.put64.auto.bytes ∙ c.requires.sector)))) (lit≤ tt)

pub put64-requires-5 : goal.put64-requires-5
put64-requires-5 c = subst (λ (n : ℕ). 168 ≤ n) (sym (c.put64-4.auto.bytes ∙ (c.put64-3.auto.bytes ∙ (c.put64-2.auto.bytes ∙ (c.put64.auto.bytes ∙ c.requires.sector))))) (lit≤ tt)

pub put64-requires-6 : goal.put64-requires-6
put64-requires-6 c = subst (λ (n : ℕ). 176 ≤ n) (sym (c.put64-5.auto.bytes ∙ (c.put64-4.auto.bytes ∙ (c.put64-3.auto.bytes ∙ (c.put64-2.auto.bytes ∙ (c.put64.auto.bytes ∙ c.requires.sector)))))) (lit≤ tt)

pub put16-requires : goal.put16-requires
put16-requires c = subst (λ (n : ℕ). 178 ≤ n) (sym (c.put64-6.auto.bytes ∙ (c.put64-5.auto.bytes ∙ (c.put64-4.auto.bytes ∙ (c.put64-3.auto.bytes ∙ (c.put64-2.auto.bytes ∙ (c.put64.auto.bytes ∙ c.requires.sector))))))) (lit≤ tt)

pub put8-requires : goal.put8-requires
put8-requires c = subst (λ (n : ℕ). 179 ≤ n) (sym (c.put16.auto.bytes ∙ (c.put64-6.auto.bytes ∙ (c.put64-5.auto.bytes ∙ (c.put64-4.auto.bytes ∙ (c.put64-3.auto.bytes ∙ (c.put64-2.auto.bytes ∙ (c.put64.auto.bytes ∙ c.requires.sector)))))))) (lit≤ tt)

pub put8-requires-2 : goal.put8-requires-2
put8-requires-2 c = subst (λ (n : ℕ). 180 ≤ n) (sym (c.put8.auto.bytes ∙ (c.put16.auto.bytes ∙ (c.put64-6.auto.bytes ∙ (c.put64-5.auto.bytes ∙ (c.put64-4.auto.bytes ∙ (c.put64-3.auto.bytes ∙ (c.put64-2.auto.bytes ∙ (c.put64.auto.bytes ∙ c.requires.sector))))))))) (lit≤ tt)
