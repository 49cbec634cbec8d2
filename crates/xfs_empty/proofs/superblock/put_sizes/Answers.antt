use Rattle.std.proofs.Common.{◌+◌, ◌-◌, ◌≤◌, arith, length, inl, inr, lit≤, ◌∙◌, ℕ, sym, subst}
use Rattle.xfs_word.specs.Field.{field_of, part_of}
use Rattle.xfs_empty.proofs.Chained.{joined}
use Rattle.xfs_empty.proofs.superblock.put_sizes.Goals as goal

pub returns : goal.returns
returns c =
    let n = length c.args.label.now in
    let short : n ≤ 20 = omega (arith, c.requires.label) in
    let inside : 108 + n ≤ 120 = omega (arith, c.requires.label) in
    let behind : 108 + n + (12 - n) ≤ 120 = omega (arith, c.requires.label) in
    let front : 100 + 8 ≤ 108 + n = omega arith in
    let none : 108 + n ≤ 108 + n = omega arith in
    let b1 = c.put16.new.bytes in
    let b2 = c.put16-2.new.bytes in
    let b3 = c.put16-3.new.bytes in
    let b4 = c.put16-4.new.bytes in
    let b5 = c.put_part.new.bytes in
    let b6 = c.put8.new.bytes in
    let b7 = c.put8-2.new.bytes in
    let b8 = c.put8-3.new.bytes in
    let b9 = c.put8-4.new.bytes in
    let b10 = c.put8-5.new.bytes in
    let b11 = c.put8-6.new.bytes in
    let b12 = c.put8-7.new.bytes in
    let b13 = c.put8-8.new.bytes in
    let keeps12 = c.put8-8.ensures.keeps in
    let keeps11 = joined field_of b11 b12 b13 126 1 127 1 2 (lit≤ tt) (lit≤ tt) (lit≤ tt) c.put8-7.ensures.keeps keeps12 in
    let keeps10 = joined field_of b10 b11 b13 125 1 126 2 3 (lit≤ tt) (lit≤ tt) (lit≤ tt) c.put8-6.ensures.keeps keeps11 in
    let keeps9 = joined field_of b9 b10 b13 124 1 125 3 4 (lit≤ tt) (lit≤ tt) (lit≤ tt) c.put8-5.ensures.keeps keeps10 in
    let keeps8 = joined field_of b8 b9 b13 123 1 124 4 5 (lit≤ tt) (lit≤ tt) (lit≤ tt) c.put8-4.ensures.keeps keeps9 in
    let keeps7 = joined field_of b7 b8 b13 122 1 123 5 6 (lit≤ tt) (lit≤ tt) (lit≤ tt) c.put8-3.ensures.keeps keeps8 in
    let keeps6 = joined field_of b6 b7 b13 121 1 122 6 7 (lit≤ tt) (lit≤ tt) (lit≤ tt) c.put8-2.ensures.keeps keeps7 in
    let keeps5 = joined field_of b5 b6 b13 120 1 121 7 8 (lit≤ tt) (lit≤ tt) (lit≤ tt) c.put8.ensures.keeps keeps6 in
    let keeps4 = joined field_of b4 b5 b13 108 n 120 8 20 short (lit≤ tt) (lit≤ tt) c.put_part.ensures.keeps keeps5 in
    let keeps3 = joined field_of b3 b4 b13 106 2 108 20 22 (lit≤ tt) (lit≤ tt) (lit≤ tt) c.put16-4.ensures.keeps keeps4 in
    let keeps2 = joined field_of b2 b3 b13 104 2 106 22 24 (lit≤ tt) (lit≤ tt) (lit≤ tt) c.put16-3.ensures.keeps keeps3 in
    let keeps1 = joined field_of b1 b2 b13 102 2 104 24 26 (lit≤ tt) (lit≤ tt) (lit≤ tt) c.put16-2.ensures.keeps keeps2 in
    let keeps0 = joined field_of c.args.sector.now b1 b13 100 2 102 26 28 (lit≤ tt) (lit≤ tt) (lit≤ tt) c.put16.ensures.keeps keeps1 in
    let parts12 = c.put8-8.ensures.keeps_parts in
    let parts11 = joined part_of b11 b12 b13 126 1 127 1 2 (lit≤ tt) (lit≤ tt) (lit≤ tt) c.put8-7.ensures.keeps_parts parts12 in
    let parts10 = joined part_of b10 b11 b13 125 1 126 2 3 (lit≤ tt) (lit≤ tt) (lit≤ tt) c.put8-6.ensures.keeps_parts parts11 in
    let parts9 = joined part_of b9 b10 b13 124 1 125 3 4 (lit≤ tt) (lit≤ tt) (lit≤ tt) c.put8-5.ensures.keeps_parts parts10 in
    let parts8 = joined part_of b8 b9 b13 123 1 124 4 5 (lit≤ tt) (lit≤ tt) (lit≤ tt) c.put8-4.ensures.keeps_parts parts9 in
    let parts7 = joined part_of b7 b8 b13 122 1 123 5 6 (lit≤ tt) (lit≤ tt) (lit≤ tt) c.put8-3.ensures.keeps_parts parts8 in
    let parts6 = joined part_of b6 b7 b13 121 1 122 6 7 (lit≤ tt) (lit≤ tt) (lit≤ tt) c.put8-2.ensures.keeps_parts parts7 in
    let parts5 = joined part_of b5 b6 b13 120 1 121 7 8 (lit≤ tt) (lit≤ tt) (lit≤ tt) c.put8.ensures.keeps_parts parts6 in
    let parts4 = joined part_of b4 b5 b13 108 n 120 8 20 short (lit≤ tt) (lit≤ tt) c.put_part.ensures.keeps_parts parts5 in
    let parts3 = joined part_of b3 b4 b13 106 2 108 20 22 (lit≤ tt) (lit≤ tt) (lit≤ tt) c.put16-4.ensures.keeps_parts parts4 in
    let parts2 = joined part_of b2 b3 b13 104 2 106 22 24 (lit≤ tt) (lit≤ tt) (lit≤ tt) c.put16-3.ensures.keeps_parts parts3 in
    let parts1 = joined part_of b1 b2 b13 102 2 104 24 26 (lit≤ tt) (lit≤ tt) (lit≤ tt) c.put16-2.ensures.keeps_parts parts2 in
    let parts0 = joined part_of c.args.sector.now b1 b13 100 2 102 26 28 (lit≤ tt) (lit≤ tt) (lit≤ tt) c.put16.ensures.keeps_parts parts1 in
    let front3 = c.put16-4.ensures.keeps_parts in
    let front2 = joined part_of b2 b3 b4 104 2 106 2 4 (lit≤ tt) (lit≤ tt) (lit≤ tt) c.put16-3.ensures.keeps_parts front3 in
    let front1 = joined part_of b1 b2 b4 102 2 104 4 6 (lit≤ tt) (lit≤ tt) (lit≤ tt) c.put16-2.ensures.keeps_parts front2 in
    let front0 = joined part_of c.args.sector.now b1 b4 100 2 102 6 8 (lit≤ tt) (lit≤ tt) (lit≤ tt) c.put16.ensures.keeps_parts front1 in
    record {
      numbers = (
        keeps1 100 2 (inl (lit≤ tt)) ∙ c.put16.ensures.put,
        (
          keeps2 102 2 (inl (lit≤ tt)) ∙ c.put16-2.ensures.put,
          (
            keeps3 104 2 (inl (lit≤ tt)) ∙ c.put16-3.ensures.put,
            (
              keeps4 106 2 (inl (lit≤ tt)) ∙ c.put16-4.ensures.put,
              (
                keeps6 120 1 (inl (lit≤ tt)) ∙ c.put8.ensures.put,
                (
                  keeps7 121 1 (inl (lit≤ tt)) ∙ c.put8-2.ensures.put,
                  (
                    keeps8 122 1 (inl (lit≤ tt)) ∙ c.put8-3.ensures.put,
                    (
                      keeps9 123 1 (inl (lit≤ tt)) ∙ c.put8-4.ensures.put,
                      (
                        keeps10 124 1 (inl (lit≤ tt)) ∙ c.put8-5.ensures.put,
                        (
                          keeps11 125 1 (inl (lit≤ tt)) ∙ c.put8-6.ensures.put,
                          (
                            keeps12 126 1 (inl (lit≤ tt)) ∙ c.put8-7.ensures.put,
                            (
                              c.put8-8.ensures.put,
                              tt,
                            ),
                          ),
                        ),
                      ),
                    ),
                  ),
                ),
              ),
            ),
          ),
        ),
      );
      label = record {
        text = parts5 108 n (inl inside) ∙ c.put_part.ensures.put;
        zero' =
            parts5 (108 + n) (12 - n) (inl behind)
            ∙ (c.put_part.ensures.keeps_parts (108 + n) (12 - n) (inr none) ∙ (front0 (108 + n) (12 - n) (inr front) ∙ c.requires.blank));
      };
      keeps = keeps0;
      keeps_parts = parts0;
    }

pub put16-requires : goal.put16-requires
put16-requires c = subst (λ (n : ℕ). 102 ≤ n) (sym (c.requires.sector)) (lit≤ tt)

pub put16-requires-2 : goal.put16-requires-2
put16-requires-2 c = subst (λ (n : ℕ). 104 ≤ n) (sym (c.put16.auto.bytes ∙ c.requires.sector)) (lit≤ tt)

pub put16-requires-3 : goal.put16-requires-3
put16-requires-3 c = subst (λ (n : ℕ). 106 ≤ n) (sym (c.put16-2.auto.bytes ∙ (c.put16.auto.bytes ∙ c.requires.sector))) (lit≤ tt)

pub put16-requires-4 : goal.put16-requires-4
put16-requires-4 c = subst (λ (n : ℕ). 108 ≤ n) (sym (c.put16-3.auto.bytes ∙ (c.put16-2.auto.bytes ∙ (c.put16.auto.bytes ∙ c.requires.sector)))) (lit≤ tt)

pub put8-requires : goal.put8-requires
put8-requires c = subst (λ (n : ℕ). 121 ≤ n) (sym (c.put_part.auto.bytes ∙ (c.put16-4.auto.bytes ∙ (c.put16-3.auto.bytes ∙ (c.put16-2.auto.bytes ∙ (c.put16.auto.bytes ∙ c.requires.sector)))))) (lit≤ tt)

pub put8-requires-2 : goal.put8-requires-2
put8-requires-2 c = subst (λ (n : ℕ). 122 ≤ n) (sym (c.put8.auto.bytes ∙ (c.put_part.auto.bytes ∙ (c.put16-4.auto.bytes ∙ (c.put16-3.auto.bytes ∙ (c.put16-2.auto.bytes ∙ (c.put16.auto.bytes ∙ c.requires.sector))))))) (lit≤ tt)

pub put8-requires-3 : goal.put8-requires-3
put8-requires-3 c = subst (λ (n : ℕ). 123 ≤ n) (sym (c.put8-2.auto.bytes ∙ (c.put8.auto.bytes ∙ (c.put_part.auto.bytes ∙ (c.put16-4.auto.bytes ∙ (c.put16-3.auto.bytes ∙ (c.put16-2.auto.bytes ∙ (c.put16.auto.bytes ∙ c.requires.sector)))))))) (lit≤ tt)

pub put8-requires-4 : goal.put8-requires-4
put8-requires-4 c = subst (λ (n : ℕ). 124 ≤ n) (sym (c.put8-3.auto.bytes ∙ (c.put8-2.auto.bytes ∙ (c.put8.auto.bytes ∙ (c.put_part.auto.bytes ∙ (c.put16-4.auto.bytes ∙ (c.put16-3.auto.bytes ∙ (c.put16-2.auto.bytes ∙ (c.put16.auto.bytes ∙ c.requires.sector))))))))) (lit≤ tt)

pub put8-requires-5 : goal.put8-requires-5
put8-requires-5 c = subst (λ (n : ℕ). 125 ≤ n) (sym (c.put8-4.auto.bytes ∙ (c.put8-3.auto.bytes ∙ (c.put8-2.auto.bytes ∙ (c.put8.auto.bytes ∙ (c.put_part.auto.bytes ∙ (c.put16-4.auto.bytes ∙ (c.put16-3.auto.bytes ∙ (c.put16-2.auto.bytes ∙ (c.put16.auto.bytes ∙ c.requires.sector)))))))))) (lit≤ tt)

pub put8-requires-6 : goal.put8-requires-6
put8-requires-6 c = subst (λ (n : ℕ). 126 ≤ n) (sym (c.put8-5.auto.bytes ∙ (c.put8-4.auto.bytes ∙ (c.put8-3.auto.bytes ∙ (c.put8-2.auto.bytes ∙ (c.put8.auto.bytes ∙ (c.put_part.auto.bytes ∙ (c.put16-4.auto.bytes ∙ (c.put16-3.auto.bytes ∙ (c.put16-2.auto.bytes ∙ (c.put16.auto.bytes ∙ c.requires.sector))))))))))) (lit≤ tt)

pub put8-requires-7 : goal.put8-requires-7
put8-requires-7 c = subst (λ (n : ℕ). 127 ≤ n) (sym (c.put8-6.auto.bytes ∙ (c.put8-5.auto.bytes ∙ (c.put8-4.auto.bytes ∙ (c.put8-3.auto.bytes ∙ (c.put8-2.auto.bytes ∙ (c.put8.auto.bytes ∙ (c.put_part.auto.bytes ∙ (c.put16-4.auto.bytes ∙ (c.put16-3.auto.bytes ∙ (c.put16-2.auto.bytes ∙ (c.put16.auto.bytes ∙ c.requires.sector)))))))))))) (lit≤ tt)

pub put8-requires-8 : goal.put8-requires-8
put8-requires-8 c = subst (λ (n : ℕ). 128 ≤ n) (sym (c.put8-7.auto.bytes ∙ (c.put8-6.auto.bytes ∙ (c.put8-5.auto.bytes ∙ (c.put8-4.auto.bytes ∙ (c.put8-3.auto.bytes ∙ (c.put8-2.auto.bytes ∙ (c.put8.auto.bytes ∙ (c.put_part.auto.bytes ∙ (c.put16-4.auto.bytes ∙ (c.put16-3.auto.bytes ∙ (c.put16-2.auto.bytes ∙ (c.put16.auto.bytes ∙ c.requires.sector))))))))))))) (lit≤ tt)
