use Rattle.std.proofs.Common.{inl, lit≤, ◌∙◌, ℕ, ◌≤◌, sym, subst}
use Rattle.xfs_word.specs.Field.{field_of, part_of}
use Rattle.xfs_empty.proofs.Chained.{joined}
use Rattle.xfs_empty.proofs.superblock.put_features.Goals as goal

pub returns : goal.returns
returns c =
    let b1 = c.put32.new.bytes in
    let b2 = c.put32-2.new.bytes in
    let b3 = c.put32-3.new.bytes in
    let b4 = c.put8.new.bytes in
    let b5 = c.put8-2.new.bytes in
    let b6 = c.put16.new.bytes in
    let b7 = c.put32-4.new.bytes in
    let b8 = c.put32-5.new.bytes in
    let b9 = c.put32-6.new.bytes in
    let b10 = c.put32-7.new.bytes in
    let b11 = c.put32-8.new.bytes in
    let b12 = c.put32-9.new.bytes in
    let b13 = c.put32-10.new.bytes in
    let b14 = c.put32-11.new.bytes in
    let b15 = c.put64.new.bytes in
    let b16 = c.put64-2.new.bytes in
    let b17 = c.put_part.new.bytes in
    let keeps16 = c.put_part.ensures.keeps in
    let keeps15 = joined field_of b15 b16 b17 240 8 248 16 24 (lit≤ tt) (lit≤ tt) (lit≤ tt) c.put64-2.ensures.keeps keeps16 in
    let keeps14 = joined field_of b14 b15 b17 232 8 240 24 32 (lit≤ tt) (lit≤ tt) (lit≤ tt) c.put64.ensures.keeps keeps15 in
    let keeps13 = joined field_of b13 b14 b17 228 4 232 32 36 (lit≤ tt) (lit≤ tt) (lit≤ tt) c.put32-11.ensures.keeps keeps14 in
    let keeps12 = joined field_of b12 b13 b17 220 4 228 36 44 (lit≤ tt) (lit≤ tt) (lit≤ tt) c.put32-10.ensures.keeps keeps13 in
    let keeps11 = joined field_of b11 b12 b17 216 4 220 44 48 (lit≤ tt) (lit≤ tt) (lit≤ tt) c.put32-9.ensures.keeps keeps12 in
    let keeps10 = joined field_of b10 b11 b17 212 4 216 48 52 (lit≤ tt) (lit≤ tt) (lit≤ tt) c.put32-8.ensures.keeps keeps11 in
    let keeps9 = joined field_of b9 b10 b17 208 4 212 52 56 (lit≤ tt) (lit≤ tt) (lit≤ tt) c.put32-7.ensures.keeps keeps10 in
    let keeps8 = joined field_of b8 b9 b17 204 4 208 56 60 (lit≤ tt) (lit≤ tt) (lit≤ tt) c.put32-6.ensures.keeps keeps9 in
    let keeps7 = joined field_of b7 b8 b17 200 4 204 60 64 (lit≤ tt) (lit≤ tt) (lit≤ tt) c.put32-5.ensures.keeps keeps8 in
    let keeps6 = joined field_of b6 b7 b17 196 4 200 64 68 (lit≤ tt) (lit≤ tt) (lit≤ tt) c.put32-4.ensures.keeps keeps7 in
    let keeps5 = joined field_of b5 b6 b17 194 2 196 68 70 (lit≤ tt) (lit≤ tt) (lit≤ tt) c.put16.ensures.keeps keeps6 in
    let keeps4 = joined field_of b4 b5 b17 193 1 194 70 71 (lit≤ tt) (lit≤ tt) (lit≤ tt) c.put8-2.ensures.keeps keeps5 in
    let keeps3 = joined field_of b3 b4 b17 192 1 193 71 72 (lit≤ tt) (lit≤ tt) (lit≤ tt) c.put8.ensures.keeps keeps4 in
    let keeps2 = joined field_of b2 b3 b17 188 4 192 72 76 (lit≤ tt) (lit≤ tt) (lit≤ tt) c.put32-3.ensures.keeps keeps3 in
    let keeps1 = joined field_of b1 b2 b17 184 4 188 76 80 (lit≤ tt) (lit≤ tt) (lit≤ tt) c.put32-2.ensures.keeps keeps2 in
    let keeps0 = joined field_of c.args.sector.now b1 b17 180 4 184 80 84 (lit≤ tt) (lit≤ tt) (lit≤ tt) c.put32.ensures.keeps keeps1 in
    let parts16 = c.put_part.ensures.keeps_parts in
    let parts15 = joined part_of b15 b16 b17 240 8 248 16 24 (lit≤ tt) (lit≤ tt) (lit≤ tt) c.put64-2.ensures.keeps_parts parts16 in
    let parts14 = joined part_of b14 b15 b17 232 8 240 24 32 (lit≤ tt) (lit≤ tt) (lit≤ tt) c.put64.ensures.keeps_parts parts15 in
    let parts13 = joined part_of b13 b14 b17 228 4 232 32 36 (lit≤ tt) (lit≤ tt) (lit≤ tt) c.put32-11.ensures.keeps_parts parts14 in
    let parts12 = joined part_of b12 b13 b17 220 4 228 36 44 (lit≤ tt) (lit≤ tt) (lit≤ tt) c.put32-10.ensures.keeps_parts parts13 in
    let parts11 = joined part_of b11 b12 b17 216 4 220 44 48 (lit≤ tt) (lit≤ tt) (lit≤ tt) c.put32-9.ensures.keeps_parts parts12 in
    let parts10 = joined part_of b10 b11 b17 212 4 216 48 52 (lit≤ tt) (lit≤ tt) (lit≤ tt) c.put32-8.ensures.keeps_parts parts11 in
    let parts9 = joined part_of b9 b10 b17 208 4 212 52 56 (lit≤ tt) (lit≤ tt) (lit≤ tt) c.put32-7.ensures.keeps_parts parts10 in
    let parts8 = joined part_of b8 b9 b17 204 4 208 56 60 (lit≤ tt) (lit≤ tt) (lit≤ tt) c.put32-6.ensures.keeps_parts parts9 in
    let parts7 = joined part_of b7 b8 b17 200 4 204 60 64 (lit≤ tt) (lit≤ tt) (lit≤ tt) c.put32-5.ensures.keeps_parts parts8 in
    let parts6 = joined part_of b6 b7 b17 196 4 200 64 68 (lit≤ tt) (lit≤ tt) (lit≤ tt) c.put32-4.ensures.keeps_parts parts7 in
    let parts5 = joined part_of b5 b6 b17 194 2 196 68 70 (lit≤ tt) (lit≤ tt) (lit≤ tt) c.put16.ensures.keeps_parts parts6 in
    let parts4 = joined part_of b4 b5 b17 193 1 194 70 71 (lit≤ tt) (lit≤ tt) (lit≤ tt) c.put8-2.ensures.keeps_parts parts5 in
    let parts3 = joined part_of b3 b4 b17 192 1 193 71 72 (lit≤ tt) (lit≤ tt) (lit≤ tt) c.put8.ensures.keeps_parts parts4 in
    let parts2 = joined part_of b2 b3 b17 188 4 192 72 76 (lit≤ tt) (lit≤ tt) (lit≤ tt) c.put32-3.ensures.keeps_parts parts3 in
    let parts1 = joined part_of b1 b2 b17 184 4 188 76 80 (lit≤ tt) (lit≤ tt) (lit≤ tt) c.put32-2.ensures.keeps_parts parts2 in
    let parts0 = joined part_of c.args.sector.now b1 b17 180 4 184 80 84 (lit≤ tt) (lit≤ tt) (lit≤ tt) c.put32.ensures.keeps_parts parts1 in
    record {
      numbers = (
        keeps1 180 4 (inl (lit≤ tt)) ∙ c.put32.ensures.put,
        (
          keeps2 184 4 (inl (lit≤ tt)) ∙ c.put32-2.ensures.put,
          (
            keeps3 188 4 (inl (lit≤ tt)) ∙ c.put32-3.ensures.put,
            (
              keeps4 192 1 (inl (lit≤ tt)) ∙ c.put8.ensures.put,
              (
                keeps5 193 1 (inl (lit≤ tt)) ∙ c.put8-2.ensures.put,
                (
                  keeps6 194 2 (inl (lit≤ tt)) ∙ c.put16.ensures.put,
                  (
                    keeps7 196 4 (inl (lit≤ tt)) ∙ c.put32-4.ensures.put,
                    (
                      keeps8 200 4 (inl (lit≤ tt)) ∙ c.put32-5.ensures.put,
                      (
                        keeps9 204 4 (inl (lit≤ tt)) ∙ c.put32-6.ensures.put,
                        (
                          keeps10 208 4 (inl (lit≤ tt)) ∙ c.put32-7.ensures.put,
                          (
                            keeps11 212 4 (inl (lit≤ tt)) ∙ c.put32-8.ensures.put,
                            (
                              keeps12 216 4 (inl (lit≤ tt)) ∙ c.put32-9.ensures.put,
                              (
                                keeps13 220 4 (inl (lit≤ tt)) ∙ c.put32-10.ensures.put,
                                (
                                  keeps14 228 4 (inl (lit≤ tt)) ∙ c.put32-11.ensures.put,
                                  (
                                    keeps15 232 8 (inl (lit≤ tt)) ∙ c.put64.ensures.put,
                                    (
                                      keeps16 240 8 (inl (lit≤ tt)) ∙ c.put64-2.ensures.put,
                                      tt,
                                    ),
                                  ),
                                ),
                              ),
                            ),
                          ),
                        ),
                      ),
                    ),
                  ),
                ),
              ),
            ),
          ),
        ),
      );
      no_uuid = c.put_part.ensures.put;
      keeps = keeps0;
      keeps_parts = parts0;
    }

pub put32-requires : goal.put32-requires
put32-requires c = subst (λ (n : ℕ). 184 ≤ n) (sym (c.requires.sector)) (lit≤ tt)

pub put32-requires-2 : goal.put32-requires-2
put32-requires-2 c = subst (λ (n : ℕ). 188 ≤ n) (sym (c.put32.auto.bytes ∙ c.requires.sector)) (lit≤ tt)

pub put32-requires-3 : goal.put32-requires-3
put32-requires-3 c = subst (λ (n : ℕ). 192 ≤ n) (sym (c.put32-2.auto.bytes ∙ (c.put32.auto.bytes ∙ c.requires.sector))) (lit≤ tt)

pub put8-requires : goal.put8-requires
put8-requires c = subst (λ (n : ℕ). 193 ≤ n) (sym (c.put32-3.auto.bytes ∙ (c.put32-2.auto.bytes ∙ (c.put32.auto.bytes ∙ c.requires.sector)))) (lit≤ tt)

pub put8-requires-2 : goal.put8-requires-2
put8-requires-2 c = subst (λ (n : ℕ). 194 ≤ n) (sym (c.put8.auto.bytes ∙ (c.put32-3.auto.bytes ∙ (c.put32-2.auto.bytes ∙ (c.put32.auto.bytes ∙ c.requires.sector))))) (lit≤ tt)

pub put16-requires : goal.put16-requires
put16-requires c = subst (λ (n : ℕ). 196 ≤ n) (sym (c.put8-2.auto.bytes ∙ (c.put8.auto.bytes ∙ (c.put32-3.auto.bytes ∙ (c.put32-2.auto.bytes ∙ (c.put32.auto.bytes ∙ c.requires.sector)))))) (lit≤ tt)

pub put32-requires-4 : goal.put32-requires-4
put32-requires-4 c = subst (λ (n : ℕ). 200 ≤ n) (sym (c.put16.auto.bytes ∙ (c.put8-2.auto.bytes ∙ (c.put8.auto.bytes ∙ (c.put32-3.auto.bytes ∙ (c.put32-2.auto.bytes ∙ (c.put32.auto.bytes ∙ c.requires.sector))))))) (lit≤ tt)

pub put32-requires-5 : goal.put32-requires-5
put32-requires-5 c = subst (λ (n : ℕ). 204 ≤ n) (sym (c.put32-4.auto.bytes ∙ (c.put16.auto.bytes ∙ (c.put8-2.auto.bytes ∙ (c.put8.auto.bytes ∙ (c.put32-3.auto.bytes ∙ (c.put32-2.auto.bytes ∙ (c.put32.auto.bytes ∙ c.requires.sector)))))))) (lit≤ tt)

pub put32-requires-6 : goal.put32-requires-6
put32-requires-6 c = subst (λ (n : ℕ). 208 ≤ n) (sym (c.put32-5.auto.bytes ∙ (c.put32-4.auto.bytes ∙ (c.put16.auto.bytes ∙ (c.put8-2.auto.bytes ∙ (c.put8.auto.bytes ∙ (c.put32-3.auto.bytes ∙ (c.put32-2.auto.bytes ∙ (c.put32.auto.bytes ∙ c.requires.sector))))))))) (lit≤ tt)

pub put32-requires-7 : goal.put32-requires-7
put32-requires-7 c = subst (λ (n : ℕ). 212 ≤ n) (sym (c.put32-6.auto.bytes ∙ (c.put32-5.auto.bytes ∙ (c.put32-4.auto.bytes ∙ (c.put16.auto.bytes ∙ (c.put8-2.auto.bytes ∙ (c.put8.auto.bytes ∙ (c.put32-3.auto.bytes ∙ (c.put32-2.auto.bytes ∙ (c.put32.auto.bytes ∙ c.requires.sector)))))))))) (lit≤ tt)

pub put32-requires-8 : goal.put32-requires-8
put32-requires-8 c = subst (λ (n : ℕ). 216 ≤ n) (sym (c.put32-7.auto.bytes ∙ (c.put32-6.auto.bytes ∙ (c.put32-5.auto.bytes ∙ (c.put32-4.auto.bytes ∙ (c.put16.auto.bytes ∙ (c.put8-2.auto.bytes ∙ (c.put8.auto.bytes ∙ (c.put32-3.auto.bytes ∙ (c.put32-2.auto.bytes ∙ (c.put32.auto.bytes ∙ c.requires.sector))))))))))) (lit≤ tt)

pub put32-requires-9 : goal.put32-requires-9
put32-requires-9 c = subst (λ (n : ℕ). 220 ≤ n) (sym (c.put32-8.auto.bytes ∙ (c.put32-7.auto.bytes ∙ (c.put32-6.auto.bytes ∙ (c.put32-5.auto.bytes ∙ (c.put32-4.auto.bytes ∙ (c.put16.auto.bytes ∙ (c.put8-2.auto.bytes ∙ (c.put8.auto.bytes ∙ (c.put32-3.auto.bytes ∙ (c.put32-2.auto.bytes ∙ (c.put32.auto.bytes ∙ c.requires.sector)))))))))))) (lit≤ tt)

pub put32-requires-10 : goal.put32-requires-10
put32-requires-10 c = subst (λ (n : ℕ). 224 ≤ n) (sym (c.put32-9.auto.bytes ∙ (c.put32-8.auto.bytes ∙ (c.put32-7.auto.bytes ∙ (c.put32-6.auto.bytes ∙ (c.put32-5.auto.bytes ∙ (c.put32-4.auto.bytes ∙ (c.put16.auto.bytes ∙ (c.put8-2.auto.bytes ∙ (c.put8.auto.bytes ∙ (c.put32-3.auto.bytes ∙ (c.put32-2.auto.bytes ∙ (c.put32.auto.bytes ∙ c.requires.sector))))))))))))) (lit≤ tt)

pub put32-requires-11 : goal.put32-requires-11
put32-requires-11 c = subst (λ (n : ℕ). 232 ≤ n) (sym (c.put32-10.auto.bytes ∙ (c.put32-9.auto.bytes ∙ (c.put32-8.auto.bytes ∙ (c.put32-7.auto.bytes ∙ (c.put32-6.auto.bytes ∙ (c.put32-5.auto.bytes ∙ (c.put32-4.auto.bytes ∙ (c.put16.auto.bytes ∙ (c.put8-2.auto.bytes ∙ (c.put8.auto.bytes ∙ (c.put32-3.auto.bytes ∙ (c.put32-2.auto.bytes ∙ (c.put32.auto.bytes ∙ c.requires.sector)))))))))))))) (lit≤ tt)

pub put64-requires : goal.put64-requires
put64-requires c = subst (λ (n : ℕ). 240 ≤ n) (sym (c.put32-11.auto.bytes ∙ (c.put32-10.auto.bytes ∙ (c.put32-9.auto.bytes ∙ (c.put32-8.auto.bytes ∙ (c.put32-7.auto.bytes ∙ (c.put32-6.auto.bytes ∙ (c.put32-5.auto.bytes ∙ (c.put32-4.auto.bytes ∙ (c.put16.auto.bytes ∙ (c.put8-2.auto.bytes ∙ (c.put8.auto.bytes ∙ (c.put32-3.auto.bytes ∙ (c.put32-2.auto.bytes ∙ (c.put32.auto.bytes ∙ c.requires.sector))))))))))))))) (lit≤ tt)

pub put64-requires-2 : goal.put64-requires-2
put64-requires-2 c = subst (λ (n : ℕ). 248 ≤ n) (sym (c.put64.auto.bytes ∙ (c.put32-11.auto.bytes ∙ (c.put32-10.auto.bytes ∙ (c.put32-9.auto.bytes ∙ (c.put32-8.auto.bytes ∙ (c.put32-7.auto.bytes ∙ (c.put32-6.auto.bytes ∙ (c.put32-5.auto.bytes ∙ (c.put32-4.auto.bytes ∙ (c.put16.auto.bytes ∙ (c.put8-2.auto.bytes ∙ (c.put8.auto.bytes ∙ (c.put32-3.auto.bytes ∙ (c.put32-2.auto.bytes ∙ (c.put32.auto.bytes ∙ c.requires.sector)))))))))))))))) (lit≤ tt)
