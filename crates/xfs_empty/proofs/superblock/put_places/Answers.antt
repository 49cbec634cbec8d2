use Rattle.std.proofs.Common.{inl, lit≤, ◌∙◌, ℕ, ◌≤◌, sym, subst}
use Rattle.xfs_word.specs.Field.{field_of}
use Rattle.xfs_empty.proofs.Chained.{joined}
use Rattle.xfs_empty.proofs.Stated.{log_inside}
use Rattle.xfs_empty.proofs.superblock.put_places.Goals as goal

pub address_of_block-requires : goal.address_of_block-requires
address_of_block-requires c = log_inside _ _ _ _ _ c.args.g.now.shape.groups c.args.g.now.shape.log_inside

pub returns-clause-numbers : goal.returns-clause-numbers
returns-clause-numbers c =
    let b1 = c.put32.new.bytes in
    let b2 = c.put32-2.new.bytes in
    let b3 = c.put64.new.bytes in
    let b4 = c.put64-2.new.bytes in
    let b5 = c.put64-3.new.bytes in
    let front4 = c.put64-3.ensures.keeps in
    let front3 = joined field_of b3 b4 b5 16 8 24 8 16 (lit≤ tt) (lit≤ tt) (lit≤ tt) c.put64-2.ensures.keeps front4 in
    let front2 = joined field_of b2 b3 b5 8 8 16 16 24 (lit≤ tt) (lit≤ tt) (lit≤ tt) c.put64.ensures.keeps front3 in
    let front1 = joined field_of b1 b2 b5 4 4 8 24 28 (lit≤ tt) (lit≤ tt) (lit≤ tt) c.put32-2.ensures.keeps front2 in (
      c.put64-4.ensures.keeps 0 4 (inl (lit≤ tt)) ∙ (c.put_part.ensures.keeps 0 4 (inl (lit≤ tt)) ∙ (front1 0 4 (inl (lit≤ tt)) ∙ c.put32.ensures.put)),
      (
        c.put64-4.ensures.keeps 4 4 (inl (lit≤ tt)) ∙ (c.put_part.ensures.keeps 4 4 (inl (lit≤ tt)) ∙ (front2 4 4 (inl (lit≤ tt)) ∙ c.put32-2.ensures.put)),
        (
          c.put64-4.ensures.keeps 8 8 (inl (lit≤ tt)) ∙ (c.put_part.ensures.keeps 8 8 (inl (lit≤ tt)) ∙ (front3 8 8 (inl (lit≤ tt)) ∙ c.put64.ensures.put)),
          (
            c.put64-4.ensures.keeps 16 8 (inl (lit≤ tt)) ∙ (c.put_part.ensures.keeps 16 8 (inl (lit≤ tt)) ∙ (front4 16 8 (inl (lit≤ tt)) ∙ c.put64-2.ensures.put)),
            (
              c.put64-4.ensures.keeps 24 8 (inl (lit≤ tt)) ∙ (c.put_part.ensures.keeps 24 8 (inl (lit≤ tt)) ∙ (c.put64-3.ensures.put)),
              (
                c.put64-4.ensures.put ∙ c.address_of_block.ensures.value,
                tt,
              ),
            ),
          ),
        ),
      ),
    )

pub put32-requires : goal.put32-requires
put32-requires c = subst (λ (n : ℕ). 4 ≤ n) (sym (c.requires.sector)) (lit≤ tt)

pub put32-requires-2 : goal.put32-requires-2
put32-requires-2 c = subst (λ (n : ℕ). 8 ≤ n) (sym (c.put32.auto.bytes ∙ c.requires.sector)) (lit≤ tt)

pub put64-requires : goal.put64-requires
put64-requires c = subst (λ (n : ℕ). 16 ≤ n) (sym (c.put32-2.auto.bytes ∙ (c.put32.auto.bytes ∙ c.requires.sector))) (lit≤ tt)

pub put64-requires-2 : goal.put64-requires-2
put64-requires-2 c = subst (λ (n : ℕ). 24 ≤ n) (sym (c.put64.auto.bytes ∙ (c.put32-2.auto.bytes ∙ (c.put32.auto.bytes ∙ c.requires.sector)))) (lit≤ tt)

pub put64-requires-3 : goal.put64-requires-3
put64-requires-3 c = subst (λ (n : ℕ). 32 ≤ n) (sym (c.put64-2.auto.bytes ∙ (c.put64.auto.bytes ∙ (c.put32-2.auto.bytes ∙ (c.put32.auto.bytes ∙ c.requires.sector))))) (lit≤ tt)

pub put64-requires-4 : goal.put64-requires-4
put64-requires-4 c = subst (λ (n : ℕ). 56 ≤ n) (sym (c.put_part.auto.bytes ∙ (c.put64-3.auto.bytes ∙ (c.put64-2.auto.bytes ∙ (c.put64.auto.bytes ∙ (c.put32-2.auto.bytes ∙ (c.put32.auto.bytes ∙ c.requires.sector))))))) (lit≤ tt)
