use Rattle.std.proofs.Common.{◌≡◌, ◌∙◌, ◌+◌, ◌≤◌, ℕ, length, inl, refl, sym, subst, lit≤, rules}
use Rattle.xfs_word.specs.Field.{field_of}
use Rattle.xfs_heads.proofs.Chained.{next}
use Rattle.xfs_render.proofs.ObjectSeals.{next_bytes}
use Rattle.xfs_render.proofs.object_seals.state_link.Goals as goal

pub returns : goal.returns
returns c =
    let long : length c.args.g.now.uuid ≡ 16 = search rules in
    let kept = rw long at c.put_part.ensures.keeps in
    let same = rw long at c.put_part.ensures.others in
    let put = rw long at c.put_part.ensures.put in
    let keeps2 = next field_of c.put64.new.bytes c.put64-2.new.bytes c.put64-3.new.bytes 40 8 48 8 refl c.put64-2.ensures.keeps c.put64-3.ensures.keeps in
    let others2 = next_bytes c.put64.new.bytes c.put64-2.new.bytes c.put64-3.new.bytes 40 8 48 8 refl c.put64-2.ensures.others c.put64-3.ensures.others in
    let keeps1 = next field_of c.put_part.new.bytes c.put64.new.bytes c.put64-3.new.bytes 32 8 40 16 refl c.put64.ensures.keeps keeps2 in
    let others1 = next_bytes c.put_part.new.bytes c.put64.new.bytes c.put64-3.new.bytes 32 8 40 16 refl c.put64.ensures.others others2 in
    let keeps0 = next field_of c.args.block.now c.put_part.new.bytes c.put64-3.new.bytes 16 16 32 24 refl kept keeps1 in
    let others0 = next_bytes c.args.block.now c.put_part.new.bytes c.put64-3.new.bytes 16 16 32 24 refl same others1 in
    record {
      uuid = c.put64-3.ensures.keeps_parts 16 16 (inl (lit≤ tt)) ∙ (c.put64-2.ensures.keeps_parts 16 16 (inl (lit≤ tt)) ∙ (c.put64.ensures.keeps_parts 16 16 (inl (lit≤ tt)) ∙ (put)));
      owner = keeps2 32 8 (inl (lit≤ tt)) ∙ c.put64.ensures.put;
      place = c.put64-3.ensures.keeps 40 8 (inl (lit≤ tt)) ∙ c.put64-2.ensures.put;
      lsn = c.put64-3.ensures.put;
      keeps = keeps0;
      others = others0;
    }

pub put_part-requires : goal.put_part-requires
put_part-requires c =
    let long : length c.args.g.now.uuid ≡ 16 = search rules in
    subst (λ (n : ℕ). 16 + n ≤ length c.args.block.now) (sym long) (subst (λ (n : ℕ). 32 ≤ n) (sym (c.requires.block)) (lit≤ tt))

pub put64-requires : goal.put64-requires
put64-requires c = subst (λ (n : ℕ). 40 ≤ n) (sym (c.put_part.auto.bytes ∙ c.requires.block)) (lit≤ tt)

pub put64-requires-2 : goal.put64-requires-2
put64-requires-2 c = subst (λ (n : ℕ). 48 ≤ n) (sym (c.put64.auto.bytes ∙ (c.put_part.auto.bytes ∙ c.requires.block))) (lit≤ tt)

pub put64-requires-3 : goal.put64-requires-3
put64-requires-3 c = subst (λ (n : ℕ). 56 ≤ n) (sym (c.put64-2.auto.bytes ∙ (c.put64.auto.bytes ∙ (c.put_part.auto.bytes ∙ c.requires.block)))) (lit≤ tt)
