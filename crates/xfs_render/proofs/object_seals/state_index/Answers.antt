use Rattle.std.proofs.Common.{◌≡◌, ◌∙◌, ◌+◌, ◌≤◌, ℕ, length, inl, refl, sym, subst, lit≤, rules}
use Rattle.xfs_word.specs.Field.{field_of}
use Rattle.xfs_heads.proofs.Chained.{next}
use Rattle.xfs_render.proofs.ObjectSeals.{next_bytes}
use Rattle.xfs_render.proofs.object_seals.state_index.Goals as goal

pub returns : goal.returns
returns c =
    let long : length c.args.g.now.uuid ≡ 16 = search rules in
    let kept = rw long at c.put_part.ensures.keeps in
    let same = rw long at c.put_part.ensures.others in
    let put = rw long at c.put_part.ensures.put in
    let keeps2 = next field_of c.put64-2.new.bytes c.put_part.new.bytes c.put64-3.new.bytes 32 16 48 8 refl kept c.put64-3.ensures.keeps in
    let others2 = next_bytes c.put64-2.new.bytes c.put_part.new.bytes c.put64-3.new.bytes 32 16 48 8 refl same c.put64-3.ensures.others in
    let keeps1 = next field_of c.put64.new.bytes c.put64-2.new.bytes c.put64-3.new.bytes 24 8 32 24 refl c.put64-2.ensures.keeps keeps2 in
    let others1 = next_bytes c.put64.new.bytes c.put64-2.new.bytes c.put64-3.new.bytes 24 8 32 24 refl c.put64-2.ensures.others others2 in
    let keeps0 = next field_of c.args.block.now c.put64.new.bytes c.put64-3.new.bytes 16 8 24 32 refl c.put64.ensures.keeps keeps1 in
    let others0 = next_bytes c.args.block.now c.put64.new.bytes c.put64-3.new.bytes 16 8 24 32 refl c.put64.ensures.others others1 in
    record {
      place = keeps1 16 8 (inl (lit≤ tt)) ∙ c.put64.ensures.put;
      lsn = keeps2 24 8 (inl (lit≤ tt)) ∙ c.put64-2.ensures.put;
      uuid = c.put64-3.ensures.keeps_parts 32 16 (inl (lit≤ tt)) ∙ (put);
      owner = c.put64-3.ensures.put;
      keeps = keeps0;
      others = others0;
    }

pub put64-requires : goal.put64-requires
put64-requires c = subst (λ (n : ℕ). 24 ≤ n) (sym (c.requires.block)) (lit≤ tt)

pub put64-requires-2 : goal.put64-requires-2
put64-requires-2 c = subst (λ (n : ℕ). 32 ≤ n) (sym (c.put64.auto.bytes ∙ c.requires.block)) (lit≤ tt)

pub put_part-requires : goal.put_part-requires
put_part-requires c =
    let long : length c.args.g.now.uuid ≡ 16 = search rules in
    subst (λ (n : ℕ). 32 + n ≤ length c.put64-2.new.bytes) (sym long) (subst (λ (n : ℕ). 48 ≤ n) (sym (c.put64-2.auto.bytes ∙ (c.put64.auto.bytes ∙ c.requires.block))) (lit≤ tt))

pub put64-requires-3 : goal.put64-requires-3
put64-requires-3 c = subst (λ (n : ℕ). 56 ≤ n) (sym (c.put_part.auto.bytes ∙ (c.put64-2.auto.bytes ∙ (c.put64.auto.bytes ∙ c.requires.block)))) (lit≤ tt)
