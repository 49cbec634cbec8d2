use Rattle.std.proofs.Common.{◌≡◌, length, arith, ℕ, ◌≤◌, inl, lit≤, sym, ◌∙◌, subst}
use Rattle.xfs_word.specs.Field.{field_of}
use Rattle.xfs_word.proofs.Register.{AreBytes}
use Rattle.xfs_kinds.specs.SpanLaws.{span_put}
use Rattle.xfs_kinds.proofs.spans.put_span.Goals as goal

pub returns : goal.returns
returns c =
    let bytes = c.put32-2.new.bytes in
    let span = c.args.span.now in
    let all : AreBytes bytes = record { below = λ k. omega (arith, c.type_inv.bytes k) } in
    let long : length bytes ≡ 8 = c.put32-2.auto.bytes ∙ (c.put32.auto.bytes ∙ c.requires) in
    let start : field_of bytes 0 4 ≡ span.start = c.put32-2.ensures.keeps 0 4 (inl (lit≤ tt)) ∙ c.put32.ensures.put in
    let count : field_of bytes 4 4 ≡ span.count = c.put32-2.ensures.put in
    span_put span bytes all long start count

pub put32-requires : goal.put32-requires
put32-requires c = subst (λ (n : ℕ). 4 ≤ n) (sym c.requires) (lit≤ tt)

pub put32-requires-2 : goal.put32-requires-2
put32-requires-2 c = subst (λ (n : ℕ). 8 ≤ n) (sym (c.put32.auto.bytes ∙ c.requires)) (lit≤ tt)
