use Rattle.std.proofs.Common.{◌≡◌, length, arith, ℕ, ◌≤◌, inl, lit≤, sym, ◌∙◌, subst}
use Rattle.xfs_word.specs.Field.{field_of}
use Rattle.xfs_word.proofs.Register.{AreBytes}
use Rattle.xfs_kinds.specs.OwnerTreeLaws.{key_put}
use Rattle.xfs_kinds.proofs.owners.put_key.Goals as goal

pub returns : goal.returns
returns c =
    let bytes = c.put64-2.new.bytes in
    let key = c.args.key.now in
    let all : AreBytes bytes = record { below = λ k. omega (arith, c.type_inv.bytes k) } in
    let long : length bytes ≡ 20 = c.put64-2.auto.bytes ∙ (c.put64.auto.bytes ∙ (c.put32.auto.bytes ∙ c.requires)) in
    let start : field_of bytes 0 4 ≡ key.start = c.put64-2.ensures.keeps 0 4 (inl (lit≤ tt)) ∙ (c.put64.ensures.keeps 0 4 (inl (lit≤ tt)) ∙ c.put32.ensures.put) in
    let owner : field_of bytes 4 8 ≡ key.owner = c.put64-2.ensures.keeps 4 8 (inl (lit≤ tt)) ∙ c.put64.ensures.put in
    let offset : field_of bytes 12 8 ≡ key.offset_word = c.put64-2.ensures.put in
    key_put key bytes all long start owner offset

pub put32-requires : goal.put32-requires
put32-requires c = subst (λ (n : ℕ). 4 ≤ n) (sym c.requires) (lit≤ tt)

pub put64-requires : goal.put64-requires
put64-requires c = subst (λ (n : ℕ). 12 ≤ n) (sym (c.put32.auto.bytes ∙ c.requires)) (lit≤ tt)

pub put64-requires-2 : goal.put64-requires-2
put64-requires-2 c = subst (λ (n : ℕ). 20 ≤ n) (sym (c.put64.auto.bytes ∙ (c.put32.auto.bytes ∙ c.requires))) (lit≤ tt)
