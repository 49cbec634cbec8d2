use Rattle.std.proofs.Common.{◌≡◌, length, arith, ℕ, ◌≤◌, inl, lit≤, sym, ◌∙◌, subst}
use Rattle.xfs_word.specs.Field.{field_of}
use Rattle.xfs_word.proofs.Register.{AreBytes}
use Rattle.xfs_kinds.specs.OwnerTreeLaws.{owner_put}
use Rattle.xfs_kinds.proofs.owners.put_owner.Goals as goal

pub returns : goal.returns
returns c =
    let bytes = c.put64-2.new.bytes in
    let run = c.args.run.now in
    let all : AreBytes bytes = record { below = λ k. omega (arith, c.type_inv.bytes k) } in
    let long : length bytes ≡ 24 = c.put64-2.auto.bytes ∙ (c.put64.auto.bytes ∙ (c.put32-2.auto.bytes ∙ (c.put32.auto.bytes ∙ c.requires))) in
    let start : field_of bytes 0 4 ≡ run.start = c.put64-2.ensures.keeps 0 4 (inl (lit≤ tt)) ∙ (c.put64.ensures.keeps 0 4 (inl (lit≤ tt)) ∙ (c.put32-2.ensures.keeps 0 4 (inl (lit≤ tt)) ∙ c.put32.ensures.put)) in
    let count : field_of bytes 4 4 ≡ run.count = c.put64-2.ensures.keeps 4 4 (inl (lit≤ tt)) ∙ (c.put64.ensures.keeps 4 4 (inl (lit≤ tt)) ∙ c.put32-2.ensures.put) in
    let owner : field_of bytes 8 8 ≡ run.owner = c.put64-2.ensures.keeps 8 8 (inl (lit≤ tt)) ∙ c.put64.ensures.put in
    let offset : field_of bytes 16 8 ≡ run.offset_word = c.put64-2.ensures.put in
    owner_put run bytes all long start count owner offset

pub put32-requires : goal.put32-requires
put32-requires c = subst (λ (n : ℕ). 4 ≤ n) (sym c.requires) (lit≤ tt)

pub put32-requires-2 : goal.put32-requires-2
put32-requires-2 c = subst (λ (n : ℕ). 8 ≤ n) (sym (c.put32.auto.bytes ∙ c.requires)) (lit≤ tt)

pub put64-requires : goal.put64-requires
put64-requires c = subst (λ (n : ℕ). 16 ≤ n) (sym (c.put32-2.auto.bytes ∙ (c.put32.auto.bytes ∙ c.requires))) (lit≤ tt)

pub put64-requires-2 : goal.put64-requires-2
put64-requires-2 c = subst (λ (n : ℕ). 24 ≤ n) (sym (c.put64.auto.bytes ∙ (c.put32-2.auto.bytes ∙ (c.put32.auto.bytes ∙ c.requires)))) (lit≤ tt)
