use Rattle.std.proofs.Common.{◌≡◌, length, bit_or, arith, ℕ, ◌≤◌, inl, lit≤, sym, ◌∙◌, subst, ap}
use Rattle.xfs_word.specs.Field.{field_of}
use Rattle.xfs_word.proofs.Register.{AreBytes}
use Rattle.xfs_kinds.specs.InodeTrees.{missing_bits}
use Rattle.xfs_kinds.specs.InodeTreeLaws.{chunk_put}
use Rattle.xfs_kinds.proofs.chunks.put_chunk.Goals as goal

pub returns : goal.returns
returns c =
    let bytes = c.put64.new.bytes in
    let chunk = c.args.chunk.now in
    let all : AreBytes bytes = record { below = λ k. omega (arith, c.type_inv.bytes k) } in
    let long : length bytes ≡ 16 = c.put64.auto.bytes ∙ (c.put8-2.auto.bytes ∙ (c.put8.auto.bytes ∙ (c.put16.auto.bytes ∙ (c.put32.auto.bytes ∙ c.requires.size)))) in
    let startino : field_of bytes 0 4 ≡ chunk.startino = c.put64.ensures.keeps 0 4 (inl (lit≤ tt)) ∙ (c.put8-2.ensures.keeps 0 4 (inl (lit≤ tt)) ∙ (c.put8.ensures.keeps 0 4 (inl (lit≤ tt)) ∙ (c.put16.ensures.keeps 0 4 (inl (lit≤ tt)) ∙ c.put32.ensures.put))) in
    let holemask : field_of bytes 4 2 ≡ chunk.holemask = c.put64.ensures.keeps 4 2 (inl (lit≤ tt)) ∙ (c.put8-2.ensures.keeps 4 2 (inl (lit≤ tt)) ∙ (c.put8.ensures.keeps 4 2 (inl (lit≤ tt)) ∙ c.put16.ensures.put)) in
    let count : field_of bytes 6 1 ≡ chunk.count = c.put64.ensures.keeps 6 1 (inl (lit≤ tt)) ∙ (c.put8-2.ensures.keeps 6 1 (inl (lit≤ tt)) ∙ c.put8.ensures.put) in
    let freecount : field_of bytes 7 1 ≡ chunk.freecount = c.put64.ensures.keeps 7 1 (inl (lit≤ tt)) ∙ c.put8-2.ensures.put in
    let free : field_of bytes 8 8 ≡ bit_or chunk.free (missing_bits chunk.holemask) = c.put64.ensures.put ∙ ap (bit_or chunk.free) c.missing_bits.ensures in
    chunk_put chunk bytes all long startino holemask count freecount free

pub put32-requires : goal.put32-requires
put32-requires c = subst (λ (n : ℕ). 4 ≤ n) (sym c.requires.size) (lit≤ tt)

pub put16-requires : goal.put16-requires
put16-requires c = subst (λ (n : ℕ). 6 ≤ n) (sym (c.put32.auto.bytes ∙ c.requires.size)) (lit≤ tt)

pub put8-requires : goal.put8-requires
put8-requires c = subst (λ (n : ℕ). 7 ≤ n) (sym (c.put16.auto.bytes ∙ (c.put32.auto.bytes ∙ c.requires.size))) (lit≤ tt)

pub put8-requires-2 : goal.put8-requires-2
put8-requires-2 c = subst (λ (n : ℕ). 8 ≤ n) (sym (c.put8.auto.bytes ∙ (c.put16.auto.bytes ∙ (c.put32.auto.bytes ∙ c.requires.size)))) (lit≤ tt)

pub put64-requires : goal.put64-requires
put64-requires c = subst (λ (n : ℕ). 16 ≤ n) (sym (c.put8-2.auto.bytes ∙ (c.put8.auto.bytes ∙ (c.put16.auto.bytes ∙ (c.put32.auto.bytes ∙ c.requires.size))))) (lit≤ tt)
