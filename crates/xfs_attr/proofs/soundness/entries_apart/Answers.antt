use Rattle.std.proofs.Common.{◌≡◌, ℕ, ◌+◌, Bool, true, false, cond, refl, sym, ap, ap₂, subst, ◌∙◌, arith}
use Rattle.std.proofs.lemmas.List.{get_or-replicate}
use Rattle.xfs_attr.specs.declared.entries.LeafEntry.{LeafEntry}
use Rattle.xfs_attr.specs.Leaf.{leaf_entry_at, entries, leaf_entry_size, entries_apart}
use Rattle.xfs_attr.proofs.Steps.{some_bytes}
use Rattle.xfs_attr.proofs.Taken.{mark_more, overlap, no_overlap}
use Rattle.xfs_attr.proofs.soundness.entries_apart.Goals as goal

pub loop-index-init : goal.loop-index-init
loop-index-init c = λ b low. sym (ap (λ (t : Bool). cond t 1 0) (get_or-replicate 4096 b false false (omega arith)))

pub leaf_entry_size-requires : goal.leaf_entry_size-requires
leaf_entry_size-requires c =
    let block = c.args.block.now in
    let some = some_bytes block (leaf_entry_at block c.loop-index.index) in
    let inside = c.requires.inside.each c.loop-index.index (omega arith) in
    let same = ap (λ (e : LeafEntry). e.nameidx) c.read_entry-entry.ensures in
    omega (arith, some, inside, same)

pub returns-then-not-claim : goal.returns-then-not-claim
returns-then-not-claim c =
    let block = c.args.block.now in
    let (b, from, to, marked) = c.if-not-claim.ensures.met refl in
    let e : c.read_entry-entry.result ≡ leaf_entry_at block c.loop-index.index = c.read_entry-entry.ensures in
    let inside = c.requires.inside.each c.loop-index.index (omega arith) in
    let at = ap (λ (e : LeafEntry). e.nameidx) e in
    let size : c.leaf_entry_size.result ≡ leaf_entry_size block (leaf_entry_at block c.loop-index.index) = c.leaf_entry_size.ensures.value ∙ ap (leaf_entry_size block) e in
    sym (overlap block c.loop-index.index c.args.count b c.loop-index.taken c.loop-index.invariant (omega arith) (omega (arith, inside, at, size, from, to)) (omega (arith, at, from)) (omega (arith, at, size, to)) marked)

pub loop-index-preserved : goal.loop-index-preserved
loop-index-preserved c =
    let block = c.args.block.now in
    let e : c.read_entry-entry.result ≡ leaf_entry_at block c.loop-index.index = c.read_entry-entry.ensures in
    let at = ap (λ (e : LeafEntry). e.nameidx) e in
    let end : c.read_entry-entry.result.nameidx + c.leaf_entry_size.result ≡ (leaf_entry_at block c.loop-index.index).nameidx + leaf_entry_size block (leaf_entry_at block c.loop-index.index) = ap₂ (λ (a b : ℕ). a + b) at (c.leaf_entry_size.ensures.value ∙ ap (leaf_entry_size block) e) in
    mark_more block c.loop-index.index _ _ c.loop-index.taken c.claim.new.taken c.loop-index.invariant at end (c.if-not-claim.ensures.free refl)
    (λ b low. c.if-not-claim.ensures.taken refl b (omega arith))

pub returns : goal.returns
returns c =
    let block = c.args.block.now in
    let done : c.loop-index.index ≡ c.args.count = omega arith in
    sym (subst (λ (n : ℕ). entries_apart block (entries block n) ≡ true) done (no_overlap block c.loop-index.index c.loop-index.taken c.loop-index.invariant))
