use Rattle.std.proofs.Common.{◌≡◌, ℕ, ◌+◌, ◌-◌, ◌*◌, ◌<◌, ◌≤◌, true, false, List, refl, sym, ap, ap₂, ◌∙◌, subst, arith}
use Rattle.std.proofs.lemmas.Bool.{eq-eqb, ne_eqb, le-leb, lt-leb}
use Rattle.xfs_dirindex.specs.declared.data.Best.{Best}
use Rattle.xfs_dirindex.specs.declared.pairs.Pair.{Pair}
use Rattle.xfs_dirindex.specs.Pairs.{is_index, pairs_at}
use Rattle.xfs_dirindex.specs.Leaf.{are_values, leaf_count, value_count}
use Rattle.xfs_dirindex.proofs.LeafTests.{leaf_by}
use Rattle.xfs_dirindex.proofs.leaf.is_leaf.Goals as goal

pub returns-then-get16-ne-LEAF_MAGIC : goal.returns-then-get16-ne-LEAF_MAGIC
returns-then-get16-ne-LEAF_MAGIC c =
    let taken = c.args.taken.now in
    sym (leaf_by taken.bests.items taken.due.items c.args.bytes.now false _ _ _ _ (ne_eqb _ 0x3df1 (λ e. c.if-get16-ne-LEAF_MAGIC.true (c.get16.ensures ∙ e))) refl refl refl refl)

pub returns-then-count-values : goal.returns-then-count-values
returns-then-count-values c =
    let taken = c.args.taken.now in
    let bytes = c.args.bytes.now in
    let over : 4092 < 64 + 8 * leaf_count bytes + 2 * value_count bytes = omega (arith, c.if-count-values.true, c.get16-count.ensures, c.get32-values.ensures) in
    sym (leaf_by taken.bests.items taken.due.items bytes true false _ _ _ (eq-eqb _ 0x3df1 (sym c.get16.ensures ∙ c.if-get16-ne-LEAF_MAGIC.false)) (lt-leb _ 4092 over) refl refl refl)

pub returns-then-not-branch : goal.returns-then-not-branch
returns-then-not-branch c =
    let taken = c.args.taken.now in
    let bytes = c.args.bytes.now in
    let inside : 64 + 8 * leaf_count bytes + 2 * value_count bytes ≤ 4092 = omega (arith, c.if-count-values.false, c.get16-count.ensures, c.get32-values.ensures) in
    sym (leaf_by taken.bests.items taken.due.items bytes true true false _ _ (eq-eqb _ 0x3df1 (sym c.get16.ensures ∙ c.if-get16-ne-LEAF_MAGIC.false)) (le-leb _ 4092 inside)
    (sym (c.in_ok-is_index.ensures ∙ (λ i. is_index ((c.deref.ensures.value ∙ c.in_ok-pairs.ensures.pairs ∙ ap (pairs_at bytes 64) c.get16-count.ensures) i) (c.get16-stale.ensures i) (c.deref-2.ensures.value i))) ∙ c.if-not-branch.true) refl refl)

pub returns-then-values-end : goal.returns-then-values-end
returns-then-values-end c =
    let taken = c.args.taken.now in
    let bytes = c.args.bytes.now in
    let inside : 64 + 8 * leaf_count bytes + 2 * value_count bytes ≤ 4092 = omega (arith, c.if-count-values.false, c.get16-count.ensures, c.get32-values.ensures) in
    let low : value_count bytes < c.args.end = omega (arith, c.if-values-end.true, c.get32-values.ensures) in
    sym (leaf_by taken.bests.items taken.due.items bytes true true true false _ (eq-eqb _ 0x3df1 (sym c.get16.ensures ∙ c.if-get16-ne-LEAF_MAGIC.false)) (le-leb _ 4092 inside)
    (sym (c.in_ok-is_index.ensures ∙ (λ i. is_index ((c.deref.ensures.value ∙ c.in_ok-pairs.ensures.pairs ∙ ap (pairs_at bytes 64) c.get16-count.ensures) i) (c.get16-stale.ensures i) (c.deref-2.ensures.value i))) ∙ c.if-not-branch.false)
    (lt-leb _ (value_count bytes) (subst (λ (n : ℕ). value_count bytes < n) c.requires.end low)) refl)

pub returns : goal.returns
returns c =
    let taken = c.args.taken.now in
    let bytes = c.args.bytes.now in
    let inside : 64 + 8 * leaf_count bytes + 2 * value_count bytes ≤ 4092 = omega (arith, c.if-count-values.false, c.get16-count.ensures, c.get32-values.ensures) in
    let enough : c.args.end ≤ value_count bytes = omega (arith, c.if-values-end.false, c.get32-values.ensures) in
    sym (leaf_by taken.bests.items taken.due.items bytes true true true true c.are_values.result (eq-eqb _ 0x3df1 (sym c.get16.ensures ∙ c.if-get16-ne-LEAF_MAGIC.false)) (le-leb _ 4092 inside)
    (sym (c.in_ok-is_index.ensures ∙ (λ i. is_index ((c.deref.ensures.value ∙ c.in_ok-pairs.ensures.pairs ∙ ap (pairs_at bytes 64) c.get16-count.ensures) i) (c.get16-stale.ensures i) (c.deref-2.ensures.value i))) ∙ c.if-not-branch.false)
    (le-leb _ (value_count bytes) (subst (λ (n : ℕ). n ≤ value_count bytes) c.requires.end enough))
    (sym (c.are_values.ensures ∙ (λ i. are_values (c.deref-3.ensures.value i) bytes (4092 - 2 * c.get32-values.ensures i) 0 (c.get32-values.ensures i)))))
