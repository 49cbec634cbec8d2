use Rattle.std.proofs.Common.{◌+◌, ◌*◌, ◌==◌, arith, sym, ◌∙◌}
use Rattle.std.proofs.lemmas.Bool.{and_from, eq-eqb, ne_eqb}
use Rattle.xfs_word.specs.Field.{field_of}
use Rattle.xfs_dirindex.specs.Leaf.{best_length_of, are_values}
use Rattle.xfs_dirindex.proofs.Longest.{all_more, not_all}
use Rattle.xfs_dirindex.proofs.values.are_values.Goals as goal

pub returns-then-get16-best_length_of : goal.returns-then-get16-best_length_of
unfolding are_values
returns-then-get16-best_length_of c =
    sym (not_all (λ j. field_of c.args.bytes.now (c.args.at + 2 * j) 2 == best_length_of c.args.bests.now (c.args.first + j)) c.args.count c.loop-j.j (omega arith)
    (ne_eqb _ _ (λ e. c.if-get16-best_length_of.true (c.get16.ensures ∙ (e ∙ sym c.best_length_of.ensures)))))

pub loop-j-preserved : goal.loop-j-preserved
loop-j-preserved c =
    all_more (λ j. field_of c.args.bytes.now (c.args.at + 2 * j) 2 == best_length_of c.args.bests.now (c.args.first + j)) c.loop-j.j
    ∙ and_from _ _ c.loop-j.invariant (eq-eqb _ _ (sym c.get16.ensures ∙ (c.if-get16-best_length_of.false ∙ c.best_length_of.ensures)))
