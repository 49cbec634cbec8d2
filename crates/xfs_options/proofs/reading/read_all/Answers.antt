use Rattle.std.proofs.Common.{ℕ, ◌+◌, List, ap, ◌∙◌, [], length, drop, sym, arith}
use Rattle.std.proofs.lemmas.List.{drop_all}
use Rattle.std.proofs.lemmas.Result.{IfOk-from_err}
use borrow.Author.Count.{falls}
use Rattle.xfs_options.specs.declared.reading.Given.{Given}
use Rattle.xfs_options.specs.Words.Read.{in_options}
use Rattle.xfs_options.specs.Words.{after_word, held, Words, after_words}
use Rattle.xfs_options.proofs.WordSteps.{word_read}
use Rattle.xfs_options.proofs.reading.read_all.Goals as goal

pub loop-before-preserved : goal.loop-before-preserved
loop-before-preserved c =
    word_read c.args.rows.now c.args.rest.now c.loop-before.before c.index-rest-before.result (held c.loop-before.reading) (held c.take_word.new.self)
    c.loop-before-test.true c.index-rest-before.is
    (c.in_ok-take_word.ensures
    ∙ ap (λ (word : List ℕ). after_word c.args.rows.now (c.loop-before.before + 1) word (held c.loop-before.reading)) c.bytes.ensures)
    ∙ c.loop-before.invariant

pub loop-before-init : goal.loop-before-init
loop-before-init c = ap (λ (given : List Given). after_words c.args.rows.now 1 c.args.rest.now (in_options given)) c.new.ensures.items

pub loop-before-smaller : goal.loop-before-smaller
loop-before-smaller c = falls _ c.loop-before.before c.loop-before-test.true

pub returns-in_err-take_word : goal.returns-in_err-take_word
returns-in_err-take_word c = IfOk-from_err c.from_residual.result _ c.from_residual.ensures.0

pub returns : goal.returns
returns c =
    let i = c.loop-before.before in
    ap (λ (words : Words). after_words c.args.rows.now (i + 1) words (held c.loop-before.reading)) (sym (drop_all i c.args.rest.now (omega (arith, c.loop-before-test.false))))
    ∙ c.loop-before.invariant
