use Rattle.std.proofs.Common.{ℕ, sym, ◌∙◌}
use Rattle.std.proofs.lemmas.Result.{IfOk-from_err}
use Rattle.xfs_names.specs.Rebuilt.{is_rebuilt}
use Rattle.xfs_names.proofs.Looped.{kept_end, kept_next, passed_next}
use Rattle.xfs_names.proofs.comparing.rebuilt_among.Goals as goal

pub is_rebuilt-requires-clause-listed : goal.is_rebuilt-requires-clause-listed
is_rebuilt-requires-clause-listed c = c.requires.listed

pub is_rebuilt-requires-clause-dirs : goal.is_rebuilt-requires-clause-dirs
is_rebuilt-requires-clause-dirs c = c.requires.dirs

pub is_rebuilt-requires-clause-wanted : goal.is_rebuilt-requires-clause-wanted
is_rebuilt-requires-clause-wanted c = c.requires.wanted

pub loop-dir-preserved-then-not-is_rebuilt : goal.loop-dir-preserved-then-not-is_rebuilt
loop-dir-preserved-then-not-is_rebuilt c =
    passed_next (λ (d : ℕ × ℕ). d.0) (is_rebuilt c.args.listed.now c.args.dirs.now c.args.wanted.now) c.args.parents.now c.loop-dir.dir-index _ c.loop-dir.rebuilt.items _
    c.loop-dir-test.true (sym c.is_rebuilt.ensures ∙ c.if-not-is_rebuilt.true) c.loop-dir.invariant

pub returns-in_err-push : goal.returns-in_err-push
returns-in_err-push c = IfOk-from_err c.from_residual.result _ c.from_residual.ensures.0

pub loop-dir-preserved : goal.loop-dir-preserved
loop-dir-preserved c =
    kept_next (λ (d : ℕ × ℕ). d.0) (is_rebuilt c.args.listed.now c.args.dirs.now c.args.wanted.now) c.args.parents.now c.loop-dir.dir-index _ c.loop-dir.rebuilt.items
    c.push.new.self.items _ c.loop-dir-test.true (sym c.is_rebuilt.ensures ∙ c.if-not-is_rebuilt.false) c.in_ok-push.ensures.items c.loop-dir.invariant

pub returns : goal.returns
returns c =
    c.from_vec.ensures
    ∙ kept_end (λ (d : ℕ × ℕ). d.0) (is_rebuilt c.args.listed.now c.args.dirs.now c.args.wanted.now) c.args.parents.now c.loop-dir.dir-index c.loop-dir.rebuilt.items _
    c.loop-dir-test.false c.loop-dir.invariant
