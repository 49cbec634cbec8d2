use Rattle.std.proofs.Common.{ℕ, ◌^◌, ◌≤◌, ◌<◌, Option, MatchOption, sym, subst}
use Rattle.std.proofs.lemmas.Result.{IfOk-from_err}
use Rattle.xfs_render.specs.Rendering.{AddsBlank}
use Rattle.xfs_render.proofs.rendering.add_blank.Goals as goal

abbrev IsCycle : Option ℕ → Type 0
IsCycle o = MatchOption o (Unit {0}) (λ n. (1 ≤ n) × (n < 2 ^ 31))

pub add_log-requires-clause-some : goal.add_log-requires-clause-some
add_log-requires-clause-some c = (subst IsCycle c.in-Some.is c.requires.cycle).0

pub add_log-requires-clause-few : goal.add_log-requires-clause-few
add_log-requires-clause-few c = (subst IsCycle c.in-Some.is c.requires.cycle).1

pub add_log-requires-clause-draft : goal.add_log-requires-clause-draft
add_log-requires-clause-draft c = c.requires.draft

pub returns-in_err-add_log : goal.returns-in_err-add_log
returns-in_err-add_log c = IfOk-from_err c.from_residual.result _ c.from_residual.ensures.0

pub returns-in_ok-add_log : goal.returns-in_ok-add_log
returns-in_ok-add_log c =
    let log = c.in_ok-add_log.ensures in
    subst (λ (o : Option ℕ). AddsBlank c.args.wanted.now o c.args.draft.now c.add_log.new.draft) (sym c.in-Some.is) (record { adds = log.adds; reads = log.reads })
