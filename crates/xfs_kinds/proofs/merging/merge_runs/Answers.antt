use Rattle.std.proofs.Common.{◌≡◌, ℕ, List, [], ◌∷◌, length, refl, sym, ap, ◌∙◌, subst, IfOk}
use Rattle.xfs_geom.specs.declared.records.Run.{Run}
use Rattle.xfs_kinds.specs.MergedRuns.{AreRuns, OffsetsAreOfData, NoneJoin, held_at, merged}
use Rattle.xfs_kinds.proofs.merging.merge_runs.Goals as goal

empty : (rs : List Run) → length rs ≡ 0 → rs ≡ []
empty [] is = refl
empty (r ∷ rs) is = cc

pub merge_behind-requires : goal.merge_behind-requires
merge_behind-requires c = subst (AreRuns 0) c.in-Some.ensures.cases.0 c.requires

pub returns-in-Some-clause-joined : goal.returns-in-Some-clause-joined
returns-in-Some-clause-joined c = subst (λ (rs : List Run). IfOk c.merge_behind.result (λ joined. joined.items ≡ merged rs)) (sym c.in-Some.ensures.cases.0) c.merge_behind.ensures.joined

pub returns-in-Some-clause-apart : goal.returns-in-Some-clause-apart
returns-in-Some-clause-apart c = c.merge_behind.ensures.apart

pub returns-in-Some-clause-held : goal.returns-in-Some-clause-held
returns-in-Some-clause-held c = subst (λ (rs : List Run). OffsetsAreOfData rs → IfOk c.merge_behind.result (λ joined. (block : ℕ) → held_at joined.items block ≡ held_at rs block)) (sym c.in-Some.ensures.cases.0) c.merge_behind.ensures.held

pub returns-in-None-clause-joined : goal.returns-in-None-clause-joined
unfolding merged
returns-in-None-clause-joined c = c.new.ensures.items ∙ sym (ap merged (empty c.args.runs.now c.in-None.ensures.cases))

pub returns-in-None-clause-apart : goal.returns-in-None-clause-apart
returns-in-None-clause-apart c = subst NoneJoin (sym c.new.ensures.items) tt

pub returns-in-None-clause-held : goal.returns-in-None-clause-held
returns-in-None-clause-held c = λ offsets block. ap (λ (rs : List Run). held_at rs block) (c.new.ensures.items ∙ sym (empty c.args.runs.now c.in-None.ensures.cases))
