use Rattle.std.proofs.Common.{List, map, sym, ◌∙◌, ap, subst, arith}
use Rattle.std.proofs.lemmas.List.{length-map}
use Rattle.xfs_geom.specs.declared.records.Run.{Run}
use Rattle.xfs_kinds.specs.MergedRuns.{NoneJoin, held_at}
use Rattle.xfs_place.specs.Claims.{AreClaims}
use Rattle.xfs_place.specs.Placing.{run_of_record}
use Rattle.xfs_place.proofs.Ordered.{claims_few, merged_claims, offsets_plain}
use Rattle.std.proofs.lemmas.Result.{IfOk-from_err}
use Rattle.xfs_place.proofs.group_lists.list_records.Goals as goal

pub to_records-requires : goal.to_records-requires
to_records-requires c =
    subst (AreClaims c.args.end) (sym (c.deref.ensures.value ∙ c.in_ok-joined.ensures.joined)) (merged_claims c.args.end c.args.owned.now c.requires)

pub returns-clause-claims : goal.returns-clause-claims
returns-clause-claims c =
    subst (AreClaims c.args.end) (sym (c.in_ok-to_records.ensures ∙ c.deref.ensures.value ∙ c.in_ok-joined.ensures.joined)) (merged_claims c.args.end c.args.owned.now c.requires)

pub returns-clause-held : goal.returns-clause-held
returns-clause-held c = λ block.
    ap (λ (rs : List Run). held_at rs block) (c.in_ok-to_records.ensures ∙ c.deref.ensures.value)
    ∙ c.in_ok-joined.ensures.held (offsets_plain c.args.end c.args.owned.now c.requires.each) block

pub returns-clause-apart : goal.returns-clause-apart
returns-clause-apart c = subst NoneJoin (sym (c.in_ok-to_records.ensures ∙ c.deref.ensures.value)) c.in_ok-joined.ensures.apart

pub returns-clause-few : goal.returns-clause-few
returns-clause-few c =
    let records = c.in_ok-to_records.field-0.items in
    let few = claims_few 0 c.args.end (map run_of_record records) (returns-clause-claims c).ascend (returns-clause-claims c).each (omega arith) in
    omega (arith, few, length-map records run_of_record)

pub returns-in_err-joined-clause-claims : goal.returns-in_err-joined-clause-claims
returns-in_err-joined-clause-claims c = IfOk-from_err c.from_residual.result _ c.from_residual.ensures.0

pub returns-in_err-joined-clause-held : goal.returns-in_err-joined-clause-held
returns-in_err-joined-clause-held c = IfOk-from_err c.from_residual.result _ c.from_residual.ensures.0

pub returns-in_err-joined-clause-apart : goal.returns-in_err-joined-clause-apart
returns-in_err-joined-clause-apart c = IfOk-from_err c.from_residual.result _ c.from_residual.ensures.0

pub returns-in_err-joined-clause-few : goal.returns-in_err-joined-clause-few
returns-in_err-joined-clause-few c = IfOk-from_err c.from_residual.result _ c.from_residual.ensures.0

pub returns-in_err-to_records-clause-claims : goal.returns-in_err-to_records-clause-claims
returns-in_err-to_records-clause-claims c = IfOk-from_err c.from_residual-in_err-to_records.result _ c.from_residual-in_err-to_records.ensures.0

pub returns-in_err-to_records-clause-held : goal.returns-in_err-to_records-clause-held
returns-in_err-to_records-clause-held c = IfOk-from_err c.from_residual-in_err-to_records.result _ c.from_residual-in_err-to_records.ensures.0

pub returns-in_err-to_records-clause-apart : goal.returns-in_err-to_records-clause-apart
returns-in_err-to_records-clause-apart c = IfOk-from_err c.from_residual-in_err-to_records.result _ c.from_residual-in_err-to_records.ensures.0

pub returns-in_err-to_records-clause-few : goal.returns-in_err-to_records-clause-few
returns-in_err-to_records-clause-few c = IfOk-from_err c.from_residual-in_err-to_records.result _ c.from_residual-in_err-to_records.ensures.0
