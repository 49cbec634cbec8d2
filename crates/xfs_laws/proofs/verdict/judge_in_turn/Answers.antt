use Rattle.std.proofs.Common.{◌≡◌, ◌++◌, Option, None, sym, ◌∙◌}
use Rattle.xfs_geom.specs.Volumes.{volume_of}
use Rattle.xfs_space.specs.SpaceLaws.{IsSpaceLawful}
use Rattle.xfs_volume.specs.declared.findings.Law.{Law}
use Rattle.xfs_laws.proofs.Firsts.{some_none}
use Rattle.xfs_laws.proofs.Verdicts.{first_number, judged, told}
use Rattle.xfs_laws.proofs.verdict.judge_in_turn.Goals as goal

pub judge_behind-requires-clause-catalog : goal.judge_behind-requires-clause-catalog
judge_behind-requires-clause-catalog g c = c.requires

pub judge_behind-requires-clause-law : goal.judge_behind-requires-clause-law
judge_behind-requires-clause-law g c = c.judge_names.ensures.law

pub judge_behind-requires-clause-names : goal.judge_behind-requires-clause-names
judge_behind-requires-clause-names g c = c.judge_names.ensures.names

pub returns-in-Some-clause-law : goal.returns-in-Some-clause-law
returns-in-Some-clause-law g c =
    let k = c.args.catalog.now in
    let is = c.in-Ok.ensures.law in
    first_number k c.in-Some.law (sym is ∙ c.in-Some.is)

pub returns-in-Some-clause-space : goal.returns-in-Some-clause-space
returns-in-Some-clause-space g c = λ e. absurd (some_none c.in-Some.law e)

pub returns-in-Some-clause-names : goal.returns-in-Some-clause-names
returns-in-Some-clause-names g c = λ e. absurd (some_none c.in-Some.law e)

pub returns-in-None-clause-law : goal.returns-in-None-clause-law
returns-in-None-clause-law g c =
    let k = c.args.catalog.now in
    let is = c.in-Ok.ensures.law in
    judged k c.judge_behind.result (sym is ∙ c.in-None.is) c.judge_behind.ensures.law

pub returns-in-None-clause-space : goal.returns-in-None-clause-space
returns-in-None-clause-space g c =
    let k = c.args.catalog.now in
    let lawful = c.in-Ok.ensures.space in
    told c.judge_behind.result _ (λ (o : Option Law). o ≡ None → IsSpaceLawful (volume_of k.geometry) k.groups k.files) (λ o _. lawful c.in-None.is) c.judge_behind.ensures.law

pub returns-in-None-clause-names : goal.returns-in-None-clause-names
returns-in-None-clause-names g c = c.judge_behind.ensures.names

pub returns-in-Err-clause-law : goal.returns-in-Err-clause-law
returns-in-Err-clause-law g c = tt

pub returns-in-Err-clause-space : goal.returns-in-Err-clause-space
returns-in-Err-clause-space g c = tt

pub returns-in-Err-clause-names : goal.returns-in-Err-clause-names
returns-in-Err-clause-names g c = tt
