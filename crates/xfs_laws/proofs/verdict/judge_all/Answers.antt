use Rattle.std.proofs.Common.{◌≡◌, ◌++◌, Option, None, sym, ◌∙◌}
use Rattle.std.proofs.lemmas.Result.{IfOk-at_ok}
use Rattle.xfs_geom.specs.Volumes.{volume_of}
use Rattle.xfs_space.specs.SpaceLaws.{IsSpaceLawful, space_laws}
use Rattle.xfs_volume.specs.declared.findings.Law.{Law}
use Rattle.xfs_volume.specs.Laws.{first_broken}
use Rattle.xfs_laws.specs.Lawful.{counting_laws}
use Rattle.xfs_laws.proofs.Firsts.{some_none}
use Rattle.xfs_laws.proofs.Verdicts.{first_number, judged, told}
use Rattle.xfs_laws.proofs.verdict.judge_all.Goals as goal

pub judge_behind-requires-clause-catalog : goal.judge_behind-requires-clause-catalog
judge_behind-requires-clause-catalog c = c.requires.catalog

pub judge_behind-requires-clause-law : goal.judge_behind-requires-clause-law
judge_behind-requires-clause-law c = c.requires.law

pub judge_behind-requires-clause-names : goal.judge_behind-requires-clause-names
judge_behind-requires-clause-names c = c.requires.names

pub returns-in-Some-clause-law : goal.returns-in-Some-clause-law
returns-in-Some-clause-law c =
    let k = c.args.catalog.now in
    let is = IfOk-at_ok (λ (o : Option Law). o ≡ first_broken (space_laws (volume_of k.geometry) k.groups k.files ++ counting_laws k)) c.in-Ok.is c.requires.numbers in
    first_number k c.in-Some.law (sym is ∙ c.in-Some.is)

pub returns-in-Some-clause-space : goal.returns-in-Some-clause-space
returns-in-Some-clause-space c = λ e. absurd (some_none c.in-Some.law e)

pub returns-in-Some-clause-names : goal.returns-in-Some-clause-names
returns-in-Some-clause-names c = λ e. absurd (some_none c.in-Some.law e)

pub returns-in-None-clause-law : goal.returns-in-None-clause-law
returns-in-None-clause-law c =
    let k = c.args.catalog.now in
    let is = IfOk-at_ok (λ (o : Option Law). o ≡ first_broken (space_laws (volume_of k.geometry) k.groups k.files ++ counting_laws k)) c.in-Ok.is c.requires.numbers in
    judged k c.judge_behind.result (sym is ∙ c.in-None.is) c.judge_behind.ensures.law

pub returns-in-None-clause-space : goal.returns-in-None-clause-space
returns-in-None-clause-space c =
    let k = c.args.catalog.now in
    let lawful = IfOk-at_ok (λ (o : Option Law). o ≡ None → IsSpaceLawful (volume_of k.geometry) k.groups k.files) c.in-Ok.is c.requires.space in
    told c.judge_behind.result _ (λ (o : Option Law). o ≡ None → IsSpaceLawful (volume_of k.geometry) k.groups k.files) (λ o _. lawful c.in-None.is) c.judge_behind.ensures.law

pub returns-in-None-clause-names : goal.returns-in-None-clause-names
returns-in-None-clause-names c = c.judge_behind.ensures.names

pub returns-in-Err-clause-law : goal.returns-in-Err-clause-law
returns-in-Err-clause-law c = tt

pub returns-in-Err-clause-space : goal.returns-in-Err-clause-space
returns-in-Err-clause-space c = tt

pub returns-in-Err-clause-names : goal.returns-in-Err-clause-names
returns-in-Err-clause-names c = tt
