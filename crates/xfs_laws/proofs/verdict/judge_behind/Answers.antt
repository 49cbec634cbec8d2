use Rattle.std.proofs.Common.{◌≡◌, ◌++◌, Option, Some, None, sym, ◌∙◌}
use Rattle.std.proofs.lemmas.Result.{IfOk-at_ok}
use Rattle.xfs_volume.specs.Laws.{first_broken}
use Rattle.xfs_volume.specs.declared.findings.Law.{Law}
use Rattle.xfs_volume.proofs.First.{first_behind, first_in}
use Rattle.xfs_naming.specs.Lawful.{IsNamingLawful}
use Rattle.xfs_naming.specs.Naming.{naming_laws}
use Rattle.xfs_laws.specs.Counting.{log_laws}
use Rattle.xfs_laws.proofs.Firsts.{some_none}
use Rattle.xfs_laws.proofs.verdict.judge_behind.Goals as goal

pub judge_log-requires : goal.judge_log-requires
judge_log-requires c = c.requires.catalog

pub returns-in-Some-clause-law : goal.returns-in-Some-clause-law
returns-in-Some-clause-law c =
    let k = c.args.catalog.now in
    let names = naming_laws k.geometry.rootino k.files k.entries k.dirs in
    let is = IfOk-at_ok (λ (o : Option Law). o ≡ first_broken names) c.in-Ok.is c.requires.law in
    sym (first_in names (log_laws k.groups k.log k.lsns) c.in-Some.law (sym is ∙ c.in-Some.is))

pub returns-in-Some-clause-names : goal.returns-in-Some-clause-names
returns-in-Some-clause-names c = λ e. absurd (some_none c.in-Some.law e)

pub returns-in-None-clause-law : goal.returns-in-None-clause-law
returns-in-None-clause-law c =
    let k = c.args.catalog.now in
    let names = naming_laws k.geometry.rootino k.files k.entries k.dirs in
    let is = IfOk-at_ok (λ (o : Option Law). o ≡ first_broken names) c.in-Ok.is c.requires.law in
    c.judge_log.ensures ∙ sym (first_behind names (log_laws k.groups k.log k.lsns) (sym is ∙ c.in-None.is))

pub returns-in-None-clause-names : goal.returns-in-None-clause-names
returns-in-None-clause-names c =
    let k = c.args.catalog.now in
    let lawful = IfOk-at_ok (λ (o : Option Law). o ≡ None → IsNamingLawful k.geometry.rootino k.files k.entries k.dirs) c.in-Ok.is c.requires.names in
    λ _. lawful c.in-None.is

pub returns-in-Err-clause-law : goal.returns-in-Err-clause-law
returns-in-Err-clause-law c = tt

pub returns-in-Err-clause-names : goal.returns-in-Err-clause-names
returns-in-Err-clause-names c = tt
