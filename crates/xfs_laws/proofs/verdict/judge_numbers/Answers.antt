use Rattle.std.proofs.Common.{◌≡◌, List, length, None, ap, sym, subst, ap₂, ◌∙◌}
use Rattle.xfs_geom.specs.Volumes.{volume_of}
use Rattle.xfs_space.specs.SpaceLaws.{IsSpaceLawful, space_laws}
use Rattle.xfs_volume.specs.Laws.{first_broken}
use Rattle.xfs_volume.specs.declared.files.FileRec.{FileRec}
use Rattle.xfs_volume.specs.declared.groups.GroupRec.{GroupRec}
use Rattle.xfs_volume.proofs.First.{first_behind, first_in}
use Rattle.std.specs.List.{All}
use Rattle.xfs_space.specs.Parts.{AreGroups, HasLawfulForks}
use Rattle.xfs_laws.specs.Lawful.{counting_laws}
use Rattle.xfs_laws.proofs.Firsts.{some_none}
use Rattle.xfs_laws.proofs.verdict.judge_numbers.Goals as goal

pub returns-in-Some-clause-law : goal.returns-in-Some-clause-law
returns-in-Some-clause-law g c =
    let k = c.args.catalog.now in
    let v = volume_of k.geometry in
    let is = c.in-Ok.ensures.law ∙ ap₂ (λ (gs : List GroupRec) (fs : List FileRec). first_broken (space_laws v gs fs)) c.as_slice-groups.ensures c.as_slice-files.ensures in
    sym (first_in (space_laws v k.groups k.files) (counting_laws k) c.in-Some.law (sym is ∙ c.in-Some.is))

pub returns-in-Some-clause-space : goal.returns-in-Some-clause-space
returns-in-Some-clause-space g c = λ e. absurd (some_none c.in-Some.law e)

pub returns-in-None-clause-law : goal.returns-in-None-clause-law
returns-in-None-clause-law g c =
    let k = c.args.catalog.now in
    let v = volume_of k.geometry in
    let is = c.in-Ok.ensures.law ∙ ap₂ (λ (gs : List GroupRec) (fs : List FileRec). first_broken (space_laws v gs fs)) c.as_slice-groups.ensures c.as_slice-files.ensures in
    c.check_counts.ensures ∙ sym (first_behind (space_laws v k.groups k.files) (counting_laws k) (sym is ∙ c.in-None.is))

pub returns-in-None-clause-space : goal.returns-in-None-clause-space
returns-in-None-clause-space g c =
    let k = c.args.catalog.now in
    let v = volume_of k.geometry in
    let held = c.in-Ok.ensures.lawful.0 c.in-None.is in
    let groups = subst (λ (gs : List GroupRec). IsSpaceLawful v gs c.as_slice-files.result.now) c.as_slice-groups.ensures held in
    λ _. subst (λ (fs : List FileRec). IsSpaceLawful v k.groups fs) c.as_slice-files.ensures groups

pub returns-in-Err-clause-law : goal.returns-in-Err-clause-law
returns-in-Err-clause-law g c = tt

pub returns-in-Err-clause-space : goal.returns-in-Err-clause-space
returns-in-Err-clause-space g c = tt

pub check_space-requires-clause-count : goal.check_space-requires-clause-count
check_space-requires-clause-count g c = λ κs lives. ap length c.as_slice-groups.ensures ∙ c.requires.count

pub check_space-requires-clause-groups : goal.check_space-requires-clause-groups
check_space-requires-clause-groups g c = λ κs lives.
    let v = volume_of c.args.catalog.now.geometry in
    subst (λ (gs : List GroupRec). AreGroups v 0 gs) (sym c.as_slice-groups.ensures) c.requires.groups

pub check_space-requires-clause-files : goal.check_space-requires-clause-files
check_space-requires-clause-files g c = λ κs lives.
    let v = volume_of c.args.catalog.now.geometry in
    subst (λ (fs : List FileRec). All (HasLawfulForks v) fs) (sym c.as_slice-files.ensures) c.requires.files
