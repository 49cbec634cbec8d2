use Rattle.std.proofs.Common.{rules, ◌≡◌, ◌≢◌, ◌-◌, Option, Some, None, sym, ◌∙◌}
use Rattle.std.specs.Option.{ForSome}
use Rattle.xfs_geom.specs.Electing.{vote_of}
use Rattle.xfs_laws.specs.Lawful.{broken_law}
use Rattle.xfs_image.specs.Consistent.{backup_found, finding, view_found}
use Rattle.xfs_image.specs.declared.findings.Finding.{Finding}
use Rattle.xfs_scan.specs.Evidence.{view_seen}
use Rattle.xfs_mend.proofs.Deciding.{found_first, found_in_backups, found_in_view, if_ok}
use Rattle.xfs_backups.specs.Backups.{first_disagreeing}
use Rattle.xfs_mend.proofs.finding.find_first.Goals as goal

pub returns-then-chosen-ne0-clause-found : goal.returns-then-chosen-ne0-clause-found
returns-then-chosen-ne0-clause-found g c =
    λ image told.
    let other : c.args.chosen.now.from ≢ 0 = search rules in
    found_first c.args.chosen.now.geometry image (vote_of c.args.chosen.now) (c.requires.elects image told) c.requires.stated other

pub returns-in-Ok-Some-clause-found : goal.returns-in-Ok-Some-clause-found
returns-in-Ok-Some-clause-found g c =
    λ image told.
    let first : c.args.chosen.now.from ≡ 0 = search rules in
    let judged : Some c.in-Ok-Some.found ≡ view_found broken_law (view_seen c.args.seen.now) None = sym c.in-Ok-Some.field-0-is ∙ c.in-Ok-Some.ensures.found in
    found_in_view c.args.chosen.now.geometry image (vote_of c.args.chosen.now) (view_seen c.args.seen.now) c.in-Ok-Some.found (c.requires.elects image told)
    c.requires.stated first (c.requires.view image told) judged

pub returns-in-Ok-None-clause-found : goal.returns-in-Ok-None-clause-found
returns-in-Ok-None-clause-found g c =
    let first : c.args.chosen.now.from ≡ 0 = search rules in
    let judged : None ≡ view_found broken_law (view_seen c.args.seen.now) None = sym c.in-Ok-None.field-0-is ∙ c.in-Ok-None.ensures.found in
    let geometry = c.args.chosen.now.geometry in
    if_ok c.find_backup.result
    (λ (found : Option Finding). ForSome (g.D.Disk.holds c.args.disk.now) (λ image. found ≡ backup_found (first_disagreeing c.args.chosen.now.sector image 1 (geometry.agcount - 1))))
    (λ (found : Option Finding). ForSome (g.D.Disk.holds c.args.disk.now) (λ image. found ≡ finding broken_law geometry image))
    (λ found held image told.
    found_in_backups geometry image (vote_of c.args.chosen.now) (view_seen c.args.seen.now) found (c.requires.elects image told) c.requires.stated first
    (c.requires.view image told) judged (held image told))
    c.find_backup.ensures.found
