use Rattle.std.proofs.Common.{◌<◌, List, length, le_of_eq, sym, ap, ◌∙◌, subst}
use Rattle.std.specs.List.{All}
use Rattle.xfs_geom.specs.Volumes.{volume_of}
use Rattle.xfs_space.specs.Parts.{AreGroups, HasLawfulForks}
use Rattle.xfs_volume.specs.declared.catalogs.BlockLsn.{BlockLsn}
use Rattle.xfs_volume.specs.declared.files.FileRec.{FileRec}
use Rattle.xfs_volume.specs.declared.groups.GroupRec.{GroupRec}
use Rattle.xfs_laws.proofs.Tests.{fails_of, last, named_as, refused}
use Rattle.xfs_laws.proofs.verdict.is_catalog.Goals as goal

pub are_groups-requires : goal.are_groups-requires
are_groups-requires c = le_of_eq c.if-groups-g.false

pub returns-then-groups-g : goal.returns-then-groups-g
returns-then-groups-g c = refused (λ w. c.if-groups-g.true (ap length c.as_slice-groups.ensures ∙ w.count))

pub returns-then-not-are_groups : goal.returns-then-not-are_groups
returns-then-not-are_groups c =
    let v = volume_of c.args.catalog.now.geometry in
    fails_of c.are_groups.ensures c.if-not-are_groups.true (λ w. subst (λ (gs : List GroupRec). AreGroups v 0 gs) (sym c.as_slice-groups.ensures) w.groups)

pub returns-then-not-are_files : goal.returns-then-not-are_files
returns-then-not-are_files c =
    let P = HasLawfulForks (volume_of c.args.catalog.now.geometry) in
    fails_of c.are_files.ensures c.if-not-are_files.true (λ w. subst (λ (fs : List FileRec). All P fs) (sym c.as_slice-files.ensures) w.files)

pub returns-then-not-are_named : goal.returns-then-not-are_named
returns-then-not-are_named c =
    fails_of c.are_named.ensures c.if-not-are_named.true (λ w. named_as (sym c.as_slice-files.ensures) (sym c.as_slice.ensures) (sym c.as_slice-2.ensures) w.names)

pub returns : goal.returns
returns c =
    let g = c.args.catalog.now.geometry in
    let v = volume_of g in
    let P = λ (ls : List BlockLsn). All (λ (l : BlockLsn). l.block < g.dblocks) ls in
    last c.are_lsns.ensures
    (λ lsns. record {
      count = sym (ap length c.as_slice-groups.ensures) ∙ c.if-groups-g.false;
      groups = subst (λ (gs : List GroupRec). AreGroups v 0 gs) c.as_slice-groups.ensures (c.are_groups.ensures.0 c.if-not-are_groups.false);
      files = subst (λ (fs : List FileRec). All (HasLawfulForks v) fs) c.as_slice-files.ensures (c.are_files.ensures.0 c.if-not-are_files.false);
      names = named_as c.as_slice-files.ensures c.as_slice.ensures c.as_slice-2.ensures (c.are_named.ensures.0 c.if-not-are_named.false);
      lsns = subst P c.as_slice-3.ensures lsns;
    })
    (λ w. subst P (sym c.as_slice-3.ensures) w.lsns)
