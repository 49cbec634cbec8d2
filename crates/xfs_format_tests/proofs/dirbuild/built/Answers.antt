use Rattle.std.proofs.Common.{◌≡◌, List, true, sym, subst}
use Rattle.xfs_dirdata.specs.declared.records.EntryRec.{EntryRec}
use Rattle.xfs_dirindex.specs.Data.{have_no_dots}
use Rattle.xfs_dirbuild.proofs.Ascending.{named-no_dots}
use Rattle.xfs_format_tests.proofs.dirbuild.built.Goals as goal

pub build-requires-clause-names : goal.build-requires-clause-names
build-requires-clause-names c =
    subst (λ (es : List EntryRec). have_no_dots es ≡ true) (sym c.deref.ensures.value) (named-no_dots c.in_ok-entries.entries.items c.in_ok-entries.ensures.each)
