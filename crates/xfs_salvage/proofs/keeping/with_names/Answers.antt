use Rattle.std.proofs.Common.{List, filter, sym, ◌∙◌, ap, subst}
use Rattle.xfs_volume.specs.Names.{is_directory}
use Rattle.xfs_volume.specs.declared.files.FileRec.{FileRec}
use Rattle.xfs_naming.specs.Naming.{NumbersAscend, numbers_of}
use Rattle.xfs_salvage.proofs.Ascending.{filtered}
use Rattle.xfs_salvage.proofs.Directories.{dirs_are, entries_are}
use Rattle.xfs_salvage.proofs.keeping.with_names.Goals as goal

pub entries_of-entries-requires : goal.entries_of-entries-requires
entries_of-entries-requires c =
    subst (NumbersAscend 0) (sym (c.deref.ensures.value ∙ c.in_ok-directories.ensures ∙ ap (λ (fs : List FileRec). numbers_of (filter is_directory fs)) c.as_slice-2.ensures))
    (filtered is_directory 0 c.args.files c.requires.ascend)

pub dirs_of-dirs-requires : goal.dirs_of-dirs-requires
dirs_of-dirs-requires c =
    subst (NumbersAscend 0) (sym (c.deref-2.ensures.value ∙ c.in_ok-directories.ensures ∙ ap (λ (fs : List FileRec). numbers_of (filter is_directory fs)) c.as_slice-2.ensures))
    (filtered is_directory 0 c.args.files c.requires.ascend)

pub returns-clause-entries : goal.returns-clause-entries
returns-clause-entries c =
    c.entries_of-entries.ensures
    ∙ entries_are c.args.files c.deref.result.now c.args.entries
    (c.deref.ensures.value ∙ c.in_ok-directories.ensures ∙ ap (λ (fs : List FileRec). numbers_of (filter is_directory fs)) c.as_slice-2.ensures)

pub returns-clause-dirs : goal.returns-clause-dirs
returns-clause-dirs c =
    c.dirs_of-dirs.ensures
    ∙ dirs_are c.args.files c.deref-2.result.now c.args.dirs
    (c.deref-2.ensures.value ∙ c.in_ok-directories.ensures ∙ ap (λ (fs : List FileRec). numbers_of (filter is_directory fs)) c.as_slice-2.ensures)
