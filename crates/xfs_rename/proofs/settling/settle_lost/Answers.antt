use Rattle.std.proofs.Common.{List, length, map, refl, sym, subst, ap, ◌∙◌}
use Rattle.xfs_dirdata.specs.declared.records.EntryRec.{EntryRec}
use Rattle.xfs_links.specs.Entries.{AreEntries}
use Rattle.xfs_links.specs.Together.{orphans_of}
use Rattle.xfs_links.specs.declared.records.NodeRec.{NodeRec}
use Rattle.xfs_naming.specs.Naming.{NumbersAscend, numbers_of}
use Rattle.xfs_names.specs.Wanted.{AreDecided}
use Rattle.xfs_volume.specs.declared.directories.DirRec.{DirRec}
use Rattle.xfs_volume.specs.declared.files.FileRec.{FileRec}
use Rattle.xfs_rebuild.proofs.Grounds.{low_root}
use Rattle.xfs_rebuild.proofs.Known.{known_files_ascend}
use Rattle.xfs_rename.proofs.SettledNames.{all_settled, dirs_ascend, rebuilt_ascends}
use Rattle.xfs_rename.proofs.settling.settle_lost.Goals as goal

pub is_new_number-requires : goal.is_new_number-requires
is_new_number-requires c = c.requires.decided.files'

pub want_names-requires-clause-nodes : goal.want_names-requires-clause-nodes
want_names-requires-clause-nodes c = c.requires.decided.files'

pub want_names-requires-clause-listed : goal.want_names-requires-clause-listed
want_names-requires-clause-listed c = subst (λ (es : List EntryRec). AreEntries c.args.nodes.now es) (sym c.as_slice-entries.ensures) c.requires.decided.listed

pub want_names-requires-clause-dirs : goal.want_names-requires-clause-dirs
want_names-requires-clause-dirs c =
    subst (λ (ds : List DirRec). NumbersAscend 0 (map (λ (d : DirRec). d.ino) ds)) (sym c.as_slice-dirs.ensures) (dirs_ascend c.args.g.now c.args.stamp.now c.args.due.now c.requires.due)

pub want_names-requires-clause-root : goal.want_names-requires-clause-root
want_names-requires-clause-root c = c.requires.decided.root'

pub want_names-requires-clause-low : goal.want_names-requires-clause-low
want_names-requires-clause-low c = low_root c.args.g.now

pub want_names-requires-clause-new : goal.want_names-requires-clause-new
want_names-requires-clause-new c = c.is_new_number.ensures.free c.if-not-is_new_number.false

pub want_names-requires-clause-names : goal.want_names-requires-clause-names
want_names-requires-clause-names c =
    subst (λ (es : List EntryRec). AreDecided c.args.nodes.now es c.args.g.now.rootino c.args.decided) (sym c.as_slice-entries.ensures) c.requires.decided.decided

pub with_built-requires-clause-files : goal.with_built-requires-clause-files
with_built-requires-clause-files c =
    subst (λ (fs : List FileRec). NumbersAscend 0 (numbers_of fs)) (sym c.as_slice-in-Ok.ensures) (known_files_ascend c.args.g.now c.args.stamp.now c.args.due.now c.requires.due)

pub with_built-requires-clause-ascend : goal.with_built-requires-clause-ascend
with_built-requires-clause-ascend c =
    let is = c.in-Ok.ensures in
    rebuilt_ascends c.args.nodes.now c.as_slice-entries.result.now c.as_slice-dirs.result.now c.args.g.now.rootino c.args.lost.new c.in-Ok.names
    (is.buildable (c.is_new_number.ensures.low c.if-not-is_new_number.false)) is.parents is.rebuilt

pub with_built-requires-clause-can : goal.with_built-requires-clause-can
with_built-requires-clause-can c = c.in-Ok.ensures.buildable (c.is_new_number.ensures.low c.if-not-is_new_number.false)

pub returns-then-not-is_new_number : goal.returns-then-not-is_new_number
returns-then-not-is_new_number c = record { settled = tt; cause = refl }

pub returns-in-Ok : goal.returns-in-Ok
returns-in-Ok c =
    let is = c.in-Ok.ensures in
    let made = c.with_built.ensures in
    let due = c.args.due.now in
    let root = c.args.g.now.rootino in
    record {
      settled =
          all_settled c.args.nodes.now c.as_slice-entries.result.now c.as_slice-dirs.result.now root c.args.lost.new c.in-Ok.names
          (is.buildable (c.is_new_number.ensures.low c.if-not-is_new_number.false)) is.parents is.rebuilt
          c.args.g.now due c.args.lost (length c.as_slice.result.now) c.with_built.result
          c.requires.decided.nodes' c.as_slice-entries.ensures c.as_slice-dirs.ensures refl refl
          is.entries is.links c.requires.lost c.requires.found
          (ap length (c.as_slice.ensures ∙ c.requires.decided.decided.orphans) ∙ ap (λ (ns : List NodeRec). length (orphans_of ns due.entries root)) c.requires.decided.nodes')
          c.as_slice-in-Ok.result.now c.as_slice-in-Ok.ensures
          made.place made.wanted made.rooms made.numbers made.each made.without;
      cause = made.cause;
    }

pub returns-in-Err : goal.returns-in-Err
returns-in-Err c = record { settled = tt; cause = refl }
