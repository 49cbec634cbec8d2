use Rattle.std.proofs.Common.{ℕ, ◌<◌, ◌≤◌, ◌==◌, ◌∙◌, sym, ap, subst, arith, List, length}
use Rattle.std.specs.List.{All}
use Rattle.std.proofs.lemmas.List.Elements.{All-filter}
use Rattle.xfs_dirdata.specs.declared.records.EntryRec.{EntryRec}
use Rattle.xfs_dirdata.specs.Written.{IsWritableEntry}
use Rattle.xfs_dirindex.specs.Data.{have_no_dots}
use Rattle.xfs_naming.specs.Naming.{entries_in}
use Rattle.xfs_names.specs.Pairs.{parent_or_itself}
use Rattle.xfs_names.specs.Built.{fork_room}
use Rattle.xfs_names.proofs.OwnEntries.{own_no_dots, own_few, low_parent, image_same}
use Rattle.xfs_names.proofs.building.build_one.Goals as goal

pub build_image-requires-clause-writable : goal.build_image-requires-clause-writable
build_image-requires-clause-writable c =
    subst (All IsWritableEntry) (sym (c.records_by_number-entries.ensures ∙ ap (λ (es : List EntryRec). entries_in es c.args.dir) c.as_slice.ensures))
    (All-filter (λ (e : EntryRec). e.dir == c.args.dir) IsWritableEntry c.args.wanted.now.entries c.requires.wanted.writable)

pub build_image-requires-clause-names : goal.build_image-requires-clause-names
build_image-requires-clause-names c =
    ap have_no_dots (c.records_by_number-entries.ensures ∙ ap (λ (es : List EntryRec). entries_in es c.args.dir) c.as_slice.ensures)
    ∙ own_no_dots c.args.wanted.now.entries c.args.dir c.requires.wanted.names

pub build_image-requires-clause-few : goal.build_image-requires-clause-few
build_image-requires-clause-few c =
    subst (λ (es : List EntryRec). length es ≤ 16777216) (sym (c.records_by_number-entries.ensures ∙ ap (λ (es : List EntryRec). entries_in es c.args.dir) c.as_slice.ensures))
    (omega (arith, own_few c.args.wanted.now.entries c.args.dir, c.requires.wanted.few))

pub build_image-requires-clause-parent : goal.build_image-requires-clause-parent
build_image-requires-clause-parent c =
    subst (λ n. n < 4294967296) (sym (c.parent_or_itself-parent.ensures ∙ ap (λ (ps : List (ℕ × ℕ)). parent_or_itself ps c.args.dir) c.as_slice-2.ensures))
    (low_parent c.args.wanted.now.parents c.args.dir c.requires.wanted.parents_low c.requires.dir)

pub returns-clause-built : goal.returns-clause-built
returns-clause-built c =
    image_same c.records_by_number-entries.result.now (entries_in c.args.wanted.now.entries c.args.dir) c.parent_or_itself-parent.result (parent_or_itself c.args.wanted.now.parents c.args.dir)
    c.fork_room.result (fork_room c.args.rooms.now c.args.dir) c.args.dir c.in_ok-image.image
    (c.records_by_number-entries.ensures ∙ ap (λ (es : List EntryRec). entries_in es c.args.dir) c.as_slice.ensures)
    (c.parent_or_itself-parent.ensures ∙ ap (λ (ps : List (ℕ × ℕ)). parent_or_itself ps c.args.dir) c.as_slice-2.ensures)
    c.fork_room.ensures c.in_ok-image.ensures
