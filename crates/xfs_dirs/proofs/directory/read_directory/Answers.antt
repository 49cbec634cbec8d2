use Rattle.std.proofs.Common.{◌≡◌, false, true, ◌∙◌, ◌+◌, List, None, sym, subst}
use Rattle.std.proofs.lemmas.Bool.{eq-eqb, ne_eqb}
use Rattle.xfs_geom.specs.Volumes.{volume_of}
use Rattle.xfs_volume.specs.declared.files.FileRec.{FileRec}
use Rattle.xfs_image.specs.Directories.{is_short}
use Rattle.xfs_dirs.proofs.Readings.{block_form_entries, block_form_parent, block_form_whole, short_entries, short_parent, short_whole}
use Rattle.xfs_word.specs.declared.extents.Extent.{Extent}
use Rattle.xfs_inode.specs.Files.{are_extents}
use Rattle.xfs_disk.proofs.Reading.{reads_none}
use Rattle.xfs_dirs.proofs.Causes.{no_later}
use Rattle.xfs_dirs.proofs.directory.read_directory.Goals as goal

-- a format is that of the short form, or it is not
short_form : (f : FileRec) → f.core.format ≡ 1 → is_short f ≡ true
short_form f is = eq-eqb f.core.format 1 is

long_form : (f : FileRec) → (f.core.format ≡ 1 → ⊥) → is_short f ≡ false
long_form f other = ne_eqb f.core.format 1 other

pub returns-in-Ok-clause-entries : goal.returns-in-Ok-clause-entries
returns-in-Ok-clause-entries g c = λ image told.
    let f = c.args.file.now in
    c.in-Ok.ensures.entries ∙ short_entries (volume_of c.args.g.now) image f c.args.slot.now (short_form f c.if-file-eq1.true) (c.requires.held image told)

pub returns-in-Ok-clause-parent : goal.returns-in-Ok-clause-parent
returns-in-Ok-clause-parent g c = λ image told.
    let f = c.args.file.now in
    c.in-Ok.ensures.parent ∙ short_parent (volume_of c.args.g.now) image f c.args.slot.now (short_form f c.if-file-eq1.true) (c.requires.held image told)

pub returns-in-Ok-clause-whole : goal.returns-in-Ok-clause-whole
returns-in-Ok-clause-whole g c = λ image told.
    let f = c.args.file.now in
    c.in-Ok.ensures.whole ∙ short_whole (volume_of c.args.g.now) image f c.args.slot.now (short_form f c.if-file-eq1.true) (c.requires.held image told)

pub returns-in-Ok-judged-clause-entries : goal.returns-in-Ok-judged-clause-entries
returns-in-Ok-judged-clause-entries g c = λ image told.
    let f = c.args.file.now in
    c.in-Ok-judged.ensures.entries
    ∙ block_form_entries (volume_of c.args.g.now) image f c.in-Ok-read_extents.gathered c.as_slice.result.now (long_form f c.if-file-eq1.false) c.as_slice.ensures
    (c.in-Ok-read_extents.ensures.found image told)

pub returns-in-Ok-judged-clause-parent : goal.returns-in-Ok-judged-clause-parent
returns-in-Ok-judged-clause-parent g c = λ image told.
    let f = c.args.file.now in
    c.in-Ok-judged.ensures.parent
    ∙ block_form_parent (volume_of c.args.g.now) image f c.in-Ok-read_extents.gathered c.as_slice.result.now (long_form f c.if-file-eq1.false) c.as_slice.ensures
    (c.in-Ok-read_extents.ensures.found image told)

pub returns-in-Ok-judged-clause-whole : goal.returns-in-Ok-judged-clause-whole
returns-in-Ok-judged-clause-whole g c = λ image told.
    let f = c.args.file.now in
    c.in-Ok-judged.ensures.whole
    ∙ block_form_whole (volume_of c.args.g.now) image f c.in-Ok-read_extents.gathered c.as_slice.result.now (long_form f c.if-file-eq1.false) c.as_slice.ensures
    (c.in-Ok-read_extents.ensures.found image told)

pub returns-in-Ok-clause-cause : goal.returns-in-Ok-clause-cause
returns-in-Ok-clause-cause g c = no_later (g.D.Disk.faults c.args.disk.now)

pub returns-in-Ok-clause-disk : goal.returns-in-Ok-clause-disk
returns-in-Ok-clause-disk g c = let D = g.D.Disk in reads_none D.size D.holds D.write_faults D.writes D.tells_stops D.moment D.may_leave D.left_since c.args.disk.now

pub returns-in-Ok-clause-reads : goal.returns-in-Ok-clause-reads
returns-in-Ok-clause-reads g c = no_later (g.D.Disk.reads c.args.disk.now + c.args.steps.now)

pub returns-in-Err : goal.returns-in-Err
returns-in-Err g c = record {
  entries = tt;
  parent = tt;
  whole = tt;
  cause = no_later (g.D.Disk.faults c.args.disk.now);
  disk = (let D = g.D.Disk in reads_none D.size D.holds D.write_faults D.writes D.tells_stops D.moment D.may_leave D.left_since c.args.disk.now);
  reads = no_later (g.D.Disk.reads c.args.disk.now + c.args.steps.now);
}

pub read_extents-requires-clause-extents : goal.read_extents-requires-clause-extents
read_extents-requires-clause-extents g c = subst (λ (es : List Extent). are_extents (volume_of c.args.g.now) None es ≡ true) (sym c.as_slice.ensures) c.requires.extents

pub read_extents-requires-clause-inside : goal.read_extents-requires-clause-inside
read_extents-requires-clause-inside g c = c.requires.inside

pub returns-in-Err-read_extents : goal.returns-in-Err-read_extents
returns-in-Err-read_extents g c = record {
  entries = tt;
  parent = tt;
  whole = tt;
  cause = c.in-Err-read_extents.ensures.cause;
  disk = c.in-Err-read_extents.ensures.disk;
  reads = c.in-Err-read_extents.ensures.reads;
}

pub returns-in-Ok-judged-clause-cause : goal.returns-in-Ok-judged-clause-cause
returns-in-Ok-judged-clause-cause g c = c.in-Ok-read_extents.ensures.cause

pub returns-in-Ok-judged-clause-disk : goal.returns-in-Ok-judged-clause-disk
returns-in-Ok-judged-clause-disk g c = c.in-Ok-read_extents.ensures.disk

pub returns-in-Ok-judged-clause-reads : goal.returns-in-Ok-judged-clause-reads
returns-in-Ok-judged-clause-reads g c = c.in-Ok-read_extents.ensures.reads

pub returns-in-Err-judged : goal.returns-in-Err-judged
returns-in-Err-judged g c = record {
  entries = tt;
  parent = tt;
  whole = tt;
  cause = c.in-Ok-read_extents.ensures.cause;
  disk = c.in-Ok-read_extents.ensures.disk;
  reads = c.in-Ok-read_extents.ensures.reads;
}
