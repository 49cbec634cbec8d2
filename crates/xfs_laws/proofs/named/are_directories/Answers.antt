use Rattle.std.proofs.Common.{◌≡◌, ◌↔◌, ◌≤◌, ℕ, ◌+◌, ◌<◌, false, filter, map, length, drop, arith, sym, ◌∙◌, subst}
use Rattle.xfs_volume.specs.Names.{is_directory}
use Rattle.xfs_volume.specs.declared.directories.DirRec.{DirRec}
use Rattle.xfs_volume.specs.declared.files.FileRec.{FileRec}
use Rattle.xfs_laws.proofs.Directories.{none_left, other_dir, other_file, same_dir}
use Rattle.xfs_laws.proofs.Grouped.{none_more}
use Rattle.xfs_laws.proofs.named.are_directories.Goals.{then-is_directory+else-at-dirs+else-dirs-at, else-is_directory}
use Rattle.xfs_laws.proofs.named.are_directories.Goals as goal

abbrev no_dir : DirRec
no_dir = record { ino = 0; parent = 0; whole = false }

below : (at n : ℕ) → at ≤ n → (at ≡ n → ⊥) → at < n
below at n within other = omega arith

more_within : (at n : ℕ) → at < n → at + 1 ≤ n
more_within at n less = omega arith

pub loop-file-preserved : goal.loop-file-preserved
loop-file-preserved c =
    let dirs = c.args.dirs.now in
    let files = c.args.files.now in
    let at = c.loop-file.at in
    let i = c.loop-file.file-index in
    let whole = map (λ (d : DirRec). d.ino) dirs ≡ map (λ (f : FileRec). f.ino) (filter is_directory files) in
    let Within : ℕ → Type 0 = λ n. n ≤ length dirs in
    let Left : ℕ → Type 0 = λ n. (map (λ (d : DirRec). d.ino) (drop n dirs) ≡ map (λ (f : FileRec). f.ino) (filter is_directory (drop (i + 1) files))) ↔ whole in
    elim c.if-is_directory.branch [
      | then-is_directory+else-at-dirs+else-dirs-at w ↦
          let less = below at (length dirs) c.loop-file.invariant.within w.if-at-dirs.false in
          record {
            within = subst Within (sym w.at-is) (more_within at (length dirs) less);
            left = subst Left (sym w.at-is) (same_dir dirs files at i c.loop-file.invariant.left c.file-item.result c.loop-file-test.true c.file-item.is no_dir
                (sym c.is_directory.ensures ∙ w.if-is_directory.true) less w.if-dirs-at.false);
          }
      | else-is_directory w ↦
          record {
            within = subst Within (sym w.at-is) c.loop-file.invariant.within;
            left = subst Left (sym w.at-is) (other_file dirs files at i c.loop-file.invariant.left c.file-item.result c.loop-file-test.true c.file-item.is
                (sym c.is_directory.ensures ∙ w.if-is_directory.false));
          }
    ]

pub returns-then-at-dirs : goal.returns-then-at-dirs
returns-then-at-dirs c =
    none_left c.args.dirs.now c.args.files.now c.loop-file.at c.loop-file.file-index c.loop-file.invariant.left c.file-item.result c.loop-file-test.true
    c.file-item.is (sym c.is_directory.ensures ∙ c.if-is_directory.true) c.if-at-dirs.true

pub returns-then-dirs-at : goal.returns-then-dirs-at
returns-then-dirs-at c =
    other_dir c.args.dirs.now c.args.files.now c.loop-file.at c.loop-file.file-index c.loop-file.invariant.left c.file-item.result c.loop-file-test.true
    c.file-item.is no_dir (sym c.is_directory.ensures ∙ c.if-is_directory.true)
    (below c.loop-file.at (length c.args.dirs.now) c.loop-file.invariant.within c.if-at-dirs.false) c.if-dirs-at.true

pub returns : goal.returns
returns c =
    none_more c.args.dirs.now c.args.files.now c.loop-file.file-index c.loop-file.at
    (map (λ (d : DirRec). d.ino) c.args.dirs.now ≡ map (λ (f : FileRec). f.ino) (filter is_directory c.args.files.now))
    c.loop-file-test.false c.loop-file.invariant.within c.loop-file.invariant.left
