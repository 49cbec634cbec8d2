use Rattle.std.proofs.Common.{Bool, ◌||◌, ◌==◌, false, get_or, refl, sym, ap, ◌∙◌}
use Rattle.std.specs.List.{list_any}
use Rattle.std.proofs.lemmas.Bool.{eq-eqb, ne_eqb}
use Rattle.std.proofs.lemmas.List.{take_all}
use Rattle.std.proofs.lemmas.List.Folds.{list_any_more, list_any_at}
use Rattle.xfs_volume.specs.declared.directories.DirRec.{DirRec}
use Rattle.xfs_naming.proofs.lookups.have_parent.Goals as goal

abbrev no_dir : DirRec
no_dir = record { ino = 0; parent = 0; whole = false }

pub loop-dir-init : goal.loop-dir-init
loop-dir-init c = refl

pub loop-dir-preserved : goal.loop-dir-preserved
loop-dir-preserved c =
    let p = λ (d : DirRec). d.parent == c.args.parent in
    let dirs = c.args.dirs.now in
    let i = c.loop-dir.dir-index in
    list_any_more p dirs i no_dir c.loop-dir-test.true ∙ ap (λ (t : Bool). t || p (get_or dirs i no_dir)) c.loop-dir.invariant
    ∙ ne_eqb (get_or dirs i no_dir).parent c.args.parent c.if-dir-parent.false

pub returns-then-dir-parent : goal.returns-then-dir-parent
returns-then-dir-parent c =
    let p = λ (d : DirRec). d.parent == c.args.parent in
    let dirs = c.args.dirs.now in
    let i = c.loop-dir.dir-index in
    sym (list_any_at p dirs i no_dir c.loop-dir-test.true (eq-eqb (get_or dirs i no_dir).parent c.args.parent c.if-dir-parent.true))

pub returns : goal.returns
returns c =
    let p = λ (d : DirRec). d.parent == c.args.parent in
    sym (ap (list_any p) (sym (take_all c.loop-dir.dir-index c.args.dirs.now c.loop-dir-test.false)) ∙ c.loop-dir.invariant)
