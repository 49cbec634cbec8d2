use Rattle.std.proofs.Common.{Bool, false, ◌&&◌, ◌||◌, ◌==◌, get_or, refl, sym, ap, ◌∙◌}
use Rattle.std.specs.List.{list_any}
use Rattle.std.proofs.lemmas.List.{take_all}
use Rattle.std.proofs.lemmas.List.Folds.{list_any_more, list_any_at}
use Rattle.xfs_volume.specs.declared.directories.DirRec.{DirRec}
use Rattle.xfs_names.proofs.comparing.have_whole.Goals as goal

abbrev no_dir : DirRec
no_dir = record { ino = 0; parent = 0; whole = false }

pub loop-dir-init : goal.loop-dir-init
loop-dir-init c = refl

pub loop-dir-preserved : goal.loop-dir-preserved
loop-dir-preserved c =
    let p = λ (d : DirRec). d.whole && d.parent == c.args.parent in
    let all = c.args.found.now in
    let i = c.loop-dir.dir-index in
    list_any_more p all i no_dir c.loop-dir-test.true ∙ ap (λ (t : Bool). t || p (get_or all i no_dir)) c.loop-dir.invariant
    ∙ (sym c.is_whole_under.ensures ∙ c.if-is_whole_under.false)

pub returns-then-is_whole_under : goal.returns-then-is_whole_under
returns-then-is_whole_under c =
    let p = λ (d : DirRec). d.whole && d.parent == c.args.parent in
    let all = c.args.found.now in
    let i = c.loop-dir.dir-index in
    sym (list_any_at p all i no_dir c.loop-dir-test.true ((sym c.is_whole_under.ensures ∙ c.if-is_whole_under.true)))

pub returns : goal.returns
returns c =
    let p = λ (d : DirRec). d.whole && d.parent == c.args.parent in
    sym (ap (list_any p) (sym (take_all c.loop-dir.dir-index c.args.found.now c.loop-dir-test.false)) ∙ c.loop-dir.invariant)
