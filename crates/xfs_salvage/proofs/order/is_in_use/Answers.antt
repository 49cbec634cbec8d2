use Rattle.std.proofs.Common.{Bool, ◌||◌, ◌==◌, get_or, refl, sym, ap, ◌∙◌}
use Rattle.std.specs.List.{list_any}
use Rattle.std.proofs.lemmas.Bool.{eq-eqb, ne_eqb}
use Rattle.std.proofs.lemmas.List.{take_all}
use Rattle.std.proofs.lemmas.List.Folds.{list_any_more, list_any_at}
use Rattle.xfs_volume.specs.declared.files.FileRec.{FileRec}
use Rattle.xfs_salvage.proofs.order.is_in_use.Goals as goal

pub loop-file-init : goal.loop-file-init
loop-file-init c = refl

pub loop-file-preserved : goal.loop-file-preserved
loop-file-preserved c =
    let p = λ (f : FileRec). f.ino == c.args.ino in
    let files = c.args.files.now in
    let i = c.loop-file.file-index in
    let file = c.file-item.result in
    list_any_more p files i file c.loop-file-test.true ∙ ap (λ (t : Bool). t || p (get_or files i file)) c.loop-file.invariant
    ∙ ap p (sym c.file-item.is) ∙ ne_eqb file.ino c.args.ino c.if-file-ino.false

pub returns-then-file-ino : goal.returns-then-file-ino
returns-then-file-ino c =
    let p = λ (f : FileRec). f.ino == c.args.ino in
    let file = c.file-item.result in
    sym (list_any_at p c.args.files.now c.loop-file.file-index file c.loop-file-test.true (ap p (sym c.file-item.is) ∙ eq-eqb file.ino c.args.ino c.if-file-ino.true))

pub returns : goal.returns
returns c =
    let p = λ (f : FileRec). f.ino == c.args.ino in
    sym (ap (list_any p) (sym (take_all c.loop-file.file-index c.args.files.now c.loop-file-test.false)) ∙ c.loop-file.invariant)
