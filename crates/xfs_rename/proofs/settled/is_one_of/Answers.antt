use Rattle.std.proofs.Common.{ℕ, Bool, ◌||◌, ◌==◌, get_or, refl, sym, ap, ◌∙◌}
use Rattle.std.specs.List.{list_any}
use Rattle.std.proofs.lemmas.Bool.{eq-eqb, ne_eqb}
use Rattle.std.proofs.lemmas.List.{take_all}
use Rattle.std.proofs.lemmas.List.Folds.{list_any_more, list_any_at}
use Rattle.xfs_rename.proofs.settled.is_one_of.Goals as goal

pub loop-other-init : goal.loop-other-init
loop-other-init c = refl

pub loop-other-preserved : goal.loop-other-preserved
loop-other-preserved c =
    let p = λ (m : ℕ). m == c.args.number in
    let numbers = c.args.numbers.now in
    let i = c.loop-other.other-index in
    list_any_more p numbers i 0 c.loop-other-test.true ∙ ap (λ (t : Bool). t || p (get_or numbers i 0)) c.loop-other.invariant
    ∙ ne_eqb (get_or numbers i 0) c.args.number c.if-other-number.false

pub returns-then-other-number : goal.returns-then-other-number
returns-then-other-number c =
    let p = λ (m : ℕ). m == c.args.number in
    let numbers = c.args.numbers.now in
    let i = c.loop-other.other-index in
    sym (list_any_at p numbers i 0 c.loop-other-test.true (eq-eqb (get_or numbers i 0) c.args.number c.if-other-number.true))

pub returns : goal.returns
returns c =
    let p = λ (m : ℕ). m == c.args.number in
    sym (ap (list_any p) (sym (take_all c.loop-other.other-index c.args.numbers.now c.loop-other-test.false)) ∙ c.loop-other.invariant)
