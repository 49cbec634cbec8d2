use Rattle.std.proofs.Common.{Bool, ◌&&◌, get_or, refl, sym, ap, ◌∙◌}
use Rattle.std.specs.List.{list_all}
use Rattle.std.proofs.lemmas.List.{take_all}
use Rattle.std.proofs.lemmas.List.Folds.{list_all_more, list_all_at}
use Rattle.xfs_naming.specs.declared.runs.Link.{Link}
use Rattle.xfs_naming.specs.Naming.{states_parent}
use Rattle.xfs_naming.proofs.places.are_from_parent.Goals as goal

abbrev no_link : Link
no_link = record { target = 0; dir = 0 }

pub loop-link-init : goal.loop-link-init
loop-link-init c = refl

pub loop-link-preserved : goal.loop-link-preserved
loop-link-preserved c =
    let p = λ (x : Link). states_parent c.args.names.now.dirs.now c.args.ino x.dir in
    let links = c.args.links.now in
    let i = c.loop-link.link-index in
    list_all_more p links i no_link c.loop-link-test.true ∙ ap (λ (t : Bool). t && p (get_or links i no_link)) c.loop-link.invariant
    ∙ (sym c.states_parent.ensures ∙ c.if-not-states_parent.false)

pub returns-then-not-states_parent : goal.returns-then-not-states_parent
returns-then-not-states_parent c =
    let p = λ (x : Link). states_parent c.args.names.now.dirs.now c.args.ino x.dir in
    sym (list_all_at p c.args.links.now c.loop-link.link-index no_link c.loop-link-test.true (sym c.states_parent.ensures ∙ c.if-not-states_parent.true))

pub returns : goal.returns
returns c =
    let p = λ (x : Link). states_parent c.args.names.now.dirs.now c.args.ino x.dir in
    sym (ap (list_all p) (sym (take_all c.loop-link.link-index c.args.links.now c.loop-link-test.false)) ∙ c.loop-link.invariant)
