use Rattle.std.proofs.Common.{◌≡◌, ◌++◌, Option, sym, ◌∙◌, subst, IfOk}
use Rattle.xfs_volume.specs.declared.findings.Law.{Law}
use Rattle.xfs_volume.specs.Laws.{first_broken}
use Rattle.xfs_naming.specs.Naming.{naming_laws, directory_laws, place_laws, link_laws}
use Rattle.xfs_naming.proofs.Broken.{first_of_three, second_of_three, third_of_three}
use Rattle.xfs_naming.proofs.checks.first_law.Goals as goal

pub returns-in-Some : goal.returns-in-Some
unfolding naming_laws
returns-in-Some c =
    let n = c.args.names.now in
    let a = directory_laws n.root n.files.now n.entries.now n.dirs.now in
    let p = place_laws n.root n.files.now n.entries.now n.dirs.now in
    let l = link_laws n.root n.files.now n.entries.now in
    first_of_three a p l c.in-Some.law (sym c.in_ok-law.ensures ∙ c.in-Some.is)

pub returns-in-Some-2 : goal.returns-in-Some-2
unfolding naming_laws
returns-in-Some-2 c =
    let n = c.args.names.now in
    let a = directory_laws n.root n.files.now n.entries.now n.dirs.now in
    let p = place_laws n.root n.files.now n.entries.now n.dirs.now in
    let l = link_laws n.root n.files.now n.entries.now in
    second_of_three a p l c.in-Some-2.law (sym c.in_ok-law.ensures ∙ c.in-None.is) (sym c.in_ok-law-2.ensures ∙ c.in-Some-2.is)

pub returns : goal.returns
unfolding naming_laws
returns c =
    let n = c.args.names.now in
    let a = directory_laws n.root n.files.now n.entries.now n.dirs.now in
    let p = place_laws n.root n.files.now n.entries.now n.dirs.now in
    let l = link_laws n.root n.files.now n.entries.now in
    let same : first_broken l ≡ first_broken (a ++ p ++ l) = third_of_three a p l (sym c.in_ok-law.ensures ∙ c.in-None.is) (sym c.in_ok-law-2.ensures ∙ c.in-None-2.is) in
    subst (λ (w : Option Law). IfOk c.first_links.result (λ law. law ≡ w)) same c.first_links.ensures
