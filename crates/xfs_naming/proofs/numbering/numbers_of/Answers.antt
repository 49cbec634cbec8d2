use Rattle.std.proofs.Common.{◌≡◌, map, get_or, refl, sym, ap, ◌∙◌, subst}
use Rattle.std.proofs.lemmas.List.{get_or_default}
use Rattle.std.proofs.lemmas.Result.{IfOk-from_err}
use Rattle.xfs_naming.specs.declared.kinds.FileKind.{FileKind}
use Rattle.xfs_naming.specs.Naming.{NumbersAscend, numbers_of}
use Rattle.xfs_naming.proofs.FileKinds.{kind_numbers}
use Rattle.xfs_naming.proofs.Pushed.{pushed, pushed_all}
use Rattle.xfs_naming.proofs.numbering.numbers_of.Goals as goal

abbrev no_kind : FileKind
no_kind = record { ino = 0; nlink = 0; kind = 0 }

pub loop-kind-preserved : goal.loop-kind-preserved
loop-kind-preserved c =
    let kinds = c.args.names.now.kinds.now in
    let i = c.loop-kind.kind-index in
    let kind = get_or kinds i no_kind in
    pushed (λ (k : FileKind). k.ino) kinds i kind kind.ino c.loop-kind.numbers.items c.push.new.self.items
    c.loop-kind-test.true (get_or_default kinds i no_kind kind c.loop-kind-test.true) refl c.in_ok-push.ensures.items c.loop-kind.invariant

pub returns-in_err-numbers-clause-numbers : goal.returns-in_err-numbers-clause-numbers
returns-in_err-numbers-clause-numbers c = IfOk-from_err c.from_residual.result _ c.from_residual.ensures.0

pub returns-in_err-numbers-clause-ascend : goal.returns-in_err-numbers-clause-ascend
returns-in_err-numbers-clause-ascend c = IfOk-from_err c.from_residual.result _ c.from_residual.ensures.0

pub returns-clause-numbers : goal.returns-clause-numbers
returns-clause-numbers c =
    let kinds = c.args.names.now.kinds.now in
    pushed_all (λ (k : FileKind). k.ino) kinds c.loop-kind.kind-index c.loop-kind.numbers.items c.loop-kind-test.false c.loop-kind.invariant
    ∙ (ap (map (λ (k : FileKind). k.ino)) c.requires.kinds ∙ kind_numbers c.args.names.now.files.now)

pub returns-clause-ascend : goal.returns-clause-ascend
returns-clause-ascend c =
    let kinds = c.args.names.now.kinds.now in
    let all : c.loop-kind.numbers.items ≡ numbers_of c.args.names.now.files.now =
    pushed_all (λ (k : FileKind). k.ino) kinds c.loop-kind.kind-index c.loop-kind.numbers.items c.loop-kind-test.false c.loop-kind.invariant
    ∙ (ap (map (λ (k : FileKind). k.ino)) c.requires.kinds ∙ kind_numbers c.args.names.now.files.now) in
    subst (NumbersAscend 0) (sym all) c.requires.ascend
