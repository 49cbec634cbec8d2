use Rattle.std.proofs.Common.{◌≡◌, get_or, ◌∙◌, subst}
use Rattle.std.proofs.lemmas.List.{get_or_default}
use Rattle.std.proofs.lemmas.List.Elements.{All-more}
use Rattle.xfs_claims.specs.declared.claimants.FileClaim.{FileClaim}
use Rattle.xfs_claims.specs.Keeping.{IsClaim}
use Rattle.xfs_claims.specs.Private.Places.{no_claim}
use Rattle.xfs_claims.proofs.Different.{all_from_take}
use Rattle.xfs_volume_tests.proofs.claims.sound.are_claims.Goals as goal

pub loop-file-preserved : goal.loop-file-preserved
loop-file-preserved c =
    let files = c.args.files.now in
    let i = c.loop-file.file-index in
    let same : c.file-item.result ≡ get_or files i no_claim = c.file-item.is ∙ get_or_default files i c.file-item.result no_claim c.loop-file-test.true in
    let one : IsClaim (get_or files i no_claim) = subst (λ (x : FileClaim). IsClaim x) same (c.is_claim.ensures c.if-not-is_claim.false) in
    All-more IsClaim files i no_claim c.loop-file-test.true c.loop-file.invariant one

pub returns : goal.returns
returns c = λ t. all_from_take IsClaim c.args.files.now c.loop-file.file-index c.loop-file-test.false c.loop-file.invariant
