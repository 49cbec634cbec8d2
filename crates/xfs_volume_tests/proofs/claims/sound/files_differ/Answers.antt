use Rattle.std.proofs.Common.{ℕ, List, ◌∙◌, subst}
use Rattle.xfs_claims.specs.Ranks.{claimed_number, own_number, AreDifferent}
use Rattle.xfs_claims.proofs.Different.{from_numbers}
use Rattle.xfs_volume_tests.proofs.claims.sound.files_differ.Goals as goal

pub returns : goal.returns
returns c = λ t.
    from_numbers claimed_number c.args.files.now
    (subst (λ (x : List ℕ). AreDifferent own_number x) (c.deref.ensures.value ∙ c.in_ok-numbers.ensures) (c.in_ok-all_differ.ensures t))
