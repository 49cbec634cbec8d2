-- The word that is taken is the last.
use Rattle.std.proofs.Common.{ℕ, List, Option, subst}
use Rattle.xfs_system.specs.Opening.{IsTaken}
use Rattle.xfs_system.proofs.image.take_image.Goals as goal

pub returns-in-Some : goal.returns-in-Some
returns-in-Some g c =
    let H = g.H.Host in
    let P : Option (List ℕ) → Type 0 = λ last.
    IsTaken (H.opens c.args.host.now) (H.refuses c.args.host.now) (H.says_used c.args.host.now) H.is_none last c.args.purpose c.take_named.result in
    subst P c.in-Some.ensures.value c.take_named.ensures
