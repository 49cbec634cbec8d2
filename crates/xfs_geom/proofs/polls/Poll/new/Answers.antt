use Rattle.std.proofs.Common.{List, [], arith, refl, sym, subst}
use Rattle.std.specs.Map.{lookup}
use Rattle.xfs_geom.specs.Election.{same_volume, votes_for}
use Rattle.xfs_geom.specs.Polls.{Tallies}
use Rattle.xfs_geom.specs.Volumes.{volume_of}
use Rattle.xfs_geom.specs.declared.geometry.Geometry.{Geometry}
use Rattle.xfs_geom.specs.declared.polls.Tally.{Tally}
use Rattle.xfs_geom.proofs.polls.Poll.new.Goals as goal

pub returns : goal.returns
unfolding votes_for
returns c =
    let none = λ (g : Geometry).
    subst (λ (entries : List (Geometry × Tally)). Tallies [] (volume_of g) (lookup (λ (other : Geometry). same_volume (volume_of g) (volume_of other)) entries))
    (sym c.new.ensures.empty) refl in
    λ blocks. record {
      few = omega arith;
      below = λ vote among. absurd among;
      ascend = tt;
      accepted = λ vote among. absurd among;
      tallies = λ g. none g;
      leader = refl;
    }
