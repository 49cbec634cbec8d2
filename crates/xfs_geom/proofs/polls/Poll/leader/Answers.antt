use Rattle.std.proofs.Common.{◌≡◌, Option, None, sym, subst, rules}
use Rattle.std.specs.Option.{MatchOption, option_map}
use Rattle.xfs_geom.specs.Election.{winner}
use Rattle.xfs_geom.specs.Polls.{IsDecided}
use Rattle.xfs_geom.specs.declared.election.Elected.{Elected}
use Rattle.xfs_geom.specs.declared.polls.Tally.{Tally}
use Rattle.xfs_geom.proofs.Decided.{leader_is}
use Rattle.xfs_geom.proofs.polls.Poll.leader.Goals as goal

pub returns : goal.returns
returns c = λ blocks end votes is.
    let first : c.map.result ≡ option_map (λ (tally : Tally). tally.first) c.args.self.now.leader = search rules in
    subst (λ (result : Option Elected). MatchOption result (winner votes ≡ None) (IsDecided blocks votes)) (sym first)
    (leader_is blocks votes c.args.self.now.leader is.ascend is.accepted is.leader)
