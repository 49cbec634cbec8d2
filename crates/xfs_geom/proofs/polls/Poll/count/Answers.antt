use Rattle.std.proofs.Common.{◌≡◌, ◌+◌, ◌^◌, ◌<◌, Option, Some, sym, subst, ap, ◌∙◌}
use Rattle.std.specs.Bool.{if◌then◌else◌}
use Rattle.std.specs.Option.{IfSome}
use Rattle.xfs_geom.specs.Election.{same_volume}
use Rattle.xfs_geom.specs.Polls.{tally_at, with_vote, leading}
use Rattle.xfs_geom.specs.Volumes.{volume_of}
use Rattle.xfs_geom.specs.declared.polls.Tally.{Tally}
use Rattle.xfs_geom.proofs.polls.Poll.count.Goals as goal

pub with_vote-tally-requires : goal.with_vote-tally-requires
with_vote-tally-requires c = subst (λ (old : Option Tally). IfSome old (λ tally. tally.votes + 1 < 2 ^ 64)) (sym c.tally_of.ensures) c.requires

pub returns : goal.returns
returns c =
    let counted : c.with_vote-tally.result ≡ with_vote (tally_at c.args.self.now c.args.vote.geometry) c.args.vote
    = c.with_vote-tally.ensures ∙ ap (λ (old : Option Tally). with_vote old c.args.vote) c.tally_of.ensures in
    record {
      tally = λ g.
          c.in_ok-put_tally.ensures.tally g
          ∙ ap (λ (tally : Tally). if same_volume (volume_of c.args.vote.geometry) (volume_of g) then Some tally else tally_at c.args.self.now g) counted;
      leader = λ i. Some ((c.leading.ensures ∙ (λ j. leading (c.put_tally.ensures.leader j) (counted j))) i);
    }
