use Rattle.std.proofs.Common.{◌≡◌, ◌<◌, length}
use Rattle.std.specs.Option.{MatchOption}
use Rattle.xfs_place.specs.Choice.{AreJudged, Stands}
use Rattle.xfs_place.proofs.choice.choose_count.Given as goal

abbrev pub invariant-loop-n : goal.invariant-loop-n
invariant-loop-n l = record {
  stands : Stands l.uses l.lowest;
  count : length l.lowest.blocks.items ≡ l.n;
  low : MatchOption l.poor (Unit {0}) (λ p. p < l.n);
  judged : AreJudged l.uses l.inner l.records l.n l.poor;
}
