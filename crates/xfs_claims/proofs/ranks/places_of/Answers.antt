use Rattle.std.proofs.Common.{not, refl, ap, ◌∙◌}
use Rattle.xfs_disk.specs.Lists.{is_among}
use Rattle.xfs_claims.specs.declared.ranks.FilePlace.{FilePlace}
use Rattle.xfs_claims.proofs.Located.{places_step}
use Rattle.xfs_claims.proofs.Numbers.{asked_is}
use Rattle.xfs_claims.proofs.ranks.places_of.Goals as goal

pub loop-at-preserved : goal.loop-at-preserved
loop-at-preserved c =
    let files = c.args.files.now in
    let file = c.index-files-at.result in
    let keys = c.args.recorded.now.keys in
    let place : FilePlace = record { number = file.ino; at = c.loop-at.at } in
    let asked = c.contains-is_recorded.ensures ∙ asked_is file.cluster keys in (
      places_step files (λ f. is_among keys f.cluster) c.loop-at.at c.loop-at.places.recorded.items c.put.new.self.recorded.items place file c.contains-is_recorded.result
          c.loop-at.invariant.0 c.loop-at-test.true c.index-files-at.is asked refl refl c.in_ok-put.ensures.recorded,
      places_step files (λ f. not (is_among keys f.cluster)) c.loop-at.at c.loop-at.places.scanned.items c.put.new.self.scanned.items place file (not c.contains-is_recorded.result)
          c.loop-at.invariant.1 c.loop-at-test.true c.index-files-at.is (ap not asked) refl refl c.in_ok-put.ensures.scanned,
    )
