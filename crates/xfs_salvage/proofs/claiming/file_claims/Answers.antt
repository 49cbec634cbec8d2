use Rattle.std.proofs.Common.{◌++◌, List, Option, map, ap, subst, ◌∙◌}
use Rattle.std.specs.Option.{SomeIff}
use Rattle.xfs_geom.specs.Volumes.{volume_of}
use Rattle.xfs_claims.specs.declared.claimants.FileClaim.{FileClaim}
use Rattle.xfs_views.specs.Claimed.{file_claim}
use Rattle.xfs_salvage.specs.Claimable.{CanClaim}
use Rattle.xfs_salvage.proofs.Rising.{all_claim, all_put, claim_put, claims_next, low_stops, other_stops}
use Rattle.xfs_salvage.proofs.claiming.file_claims.Goals as goal

pub loop-file-init : goal.loop-file-init
loop-file-init g c = record {
  left = (λ x. x, λ x. x);
  same = ap (λ (xs : List FileClaim). xs ++ map (file_claim (volume_of c.args.g.now)) c.args.files.now) c.new-claims.ensures.items;
}

pub loop-file-preserved : goal.loop-file-preserved
loop-file-preserved g c =
    let v = volume_of c.args.g.now in
    let file = c.file-item.result in
    let can = subst (λ (o : Option FileClaim). SomeIff o (CanClaim v file) (file_claim v file)) c.in-Some.is c.in_ok-claim.ensures in
    record {
      left = claims_next v c.loop-file.low c.loop-file.file-index c.args.files.now c.loop-file.invariant.left file c.loop-file-test.true c.file-item.is c.if-file-low.false can.0;
      same = claim_put (file_claim v) c.args.files.now c.loop-file.file-index file c.in-Some.claim c.loop-file.claims.items c.push.new.self.items c.loop-file-test.true c.file-item.is can.1
          c.in_ok-push-in-Some.ensures.items c.loop-file.invariant.same;
    }

pub returns : goal.returns
returns g c =
    let v = volume_of c.args.g.now in (
      all_claim v c.loop-file.low c.loop-file.file-index c.args.files.now c.loop-file.invariant.left c.loop-file-test.false,
      c.from_vec.ensures ∙ all_put (file_claim v) c.args.files.now c.loop-file.file-index c.loop-file.claims.items c.loop-file-test.false c.loop-file.invariant.same,
    )

pub returns-then-file-low : goal.returns-then-file-low
returns-then-file-low g c =
    low_stops (volume_of c.args.g.now) c.loop-file.low c.loop-file.file-index c.args.files.now c.loop-file.invariant.left c.file-item.result c.loop-file-test.true c.file-item.is c.if-file-low.true

pub returns-in-None : goal.returns-in-None
returns-in-None g c =
    let v = volume_of c.args.g.now in
    let file = c.file-item.result in
    other_stops v c.loop-file.low c.loop-file.file-index c.args.files.now c.loop-file.invariant.left file c.loop-file-test.true c.file-item.is
    (subst (λ (o : Option FileClaim). SomeIff o (CanClaim v file) (file_claim v file)) c.in-None.is c.in_ok-claim.ensures)
