use Rattle.std.proofs.Common.{◌≡◌, length, sym, ◌∙◌, ap, subst, arith}
use Rattle.xfs_kinds.specs.MergedRuns.{held_at}
use Rattle.xfs_place.specs.Claims.{AreClaims}
use Rattle.xfs_place.specs.Choice.{begins_owned, claim_count, how_many}
use Rattle.xfs_place.proofs.Ordered.{begun_all, merged_claims, offsets_plain}
use Rattle.xfs_place.proofs.claims.count_records.Goals as goal

pub returns : goal.returns
unfolding claim_count
returns c = λ uses inner long.
    let claims = c.args.claims.now in
    let joined = c.in_ok-merge_runs.field-0.items in
    let is = c.in_ok-merge_runs.ensures in
    let plain = offsets_plain c.args.blocks claims c.requires.claims.each in
    let whole : AreClaims c.args.blocks joined = subst (AreClaims c.args.blocks) (sym is.joined) (merged_claims c.args.blocks claims c.requires.claims) in
    let so = begun_all (held_at claims) c.args.blocks joined whole is.apart (λ b h. sym (is.held plain b)) in
    let many : c.len.result ≡ length joined = omega (arith, c.len.ensures, c.in_ok-merge_runs.field-0.ok.0) in
    ap (how_many (begins_owned (held_at claims))) long ∙ so ∙ sym many
