use Rattle.std.proofs.Common.{◌∙◌, ap, not}
use Rattle.xfs_disk.specs.Lists.{is_among}
use Rattle.xfs_claims.specs.Ranks.{by_number, claimed_number}
use Rattle.xfs_claims.proofs.Located.{places_are, places_differ}
use Rattle.xfs_claims.proofs.ranks.files_by_number.Goals as goal

pub places_in_order-recorded-requires-clause-differ : goal.places_in_order-recorded-requires-clause-differ
places_in_order-recorded-requires-clause-differ g c κs within =
    places_differ c.args.files.now (λ f. is_among c.args.recorded.now.keys f.cluster) c.in_ok-recorded.field-0.recorded.items c.in_ok-recorded.ensures.recorded c.requires

pub places_in_order-scanned-requires-clause-differ : goal.places_in_order-scanned-requires-clause-differ
places_in_order-scanned-requires-clause-differ g c κs within =
    places_differ c.args.files.now (λ f. not (is_among c.args.recorded.now.keys f.cluster)) c.in_ok-recorded.field-0.scanned.items c.in_ok-recorded.ensures.scanned c.requires

pub returns-clause-recorded : goal.returns-clause-recorded
returns-clause-recorded g c =
    c.places_in_order-recorded.ensures.ascending
    ∙ ap (by_number claimed_number) (places_are c.args.files.now (λ f. is_among c.args.recorded.now.keys f.cluster) c.in_ok-recorded.field-0.recorded.items c.in_ok-recorded.ensures.recorded)

pub returns-clause-scanned : goal.returns-clause-scanned
returns-clause-scanned g c =
    c.places_in_order-scanned.ensures.ascending
    ∙ ap (by_number claimed_number) (places_are c.args.files.now (λ f. not (is_among c.args.recorded.now.keys f.cluster)) c.in_ok-recorded.field-0.scanned.items c.in_ok-recorded.ensures.scanned)
