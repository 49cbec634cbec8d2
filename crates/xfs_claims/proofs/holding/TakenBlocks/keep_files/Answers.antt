use Rattle.std.proofs.Common.{◌≡◌, get_or, refl, sym, ◌∙◌, ap, subst, arith}
use Rattle.std.proofs.lemmas.List.{get_or_default}
use Rattle.std.proofs.lemmas.Result.{IfOk-from_err}
use Rattle.xfs_claims.specs.declared.claimants.FileClaim.{FileClaim}
use Rattle.xfs_claims.specs.Keeping.{IsClaim}
use Rattle.xfs_claims.specs.Private.Held.{held_of}
use Rattle.xfs_claims.specs.Private.Places.{file_at_place, no_claim}
use Rattle.xfs_claims.specs.Ranks.{run_count}
use Rattle.xfs_claims.proofs.Counted.{none_counted}
use Rattle.xfs_claims.proofs.Kept.{file_next, files_end, file_counted}
use Rattle.xfs_claims.proofs.Located.{sum_upto, no_place}
use Rattle.xfs_claims.proofs.holding.TakenBlocks.keep_files.Goals as goal

pub loop-place-init : goal.loop-place-init
loop-place-init g c = (refl, none_counted _)

pub keep_file-requires : goal.keep_file-requires
keep_file-requires g c =
    let place = get_or c.args.places.now c.loop-place.place-index no_place in
    let inside = (c.requires.places c.loop-place.place-index no_place c.loop-place-test.true).inside in
    subst (λ (f : FileClaim). IsClaim f) (sym c.index-files-place.is) (c.requires.claims place.at c.index-files-place.result inside)

pub loop-place-preserved : goal.loop-place-preserved
loop-place-preserved g c =
    let files = c.args.files.now in
    let i = c.loop-place.place-index in
    let place = get_or c.args.places.now i no_place in
    let inside = (c.requires.places i no_place c.loop-place-test.true).inside in
    let same : c.index-files-place.result ≡ file_at_place files place = c.index-files-place.is ∙ get_or_default files place.at c.index-files-place.result no_claim inside in (
      file_next (file_at_place files) (held_of c.loop-place.self) (held_of c.keep_file.new.self) _ c.index-files-place.result c.args.places.now i no_place c.loop-place-test.true same
          c.in_ok-keep_file.ensures.held c.loop-place.invariant.0,
      file_counted (file_at_place files) run_count _ _ _ c.index-files-place.result c.args.places.now i no_place c.loop-place-test.true same c.loop-place.invariant.1 c.in_ok-keep_file.ensures.ticks,
    )

pub returns-in_err-keep_file-clause-held : goal.returns-in_err-keep_file-clause-held
returns-in_err-keep_file-clause-held g c = IfOk-from_err c.from_residual.result _ c.from_residual.ensures.0

pub returns-in_err-keep_file-clause-ticks : goal.returns-in_err-keep_file-clause-ticks
returns-in_err-keep_file-clause-ticks g c =
    let files = c.args.files.now in
    let place = get_or c.args.places.now c.loop-place.place-index no_place in
    let inside = (c.requires.places c.loop-place.place-index no_place c.loop-place-test.true).inside in
    let same : run_count c.index-files-place.result ≡ run_count (file_at_place files place) =
    ap run_count (c.index-files-place.is ∙ get_or_default files place.at c.index-files-place.result no_claim inside) in
    let sum = sum_upto (file_at_place files) run_count c.args.places.now c.loop-place.place-index no_place c.loop-place-test.true in
    omega (arith, same, sum, c.in_err-keep_file.ensures.ticks, c.loop-place.invariant.1)

pub returns-clause-held : goal.returns-clause-held
returns-clause-held g c =
    files_end (file_at_place c.args.files.now) (held_of c.loop-place.self) _ c.args.places.now c.loop-place.place-index c.loop-place-test.false c.loop-place.invariant.0
