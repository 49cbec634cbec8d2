use Rattle.std.proofs.Common.{◌≡◌, ◌∙◌, ℕ, Some, length, replicate, ap, arith}
use Rattle.std.proofs.lemmas.Result.{IfOk-from_err}
use Rattle.xfs_filled.specs.Wanting.{filled_places}
use Rattle.xfs_filled.proofs.bytes.make_bytes.Goals as goal

pub list_places-requires : goal.list_places-requires
list_places-requires c = record { volume = c.requires.site.placed.volume }

pub list_blocks-requires : goal.list_blocks-requires
list_blocks-requires c = record { site = c.requires.site }

pub list_slots-requires-clause-site : goal.list_slots-requires-clause-site
list_slots-requires-clause-site c = c.requires.site

pub list_slots-requires-clause-inside : goal.list_slots-requires-clause-inside
list_slots-requires-clause-inside c = c.requires.inside

pub list_slots-requires-clause-offsets : goal.list_slots-requires-clause-offsets
list_slots-requires-clause-offsets c = c.requires.offsets

pub list_slots-requires-clause-runs : goal.list_slots-requires-clause-runs
list_slots-requires-clause-runs c = c.requires.runs

pub returns-in_err-places : goal.returns-in_err-places
returns-in_err-places c = IfOk-from_err c.from_residual.result _ c.from_residual.ensures.0

pub returns-in_err-old : goal.returns-in_err-old
returns-in_err-old c = IfOk-from_err c.from_residual-in_err-old.result _ c.from_residual-in_err-old.ensures.0

pub returns-in_err-list_blocks : goal.returns-in_err-list_blocks
returns-in_err-list_blocks c = IfOk-from_err c.from_residual-in_err-list_blocks.result _ c.from_residual-in_err-list_blocks.ensures.0

pub returns-in_err-list_slots : goal.returns-in_err-list_slots
returns-in_err-list_slots c = IfOk-from_err c.from_residual-in_err-list_slots.result _ c.from_residual-in_err-list_slots.ensures.0

pub returns : goal.returns
returns c =
    let g = c.args.site.now.geometry.now in
    let starts = c.args.site.now.starts.now in
    let many : c.len.result ≡ length (filled_places g starts) = omega (arith, c.len.ensures, c.in_ok-places.places.ok.0, ap length c.in_ok-places.ensures) in
    λ i. record {
      sector = c.args.sector.now;
      places = (c.from_vec.ensures ∙ c.in_ok-places.ensures) i;
      old = (c.in_ok-old.ensures ∙ ap (λ (n : ℕ). replicate n (replicate 4096 0)) many) i;
      objects = c.in_ok-list_blocks.ensures i;
      slots = (c.from_vec-2.ensures ∙ c.in_ok-list_slots.ensures) i;
      cycle = Some 1;
      stamp = c.args.stamp.now;
    }
