-- The tests of a superblock, in their order.
use Rattle.std.proofs.Common.{◌≡◌, Bool, true, false, not, ◌&&◌, ◌==◌, Option, Some, None, if◌then◌else◌, rules, sym, ap, ◌∙◌}
use Rattle.xfs_word.specs.Seal.{is_sealed}
use Rattle.xfs_word.specs.declared.kinds.Seal.{Seal}
use Rattle.xfs_geom.specs.Features.{or_else, refused_feature}
use Rattle.xfs_geom.specs.Fixed.{fixed_fault}
use Rattle.xfs_geom.specs.Stated.{stated, parts_fault, first_place_fault}
use Rattle.xfs_geom.specs.Superblocks.{super_fault, super_seal, feature_fault, shape_fault, progress_fault}
use Rattle.xfs_geom.specs.declared.reading.SuperFault.{SuperFault}
use Rattle.xfs_geom.specs.declared.reading.SuperFault.TheVariants.{NotSealed, Shape}
use Rattle.xfs_geom.specs.declared.stated.Stated.{Stated}
use Rattle.xfs_geom.proofs.reading.read_super.Goals as goal

-- the faults of a superblock, one behind the other
abbrev whole : Bool → Option SuperFault → Option SuperFault → Option SuperFault → Option SuperFault → Option SuperFault → Option SuperFault
whole sealed left features fixed parts there = if sealed then or_else left (or_else features (or_else fixed (or_else parts there))) else Some NotSealed

pub returns-in-Some : goal.returns-in-Some
unfolding super_fault
returns-in-Some c =
    record {
      accepted = tt;
      stated = tt;
      inside = tt;
      refused = search rules;
    }

pub returns-then-not-sealed : goal.returns-then-not-sealed
unfolding super_fault
returns-then-not-sealed c =
    record {
      accepted = tt;
      stated = tt;
      inside = tt;
      refused = let sector = c.args.sector.now in
          let sealed : is_sealed super_seal sector ≡ false = ap (λ (seal : Seal). is_sealed seal sector) (sym c.super_seal.ensures) ∙ sym c.sealed.ensures ∙ c.if-not-sealed.true in
          λ i. whole (sealed i) (progress_fault c.args.place sector) (feature_fault (refused_feature sector)) (shape_fault (fixed_fault sector)) (shape_fault (parts_fault (stated sector))) (shape_fault (first_place_fault (stated sector) c.args.place c.args.blocks));
    }

pub returns-then-was_left : goal.returns-then-was_left
unfolding super_fault
returns-then-was_left c =
    record {
      accepted = tt;
      stated = tt;
      inside = tt;
      refused = let sector = c.args.sector.now in
          let sealed : is_sealed super_seal sector ≡ true = ap (λ (seal : Seal). is_sealed seal sector) (sym c.super_seal.ensures) ∙ sym c.sealed.ensures ∙ c.if-not-sealed.false in
          let made : progress_fault c.args.place sector ≡ Some (Shape 19) =
          ap (λ (left : Bool). if left then Some (Shape 19) else None)
          (ap (λ (v : Stated). c.args.place == 0 && not (v.inprogress == 0)) (sym c.read-stated.ensures) ∙ sym c.was_left.ensures ∙ c.if-was_left.true) in
          λ i. whole (sealed i) (made i) (feature_fault (refused_feature sector)) (shape_fault (fixed_fault sector)) (shape_fault (parts_fault (stated sector))) (shape_fault (first_place_fault (stated sector) c.args.place c.args.blocks));
    }

pub returns-in-Some-fixed_fault : goal.returns-in-Some-fixed_fault
unfolding super_fault
returns-in-Some-fixed_fault c =
    record {
      accepted = tt;
      stated = tt;
      inside = tt;
      refused = let sector = c.args.sector.now in
          let sealed : is_sealed super_seal sector ≡ true = ap (λ (seal : Seal). is_sealed seal sector) (sym c.super_seal.ensures) ∙ sym c.sealed.ensures ∙ c.if-not-sealed.false in
          let made : progress_fault c.args.place sector ≡ None =
          ap (λ (left : Bool). if left then Some (Shape 19) else None)
          (ap (λ (v : Stated). c.args.place == 0 && not (v.inprogress == 0)) (sym c.read-stated.ensures) ∙ sym c.was_left.ensures ∙ c.if-was_left.false) in
          let features : feature_fault (refused_feature sector) ≡ None = ap feature_fault (sym c.in_default.ensures) in
          let fixed : shape_fault (fixed_fault sector) ≡ Some (Shape c.in-Some-fixed_fault.word) = ap shape_fault (sym c.in-Some-fixed_fault.ensures) in
          λ i. whole (sealed i) (made i) (features i) (fixed i) (shape_fault (parts_fault (stated sector))) (shape_fault (first_place_fault (stated sector) c.args.place c.args.blocks));
    }

pub returns-in-Some-parts_fault : goal.returns-in-Some-parts_fault
unfolding super_fault
returns-in-Some-parts_fault c =
    record {
      accepted = tt;
      stated = tt;
      inside = tt;
      refused = let sector = c.args.sector.now in
          let sealed : is_sealed super_seal sector ≡ true = ap (λ (seal : Seal). is_sealed seal sector) (sym c.super_seal.ensures) ∙ sym c.sealed.ensures ∙ c.if-not-sealed.false in
          let made : progress_fault c.args.place sector ≡ None =
          ap (λ (left : Bool). if left then Some (Shape 19) else None)
          (ap (λ (v : Stated). c.args.place == 0 && not (v.inprogress == 0)) (sym c.read-stated.ensures) ∙ sym c.was_left.ensures ∙ c.if-was_left.false) in
          let features : feature_fault (refused_feature sector) ≡ None = ap feature_fault (sym c.in_default.ensures) in
          let fixed : shape_fault (fixed_fault sector) ≡ None = ap shape_fault (sym c.in_default-fixed_fault.ensures) in
          let parts : shape_fault (parts_fault (stated sector)) ≡ Some (Shape c.in-Some-parts_fault.word) =
          ap shape_fault (ap parts_fault (sym c.read-stated.ensures) ∙ sym c.in-Some-parts_fault.ensures.first) in
          λ i. whole (sealed i) (made i) (features i) (fixed i) (parts i) (shape_fault (first_place_fault (stated sector) c.args.place c.args.blocks));
    }

pub returns-in-Some-place_fault : goal.returns-in-Some-place_fault
unfolding super_fault
returns-in-Some-place_fault c =
    record {
      accepted = tt;
      stated = tt;
      inside = tt;
      refused = let sector = c.args.sector.now in
          let sealed : is_sealed super_seal sector ≡ true = ap (λ (seal : Seal). is_sealed seal sector) (sym c.super_seal.ensures) ∙ sym c.sealed.ensures ∙ c.if-not-sealed.false in
          let made : progress_fault c.args.place sector ≡ None =
          ap (λ (left : Bool). if left then Some (Shape 19) else None)
          (ap (λ (v : Stated). c.args.place == 0 && not (v.inprogress == 0)) (sym c.read-stated.ensures) ∙ sym c.was_left.ensures ∙ c.if-was_left.false) in
          let features : feature_fault (refused_feature sector) ≡ None = ap feature_fault (sym c.in_default.ensures) in
          let fixed : shape_fault (fixed_fault sector) ≡ None = ap shape_fault (sym c.in_default-fixed_fault.ensures) in
          let parts : shape_fault (parts_fault (stated sector)) ≡ None =
          ap shape_fault (ap parts_fault (sym c.read-stated.ensures) ∙ sym c.in_default-parts_fault.ensures.first) in
          let there : shape_fault (first_place_fault (stated sector) c.args.place c.args.blocks) ≡ Some (Shape c.in-Some-place_fault.word) =
          ap shape_fault (ap (λ (v : Stated). first_place_fault v c.args.place c.args.blocks) (sym c.read-stated.ensures) ∙ sym c.in-Some-place_fault.ensures.first) in
          λ i. whole (sealed i) (made i) (features i) (fixed i) (parts i) (there i);
    }

pub returns-clause-accepted : goal.returns-clause-accepted
unfolding super_fault
returns-clause-accepted c =
    let sector = c.args.sector.now in
    let sealed : is_sealed super_seal sector ≡ true = ap (λ (seal : Seal). is_sealed seal sector) (sym c.super_seal.ensures) ∙ sym c.sealed.ensures ∙ c.if-not-sealed.false in
    let made : progress_fault c.args.place sector ≡ None =
    ap (λ (left : Bool). if left then Some (Shape 19) else None)
    (ap (λ (v : Stated). c.args.place == 0 && not (v.inprogress == 0)) (sym c.read-stated.ensures) ∙ sym c.was_left.ensures ∙ c.if-was_left.false) in
    let features : feature_fault (refused_feature sector) ≡ None = ap feature_fault (sym c.in_default.ensures) in
    let fixed : shape_fault (fixed_fault sector) ≡ None = ap shape_fault (sym c.in_default-fixed_fault.ensures) in
    let parts : shape_fault (parts_fault (stated sector)) ≡ None =
    ap shape_fault (ap parts_fault (sym c.read-stated.ensures) ∙ sym c.in_default-parts_fault.ensures.first) in
    let there : shape_fault (first_place_fault (stated sector) c.args.place c.args.blocks) ≡ None =
    ap shape_fault (ap (λ (v : Stated). first_place_fault v c.args.place c.args.blocks) (sym c.read-stated.ensures) ∙ sym c.in_default-place_fault.ensures.first) in
    λ i. whole (sealed i) (made i) (features i) (fixed i) (parts i) (there i)

pub returns-clause-refused : goal.returns-clause-refused
returns-clause-refused c = tt

pub place_fault-requires : goal.place_fault-requires
place_fault-requires c = c.in_default-parts_fault.ensures.kept

pub geometry-requires-clause-parts : goal.geometry-requires-clause-parts
geometry-requires-clause-parts c = c.in_default-parts_fault.ensures.kept

pub geometry-requires-clause-root : goal.geometry-requires-clause-root
geometry-requires-clause-root c = c.in_default-place_fault.ensures.kept
