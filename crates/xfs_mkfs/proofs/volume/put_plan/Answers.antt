use Rattle.std.proofs.Common.{ℕ, ◌≡◌, ◌+◌, ◌<◌, List, length, ap, ap₂, ◌∙◌, arith, inl, refl}
use Rattle.xfs_writing.specs.declared.rows.Row.{Row}
use Rattle.xfs_mkfs.specs.Order.{first_part, last_part}
use Rattle.xfs_mkfs.proofs.Parts.{all_first, all_last, count_rows, counts_all, most_planned, stopped_put}
use Rattle.xfs_mkfs.proofs.Rows.{all_at, all_index}
use Rattle.xfs_mkfs.proofs.volume.put_plan.Goals as goal

pub write_parts-requires : goal.write_parts-requires
write_parts-requires g c =
    let size = g.D.Disk.size c.args.disk.now in
    let count = length c.args.plan.now.bank in
    let plan = c.args.plan.now in
    let rows = c.in-Ok.rows.items in
    let first = c.first_part.result.now in
    let last = c.last_part.result.now in
    let one : first ≡ first_part rows = c.first_part.ensures ∙ ap first_part c.as_slice-rows.ensures.value in
    let two : last ≡ last_part rows = c.last_part.ensures ∙ ap last_part c.as_slice-rows.ensures.value in
    let places = all_at (λ (place : ℕ). place < size) plan rows c.in-Ok.ensures c.requires.inside in
    let inside = all_index plan rows c.in-Ok.ensures c.requires.held in
    let both : length first + length last ≡ length (first_part rows) + length (last_part rows) =
    ap₂ (λ (a b : List Row). length a + length b) one two in
    record {
      first_places = all_first plan rows first last c.in-Ok.ensures one two (λ (r : Row). r.at < size) places;
      last_places = all_last plan rows first last c.in-Ok.ensures one two (λ (r : Row). r.at < size) places;
      first_inside = all_first plan rows first last c.in-Ok.ensures one two (λ (r : Row). r.index < count) inside;
      last_inside = all_last plan rows first last c.in-Ok.ensures one two (λ (r : Row). r.index < count) inside;
      fit = omega (arith, both, count_rows rows);
    }

pub returns-in-Ok-write_parts-clause-counted : goal.returns-in-Ok-write_parts-clause-counted
returns-in-Ok-write_parts-clause-counted g c =
    let rows = c.in-Ok.rows.items in
    let one : c.first_part.result.now ≡ first_part rows = c.first_part.ensures ∙ ap first_part c.as_slice-rows.ensures.value in
    let two : c.last_part.result.now ≡ last_part rows = c.last_part.ensures ∙ ap last_part c.as_slice-rows.ensures.value in
    counts_all c.args.plan.now rows c.first_part.result.now c.last_part.result.now c.in-Ok.ensures one two (g.D.Disk.writes c.args.disk.now)
    (g.D.Disk.writes c.write_parts.new.disk) c.in-Ok-write_parts.ensures.counted

pub returns-in-Ok-write_parts-clause-stops : goal.returns-in-Ok-write_parts-clause-stops
returns-in-Ok-write_parts-clause-stops g c = λ tells image told t stopped low left.
    let rows = c.in-Ok.rows.items in
    let one : c.first_part.result.now ≡ first_part rows = c.first_part.ensures ∙ ap first_part c.as_slice-rows.ensures.value in
    let two : c.last_part.result.now ≡ last_part rows = c.last_part.ensures ∙ ap last_part c.as_slice-rows.ensures.value in
    stopped_put c.args.plan.now rows c.first_part.result.now c.last_part.result.now c.in-Ok.ensures one two image stopped
    (g.D.Disk.left_since c.args.disk.now t stopped) (c.in-Ok-write_parts.ensures.stops tells image told t stopped low left)

pub returns-clause-counted : goal.returns-clause-counted
returns-clause-counted g c =
    let rows = c.in-Ok.rows.items in
    let one : c.first_part.result.now ≡ first_part rows = c.first_part.ensures ∙ ap first_part c.as_slice-rows.ensures.value in
    let two : c.last_part.result.now ≡ last_part rows = c.last_part.ensures ∙ ap last_part c.as_slice-rows.ensures.value in (
      most_planned c.args.plan.now rows c.first_part.result.now c.last_part.result.now c.in-Ok.ensures one two c.in-Err-write_parts.written
          c.in-Err-write_parts.ensures.most,
      c.in-Err-write_parts.ensures.counted,
    )

pub returns-clause-stops : goal.returns-clause-stops
returns-clause-stops g c = λ tells image told t stopped low left.
    let rows = c.in-Ok.rows.items in
    let one : c.first_part.result.now ≡ first_part rows = c.first_part.ensures ∙ ap first_part c.as_slice-rows.ensures.value in
    let two : c.last_part.result.now ≡ last_part rows = c.last_part.ensures ∙ ap last_part c.as_slice-rows.ensures.value in
    stopped_put c.args.plan.now rows c.first_part.result.now c.last_part.result.now c.in-Ok.ensures one two image stopped
    (g.D.Disk.left_since c.args.disk.now t stopped) (c.in-Err-write_parts.ensures.stops tells image told t stopped low left)

pub returns-in-Err : goal.returns-in-Err
returns-in-Err g c =
    record {
      done = tt;
      failed = λ image told. told;
      untouched = λ is. refl;
      counted = refl;
      size = refl;
      faults = refl;
      reads = refl;
      cause = omega arith;
      kept = tt;
      stops = λ tells image told t stopped low left. inl left;
      later = λ tells. omega arith;
      tells = λ tells. tells;
    }
