use borrow.Author.Rules.{scaled_Fits}
use Rattle.std.proofs.Common.{◌≡◌, ◌<◌, length, refl, arith, rules}
use Rattle.std.proofs.lemmas.Result.{IfOk-from_err}
use Rattle.xfs_geom.specs.Volumes.{volume_of}
use Rattle.xfs_rounds.specs.declared.judging.SlotPart.{SlotPart}
use Rattle.xfs_rounds.specs.Named.{IsNamedPart}
use Rattle.xfs_rounds.proofs.Numbering.{all_parts, done_after, more_on, named_more, none_more, rest_after}
use Rattle.xfs_rounds.proofs.naming.name_parts.Goals as goal

pub loop-i-init : goal.loop-i-init
loop-i-init c = record {
  rest = λ j d later. refl;
  numbers = λ j d before. absurd (omega arith);
  done = λ j d before. absurd (omega arith);
  more = none_more c.args.named.now;
  within = c.requires.within;
}

pub loop-i-preserved : goal.loop-i-preserved
loop-i-preserved c =
    let v = volume_of c.args.g.now in
    let place = c.args.place in
    let bytes = c.args.bytes.now in
    let xs = c.args.parts.now in
    let ys = c.loop-i.parts in
    let k = c.loop-i.i in
    let y = c.name_part.new.known in
    let old = c.loop-i.named in
    let new = c.name_part.new.named in
    let was = c.loop-i.invariant in
    let now = c.in_ok-name_part.ensures in
    let inside : k < length ys = omega arith in
    record {
      rest = rest_after xs ys k y was.rest;
      numbers = done_after (λ (a b : SlotPart). b.slot ≡ a.slot) xs ys k c.index-parts-i.result y inside was.rest was.numbers now.slot;
      done = done_after (λ (a b : SlotPart). IsNamedPart v new place bytes b) xs ys k c.index-parts-i.result y inside was.rest
          (λ j d under. named_more v old new now.more place bytes _ (was.done j d under)) now.part;
      more = more_on c.args.named.now old new was.more now.more;
      within = now.within;
    }

pub returns-clause-parts : goal.returns-clause-parts
returns-clause-parts c =
    all_parts (volume_of c.args.g.now) c.loop-i.named c.args.place c.args.bytes.now c.loop-i.i c.args.parts.now c.loop-i.parts c.requires.parts (search rules) (omega arith)
    c.loop-i.invariant.numbers c.loop-i.invariant.done

pub returns-in_err-name_part : goal.returns-in_err-name_part
returns-in_err-name_part c = record { parts = IfOk-from_err c.from_residual.result _ c.from_residual.ensures.0; more = IfOk-from_err c.from_residual.result _ c.from_residual.ensures.0; within = IfOk-from_err c.from_residual.result _ c.from_residual.ensures.0 }

pub returns-clause-more : goal.returns-clause-more
returns-clause-more c = c.loop-i.invariant.more

pub returns-clause-within : goal.returns-clause-within
returns-clause-within c = c.loop-i.invariant.within

pub name_part-requires-clause-volume : goal.name_part-requires-clause-volume
name_part-requires-clause-volume c = c.requires.volume

pub name_part-requires-clause-whole : goal.name_part-requires-clause-whole
name_part-requires-clause-whole c = c.requires.whole

pub name_part-requires-clause-within : goal.name_part-requires-clause-within
name_part-requires-clause-within c = c.loop-i.invariant.within

pub offset_bounds-parts-i : goal.offset_bounds-parts-i
offset_bounds-parts-i c = scaled_Fits c.loop-i.i (length c.args.parts.now) _ (omega arith) c.well_formed.1.1.1.1.0.1
