use borrow.Author.Rules.{scaled_Fits}
use Rattle.std.proofs.Common.{ℕ, ◌<◌, length, sym, ap, subst, ◌∙◌, arith}
use Rattle.std.proofs.lemmas.Result.{IfOk-from_err}
use Rattle.std.proofs.lemmas.List.{get_or-set_other, length-set}
use Rattle.std.proofs.lemmas.List.Elements.{All-get_or}
use Rattle.std.proofs.Math.Seq.{map-set_same}
use Rattle.xfs_geom.specs.Conversions.{inode_of}
use Rattle.xfs_geom.specs.Volumes.{volume_of}
use Rattle.xfs_rounds.specs.declared.judging.SlotPart.{SlotPart}
use Rattle.xfs_rounds.specs.Named.{AreFoundIn, IsNamedPart}
use Rattle.xfs_rounds.specs.Settled.{IsPartIn}
use Rattle.xfs_rounds.proofs.Rounds.{each_is, one_more}
use Rattle.xfs_rounds.proofs.settling.settle_parts.Goals as goal

pub loop-i-init : goal.loop-i-init
loop-i-init c = record {
  inodes = c.requires.parts.inodes;
  rest = λ j d later inside. All-get_or (IsNamedPart (volume_of c.args.g.now) c.args.named.now c.args.place c.args.bytes.now) c.args.parts.now j d inside c.requires.parts.each;
  done = λ j d before. absurd (omega arith);
}

pub loop-i-preserved : goal.loop-i-preserved
loop-i-preserved c =
    let v = volume_of c.args.g.now in
    let k = c.loop-i.i in
    let xs = c.loop-i.parts in
    let x = c.settle_part.new.known in
    let Q : SlotPart → Type 0 = IsNamedPart v c.args.named.now c.args.place c.args.bytes.now in
    let P : SlotPart → Type 0 = IsPartIn v (AreFoundIn v c.args.named.now c.args.found.now) c.args.place c.args.bytes.now in
    let inside : k < length xs = omega arith in
    record {
      inodes = map-set_same (λ (part : SlotPart). inode_of v c.args.place part.slot) xs k x _ (ap (inode_of v c.args.place) c.in_ok-settle_part.ensures.slot) ∙ c.loop-i.invariant.inodes;
      rest = λ j d later within. subst Q (sym (get_or-set_other xs k j x d (λ e. omega arith))) (c.loop-i.invariant.rest j d (omega arith) (subst (λ (n : ℕ). j < n) (length-set xs k x) within));
      done = λ j d before. one_more (λ i part. P part) xs k x d inside (λ i under. c.loop-i.invariant.done i d under) c.in_ok-settle_part.ensures.part j before;
    }

pub returns : goal.returns
returns c =
    let v = volume_of c.args.g.now in
    record {
      inodes = c.loop-i.invariant.inodes;
      each = each_is (IsPartIn v (AreFoundIn v c.args.named.now c.args.found.now) c.args.place c.args.bytes.now) c.loop-i.parts
          (λ j d inside. c.loop-i.invariant.done j d (omega arith));
    }

pub returns-in_err-settle_part : goal.returns-in_err-settle_part
returns-in_err-settle_part c = IfOk-from_err c.from_residual.result _ c.from_residual.ensures.0

pub settle_part-requires-clause-volume : goal.settle_part-requires-clause-volume
settle_part-requires-clause-volume c = c.requires.volume

pub settle_part-requires-clause-whole : goal.settle_part-requires-clause-whole
settle_part-requires-clause-whole c = c.requires.whole

pub settle_part-requires-clause-found : goal.settle_part-requires-clause-found
settle_part-requires-clause-found c = c.requires.found

pub offset_bounds-parts-i : goal.offset_bounds-parts-i
offset_bounds-parts-i c = scaled_Fits c.loop-i.i (length c.args.parts.now) _ (omega arith) c.well_formed.1.1.1.1.1.1.0.1
