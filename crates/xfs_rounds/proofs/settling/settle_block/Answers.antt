use Rattle.std.proofs.Common.{◌≡◌, false, length, sym, ap, ◌∙◌, rules}
use Rattle.std.specs.Result.{is_err}
use Rattle.xfs_geom.specs.Volumes.{volume_of}
use Rattle.xfs_rounds.specs.declared.pieces.BlockParts.{BlockParts}
use Rattle.xfs_rounds.specs.Named.{AreFoundIn, AreNamedParts}
use Rattle.xfs_rounds.proofs.Rounds.{block_done, no_fault, parts_held}
use Rattle.xfs_rounds.proofs.settling.settle_block.Goals.{in-Ok, in-Err}
use Rattle.xfs_rounds.proofs.settling.settle_block.Goals as goal

pub returns-else-is_err : goal.returns-else-is_err
returns-else-is_err c = elim c.match-block.branch [
  | in-Ok w ↦
      let v = volume_of c.args.g.now in
      let vec = w.in-Ok.parts in
      let left = w.settle_parts-settled.new.parts in
      let long : length left ≡ vec.len = search rules in
      let good : is_err w.settle_parts-settled.result ≡ false = ap is_err (sym w.settled-is) ∙ sym c.is_err.ensures.value ∙ c.if-is_err.false in
      block_done v (AreFoundIn v c.args.named.now c.args.found.now) c.args.bank.now c.args.block.now c.match-block.block vec left c.view-bytes.result.now w.block-is long c.view-bytes.ensures.block
      (no_fault w.settle_parts-settled.result good w.settle_parts-settled.ensures)
  | in-Err w ↦ search rules
]

pub settle_parts-settled-requires-clause-volume : goal.settle_parts-settled-requires-clause-volume
settle_parts-settled-requires-clause-volume c = c.requires.block.placed.volume

pub settle_parts-settled-requires-clause-whole : goal.settle_parts-settled-requires-clause-whole
settle_parts-settled-requires-clause-whole c = c.view-bytes.ensures.size

pub settle_parts-settled-requires-clause-found : goal.settle_parts-settled-requires-clause-found
settle_parts-settled-requires-clause-found c = c.requires.found

pub settle_parts-settled-requires-clause-parts : goal.settle_parts-settled-requires-clause-parts
settle_parts-settled-requires-clause-parts c =
    parts_held (AreNamedParts (volume_of c.args.g.now) c.args.named.now c.args.block.now.place) c.args.bank.now c.args.block.now.at c.args.block.now.slots c.in-Ok.parts c.view-bytes.result.now c.deref_mut.result.now
    c.in-Ok.is c.view-bytes.ensures.block c.deref_mut.ensures.value c.requires.block.slots

pub returns-then-is_err : goal.returns-then-is_err
returns-then-is_err c = elim c.match-block.branch [
  | in-Ok w ↦ record { place = ap (λ (b : BlockParts). b.place) w.block-is; at = ap (λ (b : BlockParts). b.at) w.block-is; settled = tt }
  | in-Err w ↦ record { place = ap (λ (b : BlockParts). b.place) w.block-is; at = ap (λ (b : BlockParts). b.at) w.block-is; settled = tt }
]
