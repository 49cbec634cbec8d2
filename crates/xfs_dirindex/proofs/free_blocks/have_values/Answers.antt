use Rattle.std.proofs.Common.{Bool, ◌&&◌, get_or, refl, sym, ap, ◌∙◌}
use Rattle.std.specs.List.{list_all}
use Rattle.std.proofs.lemmas.List.{take_all}
use Rattle.std.proofs.lemmas.List.Folds.{list_all_more, list_all_at}
use Rattle.xfs_dirindex.specs.declared.data.Best.{Best}
use Rattle.xfs_dirindex.specs.FreeBlocks.{has_value}
use Rattle.xfs_dirindex.specs.Mapped.{mapped}
use Rattle.xfs_dirindex.proofs.free_blocks.have_values.Goals as goal

abbrev none : Best
none = record { offset = 0; length = 0 }

pub loop-best-init : goal.loop-best-init
loop-best-init c = refl

pub loop-best-preserved : goal.loop-best-preserved
loop-best-preserved c =
    let p = has_value (mapped c.args.dir.now.offsets.items c.args.dir.now.blocks) in
    let bests = c.args.bests.now in
    let i = c.loop-best.best-index in
    list_all_more p bests i none c.loop-best-test.true ∙ ap (λ (t : Bool). t && p (get_or bests i none)) c.loop-best.invariant
    ∙ sym c.has_value.ensures ∙ c.if-not-has_value.false

pub has_value-requires-clause-mapped : goal.has_value-requires-clause-mapped
has_value-requires-clause-mapped c = c.requires.mapped

pub has_value-requires-clause-ascending : goal.has_value-requires-clause-ascending
has_value-requires-clause-ascending c = c.requires.ascending

pub returns-then-not-has_value : goal.returns-then-not-has_value
returns-then-not-has_value c =
    let p = has_value (mapped c.args.dir.now.offsets.items c.args.dir.now.blocks) in
    sym (list_all_at p c.args.bests.now c.loop-best.best-index none c.loop-best-test.true (sym c.has_value.ensures ∙ c.if-not-has_value.true))

pub returns : goal.returns
returns c =
    let p = has_value (mapped c.args.dir.now.offsets.items c.args.dir.now.blocks) in
    sym (ap (list_all p) (sym (take_all c.loop-best.best-index c.args.bests.now c.loop-best-test.false)) ∙ c.loop-best.invariant)
