use Rattle.std.proofs.Common.{Vec, Global, get_or, ◌∙◌, ap, arith}
use Rattle.std.specs.List.{filter}
use Rattle.std.proofs.lemmas.Bool.{le-ltb, lt-ltb}
use Rattle.std.proofs.lemmas.List.{take_all}
use Rattle.xfs_geom.specs.Sums.{has_free}
use Rattle.xfs_geom.specs.declared.records.InoRec.{InoRec}
use Rattle.xfs_place.proofs.Mapped.{filtered_more, filtered_same}
use Rattle.xfs_place.proofs.group_lists.with_free.Goals as goal
use Rattle.xfs_place.proofs.group_lists.with_free.Goals.{then-chunk-gt0+in_ok-push, else-chunk-gt0}

pub loop-chunk-init : goal.loop-chunk-init
loop-chunk-init c = c.new-free.ensures.items

pub loop-chunk-preserved : goal.loop-chunk-preserved
loop-chunk-preserved c =
    let inodes = c.args.inodes.now in
    let i = c.loop-chunk.chunk-index in
    let none : InoRec = record { startino = 0; holemask = 0; count = 0; freecount = 0; free = 0 } in
    let old = c.loop-chunk.free.items in
    elim c.if-chunk-gt0.branch [
      | then-chunk-gt0+in_ok-push w ↦
          ap (λ (u : Vec InoRec Global). u.items) w.free-is
          ∙ filtered_more has_free inodes i none old w.push.new.self.items c.loop-chunk-test.true (lt-ltb 0 (get_or inodes i none).freecount w.if-chunk-gt0.true) c.loop-chunk.invariant w.in_ok-push.ensures.items
      | else-chunk-gt0 w ↦ ap (λ (u : Vec InoRec Global). u.items) w.free-is ∙ filtered_same has_free inodes i none old c.loop-chunk-test.true (le-ltb 0 (get_or inodes i none).freecount w.if-chunk-gt0.false) c.loop-chunk.invariant
    ]

pub returns : goal.returns
returns c = c.loop-chunk.invariant ∙ ap (filter has_free) (take_all c.loop-chunk.chunk-index c.args.inodes.now (omega (arith, c.loop-chunk-test.false)))
