use Rattle.std.proofs.Common.{◌≡◌, ◌+◌, ◌-◌, ◌<◌, length, arith, get_or, sym, ◌∙◌}
use Rattle.std.proofs.lemmas.Bool.{eqb-false}
use Rattle.xfs_dirindex.specs.declared.data.Best.{Best}
use Rattle.xfs_dirindex.specs.Leaf.{end_of}
use Rattle.xfs_dirindex.proofs.Longest.{end_of-last, same_size, no_size}
use Rattle.xfs_dirindex.proofs.values.has_size.Goals as goal

abbrev none : Best
none = record { offset = 0; length = 0 }

pub returns-then-size-eq0 : goal.returns-then-size-eq0
returns-then-size-eq0 c =
    let other = eqb-false (length c.args.bests.now) 0 (sym c.is_empty.ensures ∙ c.if-is_empty.false) in
    let some : 0 < length c.args.bests.now = omega (arith, other) in
    let end : end_of c.args.bests.now ≡ (get_or c.args.bests.now (length c.args.bests.now - 1) none).offset + 1 = end_of-last c.args.bests.now none some in
    no_size c.args.size (end_of c.args.bests.now) (omega arith) c.if-size-eq0.true

pub returns : goal.returns
returns c =
    let other = eqb-false (length c.args.bests.now) 0 (sym c.is_empty.ensures ∙ c.if-is_empty.false) in
    let some : 0 < length c.args.bests.now = omega (arith, other) in
    let size : 0 < c.args.size = omega (arith, c.if-size-eq0.false) in
    same_size c.args.size (get_or c.args.bests.now (length c.args.bests.now - 1) none).offset (end_of c.args.bests.now) (end_of-last c.args.bests.now none some) c.if-size-ne0.false size
