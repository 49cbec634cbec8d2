use Rattle.std.proofs.Common.{◌≡◌, ◌+◌, ◌-◌, ◌∙◌, sym, ap, arith, find}
use Rattle.std.specs.List.{range_with_len}
use Rattle.xfs_names.specs.Place.{is_free_inode}
use Rattle.xfs_names.proofs.Finding.{number_found, number_passed, none_left}
use Rattle.xfs_names.proofs.place.free_in_cluster.Goals as goal

pub loop-ino-init : goal.loop-ino-init
loop-ino-init c = let full : c.args.first + 32 - c.args.first ≡ 32 = omega arith in ap (λ m. find (is_free_inode c.args.nodes.now c.args.root) (range_with_len c.args.first m)) full

pub loop-ino-preserved : goal.loop-ino-preserved
loop-ino-preserved c = number_passed (is_free_inode c.args.nodes.now c.args.root) c.loop-ino.ino (c.args.first + 32) c.loop-ino-test.true (sym c.is_free.ensures ∙ c.if-is_free.false) ∙ c.loop-ino.invariant

pub returns-then-is_free : goal.returns-then-is_free
returns-then-is_free c = sym (number_found (is_free_inode c.args.nodes.now c.args.root) c.loop-ino.ino (c.args.first + 32) c.loop-ino-test.true (sym c.is_free.ensures ∙ c.if-is_free.true)) ∙ c.loop-ino.invariant

pub returns : goal.returns
returns c = none_left (is_free_inode c.args.nodes.now c.args.root) c.loop-ino.ino (c.args.first + 32) (omega arith) ∙ c.loop-ino.invariant
