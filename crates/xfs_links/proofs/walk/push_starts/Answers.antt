use Rattle.std.proofs.Common.{◌&&◌, ◌==◌, not, false, sym, ◌∙◌, get_or}
use Rattle.xfs_links.specs.Entries.{is_directory_at_place}
use Rattle.xfs_links.specs.Places.{are_equal}
use Rattle.xfs_links.proofs.Groups.{picked_next, picked_not}
use Rattle.xfs_links.proofs.walk.push_starts.Goals as goal

pub loop-place-preserved : goal.loop-place-preserved
loop-place-preserved c = picked_next (λ p. is_directory_at_place c.args.files.now p && (not (p == c.args.root) && are_equal c.args.is_named (get_or c.args.named.now p false))) c.loop-place.place c.args.starts.now.items c.loop-place.starts.items _
    (sym c.is_start.ensures ∙ c.if-not-is_start.false) c.loop-place.invariant c.in_ok-push.ensures.items

pub loop-place-preserved-then-not-is_start : goal.loop-place-preserved-then-not-is_start
loop-place-preserved-then-not-is_start c = picked_not (λ p. is_directory_at_place c.args.files.now p && (not (p == c.args.root) && are_equal c.args.is_named (get_or c.args.named.now p false))) c.loop-place.place c.args.starts.now.items c.loop-place.starts.items
    (sym c.is_start.ensures ∙ c.if-not-is_start.true) c.loop-place.invariant
