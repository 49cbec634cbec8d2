use Rattle.xfs_changes.proofs.Merging.{put_behind}
use Rattle.xfs_changes.proofs.slots.put_change.Goals as goal

pub returns : goal.returns
returns c = λ next. put_behind c.args.change.now next c.args.slots.now c.behind.result.now c.in_ok-rest.rest.now c.slots_before-before.result c.args.all.now.items c.push_slots.new.all.items c.put_first.new.all.items
    c.slots_before-before.ensures.place c.in_ok-push_slots.ensures c.behind.ensures (c.in_ok-rest.ensures next)
