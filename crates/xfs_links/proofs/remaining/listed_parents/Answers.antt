use Rattle.std.proofs.Common.{ℕ, sym, ◌∙◌, ap, option_map, Option}
use Rattle.xfs_links.specs.Entries.{node_number}
use Rattle.xfs_links.specs.Places.{listed_pair}
use Rattle.xfs_links.proofs.Groups.{gathered_next, gathered_not}
use Rattle.xfs_links.proofs.remaining.listed_parents.Goals as goal

pub loop-place-preserved-in_default : goal.loop-place-preserved-in_default
loop-place-preserved-in_default c = gathered_not (listed_pair c.args.files.now c.args.parents.now) c.loop-place.place c.loop-place.listed.items
    (ap (λ (o : Option ℕ). option_map (λ q. (node_number c.args.files.now c.loop-place.place, node_number c.args.files.now q)) o) (sym c.listed_parent.ensures.parent ∙ c.in_default.is)) c.loop-place.invariant

pub loop-place-preserved : goal.loop-place-preserved
loop-place-preserved c = gathered_next (listed_pair c.args.files.now c.args.parents.now) c.loop-place.place c.loop-place.listed.items c.push.new.self.items (node_number c.args.files.now c.loop-place.place, node_number c.args.files.now c.in-Some.parent)
    (ap (λ (o : Option ℕ). option_map (λ q. (node_number c.args.files.now c.loop-place.place, node_number c.args.files.now q)) o) (sym c.listed_parent.ensures.parent ∙ c.in-Some.is)) c.loop-place.invariant c.in_ok-push.ensures.items
