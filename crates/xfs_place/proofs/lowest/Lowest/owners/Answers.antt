use Rattle.std.proofs.Common.{false, ◌≡◌, ◌+◌, ◌-◌, ℕ, min, length, get_or, ◌∙◌, ap, arith}
use Rattle.xfs_place.specs.Choice.{met_neighbours, total}
use Rattle.xfs_place.proofs.Found.{found_few}
use Rattle.xfs_place.proofs.OwnedSteps.{owners_are}
use Rattle.xfs_place.proofs.lowest.Lowest.owners.Goals as goal

pub returns-clause-value : goal.returns-clause-value
returns-clause-value c claim is records =
    let l = c.args.self.now in
    let n = length l.blocks.items in
    let all : c.len-all.result ≡ n = omega (arith, c.len-all.ensures, l.blocks.ok.0) in
    let from : c.min-from.result ≡ min c.args.space n = c.min-from.ensures ∙ ap (min c.args.space) all in
    let to : c.min-to.result ≡ min (c.args.space + c.args.inner) n = c.min-to.ensures ∙ ap (min (c.args.space + c.args.inner)) all in
    owners_are c.args.uses.now claim c.args.inner c.args.space is l.blocks.items c.requires.stands.low c.min-from.result c.min-to.result c.args.records c.touches.result c.touches-2.result
    c.sum_of_inodes.result c.sum_of_space.result c.sum_of_space-2.result c.sum_of_inodes-2.result c.sum_of_space-3.result c.saturating_sub.result
    c.requires.space.0 c.requires.inner.0 from to records c.touches.ensures.value c.touches-2.ensures.value c.sum_of_inodes.ensures.value c.sum_of_space.ensures.value
    c.sum_of_space-2.ensures.value c.sum_of_inodes-2.ensures.value (c.sum_of_space-3.ensures.value ∙ ap (total (λ k. met_neighbours c.args.uses.now false (get_or l.blocks.items k 0))) all)
    (c.saturating_sub.ensures ∙ ap (λ (m : ℕ). c.args.records + m + c.touches.result + c.touches-2.result + c.sum_of_inodes.result + c.sum_of_space.result
    - (c.sum_of_space-2.result + c.sum_of_inodes-2.result + c.sum_of_space-3.result)) all)

pub returns-clause-small : goal.returns-clause-small
returns-clause-small c =
    let l = c.args.self.now in
    let few = found_few c.args.uses.now l.blocks.items l.space.items l.inodes.items l.next l.free c.requires.stands in
    omega (
      arith,
      c.saturating_sub.ensures,
      few,
      c.len-all.ensures,
      l.blocks.ok.0,
      c.requires.few,
      c.touches.ensures.small,
      c.touches-2.ensures.small,
      c.sum_of_inodes.ensures.small,
      c.sum_of_space.ensures.small,
    )

pub sum_of_inodes-requires-clause-few : goal.sum_of_inodes-requires-clause-few
sum_of_inodes-requires-clause-few c = omega (arith, c.min-from.ensures, c.len-all.ensures, c.args.self.now.blocks.ok.0)

pub sum_of_inodes-requires-clause-all : goal.sum_of_inodes-requires-clause-all
sum_of_inodes-requires-clause-all c = c.requires.few

pub sum_of_inodes-requires-clause-stands : goal.sum_of_inodes-requires-clause-stands
sum_of_inodes-requires-clause-stands c = c.requires.stands

pub sum_of_space-requires-clause-few : goal.sum_of_space-requires-clause-few
sum_of_space-requires-clause-few c = omega (arith, c.min-to.ensures, c.len-all.ensures, c.args.self.now.blocks.ok.0)

pub sum_of_space-requires-clause-all : goal.sum_of_space-requires-clause-all
sum_of_space-requires-clause-all c = c.requires.few

pub sum_of_space-requires-clause-stands : goal.sum_of_space-requires-clause-stands
sum_of_space-requires-clause-stands c = c.requires.stands

pub sum_of_space-requires-2-clause-few : goal.sum_of_space-requires-2-clause-few
sum_of_space-requires-2-clause-few c = omega (arith, c.min-from.ensures, c.len-all.ensures, c.args.self.now.blocks.ok.0)

pub sum_of_space-requires-2-clause-all : goal.sum_of_space-requires-2-clause-all
sum_of_space-requires-2-clause-all c = c.requires.few

pub sum_of_space-requires-2-clause-stands : goal.sum_of_space-requires-2-clause-stands
sum_of_space-requires-2-clause-stands c = c.requires.stands

pub sum_of_inodes-requires-2-clause-few : goal.sum_of_inodes-requires-2-clause-few
sum_of_inodes-requires-2-clause-few c = omega (arith, c.min-to.ensures, c.len-all.ensures, c.args.self.now.blocks.ok.0)

pub sum_of_inodes-requires-2-clause-all : goal.sum_of_inodes-requires-2-clause-all
sum_of_inodes-requires-2-clause-all c = c.requires.few

pub sum_of_inodes-requires-2-clause-stands : goal.sum_of_inodes-requires-2-clause-stands
sum_of_inodes-requires-2-clause-stands c = c.requires.stands

pub sum_of_space-requires-3-clause-few : goal.sum_of_space-requires-3-clause-few
sum_of_space-requires-3-clause-few c = omega (arith, c.len-all.ensures, c.args.self.now.blocks.ok.0)

pub sum_of_space-requires-3-clause-all : goal.sum_of_space-requires-3-clause-all
sum_of_space-requires-3-clause-all c = c.requires.few

pub sum_of_space-requires-3-clause-stands : goal.sum_of_space-requires-3-clause-stands
sum_of_space-requires-3-clause-stands c = c.requires.stands

pub overflow_add-space : goal.overflow_add-space
overflow_add-space c =
    omega (arith, c.requires.space.1, c.requires.inner.1)

pub overflow_add-space-2 : goal.overflow_add-space-2
overflow_add-space-2 c =
    omega (arith, c.requires.space.1, c.requires.inner.1)

pub overflow_add-parts : goal.overflow_add-parts
overflow_add-parts c =
    let l = c.args.self.now in
    let few = found_few c.args.uses.now l.blocks.items l.space.items l.inodes.items l.next l.free c.requires.stands in
    omega (arith, few, c.len-all.ensures, l.blocks.ok.0, c.requires.few, c.requires.records)

pub overflow_add-parts-2 : goal.overflow_add-parts-2
overflow_add-parts-2 c =
    let l = c.args.self.now in
    let few = found_few c.args.uses.now l.blocks.items l.space.items l.inodes.items l.next l.free c.requires.stands in
    omega (arith, few, c.len-all.ensures, l.blocks.ok.0, c.requires.few, c.requires.records, c.touches.ensures.small)

pub overflow_add-parts-3 : goal.overflow_add-parts-3
overflow_add-parts-3 c =
    let l = c.args.self.now in
    let few = found_few c.args.uses.now l.blocks.items l.space.items l.inodes.items l.next l.free c.requires.stands in
    omega (arith, few, c.len-all.ensures, l.blocks.ok.0, c.requires.few, c.requires.records, c.touches.ensures.small, c.touches-2.ensures.small)

pub overflow_add-more : goal.overflow_add-more
overflow_add-more c =
    let l = c.args.self.now in
    let few = found_few c.args.uses.now l.blocks.items l.space.items l.inodes.items l.next l.free c.requires.stands in
    omega (arith, few, c.len-all.ensures, l.blocks.ok.0, c.requires.few, c.requires.records, c.touches.ensures.small, c.touches-2.ensures.small, c.sum_of_inodes.ensures.small)

pub overflow_add-more-2 : goal.overflow_add-more-2
overflow_add-more-2 c =
    let l = c.args.self.now in
    let few = found_few c.args.uses.now l.blocks.items l.space.items l.inodes.items l.next l.free c.requires.stands in
    omega (arith, few, c.len-all.ensures, l.blocks.ok.0, c.requires.few, c.requires.records, c.touches.ensures.small, c.touches-2.ensures.small, c.sum_of_inodes.ensures.small, c.sum_of_space.ensures.small)

pub overflow_add-less : goal.overflow_add-less
overflow_add-less c =
    omega (arith, c.sum_of_space-2.ensures.small, c.sum_of_inodes-2.ensures.small)

pub overflow_add-less-2 : goal.overflow_add-less-2
overflow_add-less-2 c =
    omega (arith, c.sum_of_space-2.ensures.small, c.sum_of_inodes-2.ensures.small, c.sum_of_space-3.ensures.small)

pub touches-requires : goal.touches-requires
touches-requires c = c.requires.stands

pub touches-requires-2 : goal.touches-requires-2
touches-requires-2 c = c.requires.stands
