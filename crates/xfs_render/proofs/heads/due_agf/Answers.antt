use Rattle.std.proofs.Common.{arith, length, ap, ◌≡◌, ℕ, ◌+◌, ◌-◌, ◌^◌, ◌<◌, sym, subst, lit<, lit≤, ◌∙◌}
use Rattle.xfs_geom.specs.Volumes.{volume_of}
use Rattle.xfs_geom.specs.Sums.{free_blocks, longest}
use Rattle.xfs_render.specs.Groups.{last_entry}
use Rattle.xfs_render.specs.Counters.{levels}
use Rattle.xfs_render.proofs.Sums.{free_small, space_trees}
use Rattle.xfs_render.proofs.heads.due_agf.Goals as goal

pub root_in-requires-clause-some : goal.root_in-requires-clause-some
root_in-requires-clause-some c = (space_trees _ _ _ _ c.requires.sound).0

pub root_in-requires-2-clause-some : goal.root_in-requires-2-clause-some
root_in-requires-2-clause-some c = (space_trees _ _ _ _ c.requires.sound).1

pub root_in-requires-3-clause-some : goal.root_in-requires-3-clause-some
root_in-requires-3-clause-some c = (space_trees _ _ _ _ c.requires.sound).2

pub overflow_cast-free : goal.overflow_cast-free
overflow_cast-free c =
    let small = free_small (volume_of c.args.g.now) c.args.ag c.args.placed.now.bno c.requires.sound.bno.lawful in
    let same : free_blocks c.as_slice-2.result.now ≡ free_blocks c.args.placed.now.bno = ap free_blocks c.as_slice-2.ensures in
    omega (arith, small, same, c.free_blocks-free.ensures.value, c.group_length-length.ensures.value, c.group_length-length.type_inv)

pub overflow_sub-result : goal.overflow_sub-result
overflow_sub-result c =
    let all = space_trees _ _ _ _ c.requires.sound in
    omega (arith, all.0, all.1, all.2, ap length c.tree_places-bno.ensures, ap length c.tree_places-cnt.ensures, ap length c.tree_places-rmap.ensures)

pub overflow_cast-result : goal.overflow_cast-result
overflow_cast-result c =
    let all = space_trees _ _ _ _ c.requires.sound in
    omega (arith, all.3, ap length c.tree_places-bno.ensures, ap length c.tree_places-cnt.ensures, ap length c.tree_places-rmap.ensures)

pub overflow_cast-result-2 : goal.overflow_cast-result-2
overflow_cast-result-2 c =
    let all = space_trees _ _ _ _ c.requires.sound in
    omega (arith, all.3, ap length c.tree_places-rmap.ensures)

pub tree_places-bno-requires : goal.tree_places-bno-requires
tree_places-bno-requires c = subst (λ (n : ℕ). 0 < n) (sym c.requires.sound.five) (lit< tt)

pub tree_places-cnt-requires : goal.tree_places-cnt-requires
tree_places-cnt-requires c = subst (λ (n : ℕ). 1 < n) (sym c.requires.sound.five) (lit< tt)

pub tree_places-rmap-requires : goal.tree_places-rmap-requires
tree_places-rmap-requires c = subst (λ (n : ℕ). 4 < n) (sym c.requires.sound.five) (lit< tt)

pub root_in-requires-clause-tree : goal.root_in-requires-clause-tree
root_in-requires-clause-tree c = subst (λ (n : ℕ). 0 < n) (sym c.requires.sound.five) (lit< tt)

pub root_in-requires-2-clause-tree : goal.root_in-requires-2-clause-tree
root_in-requires-2-clause-tree c = subst (λ (n : ℕ). 1 < n) (sym c.requires.sound.five) (lit< tt)

pub root_in-requires-3-clause-tree : goal.root_in-requires-3-clause-tree
root_in-requires-3-clause-tree c = subst (λ (n : ℕ). 4 < n) (sym c.requires.sound.five) (lit< tt)

pub overflow_cast-listed : goal.overflow_cast-listed
overflow_cast-listed c = omega (arith, ap length c.as_slice.ensures, c.requires.sound.short)

pub levels-requires-clause-leaves : goal.levels-requires-clause-leaves
levels-requires-clause-leaves c = lit≤ tt

pub levels-requires-clause-nodes : goal.levels-requires-clause-nodes
levels-requires-clause-nodes c = lit≤ tt

pub levels-requires-clause-records : goal.levels-requires-clause-records
levels-requires-clause-records c = subst (λ (n : ℕ). n < 2 ^ 28) (sym (ap length c.as_slice-3.ensures)) c.requires.sound.bno.few

pub levels-requires-2-clause-leaves : goal.levels-requires-2-clause-leaves
levels-requires-2-clause-leaves c = lit≤ tt

pub levels-requires-2-clause-nodes : goal.levels-requires-2-clause-nodes
levels-requires-2-clause-nodes c = lit≤ tt

pub levels-requires-2-clause-records : goal.levels-requires-2-clause-records
levels-requires-2-clause-records c = subst (λ (n : ℕ). n < 2 ^ 28) (sym (ap length c.as_slice-4.ensures)) c.requires.sound.cnt.few

pub levels-requires-3-clause-leaves : goal.levels-requires-3-clause-leaves
levels-requires-3-clause-leaves c = lit≤ tt

pub levels-requires-3-clause-nodes : goal.levels-requires-3-clause-nodes
levels-requires-3-clause-nodes c = lit≤ tt

pub levels-requires-3-clause-records : goal.levels-requires-3-clause-records
levels-requires-3-clause-records c = subst (λ (n : ℕ). n < 2 ^ 28) (sym (ap length c.as_slice-5.ensures)) c.requires.sound.rmap.few

pub overflow_add-result : goal.overflow_add-result
overflow_add-result c =
    let all = space_trees _ _ _ _ c.requires.sound in
    omega (arith, all.3, ap length c.tree_places-bno.ensures, ap length c.tree_places-cnt.ensures, ap length c.tree_places-rmap.ensures)

pub overflow_add-result-2 : goal.overflow_add-result-2
overflow_add-result-2 c =
    let all = space_trees _ _ _ _ c.requires.sound in
    omega (arith, all.3, ap length c.tree_places-bno.ensures, ap length c.tree_places-cnt.ensures, ap length c.tree_places-rmap.ensures)

pub returns : goal.returns
returns c = λ i. record {
  magicnum = 0x5841_4746;
  versionnum = 1;
  seqno = c.args.ag;
  length = c.group_length-length.ensures.value i;
  bnoroot = c.root_in.ensures i;
  cntroot = c.root_in-2.ensures i;
  rmaproot = c.root_in-3.ensures i;
  bnolevel = (c.levels.ensures.value ∙ ap (λ (n : ℕ). levels 505 336 n) (ap length c.as_slice-3.ensures)) i;
  cntlevel = (c.levels-2.ensures.value ∙ ap (λ (n : ℕ). levels 505 336 n) (ap length c.as_slice-4.ensures)) i;
  rmaplevel = (c.levels-3.ensures.value ∙ ap (λ (n : ℕ). levels 168 91 n) (ap length c.as_slice-5.ensures)) i;
  flfirst = 0;
  fllast = (c.last_entry.ensures ∙ ap last_entry (ap length c.as_slice.ensures)) i;
  flcount = length (c.as_slice.ensures i);
  freeblks = (c.free_blocks-free.ensures.value ∙ ap free_blocks c.as_slice-2.ensures) i;
  longest = (c.longest.ensures ∙ ap longest c.as_slice-6.ensures) i;
  btreeblks = length (c.tree_places-bno.ensures i) + length (c.tree_places-cnt.ensures i) + length (c.tree_places-rmap.ensures i) - 3;
  uuid = c.args.g.now.uuid;
  rmapblocks = length (c.tree_places-rmap.ensures i);
  lsn = 0;
  crc = 0;
}
