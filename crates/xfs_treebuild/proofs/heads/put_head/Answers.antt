use Rattle.std.proofs.Common.{ℕ, IsTrue, get_or, refl, subst, ◌≤◌, sym, ap, ◌∙◌}
use Rattle.xfs_word.specs.Field.{KeepsBeside, KeepsParts}
use Rattle.xfs_geom.specs.Volumes.{volume_of}
use Rattle.xfs_tree.specs.declared.layout.Layout.{Layout}
use Rattle.xfs_tree.specs.Layout.{header_len}
use Rattle.xfs_tree.specs.Rules.{can_hold}
use Rattle.xfs_treebuild.proofs.PackingHeads.{left_held, right_held, hold_by, headed_by, held_low}
use Rattle.xfs_treebuild.proofs.Numbering.{level-fits, owner-short}
use Rattle.xfs_tree.specs.Blocks.{capacity}
use Rattle.xfs_treebuild.proofs.heads.put_head.Goals as goal

pub sibling-requires-clause-can_hold : goal.sibling-requires-clause-can_hold
sibling-requires-clause-can_hold g c =
    let s = g.K.Kind.shape c.args.kind.now in
    let v = volume_of c.args.g.now in
    let l = c.tree_layout-layout.result in
    let owner = c.owner-owner.result in
    let row = c.args.row.now in
    left_held (λ (place : ℕ). IsTrue (can_hold v l owner place)) row c.args.i c.left_of.result c.left_of.ensures
    (hold_by v l s.layout owner s.owner row c.tree_layout-layout.ensures.value c.owner-owner.ensures.value c.requires.can_hold)

pub sibling-requires-2-clause-can_hold : goal.sibling-requires-2-clause-can_hold
sibling-requires-2-clause-can_hold g c =
    let s = g.K.Kind.shape c.args.kind.now in
    let v = volume_of c.args.g.now in
    let l = c.tree_layout-layout.result in
    let owner = c.owner-owner.result in
    let row = c.args.row.now in
    right_held (λ (place : ℕ). IsTrue (can_hold v l owner place)) row c.args.i c.right_of.result c.right_of.ensures
    (hold_by v l s.layout owner s.owner row c.tree_layout-layout.ensures.value c.owner-owner.ensures.value c.requires.can_hold)

pub returns-clause-headed : goal.returns-clause-headed
returns-clause-headed g c =
    let s = g.K.Kind.shape c.args.kind.now in
    let row = c.args.row.now in
    let e = c.put_header.ensures in
    headed_by (volume_of c.args.g.now) c.tree_layout-layout.result s.layout c.owner-owner.result s.owner c.args.level row c.args.i (get_or row c.args.i 0)
    c.sibling.result c.sibling-2.result c.left_of.result c.right_of.result c.put_header.new.block
    c.tree_layout-layout.ensures.value c.owner-owner.ensures.value refl c.left_of.ensures c.right_of.ensures
    e.sealed e.level e.lsn e.pad e.left c.sibling.ensures.value e.right c.sibling-2.ensures.value

pub returns-clause-keeps : goal.returns-clause-keeps
returns-clause-keeps g c =
    subst (λ (l : Layout). KeepsBeside c.args.block.now c.put_header.new.block 0 (header_len l)) c.tree_layout-layout.ensures.value c.put_header.ensures.keeps

pub returns-clause-keeps_parts : goal.returns-clause-keeps_parts
returns-clause-keeps_parts g c =
    subst (λ (l : Layout). KeepsParts c.args.block.now c.put_header.new.block 0 (header_len l)) c.tree_layout-layout.ensures.value c.put_header.ensures.keeps_parts

pub overflow_cast-header : goal.overflow_cast-header
overflow_cast-header g c = level-fits c.args.level c.requires.level

pub short_count-requires-clause-sound : goal.short_count-requires-clause-sound
short_count-requires-clause-sound g c = c.tree_layout-layout.ensures.sound

pub short_count-requires-clause-room : goal.short_count-requires-clause-room
short_count-requires-clause-room g c = subst (λ (l : Layout). c.args.count ≤ capacity l c.args.level) (sym c.tree_layout-layout.ensures.value) c.requires.count

pub left_of-requires : goal.left_of-requires
left_of-requires g c = c.requires.row

pub right_of-requires : goal.right_of-requires
right_of-requires g c = c.requires.row

pub bounds-row-i : goal.bounds-row-i
bounds-row-i g c = c.requires.row

pub sibling-requires-clause-owner : goal.sibling-requires-clause-owner
sibling-requires-clause-owner g c =
    let law = g.met.K.Kind g.world.𝓛 g.world.𝓜 g.world.𝓡 ((λ s x. x), (λ x. x), (λ x. x), λ x. x) in
    owner-short c.tree_layout-layout.result (g.K.Kind.shape c.args.kind.now).layout g.K.Kind.LONG c.owner-owner.result c.tree_layout-layout.ensures.value
    (ap (λ (l : Layout). l.long) (law.numbers c.args.kind.now)) c.owner-owner.ensures.short

pub sibling-requires-2-clause-owner : goal.sibling-requires-2-clause-owner
sibling-requires-2-clause-owner g c =
    let law = g.met.K.Kind g.world.𝓛 g.world.𝓜 g.world.𝓡 ((λ s x. x), (λ x. x), (λ x. x), λ x. x) in
    owner-short c.tree_layout-layout.result (g.K.Kind.shape c.args.kind.now).layout g.K.Kind.LONG c.owner-owner.result c.tree_layout-layout.ensures.value
    (ap (λ (l : Layout). l.long) (law.numbers c.args.kind.now)) c.owner-owner.ensures.short

pub put_header-requires-clause-owner : goal.put_header-requires-clause-owner
put_header-requires-clause-owner g c =
    let law = g.met.K.Kind g.world.𝓛 g.world.𝓜 g.world.𝓡 ((λ s x. x), (λ x. x), (λ x. x), λ x. x) in
    owner-short c.tree_layout-layout.result (g.K.Kind.shape c.args.kind.now).layout g.K.Kind.LONG c.owner-owner.result c.tree_layout-layout.ensures.value
    (ap (λ (l : Layout). l.long) (law.numbers c.args.kind.now)) c.owner-owner.ensures.short

pub put_header-requires-clause-block : goal.put_header-requires-clause-block
put_header-requires-clause-block g c = c.requires.block

pub put_header-requires-clause-magic : goal.put_header-requires-clause-magic
put_header-requires-clause-magic g c = refl

pub put_header-requires-clause-long_magic : goal.put_header-requires-clause-long_magic
put_header-requires-clause-long_magic g c = c.tree_layout-layout.ensures.sound.long_magic

pub put_header-requires-clause-left : goal.put_header-requires-clause-left
put_header-requires-clause-left g c = c.sibling.ensures.short

pub put_header-requires-clause-right : goal.put_header-requires-clause-right
put_header-requires-clause-right g c = c.sibling-2.ensures.short

pub returns-clause-count : goal.returns-clause-count
returns-clause-count g c = c.put_header.ensures.count ∙ c.short_count.ensures

pub put_header-requires-clause-inside : goal.put_header-requires-clause-inside
put_header-requires-clause-inside g c =
    let s = g.K.Kind.shape c.args.kind.now in
    held_low (volume_of c.args.g.now) s.layout s.owner (get_or c.args.row.now c.args.i 0) (c.requires.can_hold c.args.i 0 c.requires.row)
