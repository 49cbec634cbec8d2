use Rattle.std.proofs.Common.{◌≡◌, ℕ, ◌+◌, ◌*◌, ◌<◌, ◌≤◌, map, length, refl, sym, ◌∙◌, ap, subst, arith, List, IsTrue, take, drop}
use Rattle.std.specs.List.{sum, All}
use Rattle.std.proofs.lemmas.List.{length-map}
use Rattle.xfs_geom.specs.Volumes.{volume_of}
use Rattle.xfs_tree.specs.declared.layout.Layout.{Layout}
use Rattle.xfs_treebuild.specs.Size.{blocks_for, rows_above}
use Rattle.xfs_treebuild.specs.Exact.{IsExact}
use Rattle.xfs_treebuild.specs.Packing.{block_of_part, lsn_of}
use Rattle.xfs_treebuild.proofs.Rows.{levels_begin, level_more, levels_end}
use Rattle.xfs_treebuild.proofs.PackingShares.{blocks_room, blocks_few}
use Rattle.xfs_treebuild.proofs.PackingOrder.{settled_lawful}
use Rattle.xfs_treebuild.proofs.PackingLeaves.{fits}
use Rattle.xfs_treebuild.proofs.PackedTree.{reads_where_held}
use Rattle.xfs_treebuild.proofs.PackingWhole.{nodes_rising, nodes_at, low_level, next_low, leaves_at, each_next, begin_leads, begin_rises, next_leads, end_leads}
use Rattle.std.proofs.lemmas.List.Elements.{All-take, All-drop}
use Rattle.xfs_tree.specs.Rules.{can_hold}
use Rattle.xfs_treebuild.proofs.Numbering.{less-63, part-holds, one-of-two, front-inside, above-inside, nodes-hold, is-two, shrinks}
use Rattle.xfs_treebuild.proofs.packing.pack.Goals as goal

pub write_leaves-requires-clause-fits : goal.write_leaves-requires-clause-fits
write_leaves-requires-clause-fits g c =
    let law = g.met.K.Kind g.world.𝓛 g.world.𝓜 g.world.𝓡 ((λ s x. x), (λ x. x), (λ x. x), λ x. x) in
    λ κs lives. fits (g.K.Kind.shape c.args.kind.now) (volume_of c.args.g.now) (law.kind c.args.kind.now) c.args.records.now c.requires.lawful

-- how many leaves there are
leaves_of : (leaf_cap n count : ℕ) (l m : Layout) → count ≡ blocks_for l.leaf_cap n → l ≡ m → m.leaf_cap ≡ leaf_cap → count ≡ blocks_for leaf_cap n
leaves_of leaf_cap n count l m value is size = value ∙ ap (λ (k : Layout). blocks_for k.leaf_cap n) is ∙ ap (λ (k : ℕ). blocks_for k n) size

nodes_of : (node_cap n count : ℕ) (l m : Layout) → count ≡ blocks_for l.node_cap n → l ≡ m → m.node_cap ≡ node_cap → count ≡ blocks_for node_cap n
nodes_of node_cap n count l m value is size = value ∙ ap (λ (k : Layout). blocks_for k.node_cap n) is ∙ ap (λ (k : ℕ). blocks_for k n) size

pub row_of-requires : goal.row_of-requires
row_of-requires g c =
    let l = (g.K.Kind.shape c.args.kind.now).layout in
    let n = length c.args.records.now in
    let count = c.blocks_for-count.result in
    let value = leaves_of l.leaf_cap n count c.tree_layout-layout.result l c.blocks_for-count.ensures.value c.tree_layout-layout.ensures.value refl in
    let total : count + sum (rows_above count l.node_cap count) ≡ length c.args.places.now = levels_begin l.leaf_cap l.node_cap n count value ∙ sym c.requires.size in
    omega (arith, total)

pub write_leaves-requires-clause-room : goal.write_leaves-requires-clause-room
write_leaves-requires-clause-room g c =
    let l = (g.K.Kind.shape c.args.kind.now).layout in
    let law = g.met.K.Kind g.world.𝓛 g.world.𝓜 g.world.𝓡 ((λ s x. x), (λ x. x), (λ x. x), λ x. x) in
    let n = length c.args.records.now in
    let count = c.blocks_for-count.result in
    let value = leaves_of l.leaf_cap n count c.tree_layout-layout.result l c.blocks_for-count.ensures.value c.tree_layout-layout.ensures.value refl in
    let room = blocks_room l.leaf_cap n count value (law.kind c.args.kind.now).laid_out.some_records in
    λ κs lives. subst (λ (m : ℕ). n ≤ m * l.leaf_cap) (sym c.row_of.ensures.len) room

pub loop-count-init : goal.loop-count-init
loop-count-init g c =
    let law = g.met.K.Kind g.world.𝓛 g.world.𝓜 g.world.𝓡 ((λ s x. x), (λ x. x), (λ x. x), λ x. x) in
    let kind = law.kind c.args.kind.now in
    let s = g.K.Kind.shape c.args.kind.now in
    let v = volume_of c.args.g.now in
    let places = c.args.places.now in
    let part = c.write_leaves.new.part in
    let xs = map s.settled c.args.records.now in
    let lawful = settled_lawful s v kind c.args.records.now c.requires.lawful in
    let count = c.blocks_for-count.result in
    let same : length xs ≡ length c.args.records.now = length-map c.args.records.now s.settled in
    let first = leaves_of s.layout.leaf_cap (length c.args.records.now) count c.tree_layout-layout.result s.layout c.blocks_for-count.ensures.value c.tree_layout-layout.ensures.value refl in
    let value : count ≡ blocks_for s.layout.leaf_cap (length xs) = first ∙ ap (blocks_for s.layout.leaf_cap) (sym same) in
    let total : count + sum (rows_above count s.layout.node_cap count) ≡ length places =
    levels_begin s.layout.leaf_cap s.layout.node_cap (length c.args.records.now) count first ∙ sym c.requires.size in
    let inside : count ≤ length places = omega (arith, total) in
    let some = c.blocks_for-count.ensures.some in
    let room = blocks_room s.layout.leaf_cap (length xs) count value kind.laid_out.some_records in
    let at = leaves_at s v xs places c.row_of.result.now part count c.row_of.ensures.value c.row_of.ensures.len c.write_leaves.ensures.leaves in
    record {
      some = some;
      size = omega (arith, total);
      low = omega (arith, c.blocks_for-count.ensures.few, c.requires.few);
      lsns = λ j less. (at j (omega (arith, less))).headed.at_lsn;
      exact = λ j less. (at j (omega (arith, less))).exact;
      rising = λ two.
          let few : blocks_for s.layout.leaf_cap (length xs) ≤ length xs = blocks_few s.layout.leaf_cap (length xs) (omega (arith, two, value)) in
          begin_rises s v kind xs lawful places part count some inside room (omega (arith, few, value)) at;
      rows = begin_leads s v kind xs lawful places part count value some inside room at;
    }

pub row_of-row-requires : goal.row_of-row-requires
row_of-row-requires g c =
    let law = g.met.K.Kind g.world.𝓛 g.world.𝓜 g.world.𝓡 ((λ s x. x), (λ x. x), (λ x. x), λ x. x) in
    let l = (g.K.Kind.shape c.args.kind.now).layout in
    let inv = c.loop-count.invariant in
    let above = c.blocks_for-above.result in
    let count = c.loop-count.count in
    let value = nodes_of l.node_cap count above c.tree_layout-layout.result l c.blocks_for-above.ensures.value c.tree_layout-layout.ensures.value refl in
    let more : c.loop-count.first + count + blocks_for l.node_cap count + sum (rows_above (blocks_for l.node_cap count) l.node_cap (blocks_for l.node_cap count)) ≡ length c.args.places.now =
    level_more l.node_cap count (c.loop-count.first + count) (length c.args.places.now) (law.kind c.args.kind.now).laid_out.two_children (omega (arith, c.loop-count-test.true)) inv.size in
    omega (arith, more, value)

pub write_nodes-requires-clause-level : goal.write_nodes-requires-clause-level
write_nodes-requires-clause-level g c =
    let low = low_level c.loop-count.level c.loop-count.count (omega (arith, c.loop-count-test.true)) c.loop-count.invariant.low in
    λ κs lives. omega (arith, low)

pub write_nodes-requires-clause-room : goal.write_nodes-requires-clause-room
write_nodes-requires-clause-room g c =
    let law = g.met.K.Kind g.world.𝓛 g.world.𝓜 g.world.𝓡 ((λ s x. x), (λ x. x), (λ x. x), λ x. x) in
    let l = (g.K.Kind.shape c.args.kind.now).layout in
    let kept = (law.kind c.args.kind.now).laid_out.two_children in
    let value = nodes_of l.node_cap c.loop-count.count c.blocks_for-above.result c.tree_layout-layout.result l c.blocks_for-above.ensures.value c.tree_layout-layout.ensures.value refl in
    let room = blocks_room l.node_cap c.loop-count.count c.blocks_for-above.result value (omega (arith, kept)) in
    λ κs lives. subst (λ (m : ℕ). length c.row_of-below.result.now ≤ m * l.node_cap) (sym c.row_of-row.ensures.len)
    (subst (λ (n : ℕ). n ≤ c.blocks_for-above.result * l.node_cap) (sym c.row_of-below.ensures.len) room)

pub overflow_add-level : goal.overflow_add-level
overflow_add-level g c =
    let low = low_level c.loop-count.level c.loop-count.count (omega (arith, c.loop-count-test.true)) c.loop-count.invariant.low in
    omega (arith, low)

pub loop-count-preserved : goal.loop-count-preserved
loop-count-preserved g c =
    let law = g.met.K.Kind g.world.𝓛 g.world.𝓜 g.world.𝓡 ((λ s x. x), (λ x. x), (λ x. x), λ x. x) in
    let kind = law.kind c.args.kind.now in
    let s = g.K.Kind.shape c.args.kind.now in
    let v = volume_of c.args.g.now in
    let places = c.args.places.now in
    let old = c.loop-count.part in
    let new = c.write_nodes.new.part in
    let level = c.loop-count.level in
    let first = c.loop-count.first in
    let count = c.loop-count.count in
    let above = c.blocks_for-above.result in
    let inv = c.loop-count.invariant in
    let xs = map s.settled c.args.records.now in
    let lawful = settled_lawful s v kind c.args.records.now c.requires.lawful in
    let two = kind.laid_out.two_children in
    let more : 2 ≤ count = omega (arith, c.loop-count-test.true) in
    let value = nodes_of s.layout.node_cap count above c.tree_layout-layout.result s.layout c.blocks_for-above.ensures.value c.tree_layout-layout.ensures.value refl in
    let half : 2 * above ≤ count + 1 = c.blocks_for-above.ensures.fewer c.tree_layout-layout.ensures.sound.two_children more in
    let some : 1 ≤ above = c.blocks_for-above.ensures.some in
    let enough : above ≤ count = omega (arith, half, more) in
    let room = blocks_room s.layout.node_cap count above value (omega (arith, two)) in
    let size : first + count + above + sum (rows_above above s.layout.node_cap above) ≡ length places =
    subst (λ (k : ℕ). first + count + k + sum (rows_above k s.layout.node_cap k) ≡ length places) (sym value)
    (level_more s.layout.node_cap count (first + count) (length places) two more inv.size) in
    let inside : first + count + above ≤ length places = omega (arith, size) in
    let at = nodes_at s v places c.row_of-below.result.now c.row_of-row.result.now old new level first count above
    c.row_of-below.ensures.value c.row_of-below.ensures.len c.row_of-row.ensures.value c.row_of-row.ensures.len c.write_nodes.ensures.nodes in
    let before : (k : ℕ) → k < first + count → block_of_part new k ≡ block_of_part old k = λ k less.
    c.write_nodes.ensures.before k (omega (arith, less, c.row_of-below.ensures.len)) in
    record {
      some = some;
      size = size;
      low = next_low level count above half inv.low;
      lsns = each_next (λ block. lsn_of s.layout block ≡ 0) old new (first + count) above before inv.lsns (λ i less. (at i less).headed.at_lsn);
      exact = each_next (IsExact s) old new (first + count) above before inv.exact (λ i less. (at i less).exact);
      rising = λ _. nodes_rising s v places old new level first count above some enough room inside (inv.rising more) at;
      rows = next_leads s v kind xs lawful places old new level first count above two more value some enough room inside (inv.rising more) before at inv.rows;
    }

pub returns-clause-lsns : goal.returns-clause-lsns
returns-clause-lsns g c =
    let cap' = (g.K.Kind.shape c.args.kind.now).layout.node_cap in
    let inv = c.loop-count.invariant in
    let all : c.loop-count.first + c.loop-count.count ≡ length c.args.places.now =
    levels_end cap' c.loop-count.count (c.loop-count.first + c.loop-count.count) (length c.args.places.now) (omega (arith, c.loop-count-test.false)) inv.size in
    λ j less. inv.lsns j (omega (arith, less, all))

pub returns-clause-exact : goal.returns-clause-exact
returns-clause-exact g c =
    let cap' = (g.K.Kind.shape c.args.kind.now).layout.node_cap in
    let inv = c.loop-count.invariant in
    let all : c.loop-count.first + c.loop-count.count ≡ length c.args.places.now =
    levels_end cap' c.loop-count.count (c.loop-count.first + c.loop-count.count) (length c.args.places.now) (omega (arith, c.loop-count-test.false)) inv.size in
    λ j less. inv.exact j (omega (arith, less, all))

pub returns-clause-packed : goal.returns-clause-packed
returns-clause-packed g c =
    let law = g.met.K.Kind g.world.𝓛 g.world.𝓜 g.world.𝓡 ((λ s x. x), (λ x. x), (λ x. x), λ x. x) in
    let kind = law.kind c.args.kind.now in
    let s = g.K.Kind.shape c.args.kind.now in
    let v = volume_of c.args.g.now in
    let inv = c.loop-count.invariant in
    end_leads s v kind (map s.settled c.args.records.now) (settled_lawful s v kind c.args.records.now c.requires.lawful) c.args.places.now
    c.loop-count.part c.loop-count.level c.loop-count.first c.loop-count.count (omega (arith, inv.some, c.loop-count-test.false)) inv.size inv.rows

pub returns-clause-reads : goal.returns-clause-reads
returns-clause-reads g c =
    let law = g.met.K.Kind g.world.𝓛 g.world.𝓜 g.world.𝓡 ((λ s x. x), (λ x. x), (λ x. x), λ x. x) in
    let kind = law.kind c.args.kind.now in
    let s = g.K.Kind.shape c.args.kind.now in
    let v = volume_of c.args.g.now in
    let inv = c.loop-count.invariant in
    reads_where_held s v c.args.records.now c.args.places.now c.loop-count.part
    (end_leads s v kind (map s.settled c.args.records.now) (settled_lawful s v kind c.args.records.now c.requires.lawful) c.args.places.now
    c.loop-count.part c.loop-count.level c.loop-count.first c.loop-count.count (omega (arith, inv.some, c.loop-count-test.false)) inv.size inv.rows)
    c.requires.size c.requires.can_hold c.requires.different

pub blocks_for-count-requires-clause-some : goal.blocks_for-count-requires-clause-some
blocks_for-count-requires-clause-some g c = c.tree_layout-layout.ensures.sound.some_records

pub blocks_for-count-requires-clause-items : goal.blocks_for-count-requires-clause-items
blocks_for-count-requires-clause-items g c = less-63 (length c.args.records.now) c.requires.few

pub write_leaves-requires-clause-few : goal.write_leaves-requires-clause-few
write_leaves-requires-clause-few g c = λ κs lives. c.requires.few

pub write_leaves-requires-clause-part : goal.write_leaves-requires-clause-part
write_leaves-requires-clause-part g c =
    let l = (g.K.Kind.shape c.args.kind.now).layout in
    let n = length c.args.records.now in
    let count = c.blocks_for-count.result in
    let value = leaves_of l.leaf_cap n count c.tree_layout-layout.result l c.blocks_for-count.ensures.value c.tree_layout-layout.ensures.value refl in
    let total : count + sum (rows_above count l.node_cap count) ≡ length c.args.places.now = levels_begin l.leaf_cap l.node_cap n count value ∙ sym c.requires.size in
    let inside = front-inside count (sum (rows_above count l.node_cap count)) (length c.args.places.now) total in
    λ κs lives. part-holds (length c.row_of.result.now) count (length c.args.places.now) (length c.args.part.now) c.row_of.ensures.len inside c.requires.part

pub write_leaves-requires-clause-can_hold : goal.write_leaves-requires-clause-can_hold
write_leaves-requires-clause-can_hold g c =
    let s = g.K.Kind.shape c.args.kind.now in
    let v = volume_of c.args.g.now in
    λ κs lives. subst (λ (ps : List ℕ). All (λ place. IsTrue (can_hold v s.layout s.owner place)) ps) (sym c.row_of.ensures.value)
    (All-take (λ place. IsTrue (can_hold v s.layout s.owner place)) c.blocks_for-count.result (drop 0 c.args.places.now)
    (All-drop (λ place. IsTrue (can_hold v s.layout s.owner place)) 0 c.args.places.now c.requires.can_hold))

pub blocks_for-above-requires-clause-some : goal.blocks_for-above-requires-clause-some
blocks_for-above-requires-clause-some g c = one-of-two c.tree_layout-layout.result.node_cap c.tree_layout-layout.ensures.sound.two_children

pub row_of-below-requires : goal.row_of-below-requires
row_of-below-requires g c =
    let cap' = (g.K.Kind.shape c.args.kind.now).layout.node_cap in
    let count = c.loop-count.count in
    front-inside (c.loop-count.first + count) (sum (rows_above count cap' count)) (length c.args.places.now) c.loop-count.invariant.size

pub write_nodes-requires-clause-part : goal.write_nodes-requires-clause-part
write_nodes-requires-clause-part g c =
    let law = g.met.K.Kind g.world.𝓛 g.world.𝓜 g.world.𝓡 ((λ s x. x), (λ x. x), (λ x. x), λ x. x) in
    let l = (g.K.Kind.shape c.args.kind.now).layout in
    let inv = c.loop-count.invariant in
    let above = c.blocks_for-above.result in
    let count = c.loop-count.count in
    let n = length c.args.places.now in
    let due = blocks_for l.node_cap count in
    let value = nodes_of l.node_cap count above c.tree_layout-layout.result l c.blocks_for-above.ensures.value c.tree_layout-layout.ensures.value refl in
    let more = level_more l.node_cap count (c.loop-count.first + count) n (law.kind c.args.kind.now).laid_out.two_children (is-two count c.loop-count-test.true) inv.size in
    let inside = above-inside (c.loop-count.first + count) above due (sum (rows_above due l.node_cap due)) n more value in
    λ κs lives. nodes-hold c.loop-count.first count above (length c.row_of-below.result.now) (length c.row_of-row.result.now) n (length c.loop-count.part) (length c.args.part.now)
    c.row_of-below.ensures.len c.row_of-row.ensures.len inside (c.loop-count.auto.part ∙ c.write_leaves.auto.part) c.requires.part

pub write_nodes-requires-clause-below : goal.write_nodes-requires-clause-below
write_nodes-requires-clause-below g c =
    let s = g.K.Kind.shape c.args.kind.now in
    let v = volume_of c.args.g.now in
    λ κs lives. subst (λ (ps : List ℕ). All (λ place. IsTrue (can_hold v s.layout s.owner place)) ps) (sym c.row_of-below.ensures.value)
    (All-take (λ place. IsTrue (can_hold v s.layout s.owner place)) c.loop-count.count (drop c.loop-count.first c.args.places.now)
    (All-drop (λ place. IsTrue (can_hold v s.layout s.owner place)) c.loop-count.first c.args.places.now c.requires.can_hold))

pub write_nodes-requires-clause-can_hold : goal.write_nodes-requires-clause-can_hold
write_nodes-requires-clause-can_hold g c =
    let s = g.K.Kind.shape c.args.kind.now in
    let v = volume_of c.args.g.now in
    λ κs lives. subst (λ (ps : List ℕ). All (λ place. IsTrue (can_hold v s.layout s.owner place)) ps) (sym c.row_of-row.ensures.value)
    (All-take (λ place. IsTrue (can_hold v s.layout s.owner place)) c.blocks_for-above.result (drop (c.loop-count.first + c.loop-count.count) c.args.places.now)
    (All-drop (λ place. IsTrue (can_hold v s.layout s.owner place)) (c.loop-count.first + c.loop-count.count) c.args.places.now c.requires.can_hold))

pub write_nodes-requires-clause-children : goal.write_nodes-requires-clause-children
write_nodes-requires-clause-children g c =
    let more = is-two c.loop-count.count c.loop-count-test.true in
    λ κs lives j less. (c.loop-count.invariant.rising more).child j (subst (λ (n : ℕ). j < n) c.row_of-below.ensures.len less)

pub loop-count-smaller : goal.loop-count-smaller
loop-count-smaller g c =
    let more = is-two c.loop-count.count c.loop-count-test.true in
    shrinks c.blocks_for-above.result c.loop-count.count more (c.blocks_for-above.ensures.fewer c.tree_layout-layout.ensures.sound.two_children more)

pub returns-clause-len : goal.returns-clause-len
returns-clause-len g c = c.loop-count.auto.part ∙ c.write_leaves.auto.part
