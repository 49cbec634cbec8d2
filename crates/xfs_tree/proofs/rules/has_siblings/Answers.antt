use Rattle.std.proofs.Common.{◌≡◌, ℕ, Bool, true, false, ◌&&◌, List, Option, sym, ◌∙◌, ap}
use Rattle.xfs_geom.specs.Volumes.{volume_of}
use Rattle.xfs_tree.specs.declared.layout.Layout.{Layout}
use Rattle.xfs_tree.specs.Blocks.{left_of, right_of}
use Rattle.xfs_tree.specs.Rules.{is_sibling}
use Rattle.xfs_tree.proofs.rules.has_siblings.Goals as goal

-- a test of what a layout and an owner give, with both and what is tested as they are called
stated : (test : Layout → ℕ → ℕ → Bool) (read : Layout → ℕ) (layout due : Layout) (owner due_owner pointer : ℕ) (result : Bool) → layout ≡ due → owner ≡ due_owner
    → pointer ≡ read layout → result ≡ test layout owner pointer → result ≡ test due due_owner (read due)
stated test read layout due owner due_owner pointer result same_layout same_owner value is =
    is ∙ ap (test layout owner) value ∙ (λ i. test (same_layout i) (same_owner i) (read (same_layout i)))

both : (first second result : Bool) → first ≡ true → result ≡ second → result ≡ (first && second)
both first second result holds is = is ∙ sym (ap (λ (b : Bool). b && second) holds)

neither : (first second result : Bool) → result ≡ first → result ≡ false → result ≡ (first && second)
neither first second result is fails = fails ∙ sym (ap (λ (b : Bool). b && second) (sym is ∙ fails))

pub is_sibling-requires-clause-owner : goal.is_sibling-requires-clause-owner
is_sibling-requires-clause-owner g c =
    let law = g.met.K.Kind g.world.𝓛 g.world.𝓜 g.world.𝓡 ((λ s x. x), (λ x. x), (λ x. x), λ x. x) in
    λ short. c.owner-owner.ensures.short (ap (λ (l : Layout). l.long) (sym (law.numbers c.args.kind.now)) ∙ ap (λ (l : Layout). l.long) (sym c.tree_layout-layout.ensures.value) ∙ short)

pub is_sibling-requires-clause-pointer : goal.is_sibling-requires-clause-pointer
is_sibling-requires-clause-pointer g c = c.left.ensures.short

pub is_sibling-requires-then-is_sibling-clause-owner : goal.is_sibling-requires-then-is_sibling-clause-owner
is_sibling-requires-then-is_sibling-clause-owner g c =
    let law = g.met.K.Kind g.world.𝓛 g.world.𝓜 g.world.𝓡 ((λ s x. x), (λ x. x), (λ x. x), λ x. x) in
    λ short. c.owner-owner.ensures.short (ap (λ (l : Layout). l.long) (sym (law.numbers c.args.kind.now)) ∙ ap (λ (l : Layout). l.long) (sym c.tree_layout-layout.ensures.value) ∙ short)

pub is_sibling-requires-then-is_sibling-clause-pointer : goal.is_sibling-requires-then-is_sibling-clause-pointer
is_sibling-requires-then-is_sibling-clause-pointer g c = c.right.ensures.short

pub returns-then-is_sibling : goal.returns-then-is_sibling
returns-then-is_sibling g c =
    let v = volume_of c.args.g.now in
    let left = stated (λ l o p. is_sibling v l o c.args.beside.now.left p) (λ l. left_of l c.args.block.now) c.tree_layout-layout.result _ c.owner-owner.result _ c.left.result c.is_sibling.result
    c.tree_layout-layout.ensures.value c.owner-owner.ensures.value c.left.ensures.value c.is_sibling.ensures in
    both _ _ c.is_sibling-then-is_sibling.result (sym left ∙ c.if-is_sibling.true)
    (stated (λ l o p. is_sibling v l o c.args.beside.now.right p) (λ l. right_of l c.args.block.now) c.tree_layout-layout.result _ c.owner-owner.result _ c.right.result c.is_sibling-then-is_sibling.result
    c.tree_layout-layout.ensures.value c.owner-owner.ensures.value c.right.ensures.value c.is_sibling-then-is_sibling.ensures)

pub returns-else-is_sibling : goal.returns-else-is_sibling
returns-else-is_sibling g c =
    let v = volume_of c.args.g.now in
    let left = stated (λ l o p. is_sibling v l o c.args.beside.now.left p) (λ l. left_of l c.args.block.now) c.tree_layout-layout.result _ c.owner-owner.result _ c.left.result c.is_sibling.result
    c.tree_layout-layout.ensures.value c.owner-owner.ensures.value c.left.ensures.value c.is_sibling.ensures in
    neither _ _ c.is_sibling.result left c.if-is_sibling.false
