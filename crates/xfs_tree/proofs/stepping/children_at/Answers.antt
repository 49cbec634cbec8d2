use Rattle.std.proofs.Common.{◌≡◌, ℕ, Bool, ◌≤◌, ◌==◌, ◌++◌, List, [], if◌then◌else◌, sym, ◌∙◌, ap, subst}
use Rattle.std.proofs.lemmas.Bool.{ne_eqb}
use Rattle.std.proofs.lemmas.Result.{IfOk-from_err}
use Rattle.xfs_geom.specs.Volumes.{volume_of}
use Rattle.xfs_tree.specs.declared.layout.Layout.{Layout}
use Rattle.xfs_tree.specs.Blocks.{capacity, children_of}
use Rattle.xfs_tree.proofs.stepping.children_at.Goals as goal

-- above the leaves these are all children
all_children : {A : Type 0} (level : ℕ) (old new all : List A) → (level ≡ 0 → ⊥) → old ≡ [] → new ≡ old ++ all → new ≡ (if level == 0 then [] else all)
all_children level old new all above none grown =
    grown ∙ ap (λ xs. xs ++ all) none ∙ sym (ap (λ (leaf : Bool). if leaf then [] else all) (ne_eqb level 0 above))

-- a leaf has none
no_children : {A : Type 0} (level : ℕ) (new all : List A) → level ≡ 0 → new ≡ [] → new ≡ (if level == 0 then [] else all)
no_children level new all leaf none = none ∙ sym (ap (λ (n : ℕ). if n == 0 then [] else all) leaf)

few_children : (l : Layout) (level count : ℕ) → (level ≡ 0 → ⊥) → count ≤ capacity l level → count ≤ l.node_cap
few_children l level count above few =
    subst (λ (most : ℕ). count ≤ most) (ap (λ (leaf : Bool). if leaf then l.leaf_cap else l.node_cap) (ne_eqb level 0 above)) few

pub returns-then-level-eq0 : goal.returns-then-level-eq0
returns-then-level-eq0 g c =
    no_children c.args.level _ (children_of (g.K.Kind.shape c.args.kind.now) (volume_of c.args.g.now) c.args.block.now) c.if-level-eq0.true c.new.ensures.items

pub count_of-requires : goal.count_of-requires
count_of-requires g c = c.requires.block

pub returns-in_err-children : goal.returns-in_err-children
returns-in_err-children g c = IfOk-from_err c.from_residual.result _ c.from_residual.ensures.0

pub push_children-requires-clause-block : goal.push_children-requires-clause-block
push_children-requires-clause-block g c = λ κs lives. c.requires.block

pub push_children-requires-clause-count : goal.push_children-requires-clause-count
push_children-requires-clause-count g c = λ κs lives. few_children (g.K.Kind.shape c.args.kind.now).layout c.args.level _ c.if-level-eq0.false c.requires.count

pub returns-in_err-push_children : goal.returns-in_err-push_children
returns-in_err-push_children g c = IfOk-from_err c.from_residual-in_err-push_children.result _ c.from_residual-in_err-push_children.ensures.0

pub returns : goal.returns
returns g c =
    all_children c.args.level _ _ (children_of (g.K.Kind.shape c.args.kind.now) (volume_of c.args.g.now) c.args.block.now) c.if-level-eq0.false
    c.in_ok-children.ensures.items c.in_ok-push_children.ensures
