use Rattle.std.proofs.Common.{◌≡◌, ℕ, Bool, ◌≤◌, ◌==◌, ◌++◌, List, [], if◌then◌else◌, sym, ◌∙◌, ap, subst}
use Rattle.std.proofs.lemmas.Bool.{ne_eqb}
use Rattle.std.proofs.lemmas.Result.{IfOk-from_err}
use Rattle.xfs_tree.specs.declared.layout.Layout.{Layout}
use Rattle.xfs_tree.specs.Blocks.{capacity, records_of}
use Rattle.xfs_tree.proofs.stepping.records_at.Goals as goal

-- in a leaf these are all records
all_records : {A : Type 0} (level : ℕ) (old new all : List A) → level ≡ 0 → old ≡ [] → new ≡ old ++ all → new ≡ (if level == 0 then all else [])
all_records level old new all leaf none grown =
    grown ∙ ap (λ xs. xs ++ all) none ∙ sym (ap (λ (n : ℕ). if n == 0 then all else []) leaf)

-- a node has none
no_records : {A : Type 0} (level : ℕ) (new all : List A) → (level ≡ 0 → ⊥) → new ≡ [] → new ≡ (if level == 0 then all else [])
no_records level new all above none = none ∙ sym (ap (λ (leaf : Bool). if leaf then all else []) (ne_eqb level 0 above))

few_records : (l : Layout) (level count : ℕ) → level ≡ 0 → count ≤ capacity l level → count ≤ l.leaf_cap
few_records l level count leaf few = subst (λ (n : ℕ). count ≤ capacity l n) leaf few

pub returns-then-level-ne0 : goal.returns-then-level-ne0
returns-then-level-ne0 g c = no_records c.args.level _ (records_of (g.K.Kind.shape c.args.kind.now) c.args.block.now) c.if-level-ne0.true c.new.ensures.items

pub count_of-requires : goal.count_of-requires
count_of-requires g c = c.requires.block

pub returns-in_err-records : goal.returns-in_err-records
returns-in_err-records g c = IfOk-from_err c.from_residual.result _ c.from_residual.ensures.0

pub push_records-requires-clause-block : goal.push_records-requires-clause-block
push_records-requires-clause-block g c = λ κs lives. c.requires.block

pub push_records-requires-clause-count : goal.push_records-requires-clause-count
push_records-requires-clause-count g c = λ κs lives. few_records (g.K.Kind.shape c.args.kind.now).layout c.args.level _ c.if-level-ne0.false c.requires.count

pub returns-in_err-push_records : goal.returns-in_err-push_records
returns-in_err-push_records g c = IfOk-from_err c.from_residual-in_err-push_records.result _ c.from_residual-in_err-push_records.ensures.0

pub returns : goal.returns
returns g c =
    all_records c.args.level _ _ (records_of (g.K.Kind.shape c.args.kind.now) c.args.block.now) c.if-level-ne0.false c.in_ok-records.ensures.items c.in_ok-push_records.ensures
