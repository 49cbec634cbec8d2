use Rattle.std.proofs.Common.{◌≡◌, ℕ, ◌+◌, ◌*◌, inl, true, false, List, Some, sym, ◌∙◌, ap, ap₂, subst, arith, ◌<◌}
use Rattle.std.proofs.lemmas.Bool.{true≢false}
use Rattle.xfs_word.specs.Field.{part_of, KeepsBeside, KeepsParts}
use Rattle.xfs_tree.specs.declared.layout.Layout.{Layout}
use Rattle.xfs_tree.specs.Blocks.{key_place}
use Rattle.xfs_treebuild.specs.Exact.{IsSpelt}
use Rattle.xfs_treebuild.proofs.PackingItems.{pairs_len}
use Rattle.xfs_treebuild.proofs.PackingKeys.{one_len, pair_beside, pair_parts}
use Rattle.xfs_treebuild.proofs.nodes.put_keys.Goals as goal

pub put_key-requires-clause-key : goal.put_key-requires-clause-key
put_key-requires-clause-key g c = λ κs lives. c.requires.low

pub put_key-requires-then-layout-clause-key : goal.put_key-requires-then-layout-clause-key
put_key-requires-then-layout-clause-key g c =
    let value = c.tree_layout-layout.ensures.value in
    λ κs lives. c.requires.high (sym (ap (λ (l : Layout). l.high) value) ∙ c.if-layout.true)

pub returns-then-layout-clause-low : goal.returns-then-layout-clause-low
returns-then-layout-clause-low g c =
    let s = g.K.Kind.shape c.args.kind.now in
    let at = c.key_place-at.result in
    let value = c.tree_layout-layout.ensures.value in
    let place : at ≡ key_place s.layout c.args.i = c.key_place-at.ensures.place ∙ ap (λ (l : Layout). key_place l c.args.i) value in
    let size : c.tree_layout-layout.result.key_len ≡ s.layout.key_len = ap (λ (l : Layout). l.key_len) value in
    let mid = c.put_key.new.block in
    let new = c.put_key-then-layout.new.block in
    let kept : part_of new at s.layout.key_len ≡ part_of mid at s.layout.key_len = c.put_key-then-layout.ensures.keeps_parts at s.layout.key_len (inl (omega (arith, size))) in
    subst (λ (p : ℕ). Some (s.key_of (part_of new p s.layout.key_len)) ≡ c.args.seat.now.low) place
    (ap (λ (bytes : List ℕ). Some (s.key_of bytes)) kept ∙ c.put_key.ensures.put)

pub returns-then-layout-clause-high : goal.returns-then-layout-clause-high
returns-then-layout-clause-high g c =
    let s = g.K.Kind.shape c.args.kind.now in
    let at = c.key_place-at.result in
    let value = c.tree_layout-layout.ensures.value in
    let place : at ≡ key_place s.layout c.args.i = c.key_place-at.ensures.place ∙ ap (λ (l : Layout). key_place l c.args.i) value in
    let size : c.tree_layout-layout.result.key_len ≡ s.layout.key_len = ap (λ (l : Layout). l.key_len) value in
    let mid = c.put_key.new.block in
    let new = c.put_key-then-layout.new.block in
    let both : at + c.tree_layout-layout.result.key_len ≡ key_place s.layout c.args.i + s.layout.key_len = ap₂ (λ (a b : ℕ). a + b) place size in
    λ is. subst (λ (p : ℕ). Some (s.key_of (part_of new p s.layout.key_len)) ≡ c.args.seat.now.high) both c.put_key-then-layout.ensures.put

pub returns-then-layout-clause-spelt_low : goal.returns-then-layout-clause-spelt_low
returns-then-layout-clause-spelt_low g c =
    let s = g.K.Kind.shape c.args.kind.now in
    let at = c.key_place-at.result in
    let value = c.tree_layout-layout.ensures.value in
    let place : at ≡ key_place s.layout c.args.i = c.key_place-at.ensures.place ∙ ap (λ (l : Layout). key_place l c.args.i) value in
    let size : c.tree_layout-layout.result.key_len ≡ s.layout.key_len = ap (λ (l : Layout). l.key_len) value in
    let mid = c.put_key.new.block in
    let new = c.put_key-then-layout.new.block in
    let kept : part_of new at s.layout.key_len ≡ part_of mid at s.layout.key_len = c.put_key-then-layout.ensures.keeps_parts at s.layout.key_len (inl (omega (arith, size))) in
    subst (λ (p : ℕ). IsSpelt s (part_of new p s.layout.key_len)) place (subst (IsSpelt s) (sym kept) c.put_key.ensures.spelt)

pub returns-then-layout-clause-spelt_high : goal.returns-then-layout-clause-spelt_high
returns-then-layout-clause-spelt_high g c =
    let s = g.K.Kind.shape c.args.kind.now in
    let at = c.key_place-at.result in
    let value = c.tree_layout-layout.ensures.value in
    let place : at ≡ key_place s.layout c.args.i = c.key_place-at.ensures.place ∙ ap (λ (l : Layout). key_place l c.args.i) value in
    let size : c.tree_layout-layout.result.key_len ≡ s.layout.key_len = ap (λ (l : Layout). l.key_len) value in
    let mid = c.put_key.new.block in
    let new = c.put_key-then-layout.new.block in
    let both : at + c.tree_layout-layout.result.key_len ≡ key_place s.layout c.args.i + s.layout.key_len = ap₂ (λ (a b : ℕ). a + b) place size in
    λ is. subst (λ (p : ℕ). IsSpelt s (part_of new p s.layout.key_len)) both c.put_key-then-layout.ensures.spelt

pub returns-then-layout-clause-keeps : goal.returns-then-layout-clause-keeps
returns-then-layout-clause-keeps g c =
    let s = g.K.Kind.shape c.args.kind.now in
    let at = c.key_place-at.result in
    let value = c.tree_layout-layout.ensures.value in
    let place : at ≡ key_place s.layout c.args.i = c.key_place-at.ensures.place ∙ ap (λ (l : Layout). key_place l c.args.i) value in
    let size : c.tree_layout-layout.result.key_len ≡ s.layout.key_len = ap (λ (l : Layout). l.key_len) value in
    let mid = c.put_key.new.block in
    let new = c.put_key-then-layout.new.block in
    let highs : s.layout.high ≡ true = sym (ap (λ (l : Layout). l.high) value) ∙ c.if-layout.true in
    let pair = pair_beside c.args.block.now mid new at s.layout.key_len c.put_key.ensures.keeps
    (subst (λ (n : ℕ). KeepsBeside mid new (at + n) s.layout.key_len) size c.put_key-then-layout.ensures.keeps) in
    subst (λ (n : ℕ). KeepsBeside c.args.block.now new (key_place s.layout c.args.i) n) (sym (pairs_len s.layout highs))
    (subst (λ (p : ℕ). KeepsBeside c.args.block.now new p (2 * s.layout.key_len)) place pair)

pub returns-then-layout-clause-keeps_parts : goal.returns-then-layout-clause-keeps_parts
returns-then-layout-clause-keeps_parts g c =
    let s = g.K.Kind.shape c.args.kind.now in
    let at = c.key_place-at.result in
    let value = c.tree_layout-layout.ensures.value in
    let place : at ≡ key_place s.layout c.args.i = c.key_place-at.ensures.place ∙ ap (λ (l : Layout). key_place l c.args.i) value in
    let size : c.tree_layout-layout.result.key_len ≡ s.layout.key_len = ap (λ (l : Layout). l.key_len) value in
    let mid = c.put_key.new.block in
    let new = c.put_key-then-layout.new.block in
    let highs : s.layout.high ≡ true = sym (ap (λ (l : Layout). l.high) value) ∙ c.if-layout.true in
    let pair = pair_parts c.args.block.now mid new at s.layout.key_len c.put_key.ensures.keeps_parts
    (subst (λ (n : ℕ). KeepsParts mid new (at + n) s.layout.key_len) size c.put_key-then-layout.ensures.keeps_parts) in
    subst (λ (n : ℕ). KeepsParts c.args.block.now new (key_place s.layout c.args.i) n) (sym (pairs_len s.layout highs))
    (subst (λ (p : ℕ). KeepsParts c.args.block.now new p (2 * s.layout.key_len)) place pair)

pub returns-else-layout-clause-low : goal.returns-else-layout-clause-low
returns-else-layout-clause-low g c =
    let s = g.K.Kind.shape c.args.kind.now in
    let at = c.key_place-at.result in
    let value = c.tree_layout-layout.ensures.value in
    let place : at ≡ key_place s.layout c.args.i = c.key_place-at.ensures.place ∙ ap (λ (l : Layout). key_place l c.args.i) value in
    subst (λ (p : ℕ). Some (s.key_of (part_of c.put_key.new.block p s.layout.key_len)) ≡ c.args.seat.now.low) place c.put_key.ensures.put

pub returns-else-layout-clause-high : goal.returns-else-layout-clause-high
returns-else-layout-clause-high g c =
    let value = c.tree_layout-layout.ensures.value in
    λ is. absurd (true≢false (sym is ∙ sym (ap (λ (l : Layout). l.high) value) ∙ c.if-layout.false))

pub returns-else-layout-clause-spelt_low : goal.returns-else-layout-clause-spelt_low
returns-else-layout-clause-spelt_low g c =
    let s = g.K.Kind.shape c.args.kind.now in
    let at = c.key_place-at.result in
    let value = c.tree_layout-layout.ensures.value in
    let place : at ≡ key_place s.layout c.args.i = c.key_place-at.ensures.place ∙ ap (λ (l : Layout). key_place l c.args.i) value in
    subst (λ (p : ℕ). IsSpelt s (part_of c.put_key.new.block p s.layout.key_len)) place c.put_key.ensures.spelt

pub returns-else-layout-clause-spelt_high : goal.returns-else-layout-clause-spelt_high
returns-else-layout-clause-spelt_high g c =
    let value = c.tree_layout-layout.ensures.value in
    λ is. absurd (true≢false (sym is ∙ sym (ap (λ (l : Layout). l.high) value) ∙ c.if-layout.false))

pub returns-else-layout-clause-keeps : goal.returns-else-layout-clause-keeps
returns-else-layout-clause-keeps g c =
    let s = g.K.Kind.shape c.args.kind.now in
    let at = c.key_place-at.result in
    let value = c.tree_layout-layout.ensures.value in
    let place : at ≡ key_place s.layout c.args.i = c.key_place-at.ensures.place ∙ ap (λ (l : Layout). key_place l c.args.i) value in
    let new = c.put_key.new.block in
    let ones : s.layout.high ≡ false = sym (ap (λ (l : Layout). l.high) value) ∙ c.if-layout.false in
    subst (λ (n : ℕ). KeepsBeside c.args.block.now new (key_place s.layout c.args.i) n) (sym (one_len s.layout ones))
    (subst (λ (p : ℕ). KeepsBeside c.args.block.now new p s.layout.key_len) place c.put_key.ensures.keeps)

pub returns-else-layout-clause-keeps_parts : goal.returns-else-layout-clause-keeps_parts
returns-else-layout-clause-keeps_parts g c =
    let s = g.K.Kind.shape c.args.kind.now in
    let at = c.key_place-at.result in
    let value = c.tree_layout-layout.ensures.value in
    let place : at ≡ key_place s.layout c.args.i = c.key_place-at.ensures.place ∙ ap (λ (l : Layout). key_place l c.args.i) value in
    let new = c.put_key.new.block in
    let ones : s.layout.high ≡ false = sym (ap (λ (l : Layout). l.high) value) ∙ c.if-layout.false in
    subst (λ (n : ℕ). KeepsParts c.args.block.now new (key_place s.layout c.args.i) n) (sym (one_len s.layout ones))
    (subst (λ (p : ℕ). KeepsParts c.args.block.now new p s.layout.key_len) place c.put_key.ensures.keeps_parts)

pub key_place-at-requires-clause-sound : goal.key_place-at-requires-clause-sound
key_place-at-requires-clause-sound g c = c.tree_layout-layout.ensures.sound

pub key_place-at-requires-clause-inside : goal.key_place-at-requires-clause-inside
key_place-at-requires-clause-inside g c = subst (λ (l : Layout). c.args.i < l.node_cap) (sym c.tree_layout-layout.ensures.value) c.requires.inside
