use Rattle.std.proofs.Common.{◌≡◌, ◌+◌, ◌≤◌, length, Some, IsTrue, refl, sym, ◌∙◌, ap, subst, arith}
use Rattle.xfs_tree.specs.declared.layout.Layout.{Layout}
use Rattle.xfs_treebuild.specs.Private.Placed.{IsKey}
use Rattle.xfs_treebuild.proofs.PackingBytes.{wrote_part, wrote_keeps, wrote_keeps_parts}
use Rattle.xfs_treebuild.proofs.PackingExact.{spelt_put}
use Rattle.xfs_treebuild.proofs.nodes.put_key.Goals as goal

pub returns-in-Some-clause-put : goal.returns-in-Some-clause-put
returns-in-Some-clause-put g c =
    let law = g.met.K.Kind g.world.𝓛 g.world.𝓜 g.world.𝓡 ((λ s x. x), (λ x. x), (λ x. x), λ x. x) in
    let kind = law.kind c.args.kind.now in
    let s = g.K.Kind.shape c.args.kind.now in
    let fits : IsTrue (s.fits_key c.in-Some.key) = subst (λ k. IsKey s k) c.in-Some.is c.requires.key in
    let size : c.tree_layout.result.key_len ≡ s.layout.key_len = ap (λ (l : Layout). l.key_len) c.tree_layout.ensures.value in
    let inside : c.args.at + c.tree_layout.result.key_len ≤ length c.args.block.now = omega (arith, c.requires.inside, size) in
    let len : length c.put_key.new.bytes ≡ s.layout.key_len = ap length c.put_key.ensures ∙ kind.key_len c.in-Some.key fits in
    let read = ap s.key_of (wrote_part c.args.at c.args.at _ _ c.args.block.now c.put_key.new.bytes _ refl size inside len c.put_key.ensures)
    ∙ kind.key_again c.in-Some.key fits in
    ap (λ k. Some k) read ∙ sym c.in-Some.is

pub returns-in-Some-clause-spelt : goal.returns-in-Some-clause-spelt
returns-in-Some-clause-spelt g c =
    let law = g.met.K.Kind g.world.𝓛 g.world.𝓜 g.world.𝓡 ((λ s x. x), (λ x. x), (λ x. x), λ x. x) in
    let kind = law.kind c.args.kind.now in
    let s = g.K.Kind.shape c.args.kind.now in
    let fits : IsTrue (s.fits_key c.in-Some.key) = subst (λ k. IsKey s k) c.in-Some.is c.requires.key in
    let size : c.tree_layout.result.key_len ≡ s.layout.key_len = ap (λ (l : Layout). l.key_len) c.tree_layout.ensures.value in
    let inside : c.args.at + c.tree_layout.result.key_len ≤ length c.args.block.now = omega (arith, c.requires.inside, size) in
    let len : length c.put_key.new.bytes ≡ s.layout.key_len = ap length c.put_key.ensures ∙ kind.key_len c.in-Some.key fits in
    spelt_put s _ c.in-Some.key
    (wrote_part c.args.at c.args.at _ _ c.args.block.now c.put_key.new.bytes _ refl size inside len c.put_key.ensures)
    (kind.key_again c.in-Some.key fits)

pub returns-in-Some-clause-keeps : goal.returns-in-Some-clause-keeps
returns-in-Some-clause-keeps g c =
    let law = g.met.K.Kind g.world.𝓛 g.world.𝓜 g.world.𝓡 ((λ s x. x), (λ x. x), (λ x. x), λ x. x) in
    let kind = law.kind c.args.kind.now in
    let s = g.K.Kind.shape c.args.kind.now in
    let fits : IsTrue (s.fits_key c.in-Some.key) = subst (λ k. IsKey s k) c.in-Some.is c.requires.key in
    let size : c.tree_layout.result.key_len ≡ s.layout.key_len = ap (λ (l : Layout). l.key_len) c.tree_layout.ensures.value in
    let inside : c.args.at + c.tree_layout.result.key_len ≤ length c.args.block.now = omega (arith, c.requires.inside, size) in
    let len : length c.put_key.new.bytes ≡ s.layout.key_len = ap length c.put_key.ensures ∙ kind.key_len c.in-Some.key fits in
    wrote_keeps c.args.at c.args.at _ _ c.args.block.now c.put_key.new.bytes refl size inside len

pub returns-in-Some-clause-keeps_parts : goal.returns-in-Some-clause-keeps_parts
returns-in-Some-clause-keeps_parts g c =
    let law = g.met.K.Kind g.world.𝓛 g.world.𝓜 g.world.𝓡 ((λ s x. x), (λ x. x), (λ x. x), λ x. x) in
    let kind = law.kind c.args.kind.now in
    let s = g.K.Kind.shape c.args.kind.now in
    let fits : IsTrue (s.fits_key c.in-Some.key) = subst (λ k. IsKey s k) c.in-Some.is c.requires.key in
    let size : c.tree_layout.result.key_len ≡ s.layout.key_len = ap (λ (l : Layout). l.key_len) c.tree_layout.ensures.value in
    let inside : c.args.at + c.tree_layout.result.key_len ≤ length c.args.block.now = omega (arith, c.requires.inside, size) in
    let len : length c.put_key.new.bytes ≡ s.layout.key_len = ap length c.put_key.ensures ∙ kind.key_len c.in-Some.key fits in
    wrote_keeps_parts c.args.at c.args.at _ _ c.args.block.now c.put_key.new.bytes refl size inside len

pub returns-in_default-clause-put : goal.returns-in_default-clause-put
returns-in_default-clause-put g c = absurd (subst (IsKey (g.K.Kind.shape c.args.kind.now)) c.in_default.is c.requires.key)

pub returns-in_default-clause-spelt : goal.returns-in_default-clause-spelt
returns-in_default-clause-spelt g c = absurd (subst (IsKey (g.K.Kind.shape c.args.kind.now)) c.in_default.is c.requires.key)

pub returns-in_default-clause-keeps : goal.returns-in_default-clause-keeps
returns-in_default-clause-keeps g c = λ a w beside. refl

pub returns-in_default-clause-keeps_parts : goal.returns-in_default-clause-keeps_parts
returns-in_default-clause-keeps_parts g c = λ a w beside. refl
