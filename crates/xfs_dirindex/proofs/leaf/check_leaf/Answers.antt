use Rattle.std.proofs.Common.{◌≡◌, ℕ, ◌+◌, ◌*◌, ◌<◌, ◌≤◌, ◌==◌, true, false, List, [], ◌∷◌, length, get_or, filter, arith, sym, ap, subst, ◌∙◌}
use Rattle.std.proofs.lemmas.Bool.{and_from, and_left, and_right, eq-eqb, ne_eqb}
use Rattle.std.proofs.lemmas.Option.{slice_get-get_or}
use Rattle.xfs_dirindex.specs.declared.data.Best.{Best}
use Rattle.xfs_dirindex.specs.Mapped.{mapped_block, mapped, is_beyond}
use Rattle.xfs_dirindex.specs.Data.{all_bests}
use Rattle.xfs_dirindex.specs.Leaf.{end_of}
use Rattle.xfs_dirindex.proofs.Split.{bests-rise, leaf-is, leaf-several, leaf-answer}
use Rattle.xfs_dirindex.proofs.leaf.check_leaf.Goals as goal

pub returns-then-len-data_blocks-clause-unsound : goal.returns-then-len-data_blocks-clause-unsound
returns-then-len-data_blocks-clause-unsound c =
    let ms = mapped c.args.dir.now.offsets.items c.args.dir.now.blocks in
    let value : length c.deref.result.now ≡ length c.in-Ok.taken.bests.items = ap (λ (xs : List Best). length xs) c.deref.ensures.value in
    let bests : length c.in-Ok.taken.bests.items ≡ length (all_bests c.args.dir.now.dir ms) = ap (λ (xs : List Best). length xs) c.in-Ok.ensures.bests in
    leaf-several c.args.dir.now.dir c.args.dir.now.size c.args.dir.now.offsets.items c.args.dir.now.blocks c.requires.ascending c.requires.mapped
    (λ e. c.if-len-data_blocks.true (omega (arith, c.deref.ensures.len, c.len-data_blocks.ensures, c.len.ensures.count)))

pub returns-then-index-ne-INDEX_START-clause-unsound : goal.returns-then-index-ne-INDEX_START-clause-unsound
returns-then-index-ne-INDEX_START-clause-unsound c =
    let dir = c.args.dir.now.dir in
    let ms = mapped c.args.dir.now.offsets.items c.args.dir.now.blocks in
    let value : length c.deref.result.now ≡ length c.in-Ok.taken.bests.items = ap (λ (xs : List Best). length xs) c.deref.ensures.value in
    let bests : length c.in-Ok.taken.bests.items ≡ length (all_bests dir ms) = ap (λ (xs : List Best). length xs) c.in-Ok.ensures.bests in
    let count : c.len-data_blocks.result ≡ length (all_bests dir ms) = omega (arith, c.deref.ensures.len, c.len-data_blocks.ensures) in
    let one : length c.args.dir.now.blocks ≡ c.len-data_blocks.result + 1 = omega (arith, c.len.ensures.count, c.if-len-data_blocks.false) in
    let inside : c.len-data_blocks.result < length c.args.dir.now.blocks = omega arith in
    let b : List ℕ = get_or c.args.dir.now.blocks c.len-data_blocks.result [] in
    let only : filter is_beyond ms ≡ mapped_block c.index.result.now b ∷ [] =
    leaf-is dir c.args.dir.now.size c.args.dir.now.offsets.items c.args.dir.now.blocks c.len-data_blocks.result c.index.result.now b
    c.requires.ascending c.requires.mapped count one c.index.ensures (slice_get-get_or c.args.dir.now.blocks c.len-data_blocks.result [] inside) in
    leaf-answer dir c.args.dir.now.size ms c.in-Ok.taken.bests.items c.in-Ok.taken.due.items c.index.result.now b
    c.in-Ok.ensures.sound c.in-Ok.ensures.bests c.in-Ok.ensures.due only false
    (and_right _ _ (and_left _ _ (ne_eqb c.index.result.now 0x800000 c.if-index-ne-INDEX_START.true)))

pub is_leaf-requires-clause-rise : goal.is_leaf-requires-clause-rise
is_leaf-requires-clause-rise c =
    subst (λ (xs : List Best). (i j : ℕ) (d : Best) → i ≤ j → j < length xs → (get_or xs i d).offset ≤ (get_or xs j d).offset) (sym c.in-Ok.ensures.bests)
    (bests-rise c.args.dir.now.dir c.args.dir.now.offsets.items c.args.dir.now.blocks c.requires.ascending)

pub returns-then-branch-clause-whole : goal.returns-then-branch-clause-whole
returns-then-branch-clause-whole c =
    let dir = c.args.dir.now.dir in
    let ms = mapped c.args.dir.now.offsets.items c.args.dir.now.blocks in
    let value : length c.deref.result.now ≡ length c.in-Ok.taken.bests.items = ap (λ (xs : List Best). length xs) c.deref.ensures.value in
    let bests : length c.in-Ok.taken.bests.items ≡ length (all_bests dir ms) = ap (λ (xs : List Best). length xs) c.in-Ok.ensures.bests in
    let count : c.len-data_blocks.result ≡ length (all_bests dir ms) = omega (arith, c.deref.ensures.len, c.len-data_blocks.ensures) in
    let one : length c.args.dir.now.blocks ≡ c.len-data_blocks.result + 1 = omega (arith, c.len.ensures.count, c.if-len-data_blocks.false) in
    let only : filter is_beyond ms ≡ mapped_block c.index.result.now c.view.result.now ∷ [] =
    leaf-is dir c.args.dir.now.size c.args.dir.now.offsets.items c.args.dir.now.blocks c.len-data_blocks.result c.index.result.now c.view.result.now
    c.requires.ascending c.requires.mapped count one c.index.ensures c.view.ensures.block in
    let size : (c.args.dir.now.size == 4096 * end_of c.in-Ok.taken.bests.items) ≡ true =
    ap (λ (xs : List Best). c.args.dir.now.size == 4096 * end_of xs) (sym c.deref.ensures.value) ∙ (sym c.has_size.ensures ∙ c.if-not-has_size.false) in
    leaf-answer dir c.args.dir.now.size ms c.in-Ok.taken.bests.items c.in-Ok.taken.due.items c.index.result.now c.view.result.now
    c.in-Ok.ensures.sound c.in-Ok.ensures.bests c.in-Ok.ensures.due only true
    (and_from _ _ size (and_from _ _ (eq-eqb c.index.result.now 0x800000 c.if-index-ne-INDEX_START.false) (sym c.in_ok-is_leaf.ensures ∙ c.if-branch.true)))

pub returns-clause-unsound : goal.returns-clause-unsound
returns-clause-unsound c =
    let dir = c.args.dir.now.dir in
    let ms = mapped c.args.dir.now.offsets.items c.args.dir.now.blocks in
    let value : length c.deref.result.now ≡ length c.in-Ok.taken.bests.items = ap (λ (xs : List Best). length xs) c.deref.ensures.value in
    let bests : length c.in-Ok.taken.bests.items ≡ length (all_bests dir ms) = ap (λ (xs : List Best). length xs) c.in-Ok.ensures.bests in
    let count : c.len-data_blocks.result ≡ length (all_bests dir ms) = omega (arith, c.deref.ensures.len, c.len-data_blocks.ensures) in
    let one : length c.args.dir.now.blocks ≡ c.len-data_blocks.result + 1 = omega (arith, c.len.ensures.count, c.if-len-data_blocks.false) in
    let only : filter is_beyond ms ≡ mapped_block c.index.result.now c.view.result.now ∷ [] =
    leaf-is dir c.args.dir.now.size c.args.dir.now.offsets.items c.args.dir.now.blocks c.len-data_blocks.result c.index.result.now c.view.result.now
    c.requires.ascending c.requires.mapped count one c.index.ensures c.view.ensures.block in
    leaf-answer dir c.args.dir.now.size ms c.in-Ok.taken.bests.items c.in-Ok.taken.due.items c.index.result.now c.view.result.now
    c.in-Ok.ensures.sound c.in-Ok.ensures.bests c.in-Ok.ensures.due only false
    (and_right _ _ (and_right _ _ (sym c.in_ok-is_leaf.ensures ∙ c.if-branch.false)))
