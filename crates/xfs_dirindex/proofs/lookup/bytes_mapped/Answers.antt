use Rattle.std.proofs.Common.{◌≡◌, ℕ, ◌<◌, ◌≤◌, List, length, arith, get_or, inl, inr, sym, ap, subst, ◌∙◌}
use Rattle.std.proofs.lemmas.Bool.{cases_lt}
use Rattle.xfs_dirindex.proofs.Found.{bytes-found, bytes-none, ascend-rises}
use Rattle.xfs_dirindex.proofs.lookup.bytes_mapped.Goals as goal

pub returns : goal.returns
returns c =
    let long : length c.deref.result.now ≡ length c.args.dir.now.offsets.items = ap (λ (xs : List ℕ). length xs) c.deref.ensures.value in
    let inside : c.place_in-k.result < length c.args.dir.now.offsets.items = omega (arith, c.place_in-k.ensures.within, c.if-k-len.false, c.len.ensures) in
    sym (bytes-found c.args.dir.now.offsets.items c.args.dir.now.blocks c.args.block c.place_in-k.result c.index.result.now c.view.result.now
    (λ j h. subst (λ (xs : List ℕ). get_or xs j c.index.result.now < c.args.block) c.deref.ensures.value (c.place_in-k.ensures.before j c.index.result.now (omega arith) h))
    inside (sym c.index.ensures ∙ c.if-index-block.false) c.view.ensures.block)

pub returns-then-index-block : goal.returns-then-index-block
returns-then-index-block c =
    let long : length c.deref.result.now ≡ length c.args.dir.now.offsets.items = ap (λ (xs : List ℕ). length xs) c.deref.ensures.value in
    let inside : c.place_in-k.result < length c.args.dir.now.offsets.items = omega (arith, c.place_in-k.ensures.within, c.if-k-len.false, c.len.ensures) in
    let here : c.args.block ≤ get_or c.args.dir.now.offsets.items c.place_in-k.result c.index.result.now =
    subst (λ (xs : List ℕ). c.args.block ≤ get_or xs c.place_in-k.result c.index.result.now) c.deref.ensures.value
    (c.place_in-k.ensures.after c.place_in-k.result c.index.result.now (omega arith) (omega arith)) in
    sym (bytes-none c.args.dir.now.offsets.items c.args.dir.now.blocks c.args.block c.index.result.now
    (λ j h e. elim (cases_lt j c.place_in-k.result) [
      | inl low ↦
          let before : get_or c.args.dir.now.offsets.items j c.index.result.now < c.args.block =
          subst (λ (xs : List ℕ). get_or xs j c.index.result.now < c.args.block) c.deref.ensures.value (c.place_in-k.ensures.before j c.index.result.now (omega arith) low) in
          omega arith
      | inr high ↦
          let rises : get_or c.args.dir.now.offsets.items c.place_in-k.result c.index.result.now ≤ get_or c.args.dir.now.offsets.items j c.index.result.now =
          ascend-rises 0 c.args.dir.now.offsets.items c.requires.ascending c.place_in-k.result j c.index.result.now high h in
          let is : get_or c.args.dir.now.offsets.items c.place_in-k.result c.index.result.now ≡ c.args.block = omega arith in
          c.if-index-block.true (c.index.ensures ∙ is)
    ]))

pub returns-then-k-len : goal.returns-then-k-len
returns-then-k-len c =
    let long : length c.deref.result.now ≡ length c.args.dir.now.offsets.items = ap (λ (xs : List ℕ). length xs) c.deref.ensures.value in
    sym (bytes-none c.args.dir.now.offsets.items c.args.dir.now.blocks c.args.block 0
    (λ j h e.
    let low : j < c.place_in-k.result = omega (arith, c.if-k-len.true, c.len.ensures) in
    let before : get_or c.args.dir.now.offsets.items j 0 < c.args.block =
    subst (λ (xs : List ℕ). get_or xs j 0 < c.args.block) c.deref.ensures.value (c.place_in-k.ensures.before j 0 (omega arith) low) in
    omega arith))
