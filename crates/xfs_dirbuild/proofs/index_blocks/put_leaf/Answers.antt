use Rattle.std.proofs.Common.{◌≡◌, ℕ, ◌+◌, ◌-◌, ◌*◌, ◌≤◌, inl, inr, lit≤, List, [], ◌∷◌, length, refl, sym, ◌∙◌, ap, arith, subst}
use Rattle.xfs_word.specs.Field.{part_of, zeros}
use Rattle.xfs_word.proofs.Register.{AreBytes}
use Rattle.xfs_dirdata.specs.Bytes.{big_endian}
use Rattle.xfs_dirdata.proofs.Spelling.{total, Lie, parts-join, number-part, number-at, part-at}
use Rattle.xfs_dirbuild.specs.Blocks.{pairs_bytes, values_bytes, leaf_block}
use Rattle.xfs_dirbuild.proofs.BlockBytes.{blank-part, part-all, pairs-part, values-part}
use Rattle.xfs_dirbuild.proofs.index_blocks.put_leaf.Goals as goal

-- what stands behind the header
far : (k n at : ℕ) → k ≤ 64 → 64 + n ≤ at → k ≤ at
far k n at low behind = omega (arith, low, behind)

-- pairs and values fit a block
fits : (n v : ℕ) → 64 + 8 * n + 2 * v + 4 ≤ 4096 → 64 + 8 * n ≤ 4096
fits n v fit = omega (arith, fit)

last : (n v : ℕ) → 64 + 8 * n + 2 * v + 4 ≤ 4096 → 4092 - 2 * v + 2 * v ≤ 4096
last n v fit = omega (arith, fit)

place : (n v : ℕ) → 64 + 8 * n + 2 * v + 4 ≤ 4096 → 64 + 8 * n + (4028 - (8 * n + 2 * v)) + 2 * v ≡ 4092
place n v fit = omega (arith, fit)

values-at : (n v : ℕ) → 64 + 8 * n + 2 * v + 4 ≤ 4096 → 64 + 8 * n + (4028 - (8 * n + 2 * v)) ≡ 4092 - 2 * v
values-at n v fit = omega (arith, fit)

gap-end : (n v : ℕ) → 64 + 8 * n + 2 * v + 4 ≤ 4096 → 64 + 8 * n + (4028 - (8 * n + 2 * v)) ≤ 4092
gap-end n v fit = omega (arith, fit)

gap-below : (n v : ℕ) → 64 + 8 * n + 2 * v + 4 ≤ 4096 → 64 + 8 * n + (4028 - (8 * n + 2 * v)) ≤ 4092 - 2 * v
gap-below n v fit = omega (arith, fit)

low-below : (n v k : ℕ) → 64 + 8 * n + 2 * v + 4 ≤ 4096 → k ≤ 64 → k ≤ 4092 - 2 * v
low-below n v k fit low = omega (arith, fit, low)

sum-of : (n v : ℕ) → 64 + 8 * n + 2 * v + 4 ≤ 4096 → 4096 ≡ 4 + (4 + (2 + (46 + (2 + (2 + (4 + (8 * n + (4028 - (8 * n + 2 * v) + (2 * v + 4)))))))))
sum-of n v fit = omega (arith, fit)

pub returns-clause-stands : goal.returns-clause-stands
returns-clause-stands c =
    let n = length c.args.pairs.now in
    let v = length c.args.values.now in
    let last : 64 + 8 * n ≤ 4092 = omega (arith, c.requires.fit) in
    record {
      forw = c.put_pairs.ensures.keeps 0 4 (inl (lit≤ tt)) ∙ (c.put32-3.ensures.keeps 0 4 (inl (lit≤ tt)) ∙ (c.put16-3.ensures.keeps 0 4 (inl (lit≤ tt)) ∙ (c.put16-2.ensures.keeps 0 4 (inl (lit≤ tt)) ∙ (c.put16.ensures.keeps 0 4 (inl (lit≤ tt)) ∙ (c.put32-2.ensures.keeps 0 4 (inl (lit≤ tt)) ∙ c.put32.ensures.put)))));
      back = c.put_pairs.ensures.keeps 4 4 (inl (lit≤ tt)) ∙ (c.put32-3.ensures.keeps 4 4 (inl (lit≤ tt)) ∙ (c.put16-3.ensures.keeps 4 4 (inl (lit≤ tt)) ∙ (c.put16-2.ensures.keeps 4 4 (inl (lit≤ tt)) ∙ (c.put16.ensures.keeps 4 4 (inl (lit≤ tt)) ∙ c.put32-2.ensures.put))));
      magic = c.put_pairs.ensures.keeps 8 2 (inl (lit≤ tt)) ∙ (c.put32-3.ensures.keeps 8 2 (inl (lit≤ tt)) ∙ (c.put16-3.ensures.keeps 8 2 (inl (lit≤ tt)) ∙ (c.put16-2.ensures.keeps 8 2 (inl (lit≤ tt)) ∙ c.put16.ensures.put)));
      count = c.put_pairs.ensures.keeps 56 2 (inl (lit≤ tt)) ∙ (c.put32-3.ensures.keeps 56 2 (inl (lit≤ tt)) ∙ (c.put16-3.ensures.keeps 56 2 (inl (lit≤ tt)) ∙ c.put16-2.ensures.put));
      stale = c.put_pairs.ensures.keeps 58 2 (inl (lit≤ tt)) ∙ (c.put32-3.ensures.keeps 58 2 (inl (lit≤ tt)) ∙ c.put16-3.ensures.put);
      pairs_is = c.put_pairs.ensures.pairs;
      value_count = c.put_pairs.ensures.keeps 4092 4 (inr last) ∙ c.put32-3.ensures.put;
      values_are = record {
        each = λ j low.
            let high : 64 + 8 * n ≤ 4092 - 2 * v + 2 * j = omega (arith, c.requires.fit) in
            let inside : 4092 - 2 * v + 2 * j + 2 ≤ 4092 = omega (arith, c.requires.fit, low) in
            let behind = λ (k : ℕ) (few : k ≤ 64). far k (8 * n) (4092 - 2 * v + 2 * j) few high in
            c.put_pairs.ensures.keeps (4092 - 2 * v + 2 * j) 2 (inr high) ∙ (c.put32-3.ensures.keeps (4092 - 2 * v + 2 * j) 2 (inl inside) ∙ (c.put16-3.ensures.keeps (4092 - 2 * v + 2 * j) 2 (inr (behind 60 (lit≤ tt))) ∙ (c.put16-2.ensures.keeps (4092 - 2 * v + 2 * j) 2 (inr (behind 58 (lit≤ tt))) ∙ (c.put16.ensures.keeps (4092 - 2 * v + 2 * j) 2 (inr (behind 10 (lit≤ tt))) ∙ (c.put32-2.ensures.keeps (4092 - 2 * v + 2 * j) 2 (inr (behind 8 (lit≤ tt))) ∙ (c.put32.ensures.keeps (4092 - 2 * v + 2 * j) 2 (inr (behind 4 (lit≤ tt))) ∙ (c.put_values.ensures.values.each j low)))))));
      };
    }

pub returns-clause-bytes : goal.returns-clause-bytes
unfolding leaf_block zeros
returns-clause-bytes c =
    let block = c.put_pairs.new.block in
    let old = c.args.block.now in
    let pairs = c.args.pairs.now in
    let values = c.args.values.now in
    let n = length c.args.pairs.now in
    let v = length c.args.values.now in
    let gap = 4028 - (8 * n + 2 * v) in
    let long : length c.put_pairs.new.block ≡ 4096 = c.put_pairs.auto.block ∙ (c.put32-3.auto.bytes ∙ (c.put16-3.auto.bytes ∙ (c.put16-2.auto.bytes ∙ (c.put16.auto.bytes ∙ (c.put32-2.auto.bytes ∙ (c.put32.auto.bytes ∙ (c.put_values.auto.block ∙ c.requires.long))))))) in
    let room = λ (k : ℕ) (low : k ≤ 4096). subst (λ (m : ℕ). k ≤ m) (sym long) low in
    let all : AreBytes block = record { below = λ k. omega (arith, c.type_inv.block k) } in
    let seal : part_of c.args.block.now 10 46 ≡ zeros 46 = blank-part 4096 old 10 46 c.requires.blank (lit≤ tt) in
    let pad : part_of c.args.block.now 60 4 ≡ zeros 4 = blank-part 4096 old 60 4 c.requires.blank (lit≤ tt) in
    let rest : part_of c.args.block.now (64 + 8 * length c.args.pairs.now) (4028 - (8 * length c.args.pairs.now + 2 * length c.args.values.now))
    ≡ zeros (4028 - (8 * length c.args.pairs.now + 2 * length c.args.values.now)) =
    blank-part 4096 old (64 + 8 * n) gap c.requires.blank (omega arith) in
    let stands = returns-clause-stands c in
    let here : 64 + 8 * n ≤ 64 + 8 * n = omega arith in
    let most : 64 + 8 * n + gap ≤ 4092 = gap-end n v c.requires.fit in
    let below : 64 + 8 * n + gap ≤ 4092 - 2 * v = gap-below n v c.requires.fit in
    let early : 10 + 46 ≤ 4092 - 2 * v = low-below n v 56 c.requires.fit (lit≤ tt) in
    let before : 60 + 4 ≤ 4092 - 2 * v = low-below n v 64 c.requires.fit (lit≤ tt) in
    let behind = λ (k : ℕ) (few : k ≤ 64). far k (8 * n) (64 + 8 * n) few here in
    let parts : List (ℕ × List ℕ) =
    (4, big_endian 4 0) ∷ (4, big_endian 4 0) ∷ (2, big_endian 2 0x3df1) ∷ (46, zeros 46) ∷ (2, big_endian 2 n) ∷ (2, big_endian 2 0) ∷ (4, zeros 4)
    ∷ (8 * n, pairs_bytes pairs) ∷ (gap, zeros gap) ∷ (2 * v, values_bytes values) ∷ (4, big_endian 4 v) ∷ [] in
    let whole : 4096 ≡ total parts = sum-of n v c.requires.fit in
    let lie : Lie block 0 parts = (
      number-part block 0 4 0 all (room 4 (lit≤ tt)) stands.forw,
      (
        number-part block 4 4 0 all (room 8 (lit≤ tt)) stands.back,
        (
          number-part block 8 2 0x3df1 all (room 10 (lit≤ tt)) stands.magic,
          (
            (c.put_pairs.ensures.keeps_parts 10 46 (inl (lit≤ tt)) ∙ (c.put32-3.ensures.keeps_parts 10 46 (inl (lit≤ tt)) ∙ (c.put16-3.ensures.keeps_parts 10 46 (inl (lit≤ tt)) ∙ (c.put16-2.ensures.keeps_parts 10 46 (inl (lit≤ tt)) ∙ (c.put16.ensures.keeps_parts 10 46 (inr (lit≤ tt)) ∙ (c.put32-2.ensures.keeps_parts 10 46 (inr (lit≤ tt)) ∙ (c.put32.ensures.keeps_parts 10 46 (inr (lit≤ tt)) ∙ (c.put_values.ensures.keeps_parts 10 46 (inl early) ∙ seal)))))))),
            (
              number-part block 56 2 n all (room 58 (lit≤ tt)) stands.count,
              (
                number-part block 58 2 0 all (room 60 (lit≤ tt)) stands.stale,
                (
                  (c.put_pairs.ensures.keeps_parts 60 4 (inl (lit≤ tt)) ∙ (c.put32-3.ensures.keeps_parts 60 4 (inl (lit≤ tt)) ∙ (c.put16-3.ensures.keeps_parts 60 4 (inr (lit≤ tt)) ∙ (c.put16-2.ensures.keeps_parts 60 4 (inr (lit≤ tt)) ∙ (c.put16.ensures.keeps_parts 60 4 (inr (lit≤ tt)) ∙ (c.put32-2.ensures.keeps_parts 60 4 (inr (lit≤ tt)) ∙ (c.put32.ensures.keeps_parts 60 4 (inr (lit≤ tt)) ∙ (c.put_values.ensures.keeps_parts 60 4 (inl before) ∙ pad)))))))),
                  (
                    pairs-part block 64 pairs all (room (64 + 8 * n) (fits n v c.requires.fit)) c.put_pairs.ensures.pairs,
                    (
                      (c.put_pairs.ensures.keeps_parts (64 + 8 * n) (gap) (inr here) ∙ (c.put32-3.ensures.keeps_parts (64 + 8 * n) (gap) (inl most) ∙ (c.put16-3.ensures.keeps_parts (64 + 8 * n) (gap) (inr (behind 60 (lit≤ tt))) ∙ (c.put16-2.ensures.keeps_parts (64 + 8 * n) (gap) (inr (behind 58 (lit≤ tt))) ∙ (c.put16.ensures.keeps_parts (64 + 8 * n) (gap) (inr (behind 10 (lit≤ tt))) ∙ (c.put32-2.ensures.keeps_parts (64 + 8 * n) (gap) (inr (behind 8 (lit≤ tt))) ∙ (c.put32.ensures.keeps_parts (64 + 8 * n) (gap) (inr (behind 4 (lit≤ tt))) ∙ (c.put_values.ensures.keeps_parts (64 + 8 * n) (gap) (inl below) ∙ rest)))))))),
                      (
                        part-at block (64 + 8 * n + gap) (4092 - 2 * v) (2 * v) (2 * v) (values_bytes values) (values-at n v c.requires.fit) refl
                            (values-part block (4092 - 2 * v) values all (room (4092 - 2 * v + 2 * v) (last n v c.requires.fit)) stands.values_are),
                        (
                          number-at block (64 + 8 * n + gap + 2 * v) 4092 4 v all (room 4096 (lit≤ tt)) (place n v c.requires.fit) stands.value_count,
                          tt,
                        ),
                      ),
                    ),
                  ),
                ),
              ),
            ),
          ),
        ),
      ),
    ) in
    sym (part-all block 4096 long) ∙ (ap (part_of block 0) whole ∙ parts-join block 0 parts lie)

pub put32-requires : goal.put32-requires
put32-requires c = subst (λ (k : ℕ). 4 ≤ k) (sym (c.put_values.auto.block ∙ c.requires.long)) (lit≤ tt)

pub put32-requires-2 : goal.put32-requires-2
put32-requires-2 c = subst (λ (k : ℕ). 8 ≤ k) (sym (c.put32.auto.bytes ∙ (c.put_values.auto.block ∙ c.requires.long))) (lit≤ tt)

pub put16-requires : goal.put16-requires
put16-requires c = subst (λ (k : ℕ). 10 ≤ k) (sym (c.put32-2.auto.bytes ∙ (c.put32.auto.bytes ∙ (c.put_values.auto.block ∙ c.requires.long)))) (lit≤ tt)

pub put16-requires-2 : goal.put16-requires-2
put16-requires-2 c = subst (λ (k : ℕ). 58 ≤ k) (sym (c.put16.auto.bytes ∙ (c.put32-2.auto.bytes ∙ (c.put32.auto.bytes ∙ (c.put_values.auto.block ∙ c.requires.long))))) (lit≤ tt)

pub put16-requires-3 : goal.put16-requires-3
put16-requires-3 c = subst (λ (k : ℕ). 60 ≤ k) (sym (c.put16-2.auto.bytes ∙ (c.put16.auto.bytes ∙ (c.put32-2.auto.bytes ∙ (c.put32.auto.bytes ∙ (c.put_values.auto.block ∙ c.requires.long)))))) (lit≤ tt)

pub put32-requires-3 : goal.put32-requires-3
put32-requires-3 c = subst (λ (k : ℕ). 4096 ≤ k) (sym (c.put16-3.auto.bytes ∙ (c.put16-2.auto.bytes ∙ (c.put16.auto.bytes ∙ (c.put32-2.auto.bytes ∙ (c.put32.auto.bytes ∙ (c.put_values.auto.block ∙ c.requires.long))))))) (lit≤ tt)

pub put_pairs-requires-clause-pointers : goal.put_pairs-requires-clause-pointers
put_pairs-requires-clause-pointers c = c.requires.pointers

pub put_pairs-requires-clause-inside : goal.put_pairs-requires-clause-inside
put_pairs-requires-clause-inside c = subst (λ (k : ℕ). 64 + 8 * length c.args.pairs.now ≤ k) (sym (c.put32-3.auto.bytes ∙ (c.put16-3.auto.bytes ∙ (c.put16-2.auto.bytes ∙ (c.put16.auto.bytes ∙ (c.put32-2.auto.bytes ∙ (c.put32.auto.bytes ∙ (c.put_values.auto.block ∙ c.requires.long)))))))) (fits (length c.args.pairs.now) (length c.args.values.now) c.requires.fit)

pub put_pairs-requires-clause-short : goal.put_pairs-requires-clause-short
put_pairs-requires-clause-short c = subst (λ (k : ℕ). k ≤ 4096) (sym (c.put32-3.auto.bytes ∙ (c.put16-3.auto.bytes ∙ (c.put16-2.auto.bytes ∙ (c.put16.auto.bytes ∙ (c.put32-2.auto.bytes ∙ (c.put32.auto.bytes ∙ (c.put_values.auto.block ∙ c.requires.long)))))))) (lit≤ tt)

pub put_values-requires-clause-inside : goal.put_values-requires-clause-inside
put_values-requires-clause-inside c = subst (λ (k : ℕ). 4092 - 2 * length c.args.values.now + 2 * length c.args.values.now ≤ k) (sym c.requires.long) (last (length c.args.pairs.now) (length c.args.values.now) c.requires.fit)

pub put_values-requires-clause-short : goal.put_values-requires-clause-short
put_values-requires-clause-short c = subst (λ (k : ℕ). k ≤ 4096) (sym c.requires.long) (lit≤ tt)
