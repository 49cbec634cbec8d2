use Rattle.std.proofs.Common.{◌≡◌, ℕ, ◌+◌, ◌-◌, ◌*◌, ◌≤◌, inl, inr, lit≤, List, [], ◌∷◌, length, sym, ◌∙◌, ap, arith, subst}
use Rattle.xfs_word.specs.Field.{part_of, zeros}
use Rattle.xfs_word.proofs.Register.{AreBytes}
use Rattle.xfs_dirdata.specs.Bytes.{big_endian}
use Rattle.xfs_dirdata.proofs.Spelling.{total, Lie, parts-join, number-part}
use Rattle.xfs_dirbuild.specs.Blocks.{values_bytes, free_block}
use Rattle.xfs_dirbuild.proofs.BlockBytes.{blank-part, part-all, values-part}
use Rattle.xfs_dirbuild.proofs.free_blocks.put_free.Goals as goal

-- what stands behind the header
far : (k n : ℕ) → k ≤ 64 → k ≤ 64 + 2 * n
far k n low = omega (arith, low)

-- so many values fit a block
fits : (n : ℕ) → n ≤ 2016 → 64 + 2 * n ≤ 4096
fits n most = omega (arith, most)

pub returns-clause-stands : goal.returns-clause-stands
returns-clause-stands c = record {
  magic = c.put32-4.ensures.keeps 0 4 (inl (lit≤ tt)) ∙ (c.put32-3.ensures.keeps 0 4 (inl (lit≤ tt)) ∙ (c.put32-2.ensures.keeps 0 4 (inl (lit≤ tt)) ∙ c.put32.ensures.put));
  first_is = c.put32-4.ensures.keeps 48 4 (inl (lit≤ tt)) ∙ (c.put32-3.ensures.keeps 48 4 (inl (lit≤ tt)) ∙ c.put32-2.ensures.put);
  count = c.put32-4.ensures.keeps 52 4 (inl (lit≤ tt)) ∙ c.put32-3.ensures.put;
  used = c.put32-4.ensures.put;
  values_are = record {
    each = λ j low. c.put32-4.ensures.keeps (64 + 2 * j) 2 (inr (far 60 j (lit≤ tt))) ∙ (c.put32-3.ensures.keeps (64 + 2 * j) 2 (inr (far 56 j (lit≤ tt))) ∙ (c.put32-2.ensures.keeps (64 + 2 * j) 2 (inr (far 52 j (lit≤ tt))) ∙ (c.put32.ensures.keeps (64 + 2 * j) 2 (inr (far 4 j (lit≤ tt))) ∙ (c.put_values.ensures.values.each j low))));
  };
}

pub returns-clause-bytes : goal.returns-clause-bytes
unfolding free_block
returns-clause-bytes c =
    let block = c.put32-4.new.bytes in
    let old = c.args.block.now in
    let values = c.args.values.now in
    let n = length c.args.values.now in
    let long : length c.put32-4.new.bytes ≡ 4096 = c.put32-4.auto.bytes ∙ (c.put32-3.auto.bytes ∙ (c.put32-2.auto.bytes ∙ (c.put32.auto.bytes ∙ (c.put_values.auto.block ∙ c.requires.long)))) in
    let room = λ (k : ℕ) (low : k ≤ 4096). subst (λ (m : ℕ). k ≤ m) (sym long) low in
    let all : AreBytes block = record { below = λ k. omega (arith, c.type_inv.block k) } in
    let seal : part_of c.args.block.now 4 44 ≡ zeros 44 = blank-part 4096 old 4 44 c.requires.blank (lit≤ tt) in
    let pad : part_of c.args.block.now 60 4 ≡ zeros 4 = blank-part 4096 old 60 4 c.requires.blank (lit≤ tt) in
    let rest : part_of c.args.block.now (64 + 2 * length c.args.values.now) (4032 - 2 * length c.args.values.now) ≡ zeros (4032 - 2 * length c.args.values.now) =
    blank-part 4096 old (64 + 2 * n) (4032 - 2 * n) c.requires.blank (omega arith) in
    let stands = returns-clause-stands c in
    let first : 64 + 2 * n ≤ 64 + 2 * n = omega arith in
    let parts : List (ℕ × List ℕ) =
    (4, big_endian 4 0x58444633) ∷ (44, zeros 44) ∷ (4, big_endian 4 c.args.first) ∷ (4, big_endian 4 n) ∷ (4, big_endian 4 n) ∷ (4, zeros 4)
    ∷ (2 * n, values_bytes values) ∷ (4032 - 2 * n, zeros (4032 - 2 * n)) ∷ [] in
    let whole : 4096 ≡ total parts = omega arith in
    let lie : Lie block 0 parts = (
      number-part block 0 4 0x58444633 all (room 4 (lit≤ tt)) stands.magic,
      (
        (c.put32-4.ensures.keeps_parts 4 44 (inl (lit≤ tt)) ∙ (c.put32-3.ensures.keeps_parts 4 44 (inl (lit≤ tt)) ∙ (c.put32-2.ensures.keeps_parts 4 44 (inl (lit≤ tt)) ∙ (c.put32.ensures.keeps_parts 4 44 (inr (lit≤ tt)) ∙ (c.put_values.ensures.keeps_parts 4 44 (inl (lit≤ tt)) ∙ seal))))),
        (
          number-part block 48 4 c.args.first all (room 52 (lit≤ tt)) stands.first_is,
          (
            number-part block 52 4 n all (room 56 (lit≤ tt)) stands.count,
            (
              number-part block 56 4 n all (room 60 (lit≤ tt)) stands.used,
              (
                (c.put32-4.ensures.keeps_parts 60 4 (inr (lit≤ tt)) ∙ (c.put32-3.ensures.keeps_parts 60 4 (inr (lit≤ tt)) ∙ (c.put32-2.ensures.keeps_parts 60 4 (inr (lit≤ tt)) ∙ (c.put32.ensures.keeps_parts 60 4 (inr (lit≤ tt)) ∙ (c.put_values.ensures.keeps_parts 60 4 (inl (lit≤ tt)) ∙ pad))))),
                (
                  values-part block 64 values all (room (64 + 2 * n) (fits n c.requires.most)) stands.values_are,
                  (
                    (c.put32-4.ensures.keeps_parts (64 + 2 * n) (4032 - 2 * n) (inr (far 60 n (lit≤ tt))) ∙ (c.put32-3.ensures.keeps_parts (64 + 2 * n) (4032 - 2 * n) (inr (far 56 n (lit≤ tt))) ∙ (c.put32-2.ensures.keeps_parts (64 + 2 * n) (4032 - 2 * n) (inr (far 52 n (lit≤ tt))) ∙ (c.put32.ensures.keeps_parts (64 + 2 * n) (4032 - 2 * n) (inr (far 4 n (lit≤ tt))) ∙ (c.put_values.ensures.keeps_parts (64 + 2 * n) (4032 - 2 * n) (inr first) ∙ rest))))),
                    tt,
                  ),
                ),
              ),
            ),
          ),
        ),
      ),
    ) in
    sym (part-all block 4096 long) ∙ (ap (part_of block 0) whole ∙ parts-join block 0 parts lie)

pub put32-requires : goal.put32-requires
put32-requires c = subst (λ (k : ℕ). 4 ≤ k) (sym (c.put_values.auto.block ∙ c.requires.long)) (lit≤ tt)

pub put32-requires-2 : goal.put32-requires-2
put32-requires-2 c = subst (λ (k : ℕ). 52 ≤ k) (sym (c.put32.auto.bytes ∙ (c.put_values.auto.block ∙ c.requires.long))) (lit≤ tt)

pub put32-requires-3 : goal.put32-requires-3
put32-requires-3 c = subst (λ (k : ℕ). 56 ≤ k) (sym (c.put32-2.auto.bytes ∙ (c.put32.auto.bytes ∙ (c.put_values.auto.block ∙ c.requires.long)))) (lit≤ tt)

pub put32-requires-4 : goal.put32-requires-4
put32-requires-4 c = subst (λ (k : ℕ). 60 ≤ k) (sym (c.put32-3.auto.bytes ∙ (c.put32-2.auto.bytes ∙ (c.put32.auto.bytes ∙ (c.put_values.auto.block ∙ c.requires.long))))) (lit≤ tt)

pub put_values-requires-clause-inside : goal.put_values-requires-clause-inside
put_values-requires-clause-inside c = subst (λ (k : ℕ). 64 + 2 * length c.args.values.now ≤ k) (sym c.requires.long) (fits (length c.args.values.now) c.requires.most)

pub put_values-requires-clause-short : goal.put_values-requires-clause-short
put_values-requires-clause-short c = subst (λ (k : ℕ). k ≤ 4096) (sym c.requires.long) (lit≤ tt)
