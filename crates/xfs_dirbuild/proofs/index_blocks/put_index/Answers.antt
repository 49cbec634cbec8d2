use Rattle.std.proofs.Common.{◌≡◌, ℕ, ◌+◌, ◌-◌, ◌*◌, ◌≤◌, inl, inr, lit≤, List, [], ◌∷◌, length, sym, ◌∙◌, ap, arith, subst}
use Rattle.xfs_word.specs.Field.{part_of, zeros}
use Rattle.xfs_word.proofs.Register.{AreBytes}
use Rattle.xfs_dirdata.specs.Bytes.{big_endian}
use Rattle.xfs_dirdata.proofs.Spelling.{total, Lie, parts-join, number-part}
use Rattle.xfs_dirindex.specs.IndexTree.{magic_of_level}
use Rattle.xfs_dirbuild.specs.Blocks.{pairs_bytes, index_block}
use Rattle.xfs_dirbuild.proofs.BlockBytes.{blank-part, part-all, pairs-part}
use Rattle.xfs_dirbuild.proofs.index_blocks.put_index.Goals as goal

-- what stands behind the header
far : (k n : ℕ) → k ≤ 64 → k ≤ 64 + 8 * n
far k n low = omega (arith, low)

-- so many pairs fit a block
fits : (n : ℕ) → n ≤ 504 → 64 + 8 * n ≤ 4096
fits n most = omega (arith, most)

pub returns-clause-stands : goal.returns-clause-stands
returns-clause-stands c = record {
  forw = c.put_pairs.ensures.keeps 0 4 (inl (lit≤ tt)) ∙ (c.put16-3.ensures.keeps 0 4 (inl (lit≤ tt)) ∙ (c.put16-2.ensures.keeps 0 4 (inl (lit≤ tt)) ∙ (c.put16.ensures.keeps 0 4 (inl (lit≤ tt)) ∙ (c.put32-2.ensures.keeps 0 4 (inl (lit≤ tt)) ∙ c.put32.ensures.put))));
  back = c.put_pairs.ensures.keeps 4 4 (inl (lit≤ tt)) ∙ (c.put16-3.ensures.keeps 4 4 (inl (lit≤ tt)) ∙ (c.put16-2.ensures.keeps 4 4 (inl (lit≤ tt)) ∙ (c.put16.ensures.keeps 4 4 (inl (lit≤ tt)) ∙ c.put32-2.ensures.put)));
  magic = c.put_pairs.ensures.keeps 8 2 (inl (lit≤ tt)) ∙ (c.put16-3.ensures.keeps 8 2 (inl (lit≤ tt)) ∙ (c.put16-2.ensures.keeps 8 2 (inl (lit≤ tt)) ∙ (c.put16.ensures.put ∙ c.magic_of.ensures)));
  count = c.put_pairs.ensures.keeps 56 2 (inl (lit≤ tt)) ∙ (c.put16-3.ensures.keeps 56 2 (inl (lit≤ tt)) ∙ c.put16-2.ensures.put);
  stated = c.put_pairs.ensures.keeps 58 2 (inl (lit≤ tt)) ∙ c.put16-3.ensures.put;
  pairs_is = c.put_pairs.ensures.pairs;
}

pub returns-clause-bytes : goal.returns-clause-bytes
unfolding index_block
returns-clause-bytes c =
    let block = c.put_pairs.new.block in
    let old = c.args.block.now in
    let pairs = c.args.pairs.now in
    let n = length c.args.pairs.now in
    let long : length c.put_pairs.new.block ≡ 4096 = c.put_pairs.auto.block ∙ (c.put16-3.auto.bytes ∙ (c.put16-2.auto.bytes ∙ (c.put16.auto.bytes ∙ (c.put32-2.auto.bytes ∙ (c.put32.auto.bytes ∙ c.requires.long))))) in
    let room = λ (k : ℕ) (low : k ≤ 4096). subst (λ (m : ℕ). k ≤ m) (sym long) low in
    let all : AreBytes block = record { below = λ k. omega (arith, c.type_inv.block k) } in
    let seal : part_of c.args.block.now 10 46 ≡ zeros 46 = blank-part 4096 old 10 46 c.requires.blank (lit≤ tt) in
    let pad : part_of c.args.block.now 60 4 ≡ zeros 4 = blank-part 4096 old 60 4 c.requires.blank (lit≤ tt) in
    let rest : part_of c.args.block.now (64 + 8 * length c.args.pairs.now) (4032 - 8 * length c.args.pairs.now) ≡ zeros (4032 - 8 * length c.args.pairs.now) =
    blank-part 4096 old (64 + 8 * n) (4032 - 8 * n) c.requires.blank (omega arith) in
    let parts : List (ℕ × List ℕ) =
    (4, big_endian 4 c.args.next) ∷ (4, big_endian 4 c.args.before) ∷ (2, big_endian 2 (magic_of_level c.args.level)) ∷ (46, zeros 46) ∷ (2, big_endian 2 n)
    ∷ (2, big_endian 2 c.args.level) ∷ (4, zeros 4) ∷ (8 * n, pairs_bytes pairs) ∷ (4032 - 8 * n, zeros (4032 - 8 * n)) ∷ [] in
    let whole : 4096 ≡ total parts = omega arith in
    let here = returns-clause-stands c in
    let first : 64 + 8 * n ≤ 64 + 8 * n = omega arith in
    let lie : Lie block 0 parts = (
      number-part block 0 4 c.args.next all (room 4 (lit≤ tt)) here.forw,
      (
        number-part block 4 4 c.args.before all (room 8 (lit≤ tt)) here.back,
        (
          number-part block 8 2 (magic_of_level c.args.level) all (room 10 (lit≤ tt)) here.magic,
          (
            (c.put_pairs.ensures.keeps_parts 10 46 (inl (lit≤ tt)) ∙ (c.put16-3.ensures.keeps_parts 10 46 (inl (lit≤ tt)) ∙ (c.put16-2.ensures.keeps_parts 10 46 (inl (lit≤ tt)) ∙ (c.put16.ensures.keeps_parts 10 46 (inr (lit≤ tt)) ∙ (c.put32-2.ensures.keeps_parts 10 46 (inr (lit≤ tt)) ∙ (c.put32.ensures.keeps_parts 10 46 (inr (lit≤ tt)) ∙ seal)))))),
            (
              number-part block 56 2 n all (room 58 (lit≤ tt)) here.count,
              (
                number-part block 58 2 c.args.level all (room 60 (lit≤ tt)) here.stated,
                (
                  (c.put_pairs.ensures.keeps_parts 60 4 (inl (lit≤ tt)) ∙ (c.put16-3.ensures.keeps_parts 60 4 (inr (lit≤ tt)) ∙ (c.put16-2.ensures.keeps_parts 60 4 (inr (lit≤ tt)) ∙ (c.put16.ensures.keeps_parts 60 4 (inr (lit≤ tt)) ∙ (c.put32-2.ensures.keeps_parts 60 4 (inr (lit≤ tt)) ∙ (c.put32.ensures.keeps_parts 60 4 (inr (lit≤ tt)) ∙ pad)))))),
                  (
                    pairs-part block 64 pairs all (room (64 + 8 * n) (fits n c.requires.most)) c.put_pairs.ensures.pairs,
                    (
                      (c.put_pairs.ensures.keeps_parts (64 + 8 * n) (4032 - 8 * n) (inr first) ∙ (c.put16-3.ensures.keeps_parts (64 + 8 * n) (4032 - 8 * n) (inr (far 60 n (lit≤ tt))) ∙ (c.put16-2.ensures.keeps_parts (64 + 8 * n) (4032 - 8 * n) (inr (far 58 n (lit≤ tt))) ∙ (c.put16.ensures.keeps_parts (64 + 8 * n) (4032 - 8 * n) (inr (far 10 n (lit≤ tt))) ∙ (c.put32-2.ensures.keeps_parts (64 + 8 * n) (4032 - 8 * n) (inr (far 8 n (lit≤ tt))) ∙ (c.put32.ensures.keeps_parts (64 + 8 * n) (4032 - 8 * n) (inr (far 4 n (lit≤ tt))) ∙ rest)))))),
                      tt,
                    ),
                  ),
                ),
              ),
            ),
          ),
        ),
      ),
    ) in
    sym (part-all block 4096 long) ∙ (ap (part_of block 0) whole ∙ parts-join block 0 parts lie)

pub put32-requires : goal.put32-requires
put32-requires c = subst (λ (k : ℕ). 4 ≤ k) (sym (c.requires.long)) (lit≤ tt)

pub put32-requires-2 : goal.put32-requires-2
put32-requires-2 c = subst (λ (k : ℕ). 8 ≤ k) (sym (c.put32.auto.bytes ∙ c.requires.long)) (lit≤ tt)

pub put16-requires : goal.put16-requires
put16-requires c = subst (λ (k : ℕ). 10 ≤ k) (sym (c.put32-2.auto.bytes ∙ (c.put32.auto.bytes ∙ c.requires.long))) (lit≤ tt)

pub put16-requires-2 : goal.put16-requires-2
put16-requires-2 c = subst (λ (k : ℕ). 58 ≤ k) (sym (c.put16.auto.bytes ∙ (c.put32-2.auto.bytes ∙ (c.put32.auto.bytes ∙ c.requires.long)))) (lit≤ tt)

pub put16-requires-3 : goal.put16-requires-3
put16-requires-3 c = subst (λ (k : ℕ). 60 ≤ k) (sym (c.put16-2.auto.bytes ∙ (c.put16.auto.bytes ∙ (c.put32-2.auto.bytes ∙ (c.put32.auto.bytes ∙ c.requires.long))))) (lit≤ tt)

pub put_pairs-requires-clause-pointers : goal.put_pairs-requires-clause-pointers
put_pairs-requires-clause-pointers c = c.requires.pointers

pub put_pairs-requires-clause-inside : goal.put_pairs-requires-clause-inside
put_pairs-requires-clause-inside c = subst (λ (k : ℕ). 64 + 8 * length c.args.pairs.now ≤ k) (sym (c.put16-3.auto.bytes ∙ (c.put16-2.auto.bytes ∙ (c.put16.auto.bytes ∙ (c.put32-2.auto.bytes ∙ (c.put32.auto.bytes ∙ c.requires.long)))))) (fits (length c.args.pairs.now) c.requires.most)

pub put_pairs-requires-clause-short : goal.put_pairs-requires-clause-short
put_pairs-requires-clause-short c = subst (λ (k : ℕ). k ≤ 4096) (sym (c.put16-3.auto.bytes ∙ (c.put16-2.auto.bytes ∙ (c.put16.auto.bytes ∙ (c.put32-2.auto.bytes ∙ (c.put32.auto.bytes ∙ c.requires.long)))))) (lit≤ tt)
