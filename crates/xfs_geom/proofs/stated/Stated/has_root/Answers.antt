-- The tests of the first inodes, one by one.
use Rattle.std.proofs.Common.{◌≡◌, ◌<◌, ◌≤◌, ◌+◌, ◌/◌, ◌^◌, ◌&&◌, ℕ, Bool, true, false, arith, sym, ap, subst, ◌∙◌}
use Rattle.std.proofs.lemmas.Bool.{le-leb, lt-ltb}
use Rattle.std.proofs.lemmas.Nat.{pow_pos}
use Rattle.std.proofs.Math.Pow.{pow_mono}
use Rattle.xfs_geom.specs.Groups.{blocks_of_group}
use Rattle.xfs_geom.specs.Shape.{chunk_of, is_off_log}
use Rattle.xfs_geom.specs.Stated.{stated_log}
use Rattle.xfs_geom.proofs.Bounds.{quotient}
use Rattle.xfs_geom.proofs.stated.Stated.has_root.Goals as goal

differ : false ≡ true → ⊥
differ h = cc

last_of_five : (a b c d e r : Bool) → a ≡ true → b ≡ true → c ≡ true → d ≡ true → r ≡ e → r ≡ (a && b && c && d && e)
last_of_five a b c d e r a_is b_is c_is d_is r_is = r_is ∙ sym (λ i. a_is i && b_is i && c_is i && d_is i && e)

-- an inode in a group of few is below 2^38
low_inode : (ino k n : ℕ) → k ≤ 26 → n ≤ 512 → ino / 8 / 2 ^ k < n → ino < 2 ^ 38
low_inode ino k n short few group =
    let most : 2 ^ k ≤ 2 ^ 26 = pow_mono short in
    let below : ino / 8 / 2 ^ k < 512 = omega (arith, group, few) in
    let address : ino / 8 < 2 ^ 35 = quotient (ino / 8) (2 ^ k) (pow_pos k) most below in
    omega (arith, address)

moved : (b there s size : ℕ) → b ≡ there → s ≡ size → chunk_of b + 8 ≤ s → chunk_of there + 8 ≤ size
moved b there s size b_is s_is within = subst (λ (n : ℕ). chunk_of there + 8 ≤ n) s_is (subst (λ (n : ℕ). chunk_of n + 8 ≤ s) b_is within)

pub group_of-group-requires : goal.group_of-group-requires
group_of-group-requires c = c.requires.addresses.short

pub ag_block_of-block-requires : goal.ag_block_of-block-requires
ag_block_of-block-requires c = c.requires.addresses.short

pub blocks_of_group-requires : goal.blocks_of_group-requires
blocks_of_group-requires c = c.if-group-self.false

pub block_of_address-requires-clause-addresses : goal.block_of_address-requires-clause-addresses
block_of_address-requires-clause-addresses c = c.requires.addresses.short

pub is_clear_of_log-requires-clause-parts : goal.is_clear_of_log-requires-clause-parts
is_clear_of_log-requires-clause-parts c = c.requires

pub is_clear_of_log-requires-clause-low : goal.is_clear_of_log-requires-clause-low
is_clear_of_log-requires-clause-low c = c.block_of_address.ensures.low

pub returns-then-self-gt29-clause-low : goal.returns-then-self-gt29-clause-low
returns-then-self-gt29-clause-low c = λ yes_. absurd (differ yes_)

pub returns-then-self-gt29-clause-kept : goal.returns-then-self-gt29-clause-kept
returns-then-self-gt29-clause-kept c = λ yes_. absurd (differ yes_)

pub returns-then-group-self-clause-low : goal.returns-then-group-self-clause-low
returns-then-group-self-clause-low c = λ yes_. absurd (differ yes_)

pub returns-then-group-self-clause-kept : goal.returns-then-group-self-clause-kept
returns-then-group-self-clause-kept c = λ yes_. absurd (differ yes_)

pub returns-then-block-blocks_of_group-clause-low : goal.returns-then-block-blocks_of_group-clause-low
returns-then-block-blocks_of_group-clause-low c = λ yes_. absurd (differ yes_)

pub returns-then-block-blocks_of_group-clause-kept : goal.returns-then-block-blocks_of_group-clause-kept
returns-then-block-blocks_of_group-clause-kept c = λ yes_. absurd (differ yes_)

pub returns : goal.returns
returns c =
    record {
      value = let v = c.args.self.now in
          last_of_five _ _ _ _ _ c.is_clear_of_log.result
          (le-leb _ 29 c.if-self-gt29.false)
          (lt-ltb _ v.agcount (subst (λ (n : ℕ). n < v.agcount) c.group_of-group.ensures c.if-group-self.false))
          (le-leb 8 _ (subst (λ (n : ℕ). 8 ≤ n) c.ag_block_of-block.ensures.value c.if-block-lt8.false))
          (le-leb _ _ (moved _ _ _ _ c.ag_block_of-block.ensures.value (c.blocks_of_group.ensures ∙ ap (λ (n : ℕ). blocks_of_group v.dblocks v.agblocks v.agcount n) c.group_of-group.ensures) c.if-block-blocks_of_group.false))
          (c.is_clear_of_log.ensures ∙ ap (λ (n : ℕ). is_off_log n (stated_log v) v.logblocks) c.block_of_address.ensures.value);
      low = λ yes_.
          let v = c.args.self.now in
          low_inode v.rootino v.agblklog v.agcount c.requires.addresses.short c.requires.groups.few (subst (λ (n : ℕ). n < v.agcount) c.group_of-group.ensures c.if-group-self.false);
      kept = λ clear.
          let v = c.args.self.now in
          record {
            slot = c.if-self-gt29.false;
            group = subst (λ (n : ℕ). n < v.agcount) c.group_of-group.ensures c.if-group-self.false;
            behind = subst (λ (n : ℕ). 8 ≤ n) c.ag_block_of-block.ensures.value c.if-block-lt8.false;
            inside = moved _ _ _ _ c.ag_block_of-block.ensures.value (c.blocks_of_group.ensures ∙ ap (λ (n : ℕ). blocks_of_group v.dblocks v.agblocks v.agcount n) c.group_of-group.ensures) c.if-block-blocks_of_group.false;
            apart = sym (c.is_clear_of_log.ensures ∙ ap (λ (n : ℕ). is_off_log n (stated_log v) v.logblocks) c.block_of_address.ensures.value) ∙ clear;
          };
    }
