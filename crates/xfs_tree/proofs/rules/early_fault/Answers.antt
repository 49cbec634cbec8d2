-- The first three rules of a block's bytes, in their order.
use Rattle.std.proofs.Common.{◌≡◌, ◌≤◌, ◌&&◌, ◌==◌, ◌∷◌, [], ℕ, Bool, true, false, Option, Some, None, sym, ap, ◌∙◌}
use Rattle.std.specs.Prelude.{nat_le}
use Rattle.std.proofs.lemmas.Bool.{leb-true, eq-eqb, ne_eqb}
use Rattle.xfs_word.specs.Seal.{is_sealed}
use Rattle.xfs_word.specs.declared.kinds.Seal.{Seal}
use Rattle.xfs_geom.specs.First.{first_false}
use Rattle.xfs_geom.specs.Volumes.{volume_of}
use Rattle.xfs_tree.specs.Blocks.{capacity, count_of, level_of}
use Rattle.xfs_tree.specs.Rules.{block_seal, least_of}
use Rattle.xfs_tree.specs.Alone.{early_fault}
use Rattle.xfs_tree.proofs.rules.early_fault.Goals as goal

-- the first of three tests that fails
abbrev first_of : Bool → Bool → Bool → Option ℕ
first_of sealed here many = first_false ((3, sealed) ∷ (4, here) ∷ (5, many) ∷ [])

some_fault : (n : ℕ) → Some n ≡ None → ⊥
some_fault n e = cc

second_holds : (a b : Bool) → (a && b) ≡ true → b ≡ true
second_holds true b both = both
second_holds false b both = cc

few_enough : (least count most : ℕ) → (nat_le least count && nat_le count most) ≡ true → count ≤ most
few_enough least count most both = leb-true count most (second_holds (nat_le least count) (nat_le count most) both)

pub returns-then-not-sealed : goal.returns-then-not-sealed
unfolding early_fault
returns-then-not-sealed g c =
    let s = g.K.Kind.shape c.args.kind.now in
    let v = volume_of c.args.g.now in
    let level = c.args.level in
    let seat = c.args.seat.now in
    let block = c.args.block.now in
    let sealed : is_sealed (block_seal v s.layout s.owner seat.place) block ≡ false =
    sym (c.sealed.ensures ∙ ap (λ (seal : Seal). is_sealed seal block) c.block_seal.ensures ∙ (λ i. is_sealed (block_seal v (c.tree_layout-layout.ensures.value i) (c.owner.ensures.value i) seat.place) block)) ∙ c.if-not-sealed.true in
    record {
      fault = sym (λ i. first_of (sealed i) (level_of block == level) (nat_le (least_of level seat.low) (count_of block) && nat_le (count_of block) (capacity s.layout level)));
      fits = λ e. absurd (some_fault 3 e);
    }

pub returns-then-level_of-level : goal.returns-then-level_of-level
unfolding early_fault
returns-then-level_of-level g c =
    let s = g.K.Kind.shape c.args.kind.now in
    let v = volume_of c.args.g.now in
    let level = c.args.level in
    let seat = c.args.seat.now in
    let block = c.args.block.now in
    let sealed : is_sealed (block_seal v s.layout s.owner seat.place) block ≡ true =
    sym (c.sealed.ensures ∙ ap (λ (seal : Seal). is_sealed seal block) c.block_seal.ensures ∙ (λ i. is_sealed (block_seal v (c.tree_layout-layout.ensures.value i) (c.owner.ensures.value i) seat.place) block)) ∙ c.if-not-sealed.false in
    let here : (level_of block == level) ≡ false = ne_eqb (level_of block) level (λ e. c.if-level_of-level.true (c.level_of.ensures ∙ e)) in
    record {
      fault = sym (λ i. first_of (sealed i) (here i) (nat_le (least_of level seat.low) (count_of block) && nat_le (count_of block) (capacity s.layout level)));
      fits = λ e. absurd (some_fault 4 e);
    }

pub returns-then-not-has_count : goal.returns-then-not-has_count
unfolding early_fault
returns-then-not-has_count g c =
    let s = g.K.Kind.shape c.args.kind.now in
    let v = volume_of c.args.g.now in
    let level = c.args.level in
    let seat = c.args.seat.now in
    let block = c.args.block.now in
    let sealed : is_sealed (block_seal v s.layout s.owner seat.place) block ≡ true =
    sym (c.sealed.ensures ∙ ap (λ (seal : Seal). is_sealed seal block) c.block_seal.ensures ∙ (λ i. is_sealed (block_seal v (c.tree_layout-layout.ensures.value i) (c.owner.ensures.value i) seat.place) block)) ∙ c.if-not-sealed.false in
    let here : (level_of block == level) ≡ true = eq-eqb (level_of block) level (sym c.level_of.ensures ∙ c.if-level_of-level.false) in
    let many : (nat_le (least_of level seat.low) (count_of block) && nat_le (count_of block) (capacity s.layout level)) ≡ false =
    sym (c.has_count.ensures ∙ (λ i. nat_le (c.least_of.ensures i) (count_of block) && nat_le (count_of block) (capacity (c.tree_layout-layout.ensures.value i) level))) ∙ c.if-not-has_count.true in
    record {
      fault = sym (λ i. first_of (sealed i) (here i) (many i));
      fits = λ e. absurd (some_fault 5 e);
    }

pub returns : goal.returns
unfolding early_fault
returns g c =
    let s = g.K.Kind.shape c.args.kind.now in
    let v = volume_of c.args.g.now in
    let level = c.args.level in
    let seat = c.args.seat.now in
    let block = c.args.block.now in
    let sealed : is_sealed (block_seal v s.layout s.owner seat.place) block ≡ true =
    sym (c.sealed.ensures ∙ ap (λ (seal : Seal). is_sealed seal block) c.block_seal.ensures ∙ (λ i. is_sealed (block_seal v (c.tree_layout-layout.ensures.value i) (c.owner.ensures.value i) seat.place) block)) ∙ c.if-not-sealed.false in
    let here : (level_of block == level) ≡ true = eq-eqb (level_of block) level (sym c.level_of.ensures ∙ c.if-level_of-level.false) in
    let many : (nat_le (least_of level seat.low) (count_of block) && nat_le (count_of block) (capacity s.layout level)) ≡ true =
    sym (c.has_count.ensures ∙ (λ i. nat_le (c.least_of.ensures i) (count_of block) && nat_le (count_of block) (capacity (c.tree_layout-layout.ensures.value i) level))) ∙ c.if-not-has_count.false in
    record {
      fault = sym (λ i. first_of (sealed i) (here i) (many i));
      fits = λ _. few_enough (least_of level seat.low) (count_of block) (capacity s.layout level) many;
    }

pub block_seal-requires : goal.block_seal-requires
block_seal-requires g c = c.requires.inside

pub level_of-requires : goal.level_of-requires
level_of-requires g c = c.requires.block

pub has_count-requires : goal.has_count-requires
has_count-requires g c = c.requires.block
