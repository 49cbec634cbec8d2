-- The rules of a block, in their order.
use Rattle.std.proofs.Common.{◌≡◌, ◌&&◌, ◌||◌, ◌∷◌, [], not, ℕ, true, false, Some, None, sym, ◌∙◌}
use Rattle.xfs_geom.specs.Features.{or_else}
use Rattle.xfs_geom.specs.First.{first_false}
use Rattle.xfs_geom.specs.Volumes.{volume_of}
use Rattle.xfs_tree.specs.Alone.{early_fault}
use Rattle.xfs_tree.specs.Blocks.{left_of, right_of}
use Rattle.xfs_tree.specs.Rules.{bound_agrees, is_ordered, low_of, high_of, is_sibling}
use Rattle.xfs_tree.proofs.Alone.{in_two}
use Rattle.xfs_tree.proofs.rules.block_fault.Goals as goal

some_fault : (n : ℕ) → Some n ≡ None → ⊥
some_fault n e = cc

pub returns-in-Some : goal.returns-in-Some
returns-in-Some g c =
    let s = g.K.Kind.shape c.args.kind.now in
    let v = volume_of c.args.g.now in
    let level = c.args.level in
    let seat = c.args.seat.now in
    let beside = c.args.beside.now in
    let block = c.args.block.now in
    let early : early_fault s v level seat block ≡ Some c.in-Some.rule = sym c.early_fault.ensures.fault ∙ c.in-Some.is in
    record {
      fault = sym (in_two s v c.args.before level beside.left beside.right seat block ∙ (λ i. or_else (early i) (first_false ((6, (is_ordered s v level c.args.before block)) ∷ (7, (bound_agrees s seat.low (low_of s level block) && (not s.layout.high || bound_agrees s seat.high (high_of s level block)))) ∷ (8, (is_sibling v s.layout s.owner beside.left (left_of s.layout block) && is_sibling v s.layout s.owner beside.right (right_of s.layout block))) ∷ []))));
      fits = λ e. absurd (some_fault c.in-Some.rule e);
    }

pub returns-then-not-is_ordered : goal.returns-then-not-is_ordered
returns-then-not-is_ordered g c =
    let s = g.K.Kind.shape c.args.kind.now in
    let v = volume_of c.args.g.now in
    let level = c.args.level in
    let seat = c.args.seat.now in
    let beside = c.args.beside.now in
    let block = c.args.block.now in
    let early : early_fault s v level seat block ≡ None = sym c.early_fault.ensures.fault ∙ c.in-None.is in
    let ordered : is_ordered s v level c.args.before block ≡ false = sym c.is_ordered.ensures ∙ c.if-not-is_ordered.true in
    record {
      fault = sym (in_two s v c.args.before level beside.left beside.right seat block ∙ (λ i. or_else (early i) (first_false ((6, ordered i) ∷ (7, (bound_agrees s seat.low (low_of s level block) && (not s.layout.high || bound_agrees s seat.high (high_of s level block)))) ∷ (8, (is_sibling v s.layout s.owner beside.left (left_of s.layout block) && is_sibling v s.layout s.owner beside.right (right_of s.layout block))) ∷ []))));
      fits = λ e. absurd (some_fault 6 e);
    }

pub returns-then-not-has_keys : goal.returns-then-not-has_keys
returns-then-not-has_keys g c =
    let s = g.K.Kind.shape c.args.kind.now in
    let v = volume_of c.args.g.now in
    let level = c.args.level in
    let seat = c.args.seat.now in
    let beside = c.args.beside.now in
    let block = c.args.block.now in
    let early : early_fault s v level seat block ≡ None = sym c.early_fault.ensures.fault ∙ c.in-None.is in
    let ordered : is_ordered s v level c.args.before block ≡ true = sym c.is_ordered.ensures ∙ c.if-not-is_ordered.false in
    let keyed : (bound_agrees s seat.low (low_of s level block) && (not s.layout.high || bound_agrees s seat.high (high_of s level block))) ≡ false = sym c.has_keys.ensures ∙ c.if-not-has_keys.true in
    record {
      fault = sym (in_two s v c.args.before level beside.left beside.right seat block ∙ (λ i. or_else (early i) (first_false ((6, ordered i) ∷ (7, keyed i) ∷ (8, (is_sibling v s.layout s.owner beside.left (left_of s.layout block) && is_sibling v s.layout s.owner beside.right (right_of s.layout block))) ∷ []))));
      fits = λ e. absurd (some_fault 7 e);
    }

pub returns-then-not-has_siblings : goal.returns-then-not-has_siblings
returns-then-not-has_siblings g c =
    let s = g.K.Kind.shape c.args.kind.now in
    let v = volume_of c.args.g.now in
    let level = c.args.level in
    let seat = c.args.seat.now in
    let beside = c.args.beside.now in
    let block = c.args.block.now in
    let early : early_fault s v level seat block ≡ None = sym c.early_fault.ensures.fault ∙ c.in-None.is in
    let ordered : is_ordered s v level c.args.before block ≡ true = sym c.is_ordered.ensures ∙ c.if-not-is_ordered.false in
    let keyed : (bound_agrees s seat.low (low_of s level block) && (not s.layout.high || bound_agrees s seat.high (high_of s level block))) ≡ true = sym c.has_keys.ensures ∙ c.if-not-has_keys.false in
    let beside_is : (is_sibling v s.layout s.owner beside.left (left_of s.layout block) && is_sibling v s.layout s.owner beside.right (right_of s.layout block)) ≡ false = sym c.has_siblings.ensures ∙ c.if-not-has_siblings.true in
    record {
      fault = sym (in_two s v c.args.before level beside.left beside.right seat block ∙ (λ i. or_else (early i) (first_false ((6, ordered i) ∷ (7, keyed i) ∷ (8, beside_is i) ∷ []))));
      fits = λ e. absurd (some_fault 8 e);
    }

pub returns : goal.returns
returns g c =
    let s = g.K.Kind.shape c.args.kind.now in
    let v = volume_of c.args.g.now in
    let level = c.args.level in
    let seat = c.args.seat.now in
    let beside = c.args.beside.now in
    let block = c.args.block.now in
    let early : early_fault s v level seat block ≡ None = sym c.early_fault.ensures.fault ∙ c.in-None.is in
    let ordered : is_ordered s v level c.args.before block ≡ true = sym c.is_ordered.ensures ∙ c.if-not-is_ordered.false in
    let keyed : (bound_agrees s seat.low (low_of s level block) && (not s.layout.high || bound_agrees s seat.high (high_of s level block))) ≡ true = sym c.has_keys.ensures ∙ c.if-not-has_keys.false in
    let beside_is : (is_sibling v s.layout s.owner beside.left (left_of s.layout block) && is_sibling v s.layout s.owner beside.right (right_of s.layout block)) ≡ true = sym c.has_siblings.ensures ∙ c.if-not-has_siblings.false in
    record {
      fault = sym (in_two s v c.args.before level beside.left beside.right seat block ∙ (λ i. or_else (early i) (first_false ((6, ordered i) ∷ (7, keyed i) ∷ (8, beside_is i) ∷ []))));
      fits = λ _. c.early_fault.ensures.fits c.in-None.is;
    }

pub early_fault-requires-clause-block : goal.early_fault-requires-clause-block
early_fault-requires-clause-block g c = λ κs lives. c.requires.block

pub early_fault-requires-clause-inside : goal.early_fault-requires-clause-inside
early_fault-requires-clause-inside g c = λ κs lives. c.requires.inside

pub is_ordered-requires-clause-block : goal.is_ordered-requires-clause-block
is_ordered-requires-clause-block g c = λ κs lives. c.requires.block

pub is_ordered-requires-clause-count : goal.is_ordered-requires-clause-count
is_ordered-requires-clause-count g c = λ κs lives. c.early_fault.ensures.fits c.in-None.is

pub has_keys-requires-clause-block : goal.has_keys-requires-clause-block
has_keys-requires-clause-block g c = λ κs lives. c.requires.block

pub has_keys-requires-clause-count : goal.has_keys-requires-clause-count
has_keys-requires-clause-count g c = λ κs lives. c.early_fault.ensures.fits c.in-None.is
