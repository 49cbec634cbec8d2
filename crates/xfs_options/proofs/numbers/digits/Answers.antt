use Rattle.std.proofs.Common.{sym, ◌∙◌, length, refl, arith}
use borrow.Author.Count.{falls}
use Rattle.xfs_options.proofs.Decimals.{digit_large, digit_more, digit_none, digits_end}
use Rattle.xfs_options.proofs.numbers.digits.Goals as goal

pub returns-then-longer-ge-LIMIT : goal.returns-then-longer-ge-LIMIT
returns-then-longer-ge-LIMIT c =
    sym
    (digit_large c.loop-byte.number c.loop-byte.byte-index c.args.word.now c.loop-byte-test.true (sym c.is_digit.ensures ∙ c.if-not-is_digit.false)
    c.if-longer-ge-LIMIT.true)
    ∙ c.loop-byte.invariant.rest

pub loop-byte-init : goal.loop-byte-init
loop-byte-init c = record { below = omega arith; rest = refl }

pub loop-byte-smaller : goal.loop-byte-smaller
loop-byte-smaller c = falls (length c.args.word.now) c.loop-byte.byte-index c.loop-byte-test.true

pub returns-then-not-is_digit : goal.returns-then-not-is_digit
returns-then-not-is_digit c =
    let l = c.loop-byte in
    sym (digit_none l.number l.byte-index c.args.word.now c.loop-byte-test.true (sym c.is_digit.ensures ∙ c.if-not-is_digit.true)) ∙ l.invariant.rest

pub loop-byte-preserved : goal.loop-byte-preserved
loop-byte-preserved c =
    let l = c.loop-byte in
    record {
      below = omega (arith, c.if-longer-ge-LIMIT.false);
      rest = sym (digit_more l.number l.byte-index c.args.word.now c.loop-byte-test.true (sym c.is_digit.ensures ∙ c.if-not-is_digit.false)) ∙ l.invariant.rest;
    }

pub returns : goal.returns
returns c =
    let l = c.loop-byte in
    sym (digits_end l.number l.byte-index c.args.word.now l.invariant.below (omega (arith, c.loop-byte-test.false))) ∙ l.invariant.rest
