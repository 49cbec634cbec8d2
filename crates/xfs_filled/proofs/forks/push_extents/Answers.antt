use Rattle.std.proofs.Common.{ℕ, ◌++◌, [], ◌∷◌, zero, suc, arith, sym, subst, ap, ◌∙◌, ◌≡◌, ◌+◌, ◌-◌, ◌*◌, ◌/◌, ◌≤◌, ◌<◌, append-nil, map}
use Rattle.std.proofs.lemmas.Result.{IfOk-from_err}
use Rattle.std.specs.List.{All, range_with_len}
use Rattle.std.proofs.lemmas.List.Elements.{All-append}
use borrow.Author.Count.{falls}
use Rattle.xfs_word.specs.Extent.{IsPackable}
use Rattle.xfs_word.specs.declared.extents.Extent.{Extent}
use Rattle.xfs_geom.specs.Volumes.{volume_of}
use Rattle.xfs_filled.specs.Forks.{extent_of_piece}
use Rattle.xfs_filled.proofs.Lists.{ranged_next}
use Rattle.xfs_filled.proofs.forks.push_extents.Goals as goal

one_small : (e : Extent) → IsPackable e → All IsPackable (e ∷ [])
one_small e small zero d low = small
one_small e small (suc k) d low = absurd (omega (arith, low))

pub loop-i-preserved : goal.loop-i-preserved
loop-i-preserved c =
    let f : ℕ → Extent = extent_of_piece (volume_of c.args.g.now) c.args.run.now in
    let now = c.loop-i.extents.items in
    let e = c.extent_of.result in
    record {
      value = ranged_next f c.args.extents.now.items now c.push.new.self.items c.loop-i.i c.loop-i.invariant.value (c.in_ok-push.ensures.items ∙ ap (λ (x : Extent). now ++ x ∷ []) c.extent_of.ensures.value);
      small = subst (All IsPackable) (sym c.in_ok-push.ensures.items) (All-append IsPackable now (e ∷ []) c.loop-i.invariant.small (one_small e c.extent_of.ensures.small));
    }

some_left : (i count : ℕ) → i < (count + 2097151 - 1) / 2097151 → i * 2097151 < count
some_left i count low = omega (arith, low)

all_pieces : (i count : ℕ) → i ≤ (count + 2097151 - 1) / 2097151 → (count + 2097151 - 1) / 2097151 ≤ i → i ≡ (count + 2097150) / 2097151
all_pieces i count low high = omega (arith, low, high)

pub loop-i-init : goal.loop-i-init
loop-i-init c = record { value = sym (append-nil c.args.extents.now.items); small = c.requires.small }

pub extent_of-requires-clause-inside : goal.extent_of-requires-clause-inside
extent_of-requires-clause-inside c = c.requires.inside

pub extent_of-requires-clause-offset : goal.extent_of-requires-clause-offset
extent_of-requires-clause-offset c = c.requires.offset

pub extent_of-requires-clause-some : goal.extent_of-requires-clause-some
extent_of-requires-clause-some c = some_left c.loop-i.i c.args.run.now.count c.loop-i-test.true

pub loop-i-smaller : goal.loop-i-smaller
loop-i-smaller c = falls _ c.loop-i.i c.loop-i-test.true

pub returns-in_err-push : goal.returns-in_err-push
returns-in_err-push c = record {
  value = IfOk-from_err c.from_residual.result _ c.from_residual.ensures.0;
  small = IfOk-from_err c.from_residual.result _ c.from_residual.ensures.0;
}

pub returns : goal.returns
returns c =
    let f : ℕ → Extent = extent_of_piece (volume_of c.args.g.now) c.args.run.now in
    record {
      value = c.loop-i.invariant.value ∙ ap (λ (n : ℕ). c.args.extents.now.items ++ map f (range_with_len 0 n)) (all_pieces c.loop-i.i c.args.run.now.count c.loop-i.auto.i-end c.loop-i-test.false);
      small = c.loop-i.invariant.small;
    }
