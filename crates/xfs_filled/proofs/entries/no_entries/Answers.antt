use Rattle.std.proofs.Common.{ℕ, ◌++◌, [], ◌∷◌, List, arith, sym, ap₂, ◌∙◌, ◌≡◌, ap, map}
use Rattle.std.proofs.lemmas.Result.{IfOk-from_err}
use Rattle.std.specs.List.{range_with_len}
use Rattle.std.proofs.lemmas.List.FromFn.{map-range_with_len_more}
use borrow.Author.Count.{falls}
use Rattle.xfs_dirdata.specs.declared.records.EntryRec.{EntryRec}
use Rattle.xfs_filled.proofs.entries.no_entries.Goals as goal

abbrev none : ℕ → List EntryRec
none k = []

pub loop-k-preserved : goal.loop-k-preserved
loop-k-preserved c =
    c.in_ok-push.ensures.items ∙ ap₂ (λ (xs : List (List EntryRec)) (x : List EntryRec). xs ++ x ∷ []) c.loop-k.invariant c.make.ensures
    ∙ sym (map-range_with_len_more none 0 c.loop-k._k c.loop-k._k (omega arith))

pub loop-k-init : goal.loop-k-init
loop-k-init c = c.new-lists.ensures.items

pub loop-k-smaller : goal.loop-k-smaller
loop-k-smaller c = falls _ c.loop-k._k c.loop-k-test.true

pub returns-in_err-push : goal.returns-in_err-push
returns-in_err-push c = IfOk-from_err c.from_residual.result _ c.from_residual.ensures.0

pub returns : goal.returns
returns c =
    let all : c.loop-k._k ≡ c.args.count = omega (arith, c.loop-k-test.false, c.loop-k.auto._k-end) in
    c.loop-k.invariant ∙ ap (λ (n : ℕ). map none (range_with_len 0 n)) all
