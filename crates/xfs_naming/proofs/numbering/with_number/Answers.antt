use Rattle.std.proofs.Common.{◌≡◌, ℕ, ◌<◌, List, length, get_or, ◌∙◌, sym, subst, arith}
use Rattle.xfs_naming.specs.Naming.{NumbersAscend}
use Rattle.xfs_disk.specs.Lists.{with_number}
use Rattle.xfs_naming.specs.Ordered.{IsPlaceFor}
use Rattle.xfs_naming.proofs.Ascending.{ascend_with, already, placed}
use Rattle.xfs_naming.proofs.numbering.with_number.Goals as goal

pub returns-in-Ok-clause-placed : goal.returns-in-Ok-clause-placed
returns-in-Ok-clause-placed c =
    let i = c.in-Ok.field-0 in
    let n = c.args.number in
    let at = subst (λ (xs : List ℕ). (i < length xs) × (get_or xs i 0 ≡ n)) c.as_slice.ensures.value c.in-Ok.ensures in
    already 0 n c.args.numbers.items i c.requires at.0 at.1

pub returns-in_ok-insert-in-Err-clause-placed : goal.returns-in_ok-insert-in-Err-clause-placed
returns-in_ok-insert-in-Err-clause-placed c =
    let n = c.args.number in
    let i = c.in-Err.place in
    let at = subst (λ (xs : List ℕ). IsPlaceFor xs n i) c.as_slice.ensures.value c.in-Err.ensures in
    c.in_ok-insert-in-Err.ensures.items ∙ placed n c.args.numbers.items i at.0 at.1 at.2

pub returns-in_ok-insert-in-Err-clause-ascend : goal.returns-in_ok-insert-in-Err-clause-ascend
returns-in_ok-insert-in-Err-clause-ascend c =
    let n = c.args.number in
    let i = c.in-Err.place in
    let at = subst (λ (xs : List ℕ). IsPlaceFor xs n i) c.as_slice.ensures.value c.in-Err.ensures in
    let is : with_number n c.args.numbers.items ≡ c.insert.new.self.items = sym (c.in_ok-insert-in-Err.ensures.items ∙ placed n c.args.numbers.items i at.0 at.1 at.2) in
    subst (NumbersAscend 0) is (ascend_with 0 n c.args.numbers.items c.requires (omega arith))
