use Rattle.std.proofs.Common.{ℕ, List, ap, ◌∙◌, nat_lt}
use Rattle.std.specs.List.{insert, prefix_len}
use Rattle.xfs_rename.proofs.NumberPlaced.{number_placed}
use Rattle.xfs_rename.proofs.settled.add_number.Goals as goal

pub returns : goal.returns
returns c =
    let n = c.args.number in
    let numbers = c.args.numbers.now.items in
    c.in_ok-insert.ensures.items
    ∙ ap (λ (k : ℕ). insert numbers k n) (c.place_of-place.ensures.place ∙ ap (λ (ns : List ℕ). prefix_len (λ (x : ℕ). nat_lt x n) ns) c.as_slice.ensures.value)
    ∙ number_placed n numbers
