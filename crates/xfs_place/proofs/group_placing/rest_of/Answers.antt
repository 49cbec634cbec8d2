use Rattle.std.proofs.Common.{◌-◌, ◌++◌, ℕ, List, length, take, drop, ◌∙◌, ap}
use Rattle.std.proofs.lemmas.List.{drop_min, take_rest}
use Rattle.xfs_place.proofs.group_placing.rest_of.Goals as goal

pub returns : goal.returns
returns c =
    let bs = c.args.blocks.now in
    let first = c.min-first.result in
    c.in_ok-extend_from_slice.ensures.items
    ∙ ap (λ (xs : List ℕ). xs ++ take (length bs - first) (drop first bs)) c.new-rest.ensures.items
    ∙ take_rest bs first
    ∙ ap (λ (n : ℕ). drop n bs) c.min-first.ensures
    ∙ drop_min c.args.from bs
