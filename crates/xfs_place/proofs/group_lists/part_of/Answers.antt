use Rattle.std.proofs.Common.{◌-◌, ℕ, List, length, take, drop, ◌∙◌, ap}
use Rattle.std.proofs.lemmas.List.{drop_min, take_min, take_rest}
use Rattle.xfs_place.proofs.group_lists.part_of.Goals as goal

pub returns : goal.returns
returns c =
    let ns = c.args.numbers.now in
    let first = c.min-first.result in
    let behind = take (length ns - first) (drop first ns) in
    ap (λ (n : ℕ). take n behind) c.min-most.ensures
    ∙ take_min c.args.count behind
    ∙ ap (take c.args.count) (take_rest ns first ∙ ap (λ (n : ℕ). drop n ns) c.min-first.ensures ∙ drop_min c.args.from ns)
