use Rattle.std.proofs.Common.{◌==◌, take, drop, length, ◌-◌, ap, ◌∙◌}
use Rattle.std.specs.List.{prefix_len}
use Rattle.std.proofs.lemmas.List.{take_rest}
use Rattle.xfs_naming.proofs.Chosen.{run_is}
use Rattle.xfs_naming.proofs.Placing.{point_of_place}
use Rattle.xfs_naming.proofs.runs.run_at.Goals as goal

pub returns : goal.returns
returns g c =
    let xs = c.args.records.now in
    let s = c.args.place in
    let key = g.T.Numbered.key in
    ap (λ n. take n (take (length xs - s) (drop s xs))) c.run_length.ensures
    ∙ ap (λ ys. take (prefix_len (λ x. key x == c.args.number) ys) ys) (take_rest xs s)
    ∙ run_is key c.args.number xs s (point_of_place key c.args.number xs s c.requires.place) c.requires.rise
