use Rattle.std.proofs.Common.{ℕ, ◌+◌, ◌-◌, List, take, drop, ap, ◌∙◌}
use Rattle.xfs_geom.specs.Volumes.{volume_of}
use Rattle.xfs_place.specs.declared.uses.Use.{Use}
use Rattle.xfs_place.proofs.Windowed.{group_part}
use Rattle.xfs_place.proofs.windows.Window.group.Goals as goal

pub returns : goal.returns
returns c = λ runs reserved stands.
    let v = volume_of c.args.g.now in
    let from = c.args.self.now.from in
    let first = c.start_of_group.result - from in
    let end = first + c.group_length-blocks.result in
    ap (λ (us : List Use). take (end - first) (drop first us)) c.deref.ensures.value
    ∙ group_part v runs reserved c.args.self.now c.args.ag first end c.requires.there stands (ap (λ (n : ℕ). n - from) c.start_of_group.ensures.value)
    (ap (λ (n : ℕ). first + n) c.group_length-blocks.ensures.value)
