use Rattle.std.proofs.Common.{◌≡◌, ℕ, List, map, map-id, sym, ap, ◌∙◌, rules}
use Rattle.std.proofs.lemmas.Iterator.{items_from_drains}
use Rattle.std.proofs.lemmas.Iterator.Adapters.{YieldsList-from_vec}
use Rattle.xfs_disk.specs.Lists.{is_among}
use Rattle.xfs_groups.proofs.BlockSets.{collected}
use Rattle.xfs_groups.proofs.sets.BlockList.into_set.Goals as goal

pub returns : goal.returns
returns c = λ q.
    let ran = c.in_ok-set.ensures.ran in
    let all : map (λ (x : ℕ). x) ran.0 ≡ c.self.inside.blocks.items =
    items_from_drains ran.0 ran.1 (YieldsList-from_vec {s = c.into_iter.result} c.self.inside.blocks.items (search rules) (search rules)) in
    collected ran.0 c.in_ok-set.set.keys ran.2.0 q ∙ ap (λ (xs : List ℕ). is_among xs q) (sym (map-id ran.0) ∙ all ∙ c.self.view_is)
