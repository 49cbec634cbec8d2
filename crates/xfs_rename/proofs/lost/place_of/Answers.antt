use Rattle.std.proofs.Common.{◌∙◌, ap, ap₂, ℕ, List}
use Rattle.xfs_geom.specs.Volumes.{volume_of}
use Rattle.xfs_links.specs.declared.records.NodeRec.{NodeRec}
use Rattle.xfs_links.proofs.Deciding.{root_low}
use Rattle.xfs_names.specs.Place.{lost_place}
use Rattle.xfs_changes.specs.Nodes.{firsts_of_clusters}
use Rattle.xfs_rename.proofs.lost.place_of.Goals as goal

pub lost_place-requires-clause-root : goal.lost_place-requires-clause-root
lost_place-requires-clause-root c = root_low c.args.nodes.now c.args.g.now.rootino c.requires.files c.requires.root

pub returns : goal.returns
returns c =
    let n = c.args.due.now in
    let g = c.args.g.now in
    let firsts = c.as_slice-2.ensures.value ∙ c.in_ok-firsts.ensures.inodes ∙ ap (λ (cs : List ℕ). firsts_of_clusters (volume_of g) cs) c.as_slice.ensures in
    c.lost_place.ensures n.entries c.requires.decided
    ∙ ap₂ (λ (nodes : List NodeRec) (fs : List ℕ). lost_place nodes n.entries g.rootino fs) c.requires.nodes firsts
