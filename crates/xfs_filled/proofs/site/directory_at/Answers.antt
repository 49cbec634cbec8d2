use Rattle.std.proofs.Common.{◌<◌, List, Option, None, length, get_or, arith, sym, subst, ap, ◌∙◌}
use Rattle.std.proofs.lemmas.List.{get_or_default}
use Rattle.std.proofs.lemmas.List.FromFn.{get_or-map-range_with_len, length-map-range_with_len}
use Rattle.xfs_geom.specs.Volumes.{volume_of}
use Rattle.xfs_filled.specs.Directories.{IsSoundWhere, made_directory_at}
use Rattle.xfs_filled.specs.declared.directories.MadeDirectory.{MadeDirectory}
use Rattle.xfs_filled.proofs.site.directory_at.Goals as goal

pub bounds-site-k : goal.bounds-site-k
bounds-site-k c =
    let site = c.args.site.now in
    let long = ap length c.requires.site.built ∙ length-map-range_with_len (made_directory_at (volume_of site.geometry.now) site.starts.now site.nodes.now) 0 (length site.nodes.now) in
    let inside = c.requires.inside in
    omega (arith, long, inside)

pub returns-clause-value : goal.returns-clause-value
returns-clause-value c =
    let site = c.args.site.now in
    let f = made_directory_at (volume_of site.geometry.now) site.starts.now site.nodes.now in
    let long = ap length c.requires.site.built ∙ length-map-range_with_len f 0 (length site.nodes.now) in
    let inside : c.args.k < length site.directories.now = let low = c.requires.inside in omega (arith, long, low) in
    c.as_ref.ensures.value ∙ get_or_default site.directories.now c.args.k c.index-site-k.result None inside
    ∙ ap (λ (ds : List (Option MadeDirectory)). get_or ds c.args.k None) c.requires.site.built
    ∙ get_or-map-range_with_len f 0 (length site.nodes.now) c.args.k c.args.k None c.requires.inside (omega arith)

pub returns-clause-sound : goal.returns-clause-sound
returns-clause-sound c =
    let site = c.args.site.now in
    let f = made_directory_at (volume_of site.geometry.now) site.starts.now site.nodes.now in
    let long = ap length c.requires.site.built ∙ length-map-range_with_len f 0 (length site.nodes.now) in
    let inside : c.args.k < length site.directories.now = let low = c.requires.inside in omega (arith, long, low) in
    subst IsSoundWhere (sym c.as_ref.ensures.value) (c.requires.site.sound c.args.k c.index-site-k.result inside)
