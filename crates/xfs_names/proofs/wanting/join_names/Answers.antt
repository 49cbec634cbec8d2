use Rattle.std.proofs.Common.{◌≤◌, ◌^◌, List, length, map, refl, sym, ap, subst, ◌∙◌}
use Rattle.std.specs.List.Sorted.{IsNonDecreasingBy}
use Rattle.xfs_dirdata.specs.declared.records.EntryRec.{EntryRec}
use Rattle.xfs_names.specs.Rebuilt.{rebuilt_among}
use Rattle.xfs_names.specs.Wanted.{with_links}
use Rattle.xfs_names.proofs.wanting.join_names.Goals as goal

pub all_links-requires : goal.all_links-requires
all_links-requires c = record {
  nodes = c.requires.nodes;
  entries = subst (IsNonDecreasingBy (λ (e : EntryRec). e.dir)) (sym c.as_slice.ensures) c.requires.rise;
  few = subst (λ (es : List EntryRec). length es ≤ 2 ^ 24) (sym c.as_slice.ensures) c.requires.few;
  root = c.requires.root;
}

pub rebuilt_among-requires : goal.rebuilt_among-requires
rebuilt_among-requires c = record {
  listed = c.requires.listed;
  dirs = c.requires.dirs;
  wanted = subst (IsNonDecreasingBy (λ (e : EntryRec). e.dir)) (sym c.as_slice-2.ensures) c.requires.rise;
}

pub returns : goal.returns
returns c = record {
  entries' = refl;
  parents' = refl;
  links' = c.in_ok-links.ensures ∙ ap (λ (es : List EntryRec). map (with_links c.args.nodes.now es c.args.root) c.args.nodes.now) c.as_slice.ensures;
  rebuilt' = c.in_ok-rebuilt.ensures ∙ (λ i. rebuilt_among c.args.listed.now c.args.dirs.now (c.as_slice-2.ensures i) (c.as_slice-3.ensures i));
}
