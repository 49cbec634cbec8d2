use Rattle.std.proofs.Common.{ℕ, List, ap₂, refl, ◌∙◌}
use Rattle.xfs_volume.specs.declared.directories.DirRec.{DirRec}
use Rattle.xfs_rebuild.specs.Names.{dirs_with}
use Rattle.xfs_rebuild.proofs.Needs.{files_due}
use Rattle.xfs_rebuild.proofs.names.due_names.Goals as goal

pub returns : goal.returns
returns c = record {
  files' = c.from_vec.ensures ∙ files_due c.args.root c.args.kept c.args.slots.now c.as_slice.result.now c.into_vec.result.items c.in_ok-files.files.items
      (c.as_slice.ensures.value ∙ c.in-Ok.ensures) c.into_vec.ensures c.in_ok-files.ensures;
  entries' = refl;
  dirs' = c.from_vec-2.ensures ∙ c.in_ok-dirs.ensures ∙ ap₂ (λ (fresh : List ℕ) (ds : List DirRec). dirs_with c.args.root fresh ds) c.as_slice-2.ensures c.into_vec-2.ensures;
  clusters' = refl;
  fresh' = refl;
}

pub returns-in-Err : goal.returns-in-Err
returns-in-Err c = tt
