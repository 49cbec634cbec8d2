use Rattle.std.proofs.Common.{ℕ, List, sym, subst, ap, ◌∙◌}
use Rattle.std.specs.List.Sorted.{IsNonDecreasingBy}
use Rattle.xfs_naming.specs.Naming.{NumbersAscend}
use Rattle.xfs_salvage.specs.declared.found.Salvaged.{Salvaged}
use Rattle.xfs_salvage.specs.Kept.{taken_of}
use Rattle.xfs_geom.specs.Volumes.{volume_of}
use Rattle.xfs_volume.specs.declared.files.FileRec.{FileRec}
use Rattle.xfs_rename.specs.Objects.{asked_with, with_added}
use Rattle.xfs_rename.proofs.wanting.asked_of.Goals as goal

pub wanted_of-requires-clause-files : goal.wanted_of-requires-clause-files
wanted_of-requires-clause-files c = subst (λ (k : Salvaged). IsNonDecreasingBy (λ (f : FileRec). f.ino) k.files) (sym c.in_ok-kept.ensures) c.requires.files

pub wanted_of-requires-clause-clusters : goal.wanted_of-requires-clause-clusters
wanted_of-requires-clause-clusters c =
    subst (λ (k : Salvaged). NumbersAscend 0 k.clusters) (sym (c.in_ok-kept.ensures ∙ ap (λ (added : List ℕ). with_added added c.args.kept) c.as_slice.ensures)) c.requires.clusters

pub returns-in-Ok-wanted_of-clause-wanted : goal.returns-in-Ok-wanted_of-clause-wanted
returns-in-Ok-wanted_of-clause-wanted c = c.in-Ok-wanted_of.ensures ∙ (λ i.
    asked_with c.args.g.now c.args.settling.now (c.in-Ok.ensures i) c.args.reserved.items ((c.in_ok-kept.ensures ∙ ap (λ (added : List ℕ). with_added added c.args.kept) c.as_slice.ensures) i))

pub returns-in-Ok-wanted_of-clause-kept : goal.returns-in-Ok-wanted_of-clause-kept
returns-in-Ok-wanted_of-clause-kept c = c.in_ok-kept.ensures ∙ ap (λ (added : List ℕ). with_added added c.args.kept) c.as_slice.ensures
