use Rattle.std.proofs.Common.{◌≡◌, false, take}
use Rattle.std.specs.List.{list_any}
use Rattle.xfs_geom.specs.Volumes.{volume_of}
use Rattle.xfs_image.specs.Candidates.{whole_seal}
use Rattle.xfs_word.specs.Seal.{is_sealed}
use Rattle.xfs_groups.proofs.looking.is_any.Given as goal

abbrev pub invariant-loop-kind : goal.invariant-loop-kind
invariant-loop-kind l = list_any (λ kind. is_sealed (whole_seal (volume_of l.g) l.place kind) l.block) (take l.kind-index l.kinds) ≡ false
