-- The verdict on a catalog, from those on its parts.
use Rattle.std.proofs.Common.{◌≡◌, ◌++◌, Option, Some, None, Result, sym, ◌∙◌, IfOk}
use Rattle.std.proofs.lemmas.Result.{IfOk-weaker}
use Rattle.xfs_geom.specs.Volumes.{volume_of}
use Rattle.xfs_naming.specs.Naming.{naming_laws}
use Rattle.xfs_space.specs.SpaceLaws.{space_laws}
use Rattle.xfs_volume.specs.Laws.{first_broken}
use Rattle.xfs_volume.specs.declared.catalogs.Catalog.{Catalog}
use Rattle.xfs_volume.specs.declared.findings.Law.{Law}
use Rattle.xfs_laws.specs.Counting.{log_laws}
use Rattle.xfs_laws.specs.Lawful.{broken_law, counting_laws}
use Rattle.xfs_laws.proofs.Firsts.{first_behind_two, first_in_two}

module _ (k : Catalog) where
  -- a law of space or of counts
  pub first_number : (l : Law) → first_broken (space_laws (volume_of k.geometry) k.groups k.files ++ counting_laws k) ≡ Some l → Some l ≡ broken_law k
  unfolding broken_law
  first_number l found =
      sym (first_in_two (space_laws (volume_of k.geometry) k.groups k.files) (counting_laws k)
      (naming_laws k.geometry.rootino k.files k.entries k.dirs ++ log_laws k.groups k.log k.lsns) l found)

  -- none of these
  pub behind_numbers : first_broken (space_laws (volume_of k.geometry) k.groups k.files ++ counting_laws k) ≡ None
      → broken_law k ≡ first_broken (naming_laws k.geometry.rootino k.files k.entries k.dirs ++ log_laws k.groups k.log k.lsns)
  unfolding broken_law
  behind_numbers none =
      first_behind_two (space_laws (volume_of k.geometry) k.groups k.files) (counting_laws k)
      (naming_laws k.geometry.rootino k.files k.entries k.dirs ++ log_laws k.groups k.log k.lsns) none

  pub judged : {E : Type 0} (r : Result (Option Law) E) → first_broken (space_laws (volume_of k.geometry) k.groups k.files ++ counting_laws k) ≡ None
      → IfOk r (λ o. o ≡ first_broken (naming_laws k.geometry.rootino k.files k.entries k.dirs ++ log_laws k.groups k.log k.lsns)) → IfOk r (λ o. o ≡ broken_law k)
  judged r none rest = IfOk-weaker r _ _ (λ o e. e ∙ sym (behind_numbers none)) rest

-- what holds of all is told whatever is found
pub told : {E : Type 0} {T : Type 0} (r : Result T E) (P Q : T → Type 0) → ((x : T) → Q x) → IfOk r P → IfOk r Q
told r P Q all holds = IfOk-weaker r P Q (λ x _. all x) holds
