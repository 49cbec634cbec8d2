-- What is wanted of an empty volume, part by part.
use Rattle.std.proofs.Common.{◌≡◌, ℕ, false, List, [], ◌∷◌, ap₂, ◌∙◌}
use Rattle.xfs_geom.specs.declared.geometry.Geometry.{Geometry}
use Rattle.xfs_geom.specs.declared.records.Run.{Run}
use Rattle.xfs_place.specs.declared.wanted.GroupInodes.{GroupInodes}
use Rattle.xfs_place.specs.declared.wanted.Object.{Object}
use Rattle.xfs_place.specs.declared.wanted.Wanted.{Wanted}
use Rattle.xfs_empty.specs.Placing.{all_inodes, chunk_run, empty_wanted}

abbrev wanted_of : Geometry → List Run → List Run → List ℕ → List ℕ → List Object → List GroupInodes → Wanted
wanted_of g taken new reserved spared objects inodes = record {
  geometry = g;
  taken = taken;
  new = new;
  reserved = reserved;
  from = 24;
  spared_from = spared;
  takes_spared = false;
  objects = objects;
  inodes = inodes;
}

pub is_empty_wanted : (g : Geometry) (taken new : List Run) (reserved spared : List ℕ) (objects : List Object) (inodes : List GroupInodes)
    → taken ≡ [] → new ≡ chunk_run ∷ [] → reserved ≡ [] → spared ≡ [] → objects ≡ [] → inodes ≡ all_inodes g.agcount
    → record { geometry = g; taken = taken; new = new; reserved = reserved; from = 24; spared_from = spared; takes_spared = false; objects = objects; inodes = inodes } ≡ empty_wanted g
is_empty_wanted g taken new reserved spared objects inodes taken_is new_is reserved_is spared_is objects_is inodes_are =
    ap₂ (λ (xs ys : List Run). wanted_of g xs ys reserved spared objects inodes) taken_is new_is
    ∙ ap₂ (λ (xs ys : List ℕ). wanted_of g [] (chunk_run ∷ []) xs ys objects inodes) reserved_is spared_is
    ∙ ap₂ (λ (xs : List Object) (ys : List GroupInodes). wanted_of g [] (chunk_run ∷ []) [] [] xs ys) objects_is inodes_are
