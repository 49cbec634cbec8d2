-- The table of an election's tallies.
use Rattle.std.proofs.Common.{◌≡◌, ℕ, ◌==◌, ◌&&◌, Bool, Some, cond, sym, ◌∙◌}
use Rattle.std.proofs.Math.Bool.{and_assoc}
use Rattle.std.proofs.lemmas.Map.Text.{is_eq-slice_cmp}
use Rattle.std.specs.BTreeMap.{BTreeMap, get_by, Updates}
use Rattle.std.specs.Cmp.{both_tied, unsigned_ties}
use Rattle.std.specs.Map.{lookup}
use Rattle.std.specs.Ordering.{is_eq, nat_cmp, ordering_then}
use Rattle.std.specs.declared.cmp.Ordering.{Ordering}
use Rattle.xfs_geom.specs.Election.{same_volume}
use Rattle.xfs_geom.specs.Volumes.{volume_of}
use Rattle.xfs_geom.specs.contracts.geometry.GeometryOrd.TheImpl.{cmp-value}
use Rattle.xfs_geom.specs.declared.geometry.Geometry.{Geometry}
use Rattle.xfs_geom.specs.declared.polls.Tally.{Tally}

next : (x y : ℕ) (t : Bool) (o : Ordering) → t ≡ is_eq o → (x == y && t) ≡ is_eq (ordering_then (nat_cmp x y) o)
next x y t o h = both_tied (x == y) t (nat_cmp x y) o (unsigned_ties x y) h

-- the order of geometries tells apart just what are not the same volume
pub geometry_order : (a b : Geometry) → is_eq (cmp-value.it a b) ≡ same_volume (volume_of a) (volume_of b)
unfolding same_volume
geometry_order a b =
    sym
    (simp and_assoc
    (next a.dblocks b.dblocks _ _
    (next a.agblocks b.agblocks _ _
    (next a.agcount b.agcount _ _
    (next a.agblklog b.agblklog _ _
    (next a.log b.log _ _
    (next a.logblocks b.logblocks _ _
    (next a.rootino b.rootino _ _
    (next a.logsectlog b.logsectlog _ _ (sym (is_eq-slice_cmp a.uuid b.uuid)))))))))))

-- what the table has for a geometry
pub found : (tallies : BTreeMap Geometry Tally) (g : Geometry)
    → get_by (cmp-value.it g) tallies ≡ lookup (λ (other : Geometry). same_volume (volume_of g) (volume_of other)) tallies.entries
found tallies g = λ i. lookup (λ (other : Geometry). geometry_order g other i) tallies.entries

-- what the table has for each geometry once a tally is put
pub put : (old new : BTreeMap Geometry Tally) (g : Geometry) (tally : Tally) → Updates cmp-value.it old new g (Some tally)
    → (other : Geometry) → lookup (λ (o : Geometry). same_volume (volume_of other) (volume_of o)) new.entries
    ≡ cond (same_volume (volume_of g) (volume_of other)) (Some tally) (lookup (λ (o : Geometry). same_volume (volume_of other) (volume_of o)) old.entries)
put old new g tally updates other =
    sym (found new other) ∙ (updates.0 other ∙ (λ i. cond (geometry_order g other i) (Some tally) (found old other i)))
