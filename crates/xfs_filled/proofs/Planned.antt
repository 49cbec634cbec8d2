-- What is wanted of a site can be placed and written, and what is placed for it is the plan.
use Rattle.std.proofs.Common.{◌≡◌, ℕ, ◌<◌, ◌⊎◌, List, [], ◌++◌, length, replicate, Option, Ok, arith, refl, sym, subst, ap, ◌∙◌}
use Rattle.std.specs.List.{All}
use Rattle.std.proofs.lemmas.List.{length-replicate}
use Rattle.xfs_disk.specs.declared.stamp.Stamp.{Stamp}
use Rattle.xfs_empty.proofs.Planned.{planned_low}
use Rattle.xfs_empty.proofs.Room.{has_room}
use Rattle.xfs_empty.specs.Geometry.{HasFirstChunk}
use Rattle.xfs_empty.specs.Planning.{HasRoom, StandsFor}
use Rattle.xfs_geom.specs.Volumes.{stated_volume, volume_of}
use Rattle.xfs_geom.specs.Writing.{IsAcceptedSector}
use Rattle.xfs_geom.specs.declared.geometry.Geometry.{Geometry}
use Rattle.xfs_geom.specs.declared.records.Run.{Run}
use Rattle.xfs_place.specs.Objects.{ServeAsks, asks_of}
use Rattle.xfs_place.specs.Pool.{IsRunOf}
use Rattle.xfs_place.specs.Wanted.{CanBeKept, FindsNoRoom, all_kept, kept_runs}
use Rattle.xfs_place.specs.declared.faults.PlaceFault.{PlaceFault}
use Rattle.xfs_place.specs.declared.faults.Unplaced.{Unplaced}
use Rattle.xfs_place.specs.declared.placed.Placed.{Placed}
use Rattle.xfs_place.specs.declared.wanted.Wanted.{Wanted}
use Rattle.xfs_proto.specs.declared.protofile.ProtoNode.{ProtoNode}
use Rattle.xfs_render.specs.Plans.{planned}
use Rattle.xfs_render.specs.Readiness.{HasBytes, IsWritable}
use Rattle.xfs_render.specs.Rendering.{IsReady, IsRendered}
use Rattle.xfs_render.specs.declared.bytes.Bytes.{Bytes}
use Rattle.xfs_render.specs.declared.plan.Plan.{Plan}
use Rattle.xfs_filled.specs.Chunks.{chunk_starts, spared_list}
use Rattle.xfs_filled.specs.Directories.{HaveDirectoryImages, IsSoundWhere, made_directory_at}
use Rattle.xfs_filled.specs.FileTrees.{object_order}
use Rattle.xfs_filled.specs.Forks.{HasOffset}
use Rattle.xfs_filled.specs.Planning.{IsFilledPlan}
use Rattle.xfs_filled.specs.Sites.{IsSite}
use Rattle.xfs_filled.specs.Spans.{AreRunsOf}
use Rattle.xfs_filled.specs.Wanting.{bytes_with, filled_bytes, filled_places, filled_wanted, wanted_by_chunks}
use Rattle.xfs_filled.specs.declared.directories.MadeDirectory.{MadeDirectory}
use Rattle.xfs_filled.proofs.Asking.{order_inside}
use Rattle.xfs_filled.proofs.Counted.{all_written}
use Rattle.xfs_filled.proofs.Holding.{hold_all}
use Rattle.xfs_filled.proofs.Readied.{bytes_ready, claimed_inside, claimed_offsets, site_sound}
use Rattle.xfs_filled.proofs.Sited.{site_kept, site_writable}

module _ (g : Geometry) (starts : List ℕ) (ns : List ProtoNode) (contents : List (List ℕ)) (directories : List (Option MadeDirectory)) (order : List ℕ)
    (site : IsSite g starts ns contents directories order) (first : HasFirstChunk (volume_of g)) (are : starts ≡ chunk_starts g (length ns)) (w : Wanted) (is : w ≡ wanted_by_chunks g starts ns contents) where
  sound : (k : ℕ) → k < length ns → IsSoundWhere (made_directory_at (volume_of g) starts ns k)
  sound k low = site_sound g starts ns contents directories order site k low

  pub can_write : IsWritable w
  can_write = subst IsWritable (sym is) (site_writable g ns contents starts first are site.placed (λ k low. sound k low))

  pub can_keep : CanBeKept (volume_of w.geometry) (kept_runs w)
  can_keep = subst (λ (x : Wanted). CanBeKept (volume_of x.geometry) (kept_runs x)) (sym is) (site_kept g ns contents starts first are)

  -- the runs that are found
  pub runs_stand : (runs : List Run) → all_kept w ≡ Ok (kept_runs w ++ runs) → AreRunsOf (volume_of g) starts (object_order ns) runs
  runs_stand runs all =
      hold_all (volume_of g) [] 24 (spared_list g) starts ns contents (kept_runs (wanted_by_chunks g starts ns contents)) runs (λ k d low. sound _ (order_inside ns k d low))
      (subst (λ (x : Wanted). all_kept x ≡ Ok (kept_runs x ++ runs)) is all)

  kept_apart : (runs : List Run) → CanBeKept (volume_of w.geometry) (kept_runs w ++ runs) → CanBeKept (volume_of g) (kept_runs (wanted_by_chunks g starts ns contents) ++ runs)
  kept_apart runs apart = subst (λ (x : Wanted). CanBeKept (volume_of x.geometry) (kept_runs x ++ runs)) is apart

  pub runs_inside : (runs : List Run) → CanBeKept (volume_of w.geometry) (kept_runs w ++ runs) → All (IsRunOf g.dblocks) runs
  runs_inside runs apart = claimed_inside g.dblocks (kept_runs (wanted_by_chunks g starts ns contents)) runs (kept_apart runs apart).each

  pub runs_offset : (runs : List Run) → CanBeKept (volume_of w.geometry) (kept_runs w ++ runs) → All HasOffset runs
  runs_offset runs apart =
      let small = g.shape.groups.small in
      claimed_offsets g.dblocks (kept_runs (wanted_by_chunks g starts ns contents)) runs (omega (arith, small)) (kept_apart runs apart).each

  -- the bytes of what is placed
  module _ (sector : List ℕ) (s : Stamp) (runs : List Run) (b : Bytes) (made : b ≡ bytes_with g sector s starts ns contents runs) where
    pub has_bytes : IsAcceptedSector sector → stated_volume sector ≡ volume_of g → all_kept w ≡ Ok (kept_runs w ++ runs) → HasBytes w b
    has_bytes accepted states all =
        subst (λ (x : Wanted). HasBytes x b) (sym is)
        (subst (HasBytes (wanted_by_chunks g starts ns contents)) (sym made)
        (bytes_ready g s starts ns contents runs site.placed site.files (λ k low. sound k low) (runs_stand runs all) (bytes_with g sector s starts ns contents runs) accepted states refl
        (length-replicate (length (filled_places g starts)) (replicate 4096 0)) (all_written (volume_of g) starts ns contents (λ k low. sound k low)) refl refl))

    bytes_are : b ≡ filled_bytes g sector s ns contents runs
    bytes_are = made ∙ ap (λ (xs : List ℕ). bytes_with g sector s xs ns contents runs) are

  wanted_is : w ≡ filled_wanted g ns contents
  wanted_is = is ∙ ap (λ (xs : List ℕ). wanted_by_chunks g xs ns contents) are

  pub plan_is : (sector : List ℕ) (s : Stamp) (p : Placed) (b : Bytes) (plan : Plan) → b ≡ bytes_with g sector s starts ns contents p.runs → StandsFor w p
      → ServeAsks (asks_of w.objects) p.cuts p.runs → IsRendered w p b plan → IsFilledPlan g sector s ns contents plan
  plan_is sector s p b plan made stands served rendered =
      record {
        placed = p;
        served = subst (λ (x : Wanted). ServeAsks (asks_of x.objects) p.cuts p.runs) wanted_is served;
        stands = subst (λ (x : Wanted). StandsFor x p) wanted_is stands;
        rendered = subst (λ (x : Wanted). IsRendered x p (filled_bytes g sector s ns contents p.runs) plan) wanted_is
            (subst (λ (y : Bytes). IsRendered w p y plan) (bytes_are sector s p.runs b made) rendered);
        images = subst (λ (xs : List ℕ). HaveDirectoryImages (volume_of g) xs ns) are site.images;
      }

  pub plan_inside : (p : Placed) (b : Bytes) (plan : Plan) → IsReady w p b → IsRendered w p b plan → All (λ place. place < g.dblocks) (planned plan)
  plan_inside p b plan ready rendered = subst (λ (x : Wanted). All (λ place. place < x.geometry.dblocks) (planned plan)) is (planned_low w p b plan ready rendered)

  pub all_room : (p : Placed) → StandsFor w p → HasRoom (filled_wanted g ns contents)
  all_room p stands = subst HasRoom wanted_is (has_room w p stands)

  -- why nothing is placed
  pub why : (fault : PlaceFault) → (fault ≡ PlaceFault.NoMemory) ⊎ ((what : Unplaced) × (fault ≡ PlaceFault.NoRoom what) × FindsNoRoom w what)
      → (fault ≡ PlaceFault.NoMemory) ⊎ ((what : Unplaced) × (fault ≡ PlaceFault.NoRoom what) × FindsNoRoom (filled_wanted g ns contents) what)
  why fault cause =
      subst (λ (x : Wanted). (fault ≡ PlaceFault.NoMemory) ⊎ ((what : Unplaced) × (fault ≡ PlaceFault.NoRoom what) × FindsNoRoom x what)) wanted_is cause
