-- What a rebuild is, from its parts; and why none is planned.
use Rattle.std.proofs.Common.{◌≡◌, ℕ, true, false, List, Option, Result, Ok, Err, refl, sym, ap, subst, ◌∙◌}
use Rattle.std.specs.Prelude.{IfErr, IfOk}
use Rattle.std.specs.Option.{ForSome}
use Rattle.xfs_disk.specs.Blocks.{Image}
use Rattle.xfs_disk.specs.declared.stamp.Stamp.{Stamp}
use Rattle.xfs_geom.specs.Volumes.{Volume, volume_of}
use Rattle.xfs_geom.specs.declared.geometry.Geometry.{Geometry}
use Rattle.xfs_request.specs.xfs_empty.Planning.{StandsFor}
use Rattle.xfs_place.specs.declared.wanted.Wanted.{Wanted}
use Rattle.xfs_place.specs.declared.placed.Placed.{Placed}
use Rattle.xfs_render.specs.Rendering.{IsRendered}
use Rattle.xfs_render.specs.declared.bytes.Bytes.{Bytes}
use Rattle.xfs_render.specs.declared.plan.Plan.{Plan}
use Rattle.xfs_render.specs.declared.wanted_slots.SlotWanted.{SlotWanted}
use Rattle.xfs_scan.specs.Evidence.{dirs_seen, entries_seen, files_seen}
use Rattle.xfs_scan.specs.declared.evidence.Evidence.{Evidence}
use Rattle.xfs_groups.specs.declared.groups.GroupTrees.{GroupTrees}
use Rattle.xfs_rounds.specs.declared.facts.SlotFact.{SlotFact}
use Rattle.xfs_volume.specs.declared.clusters.ClusterRec.{ClusterRec}
use Rattle.xfs_salvage.specs.Kept.{entries_of_kept, fresh_inodes, kept_clusters, kept_dirs, kept_files}
use Rattle.xfs_salvage.specs.declared.found.FoundRecords.{FoundRecords}
use Rattle.xfs_salvage.specs.declared.found.Salvaged.{Salvaged}
use Rattle.xfs_request.specs.Requests.{cleared_count}
use Rattle.xfs_request.specs.Slots.{wanted_slots}
use Rattle.xfs_request.specs.declared.seen.SlotSeen.{SlotSeen}
use Rattle.xfs_rebuild.specs.Bytes.{AreAtHand}
use Rattle.xfs_rebuild.specs.Found.{reserved_of}
use Rattle.xfs_rebuild.specs.Names.{AreDueNames, due_files, needs_names}
use Rattle.xfs_rebuild.specs.NamesJudged.{AreNamesJudged}
use Rattle.xfs_rebuild.specs.Rebuilds.{AreNamesDue, Ground, IsFound, IsGround, IsLeft, IsPlannedFor, IsPlannedOn, IsRebuildOf, IsRenderedLeft, asked, ground, names_change, names_due_of, slots_asked}
use Rattle.xfs_rebuild.specs.Refusals.{IsPlaceRefused, IsReadRefused, IsRefused, IsRefusedOn}
use Rattle.xfs_rebuild.specs.Seen.{slots_seen}
use Rattle.xfs_rebuild.specs.declared.faults.RebuildFault.{RebuildFault}
use Rattle.xfs_rebuild.specs.declared.faults.RebuildFault.TheVariants as faults
use Rattle.xfs_rebuild.specs.declared.names.DueNames.{DueNames}
use Rattle.xfs_rebuild.specs.declared.names.Judged.{Judged}
use Rattle.xfs_rebuild.specs.declared.names.Judged.TheVariants.{Change, Stay}
use Rattle.xfs_rebuild.specs.declared.names_due.NamesDue.{NamesDue}
use Rattle.xfs_rebuild.specs.declared.planning.Rebuilt.{Rebuilt}

-- what was salvaged of what was found
module _ (v : Volume) (found : FoundRecords) (kept : Salvaged) (clusters' : kept.clusters ≡ kept_clusters v found.clusters found.files)
    (files' : kept.files ≡ kept_files v found.clusters found.files) (fresh' : kept.fresh ≡ fresh_inodes v found.clusters found.files) where
  -- from the lists of the evidence, and what is known of them
  pub is_ground : (e : Evidence) (seen : List SlotSeen) (reserved : List ℕ)
      → found.clusters ≡ e.clusters → found.files ≡ files_seen e.seen → found.entries ≡ entries_seen e.seen → found.dirs ≡ dirs_seen e.seen
      → kept.entries ≡ entries_of_kept v found.clusters found.files found.entries → kept.dirs ≡ kept_dirs v found.clusters found.files found.dirs
      → seen ≡ slots_seen v e.clusters e.slots e.bare → reserved ≡ reserved_of e.trees → IsGround v e (ground kept seen reserved e.log)
  is_ground e seen reserved a b c d entries dirs slots held = record {
    kept' = record {
      clusters' = clusters' ∙ (λ i. kept_clusters v (a i) (b i));
      files' = files' ∙ (λ i. kept_files v (a i) (b i));
      fresh' = fresh' ∙ (λ i. fresh_inodes v (a i) (b i));
      entries' = entries ∙ (λ i. entries_of_kept v (a i) (b i) (c i));
      dirs' = dirs ∙ (λ i. kept_dirs v (a i) (b i) (d i));
    };
    seen' = slots;
    reserved' = held;
    log' = refl;
  }

-- refusals
pub refused : (g : Geometry) (s : Stamp) (e : Evidence) (on : Ground) (fault : RebuildFault) → IsGround (volume_of g) e on → IsFound (volume_of g) on.kept → IsRefusedOn g s on fault → IsRefused g s e fault
refused g s e on (faults.Names due) stands found is = (on, stands, is.0, is.1, found)
refused g s e on (faults.NoRoom what) stands found is = (on, stands, is.0, is.1)
refused g s e on faults.ReadFault stands found is = tt
refused g s e on faults.NoMemory stands found is = tt

pub read_refused_place : (w : Wanted) (fault : RebuildFault) → IsReadRefused fault → IsPlaceRefused w fault
read_refused_place w (faults.Names due) is = absurd is
read_refused_place w (faults.NoRoom what) is = absurd is
read_refused_place w faults.ReadFault is = tt
read_refused_place w faults.NoMemory is = tt

-- what is placed, rendered and left is planned
pub rendered_left : (w : Wanted) (p : Placed) (b : Bytes) (plan : Plan) (held : Option Image) (result : Result Rebuilt RebuildFault)
    → IsRendered w p b plan → IfOk result (λ r. ForSome held (λ image. IsLeft image plan r)) → IfOk result (λ r. ForSome held (λ image. IsRenderedLeft w p b image r))
rendered_left w p b plan held (Ok r) rendered left = λ image told. record { plan = plan; rendered = rendered; left = left image told }
rendered_left w p b plan held (Err fault) rendered left = left

pub planned_for : (w : Wanted) (p : Placed) (b : Bytes) (held : Option Image) (result : Result Rebuilt RebuildFault)
    → StandsFor w p → IfOk result (λ r. ForSome held (λ image. IsRenderedLeft w p b image r)) → IfOk result (λ r. ForSome held (λ image. IsPlannedFor w b image r))
planned_for w p b held (Ok r) stands planned =
    λ image told. let is = planned image told in record { placed = p; stands = stands; plan = is.plan; rendered = is.rendered; left = is.left }
planned_for w p b held (Err fault) stands planned = planned

pub none_placed : (w : Wanted) (result : Result Rebuilt RebuildFault) → IfErr result IsReadRefused → IfErr result (IsPlaceRefused w)
none_placed w (Ok r) is = is
none_placed w (Err fault) is = read_refused_place w fault is

-- what was asked by equal facts
module _ (g : Geometry) (s : Stamp) (kept : Salvaged) (view seen : List SlotSeen) (same : view ≡ seen) where
  pub slots_of : (slots : List SlotWanted) → slots ≡ wanted_slots (volume_of g) s kept view → slots ≡ wanted_slots (volume_of g) s kept seen
  slots_of slots is = subst (λ (known : List SlotSeen). slots ≡ wanted_slots (volume_of g) s kept known) same is

  pub cleared_of : (count : ℕ) → count ≡ cleared_count (wanted_slots (volume_of g) s kept view) → count ≡ cleared_count (wanted_slots (volume_of g) s kept seen)
  cleared_of count is = subst (λ (known : List SlotSeen). count ≡ cleared_count (wanted_slots (volume_of g) s kept known)) same is

-- where no name has to change the clusters are the kept ones
pub none_change : (root : ℕ) (kept : Salvaged) (slots : List SlotWanted) (judged : Judged) (clusters : List ℕ) → AreNamesJudged root kept slots judged → judged ≡ Stay clusters
    → (needs_names root kept slots ≡ false) × (clusters ≡ kept.clusters)
none_change root kept slots judged clusters are is = subst (AreNamesJudged root kept slots) is are

-- what is at hand by equal clusters
pub hand_of : (g : Geometry) (sector : List ℕ) (s : Stamp) (clusters same : List ℕ) (slots : List SlotWanted) (b : Bytes) → clusters ≡ same
    → AreAtHand g sector s clusters slots b → AreAtHand g sector s same slots b
hand_of g sector s clusters same slots b is hand = subst (λ (cs : List ℕ). AreAtHand g sector s cs slots b) is hand

-- a name has to change where a law of names is broken by what there is to be named, and this is then known of the volume
pub names_refused : (g : Geometry) (s : Stamp) (on : Ground) (wanted : Wanted) (slots view : List SlotWanted) (judged : Judged) (names : DueNames) (due : NamesDue)
    → wanted ≡ asked g on → slots ≡ slots_asked g s on → view ≡ slots → AreNamesJudged g.rootino on.kept view judged → judged ≡ Change names
    → due ≡ names_due_of wanted slots names on.seen on.log → (names_change g s on ≡ true) × AreNamesDue g s on due
names_refused g s on wanted slots view judged names due same of seen are is made =
    let all : view ≡ slots_asked g s on = seen ∙ of in
    let known : AreNamesJudged g.rootino on.kept view (Change names) = subst (AreNamesJudged g.rootino on.kept view) is are in
    let own : AreDueNames g.rootino on.kept view names = known.1 in
    let files : names.files ≡ due_files g.rootino on.kept (slots_asked g s on) = own.files' ∙ ap (due_files g.rootino on.kept) all in (
      ap (needs_names g.rootino on.kept) (sym all) ∙ known.0,
      subst (AreNamesDue g s on) (sym made) (record {
        wanted' = same;
        slots' = of;
        files' = files;
        entries' = own.entries';
        dirs' = own.dirs';
        clusters' = own.clusters';
        fresh' = own.fresh';
        seen' = refl;
        log' = refl;
        named = known.2;
      }),
    )

-- what is planned by what an evidence gives is a rebuild of it
pub rebuilt : (g : Geometry) (sector : List ℕ) (s : Stamp) (e : Evidence) (on : Ground) (held : Option Image) (result : Result Rebuilt RebuildFault)
    → IsGround (volume_of g) e on → IfOk result (λ r. ForSome held (λ image. IsPlannedOn g sector s image on r))
    → IfOk result (λ r. ForSome held (λ image. IsRebuildOf g sector s image e r))
rebuilt g sector s e on held (Ok r) stands planned = λ image told. record { on = on; ground = stands; planned = planned image told }
rebuilt g sector s e on held (Err fault) stands planned = planned

pub none_rebuilt : (g : Geometry) (s : Stamp) (e : Evidence) (on : Ground) (result : Result Rebuilt RebuildFault)
    → IsGround (volume_of g) e on → IsFound (volume_of g) on.kept → IfErr result (IsRefusedOn g s on) → IfErr result (IsRefused g s e)
none_rebuilt g s e on (Ok r) stands found is = is
none_rebuilt g s e on (Err fault) stands found is = refused g s e on fault stands found is
