-- What a repair of backups leaves is clean, whatever is asked of a further repair.
use Rattle.std.proofs.Common.{◌≡◌, Bool, true, false, ◌&&◌, ◌++◌, List, Option, None, refl, sym, ap, ◌∙◌}
use Rattle.xfs_disk.specs.Blocks.{Image}
use Rattle.xfs_disk.specs.declared.stamp.Stamp.{Stamp}
use Rattle.xfs_geom.specs.Election.{elected}
use Rattle.xfs_geom.specs.Volumes.{Volume, volume_of}
use Rattle.xfs_geom.specs.declared.geometry.Geometry.{Geometry}
use Rattle.xfs_log.specs.xfs_heads.declared.log_state.LogState.{LogState}
use Rattle.xfs_log.specs.xfs_heads.declared.log_state.LogState.TheVariants as Log
use Rattle.xfs_volume.specs.Laws.{first_broken}
use Rattle.xfs_volume.specs.declared.catalogs.BlockLsn.{BlockLsn}
use Rattle.xfs_volume.specs.declared.catalogs.Catalog.{Catalog}
use Rattle.xfs_volume.specs.declared.groups.GroupRec.{GroupRec}
use Rattle.xfs_naming.specs.Naming.{naming_laws}
use Rattle.xfs_naming.proofs.Kept.{kept_behind}
use Rattle.xfs_space.specs.SpaceLaws.{space_laws}
use Rattle.xfs_laws.specs.Counting.{log_laws}
use Rattle.xfs_laws.specs.Lawful.{broken_law, counting_laws}
use Rattle.xfs_image.proofs.Views.{view_of}
use Rattle.xfs_image.specs.Consistent.{IsConsistent}
use Rattle.xfs_image.specs.View.{log_of}
use Rattle.xfs_restored.proofs.xfs_views.Lawful.{lawful_view}
use Rattle.xfs_restored.specs.xfs_views.Backups.{DifferInBackups}
use Rattle.xfs_scan.specs.Refused.{refused}
use Rattle.xfs_scan.specs.declared.faults.ScanFault.{ScanFault}
use Rattle.xfs_mend.proofs.Answering.{consistent_answer, one_answer}
use Rattle.xfs_mend.proofs.Again.{stays_quiet}
use Rattle.xfs_mend.proofs.Owing.{owed_as}
use Rattle.xfs_mend.proofs.SameCandidates.{refusal_same}
use Rattle.xfs_mend.proofs.Turning.{not_dirty}
use Rattle.xfs_mend.specs.Asked.{Asked}
use Rattle.xfs_mend.specs.Due.{IsAnswer, IsDueRepair, IsOwed, asks_log, away_if, is_dirty, scan_refusal, turned_away, uncounted}
use Rattle.xfs_mend.specs.Outcome.{StaysClean}
use Rattle.xfs_mend.specs.declared.outcome.Outcome.{Outcome}
use Rattle.xfs_mend.specs.declared.outcome.Outcome.TheVariants.{NoGeometry, Unsupported, DirtyLog, TooLarge, UnsupportedFile, Clean, Damaged, Repaired, NoRoom, ReadFault, WriteFault, NoMemory}
use Rattle.xfs_mend.specs.declared.outcome.Summary.TheVariants.{Backups, Rebuilt}

-- the log of a volume that breaks no law is clean
log_kept : (groups : List GroupRec) (log : LogState) (lsns : List BlockLsn) → first_broken (log_laws groups log lsns) ≡ None → is_dirty log ≡ false
unfolding first_broken
log_kept groups (Log.Clean head) lsns none = refl
log_kept groups Log.Dirty lsns none = absurd cc

laws_kept : (c : Catalog) → broken_law c ≡ None → first_broken (log_laws c.groups c.log c.lsns) ≡ None
unfolding broken_law
laws_kept c none =
    let v : Volume = volume_of c.geometry in
    kept_behind (naming_laws v.rootino c.files c.entries c.dirs) (log_laws c.groups c.log c.lsns)
    (kept_behind (counting_laws c) (naming_laws v.rootino c.files c.entries c.dirs ++ log_laws c.groups c.log c.lsns)
    (kept_behind (space_laws v c.groups c.files) (counting_laws c ++ (naming_laws v.rootino c.files c.entries c.dirs ++ log_laws c.groups c.log c.lsns)) none))

pub log_clean : (g : Geometry) (image : Image) → IsConsistent broken_law g image → is_dirty (log_of (volume_of g) image) ≡ false
log_clean g image is =
    let log : is.catalog.log ≡ log_of (volume_of g) image = ap (λ (c : Catalog). c.log) (view_of g image is.catalog is.reads).catalog in
    ap is_dirty (sym log) ∙ log_kept is.catalog.groups is.catalog.log is.catalog.lsns (laws_kept is.catalog is.lawful)

-- clean is due to a consistent image of which nothing is refused, whatever is asked
pub always_clean : (o : Asked) (s : Stamp) (g : Geometry) (image : Image) → IsConsistent broken_law g image → scan_refusal (refused (volume_of g) image) ≡ None
    → IsAnswer o s image (elected image) Clean
always_clean o s g image is none =
    consistent_answer o s g image is (not_dirty o (volume_of g) image (log_of (volume_of g) image) refl (log_clean g image is) ∙ none)

differ_back : (v : Volume) (image now : Image) → DifferInBackups v image now → DifferInBackups v now image
differ_back v image now differ = record {
  behind = λ ag low high. sym (differ.behind ag low high);
  others = λ block apart. sym (differ.others block apart);
}

-- what was not refused before a repair of backups is not refused behind it
pub refusal_stays : (g : Geometry) (image now : Image) → IsConsistent broken_law g now → DifferInBackups (volume_of g) image now → refused (volume_of g) now ≡ refused (volume_of g) image
refusal_stays g image now is differ =
    let lawful = lawful_view g now is in
    sym (refusal_same g now image (differ_back (volume_of g) image now differ) lawful.groups lawful.files lawful.is)

none_refused : (dirty : Bool) (due : Option ScanFault) → away_if dirty due ≡ None → scan_refusal due ≡ None
none_refused true due none = cc
none_refused false due none = none

-- a volume that is looked at is not refused
pub looked_at : (o : Asked) (v : Volume) (image : Image) → turned_away o v image ≡ None → scan_refusal (refused v image) ≡ None
unfolding turned_away
looked_at o v image none = none_refused (asks_log o && is_dirty (log_of v image)) (refused v image) none

-- then no other outcome is due, and a fault of a write neither
clean_only : (outcome : Outcome) → uncounted outcome ≡ Clean → outcome ≡ Clean
clean_only (Repaired (Rebuilt blocks kept cleared orphans)) same = absurd cc
clean_only (Repaired (Backups count)) same = same
clean_only NoGeometry same = same
clean_only (Unsupported word bits) same = same
clean_only DirtyLog same = same
clean_only (TooLarge what count) same = same
clean_only (UnsupportedFile ino what) same = same
clean_only Clean same = same
clean_only (Damaged finding) same = same
clean_only (NoRoom what) same = same
clean_only (ReadFault faults) same = same
clean_only (WriteFault blocks) same = same
clean_only NoMemory same = same

clean_alone : (o : Asked) (s : Stamp) (image : Image) (outcome : Outcome) → IsAnswer o s image (elected image) Clean → IsDueRepair o s image outcome
    → IsOwed (λ due. due ≡ Clean) outcome
clean_alone o s image outcome clean due =
    owed_as (λ x. IsAnswer o s image (elected image) x) (λ x. x ≡ Clean) outcome (λ x answer. clean_only x (one_answer o s image (elected image) x Clean answer clean)) due

-- so a further repair leaves it as it is
pub is_left : (g : Geometry) (image now : Image) → IsConsistent broken_law g now → DifferInBackups (volume_of g) image now → scan_refusal (refused (volume_of g) image) ≡ None → StaysClean now
is_left g image now is differ none =
    let none_now : scan_refusal (refused (volume_of g) now) ≡ None = ap scan_refusal (refusal_stays g image now is differ) ∙ none in
    record {
      clean = λ o s. always_clean o s g now is none_now;
      only = λ o s outcome due. clean_alone o s now outcome (always_clean o s g now is none_now) due;
      quiet = λ o s outcome due. stays_quiet o s g now outcome is due;
    }
