-- A protected file is kept where names change: with the same bytes, attributes, target and device, and the same core but for what may
-- change.
use Rattle.std.proofs.Common.{◌≡◌, ℕ, Bool, ◌==◌, List, Option, Some, None, refl, sym, ap, ◌∙◌, subst, false, [], ◌∷◌}
use Rattle.std.proofs.lemmas.Bool.{eq-eqb, eqb-true, false≢true}
use Rattle.xfs_disk.specs.Blocks.{Image}
use Rattle.xfs_disk.specs.declared.stamp.Stamp.{Stamp}
use Rattle.xfs_geom.specs.Volumes.{Volume, volume_of}
use Rattle.xfs_geom.specs.declared.geometry.Geometry.{Geometry}
use Rattle.xfs_image.specs.Candidates.{candidates}
use Rattle.xfs_image.specs.Claims.{candidate_files, candidate_inodes}
use Rattle.xfs_image.specs.Keeping.{Keeps, Protected, file_bytes, lasting}
use Rattle.xfs_image.specs.Slots.{reads_as}
use Rattle.xfs_inode.specs.declared.files.FileRead.TheVariants as Reads
use Rattle.xfs_naming.specs.Naming.{NumbersAscend, file_at, numbers_of}
use Rattle.xfs_volume.specs.Names.{type_of}
use Rattle.xfs_volume.specs.declared.files.FileRec.{FileRec}
use Rattle.xfs_rename.specs.xfs_scan.declared.evidence.Evidence.{Evidence}
use Rattle.xfs_views.proofs.FilesStay as FilesStay
use Rattle.xfs_views.specs.SameFiles.{HasSameClaims}
use Rattle.xfs_rename.proofs.xfs_made.Candidates.{image_can}
use Rattle.xfs_rename.proofs.xfs_made.Ordered.{files_of_volume_ascend}
use Rattle.xfs_rename.proofs.xfs_made.Protected.{protected_stays}
use Rattle.xfs_names.specs.declared.building.BuiltDirectory.{BuiltDirectory}
use Rattle.xfs_names.specs.declared.records.WantedNames.{WantedNames}
use Rattle.xfs_place.specs.declared.placed.Placed.{Placed}
use Rattle.xfs_views.proofs.Members.{Member, any_member}
use Rattle.xfs_rename.specs.xfs_rebuild.Rebuilds.{Ground}
use Rattle.xfs_rename.specs.xfs_rebuild.declared.names_due.NamesDue.{NamesDue}
use Rattle.xfs_rename.specs.Lost.{lost_due}
use Rattle.xfs_rename.specs.Renames.{old_files}
use Rattle.xfs_rename.specs.xfs_changes.declared.lost_found.Lost.{Lost}
use Rattle.xfs_rename.specs.declared.planning.Renamed.{Renamed}
use Rattle.xfs_rename.specs.xfs_built.Directories.{BuiltRuns, with_runs}
use Rattle.xfs_rename.specs.xfs_request.Slots.{is_bare, own_blocks, state_at}
use Rattle.xfs_rename.specs.xfs_request.declared.seen.SlotSeen.{SlotSeen}
use Rattle.xfs_rename.specs.xfs_made.Handed.{IsKeptOf}
use Rattle.xfs_restored.specs.DueFiles.{due_core, stated_crc}
use Rattle.xfs_restored.specs.Kept.{state_read}
use Rattle.xfs_restored.proofs.Wanted.{one_alone, state_is}
use Rattle.xfs_restored.proofs.Handed.{kept_of_image}
use Rattle.xfs_restored.proofs.Known.{evidence_known}
use Rattle.xfs_views.proofs.Files.{file_sound}
use Rattle.xfs_restored.specs.Relinking.{IsRelinked, built_at, built_of, file_due, file_with_links, with_built}
use Rattle.xfs_restored.proofs.WantedLists.{at_first}

module _ (g : Geometry) (sector : List ℕ) (s : Stamp) (image now : Image) (e : Evidence) (n : NamesDue) (r : Renamed) (is : IsRelinked g sector s image now e n r)
    (ino : ℕ) (safe : Protected (volume_of g) image ino) where
  abbrev v : Volume
  v = volume_of g

  abbrev on : Ground
  on = is.on

  abbrev w : WantedNames
  w = is.is.w

  abbrev built : List BuiltDirectory
  built = is.is.built

  abbrev p : Placed
  p = is.is.placed

  abbrev l : Lost
  l = lost_due g n

  abbrev f : FileRec
  f = safe.file

  abbrev crc : ℕ → ℕ
  crc = stated_crc v now

  of : IsKeptOf v (candidates v image) (candidate_files v image) on.kept
  of = kept_of_image g image e on is.evidence is.ground

  number : f.ino ≡ ino
  number = (file_sound v image ino f safe.reads).keeps.number

  -- it is among what is kept
  pub among : Member f on.kept.files
  among = subst (λ (fs : List FileRec). Member f fs) (sym of.files') (protected_stays g image ino safe)

  kept_ascend : NumbersAscend 0 (numbers_of on.kept.files)
  kept_ascend =
      subst (λ (fs : List FileRec). NumbersAscend 0 (numbers_of fs)) (sym of.files') (files_of_volume_ascend v (candidates v image) (candidate_files v image) (image_can g image))

  -- and it is found by its number
  found : file_at on.kept.files f.ino ≡ Some f
  found = at_first on.kept.files f.ino (f ∷ []) (one_alone 0 f on.kept.files kept_ascend among)

  candidate : Member f.ino (candidate_inodes v image)
  candidate =
      let found = any_member (λ other. other == ino) (candidate_inodes v image) safe.candidate in
      subst (λ (m : ℕ). Member m (candidate_inodes v image)) (eqb-true found.0 ino found.2 ∙ sym number) found.1

  -- its attributes read
  with_attributes : is_bare (state_at on.seen f.ino) ≡ false
  with_attributes =
      ap (λ (slots : List SlotSeen). is_bare (state_at slots f.ino)) (is.ground.seen' ∙ evidence_known g image e is.evidence)
      ∙ ap is_bare (state_is v image f.ino candidate ∙ ap state_read (ap (reads_as v image) number ∙ safe.reads))

  -- the file as it is due, with so many names
  abbrev with_names : ℕ → FileRec
  with_names k = record f { core = due_core (is_bare (state_at on.seen f.ino)) (own_blocks f) k (crc f.ino) f.core }

  same_core : (k : ℕ) → lasting (with_names k).core ≡ lasting f.core
  same_core k = ap (λ (bare : Bool). lasting (due_core bare (own_blocks f) k (crc f.ino) f.core)) with_attributes

  same_bytes : (k : ℕ) → file_bytes v now (with_names k) ≡ file_bytes v now f
  unfolding file_bytes
  same_bytes k = refl

  -- it is no directory
  other_type : type_of f ≡ 4 → ⊥
  other_type same = false≢true (sym safe.no_directory ∙ eq-eqb (type_of f) 4 same)

  -- Each kept file has links; a directory is built only in the place of a directory; slots read as they are due; and the blocks of what is no
  -- directory stay.
  module _ (linked : (x : FileRec) → Member x is.on.kept.files → (k : ℕ) × Member (x.ino, k) is.is.w.links)
      (of_directory : (x : FileRec) (d : BuiltRuns) → Member x is.on.kept.files → built_at (with_runs is.is.built is.is.placed.cuts is.is.placed.runs) x.ino ≡ Some d → type_of x ≡ 4)
      (each : (one : ℕ × ℕ) → Member one is.is.w.links → reads_as (volume_of g) now one.0 ≡ Reads.File (file_due g s now is.on n is.is.w is.is.built is.is.placed one))
      (stay : (x : FileRec) → Member x is.on.kept.files → (type_of x ≡ 4 → ⊥) → HasSameClaims (volume_of g) image now x) where
    not_built : built_at (built_of g s now on n w built p) f.ino ≡ None
    not_built = by_case (built_at (built_of g s now on n w built p) f.ino) refl
      where
        by_case : (o : Option BuiltRuns) → built_at (built_of g s now on n w built p) f.ino ≡ o → built_at (built_of g s now on n w built p) f.ino ≡ None
        by_case None is = is
        by_case (Some d) is = absurd (other_type (of_directory f d among is))

    due_is : (k : ℕ) → file_due g s now on n w built p (f.ino, k) ≡ with_names k
    due_is k =
        ap (λ (o : Option BuiltRuns). with_built v (old_files n w) crc (file_with_links v s l on.seen crc (f.ino, k) (file_at on.kept.files f.ino)) o) not_built
        ∙ ap (λ (o : Option FileRec). file_with_links v s l on.seen crc (f.ino, k) o) found

    kept_with : (k : ℕ) → Member (f.ino, k) w.links → Keeps (volume_of g) image now ino
    kept_with k has = record {
      file = f;
      kept = with_names k;
      reads = safe.reads;
      reads_still = ap (reads_as v now) (sym number) ∙ (each (f.ino, k) has ∙ ap Reads.File (due_is k));
      bytes = same_bytes k ∙ FilesStay.bytes_stay v image now f (stay f among other_type);
      attrs = refl;
      target = refl;
      device = refl;
      core = same_core k;
    }

    pub file_kept : Keeps (volume_of g) image now ino
    file_kept = let one = linked f among in kept_with one.0 one.1
