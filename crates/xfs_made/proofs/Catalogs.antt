-- What an image says is the catalog of its parts.
use Rattle.std.proofs.Common.{◌≡◌, ℕ, List, [], ◌∷◌, map, Ok, refl, ap, ◌∙◌}
use Rattle.std.specs.List.{All}
use Rattle.std.proofs.lemmas.List.Elements.{All-head, All-tail}
use Rattle.xfs_disk.specs.Blocks.{Image}
use Rattle.xfs_dirdata.specs.declared.records.EntryRec.{EntryRec}
use Rattle.xfs_geom.specs.Volumes.{volume_of}
use Rattle.xfs_geom.specs.declared.geometry.Geometry.{Geometry}
use Rattle.xfs_geom.specs.declared.records.Counts.{Counts}
use Rattle.xfs_log.specs.xfs_heads.declared.log_state.LogState.{LogState}
use Rattle.xfs_volume.specs.declared.catalogs.BlockLsn.{BlockLsn}
use Rattle.xfs_volume.specs.declared.catalogs.Catalog.{Catalog}
use Rattle.xfs_volume.specs.declared.directories.DirRec.{DirRec}
use Rattle.xfs_volume.specs.declared.files.FileRec.{FileRec}
use Rattle.xfs_volume.specs.declared.groups.GroupRec.{GroupRec}
use Rattle.xfs_image.specs.Directories.{dirs_read, entries_read}
use Rattle.xfs_image.specs.Files.{files_read}
use Rattle.xfs_image.specs.Groups.{groups_read}
use Rattle.xfs_image.specs.Lsns.{LsnPlace, lsn_at, lsns_read}
use Rattle.xfs_image.specs.View.{catalog_of, counts_of, if_read, log_of, view}
use Rattle.xfs_made.specs.Volumes.{no_lsn}

-- places at which nothing stands read so
pub no_lsns : (image : Image) (places : List LsnPlace) → All (λ (p : LsnPlace). (lsn_at image p).lsn ≡ 0) places → map (lsn_at image) places ≡ map no_lsn places
no_lsns image [] none = refl
no_lsns image (p ∷ ps) none =
    let here : lsn_at image p ≡ no_lsn p =
    ap (λ (n : ℕ). record { block = p.block; lsn = n }) (All-head (λ (o : LsnPlace). (lsn_at image o).lsn ≡ 0) p ps none) in
    ap (λ (l : BlockLsn). l ∷ map (lsn_at image) ps) here
    ∙ ap (λ (ls : List BlockLsn). no_lsn p ∷ ls) (no_lsns image ps (All-tail (λ (o : LsnPlace). (lsn_at image o).lsn ≡ 0) p ps none))

-- a catalog by its parts
abbrev pub catalog : Geometry → List GroupRec → List FileRec → List EntryRec → List DirRec → Counts → LogState → List BlockLsn → Catalog
catalog g groups files entries dirs counts log lsns =
    record { geometry = g; groups = groups; files = files; entries = entries; dirs = dirs; counts = counts; log = log; lsns = lsns }

-- what reads is the catalog of these parts
pub reads_as : (g : Geometry) (image : Image) (groups : List GroupRec) (files : List FileRec) (entries : List EntryRec) (dirs : List DirRec) (counts : Counts) (log : LogState)
    (lsns : List BlockLsn) → groups_read (volume_of g) image ≡ Ok groups → files_read (volume_of g) image groups ≡ Ok files
    → entries_read (volume_of g) image files ≡ entries → dirs_read (volume_of g) image files ≡ dirs → counts_of image ≡ counts → log_of (volume_of g) image ≡ log
    → lsns_read (volume_of g) image groups files ≡ lsns → view g image ≡ Ok (catalog g groups files entries dirs counts log lsns)
unfolding view
reads_as g image groups files entries dirs counts log lsns groups_are files_are entries_are dirs_are counts_are log_is lsns_are =
    let v = volume_of g in
    ap (λ r. if_read r (λ (gs : List GroupRec). if_read (files_read v image gs) (λ (fs : List FileRec). Ok (catalog_of g image gs fs)))) groups_are
    ∙ ap (λ r. if_read r (λ (fs : List FileRec). Ok (catalog_of g image groups fs))) files_are
    ∙ ap (λ es. Ok (catalog g groups files es (dirs_read v image files) (counts_of image) (log_of v image) (lsns_read v image groups files))) entries_are
    ∙ ap (λ ds. Ok (catalog g groups files entries ds (counts_of image) (log_of v image) (lsns_read v image groups files))) dirs_are
    ∙ ap (λ cs. Ok (catalog g groups files entries dirs cs (log_of v image) (lsns_read v image groups files))) counts_are
    ∙ ap (λ l. Ok (catalog g groups files entries dirs counts l (lsns_read v image groups files))) log_is
    ∙ ap (λ ls. Ok (catalog g groups files entries dirs counts log ls)) lsns_are
