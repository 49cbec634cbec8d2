-- What is wanted of the slot of a directory that is built anew: its fork, beside what was wanted before; and the file that it then has is the one
-- that was built.
use Rattle.std.proofs.Common.{◌≡◌, ℕ, Bool, true, false, ◌≤◌, ◌==◌, ◌||◌, if◌then◌else◌, List, [], length, map, Option, Some, None, is_some, refl, ap, ◌∙◌}
use Rattle.std.specs.List.{Contains}
use Rattle.std.proofs.lemmas.Bool.{ne_eqb, or_right}
use Rattle.xfs_disk.specs.Blocks.{Image}
use Rattle.xfs_disk.specs.declared.stamp.Stamp.{Stamp}
use Rattle.xfs_word.specs.Field.{part_of}
use Rattle.xfs_geom.specs.Features.{or_else}
use Rattle.xfs_geom.specs.Volumes.{Volume}
use Rattle.xfs_volume.specs.declared.cores.Core.{Core}
use Rattle.xfs_volume.specs.declared.files.FileRec.{FileRec}
use Rattle.xfs_image.specs.Slots.{slot_bytes}
use Rattle.xfs_inode.specs.Files.{no_attrs}
use Rattle.xfs_inodebuild.specs.declared.forks.ForkWanted.{ForkWanted}
use Rattle.xfs_views.proofs.Members.{contained}
use Rattle.xfs_render.specs.Slots.{wanted_of}
use Rattle.xfs_render.specs.declared.wanted_slots.SlotBase.{SlotBase}
use Rattle.xfs_render.specs.declared.wanted_slots.SlotBase.TheVariants.{Fresh}
use Rattle.xfs_render.specs.declared.wanted_slots.SlotWanted.{SlotWanted}
use Rattle.xfs_rename.specs.xfs_built.Extents.{extent_of_run}
use Rattle.xfs_rename.specs.xfs_changes.Forks.{extents_fork, short_fork}
use Rattle.xfs_rename.specs.xfs_changes.Slots.{base_made, changed, changed_alone, changes_of, fork_at, links_held_at, links_set, lost_core, with_changes}
use Rattle.xfs_rename.specs.xfs_changes.declared.changes.SlotChange.{SlotChange}
use Rattle.xfs_rename.specs.xfs_changes.declared.forks.DirectoryFork.{DirectoryFork}
use Rattle.xfs_rename.specs.xfs_changes.declared.lost_found.Lost.{Lost}
use Rattle.xfs_restored.specs.Changes.{LinksAscend, SlotsAscend, change_if, directory_change, first_change, with_change}
use Rattle.xfs_rename.specs.xfs_built.Directories.{BuiltRuns, IsFileOf, IsShortFileOf}
use Rattle.xfs_restored.specs.Reading.{directory_file, kept_directory_slot, made_core, rebuilt_file}
use Rattle.xfs_restored.proofs.Changing.{changes_wanted}
use Rattle.xfs_restored.proofs.Links.{changes_ascend, file_change}

module _ (v : Volume) (s : Stamp) (l : Lost) (files : List FileRec) (forks : List DirectoryFork) (links : List (ℕ × ℕ)) (slots : List SlotWanted)
    (few : length l.added ≤ 1) (ascend : LinksAscend l 0 links) (rise : SlotsAscend 0 slots) (p : ℕ × ℕ) (fork : ForkWanted) (is : Contains links p) (found : fork_at forks p.0 ≡ Some fork) where
  abbrev base : Option SlotBase
  base = base_made v s l p.0

  abbrev named : Option ℕ
  named = links_set (links_held_at files p.0) p.1

  change_found : first_change (changes_of v s l files forks links) p.0 ≡ Some (directory_change v s l files fork p)
  change_found =
      file_change v s l files forks few links 0 p ascend (contained p links is)
      ∙ (ap (λ (f : Option ForkWanted). let c : SlotChange = record { ino = p.0; base = base; fork = f; nlink = named } in change_if (is_some base || (is_some f || is_some named)) c) found
      ∙ ap (λ (t : Bool). change_if t (directory_change v s l files fork p)) (or_right (is_some base) (true || is_some named) refl))

  pub directory_wanted : wanted_of (with_changes (changes_of v s l files forks links) slots) p.0 ≡ with_change (Some (directory_change v s l files fork p)) (wanted_of slots p.0)
  directory_wanted =
      changes_wanted p.0 (changes_of v s l files forks links) 0 (changes_ascend v s l files forks few links 0 ascend) slots 0 rise
      ∙ ap (λ (c : Option SlotChange). with_change c (wanted_of slots p.0)) change_found

  no_base : (l.new ≡ p.0 → ⊥) → base ≡ None
  no_base other = by_made l.made
    where
      by_made : (t : Bool) → (if t then (if l.new == p.0 then Some (Fresh (lost_core v s p.0)) else None) else None) ≡ None
      by_made true = ap (λ (u : Bool). if u then Some (Fresh (lost_core v s p.0)) else None) (ne_eqb l.new p.0 other)
      by_made false = refl

  -- a directory that is kept, of whose slot nothing was wanted, or other things
  pub kept_wanted : (l.new ≡ p.0 → ⊥) → wanted_of slots p.0 ≡ None → wanted_of (with_changes (changes_of v s l files forks links) slots) p.0 ≡ Some (kept_directory_slot p.0 None fork named)
  kept_wanted other none =
      directory_wanted
      ∙ (ap (with_change (Some (directory_change v s l files fork p))) none
      ∙ ap (λ (o : Option SlotBase). let c : SlotChange = record { ino = p.0; base = o; fork = Some fork; nlink = named } in Some (changed_alone c)) (no_base other))

  pub more_wanted : (l.new ≡ p.0 → ⊥) → (w : SlotWanted) → wanted_of slots p.0 ≡ Some w
      → wanted_of (with_changes (changes_of v s l files forks links) slots) p.0
      ≡ Some (record { ino = w.ino; base = w.base; drop_attrs = w.drop_attrs; fork = Some fork; nlink = or_else named w.nlink })
  more_wanted other w some =
      directory_wanted
      ∙ (ap (with_change (Some (directory_change v s l files fork p))) some
      ∙ ap (λ (o : Option SlotBase). let c : SlotChange = record { ino = p.0; base = o; fork = Some fork; nlink = named } in Some (changed c w)) (no_base other))

-- the files that slots read as are those that were built
pub rebuilt_is : (v : Volume) (d : BuiltRuns) (f : FileRec) (drop nlink : Option ℕ) (attributes crc : ℕ) → f.ino ≡ d.directory.ino
    → IsFileOf v d.directory d.runs (rebuilt_file f drop (extents_fork v attributes d.runs d.directory) (map (extent_of_run v) d.runs) nlink crc)
rebuilt_is v d f drop None attributes crc number = record { ino' = number; format' = refl; size' = refl; extents' = refl }
rebuilt_is v d f drop (Some n) attributes crc number = record { ino' = number; format' = refl; size' = refl; extents' = refl }

pub rebuilt_short_is : (v : Volume) (image : Image) (d : BuiltRuns) (f : FileRec) (drop nlink : Option ℕ) (attributes crc : ℕ) → f.ino ≡ d.directory.ino
    → part_of (slot_bytes v image f.ino) 176 (length d.directory.image.short.items) ≡ d.directory.image.short.items
    → IsShortFileOf v image d.directory (rebuilt_file f drop (short_fork attributes d.directory) [] nlink crc)
rebuilt_short_is v image d f drop None attributes crc number bytes = record { ino' = number; format' = refl; bytes' = bytes }
rebuilt_short_is v image d f drop (Some n) attributes crc number bytes = record { ino' = number; format' = refl; bytes' = bytes }

pub fresh_is : (v : Volume) (d : BuiltRuns) (core : Core) (nlink crc : ℕ) → core.ino ≡ d.directory.ino
    → IsFileOf v d.directory d.runs (directory_file core.ino (made_core core (extents_fork v 0 d.runs d.directory) nlink crc) (map (extent_of_run v) d.runs) no_attrs)
fresh_is v d core nlink crc number = record { ino' = number; format' = refl; size' = refl; extents' = refl }

pub fresh_short_is : (v : Volume) (image : Image) (d : BuiltRuns) (core : Core) (nlink crc : ℕ) → core.ino ≡ d.directory.ino
    → part_of (slot_bytes v image core.ino) 176 (length d.directory.image.short.items) ≡ d.directory.image.short.items
    → IsShortFileOf v image d.directory (directory_file core.ino (made_core core (short_fork 0 d.directory) nlink crc) [] no_attrs)
fresh_short_is v image d core nlink crc number bytes = record { ino' = number; format' = refl; bytes' = bytes }
