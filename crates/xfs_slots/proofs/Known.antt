-- A slot of which something is known from its bytes alone, as it stands in an image.
use Rattle.std.proofs.Common.{◌≡◌, ℕ, ◌*◌, List, [], ◌∷◌, ◌++◌, map, Some, Result, Ok, Err, OnOk, sym, ap, ◌∙◌}
use Rattle.xfs_word.specs.Field.{part_of}
use Rattle.xfs_disk.specs.Blocks.{Image, bytes_of_block}
use Rattle.xfs_geom.specs.Conversions.{slot_at}
use Rattle.xfs_geom.specs.Volumes.{Volume}
use Rattle.xfs_inode.specs.Named.{slot_reads}
use Rattle.xfs_inode.specs.declared.files.FileRead.{FileRead}
use Rattle.xfs_image.specs.Slots.{bytes_in, reads_as, slot_bytes}
use Rattle.xfs_rounds.specs.Facts.{fact_of}
use Rattle.xfs_rounds.specs.Judged.{slot_of}
use Rattle.xfs_slots.specs.Facts.{slot_fact}
use Rattle.xfs_rounds.specs.declared.facts.SlotFact.{SlotFact}

-- what holds anyway holds where a call ended well
pub ok_anyway : {T E : Type 0} (P : Type 0) (r : Result T E) → P → OnOk r P
ok_anyway P (Ok value) held = held
ok_anyway P (Err fault) held = tt

module _ (v : Volume) (image : Image) (block slot ino : ℕ) (bytes : List ℕ) (place : slot_at v ino ≡ Some (block, slot)) (is : bytes_of_block image block ≡ bytes) where
  -- the bytes of the slot
  pub slot_is : slot_bytes v image ino ≡ slot_of bytes slot
  slot_is = ap (bytes_in image) place ∙ ap (λ (b : List ℕ). part_of b (512 * slot) 512) is

  -- what is kept of it
  pub fact_is : (fact : SlotFact) → fact ≡ fact_of v ino (slot_of bytes slot) → (old new : List SlotFact) → new ≡ old ++ fact ∷ [] → new ≡ old ++ map (slot_fact v image) (ino ∷ [])
  fact_is fact known old new more =
      more ∙ ap (λ (fact : SlotFact). old ++ fact ∷ []) (known ∙ sym (ap (fact_of v ino) slot_is))

  -- what it reads as
  pub read_is : (file : FileRead) → file ≡ slot_reads v image ino (slot_of bytes slot) → file ≡ reads_as v image ino
  unfolding reads_as
  read_is file known = known ∙ ap (slot_reads v image ino) (sym slot_is)
