-- The blocks of directories, of symbolic links and of the data of files (chapters "Directories" and "Symbolic Links").
use Rattle.std.specs.Prelude.{◌≡◌, ℕ, ◌*◌, ◌<◌, if◌then◌else◌, IsTrue, List, [], ◌∷◌, ◌++◌, length, map, take, drop, slice_index_or, Some}
use Rattle.std.specs.List.{flat_map, range_with_len, sum_by}
use Rattle.xfs_disk.specs.Blocks.{Image, bytes_of_block}
use Rattle.xfs_word.specs.Field.{field_of, SameBeside}
use Rattle.xfs_word.specs.Seal.{has_magic, is_sealed, layout_of}
use Rattle.xfs_word.specs.declared.kinds.Seal.{Seal}
use Rattle.xfs_word.specs.declared.kinds.SealKind.{SealKind}
use Rattle.xfs_word.specs.declared.kinds.SealKind.TheVariants as Sealed
use Rattle.xfs_geom.specs.Volumes.{Volume}
use Rattle.xfs_geom.specs.declared.records.Run.{Run}
use Rattle.xfs_kinds.specs.OffsetWords.{is_unwritten}
use Rattle.xfs_place.specs.declared.placed.Placed.{Placed}
use Rattle.xfs_place.specs.declared.wanted.Object.{Object}
use Rattle.xfs_place.specs.declared.wanted.ObjectKind.{ObjectKind}
use Rattle.xfs_place.specs.declared.wanted.ObjectKind.TheVariants as kinds
use Rattle.xfs_place.specs.declared.wanted.RunAsk.{RunAsk}
use Rattle.xfs_place.specs.declared.wanted.Wanted.{Wanted}
use Rattle.xfs_render.specs.Drafts.{Adds, AddsBlock, HoldsDraft}
use Rattle.xfs_render.specs.declared.draft.Draft.{Draft}
use Rattle.xfs_render.specs.declared.object_blocks.ObjectAsk.{ObjectAsk}
use Rattle.xfs_render.specs.declared.object_blocks.ObjectBlock.{ObjectBlock}

-- the runs that an object asks for, with what it is; and those of all objects, in order
abbrev pub asks_in : Object → List ObjectAsk
asks_in o = map (λ (ask : RunAsk). record { kind = o.kind; ask = ask }) o.runs

abbrev pub asks_with_kind : List Object → List ObjectAsk
asks_with_kind objects = flat_map asks_in objects

-- the blocks of a run of an object
abbrev pub run_blocks : ObjectKind → ℕ → Run → List ObjectBlock
run_blocks kind owner r = map (λ (place : ℕ). record { kind = kind; owner = owner; place = place }) (range_with_len r.start r.count)

-- the blocks that an ask has in its runs; none are written where it is unwritten
abbrev pub ask_blocks : ObjectAsk → List Run → List ObjectBlock
ask_blocks a runs = if is_unwritten a.ask.offset_word then [] else flat_map (run_blocks a.kind a.ask.owner) runs

-- the blocks of all asks, of which each has as many of the runs as its cut says
unfoldable pub blocks_of_asks : List ObjectAsk → List ℕ → List Run → List ObjectBlock
blocks_of_asks [] cuts runs = []
blocks_of_asks (a ∷ asks) [] runs = []
blocks_of_asks (a ∷ asks) (n ∷ cuts) runs = ask_blocks a (take n runs) ++ blocks_of_asks asks cuts (drop n runs)

-- the blocks of objects that are written, and their places
abbrev pub object_blocks : Wanted → Placed → List ObjectBlock
object_blocks w p = blocks_of_asks (asks_with_kind w.objects) p.cuts p.runs

abbrev pub block_places : List ObjectBlock → List ℕ
block_places blocks = map (λ (at : ObjectBlock). at.place) blocks

abbrev pub object_places : Wanted → Placed → List ℕ
object_places w p = block_places (object_blocks w p)

-- how many blocks are written of asks
abbrev pub written_in : RunAsk → ℕ
written_in ask = if is_unwritten ask.offset_word then 0 else ask.blocks

abbrev pub written_blocks : List RunAsk → ℕ
written_blocks asks = sum_by written_in asks

-- how a block of a directory is sealed: as a data block or as a free block where it has the magic number of one, else as one of an index
abbrev pub directory_kind : List ℕ → SealKind
directory_kind built =
    if has_magic Sealed.DirData built then Sealed.DirData else if has_magic Sealed.DirFree built then Sealed.DirFree else Sealed.Index (field_of built 8 2)

-- for its owner, at its place
abbrev pub object_seal : Volume → SealKind → ObjectBlock → Seal
object_seal v kind at = record { kind = kind; place = 8 * at.place; owner = Some at.owner; uuid = v.uuid }

-- a block as it was built, beside the 44 bytes of its seal, by which it is sealed; it states no log sequence number
pub record IsSealedBlock (seal : Seal) (built block : List ℕ) : Type 0 where
  pub size : length block ≡ 4096
  pub same : SameBeside built block (layout_of seal.kind).checksum 44
  pub lsn : field_of block (layout_of seal.kind).lsn 8 ≡ 0
  pub sealed : IsTrue (has_magic seal.kind built) → IsTrue (is_sealed seal block)

-- the block of an object, made of the bytes that were built for it; data of a file is just these
abbrev pub IsKindBlock : ObjectKind → Volume → ObjectBlock → List ℕ → List ℕ → Type 0
IsKindBlock kinds.Directory v at built block = IsSealedBlock (object_seal v (directory_kind built) at) built block
IsKindBlock kinds.Symlink v at built block = IsSealedBlock (object_seal v Sealed.Symlink at) built block
IsKindBlock kinds.Data v at built block = block ≡ built

abbrev pub IsObjectBlock : Volume → ObjectBlock → List ℕ → List ℕ → Type 0
IsObjectBlock v at built block = IsKindBlock at.kind v at built block

-- the image has the first n of these blocks, made of the blocks of a bank
pub record HasObjects (v : Volume) (blocks : List ObjectBlock) (built : Image) (n : ℕ) (image : Image) : Type 0 where
  pub each : (j : ℕ) (d : ObjectBlock) → j < n
      → IsObjectBlock v (slice_index_or blocks j d) (slice_index_or built j []) (bytes_of_block image (slice_index_or blocks j d).place)

-- a block of an object was put down, made of a block that was built for it
pub record AddsObject (v : Volume) (at : ObjectBlock) (built : List ℕ) (old new : Draft) : Type 0 where
  pub block : List ℕ
  pub due : IsObjectBlock v at built block
  pub adds : AddsBlock old new at.place block

-- the first n of these blocks were put down
pub record AddsObjects (v : Volume) (blocks : List ObjectBlock) (built : Image) (n : ℕ) (old new : Draft) : Type 0 where
  pub adds : Adds old new (block_places (take n blocks)) n
  pub reads : (image : Image) → HoldsDraft image new → HasObjects v blocks built n image
