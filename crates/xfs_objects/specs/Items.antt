-- The fields of an object, the entries of its arrays, and of a block of a tree its records, keys and pointers, each
-- with its name, in the order in which they are printed (chapters "Superblocks", "AG Free Space Management", "AG Inode
-- Management", "Common B+trees" and "On-disk Inode"). Names, offsets and forms are those of the tables by which the
-- objects are read and written.
use Rattle.std.specs.Prelude.{ℕ, ◌+◌, ◌*◌, Bool, true, ◌&&◌, ◌==◌, nat_le, min, if◌then◌else◌, codes, bytes_eq, decimal, List, [], ◌++◌, map, Option, Some, None, IsTrue}
use Rattle.std.specs.List.{All, find, range_with_len}
use Rattle.xfs_word.specs.Field.{is_width}
use Rattle.xfs_word.specs.declared.layout.FieldLayout.{FieldLayout}
use Rattle.xfs_word.specs.declared.layout.Form.TheVariants as form
use Rattle.xfs_heads.specs.declared.arrays.ArrayLayout.{ArrayLayout}
use Rattle.xfs_tree.specs.declared.layout.Layout.{Layout}
use Rattle.xfs_tree.specs.Blocks.{level_of, count_of, record_place, key_place, pointer_place}
use Rattle.xfs_tree.specs.Layout.{keys_len, pointer_len}
use Rattle.xfs_kinds.specs.FileTrees.{file_layout}
use Rattle.xfs_kinds.specs.FreeTrees.{free_layout}
use Rattle.xfs_kinds.specs.InodeTrees.{inode_layout}
use Rattle.xfs_kinds.specs.OwnerTrees.{owner_layout}
use Rattle.xfs_objects.specs.declared.items.ItemShape.{ItemShape}
use Rattle.xfs_objects.specs.declared.items.ItemShape.TheVariants.{Field, Pointer, Numbers}
use Rattle.xfs_objects.specs.declared.items.PrintedRow.{PrintedRow}
use Rattle.xfs_objects.specs.declared.items.PrintedRow.TheVariants.{Span, Chunk, ChunkStart, Owner, OwnerKeys, FileExtent, FileOffset}
use Rattle.xfs_objects.specs.declared.items.ItemRun.{ItemRun}
use Rattle.xfs_objects.specs.declared.items.Item as code
use Rattle.xfs_objects.specs.Tables.{Item, super_fields, agf_fields, agi_front, agi_back, agfl_fields, short_fields, long_fields, inode_aliases, inode_fields}
use Rattle.xfs_objects.specs.declared.objects.ObjectType.{ObjectType}
use Rattle.xfs_objects.specs.declared.objects.ObjectType.TheVariants.{Sb, Agf, Agi, Agfl, Bnobt, Cntbt, Inobt, Finobt, Rmapbt, Bmapbt, Inode, Data}

-- a name with an index
abbrev pub indexed : List ℕ → ℕ → List ℕ
indexed name i = name ++ codes "[" ++ decimal i ++ codes "]"

abbrev pub item_name : List ℕ → Option ℕ → List ℕ
item_name name None = name
item_name name (Some i) = indexed name i

-- an item of the code
abbrev pub item_of : code.Item → Item
item_of i = record { name = item_name i.name.now i.index; offset = i.offset; shape = i.shape }

-- a field of a table
abbrev pub field_item : FieldLayout → Item
field_item f = record { name = f.name.now; offset = f.offset; shape = Field f.width f.form }

-- so many items one after the other, whose indexes begin at the first
unfoldable pub row_items : List ℕ → ℕ → ℕ → ℕ → ℕ → ItemShape → List Item
row_items name first count offset step shape =
    map (λ (i : ℕ). record { name = indexed name (first + i); offset = offset + i * step; shape = shape }) (range_with_len 0 count)

-- a run of the code
abbrev pub run_items : ItemRun → List Item
run_items r = row_items r.name.now r.first r.count r.offset r.step r.shape

abbrev pub array_items : ArrayLayout → List Item
array_items a = row_items a.name.now 0 a.count a.offset 4 (Field 4 a.form)

-- the records of a leaf: as many as the block says, at most its capacity
abbrev pub record_items : Layout → PrintedRow → List ℕ → List Item
record_items l row block = row_items (codes "recs") 1 (min (count_of block) l.leaf_cap) (record_place l 0) l.record_len (Numbers row)

-- the keys and the pointers of a node
abbrev pub child_items : Layout → PrintedRow → List ℕ → List Item
child_items l row block =
    row_items (codes "keys") 1 (min (count_of block) l.node_cap) (key_place l 0) (keys_len l) (Numbers row)
    ++ row_items (codes "ptrs") 1 (min (count_of block) l.node_cap) (pointer_place l 0) (pointer_len l) (Pointer (pointer_len l))

-- a block whose level is 0 is a leaf
unfoldable pub tree_items : Layout → PrintedRow → PrintedRow → List ℕ → List Item
tree_items l leaf_row node_row block = if level_of block == 0 then record_items l leaf_row block else child_items l node_row block

abbrev pub block_items : List Item → Layout → PrintedRow → PrintedRow → List ℕ → List Item
block_items fields l leaf_row node_row block = fields ++ tree_items l leaf_row node_row block

-- 64 chains of unlinked inodes
unfoldable pub agi_items : List Item
agi_items = agi_front ++ row_items (codes "unlinked") 0 64 40 4 (Field 4 form.Decimal) ++ agi_back

-- 119 entries
unfoldable pub agfl_items : List Item
agfl_items = agfl_fields ++ row_items (codes "bno") 0 119 36 4 (Field 4 form.Decimal)

-- everything in an object that has a name
unfoldable pub items_of : ObjectType → List ℕ → List Item
items_of Sb object = super_fields
items_of Agf object = agf_fields
items_of Agi object = agi_items
items_of Agfl object = agfl_items
items_of Bnobt object = block_items short_fields (free_layout 0x4142_3342) Span Span object
items_of Cntbt object = block_items short_fields (free_layout 0x4142_3343) Span Span object
items_of Inobt object = block_items short_fields (inode_layout 0x4941_4233) Chunk ChunkStart object
items_of Finobt object = block_items short_fields (inode_layout 0x4649_4233) Chunk ChunkStart object
items_of Rmapbt object = block_items short_fields owner_layout Owner OwnerKeys object
items_of Bmapbt object = block_items long_fields file_layout FileExtent FileOffset object
items_of Inode object = inode_fields
items_of Data object = []

-- the bytes of a row of numbers
abbrev pub row_len : PrintedRow → ℕ
row_len Span = 8
row_len Chunk = 16
row_len ChunkStart = 4
row_len Owner = 24
row_len OwnerKeys = 40
row_len FileExtent = 16
row_len FileOffset = 8

-- the bytes of what is shown so
abbrev pub shape_len : ItemShape → ℕ
shape_len (Field width form) = width
shape_len (Pointer width) = width
shape_len (Numbers row) = row_len row

-- a field has a width that its form can show
abbrev pub is_shown : ItemShape → Bool
is_shown (Field width form.Identifier) = width == 16
is_shown (Field width form.Checksum) = width == 4
is_shown (Field width form.Text) = true
is_shown (Field width other) = is_width width
is_shown (Pointer width) = is_width width
is_shown (Numbers row) = true

-- the item lies in an object of so many bytes, and can be shown
abbrev pub is_inside : ℕ → Item → Bool
is_inside size item = nat_le (item.offset + shape_len item.shape) size && is_shown item.shape

-- each of the code's items does
abbrev pub AllInside : ℕ → List code.Item → Type 0
AllInside size items = All (λ (i : code.Item). IsTrue (is_inside size (item_of i))) items

-- what has another name, under which xfs_db of xfsprogs knows it; it is not printed where all of an object is
abbrev pub aliases_of : ObjectType → List Item
aliases_of Inode = inode_aliases
aliases_of other = []

-- what a word names in an object, under either name
unfoldable pub item_named : ObjectType → List ℕ → List ℕ → Option Item
item_named kind object word = find (λ i. bytes_eq i.name word) (items_of kind object ++ aliases_of kind)

-- the bytes of a number, where the item holds one that can be set
abbrev pub number_width : ItemShape → Option ℕ
number_width (Field width form.Decimal) = Some width
number_width (Field width form.Hexadecimal) = Some width
number_width (Field width other) = None
number_width (Pointer width) = Some width
number_width (Numbers row) = None
