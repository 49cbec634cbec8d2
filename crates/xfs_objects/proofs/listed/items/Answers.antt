use Rattle.std.proofs.Common.{◌≡◌, length, subst}
use Rattle.xfs_objects.specs.Items.{items_of}
use Rattle.xfs_objects.specs.Objects.{object_size}
use Rattle.xfs_objects.specs.declared.objects.ObjectType.{ObjectType}
use Rattle.xfs_objects.proofs.listed.items.Goals as goal

pub returns-in-Sb : goal.returns-in-Sb
unfolding items_of
returns-in-Sb c = record { items = rw (c.in-Sb.is) c.super_items.ensures.items; inside = rw (c.in-Sb.is) c.super_items.ensures.inside }

pub returns-in-Agf : goal.returns-in-Agf
unfolding items_of
returns-in-Agf c = record { items = rw (c.in-Agf.is) c.free_head_items.ensures.items; inside = rw (c.in-Agf.is) c.free_head_items.ensures.inside }

pub returns-in-Agi : goal.returns-in-Agi
unfolding items_of
returns-in-Agi c = record { items = rw (c.in-Agi.is) c.inode_head_items.ensures.items; inside = rw (c.in-Agi.is) c.inode_head_items.ensures.inside }

pub returns-in-Agfl : goal.returns-in-Agfl
unfolding items_of
returns-in-Agfl c = record { items = rw (c.in-Agfl.is) c.free_list_items.ensures.items; inside = rw (c.in-Agfl.is) c.free_list_items.ensures.inside }

pub start_items-requires : goal.start_items-requires
start_items-requires c = subst (λ (kind : ObjectType). length c.args.object.now ≡ object_size kind) c.in-Bnobt.is c.requires

pub returns-in-Bnobt : goal.returns-in-Bnobt
unfolding items_of
returns-in-Bnobt c = record { items = rw (c.in-Bnobt.is) c.start_items.ensures.items; inside = rw (c.in-Bnobt.is) c.start_items.ensures.inside }

pub length_items-requires : goal.length_items-requires
length_items-requires c = subst (λ (kind : ObjectType). length c.args.object.now ≡ object_size kind) c.in-Cntbt.is c.requires

pub returns-in-Cntbt : goal.returns-in-Cntbt
unfolding items_of
returns-in-Cntbt c = record { items = rw (c.in-Cntbt.is) c.length_items.ensures.items; inside = rw (c.in-Cntbt.is) c.length_items.ensures.inside }

pub chunk_items-requires : goal.chunk_items-requires
chunk_items-requires c = subst (λ (kind : ObjectType). length c.args.object.now ≡ object_size kind) c.in-Inobt.is c.requires

pub returns-in-Inobt : goal.returns-in-Inobt
unfolding items_of
returns-in-Inobt c = record { items = rw (c.in-Inobt.is) c.chunk_items.ensures.items; inside = rw (c.in-Inobt.is) c.chunk_items.ensures.inside }

pub free_chunk_items-requires : goal.free_chunk_items-requires
free_chunk_items-requires c = subst (λ (kind : ObjectType). length c.args.object.now ≡ object_size kind) c.in-Finobt.is c.requires

pub returns-in-Finobt : goal.returns-in-Finobt
unfolding items_of
returns-in-Finobt c = record { items = rw (c.in-Finobt.is) c.free_chunk_items.ensures.items; inside = rw (c.in-Finobt.is) c.free_chunk_items.ensures.inside }

pub owner_items-requires : goal.owner_items-requires
owner_items-requires c = subst (λ (kind : ObjectType). length c.args.object.now ≡ object_size kind) c.in-Rmapbt.is c.requires

pub returns-in-Rmapbt : goal.returns-in-Rmapbt
unfolding items_of
returns-in-Rmapbt c = record { items = rw (c.in-Rmapbt.is) c.owner_items.ensures.items; inside = rw (c.in-Rmapbt.is) c.owner_items.ensures.inside }

pub extent_items-requires : goal.extent_items-requires
extent_items-requires c = subst (λ (kind : ObjectType). length c.args.object.now ≡ object_size kind) c.in-Bmapbt.is c.requires

pub returns-in-Bmapbt : goal.returns-in-Bmapbt
unfolding items_of
returns-in-Bmapbt c = record { items = rw (c.in-Bmapbt.is) c.extent_items.ensures.items; inside = rw (c.in-Bmapbt.is) c.extent_items.ensures.inside }

pub returns-in-Inode : goal.returns-in-Inode
unfolding items_of
returns-in-Inode c = record { items = rw (c.in-Inode.is) c.inode_items.ensures.items; inside = rw (c.in-Inode.is) c.inode_items.ensures.inside }
