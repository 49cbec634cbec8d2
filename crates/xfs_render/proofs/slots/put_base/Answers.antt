use Rattle.std.proofs.Common.{◌∙◌, ℕ, ap, refl, sym, subst, lit≤}
use Rattle.std.specs.Prelude.{IsTrue}
use Rattle.xfs_word.specs.Seal.{is_sealed}
use Rattle.xfs_geom.specs.Volumes.{volume_of}
use Rattle.xfs_inodebuild.specs.xfs_inode.Slots.{slot_seal}
use Rattle.xfs_volume.specs.declared.cores.Core.{Core}
use Rattle.xfs_render.specs.declared.wanted_slots.SlotBase.{SlotBase}
use Rattle.xfs_render.specs.Slots.{CanBase, IsBased, forkoff_of}
use Rattle.xfs_render.proofs.slots.put_base.Goals as goal

pub free_slot-requires : goal.free_slot-requires
free_slot-requires c = c.requires.slot

pub fresh_slot-requires-clause-slot : goal.fresh_slot-requires-clause-slot
fresh_slot-requires-clause-slot c = c.requires.slot

pub fresh_slot-requires-clause-fork : goal.fresh_slot-requires-clause-fork
fresh_slot-requires-clause-fork c = lit≤ tt

pub fresh_slot-requires-clause-magic : goal.fresh_slot-requires-clause-magic
fresh_slot-requires-clause-magic c = (subst (λ (b : SlotBase). CanBase (volume_of c.args.g.now) c.args.ino b c.args.slot.now) c.in-Fresh.is c.requires.can).magic

pub fresh_slot-requires-clause-version : goal.fresh_slot-requires-clause-version
fresh_slot-requires-clause-version c = (subst (λ (b : SlotBase). CanBase (volume_of c.args.g.now) c.args.ino b c.args.slot.now) c.in-Fresh.is c.requires.can).version

pub fresh_slot-requires-clause-used : goal.fresh_slot-requires-clause-used
fresh_slot-requires-clause-used c = (subst (λ (b : SlotBase). CanBase (volume_of c.args.g.now) c.args.ino b c.args.slot.now) c.in-Fresh.is c.requires.can).used

pub fresh_slot-requires-clause-uuid : goal.fresh_slot-requires-clause-uuid
fresh_slot-requires-clause-uuid c = (subst (λ (b : SlotBase). CanBase (volume_of c.args.g.now) c.args.ino b c.args.slot.now) c.in-Fresh.is c.requires.can).uuid

pub fresh_slot-requires-clause-lsn : goal.fresh_slot-requires-clause-lsn
fresh_slot-requires-clause-lsn c = (subst (λ (b : SlotBase). CanBase (volume_of c.args.g.now) c.args.ino b c.args.slot.now) c.in-Fresh.is c.requires.can).lsn

pub fresh_slot-requires-clause-no_attributes : goal.fresh_slot-requires-clause-no_attributes
fresh_slot-requires-clause-no_attributes c = (subst (λ (b : SlotBase). CanBase (volume_of c.args.g.now) c.args.ino b c.args.slot.now) c.in-Fresh.is c.requires.can).no_attributes

pub fresh_slot-requires-clause-data : goal.fresh_slot-requires-clause-data
fresh_slot-requires-clause-data c = (subst (λ (b : SlotBase). CanBase (volume_of c.args.g.now) c.args.ino b c.args.slot.now) c.in-Fresh.is c.requires.can).plain_data

pub fresh_slot-requires-clause-plain : goal.fresh_slot-requires-clause-plain
fresh_slot-requires-clause-plain c = (subst (λ (b : SlotBase). CanBase (volume_of c.args.g.now) c.args.ino b c.args.slot.now) c.in-Fresh.is c.requires.can).plain

pub returns-in-Kept : goal.returns-in-Kept
returns-in-Kept c =
    let v = volume_of c.args.g.now in
    let old = c.args.slot.now in
    let new = old in
    let made = c.args.stamp.now.generation in
    let is = c.in-Kept.is in
    record {
      based = subst (λ (b : SlotBase). IsBased v made c.args.ino b old new) (sym is) refl;
      sealed = subst (λ (b : SlotBase). CanBase v c.args.ino b old) is c.requires.can;
      forkoff = sym (ap (λ (b : SlotBase). forkoff_of b old) is);
    }

pub returns-in-Free : goal.returns-in-Free
returns-in-Free c =
    let v = volume_of c.args.g.now in
    let old = c.args.slot.now in
    let new = c.free_slot.new.slot in
    let made = c.args.stamp.now.generation in
    let is = c.in-Free.is in
    record {
      based = subst (λ (b : SlotBase). IsBased v made c.args.ino b old new) (sym is) (record {
        read = c.free_slot.ensures.read;
        stated = c.free_slot.ensures.stated;
        zero_behind_format = c.free_slot.ensures.zero_behind_format;
        zero_before_times = c.free_slot.ensures.zero_before_times;
        zero_before_flags = c.free_slot.ensures.zero_before_flags;
        zero_before_crtime = c.free_slot.ensures.zero_before_crtime;
        zero_forks = c.free_slot.ensures.zero_forks;
      });
      sealed = c.free_slot.ensures.sealed;
      forkoff = ap (λ (core : Core). core.forkoff) c.free_slot.ensures.stated ∙ sym (ap (λ (b : SlotBase). forkoff_of b old) is);
    }

pub returns-in-Fresh : goal.returns-in-Fresh
returns-in-Fresh c =
    let v = volume_of c.args.g.now in
    let old = c.args.slot.now in
    let new = c.fresh_slot.new.slot in
    let made = c.args.stamp.now.generation in
    let is = c.in-Fresh.is in
    let can = (subst (λ (b : SlotBase). CanBase (volume_of c.args.g.now) c.args.ino b c.args.slot.now) c.in-Fresh.is c.requires.can) in
    record {
      based = subst (λ (b : SlotBase). IsBased v made c.args.ino b old new) (sym is) (record {
        read = c.fresh_slot.ensures.read;
        stated = c.fresh_slot.ensures.stated;
        zero_behind_format = c.fresh_slot.ensures.zero_behind_format;
        zero_before_times = c.fresh_slot.ensures.zero_before_times;
        zero_before_flags = c.fresh_slot.ensures.zero_before_flags;
        zero_before_crtime = c.fresh_slot.ensures.zero_before_crtime;
        zero_forks = c.fresh_slot.ensures.zero_behind_fork;
      });
      sealed = subst (λ (n : ℕ). IsTrue (is_sealed (slot_seal v n) new)) can.number c.fresh_slot.ensures.sealed;
      forkoff = ap (λ (core : Core). core.forkoff) c.fresh_slot.ensures.stated ∙ can.no_attributes ∙ sym (ap (λ (b : SlotBase). forkoff_of b old) is);
    }
