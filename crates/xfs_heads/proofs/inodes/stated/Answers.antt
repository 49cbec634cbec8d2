use Rattle.std.proofs.Common.{◌∙◌}
use Rattle.xfs_heads.proofs.inodes.stated.Goals as goal

pub returns : goal.returns
returns c = λ i. record {
  magicnum = c.get32.ensures i;
  versionnum = c.get32-2.ensures i;
  seqno = c.get32-3.ensures i;
  length = c.get32-4.ensures i;
  count = c.get32-5.ensures i;
  root = c.get32-6.ensures i;
  level = c.get32-7.ensures i;
  freecount = c.get32-8.ensures i;
  newino = c.get32-9.ensures i;
  dirino = c.get32-10.ensures i;
  unlinked = c.read_all.ensures i;
  uuid = (c.copy_from_slice.ensures.after ∙ c.part.ensures.value) i;
  crc = c.stored_checksum.ensures i;
  lsn = c.get64.ensures i;
  free_root = c.get32-11.ensures i;
  free_level = c.get32-12.ensures i;
}
