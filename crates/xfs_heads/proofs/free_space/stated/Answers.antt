use Rattle.std.proofs.Common.{◌∙◌}
use Rattle.xfs_heads.proofs.free_space.stated.Goals as goal

pub returns : goal.returns
returns c = λ i. record {
  magicnum = c.get32.ensures i;
  versionnum = c.get32-2.ensures i;
  seqno = c.get32-3.ensures i;
  length = c.get32-4.ensures i;
  bnoroot = c.get32-5.ensures i;
  cntroot = c.get32-6.ensures i;
  rmaproot = c.get32-7.ensures i;
  bnolevel = c.get32-8.ensures i;
  cntlevel = c.get32-9.ensures i;
  rmaplevel = c.get32-10.ensures i;
  flfirst = c.get32-11.ensures i;
  fllast = c.get32-12.ensures i;
  flcount = c.get32-13.ensures i;
  freeblks = c.get32-14.ensures i;
  longest = c.get32-15.ensures i;
  btreeblks = c.get32-16.ensures i;
  uuid = (c.copy_from_slice.ensures.after ∙ c.part.ensures.value) i;
  rmapblocks = c.get32-17.ensures i;
  lsn = c.get64.ensures i;
  crc = c.stored_checksum.ensures i;
}
