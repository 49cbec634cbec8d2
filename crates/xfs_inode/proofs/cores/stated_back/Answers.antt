use Rattle.std.proofs.Common.{ℕ, ◌+◌, ◌≤◌, lit≤, sym, subst}
use Rattle.xfs_inode.proofs.cores.stated_back.Goals as goal

pub returns : goal.returns
returns c = λ i.
    record {
      flags = c.get16.ensures i;
      generation = c.get32.ensures i;
      next_unlinked = c.get32-2.ensures i;
      crc = c.stored_checksum.ensures i;
      changecount = c.get64.ensures i;
      lsn = c.get64-2.ensures i;
      flags2 = c.get64-3.ensures i;
      cowextsize = c.get32-3.ensures i;
      crtime = c.get64-4.ensures i;
      ino = c.get64-5.ensures i;
    }

pub get16-requires : goal.get16-requires
get16-requires c = subst (λ (n : ℕ). 90 + 2 ≤ n) (sym c.requires) (lit≤ tt)

pub get32-requires : goal.get32-requires
get32-requires c = subst (λ (n : ℕ). 92 + 4 ≤ n) (sym c.requires) (lit≤ tt)

pub get32-requires-2 : goal.get32-requires-2
get32-requires-2 c = subst (λ (n : ℕ). 96 + 4 ≤ n) (sym c.requires) (lit≤ tt)

pub stored_checksum-requires : goal.stored_checksum-requires
stored_checksum-requires c = subst (λ (n : ℕ). 100 + 4 ≤ n) (sym c.requires) (lit≤ tt)

pub get64-requires : goal.get64-requires
get64-requires c = subst (λ (n : ℕ). 104 + 8 ≤ n) (sym c.requires) (lit≤ tt)

pub get64-requires-2 : goal.get64-requires-2
get64-requires-2 c = subst (λ (n : ℕ). 112 + 8 ≤ n) (sym c.requires) (lit≤ tt)

pub get64-requires-3 : goal.get64-requires-3
get64-requires-3 c = subst (λ (n : ℕ). 120 + 8 ≤ n) (sym c.requires) (lit≤ tt)

pub get32-requires-3 : goal.get32-requires-3
get32-requires-3 c = subst (λ (n : ℕ). 128 + 4 ≤ n) (sym c.requires) (lit≤ tt)

pub get64-requires-4 : goal.get64-requires-4
get64-requires-4 c = subst (λ (n : ℕ). 144 + 8 ≤ n) (sym c.requires) (lit≤ tt)

pub get64-requires-5 : goal.get64-requires-5
get64-requires-5 c = subst (λ (n : ℕ). 152 + 8 ≤ n) (sym c.requires) (lit≤ tt)
