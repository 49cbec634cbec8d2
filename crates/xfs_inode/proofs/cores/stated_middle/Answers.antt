use Rattle.std.proofs.Common.{ℕ, ◌+◌, ◌≤◌, lit≤, sym, subst}
use Rattle.xfs_inode.proofs.cores.stated_middle.Goals as goal

pub returns : goal.returns
returns c = λ i.
    record {
      atime = c.get64.ensures i;
      mtime = c.get64-2.ensures i;
      ctime = c.get64-3.ensures i;
      size = c.get64-4.ensures i;
      nblocks = c.get64-5.ensures i;
      extsize = c.get32.ensures i;
      nextents = c.get32-2.ensures i;
      anextents = c.get16.ensures i;
      forkoff = c.get8.ensures i;
      aformat = c.get8-2.ensures i;
    }

pub get64-requires : goal.get64-requires
get64-requires c = subst (λ (n : ℕ). 32 + 8 ≤ n) (sym c.requires) (lit≤ tt)

pub get64-requires-2 : goal.get64-requires-2
get64-requires-2 c = subst (λ (n : ℕ). 40 + 8 ≤ n) (sym c.requires) (lit≤ tt)

pub get64-requires-3 : goal.get64-requires-3
get64-requires-3 c = subst (λ (n : ℕ). 48 + 8 ≤ n) (sym c.requires) (lit≤ tt)

pub get64-requires-4 : goal.get64-requires-4
get64-requires-4 c = subst (λ (n : ℕ). 56 + 8 ≤ n) (sym c.requires) (lit≤ tt)

pub get64-requires-5 : goal.get64-requires-5
get64-requires-5 c = subst (λ (n : ℕ). 64 + 8 ≤ n) (sym c.requires) (lit≤ tt)

pub get32-requires : goal.get32-requires
get32-requires c = subst (λ (n : ℕ). 72 + 4 ≤ n) (sym c.requires) (lit≤ tt)

pub get32-requires-2 : goal.get32-requires-2
get32-requires-2 c = subst (λ (n : ℕ). 76 + 4 ≤ n) (sym c.requires) (lit≤ tt)

pub get16-requires : goal.get16-requires
get16-requires c = subst (λ (n : ℕ). 80 + 2 ≤ n) (sym c.requires) (lit≤ tt)

pub get8-requires : goal.get8-requires
get8-requires c = subst (λ (n : ℕ). 82 + 1 ≤ n) (sym c.requires) (lit≤ tt)

pub get8-requires-2 : goal.get8-requires-2
get8-requires-2 c = subst (λ (n : ℕ). 83 + 1 ≤ n) (sym c.requires) (lit≤ tt)
