use Rattle.std.proofs.Common.{ℕ, ◌+◌, ◌≤◌, lit≤, sym, subst}
use Rattle.xfs_inode.proofs.cores.stated_front.Goals as goal

pub returns : goal.returns
returns c = λ i.
    record {
      magic = c.get16.ensures i;
      mode = c.get16-2.ensures i;
      version = c.get8.ensures i;
      format = c.get8-2.ensures i;
      uid = c.get32.ensures i;
      gid = c.get32-2.ensures i;
      nlink = c.get32-3.ensures i;
      projid_lo = c.get16-3.ensures i;
      projid_hi = c.get16-4.ensures i;
    }

pub get16-requires : goal.get16-requires
get16-requires c = subst (λ (n : ℕ). 0 + 2 ≤ n) (sym c.requires) (lit≤ tt)

pub get16-requires-2 : goal.get16-requires-2
get16-requires-2 c = subst (λ (n : ℕ). 2 + 2 ≤ n) (sym c.requires) (lit≤ tt)

pub get8-requires : goal.get8-requires
get8-requires c = subst (λ (n : ℕ). 4 + 1 ≤ n) (sym c.requires) (lit≤ tt)

pub get8-requires-2 : goal.get8-requires-2
get8-requires-2 c = subst (λ (n : ℕ). 5 + 1 ≤ n) (sym c.requires) (lit≤ tt)

pub get32-requires : goal.get32-requires
get32-requires c = subst (λ (n : ℕ). 8 + 4 ≤ n) (sym c.requires) (lit≤ tt)

pub get32-requires-2 : goal.get32-requires-2
get32-requires-2 c = subst (λ (n : ℕ). 12 + 4 ≤ n) (sym c.requires) (lit≤ tt)

pub get32-requires-3 : goal.get32-requires-3
get32-requires-3 c = subst (λ (n : ℕ). 16 + 4 ≤ n) (sym c.requires) (lit≤ tt)

pub get16-requires-3 : goal.get16-requires-3
get16-requires-3 c = subst (λ (n : ℕ). 20 + 2 ≤ n) (sym c.requires) (lit≤ tt)

pub get16-requires-4 : goal.get16-requires-4
get16-requires-4 c = subst (λ (n : ℕ). 22 + 2 ≤ n) (sym c.requires) (lit≤ tt)
