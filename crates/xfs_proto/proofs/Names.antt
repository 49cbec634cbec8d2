-- The names of entries, compared.
use Rattle.std.proofs.Common.{◌≡◌, ℕ, ◌==◌, ◌&&◌, List, sym}
use denote.Bor.{Bor}
use Rattle.std.specs.Str.{bytes_eq}
use Rattle.std.specs.Ordering.{is_eq, nat_cmp}
use Rattle.std.specs.Cmp.{both_tied, unsigned_ties}
use Rattle.std.proofs.lemmas.Map.Text.{is_eq-slice_cmp}
use Rattle.xfs_proto.specs.EntryNames.{entry_name_cmp}

-- names are one where neither comes first
pub names_tied : (a d : ℕ) (x y : Bor (List ℕ)) → is_eq (entry_name_cmp (a, x) (d, y)) ≡ (a == d && bytes_eq x.now y.now)
names_tied a d x y = sym (both_tied (a == d) (bytes_eq x.now y.now) (nat_cmp a d) _ (unsigned_ties a d) (sym (is_eq-slice_cmp x.now y.now)))
