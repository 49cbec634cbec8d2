-- Names that have been met.
use Rattle.std.specs.Prelude.{ℕ, Bool, List}
use Rattle.std.specs.Ordering.{nat_cmp, ordering_then}
use Rattle.std.specs.Cmp.Lexicographic.{slice_cmp}
use Rattle.std.specs.declared.cmp.Ordering.{Ordering}
use Rattle.std.specs.BTreeSet.{contains}
use denote.Bor.{Bor}
use Rattle.xfs_word.specs.Hash.{hash_of}
use Rattle.xfs_links.specs.declared.met.MetNames.{MetNames}

-- the order of names: by directory, then by the hash, and then by the bytes
abbrev pub name_cmp : ℕ × ℕ × Bor (List ℕ) → ℕ × ℕ × Bor (List ℕ) → Ordering
name_cmp a b = ordering_then (ordering_then (nat_cmp a.0 b.0) (nat_cmp a.1 b.1)) (slice_cmp nat_cmp a.2.now b.2.now)

-- the name of the directory has been met
abbrev pub is_met : MetNames → ℕ → List ℕ → Bool
is_met m d q = contains name_cmp m.names (d, hash_of q, record { ref_ptr = (0, 0); now = q })
