-- The names of the entries that have been read.
use Rattle.std.specs.Prelude.{ℕ, Bool, List}
use Rattle.std.specs.Ordering.{nat_cmp, ordering_then}
use Rattle.std.specs.Cmp.Lexicographic.{slice_cmp}
use Rattle.std.specs.declared.cmp.Ordering.{Ordering}
use Rattle.std.specs.BTreeSet.{contains}
use denote.Bor.{Bor}
use Rattle.xfs_proto.specs.declared.entry_names.EntryNames.{EntryNames}

-- the order of names: by directory, and then by the bytes
abbrev pub entry_name_cmp : ℕ × Bor (List ℕ) → ℕ × Bor (List ℕ) → Ordering
entry_name_cmp a b = ordering_then (nat_cmp a.0 b.0) (slice_cmp nat_cmp a.1.now b.1.now)

-- the directory has an entry of the name
abbrev pub is_entry_name : EntryNames → ℕ → List ℕ → Bool
is_entry_name m d q = contains entry_name_cmp m.names (d, record { ref_ptr = (0, 0); now = q })
