-- How directories hang together: each from one that was attached before it, by one entry (chapter "Directories").
use Rattle.std.specs.Prelude.{◌≡◌, ℕ, ◌⊎◌, true, List, [], ◌∷◌, ◌++◌, IfSome}
use Rattle.xfs_dirdata.specs.declared.records.EntryRec.{EntryRec}
use Rattle.xfs_naming.specs.Naming.{entries_to}
use Rattle.xfs_links.specs.declared.walk.Attached.{Attached}
use Rattle.xfs_links.specs.Walk.{is_attached}

-- just one entry names the file, and that is an entry of the directory
abbrev pub IsNamedOnce : List EntryRec → ℕ → ℕ → Type 0
IsNamedOnce entries ino dir = (e : EntryRec) × (entries_to entries ino ≡ e ∷ []) × (e.dir ≡ dir)

-- no entry names the file
abbrev pub IsUnnamed : List EntryRec → ℕ → Type 0
IsUnnamed entries ino = entries_to entries ino ≡ []

-- a directory that has a parent comes behind it; only the root is its own
abbrev pub IsBehindParent : ℕ → List Attached → Attached → Type 0
IsBehindParent root before a = IfSome a.parent (λ p. ((a.directory ≡ root) × (p ≡ root)) ⊎ (is_attached before p ≡ true))

-- so does each of those that follow
abbrev pub AreBehindParents : ℕ → List Attached → List Attached → Type 0
AreBehindParents root before [] = Unit {0}
AreBehindParents root before (a ∷ rest) = IsBehindParent root before a × AreBehindParents root (before ++ a ∷ []) rest
