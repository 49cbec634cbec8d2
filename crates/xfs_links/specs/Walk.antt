-- How directories are attached, one after the other.
use Rattle.std.specs.Prelude.{ℕ, ◌+◌, ◌==◌, nat_lt, Bool, if◌then◌else◌, List, [], ◌∷◌, ◌++◌, length, zero, suc, Option, None, Some, slice_index_or}
use Rattle.std.specs.List.{list_any}
use Rattle.xfs_links.specs.declared.walk.Attached.{Attached}

abbrev pub attached_at : ℕ → Option ℕ → Attached
attached_at n parent = record { directory = n; parent = parent }

-- the directory is among those that are attached
abbrev pub is_attached : List Attached → ℕ → Bool
is_attached s n = list_any (λ a. a.directory == n) s

-- an entry of directory d that names directory n: it attaches it, and puts it last, unless it is attached
abbrev pub see : ℕ → List Attached → ℕ → List Attached
see d s n = if is_attached s n then s else (s ++ attached_at n (Some d) ∷ [])

-- the entries of directory d, in their order
abbrev pub see_all : ℕ → List Attached → List ℕ → List Attached
see_all d s [] = s
see_all d s (n ∷ ns) = see_all d (see d s n) ns

-- the directory that was attached as the k-th, from 0
abbrev pub turn_at : List Attached → ℕ → ℕ
turn_at s k = (slice_index_or s k (attached_at 0 None)).directory

-- those attached as the k-th and later are taken, first in, first out; each attaches what its entries name
abbrev pub turns : (ℕ → List ℕ) → ℕ → ℕ → List Attached → List Attached
turns named zero k s = s
turns named (suc steps) k s =
    if nat_lt k (length s) then turns named steps (k + 1) (see_all (turn_at s k) s (named (turn_at s k))) else s

-- the root is its own parent; any other starting point has none, and goes to lost+found
abbrev pub start_at : ℕ → ℕ → Attached
start_at root n = attached_at n (if n == root then Some root else None)

-- a starting point that is not attached is, and then the directories below it are
abbrev pub begin : (ℕ → List ℕ) → ℕ → ℕ → List Attached → ℕ → List Attached
begin named steps root s n = if is_attached s n then s else turns named steps (length s) (s ++ start_at root n ∷ [])

-- the starting points, one after the other
abbrev pub walk : (ℕ → List ℕ) → ℕ → ℕ → List Attached → List ℕ → List Attached
walk named steps root s [] = s
walk named steps root s (n ∷ ns) = walk named steps root (begin named steps root s n) ns

-- the parent of a directory; none where it has none
abbrev pub attached_parent : List Attached → ℕ → Option ℕ
attached_parent [] n = None
attached_parent (a ∷ s) n = if a.directory == n then a.parent else attached_parent s n
