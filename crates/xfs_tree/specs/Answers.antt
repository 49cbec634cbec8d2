-- What a reading of a tree answers, and why.
use Rattle.std.specs.Prelude.{◌≡◌, ℕ, ◌≤◌, Option, Some, None, Result, Err, MatchResult, ◌==◌}
use Rattle.std.specs.List.{list_any}
use Rattle.std.specs.Ordering.{nat_cmp}
use Rattle.std.specs.BTreeSet.{contains}
use Rattle.xfs_disk.specs.Faults.{Rose}
use Rattle.xfs_tree.specs.declared.tree.TreeFault.{TreeFault}
use Rattle.xfs_tree.specs.declared.tree.TreeFault.TheVariants as errors
use Rattle.xfs_tree.specs.declared.unread.Unread.{Unread}
use Rattle.xfs_tree.specs.declared.met.MetBlocks.{MetBlocks}

-- a block that breaks a rule is answered where it is due; a fault of the disk or want of memory may stand in its place
abbrev pub Fails : {A : Type 0} → TreeFault → Result A Unread → Type 0
Fails (errors.Unread fault) due = due ≡ Err fault
Fails errors.ReadFault due = Unit {0}
Fails errors.NoMemory due = Unit {0}

abbrev pub IsFault : Option Unread → TreeFault → Type 0
IsFault due (errors.Unread fault) = due ≡ Some fault
IsFault due errors.ReadFault = Unit {0}
IsFault due errors.NoMemory = Unit {0}

-- the first fault of some blocks, where there is one, is answered
abbrev pub HasJudged : {T : Type 0} → Option Unread → Result T TreeFault → Type 0
HasJudged due result = MatchResult result (λ _. due ≡ None) (IsFault due)

-- a read fault is answered only where the count of failed reads rose
abbrev pub IsTreeCause : ℕ → ℕ → TreeFault → Type 0
IsTreeCause before now errors.ReadFault = Rose before now
IsTreeCause before now errors.NoMemory = before ≤ now
IsTreeCause before now (errors.Unread _) = before ≤ now

abbrev pub HasTreeCause : {T : Type 0} → ℕ → ℕ → Result T TreeFault → Type 0
HasTreeCause before now result = MatchResult result (λ _. before ≤ now) (IsTreeCause before now)

-- the set has just the blocks of the list
abbrev pub IsMet : MetBlocks → Type 0
IsMet met = (q : ℕ) → contains nat_cmp met.set q ≡ list_any (λ block. block == q) met.blocks.items
