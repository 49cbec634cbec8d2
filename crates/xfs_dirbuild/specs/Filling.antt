-- How entries fill data blocks, and what an index says of them (chapter "Directories").
use Rattle.std.specs.Prelude.{ℕ, ◌+◌, ◌-◌, nat_le, if◌then◌else◌, List, [], ◌∷◌, ◌++◌, Some}
use Rattle.xfs_dirdata.specs.Written.{data_size_of, data_length, first_entries, offsets}
use Rattle.xfs_dirdata.specs.declared.records.EntryRec.{EntryRec}
use Rattle.xfs_dirindex.specs.declared.pairs.Pair.{Pair}
use Rattle.xfs_dirindex.specs.Data.{due_pairs}

-- an entry stands ahead of those of the first of some blocks
abbrev pub ahead : EntryRec → List (List EntryRec) → List (List EntryRec)
ahead e [] = (e ∷ []) ∷ []
ahead e (block ∷ blocks) = (e ∷ block) ∷ blocks

-- the entries of each data block, in their order: the first block is filled from a byte offset on and the later ones from
-- behind their headers, each as far as the next entry fits
unfoldable pub filled : ℕ → List EntryRec → List (List EntryRec)
filled at [] = [] ∷ []
filled at (e ∷ es) =
    if nat_le (at + data_size_of e) 4096 then ahead e (filled (at + data_size_of e) es) else [] ∷ ahead e (filled (64 + data_size_of e) es)

-- the entries of a directory, with those of itself and its parent ahead
abbrev pub all_entries : ℕ → ℕ → List EntryRec → List EntryRec
all_entries dir parent entries = first_entries (Some (dir, parent)) ++ entries

-- the entries of each of its data blocks
abbrev pub filled_shares : ℕ → ℕ → List EntryRec → List (List EntryRec)
filled_shares dir parent entries = filled 64 (all_entries dir parent entries)

-- the pairs that are due for data blocks with these entries, from some block on
abbrev pub pairs_from : ℕ → List (List EntryRec) → List Pair
pairs_from block [] = []
pairs_from block (es ∷ ess) = due_pairs block es (offsets 64 es) ++ pairs_from (block + 1) ess

-- how many bytes a data block with these entries has left
abbrev pub rest_in : List EntryRec → ℕ
rest_in es = 4096 - (64 + data_length es)
