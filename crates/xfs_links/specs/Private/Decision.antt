-- What is decided by places, beside what is due by numbers.
use Rattle.std.specs.Prelude.{◌≡◌, ℕ, ◌<◌, List, map, length, Option, option_map, IfSome}
use Rattle.std.specs.List.{filter, filter_map, All, range_with_len}
use Rattle.xfs_dirdata.specs.declared.records.EntryRec.{EntryRec}
use Rattle.xfs_links.specs.declared.records.NodeRec.{NodeRec}
use Rattle.xfs_links.specs.declared.candidates.Candidate.{Candidate}
use Rattle.xfs_links.specs.Entries.{node_number}
use Rattle.xfs_links.specs.Connected.{kept_entries, attached_directories, parents, named_orphans, lost_of}
use Rattle.xfs_links.specs.Places.{candidate_entry, IsPlacedCandidate, listed_pair, lost_at, orphan_at, named_orphan_at}

-- the parents and the candidates give, place by place, what is due
pub record IsDecision (files : List NodeRec) (entries : List EntryRec) (root : ℕ) (above : List (Option ℕ)) (kept : List Candidate) : Type 0 where
  pub size : length above ≡ length files
  pub inside : All (λ o. IfSome o (λ p. p < length files)) above
  pub placed : All (IsPlacedCandidate files entries) kept
  pub low : IfSome (lost_at files entries root kept) (λ p. p < length files)
  pub kept_is : map (candidate_entry entries) kept ≡ kept_entries files entries root
  pub pairs_are : filter_map (listed_pair files above) (range_with_len 0 (length files)) ≡ parents files (attached_directories files entries root)
  pub orphans_are : map (named_orphan_at files entries kept (lost_at files entries root kept)) (filter (orphan_at files root above kept) (range_with_len 0 (length files)))
      ≡ named_orphans files root (attached_directories files entries root) (kept_entries files entries root)
  pub lost_is : option_map (node_number files) (lost_at files entries root kept) ≡ lost_of files root (kept_entries files entries root)
