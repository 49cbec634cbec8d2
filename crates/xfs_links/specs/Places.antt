-- Files and entries by their places in the lists.
use Rattle.std.specs.Prelude.{◌≡◌, ℕ, ◌<◌, ◌==◌, ◌&&◌, Bool, true, false, not, List, [], ◌∷◌, ◌++◌, map, length, Option, None, option_map, is_some, if◌then◌else◌, slice_index_or}
use Rattle.std.specs.List.{filter, find, list_any, range_with_len}
use Rattle.std.specs.Str.{bytes_eq}
use Rattle.xfs_dirdata.specs.declared.records.EntryRec.{EntryRec}
use Rattle.xfs_collections.specs.Lists.{Woven, has_node, list_at}
use Rattle.xfs_links.specs.declared.records.NodeRec.{NodeRec}
use Rattle.xfs_links.specs.declared.candidates.Candidate.{Candidate}
use Rattle.xfs_links.specs.declared.walk.Attached.{Attached}
use Rattle.xfs_links.specs.Entries.{node_number, is_directory_at_place, is_reserved_inode}
use Rattle.xfs_links.specs.Walk.{is_attached, attached_at}
use Rattle.xfs_links.specs.Connected.{is_parent, names_lost_found, free_name}

abbrev pub no_entry : EntryRec
no_entry = record { dir = 0; name = []; ino = 0; ftype = 0 }

-- the entry of a candidate
abbrev pub candidate_entry : List EntryRec → Candidate → EntryRec
candidate_entry entries c = slice_index_or entries c.entry no_entry

-- the candidate is the entry, which is the i-th
pub record IsPlacedAt (files : List NodeRec) (e : EntryRec) (i : ℕ) (c : Candidate) : Type 0 where
  pub entry : c.entry ≡ i
  pub directory : c.directory < length files
  pub target : c.target < length files
  pub of : node_number files c.directory ≡ e.dir
  pub names : node_number files c.target ≡ e.ino

-- the places of a candidate are those of its entry, of the directory and of the file that this names
pub record IsPlacedCandidate (files : List NodeRec) (entries : List EntryRec) (c : Candidate) : Type 0 where
  pub entry : c.entry < length entries
  pub directory : c.directory < length files
  pub target : c.target < length files
  pub of : node_number files c.directory ≡ (candidate_entry entries c).dir
  pub names : node_number files c.target ≡ (candidate_entry entries c).ino

-- the directories that the candidates name, by place
abbrev pub targets : List NodeRec → List Candidate → List ℕ
targets files cs = map (λ c. c.target) (filter (λ c. is_directory_at_place files c.target) cs)

-- the candidates of the directory at a place
abbrev pub candidates_at : List Candidate → ℕ → List Candidate
candidates_at cs d = filter (λ c. c.directory == d) cs

-- the directories that the entries of a directory name, by place
abbrev pub named_at : List NodeRec → List Candidate → ℕ → List ℕ
named_at files cs d = targets files (candidates_at cs d)

-- the directory and its parent by their numbers
abbrev pub attached_numbers : List NodeRec → Attached → Attached
attached_numbers files a = attached_at (node_number files a.directory) (option_map (node_number files) a.parent)

-- the nodes of the first list of the weave are the directories that are not attached
pub record IsSteady (files : List NodeRec) (w : Woven) (s : List Attached) : Type 0 where
  pub nodes : w.nodes ≡ length files
  pub lists : length w.lists ≡ 3
  pub pending : (p : ℕ) → has_node p (list_at w 0) ≡ (is_directory_at_place files p && not (is_attached s p))

-- a candidate names the file at a place
abbrev pub is_target : List Candidate → ℕ → Bool
is_target cs p = list_any (λ c. c.target == p) cs

-- the two tests answer alike
abbrev pub are_equal : Bool → Bool → Bool
are_equal true q = q
are_equal false q = not q

-- the starting points by place: the root, the directories that no candidate names, all other directories
abbrev pub starts_at : List NodeRec → List Candidate → ℕ → List ℕ
starts_at files cs root =
    (root ∷ filter (λ p. is_directory_at_place files p && (not (p == root) && not (is_target cs p))) (range_with_len 0 (length files)))
    ++ filter (λ p. is_directory_at_place files p && (not (p == root) && is_target cs p)) (range_with_len 0 (length files))

-- the parent by place
abbrev pub parent_at : List (Option ℕ) → ℕ → Option ℕ
parent_at parents p = slice_index_or parents p None

-- a candidate stays, by places
abbrev pub stays_at : List NodeRec → List (Option ℕ) → List Candidate → Candidate → Bool
stays_at files parents before c =
    if is_directory_at_place files c.target then (is_parent c.directory (parent_at parents c.target) && not (is_target before c.target)) else true

abbrev pub staying_at : List NodeRec → List (Option ℕ) → List Candidate → List Candidate → List Candidate
staying_at files parents before [] = []
staying_at files parents before (c ∷ cs) =
    if stays_at files parents before c then (c ∷ staying_at files parents (before ++ c ∷ []) cs) else staying_at files parents before cs

-- an orphan, by place, where it is told whether a candidate names the file
abbrev pub orphan_told : List NodeRec → ℕ → List (Option ℕ) → Bool → ℕ → Bool
orphan_told files root parents named p =
    if is_directory_at_place files p then not (is_some (parent_at parents p)) else (not (is_reserved_inode root (node_number files p)) && not named)

abbrev pub orphan_at : List NodeRec → ℕ → List (Option ℕ) → List Candidate → ℕ → Bool
orphan_at files root parents cs p = orphan_told files root parents (is_target cs p) p

-- the candidate is the entry `lost+found` of the root, and names no directory
abbrev pub in_the_way_at : List NodeRec → List EntryRec → ℕ → Candidate → Bool
in_the_way_at files entries root c = names_lost_found root (candidate_entry entries c) && not (is_directory_at_place files c.target)

abbrev pub cleared_at : List NodeRec → List EntryRec → ℕ → List (Option ℕ) → List Candidate → List Candidate
cleared_at files entries root parents cs =
    if list_any (orphan_at files root parents cs) (range_with_len 0 (length files)) then filter (λ c. not (in_the_way_at files entries root c)) cs else cs

abbrev pub lost_at : List NodeRec → List EntryRec → ℕ → List Candidate → Option ℕ
lost_at files entries root cs = option_map (λ c. c.target) (find (λ c. names_lost_found root (candidate_entry entries c) && is_directory_at_place files c.target) cs)

-- the parent of a directory, by place
abbrev pub listed_at : List NodeRec → List (Option ℕ) → ℕ → Option ℕ
listed_at files parents p = if is_directory_at_place files p then parent_at parents p else None

abbrev pub listed_pair : List NodeRec → List (Option ℕ) → ℕ → Option (ℕ × ℕ)
listed_pair files parents p = option_map (λ q. (node_number files p, node_number files q)) (listed_at files parents p)

abbrev pub taken_at : List EntryRec → List Candidate → Option ℕ → List ℕ → Bool
taken_at entries cs lost name = list_any (λ c. is_parent c.directory lost && bytes_eq (candidate_entry entries c).name name) cs

abbrev pub named_orphan_at : List NodeRec → List EntryRec → List Candidate → Option ℕ → ℕ → ℕ × List ℕ
named_orphan_at files entries cs lost p = (node_number files p, free_name (taken_at entries cs lost) (node_number files p) (length cs) 0)
