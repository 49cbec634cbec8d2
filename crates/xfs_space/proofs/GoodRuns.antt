-- What is owned are blocks of the volume, each run inside one group.
use Rattle.std.proofs.Common.{◌≡◌, ℕ, Bool, true, false, not, ◌+◌, ◌-◌, ◌*◌, ◌/◌, ◌%◌, ◌^◌, ◌≤◌, ◌<◌, inl, inr, ◌&&◌, ◌==◌, if◌then◌else◌, nat_le, nat_lt, List, [], ◌∷◌, ◌++◌, length, get_or, map, take, Option, None, subst, arith}
use Rattle.std.specs.List.{All, flat_map, list_all, list_any}
use Rattle.std.proofs.Math.Nat.{mul-le-mul_right}
use Rattle.std.proofs.lemmas.Bool.{and_parts, cases_lt, leb-true, ltb-true}
use Rattle.std.proofs.lemmas.Nat.{div-add-mod'}
use Rattle.std.proofs.lemmas.List.Elements.{All-append, All-cons, All-head, All-map, All-nil, All-tail}
use Rattle.xfs_kinds.specs.Owners.{clusters_owner, group_owner, headers_owner, inode_trees_owner, log_owner}
use Rattle.xfs_word.specs.declared.extents.Extent.{Extent}
use Rattle.xfs_geom.specs.Conversions.{group_length, is_fixed}
use Rattle.xfs_geom.specs.Groups.{ag_block_of_address, group_of_address}
use Rattle.xfs_geom.specs.Volumes.{Volume, volume_of}
use Rattle.xfs_geom.specs.declared.geometry.Geometry.{Geometry}
use Rattle.xfs_geom.specs.declared.records.InoRec.{InoRec}
use Rattle.xfs_geom.specs.declared.records.Run.{Run}
use Rattle.xfs_volume.specs.xfs_heads.Heads.{is_listable}
use Rattle.xfs_kinds.specs.Groups.{lies_in_group}
use Rattle.xfs_kinds.specs.InodeTrees.{ascends_inode, fits_chunk, has_count, ino_shape, is_chunk, is_chunk_clear, is_first_inode}
use Rattle.xfs_volume.specs.declared.files.FileRec.{FileRec}
use Rattle.xfs_volume.specs.declared.groups.GroupRec.{GroupRec}
use Rattle.xfs_volume.specs.declared.groups.TreeBlocks.{TreeBlocks}
use Rattle.xfs_space.specs.Owners.{attribute_flag, runs_of_blocks, cluster_run, cluster_runs, clusters_of_chunk, different, extent_run, extent_word, file_runs, group_runs, groups_runs, listed_run, owned_runs, new_run, tree_flag, tree_owners, tree_runs, unwritten_flag}
use Rattle.xfs_space.specs.Parts.{AreGroups, AreOfGroup, HasLawfulForks, IsLawfulGroup}
use Rattle.xfs_space.specs.Private.Places.{IsPlacedExtent}
use Rattle.xfs_space.specs.Sorted.{IsOfOneGroup, IsOwned}
use Rattle.xfs_space.proofs.FreeSpans.{group_short}
use Rattle.xfs_space.proofs.Lawful.{each_lawful, placed}
use Rattle.xfs_space.proofs.RecordedMaps.{group_inside}

pub record IsGood (v : Volume) (r : Run) : Type 0 where
  pub owned : IsOwned v r
  pub group : IsOfOneGroup v r

-- a number of blocks of one group
good_run : (v : Volume) (ag s count owner offset : ℕ) → v.dblocks ≤ v.agcount * v.agblocks → (v.agcount - 1) * v.agblocks + 64 ≤ v.dblocks → ag < v.agcount → 1 ≤ count → s + count ≤ group_length v ag
    → owner < 2 ^ 64 → offset < 2 ^ 64 → offset % 2 ^ 61 + count ≤ 2 ^ 54 → IsGood v (new_run (ag * v.agblocks + s) count owner offset)
good_run v ag s count owner offset covered last there some inside small_owner small_offset fork =
    let all = group_inside v ag there last in
    let short = group_short v ag covered in
    record {
      owned = record { some = some; inside = omega (arith, all, inside); owner = small_owner; offset = small_offset; fork = fork };
      group = λ k before.
          elim (cases_lt ag k) [
            | inl less ↦
                let up : (ag + 1) * v.agblocks ≤ k * v.agblocks = mul-le-mul_right v.agblocks (omega (arith, less)) in
                omega (arith, up, short, inside)
            | inr not_less ↦
                let down : k * v.agblocks ≤ ag * v.agblocks = mul-le-mul_right v.agblocks not_less in
                absurd (omega (arith, down, before))
          ];
    }

-- a single block
good_block : (v : Volume) (block owner offset : ℕ) → block < v.dblocks → owner < 2 ^ 64 → offset < 2 ^ 64 → offset % 2 ^ 61 ≡ 0 → IsGood v (new_run block 1 owner offset)
good_block v block owner offset inside small_owner small_offset none = record {
  owned = record { some = omega arith; inside = omega (arith, inside); owner = small_owner; offset = small_offset; fork = omega (arith, none) };
  group = λ k before. omega (arith, before);
}

good_blocks : (v : Volume) (owner offset : ℕ) (blocks : List ℕ) → All (λ block. block < v.dblocks) blocks → owner < 2 ^ 64 → offset < 2 ^ 64 → offset % 2 ^ 61 ≡ 0 → All (IsGood v) (runs_of_blocks owner offset blocks)
good_blocks v owner offset blocks all small_owner small_offset none =
    let each = λ (k : ℕ) (d : ℕ) (less : k < length blocks). good_block v (get_or blocks k d) owner offset (all k d less) small_owner small_offset none in
    All-map (IsGood v) (λ block. new_run block 1 owner offset) blocks each

-- owners of trees
small_owners : List ℕ → Type 0
small_owners owners = All (λ owner. owner < 2 ^ 64) owners

good_trees : (v : Volume) (ag : ℕ) (owners : List ℕ) (trees : List TreeBlocks) → All (λ owner. owner < 2 ^ 64) owners → All (λ (tree : TreeBlocks). AreOfGroup v ag tree.blocks) trees
    → All (IsGood v) (tree_runs owners trees)
good_trees v ag [] trees small all = All-nil (IsGood v)
good_trees v ag (owner ∷ owners) [] small all = All-nil (IsGood v)
good_trees v ag (owner ∷ owners) (tree ∷ trees) small all =
    let here = All-head (λ (tree : TreeBlocks). AreOfGroup v ag tree.blocks) tree trees all in
    let blocks = λ (k : ℕ) (d : ℕ) (less : k < length tree.blocks). (here k d less).0 in
    All-append (IsGood v) (runs_of_blocks owner 0 tree.blocks) (tree_runs owners trees)
    (good_blocks v owner 0 tree.blocks blocks (All-head (λ owner. owner < 2 ^ 64) owner owners small) (omega arith) (omega arith))
    (good_trees v ag owners trees (All-tail (λ owner. owner < 2 ^ 64) owner owners small) (All-tail (λ (tree : TreeBlocks). AreOfGroup v ag tree.blocks) tree trees all))

small_tree_owners : All (λ owner. owner < 2 ^ 64) tree_owners
small_tree_owners =
    let small = λ (owner : ℕ). owner < 2 ^ 64 in
    All-cons small group_owner (group_owner ∷ inode_trees_owner ∷ inode_trees_owner ∷ group_owner ∷ []) (omega arith)
    (All-cons small group_owner (inode_trees_owner ∷ inode_trees_owner ∷ group_owner ∷ []) (omega arith)
    (All-cons small inode_trees_owner (inode_trees_owner ∷ group_owner ∷ []) (omega arith)
    (All-cons small inode_trees_owner (group_owner ∷ []) (omega arith)
    (All-cons small group_owner [] (omega arith) (All-nil small)))))

-- the entries of a free list
listed_all : (v : Volume) (ag : ℕ) (xs : List ℕ) → list_all (is_listable v ag) xs ≡ true → All (λ block. block < group_length v ag) xs
listed_all v ag [] h = All-nil (λ block. block < group_length v ag)
listed_all v ag (x ∷ xs) h =
    let parts = and_parts (is_listable v ag x) (list_all (is_listable v ag) xs) h in
    let here = and_parts (nat_lt x (group_length v ag)) (not (is_fixed v (ag * v.agblocks + x))) parts.0 in
    All-cons (λ block. block < group_length v ag) x xs (ltb-true x (group_length v ag) here.0) (listed_all v ag xs parts.1)

different_all : (P : ℕ → Type 0) (xs : List ℕ) → All P xs → All P (different xs)
different_all P [] all = All-nil P
different_all P (x ∷ xs) all = by_case (list_any (λ y. y == x) xs) (different_all P xs (All-tail P x xs all))
  where
    by_case : (t : Bool) → All P (different xs) → All P (if t then different xs else (x ∷ different xs))
    by_case true rest = rest
    by_case false rest = All-cons P x (different xs) (All-head P x xs all) rest

good_listed : (v : Volume) (ag : ℕ) (xs : List ℕ) → ag * v.agblocks + group_length v ag ≤ v.dblocks → list_all (is_listable v ag) xs ≡ true
    → All (IsGood v) (map (listed_run (ag * v.agblocks)) (different xs))
good_listed v ag xs inside h =
    let small = different_all (λ block. block < group_length v ag) xs (listed_all v ag xs h) in
    let each = λ (k : ℕ) (d : ℕ) (less : k < length (different xs)).
    let here : get_or (different xs) k d < group_length v ag = small k d less in
    good_block v (ag * v.agblocks + get_or (different xs) k d) group_owner 0 (omega (arith, here, inside)) (omega arith) (omega arith) (omega arith) in
    All-map (IsGood v) (listed_run (ag * v.agblocks)) (different xs) each

-- the clusters of chunks
chunk_inside : (v : Volume) (ag : ℕ) (before : Option InoRec) (r : InoRec) → (is_chunk v ag r && ascends_inode before r) ≡ true → r.startino / 8 + 8 ≤ group_length v ag
chunk_inside v ag before r h =
    let chunk = (and_parts (is_chunk v ag r) (ascends_inode before r) h).0 in
    let a = and_parts (fits_chunk r && has_count r.holemask r.count && is_first_inode r.startino && lies_in_group v ag (r.startino / 8) 8) (is_chunk_clear v ag r) chunk in
    let b = and_parts (fits_chunk r && has_count r.holemask r.count && is_first_inode r.startino) (lies_in_group v ag (r.startino / 8) 8) a.0 in
    leb-true (r.startino / 8 + 8) (group_length v ag) (and_parts (nat_lt ag v.agcount) (nat_le (r.startino / 8 + 8) (group_length v ag)) b.1).1

good_chunks : (v : Volume) (ag : ℕ) (chunks : List InoRec) → v.dblocks ≤ v.agcount * v.agblocks → (v.agcount - 1) * v.agblocks + 64 ≤ v.dblocks → ag < v.agcount
    → All (λ (r : InoRec). r.startino / 8 + 8 ≤ group_length v ag) chunks → All (IsGood v) (cluster_runs (ag * v.agblocks) chunks)
good_chunks v ag [] covered last there all = All-nil (IsGood v)
good_chunks v ag (r ∷ rs) covered last there all =
    let inside : r.startino / 8 + 8 ≤ group_length v ag = All-head (λ (r : InoRec). r.startino / 8 + 8 ≤ group_length v ag) r rs all in
    let cluster = λ (block : ℕ) (h : block + 4 ≤ group_length v ag).
    good_run v ag block 4 clusters_owner 0 covered last there (omega arith) h (omega arith) (omega arith) (omega arith) in
    let first = cluster (r.startino / 8) (omega (arith, inside)) in
    let second = cluster (r.startino / 8 + 4) (omega (arith, inside)) in
    let rest = good_chunks v ag rs covered last there (All-tail (λ (r : InoRec). r.startino / 8 + 8 ≤ group_length v ag) r rs all) in
    by_case (r.holemask == 0x00ff) (r.holemask == 0xff00) first second rest
  where
    by_case : (s t : Bool) → IsGood v (cluster_run (ag * v.agblocks) (r.startino / 8)) → IsGood v (cluster_run (ag * v.agblocks) (r.startino / 8 + 4)) → All (IsGood v) (cluster_runs (ag * v.agblocks) rs)
        → All (IsGood v) (map (cluster_run (ag * v.agblocks)) (((if s then [] else ((r.startino / 8) ∷ [])) ++ (if t then [] else ((r.startino / 8 + 4) ∷ []))) ++ flat_map clusters_of_chunk rs))
    by_case true true first second rest = rest
    by_case true false first second rest = All-cons (IsGood v) (cluster_run (ag * v.agblocks) (r.startino / 8 + 4)) (cluster_runs (ag * v.agblocks) rs) second rest
    by_case false true first second rest = All-cons (IsGood v) (cluster_run (ag * v.agblocks) (r.startino / 8)) (cluster_runs (ag * v.agblocks) rs) first rest
    by_case false false first second rest =
        All-cons (IsGood v) (cluster_run (ag * v.agblocks) (r.startino / 8)) (cluster_run (ag * v.agblocks) (r.startino / 8 + 4) ∷ cluster_runs (ag * v.agblocks) rs) first
        (All-cons (IsGood v) (cluster_run (ag * v.agblocks) (r.startino / 8 + 4)) (cluster_runs (ag * v.agblocks) rs) second rest)

-- a group
good_group : (v : Volume) (ag : ℕ) (g : GroupRec) → v.dblocks ≤ v.agcount * v.agblocks → (v.agcount - 1) * v.agblocks + 64 ≤ v.dblocks → ag < v.agcount → IsLawfulGroup v ag g
    → All (IsGood v) (group_runs (ag * v.agblocks) g)
good_group v ag g covered last there lawful =
    let base = ag * v.agblocks in
    let most : ag * v.agblocks ≤ (v.agcount - 1) * v.agblocks = mul-le-mul_right v.agblocks (omega (arith, there)) in
    let inside = group_inside v ag there last in
    let chunks = each_lawful (ino_shape ag) v (λ (r : InoRec). r.startino / 8 + 8 ≤ group_length v ag) (chunk_inside v ag) None g.ino lawful.ino in
    let listed = map (listed_run base) (different (take g.agfl.count g.agfl.entries)) in
    All-cons (IsGood v) (new_run base 1 headers_owner 0) ((tree_runs tree_owners g.blocks ++ listed) ++ cluster_runs base g.ino)
    (good_block v base headers_owner 0 (omega (arith, most, last)) (omega arith) (omega arith) (omega arith))
    (All-append (IsGood v) (tree_runs tree_owners g.blocks ++ listed) (cluster_runs base g.ino)
    (All-append (IsGood v) (tree_runs tree_owners g.blocks) listed (good_trees v ag tree_owners g.blocks small_tree_owners lawful.blocks)
    (good_listed v ag (take g.agfl.count g.agfl.entries) inside lawful.listed))
    (good_chunks v ag g.ino covered last there chunks))

good_groups : (v : Volume) (ag : ℕ) (gs : List GroupRec) → v.dblocks ≤ v.agcount * v.agblocks → (v.agcount - 1) * v.agblocks + 64 ≤ v.dblocks → ag + length gs ≤ v.agcount → AreGroups v ag gs
    → All (IsGood v) (groups_runs v.agblocks (ag * v.agblocks) gs)
good_groups v ag [] covered last count lawful = All-nil (IsGood v)
good_groups v ag (g ∷ gs) covered last count lawful =
    let next : (ag + 1) * v.agblocks ≡ ag * v.agblocks + v.agblocks = omega arith in
    All-append (IsGood v) (group_runs (ag * v.agblocks) g) (groups_runs v.agblocks (ag * v.agblocks + v.agblocks) gs)
    (good_group v ag g covered last (omega (arith, count)) lawful.0)
    (subst (λ (base : ℕ). All (IsGood v) (groups_runs v.agblocks base gs)) next (good_groups v (ag + 1) gs covered last (omega (arith, count)) lawful.1))

-- a file
good_extent : (v : Volume) (ino flag : ℕ) (e : Extent) → v.dblocks ≤ v.agcount * v.agblocks → (v.agcount - 1) * v.agblocks + 64 ≤ v.dblocks → ino < 2 ^ 64 → flag ≤ 2 ^ 63 → flag % 2 ^ 61 ≡ 0
    → IsPlacedExtent v e → IsGood v (extent_run v ino flag e)
good_extent v ino flag e covered last small few none at =
    let group = group_of_address v.agblklog e.start in
    let some = at.some in
    good_run v group (ag_block_of_address v.agblklog e.start) e.count ino (extent_word flag e) covered last at.group some at.inside small
    (low_case e.unwritten) (fork_case e.unwritten)
  where
    low : (u offset count : ℕ) → u ≤ 2 ^ 61 → offset + count < 2 ^ 54 → flag + u + offset < 2 ^ 64
    low u offset count h small_offset = omega (arith, h, small_offset, few)

    fork : (u offset count : ℕ) → u % 2 ^ 61 ≡ 0 → offset + count < 2 ^ 54 → (flag + u + offset) % 2 ^ 61 + count ≤ 2 ^ 54
    fork u offset count h small_offset =
        let same : (flag + u + offset) % 2 ^ 61 ≡ offset = omega (arith, h, none, small_offset) in
        omega (arith, same, small_offset)

    low_case : (t : Bool) → flag + (if t then unwritten_flag else 0) + e.offset < 2 ^ 64
    low_case true = low (2 ^ 61) e.offset e.count (omega arith) at.offsets
    low_case false = low 0 e.offset e.count (omega arith) at.offsets

    fork_case : (t : Bool) → (flag + (if t then unwritten_flag else 0) + e.offset) % 2 ^ 61 + e.count ≤ 2 ^ 54
    fork_case true = fork (2 ^ 61) e.offset e.count (omega arith) at.offsets
    fork_case false = fork 0 e.offset e.count (omega arith) at.offsets

good_extents : (v : Volume) (ino flag : ℕ) (es : List Extent) → v.dblocks ≤ v.agcount * v.agblocks → (v.agcount - 1) * v.agblocks + 64 ≤ v.dblocks → ino < 2 ^ 64 → flag ≤ 2 ^ 63
    → flag % 2 ^ 61 ≡ 0 → All (IsPlacedExtent v) es → All (IsGood v) (map (extent_run v ino flag) es)
good_extents v ino flag es covered last small few none all =
    let each = λ (k : ℕ) (d : Extent) (less : k < length es). good_extent v ino flag (get_or es k d) covered last small few none (all k d less) in
    All-map (IsGood v) (extent_run v ino flag) es each

good_file : (v : Volume) (f : FileRec) → v.dblocks ≤ v.agcount * v.agblocks → (v.agcount - 1) * v.agblocks + 64 ≤ v.dblocks → f.ino < 2 ^ 64 → HasLawfulForks v f → All (IsGood v) (file_runs v f)
good_file v f covered last small lawful =
    let extents = map (extent_run v f.ino 0) f.extents in
    let attributes = map (extent_run v f.ino attribute_flag) f.rest.attr_extents in
    All-append (IsGood v) (extents ++ attributes) (runs_of_blocks f.ino tree_flag f.rest.tree)
    (All-append (IsGood v) extents attributes (good_extents v f.ino 0 f.extents covered last small (omega arith) (omega arith) (placed v f.ino f.extents lawful.extents))
    (good_extents v f.ino attribute_flag f.rest.attr_extents covered last small (omega arith) (omega arith) (placed v f.ino f.rest.attr_extents lawful.attr_extents)))
    (good_blocks v f.ino tree_flag f.rest.tree lawful.tree small (omega arith) (omega arith))

good_files : (v : Volume) (fs : List FileRec) → v.dblocks ≤ v.agcount * v.agblocks → (v.agcount - 1) * v.agblocks + 64 ≤ v.dblocks → All (λ (f : FileRec). f.ino < 2 ^ 64) fs → All (HasLawfulForks v) fs
    → All (IsGood v) (flat_map (file_runs v) fs)
good_files v [] covered last small lawful = All-nil (IsGood v)
good_files v (f ∷ fs) covered last small lawful =
    All-append (IsGood v) (file_runs v f) (flat_map (file_runs v) fs)
    (good_file v f covered last (All-head (λ (f : FileRec). f.ino < 2 ^ 64) f fs small) (All-head (HasLawfulForks v) f fs lawful))
    (good_files v fs covered last (All-tail (λ (f : FileRec). f.ino < 2 ^ 64) f fs small) (All-tail (HasLawfulForks v) f fs lawful))

-- the log
good_log : (g : Geometry) → IsGood (volume_of g) (new_run g.log g.logblocks log_owner 0)
good_log g =
    let v = volume_of g in
    let whole : g.log / g.agblocks * g.agblocks + g.log % g.agblocks ≡ g.log = div-add-mod' g.log g.agblocks in
    let large = g.shape.log_inside.large in
    let small = g.shape.log_inside.small in
    subst (λ (start : ℕ). IsGood v (new_run start g.logblocks log_owner 0)) whole
    (good_run v (g.log / g.agblocks) (g.log % g.agblocks) g.logblocks log_owner 0 g.shape.groups.covered g.shape.groups.last g.shape.log_inside.group (omega (arith, large)) g.shape.log_inside.inside
    (omega arith) (omega arith) (omega (arith, small)))

-- all that is owned
pub good_all : (g : Geometry) (gs : List GroupRec) (fs : List FileRec) → length gs ≡ g.agcount → AreGroups (volume_of g) 0 gs → All (HasLawfulForks (volume_of g)) fs → All (λ (f : FileRec). f.ino < 2 ^ 64) fs
    → All (IsGood (volume_of g)) (owned_runs (volume_of g) gs fs)
unfolding owned_runs
good_all g gs fs count groups files small =
    let v = volume_of g in
    let first : 0 * g.agblocks ≡ 0 = omega arith in
    let covered = g.shape.groups.covered in
    let last = g.shape.groups.last in
    All-append (IsGood v) (groups_runs g.agblocks 0 gs) (new_run g.log g.logblocks log_owner 0 ∷ flat_map (file_runs v) fs)
    (subst (λ (base : ℕ). All (IsGood v) (groups_runs g.agblocks base gs)) first (good_groups v 0 gs covered last (omega (arith, count)) groups))
    (All-cons (IsGood v) (new_run g.log g.logblocks log_owner 0) (flat_map (file_runs v) fs) (good_log g) (good_files v fs covered last small files))

pub owned_of : (v : Volume) (rs : List Run) → All (IsGood v) rs → All (IsOwned v) rs
owned_of v rs all = λ k d less. (all k d less).owned

pub groups_of : (v : Volume) (rs : List Run) → All (IsGood v) rs → All (IsOfOneGroup v) rs
groups_of v rs all = λ k d less. (all k d less).group
