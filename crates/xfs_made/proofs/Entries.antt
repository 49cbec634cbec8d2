-- Free lists name each block once, and no inode waits to be removed.
use Rattle.std.proofs.Common.{◌≡◌, ℕ, zero, suc, ◌+◌, ◌-◌, ◌*◌, ◌<◌, ◌==◌, false, List, [], ◌∷◌, ◌++◌, length, get_or, map, take, refl, sym, ◌∙◌, ap, arith, length-append, take_at}
use Rattle.std.specs.List.{All, AllPairs, flat_map, list_any}
use Rattle.std.proofs.lemmas.Bool.{ne_eqb, or_from}
use Rattle.std.proofs.lemmas.List.{get_or-append-add, get_or-map, length-map}
use Rattle.xfs_geom.specs.Volumes.{Volume}
use Rattle.xfs_geom.specs.declared.records.InoRec.{InoRec}
use Rattle.xfs_geom.specs.declared.records.Run.{Run}
use Rattle.xfs_heads.specs.FreeList.{unused}
use Rattle.xfs_volume.specs.Laws.{AreKept}
use Rattle.xfs_volume.specs.declared.groups.TreeBlocks.{TreeBlocks}
use Rattle.xfs_space.specs.Owners.{different}
use Rattle.xfs_laws.specs.Counting.{by_group, chains_at, group_chains, group_entries}
use Rattle.xfs_place.specs.Standing.{AreOfPool, IsOfPool}
use Rattle.xfs_place.specs.Wanted.{inodes_in_group}
use Rattle.xfs_place.specs.declared.placed.GroupPlaced.{GroupPlaced}
use Rattle.xfs_place.specs.declared.wanted.GroupInodes.{GroupInodes}
use Rattle.xfs_render.specs.Rendering.{no_group}
use Rattle.xfs_made.specs.Groups.{due_group_at, due_groups}
use Rattle.xfs_made.proofs.KeptLaws.{groups_kept}

-- numbers that ascend differ
none_is : (x : ℕ) (ys : List ℕ) → All (λ y. x < y) ys → list_any (λ other. other == x) ys ≡ false
none_is x [] above = refl
none_is x (y ∷ ys) above =
    let up = above 0 0 (omega arith) in
    or_from (y == x) (list_any (λ other. other == x) ys) (ne_eqb y x (λ e. absurd (omega (arith, e, up)))) (none_is x ys (λ k d low. above (suc k) d (omega (arith, low))))

pub all_differ : (xs : List ℕ) → AllPairs (λ x y. x < y) xs → different xs ≡ xs
all_differ [] up = refl
all_differ (x ∷ xs) up =
    let none = none_is x xs (λ k d low. up 0 (suc k) d (omega arith) (omega (arith, low))) in
    let others = all_differ xs (λ i j d before low. up (suc i) (suc j) d (omega (arith, before)) (omega (arith, low))) in
    rw none (ap (λ (ys : List ℕ). x ∷ ys) others)

-- the last of some numbers that ascend, less what all are moved by
last_ascend : (base : ℕ) (xs ys : List ℕ) → AllPairs (λ x y. x < y) (xs ++ map (λ block. base + block) ys) → AllPairs (λ x y. x < y) ys
last_ascend base xs ys up = λ i j d before low.
    let f : ℕ → ℕ = λ block. base + block in
    let first : get_or (xs ++ map f ys) (length xs + i) d ≡ base + get_or ys i d = get_or-append-add xs (map f ys) i d ∙ get_or-map f ys i d d (omega (arith, before, low)) in
    let second : get_or (xs ++ map f ys) (length xs + j) d ≡ base + get_or ys j d = get_or-append-add xs (map f ys) j d ∙ get_or-map f ys j d d low in
    let below = up (length xs + i) (length xs + j) d (omega (arith, before)) (omega (arith, low, length-append xs (map f ys), length-map ys f)) in
    omega (arith, first, second, below)

pub list_ascends : (v : Volume) (kept : List Run) (reserved : List ℕ) (base : ℕ) (inodes : List InoRec) (p : GroupPlaced)
    → IsOfPool v kept reserved base inodes p → AllPairs (λ x y. x < y) p.agfl
list_ascends v kept reserved base inodes p pool = last_ascend base (flat_map (λ (t : TreeBlocks). t.blocks) p.trees) p.agfl pool.ascend

entries_kept : (ag : ℕ) (agfl : List ℕ) → AllPairs (λ x y. x < y) agfl → length agfl ≡ length (different (take (length agfl) (agfl ++ unused (119 - length agfl))))
entries_kept ag agfl up = sym (ap (λ (xs : List ℕ). length (different xs)) (take_at agfl (unused (119 - length agfl)) (length agfl) refl) ∙ ap (λ (xs : List ℕ). length xs) (all_differ agfl up))

pub lists_kept : (v : Volume) (kept : List Run) (reserved : List ℕ) (inodes : List GroupInodes) (groups : List GroupPlaced) (agf_crc agi_crc : ℕ → ℕ)
    → AreOfPool v kept reserved inodes v.agcount groups → AreKept (by_group group_entries 0 (due_groups v inodes groups agf_crc agi_crc))
lists_kept v kept reserved inodes groups agf_crc agi_crc pool =
    groups_kept group_entries (due_group_at v inodes groups agf_crc agi_crc) 0 v.agcount (λ ag low high.
    let p = get_or groups ag no_group in
    (entries_kept ag p.agfl (list_ascends v kept reserved (ag * v.agblocks) (inodes_in_group inodes ag) p (pool.each ag no_group (omega (arith, high)))), tt))

-- the heads of chains that are all ones
ones_kept : (place n : ℕ) → AreKept (chains_at place (unused n))
unfolding unused
ones_kept place zero = tt
ones_kept place (suc n) = (refl, ones_kept (place + 1) n)

pub chains_kept : (v : Volume) (inodes : List GroupInodes) (groups : List GroupPlaced) (agf_crc agi_crc : ℕ → ℕ) → AreKept (by_group group_chains 0 (due_groups v inodes groups agf_crc agi_crc))
chains_kept v inodes groups agf_crc agi_crc = groups_kept group_chains (due_group_at v inodes groups agf_crc agi_crc) 0 v.agcount (λ ag low high. ones_kept (1 + 64 * ag) 64)
