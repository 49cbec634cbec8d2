-- Where a group gives its blocks to its trees is decided by what it held before.
use Rattle.std.proofs.Common.{◌≡◌, ℕ, ◌*◌, ◌<◌, inl, inr, Some, List, ◌++◌, Result, Ok, get_or, length, map, drop, sym, ◌∙◌, ap, subst, arith}
use Rattle.std.specs.List.{sum}
use Rattle.std.proofs.Math.Seq.{drop-append_seam}
use Rattle.std.proofs.lemmas.Bool.{cases_lt, cases_order}
use Rattle.std.proofs.lemmas.List.{get_or_default, length-map, same_lists}
use Rattle.xfs_geom.specs.declared.records.InoRec.{InoRec}
use Rattle.xfs_geom.specs.declared.records.RmapRec.{RmapRec}
use Rattle.xfs_geom.specs.declared.records.Run.{Run}
use Rattle.xfs_geom.specs.declared.records.Span.{Span}
use Rattle.xfs_geom.specs.Volumes.{Volume, volume_of}
use Rattle.xfs_place.specs.Choice.{AreLowest, Group, IsChosenCount, IsGreatest, IsLeast, LeavesFree, begins_owned, how_many, in_pool, owned_at, space_blocks}
use Rattle.xfs_place.specs.Placing.{AreFreeRuns, AreRecords, IsPlacedGroup, cut, run_of_record, tree_blocks_at, tree_sizes}
use Rattle.xfs_place.specs.Counts.{placed_counts}
use Rattle.xfs_place.specs.Wanted.{ArePlaced, all_kept, inodes_in_group, kept_runs, wanted_group}
use Rattle.xfs_place.specs.declared.faults.Unplaced.{Unplaced}
use Rattle.xfs_place.specs.declared.placed.GroupPlaced.{GroupPlaced}
use Rattle.xfs_place.specs.declared.placed.Placed.{Placed}
use Rattle.xfs_place.specs.declared.wanted.GroupInodes.{GroupInodes}
use Rattle.xfs_place.specs.declared.wanted.Wanted.{Wanted}
use Rattle.xfs_empty.specs.Planning.{StandsFor}
use Rattle.xfs_place.specs.declared.uses.Use.{Use}
use Rattle.xfs_place.proofs.Ordered.{begun_all}
use Rattle.xfs_place.proofs.Totals.{one_rank}
use Rattle.xfs_mend.proofs.xfs_made.Separate.{by_length_is, one_separate}
use Rattle.xfs_settled.proofs.OwnersOnce.{records_one}
use Rattle.xfs_kinds.specs.Lengths.{by_length}

-- the least number, and the greatest, with a property is one
least_one : (P : ℕ → Type 0) (m n : ℕ) → IsLeast P m → IsLeast P n → m ≡ n
least_one P m n a b = elim (cases_order m n) [
  | inl same ↦ same
  | inr other ↦ elim other [
    | inl less ↦ absurd (b.1 m less a.0)
    | inr more ↦ absurd (a.1 n more b.0)
  ]
]

greatest_one : (P : ℕ → Type 0) (m n : ℕ) → IsGreatest P m → IsGreatest P n → m ≡ n
greatest_one P m n a b = elim (cases_order m n) [
  | inl same ↦ same
  | inr other ↦ elim other [
    | inl less ↦ absurd (a.1 n less b.0)
    | inr more ↦ absurd (b.1 m more a.0)
  ]
]

pub chosen_one : (g : Group) (m n : ℕ) → IsChosenCount g (Some m) → IsChosenCount g (Some n) → m ≡ n
chosen_one g m n (inl a) (inl b) = least_one (LeavesFree g 6 118) m n a b
chosen_one g m n (inl a) (inr b) = absurd (b.0 m a.0)
chosen_one g m n (inr a) (inl b) = absurd (a.0 n b.0)
chosen_one g m n (inr a) (inr b) = greatest_one (LeavesFree g 0 5) m n a.1 b.1

-- the lowest blocks of a pool, so many
lowest_one : (uses : List Use) (xs ys : List ℕ) → length xs ≡ length ys → AreLowest uses xs → AreLowest uses ys → xs ≡ ys
lowest_one uses xs ys long a b = same_lists xs ys long (λ k d within.
    let room : k < length ys = omega (arith, within, long) in
    let same : get_or xs k 0 ≡ get_or ys k 0 =
    one_rank (in_pool uses) (get_or xs k 0) (get_or ys k 0) (a.open' k within) (b.open' k room) (a.ranks k within ∙ sym (b.ranks k room)) in
    get_or_default xs k d 0 within ∙ same ∙ get_or_default ys k 0 d room)

free_runs_one : (g : Group) (n : ℕ) (xs ys : List Span) → AreFreeRuns g n xs → AreFreeRuns g n ys → xs ≡ ys
free_runs_one g n xs ys a b = one_separate 0 xs ys a.separate b.separate (λ block. elim (cases_lt block (length g.uses)) [
  | inl low ↦ a.blocks block low ∙ sym (b.blocks block low)
  | inr high ↦ a.inside block high ∙ sym (b.inside block high)
])

module _ (g : Group) (base : ℕ) (inodes : List InoRec) (p q : GroupPlaced) (a : IsPlacedGroup g base inodes p) (b : IsPlacedGroup g base inodes q) where
  pub blocks_one : a.blocks ≡ b.blocks
  blocks_one = lowest_one g.uses a.blocks b.blocks (chosen_one g (length a.blocks) (length b.blocks) a.chosen b.chosen) a.low b.low

  pub spans_one : p.bno ≡ q.bno
  spans_one = free_runs_one g (length a.blocks) p.bno q.bno a.bno (subst (λ (xs : List ℕ). AreFreeRuns g (length xs) q.bno) (sym blocks_one) b.bno)

  -- so many records of owners there are
  count_is : (n : ℕ) (records : List RmapRec) → AreRecords g (space_blocks g n) n records → how_many (begins_owned (owned_at g (space_blocks g n) n)) (length g.uses) ≡ length records
  count_is n records are =
      begun_all (owned_at g (space_blocks g n) n) (length g.uses) (map run_of_record records) are.owned.claims are.apart (λ block low. sym (are.owned.held block low))
      ∙ length-map records run_of_record

  owners_many : length p.rmap ≡ length q.rmap
  owners_many =
      sym (count_is (length a.blocks) p.rmap a.rmap)
      ∙ count_is (length a.blocks) q.rmap (subst (λ (xs : List ℕ). AreRecords g (space_blocks g (length xs)) (length xs) q.rmap) (sym blocks_one) b.rmap)

  free_one : p.fino ≡ q.fino
  free_one = a.fino ∙ sym b.fino

  pub lengths_one : p.cnt ≡ q.cnt
  lengths_one = by_length_is p.bno p.cnt a.cnt ∙ ap by_length spans_one ∙ sym (by_length_is q.bno q.cnt b.cnt)

  pub trees_one : p.trees ≡ q.trees
  trees_one =
      a.trees
      ∙ (λ i. map (tree_blocks_at base) (cut (tree_sizes (length (spans_one i)) (length inodes) (length (free_one i)) (owners_many i)) (blocks_one i)))
      ∙ sym b.trees

  pub listed_one : p.agfl ≡ q.agfl
  listed_one = a.agfl ∙ (λ i. drop (sum (tree_sizes (length (spans_one i)) (length inodes) (length (free_one i)) (owners_many i))) (blocks_one i)) ∙ sym b.agfl

  owners_one : p.rmap ≡ q.rmap
  owners_one =
      let other : AreRecords g (space_blocks g (length a.blocks)) (length a.blocks) q.rmap =
      subst (λ (xs : List ℕ). AreRecords g (space_blocks g (length xs)) (length xs) q.rmap) (sym blocks_one) b.rmap in
      records_one (length g.uses) p.rmap q.rmap a.rmap.owned.claims other.owned.claims a.rmap.apart other.apart (λ block low. a.rmap.owned.held block low ∙ sym (other.owned.held block low))

  pub group_one : p ≡ q
  group_one = λ i. record { bno = spans_one i; cnt = lengths_one i; fino = free_one i; rmap = owners_one i; trees = trees_one i; agfl = listed_one i }

-- all groups
groups_one : (v : Volume) (kept : List Run) (reserved : List ℕ) (inodes : List GroupInodes) (n : ℕ) (ps qs : List GroupPlaced)
    → ArePlaced v kept reserved inodes n ps → ArePlaced v kept reserved inodes n qs → ps ≡ qs
groups_one v kept reserved inodes n ps qs a b = same_lists ps qs (a.all ∙ sym b.all) (λ k d within.
    let low : k < n = omega (arith, within, a.all) in
    group_one (wanted_group v kept reserved inodes k) (k * v.agblocks) (inodes_in_group inodes k) (get_or ps k d) (get_or qs k d) (a.each k d low) (b.each k d low))

ok_one : (r : Result (List Run) Unplaced) (a b : List Run) → r ≡ Ok a → r ≡ Ok b → a ≡ b
ok_one r a b first second =
    let both : Ok a ≡ Ok b = sym first ∙ second in
    cc

module _ (w : Wanted) (p q : Placed) (a : StandsFor w p) (b : StandsFor w q) where
  all_one : kept_runs w ++ p.runs ≡ kept_runs w ++ q.runs
  all_one = ok_one (all_kept w) (kept_runs w ++ p.runs) (kept_runs w ++ q.runs) a.runs' b.runs'

  pub placed_runs_one : p.runs ≡ q.runs
  placed_runs_one = sym (drop-append_seam (kept_runs w) p.runs) ∙ ap (drop (length (kept_runs w))) all_one ∙ drop-append_seam (kept_runs w) q.runs

  pub placed_one : p.groups ≡ q.groups
  placed_one =
      let v : Volume = volume_of w.geometry in
      groups_one v (kept_runs w ++ p.runs) w.reserved w.inodes w.geometry.agcount p.groups q.groups a.groups'
      (subst (λ (kept : List Run). ArePlaced v kept w.reserved w.inodes w.geometry.agcount q.groups) (sym all_one) b.groups')

  pub counts_one : p.counts ≡ q.counts
  counts_one = a.counts' ∙ ap (placed_counts w.inodes) placed_one ∙ sym b.counts'
