-- No block is planned twice of what is placed beside some runs, and the first blocks of a plan were unused.
use Rattle.std.proofs.Common.{◌≡◌, ℕ, zero, suc, ◌+◌, ◌*◌, ◌/◌, ◌%◌, ◌≤◌, ◌<◌, ◌⊎◌, inl, inr, Bool, true, false, not, ◌&&◌, ◌==◌, nat_le, nat_lt, List, [], ◌∷◌, ◌++◌, length, get_or, Option, Some, None, refl, sym, ap, ◌∙◌, subst, arith}
use Rattle.std.specs.List.{All, list_any}
use Rattle.std.proofs.Math.Nat.{mul-le-mul_right}
use Rattle.std.proofs.lemmas.Bool.{and_from, cases_lt, eq-eqb, eqb-true, false≢true, le-leb, lt-ltb, or_left, or_parts, or_right}
use Rattle.std.proofs.lemmas.List.Elements.{All-append, All-filter, All-from_get_or, All-nil, All-weaker, filter_passes, recursion_from_All}
use Rattle.std.proofs.lemmas.List.Folds.{list_any-append}
use Rattle.std.proofs.lemmas.List.Sorted.{All-permutation}
use Rattle.std.proofs.lemmas.Nat.{div-add-mod'}
use Rattle.xfs_geom.proofs.LogPlace.{group_small}
use Rattle.xfs_geom.specs.Conversions.{is_fixed}
use Rattle.xfs_geom.specs.Groups.{blocks_of_group}
use Rattle.xfs_geom.specs.Runs.{covers, runs_on}
use Rattle.xfs_geom.specs.Volumes.{Volume, volume_of}
use Rattle.xfs_geom.specs.declared.geometry.Geometry.{Geometry}
use Rattle.xfs_geom.specs.declared.records.Run.{Run}
use Rattle.xfs_empty.specs.Planning.{StandsFor}
use Rattle.xfs_place.specs.Pool.{is_taken}
use Rattle.xfs_place.specs.Wanted.{IsOffFixed, kept_runs}
use Rattle.xfs_place.specs.declared.placed.Placed.{Placed}
use Rattle.xfs_place.specs.declared.wanted.Wanted.{Wanted}
use Rattle.xfs_views.proofs.Counted.{on_both}
use Rattle.xfs_views.proofs.Members.{any_member, member_all}
use Rattle.xfs_render.specs.Drafts.{row_places}
use Rattle.xfs_render.specs.Objects.{asks_with_kind, object_places}
use Rattle.xfs_render.specs.Plans.{IsOnce, planned}
use Rattle.xfs_render.specs.Rendering.{IsRendered, blocks_in_place, fresh_blocks, is_head, kept_blocks, log_places, new_blocks, tree_blocks, volume}
use Rattle.xfs_render.specs.declared.bytes.Bytes.{Bytes}
use Rattle.xfs_render.specs.declared.plan.Plan.{Plan}
use Rattle.xfs_made.proofs.OnceLists.{all_range, counted, counted_append, joined, range_once}
use Rattle.xfs_made.specs.Unused.{AreHeadsOrKept, IsFreshFor, IsHeadOrKept, IsOfLog, IsUnusedBlock}
use Rattle.xfs_made.proofs.Counting.{arranged, counted_cons, held, is_any, objects_on, one_if, taken_on, untaken_on}
use Rattle.xfs_made.proofs.TreesApart.{AreBehind, trees_apart}

-- first blocks of groups and blocks of the log have a fixed use
pub head_fixed : (v : Volume) (block : ℕ) → is_head v block ≡ true → is_fixed v block ≡ true
head_fixed v block head = or_left (block % v.agblocks == 0) (nat_le v.log block && nat_lt block (v.log + v.logblocks)) head

pub log_fixed : (v : Volume) (block : ℕ) → IsOfLog v block → is_fixed v block ≡ true
log_fixed v block is =
    or_right (block % v.agblocks == 0) (nat_le v.log block && nat_lt block (v.log + v.logblocks))
    (and_from (nat_le v.log block) (nat_lt block (v.log + v.logblocks)) (le-leb v.log block is.from) (lt-ltb block (v.log + v.logblocks) is.below))

-- a block of the log is no first block of a group
pub head_off_log : (g : Geometry) (block : ℕ) → is_head (volume_of g) block ≡ true → IsOfLog (volume_of g) block → ⊥
head_off_log g block head is = elim (cases_lt (g.log / g.agblocks) (block / g.agblocks)) [
  | inl before ↦
      let most : (g.log / g.agblocks + 1) * g.agblocks ≤ block / g.agblocks * g.agblocks = mul-le-mul_right g.agblocks (omega (arith, before)) in
      absurd (omega (arith, whole, short, inside, most, at, high))
  | inr behind ↦
      let most : block / g.agblocks * g.agblocks ≤ g.log / g.agblocks * g.agblocks = mul-le-mul_right g.agblocks behind in
      absurd (omega (arith, whole, after, most, at, low))
]
  where
    whole : g.log / g.agblocks * g.agblocks + g.log % g.agblocks ≡ g.log
    whole = div-add-mod' g.log g.agblocks

    short : blocks_of_group g.dblocks g.agblocks g.agcount (g.log / g.agblocks) ≤ g.agblocks
    short = group_small g.dblocks g.agblocks g.agcount (g.log / g.agblocks) g.shape.groups.covered

    inside : g.log % g.agblocks + g.logblocks ≤ blocks_of_group g.dblocks g.agblocks g.agcount (g.log / g.agblocks)
    inside = g.shape.log_inside.inside

    after : 1 ≤ g.log % g.agblocks
    after = g.shape.log_inside.behind

    rest : block % g.agblocks ≡ 0
    rest = eqb-true (block % g.agblocks) 0 head

    at : block ≡ block / g.agblocks * g.agblocks
    at = let all = div-add-mod' block g.agblocks in omega (arith, all, rest)

    low : g.log ≤ block
    low = is.from

    high : block < g.log + g.logblocks
    high = is.below

-- a block of runs without fixed blocks has no fixed use
pub taken_unfixed : (v : Volume) (rs : List Run) (block : ℕ) → All (IsOffFixed v) rs → is_taken rs block ≡ true → is_fixed v block ≡ false
taken_unfixed v rs block clear taken =
    let one = any_member (covers block) rs (sym (is_any rs block) ∙ taken) in
    let off : IsOffFixed v one.0 = member_all (IsOffFixed v) one.0 rs (recursion_from_All (IsOffFixed v) rs clear) one.1 in
    off block one.2

pub taken_left : (xs ys : List Run) (block : ℕ) → is_taken xs block ≡ true → is_taken (xs ++ ys) block ≡ true
unfolding is_taken
taken_left xs ys block taken = list_any-append (covers block) xs ys ∙ or_left (list_any (covers block) xs) (list_any (covers block) ys) taken

pub taken_right : (xs ys : List Run) (block : ℕ) → is_taken ys block ≡ true → is_taken (xs ++ ys) block ≡ true
unfolding is_taken
taken_right xs ys block taken = list_any-append (covers block) xs ys ∙ or_right (list_any (covers block) xs) (list_any (covers block) ys) taken

pub untaken_both : (xs ys : List Run) (block : ℕ) → is_taken (xs ++ ys) block ≡ false → (is_taken xs block ≡ false) × (is_taken ys block ≡ false)
unfolding is_taken
untaken_both xs ys block off = or_parts (list_any (covers block) xs) (list_any (covers block) ys) (sym (list_any-append (covers block) xs ys) ∙ off)

-- the blocks of the log, where they are written
log_once : (w : Wanted) (cycle : Option ℕ) → IsOnce (log_places w cycle)
log_once w None = record { each = λ at. omega arith }
log_once w (Some cycle) = range_once w.geometry.log w.geometry.logblocks

pub all_of_log : (w : Wanted) (cycle : Option ℕ) → All (IsOfLog (volume w)) (log_places w cycle)
all_of_log w None = All-nil (IsOfLog (volume w))
all_of_log w (Some cycle) = all_range (IsOfLog (volume w)) w.geometry.log w.geometry.logblocks (λ k low high. record { from = low; below = high })

-- a number of a list is counted there
counted_here : (xs : List ℕ) (i d : ℕ) → i < length xs → 1 ≤ counted (get_or xs i d) xs
counted_here [] i d low = absurd (omega (arith, low))
counted_here (x ∷ xs) zero d low =
    let here : one_if (x == x) ≡ 1 = ap one_if (eq-eqb x x refl) in
    omega (arith, counted_cons x x xs, here)
counted_here (x ∷ xs) (suc i) d low =
    let rest = counted_here xs i d (omega (arith, low)) in
    omega (arith, counted_cons (get_or xs i d) x xs, rest)

module _ (w : Wanted) (p : Placed) (stands : StandsFor w p) where
  abbrev all_runs : List Run
  all_runs = kept_runs w ++ p.runs

  pub trees : AreBehind (volume w) all_runs w.reserved (0 * w.geometry.agblocks) (tree_blocks p)
  trees = trees_apart (volume w) w.geometry.shape.groups all_runs w.reserved w.inodes p.groups stands.groups' stands.pool

  few_objects : (at : ℕ) → runs_on p.runs at ≤ 1
  few_objects at = omega (arith, stands.apart.apart.once at, on_both (kept_runs w) p.runs at)

  pub kept_unfixed : (block : ℕ) → is_taken (kept_runs w) block ≡ true → is_fixed (volume w) block ≡ false
  kept_unfixed block taken = taken_unfixed (volume w) all_runs block stands.apart.clear (taken_left (kept_runs w) p.runs block taken)

  -- a block with a fixed use is of no object
  fixed_no_object : (block : ℕ) → is_fixed (volume w) block ≡ true → runs_on p.runs block ≡ 0
  fixed_no_object block fixed = by_case (is_taken p.runs block) refl
    where
      by_case : (t : Bool) → is_taken p.runs block ≡ t → runs_on p.runs block ≡ 0
      by_case true is = absurd (false≢true (sym (taken_unfixed (volume w) all_runs block stands.apart.clear (taken_right (kept_runs w) p.runs block is)) ∙ fixed))
      by_case false is = untaken_on p.runs block is

  -- a block that is the first of a group, or kept, or of the log
  abbrev IsUsed : ℕ → Type 0
  IsUsed block = IsHeadOrKept (volume w) (kept_runs w) block ⊎ IsOfLog (volume w) block

  pub off_log : (block : ℕ) → IsHeadOrKept (volume w) (kept_runs w) block → IsOfLog (volume w) block → ⊥
  off_log block (inl head) is = head_off_log w.geometry block head is
  off_log block (inr taken) is = false≢true (sym (kept_unfixed block taken) ∙ log_fixed (volume w) block is)

  used_no_object : (block : ℕ) → IsUsed block → runs_on p.runs block ≡ 0
  used_no_object block (inl (inl head)) = fixed_no_object block (head_fixed (volume w) block head)
  used_no_object block (inl (inr taken)) =
      omega (arith, stands.apart.apart.once block, on_both (kept_runs w) p.runs block, taken_on (kept_runs w) block taken)
  used_no_object block (inr log) = fixed_no_object block (log_fixed (volume w) block log)

  used_not_unused : (block : ℕ) → IsUsed block → IsUnusedBlock (volume w) all_runs w.reserved block → ⊥
  used_not_unused block (inl (inl head)) is = false≢true (sym is.unfixed ∙ head_fixed (volume w) block head)
  used_not_unused block (inl (inr taken)) is = false≢true (sym is.untaken ∙ taken_left (kept_runs w) p.runs block taken)
  used_not_unused block (inr log) is = false≢true (sym is.unfixed ∙ log_fixed (volume w) block log)

  module _ (b : Bytes) (places : AreHeadsOrKept (volume w) (kept_runs w) b.places) where
    -- the places whose bytes are at hand, and the log
    abbrev others : List ℕ
    others = b.places ++ log_places w b.cycle

    others_once : IsOnce others
    others_once =
        let off : ℕ → Type 0 = λ block. IsOfLog (volume w) block → ⊥ in
        joined off b.places (log_places w b.cycle) places.once (log_once w b.cycle)
        (All-weaker (IsHeadOrKept (volume w) (kept_runs w)) off off_log b.places places.each)
        (All-weaker (IsOfLog (volume w)) (λ block. off block → ⊥) (λ block is off. off is) (log_places w b.cycle) (all_of_log w b.cycle))

    others_used : All IsUsed others
    others_used =
        All-append IsUsed b.places (log_places w b.cycle)
        (All-weaker (IsHeadOrKept (volume w) (kept_runs w)) IsUsed (λ block is. inl is) b.places places.each)
        (All-weaker (IsOfLog (volume w)) IsUsed (λ block is. inr is) (log_places w b.cycle) (all_of_log w b.cycle))

    rest_at : (at : ℕ) → counted at (object_places w p) + counted at others ≤ 1
    rest_at at = by_case (held IsUsed others at others_used)
      where
        objects : counted at (object_places w p) ≤ runs_on p.runs at
        objects = objects_on (asks_with_kind w.objects) p.cuts p.runs at

        by_case : (counted at others ≡ 0) ⊎ IsUsed at → counted at (object_places w p) + counted at others ≤ 1
        by_case (inl none) = omega (arith, objects, few_objects at, none)
        by_case (inr used) = omega (arith, objects, used_no_object at used, others_once.each at)

    all_at : (at : ℕ) → counted at (tree_blocks p ++ (object_places w p ++ others)) ≤ 1
    all_at at = by_case (held (IsUnusedBlock (volume w) all_runs w.reserved) (tree_blocks p) at trees.unused) (held IsUsed others at others_used)
      where
        parts : counted at (tree_blocks p ++ (object_places w p ++ others)) ≡ counted at (tree_blocks p) + (counted at (object_places w p) + counted at others)
        parts = let one = counted_append at (tree_blocks p) (object_places w p ++ others) in let two = counted_append at (object_places w p) others in omega (arith, one, two)

        objects : counted at (object_places w p) ≤ runs_on p.runs at
        objects = objects_on (asks_with_kind w.objects) p.cuts p.runs at

        by_case : (counted at (tree_blocks p) ≡ 0) ⊎ IsUnusedBlock (volume w) all_runs w.reserved at → (counted at others ≡ 0) ⊎ IsUsed at
            → counted at (tree_blocks p ++ (object_places w p ++ others)) ≤ 1
        by_case (inl none) other = omega (arith, parts, none, rest_at at)
        by_case (inr unused) (inl none) =
            let none_taken = untaken_on p.runs at (untaken_both (kept_runs w) p.runs at unused.untaken).1 in
            omega (arith, parts, none, objects, none_taken, trees.once.each at)
        by_case (inr unused) (inr used) = absurd (used_not_unused at used unused)

    pub plan_once : (plan : Plan) → IsRendered w p b plan → IsOnce (planned plan)
    plan_once plan is =
        is.apart (arranged (is_taken w.new) (tree_blocks p) (object_places w p) b.places (log_places w b.cycle) (record { each = all_at }))

  -- the first blocks of a plan
  object_taken : All (λ block. is_taken (w.new ++ p.runs) block ≡ true) (object_places w p)
  object_taken =
      All-from_get_or (λ block. is_taken (w.new ++ p.runs) block ≡ true) (object_places w p) 0 (λ i low.
      let at = get_or (object_places w p) i 0 in
      let some = counted_here (object_places w p) i 0 low in
      let objects : counted at (object_places w p) ≤ runs_on p.runs at = objects_on (asks_with_kind w.objects) p.cuts p.runs at in
      taken_right w.new p.runs at (by_case at (omega (arith, some, objects)) (is_taken p.runs at) refl))
    where
      by_case : (at : ℕ) → 1 ≤ runs_on p.runs at → (t : Bool) → is_taken p.runs at ≡ t → is_taken p.runs at ≡ true
      by_case at some true is = is
      by_case at some false is = absurd (omega (arith, some, untaken_on p.runs at is))

  pub plan_fresh : (b : Bytes) (plan : Plan) → IsRendered w p b plan → All (IsFreshFor w p) (row_places plan.fresh)
  plan_fresh b plan is =
      All-permutation (IsFreshFor w p) (fresh_blocks w p b) (row_places plan.fresh) is.fresh
      (All-append (IsFreshFor w p) (tree_blocks p) (object_places w p ++ new_blocks w b)
      (All-weaker (IsUnusedBlock (volume w) all_runs w.reserved) (IsFreshFor w p)
      (λ block unused. inl (record { unfixed = unused.unfixed; untaken = (untaken_both (kept_runs w) p.runs block unused.untaken).0; unreserved = unused.unreserved }))
      (tree_blocks p) trees.unused)
      (All-append (IsFreshFor w p) (object_places w p) (new_blocks w b)
      (All-weaker (λ block. is_taken (w.new ++ p.runs) block ≡ true) (IsFreshFor w p) (λ block taken. inr taken) (object_places w p) object_taken)
      (All-weaker (λ block. is_taken w.new block ≡ true) (IsFreshFor w p) (λ block taken. inr (taken_left w.new p.runs block taken)) (new_blocks w b)
      (filter_passes (is_taken w.new) b.places))))

  -- a kept block is planned only where its bytes were at hand
  module _ (b : Bytes) (plan : Plan) (is : IsRendered w p b plan) (block : ℕ) (taken : is_taken (kept_runs w) block ≡ true) (off : All (λ at. at ≡ block → ⊥) b.places) where
    abbrev Off : ℕ → Type 0
    Off at = at ≡ block → ⊥

    trees_off : All Off (tree_blocks p)
    trees_off =
        All-weaker (IsUnusedBlock (volume w) all_runs w.reserved) Off
        (λ at free same. used_not_unused at (inl (inr (subst (λ (n : ℕ). is_taken (kept_runs w) n ≡ true) (sym same) taken))) free) (tree_blocks p) trees.unused

    objects_off : All Off (object_places w p)
    objects_off =
        All-from_get_or Off (object_places w p) 0 (λ i low same.
        let at = get_or (object_places w p) i 0 in
        let some = counted_here (object_places w p) i 0 low in
        let objects : counted at (object_places w p) ≤ runs_on p.runs at = objects_on (asks_with_kind w.objects) p.cuts p.runs at in
        let none : runs_on p.runs at ≡ 0 = used_no_object at (inl (inr (subst (λ (n : ℕ). is_taken (kept_runs w) n ≡ true) (sym same) taken))) in
        absurd (omega (arith, some, objects, none)))

    log_off : All Off (log_places w b.cycle)
    log_off =
        All-weaker (IsOfLog (volume w)) Off
        (λ at log same. false≢true (sym (kept_unfixed block taken) ∙ log_fixed (volume w) block (subst (IsOfLog (volume w)) same log))) (log_places w b.cycle) (all_of_log w b.cycle)

    pub plan_off : All Off (planned plan)
    plan_off =
        All-append Off (row_places plan.fresh) (row_places plan.in_place)
        (All-permutation Off (fresh_blocks w p b) (row_places plan.fresh) is.fresh
        (All-append Off (tree_blocks p) (object_places w p ++ new_blocks w b) trees_off
        (All-append Off (object_places w p) (new_blocks w b) objects_off (All-filter (is_taken w.new) Off b.places off))))
        (All-permutation Off (blocks_in_place w b) (row_places plan.in_place) is.in_place
        (All-append Off (kept_blocks w b) (log_places w b.cycle) (All-filter (λ place. not (is_taken w.new place)) Off b.places off) log_off))

pub plans_apart : (w : Wanted) (p : Placed) (b : Bytes) (plan : Plan) → StandsFor w p → IsRendered w p b plan → AreHeadsOrKept (volume w) (kept_runs w) b.places → IsOnce (planned plan)
plans_apart w p b plan stands is places = plan_once w p stands b places plan is

pub plans_fresh : (w : Wanted) (p : Placed) (b : Bytes) (plan : Plan) → StandsFor w p → IsRendered w p b plan → All (IsFreshFor w p) (row_places plan.fresh)
plans_fresh w p b plan stands is = plan_fresh w p stands b plan is

pub kept_off : (w : Wanted) (p : Placed) (b : Bytes) (plan : Plan) → StandsFor w p → IsRendered w p b plan → (block : ℕ) → is_taken (kept_runs w) block ≡ true
    → All (λ at. at ≡ block → ⊥) b.places → All (λ at. at ≡ block → ⊥) (planned plan)
kept_off w p b plan stands is block taken off = plan_off w p stands b plan is block taken off
