-- While a volume is made, block 0 is as it was until all its other blocks are written.
use Rattle.std.proofs.Common.{◌≡◌, ℕ, zero, suc, ◌*◌, ◌≤◌, ◌<◌, inl, inr, Bool, true, cond, false, not, ◌==◌, Option, List, [], ◌∷◌, ◌++◌, length, map, get_or, refl, sym, ap, ◌∙◌, subst, arith}
use Rattle.std.specs.Prelude.{slice_get, slice_set}
use Rattle.std.specs.List.{All, Contains, filter, range_with_len, sum_by}
use Rattle.std.specs.List.Sorted.{IsNonDecreasingBy}
use Rattle.std.proofs.lemmas.List.{get_or-map, get_or_default, length-map, map-append}
use Rattle.std.proofs.lemmas.List.Elements.{All-cons, All-head, All-nil, All-tail, Contains-append_right}
use Rattle.std.proofs.lemmas.List.Sorted.{Contains-permutation, sum_by-IsPermutation}
use Rattle.std.proofs.lemmas.List.Sums.{sum_by-cons}
use Rattle.xfs_disk.specs.Blocks.{Image}
use Rattle.xfs_disk.specs.Files.{Files}
use Rattle.xfs_disk.specs.declared.stamp.Stamp.{Stamp}
use Rattle.xfs_geom.specs.Volumes.{volume_of}
use Rattle.xfs_geom.specs.declared.geometry.Geometry.{Geometry}
use Rattle.xfs_geom.specs.declared.records.Run.{Run}
use Rattle.xfs_place.specs.Pool.{is_taken}
use Rattle.xfs_place.specs.declared.placed.Placed.{Placed}
use Rattle.xfs_place.specs.declared.wanted.Wanted.{Wanted}
use Rattle.xfs_render.specs.Drafts.{row_places}
use Rattle.xfs_render.specs.Plans.{IsOnce, plan_rows, planned}
use Rattle.xfs_render.specs.Rendering.{IsRendered, blocks_in_place, log_places}
use Rattle.xfs_render.specs.declared.bytes.Bytes.{Bytes}
use Rattle.xfs_render.specs.declared.plan.Plan.{Plan}
use Rattle.xfs_empty.specs.Bytes.{header_places}
use Rattle.xfs_empty.specs.Placing.{chunk_run, empty_wanted}
use Rattle.xfs_empty.specs.Geometry.{HasFirstChunk}
use Rattle.xfs_filled.specs.Chunks.{chunk_starts}
use Rattle.xfs_filled.specs.Wanting.{blocks_of_chunks, filled_bytes, filled_wanted}
use Rattle.xfs_populated.proofs.xfs_made.Once.{planned_once}
use Rattle.xfs_writing.proofs.Steps.{written-append}
use Rattle.xfs_writing.specs.Stopped.{IsStopped}
use Rattle.xfs_writing.specs.Writing.{Writes, write_of, written, writes_of_rows}
use Rattle.xfs_writing.specs.declared.rows.Row.{Row}
use Rattle.xfs_options.specs.declared.make_words.MakeOptions.{MakeOptions}
use Rattle.xfs_mkfs.proofs.Failing.{plan_of}
use Rattle.xfs_mkfs.proofs.FilledOnce.{chunks_clear, filled_once}
use Rattle.xfs_mkfs.proofs.Geometries.{first_chunk}
use Rattle.xfs_mkfs.proofs.Held.{count_planned, one_if}
use Rattle.xfs_mkfs.proofs.Rows.{count_plan, row_at}
use Rattle.xfs_mkfs.specs.Order.{AreRowsOfPlan, all_writes, first_part, last_part}
use Rattle.xfs_mkfs.specs.Outcome.{IsPlanWith, IsPrepared}
use Rattle.xfs_mkfs.specs.Putting.{IsPutStopped}
use Rattle.xfs_mkfs.specs.Stops.{HasPrimaryLast, IsMadeStopped}
use Rattle.xfs_mkfs.specs.declared.files.FilesAsked.{FilesAsked}
use Rattle.xfs_mkfs.specs.declared.files.FilesAsked.TheVariants.{Root, Listed}

-- what stands first in a list and passes is kept
kept_first : (p : ℕ → Bool) (x : ℕ) (xs ys : List ℕ) → p x ≡ true → Contains (filter p (x ∷ xs) ++ ys) x
kept_first p x xs ys is = subst (λ (b : Bool). Contains (cond b (x ∷ filter p xs) (filter p xs) ++ ys) x) (sym is) (0, omega arith, refl)

-- block 0 is in no chunk, so it is written in place
abbrev is_open : List Run → ℕ → Bool
is_open chunks place = not (is_taken chunks place)

zero_kept : (chunks : List Run) (w n : ℕ) (rest log : List ℕ) → is_taken chunks 0 ≡ false → 2 ≤ n → Contains (filter (is_open chunks) (header_places w n ++ rest) ++ log) 0
zero_kept chunks w zero rest log clear some = absurd (omega (arith, some))
zero_kept chunks w (suc n) rest log clear some =
    subst (λ (place : ℕ). Contains (filter (is_open chunks) (header_places w (suc n) ++ rest) ++ log) place) (no_group w)
    (kept_first (is_open chunks) (0 * w) (map (λ ag. ag * w) (range_with_len 1 n) ++ rest) log (ap not (subst (λ (place : ℕ). is_taken chunks place ≡ false) (sym (no_group w)) clear)))
  where
    no_group : (w : ℕ) → 0 * w ≡ 0
    no_group w = omega arith

-- so block 0 is planned wherever the headers of the groups are
has_place : (w : Wanted) (p : Placed) (b : Bytes) (plan : Plan) (rest : List ℕ) → IsRendered w p b plan → b.places ≡ header_places w.geometry.agblocks w.geometry.agcount ++ rest
    → is_taken w.new 0 ≡ false → Contains (planned plan) 0
has_place w p b plan rest is places clear =
    let here : Contains (blocks_in_place w b) 0 =
    subst (λ (ps : List ℕ). Contains (filter (is_open w.new) ps ++ log_places w b.cycle) 0) (sym places)
    (zero_kept w.new w.geometry.agblocks w.geometry.agcount rest (log_places w b.cycle) clear w.geometry.shape.groups.two) in
    Contains-append_right (row_places plan.fresh) (row_places plan.in_place) 0 (Contains-permutation (blocks_in_place w b) (row_places plan.in_place) 0 is.in_place here)

first_clear : is_taken (chunk_run ∷ []) 0 ≡ false
unfolding is_taken
first_clear = refl

-- block 0 is planned, and no block twice
pub record IsApart (plan : Plan) : Type 0 where
  pub once : IsOnce (planned plan)
  pub primary : Contains (planned plan) 0

pub plan_apart : (g : Geometry) (sector : List ℕ) (s : Stamp) (asked : FilesAsked) (plan : Plan) → IsPlanWith g sector s asked plan → HasFirstChunk (volume_of g) → IsApart plan
plan_apart g sector s Root plan is first =
    let w = empty_wanted g in
    record {
      once = planned_once g sector s plan is first;
      primary = has_place w is.is.placed is.bytes plan (range_with_len 16 8) is.is.rendered is.made.places' first_clear;
    }
plan_apart g sector s (Listed nodes contents) plan is first =
    let starts = chunk_starts g (length nodes) in
    record {
      once = filled_once g sector s nodes contents plan is first;
      primary =
          has_place (filled_wanted g nodes contents) is.placed (filled_bytes g sector s nodes contents is.placed.runs) plan (blocks_of_chunks starts) is.rendered refl
          (chunks_clear g (length nodes) first);
    }

-- the first of rows that ascend is at block 0, where one is
last_zero : (rows : List Row) (r : Row) → IsNonDecreasingBy (λ (o : Row). o.at) rows → r.at ≡ 0 → Contains rows r → All (λ (o : Row). o.at ≡ 0) (last_part rows)
last_zero [] r up none there = let low = there.1 in absurd (omega (arith, low))
last_zero (o ∷ rows) r up none there =
    let least : o.at ≤ (get_or (o ∷ rows) there.0 r).at = up 0 there.0 r (omega arith) there.1 in
    let same : (get_or (o ∷ rows) there.0 r).at ≡ r.at = ap (λ (x : Row). x.at) there.2 in
    All-cons (λ (x : Row). x.at ≡ 0) o [] (omega (arith, least, same, none)) (All-nil (λ (x : Row). x.at ≡ 0))

-- the others are not, where none is twice
none_zero : (rows : List Row) → sum_by (λ (r : Row). one_if (r.at == 0)) rows ≡ 0 → All (λ (r : Row). 1 ≤ r.at) rows
none_zero [] none = All-nil (λ (r : Row). 1 ≤ r.at)
none_zero (r ∷ rows) none =
    let sum = sum_by-cons (λ (o : Row). one_if (o.at == 0)) r rows in
    let rest : sum_by (λ (o : Row). one_if (o.at == 0)) rows ≡ 0 = omega (arith, sum, none) in
    All-cons (λ (o : Row). 1 ≤ o.at) r rows (above r.at (omega (arith, sum, none))) (none_zero rows rest)
  where
    above : (at : ℕ) → one_if (at == 0) ≡ 0 → 1 ≤ at
    above zero is = cc
    above (suc at) is = omega arith

first_above : (rows : List Row) → All (λ (r : Row). r.at ≡ 0) (last_part rows) → sum_by (λ (r : Row). one_if (r.at == 0)) rows ≤ 1
    → All (λ (r : Row). 1 ≤ r.at) (first_part rows)
first_above [] low once = All-nil (λ (r : Row). 1 ≤ r.at)
first_above (r ∷ rows) low once =
    let here : r.at ≡ 0 = All-head (λ (o : Row). o.at ≡ 0) r [] low in
    let one : one_if (r.at == 0) ≡ 1 = ap (λ (at : ℕ). one_if (at == 0)) here in
    let sum = sum_by-cons (λ (o : Row). one_if (o.at == 0)) r rows in
    none_zero rows (omega (arith, sum, one, once))

-- the blocks of a plan that has block 0, once: it is in the last part alone
pub record AreGuarded (rows : List Row) : Type 0 where
  pub last : All (λ (r : Row). r.at ≡ 0) (last_part rows)
  pub first : All (λ (r : Row). 1 ≤ r.at) (first_part rows)

pub guarded_rows : (plan : Plan) (rows : List Row) → AreRowsOfPlan plan rows → IsOnce (planned plan) → Contains (planned plan) 0 → AreGuarded rows
guarded_rows plan rows are once there =
    record { last = low; first = first_above rows low few }
  where
    d : Row
    d = record { at = 0; index = 0 }

    inside : there.0 < length (plan_rows plan)
    inside = omega (arith, count_plan plan, there.1)

    low : All (λ (r : Row). r.at ≡ 0) (last_part rows)
    low =
        let row : Row = get_or (plan_rows plan) there.0 d in
        let at : row.at ≡ 0 = sym (row_at plan there.0 d inside) ∙ there.2 in
        last_zero rows row are.ascend at
        (Contains-permutation (plan_rows plan) rows row are.all (there.0, inside, get_or_default (plan_rows plan) there.0 row d inside))

    few : sum_by (λ (r : Row). one_if (r.at == 0)) rows ≤ 1
    few =
        let same = sum_by-IsPermutation (λ (r : Row). one_if (r.at == 0)) (plan_rows plan) rows are.all in
        let all = count_planned plan 0 in
        omega (arith, same, all, once.each 0)

-- what holds of the blocks of rows holds of each that is written
written_at : (P : ℕ → Type 0) (bank : Image) (rows : List Row) (b : ℕ) (v : List ℕ) → All (λ (r : Row). P r.at) rows
    → Contains (writes_of_rows bank rows) (b, v) → P b
written_at P bank rows b v all there =
    let d : Row = record { at = 0; index = 0 } in
    let low : there.0 < length rows = omega (arith, length-map rows (write_of bank), there.1) in
    let is : write_of bank (get_or rows there.0 d) ≡ (b, v) = sym (get_or-map (write_of bank) rows there.0 d (b, v) low) ∙ there.2 in
    subst P (ap (λ (w : ℕ × List ℕ). w.0) is) (all there.0 d low)

-- the other blocks stay where block 0 is written
set_first : (image : Image) (bytes : List ℕ) (at b : ℕ) → at ≡ 0 → 1 ≤ b → slice_get (slice_set image at bytes) b ≡ slice_get image b
set_first image bytes (suc at) b low some = absurd (omega (arith, low))
set_first [] bytes zero b low some = refl
set_first (block ∷ image) bytes zero zero low some = absurd (omega (arith, some))
set_first (block ∷ image) bytes zero (suc b) low some = refl

others_stay : (bank : Image) (rows : List Row) (image : Image) (b : ℕ) → All (λ (r : Row). r.at ≡ 0) rows → 1 ≤ b
    → slice_get (written (writes_of_rows bank rows) image) b ≡ slice_get image b
others_stay bank [] image b low some = refl
others_stay bank (r ∷ rows) image b low some =
    others_stay bank rows (slice_set image r.at (get_or bank r.index [])) b (All-tail (λ (o : Row). o.at ≡ 0) r rows low) some
    ∙ set_first image (get_or bank r.index []) r.at b (All-head (λ (o : Row). o.at ≡ 0) r rows low) some

pub guarded_stop : (plan : Plan) (rows : List Row) (image stopped : Image) → AreGuarded rows
    → IsStopped (writes_of_rows plan.bank (first_part rows)) (writes_of_rows plan.bank (last_part rows)) image stopped
    → HasPrimaryLast image (written (all_writes plan rows) image) stopped
guarded_stop plan rows image stopped are (inl mixed) = inl (λ v is. elim (mixed.each 0 v is) [
  | inl old ↦ old
  | inr new ↦ let above = written_at (λ (at : ℕ). 1 ≤ at) plan.bank (first_part rows) 0 v are.first new in absurd (omega (arith, above))
])
guarded_stop plan rows image stopped are (inr mixed) = inr (λ b v some is. elim (mixed.each b v is) [
  | inl old ↦
      let first = first_part rows in
      let last = last_part rows in
      ap (λ (ws : Writes). slice_get (written ws image) b) (map-append (write_of plan.bank) first last)
      ∙ (ap (λ (i : Image). slice_get i b) (written-append (writes_of_rows plan.bank first) (writes_of_rows plan.bank last) image)
      ∙ (others_stay plan.bank last (written (writes_of_rows plan.bank first) image) b are.last some ∙ old))
  | inr new ↦ let zero : b ≡ 0 = written_at (λ (at : ℕ). at ≡ 0) plan.bank (last_part rows) b v are.last new in absurd (omega (arith, zero, some))
])

-- what a stop leaves of a volume that is made
pub made_stopped : (o : MakeOptions) (s : Stamp) (told : Option Files) (blocks : ℕ) (image stopped : Image) (g : Geometry) (plan : Plan) → IsPrepared o s told blocks g plan
    → IsPutStopped plan image stopped → IsMadeStopped o s told blocks image stopped
made_stopped o s told blocks image stopped g plan is put =
    let apart : IsApart plan = plan_apart g is.rendered.sector s is.asked plan is.rendered.is (first_chunk o s blocks g is.volume.chosen) in
    record {
      plan = plan;
      due = plan_of o s told blocks g plan is;
      put = put;
      block_0 = guarded_stop plan put.rows image stopped (guarded_rows plan put.rows put.order apart.once apart.primary) put.parts;
    }
