-- Runs of a group by the blocks of the volume.
use Rattle.std.proofs.Common.{◌≡◌, ℕ, ◌+◌, ◌-◌, ◌≤◌, ◌<◌, Bool, true, false, cond, if◌then◌else◌, List, [], ◌∷◌, map, Option, Some, refl, sym, ◌∙◌, ap, ap₂, arith}
use Rattle.std.specs.List.{All}
use Rattle.std.proofs.lemmas.Bool.Decides.{nat_tests}
use Rattle.std.proofs.lemmas.List.Elements.{All-map}
use Rattle.xfs_geom.specs.Runs.{runs_on}
use Rattle.xfs_disk.specs.Lists.{is_in_range}
use Rattle.xfs_geom.specs.declared.records.RmapRec.{RmapRec}
use Rattle.xfs_geom.specs.declared.records.Run.{Run}
use Rattle.xfs_kinds.specs.MergedRuns.{held_at, offset_word_at}
use Rattle.xfs_kinds.specs.OffsetWords.{is_file_data}
use Rattle.xfs_place.specs.Placing.{run_of_record}
use Rattle.xfs_space.specs.Owners.{new_run}
use Rattle.xfs_space.specs.SpaceLaws.{recorded_run}
use Rattle.xfs_space.proofs.Shared.{on-cons}
use Rattle.xfs_space.proofs.Splits.{EndsBy, StartsFrom, none_on_back, none_on_front}

abbrev pub moved : ℕ → Run → Run
moved base r = new_run (base + r.start) r.count r.owner r.offset_word

same_block : (base start count b : ℕ) → is_in_range (base + start) count (base + b) ≡ is_in_range start count b
same_block base start count b = grind (arith, nat_tests)

moved_word : (base : ℕ) (r : Run) (b : ℕ) → offset_word_at (moved base r) (base + b) ≡ offset_word_at r b
moved_word base r b = by_case (is_file_data r.owner r.offset_word)
  where
    by_case : (t : Bool) → (if t then r.offset_word + (base + b - (base + r.start)) else r.offset_word) ≡ (if t then r.offset_word + (b - r.start) else r.offset_word)
    by_case true = omega arith
    by_case false = refl

pub moved_held : (base : ℕ) (rs : List Run) (b : ℕ) → held_at (map (moved base) rs) (base + b) ≡ held_at rs b
moved_held base [] b = refl
moved_held base (r ∷ rs) b =
    ap (λ (t : Bool). if t then Some (r.owner, offset_word_at (moved base r) (base + b)) else held_at (map (moved base) rs) (base + b)) (same_block base r.start r.count b)
    ∙ ap₂ (λ (w : ℕ) (o : Option (ℕ × ℕ)). if is_in_range r.start r.count b then Some (r.owner, w) else o) (moved_word base r b) (moved_held base rs b)

pub moved_on : (base : ℕ) (rs : List Run) (b : ℕ) → runs_on (map (moved base) rs) (base + b) ≡ runs_on rs b
moved_on base [] b = refl
moved_on base (r ∷ rs) b =
    on-cons (moved base r) (map (moved base) rs) (base + b)
    ∙ ap₂ (λ (t : Bool) (n : ℕ). cond t 1 0 + n) (same_block base r.start r.count b) (moved_on base rs b)
    ∙ sym (on-cons r rs b)

-- no such run has a block outside of the group
pub none_before : (base : ℕ) (rs : List Run) (x : ℕ) → x < base → runs_on (map (moved base) rs) x ≡ 0
none_before base rs x before =
    none_on_back (map (moved base) rs) base x (All-map (StartsFrom base) (moved base) rs (λ k d low. omega arith)) before

pub none_behind : (base top : ℕ) (rs : List Run) (x : ℕ) → All (EndsBy top) rs → base + top ≤ x → runs_on (map (moved base) rs) x ≡ 0
none_behind base top rs x ends behind =
    none_on_front (map (moved base) rs) (base + top) x (All-map (EndsBy (base + top)) (moved base) rs (λ k d low. omega (arith, ends k d low))) behind

-- recorded runs
pub recorded_moved : (base : ℕ) (records : List RmapRec) → map (recorded_run base) records ≡ map (moved base) (map run_of_record records)
recorded_moved base [] = refl
recorded_moved base (r ∷ rs) = ap (λ (xs : List Run). recorded_run base r ∷ xs) (recorded_moved base rs)
