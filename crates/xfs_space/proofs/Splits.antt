-- Runs before a block and behind it.
use Rattle.std.proofs.Common.{◌≡◌, ℕ, zero, suc, ◌+◌, ◌<◌, ◌≤◌, ◌⊎◌, inl, inr, Bool, true, false, cond, List, [], ◌∷◌, ◌++◌, length, take, drop, get_or, Some, None, refl, sym, ◌∙◌, ap, ap₂, subst, arith, take-append-drop}
use Rattle.std.specs.List.{All}
use Rattle.std.proofs.lemmas.Bool.Decides.{nat_tests}
use Rattle.std.proofs.lemmas.List.Elements.{All-head, All-tail, All-nil, All-cons, All-take}
use Rattle.std.proofs.lemmas.List.Sums.{sum_by-append}
use Rattle.xfs_geom.specs.Runs.{covers, runs_on}
use Rattle.xfs_disk.specs.Lists.{is_in_range}
use Rattle.xfs_geom.specs.declared.records.Run.{Run}
use Rattle.xfs_kinds.specs.MergedRuns.{held_at, offset_word_at}
use Rattle.xfs_space.specs.Sorted.{Follow, IsSplit}
use Rattle.xfs_space.proofs.Shared.{on_none}

abbrev pub EndsBy : ℕ → Run → Type 0
EndsBy block r = r.start + r.count ≤ block

abbrev pub StartsFrom : ℕ → Run → Type 0
StartsFrom block r = block ≤ r.start

-- runs that follow begin behind
pub all_behind : (xs : List Run) (low block : ℕ) → Follow low xs → block ≤ low → All (StartsFrom block) xs
all_behind [] low block follow h = All-nil (StartsFrom block)
all_behind (x ∷ xs) low block follow h =
    All-cons (StartsFrom block) x xs (omega (arith, follow.0, h)) (all_behind xs (x.start + x.count) block follow.2 (omega (arith, follow.0, h)))

follow_drop : (xs : List Run) (low i : ℕ) (d : Run) → Follow low xs → i < length xs → Follow (get_or xs i d).start (drop i xs)
follow_drop [] low i d follow h = absurd (omega (arith, h))
follow_drop (x ∷ xs) low zero d follow h = (omega arith, follow.1, follow.2)
follow_drop (x ∷ xs) low (suc i) d follow h = follow_drop xs (x.start + x.count) i d follow.2 (omega (arith, h))

-- the runs from one on that begins behind the block
pub behind_from : (xs : List Run) (low i block : ℕ) (d : Run) → Follow low xs → i < length xs → block ≤ (get_or xs i d).start → All (λ (r : Run). block ≤ r.start) (drop i xs)
behind_from xs low i block d follow h from = all_behind (drop i xs) (get_or xs i d).start block (follow_drop xs low i d follow h) from

-- a place at which runs are split
pub split_place : (runs front back : List Run) (i block : ℕ) → front ≡ take i runs → back ≡ drop i runs → All (λ (r : Run). r.start < block → r.start + r.count ≤ block) runs
    → All (λ (r : Run). r.start < block) (take i runs) → All (λ (r : Run). block ≤ r.start) (drop i runs) → IsSplit block runs front back
split_place runs front back i block is_front is_back apart low high = record {
  whole = sym (take-append-drop i runs) ∙ ap₂ (λ (xs ys : List Run). xs ++ ys) (sym is_front) (sym is_back);
  before = subst (λ (xs : List Run). All (EndsBy block) xs) (sym is_front) (λ k d h. All-take (λ (r : Run). r.start < block → r.start + r.count ≤ block) i runs apart k d h (low k d h));
  behind = subst (λ (xs : List Run). All (StartsFrom block) xs) (sym is_back) high;
}

abbrev pub no_run : Run
no_run = record { start = 0; count = 0; owner = 0; offset_word = 0 }

-- no run of a list that ends by a block has one behind it
pub none_on_front : (xs : List Run) (block b : ℕ) → All (EndsBy block) xs → block ≤ b → runs_on xs b ≡ 0
none_on_front [] block b ends h = refl
none_on_front (x ∷ xs) block b ends h =
    let end : x.start + x.count ≤ block = All-head (EndsBy block) x xs ends in
    on_none x xs b (inr (omega (arith, end, h))) ∙ none_on_front xs block b (All-tail (EndsBy block) x xs ends) h

pub none_on_back : (xs : List Run) (block b : ℕ) → All (StartsFrom block) xs → b < block → runs_on xs b ≡ 0
none_on_back [] block b starts h = refl
none_on_back (x ∷ xs) block b starts h =
    let start : block ≤ x.start = All-head (StartsFrom block) x xs starts in
    on_none x xs b (inl (omega (arith, start, h))) ∙ none_on_back xs block b (All-tail (StartsFrom block) x xs starts) h

pub held_off : (x : Run) (xs : List Run) (b : ℕ) → (b < x.start) ⊎ (x.start + x.count ≤ b) → held_at (x ∷ xs) b ≡ held_at xs b
held_off x xs b off = let not : is_in_range x.start x.count b ≡ false = grind (arith, nat_tests, off) in rw not refl

pub held_on : (x : Run) (xs : List Run) (b : ℕ) → x.start ≤ b → b < x.start + x.count → held_at (x ∷ xs) b ≡ Some (x.owner, offset_word_at x b)
held_on x xs b low high = let has : is_in_range x.start x.count b ≡ true = grind (arith, nat_tests, low, high) in rw has refl

pub none_held_back : (xs : List Run) (block b : ℕ) → All (StartsFrom block) xs → b < block → held_at xs b ≡ None
none_held_back [] block b starts h = refl
none_held_back (x ∷ xs) block b starts h =
    let start : block ≤ x.start = All-head (StartsFrom block) x xs starts in
    held_off x xs b (inl (omega (arith, start, h))) ∙ none_held_back xs block b (All-tail (StartsFrom block) x xs starts) h

pub none_held_front : (xs : List Run) (block b : ℕ) → All (EndsBy block) xs → block ≤ b → held_at xs b ≡ None
none_held_front [] block b ends h = refl
none_held_front (x ∷ xs) block b ends h =
    let end : x.start + x.count ≤ block = All-head (EndsBy block) x xs ends in
    held_off x xs b (inr (omega (arith, end, h))) ∙ none_held_front xs block b (All-tail (EndsBy block) x xs ends) h

pub held_front : (front back : List Run) (block b : ℕ) → All (StartsFrom block) back → b < block → held_at (front ++ back) b ≡ held_at front b
held_front [] back block b starts h = none_held_back back block b starts h
held_front (x ∷ xs) back block b starts h = by_case (is_in_range x.start x.count b) (held_front xs back block b starts h)
  where
    by_case : (t : Bool) → held_at (xs ++ back) b ≡ held_at xs b
        → cond t (Some (x.owner, offset_word_at x b)) (held_at (xs ++ back) b) ≡ cond t (Some (x.owner, offset_word_at x b)) (held_at xs b)
    by_case true same = refl
    by_case false same = same

pub held_back : (front back : List Run) (block b : ℕ) → All (EndsBy block) front → block ≤ b → held_at (front ++ back) b ≡ held_at back b
held_back [] back block b ends h = refl
held_back (x ∷ xs) back block b ends h =
    let end : x.start + x.count ≤ block = All-head (EndsBy block) x xs ends in
    held_off x (xs ++ back) b (inr (omega (arith, end, h))) ∙ held_back xs back block b (All-tail (EndsBy block) x xs ends) h

follow_front : (front back : List Run) (low : ℕ) → Follow low (front ++ back) → Follow low front
follow_front [] back low follow = tt
follow_front (x ∷ xs) back low follow = (follow.0, follow.1, follow_front xs back (x.start + x.count) follow.2)

follow_back : (front back : List Run) (low block : ℕ) → Follow low (front ++ back) → All (StartsFrom block) back → Follow block back
follow_back [] [] low block follow starts = tt
follow_back [] (y ∷ ys) low block follow starts = (All-head (StartsFrom block) y ys starts, follow.1, follow.2)
follow_back (x ∷ xs) back low block follow starts = follow_back xs back (x.start + x.count) block follow.2 starts

-- what split runs keep
pub record Parts (low block : ℕ) (runs front back : List Run) : Type 0 where
  pub follow_front : Follow low front
  pub follow_back : Follow block back
  pub on_front : (b : ℕ) → b < block → runs_on runs b ≡ runs_on front b
  pub on_back : (b : ℕ) → block ≤ b → runs_on runs b ≡ runs_on back b
  pub held_front : (b : ℕ) → b < block → held_at runs b ≡ held_at front b
  pub held_back : (b : ℕ) → block ≤ b → held_at runs b ≡ held_at back b

pub parts_of : (low block : ℕ) (runs front back : List Run) → Follow low runs → IsSplit block runs front back → Parts low block runs front back
parts_of low block runs front back follow split =
    let whole = split.whole in
    let up : Follow low (front ++ back) = subst (λ (rs : List Run). Follow low rs) whole follow in
    let sum = λ (b : ℕ). sum_by-append (λ (r : Run). cond (covers b r) 1 0) front back in
    record {
      follow_front = follow_front front back low up;
      follow_back = follow_back front back low block up split.behind;
      on_front = λ b h.
          let all : runs_on (front ++ back) b ≡ runs_on front b + runs_on back b = sum b in
          let none : runs_on back b ≡ 0 = none_on_back back block b split.behind h in
          let same : runs_on (front ++ back) b ≡ runs_on front b = omega (arith, all, none) in
          ap (λ (rs : List Run). runs_on rs b) whole ∙ same;
      on_back = λ b h.
          let all : runs_on (front ++ back) b ≡ runs_on front b + runs_on back b = sum b in
          let none : runs_on front b ≡ 0 = none_on_front front block b split.before h in
          let same : runs_on (front ++ back) b ≡ runs_on back b = omega (arith, all, none) in
          ap (λ (rs : List Run). runs_on rs b) whole ∙ same;
      held_front = λ b h. ap (λ (rs : List Run). held_at rs b) whole ∙ held_front front back block b split.behind h;
      held_back = λ b h. ap (λ (rs : List Run). held_at rs b) whole ∙ held_back front back block b split.before h;
    }
