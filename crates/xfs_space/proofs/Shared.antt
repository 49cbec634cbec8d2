-- Blocks with two owners, found by one sweep over the runs in order.
use Rattle.std.proofs.Common.{◌≡◌, ℕ, ◌+◌, ◌^◌, ◌<◌, ◌≤◌, Bool, true, false, cond, ◌⊎◌, inl, inr, if◌then◌else◌, nat_lt, List, [], ◌∷◌, Option, Some, None, refl, ◌∙◌, ap, arith, length, drop, get_or, drop-cons}
use Rattle.std.specs.List.{All}
use Rattle.std.proofs.lemmas.Bool.{cases_lt}
use Rattle.std.proofs.lemmas.Bool.Decides.{nat_tests}
use Rattle.std.proofs.lemmas.List.Elements.{All-head, All-tail}
use Rattle.std.proofs.lemmas.List.Sums.{sum_by-cons}
use Rattle.xfs_geom.specs.Runs.{covers, runs_on}
use Rattle.xfs_geom.specs.Volumes.{Volume}
use Rattle.xfs_geom.specs.declared.records.Run.{Run}
use Rattle.xfs_volume.specs.Laws.{first_broken, law_at}
use Rattle.xfs_space.specs.SpaceLaws.{sharing_at, sharing_laws}
use Rattle.xfs_space.specs.Sorted.{Follow, IsFirstShared, IsOwned, IsSized, StartsRise}
use Rattle.xfs_space.proofs.Broken.{none_broken, least_broken}

-- the start of the first run that begins before the end of the one before it
abbrev pub overlap : ℕ → List Run → Option ℕ
overlap end [] = None
overlap end (x ∷ xs) = if nat_lt x.start end then Some x.start else overlap (x.start + x.count) xs

pub on-cons : (x : Run) (xs : List Run) (b : ℕ) → runs_on (x ∷ xs) b ≡ cond (covers b x) 1 0 + runs_on xs b
on-cons x xs b = sum_by-cons (λ r. cond (covers b r) 1 0) x xs

pub on_one : (x : Run) (xs : List Run) (b : ℕ) → x.start ≤ b → b < x.start + x.count → runs_on (x ∷ xs) b ≡ 1 + runs_on xs b
on_one x xs b low high = let has : covers b x ≡ true = grind (arith, nat_tests, low, high) in on-cons x xs b ∙ rw has refl

pub on_none : (x : Run) (xs : List Run) (b : ℕ) → (b < x.start) ⊎ (x.start + x.count ≤ b) → runs_on (x ∷ xs) b ≡ runs_on xs b
on_none x xs b off =
    let not : covers b x ≡ false = grind (arith, nat_tests, off) in
    let none : ◌≡◌ {A = ℕ} (cond (covers b x) 1 0) 0 = rw not refl in
    let all : runs_on (x ∷ xs) b ≡ cond (covers b x) 1 0 + runs_on xs b = on-cons x xs b in
    omega (arith, none, all)

one_or_none : (t : Bool) → ◌≤◌ (cond t 1 0) 1
one_or_none true = omega arith
one_or_none false = omega arith

-- no run has a block before the first of them
pub follow_before : (xs : List Run) (low b : ℕ) → Follow low xs → b < low → runs_on xs b ≡ 0
follow_before [] low b apart h = refl
follow_before (x ∷ xs) low b apart h =
    on_none x xs b (inl (omega (arith, apart.0, h))) ∙ follow_before xs (x.start + x.count) b apart.2 (omega (arith, apart.0, h))

rise_before : (xs : List Run) (low b : ℕ) → StartsRise low xs → b < low → runs_on xs b ≡ 0
rise_before [] low b up h = refl
rise_before (x ∷ xs) low b up h = on_none x xs b (inl (omega (arith, up.0, h))) ∙ rise_before xs x.start b up.1 (omega (arith, up.0, h))

-- runs that follow each other share no block
pub follow_once : (xs : List Run) (low : ℕ) → Follow low xs → (b : ℕ) → runs_on xs b ≤ 1
follow_once [] low apart b = omega arith
follow_once (x ∷ xs) low apart b =
    let more : runs_on (x ∷ xs) b ≡ cond (covers b x) 1 0 + runs_on xs b = on-cons x xs b in
    let one : ◌≤◌ (cond (covers b x) 1 0) 1 = one_or_none (covers b x) in
    elim (cases_lt b (x.start + x.count)) [
      | inl inside ↦ let none : runs_on xs b ≡ 0 = follow_before xs (x.start + x.count) b apart.2 inside in omega (arith, more, one, none)
      | inr past ↦
          let same : runs_on (x ∷ xs) b ≡ runs_on xs b = on_none x xs b (inr past) in
          let rest : runs_on xs b ≤ 1 = follow_once xs (x.start + x.count) apart.2 b in
          omega (arith, same, rest)
    ]

not_less : (a b : ℕ) → nat_lt a b ≡ false → b ≤ a
not_less a b e = grind (arith, nat_tests)

less : (a b : ℕ) → nat_lt a b ≡ true → a < b
less a b e = grind (arith, nat_tests)

pub overlap_at : (xs : List Run) (i end : ℕ) (d : Run) → i < length xs → (get_or xs i d).start < end → overlap end (drop i xs) ≡ Some (get_or xs i d).start
overlap_at xs i end d h early = let early_test : nat_lt (get_or xs i d).start end ≡ true = grind (arith, nat_tests, early) in rw (drop-cons xs i d h, early_test) refl

-- where no run begins before the end of the one before it, they follow each other
pub none_overlap : (xs : List Run) (end : ℕ) → overlap end xs ≡ None → All IsSized xs → Follow end xs
none_overlap [] end none sized = tt
none_overlap (x ∷ xs) end none sized = by_case (nat_lt x.start end) refl none (none_overlap xs (x.start + x.count))
  where
    by_case : (t : Bool) → nat_lt x.start end ≡ t → (if t then Some x.start else overlap (x.start + x.count) xs) ≡ None
        → (overlap (x.start + x.count) xs ≡ None → All IsSized xs → Follow (x.start + x.count) xs) → Follow end (x ∷ xs)
    by_case true e none rest = absurd (cc)
    by_case false e none rest = (not_less x.start end e, (All-head IsSized x xs sized).some, rest none (All-tail IsSized x xs sized))

-- a run that begins before the end of the one before it shares its first block, and no block is shared before
pub first_overlap : (x : Run) (xs : List Run) (b : ℕ) → overlap (x.start + x.count) xs ≡ Some b → All IsSized xs → StartsRise x.start xs → IsFirstShared (x ∷ xs) b
first_overlap x [] b some sized up = absurd (cc)
first_overlap x (y ∷ ys) b some sized up = by_case (nat_lt y.start (x.start + x.count)) refl some (first_overlap y ys b)
  where
    by_case : (t : Bool) → nat_lt y.start (x.start + x.count) ≡ t → (if t then Some y.start else overlap (y.start + y.count) ys) ≡ Some b
        → (overlap (y.start + y.count) ys ≡ Some b → All IsSized ys → StartsRise y.start ys → IsFirstShared (y ∷ ys) b) → IsFirstShared (x ∷ y ∷ ys) b
    by_case true e some rest =
        let at : y.start ≡ b = cc in
        let before = less y.start (x.start + x.count) e in
        let count = (All-head IsSized y ys sized).some in
        let two : runs_on (x ∷ y ∷ ys) b ≡ 1 + runs_on (y ∷ ys) b = on_one x (y ∷ ys) b (omega (arith, up.0, at)) (omega (arith, before, at)) in
        let one : runs_on (y ∷ ys) b ≡ 1 + runs_on ys b = on_one y ys b (omega (arith, at)) (omega (arith, at, count)) in
        record {
          shared = omega (arith, two, one);
          least = λ c h.
              let none : runs_on (y ∷ ys) c ≡ 0 = rise_before (y ∷ ys) y.start c (omega arith, up.1) (omega (arith, h, at)) in
              let more : runs_on (x ∷ y ∷ ys) c ≡ cond (covers c x) 1 0 + runs_on (y ∷ ys) c = on-cons x (y ∷ ys) c in
              let most : ◌≤◌ (cond (covers c x) 1 0) 1 = one_or_none (covers c x) in
              omega (arith, none, more, most);
        }
    by_case false e some rest =
        let behind = not_less y.start (x.start + x.count) e in
        let others = rest some (All-tail IsSized y ys sized) up.1 in
        let more : runs_on (x ∷ y ∷ ys) b ≡ cond (covers b x) 1 0 + runs_on (y ∷ ys) b = on-cons x (y ∷ ys) b in
        let many = others.shared in
        record {
          shared = omega (arith, more, many);
          least = λ c h.
              let rest_least : runs_on (y ∷ ys) c ≤ 1 = others.least c h in
              elim (cases_lt c (x.start + x.count)) [
                | inl inside ↦
                    let none : runs_on (y ∷ ys) c ≡ 0 = rise_before (y ∷ ys) y.start c (omega arith, up.1) (omega (arith, inside, behind)) in
                    let less_more : runs_on (x ∷ y ∷ ys) c ≡ cond (covers c x) 1 0 + runs_on (y ∷ ys) c = on-cons x (y ∷ ys) c in
                    let most : ◌≤◌ (cond (covers c x) 1 0) 1 = one_or_none (covers c x) in
                    omega (arith, none, less_more, most)
                | inr past ↦
                    let same : runs_on (x ∷ y ∷ ys) c ≡ runs_on (y ∷ ys) c = on_none x (y ∷ ys) c (inr past) in
                    omega (arith, same, rest_least)
              ];
        }

-- the same from the first run on
pub first_of_all : (xs : List Run) (b : ℕ) → overlap 0 xs ≡ Some b → All IsSized xs → StartsRise 0 xs → IsFirstShared xs b
first_of_all [] b some sized up = absurd (cc)
first_of_all (x ∷ xs) b some sized up =
    let none : nat_lt x.start 0 ≡ false = grind (arith, nat_tests) in
    first_overlap x xs b (rw none at some) (All-tail IsSized x xs sized) up.1

-- a block behind the volume has no owner
pub none_outside : (v : Volume) (xs : List Run) (b : ℕ) → All (IsOwned v) xs → v.dblocks ≤ b → runs_on xs b ≡ 0
none_outside v [] b owned h = refl
none_outside v (x ∷ xs) b owned h =
    let inside = (All-head (IsOwned v) x xs owned).inside in
    on_none x xs b (inr (omega (arith, inside, h))) ∙ none_outside v xs b (All-tail (IsOwned v) x xs owned) h

one_due : (n : ℕ) → 1 < n → (if nat_lt 1 n then 1 else n) ≡ 1
one_due n h = let many : nat_lt 1 n ≡ true = grind (arith, nat_tests, h) in rw many refl

as_held : (n : ℕ) → n ≤ 1 → n ≡ (if nat_lt 1 n then 1 else n)
as_held n h = let few : nat_lt 1 n ≡ false = grind (arith, nat_tests, h) in rw few refl

-- the law that no block has two owners
pub sharing_kept : (v : Volume) (xs : List Run) → ((b : ℕ) → runs_on xs b ≤ 1) → first_broken (sharing_laws v xs) ≡ None
unfolding sharing_laws
sharing_kept v xs once = none_broken (sharing_at xs) 0 v.dblocks (λ b low high. as_held (runs_on xs b) (once b))

pub sharing_broken : (v : Volume) (xs : List Run) (b : ℕ) → All (IsOwned v) xs → IsFirstShared xs b → first_broken (sharing_laws v xs) ≡ Some (law_at 1 b (runs_on xs b) 1)
unfolding sharing_laws
sharing_broken v xs b owned first =
    let many = first.shared in
    let due = one_due (runs_on xs b) many in
    let there : b < v.dblocks = elim (cases_lt b v.dblocks) [ inl h ↦ h | inr h ↦ let none : runs_on xs b ≡ 0 = none_outside v xs b owned h in absurd (omega (arith, none, many)) ] in
    least_broken (sharing_at xs) 0 v.dblocks b (omega arith) (omega (arith, there)) (λ same. let one : runs_on xs b ≡ 1 = same ∙ due in omega (arith, one, many))
    (λ c low high. as_held (runs_on xs c) (first.least c high))
    ∙ ap (λ (n : ℕ). Some (law_at 1 b (runs_on xs b) n)) due

-- owned runs of a volume have small numbers
pub all_sized : (v : Volume) (xs : List Run) → v.dblocks ≤ 2 ^ 26 → All (IsOwned v) xs → All IsSized xs
all_sized v xs small owned k d h = let here = owned k d h in sized (get_or xs k d) here.some here.inside
  where
    sized : (x : Run) → 1 ≤ x.count → x.start + x.count ≤ v.dblocks → IsSized x
    sized x some inside = record { some = some; end = omega (arith, inside, small) }
