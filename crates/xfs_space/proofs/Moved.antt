-- The laws do not ask in which order the owned runs come.
use Rattle.std.proofs.Common.{◌≡◌, ℕ, zero, suc, Bool, true, false, cond, ◌+◌, ◌*◌, ◌≤◌, inl, inr, ◌==◌, if◌then◌else◌, nat_lt, List, [], ◌∷◌, ◌++◌, map, Option, Some, None, refl, sym, ◌∙◌, ap, ap₂, arith}
use Rattle.std.specs.List.{All, range_with_len, sum_by}
use Rattle.std.specs.List.Sorted.{IsPermutation}
use Rattle.std.proofs.lemmas.Bool.{cases_lt}
use Rattle.std.proofs.lemmas.Bool.Decides.{nat_tests}
use Rattle.std.proofs.lemmas.List.Sorted.{sum_by-IsPermutation}
use Rattle.std.proofs.lemmas.List.Sums.{sum_by-cons}
use Rattle.xfs_geom.specs.Runs.{covers, runs_on}
use Rattle.xfs_geom.specs.Volumes.{Volume}
use Rattle.xfs_geom.specs.declared.records.Run.{Run}
use Rattle.xfs_kinds.specs.MergedRuns.{held_at, offset_word_at}
use Rattle.xfs_volume.specs.declared.findings.Law.{Law}
use Rattle.xfs_volume.specs.declared.groups.GroupRec.{GroupRec}
use Rattle.xfs_volume.specs.Laws.{first_broken}
use Rattle.xfs_space.specs.Private.RunLaws.{AreLawful, run_laws}
use Rattle.xfs_kinds.specs.Lengths.{by_length}
use Rattle.xfs_space.specs.SpaceLaws.{AllAreFree, free_laws, free_spans, owner_at, owner_laws, owner_number, recorded_runs, sharing_at, sharing_laws, spans_at}
use Rattle.xfs_space.specs.Sorted.{IsOwned}
use Rattle.xfs_volume.proofs.First.{first_in}
use Rattle.xfs_space.proofs.Broken.{each_kept}
use Rattle.xfs_space.proofs.FreeSpans.{free_same}
use Rattle.xfs_space.proofs.Shared.{none_outside, on-cons}

pub on_moved : (xs ys : List Run) → IsPermutation xs ys → (b : ℕ) → runs_on ys b ≡ runs_on xs b
on_moved xs ys moved b = sum_by-IsPermutation (λ (r : Run). cond (covers b r) 1 0) xs ys moved

-- what the runs on a block have together
abbrev total : (Run → ℕ) → ℕ → List Run → ℕ
total f b xs = sum_by (λ (r : Run). cond (covers b r) (f r) 0) xs

total_none : (f : Run → ℕ) (b : ℕ) (xs : List Run) → runs_on xs b ≡ 0 → total f b xs ≡ 0
total_none f b [] none = refl
total_none f b (x ∷ xs) none = by_case (covers b x) (on-cons x xs b) (sum_by-cons (λ (r : Run). cond (covers b r) (f r) 0) x xs) (total_none f b xs)
  where
    by_case : (t : Bool) → runs_on (x ∷ xs) b ≡ cond t 1 0 + runs_on xs b → total f b (x ∷ xs) ≡ cond t (f x) 0 + total f b xs → (runs_on xs b ≡ 0 → total f b xs ≡ 0) → total f b (x ∷ xs) ≡ 0
    by_case true count sum rest = absurd (omega (arith, count, none))
    by_case false count sum rest = let few : runs_on xs b ≡ 0 = omega (arith, count, none) in let zero_sum = rest few in omega (arith, sum, zero_sum)

-- where at most one run has a block, what it has is what all on the block have together
held_total : (xs : List Run) (b : ℕ) → runs_on xs b ≤ 1 → held_at xs b ≡ (if runs_on xs b == 0 then None else Some (total (λ (r : Run). r.owner) b xs, total (λ (r : Run). offset_word_at r b) b xs))
held_total [] b once = refl
held_total (x ∷ xs) b once =
    by_case (covers b x) (on-cons x xs b) (sum_by-cons (λ (r : Run). cond (covers b r) r.owner 0) x xs) (sum_by-cons (λ (r : Run). cond (covers b r) (offset_word_at r b) 0) x xs) (held_total xs b)
  where
    owners : ℕ
    owners = total (λ (r : Run). r.owner) b (x ∷ xs)

    by_case : (t : Bool) → runs_on (x ∷ xs) b ≡ cond t 1 0 + runs_on xs b → total (λ (r : Run). r.owner) b (x ∷ xs) ≡ cond t x.owner 0 + total (λ (r : Run). r.owner) b xs
        → total (λ (r : Run). offset_word_at r b) b (x ∷ xs) ≡ cond t (offset_word_at x b) 0 + total (λ (r : Run). offset_word_at r b) b xs
        → (runs_on xs b ≤ 1 → held_at xs b ≡ (if runs_on xs b == 0 then None else Some (total (λ (r : Run). r.owner) b xs, total (λ (r : Run). offset_word_at r b) b xs)))
        → (if t then Some (x.owner, offset_word_at x b) else held_at xs b)
        ≡ (if runs_on (x ∷ xs) b == 0 then None else Some (total (λ (r : Run). r.owner) b (x ∷ xs), total (λ (r : Run). offset_word_at r b) b (x ∷ xs)))
    by_case true count owner word rest =
        let none : runs_on xs b ≡ 0 = omega (arith, count, once) in
        let some : (runs_on (x ∷ xs) b == 0) ≡ false = grind (arith, nat_tests, count) in
        let no_owner = total_none (λ (r : Run). r.owner) b xs none in
        let no_word = total_none (λ (r : Run). offset_word_at r b) b xs none in
        let one : x.owner ≡ total (λ (r : Run). r.owner) b (x ∷ xs) = omega (arith, owner, no_owner) in
        let other : offset_word_at x b ≡ total (λ (r : Run). offset_word_at r b) b (x ∷ xs) = omega (arith, word, no_word) in
        ap₂ (λ (o w : ℕ). Some (o, w)) one other ∙ sym (ap (λ (t : Bool). if t then None else Some (total (λ (r : Run). r.owner) b (x ∷ xs), total (λ (r : Run). offset_word_at r b) b (x ∷ xs))) some)
    by_case false count owner word rest =
        let same : runs_on (x ∷ xs) b ≡ runs_on xs b = omega (arith, count) in
        let one : total (λ (r : Run). r.owner) b xs ≡ total (λ (r : Run). r.owner) b (x ∷ xs) = omega (arith, owner) in
        let other : total (λ (r : Run). offset_word_at r b) b xs ≡ total (λ (r : Run). offset_word_at r b) b (x ∷ xs) = omega (arith, word) in
        rest (omega (arith, same, once))
        ∙ ap₂ (λ (n : ℕ) (p : ℕ × ℕ). if n == 0 then None else Some p) (sym same) (ap₂ (λ (o w : ℕ). let p : ℕ × ℕ = (o, w) in p) one other)

pub held_moved : (xs ys : List Run) → IsPermutation xs ys → (b : ℕ) → runs_on xs b ≤ 1 → held_at ys b ≡ held_at xs b
held_moved xs ys moved b once =
    let same = on_moved xs ys moved b in
    let owner = sum_by-IsPermutation (λ (r : Run). cond (covers b r) r.owner 0) xs ys moved in
    let word = sum_by-IsPermutation (λ (r : Run). cond (covers b r) (offset_word_at r b) 0) xs ys moved in
    held_total ys b (omega (arith, same, once))
    ∙ ap₂ (λ (n : ℕ) (p : ℕ × ℕ). if n == 0 then None else Some p) same (ap₂ (λ (o w : ℕ). let p : ℕ × ℕ = (o, w) in p) owner word)
    ∙ sym (held_total xs b once)

map_same : (f g : ℕ → Law) (a n : ℕ) → ((b : ℕ) → f b ≡ g b) → map f (range_with_len a n) ≡ map g (range_with_len a n)
map_same f g a zero same = refl
map_same f g a (suc n) same = ap₂ (λ (l : Law) (ls : List Law). l ∷ ls) (same a) (map_same f g (a + 1) n same)

sharing_moved : (v : Volume) (xs ys : List Run) → IsPermutation xs ys → sharing_laws v ys ≡ sharing_laws v xs
unfolding sharing_laws
sharing_moved v xs ys moved =
    map_same (sharing_at ys) (sharing_at xs) 0 v.dblocks
    (λ b. ap (λ (n : ℕ). let l : Law = record { law = 1; place = b; held = n; due = if nat_lt 1 n then 1 else n } in l) (on_moved xs ys moved b))

free_moved : (v : Volume) (xs ys : List Run) (ag : ℕ) (gs : List GroupRec) → IsPermutation xs ys → free_laws v ys ag gs ≡ free_laws v xs ag gs
free_moved v xs ys ag [] moved = refl
free_moved v xs ys ag (g ∷ gs) moved =
    let same = free_same v ag ys xs (λ b h. on_moved xs ys moved (ag * v.agblocks + b)) in
    ap (λ ss. spans_at (2 * ag) g.bno ss ∷ spans_at (2 * ag + 1) g.cnt (by_length ss) ∷ free_laws v ys (ag + 1) gs) same
    ∙ ap (λ (ls : List Law). spans_at (2 * ag) g.bno (free_spans v xs ag) ∷ spans_at (2 * ag + 1) g.cnt (by_length (free_spans v xs ag)) ∷ ls) (free_moved v xs ys (ag + 1) gs moved)

owners_moved : (v : Volume) (recorded xs ys : List Run) → IsPermutation xs ys → ((b : ℕ) → runs_on xs b ≤ 1) → owner_laws v recorded ys ≡ owner_laws v recorded xs
unfolding owner_laws
owners_moved v recorded xs ys moved once =
    map_same (owner_at recorded ys) (owner_at recorded xs) 0 v.dblocks
    (λ b. ap (λ (p : Option (ℕ × ℕ)). let l : Law = record { law = 3; place = b; held = owner_number (held_at recorded b); due = owner_number p } in l) (held_moved xs ys moved b (once b)))

few : (n : ℕ) → n ≡ (if nat_lt 1 n then 1 else n) → n ≤ 1
few n e =
    elim (cases_lt 1 n) [
      | inl many ↦ let t : nat_lt 1 n ≡ true = grind (arith, nat_tests, many) in let one : n ≡ 1 = rw t at e in omega (arith, one)
      | inr h ↦ h
    ]

-- where the first law is kept, no block has two owners
pub kept_once : (v : Volume) (xs : List Run) → All (IsOwned v) xs → first_broken (sharing_laws v xs) ≡ None → (b : ℕ) → runs_on xs b ≤ 1
unfolding sharing_laws
kept_once v xs owned none b =
    elim (cases_lt b v.dblocks) [
      | inl low ↦ few (runs_on xs b) (each_kept (sharing_at xs) 0 v.dblocks none b (omega arith) (omega (arith, low)))
      | inr high ↦ let zero_on = none_outside v xs b owned high in omega (arith, zero_on)
    ]

-- the first broken law is the same
pub laws_moved : (v : Volume) (gs : List GroupRec) (xs ys : List Run) → IsPermutation xs ys → All (IsOwned v) xs → first_broken (run_laws v gs ys) ≡ first_broken (run_laws v gs xs)
laws_moved v gs xs ys moved owned = by_case (first_broken (sharing_laws v xs)) refl
  where
    frees : List Run → List Law
    frees rs = free_laws v rs 0 gs

    by_case : (o : Option Law) → first_broken (sharing_laws v xs) ≡ o → first_broken (run_laws v gs ys) ≡ first_broken (run_laws v gs xs)
    by_case (Some l) e =
        let all = λ (rs : List Run) (some : first_broken (sharing_laws v rs) ≡ Some l).
        first_in (sharing_laws v rs ++ free_laws v rs 0 gs) (owner_laws v (recorded_runs v.agblocks 0 gs) rs) l (first_in (sharing_laws v rs) (free_laws v rs 0 gs) l some) in
        all ys (ap first_broken (sharing_moved v xs ys moved) ∙ e) ∙ sym (all xs e)
    by_case None e =
        let owners = owners_moved v (recorded_runs v.agblocks 0 gs) xs ys moved (kept_once v xs owned e) in
        ap first_broken (ap₂ (λ (a b : List Law). a ++ b) (ap₂ (λ (a b : List Law). a ++ b) (sharing_moved v xs ys moved) (free_moved v xs ys 0 gs moved)) owners)

all_free_moved : (v : Volume) (xs ys : List Run) (ag : ℕ) (gs : List GroupRec) → IsPermutation xs ys → AllAreFree v ys ag gs → AllAreFree v xs ag gs
all_free_moved v xs ys ag [] moved free = tt
all_free_moved v xs ys ag (g ∷ gs) moved free =
    let same = free_same v ag ys xs (λ b h. on_moved xs ys moved (ag * v.agblocks + b)) in
    (record { by_start = free.0.by_start ∙ same; by_count = free.0.by_count ∙ ap by_length same }, all_free_moved v xs ys (ag + 1) gs moved free.1)

pub lawful_moved : (v : Volume) (gs : List GroupRec) (xs ys : List Run) → IsPermutation xs ys → AreLawful v gs ys → AreLawful v gs xs
lawful_moved v gs xs ys moved lawful =
    let once = λ (b : ℕ). let same = on_moved xs ys moved b in let few_on : runs_on ys b ≤ 1 = lawful.once b in let m : runs_on xs b ≤ 1 = omega (arith, same, few_on) in m in
    record {
      once = once;
      free = all_free_moved v xs ys 0 gs moved lawful.free;
      owners = λ b. lawful.owners b ∙ held_moved xs ys moved b (once b);
    }
