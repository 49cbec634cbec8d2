-- The names that are wanted are one, and so is how the runs of a plan are shared out among what is asked for.
use Rattle.std.proofs.Common.{◌≡◌, ℕ, zero, suc, ◌+◌, ◌≤◌, List, [], ◌∷◌, ◌++◌, take, drop, length, refl, sym, ap, ap₂, ◌∙◌, subst, arith}
use Rattle.std.specs.List.{AllByRecursion, sum_by}
use Rattle.std.proofs.lemmas.List.Elements.{recursion_from_All}
use Rattle.std.proofs.lemmas.List.Sums.{sum_by-cons}
use Rattle.xfs_disk.specs.declared.stamp.Stamp.{Stamp}
use Rattle.xfs_empty.specs.Planning.{StandsFor}
use Rattle.xfs_geom.specs.declared.geometry.Geometry.{Geometry}
use Rattle.xfs_geom.specs.declared.records.Run.{Run}
use Rattle.xfs_names.specs.declared.records.WantedNames.{WantedNames}
use Rattle.xfs_place.specs.Claims.{IsClaimedRun}
use Rattle.xfs_place.specs.Objects.{AreJoined, ServeAsks, rest_of}
use Rattle.xfs_place.specs.Wanted.{kept_runs}
use Rattle.xfs_place.specs.declared.placed.Placed.{Placed}
use Rattle.xfs_place.specs.declared.wanted.RunAsk.{RunAsk}
use Rattle.xfs_place.specs.declared.wanted.Wanted.{Wanted}
use Rattle.xfs_mend.specs.xfs_rebuild.Rebuilds.{AreNamesDue, Ground}
use Rattle.xfs_mend.specs.xfs_rebuild.declared.names_due.NamesDue.{NamesDue}
use Rattle.xfs_mend.specs.xfs_rename.Settled.{AreWanted}
use Rattle.xfs_changes.specs.declared.lost_found.Lost.{Lost}

pub names_one : (g : Geometry) (n : NamesDue) (l : Lost) (w x : WantedNames) → AreWanted g n l w → AreWanted g n l x → w ≡ x
names_one g n l w x a b =
    let entries = a.entries' ∙ sym b.entries' in
    let parents = a.parents' ∙ sym b.parents' in
    let links = a.links' ∙ sym b.links' in
    let rebuilt = a.rebuilt' ∙ sym b.rebuilt' in
    λ i. record { entries = entries i; parents = parents i; links = links i; rebuilt = rebuilt i }

pub due_one : (g : Geometry) (s : Stamp) (on : Ground) (m n : NamesDue) → AreNamesDue g s on m → AreNamesDue g s on n → m ≡ n
due_one g s on m n a b =
    let wanted = a.wanted' ∙ sym b.wanted' in
    let slots = a.slots' ∙ sym b.slots' in
    let files = a.files' ∙ sym b.files' in
    let entries = a.entries' ∙ sym b.entries' in
    let dirs = a.dirs' ∙ sym b.dirs' in
    let clusters = a.clusters' ∙ sym b.clusters' in
    let fresh = a.fresh' ∙ sym b.fresh' in
    let seen = a.seen' ∙ sym b.seen' in
    let log = a.log' ∙ sym b.log' in
    λ i. record {
      wanted = wanted i;
      slots = slots i;
      files = files i;
      entries = entries i;
      dirs = dirs i;
      clusters = clusters i;
      fresh = fresh i;
      seen = seen i;
      log = log i;
    }

-- how many blocks runs have
abbrev blocks_in : List Run → ℕ
blocks_in runs = sum_by (λ (r : Run). r.count) runs

abbrev pub HasSome : Run → Type 0
HasSome r = 1 ≤ r.count

joined_sum : (ask : RunAsk) (runs : List Run) → AreJoined ask runs → blocks_in runs ≡ ask.blocks
joined_sum ask [] joined = sym joined
joined_sum ask (r ∷ rest) joined =
    let less = joined.1 in
    let behind = joined_sum (rest_of ask r.count) rest joined.2 in
    let all = sum_by-cons (λ (x : Run). x.count) r rest in
    omega (arith, less, behind, all)

-- of runs that each have some blocks, the first ones are told by how many blocks they have
front_one : (m n : ℕ) (runs : List Run) → AllByRecursion HasSome runs → m ≤ length runs → n ≤ length runs → blocks_in (take m runs) ≡ blocks_in (take n runs) → m ≡ n
front_one zero zero runs some lm ln same = refl
front_one zero (suc n) [] some lm ln same = absurd (omega (arith, ln))
front_one zero (suc n) (r ∷ rs) some lm ln same =
    let all : blocks_in (take (suc n) (r ∷ rs)) ≡ r.count + blocks_in (take n rs) = sum_by-cons (λ (x : Run). x.count) r (take n rs) in
    let none : blocks_in (take 0 (r ∷ rs)) ≡ 0 = refl in
    absurd (omega (arith, some.0, all, none, same))
front_one (suc m) zero [] some lm ln same = absurd (omega (arith, lm))
front_one (suc m) zero (r ∷ rs) some lm ln same =
    let all : blocks_in (take (suc m) (r ∷ rs)) ≡ r.count + blocks_in (take m rs) = sum_by-cons (λ (x : Run). x.count) r (take m rs) in
    let none : blocks_in (take 0 (r ∷ rs)) ≡ 0 = refl in
    absurd (omega (arith, some.0, all, none, same))
front_one (suc m) (suc n) [] some lm ln same = absurd (omega (arith, lm))
front_one (suc m) (suc n) (r ∷ rs) some lm ln same =
    let first : blocks_in (take (suc m) (r ∷ rs)) ≡ r.count + blocks_in (take m rs) = sum_by-cons (λ (x : Run). x.count) r (take m rs) in
    let second : blocks_in (take (suc n) (r ∷ rs)) ≡ r.count + blocks_in (take n rs) = sum_by-cons (λ (x : Run). x.count) r (take n rs) in
    ap (λ (k : ℕ). suc k) (front_one m n rs some.1 (omega (arith, lm)) (omega (arith, ln)) (omega (arith, first, second, same)))

some_behind : (n : ℕ) (runs : List Run) → AllByRecursion HasSome runs → AllByRecursion HasSome (drop n runs)
some_behind zero runs some = some
some_behind (suc n) [] some = tt
some_behind (suc n) (r ∷ rs) some = some_behind n rs some.1

-- so the runs of asks are shared out among them in one way
pub cuts_one : (asks : List RunAsk) (cs ds : List ℕ) (runs : List Run) → AllByRecursion HasSome runs → ServeAsks asks cs runs → ServeAsks asks ds runs → cs ≡ ds
cuts_one [] [] [] runs some a b = refl
cuts_one [] [] (d ∷ ds) runs some a b = absurd b
cuts_one [] (c ∷ cs) ds runs some a b = absurd a
cuts_one (ask ∷ asks) [] ds runs some a b = absurd a
cuts_one (ask ∷ asks) (c ∷ cs) [] runs some a b = absurd b
cuts_one (ask ∷ asks) (c ∷ cs) (d ∷ ds) runs some a b =
    let same : c ≡ d = front_one c d runs some a.0 b.0 (joined_sum ask (take c runs) a.1 ∙ sym (joined_sum ask (take d runs) b.1)) in
    let other : ServeAsks asks ds (drop c runs) = subst (λ (k : ℕ). ServeAsks asks ds (drop k runs)) (sym same) b.2 in
    ap₂ ◌∷◌ same (cuts_one asks cs ds (drop c runs) (some_behind c runs some) a.2 other)

-- the runs that are placed have some blocks each
some_right : (top : ℕ) (xs ys : List Run) → AllByRecursion (IsClaimedRun top) (xs ++ ys) → AllByRecursion HasSome ys
some_right top [] [] all = tt
some_right top [] (y ∷ ys) all = (all.0.some, some_right top [] ys all.1)
some_right top (x ∷ xs) ys all = some_right top xs ys all.1

pub placed_some : (w : Wanted) (p : Placed) → StandsFor w p → AllByRecursion HasSome p.runs
placed_some w p stands =
    some_right w.geometry.dblocks (kept_runs w) p.runs (recursion_from_All (IsClaimedRun w.geometry.dblocks) (kept_runs w ++ p.runs) stands.apart.each)
