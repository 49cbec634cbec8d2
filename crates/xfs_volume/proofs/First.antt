-- The first of some laws that is broken: of none, of laws before others, and what is told of it.
use Rattle.std.proofs.Common.{◌≡◌, ◌≢◌, Bool, true, false, ◌==◌, if◌then◌else◌, List, [], ◌∷◌, ◌++◌, Some, None, refl, sym, ◌∙◌, subst}
use Rattle.std.proofs.lemmas.Bool.{eq-eqb, true≢false}
use Rattle.xfs_volume.specs.declared.findings.Law.{Law}
use Rattle.xfs_volume.specs.Laws.{first_broken}

pub first_empty : first_broken [] ≡ None
unfolding first_broken
first_empty = refl

-- behind laws that are kept
pub first_behind : (xs ys : List Law) → first_broken xs ≡ None → first_broken (xs ++ ys) ≡ first_broken ys
unfolding first_broken
first_behind [] ys none = refl
first_behind (x ∷ xs) ys none = by_case (x.held == x.due) none (first_behind xs ys)
  where
    by_case : (t : Bool) → (if t then first_broken xs else Some x) ≡ None → (first_broken xs ≡ None → first_broken (xs ++ ys) ≡ first_broken ys)
        → (if t then first_broken (xs ++ ys) else Some x) ≡ first_broken ys
    by_case true none rest = rest none
    by_case false none rest = absurd (cc)

-- among those in front
pub first_in : (xs ys : List Law) (l : Law) → first_broken xs ≡ Some l → first_broken (xs ++ ys) ≡ Some l
unfolding first_broken
first_in [] ys l some = absurd (cc)
first_in (x ∷ xs) ys l some = by_case (x.held == x.due) some (first_in xs ys l)
  where
    by_case : (t : Bool) → (if t then first_broken xs else Some x) ≡ Some l → (first_broken xs ≡ Some l → first_broken (xs ++ ys) ≡ Some l)
        → (if t then first_broken (xs ++ ys) else Some x) ≡ Some l
    by_case true some rest = rest some
    by_case false some rest = some

-- what is held there is not what is due
pub first_differs : (ls : List Law) (l : Law) → first_broken ls ≡ Some l → l.held ≢ l.due
unfolding first_broken
first_differs [] l some = absurd (cc)
first_differs (x ∷ xs) l some = by_case (x.held == x.due) refl some (first_differs xs l)
  where
    by_case : (t : Bool) → (x.held == x.due) ≡ t → (if t then first_broken xs else Some x) ≡ Some l → (first_broken xs ≡ Some l → l.held ≢ l.due) → l.held ≢ l.due
    by_case true e some rest = rest some
    by_case false e some rest =
        let one : x ≡ l = cc in
        subst (λ (k : Law). k.held ≢ k.due) one (λ same. true≢false (sym (eq-eqb x.held x.due same) ∙ e))
