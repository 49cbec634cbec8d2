-- Which blocks are spared, as one block of a group after another is looked at from its end.
use Rattle.std.proofs.Common.{◌≡◌, ℕ, zero, suc, ◌+◌, ◌-◌, ◌*◌, ◌<◌, ◌==◌, ◌&&◌, Bool, true, false, if◌then◌else◌, List, length, refl, sym, ◌∙◌, ap, arith}
use Rattle.std.proofs.lemmas.Bool.{eqb-true, true≢false}
use Rattle.xfs_geom.specs.Conversions.{group_length}
use Rattle.xfs_geom.specs.Volumes.{Volume}
use Rattle.xfs_geom.specs.declared.records.Run.{Run}
use Rattle.xfs_place.specs.declared.uses.Use.{Use}
use Rattle.xfs_place.specs.Pool.{is_open, is_pool, use_at}
use Rattle.xfs_place.specs.Sparing.{by_left, room_for, spared_below, spared_of}
use Rattle.xfs_place.specs.Wanted.{uses_in}
use Rattle.xfs_place.proofs.GroupIs.{length_uses}
use Rattle.xfs_place.proofs.Windowed.{open_in}

pub spared_none : (pool : ℕ → Bool) (left : ℕ) → spared_below pool left 0 ≡ 0
unfolding spared_below
spared_none pool left = refl

-- one block more, of which none may be of the pool
pub spared_over : (pool : ℕ → Bool) (left n : ℕ) (open' over : Bool) → open' ≡ pool n → over ≡ (open' && left == 0) → over ≡ true → spared_below pool left (suc n) ≡ suc n
unfolding spared_below
spared_over pool left n true over here is full =
    let none : left ≡ 0 = eqb-true left 0 (sym is ∙ full) in
    ap (λ (t : Bool). if t then by_left left (suc n) (λ less. spared_below pool less n) else spared_below pool left n) (sym here)
    ∙ ap (λ (k : ℕ). by_left k (suc n) (λ less. spared_below pool less n)) none
spared_over pool left n false over here is full = absurd (true≢false (sym full ∙ is))

-- one more, of which some may be
pub spared_next : (pool : ℕ → Bool) (left n next : ℕ) (open' over : Bool) → open' ≡ pool n → over ≡ (open' && left == 0) → over ≡ false → next ≡ (if open' then left - 1 else left)
    → spared_below pool left (suc n) ≡ spared_below pool next n
unfolding spared_below
spared_next pool zero n next true over here is room behind = absurd (true≢false (sym is ∙ room))
spared_next pool (suc left) n next true over here is room behind =
    ap (λ (t : Bool). if t then by_left (suc left) (suc n) (λ less. spared_below pool less n) else spared_below pool (suc left) n) (sym here)
    ∙ ap (λ (k : ℕ). spared_below pool k n) (omega (arith, behind))
spared_next pool left n next false over here is room behind =
    ap (λ (t : Bool). if t then by_left left (suc n) (λ less. spared_below pool less n) else spared_below pool left n) (sym here)
    ∙ ap (λ (k : ℕ). spared_below pool k n) (sym behind)

-- tests that agree on the blocks spare the same
spared_same : (p q : ℕ → Bool) (n left : ℕ) → ((k : ℕ) → k < n → p k ≡ q k) → spared_below p left n ≡ spared_below q left n
unfolding spared_below
spared_same p q zero left same = refl
spared_same p q (suc n) left same =
    ap (λ (t : Bool). if t then by_left left (suc n) (λ less. spared_below p less n) else spared_below p left n) (same n (omega arith)) ∙ by_case (q n) left (λ l. spared_same p q n l (λ k low. same k (omega (arith, low))))
  where
    by_case : (t : Bool) (l : ℕ) → ((m : ℕ) → spared_below p m n ≡ spared_below q m n)
        → (if t then by_left l (suc n) (λ less. spared_below p less n) else spared_below p l n) ≡ (if t then by_left l (suc n) (λ less. spared_below q less n) else spared_below q l n)
    by_case true zero rest = refl
    by_case true (suc l) rest = rest l
    by_case false l rest = rest l

-- the list of uses of a group says what the pool does
pub spared_by_uses : (v : Volume) (runs : List Run) (reserved : List ℕ) (uses : List Use) (anew : Bool) (ag at : ℕ) → uses ≡ uses_in v runs reserved ag
    → at ≡ spared_below (λ block. is_open (use_at uses block)) (room_for anew (length uses)) (length uses) → at ≡ spared_of v (is_pool v runs reserved) anew ag
spared_by_uses v runs reserved uses anew ag at is spares =
    let long : length uses ≡ group_length v ag = ap length is ∙ length_uses v runs reserved ag in
    spares ∙ ap (λ (n : ℕ). spared_below (λ block. is_open (use_at uses block)) (room_for anew n) n) long
    ∙ spared_same (λ k. is_open (use_at uses k)) (λ k. is_pool v runs reserved (ag * v.agblocks + k)) (group_length v ag) (room_for anew (group_length v ag))
    (λ k low. open_in v runs reserved uses ag k is low)
