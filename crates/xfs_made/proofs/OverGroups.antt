-- Runs of each group of a volume: a block is of one group alone.
use Rattle.std.proofs.Common.{◌≡◌, ◌≢◌, ℕ, zero, suc, ◌+◌, ◌*◌, ◌/◌, ◌%◌, ◌≤◌, ◌<◌, inl, inr, List, ◌++◌, Option, Some, None, refl, ◌∙◌, ap, subst, arith}
use Rattle.std.specs.List.{flat_map, range_with_len}
use Rattle.std.specs.Option.{option_or}
use Rattle.std.proofs.lemmas.Bool.{cases_eq, cases_lt}
use Rattle.std.proofs.Math.Nat.{mul-le-mul_right}
use Rattle.xfs_geom.specs.Runs.{runs_on}
use Rattle.xfs_geom.specs.Conversions.{group_length}
use Rattle.xfs_geom.specs.Shape.{HasGroups}
use Rattle.xfs_geom.specs.Volumes.{Volume}
use Rattle.xfs_geom.specs.declared.records.Run.{Run}
use Rattle.xfs_kinds.specs.MergedRuns.{held_at}
use Rattle.xfs_place.proofs.AllClaims.{group_ends}
use Rattle.xfs_place.proofs.Ordered.{none_on}
use Rattle.xfs_space.proofs.FreeSpans.{group_short}
use Rattle.xfs_space.proofs.RecordedMaps.{group_inside}
use Rattle.xfs_made.proofs.SameRuns.{held_both, on_both}

or_none : (o : Option (ℕ × ℕ)) → option_or o None ≡ o
or_none None = refl
or_none (Some p) = refl

-- where none of the groups has the block
pub none_of : (runs : ℕ → List Run) (a n x : ℕ) → ((ag : ℕ) → a ≤ ag → ag < a + n → runs_on (runs ag) x ≡ 0) → runs_on (flat_map runs (range_with_len a n)) x ≡ 0
none_of runs a zero x none = refl
none_of runs a (suc n) x none =
    let rest = flat_map runs (range_with_len (a + 1) n) in
    let parts : runs_on (runs a ++ rest) x ≡ runs_on (runs a) x + runs_on rest x = on_both (runs a) rest x in
    let first : runs_on (runs a) x ≡ 0 = none a (omega arith) (omega arith) in
    let others : runs_on rest x ≡ 0 = none_of runs (a + 1) n x (λ ag low high. none ag (omega (arith, low)) (omega (arith, high))) in
    omega (arith, parts, first, others)

-- where one of them alone may have it
pub record IsOf (runs mine : List Run) (x : ℕ) : Type 0 where
  pub on : runs_on runs x ≡ runs_on mine x
  pub held : held_at runs x ≡ held_at mine x

pub one_of : (runs : ℕ → List Run) (a n ag x : ℕ) → a ≤ ag → ag < a + n → ((j : ℕ) → a ≤ j → j < a + n → j ≢ ag → runs_on (runs j) x ≡ 0)
    → IsOf (flat_map runs (range_with_len a n)) (runs ag) x
one_of runs a zero ag x low high others = absurd (omega (arith, low, high))
one_of runs a (suc n) ag x low high others = elim (cases_eq a ag) [
  | inl here ↦
      let rest = flat_map runs (range_with_len (a + 1) n) in
      let none : runs_on rest x ≡ 0 = none_of runs (a + 1) n x (λ j l h. others j (omega (arith, l)) (omega (arith, h)) (λ e. omega (arith, e, l, here))) in
      let parts : runs_on (runs a ++ rest) x ≡ runs_on (runs a) x + runs_on rest x = on_both (runs a) rest x in
      let found : IsOf (runs a ++ rest) (runs a) x = record {
        on = omega (arith, parts, none);
        held = held_both (runs a) rest x ∙ ap (option_or (held_at (runs a) x)) (none_on rest x none) ∙ or_none (held_at (runs a) x);
      } in
      subst (λ (j : ℕ). IsOf (runs a ++ rest) (runs j) x) here found
  | inr other ↦
      let rest = flat_map runs (range_with_len (a + 1) n) in
      let none : runs_on (runs a) x ≡ 0 = others a (omega arith) (omega arith) other in
      let parts : runs_on (runs a ++ rest) x ≡ runs_on (runs a) x + runs_on rest x = on_both (runs a) rest x in
      let next = one_of runs (a + 1) n ag x (omega (arith, low, other)) (omega (arith, high)) (λ j l h. others j (omega (arith, l)) (omega (arith, h))) in
      record {
        on = omega (arith, parts, none, next.on);
        held = held_both (runs a) rest x ∙ ap (λ (o : Option (ℕ × ℕ)). option_or o (held_at rest x)) (none_on (runs a) x none) ∙ next.held;
      }
]

-- the runs of each group have no block of another
pub record AreOfGroups (v : Volume) (runs : ℕ → List Run) : Type 0 where
  pub before : (ag x : ℕ) → ag < v.agcount → x < ag * v.agblocks → runs_on (runs ag) x ≡ 0
  pub behind : (ag x : ℕ) → ag < v.agcount → ag * v.agblocks + group_length v ag ≤ x → runs_on (runs ag) x ≡ 0

module _ (v : Volume) (groups : HasGroups v.dblocks v.agblocks v.agcount) where
  group_next : (ag : ℕ) → ag * v.agblocks + group_length v ag ≤ (ag + 1) * v.agblocks
  group_next ag = let short = group_short v ag groups.covered in omega (arith, short)

  pub of_group : (runs : ℕ → List Run) → AreOfGroups v runs → (ag b : ℕ) → ag < v.agcount → b < group_length v ag
      → IsOf (flat_map runs (range_with_len 0 v.agcount)) (runs ag) (ag * v.agblocks + b)
  of_group runs are ag b there low =
      let x = ag * v.agblocks + b in
      one_of runs 0 v.agcount ag x (omega arith) (omega (arith, there)) (λ j l h other. elim (cases_lt j ag) [
        | inl front ↦
            let most : (j + 1) * v.agblocks ≤ ag * v.agblocks = mul-le-mul_right v.agblocks (omega (arith, front)) in
            are.behind j x (omega (arith, h)) (omega (arith, group_next j, most))
        | inr back ↦
            let most : (ag + 1) * v.agblocks ≤ j * v.agblocks = mul-le-mul_right v.agblocks (omega (arith, back, other)) in
            are.before j x (omega (arith, h)) (omega (arith, group_next ag, most, low))
      ])

  pub of_none : (runs : ℕ → List Run) → AreOfGroups v runs → (x : ℕ) → v.dblocks ≤ x → runs_on (flat_map runs (range_with_len 0 v.agcount)) x ≡ 0
  of_none runs are x outside =
      none_of runs 0 v.agcount x (λ ag low high.
      let there : ag < v.agcount = omega (arith, high) in
      are.behind ag x there (omega (arith, group_inside v ag there groups.last, outside)))

  -- a block of the volume is one of a group
  pub record IsIn (x : ℕ) : Type 0 where
    pub ag : ℕ
    pub b : ℕ
    pub is : x ≡ ag * v.agblocks + b
    pub group : ag < v.agcount
    pub low : b < group_length v ag

  pub is_in_group : (x : ℕ) → x < v.dblocks → IsIn x
  is_in_group x inside =
      let some : 0 < v.agblocks = omega (arith, groups.large) in
      let ag = x / v.agblocks in
      let b = x % v.agblocks in
      let whole : x ≡ ag * v.agblocks + b = omega (arith, some) in
      let there : ag < v.agcount = elim (cases_lt ag v.agcount) [
        | inl few ↦ few
        | inr many ↦
            let most : v.agcount * v.agblocks ≤ ag * v.agblocks = mul-le-mul_right v.agblocks many in
            absurd (omega (arith, most, whole, inside, groups.covered))
      ] in
      let short : b < v.agblocks = omega (arith, some) in
      record {
        ag = ag;
        b = b;
        is = whole;
        group = there;
        low = elim (group_ends v ag groups there) [
          | inl last ↦ omega (arith, last, whole, inside)
          | inr next ↦ omega (arith, next, short)
        ];
      }
