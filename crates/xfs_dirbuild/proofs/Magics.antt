-- Blocks that are written have the magic numbers of their kinds.
use Rattle.std.proofs.Common.{◌≡◌, ℕ, ◌+◌, ◌-◌, ◌/◌, ◌<◌, ◌≤◌, ◌^◌, Bool, true, false, not, ◌||◌, ◌==◌, nat_lt, if◌then◌else◌, List, [], get_or, refl, sym, ap, subst, inl, inr, arith}
use Rattle.std.proofs.lemmas.Bool.{and_from, eq-eqb, ne_eqb, cases_lt, ltb-true}
use Rattle.xfs_word.specs.Field.{field_of}
use Rattle.xfs_word.specs.Seal.{begins_as_slot, has_magic}
use Rattle.xfs_word.specs.declared.kinds.SealKind.TheVariants.{DirData, DirFree}
use Rattle.xfs_dirbuild.specs.Index.{IsIndexed, next_at}

-- a block that names a next one below 0x1000001 does not begin as an inode
pub indexed : (b : List ℕ) (next : ℕ) → field_of b 0 4 ≡ next → next ≤ 0x1000000 → IsIndexed b
unfolding has_magic
indexed b next is small =
    let other : begins_as_slot b ≡ false = ne_eqb (field_of b 0 4 / 2 ^ 16) 0x494e (λ e. absurd (omega (arith, e, is, small))) in
    and_from _ _ (eq-eqb (field_of b 8 2) (field_of b 8 2) refl) (ap not other)

pub next-small : (first count i : ℕ) → first + count ≤ 0x800000 → next_at first count i ≤ 0x1000000
next-small first count i room = by_test (nat_lt i count) refl
  where
    by_test : (t : Bool) → nat_lt i count ≡ t → (if t then 0x800000 + first + i else 0) ≤ 0x1000000
    by_test true is = omega (arith, ltb-true i count is)
    by_test false is = omega arith

pub data-magic : (b : List ℕ) → field_of b 0 4 ≡ 0x58444433 → has_magic DirData b ≡ true
unfolding has_magic
data-magic b is = ap (λ (n : ℕ). n == 0x58444433 || n == 0x58444233) is

pub single-magic : (b : List ℕ) → field_of b 0 4 ≡ 0x58444233 → has_magic DirData b ≡ true
unfolding has_magic
single-magic b is = ap (λ (n : ℕ). n == 0x58444433 || n == 0x58444233) is

pub free-magic : (b : List ℕ) → field_of b 0 4 ≡ 0x58444633 → has_magic DirFree b ≡ true
unfolding has_magic
free-magic b is = ap (λ (n : ℕ). n == 0x58444633) is

-- one block more of a row
pub indexed-more : (old new : List (List ℕ)) (start i : ℕ) → ((k : ℕ) → k < i → IsIndexed (get_or old (start + k) []))
    → ((k : ℕ) → k < i → get_or new (start + k) [] ≡ get_or old (start + k) []) → IsIndexed (get_or new (start + i) [])
    → (k : ℕ) → k < i + 1 → IsIndexed (get_or new (start + k) [])
indexed-more old new start i were same here k less =
    elim (cases_lt k i) [
      | inl before ↦ subst (λ (b : List ℕ). IsIndexed b) (sym (same k before)) (were k before)
      | inr behind ↦ let last : i ≡ k = omega arith in subst (λ (n : ℕ). IsIndexed (get_or new (start + n) [])) last here
    ]

-- a row, and what stands in front of it
pub indexed-join : (bank : List (List ℕ)) (base first count : ℕ) → ((k : ℕ) → k < first → IsIndexed (get_or bank (base + k) []))
    → ((k : ℕ) → k < count → IsIndexed (get_or bank (base + first + k) [])) → (k : ℕ) → k < first + count → IsIndexed (get_or bank (base + k) [])
indexed-join bank base first count front row k less =
    elim (cases_lt k first) [
      | inl before ↦ front k before
      | inr behind ↦
          let place : base + first + (k - first) ≡ base + k = omega arith in
          subst (λ (n : ℕ). IsIndexed (get_or bank n [])) place (row (k - first) (omega arith))
    ]
