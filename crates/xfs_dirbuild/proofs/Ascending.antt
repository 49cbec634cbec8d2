-- Numbers that ascend, and entries that are named.
use Rattle.std.proofs.Common.{◌≡◌, ℕ, ◌+◌, ◌<◌, ◌≤◌, Bool, true, false, not, ◌&&◌, ◌||◌, ◌==◌, List, [], ◌∷◌, ◌++◌, length, slice_index, refl, ap, ap₂, arith}
use Rattle.std.specs.List.{All, list_any}
use Rattle.std.proofs.lemmas.List.Elements.{All-head, All-tail, All-weaker}
use Rattle.std.proofs.lemmas.Bool.{ne_eqb}
use Rattle.xfs_dirdata.specs.declared.records.EntryRec.{EntryRec}
use Rattle.xfs_dirdata.specs.Written.{IsWritableEntry}
use Rattle.xfs_dirindex.specs.Mapped.{OffsetsAscend}
use Rattle.xfs_dirindex.specs.Data.{is_self, is_parent_name, is_dots, have_no_dots}
use Rattle.xfs_dirbuild.specs.Names.{HasNameOfSix}

pub ascend-push : (least x : ℕ) (xs : List ℕ) → OffsetsAscend least xs → least ≤ x → All (λ o. o < x) xs → OffsetsAscend least (xs ++ x ∷ [])
ascend-push least x [] up low below = (low, tt)
ascend-push least x (o ∷ os) up low below =
    let less : o < x = All-head (λ n. n < x) o os below in
    (up.0, ascend-push (o + 1) x os up.1 (omega arith) (All-tail (λ n. n < x) o os below))

pub named-writable : (es : List EntryRec) → All HasNameOfSix es → All IsWritableEntry es
named-writable es all =
    All-weaker HasNameOfSix IsWritableEntry (λ e named. record { name = omega (arith, named.name); ino = named.ino }) es all

not-dots : (e : EntryRec) → HasNameOfSix e → is_dots e ≡ false
unfolding is_dots is_self is_parent_name
not-dots e named =
    let one : (length e.name == 1) ≡ false = ne_eqb (length e.name) 1 (λ x. absurd (omega (arith, x, named.name))) in
    let two : (length e.name == 2) ≡ false = ne_eqb (length e.name) 2 (λ x. absurd (omega (arith, x, named.name))) in
    ap₂ (λ (a b : Bool). (a && slice_index e.name 0 == 46) || (b && slice_index e.name 0 == 46 && slice_index e.name 1 == 46)) one two

no-dots-any : (es : List EntryRec) → All HasNameOfSix es → list_any is_dots es ≡ false
no-dots-any [] all = refl
no-dots-any (e ∷ es) all =
    ap₂ (λ (a b : Bool). a || b) (not-dots e (All-head HasNameOfSix e es all)) (no-dots-any es (All-tail HasNameOfSix e es all))

pub named-no_dots : (es : List EntryRec) → All HasNameOfSix es → have_no_dots es ≡ true
named-no_dots es all = ap not (no-dots-any es all)
