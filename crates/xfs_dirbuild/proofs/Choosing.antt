-- The form that is chosen, and what it has.
use Rattle.std.proofs.Common.{◌≡◌, ℕ, ◌+◌, ◌^◌, ◌<◌, ◌≤◌, ◌&&◌, nat_le, Fits, w64, Bool, true, false, if◌then◌else◌, List, IsTrue, refl, sym, subst, arith}
use Rattle.xfs_dirdata.specs.declared.records.EntryRec.{EntryRec}
use Rattle.xfs_dirbuild.specs.declared.forms.DirectoryForm.{DirectoryForm}
use Rattle.xfs_dirbuild.specs.declared.forms.DirectoryForm.TheVariants.{Short, Single, Leaf, Node}
use Rattle.xfs_dirbuild.specs.Forms.{fits_single, fits_leaf, form_of}
use Rattle.xfs_dirbuild.specs.Placed.{HaveMagics, IsBuilt}
use Rattle.xfs_dirdata.specs.Written.{short_length}

chosen : Bool → Bool → Bool → DirectoryForm
chosen a b c = if a && b then Short else if b then Single else if c then Leaf else Node

chosen-short : (a b c : Bool) → chosen a b c ≡ Short → b ≡ true
unfolding chosen
chosen-short true true c is = refl
chosen-short true false true is = cc
chosen-short true false false is = cc
chosen-short false true c is = refl
chosen-short false false true is = cc
chosen-short false false false is = cc

chosen-single : (a b c : Bool) → chosen a b c ≡ Single → b ≡ true
unfolding chosen
chosen-single true true c is = refl
chosen-single true false true is = cc
chosen-single true false false is = cc
chosen-single false true c is = refl
chosen-single false false true is = cc
chosen-single false false false is = cc

chosen-leaf : (a b c : Bool) → chosen a b c ≡ Leaf → c ≡ true
unfolding chosen
chosen-leaf true true c is = cc
chosen-leaf true false true is = refl
chosen-leaf true false false is = cc
chosen-leaf false true c is = cc
chosen-leaf false false true is = refl
chosen-leaf false false false is = cc

pub short-fits : (es : List EntryRec) (fork : ℕ) → form_of es fork ≡ Short → IsTrue (fits_single es)
unfolding chosen
short-fits es fork is = chosen-short (nat_le (6 + short_length es) fork) (fits_single es) (fits_leaf es) is

pub single-fits : (es : List EntryRec) (fork : ℕ) → form_of es fork ≡ Single → IsTrue (fits_single es)
unfolding chosen
single-fits es fork is = chosen-single (nat_le (6 + short_length es) fork) (fits_single es) (fits_leaf es) is

pub leaf-fits : (es : List EntryRec) (fork : ℕ) → form_of es fork ≡ Leaf → IsTrue (fits_leaf es)
unfolding chosen
leaf-fits es fork is = chosen-leaf (nat_le (6 + short_length es) fork) (fits_single es) (fits_leaf es) is

-- numbers of blocks that are equal
pub three-sum : (a b c x y z : ℕ) → x ≡ a → y ≡ b → z ≡ c → a + b + c ≡ x + y + z
three-sum a b c x y z a_is b_is c_is = omega arith

pub magics-of : (a b c x y z : ℕ) (built : List (List ℕ)) → x ≡ a → y ≡ b → z ≡ c → HaveMagics a b c built → HaveMagics x y z built
magics-of a b c x y z built a_is b_is c_is have =
    subst (λ (n : ℕ). HaveMagics n y z built) (sym a_is) (subst (λ (n : ℕ). HaveMagics a n z built) (sym b_is) (subst (λ (n : ℕ). HaveMagics a b n built) (sym c_is) have))

pub built-of : (form due : DirectoryForm) (dir parent a b c x y z : ℕ) (es : List EntryRec) (built : List (List ℕ)) → form ≡ due → x ≡ a → y ≡ b → z ≡ c
    → IsBuilt form dir parent a b c es built → IsBuilt due dir parent x y z es built
built-of form due dir parent a b c x y z es built form_is a_is b_is c_is whole =
    subst (λ (f : DirectoryForm). IsBuilt f dir parent x y z es built) form_is
    (subst (λ (n : ℕ). IsBuilt form dir parent n y z es built) (sym a_is)
    (subst (λ (n : ℕ). IsBuilt form dir parent a n z es built) (sym b_is) (subst (λ (n : ℕ). IsBuilt form dir parent a b n es built) (sym c_is) whole)))

-- how much room there is
pub data-fits : (datas len : ℕ) → datas ≤ len + 1 → len ≤ 2 ^ 24 → Fits w64 (datas + 1)
data-fits datas len bound few = omega arith

pub data-low : (datas len : ℕ) → datas ≤ len + 1 → len ≤ 2 ^ 24 → datas ≤ 2 ^ 32
data-low datas len bound few = omega arith

pub leaf-room : (new old datas : ℕ) → new ≡ old → old ≡ datas + 1 → datas < new
leaf-room new old datas is made = omega arith

pub all-fit : (len : ℕ) → len ≤ 2 ^ 24 → Fits w64 (len + 2)
all-fit len few = omega arith

pub all-low : (len : ℕ) → len ≤ 2 ^ 24 → len + 2 ≤ 2 ^ 32
all-low len few = omega arith

pub all-some : (n len : ℕ) → n ≡ len + 2 → 1 ≤ n
all-some n len is = omega arith

pub all-few : (n len : ℕ) → n ≡ len + 2 → len ≤ 2 ^ 24 → n ≤ 2 ^ 24 + 2
all-few n len is few = omega arith

pub tree-room : (datas index values tree new old : ℕ) → new ≡ old → old ≡ datas + index + values → index ≡ tree → datas + tree ≤ new
tree-room datas index values tree new old is made index_is = omega arith
