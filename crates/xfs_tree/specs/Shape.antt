-- What a kind of tree is, as functions on lists, and the laws that it keeps.
use Rattle.std.specs.Prelude.{◌≡◌, ℕ, Bool, false, IsTrue, List, length, Option, Some, None}
use Rattle.std.specs.Cmp.{IsTotalOrder}
use Rattle.std.specs.declared.cmp.Ordering.{Ordering}
use Rattle.std.specs.declared.cmp.Ordering.TheVariants as Ord
use Rattle.xfs_geom.specs.Volumes.{Volume}
use Rattle.xfs_tree.specs.declared.layout.Layout.{Layout}
use Rattle.xfs_tree.specs.Layout.{IsLayout}

pub record Shape (R K : Type 0) : Type 0 where
  pub layout : Layout
  -- the group or the inode whose tree it is
  pub owner : ℕ
  pub record_of : List ℕ → R
  pub record_bytes : R → List ℕ
  pub key_of : List ℕ → K
  pub key_bytes : K → List ℕ
  pub low : R → K
  pub high : R → K
  pub order : K → K → Ordering
  -- whether two keys are equal
  pub same : K → K → Bool
  -- records that can be put, and their keys
  pub fits : R → Bool
  pub fits_key : K → Bool
  -- a record behind another, or as the first
  pub lawful : Volume → Option R → R → Bool
  -- a record as it is read after it was put
  pub settled : R → R

pub record IsKind {R K : Type 0} (s : Shape R K) : Type 0 where
  pub laid_out : IsLayout s.layout
  pub total : IsTotalOrder s.order
  pub same_as_itself : (k : K) → IsTrue (s.same k k)
  -- what is put has its length and is read back
  pub record_len : (r : R) → IsTrue (s.fits r) → length (s.record_bytes r) ≡ s.layout.record_len
  pub key_len : (k : K) → IsTrue (s.fits_key k) → length (s.key_bytes k) ≡ s.layout.key_len
  pub record_again : (r : R) → IsTrue (s.fits r) → s.record_of (s.record_bytes r) ≡ s.settled r
  pub key_again : (k : K) → IsTrue (s.fits_key k) → s.key_of (s.key_bytes k) ≡ k
  -- a lawful record can be put, and its keys
  pub lawful_fits : (v : Volume) (before : Option R) (r : R) → IsTrue (s.lawful v before r) → IsTrue (s.fits r)
  pub low_fits : (r : R) → IsTrue (s.fits r) → IsTrue (s.fits_key (s.low r))
  pub high_fits : (r : R) → IsTrue (s.fits r) → IsTrue (s.fits_key (s.high r))
  -- without pairs of keys there is one key
  pub one_key : (r : R) → s.layout.high ≡ false → s.high r ≡ s.low r
  -- a record that was put and read back has its keys, and is lawful where it was
  pub low_settled : (r : R) → IsTrue (s.fits r) → s.low (s.settled r) ≡ s.low r
  pub high_settled : (r : R) → IsTrue (s.fits r) → s.high (s.settled r) ≡ s.high r
  pub lawful_settled : (v : Volume) (before : Option R) (r : R) → IsTrue (s.lawful v before r) → IsTrue (s.lawful v before (s.settled r))
  pub lawful_behind : (v : Volume) (r next : R) → IsTrue (s.lawful v (Some r) next) → IsTrue (s.lawful v (Some (s.settled r)) next)
  -- what is lawful behind a lawful record is lawful as the first, and its key is above
  pub lawful_first : (v : Volume) (r next : R) → IsTrue (s.lawful v None r) → IsTrue (s.lawful v (Some r) next) → IsTrue (s.lawful v None next)
  pub ascends : (v : Volume) (r next : R) → IsTrue (s.lawful v None r) → IsTrue (s.lawful v (Some r) next) → s.order (s.low r) (s.low next) ≡ Ord.Less
