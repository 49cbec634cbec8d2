-- Writes, one after the other.
use Rattle.std.proofs.Common.{◌≡◌, ℕ, ◌+◌, ◌≤◌, ◌<◌, ◌⊎◌, inl, inr, List, [], ◌∷◌, ◌++◌, length, take, get_or, slice_set, Option, Some, refl, ap, sym, subst, ◌∙◌, arith}
use Rattle.std.proofs.Math.Seq.{take-append-add}
use Rattle.std.proofs.lemmas.Bool.{cases_lt}
use Rattle.std.proofs.lemmas.List.{take_all, take_more, take-append-le, map-append, get_or-map, length-map}
use Rattle.xfs_disk.specs.Blocks.{Image}
use Rattle.xfs_writing.specs.Writing.{Writes, IsPartly, write_of, written, writes_of_rows}
use Rattle.xfs_writing.specs.declared.rows.Row.{Row}

-- some writes, one after the other
pub written-append : (p q : Writes) (image : Image) → written (p ++ q) image ≡ written q (written p image)
written-append [] q image = refl
written-append (write ∷ p) q image = written-append p q (slice_set image write.0 write.1)

-- one more write of the rows
pub next_write : (bank : Image) (rows : List Row) (i : ℕ) (row d : Row) (bytes : List ℕ) (image : Image)
    → i < length rows → row ≡ get_or rows i d → bytes ≡ get_or bank row.index []
    → slice_set (written (take i (writes_of_rows bank rows)) image) row.at bytes ≡ written (take (i + 1) (writes_of_rows bank rows)) image
next_write bank rows i row d bytes image within same value =
    let ws = writes_of_rows bank rows in
    let inside : i < length ws = omega (arith, length-map rows (write_of bank)) in
    let item : get_or ws i (write_of bank d) ≡ write_of bank row = get_or-map (write_of bank) rows i d (write_of bank d) within ∙ ap (write_of bank) (sym same) in
    let step : take (i + 1) ws ≡ take i ws ++ get_or ws i (write_of bank d) ∷ [] = take_more ws i (write_of bank d) inside in
    rw (step, item, written-append (take i ws) (write_of bank row ∷ []) image, value) refl

-- where a write failed, its block is old or new
pub old_or_next : (bank : Image) (rows : List Row) (i n : ℕ) (row d : Row) (bytes : List ℕ) (image : Image) (now : Option Image)
    → i < length rows → row ≡ get_or rows i d → bytes ≡ get_or bank row.index [] → n ≡ i
    → (now ≡ Some (written (take i (writes_of_rows bank rows)) image))
    ⊎ (now ≡ Some (slice_set (written (take i (writes_of_rows bank rows)) image) row.at bytes))
    → IsPartly (writes_of_rows bank rows) image n now
old_or_next bank rows i n row d bytes image now within same value count (inl old) = rw count (inl old)
old_or_next bank rows i n row d bytes image now within same value count (inr new) =
    rw count (inr (new ∙ ap (λ (j : Image). Some j) (next_write bank rows i row d bytes image within same value)))

-- part of the first writes is part of all
pub part_of_first : (a b : Writes) (image : Image) (n : ℕ) (now : Option Image) → n ≤ length a → IsPartly a image n now → IsPartly (a ++ b) image n now
part_of_first a b image n now most (inl is) = inl (rw (take-append-le n a b most) is)
part_of_first a b image n now most (inr is) = by_case (cases_lt n (length a))
  where
    by_case : (n < length a) ⊎ (length a ≤ n) → IsPartly (a ++ b) image n now
    by_case (inl less) = inr (rw (take-append-le (n + 1) a b (omega arith)) is)
    by_case (inr more) =
        let whole : take (n + 1) a ≡ a = take_all (n + 1) a (omega arith) in
        let first : take n (a ++ b) ≡ a = take-append-le n a b most ∙ take_all n a more in
        inl (rw first (is ∙ ap (λ (ws : Writes). Some (written ws image)) whole))

-- the first writes, and part of the others
pub part_of_second : (a b : Writes) (image : Image) (n m : ℕ) (now : Option Image) → m ≡ length a + n → IsPartly b (written a image) n now
    → IsPartly (a ++ b) image m now
part_of_second a b image n m now count (inl is) =
    rw count (inl (rw (take-append-add a b n, written-append a (take n b) image) is))
part_of_second a b image n m now count (inr is) =
    let at : length a + n + 1 ≡ length a + (n + 1) = omega arith in
    rw (count, at) (inr (rw (take-append-add a b (n + 1), written-append a (take (n + 1) b) image) is))

-- all writes
pub all_done : (a : Writes) (image : Image) (n : ℕ) (now : Option Image) → n ≡ length a → now ≡ Some (written a image) → IsPartly a image n now
all_done a image n now count is = inl (rw (take_all n a (omega (arith, count))) is)

-- no write
pub none_done : (a : Writes) (image : Image) (now : Option Image) → now ≡ Some image → IsPartly a image 0 now
none_done a image now is = inl is

module _ (bank : Image) (first last : List Row) where
  abbrev all : Writes
  all = writes_of_rows bank (first ++ last)

  both : all ≡ writes_of_rows bank first ++ writes_of_rows bank last
  both = map-append (write_of bank) first last

  -- both parts of the rows
  pub both_written : (image : Image) (now : Option Image) → now ≡ Some (written (writes_of_rows bank last) (written (writes_of_rows bank first) image))
      → now ≡ Some (written (writes_of_rows bank (first ++ last)) image)
  both_written image now is =
      is ∙ ap (λ (j : Image). Some j) (sym (written-append (writes_of_rows bank first) (writes_of_rows bank last) image) ∙ ap (λ (ws : Writes). written ws image) (sym both))

  -- some rows of the first part
  pub first_partly : (image : Image) (n : ℕ) (now : Option Image) → n ≤ length first → IsPartly (writes_of_rows bank first) image n now
      → IsPartly (writes_of_rows bank (first ++ last)) image n now
  first_partly image n now most part =
      subst (λ (ws : Writes). IsPartly ws image n now) (sym both)
      (part_of_first (writes_of_rows bank first) (writes_of_rows bank last) image n now (omega (arith, most, length-map first (write_of bank))) part)

  -- all rows of the first part, and some of the last
  pub last_partly : (image : Image) (n m : ℕ) (now : Option Image) → m ≡ length first + n → IsPartly (writes_of_rows bank last) (written (writes_of_rows bank first) image) n now
      → IsPartly (writes_of_rows bank (first ++ last)) image m now
  last_partly image n m now count part =
      subst (λ (ws : Writes). IsPartly ws image m now) (sym both)
      (part_of_second (writes_of_rows bank first) (writes_of_rows bank last) image n m now (omega (arith, count, length-map first (write_of bank))) part)

  -- all rows of both
  pub all_partly : (image : Image) (m : ℕ) (now : Option Image) → m ≡ length first + length last
      → now ≡ Some (written (writes_of_rows bank last) (written (writes_of_rows bank first) image)) → IsPartly (writes_of_rows bank (first ++ last)) image m now
  all_partly image m now count is =
      last_partly image (length last) m now count
      (all_done (writes_of_rows bank last) (written (writes_of_rows bank first) image) (length last) now (sym (length-map last (write_of bank))) is)
