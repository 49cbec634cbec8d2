-- Bytes that are read and written piece by piece.
use Rattle.std.proofs.Common.{◌≡◌, ℕ, ◌+◌, ◌-◌, ◌≤◌, List, [], ◌++◌, take, drop, length, Option, Some, None, Result, Ok, arith, ap, refl, sym, ◌∙◌, subst}
use Rattle.std.specs.Option.{ForSome}
use Rattle.std.specs.Result.{IfOk}
use Rattle.std.specs.Io.KnownBytes.{Appends, Keeps}
use Rattle.std.proofs.lemmas.List.{length-drop, length-take-le, length-append, take_all, take_at, drop_at, take-append-drop, take-append-le, append_assoc, drop-drop}
use Rattle.std.proofs.Math.Seq.{take-add, take-append-add}
use borrow.Rule.Slice.PartMut.{put_mid, post_of}
use Rattle.xfs_files.specs.System.{with_piece}

-- what is so of the number of a call that went well
pub ok_at : {E : Type 0} (P : ℕ → Type 0) {r : Result ℕ E} {n m : ℕ} → r ≡ Ok n → n ≡ m → IfOk r P → P m
ok_at {E} P {r} {n} {m} went same holds = subst P same (subst (λ (x : Result ℕ E). IfOk x P) went holds)

-- no piece changes nothing
pub with_no_piece : (place : ℕ) (all : List ℕ) → with_piece place [] all ≡ all
with_no_piece place all =
    let behind : place + 0 ≡ place = omega arith in
    ap (λ n. take place all ++ drop n all) behind ∙ take-append-drop place all

-- where nothing was written there is still such a piece
pub not_written : (place : ℕ) (from : List ℕ) (first now : Option (List ℕ)) → now ≡ first →
    ForSome first (λ all. place ≤ length all → (n : ℕ) × (n ≤ length from) × (now ≡ Some (with_piece place (take n from) all)))
not_written place from first now same = λ all told inside. (0, omega arith, same ∙ told ∙ ap (λ xs. Some xs) (sym (with_no_piece place all)))

-- a slice that is filled to its end
pub all_read : (start done : ℕ) (into before all : List ℕ) → done ≡ length into → length into ≡ length before → take done into ≡ take done (drop start all) →
    into ≡ take (length before) (drop start all)
all_read start done into before all whole same read =
    let enough : length into ≤ done = omega (arith, whole) in
    sym (take_all done into enough) ∙ read ∙ ap (λ n. take n (drop start all)) (whole ∙ same)

-- a file has the piece that was put into it
pub length-with_piece : (place : ℕ) (piece all : List ℕ) → place ≤ length all → place + length piece ≤ length (with_piece place piece all)
length-with_piece place piece all inside = simp (length-append, length-drop) (omega (arith, length-take-le place all inside))

-- a second piece behind the first
pub with_piece-behind : (place : ℕ) (first then all : List ℕ) → place ≤ length all →
    with_piece (place + length first) then (with_piece place first all) ≡ with_piece place (first ++ then) all
with_piece-behind place first then all inside =
    let front : List ℕ = take place all in
    let end : ℕ = place + length first in
    let rest : List ℕ = drop end all in
    let long : length (front ++ first) ≡ end = length-append front first ∙ ap (λ n. n + length first) (length-take-le place all inside) in
    let whole : front ++ (first ++ rest) ≡ (front ++ first) ++ rest = sym (append_assoc front first rest) in
    let head : take end (front ++ (first ++ rest)) ≡ front ++ first = ap (λ xs. take end xs) whole ∙ take_at (front ++ first) rest end long in
    let back : drop end (front ++ (first ++ rest)) ≡ rest = ap (λ xs. drop end xs) whole ∙ drop_at (front ++ first) rest end long in
    let further : end + length then ≡ place + length (first ++ then) = omega (arith, length-append first then) in
    let tail : drop (end + length then) (front ++ (first ++ rest)) ≡ drop (place + length (first ++ then)) all =
    sym (drop-drop (length then) end (front ++ (first ++ rest))) ∙ ap (λ xs. drop (length then) xs) back ∙ drop-drop (length then) end all ∙ ap (λ n. drop n all) further in
    let last : List ℕ = drop (place + length (first ++ then)) all in
    (λ k. head k ++ (then ++ tail k)) ∙ append_assoc front first (then ++ last) ∙ ap (λ xs. front ++ xs) (sym (append_assoc first then last))

-- the next bytes of a slice behind those before
pub with_next_piece : (place n k : ℕ) (from all : List ℕ) → place ≤ length all → n ≤ length from →
    with_piece (place + n) (take k (drop n from)) (with_piece place (take n from) all) ≡ with_piece place (take (n + k) from) all
with_next_piece place n k from all inside within =
    let long : length (take n from) ≡ n = length-take-le n from within in
    ap (λ m. with_piece (place + m) (take k (drop n from)) (with_piece place (take n from) all)) (sym long)
    ∙ with_piece-behind place (take n from) (take k (drop n from)) all inside
    ∙ ap (λ xs. with_piece place xs all) (sym (take-add n k from))

-- the front of a slice whose rest was filled some way
pub take-put_rest : (n k m : ℕ) (into filled : List ℕ) → n ≤ length into → k ≤ length filled → take (n + k) (put_mid n m into filled) ≡ take n into ++ take k filled
take-put_rest n k m into filled within fits =
    let behind : List ℕ = post_of n m into in
    ap (λ j. take (j + k) (take n into ++ (filled ++ behind))) (sym (length-take-le n into within))
    ∙ take-append-add (take n into) (filled ++ behind) k
    ∙ ap (λ xs. take n into ++ xs) (take-append-le k filled behind fits)

module _ {F : Type 0} (bytes : F → Option (List ℕ)) where
  -- so many bytes of a file from a place on were read into the front of a slice
  pub record HasRead (start done : ℕ) (first now : F) (before into : List ℕ) : Type 0 where
    pub within : done ≤ length into
    pub same_size : length into ≡ length before
    pub same_bytes : bytes now ≡ bytes first
    pub read : ForSome (bytes first) (λ all. take done into ≡ take done (drop start all))

  -- so many bytes from the front of a slice were written into a file from a place on
  pub record HasWritten (start done : ℕ) (first now : F) (from : List ℕ) : Type 0 where
    pub within : done ≤ length from
    pub written : ForSome (bytes first) (λ all. start ≤ length all → bytes now ≡ Some (with_piece start (take done from) all))

  -- more bytes of a file were read behind those before
  pub has_read_more : (start n k m done : ℕ) (first now next : F) (before into filled : List ℕ) → HasRead start n first now before into → done ≡ n + k →
      length (put_mid n m into filled) ≡ length into → length filled ≡ length into - n → k ≤ length filled → bytes next ≡ bytes now →
      ForSome (bytes now) (λ all. take k filled ≡ take k (drop (start + n) all)) →
      HasRead start done first next before (put_mid n m into filled)
  has_read_more start n k m done first now next before into filled had sum same size few kept moved = record {
    within = omega (arith, had.within, size, same, few, sum);
    same_size = same ∙ had.same_size;
    same_bytes = kept ∙ had.same_bytes;
    read = λ all told.
        let then : take k filled ≡ take k (drop n (drop start all)) = moved all (had.same_bytes ∙ told) ∙ ap (λ xs. take k xs) (sym (drop-drop n start all)) in
        ap (λ d. take d (put_mid n m into filled)) sum
        ∙ take-put_rest n k m into filled had.within few
        ∙ (λ i. had.read all told i ++ then i)
        ∙ sym (take-add n k (drop start all))
        ∙ ap (λ d. take d (drop start all)) (sym sum);
  }

  -- a read that failed before it moved anything
  pub has_read_none : (start n m done : ℕ) (first now next : F) (before into filled : List ℕ) → HasRead start n first now before into → done ≡ n →
      length (put_mid n m into filled) ≡ length into → length filled ≡ length into - n → bytes next ≡ bytes now →
      HasRead start done first next before (put_mid n m into filled)
  has_read_none start n m done first now next before into filled had sum same size kept =
      has_read_more start n 0 m done first now next before into filled had (omega arith) same size (omega arith) kept (λ all told. refl)

  -- more bytes of a slice were written behind those before
  pub has_written_more : (start n k done : ℕ) (first now next : F) (from rest : List ℕ) → HasWritten start n first now from → done ≡ n + k →
      rest ≡ drop n from → k ≤ length rest →
      ForSome (bytes now) (λ all. start + n ≤ length all → bytes next ≡ Some (with_piece (start + n) (take k rest) all)) → HasWritten start done first next from
  has_written_more start n k done first now next from rest had sum same few wrote = record {
    within = omega (arith, had.within, few, sum, ap length same, length-drop n from);
    written = λ all told inside.
        let long : length (take n from) ≡ n = length-take-le n from had.within in
        let room : start + n ≤ length (with_piece start (take n from) all) = omega (arith, length-with_piece start (take n from) all inside) in
        wrote (with_piece start (take n from) all) (had.written all told inside) room
        ∙ (λ i. Some (with_piece (start + n) (take k (same i)) (with_piece start (take n from) all)))
        ∙ ap (λ xs. Some xs) (with_next_piece start n k from all inside had.within)
        ∙ ap (λ d. Some (with_piece start (take d from) all)) (sym sum);
  }

  -- a write that failed before it moved anything
  pub has_written_none : (start n done : ℕ) (first now next : F) (from : List ℕ) → HasWritten start n first now from → done ≡ n → bytes next ≡ bytes now →
      HasWritten start done first next from
  has_written_none start n done first now next from had same kept = record {
    within = omega (arith, had.within, same);
    written = λ all told inside. kept ∙ had.written all told inside ∙ ap (λ d. Some (with_piece start (take d from) all)) (sym same);
  }

-- so many bytes from the front of a slice were given to what told what it had
pub record HasGiven (first now : Option (List ℕ)) (done : ℕ) (from : List ℕ) : Type 0 where
  pub within : done ≤ length from
  pub given : ForSome first (λ before. now ≡ Some (before ++ take done from))

-- known bytes that grew are known
told_more : (all piece : List ℕ) (now : Option (List ℕ)) → Appends (Some all) now piece → now ≡ Some (all ++ piece)
told_more all piece None grew = absurd grew
told_more all piece (Some xs) grew = ap (λ ys. Some ys) grew

-- more bytes of a slice were given behind those before
pub has_given_more : (n k done : ℕ) (first now next : Option (List ℕ)) (from rest : List ℕ) → HasGiven first now n from → done ≡ n + k →
    rest ≡ drop n from → k ≤ length rest → Appends now next (take k rest) → HasGiven first next done from
has_given_more n k done first now next from rest had sum same few grew = record {
  within = omega (arith, had.within, few, sum, ap length same, length-drop n from);
  given = λ before told.
      let at : now ≡ Some (before ++ take n from) = had.given before told in
      let on : next ≡ Some ((before ++ take n from) ++ take k rest) = told_more (before ++ take n from) (take k rest) next (subst (λ (o : Option (List ℕ)). Appends o next (take k rest)) at grew) in
      on
      ∙ (λ i. Some (append_assoc before (take n from) (take k (same i)) i))
      ∙ ap (λ xs. Some (before ++ xs)) (sym (take-add n k from) ∙ ap (λ d. take d from) (sym sum));
}

-- what kept known bytes gave nothing
pub has_given_none : (n done : ℕ) (first now next : Option (List ℕ)) (from : List ℕ) → HasGiven first now n from → done ≡ n → Keeps now next → HasGiven first next done from
has_given_none n done first now next from had same kept = record {
  within = omega (arith, had.within, same);
  given = λ before told.
      let at : now ≡ Some (before ++ take n from) = had.given before told in
      still (before ++ take n from) next (subst (λ (o : Option (List ℕ)). Keeps o next) at kept) ∙ ap (λ d. Some (before ++ take d from)) (sym same);
}
  where
    still : (all : List ℕ) (next : Option (List ℕ)) → Keeps (Some all) next → next ≡ Some all
    still all None kept = absurd kept
    still all (Some xs) kept = ap (λ ys. Some ys) kept
