-- What is marked, number by number.
use Rattle.std.proofs.Common.{◌≡◌, ℕ, ◌+◌, ◌<◌, ◌≤◌, Bool, true, false, cond, not, ◌&&◌, ◌||◌, ◌==◌, List, [], ◌∷◌, ◌++◌, length, get_or, take, length-append, refl, sym, ap, ◌∙◌, subst, arith, inl, inr}
use Rattle.std.specs.Bool.{nat_eq}
use Rattle.std.specs.List.{list_any, IsDistinct}
use Rattle.std.proofs.lemmas.List.Folds.{list_any-append, list_any_more}
use Rattle.std.proofs.lemmas.Bool.{eqb-true, eq-eqb, cases_Bool}
use Rattle.std.proofs.lemmas.Bool.Decides.{nat_tests}
use Rattle.xfs_volume.specs.declared.files.FileRec.{FileRec}
use Rattle.xfs_naming.specs.Naming.{is_directory_at}
use Rattle.xfs_naming.specs.Private.Walking.{is_walked, HasMarked}

-- nothing is marked where no directory is named
pub marked_none : (files : List FileRec) (named : ℕ → Bool) (seen stack : List ℕ) → ((x : ℕ) → (is_directory_at files x && named x) ≡ false)
    → HasMarked files named seen seen stack stack
marked_none files named seen stack none = record {
  reached = λ x. sym (ap (λ (t : Bool). is_walked seen x || t) (none x) ∙ plain (is_walked seen x));
  waiting = λ x. sym (ap (λ (t : Bool). is_walked stack x || (t && not (is_walked seen x))) (none x) ∙ plain (is_walked stack x));
  alike = refl;
  longer = omega arith;
  grown = λ x h. inl h;
  unique = λ distinct. distinct;
}
  where
    plain : (t : Bool) → (t || false) ≡ t
    plain true = refl
    plain false = refl

-- no number is named
pub marked_start : (files : List FileRec) (seen stack : List ℕ) → HasMarked files (λ (x : ℕ). false) seen seen stack stack
marked_start files seen stack = marked_none files (λ (x : ℕ). false) seen stack (λ x. never (is_directory_at files x))
  where
    never : (t : Bool) → (t && false) ≡ false
    never true = refl
    never false = refl

-- the number that is named is no directory's
pub marked_other : (files : List FileRec) (ino : ℕ) (seen stack : List ℕ) → is_directory_at files ino ≡ false → HasMarked files (λ (x : ℕ). ino == x) seen seen stack stack
marked_other files ino seen stack other = marked_none files (λ (x : ℕ). ino == x) seen stack (λ x. either x (ino == x) refl)
  where
    none : (t : Bool) → (t && false) ≡ false
    none true = refl
    none false = refl

    either : (x : ℕ) (t : Bool) → ino == x ≡ t → (is_directory_at files x && t) ≡ false
    either x true same = subst (λ (y : ℕ). (is_directory_at files y && true) ≡ false) (eqb-true ino x same) (ap (λ (t : Bool). t && true) other)
    either x false same = none (is_directory_at files x)

-- a directory is marked; it waits where it was not reached before
pub marked_one : (files : List FileRec) (ino : ℕ) (seen more stack next : List ℕ) (added : Bool) → is_directory_at files ino ≡ true → added ≡ not (is_walked seen ino)
    → ((q : ℕ) → is_walked more q ≡ cond (ino == q) true (is_walked seen q)) → length more ≡ length seen + cond added 1 0 → IsDistinct nat_eq more
    → next ≡ cond added (stack ++ ino ∷ []) stack → HasMarked files (λ (x : ℕ). ino == x) seen more stack next
marked_one files ino seen more stack next added dir is grows len distinct waits = record {
  reached = λ x. grows x ∙ at x (ino == x) refl;
  waiting = λ x. ap (λ (xs : List ℕ). is_walked xs x) waits ∙ stacked x added is (ino == x) refl;
  alike = lengths added len waits;
  longer = omega arith;
  grown = λ x h. elim (cases_Bool (is_walked seen x)) [
    | inl old ↦ inl old
    | inr fresh ↦ inr (new x fresh (ino == x) refl (sym (grows x) ∙ h))
  ];
  unique = λ before. distinct;
}
  where
    flip : (x : ℕ) → x == ino ≡ ino == x
    flip x = grind (arith, nat_tests)

    here : (x : ℕ) → ino == x ≡ true → is_directory_at files x ≡ true
    here x same = subst (λ (y : ℕ). is_directory_at files y ≡ true) (eqb-true ino x same) dir

    or_true : (t : Bool) → true ≡ (t || true)
    or_true true = refl
    or_true false = refl

    or_none : (s d : Bool) → s ≡ (s || (d && false))
    or_none true d = refl
    or_none false true = refl
    or_none false false = refl

    none : (s d t : Bool) → s ≡ (s || ((d && false) && t))
    none true d t = refl
    none false true t = refl
    none false false t = refl

    at : (x : ℕ) (t : Bool) → ino == x ≡ t → cond t true (is_walked seen x) ≡ (is_walked seen x || (is_directory_at files x && t))
    at x true same = or_true (is_walked seen x) ∙ ap (λ (d : Bool). is_walked seen x || (d && true)) (sym (here x same))
    at x false same = or_none (is_walked seen x) (is_directory_at files x)

    old_here : (s w : Bool) → false ≡ not s → w ≡ (w || not s)
    old_here true true e = refl
    old_here true false e = refl
    old_here false w e = cc

    new_here : (s w : Bool) → true ≡ not s → (w || true) ≡ (w || not s)
    new_here true w e = cc
    new_here false w e = refl

    at_ino : (x : ℕ) (b : Bool) → b ≡ not (is_walked seen ino) → ino == x ≡ true → b ≡ not (is_walked seen x)
    at_ino x b e same = subst (λ (y : ℕ). b ≡ not (is_walked seen y)) (eqb-true ino x same) e

    or_false : (t : Bool) → (t || false) ≡ t
    or_false true = refl
    or_false false = refl

    stacked : (x : ℕ) (b : Bool) → b ≡ not (is_walked seen ino) → (t : Bool) → ino == x ≡ t
        → is_walked (cond b (stack ++ ino ∷ []) stack) x ≡ (is_walked stack x || ((is_directory_at files x && t) && not (is_walked seen x)))
    stacked x true e true same =
        list_any-append (nat_eq x) stack (ino ∷ [])
        ∙ ap (λ (u : Bool). is_walked stack x || (u || false)) (flip x ∙ same)
        ∙ new_here (is_walked seen x) (is_walked stack x) (at_ino x true e same)
        ∙ ap (λ (d : Bool). is_walked stack x || ((d && true) && not (is_walked seen x))) (sym (here x same))
    stacked x true e false same =
        list_any-append (nat_eq x) stack (ino ∷ [])
        ∙ ap (λ (u : Bool). is_walked stack x || (u || false)) (flip x ∙ same)
        ∙ or_false (is_walked stack x)
        ∙ none (is_walked stack x) (is_directory_at files x) (not (is_walked seen x))
    stacked x false e true same =
        old_here (is_walked seen x) (is_walked stack x) (at_ino x false e same)
        ∙ ap (λ (d : Bool). is_walked stack x || ((d && true) && not (is_walked seen x))) (sym (here x same))
    stacked x false e false same = none (is_walked stack x) (is_directory_at files x) (not (is_walked seen x))

    lengths : (b : Bool) → length more ≡ length seen + cond b 1 0 → next ≡ cond b (stack ++ ino ∷ []) stack → length next + length seen ≡ length stack + length more
    lengths true len waits = let e : length next ≡ length stack + 1 = ap length waits ∙ simp length-append in omega arith
    lengths false len waits = let e : length next ≡ length stack = ap length waits in omega arith

    by_flag : (b : Bool) → b ≡ true → length more ≡ length seen + cond b 1 0 → length seen < length more
    by_flag true e len = omega arith
    by_flag false e len = cc

    new : (x : ℕ) → is_walked seen x ≡ false → (t : Bool) → ino == x ≡ t → cond t true (is_walked seen x) ≡ true → length seen < length more
    new x fresh true same h =
        by_flag added (is ∙ ap not (subst (λ (y : ℕ). is_walked seen y ≡ false) (sym (eqb-true ino x same)) fresh)) len
    new x fresh false same h = absurd (both fresh h)
      where
        both : {t : Bool} → t ≡ false → t ≡ true → ⊥
        both e f = cc

-- what is named by two is marked by one after the other
pub marked_more : (files : List FileRec) (p q r : ℕ → Bool) (seen more most stack next last : List ℕ) → ((x : ℕ) → r x ≡ (p x || q x))
    → HasMarked files p seen more stack next → HasMarked files q more most next last → HasMarked files r seen most stack last
marked_more files p q r seen more most stack next last joins first second = record {
  reached = λ x.
      second.reached x ∙ ap (λ (m : Bool). m || (is_directory_at files x && q x)) (first.reached x)
      ∙ by_reach (is_walked seen x) (is_directory_at files x) (p x) (q x) ∙ ap (λ (n : Bool). is_walked seen x || (is_directory_at files x && n)) (sym (joins x));
  waiting = λ x.
      second.waiting x
      ∙ ap (λ (w : Bool). w || ((is_directory_at files x && q x) && not (is_walked more x))) (first.waiting x)
      ∙ ap (λ (m : Bool). (is_walked stack x || ((is_directory_at files x && p x) && not (is_walked seen x))) || ((is_directory_at files x && q x) && not m)) (first.reached x)
      ∙ by_wait (is_walked stack x) (is_walked seen x) (is_directory_at files x) (p x) (q x)
      ∙ ap (λ (n : Bool). is_walked stack x || ((is_directory_at files x && n) && not (is_walked seen x))) (sym (joins x));
  alike = sums (length seen) (length more) (length most) (length stack) (length next) (length last) first.alike second.alike;
  longer = omega (arith, first.longer, second.longer);
  grown = λ x h. elim (second.grown x h) [
    | inl old ↦ (elim (first.grown x old) [
      | inl before ↦ inl before
      | inr new ↦ inr (omega (arith, new, second.longer))
    ])
    | inr new ↦ inr (omega (arith, new, first.longer))
  ];
  unique = λ distinct. second.unique (first.unique distinct);
}
  where
    by_reach : (s d p q : Bool) → ((s || (d && p)) || (d && q)) ≡ (s || (d && (p || q)))
    by_reach true d p q = refl
    by_reach false true p q = refl
    by_reach false false p q = refl

    by_wait : (w s d p q : Bool) → ((w || ((d && p) && not s)) || ((d && q) && not (s || (d && p)))) ≡ (w || ((d && (p || q)) && not s))
    by_wait true s d p q = refl
    by_wait false s false p q = refl
    by_wait false true true true true = refl
    by_wait false true true true false = refl
    by_wait false true true false q = refl
    by_wait false false true true true = refl
    by_wait false false true true false = refl
    by_wait false false true false q = refl

    sums : (a b c d e f : ℕ) → e + a ≡ d + b → f + b ≡ e + c → f + a ≡ d + c
    sums a b c d e f x y = omega arith
