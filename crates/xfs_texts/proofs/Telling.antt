-- Texts that are put piece by piece.
use Rattle.std.proofs.Common.{◌≡◌, ℕ, ◌+◌, ◌≤◌, ◌<◌, List, [], ◌++◌, length, map, take, drop, get_or, Option, Result, Ok, Err, refl, append_assoc, length-append, arith}
use denote.Bor.{Bor}
use Rattle.std.proofs.lemmas.List.{append-nil, map-append, take_more, take-append-drop, take-append-le, take_all}
use Rattle.std.proofs.lemmas.List.Concat.{flat_map-append}
use Rattle.std.proofs.Math.Seq.{take-append-add}
use Rattle.xfs_disk.specs.declared.failed.Failed.{Failed}
use Rattle.xfs_texts.specs.Private.Labels.{label_now}
use Rattle.xfs_texts.specs.Lines.{PutsText}
use Rattle.xfs_texts.specs.Lines.{labelled, line, number_text}
use Rattle.xfs_texts.specs.declared.lines.Number.{Number}

-- the same text under another name
pub puts_as : (was now : Option (List ℕ)) (faults faults_now : ℕ) (text other : List ℕ) (result : Result (Unit {0}) Failed)
    → text ≡ other → PutsText was now faults faults_now other result → PutsText was now faults faults_now text result
puts_as was now faults faults_now text other result same puts = rw same puts

-- a piece that was put, and then more
pub puts_then : (was mid now : Option (List ℕ)) (f0 f1 f2 : ℕ) (first second : List ℕ) (done : Unit {0}) (result : Result (Unit {0}) Failed)
    → PutsText was mid f0 f1 first (Ok done) → PutsText mid now f1 f2 second result → PutsText was now f0 f2 (first ++ second) result
puts_then was mid now f0 f1 f2 first second done (Ok d) a b =
    record {
      whole = λ before told. rw (← append_assoc before first second) (b.whole (before ++ first) (a.whole before told));
      part = tt;
      cause = omega (arith, a.cause, b.cause);
    }
puts_then was mid now f0 f1 f2 first second done (Err e) a b =
    record {
      whole = tt;
      part =
          λ before told.
          let p = b.part (before ++ first) (a.whole before told) in (
            length first + p.0,
            rw length-append (omega (arith, p.1)),
            rw (take-append-add first second p.0) (rw append_assoc at p.2),
          );
      cause = (omega (arith, a.cause, b.cause.0), omega (arith, a.cause, b.cause.0, b.cause.1));
    }

-- a piece that failed, of a longer text
pub puts_failed : (was now : Option (List ℕ)) (f0 f1 : ℕ) (first second : List ℕ) (e : Failed)
    → PutsText was now f0 f1 first (Err e) → PutsText was now f0 f1 (first ++ second) (Err e)
puts_failed was now f0 f1 first second e a =
    record {
      whole = tt;
      part =
          λ before told.
          let p = a.part before told in
          (p.0, rw length-append (omega (arith, p.1)), rw (take-append-le p.0 first second p.1) p.2);
      cause = a.cause;
    }

-- nothing was put yet
pub puts_nothing : (was : Option (List ℕ)) (faults : ℕ) → PutsText was was faults faults [] (Ok tt)
puts_nothing was faults =
    record {
      whole = λ before told. rw append-nil told;
      part = tt;
      cause = omega arith;
    }

-- one more labelled number
pub next_label : (numbers : List (Bor (List ℕ) × Number)) (i : ℕ) (d : Bor (List ℕ) × Number) → i < length numbers
    → labelled (map label_now (take (i + 1) numbers))
    ≡ labelled (map label_now (take i numbers)) ++ ((get_or numbers i d).0.now ++ number_text (get_or numbers i d).1)
next_label numbers i d within =
    rw (take_more numbers i d within, map-append, flat_map-append, append-nil) refl

-- a line begins with its first labelled numbers
pub line_of_first : (numbers : List (Bor (List ℕ) × Number)) (i : ℕ) (end : List ℕ)
    → line (map label_now numbers) end ≡ labelled (map label_now (take i numbers)) ++ (labelled (map label_now (drop i numbers)) ++ end)
unfolding line
line_of_first numbers i end =
    rw (
      ← append_assoc (labelled (map label_now (take i numbers))) (labelled (map label_now (drop i numbers))) end,
      ← flat_map-append,
      ← map-append,
      take-append-drop,
    ) refl

-- all labelled numbers, and then the end
pub line_of_all : (numbers : List (Bor (List ℕ) × Number)) (i : ℕ) (end : List ℕ) → length numbers ≤ i
    → line (map label_now numbers) end ≡ labelled (map label_now (take i numbers)) ++ end
unfolding line
line_of_all numbers i end all = rw (take_all i numbers all) refl
