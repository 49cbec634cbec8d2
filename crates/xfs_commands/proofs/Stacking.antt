-- Places that are put onto the stack, and taken back.
use Rattle.std.proofs.Common.{◌≡◌, ℕ, zero, suc, ◌+◌, List, [], ◌∷◌, ◌++◌, length, take, Option, refl, sym, ◌∙◌, ap, arith, append_assoc, append-nil}
use Rattle.std.proofs.lemmas.List.Elements.{All-push}
use Rattle.xfs_commands.specs.Commands.{Session, IsSectorPlace, IsWithin}
use Rattle.xfs_commands.specs.Cursors.{pushed, back_to, saved}
use Rattle.std.proofs.Math.Seq.{take-append_seam}
use Rattle.xfs_objects.specs.declared.objects.ObjectPlace.{ObjectPlace}

pub pushed_at : (n : ℕ) (place : ObjectPlace) (s : Session) → (pushed n place s).at ≡ s.at
pushed_at zero place s = refl
pushed_at (suc n) place s = pushed_at n place (saved place s)

-- one more push
pub pushed_more : (n : ℕ) (place : ObjectPlace) (s : Session) → pushed (n + 1) place s ≡ saved place (pushed n place s)
pushed_more n place s = let more : n + 1 ≡ suc n = omega arith in ap (λ (k : ℕ). pushed k place s) more ∙ by_count n s
  where
    by_count : (n : ℕ) (s : Session) → pushed (suc n) place s ≡ saved place (pushed n place s)
    by_count zero s = refl
    by_count (suc n) s = by_count n (saved place s)

-- a place more is in the volume too
saved_within : (n : ℕ) (place : ObjectPlace) (s : Session) → IsWithin n s → IsSectorPlace n place → IsWithin n (saved place s)
saved_within n place s within inside = record { at_is = within.at_is; stack_is = All-push (IsSectorPlace n) s.stack place within.stack_is inside }

pub pushed_within : (n count : ℕ) (place : ObjectPlace) (s : Session) → IsWithin n s → IsSectorPlace n place → IsWithin n (pushed count place s)
pushed_within n zero place s within inside = within
pushed_within n (suc count) place s within inside = pushed_within n count place (saved place s) (saved_within n place s within inside) inside

-- what pushes put behind the stack
abbrev behind : ℕ → ObjectPlace → List ObjectPlace
behind zero place = []
behind (suc n) place = place ∷ behind n place

pushed_stack : (n : ℕ) (place : ObjectPlace) (s : Session) → (pushed n place s).stack ≡ s.stack ++ behind n place
pushed_stack zero place s = sym (append-nil s.stack)
pushed_stack (suc n) place s = pushed_stack n place (saved place s) ∙ append_assoc s.stack (place ∷ []) (behind n place)

-- the stack without what pushes put there
pub taken_back : (n : ℕ) (place : ObjectPlace) (s : Session) → back_to (length s.stack) (pushed n place s) ≡ s
taken_back n place s =
    ap (λ (at : Option ObjectPlace). let t : Session = record { at = at; stack = take (length s.stack) (pushed n place s).stack } in t) (pushed_at n place s)
    ∙ ap (λ (stack : List ObjectPlace). let t : Session = record { at = s.at; stack = take (length s.stack) stack } in t) (pushed_stack n place s)
    ∙ ap (λ (stack : List ObjectPlace). let t : Session = record { at = s.at; stack = stack } in t) (take-append_seam s.stack (behind n place))
