-- Whether the slots of one cluster are read, by tests one after the other.
use Rattle.std.proofs.Common.{◌≡◌, ℕ, ◌==◌, Bool, true, false, ◌&&◌, ◌||◌, Option, Result, Ok, Err, sym, ap, ap₂, ◌∙◌}
use Rattle.std.proofs.lemmas.Bool.{eq-eqb, ne_eqb}
use Rattle.std.specs.Prelude.{IfOk}
use Rattle.std.specs.Option.{ForSome}
use Rattle.xfs_disk.specs.Blocks.{Image}

-- those of the root's are
pub of_root : (a b : ℕ) (rest : Bool) → a ≡ b → true ≡ ((a == b) || rest)
of_root a b rest same = sym (ap (λ (x : Bool). x || rest) (eq-eqb a b same))

-- those of a cluster that no tree names are not, nor those of one outside all chunks
pub unnamed : (a b : ℕ) (named inside clear : Bool) → (a ≡ b → ⊥) → named ≡ false → false ≡ ((a == b) || (named && inside && clear))
unnamed a b named inside clear other is =
    sym (ap₂ (λ (x y : Bool). x || (y && inside && clear)) (ne_eqb a b other) is)

pub outside : (a b : ℕ) (named inside clear : Bool) → (a ≡ b → ⊥) → named ≡ true → inside ≡ false → false ≡ ((a == b) || (named && inside && clear))
outside a b named inside clear other is out =
    sym (ap₂ (λ (x y : Bool). x || (y && inside && clear)) (ne_eqb a b other) is ∙ ap (λ (z : Bool). z && clear) out)

-- those of any other are where its blocks are clear
clear_then : (a b : ℕ) (named inside clear : Bool) → (a ≡ b → ⊥) → named ≡ true → inside ≡ true → clear ≡ ((a == b) || (named && inside && clear))
clear_then a b named inside clear other is in_chunk =
    sym (ap₂ (λ (x y : Bool). x || (y && inside && clear)) (ne_eqb a b other) is ∙ ap (λ (z : Bool). z && clear) in_chunk)

pub where_clear : {E : Type 0} (answer : Result Bool E) (holds : Option Image) (looks : Bool) (bare clear : Image → Bool) (a b : ℕ) (named inside : Bool) → (a ≡ b → ⊥) → named ≡ true → inside ≡ true
    → IfOk answer (λ is. ForSome holds (λ image. (is ≡ true → looks ≡ false → bare image ≡ true) → is ≡ clear image))
    → IfOk answer (λ is. ForSome holds (λ image. (is ≡ true → looks ≡ false → bare image ≡ true) → is ≡ ((a == b) || (named && inside && clear image))))
where_clear (Ok is) holds looks bare clear a b named inside other named_is inside_is answered = λ image told none.
    answered image told none ∙ clear_then a b named inside (clear image) other named_is inside_is
where_clear (Err failed) holds looks bare clear a b named inside other named_is inside_is answered = tt

-- what is asked of a cluster that is not the root's
pub no_root : {E : Type 0} (answer : Result Bool E) (a b : ℕ) → (a ≡ b → ⊥) → IfOk answer (λ is. a ≡ b → is ≡ true)
no_root (Ok is) a b other = λ root. absurd (other root)
no_root (Err failed) a b other = tt
