-- One step of the tests and of the choice that go through what a block holds.
use Rattle.std.proofs.Common.{◌≡◌, Bool, true, false, ◌&&◌, List, ◌∷◌, Option, Some, sym, ◌∙◌, ap}
use Rattle.xfs_geom.specs.Volumes.{Volume}
use Rattle.xfs_tree.specs.Shape.{Shape}
use Rattle.xfs_tree.specs.Rules.{are_lawful, is_above, ascend_behind, greater, greatest_with}

goes_on : (test more all : Bool) → test ≡ true → (test && more) ≡ all → more ≡ all
goes_on test more all kept held = ap (λ b. b && more) (sym kept) ∙ held

stops : (test more all : Bool) → test ≡ false → (test && more) ≡ all → false ≡ all
stops test more all broken held = ap (λ b. b && more) (sym broken) ∙ held

module _ {R K : Type 0} (s : Shape R K) where
  pub lawful_step : (v : Volume) (before : Option R) (item : R) (items rest : List R) (all : Bool) → items ≡ item ∷ rest
      → s.lawful v before item ≡ true → are_lawful s v before items ≡ all → are_lawful s v (Some item) rest ≡ all
  lawful_step v before item items rest all split kept held =
      goes_on (s.lawful v before item) (are_lawful s v (Some item) rest) all kept (ap (are_lawful s v before) (sym split) ∙ held)

  pub lawful_stop : (v : Volume) (before : Option R) (item : R) (items rest : List R) (all : Bool) → items ≡ item ∷ rest
      → s.lawful v before item ≡ false → are_lawful s v before items ≡ all → false ≡ all
  lawful_stop v before item items rest all split broken held =
      stops (s.lawful v before item) (are_lawful s v (Some item) rest) all broken (ap (are_lawful s v before) (sym split) ∙ held)

  pub ascend_step : (before : Option K) (key : K) (keys rest : List K) (all : Bool) → keys ≡ key ∷ rest
      → is_above s before key ≡ true → ascend_behind s before keys ≡ all → ascend_behind s (Some key) rest ≡ all
  ascend_step before key keys rest all split kept held =
      goes_on (is_above s before key) (ascend_behind s (Some key) rest) all kept (ap (ascend_behind s before) (sym split) ∙ held)

  pub ascend_stop : (before : Option K) (key : K) (keys rest : List K) (all : Bool) → keys ≡ key ∷ rest
      → is_above s before key ≡ false → ascend_behind s before keys ≡ all → false ≡ all
  ascend_stop before key keys rest all split broken held =
      stops (is_above s before key) (ascend_behind s (Some key) rest) all broken (ap (ascend_behind s before) (sym split) ∙ held)

  pub greatest_step : (best : Option K) (key : K) (keys rest : List K) (all : Option K) → keys ≡ key ∷ rest
      → greatest_with s best keys ≡ all → greatest_with s (Some (greater s best key)) rest ≡ all
  greatest_step best key keys rest all split held = ap (greatest_with s best) (sym split) ∙ held
