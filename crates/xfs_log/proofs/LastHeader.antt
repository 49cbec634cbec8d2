-- The last header of a log's sectors.
use Rattle.std.proofs.Common.{◌≡◌, ℕ, ◌+◌, ◌<◌, ◌≤◌, true, false, Bool, cond, List, [], ◌∷◌, ◌++◌, length, take, get_or, Option, Some, None, IfSome, refl, sym, ap, subst, ◌∙◌, arith}
use Rattle.std.proofs.lemmas.Bool.{cond-true, cond-false}
use Rattle.std.proofs.lemmas.List.{take_more, length-take-le}
use Rattle.xfs_log.specs.Log.{last_header, one_further, no_sector}
use Rattle.xfs_log.specs.declared.sectors.SectorSeen.{SectorSeen}

last_joined : (xs : List SectorSeen) (x : SectorSeen) → last_header (xs ++ x ∷ []) ≡ cond x.header (Some (length xs)) (last_header xs)
unfolding last_header
last_joined [] x = refl
last_joined (y ∷ ys) x = ap (λ l. one_further l y.header) (last_joined ys x) ∙ further x.header
  where
    further : (b : Bool) → one_further (cond b (Some (length ys)) (last_header ys)) y.header ≡ cond b (Some (length (y ∷ ys))) (last_header (y ∷ ys))
    further true =
        let same : length ys + 1 ≡ length (y ∷ ys) = omega arith in
        ap Some same
    further false = refl

-- the last header among one sector more
pub last_more : (xs : List SectorSeen) (i : ℕ) (d : SectorSeen) → i < length xs
    → last_header (take (i + 1) xs) ≡ cond (get_or xs i d).header (Some i) (last_header (take i xs))
last_more xs i d inside =
    let enough : i ≤ length xs = omega arith in
    ap last_header (take_more xs i d inside)
    ∙ (last_joined (take i xs) (get_or xs i d)
    ∙ ap (λ (n : ℕ). cond (get_or xs i d).header (Some n) (last_header (take i xs))) (length-take-le i xs enough))

pub found : (xs : List SectorSeen) (i : ℕ) (now : Option ℕ) → i < length xs → (get_or xs i no_sector).header ≡ true → now ≡ Some i
    → (now ≡ last_header (take (i + 1) xs)) × IfSome now (λ start. start < i + 1)
found xs i now inside header is =
    let below : i < i + 1 = omega arith in
    (is ∙ sym (last_more xs i no_sector inside ∙ cond-true _ _ _ header), subst (λ (o : Option ℕ). IfSome o (λ start. start < i + 1)) (sym is) below)

wider : (o : Option ℕ) (i : ℕ) → IfSome o (λ start. start < i) → IfSome o (λ start. start < i + 1)
wider (Some start) i h = omega (arith, h)
wider None i h = tt

pub passed : (xs : List SectorSeen) (i : ℕ) (now last : Option ℕ) → i < length xs → (get_or xs i no_sector).header ≡ false → now ≡ last
    → last ≡ last_header (take i xs) → IfSome last (λ start. start < i)
    → (now ≡ last_header (take (i + 1) xs)) × IfSome now (λ start. start < i + 1)
passed xs i now last inside header is was bound =
    (is ∙ (was ∙ sym (last_more xs i no_sector inside ∙ cond-false _ _ _ header)), subst (λ (o : Option ℕ). IfSome o (λ start. start < i + 1)) (sym is) (wider last i bound))
