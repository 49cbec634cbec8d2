-- The clusters that two trees name, and the blocks of these.
use Rattle.std.proofs.Common.{◌≡◌, ℕ, Bool, true, false, ◌==◌, ◌||◌, Option, Some, None, List, [], ◌∷◌, refl, sym, ap, ap₂, ◌∙◌, subst}
use Rattle.std.specs.Prelude.{IfSome}
use Rattle.std.specs.List.{All, list_all, list_any}
use Rattle.std.proofs.lemmas.Bool.{and_from, eq-eqb, or_right}
use Rattle.std.proofs.lemmas.List.Elements.{All-nil}
use Rattle.xfs_disk.specs.Lists.{is_among}
use Rattle.xfs_image.specs.Claims.{is_of_cluster}
use Rattle.xfs_image.specs.Clusters.{names, same_clusters}
use Rattle.xfs_image.specs.Reserved.{is_of_named}
use Rattle.xfs_groups.specs.Named.{is_named, named_in}
use Rattle.xfs_groups.proofs.BlockSets.{or_moved}

-- each of some clusters is one of those that have all of them
all_in : (xs ys : List ℕ) → ((q : ℕ) → is_among xs q ≡ true → is_among ys q ≡ true) → list_all (is_among ys) xs ≡ true
all_in [] ys there = refl
all_in (x ∷ xs) ys there =
    and_from (is_among ys x) (list_all (is_among ys) xs) (there x (ap (λ (t : Bool). t || is_among xs x) (eq-eqb x x refl)))
    (all_in xs ys (λ q is. there q (or_right (x == q) (is_among xs q) is)))

-- one list names the same clusters as itself
pub same_itself : (xs ys : List ℕ) → xs ≡ ys → true ≡ same_clusters xs ys
same_itself xs ys same =
    let all : list_all (is_among xs) xs ≡ true = all_in xs xs (λ q is. is) in
    sym (ap (same_clusters xs) (sym same) ∙ and_from (list_all (is_among xs) xs) (list_all (is_among xs) xs) all all)

-- a tree that does not read names none
names_in : (named : Option (List ℕ)) (q : ℕ) → is_among (named_in named) q ≡ names named q
names_in None q = refl
names_in (Some clusters) q = refl

pub of_named_in : (named : Option (List ℕ)) (xs : List ℕ) (q : ℕ) → xs ≡ named_in named → list_any (λ cluster. is_of_cluster cluster q) xs ≡ is_of_named named q
of_named_in None xs q is = ap (list_any (λ cluster. is_of_cluster cluster q)) is
of_named_in (Some clusters) xs q is = ap (list_any (λ cluster. is_of_cluster cluster q)) is

pub low_in : (P : ℕ → Type 0) (named : Option (List ℕ)) (xs : List ℕ) → xs ≡ named_in named → IfSome named (λ clusters. All P clusters) → All P xs
low_in P None xs is low = subst (All P) (sym is) (All-nil P)
low_in P (Some clusters) xs is low = subst (All P) (sym is) low

pub named_by_both : (chunks owners : Option (List ℕ)) (old xs ys : List ℕ) (q : ℕ) → old ≡ [] → xs ≡ named_in chunks → ys ≡ named_in owners
    → (is_among old q || (is_among xs q || is_among ys q)) ≡ is_named chunks owners q
named_by_both chunks owners old xs ys q none chunks_is owners_is =
    ap (λ (zs : List ℕ). is_among zs q || (is_among xs q || is_among ys q)) none
    ∙ ap₂ (λ (a b : Bool). a || b) (ap (λ (zs : List ℕ). is_among zs q) chunks_is ∙ names_in chunks q) (ap (λ (zs : List ℕ). is_among zs q) owners_is ∙ names_in owners q)

-- the blocks of two trees and of the clusters that these name, added one after the other
pub held_by_all : (none one two all ino rmap chunks owners a b : Bool) → none ≡ false → one ≡ (none || ino) → two ≡ (one || rmap) → all ≡ (two || (a || b))
    → a ≡ chunks → b ≡ owners → all ≡ (((ino || rmap) || chunks) || owners)
held_by_all none one two all ino rmap chunks owners a b none_is one_is two_is all_is a_is b_is =
    let trees : two ≡ (ino || rmap) = two_is ∙ ap (λ (t : Bool). t || rmap) (one_is ∙ ap (λ (t : Bool). t || ino) none_is) in
    all_is ∙ ap₂ (λ (x y : Bool). x || y) trees (ap₂ (λ (x y : Bool). x || y) a_is b_is) ∙ or_moved (ino || rmap) chunks owners
