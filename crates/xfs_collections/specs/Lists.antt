-- Lists of nodes, as callers of the weave see them.
use Rattle.std.specs.Prelude.{◌≡◌, ℕ, ◌<◌, ◌==◌, Bool, List, [], ◌∷◌, ◌++◌, map, length, cond, not, true, false, Option, None, slice_get, slice_index_or, slice_set}
use Rattle.std.specs.List.{list_any, filter}

-- so many nodes, and the lists, each of nodes in their order
pub record Woven : Type 0 where
  pub nodes : ℕ
  pub lists : List (List ℕ)

-- whether the node stands in the list
abbrev pub has_node : ℕ → List ℕ → Bool
has_node n xs = list_any (λ x. x == n) xs

-- the list without the node
abbrev pub without : ℕ → List ℕ → List ℕ
without n xs = filter (λ x. not (x == n)) xs

-- the node behind n in the list
abbrev pub next_behind : ℕ → List ℕ → Option ℕ
next_behind n [] = None
next_behind n (x ∷ xs) = cond (x == n) (slice_get xs 0) (next_behind n xs)

-- the nodes of list l
abbrev pub list_at : Woven → ℕ → List ℕ
list_at w l = slice_index_or w.lists l []

-- the node is on list l
abbrev pub IsOn : Woven → ℕ → ℕ → Type 0
IsOn w l n = (l < length w.lists) × (has_node n (list_at w l) ≡ true)

-- the node is on no list
abbrev pub IsFree : Woven → ℕ → Type 0
IsFree w n = (l : ℕ) → IsOn w l n → ⊥

-- the weave with list l as it is given
abbrev pub with_list : Woven → ℕ → List ℕ → Woven
with_list w l xs = record { nodes = w.nodes; lists = slice_set w.lists l xs }

-- the weave with the node put last on list l
abbrev pub put_last : Woven → ℕ → ℕ → Woven
put_last w l n = with_list w l (list_at w l ++ n ∷ [])

-- the weave with the node taken off its list
abbrev pub taken_off : Woven → ℕ → Woven
taken_off w n = record { nodes = w.nodes; lists = map (without n) w.lists }

-- no node of the list stands in it again
abbrev pub AreOnce : List ℕ → Type 0
AreOnce [] = Unit {0}
AreOnce (x ∷ xs) = (has_node x xs ≡ false) × AreOnce xs

-- each node stands once at most on one list at most, and is one of the weave's
pub record ListsApart (w : Woven) : Type 0 where
  pub inside : (l n : ℕ) → IsOn w l n → n < w.nodes
  pub alone : (k l n : ℕ) → IsOn w k n → IsOn w l n → k ≡ l
  pub once : (l : ℕ) → l < length w.lists → AreOnce (list_at w l)
