-- How links stand for lists: each list is a circle of links through an end of its own.
use Rattle.std.specs.Prelude.{◌≡◌, ℕ, ◌+◌, ◌<◌, ◌==◌, ◌&&◌, nat_lt, Bool, false, List, [], ◌∷◌, map, cond, length, zero, suc, Option, None, Some, IfSome, slice_index_or}
use Rattle.std.specs.List.{range_with_len}
use Rattle.xfs_collections.specs.declared.links.NodeLink.{NodeLink}
use Rattle.xfs_collections.specs.Lists.{Woven, has_node, AreOnce}

abbrev pub no_link : NodeLink
no_link = record { after = 0; before = 0; list = None }

-- the link behind link k, the one in front of it, and the list that it is on
abbrev pub after_of : List NodeLink → ℕ → ℕ
after_of links k = (slice_index_or links k no_link).after

abbrev pub before_of : List NodeLink → ℕ → ℕ
before_of links k = (slice_index_or links k no_link).before

abbrev pub list_of : List NodeLink → ℕ → Option ℕ
list_of links k = (slice_index_or links k no_link).list

-- the nodes from x on, up to the end of the list
abbrev pub nodes_along : (ℕ → ℕ) → ℕ → ℕ → ℕ → List ℕ
nodes_along after nodes zero x = []
nodes_along after nodes (suc steps) x = cond (nat_lt x nodes) (x ∷ nodes_along after nodes steps (after x)) []

-- list l of the weave, whose end is link `nodes + l`
abbrev pub walked : (ℕ → ℕ) → ℕ → ℕ → List ℕ
walked after nodes l = nodes_along after nodes nodes (after (nodes + l))

abbrev pub woven_of : ℕ → ℕ → List NodeLink → Woven
woven_of nodes lists links = record { nodes = nodes; lists = map (walked (after_of links) nodes) (range_with_len 0 lists) }

-- from u the links go by the nodes in this order to v, and back
abbrev pub Path : (ℕ → ℕ) → (ℕ → ℕ) → ℕ → List ℕ → ℕ → Type 0
Path after before u [] v = (after u ≡ v) × (before v ≡ u)
Path after before u (x ∷ xs) v = (after u ≡ x) × (before x ≡ u) × Path after before x xs v

-- whether it is list l
abbrev pub is_list : ℕ → Option ℕ → Bool
is_list l None = false
is_list l (Some k) = k == l

-- the links stand for the lists of f
pub record AreLinked (nodes lists : ℕ) (after before : ℕ → ℕ) (list : ℕ → Option ℕ) (f : ℕ → List ℕ) : Type 0 where
  pub circle : (l : ℕ) → l < lists → Path after before (nodes + l) (f l) (nodes + l)
  pub once : (l : ℕ) → l < lists → AreOnce (f l)
  pub on : (l x : ℕ) → l < lists → has_node x (f l) ≡ (nat_lt x nodes && is_list l (list x))
  pub low : (x : ℕ) → x < nodes → IfSome (list x) (λ l. l < lists)
  pub ahead : (x : ℕ) → x < nodes + lists → after x < nodes + lists
  pub back : (x : ℕ) → x < nodes + lists → before x < nodes + lists

-- the links stand for the lists that are walked
pub record AreWoven (nodes lists : ℕ) (links : List NodeLink) : Type 0 where
  pub size : length links ≡ nodes + lists
  pub linked : AreLinked nodes lists (after_of links) (before_of links) (list_of links) (walked (after_of links) nodes)
