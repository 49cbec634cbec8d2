-- The order in which files get blocks has the place of each file once.
use Rattle.std.proofs.Common.{◌≡◌, ◌≢◌, ℕ, zero, suc, ◌+◌, ◌*◌, ◌≤◌, ◌<◌, ◌⊎◌, inl, inr, Bool, true, false, cond, not, List, [], ◌∷◌, ◌++◌, length, get_or, arith, refl, sym, subst, ap, ◌∙◌}
use Rattle.std.specs.List.{All, AllPairs, Contains, filter, range_with_len}
use Rattle.std.proofs.lemmas.Bool.{cases_eq, cases_lt, ne_eqb}
use Rattle.std.proofs.lemmas.List.Elements.{All-append, Contains-append_left, Contains-append_right, filter_passes}
use Rattle.std.proofs.lemmas.List.FromFn.{get_or-range_with_len, length-range_with_len}
use Rattle.std.proofs.lemmas.List.Kept.{AllPairs-cons, AllPairs-filter}
use Rattle.xfs_geom.specs.Volumes.{volume_of}
use Rattle.xfs_geom.specs.declared.geometry.Geometry.{Geometry}
use Rattle.xfs_proto.specs.declared.protofile.ProtoNode.{ProtoNode}
use Rattle.xfs_filled.specs.FileTrees.{is_directory_node, is_of, node_at, object_order, places_of_kind}
use Rattle.xfs_filled.specs.Numbers.{index_of_place, number_of}
use Rattle.xfs_filled.specs.Sites.{AreChunksPlaced}
use Rattle.xfs_filled.proofs.Ascending.{inode_at_once}
use Rattle.xfs_filled.proofs.Asking.{order_inside}
use Rattle.xfs_filled.proofs.Numbering.{index_low}
use Rattle.xfs_filled.proofs.Rising.{Rise}

abbrev Differ : ℕ → ℕ → Type 0
Differ a b = a ≢ b

pairs_append : (xs ys : List ℕ) → AllPairs Differ xs → AllPairs Differ ys → All (λ x. All (Differ x) ys) xs → AllPairs Differ (xs ++ ys)
pairs_append [] ys one other across = other
pairs_append (x ∷ xs) ys one other across =
    AllPairs-cons Differ x (xs ++ ys) (All-append (Differ x) xs ys (λ k d low. one zero (suc k) d (omega arith) (omega (arith, low))) (across zero x (omega arith)))
    (pairs_append xs ys (λ i j d less low. one (suc i) (suc j) d (omega (arith, less)) (omega (arith, low))) other (λ k d low. across (suc k) d (omega (arith, low))))

part_differs : (ns : List ProtoNode) (directories : Bool) → AllPairs Differ (places_of_kind ns directories)
part_differs ns directories =
    AllPairs-filter Differ (λ k. is_of directories (node_at ns k).kind) (range_with_len 0 (length ns)) (λ i j d less low same.
    let long = length-range_with_len 0 (length ns) in
    let first = get_or-range_with_len 0 (length ns) i d (omega (arith, long, less, low)) in
    let second = get_or-range_with_len 0 (length ns) j d (omega (arith, long, low)) in
    absurd (omega (arith, first, second, same, less)))

not_both : (b : Bool) → b ≡ true → not b ≢ true
not_both true is other = cc
not_both false is other = cc

across : (ns : List ProtoNode) → All (λ x. All (Differ x) (places_of_kind ns false)) (places_of_kind ns true)
across ns k d low m e few same =
    let one : is_directory_node ns (get_or (places_of_kind ns true) k d) ≡ true = filter_passes (λ i. is_of true (node_at ns i).kind) (range_with_len 0 (length ns)) k d low in
    let other : not (is_directory_node ns (get_or (places_of_kind ns false) m e)) ≡ true = filter_passes (λ i. is_of false (node_at ns i).kind) (range_with_len 0 (length ns)) m e few in
    not_both (is_directory_node ns (get_or (places_of_kind ns false) m e)) (subst (λ (i : ℕ). is_directory_node ns i ≡ true) same one) other

pub order_differs : (ns : List ProtoNode) → AllPairs (λ a b. a ≢ b) (object_order ns)
order_differs ns = pairs_append (places_of_kind ns true) (places_of_kind ns false) (part_differs ns true) (part_differs ns false) (across ns)

pub contains_filter : (p : ℕ → Bool) (x : ℕ) (xs : List ℕ) → p x ≡ true → Contains xs x → Contains (filter p xs) x
contains_filter p x [] passes there = let low = there.1 in absurd (omega (arith, low))
contains_filter p x (y ∷ ys) passes (zero, low, is) = rw (ap p is ∙ passes) (zero, omega arith, is)
contains_filter p x (y ∷ ys) passes (suc k, low, is) = by_case (contains_filter p x ys passes (k, omega (arith, low), is)) (p y)
  where
    by_case : Contains (filter p ys) x → (r : Bool) → Contains (cond r (y ∷ filter p ys) (filter p ys)) x
    by_case rest true = let low = rest.1 in (suc rest.0, omega (arith, low), rest.2)
    by_case rest false = rest

in_part : (ns : List ProtoNode) (directories : Bool) (k : ℕ) → k < length ns → is_of directories (node_at ns k).kind ≡ true → Contains (places_of_kind ns directories) k
in_part ns directories k low is =
    let long = length-range_with_len 0 (length ns) in
    let plain : 0 + k ≡ k = omega arith in
    contains_filter (λ i. is_of directories (node_at ns i).kind) k (range_with_len 0 (length ns)) is (k, omega (arith, long, low), get_or-range_with_len 0 (length ns) k k low ∙ plain)

pub order_has : (ns : List ProtoNode) (k : ℕ) → k < length ns → Contains (object_order ns) k
order_has ns k low = by_case (is_directory_node ns k) refl
  where
    by_case : (r : Bool) → is_directory_node ns k ≡ r → Contains (object_order ns) k
    by_case true is = Contains-append_left (places_of_kind ns true) (places_of_kind ns false) k (in_part ns true k low is)
    by_case false is = Contains-append_right (places_of_kind ns true) (places_of_kind ns false) k (in_part ns false k low (ap not is))

-- two files have two inodes
index_none : (k : ℕ) → k ≡ 0 → index_of_place k ≡ 0
index_none k none = subst (λ (m : ℕ). index_of_place m ≡ 0) (sym none) refl

index_some : (k : ℕ) → k ≢ 0 → index_of_place k ≡ k + 2
index_some k some = ap (λ (t : Bool). cond t 0 (k + 2)) (ne_eqb k 0 some)

index_once : (k m : ℕ) → k ≢ m → index_of_place k ≢ index_of_place m
index_once k m differ = by_case (cases_eq k 0) (cases_eq m 0)
  where
    by_case : (k ≡ 0) ⊎ (k ≢ 0) → (m ≡ 0) ⊎ (m ≢ 0) → index_of_place k ≢ index_of_place m
    by_case (inl a) (inl b) same = differ (a ∙ sym b)
    by_case (inl a) (inr b) same = let x = index_none k a in let y = index_some m b in absurd (omega (arith, x, y, same))
    by_case (inr a) (inl b) same = let x = index_some k a in let y = index_none m b in absurd (omega (arith, x, y, same))
    by_case (inr a) (inr b) same = let x = index_some k a in let y = index_some m b in absurd (omega (arith, x, y, same, differ))

-- the chunks of a site stand one behind the other
rise_of : (end least : ℕ) (xs : List ℕ) → least ≤ end → ((i d : ℕ) → i < length xs → least ≤ get_or xs i d) → All (λ start. start + 8 ≤ end) xs
    → ((i j : ℕ) → i < j → j < length xs → get_or xs i 0 + 8 ≤ get_or xs j 0) → Rise end least xs
rise_of end least [] few each inside up = few
rise_of end least (x ∷ xs) few each inside up = (
  each zero 0 (omega arith),
  rise_of end (x + 8) xs (inside zero 0 (omega arith)) (λ i d low. all_default (x + 8) xs (λ m less. up zero (suc m) (omega arith) (omega (arith, less))) i d low)
      (λ k d low. inside (suc k) d (omega (arith, low))) (λ i j less low. up (suc i) (suc j) (omega (arith, less)) (omega (arith, low))),
)
  where
    all_default : (least : ℕ) (ys : List ℕ) → ((i : ℕ) → i < length ys → least ≤ get_or ys i 0) → (i d : ℕ) → i < length ys → least ≤ get_or ys i d
    all_default least [] each i d low = absurd (omega (arith, low))
    all_default least (y ∷ ys) each zero d low = each zero (omega arith)
    all_default least (y ∷ ys) each (suc i) d low = all_default least ys (λ m less. each (suc m) (omega (arith, less))) i d (omega (arith, low))

pub rise_in : (g : Geometry) (starts : List ℕ) (ns : List ProtoNode) → AreChunksPlaced g starts ns → Rise g.dblocks 0 starts
rise_in g starts ns placed = rise_of g.dblocks 0 starts (omega arith) (λ i d less. omega arith) placed.volume placed.ascend

pub number_once : (g : Geometry) (starts : List ℕ) (ns : List ProtoNode) (k m : ℕ) → AreChunksPlaced g starts ns → k < length ns → m < length ns → k ≢ m
    → number_of (volume_of g) starts k ≢ number_of (volume_of g) starts m
number_once g starts ns k m placed low few differ =
    inode_at_once (volume_of g) g.dblocks 0 (index_of_place k) (index_of_place m) starts g.shape.groups g.shape.addresses (rise_in g starts ns placed) (index_low k (64 * length starts) (omega (arith, placed.enough, low)))
    (index_low m (64 * length starts) (omega (arith, placed.enough, few))) (index_once k m differ)

-- the owners of the runs of files differ
pub order_apart : (ns : List ProtoNode) (order : List ℕ) (j m : ℕ) → order ≡ object_order ns → j < length order → m < length order → j ≢ m → get_or order j 0 ≢ get_or order m 0
order_apart ns order j m is low few differ =
    let all : AllPairs Differ order = subst (AllPairs Differ) (sym is) (order_differs ns) in
    by_case all (cases_lt j m)
  where
    by_case : AllPairs Differ order → (j < m) ⊎ (m ≤ j) → get_or order j 0 ≢ get_or order m 0
    by_case all (inl less) same = all j m 0 less few same
    by_case all (inr more) same = all m j 0 (omega (arith, more, differ)) low (sym same)

pub owners_differ : (g : Geometry) (starts : List ℕ) (ns : List ProtoNode) (order : List ℕ) (j m : ℕ) → AreChunksPlaced g starts ns → order ≡ object_order ns
    → j < length order → m < length order → j ≢ m → number_of (volume_of g) starts (get_or order j 0) ≢ number_of (volume_of g) starts (get_or order m 0)
owners_differ g starts ns order j m placed is low few differ =
    let inside : All (λ k. k < length ns) order = subst (All (λ k. k < length ns)) (sym is) (order_inside ns) in
    number_once g starts ns (get_or order j 0) (get_or order m 0) placed (inside j 0 low) (inside m 0 few) (order_apart ns order j m is low few differ)
