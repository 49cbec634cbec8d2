-- Generated files are files of a new volume.
use Rattle.std.proofs.Common.{◌≡◌, ℕ, ◌+◌, ◌-◌, ◌*◌, ◌/◌, ◌^◌, ◌<◌, ◌≤◌, ◌==◌, true, Bool, not, List, [], length, get_or, arith, refl, sym, ap, subst, ◌∙◌}
use Rattle.std.specs.List.{range_with_len}
use Rattle.std.proofs.lemmas.List.FromFn.{get_or-map-range_with_len, length-map-range_with_len, length-range_with_len}
use Rattle.std.proofs.lemmas.List.Filters.{length-filter_both}
use Rattle.xfs_volume.specs.Names.{is_name}
use Rattle.xfs_proto.specs.declared.protofile.ProtoNode.{ProtoNode}
use Rattle.xfs_filled.specs.FileTrees.{AreProtoNodes, CanHold, IsBelow, child_places, is_directory_kind, is_directory_node, no_proto_node, node_at, type_of_kind}
use Rattle.xfs_generator.specs.Files.{all_count, generated_content, generated_contents, generated_node, generated_nodes, node_of, spot_of}
use Rattle.xfs_generator.specs.declared.spots.Spot.{Spot}
use Rattle.xfs_generator.specs.declared.spots.Spot.TheVariants.{Root, Directory, File}
use Rattle.xfs_generator.proofs.Names.{directory_is_name, directory_names_differ, file_is_name, file_names_differ}
use Rattle.xfs_generator.proofs.Stepping.{IsSpot, spot_directory, spot_is, spot_root}

pub count_nodes : (n : ℕ) → length (generated_nodes n) ≡ all_count n
unfolding generated_nodes
count_nodes n = length-map-range_with_len generated_node 0 (all_count n)

pub count_contents : (n : ℕ) → length (generated_contents n) ≡ all_count n
unfolding generated_contents
count_contents n = length-map-range_with_len generated_content 0 (all_count n)

pub node_there : (n k : ℕ) → k < all_count n → node_at (generated_nodes n) k ≡ node_of (spot_of k)
unfolding generated_nodes
node_there n k low = get_or-map-range_with_len generated_node 0 (all_count n) k k no_proto_node low (omega arith)

pub content_there : (n k : ℕ) → k < all_count n → get_or (generated_contents n) k [] ≡ generated_content k
unfolding generated_contents
content_there n k low = get_or-map-range_with_len generated_content 0 (all_count n) k k [] low (omega arith)

-- what stands at a place
pub node_is : (n k : ℕ) (spot : Spot) → k < all_count n → spot_of k ≡ spot → node_at (generated_nodes n) k ≡ node_of spot
node_is n k spot low is = node_there n k low ∙ ap node_of is

types_of : (spot : Spot) → (node_of spot).mode / 2 ^ 12 ≡ type_of_kind (node_of spot).kind
types_of Root = refl
types_of (Directory q) = refl
types_of (File q i) = refl

holds_of : (spot : Spot) → CanHold (node_of spot).kind
holds_of Root = tt
holds_of (Directory q) = tt
holds_of (File q i) = tt

few_children : (ns : List ProtoNode) (k : ℕ) → length (child_places ns k) ≤ length ns - 1
few_children ns k =
    let test : ℕ → Bool = λ i. (node_at ns i).parent == k in
    let both = length-filter_both test (λ i. not (test i)) (λ i. refl) (range_with_len 1 (length ns - 1)) in
    omega (arith, both, length-range_with_len 1 (length ns - 1))

module _ (n : ℕ) where
  abbrev ns : List ProtoNode
  ns = generated_nodes n

  some_nodes : 0 < all_count n
  some_nodes = omega arith

  root_is : is_directory_node ns 0 ≡ true
  root_is = ap (λ (node : ProtoNode). is_directory_kind node.kind) (node_is n 0 Root some_nodes spot_root)

  directory_is : (q : ℕ) → 1 + 101 * q < all_count n → is_directory_node ns (1 + 101 * q) ≡ true
  directory_is q low = ap (λ (node : ProtoNode). is_directory_kind node.kind) (node_is n (1 + 101 * q) (Directory q) low (spot_directory q))

  -- a node is below one that is
  below_as : (i : ℕ) (node : ProtoNode) → node_at ns i ≡ node → node.parent < i → is_directory_node ns node.parent ≡ true → is_name node.name ≡ true → IsBelow ns i
  below_as i node is low directory name = record {
    behind = subst (λ (x : ProtoNode). x.parent < i) (sym is) low;
    directory = subst (λ (x : ProtoNode). is_directory_node ns x.parent ≡ true) (sym is) directory;
    name = subst (λ (x : ProtoNode). is_name x.name ≡ true) (sym is) name;
  }

  below_by : (i : ℕ) (spot : Spot) → n ≤ 100000 → 1 ≤ i → i < all_count n → IsSpot i spot → node_at ns i ≡ node_of spot → IsBelow ns i
  below_by i Root most some low at is = absurd (omega (arith, some, at))
  below_by i (Directory q) most some low at is =
      below_as i (node_of (Directory q)) is (omega (arith, some)) root_is (directory_is_name q (omega (arith, most, low, at)))
  below_by i (File q k) most some low at is =
      below_as i (node_of (File q k)) is (omega (arith, at.low, at.place)) (directory_is q (omega (arith, low, at.low, at.place)))
      (file_is_name k (omega (arith, most, low, at.place)))

  -- names in one directory differ
  differ_by : (i j : ℕ) (a b : Spot) → n ≤ 100000 → 1 ≤ i → 1 ≤ j → i < all_count n → j < all_count n → IsSpot i a → IsSpot j b
      → (node_of a).parent ≡ (node_of b).parent → (node_of a).name ≡ (node_of b).name → i ≡ j
  differ_by i j Root b most first second low high at there parent name = absurd (omega (arith, first, at))
  differ_by i j a Root most first second low high at there parent name = absurd (omega (arith, second, there))
  differ_by i j (Directory q) (Directory p) most first second low high at there parent name =
      let same : q ≡ p = directory_names_differ q p (omega (arith, most, low, at)) (omega (arith, most, high, there)) name in
      omega (arith, at, there, same)
  differ_by i j (Directory q) (File p k) most first second low high at there parent name = absurd (omega (arith, parent))
  differ_by i j (File q k) (Directory p) most first second low high at there parent name = absurd (omega (arith, parent))
  differ_by i j (File q k) (File p l) most first second low high at there parent name =
      let same : k ≡ l = file_names_differ k l (omega (arith, most, low, at.place)) (omega (arith, most, high, there.place)) name in
      omega (arith, at.place, there.place, same, parent)

  node_by : (i : ℕ) → i < all_count n → node_at ns i ≡ node_of (spot_of i)
  node_by i low = node_there n i low

  names_by : (i j : ℕ) → n ≤ 100000 → 1 ≤ i → i < j → j < all_count n → (node_at ns i).parent ≡ (node_at ns j).parent → (node_at ns i).name ≡ (node_at ns j).name → ⊥
  names_by i j most some before low parent name =
      let one : node_at ns i ≡ node_of (spot_of i) = node_by i (omega (arith, before, low)) in
      let other : node_at ns j ≡ node_of (spot_of j) = node_by j low in
      let same : i ≡ j =
      differ_by i j (spot_of i) (spot_of j) most some (omega (arith, some, before)) (omega (arith, before, low)) low (spot_is i) (spot_is j)
      (sym (ap (λ (x : ProtoNode). x.parent) one) ∙ parent ∙ ap (λ (x : ProtoNode). x.parent) other)
      (sym (ap (λ (x : ProtoNode). x.name) one) ∙ name ∙ ap (λ (x : ProtoNode). x.name) other) in
      absurd (omega (arith, before, same))

pub generated_are_files : (n : ℕ) → n ≤ 100000 → AreProtoNodes (generated_nodes n)
generated_are_files n most =
    let count : length (generated_nodes n) ≡ all_count n = count_nodes n in
    record {
      some = omega (arith, count);
      root = root_is n;
      itself = ap (λ (x : ProtoNode). x.parent) (node_is n 0 Root (omega arith) spot_root);
      below = λ i some low. below_by n i (spot_of i) most some (omega (arith, low, count)) (spot_is i) (node_by n i (omega (arith, low, count)));
      names = λ i j some before low parent name. names_by n i j most some before (omega (arith, low, count)) parent name;
      few = λ k. let few = few_children (generated_nodes n) k in omega (arith, few, count, most);
      types = λ k low. subst (λ (x : ProtoNode). x.mode / 2 ^ 12 ≡ type_of_kind x.kind) (sym (node_by n k (omega (arith, low, count)))) (types_of (spot_of k));
      contents = λ k low. subst (λ (x : ProtoNode). CanHold x.kind) (sym (node_by n k (omega (arith, low, count)))) (holds_of (spot_of k));
    }

pub as_many : (n : ℕ) → length (generated_contents n) ≡ length (generated_nodes n)
as_many n = count_contents n ∙ sym (count_nodes n)
