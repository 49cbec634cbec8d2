-- One file more, in a directory that has room for it: the files stay such as a volume can have.
use Rattle.std.proofs.Common.{◌≡◌, ◌≢◌, ℕ, zero, suc, ◌+◌, ◌-◌, ◌/◌, ◌^◌, ◌==◌, ◌≤◌, ◌<◌, ◌⊎◌, inl, inr, Bool, true, false, cond, List, [], ◌∷◌, ◌++◌, length, length-append, arith, refl, sym, subst, ap, ap₂, ◌∙◌}
use Rattle.std.specs.List.{filter, range_with_len}
use Rattle.std.proofs.Math.Seq.{get_or-append_seam}
use Rattle.std.proofs.lemmas.Bool.{cases_eq, cases_lt, eq-eqb, ne_eqb}
use Rattle.std.proofs.lemmas.List.{get_or_append_left}
use Rattle.xfs_proto.specs.declared.protofile.ProtoNode.{ProtoNode}
use Rattle.xfs_volume.specs.Names.{is_name}
use Rattle.xfs_filled.specs.FileTrees.{AreProtoNodes, CanHold, IsBelow, child_places, is_directory_node, is_directory_kind, no_proto_node, node_at, type_of_kind}
use Rattle.xfs_filled.proofs.Lists.{filter_next, filter_same}

-- a file can stand behind these: its directory is among them, has room, and has no entry of its name
pub record Joins (before : List ProtoNode) (n : ProtoNode) : Type 0 where
  pub inside : n.parent < length before
  pub directory : is_directory_node before n.parent ≡ true
  pub name : is_name n.name ≡ true
  pub alone : (i : ℕ) → i < length before → (node_at before i).parent ≡ n.parent → (node_at before i).name ≢ n.name
  pub room : length (child_places before n.parent) < 2 ^ 24
  pub typed : n.mode / 2 ^ 12 ≡ type_of_kind n.kind
  pub holds : CanHold n.kind

pub node_front : (xs ys : List ProtoNode) (k : ℕ) → k < length xs → node_at (xs ++ ys) k ≡ node_at xs k
node_front xs ys k low = get_or_append_left xs ys no_proto_node k low

pub node_last : (xs : List ProtoNode) (n : ProtoNode) (k : ℕ) → k ≡ length xs → node_at (xs ++ n ∷ []) k ≡ n
node_last xs n k is = ap (λ (m : ℕ). node_at (xs ++ n ∷ []) m) is ∙ get_or-append_seam xs n [] no_proto_node

pub longer : (xs : List ProtoNode) (n : ProtoNode) → length (xs ++ n ∷ []) ≡ length xs + 1
longer xs n = length-append xs (n ∷ [])

pub directory_front : (xs ys : List ProtoNode) (k : ℕ) → k < length xs → is_directory_node xs k ≡ true → is_directory_node (xs ++ ys) k ≡ true
directory_front xs ys k low is = ap (λ (x : ProtoNode). is_directory_kind x.kind) (node_front xs ys k low) ∙ is

-- the entries of a directory
agree : (p q : ℕ → Bool) (a n : ℕ) → ((i : ℕ) → a ≤ i → i < a + n → p i ≡ q i) → filter p (range_with_len a n) ≡ filter q (range_with_len a n)
agree p q a zero same = refl
agree p q a (suc n) same =
    ap₂ (λ (t : Bool) (xs : List ℕ). cond t (a ∷ xs) xs) (same a (omega arith) (omega arith))
    (agree p q (a + 1) n (λ i low high. same i (omega (arith, low)) (omega (arith, high))))

nothing : (a n : ℕ) → filter (λ i. false) (range_with_len a n) ≡ []
nothing a zero = refl
nothing a (suc n) = nothing (a + 1) n

abbrev is_in : List ProtoNode → ℕ → ℕ → Bool
is_in ns k i = (node_at ns i).parent == k

module _ (ns : List ProtoNode) (n : ProtoNode) (some : 1 ≤ length ns) where
  old_children : (k : ℕ) → filter (is_in (ns ++ n ∷ []) k) (range_with_len 1 (length ns - 1)) ≡ child_places ns k
  old_children k =
      agree (is_in (ns ++ n ∷ []) k) (is_in ns k) 1 (length ns - 1) (λ i low high.
      ap (λ (x : ProtoNode). x.parent == k) (node_front ns (n ∷ []) i (omega (arith, some, high))))

  range_is : (k : ℕ) → child_places (ns ++ n ∷ []) k ≡ filter (is_in (ns ++ n ∷ []) k) (range_with_len 1 (length ns - 1 + 1))
  range_is k =
      let long = longer ns n in
      let same : length (ns ++ n ∷ []) - 1 ≡ length ns - 1 + 1 = omega (arith, long, some) in
      ap (λ (m : ℕ). filter (is_in (ns ++ n ∷ []) k) (range_with_len 1 m)) same

  last_in : (k : ℕ) → is_in (ns ++ n ∷ []) k (length ns) ≡ (n.parent == k)
  last_in k = ap (λ (x : ProtoNode). x.parent == k) (node_last ns n (length ns) refl)

  -- a directory has one entry more, the others have what they had
  pub count_next : (k : ℕ) → n.parent ≡ k → length (child_places (ns ++ n ∷ []) k) ≡ length (child_places ns k) + 1
  count_next k is =
      ap length
      (range_is k
      ∙ filter_next (is_in (ns ++ n ∷ []) k) 1 (length ns - 1) (length ns) (omega (arith, some)) (last_in k ∙ eq-eqb n.parent k is)
      ∙ ap (λ (xs : List ℕ). xs ++ length ns ∷ []) (old_children k))
      ∙ length-append (child_places ns k) (length ns ∷ [])

  pub count_same : (k : ℕ) → n.parent ≢ k → length (child_places (ns ++ n ∷ []) k) ≡ length (child_places ns k)
  count_same k other =
      ap length
      (range_is k
      ∙ filter_same (is_in (ns ++ n ∷ []) k) 1 (length ns - 1) (length ns) (omega (arith, some)) (last_in k ∙ ne_eqb n.parent k other)
      ∙ old_children k)

-- nothing stands in what is not there yet
pub count_none : (ns : List ProtoNode) (k : ℕ) → AreProtoNodes ns → length ns ≤ k + 1 → length (child_places ns k) ≡ 0
count_none ns k files high =
    ap length
    (agree (is_in ns k) (λ i. false) 1 (length ns - 1) (λ i low less.
    let one = files.some in
    let behind = (files.below i low (omega (arith, less, one))).behind in
    ne_eqb (node_at ns i).parent k (λ same. absurd (omega (arith, same, behind, less, high, one))))
    ∙ nothing 1 (length ns - 1))

below_stays : (ns ys : List ProtoNode) (i : ℕ) → i < length ns → IsBelow ns i → IsBelow (ns ++ ys) i
below_stays ns ys i low old =
    let here = node_front ns ys i low in
    let behind = old.behind in
    let there : is_directory_node (ns ++ ys) (node_at ns i).parent ≡ true = directory_front ns ys (node_at ns i).parent (omega (arith, behind, low)) old.directory in
    record {
      behind = subst (λ (x : ProtoNode). x.parent < i) (sym here) behind;
      directory = subst (λ (x : ProtoNode). is_directory_node (ns ++ ys) x.parent ≡ true) (sym here) there;
      name = subst (λ (x : ProtoNode). is_name x.name ≡ true) (sym here) old.name;
    }

module _ (ns : List ProtoNode) (n : ProtoNode) (files : AreProtoNodes ns) (joins : Joins ns n) where
  last_below : (i : ℕ) → i ≡ length ns → IsBelow (ns ++ n ∷ []) i
  last_below i at =
      let here = node_last ns n i at in
      let inside = joins.inside in
      record {
        behind = subst (λ (x : ProtoNode). x.parent < i) (sym here) (omega (arith, inside, at));
        directory = subst (λ (x : ProtoNode). is_directory_node (ns ++ n ∷ []) x.parent ≡ true) (sym here) (directory_front ns (n ∷ []) n.parent inside joins.directory);
        name = subst (λ (x : ProtoNode). is_name x.name ≡ true) (sym here) joins.name;
      }

  -- what holds of each file before, and of this one
  each : (P : ProtoNode → Type 0) → ((i : ℕ) → i < length ns → P (node_at ns i)) → P n → (i : ℕ) → i < length (ns ++ n ∷ []) → P (node_at (ns ++ n ∷ []) i)
  each P old new i low = by_case (cases_lt i (length ns))
    where
      by_case : (i < length ns) ⊎ (length ns ≤ i) → P (node_at (ns ++ n ∷ []) i)
      by_case (inl less) = subst P (sym (node_front ns (n ∷ []) i less)) (old i less)
      by_case (inr more) = let long = longer ns n in subst P (sym (node_last ns n i (omega (arith, low, more, long)))) new

  all_below : (i : ℕ) → 1 ≤ i → i < length (ns ++ n ∷ []) → IsBelow (ns ++ n ∷ []) i
  all_below i one low = by_case (cases_lt i (length ns))
    where
      by_case : (i < length ns) ⊎ (length ns ≤ i) → IsBelow (ns ++ n ∷ []) i
      by_case (inl less) = below_stays ns (n ∷ []) i less (files.below i one less)
      by_case (inr more) = let long = longer ns n in last_below i (omega (arith, low, more, long))

  names_differ : (i j : ℕ) → 1 ≤ i → i < j → j < length (ns ++ n ∷ []) → (node_at (ns ++ n ∷ []) i).parent ≡ (node_at (ns ++ n ∷ []) j).parent
      → (node_at (ns ++ n ∷ []) i).name ≢ (node_at (ns ++ n ∷ []) j).name
  names_differ i j one less low = by_case (cases_lt j (length ns))
    where
      first : i < length ns → node_at (ns ++ n ∷ []) i ≡ node_at ns i
      first few = node_front ns (n ∷ []) i few

      by_case : (j < length ns) ⊎ (length ns ≤ j) → (node_at (ns ++ n ∷ []) i).parent ≡ (node_at (ns ++ n ∷ []) j).parent
          → (node_at (ns ++ n ∷ []) i).name ≢ (node_at (ns ++ n ∷ []) j).name
      by_case (inl few) same equal =
          let a = first (omega (arith, less, few)) in
          let b = node_front ns (n ∷ []) j few in
          files.names i j one less few (ap (λ (x : ProtoNode). x.parent) (sym a) ∙ same ∙ ap (λ (x : ProtoNode). x.parent) b)
          (ap (λ (x : ProtoNode). x.name) (sym a) ∙ equal ∙ ap (λ (x : ProtoNode). x.name) b)
      by_case (inr more) same equal =
          let long = longer ns n in
          let at : j ≡ length ns = omega (arith, low, more, long) in
          let few : i < length ns = omega (arith, less, at) in
          let a = first few in
          let b = node_last ns n j at in
          joins.alone i few (ap (λ (x : ProtoNode). x.parent) (sym a) ∙ same ∙ ap (λ (x : ProtoNode). x.parent) b)
          (ap (λ (x : ProtoNode). x.name) (sym a) ∙ equal ∙ ap (λ (x : ProtoNode). x.name) b)

  all_few : (k : ℕ) → length (child_places (ns ++ n ∷ []) k) ≤ 2 ^ 24
  all_few k = by_case (cases_eq n.parent k)
    where
      by_case : (n.parent ≡ k) ⊎ (n.parent ≢ k) → length (child_places (ns ++ n ∷ []) k) ≤ 2 ^ 24
      by_case (inl is) =
          let more = count_next ns n files.some k is in
          let room : length (child_places ns k) < 2 ^ 24 = subst (λ (m : ℕ). length (child_places ns m) < 2 ^ 24) is joins.room in
          omega (arith, more, room)
      by_case (inr other) = let same = count_same ns n files.some k other in let few = files.few k in omega (arith, same, few)

  -- with one file more
  pub with_file : AreProtoNodes (ns ++ n ∷ [])
  with_file =
      let long = longer ns n in
      record {
        some = omega (arith, long);
        root = directory_front ns (n ∷ []) 0 files.some files.root;
        itself = ap (λ (x : ProtoNode). x.parent) (node_front ns (n ∷ []) 0 files.some) ∙ files.itself;
        below = all_below;
        names = names_differ;
        few = all_few;
        types = each (λ (x : ProtoNode). x.mode / 2 ^ 12 ≡ type_of_kind x.kind) files.types joins.typed;
        contents = each (λ (x : ProtoNode). CanHold x.kind) files.contents joins.holds;
      }
