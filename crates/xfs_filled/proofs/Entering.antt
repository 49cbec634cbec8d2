-- The entries of directories, as one file after the other is looked at.
use Rattle.std.proofs.Common.{◌≡◌, ◌≢◌, ℕ, ◌+◌, ◌-◌, ◌^◌, ◌==◌, ◌≤◌, ◌<◌, ◌⊎◌, inl, inr, true, false, List, [], ◌∷◌, ◌++◌, length, map, get_or, slice_set, arith, sym, subst, ap, ◌∙◌, length-set, get_or-set_other}
use Rattle.std.specs.List.{All, filter, range_with_len}
use Rattle.std.proofs.lemmas.Bool.{cases_eq, eq-eqb, ne_eqb}
use Rattle.std.proofs.lemmas.Grind.{get_or-set_at}
use Rattle.std.proofs.lemmas.List.{get_or-map, get_or_default, length-map}
use Rattle.std.proofs.lemmas.List.Elements.{All-filter}
use Rattle.std.proofs.lemmas.List.FromFn.{get_or-map-range_with_len, get_or-range_with_len, length-map-range_with_len, length-range_with_len}
use Rattle.xfs_dirdata.specs.Written.{IsWritableEntry}
use Rattle.xfs_dirdata.specs.declared.records.EntryRec.{EntryRec}
use Rattle.xfs_dirindex.specs.Data.{have_no_dots}
use Rattle.xfs_geom.specs.Volumes.{Volume, volume_of}
use Rattle.xfs_geom.specs.declared.geometry.Geometry.{Geometry}
use Rattle.xfs_proto.specs.declared.protofile.ProtoNode.{ProtoNode}
use Rattle.xfs_volume.specs.Names.{is_name}
use Rattle.xfs_filled.specs.Entries.{entries_at, entry_of_place}
use Rattle.xfs_filled.specs.FileTrees.{AreProtoNodes, child_places, node_at}
use Rattle.xfs_filled.specs.Sites.{AreChunksPlaced}
use Rattle.xfs_filled.proofs.Lists.{listed, mapped_next, mapped_same}
use Rattle.xfs_filled.proofs.Names.{short_name, valid_no_dots}
use Rattle.xfs_filled.proofs.Numbering.{number_low}

-- the files in front of place i have their entries
abbrev pub entries_below : Volume → List ℕ → List ProtoNode → ℕ → ℕ → List EntryRec
entries_below v starts ns i k = map (entry_of_place v starts ns) (filter (λ j. (node_at ns j).parent == k) (range_with_len 1 (i - 1)))

pub record AreBelow (v : Volume) (starts : List ℕ) (ns : List ProtoNode) (i : ℕ) (lists : List (List EntryRec)) : Type 0 where
  pub all : length lists ≡ length ns
  pub each : (k : ℕ) → k < length ns → get_or lists k [] ≡ entries_below v starts ns i k

pub none_below : (v : Volume) (starts : List ℕ) (ns : List ProtoNode) (lists : List (List EntryRec)) → lists ≡ map (λ (k : ℕ). []) (range_with_len 0 (length ns)) → AreBelow v starts ns 1 lists
none_below v starts ns lists is =
    let none : ℕ → List EntryRec = λ k. [] in
    record {
      all = ap length is ∙ length-map-range_with_len none 0 (length ns);
      each = λ k low. ap (λ (xs : List (List EntryRec)). get_or xs k []) is ∙ get_or-map-range_with_len none 0 (length ns) k k [] low (omega arith);
    }

-- one file more
pub next_below : (v : Volume) (starts : List ℕ) (ns : List ProtoNode) (i p : ℕ) (old new : List (List EntryRec)) (e : EntryRec) (d : List EntryRec) → 1 ≤ i → p ≡ (node_at ns i).parent
    → p < length ns → e ≡ entry_of_place v starts ns i → new ≡ slice_set old p (get_or old p d ++ e ∷ []) → AreBelow v starts ns i old → AreBelow v starts ns (i + 1) new
next_below v starts ns i p old new e d some at inside is set below =
    record {
      all = ap length set ∙ length-set old p (get_or old p d ++ e ∷ []) ∙ below.all;
      each = λ k low. by_case k low (cases_eq k p);
    }
  where
    further : (k : ℕ) → entries_below v starts ns (i + 1) k ≡ map (entry_of_place v starts ns) (filter (λ j. (node_at ns j).parent == k) (range_with_len 1 (i - 1 + 1)))
    further k =
        let next : i + 1 - 1 ≡ i - 1 + 1 = omega (arith, some) in
        ap (λ (m : ℕ). map (entry_of_place v starts ns) (filter (λ j. (node_at ns j).parent == k) (range_with_len 1 m))) next

    by_case : (k : ℕ) → k < length ns → (k ≡ p) ⊎ (k ≢ p) → get_or new k [] ≡ entries_below v starts ns (i + 1) k
    by_case k low (inl same) =
        let there : 1 + (i - 1) ≡ i = omega (arith, some) in
        let own : get_or old p d ≡ get_or old k [] = get_or_default old p d [] (omega (arith, below.all, inside)) ∙ ap (λ (m : ℕ). get_or old m []) (sym same) in
        let passes : ((node_at ns i).parent == k) ≡ true = eq-eqb _ _ (sym at ∙ sym same) in
        let put : get_or new k [] ≡ get_or old k [] ++ entry_of_place v starts ns i ∷ [] =
        ap (λ (xs : List (List EntryRec)). get_or xs k []) set ∙ get_or-set_at old p k (get_or old p d ++ e ∷ []) [] same (omega (arith, below.all, inside))
        ∙ ap (λ (xs : List EntryRec). xs ++ e ∷ []) own ∙ ap (λ (x : EntryRec). get_or old k [] ++ x ∷ []) is in
        mapped_next (entry_of_place v starts ns) (λ j. (node_at ns j).parent == k) 1 (i - 1) i (get_or old k []) (get_or new k []) there passes (below.each k low) put ∙ sym (further k)
    by_case k low (inr other) =
        let there : 1 + (i - 1) ≡ i = omega (arith, some) in
        let fails : ((node_at ns i).parent == k) ≡ false = ne_eqb _ _ (λ same. other (sym same ∙ sym at)) in
        let put : get_or new k [] ≡ get_or old k [] =
        ap (λ (xs : List (List EntryRec)). get_or xs k []) set ∙ get_or-set_other old p k (get_or old p d ++ e ∷ []) [] other in
        put ∙ mapped_same (entry_of_place v starts ns) (λ j. (node_at ns j).parent == k) 1 (i - 1) i (get_or old k []) there fails (below.each k low) ∙ sym (further k)

pub all_below : (v : Volume) (starts : List ℕ) (ns : List ProtoNode) (lists : List (List EntryRec)) → AreBelow v starts ns (length ns) lists
    → lists ≡ map (entries_at v starts ns) (range_with_len 0 (length ns))
all_below v starts ns lists below = listed (entries_at v starts ns) lists (length ns) [] below.all below.each

-- the places of the entries of a directory
child_inside : (ns : List ProtoNode) (k : ℕ) → All (λ i. (1 ≤ i) × (i < length ns)) (child_places ns k)
child_inside ns k =
    All-filter (λ i. (node_at ns i).parent == k) (λ i. (1 ≤ i) × (i < length ns)) (range_with_len 1 (length ns - 1)) (λ m d low.
    let few : m < length ns - 1 = omega (arith, length-range_with_len 1 (length ns - 1), low) in
    let is = get_or-range_with_len 1 (length ns - 1) m d few in
    (omega (arith, is), omega (arith, is, few)))

-- entries can be written
pub entries_writable : (g : Geometry) (starts : List ℕ) (ns : List ProtoNode) (k : ℕ) → AreChunksPlaced g starts ns → AreProtoNodes ns
    → All IsWritableEntry (entries_at (volume_of g) starts ns k)
entries_writable g starts ns k placed files = λ m d low.
    let long = length-map (child_places ns k) (entry_of_place (volume_of g) starts ns) in
    let inside : m < length (child_places ns k) = omega (arith, long, low) in
    let child = child_inside ns k m 0 inside in
    let i : ℕ = get_or (child_places ns k) m 0 in
    let is : get_or (entries_at (volume_of g) starts ns k) m d ≡ entry_of_place (volume_of g) starts ns i = get_or-map (entry_of_place (volume_of g) starts ns) (child_places ns k) m 0 d inside in
    subst IsWritableEntry (sym is)
    (record {
      name = short_name (node_at ns i).name (files.below i child.0 child.1).name;
      ino = let low = number_low g starts ns i placed child.1 in omega (arith, low);
    })

pub entries_no_dots : (v : Volume) (starts : List ℕ) (ns : List ProtoNode) (k : ℕ) → AreProtoNodes ns → have_no_dots (entries_at v starts ns k) ≡ true
entries_no_dots v starts ns k files = valid_no_dots (entries_at v starts ns k) (λ m d low.
    let long = length-map (child_places ns k) (entry_of_place v starts ns) in
    let inside : m < length (child_places ns k) = omega (arith, long, low) in
    let child = child_inside ns k m 0 inside in
    let i : ℕ = get_or (child_places ns k) m 0 in
    let is : get_or (entries_at v starts ns k) m d ≡ entry_of_place v starts ns i = get_or-map (entry_of_place v starts ns) (child_places ns k) m 0 d inside in
    ap (λ (e : EntryRec). is_name e.name) is ∙ (files.below i child.0 child.1).name)

pub entries_few : (v : Volume) (starts : List ℕ) (ns : List ProtoNode) (k : ℕ) → AreProtoNodes ns → length (entries_at v starts ns k) ≤ 2 ^ 24
entries_few v starts ns k files =
    let long = length-map (child_places ns k) (entry_of_place v starts ns) in
    let few = files.few k in
    omega (arith, long, few)

-- the entries of one of the lists
pub entries_listed : (v : Volume) (starts : List ℕ) (ns : List ProtoNode) (lists : List (List EntryRec)) (d : List EntryRec) (k : ℕ) → k < length ns
    → lists ≡ map (entries_at v starts ns) (range_with_len 0 (length ns)) → get_or lists k d ≡ entries_at v starts ns k
entries_listed v starts ns lists d k low is =
    ap (λ (xs : List (List EntryRec)). get_or xs k d) is ∙ get_or-map-range_with_len (entries_at v starts ns) 0 (length ns) k k d low (omega arith)
