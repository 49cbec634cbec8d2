-- The entries of all directories of a new volume: each file but the root has one, in its directory.
use Rattle.std.proofs.Common.{◌≡◌, ◌≢◌, ℕ, zero, suc, ◌==◌, ◌≤◌, ◌<◌, ◌⊎◌, inl, inr, true, false, List, length, map, get_or, refl, sym, ap, ◌∙◌, arith}
use Rattle.std.specs.List.{All, AllPairs, Any, Contains}
use Rattle.std.proofs.lemmas.Bool.{cases_lt, eq-eqb, eqb-true, ne_eqb}
use Rattle.std.proofs.lemmas.List.Elements.{All-map}
use Rattle.xfs_dirdata.specs.declared.records.EntryRec.{EntryRec}
use Rattle.xfs_geom.specs.Volumes.{Volume}
use Rattle.xfs_naming.specs.Lawful.{IsReached}
use Rattle.xfs_naming.specs.Lawful.IsReached.{at_root, by_entry}
use Rattle.xfs_naming.specs.Naming.{entries_in, entries_to}
use Rattle.xfs_proto.specs.declared.protofile.ProtoNode.{ProtoNode}
use Rattle.xfs_filled.specs.Entries.{entries_at, entry_of_place}
use Rattle.xfs_filled.specs.FileTrees.{AreProtoNodes, child_places, is_directory_node, node_at}
use Rattle.xfs_filled.specs.Numbers.{number_of}
use Rattle.xfs_populated.specs.Names.{HasFileNumbers}
use Rattle.xfs_populated.specs.Populated.{filled_entries}
use Rattle.xfs_populated.proofs.NameLists.{contains_map, filter_flat, map_flat, one_passes, pairs_map}
use Rattle.xfs_populated.proofs.NamedPlaces.{IsNamedPlace, child_of, directories, directories_apart, directories_inside, has_directory, has_named, named_apart, named_inside, named_places}

module _ (v : Volume) (starts : List ℕ) (ns : List ProtoNode) (fs : AreProtoNodes ns) (numbers : HasFileNumbers v starts (length ns)) where
  abbrev pub named : ℕ → EntryRec
  named = entry_of_place v starts ns

  abbrev pub all_named : List EntryRec
  all_named = map named (named_places ns)

  pub entries_are : filled_entries v starts ns ≡ all_named
  unfolding filled_entries
  entries_are = sym (map_flat named (child_places ns) (directories ns))

  -- of two places one number
  pub number_differs : (i j : ℕ) → i < length ns → j < length ns → i ≢ j → number_of v starts i ≢ number_of v starts j
  number_differs i j low few differ same =
      by_case (cases_lt i j)
    where
      by_case : (i < j) ⊎ (j ≤ i) → ⊥
      by_case (inl less) = let up = numbers.ascend i j less few in omega (arith, up, same)
      by_case (inr more) = let up = numbers.ascend j i (omega (arith, more, differ)) low in omega (arith, up, same)

  pub all_entries : (P : EntryRec → Type 0) → ((i : ℕ) → 1 ≤ i → i < length ns → P (named i)) → All P all_named
  all_entries P each = All-map P named (named_places ns) (λ k d low. let inside = named_inside ns k d low in each (get_or (named_places ns) k d) inside.0 inside.1)

  pub has_entry : (i : ℕ) → 1 ≤ i → i < length ns → Contains all_named (named i)
  has_entry i some low = contains_map named i (named_places ns) (has_named ns fs i some low)

  pub any_entry : (P : EntryRec → Type 0) (i : ℕ) → 1 ≤ i → i < length ns → P (named i) → Any P all_named
  any_entry P i some low holds = let at = has_entry i some low in (at.0, named i, at.1, at.2, holds)

  pub all_pairs : (R : EntryRec → EntryRec → Type 0) → ((i j : ℕ) → IsNamedPlace ns i → IsNamedPlace ns j → i ≢ j → R (named i) (named j)) → AllPairs R all_named
  all_pairs R each =
      pairs_map R named (named_places ns)
      (λ i j d less low. each (get_or (named_places ns) i d) (get_or (named_places ns) j d) (named_inside ns i d (omega (arith, less, low))) (named_inside ns j d low) (named_apart ns i j d less low))

  -- one entry names a file
  pub named_once : (i : ℕ) → 1 ≤ i → i < length ns → length (entries_to all_named (number_of v starts i)) ≡ 1
  named_once i some low =
      one_passes (λ (e : EntryRec). e.ino == number_of v starts i) (named i) all_named (has_entry i some low) (eq-eqb (number_of v starts i) (number_of v starts i) refl)
      (all_pairs (λ a b. (a.ino == number_of v starts i) ≡ true → (b.ino == number_of v starts i) ≡ false) (λ j k one two differ is.
      ne_eqb (number_of v starts k) (number_of v starts i) (λ same. number_differs j k one.1 two.1 differ (eqb-true (number_of v starts j) (number_of v starts i) is ∙ sym same))))

  -- the entries of a directory
  pub own_of : (k : ℕ) → All (λ (e : EntryRec). e.dir ≡ number_of v starts k) (entries_at v starts ns k)
  own_of k = All-map (λ (e : EntryRec). e.dir ≡ number_of v starts k) named (child_places ns k) (λ m d low. ap (number_of v starts) (child_of ns k m d low))

  pub own_entries : (k : ℕ) → k < length ns → is_directory_node ns k ≡ true → entries_in all_named (number_of v starts k) ≡ entries_at v starts ns k
  own_entries k low is =
      ap (λ (es : List EntryRec). entries_in es (number_of v starts k)) (map_flat named (child_places ns) (directories ns))
      ∙ filter_flat (λ (e : EntryRec). e.dir == number_of v starts k) (entries_at v starts ns) k (directories ns) (has_directory ns k low is) (directories_apart ns)
      (λ m d few. eq-eqb _ (number_of v starts k) (own_of k m d few))
      (λ m d few differ j e less.
      let other : ℕ = get_or (directories ns) m d in
      ne_eqb _ (number_of v starts k) (λ same. number_differs k other low (directories_inside ns m d few) differ (sym same ∙ own_of other j e less)))

  -- each file is reached from the root
  pub reached : (n k : ℕ) → k < n → k < length ns → IsReached all_named (number_of v starts 0) (number_of v starts k)
  reached zero k less low = absurd (omega (arith, less))
  reached (suc n) zero less low = at_root
  reached (suc n) (suc k) less low =
      let below = fs.below (suc k) (omega arith) low in
      let before = below.behind in
      by_entry (reached n (node_at ns (suc k)).parent (omega (arith, before, less)) (omega (arith, before, low)))
      (any_entry (λ (e : EntryRec). (e.dir ≡ number_of v starts (node_at ns (suc k)).parent) × (e.ino ≡ number_of v starts (suc k))) (suc k) (omega arith) low (refl, refl))
