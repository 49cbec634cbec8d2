-- The blocks of a level of an index tree, one after the other.
use Rattle.std.proofs.Common.{◌≡◌, ℕ, Bool, true, false, ◌+◌, ◌-◌, ◌<◌, ◌≤◌, ◌&&◌, List, ◌++◌, length, get_or, take, drop, sym, ap, ap₂, ◌∙◌, append_assoc, arith}
use Rattle.std.specs.List.{flat_map}
use Rattle.std.proofs.lemmas.List.{drop_more, drop_all, append-nil, length-drop, take_all}
use Rattle.xfs_dirindex.specs.declared.pairs.Pair.{Pair}
use Rattle.xfs_dirindex.specs.Mapped.{Mapped}
use Rattle.xfs_dirindex.specs.Faults.{OnUnsoundIndex}
use Rattle.xfs_dirindex.specs.declared.seen.IndexFault.{IndexFault}
use Rattle.xfs_dirindex.specs.declared.seen.IndexFault.TheVariants as faults
use Rattle.xfs_dirindex.specs.Lookup.{bytes_mapped}
use Rattle.xfs_dirindex.specs.IndexTree.{are_members, has_greatest, has_index_form, has_neighbours, next_link, pairs_below, pairs_of}

module _ (ms : List Mapped) (root : Bool) (level before : ℕ) (links : List Pair) (i : ℕ) (d : Pair) (inside : i < length links) where
  -- what is tested of a block, and what of those behind it
  member_at : (next : ℕ) (bytes : List ℕ) (t : Bool) → next ≡ next_link (drop (i + 1) links) → bytes ≡ bytes_mapped ms (get_or links i d).address
      → (has_index_form level bytes && has_neighbours before next bytes && has_greatest root (get_or links i d).hash bytes) ≡ t
      → are_members ms root level before (drop i links) ≡ (t && are_members ms root level (get_or links i d).address (drop (i + 1) links))
  member_at next bytes t next_is bytes_are told =
      ap (are_members ms root level before) (drop_more links i d inside)
      ∙ ap (λ (x : Bool). x && are_members ms root level (get_or links i d).address (drop (i + 1) links))
      (sym (ap₂ (λ (n : ℕ) (bs : List ℕ). has_index_form level bs && has_neighbours before n bs && has_greatest root (get_or links i d).hash bs) next_is bytes_are) ∙ told)

  pub members_more : (next : ℕ) (bytes : List ℕ) → next ≡ next_link (drop (i + 1) links) → bytes ≡ bytes_mapped ms (get_or links i d).address
      → (has_index_form level bytes && has_neighbours before next bytes && has_greatest root (get_or links i d).hash bytes) ≡ true
      → (all : Bool) → all ≡ are_members ms root level before (drop i links) → all ≡ are_members ms root level (get_or links i d).address (drop (i + 1) links)
  members_more next bytes next_is bytes_are told all so_far = so_far ∙ member_at next bytes true next_is bytes_are told

  pub members_stop : (next : ℕ) (bytes : List ℕ) → next ≡ next_link (drop (i + 1) links) → bytes ≡ bytes_mapped ms (get_or links i d).address
      → (has_index_form level bytes && has_neighbours before next bytes && has_greatest root (get_or links i d).hash bytes) ≡ false
      → (all : Bool) → all ≡ are_members ms root level before (drop i links) → all ≡ false
  members_stop next bytes next_is bytes_are told all so_far = so_far ∙ member_at next bytes false next_is bytes_are told

put_more : {A B : Type 0} (f : A → List B) (xs : List A) (i : ℕ) (d : A) (old new all : List B) → i < length xs → new ≡ old ++ f (get_or xs i d) → old ++ flat_map f (drop i xs) ≡ all
    → new ++ flat_map f (drop (i + 1) xs) ≡ all
put_more f xs i d old new all inside put held =
    ap (λ ys. ys ++ flat_map f (drop (i + 1) xs)) put
    ∙ append_assoc old (f (get_or xs i d)) (flat_map f (drop (i + 1) xs))
    ∙ ap (λ ys. old ++ ys) (sym (ap (flat_map f) (drop_more xs i d inside)))
    ∙ held

pub pairs_more : (ms : List Mapped) (links : List Pair) (i : ℕ) (d : Pair) (bytes : List ℕ) (old new all : List Pair) → i < length links → bytes ≡ bytes_mapped ms (get_or links i d).address → new ≡ old ++ pairs_of bytes
    → old ++ pairs_below ms (drop i links) ≡ all → new ++ pairs_below ms (drop (i + 1) links) ≡ all
pairs_more ms links i d bytes old new all inside bytes_are put held =
    put_more (λ (link : Pair). pairs_of (bytes_mapped ms link.address)) links i d old new all inside (put ∙ ap (λ (bs : List ℕ). old ++ pairs_of bs) bytes_are) held

-- the file block that the next pair names
pub next_at : (links : List Pair) (i next : ℕ) → next ≡ next_link (take (length links - (i + 1)) (drop (i + 1) links)) → next ≡ next_link (drop (i + 1) links)
next_at links i next is =
    let size : length (drop (i + 1) links) ≡ length links - (i + 1) = length-drop (i + 1) links in
    is ∙ ap next_link (take_all (length links - (i + 1)) (drop (i + 1) links) (omega (arith, size)))

-- what follows from a broken rule, where a fault says that one is broken
pub unsound_by : {P Q : Type 0} (fault : IndexFault) → (P → Q) → OnUnsoundIndex fault P → OnUnsoundIndex fault Q
unsound_by faults.Unsound then held = then held
unsound_by faults.NoMemory then held = tt

-- no block is left
pub members_end : (ms : List Mapped) (root : Bool) (level before : ℕ) (links : List Pair) (i : ℕ) (all : Bool) → length links ≤ i → all ≡ are_members ms root level before (drop i links) → all ≡ true
members_end ms root level before links i all end so_far = so_far ∙ ap (are_members ms root level before) (drop_all i links end)

pub pairs_end : (ms : List Mapped) (links : List Pair) (i : ℕ) (old all : List Pair) → length links ≤ i → old ++ pairs_below ms (drop i links) ≡ all → old ≡ all
pairs_end ms links i old all end held = sym (append-nil old) ∙ ap (λ (xs : List Pair). old ++ pairs_below ms xs) (sym (drop_all i links end)) ∙ held
