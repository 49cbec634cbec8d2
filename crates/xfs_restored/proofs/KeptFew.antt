-- No more entries stay than are wanted, and these are few.
use Rattle.std.proofs.Common.{◌≡◌, ℕ, ◌+◌, ◌^◌, ◌<◌, ◌≤◌, ◌==◌, inl, inr, Bool, true, false, cond, List, [], ◌∷◌, ◌++◌, length, map, refl, sym, ap, ◌∙◌, arith}
use Rattle.std.specs.List.{All}
use Rattle.std.proofs.lemmas.Bool.{eq-eqb, eqb-true, false≢true, or_cases, true≢false}
use Rattle.std.proofs.lemmas.List.{length-append}
use Rattle.std.proofs.lemmas.List.Elements.{All-head, All-tail}
use Rattle.std.proofs.Math.ListN.{length-map}
use Rattle.xfs_collections.specs.Lists.{has_node}
use Rattle.xfs_dirdata.specs.declared.records.EntryRec.{EntryRec}
use Rattle.xfs_naming.specs.Naming.{entries_in}
use Rattle.xfs_links.specs.Connected.{directory_numbers, kept_entries}
use Rattle.xfs_links.specs.Entries.{AreEntries, is_directory_number}
use Rattle.xfs_links.specs.declared.records.NodeRec.{NodeRec}
use Rattle.xfs_links.specs.Settled.{by_directory}
use Rattle.xfs_links.specs.Together.{entries_together, lost_directory, new_entries, old_lost, orphan_entry, orphans_of}
use Rattle.xfs_names.specs.Built.{CanBeBuilt}
use Rattle.xfs_names.specs.Wanted.{wanted_entries, wanted_nodes, with_type}
use Rattle.xfs_names.specs.declared.records.WantedNames.{WantedNames}
use Rattle.xfs_names.proofs.Deciding.{together_known}

-- one entry more, by directory
abbrev many : List EntryRec → List ℕ → ℕ
many es ds = length (by_directory es ds)

record IsMore (e : EntryRec) (es : List EntryRec) (ds : List ℕ) : Type 0 where
  least : many es ds ≤ many (e ∷ es) ds
  here : has_node e.dir ds ≡ true → many es ds < many (e ∷ es) ds

more_by : (e : EntryRec) (es : List EntryRec) (ds : List ℕ) → IsMore e es ds
more_by e es [] = record { least = omega arith; here = λ is. absurd (false≢true is) }
more_by e es (d ∷ ds) = let both = by_case (e.dir == d) refl (more_by e es ds) in record { least = both.0; here = both.1 }
  where
    before : many es (d ∷ ds) ≡ length (entries_in es d) + many es ds
    before = length-append (entries_in es d) (by_directory es ds)

    after : (own : List EntryRec) → length (own ++ by_directory (e ∷ es) ds) ≡ length own + many (e ∷ es) ds
    after own = length-append own (by_directory (e ∷ es) ds)

    turned : (a b : ℕ) → (a == b) ≡ false → (b == a) ≡ true → ⊥
    turned a b off is = true≢false (sym (eq-eqb a b (sym (eqb-true b a is))) ∙ off)

    by_case : (t : Bool) → (e.dir == d) ≡ t → IsMore e es ds
        → (many es (d ∷ ds) ≤ length (cond t (e ∷ entries_in es d) (entries_in es d) ++ by_directory (e ∷ es) ds))
        × (has_node e.dir (d ∷ ds) ≡ true → many es (d ∷ ds) < length (cond t (e ∷ entries_in es d) (entries_in es d) ++ by_directory (e ∷ es) ds))
    by_case true same rest =
        let a = before in let b = after (e ∷ entries_in es d) in let c = rest.least in
        (omega (arith, a, b, c), (λ is. omega (arith, a, b, c)))
    by_case false off rest =
        let a = before in let b = after (entries_in es d) in let c = rest.least in (
          omega (arith, a, b, c),
          (λ is. elim (or_cases (d == e.dir) (has_node e.dir ds) is) [
            | inl first ↦ absurd (turned e.dir d off first)
            | inr later ↦ let more = rest.here later in omega (arith, a, b, more)
          ]),
        )

all_by_directory : (es : List EntryRec) (ds : List ℕ) → All (λ (e : EntryRec). has_node e.dir ds ≡ true) es → length es ≤ many es ds
all_by_directory [] ds known = omega arith
all_by_directory (e ∷ es) ds known =
    let rest = all_by_directory es ds (All-tail (λ (x : EntryRec). has_node x.dir ds ≡ true) e es known) in
    let more = (more_by e es ds).here (All-head (λ (x : EntryRec). has_node x.dir ds ≡ true) e es known) in
    omega (arith, rest, more)

pub entries_few : (nodes : List NodeRec) (listed : List EntryRec) (root new : ℕ) (w : WantedNames) → AreEntries nodes listed → is_directory_number nodes root ≡ true → CanBeBuilt w
    → w.entries ≡ wanted_entries nodes listed root new → length (kept_entries nodes listed root) < 2 ^ 64
entries_few nodes listed root new w are_entries dir can entries_are =
    let old = old_lost nodes listed root in
    let orphans = orphans_of nodes listed root in
    let kept : List EntryRec = kept_entries nodes listed root in
    let placed : List EntryRec = map (orphan_entry (lost_directory old new)) orphans in
    let added : List EntryRec = new_entries root old new orphans in
    let numbers : List ℕ = directory_numbers (wanted_nodes nodes listed root new) in
    let parts : length (entries_together nodes listed root new) ≡ length (kept ++ placed) + length added = length-append (kept ++ placed) added in
    let front : length (kept ++ placed) ≡ length kept + length placed = length-append kept placed in
    let all : length (entries_together nodes listed root new) ≤ many (entries_together nodes listed root new) numbers =
    all_by_directory (entries_together nodes listed root new) numbers (together_known nodes listed root new are_entries dir) in
    let typed : length w.entries ≡ many (entries_together nodes listed root new) numbers =
    ap (λ (es : List EntryRec). length es) entries_are ∙ length-map (by_directory (entries_together nodes listed root new) numbers) (with_type (wanted_nodes nodes listed root new)) in
    let few = can.few in
    omega (arith, parts, front, all, typed, few)
