-- Links are as many as entries, and from the same directories.
use Rattle.std.proofs.Common.{◌≡◌, ℕ, suc, Bool, true, false, cond, not, ◌&&◌, ◌||◌, ◌==◌, List, [], ◌∷◌, length, map, filter, refl, sym, ap, ◌∙◌}
use Rattle.std.specs.List.{list_all, list_any}
use Rattle.std.specs.List.Sorted.{IsPermutation}
use Rattle.std.proofs.lemmas.List.Sums.{length-filter}
use Rattle.std.proofs.lemmas.List.Sorted.{list_any-IsPermutation, sum_by-IsPermutation}
use Rattle.xfs_dirdata.specs.declared.records.EntryRec.{EntryRec}
use Rattle.xfs_naming.specs.declared.runs.Link.{Link}
use Rattle.xfs_naming.specs.Naming.{entries_to}
use Rattle.xfs_naming.specs.Ordered.{AreLinks, link_of, links_to}

-- all of a run pass where none of it fails
pub all_of_run : {X : Type 0} (p q : X → Bool) (xs : List X) → list_all q (filter p xs) ≡ not (list_any (λ (x : X). p x && not (q x)) xs)
all_of_run p q [] = refl
all_of_run {X = X} p q (x ∷ xs) = pushed (p x) ∙ either (p x) (q x) (all_of_run p q xs)
  where
    pushed : (t : Bool) → list_all q (cond t (x ∷ filter p xs) (filter p xs)) ≡ cond t (q x && list_all q (filter p xs)) (list_all q (filter p xs))
    pushed true = refl
    pushed false = refl

    either : (t u : Bool) → list_all q (filter p xs) ≡ not (list_any (λ (x : X). p x && not (q x)) xs)
        → cond t (u && list_all q (filter p xs)) (list_all q (filter p xs)) ≡ not ((t && not u) || list_any (λ (x : X). p x && not (q x)) xs)
    either true true rest = rest
    either true false rest = refl
    either false u rest = rest

-- the links of entries, as those
any_link : (p : Link → Bool) (es : List EntryRec) → list_any p (map link_of es) ≡ list_any (λ (e : EntryRec). p (link_of e)) es
any_link p [] = refl
any_link p (e ∷ es) = ap (λ (t : Bool). p (link_of e) || t) (any_link p es)

as_many_links : (ino : ℕ) (es : List EntryRec) → length (links_to (map link_of es) ino) ≡ length (entries_to es ino)
as_many_links ino [] = refl
as_many_links ino (e ∷ es) = either (e.ino == ino) (as_many_links ino es)
  where
    either : (t : Bool) → length (links_to (map link_of es) ino) ≡ length (entries_to es ino)
        → length (cond t (link_of e ∷ links_to (map link_of es) ino) (links_to (map link_of es) ino)) ≡ length (cond t (e ∷ entries_to es ino) (entries_to es ino))
    either true rest = ap suc rest
    either false rest = rest

-- links of entries in any order
pub linked : (es : List EntryRec) (links : List Link) → IsPermutation (map link_of es) links → AreLinks es links
linked es links moved = record {
  as_many = λ ino.
      length-filter (λ (l : Link). l.target == ino) links
      ∙ sum_by-IsPermutation (λ (l : Link). cond (l.target == ino) 1 0) (map link_of es) links moved
      ∙ sym (length-filter (λ (l : Link). l.target == ino) (map link_of es))
      ∙ as_many_links ino es;
  alike = λ ino passes.
      all_of_run (λ (l : Link). l.target == ino) (λ (l : Link). passes l.dir) links
      ∙ ap not (sym (list_any-IsPermutation (λ (l : Link). l.target == ino && not (passes l.dir)) (map link_of es) links moved) ∙ any_link (λ (l : Link). l.target == ino && not (passes l.dir)) es)
      ∙ sym (all_of_run (λ (e : EntryRec). e.ino == ino) (λ (e : EntryRec). passes e.dir) es);
}
