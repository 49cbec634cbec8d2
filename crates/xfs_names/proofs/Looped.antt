-- Lists as far as a loop has come.
use Rattle.std.proofs.Common.{◌≡◌, ℕ, ◌+◌, ◌<◌, ◌≤◌, Bool, true, false, cond, List, [], ◌∷◌, ◌++◌, length, filter, map, take, drop, get_or, sym, ap, ◌∙◌}
use Rattle.std.proofs.lemmas.List.{append_assoc, append-nil, drop_all, drop_more, map-append, take_more}
use Rattle.xfs_dirdata.specs.declared.records.EntryRec.{EntryRec}
use Rattle.xfs_links.specs.declared.records.NodeRec.{NodeRec}
use Rattle.xfs_names.specs.Wanted.{link_count, with_links}

-- one more file with its links
pub linked_more : (nodes : List NodeRec) (entries : List EntryRec) (root : ℕ) (now new : List (ℕ × ℕ)) (i : ℕ) (d : NodeRec) (links : ℕ) → i < length nodes
    → now ≡ map (with_links nodes entries root) (take i nodes) → links ≡ link_count nodes entries root (get_or nodes i d)
    → new ≡ now ++ ((get_or nodes i d).ino, links) ∷ [] → new ≡ map (with_links nodes entries root) (take (i + 1) nodes)
linked_more nodes entries root now new i d links inside is count pushed =
    let x = get_or nodes i d in
    let f = with_links nodes entries root in
    pushed ∙ ap (λ (k : ℕ). now ++ (x.ino, k) ∷ []) count ∙ ap (λ (ys : List (ℕ × ℕ)). ys ++ f x ∷ []) is ∙ sym (map-append f (take i nodes) (x ∷ [])) ∙ ap (map f) (sym (take_more nodes i d inside))

-- one of those that are left is kept, or passed over; and none is left
pub kept_next : {X Y : Type 0} (f : X → Y) (p : X → Bool) (xs : List X) (i : ℕ) (d : X) (old new all : List Y) → i < length xs → p (get_or xs i d) ≡ true
    → new ≡ old ++ f (get_or xs i d) ∷ [] → old ++ map f (filter p (drop i xs)) ≡ all → new ++ map f (filter p (drop (i + 1) xs)) ≡ all
kept_next f p xs i d old new all inside is put held =
    let x = get_or xs i d in
    let rest = filter p (drop (i + 1) xs) in
    ap (λ ys. ys ++ map f rest) put ∙ append_assoc old (f x ∷ []) (map f rest)
    ∙ ap (λ ys. old ++ map f ys) (sym (ap (filter p) (drop_more xs i d inside) ∙ ap (λ (b : Bool). cond b (x ∷ rest) rest) is)) ∙ held

pub passed_next : {X Y : Type 0} (f : X → Y) (p : X → Bool) (xs : List X) (i : ℕ) (d : X) (old all : List Y) → i < length xs → p (get_or xs i d) ≡ false
    → old ++ map f (filter p (drop i xs)) ≡ all → old ++ map f (filter p (drop (i + 1) xs)) ≡ all
passed_next f p xs i d old all inside is held =
    let x = get_or xs i d in
    let rest = filter p (drop (i + 1) xs) in
    ap (λ ys. old ++ map f ys) (sym (ap (filter p) (drop_more xs i d inside) ∙ ap (λ (b : Bool). cond b (x ∷ rest) rest) is)) ∙ held

pub kept_end : {X Y : Type 0} (f : X → Y) (p : X → Bool) (xs : List X) (i : ℕ) (old all : List Y) → length xs ≤ i → old ++ map f (filter p (drop i xs)) ≡ all → old ≡ all
kept_end f p xs i old all past held = sym (ap (λ ys. old ++ map f (filter p ys)) (drop_all i xs past) ∙ append-nil old) ∙ held
