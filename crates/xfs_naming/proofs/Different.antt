-- Names that are seen one after another differ where none is seen twice.
use Rattle.std.proofs.Common.{◌≡◌, ℕ, ◌+◌, ◌<◌, Bool, true, false, cond, not, ◌&&◌, ◌||◌, ◌==◌, List, [], ◌∷◌, ◌++◌, length, take, drop, get_or, refl, sym, ap, ap₂, ◌∙◌, arith, Bor}
use Rattle.std.specs.List.{list_any}
use Rattle.std.specs.Str.{bytes_eq}
use Rattle.std.proofs.lemmas.List.{take_more, take-append-drop}
use Rattle.std.proofs.lemmas.List.Folds.{list_any-append}
use Rattle.std.proofs.lemmas.Bool.Decides.{nat_tests}
use Rattle.xfs_dirdata.specs.declared.records.EntryRec.{EntryRec}
use Rattle.xfs_naming.specs.Naming.{names_differ}

-- one of the entries has the name
abbrev pub has_name : List EntryRec → List ℕ → Bool
has_name entries name = list_any (λ (e : EntryRec). bytes_eq name e.name) entries

-- the names of the first entries differ, and the test tells which they are
pub record HasSeen (own : List EntryRec) (i : ℕ) (seen : Bor (List ℕ) → Bool) : Type 0 where
  pub differ : names_differ (take i own) ≡ true
  pub held : (q : Bor (List ℕ)) → seen q ≡ has_name (take i own) q.now

-- equal names are equal either way
pub flips : (a b : List ℕ) → bytes_eq a b ≡ bytes_eq b a
flips [] [] = refl
flips [] (b ∷ bs) = refl
flips (a ∷ rest) [] = refl
flips (a ∷ rest) (b ∷ bs) = ap₂ (λ (s t : Bool). s && t) (same a b) (flips rest bs)
  where
    same : (a b : ℕ) → a == b ≡ b == a
    same a b = grind (arith, nat_tests)

-- one more entry
pub differ_more : (xs : List EntryRec) (e : EntryRec) → names_differ (xs ++ e ∷ []) ≡ (names_differ xs && not (has_name xs e.name))
differ_more [] e = refl
differ_more (x ∷ xs) e =
    ap₂ (λ (s t : Bool). not s && t) (list_any-append (λ (o : EntryRec). bytes_eq x.name o.name) xs (e ∷ [])) (differ_more xs e)
    ∙ moved (has_name xs x.name) (bytes_eq x.name e.name) (bytes_eq e.name x.name) (names_differ xs) (has_name xs e.name) (flips x.name e.name)
  where
    moved : (a b c d f : Bool) → b ≡ c → (not (a || (b || false)) && (d && not f)) ≡ ((not a && d) && not (c || f))
    moved true b c d f e = refl
    moved false true true d f e = both d
      where
        both : (d : Bool) → false ≡ (d && false)
        both true = refl
        both false = refl
    moved false true false d f e = cc
    moved false false true d f e = cc
    moved false false false d f e = refl

-- what does not differ at the front does not differ
pub differ_front : (xs ys : List EntryRec) → names_differ xs ≡ false → names_differ (xs ++ ys) ≡ false
differ_front [] ys e = cc
differ_front (x ∷ xs) ys e =
    ap (λ (s : Bool). not s && names_differ (xs ++ ys)) (list_any-append (λ (o : EntryRec). bytes_eq x.name o.name) xs ys)
    ∙ either (has_name xs x.name) (has_name ys x.name) (names_differ xs) (names_differ (xs ++ ys)) (differ_front xs ys) e
  where
    either : (a b d f : Bool) → (d ≡ false → f ≡ false) → (not a && d) ≡ false → (not (a || b) && f) ≡ false
    either true b d f front e = refl
    either false true d f front e = refl
    either false false d f front e = front e

-- an entry with a name that is not seen
pub unseen : (own : List EntryRec) (i : ℕ) (e : EntryRec) (k : Bor (List ℕ)) (seen more : Bor (List ℕ) → Bool) (added : Bool) → i < length own → e ≡ get_or own i e
    → HasSeen own i seen → k.now ≡ e.name → added ≡ not (seen k) → added ≡ true → ((q : Bor (List ℕ)) → more q ≡ cond (bytes_eq k.now q.now) true (seen q)) → HasSeen own (i + 1) more
unseen own i e k seen more added low is before named new was_new grows = record {
  differ = ap names_differ front ∙ differ_more (take i own) e ∙ joined (names_differ (take i own)) (has_name (take i own) e.name) (seen k) added before.differ (before.held k ∙ ap (has_name (take i own)) named) new was_new;
  held = λ q. grows q ∙ met (bytes_eq k.now q.now) (seen q) ∙ ap₂ (λ (s t : Bool). s || t) (before.held q) (flips k.now q.now ∙ ap (bytes_eq q.now) named)
      ∙ last (has_name (take i own) q.now) (bytes_eq q.now e.name) ∙ sym (list_any-append (λ (o : EntryRec). bytes_eq q.now o.name) (take i own) (e ∷ [])) ∙ ap (λ (xs : List EntryRec). has_name xs q.now) (sym front);
}
  where
    front : take (i + 1) own ≡ take i own ++ e ∷ []
    front = take_more own i e low ∙ ap (λ (x : EntryRec). take i own ++ x ∷ []) (sym is)

    joined : (d f s a : Bool) → d ≡ true → s ≡ f → a ≡ not s → a ≡ true → (d && not f) ≡ true
    joined d f s a dt sf new was_new = cc

    met : (a b : Bool) → cond a true b ≡ (b || a)
    met true true = refl
    met true false = refl
    met false true = refl
    met false false = refl

    last : (a b : Bool) → (a || b) ≡ (a || (b || false))
    last true b = refl
    last false true = refl
    last false false = refl

-- an entry with a name that is seen
pub seen_again : (own : List EntryRec) (i : ℕ) (e : EntryRec) (k : Bor (List ℕ)) (seen : Bor (List ℕ) → Bool) (added : Bool) → i < length own → e ≡ get_or own i e
    → HasSeen own i seen → k.now ≡ e.name → added ≡ not (seen k) → added ≡ false → false ≡ names_differ own
seen_again own i e k seen added low is before named new was_old =
    sym (ap names_differ (sym (take-append-drop (i + 1) own)) ∙ differ_front (take (i + 1) own) (drop (i + 1) own) twice)
  where
    front : take (i + 1) own ≡ take i own ++ e ∷ []
    front = take_more own i e low ∙ ap (λ (x : EntryRec). take i own ++ x ∷ []) (sym is)

    joined : (d f s a : Bool) → s ≡ f → a ≡ not s → a ≡ false → (d && not f) ≡ false
    joined d true s a sf new was_old = right d
      where
        right : (d : Bool) → (d && false) ≡ false
        right true = refl
        right false = refl
    joined d false s a sf new was_old = cc

    twice : names_differ (take (i + 1) own) ≡ false
    twice = ap names_differ front ∙ differ_more (take i own) e ∙ joined (names_differ (take i own)) (has_name (take i own) e.name) (seen k) added (before.held k ∙ ap (has_name (take i own)) named) new was_old
