-- Tests of parts, one after the other: what an early return and a last call say of the whole; and loops over a list that test each item.
use Rattle.std.proofs.Common.{◌≡◌, ◌↔◌, ℕ, ◌+◌, ◌<◌, ◌≤◌, Bool, true, false, ◌&&◌, IsTrue, List, ◌∷◌, length, get_or, drop, Option, Some, All, true≢false, refl, sym, ap, ◌∙◌, subst, add-one, drop-cons, below_none, below_more, lt_of_lt_of_le}
use Rattle.std.proofs.lemmas.List.{drop_all, get_or_default}
use Rattle.xfs_geom.specs.Volumes.{Volume}
use Rattle.xfs_tree.specs.Shape.{Shape}
use Rattle.xfs_tree.specs.Rules.{are_lawful}
use Rattle.xfs_space.specs.Parts.{AreGroups, IsLawfulGroup}
use Rattle.xfs_naming.specs.Naming.{AreNamed}
use Rattle.xfs_dirdata.specs.declared.records.EntryRec.{EntryRec}
use Rattle.xfs_volume.specs.declared.directories.DirRec.{DirRec}
use Rattle.xfs_volume.specs.declared.files.FileRec.{FileRec}
use Rattle.xfs_volume.specs.declared.groups.GroupRec.{GroupRec}

-- what contradicts the whole
pub refused : {P : Type 0} → (P → ⊥) → (IsTrue false ↔ P)
refused never = (λ e. absurd (true≢false (sym e)), λ p. absurd (never p))

-- a part that fails its test
pub fails : {r a : Bool} {P : Type 0} → r ≡ a → r ≡ false → (P → a ≡ true) → (IsTrue false ↔ P)
fails is never part = refused (λ p. true≢false (sym (part p) ∙ (sym is ∙ never)))

-- a part that fails a test of what it is
pub fails_of : {r : Bool} {A P : Type 0} → (IsTrue r ↔ A) → r ≡ false → (P → A) → (IsTrue false ↔ P)
fails_of is never part = refused (λ p. true≢false (sym (is.1 (part p)) ∙ never))

-- the last part, where the others have passed
pub last : {r : Bool} {A P : Type 0} → (IsTrue r ↔ A) → (A → P) → (P → A) → (IsTrue r ↔ P)
last is whole part = (λ e. whole (is.0 e), λ p. is.1 (part p))

-- names of three lists that are the same
pub named_as : {fs fs' : List FileRec} {es es' : List EntryRec} {ds ds' : List DirRec} → fs ≡ fs' → es ≡ es' → ds ≡ ds'
    → AreNamed fs es ds → AreNamed fs' es' ds'
named_as {fs} {fs'} {es} {es'} {ds} {ds'} files entries dirs named =
    subst (λ (xs : List DirRec). AreNamed fs' es' xs) dirs
    (subst (λ (xs : List EntryRec). AreNamed fs' xs ds) entries (subst (λ (xs : List FileRec). AreNamed xs es ds) files named))

module _ {X : Type 0} (P : X → Type 0) (xs : List X) where
  pub none_yet : (k : ℕ) (d : X) → k < 0 → P (get_or xs k d)
  none_yet k d less = below_none (λ (j : ℕ). P (get_or xs j d)) k less

module _ {X : Type 0} (P : X → Type 0) (xs : List X) (i : ℕ) where
  pub item_more : ((k : ℕ) (d : X) → k < i → P (get_or xs k d)) → (e : X) → i < length xs → P (get_or xs i e) → (k : ℕ) (d : X) → k < i + 1 → P (get_or xs k d)
  item_more before e inside here k d less =
      below_more (λ (j : ℕ). P (get_or xs j d)) i (λ j l. before j d l) (subst P (get_or_default xs i e d inside) here) k less

  pub item_fails : (e : X) → i < length xs → (P (get_or xs i e) → ⊥) → (IsTrue false ↔ All P xs)
  item_fails e inside never = refused (λ all. never (all i e inside))

  -- the same for an item that has a name
  pub one_more : ((k : ℕ) (d : X) → k < i → P (get_or xs k d)) → (x : X) → i < length xs → x ≡ get_or xs i x → P x
      → (k : ℕ) (d : X) → k < i + 1 → P (get_or xs k d)
  one_more before x inside is here = item_more before x inside (subst P is here)

  pub one_fails : (x : X) → i < length xs → x ≡ get_or xs i x → (P x → ⊥) → (IsTrue false ↔ All P xs)
  one_fails x inside is never = item_fails x inside (λ p. never (subst P (sym is) p))

  pub all_pass : length xs ≤ i → ((k : ℕ) (d : X) → k < i → P (get_or xs k d)) → (IsTrue true ↔ All P xs)
  all_pass end before = (λ e k d less. before k d (lt_of_lt_of_le less end), λ all. refl)

-- an item of the list of lawful records
goes_on : (test more whole : Bool) → test ≡ true → (test && more) ≡ whole → more ≡ whole
goes_on test more whole passes left = ap (λ (b : Bool). b && more) (sym passes) ∙ left

stops : (test more whole : Bool) → test ≡ false → (test && more) ≡ whole → false ≡ whole
stops test more whole fails left = ap (λ (b : Bool). b && more) (sym fails) ∙ left

module _ {R K : Type 0} (s : Shape R K) (v : Volume) (before : Option R) (rs : List R) (i : ℕ) {whole : Bool}
    (left : are_lawful s v before (drop i rs) ≡ whole) where
  split : (r : R) → i < length rs → r ≡ get_or rs i r → drop i rs ≡ r ∷ drop (i + 1) rs
  split r inside is = drop-cons rs i r inside ∙ (λ k. sym is k ∷ drop (sym (add-one i) k) rs)

  pub lawful_more : (r : R) → i < length rs → r ≡ get_or rs i r → s.lawful v before r ≡ true → are_lawful s v (Some r) (drop (i + 1) rs) ≡ whole
  lawful_more r inside is passes =
      goes_on (s.lawful v before r) (are_lawful s v (Some r) (drop (i + 1) rs)) whole passes (ap (are_lawful s v before) (sym (split r inside is)) ∙ left)

  pub lawful_stops : (r : R) → i < length rs → r ≡ get_or rs i r → s.lawful v before r ≡ false → false ≡ whole
  lawful_stops r inside is fails =
      stops (s.lawful v before r) (are_lawful s v (Some r) (drop (i + 1) rs)) whole fails (ap (are_lawful s v before) (sym (split r inside is)) ∙ left)

  pub lawful_end : length rs ≤ i → true ≡ whole
  lawful_end end = ap (are_lawful s v before) (sym (drop_all i rs end)) ∙ left

-- the groups of a volume
module _ (v : Volume) (groups : List GroupRec) (i ag : ℕ) {whole : Type 0} (left : AreGroups v ag (drop i groups) ↔ whole) where
  from_here : (group : GroupRec) → i < length groups → group ≡ get_or groups i group → (IsLawfulGroup v ag group × AreGroups v (ag + 1) (drop (i + 1) groups)) ↔ whole
  from_here group inside is =
      let split : drop i groups ≡ group ∷ drop (i + 1) groups = drop-cons groups i group inside ∙ (λ k. sym is k ∷ drop (sym (add-one i) k) groups) in
      subst (λ (gs : List GroupRec). AreGroups v ag gs ↔ whole) split left

  pub groups_more : (group : GroupRec) → i < length groups → group ≡ get_or groups i group → IsLawfulGroup v ag group
      → (AreGroups v (ag + 1) (drop (i + 1) groups) ↔ whole)
  groups_more group inside is lawful = let here = from_here group inside is in (λ rest. here.0 (lawful, rest), λ w. (here.1 w).1)

  pub groups_fail : (group : GroupRec) → i < length groups → group ≡ get_or groups i group → (IsLawfulGroup v ag group → ⊥) → (IsTrue false ↔ whole)
  groups_fail group inside is never = let here = from_here group inside is in refused (λ w. never (here.1 w).0)

  pub groups_end : length groups ≤ i → (IsTrue true ↔ whole)
  groups_end end =
      let here = subst (λ (gs : List GroupRec). AreGroups v ag gs ↔ whole) (drop_all i groups end) left in
      (λ e. here.0 tt, λ w. refl)
