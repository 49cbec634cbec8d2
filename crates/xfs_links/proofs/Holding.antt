-- Laws of names, over the definitions alone.
use Rattle.std.proofs.Common.{◌≡◌, ℕ, ◌+◌, ◌<◌, ◌≤◌, ◌==◌, ◌&&◌, ◌||◌, ◌⊎◌, inl, inr, Bool, true, false, not, cond, nat_lt, List, [], ◌∷◌, ◌++◌, map, length, zero, suc, refl, sym, ◌∙◌, ap, subst, arith, Option, None, Some, if◌then◌else◌}
use Rattle.std.specs.List.{list_any, filter, All}
use Rattle.std.proofs.lemmas.Bool.{cases_eq}
use Rattle.std.proofs.lemmas.Bool.Decides.{nat_tests}
use Rattle.std.proofs.lemmas.List.{map-append}
use Rattle.std.proofs.lemmas.List.Elements.{All-filter, filter_passes}
use Rattle.std.proofs.lemmas.List.Folds.{list_any-append}
use Rattle.std.proofs.Math.ListN.{length-map}
use Rattle.xfs_collections.specs.Lists.{has_node, without, AreOnce}
use Rattle.xfs_dirdata.specs.declared.records.EntryRec.{EntryRec}
use Rattle.xfs_links.specs.declared.records.NodeRec.{NodeRec}
use Rattle.xfs_links.specs.declared.walk.Attached.{Attached}
use Rattle.xfs_links.specs.Entries.{passes, firsts, same_name, candidate_entries, is_directory_number}
use Rattle.xfs_links.specs.Walk.{is_attached, attached_at, see, see_all, turn_at, turns, start_at, begin, walk, attached_parent}
use Rattle.xfs_links.specs.Connected.{has_entry, is_parent, named_by, directory_numbers, starts, attached_directories, stays, staying, cleared_entries, is_in_the_way, is_orphan, kept_entries}
use Rattle.xfs_links.proofs.Attaching.{grown_begin, begin_attaches, turns_done}
use Rattle.xfs_links.proofs.Starting.{has_filter}
use Rattle.xfs_links.proofs.Joined.{any_through}

-- what holds of all entries holds of those that are picked from them
all_firsts : (P : EntryRec → Type 0) (met es : List EntryRec) → All P es → All P (firsts met es)
all_firsts P met [] h = h
all_firsts P met (e ∷ es) h = either (list_any (λ f. same_name f e) met) (all_firsts P met es (λ k d l. h (suc k) d (omega arith))) (all_firsts P (met ++ e ∷ []) es (λ k d l. h (suc k) d (omega arith)))
  where
    first : All P (firsts (met ++ e ∷ []) es) → All P (e ∷ firsts (met ++ e ∷ []) es)
    first r zero d l = h 0 d (omega arith)
    first r (suc k) d l = r k d (omega arith)

    either : (t : Bool) → All P (firsts met es) → All P (firsts (met ++ e ∷ []) es) → All P (if t then firsts met es else (e ∷ firsts (met ++ e ∷ []) es))
    either true p q = p
    either false p q = first q

all_staying : (P : EntryRec → Type 0) (files : List NodeRec) (s : List Attached) (before es : List EntryRec) → All P es → All P (staying files s before es)
all_staying P files s before [] h = h
all_staying P files s before (e ∷ es) h = either (stays files s before e) (all_staying P files s (before ++ e ∷ []) es (λ k d l. h (suc k) d (omega arith))) (all_staying P files s before es (λ k d l. h (suc k) d (omega arith)))
  where
    first : All P (staying files s (before ++ e ∷ []) es) → All P (e ∷ staying files s (before ++ e ∷ []) es)
    first r zero d l = h 0 d (omega arith)
    first r (suc k) d l = r k d (omega arith)

    either : (t : Bool) → All P (staying files s (before ++ e ∷ []) es) → All P (staying files s before es) → All P (if t then (e ∷ staying files s (before ++ e ∷ []) es) else staying files s before es)
    either true p q = first p
    either false p q = q

all_cleared : (P : EntryRec → Type 0) (files : List NodeRec) (root : ℕ) (s : List Attached) (es : List EntryRec) → All P es → All P (cleared_entries files root s es)
all_cleared P files root s es h = either (list_any (λ f. is_orphan files root s es f.ino) files)
  where
    either : (t : Bool) → All P (if t then filter (λ e. not (is_in_the_way files root e)) es else es)
    either true = All-filter (λ (e : EntryRec). not (is_in_the_way files root e)) P es h
    either false = h

-- each entry that stays can name its file
pub kept_pass : (files : List NodeRec) (entries : List EntryRec) (root : ℕ) → All (λ (e : EntryRec). passes files root e ≡ true) (kept_entries files entries root)
kept_pass files entries root = all_cleared (λ (e : EntryRec). passes files root e ≡ true) files root (attached_directories files entries root) (staying files (attached_directories files entries root) [] (candidate_entries files root entries))
    (all_staying (λ (e : EntryRec). passes files root e ≡ true) files (attached_directories files entries root) [] (candidate_entries files root entries)
    (all_firsts (λ (e : EntryRec). passes files root e ≡ true) [] (filter (passes files root) entries) (filter_passes (passes files root) entries)))

-- of files that are no directories every candidate stays, until the way is cleared
pub others_stay : (files : List NodeRec) (s : List Attached) (before es : List EntryRec) → filter (λ e. not (is_directory_number files e.ino)) (staying files s before es) ≡ filter (λ e. not (is_directory_number files e.ino)) es
others_stay files s before [] = refl
others_stay files s before (e ∷ es) = either (is_directory_number files e.ino) refl (stays files s before e) refl (others_stay files s (before ++ e ∷ []) es) (others_stay files s before es)
  where
    other : EntryRec → Bool
    other = λ e. not (is_directory_number files e.ino)

    forced : is_directory_number files e.ino ≡ false → stays files s before e ≡ true
    forced k = ap (λ r. if r then (is_parent e.dir (attached_parent s e.ino) && not (has_entry before e.ino)) else true) k

    either : (t : Bool) → is_directory_number files e.ino ≡ t → (u : Bool) → stays files s before e ≡ u
        → filter other (staying files s (before ++ e ∷ []) es) ≡ filter other es → filter other (staying files s before es) ≡ filter other es
        → filter other (if u then (e ∷ staying files s (before ++ e ∷ []) es) else staying files s before es) ≡ cond (not t) (e ∷ filter other es) (filter other es)
    either true k true m p q = ap (λ r. cond (not r) (e ∷ filter other (staying files s (before ++ e ∷ []) es)) (filter other (staying files s (before ++ e ∷ []) es))) k ∙ p
    either true k false m p q = q
    either false k true m p q = ap (λ r. cond (not r) (e ∷ filter other (staying files s (before ++ e ∷ []) es)) (filter other (staying files s (before ++ e ∷ []) es))) k ∙ ap (λ (r : List EntryRec). e ∷ r) p
    either false k false m p q = absurd (clash (sym m ∙ forced k))
      where
        clash : false ≡ true → ⊥
        clash c = cc

-- every starting point is attached in the end
grown_walk : (named : ℕ → List ℕ) (steps root : ℕ) (s : List Attached) (ns : List ℕ) (p : ℕ) → is_attached s p ≡ true → is_attached (walk named steps root s ns) p ≡ true
grown_walk named steps root s [] p h = h
grown_walk named steps root s (n ∷ ns) p h = grown_walk named steps root (begin named steps root s n) ns p (grown_begin named steps root s n p h)

walk_attaches : (named : ℕ → List ℕ) (steps root : ℕ) (s : List Attached) (ns : List ℕ) (p : ℕ) → has_node p ns ≡ true → is_attached (walk named steps root s ns) p ≡ true
walk_attaches named steps root s [] p h = cc
walk_attaches named steps root s (n ∷ ns) p h = elim (cases_eq n p) [
  | inl e ↦ grown_walk named steps root (begin named steps root s n) ns p (subst (λ r. is_attached (begin named steps root s n) r ≡ true) e (begin_attaches named steps root s n))
  | inr d ↦ walk_attaches named steps root (begin named steps root s n) ns p (grind (arith, nat_tests))
]

pub has_directory : (files : List NodeRec) (n : ℕ) → has_node n (directory_numbers files) ≡ is_directory_number files n
has_directory [] n = refl
has_directory (f ∷ fs) n = either (f.kind == 4) (has_directory fs n)
  where
    either : (t : Bool) → has_node n (directory_numbers fs) ≡ is_directory_number fs n → has_node n (map (λ (f : NodeRec). f.ino) (cond t (f ∷ filter (λ f. f.kind == 4) fs) (filter (λ f. f.kind == 4) fs))) ≡ ((f.ino == n && t) || is_directory_number fs n)
    either true h = ap (λ r. (f.ino == n) || r) h ∙ plain (f.ino == n) (is_directory_number fs n)
      where
        plain : (p q : Bool) → (p || q) ≡ ((p && true) || q)
        plain p q = grind (arith, nat_tests)
    either false h = h ∙ plain (f.ino == n) (is_directory_number fs n)
      where
        plain : (p q : Bool) → q ≡ ((p && false) || q)
        plain p q = grind (arith, nat_tests)

has_starts : (files : List NodeRec) (es : List EntryRec) (root n : ℕ) → has_node n (starts files es root) ≡ (root == n || ((not (n == root)) && is_directory_number files n))
has_starts files es root n =
    list_any-append (λ z. z == n) (root ∷ filter (λ n. not (n == root) && not (has_entry es n)) (directory_numbers files)) (filter (λ n. not (n == root) && has_entry es n) (directory_numbers files))
    ∙ ap (λ r. ((root == n) || r) || has_node n (filter (λ n. not (n == root) && has_entry es n) (directory_numbers files))) (has_filter (λ n. not (n == root) && not (has_entry es n)) n (directory_numbers files))
    ∙ ap (λ r. ((root == n) || ((not (n == root) && not (has_entry es n)) && has_node n (directory_numbers files))) || r) (has_filter (λ n. not (n == root) && has_entry es n) n (directory_numbers files))
    ∙ plain (root == n) (n == root) (has_entry es n) (has_node n (directory_numbers files)) ∙ ap (λ r. root == n || ((not (n == root)) && r)) (has_directory files n)
  where
    plain : (a b t d : Bool) → ((a || ((not b && not t) && d)) || ((not b && t) && d)) ≡ (a || (not b && d))
    plain a b t d = grind (arith, nat_tests)

pub all_attached : (files : List NodeRec) (entries : List EntryRec) (root n : ℕ) → is_directory_number files n ≡ true → is_attached (attached_directories files entries root) n ≡ true
all_attached files entries root n h =
    walk_attaches (named_by files (candidate_entries files root entries)) (length (directory_numbers files)) root [] (starts files (candidate_entries files root entries) root) n
    (has_starts files (candidate_entries files root entries) root n ∙ either (root == n) (n == root) (is_directory_number files n) (same (cases_eq n root)) h)
  where
    same : (n ≡ root) ⊎ (n ≡ root → ⊥) → (root == n) ≡ (n == root)
    same (inl e) = grind (arith, nat_tests)
    same (inr d) = grind (arith, nat_tests)

    either : (a b d : Bool) → a ≡ b → d ≡ true → (a || (not b && d)) ≡ true
    either a b d e k = grind (arith, nat_tests)

-- no directory is attached twice, and none but directories
pub record AreSound (files : List NodeRec) (s : List Attached) : Type 0 where
  pub once : AreOnce (map (λ (a : Attached). a.directory) s)
  pub known : (n : ℕ) → is_attached s n ≡ true → is_directory_number files n ≡ true

attached_has : (s : List Attached) (n : ℕ) → has_node n (map (λ (a : Attached). a.directory) s) ≡ is_attached s n
attached_has s n = any_through (λ (a : Attached). a.directory) (λ z. z == n) s

once_last : (x : ℕ) (xs : List ℕ) → AreOnce xs → has_node x xs ≡ false → AreOnce (xs ++ x ∷ [])
once_last x [] o h = (refl, tt)
once_last x (y ∷ ys) o h =
    let rest : has_node x ys ≡ false = grind (arith, nat_tests) in
    let off : (y == x) ≡ false = grind (arith, nat_tests) in
    (list_any-append (λ z. z == y) ys (x ∷ []) ∙ neither o.0 off, once_last x ys o.1 rest)
  where
    neither : has_node y ys ≡ false → (y == x) ≡ false → (has_node y ys || ((x == y) || false)) ≡ false
    neither p q = grind (arith, nat_tests)

sound_last : (files : List NodeRec) (s : List Attached) (n : ℕ) (parent : Option ℕ) → AreSound files s → is_attached s n ≡ false → is_directory_number files n ≡ true → AreSound files (s ++ attached_at n parent ∷ [])
sound_last files s n parent sound free dir = record {
  once = subst AreOnce (sym (map-append (λ (a : Attached). a.directory) s (attached_at n parent ∷ []))) (once_last n (map (λ (a : Attached). a.directory) s) sound.once (attached_has s n ∙ free));
  known = λ p h. either p (is_attached s p) refl (cases_eq n p) (sym (list_any-append (λ (a : Attached). a.directory == p) s (attached_at n parent ∷ [])) ∙ h);
}
  where
    either : (p : ℕ) (t : Bool) → is_attached s p ≡ t → (n ≡ p) ⊎ (n ≡ p → ⊥) → (is_attached s p || ((n == p) || false)) ≡ true → is_directory_number files p ≡ true
    either p true e c h = sound.known p e
    either p false e (inl same) h = subst (λ r. is_directory_number files r ≡ true) same dir
    either p false e (inr other) h = absurd (clash (sym (none (is_attached s p) (n == p) e (grind (arith, nat_tests))) ∙ h))
      where
        clash : false ≡ true → ⊥
        clash c = cc

        none : (q r : Bool) → q ≡ false → r ≡ false → (q || (r || false)) ≡ false
        none q r e f = grind (arith, nat_tests)

sound_see : (files : List NodeRec) (d n : ℕ) (s : List Attached) → AreSound files s → is_directory_number files n ≡ true → AreSound files (see d s n)
sound_see files d n s h dir = either (is_attached s n) refl
  where
    either : (t : Bool) → is_attached s n ≡ t → AreSound files (if t then s else (s ++ attached_at n (Some d) ∷ []))
    either true e = h
    either false e = sound_last files s n (Some d) h e dir

sound_all : (files : List NodeRec) (d : ℕ) (ns : List ℕ) (s : List Attached) → AreSound files s → ((n : ℕ) → has_node n ns ≡ true → is_directory_number files n ≡ true) → AreSound files (see_all d s ns)
sound_all files d [] s h dirs = h
sound_all files d (n ∷ ns) s h dirs = sound_all files d ns (see d s n) (sound_see files d n s h (dirs n (grind (arith, nat_tests)))) (λ p m. dirs p (either p m))
  where
    either : (p : ℕ) → has_node p ns ≡ true → ((n == p) || has_node p ns) ≡ true
    either p m = grind (arith, nat_tests)

abbrev pub NamesDirectories : List NodeRec → (ℕ → List ℕ) → Type 0
NamesDirectories files named = (d n : ℕ) → has_node n (named d) ≡ true → is_directory_number files n ≡ true

sound_turns : (files : List NodeRec) (named : ℕ → List ℕ) (steps k : ℕ) (s : List Attached) → NamesDirectories files named → AreSound files s → AreSound files (turns named steps k s)
sound_turns files named zero k s dirs h = h
sound_turns files named (suc steps) k s dirs h = either (nat_lt k (length s)) (sound_turns files named steps (k + 1) (see_all (turn_at s k) s (named (turn_at s k))) dirs (sound_all files (turn_at s k) (named (turn_at s k)) s h (dirs (turn_at s k))))
  where
    either : (t : Bool) → AreSound files (turns named steps (k + 1) (see_all (turn_at s k) s (named (turn_at s k)))) → AreSound files (if t then turns named steps (k + 1) (see_all (turn_at s k) s (named (turn_at s k))) else s)
    either true r = r
    either false r = h

sound_begin : (files : List NodeRec) (named : ℕ → List ℕ) (steps root : ℕ) (s : List Attached) (n : ℕ) → NamesDirectories files named → AreSound files s → is_directory_number files n ≡ true → AreSound files (begin named steps root s n)
sound_begin files named steps root s n dirs h dir = either (is_attached s n) refl
  where
    either : (t : Bool) → is_attached s n ≡ t → AreSound files (if t then s else turns named steps (length s) (s ++ start_at root n ∷ []))
    either true e = h
    either false e = sound_turns files named steps (length s) (s ++ start_at root n ∷ []) dirs (sound_last files s n (if n == root then Some root else None) h e dir)

sound_walk : (files : List NodeRec) (named : ℕ → List ℕ) (steps root : ℕ) (s : List Attached) (ns : List ℕ) → NamesDirectories files named → AreSound files s → ((n : ℕ) → has_node n ns ≡ true → is_directory_number files n ≡ true) → AreSound files (walk named steps root s ns)
sound_walk files named steps root s [] dirs h all = h
sound_walk files named steps root s (n ∷ ns) dirs h all = sound_walk files named steps root (begin named steps root s n) ns dirs (sound_begin files named steps root s n dirs h (all n (grind (arith, nat_tests)))) (λ p m. all p (either p m))
  where
    either : (p : ℕ) → has_node p ns ≡ true → ((n == p) || has_node p ns) ≡ true
    either p m = grind (arith, nat_tests)

names_directories : (files : List NodeRec) (es : List EntryRec) → NamesDirectories files (named_by files es)
names_directories files [] d n h = cc
names_directories files (e ∷ es) d n h = either (e.dir == d) (is_directory_number files e.ino) refl (names_directories files es d n) (cases_eq e.ino n) h
  where
    either : (t u : Bool) → is_directory_number files e.ino ≡ u → (has_node n (named_by files es d) ≡ true → is_directory_number files n ≡ true) → (e.ino ≡ n) ⊎ (e.ino ≡ n → ⊥)
        → has_node n (map (λ (e : EntryRec). e.ino) (cond (t && u) (e ∷ filter (λ e. e.dir == d && is_directory_number files e.ino) es) (filter (λ e. e.dir == d && is_directory_number files e.ino) es))) ≡ true → is_directory_number files n ≡ true
    either true true k r (inl same) h = subst (λ m. is_directory_number files m ≡ true) same k
    either true true k r (inr other) h = r (grind (arith, nat_tests))
    either true false k r c h = r h
    either false u k r c h = r h

starts_directories : (files : List NodeRec) (es : List EntryRec) (root n : ℕ) → is_directory_number files root ≡ true → has_node n (starts files es root) ≡ true → is_directory_number files n ≡ true
starts_directories files es root n dir h = elim (cases_eq root n) [
  | inl e ↦ subst (λ r. is_directory_number files r ≡ true) e dir
  | inr d ↦ only (root == n) (n == root) (is_directory_number files n) (grind (arith, nat_tests)) (sym (has_starts files es root n) ∙ h)
]
  where
    only : (a b d : Bool) → a ≡ false → (a || (not b && d)) ≡ true → d ≡ true
    only a b d e k = grind (arith, nat_tests)

none_sound : (files : List NodeRec) → AreSound files []
none_sound files = record { once = tt; known = λ n h. cc }

pub all_sound : (files : List NodeRec) (entries : List EntryRec) (root : ℕ) → is_directory_number files root ≡ true → AreSound files (attached_directories files entries root)
all_sound files entries root dir = sound_walk files (named_by files (candidate_entries files root entries)) (length (directory_numbers files)) root [] (starts files (candidate_entries files root entries) root)
    (names_directories files (candidate_entries files root entries)) (none_sound files) (λ n h. starts_directories files (candidate_entries files root entries) root n dir h)

-- a list in which each stands once is no longer than one that has all of them
without_most : (x : ℕ) (ys : List ℕ) → length (without x ys) ≤ length ys
without_most x [] = omega arith
without_most x (y ∷ ys) = either (y == x) (without_most x ys)
  where
    either : (t : Bool) → length (without x ys) ≤ length ys → length (cond (not t) (y ∷ without x ys) (without x ys)) ≤ suc (length ys)
    either true h = omega arith
    either false h = omega arith

without_shorter : (x : ℕ) (ys : List ℕ) → has_node x ys ≡ true → length (without x ys) < length ys
without_shorter x [] h = cc
without_shorter x (y ∷ ys) h = either (y == x) refl (without_shorter x ys)
  where
    either : (t : Bool) → (y == x) ≡ t → (has_node x ys ≡ true → length (without x ys) < length ys) → length (cond (not t) (y ∷ without x ys) (without x ys)) < suc (length ys)
    either true e r = omega (arith, without_most x ys)
    either false e r = omega (arith, r (sym (ap (λ b. b || has_node x ys) e) ∙ h))

has_without : (x y : ℕ) (xs : List ℕ) → has_node y (without x xs) ≡ (not (y == x) && has_node y xs)
has_without x y xs = has_filter (λ z. not (z == x)) y xs

fewer : (xs ys : List ℕ) → AreOnce xs → ((p : ℕ) → has_node p xs ≡ true → has_node p ys ≡ true) → length xs ≤ length ys
fewer [] ys o h = omega arith
fewer (x ∷ xs) ys o h = omega (arith, without_shorter x ys (h x (grind (arith, nat_tests))), fewer xs (without x ys) o.1 rest)
  where
    rest : (p : ℕ) → has_node p xs ≡ true → has_node p (without x ys) ≡ true
    rest p m = has_without x p ys ∙ both (p == x) (has_node p ys) (other (cases_eq p x)) (h p (either p m))
      where
        either : (p : ℕ) → has_node p xs ≡ true → ((x == p) || has_node p xs) ≡ true
        either p m = grind (arith, nat_tests)

        both : (q r : Bool) → q ≡ false → r ≡ true → (not q && r) ≡ true
        both q r e k = grind (arith, nat_tests)

        other : (p ≡ x) ⊎ (p ≡ x → ⊥) → (p == x) ≡ false
        other (inl e) = absurd (clash (sym o.0 ∙ ap (λ r. has_node r xs) (sym e) ∙ m))
          where
            clash : false ≡ true → ⊥
            clash c = cc
        other (inr d) = grind (arith, nat_tests)

-- there are no more attached than directories
sound_few : (files : List NodeRec) (s : List Attached) → AreSound files s → length s ≤ length (directory_numbers files)
sound_few files s h = subst (λ n. n ≤ length (directory_numbers files)) (length-map _ _)
    (fewer (map (λ (a : Attached). a.directory) s) (directory_numbers files) h.once (λ p m. has_directory files p ∙ h.known p (sym (attached_has s p) ∙ m)))

-- more steps change nothing where the steps suffice for all that are attached
turns_enough : (named : ℕ → List ℕ) (more steps k : ℕ) (s : List Attached) → length (turns named steps k s) ≤ k + steps → turns named (steps + more) k s ≡ turns named steps k s
turns_enough named more zero k s h = turns_done named (zero + more) k s (omega arith)
turns_enough named more (suc steps) k s h = ap (λ n. turns named n k s) (longer steps more) ∙ either (nat_lt k (length s)) refl h
    (turns_enough named more steps (k + 1) (see_all (turn_at s k) s (named (turn_at s k))))
  where
    longer : (a b : ℕ) → suc a + b ≡ suc (a + b)
    longer a b = omega arith

    either : (t : Bool) → nat_lt k (length s) ≡ t
        → length (if t then turns named steps (k + 1) (see_all (turn_at s k) s (named (turn_at s k))) else s) ≤ k + suc steps
        → (length (turns named steps (k + 1) (see_all (turn_at s k) s (named (turn_at s k)))) ≤ k + 1 + steps → turns named (steps + more) (k + 1) (see_all (turn_at s k) s (named (turn_at s k))) ≡ turns named steps (k + 1) (see_all (turn_at s k) s (named (turn_at s k))))
        → (if nat_lt k (length s) then turns named (steps + more) (k + 1) (see_all (turn_at s k) s (named (turn_at s k))) else s) ≡ (if nat_lt k (length s) then turns named steps (k + 1) (see_all (turn_at s k) s (named (turn_at s k))) else s)
    either true e h r = ap (λ b. if b then turns named (steps + more) (k + 1) (see_all (turn_at s k) s (named (turn_at s k))) else s) e ∙ r (omega arith)
        ∙ sym (ap (λ b. if b then turns named steps (k + 1) (see_all (turn_at s k) s (named (turn_at s k))) else s) e)
    either false e h r = ap (λ b. if b then turns named (steps + more) (k + 1) (see_all (turn_at s k) s (named (turn_at s k))) else s) e
        ∙ sym (ap (λ b. if b then turns named steps (k + 1) (see_all (turn_at s k) s (named (turn_at s k))) else s) e)

begin_enough : (files : List NodeRec) (named : ℕ → List ℕ) (more root : ℕ) (s : List Attached) (n : ℕ) → NamesDirectories files named → AreSound files s → is_directory_number files n ≡ true
    → begin named (length (directory_numbers files) + more) root s n ≡ begin named (length (directory_numbers files)) root s n
begin_enough files named more root s n dirs h dir = either (is_attached s n) refl
  where
    either : (t : Bool) → is_attached s n ≡ t → (if t then s else turns named (length (directory_numbers files) + more) (length s) (s ++ start_at root n ∷ [])) ≡ (if t then s else turns named (length (directory_numbers files)) (length s) (s ++ start_at root n ∷ []))
    either true e = refl
    either false e = turns_enough named more (length (directory_numbers files)) (length s) (s ++ start_at root n ∷ [])
        (omega (
          arith,
          sound_few files (turns named (length (directory_numbers files)) (length s) (s ++ start_at root n ∷ []))
              (sound_turns files named (length (directory_numbers files)) (length s) (s ++ start_at root n ∷ []) dirs (sound_last files s n (if n == root then Some root else None) h e dir)),
        ))

walk_enough : (files : List NodeRec) (named : ℕ → List ℕ) (more root : ℕ) (s : List Attached) (ns : List ℕ) → NamesDirectories files named → AreSound files s → ((n : ℕ) → has_node n ns ≡ true → is_directory_number files n ≡ true)
    → walk named (length (directory_numbers files) + more) root s ns ≡ walk named (length (directory_numbers files)) root s ns
walk_enough files named more root s [] dirs h all = refl
walk_enough files named more root s (n ∷ ns) dirs h all =
    ap (λ r. walk named (length (directory_numbers files) + more) root r ns) (begin_enough files named more root s n dirs h (all n (grind (arith, nat_tests))))
    ∙ walk_enough files named more root (begin named (length (directory_numbers files)) root s n) ns dirs (sound_begin files named (length (directory_numbers files)) root s n dirs h (all n (grind (arith, nat_tests)))) (λ p m. all p (either p m))
  where
    either : (p : ℕ) → has_node p ns ≡ true → ((n == p) || has_node p ns) ≡ true
    either p m = grind (arith, nat_tests)

pub steps_suffice : (files : List NodeRec) (entries : List EntryRec) (root more : ℕ) → is_directory_number files root ≡ true
    → walk (named_by files (candidate_entries files root entries)) (length (directory_numbers files) + more) root [] (starts files (candidate_entries files root entries) root) ≡ attached_directories files entries root
steps_suffice files entries root more dir = walk_enough files (named_by files (candidate_entries files root entries)) more root [] (starts files (candidate_entries files root entries) root)
    (names_directories files (candidate_entries files root entries)) (none_sound files) (λ n h. starts_directories files (candidate_entries files root entries) root n dir h)
