-- What the places say is what the numbers say.
use Rattle.std.proofs.Common.{◌≡◌, ℕ, ◌+◌, ◌<◌, ◌==◌, ◌&&◌, ◌||◌, Bool, true, false, not, cond, nat_lt, nat_le, List, [], ◌∷◌, ◌++◌, map, length, suc, refl, sym, ◌∙◌, ap, subst, arith, Option, None, Some, IfSome, is_some, option_map, if◌then◌else◌, count_by}
use Rattle.std.specs.List.{list_any, filter, filter_map, cons_option, find, All, range_with_len}
use Rattle.std.specs.Str.{bytes_eq}
use Rattle.std.proofs.lemmas.Bool.Decides.{nat_tests}
use Rattle.std.proofs.lemmas.List.{map-append}
use Rattle.std.proofs.lemmas.List.Sums.{length-filter}
use Rattle.std.proofs.Math.ListN.{length-map}
use Rattle.xfs_collections.specs.Lists.{has_node}
use Rattle.xfs_dirdata.specs.declared.records.EntryRec.{EntryRec}
use Rattle.xfs_links.specs.declared.records.NodeRec.{NodeRec}
use Rattle.xfs_links.specs.declared.candidates.Candidate.{Candidate}
use Rattle.xfs_links.specs.declared.walk.Attached.{Attached}
use Rattle.xfs_links.specs.Entries.{node_number, is_directory_at_place, NodesAscend, is_directory_number, is_reserved_inode}
use Rattle.xfs_links.specs.Walk.{walk, attached_parent}
use Rattle.xfs_links.specs.Connected.{has_entry, named_by, directory_numbers, starts, attached, is_parent, stays, staying, is_orphan, names_lost_found, is_in_the_way, cleared_entries, orphans, parents, lost_of, is_taken_name, free_name, named_orphans}
use Rattle.xfs_links.specs.Places.{candidate_entry, IsPlacedCandidate, targets, candidates_at, named_at, attached_numbers, is_target, starts_at, parent_at, stays_at, staying_at, orphan_at, in_the_way_at, cleared_at, lost_at, listed_pair, taken_at, named_orphan_at}
use Rattle.xfs_links.proofs.Files.{directory_at}
use Rattle.std.proofs.lemmas.List.Elements.{All-filter, All-push}
use Rattle.xfs_links.proofs.Starting.{has_range, is_first, is_later, filter_same, starts_inside}
use Rattle.xfs_links.proofs.Renaming.{AreIn, AreLow, same_number, walk_renamed, parent_renamed, in_walk}

-- lists through a function
pub filter_through : {X Y : Type 0} (f : X → Y) (p : Y → Bool) (xs : List X) → filter p (map f xs) ≡ map f (filter (λ x. p (f x)) xs)
filter_through f p [] = refl
filter_through f p (x ∷ xs) = ap (λ r. cond (p (f x)) (f x ∷ r) r) (filter_through f p xs) ∙ either (p (f x))
  where
    either : (t : Bool) → cond t (f x ∷ map f (filter (λ x. p (f x)) xs)) (map f (filter (λ x. p (f x)) xs)) ≡ map f (cond t (x ∷ filter (λ x. p (f x)) xs) (filter (λ x. p (f x)) xs))
    either true = refl
    either false = refl

pub any_through : {X Y : Type 0} (f : X → Y) (p : Y → Bool) (xs : List X) → list_any p (map f xs) ≡ list_any (λ x. p (f x)) xs
any_through f p [] = refl
any_through f p (x ∷ xs) = ap (λ r. p (f x) || r) (any_through f p xs)

pub find_through : {X Y : Type 0} (f : X → Y) (p : Y → Bool) (xs : List X) → find p (map f xs) ≡ option_map f (find (λ x. p (f x)) xs)
find_through f p [] = refl
find_through f p (x ∷ xs) = ap (λ r. cond (p (f x)) (Some (f x)) r) (find_through f p xs) ∙ either (p (f x))
  where
    either : (t : Bool) → cond t (Some (f x)) (option_map f (find (λ x. p (f x)) xs)) ≡ option_map f (cond t (Some x) (find (λ x. p (f x)) xs))
    either true = refl
    either false = refl

pub gather_through : {X Y Z : Type 0} (f : X → Y) (h : Y → Option Z) (xs : List X) → filter_map h (map f xs) ≡ filter_map (λ x. h (f x)) xs
gather_through f h [] = refl
gather_through f h (x ∷ xs) = ap (cons_option (h (f x))) (gather_through f h xs)

pub gather_filter : {X Z : Type 0} (t : X → Bool) (h : X → Option Z) (xs : List X) → filter_map h (filter t xs) ≡ filter_map (λ x. if t x then h x else None) xs
gather_filter t h [] = refl
gather_filter {X} {Z} t h (x ∷ xs) = either (t x) (gather_filter t h xs)
  where
    either : (b : Bool) → filter_map h (filter t xs) ≡ filter_map (λ x. if t x then h x else None) xs
        → filter_map h (cond b (x ∷ filter t xs) (filter t xs)) ≡ cons_option (if b then h x else None) (filter_map (λ x. if t x then h x else None) xs)
    either true e = ap (cons_option (h x)) e
    either false e = e

-- all files, by place
numbers_from : (files : List NodeRec) (g : ℕ → ℕ) (a : ℕ) → ((k : ℕ) → node_number files k ≡ g (a + k)) → map (λ (f : NodeRec). f.ino) files ≡ map g (range_with_len a (length files))
numbers_from [] g a h = refl
numbers_from (f ∷ fs) g a h = ap (λ n. n ∷ map (λ (f : NodeRec). f.ino) fs) (h 0 ∙ ap g (plus a)) ∙ ap (λ r. g a ∷ r) (numbers_from fs g (a + 1) (λ k. h (suc k) ∙ ap g (moved a k)))
  where
    plus : (a : ℕ) → a + 0 ≡ a
    plus a = omega arith

    moved : (a k : ℕ) → a + suc k ≡ a + 1 + k
    moved a k = omega arith

pub numbers_are : (files : List NodeRec) → map (λ (f : NodeRec). f.ino) files ≡ map (node_number files) (range_with_len 0 (length files))
numbers_are files = numbers_from files (node_number files) 0 (λ k. ap (node_number files) (plus k))
  where
    plus : (k : ℕ) → k ≡ 0 + k
    plus k = omega arith

-- the directories, by place
directories_from : (files : List NodeRec) (g : ℕ → ℕ) (t : ℕ → Bool) (a : ℕ) → ((k : ℕ) → node_number files k ≡ g (a + k)) → ((k : ℕ) → is_directory_at_place files k ≡ t (a + k))
    → directory_numbers files ≡ map g (filter t (range_with_len a (length files)))
directories_from [] g t a h e = refl
directories_from (f ∷ fs) g t a h e = either (f.kind == 4) (t a) (e 0 ∙ ap t (plus a)) (directories_from fs g t (a + 1) (λ k. h (suc k) ∙ ap g (moved a k)) (λ k. e (suc k) ∙ ap t (moved a k)))
  where
    plus : (a : ℕ) → a + 0 ≡ a
    plus a = omega arith

    moved : (a k : ℕ) → a + suc k ≡ a + 1 + k
    moved a k = omega arith

    either : (p q : Bool) → p ≡ q → directory_numbers fs ≡ map g (filter t (range_with_len (a + 1) (length fs)))
        → map (λ (f : NodeRec). f.ino) (cond p (f ∷ filter (λ f. f.kind == 4) fs) (filter (λ f. f.kind == 4) fs)) ≡ map g (cond q (a ∷ filter t (range_with_len (a + 1) (length fs))) (filter t (range_with_len (a + 1) (length fs))))
    either true true s r = ap (λ n. n ∷ directory_numbers fs) (h 0 ∙ ap g (plus a)) ∙ ap (λ k. g a ∷ k) r
    either true false s r = cc
    either false true s r = cc
    either false false s r = r

pub directories_are : (files : List NodeRec) → directory_numbers files ≡ map (node_number files) (filter (is_directory_at_place files) (range_with_len 0 (length files)))
directories_are files = directories_from files (node_number files) (is_directory_at_place files) 0 (λ k. ap (node_number files) (plus k)) (λ k. ap (is_directory_at_place files) (plus k))
  where
    plus : (k : ℕ) → k ≡ 0 + k
    plus k = omega arith

pub count_is : (files : List NodeRec) → count_by (λ (f : NodeRec). f.kind == 4) files ≡ length (directory_numbers files)
count_is files = sym (length-map _ _ ∙ length-filter (λ (f : NodeRec). f.kind == 4) files)

filter_both : (t p : ℕ → Bool) (xs : List ℕ) → filter p (filter t xs) ≡ filter (λ x. t x && p x) xs
filter_both t p [] = refl
filter_both t p (x ∷ xs) = either (t x) (filter_both t p xs)
  where
    either : (b : Bool) → filter p (filter t xs) ≡ filter (λ x. t x && p x) xs → filter p (cond b (x ∷ filter t xs) (filter t xs)) ≡ cond (b && p x) (x ∷ filter (λ x. t x && p x) xs) (filter (λ x. t x && p x) xs)
    either true e = ap (λ r. cond (p x) (x ∷ r) r) e
    either false e = e

-- what directories pass a test
pub picked_directories : (files : List NodeRec) (p q : ℕ → Bool) → ((k : ℕ) → k < length files → p (node_number files k) ≡ q k)
    → filter p (directory_numbers files) ≡ map (node_number files) (filter (λ k. is_directory_at_place files k && q k) (range_with_len 0 (length files)))
picked_directories files p q h =
    ap (filter p) (directories_are files) ∙ filter_through (node_number files) p (filter (is_directory_at_place files) (range_with_len 0 (length files)))
    ∙ ap (map (node_number files)) (filter_both (is_directory_at_place files) (λ k. p (node_number files k)) (range_with_len 0 (length files))
    ∙ filter_same (λ k. is_directory_at_place files k && p (node_number files k)) (λ k. is_directory_at_place files k && q k) (range_with_len 0 (length files)) (λ k m. ap (λ r. is_directory_at_place files k && r) (h k (low k m))))
  where
    low : (k : ℕ) → has_node k (range_with_len 0 (length files)) ≡ true → k < length files
    low k m = let e : (nat_le 0 k && nat_lt k (0 + length files)) ≡ true = sym (has_range 0 (length files) k) ∙ m in grind (arith, nat_tests)

pub range_low : (n k : ℕ) → has_node k (range_with_len 0 n) ≡ true → k < n
range_low n k m = let e : (nat_le 0 k && nat_lt k (0 + n)) ≡ true = sym (has_range 0 n k) ∙ m in grind (arith, nat_tests)

module _ (files : List NodeRec) (ascend : NodesAscend 0 files) (entries : List EntryRec) where
  abbrev pub Placed : List Candidate → Type 0
  Placed cs = All (IsPlacedCandidate files entries) cs

  placed_tail : (c : Candidate) (cs : List Candidate) → Placed (c ∷ cs) → Placed cs
  placed_tail c cs h k d l = h (suc k) d (omega arith)

  placed_head : (c : Candidate) (cs : List Candidate) → Placed (c ∷ cs) → IsPlacedCandidate files entries c
  placed_head c cs h = h 0 c (omega arith)

  pub target_directory : (c : Candidate) → IsPlacedCandidate files entries c → is_directory_number files (candidate_entry entries c).ino ≡ is_directory_at_place files c.target
  target_directory c p = ap (is_directory_number files) (sym p.names) ∙ directory_at 0 files c.target ascend p.target

  pub named_is : (cs : List Candidate) (p : ℕ) → Placed cs → p < length files → has_entry (map (candidate_entry entries) cs) (node_number files p) ≡ is_target cs p
  named_is [] p h l = refl
  named_is (c ∷ cs) p h l = let q : IsPlacedCandidate files entries c = placed_head c cs h in
      ap (λ r. r || has_entry (map (candidate_entry entries) cs) (node_number files p)) (ap (λ n. n == node_number files p) (sym q.names) ∙ same_number files ascend c.target p q.target l) ∙ ap (λ r. c.target == p || r) (named_is cs p (placed_tail c cs h) l)

  pub named_by_is : (cs : List Candidate) (d : ℕ) → Placed cs → d < length files → named_by files (map (candidate_entry entries) cs) (node_number files d) ≡ map (node_number files) (named_at files cs d)
  named_by_is [] d h l = refl
  named_by_is (c ∷ cs) d h l = let q : IsPlacedCandidate files entries c = placed_head c cs h in
      ap (λ r. map (λ (e : EntryRec). e.ino) (cond r (candidate_entry entries c ∷ rest) rest)) (both _ _ _ _ (ap (λ n. n == node_number files d) (sym q.of) ∙ same_number files ascend c.directory d q.directory l) (target_directory c q))
      ∙ either (c.directory == d) (is_directory_at_place files c.target) refl (named_by_is cs d (placed_tail c cs h) l) (sym q.names)
    where
      rest : List EntryRec
      rest = filter (λ e. e.dir == node_number files d && is_directory_number files e.ino) (map (candidate_entry entries) cs)

      both : (a b s t : Bool) → a ≡ s → b ≡ t → (a && b) ≡ (s && t)
      both a b s t e k = ap (λ r. r && b) e ∙ ap (λ r. s && r) k

      either : (s t : Bool) → is_directory_at_place files c.target ≡ t → named_by files (map (candidate_entry entries) cs) (node_number files d) ≡ map (node_number files) (named_at files cs d) → (candidate_entry entries c).ino ≡ node_number files c.target
          → map (λ (e : EntryRec). e.ino) (cond (s && t) (candidate_entry entries c ∷ filter (λ e. e.dir == node_number files d && is_directory_number files e.ino) (map (candidate_entry entries) cs)) (filter (λ e. e.dir == node_number files d && is_directory_number files e.ino) (map (candidate_entry entries) cs)))
          ≡ map (node_number files) (targets files (cond s (c ∷ candidates_at cs d) (candidates_at cs d)))
      either true true e r n = ap (λ k. k ∷ named_by files (map (candidate_entry entries) cs) (node_number files d)) n ∙ ap (λ k. node_number files c.target ∷ k) r ∙ sym (ap (λ b. map (node_number files) (map (λ (c : Candidate). c.target) (cond b (c ∷ filter (λ c. is_directory_at_place files c.target) (candidates_at cs d)) (filter (λ c. is_directory_at_place files c.target) (candidates_at cs d))))) e)
      either true false e r n = r ∙ sym (ap (λ b. map (node_number files) (map (λ (c : Candidate). c.target) (cond b (c ∷ filter (λ c. is_directory_at_place files c.target) (candidates_at cs d)) (filter (λ c. is_directory_at_place files c.target) (candidates_at cs d))))) e)
      either false t e r n = r

  pub named_low : (cs : List Candidate) (d : ℕ) → Placed cs → AreLow (length files) (named_at files cs d)
  named_low cs d h = low_targets (filter (λ c. is_directory_at_place files c.target) (candidates_at cs d))
      (All-filter (λ (c : Candidate). is_directory_at_place files c.target) (λ (c : Candidate). c.target < length files) (candidates_at cs d)
      (All-filter (λ (c : Candidate). c.directory == d) (λ (c : Candidate). c.target < length files) cs (λ k e l. (h k e l).target)))
    where
      low_targets : (xs : List Candidate) → All (λ (c : Candidate). c.target < length files) xs → AreLow (length files) (map (λ (c : Candidate). c.target) xs)
      low_targets [] h = tt
      low_targets (c ∷ xs) h = (h 0 c (omega arith), low_targets xs (λ k e l. h (suc k) e (omega arith)))

  pub starts_is : (cs : List Candidate) (root : ℕ) → Placed cs → root < length files → starts files (map (candidate_entry entries) cs) (node_number files root) ≡ map (node_number files) (starts_at files cs root)
  starts_is cs root h l =
      ap (λ r. (node_number files root ∷ r) ++ filter (λ n. not (n == node_number files root) && has_entry (map (candidate_entry entries) cs) n) (directory_numbers files))
      (picked_directories files (λ n. not (n == node_number files root) && not (has_entry (map (candidate_entry entries) cs) n)) (λ k. not (k == root) && not (is_target cs k))
      (λ k m. ap (λ r. not r && not (has_entry (map (candidate_entry entries) cs) (node_number files k))) (same_number files ascend k root m l) ∙ ap (λ r. not (k == root) && not r) (named_is cs k h m)))
      ∙ ap (λ r. (node_number files root ∷ map (node_number files) (filter (is_first files cs root) (range_with_len 0 (length files)))) ++ r)
      (picked_directories files (λ n. not (n == node_number files root) && has_entry (map (candidate_entry entries) cs) n) (λ k. not (k == root) && is_target cs k)
      (λ k m. ap (λ r. not r && has_entry (map (candidate_entry entries) cs) (node_number files k)) (same_number files ascend k root m l) ∙ ap (λ r. not (k == root) && r) (named_is cs k h m)))
      ∙ sym (map-append (node_number files) (root ∷ filter (is_first files cs root) (range_with_len 0 (length files))) (filter (is_later files cs root) (range_with_len 0 (length files))))

  all_low : (ps : List ℕ) → All (λ p. p < length files) ps → AreLow (length files) ps
  all_low [] h = tt
  all_low (p ∷ ps) h = (h 0 p (omega arith), all_low ps (λ k e l. h (suc k) e (omega arith)))

  -- the directories as they are attached, by place
  abbrev pub attached_places : List Candidate → ℕ → List Attached
  attached_places cs root = walk (named_at files cs) (count_by (λ (f : NodeRec). f.kind == 4) files) root [] (starts_at files cs root)

  pub attached_is : (cs : List Candidate) (root : ℕ) → Placed cs → root < length files → is_directory_at_place files root ≡ true → attached files (map (candidate_entry entries) cs) (node_number files root) ≡ map (attached_numbers files) (attached_places cs root)
  attached_is cs root h l dir =
      ap (λ n. walk (named_by files (map (candidate_entry entries) cs)) n (node_number files root) [] (starts files (map (candidate_entry entries) cs) (node_number files root))) (sym (count_is files))
      ∙ ap (walk (named_by files (map (candidate_entry entries) cs)) (count_by (λ (f : NodeRec). f.kind == 4) files) (node_number files root) []) (starts_is cs root h l)
      ∙ sym (walk_renamed files ascend (named_by files (map (candidate_entry entries) cs)) (named_at files cs) (λ d. named_low cs d h) (λ d m. named_by_is cs d h m) (count_by (λ (f : NodeRec). f.kind == 4) files) root [] (starts_at files cs root) tt l
      (all_low (starts_at files cs root) (starts_inside files cs root dir)))

  pub attached_in : (cs : List Candidate) (root : ℕ) → Placed cs → root < length files → is_directory_at_place files root ≡ true → AreIn (length files) (attached_places cs root)
  attached_in cs root h l dir = in_walk (length files) (named_at files cs) (count_by (λ (f : NodeRec). f.kind == 4) files) root [] (starts_at files cs root) (λ d. named_low cs d h) tt l
      (all_low (starts_at files cs root) (starts_inside files cs root dir))

  parent_low : (n : ℕ) (s : List Attached) (p : ℕ) → AreIn n s → IfSome (attached_parent s p) (λ q. q < n)
  parent_low n [] p h = tt
  parent_low n (a ∷ s) p h = either (a.directory == p) (parent_low n s p h.2)
    where
      either : (t : Bool) → IfSome (attached_parent s p) (λ q. q < n) → IfSome (if t then a.parent else attached_parent s p) (λ q. q < n)
      either true e = h.1
      either false e = e

  -- what is decided by the parents, which stand by place
  module _ (s : List Attached) (within : AreIn (length files) s) (above : List (Option ℕ)) (told : (p : ℕ) → p < length files → parent_at above p ≡ attached_parent s p) where
    abbrev pub numbered : List Attached
    numbered = map (attached_numbers files) s

    pub parent_is : (p : ℕ) → p < length files → attached_parent numbered (node_number files p) ≡ option_map (node_number files) (parent_at above p)
    parent_is p l = parent_renamed files ascend s p within l ∙ ap (λ (o : Option ℕ). option_map (node_number files) o) (sym (told p l))

    pub above_low : (p : ℕ) → p < length files → IfSome (parent_at above p) (λ q. q < length files)
    above_low p l = subst (λ (o : Option ℕ). IfSome o (λ q. q < length files)) (sym (told p l)) (parent_low (length files) s p within)

    is_parent_is : (d : ℕ) (o : Option ℕ) → d < length files → IfSome o (λ q. q < length files) → is_parent (node_number files d) (option_map (node_number files) o) ≡ is_parent d o
    is_parent_is d None l h = refl
    is_parent_is d (Some q) l h = same_number files ascend q d h l

    pub stays_is : (before : List Candidate) (c : Candidate) → Placed before → IsPlacedCandidate files entries c → stays files numbered (map (candidate_entry entries) before) (candidate_entry entries c) ≡ stays_at files above before c
    stays_is before c h q =
        ap (λ r. if r then (is_parent (candidate_entry entries c).dir (attached_parent numbered (candidate_entry entries c).ino) && not (has_entry (map (candidate_entry entries) before) (candidate_entry entries c).ino)) else true) (target_directory c q)
        ∙ ap (λ r. if is_directory_at_place files c.target then r else true) (ap (λ r. r && not (has_entry (map (candidate_entry entries) before) (candidate_entry entries c).ino)) same ∙ ap (λ r. is_parent c.directory (parent_at above c.target) && not r) (ap (has_entry (map (candidate_entry entries) before)) (sym q.names) ∙ named_is before c.target h q.target))
      where
        same : is_parent (candidate_entry entries c).dir (attached_parent numbered (candidate_entry entries c).ino) ≡ is_parent c.directory (parent_at above c.target)
        same = ap (λ n. is_parent n (attached_parent numbered (candidate_entry entries c).ino)) (sym q.of) ∙ ap (λ n. is_parent (node_number files c.directory) (attached_parent numbered n)) (sym q.names)
            ∙ ap (is_parent (node_number files c.directory)) (parent_is c.target q.target) ∙ is_parent_is c.directory (parent_at above c.target) q.directory (above_low c.target q.target)

    pub staying_is : (before cs : List Candidate) → Placed before → Placed cs → staying files numbered (map (candidate_entry entries) before) (map (candidate_entry entries) cs) ≡ map (candidate_entry entries) (staying_at files above before cs)
    staying_is before [] h k = refl
    staying_is before (c ∷ cs) h k = let q : IsPlacedCandidate files entries c = placed_head c cs k in
        ap (λ r. if r then (candidate_entry entries c ∷ staying files numbered (map (candidate_entry entries) before ++ candidate_entry entries c ∷ []) (map (candidate_entry entries) cs)) else staying files numbered (map (candidate_entry entries) before) (map (candidate_entry entries) cs)) (stays_is before c h q)
        ∙ either (stays_at files above before c)
        (ap (λ r. staying files numbered r (map (candidate_entry entries) cs)) (sym (map-append (candidate_entry entries) before (c ∷ []))) ∙ staying_is (before ++ c ∷ []) cs (All-push (IsPlacedCandidate files entries) before c h q) (placed_tail c cs k))
        (staying_is before cs h (placed_tail c cs k))
      where
        either : (t : Bool) → staying files numbered (map (candidate_entry entries) before ++ candidate_entry entries c ∷ []) (map (candidate_entry entries) cs) ≡ map (candidate_entry entries) (staying_at files above (before ++ c ∷ []) cs)
            → staying files numbered (map (candidate_entry entries) before) (map (candidate_entry entries) cs) ≡ map (candidate_entry entries) (staying_at files above before cs)
            → (if t then (candidate_entry entries c ∷ staying files numbered (map (candidate_entry entries) before ++ candidate_entry entries c ∷ []) (map (candidate_entry entries) cs)) else staying files numbered (map (candidate_entry entries) before) (map (candidate_entry entries) cs))
            ≡ map (candidate_entry entries) (if t then (c ∷ staying_at files above (before ++ c ∷ []) cs) else staying_at files above before cs)
        either true e f = ap (λ (r : List EntryRec). candidate_entry entries c ∷ r) e
        either false e f = f

    some_is : (o : Option ℕ) → is_some (option_map (node_number files) o) ≡ is_some o
    some_is None = refl
    some_is (Some q) = refl

    pub orphan_is : (cs : List Candidate) (root p : ℕ) → Placed cs → p < length files → is_orphan files root numbered (map (candidate_entry entries) cs) (node_number files p) ≡ orphan_at files root above cs p
    orphan_is cs root p h l =
        ap (λ r. if r then not (is_some (attached_parent numbered (node_number files p))) else (not (is_reserved_inode root (node_number files p)) && not (has_entry (map (candidate_entry entries) cs) (node_number files p)))) (directory_at 0 files p ascend l)
        ∙ ap (λ r. if is_directory_at_place files p then not r else (not (is_reserved_inode root (node_number files p)) && not (has_entry (map (candidate_entry entries) cs) (node_number files p)))) (ap (λ (o : Option ℕ). is_some o) (parent_is p l) ∙ some_is (parent_at above p))
        ∙ ap (λ r. if is_directory_at_place files p then not (is_some (parent_at above p)) else (not (is_reserved_inode root (node_number files p)) && not r)) (named_is cs p h l)

    any_same : (f g : ℕ → Bool) (xs : List ℕ) → ((x : ℕ) → has_node x xs ≡ true → f x ≡ g x) → list_any f xs ≡ list_any g xs
    any_same f g [] h = refl
    any_same f g (x ∷ xs) h = ap (λ r. r || list_any f xs) (h x (grind (arith, nat_tests))) ∙ ap (λ r. g x || r) (any_same f g xs (λ p m. h p (either p m)))
      where
        either : (p : ℕ) → has_node p xs ≡ true → ((x == p) || has_node p xs) ≡ true
        either p m = grind (arith, nat_tests)

    in_way_is : (root : ℕ) (cs : List Candidate) → Placed cs → filter (λ e. not (is_in_the_way files root e)) (map (candidate_entry entries) cs) ≡ map (candidate_entry entries) (filter (λ c. not (in_the_way_at files entries root c)) cs)
    in_way_is root [] h = refl
    in_way_is root (c ∷ cs) h = ap (λ r. cond (not (names_lost_found root (candidate_entry entries c) && not r)) (candidate_entry entries c ∷ filter (λ e. not (is_in_the_way files root e)) (map (candidate_entry entries) cs)) (filter (λ e. not (is_in_the_way files root e)) (map (candidate_entry entries) cs))) (target_directory c (placed_head c cs h))
        ∙ either (not (in_the_way_at files entries root c)) (in_way_is root cs (placed_tail c cs h))
      where
        either : (t : Bool) → filter (λ e. not (is_in_the_way files root e)) (map (candidate_entry entries) cs) ≡ map (candidate_entry entries) (filter (λ c. not (in_the_way_at files entries root c)) cs)
            → cond t (candidate_entry entries c ∷ filter (λ e. not (is_in_the_way files root e)) (map (candidate_entry entries) cs)) (filter (λ e. not (is_in_the_way files root e)) (map (candidate_entry entries) cs))
            ≡ map (candidate_entry entries) (cond t (c ∷ filter (λ c. not (in_the_way_at files entries root c)) cs) (filter (λ c. not (in_the_way_at files entries root c)) cs))
        either true e = ap (λ (r : List EntryRec). candidate_entry entries c ∷ r) e
        either false e = e

    pub cleared_is : (root : ℕ) (cs : List Candidate) → Placed cs → cleared_entries files root numbered (map (candidate_entry entries) cs) ≡ map (candidate_entry entries) (cleared_at files entries root above cs)
    cleared_is root cs h =
        ap (λ r. if r then filter (λ e. not (is_in_the_way files root e)) (map (candidate_entry entries) cs) else map (candidate_entry entries) cs)
        (sym (any_through (λ (f : NodeRec). f.ino) (is_orphan files root numbered (map (candidate_entry entries) cs)) files)
        ∙ ap (list_any (is_orphan files root numbered (map (candidate_entry entries) cs))) (numbers_are files)
        ∙ any_through (node_number files) (is_orphan files root numbered (map (candidate_entry entries) cs)) (range_with_len 0 (length files))
        ∙ any_same (λ p. is_orphan files root numbered (map (candidate_entry entries) cs) (node_number files p)) (orphan_at files root above cs) (range_with_len 0 (length files)) (λ p m. orphan_is cs root p h (range_low (length files) p m)))
        ∙ either (list_any (orphan_at files root above cs) (range_with_len 0 (length files)))
      where
        either : (t : Bool) → (if t then filter (λ e. not (is_in_the_way files root e)) (map (candidate_entry entries) cs) else map (candidate_entry entries) cs) ≡ map (candidate_entry entries) (if t then filter (λ c. not (in_the_way_at files entries root c)) cs else cs)
        either true = in_way_is root cs h
        either false = refl

    pub cleared_all : (P : Candidate → Type 0) (root : ℕ) (cs : List Candidate) → All P cs → All P (cleared_at files entries root above cs)
    cleared_all P root cs h = either (list_any (orphan_at files root above cs) (range_with_len 0 (length files)))
      where
        either : (t : Bool) → All P (if t then filter (λ c. not (in_the_way_at files entries root c)) cs else cs)
        either true = All-filter (λ (c : Candidate). not (in_the_way_at files entries root c)) P cs h
        either false = h

    pub orphans_is : (root : ℕ) (cs : List Candidate) → Placed cs → orphans files root numbered (map (candidate_entry entries) cs) ≡ map (node_number files) (filter (orphan_at files root above cs) (range_with_len 0 (length files)))
    orphans_is root cs h =
        ap (filter (is_orphan files root numbered (map (candidate_entry entries) cs))) (numbers_are files)
        ∙ filter_through (node_number files) (is_orphan files root numbered (map (candidate_entry entries) cs)) (range_with_len 0 (length files))
        ∙ ap (map (node_number files)) (filter_same (λ p. is_orphan files root numbered (map (candidate_entry entries) cs) (node_number files p)) (orphan_at files root above cs) (range_with_len 0 (length files)) (λ p m. orphan_is cs root p h (range_low (length files) p m)))

    pub parents_is : parents files numbered ≡ filter_map (listed_pair files above) (range_with_len 0 (length files))
    parents_is =
        ap (filter_map (λ n. option_map {U = ℕ × ℕ} (λ p. (n, p)) (attached_parent numbered n))) (directories_are files)
        ∙ gather_through (node_number files) (λ n. option_map {U = ℕ × ℕ} (λ p. (n, p)) (attached_parent numbered n)) (filter (is_directory_at_place files) (range_with_len 0 (length files)))
        ∙ gather_filter (is_directory_at_place files) (λ k. option_map {U = ℕ × ℕ} (λ p. (node_number files k, p)) (attached_parent numbered (node_number files k))) (range_with_len 0 (length files))
        ∙ gather_same (range_with_len 0 (length files)) (λ k m. ap (λ (o : Option ℕ). if is_directory_at_place files k then option_map {U = ℕ × ℕ} (λ p. (node_number files k, p)) o else None) (parent_is k (range_low (length files) k m)) ∙ pair (is_directory_at_place files k) k (parent_at above k))
      where
        pair : (t : Bool) (k : ℕ) (o : Option ℕ) → (if t then option_map {U = ℕ × ℕ} (λ p. (node_number files k, p)) (option_map (node_number files) o) else None) ≡ option_map {U = ℕ × ℕ} (λ q. (node_number files k, node_number files q)) (if t then o else None)
        pair true k None = refl
        pair true k (Some q) = refl
        pair false k o = refl

        gather_same : (xs : List ℕ) → ((k : ℕ) → has_node k xs ≡ true → (if is_directory_at_place files k then option_map {U = ℕ × ℕ} (λ p. (node_number files k, p)) (attached_parent numbered (node_number files k)) else None) ≡ listed_pair files above k)
            → filter_map (λ k. if is_directory_at_place files k then option_map {U = ℕ × ℕ} (λ p. (node_number files k, p)) (attached_parent numbered (node_number files k)) else None) xs ≡ filter_map (listed_pair files above) xs
        gather_same [] h = refl
        gather_same (x ∷ xs) h = ap (λ o. cons_option o (filter_map (λ k. if is_directory_at_place files k then option_map {U = ℕ × ℕ} (λ p. (node_number files k, p)) (attached_parent numbered (node_number files k)) else None) xs)) (h x (grind (arith, nat_tests)))
            ∙ ap (cons_option (listed_pair files above x)) (gather_same xs (λ p m. h p (either p m)))
          where
            either : (p : ℕ) → has_node p xs ≡ true → ((x == p) || has_node p xs) ≡ true
            either p m = grind (arith, nat_tests)

    pub lost_is : (root : ℕ) (cs : List Candidate) → Placed cs → lost_of files root (map (candidate_entry entries) cs) ≡ option_map (node_number files) (lost_at files entries root cs)
    lost_is root [] h = refl
    lost_is root (c ∷ cs) h = let q : IsPlacedCandidate files entries c = placed_head c cs h in
        ap (λ r. option_map (λ (e : EntryRec). e.ino) (cond (names_lost_found root (candidate_entry entries c) && r) (Some (candidate_entry entries c)) (find (λ e. names_lost_found root e && is_directory_number files e.ino) (map (candidate_entry entries) cs)))) (target_directory c q)
        ∙ either (names_lost_found root (candidate_entry entries c) && is_directory_at_place files c.target) (lost_is root cs (placed_tail c cs h)) (ap (λ (n : ℕ). Some n) (sym q.names))
      where
        either : (t : Bool) → lost_of files root (map (candidate_entry entries) cs) ≡ option_map (node_number files) (lost_at files entries root cs) → Some (candidate_entry entries c).ino ≡ Some (node_number files c.target)
            → option_map (λ (e : EntryRec). e.ino) (cond t (Some (candidate_entry entries c)) (find (λ e. names_lost_found root e && is_directory_number files e.ino) (map (candidate_entry entries) cs)))
            ≡ option_map (node_number files) (option_map (λ (c : Candidate). c.target) (cond t (Some c) (find (λ c. names_lost_found root (candidate_entry entries c) && is_directory_at_place files c.target) cs)))
        either true e f = f
        either false e f = e

    pub lost_low : (root : ℕ) (cs : List Candidate) → Placed cs → IfSome (lost_at files entries root cs) (λ q. q < length files)
    lost_low root [] h = tt
    lost_low root (c ∷ cs) h = either (names_lost_found root (candidate_entry entries c) && is_directory_at_place files c.target) (lost_low root cs (placed_tail c cs h)) (placed_head c cs h).target
      where
        either : (t : Bool) → IfSome (lost_at files entries root cs) (λ q. q < length files) → c.target < length files
            → IfSome (option_map (λ (c : Candidate). c.target) (cond t (Some c) (find (λ c. names_lost_found root (candidate_entry entries c) && is_directory_at_place files c.target) cs))) (λ q. q < length files)
        either true e f = f
        either false e f = e

    taken_is : (cs : List Candidate) (lost : Option ℕ) (q : List ℕ) → Placed cs → IfSome lost (λ q. q < length files) → is_taken_name (map (candidate_entry entries) cs) (option_map (node_number files) lost) q ≡ taken_at entries cs lost q
    taken_is [] lost q h l = refl
    taken_is (c ∷ cs) lost q h l = ap (λ r. (r && bytes_eq (candidate_entry entries c).name q) || is_taken_name (map (candidate_entry entries) cs) (option_map (node_number files) lost) q)
        (ap (λ n. is_parent n (option_map (node_number files) lost)) (sym (placed_head c cs h).of) ∙ is_parent_is c.directory lost (placed_head c cs h).directory l)
        ∙ ap (λ r. (is_parent c.directory lost && bytes_eq (candidate_entry entries c).name q) || r) (taken_is cs lost q (placed_tail c cs h) l)

    free_same : (f g : List ℕ → Bool) → ((q : List ℕ) → f q ≡ g q) → f ≡ g
    free_same f g h = λ i q. h q i

    pub named_orphans_is : (root : ℕ) (cs : List Candidate) → Placed cs → named_orphans files root numbered (map (candidate_entry entries) cs)
        ≡ map (named_orphan_at files entries cs (lost_at files entries root cs)) (filter (orphan_at files root above cs) (range_with_len 0 (length files)))
    named_orphans_is root cs h =
        ap (map (λ n. (n, free_name (is_taken_name (map (candidate_entry entries) cs) (lost_of files root (map (candidate_entry entries) cs))) n (length (map (candidate_entry entries) cs)) 0))) (orphans_is root cs h)
        ∙ ap (λ k. map (λ n. (n, free_name (is_taken_name (map (candidate_entry entries) cs) (lost_of files root (map (candidate_entry entries) cs))) n k 0)) (map (node_number files) (filter (orphan_at files root above cs) (range_with_len 0 (length files))))) (length-map _ _)
        ∙ ap (λ t. map (λ n. (n, free_name t n (length cs) 0)) (map (node_number files) (filter (orphan_at files root above cs) (range_with_len 0 (length files)))))
        (free_same (is_taken_name (map (candidate_entry entries) cs) (lost_of files root (map (candidate_entry entries) cs))) (taken_at entries cs (lost_at files entries root cs))
        (λ q. ap (λ (o : Option ℕ). is_taken_name (map (candidate_entry entries) cs) o q) (lost_is root cs h) ∙ taken_is cs (lost_at files entries root cs) q h (lost_low root cs h)))
        ∙ map_through (filter (orphan_at files root above cs) (range_with_len 0 (length files)))
      where
        map_through : (ps : List ℕ) → map (λ n. (n, free_name (taken_at entries cs (lost_at files entries root cs)) n (length cs) 0)) (map (node_number files) ps) ≡ map (named_orphan_at files entries cs (lost_at files entries root cs)) ps
        map_through [] = refl
        map_through (p ∷ ps) = ap (λ (r : List (ℕ × List ℕ)). named_orphan_at files entries cs (lost_at files entries root cs) p ∷ r) (map_through ps)
