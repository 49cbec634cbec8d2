-- The walk reaches what is reached, by no more steps than there are directories.
use Rattle.std.proofs.Common.{◌≡◌, ℕ, zero, suc, ◌+◌, ◌<◌, ◌≤◌, Bool, true, false, cond, not, ◌&&◌, ◌||◌, ◌==◌, List, [], ◌∷◌, ◌++◌, length, get_or, refl, sym, ap, Some, ◌∙◌, subst, arith, inl, inr}
use Rattle.std.specs.Bool.{nat_eq}
use Rattle.std.specs.Cmp.{nat_eq_equiv}
use Rattle.std.specs.List.{list_any, IsDistinct}
use Rattle.std.specs.Map.{lookup}
use Rattle.std.specs.Option.{is_some}
use Rattle.std.proofs.lemmas.List.Folds.{list_any-append, list_any_at}
use Rattle.std.proofs.lemmas.Map.Steps.{length-le_from_keys}
use Rattle.std.proofs.lemmas.Bool.{and_parts, and_from, or_cases, or_left, or_right, eqb-true, eq-eqb, true≢false, cases_Bool}
use Rattle.std.proofs.lemmas.Bool.Decides.{nat_tests}
use Rattle.xfs_dirdata.specs.declared.records.EntryRec.{EntryRec}
use Rattle.xfs_volume.specs.declared.directories.DirRec.{DirRec}
use Rattle.xfs_volume.specs.declared.files.FileRec.{FileRec}
use Rattle.xfs_naming.specs.Naming.{is_directory_at, reached_in, is_reached, AreNamed, entries_in}
use Rattle.xfs_naming.specs.Lawful.{IsReached}
use Rattle.xfs_naming.specs.Lawful.IsReached.{at_root, by_entry}
use Rattle.xfs_naming.specs.Private.Walking.{is_walked, leads, HasMarked, IsWalking}
use Rattle.xfs_naming.proofs.Grouped.{has_record, has_record_is, grouped_dir}

-- an entry that leads on from a number that passes
pub leads_on : (entries : List EntryRec) (x y : ℕ) (p : ℕ → Bool) → leads entries x y ≡ true → p x ≡ true → list_any (λ (e : EntryRec). e.ino == y && p e.dir) entries ≡ true
leads_on [] x y p led passes = led
leads_on (e ∷ es) x y p led passes = either (λ later. leads_on es x y p later passes) (e.dir == x) refl led
  where
    either : (leads es x y ≡ true → list_any (λ (e : EntryRec). e.ino == y && p e.dir) es ≡ true) → (t : Bool) → e.dir == x ≡ t → list_any (λ (e : EntryRec). e.ino == y) (cond t (e ∷ entries_in es x) (entries_in es x)) ≡ true
        → ((e.ino == y && p e.dir) || list_any (λ (e : EntryRec). e.ino == y && p e.dir) es) ≡ true
    either rest true same led = elim (or_cases (e.ino == y) (leads es x y) led) [
      | inl here ↦ or_left (e.ino == y && p e.dir) _ (and_from (e.ino == y) (p e.dir) here (ap p (eqb-true e.dir x same) ∙ passes))
      | inr later ↦ or_right (e.ino == y && p e.dir) _ (rest later)
    ]
    either rest false same led = or_right (e.ino == y && p e.dir) _ (rest led)

-- the entry that a way ends with
pub leads_from : (entries : List EntryRec) (y : ℕ) (p : ℕ → Bool) → list_any (λ (e : EntryRec). e.ino == y && p e.dir) entries ≡ true
    → (x : ℕ) × (p x ≡ true) × (leads entries x y ≡ true) × (list_any (λ (e : EntryRec). e.dir == x) entries ≡ true)
leads_from [] y p any = absurd (true≢false (sym any))
leads_from (e ∷ es) y p any = elim (or_cases (e.ino == y && p e.dir) (list_any (λ (e : EntryRec). e.ino == y && p e.dir) es) any) [
  | inl here ↦ (let parts = and_parts (e.ino == y) (p e.dir) here in
      (e.dir, parts.1, first parts.0, or_left (e.dir == e.dir) _ (eq-eqb e.dir e.dir refl)))
  | inr later ↦ (let found = leads_from es y p later in
      (found.0, found.1, behind found.0 found.2, or_right (e.dir == found.0) _ found.3))
]
  where
    first : e.ino == y ≡ true → leads (e ∷ es) e.dir y ≡ true
    first named = ap (λ (t : Bool). list_any (λ (e : EntryRec). e.ino == y) (cond t (e ∷ entries_in es e.dir) (entries_in es e.dir))) (eq-eqb e.dir e.dir refl) ∙ or_left (e.ino == y) _ named

    behind : (x : ℕ) → leads es x y ≡ true → leads (e ∷ es) x y ≡ true
    behind x led = either (e.dir == x)
      where
        either : (t : Bool) → list_any (λ (e : EntryRec). e.ino == y) (cond t (e ∷ entries_in es x) (entries_in es x)) ≡ true
        either true = or_right (e.ino == y) _ led
        either false = led

-- a record of a directory is found by its number
abbrev pub records_of : List DirRec → List (ℕ × ℕ)
records_of [] = []
records_of (d ∷ ds) = (d.ino, 0) ∷ records_of ds

many_records : (dirs : List DirRec) → length (records_of dirs) ≡ length dirs
many_records [] = refl
many_records (d ∷ ds) = ap suc (many_records ds)

found_record : (dirs : List DirRec) (q : ℕ) → has_record dirs q ≡ true → is_some (lookup (nat_eq q) (records_of dirs)) ≡ true
found_record [] q has = absurd (true≢false (sym has))
found_record (d ∷ ds) q has = either (found_record ds q) (q == d.ino) (sym (ap (λ (t : Bool). t || has_record ds q) (flip q d.ino)) ∙ has)
  where
    flip : (a b : ℕ) → b == a ≡ a == b
    flip a b = grind (arith, nat_tests)

    either : (has_record ds q ≡ true → is_some (lookup (nat_eq q) (records_of ds)) ≡ true) → (t : Bool) → (t || has_record ds q) ≡ true
        → is_some (cond t (Some 0) (lookup (nat_eq q) (records_of ds))) ≡ true
    either rest true has = refl
    either rest false has = rest has

-- no more are reached than there are directories, and the root
pub few_reached : (root : ℕ) (files : List FileRec) (entries : List EntryRec) (dirs : List DirRec) (seen : List ℕ) → AreNamed files entries dirs → IsDistinct nat_eq seen
    → ((x : ℕ) → is_walked seen x ≡ true → (x == root || is_directory_at files x) ≡ true) → length seen ≤ length dirs + 1
few_reached root files entries dirs seen named distinct inside =
    let many : length (records_of dirs) ≡ length dirs = many_records dirs in
    let less : length seen ≤ suc (length (records_of dirs)) = length-le_from_keys nat_eq_equiv seen ((root, 0) ∷ records_of dirs) distinct (λ q h. found q (q == root) (inside q h)) in
    omega arith
  where
    found : (q : ℕ) (t : Bool) → (t || is_directory_at files q) ≡ true → is_some (cond t (Some 0) (lookup (nat_eq q) (records_of dirs))) ≡ true
    found q true h = refl
    found q false h = found_record dirs q (has_record_is files entries dirs named q ∙ h)

-- the first that is reached is the only one
pub at_most_one : (keys : List ℕ) (n : ℕ) (added : Bool) → keys ≡ [] → n ≡ length keys + cond added 1 0 → n ≤ 1
at_most_one keys n added empty is = either added is
  where
    either : (t : Bool) → n ≡ length keys + cond t 1 0 → n ≤ 1
    either true is = let none : length keys ≡ 0 = ap length empty in omega arith
    either false is = let none : length keys ≡ 0 = ap length empty in omega arith

-- the start of the walk
pub walk_starts : (root : ℕ) (files : List FileRec) (entries : List EntryRec) (dirs : List DirRec) (none seen stack : List ℕ) → none ≡ []
    → ((q : ℕ) → is_walked seen q ≡ cond (root == q) true (is_walked none q)) → length seen ≤ 1 → IsDistinct nat_eq seen → stack ≡ root ∷ []
    → IsWalking root files entries dirs seen stack
walk_starts root files entries dirs none seen stack empty grows one distinct only = record {
  from_root = is root ∙ eq-eqb root root refl;
  inside = λ x h. or_left (x == root) _ (flip x ∙ sym (is x) ∙ h);
  waiting = λ x h. is x ∙ sym (flip x) ∙ kept (x == root) (sym (ap (λ (xs : List ℕ). is_walked xs x) only) ∙ h);
  unique = distinct;
  few = omega arith;
  sound = λ m x low h. at m x (flip x ∙ sym (is x) ∙ h);
  closed = λ x y h led dir. or_right (is_walked seen y) _ (ap (λ (xs : List ℕ). is_walked xs x) only ∙ or_left (x == root) false (flip x ∙ sym (is x) ∙ h));
}
  where
    is : (q : ℕ) → is_walked seen q ≡ root == q
    is q = grows q ∙ ap (λ (xs : List ℕ). cond (root == q) true (is_walked xs q)) empty ∙ either (root == q)
      where
        either : (t : Bool) → cond t true false ≡ t
        either true = refl
        either false = refl

    flip : (x : ℕ) → x == root ≡ root == x
    flip x = grind (arith, nat_tests)

    kept : (t : Bool) → (t || false) ≡ true → t ≡ true
    kept true h = refl
    kept false h = h

    at : (m x : ℕ) → x == root ≡ true → reached_in m entries root x ≡ true
    at zero x h = h
    at (suc m) x h = or_left (x == root) _ h

-- a step of the walk
pub walk_goes : (root : ℕ) (files : List FileRec) (entries : List EntryRec) (dirs : List DirRec) (seen more stack rest next : List ℕ) (dir : ℕ) → AreNamed files entries dirs
    → IsWalking root files entries dirs seen stack → stack ≡ rest ++ dir ∷ [] → HasMarked files (λ (x : ℕ). leads entries dir x) seen more rest next
    → IsWalking root files entries dirs more next
walk_goes root files entries dirs seen more stack rest next dir named before popped marked = record {
  from_root = kept root before.from_root;
  inside = all_inside;
  waiting = λ x h. elim (or_cases (is_walked rest x) _ (sym (marked.waiting x) ∙ h)) [
    | inl old ↦ kept x (before.waiting x (in_stack x old))
    | inr new ↦ marked.reached x ∙ or_right (is_walked seen x) _ (and_parts (is_directory_at files x && leads entries dir x) _ new).0
  ];
  unique = marked.unique before.unique;
  few = few_reached root files entries dirs more named (marked.unique before.unique) all_inside;
  sound = λ m x low h. elim (cases_Bool (is_walked seen x)) [
    | inl old ↦ before.sound m x (omega (arith, marked.longer)) old
    | inr fresh ↦ newly m x low h fresh
  ];
  closed = λ x y h led is_dir. elim (cases_Bool (is_walked seen x)) [
    | inl old ↦ (elim (or_cases (is_walked seen y) (is_walked stack x) (before.closed x y old led is_dir)) [
      | inl seen_y ↦ or_left (is_walked more y) _ (kept y seen_y)
      | inr waits ↦ (elim (or_cases (is_walked rest x) (x == dir || false) (sym (split x) ∙ waits)) [
        | inl stays ↦ or_right (is_walked more y) _ (marked.waiting x ∙ or_left (is_walked rest x) _ stays)
        | inr last ↦ or_left (is_walked more y) _ (marked.reached y ∙ or_right (is_walked seen y) _ (and_from _ _ is_dir (subst (λ (z : ℕ). leads entries z y ≡ true) (eqb-true x dir (only (x == dir) last)) led)))
      ])
    ])
    | inr fresh ↦ or_right (is_walked more y) _ (marked.waiting x ∙ or_right (is_walked rest x) _ (and_from _ _ (new_is x h fresh) (ap not fresh)))
  ];
}
  where
    kept : (x : ℕ) → is_walked seen x ≡ true → is_walked more x ≡ true
    kept x h = marked.reached x ∙ or_left (is_walked seen x) _ h

    split : (x : ℕ) → is_walked stack x ≡ (is_walked rest x || (x == dir || false))
    split x = ap (λ (xs : List ℕ). is_walked xs x) popped ∙ list_any-append (nat_eq x) rest (dir ∷ [])

    in_stack : (x : ℕ) → is_walked rest x ≡ true → is_walked stack x ≡ true
    in_stack x h = split x ∙ or_left (is_walked rest x) _ h

    only : (t : Bool) → (t || false) ≡ true → t ≡ true
    only true h = refl
    only false h = h

    all_inside : (x : ℕ) → is_walked more x ≡ true → (x == root || is_directory_at files x) ≡ true
    all_inside x h = elim (or_cases (is_walked seen x) _ (sym (marked.reached x) ∙ h)) [
      | inl old ↦ before.inside x old
      | inr new ↦ or_right (x == root) _ (and_parts (is_directory_at files x) _ new).0
    ]

    new_is : (x : ℕ) → is_walked more x ≡ true → is_walked seen x ≡ false → (is_directory_at files x && leads entries dir x) ≡ true
    new_is x h fresh = elim (or_cases (is_walked seen x) _ (sym (marked.reached x) ∙ h)) [
      | inl old ↦ absurd (true≢false (sym old ∙ fresh))
      | inr new ↦ new
    ]

    dir_seen : is_walked seen dir ≡ true
    dir_seen = before.waiting dir (split dir ∙ or_right (is_walked rest dir) _ (or_left (dir == dir) false (eq-eqb dir dir refl)))

    some : (xs : List ℕ) (x : ℕ) → is_walked xs x ≡ true → 1 ≤ length xs
    some [] x h = absurd (true≢false (sym h))
    some (y ∷ ys) x h = omega arith

    newly : (m x : ℕ) → length more ≤ m + 1 → is_walked more x ≡ true → is_walked seen x ≡ false → reached_in m entries root x ≡ true
    newly m x low h fresh = elim (marked.grown x h) [
      | inl old ↦ absurd (true≢false (sym old ∙ fresh))
      | inr less ↦ by_steps m low less
    ]
      where
        by_steps : (m : ℕ) → length more ≤ m + 1 → length seen < length more → reached_in m entries root x ≡ true
        by_steps zero low less = absurd (omega (arith, some seen dir dir_seen))
        by_steps (suc m) low less = or_right (x == root) _
            (leads_on entries dir x (reached_in m entries root) (and_parts (is_directory_at files x) _ (new_is x h fresh)).1 (before.sound m dir (omega arith) dir_seen))

-- what is reached by any number of steps is reached by the walk
pub walk_finds : (root : ℕ) (files : List FileRec) (entries : List EntryRec) (dirs : List DirRec) (seen : List ℕ) → AreNamed files entries dirs → IsWalking root files entries dirs seen []
    → (n x : ℕ) → is_directory_at files x ≡ true → reached_in n entries root x ≡ true → is_walked seen x ≡ true
walk_finds root files entries dirs seen named walked zero x dir way = subst (λ (y : ℕ). is_walked seen y ≡ true) (sym (eqb-true x root way)) walked.from_root
walk_finds root files entries dirs seen named walked (suc n) x dir way = elim (or_cases (x == root) _ way) [
  | inl here ↦ subst (λ (y : ℕ). is_walked seen y ≡ true) (sym (eqb-true x root here)) walked.from_root
  | inr later ↦ (let from = leads_from entries x (reached_in n entries root) later in
      let is_dir : is_directory_at files from.0 ≡ true = sym (has_record_is files entries dirs named from.0) ∙ grouped_dir dirs entries named.grouped from.0 from.3 in
      only (is_walked seen x) (walked.closed from.0 x (walk_finds root files entries dirs seen named walked n from.0 is_dir from.1) from.2 dir))
]
  where
    only : (t : Bool) → (t || false) ≡ true → t ≡ true
    only true h = refl
    only false h = h

-- the end of the walk
pub walk_ends : (root : ℕ) (files : List FileRec) (entries : List EntryRec) (dirs : List DirRec) (seen stack : List ℕ) → AreNamed files entries dirs → IsWalking root files entries dirs seen stack → stack ≡ []
    → (x : ℕ) → is_directory_at files x ≡ true → is_walked seen x ≡ is_reached dirs entries root x
walk_ends root files entries dirs seen stack named walked empty x dir = both (is_walked seen x) (is_reached dirs entries root x)
    (λ h. walked.sound (length dirs) x walked.few h)
    (λ h. walk_finds root files entries dirs seen named (subst (IsWalking root files entries dirs seen) empty walked) (length dirs) x dir h)
  where
    both : (a b : Bool) → (a ≡ true → b ≡ true) → (b ≡ true → a ≡ true) → a ≡ b
    both true true f g = refl
    both true false f g = sym (f refl)
    both false true f g = g refl
    both false false f g = refl

-- a way is one of some number of steps
way_steps : {entries : List EntryRec} {root x : ℕ} → IsReached entries root x → (n : ℕ) × (reached_in n entries root x ≡ true)
way_steps at_root = (0, eq-eqb _ _ refl)
way_steps {entries} {root} {x} (by_entry {dir = dir} way last) =
    let steps = way_steps way in (
      suc steps.0,
      or_right (x == root) _ (list_any_at (λ (e : EntryRec). e.ino == x && reached_in steps.0 entries root e.dir) entries last.0 last.1 last.2
          (and_from ((get_or entries last.0 last.1).ino == x) _
          (eq-eqb _ x (ap (λ (e : EntryRec). e.ino) last.3 ∙ last.4.1))
          (ap (λ (e : EntryRec). reached_in steps.0 entries root e.dir) last.3 ∙ ap (reached_in steps.0 entries root) last.4.0 ∙ steps.1))),
    )

-- a way to a directory is no longer than there are directories
pub way_short : (root : ℕ) (files : List FileRec) (entries : List EntryRec) (dirs : List DirRec) (seen stack : List ℕ) → AreNamed files entries dirs → IsWalking root files entries dirs seen stack → stack ≡ []
    → (x : ℕ) → is_directory_at files x ≡ true → IsReached entries root x → is_reached dirs entries root x ≡ true
way_short root files entries dirs seen stack named walked empty x dir way =
    let steps = way_steps way in
    sym (walk_ends root files entries dirs seen stack named walked empty x dir)
    ∙ walk_finds root files entries dirs seen named (subst (IsWalking root files entries dirs seen) empty walked) steps.0 x dir steps.1
