-- A directory that is reached is so by no more steps than there are directories.
use Rattle.std.proofs.Common.{◌≡◌, ℕ, zero, suc, ◌+◌, ◌<◌, ◌≤◌, ◌⊎◌, inl, inr, Bool, true, false, cond, ◌&&◌, ◌==◌, List, [], ◌∷◌, length, filter, get_or, refl, sym, ap, ◌∙◌, arith}
use Rattle.std.proofs.lemmas.Bool.{and_from, eq-eqb, eqb-true, false≢true, or_cases, or_left, or_right, true≢false}
use Rattle.std.proofs.lemmas.List.Folds.{list_any_at}
use Rattle.xfs_dirdata.specs.declared.records.EntryRec.{EntryRec}
use Rattle.xfs_volume.specs.declared.directories.DirRec.{DirRec}
use Rattle.xfs_volume.specs.declared.files.FileRec.{FileRec}
use Rattle.xfs_naming.specs.Lawful.{IsReached}
use Rattle.xfs_naming.specs.Lawful.IsReached.{at_root, by_entry}
use Rattle.xfs_naming.specs.Naming.{AreNamed, is_directory_at, is_reached, reached_in}
use Rattle.xfs_naming.proofs.Grouped.{grouped_dir, has_record, has_record_is}
use Rattle.xfs_naming.proofs.Reaching.{leads_from, leads_on}

-- how many directories pass, of those that pass one test and those that pass a weaker one: more, or the same ones
abbrev passing : (ℕ → Bool) → List DirRec → ℕ
passing p ds = length (filter (λ (d : DirRec). p d.ino) ds)

abbrev with_first : (ℕ → Bool) → Bool → DirRec → List DirRec → List DirRec
with_first p t d ds = cond t (d ∷ filter (λ (x : DirRec). p x.ino) ds) (filter (λ (x : DirRec). p x.ino) ds)

abbrev Agree : (ℕ → Bool) → (ℕ → Bool) → List DirRec → Type 0
Agree p q ds = (x : ℕ) → has_record ds x ≡ true → q x ≡ true → p x ≡ true

passing_most : (p : ℕ → Bool) (ds : List DirRec) → passing p ds ≤ length ds
passing_most p [] = omega arith
passing_most p (d ∷ ds) = by_case (p d.ino) (passing_most p ds)
  where
    by_case : (t : Bool) → passing p ds ≤ length ds → length (cond t (d ∷ filter (λ (x : DirRec). p x.ino) ds) (filter (λ (x : DirRec). p x.ino) ds)) ≤ suc (length ds)
    by_case true rest = omega (arith, rest)
    by_case false rest = omega (arith, rest)

some_pass : (p : ℕ → Bool) (x : ℕ) (ds : List DirRec) → has_record ds x ≡ true → p x ≡ true → 1 ≤ passing p ds
some_pass p x [] has is = absurd (false≢true has)
some_pass p x (d ∷ ds) has is = by_case (p d.ino) refl (λ rest. some_pass p x ds rest is)
  where
    by_case : (t : Bool) → p d.ino ≡ t → (has_record ds x ≡ true → 1 ≤ passing p ds) → 1 ≤ length (cond t (d ∷ filter (λ (y : DirRec). p y.ino) ds) (filter (λ (y : DirRec). p y.ino) ds))
    by_case true here rest = omega arith
    by_case false off rest =
        elim (or_cases (d.ino == x) (has_record ds x) has) [
          | inl same ↦ absurd (true≢false (sym is ∙ sym (ap p (eqb-true d.ino x same)) ∙ off))
          | inr later ↦ rest later
        ]

more_pass : (p q : ℕ → Bool) → ((x : ℕ) → p x ≡ true → q x ≡ true) → (ds : List DirRec) → (passing p ds < passing q ds) ⊎ ((passing p ds ≤ passing q ds) × Agree p q ds)
more_pass p q weaker [] = inr (omega arith, (λ x has is. absurd (false≢true has)))
more_pass p q weaker (d ∷ ds) = by_case (p d.ino) refl (q d.ino) refl (more_pass p q weaker ds)
  where
    one : (Agree p q ds) → (q d.ino ≡ true → p d.ino ≡ true) → Agree p q (d ∷ ds)
    one rest first x has is =
        elim (or_cases (d.ino == x) (has_record ds x) has) [
          | inl same ↦ let e : d.ino ≡ x = eqb-true d.ino x same in sym (ap p e) ∙ first (ap q e ∙ is)
          | inr later ↦ rest x later is
        ]

    by_case : (s : Bool) → p d.ino ≡ s → (t : Bool) → q d.ino ≡ t → (passing p ds < passing q ds) ⊎ ((passing p ds ≤ passing q ds) × Agree p q ds)
        → (length (with_first p s d ds) < length (with_first q t d ds)) ⊎ ((length (with_first p s d ds) ≤ length (with_first q t d ds)) × Agree p q (d ∷ ds))
    by_case true a true b (inl less) = inl (omega (arith, less))
    by_case true a true b (inr (least, same)) = inr (omega (arith, least), one same (λ k. a))
    by_case true a false b rest = absurd (true≢false (sym (weaker d.ino a) ∙ b))
    by_case false a true b (inl less) = inl (omega (arith, less))
    by_case false a true b (inr (least, same)) = inl (omega (arith, least))
    by_case false a false b (inl less) = inl less
    by_case false a false b (inr (least, same)) = inr (least, one same (λ k. absurd (true≢false (sym k ∙ b))))

-- a way is one of some number of steps
way_steps : {entries : List EntryRec} {root x : ℕ} → IsReached entries root x → (n : ℕ) × (reached_in n entries root x ≡ true)
way_steps at_root = (0, eq-eqb _ _ refl)
way_steps {entries} {root} {x} (by_entry {dir = dir} way last) =
    let steps = way_steps way in (
      suc steps.0,
      or_right (x == root) _ (list_any_at (λ (e : EntryRec). e.ino == x && reached_in steps.0 entries root e.dir) entries last.0 last.1 last.2
          (and_from ((get_or entries last.0 last.1).ino == x) _
          (eq-eqb _ x (ap (λ (e : EntryRec). e.ino) last.3 ∙ last.4.1))
          (ap (λ (e : EntryRec). reached_in steps.0 entries root e.dir) last.3 ∙ ap (reached_in steps.0 entries root) last.4.0 ∙ steps.1))),
    )

module _ (root : ℕ) (files : List FileRec) (entries : List EntryRec) (dirs : List DirRec) (named : AreNamed files entries dirs) (dir : is_directory_at files root ≡ true) where
  -- of directories, one step more reaches no other
  abbrev Stable : ℕ → Type 0
  Stable n = Agree (reached_in n entries root) (reached_in (suc n) entries root) dirs

  from_root : (n x : ℕ) → (x == root) ≡ true → reached_in n entries root x ≡ true
  from_root zero x is = is
  from_root (suc n) x is = or_left (x == root) _ is

  more_steps : (n x : ℕ) → reached_in n entries root x ≡ true → reached_in (suc n) entries root x ≡ true
  more_steps zero x way = or_left (x == root) _ way
  more_steps (suc n) x way =
      elim (or_cases (x == root) _ way) [
        | inl here ↦ or_left (x == root) _ here
        | inr later ↦
            let from = leads_from entries x (reached_in n entries root) later in
            or_right (x == root) _ (leads_on entries from.0 x (reached_in (suc n) entries root) from.2 (more_steps n from.0 from.1))
      ]

  still_stable : (n : ℕ) → Stable n → Stable (suc n)
  still_stable n stable x has way =
      elim (or_cases (x == root) _ way) [
        | inl here ↦ or_left (x == root) _ here
        | inr later ↦
            let from = leads_from entries x (reached_in (suc n) entries root) later in
            or_right (x == root) _ (leads_on entries from.0 x (reached_in n entries root) from.2 (stable from.0 (grouped_dir dirs entries named.grouped from.0 from.3) from.1))
      ]

  root_listed : has_record dirs root ≡ true
  root_listed = has_record_is files entries dirs named root ∙ dir

  -- with each step one more is reached, or none ever after
  grow : (n : ℕ) → (n + 1 ≤ passing (reached_in n entries root) dirs) ⊎ Stable n
  grow zero = inl (some_pass (reached_in zero entries root) root dirs root_listed (eq-eqb root root refl))
  grow (suc n) =
      elim (grow n) [
        | inl many ↦ elim (more_pass (reached_in n entries root) (reached_in (suc n) entries root) (more_steps n) dirs) [
          | inl more ↦ inl (omega (arith, many, more))
          | inr same ↦ inr (still_stable n same.1)
        ]
        | inr stable ↦ inr (still_stable n stable)
      ]

  stable_in_the_end : Stable (length dirs)
  stable_in_the_end =
      elim (grow (length dirs)) [
        | inl many ↦ let most = passing_most (reached_in (length dirs) entries root) dirs in absurd (omega (arith, many, most))
        | inr stable ↦ stable
      ]

  all_steps : (n x : ℕ) → has_record dirs x ≡ true → reached_in n entries root x ≡ true → reached_in (length dirs) entries root x ≡ true
  all_steps zero x has way = from_root (length dirs) x way
  all_steps (suc n) x has way =
      elim (or_cases (x == root) _ way) [
        | inl here ↦ from_root (length dirs) x here
        | inr later ↦
            let from = leads_from entries x (reached_in n entries root) later in
            let before = all_steps n from.0 (grouped_dir dirs entries named.grouped from.0 from.3) from.1 in
            stable_in_the_end x has (or_right (x == root) _ (leads_on entries from.0 x (reached_in (length dirs) entries root) from.2 before))
      ]

  pub ways_short : (x : ℕ) → is_directory_at files x ≡ true → IsReached entries root x → is_reached dirs entries root x ≡ true
  ways_short x is way = let steps = way_steps way in all_steps steps.0 x (has_record_is files entries dirs named x ∙ is) steps.1
