-- The due files are those of the kept inodes, one by one.
use Rattle.std.proofs.Common.{◌≡◌, ℕ, Bool, true, false, not, cond, ◌+◌, ◌≤◌, ◌<◌, ◌⊎◌, inl, inr, ◌==◌, nat_lt, if◌then◌else◌, List, [], ◌∷◌, ◌++◌, map, filter, Ok, refl, sym, ap, ◌∙◌, subst, arith}
use Rattle.std.specs.List.{AllByRecursion, flat_map}
use Rattle.std.proofs.lemmas.Bool.{both_ways, cases_lt, eq-eqb, eqb-true, le-ltb, lt-ltb}
use Rattle.xfs_disk.specs.Blocks.{Image}
use Rattle.xfs_disk.specs.Lists.{is_among}
use Rattle.xfs_disk.specs.declared.stamp.Stamp.{Stamp}
use Rattle.xfs_geom.specs.Volumes.{Volume, volume_of}
use Rattle.xfs_geom.specs.declared.geometry.Geometry.{Geometry}
use Rattle.xfs_claims.specs.Ranks.{placed_by_number}
use Rattle.xfs_claims.proofs.Ordered.{Ascend, same_list}
use Rattle.xfs_image.specs.Candidates.{candidates}
use Rattle.xfs_image.specs.Claims.{candidate_files}
use Rattle.xfs_image.specs.Files.{files_at, files_read, inodes_of, with_file_read}
use Rattle.xfs_image.specs.Slots.{reads_as}
use Rattle.xfs_inode.specs.declared.files.FileRead.{FileRead}
use Rattle.xfs_inode.specs.declared.files.FileRead.TheVariants as Reads
use Rattle.xfs_naming.specs.Naming.{NumbersAscend, is_in_use, numbers_of}
use Rattle.xfs_volume.specs.declared.files.FileRec.{FileRec}
use Rattle.xfs_volume.specs.declared.groups.GroupRec.{GroupRec}
use Rattle.xfs_rename.proofs.xfs_made.Candidates.{image_can}
use Rattle.xfs_rename.proofs.xfs_made.Inodes.{first_in}
use Rattle.xfs_views.proofs.Members.{Member, all_members, any_member, filter_member, flat_member, map_member, member_all, member_any, member_either, member_flat, member_map}
use Rattle.xfs_salvage.specs.Kept.{kept_files, own_inodes}
use Rattle.xfs_salvage.specs.declared.found.Salvaged.{Salvaged}
use Rattle.xfs_rename.specs.xfs_request.declared.seen.SlotSeen.{SlotSeen}
use Rattle.xfs_rename.proofs.xfs_made.Spaced.{AreSpaced, inodes_up, kept_spaced}
use Rattle.xfs_restored.specs.DueFiles.{due_file, fresh_file, kept_inodes, rebuilt_files, stated_crc, with_new}
use Rattle.xfs_restored.specs.Kept.{HasKept}
use Rattle.xfs_restored.proofs.InKept.{file_inode}
use Rattle.xfs_restored.proofs.RereadSlots.{files_ascend, kept_file_reads}
use Rattle.xfs_restored.proofs.Others.{free_slot_reads, fresh_inode, fresh_reads, fresh_unused, none_found}
use Rattle.xfs_restored.proofs.Wanted.{one_alone}

abbrev number : FileRec → ℕ
number f = f.ino

strict : (a b : ℕ) → a ≤ b → (a ≡ b → ⊥) → a < b
strict a b le ne = elim (cases_lt a b) [ inl less ↦ less | inr more ↦ absurd (ne (omega (arith, le, more))) ]

-- a number among some that ascend
pub number_least : (low n : ℕ) (ns : List ℕ) → NumbersAscend low ns → Member n ns → low ≤ n
number_least low n [] up is = absurd is
number_least low n (m ∷ ns) up is =
    let first = up.0 in
    elim is [ inl same ↦ omega (arith, first, same) | inr there ↦ let rest = number_least (m + 1) n ns up.1 there in omega (arith, first, rest) ]

lower : (low high : ℕ) (ns : List ℕ) → low ≤ high → NumbersAscend high ns → NumbersAscend low ns
lower low high [] le up = tt
lower low high (n ∷ ns) le up = (let first = up.0 in omega (arith, le, first), up.1)

pub some_up : (test : ℕ → Bool) (low : ℕ) (ns : List ℕ) → NumbersAscend low ns → NumbersAscend low (filter test ns)
some_up test low [] up = tt
some_up test low (n ∷ ns) up = by_case (test n) (some_up test (n + 1) ns up.1)
  where
    by_case : (t : Bool) → NumbersAscend (n + 1) (filter test ns) → NumbersAscend low (cond t (n ∷ filter test ns) (filter test ns))
    by_case true rest = (up.0, rest)
    by_case false rest = let first = up.0 in lower low (n + 1) (filter test ns) (omega (arith, first)) rest

each_more : (n : ℕ) (xs : List FileRec) → AllByRecursion (λ (x : FileRec). n + 1 ≤ x.ino) xs → AllByRecursion (λ (x : FileRec). n < x.ino) xs
each_more n [] all = tt
each_more n (x ∷ xs) all = (let least = all.0 in omega (arith, least), each_more n xs all.1)

each_least : (low n : ℕ) (xs : List FileRec) → low ≤ n → AllByRecursion (λ (x : FileRec). n < x.ino) xs → AllByRecursion (λ (x : FileRec). low ≤ x.ino) xs
each_least low n [] le all = tt
each_least low n (x ∷ xs) le all = (let more = all.0 in omega (arith, le, more), each_least low n xs le all.1)

-- a file among files by number
place_has : (f x : FileRec) (fs : List FileRec) → (x ≡ f) ⊎ Member f fs → Member f (placed_by_number number x fs)
place_has f x [] is = is
place_has f x (y ∷ fs) is = by_case (nat_lt y.ino x.ino) (place_has f x fs)
  where
    by_case : (t : Bool) → ((x ≡ f) ⊎ Member f fs → Member f (placed_by_number number x fs))
        → Member f (cond t (y ∷ placed_by_number number x fs) (x ∷ y ∷ fs))
    by_case true rest = elim is [
      | inl new ↦ inr (rest (inl new))
      | inr old ↦ elim old [ inl same ↦ inl same | inr there ↦ inr (rest (inr there)) ]
    ]
    by_case false rest = is

has_place : (f x : FileRec) (fs : List FileRec) → Member f (placed_by_number number x fs) → (x ≡ f) ⊎ Member f fs
has_place f x [] is = is
has_place f x (y ∷ fs) is = by_case (nat_lt y.ino x.ino) (has_place f x fs) is
  where
    by_case : (t : Bool) → (Member f (placed_by_number number x fs) → (x ≡ f) ⊎ Member f fs)
        → Member f (cond t (y ∷ placed_by_number number x fs) (x ∷ y ∷ fs)) → (x ≡ f) ⊎ Member f (y ∷ fs)
    by_case true rest at = elim at [
      | inl same ↦ inr (inl same)
      | inr there ↦ elim (rest there) [ inl new ↦ inl new | inr old ↦ inr (inr old) ]
    ]
    by_case false rest at = at

new_has : (f : FileRec) (new fs : List FileRec) → Member f new ⊎ Member f fs → Member f (with_new new fs)
new_has f [] fs is = elim is [ inl none ↦ absurd none | inr old ↦ old ]
new_has f (x ∷ new) fs is = new_has f new (placed_by_number number x fs) (elim is [
  | inl one ↦ elim one [ inl same ↦ inr (place_has f x fs (inl same)) | inr there ↦ inl there ]
  | inr old ↦ inr (place_has f x fs (inr old))
])

has_new : (f : FileRec) (new fs : List FileRec) → Member f (with_new new fs) → Member f new ⊎ Member f fs
has_new f [] fs is = inr is
has_new f (x ∷ new) fs is = elim (has_new f new (placed_by_number number x fs) is) [
  | inl there ↦ inl (inr there)
  | inr one ↦ elim (has_place f x fs one) [ inl same ↦ inl (inl same) | inr old ↦ inr old ]
]

-- they ascend
weaker : (a b : ℕ) (fs : List FileRec) → a ≤ b → AllByRecursion (λ f. b < number f) fs → AllByRecursion (λ f. a < number f) fs
weaker a b [] le all = tt
weaker a b (f ∷ fs) le all = (let first = all.0 in omega (arith, le, first), weaker a b fs le all.1)

placed_above : (n : ℕ) (x : FileRec) (fs : List FileRec) → n < number x → AllByRecursion (λ f. n < number f) fs → AllByRecursion (λ f. n < number f) (placed_by_number number x fs)
placed_above n x fs less all =
    all_members (λ f. n < number f) (placed_by_number number x fs) (λ f is. elim (has_place f x fs is) [
      | inl same ↦ subst (λ (y : FileRec). n < number y) same less
      | inr old ↦ member_all (λ y. n < number y) f fs all old
    ])

placed_up : (x : FileRec) (fs : List FileRec) → ((f : FileRec) → Member f fs → number f ≡ number x → ⊥) → Ascend number fs → Ascend number (placed_by_number number x fs)
placed_up x [] other up = (tt, tt)
placed_up x (y ∷ fs) other up =
    elim (cases_lt y.ino x.ino) [
      | inl less ↦
          subst (Ascend number) (ap (λ (t : Bool). cond t (y ∷ placed_by_number number x fs) (x ∷ y ∷ fs)) (sym (lt-ltb y.ino x.ino less)))
          (placed_above y.ino x fs less up.0, placed_up x fs (λ f is. other f (inr is)) up.1)
      | inr upto ↦
          let apart = other y (inl refl) in
          let less : x.ino < y.ino = strict x.ino y.ino upto (λ same. apart (sym same)) in
          subst (Ascend number) (ap (λ (t : Bool). cond t (y ∷ placed_by_number number x fs) (x ∷ y ∷ fs)) (sym (le-ltb y.ino x.ino upto)))
          ((less, weaker x.ino y.ino fs (omega (arith, less)) up.0), up)
    ]

-- those that are added are of other numbers than those that stand, and than each other
abbrev pub AreOther : List FileRec → List FileRec → Type 0
AreOther [] fs = Unit {0}
AreOther (x ∷ new) fs = ((f : FileRec) → Member f fs → number f ≡ number x → ⊥) × ((f : FileRec) → Member f new → number f ≡ number x → ⊥) × AreOther new fs

others_stay : (x : FileRec) (new fs : List FileRec) → ((f : FileRec) → Member f new → number f ≡ number x → ⊥) → AreOther new fs → AreOther new (placed_by_number number x fs)
others_stay x [] fs apart other = tt
others_stay x (y ∷ new) fs apart other = (
  λ f is same. elim (has_place f x fs is) [
    | inl own ↦ apart y (inl refl) (sym (ap number own ∙ same))
    | inr old ↦ other.0 f old same
  ],
  other.1,
  others_stay x new fs (λ f is. apart f (inr is)) other.2,
)

new_up : (new fs : List FileRec) → AreOther new fs → Ascend number fs → Ascend number (with_new new fs)
new_up [] fs other up = up
new_up (x ∷ new) fs other up = new_up new (placed_by_number number x fs) (others_stay x new fs other.1 other.2) (placed_up x fs other.0 up)

module _ (v : Volume) (s : Stamp) (kept : Salvaged) (seen : List SlotSeen) (crc : ℕ → ℕ) where
  -- the files of an inode: one that is kept, or one that is made anew, or none
  abbrev pub of_listed : ℕ → List FileRec → List FileRec
  of_listed ino [] = if is_among kept.fresh ino then fresh_file v s crc ino ∷ [] else []
  of_listed ino (f ∷ fs) = due_file v.rootino kept seen crc f ∷ []

  abbrev pub files_of : ℕ → List FileRec
  files_of ino = of_listed ino (filter (λ (f : FileRec). f.ino == ino) kept.files)

  files_of_kept : (f : FileRec) → NumbersAscend 0 (numbers_of kept.files) → Member f kept.files → files_of f.ino ≡ due_file v.rootino kept seen crc f ∷ []
  files_of_kept f up is = ap (of_listed f.ino) (one_alone 0 f kept.files up is)

  files_of_other : (ino : ℕ) → is_in_use kept.files ino ≡ false → files_of ino ≡ (if is_among kept.fresh ino then fresh_file v s crc ino ∷ [] else [])
  files_of_other ino none = ap (of_listed ino) (none_found ino kept.files none)

  -- each has the number of the inode
  listed_number : (ino : ℕ) (fs : List FileRec) → AllByRecursion (λ (f : FileRec). f.ino ≡ ino) fs → AllByRecursion (λ f. number f ≡ ino) (of_listed ino fs)
  listed_number ino [] all = by_case (is_among kept.fresh ino)
    where
      by_case : (t : Bool) → AllByRecursion (λ f. number f ≡ ino) (if t then fresh_file v s crc ino ∷ [] else [])
      by_case true = (refl, tt)
      by_case false = tt
  listed_number ino (f ∷ fs) all = (all.0, tt)

  own_number : (ino : ℕ) → AllByRecursion (λ f. number f ≡ ino) (files_of ino)
  own_number ino = listed_number ino (filter (λ (f : FileRec). f.ino == ino) kept.files)
      (all_members (λ (f : FileRec). f.ino ≡ ino) (filter (λ (f : FileRec). f.ino == ino) kept.files)
      (λ f is. eqb-true f.ino ino (filter_member (λ (x : FileRec). x.ino == ino) f kept.files is).1))

  one_at_most : (ino : ℕ) (fs : List FileRec) → Ascend number (of_listed ino fs)
  one_at_most ino [] = by_case (is_among kept.fresh ino)
    where
      by_case : (t : Bool) → Ascend number (if t then fresh_file v s crc ino ∷ [] else [])
      by_case true = (tt, tt)
      by_case false = tt
  one_at_most ino (f ∷ fs) = (tt, tt)

  -- inodes that ascend have files that do
  above_of : (low : ℕ) (inos : List ℕ) → NumbersAscend low inos → AllByRecursion (λ f. low ≤ number f) (flat_map files_of inos)
  above_of low inos up =
      all_members (λ f. low ≤ number f) (flat_map files_of inos) (λ f is.
      let of = flat_member files_of f inos is in
      let own : number f ≡ of.0 = member_all (λ x. number x ≡ of.0) f (files_of of.0) (own_number of.0) of.2 in
      let least = number_least low of.0 inos up of.1 in
      omega (arith, own, least))

  joined_up : (n : ℕ) (xs ys : List FileRec) → Ascend number xs → AllByRecursion (λ f. number f ≡ n) xs → Ascend number ys → AllByRecursion (λ f. n + 1 ≤ number f) ys → Ascend number (xs ++ ys)
  joined_up n [] ys up own more above = more
  joined_up n (x ∷ xs) ys up own more above = (
    all_members (λ f. number x < number f) (xs ++ ys) (λ f is.
        elim (member_either f xs ys is) [
          | inl here ↦ member_all (λ y. number x < number y) f xs up.0 here
          | inr there ↦ let first = own.0 in let high = member_all (λ y. n + 1 ≤ number y) f ys above there in omega (arith, first, high)
        ]),
    joined_up n xs ys up.1 own.1 more above,
  )

  flat_up : (low : ℕ) (inos : List ℕ) → NumbersAscend low inos → Ascend number (flat_map files_of inos)
  flat_up low [] up = tt
  flat_up low (ino ∷ inos) up =
      joined_up ino (files_of ino) (flat_map files_of inos) (one_at_most ino (filter (λ (f : FileRec). f.ino == ino) kept.files)) (own_number ino)
      (flat_up (ino + 1) inos up.1) (above_of (ino + 1) inos up.1)

-- the due files by number are those of the inodes
module _ (g : Geometry) (s : Stamp) (image now : Image) (kept : Salvaged) (seen : List SlotSeen) (has : HasKept g s image now kept seen) (crc : ℕ → ℕ) where
  abbrev old_files : List FileRec
  old_files = map (due_file g.rootino kept seen crc) kept.files

  abbrev new_files : List FileRec
  new_files = map (fresh_file (volume_of g) s crc) kept.fresh

  used : (f : FileRec) → Member f kept.files → is_in_use kept.files f.ino ≡ true
  used f is = member_any (λ (x : FileRec). x.ino == f.ino) f kept.files is (eq-eqb f.ino f.ino refl)

  to_flat : (f : FileRec) → Member f (rebuilt_files (volume_of g) s kept seen crc) → Member f (flat_map (files_of (volume_of g) s kept seen crc) (kept_inodes (volume_of g) kept))
  unfolding rebuilt_files
  to_flat f is =
      let v : Volume = volume_of g in
      elim (has_new f new_files old_files is) [
        | inl new ↦
            let from = map_member (fresh_file v s crc) f kept.fresh new in
            let anew : is_among kept.fresh from.0 ≡ true = member_any (λ m. m == from.0) from.0 kept.fresh from.1 (eq-eqb from.0 from.0 refl) in
            let listed : files_of v s kept seen crc from.0 ≡ fresh_file v s crc from.0 ∷ [] =
            files_of_other v s kept seen crc from.0 (fresh_unused g s image now kept seen has from.0 from.1) ∙ ap (λ (t : Bool). if t then fresh_file v s crc from.0 ∷ [] else []) anew in
            member_flat (files_of v s kept seen crc) from.0 f (kept_inodes v kept) (fresh_inode g s image now kept seen has from.0 from.1)
            (subst (λ (fs : List FileRec). Member f fs) (sym listed) (inl from.2))
        | inr old ↦
            let from = map_member (due_file g.rootino kept seen crc) f kept.files old in
            let listed = files_of_kept v s kept seen crc from.0 (files_ascend g s image now kept seen has) from.1 in
            member_flat (files_of v s kept seen crc) from.0.ino f (kept_inodes v kept) (file_inode g image kept has.of from.0 from.1)
            (subst (λ (fs : List FileRec). Member f fs) (sym listed) (inl from.2))
      ]

  of_flat : (f : FileRec) → Member f (flat_map (files_of (volume_of g) s kept seen crc) (kept_inodes (volume_of g) kept)) → Member f (rebuilt_files (volume_of g) s kept seen crc)
  unfolding rebuilt_files
  of_flat f is =
      let v : Volume = volume_of g in
      let from = flat_member (files_of v s kept seen crc) f (kept_inodes v kept) is in
      by_files from.0 (filter (λ (x : FileRec). x.ino == from.0) kept.files) (λ x among. (filter_member (λ (y : FileRec). y.ino == from.0) x kept.files among).0) from.2
    where
      by_fresh : (ino : ℕ) (t : Bool) → is_among kept.fresh ino ≡ t → Member f (if t then fresh_file (volume_of g) s crc ino ∷ [] else []) → Member f (with_new new_files old_files)
      by_fresh ino true anew at =
          let one = any_member (λ m. m == ino) kept.fresh anew in
          let among : Member ino kept.fresh = subst (λ (n : ℕ). Member n kept.fresh) (eqb-true one.0 ino one.2) one.1 in
          elim at [
            | inl same ↦ new_has f new_files old_files (inl (subst (λ (x : FileRec). Member x new_files) same (member_map (fresh_file (volume_of g) s crc) ino kept.fresh among)))
            | inr none ↦ absurd none
          ]
      by_fresh ino false anew at = absurd at

      by_files : (ino : ℕ) (fs : List FileRec) → ((x : FileRec) → Member x fs → Member x kept.files) → Member f (of_listed (volume_of g) s kept seen crc ino fs) → Member f (with_new new_files old_files)
      by_files ino [] each at = by_fresh ino (is_among kept.fresh ino) refl at
      by_files ino (x ∷ fs) each at =
          elim at [
            | inl same ↦ new_has f new_files old_files (inr (subst (λ (y : FileRec). Member y old_files) same (member_map (due_file g.rootino kept seen crc) x kept.files (each x (inl refl)))))
            | inr none ↦ absurd none
          ]

  -- both ascend
  pub inodes_ascend : NumbersAscend (first_in g 0) (kept_inodes (volume_of g) kept)
  unfolding kept_inodes
  inodes_ascend =
      let v : Volume = volume_of g in
      let spaced : AreSpaced 0 kept.clusters = subst (AreSpaced 0) (sym has.of.clusters') (kept_spaced v (candidates v image) (candidate_files v image) (image_can g image)) in
      inodes_up g 0 kept.clusters spaced

  old_up : (low : ℕ) (fs : List FileRec) → NumbersAscend low (numbers_of fs) → Ascend number (map (due_file g.rootino kept seen crc) fs) × AllByRecursion (λ f. low ≤ number f) (map (due_file g.rootino kept seen crc) fs)
  old_up low [] up = (tt, tt)
  old_up low (f ∷ fs) up =
      let rest = old_up (f.ino + 1) fs up.1 in
      let first = up.0 in
      let above : AllByRecursion (λ x. f.ino < number x) (map (due_file g.rootino kept seen crc) fs) = each_more f.ino (map (due_file g.rootino kept seen crc) fs) rest.1 in
      ((above, rest.0), (first, each_least low f.ino (map (due_file g.rootino kept seen crc) fs) first above))

  -- the fresh ones differ
  fresh_differ : (ns : List ℕ) → ((n : ℕ) → Member n ns → Member n kept.fresh) → (low : ℕ) → NumbersAscend low ns → AreOther (map (fresh_file (volume_of g) s crc) ns) old_files
  fresh_differ [] each low up = tt
  fresh_differ (n ∷ ns) each low up = (
    λ f is same.
        let from = map_member (due_file g.rootino kept seen crc) f kept.files is in
        let number_is : from.0.ino ≡ n = ap number from.2 ∙ same in
        let unused = fresh_unused g s image now kept seen has n (each n (inl refl)) in
        both_ways (is_in_use kept.files n) unused (subst (λ (k : ℕ). is_in_use kept.files k ≡ true) number_is (used from.0 from.1)),
    λ f is same.
        let from = map_member (fresh_file (volume_of g) s crc) f ns is in
        let number_is : from.0 ≡ n = ap number from.2 ∙ same in
        let above = number_least (n + 1) from.0 ns up.1 from.1 in
        absurd (omega (arith, number_is, above)),
    fresh_differ ns (λ m is. each m (inr is)) (n + 1) up.1,
  )

  pub fresh_ascend : NumbersAscend g.rootino kept.fresh
  fresh_ascend =
      subst (NumbersAscend g.rootino) (sym (has.of.fresh'))
      (some_up (λ n. not (is_in_use (kept_files (volume_of g) (candidates (volume_of g) image) (candidate_files (volume_of g) image)) n)) g.rootino (own_inodes g.rootino)
      (omega arith, (omega arith, (omega arith, tt))))

  pub due_is : rebuilt_files (volume_of g) s kept seen crc ≡ flat_map (files_of (volume_of g) s kept seen crc) (kept_inodes (volume_of g) kept)
  unfolding rebuilt_files
  due_is =
      let v : Volume = volume_of g in
      let due : List FileRec = with_new new_files old_files in
      let flat : List FileRec = flat_map (files_of v s kept seen crc) (kept_inodes v kept) in
      same_list number due flat
      (new_up new_files old_files (fresh_differ kept.fresh (λ n is. is) g.rootino fresh_ascend) (old_up 0 kept.files (files_ascend g s image now kept seen has)).0)
      (flat_up v s kept seen crc (first_in g 0) (kept_inodes v kept) inodes_ascend)
      (λ P all. all_members P flat (λ f is. member_all P f due all (of_flat f is)))
      (λ P all. all_members P due (λ f is. member_all P f flat all (to_flat f is)))

-- what the slots of some inodes read as, one by one
module _ (g : Geometry) (s : Stamp) (image now : Image) (kept : Salvaged) (seen : List SlotSeen) (has : HasKept g s image now kept seen) where
  abbrev crc_now : ℕ → ℕ
  crc_now = stated_crc (volume_of g) now

  -- a slot reads as one of no file, or of the one
  slot_step : (ino : ℕ) (rest : List FileRec) → Member ino (kept_inodes (volume_of g) kept)
      → with_file_read ino (reads_as (volume_of g) now ino) (Ok rest) ≡ Ok (files_of (volume_of g) s kept seen crc_now ino ++ rest)
  slot_step ino rest is = by_use (is_in_use kept.files ino) refl
    where
      found : (read : FileRead) (f : FileRec) → reads_as (volume_of g) now ino ≡ Reads.File f → files_of (volume_of g) s kept seen crc_now ino ≡ f ∷ []
          → with_file_read ino (reads_as (volume_of g) now ino) (Ok rest) ≡ Ok (files_of (volume_of g) s kept seen crc_now ino ++ rest)
      found read f reads are = ap (λ (r : FileRead). with_file_read ino r (Ok rest)) reads ∙ ap (λ (fs : List FileRec). Ok (fs ++ rest)) (sym are)

      by_fresh : is_in_use kept.files ino ≡ false → (t : Bool) → is_among kept.fresh ino ≡ t
          → with_file_read ino (reads_as (volume_of g) now ino) (Ok rest) ≡ Ok (files_of (volume_of g) s kept seen crc_now ino ++ rest)
      by_fresh none true anew =
          let v : Volume = volume_of g in
          let one = any_member (λ m. m == ino) kept.fresh anew in
          let among : Member ino kept.fresh = subst (λ (n : ℕ). Member n kept.fresh) (eqb-true one.0 ino one.2) one.1 in
          found Reads.Free (fresh_file v s crc_now ino) (fresh_reads g s image now kept seen has ino among)
          (files_of_other v s kept seen crc_now ino none ∙ ap (λ (t : Bool). if t then fresh_file v s crc_now ino ∷ [] else []) anew)
      by_fresh none false old =
          let v : Volume = volume_of g in
          let are : files_of v s kept seen crc_now ino ≡ [] = files_of_other v s kept seen crc_now ino none ∙ ap (λ (t : Bool). if t then fresh_file v s crc_now ino ∷ [] else []) old in
          ap (λ (r : FileRead). with_file_read ino r (Ok rest)) (free_slot_reads g s image now kept seen has ino is none old) ∙ ap (λ (fs : List FileRec). Ok (fs ++ rest)) (sym are)

      by_use : (t : Bool) → is_in_use kept.files ino ≡ t → with_file_read ino (reads_as (volume_of g) now ino) (Ok rest) ≡ Ok (files_of (volume_of g) s kept seen crc_now ino ++ rest)
      by_use true some =
          let v : Volume = volume_of g in
          let one = any_member (λ (f : FileRec). f.ino == ino) kept.files some in
          let f : FileRec = one.0 in
          let same : f.ino ≡ ino = eqb-true f.ino ino one.2 in
          found Reads.Free (due_file g.rootino kept seen crc_now f) (ap (reads_as v now) (sym same) ∙ kept_file_reads g s image now kept seen has f one.1)
          (ap (files_of v s kept seen crc_now) (sym same) ∙ files_of_kept v s kept seen crc_now f (files_ascend g s image now kept seen has) one.1)
      by_use false none = by_fresh none (is_among kept.fresh ino) refl

  slots_read : (inos : List ℕ) → ((ino : ℕ) → Member ino inos → Member ino (kept_inodes (volume_of g) kept))
      → files_at (volume_of g) now inos ≡ Ok (flat_map (files_of (volume_of g) s kept seen crc_now) inos)
  slots_read [] each = refl
  slots_read (ino ∷ inos) each =
      ap (with_file_read ino (reads_as (volume_of g) now ino)) (slots_read inos (λ n is. each n (inr is)))
      ∙ slot_step ino (flat_map (files_of (volume_of g) s kept seen crc_now) inos) (each ino (inl refl))

  pub files_are : (groups : List GroupRec) → inodes_of (volume_of g) groups ≡ kept_inodes (volume_of g) kept
      → files_read (volume_of g) now groups ≡ Ok (rebuilt_files (volume_of g) s kept seen crc_now)
  unfolding files_read
  files_are groups inodes =
      ap (files_at (volume_of g) now) inodes
      ∙ slots_read (kept_inodes (volume_of g) kept) (λ ino is. is)
      ∙ ap (λ (fs : List FileRec). Ok fs) (sym (due_is g s image now kept seen has crc_now))
