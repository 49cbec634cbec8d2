-- The chunks of a new volume are as its files make them due.
use Rattle.std.proofs.Common.{◌≡◌, ℕ, zero, suc, Bool, not, cond, ◌||◌, ◌&&◌, ◌+◌, ◌-◌, ◌*◌, ◌/◌, ◌%◌, ◌^◌, ◌==◌, ◌≤◌, ◌<◌, ◌⊎◌, inl, inr, nat_lt, List, [], ◌∷◌, ◌++◌, length, map, get_or, refl, sym, ap, ap₂, ◌∙◌, subst, arith}
use Rattle.std.specs.List.{All, filter, list_any, range_with_len}
use Rattle.std.specs.Int.Bits.{or_zero_r}
use Rattle.std.proofs.lemmas.Bool.{cases_lt, eqb-true, le-leb, le-ltb, lt-ltb, ne_eqb}
use Rattle.std.proofs.lemmas.List.Elements.{All-from_recursion}
use Rattle.std.proofs.lemmas.Nat.{div-add-mod', div-mul-add}
use Rattle.xfs_disk.specs.Blocks.{Image}
use Rattle.xfs_disk.specs.declared.stamp.Stamp.{Stamp}
use Rattle.xfs_geom.specs.Conversions.{address_of, inode_of}
use Rattle.xfs_geom.specs.Shape.{HasGroups}
use Rattle.xfs_geom.specs.Volumes.{Volume, volume_of}
use Rattle.xfs_geom.specs.declared.geometry.Geometry.{Geometry}
use Rattle.xfs_geom.specs.declared.records.InoRec.{InoRec}
use Rattle.xfs_geom.specs.declared.records.Run.{Run}
use Rattle.xfs_kinds.specs.InodeTrees.{four_each, ino_shape}
use Rattle.xfs_laws.specs.Counting.{bits_below, chunk_laws, chunk_number, count_below, due_chunk, inode_number, is_unused, is_used}
use Rattle.xfs_place.specs.Wanted.{inodes_in_group, kept_runs}
use Rattle.xfs_place.specs.declared.placed.Placed.{Placed}
use Rattle.xfs_proto.specs.declared.protofile.ProtoNode.{ProtoNode}
use Rattle.xfs_views.proofs.Members.{all_members, filter_member, map_member, row_member}
use Rattle.xfs_render.specs.declared.plan.Plan.{Plan}
use Rattle.xfs_made.proofs.Chunks.{chunks_kept}
use Rattle.xfs_empty.proofs.Places.{chunk_inode}
use Rattle.xfs_volume.specs.Laws.{AreKept}
use Rattle.xfs_volume.specs.declared.files.FileRec.{FileRec}
use Rattle.xfs_filled.specs.Chunks.{inodes_filled, chunk_record, chunk_starts, chunks_of_group, used_in_chunk}
use Rattle.xfs_filled.specs.Numbers.{index_of_place, inode_at, number_of}
use Rattle.xfs_filled.specs.Sites.{AreChunksPlaced}
use Rattle.xfs_filled.specs.Wanting.{filled_wanted}
use Rattle.xfs_filled.proofs.Ascending.{inode_at_up}
use Rattle.xfs_filled.proofs.Asked.{group_few}
use Rattle.xfs_filled.proofs.Ordered.{rise_in}
use Rattle.xfs_filled.proofs.Starting.{AreChunks, are_chunks}
use Rattle.xfs_populated.specs.Populated.{IsPopulated, filled_file, filled_files, filled_groups}
use Rattle.xfs_populated.proofs.ChunkMarks.{among_row, bits_from, bits_same, count_from, count_same, is_from, none_missing}
use Rattle.xfs_populated.proofs.ChunkRuns.{records_are}
use Rattle.xfs_populated.proofs.SlotsRead.{populated_at, starts_first}

-- a number in use is the number of a file
used_numbers : (ino : ℕ) (fs : List FileRec) → is_used fs ino ≡ list_any (λ (n : ℕ). n == ino) (map (λ (f : FileRec). f.ino) fs)
used_numbers ino [] = refl
used_numbers ino (f ∷ fs) = ap (λ (t : Bool). (f.ino == ino) || t) (used_numbers ino fs)

module _ (v : Volume) (s : Stamp) (starts : List ℕ) (ns : List ProtoNode) (contents : List (List ℕ)) (runs : List Run) (crc : ℕ → ℕ)
    (groups : HasGroups v.dblocks v.agblocks v.agcount) (first : get_or starts 0 0 ≡ 16) (some : 1 ≤ length ns) where
  abbrev due : ℕ → FileRec
  due = filled_file v s starts ns contents runs crc

  abbrev number : FileRec → ℕ
  number f = f.ino

  system_number : (j k : ℕ) → j ≡ k → k < 8 → (k ≡ 1) ⊎ (k ≡ 2) → inode_at v starts j ≡ 128 + k
  system_number j k is few (inl one) =
      ap (inode_at v starts) (is ∙ one) ∙ (ap (λ (b : ℕ). inode_of v (b + 0) 1) first ∙ (chunk_inode v 0 1 groups (omega arith) ∙ ap (λ (n : ℕ). 128 + n) (sym one)))
  system_number j k is few (inr two) =
      ap (inode_at v starts) (is ∙ two) ∙ (ap (λ (b : ℕ). inode_of v (b + 0) 2) first ∙ (chunk_inode v 0 2 groups (omega arith) ∙ ap (λ (n : ℕ). 128 + n) (sym two)))

  later_numbers : (k a n : ℕ) → 1 ≤ k → a ≡ k + 2 → map number (map due (range_with_len k n)) ≡ map (inode_at v starts) (range_with_len a n)
  later_numbers k a zero low at = refl
  later_numbers k a (suc n) low at =
      let index : index_of_place k ≡ k + 2 = ap (λ (t : Bool). cond t 0 (k + 2)) (ne_eqb k 0 (λ none. absurd (omega (arith, none, low)))) in
      let same : index_of_place k ≡ a = omega (arith, at, index) in
      ap₂ (λ (x : ℕ) (xs : List ℕ). x ∷ xs) (ap (inode_at v starts) same) (later_numbers (k + 1) (a + 1) n (omega arith) (omega (arith, at)))

  file_numbers : map number (filled_files v s starts ns contents runs crc) ≡ map (inode_at v starts) (range_with_len 0 (length ns + 2))
  unfolding filled_files
  file_numbers =
      let count : suc (suc (suc (length ns - 1))) ≡ length ns + 2 = omega (arith, some) in
      let one : 129 ≡ inode_at v starts 1 = sym (system_number 1 1 refl (omega arith) (inl refl)) in
      let two : 130 ≡ inode_at v starts 2 = sym (system_number 2 2 refl (omega arith) (inr refl)) in
      ap₂ (λ (x : ℕ) (xs : List ℕ). number_of v starts 0 ∷ x ∷ xs) one (ap₂ (λ (x : ℕ) (xs : List ℕ). x ∷ xs) two (later_numbers 1 3 (length ns - 1) (omega arith) refl))
      ∙ ap (λ (n : ℕ). map (inode_at v starts) (range_with_len 0 n)) count

  used_at : (top j : ℕ) → ((i k : ℕ) → i < k → k < top → inode_at v starts i < inode_at v starts k) → j < top → length ns + 2 ≤ top
      → is_used (filled_files v s starts ns contents runs crc) (inode_at v starts j) ≡ nat_lt j (length ns + 2)
  used_at top j up low enough =
      let plain : 0 + (length ns + 2) ≡ length ns + 2 = omega arith in
      used_numbers (inode_at v starts j) (filled_files v s starts ns contents runs crc)
      ∙ ap (list_any (λ (n : ℕ). n == inode_at v starts j)) file_numbers
      ∙ among_row (inode_at v starts) top j up low 0 (length ns + 2) (omega (arith, enough))
      ∙ ap₂ (λ (t : Bool) (n : ℕ). t && nat_lt j n) (le-leb 0 j (omega arith)) plain

-- the number of an inode of a chunk in its group
module _ (g : Geometry) (starts : List ℕ) (chunks : AreChunks (volume_of g) starts) (c ag i : ℕ) (low : c < length starts) (group : get_or starts c 0 / g.agblocks ≡ ag) (few : i < 64) where
  abbrev v : Volume
  v = volume_of g

  abbrev start : ℕ
  start = get_or starts c 0

  number_in_group : inode_number (volume_of g) ag (get_or starts c 0 % g.agblocks * 8 + i) ≡ inode_at (volume_of g) starts (64 * c + i)
  unfolding inode_of address_of
  number_in_group =
      let chunk = chunks.each c 0 low in
      let large = g.shape.groups.large in
      let fits = group_few (volume_of g) chunk.group g.shape.groups in
      let ends = chunk.ends in
      let at = chunk.at in
      let own : start / g.agblocks ≡ chunk.group =
      ap (λ (b : ℕ). b / g.agblocks) at ∙ div-mul-add chunk.group g.agblocks (chunk.number * 8) (omega (arith, fits, ends)) in
      let block : start + i / 8 ≡ chunk.group * g.agblocks + (chunk.number * 8 + i / 8) = omega (arith, at) in
      let there : (start + i / 8) / g.agblocks ≡ chunk.group =
      ap (λ (b : ℕ). b / g.agblocks) block ∙ div-mul-add chunk.group g.agblocks (chunk.number * 8 + i / 8) (omega (arith, fits, ends, few)) in
      let one = div-add-mod' start g.agblocks in
      let two = div-add-mod' (start + i / 8) g.agblocks in
      let base : start / g.agblocks * g.agblocks ≡ chunk.group * g.agblocks = ap (λ (n : ℕ). n * g.agblocks) own in
      let other : (start + i / 8) / g.agblocks * g.agblocks ≡ chunk.group * g.agblocks = ap (λ (n : ℕ). n * g.agblocks) there in
      let rest : (start + i / 8) % g.agblocks ≡ start % g.agblocks + i / 8 = omega (arith, one, two, base, other) in
      let same : ag ≡ (start + i / 8) / g.agblocks = sym group ∙ (own ∙ sym there) in
      let here : (64 * c + i) / 64 ≡ c = omega (arith, few) in
      let row : (64 * c + i) % 64 / 8 ≡ i / 8 = omega (arith, few) in
      let slot : (64 * c + i) % 8 ≡ i % 8 = omega arith in
      plain ag ((start + i / 8) / g.agblocks) ((start + i / 8) % g.agblocks) (start % g.agblocks) (2 ^ g.agblklog) same rest
      ∙ sym
      (ap (λ (x : ℕ). inode_of (volume_of g) (get_or starts x 0 + (64 * c + i) % 64 / 8) ((64 * c + i) % 8)) here ∙ ap (λ (x : ℕ). inode_of (volume_of g) (start + x) ((64 * c + i) % 8)) row
      ∙ ap (λ (x : ℕ). inode_of (volume_of g) (start + i / 8) x) slot)
    where
      plain : (a b m r power : ℕ) → a ≡ b → m ≡ r + i / 8 → a * power * 8 + (r * 8 + i) ≡ (b * power + m) * 8 + i % 8
      plain a b m r power same rest =
          let product : a * power ≡ b * power = ap (λ (n : ℕ). n * power) same in
          omega (arith, product, rest)

-- which inodes of a chunk are in use
used_test : (files c i : ℕ) → i < 64 → nat_lt (64 * c + i) (files + 2) ≡ nat_lt i (used_in_chunk files c)
used_test files c i few = by_case (cases_lt (64 * c + i) (files + 2))
  where
    by_case : (64 * c + i < files + 2) ⊎ (files + 2 ≤ 64 * c + i) → nat_lt (64 * c + i) (files + 2) ≡ nat_lt i (used_in_chunk files c)
    by_case (inl less) = lt-ltb (64 * c + i) (files + 2) less ∙ sym (lt-ltb i (used_in_chunk files c) (omega (arith, less, few)))
    by_case (inr more) = le-ltb (64 * c + i) (files + 2) more ∙ sym (le-ltb i (used_in_chunk files c) (omega (arith, more)))

abbrev numbered : ℕ → ℕ → ℕ → InoRec
numbered startino free marks = record { startino = startino; holemask = 0; count = 64; freecount = free; free = marks }

module _ (g : Geometry) (sector : List ℕ) (s : Stamp) (ns : List ProtoNode) (contents : List (List ℕ)) (plan : Plan) (blocks : ℕ) (image : Image)
    (is : IsPopulated g sector s ns contents plan blocks image) (crc : ℕ → ℕ) where
  abbrev vol : Volume
  vol = volume_of g

  abbrev p : Placed
  p = is.filled.placed

  abbrev starts_of : List ℕ
  starts_of = chunk_starts g (length ns)

  abbrev files : List FileRec
  files = filled_files vol s starts_of ns contents p.runs crc

  placed : AreChunksPlaced g starts_of ns
  placed = populated_at g sector s ns contents plan blocks image is

  chunks : AreChunks vol starts_of
  chunks = are_chunks g (length ns) is.first

  up : (i j : ℕ) → i < j → j < 64 * length starts_of → inode_at vol starts_of i < inode_at vol starts_of j
  up i j less low = inode_at_up vol g.dblocks 0 i j starts_of g.shape.groups g.shape.addresses (rise_in g starts_of ns placed) less low

  unused_is : (c ag i : ℕ) → c < length starts_of → get_or starts_of c 0 / g.agblocks ≡ ag → i < 64
      → is_unused vol files ag ((ino_shape ag).settled (chunk_record vol (length ns) starts_of c)) i ≡ is_from (used_in_chunk (length ns) c) i
  unused_is c ag i low group few =
      let enough = placed.enough in
      let used = used_at vol s starts_of ns contents p.runs crc g.shape.groups (starts_first g (length ns)) is.files.some (64 * length starts_of) (64 * c + i) up (omega (arith, low, few)) enough in
      ap₂ (λ (s t : Bool). not (s || t)) (none_missing i)
      (ap (is_used files) (number_in_group g starts_of chunks c ag i low group few) ∙ (used ∙ used_test (length ns) c i few))

  chunk_due : (c ag : ℕ) → c < length starts_of → get_or starts_of c 0 / g.agblocks ≡ ag
      → chunk_number (due_chunk vol files ag ((ino_shape ag).settled (chunk_record vol (length ns) starts_of c))) ≡ chunk_number ((ino_shape ag).settled (chunk_record vol (length ns) starts_of c))
  unfolding due_chunk chunk_number four_each
  chunk_due c ag low group =
      let test : ℕ → Bool = is_unused vol files ag ((ino_shape ag).settled (chunk_record vol (length ns) starts_of c)) in
      let u : ℕ = used_in_chunk (length ns) c in
      let few : used_in_chunk (length ns) c ≤ 64 = omega arith in
      let free : count_below test 64 ≡ 64 - used_in_chunk (length ns) c =
      count_same test (is_from (used_in_chunk (length ns) c)) 64 (λ i less. unused_is c ag i low group less) ∙ count_from (used_in_chunk (length ns) c) 64 in
      let marks : bits_below test 64 ≡ 2 ^ 64 - 2 ^ used_in_chunk (length ns) c =
      bits_same test (is_from (used_in_chunk (length ns) c)) 64 (λ i less. unused_is c ag i low group less) ∙ bits_from (used_in_chunk (length ns) c) few in
      ap₂ (λ (x y : ℕ). chunk_number (numbered (get_or starts_of c 0 % g.agblocks * 8) x y)) free (marks ∙ sym (or_zero_r (2 ^ 64 - 2 ^ used_in_chunk (length ns) c)))

  abbrev IsDue : ℕ → InoRec → Type 0
  IsDue ag r = chunk_number (due_chunk vol files ag ((ino_shape ag).settled r)) ≡ chunk_number ((ino_shape ag).settled r)

  group_due : (ag : ℕ) → ag < g.agcount → All (IsDue ag) (inodes_in_group (inodes_filled g (length ns) starts_of) ag)
  group_due ag low =
      let test : ℕ → Bool = λ c. get_or starts_of c 0 / g.agblocks == ag in
      subst (All (IsDue ag)) (sym (records_are g (length ns) starts_of ag low))
      (All-from_recursion (IsDue ag) (chunks_of_group vol (length ns) starts_of ag)
      (all_members (IsDue ag) (chunks_of_group vol (length ns) starts_of ag) (λ r there.
      let from = map_member (chunk_record vol (length ns) starts_of) r (filter (λ c. get_or starts_of c 0 / g.agblocks == ag) (range_with_len 0 (length starts_of))) there in
      let kept = filter_member (λ c. get_or starts_of c 0 / g.agblocks == ag) from.0 (range_with_len 0 (length starts_of)) from.1 in
      let row = row_member from.0 0 (length starts_of) kept.0 in
      let high = row.high in
      subst (IsDue ag) from.2 (chunk_due from.0 ag (omega (arith, high)) (eqb-true (get_or starts_of from.0 0 / g.agblocks) ag kept.1)))))

  pub chunks_are_kept : (agf agi : ℕ → ℕ) → AreKept (chunk_laws (volume_of g) (filled_files (volume_of g) s (chunk_starts g (length ns)) ns contents is.filled.placed.runs crc) (filled_groups g ns is.filled.placed agf agi))
  chunks_are_kept agf agi =
      chunks_kept vol (kept_runs (filled_wanted g ns contents) ++ p.runs) [] (inodes_filled g (length ns) starts_of) p.groups files agf agi is.filled.stands.groups' group_due
