-- The chunks of a request say which inodes are in use.
use Rattle.std.proofs.Common.{◌≡◌, ℕ, zero, suc, Bool, true, false, not, ◌+◌, ◌*◌, ◌<◌, ◌||◌, ◌-◌, ◌/◌, ◌^◌, max, if◌then◌else◌, bit_or, inl, inr, List, [], ◌∷◌, refl, sym, subst, ap, ◌∙◌, arith}
use Rattle.std.specs.Int.{bit_at}
use Rattle.std.specs.List.{All, flat_map, range_with_len}
use Rattle.std.proofs.lemmas.List.Elements.{All-from_recursion}
use Rattle.std.proofs.lemmas.Nat.Bits.{bit_at_or, same_from_bits}
use Rattle.xfs_geom.specs.Conversions.{group_length}
use Rattle.xfs_geom.specs.Volumes.{Volume, volume_of}
use Rattle.xfs_geom.specs.declared.geometry.Geometry.{Geometry}
use Rattle.xfs_geom.specs.declared.records.InoRec.{InoRec}
use Rattle.xfs_kinds.specs.InodeTrees.{ino_shape, is_missing, missing_bits, settled_chunk}
use Rattle.xfs_made.specs.xfs_laws.Counting.{bits_below, chunk_number, count_below, due_chunk, inode_number, is_unused, is_used}
use Rattle.xfs_place.specs.Wanted.{inodes_in_group}
use Rattle.xfs_made.proofs.xfs_views.Members.{Member, all_members, flat_member}
use Rattle.xfs_volume.specs.declared.files.FileRec.{FileRec}
use Rattle.xfs_request.specs.xfs_salvage.declared.found.Salvaged.{Salvaged}
use Rattle.xfs_request.specs.Chunks.{chunk_listed, has_chunk, has_kept_cluster, holes, is_idle, is_inode_used, kept_chunk, kept_chunks, slot_count}
use Rattle.xfs_request.specs.Requests.{volume_wanted}
use Rattle.xfs_made.proofs.Writable.{inodes_are}

-- bits that are set once more
max_again : (a b : ℕ) → max (max a b) b ≡ max a b
max_again a b = omega arith

pub or_again : (a m : ℕ) → bit_or (bit_or a m) m ≡ bit_or a m
or_again a m = same_from_bits (bit_or (bit_or a m) m) (bit_or a m) (λ i.
    bit_at_or (bit_or a m) m i ∙ ap (λ (b : ℕ). max b (bit_at m i)) (bit_at_or a m i) ∙ max_again (bit_at a i) (bit_at m i) ∙ sym (bit_at_or a m i))

settled_number : (r : InoRec) → chunk_number (settled_chunk r) ≡ chunk_number r
unfolding chunk_number
settled_number r = ap (λ (b : ℕ). r.startino * 2 ^ 96 + r.holemask * 2 ^ 80 + r.count * 2 ^ 72 + r.freecount * 2 ^ 64 + b) (or_again r.free (missing_bits r.holemask))

module _ (v : Volume) (kept : Salvaged) (files : List FileRec) (same : (ino : ℕ) → is_used files ino ≡ is_inode_used kept ino) where
  -- a chunk whose free inodes are those that pass a test
  abbrev counted_by : ℕ → ℕ → (ℕ → Bool) → InoRec
  counted_by startino holemask test = record { startino = startino; holemask = holemask; count = slot_count holemask; freecount = count_below test 64; free = bits_below test 64 }

  unused_is : (ag startino holemask i : ℕ) → not (is_missing holemask i || is_used files (inode_number v ag (startino + i))) ≡ is_idle v kept ag startino holemask i
  unused_is ag startino holemask i = ap (λ (t : Bool). not (is_missing holemask i || t)) (same (inode_number v ag (startino + i)))

  due_is : (ag c : ℕ) → due_chunk v files ag (settled_chunk (kept_chunk v kept ag c)) ≡ kept_chunk v kept ag c
  unfolding due_chunk kept_chunk
  due_is ag c =
      let mask : ℕ = holes (has_kept_cluster v kept ag c 0) (has_kept_cluster v kept ag c 4) in
      ap (counted_by (64 * c) mask) (λ k i. unused_is ag (64 * c) mask i k)

  abbrev IsDue : ℕ → InoRec → Type 0
  IsDue ag r = chunk_number (due_chunk v files ag (settled_chunk r)) ≡ chunk_number (settled_chunk r)

  chunk_due : (ag c : ℕ) → IsDue ag (kept_chunk v kept ag c)
  chunk_due ag c = ap chunk_number (due_is ag c) ∙ sym (settled_number (kept_chunk v kept ag c))

  listed_due : (ag c : ℕ) (r : InoRec) → Member r (chunk_listed v kept ag c) → IsDue ag r
  listed_due ag c r is = by_case (has_chunk v kept ag c) is
    where
      by_case : (t : Bool) → Member r (if t then kept_chunk v kept ag c ∷ [] else []) → IsDue ag r
      by_case true among = elim among [ inl one ↦ subst (IsDue ag) one (chunk_due ag c) | inr none ↦ absurd none ]
      by_case false among = absurd among

  pub chunks_due : (ag : ℕ) → All (IsDue ag) (kept_chunks v kept ag)
  unfolding kept_chunks
  chunks_due ag =
      let row : List ℕ = range_with_len 1 (group_length v ag / 8 - 1) in
      All-from_recursion (IsDue ag) (flat_map (chunk_listed v kept ag) row)
      (all_members (IsDue ag) (flat_map (chunk_listed v kept ag) row) (λ r is.
      let of = flat_member (chunk_listed v kept ag) r row is in
      listed_due ag of.0 r of.2))

pub asked_due : (g : Geometry) (kept : Salvaged) (reserved : List ℕ) (files : List FileRec) → ((ino : ℕ) → is_used files ino ≡ is_inode_used kept ino) → (ag : ℕ) → ag < g.agcount
    → All (λ (r : InoRec). chunk_number (due_chunk (volume_of g) files ag ((ino_shape ag).settled r)) ≡ chunk_number ((ino_shape ag).settled r))
    (inodes_in_group (volume_wanted g kept reserved).inodes ag)
asked_due g kept reserved files same ag low =
    subst (All (λ (r : InoRec). chunk_number (due_chunk (volume_of g) files ag ((ino_shape ag).settled r)) ≡ chunk_number ((ino_shape ag).settled r)))
    (sym (inodes_are g kept reserved ag low)) (chunks_due (volume_of g) kept files same ag)
