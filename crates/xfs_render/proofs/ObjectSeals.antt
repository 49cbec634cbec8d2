-- Blocks of objects that are sealed for their owner at their place.
use Rattle.std.proofs.Common.{◌≡◌, ℕ, ◌+◌, ◌*◌, ◌≤◌, ◌<◌, ◌⊎◌, ◌/◌, ◌^◌, ◌||◌, ◌&&◌, ◌==◌, not, Some, Bool, List, length, bytes_eq, true, inl, inr, ap, sym, subst, ◌∙◌, arith}
use Rattle.std.specs.Cmp.Derive.{both_true}
use Rattle.std.specs.Prelude.{IsTrue}
use Rattle.std.proofs.lemmas.Bool.{eq-eqb}
use Rattle.std.proofs.lemmas.Slice.Eq.{bytes_eq-Decides}
use Rattle.xfs_word.specs.Field.{field_of, part_of, KeepsBeside, SameBeside}
use Rattle.xfs_word.specs.Seal.{begins_as_slot, has_magic, is_lsn, is_ready, is_sealed}
use Rattle.xfs_word.specs.declared.kinds.Seal.{Seal}
use Rattle.xfs_word.specs.declared.kinds.SealKind.TheVariants.{DirData, DirFree, Index, Symlink}
use Rattle.xfs_geom.specs.Volumes.{Volume}
use Rattle.xfs_render.specs.Objects.{IsSealedBlock, object_seal}
use Rattle.xfs_render.specs.declared.object_blocks.ObjectBlock.{ObjectBlock}

same_bytes : (xs ys : List ℕ) → xs ≡ ys → bytes_eq xs ys ≡ true
same_bytes xs ys h = (bytes_eq-Decides xs ys).1 h

-- the magic number stands beside what is written
data_magic : (built mid : List ℕ) → field_of mid 0 4 ≡ field_of built 0 4 → has_magic DirData built ≡ true → has_magic DirData mid ≡ true
unfolding has_magic
data_magic built mid same is = ap (λ (n : ℕ). n == 0x5844_4433 || n == 0x5844_4233) same ∙ is

free_magic : (built mid : List ℕ) → field_of mid 0 4 ≡ field_of built 0 4 → has_magic DirFree built ≡ true → has_magic DirFree mid ≡ true
unfolding has_magic
free_magic built mid same is = ap (λ (n : ℕ). n == 0x5844_4633) same ∙ is

link_magic : (built mid : List ℕ) → field_of mid 0 4 ≡ field_of built 0 4 → has_magic Symlink built ≡ true → has_magic Symlink mid ≡ true
unfolding has_magic
link_magic built mid same is = ap (λ (n : ℕ). n == 0x5853_4c4d) same ∙ is

index_magic : (magic : ℕ) (built mid : List ℕ) → field_of mid 0 4 ≡ field_of built 0 4 → field_of mid 8 2 ≡ field_of built 8 2 → has_magic (Index magic) built ≡ true
    → has_magic (Index magic) mid ≡ true
unfolding has_magic
index_magic magic built mid first same is =
    ap (λ (n : ℕ). n == magic && not (begins_as_slot mid)) same ∙ ap (λ (n : ℕ). field_of built 8 2 == magic && not (n / 2 ^ 16 == 0x494e)) first ∙ is

-- a block that states all but its checksum is ready
ready_data : (place owner : ℕ) (uuid mid : List ℕ) → has_magic DirData mid ≡ true → part_of mid 24 16 ≡ uuid → field_of mid 8 8 ≡ place → field_of mid 40 8 ≡ owner
    → field_of mid 16 8 ≡ 0 → is_ready (record { kind = DirData; place = place; owner = Some owner; uuid = uuid }) mid ≡ true
unfolding is_ready
ready_data place owner uuid mid magic uuid_is place_is owner_is lsn =
    both_true (both_true (both_true (both_true magic (same_bytes _ _ uuid_is)) (eq-eqb _ _ place_is)) (eq-eqb _ _ owner_is)) (ap is_lsn lsn)

ready_free : (place owner : ℕ) (uuid mid : List ℕ) → has_magic DirFree mid ≡ true → part_of mid 24 16 ≡ uuid → field_of mid 8 8 ≡ place → field_of mid 40 8 ≡ owner
    → field_of mid 16 8 ≡ 0 → is_ready (record { kind = DirFree; place = place; owner = Some owner; uuid = uuid }) mid ≡ true
unfolding is_ready
ready_free place owner uuid mid magic uuid_is place_is owner_is lsn =
    both_true (both_true (both_true (both_true magic (same_bytes _ _ uuid_is)) (eq-eqb _ _ place_is)) (eq-eqb _ _ owner_is)) (ap is_lsn lsn)

ready_index : (number place owner : ℕ) (uuid mid : List ℕ) → has_magic (Index number) mid ≡ true → part_of mid 32 16 ≡ uuid → field_of mid 16 8 ≡ place → field_of mid 48 8 ≡ owner
    → field_of mid 24 8 ≡ 0 → is_ready (record { kind = Index number; place = place; owner = Some owner; uuid = uuid }) mid ≡ true
unfolding is_ready
ready_index number place owner uuid mid magic uuid_is place_is owner_is lsn =
    both_true (both_true (both_true (both_true magic (same_bytes _ _ uuid_is)) (eq-eqb _ _ place_is)) (eq-eqb _ _ owner_is)) (ap is_lsn lsn)

ready_link : (place owner : ℕ) (uuid mid : List ℕ) → has_magic Symlink mid ≡ true → part_of mid 16 16 ≡ uuid → field_of mid 40 8 ≡ place → field_of mid 32 8 ≡ owner
    → field_of mid 48 8 ≡ 0 → is_ready (record { kind = Symlink; place = place; owner = Some owner; uuid = uuid }) mid ≡ true
unfolding is_ready
ready_link place owner uuid mid magic uuid_is place_is owner_is lsn =
    both_true (both_true (both_true (both_true magic (same_bytes _ _ uuid_is)) (eq-eqb _ _ place_is)) (eq-eqb _ _ owner_is)) (ap is_lsn lsn)

-- two changes of a block, one behind the other
module _ (v : Volume) (at : ObjectBlock) (built mid block : List ℕ) (size : length block ≡ 4096) where
  pub sealed_data : field_of mid 8 8 ≡ 8 * at.place → field_of mid 16 8 ≡ 0 → part_of mid 24 16 ≡ v.uuid → field_of mid 40 8 ≡ at.owner
      → KeepsBeside built mid 8 40 → SameBeside built mid 8 40 → KeepsBeside mid block 4 4 → SameBeside mid block 4 4
      → (IsTrue (is_ready (object_seal v DirData at) mid) → IsTrue (is_sealed (object_seal v DirData at) block)) → IsSealedBlock (object_seal v DirData at) built block
  sealed_data place lsn uuid owner keeps same kept stays seals = record {
    size = size;
    same = λ k beside. elim beside [
      | inl low ↦ stays k (inl low) ∙ same k (inl (omega (arith, low)))
      | inr high ↦ stays k (inr (omega (arith, high))) ∙ same k (inr (omega (arith, high)))
    ];
    lsn = kept 16 8 (inr (omega arith)) ∙ lsn;
    sealed = λ magic. seals (ready_data (8 * at.place) at.owner v.uuid mid (data_magic built mid (keeps 0 4 (inl (omega arith))) magic) uuid place owner lsn);
  }

  pub sealed_free : field_of mid 8 8 ≡ 8 * at.place → field_of mid 16 8 ≡ 0 → part_of mid 24 16 ≡ v.uuid → field_of mid 40 8 ≡ at.owner
      → KeepsBeside built mid 8 40 → SameBeside built mid 8 40 → KeepsBeside mid block 4 4 → SameBeside mid block 4 4
      → (IsTrue (is_ready (object_seal v DirFree at) mid) → IsTrue (is_sealed (object_seal v DirFree at) block)) → IsSealedBlock (object_seal v DirFree at) built block
  sealed_free place lsn uuid owner keeps same kept stays seals = record {
    size = size;
    same = λ k beside. elim beside [
      | inl low ↦ stays k (inl low) ∙ same k (inl (omega (arith, low)))
      | inr high ↦ stays k (inr (omega (arith, high))) ∙ same k (inr (omega (arith, high)))
    ];
    lsn = kept 16 8 (inr (omega arith)) ∙ lsn;
    sealed = λ magic. seals (ready_free (8 * at.place) at.owner v.uuid mid (free_magic built mid (keeps 0 4 (inl (omega arith))) magic) uuid place owner lsn);
  }

  pub sealed_index : (number : ℕ) → field_of mid 16 8 ≡ 8 * at.place → field_of mid 24 8 ≡ 0 → part_of mid 32 16 ≡ v.uuid → field_of mid 48 8 ≡ at.owner
      → KeepsBeside built mid 16 40 → SameBeside built mid 16 40 → KeepsBeside mid block 12 4 → SameBeside mid block 12 4
      → (IsTrue (is_ready (object_seal v (Index number) at) mid) → IsTrue (is_sealed (object_seal v (Index number) at) block))
      → IsSealedBlock (object_seal v (Index number) at) built block
  sealed_index number place lsn uuid owner keeps same kept stays seals = record {
    size = size;
    same = λ k beside. elim beside [
      | inl low ↦ stays k (inl low) ∙ same k (inl (omega (arith, low)))
      | inr high ↦ stays k (inr (omega (arith, high))) ∙ same k (inr (omega (arith, high)))
    ];
    lsn = kept 24 8 (inr (omega arith)) ∙ lsn;
    sealed = λ magic. seals (ready_index number (8 * at.place) at.owner v.uuid mid
        (index_magic number built mid (keeps 0 4 (inl (omega arith))) (keeps 8 2 (inl (omega arith))) magic) uuid place owner lsn);
  }

  pub sealed_link : field_of mid 40 8 ≡ 8 * at.place → field_of mid 48 8 ≡ 0 → part_of mid 16 16 ≡ v.uuid → field_of mid 32 8 ≡ at.owner
      → KeepsBeside built mid 16 40 → SameBeside built mid 16 40 → KeepsBeside mid block 12 4 → SameBeside mid block 12 4
      → (IsTrue (is_ready (object_seal v Symlink at) mid) → IsTrue (is_sealed (object_seal v Symlink at) block)) → IsSealedBlock (object_seal v Symlink at) built block
  sealed_link place lsn uuid owner keeps same kept stays seals = record {
    size = size;
    same = λ k beside. elim beside [
      | inl low ↦ stays k (inl low) ∙ same k (inl (omega (arith, low)))
      | inr high ↦ stays k (inr (omega (arith, high))) ∙ same k (inr (omega (arith, high)))
    ];
    lsn = kept 48 8 (inr (omega arith)) ∙ lsn;
    sealed = λ magic. seals (ready_link (8 * at.place) at.owner v.uuid mid (link_magic built mid (keeps 0 4 (inl (omega arith))) magic) uuid place owner lsn);
  }

-- the bytes beside a run of bytes and beside the run behind it, which were written one after the other, are as before both
pub next_bytes : (b0 b1 b2 : List ℕ) (at width behind rest : ℕ) → behind ≡ at + width → SameBeside b0 b1 at width → SameBeside b1 b2 behind rest → SameBeside b0 b2 at (width + rest)
next_bytes b0 b1 b2 at width behind rest e first second k beside = second k (later beside) ∙ first k (sooner beside)
  where
    sooner : (k < at) ⊎ (at + (width + rest) ≤ k) → (k < at) ⊎ (at + width ≤ k)
    sooner b = elim b [ inl low ↦ inl low | inr high ↦ inr (omega (arith, high)) ]

    later : (k < at) ⊎ (at + (width + rest) ≤ k) → (k < behind) ⊎ (behind + rest ≤ k)
    later b = elim b [ inl low ↦ inl (omega (arith, e, low)) | inr high ↦ inr (omega (arith, e, high)) ]
