-- Of what was built for the block of an object there is one block.
use Rattle.std.proofs.Common.{◌≡◌, ℕ, ◌*◌, inl, inr, Bool, true, false, if◌then◌else◌, List, [], ◌∷◌, sym, ◌∙◌, arith}
use Rattle.std.proofs.lemmas.Bool.{and_parts, eqb-true}
use Rattle.std.proofs.lemmas.Slice.Eq.{bytes_eq-Decides}
use Rattle.xfs_word.specs.Crc.{has_checksum}
use Rattle.xfs_word.specs.Field.{Beside, field_of, part_of, SameBeside}
use Rattle.xfs_word.specs.Seal.{has_magic, identifier_is, is_ready, is_sealed, layout_of, number_is, owner_is}
use Rattle.xfs_word.specs.declared.kinds.Seal.{Seal}
use Rattle.xfs_word.specs.declared.kinds.SealKind.{SealKind}
use Rattle.xfs_word.specs.declared.kinds.SealKind.TheVariants as Sealed
use Rattle.xfs_word.proofs.Written.{keeps_parts}
use Rattle.xfs_geom.specs.Volumes.{Volume}
use Rattle.xfs_place.specs.declared.wanted.ObjectKind.{ObjectKind}
use Rattle.xfs_place.specs.declared.wanted.ObjectKind.TheVariants as kinds
use Rattle.xfs_render.specs.Objects.{IsKindBlock, IsObjectBlock, IsSealedBlock, object_seal}
use Rattle.xfs_render.specs.declared.object_blocks.ObjectBlock.{ObjectBlock}
use Rattle.xfs_settled.specs.Sectors.{AreSized, CanBeSealed}
use Rattle.xfs_settled.proofs.Sealing.{same_number, same_parts, sealed_one}

-- what a seal states
record SealFields (seal : Seal) (bytes : List ℕ) : Type 0 where
  identifier : identifier_is (layout_of seal.kind).identifier seal.uuid bytes ≡ true
  address : number_is (layout_of seal.kind).address seal.place bytes ≡ true
  owner : owner_is (layout_of seal.kind).owner seal.owner bytes ≡ true
  checksum : has_checksum bytes (layout_of seal.kind).checksum ≡ true

seal_fields : (seal : Seal) (bytes : List ℕ) → is_sealed seal bytes ≡ true → SealFields seal bytes
unfolding is_sealed is_ready
seal_fields seal bytes sealed =
    let a = and_parts _ _ sealed in
    let b = and_parts _ _ a.0 in
    let c = and_parts _ _ b.0 in
    let d = and_parts _ _ c.0 in
    let e = and_parts _ _ d.0 in
    record { identifier = e.1; address = d.1; owner = c.1; checksum = a.1 }

module _ (v : Volume) (at : ObjectBlock) (a b : List ℕ) (sa : AreSized 4096 a) (sb : AreSized 4096 b) where
  stays : (c x w : ℕ) → SameBeside a b c 44 → Beside c 44 x w → part_of a x w ≡ part_of b x w
  stays c x w same out = sym (keeps_parts a b c 44 (sb.size ∙ sym sa.size) same x w out)

  data_one : (ta : SealFields (object_seal v Sealed.DirData at) a) (tb : SealFields (object_seal v Sealed.DirData at) b) → SameBeside a b 4 44 → field_of a 16 8 ≡ 0 → field_of b 16 8 ≡ 0 → a ≡ b
  data_one ta tb same za zb =
      sealed_one a b 4 4088 4096 (omega arith) sa sb (stays 4 0 4 same (inl (omega arith)))
      (same_parts a b 8 (8 ∷ 8 ∷ 16 ∷ 8 ∷ 4048 ∷ []) (same_number a b 4096 8 8 sa sb (omega arith) (eqb-true (field_of a 8 8) (8 * at.place) ta.address ∙ sym (eqb-true (field_of b 8 8) (8 * at.place) tb.address)), (same_number a b 4096 16 8 sa sb (omega arith) (za ∙ sym zb), ((bytes_eq-Decides (part_of a 24 16) v.uuid).0 ta.identifier ∙ sym ((bytes_eq-Decides (part_of b 24 16) v.uuid).0 tb.identifier), (same_number a b 4096 40 8 sa sb (omega arith) (eqb-true (field_of a 40 8) at.owner ta.owner ∙ sym (eqb-true (field_of b 40 8) at.owner tb.owner)), (stays 4 48 4048 same (inr (omega arith)), tt))))))
      ta.checksum tb.checksum

  free_one : (ta : SealFields (object_seal v Sealed.DirFree at) a) (tb : SealFields (object_seal v Sealed.DirFree at) b) → SameBeside a b 4 44 → field_of a 16 8 ≡ 0 → field_of b 16 8 ≡ 0 → a ≡ b
  free_one ta tb same za zb =
      sealed_one a b 4 4088 4096 (omega arith) sa sb (stays 4 0 4 same (inl (omega arith)))
      (same_parts a b 8 (8 ∷ 8 ∷ 16 ∷ 8 ∷ 4048 ∷ []) (same_number a b 4096 8 8 sa sb (omega arith) (eqb-true (field_of a 8 8) (8 * at.place) ta.address ∙ sym (eqb-true (field_of b 8 8) (8 * at.place) tb.address)), (same_number a b 4096 16 8 sa sb (omega arith) (za ∙ sym zb), ((bytes_eq-Decides (part_of a 24 16) v.uuid).0 ta.identifier ∙ sym ((bytes_eq-Decides (part_of b 24 16) v.uuid).0 tb.identifier), (same_number a b 4096 40 8 sa sb (omega arith) (eqb-true (field_of a 40 8) at.owner ta.owner ∙ sym (eqb-true (field_of b 40 8) at.owner tb.owner)), (stays 4 48 4048 same (inr (omega arith)), tt))))))
      ta.checksum tb.checksum

  index_one : (magic : ℕ) (ta : SealFields (object_seal v (Sealed.Index magic) at) a) (tb : SealFields (object_seal v (Sealed.Index magic) at) b) → SameBeside a b 12 44 → field_of a 24 8 ≡ 0 → field_of b 24 8 ≡ 0 → a ≡ b
  index_one magic ta tb same za zb =
      sealed_one a b 12 4080 4096 (omega arith) sa sb (stays 12 0 12 same (inl (omega arith)))
      (same_parts a b 16 (8 ∷ 8 ∷ 16 ∷ 8 ∷ 4040 ∷ []) (same_number a b 4096 16 8 sa sb (omega arith) (eqb-true (field_of a 16 8) (8 * at.place) ta.address ∙ sym (eqb-true (field_of b 16 8) (8 * at.place) tb.address)), (same_number a b 4096 24 8 sa sb (omega arith) (za ∙ sym zb), ((bytes_eq-Decides (part_of a 32 16) v.uuid).0 ta.identifier ∙ sym ((bytes_eq-Decides (part_of b 32 16) v.uuid).0 tb.identifier), (same_number a b 4096 48 8 sa sb (omega arith) (eqb-true (field_of a 48 8) at.owner ta.owner ∙ sym (eqb-true (field_of b 48 8) at.owner tb.owner)), (stays 12 56 4040 same (inr (omega arith)), tt))))))
      ta.checksum tb.checksum

  link_one : (ta : SealFields (object_seal v Sealed.Symlink at) a) (tb : SealFields (object_seal v Sealed.Symlink at) b) → SameBeside a b 12 44 → field_of a 48 8 ≡ 0 → field_of b 48 8 ≡ 0 → a ≡ b
  link_one ta tb same za zb =
      sealed_one a b 12 4080 4096 (omega arith) sa sb (stays 12 0 12 same (inl (omega arith)))
      (same_parts a b 16 (16 ∷ 8 ∷ 8 ∷ 8 ∷ 4040 ∷ []) ((bytes_eq-Decides (part_of a 16 16) v.uuid).0 ta.identifier ∙ sym ((bytes_eq-Decides (part_of b 16 16) v.uuid).0 tb.identifier), (same_number a b 4096 32 8 sa sb (omega arith) (eqb-true (field_of a 32 8) at.owner ta.owner ∙ sym (eqb-true (field_of b 32 8) at.owner tb.owner)), (same_number a b 4096 40 8 sa sb (omega arith) (eqb-true (field_of a 40 8) (8 * at.place) ta.address ∙ sym (eqb-true (field_of b 40 8) (8 * at.place) tb.address)), (same_number a b 4096 48 8 sa sb (omega arith) (za ∙ sym zb), (stays 12 56 4040 same (inr (omega arith)), tt))))))
      ta.checksum tb.checksum

  module _ (built : List ℕ) where
    beside_both : (c : ℕ) → SameBeside built a c 44 → SameBeside built b c 44 → SameBeside a b c 44
    beside_both c ka kb = λ k out. kb k out ∙ sym (ka k out)

    read_seal : (kind : SealKind) (bytes : List ℕ) → has_magic kind built ≡ true → IsSealedBlock (object_seal v kind at) built bytes → SealFields (object_seal v kind at) bytes
    read_seal kind bytes magic is = seal_fields (object_seal v kind at) bytes (is.sealed magic)

    by_kind : (entries free : Bool) (magic : ℕ) → has_magic (if entries then Sealed.DirData else if free then Sealed.DirFree else Sealed.Index magic) built ≡ true
        → IsSealedBlock (object_seal v (if entries then Sealed.DirData else if free then Sealed.DirFree else Sealed.Index magic) at) built a
        → IsSealedBlock (object_seal v (if entries then Sealed.DirData else if free then Sealed.DirFree else Sealed.Index magic) at) built b → a ≡ b
    by_kind true free magic has ia ib =
        data_one (read_seal Sealed.DirData a has ia) (read_seal Sealed.DirData b has ib) (beside_both 4 ia.same ib.same) ia.lsn ib.lsn
    by_kind false true magic has ia ib =
        free_one (read_seal Sealed.DirFree a has ia) (read_seal Sealed.DirFree b has ib) (beside_both 4 ia.same ib.same) ia.lsn ib.lsn
    by_kind false false magic has ia ib =
        index_one magic (read_seal (Sealed.Index magic) a has ia) (read_seal (Sealed.Index magic) b has ib) (beside_both 12 ia.same ib.same) ia.lsn ib.lsn

    kind_one : (kind : ObjectKind) → CanBeSealed kind built → IsKindBlock kind v at built a → IsKindBlock kind v at built b → a ≡ b
    kind_one kinds.Directory has ia ib = by_kind (has_magic Sealed.DirData built) (has_magic Sealed.DirFree built) (field_of built 8 2) has ia ib
    kind_one kinds.Symlink has ia ib =
        link_one (read_seal Sealed.Symlink a has ia) (read_seal Sealed.Symlink b has ib) (beside_both 12 ia.same ib.same) ia.lsn ib.lsn
    kind_one kinds.Data has ia ib = ia ∙ sym ib

pub object_one : (v : Volume) (at : ObjectBlock) (built a b : List ℕ) → AreSized 4096 a → AreSized 4096 b → CanBeSealed at.kind built
    → IsObjectBlock v at built a → IsObjectBlock v at built b → a ≡ b
object_one v at built a b sa sb has ia ib = kind_one v at a b sa sb built at.kind has ia ib
