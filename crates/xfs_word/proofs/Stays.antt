-- An object stays as right as it was where its checksum alone is written.
use Rattle.std.proofs.Common.{◌≡◌, ℕ, ◌/◌, ◌%◌, ◌^◌, inl, not, ◌&&◌, ◌||◌, ◌==◌, List, bytes_eq, Option, Some, None, IsTrue, IfSome, refl, ◌∙◌, ap, ap₂, subst, arith}
use Rattle.xfs_word.specs.Field.{Beside, KeepsBeside, KeepsParts}
use Rattle.xfs_word.specs.Crc.{has_checksum}
use Rattle.xfs_word.specs.Seal.{layout_of, has_magic, identifier_is, number_is, owner_is, is_lsn, is_ready, is_sealed, IsApart}
use Rattle.xfs_word.specs.declared.kinds.FieldPlace.{FieldPlace}
use Rattle.xfs_word.specs.declared.kinds.Seal.{Seal}
use Rattle.xfs_word.specs.declared.kinds.SealLayout.{SealLayout}
use Rattle.xfs_word.specs.declared.kinds.SealKind.{SealKind}
use Rattle.xfs_word.specs.declared.kinds.SealKind.TheVariants.{Super, Agf, Agi, Agfl, ShortTree, LongTree, Slot, DirData, DirFree, Index, Symlink}

-- the magic number stands beside the checksum
magic_stays : (kind : SealKind) (old new : List ℕ) → KeepsBeside old new (layout_of kind).checksum 4 → has_magic kind new ≡ has_magic kind old
unfolding has_magic
magic_stays Super old new same =
    ap₂ (λ (m v : ℕ). m == 0x5846_5342 && v % 16 == 5) (same 0 4 (inl (omega arith))) (same 100 2 (inl (omega arith)))
magic_stays Agf old new same = ap (λ (m : ℕ). m == 0x5841_4746) (same 0 4 (inl (omega arith)))
magic_stays Agi old new same = ap (λ (m : ℕ). m == 0x5841_4749) (same 0 4 (inl (omega arith)))
magic_stays Agfl old new same = ap (λ (m : ℕ). m == 0x5841_464c) (same 0 4 (inl (omega arith)))
magic_stays (ShortTree magic) old new same = ap (λ (m : ℕ). m == magic) (same 0 4 (inl (omega arith)))
magic_stays LongTree old new same = ap (λ (m : ℕ). m == 0x424d_4133) (same 0 4 (inl (omega arith)))
magic_stays Slot old new same =
    ap₂ (λ (m v : ℕ). m == 0x494e && v == 3) (same 0 2 (inl (omega arith))) (same 4 1 (inl (omega arith)))
magic_stays DirData old new same = ap (λ (m : ℕ). m == 0x5844_4433 || m == 0x5844_4233) (same 0 4 (inl (omega arith)))
magic_stays DirFree old new same = ap (λ (m : ℕ). m == 0x5844_4633) (same 0 4 (inl (omega arith)))
magic_stays (Index magic) old new same =
    ap₂ (λ (m n : ℕ). m == magic && not (n / 2 ^ 16 == 0x494e)) (same 8 2 (inl (omega arith))) (same 0 4 (inl (omega arith)))
magic_stays Symlink old new same = ap (λ (m : ℕ). m == 0x5853_4c4d) (same 0 4 (inl (omega arith)))

-- the identifier stands beside the checksum
identifier_stays : (at : ℕ) (place : Option ℕ) (uuid old new : List ℕ) → IfSome place (λ p. Beside at 4 p 16) → KeepsParts old new at 4
    → identifier_is place uuid new ≡ identifier_is place uuid old
identifier_stays at None uuid old new apart same = refl
identifier_stays at (Some p) uuid old new apart same = ap (λ (id : List ℕ). bytes_eq id uuid) (same p 16 apart)

-- a number stands beside the checksum
number_stays : (at : ℕ) (place : Option FieldPlace) (number : ℕ) (old new : List ℕ) → IfSome place (λ p. Beside at 4 p.offset p.width)
    → KeepsBeside old new at 4 → number_is place number new ≡ number_is place number old
number_stays at None number old new apart same = refl
number_stays at (Some p) number old new apart same = ap (λ (n : ℕ). n == number) (same p.offset p.width apart)

-- the owner stands beside the checksum
owner_stays : (at : ℕ) (place : Option FieldPlace) (owner : Option ℕ) (old new : List ℕ) → IfSome place (λ p. Beside at 4 p.offset p.width)
    → KeepsBeside old new at 4 → owner_is place owner new ≡ owner_is place owner old
owner_stays at place None old new apart same = refl
owner_stays at place (Some owner) old new apart same = number_stays at place owner old new apart same

-- where the checksum alone is written, an object is as ready as before
pub ready_stays : (seal : Seal) (old new : List ℕ) → IsApart (layout_of seal.kind) → KeepsBeside old new (layout_of seal.kind).checksum 4
    → KeepsParts old new (layout_of seal.kind).checksum 4 → is_ready seal new ≡ is_ready seal old
unfolding is_ready
ready_stays seal old new apart same same_parts =
    let layout = layout_of seal.kind in
    let magic = magic_stays seal.kind old new same in
    let identifier = identifier_stays layout.checksum layout.identifier seal.uuid old new apart.identifier same_parts in
    let address = number_stays layout.checksum layout.address seal.place old new apart.address same in
    let owner = owner_stays layout.checksum layout.owner seal.owner old new apart.owner same in
    let lsn = ap (λ (n : ℕ). is_lsn n) (same layout.lsn 8 apart.lsn) in
    ap₂ ◌&&◌ (ap₂ ◌&&◌ (ap₂ ◌&&◌ (ap₂ ◌&&◌ magic identifier) address) owner) lsn

-- an object that is ready is sealed by a right checksum
pub sealed_by : (seal : Seal) (old new : List ℕ) (layout : SealLayout) → layout ≡ layout_of seal.kind → IsApart layout
    → KeepsBeside old new layout.checksum 4 → KeepsParts old new layout.checksum 4 → IsTrue (has_checksum new layout.checksum)
    → IsTrue (is_ready seal old) → IsTrue (is_sealed seal new)
unfolding is_sealed
sealed_by seal old new layout table apart same same_parts right was =
    let stays = ready_stays seal old new
    (subst (λ (l : SealLayout). IsApart l) table apart)
    (subst (λ (l : SealLayout). KeepsBeside old new l.checksum 4) table same)
    (subst (λ (l : SealLayout). KeepsParts old new l.checksum 4) table same_parts) in
    ap₂ ◌&&◌ (stays ∙ was) (subst (λ (l : SealLayout). IsTrue (has_checksum new l.checksum)) table right)
