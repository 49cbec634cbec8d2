-- The records of the five trees of a group are given by what is read of their bytes.
use Rattle.std.proofs.Common.{◌≡◌, ℕ, List, [], ◌∷◌, refl, sym, ◌∙◌, ap, arith}
use Rattle.xfs_geom.specs.Volumes.{Volume}
use Rattle.xfs_geom.specs.declared.records.InoRec.{InoRec}
use Rattle.xfs_geom.specs.declared.records.RmapRec.{RmapRec}
use Rattle.xfs_geom.specs.declared.records.Span.{Span}
use Rattle.xfs_kinds.specs.FreeTreeLaws.{bno_kind, cnt_kind}
use Rattle.xfs_kinds.specs.FreeTrees.{bno_shape, cnt_shape}
use Rattle.xfs_kinds.specs.InodeTreeLaws.{fino_kind, ino_kind}
use Rattle.xfs_kinds.specs.InodeTrees.{chunk_of_bytes, fino_shape, ino_shape}
use Rattle.xfs_kinds.specs.OwnerTreeLaws.{rmap_kind}
use Rattle.xfs_kinds.specs.OwnerTrees.{owner_of_bytes, rmap_shape}
use Rattle.xfs_kinds.specs.Spans.{span_at_bytes}
use Rattle.xfs_settled.specs.Sectors.{AreSized}
use Rattle.xfs_settled.proofs.Sealing.{same_number, same_parts, whole_part}
use Rattle.xfs_settled.proofs.TreeBlocks.{IsShort}

span_one : (x y : List ℕ) → AreSized 8 x → AreSized 8 y → span_at_bytes x ≡ span_at_bytes y → x ≡ y
span_one x y sx sy same =
    sym (whole_part x 8 sx.size)
    ∙ same_parts x y 0 (4 ∷ 4 ∷ []) (same_number x y 8 0 4 sx sy (omega arith) (ap (λ (r : Span). r.start) same), (same_number x y 8 4 4 sx sy (omega arith) (ap (λ (r : Span). r.count) same), tt))
    ∙ whole_part y 8 sy.size

chunk_one : (x y : List ℕ) → AreSized 16 x → AreSized 16 y → chunk_of_bytes x ≡ chunk_of_bytes y → x ≡ y
chunk_one x y sx sy same =
    sym (whole_part x 16 sx.size)
    ∙ same_parts x y 0 (4 ∷ 2 ∷ 1 ∷ 1 ∷ 8 ∷ []) (same_number x y 16 0 4 sx sy (omega arith) (ap (λ (r : InoRec). r.startino) same), (same_number x y 16 4 2 sx sy (omega arith) (ap (λ (r : InoRec). r.holemask) same), (same_number x y 16 6 1 sx sy (omega arith) (ap (λ (r : InoRec). r.count) same), (same_number x y 16 7 1 sx sy (omega arith) (ap (λ (r : InoRec). r.freecount) same), (same_number x y 16 8 8 sx sy (omega arith) (ap (λ (r : InoRec). r.free) same), tt)))))
    ∙ whole_part y 16 sy.size

owner_one : (x y : List ℕ) → AreSized 24 x → AreSized 24 y → owner_of_bytes x ≡ owner_of_bytes y → x ≡ y
owner_one x y sx sy same =
    sym (whole_part x 24 sx.size)
    ∙ same_parts x y 0 (4 ∷ 4 ∷ 8 ∷ 8 ∷ []) (same_number x y 24 0 4 sx sy (omega arith) (ap (λ (r : RmapRec). r.start) same), (same_number x y 24 4 4 sx sy (omega arith) (ap (λ (r : RmapRec). r.count) same), (same_number x y 24 8 8 sx sy (omega arith) (ap (λ (r : RmapRec). r.owner) same), (same_number x y 24 16 8 sx sy (omega arith) (ap (λ (r : RmapRec). r.offset_word) same), tt))))
    ∙ whole_part y 24 sy.size

pub bno_short : (v : Volume) (ag : ℕ) → IsShort (bno_shape ag) v
bno_short v ag = record { short = refl; laid = (bno_kind ag).laid_out; records = span_one }

pub cnt_short : (v : Volume) (ag : ℕ) → IsShort (cnt_shape ag) v
cnt_short v ag = record { short = refl; laid = (cnt_kind ag).laid_out; records = span_one }

pub ino_short : (v : Volume) (ag : ℕ) → IsShort (ino_shape ag) v
ino_short v ag = record { short = refl; laid = (ino_kind ag).laid_out; records = chunk_one }

pub fino_short : (v : Volume) (ag : ℕ) → IsShort (fino_shape ag) v
fino_short v ag = record { short = refl; laid = (fino_kind ag).laid_out; records = chunk_one }

pub rmap_short : (v : Volume) (ag : ℕ) → IsShort (rmap_shape ag) v
rmap_short v ag = record { short = refl; laid = (rmap_kind ag).laid_out; records = owner_one }
