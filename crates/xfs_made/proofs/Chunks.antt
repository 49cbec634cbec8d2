-- The chunks of a group say which of their inodes are in use, where those that were placed do.
use Rattle.std.proofs.Common.{◌≡◌, ℕ, ◌<◌, Bool, true, false, if◌then◌else◌, nat_lt, List, [], ◌∷◌, get_or, map, refl, sym, ◌∙◌, ap, ap₂, arith}
use Rattle.std.specs.List.{All, filter}
use Rattle.std.proofs.lemmas.List.Elements.{All-head, All-tail}
use Rattle.xfs_geom.specs.Sums.{has_free}
use Rattle.xfs_geom.specs.Volumes.{Volume}
use Rattle.xfs_geom.specs.declared.records.InoRec.{InoRec}
use Rattle.xfs_geom.specs.declared.records.Run.{Run}
use Rattle.xfs_kinds.specs.InodeTrees.{settled_chunk}
use Rattle.xfs_volume.specs.Laws.{AreKept}
use Rattle.xfs_volume.specs.declared.files.FileRec.{FileRec}
use Rattle.xfs_laws.specs.Counting.{chunk_laws, chunk_number, due_chunk, group_chunks}
use Rattle.xfs_place.specs.Wanted.{ArePlaced, inodes_in_group}
use Rattle.xfs_place.specs.declared.placed.GroupPlaced.{GroupPlaced}
use Rattle.xfs_place.specs.declared.wanted.GroupInodes.{GroupInodes}
use Rattle.xfs_render.specs.Rendering.{no_group}
use Rattle.xfs_made.specs.Groups.{due_group_at, due_groups}
use Rattle.xfs_made.proofs.KeptLaws.{groups_kept, no_difference}

abbrev IsDue : (InoRec → InoRec) → InoRec → Type 0
IsDue due r = chunk_number (due (settled_chunk r)) ≡ chunk_number (settled_chunk r)

-- settled chunks are those that are due
chunks_due : (due : InoRec → InoRec) (rs : List InoRec) → All (IsDue due) rs → map chunk_number (map settled_chunk rs) ≡ map chunk_number (map due (map settled_chunk rs))
chunks_due due [] each = refl
chunks_due due (r ∷ rs) each =
    ap₂ (λ (n : ℕ) (ns : List ℕ). n ∷ ns) (sym (All-head (IsDue due) r rs each)) (chunks_due due rs (All-tail (IsDue due) r rs each))

-- a settled chunk has as many free inodes
pub free_stay : (rs : List InoRec) → map settled_chunk (filter has_free rs) ≡ filter has_free (map settled_chunk rs)
free_stay [] = refl
free_stay (r ∷ rs) = by_case (nat_lt 0 r.freecount) (free_stay rs)
  where
    by_case : (t : Bool) → map settled_chunk (filter has_free rs) ≡ filter has_free (map settled_chunk rs)
        → map settled_chunk (if t then r ∷ filter has_free rs else filter has_free rs) ≡ (if t then settled_chunk r ∷ filter has_free (map settled_chunk rs) else filter has_free (map settled_chunk rs))
    by_case true rest = ap (λ (ss : List InoRec). settled_chunk r ∷ ss) rest
    by_case false rest = rest

pub chunks_kept : (v : Volume) (kept : List Run) (reserved : List ℕ) (inodes : List GroupInodes) (groups : List GroupPlaced) (files : List FileRec) (agf_crc agi_crc : ℕ → ℕ)
    → ArePlaced v kept reserved inodes v.agcount groups
    → ((ag : ℕ) → ag < v.agcount → All (IsDue (due_chunk v files ag)) (inodes_in_group inodes ag))
    → AreKept (chunk_laws v files (due_groups v inodes groups agf_crc agi_crc))
chunks_kept v kept reserved inodes groups files agf_crc agi_crc placed due =
    groups_kept (group_chunks v files) (due_group_at v inodes groups agf_crc agi_crc) 0 v.agcount (λ ag low high.
    let p = get_or groups ag no_group in
    let inside : ag < v.agcount = omega (arith, high) in
    let rs = inodes_in_group inodes ag in
    let fino : p.fino ≡ filter has_free rs = (placed.each ag no_group inside).fino in (
      no_difference (map chunk_number (map settled_chunk rs)) (map chunk_number (map (due_chunk v files ag) (map settled_chunk rs))) (chunks_due (due_chunk v files ag) rs (due ag inside)),
      (
        no_difference (map chunk_number (map settled_chunk p.fino)) (map chunk_number (filter has_free (map settled_chunk rs)))
            (ap (map chunk_number) (ap (map settled_chunk) fino ∙ free_stay rs)),
        tt,
      ),
    ))
