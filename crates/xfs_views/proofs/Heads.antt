-- A free list that reads has at most 119 entries, and they are blocks that it can have.
use Rattle.std.proofs.Common.{◌≡◌, ℕ, ◌≤◌, Bool, true, false, ◌&&◌, if◌then◌else◌, List, Some, None, refl, sym, ◌∙◌, subst}
use Rattle.std.specs.List.{list_all}
use Rattle.std.proofs.lemmas.Bool.{and_parts}
use Rattle.xfs_word.specs.Seal.{is_sealed}
use Rattle.xfs_word.specs.declared.kinds.SealKind.TheVariants as Kind
use Rattle.xfs_geom.specs.Volumes.{Volume}
use Rattle.xfs_heads.proofs.Listed.{by_blocks, few}
use Rattle.xfs_heads.specs.FreeList.{active, agfl_of, has_blocks, stated_agfl}
use Rattle.xfs_heads.specs.FreeSpace.{has_free_list}
use Rattle.xfs_heads.specs.Heads.{head_seal, is_listable}
use Rattle.xfs_heads.specs.declared.free_list.Agfl.{Agfl}
use Rattle.xfs_heads.specs.declared.free_space.Agf.{Agf}

-- what is there where a test passes passes it
some_is : {A : Type 0} (test : Bool) (held due : A) → (if test then Some held else None) ≡ Some due → (test ≡ true) × (held ≡ due)
some_is true held due is = (refl, cc)
some_is false held due is = absurd cc

-- the bounds agree, and the sector is sealed
stated_so : (v : Volume) (ag : ℕ) (agf : Agf) (sector : List ℕ) (agfl : Agfl) → agfl_of v ag agf sector ≡ Some agfl
    → (has_free_list agf ≡ true) × (is_sealed (head_seal Kind.Agfl v ag) sector ≡ true)
unfolding agfl_of
stated_so v ag agf sector agfl reads =
    let bounds = has_free_list agf in
    let sealed = is_sealed (head_seal Kind.Agfl v ag) sector in
    let test = (some_is (bounds && sealed && list_all (is_listable v ag) (active sector agf.flfirst agf.flcount)) (stated_agfl agf sector) agfl reads).0 in
    and_parts bounds sealed (and_parts (bounds && sealed) (list_all (is_listable v ag) (active sector agf.flfirst agf.flcount)) test).0

pub list_sound : (v : Volume) (ag : ℕ) (agf : Agf) (sector : List ℕ) (agfl : Agfl) → agfl_of v ag agf sector ≡ Some agfl
    → (agfl.count ≤ 119) × (has_blocks v ag agfl ≡ true)
list_sound v ag agf sector agfl reads =
    let both = stated_so v ag agf sector agfl reads in
    let is = some_is (has_blocks v ag (stated_agfl agf sector)) (stated_agfl agf sector) agfl (sym (by_blocks v ag agf sector both.0 both.1) ∙ reads) in
    subst (λ (a : Agfl). (a.count ≤ 119) × (has_blocks v ag a ≡ true)) is.1 (few agf both.0, is.0)
