-- The parts of a group, all of them there, or the first that is not.
use Rattle.std.proofs.Common.{◌≡◌, ℕ, ◌<◌, Option, Some, None, Result, Ok, Err, refl, sym, ap, arith}
use Rattle.std.specs.Option.{IsSome}
use Rattle.xfs_heads.specs.declared.free_list.Agfl.{Agfl}
use Rattle.xfs_heads.specs.declared.free_space.Agf.{Agf}
use Rattle.xfs_heads.specs.declared.inodes.Agi.{Agi}
use Rattle.xfs_geom.specs.declared.records.InoRec.{InoRec}
use Rattle.xfs_geom.specs.declared.records.RmapRec.{RmapRec}
use Rattle.xfs_geom.specs.declared.records.Span.{Span}
use Rattle.xfs_tree.specs.Reading.{Contents}
use Rattle.xfs_volume.specs.declared.groups.GroupRec.{GroupRec}
use Rattle.xfs_image.specs.Groups.{group_record, with_part}
use Rattle.xfs_image.specs.declared.findings.Finding.{Finding}
use Rattle.xfs_image.specs.declared.findings.Finding.TheVariants as Found
use Rattle.xfs_groups.specs.declared.heads.Heads.{Heads}
use Rattle.xfs_groups.specs.declared.trees.Trees.{Trees}
use Rattle.xfs_groups.specs.Private.Parts.{first_lacking, group_with, unless_there}

-- a part that is there, and none later that is lacking
there : {A : Type 0} (o : Option A) (number later : ℕ) → 0 < number → unless_there o number later ≡ 0 → (IsSome o) × (later ≡ 0)
there None number later some e = absurd (omega (arith, some, e))
there (Some a) number later some e = (refl, e)

pub record AreThere (heads : Heads) (trees : Trees) : Type 0 where
  pub agf : IsSome heads.agf
  pub agi : IsSome heads.agi
  pub agfl : IsSome heads.agfl
  pub bno : IsSome trees.bno
  pub cnt : IsSome trees.cnt
  pub ino : IsSome trees.ino
  pub fino : IsSome trees.fino
  pub rmap : IsSome trees.rmap

pub are_there : (heads : Heads) (trees : Trees) → first_lacking heads trees ≡ 0 → AreThere heads trees
are_there heads trees none =
    let l8 = unless_there trees.rmap 8 0 in
    let l7 = unless_there trees.fino 7 l8 in
    let l6 = unless_there trees.ino 6 l7 in
    let l5 = unless_there trees.cnt 5 l6 in
    let l4 = unless_there trees.bno 4 l5 in
    let l3 = unless_there heads.agfl 3 l4 in
    let l2 = unless_there heads.agi 2 l3 in
    let t1 = there heads.agf 1 l2 (omega arith) none in
    let t2 = there heads.agi 2 l3 (omega arith) t1.1 in
    let t3 = there heads.agfl 3 l4 (omega arith) t2.1 in
    let t4 = there trees.bno 4 l5 (omega arith) t3.1 in
    let t5 = there trees.cnt 5 l6 (omega arith) t4.1 in
    let t6 = there trees.ino 6 l7 (omega arith) t5.1 in
    let t7 = there trees.fino 7 l8 (omega arith) t6.1 in
    let t8 = there trees.rmap 8 0 (omega arith) t7.1 in
    record { agf = t1.0; agi = t2.0; agfl = t3.0; bno = t4.0; cnt = t5.0; ino = t6.0; fino = t7.0; rmap = t8.0 }

-- a group of which all parts are there
pub all_there : (ag : ℕ) (heads : Heads) (trees : Trees) (agf : Agf) (agi : Agi) (agfl : Agfl) (bno cnt : Contents Span) (ino fino : Contents InoRec) (rmap : Contents RmapRec)
    → heads.agf ≡ Some agf → heads.agi ≡ Some agi → heads.agfl ≡ Some agfl → trees.bno ≡ Some bno → trees.cnt ≡ Some cnt → trees.ino ≡ Some ino → trees.fino ≡ Some fino → trees.rmap ≡ Some rmap
    → Ok (group_record agf agi agfl bno cnt ino fino rmap) ≡ group_with ag heads trees
all_there ag heads trees agf agi agfl bno cnt ino fino rmap e1 e2 e3 e4 e5 e6 e7 e8 =
    sym (λ i.
    with_part ag 1 (e1 i) (λ agf. with_part ag 2 (e2 i) (λ agi. with_part ag 3 (e3 i) (λ agfl.
    with_part ag 4 (e4 i) (λ bno. with_part ag 5 (e5 i) (λ cnt. with_part ag 6 (e6 i) (λ ino. with_part ag 7 (e7 i) (λ fino. with_part ag 8 (e8 i) (λ rmap.
    Ok (group_record agf agi agfl bno cnt ino fino rmap))))))))))

-- the first part that is lacking is what is found
step : {A : Type 0} (ag number : ℕ) (o : Option A) (later part : ℕ) (next : A → Result GroupRec Finding) → ((a : A) → part ≡ later → Err (Found.Part part ag) ≡ next a)
    → part ≡ unless_there o number later → Err (Found.Part part ag) ≡ with_part ag number o next
step ag number None later part next rest is = ap (λ (p : ℕ). Err (Found.Part p ag)) is
step ag number (Some a) later part next rest is = rest a is

pub lacks : (ag : ℕ) (heads : Heads) (trees : Trees) (part : ℕ) → part ≡ first_lacking heads trees → (part ≡ 0 → ⊥) → Err (Found.Part part ag) ≡ group_with ag heads trees
lacks ag heads trees part is some =
    let l8 = unless_there trees.rmap 8 0 in
    let l7 = unless_there trees.fino 7 l8 in
    let l6 = unless_there trees.ino 6 l7 in
    let l5 = unless_there trees.cnt 5 l6 in
    let l4 = unless_there trees.bno 4 l5 in
    let l3 = unless_there heads.agfl 3 l4 in
    let l2 = unless_there heads.agi 2 l3 in
    step ag 1 heads.agf l2 part _ (λ agf e1. step ag 2 heads.agi l3 part _ (λ agi e2. step ag 3 heads.agfl l4 part _ (λ agfl e3.
    step ag 4 trees.bno l5 part _ (λ bno e4. step ag 5 trees.cnt l6 part _ (λ cnt e5. step ag 6 trees.ino l7 part _ (λ ino e6. step ag 7 trees.fino l8 part _ (λ fino e7.
    step ag 8 trees.rmap 0 part _ (λ rmap e8. absurd (some e8)) e7) e6) e5) e4) e3) e2) e1) is
