use Rattle.std.proofs.Common.{◌≡◌, true, false, sym, ap, ◌∙◌, Some, rules}
use Rattle.xfs_geom.specs.Volumes.{volume_of}
use Rattle.xfs_word.specs.Seal.{is_sealed}
use Rattle.xfs_word.specs.declared.kinds.SealKind.TheVariants as Kind
use Rattle.xfs_heads.specs.Heads.{head_seal}
use Rattle.xfs_heads.specs.FreeSpace.{has_free_list}
use Rattle.xfs_heads.specs.FreeList.{has_blocks}
use Rattle.xfs_heads.proofs.Listed.{by_blocks}
use Rattle.xfs_heads.proofs.ReadBack.{if_true, if_false}
use Rattle.xfs_heads.proofs.free_list.read_agfl.Goals as goal

pub returns-then-has_blocks-clause-value : goal.returns-then-has_blocks-clause-value
returns-then-has_blocks-clause-value c =
    let v = volume_of c.args.g.now in
    let bounds : has_free_list c.args.agf.now ≡ true = search rules in
    let sealed : is_sealed (head_seal Kind.Agfl v c.args.ag) c.args.sector.now ≡ true = search rules in
    let blocks : has_blocks v c.args.ag c.stated-agfl.result ≡ true = search rules in
    ap Some c.stated-agfl.ensures
    ∙ sym (by_blocks v c.args.ag c.args.agf.now c.args.sector.now bounds sealed ∙ if_true _ _ _ (ap (has_blocks v c.args.ag) (sym c.stated-agfl.ensures) ∙ blocks))

pub returns-else-has_blocks-clause-value : goal.returns-else-has_blocks-clause-value
returns-else-has_blocks-clause-value c =
    let v = volume_of c.args.g.now in
    let bounds : has_free_list c.args.agf.now ≡ true = search rules in
    let sealed : is_sealed (head_seal Kind.Agfl v c.args.ag) c.args.sector.now ≡ true = search rules in
    let blocks : has_blocks v c.args.ag c.stated-agfl.result ≡ false = search rules in
    sym (by_blocks v c.args.ag c.args.agf.now c.args.sector.now bounds sealed ∙ if_false _ _ _ (ap (has_blocks v c.args.ag) (sym c.stated-agfl.ensures) ∙ blocks))
