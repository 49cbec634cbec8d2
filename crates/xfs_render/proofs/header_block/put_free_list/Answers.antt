use Rattle.std.proofs.Common.{◌≡◌, ◌∙◌, ℕ, List, sym, ap, length, arith, refl, Some, ◌≤◌, subst, lit≤}
use Rattle.std.specs.Prelude.{IsTrue}
use Rattle.std.proofs.lemmas.Bool.{and_parts}
use Rattle.xfs_word.specs.Field.{field_of}
use Rattle.xfs_geom.specs.Volumes.{volume_of}
use Rattle.xfs_heads.specs.FreeList.{agfl_of}
use Rattle.xfs_heads.specs.FreeSpace.{has_free_list}
use Rattle.xfs_heads.specs.Heads.{numbers}
use Rattle.xfs_heads.specs.declared.free_list.Agfl.{Agfl}
use Rattle.xfs_heads.specs.declared.free_space.Agf.{Agf}
use Rattle.xfs_render.specs.Groups.{due_agf, due_agfl}
use Rattle.xfs_render.proofs.Headers.{agf_shaped, agfl_is}
use Rattle.xfs_render.proofs.header_block.put_free_list.Goals as goal

pub returns-clause-agfl : goal.returns-clause-agfl
returns-clause-agfl c = λ crc.
    let v = volume_of c.args.g.now in
    let p = c.args.placed.now in
    let agf : Agf = record (due_agf v c.args.ag p) { crc = crc } in
    let listed = c.as_slice.ensures in
    let count : c.new.result.count ≡ length p.agfl = c.new.ensures.count ∙ ap length listed in
    let same : c.new.result ≡ due_agfl p = agfl_is p c.new.result count (c.new.ensures.active ∙ listed) c.new.ensures.unused in
    let bounds : IsTrue (has_free_list agf) = (and_parts _ _ (agf_shaped v c.args.ag c.args.inodes.now p (omega arith) c.requires.sound)).1 in
    ap (agfl_of v c.args.ag agf) c.put_sector.ensures.put
    ∙ c.put_agfl.ensures.read agf refl (sym count) bounds
    ∙ ap (λ (a : Agfl). Some a) same

pub returns-clause-entries : goal.returns-clause-entries
returns-clause-entries c =
    let p = c.args.placed.now in
    let listed = c.as_slice.ensures in
    let count : c.new.result.count ≡ length p.agfl = c.new.ensures.count ∙ ap length listed in
    let same : c.new.result ≡ due_agfl p = agfl_is p c.new.result count (c.new.ensures.active ∙ listed) c.new.ensures.unused in
    ap (λ (sector : List ℕ). numbers sector 36 119) c.put_sector.ensures.put
    ∙ c.put_agfl.ensures.entries
    ∙ ap (λ (a : Agfl). a.entries) same

pub returns-clause-lsn : goal.returns-clause-lsn
returns-clause-lsn c = ap (λ (sector : List ℕ). field_of sector 24 8) c.put_sector.ensures.put ∙ c.put_agfl.ensures.lsn

pub put_agfl-requires-clause-group : goal.put_agfl-requires-clause-group
put_agfl-requires-clause-group c = c.requires.group

pub put_sector-requires-clause-inside : goal.put_sector-requires-clause-inside
put_sector-requires-clause-inside c = subst (λ (n : ℕ). 2048 ≤ n) (sym c.requires.block) (lit≤ tt)

pub returns-clause-keeps : goal.returns-clause-keeps
returns-clause-keeps c = c.put_sector.ensures.keeps
