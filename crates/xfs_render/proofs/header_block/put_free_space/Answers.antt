use Rattle.std.proofs.Common.{List, ℕ, arith, subst, sym, ◌≡◌, ◌∙◌, ◌≤◌, ap, lit≤, Some}
use Rattle.std.specs.Prelude.{IsTrue}
use Rattle.xfs_word.specs.Crc.{little_field_of}
use Rattle.xfs_word.specs.Field.{IsZero}
use Rattle.xfs_geom.specs.Volumes.{volume_of}
use Rattle.xfs_heads.specs.FreeSpace.{is_agf_shaped, agf_of}
use Rattle.xfs_heads.specs.declared.free_space.Agf.{Agf}
use Rattle.xfs_render.specs.Groups.{due_agf}
use Rattle.xfs_render.proofs.Headers.{agf_shaped}
use Rattle.xfs_render.proofs.header_block.put_free_space.Goals as goal

pub put_agf-requires-clause-shape : goal.put_agf-requires-clause-shape
put_agf-requires-clause-shape c =
    let v = volume_of c.args.g.now in
    subst (λ (a : Agf). IsTrue (is_agf_shaped v c.args.ag a)) (sym c.due_agf.ensures)
    (agf_shaped v c.args.ag c.args.inodes.now c.args.placed.now (omega arith) c.requires.sound)

pub returns-clause-zero_before_lsn : goal.returns-clause-zero_before_lsn
returns-clause-zero_before_lsn c = subst (λ (s : List ℕ). IsZero s 84 124) (sym c.put_sector.ensures.put) c.put_agf.ensures.zero_before_lsn

pub returns-clause-zero_behind_crc : goal.returns-clause-zero_behind_crc
returns-clause-zero_behind_crc c = subst (λ (s : List ℕ). IsZero s 220 292) (sym c.put_sector.ensures.put) c.put_agf.ensures.zero_behind_crc

pub due_agf-requires-clause-group : goal.due_agf-requires-clause-group
due_agf-requires-clause-group c = c.requires.group

pub due_agf-requires-clause-sound : goal.due_agf-requires-clause-sound
due_agf-requires-clause-sound c = c.requires.sound

pub put_agf-requires-clause-group : goal.put_agf-requires-clause-group
put_agf-requires-clause-group c = c.requires.group

pub put_agf-requires-clause-magic : goal.put_agf-requires-clause-magic
put_agf-requires-clause-magic c = ap (λ (a : Agf). a.magicnum) c.due_agf.ensures

pub put_agf-requires-clause-seqno : goal.put_agf-requires-clause-seqno
put_agf-requires-clause-seqno c = ap (λ (a : Agf). a.seqno) c.due_agf.ensures

pub put_agf-requires-clause-uuid : goal.put_agf-requires-clause-uuid
put_agf-requires-clause-uuid c = ap (λ (a : Agf). a.uuid) c.due_agf.ensures

pub put_sector-requires-clause-inside : goal.put_sector-requires-clause-inside
put_sector-requires-clause-inside c = subst (λ (n : ℕ). 1024 ≤ n) (sym c.requires.block) (lit≤ tt)

pub returns-clause-agf : goal.returns-clause-agf
returns-clause-agf c =
    let v = volume_of c.args.g.now in
    let p = c.args.placed.now in
    subst (λ (s : List ℕ). agf_of v c.args.ag s ≡ Some (record (due_agf v c.args.ag p) { crc = little_field_of s 216 4 })) (sym c.put_sector.ensures.put)
    (c.put_agf.ensures.read ∙ ap (λ (a : Agf). Some (record a { crc = little_field_of c.put_agf.new.sector 216 4 })) c.due_agf.ensures)

pub returns-clause-keeps : goal.returns-clause-keeps
returns-clause-keeps c = c.put_sector.ensures.keeps
