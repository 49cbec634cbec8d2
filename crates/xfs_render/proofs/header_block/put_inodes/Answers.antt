use Rattle.std.proofs.Common.{List, ℕ, arith, subst, sym, ◌≡◌, ◌∙◌, ◌≤◌, ap, lit≤, Some}
use Rattle.std.specs.Prelude.{IsTrue}
use Rattle.xfs_word.specs.Crc.{little_field_of}
use Rattle.xfs_word.specs.Field.{IsZero}
use Rattle.xfs_geom.specs.Volumes.{volume_of}
use Rattle.xfs_heads.specs.Inodes.{is_agi_shaped, agi_of}
use Rattle.xfs_heads.specs.declared.inodes.Agi.{Agi}
use Rattle.xfs_render.specs.Groups.{due_agi}
use Rattle.xfs_render.proofs.Headers.{agi_shaped}
use Rattle.xfs_render.proofs.header_block.put_inodes.Goals as goal

pub put_agi-requires-clause-shape : goal.put_agi-requires-clause-shape
put_agi-requires-clause-shape c =
    let v = volume_of c.args.g.now in
    subst (λ (a : Agi). IsTrue (is_agi_shaped v c.args.ag a)) (sym c.due_agi.ensures)
    (agi_shaped v c.args.ag c.args.inodes.now c.args.placed.now (omega arith) c.requires.sound)

pub returns-clause-zero_behind_crc : goal.returns-clause-zero_behind_crc
returns-clause-zero_behind_crc c = subst (λ (s : List ℕ). IsZero s 316 4) (sym c.put_sector.ensures.put) c.put_agi.ensures.zero_behind_crc

pub returns-clause-zero_behind_levels : goal.returns-clause-zero_behind_levels
returns-clause-zero_behind_levels c = subst (λ (s : List ℕ). IsZero s 336 176) (sym c.put_sector.ensures.put) c.put_agi.ensures.zero_behind_levels

pub due_agi-requires-clause-group : goal.due_agi-requires-clause-group
due_agi-requires-clause-group c = c.requires.group

pub due_agi-requires-clause-sound : goal.due_agi-requires-clause-sound
due_agi-requires-clause-sound c = c.requires.sound

pub put_agi-requires-clause-group : goal.put_agi-requires-clause-group
put_agi-requires-clause-group c = c.requires.group

pub put_agi-requires-clause-magic : goal.put_agi-requires-clause-magic
put_agi-requires-clause-magic c = ap (λ (a : Agi). a.magicnum) c.due_agi.ensures

pub put_agi-requires-clause-seqno : goal.put_agi-requires-clause-seqno
put_agi-requires-clause-seqno c = ap (λ (a : Agi). a.seqno) c.due_agi.ensures

pub put_agi-requires-clause-uuid : goal.put_agi-requires-clause-uuid
put_agi-requires-clause-uuid c = ap (λ (a : Agi). a.uuid) c.due_agi.ensures

pub put_sector-requires-clause-inside : goal.put_sector-requires-clause-inside
put_sector-requires-clause-inside c = subst (λ (n : ℕ). 1536 ≤ n) (sym c.requires.block) (lit≤ tt)

pub returns-clause-agi : goal.returns-clause-agi
returns-clause-agi c =
    let v = volume_of c.args.g.now in
    let p = c.args.placed.now in
    subst (λ (s : List ℕ). agi_of v c.args.ag s ≡ Some (record (due_agi v c.args.ag c.args.inodes.now p) { crc = little_field_of s 312 4 })) (sym c.put_sector.ensures.put)
    (c.put_agi.ensures.read ∙ ap (λ (a : Agi). Some (record a { crc = little_field_of c.put_agi.new.sector 312 4 })) c.due_agi.ensures)

pub returns-clause-keeps : goal.returns-clause-keeps
returns-clause-keeps c = c.put_sector.ensures.keeps
