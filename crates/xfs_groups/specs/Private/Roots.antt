-- Where the trees of a group begin, by its headers.
use Rattle.std.specs.Prelude.{Option}
use Rattle.std.specs.Option.{option_map}
use Rattle.xfs_heads.specs.declared.free_space.Agf.{Agf}
use Rattle.xfs_heads.specs.declared.inodes.Agi.{Agi}
use Rattle.xfs_groups.specs.declared.heads.Heads.{Heads}
use Rattle.xfs_groups.specs.declared.roots.Root.{Root}

abbrev pub bno_root : Heads → Option Root
bno_root heads = option_map (λ (agf : Agf). record { block = agf.bnoroot; levels = agf.bnolevel }) heads.agf

abbrev pub cnt_root : Heads → Option Root
cnt_root heads = option_map (λ (agf : Agf). record { block = agf.cntroot; levels = agf.cntlevel }) heads.agf

abbrev pub ino_root : Heads → Option Root
ino_root heads = option_map (λ (agi : Agi). record { block = agi.root; levels = agi.level }) heads.agi

abbrev pub fino_root : Heads → Option Root
fino_root heads = option_map (λ (agi : Agi). record { block = agi.free_root; levels = agi.free_level }) heads.agi

abbrev pub rmap_root : Heads → Option Root
rmap_root heads = option_map (λ (agf : Agf). record { block = agf.rmaproot; levels = agf.rmaplevel }) heads.agf
