-- The words of the code, seen as the definition's.
use Rattle.std.specs.Prelude.{ℕ, Bool, ◌+◌, ◌==◌, ◌&&◌}
use Rattle.xfs_geom.specs.Features.{FeatureWord, feature_row}
use Rattle.xfs_geom.specs.Stated.{stated_log}
use Rattle.xfs_geom.specs.Superblocks.{agrees_on_inode}
use Rattle.xfs_geom.specs.Volumes.{Volume}
use Rattle.xfs_geom.specs.declared.features.Feature.{Feature}
use Rattle.xfs_geom.specs.declared.stated.Stated.{Stated}

-- a feature word as the definition has it
abbrev pub feature_word : Feature → FeatureWord
feature_word f = feature_row f.word f.offset f.width f.rule

-- the stated groups and addresses are the volume's
abbrev pub states_groups : Volume → Stated → Bool
states_groups v held =
    held.dblocks == v.dblocks
    && held.agblocks == v.agblocks
    && held.agcount == v.agcount
    && held.agblklog == v.agblklog

-- the stated log is the volume's
abbrev pub states_log : Volume → Stated → Bool
states_log v held =
    stated_log held == v.log
    && held.logblocks == v.logblocks
    && held.logsectlog == v.logsectlog

-- the stated inodes are the volume's
abbrev pub states_inodes : ℕ → Stated → Bool
states_inodes rootino held =
    agrees_on_inode rootino held.rootino
    && agrees_on_inode (rootino + 1) held.rbmino
    && agrees_on_inode (rootino + 2) held.rsumino
