-- The directories of a new volume were built.
use Rattle.std.proofs.Common.{ℕ, List}
use Rattle.xfs_geom.specs.Volumes.{Volume}
use Rattle.xfs_proto.specs.declared.protofile.ProtoNode.{ProtoNode}
use Rattle.xfs_filled.specs.Directories.{HaveDirectoryImages}
use Rattle.xfs_populated.specs.Names.{AreDirectoriesBuilt}

pub are_built : (v : Volume) (starts : List ℕ) (ns : List ProtoNode) → HaveDirectoryImages v starts ns → AreDirectoriesBuilt v starts ns
are_built v starts ns has = record {
  each = λ k low dir.
      let one = has.each k low dir in
      record {
        image = one.image;
        is = record {
          short_bytes_are = one.is.short_bytes_are;
          short_reads = one.is.short_reads;
          short_none = one.is.short_none;
          data_count = one.is.data_count;
          index_count = one.is.index_count;
          free_count = one.is.free_count;
          count = one.is.count;
          blocks_are = one.is.blocks_are;
          magics = one.is.magics;
          whole = one.is.whole;
        };
      };
}
