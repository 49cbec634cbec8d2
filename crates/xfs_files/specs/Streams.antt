-- What contracts see of a source over a reader and of a sink over a writer.
use Rattle.std.specs.Prelude.{ℕ}
use Rattle.xfs_files.specs.declared.streams.StreamSource.{StreamSource}
use Rattle.xfs_files.specs.declared.streams.StreamSink.{StreamSink}

-- the reader
abbrev pub reader_of : {R : Type 0} → StreamSource R → R
reader_of source = source.reader

-- how many calls of the source failed
abbrev pub source_faults : {R : Type 0} → StreamSource R → ℕ
source_faults source = source.faults

-- the writer
abbrev pub writer_of : {W : Type 0} → StreamSink W → W
writer_of sink = sink.writer

-- how many calls of the sink failed
abbrev pub sink_faults : {W : Type 0} → StreamSink W → ℕ
sink_faults sink = sink.faults
