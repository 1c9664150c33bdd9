-- What contracts see of sources and sinks.
use Rattle.std.specs.Prelude.{Bool}
use Rattle.std.specs.Global.{Global}
use Rattle.std.specs.declared.io.buffered.BufReader.{BufReader}
use Rattle.ber_core.specs.declared.source.from_read.FromRead.{FromRead}
use Rattle.ber_core.specs.declared.source.from_buffer.FromBuffer.{FromBuffer}
use Rattle.ber_core.specs.declared.sink.to_write.ToWrite.{ToWrite}

-- the reader under a source, and whether the source broke
abbrev pub reader_of : {R : Type 0} → FromRead R → R
reader_of source = source.inner

abbrev pub is_source_broken : {R : Type 0} → FromRead R → Bool
is_source_broken source = source.broken

-- the buffer under a source, with its reader, and whether the source broke
abbrev pub buffer_of : {R : Type 0} → FromBuffer R → BufReader R Global
buffer_of source = source.inner

abbrev pub is_buffer_broken : {R : Type 0} → FromBuffer R → Bool
is_buffer_broken source = source.broken

-- the writer under a sink, and whether the sink broke
abbrev pub writer_of : {W : Type 0} → ToWrite W → W
writer_of sink = sink.inner

abbrev pub is_sink_broken : {W : Type 0} → ToWrite W → Bool
is_sink_broken sink = sink.broken
