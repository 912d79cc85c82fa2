-- What contracts see of the adapters over the readers and writers of std.
use Rattle.std.specs.Prelude.{ℕ}
use Rattle.rcv_io.specs.declared.streams.StdSource.{StdSource}
use Rattle.rcv_io.specs.declared.streams.StdSink.{StdSink}

-- the reader of a source
abbrev pub inner_reader : {R : Type 0} → StdSource R → R
inner_reader s = s.reader

-- the writer of a sink
abbrev pub inner_writer : {W : Type 0} → StdSink W → W
inner_writer s = s.writer

-- how many bytes the source has given
abbrev pub source_given : {R : Type 0} → StdSource R → ℕ
source_given s = s.given

-- how often the source has failed
abbrev pub source_faults : {R : Type 0} → StdSource R → ℕ
source_faults s = s.faults

-- how often the sink has failed
abbrev pub sink_faults : {W : Type 0} → StdSink W → ℕ
sink_faults s = s.faults
