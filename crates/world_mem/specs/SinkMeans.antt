-- What a sink in memory means: its text is all that was printed.
use Rattle.std.specs.Prelude.{◌≡◌, ◌++◌, ℕ, List, Contains}
use Rattle.world_api.specs.Printed.{SinkMeaning}
use Rattle.world_mem.specs.declared.sink.MemSink.{MemSink}

abbrev pub sink_meaning : SinkMeaning MemSink
sink_meaning = record { tells = λ s. Unit {0}; text = λ s. s.text.items; faults = λ s. s.faults }

-- these bytes are printed behind all that was
abbrev pub Prints : List ℕ → MemSink → MemSink → Type 0
Prints bytes old new = sink_meaning.text new ≡ sink_meaning.text old ++ bytes

-- the next write is listed to fail
abbrev pub IsListedWrite : MemSink → Type 0
IsListedWrite sink = Contains sink.failing.items sink.writes
