-- Ends of a reading without what is told besides of the place of a fault of form: which token doesn't fit, which bracket isn't closed.
use Rattle.std.specs.Prelude.{[], Option, Some, None}
use Rattle.scons_host.specs.declared.end.HostEnd.{HostEnd}
use Rattle.scons_host.specs.declared.end.HostEnd.TheVariants as end
use Rattle.scons_host.specs.declared.end.ReadKind.{ReadKind}
use Rattle.scons_host.specs.declared.end.ReadKind.TheVariants as read
use Rattle.scons_host.specs.declared.stop.Stop.{Stop}
use Rattle.scons_host.specs.declared.stop.Stop.TheVariants as stop

-- a fault without what is told besides
abbrev pub untold_kind : ReadKind → ReadKind
untold_kind (read.Lex kind told) = read.Lex kind []
untold_kind (read.Parse kind told) = read.Parse kind []
untold_kind (read.NoScript path) = read.NoScript path
untold_kind (read.Eval kind) = read.Eval kind
untold_kind (read.Name fault) = read.Name fault
untold_kind (read.Key name) = read.Key name
untold_kind (read.TwoRules path first) = read.TwoRules path first

abbrev pub untold_end : HostEnd → HostEnd
untold_end (end.Reading path line kind) = end.Reading path line (untold_kind kind)
untold_end (end.Tree path) = end.Tree path
untold_end end.Out = end.Out
untold_end (end.TooLarge path size) = end.TooLarge path size
untold_end (end.TooMany what count) = end.TooMany what count
untold_end end.Memory = end.Memory

abbrev pub untold_if : Option HostEnd → Option HostEnd
untold_if (Some e) = Some (untold_end e)
untold_if None = None

-- a stop without it, where it stops for a fault of another script
abbrev pub untold_stop : Stop → Stop
untold_stop (stop.Here kind) = stop.Here kind
untold_stop (stop.There path line kind) = stop.There path line (untold_kind kind)
untold_stop (stop.Tree path) = stop.Tree path
untold_stop stop.Out = stop.Out
untold_stop (stop.TooLarge path size) = stop.TooLarge path size
untold_stop (stop.TooMany what count) = stop.TooMany what count
untold_stop stop.Memory = stop.Memory
