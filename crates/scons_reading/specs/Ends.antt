-- How a reading ends that gives no graph: by a stop, or by a fault of the scripts.
use Rattle.std.specs.Prelude.{◌≡◌, ℕ, List, codes, Option, Some, if◌then◌else◌}
use Rattle.py_host.specs.declared.place.Place.{Place}
use Rattle.py_meaning.specs.declared.fault.EvalKind.{EvalKind}
use Rattle.py_meaning.specs.declared.fault.EvalKind.TheVariants as kind
use Rattle.py_meaning.specs.States.{Fault}
use Rattle.scons_calls.specs.LeftOut.{is_name_left_out}
use Rattle.scons_decls.specs.declared.fault.NameFault.TheVariants as name
use Rattle.scons_host.specs.declared.end.HostEnd.{HostEnd}
use Rattle.scons_host.specs.declared.end.HostEnd.TheVariants as end
use Rattle.scons_host.specs.declared.end.ReadKind.{ReadKind}
use Rattle.scons_host.specs.declared.end.ReadKind.TheVariants as read
use Rattle.scons_host.specs.declared.stop.Stop.{Stop}
use Rattle.scons_host.specs.declared.stop.Stop.TheVariants as stop
use Rattle.scons_host.specs.Lookups.{script_at}
use Rattle.scons_host.specs.Plain.{Plain}
use Rattle.scons_host.specs.SoFar.{SoFar}
use Rattle.scons_host.specs.Untold.{untold_end}

-- the end that a stop is where no script runs: a fault of none is one of the first of all scripts, on no line
abbrev pub end_of : Stop → HostEnd
end_of (stop.Here kind) = end.Reading (codes "SConstruct") 0 kind
end_of (stop.There path line kind) = end.Reading path line kind
end_of (stop.Tree path) = end.Tree path
end_of stop.Out = end.Out
end_of (stop.TooLarge path size) = end.TooLarge path size
end_of (stop.TooMany what count) = end.TooMany what count
end_of stop.Memory = end.Memory

-- the same without what is told besides of a fault of form
abbrev pub told_end : Stop → HostEnd
told_end s = untold_end (end_of s)

-- an end that isn't one of the file tree or the sink, nor want of memory
abbrev pub IsToldEnd : HostEnd → Type 0
IsToldEnd (end.Reading path line kind) = Unit {0}
IsToldEnd (end.TooLarge path size) = Unit {0}
IsToldEnd (end.TooMany what count) = Unit {0}
IsToldEnd (end.Tree path) = ⊥
IsToldEnd end.Out = ⊥
IsToldEnd end.Memory = ⊥

-- a name that stands for nothing: one of SCons that is left out here is told as such
abbrev pub unknown : List ℕ → ReadKind
unknown word = if is_name_left_out word then read.Name (name.OutOfProfile word) else read.Eval (kind.Name word)

-- a fault of the scripts' own
abbrev pub own_kind : EvalKind → ReadKind
own_kind (kind.Name word) = unknown word
own_kind (kind.Value fault) = read.Eval (kind.Value fault)
own_kind (kind.Args called) = read.Eval (kind.Args called)
own_kind kind.NotCallable = read.Eval kind.NotCallable
own_kind kind.Depth = read.Eval kind.Depth
own_kind kind.Host = read.Eval kind.Host

abbrev pub own_end : SoFar → Place → EvalKind → HostEnd
own_end s place k = end.Reading (script_at s place.script) place.line (own_kind k)

-- the end that a fault is where this is read: of a refused call what was kept of it, else a fault on the script's line
abbrev pub IsKindEnd : EvalKind → Place → Plain SoFar HostEnd → HostEnd → Type 0
IsKindEnd kind.Host place k e = k.end ≡ Some e
IsKindEnd (kind.Name word) place k e = e ≡ own_end k.state place (kind.Name word)
IsKindEnd (kind.Value fault) place k e = e ≡ own_end k.state place (kind.Value fault)
IsKindEnd (kind.Args called) place k e = e ≡ own_end k.state place (kind.Args called)
IsKindEnd kind.NotCallable place k e = e ≡ own_end k.state place kind.NotCallable
IsKindEnd kind.Depth place k e = e ≡ own_end k.state place kind.Depth

abbrev pub IsFaultEnd : Fault → Plain SoFar HostEnd → HostEnd → Type 0
IsFaultEnd fault k e = IsKindEnd fault.kind fault.place k e
