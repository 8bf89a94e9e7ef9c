use Rattle.std.proofs.Common.{◌≡◌, map, drop}
use Rattle.std.specs.List.{list_any}
use Rattle.std.specs.Str.{bytes_eq}
use Rattle.scons_rules.proofs.interning.is_among.Given as goal

abbrev pub invariant-loop-one : goal.invariant-loop-one
invariant-loop-one g l =
    list_any (bytes_eq l.path) (map g.T.HasPath.path_at l.paths) ≡ list_any (bytes_eq l.path) (map g.T.HasPath.path_at (drop l.one-index l.paths))
