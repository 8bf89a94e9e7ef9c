use Rattle.std.proofs.Common.{◌≡◌, ◌||◌, drop}
use Rattle.std.specs.List.{list_any}
use Rattle.std.specs.Str.{bytes_eq}
use Rattle.scons_rules.specs.Knowing.{is_cplusplus}
use Rattle.scons_rules.proofs.locals.has_cplusplus.Given as goal

abbrev pub invariant-loop-source : goal.invariant-loop-source
invariant-loop-source l =
    list_any (λ s. is_cplusplus s || list_any (bytes_eq s) l.objects.keys) l.sources
    ≡ list_any (λ s. is_cplusplus s || list_any (bytes_eq s) l.objects.keys) (drop l.source-index l.sources)
