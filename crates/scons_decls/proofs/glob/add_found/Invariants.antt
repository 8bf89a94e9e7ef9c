use Rattle.std.proofs.Common.{◌≡◌, drop}
use Rattle.std.specs.Prelude.{option_copied}
use Rattle.std.specs.List.{filter_map}
use Rattle.std.specs.Str.{bytes_eq}
use Rattle.indexmap.specs.IndexSet.{insert_all}
use Rattle.scons_decls.specs.Globs.{found}
use Rattle.scons_decls.proofs.glob.add_found.Given as goal

-- with what is left, all that is found is noted
abbrev pub invariant-loop-path : goal.invariant-loop-path
invariant-loop-path l =
    insert_all bytes_eq l.paths.keys (filter_map (found l.search (option_copied l.source)) (drop l.path-index l.some))
    ≡ insert_all bytes_eq l.fn.paths.keys (filter_map (found l.search (option_copied l.source)) l.some)
