use Rattle.std.proofs.Common.{◌≡◌, ◌∙◌, ap, [], List, ℕ}
use Rattle.std.specs.Prelude.{option_copied, unwrap_or}
use Rattle.std.specs.List.{filter_map}
use Rattle.std.specs.Str.{bytes_eq}
use Rattle.indexmap.specs.IndexSet.{insert_all}
use Rattle.scons_decls.specs.Globs.{found}
use Rattle.scons_decls.proofs.Globbing.{found_thrice}
use Rattle.scons_decls.proofs.glob.meant_by.Goals as goal

pub returns : goal.returns
returns c =
    let f = found c.args.search.now (option_copied c.args.source) in
    let here = c.in_ok-add_targets.ensures {u = tt} ∙ ap (λ (keys : List (List ℕ)). insert_all bytes_eq keys (filter_map f (unwrap_or (option_copied c.in_dir-here.result) []))) c.new-paths.ensures.empty
    ∙ ap (λ targets. insert_all bytes_eq [] (filter_map f (unwrap_or targets []))) c.in_dir-here.ensures in
    let beside = c.in_ok-add_targets-2.ensures {u = tt} ∙ ap (λ (targets : List (List ℕ)). insert_all bytes_eq c.add_targets.new.paths.keys (filter_map f targets)) c.targets_beside-beside.ensures in
    found_thrice f _ _ _ _ _ _ here beside (c.in_ok-add_found.ensures {u = tt} ∙ ap (λ (files : List (List ℕ)). insert_all bytes_eq c.add_targets-2.new.paths.keys (filter_map f files)) c.as_slice.ensures)
