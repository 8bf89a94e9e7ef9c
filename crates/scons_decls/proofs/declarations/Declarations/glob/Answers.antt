use Rattle.std.proofs.Common.{◌≡◌, ◌∙◌, ap, map}
use Rattle.std.specs.Prelude.{option_copied}
use Rattle.std.specs.List.{list_any}
use Rattle.std.specs.Str.{bytes_eq}
use Rattle.scons_decls.specs.declared.given.Given.TheVariants.{File}
use Rattle.scons_decls.specs.Globs.{IsGlobbed, source_of, meant_by}
use Rattle.scons_decls.specs.State.{declared_of}
use Rattle.scons_decls.proofs.Globbing.{any_noted_of, if_ok}
use Rattle.scons_decls.proofs.declarations.Declarations.glob.Goals as goal

pub returns-clause-ok : goal.returns-clause-ok
returns-clause-ok c =
    let d = declared_of c.args.self.now in
    let search = c.in_ok-search.search in
    let files = c.args.files.now in
    let source : option_copied c.as_ref.result ≡ source_of d search.dir = c.as_ref.ensures.value ∙ c.in_ok-source.ensures {u = tt} in
    if_ok (λ nodes. nodes ≡ map File c.as_slice.result.now) (IsGlobbed d c.args.env.0 c.args.pattern.now files) c.as_nodes.result c.as_nodes.ensures.ok (λ nodes named. record {
      search = search;
      searched = (c.in_ok-search.ensures {u = tt}).ok;
      paths = c.sort.new.self.keys;
      named = named ∙ ap (map File) c.as_slice.ensures.keys;
      meant = λ path.
          c.sort.ensures.reordered.2 path ∙ ap (list_any (bytes_eq path)) (c.in_ok-paths.ensures {u = tt})
          ∙ any_noted_of path (meant_by d search (option_copied c.as_ref.result) files)
          ∙ ap (λ source. list_any (bytes_eq path) (meant_by d search source files)) source;
      distinct = c.sort.ensures.unique;
      sorted = (c.in_ok-sort.ensures {u = tt}).sorted;
    })
