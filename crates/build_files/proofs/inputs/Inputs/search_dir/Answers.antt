use Rattle.std.proofs.Common.{◌≡◌, ◌∙◌, ◌∷◌, [], Option, ap, sym}
use Rattle.std.specs.Option.{option_to_list}
use Rattle.build_model.specs.Rules.{Path}
use Rattle.build_means.specs.Finds.{places_in}
use Rattle.build_files.proofs.Candidates.{no_items}
use Rattle.build_files.proofs.Searching.{found_one_of, found_same, found_nowhere, places_same}
use Rattle.build_files.proofs.inputs.Inputs.search_dir.Goals as goal

pub returns-in-Some-clause-found : goal.returns-in-Some-clause-found
returns-in-Some-clause-found g c = λ told b is.
    let bare : c.args.graph.now.variants ≡ [] =
    sym (c.as_slice.ensures ∙ c.variants.ensures) ∙ no_items c.as_slice.result.now (sym c.is_empty.ensures ∙ c.if-not-is_empty.false) in
    found_same b c.known.new.graph (c.in-Some.path ∷ []) (places_in b.graph c.args.name.now c.args.dir.now) c.known.result
    (sym (ap (λ (o : Option Path). option_to_list o) c.in-Some.is) ∙ c.in_ok-path.ensures.only c.args.graph.now (sym c.top.ensures) bare
    ∙ places_same b c.args.graph.now c.args.self.now _ c.args.name.now c.args.dir.now is)
    (found_one_of b c.known.new.graph c.in-Some.path c.known.result (c.known.ensures.known told b is))

pub returns-in-None-clause-found : goal.returns-in-None-clause-found
returns-in-None-clause-found g c = λ told b is.
    let bare : c.args.graph.now.variants ≡ [] =
    sym (c.as_slice.ensures ∙ c.variants.ensures) ∙ no_items c.as_slice.result.now (sym c.is_empty.ensures ∙ c.if-not-is_empty.false) in
    found_nowhere b c.args.graph.now (places_in b.graph c.args.name.now c.args.dir.now)
    (sym (ap (λ (o : Option Path). option_to_list o) c.in-None.is) ∙ c.in_ok-path.ensures.only c.args.graph.now (sym c.top.ensures) bare
    ∙ places_same b c.args.graph.now c.args.self.now _ c.args.name.now c.args.dir.now is)
