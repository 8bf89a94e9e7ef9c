use Rattle.std.proofs.Common.{◌≡◌, ◌++◌, ◌∷◌, [], ◌∙◌, ap, sym, true, length, drop, ◌-◌}
use Rattle.std.specs.Prelude.{◌&&◌}
use Rattle.scons_decls.specs.Patterns.{is_run}
use Rattle.scons_decls.proofs.Matching.{Ends, ends_none, ends_more, ends_all, none_split, split_none}
use Rattle.scons_decls.proofs.pattern.push_first.Goals as goal

pub places-init : goal.places-init
places-init c = ends_none c.args.parts.now [] _ true ((c.in_ok-push.ensures {u = tt}).items ∙ ap (λ l. l ++ true ∷ []) c.requires) (sym none_split)

pub places-preserved : goal.places-preserved
places-preserved c =
    let part = c.index-parts-parts.result in
    let back = drop (length c.args.parts.now - c.places.place) c.args.parts.now in
    ends_more c.args.parts.now [] c.places.place part c.places.reached.items _ c.places.behind _ c.places-test.true c.index-parts-parts.is c.places.invariant
    (c.takes_none-behind.ensures ∙ ap (λ b. is_run part && b) c.places.invariant.last ∙ sym (split_none part back))
    (c.in_ok-push-2.ensures {u = tt}).items

pub returns : goal.returns
returns c = ends_all c.args.parts.now [] c.places.place _ c.places.behind c.places-test.false c.places.invariant
