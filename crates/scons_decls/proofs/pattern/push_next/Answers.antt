use Rattle.std.proofs.Common.{◌≡◌, ◌++◌, ◌∷◌, [], ◌∙◌, ap, sym, false}
use Rattle.scons_decls.proofs.Matching.{Ends, ends_none, ends_more, ends_all, none_take, next_split}
use Rattle.scons_decls.proofs.pattern.push_next.Goals as goal

pub places-init : goal.places-init
places-init c name is =
    ends_none c.args.parts.now (c.args.char ∷ name) _ false ((c.in_ok-push.ensures {u = tt}).items ∙ ap (λ l. l ++ false ∷ []) c.requires.none) (sym (none_take c.args.char name))

pub places-preserved : goal.places-preserved
places-preserved c name is =
    let part = c.index-parts-parts.result in
    let ends = c.places.invariant name is in
    ends_more c.args.parts.now (c.args.char ∷ name) c.places.place part c.places.next.items _ c.places.behind _ c.places-test.true c.index-parts-parts.is ends
    (next_split c.args.parts.now name c.places.place part c.args.char c.places.behind _ c.args.reached.now _ _ c.places-test.true c.index-parts-parts.is is ends.last c.takes_one-behind.ensures)
    (c.in_ok-push-2.ensures {u = tt}).items

pub returns : goal.returns
returns c name is = ends_all c.args.parts.now (c.args.char ∷ name) c.places.place _ c.places.behind c.places-test.false (c.places.invariant name is)
