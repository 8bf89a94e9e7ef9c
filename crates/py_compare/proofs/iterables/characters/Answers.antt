use Rattle.std.proofs.Common.{arith, ◌≡◌, ◌∙◌, ◌-◌, ◌++◌, ◌∷◌, [], suc, ap}
use Rattle.std.specs.Prelude.{vec_len}
use Rattle.py_compare.specs.Iterables.{characters}
use Rattle.py_compare.proofs.Characters.{Starts, starts, characters_more}
use Rattle.py_compare.proofs.iterables.characters.Goals as goal

pub characters-preserved : goal.characters-preserved
characters-preserved c =
    let first = c.in-Some.first.now in
    let starting : Starts c.characters.rest.now first c.in-Some.after.now = starts c.characters.rest.now first c.in-Some.after.now c.characters.invariant.1 (c.in-Some.ensures {u = tt}).1 (c.in-Some.ensures {u = tt}).0 in
    let less : c.args.count - vec_len c.characters.made ≡ suc (c.args.count - vec_len c.push.new.self) = omega (arith, (c.in_ok-push.ensures {u = tt}).len) in
    let new : c.push.new.self.items ≡ c.characters.made.items ++ first ∷ [] = (c.in_ok-push.ensures {u = tt}).items ∙ ap (λ t. c.characters.made.items ++ t ∷ []) (c.in_ok-of.ensures {u = tt}) in (
      characters_more c.characters.made.items c.push.new.self.items (characters c.args.count c.args.text.now) c.characters.rest.now first c.in-Some.after.now (c.args.count - vec_len c.characters.made)
          (c.args.count - vec_len c.push.new.self) starting less c.characters.invariant.0 new,
      starting.utf8,
    )
