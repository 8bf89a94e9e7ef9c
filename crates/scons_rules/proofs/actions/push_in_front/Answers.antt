use Rattle.std.proofs.Common.{◌++◌, ◌∙◌, ap}
use Rattle.scons_rules.proofs.Acting.{in_front}
use Rattle.scons_rules.proofs.actions.push_in_front.Goals as goal

pub returns : goal.returns
returns c =
    in_front c.args.left.now.items c.args.texts.items c.append.new.self.items
    (c.in_ok-append.ensures.items ∙ ap (λ l. c.args.left.now.items ++ l) c.reverse.ensures.items)
