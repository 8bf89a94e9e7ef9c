use Rattle.std.proofs.Common.{◌∙◌, sym, ap, Some, None}
use Rattle.std.specs.Option.{option_map}
use Rattle.scons_rules.specs.AliasTable.{names_in}
use Rattle.scons_rules.specs.declared.orders.Step.TheVariants.{Member, Inner}
use Rattle.scons_rules.proofs.Leaving.{step_left, step_alias, step_member}
use Rattle.scons_rules.proofs.aliases.step_of.Goals as goal

pub returns-then-has : goal.returns-then-has
returns-then-has c = λ left leaves.
    sym (step_left (names_in c.args.state.now.aliases) left c.args.ignored.now c.args.node.now leaves (sym c.has.ensures ∙ c.if-has.true))

pub returns-in-Some : goal.returns-in-Some
returns-in-Some c = λ left leaves.
    sym (step_alias (names_in c.args.state.now.aliases) left c.args.ignored.now c.args.node.now c.in-Alias.name (Some c.in-Some.place) leaves c.in-Alias.is
    (sym c.has.ensures ∙ c.if-has.false) (sym c.in-Some.is ∙ c.place_of.ensures))

pub returns-in-None : goal.returns-in-None
returns-in-None c = λ left leaves.
    sym (step_alias (names_in c.args.state.now.aliases) left c.args.ignored.now c.args.node.now c.in-Alias.name None leaves c.in-Alias.is
    (sym c.has.ensures ∙ c.if-has.false) (sym c.in-None.is ∙ c.place_of.ensures))

pub returns-in_ok-copy-in_default : goal.returns-in_ok-copy-in_default
returns-in_ok-copy-in_default c = λ left leaves.
    ap (λ n. Some (Member n)) (c.in_ok-copy-in_default.ensures {u = tt})
    ∙ sym (step_member (names_in c.args.state.now.aliases) left c.args.ignored.now c.args.node.now leaves c.in_default.not-Alias (sym c.has.ensures ∙ c.if-has.false))
