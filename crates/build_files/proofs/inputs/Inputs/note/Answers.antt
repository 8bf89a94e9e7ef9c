use Rattle.build_means.specs.Rules.{IsReading}
use Rattle.build_files.proofs.Growth.{interned_at, interned_true}
use Rattle.build_files.proofs.Truths.{kept_same, kept_stood}
use Rattle.build_files.proofs.inputs.Inputs.note.Goals as goal

pub returns-in_err-keep_is_file-clause-truth : goal.returns-in_err-keep_is_file-clause-truth
returns-in_err-keep_is_file-clause-truth c = λ b around none same is.
    let before : IsReading c.args.graph.now = record { apart = c.laws.ensures.apart; single = c.laws.ensures.single; named = c.laws.ensures.named } in
    let after : IsReading c.intern.new.self = record { apart = c.laws-2.ensures.apart; single = c.laws-2.ensures.single; named = c.laws-2.ensures.named } in
    kept_same b _ _ _ _ c.in_err-keep_is_file.ensures.same
    (interned_true b c.args.graph.now c.intern.new.self c.args.self.now around _ _ none c.in_ok-node.ensures.ok.0 c.intern.ensures.rest before after is)

pub returns-clause-truth : goal.returns-clause-truth
returns-clause-truth c = λ b around none same is.
    let before : IsReading c.args.graph.now = record { apart = c.laws.ensures.apart; single = c.laws.ensures.single; named = c.laws.ensures.named } in
    let after : IsReading c.intern.new.self = record { apart = c.laws-2.ensures.apart; single = c.laws-2.ensures.single; named = c.laws-2.ensures.named } in
    kept_stood b _ _ _ _ _ _ (interned_at c.args.graph.now.nodes _ _ _ none c.in_ok-node.ensures.ok.0)
    (interned_true b c.args.graph.now c.intern.new.self c.args.self.now around _ _ none c.in_ok-node.ensures.ok.0 c.intern.ensures.rest before after is)
    same c.in_ok-keep_is_file.ensures.done

pub returns-clause-node : goal.returns-clause-node
returns-clause-node c = λ none. interned_at c.args.graph.now.nodes _ _ _ none c.in_ok-node.ensures.ok.0
