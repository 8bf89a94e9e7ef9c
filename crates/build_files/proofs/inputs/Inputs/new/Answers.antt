use Rattle.std.proofs.Common.{◌∙◌, List, sym, subst}
use Rattle.build_model.specs.Rules.{Path}
use Rattle.build_files.specs.Beginnings.{Begins}
use Rattle.build_files.proofs.inputs.Inputs.new.Goals as goal

pub returns : goal.returns
returns c = record {
  truth = λ b around is.
      c.past.ensures.truth b around
      (subst (λ (keys : List Path). Begins b c.args.graph.now c.args.hash keys around) (sym c.new-gone.ensures.empty) is);
  unread = c.past.ensures.unread;
  unscanned = c.past.ensures.unscanned;
  unmarked = c.past.ensures.unmarked;
  gone = c.past.ensures.gone ∙ c.new-gone.ensures.empty;
}
