use Rattle.std.proofs.Common.{sym, ap, fold}
use Rattle.scons_rules.specs.Sayings.{with_sentence}
use Rattle.scons_rules.proofs.Telling.{none_told, one_told, told_one}
use Rattle.scons_rules.proofs.said.add_numbered.Goals as goal

pub returns-in-Some : goal.returns-in-Some
returns-in-Some c =
    told_one c.add_sentence.result c.args.of_rule.now c.add_sentence.new.of_rule c.args.sentences.now c.args.number c.in-Some.sentence.now
    (one_told c.args.sentences.now c.args.number c.get.result c.get.ensures.lookup c.in-Some.sentence c.in-Some.is) c.add_sentence.ensures

pub returns-in-None : goal.returns-in-None
returns-in-None c = sym (ap (fold with_sentence c.args.of_rule.now) (none_told c.args.sentences.now c.args.number c.get.result c.get.ensures.lookup c.in-None.is))
