use Rattle.std.proofs.Common.{arith, ◌≡◌, ◌∙◌, ◌++◌, sym, ap, map, take, length}
use Rattle.std.specs.List.{filter}
use Rattle.std.specs.Str.{bytes_eq}
use Rattle.std.proofs.lemmas.List.{take_all}
use Rattle.scons_rules.specs.Sayings.{numbers_at}
use Rattle.scons_rules.proofs.Telling.{said_more}
use Rattle.scons_rules.proofs.said.SaidOf.add.Goals as goal

pub returns : goal.returns
returns c = λ spoken tells.
    let targets = c.args.said.now.targets in
    said_more spoken c.args.self.now c.loop-target.self targets (record { saying = c.args.said.now.saying; nodes = c.args.nodes }) tells
    (ap (λ v. v.items) c.loop-target.invariant.sentences ∙ c.in_ok-push.ensures.items)
    (λ path. c.loop-target.invariant.numbers path
    ∙ ap (λ l. numbers_at c.args.self.now path ++ map (λ t. c.len-number.result) (filter (bytes_eq path) l)) (take_all c.loop-target.target-index targets (omega (arith, ap length c.as_slice-target-items.ensures)))
    ∙ ap (λ n. numbers_at c.args.self.now path ++ map (λ t. n) (filter (bytes_eq path) targets)) (c.len-number.ensures ∙ c.args.self.now.sentences.ok.0))
