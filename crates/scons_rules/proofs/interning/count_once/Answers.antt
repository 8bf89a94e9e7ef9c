use Rattle.std.proofs.Common.{arith, ◌≡◌, ◌∙◌, ℕ, List, ap, refl, map, take}
use Rattle.std.specs.Borrow.{Bor}
use Rattle.node_tree.specs.Nodes.{with_path}
use Rattle.env_subst.specs.declared.locals.Named.{Named}
use Rattle.scons_rules.proofs.Counting.{key_more, noted}
use Rattle.scons_rules.proofs.interning.count_once.Goals as goal

pub loop-one-preserved : goal.loop-one-preserved
loop-one-preserved c =
    let p = c.one-item.result.path in
    key_more (λ (k : Bor (List ℕ)). k.now) c.loop-one.seen.keys c.insert.new.self.keys _ c.in_ok-insert.ensures.keys
    ∙ ap (λ l. with_path l p) c.loop-one.invariant
    ∙ noted (λ (n : Named). n.path) c.args.named.now c.loop-one.one-index c.one-item.result p (omega arith) c.one-item.is refl
