use Rattle.std.proofs.Common.{◌≡◌, ◌∙◌, ◌-◌, [], drop, length, take, refl, arith}
use Rattle.scons_report.proofs.Trees.{none_of, cons_of, last_of, dropped, fewer_dropped, takes}
use Rattle.scons_report.proofs.tree.Walk.take.Goals as goal

pub loop-level-preserved : goal.loop-level-preserved
loop-level-preserved c =
    let i = c.loop-level.invariant in
    let level = c.in-Some.level in
    let popped = c.in-Some.ensures.items in
    let empty : level.left.now ≡ [] = none_of level.left.now c.in_default-left.len_below in
    let fewer = i.fewer in
    let less = fewer_dropped _ _ level popped in
    record {
      same = λ shown depth margin marks. i.same shown depth margin marks ∙ dropped _ _ level popped empty shown depth margin marks;
      fewer = omega (arith, fewer, less);
      marks = i.marks;
    }

pub returns-in-len1-up : goal.returns-in-len1-up
returns-in-len1-up c =
    let i = c.loop-level.invariant in
    let level = c.in-Some.level in
    let rest = take (length level.left.now - 1) (drop 1 level.left.now) in
    takes c.args.self.now c.loop-level.self _ c.pop.new.self.items level _ _ rest _ i.same i.fewer i.marks c.in-Some.ensures.items
    (cons_of _ level.left.now c.in-len1-up.len_at_least) c.in_ok-push.ensures.items refl refl refl (c.is_empty.ensures ∙ last_of rest) refl
