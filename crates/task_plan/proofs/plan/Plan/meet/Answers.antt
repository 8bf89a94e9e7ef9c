use Rattle.std.proofs.Common.{arith, ◌≡◌, ◌∙◌, [], ap, length, refl, sym}
use Rattle.std.proofs.lemmas.List.{append-nil}
use Rattle.std.proofs.lemmas.Result.{on_ok_weaker}
use Rattle.task_plan.specs.Settled.{origin_of}
use Rattle.task_plan.specs.declared.files.Origin.TheVariants.{Unmet, Source, Made}
use Rattle.task_plan.proofs.MetLemmas.{keeps_noted, still_same, still_after, finds_met, finds_noted}
use Rattle.task_plan.proofs.AdmitLemmas.{noted_brings, brings_noted}
use Rattle.task_plan.proofs.WatchMeets.{keeps_origin, keeps_watch_brings}
use Rattle.task_plan.proofs.LeaveLemmas.{order_same, order_trans, order_noted}
use Rattle.task_plan.proofs.OtherLemmas.{met_one, others_same, others_met, others_made}
use Rattle.task_plan.proofs.plan.Plan.meet.Goals as goal

pub note_origin-requires : goal.note_origin-requires
note_origin-requires c = rw (sym c.self.view_is) (c.is_unmet.ensures.unmet c.if-not-is_unmet.false)

pub note_origin-requires-in-None : goal.note_origin-requires-in-None
note_origin-requires-in-None c = rw (sym c.self.view_is) (c.is_unmet.ensures.unmet c.if-not-is_unmet.false)

pub need_rule-requires-clause-room : goal.need_rule-requires-clause-room
need_rule-requires-clause-room c =
    let n = ap (λ p. length p.states) c.note_origin.ensures in
    let r = c.requires.states in
    omega arith

pub returns-then-not-is_unmet-clause-finds : goal.returns-then-not-is_unmet-clause-finds
returns-then-not-is_unmet-clause-finds c = rw (sym c.self.view_is) (finds_met c.args.graph.now _ c.args.node (c.is_unmet.ensures.met c.if-not-is_unmet.true))

pub returns-in-Some-clause-brings : goal.returns-in-Some-clause-brings
returns-in-Some-clause-brings c =
    let a = c.args.self.now in
    let b = c.note_origin.new.self in
    let e = c.note_origin.ensures in
    let unmet : origin_of a.origins c.args.node.0 ≡ Unmet = rw (sym c.self.view_is) (c.is_unmet.ensures.unmet c.if-not-is_unmet.false) in
    let keeps = keeps_noted a b c.args.node.0 (Made c.in-Some.rule) unmet (ap (λ p. p.origins) e) (ap (λ p. p.states) e) in
    on_ok_weaker c.need_rule.result
    (λ k. noted_brings c.args.graph.now a b c.need_rule.new.self c.args.needed.now.items c.need_rule.new.needed.items (ap (λ p. p.states) e) (ap (λ p. p.rules) e) keeps k) c.need_rule.ensures.brings

pub returns-in-Some-clause-finds : goal.returns-in-Some-clause-finds
returns-in-Some-clause-finds c =
    let a = c.args.self.now in
    let b = c.note_origin.new.self in
    let d = c.need_rule.new.self in
    let e = c.note_origin.ensures in
    let n = c.need_rule.ensures in
    on_ok_weaker c.need_rule.result
    (λ k. finds_noted c.args.graph.now a d c.args.node (Made c.in-Some.rule) c.requires (n.origins ∙ ap (λ p. p.origins) e) (still_after a b d (ap (λ p. p.states) e) n.meets.states) refl
    (sym c.in-Some.ensures.of, n.needed)) n.brings

pub returns-in-None-clause-brings : goal.returns-in-None-clause-brings
returns-in-None-clause-brings c =
    let a = c.args.self.now in
    let b = c.note_origin-in-None.new.self in
    let e = c.note_origin-in-None.ensures in
    let unmet : origin_of a.origins c.args.node.0 ≡ Unmet = rw (sym c.self.view_is) (c.is_unmet.ensures.unmet c.if-not-is_unmet.false) in
    let keeps = keeps_noted a b c.args.node.0 Source unmet (ap (λ p. p.origins) e) (ap (λ p. p.states) e) in
    brings_noted c.args.graph.now a b c.args.needed.now.items c.args.needed.now.items (ap (λ p. p.states) e) (ap (λ p. p.rules) e) keeps refl

pub returns-in-None-clause-finds : goal.returns-in-None-clause-finds
returns-in-None-clause-finds c =
    let a = c.args.self.now in
    let b = c.note_origin-in-None.new.self in
    let e = c.note_origin-in-None.ensures in
    finds_noted c.args.graph.now a b c.args.node Source c.requires (ap (λ p. p.origins) e) (still_same a b (ap (λ p. p.states) e)) refl (sym c.in-None.ensures.of)

pub returns-in-Some-clause-watch : goal.returns-in-Some-clause-watch
returns-in-Some-clause-watch c =
    let a = c.args.self.now in
    let b = c.note_origin.new.self in
    let unmet : origin_of a.origins c.args.node.0 ≡ Unmet = rw (sym c.self.view_is) (c.is_unmet.ensures.unmet c.if-not-is_unmet.false) in
    let keeps = keeps_origin a b c.args.node.0 (Made c.in-Some.rule) unmet c.note_origin.ensures in
    on_ok_weaker c.need_rule.result (λ k. keeps_watch_brings a b c.need_rule.new.self c.args.needed.now.items c.need_rule.new.needed.items keeps k) c.need_rule.ensures.watch

pub returns-in-None-clause-watch : goal.returns-in-None-clause-watch
returns-in-None-clause-watch c =
    let a = c.args.self.now in
    let b = c.note_origin-in-None.new.self in
    let unmet : origin_of a.origins c.args.node.0 ≡ Unmet = rw (sym c.self.view_is) (c.is_unmet.ensures.unmet c.if-not-is_unmet.false) in
    record { more = []; is = sym (append-nil c.args.needed.now.items); keeps = keeps_origin a b c.args.node.0 Source unmet c.note_origin-in-None.ensures }

pub returns-then-not-is_unmet-clause-order : goal.returns-then-not-is_unmet-clause-order
returns-then-not-is_unmet-clause-order c = order_same c.args.self.now

pub returns-in-Some-clause-order : goal.returns-in-Some-clause-order
returns-in-Some-clause-order c =
    let a = c.args.self.now in
    let b = c.note_origin.new.self in
    let unmet : origin_of a.origins c.args.node.0 ≡ Unmet = rw (sym c.self.view_is) (c.is_unmet.ensures.unmet c.if-not-is_unmet.false) in
    on_ok_weaker c.need_rule.result (λ k. order_trans a b c.need_rule.new.self (order_noted a b c.args.node.0 (Made c.in-Some.rule) unmet c.note_origin.ensures) k) c.need_rule.ensures.order

pub returns-in-None-clause-order : goal.returns-in-None-clause-order
returns-in-None-clause-order c =
    let a = c.args.self.now in
    let b = c.note_origin-in-None.new.self in
    let unmet : origin_of a.origins c.args.node.0 ≡ Unmet = rw (sym c.self.view_is) (c.is_unmet.ensures.unmet c.if-not-is_unmet.false) in
    order_noted a b c.args.node.0 Source unmet c.note_origin-in-None.ensures

pub returns-then-not-is_unmet-clause-others : goal.returns-then-not-is_unmet-clause-others
returns-then-not-is_unmet-clause-others c = others_same c.args.graph.now c.args.self.now c.args.self.now _ c.args.needed.now.items refl refl

pub returns-in-Some-clause-others : goal.returns-in-Some-clause-others
returns-in-Some-clause-others c =
    on_ok_weaker c.need_rule.result
    (λ k. others_made c.args.graph.now c.args.self.now c.note_origin.new.self c.need_rule.new.self c.args.node c.in-Some.rule.0 c.args.needed.now.items c.need_rule.new.needed.items (ap (λ p. p.states) c.note_origin.ensures)
    (met_one c.args.self.now c.note_origin.new.self c.args.node (Made c.in-Some.rule) (ap (λ p. p.origins) c.note_origin.ensures)) (sym c.in-Some.ensures.of) k) c.need_rule.ensures.others

pub returns-in-None-clause-others : goal.returns-in-None-clause-others
returns-in-None-clause-others c =
    let e = c.note_origin-in-None.ensures in
    others_met c.args.graph.now c.args.self.now c.note_origin-in-None.new.self c.args.node c.args.needed.now.items (ap (λ p. p.states) e)
    (met_one c.args.self.now c.note_origin-in-None.new.self c.args.node Source (ap (λ p. p.origins) e))
