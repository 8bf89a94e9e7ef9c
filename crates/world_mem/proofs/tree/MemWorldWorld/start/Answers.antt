use Rattle.std.proofs.Common.{refl, ap, ◌∙◌, ◌++◌, ◌∷◌, [], List, length, arith, subst, sym, ◌≤◌}
use Rattle.mem_banks.specs.AsStore.{store_of}
use Rattle.world_mem.specs.Past.{Course}
use Rattle.world_mem.specs.declared.past.Turn.{Turn}
use Rattle.world_mem.specs.declared.past.Turn.TheVariants.{Tree}
use Rattle.world_mem.proofs.Passing.{refused, idle_tree, turn_recalls, turn_tree}
use Rattle.world_mem.proofs.Unmade.{unmade_of}
use Rattle.world_mem.proofs.tree.MemWorldWorld.start.Goals as goal

pub returns-in_err-widen-clause-time : goal.returns-in_err-widen-clause-time
returns-in_err-widen-clause-time c = idle_tree _ _ (record { turns = c.in_err-widen.ensures.items; horizon = refl; machine = refl })

pub invariant_of-self-in-Break-branch-3 : goal.invariant_of-self-in-Break-branch-3
invariant_of-self-in-Break-branch-3 c = record {
  unmade = unmade_of c.start.new.self;
  turns_room = omega (arith, c.in_err-start.ensures.fewer, c.start.ensures.removals, c.in_ok-widen.ensures.len, c.in_ok-widen.ensures.capacity);
  since = subst (λ (t : List Turn). c.args.self.now.horizon ≤ length t) (sym c.in_ok-widen.ensures.items) c.args.self.now.since;
  recorded_within = omega (arith, c.start.ensures.removals);
  turns_capacity = omega (arith, c.in_ok-widen.ensures.capacity);
  counts = c.args.self.now.counts;
}

pub returns-in_err-start-clause-refused : goal.returns-in_err-start-clause-refused
returns-in_err-start-clause-refused c = λ told. refused _ _ _ (ap (λ (course : Course). course.around) c.in_err-start.ensures.same)

pub returns-in_err-start-clause-time : goal.returns-in_err-start-clause-time
returns-in_err-start-clause-time c = idle_tree _ _ (record { turns = c.in_ok-widen.ensures.items; horizon = refl; machine = λ i. record { course = c.in_err-start.ensures.same i; store = store_of c.args.self.now.banks } })

pub invariant_of-self-2-clause-unmade : goal.invariant_of-self-2-clause-unmade
invariant_of-self-2-clause-unmade c = unmade_of c.start.new.self

pub start-requires : goal.start-requires
start-requires c = c.requires.free tt

pub returns-clause-recalls : goal.returns-clause-recalls
returns-clause-recalls c = turn_recalls Tree _ _ (record {
  turns = c.push.ensures.items ∙ ap (λ (turns : List Turn). turns ++ Tree ∷ []) c.in_ok-widen.ensures.items;
  horizon = refl;
  since = c.args.self.now.since;
  machine = λ i. record { course = c.in_ok-start.ensures.back i; store = store_of c.args.self.now.banks };
})

pub returns-clause-time : goal.returns-clause-time
returns-clause-time c = turn_tree Tree _ _ (record {
  turns = c.push.ensures.items ∙ ap (λ (turns : List Turn). turns ++ Tree ∷ []) c.in_ok-widen.ensures.items;
  horizon = refl;
  since = c.args.self.now.since;
  machine = λ i. record { course = c.in_ok-start.ensures.back i; store = store_of c.args.self.now.banks };
})
