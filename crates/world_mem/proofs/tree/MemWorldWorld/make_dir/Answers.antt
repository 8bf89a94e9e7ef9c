use Rattle.std.proofs.Common.{refl, ap, ◌∙◌, ◌++◌, ◌∷◌, [], List, length, arith, subst, sym, ◌≤◌}
use Rattle.mem_banks.specs.AsStore.{store_of}
use Rattle.world_mem.specs.Past.{Course}
use Rattle.world_mem.specs.declared.past.Turn.{Turn}
use Rattle.world_mem.specs.declared.past.Turn.TheVariants.{Tree}
use Rattle.world_mem.proofs.Passing.{refused, idle_tree, turn_recalls, turn_tree}
use Rattle.world_mem.proofs.Unmade.{unmade_of}
use Rattle.world_mem.proofs.tree.MemWorldWorld.make_dir.Goals as goal

pub returns-in_err-widen-clause-time : goal.returns-in_err-widen-clause-time
returns-in_err-widen-clause-time c = idle_tree _ _ (record { turns = c.in_err-widen.ensures.items; horizon = refl; machine = refl })

pub invariant_of-self-in-Break-branch-2 : goal.invariant_of-self-in-Break-branch-2
invariant_of-self-in-Break-branch-2 c = record {
  unmade = unmade_of c.make_dir.new.self;
  turns_room = let e = ap length c.make_dir.ensures.running in omega (arith, e, c.make_dir.ensures.removals, c.make_dir.new.self.running.ok.0, c.args.self.now.state.running.ok.0, c.in_ok-widen.ensures.len, c.in_ok-widen.ensures.capacity);
  since = subst (λ (t : List Turn). c.args.self.now.horizon ≤ length t) (sym c.in_ok-widen.ensures.items) c.args.self.now.since;
  recorded_within = omega (arith, c.make_dir.ensures.removals);
  turns_capacity = omega (arith, c.in_ok-widen.ensures.capacity);
  counts = c.args.self.now.counts;
}

pub returns-in_err-make_dir-clause-refused : goal.returns-in_err-make_dir-clause-refused
returns-in_err-make_dir-clause-refused c = λ told. refused _ _ _ (ap (λ (course : Course). course.around) c.in_err-make_dir.ensures.same)

pub returns-in_err-make_dir-clause-time : goal.returns-in_err-make_dir-clause-time
returns-in_err-make_dir-clause-time c = idle_tree _ _ (record { turns = c.in_ok-widen.ensures.items; horizon = refl; machine = λ i. record { course = c.in_err-make_dir.ensures.same i; store = store_of c.args.self.now.banks } })

pub invariant_of-self-2-clause-unmade : goal.invariant_of-self-2-clause-unmade
invariant_of-self-2-clause-unmade c = unmade_of c.make_dir.new.self

pub returns-clause-recalls : goal.returns-clause-recalls
returns-clause-recalls c = turn_recalls Tree _ _ (record {
  turns = c.push.ensures.items ∙ ap (λ (turns : List Turn). turns ++ Tree ∷ []) c.in_ok-widen.ensures.items;
  horizon = refl;
  since = c.args.self.now.since;
  machine = λ i. record { course = c.in_ok-make_dir.ensures.back i; store = store_of c.args.self.now.banks };
})

pub returns-clause-time : goal.returns-clause-time
returns-clause-time c = turn_tree Tree _ _ (record {
  turns = c.push.ensures.items ∙ ap (λ (turns : List Turn). turns ++ Tree ∷ []) c.in_ok-widen.ensures.items;
  horizon = refl;
  since = c.args.self.now.since;
  machine = λ i. record { course = c.in_ok-make_dir.ensures.back i; store = store_of c.args.self.now.banks };
})
