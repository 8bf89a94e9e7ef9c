use Rattle.std.proofs.Common.{rules, ◌≡◌, ◌∙◌, ◌≤◌, List, length, arith, subst, sym, true}
use Rattle.std.proofs.lemmas.Bool.{not-false}
use denote.Enum.Bare.{same_true}
use Rattle.world_mem.specs.contracts.calls.Verdict.{the_type}
use Rattle.world_mem.specs.declared.calls.Verdict.TheVariants.{Goes}
use Rattle.world_mem.specs.declared.past.Turn.{Turn}
use Rattle.world_mem.proofs.Unmade.{unmade_of}
use Rattle.world_mem.proofs.world.MemWorld.prepare.Goals as goal

pub invariant_of-self-2 : goal.invariant_of-self-2
invariant_of-self-2 c = record {
  unmade = unmade_of c.ready.new.self;
  turns_room = omega (arith, c.ready.ensures.running, c.ready.ensures.removals, c.in_ok-widen.ensures.len, c.in_ok-widen.ensures.capacity);
  since = subst (λ (t : List Turn). c.args.self.now.horizon ≤ length t) (sym c.in_ok-widen.ensures.items) c.args.self.now.since;
  recorded_within = omega (arith, c.ready.ensures.removals);
  turns_capacity = omega (arith, c.in_ok-widen.ensures.capacity);
  counts = c.args.self.now.counts;
}

pub returns-clause-listed : goal.returns-clause-listed
returns-clause-listed c = λ fails.
    let went : c.eq-goes.result ≡ true = search (rules, not-false c.eq-goes.result) in
    absurd (fails (sym c.next.ensures.verdict ∙ same_true the_type (search rules) _ _ (sym c.eq-goes.ensures ∙ went)))
