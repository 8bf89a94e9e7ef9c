use Rattle.std.proofs.Common.{◌≡◌, ◌+◌, length}
use Rattle.deciders.specs.declared.recorded.Dep.{Dep}
use Rattle.explain_report.specs.Reasons.{Somewhere}
use Rattle.explain_report.proofs.names.place_among.Given as goal

abbrev pub invariant-loop-rest : goal.invariant-loop-rest
invariant-loop-rest l = record {
  whole : l.place + length l.rest ≡ length l.others;
  behind : Somewhere (λ (other : Dep). l.dep.name ≡ other.name) l.rest → Somewhere (λ (other : Dep). l.dep.name ≡ other.name) l.others;
  later : Somewhere (λ (other : Dep). l.dep.name ≡ other.name) l.others → Somewhere (λ (other : Dep). l.dep.name ≡ other.name) l.rest;
}

abbrev pub decreases-loop-rest : goal.decreases-loop-rest
decreases-loop-rest l = length l.rest
