-- What a rule needs, as the list of it grows.
use Rattle.std.proofs.Common.{arith, ◌≡◌, ◌≤◌, ℕ, ◌+◌, List, ◌++◌, ap, sym, refl, length, append_assoc, length-append}
use Rattle.std.proofs.lemmas.Option.{slice_get_within}
use Rattle.std.proofs.lemmas.List.{take-append-le}
use Rattle.task_plan.specs.declared.states.RuleState.{RuleState}
use Rattle.task_plan.specs.declared.files.Origin.{Origin}
use Rattle.task_plan.specs.declared.task.Task.{Task}
use Rattle.task_plan.specs.Settled.{IsLonger, needs_of, is_done, IsDoneAt, AreDoneTo, KeepsNeeds}
use Rattle.task_plan.proofs.ListLemmas.{one_more, longer_same, get-within, get-behind}

pub ruleset at_place = (get-within, get-behind)

pub keeps_longer : (old new : Task) → new.required ≡ old.required → new.passed ≡ old.passed → IsLonger old.deps.keys new.deps.keys → old.passed ≤ length (needs_of old) → KeepsNeeds old new
keeps_longer old new r p l w =
    let e : needs_of new ≡ needs_of old ++ l.more = rw (r, l.is) (sym (append_assoc old.required.items old.deps.keys l.more)) in
    record {
      passed = omega arith;
      same = rw (p, e) (take-append-le old.passed (needs_of old) l.more w);
      within = rw (p, e) (let n = length-append (needs_of old) l.more in omega arith);
    }

pub keeps_none : (old new : Task) → new.passed ≡ 0 → KeepsNeeds old new
keeps_none old new e = rw e (record { passed = omega arith; same = refl; within = omega arith })

pub keeps_same : (old new : Task) → new.required ≡ old.required → new.passed ≡ old.passed → new.deps ≡ old.deps → old.passed ≤ length (needs_of old) → KeepsNeeds old new
keeps_same old new r p d w = keeps_longer old new r p (longer_same old.deps.keys new.deps.keys (ap (λ s. s.keys) d)) w

pub done_more : (states : List RuleState) (origins : List Origin) (t : Task) (count : ℕ) → AreDoneTo states origins t count → IsDoneAt states origins t count → AreDoneTo states origins t (count + 1)
done_more states origins t count a d = record {
  within = let lt = slice_get_within (needs_of t) count d.file d.at in omega arith;
  each = one_more (λ n. is_done states origins n) (needs_of t) count d.file d.at a.each d.done;
}
