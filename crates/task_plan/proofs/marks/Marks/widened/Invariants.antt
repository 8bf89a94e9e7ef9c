use Rattle.std.proofs.Common.{◌≡◌, ◌<◌, ◌≤◌, ℕ, true, false, get_or, length}
use Rattle.task_plan.proofs.marks.Marks.widened.Given as goal

abbrev pub invariant-loop-number : goal.invariant-loop-number
invariant-loop-number l = record {
  fewer : (n : ℕ) → get_or l.marks n false ≡ true → get_or l.self n false ≡ true;
  more : (n : ℕ) → n < l.number → get_or l.self n false ≡ true → get_or l.marks n false ≡ true;
  room : l.size ≤ length l.marks;
}
