use Rattle.std.proofs.Common.{◌≡◌, ℕ, length}
use Rattle.build_files.specs.Kept.{LooksAt}
use Rattle.build_files.specs.Marked.{is_marked}
use Rattle.build_files.proofs.inputs.Inputs.look_at.Given as goal

abbrev pub invariant-loop : goal.invariant-loop
invariant-loop l = record {
  looks : LooksAt l.fn.self l.self;
  same : (number : ℕ) → is_marked l.self number ≡ is_marked l.fn.self number;
  size : length l.self.looked_at.items ≡ l.counter;
}
