use Rattle.std.proofs.Common.{◌≡◌, ◌++◌, map, drop}
use Rattle.std.specs.Prelude.{string_bytes}
use Rattle.scons_base.specs.Resolve.{steps}
use Rattle.scons_base.proofs.resolve.push_steps.Given as goal

-- with the steps that are left the text is whole
abbrev pub invariant-loop-name : goal.invariant-loop-name
invariant-loop-name l = string_bytes l.text ++ steps (map (λ x. x.now) (drop l.name-index l.names)) ≡ string_bytes l.initial.text ++ steps (map (λ x. x.now) l.names)
