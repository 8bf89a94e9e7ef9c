use Rattle.std.proofs.Common.{arith, ◌≡◌, ◌∙◌, ◌-◌, ◌++◌, true, sym, ap, refl, length, take}
use Rattle.std.specs.Prelude.{nat_eq}
use Rattle.std.specs.List.{ends_with}
use Rattle.scons_declare.proofs.Ends.{no_end, has_end}
use Rattle.scons_declare.proofs.suffixes.without.Goals as goal

pub returns-in-Some : goal.returns-in-Some
returns-in-Some c =
    let name = c.args.name.now in
    let suffix = c.args.suffix.now in
    let k = c.in-Some.ensures.cases in
    let ends : ends_with nat_eq name suffix ≡ true = has_end name suffix c.in-Some.bare.now (k.1.1 ∙ ap (λ t. t ++ suffix) (sym k.2)) (omega (arith, k.1.0, k.3)) in
    rw ends (k.2 ∙ ap (λ n. take (length name - n) name) k.1.0)

pub returns-in-None : goal.returns-in-None
returns-in-None c = rw (no_end c.args.name.now c.args.suffix.now c.in-None.ensures.cases) refl
