use Rattle.std.proofs.Common.{◌∙◌, ap, subst}
use Rattle.std.specs.Option.{option_to_list}
use Rattle.variant_dirs.specs.Variants.{variant_of, AreApart}
use Rattle.variant_dirs.proofs.Apart.{lies_in_one}
use Rattle.variant_dirs.proofs.variants.Variants.variant_of.Goals as goal

pub returns-clause-only : goal.returns-clause-only
returns-clause-only c =
    ap option_to_list (c.variant_of.ensures ∙ ap (λ v. variant_of v c.args.path.now) (c.as_slice.ensures.value ∙ c.self.view_is))
    ∙ lies_in_one c.args.self.now c.args.path.now (subst AreApart c.self.view_is c.self.invariant)
