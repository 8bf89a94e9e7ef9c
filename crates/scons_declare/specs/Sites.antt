-- Where a rule is declared, and what a declared rule is.
use Rattle.std.specs.Prelude.{ℕ, List, [], ◌∷◌, ◌++◌, map, Result, Ok}
use Rattle.scons_decls.specs.declared.answer.Answer.{Answer}
use Rattle.scons_decls.specs.declared.answer.Answer.TheVariants.{Targets}
use Rattle.scons_decls.specs.declared.fault.NameFault.{NameFault}
use Rattle.scons_decls.specs.declared.given.Given.TheVariants as given
use Rattle.scons_decls.specs.declared.given.Variables.{Variables}
use Rattle.scons_decls.specs.declared.place.Place.{Place}
use Rattle.scons_decls.specs.declared.rule.Recipe.{Recipe}
use Rattle.scons_decls.specs.Steps.{and_then}
use Rattle.scons_decls.specs.Environs.{of_call, decider_of}
use Rattle.scons_decls.specs.State.{Rule, Declared}
use Rattle.scons_decls.specs.Targets.{with_targets}
use Rattle.scons_declare.specs.declared.site.Site.{Site}
use Rattle.scons_declare.specs.Calls.{Outcome, with_envs}

-- a call in an environment that gives no variables
abbrev pub plain_site : Declared → ℕ → Place → Site
plain_site d env place = record { place = place; env = record { 0 = env }; decider = decider_of d.envs env }

-- a call in an environment, with variables of its own: the decider is the environment's
abbrev pub called_at : Declared → ℕ → Place → Variables → Result (Site × Declared) NameFault
called_at d env place vars =
    and_then (of_call d.envs env vars.values) (λ r.
    Ok (record { place = place; env = record { 0 = r.0 }; decider = decider_of d.envs env }, with_envs r.1 d))

abbrev pub with_made : List (List ℕ) → Declared → Declared
with_made targets d = record d { made = with_targets d.made targets }

-- one rule more
abbrev pub with_rule : Declared → Site → Recipe → List (List ℕ) → List (List ℕ) → Declared
with_rule d site recipe targets sources =
    let rule : Rule = record {
      place = site.place;
      env = site.env.0;
      dir = d.locals.dir;
      recipe = recipe;
      decider = site.decider;
      targets = targets;
      sources = sources;
    } in
    record d { made = with_targets d.made targets; rules = d.rules ++ rule ∷ [] }

-- paths as a call answers them
abbrev pub answer_of : List (List ℕ) → Answer
answer_of paths = Targets (map given.File paths)

-- a rule, with its targets as the answer
abbrev pub declares : Declared → Site → Recipe → List (List ℕ) → List (List ℕ) → Outcome
declares d site recipe targets sources = Ok (answer_of targets, with_rule d site recipe targets sources)
