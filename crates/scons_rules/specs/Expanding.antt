-- What the texts of a rule stand for. A rule keeps its environment, and its texts are expanded once all scripts are read.
use Rattle.std.specs.Prelude.{ℕ, List, Result, Ok, Err}
use Rattle.env_pieces.specs.declared.form.Mode.TheVariants as mode
use Rattle.env_subst.specs.declared.locals.Locals.{Locals}
use Rattle.env_subst.specs.declared.library.LibItem.{LibItem}
use Rattle.env_subst.specs.declared.command.CommandLines.{CommandLines}
use Rattle.scons_decls.specs.Environs.{expanded, lines_in, libraries, search_path}
use Rattle.scons_decls.specs.State.{Declared, Rule, declared_of, rule_of}
use Rattle.scons_rules.specs.declared.fault.RuleReadFault.{RuleReadFault}
use Rattle.scons_rules.specs.declared.one_rule.OneRule.{OneRule}
use Rattle.scons_rules.specs.Faults.{or_name}
use Rattle.scons_rules.specs.Steps.{and_then}

-- a declared rule, with what its texts are expanded with
pub record Expanding : Type 0 where
  pub declared : Declared
  pub rule : Rule
  pub locals : Locals

abbrev pub expanding : OneRule → Expanding
expanding r = record { declared = declared_of r.state.now; rule = rule_of r.declared.now; locals = r.locals.now }

abbrev pub text_of : Expanding → List ℕ → Result (List ℕ) RuleReadFault
text_of x text = or_name (expanded x.declared.envs x.locals x.rule.env mode.Text text)

-- the lines of a command, as they are run and as they are signed
abbrev pub command_of : Expanding → List ℕ → Result CommandLines RuleReadFault
command_of x text =
    and_then (or_name (lines_in x.declared.envs x.locals x.rule.env mode.Signed text)) (λ signed.
    and_then (or_name (lines_in x.declared.envs x.locals x.rule.env mode.Text text)) (λ plain.
    Ok (record { plain = plain; signed = signed })))

-- the items of `LIBS`
abbrev pub lib_items_of : Expanding → Result (List LibItem) RuleReadFault
lib_items_of x = or_name (libraries x.declared.envs x.locals x.rule.env)

-- the directories of a search path
abbrev pub dirs_of : Expanding → List ℕ → Result (List (List ℕ)) RuleReadFault
dirs_of x name = or_name (search_path x.declared.envs x.locals x.rule.env name)
