-- What declared rules become: the declarations in their order, each put into the graph.
use Rattle.std.specs.Prelude.{ℕ, List, [], Option, Some, None, Result, Ok, slice_get, map}
use Rattle.std.specs.List.{find, list_any}
use Rattle.std.specs.Str.{bytes_eq}
use Rattle.env_subst.specs.declared.locals.Locals.{Locals}
use Rattle.scons_decls.specs.declared.rule.Recipe.{Recipe}
use Rattle.scons_decls.specs.declared.rule.Recipe.TheVariants.{Object, Program, StaticLibrary, Command, Own, Textfile, Substfile, Install, InstallAs}
use Rattle.scons_decls.specs.State.{Declared, Rule}
use Rattle.scons_rules.specs.declared.fault.RuleReadFault.{RuleReadFault}
use Rattle.scons_rules.specs.declared.said.OfRule.{OfRule}
use Rattle.scons_rules.specs.AliasTable.{names_in, parts_in}
use Rattle.scons_rules.specs.Aliased.{lists_of}
use Rattle.scons_rules.specs.Expanding.{Expanding}
use Rattle.scons_rules.specs.Libraries.{Files, libraries}
use Rattle.scons_rules.specs.Making.{put_made}
use Rattle.scons_rules.specs.Orders.{Lists}
use Rattle.scons_rules.specs.PathGraphs.{PathGraph}
use Rattle.scons_rules.specs.Sayings.{Spoken, spoken_in, said_of}

-- what each alias says
abbrev pub alias_lists : Declared → Lists
alias_lists d = lists_of (names_in d.aliases) (parts_in d.aliases)

-- what was said of targets, with the members of aliases in their place
abbrev pub spoken : Declared → Spoken
spoken d = spoken_in (names_in d.aliases) (alias_lists d) d.said

abbrev added_rule : Option Rule → Declared → Locals → List (List ℕ) → PathGraph → Result PathGraph RuleReadFault
added_rule None d l libs g = Ok g
added_rule (Some r) d l libs g =
    put_made (record { declared = d; rule = r; locals = l }) (said_of (spoken d) r.targets) libs g

-- the rule of a number put into a graph; where there is none, the graph stays
abbrev pub added : Declared → ℕ → Locals → List (List ℕ) → PathGraph → Result PathGraph RuleReadFault
added d number l libs g = added_rule (slice_get d.rules number) d l libs g

-- the first rule that has a target
abbrev pub first_rule_of : Declared → List ℕ → Option Rule
first_rule_of d target = find (λ r. list_any (bytes_eq target) r.targets) d.rules

abbrev libraries_by : Recipe → Files → Expanding → Result (List (Option (List ℕ))) RuleReadFault
libraries_by Program f x = libraries f x
libraries_by Object f x = Ok []
libraries_by StaticLibrary f x = Ok []
libraries_by (Command lines) f x = Ok []
libraries_by (Own number) f x = Ok []
libraries_by (Textfile texts pairs) f x = Ok []
libraries_by (Substfile pairs) f x = Ok []
libraries_by Install f x = Ok []
libraries_by InstallAs f x = Ok []

-- the libraries that a rule names: only a program names any
abbrev pub program_libraries : Files → Expanding → Result (List (Option (List ℕ))) RuleReadFault
program_libraries f x = libraries_by x.rule.recipe f x

abbrev libraries_at : Option Rule → Files → Declared → Locals → Result (List (Option (List ℕ))) RuleReadFault
libraries_at None f d l = Ok []
libraries_at (Some r) f d l = program_libraries f (record { declared = d; rule = r; locals = l })

-- those of the rule of a number
abbrev pub libraries_of : Files → Declared → ℕ → Locals → Result (List (Option (List ℕ))) RuleReadFault
libraries_of f d number l = libraries_at (slice_get d.rules number) f d l
