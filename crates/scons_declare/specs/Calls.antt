-- What a call of a name gives: an answer and what is declared then, or the first fault in the order of the steps.
use Rattle.std.specs.Prelude.{List, Option, Result, Ok}
use Rattle.std.specs.Borrow.{Bor}
use Rattle.std.specs.Option.{option_map}
use Rattle.scons_decls.specs.declared.answer.Answer.{Answer}
use Rattle.scons_decls.specs.declared.answer.Answer.TheVariants.{Nothing}
use Rattle.scons_decls.specs.declared.fault.NameFault.{NameFault}
use Rattle.scons_decls.specs.declared.given.Given.{Given}
use Rattle.scons_decls.specs.Environs.{Environs}
use Rattle.scons_decls.specs.State.{Declared}

abbrev pub Outcome : Type 0
Outcome = Result (Answer × Declared) NameFault

-- nothing is answered
abbrev pub silent : Declared → Outcome
silent d = Ok (Nothing, d)

abbrev pub with_envs : Environs → Declared → Declared
with_envs envs d = record d { envs = envs }

-- the nodes that are given, if any are
abbrev pub nodes_in : Option (Bor (List Given)) → Option (List Given)
nodes_in given = option_map (λ nodes. nodes.now) given
