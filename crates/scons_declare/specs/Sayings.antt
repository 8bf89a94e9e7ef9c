-- What else is said of targets: `Depends`, `Requires`, `Ignore`, `AlwaysBuild`; `Alias`, `Default` and `Help`.
use Rattle.std.specs.Prelude.{ℕ, List, [], ◌∷◌, ◌++◌, map, Bool, true, false, Option, Some, None, Result, Ok, Err, codes, if◌then◌else◌}
use Rattle.std.specs.Str.{bytes_eq}
use Rattle.env_pieces.specs.declared.form.Mode.TheVariants as mode
use Rattle.scons_decls.specs.declared.aliases.Role.TheVariants.{Member, Required, Ignored}
use Rattle.scons_decls.specs.declared.answer.Answer.TheVariants as answer
use Rattle.scons_decls.specs.declared.fault.NameFault.{NameFault}
use Rattle.scons_decls.specs.declared.fault.NameFault.TheVariants.{BadArgument}
use Rattle.scons_decls.specs.declared.given.Given.{Given}
use Rattle.scons_decls.specs.declared.given.Given.TheVariants as given
use Rattle.scons_decls.specs.declared.place.Place.{Place}
use Rattle.scons_decls.specs.declared.said.Asked.{Asked}
use Rattle.scons_decls.specs.declared.said.Asked.TheVariants as asked
use Rattle.scons_decls.specs.declared.said.Saying.{Saying}
use Rattle.scons_decls.specs.declared.said.Saying.TheVariants as saying
use Rattle.scons_decls.specs.Aliased.{Aliases, with_nodes}
use Rattle.scons_decls.specs.Environs.{expanded}
use Rattle.scons_decls.specs.Paths.{path_at, file_of}
use Rattle.scons_decls.specs.State.{Declared}
use Rattle.scons_decls.specs.Steps.{and_then, each, in_turn}
use Rattle.scons_decls.specs.Tables.{has}
use Rattle.scons_declare.specs.Calls.{Outcome, silent}

-- the alias that an argument stands for: a text as it stands may name one that is declared already
abbrev pub alias_in : Declared → Given → Option (List ℕ)
alias_in d (given.Alias name) = Some name
alias_in d (given.Text text) = if has d.aliases text then Some text else None
alias_in d (given.File path) = None
alias_in d (given.Dir path) = None

-- a node that stands for no alias is a file; a directory is one where `dirs` says so
abbrev pub node_of : Declared → ℕ → List ℕ → Bool → Given → Result Given NameFault
node_of d env call true (given.Dir path) = Ok (given.Dir path)
node_of d env call dirs one = and_then (file_of d env call one) (λ path. Ok (given.File path))

abbrev pub member_by : Declared → ℕ → List ℕ → Bool → Given → Option (List ℕ) → Result Given NameFault
member_by d env call dirs one (Some name) = Ok (given.Alias name)
member_by d env call dirs one None = node_of d env call dirs one

abbrev pub member_of : Declared → ℕ → List ℕ → Bool → Given → Result Given NameFault
member_of d env call dirs one = member_by d env call dirs one (alias_in d one)

abbrev pub with_aliases : Aliases → Declared → Declared
with_aliases aliases d = record d { aliases = aliases }

-- what is said of an alias: what it depends on is a member of it, what it requires stands before those, what it ignores is none
abbrev pub said_of_alias : Saying → List Given → List ℕ → Declared → Declared
said_of_alias saying.Depends nodes name d = with_aliases (with_nodes d.aliases name Member nodes) d
said_of_alias saying.Requires nodes name d = with_aliases (with_nodes d.aliases name Required nodes) d
said_of_alias saying.Ignore nodes name d = with_aliases (with_nodes d.aliases name Ignored nodes) d
said_of_alias saying.Always nodes name d = d

-- the name of a call that says something
abbrev pub call_of : Saying → List ℕ
call_of saying.Depends = codes "Depends"
call_of saying.Requires = codes "Requires"
call_of saying.Ignore = codes "Ignore"
call_of saying.Always = codes "AlwaysBuild"

-- the targets seen so far: the answer, the files of which it is said, and what is declared
pub record Saids : Type 0 where
  pub answer : List Given
  pub files : List (List ℕ)
  pub state : Declared

abbrev pub saids : List Given → List (List ℕ) → Declared → Saids
saids answer files state = record { answer = answer; files = files; state = state }

abbrev pub unless_top : List ℕ → List ℕ → Result (List ℕ) NameFault
unless_top call path = if bytes_eq path (codes ".") then Err (BadArgument call) else Ok path

abbrev pub said_of : ℕ → Saying → List Given → Given → Option (List ℕ) → Saids → Result Saids NameFault
said_of env what nodes target (Some name) s =
    Ok (record { answer = s.answer ++ given.Alias name ∷ []; files = s.files; state = said_of_alias what nodes name s.state })
said_of env what nodes target None s =
    and_then (file_of s.state env (call_of what) target) (λ file.
    and_then (unless_top (call_of what) file) (λ path.
    Ok (record { answer = s.answer ++ given.File path ∷ []; files = s.files ++ path ∷ []; state = s.state })))

-- one target more
unfoldable pub says_of : ℕ → Saying → List Given → Given → Saids → Result Saids NameFault
says_of env what nodes target s = said_of env what nodes target (alias_in s.state target) s

abbrev pub with_said : Place → Saying → List Given → Saids → Declared
with_said place what nodes s =
    let d = s.state in
    record d { said = d.said ++ record { place = place; saying = what; targets = s.files; nodes = nodes } ∷ [] }

-- `Depends(targets, nodes)` and its kin: they answer the targets
abbrev pub say : Declared → ℕ → Place → Saying → List Given → List Given → Outcome
say d env place what targets nodes =
    and_then (each (member_of d env (call_of what) false) nodes) (λ members.
    and_then (in_turn (says_of env what members) targets (saids [] [] d)) (λ s.
    Ok (answer.Targets s.answer, with_said place what members s)))

-- the name of an alias
abbrev pub alias_name : Declared → ℕ → Given → Result (List ℕ) NameFault
alias_name d env (given.Text text) = expanded d.envs d.locals env mode.Text text
alias_name d env (given.Alias name) = Ok name
alias_name d env (given.File path) = Err (BadArgument (codes "Alias"))
alias_name d env (given.Dir path) = Err (BadArgument (codes "Alias"))

-- members added to each of these aliases
abbrev pub with_members : List Given → List (List ℕ) → Declared → Declared
with_members members [] d = d
with_members members (name ∷ names) d = with_members members names (with_aliases (with_nodes d.aliases name Member members) d)

abbrev pub aliased : Declared → List Given → List (List ℕ) → Outcome
aliased d members [] = Err (BadArgument (codes "Alias"))
aliased d members (name ∷ names) =
    Ok (answer.Targets (map given.Alias (name ∷ names)), with_members members (name ∷ names) d)

-- `Alias(name, targets)`: a word for them, to which a further call adds. It answers the aliases
abbrev pub alias : Declared → ℕ → List Given → List Given → Outcome
alias d env names members =
    and_then (each (member_of d env (codes "Alias") true) members) (λ nodes.
    and_then (each (alias_name d env) names) (aliased d nodes))

abbrev pub asked_by : Declared → ℕ → Given → Result Asked NameFault
asked_by d env (given.Text text) =
    and_then (expanded d.envs d.locals env mode.Text text) (λ shown.
    and_then (path_at d shown) (λ path. Ok (asked.Text shown path)))
asked_by d env (given.File path) = Ok (asked.Path path)
asked_by d env (given.Dir path) = Ok (asked.Path path)
asked_by d env (given.Alias name) = Ok (asked.Alias name)

-- `Default(targets)`: what a run without words makes
abbrev pub ask : Declared → ℕ → List Given → Outcome
ask d env targets = and_then (each (asked_by d env) targets) (λ all. silent (record d { defaults = d.defaults ++ all }))

-- `Help(text)`: what `scons -h` prints
abbrev pub help : Declared → ℕ → List ℕ → Outcome
help d env text = and_then (expanded d.envs d.locals env mode.Raw text) (λ shown. silent (record d { helps = d.helps ++ shown ∷ [] }))
