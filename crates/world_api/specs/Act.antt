-- What an action makes. It is a function of what the action is and of what it is given: equal actions over equal
-- contents make equal files.
use Rattle.std.specs.Prelude.{ℕ, List, [], ◌∷◌, Option, Some, None, map}
use Rattle.world_api.specs.Writing.{written}
use Rattle.world_api.specs.declared.job.Work.{Work}
use Rattle.world_api.specs.declared.job.Work.TheVariants.{Shell, Copy, Write}

-- a file's bytes, or nothing where no file stands
abbrev pub Content : Type 0
Content = Option (List ℕ)

-- the dependencies in order, each with its content
abbrev pub Given : Type 0
Given = List (List ℕ × Content)

-- what the shell makes of its signed lines at a target: signed lines, targets, what is given, and the target
abbrev pub Law : Type 0
Law = List (List ℕ) → List (List ℕ) → Given → List ℕ → Content

abbrev first_content : Given → Content
first_content [] = None
first_content (dependency ∷ rest) = dependency.1

-- The shell's part is the world's own law; a copy makes its first dependency, a write what its signed texts say.
abbrev pub act : Law → Work → List (List ℕ) → List (List ℕ) → Given → List ℕ → Content
act law Shell signed targets given target = law signed targets given target
act law Copy signed targets given target = first_content given
act law Write signed targets given target = written signed (map (λ dependency. dependency.1) given)
