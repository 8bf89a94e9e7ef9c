-- What a script says: its rule, or the fault of reading it.
use Rattle.std.specs.Prelude.{◌≡◌, ℕ, ◌<◌, ◌≤◌, List, length, Some, None, codes}
use Rattle.scons_base.specs.declared.limits.TheConstants.{SCRIPT_LIMIT}
use Rattle.world_api.specs.Around.{Tree}
use Rattle.one_rule.specs.declared.rule.Rule.{Rule}
use Rattle.one_rule.specs.declared.report.Top.{Top}
use Rattle.one_rule.specs.declared.report.Top.TheVariants.{Reading, TooLarge, TreeFault}
use Rattle.one_rule.specs.declared.report.ReadKind.TheVariants.{NoScript, LineForm}
use Rattle.one_rule.specs.LineForm.{Declares, IsFaultLine}

abbrev pub script : List ℕ
script = codes "SConstruct"

-- the script is a file of these bytes, not too large
pub record HasScript (tree : Tree) (bytes : List ℕ) : Type 0 where
  pub is : tree script ≡ Some bytes
  pub small : length bytes ≤ SCRIPT_LIMIT

-- the tree's script declares the rule
pub record Reads (tree : Tree) (rule : Rule) : Type 0 where
  pub bytes : List ℕ
  pub script : HasScript tree bytes
  pub declares : Declares bytes rule

-- How reading may end without a rule: there is no script; it is too large; one of its lines isn't in the line form; or
-- the file tree refuses to read it.
pub data Misreads (tree : Tree) : Top → Type 0 where
  no_script : tree script ≡ None → Misreads tree (Reading script 0 NoScript)
  large_script : (bytes : List ℕ) → tree script ≡ Some bytes → SCRIPT_LIMIT < length bytes → Misreads tree (TooLarge script (length bytes))
  not_in_form : (bytes : List ℕ) (line : ℕ) → HasScript tree bytes → IsFaultLine bytes line → Misreads tree (Reading script line LineForm)
  unreadable : Misreads tree (TreeFault script)
