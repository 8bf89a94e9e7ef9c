-- A graph of declared rules, with the copies that its variant directories call for.
use Rattle.std.specs.Prelude.{◌≡◌, ℕ, ◌+◌, ◌*◌, Bool, true, false, List, [], ◌∷◌, length, Option, Some, None, if◌then◌else◌}
use Rattle.build_model.specs.Rules.{Path, Bytes, Content, Tree, Stamps, content, Rule, Record, Records, Setting, Among}
use Rattle.build_model.specs.Reach.{has}
use Rattle.build_model.specs.Contents.{View, clean}

pub record Graph : Type 0 where
  pub rules : List Rule
  -- the path in the source directory, where a path lies in a duplicating variant directory
  pub source_of : Path → Option Path
  -- the rest is as in a setting
  pub includes : Rule → Path → Bytes → List Path
  pub act : ℕ → List Bytes → List Path → List (Path × Content) → Path → Content
  pub digest : ℕ → Bytes → List ℕ
  pub hash : ℕ
  pub is_due : Rule → Tree → Stamps → Records → Record → Bool
  pub limit : ℕ

-- the declared rule with the path among its targets
abbrev pub declared_rule : List Rule → Path → Option Rule
declared_rule [] p = None
declared_rule (r ∷ rs) p = if has p r.targets then Some r else declared_rule rs p

-- the rule that copies a file into a variant directory
abbrev pub copy_rule : Path → Path → Rule
copy_rule p q = record {
  copies = true;
  keeps_sources = true;
  work = 1;
  signed = [];
  targets = p ∷ [];
  sources = q ∷ [];
  scanned = [];
  depends = [];
  libraries = [];
  ignored = [];
  required = [];
  always = false;
  decider = content;
}

-- What no rule declares is copied where it is a file and no copy itself.
abbrev pub copy_of_file : Path → Path → Content → Option Path → Option Rule
copy_of_file p q None deeper = None
copy_of_file p q (Some bytes) None = Some (copy_rule p q)
copy_of_file p q (Some bytes) (Some o) = None

abbrev pub copy_of_source : Graph → Tree → Path → Path → Option Rule → Option Rule
copy_of_source g t p q (Some r) = Some (copy_rule p q)
copy_of_source g t p q None = copy_of_file p q (t q) (g.source_of q)

abbrev pub copy_at : Graph → Tree → Path → Option Path → Option Rule
copy_at g t p None = None
copy_at g t p (Some q) = copy_of_source g t p q (declared_rule g.rules q)

abbrev pub or_copy : Graph → Tree → Path → Option Rule → Option Rule
or_copy g t p (Some r) = Some r
or_copy g t p None = copy_at g t p (g.source_of p)

-- The rule of a path: the declared one, or else its copy rule. What is copied is a declared target, or a file that lies
-- in no duplicating variant directory.
abbrev pub rule_at : Graph → Tree → Path → Option Rule
rule_at g t p = or_copy g t p (declared_rule g.rules p)

-- what stays the same in a build that begins with this tree
abbrev pub setting : Graph → Tree → Setting
setting g t = record {
  rule_of = rule_at g t;
  includes = g.includes;
  act = g.act;
  digest = g.digest;
  hash = g.hash;
  is_due = g.is_due;
  limit = g.limit;
}

-- Declared rules are no copies, and a path is a target of one of them at most.
pub record IsGraph (g : Graph) : Type 0 where
  pub no_copies : (r : Rule) → Among r g.rules → r.copies ≡ false
  pub one_rule : (r : Rule) (p : Path) → Among r g.rules → Among p r.targets → declared_rule g.rules p ≡ Some r

-- A clean build has at most one copy between two declared rules, and one on top.
abbrev pub clean_build : Graph → Tree → View
clean_build g t = clean (setting g t) t (2 * length g.rules + 1)
