-- What a dry run foresees of a build that begins where it looked. No list that is made before anything runs can say more: whether a command
-- makes what stood there already shows only when it has run, so a rule that is fed by a listed one may turn out to be up to date; and what a
-- file will include that is still to be made isn't known, so a rule may come to need what a listed rule makes though it doesn't by the files as
-- they stand.
use Rattle.std.specs.Prelude.{◌≡◌, ◌⊎◌, List}
use Rattle.build_model.specs.Rules.{Path, Rule, Setting, Among}
use Rattle.build_model.specs.Contents.{in_tree, found_in}
use Rattle.build_model.specs.Laws.{IsBuild}
use Rattle.build_model.specs.Needs.{NeedsThrough}
use Rattle.build_model.specs.Steps.{Step, Build, began}
use Rattle.scons_report.specs.Dry.{IsListed}

-- a rule is listed by the files, stamps and records with which a build begins
abbrev pub IsForeseen : Setting → Build → Rule → Type 0
IsForeseen s b r = IsListed s b.before b.stamps_before b.records r

-- a rule needs what a listed one makes, directly or through others, by what files include at the end
pub record NeedsForeseen (s : Setting) (b : Build) (r : Rule) : Type 0 where
  pub other : Rule
  pub listed : IsForeseen s b other
  pub needs : NeedsThrough s.rule_of (found_in s (in_tree b.after)) r other

-- a path is a target of none of the rules that began
abbrev pub IsUntouched : List Step → Path → Type 0
IsUntouched steps p = (r : Rule) → Among r (began steps) → Among p r.targets → ⊥

-- only what rules that began make has changed, in content or in stamp
pub record ChangesMade (b : Build) (steps : List Step) : Type 0 where
  pub files : (p : Path) → IsUntouched steps p → b.before p ≡ b.after p
  pub stamps : (p : Path) → IsUntouched steps p → b.stamps_before p ≡ b.stamps_after p

-- Each rule that a build starts, with whatever status it ends, was listed, or needs what a listed rule makes.
abbrev pub ListsForesee : Type 0
ListsForesee = (s : Setting) (b : Build) (steps : List Step) → IsBuild s b steps → ChangesMade b steps →
    (r : Rule) → Among r (began steps) → IsForeseen s b r ⊎ NeedsForeseen s b r
