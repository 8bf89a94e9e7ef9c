-- What a build from sources alone makes.
use Rattle.std.specs.Prelude.{◌≡◌, ℕ, zero, suc, true, false, List, [], ◌∷◌, Option, Some, None, if◌then◌else◌}
use Rattle.build_model.specs.Rules.{Path, Bytes, Content, Tree, Rule, Setting, Among}
use Rattle.build_model.specs.Reach.{reach, scan_list}
use Rattle.build_model.specs.Needs.{Found}

-- What is known of a path's content: none where it is stuck.
abbrev pub Known : Type 0
Known = Option Content

-- what is known of each path
abbrev pub View : Type 0
View = Path → Known

-- in a tree everything is known
abbrev pub in_tree : Tree → View
in_tree t p = Some (t p)

abbrev pub includes_of : (Bytes → List Path) → Known → List Path
includes_of lines None = []
includes_of lines (Some None) = []
includes_of lines (Some (Some bytes)) = lines bytes

-- What a file includes for a rule. One that is stuck or absent includes nothing.
abbrev pub found_in : Setting → View → Found
found_in s view r p = includes_of (s.includes r p) (view p)

-- the files that are scanned for a rule where the contents are these
abbrev pub scanned_files : Setting → View → Rule → List Path
scanned_files s view r = scan_list s.limit (found_in s view r) r

-- the dependencies of a rule where the contents are these
abbrev pub dependencies : Setting → View → Rule → List Path
dependencies s view r = reach s.limit (found_in s view r) r

abbrev pub with_known : Path → Known → Option (List (Path × Content)) → Option (List (Path × Content))
with_known p None rest = None
with_known p (Some x) None = None
with_known p (Some x) (Some rest) = Some ((p, x) ∷ rest)

-- each path with its content, where none is stuck
abbrev pub contents_in : View → List Path → Option (List (Path × Content))
contents_in view [] = Some []
contents_in view (p ∷ ps) = with_known p (view p) (contents_in view ps)

abbrev pub act_on : Setting → Rule → Path → Option (List (Path × Content)) → Known
act_on s r p None = None
act_on s r p (Some given) = Some (s.act r.work r.signed r.targets given p)

-- what a rule makes at a path where the contents are these
abbrev pub made : Setting → View → Rule → Path → Known
made s view r p = act_on s r p (contents_in view (dependencies s view r))

abbrev pub by_rule : Option Rule → Known → (Rule → Known) → Known
by_rule None source make = source
by_rule (Some r) source make = make r

-- a source has to be a file
abbrev pub source_content : Content → Known
source_content None = None
source_content (Some bytes) = Some (Some bytes)

-- The content of a path in a clean build, where at most so many rules stand on one another. What has a rule is what
-- the rule's action makes of the clean contents of its dependencies, and a source is as it stands in the tree.
abbrev pub clean : Setting → Tree → ℕ → View
clean s t zero p = by_rule (s.rule_of p) (source_content (t p)) (λ r. None)
clean s t (suc height) p = by_rule (s.rule_of p) (source_content (t p)) (λ r. made s (clean s t height) r p)

-- Each rule has its place: it makes its targets, no other rule does, and a copy isn't copied further.
pub record IsLawful (s : Setting) : Type 0 where
  pub makes : (p : Path) (r : Rule) → s.rule_of p ≡ Some r → Among p r.targets
  pub alone : (p : Path) (r : Rule) → s.rule_of p ≡ Some r → (q : Path) → Among q r.targets → s.rule_of q ≡ Some r
  pub copied_once : (p : Path) (r : Rule) → s.rule_of p ≡ Some r → r.copies ≡ true → (view : View) →
      (q : Path) → Among q (dependencies s view r) → (x : Rule) → s.rule_of q ≡ Some x → x.copies ≡ false

-- How high these rules may stand on one another. A copy stands on no other copy, so it adds to the rule that uses it.
abbrev pub height : List Rule → ℕ
height [] = 0
height (r ∷ rs) = if r.copies then height rs else suc (suc (height rs))

-- A path is known: it has a rule or is a file.
pub data IsKnown (s : Setting) (t : Tree) (p : Path) : Type 0 where
  has_rule : (r : Rule) → s.rule_of p ≡ Some r → IsKnown s t p
  is_file : (bytes : Bytes) → t p ≡ Some bytes → IsKnown s t p
