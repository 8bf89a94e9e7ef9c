-- The dependencies of a rule: its sources, what the script says it depends on, its libraries, and then the files that
-- are found from scanned sources on, breadth first. What a file includes is a parameter: so one definition serves what was found so far, what
-- stands in the tree, and what a clean build would find.
use Rattle.std.specs.Prelude.{◌≡◌, ℕ, zero, suc, Bool, true, false, List, [], ◌∷◌, ◌++◌, if◌then◌else◌}
use Rattle.std.specs.Str.{bytes_eq}
use Rattle.build_model.specs.Rules.{Path, Rule, Among}

-- whether a path stands in a list
abbrev pub has : Path → List Path → Bool
has p [] = false
has p (q ∷ qs) = if bytes_eq p q then true else has p qs

-- the paths that weren't seen, each once, in order
abbrev pub unseen : List Path → List Path → List Path
unseen seen [] = []
unseen seen (p ∷ ps) = if has p seen then unseen seen ps else p ∷ unseen (p ∷ seen) ps

-- At most so many paths, breadth first: those that wait, and behind them what each includes that wasn't seen.
abbrev pub breadth_first : (Path → List Path) → ℕ → List Path → List Path → List Path
breadth_first includes zero seen waiting = []
breadth_first includes (suc room) seen [] = []
breadth_first includes (suc room) seen (p ∷ waiting) =
    p ∷ breadth_first includes room (unseen seen (includes p) ++ seen) (waiting ++ unseen seen (includes p))

-- A rule's sources less what it ignores; one that copies or writes keeps them all.
abbrev pub kept_sources : Rule → List Path
kept_sources r = unseen (if r.keeps_sources then [] else r.ignored) r.sources

-- what the graph alone says that a rule depends on
abbrev pub declared : Rule → List Path
declared r = kept_sources r ++ unseen (kept_sources r ++ r.ignored) (r.depends ++ r.libraries)

-- what is never found: what a rule ignores, and its own targets
abbrev pub left_out : Rule → List Path
left_out r = r.targets ++ r.ignored

-- those that are among the wanted ones
abbrev pub those : List Path → List Path → List Path
those wanted [] = []
those wanted (p ∷ ps) = if has p wanted then p ∷ those wanted ps else those wanted ps

-- the sources that are scanned
abbrev pub first_scanned : Rule → List Path
first_scanned r = those r.scanned (kept_sources r)

-- The files that are scanned, at most so many: sources, and what is found, breadth first in order of first finding.
abbrev pub scan_list : ℕ → (Path → List Path) → Rule → List Path
scan_list limit includes r = breadth_first includes limit (first_scanned r ++ left_out r) (first_scanned r)

-- The dependencies of a rule: what the graph says, and then the files that are found, each once.
abbrev pub reach : ℕ → (Path → List Path) → Rule → List Path
reach limit includes r = declared r ++ unseen (declared r ++ left_out r) (scan_list limit includes r)

-- A file is scanned for the rule: the same without order and limit.
pub data IsScanned (includes : Path → List Path) (r : Rule) : Path → Type 0 where
  scans_source : {p : Path} → Among p (first_scanned r) → IsScanned includes r p
  scans_found : {p : Path} (q : Path) → IsScanned includes r q → Among p (includes q) → (Among p (left_out r) → ⊥) →
      IsScanned includes r p

-- a path is a dependency of the rule
pub data Reaches (includes : Path → List Path) (r : Rule) (p : Path) : Type 0 where
  is_declared : Among p (declared r) → Reaches includes r p
  is_scanned : IsScanned includes r p → Reaches includes r p

-- the same files are scanned for a rule, and so it has the same dependencies
pub record ReachesSame (limit : ℕ) (includes others : Path → List Path) (r : Rule) : Type 0 where
  pub scanned : scan_list limit others r ≡ scan_list limit includes r
  pub dependencies : reach limit others r ≡ reach limit includes r

-- What a rule reaches is decided by what its scanned files include: what else a file includes doesn't matter.
abbrev pub ScannedDecide : Type 0
ScannedDecide = (limit : ℕ) (includes others : Path → List Path) (r : Rule) →
    ((p : Path) → Among p (scan_list limit includes r) → includes p ≡ others p) → ReachesSame limit includes others r
