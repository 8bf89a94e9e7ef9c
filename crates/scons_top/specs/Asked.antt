-- What is asked for: words, and which of them name nothing.
use Rattle.std.specs.Prelude.{◌≡◌, ℕ, Bool, true, false, List, [], ◌∷◌, Option, Some, None, Contains, codes, map, MatchOption}
use Rattle.scons_base.specs.PathFaults.{is_path}
use Rattle.scons_base.specs.Resolve.{spelling}
use Rattle.scons_words.specs.declared.words.Words.{Words}
use Rattle.rule_graph.specs.Aliases.{members_of}
use Rattle.rule_graph.specs.Graphs.{RuleGraph}
use Rattle.build_files.specs.Leftovers.{is_made}
use Rattle.rule_graph.specs.declared.build_fault.BuildFault.TheVariants as fault
use Rattle.rule_graph.specs.declared.wish.Wish.{Wish}
use Rattle.rule_graph.specs.declared.wish.Wish.TheVariants as wish
use Rattle.scons_top.specs.declared.report.Top.{Top}
use Rattle.scons_top.specs.declared.report.Top.TheVariants as top
use Rattle.scons_top.specs.declared.requests.Request.{Request}
use Rattle.scons_top.specs.declared.step.Step.TheVariants as step
use Rattle.scons_top.specs.declared.stop.OwnFault.TheVariants as own
use Rattle.scons_top.specs.declared.stop.Stop.{Stop}
use Rattle.scons_top.specs.declared.stop.Stop.TheVariants as stop
use Rattle.scons_top.specs.Steps.{StopsAt}

-- the words that are asked for

-- a default as a word
abbrev pub word_of : Wish → List ℕ
word_of (wish.Alias name) = name
word_of (wish.Path path) = path

abbrev pub or_top : List (List ℕ) → List (List ℕ)
or_top [] = codes "." ∷ []
or_top (word ∷ words) = word ∷ words

-- the words of the call; without any the defaults, and without those the top directory
abbrev pub asked_of : List Wish → List (List ℕ) → List (List ℕ)
asked_of defaults [] = or_top (map word_of defaults)
asked_of defaults (word ∷ words) = word ∷ words

abbrev pub asked_by : RuleGraph → Words → List (List ℕ)
asked_by g said = asked_of g.defaults said.requested

-- the words that requests stand for
abbrev pub words_asked : List Request → List (List ℕ)
words_asked requests = map (λ request. request.word) requests

-- words that name nothing

-- A word that isn't known is no alias and no target of a declared rule. An alias whose name is no path is told so too where a member
-- of it isn't there.
abbrev pub IsUnknown : RuleGraph → List ℕ → Type 0
IsUnknown g word =
    MatchOption (members_of g.aliases word) (is_path word ≡ true → is_made g (spelling g.top word) ≡ false) (λ members. is_path word ≡ false)

-- a stop before all words stand for nodes, where this holds of the fault of a word that isn't known and of a member that isn't there
abbrev pub StopsFor : (Top → Type 0) → Stop → Type 0
StopsFor P (stop.Fault (own.UnknownTarget word)) = P (top.UnknownTarget word)
StopsFor P (stop.Build (fault.Missing node target)) = P (top.Missing node target)
StopsFor P other = StopsAt step.Requests other

-- a word read as a path, where it is one
abbrev pub IsReadAs : List ℕ → Option (List ℕ) → Type 0
IsReadAs word path = MatchOption path (is_path word ≡ false) (λ p. (p ≡ word) × (is_path word ≡ true))

-- there is no such fault
abbrev pub NamesNone : Top → Type 0
NamesNone f = ⊥

-- it is of this word, and of no member
abbrev pub IsWord : List ℕ → Top → Type 0
IsWord word (top.UnknownTarget other) = other ≡ word
IsWord word f = ⊥

-- it is of this word, of which the graph as it was says so
abbrev pub IsWordIn : RuleGraph → RuleGraph → List ℕ → Top → Type 0
IsWordIn old new word (top.UnknownTarget other) = (other ≡ word) × (new ≡ old)
IsWordIn old new word f = ⊥

-- it is of this word, which is no path, or of the member at this path
abbrev pub IsMissing : List ℕ → List ℕ → Top → Type 0
IsMissing word path (top.UnknownTarget other) = (other ≡ word) × (is_path word ≡ false)
IsMissing word path (top.Missing node target) = (node ≡ path) × (target ≡ word)
IsMissing word path f = ⊥

-- it is of this word, which is no path, or of a member of it
abbrev pub IsNoPath : List ℕ → Top → Type 0
IsNoPath word (top.UnknownTarget other) = (other ≡ word) × (is_path word ≡ false)
IsNoPath word (top.Missing node target) = target ≡ word
IsNoPath word f = ⊥

-- it is of this word, which isn't known, or of a member of it
abbrev pub IsUnknownAs : RuleGraph → List ℕ → Top → Type 0
IsUnknownAs g word (top.UnknownTarget other) = (other ≡ word) × IsUnknown g word
IsUnknownAs g word (top.Missing node target) = target ≡ word
IsUnknownAs g word f = ⊥

-- it is of one of these, which isn't known, or of a member of it
abbrev pub IsUnknownOf : RuleGraph → List (List ℕ) → Top → Type 0
IsUnknownOf g words (top.UnknownTarget other) = Contains words other × IsUnknown g other
IsUnknownOf g words (top.Missing node target) = Contains words target
IsUnknownOf g words f = ⊥

-- A word that a run with these words told to be unknown: it was asked for, and it isn't known by what the scripts declared.
pub record IsToldUnknown (said : Words) (word : List ℕ) : Type 0 where
  pub defaults : List Wish
  pub graph : RuleGraph
  pub asked : Contains (asked_of defaults said.requested) word
  pub unknown : IsUnknown graph word

-- a run with these words stops for such a word, or for something else
abbrev pub StopsUnknown : Words → Stop → Type 0
StopsUnknown said s = (word : List ℕ) → s ≡ stop.Fault (own.UnknownTarget word) → IsToldUnknown said word

-- each word that these faults tell to be unknown is such a one
abbrev pub TellUnknown : Words → List Top → Type 0
TellUnknown said faults = (word : List ℕ) → Contains faults (top.UnknownTarget word) → IsToldUnknown said word
