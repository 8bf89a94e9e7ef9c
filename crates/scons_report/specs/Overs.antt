-- A plan that is gone over, where each rule counts as made: what is known of it meanwhile, and when it was gone over to its end.
use Rattle.std.specs.Prelude.{◌≡◌, ◌≢◌, ◌<◌, ◌++◌, ℕ, Bool, true, false, List, [], ◌∷◌, All, Option, None, Some, Result, OnOk, IfOk, length, get_or, slice_get, slice_set, ◌||◌, ⊤}
use Rattle.std.specs.List.{list_any}
use Rattle.std.specs.Str.{bytes_eq}
use Rattle.scons_base.specs.declared.ids.NodeId.{NodeId}
use Rattle.scons_base.specs.declared.ids.RuleId.{RuleId}
use Rattle.world_api.specs.Around.{Around}
use Rattle.world_api.specs.Meaning.{Meaning}
use Rattle.world_api.specs.Reads.{stamp_of}
use Rattle.deciders.specs.declared.recorded.Rec.{Rec}
use Rattle.sign_store.specs.Tables.{Map}
use Rattle.rule_graph.specs.declared.rule.Rule as declared
use Rattle.rule_graph.specs.Graphs.{RuleGraph}
use Rattle.rule_graph.specs.Rules.{are_below, rule_of}
use Rattle.task_plan.specs.Orders.{Visits, is_among}
use Rattle.task_plan.specs.Plans.{Planned}
use Rattle.task_plan.specs.Rooted.{makers_in}
use Rattle.task_plan.specs.Settled.{deps_of}
use Rattle.task_plan.specs.States.{state_of}
use Rattle.task_plan.specs.declared.states.RuleState.TheVariants.{Unneeded}
use Rattle.task_plan.specs.Watched.{AreGoingOn, IsFinished, IsStill}
use Rattle.build_model.specs.Rules.{Path, Tree, Stamps, Rule, Records, Among}
use Rattle.build_model.specs.Contents.{in_tree, found_in, dependencies}
use Rattle.build_model.specs.Needs.{RuleOf, Found, Needs}
use Rattle.build_model.specs.Steps.{Step, Fresh, IsMissing}
use Rattle.build_means.specs.Due.{is_due}
use Rattle.build_means.specs.Grown.{Begun, begun_setting, rule_numbered, IsGrown}
use Rattle.build_means.specs.Records.{record_in, records_in, HasOwnDigests}
use Rattle.build_files.specs.Dueness.{AreIdle, HaveOwnDigests}
use Rattle.build_files.specs.Kept.{past, stamp_past, AreTrue}
use Rattle.build_files.specs.Marked.{is_marked, AreGoneOver}
use Rattle.build_files.specs.declared.end.ListEnd.{ListEnd}
use Rattle.build_files.specs.declared.inputs.Inputs.{Inputs}
use Rattle.plan_means.specs.Planning.{IsGraphNow}
use Rattle.plan_means.specs.Ties.{Ties}
use Rattle.scons_report.specs.Dry.{IsListed, AreThose, IsDryList, rules_with}
use Rattle.scons_report.specs.declared.dry.Listed.{Listed}

-- the steps of a build in which each of these rules is found up to date, the latest first
abbrev pub all_fresh : List Rule → List Step
all_fresh [] = []
all_fresh (r ∷ rules) = Fresh r ∷ all_fresh rules

-- each of these rules stands once, and in front of all that it needs
abbrev pub AreInOrder : RuleOf → Found → List Rule → Type 0
AreInOrder rule_of found [] = ⊤
AreInOrder rule_of found (r ∷ rules) =
    (Among r rules → ⊥) × ((q : Rule) → Needs rule_of found r q → Among q rules) × AreInOrder rule_of found rules

-- What is known as it begins: what is kept of files is true, no rule was looked at, nothing runs, and these are the files.
pub record IsOutset (b : Begun) (t : Tree) (g : RuleGraph) (inputs : Inputs) (around : Around) : Type 0 where
  pub truth : AreTrue b g inputs around
  pub unmarked : (number : ℕ) → is_marked inputs number ≡ false
  pub idle : around.running ≡ []
  pub files : (path : Path) → past inputs.gone.keys around.tree path ≡ t path

-- What is known while it goes on: what is kept of files is true, and the plan is tied to a build in which each rule so far was found up to
-- date, by these files.
pub record IsOver (b : Begun) (requested : List NodeId) (t : Tree) (g : RuleGraph) (inputs : Inputs) (plan : Planned) (around : Around) : Type 0 where
  pub made : List Rule
  pub now : IsGraphNow b g
  pub truth : AreTrue b g inputs around
  pub looked : AreGoneOver g inputs
  pub idle : around.running ≡ []
  pub files : (path : Path) → past inputs.gone.keys around.tree path ≡ t path
  pub ties : Ties b g requested t (all_fresh made) plan
  pub order : AreInOrder (begun_setting b).rule_of (found_in (begun_setting b) (in_tree t)) made
  pub goes : plan.halted ≡ false
  pub well : AreGoingOn plan

-- So it stays.
abbrev pub StaysOver : {W T : Type 0} → Meaning W → RuleGraph → Inputs → Planned → W → RuleGraph → Inputs → Planned → W → Result T ListEnd → Type 0
StaysOver m g inputs plan old h later next new result =
    m.tells new → (b : Begun) (requested : List NodeId) (t : Tree) → IsOver b requested t g inputs plan (m.around old) →
    OnOk result (IsOver b requested t h later next (m.around new))

-- A plan of these nodes was gone over to its end.
abbrev pub GoesOver : {W : Type 0} → Meaning W → RuleGraph → Inputs → List NodeId → W → RuleGraph → Inputs → W → Planned → Type 0
GoesOver m g inputs nodes old h later new plan =
    m.tells new → are_below (length g.nodes) nodes ≡ true → (b : Begun) (t : Tree) → IsOutset b t g inputs (m.around old) →
    IsOver b nodes t h later plan (m.around new) × IsStill plan

abbrev pub required_of : Option declared.Rule → List NodeId
required_of None = []
required_of (Some r) = r.required

-- what a rule needs by a plan, in order: the rules that make what it requires, and then those that make its dependencies
abbrev pub needs_over : RuleGraph → Planned → ℕ → List RuleId
needs_over g plan rule = makers_in g (required_of (slice_get g.rules rule) ++ deps_of plan.rules rule)

-- numbers of rules in the order in which the rules of a plan are built: depth first from what is requested
pub record IsPlannedOrder (g : RuleGraph) (plan : Planned) (requested : List NodeId) (order : List RuleId) : Type 0 where
  pub met : List RuleId
  pub visits : Visits (length g.rules) (needs_over g plan) [] (makers_in g requested) met order

-- All rules of a plan that was gone over count as made, what is looked past is no target, and these are the stamps.
pub record IsReadyToList (b : Begun) (requested : List NodeId) (t : Tree) (stamps : Stamps) (g : RuleGraph) (inputs : Inputs) (plan : Planned)
    (around : Around) : Type 0 where
  pub over : IsOver b requested t g inputs plan around
  pub finished : IsFinished plan
  pub times : (path : Path) → stamp_past inputs.gone.keys around path ≡ stamps path
  pub targets : (path : Path) (r : Rule) → (begun_setting b).rule_of path ≡ Some r → list_any (bytes_eq path) inputs.gone.keys ≡ false

-- whether the rule of a number was listed
abbrev pub was_listed : Listed → ℕ → Bool
was_listed listed number = get_or listed.is_listed.items number false

-- Of the rules with these numbers those are listed that should be, and none lacks a dependency.
pub record AreListed (b : Begun) (t : Tree) (stamps : Stamps) (m : Records) (g : RuleGraph) (front : List RuleId) (listed : Listed) : Type 0 where
  pub those : AreThose (IsListed (begun_setting b) t stamps m) (rules_with b g front) (rules_with b g listed.rules.items)
  pub each : (number : ℕ) (r : Rule) → rule_numbered b g number ≡ Some r → was_listed listed number ≡ true →
      IsListed (begun_setting b) t stamps m r
  pub all : (number : ℕ) (r : Rule) → is_among number front ≡ true → rule_numbered b g number ≡ Some r →
      IsListed (begun_setting b) t stamps m r → was_listed listed number ≡ true
  pub size : length listed.is_listed.items ≡ length g.rules
  pub known : All (λ id. id.0 < length g.rules) listed.rules.items
  pub no_lack : (number : ℕ) (r : Rule) (path : Path) → is_among number front ≡ true → rule_numbered b g number ≡ Some r →
      Among path (dependencies (begun_setting b) (in_tree t) r) → IsMissing (begun_setting b) t path → ⊥

-- whether a rule makes a file that was listed; a file that no rule makes has none
abbrev pub makes_listed : Listed → Option ℕ → Bool
makes_listed listed None = false
makes_listed listed (Some rule) = was_listed listed rule

-- whether some of these files are made by a rule that was listed
abbrev pub is_fed_by : RuleGraph → Listed → List NodeId → Bool
is_fed_by g listed nodes = list_any (λ n. makes_listed listed (rule_of g.rules n.0)) nodes

-- a rule is listed where this says so, and else nothing changes
abbrev pub Lists : Listed → RuleId → Listed → Bool → Type 0
Lists old rule new true = (new.is_listed.items ≡ slice_set old.is_listed.items rule.0 true) × (new.rules.items ≡ old.rules.items ++ rule ∷ [])
Lists old rule new false = new ≡ old

-- It is so of whether a rule is fed, or due by the files around, where this record of its targets is the one of now.
abbrev pub Judges : {W : Type 0} → Meaning W → RuleGraph → Map → W → W → RuleId → Rec → Bool → (Bool → Type 0) → Type 0
Judges m g kept old new rule now fed IsSo =
    m.tells new → AreIdle (m.around old) now.targets → HaveOwnDigests kept → HasOwnDigests now → (b : Begun) (r : Rule) → IsGrown b g →
    rule_numbered b g rule.0 ≡ Some r → now.targets ≡ r.targets →
    IsSo (fed || is_due r (m.around old).tree (stamp_of (m.around old)) (records_in kept) (record_in now))

-- Rules stay ready to be listed behind a look.
abbrev pub StaysReady : {W : Type 0} → Meaning W → RuleGraph → Inputs → Planned → W → Inputs → W → Type 0
StaysReady m g inputs plan old later new =
    m.tells new → (b : Begun) (requested : List NodeId) (t : Tree) (stamps : Stamps) → IsReadyToList b requested t stamps g inputs plan (m.around old) →
    IsReadyToList b requested t stamps g later plan (m.around new)

-- A needed rule is listed where it should be, behind all that it needs.
abbrev pub ListsNext : {W T : Type 0} → Meaning W → RuleGraph → Map → Inputs → Planned → W → W → RuleId → Listed → Listed → Result T ListEnd → Type 0
ListsNext m g kept inputs plan old new rule before after result =
    m.tells new → HaveOwnDigests kept → (b : Begun) (requested : List NodeId) (t : Tree) (stamps : Stamps) (front : List RuleId) →
    IsReadyToList b requested t stamps g inputs plan (m.around old) → state_of plan.states rule.0 ≢ Unneeded →
    ((other : ℕ) → is_among other (needs_over g plan rule.0) ≡ true → is_among other front ≡ true) →
    AreListed b t stamps (records_in kept) g front before → OnOk result (AreListed b t stamps (records_in kept) g (front ++ rule ∷ []) after)

-- All rules of an order are gone over, and those are given that are listed.
abbrev pub ListsAll : {W : Type 0} → Meaning W → RuleGraph → Map → Inputs → Planned → W → W → List RuleId → Result (List RuleId) ListEnd → Type 0
ListsAll m g kept inputs plan old new order result =
    m.tells new → HaveOwnDigests kept → (b : Begun) (requested : List NodeId) (stamps : Stamps) →
    IsReadyToList b requested b.tree stamps g inputs plan (m.around old) → IsPlannedOrder g plan requested order →
    IfOk result (λ rules. IsDryList b g stamps (records_in kept) requested rules)

-- whether a path stands among these
abbrev pub among_paths : List Path → Path → Bool
among_paths paths path = list_any (bytes_eq path) paths

-- these paths are the targets of these records
abbrev pub AreTargetsOf : List Rec → List Path → Type 0
AreTargetsOf recs paths = (path : Path) → among_paths paths path ≡ list_any (λ rec. among_paths rec.targets path) recs
