-- Stops before all words stand for nodes.
use Rattle.std.proofs.Common.{◌≡◌, ◌≢◌, ◌∙◌, ◌<◌, ◌⊎◌, inl, inr, ap, refl, sym, subst, ℕ, Bool, true, false, List, Option, Some, None, length, get_or, Contains}
use Rattle.std.specs.Prelude.{All, Result, Ok, Err, IsErrAnd, IfErr, MatchOption, is_none, is_some}
use Rattle.std.specs.Option.{option_map}
use Rattle.std.proofs.lemmas.List.Elements.{All-contains, Contains-get_or}
use Rattle.scons_base.specs.PathFaults.{fault_in, is_path}
use Rattle.scons_base.specs.declared.fault.PathFault.{PathFault}
use Rattle.scons_base.specs.declared.ids.RuleId.{RuleId}
use Rattle.scons_base.specs.Resolve.{spelling}
use Rattle.world_api.specs.Banks.{Banks}
use Rattle.world_api.specs.Counts.{Counts}
use Rattle.node_tree.specs.Nodes.{number_of}
use Rattle.rule_graph.specs.Rules.{rule_of}
use Rattle.rule_graph.specs.Aliases.{members_of}
use Rattle.rule_graph.specs.Graphs.{RuleGraph}
use Rattle.rule_graph.specs.declared.build_fault.BuildFault.{BuildFault}
use Rattle.rule_graph.specs.declared.build_fault.BuildFault.TheVariants as fault
use Rattle.scons_base.specs.declared.ids.NodeId.{NodeId}
use Rattle.build_files.specs.Causes.{HasEndCause, HasFaultCause as HasLookFault}
use Rattle.build_files.specs.Leftovers.{has_rule, is_made}
use Rattle.build_files.specs.declared.end.ListEnd.{ListEnd}
use Rattle.build_files.specs.declared.end.ListEnd.TheVariants as list_end
use Rattle.sign_store.specs.declared.refusals.StoreRefusal.{StoreRefusal}
use Rattle.sign_store.specs.declared.refusals.StoreRefusal.TheVariants as refusal
use Rattle.scons_top.specs.declared.report.Top.{Top}
use Rattle.scons_top.specs.declared.report.Top.TheVariants as top
use Rattle.scons_top.specs.declared.step.Step.TheVariants as step
use Rattle.scons_top.specs.declared.stop.OwnFault.{OwnFault}
use Rattle.scons_top.specs.declared.stop.OwnFault.TheVariants as own
use Rattle.scons_top.specs.declared.stop.Stop.{Stop}
use Rattle.scons_top.specs.declared.stop.Stop.TheVariants as stop
use Rattle.scons_top.specs.Asked.{asked_of, IsReadAs, IsToldUnknown, StopsUnknown, IsMissing, IsNoPath, IsUnknown, IsUnknownAs, IsUnknownOf, IsWord, IsWordIn, NamesNone, StopsFor}
use Rattle.scons_words.specs.declared.words.Words.{Words}
use Rattle.rule_graph.specs.declared.wish.Wish.{Wish}
use Rattle.scons_top.specs.declared.report.Report.{Report}
use Rattle.scons_top.specs.declared.step.Step.{Step}
use Rattle.scons_top.specs.Faults.{EarlyOnlyIf, IsEarly, IsLateStop, top_of_own}
use Rattle.scons_top.specs.Finding.{MissingOnlyIf}
use Rattle.scons_top.specs.Foreign.{StopsByBytes}
use Rattle.scons_top.specs.Steps.{ComesAt, IsReadingStep, IsStopOr, RunEndsAt, ServesAt, StopsAt}
use Rattle.scons_top.proofs.Stepping.{building_fault, ends_stops}
use Rattle.scons_top.specs.Stops.{top_of, stop_of_list, stop_of_store, IsInside}

-- of words of which more holds

fault_weaker : (P Q : Top → Type 0) (f : OwnFault) → ((f : Top) → P f → Q f) → StopsFor P (stop.Fault f) → StopsFor Q (stop.Fault f)
fault_weaker P Q (own.Usage place kind) by h = h
fault_weaker P Q (own.Reading file line kind) by h = h
fault_weaker P Q (own.UnknownTarget word) by h = by (top.UnknownTarget word) h
fault_weaker P Q (own.StoreForeign bank) by h = h

build_weaker : (P Q : Top → Type 0) (f : BuildFault) → ((f : Top) → P f → Q f) → StopsFor P (stop.Build f) → StopsFor Q (stop.Build f)
build_weaker P Q (fault.Missing node target) by h = by (top.Missing node target) h
build_weaker P Q (fault.Cycle paths) by h = h
build_weaker P Q (fault.ActionFailed target code) by h = h
build_weaker P Q (fault.TreeFault path) by h = h
build_weaker P Q (fault.StartFault target) by h = h
build_weaker P Q fault.StoreFault by h = h
build_weaker P Q fault.OutFault by h = h
build_weaker P Q (fault.TooLarge path size) by h = h
build_weaker P Q (fault.TooMany what count) by h = h

pub stops_weaker : (P Q : Top → Type 0) (s : Stop) → ((f : Top) → P f → Q f) → StopsFor P s → StopsFor Q s
stops_weaker P Q (stop.Fault f) by h = fault_weaker P Q f by h
stops_weaker P Q (stop.Build f) by h = build_weaker P Q f by h
stops_weaker P Q stop.Memory by h = h

pub ends_weaker : {T : Type 0} (P Q : Top → Type 0) (r : Result T Stop) → ((f : Top) → P f → Q f) → IfErr r (StopsFor P) → IfErr r (StopsFor Q)
ends_weaker P Q (Ok value) by h = tt
ends_weaker P Q (Err s) by h = stops_weaker P Q s by h

-- whichever words they are
fault_asked : (P : Top → Type 0) (f : OwnFault) → StopsFor P (stop.Fault f) → ComesAt step.Requests (top_of_own f)
fault_asked P (own.Usage place kind) h = h
fault_asked P (own.Reading file line kind) h = h
fault_asked P (own.UnknownTarget word) h = tt
fault_asked P (own.StoreForeign bank) h = h

build_asked : (P : Top → Type 0) (f : BuildFault) → StopsFor P (stop.Build f) → ComesAt step.Requests (top_of f)
build_asked P (fault.Missing node target) h = tt
build_asked P (fault.Cycle paths) h = h
build_asked P (fault.ActionFailed target code) h = h
build_asked P (fault.TreeFault path) h = h
build_asked P (fault.StartFault target) h = h
build_asked P fault.StoreFault h = h
build_asked P fault.OutFault h = h
build_asked P (fault.TooLarge path size) h = h
build_asked P (fault.TooMany what count) h = h

pub stops_asked : (P : Top → Type 0) (s : Stop) → StopsFor P s → StopsAt step.Requests s
stops_asked P (stop.Fault f) h = fault_asked P f h
stops_asked P (stop.Build f) h = build_asked P f h
stops_asked P stop.Memory h = h

-- the exits of a `?`

pub asked_exit : {T : Type 0} (P : Top → Type 0) (r : Result T Stop) (s : Stop) → IsErrAnd r (λ x. x ≡ s) → StopsFor P s → IfErr r (StopsFor P)
asked_exit P (Ok value) s is h = absurd is
asked_exit P (Err x) s is h = subst (StopsFor P) (sym is) h

pub asked_memory : {T : Type 0} (P : Top → Type 0) (r : Result T Stop) → IsErrAnd r (λ s. s ≡ stop.Memory) → IfErr r (StopsFor P)
asked_memory P r is = asked_exit P r stop.Memory is tt

look_fault : (P : Top → Type 0) (a b : Counts) (f : BuildFault) → HasLookFault a b f → StopsFor P (stop.Build f)
look_fault P a b (fault.Missing node target) h = absurd h
look_fault P a b (fault.Cycle paths) h = absurd h
look_fault P a b (fault.ActionFailed target code) h = absurd h
look_fault P a b (fault.TreeFault path) h = tt
look_fault P a b (fault.StartFault target) h = absurd h
look_fault P a b fault.StoreFault h = absurd h
look_fault P a b fault.OutFault h = absurd h
look_fault P a b (fault.TooLarge path size) h = tt
look_fault P a b (fault.TooMany what count) h = tt

pub look_at : (P : Top → Type 0) (a b : Counts) (e : ListEnd) → HasEndCause a b e → StopsFor P (stop_of_list e)
look_at P a b (list_end.Fault f) h = look_fault P a b f h
look_at P a b list_end.Memory h = tt

pub asked_list : {T : Type 0} (P : Top → Type 0) (r : Result T Stop) (e : ListEnd) → IsErrAnd r (λ s. IsLateStop s × (s ≡ stop_of_list e)) → StopsFor P (stop_of_list e) → IfErr r (StopsFor P)
asked_list P (Ok value) e is h = absurd is
asked_list P (Err s) e is h = subst (StopsFor P) (sym is.1) h

store_asked : (P : Top → Type 0) (e : StoreRefusal) → StopsFor P (stop_of_store e)
store_asked P refusal.Fault = tt
store_asked P (refusal.Foreign bank) = tt
store_asked P (refusal.Large size) = tt
store_asked P refusal.Memory = tt

pub store_asks : (P : Top → Type 0) (s : Stop) (e : StoreRefusal) → s ≡ stop_of_store e → StopsFor P s
store_asks P s e is = subst (StopsFor P) (sym is) (store_asked P e)

pub node_stops : {T : Type 0} (r : Result T Stop) → IsErrAnd r (λ s. IsInside s × StopsFor NamesNone s × ((banks : Banks) → StopsByBytes banks s)) → IfErr r (StopsFor NamesNone)
node_stops (Ok value) is = absurd is
node_stops (Err s) is = is.1

-- no word
pub none_as : (P : Top → Type 0) (f : Top) → NamesNone f → P f
none_as P f h = absurd h

-- a word, in a graph that stays as it is
pub word_in : (g : RuleGraph) (word : List ℕ) (f : Top) → IsWord word f → IsWordIn g g word f
word_in g word (top.UnknownTarget other) is = (is, refl)
word_in g word f is = absurd is

-- a member of an alias
pub missing_as : (word path : List ℕ) (f : Top) → IsMissing word path f → IsNoPath word f
missing_as word path (top.UnknownTarget other) is = is
missing_as word path (top.Missing node target) is = is.1
missing_as word path f is = absurd is

-- ---- members that are told to be missing

pub misses_none : (P : Top → Type 0) (Q : List ℕ → Type 0) (s : Stop) → ((node target : List ℕ) → P (top.Missing node target) → ⊥) → StopsFor P s → MissingOnlyIf Q s
misses_none P Q s none h = λ node target is. absurd (none node target (subst (StopsFor P) is h))

pub misses_by : {T : Type 0} (P : Top → Type 0) (Q : List ℕ → Type 0) (r : Result T Stop) → ((node target : List ℕ) → P (top.Missing node target) → ⊥) → IfErr r (StopsFor P) → IfErr r (MissingOnlyIf Q)
misses_by P Q (Ok value) none h = tt
misses_by P Q (Err s) none h = misses_none P Q s none h

pub misses_exit : {T : Type 0} (Q : List ℕ → Type 0) (r : Result T Stop) (s : Stop) → IsErrAnd r (λ x. x ≡ s) → MissingOnlyIf Q s → IfErr r (MissingOnlyIf Q)
misses_exit Q (Ok value) s is h = absurd is
misses_exit Q (Err x) s is h = subst (MissingOnlyIf Q) (sym is) h

-- a word that isn't known

unknown_none : (g : RuleGraph) (word : List ℕ) (found : Option (List NodeId)) → found ≡ None → (is_path word ≡ true → is_made g (spelling g.top word) ≡ false)
    → MatchOption found (is_path word ≡ true → is_made g (spelling g.top word) ≡ false) (λ members. is_path word ≡ false)
unknown_none g word found is h =
    subst (λ (o : Option (List NodeId)). MatchOption o (is_path word ≡ true → is_made g (spelling g.top word) ≡ false) (λ members. is_path word ≡ false)) (sym is) h

pub unknown_path : (g : RuleGraph) (word name : List ℕ) → name ≡ word → members_of g.aliases name ≡ None → (is_path word ≡ true → is_made g (spelling g.top word) ≡ false) → IsUnknown g word
unknown_path g word name same none h = unknown_none g word (members_of g.aliases word) (subst (λ (w : List ℕ). members_of g.aliases w ≡ None) same none) h

unknown_some : (g : RuleGraph) (word : List ℕ) (found : Option (List NodeId)) (members : List NodeId) → found ≡ Some members → is_path word ≡ false
    → MatchOption found (is_path word ≡ true → is_made g (spelling g.top word) ≡ false) (λ members. is_path word ≡ false)
unknown_some g word found members is h =
    subst (λ (o : Option (List NodeId)). MatchOption o (is_path word ≡ true → is_made g (spelling g.top word) ≡ false) (λ members. is_path word ≡ false)) (sym is) h

pub unknown_alias : (g : RuleGraph) (word name : List ℕ) (members : List NodeId) → name ≡ word → members_of g.aliases name ≡ Some members → is_path word ≡ false → IsUnknown g word
unknown_alias g word name members same is h = unknown_some g word (members_of g.aliases word) members (subst (λ (w : List ℕ). members_of g.aliases w ≡ Some members) same is) h

-- by the graph as it was
pub unknown_at : (old new : RuleGraph) (word : List ℕ) (f : Top) → IsUnknown old word → IsWordIn old new word f → IsUnknownAs new word f
unknown_at old new word (top.UnknownTarget other) h is = (is.0, subst (λ (g : RuleGraph). IsUnknown g word) (sym is.1) h)
unknown_at old new word f h is = absurd is

-- of an alias
pub alias_known : (g : RuleGraph) (word name : List ℕ) (members : List NodeId) → name ≡ word → members_of g.aliases name ≡ Some members
    → (f : Top) → IsNoPath word f → IsUnknownAs g word f
alias_known g word name members same some (top.UnknownTarget other) is = (is.0, unknown_alias g word name members same some is.1)
alias_known g word name members same some (top.Missing node target) is = is
alias_known g word name members same some f is = absurd is

pub target_spelled : (g : RuleGraph) (word above path spelled : List ℕ) → path ≡ word → above ≡ g.top → spelled ≡ spelling above path → is_made g spelled ≡ false
    → is_made g (spelling g.top word) ≡ false
target_spelled g word above path spelled is at spells h =
    subst (λ (p : List ℕ). is_made g p ≡ false) (spells ∙ ap (λ (t : List ℕ). spelling t path) at ∙ ap (λ (p : List ℕ). spelling g.top p) is) h

-- a word that was read as a path is that path
pub read_as : (word path : List ℕ) (found : Option (List ℕ)) → found ≡ Some path → IsReadAs word found → path ≡ word
read_as word path found is read = (subst (IsReadAs word) is read).0

some_map : {A B : Type 0} (f : A → B) (o : Option A) → is_some (option_map f o) ≡ is_some o
some_map f None = refl
some_map f (Some x) = refl

number_as : (g : RuleGraph) (path : List ℕ) (found same : Option NodeId) → option_map (λ (id : NodeId). id.0) found ≡ number_of g.nodes path → found ≡ same
    → number_of g.nodes path ≡ option_map (λ (id : NodeId). id.0) same
number_as g path found same at is = sym at ∙ ap (λ (o : Option NodeId). option_map (λ (id : NodeId). id.0) o) is

pub declared_some : (g : RuleGraph) (path : List ℕ) (found : Option NodeId) (node : NodeId) (rule : Option RuleId) (b : Bool) → option_map (λ (id : NodeId). id.0) found ≡ number_of g.nodes path
    → found ≡ Some node → option_map (λ (id : RuleId). id.0) rule ≡ rule_of g.rules node.0 → b ≡ is_some rule → b ≡ is_made g path
declared_some g path found node rule b at is of said =
    said ∙ sym (some_map (λ (id : RuleId). id.0) rule) ∙ ap (λ (o : Option ℕ). is_some o) of ∙ sym (ap (has_rule g.rules) (number_as g path found (Some node) at is))

pub declared_none : (g : RuleGraph) (path : List ℕ) (found : Option NodeId) → option_map (λ (id : NodeId). id.0) found ≡ number_of g.nodes path → found ≡ None → false ≡ is_made g path
declared_none g path found at is = sym (ap (has_rule g.rules) (number_as g path found None at is))

-- a word as a path

pub path_read : (text word path : List ℕ) → path ≡ text → fault_in text ≡ None → text ≡ word → (path ≡ word) × (is_path word ≡ true)
path_read text word path is none same = (is ∙ same, sym (ap is_path same) ∙ ap (λ (f : Option PathFault). is_none f) none)

pub no_path : (text word : List ℕ) (fault : PathFault) → fault_in text ≡ Some fault → text ≡ word → is_path word ≡ false
no_path text word fault is same = sym (ap is_path same) ∙ ap (λ (f : Option PathFault). is_none f) is

-- among those that are asked for
pub unknown_of : (g : RuleGraph) (words : List (List ℕ)) (i : ℕ) (d word : List ℕ) (f : Top) → i < length words → word ≡ get_or words i d → IsUnknownAs g word f → IsUnknownOf g words f
unknown_of g words i d word (top.Missing node target) lt at h = subst (Contains words) (sym (h ∙ at)) (Contains-get_or words i d lt)
unknown_of g words i d word (top.UnknownTarget other) lt at h =
    let same = h.0 ∙ at in
    (subst (Contains words) (sym same) (Contains-get_or words i d lt), subst (IsUnknown g) (sym h.0) h.1)
unknown_of g words i d word f lt at h = absurd h

-- what a run tells of it

told_by : (said : Words) (defaults : List Wish) (g : RuleGraph) (s : Stop) (word : List ℕ) → s ≡ stop.Fault (own.UnknownTarget word)
    → StopsFor (IsUnknownOf g (asked_of defaults said.requested)) s → IsToldUnknown said word
told_by said defaults g s word is h =
    let of : IsUnknownOf g (asked_of defaults said.requested) (top.UnknownTarget word) = subst (StopsFor (IsUnknownOf g (asked_of defaults said.requested))) is h in
    record { defaults = defaults; graph = g; asked = of.0; unknown = of.1 }

pub unknown_stop : {T : Type 0} (said : Words) (defaults : List Wish) (g : RuleGraph) (r : Result T Stop) (s : Stop) → IsErrAnd r (λ x. x ≡ s)
    → StopsFor (IsUnknownOf g (asked_of defaults said.requested)) s → IfErr r (StopsUnknown said)
unknown_stop said defaults g (Ok value) s is h = absurd is
unknown_stop said defaults g (Err x) s is h = λ word same. told_by said defaults g s word (sym is ∙ same) h

-- at other steps no word is told so

pub unknown_else : (said : Words) (at : Step) (r : Result Report Stop) → ((word : List ℕ) → ComesAt at (top.UnknownTarget word) → ⊥) → RunEndsAt at r → IfErr r (StopsUnknown said)
unknown_else said at (Ok report) none h = tt
unknown_else said at (Err s) none h = λ word is. absurd (none word (subst (StopsAt at) is h))

pub reading_else : (at : Step) (word : List ℕ) → IsReadingStep at → ComesAt at (top.UnknownTarget word) → ⊥
reading_else step.Words word is h = h
reading_else step.Load word is h = h
reading_else step.Top word is h = h
reading_else step.Reading word is h = h
reading_else step.Help word is h = h
reading_else step.Requests word is h = is
reading_else step.Cleaning word is h = h
reading_else step.Store word is h = h
reading_else step.Listing word is h = h
reading_else step.Building word is h = h

pub serves_else : (said : Words) (at : Step) (word : List ℕ) → ServesAt said at → ComesAt at (top.UnknownTarget word) → ⊥
serves_else said step.Words word is h = h
serves_else said step.Load word is h = h
serves_else said step.Top word is h = h
serves_else said step.Reading word is h = h
serves_else said step.Help word is h = h
serves_else said step.Requests word is h = is
serves_else said step.Cleaning word is h = h
serves_else said step.Store word is h = h
serves_else said step.Listing word is h = h
serves_else said step.Building word is h = h

-- the report

unknown_build : (f : BuildFault) (word : List ℕ) → top.UnknownTarget word ≡ top_of f → ⊥
unknown_build f word e = subst (ComesAt step.Building) (sym e) (building_fault f)

unknown_own : (f : OwnFault) (word : List ℕ) → top.UnknownTarget word ≡ top_of_own f → f ≡ own.UnknownTarget word
unknown_own (own.UnknownTarget other) word same = cc
unknown_own (own.Usage place kind) word same = absurd (let no = same in cc)
unknown_own (own.Reading file line kind) word same = absurd (let no = same in cc)
unknown_own (own.StoreForeign bank) word same = absurd (let no = same in cc)

told_stop : (s : Stop) (word : List ℕ) → IsStopOr s (top.UnknownTarget word) → s ≡ stop.Fault (own.UnknownTarget word)
told_stop (stop.Fault fault) word (inl same) = ap (λ (f : OwnFault). stop.Fault f) (unknown_own fault word same)
told_stop (stop.Fault fault) word (inr out) = absurd (let no = out in cc)
told_stop (stop.Build fault) word (inl same) = absurd (unknown_build fault word same)
told_stop (stop.Build fault) word (inr out) = absurd (let no = out in cc)
told_stop stop.Memory word h = absurd h

pub told_alone : (s : Stop) (faults : List Top) (word : List ℕ) → All (IsStopOr s) faults → Contains faults (top.UnknownTarget word) → s ≡ stop.Fault (own.UnknownTarget word)
told_alone s faults word all has = told_stop s word (All-contains (IsStopOr s) faults (top.UnknownTarget word) all has)

missing_build : (f : BuildFault) (node target : List ℕ) → top.Missing node target ≡ top_of f → f ≡ fault.Missing node target
missing_build (fault.Missing path first) node target same = cc
missing_build (fault.Cycle paths) node target same = absurd (let no = same in cc)
missing_build (fault.ActionFailed first code) node target same = absurd (let no = same in cc)
missing_build (fault.TreeFault path) node target same = absurd (let no = same in cc)
missing_build (fault.StartFault first) node target same = absurd (let no = same in cc)
missing_build fault.StoreFault node target same = absurd (let no = same in cc)
missing_build fault.OutFault node target same = absurd (let no = same in cc)
missing_build (fault.TooLarge path size) node target same = absurd (let no = same in cc)
missing_build (fault.TooMany what count) node target same = absurd (let no = same in cc)

missing_own : (f : OwnFault) (node target : List ℕ) → top.Missing node target ≡ top_of_own f → ⊥
missing_own (own.UnknownTarget other) node target same = let no = same in cc
missing_own (own.Usage place kind) node target same = let no = same in cc
missing_own (own.Reading file line kind) node target same = let no = same in cc
missing_own (own.StoreForeign bank) node target same = let no = same in cc

missing_stop : (s : Stop) (node target : List ℕ) → IsStopOr s (top.Missing node target) → s ≡ stop.Build (fault.Missing node target)
missing_stop (stop.Fault f) node target (inl same) = absurd (missing_own f node target same)
missing_stop (stop.Fault f) node target (inr out) = absurd (let no = out in cc)
missing_stop (stop.Build f) node target (inl same) = ap (λ (x : BuildFault). stop.Build x) (missing_build f node target same)
missing_stop (stop.Build f) node target (inr out) = absurd (let no = out in cc)
missing_stop stop.Memory node target h = absurd h

pub missing_alone : (s : Stop) (faults : List Top) (node target : List ℕ) → All (IsStopOr s) faults → Contains faults (top.Missing node target) → s ≡ stop.Build (fault.Missing node target)
missing_alone s faults node target all has = missing_stop s node target (All-contains (IsStopOr s) faults (top.Missing node target) all has)

pub none_told : {P : Type 0} (faults : List Top) (word : List ℕ) → EarlyOnlyIf ⊥ faults → Contains faults (top.UnknownTarget word) → P
none_told faults word late has = absurd (All-contains (λ f. IsEarly f → ⊥) faults (top.UnknownTarget word) late has tt)

-- with the words that were read
pub unknown_said : (words said : Words) (r : Result Report Stop) → words ≡ said → IfErr r (StopsUnknown words) → IfErr r (StopsUnknown said)
unknown_said words said r same h = subst (λ (w : Words). IfErr r (StopsUnknown w)) same h
