-- The list of a dry run, from its beginning to its end.
use Rattle.std.proofs.Common.{◌≡◌, ◌≢◌, ◌<◌, ◌≤◌, ◌∙◌, ◌++◌, ◌+◌, ℕ, zero, suc, Bool, Contains, true, false, List, [], ◌∷◌, All, length, take, take_all, drop, replicate, Some, refl, sym, subst, ap, arith}
use Rattle.std.specs.Prelude.{slice_get, get_or}
use Rattle.std.specs.List.{list_any}
use Rattle.std.specs.Str.{bytes_eq}
use Rattle.std.proofs.lemmas.List.{length-replicate}
use Rattle.std.proofs.lemmas.List.Elements.{All-nil}
use Rattle.std.proofs.lemmas.Option.{slice_get-get_or}
use Rattle.scons_base.specs.declared.ids.NodeId.{NodeId}
use Rattle.scons_base.specs.declared.ids.RuleId.{RuleId}
use Rattle.world_api.specs.Around.{Around}
use Rattle.world_api.specs.Calls.{Asks}
use Rattle.world_api.specs.declared.hash.Hash.{Hash}
use Rattle.rule_graph.specs.Graphs.{RuleGraph}
use Rattle.sign_store.specs.Tables.{Map}
use Rattle.task_plan.specs.States.{state_of}
use Rattle.task_plan.specs.Orders.{is_among}
use Rattle.task_plan.specs.declared.states.RuleState.TheVariants.{Unneeded}
use Rattle.task_plan.specs.Plans.{Planned}
use Rattle.task_plan.specs.Watched.{IsFinished}
use Rattle.task_plan.proofs.ReachedLemmas.{first, later, none_among}
use Rattle.build_model.specs.Rules.{Path, Tree, Stamps, Rule, Records, Among}
use Rattle.build_model.specs.Contents.{in_tree, dependencies}
use Rattle.build_model.specs.Steps.{IsMissing}
use Rattle.build_model.proofs.Lists.{true_false, none_some, some_same, among_same}
use Rattle.build_means.specs.Grown.{Begun, begun_setting}
use Rattle.build_means.specs.Rules.{IsReading}
use Rattle.build_files.specs.Beginnings.{Begins}
use Rattle.build_files.specs.Kept.{past, stamp_past, AreTrue}
use Rattle.build_files.specs.Leftovers.{is_copied}
use Rattle.build_files.specs.Marked.{is_marked}
use Rattle.build_files.specs.declared.inputs.Inputs.{Inputs}
use Rattle.plan_means.proofs.Taking.{has_number}
use Rattle.scons_report.specs.Dry.{IsListed, AreThose, none_left, IsDryList, AreGone, begun_past, rules_with}
use Rattle.scons_report.specs.Overs.{IsOutset, IsOver, IsPlannedOrder, needs_over, IsReadyToList, AreListed}
use Rattle.scons_report.specs.declared.dry.Listed.{Listed}
use Rattle.scons_report.proofs.Going.{past_same}
use Rattle.scons_report.proofs.Finished.{with_same, order_is, no_loop}
use Rattle.scons_report.proofs.Fronting.{in_front, order_planned}
use Rattle.scons_report.proofs.Judging.{stamp_same}
use Rattle.scons_report.proofs.Leftover.{copied_same, leftover_unmade, one_target}

-- ---- it begins

module _ (g : RuleGraph) (reading : IsReading g) (hash : Hash) (kept : Map) (gone : List Path) (old new : Around) (idle : old.running ≡ [])
    (asks : Asks old new) (are : AreGone g kept old gone) where
  abbrev b : Begun
  b = begun_past g hash old gone

  leftover_copied : (path : Path) → list_any (bytes_eq path) gone ≡ true → is_copied g path ≡ true
  leftover_copied path h = let is = are.each path h in ap (is_copied g) (sym (one_target is.left.path path (subst (λ (l : List Path). Contains l path) is.left.targets is.stands))) ∙ is.left.copy.copied

  begins : Begins b g hash gone new
  begins = record {
    graph = refl;
    reading = reading;
    digests = refl;
    tree = λ path. sym (past_same gone old new idle asks path);
    copied = λ path h. sym (copied_same g hash old gone path) ∙ leftover_copied path h;
    idle = asks.running ∙ idle;
  }

  pub outset : (inputs : Inputs) → inputs.gone.keys ≡ gone → ((b : Begun) (around : Around) → Begins b g hash gone around → AreTrue b g inputs around) →
      ((number : ℕ) → is_marked inputs number ≡ false) → IsOutset b b.tree g inputs new
  outset inputs same truth unmarked = record {
    truth = truth b new begins;
    unmarked = unmarked;
    idle = asks.running ∙ idle;
    files = λ path. ap (λ (keys : List Path). past keys new.tree path) same ∙ past_same gone old new idle asks path;
  }

  -- what rules make is no leftover copy
  target_stays : (path : Path) (r : Rule) (c : Bool) → list_any (bytes_eq path) gone ≡ c → (begun_setting b).rule_of path ≡ Some r → c ≡ false
  target_stays path r true h e = none_some (sym (leftover_unmade g hash old gone reading kept path (are.each path h)) ∙ e)
  target_stays path r false h e = refl

  pub ready_first : (requested : List NodeId) (h : RuleGraph) (later : Inputs) (plan : Planned) (last : Around) → Asks old last → later.gone.keys ≡ gone →
      IsOver b requested b.tree h later plan last → IsFinished plan → IsReadyToList b requested b.tree (stamp_past gone old) h later plan last
  ready_first requested h later plan last asked same over finished = record {
    over = over;
    finished = finished;
    times = λ path. ap (λ (keys : List Path). stamp_past keys last path) same ∙ stamp_same gone old last idle asked path;
    targets = λ path r e. ap (list_any (bytes_eq path)) same ∙ target_stays path r (list_any (bytes_eq path) gone) refl e;
  }

-- ---- it goes over the rules in their order

-- none was listed yet
pub none_listed : (b : Begun) (t : Tree) (stamps : Stamps) (m : Records) (g : RuleGraph) (listed : Listed) → listed.rules.items ≡ [] →
    listed.is_listed.items ≡ replicate (length g.rules) false → AreListed b t stamps m g [] listed
none_listed b t stamps m g listed rules marks = record {
  those = subst (λ l. AreThose (IsListed (begun_setting b) t stamps m) [] (rules_with b g l)) (sym rules) none_left;
  each = λ number r e w. true_false (sym w ∙ ap (λ l. get_or l number false) marks ∙ never number (length g.rules));
  all = λ number r h. none_among number h;
  size = ap length marks ∙ length-replicate (length g.rules) false;
  known = subst (λ l. All (λ (id : RuleId). id.0 < length g.rules) l) (sym rules) (All-nil (λ (id : RuleId). id.0 < length g.rules));
  no_lack = λ number r path h. none_among number h;
}
  where
    never : (number count : ℕ) → get_or (replicate count false) number false ≡ false
    never number zero = refl
    never zero (suc count) = refl
    never (suc number) (suc count) = never number count

-- so many rules, and one more
take_more : (order : List RuleId) (place : ℕ) (rule : RuleId) → slice_get order place ≡ Some rule → take (suc place) order ≡ take place order ++ rule ∷ []
take_more [] place rule e = none_some e
take_more (x ∷ order) zero rule e = ap (λ (r : RuleId). r ∷ []) (some_same e)
take_more (x ∷ order) (suc place) rule e = ap (λ l. x ∷ l) (take_more order place rule e)

parts : (order : List RuleId) (place : ℕ) (rule : RuleId) → slice_get order place ≡ Some rule → order ≡ take place order ++ rule ∷ drop (suc place) order
parts [] place rule e = none_some e
parts (x ∷ order) zero rule e = ap (λ (r : RuleId). r ∷ order) (some_same e)
parts (x ∷ order) (suc place) rule e = ap (λ l. x ∷ l) (parts order place rule e)

there : (order : List RuleId) (place : ℕ) (rule : RuleId) → slice_get order place ≡ Some rule → is_among rule.0 order ≡ true
there [] place rule e = none_some e
there (x ∷ order) zero rule e = first rule.0 x order (ap (λ (r : RuleId). r.0) (some_same e))
there (x ∷ order) (suc place) rule e = later rule.0 x order (there order place rule e)

-- ---- and comes to its end

module _ (b : Begun) (requested : List NodeId) (stamps : Stamps) (m : Records) (g : RuleGraph) (inputs : Inputs) (plan : Planned) (around : Around)
    (is : IsReadyToList b requested b.tree stamps g inputs plan around) (order : List RuleId) (o : IsPlannedOrder g plan requested order)
    (listed : Listed) (are : AreListed b b.tree stamps m g order listed) where
  no_lack : (r : Rule) (p : Path) → Among r (rules_with b g order) → Among p (dependencies (begun_setting b) (in_tree b.tree) r) →
      IsMissing (begun_setting b) b.tree p → ⊥
  no_lack r p among n missing =
      let h = has_number b g r order (among_same (with_same b g order) among) in
      are.no_lack h.number r p h.among h.is n missing

  pub is_dry_list : IsDryList b g stamps m requested listed.rules.items
  is_dry_list = record {
    known = are.known;
    order = record {
      order = rules_with b g order;
      is_order = order_is b requested b.tree g inputs plan around is.over is.finished order o;
      no_cycle = no_loop b requested b.tree g inputs plan around is.over is.finished;
      no_lack = no_lack;
      those = are.those;
    };
  }

-- the rule at a place of the order is needed, and behind all that it needs
module _ (b : Begun) (requested : List NodeId) (stamps : Stamps) (g : RuleGraph) (inputs : Inputs) (plan : Planned) (around : Around)
    (is : IsReadyToList b requested b.tree stamps g inputs plan around) (order : List RuleId) (o : IsPlannedOrder g plan requested order)
    (place : ℕ) (rule : RuleId) (lt : place < length order) (item : rule ≡ get_or order place rule) where
  at_place : slice_get order place ≡ Some rule
  at_place = slice_get-get_or order place rule lt ∙ ap Some (sym item)

  pub is_needed : state_of plan.states rule.0 ≢ Unneeded
  is_needed = order_planned b requested b.tree g inputs plan around is.over is.finished order o rule.0 (there order place rule at_place)

  pub is_behind : (other : ℕ) → is_among other (needs_over g plan rule.0) ≡ true → is_among other (take place order) ≡ true
  is_behind =
      in_front b requested b.tree g inputs plan around is.over is.finished order o (take place order) rule (drop (suc place) order)
      (parts order place rule at_place) is_needed

  pub one_more : take place order ++ rule ∷ [] ≡ take (place + 1) order
  one_more = sym (ap (λ n. take n order) next ∙ take_more order place rule at_place)
    where
      next : place + 1 ≡ suc place
      next = omega arith

-- all rules
pub taken_all : (order : List RuleId) (place : ℕ) → (length order ≤ place) → take place order ≡ order
taken_all order place le = take_all place order le
