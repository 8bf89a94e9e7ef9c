-- The reason that is told for a rule as it starts is the one over what stood and was recorded as the build began.
use Rattle.std.proofs.Common.{arith, ◌≡◌, ◌∙◌, ◌++◌, ◌∷◌, inl, inr, ℕ, Bool, true, false, List, [], Option, Some, None, map, ap, refl, subst, sym, length}
use Rattle.std.specs.Prelude.{◌&&◌, is_some, not, slice_get}
use Rattle.std.specs.List.{AllByRecursion}
use Rattle.std.specs.Option.{option_and_then, option_map}
use Rattle.scons_base.specs.declared.ids.NodeId.{NodeId}
use Rattle.scons_base.specs.declared.ids.RuleId.{RuleId}
use Rattle.deciders.specs.Records.{IsValid}
use Rattle.deciders.specs.Spelling.{work_byte}
use Rattle.deciders.specs.declared.recorded.Dep.{Dep}
use Rattle.deciders.specs.declared.recorded.Rec.{Rec}
use Rattle.world_api.specs.Around.{Around}
use Rattle.world_api.specs.Calls.{Asks}
use Rattle.world_api.specs.Reads.{stamp_of}
use Rattle.world_api.specs.declared.decider.Decider.{Decider}
use Rattle.world_api.specs.declared.job.Work.{Work}
use Rattle.world_api.specs.declared.job.Work.TheVariants.{Shell, Copy, Write}
use Rattle.rule_graph.specs.Graphs.{RuleGraph, path_of}
use Rattle.rule_graph.specs.Rules.{IsRule}
use Rattle.rule_graph.specs.declared.rule.Rule.{Rule}
use Rattle.sign_store.specs.Tables.{Map}
use Rattle.sign_store.specs.declared.store.Store.{Store}
use Rattle.sign_store.specs.Putting.{map_with}
use Rattle.sign_store.specs.Stores.{map_of}
use Rattle.report_texts.specs.Lines.{install_line, install_text, rule_text, write_line, write_text}
use Rattle.build_model.specs.Rules as model
use Rattle.build_model.specs.Rules.{Path, Tree, Stamps, Record, Dependency, Among, here}
use Rattle.build_model.specs.Contents.{in_tree}
use Rattle.build_model.specs.Moments.{Job as Given}
use Rattle.build_model.specs.Records.{dependency_of, stamp_kept}
use Rattle.build_model.specs.Stale.{first_stamp}
use Rattle.build_model.specs.Steps.{Step}
use Rattle.build_model.proofs.Lists.{nil_cons, same_head, same_tail}
use Rattle.build_means.specs.Due.{is_due}
use Rattle.build_means.specs.Grown.{Begun, IsCopyOf, copy_in, or_copy_in}
use Rattle.build_means.specs.Records.{dependency_in, record_in, records_in}
use Rattle.build_means.specs.Rules.{decider_of, paths_of, rule_in}
use Rattle.build_means.proofs.Growing.{get_either, paths_stay}
use Rattle.build_means.proofs.Lists.{at_place, some_same}
use Rattle.plan_means.specs.Planning.{IsGraphNow}
use Rattle.plan_means.proofs.Single.{numbered_stands}
use Rattle.task_plan.specs.Settled.{deps_of}
use Rattle.explain_report.specs.declared.reason.Reason.{Reason}
use Rattle.explain_report.specs.Laws.{AreRecords, HasNoStamps, HoldsIn}
use Rattle.explain_report.specs.Order.{place_of}
use Rattle.explain_report.specs.Reasons.{Holds}
use Rattle.explain_report.specs.Rules.{IsReasonOfRule}
use Rattle.explain_report.specs.Texts.{reason_text}
use Rattle.run_means.specs.Ways.{IsWay}
use Rattle.turn_means.specs.Laws.{IsWeighed, is_due_now}
use Rattle.turn_means.specs.Standing.{Outset, IsOutset, Standing, Knows, begun_at, setting_at}
use Rattle.turn_means.proofs.Deciding.{decided, first_same, makes, record_is}
use Rattle.turn_means.proofs.Running.{unbegun_same, unbegun_stamp}
use Rattle.build_run.specs.Along.{HeldBegan}
use Rattle.build_run.specs.Holds.{Busy}
use Rattle.build_run.specs.Outs.{AreOut}
use Rattle.build_run.specs.StartTexts.{IsLineIf, IsOwnText, IsReasonLine, of_copy, of_declared}
use Rattle.build_run.specs.Whys.{IsWhyBy, IsWhyText, TellsReason, is_copy, is_told, old_of, started_text}
use Rattle.build_run.specs.declared.building.Options.{Options}
use Rattle.build_run.proofs.Choosing.{due_now, held_apart, map_beside, targets_are}
use Rattle.build_run.proofs.Valid.{AreValid}

-- ---- a reason is one by what stands and is recorded at the rule's targets alone

module _ (r : model.Rule) (t u : Tree) (stamps later : Stamps) (kept as_kept : Map) (decider : Decider) (now : Rec)
    (files : (p : Path) → Among p r.targets → t p ≡ u p) (times : (p : Path) → Among p r.targets → stamps p ≡ later p)
    (records : (p : Path) → Among p r.targets → kept p ≡ as_kept p) where
  holds_too : (reason : Reason) → HoldsIn r t stamps kept decider now reason → HoldsIn r u later as_kept decider now reason
  holds_too reason is =
      let m = at_place r.targets is.1 is.2 in (
        is.0,
        is.1,
        is.2,
        subst (λ (o : Option Rec). Holds decider r.always now is.1 (is_some (u is.0)) (first_stamp later r.targets) o reason) (records is.0 m)
            (subst (λ (s : Option ℕ). Holds decider r.always now is.1 (is_some (u is.0)) s (kept is.0) reason) (first_same stamps later r.targets times)
            (subst (λ (b : Bool). Holds decider r.always now is.1 b (first_stamp stamps r.targets) (kept is.0) reason)
            (ap is_some (files is.0 m)) is.3)),
      )

  old_too : now.targets ≡ r.targets → (reason : Reason) → old_of kept now reason ≡ old_of as_kept now reason
  old_too same reason = by (slice_get now.targets (place_of reason)) refl
    where
      by : (o : Option Path) → slice_get now.targets (place_of reason) ≡ o → option_and_then kept o ≡ option_and_then as_kept o
      by None e = refl
      by (Some p) e = records p (at_place r.targets (place_of reason) (ap (λ (ps : List Path). slice_get ps (place_of reason)) (sym same) ∙ e))

module _ (r : model.Rule) (t u : Tree) (stamps later : Stamps) (kept as_kept : Map) (decider : Decider) (now : Rec)
    (files : (p : Path) → Among p r.targets → t p ≡ u p) (times : (p : Path) → Among p r.targets → stamps p ≡ later p)
    (records : (p : Path) → Among p r.targets → kept p ≡ as_kept p) where
  pub reason_too : (reason : Reason) → IsReasonOfRule r t stamps kept decider now reason → IsReasonOfRule r u later as_kept decider now reason
  reason_too reason is = record {
    holds = holds_too r t u stamps later kept as_kept decider now files times records reason is.holds;
    first = λ other holds.
        is.first other
        (holds_too r u t later stamps as_kept kept decider now (λ p m. sym (files p m)) (λ p m. sym (times p m)) (λ p m. sym (records p m)) other
        holds);
  }

-- ---- the record of a rule that goes by content has no stamps

unstamped : (f : Path → Dependency) → ((p : Path) → (f p).stamp ≡ None) → (deps : List Dep) (paths : List Path) →
    map dependency_in deps ≡ map f paths → AllByRecursion (λ (dep : Dep). dep.stamp ≡ None) deps
unstamped f none [] paths e = tt
unstamped f none (dep ∷ deps) [] e = nil_cons (sym e)
unstamped f none (dep ∷ deps) (p ∷ paths) e =
    (ap (λ (d : Dependency). d.stamp) (same_head e) ∙ none p, unstamped f none deps paths (same_tail e))

kept_none : (d : model.Decider) (stamp : Option ℕ) → d ≡ model.content → stamp_kept d stamp ≡ None
kept_none d stamp e = ap (λ (x : model.Decider). stamp_kept x stamp) e

-- ---- the text of a rule is the same in a graph that grew

module _ (b : Begun) (g : RuleGraph) (now : IsGraphNow b g) where
  first_path : (n : NodeId) (ids : List NodeId) → paths_of g (n ∷ ids) ≡ paths_of b.graph (n ∷ ids) → path_of g.nodes n ≡ path_of b.graph.nodes n
  first_path n ids e = same_head e

  install_same : (sources targets : List NodeId) → paths_of g sources ≡ paths_of b.graph sources → paths_of g targets ≡ paths_of b.graph targets →
      install_text g.nodes sources targets ≡ install_text b.graph.nodes sources targets
  install_same [] targets e f = refl
  install_same (n ∷ sources) [] e f = refl
  install_same (n ∷ sources) (k ∷ targets) e f =
      ap (λ p. install_line p (path_of g.nodes k)) (first_path n sources e) ∙ ap (install_line (path_of b.graph.nodes n)) (first_path k targets f)

  write_same : (targets : List NodeId) → paths_of g targets ≡ paths_of b.graph targets → write_text g.nodes targets ≡ write_text b.graph.nodes targets
  write_same [] e = refl
  write_same (k ∷ targets) e = ap write_line (first_path k targets e)

  -- whatever its work is
  module _ (x : Rule) (sources : paths_of g x.sources ≡ paths_of b.graph x.sources) (targets : paths_of g x.targets ≡ paths_of b.graph x.targets) where
    copied : (builder : List ℕ) → rule_text g (record x { work = Copy; builder = builder }) ≡ rule_text b.graph (record x { work = Copy; builder = builder })
    copied [] = refl
    copied (byte ∷ bytes) = install_same x.sources x.targets sources targets

    by_work : (work : Work) → rule_text g (record x { work = work }) ≡ rule_text b.graph (record x { work = work })
    by_work Shell = refl
    by_work Copy = copied x.builder
    by_work Write = write_same x.targets targets

  rule_text_stays : (x : Rule) → IsRule (length b.graph.nodes) x → rule_text g x ≡ rule_text b.graph x
  rule_text_stays x is =
      by_work x (paths_stay b g now.read now.reading now.grown x.sources is.sources)
      (paths_stay b g now.read now.reading now.grown x.targets is.targets) x.work

  -- so is all that is printed of it
  started_stays : (options : Options) (x : Rule) (why : List ℕ) → IsRule (length b.graph.nodes) x → started_text g options x why ≡ started_text b.graph options x why
  started_stays options x why is = by options.silent
    where
      by : (silent : Bool) → started_text g (record options { silent = silent }) x why ≡ started_text b.graph (record options { silent = silent }) x why
      by true = refl
      by false = ap (λ text. why ++ text) (rule_text_stays x is)

-- ---- a copy prints nothing

copies_by : (work : Work) → work_byte work ≡ 1 → work ≡ Copy
copies_by Shell e = absurd (omega (arith, e))
copies_by Copy e = refl
copies_by Write e = absurd (omega (arith, e))

copy_is : (x : Rule) → x.work ≡ Copy → x.builder ≡ [] → is_copy x ≡ true
copy_is x work builder =
    ap (λ (w : Work). is_copy (record x { work = w })) work
    ∙ ap (λ (b : List ℕ). is_copy (record x { work = Copy; builder = b })) builder

lines_none : (g : RuleGraph) (x : Rule) → x.work ≡ Copy → x.builder ≡ [] → rule_text g x ≡ []
lines_none g x work builder =
    ap (λ (w : Work). rule_text g (record x { work = w })) work
    ∙ ap (λ (b : List ℕ). rule_text g (record x { work = Copy; builder = b })) builder

not_both : (explain silent : Bool) → (explain && not silent && not true) ≡ false
not_both true true = refl
not_both true false = refl
not_both false silent = refl

module _ (b : Begun) (g : RuleGraph) {x : Rule} (copy : IsCopyOf b g x) (options : Options) (kept : Map) (rec : Rec) (around : Around) (why : List ℕ)
    (says : IsWhyBy (is_told options x) x kept rec around why) where
  is_copying : x.work ≡ Copy
  is_copying = copies_by x.work (ap (λ (q : model.Rule). q.work) copy.is)

  untold : is_told options x ≡ false
  untold =
      ap (λ (c : Bool). options.explain && not options.silent && not c) (copy_is x is_copying copy.builder)
      ∙ not_both options.explain options.silent

  no_why : why ≡ []
  no_why = subst (λ (told : Bool). IsWhyBy told x kept rec around why) untold says

  copy_untold : started_text g options x why ≡ []
  copy_untold = by options.silent
    where
      by : (silent : Bool) → started_text g (record options { silent = silent }) x why ≡ []
      by true = refl
      by false = ap (λ (lines : List ℕ). why ++ lines) (lines_none g x is_copying copy.builder) ∙ ap (λ (text : List ℕ). text ++ []) no_why

-- ---- a rule that is due, and the text that says why

module _ (o : Outset) (outset : IsOutset o) (jobs : List Given) (s : Standing) (past : List Step)
    (way : IsWay o.wanted o.kept o.counts o.before jobs s.around past) (known : Knows o s past)
    (rule : RuleId) (r : model.Rule) (rec : Rec) (weighed : IsWeighed o s rule r rec) where
  abbrev g : RuleGraph
  g = s.graph

  makes_it : (path : Path) → Among path r.targets → (setting_at o).rule_of path ≡ Some r
  makes_it path m = makes o outset jobs s past way known rule r rec weighed path m

  -- what stands at its targets, and when it last changed, is what did as the build began
  file_before : (path : Path) → Among path r.targets → s.around.tree path ≡ o.before.tree path
  file_before path m =
      sym (unbegun_same o outset jobs s.around past way path (makes_it path m) (decided o outset jobs s past way known rule r rec weighed).not_began)

  time_before : (path : Path) → Among path r.targets → stamp_of s.around path ≡ stamp_of o.before path
  time_before path m =
      sym (unbegun_stamp o outset jobs s.around past way path (makes_it path m) (decided o outset jobs s past way known rule r rec weighed).not_began)

  same_targets : rec.targets ≡ r.targets
  same_targets = targets_are o outset jobs s past way known rule r rec weighed

  module _ (store : Store) (held : List Busy) (began : HeldBegan o past held) (outs : AreOut store held) (same : s.records ≡ map_with store held) where
    -- what the store has for them is what was recorded then
    record_before : (path : Path) → Among path r.targets → map_of store path ≡ o.kept path
    record_before path m =
        sym (map_beside store held path outs (held_apart o outset jobs s past way known rule r rec weighed held began path m))
        ∙ ap (λ (records : Map). records path) (sym same)
        ∙ known.records path r (makes_it path m) (decided o outset jobs s past way known rule r rec weighed).not_began

    asks_none : Asks s.around s.around
    asks_none = record {
      files = λ path free. refl;
      stamps = λ path free. refl;
      dirs = λ dir. refl;
      running = refl;
      log = refl;
      met = refl;
      law = refl;
      top = refl;
    }

    -- it is due by what the store has
    due_by_store : is_due_now s r rec ≡ true → is_due r s.around.tree (stamp_of s.around) (records_in (map_of store)) (record_in rec) ≡ true
    due_by_store due =
        due_now o outset jobs s past way known rule r rec weighed store held s.inputs s.around asks_none began outs same
        (is_due r s.around.tree (stamp_of s.around) (records_in (map_of store)) (record_in rec)) refl
        ∙ due

    module _ (x : Rule) (decider : r.decider ≡ decider_of x.decider) (valid : IsValid rec) (are : AreValid (map_of store)) where
      no_stamps : HasNoStamps x.decider rec
      no_stamps content =
          unstamped (dependency_of (setting_at o) r (in_tree s.around.tree) (stamp_of s.around))
          (λ p. kept_none r.decider (stamp_of s.around p) (decider ∙ ap decider_of content)) rec.deps (paths_of g (deps_of s.plan.rules rule.0))
          (ap (λ (known : Record). known.dependencies) weighed.present.is)

      are_records : AreRecords r x.decider (map_of store) rec
      are_records = record { by = decider; targets = same_targets; valid = valid; stamps = no_stamps; kept_valid = are }

      module _ (options : Options) (at : slice_get g.rules rule.0 ≡ Some x) (why : List ℕ)
          (says : IsWhyText g options rule.0 (map_of store) rec s.around why) (tells : TellsReason g options rule.0 (map_of store) rec s.around why)
          (due : is_due_now s r rec ≡ true) where
        reason_line : is_told options x ≡ true → IsReasonLine o s.around r x.decider why
        reason_line told =
            let is = tells (begun_at o) r x known.now.grown weighed.is at told are_records (due_by_store due) in
            record {
              now = rec;
              is = record_is o outset jobs s past way known rule r rec weighed;
              reason = is.0;
              of_rule = reason_too r s.around.tree o.before.tree (stamp_of s.around) (stamp_of o.before) (map_of store) o.kept x.decider rec file_before
                  time_before record_before is.0 is.1;
              told = is.2
                  ∙ ap (reason_text is.0 rec)
                  (old_too r s.around.tree o.before.tree (stamp_of s.around) (stamp_of o.before) (map_of store) o.kept x.decider rec file_before
                  time_before record_before same_targets is.0);
            }

        line_by : (told : Bool) → is_told options x ≡ told → IsWhyBy told x (map_of store) rec s.around why → IsLineIf told (IsReasonLine o s.around r x.decider) why
        line_by true e is = reason_line e
        line_by false e none = none

        line_is : IsLineIf (is_told options x) (IsReasonLine o s.around r x.decider) why
        line_is = line_by (is_told options x) refl (says x at)

    module _ (valid : IsValid rec) (are : AreValid (map_of store)) (options : Options) (why : List ℕ)
        (says : IsWhyText g options rule.0 (map_of store) rec s.around why) (tells : TellsReason g options rule.0 (map_of store) rec s.around why)
        (due : is_due_now s r rec ≡ true) (text : List ℕ)
        (is_text : (x : Rule) → slice_get g.rules rule.0 ≡ Some x → text ≡ started_text g options x why) where
      of_front : (x : Rule) → slice_get g.rules rule.0 ≡ Some x → slice_get o.wanted.graph.rules rule.0 ≡ Some x →
          IsOwnText o options s.around rule.0 r text
      of_front x at front =
          let is : rule_in g x ≡ r = some_same (ap (λ a. or_copy_in g a (slice_get g.rules rule.0)) (sym front) ∙ weighed.is) in
          let decider : r.decider ≡ decider_of x.decider = ap (λ (q : model.Rule). q.decider) (sym is) in
          of_declared x front (record {
            why = why;
            is = line_is x decider valid are options at why says tells due;
            whole = is_text x at
                ∙ started_stays (begun_at o) g known.now options x why (known.now.read.named.each_rule rule.0 x front);
          })

      of_added : (x : Rule) → slice_get g.rules rule.0 ≡ Some x → slice_get o.wanted.graph.rules rule.0 ≡ None → Among x known.now.grown.copies →
          IsOwnText o options s.around rule.0 r text
      of_added x at undeclared m =
          of_copy undeclared (is_text x at ∙ copy_untold (begun_at o) g (known.now.grown.each_copy x m) options (map_of store) rec s.around why (says x at))

      -- the text that is printed is that of the rule
      pub own_text : IsOwnText o options s.around rule.0 r text
      own_text =
          let stands = numbered_stands (begun_at o) g known.now rule.0 r weighed.is in
          elim (get_either o.wanted.graph.rules known.now.grown.copies rule.0 stands.of
          (sym (ap (λ (rules : List Rule). slice_get rules rule.0) known.now.grown.rules) ∙ stands.at)) [
            | inl front ↦ of_front stands.of stands.at front
            | inr added ↦ of_added stands.of stands.at added.0 added.1
          ]
