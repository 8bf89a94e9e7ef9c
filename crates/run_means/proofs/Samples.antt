-- The example meets what the laws ask.
use Rattle.std.proofs.Common.{◌≡◌, ℕ, zero, suc, Bool, true, false, ◌||◌, [], ◌∷◌, length, Some, cond, refl, sym, subst, ap, ◌∙◌, inl, arith}
use Rattle.std.specs.Prelude.{slice_get, nat_eq}
use Rattle.std.specs.Str.{bytes_eq}
use Rattle.std.proofs.lemmas.Bool.Decides.{Decides-eqb}
use Rattle.std.proofs.lemmas.Slice.Eq.{bytes_eq-Decides}
use Rattle.node_tree.specs.Nodes.{number_of}
use Rattle.world_api.specs.Around.{Around, IsRunningTarget}
use Rattle.world_api.specs.Calls.{Starts, Ends}
use Rattle.rule_graph.specs.declared.rule.Rule as declared
use Rattle.rule_graph.specs.Rules.{rule_of, is_target_of, IsRule}
use Rattle.build_model.specs.Rules.{Path, Setting, Among, here, there}
use Rattle.build_model.specs.Needs.{is_requested, nothing_left, met_first}
use Rattle.build_model.specs.OneJob.{IsTakenFirst}
use Rattle.build_model.specs.Records.{IsMet}
use Rattle.build_model.specs.Resting.{whole_found}
use Rattle.build_model.specs.Steps.{Build, IsReady, is_source, IsDecided, IsFresh, IsStart, IsLacking}
use Rattle.build_model.proofs.Lists.{none_some, some_same}
use Rattle.build_model.proofs.Scanning.{all_is_found}
use Rattle.build_means.specs.Due.{is_due}
use Rattle.build_means.specs.Rules.{IsReading}
use Rattle.build_means.specs.Builds.{Kept, setting_in, build_in}
use Rattle.run_means.specs.Clears.{Clears}
use Rattle.run_means.specs.Turns.{MayBeFresh, MayBegin, IsHanded}
use Rattle.run_means.specs.Examples.{source, object, declared_rule, graph, wanted, none_kept, no_faults, source_alone, both, copying, job, run, before, busy, ended, after, copy_kept, built, bare, AreMet}
use Rattle.run_means.proofs.Lists.{contains_among, among_contains}
use Rattle.run_means.proofs.Carrying.{lawful_in}

only_first : (c : Bool) → (c || false) ≡ true → c ≡ true
only_first true e = refl
only_first false e = e

apart : (number : ℕ) (path : Path) → slice_get graph.nodes number ≡ Some path → number_of graph.nodes path ≡ Some number
apart zero path e = subst (λ (p : Path). number_of graph.nodes p ≡ Some 0) (some_same e) refl
apart (suc zero) path e = subst (λ (p : Path). number_of graph.nodes p ≡ Some 1) (some_same e) refl
apart (suc (suc n)) path e = none_some e

single_by : (n : ℕ) → is_target_of declared_rule.targets n ≡ true → rule_of graph.rules n ≡ Some 0
single_by n h = subst (λ (m : ℕ). rule_of graph.rules m ≡ Some 0) ((Decides-eqb 1 n).0 (only_first (nat_eq 1 n) h)) refl

single : (i n : ℕ) (r : declared.Rule) → slice_get graph.rules i ≡ Some r → is_target_of r.targets n ≡ true →
    rule_of graph.rules n ≡ Some i
single zero n r e h = single_by n (ap (λ (x : declared.Rule). is_target_of x.targets n) (some_same e) ∙ h)
single (suc i) n r e h = none_some e

is_rule : IsRule (length graph.nodes) declared_rule
is_rule = record {
  has_target = omega arith;
  distinct = refl;
  targets = refl;
  sources = refl;
  libs = refl;
  depends = refl;
  required = refl;
  ignored = refl;
}

each_rule : (i : ℕ) (r : declared.Rule) → slice_get graph.rules i ≡ Some r → IsRule (length graph.nodes) r
each_rule zero r e = subst (λ (x : declared.Rule). IsRule (length graph.nodes) x) (some_same e) is_rule
each_rule (suc i) r e = none_some e

reading : IsReading graph
reading = record { apart = apart; single = single; named = record { each_rule = each_rule; each_alias = refl } }

only : {A : Type 0} {x y : A} → Among x (y ∷ []) → y ≡ x
only here = refl
only (there m) = elim m [ ]

-- where the source is there the rule may be decided
module _ (kept : Kept) (around : Around) (file : around.tree source ≡ Some (2 ∷ [])) where
  abbrev S : Setting
  S = setting_in wanted around

  abbrev B : Build
  B = build_in wanted kept around around

  source_ready : IsReady S around.tree [] source
  source_ready = is_source (2 ∷ []) refl file

  decided : IsDecided S B [] copying
  decided = record {
    goes_on = refl;
    not_began = λ m. elim m [ ];
    not_done = λ m. elim m [ ];
    prepared = record {
      wanted = record { found = λ r p. []; is_found = λ r p. inl refl; is_needed = is_requested object here refl };
      whole = omega arith;
      dependencies = λ p m. subst (λ q. IsReady S around.tree [] q) (only m) source_ready;
      required = λ p q m e. elim m [ ];
    };
  }

  first : IsTakenFirst S B [] copying
  first = record {
    found = whole_found S B [];
    found_whole = all_is_found S B [] (lawful_in wanted around reading) tt;
    order = copying ∷ [];
    is_order = record { met = copying ∷ []; visits = met_first (λ m. elim m [ ]) nothing_left nothing_left };
    front = [];
    behind = [];
    parts = refl;
    passed = λ x m. elim m [ ];
  }

met_source : (p : Path) → Among p (source ∷ []) → IsMet ((2 ∷ []) ∷ []) (source_alone p)
met_source p m = subst (λ q. IsMet ((2 ∷ []) ∷ []) (source_alone q)) (only m) here

met_both : (p : Path) → Among p (source ∷ []) → IsMet ((2 ∷ []) ∷ []) (both p)
met_both p m = subst (λ q. IsMet ((2 ∷ []) ∷ []) (both q)) (only m) here

start : IsStart (setting_in wanted before) (build_in wanted none_kept before before) [] copying
unfolding is_due
start = record { due = refl; each_met = met_source; room = omega arith }

may : MayBegin wanted none_kept before before [] copying
may = record { first = first none_kept before refl; decided = decided none_kept before refl; start = start }

is_fresh : IsFresh (setting_in wanted built) (build_in wanted copy_kept built built) copying
unfolding is_due
is_fresh = record { not_due = refl; each_met = met_both; same = λ p m. refl }

fresh : MayBeFresh wanted copy_kept built built [] copying
fresh = record { first = first copy_kept built refl; decided = decided copy_kept built refl; fresh = is_fresh }

lacks : IsLacking (setting_in wanted bare) (build_in wanted none_kept bare bare) [] copying source
lacks = record {
  goes_on = refl;
  not_began = λ m. elim m [ ];
  not_done = λ m. elim m [ ];
  wanted = record { found = λ r p. []; is_found = λ r p. inl refl; is_needed = is_requested object here refl };
  whole = omega arith;
  first_missing = record {
    front = [];
    rest = [];
    parts = refl;
    is_missing = record { no_rule = refl; no_file = refl };
    front_ready = λ q m. elim m [ ];
    rest_settled = λ q m. elim m [ ];
  };
  required = λ q x m e. elim m [ ];
}

clears : Clears copying.targets before before
clears = record {
  files = λ p out others. refl;
  stamps = λ p out others. refl;
  running = refl;
  log = refl;
  met = refl;
  law = refl;
}

starts : Starts job no_faults before busy
starts = record {
  files = λ p out others. refl;
  stamps = λ p out others. refl;
  dirs = λ dir. inl refl;
  running = refl;
  log = refl;
  met = refl;
  law = refl;
  top = refl;
}

handed : IsHanded wanted none_kept no_faults before before [] copying job no_faults
handed = record {
  job_of = record { work = refl; targets = refl; lines = refl; signed = refl; deps = refl };
  unrisen = record { disk = refl; tree = refl; start = refl; action = λ e. refl };
  new_id = λ other counts m. elim m [ ];
}

runs_there : IsRunningTarget busy.running object
runs_there =
    let one : Among run (run ∷ []) = here in
    let target : Among object (object ∷ []) = here in
    (run, among_contains one, among_contains target)

other_file : (p : Path) (b : Bool) → (b ≡ true → p ≡ object) → (IsRunningTarget busy.running p → ⊥) →
    cond b (Some (2 ∷ [])) (source_alone p) ≡ source_alone p
other_file p true same out = absurd (out (subst (λ q. IsRunningTarget busy.running q) (sym (same refl)) runs_there))
other_file p false same out = refl

ends : Ends (Unit {0}) ended busy after
ends = record {
  front = [];
  which = run;
  back = [];
  was = refl;
  running = refl;
  id = refl;
  files = λ p out. other_file p (bytes_eq p object) (bytes_eq-Decides p object).0 out;
  stamps = λ p out. refl;
  dirs = λ dir. inl refl;
  made = λ sure well p m. subst (λ q. both q ≡ Some (2 ∷ [])) (only (contains_among (object ∷ []) m)) refl;
  log = refl;
  met = λ bytes m. m;
  met_only = λ bytes m. inl m;
  law = refl;
  top = refl;
}

pub are_met : AreMet
are_met = record {
  reading = reading;
  none_runs = refl;
  may = may;
  clears = clears;
  starts = starts;
  handed = handed;
  waits = λ e. inl refl;
  ends = ends;
  fresh = fresh;
  lacks = lacks;
}
