-- What is recorded of each path at every moment of a build, from what is watched through it.
use Rattle.std.proofs.Common.{◌≡◌, ◌⊎◌, ◌∙◌, [], Bool, false, true, List, Option, Some, None, ap, inl, inr, length, refl, sym, subst}
use Rattle.deciders.specs.declared.recorded.Rec.{Rec}
use Rattle.rule_graph.specs.Rules.{are_below}
use Rattle.sign_store.specs.Ends.{image_in}
use Rattle.sign_store.specs.Stores.{IsKept, map_of}
use Rattle.sign_store.specs.Tables.{Map}
use Rattle.sign_store.specs.declared.store.Store.{Store}
use Rattle.world_api.specs.Around.{Around}
use Rattle.world_api.specs.Banks.{Banks}
use Rattle.world_api.specs.Calls.{Grows}
use Rattle.world_api.specs.Meaning.{Meaning, IsImage}
use Rattle.world_api.proofs.Moments.{surely, throughout, weakens}
use Rattle.build_model.specs.Headline.{IsNeeded, clean_record}
use Rattle.build_model.specs.Records.{AreDistinct, AreSound}
use Rattle.build_model.specs.Rules.{Path, Rule, Record, Among}
use Rattle.build_model.proofs.Lists.{none_some, some_same, true_false}
use Rattle.build_model.proofs.Ready.{needed_place}
use Rattle.build_means.specs.Builds.{Kept, Wanted, build_in, graph_in, setting_in}
use Rattle.build_means.specs.Records.{record_in, records_in}
use Rattle.build_means.specs.Rules.{IsReading}
use Rattle.turn_means.specs.Standing.{Outset, IsOutset}
use Rattle.turn_means.proofs.Running.{makes_each, one_rule}
use Rattle.build_run.specs.Outsets.{LeavesRest}
use Rattle.build_run.specs.Remembering.{AllByContent, HasRemembered, HasThroughout, IsMadeStale, IsOneOf, begun_with}
use Rattle.build_run.specs.Safe.{IsKeptMoment, IsSafeNow, StaysSafe}
use Rattle.build_run.specs.Takes.{IsLeftAt}
use Rattle.build_run.specs.Truth.{TellsTruth}
use Rattle.build_run.specs.Watches.{Always, Covers, MayHave, MayStart, Minds, Scope, Watch, WhileDistinct}
use Rattle.build_run.proofs.Starts.{clean_then, needed_then, stale_then}
use Rattle.build_run.proofs.Stopped.{safe_first}
use Rattle.build_run.proofs.Unmade.{since_here}

-- ---- what may be found

only_had : (k : Watch) (found : Option Rec) → k.goes ≡ false → k.due ≡ None → MayHave k found → found ≡ k.had
only_had k found stays none (MayHave.had_before e) = e
only_had k found stays none (MayHave.has_none goes e) = true_false (sym goes ∙ stays)
only_had k found stays none (MayHave.has_due rec due e) = none_some (sym none ∙ due)

had_or_none : (k : Watch) (found : Option Rec) → k.due ≡ None → MayHave k found → (found ≡ k.had) ⊎ (found ≡ None)
had_or_none k found none (MayHave.had_before e) = inl e
had_or_none k found none (MayHave.has_none goes e) = inr e
had_or_none k found none (MayHave.has_due rec due e) = none_some (sym none ∙ due)

is_one : (k : Watch) (due : Record) (found : Option Rec) → k.due ≡ Some due → MayHave k found → IsOneOf k.had due found
is_one k due found is (MayHave.had_before e) = IsOneOf.had_before e
is_one k due found is (MayHave.has_none goes e) = IsOneOf.has_none e
is_one k due found is (MayHave.has_due rec put e) = IsOneOf.has_due rec (some_same (sym put ∙ is)) e

-- what is watched is so throughout
found_so : {W : Type 0} (m : Meaning W) (k : Watch) (old new : W) (IsSo : Around → Option Rec → Type 0) →
    ((around : Around) (found : Option Rec) → (Minds k around → MayHave k found) → IsSo around found) → StaysSafe m k old new →
    HasThroughout m old new k.path IsSo
found_so m k old new IsSo so stays = surely m old new (λ around banks. IsSo around (image_in banks k.path))
    (weakens m old new (λ around banks. m.sure new → IsKeptMoment k around banks) (λ around banks. m.sure new → IsSo around (image_in banks k.path))
    (throughout m old new (IsKeptMoment k) stays.moments)
    (λ t around banks kept sure. so around (image_in banks k.path) (kept sure).watched.may))

-- ---- builds

module _ {W : Type 0} (m : Meaning W) (w : Wanted) (reading : IsReading w.graph) (below : are_below (length w.graph.nodes) w.requested ≡ true)
    (store : Store) (a c : W) (idle : m.tells a → (m.around a).running ≡ []) (stands : IsKept m a store) (left : Around) (kept : Map)
    (rest : LeavesRest (IsLeftAt w.graph (m.around a) (map_of store)) (m.around a) (map_of store) left kept)
    (Went : Type 0)
    (stays : (k : Watch) → (m.tells a → IsLeftAt w.graph (m.around a) (map_of store) k.path → k.goes ≡ true) →
    (Went → Covers k (begun_with w kept (m.counts a) left)) → IsSafeNow m k a → StaysSafe m k a c)
    (sound : Went → TellsTruth m (setting_in w (m.around a)) a → (after : Around) → Grows left.met after.met →
    AreSound (setting_in w left) after.met left.tree (records_in kept)) where
  abbrev o : Outset
  o = begun_with w kept (m.counts a) left

  outset : IsOutset o
  outset = record { reading = reading; below = below }

  abbrev watch : Path → Bool → Scope → Bool → Option Record → Watch
  watch path truth scope goes due =
      record {
        setting = setting_in w (m.around a);
        start = (m.around a).log;
        truth = truth;
        scope = scope;
        path = path;
        had = map_of store path;
        goes = goes;
        due = due;
      }

  first : (path : Path) (truth : Bool) (scope : Scope) (goes : Bool) (due : Option Record) →
      (truth ≡ true → TellsTruth m (setting_in w (m.around a)) a) → IsSafeNow m (watch path truth scope goes due) a
  first path truth scope goes due tells_truth = safe_first m (watch path truth scope goes due) a idle
      (λ t sure. record { acts = refl; digests = refl }) tells_truth
      (λ t banks image. record {
        may = λ minds. MayHave.had_before (ap (λ (map : Map). map path) (stands.each t banks image).image);
        none = since_here (m.around a).log path (image_in banks path);
      })

  pub has_remembered : HasRemembered m w (map_of store) a c
  has_remembered = record {
    left = left;
    kept = kept;
    rest = rest;
    others = λ path unleft none.
        let k = watch path false Always false None in
        found_so m k a c (λ around found. found ≡ map_of store path) (λ around found has. only_had k found refl refl (has tt))
        (stays k (λ t is. absurd (unleft is)) (λ went. record { start = rest.log; each = λ r starts minds among. absurd (none r starts among) })
        (first path false Always false None (λ e. true_false (sym e))));
    leftovers = λ path is_left none.
        let k = watch path false Always true None in
        found_so m k a c (λ around found. (found ≡ map_of store path) ⊎ (found ≡ None)) (λ around found has. had_or_none k found refl (has tt))
        (stays k (λ t is. refl) (λ went. record { start = rest.log; each = λ r starts minds among. absurd (none r starts among) })
        (first path false Always true None (λ e. true_false (sym e))));
    spared = λ truth decider path unleft none.
        let k = watch path true WhileDistinct false None in
        found_so m k a c (λ around found. AreDistinct (setting_in w left) around.met → found ≡ map_of store path)
        (λ around found has distinct. only_had k found refl refl (has distinct))
        (stays k (λ t is. absurd (unleft is))
        (λ went. record { start = rest.log; each = λ r starts minds among. absurd (none r (stale_made truth decider path went r starts minds among)) })
        (first path true WhileDistinct false None (λ e. truth)));
    spared_leftovers = λ truth decider path is_left none.
        let k = watch path true WhileDistinct true None in
        found_so m k a c (λ around found. AreDistinct (setting_in w left) around.met → (found ≡ map_of store path) ⊎ (found ≡ None))
        (λ around found has distinct. had_or_none k found refl (has distinct))
        (stays k (λ t is. refl)
        (λ went. record { start = rest.log; each = λ r starts minds among. absurd (none r (stale_made truth decider path went r starts minds among)) })
        (first path true WhileDistinct true None (λ e. truth)));
    made = λ truth decider path r is.
        let due = clean_record (graph_in w left) (build_in w kept left left) r in
        let k = watch path true WhileDistinct true (Some due) in
        found_so m k a c (λ around found. AreDistinct (setting_in w left) around.met → IsOneOf (map_of store path) due found)
        (λ around found has distinct. is_one k due found refl (has distinct))
        (stays k (λ t is. refl)
        (λ went. record {
          start = rest.log;
          each = λ q starts minds among.
              let so = sound went truth starts.around starts.way.met in (
                refl,
                ap (λ (x : Rule). Some (clean_record (graph_in w left) (build_in w kept left left) x))
                    (same_rule path r q is (needed_then o outset q starts so minds decider) among)
                    ∙ ap Some (sym (clean_then o outset q starts so minds decider)),
              );
        })
        (first path true WhileDistinct true (Some due) (λ e. truth)));
  }
    where
      -- what may start and makes a path is needed and stale
      stale_made : TellsTruth m (setting_in w (m.around a)) a → AllByContent w kept left → (path : Path) → Went → (r : Rule) (starts : MayStart o r) →
          AreDistinct (setting_in w left) starts.around.met → Among path r.targets → IsMadeStale w kept left path r
      stale_made truth decider path went r starts minds among = record {
        needed = needed_then o outset r starts (sound went truth starts.around starts.way.met) minds decider;
        is_stale = stale_then o outset r starts (sound went truth starts.around starts.way.met) minds decider;
        among = among;
      }

      same_rule : (path : Path) (r q : Rule) → IsMadeStale w kept left path r →
          IsNeeded (graph_in w left) (build_in w kept left left) q → Among path q.targets → r ≡ q
      same_rule path r q is needed among =
          let one = needed_place is.needed in
          let other = needed_place needed in
          one_rule o outset path (makes_each o outset one.0 one.1 path is.among) (makes_each o outset other.0 other.1 path among)
