-- What may be recorded of a watched path stays so where less is said of it, and where records are put and withdrawn that may be.
use Rattle.std.proofs.Common.{◌≡◌, ◌∙◌, ◌∷◌, [], Bool, true, false, List, Contains, Option, Some, None, cond, ap, refl, sym, subst}
use Rattle.deciders.specs.declared.recorded.Rec.{Rec}
use Rattle.sign_store.specs.Tables.{Map, is_among, with_each}
use Rattle.world_api.specs.Around.{Around}
use Rattle.world_api.specs.Calls.{Grows}
use Rattle.build_model.specs.Rules.{Path, Bytes, Setting, Among}
use Rattle.build_means.specs.Records.{record_in}
use Rattle.run_means.proofs.Lists.{among_contains, contains_among}
use Rattle.build_run.specs.Unmade.{HasNoMaker, HasNoneUnmade, IsNotUnmade, Since}
use Rattle.build_run.specs.Watches.{Scope, Never, Always, WhileDistinct, Watch, Allows, IsWatched, IsWithin, MayGo, MayHave, MayPut, Minds, has_due, has_none}
use Rattle.build_run.proofs.Outs.{among_in}
use Rattle.build_run.proofs.Unmade.{since_both, since_same}

-- ---- more was met

within_before : (scope : Scope) (s : Setting) (old new : Around) → Grows old.met new.met → IsWithin scope s new → IsWithin scope s old
within_before Never s old new grows within = within
within_before Always s old new grows within = within
within_before WhileDistinct s old new grows within = λ a b one two same. within a b (more a one) (more b two) same
  where
    more : (bytes : Bytes) → Among bytes old.met → Among bytes new.met
    more bytes m = contains_among new.met (grows bytes (among_contains m))

pub same_met : (old new : Around) → new.met ≡ old.met → Grows old.met new.met
same_met old new same bytes h = subst (λ (met : List Bytes). Contains met bytes) (sym same) h

module _ (k : Watch) (old new : Around) (grows : Grows old.met new.met) where
  pub minds_before : Minds k new → Minds k old
  minds_before minds = within_before k.scope k.setting old new grows minds

  pub watched_by : (records : Map) → Since k.start new.log (HasNoneUnmade k.path (records k.path)) → IsWatched k old records → IsWatched k new records
  watched_by records none watched = record { may = λ minds. watched.may (minds_before minds); none = none }

  pub watched_on : new.log ≡ old.log → (records : Map) → IsWatched k old records → IsWatched k new records
  watched_on same records watched =
      watched_by records (since_same k.start old.log new.log (HasNoneUnmade k.path (records k.path)) same watched.none) watched

  pub may_go : (paths : List Path) → MayGo k old paths → MayGo k new paths
  may_go paths may minds = may (minds_before minds)

  pub may_put : (rec : Rec) → MayPut k old rec → MayPut k new rec
  may_put rec may minds = may (minds_before minds)

  pub allows_on : new.log ≡ old.log → (rec : Rec) → Allows k old rec → Allows k new rec
  allows_on same rec allows = record {
    goes = may_go rec.targets allows.goes;
    puts = may_put rec allows.puts;
    first = λ among. since_same k.start old.log new.log (HasNoMaker k.path) same (allows.first among);
  }

-- ---- records are put and withdrawn

have_put : (k : Watch) (paths : List Path) (rec : Rec) (records : Map) (b : Bool) → is_among paths k.path ≡ b →
    (Contains paths k.path → k.due ≡ Some (record_in rec)) → MayHave k (records k.path) → MayHave k (cond b (Some rec) (records k.path))
have_put k paths rec records true e puts has = has_due rec (puts (among_in paths k.path e)) refl
have_put k paths rec records false e puts has = has

have_unset : (k : Watch) (paths : List Path) (records : Map) (b : Bool) → is_among paths k.path ≡ b →
    (Contains paths k.path → k.goes ≡ true) → MayHave k (records k.path) → MayHave k (cond b None (records k.path))
have_unset k paths records true e goes has = has_none (goes (among_in paths k.path e)) refl
have_unset k paths records false e goes has = has

none_put : (k : Watch) (around : Around) (paths : List Path) (rec : Rec) (records : Map) (b : Bool) → is_among paths k.path ≡ b →
    (Contains paths k.path → Since k.start around.log (IsNotUnmade k.path)) → Since k.start around.log (HasNoneUnmade k.path (records k.path)) →
    Since k.start around.log (HasNoneUnmade k.path (cond b (Some rec) (records k.path)))
none_put k around paths rec records true e made none =
    since_both k.start around.log (IsNotUnmade k.path) (HasNoneUnmade k.path (records k.path)) (HasNoneUnmade k.path (Some rec))
    (λ entries not was unmade. absurd (not unmade)) (made (among_in paths k.path e)) none
none_put k around paths rec records false e made none = none

none_unset : (k : Watch) (around : Around) (records : Map) (b : Bool) → Since k.start around.log (HasNoneUnmade k.path (records k.path)) →
    Since k.start around.log (HasNoneUnmade k.path (cond b None (records k.path)))
none_unset k around records true none = record { entries = none.entries; grown = none.grown; so = λ unmade. refl }
none_unset k around records false none = none

pub watched_put : (k : Watch) (around : Around) (rec : Rec) (records : Map) → MayPut k around rec →
    (Contains rec.targets k.path → Since k.start around.log (IsNotUnmade k.path)) → IsWatched k around records →
    IsWatched k around (with_each rec.targets (Some rec) records)
watched_put k around rec records puts made watched = record {
  may = λ minds. have_put k rec.targets rec records (is_among rec.targets k.path) refl (puts minds) (watched.may minds);
  none = none_put k around rec.targets rec records (is_among rec.targets k.path) refl made watched.none;
}

pub watched_unset : (k : Watch) (around : Around) (paths : List Path) (records : Map) → MayGo k around paths → IsWatched k around records →
    IsWatched k around (with_each paths None records)
watched_unset k around paths records goes watched = record {
  may = λ minds. have_unset k paths records (is_among paths k.path) refl (goes minds) (watched.may minds);
  none = none_unset k around records (is_among paths k.path) watched.none;
}
