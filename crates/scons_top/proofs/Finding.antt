-- What is found of words as they are looked for, one after another.
use Rattle.std.proofs.Common.{◌≡◌, ◌≢◌, ◌∙◌, ◌≤◌, ◌<◌, ◌+◌, ◌⊎◌, inl, inr, ap, sym, subst, refl, ℕ, Bool, true, false, List, [], ◌∷◌, ◌++◌, Option, Some, None, length, take, get_or, map, arith}
use Rattle.std.specs.Prelude.{◌||◌, ◌==◌, not, All, IfErr, IfOk, IfSome, IsErrAnd, IsSome, MatchOption, Ok, Err, Result, is_some, slice_get}
use Rattle.std.specs.List.{filter, list_any}
use Rattle.std.specs.Option.{option_copied}
use Rattle.std.proofs.lemmas.Bool.{cond-false, cond-true, eq-eqb, eqb-true, false≢true}
use Rattle.std.proofs.lemmas.List.{take_all}
use Rattle.std.proofs.lemmas.List.Elements.{All-more, All-nil, All-weaker}
use Rattle.std.proofs.lemmas.List.Sorted.{list_any-IsPermutation}
use Rattle.std.proofs.lemmas.Option.{slice_get_read}
use Rattle.scons_base.specs.PathFaults.{is_path}
use Rattle.scons_base.specs.Parts.{is_below}
use Rattle.scons_base.specs.Resolve.{spelling}
use Rattle.scons_base.specs.declared.ids.NodeId.{NodeId}
use Rattle.node_tree.specs.Nodes.{AreApart}
use Rattle.world_api.specs.Around.{Around}
use Rattle.world_api.specs.Looks.{Looks}
use Rattle.world_api.specs.Meaning.{Meaning}
use Rattle.world_api.specs.Reads.{kind_of}
use Rattle.world_api.specs.declared.world.Kind.{Kind}
use Rattle.world_api.specs.declared.world.Kind.TheVariants as kind
use Rattle.deciders.specs.declared.recorded.Rec.{Rec}
use Rattle.rule_graph.specs.Aliases.{members_of}
use Rattle.rule_graph.specs.Graphs.{RuleGraph}
use Rattle.rule_graph.specs.declared.build_fault.BuildFault.TheVariants as fault
use Rattle.sign_store.specs.Ends.{image_in}
use Rattle.sign_store.specs.Stores.{map_of_view, ShowsMapOf}
use Rattle.sign_store.specs.Tables.{Map}
use Rattle.sign_store.specs.declared.view.View.{View}
use Rattle.build_means.specs.Rules.{IsReading}
use Rattle.build_files.proofs.Left.{rest_before}
use Rattle.build_files.specs.Leftovers.{copied_from, is_copied, is_made, AtRest, IsLeftover}
use Rattle.build_files.specs.declared.end.ListEnd.{ListEnd}
use Rattle.build_files.specs.declared.end.ListEnd.TheVariants as list_end
use Rattle.scons_top.specs.Asked.{IsNoPath, IsUnknownAs, NamesNone, StopsFor}
use Rattle.scons_top.specs.Below.{AreBelow, AreListed, has_below, KnowsTargets, targets_in}
use Rattle.scons_top.specs.Faults.{IsLateStop}
use Rattle.scons_top.specs.Finding.{AreOf, AskedOf, CountsOrAbove, Finds, FindsPath, FindsWord, FindsWords, FoundOrUnknown, HasLeft, IsBare, IsLeftAlone, KnowsRecords, MissesWords, MissingOnlyIf, record_in, Tells, TellsRule, UnknownOnlyIf}
use Rattle.scons_top.specs.Naming.{HasGrown, IsFirstUnknown, IsLeftOver, IsThere, LacksFor, LacksOne, NamesNothing, NamesSome}
use Rattle.scons_top.specs.Naming.IsThere.{made, copied, file, dir, above}
use Rattle.scons_top.specs.Naming.NamesSome.{alias, path}
use Rattle.scons_top.specs.Stops.{stop_of_list}
use Rattle.scons_top.specs.declared.lookups.Lookups.{Lookups}
use Rattle.scons_top.specs.declared.stop.OwnFault.TheVariants as own
use Rattle.scons_top.specs.declared.stop.Stop.{Stop}
use Rattle.scons_top.specs.declared.stop.Stop.TheVariants as stop
use Rattle.scons_top.proofs.Building.{around_asked, records_kept}
use Rattle.scons_top.proofs.Grown.{grown_on, lacks_back, listed_back, listed_on, names_back, nothing_back}

-- ---- stops that tell no word to be unknown

none_unknown : {P : Type 0} (s : Stop) → StopsFor NamesNone s → UnknownOnlyIf P s
none_unknown s h = λ word is. absurd (subst (StopsFor NamesNone) is h)

pub silent_exit : {T : Type 0} (P Q : Type 0) (r : Result T Stop) (s : Stop) → IsErrAnd r (λ x. x ≡ s) → StopsFor NamesNone s → FoundOrUnknown P Q r
silent_exit P Q (Ok value) s is h = absurd is
silent_exit P Q (Err x) s is h = none_unknown x (subst (StopsFor NamesNone) (sym is) h)

pub silent_memory : {T : Type 0} (P Q : Type 0) (r : Result T Stop) → IsErrAnd r (λ s. s ≡ stop.Memory) → FoundOrUnknown P Q r
silent_memory P Q r is = silent_exit P Q r stop.Memory is tt

list_silent : {P : Type 0} (e : ListEnd) → UnknownOnlyIf P (stop_of_list e)
list_silent (list_end.Fault f) = λ word is. absurd (let never = is in cc)
list_silent list_end.Memory = λ word is. absurd (let never = is in cc)

pub silent_list : {T : Type 0} (P Q : Type 0) (r : Result T Stop) (e : ListEnd) → IsErrAnd r (λ s. IsLateStop s × (s ≡ stop_of_list e)) → FoundOrUnknown P Q r
silent_list P Q (Ok value) e is = absurd is
silent_list P Q (Err s) e is = subst (UnknownOnlyIf Q) (sym is.1) (list_silent e)

-- found, unless the step stops otherwise
pub silent_made : {T : Type 0} (P Q : Type 0) (r : Result T Stop) → IfErr r (StopsFor NamesNone) → P → FoundOrUnknown P Q r
silent_made P Q (Ok value) h p = p
silent_made P Q (Err s) h p = none_unknown s h

pub found_weaker : {T : Type 0} (P Q P' Q' : Type 0) (r : Result T Stop) → (P → P') → (Q → Q') → FoundOrUnknown P Q r → FoundOrUnknown P' Q' r
found_weaker P Q P' Q' (Ok value) p q h = p h
found_weaker P Q P' Q' (Err s) p q h = λ word is. q (h word is)

pub unknown_exit : {T : Type 0} (P Q : Type 0) (r : Result T Stop) (s : Stop) → IsErrAnd r (λ x. x ≡ s) → UnknownOnlyIf Q s → FoundOrUnknown P Q r
unknown_exit P Q (Ok value) s is h = absurd is
unknown_exit P Q (Err x) s is h = subst (UnknownOnlyIf Q) (sym is) h

-- ---- the targets below a path

any_none : {X Y : Type 0} (p : X → Bool) (f : X → Y) (xs : List X) → map f (filter p xs) ≡ [] → list_any p xs ≡ false
any_none p f [] is = refl
any_none p f (x ∷ xs) is = by_test (p x) refl (any_none p f xs)
  where
    by_test : (b : Bool) → p x ≡ b → (map f (filter p xs) ≡ [] → list_any p xs ≡ false) → list_any p (x ∷ xs) ≡ false
    by_test true passes rest = absurd (let never = sym (ap (map f) (cond-true (p x) (x ∷ filter p xs) (filter p xs) passes)) ∙ is in cc)
    by_test false fails rest =
        ap (λ b. b || list_any p xs) fails ∙ rest (sym (ap (map f) (cond-false (p x) (x ∷ filter p xs) (filter p xs) fails)) ∙ is)

any_some : {X Y : Type 0} (p : X → Bool) (f : X → Y) (xs : List X) → map f (filter p xs) ≢ [] → list_any p xs ≡ true
any_some p f [] is = absurd (is refl)
any_some p f (x ∷ xs) is = by_test (p x) refl (any_some p f xs)
  where
    by_test : (b : Bool) → p x ≡ b → (map f (filter p xs) ≢ [] → list_any p xs ≡ true) → list_any p (x ∷ xs) ≡ true
    by_test true passes rest = ap (λ b. b || list_any p xs) passes
    by_test false fails rest =
        ap (λ b. b || list_any p xs) fails ∙ rest (λ none. is (ap (map f) (cond-false (p x) (x ∷ filter p xs) (filter p xs) fails) ∙ none))

module _ (g : RuleGraph) (p : List ℕ) (nodes : List NodeId) (below : AreBelow g p nodes) where
  lies : List ℕ × NodeId → Bool
  lies t = is_below t.0 p

  pub below_none : nodes ≡ [] → has_below g p ≡ false
  unfolding lies
  below_none none = list_any-IsPermutation lies (targets_in g g.rules) below.targets below.listed.all ∙ any_none lies (λ (t : List ℕ × NodeId). t.1) below.targets (sym below.those ∙ none)

  pub below_some : nodes ≢ [] → has_below g p ≡ true
  unfolding lies
  below_some some = list_any-IsPermutation lies (targets_in g g.rules) below.targets below.listed.all
      ∙ any_some lies (λ (t : List ℕ × NodeId). t.1) below.targets (λ none. some (below.those ∙ none))

-- by the length of what was found
pub none_found : {X : Type 0} (len : ℕ) (xs : List X) → len ≡ length xs → (len == 0) ≡ true → xs ≡ []
none_found len [] same is = refl
none_found len (x ∷ xs) same is = let none = eqb-true len 0 is in absurd (omega (arith, same, none))

pub some_found : {X : Type 0} (len : ℕ) (xs : List X) → len ≡ length xs → (len == 0) ≡ false → xs ≢ []
some_found len xs same is none = false≢true (sym is ∙ eq-eqb len 0 (same ∙ ap length none))

-- what a test of it says
pub has_found : (g : RuleGraph) (p : List ℕ) (nodes : List NodeId) (len : ℕ) (is : Bool) → AreBelow g p nodes → len ≡ length nodes → is ≡ (len == 0) → not is ≡ has_below g p
has_found g p nodes len true below same is = sym (below_none g p nodes below (none_found len nodes same (sym is)))
has_found g p nodes len false below same is = sym (below_some g p nodes below (some_found len nodes same (sym is)))

-- ---- records

-- what a record of a path says
pub left_found : {E : Type 0} (g : RuleGraph) (around : Around) (records : Map) (p : List ℕ) (rec : Rec) (r : Result Bool E) → records p ≡ Some rec
    → IfOk r (λ is. is ≡ true → IsLeftover g around rec) → IfOk r (λ is. IsLeftover g around rec → is ≡ true) → IfOk r (Tells (HasLeft g around records p))
left_found g around records p rec (Err e) has is all = tt
left_found g around records p rec (Ok b) has is all = record {
  so = λ yes. record { rec = rec; has = has; left = is yes };
  not = λ none left. false≢true (sym none ∙ all (subst (IsLeftover g around) (let same = sym left.has ∙ has in cc) left.left));
}

pub none_left : (g : RuleGraph) (around : Around) (records : Map) (p : List ℕ) → records p ≡ None → Tells (HasLeft g around records p) false
none_left g around records p none = record {
  so = λ yes. absurd (false≢true yes);
  not = λ no left. let never = sym none ∙ left.has in cc;
}

pub left_over_is : (g : RuleGraph) (around : Around) (records : Map) (p : List ℕ) (is : Bool) → is_copied g p ≡ true → Tells (HasLeft g around records p) is → Tells (IsLeftOver g around records p) is
left_over_is g around records p is within h = record {
  so = λ yes. let left = h.so yes in record { copied = within; rec = left.rec; has = left.has; left = left.left };
  not = λ none left. h.not none (record { rec = left.rec; has = left.has; left = left.left });
}

pub uncopied_is : (g : RuleGraph) (around : Around) (records : Map) (p : List ℕ) → is_copied g p ≡ false → Tells (IsLeftOver g around records p) false
uncopied_is g around records p uncopied = record { so = λ yes. absurd (false≢true yes); not = λ none left. false≢true (sym uncopied ∙ left.copied) }

-- ---- a world in which nothing runs stays

module _ {W : Type 0} (m : Meaning W) where
  pub around_stays : (a b : W) → Looks m a b → AtRest m b → m.around b ≡ m.around a
  around_stays a b looks rest = around_asked (m.around a) (m.around b) (rest_before m a b looks rest).1 (looks.around rest.0)

  pub records_stay : (a b : W) → Looks m a b → m.tells b → image_in (m.seen b) ≡ image_in (m.seen a)
  records_stay a b looks tells = records_kept m a b (looks.banks tells)

  pub moved : (P : Around → Map → Type 0) (a b : W) → Looks m a b → AtRest m b → P (m.around a) (image_in (m.seen a)) → P (m.around b) (image_in (m.seen b))
  moved P a b looks rest p =
      subst (λ (around : Around). P around (image_in (m.seen b))) (sym (around_stays a b looks rest))
      (subst (λ (records : Map). P (m.around a) records) (sym (records_stay a b looks rest.0)) p)

  shows_on : (a b : W) (view : Option View) → Looks m a b → m.tells b → IfSome view (ShowsMapOf (m.seen a)) → IfSome view (ShowsMapOf (m.seen b))
  shows_on a b None looks tells h = tt
  shows_on a b (Some view) looks tells h = h ∙ sym (records_stay a b looks tells)

  pub records_on : (a b : W) (view : Option View) → Looks m a b → KnowsRecords m a view → KnowsRecords m b view
  records_on a b view looks known = λ tells. shows_on a b view looks tells (known (looks.told.told tells))

  pub records_read : (a b : W) (view : View) → Looks m a b → (m.tells b → ShowsMapOf (m.seen a) view) → KnowsRecords m b (Some view)
  records_read a b view looks shows = λ tells. shows tells ∙ sym (records_stay a b looks tells)

  pub of_on : (g : RuleGraph) (a b : W) (lookups : Lookups) → Looks m a b → AreOf m g a lookups → AreOf m g b lookups
  of_on g a b lookups looks h = record { targets = h.targets; records = records_on a b lookups.view looks h.records }

  pub of_as : (g : RuleGraph) (a b : W) (old new : Lookups) → Looks m a b → new.view ≡ old.view → (KnowsTargets g old.below → KnowsTargets g new.below) → AreOf m g a old → AreOf m g b new
  of_as g a b old new looks same lists h =
      record { targets = lists h.targets; records = subst (KnowsRecords m b) (sym same) (records_on a b old.view looks h.records) }

  -- the record of a path, by the banks
  pub record_is : (a b : W) (view : Option View) (p : List ℕ) (found : Option Rec) → IsSome view → Looks m a b → m.tells b → KnowsRecords m a view → found ≡ record_in view p
      → image_in (m.seen b) p ≡ found
  record_is a b None p found some looks tells known at = absurd (false≢true some)
  record_is a b (Some view) p found some looks tells known at =
      ap (λ (records : Map). records p) (sym (shows_on a b (Some view) looks tells (known (looks.told.told tells)))) ∙ sym at

  -- ---- paths

  pub path_file : {T : Type 0} (g : RuleGraph) (p : List ℕ) (a b : W) (r : Result T Stop) → Looks m a b → (m.tells a → kind_of (m.around a) p ≡ kind.File)
      → Finds m (CountsOrAbove g p) (IsLeftAlone g p) b r → FindsPath m g p b r
  path_file g p a b r looks is h = λ rest.
      let at : kind_of (m.around b) p ≡ kind.File = moved (λ around records. kind_of around p ≡ kind.File) a b looks rest (is (looks.told.told rest.0)) in
      let around = m.around b in
      let records = image_in (m.seen b) in
      found_weaker (CountsOrAbove g p around records) (IsLeftAlone g p around records) (IsThere g around records p) (IsBare g p around records) r
      (by_count around records at)
      (λ left. record { file = λ same. left.0; dir = λ other. let never = sym at ∙ other in cc; below = left.1 }) (h rest)
    where
      by_count : (around : Around) (records : Map) → kind_of around p ≡ kind.File → CountsOrAbove g p around records → IsThere g around records p
      by_count around records at (inl counts) = file at counts
      by_count around records at (inr below) = above below

  pub path_absent : {T : Type 0} (g : RuleGraph) (p : List ℕ) (a : W) (r : Result T Stop) → (m.tells a → kind_of (m.around a) p ≡ kind.Absent)
      → FoundOrUnknown (has_below g p ≡ true) (has_below g p ≡ false) r → FindsPath m g p a r
  path_absent g p a r is h = λ rest.
      let at = is rest.0 in
      found_weaker (has_below g p ≡ true) (has_below g p ≡ false) (IsThere g (m.around a) (image_in (m.seen a)) p) (IsBare g p (m.around a) (image_in (m.seen a))) r
      (λ below. above below)
      (λ none. record { file = λ other. absurd (let never = sym at ∙ other in cc); dir = λ other. let never = sym at ∙ other in cc; below = none }) h

  -- ---- words

  pub word_made : {T : Type 0} (clean : Bool) (g : RuleGraph) (word p : List ℕ) (a : W) (r : Result T Stop) → p ≡ spelling g.top word → is_path word ≡ true
      → (m.tells a → TellsRule g (m.around a) p true) → IfErr r (StopsFor NamesNone) → FindsWord m clean g word a r
  word_made clean g word p a r at is_one rule stops = λ rest.
      let around = m.around a in
      let records = image_in (m.seen a) in
      silent_made (NamesSome clean g around records word) (NamesNothing g around records word) r stops
      (path is_one (subst (IsThere g around records) at (by_rule around records ((rule rest.0).some refl))))
    where
      by_rule : (around : Around) (records : Map) → (is_made g p ≡ true) ⊎ ((source : List ℕ) × (copied_from g (length g.rules) around p ≡ Some source)) → IsThere g around records p
      by_rule around records (inl is) = made is
      by_rule around records (inr from) = copied from.0 from.1

  pub word_path : {T : Type 0} (clean : Bool) (g : RuleGraph) (word p : List ℕ) (a b : W) (r : Result T Stop) → members_of g.aliases word ≡ None → p ≡ spelling g.top word → is_path word ≡ true
      → Looks m a b → (m.tells a → TellsRule g (m.around a) p false) → FindsPath m g p b r → FindsWord m clean g word b r
  word_path clean g word p a b r none at is_one looks rule h = λ rest.
      let around = m.around b in
      let records = image_in (m.seen b) in
      let rules = moved (λ x y. TellsRule g x p false) a b looks rest (rule (looks.told.told rest.0)) in
      found_weaker (IsThere g around records p) (IsBare g p around records) (NamesSome clean g around records word) (NamesNothing g around records word) r
      (λ there. path is_one (subst (IsThere g around records) at there)) (λ bare. nothing around records none (λ there. not_there around records rules bare (subst (IsThere g around records) (sym at) there))) (h rest)
    where
      not_there : (around : Around) (records : Map) → TellsRule g around p false → IsBare g p around records → IsThere g around records p → ⊥
      not_there around records rules bare (made is) = false≢true (sym (rules.unmade refl) ∙ is)
      not_there around records rules bare (copied source from) = let never = sym (rules.uncopied refl) ∙ from in cc
      not_there around records rules bare (file is counts) = counts (bare.file is)
      not_there around records rules bare (dir is) = bare.dir is
      not_there around records rules bare (above below) = false≢true (sym bare.below ∙ below)

      nothing : (around : Around) (records : Map) → members_of g.aliases word ≡ None → (IsThere g around records (spelling g.top word) → ⊥) → NamesNothing g around records word
      nothing around records none never =
          subst (λ (o : Option (List NodeId)). MatchOption o (is_path word ≡ true → IsThere g around records (spelling g.top word) → ⊥) (λ members. (is_path word ≡ false) × LacksOne g around records members))
          (sym none) (λ is. never)

-- a word as it is spelled
pub spelled_word : (g : RuleGraph) (word top read p : List ℕ) → read ≡ word → top ≡ g.top → p ≡ spelling top read → p ≡ spelling g.top word
spelled_word g word top read p is at spells = spells ∙ ap (λ (t : List ℕ). spelling t read) at ∙ ap (λ (w : List ℕ). spelling g.top w) is

-- a word that is no alias and no path
pub nothing_named : (g : RuleGraph) (around : Around) (records : Map) (word : List ℕ) → members_of g.aliases word ≡ None → is_path word ≡ false → NamesNothing g around records word
nothing_named g around records word none no_path =
    subst (λ (o : Option (List NodeId)). MatchOption o (is_path word ≡ true → IsThere g around records (spelling g.top word) → ⊥) (λ members. (is_path word ≡ false) × LacksOne g around records members))
    (sym none) (λ is. absurd (false≢true (sym no_path ∙ is)))

pub alias_named : (g : RuleGraph) (word name : List ℕ) (members : List NodeId) → name ≡ word → members_of g.aliases name ≡ Some members → members_of g.aliases word ≡ Some members
alias_named g word name members same is = subst (λ (w : List ℕ). members_of g.aliases w ≡ Some members) same is

-- an alias whose name is no path, and a member of which isn't there
pub nameless : (g : RuleGraph) (around : Around) (records : Map) (word : List ℕ) (members : List NodeId) → members_of g.aliases word ≡ Some members → is_path word ≡ false
    → LacksOne g around records members → NamesNothing g around records word
nameless g around records word members some no_path lacks =
    subst (λ (o : Option (List NodeId)). MatchOption o (is_path word ≡ true → IsThere g around records (spelling g.top word) → ⊥) (λ members. (is_path word ≡ false) × LacksOne g around records members)) (sym some) (no_path, lacks)

pub no_path_only : (P Q : Type 0) (word : List ℕ) (s : Stop) → StopsFor (IsNoPath word) s → UnknownOnlyIf Q s → (is_path word ≡ false → Q → P) → UnknownOnlyIf P s
no_path_only P Q word s h only p = λ other is. p (subst (StopsFor (IsNoPath word)) is h).1 (only other is)

-- ---- words in turn

if_some : {X : Type 0} (P Q : X → Type 0) (o : Option X) → ((x : X) → P x → Q x) → IfSome o P → IfSome o Q
if_some P Q None by h = tt
if_some P Q (Some x) by h = by x h

-- over a graph whose paths got numbers
module _ {W : Type 0} (m : Meaning W) (g k : RuleGraph) (grown : HasGrown g k) (reading : IsReading g) (apart : AreApart k.nodes) where
  pub of_there : (a : W) (lookups : Lookups) → AreOf m g a lookups → AreOf m k a lookups
  of_there a lookups h = record {
    targets = if_some (λ targets. AreListed g targets.items) (λ targets. AreListed k targets.items) lookups.below.targets
        (λ targets listed. listed_on g k grown reading apart targets.items listed) h.targets;
    records = h.records;
  }

  pub of_here : (a : W) (lookups : Lookups) → AreOf m k a lookups → AreOf m g a lookups
  of_here a lookups h = record {
    targets = if_some (λ targets. AreListed k targets.items) (λ targets. AreListed g targets.items) lookups.below.targets
        (λ targets listed. listed_back g k grown reading apart targets.items listed) h.targets;
    records = h.records;
  }

  module _ (clean : Bool) (a b : W) (asked : List (List ℕ)) (i : ℕ) (word : List ℕ) (looks : Looks m a b) (lt : i < length asked) (at : word ≡ get_or asked i word)
      (names : AtRest m a → All (NamesSome clean g (m.around a) (image_in (m.seen a))) (take i asked)) where
    named_before : AtRest m b → All (NamesSome clean g (m.around b) (image_in (m.seen b))) (take i asked)
    named_before rest = moved m (λ around records. All (NamesSome clean g around records) (take i asked)) a b looks rest (names (rest_before m a b looks rest))

    pub words_more : (AtRest m b → NamesSome clean k (m.around b) (image_in (m.seen b)) word) → AtRest m b → All (NamesSome clean g (m.around b) (image_in (m.seen b))) (take (i + 1) asked)
    words_more one rest =
        let around = m.around b in
        let records = image_in (m.seen b) in
        All-more (NamesSome clean g around records) asked i word lt (named_before rest) (subst (NamesSome clean g around records) at (names_back g k grown reading apart clean around records word (one rest)))

    pub words_stop : {T : Type 0} (r : Result T Stop) (s : Stop) → IsErrAnd r (λ x. x ≡ s) → (AtRest m b → UnknownOnlyIf (NamesNothing k (m.around b) (image_in (m.seen b)) word) s)
        → ((other : List ℕ) → s ≡ stop.Fault (own.UnknownTarget other) → other ≡ word) → FindsWords m clean g asked b r
    words_stop (Ok value) s is nothing same = absurd is
    words_stop (Err x) s is nothing same = λ rest.
        let around = m.around b in
        let records = image_in (m.seen b) in
        subst (λ (y : Stop). (other : List ℕ) → y ≡ stop.Fault (own.UnknownTarget other) → IsFirstUnknown clean g around records asked other) (sym is) (λ other told.
        subst (IsFirstUnknown clean g around records asked) (sym (same other told)) (record {
          place = i;
          at = slice_get_read asked (length asked) i word refl lt at;
          before = named_before rest;
          nothing = nothing_back g k grown reading apart around records word (nothing rest other told);
        }))

    pub words_miss : {T : Type 0} (r : Result T Stop) (s : Stop) → IsErrAnd r (λ x. x ≡ s)
        → (AtRest m b → MissingOnlyIf (λ node. LacksFor k (m.around b) (image_in (m.seen b)) word node) s)
        → ((node target : List ℕ) → s ≡ stop.Build (fault.Missing node target) → target ≡ word) → MissesWords m clean g asked b r
    words_miss (Ok value) s is lacks same = absurd is
    words_miss (Err x) s is lacks same = λ rest node target told.
        let around = m.around b in
        let records = image_in (m.seen b) in
        let of = same node target (sym is ∙ told) in
        record {
          place = i;
          at = subst (λ (w : List ℕ). slice_get asked i ≡ Some w) (sym of) (slice_get_read asked (length asked) i word refl lt at);
          before = named_before rest;
          lacks = subst (λ (w : List ℕ). LacksFor g around records w node) (sym of) (lacks_back g k grown reading apart around records word node (lacks rest node target (sym is ∙ told)));
        }

pub words_unmissed : {W T : Type 0} (m : Meaning W) (clean : Bool) (g : RuleGraph) (asked : List (List ℕ)) (a : W) (r : Result T Stop) → IsErrAnd r (λ s. s ≡ stop.Memory) → MissesWords m clean g asked a r
words_unmissed m clean g asked a (Ok value) is = absurd is
words_unmissed m clean g asked a (Err s) is = λ rest node target told. absurd (let never = sym is ∙ told in cc)

pub words_all : {W : Type 0} (m : Meaning W) (clean : Bool) (g : RuleGraph) (asked : List (List ℕ)) (i : ℕ) (a : W) → length asked ≤ i
    → (AtRest m a → All (NamesSome clean g (m.around a) (image_in (m.seen a))) (take i asked)) → AtRest m a → All (NamesSome clean g (m.around a) (image_in (m.seen a))) asked
words_all m clean g asked i a le names rest = subst (λ (words : List (List ℕ)). All (NamesSome clean g (m.around a) (image_in (m.seen a))) words) (take_all i asked le) (names rest)

pub words_memory : {W T : Type 0} (m : Meaning W) (clean : Bool) (g : RuleGraph) (asked : List (List ℕ)) (a : W) (r : Result T Stop) → IsErrAnd r (λ s. s ≡ stop.Memory) → FindsWords m clean g asked a r
words_memory m clean g asked a (Ok value) is = absurd is
words_memory m clean g asked a (Err s) is = λ rest word told. absurd (let never = sym is ∙ told in cc)

-- the word that is told is the one that was looked for
pub told_word : (k : RuleGraph) (word : List ℕ) (s : Stop) → StopsFor (IsUnknownAs k word) s → (other : List ℕ) → s ≡ stop.Fault (own.UnknownTarget other) → other ≡ word
told_word k word s h other is = (subst (StopsFor (IsUnknownAs k word)) is h).0

-- and so is that of a member
pub told_missing : (k : RuleGraph) (word : List ℕ) (s : Stop) → StopsFor (IsUnknownAs k word) s → (node target : List ℕ) → s ≡ stop.Build (fault.Missing node target) → target ≡ word
told_missing k word s h node target is = subst (StopsFor (IsUnknownAs k word)) is h

-- nothing was looked up yet
pub of_nothing : {W : Type 0} (m : Meaning W) (g : RuleGraph) (a : W) (lookups : Lookups) → KnowsTargets g lookups.below → lookups.view ≡ None → AreOf m g a lookups
of_nothing m g a lookups lists none = record { targets = lists; records = λ tells. subst (λ (o : Option View). IfSome o (ShowsMapOf (m.seen a))) (sym none) tt }
