-- What a rule's record over the files is made of, and which dependency is missing.
use Rattle.std.proofs.Common.{◌≡◌, ◌<◌, ◌≤◌, ◌⊎◌, inl, inr, ◌∙◌, ap, sym, subst, refl, ℕ, suc, ◌+◌, Bool, true, false, not, ◌&&◌, List, [], ◌∷◌, ◌++◌, length, get_or, take, drop, Option, Some, None}
use Rattle.std.specs.Prelude.{◌≢◌, Result, Ok, Err, slice_get, is_some}
use Rattle.std.specs.List.{list_all}
use Rattle.std.specs.Option.{option_map, option_map_or, unwrap_or}
use Rattle.std.proofs.Math.Seq.{drop-cons}
use Rattle.std.proofs.lemmas.List.{map_more, map-append, take-append-drop, take_all}
use Rattle.std.proofs.lemmas.Option.{slice_get-get_or}
use Rattle.std.specs.declared.hash.FoldHasher.{FoldHasher}
use Rattle.std.specs.declared.hash.BuildHasherDefault.{BuildHasherDefault}
use Rattle.indexmap.specs.IndexSet.{IndexSet}
use Rattle.scons_base.specs.declared.ids.NodeId.{NodeId}
use Rattle.deciders.specs.Digests.{digest_of, hash_of, is_same}
use Rattle.deciders.specs.Records.{is_by}
use Rattle.deciders.specs.Spelling.{work_byte}
use Rattle.deciders.specs.declared.content.Digest.{Digest}
use Rattle.deciders.specs.declared.recorded.Dep.{Dep}
use Rattle.deciders.specs.declared.recorded.Rec.{Rec}
use Rattle.rule_graph.specs.declared.rule.Rule as declared
use Rattle.rule_graph.specs.Graphs.{RuleGraph, path_of}
use Rattle.rule_graph.specs.Rules.{rule_of, is_target_of}
use Rattle.world_api.specs.Around.{Around, Tree, IsRunningTarget}
use Rattle.world_api.specs.Calls.{Asks}
use Rattle.world_api.specs.declared.hash.Hash.{Hash}
use Rattle.world_api.specs.declared.hash.Hash.TheVariants.{Md5, Sha1, Sha256}
use Rattle.world_api.specs.declared.decider.Decider.{Decider}
use Rattle.world_api.specs.declared.decider.Decider.TheVariants.{Content, Newer, Match, ContentMatch}
use Rattle.world_api.proofs.Looking.{asks_joined}
use Rattle.build_model.specs.Rules as model
use Rattle.build_model.specs.Rules.{Path, Stamps, Rule, Among, here, there}
use Rattle.build_model.specs.Graphs.{rule_at}
use Rattle.build_model.specs.Records.{stamp_kept}
use Rattle.build_model.specs.Steps.{IsMissing}
use Rattle.build_means.specs.Grown.{Begun, begun_graph, begun_setting, IsGrown, copy_in, or_copy_in, rule_numbered, IsLookedFor}
use Rattle.build_means.specs.Present.{IsSeenDep, AreSeenDeps, none_seen, seen_more, IsPresent, IsFirstAbsent}
use Rattle.build_means.specs.Records.{HasOwnDigests}
use Rattle.build_means.specs.Rules.{IsReading, rule_in, paths_of, decider_of}
use Rattle.build_means.proofs.Growing.{are_rules}
use Rattle.build_means.proofs.Lists.{none_some, true_false, first_place, at_place}
use Rattle.build_means.proofs.Presenting.{record_is}
use Rattle.build_files.specs.Kept.{past, stamp_past, IsStill, SameGone}
use Rattle.build_files.specs.Presence.{is_lacking}
use Rattle.build_files.specs.declared.inputs.Inputs.{Inputs}
use Rattle.build_files.proofs.RuleAt.{of_rule}
use Rattle.build_files.proofs.Truths.{past_same, stamp_same}

module _ (b : Begun) (g : RuleGraph) (read : IsReading b.graph) (now : IsReading g) (grown : IsGrown b g) (tree : Tree) where
  some_rule : (node number : ℕ) (path : Path) → slice_get g.nodes node ≡ Some path → rule_of g.rules node ≡ Some number
      → (r : Rule) × (rule_at (begun_graph b) b.tree path ≡ Some r)
  some_rule node number path at of =
      let place = first_place (λ x. is_target_of x.targets node) g.rules number of in
      let same = (are_rules b g read now grown).rules node number path at of in
      by place.0 place.1 same (slice_get b.graph.rules number) refl
    where
      by : (x : declared.Rule) → slice_get g.rules number ≡ Some x → rule_at (begun_graph b) b.tree path ≡ rule_numbered b g number
          → (o : Option declared.Rule) → slice_get b.graph.rules number ≡ o → (r : Rule) × (rule_at (begun_graph b) b.tree path ≡ Some r)
      by x stood same (Some y) front = (rule_in g y, same ∙ ap (λ o. or_copy_in g o (slice_get g.rules number)) front)
      by x stood same None front =
          (copy_in g x, same ∙ ap (λ o. or_copy_in g o (slice_get g.rules number)) front ∙ ap (option_map (copy_in g)) stood)

  -- what a rule of the graph makes isn't missing
  made_there : (node number : ℕ) (path : Path) → slice_get g.nodes node ≡ Some path → rule_of g.rules node ≡ Some number → IsMissing (begun_setting b) tree path → ⊥
  made_there node number path at of missing = let r = some_rule node number path at of in none_some (sym missing.no_rule ∙ r.1)

  file_there : (path : Path) (content : model.Content) → tree path ≡ content → is_some content ≡ true → IsMissing (begun_setting b) tree path → ⊥
  file_there path content is some missing = true_false (sym some ∙ ap is_some (sym is ∙ missing.no_file))

  content_some : (content : model.Content) → is_some (option_map (digest_of b.hash) content) ≡ is_some content
  content_some None = refl
  content_some (Some bytes) = refl

  -- a file that isn't lacking isn't missing
  pub not_missing : (node : ℕ) (path : Path) (digest : Option Digest) (lacks : Bool) → slice_get g.nodes node ≡ Some path → digest ≡ option_map (digest_of b.hash) (tree path)
      → lacks ≡ is_lacking g node digest → lacks ≡ false → IsMissing (begun_setting b) tree path → ⊥
  not_missing node path digest lacks at same is bare = by (is_some digest) refl (rule_of g.rules node) refl (sym (sym is ∙ bare))
    where
      by : (some : Bool) → is_some digest ≡ some → (rule : Option ℕ) → rule_of g.rules node ≡ rule → false ≡ (not some && not (is_some rule))
          → IsMissing (begun_setting b) tree path → ⊥
      by true e rule of f = file_there path (tree path) refl (sym (content_some (tree path)) ∙ sym (ap is_some same) ∙ e)
      by false e (Some number) of f = made_there node number path at of
      by false e None of f = true_false (sym f)

  -- and one that is, and whose copy rule was looked for, is missing
  pub is_missing : (node : NodeId) (digest : Option Digest) (lacks : Bool) → digest ≡ option_map (digest_of b.hash) (tree (path_of g.nodes node))
      → lacks ≡ is_lacking g node.0 digest → lacks ≡ true → IsLookedFor b g node → IsMissing (begun_setting b) tree (path_of g.nodes node)
  is_missing node digest lacks same is lacking looked = by (is_some digest) refl (rule_of g.rules node.0) refl (sym (sym is ∙ lacking))
    where
      none : (content : model.Content) → is_some content ≡ false → content ≡ None
      none None e = refl
      none (Some bytes) e = true_false e

      by : (some : Bool) → is_some digest ≡ some → (rule : Option ℕ) → rule_of g.rules node.0 ≡ rule → true ≡ (not some && not (is_some rule))
          → IsMissing (begun_setting b) tree (path_of g.nodes node)
      by true e rule of f = true_false f
      by false e (Some number) of f = true_false f
      by false e None of f = record {
        no_rule = looked of;
        no_file = none (tree (path_of g.nodes node)) (sym (content_some (tree (path_of g.nodes node))) ∙ sym (ap is_some same) ∙ e);
      }

push_seen : {b : Begun} {r : Rule} {tree : Tree} {stamps : Stamps} {paths : List Path} {deps : List Dep} {path : Path} {dep : Dep} → AreSeenDeps b r tree stamps paths deps
    → IsSeenDep b r tree stamps path dep → AreSeenDeps b r tree stamps (paths ++ path ∷ []) (deps ++ dep ∷ [])
push_seen none_seen this = seen_more this none_seen
push_seen (seen_more first rest) this = seen_more first (push_seen rest this)

among_end : {path other : Path} (paths : List Path) → Among other (paths ++ path ∷ []) → Among other paths ⊎ (other ≡ path)
among_end [] here = inr refl
among_end [] (there m) = elim m [ ]
among_end (p ∷ paths) here = inl here
among_end (p ∷ paths) (there m) = elim (among_end paths m) [ inl k ↦ inl (there k) | inr same ↦ inr same ]

-- these dependencies were looked at, and none of them is missing
pub record AreThere (b : Begun) (r : Rule) (tree : Tree) (stamps : Stamps) (paths : List Path) (deps : List Dep) : Type 0 where
  pub seen : AreSeenDeps b r tree stamps paths deps
  pub there : (path : Path) → Among path paths → IsMissing (begun_setting b) tree path → ⊥

pub none_there : (b : Begun) (r : Rule) (tree : Tree) (stamps : Stamps) → AreThere b r tree stamps [] []
none_there b r tree stamps = record { seen = none_seen; there = λ path among missing. elim among [ ] }

pub among_ids : (ids : List NodeId) (i : ℕ) (id : NodeId) → i < length ids → id ≡ get_or ids i id → Among id ids
among_ids ids i id within at = at_place ids i (slice_get-get_or ids i id within ∙ ap Some (sym at))

module _ (b : Begun) (r : Rule) (tree : Tree) (stamps : Stamps) (g : RuleGraph) (ids : List NodeId) (i : ℕ) (id : NodeId)
    (within : i < length ids) (at : id ≡ get_or ids i id) where
  paths_more : paths_of g (take (i + 1) ids) ≡ paths_of g (take i ids) ++ path_of g.nodes id ∷ []
  paths_more = map_more (path_of g.nodes) ids i id within ∙ ap (λ n. paths_of g (take i ids) ++ path_of g.nodes n ∷ []) (sym at)

  pub there_more : (deps : List Dep) (dep : Dep) → AreThere b r tree stamps (paths_of g (take i ids)) deps → IsSeenDep b r tree stamps (path_of g.nodes id) dep
      → (IsMissing (begun_setting b) tree (path_of g.nodes id) → ⊥) → AreThere b r tree stamps (paths_of g (take (i + 1) ids)) (deps ++ dep ∷ [])
  there_more deps dep are this is_there = subst (λ ps. AreThere b r tree stamps ps (deps ++ dep ∷ [])) (sym paths_more) (record {
    seen = push_seen are.seen this;
    there = λ path among missing. elim (among_end (paths_of g (take i ids)) among) [
      | inl m ↦ are.there path m missing
      | inr same ↦ is_there (subst (λ p. IsMissing (begun_setting b) tree p) same missing)
    ];
  })

  -- the first that is missing stands behind those that are there
  pub first_absent : (deps : List Dep) → AreThere b r tree stamps (paths_of g (take i ids)) deps → IsMissing (begun_setting b) tree (path_of g.nodes id)
      → IsFirstAbsent b (paths_of g ids) tree (path_of g.nodes id)
  first_absent deps are missing = record {
    front = paths_of g (take i ids);
    rest = paths_of g (drop (suc i) ids);
    parts = ap (paths_of g) (sym (take-append-drop i ids))
        ∙ map-append (path_of g.nodes) (take i ids) (drop i ids)
        ∙ ap (λ ns. paths_of g (take i ids) ++ paths_of g ns) (drop-cons ids i id within ∙ ap (λ n. n ∷ drop (suc i) ids) (sym at));
    is_missing = missing;
    front_there = are.there;
  }

-- the path of a node that has one
pub at_path : (g : RuleGraph) (node : NodeId) (path : Path) → slice_get g.nodes node.0 ≡ Some path → slice_get g.nodes node.0 ≡ Some (path_of g.nodes node)
at_path g node path at = at ∙ ap Some (sym (ap (λ o. unwrap_or o []) at))

ok_or : {A E : Type 0} → A → Result A E → A
ok_or x (Ok y) = y
ok_or x (Err e) = x

pub ok_same : {A E : Type 0} {x y : A} (r : Result A E) → r ≡ Ok x → r ≡ Ok y → x ≡ y
unfolding ok_or
ok_same {x = x} r e f = ap (ok_or x) (sym e ∙ f)

-- each decider but the content one keeps stamps
pub stamp_stays : (d : Decider) (stamp : Option ℕ) → d ≢ Content → stamp ≡ stamp_kept (decider_of d) stamp
stamp_stays Content stamp other = absurd (other refl)
stamp_stays Newer stamp other = refl
stamp_stays Match stamp other = refl
stamp_stays ContentMatch stamp other = refl

pub same_keys : (old new : Inputs) → SameGone old new → new.gone.keys ≡ old.gone.keys
same_keys old new same = ap (λ (gone : IndexSet (List ℕ) (BuildHasherDefault FoldHasher)). gone.keys) same

-- a file that no running job wrote is written by none after a look
pub still_on : (g : RuleGraph) (old new : Around) (node : ℕ) → Asks old new → IsStill g old node → IsStill g new node
still_on g old new node asks still = λ path at running. still path at (subst (λ r. IsRunningTarget r path) asks.running running)

-- what was looked at in two looks is as the file stood before
pub seen_dep : (b : Begun) (r : Rule) (gone : List Path) (old one two : Around) (path : Path) (dep : Dep) → (IsRunningTarget old.running path → ⊥) → Asks old one → Asks one two
    → dep.name ≡ path → dep.digest ≡ option_map (digest_of b.hash) (past gone one.tree path) → dep.stamp ≡ stamp_kept r.decider (stamp_past gone two path)
    → IsSeenDep b r (past gone old.tree) (stamp_past gone old) path dep
seen_dep b r gone old one two path dep free first second name digest stamp =
    let both = asks_joined old one two first second in
    record {
      name = name;
      digest = digest ∙ ap (option_map (digest_of b.hash)) (past_same gone old.tree one.tree path (first.files path free));
      stamp = stamp ∙ ap (stamp_kept r.decider) (stamp_same gone old two path (both.files path free) (both.stamps path free));
    }

-- and so is one that was looked at after other looks
pub seen_since : (b : Begun) (r : Rule) (first later : Inputs) (old new : Around) (path : Path) (dep : Dep) → (IsRunningTarget old.running path → ⊥) → Asks old new → SameGone first later
    → IsSeenDep b r (past later.gone.keys new.tree) (stamp_past later.gone.keys new) path dep → IsSeenDep b r (past first.gone.keys old.tree) (stamp_past first.gone.keys old) path dep
seen_since b r first later old new path dep free asks same found =
    let gone = first.gone.keys in
    let seen = subst (λ (keys : List Path). IsSeenDep b r (past keys new.tree) (stamp_past keys new) path dep) (same_keys first later same) found in
    record {
      name = seen.name;
      digest = seen.digest ∙ ap (option_map (digest_of b.hash)) (past_same gone old.tree new.tree path (asks.files path free));
      stamp = seen.stamp ∙ ap (stamp_kept r.decider) (stamp_same gone old new path (asks.files path free) (asks.stamps path free));
    }

same_hash : (hash : Hash) → is_same hash hash ≡ true
same_hash Md5 = refl
same_hash Sha1 = refl
same_hash Sha256 = refl

made_by_hash : (hash : Hash) (bytes : List ℕ) → hash_of (digest_of hash bytes) ≡ hash
made_by_hash Md5 bytes = refl
made_by_hash Sha1 bytes = refl
made_by_hash Sha256 bytes = refl

-- the digests of what was looked at were made by the build's function
own_deps : {b : Begun} {r : Rule} {tree : Tree} {stamps : Stamps} {paths : List Path} {deps : List Dep} → AreSeenDeps b r tree stamps paths deps → list_all (is_by b.hash) deps ≡ true
own_deps none_seen = refl
own_deps {b} {tree = tree} (seen_more {path} {paths} {dep} {deps} first rest) =
    ap (λ c. c && list_all (is_by b.hash) deps) (ap (λ digest. option_map_or (λ d. is_same (hash_of d) b.hash) digest true) first.digest ∙ own (tree path)) ∙ own_deps rest
  where
    own : (content : model.Content) → option_map_or (λ d. is_same (hash_of d) b.hash) (option_map (digest_of b.hash) content) true ≡ true
    own None = refl
    own (Some bytes) = ap (λ h. is_same h b.hash) (made_by_hash b.hash bytes) ∙ same_hash b.hash

-- a record over all of them is the one of the rule
pub is_present : (b : Begun) (g : RuleGraph) (number : ℕ) (x : declared.Rule) (r : Rule) (tree : Tree) (stamps : Stamps) (ids : List NodeId) (i : ℕ) (rec : Rec) → IsGrown b g
    → slice_get g.rules number ≡ Some x → rule_numbered b g number ≡ Some r → length ids ≤ i → AreThere b r tree stamps (paths_of g (take i ids)) rec.deps
    → rec.work ≡ x.work → rec.hash ≡ b.hash → rec.signed ≡ x.signed → rec.targets ≡ paths_of g x.targets
    → IsPresent b r (paths_of g ids) tree stamps rec × HasOwnDigests rec
is_present b g number x r tree stamps ids i rec grown at is le are work hash signed targets =
    let of = of_rule b g grown number x r at is in
    let all = subst (λ ns. AreThere b r tree stamps (paths_of g ns) rec.deps) (take_all i ids le) are in (
      record {
        is = record_is b r tree stamps rec all.seen (ap work_byte work ∙ sym of.work) hash (signed ∙ sym of.signed) (targets ∙ sym of.targets);
        there = all.there;
      },
      ap (λ h. list_all (is_by h) rec.deps) hash ∙ own_deps all.seen,
    )
