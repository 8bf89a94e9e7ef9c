-- What is kept of files stays true where only targets of running jobs change, and files of which nothing was read.
use Rattle.std.proofs.Common.{◌≡◌, ◌⊎◌, inl, inr, ℕ, true, false, Bool, List, Contains, Some, refl, sym, subst, ap, ◌∙◌, option_map}
use Rattle.std.specs.Prelude.{slice_get}
use Rattle.std.specs.Global.{Vec}
use Rattle.indexmap.specs.IndexMap.{get}
use Rattle.scons_base.specs.declared.ids.NodeId.{NodeId}
use Rattle.deciders.specs.Digests.{digest_of}
use Rattle.rule_graph.specs.Graphs.{RuleGraph}
use Rattle.world_api.specs.Around.{Around, IsRunningTarget}
use Rattle.build_model.specs.Rules.{Path}
use Rattle.build_model.specs.Reach.{has}
use Rattle.build_model.proofs.Lists.{true_false, has_among, not_has}
use Rattle.build_means.specs.Grown.{Begun}
use Rattle.build_files.specs.Kept.{past, stamp_past, includes_in, same_scan, IsFoundAs, IsUnread, IsTrueOf, AreTrue}
use Rattle.build_files.specs.Leftovers.{is_made}
use Rattle.build_files.specs.Searched.{meant, AreNodesOf}
use Rattle.build_files.specs.Seen.{seen_at}
use Rattle.build_files.specs.declared.includes.Scan.{Scan}
use Rattle.build_files.specs.declared.inputs.Inputs.{Inputs}
use Rattle.build_files.specs.declared.seen.Seen.{Seen}
use Rattle.build_files.proofs.Truths.{past_same, stamp_same, unread_is}
use Rattle.run_means.proofs.Lists.{contains_among, among_contains}
use Rattle.turn_means.specs.Writing.{Writes}

-- a path is among others, or isn't
pub contained : (paths : List Path) (path : Path) → Contains paths path ⊎ (Contains paths path → ⊥)
contained paths path = by (has path paths) refl
  where
    by : (b : Bool) → has path paths ≡ b → Contains paths path ⊎ (Contains paths path → ⊥)
    by true e = inl (among_contains (has_among path paths e))
    by false e = inr (λ m. not_has e (contains_among paths m))

module _ (b : Begun) (g : RuleGraph) (inputs : Inputs) (old new : Around) (paths : List Path) (writes : Writes paths old new)
    (made : (path : Path) → Contains paths path → is_made g path ≡ true)
    (unread : (node : ℕ) (path : Path) → slice_get g.nodes node ≡ Some path → Contains paths path →
    IsUnread (seen_at inputs.files.seen.items node))
    (unscanned : (scan : Scan) (nodes : Vec NodeId) → get same_scan inputs.found.files scan ≡ Some nodes → (path : Path) →
    slice_get g.nodes scan.file.0 ≡ Some path → Contains paths path → ⊥) where
  not_among : (path : Path) → is_made g path ≡ false → Contains paths path → ⊥
  not_among path e m = true_false (sym (made path m) ∙ e)

  unread_true : (gone : List Path) (path : Path) (seen : Seen) → IsUnread seen → IsTrueOf b gone old path seen →
      IsTrueOf b gone new path seen
  unread_true gone path seen none was = record {
    now = unread_is b.hash (past gone new.tree path) (stamp_past gone new path) seen none;
    still = inr none;
    is_file = was.is_file;
  }

  same_true : (gone : List Path) (path : Path) (seen : Seen) → (IsRunningTarget old.running path → ⊥) → (Contains paths path → ⊥) →
      IsTrueOf b gone old path seen → IsTrueOf b gone new path seen
  same_true gone path seen free out was =
      let file = writes.files path free out in
      let same = past_same gone old.tree new.tree path file in
      record {
        now = record {
          digest = λ digest e. was.now.digest digest e ∙ ap (option_map (digest_of b.hash)) (sym same);
          includes = λ includes e. was.now.includes includes e ∙ ap includes_in (sym same);
          stamp = λ time e. was.now.stamp time e ∙ sym (stamp_same gone old new path file (writes.stamps path free out));
        };
        still = inl (λ target. elim (writes.running path target) [ inl h ↦ free h | inr m ↦ out m ]);
        is_file = was.is_file;
      }

  free_true : (gone : List Path) (path : Path) (seen : Seen) → (Contains paths path → IsUnread seen) →
      (IsRunningTarget old.running path → ⊥) → Contains paths path ⊎ (Contains paths path → ⊥) →
      IsTrueOf b gone old path seen → IsTrueOf b gone new path seen
  free_true gone path seen none free (inl m) was = unread_true gone path seen (none m) was
  free_true gone path seen none free (inr out) was = same_true gone path seen free out was

  seen_true : (gone : List Path) (path : Path) (seen : Seen) → (Contains paths path → IsUnread seen) →
      IsTrueOf b gone old path seen → IsTrueOf b gone new path seen
  seen_true gone path seen none was = elim was.still [
    | inl free ↦ free_true gone path seen none free (contained paths path) was
    | inr nothing ↦ unread_true gone path seen nothing was
  ]

  scan_true : (gone : List Path) (scan : Scan) (nodes : Vec NodeId) → get same_scan inputs.found.files scan ≡ Some nodes →
      IsFoundAs b g gone old inputs.found scan nodes.items → IsFoundAs b g gone new inputs.found scan nodes.items
  scan_true gone scan nodes kept was =
      let out = unscanned scan nodes kept was.path was.file in
      record {
        paths = was.paths;
        path = was.path;
        dirs = was.dirs;
        file = was.file;
        still = λ target. elim (writes.running was.path target) [ inl h ↦ was.still h | inr m ↦ out m ];
        meaning = subst (λ c. AreNodesOf g (meant b was.paths was.path (includes_in c)) nodes.items)
            (sym (past_same gone old.tree new.tree was.path (writes.files was.path was.still out))) was.meaning;
      }

  pub true_still : AreTrue b g inputs old → AreTrue b g inputs new
  true_still was = record {
    reading = was.reading;
    grown = was.grown;
    hash = was.hash;
    declared = was.declared;
    rest = λ path e. past_same inputs.gone.keys old.tree new.tree path (writes.files path (was.idle path e) (not_among path e))
        ∙ was.rest path e;
    idle = λ path e target. elim (writes.running path target) [ inl h ↦ was.idle path e h | inr m ↦ not_among path e m ];
    seen = λ node path at.
        seen_true inputs.gone.keys path (seen_at inputs.files.seen.items node) (unread node path at) (was.seen node path at);
    settled = was.settled;
    behind = was.behind;
    unknown = was.unknown;
    gone = was.gone;
    found = record {
      each = λ scan nodes kept. scan_true inputs.gone.keys scan nodes kept (was.found.each scan nodes kept);
      last = was.found.last;
    };
  }
