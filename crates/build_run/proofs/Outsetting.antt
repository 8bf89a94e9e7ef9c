-- A build that has begun to look has set out.
use Rattle.std.proofs.Common.{◌≡◌, ◌∙◌, ◌≤◌, ℕ, true, List, [], length, Option, Some, None, refl, sym, subst, ap}
use Rattle.std.specs.Global.{Vec}
use Rattle.indexmap.specs.IndexMap.{get}
use Rattle.scons_base.specs.declared.ids.NodeId.{NodeId}
use Rattle.scons_base.specs.declared.limits.TheConstants.{NODE_LIMIT}
use Rattle.world_api.specs.Around.{Around}
use Rattle.world_api.specs.Calls.{Asks}
use Rattle.world_api.specs.Looks.{Looks}
use Rattle.world_api.specs.Meaning.{Meaning}
use Rattle.world_api.specs.declared.hash.Hash.{Hash}
use Rattle.rule_graph.specs.Graphs.{RuleGraph}
use Rattle.rule_graph.specs.Rules.{are_below}
use Rattle.build_model.specs.Rules.{Among}
use Rattle.build_means.specs.Grown.{Begun}
use Rattle.build_means.specs.Rules.{IsReading}
use Rattle.build_files.specs.Beginnings.{Begins}
use Rattle.build_files.specs.Kept.{AreTrue, IsUnread, same_scan, SameGone, StaysTrue}
use Rattle.build_files.specs.Marked.{AreGoneOverWith}
use Rattle.build_files.specs.Reading.{IsUnreadIn, ReadsOnly}
use Rattle.build_files.specs.Searched.{GrowsTo}
use Rattle.build_files.specs.Seen.{seen_at}
use Rattle.build_files.specs.declared.includes.Scan.{Scan}
use Rattle.build_files.specs.declared.inputs.Inputs.{Inputs}
use Rattle.plan_means.specs.Beginning.{AreLookedFor, IsLoaded}
use Rattle.plan_means.specs.Planning.{IsGraphNow}
use Rattle.turn_means.specs.Standing.{Outset, begun_at}
use Rattle.turn_means.proofs.Looked.{sought_are_looked_for}
use Rattle.scons_report.proofs.Found.{below_grown}
use Rattle.build_run.specs.Outsets.{IsBegunBy, SetsOut, SetsOutOn}
use Rattle.build_run.specs.declared.site.Run.{Run}

none_among : (node : ℕ) (file : NodeId) → Among file [] → file.0 ≡ node → ⊥
none_among node file m e = elim m [ ]

unscanned_by : (inputs : Inputs) (scan : Scan) (o : Option (Vec NodeId)) → get same_scan inputs.found.files scan ≡ o →
    IsUnreadIn inputs scan.file.0 → o ≡ None
unscanned_by inputs scan None e unread = refl
unscanned_by inputs scan (Some nodes) e unread = absurd (unread.scans scan nodes e refl)

-- What of the files was made, and behind the look for copy rules, where nothing was read.
pub record BeginsWith {W : Type 0} (m : Meaning W) (g : RuleGraph) (requested : List NodeId) (hash : Hash) (world : W) (first : Inputs)
    (h : RuleGraph) (run : Run) (new : W) : Type 0 where
  pub read : IsReading g
  pub reading : IsReading h
  pub room : length h.nodes ≤ NODE_LIMIT
  pub grows : GrowsTo g h
  pub looks : Looks m world new
  pub begins : (b : Begun) (around : Around) → Begins b g hash [] around → AreTrue b g first around
  pub stays : StaysTrue m g first world h run.inputs new
  pub none_gone : first.gone.keys ≡ []
  pub gone : SameGone first run.inputs
  pub unread : (node : ℕ) → IsUnread (seen_at first.files.seen.items node)
  pub unscanned : (scan : Scan) → get same_scan first.found.files scan ≡ None
  pub only : ReadsOnly [] first run.inputs
  pub over : AreGoneOverWith h run.inputs requested
  pub loaded : IsLoaded h requested run.plan

module _ {W : Type 0} (m : Meaning W) (g : RuleGraph) (requested : List NodeId) (hash : Hash) (world : W) (first : Inputs) (h : RuleGraph)
    (run : Run) (new : W) (is : BeginsWith m g requested hash world first h run new) where
  unread_still : (node : ℕ) → IsUnreadIn run.inputs node
  unread_still node = is.only node (none_among node) (record {
    seen = is.unread node;
    scans = λ scan nodes e. cc (sym (is.unscanned scan) ∙ e);
  })

  module _ (tells : m.tells new) (rest : (m.around world).running ≡ []) (o : Outset) (by : IsBegunBy g requested hash (m.around world) o)
      (below : are_below (length g.nodes) requested ≡ true) where
    below_now : are_below (length h.nodes) requested ≡ true
    below_now = below_grown g h requested is.grows below

    begins_so : Begins (begun_at o) g hash [] (m.around world)
    begins_so = record {
      graph = by.graph;
      reading = is.read;
      digests = by.hash;
      tree = λ path. ap (λ (a : Around). a.tree path) by.before;
      copied = λ path e. absurd (cc e);
      idle = rest;
    }

    true_now : AreTrue (begun_at o) h run.inputs (m.around new)
    true_now = is.stays tells (begun_at o) (is.begins (begun_at o) (m.around world) begins_so)

    graph_now : IsGraphNow (begun_at o) h
    graph_now = record {
      read = subst IsReading (sym by.graph) is.read;
      reading = is.reading;
      grown = true_now.grown;
      room = is.room;
    }

    looked_for : AreLookedFor (begun_at o) h requested
    looked_for =
        sought_are_looked_for (begun_at o) h run.inputs (m.around new) requested graph_now below_now true_now is.over.over is.over.these

    pub has_set_out : SetsOutOn o h run (m.around new)
    has_set_out = record {
      set = record {
        none_runs = ap (λ (a : Around). a.running) by.before ∙ rest;
        around = subst (λ (a : Around). Asks a (m.around new)) (sym by.before) (is.looks.around tells);
        now = graph_now;
        truth = true_now;
        none_gone = ap (λ i. i.keys) is.gone ∙ is.none_gone;
        unread = λ node. (unread_still node).seen;
        unscanned = λ scan. unscanned_by run.inputs scan (get same_scan run.inputs.found.files scan) refl (unread_still scan.file.0);
        below = subst (λ (nodes : List NodeId). are_below (length h.nodes) nodes ≡ true) (sym by.requested)
            below_now;
        looked = subst (λ (nodes : List NodeId). AreLookedFor (begun_at o) h nodes) (sym by.requested) looked_for;
        loaded = subst (λ (nodes : List NodeId). IsLoaded h nodes run.plan) (sym by.requested) is.loaded;
        records = λ path. refl;
        goes_on = refl;
      };
      looked = is.over.over;
    }

pub sets_out : {W : Type 0} (m : Meaning W) (g : RuleGraph) (requested : List NodeId) (hash : Hash) (world : W) (first : Inputs)
    (h : RuleGraph) (run : Run) (new : W) → BeginsWith m g requested hash world first h run new → SetsOut m g requested hash world h run new
sets_out m g requested hash world first h run new is = λ tells rest below o by.
    has_set_out m g requested hash world first h run new is tells rest o by below
