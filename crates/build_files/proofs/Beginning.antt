-- What is kept of files is true as a build begins: nothing is kept.
use Rattle.std.proofs.Common.{◌≡◌, inr, ◌∙◌, ap, sym, subst, refl, ℕ, true, false, List, [], length, arith}
use Rattle.std.specs.List.{list_any}
use Rattle.std.specs.Str.{bytes_eq}
use Rattle.std.proofs.lemmas.List.{append-nil}
use Rattle.rule_graph.specs.Graphs.{RuleGraph}
use Rattle.world_api.specs.Around.{Around, Running, IsRunningTarget}
use Rattle.build_model.specs.Rules.{Path}
use Rattle.build_means.specs.Grown.{Begun, IsGrown}
use Rattle.build_means.specs.Copies.{is_copied}
use Rattle.build_means.specs.Rules.{IsReading}
use Rattle.build_means.proofs.Lists.{none_some, true_false}
use Rattle.build_files.proofs.Truths.{unread_is}
use Rattle.build_files.specs.Beginnings.{Begins, BeginsBehind}
use Rattle.build_files.specs.Leftovers.{is_made}
use Rattle.build_files.specs.Kept.{past, stamp_past, AreFound, AreTrue, IsTrueOf}
use Rattle.build_files.specs.Seen.{seen_at, unseen}
use Rattle.build_files.specs.declared.inputs.Inputs.{Inputs}
use Rattle.build_files.specs.declared.seen.Seen.{Seen}

module _ (b : Begun) (g : RuleGraph) (inputs : Inputs) (gone : List Path) (around : Around) (files : inputs.files.seen.items ≡ [])
    (rest : around.running ≡ []) where
  nothing : (node : ℕ) → seen_at inputs.files.seen.items node ≡ unseen
  nothing node = ap (λ (items : List Seen). seen_at items node) files

  unread : (path : Path) → IsTrueOf b inputs.gone.keys around path unseen
  unread path = record {
    now = unread_is b.hash (past inputs.gone.keys around.tree path) (stamp_past inputs.gone.keys around path) unseen (record { digest = refl; includes = refl; stamp = refl });
    still = inr (record { digest = refl; includes = refl; stamp = refl });
    is_file = λ stood e. none_some e;
  }

  idle : (path : Path) → IsRunningTarget around.running path → ⊥
  idle path running =
      let none = subst (λ (r : List Running). IsRunningTarget r path) rest running in
      absurd (omega (arith, none.1.1))

  -- so it is where what no rule makes is as it was, and what is looked past is copied
  kept_none : IsReading b.graph → IsGrown b g → inputs.hash ≡ b.hash → inputs.declared ≡ length b.graph.rules →
      ((path : Path) → is_made g path ≡ false → past inputs.gone.keys around.tree path ≡ b.tree path) → inputs.unknown.keys ≡ [] →
      ((path : Path) → list_any (bytes_eq path) inputs.gone.keys ≡ true → is_copied b.graph path ≡ true) →
      AreFound b g inputs.gone.keys around inputs.found → AreTrue b g inputs around
  kept_none reading grown hash declared files_rest unknown copied found = record {
    reading = reading;
    grown = grown;
    hash = hash;
    declared = declared;
    rest = files_rest;
    idle = λ path unmade. idle path;
    seen = λ node path at. subst (λ s. IsTrueOf b inputs.gone.keys around path s) (sym (nothing node)) (unread path);
    settled = λ node path at settled none. true_false (sym settled ∙ ap (λ (s : Seen). s.is_settled) (nothing node));
    behind = λ node le. nothing node;
    unknown = λ path among. true_false (sym among ∙ ap (list_any (bytes_eq path)) unknown);
    gone = copied;
    found = found;
  }

  pub begun_true : inputs.gone.keys ≡ gone → Begins b g inputs.hash gone around → inputs.unknown.keys ≡ [] → inputs.declared ≡ length g.rules →
      AreFound b g inputs.gone.keys around inputs.found → AreTrue b g inputs around
  begun_true keys is unknown declared found =
      kept_none (subst IsReading (sym is.graph) is.reading)
      (record {
        top = ap (λ (x : RuleGraph). x.top) (sym is.graph);
        variants = ap (λ (x : RuleGraph). x.variants) (sym is.graph);
        more = [];
        nodes = ap (λ (x : RuleGraph). x.nodes) (sym is.graph) ∙ sym (append-nil b.graph.nodes);
        copies = [];
        rules = ap (λ (x : RuleGraph). x.rules) (sym is.graph) ∙ sym (append-nil b.graph.rules);
        each_copy = λ r among. elim among [ ];
      })
      (sym is.digests) (declared ∙ ap (λ (x : RuleGraph). length x.rules) (sym is.graph))
      (λ path unmade. ap (λ (k : List Path). past k around.tree path) keys ∙ sym (is.tree path)) unknown
      (λ path looked. ap (λ (x : RuleGraph). is_copied x path) is.graph ∙ is.copied path (ap (list_any (bytes_eq path)) (sym keys) ∙ looked)) found

  pub behind_true : inputs.gone.keys ≡ [] → BeginsBehind b g inputs.declared inputs.hash around → inputs.unknown.keys ≡ [] →
      AreFound b g inputs.gone.keys around inputs.found → AreTrue b g inputs around
  behind_true keys is unknown found =
      kept_none is.reading is.grown (sym is.digests) is.count
      (λ path unmade. ap (λ (k : List Path). past k around.tree path) keys ∙ is.rest path unmade) unknown
      (λ path looked. true_false (sym looked ∙ ap (list_any (bytes_eq path)) keys)) found
