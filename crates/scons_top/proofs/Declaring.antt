-- What the scripts come to as a run reads them; and that a graph is the same by its paths as further paths get numbers.
use Rattle.std.proofs.Common.{◌≡◌, ◌∙◌, ap, sym, subst, refl, ℕ, zero, suc, Bool, true, false, List, [], ◌∷◌, ◌++◌, ◌&&◌, append_assoc, length, map, Some}
use Rattle.std.specs.Prelude.{nat_lt, slice_get, get_or, unwrap_or, Result, Ok, Err, IsErrAnd}
use Rattle.std.specs.List.{list_all}
use Rattle.std.proofs.lemmas.Bool.{ltb-true}
use Rattle.std.proofs.lemmas.List.{append_cancel_left}
use Rattle.std.proofs.lemmas.Option.{slice_get-get_or}
use Rattle.scons_base.specs.declared.ids.NodeId.{NodeId}
use Rattle.world_api.specs.Around.{Around}
use Rattle.world_api.specs.Looks.{Looks}
use Rattle.world_api.specs.Meaning.{Meaning}
use Rattle.world_api.specs.Printed.{SinkMeaning}
use Rattle.rule_graph.specs.declared.build_fault.BuildFault.{BuildFault}
use Rattle.rule_graph.specs.declared.build_fault.BuildFault.TheVariants as fault
use Rattle.rule_graph.specs.declared.rule.Rule.{Rule}
use Rattle.rule_graph.specs.Aliases.{Alias}
use Rattle.rule_graph.specs.Graphs.{RuleGraph, path_of}
use Rattle.rule_graph.specs.Rules.{are_below, IsRule}
use Rattle.build_means.specs.Rules.{IsReading}
use Rattle.build_means.proofs.Growing.{get_front}
use Rattle.report_texts.specs.Texts.{read_text, reading_text}
use Rattle.scons_words.specs.declared.words.Words.{Words}
use Rattle.scons_rules.specs.PathRules.{PathRule, by_paths}
use Rattle.scons_rules.specs.PathGraphs.{PathGraph, alias_by, graph_by}
use Rattle.scons_host.specs.declared.end.HostEnd.{HostEnd}
use Rattle.scons_host.specs.declared.end.HostEnd.TheVariants as end
use Rattle.scons_host.specs.Files.{Files, Shows}
use Rattle.scons_host.specs.Prints.{Prints as HostPrints}
use Rattle.scons_reading.specs.Coming.{HasOutcome, Over}
use Rattle.scons_reading.specs.Ends.{IsToldEnd}
use Rattle.scons_reading.specs.Reads.{Reads}
use Rattle.scons_top.specs.Scripted.{GrowsByPaths, IsRead, ReadsScripts, StopSo, StopTells}
use Rattle.scons_top.specs.Naming.{HasGrown}
use Rattle.scons_top.specs.RunLines.{opening_text, progress}
use Rattle.scons_top.specs.Sinks.{IsCutBy, Printed}
use Rattle.scons_top.specs.Steps.{StopsAt}
use Rattle.scons_top.specs.Stops.{stop_of_host}
use Rattle.scons_top.specs.declared.step.Step.TheVariants as step
use Rattle.scons_top.specs.declared.stop.OwnFault.TheVariants as own
use Rattle.scons_top.specs.declared.stop.Stop.{Stop}
use Rattle.scons_top.specs.declared.stop.Stop.TheVariants as stop
use Rattle.scons_top.proofs.Building.{around_asked}
use Rattle.scons_top.proofs.Grown.{grown_here}

-- ---- graphs that grow

both_first : (a b : Bool) → (a && b) ≡ true → a ≡ true
both_first true b e = refl
both_first false b e = absurd (cc)

both_second : (a b : Bool) → (a && b) ≡ true → b ≡ true
both_second true b e = e
both_second false b e = absurd (cc)

map_at : {X Y : Type 0} → (f g : X → Y) (xs : List X) → ((i : ℕ) (x : X) → slice_get xs i ≡ Some x → f x ≡ g x) → map f xs ≡ map g xs
map_at f g [] same = refl
map_at f g (x ∷ xs) same =
    let first : f x ≡ g x = same zero x refl in
    let rest : map f xs ≡ map g xs = map_at f g xs (λ i y e. same (suc i) y e) in
    rw (first, rest) refl

module _ (old more : List (List ℕ)) where
  path_stays : (n : NodeId) → nat_lt n.0 (length old) ≡ true → path_of (old ++ more) n ≡ path_of old n
  path_stays n low =
      let got : slice_get old n.0 ≡ Some (get_or old n.0 []) = slice_get-get_or old n.0 [] (ltb-true n.0 (length old) low) in
      ap (λ o. unwrap_or o []) (get_front old more n.0 (get_or old n.0 []) got ∙ sym got)

  paths_stay : (ns : List NodeId) → are_below (length old) ns ≡ true → map (path_of (old ++ more)) ns ≡ map (path_of old) ns
  paths_stay [] low = refl
  paths_stay (n ∷ ns) low =
      let first = path_stays n (both_first (nat_lt n.0 (length old)) (are_below (length old) ns) low) in
      let rest = paths_stay ns (both_second (nat_lt n.0 (length old)) (are_below (length old) ns) low) in
      rw (first, rest) refl

  rule_stays : (r : Rule) → IsRule (length old) r → by_paths (old ++ more) r ≡ by_paths old r
  rule_stays r valid =
      rw (
        paths_stay r.targets valid.targets,
        paths_stay r.sources valid.sources,
        paths_stay r.libs valid.libs,
        paths_stay r.depends valid.depends,
        paths_stay r.required valid.required,
        paths_stay r.ignored valid.ignored,
      ) refl

  rules_stay : (rules : List Rule) → ((i : ℕ) (r : Rule) → slice_get rules i ≡ Some r → IsRule (length old) r) → map (by_paths (old ++ more)) rules ≡ map (by_paths old) rules
  rules_stay rules each = map_at (by_paths (old ++ more)) (by_paths old) rules (λ i r e. rule_stays r (each i r e))

  aliases_stay : (aliases : List Alias) → list_all (λ a. are_below (length old) a.1) aliases ≡ true → map (alias_by (old ++ more)) aliases ≡ map (alias_by old) aliases
  aliases_stay [] low = refl
  aliases_stay (a ∷ aliases) low =
      let first = paths_stay a.1 (both_first (are_below (length old) a.1) (list_all (λ b. are_below (length old) b.1) aliases) low) in
      let rest = aliases_stay aliases (both_second (are_below (length old) a.1) (list_all (λ b. are_below (length old) b.1) aliases) low) in
      rw (first, rest) refl

same_by_paths : (g : RuleGraph) (nodes : List (List ℕ)) → map (by_paths nodes) g.rules ≡ map (by_paths g.nodes) g.rules → map (alias_by nodes) g.aliases ≡ map (alias_by g.nodes) g.aliases
    → graph_by (record g { nodes = nodes }) ≡ record (graph_by g) { nodes = nodes }
same_by_paths g nodes rules aliases = λ i. record {
  top = g.top;
  nodes = nodes;
  rules = rules i;
  aliases = aliases i;
  defaults = g.defaults;
  helps = g.helps;
  variants = g.variants;
}

pub grows_by_paths : (g h : RuleGraph) → HasGrown g h → IsReading g → GrowsByPaths g h
grows_by_paths g h grown reading = record {
  grown = grown;
  by_paths =
      ap graph_by grown.same
      ∙ same_by_paths g h.nodes
      (subst (λ (nodes : List (List ℕ)). map (by_paths nodes) g.rules ≡ map (by_paths g.nodes) g.rules) (sym grown.nodes) (rules_stay g.nodes grown.more g.rules reading.named.each_rule))
      (subst (λ (nodes : List (List ℕ)). map (alias_by nodes) g.aliases ≡ map (alias_by g.nodes) g.aliases) (sym grown.nodes) (aliases_stay g.nodes grown.more g.aliases reading.named.each_alias));
}

pub grows_here : (g : RuleGraph) → GrowsByPaths g g
grows_here g = record { grown = grown_here g; by_paths = refl }

-- ---- stops that tell no fault of the scripts

module _ (Is : HostEnd → Type 0) where
  top_build : (f : BuildFault) → StopsAt step.Top (stop.Build f) → StopTells Is (stop.Build f)
  top_build (fault.Missing node target) h = tt
  top_build (fault.Cycle paths) h = tt
  top_build (fault.ActionFailed target code) h = tt
  top_build (fault.TreeFault path) h = tt
  top_build (fault.StartFault target) h = tt
  top_build fault.StoreFault h = tt
  top_build fault.OutFault h = tt
  top_build (fault.TooLarge path size) h = absurd h
  top_build (fault.TooMany what count) h = absurd h

  -- as the top directory is named
  pub top_tells : (s : Stop) → StopsAt step.Top s → StopTells Is s
  top_tells (stop.Fault (own.Usage place kind)) h = tt
  top_tells (stop.Fault (own.Reading file line kind)) h = absurd h
  top_tells (stop.Fault (own.UnknownTarget word)) h = tt
  top_tells (stop.Fault (own.StoreForeign bank)) h = tt
  top_tells (stop.Build f) h = top_build f h
  top_tells stop.Memory h = tt

  cut_build : (f : BuildFault) → IsCutBy (stop.Build f) → StopTells Is (stop.Build f)
  cut_build (fault.Missing node target) h = tt
  cut_build (fault.Cycle paths) h = tt
  cut_build (fault.ActionFailed target code) h = tt
  cut_build (fault.TreeFault path) h = tt
  cut_build (fault.StartFault target) h = tt
  cut_build fault.StoreFault h = tt
  cut_build fault.OutFault h = tt
  cut_build (fault.TooLarge path size) h = absurd h
  cut_build (fault.TooMany what count) h = absurd h

  -- where standard output refused
  pub cut_tells : (s : Stop) → IsCutBy s → StopTells Is s
  cut_tells (stop.Fault f) h = absurd h
  cut_tells (stop.Build f) h = cut_build f h
  cut_tells stop.Memory h = tt

  -- the end of a reading
  end_tells : (e : HostEnd) → (IsToldEnd e → Is e) → StopTells Is (stop_of_host e)
  end_tells (end.Reading file line kind) h = h tt
  end_tells (end.Tree path) h = tt
  end_tells end.Out h = tt
  end_tells (end.TooLarge path size) h = h tt
  end_tells (end.TooMany what count) h = h tt
  end_tells end.Memory h = tt

-- ---- a reading

opening_is : (before first printed last one two now : List ℕ) → one ≡ before ++ first → two ≡ one ++ printed → now ≡ two ++ last → now ≡ before ++ ((first ++ printed) ++ last)
opening_is before first printed last one two now at then behind =
    behind ∙ ap (λ x. x ++ last) (then ∙ ap (λ x. x ++ printed) at ∙ append_assoc before first printed) ∙ append_assoc before (first ++ printed) last

module _ {W O : Type 0} (m : Meaning W) (p : SinkMeaning O) (said : Words) where
  -- where a `?` ends it, for a stop that tells no fault of the scripts
  pub read_silent : (a b : W) (x y : O) (r : Result RuleGraph Stop) (s : Stop) → IsErrAnd r (λ other. other ≡ s) → ((Is : HostEnd → Type 0) → StopTells Is s) → ReadsScripts m p said a x b y r
  read_silent a b x y (Ok g) s is tells = absurd is
  read_silent a b x y (Err other) s is tells = λ told here idle.
      let Is = StopSo said (m.around a) (p.text x) (p.text y) in
      subst (λ (z : Stop). StopTells Is z) (sym is) (tells Is)

  -- over a world that had been looked at, with what is printed
  came : (a b c : W) (x y : O) (r : Result RuleGraph HostEnd) → Looks m a b → Looks m b c → Over m p b x c y (λ f text. HasOutcome (Reads f said) text r)
      → p.tells y → m.tells c → (m.around a).running ≡ [] → (text : List ℕ) → p.text y ≡ p.text x ++ text → (f : Files) → Shows (m.around a) f → HasOutcome (Reads f said) text r
  came a b c x y r before looks over told tells idle text printed f shows =
      let here = looks.told.told tells in
      let same = around_asked (m.around a) (m.around b) idle (before.around here) in
      let was = over told f (record { tells = tells; quiet = (before.around here).running ∙ idle; shows = subst (λ (z : Around). Shows z f) (sym same) shows }) in
      subst (λ (t : List ℕ). HasOutcome (Reads f said) t r) (append_cancel_left (p.text x) was.0 text (sym was.1 ∙ printed)) was.2

  module _ (a b c : W) (start x y : O) (before : Looks m a b) (looks : Looks m b c) (first : Printed p start x (progress said reading_text)) (host : HostPrints p x y) where
    -- scripts that stop
    pub read_stopped : (e : HostEnd) (r : Result RuleGraph Stop) → IsErrAnd r (λ other. other ≡ stop_of_host e) → Over m p b x c y (λ f text. HasOutcome (Reads f said) text (Err e)) → ReadsScripts m p said a start c y r
    read_stopped e (Ok g) is over = absurd is
    read_stopped e (Err other) is over = λ told tells idle.
        let Is = StopSo said (m.around a) (p.text start) (p.text y) in
        let more = host.text told in
        subst (λ (z : Stop). StopTells Is z) (sym is) (end_tells Is e (λ is_told. record {
          printed = more.0;
          stands = more.1 ∙ ap (λ t. t ++ more.0) (first.whole (host.told told)) ∙ append_assoc (p.text start) (progress said reading_text) more.0;
          comes = λ f shows. came a b c x y (Err e) before looks over told tells idle more.0 more.1 f shows is_told;
        }))

    -- a graph
    pub read_declared : (last : O) (g : RuleGraph) → Printed p y last (progress said read_text) → Over m p b x c y (λ f text. HasOutcome (Reads f said) text (Ok g)) → ReadsScripts m p said a start c last (Ok g)
    read_declared last g ends over = λ told tells idle.
        let here = ends.told told in
        let more = host.text here in (
          more.0,
          λ f shows. came a b c x y (Ok g) before looks over here tells idle more.0 more.1 f shows,
          opening_is (p.text start) (progress said reading_text) more.0 (progress said read_text) (p.text x) (p.text y) (p.text last) (first.whole (host.told here)) more.1 (ends.whole told),
        )
