-- That a run goes by the graph that its scripts declare.
use Rattle.std.proofs.Common.{◌≡◌, ◌≢◌, ◌∙◌, ◌⊎◌, inl, inr, ap, sym, subst, refl, ℕ, List, [], ◌++◌, Contains}
use Rattle.std.specs.Prelude.{All, Result, Ok, Err, IsErrAnd}
use Rattle.std.proofs.lemmas.List.Elements.{All-weaker}
use Rattle.scons_base.specs.declared.ids.NodeId.{NodeId}
use Rattle.world_api.specs.Around.{Around}
use Rattle.world_api.specs.Laws.{HasOnlyNow}
use Rattle.world_api.specs.Looks.{Looks}
use Rattle.world_api.specs.Meaning.{Meaning, Told}
use Rattle.world_api.specs.Printed.{SinkMeaning}
use Rattle.rule_graph.specs.Graphs.{RuleGraph}
use Rattle.sign_store.specs.Ends.{image_in}
use Rattle.sign_store.specs.Tables.{Map}
use Rattle.build_files.specs.Leftovers.{AtRest}
use Rattle.report_texts.specs.Texts.{help_text}
use Rattle.scons_words.specs.declared.words.Words.{Words}
use Rattle.scons_host.specs.declared.end.HostEnd.{HostEnd}
use Rattle.scons_top.specs.Asked.{asked_by, words_asked}
use Rattle.scons_top.specs.Builds.{EndsBefore, RunBuilds}
use Rattle.scons_top.specs.Cleaned.{CleansAsked, CleansNodes}
use Rattle.scons_top.specs.Scripted.{BuildsNodes, BuildsOf, CleansOf, Declare, DoesAt, FollowsAt, GrowsByPaths, HasRead, IsBehind, ReadsScripts, RunBuildsOf, RunFollows, Serves, StopSo, StopTells, TellsEnd, TellsFirst, TellsWord}
use Rattle.scons_top.specs.Faults.{top_of_own}
use Rattle.scons_top.specs.Finding.{AskedOf, FindsWords}
use Rattle.scons_top.specs.Naming.{IsFirstUnknown, NamesSome}
use Rattle.scons_top.specs.Printed.{IsCleaningText, IsServedText, ServePrints, Surely}
use Rattle.scons_top.specs.Requested.{AskForNodes, nodes_asked}
use Rattle.scons_top.specs.RunLines.{opening_text}
use Rattle.scons_top.specs.Sinks.{IsCut, IsCutBy, IsCutShort, IsPrintedOf, PrintsUpTo}
use Rattle.scons_top.specs.Steps.{IsBuildingStep, IsFaultOr, IsListingStep, IsReadingStep, IsStopOr, ServesAt}
use Rattle.scons_top.specs.Stopping.{RunsSafely}
use Rattle.scons_top.specs.Stops.{top_of}
use Rattle.scons_top.specs.Watching.{Watches}
use Rattle.scons_top.specs.declared.report.Report.{Report}
use Rattle.scons_top.specs.declared.report.Top.{Top}
use Rattle.scons_top.specs.declared.report.Top.TheVariants as top
use Rattle.scons_top.specs.declared.requests.Request.{Request}
use Rattle.scons_top.specs.declared.step.Step.{Step}
use Rattle.scons_top.specs.declared.step.Step.TheVariants as step
use Rattle.scons_top.specs.declared.stop.OwnFault.TheVariants as own
use Rattle.scons_top.specs.declared.stop.Stop.{Stop}
use Rattle.scons_top.specs.declared.stop.Stop.TheVariants as stop
use Rattle.scons_top.proofs.Asking.{told_alone}
use Rattle.scons_top.proofs.Built.{of_looked}
use Rattle.scons_top.proofs.Clearing.{of_after}
use Rattle.scons_top.proofs.Finding.{around_stays, records_stay}
use Rattle.scons_top.proofs.Printing.{of_joined, of_weaker, up_to_told}
use Rattle.scons_top.proofs.Serving.{building_looked, listing_looked, stopped_ended}

-- ---- what was requested of a graph

module _ {W : Type 0} (m : Meaning W) (said : Words) (g : RuleGraph) (nodes : List NodeId) (old new : W) where
  pub builds_exit : (r : Result Report Stop) (P : Stop → Type 0) → IsErrAnd r P → RunBuilds m said old new r → RunBuildsOf m said g nodes old new r
  builds_exit (Ok report) P is h = absurd is
  builds_exit (Err s) P is h = h

  pub cleans_so : (r : Result Report Stop) → CleansAsked m said g nodes old new r → CleansOf m said g nodes old new r
  cleans_so (Ok report) h = inl h
  cleans_so (Err s) h = h

  pub lists_so : (at : Step) (r : Result Report Stop) → IsListingStep at → DoesAt m said at g nodes old new r
  lists_so step.Store r is = tt
  lists_so step.Listing r is = tt
  lists_so step.Words r is = absurd is
  lists_so step.Load r is = absurd is
  lists_so step.Top r is = absurd is
  lists_so step.Reading r is = absurd is
  lists_so step.Help r is = absurd is
  lists_so step.Requests r is = absurd is
  lists_so step.Cleaning r is = absurd is
  lists_so step.Building r is = absurd is

  pub builds_so : (at : Step) (r : Result Report Stop) → IsBuildingStep at → RunBuildsOf m said g nodes old new r → DoesAt m said at g nodes old new r
  builds_so step.Store r is h = tt
  builds_so step.Building r is h = h
  builds_so step.Words r is h = absurd is
  builds_so step.Load r is h = absurd is
  builds_so step.Top r is h = absurd is
  builds_so step.Reading r is h = absurd is
  builds_so step.Help r is h = absurd is
  builds_so step.Requests r is h = absurd is
  builds_so step.Cleaning r is h = absurd is
  builds_so step.Listing r is h = absurd is

-- ---- printed texts

module _ {O : Type 0} (p : SinkMeaning O) (opening : List ℕ) (out between after : O) (opens : p.text between ≡ p.text out ++ opening) where
  opened : IsPrintedOf p (λ text. text ≡ opening) ⊥ out between
  opened = record { text = opening; is = refl; printed = inl opens }

  behind : (IsRest IsNew : List ℕ → Type 0) (cut : Type 0) → ((rest : List ℕ) → IsRest rest → IsNew rest) → IsPrintedOf p IsRest cut between after → IsPrintedOf p (IsBehind opening IsNew) cut out after
  behind IsRest IsNew cut on h =
      of_joined p (λ text. text ≡ opening) IsRest (IsBehind opening IsNew) cut out between after (λ first rest is same. (rest, on rest same, ap (λ t. t ++ rest) is)) opened h

  helped : (help : List ℕ) (r : Result Report Stop) → PrintsUpTo p help between after r → p.tells after → IsPrintedOf p (λ text. text ≡ opening ++ help) (IsCut r) out after
  helped help r h told =
      of_joined p (λ text. text ≡ opening) (λ text. text ≡ help) (λ text. text ≡ opening ++ help) (IsCut r) out between after
      (λ first rest is same. ap (λ t. t ++ rest) is ∙ ap (λ t. opening ++ t) same) opened (by r h)
    where
      by : (r : Result Report Stop) → PrintsUpTo p help between after r → IsPrintedOf p (λ text. text ≡ help) (IsCut r) between after
      by (Ok report) h = record { text = help; is = refl; printed = inl (h.whole told) }
      by (Err s) h = record { text = help; is = refl; printed = inr (h.0, h.1.printed told) }

-- ---- before the requests

module _ {W O : Type 0} (m : Meaning W) (p : SinkMeaning O) (said : Words) where
  pub follows_read : (at : Step) (a b : W) (out after : O) (r : Result Report Stop) (s : Stop) → IsReadingStep at → IsErrAnd r (λ x. x ≡ s) → Looks m a b → (m.tells a → (m.around a).running ≡ [])
      → ReadsScripts m p said a out b after (Err s) → RunFollows m p said at a out b after r
  follows_read step.Top a b out after r s reads is looks idle h = λ told tells. tt
  follows_read step.Reading a b out after (Ok report) s reads is looks idle h = absurd is
  follows_read step.Reading a b out after (Err x) s reads is looks idle h = λ told tells.
      subst (λ (z : Stop). StopTells (StopSo said (m.around a) (p.text out) (p.text after)) z) (sym is) (h told tells (idle (looks.told.told tells)))
  follows_read step.Words a b out after r s reads is looks idle h = absurd reads
  follows_read step.Load a b out after r s reads is looks idle h = absurd reads
  follows_read step.Help a b out after r s reads is looks idle h = absurd reads
  follows_read step.Requests a b out after r s reads is looks idle h = absurd reads
  follows_read step.Cleaning a b out after r s reads is looks idle h = absurd reads
  follows_read step.Store a b out after r s reads is looks idle h = absurd reads
  follows_read step.Listing a b out after r s reads is looks idle h = absurd reads
  follows_read step.Building a b out after r s reads is looks idle h = absurd reads

  module _ (g : RuleGraph) (a b : W) (out between : O) (looks : Looks m a b) (idle : m.tells a → (m.around a).running ≡ []) (reads : ReadsScripts m p said a out b between (Ok g)) where
    -- with `-h`
    pub follows_help : (after : O) (r : Result Report Stop) → PrintsUpTo p (help_text g.helps) between after r → RunFollows m p said step.Help a out b after r
    follows_help after r h = λ told tells.
        let read = reads (up_to_told p between after (help_text g.helps) r h told) tells (idle (looks.told.told tells)) in
        record {
          graph = g;
          printed = read.0;
          declared = read.1;
          goes = helped p (opening_text said read.0) out between after read.2 (help_text g.helps) r h told;
        }

    module _ (c : W) (on : Looks m b c) (all : Looks m a c) where
      at_rest : m.tells c → AtRest m c
      at_rest tells = (tells, (all.around tells).running ∙ idle (all.told.told tells))

      back : (P : Around → Map → Type 0) → m.tells c → P (m.around c) (image_in (m.seen c)) → P (m.around a) (image_in (m.seen a))
      back P tells h =
          subst (λ (around : Around). P around (image_in (m.seen a))) (around_stays m a c all (at_rest tells))
          (subst (λ (records : Map). P (m.around c) records) (records_stay m a c all tells) h)

      -- a word that names nothing
      pub follows_asked : (r : Result Report Stop) (s : Stop) → IsErrAnd r (λ x. x ≡ s)
          → (AtRest m c → (word : List ℕ) → s ≡ stop.Fault (own.UnknownTarget word) → IsFirstUnknown said.clean g (m.around c) (image_in (m.seen c)) (asked_by g said) word)
          → RunFollows m p said step.Requests a out c between r
      follows_asked r s is names = λ told tells.
          let read = reads told (on.told.told tells) (idle (all.told.told tells)) in
          record { graph = g; printed = read.0; declared = read.1; goes = (first r is tells, read.2) }
        where
          first : (r : Result Report Stop) → IsErrAnd r (λ x. x ≡ s) → m.tells c → TellsFirst m said g a r
          first (Ok report) is tells = absurd is
          first (Err x) is tells = λ word word_is.
              back (λ around records. IsFirstUnknown said.clean g around records (asked_by g said) word) tells (names (at_rest tells) word (sym is ∙ word_is))

      -- what is requested
      module _ (k : RuleGraph) (requests : List Request) (grows : GrowsByPaths g k) (words : words_asked requests ≡ asked_by g said) (nodes : AskForNodes k requests)
          (names : AtRest m c → All (NamesSome said.clean g (m.around c) (image_in (m.seen c))) (asked_by g said)) (new : W) (after : O) (r : Result Report Stop) where
        served_looked : (at : Step) → ServesAt said at → (m.tells new → m.tells c) → m.tells new → (rest : List ℕ) → IsServedText m p said at k requests c new r rest → IsServedText m p said at k requests a new r rest
        served_looked step.Building serves back_told tells rest h =
            let here = back_told tells in building_looked m p said k requests a c new r rest (around_stays m a c all (at_rest here)) (records_stay m a c all here) h
        served_looked step.Store serves back_told tells rest h = h
        served_looked step.Listing serves back_told tells rest h =
            listing_looked m said k requests a c new (λ t. let here = back_told t in (around_stays m a c all (at_rest here), records_stay m a c all here)) r rest h
        served_looked step.Cleaning serves back_told tells rest h =
            subst (λ (x : Around). IsCleaningText said k requests x r rest) (around_stays m a c all (at_rest (back_told tells))) h
        served_looked step.Words serves back_told tells rest h = absurd serves
        served_looked step.Load serves back_told tells rest h = absurd serves
        served_looked step.Top serves back_told tells rest h = absurd serves
        served_looked step.Reading serves back_told tells rest h = absurd serves
        served_looked step.Help serves back_told tells rest h = absurd serves
        served_looked step.Requests serves back_told tells rest h = absurd serves

        by_step : (at : Step) → ServesAt said at → (printed : List ℕ) → Declare said (m.around a) g printed → Serves m p said at g (opening_text said printed) a out new after r
            → FollowsAt m p said at a out new after r
        by_step step.Building serves printed declared h = record { graph = g; printed = printed; declared = declared; goes = h }
        by_step step.Store serves printed declared h = record { graph = g; printed = printed; declared = declared; goes = h }
        by_step step.Listing serves printed declared h = record { graph = g; printed = printed; declared = declared; goes = h }
        by_step step.Cleaning serves printed declared h = record { graph = g; printed = printed; declared = declared; goes = h }
        by_step step.Words serves printed declared h = absurd serves
        by_step step.Load serves printed declared h = absurd serves
        by_step step.Top serves printed declared h = absurd serves
        by_step step.Reading serves printed declared h = absurd serves
        by_step step.Help serves printed declared h = absurd serves
        by_step step.Requests serves printed declared h = absurd serves

        pub follows_served : (at : Step) → ServesAt said at → (m.tells new → m.tells c) → DoesAt m said at k (nodes_asked requests) a new r → ServePrints m p said at k requests c between new after r
            → RunFollows m p said at a out new after r
        follows_served at serves back_told does prints = λ told tells.
            let here = back_told tells in
            let read = reads (prints.told told) (on.told.told here) (idle (all.told.told here)) in
            let opening = opening_text said read.0 in
            by_step at serves read.0 read.1 (record {
              named = back (λ around records. All (NamesSome said.clean g around records) (asked_by g said)) here (names (at_rest here));
              grown = k;
              grows = grows;
              requests = requests;
              words = words;
              nodes = nodes;
              does = does;
              prints = λ so. behind p opening out between after read.2 (IsServedText m p said at k requests c new r) (IsServedText m p said at k requests a new r) (IsCut r)
                  (served_looked at serves back_told tells) (prints.such so told);
            })

-- what was done, told of a run that had looked before

module _ {W : Type 0} (m : Meaning W) (said : Words) (g : RuleGraph) (nodes : List NodeId) (a b new : W) (r : Result Report Stop) (only : HasOnlyNow m) (watches : Watches m a b) (told : Told m b new)
    (idle : m.tells a → (m.around a).running ≡ []) (counts : m.counts b ≡ m.counts a) (safe : RunsSafely m a b) where
  pub does_looked : (at : Step) → DoesAt m said at g nodes b new r → DoesAt m said at g nodes a new r
  does_looked step.Building h = of_looked m said g nodes a b new r only watches.looks told idle counts safe h
  does_looked step.Cleaning h = of_after m said g nodes a b new r watches idle told.told h
  does_looked step.Words h = tt
  does_looked step.Load h = tt
  does_looked step.Top h = tt
  does_looked step.Reading h = tt
  does_looked step.Help h = tt
  does_looked step.Requests h = tt
  does_looked step.Store h = tt
  does_looked step.Listing h = tt

-- ---- the report

module _ (Is : HostEnd → Type 0) where
  one_or : (fault f : Top) → IsFaultOr fault f → TellsEnd Is fault → TellsEnd Is f
  one_or fault f (inl same) h = subst (TellsEnd Is) (sym same) h
  one_or fault f (inr out) h = subst (TellsEnd Is) (sym out) tt

  stop_or : (s : Stop) (f : Top) → IsStopOr s f → StopTells Is s → TellsEnd Is f
  stop_or (stop.Fault fault) f is h = one_or (top_of_own fault) f is h
  stop_or (stop.Build fault) f is h = one_or (top_of fault) f is h
  stop_or stop.Memory f is h = absurd is

module _ {W O : Type 0} (m : Meaning W) (p : SinkMeaning O) (said : Words) (old : W) (out : O) (new : W) (after : O) (s : Stop) (report : Report) (fails : report.status ≢ 0)
    (skipped : report.skipped ≡ []) (alone : All (IsStopOr s) report.faults) (cut : IsCutBy s → IsCutShort report) where
  served_ended : (at : Step) (g : RuleGraph) (requests : List Request) (text : List ℕ) → IsServedText m p said at g requests old new (Err s) text → IsServedText m p said at g requests old new (Ok report) text
  served_ended step.Building g requests text h = inr (cut h.0, h.1)
  served_ended step.Store g requests text h = h
  served_ended step.Listing g requests text h = inr (inr (cut h.0, h.1))
  served_ended step.Cleaning g requests text h = inr (fails, stopped_ended m p said (IsCutBy s) (IsCutShort report) g requests (m.around old) text cut h)
  served_ended step.Words g requests text h = h
  served_ended step.Load g requests text h = h
  served_ended step.Top g requests text h = h
  served_ended step.Reading g requests text h = h
  served_ended step.Help g requests text h = h
  served_ended step.Requests g requests text h = h

  cleans_ended : (g : RuleGraph) (nodes : List NodeId) → CleansNodes m said g nodes old new ⊥ ⊎ Looks m old new → CleansOf m said g nodes old new (Ok report)
  cleans_ended g nodes (inl h) = inl (record { list = h.list; is = h.is; cleared = h.cleared; gone = λ well. absurd (fails well) })
  cleans_ended g nodes (inr looks) = inr (fails, looks)

  does_ended : (at : Step) (g : RuleGraph) (nodes : List NodeId) → DoesAt m said at g nodes old new (Err s) → DoesAt m said at g nodes old new (Ok report)
  does_ended step.Building g nodes h = λ ask tells sure. inr (fails, skipped, h ask tells sure)
  does_ended step.Cleaning g nodes h = cleans_ended g nodes h
  does_ended step.Words g nodes h = tt
  does_ended step.Load g nodes h = tt
  does_ended step.Top g nodes h = tt
  does_ended step.Reading g nodes h = tt
  does_ended step.Help g nodes h = tt
  does_ended step.Requests g nodes h = tt
  does_ended step.Store g nodes h = tt
  does_ended step.Listing g nodes h = tt

  serves_ended : (at : Step) (graph : RuleGraph) (opening : List ℕ) → Serves m p said at graph opening old out new after (Err s) → Serves m p said at graph opening old out new after (Ok report)
  serves_ended at graph opening h = record {
    named = h.named;
    grown = h.grown;
    grows = h.grows;
    requests = h.requests;
    words = h.words;
    nodes = h.nodes;
    does = does_ended at h.grown (nodes_asked h.requests) h.does;
    prints = λ so.
        of_weaker p (IsBehind opening (IsServedText m p said at h.grown h.requests old new (Err s))) (IsBehind opening (IsServedText m p said at h.grown h.requests old new (Ok report)))
        (IsCutBy s) (IsCutShort report) out after (λ text is. (is.0, served_ended at h.grown h.requests is.0 is.1, is.2)) cut (h.prints so);
  }

  pub follows_ended : (at : Step) → RunFollows m p said at old out new after (Err s) → RunFollows m p said at old out new after (Ok report)
  follows_ended step.Words h = λ told tells. tt
  follows_ended step.Load h = λ told tells. tt
  follows_ended step.Top h = λ told tells. tt
  follows_ended step.Reading h = λ told tells.
      let Is = StopSo said (m.around old) (p.text out) (p.text after) in
      let one = h told tells in
      All-weaker (IsStopOr s) (TellsEnd Is) (λ f is. stop_or Is s f is one) report.faults alone
  follows_ended step.Help h = λ told tells.
      let read = h told tells in
      let whole = λ (text : List ℕ). text ≡ opening_text said read.printed ++ help_text read.graph.helps in
      record {
        graph = read.graph;
        printed = read.printed;
        declared = read.declared;
        goes = of_weaker p whole whole (IsCutBy s) (IsCutShort report) out after (λ text is. is) cut read.goes;
      }
  follows_ended step.Requests h = λ told tells.
      let read = h told tells in
      record { graph = read.graph; printed = read.printed; declared = read.declared; goes = (λ word has. read.goes.0 word (told_alone s report.faults word alone has), read.goes.1) }
  follows_ended step.Cleaning h = λ told tells.
      let read = h told tells in
      record { graph = read.graph; printed = read.printed; declared = read.declared; goes = serves_ended step.Cleaning read.graph (opening_text said read.printed) read.goes }
  follows_ended step.Store h = λ told tells.
      let read = h told tells in
      record { graph = read.graph; printed = read.printed; declared = read.declared; goes = serves_ended step.Store read.graph (opening_text said read.printed) read.goes }
  follows_ended step.Listing h = λ told tells.
      let read = h told tells in
      record { graph = read.graph; printed = read.printed; declared = read.declared; goes = serves_ended step.Listing read.graph (opening_text said read.printed) read.goes }
  follows_ended step.Building h = λ told tells.
      let read = h told tells in
      record { graph = read.graph; printed = read.printed; declared = read.declared; goes = serves_ended step.Building read.graph (opening_text said read.printed) read.goes }

-- the step that is reported
pub follows_as : {W O : Type 0} (m : Meaning W) (p : SinkMeaning O) (said : Words) (reported at : Step) (old : W) (out : O) (new : W) (after : O) (r : Result Report Stop) → reported ≡ at
    → RunFollows m p said at old out new after r → RunFollows m p said reported old out new after r
follows_as m p said reported at old out new after r is h = subst (λ (x : Step). RunFollows m p said x old out new after r) (sym is) h
