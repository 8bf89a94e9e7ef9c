-- What stands printed of a build, and of a run that opened before it.
use Rattle.std.proofs.Common.{◌≡◌, ◌≢◌, ◌∙◌, ◌⊎◌, inl, inr, sym, subst, refl, ap, ℕ, Bool, true, false, List, [], ◌∷◌, ◌++◌, Contains, length, map, append_assoc, arith}
use Rattle.std.specs.Prelude.{◌==◌, All, Option, Some, IfOk, IfSome, Result, Ok, Err, IsErrAnd}
use Rattle.std.proofs.lemmas.Bool.{false≢true, eqb-true}
use Rattle.std.proofs.lemmas.List.Elements.{All-contains_itself, All-nil, All-weaker, Contains-append_left, Contains-push}
use Rattle.scons_base.specs.declared.ids.NodeId.{NodeId}
use Rattle.scons_base.specs.declared.ids.RuleId.{RuleId}
use Rattle.world_api.specs.Around.{Around}
use Rattle.world_api.specs.Looks.{Looks}
use Rattle.world_api.specs.Meaning.{Meaning}
use Rattle.world_api.specs.Printed.{SinkMeaning}
use Rattle.world_api.specs.Printing.{IsPrefixed, PrintsSome}
use Rattle.rule_graph.specs.Graphs.{RuleGraph}
use Rattle.rule_graph.specs.Rules.{are_below}
use Rattle.rule_graph.specs.declared.wish.Wish.{Wish}
use Rattle.rule_graph.specs.declared.build_fault.BuildFault.{BuildFault}
use Rattle.rule_graph.specs.declared.build_fault.BuildFault.TheVariants as fault
use Rattle.sign_store.specs.Ends.{image_in}
use Rattle.sign_store.specs.Tables.{Map}
use Rattle.report_texts.specs.Texts.{building_text, cleaned_text, cleaning_text, done_text, help_text, load_text}
use Rattle.build_run.specs.Output.{BuildPrints, HasRunPrinting}
use Rattle.build_run.specs.declared.end.BuildEnd.{BuildEnd}
use Rattle.scons_words.specs.declared.words.Words.{Words}
use Rattle.scons_report.specs.Cleaning.{IsCleanList, rules_numbered}
use Rattle.scons_report.specs.Dry.{ListsDry}
use Rattle.scons_top.specs.Cleaned.{targets_of}
use Rattle.scons_top.specs.Builds.{BeginsStore, wanted_by}
use Rattle.world_api.specs.declared.refusal.Fault.{Fault}
use Rattle.scons_top.specs.Endings.{AddsUnprinted, ClosesWith}
use Rattle.scons_top.specs.Printed.{LosesOut, AreFaultsOf, IsEnding, IsBuildText, IsBuildingText, IsListText, IsListOrNone, IsListingText, IsServedText, IsOpeningText, IsBehindText, IsReadText, IsHelpText, IsRunText, IsRemovedFront, IsCleanedText, IsCleanStopped, IsCleaningText, there_in, Surely, FaultPrints, ServePrints, RunPrints}
use Rattle.scons_top.specs.Sinks.{Printed, PrintsUpTo, PrintsUnless, IsPrintedOf, PrintsSuch, IsCutShort, IsCutBy, IsCut}
use Rattle.scons_top.specs.Asked.{asked_of, words_asked}
use Rattle.scons_top.specs.Requested.{AskForNodes, nodes_asked}
use Rattle.scons_top.specs.Steps.{IsReadingStep, IsTold, ServesAt}
use Rattle.scons_top.specs.RunLines.{progress, options_of, closing_text, ending_text, list_text, removed_texts, requests_text}
use Rattle.scons_top.specs.Stops.{top_of}
use Rattle.scons_top.specs.Trees.{shows_trees, IsTreesEnding, TreesPrint}
use Rattle.build_model.specs.Rules.{Path}
use Rattle.scons_top.specs.declared.report.Report.{Report}
use Rattle.scons_top.specs.declared.report.Top.{Top}
use Rattle.scons_top.specs.declared.report.Top.TheVariants as top
use Rattle.scons_top.specs.declared.requests.Request.{Request}
use Rattle.scons_top.specs.declared.step.Step.{Step}
use Rattle.scons_top.specs.declared.step.Step.TheVariants as step
use Rattle.scons_top.specs.declared.stop.Stop.{Stop}
use Rattle.scons_top.specs.declared.stop.Stop.TheVariants as stop
use Rattle.scons_top.proofs.Building.{around_asked, records_kept}
use Rattle.scons_top.proofs.Causing.{in_tops}
use Rattle.scons_top.proofs.Printing.{printed_none, printed_then, some_all, some_behind, unless_some, such_whole, such_some, such_weaker, such_joined, of_joined, prefixed_behind}

-- which lines end it

pub ending_none : (said : Words) (g : RuleGraph) (requests : List Request) (started slice : List RuleId) (found : List BuildFault) → slice ≡ started → (length found == 0) ≡ true
    → ending_text said g requests started found ≡ requests_text said g slice requests ++ progress said done_text
ending_none said g requests started slice [] same is = ap (λ (rules : List RuleId). requests_text said g rules requests ++ progress said done_text) (sym same)
ending_none said g requests started slice (f ∷ found) same is = absurd (omega (arith, eqb-true (length (f ∷ found)) 0 is))

pub ending_some : (said : Words) (g : RuleGraph) (requests : List Request) (started : List RuleId) (found slice : List BuildFault) → slice ≡ found → (length found == 0) ≡ false
    → ending_text said g requests started found ≡ progress said (closing_text said slice)
ending_some said g requests started [] slice same is = absurd (let no = is in cc)
ending_some said g requests started (f ∷ found) slice same is = ap (λ (faults : List BuildFault). progress said (closing_text said faults)) (sym same)

-- before the build

module _ {W O : Type 0} (m : Meaning W) (p : SinkMeaning O) (said : Words) (g : RuleGraph) (requests : List Request) (old new : W) (out : O) where
  pub serve_unopened : (r : Result Report Stop) → ServePrints m p said step.Store g requests old out new out r
  serve_unopened r =
      such_whole p (Surely m said step.Store new) (IsServedText m p said step.Store g requests old new r) (IsCut r) out out [] (printed_none p out) refl

  pub serve_unbuilt : (after : O) (r : Result Report Stop) (s : Stop) → IsErrAnd r (λ x. x ≡ s) → IsCutBy s → PrintsSome p out after (progress said building_text)
      → ServePrints m p said step.Building g requests old out new after r
  serve_unbuilt after (Ok value) s is cut h = absurd is
  serve_unbuilt after (Err x) s is cut h =
      let short = subst IsCutBy (sym is) cut in
      such_some p (Surely m said step.Building new) (IsServedText m p said step.Building g requests old new (Err x)) (IsCut (Err x)) out after (progress said building_text) h (short, refl) short

-- what cuts a run short that built

contains_closed : (found : List BuildFault) (written : Result (Unit {0}) Stop) (faults : List Top) → ClosesWith found written faults → Contains found fault.OutFault → Contains faults top.OutFault
contains_closed found (Ok value) faults is has = subst (λ (fs : List Top). Contains fs top.OutFault) (sym is) (in_tops found fault.OutFault has)
contains_closed found (Err s) faults is has = subst (λ (fs : List Top). Contains fs top.OutFault) (sym is) (Contains-push (map top_of found) top.OutFault)

cut_lost : (answer : BuildEnd) (written : Result (Unit {0}) Stop) (report : Report) → (report.status ≢ 3 → answer.memory ≡ false)
    → (report.status ≢ 3 → ClosesWith answer.faults written report.faults) → LosesOut answer → IsCutShort report
cut_lost answer written report memory closes (inl wanting) = λ ne. absurd (false≢true (sym (memory ne) ∙ wanting))
cut_lost answer written report memory closes (inr has) = λ ne. contains_closed answer.faults written report.faults (closes ne) has

pub cut_unwritten : (found : List BuildFault) (s : Stop) (report : Report) → (report.status ≢ 3 → ClosesWith found (Err s) report.faults) → IsCutShort report
cut_unwritten found s report closes = λ ne. subst (λ (fs : List Top). Contains fs top.OutFault) (sym (closes ne)) (Contains-push (map top_of found) top.OutFault)

faults_closed : (found : List BuildFault) (written : Result (Unit {0}) Stop) (faults : List Top) → ClosesWith found written faults → AreFaultsOf found faults
faults_closed found (Ok value) faults is = inl is
faults_closed found (Err s) faults is = inr is

-- behind it

behind : (a b c d first second third : List ℕ) → b ≡ a ++ first → c ≡ b ++ second → d ≡ c ++ third → d ≡ a ++ ((first ++ second) ++ third)
behind a b c d first second third one two three =
    three ∙ ap (λ x. x ++ third) (two ∙ ap (λ x. x ++ second) one ∙ append_assoc a first second) ∙ append_assoc a (first ++ second) third

behind_front : (a b c d first second third : List ℕ) → b ≡ a ++ first → c ≡ b ++ second → IsPrefixed c d third → IsPrefixed a d ((first ++ second) ++ third)
behind_front a b c d first second third one two front =
    prefixed_behind a c d (first ++ second) third (two ∙ ap (λ x. x ++ second) one ∙ append_assoc a first second) front

module _ {O : Type 0} (p : SinkMeaning O) (answer : BuildEnd) (report : Report) (memory : report.status ≢ 3 → answer.memory ≡ false)
    (a b c d : O) (first second third : List ℕ) where
  all_or_front : (written : Result (Unit {0}) Stop) → (report.status ≢ 3 → ClosesWith answer.faults written report.faults) → p.tells d → p.text b ≡ p.text a ++ first
      → p.text c ≡ p.text b ++ second → PrintsUnless p (LosesOut answer) third c d written
      → (p.text d ≡ p.text a ++ ((first ++ second) ++ third)) ⊎ (IsCutShort report × IsPrefixed (p.text a) (p.text d) ((first ++ second) ++ third))
  all_or_front (Ok value) closes t one two (inl all) = inl (behind (p.text a) (p.text b) (p.text c) (p.text d) first second third one two (all.whole t))
  all_or_front (Ok value) closes t one two (inr some) =
      inr (cut_lost answer (Ok value) report memory closes some.0, behind_front (p.text a) (p.text b) (p.text c) (p.text d) first second third one two (some.1.printed t))
  all_or_front (Err s) closes t one two some =
      inr (cut_unwritten answer.faults s report closes, behind_front (p.text a) (p.text b) (p.text c) (p.text d) first second third one two (some.printed t))

-- a build and the lines behind it
pub serve_built : {W O : Type 0} (m : Meaning W) (p : SinkMeaning O) (said : Words) (g grown : RuleGraph) (requests : List Request) (requested : List NodeId) (old begun built : W)
    (out said_out after last : O) (store kept : Map) (answer : BuildEnd) (written : Result (Unit {0}) Stop) (report : Report)
    → requested ≡ nodes_asked requests → are_below (length g.nodes) requested ≡ true → BeginsStore m old begun → (m.tells built → m.tells begun) → (m.tells begun → store ≡ image_in (m.seen old))
    → Printed p out said_out (progress said building_text)
    → BuildPrints m p (wanted_by said g requested) store (options_of said) begun said_out built after kept answer
    → PrintsUnless p (LosesOut answer) (ending_text said grown requests answer.started answer.faults) after last written
    → (answer.memory ≡ false → shows_trees said answer.faults ≡ false) → (report.status ≢ 3 → answer.memory ≡ false) → (report.status ≢ 3 → ClosesWith answer.faults written report.faults)
    → ServePrints m p said step.Building g requests old out built last (Ok report)
serve_built {O = O} m p said g grown requests requested old begun built out said_out after last store kept answer written report are nodes begins tells records one two three plain memory closes =
    let ending = ending_text said grown requests answer.started answer.faults in
    let last_some = unless_some p (LosesOut answer) after last ending written three in
    record {
      told = λ t. one.told (two.told (last_some.told t));
      such = λ so t.
          let here = tells so.0 in
          let at = last_some.told t in
          let ran = two.prints so.0 so.1 at nodes in
          let of_map = subst (λ (map : Map). HasRunPrinting m p (wanted_by said g requested) map (options_of said) begun said_out built after kept answer.is_ended) (records here) ran in
          let builds = subst (λ (list : List NodeId). HasRunPrinting m p (wanted_by said g list) (image_in (m.seen old)) (options_of said) begun said_out built after kept answer.is_ended) are of_map in
          let text = builds.printed.text ++ builds.printed.rest in
          record {
            text = progress said building_text ++ text ++ ending;
            is = inl (record {
              begun = begun;
              built = built;
              before = said_out;
              after = after;
              around = begins.around here;
              around_behind = refl;
              behind = kept;
              is_ended = answer.is_ended;
              builds = builds;
              grown = grown;
              started = answer.started;
              found = answer.faults;
              rest = ending;
              ends = inl (record { plain = λ ne. plain (memory ne); faults = λ ne. faults_closed answer.faults written report.faults (closes ne); whole = refl });
              whole = refl;
            });
            printed = all_or_front p answer report memory out said_out after last (progress said building_text) text ending written closes t (one.whole (two.told at)) builds.printed.printed three;
          };
    }

-- and trees behind it

ends_skipping : (said : Words) (declared : ℕ) (around : Around) (g : RuleGraph) (requests : List Request) (started : List RuleId) (report : Report) (pairs : List (Path × Path)) (text : List ℕ)
    → IsTreesEnding said declared around g requests started (Ok report) text → IsTreesEnding said declared around g requests started (Ok (record report { skipped = pairs })) text
ends_skipping said declared around g requests started report pairs text (inl all) = inl all
ends_skipping said declared around g requests started report pairs text (inr (inl h)) =
    inr (inl (record { fault = h.fault; told = h.told; front = h.front; is_front = h.is_front; whole = h.whole }))
ends_skipping said declared around g requests started report pairs text (inr (inr cut)) = inr (inr cut)

all_or_cut : (cut : Type 0) (a b c d first second third : List ℕ) → b ≡ a ++ first → c ≡ b ++ second → (d ≡ c ++ third) ⊎ (cut × IsPrefixed c d third)
    → (d ≡ a ++ ((first ++ second) ++ third)) ⊎ (cut × IsPrefixed a d ((first ++ second) ++ third))
all_or_cut cut a b c d first second third one two (inl all) = inl (behind a b c d first second third one two all)
all_or_cut cut a b c d first second third one two (inr front) = inr (front.0, behind_front a b c d first second third one two front.1)

pub serve_treed : {W O : Type 0} (m : Meaning W) (p : SinkMeaning O) (said : Words) (g grown : RuleGraph) (requests : List Request) (requested : List NodeId) (declared : ℕ)
    (started : List RuleId) (old begun built new : W) (out said_out after last : O) (store kept : Map) (answer : BuildEnd) (report : Report)
    → requested ≡ nodes_asked requests → are_below (length g.nodes) requested ≡ true → declared ≡ length g.rules → BeginsStore m old begun → (m.tells built → m.tells begun)
    → (m.tells begun → store ≡ image_in (m.seen old)) → Printed p out said_out (progress said building_text)
    → BuildPrints m p (wanted_by said g requested) store (options_of said) begun said_out built after kept answer
    → Looks m built new → (m.tells built → (m.around built).running ≡ []) → shows_trees said answer.faults ≡ true
    → TreesPrint m p said declared grown requests started built after new last (Ok report)
    → ServePrints m p said step.Building g requests old out new last (Ok (record report { skipped = answer.skipped }))
serve_treed {O = O} m p said g grown requests requested declared started old begun built new out said_out after last store kept answer report are nodes count begins tells records one two
    looks idle shows three =
    record {
      told = λ t. one.told (two.told (three.told t));
      such = λ so t.
          let there = looks.told.told so.0 in
          let here = tells there in
          let at = three.told t in
          let ran = two.prints there (looks.told.sure so.0 so.1) at nodes in
          let of_map = subst (λ (map : Map). HasRunPrinting m p (wanted_by said g requested) map (options_of said) begun said_out built after kept answer.is_ended) (records here) ran in
          let builds = subst (λ (list : List NodeId). HasRunPrinting m p (wanted_by said g list) (image_in (m.seen old)) (options_of said) begun said_out built after kept answer.is_ended) are of_map in
          let text = builds.printed.text ++ builds.printed.rest in
          let trees = three.such so.0 t in
          let ends = subst (λ n. IsTreesEnding said n (m.around built) grown requests started (Ok (record report { skipped = answer.skipped })) trees.text) count
          (ends_skipping said declared (m.around built) grown requests started report answer.skipped trees.text trees.is) in
          record {
            text = progress said building_text ++ text ++ trees.text;
            is = inl (record {
              begun = begun;
              built = built;
              before = said_out;
              after = after;
              around = begins.around here;
              around_behind = around_asked (m.around built) (m.around new) (idle there) (looks.around so.0);
              behind = kept;
              is_ended = answer.is_ended;
              builds = builds;
              grown = grown;
              started = started;
              found = answer.faults;
              rest = trees.text;
              ends = inr (shows, ends);
              whole = refl;
            });
            printed = all_or_cut (IsCutShort report) (p.text out) (p.text said_out) (p.text after) (p.text last) (progress said building_text) text trees.text (one.whole (two.told at)) builds.printed.printed
                trees.printed;
          };
    }

-- a run over scripts

module _ {W O : Type 0} (m : Meaning W) (p : SinkMeaning O) (said : Words) where
  pub run_read : (at : Step) (old new : W) (out after : O) (r : Result Report Stop) (s : Stop) → IsReadingStep at → IsErrAnd r (λ x. x ≡ s)
      → PrintsSuch p (Unit {0}) (IsReadText said at) (IsCutBy s) out after → RunPrints m p said at old out new after r
  run_read step.Top old new out after (Err x) s reads is h =
      such_weaker p (Unit {0}) (Unit {0}) (IsReadText said step.Top) (IsReadText said step.Top) (IsCutBy s) (IsCutBy x) out after (λ so. tt) (λ so text kind. kind) (subst IsCutBy (sym is)) h
  run_read step.Reading old new out after (Err x) s reads is h =
      such_weaker p (Unit {0}) (Unit {0}) (IsReadText said step.Reading) (IsReadText said step.Reading) (IsCutBy s) (IsCutBy x) out after (λ so. tt) (λ so text kind. kind) (subst IsCutBy (sym is)) h
  run_read step.Top old new out after (Ok report) s reads is h = absurd is
  run_read step.Reading old new out after (Ok report) s reads is h = absurd is
  run_read step.Words old new out after r s reads is h = absurd reads
  run_read step.Load old new out after r s reads is h = absurd reads
  run_read step.Help old new out after r s reads is h = absurd reads
  run_read step.Requests old new out after r s reads is h = absurd reads
  run_read step.Cleaning old new out after r s reads is h = absurd reads
  run_read step.Store old new out after r s reads is h = absurd reads
  run_read step.Listing old new out after r s reads is h = absurd reads
  run_read step.Building old new out after r s reads is h = absurd reads

  -- with `-h`
  help_such : (new : W) (mid after : O) (text : List ℕ) (r : Result Report Stop) → PrintsUpTo p text mid after r → PrintsSuch p (Unit {0}) (λ t. t ≡ text) (IsCut r) mid after
  help_such new mid after text (Ok report) h = such_whole p (Unit {0}) (λ t. t ≡ text) (IsCut (Ok report)) mid after text h refl
  help_such new mid after text (Err s) h = such_some p (Unit {0}) (λ t. t ≡ text) (IsCut (Err s)) mid after text h.1 refl h.0

  pub run_help : (g : RuleGraph) (old new : W) (out mid after : O) (r : Result Report Stop) → PrintsSuch p (Unit {0}) (IsOpeningText said) ⊥ out mid → PrintsUpTo p (help_text g.helps) mid after r
      → RunPrints m p said step.Help old out new after r
  run_help g old new out mid after r opens h =
      such_joined p (Unit {0}) (Unit {0}) (IsOpeningText said) (λ t. t ≡ help_text g.helps) (IsHelpText said) (IsCut r) out mid after (λ so. tt)
      (λ first second kind is. record { opening = first; opens = kind; graph = g; whole = ap (λ t. first ++ t) is }) opens (help_such new mid after (help_text g.helps) r h)

  -- where what is requested isn't known
  pub run_asked : (old new : W) (out after : O) (r : Result Report Stop) → PrintsSuch p (Unit {0}) (IsOpeningText said) ⊥ out after → RunPrints m p said step.Requests old out new after r
  run_asked old new out after r opens =
      such_weaker p (Unit {0}) (Unit {0}) (IsOpeningText said) (IsOpeningText said) ⊥ (IsCut r) out after (λ so. tt) (λ so text kind. kind) (λ no. absurd no) opens

-- a build behind a look

-- the same as a build's text, by what was around and the records as the run found them
record BuiltFrom {W O : Type 0} (m : Meaning W) (p : SinkMeaning O) (said : Words) (g : RuleGraph) (requests : List Request) (start : Around) (map : Map) (new : W)
    (report : Report) (text : List ℕ) : Type 0 where
  begun : W
  built : W
  before : O
  after : O
  around : m.around begun ≡ start
  around_behind : m.around new ≡ m.around built
  behind : Map
  is_ended : Bool
  builds : HasRunPrinting m p (wanted_by said g (nodes_asked requests)) map (options_of said) begun before built after behind is_ended
  grown : RuleGraph
  started : List RuleId
  found : List BuildFault
  rest : List ℕ
  ends : IsEnding said (length g.rules) (m.around built) grown requests started found report rest
  whole : text ≡ progress said building_text ++ (builds.printed.text ++ builds.printed.rest) ++ rest

build_looked : {W O : Type 0} (m : Meaning W) (p : SinkMeaning O) (said : Words) (g : RuleGraph) (requests : List Request) (a b new : W) (report : Report) (text : List ℕ)
    → m.around b ≡ m.around a → image_in (m.seen b) ≡ image_in (m.seen a) → IsBuildText m p said g requests b new report text → IsBuildText m p said g requests a new report text
build_looked m p said g requests a b new report text around records h =
    let from : BuiltFrom m p said g requests (m.around b) (image_in (m.seen b)) new report text = record {
      begun = h.begun;
      built = h.built;
      before = h.before;
      after = h.after;
      around = h.around;
      around_behind = h.around_behind;
      behind = h.behind;
      is_ended = h.is_ended;
      builds = h.builds;
      grown = h.grown;
      started = h.started;
      found = h.found;
      rest = h.rest;
      ends = h.ends;
      whole = h.whole;
    } in
    let one = subst (λ (x : Around). BuiltFrom m p said g requests x (image_in (m.seen b)) new report text) around from in
    let two = subst (λ (map : Map). BuiltFrom m p said g requests (m.around a) map new report text) records one in
    record {
      begun = two.begun;
      built = two.built;
      before = two.before;
      after = two.after;
      around = two.around;
      around_behind = two.around_behind;
      behind = two.behind;
      is_ended = two.is_ended;
      builds = two.builds;
      grown = two.grown;
      started = two.started;
      found = two.found;
      rest = two.rest;
      ends = two.ends;
      whole = two.whole;
    }

pub building_looked : {W O : Type 0} (m : Meaning W) (p : SinkMeaning O) (said : Words) (g : RuleGraph) (requests : List Request) (a b new : W) (r : Result Report Stop) (text : List ℕ)
    → m.around b ≡ m.around a → image_in (m.seen b) ≡ image_in (m.seen a) → IsBuildingText m p said g requests b new r text → IsBuildingText m p said g requests a new r text
building_looked m p said g requests a b new (Err s) text around records h = h
building_looked m p said g requests a b new (Ok report) text around records (inr early) = inr early
building_looked m p said g requests a b new (Ok report) text around records (inl h) = inl (build_looked m p said g requests a b new report text around records h)

-- and a list

module _ {W : Type 0} (m : Meaning W) (said : Words) (g : RuleGraph) (requests : List Request) (a b new : W)
    (same : m.tells new → (m.around b ≡ m.around a) × (image_in (m.seen b) ≡ image_in (m.seen a))) where
  list_looked : (text : List ℕ) → IsListText m said g requests b new text → IsListText m said g requests a new text
  list_looked text h = record {
    grown = h.grown;
    rules = h.rules;
    lists = λ t.
        let is = same t in
        let nodes = nodes_asked requests in
        let one = subst (λ (x : Around). ListsDry g h.grown said.hash (image_in (m.seen b)) x nodes h.rules) is.0 (h.lists t) in
        subst (λ (map : Map). ListsDry g h.grown said.hash map (m.around a) nodes h.rules) is.1 one;
    whole = h.whole;
  }

  or_none_looked : (text : List ℕ) → IsListOrNone m said g requests b new text → IsListOrNone m said g requests a new text
  or_none_looked text (inl none) = inl none
  or_none_looked text (inr h) = inr (list_looked text h)

  pub listing_looked : (r : Result Report Stop) (text : List ℕ) → IsListingText m said g requests b new r text → IsListingText m said g requests a new r text
  listing_looked (Err s) text h = (h.0, or_none_looked text h.1)
  listing_looked (Ok report) text (inl h) = inl (h.0, list_looked text h.1)
  listing_looked (Ok report) text (inr (inl h)) = inr (inl h)
  listing_looked (Ok report) text (inr (inr h)) = inr (inr (h.0, or_none_looked text h.1))

-- what a run printed that opened, and then served what was requested

module _ {W O : Type 0} (m : Meaning W) (p : SinkMeaning O) (said : Words) (defaults : List Wish) (g : RuleGraph) (requests : List Request) (old mid new : W) (out between after : O)
    (r : Result Report Stop) (looks : Looks m old mid) (told : m.tells new → m.tells mid) (idle : m.tells old → (m.around old).running ≡ [])
    (words : words_asked requests ≡ asked_of defaults said.requested) (nodes : AskForNodes g requests) (opens : PrintsSuch p (Unit {0}) (IsOpeningText said) ⊥ out between) where
  same_found : m.tells new → (m.around mid ≡ m.around old) × (image_in (m.seen mid) ≡ image_in (m.seen old))
  same_found t =
      let here = told t in
      (around_asked (m.around old) (m.around mid) (idle (looks.told.told here)) (looks.around here), records_kept m old mid (looks.banks here))

  looked : Surely m said step.Building new → (rest : List ℕ) → IsServedText m p said step.Building g requests mid new r rest → IsServedText m p said step.Building g requests old new r rest
  looked so rest is =
      let here = told so.0 in
      building_looked m p said g requests old mid new r rest (around_asked (m.around old) (m.around mid) (idle (looks.told.told here)) (looks.around here))
      (records_kept m old mid (looks.banks here)) is

  behind_of : (P : RuleGraph → List Request → List ℕ → Type 0) (first second : List ℕ) → IsOpeningText said first → P g requests second → IsBehindText said P (first ++ second)
  behind_of P first second opening is = record {
    opening = first;
    opens = opening;
    defaults = defaults;
    graph = g;
    requests = requests;
    words = words;
    nodes = nodes;
    rest = second;
    is = is;
    whole = refl;
  }

  joins : (where_so : Type 0) (Q : List ℕ → Type 0) (P : RuleGraph → List Request → List ℕ → Type 0) → (where_so → (rest : List ℕ) → Q rest → P g requests rest)
      → PrintsSuch p where_so Q (IsCut r) between after → PrintsSuch p where_so (IsBehindText said P) (IsCut r) out after
  joins where_so Q P by h = record {
    told = λ t. opens.told (h.told t);
    such = λ so t.
        of_joined p (IsOpeningText said) Q (IsBehindText said P) (IsCut r) out between after (λ first second opening is. behind_of P first second opening (by so second is))
        (opens.such tt (h.told t)) (h.such so t);
  }

  pub run_served : (at : Step) → ServesAt said at → ServePrints m p said at g requests mid between new after r → RunPrints m p said at old out new after r
  run_served step.Building serves h =
      joins (Surely m said step.Building new) (IsServedText m p said step.Building g requests mid new r) (λ g requests rest. IsServedText m p said step.Building g requests old new r rest) looked h
  run_served step.Store serves h =
      joins (Unit {0}) (IsServedText m p said step.Store g requests mid new r) (λ g requests rest. IsServedText m p said step.Store g requests old new r rest) (λ so rest is. is) h
  run_served step.Listing serves h =
      joins (Unit {0}) (IsServedText m p said step.Listing g requests mid new r) (λ g requests rest. IsServedText m p said step.Listing g requests old new r rest)
      (λ so rest is. listing_looked m said g requests old mid new same_found r rest is) h
  run_served step.Cleaning serves h =
      joins (m.tells new) (IsServedText m p said step.Cleaning g requests mid new r) (λ g requests rest. IsServedText m p said step.Cleaning g requests old new r rest)
      (λ so rest is.
      let here = told so in
      subst (λ (x : Around). IsCleaningText said g requests x r rest) (around_asked (m.around old) (m.around mid) (idle (looks.told.told here)) (looks.around here)) is) h
  run_served step.Words serves h = absurd serves
  run_served step.Load serves h = absurd serves
  run_served step.Top serves h = absurd serves
  run_served step.Reading serves h = absurd serves
  run_served step.Help serves h = absurd serves
  run_served step.Requests serves h = absurd serves

-- words that are read, and a run that ended

module _ {W O : Type 0} (m : Meaning W) (p : SinkMeaning O) (said : Words) where
  pub run_words : (old new : W) (out : O) (r : Result Report Stop) → RunPrints m p said step.Words old out new out r
  run_words old new out r = such_whole p (Unit {0}) (IsRunText m p said step.Words old new r) (IsCut r) out out [] (printed_none p out) refl

  pub run_load : (rules : ℕ) (old new : W) (out after : O) (r : Result Report Stop) → said.load ≡ Some rules → PrintsUpTo p (load_text rules) out after r → RunPrints m p said step.Load old out new after r
  run_load rules old new out after (Ok report) is h =
      such_whole p (Unit {0}) (IsRunText m p said step.Load old new (Ok report)) (IsCut (Ok report)) out after (load_text rules) h (loads is)
    where
      loads : said.load ≡ Some rules → IfSome said.load (λ n. load_text rules ≡ load_text n)
      loads e = subst (λ (o : Option ℕ). IfSome o (λ n. load_text rules ≡ load_text n)) (sym e) refl
  run_load rules old new out after (Err s) is h =
      such_some p (Unit {0}) (IsRunText m p said step.Load old new (Err s)) (IsCut (Err s)) out after (load_text rules) h.1 (loads is) h.0
    where
      loads : said.load ≡ Some rules → IfSome said.load (λ n. load_text rules ≡ load_text n)
      loads e = subst (λ (o : Option ℕ). IfSome o (λ n. load_text rules ≡ load_text n)) (sym e) refl

  ends_as : (at : Step) (old new : W) (s : Stop) (report : Report) (P : List ℕ → Type 0) (Q : List ℕ → Type 0) (out after : O) → ((text : List ℕ) → P text → Q text) → (IsCutBy s → IsCutShort report)
      → PrintsSuch p (Surely m said at new) P (IsCutBy s) out after → PrintsSuch p (Surely m said at new) Q (IsCutShort report) out after
  ends_as at old new s report P Q out after by cut h = such_weaker p (Surely m said at new) (Surely m said at new) P Q (IsCutBy s) (IsCutShort report) out after (λ so. so) (λ so. by) cut h

  built_ended : (old new : W) (s : Stop) (report : Report) (text : List ℕ) → (IsCutBy s → IsCutShort report)
      → IsBehindText said (λ g requests rest. IsServedText m p said step.Building g requests old new (Err s) rest) text
      → IsBehindText said (λ g requests rest. IsServedText m p said step.Building g requests old new (Ok report) rest) text
  built_ended old new s report text cut h = record {
    opening = h.opening;
    opens = h.opens;
    defaults = h.defaults;
    graph = h.graph;
    requests = h.requests;
    words = h.words;
    nodes = h.nodes;
    rest = h.rest;
    is = inr (cut h.is.0, h.is.1);
    whole = h.whole;
  }

  list_ended : (old new : W) (s : Stop) (report : Report) (text : List ℕ) → (IsCutBy s → IsCutShort report)
      → IsBehindText said (λ g requests rest. IsServedText m p said step.Listing g requests old new (Err s) rest) text
      → IsBehindText said (λ g requests rest. IsServedText m p said step.Listing g requests old new (Ok report) rest) text
  list_ended old new s report text cut h = record {
    opening = h.opening;
    opens = h.opens;
    defaults = h.defaults;
    graph = h.graph;
    requests = h.requests;
    words = h.words;
    nodes = h.nodes;
    rest = h.rest;
    is = inr (inr (cut h.is.0, h.is.1));
    whole = h.whole;
  }

  store_ended : (old new : W) (s : Stop) (report : Report) (text : List ℕ)
      → IsBehindText said (λ g requests rest. IsServedText m p said step.Store g requests old new (Err s) rest) text
      → IsBehindText said (λ g requests rest. IsServedText m p said step.Store g requests old new (Ok report) rest) text
  store_ended old new s report text h = record {
    opening = h.opening;
    opens = h.opens;
    defaults = h.defaults;
    graph = h.graph;
    requests = h.requests;
    words = h.words;
    nodes = h.nodes;
    rest = h.rest;
    is = h.is;
    whole = h.whole;
  }

  pub stopped_ended : (cut short : Type 0) (g : RuleGraph) (requests : List Request) (around : Around) (text : List ℕ) → (cut → short) → IsCleanStopped cut said g requests around text
      → IsCleanStopped short said g requests around text
  stopped_ended cut short g requests around text so (inl h) = inl (so h.0, h.1)
  stopped_ended cut short g requests around text so (inr (inl h)) = inr (inl h)
  stopped_ended cut short g requests around text so (inr (inr h)) = inr (inr (so h.0, h.1))

  clean_ended : (old new : W) (s : Stop) (report : Report) (text : List ℕ) → (report.status ≢ 0) → (IsCutBy s → IsCutShort report)
      → IsBehindText said (λ g requests rest. IsServedText m p said step.Cleaning g requests old new (Err s) rest) text
      → IsBehindText said (λ g requests rest. IsServedText m p said step.Cleaning g requests old new (Ok report) rest) text
  clean_ended old new s report text fails cut h = record {
    opening = h.opening;
    opens = h.opens;
    defaults = h.defaults;
    graph = h.graph;
    requests = h.requests;
    words = h.words;
    nodes = h.nodes;
    rest = h.rest;
    is = inr (fails, stopped_ended (IsCutBy s) (IsCutShort report) h.graph h.requests (m.around old) h.rest cut h.is);
    whole = h.whole;
  }

  pub run_ended : (at : Step) (old new : W) (out after : O) (s : Stop) (report : Report) → (report.status ≢ 0) → (IsCutBy s → IsCutShort report) → RunPrints m p said at old out new after (Err s)
      → RunPrints m p said at old out new after (Ok report)
  run_ended step.Words old new out after s report fails cut h = ends_as step.Words old new s report _ _ out after (λ text is. is) cut h
  run_ended step.Load old new out after s report fails cut h = ends_as step.Load old new s report _ _ out after (λ text is. is) cut h
  run_ended step.Top old new out after s report fails cut h = ends_as step.Top old new s report _ _ out after (λ text is. is) cut h
  run_ended step.Reading old new out after s report fails cut h = ends_as step.Reading old new s report _ _ out after (λ text is. is) cut h
  run_ended step.Help old new out after s report fails cut h = ends_as step.Help old new s report _ _ out after (λ text is. is) cut h
  run_ended step.Requests old new out after s report fails cut h = ends_as step.Requests old new s report _ _ out after (λ text is. is) cut h
  run_ended step.Cleaning old new out after s report fails cut h =
      ends_as step.Cleaning old new s report _ _ out after (λ text is. clean_ended old new s report text fails cut is) cut h
  run_ended step.Listing old new out after s report fails cut h = ends_as step.Listing old new s report _ _ out after (λ text is. list_ended old new s report text cut is) cut h
  run_ended step.Store old new out after s report fails cut h = ends_as step.Store old new s report _ _ out after (λ text is. store_ended old new s report text is) cut h
  run_ended step.Building old new out after s report fails cut h = ends_as step.Building old new s report _ _ out after (λ text is. built_ended old new s report text cut is) cut h

-- the step that is reported
pub run_at : {W O : Type 0} (m : Meaning W) (p : SinkMeaning O) (said : Words) (reported at : Step) (old new : W) (out after : O) (r : Result Report Stop) → reported ≡ at
    → RunPrints m p said at old out new after r → RunPrints m p said reported old out new after r
run_at m p said reported at old new out after r is h = subst (λ (x : Step). RunPrints m p said x old out new after r) (sym is) h

-- a stop that cuts a run short is reported so

cut_build : (f : BuildFault) (report : Report) → (report.status ≢ 3 → IsTold (stop.Build f) report.faults) → IsCutBy (stop.Build f) → IsCutShort report
cut_build (fault.Missing node target) report told cut = absurd cut
cut_build (fault.Cycle paths) report told cut = absurd cut
cut_build (fault.ActionFailed target code) report told cut = absurd cut
cut_build (fault.TreeFault path) report told cut = absurd cut
cut_build (fault.StartFault target) report told cut = absurd cut
cut_build fault.StoreFault report told cut = absurd cut
cut_build fault.OutFault report told cut = told
cut_build (fault.TooLarge path size) report told cut = absurd cut
cut_build (fault.TooMany what count) report told cut = absurd cut

pub cut_ended : (s : Stop) (report : Report) → (report.status ≢ 3 → IsTold s report.faults) → IsCutBy s → IsCutShort report
cut_ended (stop.Fault f) report told cut = absurd cut
cut_ended (stop.Build f) report told cut = cut_build f report told cut
cut_ended stop.Memory report told cut = λ ne. absurd (told ne)

-- a list

module _ {W O : Type 0} (m : Meaning W) (p : SinkMeaning O) (said : Words) (g : RuleGraph) (requests : List Request) (old new : W) (out between after : O) where
  pub serve_unlisted : (r : Result Report Stop) (s : Stop) → IsErrAnd r (λ x. x ≡ s) → IsCutBy s → PrintsSome p out after (progress said building_text)
      → ServePrints m p said step.Listing g requests old out new after r
  serve_unlisted (Ok value) s is cut h = absurd is
  serve_unlisted (Err x) s is cut h =
      let short = subst IsCutBy (sym is) cut in
      such_some p (Unit {0}) (IsServedText m p said step.Listing g requests old new (Err x)) (IsCutBy x) out after (progress said building_text) h (short, inl refl) short

  -- for want of memory there is no list
  pub serve_wanting : Printed p out after (progress said building_text) → ServePrints m p said step.Listing g requests old out new after (Err stop.Memory)
  serve_wanting h =
      such_some p (Unit {0}) (IsServedText m p said step.Listing g requests old new (Err stop.Memory)) (Unit {0}) out after (progress said building_text)
      (some_all p out after (progress said building_text) h) (tt, inl refl) tt

  pub serve_listed : (grown : RuleGraph) (rules : List RuleId) (r : Result Report Stop) → IfOk r (λ report. report.faults ≡ []) → Printed p out between (progress said building_text)
      → PrintsUpTo p (list_text said grown requests rules) between after r
      → (m.tells new → ListsDry g grown said.hash (image_in (m.seen old)) (m.around old) (nodes_asked requests) rules) → ServePrints m p said step.Listing g requests old out new after r
  serve_listed grown rules (Ok report) none one h lists =
      let text = progress said building_text ++ list_text said grown requests rules in
      such_whole p (Unit {0}) (IsServedText m p said step.Listing g requests old new (Ok report)) (IsCutShort report) out after text
      (printed_then p out between after (progress said building_text) (list_text said grown requests rules) one h)
      (inl (none, record { grown = grown; rules = rules; lists = lists; whole = refl }))
  serve_listed grown rules (Err s) none one h lists =
      let text = progress said building_text ++ list_text said grown requests rules in
      such_some p (Unit {0}) (IsServedText m p said step.Listing g requests old new (Err s)) (IsCutBy s) out after text
      (some_behind p out between after (progress said building_text) (list_text said grown requests rules) one h.1)
      (h.0, inr (record { grown = grown; rules = rules; lists = lists; whole = refl })) h.0

  pub serve_faulty : (f : BuildFault) (r : Result Report Stop) → Printed p out between (progress said building_text) → FaultPrints p said f between after r
      → ServePrints m p said step.Listing g requests old out new after r
  serve_faulty f (Ok report) one h =
      such_joined p (Unit {0}) (Unit {0}) (λ t. t ≡ progress said building_text) (λ t. t ≡ progress said (closing_text said (f ∷ []))) (IsServedText m p said step.Listing g requests old new (Ok report))
      (IsCutShort report) out between after (λ u. u)
      (λ first second is same. inr (inl (record { fault = f; told = h.1; whole = ap (λ x. x ++ second) is ∙ ap (λ x. progress said building_text ++ x) same })))
      (such_whole p (Unit {0}) (λ t. t ≡ progress said building_text) ⊥ out between (progress said building_text) one refl) h.0
  serve_faulty f (Err s) one h =
      such_some p (Unit {0}) (IsServedText m p said step.Listing g requests old new (Err s)) (IsCutBy s) out after (progress said building_text)
      (some_all p out after (progress said building_text) (subst (λ x. Printed p out x (progress said building_text)) (sym h.1) one)) (h.0, inl refl) h.0

-- the last line behind the fault of a list

contains_told : (found : List BuildFault) (f : BuildFault) (written : Result (Unit {0}) Stop) (faults : List Top) → ClosesWith found written faults → Contains found f → Contains faults (top_of f)
contains_told found f (Ok value) faults is has = subst (λ (fs : List Top). Contains fs (top_of f)) (sym is) (in_tops found f has)
contains_told found f (Err s) faults is has =
    subst (λ (fs : List Top). Contains fs (top_of f)) (sym is) (Contains-append_left (map top_of found) (top.OutFault ∷ []) (top_of f) (in_tops found f has))

-- each fault of a build is in the report that is closed with them
pub all_told : (found : List BuildFault) (written : Result (Unit {0}) Stop) (faults : List Top) → ClosesWith found written faults → All (λ f. Contains faults (top_of f)) found
all_told found written faults closes =
    All-weaker (Contains found) (λ (f : BuildFault). Contains faults (top_of f)) (λ f has. contains_told found f written faults closes has) found (All-contains_itself found)

pub none_left : (found : List BuildFault) (faults : List Top) → found ≡ [] → All (λ f. Contains faults (top_of f)) found
none_left found faults is = subst (λ (fs : List BuildFault). All (λ f. Contains faults (top_of f)) fs) (sym is) (All-nil (λ (f : BuildFault). Contains faults (top_of f)))

found_in : (f : BuildFault) (none one found : List BuildFault) (printed : Result (Unit {0}) Fault) (lost : Bool) → one ≡ none ++ f ∷ [] → AddsUnprinted printed one found lost → lost ≡ false → Contains found f
found_in f none one found (Ok value) lost pushed adds kept = subst (λ (fs : List BuildFault). Contains fs f) (sym (adds.0 ∙ pushed)) (Contains-push none f)
found_in f none one found (Err refused) lost pushed adds kept =
    subst (λ (fs : List BuildFault). Contains fs f) (sym (adds.0 kept)) (Contains-append_left one (fault.OutFault ∷ []) f (subst (λ (fs : List BuildFault). Contains fs f) (sym pushed) (Contains-push none f)))

pub fault_prints : {O : Type 0} (p : SinkMeaning O) (said : Words) (f : BuildFault) (none one slice found : List BuildFault) (printed : Result (Unit {0}) Fault) (lost : Bool) (out after : O)
    (written : Result (Unit {0}) Stop) (report : Report) → none ≡ [] → one ≡ none ++ f ∷ [] → slice ≡ one → AddsUnprinted printed one found lost → PrintsUpTo p (progress said (closing_text said slice)) out after written
    → (report.status ≢ 3 → lost ≡ false) → (report.status ≢ 3 → ClosesWith found written report.faults) → FaultPrints p said f out after (Ok report)
fault_prints p said f none one slice found printed lost out after written report is pushed same adds prints kept closes =
    let line = same ∙ pushed ∙ ap (λ (fs : List BuildFault). fs ++ f ∷ []) is in (
      by written (subst (λ (fs : List BuildFault). PrintsUpTo p (progress said (closing_text said fs)) out after written) line prints) closes,
      λ ne. contains_told found f written report.faults (closes ne) (found_in f none one found printed lost pushed adds (kept ne)),
    )
  where
    by : (written : Result (Unit {0}) Stop) → PrintsUpTo p (progress said (closing_text said (f ∷ []))) out after written → (report.status ≢ 3 → ClosesWith found written report.faults)
        → PrintsSuch p (Unit {0}) (λ text. text ≡ progress said (closing_text said (f ∷ []))) (IsCutShort report) out after
    by (Ok value) h closes = such_whole p (Unit {0}) (λ text. text ≡ progress said (closing_text said (f ∷ []))) (IsCutShort report) out after (progress said (closing_text said (f ∷ []))) h refl
    by (Err s) h closes =
        such_some p (Unit {0}) (λ text. text ≡ progress said (closing_text said (f ∷ []))) (IsCutShort report) out after (progress said (closing_text said (f ∷ []))) h.1 refl (cut_unwritten found s report closes)

pub fault_memory : {O : Type 0} (p : SinkMeaning O) (said : Words) (f : BuildFault) (out : O) (r : Result Report Stop) → IsErrAnd r (λ s. s ≡ stop.Memory) → FaultPrints p said f out out r
fault_memory p said f out (Ok report) is = absurd is
fault_memory p said f out (Err s) is = (subst IsCutBy (sym is) tt, refl)

-- what a sink told before it tells behind such a last line
pub fault_told : {O : Type 0} (p : SinkMeaning O) (said : Words) (f : BuildFault) (out after : O) (r : Result Report Stop) → FaultPrints p said f out after r → p.tells after → p.tells out
fault_told p said f out after (Ok report) h = h.0.told
fault_told p said f out after (Err s) h = λ t. subst p.tells h.1 t

-- cleaning

module _ {W O : Type 0} (m : Meaning W) (p : SinkMeaning O) (said : Words) (g : RuleGraph) (requests : List Request) (old new : W) (out : O) where
  pub serve_unclean : (after : O) (r : Result Report Stop) (s : Stop) → IsErrAnd r (λ x. x ≡ s) → IsCutBy s → PrintsSome p out after (progress said cleaning_text)
      → ServePrints m p said step.Cleaning g requests old out new after r
  serve_unclean after (Ok value) s is cut h = absurd is
  serve_unclean after (Err x) s is cut h =
      let short = subst IsCutBy (sym is) cut in
      such_some p (m.tells new) (IsServedText m p said step.Cleaning g requests old new (Err x)) (IsCutBy x) out after (progress said cleaning_text) h (inl (short, refl)) short

  begun : (mid : O) → Printed p out mid (progress said cleaning_text) → PrintsSuch p (m.tells new) (λ t. t ≡ progress said cleaning_text) ⊥ out mid
  begun mid h = such_whole p (m.tells new) (λ t. t ≡ progress said cleaning_text) ⊥ out mid (progress said cleaning_text) h refl

  pub serve_removing : (mid after : O) (list : List RuleId) (r : Result Report Stop) (s : Stop) → IsCleanList g (nodes_asked requests) list → Printed p out mid (progress said cleaning_text) → IsErrAnd r (λ x. x ≡ s)
      → PrintsSuch p (m.tells new) (IsRemovedFront said (there_in (m.around old)) (targets_of (rules_numbered g list))) (IsCutBy s) mid after → ServePrints m p said step.Cleaning g requests old out new after r
  serve_removing mid after list (Ok value) s listed one is h = absurd is
  serve_removing mid after list (Err x) s listed one is h =
      such_joined p (m.tells new) (m.tells new) (λ t. t ≡ progress said cleaning_text) (IsRemovedFront said (there_in (m.around old)) (targets_of (rules_numbered g list)))
      (IsServedText m p said step.Cleaning g requests old new (Err x)) (IsCutBy x) out mid after (λ t. t)
      (λ first second same front. inr (inl (record { list = list; is = listed; lines = second; removed = front; whole = ap (λ l. l ++ second) same })))
      (begun mid one)
      (subst (λ (stop : Stop). PrintsSuch p (m.tells new) (IsRemovedFront said (there_in (m.around old)) (targets_of (rules_numbered g list))) (IsCutBy stop) mid after) (sym is) h)

  module _ (mid between after : O) (list : List RuleId) (listed : IsCleanList g (nodes_asked requests) list) (one : Printed p out mid (progress said cleaning_text))
      (h : PrintsSuch p (m.tells new) (λ t. t ≡ removed_texts said (there_in (m.around old)) (targets_of (rules_numbered g list))) ⊥ mid between) where
    abbrev lines : List ℕ
    lines = removed_texts said (there_in (m.around old)) (targets_of (rules_numbered g list))

    gone : PrintsSuch p (m.tells new) (λ t. t ≡ progress said cleaning_text ++ lines) ⊥ out between
    gone =
        such_joined p (m.tells new) (m.tells new) (λ t. t ≡ progress said cleaning_text) (λ t. t ≡ lines) (λ t. t ≡ progress said cleaning_text ++ lines) ⊥ out mid between (λ t. t)
        (λ first second same is. ap (λ l. l ++ second) same ∙ ap (λ l. progress said cleaning_text ++ l) is) (begun mid one) h

    whole : (first second : List ℕ) → first ≡ progress said cleaning_text ++ lines → second ≡ progress said cleaned_text → IsCleanedText said g requests (m.around old) (first ++ second)
    whole first second same is = record { list = list; is = listed; whole = ap (λ l. l ++ second) same ∙ ap (λ l. (progress said cleaning_text ++ lines) ++ l) is }

    pub serve_cleaned : (report : Report) → Printed p between after (progress said cleaned_text) → ServePrints m p said step.Cleaning g requests old out new after (Ok report)
    serve_cleaned report last =
        such_joined p (m.tells new) (m.tells new) (λ t. t ≡ progress said cleaning_text ++ lines) (λ t. t ≡ progress said cleaned_text) (IsServedText m p said step.Cleaning g requests old new (Ok report))
        (IsCutShort report) out between after (λ t. t) (λ first second same is. inl (whole first second same is)) gone
        (such_whole p (m.tells new) (λ t. t ≡ progress said cleaned_text) (IsCutShort report) between after (progress said cleaned_text) last refl)

    pub serve_nearly : (r : Result Report Stop) (s : Stop) → IsErrAnd r (λ x. x ≡ s) → IsCutBy s → PrintsSome p between after (progress said cleaned_text) → ServePrints m p said step.Cleaning g requests old out new after r
    serve_nearly (Ok value) s is cut last = absurd is
    serve_nearly (Err x) s is cut last =
        let short = subst IsCutBy (sym is) cut in
        such_joined p (m.tells new) (m.tells new) (λ t. t ≡ progress said cleaning_text ++ lines) (λ t. t ≡ progress said cleaned_text) (IsServedText m p said step.Cleaning g requests old new (Err x))
        (IsCutBy x) out between after (λ t. t) (λ first second same is. inr (inr (short, whole first second same is))) gone
        (such_some p (m.tells new) (λ t. t ≡ progress said cleaned_text) (IsCutBy x) between after (progress said cleaned_text) last refl short)
