-- What stands printed of the trees of requests, and of what stands before and behind them.
use Rattle.std.proofs.Common.{◌≡◌, ◌≢◌, ◌∙◌, ◌⊎◌, ◌<◌, ◌+◌, inl, inr, sym, subst, refl, ap, ℕ, Bool, true, false, List, [], ◌∷◌, ◌++◌, Contains, length, get_or, take, drop}
use Rattle.std.specs.Prelude.{◌==◌, Result, Ok, Err, IsErrAnd}
use Rattle.std.proofs.lemmas.List.{take_more, take-append-drop}
use Rattle.scons_base.specs.declared.ids.RuleId.{RuleId}
use Rattle.world_api.specs.Around.{Around}
use Rattle.world_api.specs.Looks.{Looks}
use Rattle.world_api.specs.Meaning.{Meaning}
use Rattle.world_api.specs.Printed.{SinkMeaning}
use Rattle.world_api.specs.Printing.{PrintsSome}
use Rattle.rule_graph.specs.Graphs.{RuleGraph}
use Rattle.rule_graph.specs.Rules.{are_below}
use Rattle.rule_graph.specs.declared.build_fault.BuildFault.{BuildFault}
use Rattle.rule_graph.specs.declared.build_fault.BuildFault.TheVariants as fault
use Rattle.build_means.specs.Grown.{Begun}
use Rattle.report_texts.specs.Texts.{done_text}
use Rattle.scons_report.specs.Asked.{children_asked}
use Rattle.scons_report.specs.Built.{IsBehind, IsShownBy, ShownTree}
use Rattle.scons_report.specs.Trees.{shown_in, tree_text}
use Rattle.scons_report.specs.Walks.{PrintsTree}
use Rattle.scons_report.specs.declared.tree_end.TreeEnd.{TreeEnd}
use Rattle.scons_report.specs.declared.tree_end.TreeEnd.TheVariants as end
use Rattle.scons_words.specs.declared.words.Words.{Words}
use Rattle.scons_top.specs.declared.report.Report.{Report}
use Rattle.scons_top.specs.declared.requests.Request.{Request}
use Rattle.scons_top.specs.declared.stop.Stop.{Stop}
use Rattle.scons_top.specs.declared.stop.Stop.TheVariants as stop
use Rattle.scons_top.specs.Printed.{FaultPrints}
use Rattle.scons_top.specs.RunLines.{closing_text, progress, requests_text}
use Rattle.scons_top.specs.Sinks.{Printed, PrintsSuch, PrintsUpTo, IsPrintedOf, IsCut, IsCutBy, IsCutShort}
use Rattle.scons_top.specs.Trees.{IsTree, AreTrees, AreFrontTrees, IsTreesText, IsTreesFront, IsTreesFaulty, IsTreesCut, IsTreesEnding, IsCutTree, PrintsTreeOf, PrintsTreesOf, TreesPrint}
use Rattle.scons_top.specs.Trees.AreTrees.{no_tree, one_more}
use Rattle.scons_top.proofs.Building.{around_asked}
use Rattle.scons_top.proofs.Printing.{of_joined, printed_by, printed_none, some_by, some_more, such_joined, such_some, such_weaker, such_whole}

-- one tree

module _ {W O : Type 0} (m : Meaning W) (p : SinkMeaning O) (declared : ℕ) where
  abbrev text_by : {T : Type 0} (request : Request) (g h : RuleGraph) (w v : W) (b c : O) (r : Result T TreeEnd)
      → ShownTree m p g h declared request.word request.nodes.items request.is_node w v b c r → List ℕ
  text_by request g h w v b c r shown = tree_text (shown_in h shown.tree.plan) request.word (children_asked h shown.tree.plan request.is_node request.nodes.items)

  is_tree : {T : Type 0} (request : Request) (g h : RuleGraph) (start : Around) (w v : W) (b c : O) (r : Result T TreeEnd) → m.around w ≡ start → m.tells v
      → (shown : ShownTree m p g h declared request.word request.nodes.items request.is_node w v b c r) → IsTree declared start g h request (text_by request g h w v b c r shown)
  is_tree request g h start w v b c r same t shown = record {
    plan = shown.tree.plan;
    idle = shown.tree.idle;
    shows = subst (λ (x : Around). are_below (length g.nodes) request.nodes.items ≡ true → (b : Begun) → IsBehind b g declared x → IsShownBy b x.tree h request.nodes.items shown.tree.plan)
        same (shown.plans t);
    whole = refl;
  }

  -- what a sink told before it tells behind a tree that is printed, maybe not to its end
  told_cut : (T : Type 0) (text : List ℕ) (b c : O) (e : TreeEnd) → PrintsTree {T = T} p text b c (Err e) → p.tells c → p.tells b
  told_cut T text b c (end.Fault (fault.Missing node target)) h = absurd h
  told_cut T text b c (end.Fault (fault.Cycle paths)) h = absurd h
  told_cut T text b c (end.Fault (fault.ActionFailed target code)) h = absurd h
  told_cut T text b c (end.Fault (fault.TreeFault path)) h = absurd h
  told_cut T text b c (end.Fault (fault.StartFault target)) h = absurd h
  told_cut T text b c (end.Fault fault.StoreFault) h = absurd h
  told_cut T text b c (end.Fault fault.OutFault) h = h.told
  told_cut T text b c (end.Fault (fault.TooLarge path size)) h = absurd h
  told_cut T text b c (end.Fault (fault.TooMany what count)) h = absurd h
  told_cut T text b c end.Memory h = h.told

  -- a front of it is printed, and it is cut
  cut_of : (T : Type 0) (P : List ℕ → Type 0) (text : List ℕ) (b c : O) (e : TreeEnd) → PrintsTree {T = T} p text b c (Err e) → p.tells c → P text → IsPrintedOf p P (IsCutTree e) b c
  cut_of T P text b c (end.Fault (fault.Missing node target)) h t is = absurd h
  cut_of T P text b c (end.Fault (fault.Cycle paths)) h t is = absurd h
  cut_of T P text b c (end.Fault (fault.ActionFailed target code)) h t is = absurd h
  cut_of T P text b c (end.Fault (fault.TreeFault path)) h t is = absurd h
  cut_of T P text b c (end.Fault (fault.StartFault target)) h t is = absurd h
  cut_of T P text b c (end.Fault fault.StoreFault) h t is = absurd h
  cut_of T P text b c (end.Fault fault.OutFault) h t is = record { text = text; is = is; printed = inr (tt, h.printed t) }
  cut_of T P text b c (end.Fault (fault.TooLarge path size)) h t is = absurd h
  cut_of T P text b c (end.Fault (fault.TooMany what count)) h t is = absurd h
  cut_of T P text b c end.Memory h t is = record { text = text; is = is; printed = inr (tt, h.printed t) }

  -- one after another

  pub trees_none : (g : RuleGraph) (start : Around) (where_so : Type 0) (a : O) → PrintsSuch p where_so (AreTrees declared start g g []) ⊥ a a
  trees_none g start where_so a = such_whole p where_so (AreTrees declared start g g []) ⊥ a a [] (printed_none p a) no_tree

  module _ (requests : List Request) (i : ℕ) (request : Request) (lt : i < length requests) (at : request ≡ get_or requests i request) (g g1 g2 : RuleGraph) (w0 w1 w2 : W) (a b c : O)
      (first : Looks m w0 w1) (next : Looks m w1 w2) (idle : m.tells w0 → (m.around w0).running ≡ [])
      (before : PrintsSuch p (m.tells w1) (AreTrees declared (m.around w0) g g1 (take i requests)) ⊥ a b) where
    stays : m.tells w1 → m.around w1 ≡ m.around w0
    stays t = around_asked (m.around w0) (m.around w1) (idle (first.told.told t)) (first.around t)

    with_next : take i requests ++ request ∷ [] ≡ take (i + 1) requests
    with_next = ap (λ (r : Request). take i requests ++ r ∷ []) at ∙ sym (take_more requests i request lt)

    joined : (text tree : List ℕ) → AreTrees declared (m.around w0) g g1 (take i requests) text → IsTree declared (m.around w0) g1 g2 request tree
        → AreTrees declared (m.around w0) g g2 (take (i + 1) requests) (text ++ tree)
    joined text tree trees is = subst (λ (rs : List Request). AreTrees declared (m.around w0) g g2 rs (text ++ tree)) with_next (one_more request trees is)

    pub trees_next : {T : Type 0} (value : T) → PrintsTreeOf m p declared request g1 w1 b g2 w2 c (Ok value)
        → PrintsSuch p (m.tells w2) (AreTrees declared (m.around w0) g g2 (take (i + 1) requests)) ⊥ a c
    trees_next value shown = record {
      told = λ t. before.told (shown.tree.prints.told t);
      such = λ so t.
          let here = next.told.told so in
          let one = before.such here (shown.tree.prints.told t) in
          let tree : IsPrintedOf p (IsTree declared (m.around w0) g1 g2 request) ⊥ b c =
          record {
            text = text_by request g1 g2 w1 w2 b c (Ok value) shown;
            is = is_tree request g1 g2 (m.around w0) w1 w2 b c (Ok value) (stays here) so shown;
            printed = inl (shown.tree.prints.printed t);
          } in
          of_joined p (AreTrees declared (m.around w0) g g1 (take i requests)) (IsTree declared (m.around w0) g1 g2 request) (AreTrees declared (m.around w0) g g2 (take (i + 1) requests)) ⊥ a b c
          joined one tree;
    }

    in_front : (n : ℕ) (h : RuleGraph) (text : List ℕ) → AreTrees declared (m.around w0) g h (take n requests) text → AreFrontTrees declared (m.around w0) g requests text
    in_front n h text trees = record { grown = h; front = take n requests; back = drop n requests; parts = sym (take-append-drop n requests); trees = trees }

    -- where the next one isn't printed to its end
    trees_cut : {T : Type 0} (e : TreeEnd) → PrintsTreeOf {T = T} m p declared request g1 w1 b g2 w2 c (Err e)
        → PrintsSuch p (m.tells w2) (AreFrontTrees declared (m.around w0) g requests) (IsCutTree e) a c
    trees_cut {T} e (inl shown) = record {
      told = λ t. before.told (told_cut T _ b c e shown.tree.prints t);
      such = λ so t.
          let here = next.told.told so in
          let one = before.such here (told_cut T _ b c e shown.tree.prints t) in
          let tree = cut_of T (IsTree declared (m.around w0) g1 g2 request) (text_by request g1 g2 w1 w2 b c (Err e) shown) b c e shown.tree.prints t
          (is_tree {T = T} request g1 g2 (m.around w0) w1 w2 b c (Err e) (stays here) so shown) in
          of_joined p (AreTrees declared (m.around w0) g g1 (take i requests)) (IsTree declared (m.around w0) g1 g2 request) (AreFrontTrees declared (m.around w0) g requests) (IsCutTree e) a b c
          (λ text tree trees is. in_front (i + 1) g2 (text ++ tree) (joined text tree trees is)) one tree;
    }
    trees_cut e (inr same) =
        subst (λ (x : O). PrintsSuch p (m.tells w2) (AreFrontTrees declared (m.around w0) g requests) (IsCutTree e) a x) (sym same)
        (such_weaker p (m.tells w1) (m.tells w2) (AreTrees declared (m.around w0) g g1 (take i requests)) (AreFrontTrees declared (m.around w0) g requests) ⊥ (IsCutTree e) a b
        next.told.told (λ so text trees. in_front i g1 text trees) (λ no. absurd no) before)

    pub trees_exit : {T U : Type 0} (r : Result T TreeEnd) (e : TreeEnd) (h : RuleGraph) → IsErrAnd r (λ s. s ≡ e) → PrintsTreeOf {T = U} m p declared request g1 w1 b g2 w2 c (Err e)
        → PrintsTreesOf m p declared requests g w0 a h w2 c r
    trees_exit (Ok value) e h is cut = absurd is
    trees_exit {U = U} (Err s) e h is cut = subst (λ (x : TreeEnd). PrintsSuch p (m.tells w2) (AreFrontTrees declared (m.around w0) g requests) (IsCutTree x) a c) (sym is) (trees_cut {T = U} e cut)

-- with what stands before and behind them

not_cut : (f : BuildFault) → f ≢ fault.OutFault → IsCutTree (end.Fault f) → ⊥
not_cut (fault.Missing node target) not cut = absurd cut
not_cut (fault.Cycle paths) not cut = absurd cut
not_cut (fault.ActionFailed target code) not cut = absurd cut
not_cut (fault.TreeFault path) not cut = absurd cut
not_cut (fault.StartFault target) not cut = absurd cut
not_cut fault.StoreFault not cut = absurd cut
not_cut fault.OutFault not cut = not refl
not_cut (fault.TooLarge path size) not cut = absurd cut
not_cut (fault.TooMany what count) not cut = absurd cut

module _ {W O : Type 0} (m : Meaning W) (p : SinkMeaning O) (said : Words) (declared : ℕ) (g : RuleGraph) (requests : List Request) (started : List RuleId) (old : W) (a : O) where
  abbrev asked : List ℕ
  asked = requests_text said g started requests

  abbrev Ending : Result Report Stop → List ℕ → Type 0
  Ending r = IsTreesEnding said declared (m.around old) g requests started r

  abbrev Front : List ℕ → Type 0
  Front = IsTreesFront said declared (m.around old) g requests started

  abbrev Whole : List ℕ → Type 0
  Whole = IsTreesText said declared (m.around old) g requests started

  -- before the first tree
  pub trees_unasked : (new : W) (b : O) (r : Result Report Stop) (s : Stop) → IsErrAnd r (λ x. x ≡ s) → IsCutBy s → PrintsSome p a b asked → TreesPrint m p said declared g requests started old a new b r
  trees_unasked new b (Ok report) s is cut h = absurd is
  trees_unasked new b (Err x) s is cut h =
      let short = subst IsCutBy (sym is) cut in
      such_some p (m.tells new) (Ending (Err x)) (IsCutBy x) a b (asked ++ []) (some_more p a b asked [] h)
      (short, inl (record { trees = []; are = record { grown = g; front = []; back = requests; parts = refl; trees = no_tree }; whole = refl })) short

  module _ (new : W) (b c : O) (one : Printed p a b asked) where
    begun : PrintsSuch p (Unit {0}) (λ t. t ≡ asked) ⊥ a b
    begun = such_whole p (Unit {0}) (λ t. t ≡ asked) ⊥ a b asked one refl

    with_front : (cut : Type 0) → PrintsSuch p (m.tells new) (AreFrontTrees declared (m.around old) g requests) cut b c → PrintsSuch p (m.tells new) Front cut a c
    with_front cut h =
        such_joined p (Unit {0}) (m.tells new) (λ t. t ≡ asked) (AreFrontTrees declared (m.around old) g requests) Front cut a b c (λ t. tt)
        (λ first second is are. record { trees = second; are = are; whole = ap (λ x. x ++ second) is }) begun h

    -- standard output refused, or memory was wanting, at one of them
    pub trees_lost : (e : TreeEnd) (s : Stop) → (IsCutTree e → IsCutBy s) → IsCutBy s → PrintsSuch p (m.tells new) (AreFrontTrees declared (m.around old) g requests) (IsCutTree e) b c
        → TreesPrint m p said declared g requests started old a new c (Err s)
    trees_lost e s by cut h =
        such_weaker p (m.tells new) (m.tells new) Front (Ending (Err s)) (IsCutTree e) (IsCutBy s) a c (λ t. t) (λ t text front. (cut, inl front)) by (with_front (IsCutTree e) h)

    -- a fault of the graph or of the files came at one of them
    pub trees_faulty : (d : O) (f : BuildFault) (r : Result Report Stop) → f ≢ fault.OutFault
        → PrintsSuch p (m.tells new) (AreFrontTrees declared (m.around old) g requests) (IsCutTree (end.Fault f)) b c → FaultPrints p said f c d r
        → TreesPrint m p said declared g requests started old a new d r
    trees_faulty d f (Ok report) not h last =
        let front = such_weaker p (m.tells new) (m.tells new) Front Front (IsCutTree (end.Fault f)) ⊥ a c (λ t. t) (λ t text is. is) (not_cut f not) (with_front (IsCutTree (end.Fault f)) h) in
        such_joined p (m.tells new) (m.tells new) Front (λ t. t ≡ progress said (closing_text said (f ∷ []))) (Ending (Ok report)) (IsCutShort report) a c d (λ t. t)
        (λ first second is same. inr (inl (record { fault = f; told = last.1; front = first; is_front = is; whole = ap (λ x. first ++ x) same })))
        front (such_weaker p (Unit {0}) (m.tells new) (λ t. t ≡ progress said (closing_text said (f ∷ []))) (λ t. t ≡ progress said (closing_text said (f ∷ [])))
        (IsCutShort report) (IsCutShort report) c d (λ t. tt) (λ t text is. is) (λ is. is) last.0)
    trees_faulty d f (Err s) not h last =
        subst (λ (x : O). TreesPrint m p said declared g requests started old a new x (Err s)) (sym last.1)
        (such_weaker p (m.tells new) (m.tells new) Front (Ending (Err s)) (IsCutTree (end.Fault f)) (IsCutBy s) a c (λ t. t) (λ t text front. (last.0, inl front))
        (λ cut. absurd (not_cut f not cut)) (with_front (IsCutTree (end.Fault f)) h))

    module _ (h : RuleGraph) (two : PrintsSuch p (m.tells new) (AreTrees declared (m.around old) g h requests) ⊥ b c) (d : O) where
      abbrev Shown : List ℕ → Type 0
      Shown text = (trees : List ℕ) × AreTrees declared (m.around old) g h requests trees × (text ≡ asked ++ trees)

      all : PrintsSuch p (m.tells new) Shown ⊥ a c
      all =
          such_joined p (Unit {0}) (m.tells new) (λ t. t ≡ asked) (AreTrees declared (m.around old) g h requests) Shown ⊥ a b c (λ t. tt)
          (λ first second is are. (second, are, ap (λ x. x ++ second) is)) begun two

      whole : (first second : List ℕ) → Shown first → second ≡ progress said done_text → Whole (first ++ second)
      whole first second is last = record {
        grown = h;
        trees = is.0;
        are = is.1;
        whole = ap (λ x. x ++ second) is.2 ∙ ap (λ x. (asked ++ is.0) ++ x) last;
      }

      -- all of them stand printed, and the last line
      pub trees_done : (report : Report) → report.faults ≡ [] → Printed p c d (progress said done_text) → TreesPrint m p said declared g requests started old a new d (Ok report)
      trees_done report none last =
          such_joined p (m.tells new) (m.tells new) Shown (λ t. t ≡ progress said done_text) (Ending (Ok report)) (IsCutShort report) a c d (λ t. t)
          (λ first second is same. inl (none, whole first second is same)) all
          (such_whole p (m.tells new) (λ t. t ≡ progress said done_text) (IsCutShort report) c d (progress said done_text) last refl)

      -- or a front of that
      pub trees_nearly : (r : Result Report Stop) (s : Stop) → IsErrAnd r (λ x. x ≡ s) → IsCutBy s → PrintsSome p c d (progress said done_text)
          → TreesPrint m p said declared g requests started old a new d r
      trees_nearly (Ok report) s is cut last = absurd is
      trees_nearly (Err x) s is cut last =
          let short = subst IsCutBy (sym is) cut in
          such_joined p (m.tells new) (m.tells new) Shown (λ t. t ≡ progress said done_text) (Ending (Err x)) (IsCutBy x) a c d (λ t. t)
          (λ first second is same. (short, inr (whole first second is same))) all
          (such_some p (m.tells new) (λ t. t ≡ progress said done_text) (IsCutBy x) c d (progress said done_text) last refl short)

  -- a stop that is reported
  pub trees_ended : (new : W) (d : O) (s : Stop) (report : Report) → (IsCutBy s → IsCutShort report) → TreesPrint m p said declared g requests started old a new d (Err s)
      → TreesPrint m p said declared g requests started old a new d (Ok report)
  trees_ended new d s report by h =
      such_weaker p (m.tells new) (m.tells new) (Ending (Err s)) (Ending (Ok report)) (IsCutBy s) (IsCutShort report) a d (λ t. t) (λ t text is. inr (inr (by is.0, is.1))) by h
