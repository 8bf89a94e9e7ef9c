-- Which lines cleaning prints as it removes files.
use Rattle.std.proofs.Common.{◌≡◌, ◌∙◌, ◌⊎◌, ◌<◌, ◌+◌, inl, inr, sym, subst, refl, ap, ℕ, zero, suc, Bool, true, false, List, [], ◌∷◌, ◌++◌, Option, Some, None, length, get_or, take, drop, append-nil, append_assoc, arith, Contains}
use Rattle.std.specs.Prelude.{◌||◌, All, Result, Ok, Err, IfOk, IsErrAnd, OnOk, not, is_some, if◌then◌else◌, slice_get}
use Rattle.std.specs.Str.{bytes_eq}
use Rattle.std.proofs.lemmas.Bool.{cases_Bool, false≢true}
use Rattle.std.specs.Option.{unwrap_or}
use Rattle.std.proofs.lemmas.List.{map-append, take_more, take-append-drop}
use Rattle.std.proofs.lemmas.List.Elements.{All-head}
use Rattle.scons_base.specs.declared.ids.NodeId.{NodeId}
use Rattle.scons_base.specs.declared.ids.RuleId.{RuleId}
use Rattle.rule_graph.specs.declared.rule.Rule as declared
use Rattle.rule_graph.specs.Graphs.{RuleGraph, path_of}
use Rattle.build_model.specs.Rules.{Rule}
use Rattle.build_model.specs.Needs.{with_rule}
use Rattle.build_means.specs.Rules.{paths_of}
use Rattle.scons_report.specs.Cleaning.{rule_number, rules_numbered}
use Rattle.std.proofs.lemmas.Slice.Eq.{bytes_eq-Decides}
use Rattle.world_api.specs.Around.{Around}
use Rattle.world_api.specs.Meaning.{Meaning}
use Rattle.world_api.specs.Printed.{SinkMeaning}
use Rattle.report_texts.specs.Texts.{removed_text}
use Rattle.scons_words.specs.declared.words.Words.{Words}
use Rattle.scons_top.specs.Cleaned.{targets_of, Cleared, AreRemoved}
use Rattle.scons_top.specs.Printed.{IsRemovedFront, RemovesPrinting, LeavesBy, left_by, there_in}
use Rattle.scons_top.specs.Sinks.{PrintsSuch, PrintsUpTo, IsCutBy}
use Rattle.scons_top.specs.RunLines.{notice, removed_texts, without}
use Rattle.scons_top.specs.Watching.{Watches}
use Rattle.scons_top.specs.declared.stop.Stop.{Stop}
use Rattle.scons_top.proofs.Building.{around_asked}
use Rattle.scons_top.proofs.Clearing.{numbered_some}
use Rattle.scons_top.proofs.Printing.{of_joined, printed_none, such_weaker, such_whole}

-- by where files stand alone

without_same : (said : Words) (t u : List ℕ → Bool) (p : List ℕ) → ((q : List ℕ) → t q ≡ u q) → (q : List ℕ) → without said t p q ≡ without said u p q
without_same said t u p same q = ap (λ b. if said.dry || not (bytes_eq p q) then b else false) (same q)

removed_same : (said : Words) (t u : List ℕ → Bool) (paths : List (List ℕ)) → ((q : List ℕ) → t q ≡ u q) → removed_texts said t paths ≡ removed_texts said u paths
removed_same said t u [] same = refl
removed_same said t u (p ∷ paths) same =
    ap (λ b. (if b then notice said (removed_text p) else []) ++ removed_texts said (without said t p) paths) (same p)
    ∙ ap (λ l. (if u p then notice said (removed_text p) else []) ++ l) (removed_same said (without said t p) (without said u p) paths (without_same said t u p same))

left_same : (said : Words) (t u : List ℕ → Bool) (paths : List (List ℕ)) → ((q : List ℕ) → t q ≡ u q) → (q : List ℕ) → left_by said t paths q ≡ left_by said u paths q
left_same said t u [] same q = same q
left_same said t u (p ∷ paths) same q = left_same said (without said t p) (without said u p) paths (without_same said t u p same) q

removed_append : (said : Words) (t : List ℕ → Bool) (xs ys : List (List ℕ)) → removed_texts said t (xs ++ ys) ≡ removed_texts said t xs ++ removed_texts said (left_by said t xs) ys
removed_append said t [] ys = refl
removed_append said t (x ∷ xs) ys =
    let first = if t x then notice said (removed_text x) else [] in
    ap (λ l. first ++ l) (removed_append said (without said t x) xs ys) ∙ sym (append_assoc first (removed_texts said (without said t x) xs) (removed_texts said (left_by said (without said t x) xs) ys))

left_append : (said : Words) (t : List ℕ → Bool) (xs ys : List (List ℕ)) (q : List ℕ) → left_by said t (xs ++ ys) q ≡ left_by said (left_by said t xs) ys q
left_append said t [] ys q = refl
left_append said t (x ∷ xs) ys q = left_append said (without said t x) xs ys q

-- where files stand behind a removal

left_here : (said : Words) (path : List ℕ) (a b : Around) (q : List ℕ) → (said.dry ≡ true → b ≡ a) → (said.dry ≡ false → b.tree path ≡ None) → ((q : List ℕ) → (Contains (path ∷ []) q → ⊥) → b.tree q ≡ a.tree q)
    → there_in b q ≡ without said (there_in a) path q
left_here said path a b q same gone others = by (cases_Bool said.dry) (cases_Bool (bytes_eq path q))
  where
    kept : (dry eq : Bool) → said.dry ≡ dry → bytes_eq path q ≡ eq → without said (there_in a) path q ≡ (if dry || not eq then there_in a q else false)
    kept dry eq first second = ap (λ b. if b || not (bytes_eq path q) then there_in a q else false) first ∙ ap (λ b. if dry || not b then there_in a q else false) second

    other : bytes_eq path q ≡ false → Contains (path ∷ []) q → ⊥
    other ne (zero, lt, is) = false≢true (sym ne ∙ (bytes_eq-Decides path q).1 is)
    other ne (suc k, lt, is) = let no : suc k < 1 = lt in omega arith

    by : (said.dry ≡ true) ⊎ (said.dry ≡ false) → (bytes_eq path q ≡ true) ⊎ (bytes_eq path q ≡ false) → there_in b q ≡ without said (there_in a) path q
    by (inl dry) eq = ap (λ (x : Around). there_in x q) (same dry) ∙ sym (ap (λ b. if b || not (bytes_eq path q) then there_in a q else false) dry)
    by (inr wet) (inl eq) =
        ap (λ (p : List ℕ). there_in b p) (sym ((bytes_eq-Decides path q).0 eq)) ∙ ap (λ (c : Option (List ℕ)). is_some c) (gone wet) ∙ sym (kept false true wet eq)
    by (inr wet) (inr ne) = ap (λ (c : Option (List ℕ)). is_some c) (others q (other ne)) ∙ sym (kept false false wet ne)

module _ {W : Type 0} (m : Meaning W) (said : Words) where
  pub leaves_one : (path : List ℕ) (old new : W) → (m.tells old → (m.around old).running ≡ []) → (m.tells new → m.tells old) → Cleared m (path ∷ []) old new → AreRemoved m said (path ∷ []) new
      → (said.dry ≡ true → Watches m old new) → LeavesBy m said (path ∷ []) old new
  leaves_one path old new idle told cleared gone dry = λ t q.
      left_here said path (m.around old) (m.around new) q (λ is. around_asked (m.around old) (m.around new) (idle (told t)) ((dry is).looks.around t))
      (λ wet. All-head (λ (p : List ℕ). (m.around new).tree p ≡ None) path [] (gone wet t)) ((cleared t).others)

  pub leaves_here : (world : W) → LeavesBy m said [] world world
  leaves_here world = λ t q. refl

  pub leaves_on : (xs ys : List (List ℕ)) (a b c : W) → (m.tells c → m.tells b) → LeavesBy m said xs a b → LeavesBy m said ys b c → LeavesBy m said (xs ++ ys) a c
  leaves_on xs ys a b c told one two = λ t q.
      two t q ∙ left_same said (there_in (m.around b)) (left_by said (there_in (m.around a)) xs) ys (one (told t)) q ∙ sym (left_append said (there_in (m.around a)) xs ys q)

-- what a look tells before a file is removed

pub then_there : {E : Type 0} (path : List ℕ) (old mid : Around) (stands : Bool) (r : Result Bool E) → mid ≡ old → stands ≡ is_some (mid.tree path) → stands ≡ true → IfOk r (λ taken. taken ≡ true)
    → IfOk r (λ is. is ≡ is_some (old.tree path))
then_there path old mid stands (Ok taken) same at is h = h ∙ sym is ∙ at ∙ ap (λ (x : Around). is_some (x.tree path)) same
then_there path old mid stands (Err e) same at is h = tt

pub on_ok : {T E : Type 0} {P : Type 0} (r : Result T E) → P → OnOk r P
on_ok (Ok value) h = h
on_ok (Err e) h = tt

pub no_value : {T E : Type 0} (P : T → Type 0) (Q : E → Type 0) (r : Result T E) → IsErrAnd r Q → IfOk r P
no_value P Q (Ok value) is = absurd is
no_value P Q (Err e) is = tt

-- what stands printed

module _ {W O : Type 0} (m : Meaning W) (p : SinkMeaning O) (said : Words) where
  one_text : (path : List ℕ) (old : W) (removed : Bool) → removed ≡ there_in (m.around old) path
      → (if removed then notice said (removed_text path) else []) ≡ removed_texts said (there_in (m.around old)) (path ∷ [])
  one_text path old removed is =
      ap (λ b. if b then notice said (removed_text path) else []) is ∙ sym (append-nil (if there_in (m.around old) path then notice said (removed_text path) else []))

  abbrev pub AllRemoved : List (List ℕ) → W → W → O → O → Type 0
  AllRemoved paths old new out after = PrintsSuch p (m.tells new) (λ t. t ≡ removed_texts said (there_in (m.around old)) paths) ⊥ out after

  next_text : (xs ys : List (List ℕ)) (a b : W) (first second : List ℕ) → LeavesBy m said xs a b → m.tells b → first ≡ removed_texts said (there_in (m.around a)) xs
      → second ≡ removed_texts said (there_in (m.around b)) ys → first ++ second ≡ removed_texts said (there_in (m.around a)) (xs ++ ys)
  next_text xs ys a b first second left t one two =
      ap (λ l. l ++ second) one ∙ ap (λ l. removed_texts said (there_in (m.around a)) xs ++ l) (two ∙ removed_same said (there_in (m.around b)) (left_by said (there_in (m.around a)) xs) ys (left t))
      ∙ sym (removed_append said (there_in (m.around a)) xs ys)

  pub removed_on : (xs ys : List (List ℕ)) (a b c : W) (out mid after : O) → (m.tells c → m.tells b) → LeavesBy m said xs a b → AllRemoved xs a b out mid → AllRemoved ys b c mid after → AllRemoved (xs ++ ys) a c out after
  removed_on xs ys a b c out mid after told left one two = record {
    told = λ t. one.told (two.told t);
    such = λ so t.
        let here = told so in
        of_joined p (λ t. t ≡ removed_texts said (there_in (m.around a)) xs) (λ t. t ≡ removed_texts said (there_in (m.around b)) ys) (λ t. t ≡ removed_texts said (there_in (m.around a)) (xs ++ ys)) ⊥
        out mid after (λ first second. next_text xs ys a b first second left here) (one.such here (two.told t)) (two.such so t);
  }

  front_next : (xs ys : List (List ℕ)) (a b : W) (first second : List ℕ) → LeavesBy m said xs a b → m.tells b → first ≡ removed_texts said (there_in (m.around a)) xs
      → IsRemovedFront said (there_in (m.around b)) ys second → IsRemovedFront said (there_in (m.around a)) (xs ++ ys) (first ++ second)
  front_next xs ys a b first second left t one two = record {
    front = xs ++ two.front;
    back = two.back;
    parts = ap (λ l. xs ++ l) two.parts ∙ sym (append_assoc xs two.front two.back);
    whole = next_text xs two.front a b first second left t one two.whole;
  }

  front_more : (there : List ℕ → Bool) (paths more : List (List ℕ)) (text : List ℕ) → IsRemovedFront said there paths text → IsRemovedFront said there (paths ++ more) text
  front_more there paths more text h =
      record { front = h.front; back = h.back ++ more; parts = ap (λ l. l ++ more) h.parts ∙ append_assoc h.front h.back more; whole = h.whole }

  -- where a removal stopped
  abbrev pub FrontRemoved : Type 0 → List (List ℕ) → W → W → O → O → Type 0
  FrontRemoved cut paths old new out after = PrintsSuch p (m.tells new) (IsRemovedFront said (there_in (m.around old)) paths) cut out after

  pub front_on : (cut : Type 0) (xs ys : List (List ℕ)) (a b c : W) (out mid after : O) → (m.tells c → m.tells b) → LeavesBy m said xs a b → AllRemoved xs a b out mid → FrontRemoved cut ys b c mid after
      → FrontRemoved cut (xs ++ ys) a c out after
  front_on cut xs ys a b c out mid after told left one two = record {
    told = λ t. one.told (two.told t);
    such = λ so t.
        let here = told so in
        of_joined p (λ t. t ≡ removed_texts said (there_in (m.around a)) xs) (IsRemovedFront said (there_in (m.around b)) ys) (IsRemovedFront said (there_in (m.around a)) (xs ++ ys)) cut
        out mid after (λ first second. front_next xs ys a b first second left here) (one.such here (two.told t)) (two.such so t);
  }

  pub front_wider : (cut : Type 0) (paths more : List (List ℕ)) (a c : W) (out after : O) → FrontRemoved cut paths a c out after → FrontRemoved cut (paths ++ more) a c out after
  front_wider cut paths more a c out after h =
      such_weaker p (m.tells c) (m.tells c) (IsRemovedFront said (there_in (m.around a)) paths) (IsRemovedFront said (there_in (m.around a)) (paths ++ more)) cut cut out after (λ t. t)
      (λ t text. front_more (there_in (m.around a)) paths more text) (λ k. k) h

  -- one file

  pub one_printed : {T : Type 0} (path : List ℕ) (old new : W) (out after : O) (removed : Bool) (r : Result T Stop) → (m.tells new → removed ≡ there_in (m.around old) path)
      → PrintsUpTo p (if removed then notice said (removed_text path) else []) out after r → RemovesPrinting m p said (path ∷ []) old out new after r
  one_printed path old new out after removed (Ok value) there h =
      record { told = h.told; such = λ so t. record { text = if removed then notice said (removed_text path) else []; is = one_text path old removed (there so); printed = inl (h.whole t) } }
  one_printed path old new out after removed (Err s) there h =
      record {
        told = h.1.told;
        such = λ so t. record {
          text = if removed then notice said (removed_text path) else [];
          is = record { front = path ∷ []; back = []; parts = refl; whole = one_text path old removed (there so) };
          printed = inr (h.0, h.1.printed t);
        };
      }

  pub one_stopped : {T : Type 0} (path : List ℕ) (old new : W) (out : O) (P : Stop → Type 0) (r : Result T Stop) → IsErrAnd r P → RemovesPrinting m p said (path ∷ []) old out new out r
  one_stopped path old new out P (Ok value) is = absurd is
  one_stopped path old new out P (Err s) is =
      such_whole p (m.tells new) (IsRemovedFront said (there_in (m.around old)) (path ∷ [])) (IsCutBy s) out out [] (printed_none p out) (record { front = []; back = path ∷ []; parts = refl; whole = refl })

  -- the next of several

  pub next_stopped : {T : Type 0} (all xs ys more : List (List ℕ)) (a b c : W) (out mid after : O) (r : Result T Stop) (s : Stop) → all ≡ (xs ++ ys) ++ more → (m.tells c → m.tells b) → LeavesBy m said xs a b
      → AllRemoved xs a b out mid → IsErrAnd r (λ x. x ≡ s) → FrontRemoved (IsCutBy s) ys b c mid after → RemovesPrinting m p said all a out c after r
  next_stopped all xs ys more a b c out mid after (Ok value) s parts told left one is two = absurd is
  next_stopped all xs ys more a b c out mid after (Err x) s parts told left one is two =
      let front = subst (λ (stop : Stop). FrontRemoved (IsCutBy stop) ys b c mid after) (sym is) two in
      subst (λ (l : List (List ℕ)). FrontRemoved (IsCutBy x) l a c out after) (sym parts) (front_wider (IsCutBy x) (xs ++ ys) more a c out after (front_on (IsCutBy x) xs ys a b c out mid after told left one front))

  -- where memory is wanting for the next one
  pub next_wanting : {T : Type 0} (all xs more : List (List ℕ)) (a b : W) (out after : O) (P : Stop → Type 0) (r : Result T Stop) → all ≡ xs ++ more → AllRemoved xs a b out after → IsErrAnd r P → RemovesPrinting m p said all a out b after r
  next_wanting all xs more a b out after P (Ok value) parts one is = absurd is
  next_wanting all xs more a b out after P (Err s) parts one is =
      such_weaker p (m.tells b) (m.tells b) (λ t. t ≡ removed_texts said (there_in (m.around a)) xs) (IsRemovedFront said (there_in (m.around a)) all) ⊥ (IsCutBy s) out after (λ t. t)
      (λ t text is. record { front = xs; back = more; parts = parts; whole = is }) (λ no. absurd no) one

  pub none_removed : (a : W) (out : O) → AllRemoved [] a a out out
  none_removed a out = such_whole p (m.tells a) (λ t. t ≡ []) ⊥ out out [] (printed_none p out) refl

  pub all_as : (xs ys : List (List ℕ)) (a b : W) (out after : O) → xs ≡ ys → AllRemoved xs a b out after → AllRemoved ys a b out after
  all_as xs ys a b out after same h = subst (λ (l : List (List ℕ)). AllRemoved l a b out after) same h

  pub front_as : (cut : Type 0) (xs ys : List (List ℕ)) (a b : W) (out after : O) → xs ≡ ys → FrontRemoved cut xs a b out after → FrontRemoved cut ys a b out after
  front_as cut xs ys a b out after same h = subst (λ (l : List (List ℕ)). FrontRemoved cut l a b out after) same h

pub leaves_as : {W : Type 0} (m : Meaning W) (said : Words) (xs ys : List (List ℕ)) (a b : W) → xs ≡ ys → LeavesBy m said xs a b → LeavesBy m said ys a b
leaves_as m said xs ys a b same h = subst (λ (l : List (List ℕ)). LeavesBy m said l a b) same h

-- paths one after another

with_more : (o : Option Rule) (rules : List Rule) (more : List (List ℕ)) (whole : List Rule) → targets_of whole ≡ targets_of rules ++ more → targets_of (with_rule o whole) ≡ targets_of (with_rule o rules) ++ more
with_more None rules more whole is = is
with_more (Some r) rules more whole is = ap (λ l. r.targets ++ l) is ∙ sym (append_assoc r.targets (targets_of rules) more)

targets_append : (g : RuleGraph) (xs ys : List RuleId) → targets_of (rules_numbered g (xs ++ ys)) ≡ targets_of (rules_numbered g xs) ++ targets_of (rules_numbered g ys)
targets_append g [] ys = refl
targets_append g (x ∷ xs) ys = with_more (rule_number g x) (rules_numbered g xs) (targets_of (rules_numbered g ys)) (rules_numbered g (xs ++ ys)) (targets_append g xs ys)

pub paths_next : (g : RuleGraph) (nodes : List NodeId) (i : ℕ) (d : NodeId) (path : List ℕ) → i < length nodes → slice_get g.nodes (get_or nodes i d).0 ≡ Some path
    → paths_of g (take i nodes) ++ path ∷ [] ≡ paths_of g (take (i + 1) nodes)
paths_next g nodes i d path lt at =
    sym (ap (paths_of g) (take_more nodes i d lt) ∙ map-append (path_of g.nodes) (take i nodes) (get_or nodes i d ∷ [])
    ∙ ap (λ (x : List ℕ). paths_of g (take i nodes) ++ x ∷ []) (ap (λ o. unwrap_or o []) at))

pub paths_parts : (g : RuleGraph) (nodes : List NodeId) (i : ℕ) → paths_of g nodes ≡ paths_of g (take i nodes) ++ paths_of g (drop i nodes)
paths_parts g nodes i = sym (ap (paths_of g) (take-append-drop i nodes)) ∙ map-append (path_of g.nodes) (take i nodes) (drop i nodes)

pub targets_next : (g : RuleGraph) (rules : List RuleId) (i : ℕ) (d : RuleId) (of : declared.Rule) → i < length rules → slice_get g.rules (get_or rules i d).0 ≡ Some of
    → targets_of (rules_numbered g (take i rules)) ++ paths_of g of.targets ≡ targets_of (rules_numbered g (take (i + 1) rules))
targets_next g rules i d of lt at =
    sym (ap (λ (l : List RuleId). targets_of (rules_numbered g l)) (take_more rules i d lt) ∙ targets_append g (take i rules) (get_or rules i d ∷ [])
    ∙ ap (λ l. targets_of (rules_numbered g (take i rules)) ++ l) (numbered_some g (get_or rules i d) [] of at ∙ append-nil (paths_of g of.targets)))

pub targets_parts : (g : RuleGraph) (rules : List RuleId) (i : ℕ) → targets_of (rules_numbered g rules) ≡ targets_of (rules_numbered g (take i rules)) ++ targets_of (rules_numbered g (drop i rules))
targets_parts g rules i = sym (ap (λ (l : List RuleId). targets_of (rules_numbered g l)) (take-append-drop i rules)) ∙ targets_append g (take i rules) (drop i rules)
