-- Leftover copies stay so while only looks are made and nothing runs.
use Rattle.std.proofs.Common.{◌≡◌, ◌∙◌, refl, sym, ap, subst, ℕ, List, [], ◌∷◌, Bool, true, false, Option, Some, None, inl, inr, arith, length, get_or, ◌<◌, ◌+◌, ◌++◌}
use Rattle.std.specs.Prelude.{not, ◌&&◌, ◌||◌, is_some, if◌then◌else◌, Contains, Result, Ok, Err, IfOk}
use Rattle.std.proofs.lemmas.Bool.{cases_lt, false≢true}
use Rattle.std.proofs.lemmas.List.{get_or_default}
use Rattle.std.proofs.lemmas.List.Elements.{Contains-append_left, Contains-push, Contains-push_cases}
use Rattle.std.specs.List.{list_any}
use Rattle.variant_dirs.specs.Variants.{variant_of, source_of}
use Rattle.variant_dirs.specs.declared.variants.Variant.{Variant}
use Rattle.scons_base.specs.Parts.{lies_in}
use Rattle.rule_graph.specs.Graphs.{RuleGraph}
use Rattle.world_api.specs.Act.{Content}
use Rattle.world_api.specs.Around.{Around, Running, IsRunningTarget}
use Rattle.world_api.specs.Calls.{Asks}
use Rattle.world_api.specs.Looks.{Looks}
use Rattle.world_api.specs.Meaning.{Meaning}
use Rattle.deciders.specs.declared.recorded.Rec.{Rec}
use Rattle.build_files.specs.declared.end.ListEnd.{ListEnd}
use Rattle.build_files.specs.Leftovers.{AtRest, has_copies, stands, is_made, is_declared, is_copied, source_among, copied_from, IsOfCopy, IsLeftover, AreLeftovers}

pub none_runs : (running : List Running) (path : List ℕ) → running ≡ [] → IsRunningTarget running path → ⊥
none_runs [] path rest is = omega (arith, is.1.1)
none_runs (first ∷ running) path rest is = absurd (cc rest)

stands_on : (a b : Around) (path : List ℕ) → a.running ≡ [] → Asks a b → stands b path ≡ stands a path
stands_on a b path rest asks = ap (λ (content : Content). is_some content) (asks.files path (none_runs a.running path rest))

source_on : (g : RuleGraph) (count : ℕ) (a b : Around) (source : Option (List ℕ)) → a.running ≡ [] → Asks a b → source_among g count b source ≡ source_among g count a source
source_on g count a b (Some source) rest asks =
    ap (λ (is : Bool). if is_declared g count source || (not (is_copied g source) && is) then Some source else None) (stands_on a b source rest asks)
source_on g count a b None rest asks = refl

copied_on : (g : RuleGraph) (count : ℕ) (a b : Around) (path : List ℕ) → a.running ≡ [] → Asks a b → copied_from g count b path ≡ copied_from g count a path
copied_on g count a b path rest asks =
    ap (λ (source : Option (List ℕ)). if is_copied g path then source else None) (source_on g count a b (source_of g.variants g.top path) rest asks)

pub left_on : (g : RuleGraph) (a b : Around) (rec : Rec) → a.running ≡ [] → Asks a b → IsLeftover g a rec → IsLeftover g b rec
left_on g a b rec rest asks left = record {
  path = left.path;
  targets = left.targets;
  copy = left.copy;
  unmade = left.unmade;
  uncopied = copied_on g (length g.rules) a b left.path rest asks ∙ left.uncopied;
  stands = stands_on a b left.path rest asks ∙ left.stands;
}

pub left_before : (g : RuleGraph) (a b : Around) (rec : Rec) → a.running ≡ [] → Asks a b → IsLeftover g b rec → IsLeftover g a rec
left_before g a b rec rest asks left = record {
  path = left.path;
  targets = left.targets;
  copy = left.copy;
  unmade = left.unmade;
  uncopied = sym (copied_on g (length g.rules) a b left.path rest asks) ∙ left.uncopied;
  stands = sym (stands_on a b left.path rest asks) ∙ left.stands;
}

pub rest_before : {W : Type 0} (m : Meaning W) (old new : W) → Looks m old new → AtRest m new → AtRest m old
rest_before m old new looks at = (looks.told.told at.0, sym (looks.around at.0).running ∙ at.1)

pub one_of : (xs : List (List ℕ)) (x : List ℕ) → length xs ≡ 1 → x ≡ get_or xs 0 x → xs ≡ x ∷ []
one_of [] x one is = absurd (omega (arith, one))
one_of (y ∷ []) x one is = ap (λ (z : List ℕ). z ∷ []) (sym is)
one_of (y ∷ z ∷ zs) x one is = absurd (omega (arith, one))

pub none_of : (path : Option (List ℕ)) → is_some path ≡ false → path ≡ None
none_of None bare = refl
none_of (Some path) bare = absurd (cc bare)

-- what the last look finds
pub left_is : {W : Type 0} (m : Meaning W) (g : RuleGraph) (rec : Rec) (path : List ℕ) (old new : W) (r : Result Bool ListEnd) → rec.targets ≡ path ∷ [] → IsOfCopy g rec path → is_made g path ≡ false
    → Looks m old new → (m.tells old → copied_from g (length g.rules) (m.around old) path ≡ None) → (m.tells new → IfOk r (λ is. is ≡ stands (m.around new) path))
    → AtRest m new → IfOk r (λ is. is ≡ true → IsLeftover g (m.around new) rec)
left_is m g rec path old new (Ok is) targets copy unmade looks from found at = λ same. record {
  path = path;
  targets = targets;
  copy = copy;
  unmade = unmade;
  uncopied = copied_on g (length g.rules) (m.around old) (m.around new) path (rest_before m old new looks at).1 (looks.around at.0) ∙ from (looks.told.told at.0);
  stands = sym (found at.0) ∙ same;
}
left_is m g rec path old new (Err end) targets copy unmade looks from found at = tt

-- those of the first `n` records that are of leftover copies
pub record AreLeftSoFar (g : RuleGraph) (around : Around) (recs : List Rec) (n : ℕ) (left : List Rec) : Type 0 where
  pub each : (rec : Rec) → Contains left rec → Contains recs rec × IsLeftover g around rec
  pub all : (k : ℕ) (rec : Rec) → k < n → k < length recs → get_or recs k rec ≡ rec → IsLeftover g around rec → Contains left rec

pub none_left : (g : RuleGraph) (around : Around) (recs : List Rec) → AreLeftSoFar g around recs 0 []
none_left g around recs = record { each = λ rec among. absurd (omega (arith, among.1)); all = λ k rec below within at left. absurd (omega (arith, below)) }

-- after further looks
pub so_far_on : (g : RuleGraph) (a b : Around) (recs : List Rec) (n : ℕ) (left : List Rec) → a.running ≡ [] → Asks a b → AreLeftSoFar g a recs n left → AreLeftSoFar g b recs n left
so_far_on g a b recs n left rest asks before = record {
  each = λ rec among. let was = before.each rec among in (was.0, left_on g a b rec rest asks was.1);
  all = λ k rec below within at is. before.all k rec below within at (left_before g a b rec rest asks is);
}

same_at : (recs : List Rec) (n k : ℕ) (rec one : Rec) → k ≡ n → rec ≡ get_or recs n rec → get_or recs k one ≡ one → k < length recs → one ≡ rec
same_at recs n k rec one same at here inside =
    sym here ∙ (ap (λ (i : ℕ). get_or recs i one) same ∙ (get_or_default recs n one rec (omega (arith, same, inside)) ∙ sym at))

-- one record more, which isn't of a leftover copy
pub so_far_past : (g : RuleGraph) (around : Around) (recs : List Rec) (n : ℕ) (left : List Rec) (rec : Rec) → n < length recs → rec ≡ get_or recs n rec → (IsLeftover g around rec → ⊥)
    → AreLeftSoFar g around recs n left → AreLeftSoFar g around recs (n + 1) left
so_far_past g around recs n left rec within at other before = record {
  each = before.each;
  all = λ k one below inside here is. elim (cases_lt k n) [
    | inl earlier ↦ before.all k one earlier inside here is
    | inr last ↦ absurd (other (subst (IsLeftover g around) (same_at recs n k rec one (omega (arith, below, last)) at here inside) is))
  ];
}

-- one record more, which is of one
pub so_far_with : (g : RuleGraph) (around : Around) (recs : List Rec) (n : ℕ) (old new : List Rec) (rec : Rec) → n < length recs → rec ≡ get_or recs n rec → IsLeftover g around rec → new ≡ old ++ rec ∷ []
    → AreLeftSoFar g around recs n old → AreLeftSoFar g around recs (n + 1) new
so_far_with g around recs n old new rec within at left pushed before = record {
  each = λ one among. elim (Contains-push_cases old rec one (subst (λ (xs : List Rec). Contains xs one) pushed among)) [
    | inl was ↦ before.each one was
    | inr last ↦ (subst (Contains recs) last (n, within, sym at), subst (IsLeftover g around) last left)
  ];
  all = λ k one below inside here is. elim (cases_lt k n) [
    | inl earlier ↦ subst (λ (xs : List Rec). Contains xs one) (sym pushed) (Contains-append_left old (rec ∷ []) one (before.all k one earlier inside here is))
    | inr last ↦ subst (λ (xs : List Rec). Contains xs one) (sym pushed) (subst (Contains (old ++ rec ∷ [])) (sym (same_at recs n k rec one (omega (arith, below, last)) at here inside)) (Contains-push old rec))
  ];
}

pub all_left : (g : RuleGraph) (around : Around) (recs : List Rec) (n : ℕ) (left : List Rec) → length recs ≡ n → AreLeftSoFar g around recs n left → AreLeftovers g around (Contains recs) left
all_left g around recs n left end so_far = record {
  each = so_far.each;
  all = λ rec among is. so_far.all among.0 rec (omega (arith, among.1, end)) among.1 among.2 is;
}

copied_any : (variants : List Variant) (path : List ℕ) → has_copies (variant_of variants path) ≡ true → list_any (λ variant. variant.duplicate) variants ≡ true
copied_any [] path is = absurd (cc is)
copied_any (first ∷ variants) path is = by (lies_in path first.dir) is (copied_any variants path)
  where
    or_true : (b : Bool) → (b || true) ≡ true
    or_true true = refl
    or_true false = refl

    by : (b : Bool) → has_copies (if b then Some first else variant_of variants path) ≡ true → (has_copies (variant_of variants path) ≡ true → list_any (λ variant. variant.duplicate) variants ≡ true)
        → (first.duplicate || list_any (λ variant. variant.duplicate) variants) ≡ true
    by true here later = ap (λ (b : Bool). b || list_any (λ variant. variant.duplicate) variants) here
    by false here later = ap (λ (b : Bool). first.duplicate || b) (later here) ∙ or_true first.duplicate

-- without copies none is left over
pub none_without : (g : RuleGraph) (around : Around) (among : Rec → Type 0) → list_any (λ variant. variant.duplicate) g.variants ≡ false → AreLeftovers g around among []
none_without g around among bare = record {
  each = λ rec left. absurd (omega (arith, left.1));
  all = λ rec there is. absurd (false≢true (sym bare ∙ copied_any g.variants is.path is.copy.copied));
}

-- the records among which they are sought are just those that are meant
pub ok_left : (g : RuleGraph) (around : Around) (among : Rec → Type 0) (recs : List Rec) (r : Result (List Rec) ListEnd) → ((rec : Rec) → Contains recs rec → among rec) → ((rec : Rec) → among rec → Contains recs rec)
    → IfOk r (AreLeftovers g around (Contains recs)) → IfOk r (AreLeftovers g around among)
ok_left g around among recs (Ok left) to from is = record {
  each = λ rec there. let was = is.each rec there in (to rec was.0, was.1);
  all = λ rec there which. is.all rec (from rec there) which;
}
ok_left g around among recs (Err end) to from is = tt
