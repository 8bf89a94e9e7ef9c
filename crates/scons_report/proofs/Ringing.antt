-- How a ring of rules is turned to begin with its least path.
use Rattle.std.proofs.Common.{◌≡◌, ◌≢◌, ◌≤◌, ◌<◌, ◌+◌, ◌++◌, ◌∷◌, [], ◌∙◌, ◌⊎◌, ⊎_elim, inl, inr, ℕ, Bool, true, false, List, Option, Some, Contains, ap, arith, drop, get_or, length, map, refl, subst, sym, take}
use Rattle.std.specs.Prelude.{slice_get}
use Rattle.std.specs.Cmp.Lexicographic.{slice_cmp, nat_list_cmp_total}
use Rattle.std.specs.Ordering.{is_lt, nat_cmp}
use Rattle.std.specs.declared.cmp.Ordering.{Ordering}
use Rattle.std.specs.declared.cmp.Ordering.TheVariants.{Less, Equal, Greater}
use Rattle.std.proofs.lemmas.Bool.{cases_lt}
use Rattle.std.proofs.lemmas.Cmp.{tied_itself}
use Rattle.std.proofs.lemmas.Option.{same_Some, slice_get_read, slice_get_within, slice_get-get_or}
use Rattle.std.proofs.lemmas.List.{drop_more, map-append, take-append-drop}
use Rattle.std.proofs.lemmas.List.Elements.{Contains-append_cases, Contains-append_left, Contains-append_right}
use Rattle.scons_base.specs.declared.ids.RuleId.{RuleId}
use Rattle.rule_graph.specs.Graphs.{RuleGraph}
use Rattle.build_model.proofs.Lists.{none_some, true_false}
use Rattle.build_files.specs.Firsts.{first_target_of}
use Rattle.scons_report.specs.Rings.{AreFirstTargets, IsPlaceOfLeast, IsRingTold, IsTurned}

not_itself : (path : List ℕ) → slice_cmp nat_cmp path path ≢ Less
not_itself path less = less_equal (sym less ∙ tied_itself nat_list_cmp_total path)
  where
    less_equal : Less ≡ Equal → ⊥
    less_equal e = cc e

-- none of the first so many paths comes before the one at this place, which is one of them if there is one
pub record IsLeastSoFar (paths : List (List ℕ)) (count place : ℕ) : Type 0 where
  pub within : place ≤ length paths
  pub some : 0 < length paths → place < length paths
  pub least : (n : ℕ) (least path : List ℕ) → n < count → slice_get paths place ≡ Some least → slice_get paths n ≡ Some path →
      slice_cmp nat_cmp path least ≢ Less

pub least_first : (paths : List (List ℕ)) → IsLeastSoFar paths 0 0
least_first paths = record {
  within = omega arith;
  some = λ any. any;
  least = λ n least path lt at there. absurd (omega (arith, lt));
}

is_less : (o : Ordering) (test : Bool) → test ≡ is_lt o → test ≡ true → o ≡ Less
is_less Less test e h = refl
is_less Equal test e h = true_false (sym h ∙ e)
is_less Greater test e h = true_false (sym h ∙ e)

is_not_less : (o : Ordering) (test : Bool) → test ≡ is_lt o → test ≡ false → o ≢ Less
is_not_less o test e h less = true_false (sym (ap is_lt less) ∙ sym e ∙ h)

module _ (paths : List (List ℕ)) (place least : ℕ) (found path : List ℕ) (so : IsLeastSoFar paths place least) (at : slice_get paths least ≡ Some found)
    (there : slice_get paths place ≡ Some path) where
  -- a further path that doesn't come before it
  pub least_kept : slice_cmp nat_cmp path found ≢ Less → IsLeastSoFar paths (place + 1) least
  least_kept later = record {
    within = so.within;
    some = so.some;
    least = λ n low other lt low_at other_at. kept n low other lt low_at other_at (test n lt);
  }
    where
      test : (n : ℕ) → n < place + 1 → (n < place) ⊎ (n ≡ place)
      test n lt = ⊎_elim inl (λ le. inr (omega (arith, lt, le))) (cases_lt n place)

      kept : (n : ℕ) (low other : List ℕ) → n < place + 1 → slice_get paths least ≡ Some low → slice_get paths n ≡ Some other →
          (n < place) ⊎ (n ≡ place) → slice_cmp nat_cmp other low ≢ Less
      kept n low other lt low_at other_at (inl before) = so.least n low other before low_at other_at
      kept n low other lt low_at other_at (inr same) =
          subst (λ x. slice_cmp nat_cmp other x ≢ Less) (same_Some found low (sym at ∙ low_at))
          (subst (λ x. slice_cmp nat_cmp x found ≢ Less)
          (same_Some path other (sym there ∙ ap (slice_get paths) (sym same) ∙ other_at)) later)

  -- or one that does
  pub least_moved : slice_cmp nat_cmp path found ≡ Less → IsLeastSoFar paths (place + 1) place
  least_moved before = record {
    within = let lt = slice_get_within paths place path there in omega (arith, lt);
    some = λ any. slice_get_within paths place path there;
    least = λ n low other lt low_at other_at. moved n low other low_at other_at (test n lt);
  }
    where
      test : (n : ℕ) → n < place + 1 → (n < place) ⊎ (n ≡ place)
      test n lt = ⊎_elim inl (λ le. inr (omega (arith, lt, le))) (cases_lt n place)

      is_path : (low : List ℕ) → slice_get paths place ≡ Some low → path ≡ low
      is_path low low_at = same_Some path low (sym there ∙ low_at)

      moved : (n : ℕ) (low other : List ℕ) → slice_get paths place ≡ Some low → slice_get paths n ≡ Some other → (n < place) ⊎ (n ≡ place) →
          slice_cmp nat_cmp other low ≢ Less
      moved n low other low_at other_at (inl earlier) less =
          so.least n found other earlier at other_at
          (nat_list_cmp_total.trans other path found (subst (λ x. slice_cmp nat_cmp other x ≡ Less) (sym (is_path low low_at)) less) before)
      moved n low other low_at other_at (inr same) less =
          not_itself low (subst (λ x. slice_cmp nat_cmp x low ≡ Less)
          (same_Some other low (sym other_at ∙ ap (slice_get paths) same ∙ low_at)) less)

-- as a test says
module _ (paths : List (List ℕ)) (place least : ℕ) (found path : List ℕ) (so : IsLeastSoFar paths place least) (some : place < length paths)
    (at : found ≡ get_or paths least found) (there : path ≡ get_or paths place path) (test : Bool) (is : test ≡ is_lt (slice_cmp nat_cmp path found)) where
  any : least < length paths
  any = so.some (omega (arith, some))

  at_least : slice_get paths least ≡ Some found
  at_least = slice_get_read paths (length paths) least found refl any at

  at_place : slice_get paths place ≡ Some path
  at_place = slice_get_read paths (length paths) place path refl some there

  pub tested_less : test ≡ true → IsLeastSoFar paths (place + 1) place
  tested_less h = least_moved paths place least found path so at_least at_place (is_less (slice_cmp nat_cmp path found) test is h)

  pub tested_not : test ≡ false → IsLeastSoFar paths (place + 1) least
  tested_not h = least_kept paths place least found path so at_least at_place (is_not_less (slice_cmp nat_cmp path found) test is h)

-- all were looked at
pub least_of_all : (paths : List (List ℕ)) (count place : ℕ) → length paths ≤ count → IsLeastSoFar paths count place → IsPlaceOfLeast paths place
least_of_all paths count place all so low path at h =
    so.least h.0 low path (let lt = h.1 in omega (arith, all, lt)) at (slice_get-get_or paths h.0 path h.1 ∙ ap Some h.2)

-- ---- turned

module _ (paths : List (List ℕ)) (place : ℕ) where
  starts : (first : List ℕ) → place < length paths → slice_get (drop place paths ++ take place paths) 0 ≡ Some first → slice_get paths place ≡ Some first
  starts first lt at =
      slice_get-get_or paths place first lt ∙ sym (ap (λ (l : List (List ℕ)). slice_get (l ++ take place paths) 0) (drop_more paths place first lt)) ∙ at

  inside : (path : List ℕ) → Contains (drop place paths ++ take place paths) path → Contains paths path
  inside path h =
      subst (λ (l : List (List ℕ)). Contains l path) (take-append-drop place paths)
      (⊎_elim (λ k. Contains-append_right (take place paths) (drop place paths) path k) (λ k. Contains-append_left (take place paths) (drop place paths) path k)
      (Contains-append_cases (drop place paths) (take place paths) path h))

  pub turns : (turned : List (List ℕ)) → (0 < length paths → place < length paths) → IsPlaceOfLeast paths place →
      turned ≡ drop place paths ++ take place paths → IsTurned paths turned
  turns turned some least is = record {
    front = take place paths;
    back = drop place paths;
    was = sym (take-append-drop place paths);
    is = is;
    least = λ first path at h.
        let within = inside path (subst (λ (l : List (List ℕ)). Contains l path) is h) in
        let lt = within.1 in
        let any : 0 < length paths = omega (arith, lt) in
        least first path (starts first (some any) (ap (λ (l : List (List ℕ)). slice_get l 0) (sym is) ∙ at)) within;
  }

-- ---- told

-- the rules of a list of paths in two parts
record AreParts (g : RuleGraph) (rules : List RuleId) (front back : List (List ℕ)) : Type 0 where
  first : List RuleId
  rest : List RuleId
  is : rules ≡ first ++ rest
  ahead : AreFirstTargets g first front
  behind : AreFirstTargets g rest back

abbrev named : RuleGraph → RuleId → Option (List ℕ)
named g rule = first_target_of g rule.0

parts : (g : RuleGraph) (rules : List RuleId) (front back : List (List ℕ)) → AreFirstTargets g rules (front ++ back) → AreParts g rules front back
parts g rules [] back e = record { first = []; rest = rules; is = refl; ahead = refl; behind = e }
parts g [] (p ∷ front) back e = none_some (ap (λ (l : List (Option (List ℕ))). slice_get l 0) e)
parts g (r ∷ rules) (p ∷ front) back e =
    let k = parts g rules front back (ap (λ (l : List (Option (List ℕ))). drop 1 l) e) in
    let first : named g r ≡ Some p = same_Some (named g r) (Some p) (ap (λ (l : List (Option (List ℕ))). slice_get l 0) e) in
    record {
      first = r ∷ k.first;
      rest = k.rest;
      is = ap (λ (l : List RuleId). r ∷ l) k.is;
      ahead = ap (λ (o : Option (List ℕ)). o ∷ map (named g) k.first) first ∙ ap (λ (l : List (Option (List ℕ))). Some p ∷ l) k.ahead;
      behind = k.behind;
    }

pub told : (g : RuleGraph) (rules : List RuleId) (paths turned : List (List ℕ)) → AreFirstTargets g rules paths → IsTurned paths turned →
    IsRingTold g rules turned
told g rules paths turned are t =
    let k = parts g rules t.front t.back (are ∙ ap (map Some) t.was) in
    record {
      front = k.first;
      back = k.rest;
      ring = k.is;
      named = map-append (named g) k.rest k.first ∙ ap (λ (l : List (Option (List ℕ))). l ++ map (named g) k.first) k.behind
          ∙ ap (λ (l : List (Option (List ℕ))). map Some t.back ++ l) k.ahead ∙ sym (map-append Some t.back t.front) ∙ ap (map Some) (sym t.is);
      least = t.least;
    }
