-- What the code says of tokens, told by their tree and their fault.
use Rattle.std.proofs.Common.{◌≡◌, ℕ, suc, ◌-◌, List, [], ◌∷◌, ◌++◌, true, length, take, drop, refl, sym, ap, subst, ◌∙◌, append_assoc, length-append, arith}
use Rattle.std.specs.Prelude.{Result, Ok, Err, ◌==◌, ◌↔◌, IsTrue, MatchResult}
use Rattle.std.proofs.lemmas.Bool.Decides.{nat_tests}
use Rattle.std.proofs.Math.Seq.{take-append_seam, drop-append_seam}
use Rattle.scons_base.specs.declared.limits.TheConstants.{SYNTAX_DEPTH_LIMIT}
use Rattle.py_token.specs.declared.token.Token.{Token}
use Rattle.py_tree.specs.Tree.{Tree, script_tree}
use Rattle.py_tree.specs.declared.line.Script.{Script}
use Rattle.py_parse.specs.declared.fault.ParseFault.{ParseFault}
use Rattle.py_parse.specs.declared.fault.ParseFault.TheVariants.{At, Memory}
use Rattle.py_parse.specs.declared.fault.ParseKind.{ParseKind}
use Rattle.py_parse.specs.Grammar.{reads, gives, script}
use Rattle.py_parse.specs.Parses.{Parses, BeginsScript}
use Rattle.py_parse.specs.Reading.{ok, fault, Why, Reads}
use Rattle.py_parse.specs.Kinds.{IsKind}
use Rattle.py_parse.specs.Faults.{FaultAt, FaultsAt, IsTree, Gives, Tells, line_of, number_of}
use Rattle.py_parse.proofs.Top.{with_nothing, tree_of, one_tree}
use Rattle.py_parse.proofs.Faults.{Stopped, stopped_at, one_fault, not_both}

fault_here : (ts rest : List Token) (w : Why) (kind : ParseKind) (s : Stopped ts rest w) →
    (Reads SYNTAX_DEPTH_LIMIT (reads script gives) (s.front ++ rest) (fault w rest) → IsKind s.front rest kind) →
    FaultAt ts (line_of s.front rest) (number_of s.front) kind
fault_here ts rest w kind s h = record {
  place = length s.front;
  first = record { front = s.front; rest = rest; parts = s.parts; place_is = refl; begins = s.begins; ends = s.ends };
  on_line = refl;
  number = refl;
  why = h (s.moves rest (λ v. refl));
}

cut_length : (ts f r : List Token) → ts ≡ f ++ r → length ts - length r ≡ length f
cut_length ts f r p = let e = ap length p in let n = length-append f r in omega (arith, e, n)

cut_front : (ts f r : List Token) → ts ≡ f ++ r → take (length ts - length r) ts ≡ f
cut_front ts f r p = ap (λ n. take n ts) (cut_length ts f r p) ∙ ap (λ l. take (length f) l) p ∙ take-append_seam f r

cut_rest : (ts f r : List Token) → ts ≡ f ++ r → drop (length ts - length r) ts ≡ r
cut_rest ts f r p = ap (λ n. drop n ts) (cut_length ts f r p) ∙ ap (λ l. drop (length f) l) p ∙ drop-append_seam f r

-- where reading stops is the fault, if its kind is known there
pub fault_found : (ts rest front back : List Token) (w : Why) (kind : ParseKind) → Reads SYNTAX_DEPTH_LIMIT (reads script gives) ts (fault w rest) →
    front ≡ take (length ts - length rest) ts → back ≡ drop (length ts - length rest) ts →
    (Reads SYNTAX_DEPTH_LIMIT (reads script gives) (front ++ back) (fault w back) → IsKind front back kind) →
    FaultAt ts (line_of front back) (number_of front) kind
fault_found ts rest front back w kind r p q h =
    let s = stopped_at r in
    let f : s.front ≡ front = sym (p ∙ cut_front ts s.front rest s.parts) in
    let b : rest ≡ back = sym (q ∙ cut_rest ts s.front rest s.parts) in
    let i = subst (λ g. Reads SYNTAX_DEPTH_LIMIT (reads script gives) (s.front ++ g) (fault w g) → IsKind s.front g kind) (sym b)
    (subst (λ g. Reads SYNTAX_DEPTH_LIMIT (reads script gives) (g ++ back) (fault w back) → IsKind g back kind) (sym f) h) in
    let a = fault_here ts rest w kind s i in
    subst (λ g. FaultAt ts (line_of front g) (number_of front) kind) b (subst (λ g. FaultAt ts (line_of g rest) (number_of g) kind) f a)

-- a script is the front of one
pub begins_if_read : (ts : List Token) (t : Tree) → Reads SYNTAX_DEPTH_LIMIT (reads script gives) ts (ok t []) → BeginsScript ts
begins_if_read ts t r = ([], t, subst (λ l. Parses l t) (sym (with_nothing ts)) (tree_of ts t r))

some_left : (n : ℕ) → (suc n == 0) ≡ true → ⊥
some_left n h = grind (arith, nat_tests)

-- where reading stops behind the last token, the tokens are the front of a script, and else of none
begins_when_done : (ts rest : List Token) (w : Why) → Stopped ts rest w → IsTrue (length rest == 0) → BeginsScript ts
begins_when_done ts [] w s h = subst (λ l. BeginsScript l) (sym (s.parts ∙ with_nothing s.front)) s.begins
begins_when_done ts (x ∷ rest) w s h = absurd (some_left (length rest) h)

done_when_begins : (ts rest : List Token) (w : Why) → Stopped ts rest w → BeginsScript ts → IsTrue (length rest == 0)
done_when_begins ts [] w s b = refl
done_when_begins ts (x ∷ rest) w s b =
    let e : ts ++ b.0 ≡ s.front ++ x ∷ (rest ++ b.0) = ap (λ l. l ++ b.0) s.parts ∙ append_assoc s.front (x ∷ rest) b.0 in
    absurd (s.ends (rest ++ b.0) b.1 (subst (λ l. Parses l b.1) e b.2))

pub begins_if_done : (ts rest : List Token) (w : Why) → Reads SYNTAX_DEPTH_LIMIT (reads script gives) ts (fault w rest) → IsTrue (length rest == 0) ↔ BeginsScript ts
begins_if_done ts rest w r = let s = stopped_at r in (begins_when_done ts rest w s, done_when_begins ts rest w s)

pub only_at : (ts : List Token) (r : Result Script ParseFault) → MatchResult r (IsTree ts) (FaultsAt ts) → (t : Tree) → Parses ts t → Gives r t
only_at ts (Ok s) h t p = one_tree ts (script_tree s) t h p
only_at ts (Err (At line number kind)) h t p = not_both ts t line number kind p h
only_at ts (Err Memory) h t p = tt

pub refused_at : (ts : List Token) (r : Result Script ParseFault) → MatchResult r (IsTree ts) (FaultsAt ts) →
    (line number : ℕ) (kind : ParseKind) → FaultAt ts line number kind → Tells r line number kind
refused_at ts (Ok s) h line number kind a = not_both ts (script_tree s) line number kind h a
refused_at ts (Err (At line' number' kind')) h line number kind a = one_fault ts line' number' kind' line number kind h a
refused_at ts (Err Memory) h line number kind a = tt
