-- Comparisons and constants, over plain variables.
use Rattle.std.proofs.Common.{◌≡◌, ℕ, List, [], true, false, refl, Option, Some, None, is_some}
use Rattle.py_token.specs.declared.token.Token.{Token}
use Rattle.py_token.specs.declared.keyword.Keyword.{Keyword}
use Rattle.py_token.specs.declared.keyword.Keyword.TheVariants as keyword'
use Rattle.py_token.specs.declared.mark.Mark.{Mark}
use Rattle.py_token.specs.declared.mark.Mark.TheVariants as mark'
use Rattle.py_token.specs.declared.token.TokenKind.{TokenKind}
use Rattle.py_token.specs.declared.token.TokenKind.TheVariants as kind'
use Rattle.py_tree.specs.Tree.{Tree, constant}
use Rattle.py_tree.specs.declared.expr.Constant.{Constant}
use Rattle.py_tree.specs.declared.expr.Comparison.{Comparison}
use Rattle.py_tree.specs.declared.expr.Comparison.TheVariants as comparison'
use Rattle.py_parse.specs.declared.terminal.Terminal.TheVariants as terminal'
use Rattle.py_parse.specs.declared.level.Level.TheVariants as level'
use Rattle.py_parse.specs.Terminals.{one, heads, constant_of, comparison_of, constant_in, comparison_in, mark_comparison, word_comparison}
use Rattle.py_parse.specs.Grammar.{constants, compared, is_right, chained, keyword}
use Rattle.py_parse.specs.Reading.{ok, fault, unfit, Reads, r_refused, pick}
use Rattle.py_parse.specs.Agrees.{Taken, EndsAt, ComparisonAt, right_of}
use Rattle.py_parse.proofs.Cases.{by_production, last_production, takes_at, given_at, yes_takes, no_takes, yes_gives, reads_gives}

pub constant_at : (d : ℕ) (ts rest : List Token) (x : Token) (k : Constant) (v : Tree) → Taken (one terminal'.Constant) ts x rest →
    Some k ≡ constant_of x.kind → v ≡ constant x.line k → Reads d (pick constants ts) ts (ok v rest)
constant_at d ts rest x k v t e q =
    let is : k ≡ constant_in x.kind = rw (← e) refl in
    by_production constants (last_production _ (takes_at _ t (given_at (rw (q, is) refl))))

pub constant_unfit : (d : ℕ) (ts : List Token) → heads (one terminal'.Constant) ts ≡ false → Reads d (pick constants ts) ts (fault unfit ts)
constant_unfit d ts h = by_production constants (last_production _ (r_refused h))

no_some : {A : Type 0} (o : Option A) → is_some o ≡ true → None ≡ o → ⊥
no_some None p e = cc
no_some (Some x) p e = cc

pub constant_there : (ts rest : List Token) (x : Token) → Taken (one terminal'.Constant) ts x rest → None ≡ constant_of x.kind → ⊥
constant_there ts rest x t e = no_some (constant_of x.kind) t.fitting e

pub comparison_there : (ts rest : List Token) (x : Token) → Taken (one terminal'.Comparison) ts x rest → None ≡ comparison_of x.kind → ⊥
comparison_there ts rest x t e = no_some (comparison_of x.kind) t.fitting e

pub not_in_unfit : (d : ℕ) (t : Tree) (ts rest : List Token) (x : Token) → Taken (keyword keyword'.Not) ts x rest →
    heads (keyword keyword'.In) rest ≡ false → Reads d (pick (compared t) ts) ts (fault unfit rest)
not_in_unfit d t ts rest x a h = by_production (compared t) (yes_takes _ _ a (r_refused h))

pub not_in_at : (ts rest rest' : List Token) (x y : Token) → Taken (keyword keyword'.Not) ts x rest →
    Taken (keyword keyword'.In) rest y rest' → ComparisonAt ts x.line comparison'.NotIn rest'
not_in_at ts rest rest' x y a b d t out r = by_production (compared t) (yes_takes _ _ a (takes_at _ b r))

pub is_not_at : (ts rest rest' : List Token) (x y : Token) → heads (keyword keyword'.Not) ts ≡ false → Taken (keyword keyword'.Is) ts x rest →
    Taken (keyword keyword'.Not) rest y rest' → ComparisonAt ts x.line comparison'.IsNot rest'
is_not_at ts rest rest' x y h a b d t out r =
    by_production (compared t) (no_takes _ _ _ _ h (yes_takes _ _ a (reads_gives (by_production (is_right x.line t) (yes_takes _ _ b r)))))

pub is_at : (ts rest : List Token) (x : Token) → heads (keyword keyword'.Not) ts ≡ false → Taken (keyword keyword'.Is) ts x rest →
    heads (keyword keyword'.Not) rest ≡ false → ComparisonAt ts x.line comparison'.Is rest
is_at ts rest x h a n d t out r =
    by_production (compared t) (no_takes _ _ _ _ h (yes_takes _ _ a (reads_gives (by_production (is_right x.line t) (no_takes _ _ _ _ n (last_production _ r))))))

pub not_compared : (ts : List Token) → heads (keyword keyword'.Not) ts ≡ false → heads (keyword keyword'.Is) ts ≡ false →
    heads (one terminal'.Comparison) ts ≡ false → (t : Tree) → EndsAt (compared t) ts t
not_compared ts h i n t d = by_production (compared t) (no_takes _ _ _ _ h (no_takes _ _ _ _ i (no_takes _ _ _ _ n (yes_gives t []))))

right_of_mark : (m : Mark) (c : Comparison) → Some c ≡ mark_comparison m → right_of c ≡ chained level'.Sum
right_of_mark mark'.Equal c e = let p : c ≡ comparison'.Equal = cc in rw p refl
right_of_mark mark'.NotEqual c e = let p : c ≡ comparison'.NotEqual = cc in rw p refl
right_of_mark mark'.Less c e = let p : c ≡ comparison'.Less = cc in rw p refl
right_of_mark mark'.LessEqual c e = let p : c ≡ comparison'.LessEqual = cc in rw p refl
right_of_mark mark'.Greater c e = let p : c ≡ comparison'.Greater = cc in rw p refl
right_of_mark mark'.GreaterEqual c e = let p : c ≡ comparison'.GreaterEqual = cc in rw p refl
right_of_mark _ c e = cc

right_of_word : (w : Keyword) (c : Comparison) → Some c ≡ word_comparison w → right_of c ≡ chained level'.Sum
right_of_word keyword'.In c e = let p : c ≡ comparison'.In = cc in rw p refl
right_of_word _ c e = cc

right_of_kind : (k : TokenKind) (c : Comparison) → Some c ≡ comparison_of k → right_of c ≡ chained level'.Sum
right_of_kind (kind'.Mark m) c e = right_of_mark m c e
right_of_kind (kind'.Word w) c e = right_of_word w c e
right_of_kind _ c e = cc

pub comparison_at : (ts rest : List Token) (x : Token) (c : Comparison) → heads (keyword keyword'.Not) ts ≡ false →
    heads (keyword keyword'.Is) ts ≡ false → Taken (one terminal'.Comparison) ts x rest → Some c ≡ comparison_of x.kind →
    ComparisonAt ts x.line c rest
comparison_at ts rest x c h i a e d t out r =
    let p = right_of_kind x.kind c e in
    let is : c ≡ comparison_in x.kind = rw (← e) refl in
    by_production (compared t) (no_takes _ _ _ _ h (no_takes _ _ _ _ i (yes_takes _ _ a (rw (← is, ← p) r))))
