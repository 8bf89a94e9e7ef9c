-- The parameters of a function: those without a default, then those with one.
use Rattle.std.proofs.Common.{◌≡◌, ℕ, List, [], ◌∷◌, ◌++◌, false, refl, Result}
use Rattle.py_token.specs.declared.mark.Mark.TheVariants as mark'
use Rattle.py_token.specs.declared.token.Token.{Token}
use Rattle.py_tree.specs.Tree.{Tree, nil, cons, absent, trees, parameter}
use Rattle.py_parse.specs.declared.stop.Stop.{Stop}
use Rattle.py_parse.specs.Terminals.{fresh, heads}
use Rattle.py_parse.specs.Grammar.{Part, gives, reads, mark, expr, params, param_rest, defaults, defaults_rest}
use Rattle.py_parse.specs.Reading.{Outcome, ok, fault, Why, unfit, Reads, r_read, r_part_fault, r_refused, r_given, pick}
use Rattle.py_parse.specs.Agrees.{Taken, Agrees, FreshAt, behind, onto, all_behind, defaults_from}
use Rattle.py_parse.proofs.Cases.{by_production, takes_at, given_at, yes_takes, yes_gives, no_takes, reads_gives, reads_behind, agrees_over, onto_trees, onto_snoc, all_behind_none, all_behind_one}

-- whatever the parameters behind give, all of them give behind those found
abbrev pub ParamsGoOn : ℕ → List Token → List (List ℕ) → List Tree → List Token → Type 0
ParamsGoOn d ts seen found rest = (o : Outcome) → Reads d (pick (params seen) rest) rest o → Reads d (pick (params []) ts) ts (all_behind found o)

pub params_start : (d : ℕ) (ts : List Token) (seen : List (List ℕ)) (found : List Tree) → seen ≡ [] → found ≡ [] → ParamsGoOn d ts seen found ts
params_start d ts seen found e f o r = rw (f, all_behind_none o) (rw e at r)

pub params_none : (d : ℕ) (seen : List (List ℕ)) (ts : List Token) → heads (fresh seen) ts ≡ false → Reads d (pick (params seen) ts) ts (ok nil ts)
params_none d seen ts h = by_production (params seen) (no_takes _ _ _ _ h (yes_gives nil []))

pub params_end : (d : ℕ) (ts : List Token) (seen : List (List ℕ)) (found : List Tree) (rest rest' : List Token) → ParamsGoOn d ts seen found rest →
    Reads d (pick (params seen) rest) rest (ok nil rest') → Reads d (pick (params []) ts) ts (ok (trees found) rest')
params_end d ts seen found rest rest' c r = rw (← onto_trees found) (c (ok nil rest') r)

param_at : (d : ℕ) (seen : List (List ℕ)) (ts rest : List Token) (line : ℕ) (name : List ℕ) (o : Outcome) → FreshAt seen ts line name rest →
    Reads d (pick (param_rest (seen ++ name ∷ []) line name) rest) rest o → Reads d (pick (params seen) ts) ts o
param_at d seen ts rest line name o a r =
    by_production (params seen) (yes_takes _ _ a.taking (reads_gives (rw (a.called, a.on_line) at r)))

pub params_last : (d : ℕ) (ts : List Token) (seen : List (List ℕ)) (found found' : List Tree) (rest rest' : List Token) (line : ℕ) (name : List ℕ) →
    ParamsGoOn d ts seen found rest → FreshAt seen rest line name rest' → heads (mark mark'.Assign) rest' ≡ false →
    heads (mark mark'.Comma) rest' ≡ false → found' ≡ found ++ parameter line name absent ∷ [] → Reads d (pick (params []) ts) ts (ok (trees found') rest')
params_last d ts seen found found' rest rest' line name c a h i e =
    let p : Tree = parameter line name absent in
    let r : Reads d (pick (params seen) rest) rest (ok (cons p nil) rest') =
    param_at d seen rest rest' line name _ a
    (by_production (param_rest (seen ++ name ∷ []) line name) (no_takes _ _ _ _ h (no_takes _ _ _ _ i (yes_gives (cons p nil) [])))) in
    rw (← onto_trees found', e) (rw (← all_behind_one found p (ok nil rest')) at (c (ok (cons p nil) rest') r))

pub params_more : (d : ℕ) (ts : List Token) (seen seen' : List (List ℕ)) (found found' : List Tree) (rest rest1 rest2 : List Token) (x : Token) (line : ℕ) (name : List ℕ) →
    ParamsGoOn d ts seen found rest → FreshAt seen rest line name rest1 → heads (mark mark'.Assign) rest1 ≡ false →
    Taken (mark mark'.Comma) rest1 x rest2 → seen' ≡ seen ++ name ∷ [] → found' ≡ found ++ parameter line name absent ∷ [] →
    ParamsGoOn d ts seen' found' rest2
params_more d ts seen seen' found found' rest rest1 rest2 x line name c a h b f e o r =
    let p : Tree = parameter line name absent in
    let q : Reads d (pick (params seen) rest) rest (behind p o) =
    param_at d seen rest rest1 line name _ a
    (by_production (param_rest (seen ++ name ∷ []) line name) (no_takes _ _ _ _ h (yes_takes _ _ b (reads_behind p o (rw f at r))))) in
    rw (e, all_behind_one found p o) (c (behind p o) q)

-- what is given behind parameters found is given behind them
pub record Behind (d : ℕ) (seen : List (List ℕ)) (found : List Tree) (line : ℕ) (name : List ℕ) (ts : List Token) (o : Outcome) : Type 0 where
  pub alone : Outcome
  pub reading : Reads d (defaults_from seen [] line name) ts alone
  pub joined : o ≡ all_behind found alone

pub behind_found : (d : ℕ) (seen : List (List ℕ)) (found : List Tree) (line : ℕ) (name : List ℕ) (ts : List Token) (o : Outcome) →
    Reads d (defaults_from seen found line name) ts o → Behind d seen found line name ts o
behind_found d seen found line name ts _ (r_read v rest r (r_read u rest' s r_given)) =
    record { alone = ok (cons (parameter line name v) u) rest'; reading = r_read v rest r (r_read u rest' s r_given); joined = refl }
behind_found d seen found line name ts _ (r_read v rest r (r_part_fault {rest = r9} {w = w} s)) =
    record { alone = fault w r9; reading = r_read v rest r (r_part_fault s); joined = refl }
behind_found d seen found line name ts _ (r_part_fault {rest = r9} {w = w} r) =
    record { alone = fault w r9; reading = r_part_fault r; joined = refl }

-- a parameter with a default: the others behind it have one too
pub params_default : (d : ℕ) (ts : List Token) (seen : List (List ℕ)) (found : List Tree) (rest rest1 rest2 : List Token) (x : Token) (line : ℕ) (name : List ℕ) (o : Outcome) →
    ParamsGoOn d ts seen found rest → FreshAt seen rest line name rest1 → Taken (mark mark'.Assign) rest1 x rest2 →
    Reads d (defaults_from seen found line name) rest2 o → Reads d (pick (params []) ts) ts o
params_default d ts seen found rest rest1 rest2 x line name o c a b r =
    let s : Behind d seen found line name rest2 o = behind_found d seen found line name rest2 o r in
    let q : Reads d (pick (params seen) rest) rest s.alone =
    param_at d seen rest rest1 line name _ a (by_production (param_rest (seen ++ name ∷ []) line name) (yes_takes _ _ b s.reading)) in
    rw s.joined (c s.alone q)

pub params_default_answers : {X : Type 0} (view : X → Outcome) (res : Result X Stop) (d : ℕ) (ts : List Token) (seen : List (List ℕ)) (found : List Tree)
    (rest rest1 rest2 : List Token) (x : Token) (line : ℕ) (name : List ℕ) → ParamsGoOn d ts seen found rest → FreshAt seen rest line name rest1 →
    Taken (mark mark'.Assign) rest1 x rest2 → Agrees view res (Reads d (defaults_from seen found line name) rest2) →
    Agrees view res (Reads d (pick (params []) ts) ts)
params_default_answers view res d ts seen found rest rest1 rest2 x line name c a b r =
    agrees_over view res (Reads d (defaults_from seen found line name) rest2) _ (λ o q. params_default d ts seen found rest rest1 rest2 x line name o c a b q) r

-- parameters with defaults
pub defaults_fault : (d : ℕ) (seen : List (List ℕ)) (found : List Tree) (line : ℕ) (name : List ℕ) (ts r9 : List Token) (w : Why) →
    Reads d (pick expr ts) ts (fault w r9) → Reads d (defaults_from seen found line name) ts (fault w r9)
defaults_fault d seen found line name ts r9 w r = r_part_fault r

reads_onto : {d : ℕ} {p : Part} {ts : List Token} (found : List Tree) (t : Tree) (o : Outcome) → Reads d (pick p ts) ts o →
    Reads d (reads p (λ u. gives (onto found (cons t u)))) ts (all_behind (found ++ t ∷ []) o)
reads_onto found t (ok u rest) r = r_read u rest r (given_at (onto_snoc found t u))
reads_onto found t (fault w rest) r = r_part_fault r

-- the default stands here, and behind it what is given
pub record Defaulted (d : ℕ) (seen' : List (List ℕ)) (seen : List (List ℕ)) (found' : List Tree) (found : List Tree) (line : ℕ) (name : List ℕ) (ts rest : List Token) : Type 0 where
  pub value : Tree
  pub reading : Reads d (pick expr ts) ts (ok value rest)
  pub seen_is : seen' ≡ seen ++ name ∷ []
  pub found_is : found' ≡ found ++ parameter line name value ∷ []

defaulted_at : (d : ℕ) (seen' seen : List (List ℕ)) (found' found : List Tree) (line : ℕ) (name : List ℕ) (ts rest : List Token) (o : Outcome) →
    Defaulted d seen' seen found' found line name ts rest → Reads d (pick (defaults_rest seen') rest) rest o →
    Reads d (defaults_from seen found line name) ts (all_behind found' o)
defaulted_at d seen' seen found' found line name ts rest o a r =
    rw a.found_is (r_read a.value rest a.reading (reads_onto found (parameter line name a.value) o (rw a.seen_is at r)))

pub defaults_end : (d : ℕ) (seen' seen : List (List ℕ)) (found' found : List Tree) (line : ℕ) (name : List ℕ) (ts rest rest' : List Token) →
    Defaulted d seen' seen found' found line name ts rest → Reads d (pick (defaults_rest seen') rest) rest (ok nil rest') →
    Reads d (defaults_from seen found line name) ts (ok (trees found') rest')
defaults_end d seen' seen found' found line name ts rest rest' a r = rw (← onto_trees found') (defaulted_at d seen' seen found' found line name ts rest (ok nil rest') a r)

pub no_comma : (d : ℕ) (seen : List (List ℕ)) (ts : List Token) → heads (mark mark'.Comma) ts ≡ false → Reads d (pick (defaults_rest seen) ts) ts (ok nil ts)
no_comma d seen ts h = by_production (defaults_rest seen) (no_takes _ _ _ _ h (yes_gives nil []))

behind_comma : (d : ℕ) (seen : List (List ℕ)) (ts rest : List Token) (x : Token) (o : Outcome) → Taken (mark mark'.Comma) ts x rest →
    Reads d (pick (defaults seen) rest) rest o → Reads d (pick (defaults_rest seen) ts) ts o
behind_comma d seen ts rest x o a r = by_production (defaults_rest seen) (yes_takes _ _ a (reads_gives r))

pub last_comma : (d : ℕ) (seen : List (List ℕ)) (ts rest : List Token) (x : Token) → Taken (mark mark'.Comma) ts x rest →
    heads (fresh seen) rest ≡ false → Reads d (pick (defaults_rest seen) ts) ts (ok nil rest)
last_comma d seen ts rest x a h = behind_comma d seen ts rest x _ a (by_production (defaults seen) (no_takes _ _ _ _ h (yes_gives nil [])))

pub defaults_unfit : (d : ℕ) (seen' seen : List (List ℕ)) (found' found : List Tree) (line : ℕ) (name : List ℕ) (ts rest rest1 rest2 : List Token) (x : Token) (line' : ℕ) (name' : List ℕ) →
    Defaulted d seen' seen found' found line name ts rest → Taken (mark mark'.Comma) rest x rest1 → FreshAt seen' rest1 line' name' rest2 →
    heads (mark mark'.Assign) rest2 ≡ false → Reads d (defaults_from seen found line name) ts (fault unfit rest2)
defaults_unfit d seen' seen found' found line name ts rest rest1 rest2 x line' name' a b f h =
    defaulted_at d seen' seen found' found line name ts rest (fault unfit rest2) a
    (behind_comma d seen' rest rest1 x _ b (by_production (defaults seen') (yes_takes _ _ f.taking (r_refused h))))

default_next : (d : ℕ) (seen : List (List ℕ)) (ts rest rest' : List Token) (x : Token) (line : ℕ) (name : List ℕ) (o : Outcome) → FreshAt seen ts line name rest →
    Taken (mark mark'.Assign) rest x rest' → Reads d (defaults_from seen [] line name) rest' o → Reads d (pick (defaults seen) ts) ts o
default_next d seen ts rest rest' x line name o f a r =
    by_production (defaults seen) (yes_takes _ _ f.taking (takes_at _ a (rw (f.called, f.on_line) at r)))

pub defaults_more : (d : ℕ) (seen' seen : List (List ℕ)) (found' found : List Tree) (line : ℕ) (name : List ℕ) (ts rest rest1 rest2 rest3 : List Token) (x y : Token) (line' : ℕ) (name' : List ℕ) (o : Outcome) →
    Defaulted d seen' seen found' found line name ts rest → Taken (mark mark'.Comma) rest x rest1 → FreshAt seen' rest1 line' name' rest2 →
    Taken (mark mark'.Assign) rest2 y rest3 → Reads d (defaults_from seen' found' line' name') rest3 o → Reads d (defaults_from seen found line name) ts o
defaults_more d seen' seen found' found line name ts rest rest1 rest2 rest3 x y line' name' o a b f g r =
    let s : Behind d seen' found' line' name' rest3 o = behind_found d seen' found' line' name' rest3 o r in
    rw s.joined (defaulted_at d seen' seen found' found line name ts rest s.alone a
    (behind_comma d seen' rest rest1 x _ b (default_next d seen' rest1 rest2 rest3 y line' name' s.alone f g s.reading)))
