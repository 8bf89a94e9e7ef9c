-- The rules of `Reads` over plain variables, as the functions' goals need them.
use Rattle.std.proofs.Common.{◌≡◌, ◌≢◌, ℕ, zero, suc, ◌-◌, ◌<◌, List, [], ◌∷◌, ◌++◌, ◌==◌, true, false, refl, ap, ◌∙◌, map, length, arith, Result, Ok, Err, IsErrAnd}
use Rattle.py_token.specs.declared.token.Token.{Token}
use Rattle.py_tree.specs.Tree.{Tree, nil, cons, trees, chain, post}
use Rattle.py_parse.specs.declared.stop.Stop.{Stop}
use Rattle.py_parse.specs.declared.stop.Stop.TheVariants as stop'
use Rattle.py_parse.specs.Terminals.{Want, one, heads}
use Rattle.py_parse.specs.Grammar.{Part, Body, gives, takes, opens, reads, deeper, productions, chain_of, post_of}
use Rattle.py_parse.specs.Reading.{Outcome, ok, fault, Why, unfit, deep, Reads, r_given, r_taken, r_opened, r_deep, r_read, r_part_fault, r_nested, r_nested_fault, pick, choose, leads, beginning}
use Rattle.py_parse.specs.Agrees.{Taken, AgreesOnStop, Agrees, behind, onto, all_behind}

pub heads_of : {w : Want} {ts rest : List Token} {x : Token} → Taken w ts x rest → heads w ts ≡ true
heads_of {w = w} t = rw t.parts t.fitting

pub choose_yes : {d : ℕ} {ts : List Token} {o : Outcome} (b : Body) (bs : List Body) →
    leads b ts ≡ true → Reads d b ts o → Reads d (choose (b ∷ bs) ts) ts o
unfolding choose
choose_yes b [] h r = r
choose_yes b (c ∷ cs) h r = rw h r

pub choose_no : {d : ℕ} {ts : List Token} {o : Outcome} (b c : Body) (cs : List Body) →
    leads b ts ≡ false → Reads d (choose (c ∷ cs) ts) ts o → Reads d (choose (b ∷ (c ∷ cs)) ts) ts o
unfolding choose
choose_no b c cs h r = rw h r

-- the part is read by one of its productions
pub by_production : {d : ℕ} {ts : List Token} {o : Outcome} (p : Part) → Reads d (choose (productions p) ts) ts o → Reads d (pick p ts) ts o
unfolding pick
by_production p r = r

pub last_production : {d : ℕ} {ts : List Token} {o : Outcome} (b : Body) → Reads d b ts o → Reads d (choose (b ∷ []) ts) ts o
unfolding choose
last_production b r = r

pub takes_at : {d : ℕ} {w : Want} {ts rest : List Token} {x : Token} {o : Outcome} (k : Token → Body) →
    Taken w ts x rest → Reads d (k x) rest o → Reads d (takes w k) ts o
takes_at k t r = rw t.parts (r_taken t.fitting r)

pub opens_at : (d : ℕ) {w : Want} {ts rest : List Token} {x : Token} {o : Outcome} (k : Token → Body) →
    d ≢ 0 → Taken w ts x rest → Reads d (k x) rest o → Reads d (opens w k) ts o
opens_at zero k h t r = absurd (h refl)
opens_at (suc d) k h t r = rw t.parts (r_opened t.fitting r)

pub deep_at : (d : ℕ) {w : Want} {ts rest : List Token} {x : Token} (k : Token → Body) →
    d ≡ 0 → Taken w ts x rest → Reads d (opens w k) ts (fault deep ts)
deep_at d k h t = rw h (r_deep (heads_of t))

-- one level fewer is left
pub one_fewer : (d : ℕ) → suc d - 1 ≡ d
one_fewer d = omega arith

pub deeper_at : (d : ℕ) {p : Part} {ts : List Token} {o : Outcome} (k : Tree → Body) (u : Tree) (rest : List Token) →
    d ≢ 0 → Reads (d - 1) (pick p ts) ts (ok u rest) → Reads d (k u) rest o → Reads d (deeper p k) ts o
deeper_at zero k u rest h r s = absurd (h refl)
deeper_at (suc d) k u rest h r s = r_nested u rest (rw one_fewer at r) s

pub deeper_fault : (d : ℕ) {p : Part} {ts rest : List Token} {w : Why} (k : Tree → Body) →
    d ≢ 0 → Reads (d - 1) (pick p ts) ts (fault w rest) → Reads d (deeper p k) ts (fault w rest)
deeper_fault zero k h r = absurd (h refl)
deeper_fault (suc d) k h r = r_nested_fault (rw one_fewer at r)

-- the first production begins with the token that stands here, or doesn't
pub yes_takes : {d : ℕ} {w : Want} {ts rest : List Token} {x : Token} {o : Outcome} (k : Token → Body) (bs : List Body) →
    Taken w ts x rest → Reads d (k x) rest o → Reads d (choose (takes w k ∷ bs) ts) ts o
unfolding leads
yes_takes k bs t r = choose_yes (takes _ k) bs (heads_of t) (takes_at k t r)

pub yes_opens : (d : ℕ) {w : Want} {ts rest : List Token} {x : Token} {o : Outcome} (k : Token → Body) (bs : List Body) →
    d ≢ 0 → Taken w ts x rest → Reads d (k x) rest o → Reads d (choose (opens w k ∷ bs) ts) ts o
unfolding leads
yes_opens d k bs h t r = choose_yes (opens _ k) bs (heads_of t) (opens_at d k h t r)

pub yes_deep : (d : ℕ) {w : Want} {ts rest : List Token} {x : Token} (k : Token → Body) (bs : List Body) →
    d ≡ 0 → Taken w ts x rest → Reads d (choose (opens w k ∷ bs) ts) ts (fault deep ts)
unfolding leads
yes_deep d k bs h t = choose_yes (opens _ k) bs (heads_of t) (deep_at d k h t)

pub yes_gives : {d : ℕ} {ts : List Token} (t : Tree) (bs : List Body) → Reads d (choose (gives t ∷ bs) ts) ts (ok t ts)
unfolding leads
yes_gives t bs = choose_yes (gives t) bs refl r_given

pub no_takes : {d : ℕ} {ts : List Token} {o : Outcome} (w : Want) (k : Token → Body) (c : Body) (cs : List Body) →
    heads w ts ≡ false → Reads d (choose (c ∷ cs) ts) ts o → Reads d (choose (takes w k ∷ (c ∷ cs)) ts) ts o
unfolding leads
no_takes w k c cs h r = choose_no (takes w k) c cs h r

pub no_opens : {d : ℕ} {ts : List Token} {o : Outcome} (w : Want) (k : Token → Body) (c : Body) (cs : List Body) →
    heads w ts ≡ false → Reads d (choose (c ∷ cs) ts) ts o → Reads d (choose (opens w k ∷ (c ∷ cs)) ts) ts o
unfolding leads
no_opens w k c cs h r = choose_no (opens w k) c cs h r

pub yes_reads : {d : ℕ} {p : Part} {ts : List Token} {o : Outcome} (k : Tree → Body) (bs : List Body) →
    heads (one (beginning p)) ts ≡ true → Reads d (reads p k) ts o → Reads d (choose (reads p k ∷ bs) ts) ts o
unfolding leads
yes_reads {p = p} k bs h r = choose_yes (reads p k) bs h r

pub no_reads : {d : ℕ} {ts : List Token} {o : Outcome} (p : Part) (k : Tree → Body) (c : Body) (cs : List Body) →
    heads (one (beginning p)) ts ≡ false → Reads d (choose (c ∷ cs) ts) ts o → Reads d (choose (reads p k ∷ (c ∷ cs)) ts) ts o
unfolding leads
no_reads p k c cs h r = choose_no (reads p k) c cs h r

pub given_at : {d : ℕ} {t v : Tree} {ts : List Token} → v ≡ t → Reads d (gives t) ts (ok v ts)
given_at e = rw e r_given

-- a part in last place ends the whole as it ends
pub reads_gives : {d : ℕ} {p : Part} {ts : List Token} {o : Outcome} → Reads d (pick p ts) ts o → Reads d (reads p gives) ts o
reads_gives {o = ok u rest} r = r_read u rest r r_given
reads_gives {o = fault w rest} r = r_part_fault r

pub deeper_gives : (d : ℕ) {p : Part} {ts : List Token} {o : Outcome} → d ≢ 0 → Reads (d - 1) (pick p ts) ts o → Reads d (deeper p gives) ts o
deeper_gives d {o = ok u rest} h r = deeper_at d gives u rest h r r_given
deeper_gives d {o = fault w rest} h r = deeper_fault d gives h r

-- what an answer agrees with, carried over to what stands around it
pub stops_over : (s : Stop) (P Q : Outcome → Type 0) → ((w : Why) (rest : List Token) → P (fault w rest) → Q (fault w rest)) →
    AgreesOnStop s P → AgreesOnStop s Q
stops_over (stop'.At rest) P Q f h = f unfit rest.now h
stops_over (stop'.TooDeep rest) P Q f h = f deep rest.now h
stops_over stop'.Memory P Q f h = tt

pub agrees_over : {X : Type 0} (view : X → Outcome) (r : Result X Stop) (P Q : Outcome → Type 0) →
    ((o : Outcome) → P o → Q o) → Agrees view r P → Agrees view r Q
agrees_over view (Ok x) P Q f h = f (view x) h
agrees_over view (Err s) P Q f h = stops_over s P Q (λ w rest. f (fault w rest)) h

-- the same list with one more part at its end, in front of what follows
pub onto_snoc : (xs : List Tree) (x u : Tree) → onto (xs ++ x ∷ []) u ≡ onto xs (cons x u)
onto_snoc [] x u = refl
onto_snoc (y ∷ ys) x u = ap (cons y) (onto_snoc ys x u)

pub onto_trees : (xs : List Tree) → onto xs nil ≡ trees xs
onto_trees [] = refl
onto_trees (x ∷ xs) = ap (cons x) (onto_trees xs)

pub all_behind_none : (o : Outcome) → all_behind [] o ≡ o
all_behind_none (ok u rest) = refl
all_behind_none (fault w rest) = refl

pub all_behind_one : (xs : List Tree) (x : Tree) (o : Outcome) → all_behind (xs ++ x ∷ []) o ≡ all_behind xs (behind x o)
all_behind_one xs x (ok u rest) = ap (λ t. ok t rest) (onto_snoc xs x u)
all_behind_one xs x (fault w rest) = refl

pub reads_behind : {d : ℕ} {p : Part} {ts : List Token} (t : Tree) (o : Outcome) →
    Reads d (pick p ts) ts o → Reads d (reads p (λ u. gives (cons t u))) ts (behind t o)
reads_behind t (ok u rest) r = r_read u rest r r_given
reads_behind t (fault w rest) r = r_part_fault r

pub taken_shorter : {w : Want} {ts rest : List Token} {x : Token} → Taken w ts x rest → length rest < length ts
taken_shorter {rest = rest} t = rw t.parts (omega arith)

-- want of memory says nothing
pub stopped : {X : Type 0} (view : X → Outcome) (r : Result X Stop) (P : Outcome → Type 0) →
    IsErrAnd r (λ s. s ≡ stop'.Memory) → Agrees view r P
stopped view (Ok x) P h = elim h [ ]
stopped view (Err s) P h = rw h tt

-- a call's stop is the whole's
pub stopped_by : {X : Type 0} (view : X → Outcome) (r : Result X Stop) (P Q : Outcome → Type 0) (s : Stop) →
    IsErrAnd r (λ e. e ≡ s) → ((w : Why) (rest : List Token) → P (fault w rest) → Q (fault w rest)) → AgreesOnStop s P → Agrees view r Q
stopped_by view (Ok x) P Q s h f a = elim h [ ]
stopped_by view (Err e) P Q s h f a = rw h (stops_over s P Q f a)

pub empty_list : {A : Type 0} (xs : List A) → length xs ≡ 0 → xs ≡ []
empty_list [] e = refl
empty_list (x ∷ xs) e = cc

pub chain_some : {A : Type 0} (f : A → Tree) (t : Tree) (xs : List A) → (length xs ≡ 0 → ⊥) → chain_of t (trees (map f xs)) ≡ chain t (trees (map f xs))
chain_some f t [] h = absurd (h refl)
chain_some f t (x ∷ xs) h = refl

pub post_some : {A : Type 0} (f : A → Tree) (t : Tree) (xs : List A) → (length xs ≡ 0 → ⊥) → post_of t (trees (map f xs)) ≡ post t (trees (map f xs))
post_some f t [] h = absurd (h refl)
post_some f t (x ∷ xs) h = refl

pub not_empty : (n m : ℕ) → n ≡ m → false ≡ (n == 0) → m ≡ 0 → ⊥
not_empty n m e f h = let p : n ≡ 0 = e ∙ h in let q : false ≡ true = f ∙ ap (λ k. k == 0) p in cc

map_snoc : {A : Type 0} (f : A → Tree) (xs : List A) (x : A) → map f (xs ++ x ∷ []) ≡ map f xs ++ f x ∷ []
map_snoc f [] x = refl
map_snoc f (y ∷ ys) x = ap (λ l. f y ∷ l) (map_snoc f ys x)

-- a list with one more item at its end, seen as trees
pub map_more : {A : Type 0} (f : A → Tree) (xs ys : List A) (x : A) → ys ≡ xs ++ x ∷ [] → map f ys ≡ map f xs ++ f x ∷ []
map_more f xs ys x e = rw e (map_snoc f xs x)
