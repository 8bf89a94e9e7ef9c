-- A part that is read inside another, as one body: what stands behind it goes on from where its productions end.
use Rattle.std.proofs.Common.{◌≡◌, ℕ, suc, List, ◌∷◌, refl, subst, sym}
use Rattle.py_token.specs.declared.token.Token.{Token}
use Rattle.py_tree.specs.Tree.{Tree}
use Rattle.py_parse.specs.Terminals.{Want}
use Rattle.py_parse.specs.Grammar.{Part, Body, gives, takes, opens, reads, deeper}
use Rattle.py_parse.specs.Reading.{Outcome, ok, fault, Why, Reads, r_given, r_taken, r_refused, r_opened, r_deep, r_unopened, r_read, r_part_fault, r_nested, r_nested_fault, pick}

-- the body, and behind its tree what `k` reads
abbrev pub bind : Body → (Tree → Body) → Body
bind (gives t) k = k t
bind (takes w f) k = takes w (λ x. bind (f x) k)
bind (opens w f) k = opens w (λ x. bind (f x) k)
bind (reads p f) k = reads p (λ u. bind (f u) k)
bind (deeper p f) k = deeper p (λ u. bind (f u) k)

-- what was read of a bound body is the body's tree and then what stands behind it, or the body's fault
pub data Split (d : ℕ) (b : Body) (k : Tree → Body) (ts : List Token) (o : Outcome) : Type 0 where
  whole : (t : Tree) (rest : List Token) → Reads d b ts (ok t rest) → Reads d (k t) rest o → Split d b k ts o
  broken : (w : Why) (rest : List Token) → Reads d b ts (fault w rest) → o ≡ fault w rest → Split d b k ts o

split_token : (d : ℕ) (w : Want) (f : Token → Body) (k : Tree → Body) (x : Token) (ts : List Token) (o : Outcome) →
    ((o' : Outcome) → Reads d (f x) ts o' → Reads d (takes w f) (x ∷ ts) o') → Split d (f x) k ts o → Split d (takes w f) k (x ∷ ts) o
split_token d w f k x ts o up (whole t rest r s) = whole t rest (up _ r) s
split_token d w f k x ts o up (broken v rest r e) = broken v rest (up _ r) e

split_opener : (d : ℕ) (w : Want) (f : Token → Body) (k : Tree → Body) (x : Token) (ts : List Token) (o : Outcome) →
    ((o' : Outcome) → Reads d (f x) ts o' → Reads d (opens w f) (x ∷ ts) o') → Split d (f x) k ts o → Split d (opens w f) k (x ∷ ts) o
split_opener d w f k x ts o up (whole t rest r s) = whole t rest (up _ r) s
split_opener d w f k x ts o up (broken v rest r e) = broken v rest (up _ r) e

split_part : (d : ℕ) (p : Part) (f : Tree → Body) (k : Tree → Body) (u : Tree) (ts rest : List Token) (o : Outcome) →
    ((o' : Outcome) → Reads d (f u) rest o' → Reads d (reads p f) ts o') → Split d (f u) k rest o → Split d (reads p f) k ts o
split_part d p f k u ts rest o up (whole t rest' r s) = whole t rest' (up _ r) s
split_part d p f k u ts rest o up (broken v rest' r e) = broken v rest' (up _ r) e

split_deeper : (d : ℕ) (p : Part) (f : Tree → Body) (k : Tree → Body) (u : Tree) (ts rest : List Token) (o : Outcome) →
    ((o' : Outcome) → Reads d (f u) rest o' → Reads d (deeper p f) ts o') → Split d (f u) k rest o → Split d (deeper p f) k ts o
split_deeper d p f k u ts rest o up (whole t rest' r s) = whole t rest' (up _ r) s
split_deeper d p f k u ts rest o up (broken v rest' r e) = broken v rest' (up _ r) e

pub split : (b : Body) {d : ℕ} {k : Tree → Body} {ts : List Token} {o : Outcome} → Reads d (bind b k) ts o → Split d b k ts o
split (gives t) {ts = ts} r = whole t ts r_given r
split (takes w f) {d = d} {k = k} {o = o} (r_taken {x = x} {ts = ts} h r) = split_token d w f k x ts o (λ o' r'. r_taken h r') (split (f x) r)
split (takes w f) (r_refused {ts = ts} h) = broken _ ts (r_refused h) refl
split (opens w f) {k = k} {o = o} (r_opened {d = d} {x = x} {ts = ts} h r) = split_opener (suc d) w f k x ts o (λ o' r'. r_opened h r') (split (f x) r)
split (opens w f) (r_deep {ts = ts} h) = broken _ ts (r_deep h) refl
split (opens w f) (r_unopened {ts = ts} h) = broken _ ts (r_unopened h) refl
split (reads p f) {d = d} {k = k} {ts = ts} {o = o} (r_read u rest r s) = split_part d p f k u ts rest o (λ o' r'. r_read u rest r r') (split (f u) s)
split (reads p f) (r_part_fault {rest = rest} {w = w} r) = broken w rest (r_part_fault r) refl
split (deeper p f) {k = k} {ts = ts} {o = o} (r_nested {d = d} u rest r s) = split_deeper (suc d) p f k u ts rest o (λ o' r'. r_nested u rest r r') (split (f u) s)
split (deeper p f) (r_nested_fault {rest = rest} {w = w} r) = broken w rest (r_nested_fault r) refl

joined : {d : ℕ} (p : Part) (k : Tree → Body) (b : Body) (ts : List Token) (o : Outcome) →
    ((o' : Outcome) → Reads d b ts o' → Reads d (pick p ts) ts o') → Split d b k ts o → Reads d (reads p k) ts o
joined p k b ts o up (whole t rest r s) = r_read t rest (up _ r) s
joined {d = d} p k b ts o up (broken w rest r e) = subst (λ v. Reads d (reads p k) ts v) (sym e) (r_part_fault (up _ r))

-- where a part is read by this body, so is what stands behind it
pub reads_by : {d : ℕ} (p : Part) (k : Tree → Body) (b : Body) {ts : List Token} {o : Outcome} →
    ((o' : Outcome) → Reads d b ts o' → Reads d (pick p ts) ts o') → Reads d (bind b k) ts o → Reads d (reads p k) ts o
reads_by {d = d} p k b {ts = ts} {o = o} up r = joined p k b ts o up (split b r)

-- bodies of which the second is read wherever the first is
abbrev pub Covers : Body → Body → Type 0
Covers b c = (d : ℕ) (ts : List Token) (o : Outcome) → Reads d b ts o → Reads d c ts o

pub covers_given : (t u : Tree) → t ≡ u → Covers (gives t) (gives u)
covers_given t u e = λ d ts o r. subst (λ v. Reads d (gives v) ts o) e r

pub covers_taken : (w : Want) (f g : Token → Body) → ((x : Token) → Covers (f x) (g x)) →
    (d : ℕ) (ts : List Token) (o : Outcome) → Reads d (takes w f) ts o → Reads d (takes w g) ts o
covers_taken w f g h d ts o (r_taken {x = x} {ts = rest} p r) = r_taken p (h x d rest o r)
covers_taken w f g h d ts o (r_refused p) = r_refused p

pub covers_read : (p : Part) (f g : Tree → Body) → ((u : Tree) → Covers (f u) (g u)) →
    (d : ℕ) (ts : List Token) (o : Outcome) → Reads d (reads p f) ts o → Reads d (reads p g) ts o
covers_read p f g h d ts o (r_read u rest r s) = r_read u rest r (h u d rest o s)
covers_read p f g h d ts o (r_part_fault r) = r_part_fault r

pub covers_opened : (w : Want) (f g : Token → Body) → ((x : Token) → Covers (f x) (g x)) →
    (d : ℕ) (ts : List Token) (o : Outcome) → Reads d (opens w f) ts o → Reads d (opens w g) ts o
covers_opened w f g h _ _ o (r_opened {d = d} {x = x} {ts = rest} p r) = r_opened p (h x (suc d) rest o r)
covers_opened w f g h _ _ o (r_deep p) = r_deep p
covers_opened w f g h _ _ o (r_unopened p) = r_unopened p

pub covers_nested : (p : Part) (f g : Tree → Body) → ((u : Tree) → Covers (f u) (g u)) →
    (d : ℕ) (ts : List Token) (o : Outcome) → Reads d (deeper p f) ts o → Reads d (deeper p g) ts o
covers_nested p f g h _ ts o (r_nested {d = d} u rest r s) = r_nested u rest r (h u (suc d) rest o s)
covers_nested p f g h _ ts o (r_nested_fault r) = r_nested_fault r
