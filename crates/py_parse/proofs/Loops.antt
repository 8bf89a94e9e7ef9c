-- What a loop over the parts of a list keeps: whatever the rest of the list gives, the whole list gives behind what
-- was found so far.
use Rattle.std.proofs.Common.{◌≡◌, ℕ, ◌≤◌, List, [], ◌∷◌, ◌++◌, false, true, length, refl}
use Rattle.py_token.specs.declared.token.Token.{Token}
use Rattle.py_token.specs.declared.mark.Mark.TheVariants as mark'
use Rattle.py_tree.specs.Tree.{Tree, nil, cons, trees, operation, word}
use Rattle.py_tree.specs.declared.expr.Operator.{Operator}
use Rattle.py_parse.specs.declared.level.Level.{Level}
use Rattle.py_parse.specs.declared.terminal.Terminal.TheVariants as terminal'
use Rattle.py_parse.specs.Terminals.{one, heads, name_in}
use Rattle.py_parse.specs.Grammar.{Part, Body, operations, operand, links, one_link, pairs, names, names_rest, mark}
use Rattle.py_parse.specs.Reading.{Outcome, ok, fault, Why, unfit, Reads, r_read, r_part_fault, r_refused, pick, beginning}
use Rattle.py_parse.specs.Agrees.{Taken, OperatorAt, NameAt, behind, all_behind}
use Rattle.py_parse.proofs.Shorter.{shorter}
use Rattle.py_parse.proofs.Cases.{by_production, last_production, takes_at, yes_takes, yes_gives, yes_reads, no_takes, no_reads, reads_gives, given_at, reads_behind, all_behind_none, all_behind_one, onto_trees}

abbrev pub Continues : ℕ → Part → List Token → List Token → List Tree → Type 0
Continues d p ts rest found = (o : Outcome) → Reads d (pick p rest) rest o → Reads d (pick p ts) ts (all_behind found o)

-- one more part stands here
abbrev pub Step : ℕ → Part → List Token → List Token → Tree → Type 0
Step d p ts rest x = (o : Outcome) → Reads d (pick p rest) rest o → Reads d (pick p ts) ts (behind x o)

pub continues_start : (d : ℕ) (p : Part) (ts : List Token) (found : List Tree) → found ≡ [] → Continues d p ts ts found
continues_start d p ts found e o r = rw (e, all_behind_none o) r

pub continues_more : (d : ℕ) (p : Part) (ts rest rest' : List Token) (found found' : List Tree) (x : Tree) →
    Continues d p ts rest found → Step d p rest rest' x → found' ≡ found ++ x ∷ [] → Continues d p ts rest' found'
continues_more d p ts rest rest' found found' x c s e o r = rw (e, all_behind_one found x o) (c (behind x o) (s o r))

pub continues_end : (d : ℕ) (p : Part) (ts rest rest' : List Token) (found : List Tree) →
    Continues d p ts rest found → Reads d (pick p rest) rest (ok nil rest') → Reads d (pick p ts) ts (ok (trees found) rest')
continues_end d p ts rest rest' found c r = rw (← onto_trees found) (c (ok nil rest') r)

pub continues_last : (d : ℕ) (p : Part) (ts rest rest' : List Token) (found found' : List Tree) (x : Tree) →
    Continues d p ts rest found → Reads d (pick p rest) rest (ok (cons x nil) rest') → found' ≡ found ++ x ∷ [] →
    Reads d (pick p ts) ts (ok (trees found') rest')
continues_last d p ts rest rest' found found' x c r e =
    rw (← onto_trees found', e) (rw (← all_behind_one found x (ok nil rest')) at (c (ok (cons x nil) rest') r))

pub continues_fault : (d : ℕ) (p : Part) (ts rest r9 : List Token) (w : Why) (found : List Tree) →
    Continues d p ts rest found → Reads d (pick p rest) rest (fault w r9) → Reads d (pick p ts) ts (fault w r9)
continues_fault d p ts rest r9 w found c r = c (fault w r9) r

pub read_shorter : {d : ℕ} {b : Body} {ts rest : List Token} {t : Tree} → Reads d b ts (ok t rest) → length rest ≤ length ts
read_shorter r = shorter r

-- operators of one level
pub operations_none : (d : ℕ) (l : Level) (ts : List Token) → heads (one (terminal'.Operator l)) ts ≡ false →
    Reads d (pick (operations l) ts) ts (ok nil ts)
operations_none d l ts h = by_production (operations l) (no_takes _ _ _ _ h (yes_gives nil []))

pub operations_fault : (d : ℕ) (l : Level) (ts rest r9 : List Token) (line : ℕ) (o : Operator) (w : Why) →
    OperatorAt l ts line o rest → Reads d (pick (operand l) rest) rest (fault w r9) → Reads d (pick (operations l) ts) ts (fault w r9)
operations_fault d l ts rest r9 line o w a r = by_production (operations l) (yes_takes _ _ a.taking (r_part_fault r))

pub operations_more : (d : ℕ) (l : Level) (ts rest rest' : List Token) (line : ℕ) (o : Operator) (t v : Tree) →
    OperatorAt l ts line o rest → Reads d (pick (operand l) rest) rest (ok t rest') → v ≡ operation line o t →
    Step d (operations l) ts rest' v
operations_more d l ts rest rest' line o t v a r e out s =
    by_production (operations l) (yes_takes _ _ a.taking (r_read t rest' r (rw (e, a.on_line, a.which) (reads_behind _ out s))))

-- what stands behind an atom
pub links_none : (d : ℕ) (ts : List Token) → heads (one terminal'.Link) ts ≡ false → Reads d (pick links ts) ts (ok nil ts)
unfolding beginning
links_none d ts h = by_production links (no_reads _ _ _ _ h (yes_gives nil []))

pub links_fault : (d : ℕ) (ts r9 : List Token) (w : Why) → heads (one terminal'.Link) ts ≡ true →
    Reads d (pick one_link ts) ts (fault w r9) → Reads d (pick links ts) ts (fault w r9)
unfolding beginning
links_fault d ts r9 w h r = by_production links (yes_reads _ _ h (r_part_fault r))

pub links_more : (d : ℕ) (ts rest : List Token) (t v : Tree) → heads (one terminal'.Link) ts ≡ true →
    Reads d (pick one_link ts) ts (ok t rest) → v ≡ t → Step d links ts rest v
unfolding beginning
links_more d ts rest t v h r e out s = by_production links (yes_reads _ _ h (r_read t rest r (rw e (reads_behind t out s))))

-- the pairs of a dict display
pub pairs_none : (d : ℕ) (ts : List Token) → heads (one terminal'.Expression) ts ≡ false → Reads d (pick pairs ts) ts (ok nil ts)
unfolding beginning
pairs_none d ts h = by_production pairs (no_reads _ _ _ _ h (yes_gives nil []))

-- names with commas between them
pub names_unfit : (d : ℕ) (ts : List Token) → heads (one terminal'.Name) ts ≡ false → Reads d (pick names ts) ts (fault unfit ts)
names_unfit d ts h = by_production names (last_production _ (r_refused h))

pub names_last : (d : ℕ) (ts rest : List Token) (line : ℕ) (n : List ℕ) → NameAt ts line n rest →
    heads (mark mark'.Comma) rest ≡ false → Reads d (pick names ts) ts (ok (cons (word n) nil) rest)
names_last d ts rest line n a h =
    by_production names (last_production _ (takes_at _ a.taking (r_read nil rest (by_production names_rest (no_takes _ _ _ _ h (yes_gives nil []))) (given_at (rw a.called refl)))))

pub names_more : (d : ℕ) (ts rest rest' : List Token) (line : ℕ) (n : List ℕ) (x : Token) → NameAt ts line n rest →
    Taken (mark mark'.Comma) rest x rest' → Step d names ts rest' (word n)
names_more d ts rest rest' line n x a t out s =
    by_production names (last_production _ (takes_at _ a.taking (rw a.called (reads_behind (word (name_in a.token.kind)) out (by_production names_rest (yes_takes _ _ t (reads_gives s)))))))
