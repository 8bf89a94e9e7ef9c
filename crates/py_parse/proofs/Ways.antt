-- How the functions that read expressions go on with what was read, over plain variables.
use Rattle.std.proofs.Common.{◌≡◌, ℕ, ◌<◌, List, length, subst, arith, Result, Ok, Err, IfOk, Option, Some, None}
use Rattle.std.specs.Borrow.{Bor}
use Rattle.py_token.specs.declared.token.Token.{Token}
use Rattle.py_tree.specs.declared.expr.Expr.{Expr}
use Rattle.py_tree.specs.declared.expr.Link.{Link}
use Rattle.py_tree.specs.Tree.{Tree, expr_tree, link_tree}
use Rattle.py_tree.specs.declared.expr.Comparison.{Comparison}
use Rattle.py_parse.specs.declared.display.OpenDisplay.{OpenDisplay}
use Rattle.py_parse.specs.declared.display.NextDisplay.{NextDisplay}
use Rattle.py_parse.specs.declared.display.NextDisplay.TheVariants as next'
use Rattle.py_parse.specs.declared.link.OpenLink.{OpenLink}
use Rattle.py_parse.specs.declared.link.NextLink.{NextLink}
use Rattle.py_parse.specs.declared.link.NextLink.TheVariants as follow'
use Rattle.py_parse.specs.declared.stop.Stop.{Stop}
use Rattle.py_parse.specs.declared.level.Level.TheVariants as level'
use Rattle.py_parse.specs.Grammar.{Body, reads, expr, chained, comparison, compared}
use Rattle.py_parse.specs.Reading.{Outcome, ok, fault, Why, Reads, r_read, r_part_fault, pick}
use Rattle.py_parse.specs.Agrees.{Agrees, Compares, ComparisonAt, EndsAt}
use Rattle.py_parse.specs.Open.{GoesOn, Shrinks, LinkGoesOn, LinkShrinks, display_after, link_after, is_plain, wanted}
use Rattle.py_parse.proofs.Cases.{by_production, last_production, reads_gives}
use Rattle.py_parse.proofs.Loops.{read_shorter}

-- a display or link that goes on with an expression
pub display_begins : (d : ℕ) (b : Body) (ts : List Token) (n : NextDisplay) (s s' : OpenDisplay) (rest : Bor (List Token)) (o : Outcome) →
    n ≡ next'.More s rest → s' ≡ s → GoesOn b ts n → Reads d (reads (wanted (is_plain s')) (λ t. display_after s' t)) rest.now o → Reads d b ts o
display_begins d b ts n s s' rest o e p g r =
    let h : GoesOn b ts (next'.More s rest) = subst (λ m. GoesOn b ts m) e g in
    h d o (subst (λ q. Reads d (reads (wanted (is_plain q)) (λ t. display_after q t)) rest.now o) p r)

pub link_begins : (d : ℕ) (b : Body) (ts : List Token) (n : NextLink) (s s' : OpenLink) (rest : Bor (List Token)) (o : Outcome) →
    n ≡ follow'.More s rest → s' ≡ s → LinkGoesOn b ts n → Reads d (reads expr (λ t. link_after s' t)) rest.now o → Reads d b ts o
link_begins d b ts n s s' rest o e p g r =
    let h : LinkGoesOn b ts (follow'.More s rest) = subst (λ m. LinkGoesOn b ts m) e g in
    h d o (subst (λ q. Reads d (reads expr (λ t. link_after q t)) rest.now o) p r)

-- one that is closed
pub display_closes : (d : ℕ) (b : Body) (ts : List Token) (n : NextDisplay) (e : Expr) (rest : Bor (List Token)) →
    n ≡ next'.Closed e rest → GoesOn b ts n → Reads d b ts (ok (expr_tree e) rest.now)
display_closes d b ts n e rest p g = let h : GoesOn b ts (next'.Closed e rest) = subst (λ m. GoesOn b ts m) p g in h d

pub link_closes : (d : ℕ) (b : Body) (ts : List Token) (n : NextLink) (e : Link) (rest : Bor (List Token)) →
    n ≡ follow'.Closed e rest → LinkGoesOn b ts n → Reads d b ts (ok (link_tree e) rest.now)
link_closes d b ts n e rest p g = let h : LinkGoesOn b ts (follow'.Closed e rest) = subst (λ m. LinkGoesOn b ts m) p g in h d

pub display_shrinks : (ts : List Token) (n : NextDisplay) (s : OpenDisplay) (rest : Bor (List Token)) → n ≡ next'.More s rest →
    Shrinks ts (Ok n) → length rest.now < length ts
display_shrinks ts n s rest e h = let i : Shrinks ts (Ok (next'.More s rest)) = subst (λ m. Shrinks ts (Ok m)) e h in i

pub link_shrinks : (ts : List Token) (n : NextLink) (s : OpenLink) (rest : Bor (List Token)) → n ≡ follow'.More s rest →
    LinkShrinks ts (Ok n) → length rest.now < length ts
link_shrinks ts n s rest e h = let i : LinkShrinks ts (Ok (follow'.More s rest)) = subst (λ m. LinkShrinks ts (Ok m)) e h in i

-- what is read leaves no more tokens than there were
pub agrees_shorter : (d : ℕ) (b : Body) (ts : List Token) (n : ℕ) (r : Result (Link × Bor (List Token)) Stop) →
    Agrees (λ p. ok (link_tree p.0) p.1.now) r (Reads d b ts) → length ts < n → IfOk r (λ p. length p.1.now < n)
agrees_shorter d b ts n (Ok p) a h = let i = read_shorter a in omega (arith, h, i)
agrees_shorter d b ts n (Err s) a h = tt

-- comparisons
pub compare_fault : (d : ℕ) {ts r9 : List Token} {w : Why} → Reads d (pick (chained level'.Sum) ts) ts (fault w r9) → Reads d (pick comparison ts) ts (fault w r9)
compare_fault d r = by_production comparison (last_production _ (r_part_fault r))

pub compare_tail : (d : ℕ) {ts rest : List Token} {t : Tree} {o : Outcome} → Reads d (pick (chained level'.Sum) ts) ts (ok t rest) →
    Reads d (pick (compared t) rest) rest o → Reads d (pick comparison ts) ts o
compare_tail d {rest = rest} {t = t} r s = by_production comparison (last_production _ (r_read t rest r (reads_gives s)))

pub compares_none : (ts : List Token) (n : Option (ℕ × Comparison × Bor (List Token))) → n ≡ None → Compares ts (Ok n) →
    (t : Tree) → EndsAt (compared t) ts t
compares_none ts n e h = let i : Compares ts (Ok None) = subst (λ m. Compares ts (Ok m)) e h in i

pub compares_some : (ts : List Token) (n : Option (ℕ × Comparison × Bor (List Token))) (p : ℕ × Comparison × Bor (List Token)) → n ≡ Some p →
    Compares ts (Ok n) → ComparisonAt ts p.0 p.1 p.2.now
compares_some ts n p e h = let i : Compares ts (Ok (Some p)) = subst (λ m. Compares ts (Ok m)) e h in i
