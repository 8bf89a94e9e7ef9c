use Rattle.std.proofs.Common.{◌≡◌, length, refl, arith}
use Rattle.scons_base.specs.declared.limits.TheConstants.{SYNTAX_DEPTH_LIMIT}
use Rattle.py_tree.specs.Tree.{line_tree}
use Rattle.py_parse.specs.Grammar as grammar
use Rattle.py_parse.specs.Reading.{Reads, pick}
use Rattle.py_parse.proofs.Cases.{stopped_by, map_more, reads_gives, not_empty}
use Rattle.py_parse.proofs.Loops.{continues_start, continues_more, continues_end, continues_fault}
use Rattle.py_parse.proofs.Blocks.{script_end, script_fault, script_more, line_shorter}
use Rattle.py_parse.proofs.script.read_script.Goals as goal

pub lines-init : goal.lines-init
lines-init c = continues_start _ _ _ _ (rw c.new-lines.ensures.items refl)

pub returns-in_err-line : goal.returns-in_err-line
returns-in_err-line c =
    let r = rw c.top.ensures at c.in_err-line.ensures in
    stopped_by _ _ (Reads SYNTAX_DEPTH_LIMIT (pick (grammar.line grammar.top) c.lines.rest.now) c.lines.rest.now) (Reads SYNTAX_DEPTH_LIMIT (grammar.reads grammar.script grammar.gives) c.args.tokens.now)
    c.in_err-line.field-0.0 c.from_residual.ensures.1
    (λ w rest q. reads_gives (continues_fault _ _ _ _ _ _ _ c.lines.invariant (script_fault _ _ _ _ (not_empty _ _ refl c.lines-test.ensures) q))) r

pub returns : goal.returns
returns c =
    let e : length c.lines.rest.now ≡ 0 = grind (arith, c.lines-test.ensures) in
    reads_gives (continues_end _ _ _ _ _ _ c.lines.invariant (script_end _ _ e))

pub lines-smaller : goal.lines-smaller
lines-smaller c = let h = line_shorter _ _ _ _ _ c.in_ok-line.ensures in omega (arith, h)

pub lines-preserved : goal.lines-preserved
lines-preserved c =
    let e = map_more line_tree _ _ _ c.in_ok-push.ensures.items in
    let r = rw c.top.ensures at c.in_ok-line.ensures in
    continues_more _ _ _ _ _ _ _ _ c.lines.invariant (script_more _ _ _ _ (not_empty _ _ refl c.lines-test.ensures) r) e
