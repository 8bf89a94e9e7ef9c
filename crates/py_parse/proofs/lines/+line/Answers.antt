use Rattle.std.proofs.Common.{ℕ, ◌-◌, map, arith, refl, ap, ◌∙◌}
use Rattle.std.specs.declared.vec.Vec.{Vec}
use Rattle.std.specs.declared.alloc.Global.{Global}
use Rattle.py_tree.specs.declared.line.Line.{Line}
use Rattle.py_tree.specs.Tree.{branch_tree, line_tree, parameter_tree, trees, def}
use Rattle.py_tree.proofs.Views.{branch_tree-Branch, line_tree-Simple, line_tree-If, line_tree-For, line_tree-While, line_tree-Def}
use Rattle.py_parse.specs.Grammar as grammar
use Rattle.py_parse.specs.Agrees as agrees
use Rattle.py_parse.specs.Reading.{Reads, ok, pick}
use Rattle.py_parse.proofs.Cases.{stopped_by, taken_shorter, map_more}
use Rattle.py_parse.proofs.Loops.{read_shorter}
use Rattle.py_parse.proofs.Paths.{if_deep0, if_tail_answers, for_deep0, for_tail_answers, while_deep0, while_tail_answers, while_fault0, while_unfit1, while_fault2, while_ok, branch_fault0, branch_unfit1, branch_fault2, branch_ok, no_branch_ok, else_unfit1, else_ok, else_fault2, loop_fault0, loop_unfit1, loop_fault2, loop_unfit3, loop_fault4, loop_ok, function_unfit0, function_fault2, function_unfit3, function_fault4, function_ok, indent_unfit1, indent_tail_answers}
use Rattle.py_parse.proofs.Blocks.{agrees_as, line_shorter, def_answers, def_deep, simple_fault, simple_ok, branches_start, branches_fault, branches_more, branches_stop, branches_end, lines_start, lines_fault, lines_more, lines_end, function_unfit1}
use Rattle.py_parse.proofs.lines.+line.Goals as goal

pub parse_line-returns-then-depth-eq0 : goal.parse_line-returns-then-depth-eq0
parse_line-returns-then-depth-eq0 t c = if_deep0 _ _ c.if-depth-eq0.true c.in-Some.ensures

pub parse_line-returns-in-Some : goal.parse_line-returns-in-Some
parse_line-returns-in-Some t c = if_tail_answers _ _ _ _ _ _ _ c.if-depth-eq0.false c.in-Some.ensures c.parse_if.ensures

pub parse_line-returns-then-depth-eq0-2 : goal.parse_line-returns-then-depth-eq0-2
parse_line-returns-then-depth-eq0-2 t c = for_deep0 _ _ c.in_default.ensures c.if-depth-eq0-2.true c.in-Some-strip.ensures

pub parse_line-returns-in-Some-strip : goal.parse_line-returns-in-Some-strip
parse_line-returns-in-Some-strip t c = for_tail_answers _ _ _ _ _ _ _ c.in_default.ensures c.if-depth-eq0-2.false c.in-Some-strip.ensures c.parse_for.ensures

pub parse_line-returns-then-depth-eq0-3 : goal.parse_line-returns-then-depth-eq0-3
parse_line-returns-then-depth-eq0-3 t c = while_deep0 _ _ c.in_default.ensures c.in_default-strip.ensures c.if-depth-eq0-3.true c.in-Some-strip-2.ensures

pub parse_line-returns-in-Some-strip-2 : goal.parse_line-returns-in-Some-strip-2
parse_line-returns-in-Some-strip-2 t c =
    while_tail_answers _ _ _ _ _ _ _ c.in_default.ensures c.in_default-strip.ensures c.if-depth-eq0-3.false c.in-Some-strip-2.ensures c.parse_while.ensures

pub parse_line-returns-then-depth-eq0-4 : goal.parse_line-returns-then-depth-eq0-4
parse_line-returns-then-depth-eq0-4 t c =
    def_deep _ _ _ _ _ (record { no_if = c.in_default.ensures; no_for = c.in_default-strip.ensures; no_while = c.in_default-strip-2.ensures }) c.if-depth-eq0-4.true c.in-Some-strip_where.ensures

pub parse_line-returns-in-Some-strip_where : goal.parse_line-returns-in-Some-strip_where
parse_line-returns-in-Some-strip_where t c =
    def_answers _ _ _ _ _ _ _ (record { no_if = c.in_default.ensures; no_for = c.in_default-strip.ensures; no_while = c.in_default-strip-2.ensures }) c.if-depth-eq0-4.false c.in-Some-strip_where.ensures c.parse_def.ensures

pub parse_line-returns-in_err-statements : goal.parse_line-returns-in_err-statements
parse_line-returns-in_err-statements t c =
    stopped_by _ _ (Reads c.args.depth (pick (grammar.statements c.args.site) c.args.tokens.now) c.args.tokens.now) (Reads c.args.depth (pick (grammar.line c.args.site) c.args.tokens.now) c.args.tokens.now)
    c.in_err-statements.field-0.0 c.from_residual.ensures.1
    (λ w rest r. simple_fault _ _ _ _ _ (record { no_if = c.in_default.ensures; no_for = c.in_default-strip.ensures; no_while = c.in_default-strip-2.ensures }) c.in_default-strip_where.ensures r)
    c.in_err-statements.ensures

pub parse_line-returns : goal.parse_line-returns
parse_line-returns t c =
    simple_ok _ _ _ _ _ _ (record { no_if = c.in_default.ensures; no_for = c.in_default-strip.ensures; no_while = c.in_default-strip-2.ensures }) c.in_default-strip_where.ensures c.in_ok-statements.ensures
    (line_tree-Simple c.in_ok-statements.statements)

pub parse_if-branches-init : goal.parse_if-branches-init
parse_if-branches-init t c = branches_start c.args.depth c.args.site c.args.line c.args.tokens.now (map branch_tree c.new-branches.result.items) (rw c.new-branches.ensures.items refl)

pub parse_if-returns-in_err-branch : goal.parse_if-returns-in_err-branch
parse_if-returns-in_err-branch t c =
    stopped_by _ _ (Reads c.args.depth (agrees.branch_body c.branches.line c.args.site) c.branches.rest.now) (Reads c.args.depth (grammar.conditional c.args.line c.args.site) c.args.tokens.now)
    c.in_err-branch.field-0.0 c.from_residual.ensures.1
    (λ w rest r. branches_fault c.args.depth c.args.site c.args.line c.args.tokens.now (map branch_tree c.branches.branches.items) c.branches.line c.branches.rest.now rest w c.branches.invariant r) c.in_err-branch.ensures

pub parse_if-returns-in_err-otherwise : goal.parse_if-returns-in_err-otherwise
parse_if-returns-in_err-otherwise t c =
    stopped_by _ _ (Reads c.args.depth (pick (grammar.branches c.args.site) c.in_ok-branch.after.now) c.in_ok-branch.after.now) (Reads c.args.depth (grammar.conditional c.args.line c.args.site) c.args.tokens.now)
    c.in_err-otherwise.field-0.0 c.from_residual-in_err-otherwise.ensures.1
    (λ w rest r. branches_stop c.args.depth c.args.site c.args.line c.args.tokens.now (map branch_tree c.branches.branches.items) c.branches.line c.branches.rest.now c.in_ok-branch.after.now rest (branch_tree c.in_ok-branch.branch) w c.branches.invariant c.in_ok-branch.ensures r)
    c.in_err-otherwise.ensures

pub parse_if-returns-in_default : goal.parse_if-returns-in_default
parse_if-returns-in_default t c =
    let e = map_more branch_tree _ _ _ c.in_ok-push.ensures.items in
    branches_end c.args.depth c.args.site c.args.line c.args.tokens.now (map branch_tree c.branches.branches.items) (map branch_tree c.push.new.self.items) c.branches.line c.branches.rest.now c.in_ok-branch.after.now _ (branch_tree c.in_ok-branch.branch) _ _
    c.branches.invariant c.in_ok-branch.ensures e c.in_ok-otherwise.ensures (line_tree-If c.push.new.self c.in_ok-otherwise.otherwise)

pub parse_if-branches-smaller : goal.parse_if-branches-smaller
parse_if-branches-smaller t c =
    let h = read_shorter c.in_ok-branch.ensures in
    let i = taken_shorter c.in-Some.ensures in
    omega (arith, h, i)

pub parse_if-branches-preserved : goal.parse_if-branches-preserved
parse_if-branches-preserved t c =
    let e = map_more branch_tree _ _ _ c.in_ok-push.ensures.items in
    branches_more c.args.depth c.args.site c.args.line c.args.tokens.now (map branch_tree c.branches.branches.items) (map branch_tree c.push.new.self.items) c.branches.line c.branches.rest.now c.in_ok-branch.after.now _ (branch_tree c.in_ok-branch.branch) _ c.branches.invariant c.in_ok-branch.ensures c.requires c.in-Some.ensures e

pub parse_branch-returns-in_err-test : goal.parse_branch-returns-in_err-test
parse_branch-returns-in_err-test t c =
    stopped_by _ _ (Reads c.args.depth (pick grammar.expr c.args.tokens.now) c.args.tokens.now) (Reads c.args.depth (agrees.branch_body c.args.line c.args.site) c.args.tokens.now)
    c.in_err-test.field-0.0 c.from_residual.ensures.1 (λ w rest r. branch_fault0 c.args.depth c.args.line c.args.site r) c.in_err-test.ensures

pub parse_branch-returns-in_default : goal.parse_branch-returns-in_default
parse_branch-returns-in_default t c = branch_unfit1 c.args.depth c.args.line c.args.site c.in_ok-test.ensures c.in_default.ensures

pub parse_branch-returns-in_err-block : goal.parse_branch-returns-in_err-block
parse_branch-returns-in_err-block t c =
    let b = rw c.below.ensures at c.in_err-block.ensures in
    stopped_by _ _ (Reads (c.args.depth - 1) (pick (grammar.block (grammar.below c.args.site)) c.in-Some.rest.now) c.in-Some.rest.now) (Reads c.args.depth (agrees.branch_body c.args.line c.args.site) c.args.tokens.now)
    c.in_err-block.field-0.0 c.from_residual-in_err-block.ensures.1 (λ w rest r. branch_fault2 c.args.depth c.args.line c.args.site c.in_ok-test.ensures c.in-Some.ensures c.requires r) b

pub parse_branch-returns : goal.parse_branch-returns
parse_branch-returns t c =
    let b = rw c.below.ensures at c.in_ok-block.ensures in
    branch_ok c.args.depth c.args.line c.args.site c.in_ok-test.ensures c.in-Some.ensures c.requires b (branch_tree-Branch c.args.line c.in_ok-test.test c.in_ok-block.block)

pub parse_else-returns-in_default : goal.parse_else-returns-in_default
parse_else-returns-in_default t c = no_branch_ok _ _ c.requires.no_elif c.in_default.ensures (rw c.new.ensures.items refl)

pub parse_else-returns-in_default-strip : goal.parse_else-returns-in_default-strip
parse_else-returns-in_default-strip t c = else_unfit1 _ _ c.requires.no_elif c.requires.deep c.in-Some.ensures c.in_default-strip.ensures

pub parse_else-returns : goal.parse_else-returns
parse_else-returns t c =
    let b = rw c.below.ensures at c.parse_block.ensures in
    agrees_as (λ p. ok (trees (map line_tree p.0.items)) p.1.now) _ c.parse_block.result
    (Reads (c.args.depth - 1) (pick (grammar.block (grammar.below c.args.site)) c.in-Some-strip.rest.now) c.in-Some-strip.rest.now) (Reads c.args.depth (pick (grammar.branches c.args.site) c.args.tokens.now) c.args.tokens.now)
    (λ p r. else_ok c.args.depth c.args.site c.requires.no_elif c.requires.deep c.in-Some.ensures c.in-Some-strip.ensures r refl)
    (λ w rest r. else_fault2 c.args.depth c.args.site c.requires.no_elif c.requires.deep c.in-Some.ensures c.in-Some-strip.ensures r) b

pub parse_for-returns-in_err-names : goal.parse_for-returns-in_err-names
parse_for-returns-in_err-names t c =
    stopped_by _ _ (λ o. (d : ℕ) → Reads d (pick grammar.names c.args.tokens.now) c.args.tokens.now o) (Reads c.args.depth (grammar.loop_body c.args.line c.args.site) c.args.tokens.now)
    c.in_err-names.field-0.0 c.from_residual.ensures.1 (λ w rest r. loop_fault0 c.args.depth c.args.line c.args.site (r c.args.depth)) c.in_err-names.ensures

pub parse_for-returns-in_default : goal.parse_for-returns-in_default
parse_for-returns-in_default t c = loop_unfit1 c.args.depth c.args.line c.args.site (c.in_ok-names.ensures c.args.depth) c.in_default.ensures

pub parse_for-returns-in_err-source : goal.parse_for-returns-in_err-source
parse_for-returns-in_err-source t c =
    stopped_by _ _ (Reads c.args.depth (pick grammar.exprs c.in-Some.rest.now) c.in-Some.rest.now) (Reads c.args.depth (grammar.loop_body c.args.line c.args.site) c.args.tokens.now)
    c.in_err-source.field-0.0 c.from_residual-in_err-source.ensures.1 (λ w rest r. loop_fault2 c.args.depth c.args.line c.args.site (c.in_ok-names.ensures c.args.depth) c.in-Some.ensures r) c.in_err-source.ensures

pub parse_for-returns-in_default-strip : goal.parse_for-returns-in_default-strip
parse_for-returns-in_default-strip t c = loop_unfit3 c.args.depth c.args.line c.args.site (c.in_ok-names.ensures c.args.depth) c.in-Some.ensures c.in_ok-source.ensures c.in_default-strip.ensures

pub parse_for-returns-in_err-block : goal.parse_for-returns-in_err-block
parse_for-returns-in_err-block t c =
    let b = rw c.in_loop.ensures at c.in_err-block.ensures in
    stopped_by _ _ (Reads (c.args.depth - 1) (pick (grammar.block (grammar.in_loop c.args.site)) c.in-Some-strip.rest.now) c.in-Some-strip.rest.now) (Reads c.args.depth (grammar.loop_body c.args.line c.args.site) c.args.tokens.now)
    c.in_err-block.field-0.0 c.from_residual-in_err-block.ensures.1
    (λ w rest r. loop_fault4 c.args.depth c.args.line c.args.site (c.in_ok-names.ensures c.args.depth) c.in-Some.ensures c.in_ok-source.ensures c.in-Some-strip.ensures c.requires r) b

pub parse_for-returns : goal.parse_for-returns
parse_for-returns t c =
    let b = rw c.in_loop.ensures at c.in_ok-block.ensures in
    loop_ok c.args.depth c.args.line c.args.site (c.in_ok-names.ensures c.args.depth) c.in-Some.ensures c.in_ok-source.ensures c.in-Some-strip.ensures c.requires b
    (line_tree-For c.args.line c.in_ok-names.names c.in_ok-source.source c.in_ok-block.block)

pub parse_while-returns-in_err-test : goal.parse_while-returns-in_err-test
parse_while-returns-in_err-test t c =
    stopped_by _ _ (Reads c.args.depth (pick grammar.expr c.args.tokens.now) c.args.tokens.now) (Reads c.args.depth (grammar.while_body c.args.line c.args.site) c.args.tokens.now)
    c.in_err-test.field-0.0 c.from_residual.ensures.1 (λ w rest r. while_fault0 c.args.depth c.args.line c.args.site r) c.in_err-test.ensures

pub parse_while-returns-in_default : goal.parse_while-returns-in_default
parse_while-returns-in_default t c = while_unfit1 c.args.depth c.args.line c.args.site c.in_ok-test.ensures c.in_default.ensures

pub parse_while-returns-in_err-block : goal.parse_while-returns-in_err-block
parse_while-returns-in_err-block t c =
    let b = rw c.in_loop.ensures at c.in_err-block.ensures in
    stopped_by _ _ (Reads (c.args.depth - 1) (pick (grammar.block (grammar.in_loop c.args.site)) c.in-Some.rest.now) c.in-Some.rest.now) (Reads c.args.depth (grammar.while_body c.args.line c.args.site) c.args.tokens.now)
    c.in_err-block.field-0.0 c.from_residual-in_err-block.ensures.1 (λ w rest r. while_fault2 c.args.depth c.args.line c.args.site c.in_ok-test.ensures c.in-Some.ensures c.requires r) b

pub parse_while-returns : goal.parse_while-returns
parse_while-returns t c =
    let b = rw c.in_loop.ensures at c.in_ok-block.ensures in
    while_ok c.args.depth c.args.line c.args.site c.in_ok-test.ensures c.in-Some.ensures c.requires b (line_tree-While c.args.line c.in_ok-test.test c.in_ok-block.block)

pub parse_def-returns-in_default : goal.parse_def-returns-in_default
parse_def-returns-in_default t c = function_unfit0 _ _ c.in_default.ensures

pub parse_def-returns-in_default-strip : goal.parse_def-returns-in_default-strip
parse_def-returns-in_default-strip t c = function_unfit1 _ _ _ _ _ c.in-Some.ensures.taking c.in_default-strip.ensures

pub parse_def-returns-in_err-parameters : goal.parse_def-returns-in_err-parameters
parse_def-returns-in_err-parameters t c =
    stopped_by _ _ (Reads (c.args.depth - 1) (pick grammar.parameters c.in-Some-strip.rest.now) c.in-Some-strip.rest.now) (Reads c.args.depth (grammar.function_body c.args.line) c.args.tokens.now)
    c.in_err-parameters.field-0.0 c.from_residual.ensures.1 (λ w rest r. function_fault2 c.args.depth c.args.line c.in-Some.ensures.taking c.requires c.in-Some-strip.ensures r) c.in_err-parameters.ensures

pub parse_def-returns-in_default-strip-2 : goal.parse_def-returns-in_default-strip-2
parse_def-returns-in_default-strip-2 t c =
    function_unfit3 _ _ c.in-Some.ensures.taking c.requires c.in-Some-strip.ensures c.in_ok-parameters.ensures c.in_default-strip-2.ensures

pub parse_def-returns-in_err-block : goal.parse_def-returns-in_err-block
parse_def-returns-in_err-block t c =
    let b = rw c.in_function.ensures at c.in_err-block.ensures in
    stopped_by _ _ (Reads (c.args.depth - 1) (pick (grammar.block grammar.in_function) c.in-Some-strip-2.rest.now) c.in-Some-strip-2.rest.now) (Reads c.args.depth (grammar.function_body c.args.line) c.args.tokens.now)
    c.in_err-block.field-0.0 c.from_residual-in_err-block.ensures.1
    (λ w rest r. function_fault4 c.args.depth c.args.line c.in-Some.ensures.taking c.requires c.in-Some-strip.ensures c.in_ok-parameters.ensures c.in-Some-strip-2.ensures r) b

pub parse_def-returns : goal.parse_def-returns
parse_def-returns t c =
    let b = rw c.in_function.ensures at c.in_ok-block.ensures in
    let n = c.in_ok-name.ensures ∙ c.in-Some.ensures.called in
    let shared = ap (λ (lines : Vec Line Global). def c.args.line c.in_ok-name.name (trees (map parameter_tree c.in_ok-parameters.parameters.items)) (trees (map line_tree lines.items))) c.in_ok-block-2.ensures.ok in
    function_ok c.args.depth c.args.line c.in-Some.ensures.taking c.requires c.in-Some-strip.ensures c.in_ok-parameters.ensures c.in-Some-strip-2.ensures b
    (line_tree-Def c.args.line c.in_ok-name.name c.in_ok-parameters.parameters c.in_ok-block-2.block ∙ shared ∙ ap (λ m. def c.args.line m (trees (map parameter_tree c.in_ok-parameters.parameters.items)) (trees (map line_tree c.in_ok-block.block.items))) n)

pub parse_block-returns-in_default : goal.parse_block-returns-in_default
parse_block-returns-in_default t c = c.parse_one_line.ensures

pub parse_block-returns-in_default-strip : goal.parse_block-returns-in_default-strip
parse_block-returns-in_default-strip t c = indent_unfit1 _ _ c.in-Some.ensures c.in_default-strip.ensures

pub parse_block-returns : goal.parse_block-returns
parse_block-returns t c = indent_tail_answers _ _ _ _ _ _ _ _ _ c.in-Some.ensures c.in-Some-strip.ensures c.parse_indented.ensures

pub parse_indented-lines-init : goal.parse_indented-lines-init
parse_indented-lines-init t c = lines_start _ _ _ _ (rw c.new-lines.ensures.items refl)

pub parse_indented-returns-in_err-line : goal.parse_indented-returns-in_err-line
parse_indented-returns-in_err-line t c =
    stopped_by _ _ (Reads c.args.depth (pick (grammar.line c.args.site) c.lines.rest.now) c.lines.rest.now) (Reads c.args.depth (grammar.indented c.args.site) c.args.tokens.now)
    c.in_err-line.field-0.0 c.from_residual.ensures.1 (λ w rest r. lines_fault _ _ _ _ _ _ _ c.lines.invariant r) c.in_err-line.ensures

pub parse_indented-returns-in-Some : goal.parse_indented-returns-in-Some
parse_indented-returns-in-Some t c =
    let e = map_more line_tree _ _ _ c.in_ok-push.ensures.items in
    lines_end _ _ _ _ _ _ _ _ _ _ c.lines.invariant c.in_ok-line.ensures c.in-Some.ensures e

pub parse_indented-lines-smaller : goal.parse_indented-lines-smaller
parse_indented-lines-smaller t c = let h = line_shorter _ _ _ _ _ c.in_ok-line.ensures in omega (arith, h)

pub parse_indented-lines-preserved : goal.parse_indented-lines-preserved
parse_indented-lines-preserved t c =
    let e = map_more line_tree _ _ _ c.in_ok-push.ensures.items in
    lines_more _ _ _ _ _ _ _ _ c.lines.invariant c.in_ok-line.ensures c.in_default.ensures e
