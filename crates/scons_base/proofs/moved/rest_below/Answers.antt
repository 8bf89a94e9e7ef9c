use Rattle.std.proofs.Common.{◌≡◌, ◌∙◌, ap, sym, subst, drop, ℕ, List, true}
use Rattle.std.specs.Str.{IsUtf8, IsCharBoundary}
use Rattle.scons_base.specs.Parts.{is_below, rest_below}
use Rattle.scons_base.proofs.Moves.{lead_len, rest_at, lead_boundary}
use Rattle.scons_base.proofs.moved.rest_below.Goals as goal

boundary : (path dir : List ℕ) (n : ℕ) → n ≡ lead_len dir → IsUtf8 path → is_below path dir ≡ true → IsCharBoundary path n
boundary path dir n e utf8 below = subst (IsCharBoundary path) (sym e) (lead_boundary path dir utf8 below)

pub range_from-requires : goal.range_from-requires
range_from-requires c = λ _. boundary _ c.args.dir.now _ c.lead_len.ensures c.utf8.path c.requires

rest : (path dir result : List ℕ) (n : ℕ) → n ≡ lead_len dir → result ≡ drop n path → result ≡ rest_below path dir
rest path dir result n e f = f ∙ ap (λ k. drop k path) e ∙ rest_at path dir

pub returns : goal.returns
returns c = rest _ c.args.dir.now _ _ c.lead_len.ensures c.range_from.ensures.value
