use Rattle.std.proofs.Common.{◌≡◌, ◌∙◌, ◌++◌, [], length, ap, string_bytes, arith}
use Rattle.std.specs.Prelude.{if◌then◌else◌}
use Rattle.std.specs.Str.{IsUtf8}
use Rattle.std.proofs.lemmas.Result.{err_from_is_err_and}
use Rattle.std.proofs.lemmas.Str.{IsCharBoundary-start}
use Rattle.env_text.specs.Views.{plain}
use Rattle.env_vars.specs.Given.{given_text, is_name}
use Rattle.env_vars.proofs.GivenTexts.{part_put, part_too_long, rest_fails, text_ends}
use Rattle.env_vars.proofs.given.put_given.Goals as goal

pub parts-init : goal.parts-init
parts-init c =
    let none : string_bytes c.args.given.now ≡ [] = c.requires in
    let utf8 : IsUtf8 c.args.text.now = c.utf8.text in record {
      whole = ap (λ b. b ++ given_text c.args.name.now c.args.old.now c.args.text.now) none;
      fits = omega (arith, ap length none);
      boundary = IsCharBoundary-start c.args.text.now utf8;
    }

pub parts-preserved : goal.parts-preserved
parts-preserved c =
    let step = c.in-Part.ensures {u = tt} in record {
      whole = part_put c.args.name.now c.args.old.now c.args.text.now (string_bytes c.parts.given) (string_bytes c.put_part.new.given)
          (given_text c.args.name.now c.args.old.now c.args.text.now) c.range.result.now c.parts.at c.in-Part.next (plain c.in-Part.part)
          step.reads step.goes_on.1.0 c.range.ensures.value
          ((c.in_ok-put_part-in-Part.ensures {u = tt}).ok ∙ ap (λ b. string_bytes c.parts.given ++ (if b then c.args.old.now else c.range.result.now)) (c.is_name-replaced.ensures ∙ ap (is_name c.args.name.now) c.whole_name.ensures))
          c.parts.invariant.whole;
      fits = (c.in_ok-put_part-in-Part.ensures {u = tt}).fits;
      boundary = step.goes_on.1;
    }

pub returns-in_err-put_part-in-Part-clause-too_long : goal.returns-in_err-put_part-in-Part-clause-too_long
returns-in_err-put_part-in-Part-clause-too_long c =
    let step = c.in-Part.ensures {u = tt} in
    let p = err_from_is_err_and c.from_residual.result c.from_residual.ensures.1 in
    rw (p.1, p.2) (λ h. part_too_long c.args.name.now c.args.old.now c.args.text.now (string_bytes c.parts.given) (given_text c.args.name.now c.args.old.now c.args.text.now)
    c.range.result.now c.parts.at c.in-Part.next 16777216 (plain c.in-Part.part) c.is_name-replaced.result step.reads step.goes_on.1.0 c.range.ensures.value
    (c.is_name-replaced.ensures ∙ ap (is_name c.args.name.now) c.whole_name.ensures) c.parts.invariant.whole ((c.in_err-put_part-in-Part.ensures {u = tt}).too_long h))

pub returns-in-End-clause-ok : goal.returns-in-End-clause-ok
returns-in-End-clause-ok c =
    text_ends c.args.name.now c.args.old.now c.args.text.now (string_bytes c.parts.given) _ c.parts.at ((c.in-End.ensures {u = tt}).reads) c.parts.invariant.whole

pub returns-in-BadBrace-clause-too_long : goal.returns-in-BadBrace-clause-too_long
returns-in-BadBrace-clause-too_long c =
    rest_fails c.args.name.now c.args.old.now c.args.text.now (string_bytes c.parts.given) (given_text c.args.name.now c.args.old.now c.args.text.now) c.range_from.result.now c.parts.at 16777216
    c.put.result ((c.in-BadBrace.ensures {u = tt}).reads) c.range_from.ensures.value c.parts.invariant.whole c.put.ensures.too_long
