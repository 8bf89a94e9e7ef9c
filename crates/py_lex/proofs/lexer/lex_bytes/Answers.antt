use Rattle.std.proofs.Common.{sym, ap, ◌∙◌, ◌≡◌, ◌++◌, ◌∷◌, [], take, subst, inl, inr, refl}
use Rattle.std.specs.Str.{IsUtf8}
use Rattle.std.specs.Str.Lossy.{utf8_valid_len}
use Rattle.py_lex.specs.Lexes.{IsRead, without_order_mark, marked}
use Rattle.py_lex.proofs.Whole.{agrees_too, read_whole, marked_text, marked_other}
use Rattle.py_lex.proofs.lexer.lex_bytes.Goals as goal

pub lex_script-requires-clause-clean : goal.lex_script-requires-clause-clean
lex_script-requires-clause-clean c = record { good = c.without_order_mark-script.result.now; more = []; utf8 = c.in-Ok.ensures.cases.1; parts = inl refl }

pub returns-in-Ok : goal.returns-in-Ok
returns-in-Ok c =
    let is = sym (marked_text c.without_order_mark-script.result.now c.in-Ok.ensures.cases.1) ∙ ap (λ x. marked x) c.without_order_mark-script.ensures.rest in
    agrees_too c.lex_script.result _ (IsRead c.args.bytes.now) (read_whole c.args.bytes.now _ c.if-bytes-gt-SCRIPT_LIMIT.false is) c.lex_script.ensures

pub lex_script-requires-in-Err-clause-clean : goal.lex_script-requires-in-Err-clause-clean
lex_script-requires-in-Err-clause-clean c =
    let count = c.valid_up_to.ensures in
    let front : IsUtf8 (take c.valid_up_to.result c.without_order_mark-script.result.now) = subst (λ n. IsUtf8 (take n c.without_order_mark-script.result.now)) (sym count) c.in-Err.ensures.cases.1.front in
    record {
      good = take c.valid_up_to.result c.without_order_mark-script.result.now;
      more = [];
      utf8 = front;
      parts = inr (c.as_slice.ensures.value ∙ c.in_ok-push-in-Err.ensures.items ∙ ap (λ x. x ++ 255 ∷ []) c.in_ok-marked-in-Err.ensures.items);
    }

pub returns-in_ok-push-in-Err : goal.returns-in_ok-push-in-Err
returns-in_ok-push-in-Err c =
    let script = c.without_order_mark-script.result.now in
    let count : c.valid_up_to.result ≡ utf8_valid_len script = c.valid_up_to.ensures ∙ c.in-Err.ensures.valid_len in
    let front : c.in_ok-marked-in-Err.marked.items ≡ take (utf8_valid_len script) script = c.in_ok-marked-in-Err.ensures.items ∙ ap (λ n. take n script) count in
    let is : c.as_slice.result.now ≡ marked (without_order_mark c.args.bytes.now) =
    c.as_slice.ensures.value ∙ c.in_ok-push-in-Err.ensures.items ∙ ap (λ x. x ++ 255 ∷ []) front ∙ sym (marked_other script c.in-Err.ensures.cases.0) ∙ ap (λ x. marked x) c.without_order_mark-script.ensures.rest in
    agrees_too c.lex_script-in-Err.result _ (IsRead c.args.bytes.now) (read_whole c.args.bytes.now _ c.if-bytes-gt-SCRIPT_LIMIT.false is) c.lex_script-in-Err.ensures
