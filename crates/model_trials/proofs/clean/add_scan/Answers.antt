use Rattle.std.proofs.Common.{◌≡◌, Some, true, List, ℕ, refl, sym, ap, ◌∙◌}
use Rattle.std.specs.Str.{bytes_eq}
use Rattle.model_trials.specs.declared.reach.Scan.{Scan}
use Rattle.model_trials.proofs.Makings.{taken}
use Rattle.model_trials.proofs.clean.add_scan.Goals as goal

pub returns-in_ok-push : goal.returns-in_ok-push
returns-in_ok-push c = λ view at.
    let bytes = c.in-Some-content.bytes in
    let scan : Scan = record { file = c.args.line.now.file; includes = c.in_ok-includes.includes } in
    let same : bytes_eq c.args.line.now.bytes bytes ≡ true =
    ap (λ (l : List ℕ). bytes_eq l bytes) (sym c.as_slice.ensures)
    ∙ (ap (λ (l : List ℕ). bytes_eq c.as_slice.result.now l) (sym c.as_slice-2.ensures) ∙ (sym c.eq.ensures ∙ c.if-eq.true)) in
    let known : c.args.known.now ≡ Some (Some bytes) = c.in-Some.is ∙ ap Some c.in-Some-content.is in
    taken view c.args.line.now c.args.scans.now.items c.push.new.self.items scan bytes c.in_ok-push.ensures.items refl
    (c.in_ok-includes.ensures.items ∙ c.as_slice-then-eq.ensures.value) (at ∙ known) same
