use Rattle.std.proofs.Common.{rules, ◌≡◌, ◌++◌, ◌∷◌, [], List, ℕ, ap, ◌∙◌, map}
use denote.Ref.{Bor}
use Rattle.std.specs.Str.{IsUtf8}
use Rattle.std.proofs.lemmas.List.{map_push}
use Rattle.py_text.proofs.CutLemmas.{cuts_more, cuts_end}
use Rattle.py_text.proofs.splitting.split.Goals as goal

pub cuts-preserved : goal.cuts-preserved
cuts-preserved c =
    let now : Bor (List ℕ) → List ℕ = λ part. part.now in
    let cut = c.in-Some.ensures {u = tt} in
    let part_utf8 : IsUtf8 c.in-Some.part.now = search rules in
    let parts : map now c.push.new.self.items ≡ map now c.cuts.parts.items ++ c.in-Some.part.now ∷ [] =
    ap (map now) (c.in_ok-push.ensures {u = tt}).items ∙ map_push now c.cuts.parts.items c.in-Some.part in (
      rw parts (cuts_more c.args.separator.now c.args.text.now c.cuts.rest.now c.in-Some.part.now c.in-Some.after.now (map now c.cuts.parts.items) c.requires c.utf8.separator part_utf8 c.cuts.invariant.0 cut.0 cut.2),
      search rules,
    )

pub returns : goal.returns
returns c =
    let now : Bor (List ℕ) → List ℕ = λ part. part.now in
    ap (map now) (c.in_ok-push-2.ensures {u = tt}).items ∙ map_push now c.cuts.parts.items c.cuts.rest
    ∙ cuts_end c.args.separator.now c.args.text.now c.cuts.rest.now (map now c.cuts.parts.items) c.cuts.invariant.1 c.cuts.invariant.0 (rw c.in_default.is at c.cut_at_first.ensures)
