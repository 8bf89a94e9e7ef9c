use denote.Ref.{Bor}
use Rattle.std.proofs.Common.{◌≡◌, ℕ, List, [], ◌∷◌, map, refl, ap, ◌∙◌}
use Rattle.std.specs.Prelude.{not, nat_eq}
use Rattle.std.specs.Cmp.Lexicographic.{pointwise}
use Rattle.std.specs.List.{list_any}
use Rattle.std.specs.Str.{bytes_eq}
use Rattle.deciders.proofs.names.Names.add.Goals as goal

any_now : (name : List ℕ) (names : List (Bor (List ℕ))) → list_any (λ other. pointwise nat_eq name other.now) names ≡ list_any (bytes_eq name) (map (λ other. other.now) names)
any_now name [] = refl
any_now name (other ∷ names) = rw (any_now name names) refl

any_as : {read name : List ℕ} (names : List (Bor (List ℕ))) → read ≡ name → list_any (λ other. pointwise nat_eq read other.now) names ≡ list_any (bytes_eq name) (map (λ other. other.now) names)
any_as {read} {name} names is = any_now read names ∙ ap (λ (n : List ℕ). list_any (bytes_eq n) (map (λ other. other.now) names)) is

pub returns-clause-new : goal.returns-clause-new
returns-clause-new c =
    c.in_ok-new.ensures.added ∙ ap not (any_as _ c.as_str.ensures) ∙ ap (λ (names : List (List ℕ)). not (list_any (bytes_eq c.args.path.now) names)) c.self.view_is
