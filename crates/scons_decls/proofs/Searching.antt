-- A search path without items has no directories.
use Rattle.std.proofs.Common.{arith, ◌≡◌, ◌+◌, ◌-◌, ap, refl, ◌∙◌, ℕ, suc, List, [], Option, None, Ok}
use Rattle.scons_base.specs.declared.limits.TheConstants.{REFERENCE_LIMIT}
use Rattle.env_vars.specs.Envs.{value_of}
use Rattle.env_subst.specs.Settings.{Setting}
use Rattle.env_subst.specs.Contents.{Content, known_at, known_or, held_or_nothing, said}
use Rattle.env_subst.specs.Expansions.{Names, height, sayings_in}
use Rattle.env_subst.specs.Entries.{Entries, over, spread, dirs_of, search_path}

level : (n : ℕ) → n ≡ 0 → height - n ≡ suc (REFERENCE_LIMIT + 1)
unfolding height
level n e = omega (arith, e)

says_nothing : (w : Setting) (name : List ℕ) → known_at w.locals name ≡ None → said w.locals (held_or_nothing (value_of w.envs w.env name)) ≡ [] → sayings_in w [] name ≡ []
says_nothing w name k s = ap (λ (known : Option Content). said w.locals (known_or known (held_or_nothing (value_of w.envs w.env name)))) k ∙ s

spreads_nothing : (w : Setting) (names : Names) (name : List ℕ) (more n : ℕ) (rest : ℕ → Entries) → sayings_in w names name ≡ [] → spread w (suc more) names name n rest ≡ rest n
unfolding spread
spreads_nothing w names name more n rest e = rw e refl

pub no_search_path : (w : Setting) (name : List ℕ) → known_at w.locals name ≡ None → said w.locals (held_or_nothing (value_of w.envs w.env name)) ≡ [] → search_path w name ≡ Ok []
no_search_path w name k s =
    ap (λ k. dirs_of w (spread w k [] name 0 (λ n. over))) (level 0 refl)
    ∙ ap (dirs_of w) (spreads_nothing w [] name (REFERENCE_LIMIT + 1) 0 (λ n. over) (says_nothing w name k s))
