-- The forms of what was read, and its faults.
use Rattle.std.proofs.Common.{◌≡◌, ◌≢◌, ◌∙◌, ℕ, List, [], Ok, Err, sym, ap}
use Rattle.std.specs.Prelude.{Result}
use Rattle.env_pieces.specs.declared.form.FormFault.{FormFault}
use Rattle.env_pieces.specs.declared.form.FormFault.TheVariants as form
use Rattle.env_pieces.specs.declared.piece.Piece.{Piece}
use Rattle.env_pieces.specs.Pieces.{pieces_of}
use Rattle.env_pieces.specs.Forms.{FaultIs}
use Rattle.env_subst.specs.declared.fault.SubstFault.{SubstFault}
use Rattle.env_subst.specs.declared.fault.SubstFault.TheVariants.{Memory}
use Rattle.env_subst.specs.Settings.{Setting}
use Rattle.env_subst.specs.Expansions.{State, Names, text_at, started}
use Rattle.env_subst.specs.Results.{form_or_fault, pieces_or_fault, expansion, in_form, form_fault}

-- what is read of a text that stands in no variable
module _ (w : Setting) (names : Names) (owner given t : List ℕ) (no_names : names ≡ []) (no_owner : owner ≡ []) (same : given ≡ t) where
  read_whole : text_at w names owner given (started 0) ≡ text_at w [] [] t (started 0)
  read_whole = ap (λ ns. text_at w ns owner given (started 0)) no_names ∙ ap (λ o. text_at w [] o given (started 0)) no_owner ∙ ap (λ u. text_at w [] [] u (started 0)) same

  pub whole_read : (s : State) (pieces : List Piece) → text_at w names owner given (started 0) ≡ Ok s → pieces ≡ pieces_of s.sheet → expansion w t ≡ Ok pieces
  whole_read s pieces h e = ap pieces_or_fault (sym read_whole ∙ h) ∙ ap (λ ps. Ok ps) (sym e)

  pub whole_fails : (e : SubstFault) → text_at w names owner given (started 0) ≡ Err e → expansion w t ≡ Err e
  whole_fails e h = ap pieces_or_fault (sym read_whole ∙ h)

module _ {X : Type 0} (shows : List Piece → Result X ℕ) (whole : Result (List Piece) SubstFault) where
  pub not_read : (e : SubstFault) → whole ≡ Err e → in_form shows whole ≡ Err e
  not_read e h = ap (in_form shows) h

  pub has_form : (pieces same : List Piece) (x : X) → whole ≡ Ok pieces → same ≡ pieces → shows same ≡ Ok x → in_form shows whole ≡ Ok x
  has_form pieces same x h e f = ap (in_form shows) h ∙ ap (λ ps. form_or_fault (shows ps)) (sym e) ∙ ap form_or_fault f

  pub has_fault : (pieces same : List Piece) (fault : FormFault) (e : SubstFault) → whole ≡ Ok pieces → same ≡ pieces → e ≡ form_fault fault → (fault ≢ form.Memory → FaultIs fault (shows same)) → e ≢ Memory → in_form shows whole ≡ Err e
  has_fault pieces same (form.Marks k) e h i is f n = ap (in_form shows) h ∙ ap (λ ps. form_or_fault (shows ps)) (sym i) ∙ ap form_or_fault (f (λ m. cc)) ∙ ap (λ x. Err x) (sym is)
  has_fault pieces same form.Memory e h i is f n = absurd (n is)
