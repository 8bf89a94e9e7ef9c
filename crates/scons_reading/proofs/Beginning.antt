-- The first script, begun where nothing was read.
use Rattle.std.proofs.Common.{◌≡◌, ◌≢◌, ◌∙◌, refl, sym, ap, subst, ℕ, List, Result, Ok, Err, IfOk, IfErr}
use Rattle.env_subst.specs.declared.locals.Locals.{Locals}
use Rattle.py_heap.specs.declared.value.Value.{Value}
use Rattle.py_heap.specs.Heap.{Objects, no_objects}
use Rattle.py_tree.specs.declared.line.Script.{Script}
use Rattle.py_tree.specs.Tree.{Tree, script_tree}
use Rattle.scons_words.specs.declared.words.Words.{Words}
use Rattle.scons_calls.specs.Results.{and_then}
use Rattle.scons_host.specs.declared.state.State.{State}
use Rattle.scons_host.specs.declared.stop.Refusal.{Refusal}
use Rattle.scons_host.specs.declared.stop.Refusal.TheVariants as refusal
use Rattle.scons_host.specs.declared.stop.Stop.{Stop}
use Rattle.scons_host.specs.Files.{Files}
use Rattle.scons_host.specs.Refusals.{of_refusal, told_by}
use Rattle.scons_host.specs.Scripts.{first}
use Rattle.scons_host.specs.Shown.{IsTold}
use Rattle.scons_host.specs.SoFar.{SoFar, so_far}
use Rattle.scons_host.specs.Starting.{AreFirst, arguments, unread}
use Rattle.scons_host.specs.Untold.{untold_stop}
use Rattle.scons_reading.specs.Beginning.{Begins, BeginsNot, begun_by, bad_word, no_script, with_further}
use Rattle.scons_reading.specs.Firsts.{first_of}
use Rattle.scons_reading.specs.Reads.{Begun, begun_of, begun_in, begins}

-- what came of the first script
abbrev in_heap : Objects → Result (Tree × SoFar) Stop → Result Begun Stop
in_heap h r = and_then r (λ b. Ok (begun_of b.0 b.1 h))

begins_by : (f : Files) (w : Words) (l : Locals) (a : Value) (h : Objects) (s : SoFar) (r : Result (Tree × SoFar) Stop) → arguments no_objects w.arguments ≡ Ok (a, h) → s ≡ unread f.top l a
    → first f (with_further w.scripts s) (first_of f w.scripts) ≡ r → begins f w l ≡ in_heap h r
begins_by f w l a h s r words is script =
    ap (λ (made : Result (Value × Objects) Refusal). and_then (told_by of_refusal made) (λ m. begun_in f w.scripts (unread f.top l m.0) m.1)) words
    ∙ ap (λ (t : SoFar). in_heap h (first f (with_further w.scripts t) (first_of f w.scripts))) (sym is)
    ∙ ap (in_heap h) script

module _ (f : Files) (w : Words) (top : List ℕ) (l : Locals) (a : Value) (h : Objects) (s : SoFar) (at : top ≡ f.top) (new : AreFirst top l) (words : arguments no_objects w.arguments ≡ Ok (a, h)) (is : s ≡ unread top l a) where
  abbrev script_first : Result (Tree × SoFar) Stop
  script_first = first f (with_further w.scripts s) (first_of f w.scripts)

  by : (r : Result (Tree × SoFar) Stop) → script_first ≡ r → begins f w l ≡ in_heap h r
  by r script = begins_by f w l a h s r words (is ∙ ap (λ p. unread p l a) at) script

  pub begins_so : (t : SoFar) (r : Result Script Stop) → IfOk r (λ x. script_first ≡ Ok (script_tree x, t)) → IfOk r (λ x. Begins f w (begun_of (script_tree x) t h))
  begins_so t (Ok x) script = (l, subst (λ p. AreFirst p l) at new, by (Ok (script_tree x, t)) script)
  begins_so t (Err e) script = tt

  pub begins_not : (r : Result Script Stop) → IfErr r (λ e. IsTold e → script_first ≡ Err (untold_stop e)) → IfErr r (λ e. IsTold e → BeginsNot f w (untold_stop e))
  begins_not (Ok x) script = tt
  begins_not (Err e) script = λ t. no_script l (subst (λ p. AreFirst p l) at new) (by (Err (untold_stop e)) (script t))

-- the state beside its first script
pub joined_so : (f : Files) (w : Words) (h : Objects) (r : Result (State × Script) Stop) (state : State) (script : Result Script Stop) → IfOk r (λ b. (b.0 ≡ state) × (script ≡ Ok b.1))
    → IfOk script (λ x. Begins f w (begun_of (script_tree x) (so_far state) h)) → IfOk r (λ b. Begins f w (begun_by b.1 b.0 h))
joined_so f w h (Ok b) state script is begins =
    subst (λ (x : State). Begins f w (begun_of (script_tree b.1) (so_far x) h)) (sym is.0)
    (subst (λ (x : Result Script Stop). IfOk x (λ t. Begins f w (begun_of (script_tree t) (so_far state) h))) is.1 begins)
joined_so f w h (Err e) state script is begins = tt

pub joined_not : (f : Files) (w : Words) (r : Result (State × Script) Stop) (script : Result Script Stop) → IfErr r (λ s. script ≡ Err s)
    → IfErr script (λ s. IsTold s → BeginsNot f w (untold_stop s)) → IfErr r (λ s. IsTold s → BeginsNot f w (untold_stop s))
joined_not f w (Ok b) script is not = tt
joined_not f w (Err e) script is not = subst (λ (x : Result Script Stop). IfErr x (λ s. IsTold s → BeginsNot f w (untold_stop s))) is not

-- a word that is refused
same_told : (r : Refusal) → untold_stop (of_refusal r) ≡ of_refusal r
same_told (refusal.Kind kind) = refl
same_told refusal.Memory = refl

pub word_refused : (f : Files) (w : Words) (r : Refusal) (s : Stop) → s ≡ of_refusal r → (r ≢ refusal.Memory → arguments no_objects w.arguments ≡ Err r) → IsTold s → BeginsNot f w (untold_stop s)
word_refused f w (refusal.Kind kind) s is gives told = bad_word (gives (λ e. cc)) (ap untold_stop is ∙ same_told (refusal.Kind kind))
word_refused f w refusal.Memory s is gives told = absurd (subst IsTold is told)

-- a first script, by its path and what was read so far
pub first_so : (f : Files) (a b : SoFar) (p q : List ℕ) (r : Result Script Stop) (t : SoFar) → a ≡ b → p ≡ q → IfOk r (λ x. first f a p ≡ Ok (script_tree x, t)) → IfOk r (λ x. first f b q ≡ Ok (script_tree x, t))
first_so f a b p q r t same at is =
    subst (λ (s : SoFar). IfOk r (λ x. first f s q ≡ Ok (script_tree x, t))) same
    (subst (λ (path : List ℕ). IfOk r (λ x. first f a path ≡ Ok (script_tree x, t))) at is)

pub first_not : (f : Files) (a b : SoFar) (p q : List ℕ) (r : Result Script Stop) → a ≡ b → p ≡ q → IfErr r (λ e. IsTold e → first f a p ≡ Err (untold_stop e)) → IfErr r (λ e. IsTold e → first f b q ≡ Err (untold_stop e))
first_not f a b p q r same at is =
    subst (λ (s : SoFar). IfErr r (λ e. IsTold e → first f s q ≡ Err (untold_stop e))) same
    (subst (λ (path : List ℕ). IfErr r (λ e. IsTold e → first f a path ≡ Err (untold_stop e))) at is)
